-- A spine leads to the smallest block with the addresses that aren't in an outer stretch with the side label.
use Rattle.std.proofs.Common.{◌≡◌, ℕ, zero, suc, ◌+◌, ◌-◌, ◌*◌, ◌/◌, ◌^◌, ◌<◌, ◌≤◌, inl, inr, ◌∙◌, Bool, true, false, Some, max, min, refl, sym, ap, subst, arith, pow_pos}
use Rattle.std.specs.Prelude.{◌⊎◌, bit_xor}
use Rattle.std.specs.Int.{from_bool}
use Rattle.std.specs.Int.Bits.{xor_add_and, xor_self}
use Rattle.std.specs.Int.Count.{count_leading_zeros}
use Rattle.std.proofs.Math.Nat.{div-eq_of_lt, mul-le-mul_right, pow-suc}
use Rattle.std.proofs.Math.Pow.{pow_mono}
use Rattle.std.proofs.lemmas.Bool.{cases_lt}
use Rattle.std.proofs.lemmas.Nat.{and_le_l, and_le_r, leading_length, pow-add, shr-shr, xor_shr}
use Rattle.prefix_keys.specs.Block.{block_number, first_of, last_of, width_of}
use Rattle.prefix_keys.specs.declared.block.Block.{Block}
use Rattle.prefix_keys.specs.declared.version.Version.{Version}
use Rattle.prefix_keys.proofs.Quotients.{above_first, below_end, half_split, quotient_is}
use Rattle.pmap_stretches.specs.Stretches.{HasEveryAddress, HoldsAddress, StretchesModel, first_at, last_at}
use Rattle.pmap_stretches.proofs.Ranges.{ends_before, held_order, next_first, ordered_at}
use Rattle.pmap_stretches.specs.Windows.{IsBlock, window_number}
use Rattle.pmap_stretches.specs.declared.stretches.window.Window.{Window}
use Rattle.pmap_stretches.proofs.Windows.{are_halves, divided_window, first_number, one_index}
use Rattle.pmap_minimise.specs.Spines.{AreCountedHalves, HasLabel, IsCounted, AreSteps, IsSpineTo, IsStop, own_label}
use Rattle.prefix_keys.proofs.Groups.{width-le}
use Rattle.pmap_minimise.proofs.MadeNodes.{block-order, counted-halves, own-is, own-single, same-window, spine-below}

-- How many first bits two numbers share, by their exclusive or.

same-zero : (p q : ℕ) → bit_xor p q ≡ 0 → p ≡ q
same-zero p q none = omega (arith, none, xor_add_and p q, and_le_l p q, and_le_r p q)

shared : (x y h : ℕ) → bit_xor x y < 2 ^ h → x / 2 ^ h ≡ y / 2 ^ h
shared x y h less = same-zero (x / 2 ^ h) (y / 2 ^ h) (sym (xor_shr x y h) ∙ div-eq_of_lt less)

shared-less : (x y h : ℕ) → x / 2 ^ h ≡ y / 2 ^ h → bit_xor x y < 2 ^ h
shared-less x y h same =
    let none : bit_xor x y / 2 ^ h ≡ 0 = xor_shr x y h ∙ ap (λ (n : ℕ). bit_xor n (y / 2 ^ h)) same ∙ xor_self (y / 2 ^ h) in
    let less = below_end (bit_xor x y) (2 ^ h) 0 (pow_pos h) none in
    omega arith

-- x and y share all bits but the last `host`, and no more
pub record IsShared (x y most host : ℕ) : Type 0 where
  pub few : host ≤ most
  pub same : x / 2 ^ host ≡ y / 2 ^ host
  pub other : (h : ℕ) → suc h ≡ host → x / 2 ^ h ≡ y / 2 ^ h → ⊥

pub is-shared : (x y most : ℕ) → most ≤ 128 → x / 2 ^ most ≡ y / 2 ^ most → IsShared x y most (128 - count_leading_zeros 128 (bit_xor x y))
is-shared x y most inside near =
    let less = shared-less x y most near in
    let all : 2 ^ most ≤ 2 ^ 128 = pow_mono inside in
    let length = leading_length 128 (bit_xor x y) (omega arith) in
    let sum = length.1 in
    let host : length.0 ≡ 128 - count_leading_zeros 128 (bit_xor x y) = omega arith in
    subst (IsShared x y most) host (record {
      few = elim (cases_lt most length.0) [
        | inl more ↦
            let large : 2 ^ suc most ≤ 2 ^ length.0 = pow_mono (omega arith) in
            let twice : 2 ^ suc most ≡ 2 * 2 ^ most = pow-suc 2 most ∙ omega arith in
            let above = length.3 in
            absurd (omega arith)
        | inr few ↦ few
      ];
      same = shared x y length.0 length.2;
      other = λ h next same.
          let small = shared-less x y h same in
          let twice : 2 ^ length.0 ≡ 2 * 2 ^ h = ap (λ (k : ℕ). 2 ^ k) (sym next) ∙ pow-suc 2 h ∙ omega arith in
          let above = length.3 in
          absurd (omega arith);
    })

-- the number of the block that has the address x
in-block : (W first last n q x : ℕ) → IsBlock W first last n q → first ≤ x → x ≤ last → x / 2 ^ (W - n) ≡ q
in-block W first last n q x is from to =
    let some = pow_pos (W - n) in
    let first_is = is.first_is in
    let last_is = is.last_is in
    quotient_is x (2 ^ (W - n)) q some (omega arith) (omega arith)

-- a block with addresses of two stretches has halves
pub record HasHalves (s : StretchesModel) (a : Window) : Type 0 where
  pub low : Window
  pub high : Window
  pub counted : AreCountedHalves s a low high

has-halves : (s : StretchesModel) (a : Window) → IsCounted s a → a.from < a.to → HasHalves s a
has-halves s a is divided =
    let halves = divided_window s is.few.stretches.every a is.window (λ same. absurd (omega arith)) in
    record { low = halves.0; high = halves.1; counted = counted-halves s a is divided halves.0 halves.1 halves.2 }

-- The addresses of a block before x are all in its first stretch, and those after y in its last one. If there are any,
-- that stretch has the side label. The stretches i and j, which have x and y, don't have it.
pub record IsInside (s : StretchesModel) (side : ℕ) (a : Window) (x y i j : ℕ) : Type 0 where
  pub ordered : x ≤ y
  pub from : a.first ≤ x
  pub to : y ≤ a.last
  pub low : HoldsAddress s x i
  pub high : HoldsAddress s y j
  pub low_other : HasLabel s side i → ⊥
  pub high_other : HasLabel s side j → ⊥
  pub left : (p : ℕ) → a.first ≤ p → p < x → HoldsAddress s p a.from × HasLabel s side a.from
  pub right : (p : ℕ) → y < p → p ≤ a.last → HoldsAddress s p a.to × HasLabel s side a.to

-- the block has the addresses from x to y, and these stretches are at its ends
pub record IsAround (s : StretchesModel) (x y : ℕ) (b : Window) : Type 0 where
  pub within : b.len ≤ width_of s.version
  pub block : IsBlock (width_of s.version) b.first b.last b.len (window_number s b)
  pub from : b.first ≤ x
  pub to : y ≤ b.last
  pub start : HoldsAddress s b.first b.from
  pub end : HoldsAddress s b.last b.to

module _ (s : StretchesModel) (side : ℕ) (a : Window) (is : IsCounted s a) (x y i j : ℕ) (inside : IsInside s side a x y i j) where
  abbrev W : ℕ
  W = width_of s.version

  every : HasEveryAddress s
  every = is.few.stretches.every

  -- a block whose ends are in one stretch with the side label has that label alone
  own-side : (h : Window) → IsCounted s h → (k : ℕ) → HoldsAddress s h.first k → HoldsAddress s h.last k → HasLabel s side k → own_label s h ≡ Some side
  own-side h is k first last has =
      let from : h.from ≡ k = one_index s every h.first h.from k is.window.start first in
      let to : h.to ≡ k = one_index s every h.last h.to k is.window.end last in
      own-is s h (from ∙ sym to) ∙ subst (HasLabel s side) (sym from) has

  -- a block with an address of a stretch without the side label doesn't have that label alone
  own-other : (h : Window) → IsCounted s h → (p k : ℕ) → h.first ≤ p → p ≤ h.last → HoldsAddress s p k → (HasLabel s side k → ⊥) → own_label s h ≡ Some side → ⊥
  own-other h is p k low high holds other own =
      let single = own-single s h side is.window.ordered own in
      let from = held_order s every h.first p h.from k is.window.start holds low in
      let to = held_order s every p h.last k h.to holds is.window.end high in
      let same : h.from ≡ k = omega arith in
      other (subst (HasLabel s side) same (sym (own-is s h single) ∙ own))

  module _ (b : Window) (around : IsAround s x y b) where
    abbrev middle_of : Window → ℕ
    middle_of c = c.first + (c.last - c.first) / 2

    -- a larger block than b has both addresses in the same half
    in-half : (c : Window) (count : ℕ) → IsCounted s c → c.first ≤ x → y ≤ c.last → b.len ≡ c.len + suc count → (y ≤ middle_of c) ⊎ (middle_of c < x)
    in-half c count is_c from to len =
        let within = around.within in
        let halves = are_halves W c.len (window_number s c) c.first c.last (omega arith) is_c.window.block in
        let ordered = inside.ordered in
        let up : W - (c.len + 1) ≡ W - b.len + count = omega arith in
        let at : x / 2 ^ (W - b.len) ≡ y / 2 ^ (W - b.len) =
        in-block W b.first b.last b.len (window_number s b) x around.block around.from (let le = around.to in omega arith)
        ∙ sym (in-block W b.first b.last b.len (window_number s b) y around.block (let le = around.from in omega arith) around.to) in
        let same : x / 2 ^ (W - (c.len + 1)) ≡ y / 2 ^ (W - (c.len + 1)) =
        ap (λ (n : ℕ). x / 2 ^ n) up ∙ sym (shr-shr x (W - b.len) count) ∙ ap (λ (n : ℕ). n / 2 ^ count) at ∙ shr-shr y (W - b.len) count ∙ ap (λ (n : ℕ). y / 2 ^ n) (sym up) in
        elim (cases_lt (middle_of c) x) [
          | inl above ↦ inr above
          | inr most ↦
              elim (cases_lt (middle_of c) y) [
                | inl above ↦
                    let low = in-block W c.first (middle_of c) (c.len + 1) _ x halves.low from most in
                    let high = in-block W (middle_of c + 1) c.last (c.len + 1) _ y halves.high (omega arith) to in
                    let low_number = halves.low_number in
                    let high_number = halves.high_number in
                    absurd (omega arith)
                | inr most' ↦ inl most'
              ]
        ]

    -- the spine leads from each block around b to b
    spine-to : (count : ℕ) (c : Window) → IsCounted s c → a.first ≤ c.first → c.last ≤ a.last → c.first ≤ x → y ≤ c.last → b.len ≡ c.len + count → AreSteps s side count c b
    spine-to zero c is_c first last from to len =
        let same : b.len ≡ c.len = omega arith in
        let ordered = inside.ordered in
        let low = around.from in
        let high = around.to in
        let number : window_number s b ≡ window_number s c =
        sym (in-block W b.first b.last b.len (window_number s b) x around.block low (omega arith)) ∙ ap (λ (n : ℕ). x / 2 ^ (W - n)) same
        ∙ in-block W c.first c.last c.len (window_number s c) x is_c.window.block from (omega arith) in
        let first_is : b.first ≡ c.first = around.block.first_is ∙ (λ i. number i * 2 ^ (W - same i)) ∙ sym is_c.window.block.first_is in
        let last_is : b.last ≡ c.last = around.block.last_is ∙ (λ i. (number i + 1) * 2 ^ (W - same i) - 1) ∙ sym is_c.window.block.last_is in
        same-window b c first_is last_is same
        (one_index s every c.first b.from c.from (subst (λ (p : ℕ). HoldsAddress s p b.from) first_is around.start) is_c.window.start)
        (one_index s every c.last b.to c.to (subst (λ (p : ℕ). HoldsAddress s p b.to) last_is around.end) is_c.window.end)
    spine-to (suc count) c is_c first last from to len = by (spine-to count) (in-half c count is_c from to len)
      where
        ends : c.first < c.last
        ends =
            let within = around.within in
            let half = half_split W c.len (omega arith) in
            let some = pow_pos (W - (c.len + 1)) in
            let first_is = is_c.window.block.first_is in
            let last_is = is_c.window.block.last_is in
            omega arith

        divided : (p k : ℕ) → c.first ≤ p → p ≤ c.last → HoldsAddress s p k → HasLabel s side k → c.from < c.to
        divided p k low high holds has =
            elim (cases_lt c.from c.to) [
              | inl less ↦ less
              | inr most ↦
                  let ordered = is_c.window.ordered in
                  let single : c.from ≡ c.to = omega arith in
                  let begin = held_order s every c.first p c.from k is_c.window.start holds low in
                  let end = held_order s every p c.last k c.to holds is_c.window.end high in
                  let same : c.from ≡ k = omega arith in
                  let between = inside.ordered in
                  absurd (own-other c is_c x i from (omega arith) inside.low inside.low_other (own-is s c single ∙ subst (HasLabel s side) (sym same) has))
            ]

        by : ((d : Window) → IsCounted s d → a.first ≤ d.first → d.last ≤ a.last → d.first ≤ x → y ≤ d.last → b.len ≡ d.len + count → AreSteps s side count d b)
            → (y ≤ middle_of c) ⊎ (middle_of c < x) → AreSteps s side (suc count) c b
        by go (inl low) =
            let some = ends in
            let out = inside.right c.last (omega arith) last in
            let halves = has-halves s c is_c (divided c.last a.to (omega arith) (omega arith) out.0 out.1) in
            let counted = halves.counted in
            let are = counted.halves in
            let low_first = are.low_first in
            let low_last = are.low_last in
            let high_first = are.high_first in
            let high_last = are.high_last in
            let len' = are.low_len in
            let between = inside.ordered in
            let begin = inside.right halves.high.first (omega arith) (omega arith) in (
              halves.low,
              record {
                low = halves.low;
                high = halves.high;
                halves = counted;
                choice = inr (
                  refl,
                  own-other halves.low counted.low_counted x i (omega arith) (omega arith) inside.low inside.low_other,
                  own-side halves.high counted.high_counted a.to begin.0 (subst (λ (p : ℕ). HoldsAddress s p a.to) (sym high_last) out.0) out.1,
                );
              },
              go halves.low counted.low_counted (omega arith) (omega arith) (omega arith) (omega arith) (omega arith),
            )
        by go (inr high) =
            let some = ends in
            let out = inside.left c.first first (omega arith) in
            let halves = has-halves s c is_c (divided c.first a.from (omega arith) (omega arith) out.0 out.1) in
            let counted = halves.counted in
            let are = counted.halves in
            let low_first = are.low_first in
            let low_last = are.low_last in
            let high_first = are.high_first in
            let high_last = are.high_last in
            let len' = are.high_len in
            let end = inside.left halves.low.last (omega arith) (omega arith) in (
              halves.high,
              record {
                low = halves.low;
                high = halves.high;
                halves = counted;
                choice = inl (refl, own-side halves.low counted.low_counted a.from (subst (λ (p : ℕ). HoldsAddress s p a.from) (sym low_first) out.0) end.0 out.1);
              },
              go halves.high counted.high_counted (omega arith) (omega arith) (omega arith) (omega arith) (omega arith),
            )

    -- if no smaller block than b has both addresses, the spine ends at b
    module _ (apart : (h : ℕ) → suc h ≡ W - b.len → x / 2 ^ h ≡ y / 2 ^ h → ⊥) where
      stops : IsCounted s b → IsStop s side b
      stops is_b =
          elim (cases_lt b.from b.to) [
            | inr most ↦ let ordered = is_b.window.ordered in inl (omega arith)
            | inl less ↦
                let halves = has-halves s b is_b less in
                let counted = halves.counted in
                let are = counted.halves in
                let low = around.from in
                let high = around.to in
                let ordered = inside.ordered in
                let first = are.low_first in
                let low_last = are.low_last in
                let high_first = are.high_first in
                let last = are.high_last in
                let low_len = are.low_len in
                let high_len = are.high_len in
                let deep = counted.low_counted.window.within in
                let next : suc (W - halves.low.len) ≡ W - b.len = omega arith in
                let level : W - halves.high.len ≡ W - halves.low.len = omega arith in
                let below : x ≤ halves.low.last = elim (cases_lt halves.low.last x) [
                  | inr most ↦ most
                  | inl above ↦
                      let same = in-block W halves.high.first halves.high.last halves.high.len _ x counted.high_counted.window.block (omega arith) (omega arith)
                      ∙ sym (in-block W halves.high.first halves.high.last halves.high.len _ y counted.high_counted.window.block (omega arith) (omega arith)) in
                      absurd (apart (W - halves.low.len) next (subst (λ (n : ℕ). x / 2 ^ n ≡ y / 2 ^ n) level same))
                ] in
                let above : halves.high.first ≤ y = elim (cases_lt y halves.high.first) [
                  | inr most ↦ most
                  | inl below ↦
                      let same = in-block W halves.low.first halves.low.last halves.low.len _ x counted.low_counted.window.block (omega arith) (omega arith)
                      ∙ sym (in-block W halves.low.first halves.low.last halves.low.len _ y counted.low_counted.window.block (omega arith) (omega arith)) in
                      absurd (apart (W - halves.low.len) next same)
                ] in
                inr (record {
                  low = halves.low;
                  high = halves.high;
                  halves = counted;
                  low_other = own-other halves.low counted.low_counted x i (omega arith) below inside.low inside.low_other;
                  high_other = own-other halves.high counted.high_counted y j above (omega arith) inside.high inside.high_other;
                })
          ]

      -- the spine of the block a ends at b
      pub spine-end : a.len ≤ b.len → IsSpineTo s side a b
      spine-end deep =
          let steps = spine-to (b.len - a.len) a is (omega arith) (omega arith) inside.from inside.to (omega arith) in
          let below = spine-below s side (b.len - a.len) a b is steps in
          record { count = b.len - a.len; steps = steps; stop = stops below.counted; counted = below.counted; len = below.len }

-- of two blocks with a common address the smaller one is in the larger one
nested : (x host more : ℕ) → (x / 2 ^ (host + more) * 2 ^ (host + more) ≤ x / 2 ^ host * 2 ^ host) × ((x / 2 ^ host + 1) * 2 ^ host ≤ (x / 2 ^ (host + more) + 1) * 2 ^ (host + more))
nested x host more = by (x / 2 ^ host) (x / 2 ^ (host + more)) (2 ^ host) (2 ^ more) (2 ^ (host + more)) (pow_pos more) (shr-shr x host more) (pow-add 2 host more)
  where
    by : (q outer size times all : ℕ) → 0 < times → q / times ≡ outer → all ≡ size * times → (outer * all ≤ q * size) × ((q + 1) * size ≤ (outer + 1) * all)
    by q outer size times all some is product =
        let low = mul-le-mul_right size (above_first q times outer some is) in
        let next : q + 1 ≤ (outer + 1) * times = let below = below_end q times outer some is in omega arith in
        let high = mul-le-mul_right size next in
        let swap : all ≡ times * size = omega arith in
        (rw swap (omega (arith, low)), rw swap (omega (arith, high)))

-- the stretch at an end of the smallest block: the address's own if the end is that address, otherwise the outer one
abbrev IsEndIn : ℕ → ℕ → ℕ → ℕ → ℕ → Type 0
IsEndIn end address index own outer = ((end ≡ address) × (index ≡ own)) ⊎ ((end ≡ address → ⊥) × (index ≡ outer))

module _ (s : StretchesModel) (side : ℕ) (a : Window) (is : IsCounted s a) (x y i j host : ℕ) (inside : IsInside s side a x y i j) where
  abbrev width : ℕ
  width = width_of s.version

  pub near : x / 2 ^ (width - a.len) ≡ y / 2 ^ (width - a.len)
  near =
      let ordered = inside.ordered in
      let from = inside.from in
      let to = inside.to in
      in-block width a.first a.last a.len _ x is.window.block from (omega arith) ∙ sym (in-block width a.first a.last a.len _ y is.window.block (omega arith) to)

  pub direct-end : IsShared x y (width - a.len) host → (b : Window) → b.len ≡ width - host → b.first ≡ first_of width b.len (block_number width b.len x)
      → b.last ≡ last_of width b.len (block_number width b.len x) → IsEndIn b.first x b.from i a.from → IsEndIn b.last y b.to j a.to → IsSpineTo s side a b
  direct-end shared b len first last start end =
      let few = shared.few in
      let within = is.window.within in
      let level : width - b.len ≡ host = omega arith in
      let P : ℕ = 2 ^ host in
      let first' : b.first ≡ x / P * P = first ∙ (λ k. x / 2 ^ level k * 2 ^ level k) in
      let last' : b.last ≡ (x / P + 1) * P - 1 = last ∙ (λ k. (x / 2 ^ level k + 1) * 2 ^ level k - 1) in
      let number : window_number s b ≡ block_number width b.len x = first_number width b.len _ b.first first in
      let low = above_first x P _ (pow_pos host) refl in
      let high = below_end y P _ (pow_pos host) (sym shared.same) in
      let more : ℕ = width - a.len - host in
      let all : width - a.len ≡ host + more = omega arith in
      let nest = nested x host more in
      let outer : x / 2 ^ (host + more) ≡ window_number s a =
      ap (λ (n : ℕ). x / 2 ^ n) (sym all) ∙ in-block width a.first a.last a.len _ x is.window.block inside.from (let up = inside.to in let ordered = inside.ordered in omega arith) in
      let begun : a.first ≤ b.first = let e = is.window.block.first_is ∙ (λ k. sym outer k * 2 ^ all k) in omega (arith, nest.0) in
      let ended : b.last ≤ a.last = let e = is.window.block.last_is ∙ (λ k. (sym outer k + 1) * 2 ^ all k - 1) in omega (arith, nest.1) in
      spine-end s side a is x y i j inside b (record {
        within = omega arith;
        block = record { first_is = first ∙ ap (λ (q : ℕ). q * 2 ^ (width - b.len)) (sym number); last_is = last ∙ ap (λ (q : ℕ). (q + 1) * 2 ^ (width - b.len) - 1) (sym number) };
        from = omega arith;
        to = omega arith;
        start = elim start [
          | inl own ↦ subst (λ (p : ℕ). HoldsAddress s p b.from) (sym own.0) (subst (HoldsAddress s x) (sym own.1) inside.low)
          | inr other ↦ subst (HoldsAddress s b.first) (sym other.1) (inside.left b.first begun (let apart = other.0 in omega arith)).0
        ];
        end = elim end [
          | inl own ↦ subst (λ (p : ℕ). HoldsAddress s p b.to) (sym own.0) (subst (HoldsAddress s y) (sym own.1) inside.high)
          | inr other ↦ subst (HoldsAddress s b.last) (sym other.1) (inside.right b.last (let apart = other.0 in omega arith) ended).0
        ];
      }) (λ h next same. shared.other h (next ∙ level) same) (omega arith)

at-most : (b : Bool) → from_bool b ≤ 1
at-most true = omega arith
at-most false = omega arith

-- The addresses inside a block, by whether its first and its last stretch have the side label.
module _ (s : StretchesModel) (side : ℕ) (a : Window) (is : IsCounted s a) (divided : a.from < a.to) where
  all : HasEveryAddress s
  all = is.few.stretches.every

  record IsFront (x i : ℕ) : Type 0 where
    pub from : a.first ≤ x
    pub to : x ≤ a.last
    pub holds : HoldsAddress s x i
    pub left : (p : ℕ) → a.first ≤ p → p < x → HoldsAddress s p a.from × HasLabel s side a.from

  front : (b : Bool) (i x : ℕ) → (b ≡ true → HasLabel s side a.from) → i ≡ a.from + from_bool b → x ≡ max a.first (first_at s i) → IsFront x i
  front false i x has index is_x =
      let start = is.window.start in
      let same : i ≡ a.from = omega arith in
      let begin : first_at s i ≡ first_at s a.from = ap (first_at s) same in
      let from = start.from in
      let first : x ≡ a.first = omega arith in
      let order = block-order s a is in
      record {
        from = omega arith;
        to = omega arith;
        holds = subst (λ (p : ℕ). HoldsAddress s p i) (sym first) (subst (HoldsAddress s a.first) (sym same) start);
        left = λ p low high. absurd (omega (arith, low, high, first));
      }
  front true i x has index is_x =
      let start = is.window.start in
      let next : i ≡ a.from + 1 = index in
      let inside = is.window.end.index in
      let after = ends_before s all a.from a.to divided inside in
      let begin : last_at s a.from + 1 ≡ first_at s i = sym (next_first s all a.from (omega arith)) ∙ ap (first_at s) (sym next) in
      let some = ordered_at s all i (omega arith) in
      let from = start.from in
      let to = start.to in
      let end = is.window.end.from in
      let first : x ≡ first_at s i = omega arith in
      record {
        from = omega arith;
        to = omega arith;
        holds = record { index = omega arith; from = omega arith; to = omega arith };
        left = λ p low high. (record { index = start.index; from = omega (arith, low, from); to = omega (arith, high, first, begin) }, has refl);
      }

  record IsBack (y j : ℕ) : Type 0 where
    pub from : a.first ≤ y
    pub to : y ≤ a.last
    pub holds : HoldsAddress s y j
    pub right : (p : ℕ) → y < p → p ≤ a.last → HoldsAddress s p a.to × HasLabel s side a.to

  back : (b : Bool) (j y : ℕ) → (b ≡ true → HasLabel s side a.to) → j ≡ a.to - from_bool b → y ≡ min a.last (last_at s j) → IsBack y j
  back false j y has index is_y =
      let end = is.window.end in
      let same : j ≡ a.to = omega arith in
      let finish : last_at s j ≡ last_at s a.to = ap (last_at s) same in
      let to = end.to in
      let last : y ≡ a.last = omega arith in
      let order = block-order s a is in
      record {
        from = omega arith;
        to = omega arith;
        holds = subst (λ (p : ℕ). HoldsAddress s p j) (sym last) (subst (HoldsAddress s a.last) (sym same) end);
        right = λ p low high. absurd (omega (arith, low, high, last));
      }
  back true j y has index is_y =
      let end = is.window.end in
      let next : j + 1 ≡ a.to = omega arith in
      let inside = end.index in
      let after = ends_before s all a.from a.to divided inside in
      let finish : last_at s j + 1 ≡ first_at s a.to = sym (next_first s all j (omega arith)) ∙ ap (first_at s) next in
      let some = ordered_at s all j (omega arith) in
      let from = end.from in
      let to = end.to in
      let start = is.window.start.to in
      let last : y ≡ last_at s j = omega arith in
      record {
        from = omega arith;
        to = omega arith;
        holds = record { index = omega arith; from = omega arith; to = omega arith };
        right = λ p low high. (record { index = end.index; from = omega (arith, low, last, finish); to = omega (arith, high, to) }, has refl);
      }

  pub is-inside : (b d : Bool) (x y i j : ℕ) → (b ≡ true → HasLabel s side a.from) → (d ≡ true → HasLabel s side a.to) → i ≡ a.from + from_bool b → j ≡ a.to - from_bool d
      → x ≡ max a.first (first_at s i) → y ≡ min a.last (last_at s j) → (HasLabel s side i → ⊥) → (HasLabel s side j → ⊥) → IsInside s side a x y i j
  is-inside b d x y i j first_has last_has index index' is_x is_y low_other high_other =
      let begin = front b i x first_has index is_x in
      let end = back d j y last_has index' is_y in
      record {
        ordered = elim (cases_lt i j) [
          | inl less ↦ let after = ends_before s all i j less end.holds.index in let low = begin.holds.to in let high = end.holds.from in omega arith
          | inr most ↦
              let same : i ≡ j = crossed b d last_has index index' most in
              let last : last_at s i ≡ last_at s j = ap (last_at s) same in
              let low = begin.holds.to in
              let to = begin.to in
              omega arith
        ];
        from = begin.from;
        to = end.to;
        low = begin.holds;
        high = end.holds;
        low_other = low_other;
        high_other = high_other;
        left = begin.left;
        right = end.right;
      }
    where
      crossed : (b d : Bool) → (d ≡ true → HasLabel s side a.to) → i ≡ a.from + from_bool b → j ≡ a.to - from_bool d → j ≤ i → i ≡ j
      crossed false d has index index' most = let few = at-most d in omega arith
      crossed true false has index index' most = omega arith
      crossed true true has index index' most =
          elim (cases_lt j i) [
            | inl less ↦ let last : a.to ≡ i = omega arith in absurd (low_other (subst (HasLabel s side) last (has refl)))
            | inr least ↦ omega arith
          ]

-- the first and the last address inside the block, and how many last bits they don't share
pub record IsTrimmed (s : StretchesModel) (side : ℕ) (a : Window) (x y i j : ℕ) : Type 0 where
  pub inside : IsInside s side a x y i j
  pub shared : IsShared x y (width_of s.version - a.len) (128 - count_leading_zeros 128 (bit_xor x y))

pub trimmed : (s : StretchesModel) (side : ℕ) (a : Window) (is : IsCounted s a) → a.from < a.to → (b d : Bool) (x y i j : ℕ)
    → (b ≡ true → HasLabel s side a.from) → (d ≡ true → HasLabel s side a.to) → i ≡ a.from + from_bool b → j ≡ a.to - from_bool d
    → x ≡ max a.first (first_at s i) → y ≡ min a.last (last_at s j) → (HasLabel s side i → ⊥) → (HasLabel s side j → ⊥) → IsTrimmed s side a x y i j
trimmed s side a is divided b d x y i j first last index index' is_x is_y low high =
    let inside = is-inside s side a is divided b d x y i j first last index index' is_x is_y low high in
    let most = width-le s.version in
    record { inside = inside; shared = is-shared x y (width_of s.version - a.len) (omega arith) (near s side a is x y i j 0 inside) }

-- the last address of a block of `len` bits with the address x
pub block-last : (v : Version) (block : Block) (len x last : ℕ) → block.version ≡ v → block.len ≡ len → block_number (width_of v) len block.value ≡ block_number (width_of v) len x
    → last ≡ last_of (width_of block.version) block.len (block_number (width_of block.version) block.len block.value) → last ≡ last_of (width_of v) len (block_number (width_of v) len x)
block-last v block len x last version same covering is =
    is ∙ (λ k. last_of (width_of (version k)) (same k) (block_number (width_of (version k)) (same k) block.value)) ∙ ap (last_of (width_of v) len) covering
