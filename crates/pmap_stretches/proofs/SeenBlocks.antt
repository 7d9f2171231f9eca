-- The mapping that is seen at a block.
use Rattle.std.specs.Option.{option_map_or}
use Rattle.std.proofs.Common.{◌≡◌, ℕ, ◌+◌, ◌-◌, ◌^◌, ◌<◌, ◌≤◌, inl, inr, Bool, true, false, cond, nat_le, pow_pos, List, Option, Some, None, Contains, refl, sym, ap, ◌∙◌, subst, arith}
use Rattle.std.proofs.lemmas.Bool.{cases_lt, leb-false, leb-true}
use Rattle.std.proofs.lemmas.List.Elements.{All-contains}
use Rattle.std.proofs.lemmas.Option.{same_Some}
use Rattle.prefix_keys.specs.Block.{first_of, last_of, width_of}
use Rattle.pmap_model.specs.MapModel.{Label, Mapping, MapModel, last_such, meets, settled_by, settled_label, spans, spans_all}
use Rattle.pmap_model.specs.MapText.{mapping_of, mappings_of}
use Rattle.pmap_model.specs.declared.statement.Statement.{Statement}
use Rattle.pmap_stretches.specs.Stretches.{HaveAddresses, IsStretch}
use Rattle.pmap_model.proofs.Blocks.{first_of-full, last_of-full}
use Rattle.pmap_model.proofs.Finds.{Contains-from_map}
use Rattle.pmap_model.proofs.LastSuch.{last_such-none, last_such-some}
use Rattle.pmap_stretches.proofs.Seen.{last_such-is}
use Rattle.pmap_stretches.proofs.Orders.{both_le, le_both, meets_around, spans_within}

-- the same mapping is seen at each address of the block
pub record IsSeenAll (W n q : ℕ) (ms : List Mapping) (o : Option Mapping) : Type 0 where
  pub some : first_of W n q ≤ last_of W n q
  pub same : (a : ℕ) → first_of W n q ≤ a → a ≤ last_of W n q → last_such (spans a) ms ≡ o

-- then it is the last mapping that meets the block, and it covers the block
pub record IsWhole (W n q : ℕ) (ms : List Mapping) (o : Option Mapping) : Type 0 where
  pub is : last_such (meets W n q) ms ≡ o
  pub covers : (m : Mapping) → o ≡ Some m → spans_all W n q m ≡ true

-- a mapping that meets the block covers an address of it
pub met_address : (W n q : ℕ) (m : Mapping) → m.low ≤ m.high → first_of W n q ≤ last_of W n q → meets W n q m ≡ true
    → (a : ℕ) × (first_of W n q ≤ a) × (a ≤ last_of W n q) × (spans a m ≡ true)
met_address W n q m ordered some met =
    let ends = both_le m.low (last_of W n q) (first_of W n q) m.high met in
    elim (cases_lt (first_of W n q) m.low) [
      | inl less ↦ (m.low, omega (arith, less), ends.0, le_both m.low m.low m.low m.high (omega arith) ordered)
      | inr more ↦ (first_of W n q, omega arith, some, le_both m.low (first_of W n q) (first_of W n q) m.high more ends.1)
    ]

whole-step : (W n q : ℕ) (ms : List Mapping) (o : Option Mapping) → ((m : Mapping) → Contains ms m → m.low ≤ m.high) → IsSeenAll W n q ms o
    → (last : Option Mapping) → last_such (meets W n q) ms ≡ last → IsWhole W n q ms o
whole-step W n q ms o ordered seen None is =
    let first = first_of W n q in
    let none : o ≡ None = sym (seen.same first (omega arith) seen.some)
    ∙ last_such-none (meets W n q) (spans first) (meets_around W n q first (omega arith) seen.some) ms is in
    record { is = is ∙ sym none; covers = λ m e. absurd (let h : None ≡ Some m = sym none ∙ e in cc) }
whole-step W n q ms o ordered seen (Some t) is =
    let found = last_such-is (meets W n q) ms t is in
    let at = met_address W n q t (ordered t found.0) seen.some found.1 in
    let o_is : o ≡ Some t = sym (seen.same at.0 at.1 at.2)
    ∙ last_such-some (meets W n q) (spans at.0) (meets_around W n q at.0 at.1 at.2) ms t is at.3 in
    let low = last_such-is (spans (first_of W n q)) ms t (seen.same (first_of W n q) (omega arith) seen.some ∙ o_is) in
    let high = last_such-is (spans (last_of W n q)) ms t (seen.same (last_of W n q) seen.some (omega arith) ∙ o_is) in
    let from = both_le t.low (first_of W n q) (first_of W n q) t.high low.1 in
    let to = both_le t.low (last_of W n q) (last_of W n q) t.high high.1 in
    let covers : spans_all W n q t ≡ true = le_both t.low (first_of W n q) (last_of W n q) t.high from.0 to.1 in
    record {
      is = is ∙ sym o_is;
      covers = λ m e. subst (λ (r : Mapping). spans_all W n q r ≡ true)
          (same_Some t m (sym o_is ∙ e)) covers;
    }

-- this is so at a block of one address
pub address_whole : (W a : ℕ) (ms : List Mapping) → ((m : Mapping) → Contains ms m → m.low ≤ m.high) → IsWhole W W a ms (last_such (spans a) ms)
address_whole W a ms ordered =
    let from = first_of-full W a in
    let to = last_of-full W a in
    whole-step W W a ms (last_such (spans a) ms) ordered
    (record {
      some = omega (arith, from, to);
      same = λ b low high. let same : b ≡ a = omega (arith, low, high, from, to) in ap (λ (i : ℕ). last_such (spans i) ms) same;
    })
    (last_such (meets W W a) ms) refl

-- statements have addresses
pub ordered_of : (table : List (List ℕ)) (ss : List Statement) (m : Mapping) → Contains (mappings_of table ss) m → m.low ≤ m.high
ordered_of table ss m has =
    let from = Contains-from_map (mapping_of table) ss m has in
    let s = from.0 in
    let low : s.span.low.value ≡ m.low = ap (λ (r : Mapping). r.low) from.2 in
    let high : s.span.high.value ≡ m.high = ap (λ (r : Mapping). r.high) from.2 in
    omega (arith, low, high, s.span.ordered)

-- a block within a stretch
pub stretch_whole : (m : MapModel) (n q first last : ℕ) (top : Option Mapping) → ((s : Mapping) → Contains m.mappings s → s.low ≤ s.high)
    → IsStretch m first last top → first_of (width_of m.version) n q ≤ last_of (width_of m.version) n q
    → first ≤ first_of (width_of m.version) n q → last_of (width_of m.version) n q ≤ last
    → IsWhole (width_of m.version) n q m.mappings top
stretch_whole m n q first last top ordered stretch some from to =
    let W = width_of m.version in
    let seen : IsSeenAll W n q m.mappings top =
    record { some = some; same = λ a low high. stretch.same a (omega (arith, from, low)) (omega (arith, to, high)) } in
    whole-step W n q m.mappings top ordered seen (last_such (meets W n q) m.mappings) refl

-- a block in which different mappings are seen at two addresses is not settled
split-step : (W n q a b : ℕ) (x : Label) (ms : List Mapping) → first_of W n q ≤ a → a ≤ last_of W n q → first_of W n q ≤ b → b ≤ last_of W n q
    → (last_such (spans b) ms ≡ last_such (spans a) ms → ⊥)
    → (last : Option Mapping) → last_such (meets W n q) ms ≡ last → (c : Bool) → ((m : Mapping) → last ≡ Some m → spans_all W n q m ≡ c)
    → settled_by W n q x last ≡ None
split-step W n q a b x ms low high low' high' apart None is c covers =
    absurd (apart (last_such-none (meets W n q) (spans b) (meets_around W n q b low' high') ms is
    ∙ sym (last_such-none (meets W n q) (spans a) (meets_around W n q a low high) ms is)))
split-step W n q a b x ms low high low' high' apart (Some m) is true covers =
    let all = covers m refl in
    absurd (apart (last_such-some (meets W n q) (spans b) (meets_around W n q b low' high') ms m is (spans_within W n q b low' high' m all)
    ∙ sym (last_such-some (meets W n q) (spans a) (meets_around W n q a low high) ms m is (spans_within W n q a low high m all))))
split-step W n q a b x ms low high low' high' apart (Some m) is false covers = let part = covers m refl in rw part

-- whether a mapping, if there is one, covers the block
all_of : ℕ → ℕ → ℕ → Option Mapping → Bool
all_of W n q None = true
all_of W n q (Some m) = spans_all W n q m

all_is : (W n q : ℕ) (last : Option Mapping) (m : Mapping) → last ≡ Some m → spans_all W n q m ≡ all_of W n q last
unfolding all_of
all_is W n q None m e = absurd (let h : None ≡ Some m = e in cc)
all_is W n q (Some r) m e = ap (spans_all W n q) (sym (same_Some r m e))

-- neither is one that extends beyond a stretch
pub stretch_split : (m : MapModel) (n q first last : ℕ) (top : Option Mapping) → IsStretch m first last top
    → first ≤ first_of (width_of m.version) n q → first_of (width_of m.version) n q ≤ last → last < last_of (width_of m.version) n q
    → last_of (width_of m.version) n q < 2 ^ width_of m.version → settled_label m n q ≡ None
stretch_split m n q first last top stretch from to more fits =
    let W = width_of m.version in
    let ms = m.mappings in
    let o = last_such (meets W n q) ms in
    split-step W n q last (last + 1) m.fallback ms to (omega (arith, more)) (omega (arith, to)) (omega (arith, more))
    (λ same. stretch.after (omega (arith, more, fits)) (same ∙ stretch.same last stretch.ordered (omega arith)))
    o refl (all_of W n q o) (all_is W n q o)

-- so a block is settled if one stretch contains it
settled_whole : (m : MapModel) (n q : ℕ) (top : Option Mapping) → IsWhole (width_of m.version) n q m.mappings top
    → settled_label m n q ≡ Some (option_map_or (λ (p : Mapping). p.label) top m.fallback)
settled_whole m n q None whole = rw whole.is refl
settled_whole m n q (Some s) whole = let covers = whole.covers s refl in rw (whole.is, covers) refl

pub settled_stretch : (m : MapModel) (n q first last : ℕ) (top : Option Mapping) → HaveAddresses m.mappings → IsStretch m first last top
    → first ≤ first_of (width_of m.version) n q → first_of (width_of m.version) n q ≤ last
    → last_of (width_of m.version) n q < 2 ^ width_of m.version
    → settled_label m n q ≡ cond (nat_le (last_of (width_of m.version) n q) last) (Some (option_map_or (λ (p : Mapping). p.label) top m.fallback)) None
settled_stretch m n q first last top ordered stretch from here fits = by (nat_le (last_of (width_of m.version) n q) last) refl
  where
    by : (b : Bool) → nat_le (last_of (width_of m.version) n q) last ≡ b → settled_label m n q ≡ cond b (Some (option_map_or (λ (p : Mapping). p.label) top m.fallback)) None
    by true e =
        settled_whole m n q top (stretch_whole m n q first last top
        (λ s has. All-contains (λ (r : Mapping). r.low ≤ r.high) m.mappings s ordered has) stretch
        (omega (arith, pow_pos (width_of m.version - n))) from (leb-true (last_of (width_of m.version) n q) last e))
    by false e = stretch_split m n q first last top stretch from here (leb-false (last_of (width_of m.version) n q) last e) fits
