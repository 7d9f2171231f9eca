-- Blocks of addresses with the stretches at their ends, and a block's node of the certificate.
use Rattle.std.proofs.Common.{◌≡◌, ℕ, zero, suc, ◌+◌, ◌-◌, ◌*◌, ◌/◌, ◌^◌, ◌<◌, ◌≤◌, inl, inr, ◌∙◌, ◌==◌, List, [], ◌∷◌, Option, Some, None, nat_eq, option_map, refl, sym, ap, subst, arith}
use Rattle.std.proofs.lemmas.Bool.{cases_lt, cond-false, cond-true, eq-eqb, ne_eqb}
use Rattle.std.proofs.Math.Nat.{pow-suc}
use Rattle.std.proofs.lemmas.Nat.{pow_pos}
use Rattle.std.proofs.lemmas.Option.{none-some, same_Some}
use Rattle.std.specs.Option.{option_or}
use Rattle.prefix_keys.specs.Block.{width_of}
use Rattle.prefix_keys.proofs.Quotients.{above_first, below_end, quotient_is}
use Rattle.pmap_stretches.specs.Stretches.{AreStretches, HasEveryAddress, HoldsAddress, StretchesModel, label_at}
use Rattle.pmap_model.specs.declared.label.LabelId.{LabelId}
use Rattle.pmap_model.specs.declared.statement.Statement.{Statement}
use Rattle.pmap_cert.specs.CertificateText.{IsAscending}
use Rattle.pmap_cert.specs.CertificateModel.{ClaimOf, InnerNode, LeafNode, claim_of}
use Rattle.pmap_cert.specs.Compacting.{leaf_label, spine_bits, spine_end}
use Rattle.pmap_cert.specs.Node.{Node}
use Rattle.pmap_cert.specs.Inner.{side_below}
use Rattle.pmap_stretches.specs.Windows.{divisions, AreHalvesOf, IsWindow, window_number}
use Rattle.pmap_stretches.proofs.Settling.{Settles, window_divided, window_most, window_settled, window_unsettled}
use Rattle.pmap_stretches.specs.declared.stretches.window.Window.{Window}
use Rattle.pmap_stretches.proofs.Windows.{one_index, ordered_window}
use Rattle.pmap_minimise.specs.Spines.{AreCountedHalves, IsCounted, IsChoice, IsWindowNode, AreSteps, IsSpineTo, IsStepInto, IsStop, own_label}
use Rattle.pmap_cert.specs.Paths.{digit, path_to}
use Rattle.pmap_cert.specs.Opened.{claim_above, node_over, path_node}
use Rattle.pmap_minimise.specs.Numbers.{IsExact, IsMapNode, IsSound}
use Rattle.pmap_minimise.proofs.Joined.{joined-in, joined-sound, moved}
use Rattle.pmap_minimise.proofs.Texts.{exact-cost}
use Rattle.pmap_minimise.proofs.Paths.{above-ascending, down-high, down-low, down-none, path-high, path-low}

-- windows with equal parts are equal, so a block has only one pair of halves
pub same-window : (a b : Window) → a.first ≡ b.first → a.last ≡ b.last → a.len ≡ b.len → a.from ≡ b.from → a.to ≡ b.to → a ≡ b
same-window a b first last len from to = λ i. record { first = first i; last = last i; len = len i; from = from i; to = to i }

same-ends : (s : StretchesModel) (every : HasEveryAddress s) (a b : Window) → IsWindow s a → IsWindow s b → a.first ≡ b.first → a.last ≡ b.last → a.len ≡ b.len → a ≡ b
same-ends s every a b is is' first last len =
    same-window a b first last len
    (one_index s every b.first a.from b.from (subst (λ (x : ℕ). HoldsAddress s x a.from) first is.start) is'.start)
    (one_index s every b.last a.to b.to (subst (λ (x : ℕ). HoldsAddress s x a.to) last is.end) is'.end)

pub record AreSameHalves (low high low' high' : Window) : Type 0 where
  pub low_is : low ≡ low'
  pub high_is : high ≡ high'

pub same-halves : (s : StretchesModel) (a low high low' high' : Window) → AreCountedHalves s a low high → AreCountedHalves s a low' high' → AreSameHalves low high low' high'
same-halves s a low high low' high' counted counted' =
    let every = counted.low_counted.few.stretches.every in
    let are = counted.halves in
    let are' = counted'.halves in
    record {
      low_is = same-ends s every low low' are.low_window are'.low_window (are.low_first ∙ sym are'.low_first) (are.low_last ∙ sym are'.low_last) (are.low_len ∙ sym are'.low_len);
      high_is = same-ends s every high high' are.high_window are'.high_window (are.high_first ∙ sym are'.high_first) (are.high_last ∙ sym are'.high_last) (are.high_len ∙ sym are'.high_len);
    }

-- the own label of a block, by whether the block is in one stretch
pub own-none : (s : StretchesModel) (a : Window) → a.from < a.to → own_label s a ≡ None
own-none s a less = cond-false (a.from == a.to) (option_map (λ (id : LabelId). id.0) (label_at s a.from)) None (ne_eqb a.from a.to (λ same. absurd (omega arith)))

pub own-is : (s : StretchesModel) (a : Window) → a.from ≡ a.to → own_label s a ≡ option_map (λ (id : LabelId). id.0) (label_at s a.from)
own-is s a same = cond-true (a.from == a.to) (option_map (λ (id : LabelId). id.0) (label_at s a.from)) None (eq-eqb a.from a.to same)

-- a block with an own label is in one stretch
pub own-single : (s : StretchesModel) (a : Window) (n : ℕ) → a.from ≤ a.to → own_label s a ≡ Some n → a.from ≡ a.to
own-single s a n ordered own =
    elim (cases_lt a.from a.to) [
      | inl less ↦ absurd (none-some n (sym (own-none s a less) ∙ own))
      | inr most ↦ omega arith
    ]

-- a block with addresses of two stretches is divided, and its halves can be counted
module _ (s : StretchesModel) (a : Window) (is : IsCounted s a) (divided : a.from < a.to) where
  pub counted-sum : (low high : Window) → AreHalvesOf s a low high → 1 + (divisions s low is.few.statements + divisions s high is.few.statements) ≤ divisions s a is.few.statements
  counted-sum low high are =
      window_most s a is.window is.few.statements is.few.default is.few.stretches (λ same. absurd (omega arith)) low high are

  pub counted-halves : (low high : Window) → AreHalvesOf s a low high → AreCountedHalves s a low high
  counted-halves low high are =
      let sum = counted-sum low high are in
      let few = is.few.few in
      record {
        divided = divided;
        halves = are;
        low_counted = half low are.low_window (omega arith);
        high_counted = half high are.high_window (omega arith);
      }
    where
      half : (h : Window) → IsWindow s h → divisions s h is.few.statements + 1 < 2 ^ 32 → IsCounted s h
      half h window few = record {
        window = window;
        few = record { statements = is.few.statements; default = is.few.default; labelled = is.few.labelled; stretches = is.few.stretches; few = few };
      }

-- The nodes of blocks.

-- a label by its number
abbrev id_of : ℕ → LabelId
id_of n = record { 0 = n }

own-label-is : (label : Option LabelId) (n : ℕ) → option_map (λ (id : LabelId). id.0) label ≡ Some n → label ≡ Some (id_of n)
own-label-is None n is = absurd (none-some n is)
own-label-is (Some id) n is = ap (λ (k : ℕ). Some (id_of k)) (same_Some id.0 n is)

-- a block in one stretch has the node of a leaf
pub leaf-made : (s : StretchesModel) (a : Window) (n : ℕ) → IsCounted s a → own_label s a ≡ Some n → n < 2 ^ 32 → IsWindowNode s a (LeafNode n)
leaf-made s a n is own fits =
    let single = own-single s a n is.window.ordered own in
    let label : label_at s a.from ≡ Some (id_of n) = own-label-is (label_at s a.from) n (sym (own-is s a single) ∙ own) in
    record {
      each = λ m on.
          let settles = subst (λ (l : Option LabelId). Settles m l a.len (window_number s a)) label (window_settled s a is.window on.statements on.default on.stretches single m on.is) in
          record { stands = settles.1; form = (settles.0, tt) };
      few = λ ss default are. omega arith;
      sound = tt;
      ascending = (omega arith, fits, tt);
      own = sym own;
      single = λ same. (n, refl);
      halves = λ low high are. let divided = are.divided in absurd (omega arith);
    }

-- the node of a block is built from those of its halves
module _ (s : StretchesModel) (a low high : Window) (lower upper : Node) (is : IsCounted s a) (are : AreCountedHalves s a low high)
    (low_made : IsWindowNode s low lower) (high_made : IsWindowNode s high upper) where
  other : a.from ≡ a.to → ⊥
  other same = let divided = are.divided in absurd (omega arith)

  -- the costs of the halves and one more are few
  pub both-cost : (ss : List Statement) (default : Option LabelId) → AreStretches ss default s → (claim_of lower).cost + (claim_of upper).cost + 1 ≤ divisions s a ss
  both-cost ss default stretches =
      omega (arith, window_most s a is.window ss default stretches other low high are.halves, low_made.few ss default stretches, high_made.few ss default stretches)

  pub halves-made : (claim : ClaimOf ℕ) → IsExact (claim_of lower) (claim_of upper) claim → IsAscending (2 ^ 32) 0 claim.labels → IsWindowNode s a (InnerNode claim lower upper)
  halves-made claim exact ascending =
      let W : ℕ = width_of s.version in
      let below = window_divided s a is.window is.few.statements is.few.default is.few.stretches other in
      let room : ℕ = W - suc a.len in
      let all : suc room ≡ W - a.len = omega arith in
      let low_len : low.len ≡ suc a.len = omega (arith, are.halves.low_len) in
      let high_len : high.len ≡ suc a.len = omega (arith, are.halves.high_len) in
      let low_room : W - low.len ≡ room = ap (λ (n : ℕ). W - n) low_len in
      let high_room : W - high.len ≡ room = ap (λ (n : ℕ). W - n) high_len in
      let most = exact-cost (claim_of lower) (claim_of upper) claim exact in
      let few = is.few.few in
      record {
        each = λ m on.
            subst (λ (h : ℕ). IsMapNode m a.len (window_number s a) h (InnerNode claim lower upper)) all
            (joined-in m a.len (window_number s a) room lower upper claim on.table
            (rw (on.is.width, on.is.mappings) (window_unsettled s a is.window on.statements on.default on.stretches other m.table m.fallback))
            (moved m _ _ _ _ _ _ lower low_len are.halves.low_number low_room (low_made.each m on)) (moved m _ _ _ _ _ _ upper high_len are.halves.high_number high_room (high_made.each m on))
            exact (omega (arith, most, both-cost is.few.statements is.few.default is.few.stretches, few)));
        few = λ ss default stretches. omega (arith, most, both-cost ss default stretches);
        sound = subst (IsSound (InnerNode claim lower upper)) all
            (joined-sound room lower upper claim (subst (IsSound lower) low_room low_made.sound) (subst (IsSound upper) high_room high_made.sound) exact);
        ascending = ascending;
        own = sym (own-none s a are.divided);
        single = λ same. absurd (other same);
        halves = λ low' high' are'.
            let same = same-halves s a low high low' high' are are' in
            record {
              claim = claim;
              lower = lower;
              upper = upper;
              node_is = refl;
              low_label = low_made.own ∙ ap (own_label s) same.low_is;
              high_label = high_made.own ∙ ap (own_label s) same.high_is;
            };
      }

-- if no step leads on from a block, its node has no spine
pub made-stop : (s : StretchesModel) (side : ℕ) (a : Window) (node : Node) → IsWindowNode s a node → IsStop s side a
    → (spine_bits nat_eq side node ≡ []) × (spine_end nat_eq side node ≡ node)
made-stop s side a node made (inl single) =
    let leaf = made.single single in
    (ap (spine_bits nat_eq side) leaf.1, ap (spine_end nat_eq side) leaf.1 ∙ sym leaf.1)
made-stop s side a node made (inr none) =
    let own = made.halves none.low none.high none.halves in
    let down = down-none side own.claim own.lower own.upper (λ e. none.low_other (sym own.low_label ∙ e)) (λ e. none.high_other (sym own.high_label ∙ e)) in
    (ap (spine_bits nat_eq side) own.node_is ∙ down.0, ap (spine_end nat_eq side) own.node_is ∙ down.1 ∙ sym own.node_is)

-- Spines.

-- the end lies in the block, `count` bits deeper
pub record IsBelow (s : StretchesModel) (count : ℕ) (a end : Window) : Type 0 where
  pub len : end.len ≡ a.len + count
  pub number : window_number s end / 2 ^ count ≡ window_number s a
  pub counted : IsCounted s end
  pub smaller : end.last - end.first + count ≤ a.last - a.first

halved : (e P q d : ℕ) → 0 < P → d < 2 → e / P ≡ 2 * q + d → e / (2 * P) ≡ q
halved e P q d some small is =
    let low = above_first e P (2 * q + d) some is in
    let high = below_end e P (2 * q + d) some is in
    quotient_is e (2 * P) q (omega arith) (lower q d P low) (upper q d P small high)
  where
    lower : (q d P : ℕ) → (2 * q + d) * P ≤ e → q * (2 * P) ≤ e
    lower q d P le = let split : (2 * q + d) * P ≡ q * (2 * P) + d * P = omega arith in omega arith

    upper : (q d P : ℕ) → d < 2 → e < (2 * q + d + 1) * P → e < (q + 1) * (2 * P)
    upper q zero P small less = omega arith
    upper q (suc zero) P small less = omega arith
    upper q (suc (suc d)) P small less = absurd (omega arith)

-- a step chooses the lower half if the digit is 0, and the higher one if it is 1
pub record IsStepBy (s : StretchesModel) (side : ℕ) (a chosen : Window) : Type 0 where
  pub digit : ℕ
  pub small : digit < 2
  pub number : window_number s chosen ≡ 2 * window_number s a + digit
  pub len : chosen.len ≡ a.len + 1
  pub counted : IsCounted s chosen
  pub divided : a.from < a.to
  pub smaller : chosen.last - chosen.first + 1 ≤ a.last - a.first

pub block-order : (s : StretchesModel) (a : Window) → IsCounted s a → a.first ≤ a.last
block-order s a is = ordered_window s is.few.stretches.every a is.window

pub step-by : (s : StretchesModel) (side : ℕ) (a chosen : Window) → IsStepInto s side a chosen → IsStepBy s side a chosen
step-by s side a chosen step = by step.choice
  where
    counted : AreCountedHalves s a step.low step.high
    counted = step.halves

    halves : AreHalvesOf s a step.low step.high
    halves = counted.halves

    smaller : (step.high.last - step.high.first + 1 ≤ a.last - a.first) × (step.low.last - step.low.first + 1 ≤ a.last - a.first)
    smaller =
        let order = block-order s step.high counted.high_counted in
        let lower = block-order s step.low counted.low_counted in
        let low_first = halves.low_first in
        let low_last = halves.low_last in
        let high_first = halves.high_first in
        let high_last = halves.high_last in
        (omega arith, omega arith)

    by : IsChoice s side step.low step.high chosen → IsStepBy s side a chosen
    by (inl high) =
        subst (IsStepBy s side a) (sym high.0)
        (record {
          digit = 1;
          small = omega arith;
          number = halves.high_number;
          len = halves.high_len;
          counted = counted.high_counted;
          divided = counted.divided;
          smaller = smaller.0;
        })
    by (inr low) =
        subst (IsStepBy s side a) (sym low.0)
        (record {
          digit = 0;
          small = omega arith;
          number = halves.low_number ∙ omega arith;
          len = halves.low_len;
          counted = counted.low_counted;
          divided = counted.divided;
          smaller = smaller.1;
        })

-- a step before a spine to its end
pub step-to : (s : StretchesModel) (side : ℕ) (a chosen end : Window) → IsStepInto s side a chosen → IsSpineTo s side chosen end → IsSpineTo s side a end
step-to s side a chosen end step spine = record {
  count = suc spine.count;
  steps = (chosen, step, spine.steps);
  stop = spine.stop;
  counted = spine.counted;
  len = omega (arith, (step-by s side a chosen step).len, spine.len);
}

pub spine-below : (s : StretchesModel) (side count : ℕ) (a end : Window) → IsCounted s a → AreSteps s side count a end → IsBelow s count a end
spine-below s side zero a end is steps =
    subst (IsBelow s zero a) (sym steps) (record { len = omega arith; number = omega arith; counted = is; smaller = omega arith })
spine-below s side (suc count) a end is steps =
    let step = step-by s side a steps.0 steps.1 in
    let rest = spine-below s side count steps.0 end step.counted steps.2 in
    let len = rest.len in
    let len' = step.len in
    let smaller = rest.smaller in
    let smaller' = step.smaller in
    let twice : 2 ^ suc count ≡ 2 * 2 ^ count = pow-suc 2 count ∙ omega arith in
    record {
      len = omega arith;
      number = ap (λ (p : ℕ). window_number s end / p) twice
          ∙ halved (window_number s end) (2 ^ count) (window_number s a) step.digit (pow_pos count) step.small (rest.number ∙ step.number);
      counted = rest.counted;
      smaller = omega arith;
    }

-- the node from which a spine leads to the node of its end
module _ (s : StretchesModel) (side : ℕ) (fits : side < 2 ^ 32) (end : Window) (node : Node) (made : IsWindowNode s end node) where
  abbrev value : ℕ
  value = window_number s end

  abbrev node_of : ℕ → Node
  node_of count = path_node side value count node

  over-made : (a : Window) (count d : ℕ) → IsWindowNode s a (node_over d (claim_above side (claim_of node) count) (node_of count) (LeafNode side)) → digit value count ≡ d
      → IsWindowNode s a (node_of (suc count))
  over-made a count d is same = subst (λ (k : ℕ). IsWindowNode s a (node_over k (claim_above side (claim_of node) count) (node_of count) (LeafNode side))) (sym same) is

  pub spine-made : (count : ℕ) (a : Window) → IsCounted s a → AreSteps s side count a end → IsWindowNode s a (node_of count)
  spine-made zero a is steps = subst (λ (b : Window). IsWindowNode s b node) steps made
  spine-made (suc count) a is steps =
      let step = step-by s side a steps.0 steps.1 in
      by (spine-below s side count steps.0 end step.counted steps.2) (spine-made count steps.0 step.counted steps.2) steps.1.choice
    where
      halves : AreCountedHalves s a steps.1.low steps.1.high
      halves = steps.1.halves

      by : IsBelow s count steps.0 end → IsWindowNode s steps.0 (node_of count) → IsChoice s side steps.1.low steps.1.high steps.0 → IsWindowNode s a (node_of (suc count))
      by below rest (inl high) =
          let number = below.number ∙ ap (window_number s) high.0 ∙ halves.halves.high_number in
          over-made a count 1
          (halves-made s a steps.1.low steps.1.high (LeafNode side) (node_of count) is halves (leaf-made s steps.1.low side halves.low_counted high.1 fits)
          (subst (λ (b : Window). IsWindowNode s b (node_of count)) high.0 rest) (claim_above side (claim_of node) count)
          (path-high side fits node made.ascending value count) (above-ascending side fits node made.ascending count))
          (omega arith)
      by below rest (inr low) =
          let number = below.number ∙ ap (window_number s) low.0 ∙ halves.halves.low_number in
          over-made a count 0
          (halves-made s a steps.1.low steps.1.high (node_of count) (LeafNode side) is halves (subst (λ (b : Window). IsWindowNode s b (node_of count)) low.0 rest)
          (leaf-made s steps.1.high side halves.high_counted low.2 fits) (claim_above side (claim_of node) count)
          (path-low side fits node made.ascending value count) (above-ascending side fits node made.ascending count))
          (omega arith)

  -- the spine from the node has `count` bits, and leads to the node of the end
  pub record GoesDown (count : ℕ) : Type 0 where
    pub bits : spine_bits nat_eq side (node_of count) ≡ path_to value count
    pub last : spine_end nat_eq side (node_of count) ≡ node

  -- the node over another has one bit more
  abbrev over : ℕ → ℕ → Node
  over count d = node_over d (claim_above side (claim_of node) count) (node_of count) (LeafNode side)

  goes-over : (count d : ℕ) → digit value count ≡ d → GoesDown count → spine_bits nat_eq side (over count d) ≡ (d == 1) ∷ spine_bits nat_eq side (node_of count)
      → spine_end nat_eq side (over count d) ≡ spine_end nat_eq side (node_of count) → GoesDown (suc count)
  goes-over count d same down bits end = record {
    bits = ap (λ (k : ℕ). spine_bits nat_eq side (over count k)) same ∙ bits ∙ (λ i. (sym same i == 1) ∷ down.bits i);
    last = ap (λ (k : ℕ). spine_end nat_eq side (over count k)) same ∙ end ∙ down.last;
  }

  over-down : (count d : ℕ) → digit value count ≡ d → d < 2 → (d ≡ 0 → leaf_label (node_of count) ≡ Some side → ⊥) → GoesDown count → GoesDown (suc count)
  over-down count zero same small other down =
      let low = down-low side (claim_above side (claim_of node) count) (node_of count) (other refl) in
      goes-over count 0 same down low.0 low.1
  over-down count (suc zero) same small other down =
      let high = down-high side (claim_above side (claim_of node) count) (node_of count) in
      goes-over count 1 same down high.0 high.1
  over-down count (suc (suc d)) same small other down = absurd (omega arith)

  -- if the spine stops at the end
  module _ (stop : IsStop s side end) where
    stop-down : GoesDown zero
    stop-down = let none = made-stop s side end node made stop in record { bits = none.0; last = none.1 }

    pub spine-down : (count : ℕ) (a : Window) → IsCounted s a → AreSteps s side count a end → GoesDown count
    spine-down zero a is steps = stop-down
    spine-down (suc count) a is steps =
        let step = step-by s side a steps.0 steps.1 in
        by (spine-below s side count steps.0 end step.counted steps.2) (spine-made count steps.0 step.counted steps.2) (spine-down count steps.0 step.counted steps.2) steps.1.choice
      where
        by : IsBelow s count steps.0 end → IsWindowNode s steps.0 (node_of count) → GoesDown count
            → IsChoice s side steps.1.low steps.1.high steps.0 → GoesDown (suc count)
        by below chosen rest (inl high) =
            let number = below.number ∙ ap (window_number s) high.0 ∙ steps.1.halves.halves.high_number in
            over-down count 1 (omega arith) (omega arith) (λ none. absurd (omega arith)) rest
        by below chosen rest (inr low) =
            let number = below.number ∙ ap (window_number s) low.0 ∙ steps.1.halves.halves.low_number in
            over-down count 0 (omega arith) (omega arith) (λ none e. low.1 (ap (own_label s) (sym low.0) ∙ sym chosen.own ∙ e)) rest

-- the side label of a spine is that of a leaf right below the spine's first node
pub made-side : (s : StretchesModel) (a low high : Window) (node : Node) → IsWindowNode s a node → AreCountedHalves s a low high
    → side_below node ≡ option_or (own_label s low) (own_label s high)
made-side s a low high node made are =
    let own = made.halves low high are in
    ap side_below own.node_is ∙ (λ i. option_or (own.low_label i) (own.high_label i))
