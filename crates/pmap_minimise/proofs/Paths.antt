-- The nodes of a spine: what they claim, and how the spine goes down them.
use Rattle.std.proofs.Common.{◌≡◌, ◌≢◌, ℕ, zero, suc, ◌+◌, ◌^◌, ◌<◌, ◌≤◌, inl, inr, ◌∙◌, ◌||◌, ◌==◌, Bool, true, false, cond, List, [], ◌∷◌, Some, nat_eq, refl, sym, ap, subst, arith}
use Rattle.std.specs.List.{list_any}
use Rattle.std.proofs.lemmas.Bool.{cases_lt, cond_above, cond_below, eq-eqb, eqb-true, ne_eqb}
use Rattle.pmap_cert.specs.CertificateText.{IsAscending}
use Rattle.pmap_cert.specs.CertificateModel.{ChainNode, ClaimOf, InnerNode, LeafNode, claim_of}
use Rattle.pmap_cert.specs.Compacting.{is_side, leaf_label, spine_bits, spine_end}
use Rattle.pmap_cert.specs.Node.{Node}
use Rattle.pmap_cert.proofs.OpenedTexts.{claim_over, path-claim}
use Rattle.pmap_cert.specs.Opened.{claim_above, set_above, path_node, with_number}
use Rattle.pmap_minimise.specs.Numbers.{IsExact, IsExactBy, common_numbers, has_number}
use Rattle.pmap_minimise.proofs.Merged.{lacks}

-- the number alone if the condition is true, otherwise no number
abbrev only_if : Bool → ℕ → List ℕ
only_if b n = cond b (n ∷ []) []

common-one : (b k n : ℕ) (set : List ℕ) → IsAscending b k set → common_numbers set (n ∷ []) ≡ only_if (has_number set n) n
common-one b k n [] ascending = refl
common-one b k n (m ∷ ms) ascending = by (common-one b (m + 1) n ms ascending.2) (n == m) refl
  where
    by : common_numbers ms (n ∷ []) ≡ only_if (has_number ms n) n → (t : Bool) → (n == m) ≡ t → common_numbers (m ∷ ms) (n ∷ []) ≡ only_if (has_number (m ∷ ms) n) n
    by rest true e =
        let same : n ≡ m = eqb-true n m e in
        let back : (m == n) ≡ true = eq-eqb m n (sym same) in
        let none : has_number ms n ≡ false = lacks b (m + 1) ms n ascending.2 (omega arith) in
        let empty : common_numbers ms (n ∷ []) ≡ [] = rest ∙ ap (λ (t : Bool). only_if t n) none in
        (λ i. cond (back i || false) (m ∷ empty i) (empty i)) ∙ ap (λ (x : ℕ). x ∷ []) (sym same)
        ∙ (λ i. only_if (sym e i || has_number ms n) n)
    by rest false e =
        let back : (m == n) ≡ false = ne_eqb m n (λ (s : m ≡ n). absurd (true-not (sym (eq-eqb n m (sym s)) ∙ e))) in
        (λ i. cond (back i || false) (m ∷ common_numbers ms (n ∷ [])) (common_numbers ms (n ∷ []))) ∙ rest
        ∙ (λ i. only_if (sym e i || has_number ms n) n)
      where
        true-not : true ≡ false → ⊥
        true-not t = cc

with-any : (p : ℕ → Bool) (n : ℕ) (set : List ℕ) → list_any p (with_number n set) ≡ (p n || list_any p set)
with-any p n [] = refl
with-any p n (m ∷ ms) =
    elim (cases_lt n m) [
      | inl less ↦ ap (λ (l : List ℕ). list_any p l) (sym (cond_below n m (n ∷ m ∷ ms) (m ∷ with_number n ms) less))
      | inr most ↦ ap (λ (l : List ℕ). list_any p l) (sym (cond_above n m (n ∷ m ∷ ms) (m ∷ with_number n ms) (m ∷ with_number n ms) most refl))
          ∙ ap (λ (t : Bool). p m || t) (with-any p n ms) ∙ swap (p m) (p n) (list_any p ms)
    ]
  where
    swap : (x y z : Bool) → (x || (y || z)) ≡ (y || (x || z))
    swap x y z = grind arith

-- a set with one more number has that number
with-has : (n : ℕ) (set : List ℕ) → has_number (with_number n set) n ≡ true
with-has n set = with-any (λ m. n == m) n set ∙ ap (λ (t : Bool). t || has_number set n) (eq-eqb n n refl)

-- each node of a spine has the side label
pub above-has : (side : ℕ) (set : List ℕ) (more : ℕ) → has_number (set_above side set more) side ≡ true
above-has side set zero = by (has_number set side)
  where
    by : (t : Bool) → has_number (cond t (side ∷ []) (with_number side set)) side ≡ true
    by true = ap (λ (t : Bool). t || false) (eq-eqb side side refl)
    by false = with-has side set
above-has side set (suc more) = ap (λ (t : Bool). t || false) (eq-eqb side side refl)

with-ascending : (b k n : ℕ) (set : List ℕ) → IsAscending b k set → k ≤ n → n < b → has_number set n ≡ false → IsAscending b k (with_number n set)
with-ascending b k n [] ascending least below none = (least, below, tt)
with-ascending b k n (m ∷ ms) ascending least below none =
    elim (cases_lt n m) [
      | inl less ↦ subst (IsAscending b k) (cond_below n m (n ∷ m ∷ ms) (m ∷ with_number n ms) less) (least, below, (omega arith, ascending.1, ascending.2))
      | inr most ↦ subst (IsAscending b k) (cond_above n m (n ∷ m ∷ ms) (m ∷ with_number n ms) (m ∷ with_number n ms) most refl)
          (let other : n ≢ m = λ same. absurd (true-not (sym (ap (λ (t : Bool). t || has_number ms n) (eq-eqb n m same)) ∙ none)) in
          (ascending.0, ascending.1, with-ascending b (m + 1) n ms ascending.2 (omega arith) below (rest (n == m) (has_number ms n) none)))
    ]
  where
    true-not : true ≡ false → ⊥
    true-not t = cc

    rest : (x y : Bool) → (x || y) ≡ false → y ≡ false
    rest true y e = absurd (true-not e)
    rest false y e = e

-- What the nodes of a spine claim.
module _ (side : ℕ) (fits : side < 2 ^ 32) (end : Node) (ascending : IsAscending (2 ^ 32) 0 (claim_of end).labels) where
  abbrev set : List ℕ
  set = (claim_of end).labels

  abbrev leaf : ClaimOf ℕ
  leaf = claim_of (LeafNode side)

  one-ascending : IsAscending (2 ^ 32) 0 (side ∷ [])
  one-ascending = (omega arith, fits, tt)

  abbrev above : ℕ → ClaimOf ℕ
  above more = claim_above side (claim_of end) more

  pub above-ascending : (more : ℕ) → IsAscending (2 ^ 32) 0 (above more).labels
  above-ascending zero = by (has_number set side) refl
    where
      by : (t : Bool) → has_number set side ≡ t → IsAscending (2 ^ 32) 0 (cond t (side ∷ []) (with_number side set))
      by true e = one-ascending
      by false e = with-ascending (2 ^ 32) 0 side set ascending (omega arith) fits e
  above-ascending (suc more) = one-ascending

  -- the claim right above the end, by whether the end's set has the side label
  abbrev above_by : Bool → ClaimOf ℕ
  above_by t = record { cost = cond t (claim_of end).cost ((claim_of end).cost + 1); labels = cond t (side ∷ []) (with_number side set) }

  exact-low : (bits : ℕ) → IsExact (claim_over side end bits) leaf (above bits)
  exact-low zero =
      subst (λ (shared : List ℕ). IsExactBy (claim_of end) leaf shared (above zero)) (sym (common-one (2 ^ 32) 0 side set ascending)) (by (has_number set side) refl)
    where
      by : (t : Bool) → has_number set side ≡ t → IsExactBy (claim_of end) leaf (only_if t side) (above_by t)
      by true e = (omega arith, refl)
      by false e = (
        omega arith,
        λ p. with-any p side set ∙ swap (p side) (list_any p set),
        with-ascending (2 ^ 32) 0 side set ascending (omega arith) fits e,
      )
        where
          swap : (x y : Bool) → (x || y) ≡ (y || (x || false))
          swap x y = grind arith
  exact-low (suc bits) =
      subst (λ (shared : List ℕ). IsExactBy (above bits) leaf shared (above (suc bits)))
      (sym (common-one (2 ^ 32) 0 side (above bits).labels (above-ascending bits) ∙ ap (λ (t : Bool). only_if t side) (above-has side set bits)))
      (omega arith, refl)

  exact-high : (bits : ℕ) → IsExact leaf (claim_over side end bits) (above bits)
  exact-high zero = by (has_number set side) refl
    where
      by : (t : Bool) → has_number set side ≡ t → IsExactBy leaf (claim_of end) (only_if t side) (above_by t)
      by true e = (omega arith, refl)
      by false e = (
        omega arith,
        λ p. with-any p side set ∙ add (p side) (list_any p set),
        with-ascending (2 ^ 32) 0 side set ascending (omega arith) fits e,
      )
        where
          add : (x y : Bool) → (x || y) ≡ ((x || false) || y)
          add x y = grind arith
  exact-high (suc bits) =
      subst (λ (t : Bool). IsExactBy leaf (above bits) (only_if t side) (above (suc bits))) (sym (above-has side set bits)) (omega arith, refl)

  pub path-low : (value bits : ℕ) → IsExact (claim_of (path_node side value bits end)) leaf (above bits)
  path-low value bits = subst (λ (c : ClaimOf ℕ). IsExact c leaf (above bits)) (sym (path-claim side end value bits)) (exact-low bits)

  pub path-high : (value bits : ℕ) → IsExact leaf (claim_of (path_node side value bits end)) (above bits)
  path-high value bits = subst (λ (c : ClaimOf ℕ). IsExact leaf c (above bits)) (sym (path-claim side end value bits)) (exact-high bits)

-- a node without the side label is no leaf with it
pub no-leaf : (side : ℕ) (node : Node) → (leaf_label node ≡ Some side → ⊥) → is_side nat_eq side node ≡ false
no-leaf side (LeafNode number) other = ne_eqb number side (λ same. other (ap (λ (n : ℕ). Some n) same))
no-leaf side (InnerNode claim lower upper) other = refl
no-leaf side (ChainNode claim bits s end) other = refl

pub down-high : (side : ℕ) (claim : ClaimOf ℕ) (upper : Node)
    → (spine_bits nat_eq side (InnerNode claim (LeafNode side) upper) ≡ true ∷ spine_bits nat_eq side upper) × (spine_end nat_eq side (InnerNode claim (LeafNode side) upper) ≡ spine_end nat_eq side upper)
down-high side claim upper = (
  (λ i. cond (eq-eqb side side refl i) (true ∷ spine_bits nat_eq side upper) (cond (is_side nat_eq side upper) (false ∷ spine_bits nat_eq side (LeafNode side)) [])),
  (λ i. cond (eq-eqb side side refl i) (spine_end nat_eq side upper) (cond (is_side nat_eq side upper) (spine_end nat_eq side (LeafNode side)) (InnerNode claim (LeafNode side) upper))),
)

pub down-low : (side : ℕ) (claim : ClaimOf ℕ) (lower : Node) → (leaf_label lower ≡ Some side → ⊥)
    → (spine_bits nat_eq side (InnerNode claim lower (LeafNode side)) ≡ false ∷ spine_bits nat_eq side lower) × (spine_end nat_eq side (InnerNode claim lower (LeafNode side)) ≡ spine_end nat_eq side lower)
down-low side claim lower other =
    let none = no-leaf side lower other in (
      (λ i. cond (none i) (true ∷ spine_bits nat_eq side (LeafNode side)) (cond (eq-eqb side side refl i) (false ∷ spine_bits nat_eq side lower) [])),
      (λ i. cond (none i) (spine_end nat_eq side (LeafNode side)) (cond (eq-eqb side side refl i) (spine_end nat_eq side lower) (InnerNode claim lower (LeafNode side)))),
    )

pub down-none : (side : ℕ) (claim : ClaimOf ℕ) (lower upper : Node) → (leaf_label lower ≡ Some side → ⊥) → (leaf_label upper ≡ Some side → ⊥)
    → (spine_bits nat_eq side (InnerNode claim lower upper) ≡ []) × (spine_end nat_eq side (InnerNode claim lower upper) ≡ InnerNode claim lower upper)
down-none side claim lower upper low high =
    let first = no-leaf side lower low in
    let second = no-leaf side upper high in (
      (λ i. cond (first i) (true ∷ spine_bits nat_eq side upper) (cond (second i) (false ∷ spine_bits nat_eq side lower) [])),
      (λ i. cond (first i) (spine_end nat_eq side upper) (cond (second i) (spine_end nat_eq side lower) (InnerNode claim lower upper))),
    )
