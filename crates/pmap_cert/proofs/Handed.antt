use Rattle.std.proofs.Common.{◌≡◌, ℕ, ◌+◌, Bool, true, false, cond, ◌&&◌, ◌||◌, List, [], ◌∷◌, Option, Some, None, arith, find, slice_index_or, unwrap_or, sym, refl, ap, ◌∙◌}
use Rattle.std.proofs.lemmas.Bool.{and_from, or_left}
use Rattle.pmap_model.specs.MapModel.{Label, MapModel}
use Rattle.pmap_model.proofs.Finds.{find_passes}
use Rattle.pmap_cert.specs.CertificateModel.{ChainNode, InnerNode, LeafNode, Claim, Tree, claim_of, exact_claim}
use Rattle.pmap_cert.specs.Acceptance.{StandsFor, handed_on, least_label}
use Rattle.pmap_cert.proofs.Sets.{IsExact, apart, common, exact, has-head, has-own, has-single, miss, same-listed}
use Rattle.pmap_model.specs.Label.{has_label}

-- A node of a minimal certificate passes on a label of its set, so its halves have as many entries as it costs.

-- the set is not empty
abbrev pub IsInhabited : List Label → Type 0
IsInhabited s = (x : Label) × (has_label s x ≡ true)

-- a set that is not empty has its first and its least label
has-first : (s : List Label) → IsInhabited s → has_label s (slice_index_or s 0 []) ≡ true
has-first [] some = some.1
has-first (x ∷ xs) some = has-head x xs

pub has-least_label : (table s : List Label) → IsInhabited s → has_label s (least_label table s) ≡ true
has-least_label table s some = by_find (find (has_label s) table) refl
  where
    by_find : (o : Option Label) → find (has_label s) table ≡ o → has_label s (unwrap_or o (slice_index_or s 0 [])) ≡ true
    by_find None e = has-first s some
    by_find (Some x) e = (find_passes (has_label s) table x e).1

-- a node with a nonempty set passes on a label of the set
pub handed_on-has : (table s : List Label) (h : Option Label) → IsInhabited s →
    (x : Label) × (handed_on table s h ≡ Some x) × (has_label s x ≡ true)
handed_on-has table s None some = (least_label table s, refl, has-least_label table s some)
handed_on-has table s (Some y) some = by_test (has_label s y) refl
  where
    by_test : (b : Bool) → has_label s y ≡ b → (x : Label) × (cond b (Some y) (Some (least_label table s)) ≡ Some x) × (has_label s x ≡ true)
    by_test true e = (y, refl, e)
    by_test false e = (least_label table s, refl, has-least_label table s some)

-- a leaf passes on its label
pub handed_on-leaf : (table : List Label) (x : Label) (h : Option Label) → handed_on table (x ∷ []) h ≡ Some x
handed_on-leaf table x h =
    let handed = handed_on-has table (x ∷ []) h (x, has-own x) in
    handed.1 ∙ ap Some (sym (has-single x handed.0 handed.2))

-- the exact claim of sets that are not empty has a label
inhabited-exact_claim : (p r : Claim) → IsInhabited p.labels → IsInhabited (exact_claim p r).labels
inhabited-exact_claim p r some = by (exact p r)
  where
    by : IsExact p r (exact_claim p r) → IsInhabited (exact_claim p r).labels
    by (common x low up is) = (x, is.labels x ∙ and_from (has_label p.labels x) (has_label r.labels x) low up)
    by (apart none is) = (some.0, is.labels some.0 ∙ or_left (has_label p.labels some.0) (has_label r.labels some.0) some.1)

-- the set of each node that represents a block has a label
pub inhabited : (m : MapModel) (t : Tree) (n q : ℕ) → StandsFor m t n q → IsInhabited (claim_of t).labels
inhabited m (LeafNode x) n q h = (x, has-own x)
inhabited m (ChainNode p bits side end) n q h = absurd h
inhabited m (InnerNode claim lower upper) n q h =
    let below = inhabited m lower _ _ h.2 in
    let some = inhabited-exact_claim (claim_of lower) (claim_of upper) below in
    (some.0, (same-listed m.table claim (exact_claim (claim_of lower) (claim_of upper)) h.1).labels some.0 ∙ some.1)

-- if both halves inherit a label of the exact set, they have as many entries as the exact claim costs
misses-one : (a b c : Bool) → false ≡ (a && b) → c ≡ (a || b) → c ≡ true → cond a 0 1 + cond b 0 1 ≡ 1
misses-one a b c none is h = grind arith

misses-none : (a b c : Bool) → c ≡ (a && b) → c ≡ true → cond a 0 1 + cond b 0 1 ≡ 0
misses-none a b c is h = grind arith

pub exact_claim-cost_of : (p r : Claim) (x : Label) → has_label (exact_claim p r).labels x ≡ true →
    (exact_claim p r).cost ≡ p.cost + miss (Some x) p.labels + (r.cost + miss (Some x) r.labels)
exact_claim-cost_of p r x h = by (exact p r)
  where
    by : IsExact p r (exact_claim p r) → (exact_claim p r).cost ≡ p.cost + miss (Some x) p.labels + (r.cost + miss (Some x) r.labels)
    by (common y low up is) =
        omega (arith, is.cost, misses-none (has_label p.labels x) (has_label r.labels x) (has_label (exact_claim p r).labels x) (is.labels x) h)
    by (apart none is) =
        omega (arith, is.cost, misses-one (has_label p.labels x) (has_label r.labels x) (has_label (exact_claim p r).labels x) (sym (none x)) (is.labels x) h)
