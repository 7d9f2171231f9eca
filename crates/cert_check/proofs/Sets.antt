-- Sets of labels by their numbers in ascending order.
use Rattle.std.proofs.Common.{◌≡◌, ◌⊎◌, inl, inr, ℕ, zero, suc, ◌+◌, ◌^◌, ◌<◌, ◌≤◌, Bool, true, false, cond, not, ◌&&◌, ◌||◌, ◌==◌, List, [], ◌∷◌, Option, Some, None, drop, filter, get_or, length, map, nat_lt, slice_get, take, refl, sym, ap, ap₂, ◌∙◌, subst, arith}
use Rattle.std.specs.List.{list_all}
use Rattle.std.proofs.lemmas.Bool.{and_from, eq-eqb, false≢true, ne_eqb, or_left, or_right}
use Rattle.std.proofs.lemmas.Cmp.{nat_eq_equiv}
use Rattle.std.proofs.lemmas.List.Folds.{list_all-append, list_all_more}
use Rattle.std.proofs.lemmas.Option.{none-some, same_Some}
use Rattle.pmap_model.specs.Label.{IsLabelTable, has_label}
use Rattle.pmap_model.specs.MapModel.{Label}
use Rattle.pmap_model.specs.MapText.{text_at}
use Rattle.pmap_model.specs.declared.label.LabelId.{LabelId}
use Rattle.pmap_cert.specs.CertificateText.{IsAscending}
use Rattle.pmap_cert.specs.CertificateModel.{chain_labels, chain_claim, exact_claim, exact_claim_by}
use Rattle.pmap_cert.proofs.Tables.{ascending-filter, ascending-lower, label-same}
use Rattle.cert_check.specs.Checking.{claim_fault, CheckFaultKind, CostTooHigh, SetTooSmall}
use Rattle.cert_check.specs.Inner.{claim_with, has_number}

-- the numbers of labels
abbrev pub numbers : List LabelId → List ℕ
numbers ids = map (λ i. i.0) ids

pub ascending-bound : (bound wide low : ℕ) (ns : List ℕ) → bound ≤ wide → IsAscending bound low ns → IsAscending wide low ns
ascending-bound bound wide low [] le h = tt
ascending-bound bound wide low (n ∷ ns) le h = (h.0, omega (arith, h.1, le), ascending-bound bound wide (n + 1) ns le h.2)

-- an ascending list has no number below its first
pub ascending-lacks : (bound low n : ℕ) (ns : List ℕ) → n < low → IsAscending bound low ns → has_number ns n ≡ false
ascending-lacks bound low n [] less h = refl
ascending-lacks bound low n (m ∷ ns) less h =
    ap (λ b. b || has_number ns n) (ne_eqb m n (λ e. absurd (omega (arith, e, h.0, less))))
    ∙ ascending-lacks bound (m + 1) n ns (omega (arith, h.0, less)) h.2

-- an ascending list without its first number ascends
pub step-ascending : (bound : ℕ) (rest : List LabelId) (first : LabelId) → slice_get rest 0 ≡ Some first → IsAscending bound 0 (numbers rest) → IsAscending bound 0 (numbers (drop 1 rest))
step-ascending bound [] first e h = absurd (none-some first e)
step-ascending bound (r ∷ rest) first e h = ascending-lower bound (r.0 + 1) 0 (numbers rest) (omega arith) h.2

pub step-kept : (rest : List LabelId) (first : LabelId) (n : ℕ) → slice_get rest 0 ≡ Some first → first.0 < n → has_number (numbers (drop 1 rest)) n ≡ has_number (numbers rest) n
step-kept [] first n e less = absurd (none-some first e)
step-kept (r ∷ rest) first n e less =
    let same : r ≡ first = same_Some r first e in
    sym (ap (λ b. b || has_number (numbers rest) n) (ne_eqb r.0 n (λ f. absurd (omega (arith, f, less, ap (λ (i : LabelId). i.0) same)))))

-- the first number of a list that ascends from `id` on is `id` exactly if the list has `id`
pub first-is : (bound : ℕ) (rest : List LabelId) (first id : LabelId) → slice_get rest 0 ≡ Some first → IsAscending bound id.0 (numbers rest) → (first.0 == id.0) ≡ has_number (numbers rest) id.0
first-is bound [] first id e h = absurd (none-some first e)
first-is bound (r ∷ rest) first id e h =
    let same : r ≡ first = same_Some r first e in
    ap (λ (i : LabelId). i.0 == id.0) (sym same)
    ∙ by (r.0 == id.0) (has_number (numbers rest) id.0) (ascending-lacks bound (r.0 + 1) id.0 (numbers rest) (omega (arith, h.0)) h.2)
  where
    by : (a b : Bool) → b ≡ false → a ≡ (a || b)
    by true b none = refl
    by false b none = sym none

-- A walk over two sets at index i of the first: the rest of the other set has all its numbers that are still to come.
pub record IsWalk (set rest other : List LabelId) (i : ℕ) : Type 0 where
  pub low : ℕ
  pub coming : IsAscending (2 ^ 32) low (numbers (drop i set))
  pub ascending : IsAscending (2 ^ 32) 0 (numbers rest)
  pub kept : (n : ℕ) → low ≤ n → has_number (numbers rest) n ≡ has_number (numbers other) n

-- the number at index i is the first of those to come, and the others ascend after it
coming-first : (low : ℕ) (set : List LabelId) (i : ℕ) (d : LabelId) → i < length set → IsAscending (2 ^ 32) low (numbers (drop i set))
    → (low ≤ (get_or set i d).0) × IsAscending (2 ^ 32) ((get_or set i d).0 + 1) (numbers (drop (suc i) set))
coming-first low [] i d less h = absurd (omega arith)
coming-first low (s ∷ set) zero d less h = (h.0, h.2)
coming-first low (s ∷ set) (suc i) d less h = coming-first low set i d (omega (arith, less)) h

module _ (set rest rest' other : List LabelId) (i : ℕ) (d : LabelId) (less : i < length set) (walk : IsWalk set rest other i)
    (ascending : IsAscending (2 ^ 32) (get_or set i d).0 (numbers rest'))
    (kept : (n : ℕ) → (get_or set i d).0 ≤ n → has_number (numbers rest') n ≡ has_number (numbers rest) n) where
  first-coming : (walk.low ≤ (get_or set i d).0) × IsAscending (2 ^ 32) ((get_or set i d).0 + 1) (numbers (drop (suc i) set))
  first-coming = coming-first walk.low set i d less walk.coming

  pub walk-next : IsWalk set rest' other (suc i)
  walk-next = record {
    low = (get_or set i d).0 + 1;
    coming = first-coming.1;
    ascending = ascending-lower (2 ^ 32) (get_or set i d).0 0 (numbers rest') (omega arith) ascending;
    kept = λ n le. kept n (omega (arith, le)) ∙ walk.kept n (omega (arith, le, first-coming.0));
  }

  pub walk-has : has_number (numbers rest') (get_or set i d).0 ≡ has_number (numbers other) (get_or set i d).0
  walk-has = kept (get_or set i d).0 (omega arith) ∙ walk.kept (get_or set i d).0 first-coming.0

-- Sets of label numbers and the sets of their labels.
module _ (table : List Label) (ok : IsLabelTable table) where
  pub has-texts : (low : ℕ) (ns : List ℕ) (n : ℕ) → IsAscending (length table) low ns → n < length table → has_label (map (text_at table) ns) (text_at table n) ≡ has_number ns n
  has-texts low [] n h less = refl
  has-texts low (m ∷ ns) n h less = ap₂ ◌||◌ (label-same table n m ok less h.1 ∙ nat_eq_equiv.symm n m) (has-texts (m + 1) ns n h.2 less)

  pub common-texts : (low low' : ℕ) (ns ms : List ℕ) → IsAscending (length table) low ns → IsAscending (length table) low' ms
      → filter (has_label (map (text_at table) ms)) (map (text_at table) ns) ≡ map (text_at table) (filter (has_number ms) ns)
  common-texts low low' [] ms h h' = refl
  common-texts low low' (n ∷ ns) ms h h' = by (has_number ms n) (has-texts low' ms n h' h.1) (common-texts (n + 1) low' ns ms h.2 h')
    where
      by : (b : Bool) → has_label (map (text_at table) ms) (text_at table n) ≡ b
          → filter (has_label (map (text_at table) ms)) (map (text_at table) ns) ≡ map (text_at table) (filter (has_number ms) ns)
          → filter (has_label (map (text_at table) ms)) (map (text_at table) (n ∷ ns)) ≡ map (text_at table) (cond b (n ∷ filter (has_number ms) ns) (filter (has_number ms) ns))
      by true e rest = ap (λ b. cond b (text_at table n ∷ filter (has_label (map (text_at table) ms)) (map (text_at table) ns)) (filter (has_label (map (text_at table) ms)) (map (text_at table) ns))) e
          ∙ ap (λ (xs : List Label). text_at table n ∷ xs) rest
      by false e rest = ap (λ b. cond b (text_at table n ∷ filter (has_label (map (text_at table) ms)) (map (text_at table) ns)) (filter (has_label (map (text_at table) ms)) (map (text_at table) ns))) e
          ∙ rest

  pub all-texts : (low low' : ℕ) (ns ms : List ℕ) → IsAscending (length table) low ns → IsAscending (length table) low' ms
      → list_all (has_label (map (text_at table) ms)) (map (text_at table) ns) ≡ list_all (has_number ms) ns
  all-texts low low' [] ms h h' = refl
  all-texts low low' (n ∷ ns) ms h h' = ap₂ ◌&&◌ (has-texts low' ms n h' h.1) (all-texts (n + 1) low' ns ms h.2 h')

-- the fault of a claim by its cost, the exact cost, and whether it has all labels of the exact set
abbrev pub fault_by : ℕ → ℕ → Bool → Option CheckFaultKind
fault_by cost exact full = cond (nat_lt exact cost) (Some CostTooHigh) (cond ((cost == exact) && not full) (Some SetTooSmall) None)

-- a walk goes on to the next index
pub goes-on : (set rest rest' other : List LabelId) (i : ℕ) (d : LabelId) → i < length set → IsWalk set rest other i → IsAscending (2 ^ 32) (get_or set i d).0 (numbers rest')
    → ((n : ℕ) → (get_or set i d).0 ≤ n → has_number (numbers rest') n ≡ has_number (numbers rest) n) → IsWalk set rest' other (i + 1)
goes-on set rest rest' other i d less walk ascending kept =
    let e : suc i ≡ i + 1 = omega arith in
    subst (IsWalk set rest' other) e (walk-next set rest rest' other i d less walk ascending kept)

-- a test of the first i + 1 elements, by that of the first i
pub all-more : (p : LabelId → Bool) (set : List LabelId) (i : ℕ) (d : LabelId) → i < length set → p (get_or set i d) ≡ true
    → list_all p (take i set) ≡ true → list_all p (take (i + 1) set) ≡ true
all-more p set i d less here so_far = list_all_more p set i d less ∙ and_from (list_all p (take i set)) (p (get_or set i d)) so_far here

-- an ascending set of a table's numbers ascends below 2 ^ 32
pub set_ascending : (count : ℕ) (ids : List LabelId) → count ≤ 65536 → IsAscending count 0 (numbers ids) → IsAscending (2 ^ 32) 0 (numbers ids)
set_ascending count ids few h = ascending-bound count (2 ^ 32) 0 (numbers ids) (omega (arith, few)) h

-- an implication holds if its premise fails or its conclusion holds
pub or-from : (a b : Bool) → (a ≡ false) ⊎ (b ≡ true) → (not a || b) ≡ true
or-from false b h = refl
or-from true b (inl e) = absurd (false≢true (sym e))
or-from true b (inr e) = e

-- the labels that a set has of those that two others have in common, by their numbers
pub common-numbers : (has_it both : ℕ → Bool) (ids : List LabelId) → list_all (λ i. not (both i.0) || has_it i.0) ids ≡ list_all has_it (filter both (numbers ids))
common-numbers has_it both [] = refl
common-numbers has_it both (x ∷ ids) = by (both x.0) (common-numbers has_it both ids)
  where
    by : (b : Bool) → list_all (λ (i : LabelId). not (both i.0) || has_it i.0) ids ≡ list_all has_it (filter both (numbers ids))
        → ((not b || has_it x.0) && list_all (λ (i : LabelId). not (both i.0) || has_it i.0) ids)
        ≡ list_all has_it (cond b (x.0 ∷ filter both (numbers ids)) (filter both (numbers ids)))
    by true rest = ap (λ a. has_it x.0 && a) rest
    by false rest = rest

-- those that a set has in common with one that contains it are all of its labels
pub implied : (has_it : ℕ → Bool) (ids all : List LabelId) → ((n : ℕ) → has_number (numbers ids) n ≡ true → has_number (numbers all) n ≡ true)
    → list_all (λ i. not (has_number (numbers all) i.0) || has_it i.0) ids ≡ list_all has_it (numbers ids)
implied has_it [] all within = refl
implied has_it (x ∷ ids) all within =
    ap₂ ◌&&◌ (ap (λ b. not b || has_it x.0) (within x.0 (or_left _ _ (eq-eqb x.0 x.0 refl)))) (implied has_it ids all (λ n h. within n (or_right _ _ h)))

-- The fault of an inner node's claim, by the numbers of its set and of the sets of its halves. The empty set has all of
-- their common labels only if there are none.
module _ (table : List Label) (ok : IsLabelTable table) (cost left right : ℕ) (set lower upper : List ℕ)
    (h : IsAscending (length table) 0 set) (h' : IsAscending (length table) 0 lower) (h'' : IsAscending (length table) 0 upper) where
  claim-by : (common : List ℕ) → filter (has_number upper) lower ≡ common
      → claim_fault (claim_with table cost set) (exact_claim (claim_with table left lower) (claim_with table right upper))
      ≡ claim_fault (claim_with table cost set) (exact_claim_by (claim_with table left lower) (claim_with table right upper) (map (text_at table) common))
  claim-by common is =
      ap (λ (xs : List Label). claim_fault (claim_with table cost set) (exact_claim_by (claim_with table left lower) (claim_with table right upper) xs))
      (common-texts table ok 0 0 lower upper h' h'' ∙ ap (map (text_at table)) is)

  pub claim-apart : list_all (has_number []) (filter (has_number upper) lower) ≡ true
      → claim_fault (claim_with table cost set) (exact_claim (claim_with table left lower) (claim_with table right upper))
      ≡ fault_by cost (left + right + 1) (list_all (has_number set) lower && list_all (has_number set) upper)
  claim-apart none = by (filter (has_number upper) lower) refl none
    where
      by : (common : List ℕ) → filter (has_number upper) lower ≡ common → list_all (has_number []) common ≡ true
          → claim_fault (claim_with table cost set) (exact_claim (claim_with table left lower) (claim_with table right upper))
          ≡ fault_by cost (left + right + 1) (list_all (has_number set) lower && list_all (has_number set) upper)
      by [] is none =
          claim-by [] is
          ∙ ap (fault_by cost (left + right + 1))
          (list_all-append (has_label (map (text_at table) set)) (map (text_at table) lower) (map (text_at table) upper)
          ∙ ap₂ ◌&&◌ (all-texts table ok 0 0 lower set h' h) (all-texts table ok 0 0 upper set h'' h))
      by (n ∷ ns) is none = absurd (false≢true none)

  pub claim-common : list_all (has_number []) (filter (has_number upper) lower) ≡ false
      → claim_fault (claim_with table cost set) (exact_claim (claim_with table left lower) (claim_with table right upper))
      ≡ fault_by cost (left + right) (list_all (has_number set) (filter (has_number upper) lower))
  claim-common some = by (filter (has_number upper) lower) refl (ascending-filter (length table) 0 (has_number upper) lower h') some
    where
      by : (common : List ℕ) → filter (has_number upper) lower ≡ common → IsAscending (length table) 0 common → list_all (has_number []) common ≡ false
          → claim_fault (claim_with table cost set) (exact_claim (claim_with table left lower) (claim_with table right upper))
          ≡ fault_by cost (left + right) (list_all (has_number set) common)
      by [] is ascending some = absurd (false≢true (sym some))
      by (n ∷ ns) is ascending some = claim-by (n ∷ ns) is ∙ ap (fault_by cost (left + right)) (all-texts table ok 0 0 (n ∷ ns) set ascending h)

  -- each half has one label
  module _ (low high : ℕ) (is-lower : lower ≡ low ∷ []) (is-upper : upper ≡ high ∷ []) where
    alone : (b : Bool) → (b && true) ≡ b
    alone true = refl
    alone false = refl

    pub claim-same : low ≡ high
        → claim_fault (claim_with table cost set) (exact_claim (claim_with table left lower) (claim_with table right upper))
        ≡ fault_by cost (left + right) (has_number set low)
    claim-same same =
        let here = eq-eqb high low (sym same) in
        let common : filter (has_number upper) lower ≡ low ∷ [] = rw (is-lower, is-upper, here) refl in
        claim-common (rw common refl) ∙ ap (fault_by cost (left + right)) (rw common (alone (has_number set low)))

    pub claim-two : (low ≡ high → ⊥)
        → claim_fault (claim_with table cost set) (exact_claim (claim_with table left lower) (claim_with table right upper))
        ≡ fault_by cost (left + right + 1) (has_number set low && has_number set high)
    claim-two other =
        let absent = ne_eqb high low (λ e. other (sym e)) in
        let none : filter (has_number upper) lower ≡ [] = rw (is-lower, is-upper, absent) refl in
        claim-apart (rw none refl)
        ∙ ap (fault_by cost (left + right + 1)) (rw (is-lower, is-upper) (ap₂ ◌&&◌ (alone (has_number set low)) (alone (has_number set high))))

-- The fault of a chain's claim, by the numbers of its set, its side label and its end's set.
module _ (table : List Label) (ok : IsLabelTable table) (n cost below side : ℕ) (set ends : List ℕ)
    (h : IsAscending (length table) 0 set) (h' : IsAscending (length table) 0 ends) (known : side < length table) where
  chain-by : (b : Bool) → has_number ends side ≡ b
      → claim_fault (claim_with table cost set) (chain_claim n (text_at table side) (claim_with table below ends))
      ≡ claim_fault (claim_with table cost set)
      (cond b (record { cost = below; labels = text_at table side ∷ [] })
      (record { cost = below + 1; labels = chain_labels n (text_at table side) (map (text_at table) ends) }))
  chain-by b e =
      ap (λ (t : Bool). claim_fault (claim_with table cost set)
      (cond t (record { cost = below; labels = text_at table side ∷ [] })
      (record { cost = below + 1; labels = chain_labels n (text_at table side) (map (text_at table) ends) })))
      (has-texts table ok 0 ends side h' known ∙ e)

  side-alone : (exact : ℕ) → claim_fault (claim_with table cost set) (record { cost = exact; labels = text_at table side ∷ [] })
      ≡ fault_by cost exact (has_number set side)
  side-alone exact =
      ap (fault_by cost exact) (and-true (has_label (map (text_at table) set) (text_at table side)) ∙ has-texts table ok 0 set side h known)
    where
      and-true : (b : Bool) → (b && true) ≡ b
      and-true true = refl
      and-true false = refl

  pub chain-in : has_number ends side ≡ true
      → claim_fault (claim_with table cost set) (chain_claim n (text_at table side) (claim_with table below ends)) ≡ fault_by cost below (has_number set side)
  chain-in e = chain-by true e ∙ side-alone below

  pub chain-more : has_number ends side ≡ false → (n ≡ 1 → ⊥)
      → claim_fault (claim_with table cost set) (chain_claim n (text_at table side) (claim_with table below ends)) ≡ fault_by cost (below + 1) (has_number set side)
  chain-more e ne =
      chain-by false e
      ∙ ap (λ (xs : List Label). claim_fault (claim_with table cost set) (record { cost = below + 1; labels = xs })) (alone n ne)
      ∙ side-alone (below + 1)
    where
      alone : (i : ℕ) → (i ≡ 1 → ⊥) → chain_labels i (text_at table side) (map (text_at table) ends) ≡ text_at table side ∷ []
      alone zero ne = refl
      alone (suc zero) ne = absurd (ne refl)
      alone (suc (suc i)) ne = refl

  pub chain-one : has_number ends side ≡ false → n ≡ 1
      → claim_fault (claim_with table cost set) (chain_claim n (text_at table side) (claim_with table below ends))
      ≡ fault_by cost (below + 1) (has_number set side && list_all (has_number set) ends)
  chain-one e one =
      chain-by false e
      ∙ ap (λ (i : ℕ). claim_fault (claim_with table cost set) (record { cost = below + 1; labels = chain_labels i (text_at table side) (map (text_at table) ends) })) one
      ∙ ap (fault_by cost (below + 1)) (ap₂ ◌&&◌ (has-texts table ok 0 set side h known) (all-texts table ok 0 0 ends set h' h))
