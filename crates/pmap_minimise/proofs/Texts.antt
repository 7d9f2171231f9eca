-- Numbers of labels and their texts.
use Rattle.std.proofs.Common.{◌≡◌, ℕ, suc, ◌+◌, ◌^◌, ◌<◌, ◌≤◌, ◌==◌, ◌||◌, ◌∙◌, Bool, true, false, cond, List, [], ◌∷◌, ◌++◌, Option, Some, None, filter, map, length, nat_le, get_or, slice_get, refl, sym, ap, subst, arith, unwrap_or, inl, inr, IsTrue}
use Rattle.std.specs.List.{list_any}
use Rattle.std.specs.Option.{ForSome}
use Rattle.std.specs.Str.{bytes_eq}
use Rattle.std.proofs.lemmas.Bool.{cases_eq, cond-true, cond-false, eq-eqb, false≢true, leb-false, lt-leb, ne_eqb, or_cases, or_from, or_parts}
use Rattle.std.proofs.lemmas.List.Folds.{list_any_at}
use Rattle.std.proofs.lemmas.Slice.Eq.{bytes_eq-Decides}
use Rattle.std.proofs.lemmas.Option.{unwrap_or-slice_get}
use Rattle.pmap_model.specs.Label.{IsLabelTable, has_label}
use Rattle.pmap_model.specs.MapModel.{Label}
use Rattle.pmap_model.specs.MapText.{text_at, text_if_some}
use Rattle.pmap_model.specs.declared.label.LabelId.{LabelId}
use Rattle.pmap_cert.specs.CertificateText.{IsAscending}
use Rattle.pmap_cert.specs.CertificateModel.{Claim, ClaimOf, IsSameClaim, exact_claim, exact_claim_by, map_claim}
use Rattle.pmap_cert.specs.Acceptance.{has_inherited, least_label, in_table_order}
use Rattle.pmap_cert.proofs.Filters.{find-filter}
use Rattle.pmap_cert.proofs.InTableOrder.{listed-known}
use Rattle.pmap_cert.proofs.Sets.{bytes_eq-same, has-append}
use Rattle.pmap_cert.proofs.Tables.{ascending-filter, label-same}
use Rattle.pmap_minimise.specs.Numbers.{IsExact, IsExactBy, IsUnion, common_numbers, has_number, keeps, numbers_of}
use Rattle.pmap_minimise.proofs.Merged.{lacks}

-- ascending numbers that are all below `count` ascend below it
ascending-bounded : (b count low : ℕ) (ns : List ℕ) → IsAscending b low ns → list_any (λ n. nat_le count n) ns ≡ false → IsAscending count low ns
ascending-bounded b count low [] ascending none = tt
ascending-bounded b count low (n ∷ ns) ascending none =
    let parts = or_parts (nat_le count n) (list_any (λ m. nat_le count m) ns) none in
    (ascending.0, leb-false count n parts.0, ascending-bounded b count (n + 1) ns ascending.2 parts.1)

ascending-within : (count low : ℕ) (ns : List ℕ) → IsAscending count low ns → list_any (λ n. nat_le count n) ns ≡ false
ascending-within count low [] ascending = refl
ascending-within count low (n ∷ ns) ascending =
    or_from (nat_le count n) (list_any (λ m. nat_le count m) ns) (lt-leb count n ascending.1) (ascending-within count (n + 1) ns ascending.2)

-- the exact set of two ascending sets ascends, and has a number if one of the sets has
pub exact-ascending : (count : ℕ) (low high claim : ClaimOf ℕ) → IsAscending count 0 low.labels → IsAscending count 0 high.labels → IsExact low high claim → IsAscending count 0 claim.labels
exact-ascending count low high claim low_ascending high_ascending exact =
    by (common_numbers low.labels high.labels) (ascending-filter count 0 (has_number high.labels) low.labels low_ascending) exact
  where
    by : (ns : List ℕ) → IsAscending count 0 ns → IsExactBy low high ns claim → IsAscending count 0 claim.labels
    by [] ascending exact =
        ascending-bounded (2 ^ 32) count 0 claim.labels exact.2
        (exact.1 (λ n. nat_le count n)
        ∙ or_from (list_any (λ n. nat_le count n) low.labels) (list_any (λ n. nat_le count n) high.labels) (ascending-within count 0 low.labels low_ascending)
        (ascending-within count 0 high.labels high_ascending))
    by (n ∷ ns) ascending exact = subst (λ (s : List ℕ). IsAscending count 0 s) (sym exact.1) ascending

union-some : (m : ℕ) (ms high set : List ℕ) → IsUnion (m ∷ ms) high set → 0 < length set
union-some m ms high [] union = absurd (false≢true (union (λ n. true)))
union-some m ms high (n ∷ ns) union = omega arith

pub exact-some : (low high claim : ClaimOf ℕ) → 0 < length low.labels → IsExact low high claim → 0 < length claim.labels
exact-some low high claim some exact = by (common_numbers low.labels high.labels) low.labels some exact
  where
    by : (ns : List ℕ) (ls : List ℕ) → 0 < length ls → IsExactBy (record { cost = low.cost; labels = ls }) high ns claim → 0 < length claim.labels
    by [] [] some exact = absurd (omega arith)
    by [] (m ∷ ms) some exact = union-some m ms high.labels claim.labels exact.1
    by (n ∷ ns) ls some exact = subst (λ (s : List ℕ). 0 < length s) (sym exact.1) (omega arith)

pub exact-cost : (low high claim : ClaimOf ℕ) → IsExact low high claim → claim.cost ≤ low.cost + high.cost + 1
exact-cost low high claim exact = by (common_numbers low.labels high.labels) exact
  where
    by : (ns : List ℕ) → IsExactBy low high ns claim → claim.cost ≤ low.cost + high.cost + 1
    by [] exact = let e = exact.0 in omega arith
    by (n ∷ ns) exact = let e = exact.0 in omega arith

-- a test of the texts is a test of their numbers
any-texts : (table : List Label) (p : Label → Bool) (ns : List ℕ) → list_any p (map (text_at table) ns) ≡ list_any (λ n. p (text_at table n)) ns
any-texts table p [] = refl
any-texts table p (n ∷ ns) = ap (λ (t : Bool). p (text_at table n) || t) (any-texts table p ns)

pub table-has : (table : List Label) (n : ℕ) → n < length table → IsTrue (has_label table (text_at table n))
table-has table n known =
    list_any_at (bytes_eq (text_at table n)) table n [] known
    (ap (bytes_eq (text_at table n)) (sym (unwrap_or-slice_get table n [])) ∙ bytes_eq-same (text_at table n))

module _ (table : List Label) (ok : IsLabelTable table) where
  pub texts-has : (low : ℕ) (ns : List ℕ) (n : ℕ) → IsAscending (length table) low ns → n < length table
      → has_label (map (text_at table) ns) (text_at table n) ≡ has_number ns n
  texts-has low [] n ascending known = refl
  texts-has low (m ∷ ns) n ascending known =
      ap (λ (t : Bool). t || has_label (map (text_at table) ns) (text_at table n)) (label-same table n m ok known ascending.1)
      ∙ ap (λ (t : Bool). (n == m) || t) (texts-has (m + 1) ns n ascending.2 known)

  kept : (b c : Bool) → b ≡ c → (n : ℕ) (xs : List Label) (ns : List ℕ) → xs ≡ map (text_at table) ns
      → cond b (text_at table n ∷ xs) xs ≡ map (text_at table) (cond c (n ∷ ns) ns)
  kept b true e n xs ns same = cond-true b (text_at table n ∷ xs) xs e ∙ ap (λ (l : List Label). text_at table n ∷ l) same
  kept b false e n xs ns same = cond-false b (text_at table n ∷ xs) xs e ∙ same

  texts-common : (from low : ℕ) (ls hs : List ℕ) → IsAscending (length table) from ls → IsAscending (length table) low hs
      → filter (has_label (map (text_at table) hs)) (map (text_at table) ls) ≡ map (text_at table) (common_numbers ls hs)
  texts-common from low [] hs ascending also = refl
  texts-common from low (n ∷ ls) hs ascending also =
      kept (has_label (map (text_at table) hs) (text_at table n)) (has_number hs n) (texts-has low hs n also ascending.1) n
      (filter (has_label (map (text_at table) hs)) (map (text_at table) ls)) (common_numbers ls hs)
      (texts-common (n + 1) low ls hs ascending.2 also)

  abbrev texts : ClaimOf ℕ → Claim
  texts claim = map_claim (text_at table) claim

  -- the exact claim by numbers is the exact claim of the texts
  same_claim : (low high claim : ClaimOf ℕ) → IsAscending (length table) 0 low.labels → IsAscending (length table) 0 high.labels → IsExact low high claim
      → IsSameClaim (texts claim) (exact_claim (texts low) (texts high))
  same_claim low high claim ascending also exact =
      subst (λ (common : List Label). IsSameClaim (texts claim) (exact_claim_by (texts low) (texts high) common)) (sym (texts-common 0 0 low.labels high.labels ascending also))
      (by (common_numbers low.labels high.labels) exact)
    where
      union : (x : Label) → IsUnion low.labels high.labels claim.labels → has_label (texts claim).labels x ≡ has_label ((texts low).labels ++ (texts high).labels) x
      union x all =
          any-texts table (bytes_eq x) claim.labels ∙ all (λ n. bytes_eq x (text_at table n))
          ∙ ap (λ (t : Bool). t || list_any (λ n. bytes_eq x (text_at table n)) high.labels) (sym (any-texts table (bytes_eq x) low.labels))
          ∙ ap (λ (t : Bool). has_label (texts low).labels x || t) (sym (any-texts table (bytes_eq x) high.labels))
          ∙ sym (has-append (texts low).labels (texts high).labels x)

      by : (ns : List ℕ) → IsExactBy low high ns claim → IsSameClaim (texts claim) (exact_claim_by (texts low) (texts high) (map (text_at table) ns))
      by [] exact = record { cost = exact.0; labels = λ x. union x exact.1 }
      by (n ∷ ns) exact = record { cost = exact.0; labels = λ x. ap (λ (s : List ℕ). has_label (map (text_at table) s) x) exact.1 }

  abbrev AreThose : List Label → ℕ → List ℕ → Type 0
  AreThose s first ns = (j : ℕ) → first ≤ j → j < length table → has_label s (text_at table j) ≡ has_number ns j

  -- labels of the table with ascending numbers, taken from the table's labels from `low` on
  kept-from : (s : List Label) (low : ℕ) (xs : List Label) (ns : List ℕ) → IsAscending (length table) low ns → low + length xs ≡ length table
      → ((j : ℕ) → j < length xs → get_or xs j [] ≡ text_at table (low + j))
      → AreThose s low ns → filter (has_label s) xs ≡ map (text_at table) ns
  kept-from s low [] [] ascending all at same = refl
  kept-from s low [] (n ∷ ns) ascending all at same = let from = ascending.0 in let to = ascending.1 in absurd (omega arith)
  kept-from s low (x ∷ xs) ns ascending all at same =
      by ns ascending same (ap (has_label s) here ∙ same low (omega arith) (omega arith)) (λ ms up same'. kept-from s (low + 1) xs ms up (omega arith) later same')
    where
      here : x ≡ text_at table low
      here = let none : low + 0 ≡ low = omega arith in at 0 (omega arith) ∙ ap (text_at table) none

      later : (j : ℕ) → j < length xs → get_or xs j [] ≡ text_at table (low + 1 + j)
      later j less = let next : low + suc j ≡ low + 1 + j = omega arith in at (suc j) (omega arith) ∙ ap (text_at table) next

      by : (ns : List ℕ) → IsAscending (length table) low ns → AreThose s low ns → has_label s x ≡ has_number ns low
          → ((ms : List ℕ) → IsAscending (length table) (low + 1) ms → AreThose s (low + 1) ms → filter (has_label s) xs ≡ map (text_at table) ms)
          → filter (has_label s) (x ∷ xs) ≡ map (text_at table) ns
      by [] ascending same test go =
          cond-false (has_label s x) (x ∷ filter (has_label s) xs) (filter (has_label s) xs) test ∙ go [] tt (λ j from to. same j (omega arith) to)
      by (n ∷ ns) ascending same test go = elim (cases_eq n low) [
        | inl own ↦
            let first : has_label s x ≡ true = test ∙ ap (λ (b : Bool). b || has_number ns low) (eq-eqb low n (sym own)) in
            let text : x ≡ text_at table n = here ∙ ap (text_at table) (sym own) in
            let rest = go ns (subst (λ (k : ℕ). IsAscending (length table) (k + 1) ns) own ascending.2)
            (λ j from to. same j (omega arith) to ∙ ap (λ (b : Bool). b || has_number ns j) (ne_eqb j n (λ e. omega arith))) in
            cond-true (has_label s x) (x ∷ filter (has_label s) xs) (filter (has_label s) xs) first ∙ (λ i. text i ∷ rest i)
        | inr other ↦
            let from = ascending.0 in
            let up : IsAscending (length table) (low + 1) (n ∷ ns) = (omega arith, ascending.1, ascending.2) in
            cond-false (has_label s x) (x ∷ filter (has_label s) xs) (filter (has_label s) xs) (test ∙ lacks (length table) (low + 1) (n ∷ ns) low up (omega arith))
            ∙ go (n ∷ ns) up (λ j from to. same j (omega arith) to)
      ]

  kept-all : (s : List Label) (ns : List ℕ) → IsAscending (length table) 0 ns → AreThose s 0 ns → filter (has_label s) table ≡ map (text_at table) ns
  kept-all s ns ascending same =
      kept-from s 0 table ns ascending (omega arith) (λ j less. let none : j ≡ 0 + j = omega arith in sym (unwrap_or-slice_get table j []) ∙ ap (text_at table) none) same

  texts-known : (low : ℕ) (ns : List ℕ) (x : Label) → IsAscending (length table) low ns → has_label (map (text_at table) ns) x ≡ true → has_label table x ≡ true
  texts-known low [] x ascending h = absurd (false≢true h)
  texts-known low (n ∷ ns) x ascending h = elim (or_cases (bytes_eq x (text_at table n)) (has_label (map (text_at table) ns) x) h) [
    | inl same ↦ subst (λ (y : Label). has_label table y ≡ true) (sym ((bytes_eq-Decides x (text_at table n)).0 same)) (table-has table n ascending.1)
    | inr later ↦ texts-known (n + 1) ns x ascending.2 later
  ]

  -- and its set is in the order of the table
  pub listed_claim : (low high claim : ClaimOf ℕ) → IsAscending (length table) 0 low.labels → IsAscending (length table) 0 high.labels → IsExact low high claim
      → texts claim ≡ in_table_order table (exact_claim (texts low) (texts high))
  listed_claim low high claim up also exact =
      let e : Claim = exact_claim (texts low) (texts high) in
      let same = same_claim low high claim up also exact in
      let ascending = exact-ascending (length table) low high claim up also exact in
      let kept = kept-all e.labels claim.labels ascending (λ j from to. sym (same.labels (text_at table j)) ∙ texts-has 0 claim.labels j ascending to) in
      let labels = sym kept ∙ sym (listed-known table e (λ x h. texts-known 0 claim.labels x ascending (same.labels x ∙ h))) in
      λ i. record { cost = same.cost i; labels = labels i }

  -- whether the inherited label is kept is the same by texts and by numbers
  pub keeps-texts : (ids : List LabelId) (inherited : Option LabelId) → IsAscending (length table) 0 (numbers_of ids) → ForSome inherited (λ id. id.0 < length table)
      → has_inherited (map (text_at table) (numbers_of ids)) (text_if_some table inherited) ≡ keeps ids inherited
  keeps-texts ids None ascending known = refl
  keeps-texts ids (Some id) ascending known = texts-has 0 (numbers_of ids) id.0 ascending (known id refl)

  -- the first of ascending numbers is the least label's
  pub least-texts : (n : ℕ) (ns : List ℕ) → IsAscending (length table) 0 (n ∷ ns) → least_label table (map (text_at table) (n ∷ ns)) ≡ text_at table n
  least-texts n ns ascending =
      let s = map (text_at table) (n ∷ ns) in
      ap (λ (o : Option Label). unwrap_or o (text_at table n))
      (find-filter (has_label s) table ∙ ap (λ (l : List Label). slice_get l 0) (kept-all s (n ∷ ns) ascending (λ j from to. texts-has 0 (n ∷ ns) j ascending to)))
