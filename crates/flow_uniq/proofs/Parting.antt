-- Rows divided into groups, each with its first row and the others.
use Rattle.std.proofs.Common.{◌≡◌, All, Bool, true, false, not, cond, List, [], ◌∷◌, ◌++◌, map, filter, true≢false, refl, sym, ap, subst, ◌∙◌}
use Rattle.std.specs.Prelude.{slice_index_or}
use Rattle.std.specs.List.{AllByRecursion, IsDistinct, flat_map, list_any}
use Rattle.std.specs.List.Sorted.{IsPermutation}
use Rattle.std.proofs.lemmas.Bool.{not-true}
use Rattle.std.proofs.lemmas.List.{map-append, map-id}
use Rattle.std.proofs.lemmas.List.Elements.{All-cons, All-filter, All-from_recursion, All-head, All-nil, All-tail, All-weaker, filter_passes, recursion_from_All}
use Rattle.std.proofs.lemmas.List.Sorted.{All-permutation, IsPermutation-append_right, IsPermutation-filter_both, IsPermutation-map, IsPermutation-refl, IsPermutation-trans, list_any-IsPermutation}
use Rattle.std.proofs.lemmas.Map.Keys.{IsDistinct-IsPermutation, IsDistinct-head, IsDistinct-tail}
use Rattle.std.proofs.lemmas.Simd.{map-map}
use Rattle.flow_rows.specs.Elements.{RowView}
use Rattle.flow_uniq.specs.Key.{Key, same_key}
use Rattle.flow_uniq.specs.Groups.{distinct_keys}
use Rattle.flow_uniq.specs.Grouped.{grouped}
use Rattle.flow_uniq.proofs.Dividing.{HaveKeys, distinct-distinct_keys, have-more, have-others, keyed_by, other_rows, rows_with-keyed, with-others}
use Rattle.flow_uniq.proofs.Grouping.{any-distinct_keys, rows_with, same_key-equiv}

all-others : (d : Key) (ds : List Key) (rows : List (Key × RowView)) → AllByRecursion (λ e. same_key d e ≡ false) ds
    → flat_map (λ e. rows_with e (other_rows d rows)) ds ≡ flat_map (λ e. rows_with e rows) ds
all-others d [] rows apart = refl
all-others d (e ∷ ds) rows apart = λ i. with-others d e apart.0 rows i ++ all-others d ds rows apart.1 i

-- rows are divided by distinct keys, if each row has one of them
divided : (ds : List Key) (rows : List (Key × RowView)) → IsDistinct same_key ds → HaveKeys ds rows → IsPermutation rows (flat_map (λ d. rows_with d rows) ds)
divided [] [] apart all = IsPermutation-refl []
divided [] (r ∷ rows) apart all = absurd (true≢false (sym all.0))
divided (d ∷ ds) rows apart all =
    let rest = divided ds (other_rows d rows) (IsDistinct-tail same_key d ds apart) (have-others d ds rows all) in
    IsPermutation-trans rows (rows_with d rows ++ other_rows d rows) (rows_with d rows ++ flat_map (λ e. rows_with e rows) ds)
    (IsPermutation-filter_both (λ r. same_key d r.0) (λ r. not (same_key d r.0)) (λ r. refl) rows)
    (IsPermutation-append_right (rows_with d rows) (other_rows d rows) (flat_map (λ e. rows_with e rows) ds)
    (subst (IsPermutation (other_rows d rows)) (all-others d ds rows (IsDistinct-head same_key d ds apart)) rest))

-- The function gives the key of each row.
module _ (key : RowView → Key) where
  abbrev pub having : Key → List RowView → List RowView
  having d rows = filter (λ row. same_key d (key row)) rows

  -- Groups of rows, each as its first row and the others.

  abbrev pub own_rows : RowView × List RowView → List RowView
  own_rows part = part.0 ∷ part.1

  abbrev pub part_key : RowView × List RowView → Key
  part_key part = key part.0

  abbrev pub parts : List RowView → List (RowView × List RowView)
  parts rows = grouped (λ r s. same_key (key r) (key s)) rows

  -- each has the rows with its key, no two have the same key, and there is one for each row
  pub record AreParts (rows : List RowView) (all : List (RowView × List RowView)) : Type 0 where
    pub own : All (λ part. own_rows part ≡ having (part_key part) rows) all
    pub apart : IsDistinct same_key (map part_key all)
    pub have : HaveKeys (map part_key all) (keyed_by key rows)

  parts-own : (rows : List RowView) → All (λ part. own_rows part ≡ having (part_key part) rows) (parts rows)
  parts-own [] = All-nil (λ part. own_rows part ≡ having (part_key part) [])
  parts-own (r ∷ rows) =
      All-cons (λ part. own_rows part ≡ having (part_key part) (r ∷ rows)) (r, having (key r) rows) (filter kept (parts rows))
      (sym (ap (λ b. cond b (r ∷ having (key r) rows) (having (key r) rows)) (same_key-equiv.refl (key r))))
      (λ k d below. more (slice_index_or (filter kept (parts rows)) k d) (filter_passes kept (parts rows) k d below)
      (All-filter kept (λ part. own_rows part ≡ having (part_key part) rows) (parts rows) (parts-own rows) k d below))
    where
      kept : RowView × List RowView → Bool
      kept part = not (same_key (key r) (part_key part))

      more : (part : RowView × List RowView) → kept part ≡ true → own_rows part ≡ having (part_key part) rows → own_rows part ≡ having (part_key part) (r ∷ rows)
      more part passes own =
          own
          ∙ sym (ap (λ b. cond b (r ∷ having (part_key part) rows) (having (part_key part) rows))
          (same_key-equiv.symm (part_key part) (key r) ∙ not-true (same_key (key r) (part_key part)) passes))

  keys-filter : (p : Key → Bool) (all : List (RowView × List RowView)) → map part_key (filter (λ part. p (part_key part)) all) ≡ filter p (map part_key all)
  keys-filter p [] = refl
  keys-filter p (part ∷ all) = by (p (part_key part)) (keys-filter p all)
    where
      by : (b : Bool) → map part_key (filter (λ x. p (part_key x)) all) ≡ filter p (map part_key all)
          → map part_key (cond b (part ∷ filter (λ x. p (part_key x)) all) (filter (λ x. p (part_key x)) all))
          ≡ cond b (part_key part ∷ filter p (map part_key all)) (filter p (map part_key all))
      by true ih = ap (λ (l : List Key). part_key part ∷ l) ih
      by false ih = ih

  pub parts-keys : (rows : List RowView) → map part_key (parts rows) ≡ distinct_keys (map (λ r. r.0) (keyed_by key rows))
  parts-keys [] = refl
  parts-keys (r ∷ rows) =
      ap (λ (l : List Key). key r ∷ l)
      (keys-filter (λ o. not (same_key (key r) o)) (parts rows) ∙ ap (filter (λ o. not (same_key (key r) o))) (parts-keys rows))

  pub parts-are : (rows : List RowView) → AreParts rows (parts rows)
  parts-are rows =
      let keys : List Key = map (λ r. r.0) (keyed_by key rows) in
      record {
        own = parts-own rows;
        apart = subst (IsDistinct same_key) (sym (parts-keys rows)) (distinct-distinct_keys keys);
        have = subst (λ ds. HaveKeys ds (keyed_by key rows)) (sym (parts-keys rows))
            (have-more (distinct_keys keys) (keyed_by key rows) (λ k h. any-distinct_keys k keys ∙ h));
      }

  -- they are the same in any order
  pub parts-in_order : (rows : List RowView) (all other : List (RowView × List RowView)) → IsPermutation all other → AreParts rows all → AreParts rows other
  parts-in_order rows all other same are =
      let keys = IsPermutation-map part_key all other same in
      record {
        own = All-permutation (λ part. own_rows part ≡ having (part_key part) rows) all other same are.own;
        apart = IsDistinct-IsPermutation same_key same_key-equiv.symm (map part_key all) (map part_key other) keys are.apart;
        have = recursion_from_All (Has (map part_key other)) (keyed_by key rows)
            (All-weaker (Has (map part_key all)) (Has (map part_key other))
            (λ r h. sym (list_any-IsPermutation (same_key r.0) (map part_key all) (map part_key other) keys) ∙ h) (keyed_by key rows)
            (All-from_recursion (Has (map part_key all)) (keyed_by key rows) are.have));
      }
    where
      Has : List Key → Key × RowView → Type 0
      Has ds r = list_any (same_key r.0) ds ≡ true

  own-part : (rows : List RowView) (part : RowView × List RowView) → own_rows part ≡ having (part_key part) rows
      → map (λ r. r.1) (rows_with (part_key part) (keyed_by key rows)) ≡ own_rows part
  own-part rows part own =
      ap (map (λ (r : Key × RowView). r.1)) (rows_with-keyed key (part_key part) rows)
      ∙ map-map (λ (r : Key × RowView). r.1) (λ row. (key row, row)) (having (part_key part) rows) ∙ map-id (having (part_key part) rows) ∙ sym own

  own-all : (rows : List RowView) (all : List (RowView × List RowView)) → All (λ part. own_rows part ≡ having (part_key part) rows) all
      → map (λ r. r.1) (flat_map (λ d. rows_with d (keyed_by key rows)) (map part_key all)) ≡ flat_map (λ group. group) (map own_rows all)
  own-all rows [] own = refl
  own-all rows (part ∷ all) own =
      map-append (λ (r : Key × RowView). r.1) (rows_with (part_key part) (keyed_by key rows)) (flat_map (λ d. rows_with d (keyed_by key rows)) (map part_key all))
      ∙ (λ i. own-part rows part (All-head (λ p. own_rows p ≡ having (part_key p) rows) part all own) i
      ++ own-all rows all (All-tail (λ p. own_rows p ≡ having (part_key p) rows) part all own) i)

  -- each row is in one part
  pub parts-once : (rows : List RowView) (all : List (RowView × List RowView)) → AreParts rows all → IsPermutation rows (flat_map (λ group. group) (map own_rows all))
  parts-once rows all are =
      let keyed : List (Key × RowView) = keyed_by key rows in
      let whole : map (λ r. r.1) keyed ≡ rows = map-map (λ (r : Key × RowView). r.1) (λ row. (key row, row)) rows ∙ map-id rows in
      subst (λ (l : List RowView). IsPermutation l (flat_map (λ group. group) (map own_rows all))) whole
      (subst (IsPermutation (map (λ r. r.1) keyed)) (own-all rows all are.own)
      (IsPermutation-map (λ (r : Key × RowView). r.1) keyed (flat_map (λ d. rows_with d keyed) (map part_key all)) (divided (map part_key all) keyed are.apart are.have)))
