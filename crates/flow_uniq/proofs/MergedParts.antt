-- The groups of all rows are the groups of each part of the rows, merged.
use Rattle.std.proofs.Common.{◌≡◌, ◌∙◌, Equal, Greater, Less, Ordering, Bool, true, false, not, ◌||◌, ◌&&◌, cond, Option, List, [], ◌∷◌, ◌++◌, map, filter, refl, sym, ap}
use Rattle.std.specs.Cmp.{IsStrictWeakOrder}
use Rattle.std.specs.Cmp.Lexicographic.{lists_ties, slice_cmp, texts_ties}
use Rattle.std.specs.Ordering.{is_eq, is_lt, ordering_reverse}
use Rattle.std.specs.List.{AllByRecursion, flat_map, list_any}
use Rattle.std.specs.List.Sorted.{IsPermutation, ties}
use Rattle.std.proofs.lemmas.Bool.{not-true}
use Rattle.std.proofs.lemmas.Cmp.{lists_total, nat_list_cmp_total, on_total}
use Rattle.std.proofs.lemmas.List.{map-append, map-id}
use Rattle.std.proofs.lemmas.List.Elements.{filter_agree}
use Rattle.std.proofs.lemmas.List.Sorted.{IsPermutation-append, IsPermutation-map, IsPermutation-refl, list_any-IsPermutation, ranks_by}
use Rattle.std.proofs.lemmas.Simd.{map-map}
use Rattle.prefix_keys.specs.Text.{AddressOf}
use Rattle.pmap_model.specs.MapModel.{Label}
use Rattle.pmap_model.specs.Sorting.{in_order}
use Rattle.pmap_model.proofs.Sorting.{in_order-sorted, same-in_order, sorted_is, stable-in_order}
use Rattle.flow_rows.specs.Elements.{RowView}
use Rattle.flow_uniq.specs.Key.{Key, KeyField, compare_parts, key_of, part_numbers, same_key}
use Rattle.flow_uniq.specs.Groups.{GroupModel, distinct_keys, groups_of, is_before, totals_of}
use Rattle.flow_uniq.specs.Laws.{DivideRows, MergedAreAll, merged, totals_at}
use Rattle.flow_uniq.proofs.Codes.{same_key-Decides}
use Rattle.flow_uniq.proofs.Dividing.{groups-divide, keyed_by}
use Rattle.flow_uniq.proofs.Filtering.{filter-map, filter-none, filter-swap, filter-weaker, sum_by-filter_moved}
use Rattle.flow_uniq.proofs.Grouping.{other_than, rows_with, same_key-equiv}
use Rattle.flow_uniq.proofs.Merging.{Number, at_key, has_key, keys_in, octets, packets, parts-sums_at, records}

-- ---- the distinct keys of distinct keys

abbrev others : Key → List Key → List Key
others k ks = filter (other_than k) ks

others-same : (k d : Key) (ks : List Key) → same_key k d ≡ true → others d ks ≡ others k ks
others-same k d ks s = λ i. filter (λ o. not (sym (same_key-equiv.congr k d o s) i)) ks

-- keys that are left out at the end may be left out before
left_out : (k : Key) (ks more : List Key) → others k (distinct_keys (others k ks ++ more)) ≡ others k (distinct_keys (ks ++ more))
left_out k [] more = refl
left_out k (x ∷ ks) more = by (same_key k x) refl (left_out k ks more)
  where
    by : (b : Bool) → same_key k x ≡ b → others k (distinct_keys (others k ks ++ more)) ≡ others k (distinct_keys (ks ++ more))
        → others k (distinct_keys (cond (not b) (x ∷ others k ks) (others k ks) ++ more))
        ≡ cond (not b) (x ∷ others k (others x (distinct_keys (ks ++ more)))) (others k (others x (distinct_keys (ks ++ more))))
    by true e ih =
        ih ∙ sym (ap (others k) (others-same k x (distinct_keys (ks ++ more)) e)
        ∙ filter-weaker (other_than k) (other_than k) (λ o h. h) (distinct_keys (ks ++ more)))
    by false e ih =
        rw e (ap (λ (l : List Key). x ∷ l)
        (filter-swap (other_than k) (other_than x) (distinct_keys (others k ks ++ more)) ∙ ap (others x) ih
        ∙ filter-swap (other_than x) (other_than k) (distinct_keys (ks ++ more))))

distinct-first : (ks more : List Key) → distinct_keys (distinct_keys ks ++ more) ≡ distinct_keys (ks ++ more)
distinct-first [] more = refl
distinct-first (k ∷ ks) more = ap (λ (l : List Key). k ∷ l) (left_out k (distinct_keys ks) more ∙ ap (others k) (distinct-first ks more))

distinct-more : (ks more less : List Key) → distinct_keys more ≡ distinct_keys less → distinct_keys (ks ++ more) ≡ distinct_keys (ks ++ less)
distinct-more [] more less e = e
distinct-more (k ∷ ks) more less e = ap (λ (l : List Key). k ∷ others k l) (distinct-more ks more less e)

-- ---- in the order of the first rows

module _ (fields : List KeyField) (label : AddressOf → Option Label) where
  abbrev key : RowView → Key
  key = key_of label fields

  abbrev groups : List RowView → List GroupModel
  groups rows = groups_of fields label rows

  abbrev all_rows : List (List RowView) → List RowView
  all_rows parts = flat_map (λ rows. rows) parts

  abbrev all_groups : List (List RowView) → List GroupModel
  all_groups parts = flat_map groups parts

  abbrev row_keys : List RowView → List Key
  row_keys rows = map (λ r. r.0) (keyed_by key rows)

  each-divides : (parts : List (List RowView)) → AllByRecursion (λ rows. DivideRows key rows (groups rows)) parts
  each-divides [] = tt
  each-divides (rows ∷ parts) = (groups-divide fields label rows, each-divides parts)

  group_keys : (rows : List RowView) → keys_in (groups rows) ≡ distinct_keys (row_keys rows)
  group_keys rows =
      let group : Key → GroupModel = λ k. record { key = k; totals = totals_of (rows_with k (keyed_by key rows)) } in
      map-map (λ (g : GroupModel). g.key) group (distinct_keys (row_keys rows)) ∙ map-id (distinct_keys (row_keys rows))

  same_keys : (parts : List (List RowView)) → distinct_keys (keys_in (all_groups parts)) ≡ distinct_keys (row_keys (all_rows parts))
  same_keys [] = refl
  same_keys (rows ∷ parts) =
      ap distinct_keys (map-append (λ (g : GroupModel). g.key) (groups rows) (all_groups parts) ∙ ap (λ (l : List Key). l ++ keys_in (all_groups parts)) (group_keys rows))
      ∙ distinct-first (row_keys rows) (keys_in (all_groups parts))
      ∙ distinct-more (row_keys rows) (keys_in (all_groups parts)) (row_keys (all_rows parts)) (same_keys parts)
      ∙ ap distinct_keys (sym (ap (map (λ r. r.0)) (map-append (λ (row : RowView). let R : Key × RowView = (key row, row) in R) rows (all_rows parts))
      ∙ map-append (λ (r : Key × RowView). r.0) (keyed_by key rows) (keyed_by key (all_rows parts))))

  same_totals : (parts : List (List RowView)) (k : Key) → totals_at k (all_groups parts) ≡ totals_of (rows_with k (keyed_by key (all_rows parts)))
  same_totals parts k =
      let at : (n : Number key) → at_key n.of_keyed n.part (keyed_by key (all_rows parts)) k (all_groups parts) ≡ n.of_keyed (rows_with k (keyed_by key (all_rows parts))) =
      λ n. parts-sums_at key (λ rows. rows) groups n k parts (each-divides parts) in
      λ i. record { records = at (records key) i; packets = at (packets key) i; octets = at (octets key) i }

  groups-parts : (parts : List (List RowView)) → groups (all_rows parts) ≡ merged (all_groups parts)
  groups-parts parts = λ i. map (λ k. record { key = k; totals = sym (same_totals parts k) i }) (sym (same_keys parts) i)

-- ---- groups that tie in the order of groups have the same key

pub before-order : IsStrictWeakOrder is_before
before-order = ranks_by (lists_total (on_total part_numbers nat_list_cmp_total)) (λ (g : GroupModel). g.key)

tied : (o p : Ordering) → p ≡ ordering_reverse o → (not (is_lt o) && not (is_lt p)) ≡ is_eq o
tied Less p e = refl
tied Equal p e = ap (λ r. not (is_lt r)) e
tied Greater p e = ap (λ r. not (is_lt r)) e

ties-same_key : (z g : GroupModel) → ties is_before z g ≡ same_key z.key g.key
ties-same_key z g =
    tied (compare z.key g.key) (compare g.key z.key) ((lists_total (on_total part_numbers nat_list_cmp_total)).antisymm g.key z.key)
    ∙ sym (lists_ties compare_parts (λ p q. texts_ties (part_numbers p) (part_numbers q)) z.key g.key)
  where
    compare : Key → Key → Ordering
    compare = slice_cmp compare_parts

-- ---- sorted groups

-- of the distinct keys only one is the same as a key
distinct-same : (k : Key) (ks : List Key) → filter (same_key k) (distinct_keys ks) ≡ cond (list_any (same_key k) ks) (k ∷ []) []
distinct-same k [] = refl
distinct-same k (x ∷ ks) = by (same_key k x) refl (distinct-same k ks)
  where
    ds : List Key
    ds = distinct_keys ks

    by : (b : Bool) → same_key k x ≡ b → filter (same_key k) ds ≡ cond (list_any (same_key k) ks) (k ∷ []) []
        → cond b (x ∷ filter (same_key k) (others x ds)) (filter (same_key k) (others x ds)) ≡ cond (b || list_any (same_key k) ks) (k ∷ []) []
    by true e ih =
        let none = filter-none (other_than x) (same_key k) (λ o h. same_key-equiv.congr k x o e ∙ not-true (same_key x o) h) ds in
        λ i. sym ((same_key-Decides k x).0 e) i ∷ none i
    by false e ih =
        filter-weaker (other_than x) (same_key k)
        (λ o h. ap not (same_key-equiv.symm x o ∙ sym (same_key-equiv.congr k o x h) ∙ e)) ds
        ∙ ih

module _ (groups : List GroupModel) where
  abbrev group_at : Key → GroupModel
  group_at k = record { key = k; totals = totals_at k groups }

  -- the groups that tie with a group, after merging
  merged-ties : (z : GroupModel) → filter (ties is_before z) (merged groups) ≡ map group_at (cond (has_key z.key groups) (z.key ∷ []) [])
  merged-ties z =
      filter_agree (ties is_before z) (λ g. same_key z.key g.key) (ties-same_key z) (merged groups)
      ∙ filter-map group_at (λ g. same_key z.key g.key) (distinct_keys (keys_in groups))
      ∙ ap (map group_at) (distinct-same z.key (keys_in groups))

-- the order of the groups doesn't matter to those that are merged and sorted
module _ (xs ys : List GroupModel) (same : IsPermutation xs ys) where
  totals-moved : (k : Key) → totals_at k xs ≡ totals_at k ys
  totals-moved k =
      let own : GroupModel → Bool = λ g. same_key k g.key in
      λ i. record {
        records = sum_by-filter_moved own (λ g. g.totals.records) xs ys same i;
        packets = sum_by-filter_moved own (λ g. g.totals.packets) xs ys same i;
        octets = sum_by-filter_moved own (λ g. g.totals.octets) xs ys same i;
      }

  has_key-moved : (k : Key) → has_key k xs ≡ has_key k ys
  has_key-moved k = list_any-IsPermutation (same_key k) (keys_in xs) (keys_in ys) (IsPermutation-map (λ (g : GroupModel). g.key) xs ys same)

  sorted-moved : in_order is_before (merged xs) ≡ in_order is_before (merged ys)
  sorted-moved =
      sorted_is is_before before-order (merged ys) (in_order is_before (merged xs)) (in_order-sorted is_before before-order (merged xs))
      (λ z. stable-in_order is_before before-order z (merged xs) ∙ merged-ties xs z
      ∙ (λ i. map (λ k. record { key = k; totals = totals-moved k i }) (cond (has_key-moved z.key i) (z.key ∷ []) []))
      ∙ sym (merged-ties ys z))

module _ (fields : List KeyField) (label : AddressOf → Option Label) where
  sorted-parts : (parts : List (List RowView))
      → IsPermutation (flat_map (groups_of fields label) parts) (flat_map (λ rows. in_order is_before (groups_of fields label rows)) parts)
  sorted-parts [] = IsPermutation-refl []
  sorted-parts (rows ∷ parts) =
      IsPermutation-append (groups_of fields label rows) (in_order is_before (groups_of fields label rows))
      (flat_map (groups_of fields label) parts) (flat_map (λ rows. in_order is_before (groups_of fields label rows)) parts)
      (same-in_order is_before (groups_of fields label rows)) (sorted-parts parts)

pub merged_are_all : MergedAreAll
merged_are_all fields label false parts = groups-parts fields label parts
merged_are_all fields label true parts =
    ap (in_order is_before) (groups-parts fields label parts)
    ∙ sorted-moved (flat_map (groups_of fields label) parts) (flat_map (λ rows. in_order is_before (groups_of fields label rows)) parts)
    (sorted-parts fields label parts)
