-- The groups of rows by keys are those by fields.
use Rattle.std.proofs.Common.{if◌then◌else◌, ◌≡◌, ◌∙◌, ℕ, zero, suc, ◌<◌, inl, inr, All, Bool, true, false, true≢false, List, [], ◌∷◌, Option, length, map, refl, sym, ap, subst, arith}
use Rattle.std.specs.Prelude.{Contains, slice_index_or}
use Rattle.std.specs.Cmp.{IsStrictWeakOrder}
use Rattle.std.specs.Cmp.Lexicographic.{lists_ties, slice_cmp, texts_ties}
use Rattle.std.specs.List.Sorted.{IsSortedBy}
use Rattle.std.specs.declared.cmp.Ordering.{Ordering}
use Rattle.std.specs.declared.cmp.Ordering.TheVariants.{Less, Equal, Greater}
use Rattle.std.specs.Ordering.{is_eq, is_lt, ordering_reverse}
use Rattle.std.proofs.lemmas.Bool.{cases_lt}
use Rattle.std.proofs.lemmas.Cmp.{lists_total, nat_list_cmp_total, on_total}
use Rattle.std.proofs.lemmas.List.{get_or-map, length-map}
use Rattle.std.proofs.lemmas.List.Elements.{All-contains, All-head, All-tail, filter_passes}
use Rattle.std.proofs.lemmas.List.Sorted.{ranks_by, sorted_far}
use Rattle.std.proofs.lemmas.Map.Keys.{apart_from_distinct}
use Rattle.prefix_keys.specs.Text.{AddressOf}
use Rattle.pmap_model.specs.MapModel.{Label}
use Rattle.pmap_model.specs.Sorting.{in_order}
use Rattle.pmap_model.proofs.Sorting.{in_order-sorted, map-in_order, same-in_order}
use Rattle.flow_rows.specs.Elements.{RowView}
use Rattle.flow_uniq.specs.Key.{Key, KeyField, compare_parts, key_of, part_numbers, same_key}
use Rattle.flow_uniq.specs.Groups.{GroupModel, groups_of, is_before, shown_groups, totals_of}
use Rattle.flow_uniq.specs.Grouped.{AreGrouped, group_with, grouped, row_groups}
use Rattle.flow_uniq.proofs.Codes.{same_key-Decides}
use Rattle.flow_uniq.proofs.Dividing.{keyed_by, rows_with-keyed, sum_by-keyed}
use Rattle.flow_uniq.proofs.Parting.{AreParts, having, own_rows, part_key, parts, parts-are, parts-in_order, parts-keys, parts-once}
use Rattle.flow_uniq.proofs.Grouping.{rows_with, same_key-equiv}

abbrev Part : Type 0
Part = RowView × List RowView

-- an item of the list with an index is one of the list made from the part there
within : {X Y : Type 0} (f : X → List Y) (all : List X) (i : ℕ) (y : Y) → Contains (slice_index_or (map f all) i []) y
    → (i < length all) × ((d : X) → Contains (f (slice_index_or all i d)) y)
within f [] i y (k, below, is) = absurd (omega arith)
within f (x ∷ all) zero y has = (omega arith, λ d. has)
within f (x ∷ all) (suc i) y has = let (below, has') = within f all i y has in (omega arith, has')

-- keys tie if they are the same
ties : (a b : Key) → same_key a b ≡ is_eq (slice_cmp compare_parts a b)
ties a b = lists_ties compare_parts (λ p q. texts_ties (part_numbers p) (part_numbers q)) a b

-- of two different keys, one is before the other
before-other : (this that : Key) → is_lt (slice_cmp compare_parts that this) ≡ false → (this ≡ that → ⊥)
    → slice_cmp compare_parts this that ≡ Less
before-other this that after differ = by (slice_cmp compare_parts this that) refl
  where
    by : (o : Ordering) → slice_cmp compare_parts this that ≡ o → slice_cmp compare_parts this that ≡ Less
    by Less e = e
    by Equal e = absurd (differ ((same_key-Decides this that).0 (ties this that ∙ ap is_eq e)))
    by Greater e = absurd (true≢false (sym (ap is_lt ((lists_total (on_total part_numbers nat_list_cmp_total)).antisymm that this ∙ ap ordering_reverse e)) ∙ after))

module _ (label : AddressOf → Option Label) (fields : List KeyField) (rows : List RowView) where
  abbrev key : RowView → Key
  key = key_of label fields

  abbrev before : Part → Part → Bool
  before p q = is_lt (slice_cmp compare_parts (part_key key p) (part_key key q))

  before-order : IsStrictWeakOrder before
  before-order = ranks_by (lists_total (on_total part_numbers nat_list_cmp_total)) (part_key key)

  module _ (all : List Part) (are : AreParts key rows all) where
    -- a row of a part has the key of the part
    row-key : (i : ℕ) (d : Part) (r : RowView) → i < length all → Contains (own_rows key (slice_index_or all i d)) r
        → part_key key (slice_index_or all i d) ≡ key r
    row-key i d r below has =
        let part : Part = slice_index_or all i d in
        let k : Key = part_key key part in
        (same_key-Decides k (key r)).0 (All-contains (λ row. same_key k (key row) ≡ true) (having key k rows) r
        (filter_passes (λ row. same_key k (key row)) rows) (subst (λ (l : List RowView). Contains l r) (are.own i d below) has))

    -- two parts with the same key are not one before the other
    apart : (i j : ℕ) (d : Part) → i < j → j < length all → part_key key (slice_index_or all i d) ≡ part_key key (slice_index_or all j d) → ⊥
    apart i j d less below e =
        let k : Key = part_key key (slice_index_or all i d) in
        let first = get_or-map (part_key key) all i d k (omega arith) in
        let second = get_or-map (part_key key) all j d k below in
        let long : j < length (map (part_key key) all) = omega (arith, length-map all (part_key key)) in
        true≢false (sym (same_key-equiv.refl k)
        ∙ (λ t. same_key (sym first t) ((e ∙ sym second) t)) ∙ apart_from_distinct same_key (map (part_key key) all) i j k are.apart less long)

    divides : (sorted : Bool) → (sorted ≡ true → IsSortedBy before all) → AreGrouped label fields sorted rows (map (own_rows key) all)
    divides sorted up = record {
      once = parts-once key rows all are;
      together = λ i j r s in_i in_j.
          let (below_i, has_i) = within (own_rows key) all i r in_i in
          let (below_j, has_j) = within (own_rows key) all j s in_j in
          let d : Part = (r, []) in
          let key_r : part_key key (slice_index_or all i d) ≡ key r = row-key i d r below_i (has_i d) in
          let key_s : part_key key (slice_index_or all j d) ≡ key s = row-key j d s below_j (has_j d) in
          let one : key r ≡ key s → i ≡ j = λ same.
          let e : part_key key (slice_index_or all i d) ≡ part_key key (slice_index_or all j d) = key_r ∙ same ∙ sym key_s in
          elim (cases_lt i j) [
            | inl less ↦ absurd (apart i j d less below_j e)
            | inr le ↦ elim (cases_lt j i) [ inl less ↦ absurd (apart j i d less below_i (sym e)) | inr ge ↦ omega arith ]
          ] in (
            (λ same. sym key_r ∙ ap (λ (n : ℕ). part_key key (slice_index_or all n d)) same ∙ key_s, one),
            λ is_sorted less.
                let after : is_lt (slice_cmp compare_parts (key s) (key r)) ≡ false =
                sym (λ t. is_lt (slice_cmp compare_parts (key_s t) (key_r t)))
                ∙ sorted_far before before-order all (up is_sorted) i j d (omega arith) below_j in
                before-other (key r) (key s) after (λ e. let same : i ≡ j = one e in omega arith),
          );
    }

  -- The groups are those of the parts.

  abbrev group_of : Key → GroupModel
  group_of k = record { key = k; totals = totals_of (rows_with k (keyed_by key rows)) }

  group-part : (part : Part) → own_rows key part ≡ having key (part_key key part) rows → group_of (part_key key part) ≡ group_with label fields part
  group-part part own =
      let all : List RowView = own_rows key part in
      ap (λ (l : List (Key × RowView)). record { key = part_key key part; totals = totals_of l })
      (rows_with-keyed key (part_key key part) rows ∙ ap (keyed_by key) (sym own))
      ∙ (λ i. record {
        key = part_key key part;
        totals = record {
          records = length-map all (λ row. let R : Key × RowView = (key row, row) in R) i;
          packets = sum_by-keyed key (λ r. r.packets) all i;
          octets = sum_by-keyed key (λ r. r.octets) all i;
        };
      })

  groups-parts : (all : List Part) → All (λ part. own_rows key part ≡ having key (part_key key part) rows) all
      → map group_of (map (part_key key) all) ≡ map (group_with label fields) all
  groups-parts [] own = refl
  groups-parts (part ∷ all) own =
      λ i. group-part part (All-head (λ p. own_rows key p ≡ having key (part_key key p) rows) part all own) i
      ∷ groups-parts all (All-tail (λ p. own_rows key p ≡ having key (part_key key p) rows) part all own) i

  groups-are : groups_of fields label rows ≡ map (group_with label fields) (parts key rows)
  groups-are = ap (map group_of) (sym (parts-keys key rows)) ∙ groups-parts (parts key rows) (parts-are key rows).own

  abbrev shown : Bool → List Part
  shown sorted = if sorted then in_order before (parts key rows) else parts key rows

  shown-are : (sorted : Bool) → shown sorted ≡ row_groups label fields sorted rows
  shown-are false = λ i. grouped (λ r s. ties (key r) (key s) i) rows
  shown-are true = λ i. in_order before (grouped (λ r s. ties (key r) (key s) i) rows)

  shown-grouped : (sorted : Bool) → AreGrouped label fields sorted rows (map (own_rows key) (shown sorted))
  shown-grouped false = divides (parts key rows) (parts-are key rows) false (λ e. absurd (true≢false (sym e)))
  shown-grouped true =
      let all : List Part = parts key rows in
      divides (in_order before all) (parts-in_order key rows all (in_order before all) (same-in_order before all) (parts-are key rows)) true
      (λ e. in_order-sorted before before-order all)

  -- the rows are grouped by their fields
  pub rows-grouped : (sorted : Bool) → AreGrouped label fields sorted rows (map (λ g. g.0 ∷ g.1) (row_groups label fields sorted rows))
  rows-grouped sorted =
      subst (λ (groups : List Part). AreGrouped label fields sorted rows (map (λ g. g.0 ∷ g.1) groups)) (shown-are sorted) (shown-grouped sorted)

  -- the groups by keys are those by fields
  shown-with : (sorted : Bool) → shown_groups sorted (groups_of fields label rows) ≡ map (group_with label fields) (shown sorted)
  shown-with false = groups-are
  shown-with true = ap (in_order is_before) groups-are ∙ sym (map-in_order (group_with label fields) is_before (parts key rows))

  pub groups-rows : (sorted : Bool) → shown_groups sorted (groups_of fields label rows) ≡ map (group_with label fields) (row_groups label fields sorted rows)
  groups-rows sorted = shown-with sorted ∙ ap (map (group_with label fields)) (shown-are sorted)
