-- The groups of some rows followed by one more.
use Rattle.std.proofs.Common.{◌≡◌, Bool, true, false, not, ◌||◌, cond, if◌then◌else◌, Option, List, [], ◌∷◌, ◌++◌, map, filter, true≢false, refl, sym, ap, ◌∙◌}
use Rattle.std.proofs.lemmas.Cmp.{lists_equiv, nat_list_eq_equiv, on_equiv}
use Rattle.std.proofs.lemmas.List.{append-nil, length_push, map-append, map_push}
use Rattle.std.proofs.lemmas.List.Elements.{filter-append}
use Rattle.std.proofs.lemmas.List.Sums.{sum_by_push}
use Rattle.std.proofs.lemmas.Map.Views.{any-filter_same}
use Rattle.std.proofs.lemmas.Simd.{map-map}
use Rattle.std.specs.Cmp.{IsEquivalence}
use Rattle.std.specs.List.{list_any}
use Rattle.prefix_keys.specs.Text.{AddressOf}
use Rattle.pmap_model.specs.MapModel.{Label}
use Rattle.pmap_model.proofs.LabelTexts.{list_any-map}
use Rattle.flow_rows.specs.Elements.{RowView}
use Rattle.flow_uniq.specs.Key.{Key, KeyField, key_of, part_numbers, same_key}
use Rattle.flow_uniq.specs.Groups.{Totals, GroupModel, distinct_keys, groups_of_keyed, totals_of}
use Rattle.flow_uniq.specs.Inner.{none, with_row}

pub same_key-equiv : IsEquivalence same_key
same_key-equiv = lists_equiv (on_equiv part_numbers nat_list_eq_equiv)

-- the rows with this key, and rows with their keys by these fields
abbrev pub rows_with : Key → List (Key × RowView) → List (Key × RowView)
rows_with key rows = filter (λ r. same_key key r.0) rows

abbrev pub keyed : List KeyField → (AddressOf → Option Label) → List RowView → List (Key × RowView)
keyed fields label rows = map (λ row. (key_of label fields row, row)) rows

-- the group of a new key, a group with one more row if it is of its key, and groups with one more row
abbrev pub fresh : Key → RowView → GroupModel
fresh k row = record { key = k; totals = with_row none row }

abbrev pub grown : Key → RowView → GroupModel → GroupModel
grown k row g = record { key = g.key; totals = if same_key k g.key then with_row g.totals row else g.totals }

abbrev pub entered : Key → RowView → List GroupModel → List GroupModel
entered k row groups = map (grown k row) groups ++ (if list_any (λ g. same_key k g.key) groups then [] else fresh k row ∷ [])

-- the keys that differ from a key
abbrev pub other_than : Key → Key → Bool
other_than x o = not (same_key x o)

-- the distinct keys contain each key
pub any-distinct_keys : (k : Key) (ks : List Key) → list_any (same_key k) (distinct_keys ks) ≡ list_any (same_key k) ks
any-distinct_keys k [] = refl
any-distinct_keys k (x ∷ ks) = by (same_key k x) refl (any-distinct_keys k ks)
  where
    by : (b : Bool) → same_key k x ≡ b → list_any (same_key k) (distinct_keys ks) ≡ list_any (same_key k) ks
        → (b || list_any (same_key k) (filter (other_than x) (distinct_keys ks))) ≡ (b || list_any (same_key k) ks)
    by true e ih = refl
    by false e ih =
        any-filter_same (same_key k) (other_than x) true
        (λ d f. ap not (same_key-equiv.symm x d ∙ sym (same_key-equiv.congr k d x f) ∙ e)) (distinct_keys ks)
        ∙ ih

-- the distinct keys of keys followed by one more
distinct-push : (ks : List Key) (k : Key) → distinct_keys (ks ++ k ∷ []) ≡ distinct_keys ks ++ (if list_any (same_key k) ks then [] else k ∷ [])
distinct-push [] k = refl
distinct-push (x ∷ ks) k =
    ap (λ (l : List Key). x ∷ filter (other_than x) l) (distinct-push ks k)
    ∙ ap (λ (l : List Key). x ∷ l) (filter-append (other_than x) (distinct_keys ks) (if list_any (same_key k) ks then [] else k ∷ []))
    ∙ ap (λ (l : List Key). x ∷ (filter (other_than x) (distinct_keys ks) ++ l)) (last (list_any (same_key k) ks) (same_key k x) refl)
  where
    last : (s b : Bool) → same_key k x ≡ b → filter (other_than x) (if s then [] else k ∷ []) ≡ (if b || s then [] else k ∷ [])
    last true true e = refl
    last true false e = refl
    last false true e = ap (λ (c : Bool). let R : List Key = cond (not c) (k ∷ []) [] in R) (same_key-equiv.symm x k ∙ e)
    last false false e = ap (λ (c : Bool). let R : List Key = cond (not c) (k ∷ []) [] in R) (same_key-equiv.symm x k ∙ e)

-- the group of a key among rows
abbrev group_of : List (Key × RowView) → Key → GroupModel
group_of rows key = record { key = key; totals = totals_of (rows_with key rows) }

totals-push : (rows : List (Key × RowView)) (r : Key × RowView) → totals_of (rows ++ r ∷ []) ≡ with_row (totals_of rows) r.1
totals-push rows r = λ i. record {
  records = length_push rows r i;
  packets = sum_by_push (λ (x : Key × RowView). x.1.packets) rows r i;
  octets = sum_by_push (λ (x : Key × RowView). x.1.octets) rows r i;
}

module _ (rows : List (Key × RowView)) (k : Key) (row : RowView) where
  abbrev more : List (Key × RowView)
  more = rows ++ (k, row) ∷ []

  abbrev keys : List Key
  keys = map (λ r. r.0) rows

  with-more : (d : Key) (b : Bool) → same_key k d ≡ b → rows_with d more ≡ rows_with d rows ++ cond b ((k, row) ∷ []) []
  with-more d b e =
      filter-append (λ (r : Key × RowView). same_key d r.0) rows ((k, row) ∷ [])
      ∙ ap (λ c. rows_with d rows ++ cond c ((k, row) ∷ []) []) (same_key-equiv.symm d k ∙ e)

  group-more : (d : Key) (b : Bool) → same_key k d ≡ b
      → group_of more d ≡ record { key = d; totals = if b then with_row (totals_of (rows_with d rows)) row else totals_of (rows_with d rows) }
  group-more d true e =
      ap (λ (t : Totals). record { key = d; totals = t }) (ap totals_of (with-more d true e) ∙ totals-push (rows_with d rows) (k, row))
  group-more d false e =
      ap (λ (l : List (Key × RowView)). record { key = d; totals = totals_of l }) (with-more d false e ∙ append-nil (rows_with d rows))

  -- if no row has the key, there are no rows with it
  with-none : (rs : List (Key × RowView)) → list_any (same_key k) (map (λ r. r.0) rs) ≡ false → rows_with k rs ≡ []
  with-none [] h = refl
  with-none (r ∷ rs) h = by (same_key k r.0) h (with-none rs)
    where
      by : (b : Bool) → (b || list_any (same_key k) (map (λ x. x.0) rs)) ≡ false
          → (list_any (same_key k) (map (λ x. x.0) rs) ≡ false → rows_with k rs ≡ []) → cond b (r ∷ rows_with k rs) (rows_with k rs) ≡ []
      by true h ih = absurd (true≢false h)
      by false h ih = ih h

  groups-last : (b : Bool) → list_any (same_key k) keys ≡ b
      → map (group_of more) (if b then [] else k ∷ []) ≡ (if b then [] else fresh k row ∷ [])
  groups-last true h = refl
  groups-last false h =
      ap (λ (l : List (Key × RowView)). record { key = k; totals = totals_of l } ∷ [])
      (with-more k true (same_key-equiv.refl k) ∙ ap (λ (l : List (Key × RowView)). l ++ (k, row) ∷ []) (with-none rows h))

  -- the groups of rows followed by one more
  pub groups-push : groups_of_keyed more ≡ entered k row (groups_of_keyed rows)
  groups-push =
      ap (map (group_of more)) (ap distinct_keys (map_push (λ (r : Key × RowView). r.0) rows (k, row)) ∙ distinct-push keys k)
      ∙ map-append (group_of more) (distinct_keys keys) (if list_any (same_key k) keys then [] else k ∷ [])
      ∙ (λ i. map (λ d. group-more d (same_key k d) refl i) (distinct_keys keys) ++ groups-last (list_any (same_key k) keys) refl i)
      ∙ (λ i. sym (map-map (grown k row) (group_of rows) (distinct_keys keys)) i ++ (if known i then [] else fresh k row ∷ []))
    where
      known : list_any (same_key k) keys ≡ list_any (λ g. same_key k g.key) (groups_of_keyed rows)
      known = sym (list_any-map (group_of rows) (λ g. same_key k g.key) (distinct_keys keys) ∙ any-distinct_keys k keys)
