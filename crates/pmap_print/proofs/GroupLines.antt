-- The lines of groups, one by one.
use Rattle.std.proofs.Common.{ℕ, subst, ◌≡◌, ◌+◌, ◌≤◌, ◌∙◌, List, [], ◌∷◌, ◌++◌, All, None, Some, length, map, take, slice_get, ap, sym, arith, ◌<◌}
use Rattle.std.specs.Prelude.{codes, decimal}
use Rattle.std.specs.List.Sorted.{IsPermutation}
use Rattle.std.proofs.lemmas.List.{length-append, length-map, map_push, take_all, take_more}
use Rattle.std.proofs.lemmas.List.Sorted.{All-permutation, length_permutation}
use Rattle.std.proofs.lemmas.Option.{get_or_from_slice_get, slice_get_within}
use Rattle.flow_uniq.specs.declared.field.KeyField.{KeyField}
use Rattle.flow_uniq.specs.Key.{field_name}
use Rattle.flow_uniq.specs.Groups.{GroupModel}
use Rattle.flow_uniq.proofs.Listing.{none_past}
use Rattle.pmap_print.specs.Reports.{group_fields, group_lines, group_titles, part_text}
use Rattle.pmap_print.specs.Table.{Line}

pub length-group_titles : (fields : List KeyField) → length (group_titles fields) ≡ length fields + 3
length-group_titles fields = omega (arith, length-append (map field_name fields) (codes "records" ∷ codes "packets" ∷ codes "bytes" ∷ []), length-map fields field_name)

pub length-group_fields : (g : GroupModel) (count : ℕ) → length g.key ≡ count → length (group_fields g) ≡ count + 3
length-group_fields g count h = omega (arith, length-append (map part_text g.key) (decimal g.totals.records ∷ decimal g.totals.packets ∷ decimal g.totals.octets ∷ []), length-map g.key part_text, h)

-- the header and the lines of the first groups
abbrev pub first_lines : List KeyField → List GroupModel → ℕ → List Line
first_lines fields groups count = group_titles fields ∷ map group_fields (take count groups)

-- the lines with that of one more group
pub line_added : (fields : List KeyField) (groups : List GroupModel) (i : ℕ) (g : GroupModel) → slice_get groups i ≡ Some g
    → first_lines fields groups i ++ group_fields g ∷ [] ≡ first_lines fields groups (i + 1)
line_added fields groups i g at =
    let more : take (i + 1) groups ≡ take i groups ++ g ∷ [] =
    take_more groups i g (slice_get_within groups i g at) ∙ ap (λ (x : GroupModel). take i groups ++ x ∷ []) (get_or_from_slice_get groups i g g at) in
    ap (λ (l : List Line). group_titles fields ∷ l) (sym (ap (map group_fields) more ∙ map_push group_fields (take i groups) g))

-- groups in some order
module _ (fields : List KeyField) (groups shown : List GroupModel) (moved : IsPermutation groups shown) (i : ℕ) where
  pub parts_at : All (λ g. length g.key ≡ length fields) groups → (g : GroupModel) → slice_get shown i ≡ Some g
      → length (group_fields g) ≡ length fields + 3
  parts_at parts g at =
      length-group_fields g (length fields) (subst (λ (x : GroupModel). length x.key ≡ length fields) (get_or_from_slice_get shown i g g at)
      (All-permutation (λ (x : GroupModel). length x.key ≡ length fields) groups shown moved parts i g (slice_get_within shown i g at)))

  pub not_past : i < length groups → slice_get shown i ≡ None → ⊥
  not_past inside at = omega (arith, none_past shown i at, inside, length_permutation groups shown moved)

  pub all_shown : length groups ≤ i → first_lines fields shown i ≡ group_lines fields shown
  all_shown past =
      ap (λ (l : List GroupModel). group_titles fields ∷ map group_fields l)
      (take_all i shown (omega (arith, past, length_permutation groups shown moved)))
