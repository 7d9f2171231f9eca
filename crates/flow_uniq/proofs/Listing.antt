-- Groups that are listed one by one.
use Rattle.std.proofs.Common.{ℕ, zero, suc, Some, None, ◌≡◌, ◌+◌, ◌≤◌, ◌∙◌, List, [], ◌∷◌, ◌++◌, length, map, take, ap, sym, arith}
use Rattle.std.specs.List.{slice_get}
use Rattle.std.proofs.lemmas.List.{map_push, take_more}
use Rattle.std.proofs.lemmas.Option.{get_or_from_slice_get, none-some, slice_get_within}
use Rattle.flow_uniq.specs.Inner.{Group, group_model}
use Rattle.flow_uniq.specs.Groups.{GroupModel}

-- one more group
pub listed-more : (items new : List Group) (x : Group) (groups : List GroupModel) (i : ℕ) → map group_model items ≡ take i groups
    → new ≡ items ++ x ∷ [] → slice_get groups i ≡ Some (group_model x) → map group_model new ≡ take (i + 1) groups
listed-more items new x groups i so_far h at =
    ap (map group_model) h ∙ map_push group_model items x
    ∙ (λ j. so_far j ++ sym (get_or_from_slice_get groups i (group_model x) (group_model x) at) j ∷ [])
    ∙ sym (take_more groups i (group_model x) (slice_get_within groups i (group_model x) at))

pub none_past : (groups : List GroupModel) (i : ℕ) → slice_get groups i ≡ None → length groups ≤ i
none_past [] i e = omega arith
none_past (g ∷ groups) zero e = absurd (none-some g (sym e))
none_past (g ∷ groups) (suc i) e = omega (arith, none_past groups i e)
