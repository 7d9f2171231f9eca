use Rattle.std.proofs.Common.{◌≡◌, ◌<◌, ◌≤◌, ◌^◌, ◌∷◌, [], ℕ, None, Some, arith, codes, refl}
use Rattle.prefix_keys.specs.Block.{block_number}
use Rattle.prefix_keys.specs.declared.version.Version.TheVariants.{V4}
use Rattle.pmap_model.specs.ListModel.{ListModel, list_label}
use Rattle.definition_examples.proofs.shortest.a_list_with_an_entry_too_many_is_not_least.Goals as goal

abbrev one_entry : ListModel
one_entry = record { version = V4; name = None; prefixes = record { start = 0; bits = 0; label = codes "A" } ∷ []; table = [] }

labels : (a : ℕ) → a < 2 ^ 32 → list_label one_entry a ≡ Some (codes "A")
labels a below = let first : block_number 32 0 a ≡ 0 = omega arith in rw first refl

few : 2 ≤ 1 → ⊥
few h = omega arith

pub returns : goal.returns
returns c = record { two_halves = λ least. few (least one_entry (record { version = refl; labels = labels })) }
