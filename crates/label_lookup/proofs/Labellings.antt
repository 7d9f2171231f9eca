-- When labellings are equal.
use Rattle.std.proofs.Common.{◌≡◌, ◌∙◌, ◌^◌, ◌<◌, ℕ, Bool, true, false, Option, Some, None, ap, refl, sym}
use Rattle.std.proofs.Math.Path.{fun_ext}
use Rattle.std.specs.Prelude.{if◌then◌else◌, nat_lt}
use Rattle.std.proofs.lemmas.Bool.{lt-ltb, ltb-true}
use Rattle.prefix_keys.specs.Block.{width_of}
use Rattle.prefix_keys.specs.declared.version.Version.{Version}
use Rattle.pmap_model.specs.ListModel.{IsEquivalent, ListModel, list_label}
use Rattle.pmap_model.specs.MapModel.{Label, MapModel, map_label}
use Rattle.label_lookup.specs.Labelling.{labelling, labelling_of_list, labelling_of_map}

-- at an address of the version, labels agree with their restriction to the version's addresses
pub same_at_addresses : (v : Version) (f : ℕ → Option Label) (a : ℕ) → a < 2 ^ width_of v → f a ≡ (labelling v f).label a
same_at_addresses v f a h = ap (λ (b : Bool). if b then f a else None) (sym (lt-ltb a (2 ^ width_of v) h))

guarded : (b : Bool) (x y : Option Label) → (b ≡ true → x ≡ y) → (if b then x else None) ≡ (if b then y else None)
guarded true x y h = h refl
guarded false x y h = refl

-- labels that agree at the addresses of a version are one labelling
pub alike : (v : Version) (f g : ℕ → Option Label) → ((a : ℕ) → a < 2 ^ width_of v → f a ≡ g a) → labelling v f ≡ labelling v g
alike v f g same =
    ap (λ (k : ℕ → Option Label). record { version = v; label = k })
    (fun_ext (λ a. guarded (nat_lt a (2 ^ width_of v)) (f a) (g a) (λ within. same a (ltb-true a (2 ^ width_of v) within))))

-- a prefix list that labels each address as a map does has the map's labelling
pub same_labelling : (l : ListModel) (m : MapModel) → IsEquivalent l m → labelling_of_list l ≡ labelling_of_map m
same_labelling l m is =
    ap (λ (v : Version). labelling v (list_label l)) is.version ∙ alike m.version (list_label l) (λ a. Some (map_label m a)) is.labels
