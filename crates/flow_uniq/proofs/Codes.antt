-- The numbers of parts distinguish them, and so do their codes.
use Rattle.std.proofs.Common.{◌≡◌, ◌==◌, Bool, List, [], ◌∷◌, get_or, Some, None, if◌then◌else◌, refl, sym, ap, ◌∙◌, ℕ}
use Rattle.std.proofs.lemmas.Bool.Decides.{Decides-like, same_from_decides}
use Rattle.std.proofs.lemmas.Slice.Eq.{bytes_eq-Decides, slice_eq-Decides}
use Rattle.std.specs.Bool.{Decides}
use Rattle.std.specs.Prelude.{slice_get}
use Rattle.std.specs.Str.{bytes_eq}
use Rattle.prefix_keys.specs.declared.version.Version.TheVariants.{V4, V6}
use Rattle.flow_uniq.specs.Key.{Key, KeyPartModel, AddressPart, NumberPart, LabelPart, TimePart, part_numbers, same_key}
use Rattle.flow_uniq.specs.Codes.{AreSmall, key_code, precision_at, same_code}
use Rattle.flow_uniq.proofs.Cutting.{precision-back, same_from_codes}

-- the part with these numbers
abbrev part_with : List ℕ → KeyPartModel
part_with [] = LabelPart None
part_with (kind ∷ []) = LabelPart None
part_with (kind ∷ first ∷ rest) =
    if kind == 0 then AddressPart (if first == 32 then V4 else V6, get_or rest 0 0)
    else if kind == 1 then NumberPart first
    else if kind == 3 then TimePart (precision_at first) (slice_get rest 0)
    else LabelPart (Some rest)

part_with-numbers : (p : KeyPartModel) → part_with (part_numbers p) ≡ p
part_with-numbers (AddressPart (V4, value)) = refl
part_with-numbers (AddressPart (V6, value)) = refl
part_with-numbers (NumberPart number) = refl
part_with-numbers (LabelPart None) = refl
part_with-numbers (LabelPart (Some text)) = refl
part_with-numbers (TimePart precision None) = ap (λ p. TimePart p None) (precision-back precision)
part_with-numbers (TimePart precision (Some number)) = ap (λ p. TimePart p (Some number)) (precision-back precision)

-- whether the parts are equal
abbrev same_part : KeyPartModel → KeyPartModel → Bool
same_part p q = bytes_eq (part_numbers p) (part_numbers q)

-- parts with the same numbers are equal
pub same_part-numbers : (p q : KeyPartModel) → part_numbers p ≡ part_numbers q → p ≡ q
same_part-numbers p q e = sym (part_with-numbers p) ∙ ap part_with e ∙ part_with-numbers q

same_part-Decides : (p q : KeyPartModel) → Decides (same_part p q) (p ≡ q)
same_part-Decides p q =
    Decides-like (same_part p q) (same_part-numbers p q) (λ e. ap part_numbers e)
    (bytes_eq-Decides (part_numbers p) (part_numbers q))

pub same_key-Decides : (a b : Key) → Decides (same_key a b) (a ≡ b)
same_key-Decides a b = slice_eq-Decides same_part-Decides a b (same_key a b) refl

-- small keys have equal codes if they are equal
pub same_code-small : (a b : Key) → AreSmall a → AreSmall b → same_code a b ≡ same_key a b
same_code-small a b small_a small_b =
    same_from_decides (same_code a b) (same_key a b)
    (Decides-like (same_code a b) (same_from_codes a b small_a small_b) (λ e. ap key_code e) (bytes_eq-Decides (key_code a) (key_code b)))
    (same_key-Decides a b)
