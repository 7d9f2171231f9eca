use Rattle.std.specs.Prelude.{◌≡◌, ℕ, ◌==◌, Bool, not, List, [], ◌∷◌, ◌++◌, Option, Some, IsTrue, length}
use Rattle.std.specs.Prelude.{slice_get, if◌then◌else◌, find, nat_eq, unwrap_or, option_and_then, option_map}
use Rattle.std.specs.List.{list_any, IsDistinct}
use Rattle.std.specs.Str.{bytes_eq}
use Rattle.prefix_keys.specs.Text.{decimal_number}
use Rattle.pmap_model.specs.Label.{is_label}
use Rattle.pmap_model.specs.MapModel.{Label}

-- Label numbers that a text declares, each with its label text.

-- the number that 1 to 10 digits represent, at most 2147483647
abbrev pub label_number : List ℕ → Option ℕ
label_number text = decimal_number 10 2147483647 text

-- the pairs of number and text after one more: a number that has a text keeps it
abbrev pub with_declared : List (ℕ × Label) → ℕ × Label → List (ℕ × Label)
with_declared declared pair =
    if list_any (λ d. d.0 == pair.0) declared then declared else declared ++ pair ∷ []

-- whether the number has another text, or the text another number
abbrev pub conflicts : List (ℕ × Label) → ℕ → Label → Bool
conflicts declared number text =
    list_any (λ d. if d.0 == number then not (bytes_eq d.1 text) else bytes_eq d.1 text) declared

-- the text that was declared for a number
abbrev pub declared_text : List (ℕ × Label) → ℕ → Option Label
declared_text declared number = option_map (λ d. d.1) (find (λ d. d.0 == number) declared)

-- the text that a label represents: that of the number if the label is a declared number, otherwise the label itself
abbrev pub meant_text : List (ℕ × Label) → Label → Label
meant_text declared label =
    unwrap_or (option_and_then (declared_text declared) (label_number label)) label

-- Below: only contracts of parts and proofs use these; no promise of the program rests on them.

pub record ArePaired (numbers : List ℕ) (texts : List Label) : Type 0 where
  pub same_count : length texts ≡ length numbers
  pub numbers_once : IsDistinct nat_eq numbers
  pub texts_once : IsDistinct bytes_eq texts
  pub labels : (i : ℕ) (text : Label) → slice_get texts i ≡ Some text → IsTrue (is_label text)
