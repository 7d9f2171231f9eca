use Rattle.std.specs.Prelude.{◌≡◌, ℕ, ◌-◌, ◌≤◌, ◌&&◌, ◌||◌, ◌==◌, Bool, not, List, [], ◌∷◌, ◌++◌, Option}
use Rattle.std.specs.Prelude.{Some, IsTrue, length, position, nat_le, slice_get, slice_index, if◌then◌else◌}
use Rattle.std.specs.List.{list_all, list_any}
use Rattle.std.specs.Str.{bytes_eq}
use Rattle.pmap_model.specs.MapModel.{Label}

-- Label texts, and tables of them. The number of a label is its index in the table, from 0.

-- space, tab or carriage return
abbrev pub is_blank : ℕ → Bool
is_blank b = b == 32 || (b == 9 || b == 13)

-- a byte that is allowed in a label: a tab, or any byte except control characters and `#`
abbrev pub is_label_byte : ℕ → Bool
is_label_byte b = (b == 9 || nat_le 32 b) && (not (b == 127) && not (b == 35))

-- a text of 1 to 255 such bytes that neither begins nor ends with a blank
abbrev pub is_label : List ℕ → Bool
is_label text =
    nat_le 1 (length text) && (nat_le (length text) 255 && (list_all is_label_byte text
    && (not (is_blank (slice_index text 0))
    && not (is_blank (slice_index text (length text - 1))))))

-- whether the table has the label
abbrev pub has_label : List Label → Label → Bool
has_label table text = list_any (bytes_eq text) table

-- the table after a label is added: a known one keeps its number, a new one comes last
abbrev pub with_label : List Label → Label → List Label
with_label table text = if has_label table text then table else table ++ text ∷ []

-- Below: only contracts of parts and proofs use these; no promise of the program rests on them.

-- the number of the label
abbrev pub number_of : List Label → Label → Option ℕ
number_of table text = position (bytes_eq text) table

-- a label table: at most 65536 texts, each of them a label, whose number is its index, so that no two are equal
pub record IsLabelTable (table : List Label) : Type 0 where
  pub few : length table ≤ 65536
  pub labels : (i : ℕ) (text : Label) → slice_get table i ≡ Some text → IsTrue (is_label text)
  pub places : (i : ℕ) (text : Label) → slice_get table i ≡ Some text → number_of table text ≡ Some i
