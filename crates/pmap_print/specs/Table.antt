use Rattle.std.specs.Prelude.{ℕ, ◌+◌, ◌-◌, max, set, List, [], ◌∷◌, ◌++◌, length, map, fold, replicate}
use Rattle.std.specs.Prelude.{slice_index_or, Bool, if◌then◌else◌, ◌≡◌, ◌<◌, ◌≤◌, All, is_some, slice_index, take}
use Rattle.std.specs.List.{enumerate_from, flat_map, join_with_byte}
use Rattle.std.specs.Option.{ForNone, ForSome}
pub use Rattle.pmap_stretches.specs.RunsText.{Line, Text, line_text}
pub use Rattle.pmap_print.specs.declared.columns.Columns.{Columns}
pub use Rattle.pmap_print.specs.declared.table.Table.{Table}
pub use Rattle.pmap_print.specs.declared.mark.Mark.{Mark}
pub use Rattle.pmap_print.specs.declared.mark.Mark.TheVariants.{End, Length}

-- Tables: lines of fields with `|` between them.

-- the width of a column: the length of its longest field
abbrev pub column_width : List Line → ℕ → ℕ
column_width lines index =
    fold max 0 (map (λ fields. length (slice_index_or fields index [])) lines)

-- a line in which spaces on the left of each field make it as wide as its column
abbrev pub filled_line : (ℕ → ℕ) → Line → Line
filled_line width fields =
    map (λ e. replicate (width e.0 - length e.1) 32 ++ e.1) (enumerate_from 0 fields)

-- the text of a table, whose first line is its header: its lines as they are, or with each field filled to the width of
-- its column
abbrev pub table_text : Bool → List Line → Text
table_text columns lines =
    flat_map line_text (if columns then map (filled_line (column_width lines)) lines else lines)

-- Below: only contracts of parts and proofs use these; no promise of the program rests on them.

-- How a table is built: each of its fields follows a byte, which is the field's length if the table will be padded.

-- a field with spaces on the left that make it this wide
abbrev pub filled : ℕ → Text → Text
filled width field = replicate (width - length field) 32 ++ field

-- this field and the byte that ends it
abbrev pub ended : ℕ → ℕ → Text → Text
ended width end field = filled width field ++ end ∷ []

-- fields in columns of these widths; without widths they are as they are
abbrev pub filled_by : List ℕ → Line → Line
filled_by [] fields = fields
filled_by (width ∷ widths) [] = []
filled_by (width ∷ widths) (field ∷ fields) = filled width field ∷ filled_by widths fields

-- a width that is widened for a field of this length, and the widths from an index on that are widened for fields
abbrev pub widen : List ℕ → ℕ → ℕ → List ℕ
widen widths index size = set widths index (max (slice_index widths index) size)

abbrev pub widened : List ℕ → ℕ → Line → List ℕ
widened widths index [] = widths
widened widths index (field ∷ fields) = widened (widen widths index (length field)) (index + 1) fields

-- the byte before a field of this length
abbrev pub mark_byte : Mark → ℕ → ℕ
mark_byte (End byte) len = byte
mark_byte Length len = len

abbrev pub marked : Mark → Text → Text
marked mark field = mark_byte mark (length field) ∷ field

-- the fields of a line, the first of them after a mark of its own
abbrev pub marked_line : Mark → Mark → Line → Text
marked_line first mark [] = []
marked_line first mark (field ∷ fields) = marked first field ++ flat_map (marked mark) fields

-- a line that is not the first of a table, with columns or without
abbrev pub added_line : Bool → Line → Text
added_line columns line = if columns then marked_line Length Length line else marked_line (End 10) (End 124) line

-- a text begins with another one
abbrev pub IsFrontOf : Text → Text → Type 0
IsFrontOf front text = take (length front) text ≡ front

-- fields that each follow the byte of their length
abbrev pub sized : Line → Text
sized fields = flat_map (marked Length) fields

-- the header of a table, with columns or without
abbrev pub header_text : Bool → Line → Text
header_text columns names = if columns then sized names else join_with_byte 124 names

-- the columns are as wide as the fields of these lines, each of `count` fields
pub record AreWide (count : ℕ) (lines : List Line) (c : Columns) : Type 0 where
  pub some : 0 < count
  pub even : All (λ line. length line ≡ count) lines
  pub columns : length c.widths.items ≡ count
  pub widths : (k : ℕ) → k < count → slice_index c.widths.items k ≡ column_width lines k

-- whether the lines of a table are padded to columns
abbrev pub has_columns : Table → Bool
has_columns t = is_some t.columns

-- the table has these lines, each of `count` fields
pub record IsTable (count : ℕ) (lines : List Line) (t : Table) : Type 0 where
  pub plain : ForNone t.columns (t.text.items ++ 10 ∷ [] ≡ flat_map line_text lines)
  pub padded : ForSome t.columns (λ c. (t.text.items ≡ flat_map sized lines) × AreWide count lines c)

-- a line that is not empty has a field for each of these columns, which have the widths of a function and are no
-- narrower
pub record Fits (width : ℕ → ℕ) (columns : List ℕ) (fields : Line) : Type 0 where
  pub some : 0 < length fields
  pub all : length fields ≡ length columns
  pub widths : (k : ℕ) → k < length columns → slice_index columns k ≡ width k
  pub narrow : (k : ℕ) → length (slice_index_or fields k []) ≤ width k
