use Rattle.std.specs.Prelude.{ℕ, List, ◌∷◌, Option, false, true}
use Rattle.std.proofs.Common.{lit<}
use Rattle.label_lookup.specs.Labelling.{Labelling, label_where}
use Rattle.flow_rows.specs.Elements.{RowView}
use Rattle.flow_uniq.specs.Grouped.{row_groups}
use Rattle.flow_uniq.specs.Times.{unit_start}
use Rattle.flow_uniq.specs.declared.field.KeyField.{KeyField}
use Rattle.flow_uniq.specs.declared.field.KeyField.TheVariants.{Start}
use Rattle.flow_uniq.specs.declared.field.Precision.TheVariants.{Day, Hour, Minute}
use Rattle.flow_uniq.specs.declared.field.TimeUnit.{TimeUnit}
use Rattle.flow_files.specs.Groups.{groups_table}
use Rattle.pmap_print.specs.Times.{time_text}

-- Units of time, and groups by them.

abbrev pub days : TimeUnit
days = record { precision = Day; count = 1; some = lit< tt }

abbrev pub hours : TimeUnit
hours = record { precision = Hour; count = 1; some = lit< tt }

abbrev pub minutes : TimeUnit
minutes = record { precision = Minute; count = 1; some = lit< tt }

abbrev pub quarters : TimeUnit
quarters = record { precision = Minute; count = 15; some = lit< tt }

-- the text of the start of the unit that a time is in
abbrev pub start_text : TimeUnit → ℕ → List ℕ
start_text unit time = time_text unit.precision (unit_start unit time)

-- the printed groups of rows by a unit of time and then by fields, sorted
abbrev pub by_time : TimeUnit → List KeyField → Option Labelling → List RowView → List ℕ
by_time unit fields labels rows =
    groups_table (Start unit ∷ fields) false labels (row_groups (label_where labels) (Start unit ∷ fields) true rows)
