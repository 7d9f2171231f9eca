use Rattle.std.proofs.Common.{refl}
use Rattle.label_lookup.specs.Labelling.{label_where}
use Rattle.flow_uniq.specs.Grouped.{row_groups}
use Rattle.flow_files.proofs.laws.uniq_prints_groups.Goals as goal

pub returns : goal.returns
returns c fields sorted columns labels rows =
    (row_groups (label_where labels) fields sorted rows, c.rows_are_grouped_by_fields.ensures.grouped fields (label_where labels) sorted rows, refl)
