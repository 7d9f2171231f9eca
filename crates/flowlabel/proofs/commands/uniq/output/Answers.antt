use Rattle.std.proofs.Common.{◌∙◌, List, Ok, ap, arith, refl}
use Rattle.flow_uniq.specs.Groups.{groups_of, record_count, shown_groups}
use Rattle.flow_uniq.specs.declared.field.KeyField.{KeyField}
use Rattle.label_lookup.specs.Labelling.{label_where}
use Rattle.pmap_print.specs.Reports.{groups_text}
use Rattle.flow_files.specs.Reports.{passing_rows}
use Rattle.flow_files.proofs.GroupLemmas.{groups-table}
use Rattle.flowlabel.proofs.PrintoutLemmas.{faulty, is_printout}
use Rattle.flow_files.proofs.ReadLemmas.{no_memory_left, none_read}
use Rattle.flowlabel.proofs.commands.uniq.output.Goals as goal

pub returns-in_err-groups : goal.returns-in_err-groups
returns-in_err-groups g c flows = no_memory_left (none_read 0 c.args.files.now c.requires) (omega arith) c.from_residual.ensures.1

pub read_rows-requires : goal.read_rows-requires
read_rows-requires g c =
    let of_none = c.in_ok-groups.ensures in
    record { fresh = c.requires; none = λ labels same. record { fields = refl; groups = of_none.groups; few = omega (arith, ap record_count of_none.groups) } }

pub returns-in_err-groups-2 : goal.returns-in_err-groups-2
returns-in_err-groups-2 g c flows = faulty _ c.in_err-groups-2.ensures (omega arith) (λ read fault is. cc) c.from_residual-in_err-groups-2.ensures.1

pub returns : goal.returns
returns g c flows =
    let grouping = c.args.grouping in
    is_printout _ c.in_ok-groups-2.ensures (omega arith) (λ read has. (
      tt,
      λ out same.
          ap Ok (same
          ∙ (λ j. groups_text ((has.fields ∙ c.in_ok-groups.ensures.fields) j) (shown_groups grouping.sorted (has.groups j)) grouping.columns)
          ∙ ap (λ (fields : List KeyField). groups_text grouping.keys.now (shown_groups grouping.sorted
          (groups_of fields (label_where read.0) (passing_rows grouping.filter.now read.0 read.1))) grouping.columns) c.in_ok-groups.ensures.fields
          ∙ groups-table grouping.keys.now grouping.sorted grouping.columns read.0 (passing_rows grouping.filter.now read.0 read.1)),
    ))
