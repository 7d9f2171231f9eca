use Rattle.std.proofs.Common.{◌∙◌}
use Rattle.ipfix_read.proofs.RecordValues.{runs_are, whole_left}
use Rattle.ipfix_read.proofs.value.skip_values.Goals as goal

pub returns : goal.returns
returns c =
    let fields = c.args.fields.now in let bytes = c.args.bytes.now in
    whole_left fields bytes c.skip_runs.result ((rw (c.runs.ensures, c.last_run.ensures) at c.skip_runs.ensures) ∙ runs_are fields bytes)
