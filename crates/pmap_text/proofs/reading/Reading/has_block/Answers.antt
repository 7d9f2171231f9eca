use Rattle.std.proofs.Common.{◌∙◌, sym}
use Rattle.pmap_text.proofs.ProgressSteps.{has_prefix-entries}
use Rattle.pmap_text.proofs.reading.Reading.has_block.Goals as goal

pub returns : goal.returns
returns c =
    let block = c.args.block.now in
    rw (← c.self.view_is)
    (c.has_block.ensures ∙ sym (has_prefix-entries c.self.inside.labels c.self.inside.entries block.value block.len))
