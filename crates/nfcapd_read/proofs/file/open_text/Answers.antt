use Rattle.std.proofs.Common.{◌∙◌, arith, sym}
use Rattle.flow_io.specs.Devices.{has_ended}
use Rattle.nfcapd_read.proofs.Opening.{opens_made, opens_stop, two_front}
use Rattle.nfcapd_read.proofs.file.open_text.Goals as goal

pub returns-in-Ok-Other-clause-opens : goal.returns-in-Ok-Other-clause-opens
returns-in-Ok-Other-clause-opens g c =
    let (taken, gives, begins) = rw c.in-Ok-Other.field-0-is at c.in-Ok-Other.ensures.begins in
    (taken, gives, (sym begins.0 ∙ two_front c.begin.new.part (omega arith), begins.1))

pub returns-in-Ok-convert-clause-opens : goal.returns-in-Ok-convert-clause-opens
returns-in-Ok-convert-clause-opens g c =
    opens_made c.args.allow_sampled _ _ _ c.in-Ok-Flows.reading c.begin.new.part (has_ended (g.R.Input.input c.begin.new.reader)) (has_ended (g.R.Input.input c.convert.new.reader))
    (rw c.in-Ok-Flows.field-0-is at c.in-Ok-Flows.ensures.begins) c.in-Ok-convert.made.items c.in-Ok-convert.ensures.converts

pub returns-in-Err-convert-clause-opens : goal.returns-in-Err-convert-clause-opens
returns-in-Err-convert-clause-opens g c =
    opens_stop c.args.allow_sampled _ _ _ c.in-Ok-Flows.reading c.begin.new.part (has_ended (g.R.Input.input c.begin.new.reader)) (has_ended (g.R.Input.input c.convert.new.reader))
    (rw c.in-Ok-Flows.field-0-is at c.in-Ok-Flows.ensures.begins) c.in-Err-convert.stop c.in-Err-convert.ensures.converts
