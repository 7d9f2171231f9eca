use Rattle.std.proofs.Common.{◌∙◌, arith, sym, take}
use Rattle.flow_io.specs.Devices.{has_ended}
use Rattle.nfcapd_read.proofs.Making.{makes_cut, makes_fault, makes_last, makes_message, makes_more, makes_stop}
use Rattle.nfcapd_read.proofs.file.make_message.Goals as goal

pub returns-in-Err-clause-makes : goal.returns-in-Err-clause-makes
returns-in-Err-clause-makes g c =
    makes_stop c.args.reading.now c.args.pending.now c.loop-size.reading c.loop-size.pending _ _ _ c.loop-size.invariant.reads c.in-Err.stop
    c.loop-size.reading c.loop-size.pending (has_ended (g.R.Input.input c.gather.new.reader)) c.in-Err.ensures.gathers

pub loop-size-preserved : goal.loop-size-preserved
loop-size-preserved g c = record {
  room = (rw c.in-Ok-None-go_on.field-0-is at c.in-Ok-None-go_on.ensures.goes).0;
  reads = makes_more c.args.reading.now c.args.pending.now c.loop-size.reading c.loop-size.pending _ _ _ c.loop-size.invariant.reads
      (take c.in-Ok-Some.size c.gather.new.part) (has_ended (g.R.Input.input c.gather.new.reader)) (rw c.in-Ok-Some.field-0-is at c.in-Ok-Some.ensures.gathers)
      c.go_on.new.reading c.go_on.new.pending (rw c.in-Ok-None-go_on.field-0-is at c.in-Ok-None-go_on.ensures.goes);
  less = omega (arith, c.loop-size.invariant.less, c.in-Ok-None-go_on.ensures.left);
  same = c.in-Ok-Some.ensures.device ∙ c.loop-size.invariant.same;
}

pub returns-in-Ok-Some-go_on-clause-makes : goal.returns-in-Ok-Some-go_on-clause-makes
returns-in-Ok-Some-go_on-clause-makes g c =
    makes_message c.args.reading.now c.args.pending.now c.loop-size.reading c.loop-size.pending _ _ _ c.loop-size.invariant.reads
    (take c.in-Ok-Some.size c.gather.new.part) (has_ended (g.R.Input.input c.gather.new.reader)) (rw c.in-Ok-Some.field-0-is at c.in-Ok-Some.ensures.gathers)
    c.in-Ok-Some-go_on.size c.go_on.new.reading c.go_on.new.pending (rw c.in-Ok-Some-go_on.field-0-is at c.in-Ok-Some-go_on.ensures.goes)

pub returns-in-Ok-Some-go_on-clause-left : goal.returns-in-Ok-Some-go_on-clause-left
returns-in-Ok-Some-go_on-clause-left g c = omega (arith, c.loop-size.invariant.less, c.in-Ok-Some-go_on.ensures.left)

pub returns-in-Err-go_on-clause-makes : goal.returns-in-Err-go_on-clause-makes
returns-in-Err-go_on-clause-makes g c =
    makes_fault c.args.reading.now c.args.pending.now c.loop-size.reading c.loop-size.pending _ _ _ c.loop-size.invariant.reads
    (take c.in-Ok-Some.size c.gather.new.part) (has_ended (g.R.Input.input c.gather.new.reader)) (rw c.in-Ok-Some.field-0-is at c.in-Ok-Some.ensures.gathers)
    c.in-Err-go_on.fault c.go_on.new.reading c.go_on.new.pending c.in-Err-go_on.ensures.goes

pub returns-then-is_at_end-clause-makes : goal.returns-then-is_at_end-clause-makes
returns-then-is_at_end-clause-makes g c =
    makes_last c.args.reading.now c.args.pending.now c.loop-size.reading c.loop-size.pending _ _ _ c.loop-size.invariant.reads
    c.end.result c.loop-size.reading c.end.new.self (has_ended (g.R.Input.input c.gather.new.reader)) (rw c.in-Ok-None.field-0-is at c.in-Ok-None.ensures.gathers)
    (sym c.is_at_end.ensures ∙ c.if-is_at_end.true) c.end.ensures.within c.end.ensures.put

pub returns-clause-makes : goal.returns-clause-makes
returns-clause-makes g c =
    makes_cut c.args.reading.now c.args.pending.now c.loop-size.reading c.loop-size.pending _ _ _ c.loop-size.invariant.reads
    c.loop-size.reading c.loop-size.pending (has_ended (g.R.Input.input c.gather.new.reader)) (rw c.in-Ok-None.field-0-is at c.in-Ok-None.ensures.gathers)
    (sym c.is_at_end.ensures ∙ c.if-is_at_end.false)
