use Rattle.std.proofs.Common.{◌∙◌, rules}
use Rattle.flow_io.specs.Devices.{has_ended}
use Rattle.nfcapd_read.proofs.Opening.{converts_last, converts_stop, leads_first, leads_more, no_memory}
use Rattle.nfcapd_read.proofs.file.convert.Goals as goal

pub making-init : goal.making-init
making-init g c = record {
  sized = c.in-Ok.ensures.part;
  none = c.in-Ok.ensures.none;
  leads = leads_first (g.R.Input.input c.args.reader.now) c.args.header c.in-Ok.room.pending c.in-Ok.room.made.items c.in-Ok.ensures.none c.in-Ok.ensures.made;
  same = search rules;
}

pub making-preserved : goal.making-preserved
making-preserved g c = record {
  sized = c.making.invariant.sized;
  none = (rw c.in-Ok-Message.field-0-is at c.in-Ok-Message.ensures.makes).2.0;
  leads = leads_more c.args.header c.making.reading c.making.pending c.making.made.items _ _ _ c.making.invariant.leads
      c.make_message.new.reading c.make_message.new.pending (has_ended (g.R.Input.input c.make_message.new.reader)) c.in-Ok-Message.size c.append.new.made.items c.in-Ok-append.ensures.ok (rw c.in-Ok-Message.field-0-is at c.in-Ok-Message.ensures.makes);
  same = c.in-Ok-Message.ensures.device ∙ c.making.invariant.same;
}

pub returns-in-Err-append-clause-converts : goal.returns-in-Err-append-clause-converts
returns-in-Err-append-clause-converts g c =
    no_memory c.args.header c.making.reading c.making.pending c.making.made.items _ _ _ c.making.invariant.leads
    c.in-Ok-Message.ensures.makes.0 c.in-Ok-Message.ensures.makes.1 c.in-Err-append.stop c.in-Err-append.ensures.err (has_ended (g.R.Input.input c.make_message.new.reader))

pub returns-in-Err-append-2-clause-converts : goal.returns-in-Err-append-2-clause-converts
returns-in-Err-append-2-clause-converts g c =
    no_memory c.args.header c.making.reading c.making.pending c.making.made.items _ _ _ c.making.invariant.leads
    c.in-Ok-Last.ensures.makes.0 c.in-Ok-Last.ensures.makes.1 c.in-Err-append-2.stop c.in-Err-append-2.ensures.err (has_ended (g.R.Input.input c.make_message.new.reader))

pub returns-in-Ok-append-2-clause-converts : goal.returns-in-Ok-append-2-clause-converts
returns-in-Ok-append-2-clause-converts g c =
    converts_last c.args.header c.making.reading c.making.pending c.making.made.items _ _ _ c.making.invariant.leads
    c.make_message.new.reading c.make_message.new.pending (has_ended (g.R.Input.input c.make_message.new.reader)) c.in-Ok-Last.size c.append-in-Ok-Last.new.made.items c.in-Ok-append-2.ensures.ok (rw c.in-Ok-Last.field-0-is at c.in-Ok-Last.ensures.makes)

pub returns-in-Err-clause-converts : goal.returns-in-Err-clause-converts
returns-in-Err-clause-converts g c =
    converts_stop c.args.header c.making.reading c.making.pending c.making.made.items _ _ _ c.making.invariant.leads
    c.make_message.new.reading c.make_message.new.pending (has_ended (g.R.Input.input c.make_message.new.reader)) c.in-Err.stop c.stop_of.result c.stop_of.ensures c.in-Err.ensures.makes
