use Rattle.std.proofs.Common.{◌≡◌, ◌/◌, ◌^◌}
use Rattle.flow_io.specs.Sinks.{Adds}
use Rattle.pmap_cert.specs.Opened.{text_up}
use Rattle.pmap_cert.proofs.opened.push_up.Given as goal

abbrev pub invariant-loop-place : goal.invariant-loop-place
invariant-loop-place g l = record {
  rest : l.rest ≡ l.fn.chain.value / 2 ^ l.place;
  is : Adds g.S.Sink.sink g.S.Sink.began l.initial.out l.out (text_up l.fn.chain.side.0 l.fn.chain.value l.place);
}
