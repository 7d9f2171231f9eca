use Rattle.std.proofs.Common.{◌∷◌, map, take}
use Rattle.std.specs.Fmt.{decimal}
use Rattle.std.specs.List.{flat_map}
use Rattle.flow_io.specs.Sinks.{Adds}
use Rattle.pmap_cert.proofs.writing.push_set.Given as goal

abbrev pub invariant-loop-id : goal.invariant-loop-id
invariant-loop-id g l =
    Adds g.S.Sink.sink g.S.Sink.began l.initial.out l.out (flat_map (λ n. 32 ∷ decimal n) (map (λ id. id.0) (take l.id-index l.set)))
