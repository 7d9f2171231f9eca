use Rattle.std.proofs.Common.{◌≡◌, map, take}
use Rattle.std.specs.Option.{option_map}
use Rattle.pmap_model.specs.Label.{number_of}
use Rattle.cert_check.proofs.labels.numbers_in.Given as goal

abbrev pub invariant-loop-number : goal.invariant-loop-number
invariant-loop-number l = map (option_map (λ id. id.0)) l.numbers.items ≡ map (number_of l.to) (take l.number l.from)
