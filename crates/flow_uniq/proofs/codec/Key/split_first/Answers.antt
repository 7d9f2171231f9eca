use Rattle.std.proofs.Common.{[], ◌∷◌, ap, sym, ◌∙◌}
use Rattle.std.specs.Option.{option_map_or}
use Rattle.flow_uniq.specs.Codes.{key_in, part_model}
use Rattle.flow_uniq.proofs.Cutting.{key_in-rest, rest_code}
use Rattle.flow_uniq.proofs.codec.Key.split_first.Goals as goal

pub invariant_of-result : goal.invariant_of-result
invariant_of-result c = record {
  is_code =
      (rest_code c.args.self.code.now (part_model c.in_ok-part.part) c.in_ok-part.code.now c.args.self.is_code (sym c.in_ok-part.ensures)).1;
}

pub returns-clause-some : goal.returns-clause-some
returns-clause-some c =
    key_in-rest c.args.self.code.now ∙ ap (λ o. option_map_or (λ x. x.0 ∷ key_in x.1) o []) (sym c.in_ok-part.ensures)

pub returns-clause-small : goal.returns-clause-small
returns-clause-small c =
    (rest_code c.args.self.code.now (part_model c.in_ok-part.part) c.in_ok-part.code.now c.args.self.is_code (sym c.in_ok-part.ensures)).0
