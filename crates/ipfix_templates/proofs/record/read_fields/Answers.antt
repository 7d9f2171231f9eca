use Rattle.std.proofs.Common.{◌≡◌, [], ◌∷◌, ◌++◌, ◌+◌, ◌-◌, rules, arith, sym, ◌∙◌}
use Rattle.std.proofs.lemmas.Grind.{common_steps}
use Rattle.std.proofs.lemmas.List.{append-nil}
use Rattle.ipfix_templates.specs.Reading.{fields_at}
use Rattle.ipfix_templates.proofs.Records.{with_front, regroup, next_field, no_field, all_fields}
use Rattle.ipfix_templates.proofs.record.read_fields.Goals as goal

pub returns-in_default-clause-read : goal.returns-in_default-clause-read
returns-in_default-clause-read c = rw (no_field c.args.count c.loop.counter c.loop.rest.now c.loop-test.true (search rules)) at c.loop.invariant.read

pub returns-clause-read : goal.returns-clause-read
returns-clause-read c =
    let fields : c.in_ok-fields.fields ≡ c.loop.fields.items = search rules in
    rw fields (rw (all_fields c.args.count c.loop.counter c.loop.rest.now c.loop-test.false, append-nil c.loop.fields.items) at c.loop.invariant.read)

pub loop-preserved : goal.loop-preserved
loop-preserved c = record {
  read =
      let f = c.in-Some.field in let after = c.in-Some.after.now in
      let items : c.push.new.self.items ≡ c.loop.fields.items ++ f ∷ [] = search rules in
      let read : with_front c.push.new.self.items (fields_at (c.args.count - (c.loop.counter + 1)) after) ≡ fields_at c.args.count c.args.bytes.now =
      rw items (sym (regroup c.loop.fields.items f (fields_at (c.args.count - (c.loop.counter + 1)) after))
      ∙ (rw (next_field c.args.count c.loop.counter c.loop.rest.now f after c.loop-test.true (search rules)) at c.loop.invariant.read)) in
      search rules;
  counted = grind (arith, common_steps);
}
