use Rattle.std.proofs.Common.{option_map, unwrap_or, ap, arith, rules, subst, sym, ◌∙◌}
use Rattle.std.specs.Map.Iter.{deref_pair}
use Rattle.flow_uniq.specs.Codes.{key_in, same_code}
use Rattle.flow_uniq.specs.Inner.{IsBounded, none, with_row}
use Rattle.flow_uniq.proofs.Entering.{found, row_at, value_at}
use Rattle.flow_uniq.proofs.groups.add_at.Goals as goal

pub add-requires-clause-bounded : goal.add-requires-clause-bounded
add-requires-clause-bounded c =
    let value =
    value_at c.args.totals.now.entries c.in-Some.index _ _ c.in-Some-get_index_mut.found.now
    (sym c.get_index.ensures.entry ∙ ap (option_map deref_pair) c.in-Some-get_index.is) c.in-Some-get_index_mut.ensures.value in
    subst IsBounded (ap (λ o. unwrap_or o none) c.in-Some-get_index.ensures.value ∙ sym value)
    (found c.requires.0 (same_code c.in-Some-get_index.code.now) c.args.totals.now.entries c.requires.1).0

pub add-requires-clause-few : goal.add-requires-clause-few
add-requires-clause-few c =
    let value =
    value_at c.args.totals.now.entries c.in-Some.index _ _ c.in-Some-get_index_mut.found.now
    (sym c.get_index.ensures.entry ∙ ap (option_map deref_pair) c.in-Some-get_index.is) c.in-Some-get_index_mut.ensures.value in
    omega (
      arith,
      (found c.requires.0 (same_code c.in-Some-get_index.code.now) c.args.totals.now.entries c.requires.1).1,
      ap (λ t. t.records) (ap (λ o. unwrap_or o none) c.in-Some-get_index.ensures.value ∙ sym value),
      c.requires.2,
    )

pub returns-clause-added : goal.returns-clause-added
returns-clause-added c =
    let at = sym c.get_index.ensures.entry ∙ ap (option_map deref_pair) c.in-Some-get_index.is in
    let value = value_at c.args.totals.now.entries c.in-Some.index _ _ c.in-Some-get_index_mut.found.now at c.in-Some-get_index_mut.ensures.value in
    λ _.
    row_at c.in-Some-get_index.code.now (key_in c.args.key.now) c.args.row.now c.args.totals.now.entries _ _ c.add.new.self
    c.get_index_mut.ensures.unique (c.has_bytes.ensures.known c.if-not-has_bytes.false)
    (c.add.ensures.value ∙ ap (λ t. with_row t c.args.row.now) value) c.add.ensures.packets c.add.ensures.octets c.in-Some.index at
    c.in-Some-get_index.ensures.value (search rules)
