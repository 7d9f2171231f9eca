use Rattle.std.proofs.Common.{◌≡◌, All, unwrap_or, ap, arith, rules, subst, sym, ◌∙◌}
use Rattle.indexmap.specs.IndexMap.{get}
use Rattle.flow_uniq.specs.Groups.{Totals, record_count}
use Rattle.flow_uniq.specs.Codes.{key_in, same_code}
use Rattle.flow_uniq.specs.Inner.{IsBounded, IsKept, kept_groups, none}
use Rattle.flow_uniq.proofs.Entering.{found, row_in, row_later}
use Rattle.flow_uniq.proofs.groups.add_row.Goals as goal

starts : (t : Totals) → (t.records ≡ 0) × ((t.packets ≡ 0) × (t.octets ≡ 0)) → t ≡ none
starts t h = λ i. record { records = h.0 i; packets = h.1.0 i; octets = h.1.1 i }

pub add-requires-clause-bounded : goal.add-requires-clause-bounded
add-requires-clause-bounded c =
    let is : c.or_insert.result.now ≡ unwrap_or (get same_code c.add_at.new.totals c.in_ok-code.code) none
    = c.or_insert.ensures.value ∙ (λ i. unwrap_or (c.in_ok-entry.ensures.value i) (starts c.default.result c.default.ensures i)) in
    let kept = subst (λ m. All (IsKept c.requires.kept.0) m.entries) (sym (c.add_at.ensures.other c.if-add_at.false)) c.requires.kept.1 in
    subst IsBounded (sym is) (found c.requires.kept.0 (same_code c.in_ok-code.code) c.add_at.new.totals.entries kept).0

pub add-requires-clause-few : goal.add-requires-clause-few
add-requires-clause-few c =
    let same = c.add_at.ensures.other c.if-add_at.false in
    let is : c.or_insert.result.now ≡ unwrap_or (get same_code c.add_at.new.totals c.in_ok-code.code) none
    = c.or_insert.ensures.value ∙ (λ i. unwrap_or (c.in_ok-entry.ensures.value i) (starts c.default.result c.default.ensures i)) in
    let kept = subst (λ m. All (IsKept c.requires.kept.0) m.entries) (sym same) c.requires.kept.1 in
    let f = found c.requires.kept.0 (same_code c.in_ok-code.code) c.add_at.new.totals.entries kept in
    omega (arith, f.1, ap (λ t. t.records) is, c.requires.kept.2, ap (λ m. record_count (kept_groups m.entries)) same)

pub returns-clause-ok : goal.returns-clause-ok
returns-clause-ok c =
    row_later (key_in c.args.key.now) c.args.row.now c.add_at.new.totals.entries c.args.totals.now.entries _
    (ap (λ m. m.entries) (c.add_at.ensures.other c.if-add_at.false))
    (row_in c.in_ok-code.code (key_in c.args.key.now) c.args.row.now c.add_at.new.totals.entries _ c.or_insert.result.now c.add.new.self
    c.entry.ensures.unique c.in_ok-code.ensures c.add.ensures.value c.add.ensures.packets c.add.ensures.octets
    (c.or_insert.ensures.value ∙ (λ i. unwrap_or (c.in_ok-entry.ensures.value i) (starts c.default.result c.default.ensures i))) (search rules))
