use Rattle.std.proofs.Common.{◌≡◌, ◌+◌, ◌*◌, ◌/◌, [], ap, drop, length, sym, ◌∙◌, length-drop, arith}
use Rattle.std.proofs.Math.Nat.{div-mul-le_self}
use Rattle.std.proofs.lemmas.Bool.{eqb-true}
use Rattle.std.proofs.lemmas.List.{nil_from_length}
use Rattle.ipfix_templates.specs.Field.{least_length}
use Rattle.ipfix_templates.specs.declared.template.Template.{Template}
use Rattle.ipfix_read.proofs.RecordValues.{HasRead, cut_off, few_end, few_left, fixed_read, none_end, none_read, one_read, packed, values_shorter}
use Rattle.ipfix_read.proofs.record.count_records.Goals as goal

-- records would be empty
pub returns-then-least-eq0-clause-ok : goal.returns-then-least-eq0-clause-ok
returns-then-least-eq0-clause-ok c =
    let t = c.args.template.now in
    let bytes = c.args.bytes.now in
    packed t c.args.base bytes 0 bytes (none_read t c.args.base bytes) (none_end (least_length t.fields) (length bytes) (omega (arith, c.least_length-least.ensures, c.if-least-eq0.true)))

-- the template has no variable fields
fixed : (c : goal.Then-is_empty) → HasRead c.args.template.now c.args.base c.args.bytes.now (length c.args.bytes.now / least_length c.args.template.now.fields)
    (drop (length c.args.bytes.now / least_length c.args.template.now.fields * least_length c.args.template.now.fields) c.args.bytes.now)
fixed c =
    let t = c.args.template.now in
    let bytes = c.args.bytes.now in
    let fields = ap (λ (t : Template). t.fields) c.template.view_is in
    let none : c.runs.result.now ≡ [] = nil_from_length c.runs.result.now (eqb-true _ _ (sym c.is_empty.ensures ∙ c.if-is_empty.true)) in
    fixed_read t c.args.base bytes (length bytes / least_length t.fields) (rw fields at (sym c.runs.ensures ∙ none)) (omega (arith, c.least_length-least.ensures)) (div-mul-le_self (length bytes) (least_length t.fields))

pub returns-then-is_empty-clause-ok : goal.returns-then-is_empty-clause-ok
returns-then-is_empty-clause-ok c =
    let t = c.args.template.now in
    let bytes = c.args.bytes.now in
    let least = least_length t.fields in
    let end = length bytes / least * least in
    let few = few_end least (length (drop end bytes)) (omega (arith, length-drop end bytes, few_left (length bytes) least (omega (arith, c.least_length-least.ensures)))) in
    rw c.least_length-least.ensures (packed t c.args.base bytes (length bytes / least) (drop end bytes) (fixed c) few)

pub returns-then-is_empty-clause-few : goal.returns-then-is_empty-clause-few
returns-then-is_empty-clause-few c = rw c.least_length-least.ensures (omega (arith, (fixed c).within))

pub overflow_sub-offset : goal.overflow_sub-offset
overflow_sub-offset c = omega (arith, c.loop-rest.invariant.within)

pub returns-in_default-clause-fault : goal.returns-in_default-clause-fault
returns-in_default-clause-fault c =
    let fields = ap (λ (t : Template). t.fields) c.template.view_is in
    rw c.at.ensures (cut_off c.args.template.now c.args.base c.args.bytes.now c.loop-rest.count c.loop-rest.rest.now c.loop-rest.invariant
    (omega (arith, c.least_length-least.ensures), omega (arith, c.least_length-least.ensures)) (rw fields at (sym c.in_default.ensures)))

pub overflow_add-count : goal.overflow_add-count
overflow_add-count c = omega (arith, c.loop-rest.invariant.within)

pub loop-rest-init : goal.loop-rest-init
loop-rest-init c = none_read c.args.template.now c.args.base c.args.bytes.now

pub loop-rest-smaller : goal.loop-rest-smaller
loop-rest-smaller c =
    let fields = ap (λ (t : Template). t.fields) c.template.view_is in
    omega (arith, values_shorter c.args.template.now.fields c.loop-rest.rest.now _ (rw fields at (sym c.in-Some.ensures)), c.least_length-least.ensures)

pub loop-rest-preserved : goal.loop-rest-preserved
loop-rest-preserved c =
    let fields = ap (λ (t : Template). t.fields) c.template.view_is in
    one_read c.args.template.now c.args.base c.args.bytes.now c.loop-rest.count (c.loop-rest.count + 1) c.loop-rest.rest.now _ c.loop-rest.invariant
    (omega (arith, c.least_length-least.ensures), omega (arith, c.least_length-least.ensures)) (rw fields at (sym c.in-Some.ensures)) (omega arith)

pub returns-clause-ok : goal.returns-clause-ok
returns-clause-ok c =
    packed c.args.template.now c.args.base c.args.bytes.now c.loop-rest.count c.loop-rest.rest.now c.loop-rest.invariant
    (few_end (least_length c.args.template.now.fields) (length c.loop-rest.rest.now) (omega (arith, c.least_length-least.ensures, c.loop-rest-test.false)))

pub returns-clause-few : goal.returns-clause-few
returns-clause-few c = omega (arith, c.loop-rest.invariant.within)
