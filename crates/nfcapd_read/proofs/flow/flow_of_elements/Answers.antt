use Rattle.std.proofs.Common.{◌≡◌, ◌∙◌, ap, sym, arith, rules}
use Rattle.std.proofs.lemmas.List.{take_rest}
use Rattle.std.specs.Prelude.{Err, IfErr}
use Rattle.nfcapd_read.specs.Flow.{no_elements, with_elements}
use Rattle.byteorder.specs.Endian.{little_number}
use Rattle.nfcapd_read.proofs.Elements.{handed_on, element_refused, element_taken, few_bytes, long_element, short_element}
use Rattle.nfcapd_read.proofs.flow.flow_of_elements.Goals as goal

pub returns-then-rest-lt4-clause-err : goal.returns-then-rest-lt4-clause-err
returns-then-rest-lt4-clause-err c =
    sym c.loop-left.invariant ∙ few_bytes c.loop-left.flow c.loop-left.rest.now (omega arith) c.loop-left.left (omega arith)

pub returns-then-size-lt4-clause-err : goal.returns-then-size-lt4-clause-err
returns-then-size-lt4-clause-err c =
    sym c.loop-left.invariant
    ∙ short_element c.loop-left.flow c.loop-left.rest.now c.from-size.result (omega arith) (c.from-size.ensures ∙ c.read_u16.ensures ∙ ap (little_number 2) (take_rest c.loop-left.rest.now 2)) c.loop-left.left (omega arith) (omega arith)

pub returns-then-rest-size-clause-err : goal.returns-then-rest-size-clause-err
returns-then-rest-size-clause-err c =
    sym c.loop-left.invariant
    ∙ long_element c.loop-left.flow c.loop-left.rest.now c.from-size.result (omega arith) (c.from-size.ensures ∙ c.read_u16.ensures ∙ ap (little_number 2) (take_rest c.loop-left.rest.now 2)) c.loop-left.left (omega arith) (omega arith) (omega arith)

pub returns-in_err-add_element-clause-err : goal.returns-in_err-add_element-clause-err
returns-in_err-add_element-clause-err c =
    handed_on (λ r. IfErr r (λ fault. with_elements c.args.count no_elements c.args.bytes.now ≡ Err fault))
    c.from_residual.result c.in_err-add_element.field-0.0 c.from_residual.ensures.1
    (sym c.loop-left.invariant
    ∙ element_refused c.loop-left.flow c.loop-left.rest.now c.from-size.result (omega arith) (c.from-size.ensures ∙ c.read_u16.ensures ∙ ap (little_number 2) (take_rest c.loop-left.rest.now 2)) c.loop-left.left
    c.read_u16-in-loop-left.result c.split_at.result.0.now c.split_at.result.1.now (omega arith) (omega arith) (omega arith)
    (search rules) (search rules) (search rules) c.in_err-add_element.field-0.0 c.in_err-add_element.ensures.err)

pub loop-left-preserved : goal.loop-left-preserved
loop-left-preserved c =
    sym (element_taken c.loop-left.flow c.loop-left.rest.now c.from-size.result (omega arith) (c.from-size.ensures ∙ c.read_u16.ensures ∙ ap (little_number 2) (take_rest c.loop-left.rest.now 2)) c.loop-left.left
    c.read_u16-in-loop-left.result c.split_at.result.0.now c.split_at.result.1.now (omega arith) (omega arith) (omega arith)
    (search rules) (search rules) (search rules) c.add_element.new.self c.in_ok-add_element.ensures.ok)
    ∙ c.loop-left.invariant
