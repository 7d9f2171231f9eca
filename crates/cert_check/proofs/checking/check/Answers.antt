use Rattle.std.proofs.Common.{◌∙◌, ap, subst, sym}
use Rattle.pmap_model.specs.MapText.{map_of}
use Rattle.pmap_model.specs.PrefixList.{list_of}
use Rattle.pmap_cert.specs.Acceptance.{IsAccepted}
use Rattle.pmap_cert.specs.Certificate.{certificate_of}
use Rattle.pmap_cert.proofs.Tables.{ok_is}
use Rattle.cert_check.specs.Checking.{first_fault, text_fault}
use Rattle.cert_check.proofs.Nodes.{IsNodeFault, first-node, text-checked, text-none}
use Rattle.cert_check.proofs.checking.check.Goals as goal

pub returns-in-Ok-clause-accepted : goal.returns-in-Ok-clause-accepted
returns-in-Ok-clause-accepted c =
    let k = certificate_of c.args.certificate.now in
    let read = (c.text_of_format_is_read_or_has_a_fault.ensures.read c.as_slice.result.now k).1 (c.root-root.ensures.form, c.as_slice.ensures.value ∙ c.in_ok-text.ensures) in
    let found = c.in-Ok.ensures.accepted c.args.map.now c.args.list.now c.in_ok-swept_map.ensures.map c.in_ok-swept_list.ensures.list in
    subst (IsAccepted (map_of c.args.map.now) (list_of c.args.list.now)) (ok_is found.0 k (sym found.1 ∙ read)) found.2

pub returns-in-Ok-clause-ok : goal.returns-in-Ok-clause-ok
returns-in-Ok-clause-ok c =
    let m = map_of c.args.map.now in
    let l = list_of c.args.list.now in
    let k = certificate_of c.args.certificate.now in
    let read = (c.text_of_format_is_read_or_has_a_fault.ensures.read c.as_slice.result.now k).1 (c.root-root.ensures.form, c.as_slice.ensures.value ∙ c.in_ok-text.ensures) in
    text-none (first_fault m l k) (sym (ap (text_fault m l) read) ∙ c.in-Ok.ensures.fault c.args.map.now c.args.list.now c.in_ok-swept_map.ensures.map c.in_ok-swept_list.ensures.list)

pub returns-in-Err-Check-clause-fault : goal.returns-in-Err-Check-clause-fault
returns-in-Err-Check-clause-fault c =
    let m = map_of c.args.map.now in
    let l = list_of c.args.list.now in
    let k = certificate_of c.args.certificate.now in
    let read = (c.text_of_format_is_read_or_has_a_fault.ensures.read c.as_slice.result.now k).1 (c.root-root.ensures.form, c.as_slice.ensures.value ∙ c.in_ok-text.ensures) in
    λ some. text-checked (first_fault m l k) c.in-Err-Check.fault (sym (ap (text_fault m l) read) ∙ (rw c.in-Err-Check.field-0-is at c.in-Err-Check.ensures.fault c.args.map.now c.args.list.now c.in_ok-swept_map.ensures.map c.in_ok-swept_list.ensures.list))

pub returns-in-Err-Check-clause-memory : goal.returns-in-Err-Check-clause-memory
returns-in-Err-Check-clause-memory c =
    let m = map_of c.args.map.now in
    let l = list_of c.args.list.now in
    let k = certificate_of c.args.certificate.now in
    let read = (c.text_of_format_is_read_or_has_a_fault.ensures.read c.as_slice.result.now k).1 (c.root-root.ensures.form, c.as_slice.ensures.value ∙ c.in_ok-text.ensures) in
    let is = text-checked (first_fault m l k) c.in-Err-Check.fault (sym (ap (text_fault m l) read) ∙ (rw c.in-Err-Check.field-0-is at c.in-Err-Check.ensures.fault c.args.map.now c.args.list.now c.in_ok-swept_map.ensures.map c.in_ok-swept_list.ensures.list)) in
    λ none. absurd (subst IsNodeFault is (first-node m l k) none)

pub returns-in-Ok-clause-count : goal.returns-in-Ok-clause-count
returns-in-Ok-clause-count c = c.in-Ok.ensures.count c.args.map.now c.args.list.now c.in_ok-swept_map.ensures.map c.in_ok-swept_list.ensures.list

pub returns-in-Ok-clause-equivalent : goal.returns-in-Ok-clause-equivalent
returns-in-Ok-clause-equivalent c = c.in-Ok.ensures.equivalent c.args.map.now c.args.list.now c.in_ok-swept_map.ensures.map c.in_ok-swept_list.ensures.list

pub returns-in-Ok-clause-least : goal.returns-in-Ok-clause-least
returns-in-Ok-clause-least c = c.in-Ok.ensures.least c.args.map.now c.args.list.now c.in_ok-swept_map.ensures.map c.in_ok-swept_list.ensures.list
