use Rattle.std.proofs.Common.{◌≡◌, ◌∙◌, ◌&&◌, None, ap, option_map, sym}
use Rattle.std.proofs.lemmas.List.{length-map}
use Rattle.pmap_model.specs.MapText.{map_of}
use Rattle.pmap_model.specs.PrefixList.{list_of, prefix_of}
use Rattle.pmap_cert.specs.Acceptance.{IsAccepted}
use Rattle.pmap_cert.specs.Certificate.{certificate_of}
use Rattle.pmap_cert.specs.Inner.{reading_from}
use Rattle.pmap_cert.specs.declared.node_line.LineLimits.{LineLimits}
use Rattle.cert_check.specs.Checking.{first_fault, is_same_version, text_fault, Check}
use Rattle.cert_check.specs.Inner.{AreOf, ForInputs, Origin, certificate_with}
use Rattle.cert_check.proofs.Whole.{fault-as, read-as, version-fault}
use Rattle.cert_check.proofs.checking.check_text.Goals as goal

pub returns-then-not-are_one_version-clause-fault : goal.returns-then-not-are_one_version-clause-fault
returns-then-not-are_one_version-clause-fault c = λ map list of_map of_list.
    let m = map_of map in
    let l = list_of list in
    let k = certificate_of c.in_ok-certificate.certificate in
    let head = c.in_ok-format.field-0 in
    let read = (c.text_of_format_is_read_or_has_a_fault.ensures.read c.args.text.now k).1 (c.root-root.ensures.form, c.in_ok-certificate.ensures.ok) in
    ap (text_fault m l) read
    ∙ ap (option_map Check) (version-fault m l head.format head.version head.labels head.nodes k (sym c.in_ok-format.ensures.ok ∙ read)
    ((λ i. is_same_version (sym of_list.version i) (sym of_map.version i) && is_same_version head.version (sym of_map.version i))
    ∙ sym c.are_one_version.ensures.value ∙ c.if-not-are_one_version.true))

pub returns-in-Some-clause-fault : goal.returns-in-Some-clause-fault
returns-in-Some-clause-fault c = λ map list of_map of_list.
    let s = c.in_ok-sources.sources in
    let made = c.in_ok-sources.ensures in
    let o : Origin = record { map = map; list = list } in
    let head = c.in_ok-format.field-0 in
    let root = c.in_ok-check_root.ensures.ok in
    let format = ap (λ (f : LineLimits). f.format) made.limits in
    let labels = ap (λ (f : LineLimits). f.labels.now) made.limits in
    let version = c.are_one_version.ensures.certificate c.if-not-are_one_version.false ∙ sym made.version in
    let read = read-as s made.sources head.format head.labels head.version format labels version c.new-walk.result.nodes c.check_root.new.walk root (sym c.is_ended.ensures ∙ c.if-not-is_ended.false) in
    let fault = fault-as s made.sources head.format head.labels head.version format labels version c.new-walk.result.nodes c.check_root.new.walk root o (made.origin o of_map of_list) in
    ap (text_fault (map_of map) (list_of list)) (c.in_ok-format.ensures.ok ∙ ap (reading_from head.format head.version head.labels) (sym c.new-walk.ensures.nodes) ∙ read)
    ∙ ap (option_map Check) (fault ∙ c.in-Some.is)

pub returns : goal.returns
returns c =
    let s = c.in_ok-sources.sources in
    let made = c.in_ok-sources.ensures in
    let head = c.in_ok-format.field-0 in
    let root = c.in_ok-check_root.ensures.ok in
    let k = certificate_with head.format head.version head.labels root.tree in
    let format = ap (λ (f : LineLimits). f.format) made.limits in
    let labels = ap (λ (f : LineLimits). f.labels.now) made.limits in
    let version = c.are_one_version.ensures.certificate c.if-not-are_one_version.false ∙ sym made.version in
    let read = c.in_ok-format.ensures.ok ∙ ap (reading_from head.format head.version head.labels) (sym c.new-walk.ensures.nodes)
    ∙ read-as s made.sources head.format head.labels head.version format labels version c.new-walk.result.nodes c.check_root.new.walk root (sym c.is_ended.ensures ∙ c.if-not-is_ended.false) in
    let none : (o : Origin) → AreOf o s → first_fault (map_of o.map) (list_of o.list) k ≡ None = λ o of. fault-as s made.sources head.format head.labels head.version format labels version c.new-walk.result.nodes c.check_root.new.walk root o of ∙ c.in_default.is in
    let form = ((c.text_of_format_is_read_or_has_a_fault-2.ensures.read c.args.text.now k).0 read).0 in
    let accepted : ForInputs c.args.map.now c.args.list.now (λ m l. IsAccepted m l k) = λ map list of_map of_list. c.no_fault_is_acceptance.ensures.accepted (map_of map) (list_of list) k form
    (none (record { map = map; list = list }) (made.origin (record { map = map; list = list }) of_map of_list)) in
    record {
      accepted = λ map list of_map of_list. (k, read, accepted map list of_map of_list);
      count = λ map list of_map of_list. of_list.count ∙ sym (length-map list.entries (prefix_of list.labels));
      equivalent = λ map list of_map of_list. c.acceptance_is_enough.ensures.equivalent (map_of map) (list_of list) k (accepted map list of_map of_list);
      least = λ map list of_map of_list. c.acceptance_is_enough.ensures.least (map_of map) (list_of list) k (accepted map list of_map of_list);
      fault = λ map list of_map of_list. ap (text_fault (map_of map) (list_of list)) read
          ∙ ap (option_map Check) (none (record { map = map; list = list }) (made.origin (record { map = map; list = list }) of_map of_list));
    }
