use Rattle.std.proofs.Common.{None, Option, ap, get_or, sym, ◌∙◌}
use Rattle.std.proofs.lemmas.Option.{slice_get-get_or}
use Rattle.pmap_model.specs.declared.label.LabelId.{LabelId}
use Rattle.pmap_model.specs.MapText.{text_at, text_if_some}
use Rattle.cert_check.specs.Checking.{is_label_of}
use Rattle.cert_check.proofs.Numbered.{same-none, same-some}
use Rattle.cert_check.proofs.labels.is_label.Goals as goal

pub returns-in-Some-numbers : goal.returns-in-Some-numbers
returns-in-Some-numbers c = λ from to are known.
    let nothing : Option LabelId = None in
    let own = c.in-Some.label in
    same-some c.args.numbers.now from to are own.0 c.args.id.0 known (get_or c.args.numbers.now own.0 nothing)
    (slice_get-get_or c.args.numbers.now own.0 nothing (c.requires own c.in-Some.is)) c.in-Some-numbers.number c.in-Some-numbers.is
    ∙ sym (ap (λ (o : Option LabelId). is_label_of (text_if_some from o) (text_at to c.args.id.0)) c.in-Some.is)

pub returns-in-None : goal.returns-in-None
returns-in-None c = λ from to are known.
    let nothing : Option LabelId = None in
    let own = c.in-Some.label in
    same-none c.args.numbers.now from to are own.0 c.args.id.0 known (get_or c.args.numbers.now own.0 nothing)
    (slice_get-get_or c.args.numbers.now own.0 nothing (c.requires own c.in-Some.is)) c.in-None.is
    ∙ sym (ap (λ (o : Option LabelId). is_label_of (text_if_some from o) (text_at to c.args.id.0)) c.in-Some.is)
