use Rattle.std.proofs.Common.{map, subst}
use Rattle.flow_files.specs.Opening.{AreOpened}
use Rattle.flow_many.proofs.CommandLemmas.{end_is}
use Rattle.flow_many.proofs.execute.Goals as goal

pub returns : goal.returns
returns g c =
    let answers = g.O.Opener.answers c.args.opener.now in
    end_is answers g.O.Reader.Input.input g.W.Output.output (map g.S.AsStr.text c.args.words.now) c.in-Ok.command c.in_ok-labels.labels c.run.new.labels
    c.args.output.now c.run.new.writer c.run.result c.in-Ok.ensures.answer
    (subst (λ names. AreOpened answers names c.in_ok-labels.labels) c.label_files.ensures c.in_ok-labels.ensures.opened) c.in_ok-labels.ensures.unread c.run.ensures
