use Rattle.std.proofs.Common.{◌∙◌, List, ap, sym, subst, map}
use Rattle.std.specs.Prelude.{option_map}
use Rattle.clap.specs.Words.{App, HasKind, Row, Text, fault_of, found_of, is_simple, is_simple_and_free, rows_of, subcommand_of, takes}
use Rattle.flow_many.specs.Answer.{answer_of}
use Rattle.flow_many.specs.Definition.{many_app}
use Rattle.flow_many.specs.Request.{request_of}
use Rattle.flow_many.proofs.WordLemmas.{many_is_free, many_is_simple}
use Rattle.flow_files.proofs.AnswerLemmas.{answers, fault_at, own, own_of_memory, subcommand_is}
use Rattle.flow_many.proofs.words.parse.Goals as goal

pub returns-in-Ok-clause-answer : goal.returns-in-Ok-clause-answer
returns-in-Ok-clause-answer g c =
    let app_is = c.in_ok-command.ensures.app.0 in
    let fails = c.in-Ok.ensures.kinds (ap is_simple_and_free app_is ∙ many_is_free) in
    let matches = c.in-Ok.ensures.matches (ap is_simple app_is ∙ many_is_simple) in
    let words = map g.S.AsStr.text c.args.words.now in
    let none = sym (ap (λ (a : App). fault_of a words) app_is) ∙ fails in
    let found = matches.1 ∙ ap (λ (a : App). subcommand_of a words) app_is in
    let name = sym c.subcommand.ensures.name ∙ ap (option_map (λ p. p.0.now)) c.unwrap.ensures in
    let rows = sym c.subcommand.ensures.rows ∙ ap (option_map (λ p. rows_of (found_of p.1.now))) c.unwrap.ensures in
    let sub = subcommand_is c.in-Ok.matches _ _ name rows in
    answers many_app answer_of request_of words _ _ none (sym found ∙ sub) c.command_of.ensures

pub returns-in-Ok-clause-taken : goal.returns-in-Ok-clause-taken
returns-in-Ok-clause-taken g c =
    let found : Text × List Row = (c.unwrap.result.0.now, rows_of (found_of c.unwrap.result.1.now)) in
    λ taken. own request_of (answer_of found) _ c.command_of.ensures

pub returns-in-Err-clause-answer : goal.returns-in-Err-clause-answer
returns-in-Err-clause-answer g c =
    let app_is = c.in_ok-command.ensures.app.0 in
    let fails = c.in-Err.ensures.kinds (ap is_simple_and_free app_is ∙ many_is_free) in
    let words = map g.S.AsStr.text c.args.words.now in
    let of = subst (λ (a : App). HasKind (fault_of a words) c.in-Err.error) app_is fails in
    fault_at many_app answer_of words _ _ of c.fault_of_error.ensures

pub returns-in-Err-clause-taken : goal.returns-in-Err-clause-taken
returns-in-Err-clause-taken g c =
    let app_is = c.in_ok-command.ensures.app.0 in
    let words = map g.S.AsStr.text c.args.words.now in
    λ taken. own_of_memory _ _ (c.in-Err.ensures.passes (ap (λ (a : App). takes a words) app_is ∙ taken)) c.fault_of_error.ensures
