use Rattle.std.specs.Prelude.{IfErr}
use Rattle.flow_files.specs.ByFile.{at}
use Rattle.flow_files.specs.ByFile as role
use Rattle.flow_files.specs.Opening.{CanOpen, CannotOpenFirst}
use Rattle.flow_files.specs.Sources.{names_of}
use Rattle.flow_files.proofs.EndLemmas.{before_certificate, before_flows, opens}
use Rattle.flow_files.proofs.ReadLemmas.{handed_on}
use Rattle.flow_files.proofs.opening.open_all.Goals as goal

pub returns-in_err-open_source-3-clause-err : goal.returns-in_err-open_source-3-clause-err
returns-in_err-open_source-3-clause-err g c =
    let answers = g.O.Opener.answers c.args.opener.now in
    let names = names_of c.args.names in
    handed_on (λ r. IfErr r (CannotOpenFirst answers names)) c.from_residual-in_err-open_source-3.result c.in_err-open_source-3.field-0.0 c.from_residual-in_err-open_source-3.ensures.1 (
      role.Certificate,
      c.in_err-open_source-3.ensures.err,
      before_certificate (λ r. CanOpen answers (at r names))
          (opens answers names.map _ c.in_ok-open_source.ensures.opened) (opens answers names.list _ c.in_ok-open_source-2.ensures.opened),
    )

pub returns-in_err-open_source-4-clause-err : goal.returns-in_err-open_source-4-clause-err
returns-in_err-open_source-4-clause-err g c =
    let answers = g.O.Opener.answers c.args.opener.now in
    let names = names_of c.args.names in
    handed_on (λ r. IfErr r (CannotOpenFirst answers names)) c.from_residual-in_err-open_source-4.result c.in_err-open_source-4.field-0.0 c.from_residual-in_err-open_source-4.ensures.1 (
      role.Flows,
      c.in_err-open_source-4.ensures.err,
      before_flows (λ r. CanOpen answers (at r names))
          (opens answers names.map _ c.in_ok-open_source.ensures.opened) (opens answers names.list _ c.in_ok-open_source-2.ensures.opened)
          (opens answers names.certificate _ c.in_ok-open_source-3.ensures.opened),
    )
