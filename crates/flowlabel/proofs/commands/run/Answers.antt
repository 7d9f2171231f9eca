use Rattle.std.proofs.Common.{rules}
use Rattle.flowlabel.specs.Output.{IsOutput}
use Rattle.flowlabel.specs.Run.{IsRunOf}
use Rattle.flow_files.proofs.ReadLemmas.{are_fresh, are_reported, handed_on}
use Rattle.flowlabel.proofs.PrintoutLemmas.{is_whole, printout_written, run_fault}
use Rattle.flowlabel.proofs.commands.run.Goals as goal

pub output-requires : goal.output-requires
output-requires g c = are_fresh g.R.Input.input c.args.inputs.now.files c.requires.unread c.requires.readers

pub write_printout-requires : goal.write_printout-requires
write_printout-requires g c = record { writer = search (rules, c.requires.writer); whole = is_whole (IsOutput c.args.command.now) c.in_ok-printout.ensures }

pub returns-in_err-printout : goal.returns-in_err-printout
returns-in_err-printout g c =
    handed_on (IsRunOf g.R.Input.input g.W.Output.output c.args.command.now c.args.inputs.now.files c.output.new.files c.args.writer.now _)
    c.from_residual.result c.in_err-printout.field-0.0 c.from_residual.ensures.1 (record {
      ends = run_fault g.W.Output.output c.args.command.now c.in_err-printout.field-0.0 c.in_err-printout.ensures (search rules);
      reported = are_reported g.R.Input.input c.args.inputs.now.files c.output.new.files c.requires.unread c.in_err-printout.ensures.read;
    })

pub returns : goal.returns
returns g c = record {
  ends =
      printout_written g.W.Output.output c.args.command.now c.in_ok-printout.ensures (c.output_keeps_headline.ensures c.args.command.now)
      c.args.writer.now c.write_printout.new.writer c.write_printout.result c.write_printout.ensures;
  reported = are_reported g.R.Input.input c.args.inputs.now.files c.output.new.files c.requires.unread c.in_ok-printout.ensures.read;
}
