use Rattle.std.proofs.Common.{◌∙◌, Ok, ap}
use Rattle.pmap_model.specs.Steps.{◌>>=◌}
use Rattle.pmap_print.specs.Messages.{messages_text, lines_text}
use Rattle.flow_many.specs.Request.{Messages}
use Rattle.flow_many.proofs.CommandLemmas.{ends_written, listed_text}
use Rattle.flow_many.proofs.commands.messages.Goals as goal

pub returns : goal.returns
returns g c labels works =
    let (readers, were, have) = c.in_ok-read_files.ensures in
    ends_written (g.O.Opener.answers c.args.opener.now) g.O.Reader.Input.input g.W.Output.output (Messages _) labels labels c.args.writer.now c.print_to.new.writer readers
    (lines_text c.read_files.new.taker.lines.items) were works
    (λ labels_text texts are given. let (files, reads, has) = have texts given in
    ap (λ read. read >>= (λ files. Ok (messages_text files))) reads ∙ ap Ok (listed_text c.new-listing.result c.read_files.new.taker files has))
    c.output_keeps_headline.ensures (λ text is. is ∙ ap lines_text c.text.ensures) c.print_to.result c.print_to.ensures
