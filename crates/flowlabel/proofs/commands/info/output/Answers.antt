use Rattle.std.proofs.Common.{◌∙◌, Ok, ap, arith}
use Rattle.pmap_print.specs.Reports.{info_text}
use Rattle.flowlabel.proofs.PrintoutLemmas.{faulty, is_printout}
use Rattle.flow_files.proofs.ReadLemmas.{flows_read, no_memory_left, none_read}
use Rattle.flowlabel.specs.Printouts.{HasCounts}
use Rattle.flowlabel.proofs.commands.info.output.Goals as goal

pub returns-in_err-buffer : goal.returns-in_err-buffer
returns-in_err-buffer g c flows = no_memory_left (none_read 3 c.args.files.now c.requires) (omega arith) c.from_residual.ensures.1

pub returns-in_err-add_messages : goal.returns-in_err-add_messages
returns-in_err-add_messages g c flows =
    faulty _ (flows_read (none_read 3 c.args.files.now c.requires) {is = λ messages _. HasCounts messages c.add_messages.new.taker} (omega arith) c.in_err-add_messages.ensures.reads) (omega arith)
    (λ messages fault is. cc) c.from_residual-in_err-add_messages.ensures.1

pub returns-in_err-print_info : goal.returns-in_err-print_info
returns-in_err-print_info g c flows =
    no_memory_left (flows_read (none_read 3 c.args.files.now c.requires) {is = λ messages _. HasCounts messages c.add_messages.new.taker} (omega arith) c.in_ok-add_messages.ensures.reads) (omega arith)
    c.from_residual-in_err-print_info.ensures.1

pub returns : goal.returns
returns g c flows =
    is_printout _ (flows_read (none_read 3 c.args.files.now c.requires) {is = λ messages _. HasCounts messages c.add_messages.new.taker} (omega arith) c.in_ok-add_messages.ensures.reads) (omega arith)
    (λ messages is. (tt, λ out same. ap Ok (same ∙ c.in_ok-print_info.ensures ∙ ap info_text is)))
