use Rattle.std.proofs.Common.{◌≡◌, [], Some, refl, true}
use Rattle.flow_io.specs.Devices.{has_ended}
use Rattle.flow_io.proofs.Moving.{gives_none}
use Rattle.ipfix_read.specs.declared.progress.State.TheVariants.{Ended}
use Rattle.flow_files.specs.Readers.{view_of}
use Rattle.flow_files.proofs.TakenLemmas.{ends, next_read, with_fault}
use Rattle.flow_files.proofs.messages.next_message.Goals as goal

pub returns-in_default-clause-reads : goal.returns-in_default-clause-reads
returns-in_default-clause-reads g c = λ start messages so_far.
    let ended : has_ended (view_of g.R.Input.input c.args.flows.now) ≡ true = rw c.in_default.is refl in
    ends c.calls_join_file.ensures.join g.R.Input.input start messages c.args.progress.now (record c.args.progress.now { state = Ended }) c.args.flows.now c.args.flows.now
    so_far ([], gives_none _, (refl, ended, refl)) so_far.works

pub returns-in-Ok-clause-reads : goal.returns-in-Ok-clause-reads
returns-in-Ok-clause-reads g c = λ start messages so_far.
    let had = rw c.in-Some.is at so_far in
    next_read c.calls_join_file.ensures.join g.R.Input.input start messages c.args.progress.now c.next.new.self (Some c.in-Some.source) (Some (record c.in-Some.source { reader = c.next.new.reader }))
    had c.in-Ok.message (c.in-Ok.ensures.call.going had.going) c.in-Ok.ensures.counted (c.in-Ok.ensures.call.device had.works) refl

pub returns-in-Err-clause-reads : goal.returns-in-Err-clause-reads
returns-in-Err-clause-reads g c = λ start messages so_far.
    let had = rw c.in-Some.is at so_far in
    with_fault c.calls_join_file.ensures.join g.R.Input.input start messages c.args.progress.now c.next.new.self (Some c.in-Some.source) (Some (record c.in-Some.source { reader = c.next.new.reader }))
    had c.in-Err.fault c.fault_of.result c.fault_of.ensures (c.in-Err.ensures.call.going had.going) (c.in-Err.ensures.call.device had.works)
