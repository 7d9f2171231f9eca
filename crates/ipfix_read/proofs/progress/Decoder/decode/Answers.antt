use Rattle.std.proofs.Common.{◌≡◌, rules, subst, ℕ, Option, Some, Result, Ok}
use Rattle.ipfix_read.specs.declared.fault.ReadFault.{ReadFault}
use Rattle.ipfix_read.specs.Messages.{HoldsMessage}
use Rattle.ipfix_read.proofs.Joining.{decodes_fault, decodes_message}
use Rattle.ipfix_read.proofs.progress.Decoder.decode.Goals as goal

pub returns-in-Err : goal.returns-in-Err
returns-in-Err c = rw c.in-Err.is (decodes_fault c.progress.view_is c.args.self.bytes.now c.in-Err.fault)

pub returns : goal.returns
returns c =
    let found : c.args.found ≡ Ok (Some c.in-Ok-Some.size) = search rules in
    let held = subst (λ (f : Result (Option ℕ) ReadFault). HoldsMessage c.args.self.progress.now.count c.args.self.bytes.now f) found c.requires in
    rw found (decodes_message c.progress.view_is c.args.self.bytes.now c.in-Ok-Some.size held.2 held.0 c.whole_message.new.table c.in_ok-message.message c.in_ok-message.ensures held.1)
