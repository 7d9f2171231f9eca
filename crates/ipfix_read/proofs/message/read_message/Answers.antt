use Rattle.std.proofs.Common.{◌≡◌, ◌∙◌, length, inr, None, refl, ap, arith, length-drop}
use Rattle.std.proofs.lemmas.List.{length-take-le}
use Rattle.std.proofs.lemmas.Result.{err_from_is_err_and}
use Rattle.ipfix_templates.specs.InForce.{template_at}
use Rattle.ipfix_read.specs.Message.{HasHeader, header_fault}
use Rattle.ipfix_read.proofs.Gathering.{Own, header_cut, header_none, header_own, header_short, own_sound}
use Rattle.ipfix_read.proofs.Readings.{message_cut, message_read}
use Rattle.ipfix_read.proofs.Sets.{fault_kept, front_length, front_number}
use Rattle.ipfix_read.proofs.message.read_message.Goals as goal
use Rattle.ipfix_read.proofs.message.read_message.Goals.{After-split_at}

header : (c : After-split_at) → Own c.args.count c.args.bytes.now
header c = own_sound c.args.count c.args.bytes.now c.in-Ok.ensures.ok

sound : (c : After-split_at) → header_fault c.args.count c.args.bytes.now ≡ None
sound c = header_none c.args.count c.args.bytes.now (omega arith) c.in-Ok.ensures.ok (omega (arith, c.in-Ok.ensures.whole))

whole : (c : After-split_at) → HasHeader c.split_at.result.0.now
whole c =
    let front = c.split_at.ensures.front in
    let size = c.in-Ok.size in
    let bytes = c.args.bytes.now in
    let long = length-take-le size bytes (omega arith) in
    rw front (record {
      least = omega (arith, long, c.in-Ok.ensures.least);
      most = omega (arith, long, c.in-Ok.ensures.most);
      version = front_number size bytes (omega (arith, c.in-Ok.ensures.least)) ∙ (header c).version;
      whole = omega (arith, long, front_length size bytes (omega (arith, c.in-Ok.ensures.least)), c.in-Ok.ensures.whole);
    })

pub whole_message-requires-clause-header : goal.whole_message-requires-clause-header
whole_message-requires-clause-header c = whole (goal.at.whole_message-requires-clause-header c).After-split_at

pub returns-then-bytes-lt-MESSAGE_HEADER-clause-read : goal.returns-then-bytes-lt-MESSAGE_HEADER-clause-read
returns-then-bytes-lt-MESSAGE_HEADER-clause-read c =
    rw c.at.ensures (refl, inr (message_cut (template_at c.args.table.now) c.args.count c.args.base c.args.bytes.now _ (header_short c.args.count c.args.bytes.now (omega arith))))

pub returns-in-Err-clause-read : goal.returns-in-Err-clause-read
returns-in-Err-clause-read c =
    let fault = c.in-Err.ensures.fault in
    rw c.at-in-Err.ensures (fault.1, inr (message_cut (template_at c.args.table.now) c.args.count c.args.base c.args.bytes.now _ (header_own c.args.count c.args.bytes.now c.in-Err.kind (omega arith) fault.0)))

pub returns-then-bytes-size-clause-read : goal.returns-then-bytes-size-clause-read
returns-then-bytes-size-clause-read c =
    rw c.at-then-bytes-size.ensures (
      refl,
      inr (message_cut (template_at c.args.table.now) c.args.count c.args.base c.args.bytes.now _
          (header_cut c.args.count c.args.bytes.now (omega arith) c.in-Ok.ensures.ok (omega (arith, c.in-Ok.ensures.whole)))),
    )

pub returns-in_err-message-clause-read : goal.returns-in_err-message-clause-read
returns-in_err-message-clause-read c =
    let p = err_from_is_err_and c.from_residual.result c.from_residual.ensures.1 in
    let s = (goal.at.returns-in_err-message-clause-read c).After-split_at in
    rw (p.1, p.2) (fault_kept _ _ c.in_err-message.field-0.0 (λ found.
    message_read (template_at c.args.table.now) c.args.count c.args.base c.args.bytes.now c.in-Ok.size (sound s) c.in-Ok.ensures.whole ∙ rw (← c.split_at.ensures.front, found) refl)
    c.in_err-message.ensures)

pub returns-clause-counted : goal.returns-clause-counted
returns-clause-counted c = let s = (goal.at.returns-clause-counted c).After-split_at in (header s).counted

pub returns-clause-shorter : goal.returns-clause-shorter
returns-clause-shorter c = omega (arith, ap length c.split_at.ensures.back, length-drop c.in-Ok.size c.args.bytes.now, c.in-Ok.ensures.least)

pub returns-clause-read : goal.returns-clause-read
returns-clause-read c =
    let s = (goal.at.returns-clause-read c).After-split_at in
    let read = c.in_ok-message.ensures in (
      message_read (template_at c.args.table.now) c.args.count c.args.base c.args.bytes.now c.in-Ok.size (sound s) c.in-Ok.ensures.whole
          ∙ rw (← c.split_at.ensures.front, read.0, ← c.split_at.ensures.back) refl,
      read.1,
    )
