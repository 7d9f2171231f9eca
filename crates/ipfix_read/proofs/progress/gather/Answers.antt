use Rattle.std.proofs.Common.{rules, ◌∙◌, sym, arith, length-take}
use Rattle.std.proofs.lemmas.Result.{err_from_is_err_and}
use Rattle.flow_io.specs.Devices.{has_ended}
use Rattle.ipfix_read.proofs.Gathering.{own_sound, head_of, unread_rest, faulty_header, short_message, gathered, holds_message}
use Rattle.ipfix_read.proofs.Readings.{not_of_reader}
use Rattle.ipfix_read.proofs.progress.gather.Goals as goal

pub returns-then-branch-size-clause-gathers : goal.returns-then-branch-size-clause-gathers
returns-then-branch-size-clause-gathers g c =
    short_message _ _ c.args.count _ c.fill.new.bytes c.in_ok-fill.ensures.given c.args.buffer.now (omega (arith, length-take 16 c.args.buffer.now)) (omega arith)
    c.in_ok-size.size _ _ c.in_ok-size.ensures.ok c.in_ok-size.ensures.whole _ c.fill-2.new.bytes c.in_ok-fill-2.ensures.given
    c.in_ok-fill-2.ensures.within (omega arith) (c.in_ok-fill-2.ensures.end (omega arith))

pub returns-clause-gathers : goal.returns-clause-gathers
returns-clause-gathers g c =
    gathered _ _ c.args.count _ c.fill.new.bytes c.in_ok-fill.ensures.given c.args.buffer.now (omega (arith, length-take 16 c.args.buffer.now)) (omega arith)
    c.in_ok-size.size _ (has_ended (g.R.Input.input c.fill-2.new.reader)) c.in_ok-size.ensures.ok c.in_ok-size.ensures.whole _ c.fill-2.new.bytes c.in_ok-fill-2.ensures.given (search rules) (omega arith)

pub returns-clause-whole : goal.returns-clause-whole
returns-clause-whole g c =
    let own = own_sound c.args.count (head_of c.args.buffer.now c.fill.new.bytes) c.in_ok-size.ensures.ok in
    let held = holds_message c.in_ok-size.size c.args.buffer.now c.fill.new.bytes c.fill-2.new.bytes (omega (arith, length-take 16 c.args.buffer.now)) (search rules) c.in_ok-size.ensures.most own.version c.in_ok-size.ensures.whole in
    (held.0, held.1, own.counted)

pub returns-in_err-fill-2 : goal.returns-in_err-fill-2
returns-in_err-fill-2 g c =
    let p = err_from_is_err_and c.from_residual-in_err-fill-2.result c.from_residual-in_err-fill-2.ensures.1 in
    rw (p.1, p.2) (record {
      gathers = unread_rest _ _ c.args.count _ c.fill.new.bytes c.in_ok-fill.ensures.given c.args.buffer.now (omega (arith, length-take 16 c.args.buffer.now)) (omega arith)
          c.in_ok-size.size _ _ c.in_ok-size.ensures.ok c.in_ok-size.ensures.whole c.fill-2.new.bytes (search rules) c.in_err-fill-2.ensures.short;
      whole = tt;
      device = λ none. c.in_err-fill-2.ensures.err;
    })

pub returns-in_err-size : goal.returns-in_err-size
returns-in_err-size g c =
    let p = err_from_is_err_and c.from_residual-in_err-size.result c.from_residual-in_err-size.ensures.1 in
    let found = c.in_err-size.ensures.fault in
    rw (p.1, p.2) (record {
      gathers = faulty_header _ _ c.args.count _ c.fill.new.bytes c.in_ok-fill.ensures.given c.args.buffer.now (omega (arith, length-take 16 c.args.buffer.now)) (omega arith) _ c.in_err-size.field-0.0 found.1 found.0;
      whole = tt;
      device = λ none. c.in_ok-fill.ensures.ok ∙ none ∙ sym (not_of_reader c.in_err-size.field-0.0 found.1);
    })
