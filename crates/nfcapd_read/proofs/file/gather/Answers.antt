use Rattle.std.proofs.Common.{◌≡◌, ◌∙◌, ap, arith, drop, length, length-take, sym}
use Rattle.std.proofs.lemmas.List.{take_at}
use Rattle.flow_io.specs.Devices.{has_ended}
use Rattle.nfcapd_read.specs.Reading.{part_size}
use Rattle.nfcapd_read.proofs.Gathering.{faulty_head, no_rest, part_whole, short_part}
use Rattle.nfcapd_read.proofs.file.gather.Goals as goal

pub returns-in_default-fill-clause-gathers : goal.returns-in_default-fill-clause-gathers
returns-in_default-fill-clause-gathers g c =
    let long : length c.fill.new.bytes ≡ c.head_size-head.result = omega (arith, length-take c.head_size-head.result c.args.part.now) in
    no_rest c.args.now.now c.args.part.now c.fill.new.bytes _ _ c.in-Ok.count c.in-Ok.ensures.given (omega (arith, long, c.in-Ok-part_size.ensures.least, c.in-Ok-part_size.ensures.most)) (omega arith)
    c.in-Ok-part_size.size
    (ap (part_size c.args.now.now) (sym (take_at c.fill.new.bytes (drop c.head_size-head.result c.args.part.now) c.head_size-head.result long))
    ∙ c.in-Ok-part_size.ensures.ok) (omega (arith, long, c.in-Ok-part_size.ensures.least, c.in-Ok-part_size.ensures.most)) _ (has_ended (g.R.Input.input c.fill-2.new.reader)) c.fill-2.new.bytes (omega (arith, long, c.in-Ok-part_size.ensures.least, c.in-Ok-part_size.ensures.most)) c.in_default-fill.ensures.short

pub returns-then-count-size-clause-gathers : goal.returns-then-count-size-clause-gathers
returns-then-count-size-clause-gathers g c =
    let long : length c.fill.new.bytes ≡ c.head_size-head.result = omega (arith, length-take c.head_size-head.result c.args.part.now) in
    short_part c.args.now.now c.args.part.now c.fill.new.bytes _ _ c.in-Ok.count c.in-Ok.ensures.given (omega (arith, long, c.in-Ok-part_size.ensures.least, c.in-Ok-part_size.ensures.most)) (omega arith)
    c.in-Ok-part_size.size
    (ap (part_size c.args.now.now) (sym (take_at c.fill.new.bytes (drop c.head_size-head.result c.args.part.now) c.head_size-head.result long))
    ∙ c.in-Ok-part_size.ensures.ok) (omega (arith, long, c.in-Ok-part_size.ensures.least, c.in-Ok-part_size.ensures.most)) _ (has_ended (g.R.Input.input c.fill-2.new.reader)) c.fill-2.new.bytes c.in-Ok-fill.count c.in-Ok-fill.ensures.given (omega (arith, long, c.in-Ok-part_size.ensures.least, c.in-Ok-part_size.ensures.most)) (c.in-Ok-fill.ensures.end (omega (arith, long, c.in-Ok-part_size.ensures.least, c.in-Ok-part_size.ensures.most))) (omega (arith, long, c.in-Ok-part_size.ensures.least, c.in-Ok-part_size.ensures.most))

pub returns-clause-gathers : goal.returns-clause-gathers
returns-clause-gathers g c =
    let long : length c.fill.new.bytes ≡ c.head_size-head.result = omega (arith, length-take c.head_size-head.result c.args.part.now) in
    part_whole c.args.now.now c.args.part.now c.fill.new.bytes _ _ c.in-Ok.count c.in-Ok.ensures.given (omega (arith, long, c.in-Ok-part_size.ensures.least, c.in-Ok-part_size.ensures.most)) (omega arith)
    c.in-Ok-part_size.size
    (ap (part_size c.args.now.now) (sym (take_at c.fill.new.bytes (drop c.head_size-head.result c.args.part.now) c.head_size-head.result long))
    ∙ c.in-Ok-part_size.ensures.ok) (omega (arith, long, c.in-Ok-part_size.ensures.least, c.in-Ok-part_size.ensures.most)) _ (has_ended (g.R.Input.input c.fill-2.new.reader)) c.fill-2.new.bytes c.in-Ok-fill.count c.in-Ok-fill.ensures.given (omega (arith, long, c.in-Ok-part_size.ensures.least, c.in-Ok-part_size.ensures.most)) (omega (arith, long, c.in-Ok-part_size.ensures.least, c.in-Ok-part_size.ensures.most)) c.head_size-head.result long

pub returns-in-Err-clause-gathers : goal.returns-in-Err-clause-gathers
returns-in-Err-clause-gathers g c =
    let long : length c.fill.new.bytes ≡ c.head_size-head.result = omega (arith, length-take c.head_size-head.result c.args.part.now) in
    faulty_head c.args.now.now c.args.part.now c.fill.new.bytes _ _ c.in-Ok.count c.in-Ok.ensures.given (omega (arith, long, c.head_size-head.ensures.value)) (omega arith)
    (has_ended (g.R.Input.input c.fill.new.reader)) c.in-Err.kind (omega (arith, long, c.head_size-head.ensures.least))
    (ap (part_size c.args.now.now) (sym (take_at c.fill.new.bytes (drop c.head_size-head.result c.args.part.now) c.head_size-head.result long))
    ∙ c.in-Err.ensures.err)
