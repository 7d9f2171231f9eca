use Rattle.std.proofs.Common.{◌≡◌, ◌∙◌, [], arith, drop, length, length-take, sym}
use Rattle.byteorder.specs.Numbers.{little_from-append}
use Rattle.flow_io.specs.Devices.{has_ended}
use Rattle.nfcapd_read.proofs.Beginning.{begins_cut, begins_device, begins_fault, begins_flows, forty_read}
use Rattle.nfcapd_read.proofs.file.begin.Goals as goal

pub returns-in_default-fill-clause-begins : goal.returns-in_default-fill-clause-begins
returns-in_default-fill-clause-begins g c =
    let long : length c.fill.new.bytes ≡ 2 = omega (arith, length-take 2 c.args.part.now) in
    let (taken, gives, short) = c.in_default-fill.ensures.short in
    begins_device c.args.allow_sampled c.fill.new.bytes long
    (sym (little_from-append 2 c.fill.new.bytes (drop 2 c.args.part.now) (omega (arith, long))) ∙ sym c.read_u16.ensures ∙ c.if-read_u16.false)
    _ _ _ c.in-Ok.count c.in-Ok.ensures.given (omega arith) [] (has_ended (g.R.Input.input c.fill-2.new.reader)) (taken, gives, omega (arith, short))

pub returns-then-count-lt38-clause-begins : goal.returns-then-count-lt38-clause-begins
returns-then-count-lt38-clause-begins g c =
    let long : length c.fill.new.bytes ≡ 2 = omega (arith, length-take 2 c.args.part.now) in
    let size : length c.fill-2.new.bytes ≡ 38 = omega (arith, long) in
    begins_cut c.args.allow_sampled c.fill.new.bytes long
    (sym (little_from-append 2 c.fill.new.bytes (drop 2 c.args.part.now) (omega (arith, long))) ∙ sym c.read_u16.ensures ∙ c.if-read_u16.false)
    _ _ _ c.in-Ok.count c.in-Ok.ensures.given (omega arith) [] (has_ended (g.R.Input.input c.fill-2.new.reader))
    c.fill-2.new.bytes c.in-Ok-fill.count c.in-Ok-fill.ensures.given size (c.in-Ok-fill.ensures.end (omega (arith, size))) (omega arith)

pub returns-in-Ok-read_header-clause-begins : goal.returns-in-Ok-read_header-clause-begins
returns-in-Ok-read_header-clause-begins g c =
    let long : length c.fill.new.bytes ≡ 2 = omega (arith, length-take 2 c.args.part.now) in
    let size : length c.fill-2.new.bytes ≡ 38 = omega (arith, long) in
    begins_flows c.args.allow_sampled c.fill.new.bytes long
    (sym (little_from-append 2 c.fill.new.bytes (drop 2 c.args.part.now) (omega (arith, long))) ∙ sym c.read_u16.ensures ∙ c.if-read_u16.false)
    _ _ _ c.in-Ok.count c.in-Ok.ensures.given (omega arith) [] (has_ended (g.R.Input.input c.fill-2.new.reader))
    c.fill-2.new.bytes c.in-Ok-fill.count c.in-Ok-fill.ensures.given size (omega arith) _
    (forty_read c.fill.new.bytes c.fill-2.new.bytes (drop 2 c.args.part.now) long size) c.in-Ok-read_header.next c.in-Ok-read_header.ensures.ok

pub returns-in-Err-clause-begins : goal.returns-in-Err-clause-begins
returns-in-Err-clause-begins g c =
    let long : length c.fill.new.bytes ≡ 2 = omega (arith, length-take 2 c.args.part.now) in
    let size : length c.fill-2.new.bytes ≡ 38 = omega (arith, long) in
    begins_fault c.args.allow_sampled c.fill.new.bytes long
    (sym (little_from-append 2 c.fill.new.bytes (drop 2 c.args.part.now) (omega (arith, long))) ∙ sym c.read_u16.ensures ∙ c.if-read_u16.false)
    _ _ _ c.in-Ok.count c.in-Ok.ensures.given (omega arith) [] (has_ended (g.R.Input.input c.fill-2.new.reader))
    c.fill-2.new.bytes c.in-Ok-fill.count c.in-Ok-fill.ensures.given size (omega arith) _
    (forty_read c.fill.new.bytes c.fill-2.new.bytes (drop 2 c.args.part.now) long size) c.in-Err.kind c.in-Err.ensures.err
