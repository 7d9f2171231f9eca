use Rattle.std.proofs.Common.{Option, ap, sym, ◌∙◌}
use Rattle.std.specs.Option.{option_or}
use Rattle.pmap_model.specs.MapText.{map_of, text_at}
use Rattle.pmap_model.specs.PrefixList.{list_of, number_of_block}
use Rattle.pmap_cert.specs.Packed.{bits_in}
use Rattle.cert_check.specs.Checking.{CheckFaultKind, leaf_fault}
use Rattle.cert_check.proofs.Beside.{path-clear}
use Rattle.cert_check.proofs.Nodes.{or-some, sides-step}
use Rattle.cert_check.proofs.OneStretch.{block-range}
use Rattle.cert_check.proofs.sources.Sources.+path_fault.Goals as goal

pub returns-in-None : goal.returns-in-None
returns-in-None t c = λ o of.
    let s = c.args.self.now in
    let m = map_of o.map in
    let ps = (list_of o.list).prefixes in
    let x = text_at s.limits.labels.now c.args.side.0 in
    let next = c.in_ok-chosen in
    c.leaf_fault.ensures o of next.beside.len (number_of_block next.beside)
    (block-range s next.beside (next.ensures.beside.version ∙ c.requires.version) c.high.result.value c.high.ensures.last (rw (sym c.high.ensures.version) c.high.result.in_range))
    ∙ sym (sides-step m ps x c.args.block.now next.chosen next.beside c.in_ok-bit.bit (bits_in c.args.path.now) (bits_in c.in_ok-bit.rest) c.in_ok-bit.ensures.bits next.ensures.chosen next.ensures.beside
    ∙ ap (λ (f : Option CheckFaultKind). option_or f (leaf_fault m ps next.beside.len (number_of_block next.beside) x)) (sym (c.path_fault.ensures o of) ∙ c.in-None.is))

pub returns-in_default : goal.returns-in_default
returns-in_default t c = λ o of.
    let s = c.args.self.now in
    let m = map_of o.map in
    let ps = (list_of o.list).prefixes in
    let x = text_at s.limits.labels.now c.args.side.0 in
    let next = c.in_ok-chosen in
    sym (sides-step m ps x c.args.block.now next.chosen next.beside c.in_ok-bit.bit (bits_in c.args.path.now) (bits_in c.in_ok-bit.rest) c.in_ok-bit.ensures.bits next.ensures.chosen next.ensures.beside
    ∙ ap (λ (f : Option CheckFaultKind). option_or f (leaf_fault m ps next.beside.len (number_of_block next.beside) x)) (sym (c.path_fault.ensures o of))
    ∙ or-some c.path_fault.result (leaf_fault m ps next.beside.len (number_of_block next.beside) x) c.in_default.not-None)

pub returns-then-is_clear_after : goal.returns-then-is_clear_after
returns-then-is_clear_after t c = λ o of.
    let s = c.args.self.now in
    let x = text_at s.limits.labels.now c.args.side.0 in
    sym (path-clear s o of x c.args.block.now c.end.result c.requires.version (bits_in c.args.path.now) c.end.ensures
    (c.requires.before c.end.result c.end.ensures c.if-is_clear_before.true) (c.is_clear_after.ensures c.if-is_clear_after.true))
