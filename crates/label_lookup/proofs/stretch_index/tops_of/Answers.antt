use Rattle.std.proofs.Common.{◌∙◌, ◌-◌, ap, arith, rules}
use Rattle.std.proofs.lemmas.List.{length_push}
use Rattle.label_lookup.proofs.Tops.{more_tops, top_held, tops_all}
use Rattle.label_lookup.proofs.stretch_index.tops_of.Goals as goal

pub loop-block-preserved : goal.loop-block-preserved
loop-block-preserved c =
    let s = c.args.stretches.now in
    let tops = c.loop-block.tops.items in
    let index = c.holder_from-index.result in
    let top = top_held s c.loop-block.block index _ c.holder_from-index.ensures (search rules) in
    let items = c.in_ok-push.ensures.items in
    let long = length_push tops index in
    record {
      long = rw items (omega (arith, long, c.loop-block.invariant.long));
      below = top.below;
      above = omega (arith, top.from);
      each = rw items (more_tops s tops c.loop-block.block index c.loop-block.invariant.long c.loop-block.invariant.each top);
    }

pub returns : goal.returns
returns c =
    tops_all c.args.stretches.now c.laws.ensures.every c.loop-block.tops.items c.push-2.new.self.items (c.len-last.result - 1)
    (c.loop-block.invariant.long ∙ omega arith) (λ b below. c.loop-block.invariant.each b (omega (arith, below)))
    (ap (λ n. n - 1) c.len-last.ensures) c.in_ok-push-2.ensures.items
