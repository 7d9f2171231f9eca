use Rattle.std.proofs.Common.{◌≡◌, arith, rules}
use Rattle.prefix_keys.proofs.Covering.{span_covers_block, span_covers_block-high}
use Rattle.prefix_keys.proofs.span.Span.covers_block.Goals as goal

pub returns-then-self-low : goal.returns-then-self-low
returns-then-self-low c =
    let span = c.args.self.now in
    let block = c.args.block.now in
    let same : span.low.version ≡ block.version = search rules in (
      λ t. span_covers_block span block same (omega (arith, c.low.ensures.first)) (search rules),
      λ m. let h = span_covers_block-high span block m in search rules,
    )
