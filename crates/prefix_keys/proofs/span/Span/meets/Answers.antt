use Rattle.std.proofs.Common.{◌≡◌, arith, rules}
use Rattle.prefix_keys.proofs.Covering.{span_meets, span_meets-high}
use Rattle.prefix_keys.proofs.span.Span.meets.Goals as goal

pub returns-then-self-high : goal.returns-then-self-high
returns-then-self-high c =
    let span = c.args.self.now in
    let block = c.args.block.now in
    let same : span.low.version ≡ block.version = search rules in (
      λ t. span_meets span block same (omega (arith, c.high.ensures.last)) (search rules),
      λ m. let h = span_meets-high span block m in search rules,
    )
