use Rattle.std.proofs.Common.{◌≡◌, eqb, arith, ap, sym, ◌∙◌}
use Rattle.std.proofs.lemmas.Grind.{common_steps}
use Rattle.std.specs.List.{before_first}
use Rattle.pmap_text.specs.Reading.{trim_start, trim_end}
use Rattle.pmap_text.proofs.Places.{end_at-feed}
use Rattle.pmap_text.proofs.reading.lines.split_content.Goals as goal

pub split_at_feed-requires-clause-feed : goal.split_at_feed-requires-clause-feed
split_at_feed-requires-clause-feed c =
    let fact = end_at-feed c.args.text.now (λ within. grind (arith, common_steps)) in
    c.content_end-end.ensures.place ∙ fact.0

pub returns-clause-line : goal.returns-clause-line
returns-clause-line c =
    let fact = end_at-feed c.args.text.now (λ within. grind (arith, common_steps)) in
    let cut = c.split_at_feed.ensures in
    let line = c.split_at_feed.result.0.now in
    let plain : before_first (λ b. eqb b 35) line ≡ line = rw (cut.before, c.content_end-end.ensures.place) fact.1 in
    (line, cut.line, c.without_outer_blanks-2.ensures ∙ ap (λ t. trim_end (trim_start t)) (sym plain))
