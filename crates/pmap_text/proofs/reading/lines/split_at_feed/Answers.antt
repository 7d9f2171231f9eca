use Rattle.std.proofs.Common.{◌≡◌, ◌≤◌, ◌≢◌, refl, length, List, ℕ, [], ◌∷◌, arith}
use Rattle.std.proofs.lemmas.Grind.{common_steps}
use Rattle.pmap_text.proofs.Places.{feed_at, lines_of-at_feed, lines_of-no_feed}
use Rattle.pmap_text.specs.Reading.{lines_of}
use Rattle.pmap_text.proofs.reading.lines.split_at_feed.Goals as goal

pub returns-then-end-text-clause-line : goal.returns-then-end-text-clause-line
returns-then-end-text-clause-line c =
    let e = lines_of-at_feed c.args.text.now (rw (← c.requires.feed) c.if-end-text.true) in
    grind (arith, common_steps)

no_feed : (text : List ℕ) → 0 ≢ length text → length text ≤ feed_at text → lines_of text ≡ text ∷ []
no_feed [] ne h = absurd (ne refl)
no_feed (b ∷ bs) ne h = lines_of-no_feed b bs h

pub returns-else-end-text-clause-line : goal.returns-else-end-text-clause-line
returns-else-end-text-clause-line c =
    no_feed c.args.text.now (omega arith) (rw (← c.requires.feed) c.if-end-text.false)
