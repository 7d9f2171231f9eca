use Rattle.std.proofs.Common.{◌≡◌, ◌≢◌, ℕ, List, [], ◌∷◌, length, refl, sym}
use Rattle.std.proofs.lemmas.Bool.{eqb-false}
use Rattle.pmap_text.specs.Reading.{after_word, first_word, Earlier, content_line, statement_line, Form}
use Rattle.pmap_text.proofs.reading.Reading.read_words.Goals as goal

-- the content of a line with a word is that of its statement
content_line-words : (form : Form) (earlier : Earlier) (content : List ℕ) → length content ≢ 0 → content_line form earlier content ≡ statement_line form earlier (first_word content) (after_word content)
content_line-words form earlier [] ne = absurd (ne refl)
content_line-words form earlier (b ∷ bs) ne = refl

pub returns : goal.returns
returns c =
    let words = content_line-words c.args.form c.args.self.now c.args.content.now (eqb-false _ 0 (sym c.if-is_empty.ensures)) in
    rw (words, ← c.split_word.ensures.word, ← c.split_word.ensures.rest) c.read_statement.ensures
