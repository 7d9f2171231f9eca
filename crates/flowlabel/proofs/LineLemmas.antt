-- What clap's theorems say about the example command lines, by computation.
use Rattle.std.proofs.Common.{◌≡◌, ◌∙◌, ◌==◌, ℕ, true, false, [], ◌∷◌, Option, Some, None, Ok, Err, refl, sym, ap, codes}
use Rattle.std.proofs.lemmas.Bool.{not-true}
use Rattle.std.specs.Prelude.{ok_or, unwrap_or}
use Rattle.clap.specs.Lexer.{short_of}
use Rattle.clap.specs.Words.{Text}
use Rattle.clap.proofs.OnLiterals.{clap_on_literals}
use Rattle.prefix_keys.specs.Text.{address_of}
use Rattle.flowlabel.specs.Definition.{flowlabel_app}
use Rattle.pmap_model.specs.Steps.{◌>>=◌}
use Rattle.flow_files.specs.Sources.{FromMap}
use Rattle.flowlabel.specs.Request.{label, rows}
use Rattle.flowlabel.specs.Answer.{Answer, Answers, HaveOneAnswer, LinesHaveAnswers, is_plain_word}
use Rattle.flow_files.specs.Answer.{condition_in_rows}
use Rattle.flow_files.specs.declared.usage.UsageFault.TheVariants.{Refused, NotUtf8, Help, BadAddress, CompactAlone, NoMemory}

pub one_answer : HaveOneAnswer
one_answer words answer (Ok command) own is = ap (λ (o : Option Answer). unwrap_or o answer) (sym own.1 ∙ is.1)
one_answer words answer (Err NoMemory) own is = (tt, λ ne. absurd (ne refl))
one_answer words answer (Err NotUtf8) own is = absurd is
one_answer words answer (Err (Refused text)) own is = let bad : false ≡ true = rw own.0 at is in cc
one_answer words answer (Err (Help text)) own is = let bad : false ≡ true = rw own.0 at is in cc
one_answer words answer (Err fault) own is = (tt, λ _. ap (λ (o : Option Answer). unwrap_or o answer) (sym own.1 ∙ is.1))

not_short : (x : ℕ) (xs : Text) → (x == 45) ≡ false → short_of (x ∷ xs) ≡ None
not_short x xs h = rw h refl

abbrev labelled : Text → Text → Answer
labelled map address = ok_or (address_of address) BadAddress >>= (λ found. Ok (label (FromMap map) found))

module _ (program : Text) where
  label_line : (map address : Text) → is_plain_word map ≡ true → is_plain_word address ≡ true
      → Answers (program ∷ codes "label" ∷ codes "--pmap" ∷ map ∷ address ∷ [])
      (labelled map address)
  unfolding flowlabel_app clap_on_literals
  label_line [] [] h k = (refl {a = []}, refl {a = Some (labelled [] [])})
  label_line (x ∷ xs) [] h k =
      let e = not-true (x == 45) h in
      rw (e, not_short x xs e) (refl {a = []}, refl {a = Some (labelled (x ∷ xs) [])})
  label_line [] (y ∷ ys) h k =
      let f = not-true (y == 45) k in
      rw (f, not_short y ys f) (refl {a = []}, refl {a = Some (labelled [] (y ∷ ys))})
  label_line (x ∷ xs) (y ∷ ys) h k =
      let e = not-true (x == 45) h in
      let f = not-true (y == 45) k in
      rw (e, not_short x xs e, f, not_short y ys f) (refl {a = []}, refl {a = Some (labelled (x ∷ xs) (y ∷ ys))})

  rows_line : (file : Text) → is_plain_word file ≡ true
      → Answers (program ∷ codes "rows" ∷ codes "--columns" ∷ file ∷ [])
      (condition_in_rows [] >>= (λ condition. Ok (rows None condition true file)))
  unfolding flowlabel_app clap_on_literals
  rows_line [] h = (refl {a = []}, refl {a = Some (condition_in_rows [] >>= (λ condition. Ok (rows None condition true [])))})
  rows_line (x ∷ xs) h =
      let e = not-true (x == 45) h in
      rw (e, not_short x xs e) (refl {a = []}, refl {a = Some (condition_in_rows [] >>= (λ condition. Ok (rows None condition true (x ∷ xs))))})

  shrink_line : (file : Text) → is_plain_word file ≡ true
      → Answers (program ∷ codes "shrink" ∷ codes "--pmap" ∷ file ∷ codes "--compact" ∷ []) (Err CompactAlone)
  unfolding flowlabel_app clap_on_literals
  shrink_line [] h = (refl {a = []}, refl {a = Some (Err CompactAlone)})
  shrink_line (x ∷ xs) h =
      let e = not-true (x == 45) h in
      rw (e, not_short x xs e) (refl {a = []}, refl {a = Some (Err CompactAlone)})

  pub lines_have_answers : LinesHaveAnswers program
  lines_have_answers = record { label_line = label_line; rows_line = rows_line; shrink_line = shrink_line }
