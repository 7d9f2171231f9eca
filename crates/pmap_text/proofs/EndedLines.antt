-- The lines of a text are those of its pieces, all of which end with a line feed but for the last.
use Rattle.std.proofs.Common.{◌≡◌, ◌≢◌, ℕ, ◌==◌, Bool, true, false, cond, List, [], ◌∷◌, ◌++◌, Result, Ok, Err, flat_map, refl, sym, ap, subst, ◌∙◌}
use Rattle.std.proofs.lemmas.List.{append-nil, append_assoc}
use Rattle.std.proofs.lemmas.List.Elements.{All-head, All-tail}
use Rattle.std.specs.List.{IsDistinct, onto_first}
use Rattle.std.specs.Global.{Vec}
use Rattle.pmap_model.specs.ListModel.{Prefix}
use Rattle.pmap_text.specs.Inner.{AreEnded, EndsLine, HasDistinctKeys, HasRead, text_in}
use Rattle.pmap_text.specs.Reading.{Earlier, MapFault, NoMemory, lines_of, lines_read}
use Rattle.pmap_text.specs.declared.reading.form.Form.TheVariants.{Map as map_form}

-- a text that ends with a line feed has a line, and what follows the text is read apart from it
abbrev AreApart : List (List ℕ) → List (List ℕ) → List (List ℕ) → Type 0
AreApart own all rest = (first : List ℕ) × (others : List (List ℕ)) × (own ≡ first ∷ others) × (all ≡ first ∷ (others ++ rest))

apart : (front rest : List ℕ) → AreApart (lines_of (front ++ 10 ∷ [])) (lines_of (front ++ 10 ∷ rest)) (lines_of rest)
apart [] rest = ([], [], refl, refl)
apart (b ∷ bs) rest = by (apart bs rest) (b == 10)
  where
    by : AreApart (lines_of (bs ++ 10 ∷ [])) (lines_of (bs ++ 10 ∷ rest)) (lines_of rest) → (feed : Bool) → AreApart (cond feed ([] ∷ lines_of (bs ++ 10 ∷ [])) (onto_first b (lines_of (bs ++ 10 ∷ []))))
        (cond feed ([] ∷ lines_of (bs ++ 10 ∷ rest)) (onto_first b (lines_of (bs ++ 10 ∷ rest)))) (lines_of rest)
    by inner true = ([], inner.0 ∷ inner.1, ap (λ (ls : List (List ℕ)). [] ∷ ls) inner.2, ap (λ (ls : List (List ℕ)). [] ∷ ls) inner.3)
    by inner false = (b ∷ inner.0, inner.1, ap (onto_first b) inner.2, ap (onto_first b) inner.3)

pub lines_of-append : (text rest : List ℕ) → EndsLine text → lines_of (text ++ rest) ≡ lines_of text ++ lines_of rest
lines_of-append text rest (front, is) =
    let cut = apart front rest in
    ap (λ (t : List ℕ). lines_of (t ++ rest)) is ∙ ap lines_of (append_assoc front (10 ∷ []) rest) ∙ cut.3
    ∙ sym (ap (λ (t : List ℕ). lines_of t ++ lines_of rest) is ∙ ap (λ (ls : List (List ℕ)). ls ++ lines_of rest) cut.2)

-- A map's text is read piece by piece, and this is left of it. No line adds an entry, so no block is repeated.
pub record IsLeft (whole : Result Earlier MapFault) (pieces : List (Vec ℕ)) (last : List ℕ) (number : ℕ) (reading : Earlier) : Type 0 where
  pub read : whole ≡ lines_read map_form number (Ok reading) (lines_of (text_in pieces last))
  pub ended : AreEnded pieces
  pub none : reading.prefixes ≡ []

-- the text is read on after some lines, or it has the fault that was found in them
abbrev pub GoesOn : Result Earlier MapFault → Earlier → List (List ℕ) → Result ℕ MapFault → Type 0
GoesOn whole new more (Ok next) = whole ≡ lines_read map_form next (Ok new) more
GoesOn whole new more (Err fault) = fault.kind ≢ NoMemory → whole ≡ Err fault

none_repeated : (ps : List Prefix) → ps ≡ [] → HasDistinctKeys ps
unfolding IsDistinct
none_repeated ps none = subst HasDistinctKeys (sym none) tt

module _ {whole : Result Earlier MapFault} {pieces : List (Vec ℕ)} {last : List ℕ} {number : ℕ} {old new : Earlier} (left : IsLeft whole pieces last number old) where
  goes_on : (text : List ℕ) (more : List (List ℕ)) (result : Result ℕ MapFault) → lines_of (text_in pieces last) ≡ lines_of text ++ more
      → HasRead map_form old number text 18446744073709551615 new result → GoesOn whole new more result
  goes_on text more (Ok next) cut reads =
      left.read ∙ ap (lines_read map_form number (Ok old)) cut ∙ reads.ok refl (none_repeated new.prefixes (reads.map refl left.none)) more
  goes_on text more (Err fault) cut reads = λ other.
      left.read ∙ ap (lines_read map_form number (Ok old)) cut ∙ reads.err (none_repeated new.prefixes (reads.map refl left.none)) other more

  -- after the first of the pieces that are left
  pub after-piece : {p : Vec ℕ} {ps : List (Vec ℕ)} {text : List ℕ} (result : Result ℕ MapFault) → pieces ≡ p ∷ ps → text ≡ p.items
      → HasRead map_form old number text 18446744073709551615 new result → GoesOn whole new (lines_of (text_in ps last)) result
  after-piece {p} {ps} {text} result next same =
      goes_on text (lines_of (text_in ps last)) result
      (ap (λ (qs : List (Vec ℕ)). lines_of (text_in qs last)) next ∙ ap lines_of (append_assoc p.items (flat_map (λ (q : Vec ℕ). q.items) ps) last)
      ∙ lines_of-append p.items (text_in ps last) (All-head (λ (q : Vec ℕ). EndsLine q.items) p ps (subst AreEnded next left.ended))
      ∙ ap (λ (t : List ℕ). lines_of t ++ lines_of (text_in ps last)) (sym same))

  pub left-after : {p : Vec ℕ} {ps : List (Vec ℕ)} {text : List ℕ} {end : ℕ} → pieces ≡ p ∷ ps → text ≡ p.items
      → HasRead map_form old number text 18446744073709551615 new (Ok end) → IsLeft whole ps last end new
  left-after {p} {ps} next same reads = record {
    read = after-piece (Ok _) next same reads;
    ended = All-tail (λ (q : Vec ℕ). EndsLine q.items) p ps (subst AreEnded next left.ended);
    none = reads.map refl left.none;
  }

  -- after the last piece, which needn't end with a line feed
  pub after-last : (result : Result ℕ MapFault) → pieces ≡ [] → HasRead map_form old number last 18446744073709551615 new result → GoesOn whole new [] result
  after-last result none =
      goes_on last [] result (ap (λ (qs : List (Vec ℕ)). lines_of (text_in qs last)) none ∙ sym (append-nil (lines_of last)))
