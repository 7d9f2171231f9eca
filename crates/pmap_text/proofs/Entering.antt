-- Facts about a text's lines so far, after one more line.
use Rattle.std.proofs.Common.{◌≡◌, ◌≢◌, ℕ, ◌+◌, ◌≤◌, ◌==◌, Bool, true, if◌then◌else◌, inl, inr, List, [], ◌∷◌, ◌++◌, Some, Result, Ok, Err, IfOk, length, take, arith, refl, sym, ap, ◌∙◌, subst}
use Rattle.std.proofs.Math.Seq.{take-append_seam}
use Rattle.std.proofs.lemmas.Bool.{eqb-true}
use Rattle.std.proofs.lemmas.List.{append-nil, length-append}
use Rattle.std.proofs.lemmas.Option.{slice_get_within}
use Rattle.pmap_text.specs.Inner.{HasDistinctKeys, IsFirstRepeat, ReadsTo, TakesLine, refusal_of, text_read}
use Rattle.pmap_text.specs.Reading.{content_line, content_of, lines_of, lines_read, no_lines, Earlier, MapFault, MapFaultKind, DuplicateBlock, NoMemory, Form, has_prefix}
use Rattle.pmap_text.specs.declared.reading.form.Form.TheVariants.{Map as map_form}
use Rattle.pmap_model.specs.ListModel.{Prefix}
use Rattle.pmap_text.proofs.Filed.{once-front, once-last}
use Rattle.pmap_text.proofs.MapLines.{line-keeps}
use Rattle.pmap_model.proofs.LabelTexts.{slice_get-push}

-- the rest of a text's lines is read after those so far as the text is after the state before it
abbrev pub ReadSoFar : Form → Earlier → ℕ → List ℕ → Earlier → ℕ → List (List ℕ) → Type 0
ReadSoFar form first before text reading number rest =
    ReadsTo form first before text (λ more. lines_read form number (Ok reading) (rest ++ more))

-- the last of these lines has the first fault of the text if its entry is the first with the block of an earlier one
abbrev pub RepeatsLast : Form → Earlier → ℕ → List ℕ → List Prefix → ℕ → ℕ → Type 0
RepeatsLast form first before text ps limit number =
    IsFirstRepeat ps (Some limit) → ReadsTo form first before text (λ _. Err (record { kind = DuplicateBlock; line = number }))

-- facts after some lines
pub record HasReadTo (form : Form) (first : Earlier) (before : ℕ) (text : List ℕ) (limit : ℕ) (reading : Earlier) (number : ℕ)
    (rest : List (List ℕ)) : Type 0 where
  pub read : HasDistinctKeys reading.prefixes → ReadSoFar form first before text reading number rest
  pub repeat : RepeatsLast form first before text reading.prefixes limit number
  pub map : form ≡ map_form → first.prefixes ≡ [] → reading.prefixes ≡ []

pub none_read : (form : Form) (first : Earlier) (before : ℕ) (text : List ℕ) (limit : ℕ) → length first.prefixes ≤ limit
    → HasReadTo form first before text limit first before (lines_of text)
none_read form first before text limit few = record {
  read = λ once more. refl;
  repeat = λ repeat. absurd (omega (arith, few, slice_get_within first.prefixes limit repeat.0 repeat.1));
  map = λ is none. none;
}

-- a line that isn't read although no allocation failed has that fault
refusal-fault : (r : Result Earlier MapFaultKind) (kind : MapFaultKind) → kind ≡ refusal_of r → kind ≢ NoMemory → r ≡ Err kind
refusal-fault (Ok next) kind e other = absurd (other e)
refusal-fault (Err fault) kind e other = λ i. Err (sym e i)

module _ (form : Form) (first : Earlier) (before : ℕ) (text : List ℕ) (limit : ℕ) (old new : Earlier) (number : ℕ) (line : List ℕ)
    (rest after : List (List ℕ)) (cut : rest ≡ line ∷ after) (so_far : HasReadTo form first before text limit old number rest) where
  -- the text is read as the rest of its lines is after the line's state or fault
  read-next : (r : Result Earlier MapFaultKind) → content_line form old (content_of line) ≡ r → HasDistinctKeys old.prefixes
      → ReadsTo form first before text (λ more. lines_read form (number + 1) r (after ++ more))
  read-next r is once more =
      so_far.read once more ∙ ap (λ (ls : List (List ℕ)). lines_read form number (Ok old) (ls ++ more)) cut
      ∙ ap (λ (r : Result Earlier MapFaultKind). lines_read form (number + 1) r (after ++ more)) is

  -- a line with a fault ends the reading
  pub read-fault : (kind : MapFaultKind) → kind ≡ refusal_of (content_line form old (content_of line)) → new.prefixes ≡ old.prefixes
      → HasDistinctKeys new.prefixes → kind ≢ NoMemory → ReadsTo form first before text (λ _. Err (record { kind = kind; line = number + 1 }))
  read-fault kind refused kept once other =
      read-next (Err kind) (refusal-fault (content_line form old (content_of line)) kind refused other) (subst HasDistinctKeys kept once)

  -- the line has an entry, which has the block of an earlier one
  repeat_here : (p : Prefix) → length old.prefixes ≤ limit
      → content_line form old (content_of line) ≡ (if has_prefix old.prefixes p.start p.bits then Err DuplicateBlock else Ok new)
      → RepeatsLast form first before text (old.prefixes ++ p ∷ []) limit (number + 1)
  repeat_here p few is repeat =
      let within = slice_get_within (old.prefixes ++ p ∷ []) limit repeat.0 repeat.1 in
      let end : limit ≡ length old.prefixes = omega (arith, within, few, length-append old.prefixes (p ∷ [])) in
      let same : take limit (old.prefixes ++ p ∷ []) ≡ old.prefixes =
      ap (λ (n : ℕ). take n (old.prefixes ++ p ∷ [])) end ∙ take-append_seam old.prefixes (p ∷ []) in
      let here : p ≡ repeat.0 =
      elim (slice_get-push old.prefixes p limit repeat.0 repeat.1) [
        | inl inside ↦ absurd (omega (arith, slice_get_within old.prefixes limit repeat.0 inside, end))
        | inr found ↦ found.1
      ] in
      let known : has_prefix old.prefixes p.start p.bits ≡ true =
      subst (λ (q : Prefix). has_prefix old.prefixes q.start q.bits ≡ true) (sym here)
      (subst (λ (qs : List Prefix). has_prefix qs (repeat.0).start (repeat.0).bits ≡ true) same repeat.3) in
      read-next (Err DuplicateBlock) (is ∙ ap (λ (b : Bool). if b then Err DuplicateBlock else Ok new) known)
      (subst HasDistinctKeys same repeat.2)

  -- a line of a map adds no entry
  none_added : TakesLine old new (content_line form old (content_of line)) → form ≡ map_form → old.prefixes ≡ [] → new.prefixes ≡ []
  none_added taken is none = elim taken [
    | inl kept ↦ kept.1 ∙ none
    | inr entry ↦
        let read : content_line map_form old (content_of line) ≡ Ok new =
        ap (λ (f : Form). content_line f old (content_of line)) (sym is) ∙ entry.2
        ∙ ap (λ (ps : List Prefix). if has_prefix ps (entry.0).start (entry.0).bits then Err DuplicateBlock else Ok new) none in
        subst (λ (r : Result Earlier MapFaultKind). IfOk r (λ n. n.prefixes ≡ old.prefixes)) read (line-keeps old (content_of line)) ∙ none
  ]

  -- one more line, which may have an entry with the block of an earlier one
  pub read-line : length old.prefixes ≤ limit → TakesLine old new (content_line form old (content_of line))
      → HasReadTo form first before text limit new (number + 1) after
  read-line few taken = record { read = added.0; repeat = added.1; map = λ is none. none_added taken is (so_far.map is none) }
    where
      added : (HasDistinctKeys new.prefixes → ReadSoFar form first before text new (number + 1) after)
          × RepeatsLast form first before text new.prefixes limit (number + 1)
      added = elim taken [
        | inl kept ↦ (
          λ once. read-next (Ok new) kept.0 (subst HasDistinctKeys kept.1 once),
          λ repeat. absurd (omega (arith, slice_get_within new.prefixes limit repeat.0 repeat.1, few, ap length kept.1)),
        )
        | inr entry ↦ (
          λ once.
              let push_once = subst HasDistinctKeys entry.1 once in
              let fresh = once-last old.prefixes entry.0 push_once in
              read-next (Ok new) (entry.2 ∙ ap (λ (b : Bool). if b then Err DuplicateBlock else Ok new) fresh)
              (once-front old.prefixes entry.0 push_once),
          subst (λ (ps : List Prefix). RepeatsLast form first before text ps limit (number + 1)) (sym entry.1) (repeat_here entry.0 few entry.2),
        )
      ]

-- at the end of the text all of it has been read
pub read-all : (form : Form) (first : Earlier) (before : ℕ) (text : List ℕ) (reading : Earlier) (number : ℕ) (rest : List ℕ) → (length rest == 0) ≡ true
    → ReadSoFar form first before text reading number (lines_of rest) → ReadsTo form first before text (λ more. lines_read form number (Ok reading) more)
read-all form first before text reading number [] e so_far = so_far
read-all form first before text reading number (b ∷ bs) e so_far = absurd (omega (arith, eqb-true (length (b ∷ bs)) 0 e))

-- a text that no other lines precede or follow
pub alone : (form : Form) (text : List ℕ) (result : List (List ℕ) → Result Earlier MapFault) → ReadsTo form no_lines 0 text result
    → text_read form text ≡ result []
alone form text result reads = sym (ap (lines_read form 0 (Ok no_lines)) (append-nil (lines_of text))) ∙ reads []
