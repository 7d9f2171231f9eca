-- A reader of a text whose first bytes were read before, and its inner one.
use Rattle.std.proofs.Common.{◌≡◌, ◌∙◌, ℕ, List, [], ◌++◌, ◌-◌, length, drop, take, Option, Some, None, Bool, true, false, refl, sym, ap, arith, append_assoc, append-nil, slice_range}
use Rattle.std.specs.Prelude.{◌&&◌, ◌==◌, ⊤}
use Rattle.std.specs.Io.KnownBytes.{Consumes, prepend_known}
use Rattle.std.proofs.lemmas.Bool.Decides.{nat_tests}
use Rattle.std.proofs.lemmas.List.{nil_from_length}
use Rattle.flow_io.specs.Devices.{Gives, InputView, MayFollow, ReadsInput, has_ended}
use Rattle.flow_io.specs.declared.devices.Input.{Ghosts}
use Rattle.nfcapd_read.specs.Rejoining.{front_left, input_rejoined}
use Rattle.nfcapd_read.specs.declared.rejoined.Rejoined.{Rejoined}

-- bytes that were read when none of the front was left
pub joined_more : (returned front returned' bytes old new : List ℕ) (start : ℕ) → start ≡ 2 → old ≡ returned ++ slice_range front start 2 → new ≡ old ++ bytes
    → returned' ≡ returned ++ bytes → new ≡ returned' ++ slice_range front start 2
joined_more returned front returned' bytes old new start is had more noted =
    let none : 2 - start ≡ 0 = omega (arith, is) in
    let nothing : (l : List ℕ) → l ++ slice_range front start 2 ≡ l = λ l. ap (λ n. l ++ take n (drop start front)) none ∙ append-nil l in
    more ∙ ap (λ (l : List ℕ). l ++ bytes) (had ∙ nothing returned) ∙ sym noted ∙ sym (nothing returned')

both : (a b : Bool) → (a && b) ≡ true → (a ≡ true) × (b ≡ true)
both true b e = (refl, e)
both false b e = cc

known : (a b c : Option (List ℕ)) (front taken ahead : List ℕ) → Consumes a b front
    → Consumes (prepend_known front b) (prepend_known ahead c) taken → Consumes a c (taken ++ ahead)
known None b c front taken ahead first second = tt
known (Some a) None c front taken ahead first second = absurd first
known (Some a) (Some b) None front taken ahead first second = absurd second
known (Some a) (Some b) (Some c) front taken ahead first second = first ∙ second ∙ sym (append_assoc taken ahead c)

module _ {R : Type 0} {G : Ghosts R} where
  -- what the inner reader has returned since nothing was read
  pub inner_reads : (o : InputView) (first last : Rejoined R G) → o.returned ≡ [] → first.returned.bytes ≡ []
      → Gives o (G.input first.inner) (front_left first) → ReadsInput (input_rejoined G first) (input_rejoined G last) (λ _. ⊤)
      → ReadsInput o (G.input last.inner) (λ _. ⊤)
  inner_reads o first last unread fresh front (taken, gives, _) =
      let ahead = front_left last in (
        taken ++ ahead,
        record {
          returned =
              last.joined ∙ ap (λ (l : List ℕ). l ++ ahead) (gives.returned ∙ ap (λ (l : List ℕ). l ++ taken) fresh)
              ∙ ap (λ (l : List ℕ). l ++ (taken ++ ahead)) (sym unread);
          left = known o.left (G.input first.inner).left (G.input last.inner).left (front_left first) taken ahead front.left gives.left;
        },
        tt,
      )

  module _ (reader : Rejoined R G) where
    -- what may follow the inner reader's bytes may follow, with the rest of the front, those of the reader
    pub may_follow : (rest : List ℕ) → MayFollow (has_ended (G.input reader.inner)) rest
        → MayFollow (has_ended (input_rejoined G reader)) (front_left reader ++ rest)
    may_follow rest follows ended =
        let (stopped, _) = both (input_rejoined G reader).stopped _ ended in
        let (over, none) = both reader.ended (length (front_left reader) == 0) stopped in
        let size : length (front_left reader) ≡ 0 = grind (arith, nat_tests) in
        ap (λ (l : List ℕ). l ++ rest) (nil_from_length (front_left reader) size) ∙ follows (reader.over over)

    pub text_same : (rest : List ℕ) → (G.input reader.inner).returned ++ rest ≡ reader.returned.bytes ++ (front_left reader ++ rest)
    text_same rest = ap (λ (l : List ℕ). l ++ rest) reader.joined ∙ append_assoc reader.returned.bytes (front_left reader) rest

    -- a reader that failed has returned all that the inner one has
    pub all_returned : (G.input reader.inner).failed ≡ true → reader.returned.bytes ≡ (G.input reader.inner).returned
    all_returned failed =
        let none : 2 - reader.start ≡ 0 = omega (arith, reader.kept failed) in
        sym (reader.joined ∙ ap (λ n. reader.returned.bytes ++ take n (drop reader.start reader.front)) none ∙ append-nil reader.returned.bytes)
