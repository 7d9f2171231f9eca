-- Texts that are printed into sinks.
use Rattle.std.proofs.Common.{◌≡◌, ◌∙◌, ◌++◌, List, ℕ, Err, Ok, OnOk, Result, sym}
use Rattle.std.proofs.lemmas.List.{append_cancel_left}
use Rattle.flow_io.specs.Devices.{OutputView}
use Rattle.flow_io.specs.Sinks.{Adds, Pushes, PrintsText, SinkView}
use Rattle.pmap_cert.specs.Sinks.{adds-then}

module _ {S A E : Type 0} (sink : S → SinkView) (began : OutputView → S → Type 0) (old mid new : S) where
  pub on-printed : {P : Type 0} (text : List ℕ) (r : Result A E) → Pushes sink began old new text r → (Adds sink began old new text → P) → OnOk r P
  on-printed text (Ok _) adds then = then adds
  on-printed text (Err _) adds then = tt

  -- a text is printed after another one
  pub printed-then : (text more : List ℕ) (r : Result A E) → Adds sink began old mid text → Pushes sink began mid new more r → Pushes sink began old new (text ++ more) r
  printed-then text more (Ok _) first second = adds-then sink began old mid new text more first second
  printed-then text more (Err _) first second = tt

  -- both are the text of a value
  pub both-printed : (text more : List ℕ) (Is : List ℕ → Type 0) (r : Result A E) → Is (text ++ more) → Adds sink began old mid text → Pushes sink began mid new more r
      → PrintsText sink began old new Is r
  both-printed text more Is (Ok _) is first second = (text ++ more, is, adds-then sink began old mid new text more first second)
  both-printed text more Is (Err _) is first second = tt

  -- the text of each of some values is printed after another one, so they have the same text
  pub same-printed : {N : Type 0} (text : List ℕ) (text_of : N → List ℕ) (Has : N → Type 0) (Is : List ℕ → Type 0) (r : Result A E) (n : N) → Has n
      → ((more : List ℕ) → ((m : N) → Has m → more ≡ text_of m) → Is (text ++ more)) → Adds sink began old mid text → OnOk r ((m : N) → Has m → Adds sink began mid new (text_of m))
      → PrintsText sink began old new Is r
  same-printed text text_of Has Is (Ok _) n has is first second = (
    text ++ text_of n,
    is (text_of n) (λ m other. append_cancel_left (sink mid).printed (text_of n) (text_of m) (sym (second n has).0 ∙ (second m other).0)),
    adds-then sink began old mid new text (text_of n) first (second n has),
  )
  same-printed text text_of Has Is (Err _) n has is first second = tt
