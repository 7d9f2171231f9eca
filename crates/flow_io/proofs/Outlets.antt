-- A writer is given bytes, and takes the first ones.
use Rattle.std.proofs.Common.{◌≡◌, ◌∙◌, ℕ, ◌-◌, List, [], ◌++◌, length, take, drop, sym, ap, append_assoc, take-append-drop}
use Rattle.std.proofs.lemmas.List.{take_rest}
use Rattle.flow_io.specs.Devices.{OutputView, Takes, Write}
use Rattle.flow_io.specs.Sinks.{HasTaken}
use Rattle.flow_io.proofs.Moving.{takes_more}

-- the first n bytes of the rest are taken, and none were lost before
pub moves_over : (all taken lost rest : List ℕ) (n : ℕ) → taken ++ (lost ++ rest) ≡ all → lost ≡ []
    → (taken ++ take n rest) ++ (lost ++ take (length rest - n) (drop n rest)) ≡ all
moves_over all taken lost rest n whole none =
    ap (λ l. (taken ++ take n rest) ++ (l ++ take (length rest - n) (drop n rest))) none
    ∙ ap (λ l. (taken ++ take n rest) ++ l) (take_rest rest n)
    ∙ append_assoc taken (take n rest) (drop n rest)
    ∙ ap (λ l. taken ++ l) (take-append-drop n rest)
    ∙ ap (λ l. taken ++ (l ++ rest)) (sym none) ∙ whole

pub has_taken_more : {first a b : OutputView} {bytes more : List ℕ} → HasTaken first a bytes → Takes a b more → b.last_call ≡ Write
    → b.flushes ≡ a.flushes → HasTaken first b (bytes ++ more)
has_taken_more (takes, flushes, last) more write unflushed = (takes_more takes more, unflushed ∙ flushes, λ _. write)
