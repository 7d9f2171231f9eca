-- A field is printed.
use Rattle.std.proofs.Common.{ℕ, ◌≡◌, ◌-◌, ◌≤◌, ◌<◌, ◌^◌, ◌∙◌, List, [], ◌∷◌, ◌++◌, length, replicate, take, drop, ap, append_assoc, arith, sym}
use Rattle.std.specs.Fmt.{decimal}
use Rattle.std.proofs.lemmas.Fmt.{length-decimal-le}
use Rattle.std.proofs.lemmas.List.{take-take, take_at}
use Rattle.pmap_print.specs.Table.{ended}

pub short : (n : ℕ) → n < 2 ^ 64 → length (decimal n) ≤ 20
short n fits = length-decimal-le 20 n (omega arith) (omega (arith, fits)) (omega (arith, fits))

-- a field that was written backward
pub field_front : (buf field more : List ℕ) (start count n : ℕ) → drop start buf ≡ field ++ more → n ≡ length field → n ≤ count
    → take n (take count (drop start buf)) ≡ field
field_front buf field more start count n written size few =
    take-take n count (drop start buf) few ∙ ap (take n) written ∙ take_at field more n (sym size)

-- a field is printed after the spaces that fill its column
pub filled_printed : (old mid new text : List ℕ) (width size end : ℕ) → size ≡ length text → mid ≡ old ++ replicate (width - size) 32
    → new ≡ mid ++ (text ++ end ∷ []) → new ≡ old ++ ended width end text
filled_printed old mid new text width size end is spaces printed =
    let filling : List ℕ = replicate (width - length text) 32 in
    printed ∙ ap (λ (l : List ℕ). l ++ (text ++ end ∷ [])) (spaces ∙ ap (λ k. old ++ replicate (width - k) 32) is)
    ∙ append_assoc old filling (text ++ end ∷ [])
    ∙ ap (λ (l : List ℕ). old ++ l) (sym (append_assoc filling text (end ∷ [])))
