-- The words of a chain's line, and the room below its bits.
use Rattle.std.proofs.Common.{◌≡◌, ℕ, zero, suc, ◌+◌, ◌||◌, Bool, true, false, List, [], ◌∷◌, ◌==◌, ap, ap₂, arith, cond, length, map, refl, subst, sym}
use Rattle.std.specs.List.{list_all}
use Rattle.std.proofs.lemmas.Bool.{and_parts, eqb-true, false≢true}
use Rattle.std.proofs.lemmas.List.Elements.{All-cons}
use Rattle.prefix_keys.proofs.Printed.{Lacks}
use Rattle.pmap_cert.specs.CertificateText.{HasRoomBelow, bit_digits}
use Rattle.pmap_cert.specs.Inner.{is_bit}

-- a byte that is neither 0 nor 1 is not among the digits of a chain's bits
pub Lacks-bits : (c : ℕ) (bits : List Bool) → (48 == c) ≡ false → (49 == c) ≡ false → Lacks c (bit_digits bits)
Lacks-bits c [] zero_apart one_apart = λ k d h. absurd (omega arith)
Lacks-bits c (true ∷ bits) zero_apart one_apart =
    All-cons (λ b. (b == c) ≡ false) 49 (bit_digits bits) one_apart (Lacks-bits c bits zero_apart one_apart)
Lacks-bits c (false ∷ bits) zero_apart one_apart =
    All-cons (λ b. (b == c) ≡ false) 48 (bit_digits bits) zero_apart (Lacks-bits c bits zero_apart one_apart)

digit-back : (d : ℕ) (b c : Bool) → (d == 48) ≡ b → (d == 49) ≡ c → (b || c) ≡ true → cond c 49 48 ≡ d
digit-back d b true is_0 is_1 known = sym (eqb-true d 49 is_1)
digit-back d true false is_0 is_1 known = sym (eqb-true d 48 is_0)
digit-back d false false is_0 is_1 known = absurd (false≢true known)

pub digits-back : (word : List ℕ) → list_all is_bit word ≡ true → bit_digits (map (λ d. d == 49) word) ≡ word
digits-back [] h = refl
digits-back (d ∷ ds) h =
    let parts = and_parts (is_bit d) (list_all is_bit ds) h in
    ap₂ ◌∷◌ (digit-back d (d == 48) (d == 49) refl refl parts.0) (digits-back ds parts.1)

pub bits-back : (bits : List Bool) → map (λ d. d == 49) (bit_digits bits) ≡ bits
bits-back [] = refl
bits-back (true ∷ bits) = ap (◌∷◌ true) (bits-back bits)
bits-back (false ∷ bits) = ap (◌∷◌ false) (bits-back bits)

pub bits-digits : (bits : List Bool) → list_all is_bit (bit_digits bits) ≡ true
bits-digits [] = refl
bits-digits (true ∷ bits) = bits-digits bits
bits-digits (false ∷ bits) = bits-digits bits

-- a weaker condition fits below a chain's bits too
pub other-room : (Fits Other : ℕ → Type 0) → ((room : ℕ) → Fits room → Other room) → (bits : List Bool) (room : ℕ) →
    HasRoomBelow Fits bits room → HasRoomBelow Other bits room
other-room Fits Other other [] room h = other room h
other-room Fits Other other (bit ∷ bits) zero h = absurd h
other-room Fits Other other (bit ∷ bits) (suc room) h = other-room Fits Other other bits room h

-- what fits into the room that is left fits below a chain's bits
pub room-left : (Fits : ℕ → Type 0) (bits : List Bool) (room left : ℕ) → room ≡ length bits + left → Fits left → HasRoomBelow Fits bits room
room-left Fits [] room left e h = subst Fits (omega (arith, e)) h
room-left Fits (bit ∷ bits) zero left e h = absurd (omega (arith, e))
room-left Fits (bit ∷ bits) (suc room) left e h = room-left Fits bits room left (omega (arith, e)) h

-- what fits below a chain's bits fits into the room that is left
pub left-room : (Fits : ℕ → Type 0) (bits : List Bool) (room : ℕ) → HasRoomBelow Fits bits room →
    (left : ℕ) × (room ≡ length bits + left) × Fits left
left-room Fits [] room h = (room, omega arith, h)
left-room Fits (bit ∷ bits) zero h = absurd h
left-room Fits (bit ∷ bits) (suc room) h =
    let rest = left-room Fits bits room h in (rest.0, omega (arith, rest.1), rest.2)
