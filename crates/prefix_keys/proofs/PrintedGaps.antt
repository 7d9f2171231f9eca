use Rattle.std.proofs.Common.{ℕ, ◌≡◌, ◌<◌, ◌==◌, ◌&&◌, ◌∙◌, Bool, false, cond, List, [], ◌∷◌, ◌++◌, Option, Some, None, All, length, ap, sym, refl, arith}
use Rattle.std.proofs.lemmas.List.{append_assoc, append-nil}
use Rattle.std.proofs.lemmas.List.Elements.{All-head, All-tail}
use Rattle.std.specs.Fmt.{digits}
use Rattle.prefix_keys.specs.Inner.{following}
use Rattle.prefix_keys.specs.Text.{around_gap}
use Rattle.prefix_keys.proofs.Printed.{Lacks, Lacks-digits, no_colon}
use Rattle.prefix_keys.proofs.Digits.{digits_some}
use Rattle.prefix_keys.proofs.Gaps.{onto_front as onto}
use Rattle.prefix_keys.specs.Print.{address_groups_text}

-- The first `::` of a printed text.

pub following-nil : (sides : Option (List ℕ × List ℕ)) → sides ≡ following [] sides
following-nil None = refl
following-nil (Some sides) = refl

pub onto-following : (b : ℕ) (front : List ℕ) (sides : Option (List ℕ × List ℕ)) → onto b (following front sides) ≡ following (b ∷ front) sides
onto-following b front None = refl
onto-following b front (Some sides) = refl

pub following-following : (front next : List ℕ) (sides : Option (List ℕ × List ℕ)) → following front (following next sides) ≡ following (front ++ next) sides
following-following front next None = refl
following-following front next (Some sides) = ap (λ text. Some (text, sides.1)) (sym (append_assoc front next sides.0))

-- no `::` begins with the byte
abbrev pub begins_gap : List ℕ → Bool
begins_gap (a ∷ b ∷ text) = a == 58 && b == 58
begins_gap _ = false

pub skip : (b : ℕ) (text : List ℕ) → begins_gap (b ∷ text) ≡ false → around_gap (b ∷ text) ≡ onto b (around_gap text)
skip b [] h = refl
skip b (d ∷ text) h = ap (λ t. cond t (Some ([], text)) (onto b (around_gap (d ∷ text)))) h

other-begins : (b : ℕ) (text : List ℕ) → (b == 58) ≡ false → begins_gap (b ∷ text) ≡ false
other-begins b [] h = refl
other-begins b (d ∷ text) h = ap (λ t. t && (d == 58)) h

pub colon-begins : (text rest : List ℕ) → 0 < length text → Lacks 58 text → begins_gap (58 ∷ (text ++ rest)) ≡ false
colon-begins [] rest some lacks = absurd (omega arith)
colon-begins (b ∷ text) rest some lacks = All-head (λ b. (b == 58) ≡ false) b text lacks

-- a text without a colon has no `::`
pub around-piece : (piece rest : List ℕ) → Lacks 58 piece → around_gap (piece ++ rest) ≡ following piece (around_gap rest)
around-piece [] rest lacks = following-nil (around_gap rest)
around-piece (b ∷ piece) rest lacks =
    skip b (piece ++ rest) (other-begins b (piece ++ rest) (All-head (λ b. (b == 58) ≡ false) b piece lacks))
    ∙ ap (onto b) (around-piece piece rest (All-tail (λ b. (b == 58) ≡ false) b piece lacks))
    ∙ onto-following b piece (around_gap rest)

abbrev pub hex : ℕ → List ℕ
hex group = digits 16 false group

abbrev pub IsGroup : ℕ → Type 0
IsGroup group = group < 65536

-- a group has no colon
hex_lacks : (group : ℕ) → group < 65536 → Lacks 58 (hex group)
hex_lacks group small = Lacks-digits 58 no_colon 16 group (omega arith) (omega arith) (omega arith)

-- no `::` begins with the colon before a group
groups-begin : (group : ℕ) (groups rest : List ℕ) → group < 65536 → begins_gap (58 ∷ (address_groups_text (group ∷ groups) ++ rest)) ≡ false
groups-begin group [] rest small = colon-begins (hex group) rest (digits_some 16 (omega arith) group (omega arith)) (hex_lacks group small)
groups-begin group (next ∷ groups) rest small =
    ap (λ text. begins_gap (58 ∷ text)) (append_assoc (hex group) (58 ∷ address_groups_text (next ∷ groups)) rest)
    ∙ colon-begins (hex group) ((58 ∷ address_groups_text (next ∷ groups)) ++ rest) (digits_some 16 (omega arith) group (omega arith))
    (hex_lacks group small)

-- groups have no `::`
around-groups : (group : ℕ) (groups rest : List ℕ) → All IsGroup (group ∷ groups)
    → around_gap (address_groups_text (group ∷ groups) ++ rest) ≡ following (address_groups_text (group ∷ groups)) (around_gap rest)
around-groups group [] rest all = around-piece (hex group) rest (hex_lacks group (All-head IsGroup group [] all))
around-groups group (next ∷ groups) rest all =
    let text : List ℕ = address_groups_text (next ∷ groups) in
    let others : All IsGroup (next ∷ groups) = All-tail IsGroup group (next ∷ groups) all in
    ap around_gap (append_assoc (hex group) (58 ∷ text) rest)
    ∙ around-piece (hex group) (58 ∷ (text ++ rest)) (hex_lacks group (All-head IsGroup group (next ∷ groups) all))
    ∙ ap (following (hex group))
    (skip 58 (text ++ rest) (groups-begin next groups rest (All-head IsGroup next groups others))
    ∙ ap (onto 58) (around-groups next groups rest others) ∙ onto-following 58 text (around_gap rest))
    ∙ following-following (hex group) (58 ∷ text) (around_gap rest)

-- the first `::` of a text of groups, `::` and groups
pub around-gap : (front back : List ℕ) → All IsGroup front → around_gap (address_groups_text front ++ 58 ∷ 58 ∷ back) ≡ Some (address_groups_text front, back)
around-gap [] back all = refl
around-gap (group ∷ front) back all =
    around-groups group front (58 ∷ 58 ∷ back) all ∙ ap (λ text. Some (text, back)) (append-nil (address_groups_text (group ∷ front)))

-- groups alone have no `::`
pub around-none : (group : ℕ) (groups : List ℕ) → All IsGroup (group ∷ groups) → around_gap (address_groups_text (group ∷ groups)) ≡ None
around-none group groups all =
    ap around_gap (sym (append-nil (address_groups_text (group ∷ groups)))) ∙ around-groups group groups [] all
