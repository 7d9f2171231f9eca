use Rattle.std.proofs.Common.{ℕ, ◌≡◌, ◌≢◌, ◌<◌, ◌≤◌, ◌==◌, ◌∙◌, Bool, List, [], ◌∷◌, Option, Some, None, length, ap, sym, refl, arith, option_and_then, option_map}
use Rattle.std.specs.List.{slice_split, before_first, after_first, position_or_len}
use Rattle.std.proofs.lemmas.List.{length-take, take_all}
use Rattle.std.proofs.lemmas.List.Splits.{slice_split_first, length-slice_split}
use Rattle.std.proofs.lemmas.Bool.Decides.{nat_tests}
use Rattle.prefix_keys.specs.Text.{groups_of_pieces, hex_group, last_groups}
use Rattle.prefix_keys.specs.Inner.{more_groups, piece_groups}
use Rattle.prefix_keys.proofs.Pieces.{split-whole}

-- The groups of the pieces of a text between colons, one piece after another.

abbrev pub is_colon : ℕ → Bool
is_colon b = b == 58

-- a text with no colon is its own first piece
no_colon : (text : List ℕ) → length (before_first is_colon text) ≡ length text → length text ≤ position_or_len is_colon text
no_colon text h = omega (arith, length-take (position_or_len is_colon text) text)

some_colon : (text : List ℕ) → length (before_first is_colon text) ≢ length text → position_or_len is_colon text < length text
some_colon text h = omega (arith, length-take (position_or_len is_colon text) text)

pub piece_groups-last : (dotted : Bool) (text piece : List ℕ) → piece ≡ before_first is_colon text →
    length piece ≡ length text → piece_groups dotted text ≡ last_groups dotted piece
piece_groups-last dotted text piece front h =
    let none = no_colon text (ap (λ p. length p) (sym front) ∙ h) in
    ap (groups_of_pieces dotted) (split-whole is_colon text none)
    ∙ ap (last_groups dotted) (sym (front ∙ take_all (position_or_len is_colon text) text none))

-- a group put before groups, if all exist
abbrev pub onto_groups : Option ℕ → Option (List ℕ) → Option (List ℕ)
onto_groups group groups = option_and_then (λ g. option_map (λ gs. g ∷ gs) groups) group

pub groups_of-more : (dotted : Bool) (piece : List ℕ) (pieces : List (List ℕ)) → 0 < length pieces →
    groups_of_pieces dotted (piece ∷ pieces) ≡ onto_groups (hex_group piece) (groups_of_pieces dotted pieces)
groups_of-more dotted piece [] h = absurd (omega arith)
groups_of-more dotted piece (next ∷ pieces) h = refl

pub piece_groups-more : (dotted : Bool) (text piece following : List ℕ) → piece ≡ before_first is_colon text →
    following ≡ after_first is_colon text → length piece ≢ length text →
    piece_groups dotted text ≡ onto_groups (hex_group piece) (piece_groups dotted following)
piece_groups-more dotted text piece following front back h =
    rw (front, back)
    (ap (groups_of_pieces dotted) (slice_split_first is_colon text 0 (some_colon text (rw front at h)))
    ∙ groups_of-more dotted (before_first is_colon text) (slice_split is_colon (after_first is_colon text))
    (omega (arith, length-slice_split is_colon (after_first is_colon text))))

-- a group after groups, and more groups after it
pub more-next : (c n g c' n' : ℕ) (x : Option (List ℕ)) → Some (c', n') ≡ more_groups c n (Some (g ∷ [])) →
    more_groups c n (onto_groups (Some g) x) ≡ more_groups c' n' x
more-next c n g c' n' None h = refl
more-next c n g c' n' (Some groups) h = grind (arith, nat_tests)

pub more-full : (c n g : ℕ) (x : Option (List ℕ)) → None ≡ more_groups c n (Some (g ∷ [])) →
    more_groups c n (onto_groups (Some g) x) ≡ None
more-full c n g None h = refl
more-full c n g (Some groups) h = grind (arith, nat_tests)

-- the groups of a text after other groups, by its first piece
pub turn-none : (dotted : Bool) (text piece following : List ℕ) (c n : ℕ) → piece ≡ before_first is_colon text →
    following ≡ after_first is_colon text → length piece ≢ length text → None ≡ hex_group piece →
    more_groups c n (piece_groups dotted text) ≡ None
turn-none dotted text piece following c n front back h none =
    ap (more_groups c n) (piece_groups-more dotted text piece following front back h)
    ∙ ap (λ x. more_groups c n (onto_groups x (piece_groups dotted following))) (sym none)

pub turn-full : (dotted : Bool) (text piece following : List ℕ) (c n g : ℕ) → piece ≡ before_first is_colon text →
    following ≡ after_first is_colon text → length piece ≢ length text → Some g ≡ hex_group piece →
    None ≡ more_groups c n (Some (g ∷ [])) → more_groups c n (piece_groups dotted text) ≡ None
turn-full dotted text piece following c n g front back h some full =
    ap (more_groups c n) (piece_groups-more dotted text piece following front back h)
    ∙ ap (λ x. more_groups c n (onto_groups x (piece_groups dotted following))) (sym some)
    ∙ more-full c n g (piece_groups dotted following) full

pub turn-next : (dotted : Bool) (text piece following : List ℕ) (c n g c' n' : ℕ) → piece ≡ before_first is_colon text →
    following ≡ after_first is_colon text → length piece ≢ length text → Some g ≡ hex_group piece →
    Some (c', n') ≡ more_groups c n (Some (g ∷ [])) →
    more_groups c n (piece_groups dotted text) ≡ more_groups c' n' (piece_groups dotted following)
turn-next dotted text piece following c n g c' n' front back h some next =
    ap (more_groups c n) (piece_groups-more dotted text piece following front back h)
    ∙ ap (λ x. more_groups c n (onto_groups x (piece_groups dotted following))) (sym some)
    ∙ more-next c n g c' n' (piece_groups dotted following) next
