use Rattle.std.specs.Prelude.{ℕ, ◌+◌, ◌-◌, ◌*◌, ◌/◌, ◌%◌, ◌&&◌, ◌==◌, Bool, true, false, List, []}
use Rattle.std.specs.Prelude.{◌∷◌, ◌++◌, Option, Some, None, Result, Err, length, fold, map}
use Rattle.std.specs.Prelude.{replicate, nat_le, if◌then◌else◌, ok_or, option_and_then, option_map}
use Rattle.std.specs.Char.{is_ascii_hexdigit}
use Rattle.std.specs.Option.{option_map_or}
use Rattle.std.specs.List.{list_all, list_any, slice_split, before_first, after_first}
use Rattle.prefix_keys.specs.Block.{block_number, first_of, width_of, Version, V4, V6}
use Rattle.prefix_keys.specs.declared.text.BlockFault.{BlockFault}
use Rattle.prefix_keys.specs.declared.text.BlockFault.TheVariants.{BadAddress, BadLength}

-- The written forms of addresses and blocks.

-- a byte from `0` to `9`
abbrev pub is_digit : ℕ → Bool
is_digit b = nat_le 48 b && nat_le b 57

-- the number that decimal digits represent, leading zeros allowed
abbrev pub decimal_value : List ℕ → ℕ
decimal_value digits = fold (λ n b. n * 10 + (b - 48)) 0 digits

-- the number that 1 to `digits` decimal digits represent, at most the limit
abbrev pub decimal_number : ℕ → ℕ → List ℕ → Option ℕ
decimal_number digits limit text =
    if nat_le 1 (length text) && (nat_le (length text) digits
    && (list_all is_digit text && nat_le (decimal_value text) limit))
    then Some (decimal_value text) else None

-- the items, if all exist
abbrev pub all_some : {X : Type 0} → List (Option X) → Option (List X)
all_some [] = Some []
all_some (o ∷ os) = option_and_then (λ x. option_map (λ xs. x ∷ xs) (all_some os)) o

-- the number of four bytes, the first the highest
abbrev pub four_bytes : List ℕ → Option ℕ
four_bytes (a ∷ b ∷ c ∷ d ∷ []) = Some (((a * 256 + b) * 256 + c) * 256 + d)
four_bytes _ = None

-- the IPv4 address of a text in dotted decimal form: four numbers from 0 to 255, of one to three digits each, separated
-- by points
abbrev pub dotted_address : List ℕ → Option ℕ
dotted_address text =
    option_and_then four_bytes
    (all_some (map (decimal_number 3 255) (slice_split (λ b. b == 46) text)))

-- the value of one hexadecimal digit
abbrev pub hex_digit_value : ℕ → ℕ
hex_digit_value b = if is_digit b then b - 48 else if nat_le b 70 then b - 55 else b - 87

-- a group of 16 bits: one to four hexadecimal digits in either case
abbrev pub hex_group : List ℕ → Option ℕ
hex_group text =
    if nat_le 1 (length text) && (nat_le (length text) 4 && list_all is_ascii_hexdigit text)
    then Some (fold (λ n b. n * 16 + hex_digit_value b) 0 text) else None

-- the groups of the last piece of a text: one, or two if an IPv4 text is allowed and the piece has a point
abbrev pub last_groups : Bool → List ℕ → Option (List ℕ)
last_groups dotted piece = if dotted && list_any (λ b. b == 46) piece
    then option_map (λ value. value / 65536 ∷ value % 65536 ∷ []) (dotted_address piece)
    else option_map (λ group. group ∷ []) (hex_group piece)

-- the groups of pieces, if all exist: one for each piece except the last, and those of the last one
abbrev pub groups_of_pieces : Bool → List (List ℕ) → Option (List ℕ)
groups_of_pieces dotted [] = None
groups_of_pieces dotted (piece ∷ []) = last_groups dotted piece
groups_of_pieces dotted (piece ∷ pieces) =
    option_and_then (λ group.
    option_map (λ groups. group ∷ groups) (groups_of_pieces dotted pieces)) (hex_group piece)

-- the groups of a text of pieces separated by colons; an empty text has none
abbrev pub text_groups : Bool → List ℕ → Option (List ℕ)
text_groups dotted [] = Some []
text_groups dotted text = groups_of_pieces dotted (slice_split (λ b. b == 58) text)

-- the number that groups form, the first the highest
abbrev pub groups_number : List ℕ → ℕ
groups_number groups = fold (λ n group. n * 65536 + group) 0 groups

-- the address of the groups before a `::` and after it; the `::` represents one or more groups of zero
abbrev pub gap_address : Option (List ℕ) → Option (List ℕ) → Option ℕ
gap_address (Some front) (Some back) =
    if nat_le (length front + length back) 7
    then Some (groups_number (front ++ (replicate (8 - (length front + length back)) 0 ++ back)))
    else None
gap_address _ _ = None

-- the text before the first `::` and the text after it, if there is one
abbrev pub around_gap : List ℕ → Option (List ℕ × List ℕ)
around_gap (a ∷ b ∷ text) =
    if a == 58 && b == 58 then Some ([], text)
    else option_map (λ sides. (a ∷ sides.0, sides.1)) (around_gap (b ∷ text))
around_gap _ = None

-- the IPv6 address of a text with these sides of its `::`, or without one (RFC 4291, section 2.2): eight groups
-- separated by colons, in which one `::` may replace one or more groups of zero, and an IPv4 text the last two groups
abbrev pub around_address : List ℕ → Option (List ℕ × List ℕ) → Option ℕ
around_address text (Some (front, back)) =
    gap_address (text_groups false front) (text_groups true back)
around_address text None =
    option_and_then (λ groups. if length groups == 8 then Some (groups_number groups) else None)
    (text_groups true text)

-- the IPv6 address of a text
abbrev pub colon_address : List ℕ → Option ℕ
colon_address text = around_address text (around_gap text)

-- an address without its proof that it is one: the version and the number
abbrev pub AddressOf : Type 0
AddressOf = Version × ℕ

-- the address of a text, if the text is a written form of one: an IPv6 address if it has a colon, otherwise an IPv4
-- address
abbrev pub address_of : List ℕ → Option AddressOf
address_of text =
    if list_any (λ b. b == 58) text
    then option_map (λ value. (V6, value)) (colon_address text)
    else option_map (λ value. (V4, value)) (dotted_address text)

-- a block without its proof that it is one: the version, the number and the length
abbrev pub BlockOf : Type 0
BlockOf = Version × ℕ × ℕ

-- the block of a text, an address, a `/` and a length: the block of that length that covers the address; a length is a
-- number of one to three digits, at most the width of the address, and missing without a `/`
abbrev pub block_of_text : List ℕ → Result BlockOf BlockFault
block_of_text text = option_map_or (λ address. let W = width_of address.0 in
    ok_or (option_map (λ len. (address.0, first_of W len (block_number W len address.1), len))
    (decimal_number 3 W (after_first (λ b. b == 47) text))) BadLength)
    (address_of (before_first (λ b. b == 47) text)) (Err BadAddress)
