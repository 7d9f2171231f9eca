use Rattle.std.specs.Prelude.{ℕ, ◌+◌, ◌*◌, ◌/◌, ◌%◌, ◌^◌, ◌==◌, false, List, [], ◌∷◌, ◌++◌, map}
use Rattle.std.specs.Prelude.{take, drop, nat_le, if◌then◌else◌, ◌≡◌, ◌<◌, ◌≤◌, Some, Ok, replicate}
use Rattle.std.specs.List.{join_with_byte, prefix_len}
use Rattle.std.specs.Fmt.{decimal, digits}
use Rattle.prefix_keys.specs.Block.{Version, V4, V6, width_of}
use Rattle.prefix_keys.specs.Text.{address_of, block_of_text}
use Rattle.prefix_keys.specs.declared.block.Block.{Block}

-- The printed texts of addresses and blocks: dotted decimal, or the form of RFC 5952, section 4.

-- the parts of a number, of `bits` bits each, at these bit offsets from the low end
abbrev pub parts_at : ℕ → List ℕ → ℕ → List ℕ
parts_at bits places number = map (λ place. number / 2 ^ (bits * place) % 2 ^ bits) places

-- numbers in a base, without leading zeros, separated by the separator
abbrev pub joined_text : ℕ → ℕ → List ℕ → List ℕ
joined_text base separator numbers = join_with_byte separator (map (digits base false) numbers)

-- the longer of two runs, or the first if they are equal; the start of the second is counted from one group later
abbrev pub longer_run : ℕ → ℕ × ℕ → ℕ × ℕ
longer_run here (start, len) = if nat_le len here then (0, here) else (start + 1, len)

-- the start of the first longest run of zeros, and its length: the zeros at the start, unless a later run is longer
abbrev pub longest_run : List ℕ → ℕ × ℕ
longest_run [] = (0, 0)
longest_run (group ∷ groups) =
    longer_run (prefix_len (λ g. g == 0) (group ∷ groups)) (longest_run groups)

-- groups in lower-case hexadecimal, separated by colons
abbrev pub address_groups_text : List ℕ → List ℕ
address_groups_text groups = joined_text 16 58 groups

-- the text of groups, in which `::` replaces a run of two or more
abbrev pub shortened_text : List ℕ → ℕ × ℕ → List ℕ
shortened_text groups (start, len) =
    if nat_le 2 len
    then address_groups_text (take start groups) ++ 58 ∷ 58
    ∷ address_groups_text (drop (start + len) groups)
    else address_groups_text groups

-- the eight groups of an IPv6 address, the highest first
abbrev pub address_groups : ℕ → List ℕ
address_groups = parts_at 16 (7 ∷ 6 ∷ 5 ∷ 4 ∷ 3 ∷ 2 ∷ 1 ∷ 0 ∷ [])

-- an IPv4 address: its four bytes in decimal, separated by points; an IPv6 address: its eight groups, with the first
-- longest run of zeros shortened
abbrev pub address_text : Version → ℕ → List ℕ
address_text V4 number = joined_text 10 46 (parts_at 8 (3 ∷ 2 ∷ 1 ∷ 0 ∷ []) number)
address_text V6 number =
    let groups = address_groups number in shortened_text groups (longest_run groups)

-- a block: its address, a `/`, and its length in decimal
abbrev pub block_text : Version → ℕ → ℕ → List ℕ
block_text version number len = address_text version number ++ 47 ∷ decimal len

-- Below: only contracts of parts and proofs use these; no promise of the program rests on them.

-- Laws about the texts.

-- the `len` groups from `start` on are zero
abbrev pub IsZeroRun : List ℕ → ℕ → ℕ → Type 0
IsZeroRun groups start len = take len (drop start groups) ≡ replicate len 0

-- the longest run consists of zeros, no run of zeros is longer, and none of the same length starts earlier
abbrev pub LongestRunIsLongest : Type 0
LongestRunIsLongest = (groups : List ℕ) → let run = longest_run groups in
    IsZeroRun groups run.0 run.1
    × ((start len : ℕ) → IsZeroRun groups start len → len ≤ run.1)
    × ((start : ℕ) → IsZeroRun groups start run.1 → run.0 ≤ start)

-- the printed text of an address is a written form of it
abbrev pub AddressIsReadBack : Type 0
AddressIsReadBack = (version : Version) (number : ℕ) → number < 2 ^ width_of version →
    address_of (address_text version number) ≡ Some (version, number)

-- the printed text of a block is a written form of it
abbrev pub BlockIsReadBack : Type 0
BlockIsReadBack = (block : Block) →
    block_of_text (block_text block.version block.value block.len) ≡ Ok (block.version, block.value, block.len)
