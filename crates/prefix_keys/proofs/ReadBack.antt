use Rattle.std.proofs.Common.{ℕ, ◌≡◌, ◌+◌, ◌-◌, ◌*◌, ◌/◌, ◌%◌, ◌^◌, ◌<◌, ◌≤◌, ◌==◌, ◌∙◌, Bool, true, false, cond, List, [], ◌∷◌, ◌++◌, Option, Some, None, Result, Ok, Err, All, fold, length, map, take, drop, replicate, ap, sym, refl, inl, inr, arith, ok_or, option_map, nat_le, le-leb, eq-eqb}
use Rattle.std.specs.List.{list_any, before_first, after_first, position_or_len}
use Rattle.std.specs.Option.{option_map_or}
use Rattle.std.specs.Fmt.{decimal}
use Rattle.std.proofs.lemmas.Bool.{cases_lt, or_right, lt-leb, cond-true, cond-false}
use Rattle.std.proofs.lemmas.List.{get_or_append_left, get_or_at, take_at, drop_at, length-drop, length-take, length-take-le, length-append, length-replicate, take-append-drop, drop-drop}
use Rattle.std.proofs.lemmas.List.Elements.{All-head, All-tail, All-take, All-drop, All-weaker, All-same, All-append, All-cons}
use Rattle.std.proofs.lemmas.List.Folds.{list_any_none, list_any-append}
use Rattle.prefix_keys.specs.Block.{block_number, first_of, width_of, Version, V4, V6}
use Rattle.prefix_keys.specs.declared.text.BlockFault.{BlockFault}
use Rattle.prefix_keys.specs.declared.text.BlockFault.TheVariants.{BadAddress, BadLength}
use Rattle.std.proofs.Math.Nat.{div-add-mod'}
use Rattle.std.proofs.lemmas.List.Sums.{position_or_len_is}
use Rattle.prefix_keys.specs.Print.{address_text, joined_text, longest_run, shortened_text, AddressIsReadBack, BlockIsReadBack, IsZeroRun, address_groups, address_groups_text}
use Rattle.prefix_keys.specs.Text.{groups_of_pieces, text_groups, groups_number, gap_address, around_address, hex_group, dotted_address, decimal_number, four_bytes, address_of, AddressOf, BlockOf, last_groups, colon_address}
use Rattle.prefix_keys.specs.Inner.{piece_groups}
use Rattle.prefix_keys.proofs.Pieces.{of_all}
use Rattle.prefix_keys.proofs.Printed.{Lacks, Lacks-digits, no_colon, no_point, no_slash, split-joined, joined-some, hex_group-digits, short_number-decimal, Lacks-joined}
use Rattle.prefix_keys.proofs.ColonPieces.{onto_groups}
use Rattle.prefix_keys.proofs.GroupNumbers.{whole_address}
use Rattle.prefix_keys.proofs.Groups.{address_bytes, bytes-below, bytes-number, groups-below, groups-number, width-le}
use Rattle.prefix_keys.proofs.LeadingGroups.{side-some}
use Rattle.prefix_keys.proofs.PrintedGaps.{IsGroup, around-gap, around-none, hex}
use Rattle.prefix_keys.proofs.Runs.{longest_is_run}

-- Printed texts are read back.

-- the groups of texts with colons
last_groups-hex : (dotted : Bool) (group : ℕ) → group < 65536 → last_groups dotted (hex group) ≡ Some (group ∷ [])
last_groups-hex true group small =
    ap (λ t. cond t (option_map (λ value. value / 65536 ∷ value % 65536 ∷ []) (dotted_address (hex group))) (option_map (λ group. group ∷ []) (hex_group (hex group))))
    (list_any_none (λ b. b == 46) (hex group) (Lacks-digits 46 no_point 16 group (omega arith) (omega arith) (omega arith)))
    ∙ ap (option_map (λ group. group ∷ [])) (hex_group-digits group small)
last_groups-hex false group small = ap (option_map (λ group. group ∷ [])) (hex_group-digits group small)

groups_of-hex : (dotted : Bool) (group : ℕ) (groups : List ℕ) → All IsGroup (group ∷ groups)
    → groups_of_pieces dotted (map hex (group ∷ groups)) ≡ Some (group ∷ groups)
groups_of-hex dotted group [] all = last_groups-hex dotted group (All-head IsGroup group [] all)
groups_of-hex dotted group (next ∷ groups) all =
    ap (λ o. onto_groups o (groups_of_pieces dotted (map hex (next ∷ groups)))) (hex_group-digits group (All-head IsGroup group (next ∷ groups) all))
    ∙ ap (onto_groups (Some group)) (groups_of-hex dotted next groups (All-tail IsGroup group (next ∷ groups) all))

piece_groups-printed : (dotted : Bool) (group : ℕ) (groups : List ℕ) → All IsGroup (group ∷ groups)
    → piece_groups dotted (address_groups_text (group ∷ groups)) ≡ Some (group ∷ groups)
piece_groups-printed dotted group groups all =
    ap (groups_of_pieces dotted) (split-joined 16 58 no_colon (omega arith) (omega arith) group groups all)
    ∙ groups_of-hex dotted group groups all

text_groups-printed : (dotted : Bool) (groups : List ℕ) → All IsGroup groups → text_groups dotted (address_groups_text groups) ≡ Some groups
text_groups-printed dotted [] all = refl
text_groups-printed dotted (group ∷ groups) all =
    side-some dotted (address_groups_text (group ∷ groups)) (joined-some 16 58 (omega arith) group groups (All-head IsGroup group groups all))
    ∙ piece_groups-printed dotted group groups all

-- a list is a front, a run of zeros, and the rest
around_run : (groups : List ℕ) (start len : ℕ) → IsZeroRun groups start len
    → take start groups ++ (replicate len 0 ++ drop (start + len) groups) ≡ groups
around_run groups start len run =
    ap (λ zeros. take start groups ++ (zeros ++ drop (start + len) groups)) (sym run)
    ∙ ap (λ rest. take start groups ++ (take len (drop start groups) ++ rest)) (sym (drop-drop len start groups))
    ∙ ap (λ rest. take start groups ++ rest) (take-append-drop len (drop start groups))
    ∙ take-append-drop start groups

-- the whole text of eight groups
whole_back : (groups : List ℕ) → length groups ≡ 8 → All IsGroup groups → colon_address (address_groups_text groups) ≡ Some (groups_number groups)
whole_back [] eight all = absurd (omega arith)
whole_back (group ∷ groups) eight all =
    let text : List ℕ = address_groups_text (group ∷ groups) in
    ap (around_address text) (around-none group groups all)
    ∙ ap whole_address (text_groups-printed true (group ∷ groups) all)
    ∙ cond-true (length (group ∷ groups) == 8) (Some (groups_number (group ∷ groups))) None (eq-eqb _ _ eight)

-- the text of the groups without such a run
gap_back : (groups : List ℕ) (start len : ℕ) → length groups ≡ 8 → All IsGroup groups → IsZeroRun groups start len → start + len ≤ 8 → 2 ≤ len
    → colon_address (address_groups_text (take start groups) ++ 58 ∷ 58 ∷ address_groups_text (drop (start + len) groups)) ≡ Some (groups_number groups)
gap_back groups start len eight all run within long =
    let front : List ℕ = take start groups in
    let back : List ℕ = drop (start + len) groups in
    let front_count : length front ≡ start = length-take-le start groups (omega arith) in
    let back_count : length back ≡ 8 - (start + len) = omega (arith, length-drop (start + len) groups) in
    let count : 8 - (length front + length back) ≡ len = omega arith in
    ap (around_address (address_groups_text front ++ 58 ∷ 58 ∷ address_groups_text back))
    (around-gap front (address_groups_text back) (All-take IsGroup start groups all))
    ∙ ap (λ sides. gap_address sides (text_groups true (address_groups_text back)))
    (text_groups-printed false front (All-take IsGroup start groups all))
    ∙ ap (gap_address (Some front)) (text_groups-printed true back (All-drop IsGroup (start + len) groups all))
    ∙ cond-true (nat_le (length front + length back) 7)
    (Some (groups_number (front ++ (replicate (8 - (length front + length back)) 0 ++ back)))) None
    (le-leb (length front + length back) 7 (omega arith))
    ∙ ap (λ n. Some (groups_number (front ++ (replicate n 0 ++ back)))) count
    ∙ ap (λ list. Some (groups_number list)) (around_run groups start len run)

-- a printed text is one of these two
shortened-long : (groups : List ℕ) (start len : ℕ) → 2 ≤ len
    → shortened_text groups (start, len) ≡ address_groups_text (take start groups) ++ 58 ∷ 58 ∷ address_groups_text (drop (start + len) groups)
shortened-long groups start len h = cond-true (nat_le 2 len) _ (address_groups_text groups) (le-leb 2 len h)

shortened-short : (groups : List ℕ) (start len : ℕ) → len < 2 → shortened_text groups (start, len) ≡ address_groups_text groups
shortened-short groups start len h = cond-false (nat_le 2 len) _ (address_groups_text groups) (lt-leb 2 len h)

-- a run of zeros is within the groups
run_within : (groups : List ℕ) (start len : ℕ) → IsZeroRun groups start len → 0 < len → start + len ≤ length groups
run_within groups start len run some =
    omega (arith, ap length run, length-replicate {A = ℕ} len 0, length-take len (drop start groups), length-drop start groups)

pub shortened_back : (groups : List ℕ) (start len : ℕ) → length groups ≡ 8 → All IsGroup groups → IsZeroRun groups start len
    → colon_address (shortened_text groups (start, len)) ≡ Some (groups_number groups)
shortened_back groups start len eight all run = elim (cases_lt len 2) [
  | inl short ↦ ap colon_address (shortened-short groups start len short) ∙ whole_back groups eight all
  | inr long ↦
      ap colon_address (shortened-long groups start len long)
      ∙ gap_back groups start len eight all run (omega (arith, run_within groups start len run (omega arith))) long
]

-- and it has a colon
colon_in : (front back : List ℕ) → list_any (λ b. b == 58) (front ++ 58 ∷ back) ≡ true
colon_in front back =
    list_any-append (λ b. b == 58) front (58 ∷ back)
    ∙ or_right (list_any (λ b. b == 58) front) (list_any (λ b. b == 58) (58 ∷ back)) refl

colon_in_groups : (groups : List ℕ) → 2 ≤ length groups → list_any (λ b. b == 58) (address_groups_text groups) ≡ true
colon_in_groups [] h = absurd (omega arith)
colon_in_groups (group ∷ []) h = absurd (omega arith)
colon_in_groups (group ∷ next ∷ groups) h = colon_in (hex group) (address_groups_text (next ∷ groups))

pub shortened_has_colon : (groups : List ℕ) (start len : ℕ) → length groups ≡ 8
    → list_any (λ b. b == 58) (shortened_text groups (start, len)) ≡ true
shortened_has_colon groups start len eight = elim (cases_lt len 2) [
  | inl short ↦
      ap (list_any (λ b. b == 58)) (shortened-short groups start len short) ∙ colon_in_groups groups (omega arith)
  | inr long ↦
      ap (list_any (λ b. b == 58)) (shortened-long groups start len long)
      ∙ colon_in (address_groups_text (take start groups)) (58 ∷ address_groups_text (drop (start + len) groups))
]

-- four bytes are read back
dotted_back : (a b c d : ℕ) → All (λ byte. byte < 256) (a ∷ b ∷ c ∷ d ∷ [])
    → dotted_address (joined_text 10 46 (a ∷ b ∷ c ∷ d ∷ [])) ≡ Some (fold (λ n byte. n * 256 + byte) 0 (a ∷ b ∷ c ∷ d ∷ []))
dotted_back a b c d all =
    let small : All IsGroup (a ∷ b ∷ c ∷ d ∷ []) =
    All-weaker (λ byte. byte < 256) IsGroup (λ byte h. omega arith) (a ∷ b ∷ c ∷ d ∷ []) all in
    let number : (n : ℕ) → n < 256 → decimal_number 3 255 (decimal n) ≡ Some n = λ n h. short_number-decimal 255 n (omega arith) (omega arith) in
    ap (λ pieces. of_all four_bytes (map (decimal_number 3 255) pieces)) (split-joined 10 46 no_point (omega arith) (omega arith) a (b ∷ c ∷ d ∷ []) small)
    ∙ ap (of_all four_bytes)
    (λ i. number a (all 0 0 (omega arith)) i ∷ number b (all 1 0 (omega arith)) i ∷ number c (all 2 0 (omega arith)) i ∷ number d (all 3 0 (omega arith)) i ∷ [])
    ∙ ap (λ n. Some (((n * 256 + b) * 256 + c) * 256 + d)) (first a)
  where
    first : (a : ℕ) → a ≡ 0 * 256 + a
    first a = omega arith

pub address_is_read_back : AddressIsReadBack
address_is_read_back V4 number h =
    let text : List ℕ = address_text V4 number in
    let small : All IsGroup (address_bytes number) =
    All-weaker (λ byte. byte < 256) IsGroup (λ byte h. omega arith) (address_bytes number) (bytes-below number) in
    cond-false (list_any (λ b. b == 58) text) (option_map (λ value. (V6, value)) (colon_address text))
    (option_map (λ value. (V4, value)) (dotted_address text))
    (list_any_none (λ b. b == 58) text (Lacks-joined 58 46 no_colon refl 10 (omega arith) (omega arith) (address_bytes number) small))
    ∙ ap (option_map (λ value. (V4, value))) (dotted_back _ _ _ _ (bytes-below number) ∙ ap (λ n. Some n) (bytes-number number h))
address_is_read_back V6 number h =
    let groups : List ℕ = address_groups number in
    let run : ℕ × ℕ = longest_run groups in
    let text : List ℕ = shortened_text groups run in
    cond-true (list_any (λ b. b == 58) text) (option_map (λ value. (V6, value)) (colon_address text))
    (option_map (λ value. (V4, value)) (dotted_address text))
    (shortened_has_colon groups run.0 run.1 refl)
    ∙ ap (option_map (λ value. (V6, value)))
    (shortened_back groups run.0 run.1 refl (groups-below number) (longest_is_run groups) ∙ ap (λ n. Some n) (groups-number number h))

-- a text is cut at the first byte with that value
first_at : (c : ℕ) (front back : List ℕ) → Lacks c front → position_or_len (λ b. b == c) (front ++ c ∷ back) ≡ length front
first_at c front back lacks =
    position_or_len_is (λ b. b == c) (front ++ c ∷ back) (length front) 0
    (omega (arith, length-append front (c ∷ back)))
    (λ k below. ap (λ b. b == c) (get_or_append_left front (c ∷ back) 0 k below) ∙ lacks k 0 below)
    (λ _. eq-eqb _ _ (get_or_at front c back 0 (length front) refl))

before_cut : (c : ℕ) (front back : List ℕ) → Lacks c front → before_first (λ b. b == c) (front ++ c ∷ back) ≡ front
before_cut c front back lacks =
    ap (λ n. take n (front ++ c ∷ back)) (first_at c front back lacks) ∙ take_at front (c ∷ back) (length front) refl

after_cut : (c : ℕ) (front back : List ℕ) → Lacks c front → after_first (λ b. b == c) (front ++ c ∷ back) ≡ back
after_cut c front back lacks =
    ap (λ n. drop (n + 1) (front ++ c ∷ back)) (first_at c front back lacks)
    ∙ sym (drop-drop 1 (length front) (front ++ c ∷ back))
    ∙ ap (drop 1) (drop_at front (c ∷ back) (length front) refl)

-- an address has no slash
shortened_lacks_slash : (groups : List ℕ) (start len : ℕ) → All IsGroup groups → Lacks 47 (shortened_text groups (start, len))
shortened_lacks_slash groups start len all =
    let P : ℕ → Type 0 = λ b. (b == 47) ≡ false in
    let lacks : (groups : List ℕ) → All IsGroup groups → Lacks 47 (address_groups_text groups) = Lacks-joined 47 58 no_slash refl 16 (omega arith) (omega arith) in
    elim (cases_lt len 2) [
      | inl short ↦ All-same P _ _ (shortened-short groups start len short) (lacks groups all)
      | inr long ↦
          All-same P _ _ (shortened-long groups start len long)
          (All-append P (address_groups_text (take start groups)) (58 ∷ 58 ∷ address_groups_text (drop (start + len) groups))
          (lacks (take start groups) (All-take IsGroup start groups all))
          (All-cons P 58 (58 ∷ address_groups_text (drop (start + len) groups)) refl
          (All-cons P 58 (address_groups_text (drop (start + len) groups)) refl
          (lacks (drop (start + len) groups) (All-drop IsGroup (start + len) groups all)))))
    ]

address_lacks_slash : (version : Version) (number : ℕ) → Lacks 47 (address_text version number)
address_lacks_slash V4 number =
    Lacks-joined 47 46 no_slash refl 10 (omega arith) (omega arith) (address_bytes number)
    (All-weaker (λ byte. byte < 256) IsGroup (λ byte h. omega arith) (address_bytes number) (bytes-below number))
address_lacks_slash V6 number =
    shortened_lacks_slash (address_groups number) (longest_run (address_groups number)).0 (longest_run (address_groups number)).1
    (groups-below number)

-- a number without host bits is the number of its block
whole_quotient : (number size : ℕ) → number % size ≡ 0 → number / size * size ≡ number
whole_quotient number size h = omega (arith, div-add-mod' number size)

-- the block of an address and the text of a length
abbrev pub block_from : Option AddressOf → List ℕ → Result BlockOf BlockFault
block_from address text = option_map_or (λ address. let W = width_of address.0 in
    ok_or (option_map (λ len. (address.0, first_of W len (block_number W len address.1), len))
    (decimal_number 3 W text)) BadLength)
    address (Err BadAddress)

pub block_is_read_back : BlockIsReadBack
block_is_read_back block =
    let text : List ℕ = address_text block.version block.value in
    let W : ℕ = width_of block.version in
    let lacks : Lacks 47 text = address_lacks_slash block.version block.value in
    let small : block.len < 1000 = omega (arith, width-le block.version) in
    ap (λ front. block_from (address_of front) (after_first (λ b. b == 47) (text ++ 47 ∷ decimal block.len))) (before_cut 47 text (decimal block.len) lacks)
    ∙ ap (block_from (address_of text)) (after_cut 47 text (decimal block.len) lacks)
    ∙ ap (λ addr. block_from addr (decimal block.len)) (address_is_read_back block.version block.value block.in_range)
    ∙ ap (λ len. ok_or (option_map (λ len. (block.version, first_of W len (block_number W len block.value), len)) len) BadLength)
    (short_number-decimal W block.len block.len_in_range small)
    ∙ ap (λ number. Ok (block.version, number, block.len)) (whole_quotient block.value (2 ^ (W - block.len)) block.no_host_bit)
