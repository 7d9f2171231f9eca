-- The start of a text, and its first word.
use Rattle.std.proofs.Common.{◌≡◌, ℕ, ◌+◌, ◌*◌, ◌<◌, ◌≤◌, ◌&&◌, ◌||◌, ◌==◌, Bool, true, false, List, [], ◌∷◌, ◌++◌, Some, None, Ok, All, length, map, take, drop, ap, sym, refl, ◌∙◌, arith, codes, inl, inr, nat_le, le-leb, ok_or, option_map}
use Rattle.std.specs.List.{list_all, list_any, position_or_len, before_first, after_first}
use Rattle.std.specs.Str.{bytes_eq}
use Rattle.std.proofs.lemmas.Bool.{eqb-true, false≢true, true≢false, cond-false, cond-true, and_from, false_from_ne_true, or_cases, or_from, or_right}
use Rattle.std.proofs.lemmas.List.{append_assoc, length-take-le, take_at, drop_at, drop-drop}
use Rattle.std.proofs.lemmas.List.Elements.{All-head, All-tail, All-append, All-cons}
use Rattle.std.proofs.lemmas.List.Folds.{list_any-append, list_all-append}
use Rattle.std.proofs.lemmas.List.Splits.{slice_split_at, slice_split_none}
use Rattle.std.proofs.lemmas.Slice.Eq.{bytes_eq-Decides}
use Rattle.prefix_keys.proofs.Bytes.{all-weaker, apart, lacks, none-passes}
use Rattle.prefix_keys.proofs.LeadingGroups.{colon-in}
use Rattle.prefix_keys.proofs.Pieces.{is_point, of_all}
use Rattle.prefix_keys.specs.Block.{block_number, first_of, width_of}
use Rattle.prefix_keys.specs.Inner.{BeginsWith, is_colon_byte}
use Rattle.prefix_keys.proofs.ReadBack.{block_from}
use Rattle.std.specs.Char.{is_ascii_hexdigit}
use Rattle.prefix_keys.specs.Text.{AddressOf, BlockOf, address_of, block_of_text, decimal_value, dotted_address, four_bytes, is_digit, decimal_number, colon_address}
use Rattle.prefix_keys.specs.declared.addr.Addr.{Addr}
use Rattle.prefix_keys.specs.declared.block.Block.{Block}
use Rattle.prefix_keys.specs.declared.text.BlockFault.TheVariants.{BadLength}
use Rattle.prefix_keys.specs.declared.version.Version.TheVariants.{V4, V6}
use Rattle.pmap_model.specs.Label.{is_blank}
use Rattle.pmap_text.specs.Inner.{BeginsWithBlank, IsWord, is_address_byte, is_dotted_byte, Address, one_or_two}
use Rattle.pmap_text.specs.Reading.{after_word, first_word, trim_start, Earlier, block_line, content_line, statement_line, Form}
use Rattle.pmap_text.specs.declared.reading.leading.Word.TheVariants.{Block as block_word}

-- one to three digits at the start are a number
pub number-some : (limit : ℕ) (text : List ℕ) (at n : ℕ) → n ≡ decimal_value (take at text) → list_all is_digit (take at text) ≡ true
    → 0 < at → at ≤ 3 → at ≤ length text → n ≤ limit → decimal_number 3 limit (take at text) ≡ Some n
number-some limit text at n value digits some few within small =
    let front : List ℕ = take at text in
    let count : length front ≡ at = length-take-le at text within in
    let one : nat_le 1 (length front) ≡ true = le-leb _ _ (omega arith) in
    let three : nat_le (length front) 3 ≡ true = le-leb _ _ (omega arith) in
    let limited : nat_le (decimal_value front) limit ≡ true = le-leb _ _ (omega arith) in
    cond-true _ (Some (decimal_value front)) None (and_from _ _ one (and_from _ _ three (and_from _ _ digits limited)))
    ∙ ap (λ m. Some m) (sym value)

-- four numbers separated by points
abbrev pointed : List ℕ → List ℕ → List ℕ → List ℕ → List ℕ
pointed f0 f1 f2 f3 = f0 ++ 46 ∷ (f1 ++ 46 ∷ (f2 ++ 46 ∷ f3))

no_point : (f : List ℕ) → list_all is_digit f ≡ true → All (λ b. is_point b ≡ false) f
no_point f digits = none-passes is_digit is_point (apart is_digit 46 refl) f digits

digit-dotted : (f : List ℕ) → list_all is_digit f ≡ true → list_all is_dotted_byte f ≡ true
digit-dotted f digits = all-weaker is_digit is_dotted_byte (λ b digit. rw digit refl) f digits

number-pointed : (f t : List ℕ) → list_all is_digit f ≡ true → list_all is_dotted_byte t ≡ true → list_all is_dotted_byte (f ++ 46 ∷ t) ≡ true
number-pointed f t digits all =
    list_all-append is_dotted_byte f (46 ∷ t) ∙ ap (λ x. x && list_all is_dotted_byte t) (digit-dotted f digits) ∙ all

-- the text after the parts is the text after the whole
dotted-whole : (text t1 t2 t3 rest f0 f1 f2 f3 : List ℕ)
    → text ≡ f0 ++ 46 ∷ t1 → t1 ≡ f1 ++ 46 ∷ t2 → t2 ≡ f2 ++ 46 ∷ t3 → t3 ≡ f3 ++ rest
    → text ≡ pointed f0 f1 f2 f3 ++ rest
dotted-whole text t1 t2 t3 rest f0 f1 f2 f3 e0 e1 e2 e3 =
    e0 ∙ ap (λ t. f0 ++ 46 ∷ t) (e1 ∙ ap (λ t. f1 ++ 46 ∷ t) (e2 ∙ ap (λ t. f2 ++ 46 ∷ t) e3
    ∙ sym (append_assoc f2 (46 ∷ f3) rest)) ∙ sym (append_assoc f1 (46 ∷ (f2 ++ 46 ∷ f3)) rest))
    ∙ sym (append_assoc f0 (46 ∷ (f1 ++ 46 ∷ (f2 ++ 46 ∷ f3))) rest)

-- a text that begins with them begins with an address
abbrev BeginsWithOctet : List ℕ → List ℕ → ℕ → Type 0
BeginsWithOctet text rest n = BeginsWith is_digit (decimal_number 3 255) text rest n

pub begins-dotted : (text r0 t1 r1 t2 r2 t3 rest : List ℕ) (a b c d : ℕ)
    → BeginsWithOctet text r0 a → r0 ≡ 46 ∷ t1 → BeginsWithOctet t1 r1 b → r1 ≡ 46 ∷ t2
    → BeginsWithOctet t2 r2 c → r2 ≡ 46 ∷ t3 → BeginsWithOctet t3 rest d
    → BeginsWith is_dotted_byte dotted_address text rest (((a * 256 + b) * 256 + c) * 256 + d)
begins-dotted text r0 t1 r1 t2 r2 t3 rest a b c d one p0 two p1 three p2 four =
    let f0 = one.front in
    let f1 = two.front in
    let f2 = three.front in
    let f3 = four.front in
    record {
      front = pointed f0 f1 f2 f3;
      whole =
          dotted-whole text t1 t2 t3 rest f0 f1 f2 f3 (one.whole ∙ ap (λ r. f0 ++ r) p0) (two.whole ∙ ap (λ r. f1 ++ r) p1)
          (three.whole ∙ ap (λ r. f2 ++ r) p2) four.whole;
      bytes = number-pointed f0 _ one.bytes (number-pointed f1 _ two.bytes (number-pointed f2 _ three.bytes (digit-dotted f3 four.bytes)));
      reads =
          ap (λ pieces. of_all four_bytes (map (decimal_number 3 255) pieces))
          (slice_split_at is_point f0 46 (f1 ++ 46 ∷ (f2 ++ 46 ∷ f3)) (no_point f0 one.bytes) refl
          ∙ ap (λ ps. f0 ∷ ps) (slice_split_at is_point f1 46 (f2 ++ 46 ∷ f3) (no_point f1 two.bytes) refl
          ∙ ap (λ ps. f1 ∷ ps) (slice_split_at is_point f2 46 f3 (no_point f2 three.bytes) refl
          ∙ ap (λ ps. f2 ∷ ps) (slice_split_none is_point f3 (no_point f3 four.bytes)))))
          ∙ ap (of_all four_bytes) (λ i. one.reads i ∷ two.reads i ∷ three.reads i ∷ four.reads i ∷ []);
    }

-- a dotted address is an address, of bytes of addresses
pub dotted-address : (front : List ℕ) (value : ℕ) → list_all is_dotted_byte front ≡ true → dotted_address front ≡ Some value
    → address_of front ≡ Some (V4, value)
dotted-address front value bytes reads =
    cond-false (list_any (λ b. b == 58) front) (option_map (λ value. (V6, value)) (colon_address front))
    (option_map (λ value. (V4, value)) (dotted_address front)) (lacks is_dotted_byte 58 refl front bytes)
    ∙ ap (option_map (λ value. (V4, value))) reads

dotted-byte : (b : ℕ) → is_dotted_byte b ≡ true → is_address_byte b ≡ true
dotted-byte b dotted = elim (or_cases (is_digit b) (b == 46) dotted) [
  | inl digit ↦ rw digit refl
  | inr point ↦ ap is_address_byte (eqb-true b 46 point)
]

pub address-bytes : (front : List ℕ) → list_all is_dotted_byte front ≡ true → list_all is_address_byte front ≡ true
address-bytes front bytes = all-weaker is_dotted_byte is_address_byte dotted-byte front bytes

-- so is a colon address, which also consists of such bytes
colon-byte : (b : ℕ) → is_colon_byte b ≡ true → is_address_byte b ≡ true
colon-byte b colon = elim (or_cases (is_ascii_hexdigit b) (b == 58) colon) [
  | inl digit ↦ rw digit refl
  | inr here ↦ ap is_address_byte (eqb-true b 58 here)
]

pub colon-bytes : (front : List ℕ) → list_all is_colon_byte front ≡ true → list_all is_address_byte front ≡ true
colon-bytes front bytes = all-weaker is_colon_byte is_address_byte colon-byte front bytes

pub colon-address : (front : List ℕ) (value : ℕ) → colon_address front ≡ Some value → address_of front ≡ Some (V6, value)
colon-address front value reads =
    cond-true (list_any (λ b. b == 58) front) (option_map (λ value. (V6, value)) (colon_address front))
    (option_map (λ value. (V4, value)) (dotted_address front)) (colon-in front value reads)
    ∙ ap (option_map (λ value. (V6, value))) reads

-- no byte of an address is a blank
no_blank : (p : ℕ → Bool) → p 32 ≡ false → p 9 ≡ false → p 13 ≡ false → (b : ℕ) → p b ≡ true → is_blank b ≡ false
no_blank p space tab return b passes =
    or_from (b == 32) (b == 9 || b == 13) (apart p 32 space b passes)
    (or_from (b == 9) (b == 13) (apart p 9 tab b passes) (apart p 13 return b passes))

pub address-no_blank : (front : List ℕ) → list_all is_address_byte front ≡ true → All (λ b. is_blank b ≡ false) front
address-no_blank front bytes = none-passes is_address_byte is_blank (no_blank is_address_byte refl refl refl) front bytes

pub digits-no_blank : (front : List ℕ) → list_all is_digit front ≡ true → All (λ b. is_blank b ≡ false) front
digits-no_blank front digits = none-passes is_digit is_blank (no_blank is_digit refl refl refl) front digits

-- the first element that passes comes after elements that don't pass
pub first-after : (p : ℕ → Bool) (front : List ℕ) (b : ℕ) (rest : List ℕ) → All (λ b. p b ≡ false) front → p b ≡ true
    → position_or_len p (front ++ b ∷ rest) ≡ length front
first-after p [] b rest all here = rw here refl
first-after p (c ∷ front) b rest all here =
    let not : p c ≡ false = All-head (λ b. p b ≡ false) c front all in
    let more : position_or_len p (front ++ b ∷ rest) ≡ length front =
    first-after p front b rest (All-tail (λ b. p b ≡ false) c front all) here in
    rw not (omega (arith, more))

-- the first word is the front without blanks, and the text after it begins with a blank
pub word-front : (text front rest : List ℕ) → text ≡ front ++ rest → All (λ b. is_blank b ≡ false) front → BeginsWithBlank rest
    → first_word text ≡ front
word-front text front rest whole none blank =
    let at : text ≡ front ++ blank.blank ∷ blank.rest = whole ∙ ap (λ t. front ++ t) blank.whole in
    ap first_word at
    ∙ ap (λ n. take n (front ++ blank.blank ∷ blank.rest)) (first-after is_blank front blank.blank blank.rest none blank.is)
    ∙ take_at front (blank.blank ∷ blank.rest) (length front) refl

pub word-after : (text front rest : List ℕ) → text ≡ front ++ rest → All (λ b. is_blank b ≡ false) front → BeginsWithBlank rest
    → after_word text ≡ trim_start rest
word-after text front rest whole none blank =
    let at : text ≡ front ++ blank.blank ∷ blank.rest = whole ∙ ap (λ t. front ++ t) blank.whole in
    ap after_word at
    ∙ ap (λ n. trim_start (drop n (front ++ blank.blank ∷ blank.rest)))
    (first-after is_blank front blank.blank blank.rest none blank.is)
    ∙ ap trim_start (drop_at front (blank.blank ∷ blank.rest) (length front) refl ∙ sym blank.whole)

-- an address followed by a blank is the first word
pub address-word : (text rest : List ℕ) (addr : Addr) → BeginsWith is_address_byte address_of text rest (addr.version, addr.value) → BeginsWithBlank rest
    → IsWord (first_word text) (Address addr) × (after_word text ≡ trim_start rest)
address-word text rest addr begins blank =
    let none = address-no_blank begins.front begins.bytes in
    let word = word-front text begins.front rest begins.whole none blank in (
      (
        ap address_of word ∙ begins.reads,
        ap (list_any (λ b. b == 47)) word ∙ lacks is_address_byte 47 refl begins.front begins.bytes,
      ),
      word-after text begins.front rest begins.whole none blank,
    )

-- so is an address with a slash and a length, followed by a blank
block-whole : (text rest length left front digits : List ℕ) → text ≡ front ++ rest → rest ≡ 47 ∷ length → length ≡ digits ++ left
    → text ≡ (front ++ 47 ∷ digits) ++ left
block-whole text rest length left front digits e0 e1 e2 =
    e0 ∙ ap (λ t. front ++ t) (e1 ∙ ap (λ t. 47 ∷ t) e2) ∙ sym (append_assoc front (47 ∷ digits) left)

slash-first : (front digits : List ℕ) → list_all is_address_byte front ≡ true
    → position_or_len (λ b. b == 47) (front ++ 47 ∷ digits) ≡ length front
slash-first front digits bytes =
    first-after (λ b. b == 47) front 47 digits
    (none-passes is_address_byte (λ b. b == 47) (apart is_address_byte 47 refl) front bytes) refl

block-reads : (front digits : List ℕ) (addr : Addr) (len : ℕ) → list_all is_address_byte front ≡ true
    → address_of front ≡ Some (addr.version, addr.value) → decimal_number 3 (width_of addr.version) digits ≡ Some len
    → block_of_text (front ++ 47 ∷ digits)
    ≡ Ok (addr.version, first_of (width_of addr.version) len (block_number (width_of addr.version) len addr.value), len)
block-reads front digits addr len bytes reads number =
    let text : List ℕ = front ++ 47 ∷ digits in
    let W : ℕ = width_of addr.version in
    let before : before_first (λ b. b == 47) text ≡ front =
    ap (λ n. take n text) (slash-first front digits bytes) ∙ take_at front (47 ∷ digits) (length front) refl in
    let after : after_first (λ b. b == 47) text ≡ digits =
    ap (λ n. drop (n + 1) text) (slash-first front digits bytes)
    ∙ sym (drop-drop 1 (length front) text)
    ∙ ap (drop 1) (drop_at front (47 ∷ digits) (length front) refl) in
    ap (λ t. block_from (address_of t) (after_first (λ b. b == 47) text)) before
    ∙ ap (λ t. block_from (address_of front) t) after
    ∙ ap (λ a. block_from a digits) reads
    ∙ ap (λ len. ok_or (option_map (λ len. (addr.version, first_of W len (block_number W len addr.value), len)) len) BadLength) number

slash-in : (front digits : List ℕ) → list_any (λ b. b == 47) (front ++ 47 ∷ digits) ≡ true
slash-in front digits =
    list_any-append (λ b. b == 47) front (47 ∷ digits) ∙ or_right (list_any (λ b. b == 47) front) (list_any (λ b. b == 47) (47 ∷ digits)) refl

pub block-word : (text rest length left : List ℕ) (addr : Addr) (len : ℕ) (block : Block) → BeginsWith is_address_byte address_of text rest (addr.version, addr.value)
    → rest ≡ 47 ∷ length → BeginsWith is_digit (decimal_number 3 (width_of addr.version)) length left len → BeginsWithBlank left
    → block.version ≡ addr.version → block.len ≡ len
    → block.value ≡ first_of (width_of addr.version) len (block_number (width_of addr.version) len addr.value)
    → IsWord (first_word text) (block_word block) × (after_word text ≡ trim_start left)
block-word text rest length left addr len block begins slash number blank version bits value =
    let front : List ℕ = begins.front ++ 47 ∷ number.front in
    let whole : text ≡ front ++ left = block-whole text rest length left begins.front number.front begins.whole slash number.whole in
    let none : All (λ b. is_blank b ≡ false) front =
    All-append (λ b. is_blank b ≡ false) begins.front (47 ∷ number.front) (address-no_blank begins.front begins.bytes)
    (All-cons (λ b. is_blank b ≡ false) 47 number.front refl
    (digits-no_blank number.front number.bytes)) in
    let word = word-front text front left whole none blank in (
      (
        ap block_of_text word ∙ block-reads begins.front number.front addr len begins.bytes begins.reads number.reads
            ∙ (λ i. Ok (sym version i, sym value i, sym bits i)),
        ap (list_any (λ b. b == 47)) word ∙ slash-in begins.front number.front,
      ),
      word-after text front left whole none blank,
    )

-- a line whose first word has a `/` is one of a block, and a line whose first word is an address begins with that
not-keyword : (word keyword : List ℕ) → (word ≡ keyword → ⊥) → bytes_eq word keyword ≡ false
not-keyword word keyword other =
    false_from_ne_true (bytes_eq word keyword) (λ same. other ((bytes_eq-Decides word keyword).0 same))

pub block-statement : (form : Form) (earlier : Earlier) (word rest : List ℕ) (block : BlockOf)
    → block_of_text word ≡ Ok block → list_any (λ b. b == 47) word ≡ true
    → statement_line form earlier word rest ≡ block_line form earlier (Ok block) rest
block-statement form earlier word rest block reads slash =
    let other : (keyword : List ℕ) → list_any (λ b. b == 47) keyword ≡ false → bytes_eq word keyword ≡ false =
    λ keyword lacks. not-keyword word keyword (λ same. true≢false (sym slash ∙ ap (list_any (λ b. b == 47)) same ∙ lacks)) in
    rw (other (codes "map-name") refl, other (codes "mode") refl, other (codes "label") refl, other (codes "default") refl, slash, reads) refl

pub address-statement : (form : Form) (earlier : Earlier) (word rest : List ℕ) (first : AddressOf)
    → address_of word ≡ Some first → list_any (λ b. b == 47) word ≡ false
    → statement_line form earlier word rest ≡ one_or_two form earlier first (address_of (first_word rest)) rest
address-statement form earlier word rest first reads slash =
    let other : (keyword : List ℕ) → address_of keyword ≡ None → bytes_eq word keyword ≡ false =
    λ keyword none. not-keyword word keyword (λ same.
    let known : None ≡ Some first = sym none ∙ ap address_of (sym same) ∙ reads in absurd cc) in
    rw (other (codes "map-name") refl, other (codes "mode") refl, other (codes "label") refl, other (codes "default") refl, slash, reads) refl

-- a line whose content begins with a block, or with an address, by its content
pub content-block : (form : Form) (earlier : Earlier) (content rest : List ℕ) (block : Block) → IsWord (first_word content) (block_word block)
    → rest ≡ after_word content → content_line form earlier content ≡ block_line form earlier (Ok (block.version, block.value, block.len)) rest
content-block form earlier [] rest block word after = absurd (false≢true word.1)
content-block form earlier (b ∷ bs) rest block word after =
    block-statement form earlier (first_word (b ∷ bs)) (after_word (b ∷ bs)) (block.version, block.value, block.len) word.0 word.1
    ∙ ap (block_line form earlier (Ok (block.version, block.value, block.len))) (sym after)

pub content-address : (form : Form) (earlier : Earlier) (content rest : List ℕ) (addr : Addr) → IsWord (first_word content) (Address addr)
    → rest ≡ after_word content
    → content_line form earlier content ≡ one_or_two form earlier (addr.version, addr.value) (address_of (first_word rest)) rest
content-address form earlier [] rest addr word after = let none : None ≡ Some (addr.version, addr.value) = word.0 in absurd cc
content-address form earlier (b ∷ bs) rest addr word after =
    address-statement form earlier (first_word (b ∷ bs)) (after_word (b ∷ bs)) (addr.version, addr.value) word.0 word.1
    ∙ ap (λ t. one_or_two form earlier (addr.version, addr.value) (address_of (first_word t)) t) (sym after)
