-- A printed line of a word and a label is read as its content, and its words are these two.
use Rattle.std.proofs.Common.{◌≡◌, ℕ, ◌+◌, ◌-◌, ◌^◌, ◌<◌, ◌≤◌, ◌==◌, ◌∙◌, Bool, true, false, not, cond, List, [], ◌∷◌, ◌++◌, All, drop, length, get_or, take, nat_le, refl, sym, ap, subst, arith, one-add}
use Rattle.std.specs.Fmt.{decimal, digit_glyph, digits}
use Rattle.std.specs.List.{before_first, position_or_len, suffix_len}
use Rattle.std.proofs.lemmas.Bool.Decides.{nat_tests}
use Rattle.std.proofs.lemmas.Bool.{both_ways, ne_eqb}
use Rattle.std.proofs.lemmas.List.{drop_at, get_or-append-add, length-append, take_all, take_at}
use Rattle.std.proofs.lemmas.List.Elements.{All-append, All-cons, All-drop, All-head, All-nil, All-tail, All-take, All-weaker}
use Rattle.std.proofs.lemmas.List.Sums.{AllPass-from_list_all, position_or_len_is, suffix_len-take_no}
use Rattle.prefix_keys.specs.Print.{address_text, block_text, joined_text, longest_run, shortened_text, address_groups, address_groups_text}
use Rattle.prefix_keys.specs.declared.version.Version.{Version}
use Rattle.prefix_keys.specs.declared.version.Version.TheVariants.{V4, V6}
use Rattle.prefix_keys.proofs.Digits.{All-digits}
use Rattle.prefix_keys.proofs.Groups.{address_bytes, bytes-below, groups-below}
use Rattle.prefix_keys.proofs.Printed.{Lacks}
use Rattle.pmap_cert.specs.CertificateText.{text_of_lines}
use Rattle.pmap_model.specs.Label.{is_blank, is_label, is_label_byte}
use Rattle.pmap_text.specs.Reading.{after_word, content_of, first_word, lines_of, trim_start, trim_end}
use Rattle.pmap_text.proofs.LeadingWords.{first-after}

-- each printed line is read as one line
one-line : (line rest : List ℕ) → Lacks 10 line → lines_of ((line ++ 10 ∷ []) ++ rest) ≡ line ∷ lines_of rest
one-line [] rest lacks = refl
one-line (b ∷ bs) rest lacks =
    rw (All-head (λ b. (b == 10) ≡ false) b bs lacks, one-line bs rest (All-tail (λ b. (b == 10) ≡ false) b bs lacks)) refl

pub lines-text : (lines : List (List ℕ)) → All (Lacks 10) lines → lines_of (text_of_lines lines) ≡ lines
lines-text [] lacks = refl
lines-text (line ∷ lines) lacks =
    one-line line (text_of_lines lines) (All-head (Lacks 10) line lines lacks)
    ∙ ap (λ (ls : List (List ℕ)). line ∷ ls) (lines-text lines (All-tail (Lacks 10) line lines lacks))

-- no byte of the text passes a test
no_first : (test : ℕ → Bool) (text : List ℕ) → All (λ c. test c ≡ false) text → position_or_len test text ≡ length text
no_first test text none = position_or_len_is test text (length text) 0 (omega arith) (λ k below. none k 0 below) (λ h. absurd (omega (arith, h)))

-- a text that neither begins nor ends with a blank has no outer blanks
trim_start-same : (b : ℕ) (bs : List ℕ) → is_blank b ≡ false → trim_start (b ∷ bs) ≡ b ∷ bs
trim_start-same b bs e =
    ap (λ n. drop n (b ∷ bs)) (position_or_len_is (λ c. not (is_blank c)) (b ∷ bs) 0 0 (omega arith) (λ k below. absurd (omega (arith, below))) (λ _. rw e refl))

trim_end-same : (text : List ℕ) → 0 < length text → is_blank (get_or text (length text - 1) 0) ≡ false → trim_end text ≡ text
trim_end-same text some e =
    let whole : take (length text) text ≡ text = take_all (length text) text (omega arith) in
    let none : suffix_len is_blank text ≡ 0 =
    ap (suffix_len is_blank) (sym whole) ∙ suffix_len-take_no is_blank text (length text) 0 some (omega arith) e in
    take_all (length text - suffix_len is_blank text) text (omega arith)

-- what a well-formed label is
pub record LabelParts (label : List ℕ) : Type 0 where
  pub some : 0 < length label
  pub bytes : All (λ b. is_label_byte b ≡ true) label
  pub first : is_blank (get_or label 0 0) ≡ false
  pub last : is_blank (get_or label (length label - 1) 0) ≡ false

pub label-parts : (label : List ℕ) → is_label label ≡ true → LabelParts label
label-parts label is =
    record {
      some = grind (arith, nat_tests);
      bytes = AllPass-from_list_all is_label_byte label (grind (arith, nat_tests));
      first = grind (arith, nat_tests);
      last = grind (arith, nat_tests);
    }

-- a byte that no label has, such as a line feed
label-lacks : (c : ℕ) → is_label_byte c ≡ false → (label : List ℕ) → is_label label ≡ true → Lacks c label
label-lacks c never label is =
    All-weaker (λ b. is_label_byte b ≡ true) (λ b. (b == c) ≡ false)
    (λ b yes. ne_eqb b c (λ e. both_ways (is_label_byte c) never (subst (λ x. is_label_byte x ≡ true) e yes))) label (label-parts label is).bytes

-- no byte of a printed word is below the hyphen, so none ends a word or a line or begins a comment
pub high-other : (c b : ℕ) → c < 45 → 45 ≤ b → (b == c) ≡ false
high-other c b low high = ne_eqb b c (λ e. omega (arith, low, high, e))

high-blank : (b : ℕ) → 45 ≤ b → is_blank b ≡ false
high-blank b high = rw (high-other 32 b (omega arith) high, high-other 9 b (omega arith) high, high-other 13 b (omega arith) high) refl

-- A word, a space and a label: the first word is the word, and the label follows it.
module _ (word label : List ℕ) (some : 0 < length word) (high : All (λ b. 45 ≤ b) word) (is : is_label label ≡ true) where
  no_blank : All (λ b. is_blank b ≡ false) word
  no_blank = All-weaker (λ b. 45 ≤ b) (λ b. is_blank b ≡ false) high-blank word high

  line-lacks : (c : ℕ) → c < 45 → (32 == c) ≡ false → is_label_byte c ≡ false → Lacks c (word ++ 32 ∷ label)
  line-lacks c low space never =
      All-append (λ b. (b == c) ≡ false) word (32 ∷ label)
      (All-weaker (λ b. 45 ≤ b) (λ b. (b == c) ≡ false) (λ b h. high-other c b low h) word high)
      (All-cons (λ b. (b == c) ≡ false) 32 label space (label-lacks c never label is))

  pub line-lacks_feed : Lacks 10 (word ++ 32 ∷ label)
  line-lacks_feed = line-lacks 10 (omega arith) refl refl

  word_at : position_or_len is_blank (word ++ 32 ∷ label) ≡ length word
  word_at = first-after is_blank word 32 label no_blank refl

  pub line-first_word : first_word (word ++ 32 ∷ label) ≡ word
  line-first_word = ap (λ n. take n (word ++ 32 ∷ label)) word_at ∙ take_at word (32 ∷ label) (length word) refl

  label-trimmed : (text : List ℕ) → 0 < length text → is_blank (get_or text 0 0) ≡ false → trim_start (32 ∷ text) ≡ text
  label-trimmed [] more first = absurd (omega (arith, more))
  label-trimmed (b ∷ bs) more first =
      ap (λ n. drop n (32 ∷ b ∷ bs)) (position_or_len_is (λ c. not (is_blank c)) (32 ∷ b ∷ bs) 1 0 (omega arith)
      (λ k below. let e : k ≡ 0 = omega (arith, below) in rw e refl) (λ _. rw first refl))

  pub line-after_word : after_word (word ++ 32 ∷ label) ≡ label
  line-after_word =
      ap (λ n. trim_start (drop n (word ++ 32 ∷ label))) word_at ∙ ap trim_start (drop_at word (32 ∷ label) (length word) refl)
      ∙ label-trimmed label (label-parts label is).some (label-parts label is).first

  begins : (text : List ℕ) (rest : List ℕ) → 0 < length text → All (λ b. 45 ≤ b) text → trim_start (text ++ rest) ≡ text ++ rest
  begins [] rest more all = absurd (omega (arith, more))
  begins (b ∷ bs) rest more all = trim_start-same b (bs ++ rest) (high-blank b (All-head (λ b. 45 ≤ b) b bs all))

  ends : is_blank (get_or (word ++ 32 ∷ label) (length (word ++ 32 ∷ label) - 1) 0) ≡ false
  ends =
      let parts = label-parts label is in
      let place : length (word ++ 32 ∷ label) - 1 ≡ length word + (1 + (length label - 1)) = omega (arith, parts.some, length-append word (32 ∷ label)) in
      rw place (ap is_blank (get_or-append-add word (32 ∷ label) (1 + (length label - 1)) 0) ∙ last-label parts.some parts.last)
    where
      last-label : 0 < length label → is_blank (get_or label (length label - 1) 0) ≡ false → is_blank (get_or (32 ∷ label) (1 + (length label - 1)) 0) ≡ false
      last-label more e = rw one-add e

  pub line-content : content_of (word ++ 32 ∷ label) ≡ word ++ 32 ∷ label
  line-content =
      let whole : before_first (λ b. b == 35) (word ++ 32 ∷ label) ≡ word ++ 32 ∷ label =
      ap (λ n. take n (word ++ 32 ∷ label)) (no_first (λ b. b == 35) (word ++ 32 ∷ label) (line-lacks 35 (omega arith) refl refl))
      ∙ take_all (length (word ++ 32 ∷ label)) (word ++ 32 ∷ label) (omega arith) in
      ap (λ t. trim_end (trim_start t)) whole ∙ ap trim_end (begins word (32 ∷ label) some high)
      ∙ trim_end-same (word ++ 32 ∷ label) (omega (arith, some, length-append word (32 ∷ label))) ends

-- no byte of a printed block is below the hyphen
glyph-high : (d : ℕ) → 45 ≤ digit_glyph false d
glyph-high d = grind (arith, nat_tests)

high-digits : (base n : ℕ) → 2 ≤ base → n < 2 ^ 63 → All (λ b. 45 ≤ b) (digits base false n)
high-digits base n low small = All-digits base low (λ b. 45 ≤ b) (λ d h. glyph-high d) n small

high-joined : (base separator : ℕ) → 2 ≤ base → 45 ≤ separator → (numbers : List ℕ) → All (λ n. n < 65536) numbers
    → All (λ b. 45 ≤ b) (joined_text base separator numbers)
high-joined base separator low high [] all = All-nil (λ b. 45 ≤ b)
high-joined base separator low high (n ∷ []) all = high-digits base n low (omega (arith, All-head (λ n. n < 65536) n [] all))
high-joined base separator low high (n ∷ m ∷ numbers) all =
    All-append (λ b. 45 ≤ b) (digits base false n) (separator ∷ joined_text base separator (m ∷ numbers))
    (high-digits base n low (omega (arith, All-head (λ n. n < 65536) n (m ∷ numbers) all)))
    (All-cons (λ b. 45 ≤ b) separator (joined_text base separator (m ∷ numbers)) high
    (high-joined base separator low high (m ∷ numbers) (All-tail (λ n. n < 65536) n (m ∷ numbers) all)))

high-shortened : (groups : List ℕ) (start len : ℕ) → All (λ n. n < 65536) groups → All (λ b. 45 ≤ b) (shortened_text groups (start, len))
high-shortened groups start len all = by (nat_le 2 len)
  where
    colons : (groups : List ℕ) → All (λ n. n < 65536) groups → All (λ b. 45 ≤ b) (address_groups_text groups)
    colons = high-joined 16 58 (omega arith) (omega arith)

    by : (b : Bool) → All (λ b. 45 ≤ b) (cond b (address_groups_text (take start groups) ++ 58 ∷ 58 ∷ address_groups_text (drop (start + len) groups)) (address_groups_text groups))
    by true =
        All-append (λ b. 45 ≤ b) (address_groups_text (take start groups)) (58 ∷ 58 ∷ address_groups_text (drop (start + len) groups))
        (colons (take start groups) (All-take (λ n. n < 65536) start groups all))
        (All-cons (λ b. 45 ≤ b) 58 (58 ∷ address_groups_text (drop (start + len) groups)) (omega arith)
        (All-cons (λ b. 45 ≤ b) 58 (address_groups_text (drop (start + len) groups)) (omega arith)
        (colons (drop (start + len) groups) (All-drop (λ n. n < 65536) (start + len) groups all))))
    by false = colons groups all

high-address : (version : Version) (number : ℕ) → All (λ b. 45 ≤ b) (address_text version number)
high-address V4 number =
    high-joined 10 46 (omega arith) (omega arith) (address_bytes number)
    (All-weaker (λ byte. byte < 256) (λ n. n < 65536) (λ byte h. omega (arith, h)) (address_bytes number) (bytes-below number))
high-address V6 number =
    high-shortened (address_groups number) (longest_run (address_groups number)).0 (longest_run (address_groups number)).1 (groups-below number)

pub high-block : (version : Version) (number len : ℕ) → len < 2 ^ 63 → All (λ b. 45 ≤ b) (block_text version number len)
high-block version number len small =
    All-append (λ b. 45 ≤ b) (address_text version number) (47 ∷ decimal len) (high-address version number)
    (All-cons (λ b. 45 ≤ b) 47 (decimal len) (omega arith) (high-digits 10 len (omega arith) small))
