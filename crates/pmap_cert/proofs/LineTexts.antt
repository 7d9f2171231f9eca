-- What a text begins with: numbers, bits, sets and the lines of nodes.
use Rattle.std.proofs.Common.{◌≡◌, ◌≢◌, ℕ, zero, suc, ◌+◌, ◌-◌, ◌*◌, ◌^◌, ◌<◌, ◌≤◌, ◌==◌, ◌∙◌, ◌⊎◌, inl, inr, Bool, true, false, List, [], ◌∷◌, ◌++◌, Option, None, Some, codes, cond, drop, fold, get_or, length, map, refl, sym, ap, subst, take, arith}
use Rattle.std.specs.Fmt.{decimal}
use Rattle.std.specs.List.{flat_map, list_all}
use Rattle.std.specs.Option.{option_map}
use Rattle.std.proofs.Math.Seq.{drop-append_seam, take-append_seam}
use Rattle.std.proofs.lemmas.Bool.{and_from, and_parts, cond-false, cond-true, eq-eqb, eqb-true, false≢true, ne_eqb}
use Rattle.std.proofs.lemmas.Fmt.{decimal_digit, decimal_nonempty, first_decimal}
use Rattle.std.proofs.lemmas.List.{append-nil, append_assoc, get_or_append_left, get_or-take, length-map, length-take-le, take-append-drop, take-append-le}
use Rattle.std.proofs.lemmas.List.Concat.{flat_map-cons}
use Rattle.std.proofs.lemmas.Option.{none-some, same_Some}
use Rattle.prefix_keys.specs.Text.{decimal_value, is_digit}
use Rattle.prefix_keys.specs.declared.version.Version.{Version}
use Rattle.pmap_cert.specs.CertificateText.{IsAscending, bit_digits, format_header, format_word, node_line_text, version_word}
use Rattle.pmap_cert.specs.Format.{Format, One, Two, format_number}
use Rattle.std.specs.Prelude.{IfSome}
use Rattle.pmap_cert.specs.FormatReading.{ChainLine, DueLine, InnerLine, LeafLine}
use Rattle.pmap_cert.specs.Inner.{BeginsWithBits, BeginsWithChain, BeginsWithClaim, BeginsWithHeader, BeginsWithLine, BeginsWithNumber, BeginsWithSet, GoesOnWithout, Finds, BeginsWithBoth, after_byte, header_name, is_bit}
use Rattle.pmap_cert.proofs.ChainWords.{bits-back, bits-digits, digits-back}
use Rattle.pmap_cert.proofs.PrintedLines.{IsNumbered, fits-line, header-fits, line-fits}
use Rattle.pmap_cert.proofs.Written.{joined-numbers}
use Rattle.pmap_cert.proofs.Numbers.{decimal-digits, decimal-word, decimal_value-decimal}

-- a reading finds nothing if the text never begins so
pub reads_none : {A : Type 0} (Begins : A → List ℕ → Type 0) → ((x : A) (rest : List ℕ) → Begins x rest → ⊥) → Finds Begins None
reads_none Begins never = record { right = tt; only = λ x rest begins. absurd (never x rest begins) }

-- equal results have equal values and equal rests
pub read_same : {A : Type 0} (x y : A) (xs ys : List ℕ) → ◌≡◌ {A = Option (A × List ℕ)} (Some (x, xs)) (Some (y, ys)) → (x ≡ y) × (xs ≡ ys)
read_same x y xs ys e = let same = same_Some _ _ e in (ap (λ p. p.0) same, ap (λ p. p.1) same)

-- a text with a rest after its first byte is that byte and the rest
pub after_byte-found : (byte : ℕ) (text rest : List ℕ) → after_byte byte text ≡ Some rest → text ≡ byte ∷ rest
after_byte-found byte [] rest e = absurd (none-some rest e)
after_byte-found byte (b ∷ bs) rest e = by (b == byte) refl
  where
    by : (t : Bool) → (b == byte) ≡ t → b ∷ bs ≡ byte ∷ rest
    by true h =
        let same : b ≡ byte = eqb-true b byte h in
        let following : bs ≡ rest = same_Some bs rest (sym (cond-true (b == byte) (Some bs) None h) ∙ e) in
        λ i. same i ∷ following i
    by false h = absurd (none-some rest (sym (cond-false (b == byte) (Some bs) None h) ∙ e))

pub after_byte-there : (byte : ℕ) (text rest : List ℕ) → text ≡ byte ∷ rest → after_byte byte text ≡ Some rest
after_byte-there byte text rest e = ap (after_byte byte) e ∙ cond-true (byte == byte) (Some rest) None (eq-eqb byte byte refl)

pub not-there : (byte : ℕ) (text rest : List ℕ) → after_byte byte text ≡ None → text ≡ byte ∷ rest → ⊥
not-there byte text rest none e = none-some rest (sym none ∙ after_byte-there byte text rest e)

pub following-byte : (b c : ℕ) (xs ys : List ℕ) → b ∷ xs ≡ c ∷ ys → xs ≡ ys
following-byte b c xs ys e = ap (λ (t : List ℕ). drop 1 t) e

-- a text of bytes that pass the test, and then one that doesn't
module _ (known : ℕ → Bool) where
  front-within : (ds rest : List ℕ) (at : ℕ) → GoesOnWithout known rest → list_all known (take at (ds ++ rest)) ≡ true → (at ≤ length ds) ⊎ (length (ds ++ rest) < at)
  front-within ds rest zero ended all = inl (omega arith)
  front-within [] [] (suc at) ended all = absurd ended
  front-within [] (b ∷ rest) (suc at) ended all = absurd (false≢true (sym ended ∙ (and_parts (known b) (list_all known (take at rest)) all).0))
  front-within (d ∷ ds) rest (suc at) ended all =
      elim (front-within ds rest at ended (and_parts (known d) (list_all known (take at (ds ++ rest))) all).1)
      [ inl le ↦ inl (omega (arith, le)) | inr more ↦ inr (omega (arith, more)) ]

  -- if the first `at` bytes pass, they are at most as many as `ds`
  pub front-most : (text ds rest : List ℕ) (at : ℕ) → text ≡ ds ++ rest → GoesOnWithout known rest → at ≤ length text → list_all known (take at text) ≡ true
      → at ≤ length ds
  front-most text ds rest at whole ended within all =
      elim (front-within ds rest at ended (subst (λ (t : List ℕ). list_all known (take at t) ≡ true) whole all))
      [ inl le ↦ le | inr more ↦ absurd (omega (arith, within, more, ap (λ (t : List ℕ). length t) whole)) ]

  front-least : (ds rest : List ℕ) (at : ℕ) → list_all known ds ≡ true → known (get_or (ds ++ rest) at 0) ≡ false → length ds ≤ at
  front-least [] rest at all other = omega arith
  front-least (d ∷ ds) rest zero all other = absurd (false≢true (sym other ∙ (and_parts (known d) (list_all known ds) all).0))
  front-least (d ∷ ds) rest (suc at) all other =
      let le = front-least ds rest at (and_parts (known d) (list_all known ds) all).1 other in omega (arith, le)

  -- if the first `at` bytes pass and the next one doesn't, they are `ds`, and the rest follows
  pub front-is : (text ds rest : List ℕ) (at : ℕ) → text ≡ ds ++ rest → list_all known ds ≡ true → GoesOnWithout known rest → at < length text
      → list_all known (take at text) ≡ true → known (get_or text at 0) ≡ false → (at ≡ length ds) × (take at text ≡ ds) × (drop at text ≡ rest)
  front-is text ds rest at whole digits ended within all other =
      let most = front-most text ds rest at whole ended (omega (arith, within)) all in
      let least = front-least ds rest at digits (subst (λ (t : List ℕ). known (get_or t at 0) ≡ false) whole other) in
      let same : at ≡ length ds = omega (arith, most, least) in (
        same,
        (λ i. take (same i) (whole i)) ∙ take-append_seam ds rest,
        (λ i. drop (same i) (whole i)) ∙ drop-append_seam ds rest,
      )

  pub front-ended : (text : List ℕ) (at : ℕ) → at < length text → known (get_or text at 0) ≡ false → GoesOnWithout known (drop at text)
  front-ended [] at within other = absurd (omega arith)
  front-ended (b ∷ text) zero within other = other
  front-ended (b ∷ text) (suc at) within other = front-ended text at (omega arith) other

  front-more : (text : List ℕ) (at : ℕ) → at < length text → list_all known (take at text) ≡ true → known (get_or text at 0) ≡ true
      → list_all known (take (suc at) text) ≡ true
  front-more [] at within all one = absurd (omega arith)
  front-more (b ∷ text) zero within all one = and_from (known b) true one refl
  front-more (b ∷ text) (suc at) within all one =
      let parts = and_parts (known b) (list_all known (take at text)) all in
      and_from (known b) (list_all known (take (suc at) text)) parts.0 (front-more text at (omega arith) parts.1 one)

-- the value of digits is not less than that of the first of them
abbrev step : ℕ → ℕ → ℕ
step n b = n * 10 + (b - 48)

grows : (ds : List ℕ) (n : ℕ) → n ≤ fold step n ds
grows [] n = omega arith
grows (d ∷ ds) n = let le = grows ds (step n d) in omega (arith, le)

grows-take : (ds : List ℕ) (at n : ℕ) → fold step n (take at ds) ≤ fold step n ds
grows-take ds zero n = grows ds n
grows-take [] (suc at) n = omega arith
grows-take (d ∷ ds) (suc at) n = grows-take ds at (step n d)

-- no decimal text of two or more digits begins with 0
decimal-plain : (n : ℕ) → n < 2 ^ 32 → 1 < length (decimal n) → get_or (decimal n) 0 0 ≡ 48 → ⊥
decimal-plain zero small long first = omega (arith, long, ap (λ (t : List ℕ). length t) (decimal_digit 0 (omega arith)))
decimal-plain (suc n) small long first =
    let front = first_decimal (suc n) (omega arith) (omega (arith, small)) in omega (arith, front, first)

-- Reading a number after a space.
module _ (bound : ℕ) (few : bound ≤ 2 ^ 32) (text digits : List ℕ) (space : text ≡ 32 ∷ digits) where
  abbrev Number : ℕ → List ℕ → Type 0
  Number = BeginsWithNumber bound text

  begins : (n : ℕ) (rest : List ℕ) → Number n rest → digits ≡ decimal n ++ rest
  begins n rest number = following-byte 32 32 digits (decimal n ++ rest) (sym space ∙ number.whole)

  module _ (at n : ℕ) (value : n ≡ decimal_value (take at digits)) (all : list_all is_digit (take at digits) ≡ true) (within : at < length digits) where
    pub number-large : bound ≤ n → Finds Number None
    number-large large = reads_none Number never
      where
        never : (m : ℕ) (rest : List ℕ) → Number m rest → ⊥
        never m rest number =
            let whole = begins m rest number in
            let most = front-most is_digit digits (decimal m) rest at whole number.ended (omega (arith, within)) all in
            let front : take at digits ≡ take at (decimal m) = ap (λ (t : List ℕ). take at t) whole ∙ take-append-le at (decimal m) rest most in
            let less : decimal_value (take at (decimal m)) ≤ decimal_value (decimal m) = grows-take (decimal m) at 0 in
            let below = number.below in
            let is : decimal_value (decimal m) ≡ m = decimal_value-decimal m (omega (arith, below, few)) in
            omega (arith, large, below, value, less, is, ap decimal_value front)

    module _ (other : is_digit (get_or digits at 0) ≡ false) where
      digits-are : (m : ℕ) (rest : List ℕ) → Number m rest → (at ≡ length (decimal m)) × (take at digits ≡ decimal m) × (drop at digits ≡ rest)
      digits-are m rest number =
          front-is is_digit digits (decimal m) rest at (begins m rest number) (decimal-digits m (omega (arith, number.below, few))) number.ended within all other

      pub number-plain : n < bound → 0 < at → (at ≡ 1) ⊎ (get_or digits 0 0 ≢ 48) → Finds Number (Some (n, drop at digits))
      number-plain below some plain = record { right = right; only = only }
        where
          right : Number n (drop at digits)
          right =
              let long : length (take at digits) ≡ at = length-take-le at digits (omega (arith, within)) in
              let first : get_or (take at digits) 0 0 ≡ get_or digits 0 0 = get_or-take at digits 0 0 some in
              let word = decimal-word (take at digits) n value all (omega (arith, long, some)) (omega (arith, below, few))
              (elim plain [ inl one ↦ inl (long ∙ one) | inr other ↦ inr (λ e. other (sym first ∙ e)) ]) in
              record {
                whole = space ∙ ap (◌∷◌ 32) (sym (take-append-drop at digits) ∙ ap (λ (front : List ℕ). front ++ drop at digits) word);
                below = below;
                ended = front-ended is_digit digits at within other;
              }

          only : (m : ℕ) (rest : List ℕ) → Number m rest → ◌≡◌ {A = Option (ℕ × List ℕ)} (Some (n, drop at digits)) (Some (m, rest))
          only m rest number =
              let are = digits-are m rest number in
              let is : decimal_value (decimal m) ≡ m = decimal_value-decimal m (omega (arith, number.below, few)) in
              let same : n ≡ m = value ∙ ap decimal_value are.1 ∙ is in
              λ i. Some (same i, are.2 i)

      pub number-zero : (at ≡ 0) ⊎ ((1 < at) × (get_or digits 0 0 ≡ 48)) → Finds Number None
      number-zero other = reads_none Number never
        where
          never : (m : ℕ) (rest : List ℕ) → Number m rest → ⊥
          never m rest number =
              let are = digits-are m rest number in
              let small : m < 2 ^ 32 = omega (arith, number.below, few) in
              let some = decimal_nonempty m (omega (arith, small)) in
              elim other [
                | inl none ↦ omega (arith, none, some, are.0)
                | inr (more, first) ↦
                    decimal-plain m small (omega (arith, more, are.0))
                    (sym (ap (λ (t : List ℕ). get_or t 0 0) (begins m rest number) ∙ get_or_append_left (decimal m) rest 0 0 some) ∙ first)
              ]

-- Reading bits after a space.
module _ (most : ℕ) (text digits : List ℕ) (space : text ≡ 32 ∷ digits) where
  abbrev Bits : List Bool → List ℕ → Type 0
  Bits = BeginsWithBits most text

  bits-begin : (bits : List Bool) (rest : List ℕ) → Bits bits rest → digits ≡ bit_digits bits ++ rest
  bits-begin bits rest begin = following-byte 32 32 digits (bit_digits bits ++ rest) (sym space ∙ begin.whole)

  bits-count : (bits : List Bool) → length (bit_digits bits) ≡ length bits
  bits-count bits = length-map bits (λ bit. cond bit 49 48)

  module _ (at : ℕ) (all : list_all is_bit (take at digits) ≡ true) where
    pub bits-many : at < length digits → most ≤ at → is_bit (get_or digits at 0) ≡ true → Finds Bits None
    bits-many within many bit = reads_none Bits never
      where
        never : (bits : List Bool) (rest : List ℕ) → Bits bits rest → ⊥
        never bits rest begin =
            let more = front-more is_bit digits at within all bit in
            let le = front-most is_bit digits (bit_digits bits) rest (suc at) (bits-begin bits rest begin) begin.ended (omega (arith, within)) more in
            omega (arith, le, many, begin.few, bits-count bits)

    module _ (within : at < length digits) (other : is_bit (get_or digits at 0) ≡ false) where
      bits-are : (bits : List Bool) (rest : List ℕ) → Bits bits rest → (at ≡ length (bit_digits bits)) × (take at digits ≡ bit_digits bits) × (drop at digits ≡ rest)
      bits-are bits rest begin =
          front-is is_bit digits (bit_digits bits) rest at (bits-begin bits rest begin) (bits-digits bits) begin.ended within all other

      pub bits-nothing : at ≡ 0 → Finds Bits None
      bits-nothing none =
          reads_none Bits (λ bits rest begin. omega (arith, none, (bits-are bits rest begin).0, begin.some, bits-count bits))

      pub bits-read : (bits : List Bool) → bits ≡ map (λ d. d == 49) (take at digits) → 0 < at → at ≤ most → Finds Bits (Some (bits, drop at digits))
      bits-read bits are some few = record { right = right; only = only }
        where
          word : bit_digits bits ≡ take at digits
          word = ap bit_digits are ∙ digits-back (take at digits) all

          long : length bits ≡ at
          long = sym (bits-count bits) ∙ ap (λ (t : List ℕ). length t) word ∙ length-take-le at digits (omega (arith, within))

          right : Bits bits (drop at digits)
          right = record {
            whole = space ∙ ap (◌∷◌ 32) (sym (take-append-drop at digits) ∙ ap (λ (front : List ℕ). front ++ drop at digits) (sym word));
            some = omega (arith, long, some);
            few = omega (arith, long, few);
            ended = front-ended is_bit digits at within other;
          }

          only : (bs : List Bool) (rest : List ℕ) → Bits bs rest → ◌≡◌ {A = Option (List Bool × List ℕ)} (Some (bits, drop at digits)) (Some (bs, rest))
          only bs rest begin =
              let these = bits-are bs rest begin in
              let same : bits ≡ bs = are ∙ ap (map (λ d. d == 49)) these.1 ∙ bits-back bs in
              λ i. Some (same i, these.2 i)

-- the text of numbers, each after a space
abbrev words : List ℕ → List ℕ
words ns = flat_map (λ n. 32 ∷ decimal n) ns

words-more : (n : ℕ) (ns rest : List ℕ) → words (n ∷ ns) ++ rest ≡ 32 ∷ (decimal n ++ (words ns ++ rest))
words-more n ns rest =
    ap (λ (t : List ℕ). t ++ rest) (flat_map-cons (λ n. 32 ∷ decimal n) n ns) ∙ append_assoc (32 ∷ decimal n) (words ns) rest

-- numbers to the end of a line begin with another byte than a digit
words-ended : (ns rest : List ℕ) → GoesOnWithout is_digit (words ns ++ 10 ∷ rest)
words-ended [] rest = refl
words-ended (n ∷ ns) rest = subst (GoesOnWithout is_digit) (sym (words-more n ns (10 ∷ rest))) refl

first-apart : (a b : ℕ) (xs ys text : List ℕ) → text ≡ a ∷ xs → text ≡ b ∷ ys → a ≢ b → ⊥
first-apart a b xs ys text e f apart = apart (ap (λ (t : List ℕ). get_or t 0 0) (sym e ∙ f))

-- A set that is read in part: the whole set is the numbers so far and those that the rest begins with.
pub record IsReadTo (bound low : ℕ) (text ns rest : List ℕ) : Type 0 where
  pub into : (tail r : List ℕ) → BeginsWithSet bound low rest tail r → BeginsWithSet bound 0 text (ns ++ tail) r
  pub only :
      (all r : List ℕ) → BeginsWithSet bound 0 text all r → (tail : List ℕ) × (all ≡ ns ++ tail) × BeginsWithSet bound low rest tail r

module _ (bound low : ℕ) (text ns rest : List ℕ) (so_far : IsReadTo bound low text ns rest) where
  abbrev Set : List ℕ → List ℕ → Type 0
  Set = BeginsWithSet bound 0 text

  pub set-ended : (r : List ℕ) → after_byte 10 rest ≡ Some r → Finds Set (Some (ns, r))
  set-ended r feed = record { right = right; only = only }
    where
      right : Set ns r
      right =
          subst (λ (all : List ℕ). Set all r) (append-nil ns)
          (so_far.into [] r (record { whole = after_byte-found 10 rest r feed; ascending = tt }))

      only : (all s : List ℕ) → Set all s → ◌≡◌ {A = Option (List ℕ × List ℕ)} (Some (ns, r)) (Some (all, s))
      only all s set = by parts.0 parts.1 parts.2
        where
          parts : (tail : List ℕ) × (all ≡ ns ++ tail) × BeginsWithSet bound low rest tail s
          parts = so_far.only all s set

          by : (tail : List ℕ) → all ≡ ns ++ tail → BeginsWithSet bound low rest tail s → ◌≡◌ {A = Option (List ℕ × List ℕ)} (Some (ns, r)) (Some (all, s))
          by [] is last =
              let same : r ≡ s = following-byte 10 10 r s (sym (after_byte-found 10 rest r feed) ∙ last.whole) in
              let these : ns ≡ all = sym (append-nil ns) ∙ sym is in
              λ i. Some (these i, same i)
          by (n ∷ tail) is last =
              absurd (first-apart 10 32 r (decimal n ++ (words tail ++ 10 ∷ s)) rest (after_byte-found 10 rest r feed) (last.whole ∙ words-more n tail (10 ∷ s)) (λ e. omega (arith, e)))

  module _ (no_feed : after_byte 10 rest ≡ None) where
    -- a set that is not at its end has a next number
    next : (all r : List ℕ) → Set all r
        → (n : ℕ) × (tail : List ℕ) × (all ≡ ns ++ n ∷ tail) × (low ≤ n) × BeginsWithNumber bound rest n (words tail ++ 10 ∷ r) × IsAscending bound (n + 1) tail
    next all r set = by parts.0 parts.1 parts.2
      where
        parts : (tail : List ℕ) × (all ≡ ns ++ tail) × BeginsWithSet bound low rest tail r
        parts = so_far.only all r set

        by : (tail : List ℕ) → all ≡ ns ++ tail → BeginsWithSet bound low rest tail r
            → (n : ℕ) × (tail : List ℕ) × (all ≡ ns ++ n ∷ tail) × (low ≤ n) × BeginsWithNumber bound rest n (words tail ++ 10 ∷ r) × IsAscending bound (n + 1) tail
        by [] is last = absurd (not-there 10 rest r no_feed last.whole)
        by (n ∷ tail) is last = (
          n,
          tail,
          is,
          last.ascending.0,
          record { whole = last.whole ∙ words-more n tail (10 ∷ r); below = last.ascending.1; ended = words-ended tail r },
          last.ascending.2,
        )

    pub set-stopped : Finds (BeginsWithNumber bound rest) None → Finds Set None
    set-stopped number = reads_none Set (λ all r set.
        let more = next all r set in none-some (more.0, words more.1 ++ 10 ∷ r) (number.only more.0 (words more.1 ++ 10 ∷ r) more.4))

    module _ (n : ℕ) (after : List ℕ) (number : Finds (BeginsWithNumber bound rest) (Some (n, after))) where
      next-is : (m : ℕ) (tail r : List ℕ) → BeginsWithNumber bound rest m (words tail ++ 10 ∷ r) → (n ≡ m) × (after ≡ words tail ++ 10 ∷ r)
      next-is m tail r begin = read_same n m after (words tail ++ 10 ∷ r) (number.only m (words tail ++ 10 ∷ r) begin)

      pub set-fallen : n < low → Finds Set None
      set-fallen less = reads_none Set (λ all r set.
          let more = next all r set in omega (arith, less, more.3, (next-is more.0 more.1 r more.4).0))

      pub set-more : low ≤ n → IsReadTo bound (n + 1) text (ns ++ n ∷ []) after
      set-more least = record { into = into; only = only }
        where
          into : (tail r : List ℕ) → BeginsWithSet bound (n + 1) after tail r → Set ((ns ++ n ∷ []) ++ tail) r
          into tail r set =
              subst (λ (all : List ℕ). Set all r) (sym (append_assoc ns (n ∷ []) tail))
              (so_far.into (n ∷ tail) r (record {
                whole =
                    number.right.whole ∙ ap (λ (t : List ℕ). 32 ∷ (decimal n ++ t)) set.whole ∙ sym (words-more n tail (10 ∷ r));
                ascending = (least, number.right.below, set.ascending);
              }))

          only : (all r : List ℕ) → Set all r → (tail : List ℕ) × (all ≡ (ns ++ n ∷ []) ++ tail) × BeginsWithSet bound (n + 1) after tail r
          only all r set =
              let more = next all r set in
              let same = next-is more.0 more.1 r more.4 in (
                more.1,
                more.2 ∙ (λ i. ns ++ sym same.0 i ∷ more.1) ∙ sym (append_assoc ns (n ∷ []) more.1),
                record { whole = same.1; ascending = subst (λ (m : ℕ). IsAscending bound (m + 1) more.1) (sym same.0) more.5 },
              )

-- Reading one part after another.
module _ {A B : Type 0} (First : A → List ℕ → Type 0) (Second : List ℕ → B → List ℕ → Type 0) where
  abbrev Both : A × B → List ℕ → Type 0
  Both = BeginsWithBoth First Second

  module _ (a : A) (rest : List ℕ) (first : Finds First (Some (a, rest))) where
    second-is : (both : A × B) (r : List ℕ) → Both both r → (a ≡ both.0) × Second rest both.1 r
    second-is both r whole =
        let same = read_same a both.0 rest whole.middle (first.only both.0 whole.middle whole.first) in
        (same.0, subst (λ (t : List ℕ). Second t both.1 r) (sym same.1) whole.second)

    pub then-left : Finds (Second rest) None → Finds Both None
    then-left second = reads_none Both (λ both r whole. none-some (both.1, r) (second.only both.1 r (second-is both r whole).1))

    pub then-read : (b : B) (r : List ℕ) → Finds (Second rest) (Some (b, r)) → Finds Both (Some ((a, b), r))
    then-read b r second = record {
      right = record { middle = rest; first = first.right; second = second.right };
      only = λ both s whole.
          let found = second-is both s whole in
          let same = read_same b both.1 r s (second.only both.1 s found.1) in
          λ i. Some ((found.0 i, same.0 i), same.1 i);
    }

-- Reading lines by their first letters.
inner-text : (cost : ℕ) (numbers r : List ℕ) → node_line_text (InnerLine cost numbers) ++ 10 ∷ r ≡ 110 ∷ 32 ∷ (decimal cost ++ (words numbers ++ 10 ∷ r))
inner-text cost numbers r =
    ap (λ (t : List ℕ). 110 ∷ 32 ∷ (t ++ 10 ∷ r)) (joined-numbers (decimal cost) numbers)
    ∙ ap (λ (t : List ℕ). 110 ∷ 32 ∷ t) (append_assoc (decimal cost) (words numbers) (10 ∷ r))

chain-text : (cost : ℕ) (bits : List Bool) (side : ℕ) (numbers r : List ℕ) → node_line_text (ChainLine cost bits side numbers) ++ 10 ∷ r
    ≡ 99 ∷ 32 ∷ (decimal cost ++ 32 ∷ (bit_digits bits ++ 32 ∷ (decimal side ++ (words numbers ++ 10 ∷ r))))
chain-text cost bits side numbers r =
    let last : List ℕ = decimal side ++ words numbers in
    ap (λ (t : List ℕ). 99 ∷ 32 ∷ ((decimal cost ++ 32 ∷ (bit_digits bits ++ 32 ∷ t)) ++ 10 ∷ r)) (joined-numbers (decimal side) numbers)
    ∙ ap (λ (t : List ℕ). 99 ∷ 32 ∷ t) (append_assoc (decimal cost) (32 ∷ (bit_digits bits ++ 32 ∷ last)) (10 ∷ r))
    ∙ ap (λ (t : List ℕ). 99 ∷ 32 ∷ (decimal cost ++ 32 ∷ t)) (append_assoc (bit_digits bits) (32 ∷ last) (10 ∷ r))
    ∙ ap (λ (t : List ℕ). 99 ∷ 32 ∷ (decimal cost ++ 32 ∷ (bit_digits bits ++ 32 ∷ t))) (append_assoc (decimal side) (words numbers) (10 ∷ r))

module _ (format most count : ℕ) (text : List ℕ) where
  abbrev Line : DueLine → List ℕ → Type 0
  Line = BeginsWithLine format most count text

  -- a text that begins with one letter doesn't begin with another
  apart : (a b : ℕ) (xs ys : List ℕ) → after_byte a text ≡ Some xs → text ≡ b ∷ ys → a ≢ b → ⊥
  apart a b xs ys found is other = first-apart a b xs ys text (after_byte-found a text xs found) is other

  follows : (letter : ℕ) (xs ys : List ℕ) → after_byte letter text ≡ Some xs → text ≡ letter ∷ ys → xs ≡ ys
  follows letter xs ys found is = following-byte letter letter xs ys (sym (after_byte-found letter text xs found) ∙ is)

  module _ (no_leaf : after_byte 108 text ≡ None) where
    module _ (rest : List ℕ) (letter : after_byte 110 text ≡ Some rest) (found : Option ((ℕ × List ℕ) × List ℕ))
        (claim : Finds (BeginsWithClaim (2 ^ 32) count rest) found) where
      abbrev as_inner : (ℕ × List ℕ) × List ℕ → DueLine × List ℕ
      as_inner x = (InnerLine x.0.0 x.0.1, x.1)

      pub line-inner : Finds Line (option_map as_inner found)
      line-inner = record { right = right found claim.right; only = only }
        where
          right : (o : Option ((ℕ × List ℕ) × List ℕ)) → IfSome o (λ x. BeginsWithClaim (2 ^ 32) count rest x.0 x.1)
              → IfSome (option_map as_inner o) (λ x. Line x.0 x.1)
          right None h = tt
          right (Some x) h = record {
            whole =
                after_byte-found 110 text rest letter ∙ ap (◌∷◌ 110) (h.first.whole ∙ ap (λ (t : List ℕ). 32 ∷ (decimal x.0.0 ++ t)) h.second.whole)
                ∙ sym (inner-text x.0.0 x.0.1 x.1);
            fits = fits-line format most count (InnerLine x.0.0 x.0.1) (h.first.below, h.second.ascending);
          }

          only : (line : DueLine) (r : List ℕ) → Line line r → option_map as_inner found ≡ Some (line, r)
          only (LeafLine n) r h = absurd (not-there 108 text _ no_leaf h.whole)
          only (InnerLine cost numbers) r h =
              ap (option_map as_inner) (claim.only (cost, numbers) r (record {
                middle = words numbers ++ 10 ∷ r;
                first = record {
                  whole = follows 110 rest (32 ∷ (decimal cost ++ (words numbers ++ 10 ∷ r))) letter (h.whole ∙ inner-text cost numbers r);
                  below = (line-fits format most count (InnerLine cost numbers) h.fits).0;
                  ended = words-ended numbers r;
                };
                second = record { whole = refl; ascending = (line-fits format most count (InnerLine cost numbers) h.fits).1 };
              }))
          only (ChainLine cost bits side numbers) r h =
              absurd (apart 110 99 rest _ letter (h.whole ∙ chain-text cost bits side numbers r) (λ e. omega (arith, e)))

    module _ (no_inner : after_byte 110 text ≡ None) where
      module _ (two : format ≡ 2) (rest : List ℕ) (letter : after_byte 99 text ≡ Some rest)
          (found : Option ((ℕ × (List Bool × (ℕ × List ℕ))) × List ℕ)) (chain : Finds (BeginsWithChain most count rest) found) where
        abbrev as_chain : (ℕ × (List Bool × (ℕ × List ℕ))) × List ℕ → DueLine × List ℕ
        as_chain x = (ChainLine x.0.0 x.0.1.0 x.0.1.1.0 x.0.1.1.1, x.1)

        pub line-chain : Finds Line (option_map as_chain found)
        line-chain = record { right = right found chain.right; only = only }
          where
            right : (o : Option ((ℕ × (List Bool × (ℕ × List ℕ))) × List ℕ)) → IfSome o (λ x. BeginsWithChain most count rest x.0 x.1)
                → IfSome (option_map as_chain o) (λ x. Line x.0 x.1)
            right None h = tt
            right (Some x) h =
                let bits = h.second.first in
                let last = h.second.second in record {
                  whole =
                      after_byte-found 99 text rest letter ∙ ap (◌∷◌ 99) (h.first.whole
                      ∙ ap (λ (t : List ℕ). 32 ∷ (decimal x.0.0 ++ t)) (bits.whole
                      ∙ ap (λ (t : List ℕ). 32 ∷ (bit_digits x.0.1.0 ++ t)) (last.first.whole
                      ∙ ap (λ (t : List ℕ). 32 ∷ (decimal x.0.1.1.0 ++ t)) last.second.whole)))
                      ∙ sym (chain-text x.0.0 x.0.1.0 x.0.1.1.0 x.0.1.1.1 x.1);
                  fits =
                      fits-line format most count (ChainLine x.0.0 x.0.1.0 x.0.1.1.0 x.0.1.1.1)
                      (two, h.first.below, bits.some, bits.few, last.first.below, last.second.ascending);
                }

            only : (line : DueLine) (r : List ℕ) → Line line r → option_map as_chain found ≡ Some (line, r)
            only (LeafLine n) r h = absurd (not-there 108 text _ no_leaf h.whole)
            only (InnerLine cost numbers) r h = absurd (not-there 110 text _ no_inner (h.whole ∙ inner-text cost numbers r))
            only (ChainLine cost bits side numbers) r h =
                let last : List ℕ = words numbers ++ 10 ∷ r in
                let fits = line-fits format most count (ChainLine cost bits side numbers) h.fits in
                let path : List ℕ = 32 ∷ (bit_digits bits ++ 32 ∷ (decimal side ++ last)) in
                ap (option_map as_chain) (chain.only (cost, (bits, (side, numbers))) r (record {
                  middle = path;
                  first = record {
                    whole = follows 99 rest (32 ∷ (decimal cost ++ path)) letter (h.whole ∙ chain-text cost bits side numbers r);
                    below = fits.1;
                    ended = refl;
                  };
                  second = record {
                    middle = 32 ∷ (decimal side ++ last);
                    first = record { whole = refl; some = fits.2; few = fits.3; ended = refl };
                    second = record {
                      middle = last;
                      first = record { whole = refl; below = fits.4; ended = words-ended numbers r };
                      second = record { whole = refl; ascending = fits.5 };
                    };
                  };
                }))

pub a_bit : (d : ℕ) → (d ≡ 48) ⊎ (d ≡ 49) → is_bit d ≡ true
a_bit d (inl e) = ap is_bit e
a_bit d (inr e) = ap is_bit e

pub no_bit : (d : ℕ) → d ≢ 48 → d ≢ 49 → is_bit d ≡ false
no_bit d no_zero no_one = rw (ne_eqb d 48 no_zero, ne_eqb d 49 no_one) refl

-- A header by its name, which says its format and its version.
header-after : (format : ℕ) (version : Version) (count : ℕ) (r : List ℕ)
    → format_header (format, (version, count)) ++ 10 ∷ r ≡ header_name format version ++ 32 ∷ (decimal count ++ 10 ∷ r)
header-after format version count r =
    ap (λ (t : List ℕ). codes "flowlabel-cert" ++ 32 ∷ t) (append_assoc (format_word format) (32 ∷ (version_word version ++ 32 ∷ decimal count)) (10 ∷ r)
    ∙ ap (λ (t : List ℕ). format_word format ++ 32 ∷ t) (append_assoc (version_word version) (32 ∷ decimal count) (10 ∷ r))
    ∙ sym (append_assoc (format_word format) (32 ∷ version_word version) (32 ∷ (decimal count ++ 10 ∷ r))))

numbered-format : (n : ℕ) → IsNumbered n → (f : Format) × (n ≡ format_number f)
numbered-format n (inl one) = (One, one)
numbered-format n (inr two) = (Two, two)

pub header-none : (text : List ℕ) → ((format : Format) (version : Version) (rest : List ℕ) → text ≢ header_name (format_number format) version ++ rest)
    → Finds (BeginsWithHeader text) None
header-none text never = reads_none (BeginsWithHeader text) (λ x r h.
    let format = numbered-format x.0 (header-fits x h.fits).0 in
    let rest : List ℕ = 32 ∷ (decimal x.1.1 ++ 10 ∷ r) in
    never format.0 x.1.0 rest (h.whole ∙ header-after x.0 x.1.0 x.1.1 r ∙ ap (λ (n : ℕ). header_name n x.1.0 ++ rest) format.1))
