-- Lines that are read as the value whose text they are.
use Rattle.std.proofs.Common.{◌≡◌, ℕ, suc, zero, ◌+◌, ◌^◌, ◌<◌, ◌≤◌, ◌==◌, ◌&&◌, if◌then◌else◌, ◌∙◌, ◌⊎◌, inl, inr, Bool, true, false, not, List, [], ◌∷◌, ◌++◌, Option, None, Some, Result, Ok, Err, cond, length, map, refl, sym, ap, subst, arith, codes}
use Rattle.std.specs.Fmt.{decimal}
use Rattle.std.specs.List.{AllByRecursion, join_with_byte, list_all}
use Rattle.std.specs.Str.{bytes_eq}
use Rattle.std.proofs.lemmas.Bool.{and_from, and_parts, cond-true, eq-eqb, eqb-true, le-leb, leb-true, lt-ltb, ltb-true, ne_eqb, or_cases}
use Rattle.std.proofs.lemmas.List.Elements.{All-append}
use Rattle.std.proofs.lemmas.List.Splits.{join_with_byte-slice_split, slice_split_at, slice_split_none}
use Rattle.std.proofs.lemmas.Option.{cond_some, none-some}
use Rattle.std.proofs.lemmas.Slice.Eq.{bytes_eq-Decides}
use Rattle.prefix_keys.proofs.Printed.{Lacks}
use Rattle.prefix_keys.specs.Text.{decimal_value}
use Rattle.prefix_keys.specs.declared.version.Version.{Version}
use Rattle.prefix_keys.specs.declared.version.Version.TheVariants.{V4, V6}
use Rattle.pmap_cert.specs.CertificateText.{IsAscending, bit_digits, format_header}
use Rattle.pmap_cert.specs.FormatReading.{ChainLine, DueLine, InnerLine, LeafLine, Place, fault_at, fits_header, fits_line, is_ended, likely_header, likely_line, line_due_at, node_line_text, pieces_of, printed_at, line_value, CertFault, CertFaultKind, BadNode, NodesMissing}
use Rattle.pmap_cert.specs.Inner.{BeginsWithLineOf, Finds}
use Rattle.pmap_cert.proofs.ChainWords.{Lacks-bits, bits-back}
use Rattle.pmap_cert.proofs.Headers.{Lacks-line, Lacks-tested}
use Rattle.pmap_cert.proofs.Numbers.{Lacks-decimal, Lacks-decimals, ascending-passed, ascending-test, decimal_value-decimal, values-decimals}
use Rattle.pmap_cert.proofs.Pieces.{words_of, split_some, words-line}
use Rattle.pmap_cert.proofs.Tables.{or_fault, value_at-again, value_at-found}

abbrev at : ℕ → List (List ℕ) → Place
at number pieces = record { number = number; pieces = pieces }

module _ {A : Type 0} (fits : A → Bool) (text_of : A → List ℕ) (likely : List (List ℕ) → A) where
  abbrev pub value_of : List ℕ → Option A
  value_of line = let x = likely (words_of line) in if fits x && bytes_eq line (text_of x) then Some x else None

  pub value-found : (line : List ℕ) (x : A) → value_of line ≡ Some x → (line ≡ text_of x) × (fits x ≡ true)
  value-found line x e =
      let found = cond_some (fits (likely (words_of line)) && bytes_eq line (text_of (likely (words_of line)))) (likely (words_of line)) x e in
      let tests = and_parts _ _ found.0 in
      subst (λ (y : A). (line ≡ text_of y) × (fits y ≡ true)) found.1 ((bytes_eq-Decides line (text_of (likely (words_of line)))).0 tests.1, tests.0)

  pub printed-found : (kind : CertFaultKind) (place : Place) (x : A × Place) → printed_at kind fits text_of likely place ≡ Ok x
      → (place.pieces ≡ text_of x.0 ∷ x.1.pieces) × (fits x.0 ≡ true)
  printed-found kind place x e =
      let found = value_at-found kind value_of place x e in
      let value = value-found found.0 x.0 found.2 in
      (found.1 ∙ ap (λ (line : List ℕ). line ∷ x.1.pieces) value.0, value.1)

  -- the text of a value that fits has no line feed, and its words are those of no other value that fits
  module _ (lacks : (x : A) → fits x ≡ true → Lacks 10 (text_of x)) (back : (x : A) → fits x ≡ true → likely (words_of (text_of x)) ≡ x) where
    pub value-again : (x : A) → fits x ≡ true → value_of (text_of x) ≡ Some x
    value-again x h =
        ap (λ (y : A). if fits y && bytes_eq (text_of x) (text_of y) then Some y else None) (back x h)
        ∙ cond-true (fits x && bytes_eq (text_of x) (text_of x)) (Some x) None (and_from _ _ h ((bytes_eq-Decides (text_of x) (text_of x)).1 refl))

    pub printed-again : (kind : CertFaultKind) (x : A) (number : ℕ) (rest : List (List ℕ)) → fits x ≡ true → 0 < length rest
        → printed_at kind fits text_of likely (at number (text_of x ∷ rest)) ≡ Ok (x, at (number + 1) rest)
    printed-again kind x number rest h some = value_at-again kind value_of number (text_of x) rest x (value-again x h) some

    module _ (kind : CertFaultKind) (number : ℕ) (text : List ℕ) where
      abbrev found : Result (A × Place) CertFault
      found = printed_at kind fits text_of likely (at number (pieces_of text))

      -- a text is read as the value with whose text and a line feed it begins, and otherwise has a fault
      pub there : (x : A) (rest : List ℕ) → BeginsWithLineOf fits text_of text x rest → found ≡ Ok (x, at (number + 1) (pieces_of rest))
      there x rest begins =
          ap (λ (pieces : List (List ℕ)). printed_at kind fits text_of likely (at number pieces))
          (ap pieces_of begins.whole ∙ slice_split_at (λ b. b == 10) (text_of x) 10 rest (lacks x begins.fits) (eq-eqb 10 10 refl))
          ∙ printed-again kind x number (pieces_of rest) begins.fits (split_some (λ b. b == 10) rest)

      abbrev missing : CertFault
      missing = fault_at (at number (pieces_of text)) kind

      pub nowhere : Finds (BeginsWithLineOf fits text_of text) None → found ≡ Err missing
      nowhere none = by (pieces_of text) refl
        where
          by : (pieces : List (List ℕ)) → pieces_of text ≡ pieces → line_value kind value_of (at number pieces) ≡ Err missing
          by [] is = refl
          by (line ∷ []) is = refl
          by (line ∷ piece ∷ pieces) is = by_value (value_of line) refl
            where
              by_value : (o : Option A) → value_of line ≡ o → or_fault missing (at (number + 1) (piece ∷ pieces)) (value_of line) ≡ Err missing
              by_value None e = ap (or_fault missing (at (number + 1) (piece ∷ pieces))) e
              by_value (Some x) e =
                  let value = value-found line x e in
                  absurd (none-some _ (none.only x (join_with_byte 10 (piece ∷ pieces)) (record {
                    whole =
                        sym (join_with_byte-slice_split 10 text) ∙ ap (join_with_byte 10) is
                        ∙ ap (λ (t : List ℕ). t ++ 10 ∷ join_with_byte 10 (piece ∷ pieces)) value.0;
                    fits = value.1;
                  })))

-- A header.

abbrev pub IsNumbered : ℕ → Type 0
IsNumbered format = (format ≡ 1) ⊎ (format ≡ 2)

-- the format, the version and the number of labels of a header
abbrev pub Said : Type 0
Said = ℕ × (Version × ℕ)

pub header-fits : (x : Said) → fits_header x ≡ true → IsNumbered x.0 × (x.1.1 ≤ 65536)
header-fits x h =
    let parts = and_parts _ _ h in
    let few = leb-true x.1.1 65536 parts.1 in
    elim (or_cases (x.0 == 1) (x.0 == 2) parts.0) [
      | inl one ↦ (inl (eqb-true x.0 1 one), few)
      | inr two ↦ (inr (eqb-true x.0 2 two), few)
    ]

pub fits-header : (format : ℕ) (version : Version) (count : ℕ) → IsNumbered format → count ≤ 65536 → fits_header (format, (version, count)) ≡ true
fits-header format version count (inl e) few = subst (λ (f : ℕ). fits_header (f, (version, count)) ≡ true) (sym e) (le-leb count 65536 few)
fits-header format version count (inr e) few = subst (λ (f : ℕ). fits_header (f, (version, count)) ≡ true) (sym e) (le-leb count 65536 few)

-- what holds of headers of both formats and both versions holds of those that fit
header-cases : (P : Said → Type 0) → ((count : ℕ) → count ≤ 65536 → P (1, (V4, count)) × P (1, (V6, count)) × P (2, (V4, count)) × P (2, (V6, count)))
    → (x : Said) → fits_header x ≡ true → P x
header-cases P each x h = by x.1.0 (header-fits x h).0
  where
    these : P (1, (V4, x.1.1)) × P (1, (V6, x.1.1)) × P (2, (V4, x.1.1)) × P (2, (V6, x.1.1))
    these = each x.1.1 (header-fits x h).1

    by : (version : Version) → IsNumbered x.0 → P (x.0, (version, x.1.1))
    by V4 (inl e) = subst (λ (f : ℕ). P (f, (V4, x.1.1))) (sym e) these.0
    by V6 (inl e) = subst (λ (f : ℕ). P (f, (V6, x.1.1))) (sym e) these.1
    by V4 (inr e) = subst (λ (f : ℕ). P (f, (V4, x.1.1))) (sym e) these.2
    by V6 (inr e) = subst (λ (f : ℕ). P (f, (V6, x.1.1))) (sym e) these.3

-- the text of a header has no line feed, and its words are those of no other header
pub header-read : (x : Said) → fits_header x ≡ true → Lacks 10 (format_header x) × (likely_header (words_of (format_header x)) ≡ x)
header-read = header-cases (λ x. Lacks 10 (format_header x) × (likely_header (words_of (format_header x)) ≡ x)) (λ count few. (
  (lacks count few (codes "flowlabel-cert 1 ipv4 ") refl, back count few (codes "1") (codes "ipv4")),
  (lacks count few (codes "flowlabel-cert 1 ipv6 ") refl, back count few (codes "1") (codes "ipv6")),
  (lacks count few (codes "flowlabel-cert 2 ipv4 ") refl, back count few (codes "2") (codes "ipv4")),
  (lacks count few (codes "flowlabel-cert 2 ipv6 ") refl, back count few (codes "2") (codes "ipv6")),
))
  where
    lacks : (count : ℕ) → count ≤ 65536 → (front : List ℕ) → list_all (λ b. not (b == 10)) front ≡ true → Lacks 10 (front ++ decimal count)
    lacks count few front passed =
        All-append (λ b. (b == 10) ≡ false) front (decimal count) (Lacks-tested 10 front passed) (Lacks-decimal 10 count (omega arith) (omega (arith, few)))

    back : (count : ℕ) → count ≤ 65536 → (format version : List ℕ) → likely_header (codes "flowlabel-cert" ∷ format ∷ version ∷ words_of (decimal count))
        ≡ (decimal_value format, (cond (bytes_eq version (codes "ipv4")) V4 V6, count))
    back count few format version =
        ap (λ (words : List (List ℕ)). likely_header (codes "flowlabel-cert" ∷ format ∷ version ∷ words))
        (slice_split_none (λ b. b == 32) (decimal count) (Lacks-decimal 32 count (omega arith) (omega (arith, few))))
        ∙ ap (λ (n : ℕ). (decimal_value format, (cond (bytes_eq version (codes "ipv4")) V4 V6, n))) (decimal_value-decimal count (omega (arith, few)))

-- A node's line.

-- its words
abbrev line_words : DueLine → List ℕ × List (List ℕ)
line_words (LeafLine number) = (codes "l", decimal number ∷ [])
line_words (InnerLine cost numbers) = (codes "n", decimal cost ∷ map decimal numbers)
line_words (ChainLine cost bits side numbers) = (codes "c", decimal cost ∷ bit_digits bits ∷ decimal side ∷ map decimal numbers)

text-words : (line : DueLine) → node_line_text line ≡ join_with_byte 32 ((line_words line).0 ∷ (line_words line).1)
text-words (LeafLine number) = refl
text-words (InnerLine cost numbers) = refl
text-words (ChainLine cost bits side numbers) = refl

-- the line fits a certificate of this format with `count` labels for addresses of `most` bits
abbrev pub FitsLine : ℕ → ℕ → ℕ → DueLine → Type 0
FitsLine format most count (LeafLine number) = number < count
FitsLine format most count (InnerLine cost numbers) = (cost < 2 ^ 32) × IsAscending count 0 numbers
FitsLine format most count (ChainLine cost bits side numbers) =
    (format ≡ 2) × (cost < 2 ^ 32) × (0 < length bits) × (length bits ≤ most) × (side < count) × IsAscending count 0 numbers

module _ (format most count : ℕ) where
  abbrev pub Passes : DueLine → Type 0
  Passes line = fits_line format most count line ≡ true

  pub fits-line : (line : DueLine) → FitsLine format most count line → Passes line
  fits-line (LeafLine number) h = lt-ltb number count h
  fits-line (InnerLine cost numbers) h = and_from _ _ (lt-ltb cost (2 ^ 32) h.0) (ascending-test count 0 numbers h.1)
  fits-line (ChainLine cost bits side numbers) h =
      and_from _ _ (eq-eqb format 2 h.0) (and_from _ _ (lt-ltb cost (2 ^ 32) h.1) (and_from _ _ (le-leb 1 (length bits) h.2)
      (and_from _ _ (le-leb (length bits) most h.3) (and_from _ _ (lt-ltb side count h.4) (ascending-test count 0 numbers h.5)))))

  pub line-fits : (line : DueLine) → Passes line → FitsLine format most count line
  line-fits (LeafLine number) h = ltb-true number count h
  line-fits (InnerLine cost numbers) h =
      let parts = and_parts _ _ h in (ltb-true cost (2 ^ 32) parts.0, ascending-passed count 0 numbers parts.1)
  line-fits (ChainLine cost bits side numbers) h =
      let a = and_parts _ _ h in
      let b = and_parts _ _ a.1 in
      let c = and_parts _ _ b.1 in
      let d = and_parts _ _ c.1 in
      let e = and_parts _ _ d.1 in
      (eqb-true format 2 a.0, ltb-true cost (2 ^ 32) b.0, leb-true 1 (length bits) c.0, leb-true (length bits) most d.0, ltb-true side count e.0, ascending-passed count 0 numbers e.1)

  module _ (few : count ≤ 2 ^ 32) where
    -- no word of a line has a byte below the digits
    module _ (c : ℕ) (low : c < 48) where
      other : (b : ℕ) → 48 ≤ b → (b == c) ≡ false
      other b high = ne_eqb b c (λ e. omega (arith, e, low, high))

      letter : (b : ℕ) → 48 ≤ b → Lacks c (b ∷ [])
      letter b high zero d h = other b high
      letter b high (suc k) d h = absurd (omega arith)

      words-lack : (line : DueLine) → FitsLine format most count line → Lacks c (line_words line).0 × AllByRecursion (Lacks c) (line_words line).1
      words-lack (LeafLine number) h = (letter 108 (omega arith), (Lacks-decimal c number low (omega (arith, h, few)), tt))
      words-lack (InnerLine cost numbers) h = (
        letter 110 (omega arith),
        (Lacks-decimal c cost low (omega (arith, h.0)), Lacks-decimals c count 0 numbers low (omega (arith, few)) h.1),
      )
      words-lack (ChainLine cost bits side numbers) h = (
        letter 99 (omega arith),
        (
          Lacks-decimal c cost low (omega (arith, h.1)),
          (
            Lacks-bits c bits (other 48 (omega arith)) (other 49 (omega arith)),
            (Lacks-decimal c side low (omega (arith, h.4, few)), Lacks-decimals c count 0 numbers low (omega (arith, few)) h.5),
          ),
        ),
      )

    pub line-lacks : (line : DueLine) → Passes line → Lacks 10 (node_line_text line)
    line-lacks line h =
        subst (Lacks 10) (sym (text-words line))
        (Lacks-line 10 ((line_words line).0 ∷ (line_words line).1) refl (words-lack 10 (omega arith) line (line-fits line h)))

    likely-again : (line : DueLine) → FitsLine format most count line → likely_line ((line_words line).0 ∷ (line_words line).1) ≡ line
    likely-again (LeafLine number) h = ap LeafLine (decimal_value-decimal number (omega (arith, h, few)))
    likely-again (InnerLine cost numbers) h =
        λ i. InnerLine (decimal_value-decimal cost (omega (arith, h.0)) i) (values-decimals count 0 numbers (omega (arith, few)) h.1 i)
    likely-again (ChainLine cost bits side numbers) h =
        λ i. ChainLine (decimal_value-decimal cost (omega (arith, h.1)) i) (bits-back bits i) (decimal_value-decimal side (omega (arith, h.4, few)) i)
        (values-decimals count 0 numbers (omega (arith, few)) h.5 i)

    pub line-back : (line : DueLine) → Passes line → likely_line (words_of (node_line_text line)) ≡ line
    line-back line h =
        let fits = line-fits line h in
        let lack = words-lack 32 (omega arith) line fits in
        ap (λ (text : List ℕ). likely_line (words_of text)) (text-words line)
        ∙ ap likely_line (words-line (line_words line).0 (line_words line).1 lack.0 lack.1) ∙ likely-again line fits

    -- a line that fits is read from its text
    pub due-again : (line : DueLine) (number : ℕ) (rest : List (List ℕ)) → FitsLine format most count line → 0 < length rest
        → line_due_at format most count (at number (node_line_text line ∷ rest)) ≡ Ok (line, at (number + 1) rest)
    due-again line number rest h some =
        printed-again (fits_line format most count) node_line_text likely_line line-lacks line-back (cond (is_ended (node_line_text line ∷ rest)) NodesMissing BadNode)
        line number rest (fits-line line h) some
