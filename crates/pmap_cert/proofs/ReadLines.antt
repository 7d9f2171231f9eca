-- What the printed lines of a list say, read as a list and read as a map.
use Rattle.std.proofs.Common.{List, ◌≡◌, ℕ, ◌+◌, ◌-◌, ◌<◌, ◌≤◌, ◌==◌, ◌∙◌, true, false, [], ◌∷◌, ◌++◌, All, Option, Some, None, Result, Ok, codes, length, nat_le, option_and_then, unwrap_or, refl, ap, subst, arith}
use Rattle.std.specs.Fmt.{decimal}
use Rattle.std.specs.List.{list_any}
use Rattle.std.specs.Option.{option_map_or}
use Rattle.std.specs.Str.{bytes_eq}
use Rattle.std.proofs.lemmas.Bool.{both_ways, false_from_ne_true, leb-true}
use Rattle.std.proofs.lemmas.List.Elements.{All-weaker}
use Rattle.std.proofs.lemmas.List.Sums.{AllPass-from_list_all}
use Rattle.std.proofs.lemmas.Grind.{common_steps}
use Rattle.std.proofs.lemmas.List.{length-append}
use Rattle.std.proofs.lemmas.Slice.Eq.{bytes_eq-Decides}
use Rattle.prefix_keys.specs.Print.{address_text, block_text}
use Rattle.prefix_keys.specs.Text.{BlockOf, block_of_text}
use Rattle.prefix_keys.specs.Block.{width_of}
use Rattle.prefix_keys.specs.declared.block.Block.{Block}
use Rattle.prefix_keys.specs.declared.text.BlockFault.{BlockFault}
use Rattle.prefix_keys.specs.declared.version.Version.{Version}
use Rattle.prefix_keys.specs.declared.version.Version.TheVariants.{V4, V6}
use Rattle.prefix_keys.proofs.ReadBack.{block_is_read_back}
use Rattle.pmap_text.specs.Declarations.{declared_text, label_number, meant_text}
use Rattle.pmap_model.specs.Label.{is_label, with_label}
use Rattle.pmap_text.specs.Reading.{after_word, content_of, first_word, Earlier, block_line, content_line, label_of, no_lines, number_in, placed_line, statement_line}
use Rattle.pmap_model.specs.ListModel.{Prefix}
use Rattle.pmap_model.specs.MapModel.{Label}
use Rattle.pmap_text.specs.declared.reading.form.Form.{Form}
use Rattle.pmap_text.specs.declared.reading.form.Form.TheVariants as form
use Rattle.pmap_cert.proofs.LastMatch.{mapping_of_prefix}
use Rattle.pmap_cert.specs.CertificateText.{version_word}
use Rattle.pmap_cert.specs.ListText.{entry_line, IsPrintedEntry}
use Rattle.prefix_keys.proofs.Groups.{width-le}
use Rattle.pmap_cert.proofs.WordLines.{high-block, line-after_word, line-content, line-first_word}

-- the lines of a list's text before those of its entries
abbrev pub name_lines : Option Label → List (List ℕ)
name_lines name = option_map_or (λ name. (codes "map-name" ++ 32 ∷ name) ∷ []) name []

abbrev pub mode_text : Version → List ℕ
mode_text version = codes "mode" ++ 32 ∷ version_word version

-- a line of a word and a label is read by its words
content-word : (kind : Form) (earlier : Earlier) (text : List ℕ) → 0 < length text
    → content_line kind earlier text ≡ statement_line kind earlier (first_word text) (after_word text)
content-word kind earlier [] some = absurd (omega (arith, some))
content-word kind earlier (b ∷ bs) some = refl

pub word-line : (kind : Form) (earlier : Earlier) (word label : List ℕ) → 0 < length word → All (λ b. 45 ≤ b) word → is_label label ≡ true
    → content_line kind earlier (content_of (word ++ 32 ∷ label)) ≡ statement_line kind earlier word label
word-line kind earlier word label some high is =
    ap (content_line kind earlier) (line-content word label some high is)
    ∙ content-word kind earlier (word ++ 32 ∷ label) (omega (arith, some, length-append word (32 ∷ label)))
    ∙ ap (λ w. statement_line kind earlier w (after_word (word ++ 32 ∷ label))) (line-first_word word label some high is)
    ∙ ap (statement_line kind earlier word) (line-after_word word label some high is)

-- a label is read as itself if no number is declared
pub label_of-label : (label : Label) → is_label label ≡ true → label_of label ≡ Ok label
label_of-label [] is = absurd (both_ways false refl is)
label_of-label (b ∷ bs) is = rw is refl

meant-number : (label : Label) (number : Option ℕ) → unwrap_or (option_and_then (declared_text []) number) label ≡ label
meant-number label None = refl
meant-number label (Some number) = refl

pub meant-label : (label : Label) → meant_text [] label ≡ label
meant-label label = meant-number label (label_number label)

-- the line of the name
pub name-high : All (λ b. 45 ≤ b) (codes "map-name")
name-high =
    All-weaker (λ b. nat_le 45 b ≡ true) (λ b. 45 ≤ b) (λ b h. leb-true 45 b h) (codes "map-name")
    (AllPass-from_list_all (nat_le 45) (codes "map-name") refl)

pub name-entry : (kind : Form) (earlier : Earlier) (name : Label) → is_label name ≡ true
    → content_line kind earlier (content_of (codes "map-name" ++ 32 ∷ name)) ≡ Ok (record earlier { name = Some name })
name-entry kind earlier name is =
    word-line kind earlier (codes "map-name") name (omega arith) name-high is ∙ rw (label_of-label name is) refl

-- the line of the version, the first or after that of the name
pub mode-entry : (kind : Form) (name : Option Label) (version : Version)
    → content_line kind (record no_lines { name = name }) (content_of (mode_text version)) ≡ Ok (record no_lines { name = name; version = Some version })
mode-entry form.Map name V4 = refl
mode-entry form.Map name V6 = refl
mode-entry form.List name V4 = refl
mode-entry form.List name V6 = refl

-- the block of an entry's line
slash-in : (front back : List ℕ) → list_any (λ b. b == 47) (front ++ 47 ∷ back) ≡ true
slash-in front back = grind (arith, common_steps)

other-word : (word other : List ℕ) → list_any (λ b. b == 47) word ≡ true → list_any (λ b. b == 47) other ≡ false → bytes_eq word other ≡ false
other-word word other has lacks =
    false_from_ne_true (bytes_eq word other)
    (λ same. let e : word ≡ other = (bytes_eq-Decides word other).0 same in
    both_ways (list_any (λ b. b == 47) other) lacks (subst (λ (w : List ℕ). list_any (λ b. b == 47) w ≡ true) e has))

block-statement : (kind : Form) (earlier : Earlier) (word label : List ℕ) → list_any (λ b. b == 47) word ≡ true
    → statement_line kind earlier word label ≡ block_line kind earlier (block_of_text word) label
block-statement kind earlier word label has =
    rw (
      other-word word (codes "map-name") has refl,
      other-word word (codes "mode") has refl,
      other-word word (codes "label") has refl,
      other-word word (codes "default") has refl,
      has,
    ) refl

module _ (version : Version) (p : Prefix) (is : IsPrintedEntry version p) where
  abbrev block : Block
  block = record {
    version = version;
    value = p.start;
    len = p.bits;
    len_in_range = is.0.bits;
    in_range = is.0.start;
    no_host_bit = is.0.no_host_bit;
  }

  read-block : block_of_text (block_text version p.start p.bits) ≡ Ok (version, p.start, p.bits)
  read-block = block_is_read_back block

own-number : (version : Version) (start : ℕ) → number_in version (version, start) ≡ Ok start
own-number V4 start = refl
own-number V6 start = refl

own-block : (kind : Form) (earlier : Earlier) (version : Version) (start bits : ℕ) (rest : List ℕ) → earlier.version ≡ Some version
    → block_line kind earlier (Ok (version, start, bits)) rest ≡ placed_line kind earlier version start bits rest
own-block kind earlier version start bits rest decided =
    let same : bits + (width_of version - width_of version) ≡ bits = omega arith in
    rw (decided, own-number version start, same) refl

-- the state after the line of an entry
abbrev pub entered : Form → Version → Prefix → Earlier → Earlier
entered form.List version p earlier = record earlier {
  version = Some version;
  prefixes = earlier.prefixes ++ p ∷ [];
  table = with_label earlier.table p.label;
}
entered form.Map version p earlier = record earlier {
  version = Some version;
  mappings = earlier.mappings ++ mapping_of_prefix (width_of version) p ∷ [];
  table = with_label earlier.table p.label;
}

-- the line of an entry is read as its block and its label
pub placed-entry : (kind : Form) (earlier : Earlier) (version : Version) (p : Prefix) → IsPrintedEntry version p → earlier.version ≡ Some version
    → content_line kind earlier (content_of (entry_line version p)) ≡ placed_line kind earlier version p.start p.bits p.label
placed-entry kind earlier version p is decided =
    let word = block_text version p.start p.bits in
    word-line kind earlier word p.label
    (omega (arith, length-append (address_text version p.start) (47 ∷ decimal p.bits)))
    (high-block version p.start p.bits (omega (arith, width-le version, is.0.bits))) is.1
    ∙ block-statement kind earlier word p.label (slash-in (address_text version p.start) (decimal p.bits))
    ∙ ap (λ (r : Result BlockOf BlockFault). block_line kind earlier r p.label) (read-block version p is)
    ∙ own-block kind earlier version p.start p.bits p.label decided
