use Rattle.std.specs.Prelude.{ℕ, ◌==◌, ◌-◌, List, [], ◌∷◌, length, take, drop, not, if◌then◌else◌, ◌≡◌, ◌≢◌}
use Rattle.std.specs.Prelude.{◌≤◌, ◌+◌, ◌&&◌, ◌||◌, Bool, true, ◌++◌, Option, Some, None, Result, Ok, Err}
use Rattle.std.specs.Prelude.{IfErr, IfOk, codes, is_some, nat_le, nat_lt, ok_or, slice_index, unwrap_or}
use Rattle.std.specs.List.{before_first, onto_first, position_or_len, suffix_len, list_all, list_any}
use Rattle.std.specs.Option.{option_map_or}
use Rattle.std.specs.Str.{bytes_eq}
use Rattle.prefix_keys.specs.Block.{block_number, last_of, width_of}
use Rattle.prefix_keys.specs.Conversion.{mapped_prefix}
use Rattle.prefix_keys.specs.Text.{AddressOf, BlockOf, address_of, block_of_text, is_digit}
use Rattle.prefix_keys.specs.declared.text.BlockFault.{BlockFault}
use Rattle.prefix_keys.specs.declared.version.Version.{Version}
use Rattle.prefix_keys.specs.declared.version.Version.TheVariants.{V4, V6}
use Rattle.pmap_model.specs.Steps.{◌>>=◌}
use Rattle.pmap_model.specs.Label.{is_blank, has_label, is_label, with_label}
use Rattle.pmap_text.specs.Declarations.{conflicts, label_number, meant_text, with_declared}
use Rattle.pmap_model.specs.ListModel.{ListModel, Prefix}
use Rattle.pmap_model.specs.MapModel.{Label, Mapping, MapModel}
use Rattle.pmap_model.specs.MapText.{map_of}
use Rattle.pmap_model.specs.declared.map_text.MapText.{MapText}
use Rattle.pmap_model.specs.PrefixList.{list_of}
use Rattle.pmap_model.specs.declared.prefix_list.PrefixList.{PrefixList}
pub use Rattle.pmap_text.specs.declared.fault.MapFault.{MapFault}
pub use Rattle.pmap_text.specs.declared.fault.MapFaultKind.{MapFaultKind}
pub use Rattle.pmap_text.specs.declared.fault.MapFaultKind.TheVariants.{BadAddress, BadLabel, BadLength, BadMode}
pub use Rattle.pmap_text.specs.declared.fault.MapFaultKind.TheVariants.{BadStatement, DuplicateBlock}
pub use Rattle.pmap_text.specs.declared.fault.MapFaultKind.TheVariants.{LabelConflict, LowAboveHigh, MissingLabel}
pub use Rattle.pmap_text.specs.declared.fault.MapFaultKind.TheVariants.{ModeLate, ModeRepeated, NoMemory}
pub use Rattle.pmap_text.specs.declared.fault.MapFaultKind.TheVariants.{NotAList, TooMany, WrongVersion}
pub use Rattle.pmap_text.specs.declared.reading.form.Form.{Form}
use Rattle.prefix_keys.specs.declared.text.BlockFault.TheVariants as block_faults
use Rattle.pmap_text.specs.declared.reading.form.Form.TheVariants as form

-- The lines of a text and the words of a line.

-- the lines of a text: it is split at each line feed, and a last piece without a line feed is a line if it isn't empty
abbrev pub lines_of : List ℕ → List (List ℕ)
lines_of [] = []
lines_of (b ∷ bs) = if b == 10 then [] ∷ lines_of bs else onto_first b (lines_of bs)

-- a text without its leading blanks
abbrev pub trim_start : List ℕ → List ℕ
trim_start text = drop (position_or_len (λ b. not (is_blank b)) text) text

-- a text without its trailing blanks
abbrev pub trim_end : List ℕ → List ℕ
trim_end text = take (length text - suffix_len is_blank text) text

-- the content of a line: the text before the first `#`, without outer blanks
abbrev pub content_of : List ℕ → List ℕ
content_of line = trim_end (trim_start (before_first (λ b. b == 35) line))

-- the first word of a line's content, and the text after it
abbrev pub first_word : List ℕ → List ℕ
first_word content = before_first is_blank content

abbrev pub after_word : List ℕ → List ℕ
after_word content = trim_start (drop (position_or_len is_blank content) content)

-- How a text is read as a map or as a prefix list, and the first fault of a text that can't be read.

-- the state of reading after some lines; the version is that of a `mode` line or of the first mapping or entry, and the
-- labels are in the order of first occurrence
pub record Earlier : Type 0 where
  pub version : Option Version
  pub name : Option Label
  pub declared : List (ℕ × Label)
  pub fallback : Option Label
  pub mappings : List Mapping
  pub prefixes : List Prefix
  pub table : List Label

-- the state before the first line
abbrev pub no_lines : Earlier
no_lines =
    record {
      version = None;
      name = None;
      declared = [];
      fallback = None;
      mappings = [];
      prefixes = [];
      table = [];
    }

-- the maximum number of mappings, and of label texts, of a text
abbrev pub mapping_limit : ℕ
mapping_limit = 1000000

abbrev pub label_limit : ℕ
label_limit = 65535

-- the rest of a line as a label, which must exist and be well formed
abbrev pub label_of : List ℕ → Result Label MapFaultKind
label_of [] = Err MissingLabel
label_of text = if is_label text then Ok text else Err BadLabel

-- a text added to the table, if there is room for what the line says, and the text is known or there is room for it
abbrev pub with_text : Bool → Label → Earlier → Result Earlier MapFaultKind
with_text room text earlier =
    if room && (has_label earlier.table text || nat_lt (length earlier.table) label_limit)
    then Ok (record earlier { table = with_label earlier.table text }) else Err TooMany

-- `map-name NAME`
abbrev pub name_line : Earlier → List ℕ → Result Earlier MapFaultKind
name_line earlier rest = label_of rest >>= (λ name. Ok (record earlier { name = Some name }))

-- the version that the word of a mode names
abbrev pub mode_version : List ℕ → Option Version
mode_version word =
    if bytes_eq word (codes "ipv4") || bytes_eq word (codes "ip") then Some V4
    else (if bytes_eq word (codes "ipv6") then Some V6 else None)

-- `mode WORD`, at most once and before the first mapping or entry
abbrev pub mode_line : Earlier → Option Version → Result Earlier MapFaultKind
mode_line earlier named = ok_or named BadMode >>= (λ version.
    if nat_lt 0 (length earlier.mappings + length earlier.prefixes) then Err ModeLate
    else (if is_some earlier.version then Err ModeRepeated
    else Ok (record earlier { version = Some version })))

-- `label NUMBER TEXT`: the text is a label that doesn't consist of digits alone, no number has two texts, and no text
-- has two numbers
abbrev pub label_line : Earlier → Option ℕ → List ℕ → Result Earlier MapFaultKind
label_line earlier named rest = ok_or named BadStatement >>= (λ number. label_of rest >>= (λ text.
    if list_all is_digit text then Err BadLabel
    else (if conflicts earlier.declared number text then Err LabelConflict
    else with_text true text
    (record earlier { declared = with_declared earlier.declared (number, text) }))))

-- `default LABEL`, which is not allowed in a list
abbrev pub default_line : Form → Earlier → List ℕ → Result Earlier MapFaultKind
default_line form.List earlier rest = Err NotAList
default_line form.Map earlier rest =
    label_of rest >>= (λ label. let text = meant_text earlier.declared label in
    with_text true text (record earlier { fallback = Some text }))

-- the addresses from low to high, followed by a label
abbrev pub span_line : Earlier → Version → ℕ → ℕ → List ℕ → Result Earlier MapFaultKind
span_line earlier version low high rest =
    label_of rest >>= (λ label. let text = meant_text earlier.declared label in
    with_text (nat_lt (length earlier.mappings) mapping_limit) text (record earlier {
      version = Some version;
      mappings = earlier.mappings ++ record { low = low; high = high; label = text } ∷ [];
    }))

-- whether there is an entry for the block of this length with this first address
abbrev pub has_prefix : List Prefix → ℕ → ℕ → Bool
has_prefix prefixes start bits = list_any (λ p. p.start == start && p.bits == bits) prefixes

-- the block of this length with this first address, followed by a label: in a map the span of its addresses, in a list
-- the block itself, which no earlier entry has
abbrev pub placed_line : Form → Earlier → Version → ℕ → ℕ → List ℕ → Result Earlier MapFaultKind
placed_line form.Map earlier version start bits rest =
    span_line earlier version start
    (last_of (width_of version) bits (block_number (width_of version) bits start)) rest
placed_line form.List earlier version start bits rest =
    label_of rest >>= (λ label. let text = meant_text earlier.declared label in
    if has_prefix earlier.prefixes start bits then Err DuplicateBlock
    else with_text (nat_lt (length earlier.prefixes) mapping_limit) text (record earlier {
      version = Some version;
      prefixes = earlier.prefixes ++ record { start = start; bits = bits; label = text } ∷ [];
    }))

-- the number of an address in a text of this version: in an IPv6 text a dotted address represents its IPv4-mapped
-- address in ::ffff:0:0/96 (RFC 4291 section 2.5.5.2), and an IPv4 text has no colon addresses
abbrev pub number_in : Version → AddressOf → Result ℕ MapFaultKind
number_in V4 (V6, value) = Err WrongVersion
number_in V6 (V4, value) = Ok (value + mapped_prefix)
number_in _ (_, value) = Ok value

-- `BLOCK LABEL`: the length grows with the width of the address
abbrev pub block_line : Form → Earlier → Result BlockOf BlockFault → List ℕ
    → Result Earlier MapFaultKind
block_line form earlier (Ok (own, first, len)) rest =
    let version = unwrap_or earlier.version own in
    number_in version (own, first)
    >>= (λ start. placed_line form earlier version start
    (len + (width_of version - width_of own)) rest)
block_line form earlier (Err block_faults.BadAddress) rest = Err BadAddress
block_line form earlier (Err block_faults.BadLength) rest = Err BadLength

-- `LOW HIGH LABEL`, which is not allowed in a list
abbrev pub range_line : Form → Earlier → AddressOf → AddressOf → List ℕ
    → Result Earlier MapFaultKind
range_line form.List earlier first second rest = Err NotAList
range_line form.Map earlier first second rest =
    let version = unwrap_or earlier.version first.0 in
    number_in version first >>= (λ low. number_in version second >>= (λ high.
    if nat_le low high then span_line earlier version low high rest else Err LowAboveHigh))

-- A line whose first word is an address: a range if a second address follows, otherwise `ADDRESS LABEL`, the block of
-- this address alone. Any other word begins no statement; it may look like an address.
abbrev pub address_line : Form → Earlier → List ℕ → Option AddressOf → List ℕ
    → Result Earlier MapFaultKind
address_line form earlier word (Some first) rest =
    option_map_or (λ second. range_line form earlier first second (after_word rest))
    (address_of (first_word rest))
    (block_line form earlier (Ok (first.0, first.1, width_of first.0)) rest)
address_line form earlier word None rest =
    Err (if is_digit (slice_index word 0) || list_any (λ b. b == 58) word then BadAddress
    else BadStatement)

-- a line with a word, by its first word and the text after it
abbrev pub statement_line : Form → Earlier → List ℕ → List ℕ → Result Earlier MapFaultKind
statement_line form earlier word rest =
    if bytes_eq word (codes "map-name") then name_line earlier rest
    else (if bytes_eq word (codes "mode") then mode_line earlier (mode_version rest)
    else (if bytes_eq word (codes "label")
    then label_line earlier (label_number (first_word rest)) (after_word rest)
    else (if bytes_eq word (codes "default") then default_line form earlier rest
    else (if list_any (λ b. b == 47) word then block_line form earlier (block_of_text word) rest
    else address_line form earlier word (address_of word) rest))))

-- the content of a line, by its words
abbrev pub content_line : Form → Earlier → List ℕ → Result Earlier MapFaultKind
content_line form earlier [] = Ok earlier
content_line form earlier content =
    statement_line form earlier (first_word content) (after_word content)

-- the state after the lines of a text, given that after the first ones, whose number is `number`; the first faulty line
-- ends the reading
abbrev pub lines_read : Form → ℕ → Result Earlier MapFaultKind → List (List ℕ)
    → Result Earlier MapFault
lines_read form number (Err kind) lines = Err (record { kind = kind; line = number })
lines_read form number (Ok earlier) [] = Ok earlier
lines_read form number (Ok earlier) (line ∷ lines) =
    lines_read form (number + 1) (content_line form earlier (content_of line)) lines

-- the label of an address that no mapping covers, if the text has no default
abbrev pub unknown : Label
unknown = codes "UNKNOWN"

-- The map, or the list, that a text is read as, or the first fault of the text with its line. Without a mode and a
-- mapping or an entry it is of version 4. A map without a default has the label UNKNOWN in its table too.
abbrev pub map_reading : List ℕ → Result MapModel MapFault
map_reading text = lines_read form.Map 0 (Ok no_lines) (lines_of text) >>= (λ lines. Ok (record {
  version = unwrap_or lines.version V4;
  name = lines.name;
  fallback = unwrap_or lines.fallback unknown;
  mappings = lines.mappings;
  table = with_label lines.table (unwrap_or lines.fallback unknown);
}))

abbrev pub list_reading : List ℕ → Result ListModel MapFault
list_reading text = lines_read form.List 0 (Ok no_lines) (lines_of text) >>= (λ l.
    Ok (record {
      version = unwrap_or l.version V4;
      name = l.name;
      prefixes = l.prefixes;
      table = l.table;
    }))

-- Below: only contracts of parts and proofs use these; no promise of the program rests on them.

-- the text is known, or there is room for one more
abbrev pub has_room : List Label → Label → Bool
has_room table text = has_label table text || nat_lt (length table) label_limit

-- the result of reading a text as a map, or as a list; a failed allocation is reported with line 0
pub record ReturnsMap (text : List ℕ) (result : Result MapText MapFault) : Type 0 where
  pub ok : IfOk result (λ map. map_reading text ≡ Ok (map_of map))
  pub fault : IfErr result (λ fault. fault.kind ≢ NoMemory → map_reading text ≡ Err fault)
  pub memory : IfErr result (λ fault. fault.kind ≡ NoMemory → fault.line ≡ 0)

pub record ReturnsList (text : List ℕ) (result : Result PrefixList MapFault) : Type 0 where
  pub ok : IfOk result (λ list. list_reading text ≡ Ok (list_of list))
  pub limit : IfOk result (λ list. length list.entries ≤ 1000000)
  pub fault : IfErr result (λ fault. fault.kind ≢ NoMemory → list_reading text ≡ Err fault)
  pub memory : IfErr result (λ fault. fault.kind ≡ NoMemory → fault.line ≡ 0)
