use Rattle.std.specs.Prelude.{◌≡◌, ◌≢◌, ◌+◌, ◌≤◌, ◌||◌, ◌&&◌, ◌==◌, ◌⊎◌, All, length, ℕ, Bool, true}
use Rattle.std.specs.Prelude.{false, if◌then◌else◌, List, [], ◌∷◌, ◌++◌, Option, Some, None, Result}
use Rattle.std.specs.Prelude.{Ok, Err, IfErr, IfOk, OnErr, OnOk, flat_map, slice_get, take, unwrap_or}
use Rattle.std.specs.List.{list_any, IsDistinct}
use Rattle.std.specs.Option.{option_map_or}
use Rattle.std.specs.Ordering.{is_eq, nat_cmp, ordering_then}
use Rattle.std.specs.declared.cmp.Ordering.{Ordering}
use Rattle.std.specs.Char.{is_ascii_hexdigit}
use Rattle.std.specs.Global.{Vec}
use Rattle.prefix_keys.specs.Block.{width_of}
use Rattle.prefix_keys.specs.Text.{AddressOf, address_of, block_of_text, is_digit}
use Rattle.prefix_keys.specs.declared.version.Version.TheVariants.{V4}
use Rattle.pmap_model.specs.Label.{is_blank, with_label}
use Rattle.pmap_model.specs.ListModel.{ListModel, Prefix, same_start_and_bits}
use Rattle.pmap_model.specs.MapModel.{Label, MapModel}
pub use Rattle.pmap_text.specs.declared.reading.leading.Word.{Word}
pub use Rattle.pmap_text.specs.declared.reading.leading.Word.TheVariants.{Address}
use Rattle.pmap_text.specs.declared.reading.leading.Word.TheVariants.{Block as block_word}
use Rattle.pmap_text.specs.Declarations.{meant_text}
use Rattle.pmap_text.specs.Reading.{after_word, block_line, lines_of, lines_read, no_lines}
use Rattle.pmap_text.specs.Reading.{range_line, unknown, Earlier, MapFault, MapFaultKind}
use Rattle.pmap_text.specs.Reading.{DuplicateBlock, NoMemory, Form, has_prefix, has_room}
use Rattle.pmap_text.specs.declared.reading.form.Form.TheVariants.{Map as map_form}

-- Prefixes of a text, for the contracts of private functions. Callers of the crate need not read them.

abbrev pub is_address_byte : ℕ → Bool
is_address_byte b = is_ascii_hexdigit b || (b == 46 || b == 58)

abbrev pub is_dotted_byte : ℕ → Bool
is_dotted_byte b = is_digit b || b == 46

pub record BeginsWithBlank (text : List ℕ) : Type 0 where
  pub blank : ℕ
  pub rest : List ℕ
  pub whole : text ≡ blank ∷ rest
  pub is : is_blank blank ≡ true

abbrev pub IsWord : List ℕ → Word → Type 0
IsWord word (Address addr) =
    (address_of word ≡ Some (addr.version, addr.value)) × (list_any (λ b. b == 47) word ≡ false)
IsWord word (block_word block) =
    (block_of_text word ≡ Ok (block.version, block.value, block.len)) × (list_any (λ b. b == 47) word ≡ true)

-- Steps of the reading of a line, and of a text.

-- a line that begins with an address, and with a second one if there is one
abbrev pub one_or_two : Form → Earlier → AddressOf → Option AddressOf → List ℕ → Result Earlier MapFaultKind
one_or_two form earlier first second rest =
    option_map_or (λ second. range_line form earlier first second (after_word rest))
    second (block_line form earlier (Ok (first.0, first.1, width_of first.0)) rest)

-- the state after the lines of a text
abbrev pub text_read : Form → List ℕ → Result Earlier MapFault
text_read form text = lines_read form 0 (Ok no_lines) (lines_of text)

-- the map, and the list, of a whole text
abbrev pub map_from : Earlier → MapModel
map_from lines = record {
  version = unwrap_or lines.version V4;
  name = lines.name;
  fallback = unwrap_or lines.fallback unknown;
  mappings = lines.mappings;
  table = with_label lines.table (unwrap_or lines.fallback unknown);
}

abbrev pub list_from : Earlier → ListModel
list_from lines =
    record { version = unwrap_or lines.version V4; name = lines.name; prefixes = lines.prefixes; table = lines.table }

-- How a repeated block is found. This is private, and callers of the crate need not read it.

abbrev pub HasDistinctKeys : List Prefix → Type 0
HasDistinctKeys prefixes = IsDistinct same_start_and_bits prefixes

abbrev pub key_cmp : ℕ × ℕ → ℕ × ℕ → Ordering
key_cmp x y = ordering_then (nat_cmp x.0 y.0) (nat_cmp x.1 y.1)

abbrev pub has_key : List (ℕ × ℕ) → ℕ × ℕ → Bool
has_key keys k = list_any (λ q. is_eq (key_cmp k q)) keys

-- no entry has the block of an earlier one, or the one at this index is the first that has
abbrev pub IsFirstRepeat : List Prefix → Option ℕ → Type 0
IsFirstRepeat ps None = HasDistinctKeys ps
IsFirstRepeat ps (Some i) =
    (p : Prefix) × (slice_get ps i ≡ Some p) × HasDistinctKeys (take i ps)
    × (has_prefix (take i ps) p.start p.bits ≡ true)

-- the line added no entry, or one, which is refused if its block has one already
abbrev pub TakesLine : Earlier → Earlier → Result Earlier MapFaultKind → Type 0
TakesLine old new line =
    ((line ≡ Ok new) × (new.prefixes ≡ old.prefixes))
    ⊎ ((p : Prefix) × (new.prefixes ≡ old.prefixes ++ p ∷ [])
    × (line ≡ (if has_prefix old.prefixes p.start p.bits then Err DuplicateBlock else Ok new)))

-- a line without a fault is refused only if an allocation fails
abbrev pub refusal_of : Result Earlier MapFaultKind → MapFaultKind
refusal_of (Ok new) = NoMemory
refusal_of (Err kind) = kind

-- the result of reading a line: it is taken, or refused, and then no entry is added
pub record ReadsLine (old new : Earlier) (line : Result Earlier MapFaultKind)
    (result : Result (Unit {0}) MapFaultKind) : Type 0 where
  pub ok : OnOk result (TakesLine old new line)
  pub err : IfErr result (λ kind. kind ≡ refusal_of line)
  pub kept : OnErr result (new.prefixes ≡ old.prefixes)

abbrev pub has_label_room : Earlier → Bool → Label → Bool
has_label_room earlier room label = room && has_room earlier.table (meant_text earlier.declared label)

-- the lines of this text are read, after `before` others that led to the state `old`, with this result: it may depend
-- on the lines that follow the text
abbrev pub ReadsTo : Form → Earlier → ℕ → List ℕ → (List (List ℕ) → Result Earlier MapFault) → Type 0
ReadsTo form old before text result =
    (more : List (List ℕ)) → lines_read form before (Ok old) (lines_of text ++ more) ≡ result more

-- The lines of a text were read up to a fault, except for repeated blocks, or until there were more entries than the
-- limit. If the last entry of these lines is then the first with the block of an earlier one, it is the first fault. No
-- line of a map adds an entry.
pub record HasRead (form : Form) (old : Earlier) (before : ℕ) (text : List ℕ) (limit : ℕ) (reading : Earlier)
    (result : Result ℕ MapFault) : Type 0 where
  pub ok : IfOk result (λ number. limit ≡ 18446744073709551615 → HasDistinctKeys reading.prefixes
      → ReadsTo form old before text (λ more. lines_read form number (Ok reading) more))
  pub number : IfOk result (λ number. number ≤ before + length text)
  pub map : form ≡ map_form → old.prefixes ≡ [] → reading.prefixes ≡ []
  pub repeat : IfOk result (λ number. IsFirstRepeat reading.prefixes (Some limit)
      → ReadsTo form old before text (λ _. Err (record { kind = DuplicateBlock; line = number })))
  pub err : IfErr result (λ fault. HasDistinctKeys reading.prefixes → fault.kind ≢ NoMemory
      → ReadsTo form old before text (λ _. Err fault))
  pub memory : IfErr result (λ fault. fault.kind ≡ NoMemory → fault.line ≡ 0)

-- Texts in pieces.

-- the last byte is a line feed
abbrev pub EndsLine : List ℕ → Type 0
EndsLine text = (front : List ℕ) × (text ≡ front ++ 10 ∷ [])

abbrev pub AreEnded : List (Vec ℕ) → Type 0
AreEnded pieces = All (λ p. EndsLine p.items) pieces

-- the text of these pieces and the last one
abbrev pub text_in : List (Vec ℕ) → List ℕ → List ℕ
text_in pieces last = flat_map (λ p. p.items) pieces ++ last
