use Rattle.std.specs.Prelude.{◌≡◌, ℕ, zero, suc, ◌^◌, ◌<◌, ◌==◌, ◌++◌, ◌+◌, ◌-◌, ◌*◌, ◌/◌, ◌%◌, Bool, true, false, List}
use Rattle.std.specs.Prelude.{[], ◌∷◌, Option, Some, None, IsTrue, length, take, drop, nat_lt}
use Rattle.std.specs.Prelude.{option_and_then, option_copied, option_map, position, unwrap_or, if◌then◌else◌}
use Rattle.std.specs.Coded.{Coded-set, Unit-prop, coded_bool, coded_list, coded_ℕ, le_prop}
use Rattle.std.specs.Int.{w16, w32, w64, from_be_bytes, to_be_bytes}
use Rattle.std.specs.List.{AllByRecursion, AllByRecursion-prop, flat_map}
use Rattle.std.specs.Option.{option_map_or}
use Rattle.std.specs.Str.{bytes_eq}
use Rattle.prefix_keys.specs.Block.{width_of}
use Rattle.prefix_keys.specs.declared.version.Version.TheVariants.{V4, V6}
use Rattle.pmap_model.specs.Label.{is_label}
use Rattle.flow_uniq.specs.declared.codec.KeyPart.{KeyPart}
use Rattle.flow_uniq.specs.declared.codec.KeyPart.TheVariants as part
use Rattle.flow_uniq.specs.Key.{Key, KeyPartModel, AddressPart, NumberPart}
use Rattle.flow_uniq.specs.Key.{LabelPart, TimePart, Precision, Day, Hour, Minute}
use Rattle.flow_uniq.specs.Times.{precision_number}

-- How keys are stored: as bytes that are in the order of keys.

-- a part of a key
abbrev pub part_model : KeyPart → KeyPartModel
part_model (part.Address addr) = AddressPart (addr.version, addr.value)
part_model (part.Number number) = NumberPart number
part_model (part.LargeNumber number) = NumberPart number
part_model (part.Label label) = LabelPart (option_copied label)
part_model (part.Time number precision) = TimePart precision number

-- a number of two bytes, or a larger one, as bytes
abbrev pub number_code : Bool → ℕ → List ℕ
number_code true number = 2 ∷ to_be_bytes w16 number
number_code false number = 3 ∷ to_be_bytes w32 number

-- A part as bytes, which begin with its kind. Numbers have their highest byte first. A label, or an empty text if there
-- is no label, is followed by a 0, since no label contains one. A time has one more than its number, or 0 if the
-- number is missing.
abbrev pub part_code : KeyPartModel → List ℕ
part_code (AddressPart (V4, value)) = 0 ∷ to_be_bytes w32 value
part_code (AddressPart (V6, value)) = 1 ∷ to_be_bytes w64 (value / 2 ^ 64) ++ to_be_bytes w64 (value % 2 ^ 64)
part_code (NumberPart number) = number_code (nat_lt number 65536) number
part_code (LabelPart label) = 4 ∷ unwrap_or label [] ++ 0 ∷ []
part_code (TimePart precision number) = 5 ∷ precision_number precision ∷ to_be_bytes w64 (option_map_or suc number 0)

abbrev pub key_code : Key → List ℕ
key_code key = flat_map part_code key

abbrev pub same_code : Key → Key → Bool
same_code a b = bytes_eq (key_code a) (key_code b)

-- numbers fit in these bytes, and labels are well formed
abbrev pub IsSmall : KeyPartModel → Type 0
IsSmall (AddressPart address) = address.1 < 2 ^ width_of address.0
IsSmall (NumberPart number) = number < 2 ^ 32
IsSmall (LabelPart None) = Unit {0}
IsSmall (LabelPart (Some text)) = IsTrue (is_label text)
IsSmall (TimePart precision None) = Unit {0}
IsSmall (TimePart precision (Some number)) = number + 1 < 2 ^ 64

abbrev pub AreSmall : Key → Type 0
AreSmall key = AllByRecursion IsSmall key

-- the given number of bytes at the start and those after them, if there are as many
abbrev pub front_bytes : ℕ → List ℕ → Option (List ℕ × List ℕ)
front_bytes count code = if nat_lt (length code) count then None else Some (take count code, drop count code)

-- the label before the first 0, and the bytes after that 0
abbrev pub front_label : List ℕ → Option (Option (List ℕ) × List ℕ)
front_label code =
    option_map (λ count. (if count == 0 then None else Some (take count code), drop (count + 1) code))
    (position (λ b. b == 0) code)

-- how exact a time with this byte is
abbrev pub precision_at : ℕ → Precision
precision_at byte = if byte == 0 then Day else if byte == 1 then Hour else Minute

-- the number that has this one after it, if there is one
abbrev pub number_before : ℕ → Option ℕ
number_before number = if number == 0 then None else Some (number - 1)

-- the time before other bytes, and those bytes
abbrev pub front_time : List ℕ → Option (KeyPartModel × List ℕ)
front_time [] = None
front_time (byte ∷ code) =
    option_map (λ c. (TimePart (precision_at byte) (number_before (from_be_bytes w64 c.0)), c.1)) (front_bytes 8 code)

-- the part at the start of bytes, and the bytes after it
abbrev pub first_part : List ℕ → Option (KeyPartModel × List ℕ)
first_part [] = None
first_part (kind ∷ code) =
    if kind == 0 then option_map (λ c. (AddressPart (V4, from_be_bytes w32 c.0), c.1)) (front_bytes 4 code)
    else if kind == 1 then option_and_then (λ high. option_map (λ low.
    (AddressPart (V6, from_be_bytes w64 high.0 * 2 ^ 64 + from_be_bytes w64 low.0), low.1))
    (front_bytes 8 high.1)) (front_bytes 8 code)
    else if kind == 2 then option_map (λ c. (NumberPart (from_be_bytes w16 c.0), c.1)) (front_bytes 2 code)
    else if kind == 3 then option_map (λ c. (NumberPart (from_be_bytes w32 c.0), c.1)) (front_bytes 4 code)
    else if kind == 5 then front_time code
    else option_map (λ c. (LabelPart c.0, c.1)) (front_label code)

-- the parts that the bytes encode, up to a maximum number
abbrev pub parts_in : ℕ → List ℕ → Key
parts_in zero code = []
parts_in (suc most) code = option_map_or (λ p. p.0 ∷ parts_in most p.1) (first_part code) []

-- the key in bytes
abbrev pub key_in : List ℕ → Key
key_in code = parts_in (length code) code

-- the bytes are those of the key that they encode
pub record IsCode (code : List ℕ) : Type 0 where
  pub small : AreSmall (key_in code)
  pub same : code ≡ key_code (key_in code)

IsSmall-prop : (p : KeyPartModel) → IsProp (IsSmall p)
IsSmall-prop (AddressPart address) = le_prop
IsSmall-prop (NumberPart number) = le_prop
IsSmall-prop (LabelPart None) = Unit-prop
IsSmall-prop (LabelPart (Some text)) = Coded-set coded_bool _ _
IsSmall-prop (TimePart precision None) = Unit-prop
IsSmall-prop (TimePart precision (Some number)) = le_prop

pub IsCode-prop : (code : List ℕ) → IsProp (IsCode code)
IsCode-prop code = λ x y i. record {
  small = AllByRecursion-prop IsSmall IsSmall-prop (key_in code) x.small y.small i;
  same = Coded-set (coded_list coded_ℕ) code (key_code (key_in code)) x.same y.same i;
}
