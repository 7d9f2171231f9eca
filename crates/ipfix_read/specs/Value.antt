-- The values of a data record (RFC 7011 sections 3.4.3 and 7).
use Rattle.std.specs.Prelude.{◌≡◌, false, ℕ, List, [], ◌∷◌, length, take, drop, Option, Some}
use Rattle.std.specs.Prelude.{None, option_and_then, option_map, nat_lt, if◌then◌else◌}
use Rattle.std.specs.Option.{option_map_or}
use Rattle.byteorder.specs.Endian.{big_number}
use Rattle.ipfix_templates.specs.declared.field.Field.{Field}
use Rattle.ipfix_templates.specs.Field.{is_variable}

-- a value with its field's specifier, without how it is stored
pub record FieldValueView : Type 0 where
  pub field : Field
  pub value : List ℕ

-- the given number of bytes at the start, and the bytes after them
abbrev pub bytes_at : ℕ → List ℕ → Option (List ℕ × List ℕ)
bytes_at count bytes =
    if nat_lt (length bytes) count then None else Some (take count bytes, drop count bytes)

-- a length in one byte below 255, or in the two bytes after a byte 255, followed by the value
abbrev pub variable_at : List ℕ → Option (List ℕ × List ℕ)
variable_at [] = None
variable_at (first ∷ bytes) =
    if nat_lt first 255 then bytes_at first bytes
    else (if nat_lt (length bytes) 2 then None else bytes_at (big_number 2 bytes) (drop 2 bytes))

-- the value of a field, and the bytes after it
unfoldable pub value_at : Field → List ℕ → Option (List ℕ × List ℕ)
value_at field bytes = if is_variable field then variable_at bytes else bytes_at field.length bytes

-- the values of these fields, in order, and the bytes after them
unfoldable pub values_at : List Field → List ℕ → Option (List FieldValueView × List ℕ)
values_at [] bytes = Some ([], bytes)
values_at (field ∷ fields) bytes =
    option_and_then (λ v. option_map (λ vs. (record { field = field; value = v.0 } ∷ vs.0, vs.1))
    (values_at fields v.1)) (value_at field bytes)

-- Below: only contracts of parts and proofs use these; no promise of the program rests on them.

-- the value of a field of fixed length has that length
abbrev pub IsValueOf : Field → List ℕ → Type 0
IsValueOf field value = is_variable field ≡ false → length value ≡ field.length

-- the bytes after runs of bytes, each followed by a value of variable length, and after a last run
abbrev pub after_runs : List ℕ → ℕ → List ℕ → Option (List ℕ)
after_runs [] last bytes = option_map (λ f. f.1) (bytes_at last bytes)
after_runs (run ∷ runs) last bytes =
    option_and_then (λ f. option_and_then (λ v. after_runs runs last v.1) (variable_at f.1)) (bytes_at run bytes)

-- the values of these fields, in order, as far as they are complete in the bytes
unfoldable pub whole_values : List Field → List ℕ → List FieldValueView
whole_values [] bytes = []
whole_values (field ∷ fields) bytes =
    option_map_or (λ v. record { field = field; value = v.0 } ∷ whole_values fields v.1) (value_at field bytes) []
