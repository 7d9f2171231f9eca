-- Field specifiers (RFC 7011 section 3.2), and the lengths of field values.
use Rattle.std.specs.Prelude.{ℕ, List, Bool, Option, sum_by, ◌==◌, if◌then◌else◌}

-- a specifier: the enterprise number if the enterprise bit is 1, the number of the element, and the length
pub record FieldView : Type 0 where
  pub enterprise : Option ℕ
  pub number : ℕ
  pub length : ℕ

-- whether the length is variable (section 7)
abbrev pub is_variable : FieldView → Bool
is_variable f = f.length == 65535

-- the minimum number of bytes of a record of these fields: their fixed lengths, and one byte for each variable length
abbrev pub least_length : List FieldView → ℕ
least_length fields = sum_by (λ f. if is_variable f then 1 else f.length) fields
