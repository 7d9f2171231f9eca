-- The information elements of a flow row, in the record's own direction and in the reverse one (RFC 5103).
use Rattle.std.specs.Prelude.{ℕ, Bool, false, Option, Some, None, find, nat_eq, nat_le, ◌==◌, ◌&&◌}
use Rattle.std.specs.Option.{option_eq, option_map_or}
use Rattle.ipfix_templates.specs.Field.{FieldView}
use Rattle.ipfix_templates.specs.declared.layout.TheConstants.{ELEMENTS, REVERSE}

-- the element belongs to a row, and a field of it may have this length
unfoldable pub fits : ℕ → ℕ → Bool
fits number len =
    option_map_or (λ e. nat_le e.1.0 len && nat_le len e.1.1)
    (find (λ e. e.0 == number) ELEMENTS) false

-- the enterprise number of the elements of the record's own direction, which is missing, and of the reverse direction
-- (RFC 5103 section 6.1)
abbrev pub forward : Option ℕ
forward = None

abbrev pub back : Option ℕ
back = Some REVERSE

-- a field is usable for the element with this number in a direction: it has the element's number and the direction's
-- enterprise number, and its length fits the element
abbrev pub is_usable : Option ℕ → ℕ → FieldView → Bool
is_usable direction number f =
    (f.number == number) && (option_eq nat_eq f.enterprise direction && fits number f.length)
