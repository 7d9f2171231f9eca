-- How the records of a data set are stored: their bytes, the fields of their template, and their number.
use Rattle.std.specs.Prelude.{◌≡◌, ⊤, ℕ, zero, suc, List, [], ◌∷◌, length, map, Ok, Some}
use Rattle.std.specs.Option.{option_map_or}
use Rattle.ipfix_templates.specs.declared.field.Field.{Field}
use Rattle.ipfix_templates.specs.declared.kind.Kind.{Kind}
use Rattle.ipfix_read.specs.Record.{Record, data_set_reading}
use Rattle.ipfix_templates.specs.declared.template.Template.{Template}
use Rattle.ipfix_read.specs.Value.{values_at}

-- `count` consecutive records of a kind with these fields, as far as they are complete in the bytes
unfoldable pub whole_records : Kind → List Field → ℕ → List ℕ → List Record
whole_records kind fields zero bytes = []
whole_records kind fields (suc count) bytes =
    option_map_or (λ v. record { kind = kind; fields = v.0 } ∷ whole_records kind fields count v.1)
    (values_at fields bytes) []

-- the records are at the start of the bytes, one after the other
abbrev pub AreInBytes : List Record → List ℕ → Type 0
AreInBytes [] bytes = ⊤
AreInBytes (r ∷ records) bytes =
    (rest : List ℕ) × (values_at (map (λ v. v.field) r.fields) bytes ≡ Some (r.fields, rest)) × AreInBytes records rest

-- the bytes of a data set begin with `count` records, which are all
abbrev pub ArePacked : Template → ℕ → List ℕ → ℕ → Type 0
ArePacked t offset bytes count =
    (length (whole_records t.kind t.fields count bytes) ≡ count)
    × (data_set_reading t offset bytes ≡ Ok (whole_records t.kind t.fields count bytes))
