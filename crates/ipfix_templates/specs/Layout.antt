-- Where the numbers of rows are in records with the same fields. This is private. A record's values alone specify its
-- rows, and callers need not read this file.
use Rattle.std.specs.Prelude.{ℕ, ◌+◌, List, [], ◌∷◌, Bool, true, false, not, Option}
use Rattle.std.specs.Prelude.{Some, None, option_map, ◌==◌, ◌&&◌, if◌then◌else◌}
use Rattle.ipfix_templates.specs.Field.{FieldView, is_variable}
use Rattle.ipfix_templates.specs.Elements.{back, forward, is_usable}
use Rattle.ipfix_templates.specs.Template.{Flow, Kind, Options}
use Rattle.ipfix_templates.specs.declared.layout.Place.{Place}
use Rattle.ipfix_templates.specs.declared.layout.Places.{Places}
use Rattle.ipfix_templates.specs.declared.layout.RowLayout.{RowLayout}

-- the place of an element of a direction: that of the value of the first usable field, after `skips` variable values
-- and `offset` bytes; a missing one has no length
abbrev pub place_of_element : Option ℕ → ℕ → ℕ → ℕ → List FieldView → Place
place_of_element direction number skips offset [] = record { offset = 0; skips = 0; length = 0 }
place_of_element direction number skips offset (f ∷ fs) =
    if is_usable direction number f then record { offset = offset; skips = skips; length = f.length }
    else (if is_variable f then place_of_element direction number (skips + 1) 0 fs
    else place_of_element direction number skips (offset + f.length) fs)

abbrev pub is_there : Place → Bool
is_there p = not (p.length == 0)

abbrev pub place_or : Place → Place → Place
place_or p q = if is_there p then p else q

-- the places of the first row, between the places of two addresses
abbrev pub places_between : Bool → Place → Place → (ℕ → Place) → Places
places_between is_v4 src dst at = record {
  src = src;
  dst = dst;
  sport = at 7;
  dport = at 11;
  protocol = at 4;
  flags = at 6;
  in_if = at 10;
  out_if = at 14;
  vlan = place_or (at 58) (at 243);
  src_as = at 16;
  dst_as = at 17;
  packets = place_or (at 2) (at 86);
  octets = place_or (at 1) (at 85);
  start_ms = at 152;
  end_ms = at 153;
  is_v4 = is_v4;
}

-- the places of the first row, if there are both addresses of a version
abbrev pub first_places : (ℕ → Place) → Option Places
first_places at =
    if is_there (at 8) && is_there (at 12) then Some (places_between true (at 8) (at 12) at)
    else (if is_there (at 27) && is_there (at 28) then Some (places_between false (at 27) (at 28) at) else None)

-- the places of the second row, given those of the first and of the elements of the reverse direction
abbrev pub second_places : Places → (ℕ → Place) → Places
second_places first at = record {
  src = first.dst;
  dst = first.src;
  sport = first.dport;
  dport = first.sport;
  protocol = first.protocol;
  flags = at 6;
  in_if = first.out_if;
  out_if = first.in_if;
  vlan = first.vlan;
  src_as = first.dst_as;
  dst_as = first.src_as;
  packets = place_or (at 2) (at 86);
  octets = place_or (at 1) (at 85);
  start_ms = place_or (at 152) first.start_ms;
  end_ms = place_or (at 153) first.end_ms;
  is_v4 = first.is_v4;
}

-- the places of both rows of flow records with these fields, if they have rows
unfoldable pub flow_layout : List FieldView → Option RowLayout
flow_layout fields =
    option_map (λ first.
    record { first = first; second = second_places first (λ number. place_of_element back number 0 0 fields) })
    (first_places (λ number. place_of_element forward number 0 0 fields))

-- the places of both rows of records of this kind with these fields, if they have rows
abbrev pub layout_of : Kind → List FieldView → Option RowLayout
layout_of Flow fields = flow_layout fields
layout_of Options fields = None
