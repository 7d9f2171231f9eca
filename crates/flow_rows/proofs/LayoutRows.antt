-- The rows at the places of a layout are those of the record's values.
use Rattle.std.proofs.Common.{◌≡◌, get_or, suc, ◌∙◌, ℕ, ◌+◌, ◌≤◌, All, Bool, true, false, cond, List, [], ◌∷◌, length, Option, Some, None, is_some, refl, sym, ap, subst, arith}
use Rattle.std.specs.Prelude.{◌&&◌, ◌||◌, ◌==◌, count_by, option_and_then, option_map, unwrap_or}
use Rattle.std.specs.List.{flat_map}
use Rattle.std.specs.Option.{option_or, option_to_list}
use Rattle.std.proofs.lemmas.Bool.{and_parts}
use Rattle.std.proofs.lemmas.List.{length-append}
use Rattle.std.proofs.lemmas.List.Elements.{All-head, All-tail}
use Rattle.std.proofs.lemmas.List.Sums.{sum_by-cons}
use Rattle.prefix_keys.specs.declared.version.Version.TheVariants.{V4, V6}
use Rattle.ipfix_templates.proofs.Choice.{some_is}
use Rattle.ipfix_templates.specs.Elements.{back, forward}
use Rattle.ipfix_templates.specs.declared.field.Field.{Field as FieldView}
use Rattle.ipfix_templates.specs.declared.layout.Place.{Place}
use Rattle.ipfix_templates.specs.declared.layout.Places.{Places}
use Rattle.ipfix_templates.specs.declared.layout.RowLayout.{RowLayout}
use Rattle.ipfix_templates.specs.Layout.{first_places, flow_layout, is_there, layout_of, place_of_element, place_or, places_between, second_places}
use Rattle.ipfix_templates.specs.Runs.{runs_from}
use Rattle.ipfix_templates.specs.Template.{same_kind}
use Rattle.ipfix_templates.specs.declared.kind.Kind.{Kind}
use Rattle.ipfix_templates.specs.declared.kind.Kind.TheVariants.{Flow, Options}
use Rattle.ipfix_read.specs.Value.{FieldValueView, values_at}
use Rattle.ipfix_read.specs.declared.record.Record.{Record}
use Rattle.flow_rows.specs.Elements.{RowView, element, either, first_row, row_back, row_between, row_of_elements, rows_of_record, second_row}
use Rattle.flow_rows.specs.Inner.{AreUsable, IsWithin, number_there, row_at, version_of}
use Rattle.flow_rows.proofs.Reading.{none_there, said_there, within_record}
use Rattle.flow_rows.proofs.Usable.{IsListed, fields_of, length-place, there-place}

-- one of two numbers
either_is : (num : Place → ℕ) (p q : Place) (said : Option ℕ) → num p ≡ unwrap_or said 0 → is_there p ≡ is_some said
    → num (place_or p q) ≡ unwrap_or said (num q)
either_is num p q None is there = rw there refl
either_is num p q (Some x) is there = rw there is

both_missing : (a b : Option ℕ) → unwrap_or a (unwrap_or b 0) ≡ unwrap_or (option_or a b) 0
both_missing None b = refl
both_missing (Some x) b = refl

abbrev layout_with : (ℕ → Place) → Places → RowLayout
layout_with at first = record { first = first; second = second_places first at }

-- places at which numbers are read that are said of elements
module _ (num : Place → ℕ) where
  -- the place is that of a number which may be missing
  abbrev IsOf : Place → Option ℕ → Type 0
  IsOf p said = (num p ≡ unwrap_or said 0) × (is_there p ≡ is_some said)

  either_of : (p q : Place) (a b : Option ℕ) → IsOf p a → IsOf q b → num (place_or p q) ≡ unwrap_or (option_or a b) 0
  either_of p q a b of_p of_q = either_is num p q a of_p.0 of_p.1 ∙ ap (unwrap_or a) of_q.0 ∙ both_missing a b

  module _ (at : ℕ → Place) (said : ℕ → Option ℕ) (of : (number : ℕ) → IsOf (at number) (said number)) where
    between_is : (is_v4 : Bool) (src dst : Place) (a b : Option ℕ) → IsOf src a → IsOf dst b
        → option_map (λ places. row_at places num) (cond (is_there src && is_there dst) (Some (places_between is_v4 src dst at)) None)
        ≡ row_between (version_of is_v4) a b said
    between_is is_v4 src dst None b of_src of_dst = rw (of_src.1) refl
    between_is is_v4 src dst (Some x) None of_src of_dst = rw (of_src.1, of_dst.1) refl
    between_is is_v4 src dst (Some x) (Some y) of_src of_dst =
        rw (of_src.1, of_dst.1)
        (λ i. Some (record {
          version = version_of is_v4;
          src = of_src.0 i;
          dst = of_dst.0 i;
          sport = (of 7).0 i;
          dport = (of 11).0 i;
          protocol = (of 4).0 i;
          flags = (of 6).0 i;
          in_if = (of 10).0 i;
          out_if = (of 14).0 i;
          vlan = either_of (at 58) (at 243) (said 58) (said 243) (of 58) (of 243) i;
          src_as = (of 16).0 i;
          dst_as = (of 17).0 i;
          packets = either_of (at 2) (at 86) (said 2) (said 86) (of 2) (of 86) i;
          octets = either_of (at 1) (at 85) (said 1) (said 85) (of 1) (of 85) i;
          start_ms = (of 152).0 i;
          end_ms = (of 153).0 i;
        }))

    one_or_other : (c : Bool) (x : Places) (more : Option Places)
        → option_map (λ places. row_at places num) (cond c (Some x) more)
        ≡ option_or (option_map (λ places. row_at places num) (cond c (Some x) None)) (option_map (λ places. row_at places num) more)
    one_or_other true x more = refl
    one_or_other false x more = refl

    first_is : option_map (λ places. row_at places num) (first_places at) ≡ row_of_elements said
    first_is =
        one_or_other (is_there (at 8) && is_there (at 12)) (places_between true (at 8) (at 12) at)
        (cond (is_there (at 27) && is_there (at 28)) (Some (places_between false (at 27) (at 28) at)) None)
        ∙ (λ i.
        option_or (between_is true (at 8) (at 12) (said 8) (said 12) (of 8) (of 12) i)
        (between_is false (at 27) (at 28) (said 27) (said 28) (of 27) (of 28) i))

    -- the second row of places, if there are packets
    abbrev second_at : Places → Option RowView
    second_at places = cond (num places.packets == 0) None (Some (row_at places num))

    back_is : (first : Places) → second_at (second_places first at) ≡ row_back said (row_at first num)
    back_is first =
        let packets = either_of (at 2) (at 86) (said 2) (said 86) (of 2) (of 86) in
        λ i. cond (packets i == 0) None (Some (record {
          version = version_of first.is_v4;
          src = num first.dst;
          dst = num first.src;
          sport = num first.dport;
          dport = num first.sport;
          protocol = num first.protocol;
          flags = (of 6).0 i;
          in_if = num first.out_if;
          out_if = num first.in_if;
          vlan = num first.vlan;
          src_as = num first.dst_as;
          dst_as = num first.src_as;
          packets = packets i;
          octets = either_of (at 1) (at 85) (said 1) (said 85) (of 1) (of 85) i;
          start_ms = either_is num (at 152) first.start_ms (said 152) (of 152).0 (of 152).1 i;
          end_ms = either_is num (at 153) first.end_ms (said 153) (of 153).0 (of 153).1 i;
        }))

-- ---- the lengths at places

within_either : (most size : ℕ) (p q : Place) → IsWithin most size p → IsWithin most size q → IsWithin most size (place_or p q)
within_either most size p q is also =
    elim (is_there p) as (λ b. IsWithin most size (cond b p q)) [
      | true ↦ is
      | false ↦ also
    ]

-- in records with these bytes
module _ (fields : List FieldView) (bytes : List ℕ) (x : List FieldValueView × List ℕ) (read : values_at fields bytes ≡ Some x) where
  abbrev size : ℕ
  size = length bytes

  abbrev place_at : Option ℕ → ℕ → Place
  place_at direction number = place_of_element direction number 0 0 fields

  -- the length of a number that there is, and of any
  is_long : (direction : Option ℕ) (number size : ℕ) → ((place_at direction number).length ≤ size) × (is_there (place_at direction number) ≡ true → size ≤ (place_at direction number).length)
      → is_there (place_at direction number) ≡ true → (place_at direction number).length ≡ size
  is_long direction number size within there = omega (arith, within.0, within.1 there)

  most : (direction : Option ℕ) (number : ℕ) (range : ℕ × ℕ) → IsListed number range → IsWithin range.1 size (place_at direction number)
  most direction number range listed = record {
    short = (length-place direction number 0 0 range fields listed).0;
    within = λ none. omega (arith, within_record direction number 0 fields bytes x read none);
  }

  usable_between : (is_v4 : Bool) (src dst : Place) → IsWithin (cond is_v4 4 16) size src → IsWithin (cond is_v4 4 16) size dst → src.length ≡ cond is_v4 4 16 → dst.length ≡ cond is_v4 4 16
      → AreUsable size (places_between is_v4 src dst (place_at forward))
  usable_between is_v4 src dst within also of_src of_dst = record {
    src = within;
    dst = also;
    src_is = of_src;
    dst_is = of_dst;
    sport = most forward 7 (1, 2) refl;
    dport = most forward 11 (1, 2) refl;
    protocol = most forward 4 (1, 1) refl;
    flags = most forward 6 (1, 2) refl;
    in_if = most forward 10 (1, 4) refl;
    out_if = most forward 14 (1, 4) refl;
    vlan = within_either 2 size (place_at forward 58) (place_at forward 243) (most forward 58 (1, 2) refl) (most forward 243 (1, 2) refl);
    src_as = most forward 16 (1, 4) refl;
    dst_as = most forward 17 (1, 4) refl;
    packets = within_either 8 size (place_at forward 2) (place_at forward 86) (most forward 2 (1, 8) refl) (most forward 86 (1, 8) refl);
    octets = within_either 8 size (place_at forward 1) (place_at forward 85) (most forward 1 (1, 8) refl) (most forward 85 (1, 8) refl);
    start_ms = most forward 152 (8, 8) refl;
    end_ms = most forward 153 (8, 8) refl;
  }

  usable_second : (first : Places) → AreUsable size first → AreUsable size (second_places first (place_at back))
  usable_second first usable = record {
    src = usable.dst;
    dst = usable.src;
    src_is = usable.dst_is;
    dst_is = usable.src_is;
    sport = usable.dport;
    dport = usable.sport;
    protocol = usable.protocol;
    flags = most back 6 (1, 2) refl;
    in_if = usable.out_if;
    out_if = usable.in_if;
    vlan = usable.vlan;
    src_as = usable.dst_as;
    dst_as = usable.src_as;
    packets = within_either 8 size (place_at back 2) (place_at back 86) (most back 2 (1, 8) refl) (most back 86 (1, 8) refl);
    octets = within_either 8 size (place_at back 1) (place_at back 85) (most back 1 (1, 8) refl) (most back 85 (1, 8) refl);
    start_ms = within_either 8 size (place_at back 152) first.start_ms (most back 152 (8, 8) refl) usable.start_ms;
    end_ms = within_either 8 size (place_at back 153) first.end_ms (most back 153 (8, 8) refl) usable.end_ms;
  }

  of_first : (first : Places) → first_places (place_at forward) ≡ Some first → AreUsable size first
  of_first first found =
      let at = place_at forward in
      elim (is_there (at 8) && is_there (at 12)) as (λ b. (is_there (at 8) && is_there (at 12)) ≡ b
      → cond b (Some (places_between true (at 8) (at 12) at))
      (cond (is_there (at 27) && is_there (at 28)) (Some (places_between false (at 27) (at 28) at)) None) ≡ Some first
      → AreUsable size first) [
        | true ↦ λ both is.
            let parts = and_parts (is_there (at 8)) (is_there (at 12)) both in
            subst (AreUsable size) (some_is _ _ is)
            (usable_between true (at 8) (at 12) (most forward 8 (4, 4) refl) (most forward 12 (4, 4) refl)
            (is_long forward 8 4 (length-place forward 8 0 0 (4, 4) fields refl) parts.0)
            (is_long forward 12 4 (length-place forward 12 0 0 (4, 4) fields refl) parts.1))
        | false ↦ λ _.
            elim (is_there (at 27) && is_there (at 28)) as (λ b. (is_there (at 27) && is_there (at 28)) ≡ b
            → cond b (Some (places_between false (at 27) (at 28) at)) None ≡ Some first → AreUsable size first) [
              | true ↦ λ both is.
                  let parts = and_parts (is_there (at 27)) (is_there (at 28)) both in
                  subst (AreUsable size) (some_is _ _ is)
                  (usable_between false (at 27) (at 28) (most forward 27 (16, 16) refl) (most forward 28 (16, 16) refl)
                  (is_long forward 27 16 (length-place forward 27 0 0 (16, 16) fields refl) parts.0)
                  (is_long forward 28 16 (length-place forward 28 0 0 (16, 16) fields refl) parts.1))
              | false ↦ λ _ is. absurd (cc)
            ]
            refl
      ]
      refl found

  then_usable : (first : Option Places) → ((p : Places) → first ≡ Some p → AreUsable size p) → (l : RowLayout)
      → option_map (layout_with (place_at back)) first ≡ Some l
      → AreUsable size l.first × AreUsable size l.second
  then_usable None each l is = absurd (cc)
  then_usable (Some first) each l is =
      let usable = each first refl in
      subst (λ (l : RowLayout). AreUsable size l.first × AreUsable size l.second) (some_is _ _ is) (usable, usable_second first usable)

  pub layout_usable : (kind : Kind) (l : RowLayout) → layout_of kind fields ≡ Some l → AreUsable size l.first × AreUsable size l.second
  unfolding flow_layout
  layout_usable Flow l found = then_usable (first_places (place_at forward)) of_first l found
  layout_usable Options l found = absurd (cc)

-- ---- a record whose kind, fields and runs are these, with its bytes

module _ (r : Record) (kind : Kind) (kind_is : kind ≡ r.kind) (fields : List FieldView) (runs bytes : List ℕ) (same : fields ≡ fields_of r.fields)
    (runs_are : runs ≡ runs_from 0 fields) (read : (rest : List ℕ) × (values_at (fields_of r.fields) bytes ≡ Some (r.fields, rest))) where
  abbrev num : Place → ℕ
  num p = number_there p runs bytes

  abbrev at : Option ℕ → ℕ → Place
  at direction number = place_of_element direction number 0 0 fields

  of : (direction : Option ℕ) (number : ℕ) → IsOf num (at direction number) (element direction r.fields number)
  of direction number =
      rw (runs_are, same) (said_there direction number (fields_of r.fields) bytes r.fields read.0 read.1, there-place direction number 0 0 r.fields)

  -- the rows at the places of a layout
  abbrev first_at : RowLayout → RowView
  first_at l = row_at l.first num

  abbrev back_at : RowLayout → Option RowView
  back_at l = cond (num l.second.packets == 0) None (Some (row_at l.second num))

  to_first : (first : Option Places) → option_map first_at (option_map (layout_with (at back)) first) ≡ option_map (λ places. row_at places num) first
  to_first None = refl
  to_first (Some first) = refl

  then_back : (first : Option Places) → option_and_then back_at (option_map (layout_with (at back)) first)
      ≡ option_and_then (row_back (element back r.fields)) (option_map first_at (option_map (layout_with (at back)) first))
  then_back None = refl
  then_back (Some first) = back_is num (at back) (element back r.fields) (of back) first

  first_of_kind : (kind : Kind) → option_map first_at (layout_of kind fields) ≡ cond (same_kind kind Flow) (row_of_elements (element forward r.fields)) None
  unfolding flow_layout
  first_of_kind Flow = to_first (first_places (at forward)) ∙ first_is num (at forward) (element forward r.fields) (of forward)
  first_of_kind Options = refl

  back_of_kind : (kind : Kind) → option_and_then back_at (layout_of kind fields)
      ≡ option_and_then (row_back (element back r.fields)) (option_map first_at (layout_of kind fields))
  unfolding flow_layout
  back_of_kind Flow = then_back (first_places (at forward))
  back_of_kind Options = refl

  first_there : option_map first_at (layout_of kind fields) ≡ first_row r
  first_there = first_of_kind kind ∙ ap (λ (k : Kind). cond (same_kind k Flow) (row_of_elements (element forward r.fields)) None) kind_is

  pub usable : (l : RowLayout) → Some l ≡ layout_of kind fields → AreUsable (length bytes) l.first × AreUsable (length bytes) l.second
  usable l found = layout_usable fields bytes (r.fields, read.0) (ap (λ (fs : List FieldView). values_at fs bytes) same ∙ read.1) kind l (sym found)

  pub row_missing : None ≡ layout_of kind fields → (None ≡ first_row r) × (None ≡ second_row r)
  row_missing none =
      let first : None ≡ first_row r = ap (option_map first_at) none ∙ first_there in
      (first, ap (option_and_then (row_back (element back r.fields))) first)

  pub row_found : (l : RowLayout) → Some l ≡ layout_of kind fields → Some (first_at l) ≡ first_row r
  row_found l found = ap (option_map first_at) found ∙ first_there

  pub reverse_found : (l : RowLayout) → Some l ≡ layout_of kind fields → back_at l ≡ second_row r
  reverse_found l found =
      ap (option_and_then back_at) found ∙ back_of_kind kind ∙ ap (option_and_then (row_back (element back r.fields))) first_there

  -- without packets of the reverse direction there is no second row
  pub reverse_missing : (l : RowLayout) → Some l ≡ layout_of kind fields → l.second.packets.length ≡ 0 → None ≡ second_row r
  reverse_missing l found none =
      ap (λ (n : ℕ). cond {A = Option RowView} (n == 0) None (Some (row_at l.second num))) (sym (none_there l.second.packets runs bytes none))
      ∙ reverse_found l found

-- ---- the number of rows

mapped : (first : Option Places) (at : ℕ → Place) → is_some (option_map (layout_with at) first) ≡ is_some first
mapped None at = refl
mapped (Some first) at = refl

-- a layout says whether there are first rows
module _ (r : Record) where
  abbrev at_first : ℕ → Place
  at_first number = place_of_element forward number 0 0 (fields_of r.fields)

  abbrev said_first : ℕ → Option ℕ
  said_first = element forward r.fields

  -- whether a record of this kind with the values has a first row
  first_row-of_kind : (kind : Kind) → is_some (layout_of kind (fields_of r.fields)) ≡ is_some (cond (same_kind kind Flow) (row_of_elements said_first) None)
  unfolding flow_layout
  first_row-of_kind Options = refl
  first_row-of_kind Flow =
      mapped (first_places at_first) (λ number. place_of_element back number 0 0 (fields_of r.fields))
      ∙ (λ i.
      is_some (cond (of_first 8 i && of_first 12 i) (Some (places_between true (at_first 8) (at_first 12) at_first))
      (cond (of_first 27 i && of_first 28 i) (Some (places_between false (at_first 27) (at_first 28) at_first)) None)))
      ∙ between (said_first 8) (said_first 12) (said_first 27) (said_first 28)
    where
      of_first : (number : ℕ) → is_there (at_first number) ≡ is_some (said_first number)
      of_first number = there-place forward number 0 0 r.fields

      between : (a b c d : Option ℕ)
          → is_some (cond (is_some a && is_some b) (Some (places_between true (at_first 8) (at_first 12) at_first))
          (cond (is_some c && is_some d) (Some (places_between false (at_first 27) (at_first 28) at_first)) None))
          ≡ is_some (option_or (row_between V4 a b said_first) (row_between V6 c d said_first))
      between (Some a) (Some b) c d = refl
      between (Some a) None (Some c) (Some d) = refl
      between (Some a) None (Some c) None = refl
      between (Some a) None None d = refl
      between None b (Some c) (Some d) = refl
      between None b (Some c) None = refl
      between None b None d = refl

  first_row-there : is_some (first_row r) ≡ is_some (layout_of r.kind (fields_of r.fields))
  first_row-there = sym (first_row-of_kind r.kind)

-- without a place for the packets of the reverse direction there is no second row
or_there : (p q : Place) → is_there (place_or p q) ≡ (is_there p || is_there q)
or_there p q =
    elim (is_there p) as (λ b. is_there p ≡ b → is_there (cond b p q) ≡ (b || is_there q)) [
      | true ↦ λ there. there
      | false ↦ λ _. refl
    ]
    refl

packets_there : (first : Option Places) (at : ℕ → Place) (l : RowLayout) → option_map (layout_with at) first ≡ Some l
    → is_there l.second.packets ≡ (is_there (at 2) || is_there (at 86))
packets_there None at l is = absurd (cc)
packets_there (Some first) at l is = ap (λ (l : RowLayout). is_there l.second.packets) (sym (some_is _ _ is)) ∙ or_there (at 2) (at 86)

back_there : (kind : Kind) (fields : List FieldView) (l : RowLayout) → layout_of kind fields ≡ Some l
    → is_there l.second.packets ≡ (is_there (place_of_element back 2 0 0 fields) || is_there (place_of_element back 86 0 0 fields))
unfolding flow_layout
back_there Flow fields l found = packets_there _ (λ number. place_of_element back number 0 0 fields) l found
back_there Options fields l found = absurd (cc)

no_second : (r : Record) (l : RowLayout) → layout_of r.kind (fields_of r.fields) ≡ Some l → is_there l.second.packets ≡ false → is_some (second_row r) ≡ false
no_second r l found none =
    without (first_row r)
    (neither (element back r.fields 2) (element back r.fields 86)
    (
    (λ i. sym (there-place back 2 0 0 r.fields) i || sym (there-place back 86 0 0 r.fields) i)
    ∙ sym (back_there r.kind (fields_of r.fields) l found) ∙ none
    ))
  where
    neither : (a b : Option ℕ) → (is_some a || is_some b) ≡ false → unwrap_or (option_or a b) 0 ≡ 0
    neither None None none = refl
    neither None (Some x) none = absurd (cc)
    neither (Some x) b none = absurd (cc)

    without : (first : Option RowView) → either 2 86 (element back r.fields) ≡ 0 → is_some (option_and_then (row_back (element back r.fields)) first) ≡ false
    without None none = refl
    without (Some row) none = rw none refl

-- the rows are the first rows and the second rows
rows_counted : (records : List Record) → length (flat_map rows_of_record records)
    ≡ count_by (λ r. is_some (first_row r)) records + count_by (λ r. is_some (second_row r)) records
rows_counted [] = refl
rows_counted (r ∷ records) =
    omega (
      arith,
      length-append (rows_of_record r) (flat_map rows_of_record records),
      length-append (option_to_list (first_row r)) (option_to_list (second_row r)),
      one_or_none (first_row r),
      one_or_none (second_row r),
      rows_counted records,
      sum_by-cons (λ r. cond (is_some (first_row r)) 1 0) r records,
      sum_by-cons (λ r. cond (is_some (second_row r)) 1 0) r records,
    )
  where
    one_or_none : (o : Option RowView) → length (option_to_list o) ≡ cond (is_some o) 1 0
    one_or_none None = refl
    one_or_none (Some row) = refl

-- if one test decides for all, either all or none pass
count_alike : {X : Type 0} (p : X → Bool) (b : Bool) (xs : List X) → All (λ x. p x ≡ b) xs → count_by p xs ≡ cond b (length xs) 0
count_alike p true [] all = refl
count_alike p false [] all = refl
count_alike {X} p b (x ∷ xs) all =
    let here : p x ≡ b = All-head (λ (y : X). p y ≡ b) x xs all in
    let more : count_by p xs ≡ cond b (length xs) 0 = count_alike p b xs (All-tail (λ (y : X). p y ≡ b) x xs all) in
    sum_by-cons (λ y. cond (p y) 1 0) x xs ∙ (λ i. cond (here i) 1 0 + more i) ∙ together b (length xs)
  where
    together : (c : Bool) (n : ℕ) → cond c 1 0 + cond c n 0 ≡ cond c (suc n) 0
    together true n = omega arith
    together false n = omega arith

pub of_kind_counted : (kind : Kind) (records : List Record) (of : Kind) → All (λ r. r.kind ≡ of) records
    → count_by (λ r. same_kind r.kind kind) records ≡ cond (same_kind of kind) (length records) 0
of_kind_counted kind records of all =
    count_alike (λ r. same_kind r.kind kind) (same_kind of kind) records (λ k d within. ap (λ (x : Kind). same_kind x kind) (all k d within))

-- records of a kind with these fields
module _ (fields : List FieldView) (records : List Record) (kind : Kind) (of_kind : All (λ r. r.kind ≡ kind) records)
    (of_fields : All (λ r. fields_of r.fields ≡ fields) records) where
  first_rows : All (λ r. is_some (first_row r) ≡ is_some (layout_of kind fields)) records
  first_rows = λ k d within.
      first_row-there (get_or records k d) ∙ (λ i. is_some (layout_of (of_kind k d within i) (of_fields k d within i)))

  pub no_layout : None ≡ layout_of kind fields → length (flat_map rows_of_record records) ≡ 0
  no_layout none =
      let missing : is_some (layout_of kind fields) ≡ false = ap is_some (sym none) in
      omega (
        arith,
        rows_counted records,
        count_alike (λ r. is_some (first_row r)) false records (λ k d within. first_rows k d within ∙ missing),
        count_alike (λ r. is_some (second_row r)) false records (λ k d within. without (get_or records k d) (first_rows k d within ∙ missing)),
      )
    where
      without : (r : Record) → is_some (first_row r) ≡ false → is_some (second_row r) ≡ false
      without r none = by (first_row r) none
        where
          by : (first : Option RowView) → is_some first ≡ false → is_some (option_and_then (row_back (element back r.fields)) first) ≡ false
          by None none = refl
          by (Some row) none = absurd (cc)

  pub all_rows : (l : RowLayout) → Some l ≡ layout_of kind fields
      → length (flat_map rows_of_record records) ≡ length records + count_by (λ r. is_some (second_row r)) records
  all_rows l found =
      rows_counted records
      ∙ ap (λ n. n + count_by (λ r. is_some (second_row r)) records)
      (count_alike (λ r. is_some (first_row r)) true records (λ k d within. first_rows k d within ∙ ap is_some (sym found)))

  pub none_back : (l : RowLayout) → Some l ≡ layout_of kind fields → is_there l.second.packets ≡ false → count_by (λ r. is_some (second_row r)) records ≡ 0
  none_back l found none =
      count_alike (λ r. is_some (second_row r)) false records
      (λ k d within. no_second (get_or records k d) l ((λ i. layout_of (of_kind k d within i) (of_fields k d within i)) ∙ sym found) none)
