-- The rows of a message, one after the other, and their number.
use Rattle.std.proofs.Common.{◌≡◌, ◌∙◌, ◌≤◌, ◌*◌, ℕ, All, Bool, true, false, List, [], ◌∷◌, ◌++◌, length, Option, Some, None, ap, length-append, refl, subst, sym, arith}
use Rattle.std.specs.Prelude.{◌==◌, option_and_then}
use Rattle.std.specs.Bool.{then_some}
use Rattle.std.specs.Borrow.{Bor}
use Rattle.std.specs.List.{flat_map}
use Rattle.std.specs.Option.{IfSome, option_to_list}
use Rattle.std.proofs.lemmas.Bool.{eqb-true, not-false}
use Rattle.std.proofs.lemmas.List.Concat.{length-flat_map}
use Rattle.std.proofs.lemmas.List.Elements.{All-head, All-tail}
use Rattle.std.proofs.lemmas.List.Sums.{sum_by-le-sum_by}
use Rattle.ipfix_templates.specs.declared.layout.RowLayout.{RowLayout}
use Rattle.ipfix_templates.specs.Layout.{is_there}
use Rattle.ipfix_read.specs.Message.{message_size, set_size}
use Rattle.ipfix_read.specs.Value.{values_at}
use Rattle.ipfix_read.specs.declared.record.Record.{Record}
use Rattle.ipfix_read.specs.declared.set.Set.{Set}
use Rattle.ipfix_read.specs.declared.set.Set.TheVariants.{Templates, Values, Skipped}
use Rattle.flow_rows.specs.Counts.{records_in, records_of, rows_of_sets}
use Rattle.flow_rows.specs.Elements.{RowView, first_row, rows_of_record, second_row}
use Rattle.flow_rows.specs.Inner.{AreUsable, HaveLayout, number_there, row_at, second_at}
use Rattle.flow_rows.proofs.LayoutRows.{reverse_found, reverse_missing, row_found, usable}
use Rattle.flow_rows.proofs.Usable.{fields_of}

-- the first of flow records with a layout, and its bytes
module _ (layout : RowLayout) (runs : List ℕ) (all : List Record) (have : HaveLayout layout runs all) (r : Record) (records : List Record)
    (is : all ≡ r ∷ records) (bytes : Bor (List ℕ)) (read : (rest : List ℕ) × (values_at (fields_of r.fields) bytes.now ≡ Some (r.fields, rest))) where
  of_kind : All (λ r. r.kind ≡ have.kind) (r ∷ records)
  of_kind = subst (All (λ r. r.kind ≡ have.kind)) is have.of_kind

  alike : All (λ r. fields_of r.fields ≡ have.fields) (r ∷ records)
  alike = subst (All (λ r. fields_of r.fields ≡ have.fields)) is have.same

  kind_is : have.kind ≡ r.kind
  kind_is = sym (All-head (λ (x : Record). x.kind ≡ have.kind) r records of_kind)

  same : have.fields ≡ fields_of r.fields
  same = sym (All-head (λ (x : Record). fields_of x.fields ≡ have.fields) r records alike)

  both_usable : AreUsable (length bytes.now) layout.first × AreUsable (length bytes.now) layout.second
  both_usable = usable r have.kind kind_is have.fields runs bytes.now same have.runs_are read layout have.layout_is

  pub first_usable : AreUsable (length bytes.now) layout.first
  first_usable = both_usable.0

  -- whether or not its bytes are kept for its second row, the others have the layout
  pub still_usable : (there : Bool) → HaveLayout layout runs records
      × IfSome (then_some there bytes) (λ bytes. AreUsable (length bytes.now) layout.second)
  still_usable there = (
    record {
      kind = have.kind;
      fields = have.fields;
      layout_is = have.layout_is;
      runs_are = have.runs_are;
      of_kind = All-tail (λ (x : Record). x.kind ≡ have.kind) r records of_kind;
      same = All-tail (λ (x : Record). fields_of x.fields ≡ have.fields) r records alike;
    },
    kept there,
  )
    where
      kept : (there : Bool) → IfSome (then_some there bytes) (λ bytes. AreUsable (length bytes.now) layout.second)
      kept true = both_usable.1
      kept false = tt

  -- its first row, and its second one from its bytes, if they are kept where packets of the reverse direction are counted
  pub rows_first : (there : Bool) → there ≡ is_there layout.second.packets
      → flat_map rows_of_record all
      ≡ row_at layout.first (λ place. number_there place runs bytes.now)
      ∷ option_to_list (option_and_then (λ bytes. second_at layout runs bytes.now) (then_some there bytes)) ++ flat_map rows_of_record records
  rows_first there counted = ap (flat_map rows_of_record) is ∙ λ i.
      (option_to_list (sym (row_found r have.kind kind_is have.fields runs bytes.now same have.runs_are read layout have.layout_is) i)
      ++ option_to_list (second there counted i)) ++ flat_map rows_of_record records
    where
      second : (there : Bool) → there ≡ is_there layout.second.packets
          → second_row r ≡ option_and_then (λ bytes. second_at layout runs bytes.now) (then_some there bytes)
      second true counted = sym (reverse_found r have.kind kind_is have.fields runs bytes.now same have.runs_are read layout have.layout_is)
      second false counted =
          sym
          (reverse_missing r have.kind kind_is have.fields runs bytes.now same have.runs_are read layout have.layout_is
          (eqb-true layout.second.packets.length 0 (not-false (layout.second.packets.length == 0) (sym counted))))

-- ---- a message has at most twice as many rows as sets and records

pub one_at_most : (o : Option RowView) → length (option_to_list o) ≤ 1
one_at_most None = omega arith
one_at_most (Some row) = omega arith

pub two_at_most : (r : Record) → length (rows_of_record r) ≤ 2
two_at_most r =
    omega (
      arith,
      length-append (option_to_list (first_row r)) (option_to_list (second_row r)),
      one_at_most (first_row r),
      one_at_most (second_row r),
    )

pub records_within : (records : List Record) → length (flat_map rows_of_record records) ≤ 2 * length records
records_within [] = omega arith
records_within (r ∷ records) =
    omega (arith, length-append (rows_of_record r) (flat_map rows_of_record records), two_at_most r, records_within records)

pub set_within : (set : Set) → length (records_in set) ≤ set_size set
set_within (Templates kind events) = omega arith
set_within (Values kind records) = omega arith
set_within (Skipped id) = omega arith

pub set_rows_within : (set : Set) → length (flat_map rows_of_record (records_in set)) ≤ 2 * set_size set
set_rows_within set = omega (arith, records_within (records_in set), set_within set)

pub empty_of : {A : Type 0} (xs : List A) → length xs ≡ 0 → [] ≡ xs
empty_of [] none = refl
empty_of (x ∷ xs) none = absurd (omega (arith, none))

pub rows_within : (sets : List Set) → length (rows_of_sets sets) ≤ 2 * message_size sets
rows_within sets =
    omega (
      arith,
      records_within (records_of sets),
      length-flat_map records_in sets,
      sum_by-le-sum_by (λ set. length (records_in set)) set_size sets set_within,
    )
