-- Records of one length, one after the other.
use Rattle.std.proofs.Common.{◌≡◌, ◌∙◌, ◌+◌, ◌<◌, ◌≤◌, ℕ, All, false, List, [], ◌∷◌, Some, ap, arith, drop, length, refl, subst, sym}
use Rattle.std.specs.Prelude.{option_map}
use Rattle.std.specs.Borrow.{Bor}
use Rattle.std.specs.List.{flat_map}
use Rattle.std.proofs.lemmas.Bool.Decides.{nat_tests}
use Rattle.std.proofs.lemmas.Grind.{common_steps}
use Rattle.std.proofs.lemmas.List.Elements.{All-head, All-tail}
use Rattle.ipfix_templates.specs.declared.field.Field.{Field}
use Rattle.ipfix_templates.specs.declared.layout.RowLayout.{RowLayout}
use Rattle.ipfix_templates.specs.Layout.{is_there}
use Rattle.ipfix_templates.specs.Runs.{last_run_from, runs_from}
use Rattle.ipfix_read.specs.Value.{FieldValueView, after_runs, bytes_at, values_at}
use Rattle.ipfix_read.specs.WholeRecords.{AreInBytes}
use Rattle.ipfix_read.specs.declared.record.Record.{Record}
use Rattle.ipfix_read.proofs.RecordValues.{left, runs_are}
use Rattle.flow_rows.specs.Elements.{rows_of_record}
use Rattle.flow_rows.specs.Inner.{AreUsable, HaveLayout, number_there, row_at}
use Rattle.flow_rows.proofs.Usable.{fields_of}
use Rattle.flow_rows.proofs.Walking.{first_usable, rows_first, still_usable}

-- records without variable values, all of this length, are at the start of bytes
pub record AreEqual (layout : RowLayout) (size : ℕ) (bytes : List ℕ) (records : List Record) : Type 0 where
  pub have : HaveLayout layout [] records
  pub sizes : All (λ r. last_run_from 0 (fields_of r.fields) ≡ size) records
  pub read : AreInBytes records bytes

-- the bytes after a number of bytes
bytes_after : (count : ℕ) (bytes rest : List ℕ) → option_map (λ f. f.1) (bytes_at count bytes) ≡ Some rest → (count ≤ length bytes) × (rest ≡ drop count bytes)
bytes_after count bytes rest e = (grind (arith, nat_tests, common_steps), grind (arith, nat_tests, common_steps))

values_after : (fields : List Field) (bytes : List ℕ) (x : List FieldValueView × List ℕ) → [] ≡ runs_from 0 fields → values_at fields bytes ≡ Some x
    → (last_run_from 0 fields ≤ length bytes) × (x.1 ≡ drop (last_run_from 0 fields) bytes)
values_after fields bytes x none e =
    bytes_after (last_run_from 0 fields) bytes x.1
    (ap (λ runs. after_runs runs (last_run_from 0 fields) bytes) none ∙ runs_are fields bytes ∙ ap left e)

-- the first of such records
module _ (layout : RowLayout) (size : ℕ) (bytes : Bor (List ℕ)) (r : Record) (records : List Record) (equal : AreEqual layout size bytes.now (r ∷ records)) where
  no_runs : [] ≡ runs_from 0 (fields_of r.fields)
  no_runs = equal.have.runs_are ∙ ap (runs_from 0) (sym (All-head (λ (x : Record). fields_of x.fields ≡ equal.have.fields) r records equal.have.same))

  after : (last_run_from 0 (fields_of r.fields) ≤ length bytes.now) × (equal.read.0 ≡ drop (last_run_from 0 (fields_of r.fields)) bytes.now)
  after = values_after (fields_of r.fields) bytes.now (r.fields, equal.read.0) no_runs equal.read.1

  size_is : last_run_from 0 (fields_of r.fields) ≡ size
  size_is = All-head (λ (x : Record). last_run_from 0 (fields_of x.fields) ≡ size) r records equal.sizes

  pub first_fits : size ≤ length bytes.now
  first_fits = omega (arith, size_is, after.0)

  pub first_is_usable : AreUsable (length bytes.now) layout.first
  first_is_usable = first_usable layout [] (r ∷ records) equal.have r records refl bytes (equal.read.0, equal.read.1)

  pub others_equal : AreEqual layout size (drop size bytes.now) records
  others_equal = record {
    have = (still_usable layout [] (r ∷ records) equal.have r records refl bytes (equal.read.0, equal.read.1) false).0;
    sizes = All-tail (λ (x : Record). last_run_from 0 (fields_of x.fields) ≡ size) r records equal.sizes;
    read = subst (AreInBytes records) (after.1 ∙ ap (λ n. drop n bytes.now) size_is) equal.read.2;
  }

  -- its row, if there is only one
  pub only_row : is_there layout.second.packets ≡ false
      → flat_map rows_of_record (r ∷ records) ≡ row_at layout.first (λ place. number_there place [] bytes.now) ∷ flat_map rows_of_record records
  only_row second = rows_first layout [] (r ∷ records) equal.have r records refl bytes (equal.read.0, equal.read.1) false (sym second)

-- one or more records
pub some_fit : (layout : RowLayout) (size : ℕ) (bytes : Bor (List ℕ)) (records : List Record) → AreEqual layout size bytes.now records → 0 < length records
    → (size ≤ length bytes.now) × AreUsable (length bytes.now) layout.first
some_fit layout size bytes [] equal some = absurd (omega (arith, some))
some_fit layout size bytes (r ∷ records) equal some = (first_fits layout size bytes r records equal, first_is_usable layout size bytes r records equal)

pub others_are_left : (layout : RowLayout) (size : ℕ) (bytes : Bor (List ℕ)) (records : List Record) → AreEqual layout size bytes.now records → 0 < length records
    → is_there layout.second.packets ≡ false
    → (others : List Record) × AreEqual layout size (drop size bytes.now) others × (1 + length others ≡ length records)
    × (flat_map rows_of_record records ≡ row_at layout.first (λ place. number_there place [] bytes.now) ∷ flat_map rows_of_record others)
others_are_left layout size bytes [] equal some second = absurd (omega (arith, some))
others_are_left layout size bytes (r ∷ records) equal some second =
    (records, others_equal layout size bytes r records equal, omega arith, only_row layout size bytes r records equal second)
