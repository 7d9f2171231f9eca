-- The values at the start of bytes, and the bytes that they take.
use Rattle.std.proofs.Common.{◌≡◌, ℕ, ◌+◌, ◌-◌, ◌<◌, ◌≤◌, Bool, true, false, cond, ltb, eqb, List, [], ◌∷◌, ◌++◌, length, take, drop, Option, Some, None, Ok, Err, inl, inr, refl, sym, ap, subst, ◌∙◌, append_assoc, length-append, length-drop, drop-drop, arith, zero, suc, ◌*◌, ◌/◌, All, map}
use Rattle.std.specs.Borrow.{Bor}
use Rattle.std.specs.Prelude.{ok_or, option_and_then, option_map, ◌||◌}
use Rattle.std.proofs.lemmas.Bool.{cases_lt, le-ltb}
use Rattle.std.proofs.lemmas.Bool.Decides.{nat_tests}
use Rattle.std.proofs.lemmas.Grind.{common_steps}
use Rattle.byteorder.specs.Endian.{big_number}
use Rattle.ipfix_templates.specs.declared.field.Field.{Field}
use Rattle.ipfix_templates.specs.Field.{is_variable, least_length}
use Rattle.ipfix_templates.specs.Runs.{runs_from, last_run_from}
use Rattle.ipfix_templates.specs.Reading.{after_items}
use Rattle.ipfix_read.specs.Value.{FieldValueView, after_runs, bytes_at, variable_at, value_at, values_at, whole_values}
use Rattle.ipfix_templates.proofs.Choice.{gave, some_is, mapped}
use Rattle.ipfix_templates.proofs.Reading.{at_end, at_fault, at_item, no_items}
use Rattle.std.proofs.lemmas.List.Sums.{sum_by-cons}
use Rattle.ipfix_templates.specs.declared.template.Template.{Template}
use Rattle.ipfix_read.specs.declared.fault.ReadFault.{ReadFault}
use Rattle.ipfix_read.specs.Fault.{BadRecord}
use Rattle.ipfix_read.specs.Record.{Record, data_set_reading, is_padding, record_next}
use Rattle.std.proofs.Math.Nat.{add-mul, le-div_iff_mul-le, suc-mul}
use Rattle.std.proofs.lemmas.List.Elements.{All-cons, All-nil}
use Rattle.ipfix_templates.specs.declared.kind.Kind.{Kind}
use Rattle.ipfix_read.specs.WholeRecords.{AreInBytes, ArePacked, whole_records}

-- the record of a template at the start of the bytes, and the bytes after it
abbrev pub record_at : Template → List ℕ → Option (Record × List ℕ)
record_at t bytes = option_map (λ v. (record { kind = t.kind; fields = v.0 }, v.1)) (values_at t.fields bytes)

whole_step : (field : Field) (fields : List Field) (bytes : List ℕ) (v : List ℕ × List ℕ) → value_at field bytes ≡ Some v
    → whole_values (field ∷ fields) bytes ≡ record { field = field; value = v.0 } ∷ whole_values fields v.1
unfolding whole_values
whole_step field fields bytes v e = rw e refl

pub whole_is : (fields : List Field) (bytes : List ℕ) (x : List FieldValueView × List ℕ) → values_at fields bytes ≡ Some x → whole_values fields bytes ≡ x.0
unfolding values_at whole_values
whole_is [] bytes x e = ap (λ (y : List FieldValueView × List ℕ). y.0) (some_is ([], bytes) x e)
whole_is (field ∷ fields) bytes x e =
    let a = gave (value_at field bytes) (λ v. option_and_then (λ vs. Some (record { field = field; value = v.0 } ∷ vs.0, vs.1)) (values_at fields v.1)) x e in
    let b = gave (values_at fields a.0.1) (λ vs. Some (record { field = field; value = a.0.0 } ∷ vs.0, vs.1)) x a.2 in
    whole_step field fields bytes a.0 a.1 ∙ ap (λ (vs : List FieldValueView). record { field = field; value = a.0.0 } ∷ vs) (whole_is fields a.0.1 b.0 b.1)
    ∙ ap (λ (y : List FieldValueView × List ℕ). y.0) (some_is _ _ b.2)

-- ---- the bytes after values, run by run

-- the remaining bytes of a reading
abbrev pub left : Option (List FieldValueView × List ℕ) → Option (List ℕ)
left read = option_map (λ x. x.1) read

-- the reading from the bytes that it leaves
pub whole_left : (fields : List Field) (bytes : List ℕ) (rest : Option (Bor (List ℕ))) → option_map (λ r. r.now) rest ≡ left (values_at fields bytes)
    → option_map (λ r. (whole_values fields bytes, r.now)) rest ≡ values_at fields bytes
whole_left fields bytes rest same = elim (values_at fields bytes) as (λ o. values_at fields bytes ≡ o → option_map (λ r. r.now) rest ≡ left o → option_map (λ r. (whole_values fields bytes, r.now)) rest ≡ o) [
  | None ↦ λ e same. grind (arith, common_steps)
  | Some x ↦ λ e same. let whole = whole_is fields bytes x e in grind (arith, common_steps)
] refl same

then_alike : {A B : Type 0} (o : Option A) (f g : A → Option B) → ((x : A) → f x ≡ g x) → option_and_then f o ≡ option_and_then g o
then_alike None f g alike = refl
then_alike (Some x) f g alike = alike x

pub then_left : (o : Option (List ℕ × List ℕ)) → option_map (λ f. f.1) o ≡ option_and_then (λ f. Some f.1) o
then_left None = refl
then_left (Some x) = refl

-- the bytes after the value of a field, and those after the fields that follow it
left_cons : (field : Field) (fields : List Field) (bytes : List ℕ) → left (values_at (field ∷ fields) bytes) ≡ option_and_then (λ v. left (values_at fields v.1)) (value_at field bytes)
unfolding values_at
left_cons field fields bytes = grind (arith, common_steps)

pub variable_is : (field : Field) (bytes : List ℕ) → is_variable field ≡ true → value_at field bytes ≡ variable_at bytes
unfolding value_at
variable_is field bytes is = rw is refl

pub fixed_is : (field : Field) (bytes : List ℕ) → is_variable field ≡ false → value_at field bytes ≡ bytes_at field.length bytes
unfolding value_at
fixed_is field bytes is = rw is refl

-- no bytes, followed by the next step
no_bytes_first : (next : List ℕ → Option (List ℕ)) (bytes : List ℕ) → option_and_then (λ f. next f.1) (bytes_at 0 bytes) ≡ next bytes
no_bytes_first next bytes = rw (le-ltb (length bytes) 0 (omega arith)) refl

-- the step after the given number of bytes
abbrev then_next : (List ℕ → Option (List ℕ)) → Option (List ℕ × List ℕ) → Option (List ℕ)
then_next next read = option_and_then (λ f. next f.1) read

-- two runs of bytes, followed by the next step
pub both_first : (next : List ℕ → Option (List ℕ)) (a b : ℕ) (bytes : List ℕ)
    → option_and_then (λ f. then_next next (bytes_at b f.1)) (bytes_at a bytes) ≡ then_next next (bytes_at (a + b) bytes)
both_first next a b bytes = let shorter = length-drop a bytes in let later = drop-drop b a bytes in grind (arith, nat_tests, common_steps)

-- the runs of fields lead to the bytes after the fields' values
runs_from_lem : (sum : ℕ) (fields : List Field) (bytes : List ℕ)
    → after_runs (runs_from sum fields) (last_run_from sum fields) bytes ≡ option_and_then (λ f. left (values_at fields f.1)) (bytes_at sum bytes)
unfolding values_at
runs_from_lem sum [] bytes = then_left (bytes_at sum bytes)
runs_from_lem sum (field ∷ fields) bytes =
    elim (is_variable field) as (λ c. is_variable field ≡ c
    → after_runs (cond c (sum ∷ runs_from 0 fields) (runs_from (sum + field.length) fields)) (cond c (last_run_from 0 fields) (last_run_from (sum + field.length) fields)) bytes
    ≡ option_and_then (λ f. left (values_at (field ∷ fields) f.1)) (bytes_at sum bytes)) [
      | true ↦ λ is. then_alike (bytes_at sum bytes) _ _ (λ f.
          then_alike (variable_at f.1) _ _ (λ v. runs_from_lem 0 fields v.1 ∙ no_bytes_first (λ bs. left (values_at fields bs)) v.1)
          ∙ sym (left_cons field fields f.1 ∙ ap (λ (o : Option (List ℕ × List ℕ)). option_and_then (λ v. left (values_at fields v.1)) o) (variable_is field f.1 is)))
      | false ↦ λ is.
          runs_from_lem (sum + field.length) fields bytes
          ∙ sym (both_first (λ bs. left (values_at fields bs)) sum field.length bytes)
          ∙ then_alike (bytes_at sum bytes) _ _ (λ f.
          sym (left_cons field fields f.1 ∙ ap (λ (o : Option (List ℕ × List ℕ)). option_and_then (λ v. left (values_at fields v.1)) o) (fixed_is field f.1 is)))
    ] refl

pub runs_are : (fields : List Field) (bytes : List ℕ) → after_runs (runs_from 0 fields) (last_run_from 0 fields) bytes ≡ left (values_at fields bytes)
runs_are fields bytes = runs_from_lem 0 fields bytes ∙ no_bytes_first (λ bs. left (values_at fields bs)) bytes

-- ---- the bytes that a data record takes

bytes_shorter : (count : ℕ) (bytes : List ℕ) (x : List ℕ × List ℕ) → bytes_at count bytes ≡ Some x → length x.1 + count ≤ length bytes
bytes_shorter count bytes x e = let rest = length-drop count bytes in grind (arith, common_steps)

variable_shorter : (bytes : List ℕ) (x : List ℕ × List ℕ) → variable_at bytes ≡ Some x → length x.1 + 1 ≤ length bytes
variable_shorter [] x e = absurd (cc)
variable_shorter (first ∷ bytes) x e =
    let short = bytes_shorter first bytes x in
    let long = bytes_shorter (big_number 2 bytes) (drop 2 bytes) x in
    let two = length-drop 2 bytes in grind (arith, common_steps)

abbrev pub least_field_length : Field → ℕ
least_field_length f = cond (is_variable f) 1 f.length

pub value_shorter : (field : Field) (bytes : List ℕ) (x : List ℕ × List ℕ) → value_at field bytes ≡ Some x → length x.1 + least_field_length field ≤ length bytes
unfolding value_at
value_shorter field bytes x e =
    let variable = variable_shorter bytes x in
    let fixed = bytes_shorter field.length bytes x in grind (arith, common_steps)

-- a record takes at least its template's least length
pub values_shorter : (fields : List Field) (bytes : List ℕ) (x : List FieldValueView × List ℕ) → values_at fields bytes ≡ Some x → length x.1 + least_length fields ≤ length bytes
unfolding values_at
values_shorter [] bytes x e = omega (arith, ap (λ (y : List FieldValueView × List ℕ). length y.1) (some_is ([], bytes) x e))
values_shorter (field ∷ fields) bytes x e =
    let a = gave (value_at field bytes) (λ v. option_and_then (λ vs. Some (record { field = field; value = v.0 } ∷ vs.0, vs.1)) (values_at fields v.1)) x e in
    let b = gave (values_at fields a.0.1) (λ vs. Some (record { field = field; value = a.0.0 } ∷ vs.0, vs.1)) x a.2 in
    omega (arith, sum_by-cons least_field_length field fields, value_shorter field bytes a.0 a.1, values_shorter fields a.0.1 b.0 b.1, ap (λ (y : List FieldValueView × List ℕ). length y.1) (some_is _ _ b.2))

-- ---- consecutive records

-- there are as many bytes as the shortest record has, and a record isn't empty
abbrev pub HasRoom : Template → List ℕ → Type 0
HasRoom t bytes = (0 < least_length t.fields) × (least_length t.fields ≤ length bytes)

goes : (least many : ℕ) → 0 < least → least ≤ many → (eqb least 0 || ltb many least) ≡ false
goes least many some enough = grind (arith, nat_tests, common_steps)

pub few_end : (least many : ℕ) → many < least → (eqb least 0 || ltb many least) ≡ true
few_end least many few = grind (arith, nat_tests, common_steps)

pub none_end : (least many : ℕ) → least ≡ 0 → (eqb least 0 || ltb many least) ≡ true
none_end least many none = rw none refl

nothing_ends : (least : ℕ) → (eqb least 0 || ltb 0 least) ≡ true
nothing_ends least = grind (arith, nat_tests, common_steps)

some_bytes : (least many : ℕ) → (eqb least 0 || ltb many least) ≡ false → 0 < least
some_bytes least many e = grind (arith, nat_tests, common_steps)

record_smaller : (t : Template) (before : Unit {0}) (offset : ℕ) (bytes : List ℕ) (r : Record) (after : List ℕ) → is_padding t bytes ≡ false → record_next t offset bytes ≡ Ok (r, after)
    → length after < length bytes
record_smaller t before offset bytes r after more e =
    let some = some_bytes (least_length t.fields) (length bytes) more in
    elim (values_at t.fields bytes) as (λ o. values_at t.fields bytes ≡ o
    → ok_or {T = Record × List ℕ} {E = ReadFault} (option_map (λ v. (record { kind = t.kind; fields = v.0 }, v.1)) o) (record { kind = BadRecord; offset = offset }) ≡ Ok (r, after)
    → length after < length bytes) [
      | None ↦ λ is wrong. absurd (cc)
      | Some x ↦ λ is read. let shorter = values_shorter t.fields bytes x is in grind arith
    ] refl e

-- ---- records that are stored as their bytes, their fields and their number

-- the fields of values are those by which they were read
pub fields_are : (fields : List Field) (bytes : List ℕ) (x : List FieldValueView × List ℕ) → values_at fields bytes ≡ Some x → map (λ v. v.field) x.0 ≡ fields
unfolding values_at
fields_are [] bytes x e = sym (ap (λ (y : List FieldValueView × List ℕ). map (λ v. v.field) y.0) (some_is ([], bytes) x e))
fields_are (field ∷ fields) bytes x e =
    let a = gave (value_at field bytes) (λ v. option_and_then (λ vs. Some (record { field = field; value = v.0 } ∷ vs.0, vs.1)) (values_at fields v.1)) x e in
    let b = gave (values_at fields a.0.1) (λ vs. Some (record { field = field; value = a.0.0 } ∷ vs.0, vs.1)) x a.2 in
    sym (ap (λ (y : List FieldValueView × List ℕ). map (λ v. v.field) y.0) (some_is _ _ b.2))
    ∙ ap (λ (fs : List Field). field ∷ fs) (fields_are fields a.0.1 b.0 b.1)

some_first : (kind : Kind) (fields : List Field) (count : ℕ) (bytes : List ℕ) (x : List FieldValueView × List ℕ) → values_at fields bytes ≡ Some x
    → whole_records kind fields (suc count) bytes ≡ record { kind = kind; fields = x.0 } ∷ whole_records kind fields count x.1
unfolding whole_records
some_first kind fields count bytes x e = rw e refl

none_first : (kind : Kind) (fields : List Field) (count : ℕ) (bytes : List ℕ) → values_at fields bytes ≡ None
    → whole_records kind fields (suc count) bytes ≡ []
unfolding whole_records
none_first kind fields count bytes e = rw e refl

no_count : (kind : Kind) (fields : List Field) (bytes : List ℕ) → whole_records kind fields zero bytes ≡ []
unfolding whole_records
no_count kind fields bytes = refl

-- what is true of each complete record is true of all
all_of : (P : Record → Type 0) (kind : Kind) (fields : List Field) → ((bytes : List ℕ) (x : List FieldValueView × List ℕ) → values_at fields bytes ≡ Some x → P (record { kind = kind; fields = x.0 }))
    → (count : ℕ) (bytes : List ℕ) → All P (whole_records kind fields count bytes)
unfolding whole_records
all_of P kind fields each zero bytes = All-nil P
all_of P kind fields each (suc count) bytes =
    elim (values_at fields bytes) as (λ o. values_at fields bytes ≡ o → All P (whole_records kind fields (suc count) bytes)) [
      | None ↦ λ e. rw e (All-nil P)
      | Some x ↦ λ e. rw e (All-cons P (record { kind = kind; fields = x.0 }) (whole_records kind fields count x.1) (each bytes x e) (all_of P kind fields each count x.1))
    ] refl

pub all_of_fields : (kind : Kind) (fields : List Field) (count : ℕ) (bytes : List ℕ) → All (λ r. map (λ v. v.field) r.fields ≡ fields) (whole_records kind fields count bytes)
all_of_fields kind fields = all_of (λ r. map (λ v. v.field) r.fields ≡ fields) kind fields (fields_are fields)

pub all_of_kind : (kind : Kind) (fields : List Field) (count : ℕ) (bytes : List ℕ) → All (λ r. r.kind ≡ kind) (whole_records kind fields count bytes)
all_of_kind kind fields = all_of (λ r. r.kind ≡ kind) kind fields (λ _ _ _. refl)

pub in_bytes : (kind : Kind) (fields : List Field) (count : ℕ) (bytes : List ℕ) → AreInBytes (whole_records kind fields count bytes) bytes
in_bytes kind fields zero bytes = rw (no_count kind fields bytes) tt
in_bytes kind fields (suc count) bytes =
    elim (values_at fields bytes) as (λ o. values_at fields bytes ≡ o → AreInBytes (whole_records kind fields (suc count) bytes) bytes) [
      | None ↦ λ e. rw (none_first kind fields count bytes e) tt
      | Some x ↦ λ e.
          rw (some_first kind fields count bytes x e)
          (x.1, ap (λ (fs : List Field). values_at fs bytes) (fields_are fields bytes x e) ∙ e, in_bytes kind fields count x.1)
    ] refl

-- The records before the rest are read: the bytes begin with them, whatever number of records follows, and reading goes on
-- after them.
pub record HasRead (t : Template) (offset : ℕ) (bytes : List ℕ) (count : ℕ) (rest : List ℕ) : Type 0 where
  pub within : count + length rest ≤ length bytes
  pub counted : length (whole_records t.kind t.fields count bytes) ≡ count
  pub more : (n : ℕ) → whole_records t.kind t.fields (count + n) bytes ≡ whole_records t.kind t.fields count bytes ++ whole_records t.kind t.fields n rest
  pub read : data_set_reading t offset bytes ≡ after_items (whole_records t.kind t.fields count bytes) (data_set_reading t (offset + (length bytes - length rest)) rest)

module _ (t : Template) (offset : ℕ) (bytes : List ℕ) where
  abbrev Whole : ℕ → List ℕ → List Record
  Whole = whole_records t.kind t.fields

  abbrev Read : ℕ → List ℕ → Type 0
  Read = HasRead t offset bytes

  pub none_read : HasRead t offset bytes 0 bytes
  none_read =
      let none : Whole 0 bytes ≡ [] = no_count t.kind t.fields bytes in
      let start : offset + (length bytes - length bytes) ≡ offset = omega arith in
      record {
        within = omega arith;
        counted = ap length none;
        more = λ n. let same : 0 + n ≡ n = omega arith in ap (λ (k : ℕ). Whole k bytes) same ∙ ap (λ (rs : List Record). rs ++ Whole n bytes) (sym none);
        read = no_items _ ∙ (λ i. after_items (sym none i) (data_set_reading t (sym start i) bytes));
      }

  pub one_read : (count later : ℕ) (rest : List ℕ) (x : List FieldValueView × List ℕ) → Read count rest → HasRoom t rest → values_at t.fields rest ≡ Some x → later ≡ count + 1
      → HasRead t offset bytes later x.1
  one_read count later rest x so_far room is next =
      let r : Record = record { kind = t.kind; fields = x.0 } in
      let before : List Record = Whole count bytes in
      let shorter = values_shorter t.fields rest x is in
      let here : record_at t rest ≡ Some (r, x.1) = ap (option_map (λ v. (record { kind = t.kind; fields = v.0 }, v.1))) is in
      let first : (n : ℕ) → Whole (suc n) rest ≡ r ∷ Whole n x.1 = λ n. some_first t.kind t.fields n rest x is in
      let all : Whole later bytes ≡ before ++ r ∷ [] =
      ap (λ (n : ℕ). Whole n bytes) next ∙ so_far.more 1 ∙ ap (λ (rs : List Record). before ++ rs) (first 0 ∙ ap (λ (rs : List Record). r ∷ rs) (no_count t.kind t.fields x.1)) in
      record {
        within = omega (arith, so_far.within, shorter, room.0, next);
        counted = omega (arith, ap length all, length-append before (r ∷ []), so_far.counted, next);
        more = λ n.
            let same : later + n ≡ count + suc n = omega (arith, next) in
            ap (λ (k : ℕ). Whole k bytes) same ∙ so_far.more (suc n) ∙ ap (λ (rs : List Record). before ++ rs) (first n)
            ∙ sym (append_assoc before (r ∷ []) (Whole n x.1)) ∙ ap (λ (rs : List Record). rs ++ Whole n x.1) (sym all);
        read =
            at_item (is_padding t) (λ _. record_next t) (λ _ _. tt) (nothing_ends (least_length t.fields)) (record_smaller t) _ before (tt {0}) _ rest so_far.read r x.1 (offset + (length bytes - length x.1))
            (goes (least_length t.fields) (length rest) room.0 room.1) (rw here refl) (omega (arith, so_far.within, shorter))
            ∙ ap (λ (rs : List Record). after_items rs (data_set_reading t (offset + (length bytes - length x.1)) x.1)) (sym all);
      }

  -- the records before the padding are all
  pub packed : (count : ℕ) (rest : List ℕ) → Read count rest → is_padding t rest ≡ true → ArePacked t offset bytes count
  packed count rest so_far end = (
    so_far.counted,
    at_end (is_padding t) (λ _. record_next t) (λ _ _. tt) (nothing_ends (least_length t.fields)) (record_smaller t) _ (Whole count bytes) (tt {0}) _ rest so_far.read end,
  )

  -- a record that extends beyond the end
  pub cut_off : (count : ℕ) (rest : List ℕ) → Read count rest → HasRoom t rest → values_at t.fields rest ≡ None
      → data_set_reading t offset bytes ≡ Err (record { kind = BadRecord; offset = offset + (length bytes - length rest) })
  cut_off count rest so_far room none =
      let gone : record_at t rest ≡ None = ap (option_map (λ v. (record { kind = t.kind; fields = v.0 }, v.1))) none in
      at_fault (is_padding t) (λ _. record_next t) (λ _ _. tt) (nothing_ends (least_length t.fields)) (record_smaller t) _ (Whole count bytes) (tt {0}) _ rest so_far.read _
      (goes (least_length t.fields) (length rest) room.0 room.1) (rw gone refl)

-- ---- without variable fields

no_runs_last : (sum : ℕ) (fields : List Field) → runs_from sum fields ≡ [] → last_run_from sum fields ≡ sum + least_length fields
no_runs_last sum [] e = omega arith
no_runs_last sum (f ∷ fs) e =
    let rest = no_runs_last (sum + f.length) fs in let all = sum_by-cons least_field_length f fs in grind (arith, common_steps)

-- the length of values of fixed lengths is the sum of these
fixed_values : (fields : List Field) (bytes : List ℕ) → runs_from 0 fields ≡ [] → least_length fields ≤ length bytes
    → (x : List FieldValueView × List ℕ) × (values_at fields bytes ≡ Some x) × (x.1 ≡ drop (least_length fields) bytes)
fixed_values fields bytes none enough =
    let last : last_run_from 0 fields ≡ least_length fields = omega (arith, no_runs_last 0 fields none) in
    let cut : bytes_at (least_length fields) bytes ≡ Some (take (least_length fields) bytes, drop (least_length fields) bytes) =
    ap (λ (c : Bool). cond c None (Some (take (least_length fields) bytes, drop (least_length fields) bytes))) (le-ltb (length bytes) (least_length fields) enough) in
    let following : left (values_at fields bytes) ≡ Some (drop (least_length fields) bytes) =
    sym (runs_are fields bytes)
    ∙ ap (λ (rs : List ℕ). after_runs rs (last_run_from 0 fields) bytes) none
    ∙ ap (λ (n : ℕ). after_runs [] n bytes) last
    ∙ ap (option_map (λ f. f.1)) cut in
    mapped (values_at fields bytes) (λ x. x.1) (drop (least_length fields) bytes) following

-- as many records as fit
pub fixed_read : (t : Template) (offset : ℕ) (bytes : List ℕ) (count : ℕ) → runs_from 0 t.fields ≡ [] → 0 < least_length t.fields → count * least_length t.fields ≤ length bytes
    → HasRead t offset bytes count (drop (count * least_length t.fields) bytes)
fixed_read t offset bytes zero none some room =
    let nothing : 0 ≡ 0 * least_length t.fields = omega arith in
    subst (λ (n : ℕ). HasRead t offset bytes 0 (drop n bytes)) nothing (none_read t offset bytes)
fixed_read t offset bytes (suc count) none some room =
    let least = least_length t.fields in
    let rest = drop (count * least) bytes in
    let split : suc count * least ≡ count * least + least = suc-mul count least in
    let long : least ≤ length rest = omega (arith, room, split, length-drop (count * least) bytes) in
    let v = fixed_values t.fields rest none long in
    let following : v.0.1 ≡ drop (suc count * least) bytes = v.2 ∙ drop-drop least (count * least) bytes ∙ ap (λ (n : ℕ). drop n bytes) (omega (arith, split)) in
    subst (λ (left : List ℕ). HasRead t offset bytes (suc count) left) following
    (one_read t offset bytes count (suc count) rest v.0 (fixed_read t offset bytes count none some (omega (arith, room, split))) (some, long) v.1 (omega arith))

-- after as many records as fit, there is no room for one more
pub few_left : (n least : ℕ) → 0 < least → n < n / least * least + least
few_left n least some =
    elim (cases_lt n (n / least * least + least)) [
      | inl few ↦ few
      | inr room ↦
          let one_more : (n / least + 1) * least ≤ n = omega (arith, room, add-mul (n / least) 1 least) in
          absurd (omega (arith, (le-div_iff_mul-le {k = least} {x = n / least + 1} {y = n} some).1 one_more))
    ]
