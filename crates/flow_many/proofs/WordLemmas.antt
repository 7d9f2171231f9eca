-- The command line of the program, and the keys that it asks for.
use Rattle.std.proofs.Common.{◌≡◌, ◌∙◌, ◌||◌, ℕ, Bool, true, false, List, [], ◌∷◌, ◌++◌, Option, Some, None, Result, Ok, Err, ap, append_assoc, refl, subst, sym}
use Rattle.std.specs.Prelude.{find, fold, if◌then◌else◌, ok_or, option_map}
use Rattle.std.specs.List.{cons_option, list_any}
use Rattle.std.specs.Result.{result_map_both}
use Rattle.std.specs.Str.{bytes_eq}
use Rattle.std.proofs.lemmas.Bool.{or_parts}
use Rattle.std.proofs.lemmas.List.{append-nil}
use Rattle.pmap_model.specs.Steps.{◌>>=◌}
use Rattle.flow_uniq.specs.Key.{each_once, field_name, field_named, fields_need_labels, has_unnamed, items_of, keys_among, many_fields, named_fields, same_field, with_field, with_unit}
use Rattle.flow_uniq.specs.declared.fault.KeyFault.{KeyFault}
use Rattle.flow_uniq.specs.declared.fault.KeyFault.TheVariants.{BadField, FieldRepeated}
use Rattle.flow_uniq.specs.declared.field.KeyField.{KeyField}
use Rattle.flow_uniq.specs.declared.field.Precision.{Precision}
use Rattle.flow_uniq.specs.declared.field.Precision.TheVariants.{Day, Hour, Minute}
use Rattle.flow_uniq.specs.declared.field.TimeUnit.{TimeUnit}
use Rattle.flow_uniq.specs.Times.{precision_name}
use Rattle.flow_uniq.specs.declared.field.KeyField.TheVariants.{Number, Start}
use Rattle.flow_rows.specs.Numbers.{about}
use Rattle.flow_rows.specs.declared.number.Number as rows
use Rattle.flow_rows.specs.declared.number.Number.TheVariants.{SourcePort}
use Rattle.flow_files.specs.Answer.{IsUnlessMemory, fields_reading}
use Rattle.flow_files.specs.Sources.{Text}
use Rattle.flow_files.specs.declared.usage.UsageFault.{UsageFault}
use Rattle.flow_files.specs.declared.usage.UsageFault.TheVariants.{Key}
use Rattle.flow_many.specs.Request.{fields_in, unit_in}
use Rattle.clap.specs.Words.{is_simple, is_simple_and_free}
use Rattle.clap.proofs.OnLiterals.{clap_on_literals}
use Rattle.flow_many.specs.Definition.{many_app}

-- clap's theorems are about definitions such as this one
pub many_is_simple : is_simple many_app ≡ true
unfolding many_app clap_on_literals
many_is_simple = refl

pub many_is_free : is_simple_and_free many_app ≡ true
unfolding many_app clap_on_literals
many_is_free = refl

-- a time is no label
pub need_labels : (keys : List KeyField) → fields_need_labels (fields_in keys) ≡ fields_need_labels keys
need_labels [] = refl
need_labels (Start unit ∷ fields) = refl
need_labels (field ∷ fields) = refl

-- whether the field is a time
is_timed : KeyField → Bool
is_timed (Start unit) = true
is_timed field = false

found_here : {A : Type 0} (here : Bool) (y x : A) (q : A → Bool) (later : Option A) → q y ≡ false → (later ≡ Some x → q x ≡ false)
    → (if here then Some y else later) ≡ Some x → q x ≡ false
found_here true y x q later none rest is = let same : y ≡ x = cc in subst (λ z. q z ≡ false) same none
found_here false y x q later none rest is = rest is

-- an element that is found is one of the list
found_in : {A : Type 0} (p q : A → Bool) (xs : List A) (x : A) → list_any q xs ≡ false → find p xs ≡ Some x → q x ≡ false
found_in p q [] x none is = cc
found_in p q (y ∷ ys) x none is =
    let parts = or_parts (q y) (list_any q ys) none in
    found_here (p y) y x q (find p ys) parts.0 (λ later. found_in p q ys x parts.1 later) is

-- no text names a time
named_timeless : (text : Text) (field : KeyField) → field_named many_fields text ≡ Some field → is_timed field ≡ false
unfolding is_timed
named_timeless text field is = found_in (λ f. bytes_eq (field_name f) text) is_timed many_fields field refl is

cons_timeless : (found : Option KeyField) (rest : List KeyField) → ((field : KeyField) → found ≡ Some field → is_timed field ≡ false)
    → list_any is_timed rest ≡ false → list_any is_timed (cons_option found rest) ≡ false
cons_timeless None rest each none = none
cons_timeless (Some field) rest each none = rw (each field refl) none

all_timeless : (items : List Text) → list_any is_timed (named_fields many_fields items) ≡ false
all_timeless [] = refl
all_timeless (item ∷ items) = cons_timeless (field_named many_fields item) (named_fields many_fields items) (named_timeless item) (all_timeless items)

-- the name of a field that is no time is that of no unit
number_apart : (precision : Precision) (number : rows.Number) → bytes_eq (about number).0 (precision_name precision) ≡ false
number_apart Day SourcePort = refl
number_apart Day number = refl
number_apart Hour SourcePort = refl
number_apart Hour number = refl
number_apart Minute SourcePort = refl
number_apart Minute number = refl

apart : (precision : Precision) (field : KeyField) → is_timed field ≡ false → bytes_eq (field_name field) (precision_name precision) ≡ false
unfolding is_timed
apart Day (Start unit) timeless = cc
apart Day (Number number) timeless = number_apart Day number
apart Day field timeless = refl
apart Hour (Start unit) timeless = cc
apart Hour (Number number) timeless = number_apart Hour number
apart Hour field timeless = refl
apart Minute (Start unit) timeless = cc
apart Minute (Number number) timeless = number_apart Minute number
apart Minute field timeless = refl

-- fields are added, unless one of them is there already
folded_none : (fields : List KeyField) → fold with_field None fields ≡ None
folded_none [] = refl
folded_none (field ∷ fields) = folded_none fields

new_field : (there : Bool) (before fields keys : List KeyField) (field : KeyField)
    → fold with_field (if there then None else Some (before ++ field ∷ [])) fields ≡ Some keys
    → (there ≡ false) × (fold with_field (Some (before ++ field ∷ [])) fields ≡ Some keys)
new_field true before fields keys field is = let bad : None ≡ Some keys = sym (folded_none fields) ∙ is in cc
new_field false before fields keys field is = (refl, is)

folded_are : (before fields keys : List KeyField) → fold with_field (Some before) fields ≡ Some keys → keys ≡ before ++ fields
folded_are before [] keys is = let same : before ≡ keys = cc in sym same ∙ sym (append-nil before)
folded_are before (field ∷ fields) keys is =
    folded_are (before ++ field ∷ []) fields keys (new_field (list_any (same_field field) before) before fields keys field is).1
    ∙ append_assoc before (field ∷ []) fields

folded_after_time : (unit : TimeUnit) (before fields keys : List KeyField) → list_any is_timed fields ≡ false
    → fold with_field (Some before) fields ≡ Some keys → fold with_field (Some (Start unit ∷ before)) fields ≡ Some (Start unit ∷ keys)
folded_after_time unit before [] keys none is = let same : before ≡ keys = cc in ap (λ (ks : List KeyField). Some (Start unit ∷ ks)) same
folded_after_time unit before (field ∷ fields) keys none is =
    let parts = or_parts (is_timed field) (list_any is_timed fields) none in
    let next = new_field (list_any (same_field field) before) before fields keys field is in
    let new : (same_field field (Start unit) || list_any (same_field field) before) ≡ false =
    ap (λ b. b || list_any (same_field field) before) (apart unit.precision field parts.0) ∙ next.0 in
    ap (λ b. fold with_field (if b then None else Some (Start unit ∷ before ++ field ∷ [])) fields) new
    ∙ folded_after_time unit (before ++ field ∷ []) fields keys parts.1 next.1

each_is : (unnamed : Bool) (once : Option (List KeyField)) (keys : List KeyField)
    → (if unnamed then Err BadField else ok_or once FieldRepeated) ≡ Ok keys → once ≡ Some keys
each_is true once keys is = cc
each_is false None keys is = cc
each_is false (Some other) keys is = cc

reads : (names : Text) (r : Result (List KeyField) KeyFault) (keys : List KeyField) → result_map_both (λ fields. fields) Key r ≡ Ok keys → r ≡ Ok keys
reads names (Ok other) keys is = cc
reads names (Err fault) keys is = cc

-- fields that a text names have no time, and a time can be put before them
read_once : (names : Text) (keys : List KeyField) → fields_reading many_fields names ≡ Ok keys → fold with_field (Some []) (named_fields many_fields (items_of names)) ≡ Some keys
read_once names keys is = each_is (has_unnamed many_fields (items_of names)) (each_once (named_fields many_fields (items_of names))) keys (reads names (keys_among many_fields names) keys is)

pub with_unit_is : (unit : TimeUnit) (names : Text) (keys : List KeyField) → fields_reading many_fields names ≡ Ok keys → with_unit unit keys ≡ Some (Start unit ∷ keys)
with_unit_is unit names keys is =
    ap (λ (ks : List KeyField). fold with_field (Some (Start unit ∷ [])) ks) (folded_are [] (named_fields many_fields (items_of names)) keys (read_once names keys is))
    ∙ folded_after_time unit [] (named_fields many_fields (items_of names)) keys (all_timeless (items_of names)) (read_once names keys is)

-- the unit of time and the fields that are asked for
abbrev pub Asked : Type 0
Asked = Option (Precision × ℕ) × List KeyField

abbrev pub asked_of : List KeyField → Asked
asked_of keys = (unit_in keys, fields_in keys)

abbrev pub untimed : List KeyField → Asked
untimed keys = (None, keys)

abbrev pub timed : Precision × ℕ → List KeyField → Asked
timed unit keys = (Some unit, keys)

timeless_parts : (keys : List KeyField) → list_any is_timed keys ≡ false → asked_of keys ≡ untimed keys
unfolding is_timed
timeless_parts [] none = refl
timeless_parts (Start unit ∷ fields) none = cc
timeless_parts (field ∷ fields) none = refl

pub without_time : (names : Text) (result : Result (List KeyField) UsageFault) → IsUnlessMemory (λ (keys : List KeyField). keys) (fields_reading many_fields names) result
    → IsUnlessMemory asked_of (fields_reading many_fields names >>= (λ fields. Ok (untimed fields))) result
without_time names (Ok keys) says =
    ap (λ (r : Result (List KeyField) UsageFault). r >>= (λ fields. Ok (untimed fields))) says
    ∙ ap Ok (sym (timeless_parts keys (subst (λ (ks : List KeyField). list_any is_timed ks ≡ false)
    (sym (folded_are [] (named_fields many_fields (items_of names)) keys (read_once names keys says))) (all_timeless (items_of names)))))
without_time names (Err fault) says = (
  says.0,
  λ other. ap (λ (r : Result (List KeyField) UsageFault). r >>= (λ fields. Ok (untimed fields))) (says.1 other),
)

pub ok_some : {A F : Type 0} (o : Option A) (fault : F) (x : A) → ok_or o fault ≡ Ok x → o ≡ Some x
ok_some None fault x is = cc
ok_some (Some y) fault x is = cc

-- the keys with a unit of time before these fields are what is asked for
pub with_time_is : (unit : TimeUnit) (keys fields : List KeyField) (result : Result (List KeyField) UsageFault) (asked : Result Asked UsageFault)
    → result ≡ ok_or (with_unit unit fields) (Key FieldRepeated) → with_unit unit fields ≡ Some (Start unit ∷ keys)
    → asked ≡ Ok (Some (unit.precision, unit.count), keys) → IsUnlessMemory asked_of asked result
with_time_is unit keys fields result asked is with is_asked =
    subst (λ (r : Result (List KeyField) UsageFault). IsUnlessMemory asked_of asked r) (sym (is ∙ ap (λ o. ok_or o (Key FieldRepeated)) with)) is_asked

pub unit_is : (found : Option TimeUnit) (named : Option (Precision × ℕ)) (unit : TimeUnit) → option_map (λ u. (u.precision, u.count)) found ≡ named
    → found ≡ Some unit → named ≡ Some (unit.precision, unit.count)
unit_is found named unit is some = sym is ∙ ap (option_map (λ (u : TimeUnit). (u.precision, u.count))) some
