-- The fields of a text, item by item.
use Rattle.std.proofs.Common.{◌≡◌, ℕ, ◌<◌, Bool, false, true, not, true≢false, if◌then◌else◌, List, [], ◌∷◌, ◌++◌, Some, None, length, ◌+◌, take, drop, get_or, refl, sym, ap, ◌∙◌, arith}
use Rattle.std.proofs.lemmas.Cmp.{nat_list_eq_equiv, on_equiv}
use Rattle.std.proofs.lemmas.List.{length_push, take-append-drop}
use Rattle.std.proofs.lemmas.List.Elements.{filter_map-append}
use Rattle.std.proofs.lemmas.List.Folds.{list_any-append}
use Rattle.std.proofs.lemmas.List.Sums.{fold-append, fold_more, fold_push}
use Rattle.std.proofs.lemmas.Map.Keys.{IsDistinct-push}
use Rattle.std.proofs.lemmas.Map.Made.{length-le_from_is_member}
use Rattle.std.specs.Cmp.{IsEquivalence}
use Rattle.std.specs.List.{IsDistinct, cons_option, list_any}
use Rattle.std.specs.Str.{bytes_eq}
use Rattle.std.specs.Prelude.{fold, Result, Ok, Err, is_none, ok_or, ◌||◌}
use Rattle.std.specs.Set.{is_member}
use Rattle.flow_uniq.specs.Key.{KeyField, TimeUnit, Precision, Day, Hour, Minute, KeyFault, BadField, FieldRepeated, each_once, field_name, field_named, has_unnamed, items_of, keys_among, many_fields, named_fields, same_field, with_field, with_unit}
use Rattle.flow_uniq.specs.Times.{precision_name}
use Rattle.flow_uniq.specs.declared.field.KeyField.TheVariants.{SourceAddress, DestinationAddress, Number, SourceLabel, DestinationLabel, Start}
use Rattle.flow_rows.specs.declared.number.Number.TheVariants.{SourcePort, DestinationPort, Protocol, Flags, InputInterface, OutputInterface, Vlan, SourceAs, DestinationAs}
use Rattle.flow_rows.specs.Numbers.{about}
use Rattle.flow_rows.specs.declared.number.Number as rows

same_field-equiv : IsEquivalence same_field
same_field-equiv = on_equiv field_name nat_list_eq_equiv

-- a field of each name
abbrev every_name : List KeyField
every_name =
    one Day ∷ one Hour ∷ one Minute ∷ many_fields
  where
    one : Precision → KeyField
    one precision = Start (record { precision = precision; count = 1; some = omega arith })

is_field : (field : KeyField) → is_member same_field every_name field ≡ true
is_field (Start unit) = by unit.precision
  where
    by : (precision : Precision) → list_any (λ other. bytes_eq (precision_name precision) (field_name other)) every_name ≡ true
    by Day = refl
    by Hour = refl
    by Minute = refl
is_field SourceAddress = refl
is_field DestinationAddress = refl
is_field (Number number) = by number
  where
    by : (number : rows.Number) → list_any (λ other. bytes_eq (about number).0 (field_name other)) every_name ≡ true
    by SourcePort = refl
    by DestinationPort = refl
    by Protocol = refl
    by Flags = refl
    by InputInterface = refl
    by OutputInterface = refl
    by Vlan = refl
    by SourceAs = refl
    by DestinationAs = refl
is_field SourceLabel = refl
is_field DestinationLabel = refl

pub none_there : IsDistinct same_field []
unfolding IsDistinct
none_there = tt

-- fields that are distinct, and another one, are at most sixteen
module _ (fields : List KeyField) (field : KeyField) (once : IsDistinct same_field fields) (new : list_any (same_field field) fields ≡ false) where
  pub once_more : IsDistinct same_field (fields ++ field ∷ [])
  once_more = IsDistinct-push same_field-equiv fields field once new

  pub at_most_sixteen : length fields < 16
  at_most_sixteen =
      omega (
        arith,
        length_push fields field,
        length-le_from_is_member same_field-equiv (fields ++ field ∷ []) every_name once_more (λ other _. is_field other),
      )

-- the items name fields, which are these unless one occurs twice
pub record IsRead (known : List KeyField) (names : List (List ℕ)) (twice : Bool) (keys : List KeyField) : Type 0 where
  pub named : has_unnamed known names ≡ false
  pub fields : (if twice then None else Some keys) ≡ each_once (named_fields known names)

-- the items are followed by the name of a field, which was added to the fields or is one of them
module _ (known : List KeyField) (names : List (List ℕ)) (name : List ℕ) (field : KeyField) (twice : Bool) (keys new : List KeyField) where
  one : (added here : Bool) → added ≡ not here → new ≡ (if added then keys ++ field ∷ [] else keys)
      → (if (if added then false else true) then None else Some new) ≡ (if here then None else Some (keys ++ field ∷ []))
  one true true at grown = absurd (true≢false at)
  one true false at grown = ap Some grown
  one false true at grown = refl
  one false false at grown = absurd (true≢false (sym at))

  by : (b added : Bool) → added ≡ not (list_any (same_field field) keys) → new ≡ (if added then keys ++ field ∷ [] else keys)
      → (if (if added then b else true) then None else Some new) ≡ with_field (if b then None else Some keys) field
  by true true at grown = refl
  by true false at grown = refl
  by false added at grown = one added (list_any (same_field field) keys) at grown

  pub read_more : field_named known name ≡ Some field → IsRead known names twice keys → (added now : Bool) → added ≡ not (list_any (same_field field) keys)
      → new ≡ (if added then keys ++ field ∷ [] else keys) → now ≡ (if added then twice else true) → IsRead known (names ++ name ∷ []) now new
  read_more is before added now at grown flagged = record {
    named =
        list_any-append (λ item. is_none (field_named known item)) names (name ∷ []) ∙ (λ i. before.named i || (is_none (is i) || false));
    fields =
        ap (λ b. if b then None else Some new) flagged ∙ by twice added at grown ∙ ap (λ o. with_field o field) before.fields
        ∙ sym (ap each_once (filter_map-append (field_named known) names (name ∷ []) ∙ ap (λ o. named_fields known names ++ cons_option o []) is)
        ∙ fold_push with_field (Some []) (named_fields known names) field);
  }

module _ (known : List KeyField) (text : List ℕ) where
  pub not_read : has_unnamed known (items_of text) ≡ true → Err BadField ≡ keys_among known text
  not_read unnamed = ap (λ b. if b then Err BadField else ok_or (each_once (named_fields known (items_of text))) FieldRepeated) (sym unnamed)

  pub read_all : (names : List (List ℕ)) (twice : Bool) (keys : List KeyField) → names ≡ items_of text → IsRead known names twice keys
      → ok_or (if twice then None else Some keys) FieldRepeated ≡ keys_among known text
  read_all names twice keys same is =
      (λ i. if sym is.named i then Err BadField else ok_or (is.fields i) FieldRepeated)
      ∙ ap (λ items. if has_unnamed known items then Err BadField else ok_or (each_once (named_fields known items)) FieldRepeated) same

-- the fault, if there is one
abbrev pub fault_of : Result KeyField KeyFault → KeyFault
fault_of (Ok field) = BadField
fault_of (Err fault) = fault

-- The start of a unit of time, and the first fields of a list.

none_more : (fields : List KeyField) → fold with_field None fields ≡ None
none_more [] = refl
none_more (field ∷ fields) = none_more fields

module _ (unit : TimeUnit) (fields : List KeyField) (i : ℕ) (d : KeyField) (field : KeyField) (is : field ≡ get_or fields i d) (within : i < length fields)
    (keys : List KeyField) (so_far : Some keys ≡ with_unit unit (take i fields)) where
  next_field : with_unit unit (take (i + 1) fields) ≡ with_field (Some keys) field
  next_field = fold_more with_field (Some (Start unit ∷ [])) fields i d within ∙ (λ j. with_field (sym so_far j) (sym is j))

  pub field_added : (added : Bool) → added ≡ true → added ≡ not (list_any (same_field field) keys) → (new : List KeyField)
      → new ≡ (if added then keys ++ field ∷ [] else keys) → Some new ≡ with_unit unit (take (i + 1) fields)
  field_added true _ at new grown = ap Some grown ∙ by (list_any (same_field field) keys) at ∙ sym next_field
    where
      by : (b : Bool) → true ≡ not b → Some (keys ++ field ∷ []) ≡ (if b then None else Some (keys ++ field ∷ []))
      by true e = absurd (true≢false e)
      by false _ = refl
  field_added false is_true _ new grown = absurd (true≢false (sym is_true))

  pub field_twice : (added : Bool) → added ≡ false → added ≡ not (list_any (same_field field) keys) → None ≡ with_unit unit fields
  field_twice true is_false _ = absurd (true≢false is_false)
  field_twice false _ at =
      sym (ap (with_unit unit) (sym (take-append-drop (i + 1) fields))
      ∙ fold-append with_field (Some (Start unit ∷ [])) (take (i + 1) fields) (drop (i + 1) fields)
      ∙ ap (λ o. fold with_field o (drop (i + 1) fields)) (next_field ∙ by (list_any (same_field field) keys) at)
      ∙ none_more (drop (i + 1) fields))
    where
      by : (b : Bool) → false ≡ not b → (if b then None else Some (keys ++ field ∷ [])) ≡ None
      by true e = refl
      by false e = absurd (true≢false (sym e))
