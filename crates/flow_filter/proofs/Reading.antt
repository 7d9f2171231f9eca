-- The items of a text that is read item by item, and the options that are read one by one.
use Rattle.std.proofs.Common.{◌≡◌, ◌∙◌, inl, inr, ℕ, zero, suc, ◌+◌, ◌<◌, ◌==◌, ◌&&◌, ◌||◌, true, false, List, [], ◌∷◌, ◌++◌, Option, Some, None, Ok, add-one, append_assoc, arith, drop, get_or, length, map, option_map, refl, sym, ap}
use Rattle.std.specs.Prelude.{find, is_none}
use Rattle.std.specs.List.{list_any, slice_split}
use Rattle.std.specs.Option.{option_map_or, option_to_list}
use Rattle.std.proofs.lemmas.List.{append-nil, drop_all}
use Rattle.std.proofs.lemmas.List.Folds.{find-append}
use Rattle.std.proofs.lemmas.List.Splits.{slice_split_none}
use Rattle.std.proofs.lemmas.Option.{same_Some}
use Rattle.prefix_keys.specs.Text.{AddressOf, all_some}
use Rattle.flow_rows.specs.Elements.{RowView}
use Rattle.flow_filter.specs.Condition.{Condition, Part, Range, RowTest, filter_among, given, in_range, is_malformed, item_test, meets_option, tests_of, unless_malformed}
use Rattle.flow_filter.specs.Filters.{IsFault, IsRefused, by_range, in_ranges, tested_number}
use Rattle.flow_filter.specs.Options.{FilterFaultKind, FilterOption, is_list, is_on_labels, AnyLabel, DestinationLabel, SourceLabel}

-- one more item that exists
pub all_some-push : {X : Type 0} (os : List (Option X)) (xs : List X) (x : X) → all_some os ≡ Some xs
    → all_some (os ++ Some x ∷ []) ≡ Some (xs ++ x ∷ [])
all_some-push [] xs x is = ap (λ l. Some (l ++ x ∷ [])) (same_Some _ _ is)
all_some-push (None ∷ os) xs x is = absurd (cc)
all_some-push {X} (Some y ∷ os) xs x is = by (all_some os) (λ ys. all_some-push os ys x) is
  where
    by : (r : Option (List X)) → ((ys : List X) → r ≡ Some ys → all_some (os ++ Some x ∷ []) ≡ Some (ys ++ x ∷ []))
        → option_map (λ ys. y ∷ ys) r ≡ Some xs → option_map (λ ys. y ∷ ys) (all_some (os ++ Some x ∷ [])) ≡ Some (xs ++ x ∷ [])
    by None more is = absurd (cc)
    by (Some ys) more is = rw (more ys refl) (ap (λ l. Some (l ++ x ∷ [])) (same_Some _ _ is))

-- an item that doesn't exist
pub all_some-none : {X : Type 0} (os : List (Option X)) (k : ℕ) (d : Option X) → k < length os → get_or os k d ≡ None → all_some os ≡ None
all_some-none [] k d within is = absurd (omega (arith, within))
all_some-none (o ∷ os) zero d within is = rw is refl
all_some-none (None ∷ os) (suc k) d within is = refl
all_some-none (Some y ∷ os) (suc k) d within is = rw (all_some-none os k d (omega (arith, within)) is) refl

-- the whole text is the only item of an option without a list
only_item : (o : FilterOption) (text : List ℕ) → is_list o ≡ false → slice_split (λ b. is_list o && b == 44) text ≡ text ∷ []
only_item o text single = slice_split_none (λ b. is_list o && b == 44) text (λ k d within. rw single refl)

pub meets_one : (o : FilterOption) (text : List ℕ) (label : AddressOf → Option (List ℕ)) (row : RowView) → is_list o ≡ false
    → meets_option label row (o, text) ≡ option_map_or (λ test. test label row) (item_test o text) false
meets_one o text label row single =
    ap (λ items. option_map_or (list_any (λ test. test label row)) (all_some (map (item_test o) items)) false) (only_item o text single)
    ∙ one (item_test o text)
  where
    one : (test : Option RowTest)
        → option_map_or (list_any (λ test. test label row)) (all_some (test ∷ [])) false ≡ option_map_or (λ test. test label row) test false
    one None = refl
    one (Some test) = grind arith

pub label_sound : (o : FilterOption) (text : List ℕ) → is_on_labels o ≡ true → is_malformed (o, text) ≡ false
label_sound SourceLabel text is = ap (λ items. is_none (all_some (map (item_test SourceLabel) items))) (only_item SourceLabel text refl)
label_sound DestinationLabel text is = ap (λ items. is_none (all_some (map (item_test DestinationLabel) items))) (only_item DestinationLabel text refl)
label_sound AnyLabel text is = ap (λ items. is_none (all_some (map (item_test AnyLabel) items))) (only_item AnyLabel text refl)
label_sound o text is = absurd (cc)

-- a row meets an option whose items are ranges if one of them has the row's number
pub ranges_meet : (o : FilterOption) (text : List ℕ) (label : AddressOf → Option (List ℕ)) (row : RowView) (ranges : List Range)
    → tests_of (o, text) ≡ Some (map (by_range o) ranges) → meets_option label row (o, text) ≡ in_ranges ranges (tested_number o row)
ranges_meet o text label row ranges is = ap (λ tests. option_map_or (list_any (λ test. test label row)) tests false) is ∙ one ranges
  where
    one : (rs : List Range) → list_any (λ test. test label row) (map (by_range o) rs) ≡ in_ranges rs (tested_number o row)
    one [] = refl
    one (r ∷ rs) = ap (λ b. in_range (tested_number o row) r || b) (one rs)

-- the parts are the options before an index that are given, and none is malformed
pub record AreRead (options : List FilterOption) (texts : List (Option (List ℕ))) (at : ℕ) (parts : Condition) : Type 0 where
  pub split : given texts options ≡ parts ++ given (drop at texts) (drop at options)
  pub sound : find is_malformed parts ≡ None

given_next : (texts : List (Option (List ℕ))) (os : List FilterOption) (at : ℕ) (o : FilterOption) → at < length os →
    given (drop at texts) (drop at os)
    ≡ option_to_list (option_map (λ t. (get_or os at o, t)) (get_or texts at None)) ++ given (drop (suc at) texts) (drop (suc at) os)
given_next texts [] at o within = absurd (omega (arith, within))
given_next [] (x ∷ os) zero o within = refl
given_next [] (x ∷ os) (suc at) o within = refl
given_next (text ∷ texts) (x ∷ os) zero o within = refl
given_next (text ∷ texts) (x ∷ os) (suc at) o within = given_next texts os at o (omega (arith, within))

given_none : (texts : List (Option (List ℕ))) → given texts [] ≡ []
given_none [] = refl
given_none (text ∷ texts) = refl

pub all_read : (options : List FilterOption) (texts : List (Option (List ℕ))) (at : ℕ) (parts : Condition) → at ≡ length options → AreRead options texts at parts
    → filter_among options texts ≡ Ok parts
all_read options texts at parts end so_far =
    let whole = so_far.split ∙ ap (λ os. parts ++ given (drop at texts) os) (drop_all at options (omega (arith, end))) ∙ ap (λ (rest : Condition). parts ++ rest) (given_none (drop at texts))
    ∙ append-nil parts in
    rw (whole, so_far.sound) refl

module _ (options : List FilterOption) (texts : List (Option (List ℕ))) (at : ℕ) (parts : Condition) (o : FilterOption) (so_far : AreRead options texts at parts) (within : at < length options) where
  next : (text : Option (List ℕ)) → get_or texts at None ≡ text → given texts options
      ≡ parts ++ (option_to_list (option_map (λ t. (get_or options at o, t)) text) ++ given (drop (at + 1) texts) (drop (at + 1) options))
  next text is = rw (add-one, ← is) (so_far.split ∙ ap (λ (rest : Condition). parts ++ rest) (given_next texts options at o within))

  pub none_more : get_or texts at None ≡ None → AreRead options texts (at + 1) parts
  none_more is = record { split = next None is; sound = so_far.sound }

  module _ (text : List ℕ) (is : get_or texts at None ≡ Some text) where
    abbrev part : Part
    part = (get_or options at o, text)

    pub one_more : is_malformed part ≡ false → AreRead options texts (at + 1) (parts ++ part ∷ [])
    one_more sound = record {
      split = next (Some text) is ∙ sym (append_assoc parts (part ∷ []) _);
      sound = find-append is_malformed parts (part ∷ []) ∙ rw (so_far.sound, sound) refl;
    }

    pub is_fault : (kind : FilterFaultKind) → IsRefused part kind → IsFault options texts (record { option = part.0; kind = kind })
    is_fault kind (inl memory) = inl (memory, record { before = parts; text = text; after = given (drop (at + 1) texts) (drop (at + 1) options); split = next (Some text) is; sound = so_far.sound })
    is_fault kind (inr (malformed, same)) =
        let condition = given texts options in
        let first : find is_malformed condition ≡ Some part =
        ap (find is_malformed) (next (Some text) is) ∙ find-append is_malformed parts _ ∙ rw (so_far.sound, malformed) refl in
        inr (rw same (ap (unless_malformed condition) first))
