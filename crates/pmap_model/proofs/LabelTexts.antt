-- Lemmas about label tables.
use Rattle.std.proofs.Common.{◌≡◌, ℕ, zero, suc, ◌+◌, ◌<◌, Bool, true, false, not, ◌||◌, cond, if◌then◌else◌, List, [], ◌∷◌, ◌++◌, map, length, length-append, Some, None, IsTrue, ◌⊎◌, inl, inr, refl, sym, ap, subst, ◌∙◌, arith, ltb, get_or, Option, option_map}
use Rattle.std.proofs.lemmas.Bool.Decides.{nat_tests}
use Rattle.std.proofs.lemmas.List.{length-map, map-append}
use Rattle.std.proofs.lemmas.List.Folds.{position_or_len_push}
use Rattle.std.proofs.lemmas.List.Quantifiers.{position-Some}
use Rattle.std.proofs.lemmas.List.Sums.{prefix_len-le-length}
use Rattle.std.proofs.lemmas.Option.{none-some, slice_get-get_or}
use Rattle.std.proofs.lemmas.Slice.Eq.{bytes_eq-Decides}
use Rattle.std.specs.List.{list_any, position_or_len, slice_get}
use Rattle.std.specs.Option.{is_some}
use Rattle.std.specs.Prelude.{position}
use Rattle.std.specs.Str.{bytes_eq}
use Rattle.indexmap.specs.IndexSet.{insert_key}
use Rattle.pmap_model.specs.Label.{is_label, has_label, number_of, with_label, IsLabelTable}
use Rattle.pmap_model.specs.MapModel.{Label}
use Rattle.pmap_model.specs.declared.label.LabelId.{LabelId}

-- the first index at which a test passes, and a test of any element, after map
pub position_or_len-map : {X Y : Type 0} (f : X → Y) (p : Y → Bool) (xs : List X) → position_or_len p (map f xs) ≡ position_or_len (λ x. p (f x)) xs
position_or_len-map f p [] = refl
position_or_len-map f p (x ∷ xs) = ap (λ n. cond (not (p (f x))) (1 + n) 0) (position_or_len-map f p xs)

pub list_any-map : {X Y : Type 0} (f : X → Y) (p : Y → Bool) (xs : List X) → list_any p (map f xs) ≡ list_any (λ x. p (f x)) xs
list_any-map f p [] = refl
list_any-map f p (x ∷ xs) = ap (λ b. p (f x) || b) (list_any-map f p xs)

pub position-map : {X Y : Type 0} (f : X → Y) (p : Y → Bool) (xs : List X) → position p (map f xs) ≡ position (λ x. p (f x)) xs
position-map f p xs = rw (position_or_len-map f p xs, length-map xs f) refl

-- the first index is below the length if and only if some element passes
pub any_place : {X : Type 0} (p : X → Bool) (xs : List X) → ltb (position_or_len p xs) (length xs) ≡ list_any p xs
any_place p [] = refl
any_place {X} p (x ∷ xs) = by (p x) refl (any_place p xs)
  where
    by : (b : Bool) → p x ≡ b → ltb (position_or_len p xs) (length xs) ≡ list_any p xs → ltb (position_or_len p (x ∷ xs)) (length (x ∷ xs)) ≡ list_any p (x ∷ xs)
    by true e rest = rw e (grind (arith, nat_tests))
    by false e rest = rw e (grind (arith, nat_tests))

pub position-any : {X : Type 0} (p : X → Bool) (xs : List X) → position p xs ≡ cond (list_any p xs) (Some (position_or_len p xs)) None
position-any p xs = ap (λ b. cond b (Some (position_or_len p xs)) None) (any_place p xs)

-- an element keeps its index if others follow
pub slice_get-append : {X : Type 0} (xs ys : List X) (i : ℕ) (x : X) → slice_get xs i ≡ Some x → slice_get (xs ++ ys) i ≡ Some x
slice_get-append [] ys i x e = absurd (none-some x e)
slice_get-append (z ∷ zs) ys zero x e = e
slice_get-append (z ∷ zs) ys (suc i) x e = slice_get-append zs ys i x e

-- an element of a list with one more is one from before, or the last
pub slice_get-push : {X : Type 0} (xs : List X) (x : X) (i : ℕ) (y : X) → slice_get (xs ++ x ∷ []) i ≡ Some y → (slice_get xs i ≡ Some y) ⊎ ((i ≡ length xs) × (x ≡ y))
slice_get-push [] x zero y e = inr (refl, (cc))
slice_get-push [] x (suc i) y e = absurd (none-some y e)
slice_get-push (z ∷ zs) x zero y e = inl e
slice_get-push (z ∷ zs) x (suc i) y e =
    elim (slice_get-push zs x i y e) [ inl a ↦ inl a | inr b ↦ inr (ap (λ n. suc n) b.0, b.1) ]

-- a text is equal to itself
bytes_eq-same : (x : Label) → bytes_eq x x ≡ true
bytes_eq-same x = (bytes_eq-Decides x x).1 refl

-- an index that exists is unchanged if another element follows
position-push : {X : Type 0} (p : X → Bool) (xs : List X) (x : X) (i : ℕ) → position p xs ≡ Some i → position p (xs ++ x ∷ []) ≡ Some i
position-push p xs x i e = grind (arith, nat_tests, position_or_len_push p xs x, length-append xs (x ∷ []))

-- if no element passes, the first index is the length
pub place-none : {X : Type 0} (p : X → Bool) (xs : List X) → list_any p xs ≡ false → position_or_len p xs ≡ length xs
place-none p xs h = grind (arith, nat_tests, any_place p xs, prefix_len-le-length (λ x. not (p x)) xs)

-- and an element that passes and goes last is the first that passes
position-last : {X : Type 0} (p : X → Bool) (xs : List X) (x : X) → list_any p xs ≡ false → p x ≡ true → position p (xs ++ x ∷ []) ≡ Some (length xs)
position-last p xs x h e = grind (arith, nat_tests, place-none p xs h, position_or_len_push p xs x, length-append xs (x ∷ []))

-- a label table remains one if a new label is added at the end
IsLabelTable-push : (table : List Label) (x : Label) → IsLabelTable table → IsTrue (is_label x) → length table < 65536 → has_label table x ≡ false → IsLabelTable (table ++ x ∷ [])
IsLabelTable-push table x ok label room h = record {
  few = omega (arith, length-append table (x ∷ []), ok.few, room);
  labels = λ i y e. elim (slice_get-push table x i y e) [ inl a ↦ ok.labels i y a | inr b ↦ subst (λ z. IsTrue (is_label z)) b.1 label ];
  places = λ i y e. elim (slice_get-push table x i y e) [
    | inl a ↦ position-push (bytes_eq y) table x i (ok.places i y a)
    | inr b ↦ subst (λ z. number_of (table ++ x ∷ []) z ≡ Some i) b.1 (position-last (bytes_eq x) table x h (bytes_eq-same x) ∙ ap Some (sym b.0))
  ];
}

module _ (table : List Label) (x : Label) where
  -- facts about the table from a text's number
  pub is_some-number : (found : Option LabelId) → option_map (λ id. id.0) found ≡ number_of table x → is_some found ≡ has_label table x
  is_some-number found e = by found ∙ ap is_some (e ∙ position-any (bytes_eq x) table) ∙ from (has_label table x)
    where
      by : (found : Option LabelId) → is_some found ≡ is_some (option_map (λ id. id.0) found)
      by None = refl
      by (Some id) = refl

      from : (b : Bool) → is_some (cond b (Some (position_or_len (bytes_eq x) table)) None) ≡ b
      from true = refl
      from false = refl

  pub has_label-number : (i : ℕ) → number_of table x ≡ Some i → has_label table x ≡ true
  has_label-number i e = sym (is_some-number (Some (record { 0 = i })) (sym e))

  pub number_of-known : has_label table x ≡ true → number_of table x ≡ Some (position_or_len (bytes_eq x) table)
  number_of-known h = position-any (bytes_eq x) table ∙ ap (λ b. cond b (Some (position_or_len (bytes_eq x) table)) None) h

  -- the text is at the index that is its number
  pub slice_get-number : (i : ℕ) → number_of table x ≡ Some i → slice_get table i ≡ Some x
  slice_get-number i e =
      let found = position-Some (bytes_eq x) table i [] e in
      slice_get-get_or table i [] found.0 ∙ ap Some (sym ((bytes_eq-Decides x (get_or table i [])).0 found.1))

  -- the table after a label is added, if it was known and if it was not
  pub with_label-known : has_label table x ≡ true → with_label table x ≡ table
  with_label-known h = ap (λ b. if b then table else table ++ x ∷ []) h

  pub with_label-new : has_label table x ≡ false → with_label table x ≡ table ++ x ∷ []
  with_label-new h = ap (λ b. if b then table else table ++ x ∷ []) h

  -- each text keeps its number
  pub slice_get-with_label : (i : ℕ) (y : Label) → slice_get table i ≡ Some y → slice_get (with_label table x) i ≡ Some y
  slice_get-with_label i y e = by (has_label table x) refl
    where
      by : (b : Bool) → has_label table x ≡ b → slice_get (with_label table x) i ≡ Some y
      by true h = rw (with_label-known h) e
      by false h = rw (with_label-new h) (slice_get-append table (x ∷ []) i y e)

  -- the text has the first index that it had, or the last
  pub number_of-added : number_of (with_label table x) x ≡ Some (position_or_len (bytes_eq x) table)
  number_of-added = by (has_label table x) refl
    where
      by : (b : Bool) → has_label table x ≡ b → number_of (with_label table x) x ≡ Some (position_or_len (bytes_eq x) table)
      by true h = rw (with_label-known h) (number_of-known h)
      by false h = rw (with_label-new h) (position-last (bytes_eq x) table x h (bytes_eq-same x) ∙ ap Some (sym (place-none (bytes_eq x) table h)))

  -- a label table remains one
  pub IsLabelTable-with_label : IsLabelTable table → IsTrue (is_label x) → length table < 65536 → IsLabelTable (with_label table x)
  IsLabelTable-with_label ok label room = by (has_label table x) refl
    where
      by : (b : Bool) → has_label table x ≡ b → IsLabelTable (with_label table x)
      by true h = subst IsLabelTable (sym (with_label-known h)) ok
      by false h = subst IsLabelTable (sym (with_label-new h)) (IsLabelTable-push table x ok label room h)

-- the table has it
pub has_label-with_label : (table : List Label) (x : Label) → has_label (with_label table x) x ≡ true
has_label-with_label table x = has_label-number (with_label table x) x (position_or_len (bytes_eq x) table) (number_of-added table x)

-- the texts of a set, after one is inserted
pub map-insert_key : {X : Type 0} (f : X → Label) (keys : List X) (key : X) → map f (insert_key (λ x y. bytes_eq (f x) (f y)) keys key) ≡ with_label (map f keys) (f key)
map-insert_key {X} f keys key = by (has_label (map f keys) (f key)) refl
  where
    by : (b : Bool) → has_label (map f keys) (f key) ≡ b → map f (insert_key (λ x y. bytes_eq (f x) (f y)) keys key) ≡ with_label (map f keys) (f key)
    by true h = ap (λ b. map f (if b then keys else keys ++ key ∷ [])) (sym (list_any-map f (bytes_eq (f key)) keys) ∙ h) ∙ sym (with_label-known (map f keys) (f key) h)
    by false h = ap (λ b. map f (if b then keys else keys ++ key ∷ [])) (sym (list_any-map f (bytes_eq (f key)) keys) ∙ h) ∙ map-append f keys (key ∷ []) ∙ sym (with_label-new (map f keys) (f key) h)
