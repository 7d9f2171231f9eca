-- The numbers of one table's labels in another table.
use Rattle.std.proofs.Common.{◌≡◌, ℕ, ◌+◌, ◌<◌, Bool, true, false, ◌==◌, List, [], ◌∷◌, ◌++◌, Option, Some, None, length, map, option_map, slice_get, take, refl, sym, ap, ◌∙◌, bytes_eq}
use Rattle.std.proofs.lemmas.Bool.{both_ways, eq-eqb, eqb-true, false_from_ne_true}
use Rattle.std.proofs.lemmas.List.{map-append, take_more}
use Rattle.std.proofs.lemmas.Option.{get_or_from_slice_get, none-some, same_Some, slice_get-map, slice_get_within}
use Rattle.std.specs.Option.{unwrap_or}
use Rattle.std.proofs.lemmas.Slice.Eq.{bytes_eq-Decides}
use Rattle.pmap_model.specs.Label.{number_of}
use Rattle.pmap_model.specs.MapModel.{Label}
use Rattle.pmap_model.specs.MapText.{text_at}
use Rattle.pmap_model.specs.declared.label.LabelId.{LabelId}
use Rattle.pmap_model.proofs.LabelTexts.{slice_get-number}
use Rattle.pmap_stretches.proofs.Orders.{known_text}
use Rattle.cert_check.specs.Inner.{AreNumbers}

-- the numbers of the first i + 1 labels, by those of the first i
pub numbers-more : (from to : List Label) (i : ℕ) (text : Label) (items new : List (Option LabelId)) (o : Option LabelId)
    → map (option_map (λ id. id.0)) items ≡ map (number_of to) (take i from) → Some text ≡ slice_get from i → option_map (λ id. id.0) o ≡ number_of to text
    → new ≡ items ++ o ∷ [] → map (option_map (λ id. id.0)) new ≡ map (number_of to) (take (i + 1) from)
numbers-more from to i text items new o so_far listed found pushed =
    let f : Option LabelId → Option ℕ = option_map (λ (id : LabelId). id.0) in
    let less : i < length from = slice_get_within from i text (sym listed) in
    let taken : take (i + 1) from ≡ take i from ++ text ∷ [] =
    take_more from i text less ∙ ap (λ (t : Label). take i from ++ t ∷ []) (get_or_from_slice_get from i text text (sym listed)) in
    ap (map f) pushed ∙ map-append f items (o ∷ [])
    ∙ (λ j. so_far j ++ found j ∷ [])
    ∙ sym (ap (map (number_of to)) taken ∙ map-append (number_of to) (take i from) (text ∷ []))

-- Labels of two tables are equal exactly if their numbers in the second are.
module _ (numbers : List (Option LabelId)) (from to : List Label) (are : AreNumbers numbers from to) (own id : ℕ) (known : id < length to) (o : Option LabelId)
    (listed : slice_get numbers own ≡ Some o) where
  number : option_map (λ i. i.0) o ≡ number_of to (text_at from own)
  number =
      let f : Option LabelId → Option ℕ = option_map (λ (i : LabelId). i.0) in
      let mapped : option_map (number_of to) (slice_get from own) ≡ Some (f o) =
      sym (slice_get-map (number_of to) from own) ∙ ap (λ (xs : List (Option ℕ)). slice_get xs own) (sym are.each) ∙ slice_get-map f numbers own ∙ ap (option_map f) listed in
      by (slice_get from own) refl mapped
    where
      by : (t : Option Label) → slice_get from own ≡ t → option_map (number_of to) t ≡ Some (option_map (λ (i : LabelId). i.0) o) → option_map (λ (i : LabelId). i.0) o ≡ number_of to (text_at from own)
      by None is e = absurd (none-some (option_map (λ (i : LabelId). i.0) o) e)
      by (Some t) is e =
          sym (same_Some (number_of to t) (option_map (λ (i : LabelId). i.0) o) e)
          ∙ ap (number_of to) (sym (ap (λ (x : Option Label). unwrap_or x []) is))

  own-number : number_of to (text_at to id) ≡ Some id
  own-number = (are.table).places id (text_at to id) (known_text to id known)

  pub same-some : (n : LabelId) → o ≡ Some n → (n.0 == id) ≡ bytes_eq (text_at from own) (text_at to id)
  same-some n is = by (bytes_eq (text_at from own) (text_at to id)) refl
    where
      found : number_of to (text_at from own) ≡ Some n.0
      found = sym number ∙ ap (option_map (λ (i : LabelId). i.0)) is

      by : (b : Bool) → bytes_eq (text_at from own) (text_at to id) ≡ b → (n.0 == id) ≡ b
      by true e =
          eq-eqb n.0 id (same_Some n.0 id (sym found ∙ ap (number_of to) ((bytes_eq-Decides (text_at from own) (text_at to id)).0 e) ∙ own-number))
      by false e = false_from_ne_true (n.0 == id) (λ h. both_ways (bytes_eq (text_at from own) (text_at to id)) e
          ((bytes_eq-Decides (text_at from own) (text_at to id)).1
          (same_Some (text_at from own) (text_at to id)
          (sym (slice_get-number to (text_at from own) n.0 found) ∙ ap (slice_get to) (eqb-true n.0 id h) ∙ known_text to id known))))

  pub same-none : o ≡ None → false ≡ bytes_eq (text_at from own) (text_at to id)
  same-none is = sym (false_from_ne_true (bytes_eq (text_at from own) (text_at to id)) (λ h.
      absurd (none-some id (sym (ap (option_map (λ (i : LabelId). i.0)) is) ∙ number ∙ ap (number_of to) ((bytes_eq-Decides (text_at from own) (text_at to id)).0 h) ∙ own-number))))
