-- Lemmas about numbers paired with texts.
use Rattle.std.proofs.Common.{◌≡◌, ℕ, ◌+◌, ◌≤◌, Bool, true, false, not, cond, ◌||◌, ◌==◌, List, [], ◌∷◌, ◌++◌, length, length-append, Some, None, IsTrue, inl, inr, refl, sym, ap, subst, ◌∙◌, arith, ltb, option_map, if◌then◌else◌}
use Rattle.std.proofs.lemmas.Bool.{eqb-true, eq-eqb}
use Rattle.std.proofs.lemmas.Bool.Decides.{nat_tests}
use Rattle.std.proofs.lemmas.Cmp.{nat_eq_equiv, nat_list_eq_equiv}
use Rattle.std.proofs.lemmas.List.Folds.{find_at}
use Rattle.std.proofs.lemmas.Option.{none-some, slice_get-map, slice_get_past}
use Rattle.std.proofs.lemmas.Slice.Eq.{bytes_eq-Decides}
use Rattle.std.proofs.lemmas.Slice.Zip.{firsts-zip, seconds-zip}
use Rattle.std.specs.List.{list_any, position_or_len, slice_get, zip, AllByRecursion, IsDistinct}
use Rattle.std.specs.Option.{option_eq}
use Rattle.std.specs.Prelude.{nat_eq, position}
use Rattle.std.specs.Str.{bytes_eq}
use Rattle.pmap_model.proofs.LabelTexts.{any_place, list_any-map, place-none, position-any, position_or_len-map, slice_get-push}
use Rattle.pmap_text.proofs.Places.{position_or_len-le}
use Rattle.pmap_text.specs.Declarations.{ArePaired, conflicts, declared_text, with_declared}
use Rattle.pmap_model.specs.Label.{has_label, is_label}
use Rattle.pmap_model.specs.MapModel.{Label}

none_passes : {X : Type 0} (p : X → Bool) (xs : List X) → AllByRecursion (λ x. p x ≡ false) xs → list_any p xs ≡ false
none_passes p [] h = refl
none_passes p (x ∷ xs) h = ap (λ b. b || list_any p xs) h.0 ∙ none_passes p xs h.1

module _ (ns : List ℕ) (ts : List Label) (same : length ts ≡ length ns) (number : ℕ) where
  -- a number is declared if and only if it is among the numbers
  pub is_declared : list_any (λ (d : ℕ × Label). d.0 == number) (zip ns ts) ≡ list_any (nat_eq number) ns
  is_declared =
      sym (list_any-map (λ d. d.0) (λ n. n == number) (zip ns ts))
      ∙ ap (list_any (λ n. n == number)) (firsts-zip ns ts same)
      ∙ ap (λ p. list_any p ns) (λ i n. nat_eq_equiv.symm n number i)

  -- its text is at its index
  pub declared_text-place : declared_text (zip ns ts) number ≡ slice_get ts (position_or_len (nat_eq number) ns)
  declared_text-place =
      let place : position_or_len (λ (d : ℕ × Label). d.0 == number) (zip ns ts) ≡ position_or_len (nat_eq number) ns =
      sym (position_or_len-map (λ d. d.0) (λ n. n == number) (zip ns ts))
      ∙ ap (position_or_len (λ n. n == number)) (firsts-zip ns ts same)
      ∙ ap (λ p. position_or_len p ns) (λ i n. nat_eq_equiv.symm n number i) in
      ap (option_map (λ d. d.1)) (find_at (λ d. d.0 == number) (zip ns ts))
      ∙ sym (slice_get-map (λ d. d.1) (zip ns ts) (position_or_len (λ d. d.0 == number) (zip ns ts)))
      ∙ (λ i. slice_get (seconds-zip ns ts same i) (place i))

  pub declared_text-none : position (nat_eq number) ns ≡ None → declared_text (zip ns ts) number ≡ None
  declared_text-none e = by (list_any (nat_eq number) ns) refl
    where
      by : (b : Bool) → list_any (nat_eq number) ns ≡ b → declared_text (zip ns ts) number ≡ None
      by false h = declared_text-place ∙ slice_get_past ts (position_or_len (nat_eq number) ns) (omega (arith, place-none (nat_eq number) ns h, same))
      by true h = absurd (none-some (position_or_len (nat_eq number) ns) (sym e ∙ position-any (nat_eq number) ns ∙ ap (λ b. cond b (Some (position_or_len (nat_eq number) ns)) None) h))

  pub declared_text-some : (i : ℕ) (text : Label) → position (nat_eq number) ns ≡ Some i → slice_get ts i ≡ Some text → declared_text (zip ns ts) number ≡ Some text
  declared_text-some i text e at = by (list_any (nat_eq number) ns) refl
    where
      by : (b : Bool) → list_any (nat_eq number) ns ≡ b → declared_text (zip ns ts) number ≡ Some text
      by true h =
          let place : Some (position_or_len (nat_eq number) ns) ≡ Some i =
          sym (position-any (nat_eq number) ns ∙ ap (λ b. cond b (Some (position_or_len (nat_eq number) ns)) None) h) ∙ e in
          let same_place : position_or_len (nat_eq number) ns ≡ i = cc in
          declared_text-place ∙ ap (slice_get ts) same_place ∙ at
      by false h = absurd (none-some i (sym (position-any (nat_eq number) ns ∙ ap (λ b. cond b (Some (position_or_len (nat_eq number) ns)) None) h) ∙ e))

other_place : (m length_m k length_k : ℕ) → length_m ≡ length_k → ltb m length_m ≡ true → ltb k length_k ≡ false → k ≤ length_k → false ≡ (m == k)
other_place m length_m k length_k same a b le = grind (arith, nat_tests)

both_ends : (m length_m k length_k : ℕ) → length_m ≡ length_k → ltb m length_m ≡ false → ltb k length_k ≡ false → m ≤ length_m → k ≤ length_k → true ≡ (m == k)
both_ends m length_m k length_k same a b le_m le_k = grind (arith, nat_tests)

-- the indices in two lists of equal length are equal, or both missing, if and only if the first indices are equal
pub same_places : {X Y : Type 0} (p : X → Bool) (q : Y → Bool) (xs : List X) (ys : List Y) → length xs ≡ length ys
    → option_eq nat_eq (position p xs) (position q ys) ≡ (position_or_len p xs == position_or_len q ys)
same_places p q xs ys same =
    (λ i. option_eq nat_eq (position-any p xs i) (position-any q ys i)) ∙ by (list_any p xs) (list_any q ys) (any_place p xs) (any_place q ys)
  where
    by : (a b : Bool) → ltb (position_or_len p xs) (length xs) ≡ a → ltb (position_or_len q ys) (length ys) ≡ b
        → option_eq nat_eq (cond a (Some (position_or_len p xs)) None) (cond b (Some (position_or_len q ys)) None) ≡ (position_or_len p xs == position_or_len q ys)
    by true true ea eb = refl
    by true false ea eb = other_place _ _ _ _ same ea eb (position_or_len-le q ys)
    by false true ea eb = other_place _ _ _ _ (sym same) eb ea (position_or_len-le p xs) ∙ nat_eq_equiv.symm (position_or_len q ys) (position_or_len p xs)
    by false false ea eb = both_ends _ _ _ _ same ea eb (position_or_len-le p xs) (position_or_len-le q ys)

settle : (a b : Bool) (m k : ℕ) (c : Bool) → c ≡ not (m == k) → (a ≡ true → b ≡ true → m ≡ k)
    → (cond a (not b) b || c) ≡ not (cond (not a) (1 + m) 0 == cond (not b) (1 + k) 0)
settle true true m k c rest e = rest ∙ ap not (eq-eqb m k (e refl refl))
settle true false m k c rest e = grind (arith, nat_tests)
settle false true m k c rest e = grind (arith, nat_tests)
settle false false m k c rest e = rest ∙ grind (arith, nat_tests)

-- if numbers and texts don't repeat, a pair agrees with them if and only if its number and its text have the same
-- index, or both none
pub conflicts-places : (ns : List ℕ) (ts : List Label) → length ts ≡ length ns → IsDistinct nat_eq ns → IsDistinct bytes_eq ts → (number : ℕ) (text : Label)
    → conflicts (zip ns ts) number text ≡ not (position_or_len (nat_eq number) ns == position_or_len (bytes_eq text) ts)
unfolding IsDistinct
conflicts-places [] [] same dn dt number text = refl
conflicts-places [] (t ∷ ts) same dn dt number text = absurd (omega (arith, same))
conflicts-places (n ∷ ns) [] same dn dt number text = absurd (omega (arith, same))
conflicts-places (n ∷ ns) (t ∷ ts) same dn dt number text =
    (λ i. cond (nat_eq_equiv.symm n number i) (not (nat_list_eq_equiv.symm t text i)) (nat_list_eq_equiv.symm t text i) || conflicts (zip ns ts) number text)
    ∙ settle (nat_eq number n) (bytes_eq text t) (position_or_len (nat_eq number) ns) (position_or_len (bytes_eq text) ts) (conflicts (zip ns ts) number text)
    (conflicts-places ns ts (omega (arith, same)) dn.1 dt.1 number text)
    (λ a b. place-none (nat_eq number) ns (none_passes (nat_eq number) ns (subst (λ x. AllByRecursion (λ y. nat_eq x y ≡ false) ns) (sym (eqb-true number n a)) dn.0))
    ∙ sym (place-none (bytes_eq text) ts (none_passes (bytes_eq text) ts (subst (λ x. AllByRecursion (λ y. bytes_eq x y ≡ false) ts) (sym ((bytes_eq-Decides text t).0 b)) dt.0)) ∙ omega (arith, same)))

-- a pair comes last if its number and its text do
pub zip-push : {X Y : Type 0} (xs : List X) (ys : List Y) (x : X) (y : Y) → length ys ≡ length xs → zip (xs ++ x ∷ []) (ys ++ y ∷ []) ≡ zip xs ys ++ (x, y) ∷ []
zip-push [] [] x y same = refl
zip-push [] (z ∷ zs) x y same = absurd (omega (arith, same))
zip-push (z ∷ zs) [] x y same = absurd (omega (arith, same))
zip-push (w ∷ ws) (z ∷ zs) x y same = ap (λ l. (w, z) ∷ l) (zip-push ws zs x y (omega (arith, same)))

module _ (ns : List ℕ) (ts : List Label) (ok : ArePaired ns ts) (number : ℕ) (text : Label) where
  -- a known number keeps its text
  pub with_declared-known : list_any (nat_eq number) ns ≡ true → with_declared (zip ns ts) (number, text) ≡ zip ns ts
  with_declared-known h = ap (λ b. if b then zip ns ts else zip ns ts ++ (number, text) ∷ []) (is_declared ns ts ok.same_count number ∙ h)

  -- a new number comes last with its text
  pub with_declared-new : list_any (nat_eq number) ns ≡ false → with_declared (zip ns ts) (number, text) ≡ zip (ns ++ number ∷ []) (ts ++ text ∷ [])
  with_declared-new h =
      ap (λ b. if b then zip ns ts else zip ns ts ++ (number, text) ∷ []) (is_declared ns ts ok.same_count number ∙ h)
      ∙ sym (zip-push ns ts number text ok.same_count)

  -- the text of a new number is new if they don't conflict
  pub new_text : list_any (nat_eq number) ns ≡ false → conflicts (zip ns ts) number text ≡ false → has_label ts text ≡ false
  new_text h agrees =
      sym (any_place (bytes_eq text) ts)
      ∙ at_end (position_or_len (nat_eq number) ns) (position_or_len (bytes_eq text) ts) (length ts) (place-none (nat_eq number) ns h ∙ sym ok.same_count)
      (sym (conflicts-places ns ts ok.same_count ok.numbers_once ok.texts_once number text) ∙ agrees)
    where
      at_end : (m k end : ℕ) → m ≡ end → not (m == k) ≡ false → ltb k end ≡ false
      at_end m k end e f = grind (arith, nat_tests)

  -- a new number and a new text keep the pairing
  pub ArePaired-push : IsTrue (is_label text) → (numbers : List ℕ) (texts : List Label) → numbers ≡ ns ++ number ∷ [] → texts ≡ ts ++ text ∷ []
      → IsDistinct nat_eq numbers → IsDistinct bytes_eq texts → ArePaired numbers texts
  ArePaired-push label numbers texts en et dn dt = record {
    same_count = ap length et ∙ length-append ts (text ∷ []) ∙ ap (λ n. n + 1) ok.same_count ∙ sym (ap length en ∙ length-append ns (number ∷ []));
    numbers_once = dn;
    texts_once = dt;
    labels = λ i y e. elim (slice_get-push ts text i y (subst (λ l. slice_get l i ≡ Some y) et e)) [ inl a ↦ ok.labels i y a | inr b ↦ subst (λ z. IsTrue (is_label z)) b.1 label ];
  }
