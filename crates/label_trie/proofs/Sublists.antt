-- Lists within lists.
use Rattle.std.proofs.Common.{◌≡◌, ◌∙◌, ℕ, ◌+◌, List, [], ◌∷◌, ◌++◌, Some, get_or, length, slice_get, refl, sym, ap, arith, length-append}
use Rattle.std.proofs.lemmas.List.{append-nil, append_assoc}

-- the items from this index on begin with these
pub record IsAt {X : Type 0} (all : List X) (index : ℕ) (own : List X) : Type 0 where
  pub before : List X
  pub after : List X
  pub all_is : all ≡ before ++ (own ++ after)
  pub at : length before ≡ index

pub at-start : {X : Type 0} (all own : List X) → all ≡ own → IsAt all 0 own
at-start all own same = record { before = []; after = []; all_is = same ∙ sym (append-nil own); at = refl }

module _ {X : Type 0} (all : List X) (index : ℕ) where
  pub at-rest : (x : X) (rest : List X) → IsAt all index (x ∷ rest) → IsAt all (index + 1) rest
  at-rest x rest here = record {
    before = here.before ++ x ∷ [];
    after = here.after;
    all_is = here.all_is ∙ sym (append_assoc here.before (x ∷ []) (rest ++ here.after));
    at = omega (arith, here.at, length-append here.before (x ∷ []));
  }

  pub at-left : (xs ys : List X) → IsAt all index (xs ++ ys) → IsAt all index xs
  at-left xs ys here = record {
    before = here.before;
    after = ys ++ here.after;
    all_is = here.all_is ∙ ap (λ (l : List X). here.before ++ l) (append_assoc xs ys here.after);
    at = here.at;
  }

  pub at-right : (xs ys : List X) → IsAt all index (xs ++ ys) → IsAt all (index + length xs) ys
  at-right xs ys here = record {
    before = here.before ++ xs;
    after = here.after;
    all_is = here.all_is ∙ ap (λ (l : List X). here.before ++ l) (append_assoc xs ys here.after) ∙ sym (append_assoc here.before xs (ys ++ here.after));
    at = omega (arith, here.at, length-append here.before xs);
  }

head_there : {X : Type 0} (before : List X) (x : X) (rest : List X) → slice_get (before ++ x ∷ rest) (length before) ≡ Some x
head_there [] x rest = refl
head_there (b ∷ before) x rest = head_there before x rest

head_get : {X : Type 0} (before : List X) (x : X) (rest : List X) (other : X) → get_or (before ++ x ∷ rest) (length before) other ≡ x
head_get [] x rest other = refl
head_get (b ∷ before) x rest other = head_get before x rest other

-- the first of the items at an index
pub at-head : {X : Type 0} (all : List X) (index : ℕ) (x : X) (rest : List X) → IsAt all index (x ∷ rest) → slice_get all index ≡ Some x
at-head all index x rest here = rw (here.all_is, ← here.at) (head_there here.before x (rest ++ here.after))

pub at-get : {X : Type 0} (all : List X) (index : ℕ) (x : X) (rest : List X) (other : X) → IsAt all index (x ∷ rest) → get_or all index other ≡ x
at-get all index x rest other here = rw (here.all_is, ← here.at) (head_get here.before x (rest ++ here.after) other)
