-- Two sets of ascending numbers, read side by side.
use Rattle.std.proofs.Common.{◌≡◌, ℕ, ◌+◌, ◌^◌, ◌<◌, ◌≤◌, ◌==◌, ◌||◌, ◌∙◌, Bool, true, false, List, [], ◌∷◌, ◌++◌, refl, sym, ap, subst, arith}
use Rattle.std.specs.List.{list_any}
use Rattle.std.proofs.lemmas.Bool.{cond-false, eq-eqb, ne_eqb}
use Rattle.std.proofs.lemmas.List.{append-nil, append_assoc}
use Rattle.std.proofs.lemmas.List.Folds.{list_any-append}
use Rattle.pmap_model.specs.declared.label.LabelId.{LabelId}
use Rattle.pmap_cert.specs.CertificateText.{IsAscending}
use Rattle.pmap_cert.proofs.Tables.{ascending-lower}
use Rattle.pmap_minimise.specs.Numbers.{AreApart, IsUnion, common_numbers, has_number, numbers_of}

-- numbers that ascend from k on have none below k
pub lacks : (b k : ℕ) (ns : List ℕ) (n : ℕ) → IsAscending b k ns → n < k → has_number ns n ≡ false
lacks b k [] n ascending less = refl
lacks b k (m ∷ ns) n ascending less =
    let least = ascending.0 in
    ap (λ (t : Bool). t || has_number ns n) (ne_eqb n m (λ e. omega arith)) ∙ lacks b (m + 1) ns n ascending.2 (omega arith)

-- a number below all numbers of a list is not common to that list and another
common-above : (b k : ℕ) (ns : List ℕ) (y : ℕ) (s : List ℕ) → IsAscending b k ns → y < k → common_numbers ns (y ∷ s) ≡ common_numbers ns s
common-above b k [] y s ascending less = refl
common-above b k (n ∷ ns) y s ascending less =
    let least = ascending.0 in
    let other : (n == y) ≡ false = ne_eqb n y (λ e. omega arith) in
    let rest = common-above b (n + 1) ns y s ascending.2 (omega arith) in
    rw (other, rest)

common-first : (b k : ℕ) (x : ℕ) (r : List ℕ) (y : ℕ) (s : List ℕ) → IsAscending b k (y ∷ s) → x < y → common_numbers (x ∷ r) (y ∷ s) ≡ common_numbers r (y ∷ s)
common-first b k x r y s ascending less =
    let none : has_number (y ∷ s) x ≡ false = lacks b y (y ∷ s) x (omega arith, ascending.1, ascending.2) less in
    cond-false (has_number (y ∷ s) x) (x ∷ common_numbers r (y ∷ s)) (common_numbers r (y ∷ s)) none

pub common-same : (b k : ℕ) (x : ℕ) (r s : List ℕ) → IsAscending b k (x ∷ r) → common_numbers (x ∷ r) (x ∷ s) ≡ x ∷ common_numbers r s
common-same b k x r s ascending =
    let own : (x == x) ≡ true = eq-eqb x x refl in
    let rest = common-above b (x + 1) r x s ascending.2 (omega arith) in
    rw (own, rest)

pub common-none : (ns : List ℕ) → common_numbers ns [] ≡ []
common-none [] = refl
common-none (n ∷ ns) = common-none ns

-- the set and the common numbers of the rests are the common numbers of both sets
pub record IsMerging (low high : List ℕ) (set : List ℕ) (lower higher : List LabelId) : Type 0 where
  pub low_from : ℕ
  pub high_from : ℕ
  pub low_ascending : IsAscending (2 ^ 32) low_from (numbers_of lower)
  pub high_ascending : IsAscending (2 ^ 32) high_from (numbers_of higher)
  pub all : set ++ common_numbers (numbers_of lower) (numbers_of higher) ≡ common_numbers low high

module _ (low high : List ℕ) (set : List ℕ) (x y : LabelId) (lower higher lower_rest higher_rest : List LabelId)
    (lower_is : lower ≡ x ∷ lower_rest) (higher_is : higher ≡ y ∷ higher_rest) (merging : IsMerging low high set lower higher) where
  abbrev low_from : IsAscending (2 ^ 32) merging.low_from (x.0 ∷ numbers_of lower_rest)
  low_from = rw lower_is at merging.low_ascending

  abbrev high_from : IsAscending (2 ^ 32) merging.high_from (y.0 ∷ numbers_of higher_rest)
  high_from = rw higher_is at merging.high_ascending

  abbrev both : set ++ common_numbers (x.0 ∷ numbers_of lower_rest) (y.0 ∷ numbers_of higher_rest) ≡ common_numbers low high
  both =
      subst (λ (ls : List LabelId). set ++ common_numbers (numbers_of ls) (y.0 ∷ numbers_of higher_rest) ≡ common_numbers low high) lower_is
      (subst (λ (hs : List LabelId). set ++ common_numbers (numbers_of lower) (numbers_of hs) ≡ common_numbers low high) higher_is merging.all)

  pub merging-lower : x.0 < y.0 → IsMerging low high set lower_rest higher
  merging-lower less = record {
    low_from = x.0 + 1;
    high_from = merging.high_from;
    low_ascending = low_from.2;
    high_ascending = merging.high_ascending;
    all = rw higher_is (ap (λ (ns : List ℕ). set ++ ns) (sym (common-first (2 ^ 32) merging.high_from x.0 (numbers_of lower_rest) y.0 (numbers_of higher_rest) high_from less)) ∙ both);
  }

  pub merging-higher : y.0 < x.0 → IsMerging low high set lower higher_rest
  merging-higher less = record {
    low_from = merging.low_from;
    high_from = y.0 + 1;
    low_ascending = merging.low_ascending;
    high_ascending = high_from.2;
    all =
        rw lower_is (ap (λ (ns : List ℕ). set ++ ns) (sym (common-above (2 ^ 32) x.0 (x.0 ∷ numbers_of lower_rest) y.0 (numbers_of higher_rest)
        (omega arith, low_from.1, low_from.2) less)) ∙ both);
  }

  pub merging-both : (new : List ℕ) → x.0 ≡ y.0 → new ≡ set ++ x.0 ∷ [] → IsMerging low high new lower_rest higher_rest
  merging-both new same is = record {
    low_from = x.0 + 1;
    high_from = y.0 + 1;
    low_ascending = low_from.2;
    high_ascending = high_from.2;
    all =
        rw (is, append_assoc set (x.0 ∷ []) (common_numbers (numbers_of lower_rest) (numbers_of higher_rest)))
        (ap (λ (ns : List ℕ). set ++ ns) (sym (common-same (2 ^ 32) merging.low_from x.0 (numbers_of lower_rest) (numbers_of higher_rest) low_from)
        ∙ ap (λ (n : ℕ). common_numbers (x.0 ∷ numbers_of lower_rest) (n ∷ numbers_of higher_rest)) same) ∙ both);
  }

pub ascending-append : (b k low : ℕ) (ns ms : List ℕ) → low ≤ k → k ≤ b → IsAscending k low ns → IsAscending b k ms → IsAscending b low (ns ++ ms)
ascending-append b k low [] ms le top ascending more = ascending-lower b k low ms le more
ascending-append b k low (n ∷ ns) ms le top ascending more =
    let below = ascending.1 in
    (ascending.0, omega arith, ascending-append b k (n + 1) ns ms (omega arith) top ascending.2 more)

-- ascending numbers are below k if the last one is
ascending-below : (b k low : ℕ) (ns : List ℕ) (last : ℕ) → IsAscending b low (ns ++ last ∷ []) → last < k → (low ≤ last) × IsAscending k low (ns ++ last ∷ [])
ascending-below b k low [] last ascending less = (ascending.0, (ascending.0, less, tt))
ascending-below b k low (n ∷ ns) last ascending less =
    let rest = ascending-below b k (n + 1) ns last ascending.2 less in
    (omega (arith, ascending.0, rest.0), (ascending.0, omega (arith, rest.0, less), rest.1))

-- numbers below k are in no list that ascends from k
common-apart : (b k low : ℕ) (ns ms : List ℕ) → IsAscending k low ns → IsAscending b k ms → common_numbers ns ms ≡ []
common-apart b k low [] ms below above = refl
common-apart b k low (n ∷ ns) ms below above =
    cond-false (has_number ms n) (n ∷ common_numbers ns ms) (common_numbers ns ms) (lacks b k ms n above below.1)
    ∙ common-apart b k (n + 1) ns ms below.2 above

-- a set that ends before another begins
pub apart : (low high : List ℕ) (ns ms : List ℕ) (last first : ℕ) → low ≡ ns ++ last ∷ [] → high ≡ first ∷ ms → last < first
    → IsAscending (2 ^ 32) 0 low → IsAscending (2 ^ 32) 0 high → AreApart low high
apart low high ns ms last first low_is high_is less low_ascending high_ascending =
    let above : IsAscending (2 ^ 32) first (first ∷ ms) =
    let of = rw high_is at high_ascending in (omega arith, of.1, of.2) in
    let below = (ascending-below (2 ^ 32) first 0 ns last (rw low_is at low_ascending) less).1 in
    rw (low_is, high_is) (record {
      common = common-apart (2 ^ 32) first 0 (ns ++ last ∷ []) (first ∷ ms) below above;
      ascending = ascending-append (2 ^ 32) first 0 (ns ++ last ∷ []) (first ∷ ms) (omega arith) (omega (arith, above.1)) below above;
    })

-- the set and the rests have the numbers of both sets, and those of the rests are greater than those of the set
pub record IsUniting (low high : List ℕ) (set : List ℕ) (lower higher : List LabelId) : Type 0 where
  pub next : ℕ
  pub top : next ≤ 2 ^ 32
  pub ascending : IsAscending next 0 set
  pub low_ascending : IsAscending (2 ^ 32) next (numbers_of lower)
  pub high_ascending : IsAscending (2 ^ 32) next (numbers_of higher)
  pub all : (p : ℕ → Bool) → (list_any p set || (list_any p (numbers_of lower) || list_any p (numbers_of higher))) ≡ (list_any p low || list_any p high)

-- whether a number passes, if one more is at the end
any-push : (p : ℕ → Bool) (set new : List ℕ) (x : ℕ) → new ≡ set ++ x ∷ [] → list_any p new ≡ (list_any p set || (p x || false))
any-push p set new x is = rw is (list_any-append p set (x ∷ []))

moved-lower : (s n x l h b : Bool) → n ≡ (s || (x || false)) → (s || ((x || l) || h)) ≡ b → (n || (l || h)) ≡ b
moved-lower s n x l h b is old = grind arith

moved-higher : (s n y l h b : Bool) → n ≡ (s || (y || false)) → (s || (l || (y || h))) ≡ b → (n || (l || h)) ≡ b
moved-higher s n y l h b is old = grind arith

moved-both : (s n x l h b : Bool) → n ≡ (s || (x || false)) → (s || ((x || l) || (x || h))) ≡ b → (n || (l || h)) ≡ b
moved-both s n x l h b is old = grind arith

ascending-push : (next x : ℕ) (set new : List ℕ) → next ≤ x → IsAscending next 0 set → new ≡ set ++ x ∷ [] → IsAscending (x + 1) 0 new
ascending-push next x set new le ascending pushed =
    rw pushed (ascending-append (x + 1) next 0 set (x ∷ []) (omega arith) (omega arith) ascending (le, omega arith, tt))

module _ (low high : List ℕ) (set new : List ℕ) (x y : LabelId) (lower higher lower_rest higher_rest : List LabelId)
    (lower_is : lower ≡ x ∷ lower_rest) (higher_is : higher ≡ y ∷ higher_rest) (uniting : IsUniting low high set lower higher) where
  abbrev from_low : IsAscending (2 ^ 32) uniting.next (x.0 ∷ numbers_of lower_rest)
  from_low = rw lower_is at uniting.low_ascending

  abbrev from_high : IsAscending (2 ^ 32) uniting.next (y.0 ∷ numbers_of higher_rest)
  from_high = rw higher_is at uniting.high_ascending

  abbrev any : (p : ℕ → Bool) → (list_any p set || ((p x.0 || list_any p (numbers_of lower_rest)) || (p y.0 || list_any p (numbers_of higher_rest)))) ≡ (list_any p low || list_any p high)
  any = λ p.
      subst (λ (ls : List LabelId). (list_any p set || (list_any p (numbers_of ls) || list_any p (y.0 ∷ numbers_of higher_rest))) ≡ (list_any p low || list_any p high)) lower_is
      (subst (λ (hs : List LabelId). (list_any p set || (list_any p (numbers_of lower) || list_any p (numbers_of hs))) ≡ (list_any p low || list_any p high)) higher_is (uniting.all p))

  pub uniting-lower : x.0 < y.0 → new ≡ set ++ x.0 ∷ [] → IsUniting low high new lower_rest higher
  uniting-lower less is = record {
    next = x.0 + 1;
    top = let small = from_low.1 in omega arith;
    ascending = ascending-push uniting.next x.0 set new from_low.0 uniting.ascending is;
    low_ascending = from_low.2;
    high_ascending = rw higher_is (omega arith, from_high.1, from_high.2);
    all = λ p. rw higher_is (moved-lower (list_any p set) (list_any p new) (p x.0) (list_any p (numbers_of lower_rest))
        (list_any p (y.0 ∷ numbers_of higher_rest)) (list_any p low || list_any p high) (any-push p set new x.0 is) (any p));
  }

  pub uniting-higher : y.0 < x.0 → new ≡ set ++ y.0 ∷ [] → IsUniting low high new lower higher_rest
  uniting-higher less is = record {
    next = y.0 + 1;
    top = let small = from_high.1 in omega arith;
    ascending = ascending-push uniting.next y.0 set new from_high.0 uniting.ascending is;
    low_ascending = rw lower_is (omega arith, from_low.1, from_low.2);
    high_ascending = from_high.2;
    all = λ p. rw lower_is (moved-higher (list_any p set) (list_any p new) (p y.0) (list_any p (x.0 ∷ numbers_of lower_rest))
        (list_any p (numbers_of higher_rest)) (list_any p low || list_any p high) (any-push p set new y.0 is) (any p));
  }

  pub uniting-both : x.0 ≡ y.0 → new ≡ set ++ x.0 ∷ [] → IsUniting low high new lower_rest higher_rest
  uniting-both same is = record {
    next = x.0 + 1;
    top = let small = from_low.1 in omega arith;
    ascending = ascending-push uniting.next x.0 set new from_low.0 uniting.ascending is;
    low_ascending = from_low.2;
    high_ascending = rw same from_high.2;
    all = λ p. moved-both (list_any p set) (list_any p new) (p x.0) (list_any p (numbers_of lower_rest))
        (list_any p (numbers_of higher_rest)) (list_any p low || list_any p high) (any-push p set new x.0 is)
        (subst (λ (n : ℕ). (list_any p set || ((p x.0 || list_any p (numbers_of lower_rest)) || (p n || list_any p (numbers_of higher_rest)))) ≡ (list_any p low || list_any p high)) (sym same) (any p));
  }

-- once one set is used up, the rest of the other is appended
rest-lower : (s n l b : Bool) → n ≡ (s || l) → (s || (l || false)) ≡ b → n ≡ b
rest-lower s n l b is old = grind arith

rest-higher : (s n h b : Bool) → n ≡ (s || h) → (s || (false || h)) ≡ b → n ≡ b
rest-higher s n h b is old = grind arith

pub record IsUnited (low high : List ℕ) (set : List ℕ) : Type 0 where
  pub union : IsUnion low high set
  pub ascending : IsAscending (2 ^ 32) 0 set

any-joined : (p : ℕ → Bool) (set : List ℕ) (rest : List LabelId) (new : List ℕ) → new ≡ set ++ numbers_of rest → list_any p new ≡ (list_any p set || list_any p (numbers_of rest))
any-joined p set rest new is = rw is (list_any-append p set (numbers_of rest))

pub united-lower : (low high : List ℕ) (set : List ℕ) (lower higher : List LabelId) (new : List ℕ) → higher ≡ [] → new ≡ set ++ numbers_of lower → IsUniting low high set lower higher → IsUnited low high new
united-lower low high set lower higher new none is uniting =
    let all = λ (p : ℕ → Bool). subst (λ (hs : List LabelId). (list_any p set || (list_any p (numbers_of lower) || list_any p (numbers_of hs))) ≡ (list_any p low || list_any p high)) none (uniting.all p) in
    record {
      union = λ p. rest-lower (list_any p set) (list_any p new) (list_any p (numbers_of lower)) (list_any p low || list_any p high) (any-joined p set lower new is) (all p);
      ascending = rw is (ascending-append (2 ^ 32) uniting.next 0 set (numbers_of lower) (omega arith) uniting.top uniting.ascending uniting.low_ascending);
    }

pub united-higher : (low high : List ℕ) (set : List ℕ) (lower higher : List LabelId) (new : List ℕ) → lower ≡ [] → new ≡ set ++ numbers_of higher → IsUniting low high set lower higher → IsUnited low high new
united-higher low high set lower higher new none is uniting =
    let all = λ (p : ℕ → Bool). subst (λ (ls : List LabelId). (list_any p set || (list_any p (numbers_of ls) || list_any p (numbers_of higher))) ≡ (list_any p low || list_any p high)) none (uniting.all p) in
    record {
      union = λ p. rest-higher (list_any p set) (list_any p new) (list_any p (numbers_of higher)) (list_any p low || list_any p high) (any-joined p set higher new is) (all p);
      ascending = rw is (ascending-append (2 ^ 32) uniting.next 0 set (numbers_of higher) (omega arith) uniting.top uniting.ascending uniting.high_ascending);
    }

-- once one of two sets is used up, their common numbers are found
pub merged-lower : (low high set : List ℕ) (lower higher : List LabelId) → higher ≡ [] → IsMerging low high set lower higher → set ≡ common_numbers low high
merged-lower low high set lower higher none merging =
    sym (append-nil set) ∙ ap (λ (ns : List ℕ). set ++ ns) (sym (common-none (numbers_of lower)))
    ∙ subst (λ (hs : List LabelId). set ++ common_numbers (numbers_of lower) (numbers_of hs) ≡ common_numbers low high) none merging.all

pub merged-higher : (low high set : List ℕ) (lower higher : List LabelId) → lower ≡ [] → IsMerging low high set lower higher → set ≡ common_numbers low high
merged-higher low high set lower higher none merging =
    sym (append-nil set)
    ∙ subst (λ (ls : List LabelId). set ++ common_numbers (numbers_of ls) (numbers_of higher) ≡ common_numbers low high) none merging.all
