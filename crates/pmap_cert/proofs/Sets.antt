use Rattle.std.proofs.Common.{◌≡◌, ◌⊎◌, ℕ, ◌+◌, ◌≤◌, Bool, true, false, cond, ◌&&◌, ◌||◌, List, [], ◌∷◌, ◌++◌, Option, Some, None, arith, filter, sym, refl, ap, ◌∙◌, bytes_eq, ap₂, not, inl}
use Rattle.std.proofs.lemmas.Bool.{and_from, and_parts, false≢true, or_cases, or_left}
use Rattle.std.proofs.lemmas.Slice.Eq.{bytes_eq-Decides}
use Rattle.std.proofs.Math.Bool.{or-false, or_assoc}
use Rattle.pmap_model.specs.MapModel.{Label}
use Rattle.pmap_cert.specs.CertificateModel.{Claim, IsClaimWith, IsSameClaim, exact_claim, exact_claim_by}
use Rattle.pmap_cert.specs.Acceptance.{has_inherited, in_table_order}
use Rattle.pmap_model.specs.Label.{has_label}

-- Sets of labels, and the cost of the exact claim of two claims.

-- a label equals itself
pub bytes_eq-same : (x : Label) → bytes_eq x x ≡ true
bytes_eq-same x = (bytes_eq-Decides x x).1 refl

-- a set of one label has this label
pub has-own : (x : Label) → has_label (x ∷ []) x ≡ true
has-own x = rw (bytes_eq-same x)

-- a set has the first label of its list
pub has-head : (x : Label) (xs : List Label) → has_label (x ∷ xs) x ≡ true
has-head x xs = or_left (bytes_eq x x) (has_label xs x) (bytes_eq-same x)

-- a set of one label has no other label
pub has-single : (x y : Label) → has_label (x ∷ []) y ≡ true → x ≡ y
has-single x y h = sym ((bytes_eq-Decides y x).0 (sym (or-false (bytes_eq y x)) ∙ h))

-- a joined list has the labels of both lists
pub has-append : (xs ys : List Label) (x : Label) → has_label (xs ++ ys) x ≡ (has_label xs x || has_label ys x)
has-append [] ys x = refl
has-append (y ∷ xs) ys x = let ih = has-append xs ys x in rw ih (sym (or_assoc (bytes_eq x y) (has_label xs x) (has_label ys x)))

-- a list filtered by a set has the labels that both have
has-filter-step : (a b c d e f : Bool) → (a ≡ true → c ≡ d) → e ≡ (b && d) → f ≡ cond c (a || e) e → f ≡ ((a || b) && d)
has-filter-step a b c d e f same ih is = grind arith

has-cond : (c : Bool) (xs ys : List Label) (x : Label) → has_label (cond c xs ys) x ≡ cond c (has_label xs x) (has_label ys x)
has-cond true xs ys x = refl
has-cond false xs ys x = refl

pub has-filter : (test : Label → Bool) (xs : List Label) (x : Label) → has_label (filter test xs) x ≡ (has_label xs x && test x)
has-filter test [] x = refl
has-filter test (y ∷ xs) x =
    has-filter-step (bytes_eq x y) (has_label xs x) (test y) (test x) (has_label (filter test xs) x) (has_label (filter test (y ∷ xs)) x)
    (λ e. ap test (sym ((bytes_eq-Decides x y).0 e)))
    (has-filter test xs x)
    (has-cond (test y) (y ∷ filter test xs) (filter test xs) x)

either-way : (t s : Bool) → ((t && s) || (s && not t)) ≡ s
either-way t s = grind arith

-- the order of a claim's set doesn't change the set
pub same-listed : (table : List Label) (claim e : Claim) → claim ≡ in_table_order table e → IsSameClaim claim e
same-listed table claim e is = record {
  cost = ap (λ (p : Claim). p.cost) is;
  labels = λ x.
      ap (λ (p : Claim). has_label p.labels x) is
      ∙ has-append (filter (has_label e.labels) table) (filter (λ y. not (has_label table y)) e.labels) x
      ∙ ap₂ ◌||◌ (has-filter (has_label e.labels) table x) (has-filter (λ y. not (has_label table y)) e.labels x)
      ∙ either-way (has_label table x) (has_label e.labels x);
}

-- the cost of an inherited label for a block with the set s: 0 if the set has it, otherwise 1 entry
abbrev pub miss : Option Label → List Label → ℕ
miss h s = cond (has_inherited s h) 0 1

pub miss-le : (h : Option Label) (s : List Label) → miss h s ≤ 1
miss-le h s = grind arith

-- equality of claims
pub same-then : (a b c : Claim) → IsSameClaim a b → IsSameClaim b c → IsSameClaim a c
same-then a b c e f = record { cost = e.cost ∙ f.cost; labels = λ x. e.labels x ∙ f.labels x }

pub same-back : (p r : Claim) → IsSameClaim p r → IsSameClaim r p
same-back p r same = record { cost = sym same.cost; labels = λ x. sym (same.labels x) }

-- The exact claim of two claims is that of their common labels, or, without any, of the labels of both.
pub data IsExact (p r e : Claim) : Type 0 where
  common : (x : Label) (low : has_label p.labels x ≡ true) (up : has_label r.labels x ≡ true)
      (is : IsClaimWith e (p.cost + r.cost) (λ y. has_label p.labels y && has_label r.labels y)) → IsExact p r e
  apart : (none : (x : Label) → (has_label p.labels x && has_label r.labels x) ≡ false)
      (is : IsClaimWith e (p.cost + r.cost + 1) (λ y. has_label p.labels y || has_label r.labels y)) → IsExact p r e

pub exact : (p r : Claim) → IsExact p r (exact_claim p r)
exact p r = by (filter (has_label r.labels) p.labels) (has-filter (has_label r.labels) p.labels)
  where
    by : (xs : List Label) → ((x : Label) → has_label xs x ≡ (has_label p.labels x && has_label r.labels x)) → IsExact p r (exact_claim_by p r xs)
    by [] both = apart (λ x. sym (both x)) (record { cost = refl; labels = has-append p.labels r.labels })
    by (x ∷ xs) both =
        let known = and_parts (has_label p.labels x) (has_label r.labels x) (sym (both x) ∙ has-head x xs) in
        common x known.0 known.1 (record { cost = refl; labels = both })

pub exact_claim-common : (p r : Claim) (x : Label) → has_label p.labels x ≡ true → has_label r.labels x ≡ true →
    IsClaimWith (exact_claim p r) (p.cost + r.cost) (λ y. has_label p.labels y && has_label r.labels y)
exact_claim-common p r x low up = by (exact p r)
  where
    by : IsExact p r (exact_claim p r) → IsClaimWith (exact_claim p r) (p.cost + r.cost) (λ y. has_label p.labels y && has_label r.labels y)
    by (common y l u is) = is
    by (apart none is) = absurd (false≢true (sym (none x) ∙ and_from (has_label p.labels x) (has_label r.labels x) low up))

pub exact_claim-apart : (p r : Claim) → ((x : Label) → (has_label p.labels x && has_label r.labels x) ≡ false) →
    IsClaimWith (exact_claim p r) (p.cost + r.cost + 1) (λ y. has_label p.labels y || has_label r.labels y)
exact_claim-apart p r none = by (exact p r)
  where
    by : IsExact p r (exact_claim p r) → IsClaimWith (exact_claim p r) (p.cost + r.cost + 1) (λ y. has_label p.labels y || has_label r.labels y)
    by (common x low up is) = absurd (false≢true (sym (none x) ∙ and_from (has_label p.labels x) (has_label r.labels x) low up))
    by (apart nothing is) = is

-- the exact claims of claims with the same costs and sets have the same cost and set
pub same-exact_claim : (p r p' r' : Claim) → IsSameClaim p p' → IsSameClaim r r' → IsSameClaim (exact_claim p r) (exact_claim p' r')
same-exact_claim p r p' r' same same' = by (exact p r)
  where
    by : IsExact p r (exact_claim p r) → IsSameClaim (exact_claim p r) (exact_claim p' r')
    by (common x low up is) =
        let is' = exact_claim-common p' r' x (sym (same.labels x) ∙ low) (sym (same'.labels x) ∙ up) in record {
          cost = omega (arith, is.cost, is'.cost, same.cost, same'.cost);
          labels = λ y. is.labels y ∙ ap₂ ◌&&◌ (same.labels y) (same'.labels y) ∙ sym (is'.labels y);
        }
    by (apart none is) =
        let is' = exact_claim-apart p' r' (λ x. ap₂ ◌&&◌ (sym (same.labels x)) (sym (same'.labels x)) ∙ none x) in record {
          cost = omega (arith, is.cost, is'.cost, same.cost, same'.cost);
          labels = λ y. is.labels y ∙ ap₂ ◌||◌ (same.labels y) (same'.labels y) ∙ sym (is'.labels y);
        }

-- each label of the exact claim is a label of one of the two claims
pub exact_claim-labels : (p r : Claim) (x : Label) → has_label (exact_claim p r).labels x ≡ true → (has_label p.labels x ≡ true) ⊎ (has_label r.labels x ≡ true)
exact_claim-labels p r x h = by (exact p r)
  where
    by : IsExact p r (exact_claim p r) → (has_label p.labels x ≡ true) ⊎ (has_label r.labels x ≡ true)
    by (common y low up is) = inl ((and_parts (has_label p.labels x) (has_label r.labels x) (sym (is.labels x) ∙ h)).0)
    by (apart none is) = or_cases (has_label p.labels x) (has_label r.labels x) (sym (is.labels x) ∙ h)

-- an inherited label costs with the exact claim no more than with both halves
misses-union : (a b c : Bool) → false ≡ (a && b) → c ≡ (a || b) → 1 + cond c 0 1 ≤ cond a 0 1 + cond b 0 1
misses-union a b c none is = grind arith

misses-common : (a b c : Bool) → c ≡ (a && b) → cond c 0 1 ≤ cond a 0 1 + cond b 0 1
misses-common a b c is = grind arith

pub exact_claim-cost : (p r : Claim) (h : Option Label) →
    (exact_claim p r).cost + miss h (exact_claim p r).labels ≤ p.cost + miss h p.labels + (r.cost + miss h r.labels)
exact_claim-cost p r h = by h (exact p r)
  where
    by : (h : Option Label) → IsExact p r (exact_claim p r) →
        (exact_claim p r).cost + miss h (exact_claim p r).labels ≤ p.cost + miss h p.labels + (r.cost + miss h r.labels)
    by None (common y low up is) = omega (arith, is.cost)
    by None (apart none is) = omega (arith, is.cost)
    by (Some x) (common y low up is) =
        omega (arith, is.cost, misses-common (has_label p.labels x) (has_label r.labels x) (has_label (exact_claim p r).labels x) (is.labels x))
    by (Some x) (apart none is) =
        omega (arith, is.cost, misses-union (has_label p.labels x) (has_label r.labels x) (has_label (exact_claim p r).labels x) (sym (none x)) (is.labels x))
