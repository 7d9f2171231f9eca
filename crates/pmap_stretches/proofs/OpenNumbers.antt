-- The numbers of open statements: a stack that ascends, and a heap.
use Rattle.std.proofs.Common.{◌≡◌, ◌∙◌, ℕ, ◌-◌, ◌<◌, ◌≤◌, ◌≢◌, inl, inr, false, List, [], ◌∷◌, ◌++◌, Option, None, Some, All, Bor, Contains, IfSome, IsSome, option_copied, get_or, length, length-append, max, slice_get, refl, sym, ap, subst, arith}
use Rattle.std.specs.BinaryHeap.{IsUpperBound}
use Rattle.std.specs.List.Sorted.{IsNonDecreasingBy, IsPermutation}
use Rattle.std.specs.Ordering.{is_lt, nat_cmp}
use Rattle.std.proofs.lemmas.Bool.{both_ways, cases_lt, lt-ltb}
use Rattle.std.proofs.lemmas.List.{get_or_append_left, get_or_push, length_push}
use Rattle.std.proofs.lemmas.List.Elements.{All-contains, All-from_recursion, All-weaker, Contains-append_cases, Contains-append_left, Contains-append_right, Contains-get_or, Contains-push, Contains-push_cases}
use Rattle.std.proofs.lemmas.List.Sorted.{Contains-permutation, IsPermutation-sym, length_permutation}
use Rattle.std.proofs.lemmas.Option.{get_or_from_slice_get, none-some, same_Some, slice_get-get_or, slice_get_within}
use Rattle.pmap_stretches.specs.Sweep.{HasOneMore, IsGreatest}
use Rattle.pmap_model.proofs.Finds.{Contains-cases, Contains-first, Contains-later}

not_less : (x y : ℕ) → is_lt (nat_cmp x y) ≡ false → y ≤ x
not_less x y e =
    elim (cases_lt x y) [
      | inl less ↦ let test = lt-ltb x y less in absurd (both_ways (is_lt (nat_cmp x y)) e (rw test))
      | inr more ↦ more
    ]

greatest : (x : ℕ) (xs : List ℕ) → IsUpperBound nat_cmp x xs → All (λ y. y ≤ x) xs
greatest x xs bound =
    All-weaker (λ y. is_lt (nat_cmp x y) ≡ false) (λ y. y ≤ x) (λ y e. not_less x y e) xs (All-from_recursion (λ y. is_lt (nat_cmp x y) ≡ false) xs bound)

-- one more number: in a permutation, at the end of the stack, and in a part
pub one_more : (number : ℕ) (fewer more : List ℕ) → IsPermutation (number ∷ fewer) more → HasOneMore fewer number more
one_more number fewer more moved = record {
  more_than = λ j has. elim (Contains-cases number fewer j (Contains-permutation more (number ∷ fewer) j (IsPermutation-sym (number ∷ fewer) more moved) has)) [
    | inl same ↦ inl (sym same)
    | inr rest ↦ inr rest
  ];
  has_number = Contains-permutation (number ∷ fewer) more number moved (Contains-first number fewer);
  has_fewer = λ j has. Contains-permutation (number ∷ fewer) more j moved (Contains-later number fewer j has);
  longer = omega (arith, length_permutation (number ∷ fewer) more moved);
}

pub one_pushed : (number : ℕ) (fewer : List ℕ) → HasOneMore fewer number (fewer ++ number ∷ [])
one_pushed number fewer = record {
  more_than = λ j has. elim (Contains-push_cases fewer number j has) [ inl rest ↦ inr rest | inr same ↦ inl (sym same) ];
  has_number = Contains-push fewer number;
  has_fewer = λ j has. Contains-append_left fewer (number ∷ []) j has;
  longer = omega (arith, length_push fewer number);
}

module _ (number : ℕ) (fewer more rest : List ℕ) (one : HasOneMore fewer number more) where
  pub one_left : HasOneMore (fewer ++ rest) number (more ++ rest)
  one_left = record {
    more_than = λ j has. elim (Contains-append_cases more rest j has) [
      | inl left ↦ elim (one.more_than j left) [ inl same ↦ inl same | inr few ↦ inr (Contains-append_left fewer rest j few) ]
      | inr right ↦ inr (Contains-append_right fewer rest j right)
    ];
    has_number = Contains-append_left more rest number one.has_number;
    has_fewer = λ j has. elim (Contains-append_cases fewer rest j has) [
      | inl left ↦ Contains-append_left more rest j (one.has_fewer j left)
      | inr right ↦ Contains-append_right more rest j right
    ];
    longer = omega (arith, length-append fewer rest, length-append more rest, one.longer);
  }

  pub one_right : HasOneMore (rest ++ fewer) number (rest ++ more)
  one_right = record {
    more_than = λ j has. elim (Contains-append_cases rest more j has) [
      | inl left ↦ inr (Contains-append_left rest fewer j left)
      | inr right ↦ elim (one.more_than j right) [ inl same ↦ inl same | inr few ↦ inr (Contains-append_right rest fewer j few) ]
    ];
    has_number = Contains-append_right rest more number one.has_number;
    has_fewer = λ j has. elim (Contains-append_cases rest fewer j has) [
      | inl left ↦ Contains-append_left rest more j left
      | inr right ↦ Contains-append_right rest more j (one.has_fewer j right)
    ];
    longer = omega (arith, length-append rest fewer, length-append rest more, one.longer);
  }

-- the greatest number of each part, and of both
pub stack_greatest : (xs : List ℕ) → IsNonDecreasingBy (λ n. n) xs → IsGreatest xs (slice_get xs (length xs - 1))
stack_greatest xs up = record {
  listed = λ j is. (length xs - 1, slice_get_within xs (length xs - 1) j is, get_or_from_slice_get xs (length xs - 1) j j is);
  most = λ j has.
      let last = length xs - 1 in
      let end = slice_get-get_or xs last j (omega (arith, has.1)) in
      let order = up has.0 last j (omega (arith, has.1)) (omega (arith, has.1)) in
      rw end (omega (arith, order, has.2));
}

pub heap_greatest : (x : ℕ) (xs : List ℕ) → Contains xs x → IsUpperBound nat_cmp x xs → IsGreatest xs (Some x)
heap_greatest x xs has bound = record {
  listed = λ j is. subst (Contains xs) (same_Some x j is) has;
  most = λ j other. All-contains (λ y. y ≤ x) xs j (greatest x xs bound) other;
}

pub both_greatest : (xs ys : List ℕ) (x y : ℕ) → IsGreatest xs (Some x) → IsGreatest ys (Some y) → IsGreatest (xs ++ ys) (Some (max x y))
both_greatest xs ys x y left right = record {
  listed = λ j is.
      let top = same_Some (max x y) j is in
      elim (cases_lt x y) [
        | inl less ↦ subst (Contains (xs ++ ys)) (let e : y ≡ j = omega (arith, top, less) in e) (Contains-append_right xs ys y (right.listed y refl))
        | inr more ↦ subst (Contains (xs ++ ys)) (let e : x ≡ j = omega (arith, top, more) in e) (Contains-append_left xs ys x (left.listed x refl))
      ];
  most = λ j has. elim (Contains-append_cases xs ys j has) [
    | inl in_left ↦ let below : j ≤ x = left.most j in_left in omega (arith, below)
    | inr in_right ↦ let below : j ≤ y = right.most j in_right in omega (arith, below)
  ];
}

-- a list that ascends, with one more number at its end
pub pushed_ascends : (xs : List ℕ) (x : ℕ) → IsNonDecreasingBy (λ n. n) xs → ((k : ℕ) → slice_get xs (length xs - 1) ≡ Some k → k ≤ x)
    → IsNonDecreasingBy (λ n. n) (xs ++ x ∷ [])
pushed_ascends xs x up top i j d le below =
    let long = length_push xs x in
    elim (cases_lt j (length xs)) [
      | inl early ↦
          let a = get_or_append_left xs (x ∷ []) d i (omega (arith, le, early)) in
          let b = get_or_append_left xs (x ∷ []) d j early in
          let order = up i j d le early in
          omega (arith, a, b, order)
      | inr late ↦
          let b = get_or_push xs x d j (omega (arith, late, below, long)) in
          elim (cases_lt i (length xs)) [
            | inl early ↦
                let a = get_or_append_left xs (x ∷ []) d i early in
                let order = up i (length xs - 1) d (omega (arith, early)) (omega (arith, early)) in
                let under = top (get_or xs (length xs - 1) d) (slice_get-get_or xs (length xs - 1) d (omega (arith, early))) in
                omega (arith, a, b, order, under)
            | inr last ↦
                let a = get_or_push xs x d i (omega (arith, last, le, below, long)) in
                omega (arith, a, b)
          ]
    ]

-- what is seen at the top of a heap is its greatest number
pub peeked : (heap : List ℕ) (r : Option (Bor ℕ)) (x : ℕ) → option_copied r ≡ Some x → (IsSome r → 0 < length heap)
    → IfSome r (λ b. b.now ≡ get_or heap 0 b.now) → IfSome r (λ b. IsUpperBound nat_cmp b.now heap) → IsGreatest heap (Some x)
peeked heap None x is some first bound = absurd (none-some x is)
peeked heap (Some b) x is some first bound =
    subst (λ (y : ℕ). IsGreatest heap (Some y)) (same_Some b.now x is) (heap_greatest b.now heap (0, some refl, sym first) bound)

-- the greatest number of both parts is not the last of the stack, so it is removed from the heap
module _ (stack heap rest : List ℕ) (number : ℕ) (up : IsNonDecreasingBy (λ n. n) stack) (other : slice_get stack (length stack - 1) ≢ Some number)
    (top : IsGreatest (stack ++ heap) (Some number)) where
  in_heap : Contains heap number
  in_heap = elim (Contains-append_cases stack heap number (top.listed number refl)) [
    | inl has ↦
        let last = length stack - 1 in
        let end = slice_get-get_or stack last number (omega (arith, has.1)) in
        let order = up has.0 last number (omega (arith, has.1)) (omega (arith, has.1)) in
        let below : get_or stack last number ≤ number = top.most (get_or stack last number)
        (Contains-append_left stack heap _ (Contains-get_or stack last number (omega (arith, has.1)))) in
        absurd (other (end ∙ ap (λ (k : ℕ). Some k) (let e : get_or stack last number ≡ number = omega (arith, order, below, has.2) in e)))
    | inr has ↦ has
  ]

  pub heap_removed : (r : Option ℕ) → (r ≡ None → length heap ≡ 0) → IfSome r (λ x. IsPermutation heap (x ∷ rest))
      → IfSome r (λ x. IsUpperBound nat_cmp x rest) → HasOneMore (stack ++ rest) number (stack ++ heap)
  heap_removed None none moved bound = absurd (omega (arith, none refl, in_heap.1))
  heap_removed (Some x) none moved bound =
      let one = one_more x rest heap (IsPermutation-sym heap (x ∷ rest) moved) in
      let below : x ≤ number = top.most x (Contains-append_right stack heap x one.has_number) in
      let same : x ≡ number = elim (one.more_than number in_heap) [
        | inl is ↦ sym is
        | inr has ↦
            let above : number ≤ x = All-contains (λ y. y ≤ x) rest number (greatest x rest bound) has in
            omega (arith, above, below)
      ] in
      one_right number rest heap stack (subst (λ (n : ℕ). HasOneMore rest n heap) same one)
