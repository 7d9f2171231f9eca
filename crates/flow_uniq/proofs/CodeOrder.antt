-- The codes of keys are in the order of the keys.
use Rattle.std.proofs.Common.{◌≡◌, ℕ, zero, suc, Bool, true, false, nat_lt, ◌+◌, ◌*◌, ◌/◌, ◌%◌, ◌^◌, ◌<◌, List, [], ◌∷◌, ◌++◌, length, Option, Some, None, Less, Equal, Greater, true≢false, refl, sym, ap, subst, ◌∙◌, arith, pow-suc}
use Rattle.std.proofs.lemmas.Bool.{ltb-false, ltb-true}
use Rattle.std.proofs.lemmas.Cmp.{ranked}
use Rattle.std.proofs.lemmas.List.{append_assoc}
use Rattle.std.proofs.lemmas.Nat.{from_be_bytes-to_be_bytes_2, from_be_bytes-to_be_bytes_4, from_be_bytes-to_be_bytes_8}
use Rattle.std.specs.Cmp.{nat_cmp_is}
use Rattle.std.specs.Cmp.Lexicographic.{slice_cmp}
use Rattle.std.specs.Int.{w16, w32, w64, bytes_high_first, to_be_bytes}
use Rattle.std.specs.List.{AllByRecursion}
use Rattle.std.specs.Option.{option_map_or}
use Rattle.std.specs.Ordering.{MatchOrdering, nat_cmp, ordering_then}
use Rattle.std.specs.declared.cmp.Ordering.{Ordering}
use Rattle.prefix_keys.specs.declared.version.Version.TheVariants.{V4, V6}
use Rattle.flow_uniq.specs.Codes.{AreSmall, IsCode, IsSmall, key_code, key_in, number_code, part_code}
use Rattle.flow_uniq.specs.Key.{Key, KeyPartModel, AddressPart, NumberPart, LabelPart, TimePart, part_numbers}
use Rattle.flow_uniq.specs.Times.{precision_number}
use Rattle.flow_uniq.proofs.Cutting.{LacksZero, either_size, label-lacks_zero, small_code}

abbrev bytes_cmp : List ℕ → List ℕ → Ordering
bytes_cmp xs ys = slice_cmp nat_cmp xs ys

then_assoc : (o p q : Ordering) → ordering_then (ordering_then o p) q ≡ ordering_then o (ordering_then p q)
then_assoc Less p q = refl
then_assoc Equal p q = refl
then_assoc Greater p q = refl

then_equal : (o : Ordering) → ordering_then o Equal ≡ o
then_equal Less = refl
then_equal Equal = refl
then_equal Greater = refl

-- two numbers that are each divided by the same number, with the quotients and the remainders
module _ (B a b x y : ℕ) (x_below : x < B) (y_below : y < B) where
  above : (c d v w : ℕ) → c < d → v < B → c * B + v < d * B + w
  above c d v w h k = grind arith

  by_parts : (o p : Ordering) → MatchOrdering o (a < b) (a ≡ b) (b < a) → MatchOrdering p (x < y) (x ≡ y) (y < x)
      → MatchOrdering (ordering_then o p) (a * B + x < b * B + y) (a * B + x ≡ b * B + y) (b * B + y < a * B + x)
  by_parts Less p h k = above a b x y h x_below
  by_parts Equal Less h k = grind arith
  by_parts Equal Equal h k = λ i. h i * B + k i
  by_parts Equal Greater h k = grind arith
  by_parts Greater p h k = above b a y x h y_below

  parts_order : ordering_then (nat_cmp a b) (nat_cmp x y) ≡ nat_cmp (a * B + x) (b * B + y)
  parts_order = nat_cmp_is _ _ _ (by_parts (nat_cmp a b) (nat_cmp x y) (ranked a b _ refl) (ranked x y _ refl))

-- the number with these bytes, the highest of them first
abbrev value : List ℕ → ℕ
value [] = 0
value (x ∷ xs) = x * 256 ^ length xs + value xs

abbrev AreBytes : List ℕ → Type 0
AreBytes xs = AllByRecursion (λ b. b < 256) xs

are_bytes : (count n : ℕ) → AreBytes (bytes_high_first count n)
are_bytes zero n = tt
are_bytes (suc zero) n = (omega arith, tt)
are_bytes (suc (suc k)) n = (omega arith, are_bytes (suc k) n)

value-below : (xs : List ℕ) → AreBytes xs → value xs < 256 ^ length xs
value-below [] h = omega arith
value-below (x ∷ xs) h = rw (pow-suc 256 (length xs)) (one_more x (256 ^ length xs) (value xs) h.0 (value-below xs h.1))
  where
    one_more : (x B v : ℕ) → x < 256 → v < B → x * B + v < B * 256
    one_more x B v h k = grind arith

bytes_order : (xs ys r s : List ℕ) → length xs ≡ length ys → AreBytes xs → AreBytes ys
    → bytes_cmp (xs ++ r) (ys ++ s) ≡ ordering_then (nat_cmp (value xs) (value ys)) (bytes_cmp r s)
bytes_order [] [] r s e h k = refl
bytes_order [] (y ∷ ys) r s e h k = absurd (omega (arith, e))
bytes_order (x ∷ xs) [] r s e h k = absurd (omega (arith, e))
bytes_order (x ∷ xs) (y ∷ ys) r s e h k =
    let long : length xs ≡ length ys = omega (arith, e) in
    let low : value ys < 256 ^ length xs = subst (λ n. value ys < 256 ^ n) (sym long) (value-below ys k.1) in
    ap (ordering_then (nat_cmp x y)) (bytes_order xs ys r s long h.1 k.1)
    ∙ sym (then_assoc (nat_cmp x y) (nat_cmp (value xs) (value ys)) (bytes_cmp r s))
    ∙ ap (λ o. ordering_then o (bytes_cmp r s)) (parts_order (256 ^ length xs) x y (value xs) (value ys) (value-below xs h.1) low
    ∙ ap (λ n. nat_cmp (value (x ∷ xs)) (y * 256 ^ n + value ys)) long)

-- numbers of a few bytes, followed by other bytes
module _ (count n m : ℕ) (r s : List ℕ) (n_is : value (bytes_high_first count n) ≡ n) (m_is : value (bytes_high_first count m) ≡ m) where
  number_order : bytes_cmp (bytes_high_first count n ++ r) (bytes_high_first count m ++ s) ≡ ordering_then (nat_cmp n m) (bytes_cmp r s)
  number_order =
      bytes_order (bytes_high_first count n) (bytes_high_first count m) r s (long count n ∙ sym (long count m)) (are_bytes count n) (are_bytes count m)
      ∙ (λ i. ordering_then (nat_cmp (n_is i) (m_is i)) (bytes_cmp r s))
    where
      long : (k n : ℕ) → length (bytes_high_first k n) ≡ k
      long zero n = refl
      long (suc k) n = ap suc (long k n)

value_2 : (n : ℕ) → n < 2 ^ 16 → value (to_be_bytes w16 n) ≡ n
value_2 n h = omega (arith, from_be_bytes-to_be_bytes_2 n h)

value_4 : (n : ℕ) → n < 2 ^ 32 → value (to_be_bytes w32 n) ≡ n
value_4 n h = omega (arith, from_be_bytes-to_be_bytes_4 n h)

value_8 : (n : ℕ) → n < 2 ^ 64 → value (to_be_bytes w64 n) ≡ n
value_8 n h = omega (arith, from_be_bytes-to_be_bytes_8 n h)

halves_order : (v w : ℕ) (r s : List ℕ) → v < 2 ^ 128 → w < 2 ^ 128
    → bytes_cmp ((to_be_bytes w64 (v / 2 ^ 64) ++ to_be_bytes w64 (v % 2 ^ 64)) ++ r) ((to_be_bytes w64 (w / 2 ^ 64) ++ to_be_bytes w64 (w % 2 ^ 64)) ++ s)
    ≡ ordering_then (nat_cmp v w) (bytes_cmp r s)
halves_order v w r s h k =
    let low : List ℕ = to_be_bytes w64 (v % 2 ^ 64) in
    let other : List ℕ = to_be_bytes w64 (w % 2 ^ 64) in
    (λ i. bytes_cmp (append_assoc (to_be_bytes w64 (v / 2 ^ 64)) low r i) (append_assoc (to_be_bytes w64 (w / 2 ^ 64)) other s i))
    ∙ number_order 8 (v / 2 ^ 64) (w / 2 ^ 64) (low ++ r) (other ++ s) (value_8 _ (omega (arith, h))) (value_8 _ (omega (arith, k)))
    ∙ ap (ordering_then (nat_cmp (v / 2 ^ 64) (w / 2 ^ 64))) (number_order 8 (v % 2 ^ 64) (w % 2 ^ 64) r s (value_8 _ (omega arith)) (value_8 _ (omega arith)))
    ∙ sym (then_assoc (nat_cmp (v / 2 ^ 64) (w / 2 ^ 64)) (nat_cmp (v % 2 ^ 64) (w % 2 ^ 64)) (bytes_cmp r s))
    ∙ ap (λ o. ordering_then o (bytes_cmp r s)) (parts_order (2 ^ 64) (v / 2 ^ 64) (w / 2 ^ 64) (v % 2 ^ 64) (w % 2 ^ 64) (omega arith) (omega arith)
    ∙ (λ i. nat_cmp (whole v i) (whole w i)))
  where
    whole : (n : ℕ) → n / 2 ^ 64 * 2 ^ 64 + n % 2 ^ 64 ≡ n
    whole n = omega arith

less_first : (x y : ℕ) (o : Ordering) → x < y → ordering_then (nat_cmp x y) o ≡ Less
less_first x y o h = ap (λ p. ordering_then p o) (sym (nat_cmp_is x y Less h))

more_first : (x y : ℕ) (o : Ordering) → y < x → ordering_then (nat_cmp x y) o ≡ Greater
more_first x y o h = ap (λ p. ordering_then p o) (sym (nat_cmp_is x y Greater h))

-- texts that are each followed by a 0, which they lack
text_order : (t u r s : List ℕ) → LacksZero t → LacksZero u
    → bytes_cmp ((t ++ 0 ∷ []) ++ r) ((u ++ 0 ∷ []) ++ s) ≡ ordering_then (bytes_cmp t u) (bytes_cmp r s)
text_order [] [] r s h k = refl
text_order [] (y ∷ u) r s h k = less_first 0 y _ k.0
text_order (x ∷ t) [] r s h k = more_first x 0 _ h.0
text_order (x ∷ t) (y ∷ u) r s h k =
    ap (ordering_then (nat_cmp x y)) (text_order t u r s h.1 k.1) ∙ sym (then_assoc (nat_cmp x y) (bytes_cmp t u) (bytes_cmp r s))

abbrev parts_cmp : KeyPartModel → KeyPartModel → Ordering
parts_cmp p q = bytes_cmp (part_numbers p) (part_numbers q)

label_order : (t u : Option (List ℕ)) (r s : List ℕ) → IsSmall (LabelPart t) → IsSmall (LabelPart u)
    → bytes_cmp (part_code (LabelPart t) ++ r) (part_code (LabelPart u) ++ s) ≡ ordering_then (parts_cmp (LabelPart t) (LabelPart u)) (bytes_cmp r s)
label_order None None r s h k = refl
label_order None (Some []) r s h k = absurd (true≢false (sym k))
label_order None (Some (y ∷ u)) r s h k = less_first 0 y _ (label-lacks_zero (y ∷ u) k).0
label_order (Some []) None r s h k = absurd (true≢false (sym h))
label_order (Some (x ∷ t)) None r s h k = more_first x 0 _ (label-lacks_zero (x ∷ t) h).0
label_order (Some t) (Some u) r s h k = text_order t u r s (label-lacks_zero t h) (label-lacks_zero u k)

-- the numbers of times, one more than they are, and 0 for none
number_or_none : (t u : Option ℕ)
    → nat_cmp (option_map_or suc t 0) (option_map_or suc u 0) ≡ bytes_cmp (option_map_or (λ n. n ∷ []) t []) (option_map_or (λ n. n ∷ []) u [])
number_or_none None None = refl
number_or_none None (Some m) = sym (nat_cmp_is 0 (suc m) Less (omega arith))
number_or_none (Some n) None = sym (nat_cmp_is (suc n) 0 Greater (omega arith))
number_or_none (Some n) (Some m) = sym (nat_cmp_is (suc n) (suc m) (nat_cmp n m) (raised (nat_cmp n m) (ranked n m _ refl))) ∙ sym (then_equal (nat_cmp n m))
  where
    raised : (o : Ordering) → MatchOrdering o (n < m) (n ≡ m) (m < n) → MatchOrdering o (suc n < suc m) (suc n ≡ suc m) (suc m < suc n)
    raised Less h = omega arith
    raised Equal h = ap suc h
    raised Greater h = omega arith

-- numbers of two bytes, and larger ones
numbers_order : (small other : Bool) (n m : ℕ) (r s : List ℕ) → nat_lt n 65536 ≡ small → nat_lt m 65536 ≡ other → n < 2 ^ 32 → m < 2 ^ 32
    → bytes_cmp (number_code small n ++ r) (number_code other m ++ s) ≡ ordering_then (nat_cmp n m) (bytes_cmp r s)
numbers_order true true n m r s n_is m_is h k = number_order 2 n m r s (value_2 n (ltb-true n 65536 n_is)) (value_2 m (ltb-true m 65536 m_is))
numbers_order false false n m r s n_is m_is h k = number_order 4 n m r s (value_4 n h) (value_4 m k)
numbers_order true false n m r s n_is m_is h k =
    sym (less_first n m (bytes_cmp r s) (omega (arith, ltb-true n 65536 n_is, ltb-false m 65536 m_is)))
numbers_order false true n m r s n_is m_is h k =
    sym (more_first n m (bytes_cmp r s) (omega (arith, ltb-false n 65536 n_is, ltb-true m 65536 m_is)))

part_order : (p q : KeyPartModel) (r s : List ℕ) → IsSmall p → IsSmall q
    → bytes_cmp (part_code p ++ r) (part_code q ++ s) ≡ ordering_then (parts_cmp p q) (bytes_cmp r s)
part_order (AddressPart (V4, v)) (AddressPart (V4, w)) r s h k =
    number_order 4 v w r s (value_4 v h) (value_4 w k) ∙ ap (λ o. ordering_then o (bytes_cmp r s)) (sym (then_equal (nat_cmp v w)))
part_order (AddressPart (V6, v)) (AddressPart (V6, w)) r s h k =
    halves_order v w r s h k ∙ ap (λ o. ordering_then o (bytes_cmp r s)) (sym (then_equal (nat_cmp v w)))
part_order (NumberPart n) (NumberPart m) r s h k =
    numbers_order _ _ n m r s refl refl h k ∙ ap (λ o. ordering_then o (bytes_cmp r s)) (sym (then_equal (nat_cmp n m)))
part_order (TimePart p t) (TimePart q u) r s h k =
    let order : Ordering = nat_cmp (precision_number p) (precision_number q) in
    ap (ordering_then order)
    (number_order 8 (option_map_or suc t 0) (option_map_or suc u 0) r s (value_8 _ (small_code p t h)) (value_8 _ (small_code q u k))
    ∙ ap (λ o. ordering_then o (bytes_cmp r s)) (number_or_none t u))
    ∙ sym (then_assoc order _ (bytes_cmp r s))
part_order (LabelPart t) (LabelPart u) r s h k = label_order t u r s h k
part_order (AddressPart (V4, v)) (AddressPart (V6, w)) r s h k = refl
part_order (AddressPart (V6, v)) (AddressPart (V4, w)) r s h k = refl
part_order (AddressPart (V4, v)) (NumberPart m) r s h k = either_size m (λ code. bytes_cmp (part_code (AddressPart (V4, v)) ++ r) (code ++ s) ≡ Less) refl refl
part_order (AddressPart (V6, v)) (NumberPart m) r s h k = either_size m (λ code. bytes_cmp (part_code (AddressPart (V6, v)) ++ r) (code ++ s) ≡ Less) refl refl
part_order (AddressPart (V4, v)) (LabelPart u) r s h k = refl
part_order (AddressPart (V6, v)) (LabelPart u) r s h k = refl
part_order (NumberPart n) (AddressPart (V4, w)) r s h k = either_size n (λ code. bytes_cmp (code ++ r) (part_code (AddressPart (V4, w)) ++ s) ≡ Greater) refl refl
part_order (NumberPart n) (AddressPart (V6, w)) r s h k = either_size n (λ code. bytes_cmp (code ++ r) (part_code (AddressPart (V6, w)) ++ s) ≡ Greater) refl refl
part_order (NumberPart n) (LabelPart u) r s h k = either_size n (λ code. bytes_cmp (code ++ r) (part_code (LabelPart u) ++ s) ≡ Less) refl refl
part_order (LabelPart t) (AddressPart (V4, w)) r s h k = refl
part_order (LabelPart t) (AddressPart (V6, w)) r s h k = refl
part_order (LabelPart t) (NumberPart m) r s h k = either_size m (λ code. bytes_cmp (part_code (LabelPart t) ++ r) (code ++ s) ≡ Greater) refl refl
part_order (AddressPart (V4, v)) (TimePart q u) r s h k = refl
part_order (AddressPart (V6, v)) (TimePart q u) r s h k = refl
part_order (NumberPart n) (TimePart q u) r s h k = either_size n (λ code. bytes_cmp (code ++ r) (part_code (TimePart q u) ++ s) ≡ Less) refl refl
part_order (LabelPart t) (TimePart q u) r s h k = refl
part_order (TimePart p t) (AddressPart (V4, w)) r s h k = refl
part_order (TimePart p t) (AddressPart (V6, w)) r s h k = refl
part_order (TimePart p t) (NumberPart m) r s h k = either_size m (λ code. bytes_cmp (part_code (TimePart p t) ++ r) (code ++ s) ≡ Greater) refl refl
part_order (TimePart p t) (LabelPart u) r s h k = refl

code_first : (p : KeyPartModel) (r : List ℕ) → (bytes_cmp [] (part_code p ++ r) ≡ Less) × (bytes_cmp (part_code p ++ r) [] ≡ Greater)
code_first (AddressPart (V4, v)) r = (refl, refl)
code_first (AddressPart (V6, v)) r = (refl, refl)
code_first (NumberPart n) r =
    (either_size n (λ code. bytes_cmp [] (code ++ r) ≡ Less) refl refl, either_size n (λ code. bytes_cmp (code ++ r) [] ≡ Greater) refl refl)
code_first (LabelPart t) r = (refl, refl)
code_first (TimePart precision number) r = (refl, refl)

key_code-order : (a b : Key) → AreSmall a → AreSmall b → bytes_cmp (key_code a) (key_code b) ≡ slice_cmp parts_cmp a b
key_code-order [] [] h k = refl
key_code-order [] (q ∷ b) h k = (code_first q (key_code b)).0
key_code-order (p ∷ a) [] h k = (code_first p (key_code a)).1
key_code-order (p ∷ a) (q ∷ b) h k =
    part_order p q (key_code a) (key_code b) h.0 k.0 ∙ ap (ordering_then (parts_cmp p q)) (key_code-order a b h.1 k.1)

-- the order of codes is that of their keys
pub codes_in_order : (a b : List ℕ) → IsCode a → IsCode b → slice_cmp nat_cmp a b ≡ slice_cmp parts_cmp (key_in a) (key_in b)
codes_in_order a b is_a is_b = (λ i. bytes_cmp (is_a.same i) (is_b.same i)) ∙ key_code-order (key_in a) (key_in b) is_a.small is_b.small
