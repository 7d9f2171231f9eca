-- The bytes that are written for a key are read back as this key.
use Rattle.std.proofs.Common.{◌≡◌, ℕ, zero, suc, ◌+◌, ◌-◌, ◌*◌, ◌/◌, ◌%◌, ◌^◌, ◌<◌, ◌≤◌, ◌==◌, Bool, true, false, not, cond, if◌then◌else◌, true≢false, List, [], ◌∷◌, ◌++◌, length, take, drop, nat_lt, map, Option, Some, None, unwrap_or, refl, sym, ap, subst, ◌∙◌, arith}
use Rattle.std.proofs.lemmas.List.{append-nil, append_assoc, drop_at, length-append, length-drop, take_at}
use Rattle.std.proofs.lemmas.Bool.{and_parts, le-ltb, ltb-true, ne_eqb}
use Rattle.std.proofs.lemmas.Bool.Decides.{nat_tests}
use Rattle.std.proofs.lemmas.Nat.{from_be_bytes-to_be_bytes_2, from_be_bytes-to_be_bytes_4, from_be_bytes-to_be_bytes_8}
use Rattle.std.proofs.lemmas.Option.{none-some}
use Rattle.std.specs.List.{AllByRecursion, list_all, position_or_len}
use Rattle.std.specs.Option.{option_map_or}
use Rattle.std.specs.Prelude.{IfSome, IsTrue, nat_le, option_and_then, option_map, position}
use Rattle.std.specs.Int.{w16, w32, w64, from_be_bytes, to_be_bytes}
use Rattle.prefix_keys.specs.declared.version.Version.TheVariants.{V4, V6}
use Rattle.pmap_model.specs.Label.{is_label, is_label_byte}
use Rattle.flow_uniq.specs.Key.{KeyField, Key, KeyPartModel, AddressPart, NumberPart, LabelPart, TimePart, Precision, Day, Hour, Minute}
use Rattle.flow_uniq.specs.Times.{precision_number}
use Rattle.flow_uniq.specs.Codes.{AreSmall, IsCode, IsSmall, first_part, front_bytes, front_label, front_time, key_code, key_in, number_before, number_code, part_code, parts_in, precision_at}

-- bytes that were written are read back
front_bytes-back : (n : ℕ) (xs r : List ℕ) → length xs ≡ n → front_bytes n (xs ++ r) ≡ Some (xs, r)
front_bytes-back n xs r e = rw (le-ltb (length (xs ++ r)) n (omega (arith, e, length-append xs r)), take_at xs r n e, drop_at xs r n e) refl

-- no byte is 0
abbrev pub LacksZero : List ℕ → Type 0
LacksZero bytes = AllByRecursion (λ b. 0 < b) bytes

lacks_zero : (bytes : List ℕ) → list_all is_label_byte bytes ≡ true → LacksZero bytes
lacks_zero [] h = tt
lacks_zero (zero ∷ bytes) h = absurd (true≢false (sym h))
lacks_zero (suc b ∷ bytes) h = (omega arith, lacks_zero bytes (and_parts (is_label_byte (suc b)) (list_all is_label_byte bytes) h).1)

pub label-lacks_zero : (text : List ℕ) → IsTrue (is_label text) → LacksZero text
label-lacks_zero text is =
    lacks_zero text (and_parts _ _ (and_parts (nat_le (length text) 255) _ (and_parts (nat_le 1 (length text)) _ is).1).1).0

before_zero : (text r : List ℕ) → LacksZero text → position_or_len (λ b. b == 0) (text ++ 0 ∷ r) ≡ length text
before_zero [] r lacks = refl
before_zero (b ∷ text) r lacks =
    (λ i. cond (not (ne_eqb b 0 (λ e. omega (arith, lacks.0, e)) i)) (1 + position_or_len (λ b. b == 0) (text ++ 0 ∷ r)) 0)
    ∙ omega (arith, before_zero text r lacks.1)

zero_at : (text r : List ℕ) → LacksZero text → position (λ b. b == 0) (text ++ 0 ∷ r) ≡ Some (length text)
zero_at text r lacks =
    rw (before_zero text r lacks, length-append text (0 ∷ r)) (grind (arith, nat_tests))

-- a label that was written is read back
front_label-back : (label : Option (List ℕ)) (r : List ℕ) → IsSmall (LabelPart label) → front_label ((unwrap_or label [] ++ 0 ∷ []) ++ r) ≡ Some (label, r)
front_label-back None r h = ap (option_map (λ count. (if count == 0 then None else Some (take count (0 ∷ r)), drop (count + 1) (0 ∷ r)))) (zero_at [] r tt)
front_label-back (Some []) r h = absurd (true≢false (sym h))
front_label-back (Some (b ∷ t)) r h =
    let text : List ℕ = b ∷ t in
    let code : List ℕ = (text ++ 0 ∷ []) ++ r in
    let at : position (λ b. b == 0) code ≡ Some (length text) =
    ap (position (λ b. b == 0)) (append_assoc text (0 ∷ []) r) ∙ zero_at text r (label-lacks_zero text h) in
    let front : take (length text) code ≡ text = ap (take (length text)) (append_assoc text (0 ∷ []) r) ∙ take_at text (0 ∷ r) (length text) refl in
    let back : drop (length text + 1) code ≡ r = drop_at (text ++ 0 ∷ []) r (length text + 1) (length-append text (0 ∷ [])) in
    ap (option_map (λ count. (if count == 0 then None else Some (take count code), drop (count + 1) code))) at
    ∙ (λ i. Some (if ne_eqb (length text) 0 (λ e. omega (arith, e)) i then None else Some (front i), back i))

-- how exact a time is is read back, and so is its number
pub precision-back : (precision : Precision) → precision_at (precision_number precision) ≡ precision
precision-back Day = refl
precision-back Hour = refl
precision-back Minute = refl

number-back : (number : Option ℕ) → number_before (option_map_or suc number 0) ≡ number
number-back None = refl
number-back (Some n) = (λ i. if ne_eqb (suc n) 0 (λ e. omega (arith, e)) i then None else Some (suc n - 1)) ∙ ap Some (omega arith)

pub small_code : (precision : Precision) (number : Option ℕ) → IsSmall (TimePart precision number) → option_map_or suc number 0 < 2 ^ 64
small_code precision None h = omega arith
small_code precision (Some n) h = omega arith

-- a number has two bytes, or more
pub either_size : (n : ℕ) (P : List ℕ → Type 0) → P (number_code true n) → P (number_code false n) → P (part_code (NumberPart n))
either_size n P small large = elim (nat_lt n 65536) as (λ b. P (number_code b n)) [ true ↦ small | false ↦ large ]

-- a number of two bytes, or a larger one, is read back
number-back_at : (small : Bool) (n : ℕ) (r : List ℕ) → (small ≡ true → n < 2 ^ 16) → n < 2 ^ 32
    → first_part (number_code small n ++ r) ≡ Some (NumberPart n, r)
number-back_at true n r small h =
    ap (option_map (λ c. (NumberPart (from_be_bytes w16 c.0), c.1))) (front_bytes-back 2 (to_be_bytes w16 n) r refl)
    ∙ ap (λ (m : ℕ). Some (NumberPart m, r)) (from_be_bytes-to_be_bytes_2 n (small refl))
number-back_at false n r small h =
    ap (option_map (λ c. (NumberPart (from_be_bytes w32 c.0), c.1))) (front_bytes-back 4 (to_be_bytes w32 n) r refl)
    ∙ ap (λ (m : ℕ). Some (NumberPart m, r)) (from_be_bytes-to_be_bytes_4 n h)

-- a part that was written is read back, and the bytes after it remain
first_part-back : (p : KeyPartModel) (r : List ℕ) → IsSmall p → first_part (part_code p ++ r) ≡ Some (p, r)
first_part-back (NumberPart n) r h = number-back_at (nat_lt n 65536) n r (ltb-true n 65536) h
first_part-back (TimePart precision number) r h =
    let code : ℕ = option_map_or suc number 0 in
    ap (option_map (λ c. (TimePart (precision_at (precision_number precision)) (number_before (from_be_bytes w64 c.0)), c.1)))
    (front_bytes-back 8 (to_be_bytes w64 code) r refl)
    ∙ (λ i. Some (TimePart (precision-back precision i) (number_before (from_be_bytes-to_be_bytes_8 code (small_code precision number h) i)), r))
    ∙ ap (λ n. Some (TimePart precision n, r)) (number-back number)
first_part-back (LabelPart label) r h = ap (option_map (λ c. (LabelPart c.0, c.1))) (front_label-back label r h)
first_part-back (AddressPart (V4, v)) r h =
    ap (option_map (λ c. (AddressPart (V4, from_be_bytes w32 c.0), c.1))) (front_bytes-back 4 (to_be_bytes w32 v) r refl)
    ∙ ap (λ (m : ℕ). Some (AddressPart (V4, m), r)) (from_be_bytes-to_be_bytes_4 v h)
first_part-back (AddressPart (V6, v)) r h =
    let high : List ℕ = to_be_bytes w64 (v / 2 ^ 64) in
    let low : List ℕ = to_be_bytes w64 (v % 2 ^ 64) in
    let value : from_be_bytes w64 high * 2 ^ 64 + from_be_bytes w64 low ≡ v =
    omega (arith, from_be_bytes-to_be_bytes_8 (v / 2 ^ 64) (omega (arith, h)), from_be_bytes-to_be_bytes_8 (v % 2 ^ 64) (omega arith)) in
    ap (λ (l : List ℕ). first_part (1 ∷ l)) (append_assoc high low r)
    ∙ ap (option_and_then (λ c. option_map (λ d. (AddressPart (V6, from_be_bytes w64 c.0 * 2 ^ 64 + from_be_bytes w64 d.0), d.1)) (front_bytes 8 c.1)))
    (front_bytes-back 8 high (low ++ r) refl)
    ∙ ap (option_map (λ d. (AddressPart (V6, from_be_bytes w64 high * 2 ^ 64 + from_be_bytes w64 d.0), d.1))) (front_bytes-back 8 low r refl)
    ∙ ap (λ (m : ℕ). Some (AddressPart (V6, m), r)) value

one_byte : (p : KeyPartModel) → 1 ≤ length (part_code p)
one_byte (NumberPart n) = either_size n (λ code. 1 ≤ length code) (omega arith) (omega arith)
one_byte (LabelPart label) = omega arith
one_byte (TimePart precision number) = omega arith
one_byte (AddressPart (V4, v)) = omega arith
one_byte (AddressPart (V6, v)) = omega arith

no_fewer_bytes : (k : Key) → length k ≤ length (key_code k)
no_fewer_bytes [] = omega arith
no_fewer_bytes (p ∷ k) = omega (arith, one_byte p, no_fewer_bytes k, length-append (part_code p) (key_code k))

parts_in-code : (k : Key) (most : ℕ) → AreSmall k → length k ≤ most → parts_in most (key_code k) ≡ k
parts_in-code [] zero h room = refl
parts_in-code [] (suc most) h room = refl
parts_in-code (p ∷ k) zero h room = absurd (omega arith)
parts_in-code (p ∷ k) (suc most) h room =
    ap (λ o. option_map_or (λ x. x.0 ∷ parts_in most x.1) o []) (first_part-back p (key_code k) h.0) ∙ ap (λ (l : Key). p ∷ l) (parts_in-code k most h.1 (omega arith))

-- a key that was written is read back
pub key_in-code : (k : Key) → AreSmall k → key_in (key_code k) ≡ k
key_in-code k h = parts_in-code k (length (key_code k)) h (no_fewer_bytes k)

-- keys with equal codes are equal
pub same_from_codes : (a b : Key) → AreSmall a → AreSmall b → key_code a ≡ key_code b → a ≡ b
same_from_codes a b small_a small_b e = sym (key_in-code a small_a) ∙ ap key_in e ∙ key_in-code b small_b

-- the bytes of a small key encode it
code_of : (k : Key) → AreSmall k → IsCode (key_code k)
code_of k h = record { small = subst AreSmall (sym (key_in-code k h)) h; same = ap key_code (sym (key_in-code k h)) }

-- the first part is small, and the bytes after it encode the other parts
rest_of_key : (k : Key) → AreSmall k → (code : List ℕ) → code ≡ key_code k → (p : KeyPartModel) (rest : List ℕ) → first_part code ≡ Some (p, rest)
    → IsSmall p × IsCode rest
rest_of_key [] h code e p rest f = absurd (none-some (p, rest) (ap first_part (sym e) ∙ f))
rest_of_key (q ∷ k) h code e p rest f =
    let both : Some (p, rest) ≡ Some (q, key_code k) = sym f ∙ ap first_part e ∙ first_part-back q (key_code k) h.0 in
    let same : (p, rest) ≡ (q, key_code k) = ap (λ o. unwrap_or o (p, rest)) both in
    (subst IsSmall (sym (ap (λ c. c.0) same)) h.0, subst IsCode (sym (ap (λ c. c.1) same)) (code_of k h.1))

pub rest_code : (code : List ℕ) (p : KeyPartModel) (rest : List ℕ) → IsCode code → first_part code ≡ Some (p, rest) → IsSmall p × IsCode rest
rest_code code p rest is f = rest_of_key (key_in code) is.small code is.same p rest f

-- the rest is shorter than the bytes
abbrev Within : ℕ → Option (KeyPartModel × List ℕ) → Type 0
Within n part = IfSome part (λ c. length c.1 ≤ n)

module _ (code : List ℕ) where
  rest_of_one : (n : ℕ) (f : List ℕ → KeyPartModel) → Within (length code) (option_map (λ c. (f c.0, c.1)) (front_bytes n code))
  rest_of_one n f = grind (arith, nat_tests, length-drop n code)

  rest_of_two : (n : ℕ) (g : List ℕ → ℕ) (f : List ℕ → List ℕ → KeyPartModel)
      → Within (length code) (option_and_then (λ a. option_map (λ c. (f a.0 c.0, c.1)) (front_bytes (g a.0) a.1)) (front_bytes n code))
  rest_of_two n g f = grind (arith, nat_tests, length-drop n code, length-drop {A = ℕ})

  abbrev label_part : Option (List ℕ) × List ℕ → KeyPartModel × List ℕ
  label_part c = (LabelPart c.0, c.1)

  rest_of_label : Within (length code) (option_map label_part (front_label code))
  rest_of_label = by (nat_lt (position_or_len (λ b. b == 0) code) (length code)) (position_or_len (λ b. b == 0) code)
    where
      by : (b : Bool) (n : ℕ) → Within (length code) (option_map label_part
          (option_map (λ (count : ℕ). (if count == 0 then None else Some (take count code), drop (count + 1) code)) (cond b (Some n) None)))
      by true n = omega (arith, length-drop (n + 1) code)
      by false n = tt

rest_of_time : (code : List ℕ) → Within (length code) (front_time code)
rest_of_time [] = tt
rest_of_time (byte ∷ code) = more _ (rest_of_one code 8 _)
  where
    more : (part : Option (KeyPartModel × List ℕ)) → Within (length code) part → Within (length (byte ∷ code)) part
    more None h = tt
    more (Some c) h = omega arith

rest_shorter : (kind : ℕ) (code : List ℕ) → Within (length code) (first_part (kind ∷ code))
rest_shorter kind code =
    by _ _ (kind == 0) (rest_of_one code 4 _) (by _ _ (kind == 1) (rest_of_two code 8 _ _)
    (by _ _ (kind == 2) (rest_of_one code 2 _) (by _ _ (kind == 3) (rest_of_one code 4 _)
    (by _ _ (kind == 5) (rest_of_time code) (rest_of_label code)))))
  where
    by : (x y : Option (KeyPartModel × List ℕ)) (b : Bool) → Within (length code) x → Within (length code) y → Within (length code) (if b then x else y)
    by x y true h k = h
    by x y false h k = k

-- a limit of as many parts as there are bytes omits no part
enough : (m n : ℕ) (code : List ℕ) → length code ≤ m → length code ≤ n → parts_in m code ≡ parts_in n code
enough zero zero code p q = refl
enough zero (suc n) [] p q = refl
enough (suc m) zero [] p q = refl
enough (suc m) (suc n) [] p q = refl
enough zero (suc n) (b ∷ code) p q = absurd (omega arith)
enough (suc m) zero (b ∷ code) p q = absurd (omega arith)
enough (suc m) (suc n) (b ∷ code) p q =
    by (first_part (b ∷ code)) (rest_shorter b code) (λ c h. enough m n c (omega (arith, h, p)) (omega (arith, h, q)))
  where
    by : (o : Option (KeyPartModel × List ℕ)) → Within (length code) o → ((c : List ℕ) → length c ≤ length code → parts_in m c ≡ parts_in n c)
        → option_map_or (λ x. x.0 ∷ parts_in m x.1) o [] ≡ option_map_or (λ x. x.0 ∷ parts_in n x.1) o []
    by None h same = refl
    by (Some c) h same = ap (λ (k : Key). c.0 ∷ k) (same c.1 h)

pub key_in-rest : (code : List ℕ) → key_in code ≡ option_map_or (λ x. x.0 ∷ key_in x.1) (first_part code) []
key_in-rest [] = refl
key_in-rest (kind ∷ code) = by (first_part (kind ∷ code)) (rest_shorter kind code)
  where
    by : (o : Option (KeyPartModel × List ℕ)) → Within (length code) o
        → option_map_or (λ x. x.0 ∷ parts_in (length code) x.1) o [] ≡ option_map_or (λ x. x.0 ∷ key_in x.1) o []
    by None h = refl
    by (Some c) h = ap (λ (k : Key). c.0 ∷ k) (enough (length code) (length c.1) c.1 h (omega arith))

-- after the last part the bytes are those of the key
pub all_written : (f : KeyField → KeyPartModel) (rest : List KeyField) (key : Key) (code : List ℕ) → length rest ≡ 0
    → code ++ key_code (map f rest) ≡ key_code key → (AreSmall (map f rest) → AreSmall key) → IsCode code × (key_in code ≡ key)
all_written f (field ∷ rest) key code end e small = absurd (omega arith)
all_written f [] key code end e small =
    let whole : code ≡ key_code key = sym (append-nil code) ∙ e in
    let back : key_in code ≡ key = ap key_in whole ∙ key_in-code key (small tt) in
    (record { small = subst AreSmall (sym back) (small tt); same = whole ∙ ap key_code (sym back) }, back)
