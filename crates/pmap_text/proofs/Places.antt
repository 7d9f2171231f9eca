-- The first index at which a test passes.
use Rattle.std.proofs.Common.{◌≡◌, ℕ, ◌+◌, ◌<◌, ◌≤◌, ◌||◌, Bool, true, false, not, List, [], ◌∷◌, length, take, drop, get_or, Option, None, Some, ap, sym, refl, arith, unwrap_or, eqb, true≢false}
use Rattle.std.proofs.lemmas.Bool.{false_from_ne_true, ltb-false}
use Rattle.std.proofs.lemmas.List.Sums.{position_or_len_is, prefix_len-le-length}
use Rattle.memchr.specs.Find.{IsFirstByte}
use Rattle.std.proofs.Math.Numerals.{one-add, add-one}
use Rattle.std.specs.List.{before_first, position_or_len}
use Rattle.std.specs.Prelude.{position, nat_lt}
use Rattle.pmap_text.specs.Reading.{lines_of}

pub position_or_len-le : {X : Type 0} (p : X → Bool) (xs : List X) → position_or_len p xs ≤ length xs
position_or_len-le p xs = prefix_len-le-length (λ x. not (p x)) xs

-- the index that `position` found, or the length, is the first index
pub place_from_position : {X : Type 0} (p : X → Bool) (xs : List X) (found : Option ℕ) → found ≡ position p xs → unwrap_or found (length xs) ≡ position_or_len p xs
place_from_position p xs found e = by (nat_lt (position_or_len p xs) (length xs)) refl
  where
    by : (b : Bool) → nat_lt (position_or_len p xs) (length xs) ≡ b → unwrap_or found (length xs) ≡ position_or_len p xs
    by true h = rw (e, h) refl
    by false h = rw (e, h) (omega (arith, ltb-false _ _ h, position_or_len-le p xs))

-- the index of the first line feed, or the length
abbrev pub feed_at : List ℕ → ℕ
feed_at text = position_or_len (λ b. eqb b 10) text

-- the first line ends at the first line feed
pub lines_of-at_feed : (text : List ℕ) → feed_at text < length text → lines_of text ≡ take (feed_at text) text ∷ lines_of (drop (feed_at text + 1) text)
lines_of-at_feed [] h = absurd (omega (arith, h))
lines_of-at_feed (b ∷ bs) h = by (eqb b 10) refl (lines_of-at_feed bs)
  where
    by : (t : Bool) → eqb b 10 ≡ t → (feed_at bs < length bs → lines_of bs ≡ take (feed_at bs) bs ∷ lines_of (drop (feed_at bs + 1) bs)) → lines_of (b ∷ bs) ≡ take (feed_at (b ∷ bs)) (b ∷ bs) ∷ lines_of (drop (feed_at (b ∷ bs) + 1) (b ∷ bs))
    by true e ih = rw e refl
    by false e ih =
        let k : 1 + feed_at bs < length (b ∷ bs) = rw e at h in
        let ih' = ih (omega (arith, k)) in
        rw (e, one-add, add-one, ih', add-one) refl

-- with no line feed the text is one line
pub lines_of-no_feed : (b : ℕ) (bs : List ℕ) → length (b ∷ bs) ≤ feed_at (b ∷ bs) → lines_of (b ∷ bs) ≡ (b ∷ bs) ∷ []
lines_of-no_feed b [] h = by (eqb b 10) refl
  where
    by : (t : Bool) → eqb b 10 ≡ t → lines_of (b ∷ []) ≡ (b ∷ []) ∷ []
    by true e = let k : 1 ≤ 0 = rw e at h in absurd (omega (arith, k))
    by false e = rw e refl
lines_of-no_feed b (b' ∷ bs) h = by (eqb b 10) refl (lines_of-no_feed b' bs)
  where
    by : (t : Bool) → eqb b 10 ≡ t → (length (b' ∷ bs) ≤ feed_at (b' ∷ bs) → lines_of (b' ∷ bs) ≡ (b' ∷ bs) ∷ []) → lines_of (b ∷ b' ∷ bs) ≡ (b ∷ b' ∷ bs) ∷ []
    by true e ih = let k : length (b ∷ b' ∷ bs) ≤ 0 = rw e at h in absurd (omega (arith, k))
    by false e ih =
        let k : length (b ∷ b' ∷ bs) ≤ 1 + feed_at (b' ∷ bs) = rw e at h in
        let ih' = ih (omega (arith, k)) in
        rw (e, ih') refl

-- the index that a search found, or the length, is the first index
pub place_from_search : (p : ℕ → Bool) (text : List ℕ) (found : Option ℕ) → IsFirstByte p text found → unwrap_or found (length text) ≡ position_or_len p text
place_from_search p text None none =
    sym (position_or_len_is p text (length text) 0 (omega arith) (λ k within. false_from_ne_true _ (none k (omega arith) within)) (λ past. absurd (omega (arith, past))))
place_from_search p text (Some k) some =
    sym (position_or_len_is p text k 0 (omega (arith, some.0.high)) (λ j before. false_from_ne_true _ (some.0.before j (omega arith) before)) (λ within. some.1))

-- the index of the first line feed or `#`, or the length
abbrev pub end_at : List ℕ → ℕ
end_at text = position_or_len (λ b. eqb b 10 || eqb b 35) text

-- if no comment begins there, it is the index of the line feed, and no comment begins before it
pub end_at-feed : (text : List ℕ) → (end_at text < length text → eqb (get_or text (end_at text) 0) 35 ≡ false)
    → (end_at text ≡ feed_at text) × (before_first (λ b. eqb b 35) (take (end_at text) text) ≡ take (end_at text) text)
end_at-feed [] h = (refl, refl)
end_at-feed (b ∷ bs) h = by (eqb b 10) refl (eqb b 35) refl (end_at-feed bs)
  where
    by : (s : Bool) → eqb b 10 ≡ s → (t : Bool) → eqb b 35 ≡ t
        → ((end_at bs < length bs → eqb (get_or bs (end_at bs) 0) 35 ≡ false)
        → (end_at bs ≡ feed_at bs) × (before_first (λ b. eqb b 35) (take (end_at bs) bs) ≡ take (end_at bs) bs))
        → (end_at (b ∷ bs) ≡ feed_at (b ∷ bs)) × (before_first (λ b. eqb b 35) (take (end_at (b ∷ bs)) (b ∷ bs)) ≡ take (end_at (b ∷ bs)) (b ∷ bs))
    by true e t f ih = rw e (refl, refl)
    by false e true f ih =
        let k : 0 < length (b ∷ bs) → true ≡ false = rw (e, f, f) at h in
        absurd (true≢false (k (omega arith)))
    by false e false f ih =
        let k : 1 + end_at bs < length (b ∷ bs) → eqb (get_or (b ∷ bs) (1 + end_at bs) 0) 35 ≡ false = rw (e, f) at h in
        let rest = ih (λ within. rw one-add at (k (omega (arith, within)))) in
        rw (e, f, one-add) (omega (arith, rest.0), rw (f, one-add) (ap (λ bs'. b ∷ bs') rest.1))
