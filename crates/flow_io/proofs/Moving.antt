-- Bytes that readers return and writers take, one call after another.
use Rattle.std.proofs.Common.{◌≡◌, ℕ, ◌+◌, ◌-◌, ◌≤◌, List, [], ◌++◌, length, take, drop, sym, ap, ◌∙◌, append_assoc, append-nil, length-take, arith, slice_range}
use Rattle.std.proofs.Math.Seq.{take-add}
use Rattle.std.proofs.lemmas.List.{drop-drop, take_at}
use lib.Seq.{take-append-add, take-append-le}
use borrow.Rule.Slice.PartMut.{put_mid, post_of}
use Rattle.std.proofs.KnownBytes.{Appends-trans, Consumes-nil, Consumes-trans}
use Rattle.flow_io.specs.Devices.{InputView, OutputView, Gives, Takes}

pub gives_none : (a : InputView) → Gives a a []
gives_none a = record { returned = sym (append-nil a.returned); left = Consumes-nil a.left }

pub gives_more : {a b c : InputView} {front more : List ℕ} → Gives a b front → Gives b c more → Gives a c (front ++ more)
gives_more {a} {b} {c} {front} {more} first second = record {
  returned = second.returned ∙ ap (λ l. l ++ more) first.returned ∙ append_assoc a.returned front more;
  left = Consumes-trans a.left b.left c.left front more first.left second.left;
}

pub takes_more : {a b c : OutputView} {front more : List ℕ} → Takes a b front → Takes b c more → Takes a c (front ++ more)
takes_more {a} {b} {c} {front} {more} first second = record {
  taken = second.taken ∙ ap (λ l. l ++ more) first.taken ∙ append_assoc a.taken front more;
  contents = Appends-trans a.contents b.contents c.contents front more first.contents second.contents;
}

take_length : (a : ℕ) (xs : List ℕ) → a ≤ length xs → length (take a xs) ≡ a
take_length a xs within = length-take a xs ∙ omega (arith, within)

-- after the first a bytes come the n bytes that were read
pub take_filled : (a k n : ℕ) (xs ys : List ℕ) → a ≤ length xs → n ≤ length ys → take (a + n) (put_mid a k xs ys) ≡ take a xs ++ take n ys
take_filled a k n xs ys within most =
    let whole = put_mid a k xs ys in
    let front = take a xs in
    ap (λ (m : ℕ). take (m + n) whole) (sym (take_length a xs within)) ∙ take-append-add front (ys ++ post_of a k xs) n ∙ ap (λ (l : List ℕ). front ++ l) (take-append-le n ys (post_of a k xs) most)

-- from a on, n bytes are copied to the start of a buffer
pub moved_ahead : (a b n : ℕ) (xs all ys rest : List ℕ) → n ≤ b - a → length ys ≡ n → ys ≡ slice_range all a (a + n) → all ≡ xs
    → slice_range xs a b ≡ take n (ys ++ rest) ++ slice_range xs (a + n) b
moved_ahead a b n xs all ys rest most len copied same =
    let parts : b - a ≡ n + (b - (a + n)) = omega (arith, most) in
    let front : take n (drop a xs) ≡ take n (ys ++ rest) =
    ap (λ l. take n (drop a l)) (sym same) ∙ ap (λ m. take m (drop a all)) (omega arith) ∙ sym copied ∙ sym (take_at ys rest n len) in
    ap (λ m. take m (drop a xs)) parts ∙ take-add n (b - (a + n)) (drop a xs) ∙ ap (λ l. l ++ take (b - (a + n)) (drop n (drop a xs))) front
    ∙ ap (λ l. take n (ys ++ rest) ++ take (b - (a + n)) l) (drop-drop n a xs)
