-- Bytes that are put one after the other.
use Rattle.std.proofs.Common.{◌≡◌, ◌∙◌, ℕ, ◌+◌, ◌-◌, ◌≤◌, List, ◌++◌, length, take, drop, sym, ap, arith, length-append, slice_range}
use Rattle.std.proofs.lemmas.List.{drop-append-le, length-drop, length-take, take_all, take_at}
use borrow.Rule.Slice.PartMut.{put_mid}
use Rattle.flow_io.proofs.Moving.{take_filled}
use Rattle.byteorder.specs.Endian.{big_bytes}
use Rattle.std.proofs.lemmas.Slice.{between_is, take-put_mid}
use lib.Seq.{take-append-add}
use Rattle.nfcapd_read.specs.Encode.{message, message_head, wire}

-- a number that is written over the bytes from a place on
pub number_put : (at size number : ℕ) (out part rest : List ℕ) → at ≤ length out → length (big_bytes size number) ≡ size
    → part ≡ big_bytes size number ++ rest → take (at + size) (put_mid at (length out - at) out part) ≡ take at out ++ big_bytes size number
number_put at size number out part rest within long is =
    take_filled at (length out - at) size out part within (omega (arith, ap length is, length-append (big_bytes size number) rest, long))
    ∙ ap (λ (l : List ℕ). take at out ++ l) (ap (take size) is ∙ take_at (big_bytes size number) rest size long)

-- The message that is ended.
module _ (out one two three part six last : List ℕ) (at a b : ℕ) (least : 20 ≤ at) (within : at ≤ length out)
    (long : length part ≡ 20) (head : take 20 part ≡ message_head (at - 20) (length six))
    (first : one ≡ put_mid 0 20 out part)
    (put : take a two ≡ take at one ++ wire 2 257) (put' : take b three ≡ take a two ++ wire 2 (4 + length six))
    (size : b ≤ length three) (copied : last ≡ six) where
  front_is : take at one ≡ message_head (at - 20) (length six) ++ slice_range out 20 at
  front_is =
      let parts : at ≡ length part + (at - 20) = omega (arith, long, least) in
      ap (take at) first ∙ ap (λ n. take n (part ++ drop 20 out)) parts ∙ take-append-add part (drop 20 out) (at - 20)
      ∙ ap (λ (l : List ℕ). l ++ take (at - 20) (drop 20 out)) (sym (take_all 20 part (omega (arith, long))) ∙ head)

  four_size : length (slice_range out 20 at) ≡ at - 20
  four_size = omega (arith, length-take (at - 20) (drop 20 out), length-drop 20 out, within, least)

  pub message_ended : (e : ℕ) → e ≡ b + length six → take e (put_mid b (e - b) three last) ≡ message (slice_range out 20 at) six
  message_ended e is =
      take-put_mid b (e - b) three last e (omega (arith, is, ap length copied)) size
      ∙ ap (λ (l : List ℕ). take b three ++ l) copied
      ∙ ap (λ (l : List ℕ). l ++ six) (put' ∙ ap (λ (l : List ℕ). l ++ wire 2 (4 + length six)) (put ∙ ap (λ (l : List ℕ). l ++ wire 2 257) front_is))
      ∙ ap (λ n. message_head n (length six) ++ slice_range out 20 at ++ wire 2 257 ++ wire 2 (4 + length six) ++ six) (sym four_size)

-- bytes from 20 on, with more after them
pub four_more : (at e : ℕ) (old new more : List ℕ) → take e new ≡ take at old ++ more → 20 ≤ at → at ≤ length old
    → slice_range new 20 e ≡ slice_range old 20 at ++ more
four_more at e old new more put least within =
    between_is new 20 e ∙ ap (drop 20) put
    ∙ drop-append-le 20 (take at old) more (omega (arith, length-take at old, within, least))
    ∙ ap (λ (l : List ℕ). l ++ more) (sym (between_is old 20 at))

pub four_long : (at : ℕ) (out : List ℕ) → at ≤ length out → length (slice_range out 20 at) ≡ at - 20
four_long at out within = omega (arith, length-take (at - 20) (drop 20 out), length-drop 20 out, within)
