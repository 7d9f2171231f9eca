-- Headers, whatever bytes follow them, and headers whose following bytes are known.
use Rattle.std.proofs.Common.{◌≡◌, false, ℕ, ◌<◌, ◌≤◌, List, ◌++◌, length, Some, None, inl, inr, refl, sym, ap, ◌∙◌, arith, ◌+◌, take, ◌-◌, Ok, Err, subst, length-append, length-take, Bool, true}
use Rattle.std.proofs.lemmas.Grind.{common_steps}
use Rattle.std.proofs.lemmas.Bool.Decides.{nat_tests}
use Rattle.std.proofs.lemmas.Bool.{lt-ltb, le-ltb}
use Rattle.std.proofs.lemmas.List.{append-nil, take_at, take_all, length-take-le}
use Rattle.byteorder.specs.Endian.{big_number}
use Rattle.ipfix_read.specs.Message.{ReadFaultKind, header_fault, own_fault, HasHeader}
use Rattle.ipfix_read.specs.declared.fault.ReadFaultKind.TheVariants.{TruncatedHeader, TruncatedMessage, ReadFault as Unread}
use Rattle.ipfix_read.specs.Fault.{is_of_calls}
use Rattle.ipfix_read.specs.Set.{written_length}
use Rattle.ipfix_read.proofs.Sets.{front_number, front_length}
use lib.Seq.{take-append-add, take-append_seam}
use borrow.Rule.Slice.PartMut.{put_mid, post_of}
use Rattle.flow_io.specs.Devices.{InputView, MayFollow, ReadsInput, Gives}
use Rattle.flow_io.proofs.Moving.{gives_more}
use Rattle.ipfix_read.specs.Messages.{Gathers}

-- ---- numbers at the start, whatever follows

pub number_ahead : (xs ys : List ℕ) → 2 ≤ length xs → big_number 2 (xs ++ ys) ≡ big_number 2 xs
number_ahead xs ys long = sym (front_number (length xs) (xs ++ ys) long) ∙ ap (λ (l : List ℕ). big_number 2 l) (take_at xs ys (length xs) refl)

pub written_ahead : (xs ys : List ℕ) → 4 ≤ length xs → written_length (xs ++ ys) ≡ written_length xs
written_ahead xs ys long = sym (front_length (length xs) (xs ++ ys) long) ∙ ap (λ (l : List ℕ). written_length l) (take_at xs ys (length xs) refl)

pub own_ahead : (count : ℕ) (xs ys : List ℕ) → 4 ≤ length xs → own_fault count (xs ++ ys) ≡ own_fault count xs
own_ahead count xs ys long = rw (number_ahead xs ys (omega arith), written_ahead xs ys long) refl

-- ---- the tests of a header

pub header_short : (count : ℕ) (bytes : List ℕ) → length bytes < 16 → header_fault count bytes ≡ Some TruncatedHeader
header_short count bytes short = rw (lt-ltb (length bytes) 16 short) refl

pub header_own : (count : ℕ) (bytes : List ℕ) (kind : ReadFaultKind) → 16 ≤ length bytes → own_fault count bytes ≡ Some kind → header_fault count bytes ≡ Some kind
header_own count bytes kind long own = rw (le-ltb (length bytes) 16 long, own) refl

pub header_cut : (count : ℕ) (bytes : List ℕ) → 16 ≤ length bytes → own_fault count bytes ≡ None → length bytes < written_length bytes → header_fault count bytes ≡ Some TruncatedMessage
header_cut count bytes long own short = rw (le-ltb (length bytes) 16 long, own, lt-ltb (length bytes) (written_length bytes) short) refl

pub header_none : (count : ℕ) (bytes : List ℕ) → 16 ≤ length bytes → own_fault count bytes ≡ None → written_length bytes ≤ length bytes → header_fault count bytes ≡ None
header_none count bytes long own within = rw (le-ltb (length bytes) 16 long, own, le-ltb (length bytes) (written_length bytes) within) refl

-- facts about a header that has no fault
pub record Own (count : ℕ) (bytes : List ℕ) : Type 0 where
  pub counted : count < 4294967295
  pub version : big_number 2 bytes ≡ 10
  pub least : 16 ≤ written_length bytes

pub own_sound : (count : ℕ) (bytes : List ℕ) → own_fault count bytes ≡ None → Own count bytes
own_sound count bytes e = record { counted = grind (arith, nat_tests, common_steps); version = grind (arith, nat_tests, common_steps); least = grind (arith, nat_tests, common_steps) }

-- and about one whose following bytes are known
pub header_sound : (count : ℕ) (bytes : List ℕ) → header_fault count bytes ≡ None → Own count bytes × (written_length bytes ≤ length bytes)
header_sound count bytes e =
    let own : own_fault count bytes ≡ None = grind (arith, nat_tests, common_steps) in (own_sound count bytes own, grind (arith, nat_tests, common_steps))

pub own_none : (count : ℕ) (bytes : List ℕ) → count < 4294967295 → big_number 2 bytes ≡ 10 → 16 ≤ written_length bytes → own_fault count bytes ≡ None
own_none count bytes counted version least = grind (arith, nat_tests, common_steps)

-- the header of a whole message, whatever bytes follow the message
pub header_whole : (count : ℕ) (front after : List ℕ) → count < 4294967295 → 16 ≤ length front → big_number 2 front ≡ 10 → written_length front ≡ length front → header_fault count (front ++ after) ≡ None
header_whole count front after counted least version whole =
    let long = length-append front after in
    header_none count (front ++ after) (omega (arith, long)) (own_ahead count front after (omega arith) ∙ own_none count front counted version (omega arith))
    (omega (arith, written_ahead front after (omega arith), long))

-- ---- the offsets of the two parts

-- the header that was read
abbrev pub head_of : List ℕ → List ℕ → List ℕ
head_of xs ys = take 16 (put_mid 0 16 xs ys)

pub head_is : (xs ys : List ℕ) → length ys ≡ 16 → head_of xs ys ≡ ys
head_is xs ys sixteen = take_at ys (post_of 0 16 xs) 16 sixteen

-- the buffer after both reads
abbrev both_in : ℕ → List ℕ → List ℕ → List ℕ → List ℕ
both_in size xs ys zs = put_mid 16 (size - 16) (put_mid 0 16 xs ys) zs

two_parts : (size : ℕ) (xs ys zs : List ℕ) → length ys ≡ 16 → size ≡ 16 + length zs → take size (both_in size xs ys zs) ≡ ys ++ zs
two_parts size xs ys zs sixteen all =
    let rest = post_of 16 (size - 16) (put_mid 0 16 xs ys) in
    ap (λ (l : List ℕ). take size (l ++ (zs ++ rest))) (head_is xs ys sixteen)
    ∙ ap (λ (k : ℕ). take k (ys ++ (zs ++ rest))) (all ∙ ap (λ (k : ℕ). k + length zs) (sym sixteen))
    ∙ take-append-add ys (zs ++ rest) (length zs) ∙ ap (λ (l : List ℕ). ys ++ l) (take-append_seam zs rest)

-- ---- the reader returned nothing, too little, or a header with a fault

-- nothing follows at the end of the input
pub none_follow : (bytes rest : List ℕ) (ended : Bool) → ended ≡ true → MayFollow ended rest → bytes ++ rest ≡ bytes
none_follow bytes rest ended end follows = ap (λ (l : List ℕ). bytes ++ l) (follows end) ∙ append-nil bytes

-- the fault and the length that a header at the start gives
same_fault : (count : ℕ) (xs ys more : List ℕ) → length ys ≡ 16 → own_fault count (ys ++ more) ≡ own_fault count (head_of xs ys)
same_fault count xs ys more sixteen = own_ahead count ys more (omega (arith, sixteen)) ∙ ap (λ (l : List ℕ). own_fault count l) (sym (head_is xs ys sixteen))

same_length : (xs ys more : List ℕ) → length ys ≡ 16 → written_length (ys ++ more) ≡ written_length (head_of xs ys)
same_length xs ys more sixteen = written_ahead ys more (omega (arith, sixteen)) ∙ ap (λ (l : List ℕ). written_length l) (sym (head_is xs ys sixteen))

-- the first read
module _ (o n : InputView) (count head : ℕ) (ys : List ℕ) (given : Gives o n (take head ys)) where
  module _ (xs : List ℕ) (sixteen : length ys ≡ 16) (whole : 16 ≤ head) where
    all_given : Gives o n ys
    all_given = subst (λ (l : List ℕ). Gives o n l) (take_all head ys (omega (arith, sixteen, whole))) given

    pub faulty_header : (ended : Bool) (kind : ReadFaultKind) → is_of_calls kind ≡ false → own_fault count (head_of xs ys) ≡ Some kind → ReadsInput o n (Gathers count (Err kind) ended)
    faulty_header ended kind calls own =
        (ys, all_given, inr (calls, omega (arith, sixteen), λ rest _. header_own count (ys ++ rest) kind (omega (arith, sixteen, length-append ys rest)) (same_fault count xs ys rest sixteen ∙ own)))

    -- both reads
    module _ (size : ℕ) (m : InputView) (ended : Bool) (own : own_fault count (head_of xs ys) ≡ None) (written : size ≡ written_length (head_of xs ys)) where
      cut_off : (more : List ℕ) → 16 + length more < size → header_fault count (ys ++ more) ≡ Some TruncatedMessage
      cut_off more short =
          let long : length (ys ++ more) ≡ 16 + length more = omega (arith, sixteen, length-append ys more) in
          header_cut count (ys ++ more) (omega (arith, long)) (same_fault count xs ys more sixteen ∙ own) (omega (arith, same_length xs ys more sixteen, written, long, short))

      pub unread_rest : (zs : List ℕ) → size ≡ 16 + length zs → ReadsInput n m (λ taken. length taken < length zs) → ReadsInput o m (Gathers count (Err Unread) ended)
      unread_rest zs all r = (ys ++ r.0, gives_more all_given r.1, inl (refl, inr (cut_off r.0 (omega (arith, r.2, all)))))

      module _ (got : ℕ) (zs : List ℕ) (then : Gives n m (take got zs)) where
        pub short_message : got ≤ length zs → 16 + got < size → ended ≡ true → ReadsInput o m (Gathers count (Err TruncatedMessage) ended)
        short_message within short end =
            let more = take got zs in (
              ys ++ more,
              gives_more all_given then,
              inr (refl, omega (arith, sixteen, length-append ys more), λ rest follows. ap (λ (l : List ℕ). header_fault count l) (none_follow (ys ++ more) rest ended end follows) ∙ cut_off more (omega (arith, length-take-le got zs within, short))),
            )

        pub gathered : size ≡ 16 + length zs → size ≤ 16 + got → ReadsInput o m (Gathers count (Ok (Some (take size (both_in size xs ys zs)))) ended)
        gathered all most = (
          ys ++ zs,
          gives_more all_given (subst (λ (l : List ℕ). Gives n m l) (take_all got zs (omega (arith, all, most))) then),
          two_parts size xs ys zs sixteen all,
        )

-- the buffer then holds a message
pub holds_message : (size : ℕ) (xs ys zs : List ℕ) → length ys ≡ 16 → size ≡ 16 + length zs → size ≤ 65535 → big_number 2 (head_of xs ys) ≡ 10 → size ≡ written_length (head_of xs ys)
    → HasHeader (take size (both_in size xs ys zs)) × (size ≤ length (both_in size xs ys zs))
holds_message size xs ys zs sixteen all most version written =
    let parts = two_parts size xs ys zs sixteen all in
    let many : length (ys ++ zs) ≡ size = omega (arith, length-append ys zs, sixteen, all) in
    let ten : big_number 2 (ys ++ zs) ≡ 10 =
    number_ahead ys zs (omega (arith, sixteen)) ∙ ap (λ (l : List ℕ). big_number 2 l) (sym (head_is xs ys sixteen)) ∙ version in
    let lengths : written_length (ys ++ zs) ≡ length (ys ++ zs) = same_length xs ys zs sixteen ∙ sym written ∙ sym many in (
      subst (λ (l : List ℕ). HasHeader l) (sym parts) (record { least = omega (arith, many, all); most = omega (arith, many, most); version = ten; whole = lengths }),
      omega (arith, length-take size (both_in size xs ys zs), ap length parts, many),
    )
