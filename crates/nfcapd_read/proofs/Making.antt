-- Messages that are made of parts, one after the other.
use Rattle.std.proofs.Common.{◌≡◌, ◌∙◌, ℕ, ◌<◌, ◌≤◌, ◌-◌, List, [], ◌++◌, length, take, drop, Some, None, Result, Ok, Err, Bool, true, false, inl, inr, refl, sym, subst, ap, arith, append_assoc, append-nil}
use Rattle.std.specs.Prelude.{IfErr, nat_lt, vec_len}
use Rattle.std.proofs.lemmas.Bool.Decides.{nat_tests}
use Rattle.std.specs.Result.{result_map_both}
use Rattle.flow_io.specs.Devices.{InputView, ReadsInput}
use Rattle.flow_io.proofs.Moving.{gives_more}
use Rattle.nfcapd_read.specs.Encode.{message, packed}
use Rattle.nfcapd_read.specs.File.{packed_from}
use Rattle.nfcapd_read.specs.Gathering.{GathersPart}
use Rattle.nfcapd_read.specs.Making.{GoesOn, IsEmpty, Makes, after_bytes, rest_of}
use Rattle.nfcapd_read.specs.Pending.{four_in, six_in}
use Rattle.nfcapd_read.specs.Reading.{after_part, part_fault, head_size, is_end, part_next, part_size}
use Rattle.nfcapd_read.specs.declared.fault.FlowFileFault.{FlowFileFault}
use Rattle.nfcapd_read.specs.declared.fault.FlowFileFaultKind.{FlowFileFaultKind}
use Rattle.nfcapd_read.specs.declared.fault.FlowFileFaultKind.TheVariants.{Truncated}
use Rattle.nfcapd_read.specs.declared.file.Made.TheVariants.{Last, Message}
use Rattle.nfcapd_read.specs.declared.file.PartStop.{PartStop}
use Rattle.nfcapd_read.specs.declared.file.PartStop.TheVariants.{Device, Fault}
use Rattle.nfcapd_read.specs.declared.pending.Pending.{Pending}
use Rattle.nfcapd_read.specs.declared.reading.Reading.{Reading}
use Rattle.nfcapd_read.proofs.Parts.{flows_fault, part_faulty}
use Rattle.std.proofs.Common.{length-append}

-- a message without records
pub empty_four : (p : Pending) → IsEmpty p → four_in p ≡ []
empty_four p none = let e : p.at - 20 ≡ 0 = omega (arith, none.0) in ap (λ n. take n (drop 20 p.out.items)) e

pub empty_six : (p : Pending) → IsEmpty p → six_in p ≡ []
empty_six p none = ap (λ n. take n p.six.items) none.1

-- a message that is not ended has room
pub has_room : (size : ℕ) → nat_lt 65000 size ≡ false → size ≤ 65000
has_room size few = grind (arith, nat_tests)

-- a message that was ended is the first one
pub sent_first : (next : Reading) (p : Pending) (bytes four six rest : List ℕ) → bytes ≡ message four six → IsEmpty p
    → result_map_both (λ later. message four six ++ later) (λ fault. fault) (packed_from next [] [] rest) ≡ after_bytes bytes (rest_of next p rest)
sent_first next p bytes four six rest is none i =
    after_bytes (sym is i) (packed_from next (sym (empty_four p none) i) (sym (empty_six p none) i) rest)

-- a fault of the next part
pub fault_first : (now : Reading) (p : Pending) (bytes : List ℕ) (fault : FlowFileFault) → 0 < length bytes → part_next now bytes ≡ Err fault
    → rest_of now p bytes ≡ Err fault
fault_first now p bytes fault some is = ap (result_map_both (packed (four_in p) (six_in p)) (λ fault. fault)) (flows_fault now bytes some fault is)

-- a fault of a part that was read
pub part_refused : (now : Reading) (p : Pending) (part rest : List ℕ) → head_size now.stage ≤ length part → part_size now part ≡ Ok (length part)
    → 0 < length part → (kind : FlowFileFaultKind) → after_part now part ≡ Err kind → rest_of now p (part ++ rest) ≡ Err (part_fault now kind)
part_refused now p part rest long whole some kind after =
    fault_first now p (part ++ rest) (part_fault now kind) (omega (arith, some, length-append part rest)) (part_faulty now part rest long whole kind after)

-- no byte is left
pub none_left : (now : Reading) (p : Pending) → (is_end now.stage) ≡ true → rest_of now p [] ≡ Ok (message (four_in p) (six_in p))
none_left now p end = rw end refl

pub cut_left : (now : Reading) (p : Pending) → (is_end now.stage) ≡ false → rest_of now p [] ≡ Err (part_fault now Truncated)
cut_left now p goes = rw goes refl

nothing_left : (now : Reading) (p : Pending) (end : Bool) → is_end now.stage ≡ end → IfErr (rest_of now p []) (λ fault. fault.kind ≡ Truncated)
nothing_left now p true end = subst (λ (r : Result (List ℕ) FlowFileFault). IfErr r (λ fault. fault.kind ≡ Truncated)) (sym (none_left now p end)) tt
nothing_left now p false goes = subst (λ (r : Result (List ℕ) FlowFileFault). IfErr r (λ fault. fault.kind ≡ Truncated)) (sym (cut_left now p goes)) refl

-- the message so far, and one more part
module _ (start : Reading) (first : Pending) (now : Reading) (p : Pending) (o n m : InputView)
    (so_far : ReadsInput o n (λ taken. (rest : List ℕ) → rest_of start first (taken ++ rest) ≡ rest_of now p rest)) where
  more : (taken rest : List ℕ) → rest_of start first ((so_far.0 ++ taken) ++ rest) ≡ rest_of now p (taken ++ rest)
  more taken rest = ap (rest_of start first) (append_assoc so_far.0 taken rest) ∙ so_far.2 (taken ++ rest)

  exactly : (taken : List ℕ) → rest_of start first (so_far.0 ++ taken) ≡ rest_of now p taken
  exactly taken = so_far.2 taken

  -- the part was not read
  stopped : (stop : PartStop) (new : Reading) (after : Pending) (ended : Bool) (taken : List ℕ) → GathersPart now (Err stop) ended taken
      → Makes start first (Err stop) new after ended (so_far.0 ++ taken)
  stopped (Fault fault) new after ended taken found = λ rest follows.
      more taken rest ∙ fault_first now p (taken ++ rest) fault (omega (arith, found.0, length-append taken rest)) (found.1 rest follows)
  stopped Device new after ended taken (inl none) =
      subst (λ (r : Result (List ℕ) FlowFileFault). IfErr r (λ fault. fault.kind ≡ Truncated))
      (sym (exactly taken ∙ ap (rest_of now p) none)) (nothing_left now p (is_end now.stage) refl)
  stopped Device new after ended taken (inr cut) =
      subst (λ (r : Result (List ℕ) FlowFileFault). IfErr r (λ fault. fault.kind ≡ Truncated))
      (sym (exactly taken ∙ fault_first now p taken (part_fault now Truncated) cut.0 cut.1)) refl

  pub makes_stop : (stop : PartStop) (new : Reading) (after : Pending) (ended : Bool) → ReadsInput n m (GathersPart now (Err stop) ended)
      → ReadsInput o m (Makes start first (Err stop) new after ended)
  makes_stop stop new after ended (taken, gives, found) = (so_far.0 ++ taken, gives_more so_far.1 gives, stopped stop new after ended taken found)

  -- no part was left
  pub makes_last : (size : ℕ) (new : Reading) (after : Pending) (ended : Bool) → ReadsInput n m (GathersPart now (Ok None) ended) → is_end now.stage ≡ true
      → (0 < size) × (size ≤ vec_len after.out) → take size after.out.items ≡ message (four_in p) (six_in p)
      → ReadsInput o m (Makes start first (Ok (Last size)) new after ended)
  makes_last size new after ended (taken, gives, none) end within put = (
    so_far.0 ++ taken,
    gives_more so_far.1 gives,
    (none.1, within, exactly taken ∙ ap (rest_of now p) none.0 ∙ none_left now p end ∙ ap Ok (sym put)),
  )

  pub makes_cut : (new : Reading) (after : Pending) (ended : Bool) → ReadsInput n m (GathersPart now (Ok None) ended) → is_end now.stage ≡ false
      → ReadsInput o m (Makes start first (Err (Fault (part_fault now Truncated))) new after ended)
  makes_cut new after ended (taken, gives, none) goes = (
    so_far.0 ++ taken,
    gives_more so_far.1 gives,
    λ rest follows.
        more taken rest
        ∙ ap (rest_of now p) (ap (λ (l : List ℕ). taken ++ l) (follows none.1) ∙ append-nil taken ∙ none.0)
        ∙ cut_left now p goes,
  )

  -- a part was read, and leads on
  module _ (part : List ℕ) (ended : Bool) (read : ReadsInput n m (GathersPart now (Ok (Some part)) ended)) where
    one : (rest : List ℕ) → rest_of start first ((so_far.0 ++ read.0) ++ rest) ≡ rest_of now p (part ++ rest)
    one rest = more read.0 rest ∙ ap (λ (l : List ℕ). rest_of now p (l ++ rest)) (sym read.2.0)

    pub makes_more : (new : Reading) (after : Pending) → GoesOn now p part (Ok None) new after
        → ReadsInput o m (λ taken. (rest : List ℕ) → rest_of start first (taken ++ rest) ≡ rest_of new after rest)
    makes_more new after goes = (so_far.0 ++ read.0, gives_more so_far.1 read.1, λ rest. one rest ∙ goes.1 rest)

    pub makes_message : (size : ℕ) (new : Reading) (after : Pending) → GoesOn now p part (Ok (Some size)) new after
        → ReadsInput o m (Makes start first (Ok (Message size)) new after ended)
    makes_message size new after goes = (so_far.0 ++ read.0, gives_more so_far.1 read.1, (goes.0, goes.1, λ rest. one rest ∙ goes.2 rest))

    pub makes_fault : (fault : FlowFileFault) (new : Reading) (after : Pending) → GoesOn now p part (Err fault) new after
        → ReadsInput o m (Makes start first (Err (Fault fault)) new after ended)
    makes_fault fault new after goes = (so_far.0 ++ read.0, gives_more so_far.1 read.1, λ rest follows. one rest ∙ goes rest)
