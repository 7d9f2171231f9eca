-- The IPFIX File of a file, message by message, and what opening a text returns.
use Rattle.std.proofs.Common.{◌≡◌, ◌∙◌, ℕ, ◌≤◌, List, [], ◌∷◌, ◌++◌, length, slice_index_or, take, Result, Ok, Err, Bool, true, refl, sym, subst, ap, arith, append_assoc}
use Rattle.std.specs.Prelude.{IfErr}
use Rattle.flow_io.specs.Devices.{Gives, InputView, ReadsInput}
use Rattle.flow_io.proofs.Moving.{gives_more, gives_none}
use Rattle.nfcapd_read.specs.File.{ipfix_of, packed_from}
use Rattle.nfcapd_read.specs.Making.{IsEmpty, Makes, after_bytes, rest_of}
use Rattle.nfcapd_read.specs.Opening.{Begins, Converts, Opens, StopsAs, whole_from}
use Rattle.nfcapd_read.specs.declared.encode.TheConstants.{TEMPLATES}
use Rattle.nfcapd_read.specs.declared.fault.FlowFileFault.{FlowFileFault}
use Rattle.nfcapd_read.specs.declared.fault.FlowFileFaultKind.TheVariants.{Truncated}
use Rattle.nfcapd_read.specs.declared.file.Begun.TheVariants.{Flows}
use Rattle.nfcapd_read.specs.declared.file.Made.TheVariants.{Last, Message}
use Rattle.nfcapd_read.specs.declared.file.PartStop.{PartStop}
use Rattle.nfcapd_read.specs.declared.file.PartStop.TheVariants as part
use Rattle.nfcapd_read.specs.declared.file.Stop.{Stop}
use Rattle.nfcapd_read.specs.declared.file.Stop.TheVariants.{Device, Fault, NoMemory}
use Rattle.nfcapd_read.specs.declared.pending.Pending.{Pending}
use Rattle.nfcapd_read.specs.declared.reading.Reading.{Reading}
use Rattle.nfcapd_read.proofs.Making.{empty_four, empty_six}

twice : (front more : List ℕ) (reading : Result (List ℕ) FlowFileFault) → after_bytes front (after_bytes more reading) ≡ after_bytes (front ++ more) reading
twice front more (Ok later) = ap Ok (sym (append_assoc front more later))
twice front more (Err fault) = refl

-- a reading that may be cut short, after other bytes
cut_after : (front : List ℕ) (reading : Result (List ℕ) FlowFileFault) → IfErr reading (λ fault. fault.kind ≡ Truncated)
    → IfErr (after_bytes front reading) (λ fault. fault.kind ≡ Truncated)
cut_after front (Ok later) cut = tt
cut_after front (Err fault) cut = cut

-- what was read so far leads to these bytes, and to those of the rest
abbrev pub LeadsTo : Reading → List ℕ → Reading → Pending → List ℕ → Type 0
LeadsTo header made now p taken = (rest : List ℕ) → whole_from header (taken ++ rest) ≡ after_bytes made (rest_of now p rest)

pub leads_first : (o : InputView) (header : Reading) (p : Pending) (made : List ℕ) → IsEmpty p → made ≡ TEMPLATES
    → ReadsInput o o (LeadsTo header made header p)
leads_first o header p made none is = (
  [],
  gives_none o,
  λ rest i. after_bytes (sym is i) (packed_from header (sym (empty_four p none) i) (sym (empty_six p none) i) rest),
)

module _ (header now : Reading) (p : Pending) (made : List ℕ) (o n m : InputView) (so_far : ReadsInput o n (LeadsTo header made now p)) where
  pub no_memory : (taken : List ℕ) → Gives n m taken → (stop : Stop) → stop ≡ NoMemory → (ended : Bool)
      → ReadsInput o m (Converts header (Err stop) ended)
  no_memory taken gives stop is ended = (
    so_far.0 ++ taken,
    gives_more so_far.1 gives,
    subst (λ (s : Stop). Converts header (Err s) ended (so_far.0 ++ taken)) (sym is) tt,
  )

  module _ (new : Reading) (after : Pending) (ended : Bool) where
    pub leads_more : (size : ℕ) (made' : List ℕ) → made' ≡ made ++ take size after.out.items
        → ReadsInput n m (Makes now p (Ok (Message size)) new after ended) → ReadsInput o m (LeadsTo header made' new after)
    leads_more size made' is (taken, gives, makes) = (
      so_far.0 ++ taken,
      gives_more so_far.1 gives,
      λ rest.
          ap (whole_from header) (append_assoc so_far.0 taken rest) ∙ so_far.2 (taken ++ rest)
          ∙ ap (after_bytes made) (makes.2 rest) ∙ twice made (take size after.out.items) (rest_of new after rest)
          ∙ ap (λ (l : List ℕ). after_bytes l (rest_of new after rest)) (sym is),
    )

    pub converts_last : (size : ℕ) (made' : List ℕ) → made' ≡ made ++ take size after.out.items
        → ReadsInput n m (Makes now p (Ok (Last size)) new after ended) → ReadsInput o m (Converts header (Ok made') ended)
    converts_last size made' is (taken, gives, makes) = (
      so_far.0 ++ taken,
      gives_more so_far.1 gives,
      (makes.0, so_far.2 taken ∙ ap (after_bytes made) makes.2 ∙ ap Ok (sym is)),
    )

    converts_part : (stop : PartStop) (stop' : Stop) → StopsAs stop stop' → (taken : List ℕ) → Makes now p (Err stop) new after ended taken
        → Converts header (Err stop') ended (so_far.0 ++ taken)
    converts_part part.Device stop' is taken makes =
        subst (λ (s : Stop). Converts header (Err s) ended (so_far.0 ++ taken)) (sym is)
        (subst (λ (r : Result (List ℕ) FlowFileFault). IfErr r (λ fault. fault.kind ≡ Truncated)) (sym (so_far.2 taken))
        (cut_after made (rest_of now p taken) makes))
    converts_part (part.Fault fault) stop' is taken makes =
        subst (λ (s : Stop). Converts header (Err s) ended (so_far.0 ++ taken)) (sym is)
        (λ rest follows.
        ap (whole_from header) (append_assoc so_far.0 taken rest) ∙ so_far.2 (taken ++ rest) ∙ ap (after_bytes made) (makes rest follows))

    pub converts_stop : (stop : PartStop) (stop' : Stop) → StopsAs stop stop' → ReadsInput n m (Makes now p (Err stop) new after ended)
        → ReadsInput o m (Converts header (Err stop') ended)
    converts_stop stop stop' is (taken, gives, makes) =
        (so_far.0 ++ taken, gives_more so_far.1 gives, converts_part stop stop' is taken makes)

-- ---- a text

-- the first two bytes
pub two_front : (bytes : List ℕ) → 2 ≤ length bytes → take 2 bytes ≡ slice_index_or bytes 0 0 ∷ slice_index_or bytes 1 0 ∷ []
two_front [] long = absurd (omega (arith, long))
two_front (x ∷ []) long = absurd (omega (arith, long))
two_front (x ∷ y ∷ rest) long = refl

module _ (allow : Bool) (o n m : InputView) (header : Reading) (buffer : List ℕ) (ended ended' : Bool)
    (begun : ReadsInput o n (Begins allow buffer (Ok (Flows header)) ended)) where
  whole_is : (bytes : List ℕ) → ipfix_of allow (begun.0 ++ bytes) ≡ whole_from header bytes
  whole_is bytes = begun.2.1 bytes

  -- the text was read whole
  pub opens_made : (made : List ℕ) → ReadsInput n m (Converts header (Ok made) ended')
      → ReadsInput o m (λ taken. (ended' ≡ true) × (ipfix_of allow taken ≡ Ok made))
  opens_made made (taken, gives, converts) =
      (begun.0 ++ taken, gives_more begun.1 gives, (converts.0, whole_is taken ∙ converts.1))

  stops_part : (stop : Stop) (taken : List ℕ) → Converts header (Err stop) ended' taken → Opens allow (Err stop) ended' (begun.0 ++ taken)
  stops_part Device taken converts = (
    λ no. let e = sym (begun.2.2 taken) ∙ no in absurd (cc),
    subst (λ (r : Result (List ℕ) FlowFileFault). IfErr r (λ fault. fault.kind ≡ Truncated)) (sym (whole_is taken)) converts,
  )
  stops_part (Fault fault) taken converts = λ rest follows.
      ap (ipfix_of allow) (append_assoc begun.0 taken rest) ∙ whole_is (taken ++ rest) ∙ converts rest follows
  stops_part NoMemory taken converts = tt

  pub opens_stop : (stop : Stop) → ReadsInput n m (Converts header (Err stop) ended') → ReadsInput o m (Opens allow (Err stop) ended')
  opens_stop stop (taken, gives, converts) = (begun.0 ++ taken, gives_more begun.1 gives, stops_part stop taken converts)

-- the first bytes have a fault, or the reader failed in them
unbegun_part : (allow : Bool) (buffer : List ℕ) (ended : Bool) (stop : PartStop) (stop' : Stop) → StopsAs stop stop' → (taken : List ℕ)
    → Begins allow buffer (Err stop) ended taken → Opens allow (Err stop') ended taken
unbegun_part allow buffer ended part.Device stop' is taken begins = subst (λ (s : Stop). Opens allow (Err s) ended taken) (sym is) begins
unbegun_part allow buffer ended (part.Fault fault) stop' is taken begins = subst (λ (s : Stop). Opens allow (Err s) ended taken) (sym is) begins

pub opens_unbegun : (allow : Bool) (o n : InputView) (buffer : List ℕ) (ended : Bool) (stop : PartStop) (stop' : Stop) → StopsAs stop stop'
    → ReadsInput o n (Begins allow buffer (Err stop) ended) → ReadsInput o n (Opens allow (Err stop') ended)
opens_unbegun allow o n buffer ended stop stop' is (taken, gives, begins) = (taken, gives, unbegun_part allow buffer ended stop stop' is taken begins)
