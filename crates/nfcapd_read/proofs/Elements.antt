-- One element after another.
use Rattle.std.proofs.Common.{◌≡◌, ℕ, zero, suc, ◌-◌, ◌<◌, ◌≤◌, List, length, take, drop, refl, sym, subst, ap, ◌∙◌, arith}
use Rattle.std.specs.Prelude.{Result, Ok, Err}
use Rattle.std.specs.Result.{IsErrAnd}
use Rattle.std.proofs.lemmas.Bool.{lt-ltb, le-ltb}
use Rattle.std.proofs.lemmas.List.{take_rest}
use Rattle.byteorder.specs.Endian.{little_number}
use Rattle.pmap_model.specs.Steps.{◌>>=◌}
use Rattle.nfcapd_read.specs.Flow.{with_element, with_elements}
use Rattle.nfcapd_read.specs.declared.fault.FlowFileFaultKind.{FlowFileFaultKind}
use Rattle.nfcapd_read.specs.declared.fault.FlowFileFaultKind.TheVariants.{BadRecord}
use Rattle.nfcapd_read.specs.declared.flow.Flow.{Flow}

-- a result that passes on a fault has the properties of one with this fault
pub handed_on : {A F : Type 0} (P : Result A F → Type 0) (r : Result A F) (fault : F) → IsErrAnd r (λ y. y ≡ fault) → P (Err fault) → P r
handed_on P (Ok done) fault is holds = absurd is
handed_on P (Err other) fault is holds = subst (λ f. P (Err f)) (sym is) holds

-- too few bytes for an element
pub few_bytes : (flow : Flow) (bytes : List ℕ) → length bytes < 4 → (left : ℕ) → 0 < left → with_elements left flow bytes ≡ Err BadRecord
few_bytes flow bytes few zero some = absurd (omega (arith, some))
few_bytes flow bytes few (suc left) some = rw (lt-ltb (length bytes) 4 few) refl

module _ (flow : Flow) (bytes : List ℕ) (size : ℕ) (four : 4 ≤ length bytes) (is : size ≡ little_number 2 (drop 2 bytes)) where
  pub short_element : (left : ℕ) → 0 < left → size < 4 → with_elements left flow bytes ≡ Err BadRecord
  short_element zero some short = absurd (omega (arith, some))
  short_element (suc left) some short =
      rw (le-ltb (length bytes) 4 four, ← is, lt-ltb size 4 short) refl

  pub long_element : (left : ℕ) → 0 < left → 4 ≤ size → length bytes < size → with_elements left flow bytes ≡ Err BadRecord
  long_element zero some least long = absurd (omega (arith, some))
  long_element (suc left) some least long =
      rw (le-ltb (length bytes) 4 four, ← is, le-ltb size 4 least, lt-ltb (length bytes) size long) refl

  pub next_element : (left : ℕ) → 0 < left → 4 ≤ size → size ≤ length bytes
      → with_elements left flow bytes ≡ (with_element flow (little_number 2 bytes) (drop 4 (take size bytes)) >>= (λ more. with_elements (left - 1) more (drop size bytes)))
  next_element zero some least within = absurd (omega (arith, some))
  next_element (suc left) some least within =
      let less : suc left - 1 ≡ left = omega arith in
      rw (le-ltb (length bytes) 4 four, ← is, le-ltb size 4 least, le-ltb (length bytes) size within, less) refl

  -- the element that was read
  module _ (left kind : ℕ) (element after : List ℕ) (some : 0 < left) (least : 4 ≤ size) (within : size ≤ length bytes)
      (number : kind ≡ little_number 2 bytes) (front : element ≡ take size bytes) (back : after ≡ drop size bytes) where
    read_as : with_element flow kind (take (length element - 4) (drop 4 element))
        ≡ with_element flow (little_number 2 bytes) (drop 4 (take size bytes))
    read_as = ap (with_element flow kind) (take_rest element 4)
        ∙ (λ i. with_element flow (number i) (drop 4 (front i)))

    pub element_taken : (more : Flow) → with_element flow kind (take (length element - 4) (drop 4 element)) ≡ Ok more
        → with_elements left flow bytes ≡ with_elements (left - 1) more after
    element_taken more is =
        next_element left some least within
        ∙ ap (λ r. r >>= (λ more. with_elements (left - 1) more (drop size bytes))) (sym read_as ∙ is)
        ∙ ap (with_elements (left - 1) more) (sym back)

    pub element_refused : (fault : FlowFileFaultKind) → with_element flow kind (take (length element - 4) (drop 4 element)) ≡ Err fault
        → with_elements left flow bytes ≡ Err fault
    element_refused fault is =
        next_element left some least within
        ∙ ap (λ r. r >>= (λ more. with_elements (left - 1) more (drop size bytes))) (sym read_as ∙ is)
