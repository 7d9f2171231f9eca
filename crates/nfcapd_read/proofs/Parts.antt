-- One part of a file after another.
use Rattle.std.proofs.Common.{◌≡◌, ◌∙◌, ◌⊎◌, ℕ, zero, suc, ◌+◌, ◌<◌, ◌≤◌, List, [], ◌∷◌, ◌++◌, length, take, drop, Option, Some, None, Result, Ok, Err, true, false, inl, inr, refl, sym, ap, arith, length-append}
use Rattle.std.specs.Prelude.{nat_lt, ◌==◌}
use Rattle.std.specs.Option.{option_to_list}
use Rattle.std.specs.Result.{result_map_both}
use Rattle.std.proofs.lemmas.Bool.{cases_lt, lt-ltb, le-ltb}
use Rattle.std.proofs.lemmas.Bool.Decides.{nat_tests}
use Rattle.std.proofs.lemmas.Grind.{common_steps}
use Rattle.std.proofs.lemmas.List.{drop-append-le, drop_at, length-drop, take_at}
use Rattle.byteorder.specs.Endian.{little_number}
use Rattle.byteorder.specs.Numbers.{little_from-append}
use Rattle.nfcapd_read.specs.File.{packed_from}
use Rattle.nfcapd_read.specs.Encode.{message, packed, records_v4, records_v6}
use Rattle.nfcapd_read.specs.declared.encode.TheConstants.{LIMIT}
use Rattle.nfcapd_read.specs.Reading.{after_flows, after_part, part_fault, flows_by, flows_from, head_size, part_next, part_size, size_at}
use Rattle.nfcapd_read.specs.declared.flow.Flow.{Flow}
use Rattle.nfcapd_read.specs.declared.fault.FlowFileFault.{FlowFileFault}
use Rattle.nfcapd_read.specs.declared.fault.FlowFileFaultKind.{FlowFileFaultKind}
use Rattle.nfcapd_read.specs.declared.fault.FlowFileFaultKind.TheVariants.{Truncated}
use Rattle.nfcapd_read.specs.declared.reading.Reading.{Reading}
use Rattle.nfcapd_read.specs.declared.reading.Stage.{Stage}
use Rattle.nfcapd_read.specs.declared.reading.Stage.TheVariants.{Block, End, Header, Record}

result_is : {A F : Type 0} (r : Result A F) → ((x : A) × (r ≡ Ok x)) ⊎ ((fault : F) × (r ≡ Err fault))
result_is (Ok x) = inl (x, refl)
result_is (Err fault) = inr (fault, refl)

-- ---- the size of a part, whatever follows

size_ahead_at : (stage : Stage) (room : ℕ) (xs ys : List ℕ) → head_size stage ≤ length xs → size_at stage room (xs ++ ys) ≡ size_at stage room xs
size_ahead_at Header room xs ys long = refl
size_ahead_at Block room xs ys long = refl
size_ahead_at Record room xs ys long =
    let same : little_number 2 (drop 2 (xs ++ ys)) ≡ little_number 2 (drop 2 xs) =
    ap (little_number 2) (drop-append-le 2 xs ys (omega arith)) ∙ little_from-append 2 (drop 2 xs) ys (omega (arith, length-drop 2 xs)) in
    rw same refl
size_ahead_at End room xs ys long = refl

pub size_ahead : (now : Reading) (xs ys : List ℕ) → head_size now.stage ≤ length xs → part_size now (xs ++ ys) ≡ part_size now xs
size_ahead now xs ys long = size_ahead_at now.stage now.room xs ys long

size_some_at : (stage : Stage) (room : ℕ) (bytes : List ℕ) (size : ℕ) → size_at stage room bytes ≡ Ok size → 0 < size
size_some_at Header room bytes size is = let e : 40 ≡ size = cc in omega (arith, e)
size_some_at Block room bytes size is = let e : 12 ≡ size = cc in omega (arith, e)
size_some_at Record room bytes size is = grind (arith, nat_tests, common_steps)
size_some_at End room bytes size is = cc

-- ---- the next part

module _ (now : Reading) (bytes : List ℕ) where
  pub cut_head : length bytes < head_size now.stage → part_next now bytes ≡ Err (part_fault now Truncated)
  cut_head short = rw (lt-ltb (length bytes) (head_size now.stage) short) refl

  module _ (long : head_size now.stage ≤ length bytes) where
    pub bad_size : (fault : FlowFileFaultKind) → part_size now bytes ≡ Err fault → part_next now bytes ≡ Err (part_fault now fault)
    bad_size fault is = rw (le-ltb (length bytes) (head_size now.stage) long, is) refl

    module _ (size : ℕ) (is : part_size now bytes ≡ Ok size) where
      pub cut_part : length bytes < size → part_next now bytes ≡ Err (part_fault now Truncated)
      cut_part short = rw (le-ltb (length bytes) (head_size now.stage) long, is, lt-ltb (length bytes) size short) refl

      pub bad_part : size ≤ length bytes → (fault : FlowFileFaultKind) → after_part now (take size bytes) ≡ Err fault → part_next now bytes ≡ Err (part_fault now fault)
      bad_part within fault after = rw (le-ltb (length bytes) (head_size now.stage) long, is, le-ltb (length bytes) size within, after) refl

      pub good_part : size ≤ length bytes → (step : Reading × Option Flow) → after_part now (take size bytes) ≡ Ok step
          → part_next now bytes ≡ Ok (step, drop size bytes)
      good_part within step after = rw (le-ltb (length bytes) (head_size now.stage) long, is, le-ltb (length bytes) size within, after) refl

-- a part, whatever follows it
module _ (now : Reading) (part rest : List ℕ) (long : head_size now.stage ≤ length part) (whole : part_size now part ≡ Ok (length part)) where
  long_all : head_size now.stage ≤ length (part ++ rest)
  long_all = omega (arith, long, length-append part rest)

  size_all : part_size now (part ++ rest) ≡ Ok (length part)
  size_all = size_ahead now part rest long ∙ whole

  within_all : length part ≤ length (part ++ rest)
  within_all = omega (arith, length-append part rest)

  pub part_read : (step : Reading × Option Flow) → after_part now part ≡ Ok step → part_next now (part ++ rest) ≡ Ok (step, rest)
  part_read step after =
      good_part now (part ++ rest) long_all (length part) size_all within_all step (ap (after_part now) (take_at part rest (length part) refl) ∙ after)
      ∙ ap (λ (l : List ℕ). Ok (step, l)) (drop_at part rest (length part) refl)

  pub part_faulty : (fault : FlowFileFaultKind) → after_part now part ≡ Err fault → part_next now (part ++ rest) ≡ Err (part_fault now fault)
  part_faulty fault after =
      bad_part now (part ++ rest) long_all (length part) size_all within_all fault (ap (after_part now) (take_at part rest (length part) refl) ∙ after)

abbrev rest_in : Result ((Reading × Option Flow) × List ℕ) FlowFileFault → List ℕ
rest_in (Ok read) = read.1
rest_in (Err fault) = []

-- a part has at least one byte
pub part_smaller : (now : Reading) (bytes : List ℕ) (step : Reading × Option Flow) (rest : List ℕ) → part_next now bytes ≡ Ok (step, rest) → length rest < length bytes
part_smaller now bytes step rest is =
    elim (cases_lt (length bytes) (head_size now.stage)) [
      | inl short ↦ let wrong = sym (cut_head now bytes short) ∙ is in absurd (cc)
      | inr long ↦
          elim (result_is (part_size now bytes)) [
            | inr (fault, bad) ↦ let wrong = sym (bad_size now bytes long fault bad) ∙ is in absurd (cc)
            | inl (size, good) ↦
                elim (cases_lt (length bytes) size) [
                  | inl short ↦ let wrong = sym (cut_part now bytes long size good short) ∙ is in absurd (cc)
                  | inr within ↦
                      elim (result_is (after_part now (take size bytes))) [
                        | inr (fault, bad) ↦ let wrong = sym (bad_part now bytes long size good within fault bad) ∙ is in absurd (cc)
                        | inl (next, after) ↦
                            let same = sym (good_part now bytes long size good within next after) ∙ is in
                            let e : drop size bytes ≡ rest = ap rest_in same in
                            omega (arith, ap length e, length-drop size bytes, within, size_some_at now.stage now.room bytes size good)
                      ]
                ]
          ]
    ]

-- ---- the rest of a file

module _ (now : Reading) (bytes : List ℕ) (some : 0 < length bytes) where
  not_none : (length bytes == 0) ≡ false
  not_none = grind (arith, nat_tests)

  by_fault : (n : ℕ) (fault : FlowFileFault) → part_next now bytes ≡ Err fault → flows_by (suc n) now bytes ≡ Err fault
  by_fault n fault is = rw (not_none, is) refl

  by_step : (n : ℕ) (step : Reading × Option Flow) (rest : List ℕ) → part_next now bytes ≡ Ok (step, rest)
      → flows_by (suc n) now bytes ≡ after_flows (option_to_list step.1) (flows_by n step.0 rest)
  by_step n step rest is = rw (not_none, is) refl

  -- a fault of the next part is that of the rest
  pub flows_fault : (fault : FlowFileFault) → part_next now bytes ≡ Err fault → flows_from now bytes ≡ Err fault
  flows_fault fault is =
      let e : length bytes + 1 ≡ suc (length bytes) = omega arith in
      ap (λ n. flows_by n now bytes) e ∙ by_fault (length bytes) fault is

-- a larger bound on the number of parts changes nothing
by_none : (n m : ℕ) (now : Reading) → flows_by (suc n) now [] ≡ flows_by (suc m) now []
by_none n m now = refl

bound : (n m : ℕ) (now : Reading) (bytes : List ℕ) → length bytes < n → length bytes < m → flows_by n now bytes ≡ flows_by m now bytes
bound zero m now bytes few few' = absurd (omega (arith, few))
bound (suc n) zero now bytes few few' = absurd (omega (arith, few'))
bound (suc n) (suc m) now [] few few' = refl
bound (suc n) (suc m) now (b ∷ bytes) few few' =
    let some : 0 < length (b ∷ bytes) = omega arith in
    elim (result_is (part_next now (b ∷ bytes))) [
      | inr (fault, is) ↦ by_fault now (b ∷ bytes) some n fault is ∙ sym (by_fault now (b ∷ bytes) some m fault is)
      | inl ((step, rest), is) ↦
          let less = part_smaller now (b ∷ bytes) step rest is in
          by_step now (b ∷ bytes) some n step rest is
          ∙ ap (after_flows (option_to_list step.1)) (bound n m step.0 rest (omega (arith, few, less)) (omega (arith, few', less)))
          ∙ sym (by_step now (b ∷ bytes) some m step rest is)
    ]

-- the flow of the next part, if it has one, and the flows after it
pub flows_step : (now : Reading) (bytes : List ℕ) → 0 < length bytes → (step : Reading × Option Flow) (rest : List ℕ) → part_next now bytes ≡ Ok (step, rest)
    → flows_from now bytes ≡ after_flows (option_to_list step.1) (flows_from step.0 rest)
flows_step now bytes some step rest is =
    let less = part_smaller now bytes step rest is in
    let e : length bytes + 1 ≡ suc (length bytes) = omega arith in
    ap (λ n. flows_by n now bytes) e ∙ by_step now bytes some (length bytes) step rest is
    ∙ ap (after_flows (option_to_list step.1)) (bound (length bytes) (length rest + 1) step.0 rest less (omega arith))

-- ---- the rest of the File of flows

module _ (now : Reading) (four six part rest : List ℕ) (long : head_size now.stage ≤ length part) (whole : part_size now part ≡ Ok (length part))
    (some : 0 < length part) (next : Reading) where
  some_all : 0 < length (part ++ rest)
  some_all = omega (arith, some, length-append part rest)

  none_more : (reading : Result (List Flow) FlowFileFault) → after_flows [] reading ≡ reading
  none_more (Ok later) = refl
  none_more (Err fault) = refl

  -- a part without a flow
  pub packs_none : after_part now part ≡ Ok (next, None) → packed_from now four six (part ++ rest) ≡ packed_from next four six rest
  packs_none after =
      ap (result_map_both (packed four six) (λ fault. fault))
      (flows_step now (part ++ rest) some_all (next, None) rest (part_read now part rest long whole (next, None) after) ∙ none_more (flows_from next rest))

  module _ (flow : Flow) (after : after_part now part ≡ Ok (next, Some flow)) (four' six' : List ℕ) (is : four' ≡ four ++ records_v4 flow) (is' : six' ≡ six ++ records_v6 flow) where
    read : flows_from now (part ++ rest) ≡ after_flows (flow ∷ []) (flows_from next rest)
    read = flows_step now (part ++ rest) some_all (next, Some flow) rest (part_read now part rest long whole (next, Some flow) after)

    one_kept : nat_lt LIMIT (length (four ++ records_v4 flow) + length (six ++ records_v6 flow)) ≡ false → (reading : Result (List Flow) FlowFileFault)
        → result_map_both (packed four six) (λ fault. fault) (after_flows (flow ∷ []) reading)
        ≡ result_map_both (packed (four ++ records_v4 flow) (six ++ records_v6 flow)) (λ fault. fault) reading
    one_kept few (Ok later) = rw few refl
    one_kept few (Err fault) = refl

    one_sent : nat_lt LIMIT (length (four ++ records_v4 flow) + length (six ++ records_v6 flow)) ≡ true → (reading : Result (List Flow) FlowFileFault)
        → result_map_both (packed four six) (λ fault. fault) (after_flows (flow ∷ []) reading)
        ≡ result_map_both (λ later. message (four ++ records_v4 flow) (six ++ records_v6 flow) ++ later) (λ fault. fault)
        (result_map_both (packed [] []) (λ fault. fault) reading)
    one_sent many (Ok later) = rw many refl
    one_sent many (Err fault) = refl

    -- a flow that is added to the message
    pub packs_kept : nat_lt LIMIT (length four' + length six') ≡ false → packed_from now four six (part ++ rest) ≡ packed_from next four' six' rest
    packs_kept few =
        ap (result_map_both (packed four six) (λ fault. fault)) read
        ∙ one_kept (ap (nat_lt LIMIT) (λ i. length (sym is i) + length (sym is' i)) ∙ few) (flows_from next rest)
        ∙ (λ i. packed_from next (sym is i) (sym is' i) rest)

    -- a flow that ends the message
    pub packs_sent : nat_lt LIMIT (length four' + length six') ≡ true
        → packed_from now four six (part ++ rest) ≡ result_map_both (λ later. message four' six' ++ later) (λ fault. fault) (packed_from next [] [] rest)
    packs_sent many =
        ap (result_map_both (packed four six) (λ fault. fault)) read
        ∙ one_sent (ap (nat_lt LIMIT) (λ i. length (sym is i) + length (sym is' i)) ∙ many) (flows_from next rest)
        ∙ (λ i. result_map_both (λ later. message (sym is i) (sym is' i) ++ later) (λ fault. fault) (packed_from next [] [] rest))
