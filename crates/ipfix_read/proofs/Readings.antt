-- A message, and consecutive messages.
use Rattle.std.proofs.Common.{◌≡◌, ◌∙◌, Bool, true, false, ℕ, zero, suc, ◌+◌, ◌-◌, ◌<◌, eqb, List, [], ◌∷◌, ◌++◌, length, take, drop, Some, None, Result, Ok, Err, inl, inr, refl, sym, ap, ap₂, arith, length-drop}
use Rattle.std.specs.Prelude.{◌==◌, if◌then◌else◌}
use Rattle.std.specs.Result.{result_flatten, result_map_both}
use Rattle.std.proofs.lemmas.Bool.Decides.{nat_tests}
use Rattle.std.proofs.lemmas.Grind.{common_steps}
use Rattle.std.proofs.lemmas.List.{take_at, drop_at, map-append}
use Rattle.byteorder.specs.Endian.{big_number}
use Rattle.ipfix_templates.specs.InForce.{InForce}
use Rattle.ipfix_templates.specs.Reading.{after_items, items_by}
use Rattle.ipfix_templates.proofs.Reading.{at_end, at_fault, at_item, first_and_rest}
use Rattle.ipfix_read.specs.Set.{Set, sets_reading, written_length}
use Rattle.ipfix_read.specs.Message.{ReadFault, ReadFaultKind, MessageView, HasHeader, after_message, header_fault, message_next, whole_reading}
use Rattle.ipfix_read.specs.Messages.{IsIncomplete, StopsAfter, messages_from, messages_in, placed_from}
use Rattle.ipfix_read.specs.Fault.{is_of_calls, is_of_reader, read_fault}
use Rattle.ipfix_read.specs.declared.fault.ReadFaultKind.TheVariants.{ReadFault as Unread}
use Rattle.ipfix_read.specs.Laws.{FirstMessageAndRest, PlacedAreMessages}
use Rattle.ipfix_read.proofs.Gathering.{header_sound, header_whole, written_ahead}
use Rattle.ipfix_read.proofs.Sets.{from_place, result_mapped}

-- a fault that isn't one of calls isn't one of a reader
pub not_of_reader : (kind : ReadFaultKind) → is_of_calls kind ≡ false → is_of_reader kind ≡ false
not_of_reader Unread e = absurd (cc)
not_of_reader kind e = refl

-- ---- one message

-- numbers and sets that were read from slices are those of the message
pub whole_is : (templates : InForce) (base : ℕ) (bytes : List ℕ) (time sequence domain : ℕ) (read : Result (List Set) ReadFault)
    → time ≡ big_number 4 (take (length bytes - 4) (drop 4 bytes)) → sequence ≡ big_number 4 (take (length bytes - 8) (drop 8 bytes))
    → domain ≡ big_number 4 (take (length bytes - 12) (drop 12 bytes)) → sets_reading templates domain (base + 16) (take (length bytes - 16) (drop 16 bytes)) ≡ read
    → whole_reading templates base bytes ≡ result_map_both (λ sets. record { export_time = time; sequence = sequence; domain = domain; sets = sets }) (λ fault. fault) read
whole_is templates base bytes time sequence domain read t s d e =
    let time_is : time ≡ big_number 4 (drop 4 bytes) = t ∙ ap (λ (xs : List ℕ). big_number 4 xs) (from_place 4 bytes) in
    let sequence_is : sequence ≡ big_number 4 (drop 8 bytes) = s ∙ ap (λ (xs : List ℕ). big_number 4 xs) (from_place 8 bytes) in
    let domain_is : domain ≡ big_number 4 (drop 12 bytes) = d ∙ ap (λ (xs : List ℕ). big_number 4 xs) (from_place 12 bytes) in
    let there : sets_reading templates (big_number 4 (drop 12 bytes)) (base + 16) (drop 16 bytes) ≡ read =
    ap (λ (n : ℕ). sets_reading templates n (base + 16) (drop 16 bytes)) (sym domain_is)
    ∙ ap (λ (xs : List ℕ). sets_reading templates domain (base + 16) xs) (sym (from_place 16 bytes)) ∙ e in
    rw (time_is, sequence_is, domain_is, there) refl

module _ (templates : InForce) (count offset : ℕ) (bytes : List ℕ) where
  pub message_read : (size : ℕ) → header_fault count bytes ≡ None → size ≡ written_length bytes
      → message_next templates count offset bytes ≡ result_map_both (λ m. (m, drop size bytes)) (λ fault. fault) (whole_reading templates offset (take size bytes))
  message_read size none is = rw (none, is) refl

  pub message_cut : (kind : ReadFaultKind) → header_fault count bytes ≡ Some kind → message_next templates count offset bytes ≡ Err (record { kind = kind; offset = offset })
  message_cut kind found = rw found refl

  pub message_headed : (m : MessageView) (after : List ℕ) → message_next templates count offset bytes ≡ Ok (m, after) → header_fault count bytes ≡ None
  message_headed m after e =
      elim (header_fault count bytes) as (λ o. header_fault count bytes ≡ o → header_fault count bytes ≡ None) [
        | Some kind ↦ λ found. let wrong : ◌≡◌ {A = Result (MessageView × List ℕ) ReadFault} (Err (record { kind = kind; offset = offset })) (Ok (m, after)) = sym (message_cut kind found) ∙ e in absurd (cc)
        | None ↦ λ none. none
      ] refl

  -- the bytes of a message that was read, and the bytes after it
  pub message_whole : (m : MessageView) (after : List ℕ) → message_next templates count offset bytes ≡ Ok (m, after)
      → (x : MessageView) × (whole_reading templates offset (take (written_length bytes) bytes) ≡ Ok x)
      × (◌≡◌ {A = MessageView × List ℕ} (x, drop (written_length bytes) bytes) (m, after))
  message_whole m after e =
      let size = written_length bytes in
      result_mapped (whole_reading templates offset (take size bytes)) (λ (x : MessageView). (x, drop size bytes)) (m, after)
      (sym (message_read size (message_headed m after e) refl) ∙ e)

  message_smaller : (m : MessageView) (after : List ℕ) → message_next templates count offset bytes ≡ Ok (m, after) → length after < length bytes
  message_smaller m after e =
      let sound = header_sound count bytes (message_headed m after e) in
      let header = sound.0 in
      let read = message_whole m after e in
      omega (arith, header.least, sound.1, ap (λ (x : MessageView × List ℕ). length x.1) read.2, length-drop (written_length bytes) bytes)

-- the message in a buffer, whatever bytes follow it
pub front_read : (templates : InForce) (count offset : ℕ) (front rest : List ℕ) → count < 4294967295 → HasHeader front
    → message_next templates count offset (front ++ rest) ≡ result_map_both (λ m. (m, rest)) (λ fault. fault) (whole_reading templates offset front)
front_read templates count offset front rest counted header =
    let size : length front ≡ written_length (front ++ rest) = omega (arith, written_ahead front rest (omega (arith, header.least)), header.whole) in
    message_read templates count offset (front ++ rest) (length front) (header_whole count front rest counted header.least header.version header.whole) size
    ∙ rw (take_at front rest (length front) refl, drop_at front rest (length front) refl) refl

-- ---- consecutive messages

abbrev Before : Type 0
Before = InForce × ℕ

abbrev Next : Before → ℕ → List ℕ → Result (MessageView × List ℕ) ReadFault
Next before = message_next before.0 before.1

abbrev With : Before → MessageView → Before
With before m = (after_message before.0 m, before.1 + 1)

smaller : (before : Before) (offset : ℕ) (bytes : List ℕ) (m : MessageView) (after : List ℕ) → eqb (length bytes) 0 ≡ false → Next before offset bytes ≡ Ok (m, after) → length after < length bytes
smaller before offset bytes m after some e = message_smaller before.0 before.1 offset bytes m after e

some_left : (bytes : List ℕ) → 0 < length bytes → eqb (length bytes) 0 ≡ false
some_left bytes some = grind (arith, nat_tests, common_steps)

pub first_message_and_rest : FirstMessageAndRest
first_message_and_rest templates count offset bytes after m read =
    first_and_rest (λ rest. length rest == 0) Next With refl smaller (templates, count) offset bytes m after (some_left bytes (omega (arith, message_smaller templates count offset bytes m after read))) read

-- ---- messages with their offsets

abbrev Placed : Type 0
Placed = ℕ × MessageView

abbrev NextPlaced : Before → ℕ → List ℕ → Result (Placed × List ℕ) ReadFault
NextPlaced before at rest = result_map_both (λ read. ((at, read.0), read.1)) (λ fault. fault) (message_next before.0 before.1 at rest)

abbrev WithPlaced : Before → Placed → Before
WithPlaced before placed = (after_message before.0 placed.1, before.1 + 1)

smaller_placed : (before : Before) (offset : ℕ) (bytes : List ℕ) (placed : Placed) (after : List ℕ) → eqb (length bytes) 0 ≡ false → NextPlaced before offset bytes ≡ Ok (placed, after) → length after < length bytes
smaller_placed before offset bytes placed after some e =
    let (read, reads, same) = result_mapped (message_next before.0 before.1 offset bytes) (λ (read : MessageView × List ℕ). ((offset, read.0), read.1)) (placed, after) e in
    let less = message_smaller before.0 before.1 offset bytes read.0 read.1 reads in
    omega (arith, less, ap (λ (x : Placed × List ℕ). length x.1) same)

-- the messages with their offsets are these messages, whatever the bound on their number
placed_by : (most : ℕ) (before : Before) (offset : ℕ) (bytes : List ℕ)
    → items_by {A = MessageView} (λ rest. length rest == 0) Next With most before offset bytes
    ≡ result_map_both messages_in (λ fault. fault) (items_by {A = Placed} (λ rest. length rest == 0) NextPlaced WithPlaced most before offset bytes)
placed_by zero before offset bytes = refl
placed_by (suc most) before offset bytes = by (placed_by most) (length bytes == 0) (message_next before.0 before.1 offset bytes)
  where
    after : (m : MessageView) (later : Result (List MessageView) ReadFault) (placed : Result (List Placed) ReadFault)
        → later ≡ result_map_both messages_in (λ fault. fault) placed
        → after_items (m ∷ []) later ≡ result_map_both messages_in (λ fault. fault) (after_items ((offset, m) ∷ []) placed)
    after m later (Ok placed) is = ap (after_items (m ∷ [])) is
    after m later (Err fault) is = ap (after_items (m ∷ [])) is

    by : ((before : Before) (offset : ℕ) (bytes : List ℕ) → items_by (λ rest. length rest == 0) Next With most before offset bytes
        ≡ result_map_both messages_in (λ fault. fault) (items_by (λ rest. length rest == 0) NextPlaced WithPlaced most before offset bytes))
        → (end : Bool) (read : Result (MessageView × List ℕ) ReadFault)
        → (if end then Ok [] else result_flatten (result_map_both
        (λ (x : MessageView × List ℕ). after_items (x.0 ∷ []) (items_by (λ rest. length rest == 0) Next With most (With before x.0) (offset + (length bytes - length x.1)) x.1))
        (λ fault. fault) read))
        ≡ result_map_both messages_in (λ fault. fault) (if end then Ok [] else result_flatten (result_map_both
        (λ (x : Placed × List ℕ). after_items (x.0 ∷ []) (items_by (λ rest. length rest == 0) NextPlaced WithPlaced most (WithPlaced before x.0) (offset + (length bytes - length x.1)) x.1))
        (λ fault. fault) (result_map_both (λ (read : MessageView × List ℕ). ((offset, read.0), read.1)) (λ fault. fault) read)))
    by same true read = refl
    by same false (Ok (m, rest)) = after m _ _ (same (With before m) (offset + (length bytes - length rest)) rest)
    by same false (Err fault) = refl

pub placed_are_messages : PlacedAreMessages
placed_are_messages templates count offset bytes = placed_by (length bytes) (templates, count) offset bytes

-- reading has come to these bytes, after some messages of the whole, with their offsets
module _ (whole : Result (List Placed) ReadFault) (placed : List Placed) (now : InForce) (count offset : ℕ) (rest : List ℕ) (so_far : whole ≡ after_items placed (placed_from now count offset rest)) where
  pub placed_more : (m : MessageView) (after : List ℕ) (new : InForce) (more later : ℕ) → message_next now count offset rest ≡ Ok (m, after) → new ≡ after_message now m
      → more ≡ count + 1 → later ≡ offset + (length rest - length after) → whole ≡ after_items (placed ++ (offset, m) ∷ []) (placed_from new more later after)
  placed_more m after new more later read is counted e =
      at_item (λ rest. length rest == 0) NextPlaced WithPlaced refl smaller_placed whole placed (now, count) offset rest so_far (offset, m) after later (some_left rest (omega (arith, message_smaller now count offset rest m after read)))
      (ap (result_map_both (λ (read : MessageView × List ℕ). ((offset, read.0), read.1)) (λ (fault : ReadFault). fault)) read) e
      ∙ ap₂ (λ (t : InForce) (n : ℕ). after_items (placed ++ (offset, m) ∷ []) (placed_from t n later after)) (sym is) (sym counted)

  pub placed_end : rest ≡ [] → whole ≡ Ok placed
  placed_end none = at_end (λ rest. length rest == 0) NextPlaced WithPlaced refl smaller_placed whole placed (now, count) offset rest so_far (ap (λ (l : List ℕ). length l == 0) none)

-- the same of the messages without their offsets
pub without_offsets : (whole : Result (List MessageView) ReadFault) (all : Result (List Placed) ReadFault) (placed : List Placed) (now : InForce) (count offset : ℕ) (rest : List ℕ)
    → whole ≡ result_map_both messages_in (λ fault. fault) all → all ≡ after_items placed (placed_from now count offset rest)
    → whole ≡ after_items (messages_in placed) (messages_from now count offset rest)
without_offsets whole all placed now count offset rest is so_far =
    is ∙ ap (result_map_both messages_in (λ (fault : ReadFault). fault)) so_far ∙ by (placed_from now count offset rest)
    ∙ ap (after_items (messages_in placed)) (sym (placed_are_messages now count offset rest))
  where
    by : (later : Result (List Placed) ReadFault) → result_map_both messages_in (λ (fault : ReadFault). fault) (after_items placed later)
        ≡ after_items (messages_in placed) (result_map_both messages_in (λ (fault : ReadFault). fault) later)
    by (Ok later) = ap Ok (map-append (λ (p : Placed). p.1) placed later)
    by (Err fault) = refl

-- reading has come to these bytes, after some messages of the whole
module _ (whole : Result (List MessageView) ReadFault) (messages : List MessageView) (now : InForce) (count offset : ℕ) (rest : List ℕ) (so_far : whole ≡ after_items messages (messages_from now count offset rest)) where
  pub messages_more : (m : MessageView) (after : List ℕ) (new : InForce) (more later : ℕ) → message_next now count offset rest ≡ Ok (m, after) → new ≡ after_message now m
      → more ≡ count + 1 → later ≡ offset + (length rest - length after) → whole ≡ after_items (messages ++ m ∷ []) (messages_from new more later after)
  messages_more m after new more later read is counted e =
      at_item (λ rest. length rest == 0) Next With refl smaller whole messages (now, count) offset rest so_far m after later (some_left rest (omega (arith, message_smaller now count offset rest m after read))) read e
      ∙ ap₂ (λ (t : InForce) (n : ℕ). after_items (messages ++ m ∷ []) (messages_from t n later after)) (sym is) (sym counted)

  pub messages_fault : (fault : ReadFault) → 0 < length rest → message_next now count offset rest ≡ Err fault → whole ≡ Err fault
  messages_fault fault some read = at_fault (λ rest. length rest == 0) Next With refl smaller whole messages (now, count) offset rest so_far fault (some_left rest some) read

  pub messages_end : rest ≡ [] → whole ≡ Ok messages
  messages_end none = at_end (λ rest. length rest == 0) Next With refl smaller whole messages (now, count) offset rest so_far (ap (λ (l : List ℕ). length l == 0) none)

-- a reader that failed within a message, or before it
pub stops_after : (whole : Result (List MessageView) ReadFault) (messages : List MessageView) (now : InForce) (count offset size : ℕ) (taken : List ℕ) (stop : ReadFault)
    → whole ≡ after_items messages (messages_from now count offset taken) → IsIncomplete count taken → size ≡ offset + length taken → stop ≡ read_fault offset → StopsAfter size whole stop
stops_after whole messages now count offset size [] stop so_far incomplete sized is =
    rw (messages_end whole messages now count offset [] so_far refl) (is ∙ ap read_fault (omega (arith, sized)))
stops_after whole messages now count offset size (x ∷ xs) stop so_far (inl short) sized is =
    rw (messages_fault whole messages now count offset (x ∷ xs) so_far _ (omega arith) (message_cut now count offset (x ∷ xs) _ short)) (inl refl, is)
stops_after whole messages now count offset size (x ∷ xs) stop so_far (inr cut) sized is =
    rw (messages_fault whole messages now count offset (x ∷ xs) so_far _ (omega arith) (message_cut now count offset (x ∷ xs) _ cut)) (inr refl, is)
