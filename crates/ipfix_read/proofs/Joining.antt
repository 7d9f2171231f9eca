-- The result of a call for a message, from what it gathered and read.
use Rattle.std.proofs.Common.{◌≡◌, ◌∙◌, ℕ, ◌+◌, ◌<◌, List, ◌++◌, length, Option, None, Some, Result, Ok, Err, inl, inr, refl, sym, subst, ap, append_assoc, arith, rules, length-append, length-take, [], ◌∷◌}
use Rattle.flow_io.specs.Devices.{InputView, has_ended}
use Rattle.flow_io.proofs.Moving.{gives_more, gives_none}
use Rattle.std.specs.Prelude.{◌≤◌, fold, take}
use Rattle.std.specs.Result.{result_map_both}
use Rattle.std.proofs.lemmas.List.{length_push, map-append}
use Rattle.ipfix_read.specs.Message.{ReadFault, MessageView, HasHeader, after_message, message_next, whole_reading}
use Rattle.ipfix_read.specs.declared.progress.State.{State}
use Rattle.ipfix_read.specs.Fault.{failed_before}
use Rattle.ipfix_read.specs.Messages.{Going, Failed, ProgressView, AnswersCall, Decodes, GathersCall, messages_from, messages_in, placed_from}
use Rattle.ipfix_read.specs.Set.{ReadsUnder}
use Rattle.ipfix_templates.specs.declared.table.TemplateTable.{TemplateTable}
use Rattle.ipfix_templates.specs.InForce.{template_at}
use Rattle.ipfix_templates.specs.Reading.{after_items}
use Rattle.ipfix_templates.proofs.Reading.{no_items}
use Rattle.ipfix_read.specs.Laws.{CallsJoinFile, CallsStart}
use Rattle.ipfix_read.proofs.Sets.{after_more}
use Rattle.ipfix_read.proofs.Readings.{front_read, message_cut, messages_fault, placed_are_messages, placed_end, placed_more, stops_after, without_offsets}

-- The results for what was read to the start of a buffer, by the parts of the state between two calls, whose view is the old state.
module _ {view old : ProgressView} (same : view ≡ old) (buffer : List ℕ) where
  by_view : (found : Result (Option ℕ) ReadFault) (result : Result (Option MessageView) ReadFault) (new : ProgressView) → Decodes view buffer found result new → Decodes old buffer found result new
  by_view found result new = subst (λ (p : ProgressView). Decodes p buffer found result new) same

  -- a fault of the header, or of the reader
  pub decodes_fault : (fault : ReadFault) → Decodes old buffer (Err fault) (Err fault) (record view { state = Failed })
  decodes_fault fault = by_view (Err fault) (Err fault) (record view { state = Failed }) (record {
    answers = λ ended taken there. (
      refl,
      elim there.0 [
        | inl unread ↦ inr (inl (λ i. record { kind = unread.0 i; offset = there.1 i }, unread.1))
        | inr found ↦ inr (inr (
          found.0,
          found.1,
          λ rest follows.
              message_cut (template_at view.table) view.count view.offset (taken ++ rest) fault.kind (found.2 rest follows)
              ∙ ap (λ (o : ℕ). Err (record { kind = fault.kind; offset = o })) (sym there.1),
        ))
      ],
    );
    none = λ e. search rules;
    fault = λ f e. (cc, refl);
    device = refl;
    counted = tt;
  })

  module _ (size : ℕ) (counted : old.count < 4294967295) (header : HasHeader (take size buffer)) where
    few : view.count < 4294967295
    few = subst (λ (p : ProgressView). p.count < 4294967295) (sym same) counted

    -- the message that was read, whatever follows it
    there_read : (taken rest : List ℕ) → take size buffer ≡ taken
        → message_next (template_at view.table) view.count view.offset (taken ++ rest)
        ≡ result_map_both (λ m. (m, rest)) (λ fault. fault) (whole_reading (template_at view.table) view.offset (take size buffer))
    there_read taken rest there =
        ap (λ (l : List ℕ). message_next (template_at view.table) view.count view.offset (l ++ rest)) (sym there)
        ∙ front_read (template_at view.table) view.count view.offset (take size buffer) rest few header

    pub decodes_message : (table : TemplateTable) (m : MessageView)
        → ReadsUnder view.table table after_message (whole_reading (template_at view.table) view.offset (take size buffer)) (Ok m) → size ≤ length buffer
        → Decodes old buffer (Ok (Some size)) (Ok (Some m)) (record { table = table; offset = view.offset + size; count = view.count + 1; state = Going })
    decodes_message table m read within = by_view (Ok (Some size)) (Ok (Some m)) (record { table = table; offset = view.offset + size; count = view.count + 1; state = Going }) (record {
      answers = λ ended taken there. (
        (λ rest. there_read taken rest there.0 ∙ rw read.0 refl),
        read.1,
        ap (λ (k : ℕ). view.offset + k) (sym (omega (arith, length-take size buffer, within)) ∙ ap length there.0),
        refl,
        refl,
      );
      none = λ e. search rules;
      fault = λ f e. search rules;
      device = refl;
      counted = (refl, omega (arith, few), refl);
    })

-- A call for a message has the result for what it read.
pub answers_call : {R : Type 0} (input : R → InputView) (old : ProgressView) (from : R) (buffer : List ℕ) (found : Result (Option ℕ) ReadFault)
    (then : R) (result : Result (Option MessageView) ReadFault) (new : ProgressView)
    → GathersCall input old from buffer found then → Decodes old buffer found result new → AnswersCall input old from result new then
answers_call input old from buffer found then result new gathers decodes = record {
  going = λ going. let read = gathers.going going in (read.0, read.1, decodes.answers (has_ended (input then)) read.0 read.2);
  ended = λ ended.
      let none = gathers.ended ended in let is = decodes.none none.0 in
      (is.0, is.1 ∙ ap (λ (s : State). record old { state = s }) (sym ended), none.1);
  failed = λ failed.
      let fault = gathers.failed failed in let is = decodes.fault failed_before fault.0 in
      (is.0, is.1 ∙ ap (λ (s : State). record old { state = s }) (sym failed), fault.1);
  device = λ none. gathers.device none ∙ sym decodes.device;
}

-- ---- calls for messages join to the whole File

pub calls_start : CallsStart
calls_start templates count offset input p at = record {
  taken = [];
  consumed = gives_none input;
  read = λ rest. no_items _ ∙ (λ i. after_items [] (placed_from (sym at.0 i) (sym at.1 i) (sym at.2 i) rest));
  table = at.0;
  counted = omega (arith, at.1);
  placed = omega (arith, at.2);
}

pub calls_join_file : CallsJoinFile
calls_join_file templates count offset start now then placed old new (Ok (Some m)) so_far (taken, returned, a) = record {
  taken = so_far.taken ++ taken;
  consumed = gives_more so_far.consumed returned;
  read = λ rest.
      ap (placed_from templates count offset) (append_assoc so_far.taken taken rest)
      ∙ placed_more _ placed _ _ old.offset (taken ++ rest) (so_far.read (taken ++ rest)) m rest _ _ new.offset (a.0 rest) a.1 a.3
      (omega (arith, a.2, length-append taken rest));
  table = a.1 ∙ ap (λ now. after_message now m) so_far.table ∙ after_more after_message templates (messages_in placed) m
      ∙ ap (fold after_message templates) (sym (map-append (λ (p : ℕ × MessageView). p.1) placed ((old.offset, m) ∷ [])));
  counted = omega (arith, a.3, so_far.counted, length_push placed (old.offset, m));
  placed = omega (arith, a.2, so_far.placed, length-append so_far.taken taken);
}
calls_join_file templates count offset start now then placed old new (Ok None) so_far (taken, returned, a) =
    (so_far.taken ++ taken, gives_more so_far.consumed returned, (a.1, placed_end _ placed _ _ old.offset taken (so_far.read taken) a.0))
calls_join_file templates count offset start now then placed old new (Err fault) so_far (taken, returned, a) = (
  so_far.taken ++ taken,
  gives_more so_far.consumed returned,
  elim a.1 [
    | inl memory ↦ inl memory
    | inr (inl unread) ↦ inr (inl (stops_after _ (messages_in placed) _ _ old.offset _ taken fault (read taken) unread.1 (omega (arith, so_far.placed, length-append so_far.taken taken)) unread.0))
    | inr (inr found) ↦ inr (inr (
      found.0,
      λ rest follows.
          ap (messages_from templates count offset) (append_assoc so_far.taken taken rest)
          ∙ messages_fault _ (messages_in placed) _ _ old.offset (taken ++ rest) (read (taken ++ rest)) fault (omega (arith, found.1, length-append taken rest)) (found.2 rest follows),
    ))
  ],
)
  where
    read : (rest : List ℕ) → messages_from templates count offset (so_far.taken ++ rest)
        ≡ after_items (messages_in placed) (messages_from (template_at old.table) old.count old.offset rest)
    read rest = without_offsets _ _ placed _ _ old.offset rest (placed_are_messages templates count offset (so_far.taken ++ rest)) (so_far.read rest)
