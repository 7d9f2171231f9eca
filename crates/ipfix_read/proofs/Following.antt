-- A File that is read after another.
use Rattle.std.proofs.Common.{◌≡◌, ◌∙◌, ◌==◌, ◌&&◌, ◌||◌, ℕ, zero, suc, ◌+◌, ◌-◌, ◌<◌, ◌≤◌, Bool, true, false, not, cond, true≢false, List, [], ◌∷◌, ◌++◌, length, take, drop, Option, Some, None, Result, Ok, Err, refl, sym, ap, subst, arith, length-append}
use Rattle.std.specs.Prelude.{fold, nat_lt, ok_or}
use Rattle.std.specs.List.{AllByRecursion, list_any}
use Rattle.std.specs.Option.{option_map_or}
use Rattle.std.specs.Result.{result_flatten, result_map_both}
use Rattle.std.proofs.lemmas.Bool.{or_from, or_parts}
use Rattle.std.proofs.lemmas.List.{drop-append-le, take-append-le}
use Rattle.std.proofs.lemmas.List.Elements.{recursion_from_All}
use Rattle.std.proofs.lemmas.List.Folds.{list_any-append}
use Rattle.byteorder.specs.Endian.{big_number}
use Rattle.ipfix_templates.specs.Template.{TemplateView, same_kind}
use Rattle.ipfix_templates.specs.declared.kind.Kind.{Kind}
use Rattle.ipfix_templates.specs.declared.event.TemplateEvent.{TemplateEvent}
use Rattle.ipfix_templates.specs.declared.event.TemplateEvent.TheVariants.{Define, Withdraw, WithdrawAll}
use Rattle.ipfix_templates.specs.InForce.{InForce, after_event, no_templates}
use Rattle.ipfix_templates.specs.Reading.{after_items, items_by, template_set_reading}
use Rattle.ipfix_templates.proofs.Choice.{gave, ok_is}
use Rattle.ipfix_templates.proofs.Reading.{no_items}
use Rattle.ipfix_read.specs.Fault.{BadRecord, BadSetLength}
use Rattle.ipfix_read.specs.Record.{Record, data_set_reading, is_padding, record_next}
use Rattle.ipfix_read.specs.Set.{Set, Skipped, Templates, Values, after_set, content_reading, events_in, in_file, set_next, sets_reading, template_kind, written_length}
use Rattle.ipfix_read.specs.Message.{MessageView, ReadFault, after_message, header_fault, message_next, whole_reading}
use Rattle.ipfix_read.specs.Messages.{messages_from}
use Rattle.ipfix_read.specs.Laws.{File, FileAfterFile, JoinedFileIsRead, IsSelfContained, joined, lacks_template}
use Rattle.ipfix_read.proofs.Gathering.{header_none, header_sound, own_ahead, own_none, written_ahead}
use Rattle.ipfix_read.proofs.Readings.{first_message_and_rest, message_headed, message_read, message_whole, messages_fault}
use Rattle.ipfix_read.proofs.RecordValues.{record_at}
use Rattle.ipfix_read.proofs.Sets.{result_mapped}

-- ---- more templates in force

-- each template in force in the first is in force in the second
abbrev Extends : InForce → InForce → Type 0
Extends few more = (d i : ℕ) (t : TemplateView) → few d i ≡ Some t → more d i ≡ Some t

after_event-extends : (at : ℕ) (few more : InForce) (e : TemplateEvent) → Extends few more → Extends (after_event at few e) (after_event at more e)
after_event-extends at few more (Define t) is d i u = by (at == d && t.id == i)
  where
    by : (here : Bool) → cond here (Some t) (few d i) ≡ Some u → cond here (Some t) (more d i) ≡ Some u
    by true e = e
    by false e = is d i u e
after_event-extends at few more (Withdraw id) is d i u = by (at == d && id == i)
  where
    by : (here : Bool) → cond here None (few d i) ≡ Some u → cond here None (more d i) ≡ Some u
    by true e = e
    by false e = is d i u e
after_event-extends at few more (WithdrawAll kind) is d i u = λ e.
    let there = gave (few d i) (λ t. cond (at == d && same_kind kind t.kind) None (Some t)) u e in rw (is d i there.0 there.1) there.2

-- after more items too, if it is so after each
all-extend : {A : Type 0} (after : InForce → A → InForce) → ((few more : InForce) (x : A) → Extends few more → Extends (after few x) (after more x))
    → (few more : InForce) (xs : List A) → Extends few more → Extends (fold after few xs) (fold after more xs)
all-extend after step few more [] is = is
all-extend after step few more (x ∷ xs) is = all-extend after step (after few x) (after more x) xs (step few more x is)

after_set-extends : (domain : ℕ) (few more : InForce) (set : Set) → Extends few more → Extends (after_set domain few set) (after_set domain more set)
after_set-extends domain few more set = all-extend (after_event domain) (after_event-extends domain) few more (events_in set)

after_message-extends : (few more : InForce) (m : MessageView) → Extends few more → Extends (after_message few m) (after_message more m)
after_message-extends few more m = all-extend (after_set m.domain) (after_set-extends m.domain) few more m.sets

-- ---- the same items at another offset

-- without a fault the offset of a fault doesn't matter
same_mapped : {A B F G : Type 0} (r : Result A F) (f : A → B) (g h : F → G) (y : B) → result_map_both f g r ≡ Ok y → result_map_both f h r ≡ Ok y
same_mapped (Ok x) f g h y e = cc
same_mapped (Err fault) f g h y e = absurd (cc)

same_ok_or : {A F : Type 0} (o : Option A) (f g : F) (y : A) → ok_or o f ≡ Ok y → ok_or o g ≡ Ok y
same_ok_or (Some x) f g y e = e
same_ok_or None f g y e = absurd (cc)

-- Items read in the state `s` are read in the state `t` too, if `s` and `t` are alike for these items, and stay so after
-- each item.
module _ {S A F : Type 0} (ends : List ℕ → Bool) (next : S → ℕ → List ℕ → Result (A × List ℕ) F) (with_one : S → A → S) (Alike : S → S → List A → Type 0)
    (step : (s t : S) (here there : ℕ) (bytes : List ℕ) (x : A) (after : List ℕ) (xs : List A) → Alike s t (x ∷ xs) → next s here bytes ≡ Ok (x, after)
    → (next t there bytes ≡ Ok (x, after)) × Alike (with_one s x) (with_one t x) xs) where
  abbrev By : ℕ → S → ℕ → List ℕ → Result (List A) F
  By = items_by ends next with_one

  -- the item at the start and the items after it
  abbrev Then : ℕ → S → ℕ → List ℕ → Result (A × List ℕ) F → Result (List A) F
  Then n s here bytes read =
      result_flatten (result_map_both (λ x. after_items (x.0 ∷ []) (By n (with_one s x.0) (here + (length bytes - length x.1)) x.1)) (λ fault. fault) read)

  -- at most `n` items are the same
  abbrev AreSame : ℕ → Type 0
  AreSame n = (s t : S) (here there : ℕ) (bytes : List ℕ) (xs : List A) → Alike s t xs → By n s here bytes ≡ Ok xs → By n t there bytes ≡ Ok xs

  same_first : (n : ℕ) → AreSame n → (s t : S) (here there : ℕ) (bytes : List ℕ) (xs : List A) → Alike s t xs
      → (read : Result (A × List ℕ) F) → next s here bytes ≡ read → Then n s here bytes read ≡ Ok xs → Then n t there bytes (next t there bytes) ≡ Ok xs
  same_first n fewer s t here there bytes xs alike (Err fault) is e = absurd (cc)
  same_first n fewer s t here there bytes xs alike (Ok (x, after)) is e =
      let taken = length bytes - length after in
      let rest = result_mapped (By n (with_one s x) (here + taken) after) (λ later. (x ∷ []) ++ later) xs e in
      let both = step s t here there bytes x after rest.0 (subst (Alike s t) (sym rest.2) alike) is in
      let later = fewer (with_one s x) (with_one t x) (here + taken) (there + taken) after rest.0 both.1 rest.1 in
      rw (both.0, later) (ap Ok rest.2)

  same_items : (n : ℕ) → AreSame n
  same_items zero s t here there bytes xs alike e = e
  same_items (suc n) s t here there bytes xs alike e =
      by (ends bytes) (same_first n (same_items n) s t here there bytes xs alike (next s here bytes) refl) e
    where
      by : (b : Bool) → (Then n s here bytes (next s here bytes) ≡ Ok xs → Then n t there bytes (next t there bytes) ≡ Ok xs)
          → cond b (Ok []) (Then n s here bytes (next s here bytes)) ≡ Ok xs → cond b (Ok []) (Then n t there bytes (next t there bytes)) ≡ Ok xs
      by true first e = e
      by false first e = first e

-- ---- a set

same_records : (t : TemplateView) (here there : ℕ) (bytes : List ℕ) (records : List Record)
    → data_set_reading t here bytes ≡ Ok records → data_set_reading t there bytes ≡ Ok records
same_records t here there bytes records =
    same_items (is_padding t) (λ _. record_next t) (λ _ _. tt) (λ _ _ _. Unit {0})
    (λ _ _ here there bytes x after xs _ e. (
      same_ok_or (record_at t bytes) (record { kind = BadRecord; offset = here }) (record { kind = BadRecord; offset = there }) (x, after) e,
      tt,
    ))
    (length bytes) tt tt here there bytes records tt

-- a data set under a template, or under none; and a set whose ID may be that of a template set
module _ (id at : ℕ) (bytes : List ℕ) where
  abbrev Data : Option TemplateView → Result Set ReadFault
  Data o = option_map_or (λ t. result_map_both (Values t.kind) (λ fault. fault) (data_set_reading t at bytes)) o (Ok (Skipped id))

  abbrev Content : Option TemplateView → Option Kind → Result Set ReadFault
  Content t o =
      option_map_or (λ kind. result_map_both (Templates kind) (in_file at) (template_set_reading kind bytes)) o (Data (cond (nat_lt id 256) None t))

skipped_lacks : (id : ℕ) (set : Set) → nat_lt id 256 ≡ false → Skipped id ≡ set → lacks_template set ≡ true
skipped_lacks id set free is = ap lacks_template (sym is) ∙ ap not free

-- the set at the start, and the bytes after it
abbrev First : InForce → ℕ → ℕ → List ℕ → Result (Set × List ℕ) ReadFault
First templates domain at bytes =
    result_map_both (λ set. (set, drop (written_length bytes) bytes)) (λ fault. fault)
    (content_reading templates domain (big_number 2 bytes) (at + 4) (drop 4 (take (written_length bytes) bytes)))

module _ (few more : InForce) (extends : Extends few more) (domain : ℕ) where
  same_content : (here there id : ℕ) (bytes : List ℕ) (set : Set) → lacks_template set ≡ false
      → content_reading few domain id here bytes ≡ Ok set → content_reading more domain id there bytes ≡ Ok set
  same_content here there id bytes set found e = kinds (template_kind id) e
    where
      data_set : (o : Option TemplateView) → few domain id ≡ o → nat_lt id 256 ≡ false → Data id here bytes o ≡ Ok set
          → Data id there bytes (more domain id) ≡ Ok set
      data_set None is free e = absurd (true≢false (sym (skipped_lacks id set free (ok_is (Skipped id) set e)) ∙ found))
      data_set (Some t) is free e =
          let read = result_mapped (data_set_reading t here bytes) (Values t.kind) set e in
          rw (extends domain id t is, same_records t here there bytes read.0 read.1) (ap Ok read.2)

      reserved : (b : Bool) → nat_lt id 256 ≡ b → Data id here bytes (cond b None (few domain id)) ≡ Ok set
          → Data id there bytes (cond b None (more domain id)) ≡ Ok set
      reserved true is e = e
      reserved false is e = data_set (few domain id) refl is e

      kinds : (o : Option Kind) → Content id here bytes (few domain id) o ≡ Ok set → Content id there bytes (more domain id) o ≡ Ok set
      kinds (Some kind) e = same_mapped (template_set_reading kind bytes) (Templates kind) (in_file here) (in_file there) set e
      kinds None e = reserved (nat_lt id 256) refl e

  same_set : (here there : ℕ) (bytes : List ℕ) (set : Set) (after : List ℕ) → lacks_template set ≡ false
      → set_next few domain here bytes ≡ Ok (set, after) → set_next more domain there bytes ≡ Ok (set, after)
  same_set here there bytes set after found e =
      by (nat_lt (written_length bytes) 4 || nat_lt (length bytes) (written_length bytes)) e
    where
      by : (b : Bool) → cond b (Err (record { kind = BadSetLength; offset = here })) (First few domain here bytes) ≡ Ok (set, after)
          → cond b (Err (record { kind = BadSetLength; offset = there })) (First more domain there bytes) ≡ Ok (set, after)
      by true e = absurd (cc)
      by false e =
          let id = big_number 2 bytes in
          let content = drop 4 (take (written_length bytes) bytes) in
          let rest = drop (written_length bytes) bytes in
          let read = result_mapped (content_reading few domain id (here + 4) content) (λ (x : Set). (x, rest)) (set, after) e in
          let lacks_none = ap (λ (x : Set × List ℕ). lacks_template x.0) read.2 ∙ found in
          rw (same_content (here + 4) (there + 4) id content read.0 lacks_none read.1) (ap Ok read.2)

same_sets : (few more : InForce) (domain here there : ℕ) (bytes : List ℕ) (sets : List Set) → Extends few more → list_any lacks_template sets ≡ false
    → sets_reading few domain here bytes ≡ Ok sets → sets_reading more domain there bytes ≡ Ok sets
same_sets few more domain here there bytes sets extends found =
    same_items (λ rest. length rest == 0) (λ before. set_next before domain) (after_set domain)
    (λ s t xs. Extends s t × (list_any lacks_template xs ≡ false))
    (λ s t here there bytes x after xs alike e.
    let each = or_parts (lacks_template x) (list_any lacks_template xs) alike.1 in
    (same_set s t alike.0 domain here there bytes x after each.0 e, (after_set-extends domain s t x alike.0, each.1)))
    (length bytes) few more here there bytes sets (extends, found)

-- ---- a message

abbrev lacks : MessageView → Bool
lacks m = list_any lacks_template m.sets

same_whole : (few more : InForce) (here there : ℕ) (bytes : List ℕ) (m : MessageView) → Extends few more → lacks m ≡ false
    → whole_reading few here bytes ≡ Ok m → whole_reading more there bytes ≡ Ok m
same_whole few more here there bytes m extends found e =
    let domain = big_number 4 (drop 12 bytes) in
    let made : List Set → MessageView =
    λ sets. record { export_time = big_number 4 (drop 4 bytes); sequence = big_number 4 (drop 8 bytes); domain = domain; sets = sets } in
    let read = result_mapped (sets_reading few domain (here + 16) (drop 16 bytes)) made m e in
    let sets = same_sets few more domain (here + 16) (there + 16) (drop 16 bytes) read.0 extends (ap lacks read.2 ∙ found) read.1 in
    rw sets (ap Ok read.2)

-- the message at the start of bytes
module _ (templates : InForce) (count offset : ℕ) (bytes : List ℕ) (m : MessageView) (after : List ℕ) (e : message_next templates count offset bytes ≡ Ok (m, after)) where
  abbrev size : ℕ
  size = written_length bytes

  -- it is the same whatever bytes follow
  longer_message : (back : List ℕ) → message_next templates count offset (bytes ++ back) ≡ Ok (m, after ++ back)
  longer_message back =
      let sound = header_sound count bytes (message_headed templates count offset bytes m after e) in
      let own = sound.0 in
      let whole = message_whole templates count offset bytes m after e in
      let long = length-append bytes back in
      let written : written_length (bytes ++ back) ≡ size = written_ahead bytes back (omega (arith, own.least, sound.1)) in
      let own_still = own_ahead count bytes back (omega (arith, own.least, sound.1)) ∙ own_none count bytes own.counted own.version own.least in
      let none : header_fault count (bytes ++ back) ≡ None =
      header_none count (bytes ++ back) (omega (arith, long, own.least, sound.1)) own_still (omega (arith, long, written, sound.1)) in
      message_read templates count offset (bytes ++ back) size none (sym written)
      ∙ rw (take-append-le size bytes back sound.1, whole.1, drop-append-le size bytes back sound.1)
      (ap (λ (x : MessageView × List ℕ). Ok (x.0, x.1 ++ back)) whole.2)

  -- it is the same under more templates, and after another number of messages
  same_message : (more : InForce) (counted there : ℕ) → Extends templates more → lacks m ≡ false → counted < 4294967295
      → message_next more counted there bytes ≡ Ok (m, after)
  same_message more counted there extends found few =
      let sound = header_sound count bytes (message_headed templates count offset bytes m after e) in
      let own = sound.0 in
      let whole = message_whole templates count offset bytes m after e in
      let none : header_fault counted bytes ≡ None =
      header_none counted bytes (omega (arith, own.least, sound.1)) (own_none counted bytes few own.version own.least) sound.1 in
      let lacks_none = ap (λ (x : MessageView × List ℕ). lacks x.0) whole.2 ∙ found in
      message_read more counted there bytes size none refl
      ∙ rw (same_whole templates more offset there (take size bytes) whole.0 extends lacks_none whole.1) (ap Ok whole.2)

-- ---- consecutive messages

abbrev Alone : List MessageView → Type 0
Alone messages = list_any lacks messages ≡ false

same_messages : (few more : InForce) (count counted here there : ℕ) (bytes : List ℕ) (messages : List MessageView) → Extends few more
    → counted + length messages ≤ 4294967295 → Alone messages
    → messages_from few count here bytes ≡ Ok messages → messages_from more counted there bytes ≡ Ok messages
same_messages few more count counted here there bytes messages extends most alone =
    same_items {S = InForce × ℕ} (λ rest. length rest == 0) (λ before. message_next before.0 before.1) (λ before m. (after_message before.0 m, before.1 + 1))
    (λ s t xs. Extends s.0 t.0 × (t.1 + length xs ≤ 4294967295) × Alone xs)
    (λ s t here there bytes x after xs alike e.
    let each = or_parts (lacks x) (list_any lacks xs) alike.2 in (
      same_message s.0 s.1 here bytes x after e t.0 t.1 there alike.0 each.0 (omega (arith, alike.1)),
      (after_message-extends s.0 t.0 x alike.0, omega (arith, alike.1), each.1),
    ))
    (length bytes) (few, count) (more, counted) here there bytes messages (extends, most, alone)

abbrev fine : List MessageView → Result (List MessageView) ReadFault
fine messages = Ok messages

-- the messages of bytes are a first one and the rest
record Begin (templates : InForce) (count offset : ℕ) (bytes : List ℕ) (messages : List MessageView) : Type 0 where
  m : MessageView
  after : List ℕ
  rest : List MessageView
  first : message_next templates count offset bytes ≡ Ok (m, after)
  others : messages_from (after_message templates m) (count + 1) (offset + (length bytes - length after)) after ≡ Ok rest
  all : m ∷ rest ≡ messages

begin : (templates : InForce) (count offset : ℕ) (bytes : List ℕ) (messages : List MessageView) → 0 < length bytes
    → messages_from templates count offset bytes ≡ Ok messages → Begin templates count offset bytes messages
begin templates count offset bytes messages some e = by (message_next templates count offset bytes) refl
  where
    by : (read : Result (MessageView × List ℕ) ReadFault) → message_next templates count offset bytes ≡ read → Begin templates count offset bytes messages
    by (Err fault) is =
        let whole = messages_fault (messages_from templates count offset bytes) [] templates count offset bytes (no_items _) fault some is in
        let wrong : ◌≡◌ {A = Result (List MessageView) ReadFault} (Err fault) (Ok messages) = sym whole ∙ e in absurd (cc)
    by (Ok (m, after)) is =
        let rest = result_mapped (messages_from (after_message templates m) (count + 1) (offset + (length bytes - length after)) after)
        (λ (later : List MessageView). (m ∷ []) ++ later) messages (sym (first_message_and_rest templates count offset bytes after m is) ∙ e) in
        record { m = m; after = after; rest = rest.0; first = is; others = rest.1; all = rest.2 }

-- bytes that have messages under any templates, after those of other bytes
module _ (those : List MessageView) (back : List ℕ) where
  -- after this number of messages
  abbrev Follow : ℕ → Type 0
  Follow count = (now : InForce) (at : ℕ) → messages_from now count at back ≡ Ok those

  appended : (these : List MessageView) (templates : InForce) (count offset : ℕ) (front : List ℕ) → messages_from templates count offset front ≡ Ok these
      → Follow (count + length these) → messages_from templates count offset (front ++ back) ≡ Ok (these ++ those)
  appended [] templates count offset [] e follow = ap (λ (n : ℕ). messages_from templates n offset back) (omega arith) ∙ follow templates offset
  appended (m ∷ these) templates count offset [] e follow = absurd (cc)
  appended [] templates count offset (b ∷ bytes) e follow =
      let read = begin templates count offset (b ∷ bytes) [] (omega arith) e in
      let wrong : ◌≡◌ {A = List MessageView} (read.m ∷ read.rest) [] = read.all in absurd (cc)
  appended (m ∷ these) templates count offset (b ∷ bytes) e follow =
      let front : List ℕ = b ∷ bytes in
      let read = begin templates count offset front (m ∷ these) (omega arith) e in
      let same : (read.m ≡ m) × (read.rest ≡ these) = let whole : read.m ∷ read.rest ≡ m ∷ these = read.all in (cc, cc) in
      let now = after_message templates read.m in
      let at = offset + (length front - length read.after) in
      let others : messages_from now (count + 1) at (read.after ++ back) ≡ Ok (these ++ those) =
      appended these now (count + 1) at read.after (read.others ∙ ap fine same.1) (λ now at. ap (λ (n : ℕ). messages_from now n at back) (omega arith) ∙ follow now at) in
      first_message_and_rest templates count offset (front ++ back) (read.after ++ back) read.m (longer_message templates count offset front read.m read.after read.first back)
      ∙ ap (λ (at : ℕ). after_items (read.m ∷ []) (messages_from now (count + 1) at (read.after ++ back))) (omega (arith, length-append front back, length-append read.after back))
      ∙ ap (after_items (read.m ∷ [])) others
      ∙ ap (λ (x : MessageView). fine (x ∷ (these ++ those))) same.0

pub file_after_file : FileAfterFile
file_after_file first second read alone most =
    appended second.1 second.0 first.1 no_templates 0 0 first.0 read
    (λ now at. same_messages no_templates now 0 (0 + length first.1) 0 at second.0 second.1 (λ d i t none. absurd (cc)) (omega (arith, most)) alone.1 alone.0)

-- ---- any number of Files

alone-append : (these those : List MessageView) → Alone these → Alone those → Alone (these ++ those)
alone-append these those alone more = list_any-append lacks these those ∙ or_from (list_any lacks these) (list_any lacks those) alone more

-- the joined later Files are self-contained
later_alone : (later : List File) → AllByRecursion IsSelfContained later → length (joined later).1 ≤ 4294967295 → IsSelfContained (joined later)
later_alone [] all most = (refl, refl)
later_alone (file ∷ later) all most =
    let both = length-append file.1 (joined later).1 in
    let rest = later_alone later all.1 (omega (arith, both, most)) in (
      file_after_file file (joined later) all.0.0 rest (omega (arith, both, most)),
      alone-append file.1 (joined later).1 all.0.1 rest.1,
    )

pub joined_file_is_read : JoinedFileIsRead
joined_file_is_read first later follow =
    let both = length-append first.1 (joined later).1 in
    let rest = later_alone later (recursion_from_All IsSelfContained later follow.alone) (omega (arith, both, follow.most)) in
    file_after_file first (joined later) follow.reads rest (omega (arith, both, follow.most))
