-- The readers of Files, with one more File.
use Rattle.std.proofs.Common.{◌≡◌, ◌∙◌, ◌+◌, ℕ, List, [], ◌∷◌, ◌++◌, Option, Some, None, Result, Ok, Err, false, true, suc, ap, append_assoc, arith, length, length-append, refl, map, subst, sym}
use Rattle.std.specs.Prelude.{is_some, ⊤}
use Rattle.std.specs.Option.{option_map_or}
use Rattle.std.proofs.lemmas.List.{append-nil}
use Rattle.pmap_model.specs.Steps.{◌>>=◌}
use Rattle.flow_io.specs.Devices.{InputView, ReadsInput}
use Rattle.flow_files.proofs.ReadLemmas.{may_have}
use Rattle.ipfix_read.specs.Messages.{StopsReading}
use Rattle.flow_files.specs.Opening.{IsOpened}
use Rattle.flow_files.specs.Readers.{IsFaultFor, MayHave, view_of}
use Rattle.flow_files.specs.declared.inputs.Source.{Source}
use Rattle.flow_files.specs.Reports.{ReadsInto}
use Rattle.flow_files.specs.Sources.{Text}
use Rattle.flow_files.specs.declared.bytes_fault.BytesFault.{BytesFault}
use Rattle.flow_files.specs.declared.fault.RunFault.{RunFault}
use Rattle.flow_files.specs.declared.fault.RunFault.TheVariants.{CannotOpen, CannotRead, File, NoMemory}
use Rattle.flow_many.specs.Files.{Placed, Refusal, files_reading, first_refusal, of_file, one_reading}
use Rattle.flow_many.specs.Reading.{EndsFile, count_in}
use Rattle.flow_many.specs.Run.{AreSound, HaveTexts, IsFaultOfFiles, WasRead, WereRead}
use Rattle.flow_many.proofs.FilesLemmas.{files_more}

module _ {R : Type 0} (answers : Text → Option R → Type 0) (input : R → InputView) where
  pub readers_more : (names : List Text) (readers : List (R × R)) (name : Text) (opened last : R) → WereRead answers input names readers
      → WasRead answers input name opened last → (input last).failed ≡ false
      → WereRead answers input (names ++ name ∷ []) (readers ++ (opened, last) ∷ [])
  readers_more [] [] name opened last were was works = (was, works, tt)
  readers_more (n ∷ names) (r ∷ readers) name opened last were was works = (were.0, were.1, readers_more names readers name opened last were.2 was works)
  readers_more [] (r ∷ readers) name opened last were was works = absurd were
  readers_more (n ∷ names) [] name opened last were was works = absurd were

  -- texts of Files and one more are texts of the Files, and a text of the last one
  pub record AreSplit (readers : List (R × R)) (last : R) (texts : List Text) : Type 0 where
    pub earlier : List Text
    pub text : Text
    pub are : texts ≡ earlier ++ text ∷ []
    pub have : HaveTexts answers input readers earlier
    pub has : MayHave (input last) text

  pub texts_split : (readers : List (R × R)) (opened last : R) (texts : List Text) → HaveTexts answers input (readers ++ (opened, last) ∷ []) texts
      → AreSplit readers last texts
  texts_split [] opened last (text ∷ []) have = record { earlier = []; text = text; are = refl; have = tt; has = have.0 }
  texts_split [] opened last [] have = absurd have
  texts_split [] opened last (text ∷ t ∷ texts) have = absurd have.1
  texts_split (r ∷ readers) opened last (text ∷ texts) have =
      let rest = texts_split readers opened last texts have.1 in record {
        earlier = text ∷ rest.earlier;
        text = rest.text;
        are = ap (λ (ts : List Text). text ∷ ts) rest.are;
        have = (have.0, rest.have);
        has = rest.has;
      }
  texts_split (r ∷ readers) opened last [] have = absurd have

  -- there are as many texts as Files
  same_number : (readers : List (R × R)) (texts : List Text) → HaveTexts answers input readers texts → length texts ≡ length readers
  same_number [] [] have = refl
  same_number (r ∷ readers) (text ∷ texts) have = ap suc (same_number readers texts have.1)
  same_number [] (text ∷ texts) have = absurd have
  same_number (r ∷ readers) [] have = absurd have

  -- Files that were read have texts: the bytes that reads have returned
  pub some_texts : (readers : List (R × R)) → HaveTexts answers input readers (map (λ r. (input r.1).returned) readers)
  some_texts [] = tt
  some_texts (r ∷ readers) = (may_have (input r.1), some_texts readers)

  -- a File that was opened and read
  pub record IsFile (name : Text) (new : Option (Source R)) : Type 0 where
    pub opened : R
    pub last : R
    pub was : WasRead answers input name opened last
    pub view : view_of input new ≡ input last

  pub file_was_read : (name : Text) (old new : Option (Source R)) → IsOpened answers (Some name) old → (view_of input old).returned ≡ []
      → is_some new ≡ is_some old → ReadsInput (view_of input old) (view_of input new) (λ _. ⊤) → IsFile name new
  file_was_read name (Some source) (Some source') opened unread there reads = record {
    opened = source.reader;
    last = source'.reader;
    was = record { answered = opened.1; unread = unread; read = reads };
    view = refl;
  }
  file_was_read name None new opened unread there reads = absurd opened
  file_was_read name (Some source) None opened unread there reads = cc

  name_is : (name : Text) (old : Option (Source R)) → IsOpened answers (Some name) old → option_map_or (λ (source : Source R). source.name.now) old [] ≡ name
  name_is name (Some source) opened = opened.0
  name_is name None opened = absurd opened

  module _ {T : Type 0} (refusal : T → Refusal) (has_files : T → List (List Placed) → T → Type 0) (has_messages : T → List Placed → T → Type 0)
      (name : Text) (before after : T) (old new : Option (Source R)) (opened : IsOpened answers (Some name) old) (file : IsFile name new) where
    -- a File that can't be read whole, or whose bytes have a fault
    pub read_fails : (fault : RunFault) → {is : List Placed → Unit {0} → Type 0} → ReadsInto input is old new (Err fault)
        → EndsFile answers input refusal has_files has_messages name before after (Err fault)
    read_fails NoMemory reads = tt
    read_fails (CannotRead f) reads = (
      reads.gives.1 ∙ name_is name old opened,
      file.opened,
      file.last,
      file.was,
      ap (λ (v : InputView). v.failed) (sym file.view) ∙ reads.gives.0,
      subst (λ (v : InputView). StopsReading v.returned) file.view reads.gives.2,
    )
    read_fails (File f fault) reads = (
      reads.gives.1 ∙ name_is name old opened,
      file.opened,
      file.last,
      file.was,
      ap (λ (v : InputView). v.failed) (sym file.view) ∙ reads.gives.0,
      λ first files has text may.
          ap (λ (r : Result (List Placed) BytesFault). r >>= (λ messages.
          option_map_or (λ fault. Err fault) (first_refusal (refusal first) (count_in files) messages) (Ok messages)))
          (reads.gives.2 text (subst (λ (v : InputView). MayHave v text) (sym file.view) may)),
    )
    read_fails fault reads = absurd reads.gives

    -- a File whose messages have a fault
    pub refused : (fault : BytesFault) (made : RunFault) → IsFaultFor name fault made → (view_of input new).failed ≡ false
        → ((first : T) (files : List (List Placed)) → has_files first files before → (text : Text) → MayHave (view_of input new) text
        → one_reading (refusal first) (count_in files) text ≡ Err fault)
        → EndsFile answers input refusal has_files has_messages name before after (Err made)
    refused fault NoMemory is works faulty = tt
    refused fault (File f other) is works faulty = (
      is.0,
      file.opened,
      file.last,
      file.was,
      ap (λ (v : InputView). v.failed) (sym file.view) ∙ works,
      λ first files has text may. faulty first files has text (subst (λ (v : InputView). MayHave v text) (sym file.view) may) ∙ ap Err (sym is.1),
    )
    refused fault made is works faulty = absurd is

  -- the Files that were read so far, and the names of the others
  pub record AreSoFar (refusal : Refusal) (has : List (List Placed) → Type 0) (names left : List Text) : Type 0 where
    pub done : List Text
    pub split : names ≡ done ++ left
    pub readers : List (R × R)
    pub were : WereRead answers input done readers
    pub sound : (texts : List Text) → HaveTexts answers input readers texts
        → (files : List (List Placed)) × (files_reading refusal texts ≡ Ok files) × has files

  -- no File was read
  pub none_so_far : (refusal : Refusal) (has : List (List Placed) → Type 0) (names : List Text) → has [] → AreSoFar refusal has names names
  none_so_far refusal has names none = record {
    done = [];
    split = refl;
    readers = [];
    were = tt;
    sound = λ texts have. elim texts as (λ (ts : List Text). HaveTexts answers input [] ts → (files : List (List Placed)) × (files_reading refusal ts ≡ Ok files) × has files)
        [ [] ↦ λ h. ([], refl, none) | t ∷ ts ↦ λ h. absurd h ] have;
  }

  -- there are Files that may have been read
  pub some_files : (refusal : Refusal) (has : List (List Placed) → Type 0) (names left : List Text) → AreSoFar refusal has names left
      → (files : List (List Placed)) × has files
  some_files refusal has names left so_far =
      let (files, reads, are) = so_far.sound (map (λ r. (input r.1).returned) so_far.readers) (some_texts so_far.readers) in (files, are)

  -- all Files were read
  pub all_so_far : (refusal : Refusal) (has : List (List Placed) → Type 0) (names : List Text) → AreSoFar refusal has names []
      → (readers : List (R × R)) × WereRead answers input names readers
      × ((texts : List Text) → HaveTexts answers input readers texts → (files : List (List Placed)) × (files_reading refusal texts ≡ Ok files) × has files)
  all_so_far refusal has names so_far = (
    so_far.readers,
    subst (λ (ns : List Text). WereRead answers input ns so_far.readers) (sym (so_far.split ∙ append-nil so_far.done)) so_far.were,
    so_far.sound,
  )

  module _ {T : Type 0} (refusal : T → Refusal) (has_files : T → List (List Placed) → T → Type 0) (has_messages : T → List Placed → T → Type 0)
      (first before after : T) (count : ℕ) (names : List Text) (name : Text) (left : List Text)
      (so_far : AreSoFar (refusal first) (λ files. has_files first files before × has_messages before [] before × (length files ≡ count)) names (name ∷ left)) where
    -- one more File was read
    pub one_more : EndsFile answers input refusal has_files has_messages name before after (Ok tt)
        → AreSoFar (refusal first) (λ files. has_files first files after × has_messages after [] after × (length files ≡ count + 1)) names left
    one_more (opened, last, was, works, adds) = record {
      done = so_far.done ++ name ∷ [];
      split = so_far.split ∙ sym (append_assoc so_far.done (name ∷ []) left);
      readers = so_far.readers ++ (opened, last) ∷ [];
      were = readers_more so_far.done so_far.readers name opened last so_far.were was works;
      sound = λ texts have.
          let parts = texts_split so_far.readers opened last texts have in
          let (files, reads, has) = so_far.sound parts.earlier parts.have in
          let (messages, one, has', ready) = adds first files has.0 parts.text parts.has in (
            files ++ messages ∷ [],
            ap (files_reading (refusal first)) parts.are ∙ files_more (refusal first) 1 0 parts.earlier files parts.text reads
                ∙ ap (λ (r : Result (List Placed) BytesFault). of_file (1 + length parts.earlier) r >>= (λ last. Ok (files ++ last ∷ [])))
                (ap (λ n. one_reading (refusal first) n parts.text) (omega arith) ∙ one),
            (has', ready, omega (arith, length-append files (messages ∷ []), has.2)),
          );
    }

    -- the Files before the next one have no fault
    abbrev sound_before : AreSound answers input (refusal first) names name
    sound_before = record {
      earlier = so_far.done;
      later = left;
      split = so_far.split;
      readers = so_far.readers;
      were_read = so_far.were;
      sound = λ texts have. let (files, reads, has) = so_far.sound texts have in (files, reads);
    }

    -- the next File has a fault
    pub one_fails : (fault : RunFault) → EndsFile answers input refusal has_files has_messages name before after (Err fault)
        → IsFaultOfFiles answers input (refusal first) names fault
    one_fails NoMemory ends = tt
    one_fails (CannotOpen file) (named, answered) =
        subst (λ (n : Text). AreSound answers input (refusal first) names n × answers n None) (sym named) (sound_before, answered)
    one_fails (CannotRead file) (named, opened, last, was, failed, stops) =
        subst (λ (n : Text). AreSound answers input (refusal first) names n × (o : R) × (l : R) × WasRead answers input n o l × ((input l).failed ≡ true)
        × StopsReading (input l).returned) (sym named) (sound_before, opened, last, was, failed, stops)
    one_fails (File file fault) (named, opened, last, was, works, faulty) =
        subst (λ (n : Text). (sound : AreSound answers input (refusal first) names n) × (o : R) × (l : R) × WasRead answers input n o l
        × ((input l).failed ≡ false)
        × ((texts : List Text) (text : Text) → HaveTexts answers input sound.readers texts → MayHave (input l) text
        → files_reading (refusal first) (texts ++ text ∷ []) ≡ Err (record { file = length sound.readers + 1; fault = fault }))) (sym named) (
          sound_before,
          opened,
          last,
          was,
          works,
          λ texts text have may.
              let (files, reads, has) = so_far.sound texts have in
              files_more (refusal first) 1 0 texts files text reads
              ∙ ap (λ (r : Result (List Placed) BytesFault). of_file (1 + length texts) r >>= (λ last. Ok (files ++ last ∷ [])))
              (ap (λ n. one_reading (refusal first) n text) (omega arith) ∙ faulty first files has.0 text may)
              ∙ ap (λ n. Err (record { file = n; fault = fault })) (omega (arith, same_number so_far.readers texts have)),
        )
    one_fails fault ends = absurd ends
