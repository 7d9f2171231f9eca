-- What Files are that are read without a fault.
use Rattle.std.proofs.Common.{◌≡◌, ◌∙◌, ◌+◌, ◌||◌, ℕ, Bool, true, false, List, [], ◌∷◌, ◌++◌, Option, Some, None, Result, Ok, Err, ap, length, map, refl, subst, sym}
use Rattle.std.specs.Prelude.{All, if◌then◌else◌, option_map}
use Rattle.std.specs.List.{flat_map, list_any}
use Rattle.std.specs.Option.{option_map_or, option_or}
use Rattle.std.specs.Result.{result_map_both}
use Rattle.std.proofs.lemmas.List.{map-append}
use Rattle.std.proofs.lemmas.List.Elements.{All-cons, All-map, All-nil, All-weaker}
use Rattle.std.proofs.lemmas.List.Folds.{flat_map-map, list_any-append}
use Rattle.ipfix_templates.specs.InForce.{no_templates}
use Rattle.ipfix_read.specs.Laws.{PlacedAreMessages}
use Rattle.ipfix_read.specs.Message.{MessageView}
use Rattle.ipfix_read.specs.Messages.{file_reading, messages_in, placed_messages}
use Rattle.ipfix_read.specs.declared.fault.ReadFault.{ReadFault}
use Rattle.flow_rows.specs.Counts.{is_skipped, rows_of_messages, sets_of}
use Rattle.flow_rows.proofs.Adding.{messages-rows}
use Rattle.flow_filter.specs.Condition.{Condition}
use Rattle.label_lookup.specs.Labelling.{Labelling}
use Rattle.flow_files.specs.Outcomes.{with_bytes_fault}
use Rattle.flow_files.specs.Sources.{Text}
use Rattle.flow_files.specs.declared.bytes_fault.BytesFault.{BytesFault}
use Rattle.flow_files.specs.declared.bytes_fault.BytesFault.TheVariants.{Flows as InFlows, Sum as InSum}
use Rattle.flow_files.specs.declared.bytes_fault.SumFaultKind.TheVariants.{SkippedSet, StartTooLate, TooManyRows}
use Rattle.flow_many.specs.Files.{Placed, Refusal, files_from, first_refusal, of_file, one_reading}
use Rattle.flow_many.specs.Output.{all_messages, has_skipped, refusal_by}
use Rattle.flow_many.proofs.FilesLemmas.{file_ok, first_ok, later_ok}

-- bytes without a fault, and messages none of which is refused
read_ok : (r : Result (List Placed) ReadFault) (messages : List Placed) → with_bytes_fault InFlows r ≡ Ok messages → r ≡ Ok messages
read_ok (Ok other) messages is = cc
read_ok (Err fault) messages is = cc

unless_none : (o : Option BytesFault) (messages other : List Placed) → option_map_or (λ fault. Err fault) o (Ok messages) ≡ Ok other
    → (o ≡ None) × (messages ≡ other)
unless_none None messages other is = (refl, cc)
unless_none (Some fault) messages other is = cc

one_ok : (refusal : Refusal) (before : ℕ) (text : Text) (messages : List Placed) → one_reading refusal before text ≡ Ok messages
    → (placed_messages text ≡ Ok messages) × (first_refusal refusal before messages ≡ None)
one_ok refusal before text messages is =
    let (read, reads, rest) = first_ok (with_bytes_fault InFlows (placed_messages text)) _ messages is in
    let (none, same) = unless_none (first_refusal refusal before read) read messages rest in (
      read_ok (placed_messages text) messages (reads ∙ ap Ok same),
      ap (first_refusal refusal before) (sym same) ∙ none,
    )

-- none of a File's messages is refused
abbrev pub IsAllowed : Refusal → List Placed → Type 0
IsAllowed refusal file = (before : ℕ) × (first_refusal refusal before file ≡ None)

-- each File is read, and none of its messages is refused
pub record AreRead (refusal : Refusal) (texts : List Text) (files : List (List Placed)) : Type 0 where
  pub placed : map placed_messages texts ≡ map (λ file. Ok file) files
  pub allowed : All (IsAllowed refusal) files

pub are_read : (refusal : Refusal) (number before : ℕ) (texts : List Text) (files : List (List Placed)) → files_from refusal number before texts ≡ Ok files
    → AreRead refusal texts files
are_read refusal number before [] files is =
    let none : [] ≡ files = cc in subst (AreRead refusal []) none (record { placed = refl; allowed = All-nil (IsAllowed refusal) })
are_read refusal number before (text ∷ texts) files is =
    let (m, read, rest) = first_ok (of_file number (one_reading refusal before text)) _ files is in
    let (later, reads, are) = later_ok (m ∷ []) (files_from refusal (number + 1) (before + length m) texts) files rest in
    let (placed, none) = one_ok refusal before text m (file_ok number (one_reading refusal before text) m read) in
    let tail = are_read refusal (number + 1) (before + length m) texts later reads in
    subst (AreRead refusal (text ∷ texts)) are (record {
      placed = λ i. placed i ∷ tail.placed i;
      allowed = All-cons (IsAllowed refusal) m later (before, none) tail.allowed;
    })

-- a File's messages are those with offsets
pub file_is : PlacedAreMessages → (text : Text) (messages : List Placed) → placed_messages text ≡ Ok messages → file_reading text ≡ Ok (messages_in messages)
file_is law text messages is = law no_templates 0 0 text ∙ ap (result_map_both messages_in (λ fault. fault)) is

pub files_are : PlacedAreMessages → (texts : List Text) (files : List (List Placed)) → map placed_messages texts ≡ map (λ file. Ok file) files
    → map file_reading texts ≡ map (λ file. Ok file) (map messages_in files)
files_are law [] [] is = refl
files_are law (text ∷ texts) (file ∷ files) is =
    let here : placed_messages text ≡ Ok file = cc in
    let rest : map placed_messages texts ≡ map (λ file. Ok file) files = cc in
    λ i. file_is law text file here i ∷ files_are law texts files rest i
files_are law [] (file ∷ files) is = cc
files_are law (text ∷ texts) [] is = cc

-- the messages of all Files, and their rows
pub messages_are : (files : List (List Placed)) → all_messages files ≡ flat_map messages_in files
messages_are [] = refl
messages_are (file ∷ files) = map-append (λ (m : Placed). m.1) file (flat_map (λ (f : List Placed). f) files) ∙ ap (λ ms. messages_in file ++ ms) (messages_are files)

rows_in_parts : (files : List (List Placed)) → rows_of_messages (flat_map messages_in files) ≡ flat_map (λ (file : List Placed). rows_of_messages (messages_in file)) files
rows_in_parts [] = refl
rows_in_parts (file ∷ files) = messages-rows (messages_in file) (flat_map messages_in files) ∙ ap (λ rows. rows_of_messages (messages_in file) ++ rows) (rows_in_parts files)

pub rows_are : (files : List (List Placed)) → rows_of_messages (all_messages files) ≡ flat_map rows_of_messages (map messages_in files)
rows_are files = ap rows_of_messages (messages_are files) ∙ rows_in_parts files ∙ sym (flat_map-map rows_of_messages messages_in files)

-- Files without skipped sets
none_of_two : {X : Type 0} (a b : Option X) → option_or a b ≡ None → (a ≡ None) × (b ≡ None)
none_of_two None b is = (refl, is)
none_of_two (Some x) b is = cc

not_skipped : (skipped over late : Bool) (offset : ℕ)
    → option_map (λ kind. InSum (record { kind = kind; offset = offset }))
    (if skipped then Some SkippedSet else if over then Some TooManyRows else if late then Some StartTooLate else None) ≡ None → skipped ≡ false
not_skipped true over late offset is = cc
not_skipped false over late offset is = refl

none_skipped_in : (timed : Bool) (condition : Condition) (labels : Option Labelling) (before : ℕ) (file : List Placed)
    → first_refusal (refusal_by timed condition false labels) before file ≡ None → list_any is_skipped (sets_of (messages_in file)) ≡ false
none_skipped_in timed condition labels before [] none = refl
none_skipped_in timed condition labels before (m ∷ file) none =
    let parts = none_of_two (refusal_by timed condition false labels before m) (first_refusal (refusal_by timed condition false labels) (before + 1) file) none in
    list_any-append is_skipped m.1.sets (sets_of (messages_in file))
    ∙ (λ i. not_skipped (has_skipped m.1) _ _ m.0 parts.0 i || none_skipped_in timed condition labels (before + 1) file parts.1 i)

pub none_skipped : (timed : Bool) (condition : Condition) (labels : Option Labelling) (files : List (List Placed))
    → All (IsAllowed (refusal_by timed condition false labels)) files
    → All (λ file. list_any is_skipped (sets_of file) ≡ false) (map messages_in files)
none_skipped timed condition labels files all =
    All-map (λ (file : List MessageView). list_any is_skipped (sets_of file) ≡ false) messages_in files
    (All-weaker (IsAllowed (refusal_by timed condition false labels)) (λ (file : List Placed). list_any is_skipped (sets_of (messages_in file)) ≡ false)
    (λ file allowed. none_skipped_in timed condition labels allowed.0 file allowed.1) files all)
