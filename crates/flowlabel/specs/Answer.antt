use Rattle.std.specs.Prelude.{◌≡◌, ◌==◌, ◌&&◌, ◌||◌, ◌∷◌, [], Bool, not, true, false, List, codes}
use Rattle.std.specs.Prelude.{Option, None, Result, Ok, Err, if◌then◌else◌, is_none, ok_or}
use Rattle.std.specs.Str.{bytes_eq}
use Rattle.prefix_keys.specs.Text.{address_of}
use Rattle.pmap_model.specs.Steps.{◌>>=◌}
use Rattle.flow_filter.specs.Condition.{condition_needs_labels}
use Rattle.flow_uniq.specs.Key.{fields_need_labels}
use Rattle.clap.specs.Words.{Row}
use Rattle.flowlabel.specs.Definition.{flowlabel_app}
use Rattle.flowlabel.specs.Request.{Command, Request, Shrunk, request_of, cat}
use Rattle.flowlabel.specs.Request.{check, info, label, recert, rows, shrink, uniq}
use Rattle.flow_files.specs.Sources.{FromMap, LabelSource, Text}
use Rattle.flowlabel.specs.declared.command.Shrunk.TheVariants as shrunk
use Rattle.flow_files.specs.Answer.{AreAnswered, AreFaulty, AreParsed, IsUnlessMemory, condition_in_rows}
use Rattle.flow_files.specs.Answer.{fields_in_rows, is_given, sources_in_rows, text_in_rows}
use Rattle.flow_files.specs.declared.usage.UsageFault.TheVariants.{BadAddress, CompactAlone, LabelNeedsMap, MapMissing}
use Rattle.flow_files.specs.declared.usage.UsageFault.{UsageFault}

-- The answer to a command line.

-- a request, or a usage fault that the program itself finds
abbrev pub Answer : Type 0
Answer = Result Request UsageFault

-- the answer for `label`, by the entries that clap finds for it; the faults of the source come first
abbrev pub answer_of_label : List Row → Answer
answer_of_label entries =
    sources_in_rows entries >>= (λ found. ok_or found MapMissing >>= (λ labels.
    ok_or (address_of (text_in_rows (codes "address") entries)) BadAddress >>= (λ address.
    Ok (label labels address))))

-- the request, or a fault if it needs labels and has no source of them
abbrev pub with_labels : Bool → Option LabelSource → Request → Answer
with_labels needed source request =
    if needed && is_none source then Err LabelNeedsMap else Ok request

abbrev pub answer_of_rows : List Row → Answer
answer_of_rows entries =
    sources_in_rows entries >>= (λ source. condition_in_rows entries >>= (λ condition.
    with_labels (condition_needs_labels condition) source
    (rows source condition (is_given (codes "columns") entries)
    (text_in_rows (codes "flows") entries))))

abbrev pub answer_of_uniq : List Row → Answer
answer_of_uniq entries =
    sources_in_rows entries >>= (λ source. condition_in_rows entries >>= (λ condition.
    fields_in_rows entries >>= (λ fields.
    with_labels (condition_needs_labels condition || fields_need_labels fields) source
    (uniq fields source condition (is_given (codes "sort-output") entries)
    (is_given (codes "columns") entries) (text_in_rows (codes "flows") entries)))))

abbrev pub answer_of_cat : List Row → Answer
answer_of_cat entries =
    sources_in_rows entries >>= (λ found. ok_or found MapMissing >>= (λ labels. Ok (cat labels)))

-- what `shrink` prints, by whether `--certificate` and `--compact` are given: a list has no compact form
abbrev pub shrunk_asked : Bool → Bool → Result Shrunk UsageFault
shrunk_asked false false = Ok shrunk.List
shrunk_asked true false = Ok shrunk.Certificate
shrunk_asked true true = Ok shrunk.Compact
shrunk_asked false true = Err CompactAlone

abbrev pub answer_of_shrink : List Row → Answer
answer_of_shrink entries =
    shrunk_asked (is_given (codes "certificate") entries) (is_given (codes "compact") entries)
    >>= (λ printed. Ok (shrink (text_in_rows (codes "pmap") entries) printed))

-- the answer for a subcommand, by its name and its entries
abbrev pub answer_of : Text × List Row → Answer
answer_of found =
    if bytes_eq found.0 (codes "info") then Ok (info (text_in_rows (codes "flows") found.1))
    else if bytes_eq found.0 (codes "rows") then answer_of_rows found.1
    else if bytes_eq found.0 (codes "uniq") then answer_of_uniq found.1
    else if bytes_eq found.0 (codes "cat") then answer_of_cat found.1
    else if bytes_eq found.0 (codes "shrink") then answer_of_shrink found.1
    else if bytes_eq found.0 (codes "check")
    then Ok (check (text_in_rows (codes "pmap") found.1) (text_in_rows (codes "list") found.1)
    (text_in_rows (codes "cert") found.1))
    else if bytes_eq found.0 (codes "recert") then Ok (recert (text_in_rows (codes "cert") found.1))
    else answer_of_label found.1

-- clap takes the words, and this is the answer to them
abbrev pub Answers : List Text → Answer → Type 0
Answers words answer = AreAnswered flowlabel_app answer_of words answer

-- what a fault says about the words
abbrev pub IsFaultAt : List Text → UsageFault → Type 0
IsFaultAt words fault = AreFaulty flowlabel_app answer_of words fault

-- the result is what the words ask for
abbrev pub IsAnswer : List Text → Result Command UsageFault → Type 0
IsAnswer words result = AreParsed flowlabel_app answer_of request_of words result

-- Below: only contracts of parts and proofs use these; no promise of the program rests on them.

-- whether a word is no option: it doesn't begin with a hyphen
abbrev pub is_plain_word : Text → Bool
is_plain_word [] = true
is_plain_word (x ∷ xs) = not (x == 45)

-- a result that is what the words ask for is their answer, or out of memory
abbrev pub HaveOneAnswer : Type 0
HaveOneAnswer = (words : List Text) (answer : Answer) (result : Result Command UsageFault)
    → Answers words answer → IsAnswer words result → IsUnlessMemory request_of answer result

-- Three lines as examples: the answer to `label --pmap MAP ADDRESS` is its map and its address, `rows --columns FILE`
-- asks for columns, and `shrink --pmap FILE --compact` lacks `--certificate`.
pub record LinesHaveAnswers (program : Text) : Type 0 where
  pub label_line : (map address : Text) → is_plain_word map ≡ true → is_plain_word address ≡ true
      → Answers (program ∷ codes "label" ∷ codes "--pmap" ∷ map ∷ address ∷ [])
      (ok_or (address_of address) BadAddress >>= (λ found. Ok (label (FromMap map) found)))
  pub rows_line : (file : Text) → is_plain_word file ≡ true
      → Answers (program ∷ codes "rows" ∷ codes "--columns" ∷ file ∷ [])
      (condition_in_rows [] >>= (λ condition. Ok (rows None condition true file)))
  pub shrink_line : (file : Text) → is_plain_word file ≡ true
      → Answers (program ∷ codes "shrink" ∷ codes "--pmap" ∷ file ∷ codes "--compact" ∷ []) (Err CompactAlone)
