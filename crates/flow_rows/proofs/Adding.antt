-- The counts and rows of messages that follow others.
use Rattle.std.proofs.Common.{◌≡◌, ◌∙◌, ◌+◌, ◌++◌, [], ◌∷◌, ℕ, Bool, false, cond, List, refl, arith, ap, append_assoc, length, length-append, map, sym}
use Rattle.std.specs.Prelude.{count_by, fold}
use Rattle.std.specs.List.{flat_map, list_any}
use Rattle.std.proofs.lemmas.List.{append-nil, map-id}
use Rattle.std.proofs.lemmas.List.Concat.{flat_map-append, flat_map_single}
use Rattle.std.proofs.lemmas.List.Sums.{sum_by-append, sum_by-cons}
use Rattle.ipfix_templates.specs.Template.{same_kind}
use Rattle.ipfix_templates.specs.declared.kind.Kind.TheVariants.{Flow, Options}
use Rattle.ipfix_read.specs.Set.{events_in}
use Rattle.ipfix_read.specs.declared.record.Record.{Record}
use Rattle.ipfix_read.specs.declared.set.Set.{Set}
use Rattle.ipfix_read.specs.declared.set.Set.TheVariants.{Skipped, Templates, Values}
use Rattle.ipfix_read.specs.Message.{MessageView}
use Rattle.ipfix_read.specs.Laws.{File, lacks_template}
use Rattle.ipfix_read.proofs.Following.{joined_file_is_read}
use Rattle.flow_rows.specs.Elements.{RowView, rows_of_record}
use Rattle.flow_rows.specs.Counts.{counts_in, counts_of, defines, events_of, has_no_bytes, is_data_set, is_skipped, is_withdrawal, message_counts, records_in, records_of, rows_of_messages, rows_of_sets, sets_of}
use Rattle.flow_rows.specs.Laws.{JoinedFileAddsUp, NoneSkipped, summed_counts, summed_message_counts, sums, sums_of_lines}

count-append : {X : Type 0} (p : X → Bool) (xs ys : List X) → count_by p (xs ++ ys) ≡ count_by p xs + count_by p ys
count-append p = sum_by-append (λ x. cond (p x) 1 0)

-- the rows of sets, and a count of what sets have
rows-append : (xs ys : List Set) → rows_of_sets (xs ++ ys) ≡ rows_of_sets xs ++ rows_of_sets ys
rows-append xs ys =
    ap (flat_map rows_of_record) (flat_map-append records_in xs ys) ∙ flat_map-append rows_of_record (records_of xs) (records_of ys)

-- the rows of one more set
pub more-rows : (p : RowView → Bool) (sets : List Set) (set : Set)
    → count_by p (rows_of_sets (sets ++ set ∷ [])) ≡ count_by p (rows_of_sets sets) + count_by p (flat_map rows_of_record (records_in set))
more-rows p sets set =
    ap (count_by p)
    (rows-append sets (set ∷ []) ∙ ap (λ (records : List Record). rows_of_sets sets ++ flat_map rows_of_record records) (append-nil (records_in set)))
    ∙ count-append p (rows_of_sets sets) (flat_map rows_of_record (records_in set))

has-append : {X : Type 0} (p : X → Bool) (has : Set → List X) (xs ys : List Set)
    → count_by p (flat_map has (xs ++ ys)) ≡ count_by p (flat_map has xs) + count_by p (flat_map has ys)
has-append p has xs ys = ap (count_by p) (flat_map-append has xs ys) ∙ count-append p (flat_map has xs) (flat_map has ys)

sets-append : (front back : List MessageView) → sets_of (front ++ back) ≡ sets_of front ++ sets_of back
sets-append front back = flat_map-append (λ (message : MessageView). message.sets) front back

pub messages-rows : (front back : List MessageView) → rows_of_messages (front ++ back) ≡ rows_of_messages front ++ rows_of_messages back
messages-rows front back = ap rows_of_sets (sets-append front back) ∙ rows-append (sets_of front) (sets_of back)

pub counts-append : (front back : List MessageView) → counts_of (front ++ back) ≡ sums (counts_of front) (counts_of back)
counts-append front back =
    let xs : List Set = sets_of front in
    let ys : List Set = sets_of back in
    ap (counts_in (length (front ++ back))) (sets-append front back)
    ∙ (λ i.
    length-append front back i
    ∷ has-append (defines Flow) events_in xs ys i
    ∷ has-append (defines Options) events_in xs ys i
    ∷ has-append is_withdrawal events_in xs ys i
    ∷ count-append is_data_set xs ys i
    ∷ count-append is_skipped xs ys i
    ∷ has-append (λ r. same_kind r.kind Flow) records_in xs ys i
    ∷ has-append (λ r. same_kind r.kind Options) records_in xs ys i
    ∷ (ap length (rows-append xs ys) ∙ length-append (rows_of_sets xs) (rows_of_sets ys)) i
    ∷ [])

-- messages in parts
module _ {X : Type 0} (part : X → List MessageView) where
  counts-parts : (front : List MessageView) (xs : List X)
      → counts_of (front ++ flat_map part xs) ≡ fold sums (counts_of front) (map (λ x. counts_of (part x)) xs)
  counts-parts front [] = ap counts_of (append-nil front)
  counts-parts front (x ∷ xs) =
      ap counts_of (sym (append_assoc front (part x) (flat_map part xs))) ∙ counts-parts (front ++ part x) xs
      ∙ ap (λ (counts : List ℕ). fold sums counts (map (λ x. counts_of (part x)) xs)) (counts-append front (part x))

  rows-parts : (xs : List X) → rows_of_messages (flat_map part xs) ≡ flat_map (λ x. rows_of_messages (part x)) xs
  rows-parts [] = refl
  rows-parts (x ∷ xs) = messages-rows (part x) (flat_map part xs) ∙ ap (λ rows. rows_of_messages (part x) ++ rows) (rows-parts xs)

pub counts-each : (messages : List MessageView) → counts_of messages ≡ summed_counts messages
counts-each messages =
    ap counts_of (sym (flat_map_single (λ (m : MessageView). m) messages ∙ map-id messages)) ∙ counts-parts (λ m. m ∷ []) [] messages

-- the counts of each message that lines show
message_counts-append : (xs ys : List Set) → message_counts (xs ++ ys) ≡ sums (message_counts xs) (message_counts ys)
message_counts-append xs ys = λ i.
    both i
    ∷ count-append is_skipped xs ys i
    ∷ has-append (λ r. same_kind r.kind Flow) records_in xs ys i
    ∷ has-append (λ r. same_kind r.kind Options) records_in xs ys i
    ∷ (ap length (rows-append xs ys) ∙ length-append (rows_of_sets xs) (rows_of_sets ys)) i
    ∷ (ap (count_by has_no_bytes) (rows-append xs ys) ∙ count-append has_no_bytes (rows_of_sets xs) (rows_of_sets ys)) i
    ∷ []
  where
    both : count_by (defines Flow) (events_of (xs ++ ys)) + count_by (defines Options) (events_of (xs ++ ys))
        ≡ (count_by (defines Flow) (events_of xs) + count_by (defines Options) (events_of xs))
        + (count_by (defines Flow) (events_of ys) + count_by (defines Options) (events_of ys))
    both = omega (arith, has-append (defines Flow) events_in xs ys, has-append (defines Options) events_in xs ys)

message_counts-from : (front : List Set) (messages : List MessageView)
    → fold sums (message_counts front) (map (λ (m : MessageView). message_counts m.sets) messages) ≡ message_counts (front ++ sets_of messages)
message_counts-from front [] = ap message_counts (sym (append-nil front))
message_counts-from front (m ∷ messages) =
    ap (λ (counts : List ℕ). fold sums counts (map (λ (m : MessageView). message_counts m.sets) messages)) (sym (message_counts-append front m.sets))
    ∙ message_counts-from (front ++ m.sets) messages ∙ ap message_counts (append_assoc front m.sets (sets_of messages))

pub message_counts-each : (messages : List MessageView)
    → summed_message_counts messages ≡ sums_of_lines (counts_of messages) (count_by has_no_bytes (rows_of_messages messages))
message_counts-each = message_counts-from []

-- ---- Files

pub joined_file_adds_up : JoinedFileAddsUp
joined_file_adds_up first later follow = (
  joined_file_is_read first later follow,
  rows-parts (λ (file : File). file.1) (first ∷ later),
  counts-parts (λ (file : File). file.1) [] (first ∷ later),
)

-- without skipped sets no set lacks a template
sets-none : (sets : List Set) → count_by is_skipped sets ≡ 0 → list_any lacks_template sets ≡ false
sets-none [] none = refl
sets-none (Skipped id ∷ sets) none = absurd (omega (arith, sum_by-cons (λ (s : Set). cond (is_skipped s) 1 0) (Skipped id) sets, none))
sets-none (Templates kind events ∷ sets) none =
    sets-none sets (omega (arith, sum_by-cons (λ (s : Set). cond (is_skipped s) 1 0) (Templates kind events) sets, none))
sets-none (Values kind records ∷ sets) none =
    sets-none sets (omega (arith, sum_by-cons (λ (s : Set). cond (is_skipped s) 1 0) (Values kind records) sets, none))

messages-none : (messages : List MessageView) → count_by is_skipped (sets_of messages) ≡ 0
    → list_any (λ m. list_any lacks_template m.sets) messages ≡ false
messages-none [] none = refl
messages-none (m ∷ messages) none =
    let both = count-append is_skipped m.sets (sets_of messages) in
    rw (sets-none m.sets (omega (arith, both, none))) (messages-none messages (omega (arith, both, none)))

pub none_skipped : NoneSkipped
none_skipped file read none = (read, messages-none file.1 none)
