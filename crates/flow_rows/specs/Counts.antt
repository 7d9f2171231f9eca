use Rattle.std.specs.Prelude.{List, [], ◌∷◌, ℕ, ◌+◌, ◌==◌, Bool, true, false, length, count_by}
use Rattle.std.specs.List.{flat_map}
use Rattle.ipfix_templates.specs.declared.event.TemplateEvent.{TemplateEvent}
use Rattle.ipfix_templates.specs.declared.kind.Kind.{Kind}
use Rattle.ipfix_templates.specs.declared.kind.Kind.TheVariants.{Flow, Options}
use Rattle.ipfix_templates.specs.declared.event.TemplateEvent.TheVariants.{Define}
use Rattle.ipfix_templates.specs.Template.{same_kind}
use Rattle.ipfix_read.specs.declared.record.Record.{Record}
use Rattle.ipfix_read.specs.declared.set.Set.{Set}
use Rattle.ipfix_read.specs.declared.set.Set.TheVariants.{Values, Skipped}
use Rattle.ipfix_read.specs.Message.{MessageView}
use Rattle.flow_rows.specs.Elements.{RowView, rows_of_record}
use Rattle.flow_rows.specs.declared.counts.Counts.{Counts}
use Rattle.flow_rows.specs.declared.message_counts.MessageCounts.{MessageCounts}
use Rattle.ipfix_read.specs.Set.{events_in}

-- The contents of the sets of messages, in order.

-- the template events of sets
abbrev pub events_of : List Set → List TemplateEvent
events_of sets = flat_map events_in sets

-- the data records of a set, and of sets
abbrev pub records_in : Set → List Record
records_in (Values kind records) = records
records_in _ = []

abbrev pub records_of : List Set → List Record
records_of sets = flat_map records_in sets

-- the rows of sets
abbrev pub rows_of_sets : List Set → List RowView
rows_of_sets sets = flat_map rows_of_record (records_of sets)

-- the sets of messages
abbrev pub sets_of : List MessageView → List Set
sets_of messages = flat_map (λ message. message.sets) messages

-- the rows of messages
abbrev pub rows_of_messages : List MessageView → List RowView
rows_of_messages messages = rows_of_sets (sets_of messages)

-- The counts of messages.

-- whether the event defines a template of the kind
abbrev pub defines : Kind → TemplateEvent → Bool
defines kind (Define template) = same_kind template.kind kind
defines kind _ = false

-- whether the event withdraws one template, or all of a kind
abbrev pub is_withdrawal : TemplateEvent → Bool
is_withdrawal (Define template) = false
is_withdrawal _ = true

-- whether the set is a data set under a template in force
abbrev pub is_data_set : Set → Bool
is_data_set (Values kind records) = true
is_data_set _ = false

-- whether the set is skipped
abbrev pub is_skipped : Set → Bool
is_skipped (Skipped id) = true
is_skipped _ = false

-- the counts of `messages` messages with these sets: definitions of templates of each kind, withdrawals, data sets and
-- skipped sets, records of each kind, and rows
abbrev pub counts_in : ℕ → List Set → List ℕ
counts_in messages sets =
    messages ∷ count_by (defines Flow) (events_of sets)
    ∷ count_by (defines Options) (events_of sets)
    ∷ count_by is_withdrawal (events_of sets) ∷ count_by is_data_set sets ∷ count_by is_skipped sets
    ∷ count_by (λ r. same_kind r.kind Flow) (records_of sets)
    ∷ count_by (λ r. same_kind r.kind Options) (records_of sets)
    ∷ length (rows_of_sets sets) ∷ []

-- the counts of messages
abbrev pub counts_of : List MessageView → List ℕ
counts_of messages = counts_in (length messages) (sets_of messages)

-- whether the row has no bytes: their number is 0 or missing
abbrev pub has_no_bytes : RowView → Bool
has_no_bytes row = row.octets == 0

-- the counts of one message with these sets: definitions of templates of either kind, skipped
-- sets, records of each kind, rows, and rows without bytes
abbrev pub message_counts : List Set → List ℕ
message_counts sets =
    (count_by (defines Flow) (events_of sets) + count_by (defines Options) (events_of sets))
    ∷ count_by is_skipped sets
    ∷ count_by (λ r. same_kind r.kind Flow) (records_of sets)
    ∷ count_by (λ r. same_kind r.kind Options) (records_of sets)
    ∷ length (rows_of_sets sets) ∷ count_by has_no_bytes (rows_of_sets sets) ∷ []

-- Below: only contracts of parts and proofs use these; no promise of the program rests on them.

-- the nine numbers, in the order in which `info` prints them
abbrev pub count_list : Counts → List ℕ
count_list c =
    c.messages ∷ c.templates ∷ c.options_templates ∷ c.withdrawals ∷ c.data_sets ∷ c.skipped_sets ∷ c.records
    ∷ c.options_records ∷ c.rows ∷ []

-- the six numbers of a message
abbrev pub message_count_list : MessageCounts → List ℕ
message_count_list c =
    c.definitions ∷ c.skipped_sets ∷ c.records ∷ c.options_records ∷ c.rows ∷ c.zero_bytes ∷ []

-- the sum of all counts
abbrev pub total : Counts → ℕ
total c =
    c.templates + c.options_templates + c.withdrawals + c.data_sets + c.skipped_sets + c.records
    + c.options_records + c.rows
