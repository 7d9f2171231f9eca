-- The sets of a message (RFC 7011 section 3.3).
use Rattle.std.specs.Prelude.{◌≡◌, ℕ, ◌+◌, List, [], ◌∷◌, length, take, drop, find, fold, Option}
use Rattle.std.specs.Prelude.{None, Result, Ok, Err, nat_lt, ◌==◌, ◌||◌, if◌then◌else◌}
use Rattle.std.specs.Option.{option_map_or}
use Rattle.std.specs.Result.{result_map_both}
use Rattle.byteorder.specs.Endian.{big_number}
use Rattle.ipfix_templates.specs.declared.event.TemplateEvent.{TemplateEvent}
use Rattle.ipfix_templates.specs.declared.fault.TemplateFaultKind.{TemplateFaultKind}
use Rattle.ipfix_templates.specs.declared.kind.Kind.{Kind}
use Rattle.ipfix_templates.specs.declared.kind.Kind.TheVariants.{Flow, Options}
use Rattle.ipfix_templates.specs.Template.{set_id}
use Rattle.ipfix_templates.specs.Reading.{items_from, template_set_reading}
use Rattle.ipfix_templates.specs.declared.table.TemplateTable.{TemplateTable}
use Rattle.ipfix_templates.specs.InForce.{InForce, after_event, template_at}
pub use Rattle.ipfix_read.specs.declared.set.Set.{Set}
pub use Rattle.ipfix_read.specs.declared.set.Set.TheVariants.{Skipped, Templates, Values}
use Rattle.ipfix_read.specs.declared.fault.ReadFault.{ReadFault}
use Rattle.ipfix_read.specs.Fault.{BadSetLength, BadTemplate, Reads}
use Rattle.ipfix_read.specs.Record.{data_set_reading}

-- the template events of a set
abbrev pub events_in : Set → List TemplateEvent
events_in (Templates kind events) = events
events_in _ = []

-- the templates in force after a set of this domain
abbrev pub after_set : ℕ → InForce → Set → InForce
after_set domain before set = fold (after_event domain) before (events_in set)

-- the kind of the templates that a set with this ID holds, if it holds templates
abbrev pub template_kind : ℕ → Option Kind
template_kind id = find (λ kind. id == set_id kind) (Flow ∷ Options ∷ [])

-- The content of a set with this ID, under the templates in force, or the first fault. Its bytes begin at this offset.
-- It consists of templates, or of records under the template in force. It is skipped if its ID has no meaning or no
-- template in force.
abbrev pub content_reading : InForce → ℕ → ℕ → ℕ → List ℕ → Result Set ReadFault
content_reading templates domain id offset bytes =
    option_map_or (λ kind. result_map_both (Templates kind)
    (λ fault. record { kind = BadTemplate fault.0; offset = offset + fault.1 })
    (template_set_reading kind bytes)) (template_kind id)
    (option_map_or (λ t. result_map_both (Values t.kind) (λ fault. fault)
    (data_set_reading t offset bytes)) (if nat_lt id 256 then None else templates domain id)
    (Ok (Skipped id)))

-- the length in a set's header, and in a message's header
abbrev pub written_length : List ℕ → ℕ
written_length bytes = big_number 2 (drop 2 bytes)

-- The set at the start of bytes at this offset, and the bytes after it, or its first fault. Its length is at least that
-- of its header and at most that of the bytes.
abbrev pub set_next : InForce → ℕ → ℕ → List ℕ → Result (Set × List ℕ) ReadFault
set_next templates domain offset bytes =
    let size = written_length bytes in
    if nat_lt size 4 || nat_lt (length bytes) size
    then Err (record { kind = BadSetLength; offset = offset })
    else result_map_both (λ set. (set, drop size bytes)) (λ fault. fault)
    (content_reading templates domain (big_number 2 bytes) (offset + 4) (drop 4 (take size bytes)))

-- the sets of a message, given the bytes after its header, which begin at this offset; or the first fault
abbrev pub sets_reading : InForce → ℕ → ℕ → List ℕ → Result (List Set) ReadFault
sets_reading templates domain offset bytes =
    items_from (λ rest. length rest == 0) (λ before. set_next before domain) (after_set domain)
    templates offset bytes

-- Below: only contracts of parts and proofs use these; no promise of the program rests on them.

-- the fault of a template set as a fault of the File; the set's records begin at this offset
abbrev pub in_file : ℕ → TemplateFaultKind × ℕ → ReadFault
in_file base fault = record { kind = BadTemplate fault.0; offset = base + fault.1 }

-- the result of reading an item under a table, and the table after the item
abbrev pub ReadsUnder : {A : Type 0} → TemplateTable → TemplateTable → (InForce → A → InForce)
    → Result A ReadFault → Result A ReadFault → Type 0
ReadsUnder old new after reading (Ok item) = Reads reading (Ok item) × (template_at new ≡ after (template_at old) item)
ReadsUnder old new after reading (Err fault) = Reads reading (Err fault)
