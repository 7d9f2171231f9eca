use Rattle.std.specs.Prelude.{ℕ, Bool, List, [], ◌∷◌, Result, Ok, Err, codes}
use Rattle.std.specs.List.{list_any}
use Rattle.ipfix_templates.specs.Elements.{fits}
use Rattle.ipfix_templates.specs.Reading.{definition_at, field_at, fields_at, template_record_at}
use Rattle.ipfix_read.specs.Laws.{lacks_template}
use Rattle.ipfix_read.specs.Message.{MessageView}
use Rattle.ipfix_read.specs.Messages.{file_reading}
use Rattle.ipfix_read.specs.Value.{value_at, values_at}
use Rattle.ipfix_read.specs.declared.fault.ReadFault.{ReadFault}
use Rattle.ipfix_read.specs.declared.fault.ReadFaultKind.{ReadFaultKind}
use Rattle.flow_rows.specs.Counts.{counts_of, rows_of_messages}
use Rattle.flow_rows.specs.Elements.{RowView}
use Rattle.ipfix_templates.specs.declared.template.Template.{Template}
use Rattle.ipfix_templates.specs.declared.event.TemplateEvent.TheVariants.{Define}
use Rattle.ipfix_templates.specs.declared.kind.Kind.TheVariants.{Flow, Options}
use Rattle.ipfix_read.specs.declared.record.Record.{Record}
use Rattle.ipfix_read.specs.declared.set.Set.TheVariants.{Templates, Values}
use Rattle.definition_examples.specs.Rows.{field, hex, value}

-- What examples ask of IPFIX Files.

-- Unfolds the opaque definitions on which the reading of Files rests.
unfoldable pub opened : List ℕ → Result (List MessageView) ReadFault
unfolding definition_at field_at fields_at fits template_record_at value_at values_at
opened bytes = file_reading bytes

-- something of the messages of a File
abbrev pub of_messages : {A : Type 0} → (List MessageView → A) → Result (List MessageView) ReadFault
    → Result A ReadFault
of_messages part (Ok messages) = Ok (part messages)
of_messages part (Err fault) = Err fault

-- the counts, and the rows, of a File given in hexadecimal
abbrev pub counts : List ℕ → Result (List ℕ) ReadFault
counts text = of_messages counts_of (file_reading (hex text))

abbrev pub rows : List ℕ → Result (List RowView) ReadFault
rows text = of_messages rows_of_messages (file_reading (hex text))

-- whether a data set of a File lacks a template
abbrev pub lacks : List ℕ → Result Bool ReadFault
lacks text = of_messages (λ messages. list_any (λ m. list_any lacks_template m.sets) messages) (file_reading (hex text))

-- the fault at an offset
abbrev pub at_offset : ReadFaultKind → ℕ → ReadFault
at_offset kind offset = record { kind = kind; offset = offset }

-- the message of RFC 7011, appendix A, and what it contains
abbrev pub rfc_message : List ℕ
rfc_message = hex (codes "000a0098 00000000 00000000 00000001 0002001c 01000005 00080004 000c0004 000f0004 00020004 00010004 01000040 c000020c c00002fe c0000201 00001391 00518c81 c000021b c0000217 c0000202 000002ec 0005ef46 c0000238 c0000241 c0000203 00000005 00001986 00030018 01010003 0001008d 00040029 0002002a 00020000 01010014 00000001 015927d9 00000002 02b24fb2")

abbrev pub rfc_flow_template : Template
rfc_flow_template =
    record {
      id = 256;
      kind = Flow;
      scope_count = 0;
      fields = field 8 4 ∷ field 12 4 ∷ field 15 4 ∷ field 2 4 ∷ field 1 4 ∷ [];
    }

abbrev pub rfc_options_template : Template
rfc_options_template =
    record { id = 257; kind = Options; scope_count = 1; fields = field 141 4 ∷ field 41 2 ∷ field 42 2 ∷ [] }

abbrev pub rfc_flow : List ℕ → List ℕ → List ℕ → List ℕ → List ℕ → Record
rfc_flow src dst hop packets octets =
    record { kind = Flow; fields = value 8 src ∷ value 12 dst ∷ value 15 hop ∷ value 2 packets ∷ value 1 octets ∷ [] }

abbrev pub rfc_card : List ℕ → List ℕ → List ℕ → Record
rfc_card card messages flows =
    record { kind = Options; fields = value 141 card ∷ value 41 messages ∷ value 42 flows ∷ [] }

abbrev pub rfc_decoded : MessageView
rfc_decoded = record {
  export_time = 0;
  sequence = 0;
  domain = 1;
  sets =
      Templates Flow (Define rfc_flow_template ∷ [])
      ∷ Values Flow (
      rfc_flow (codes "c000020c") (codes "c00002fe") (codes "c0000201") (codes "00001391") (codes "00518c81")
      ∷ rfc_flow (codes "c000021b") (codes "c0000217") (codes "c0000202") (codes "000002ec") (codes "0005ef46")
      ∷ rfc_flow (codes "c0000238") (codes "c0000241") (codes "c0000203") (codes "00000005") (codes "00001986") ∷ []
      )
      ∷ Templates Options (Define rfc_options_template ∷ [])
      ∷ Values Options (
      rfc_card (codes "00000001") (codes "0159") (codes "27d9")
      ∷ rfc_card (codes "00000002") (codes "02b2") (codes "4fb2") ∷ []
      ) ∷ [];
}
