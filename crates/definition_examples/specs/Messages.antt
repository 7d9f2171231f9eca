use Rattle.std.specs.Prelude.{ℕ, List, [], ◌∷◌, Result, Ok, Err, codes}
use Rattle.std.specs.List.{zip}
use Rattle.ipfix_read.specs.Message.{MessageView}
use Rattle.ipfix_read.specs.Messages.{file_reading}
use Rattle.ipfix_read.specs.declared.fault.ReadFault.{ReadFault}
use Rattle.definition_examples.specs.Rows.{hex}

-- What examples ask of the messages of Files.

-- the messages of a File, with these offsets
abbrev pub at_offsets : List ℕ → Result (List MessageView) ReadFault → List (ℕ × MessageView)
at_offsets offsets (Ok messages) = zip offsets messages
at_offsets offsets (Err fault) = []

-- those of a File given in hexadecimal
abbrev pub file : List ℕ → List ℕ → List (ℕ × MessageView)
file offsets text = at_offsets offsets (file_reading (hex text))

-- two messages: one with a template and two flows, of which the second has no bytes, and one with a skipped set
abbrev pub flows : List (ℕ × MessageView)
flows =
    file (0 ∷ 64 ∷ [])
    (codes "000a0040 6553f100 00000000 00000007 00020014 01000003 00080004 000c0004 00010004 0100001c 0a000001 0a000002 00000222 0a000002 0a000001 00000000 000a0018 6553f13c 00000002 00000007 03e70008 00000000")

-- a message with a template of options and an options record
abbrev pub options : List (ℕ × MessageView)
options = file (0 ∷ []) (codes "000a0026 00000000 00000000 00000001 0003000e 010100010001 008d0004 01010008 00000001")

-- a message with a flow of both directions, of which the second has no number of bytes, and a withdrawal
abbrev pub both_directions : List (ℕ × MessageView)
both_directions =
    file (0 ∷ [])
    (codes "000a0048 00000001 ffffffff 00000000 0002001c 01020004 00080004 000c0004 00010004 80020004 00007279 01020014 0a000001 0a000002 00000222 00000005 00020008 01020000")
