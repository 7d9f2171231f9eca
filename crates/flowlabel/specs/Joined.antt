-- What a command prints for joined Files.
use Rattle.std.specs.Prelude.{◌≡◌, List, ◌∷◌, All, Ok, Option, drop, is_some, map}
use Rattle.std.specs.List.{flat_map}
use Rattle.ipfix_read.specs.Laws.{CanFollow, File, joined}
use Rattle.flow_rows.specs.Counts.{counts_of, rows_of_messages}
use Rattle.flow_rows.specs.Laws.{all_sums}
use Rattle.flow_filter.specs.Condition.{passing}
use Rattle.flow_uniq.specs.Groups.{GroupModel, groups_of, shown_groups}
use Rattle.flow_uniq.specs.Laws.{merged}
use Rattle.label_lookup.specs.Labelling.{Labelling, label_where}
use Rattle.pmap_print.specs.Reports.{groups_text, info_text, title_line}
use Rattle.pmap_print.specs.Table.{Line, table_text}
use Rattle.flow_files.specs.declared.by_file.ByFile.{ByFile}
use Rattle.flow_files.specs.ByFile.{with_at}
use Rattle.flow_files.specs.ByFile as role
use Rattle.flowlabel.specs.Request.{Command, Info, Rows, Uniq}
use Rattle.flow_files.specs.Sources.{Text}
use Rattle.flowlabel.specs.Output.{IsOutput, labelled_row_lines}

-- the command prints this text for each of these Files, if its other files have these texts
abbrev pub PrintsEach : Command → ByFile Text → List File → (File → Text) → Type 0
PrintsEach command texts files text =
    All (λ file. IsOutput command (with_at role.Flows file.0 texts) (Ok (text file))) files

-- The text is put together from what the command prints for each of these Files. `info`: each number
-- is the sum of theirs. `rows`: after one header come their lines. `uniq`: their groups are merged.
-- Other commands read no File, and print the same.
abbrev pub IsPutTogether : Command → ByFile Text → List File → Text → Type 0
IsPutTogether (Info flows) texts files out =
    PrintsEach (Info flows) texts files (λ file. info_text (counts_of file.1))
    × (out ≡ info_text (all_sums (map (λ file. counts_of file.1) files)))
IsPutTogether (Rows labels condition columns flows) texts files out = (l : Option Labelling) ×
    let lines : File → List Line = λ file.
    labelled_row_lines l (passing condition l (rows_of_messages file.1)) in
    PrintsEach (Rows labels condition columns flows) texts files
    (λ file. table_text columns (lines file))
    × (out ≡ table_text columns (title_line (is_some l) ∷ flat_map (λ file. drop 1 (lines file)) files))
IsPutTogether (Uniq fields labels condition sorted columns flows) texts files out =
    (l : Option Labelling) × let groups : File → List GroupModel = λ file. shown_groups sorted
    (groups_of fields (label_where l) (passing condition l (rows_of_messages file.1))) in
    PrintsEach (Uniq fields labels condition sorted columns flows) texts files
    (λ file. groups_text fields (groups file) columns)
    × (out ≡ groups_text fields (shown_groups sorted (merged (flat_map groups files))) columns)
IsPutTogether command texts files out = PrintsEach command texts files (λ file. out)

-- the output for a joined File is put together from those for its Files
abbrev pub OutputOfJoinedFile : Type 0
OutputOfJoinedFile = (first : File) (later : List File) → CanFollow first later
    → (command : Command) (texts : ByFile Text) (out : Text)
    → IsOutput command (with_at role.Flows (joined (first ∷ later)).0 texts) (Ok out)
    → IsPutTogether command texts (first ∷ later) out
