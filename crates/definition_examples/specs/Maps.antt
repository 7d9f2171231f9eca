use Rattle.std.specs.Prelude.{ℕ, List, Option, option_and_then, option_map, Result, Ok, codes}
use Rattle.std.specs.Result.{result_ok}
use Rattle.prefix_keys.specs.Text.{address_of}
use Rattle.pmap_model.specs.ListModel.{ListModel}
use Rattle.pmap_model.specs.MapModel.{Label, MapModel}
use Rattle.pmap_model.specs.Steps.{◌>>=◌}
use Rattle.pmap_text.specs.Reading.{list_reading, map_reading}
use Rattle.pmap_text.specs.declared.fault.MapFault.{MapFault}
use Rattle.pmap_text.specs.declared.fault.MapFaultKind.{MapFaultKind}
use Rattle.label_lookup.specs.Labelling.{Labelling, label_by, labelling_of_list, labelling_of_map}

-- What examples ask of maps and lists.

-- the label of the address that a text represents, under the map that another text represents
abbrev pub under_map : List ℕ → List ℕ → Result (Option Label) MapFault
under_map text address =
    map_reading text >>= (λ m. Ok (option_and_then (label_by (labelling_of_map m)) (address_of address)))

-- like `under_map`, but under a list
abbrev pub under_list : List ℕ → List ℕ → Result (Option Label) MapFault
under_list text address =
    list_reading text >>= (λ l. Ok (option_and_then (label_by (labelling_of_list l)) (address_of address)))

-- a part of the map, or of the list, that a text represents
abbrev pub of_map : {A : Type 0} → (MapModel → A) → List ℕ → Result A MapFault
of_map part text = map_reading text >>= (λ m. Ok (part m))

abbrev pub of_list : {A : Type 0} → (ListModel → A) → List ℕ → Result A MapFault
of_list part text = list_reading text >>= (λ l. Ok (part l))

-- the fault of a line
abbrev pub at_line : MapFaultKind → ℕ → MapFault
at_line kind line = record { kind = kind; line = line }

-- the labelling of the map that a text represents; none if the text is faulty
abbrev pub by_map : List ℕ → Option Labelling
by_map text = option_map labelling_of_map (result_ok (map_reading text))

-- the label that a labelling gives a number
abbrev pub label_at : Labelling → ℕ → Option Label
label_at l a = l.label a

-- The texts of FORMATS.md.

-- the map of the section on map texts
abbrev pub offices : List ℕ
offices = codes "# Who has which addresses\nmap-name offices\ndefault elsewhere\nlabel 7 Guest network\n10.0.0.0/8             Inside\n10.1.0.0/16            7                # a part of the block above, with the label Guest network\n192.0.2.9              Gateway\n198.51.100.0 198.51.100.99  Inside\n"

-- the list of the section on prefix lists
abbrev pub office_list : List ℕ
office_list = codes "mode ipv4\n0.0.0.0/0   elsewhere\n10.1.0.0/16 Guest network\n10.0.0.0/8  Inside\n"
