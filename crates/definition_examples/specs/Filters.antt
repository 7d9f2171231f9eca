use Rattle.std.specs.Prelude.{ℕ, List, [], ◌∷◌, ◌==◌, Bool, Option, None, Some, Result, Ok, find, map, option_map}
use Rattle.pmap_model.specs.Steps.{◌>>=◌}
use Rattle.pmap_text.specs.Reading.{map_reading}
use Rattle.pmap_text.specs.declared.fault.MapFault.{MapFault}
use Rattle.label_lookup.specs.Labelling.{Labelling, label_where, labelling_of_map}
use Rattle.flow_rows.specs.Elements.{RowView}
use Rattle.flow_filter.specs.Condition.{filter_among, filter_of, passing, row_passes}
use Rattle.flow_filter.specs.declared.fault.FilterFault.{FilterFault}
use Rattle.flow_filter.specs.declared.fault.FilterFaultKind.{FilterFaultKind}
use Rattle.flow_filter.specs.declared.option.FilterOption.{FilterOption}
use Rattle.flow_filter.specs.declared.option.FilterOption.TheVariants.{AnyLabel, Bytes, DestinationAddress}
use Rattle.flow_filter.specs.declared.option.FilterOption.TheVariants.{DestinationLabel, Number, Packets}
use Rattle.flow_filter.specs.declared.option.FilterOption.TheVariants.{SourceAddress, SourceLabel}
use Rattle.flow_rows.specs.declared.number.Number.TheVariants.{DestinationPort, Protocol, SourcePort}

-- What examples ask of filters.

-- the index of an option in the table of filters
abbrev pub place : FilterOption → ℕ
place (Number Protocol) = 0
place (Number SourcePort) = 1
place (Number DestinationPort) = 2
place SourceAddress = 3
place DestinationAddress = 4
place Packets = 5
place Bytes = 6
place SourceLabel = 7
place DestinationLabel = 8
place AnyLabel = 9
place (Number number) = 10

-- the texts of all options, by those given
abbrev pub texts_of : List (FilterOption × List ℕ) → List (Option (List ℕ))
texts_of given = map (λ index. option_map (λ part. part.1) (find (λ part. place part.0 == index) given))
    (0 ∷ 1 ∷ 2 ∷ 3 ∷ 4 ∷ 5 ∷ 6 ∷ 7 ∷ 8 ∷ 9 ∷ [])

-- whether a row passes the options given, with these labels of addresses, or the fault of the options
abbrev pub passes_all : List (FilterOption × List ℕ) → Option Labelling → RowView → Result Bool FilterFault
passes_all given labels row =
    filter_of (texts_of given) >>= (λ condition. Ok (row_passes condition (label_where labels) row))

-- the same for one option on a number
abbrev pub number_passes : FilterOption → List ℕ → RowView → Result Bool FilterFault
number_passes option text row =
    filter_among (option ∷ []) (Some text ∷ []) >>= (λ condition. Ok (row_passes condition (label_where None) row))

abbrev pub passes : FilterOption → List ℕ → RowView → Result Bool FilterFault
passes option text row = passes_all ((option, text) ∷ []) None row

-- the rows that pass the options given, under the map that a text represents
abbrev pub passing_by : List ℕ → List (FilterOption × List ℕ) → List RowView → Result (List RowView) MapFault
passing_by text given rows = map_reading text >>= (λ m. Ok (passing given (Some (labelling_of_map m)) rows))

abbrev pub of_option : FilterOption → FilterFaultKind → FilterFault
of_option option kind = record { option = option; kind = kind }
