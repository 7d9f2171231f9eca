use Rattle.std.proofs.Common.{◌≡◌, ◌∙◌, ◌<◌, None, arith, get_or, length, map, option_map, rules, sym}
use Rattle.std.proofs.Math.ListN.{get_or-map}
use Rattle.std.proofs.lemmas.List.{ext_get_or, get_or_default, length-map}
use Rattle.clap.specs.Words.{first_of, found_of, rows_of}
use Rattle.flow_filter.specs.Options.{name_of}
use Rattle.flow_filter.specs.declared.option.FilterOption.{FilterOption}
use Rattle.flow_filter.specs.declared.option.FilterOption.TheVariants.{Number}
use Rattle.flow_rows.specs.declared.number.Number.TheVariants.{SourcePort}
use Rattle.flow_filter.specs.declared.option.TheConstants.{ALL_OPTIONS}
use Rattle.flow_files.proofs.words.filter_words_in.Goals as goal

pub returns : goal.returns
returns c =
    let f = λ (o : FilterOption). first_of (name_of o) (rows_of (found_of c.args.entries.now)) in
    let long = length-map c.map.result (option_map (λ s. s.now)) ∙ c.map.ensures.items.long in
    ext_get_or None _ (map f ALL_OPTIONS) long
    (λ i within.
    let below : i < length ALL_OPTIONS = omega (arith, long, within) in
    let k = c.map.ensures.items.at i (Number SourcePort) None below in
    let said : option_map (λ s. s.now) (get_or c.map.result i None) ≡ f (get_or ALL_OPTIONS i (Number SourcePort)) = search (rules, k.2) in
    get_or-map (option_map (λ s. s.now)) c.map.result i None ∙ said ∙ sym (get_or-map f ALL_OPTIONS i (Number SourcePort))
    ∙ get_or_default (map f ALL_OPTIONS) i (f (Number SourcePort)) None below)
