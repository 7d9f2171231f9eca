use Rattle.std.proofs.Common.{sym, subst, ◌∙◌, get_or}
use Rattle.pmap_text.specs.Inner.{HasDistinctKeys}
use Rattle.pmap_model.specs.PrefixList.{prefix_of}
use Rattle.pmap_text.specs.Reading.{Earlier}
use Rattle.pmap_model.proofs.Distinct.{distinct_from_map}
use Rattle.pmap_text.proofs.ProgressSteps.{version-decided}
use Rattle.pmap_text.proofs.reading.Reading.into_list.Goals as goal
use Rattle.pmap_model.specs.ListModel.{same_start_and_bits}

pub invariant_of-result-clause-one_version : goal.invariant_of-result-clause-one_version
invariant_of-result-clause-one_version c = λ k d within.
    version-decided (get_or c.self.inside.entries k d).block.version c.self.inside.version (c.self.invariant.blocks k d within)
    ∙ sym c.unwrap_or.ensures

pub invariant_of-result-clause-numbers_known : goal.invariant_of-result-clause-numbers_known
invariant_of-result-clause-numbers_known c = c.self.invariant.entry_numbers

pub invariant_of-result-clause-blocks_distinct : goal.invariant_of-result-clause-blocks_distinct
invariant_of-result-clause-blocks_distinct c =
    distinct_from_map (prefix_of c.self.inside.labels) same_start_and_bits c.self.inside.entries
    (subst (λ (e : Earlier). HasDistinctKeys e.prefixes) (sym c.self.view_is) c.requires)
