use Rattle.prefix_keys.specs.Block.{width_of}
use Rattle.pmap_model.proofs.ListLabels.{label-longest, longest-match}
use Rattle.pmap_model.proofs.laws.longest_match_counts.Goals as goal

pub returns-clause-label : goal.returns-clause-label
returns-clause-label c = λ l a p longest. label-longest (width_of l.version) l.prefixes a p longest

pub returns-clause-cases : goal.returns-clause-cases
returns-clause-cases c = λ l a. longest-match (width_of l.version) l.prefixes a
