use Rattle.flow_uniq.proofs.Merging.{merged_divide}
use Rattle.flow_uniq.proofs.MergedParts.{merged_are_all}
use Rattle.flow_uniq.proofs.laws.merged_groups_divide_the_rows.Goals as goal

pub returns-clause-divide : goal.returns-clause-divide
returns-clause-divide c = merged_divide

pub returns-clause-all : goal.returns-clause-all
returns-clause-all c = merged_are_all
