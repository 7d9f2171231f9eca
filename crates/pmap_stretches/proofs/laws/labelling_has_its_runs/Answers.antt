use Rattle.std.proofs.Common.{◌^◌, arith}
use Rattle.prefix_keys.specs.Block.{width_of}
use Rattle.pmap_stretches.proofs.RunLists.{runs-alike, runs-exist, runs-one}
use Rattle.pmap_stretches.proofs.laws.labelling_has_its_runs.Goals as goal

pub returns-clause-exist : goal.returns-clause-exist
returns-clause-exist c v f = runs-exist f 0 (2 ^ width_of v) (omega arith)

pub returns-clause-one : goal.returns-clause-one
returns-clause-one c v f runs other is so = runs-one f 0 (2 ^ width_of v) runs other is so

pub returns-clause-alike : goal.returns-clause-alike
returns-clause-alike c v f g runs same are = runs-alike f g 0 (2 ^ width_of v) runs same are
