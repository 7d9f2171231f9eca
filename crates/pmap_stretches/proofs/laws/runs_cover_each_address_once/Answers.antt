use Rattle.std.proofs.Common.{◌^◌, arith}
use Rattle.prefix_keys.specs.Block.{width_of}
use Rattle.pmap_stretches.proofs.Covered.{next-run, one-run}
use Rattle.pmap_stretches.proofs.laws.runs_cover_each_address_once.Goals as goal

pub returns-clause-once : goal.returns-clause-once
returns-clause-once c v f runs are a below = one-run f 0 (2 ^ width_of v) runs are a (omega arith) below

pub returns-clause-ascend : goal.returns-clause-ascend
returns-clause-ascend c v f runs are i d below = (next-run f 0 (2 ^ width_of v) runs are i d below).0

pub returns-clause-differ : goal.returns-clause-differ
returns-clause-differ c v f runs are i d below = (next-run f 0 (2 ^ width_of v) runs are i d below).1
