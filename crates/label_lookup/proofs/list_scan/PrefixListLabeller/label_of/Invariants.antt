use Rattle.label_lookup.proofs.Entries.{IsLongest}
use Rattle.label_lookup.proofs.list_scan.PrefixListLabeller.label_of.Given as goal

abbrev pub invariant-loop-index : goal.invariant-loop-index
invariant-loop-index l = IsLongest l.self l.addr.value l.index l.longest
