use Rattle.cert_check.proofs.sources.Sources.+path_fault.Given as goal

abbrev pub decreases-path_fault : goal.decreases-path_fault
decreases-path_fault l = l.path.now.count
