use Rattle.pmap_cert.proofs.opened.+push_down.Given as goal

abbrev pub decreases-push_down : goal.decreases-push_down
decreases-push_down g l = l.bits
