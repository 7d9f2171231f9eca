use Rattle.pmap_cert.proofs.certificate_reading.+read_node.Given as goal

abbrev pub decreases-read_node : goal.decreases-read_node
decreases-read_node l = l.room
