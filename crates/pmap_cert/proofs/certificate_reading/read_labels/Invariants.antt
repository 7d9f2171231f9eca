use Rattle.std.proofs.Common.{◌≡◌, ◌-◌, ◌≤◌, [], length}
use Rattle.pmap_cert.specs.FormatReading.{labels_at}
use Rattle.pmap_cert.proofs.certificate_reading.read_labels.Given as goal

-- the whole table is the labels so far and those of the remaining lines
abbrev pub invariant-loop-labels : goal.invariant-loop-labels
invariant-loop-labels l = record {
  read : labels_at l.count [] l.initial.lines ≡ labels_at (l.count - length l.labels) l.labels l.lines;
  few : length l.labels ≤ l.count;
}

abbrev pub decreases-loop-labels : goal.decreases-loop-labels
decreases-loop-labels l = l.count - length l.labels
