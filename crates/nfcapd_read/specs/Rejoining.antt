use Rattle.std.specs.Prelude.{List, ℕ, ◌&&◌, ◌==◌, length, slice_range}
use Rattle.std.specs.Io.KnownBytes.{prepend_known}
use Rattle.flow_io.specs.Devices.{InputView}
use Rattle.flow_io.specs.declared.devices.Input.{Ghosts}
use Rattle.nfcapd_read.specs.declared.rejoined.Rejoined.{Rejoined}

-- A reader of a text whose first bytes were read before. `G` says what contracts see of its inner reader.

-- the bytes of the front that the inner reader has returned, and this one not yet
abbrev pub front_left : {R : Type 0} {G : Ghosts R} → Rejoined R G → List ℕ
front_left reader = slice_range reader.front reader.start 2

-- what contracts see of it
abbrev pub input_rejoined : {R : Type 0} (G : Ghosts R) → Rejoined R G → InputView
input_rejoined G reader = record {
  failed = (G.input reader.inner).failed;
  returned = reader.returned.bytes;
  stopped = reader.ended && length (front_left reader) == 0;
  left = prepend_known (front_left reader) (G.input reader.inner).left;
}
