use Rattle.std.specs.Prelude.{List, ℕ, ◌&&◌, ◌==◌, length, slice_range}
use Rattle.std.specs.Io.KnownBytes.{prepend_known}
use Rattle.flow_io.specs.Devices.{InputView}
use Rattle.flow_io.specs.declared.devices.Input.{Ghosts}
use Rattle.flow_io.specs.declared.read_ahead.ReadAhead.{ReadAhead}

-- A reader that reads ahead. `G` says what contracts see of its inner reader.

-- the bytes that the inner reader has returned, and this one not yet
abbrev pub bytes_ahead : {R : Type 0} {G : Ghosts R} → ReadAhead R G → List ℕ
bytes_ahead reader = slice_range reader.buffer.items reader.start reader.end

-- what contracts see of it
abbrev pub input_ahead : {R : Type 0} (G : Ghosts R) → ReadAhead R G → InputView
input_ahead G reader = record {
  failed = (G.input reader.inner).failed;
  returned = reader.returned.bytes;
  stopped = reader.ended && length (bytes_ahead reader) == 0;
  left = prepend_known (bytes_ahead reader) (G.input reader.inner).left;
}
