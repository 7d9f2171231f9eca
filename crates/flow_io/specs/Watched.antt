use Rattle.std.specs.Prelude.{ℕ, List, Option, length}
use Rattle.flow_io.specs.Devices.{InputView, OutputView}
use Rattle.flow_io.specs.declared.devices.Input.{Ghosts}
use Rattle.flow_io.specs.declared.watch.Watched.{Watched}

-- What contracts see of a reader and of a writer that are watched: what was noted, and the bytes that the inner reader
-- or writer reports.

abbrev pub input_watched : {T : Type 0} → (T → Option (List ℕ)) → Watched T → InputView
input_watched left reader = record {
  failed = reader.failed;
  returned = reader.read.bytes;
  stopped = reader.ended;
  left = left reader.inner;
}

abbrev pub output_watched : {T : Type 0} → (T → Option (List ℕ)) → Watched T → OutputView
output_watched contents writer = record {
  failed = writer.failed;
  last_call = writer.last_call;
  flushes = length writer.flushed.bytes;
  taken = writer.taken.bytes;
  contents = contents writer.inner;
}

-- Below: only contracts of parts and proofs use these; no promise of the program rests on them.

-- what contracts see of a watched reader inside another one
abbrev pub watched : {T : Type 0} → (T → Option (List ℕ)) → Ghosts (Watched T)
watched left = record { input = input_watched left }
