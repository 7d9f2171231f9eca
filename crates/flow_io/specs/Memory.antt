use Rattle.std.specs.Prelude.{Some, ℕ, length}
use Rattle.flow_io.specs.Devices.{InputView, OutputView}
use Rattle.flow_io.specs.declared.memory.MemoryInput.{MemoryInput}
use Rattle.flow_io.specs.declared.memory.MemoryOutput.{MemoryOutput}

-- What contracts see of a reader and a writer in memory.

abbrev pub input_in : MemoryInput → InputView
input_in memory = record {
  failed = memory.failed;
  returned = memory.read.bytes;
  stopped = memory.ended;
  left = Some memory.left.now;
}

abbrev pub output_in : {N : ℕ} → MemoryOutput N → OutputView
output_in memory = record {
  failed = memory.failed;
  last_call = memory.last_call;
  flushes = length memory.flushed.bytes;
  taken = memory.taken.items;
  contents = Some memory.taken.items;
}
