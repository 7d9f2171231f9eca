use Rattle.std.specs.Prelude.{ℕ, List, [], Option, None, Bool, false}
use Rattle.flow_io.specs.Devices.{InputView, OutputView}
use Rattle.flow_io.specs.declared.devices.LastCall.{LastCall}
use Rattle.flow_io.specs.declared.devices.LastCall.TheVariants.{FailedFlush, Flush, Nothing}

-- What examples ask of readers and writers.

-- the number of flushes of a writer that was flushed at most once, at its last call
abbrev pub flushes_by : LastCall → ℕ
flushes_by Flush = 1
flushes_by FailedFlush = 1
flushes_by _ = 0

-- a writer that has taken these bytes, whose last call was this one, and that has failed or not; it reports no contents
abbrev pub writer : Bool → LastCall → List ℕ → OutputView
writer failed last taken =
    record { failed = failed; last_call = last; flushes = flushes_by last; taken = taken; contents = None }

-- a writer that has taken no bytes, and has these contents
abbrev pub holder : Option (List ℕ) → OutputView
holder contents = record { failed = false; last_call = Nothing; flushes = 0; taken = []; contents = contents }

-- a reader that has returned no bytes; whether its last read found no byte, and the bytes left
abbrev pub reader : Bool → Option (List ℕ) → InputView
reader stopped left = record { failed = false; returned = []; stopped = stopped; left = left }
