use Rattle.std.specs.Prelude.{◌++◌, take}
use Rattle.flow_io.specs.Devices.{OutputView}
use Rattle.flow_io.specs.Sinks.{HasTaken, SinkView}
use Rattle.flow_io.specs.declared.devices.Output.{Ghosts}
use Rattle.flow_io.specs.declared.buffered.Buffered.{Buffered}

-- what contracts see of a buffer before a writer: the bytes that the writer took, lost ones, and those that are held
abbrev pub sink_of : {W : Type 0} {G : Ghosts W} → Buffered W G → SinkView
sink_of out = record {
  printed = (out.given.now.taken.bytes ++ out.given.now.lost.bytes) ++ take out.len out.buffer.now;
  reference = out.writer.ghost_name;
}

-- the writer was this before it took the first of these bytes
abbrev pub HasBegun : {W : Type 0} {G : Ghosts W} → OutputView → Buffered W G → Type 0
HasBegun {W} {G} first out = HasTaken first (G.output out.writer.now) out.given.now.taken.bytes
