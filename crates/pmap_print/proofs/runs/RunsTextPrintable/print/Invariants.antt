use Rattle.std.proofs.Common.{◌≡◌, ◌-◌, ◌++◌, length, map}
use Rattle.std.specs.List.{flat_map}
use Rattle.flow_io.specs.Devices.{OutputView}
use Rattle.pmap_stretches.specs.RunsText.{line_text, run_fields, runs_text}
use Rattle.pmap_stretches.proofs.StretchRuns.{runs_from}
use Rattle.pmap_print.proofs.runs.RunsTextPrintable.print.Given as goal

-- the text so far and the lines of the runs from the index on are the text of all runs
abbrev pub invariant-loop-index : goal.invariant-loop-index
invariant-loop-index g l =
    let s = l.runs in
    ((g.S.Sink.sink l.out).printed
    ++ flat_map line_text (map (run_fields s.version) (runs_from l.self.labels.now s l.index (length s.firsts - l.index)))
    ≡ (g.S.Sink.sink l.fn.out).printed ++ runs_text s.version (runs_from l.self.labels.now s 0 (length s.firsts)))
    × ((g.S.Sink.sink l.out).reference ≡ (g.S.Sink.sink l.fn.out).reference)
    × ((first : OutputView) → g.S.Sink.began first l.fn.out → g.S.Sink.began first l.out)
