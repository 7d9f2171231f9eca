use Rattle.std.proofs.Common.{◌≡◌, ◌++◌, ◌∷◌, All, map, take}
use Rattle.flow_io.specs.Devices.{OutputView}
use Rattle.pmap_cert.specs.CertificateText.{text_of_lines}
use Rattle.pmap_cert.specs.ListText.{entry_line}
use Rattle.pmap_cert.proofs.ReadLines.{mode_text, name_lines}
use Rattle.pmap_model.specs.PrefixList.{prefix_of}
use Rattle.pmap_print.proofs.list.ListTextPrintable.print.Given as goal

-- the lines so far are printed
abbrev pub invariant-loop-index : goal.invariant-loop-index
invariant-loop-index g l =
    All (λ e. e.block.version ≡ l.list.version) l.entries
    × ((g.S.Sink.sink l.out).printed ≡ (g.S.Sink.sink l.fn.out).printed ++ text_of_lines (name_lines l.list.name ++ mode_text l.list.version
    ∷ map (entry_line l.list.version) (map (prefix_of l.list.labels) (take l.index l.entries))))
    × ((g.S.Sink.sink l.out).reference ≡ (g.S.Sink.sink l.fn.out).reference)
    × ((first : OutputView) → g.S.Sink.began first l.fn.out → g.S.Sink.began first l.out)
