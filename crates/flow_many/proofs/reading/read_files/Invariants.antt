-- The Files before this one were read and added.
use Rattle.std.proofs.Common.{◌≡◌, [], length, map}
use Rattle.std.specs.Prelude.{drop}
use Rattle.flow_many.proofs.ReaderLemmas.{AreSoFar}
use Rattle.flow_many.proofs.reading.read_files.Given as goal

abbrev pub invariant-loop-name : goal.invariant-loop-name
invariant-loop-name g l =
    AreSoFar (g.O.Opener.answers l.opener) g.O.Reader.Input.input (g.T.TakesFiles.refusal l.initial.taker)
    (λ files. g.T.TakesFiles.has_files l.initial.taker files l.taker × g.T.TakesMessages.has_messages l.taker [] l.taker × (length files ≡ l.name-index))
    (map (λ name. name.now) l.fn.names) (map (λ name. name.now) (drop l.name-index l.names))
