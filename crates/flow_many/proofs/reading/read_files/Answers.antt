use Rattle.std.proofs.Common.{◌≡◌, [], ap, arith, length, map, refl, subst}
use Rattle.std.specs.Borrow.{Bor}
use Rattle.std.proofs.lemmas.List.{drop_all, drop_more}
use Rattle.flow_files.proofs.ReadLemmas.{handed_on}
use Rattle.flow_files.specs.Sources.{Text}
use Rattle.flow_many.specs.Reading.{EndsFiles}
use Rattle.flow_many.proofs.ReaderLemmas.{AreSoFar, all_so_far, none_so_far, one_fails, one_more, some_files}
use Rattle.flow_many.proofs.reading.read_files.Goals as goal

pub loop-name-init : goal.loop-name-init
loop-name-init g c =
    none_so_far (g.O.Opener.answers c.args.opener.now) g.O.Reader.Input.input (g.T.TakesFiles.refusal c.args.taker.now) _ _ (c.requires.none, c.requires.ready, refl)

pub read_file-requires : goal.read_file-requires
read_file-requires g c =
    let (files, has) = some_files _ _ _ _ _ _ c.loop-name.invariant in
    (c.args.taker.now, files, has.0, has.1, omega (arith, has.2, c.loop-name-test.true))

pub returns-in_err-read_file : goal.returns-in_err-read_file
returns-in_err-read_file g c =
    handed_on (EndsFiles (g.O.Opener.answers c.args.opener.now) g.O.Reader.Input.input (g.T.TakesFiles.refusal c.args.taker.now) _ (map (λ (name : Bor Text). name.now) c.args.names.now))
    c.from_residual-in_err-read_file.result c.in_err-read_file.field-0.0 c.from_residual-in_err-read_file.ensures.1
    (one_fails (g.O.Opener.answers c.args.opener.now) g.O.Reader.Input.input g.T.TakesFiles.refusal g.T.TakesFiles.has_files g.T.TakesMessages.has_messages
    c.args.taker.now c.loop-name.taker c.read_file.new.taker c.loop-name.name-index _ _ _
    (subst (AreSoFar (g.O.Opener.answers c.args.opener.now) g.O.Reader.Input.input (g.T.TakesFiles.refusal c.args.taker.now)
    (λ files. g.T.TakesFiles.has_files c.args.taker.now files c.loop-name.taker × g.T.TakesMessages.has_messages c.loop-name.taker [] c.loop-name.taker
    × (length files ≡ c.loop-name.name-index)) (map (λ (name : Bor Text). name.now) c.args.names.now))
    (ap (map (λ (name : Bor Text). name.now)) (drop_more c.args.names.now c.loop-name.name-index _ c.loop-name-test.true)) c.loop-name.invariant)
    c.in_err-read_file.field-0.0 c.in_err-read_file.ensures)

pub loop-name-preserved : goal.loop-name-preserved
loop-name-preserved g c =
    one_more (g.O.Opener.answers c.args.opener.now) g.O.Reader.Input.input g.T.TakesFiles.refusal g.T.TakesFiles.has_files g.T.TakesMessages.has_messages
    c.args.taker.now c.loop-name.taker c.read_file.new.taker c.loop-name.name-index _ _ _
    (subst (AreSoFar (g.O.Opener.answers c.args.opener.now) g.O.Reader.Input.input (g.T.TakesFiles.refusal c.args.taker.now)
    (λ files. g.T.TakesFiles.has_files c.args.taker.now files c.loop-name.taker × g.T.TakesMessages.has_messages c.loop-name.taker [] c.loop-name.taker
    × (length files ≡ c.loop-name.name-index)) (map (λ (name : Bor Text). name.now) c.args.names.now))
    (ap (map (λ (name : Bor Text). name.now)) (drop_more c.args.names.now c.loop-name.name-index _ c.loop-name-test.true)) c.loop-name.invariant)
    c.in_ok-read_file.ensures

pub returns : goal.returns
returns g c =
    let (readers, were, sound) = all_so_far _ _ _ _ _
    (subst (AreSoFar (g.O.Opener.answers c.args.opener.now) g.O.Reader.Input.input (g.T.TakesFiles.refusal c.args.taker.now)
    (λ files. g.T.TakesFiles.has_files c.args.taker.now files c.loop-name.taker × g.T.TakesMessages.has_messages c.loop-name.taker [] c.loop-name.taker
    × (length files ≡ c.loop-name.name-index)) (map (λ (name : Bor Text). name.now) c.args.names.now))
    (ap (map (λ (name : Bor Text). name.now)) (drop_all c.loop-name.name-index c.args.names.now c.loop-name-test.false)) c.loop-name.invariant) in
    (readers, were, λ texts have. let (files, reads, has) = sound texts have in (files, reads, has.0))
