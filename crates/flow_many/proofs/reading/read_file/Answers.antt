use Rattle.std.proofs.Common.{◌∙◌, List, Ok, Err, Option, Result, ap, sym, subst}
use Rattle.std.specs.Option.{option_map_or}
use Rattle.pmap_model.specs.Steps.{◌>>=◌}
use Rattle.flow_io.specs.Devices.{InputView}
use Rattle.flow_files.proofs.ReadLemmas.{handed_on, may_have}
use Rattle.flow_files.specs.Readers.{MayHave, view_of}
use Rattle.flow_files.specs.declared.bytes_fault.BytesFault.{BytesFault}
use Rattle.flow_many.specs.Files.{Placed, first_refusal}
use Rattle.flow_many.specs.Reading.{EndsFile, count_in}
use Rattle.flow_many.proofs.ReaderLemmas.{file_was_read, read_fails, refused}
use Rattle.flow_many.proofs.reading.read_file.Goals as goal

pub returns-in_err-add_messages : goal.returns-in_err-add_messages
returns-in_err-add_messages g c =
    let answers = g.O.Opener.answers c.args.opener.now in
    let file = file_was_read answers g.O.Reader.Input.input c.args.name.now c.in_ok-source.source c.add_messages.new.flows c.in_ok-source.ensures.opened
    c.in_ok-source.ensures.unread c.in_err-add_messages.ensures.there c.in_err-add_messages.ensures.reads.reads in
    handed_on (EndsFile answers g.O.Reader.Input.input g.T.TakesFiles.refusal g.T.TakesFiles.has_files g.T.TakesMessages.has_messages c.args.name.now c.args.taker.now c.add_messages.new.taker)
    c.from_residual-in_err-add_messages.result c.in_err-add_messages.field-0.0 c.from_residual-in_err-add_messages.ensures.1
    (read_fails answers g.O.Reader.Input.input g.T.TakesFiles.refusal g.T.TakesFiles.has_files g.T.TakesMessages.has_messages c.args.name.now c.args.taker.now
    c.add_messages.new.taker c.in_ok-source.source c.add_messages.new.flows c.in_ok-source.ensures.opened file c.in_err-add_messages.field-0.0
    c.in_err-add_messages.ensures.reads)

pub end_file-requires : goal.end_file-requires
end_file-requires g c =
    let (first, files, has, ready, few) = c.requires in
    let view = view_of g.O.Reader.Input.input c.add_messages.new.flows in
    let (messages, reading, added) = c.in_ok-add_messages.ensures.reads.gives.1 view.returned (may_have view) in
    (first, c.args.taker.now, files, messages, has, added, few)

pub returns-in-None : goal.returns-in-None
returns-in-None g c =
    let answers = g.O.Opener.answers c.args.opener.now in
    let file = file_was_read answers g.O.Reader.Input.input c.args.name.now c.in_ok-source.source c.add_messages.new.flows c.in_ok-source.ensures.opened
    c.in_ok-source.ensures.unread c.in_ok-add_messages.ensures.there c.in_ok-add_messages.ensures.reads.reads in (
      file.opened,
      file.last,
      file.was,
      ap (λ (v : InputView). v.failed) (sym file.view) ∙ c.in_ok-add_messages.ensures.reads.gives.0,
      λ first files has text may.
          let (messages, reading, added) = c.in_ok-add_messages.ensures.reads.gives.1 text (subst (λ (v : InputView). MayHave v text) (sym file.view) may) in
          let (refuses, adds) = c.end_file.ensures first c.args.taker.now files messages has added in
          let next = adds c.in-None.is in (
            messages,
            ap (λ (r : Result (List Placed) BytesFault). r >>= (λ messages.
                option_map_or (λ fault. Err fault) (first_refusal (g.T.TakesFiles.refusal first) (count_in files) messages) (Ok messages))) reading
                ∙ ap (λ (o : Option BytesFault). option_map_or (λ fault. Err fault) o (Ok messages)) (sym refuses ∙ c.in-None.is),
            next.0,
            next.1,
          ),
    )

pub returns : goal.returns
returns g c =
    let answers = g.O.Opener.answers c.args.opener.now in
    let file = file_was_read answers g.O.Reader.Input.input c.args.name.now c.in_ok-source.source c.add_messages.new.flows c.in_ok-source.ensures.opened
    c.in_ok-source.ensures.unread c.in_ok-add_messages.ensures.there c.in_ok-add_messages.ensures.reads.reads in
    refused answers g.O.Reader.Input.input g.T.TakesFiles.refusal g.T.TakesFiles.has_files g.T.TakesMessages.has_messages c.args.name.now c.args.taker.now
    c.end_file.new.self c.in_ok-source.source c.add_messages.new.flows c.in_ok-source.ensures.opened file c.in-Some.fault c.of.result c.of.ensures
    c.in_ok-add_messages.ensures.reads.gives.0
    (λ first files has text may.
    let (messages, reading, added) = c.in_ok-add_messages.ensures.reads.gives.1 text may in
    let (refuses, adds) = c.end_file.ensures first c.args.taker.now files messages has added in
    ap (λ (r : Result (List Placed) BytesFault). r >>= (λ messages.
    option_map_or (λ fault. Err fault) (first_refusal (g.T.TakesFiles.refusal first) (count_in files) messages) (Ok messages))) reading
    ∙ ap (λ (o : Option BytesFault). option_map_or (λ fault. Err fault) o (Ok messages)) (sym refuses ∙ c.in-Some.is))
