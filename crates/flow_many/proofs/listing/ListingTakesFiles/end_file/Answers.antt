use Rattle.std.proofs.Common.{◌∙◌, ◌++◌, ◌∷◌, [], arith, length-append, refl, sym}
use Rattle.pmap_print.proofs.MessageLines.{lines_from-added}
use Rattle.pmap_print.specs.Messages.{file_lines}
use Rattle.std.proofs.lemmas.List.{append-nil}
use Rattle.flow_many.specs.Reading.{count_in, fields_of}
use Rattle.flow_many.proofs.FilesLemmas.{none_refused}
use Rattle.flow_many.proofs.listing.ListingTakesFiles.end_file.Goals as goal

pub overflow_add-self : goal.overflow_add-self
overflow_add-self c =
    let (first, start, files, messages, before, has, few) = c.requires in omega (arith, before.file, has.file, few)

pub returns : goal.returns
returns c = λ first start files messages before has. (
  sym (none_refused (count_in files) messages),
  λ none. (
    record {
      file = omega (arith, has.file, before.file, length-append files (messages ∷ []));
      count = refl;
      lines = has.lines ∙ (λ i. before.lines i ++ file_lines (before.file i) 1 messages) ∙ sym (lines_from-added 1 files messages);
    },
    record { file = refl; count = refl; lines = sym (append-nil (fields_of c.args.self.now.lines.items)) },
  ),
)
