use Rattle.std.proofs.Common.{◌∙◌, ◌++◌, ◌∷◌, [], ap, drop}
use Rattle.pmap_print.specs.Table.{AreWide}
use Rattle.pmap_print.proofs.TableLines.{some-columns}
use Rattle.pmap_print.proofs.table.Table.end_line.Goals as goal

pub returns-in-Some-clause-wide : goal.returns-in-Some-clause-wide
returns-in-Some-clause-wide c = λ count lines fields are is all.
    some-columns (AreWide count (lines ++ fields ∷ [])) c.add_line.new.self
    (c.add_line.ensures count lines fields (are c.in-Some.columns c.in-Some.is) (c.since.ensures ∙ ap (drop c.args.begin) c.as_slice.ensures.value ∙ is) all)
