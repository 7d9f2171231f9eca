use Rattle.std.proofs.Common.{◌≡◌, Some, Ok, Err, rules, subst}
use Rattle.pmap_text.specs.Inner.{HasRead, IsFirstRepeat}
use Rattle.pmap_text.specs.Reading.{DuplicateBlock, Earlier, no_lines}
use Rattle.pmap_text.specs.declared.reading.form.Form.TheVariants.{List as list_form}
use Rattle.pmap_text.proofs.Entering.{alone}
use Rattle.pmap_text.proofs.reading.texts.repeat_at.Goals as goal

pub returns-in-Ok-Ok-Some-clause-err : goal.returns-in-Ok-Ok-Some-clause-err
returns-in-Ok-Ok-Some-clause-err c =
    let read : HasRead list_form no_lines 0 c.args.text.now c.args.index c.read_on-end.new.reading c.read_on-end.result =
    subst (λ (e : Earlier). HasRead list_form e 0 c.args.text.now c.args.index c.read_on-end.new.reading c.read_on-end.result) c.new-reading.ensures c.read_on-end.ensures in
    let ended : c.read_on-end.result ≡ Ok c.in-Ok-Ok-Some.line = search rules in
    let line : HasRead list_form no_lines 0 c.args.text.now c.args.index c.read_on-end.new.reading (Ok c.in-Ok-Ok-Some.line) =
    subst (HasRead list_form no_lines 0 c.args.text.now c.args.index c.read_on-end.new.reading) ended read in
    let first : IsFirstRepeat (c.read_on-end.new.reading).prefixes (Some c.args.index) = search rules in
    λ other. alone list_form c.args.text.now (λ _. Err (record { kind = DuplicateBlock; line = c.in-Ok-Ok-Some.line })) (line.repeat first)
