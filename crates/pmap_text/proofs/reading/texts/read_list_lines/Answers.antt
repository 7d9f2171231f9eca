use Rattle.std.proofs.Common.{◌∙◌, Ok, Err, ap, refl, rules, sym, subst}
use Rattle.pmap_text.specs.Inner.{HasDistinctKeys, HasRead}
use Rattle.pmap_text.specs.Reading.{Earlier, MapFault, lines_read, no_lines}
use Rattle.pmap_text.specs.declared.reading.form.Form.TheVariants.{List as list_form}
use Rattle.pmap_text.proofs.Entering.{alone}
use Rattle.pmap_text.proofs.reading.texts.read_list_lines.Goals as goal
use Rattle.pmap_text.proofs.reading.texts.read_list_lines.Goals.{in-Ok-None-Err, in-Ok-Some-default, in-Err-default}

pub returns-in-Ok-None-Ok-clause-ok : goal.returns-in-Ok-None-Ok-clause-ok
returns-in-Ok-None-Ok-clause-ok c =
    let new = c.read_on-end.new.reading in
    let read : HasRead list_form no_lines 0 c.args.text.now 18446744073709551615 new (Ok c.in-Ok-None-Ok.field-0-1) =
    subst (HasRead list_form no_lines 0 c.args.text.now 18446744073709551615 new) c.in-Ok-None-Ok.is-1
    (subst (λ (e : Earlier). HasRead list_form e 0 c.args.text.now 18446744073709551615 new c.read_on-end.result) c.new-reading.ensures c.read_on-end.ensures) in
    let once : HasDistinctKeys new.prefixes = search rules in
    alone list_form c.args.text.now (λ more. lines_read list_form c.in-Ok-None-Ok.field-0-1 (Ok new) more) (read.ok refl once)

pub returns-clause-err : goal.returns-clause-err
returns-clause-err c = elim c.match-first_repeat.branch [
  | in-Ok-None-Err w ↦
      let new = c.read_on-end.new.reading in
      let found = w.in-Ok-None-Err.fault in
      let read : HasRead list_form no_lines 0 c.args.text.now 18446744073709551615 new (Err found) =
      subst (HasRead list_form no_lines 0 c.args.text.now 18446744073709551615 new) w.in-Ok-None-Err.is-1
      (subst (λ (e : Earlier). HasRead list_form e 0 c.args.text.now 18446744073709551615 new c.read_on-end.result) c.new-reading.ensures c.read_on-end.ensures) in
      let once : HasDistinctKeys new.prefixes = search rules in
      λ other. alone list_form c.args.text.now (λ _. Err found) (read.err once (λ e. other (ap (λ (f : MapFault). f.kind) w.fault-is ∙ e))) ∙ ap Err (sym w.fault-is)
  | in-Ok-Some-default w ↦
      λ other. w.repeat_at-fault.ensures.err (λ e. other (ap (λ (f : MapFault). f.kind) w.fault-is ∙ e)) ∙ ap Err (sym w.fault-is)
  | in-Err-default w ↦ λ other. absurd (other (ap (λ (f : MapFault). f.kind) w.fault-is ∙ w.fault_at-fault.ensures.kind))
]
