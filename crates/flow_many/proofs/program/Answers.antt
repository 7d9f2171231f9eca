use Rattle.std.proofs.Common.{◌∙◌, Err, ap, refl, rules}
use Rattle.flow_files.specs.declared.fault.RunFault.TheVariants.{Usage}
use Rattle.flow_files.specs.declared.usage.UsageFault.{UsageFault}
use Rattle.flow_many.proofs.program.Goals.{in-Ok+in-Ok-listed, in-Ok+in-Err-listed, in-Err}
use Rattle.flow_many.proofs.program.Goals as goal

pub returns : goal.returns
returns g c = record {
  outcome = c.match-words.outcome;
  between = c.match-words.output;
  ends = elim c.match-words.branch [
    | in-Ok+in-Ok-listed w ↦ rw (w.in-Ok.is, w.outcome-is, w.output-is) (rw (w.as_slice.ensures.value ∙ w.in-Ok-listed.ensures) at w.execute.ensures)
    | in-Ok+in-Err-listed w ↦ rw (w.in-Ok.is, w.outcome-is, w.output-is) (tt, refl)
    | in-Err w ↦ rw (w.in-Err.is, w.outcome-is, w.output-is) (ap (λ (fault : UsageFault). Err (Usage fault)) w.words_fault.ensures, refl)
  ];
  reported = c.end.ensures.reported;
  status = search rules;
}
