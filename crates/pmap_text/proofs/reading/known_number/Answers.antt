use Rattle.std.proofs.Common.{sym, rules}
use Rattle.pmap_model.proofs.LabelTexts.{has_label-number}
use Rattle.pmap_text.proofs.reading.known_number.Goals as goal

pub returns-in-Some-clause-known : goal.returns-in-Some-clause-known
returns-in-Some-clause-known c = has_label-number c.args.labels.now c.args.text.now c.guess-guess.result.0 (search rules)

pub returns-clause-known : goal.returns-clause-known
returns-clause-known c = has_label-number c.args.labels.now c.args.text.now _ (sym c.in_ok-id.ensures.value)
