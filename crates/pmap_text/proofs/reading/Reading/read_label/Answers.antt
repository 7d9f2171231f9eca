use Rattle.std.proofs.Common.{List, Ok, ap, inl, map, refl, rules, sym, ◌∙◌}
use Rattle.pmap_model.specs.MapModel.{Label}
use Rattle.pmap_model.specs.PrefixList.{prefix_of}
use Rattle.pmap_text.proofs.ProgressSteps.{IsProgress-with_label, prefixes-with_label, progress-with_label}
use Rattle.pmap_text.proofs.reading.Reading.read_label.Goals as goal

pub returns : goal.returns
returns c =
    let r = c.self.inside in
    let digits = sym c.are_digits.ensures ∙ c.if-are_digits.false in
    let agrees = sym c.conflicts.ensures ∙ c.if-conflicts.false in
    rw (← c.split_word.ensures.word, ← c.split_word.ensures.rest, ← c.label_number.ensures, c.in-Some.is, ← c.self.view_is, c.in_ok-check_label.ensures.ok, digits, agrees, c.in_ok-number_for.ensures.room, c.in_ok-number_for.ensures.ok, c.in-Ok.ensures.ok)
    (record {
      ok = inl (
        ap Ok (sym (progress-with_label r.version r.name _ r.default r.statements r.entries r.labels c.split_word.result.1.now c.self.invariant)),
        prefixes-with_label r.labels c.split_word.result.1.now r.entries c.self.invariant.entry_numbers,
      );
      err = tt;
      kept = tt;
    })

pub returns-in_default-add : goal.returns-in_default-add
returns-in_default-add c =
    let r = c.self.inside in
    let digits = sym c.are_digits.ensures ∙ c.if-are_digits.false in
    let agrees = sym c.conflicts.ensures ∙ c.if-conflicts.false in
    rw (← c.split_word.ensures.word, ← c.split_word.ensures.rest, ← c.label_number.ensures, c.in-Some.is, ← c.self.view_is, c.in_ok-check_label.ensures.ok, digits, agrees, c.in_ok-number_for.ensures.room)
    (record {
      ok = tt;
      err = refl;
      kept = ap (λ (t : List Label). map (prefix_of t) r.entries) c.in_ok-number_for.ensures.ok
          ∙ prefixes-with_label r.labels c.split_word.result.1.now r.entries c.self.invariant.entry_numbers;
    })

pub invariant_of-self-2 : goal.invariant_of-self-2
invariant_of-self-2 c =
    let to = c.in_ok-number_for.ensures.ok in
    rw to (IsProgress-with_label _ _ _ _ _ _ c.self.invariant (rw to at c.in_ok-number_for.ensures.limit))

pub invariant_of-self-in_default-add : goal.invariant_of-self-in_default-add
invariant_of-self-in_default-add c =
    let to = c.in_ok-number_for.ensures.ok in
    rw to (IsProgress-with_label _ _ _ _ _ _ c.self.invariant (rw to at c.in_ok-number_for.ensures.limit))

pub returns-in_err-check_label : goal.returns-in_err-check_label
returns-in_err-check_label c =
    rw (← c.split_word.ensures.word, ← c.split_word.ensures.rest, ← c.label_number.ensures, c.in-Some.is) (search rules)

pub returns-in_err-number_for : goal.returns-in_err-number_for
returns-in_err-number_for c =
    rw (← c.split_word.ensures.word, ← c.split_word.ensures.rest, ← c.label_number.ensures, c.in-Some.is) (search rules)
