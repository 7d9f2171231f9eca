use Rattle.std.proofs.Common.{◌≡◌, ◌+◌, ◌+ℤ◌, ◌++◌, Some, None, if◌then◌else◌, pos, arith, sym, ap, ◌∙◌, le-ltb}
use Rattle.jiff_core.specs.Date.{epoch_day}
use Rattle.jiff_core.proofs.SignedLemmas.{signed_arith}
use Rattle.utc_text.specs.Texts.{date_text}
use Rattle.utc_text.proofs.Dates.{date_is}
use Rattle.utc_text.proofs.day_text.Goals as goal

pub returns-clause-text : goal.returns-clause-text
returns-clause-text c =
    let moved : epoch_day c.from_days_since_min-date.result +ℤ pos 4371587 ≡ pos (c.args.day + 4371587) = c.from_days_since_min-date.ensures in
    let text : c.push_str.new.self.bytes ≡ date_text c.args.day =
    c.push_str.ensures.bytes ∙ (λ i. c.new-text.ensures i ++ c.as_str.ensures.value i) ∙ c.date_text-date.ensures
    ∙ date_is c.from_days_since_min-date.result c.args.day (omega (arith, signed_arith, moved)) in
    ap Some text
    ∙ sym (ap (λ b. if b then None else Some (date_text c.args.day)) (le-ltb 2_932_896 c.args.day (omega (arith, c.if-day-gt-LAST_DAY.false))))
