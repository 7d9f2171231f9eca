use Rattle.std.proofs.Common.{subst}
use Rattle.std.proofs.lemmas.Result.{IfOk-weaker}
use Rattle.pmap_text.specs.Inner.{IsFirstRepeat}
use Rattle.pmap_text.specs.Reading.{Earlier}
use Rattle.pmap_text.proofs.reading.Reading.first_repeat.Goals as goal

pub returns : goal.returns
returns c =
    IfOk-weaker c.first_repeat.result _ _
    (λ first is. subst (λ (e : Earlier). IsFirstRepeat e.prefixes first) c.self.view_is (is c.self.inside.labels))
    c.first_repeat.ensures
