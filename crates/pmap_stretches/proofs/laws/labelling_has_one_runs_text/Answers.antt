use Rattle.std.proofs.Common.{◌≡◌, ℕ, ◌^◌, ◌<◌, ◌∙◌, Option, Some, ap, subst, sym}
use Rattle.prefix_keys.specs.Block.{width_of}
use Rattle.prefix_keys.specs.declared.version.Version.{Version}
use Rattle.pmap_model.specs.ListModel.{list_label}
use Rattle.pmap_model.specs.MapModel.{Label, map_label}
use Rattle.pmap_stretches.proofs.RunLists.{runs-alike, runs-one}
use Rattle.pmap_stretches.specs.RunsText.{IsRunsText, Text, runs_text}
use Rattle.pmap_stretches.proofs.laws.labelling_has_one_runs_text.Goals as goal

text-one : (v : Version) (f : ℕ → Option Label) (text other : Text) → IsRunsText v f text → IsRunsText v f other → text ≡ other
text-one v f text other is so =
    is.is ∙ ap (runs_text v) (runs-one f 0 (2 ^ width_of v) is.runs so.runs is.are so.are) ∙ sym so.is

text-alike : (v : Version) (f g : ℕ → Option Label) (text : Text) → ((a : ℕ) → a < 2 ^ width_of v → f a ≡ g a) → IsRunsText v f text → IsRunsText v g text
text-alike v f g text same is =
    record { runs = is.runs; are = runs-alike f g 0 (2 ^ width_of v) is.runs same is.are; is = is.is }

pub returns-clause-one : goal.returns-clause-one
returns-clause-one c = text-one

pub returns-clause-alike : goal.returns-clause-alike
returns-clause-alike c = text-alike

pub returns-clause-equivalent : goal.returns-clause-equivalent
returns-clause-equivalent c = λ l m text other alike is so.
    text-one m.version (λ a. Some (map_label m a)) text other
    (text-alike m.version (list_label l) (λ a. Some (map_label m a)) text alike.labels
    (subst (λ (v : Version). IsRunsText v (list_label l) text) alike.version is)) so
