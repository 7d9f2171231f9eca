use Rattle.prefix_keys.proofs.Runs.{longest_run_is_longest}
use Rattle.prefix_keys.proofs.laws.longest_run_is_longest.Goals as goal

pub returns : goal.returns
returns c = longest_run_is_longest
