use Rattle.prefix_keys.proofs.Displayed.{address_is_displayed}
use Rattle.prefix_keys.proofs.laws.address_is_displayed.Goals as goal

pub returns : goal.returns
returns c = address_is_displayed
