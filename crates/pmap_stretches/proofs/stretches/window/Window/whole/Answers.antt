use Rattle.std.proofs.Common.{arith, refl}
use Rattle.pmap_stretches.proofs.Windows.{whole_window}
use Rattle.pmap_stretches.proofs.stretches.window.Window.whole.Goals as goal

pub returns-clause-window : goal.returns-clause-window
returns-clause-window c = let every = c.laws.ensures.every in whole_window c.args.stretches.now every _ refl refl refl (let some = every.some in let count = c.len-to.ensures in omega arith) c.last.ensures
