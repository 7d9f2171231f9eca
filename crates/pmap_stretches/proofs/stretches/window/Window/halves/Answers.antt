use Rattle.pmap_stretches.proofs.Windows.{halves_windows}
use Rattle.pmap_stretches.proofs.stretches.window.Window.halves.Goals as goal

pub returns : goal.returns
returns c =
    halves_windows c.args.stretches.now c.laws.ensures.every c.args.self.now c.requires.window c.index_of-at.result c.next_index-next.result c.requires.some
    c.index_of-at.ensures.holds c.index_of-at.ensures.from c.next_index-next.ensures
