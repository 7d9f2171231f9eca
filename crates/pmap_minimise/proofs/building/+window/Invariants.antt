use Rattle.std.proofs.Common.{◌+◌, ◌*◌, ◌-◌}
use Rattle.pmap_minimise.proofs.building.+window.Given as goal

-- each half of a block and each block at a spine's end has fewer addresses
abbrev pub decreases-push_window : goal.decreases-push_window
decreases-push_window l = 2 * (l.window.now.last - l.window.now.first) + 1

abbrev pub decreases-push_divided : goal.decreases-push_divided
decreases-push_divided l = 2 * (l.window.now.last - l.window.now.first)
