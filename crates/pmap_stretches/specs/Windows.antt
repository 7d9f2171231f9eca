use Rattle.std.specs.Prelude.{◌≡◌, ℕ, ◌+◌, ◌-◌, ◌*◌, ◌/◌, ◌≤◌, List}
use Rattle.prefix_keys.specs.Block.{block_number, first_of, last_of, width_of}
use Rattle.pmap_model.specs.declared.statement.Statement.{Statement}
use Rattle.pmap_model.specs.Settled.{ends_inside}
use Rattle.pmap_stretches.specs.Stretches.{HoldsAddress, StretchesModel}
use Rattle.pmap_stretches.specs.declared.stretches.window.Window.{Window}

-- Blocks with the stretches at their ends.

-- among addresses of W bits, those from `first` to `last` form the block of n bits with the number q
pub record IsBlock (W first last n q : ℕ) : Type 0 where
  pub first_is : first ≡ first_of W n q
  pub last_is : last ≡ last_of W n q

-- the number of a window's block among the blocks of its size
abbrev pub window_number : StretchesModel → Window → ℕ
window_number s w = block_number (width_of s.version) w.len w.first

-- the window is a block with these addresses, and these stretches have the first and the last one
pub record IsWindow (s : StretchesModel) (w : Window) : Type 0 where
  pub within : w.len ≤ width_of s.version
  pub block : IsBlock (width_of s.version) w.first w.last w.len (window_number s w)
  pub ordered : w.from ≤ w.to
  pub start : HoldsAddress s w.first w.from
  pub end : HoldsAddress s w.last w.to

-- the halves of a block of two addresses or more
pub record AreHalvesOf (s : StretchesModel) (w low high : Window) : Type 0 where
  pub low_window : IsWindow s low
  pub high_window : IsWindow s high
  pub low_first : low.first ≡ w.first
  pub low_last : low.last ≡ w.first + (w.last - w.first) / 2
  pub high_first : high.first ≡ w.first + (w.last - w.first) / 2 + 1
  pub high_last : high.last ≡ w.last
  pub low_len : low.len ≡ w.len + 1
  pub high_len : high.len ≡ w.len + 1
  pub low_number : window_number s low ≡ 2 * window_number s w
  pub high_number : window_number s high ≡ 2 * window_number s w + 1

-- the most often that the block of a window is divided
abbrev pub divisions : StretchesModel → Window → List Statement → ℕ
divisions s w ss = ends_inside (width_of s.version) ss w.len (window_number s w) * (width_of s.version - w.len)
