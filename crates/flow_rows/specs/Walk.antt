use Rattle.std.specs.Prelude.{ℕ, ◌++◌, IfSome, List, Option, length, option_and_then}
use Rattle.std.specs.Borrow.{Bor}
use Rattle.std.specs.List.{flat_map}
use Rattle.std.specs.Option.{option_to_list}
use Rattle.flow_rows.specs.declared.walk.SetRows.{SetRows}
use Rattle.flow_rows.specs.Elements.{RowView, rows_of_record}
use Rattle.flow_rows.specs.Inner.{AreUsable, HaveLayout, second_at}

-- The rows of a set that are left. This is private, and callers of the crate need not read it.

-- the records left have the layout, and so has the last one, whose bytes are kept if it may have a second row
pub record HaveRows (set : SetRows) (last : Option (Bor (List ℕ))) : Type 0 where
  pub have : HaveLayout set.layout.now set.runs.now set.records
  pub usable : IfSome last (λ bytes. AreUsable (length bytes.now) set.layout.now.second)

-- the second row of the last record, if its bytes are kept, and then the rows of the records left
abbrev pub rows_to_come : SetRows → Option (Bor (List ℕ)) → List RowView
rows_to_come set last =
    option_to_list (option_and_then (λ bytes. second_at set.layout.now set.runs.now bytes.now) last)
    ++ flat_map rows_of_record set.records
