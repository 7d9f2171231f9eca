use Rattle.std.proofs.Common.{ℕ, ◌≡◌, ◌<◌, ◌≤◌, max, length, drop, get_or, []}
use Rattle.std.specs.Prelude.{slice_index}
use Rattle.pmap_print.specs.Table.{Line, sized}
use Rattle.pmap_print.proofs.columns.Columns.add_line.Given as goal

-- the columns before the index are wide enough for the line
abbrev pub invariant-loop-i : goal.invariant-loop-i
invariant-loop-i l = record {
  long : length l.self.widths.items ≡ length l.initial.self.widths.items;
  read : (fields : Line) → l.line ≡ sized fields → length fields ≡ length l.initial.self.widths.items → l.rest ≡ sized (drop l.i fields);
  wide : (fields : Line) → l.line ≡ sized fields → length fields ≡ length l.initial.self.widths.items → (k : ℕ) → k < l.i
      → slice_index l.self.widths.items k ≡ max (slice_index l.initial.self.widths.items k) (length (get_or fields k []));
  same : (k : ℕ) → l.i ≤ k → slice_index l.self.widths.items k ≡ slice_index l.initial.self.widths.items k;
}
