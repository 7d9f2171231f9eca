-- Sums that are kept with a list of fields, so that a record is skipped in as many steps as it has variable values.
-- This is private. The fields alone specify a record's values, and callers need not read this file.
use Rattle.std.specs.Prelude.{ℕ, ◌+◌, List, [], ◌∷◌, if◌then◌else◌}
use Rattle.ipfix_templates.specs.Field.{FieldView, is_variable}

-- for each variable field the sum of the fixed lengths since the variable field before it; `sum` is the sum for the
-- fields before these
abbrev pub runs_from : ℕ → List FieldView → List ℕ
runs_from sum [] = []
runs_from sum (f ∷ fs) = if is_variable f then sum ∷ runs_from 0 fs else runs_from (sum + f.length) fs

-- the sum of the fixed lengths after the last variable field; `sum` is the sum for the fields before these
abbrev pub last_run_from : ℕ → List FieldView → ℕ
last_run_from sum [] = sum
last_run_from sum (f ∷ fs) = if is_variable f then last_run_from 0 fs else last_run_from (sum + f.length) fs
