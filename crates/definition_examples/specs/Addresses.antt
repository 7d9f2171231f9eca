use Rattle.std.specs.Prelude.{ℕ, List, false}
use Rattle.std.specs.Fmt.{digits}

-- The library's definition of digits is opaque: it computes only where it is unfolded. Examples that need it unfold
-- `opened`, and with it the definitions that are named here after `unfolding`.
unfoldable pub opened : ℕ → List ℕ
unfolding digits
opened number = digits 10 false number
