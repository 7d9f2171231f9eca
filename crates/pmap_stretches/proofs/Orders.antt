-- Mappings that meet a block, and mappings that cover it.
use Rattle.std.proofs.Common.{◌≡◌, ◌∙◌, ℕ, ◌<◌, ◌≤◌, true, nat_le, ◌&&◌, List, Option, Some, length, sym, ap, arith, slice_get, unwrap_or, []}
use Rattle.std.proofs.lemmas.Option.{slice_get-get_or}
use Rattle.std.proofs.lemmas.Bool.{leb-true, le-leb, and_parts, and_from}
use Rattle.prefix_keys.specs.Block.{first_of, last_of}
use Rattle.pmap_model.specs.MapModel.{Label, Mapping, meets, spans, spans_all}
use Rattle.pmap_model.specs.MapText.{text_at}

pub both_le : (a b c d : ℕ) → (nat_le a b && nat_le c d) ≡ true → (a ≤ b) × (c ≤ d)
both_le a b c d h = let parts = and_parts (nat_le a b) (nat_le c d) h in (leb-true a b parts.0, leb-true c d parts.1)

pub le_both : (a b c d : ℕ) → a ≤ b → c ≤ d → (nat_le a b && nat_le c d) ≡ true
le_both a b c d h k = and_from (nat_le a b) (nat_le c d) (le-leb a b h) (le-leb c d k)

-- a mapping that covers an address of a block meets the block, and one that covers the block covers the address
pub meets_around : (W n q a : ℕ) → first_of W n q ≤ a → a ≤ last_of W n q → (s : Mapping) → spans a s ≡ true → meets W n q s ≡ true
meets_around W n q a from to s h =
    let orders = both_le s.low a a s.high h in
    le_both s.low (last_of W n q) (first_of W n q) s.high (omega (arith, orders.0)) (omega (arith, orders.1))

pub spans_within : (W n q a : ℕ) → first_of W n q ≤ a → a ≤ last_of W n q → (s : Mapping) → spans_all W n q s ≡ true → spans a s ≡ true
spans_within W n q a from to s h =
    let orders = both_le s.low (first_of W n q) (last_of W n q) s.high h in
    le_both s.low a a s.high (omega (arith, orders.0)) (omega (arith, orders.1))

-- the text with a number of the table
pub known_text : (table : List Label) (number : ℕ) → number < length table → slice_get table number ≡ Some (text_at table number)
known_text table number known =
    let e = slice_get-get_or table number [] known in
    e ∙ ap Some (sym (ap (λ (o : Option Label). unwrap_or o []) e))
