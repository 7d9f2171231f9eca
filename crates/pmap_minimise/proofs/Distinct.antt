-- The entries of a minimal list have distinct blocks.
use Rattle.std.proofs.Common.{◌≡◌, ◌==◌, ◌&&◌, ◌⊎◌, inl, inr, true, false, List, [], ◌∷◌, IsTrue, map, nat_lt, arith}
use Rattle.std.specs.List.{AllByRecursion, IsDistinct}
use Rattle.std.proofs.lemmas.Bool.{and_parts, eqb-true, false_from_ne_true, ltb-true, or_cases}
use Rattle.pmap_model.specs.ListEntries.{HasDistinctBlocks, same_block}
use Rattle.pmap_model.specs.ListModel.{Prefix}
use Rattle.pmap_model.specs.MapModel.{Label}
use Rattle.pmap_model.specs.PrefixList.{prefix_of}
use Rattle.pmap_model.specs.declared.entry.Entry.{Entry}
use Rattle.pmap_cert.specs.Acceptance.{IsInOrder, begins_before}

not-same : (p r : Prefix) → begins_before p r ≡ true → (p.start == r.start && p.bits == r.bits) ≡ true → ⊥
not-same p r before same =
    let parts = and_parts (p.start == r.start) (p.bits == r.bits) same in
    let start = eqb-true p.start r.start parts.0 in
    let bits = eqb-true p.bits r.bits parts.1 in
    by start bits (or_cases (nat_lt p.start r.start) (p.start == r.start && nat_lt p.bits r.bits) before)
  where
    by : p.start ≡ r.start → p.bits ≡ r.bits → (nat_lt p.start r.start ≡ true) ⊎ ((p.start == r.start && nat_lt p.bits r.bits) ≡ true) → ⊥
    by start bits (inl lower) = let less = ltb-true p.start r.start lower in absurd (omega arith)
    by start bits (inr shorter) =
        let less = ltb-true p.bits r.bits (and_parts (p.start == r.start) (nat_lt p.bits r.bits) shorter).1 in
        absurd (omega arith)

not-same_all : (table : List Label) (e : Entry) (es : List Entry) → AllByRecursion (λ r. IsTrue (begins_before (prefix_of table e) r)) (map (prefix_of table) es)
    → AllByRecursion (λ d. same_block e d ≡ false) es
not-same_all table e [] all = tt
not-same_all table e (d ∷ es) all =
    (false_from_ne_true (same_block e d) (not-same (prefix_of table e) (prefix_of table d) all.0), not-same_all table e es all.1)

pub order-distinct : (table : List Label) (es : List Entry) → IsInOrder (map (prefix_of table) es) → HasDistinctBlocks es
unfolding IsDistinct
order-distinct table [] order = tt
order-distinct table (e ∷ es) order = (not-same_all table e es order.0, order-distinct table es order.1)
