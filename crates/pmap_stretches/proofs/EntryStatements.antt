-- The entries of a prefix list as statements, in the order of their blocks.
use Rattle.std.proofs.Common.{◌≡◌, ◌∙◌, ℕ, ◌-◌, ◌<◌, List, [], ◌∷◌, get_or, length, map, option_map, refl, sym, ap, subst, arith}
use Rattle.std.specs.List.{AllZip}
use Rattle.std.specs.List.Sorted.{IsNonDecreasingBy, IsPermutation}
use Rattle.std.proofs.lemmas.List.{length-map}
use Rattle.std.proofs.lemmas.Nat.{pow_pos}
use Rattle.std.proofs.lemmas.Option.{get_or_from_slice_get, slice_get-get_or, slice_get-map}
use Rattle.prefix_keys.specs.Block.{width_of}
use Rattle.pmap_model.specs.ListEntries.{rank_of}
use Rattle.pmap_stretches.specs.Mappings.{statement_of}
use Rattle.pmap_model.specs.PrefixList.{AreShortestFirst, HasStatement}
use Rattle.pmap_model.specs.declared.entry.Entry.{Entry}
use Rattle.pmap_model.proofs.ListBlocks.{block_start, longer_later, short-block}

has_statement : (e : Entry) → HasStatement e (statement_of e)
has_statement e =
    let some = pow_pos (width_of e.block.version - e.block.len) in
    let start = block_start e.block.version e refl in
    record { version = refl; low = sym start; high = omega (arith, some, start); label = refl }

have_statements : (es : List Entry) → AllZip HasStatement es (map statement_of es)
have_statements [] = tt
have_statements (e ∷ es) = (has_statement e, have_statements es)

-- by first address
pub lows_ascend : (es : List Entry) → IsNonDecreasingBy (λ e. rank_of e.block) es → IsNonDecreasingBy (λ s. s.span.low.value) (map statement_of es)
lows_ascend [] up i j d le below = absurd (omega (arith, below))
lows_ascend (x ∷ xs) up i j d le below =
    let es : List Entry = x ∷ xs in
    let within : j < length es = omega (arith, below, length-map es statement_of) in
    let at : (k : ℕ) → k < length es → get_or (map statement_of es) k d ≡ statement_of (get_or es k x) = λ k less. get_or_from_slice_get (map statement_of es) k (statement_of (get_or es k x)) d
    (slice_get-map statement_of es k ∙ ap (option_map statement_of) (slice_get-get_or es k x less)) in
    let order = up i j x le within in
    let few = short-block (get_or es i x).block in
    let few' = short-block (get_or es j x).block in
    rw (at i (omega (arith, le, within)), at j within) (omega (arith, order, few, few'))

-- the statements of the entries in another order are those of the list
pub shortest_first : (given sorted es : List Entry) → es ≡ sorted → IsPermutation given sorted → IsNonDecreasingBy (λ e. rank_of e.block) sorted
    → AreShortestFirst given (map statement_of es)
shortest_first given sorted es is moved up = record {
  sorted = es;
  moved = subst (IsPermutation given) (sym is) moved;
  later = longer_later es (subst (IsNonDecreasingBy (λ e. rank_of e.block)) (sym is) up);
  each = have_statements es;
}
