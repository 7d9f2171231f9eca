-- The blocks of a prefix list's entries have no host bits and are distinct, so no two of its prefixes have one block.
use Rattle.std.proofs.Common.{◌≡◌, ℕ, ◌-◌, ◌*◌, ◌%◌, ◌^◌, ◌≤◌, ◌<◌, ◌==◌, inl, inr, List, false, true, get_or, length, arith, sym, ap, ◌∙◌, subst}
use Rattle.std.specs.List.{IsDistinct}
use Rattle.std.specs.List.Sorted.{IsNonDecreasingBy}
use Rattle.std.proofs.lemmas.Bool.{and_from, and_parts, both_ways, cases_eq, cases_lt, eq-eqb, eqb-true, false_from_ne_true}
use Rattle.std.proofs.lemmas.Map.Keys.{IsDistinct-from_apart, apart_from_distinct}
use Rattle.std.proofs.lemmas.Nat.{pow_pos}
use Rattle.prefix_keys.specs.Block.{block_number, width_of}
use Rattle.prefix_keys.specs.declared.version.Version.{Version}
use Rattle.prefix_keys.proofs.Groups.{width-le}
use Rattle.prefix_keys.proofs.Quotients.{whole}
use Rattle.prefix_keys.specs.declared.block.Block.{Block}
use Rattle.pmap_model.specs.ListEntries.{HasDistinctBlocks, rank_of, same_block}
use Rattle.pmap_model.specs.PrefixList.{LongerLater, list_of, prefix_of, Entry, PrefixList}
use Rattle.pmap_model.specs.ListModel.{is_same_prefix}
use Rattle.pmap_model.proofs.Blocks.{address-first, block_number-shorter}
use Rattle.pmap_model.proofs.Distinct.{distinct_to_map}

-- a block begins at its number
pub block_start : (v : Version) (e : Entry) → e.block.version ≡ v →
    block_number (width_of v) e.block.len e.block.value * 2 ^ (width_of v - e.block.len) ≡ e.block.value
block_start v e same =
    let W = width_of v in
    let free : e.block.value % 2 ^ (W - e.block.len) ≡ 0 = rw (← same) e.block.no_host_bit in
    whole e.block.value (2 ^ (W - e.block.len)) (pow_pos (W - e.block.len)) free

pub block_short : (v : Version) (e : Entry) → e.block.version ≡ v → e.block.len ≤ width_of v
block_short v e same = rw (← same) e.block.len_in_range

-- no block has more than 128 bits
pub short-block : (b : Block) → b.len ≤ 128
short-block b = let most = width-le b.version in omega (arith, most, b.len_in_range)

-- the ranks of distinct blocks in order ascend
pub ranks_ascend : (es : List Entry) → HasDistinctBlocks es → IsNonDecreasingBy (λ e. rank_of e.block) es
    → (i j : ℕ) (d : Entry) → i < j → j < length es → rank_of (get_or es i d).block < rank_of (get_or es j d).block
ranks_ascend es distinct ascending i j d less below =
    let b = (get_or es i d).block in
    let c = (get_or es j d).block in
    let few = short-block b in
    let few' = short-block c in
    elim (cases_eq (rank_of b) (rank_of c)) [
      | inl same ↦
          absurd (both_ways _ (apart_from_distinct same_block es i j d distinct less below)
          (and_from (b.value == c.value) (b.len == c.len) (eq-eqb b.value c.value (omega (arith, few, few', same)))
          (eq-eqb b.len c.len (omega (arith, few, few', same)))))
      | inr other ↦ let le = ascending i j d (omega (arith, less)) below in omega (arith, le, other)
    ]

-- of two blocks in order that share an address the second is no shorter
pub longer_later : (es : List Entry) → IsNonDecreasingBy (λ e. rank_of e.block) es → LongerLater es
longer_later es ascending i j d le below a version first second =
    let e = get_or es i d in
    let f = get_or es j d in
    let W = width_of e.block.version in
    elim (cases_lt f.block.len e.block.len) [
      | inl shorter ↦
          let there = subst (λ (v : Version). block_number (width_of v) f.block.len a ≡ block_number (width_of v) f.block.len f.block.value) (sym version) second in
          let number = block_number-shorter W f.block.len e.block.len e.block.value a (omega (arith, shorter)) e.block.len_in_range (sym first) ∙ there in
          let start = block_start e.block.version f (sym version) in
          let begins = address-first W f.block.len (block_number W f.block.len f.block.value) e.block.value number in
          absurd (omega (arith, start, begins, ascending i j d le below, shorter))
      | inr short ↦ short
    ]

same_start : (W n a b : ℕ) → block_number W n a ≡ block_number W n b → block_number W n a * 2 ^ (W - n) ≡ a →
    block_number W n b * 2 ^ (W - n) ≡ b → a ≡ b
same_start W n a b same left right = sym left ∙ ap (λ (k : ℕ). k * 2 ^ (W - n)) same ∙ right

-- entries with the same block have the same start and length
pub same_block-from : (v : Version) (d e : Entry) → d.block.version ≡ v → e.block.version ≡ v → d.block.len ≡ e.block.len →
    block_number (width_of v) d.block.len d.block.value ≡ block_number (width_of v) e.block.len e.block.value → same_block d e ≡ true
same_block-from v d e left right bits number =
    let W = width_of v in
    let start : d.block.value ≡ e.block.value =
    same_start W e.block.len d.block.value e.block.value (rw bits at number) (rw bits at (block_start v d left)) (block_start v e right) in
    and_from (d.block.value == e.block.value) (d.block.len == e.block.len) (eq-eqb d.block.value e.block.value start)
    (eq-eqb d.block.len e.block.len bits)

apart : (v : Version) (table : List (List ℕ)) (d e : Entry) → d.block.version ≡ v → e.block.version ≡ v → same_block d e ≡ false →
    is_same_prefix (width_of v) (prefix_of table d) (prefix_of table e) ≡ false
apart v table d e left right other =
    let W = width_of v in
    false_from_ne_true (is_same_prefix W (prefix_of table d) (prefix_of table e))
    (λ h. let parts = and_parts (d.block.len == e.block.len) (block_number W d.block.len d.block.value == block_number W e.block.len e.block.value) h in
    both_ways (same_block d e) other
    (same_block-from v d e left right (eqb-true d.block.len e.block.len parts.0)
    (eqb-true (block_number W d.block.len d.block.value) (block_number W e.block.len e.block.value) parts.1)))

pub distinct-list_of : (l : PrefixList) → IsDistinct (is_same_prefix (width_of l.version)) (list_of l).prefixes
distinct-list_of l =
    let W = width_of l.version in
    distinct_to_map (prefix_of l.labels) (is_same_prefix W) l.entries
    (IsDistinct-from_apart (λ d e. is_same_prefix W (prefix_of l.labels d) (prefix_of l.labels e)) l.entries
    (λ i j d under within.
    apart l.version l.labels (get_or l.entries i d) (get_or l.entries j d) (l.one_version i d (omega arith))
    (l.one_version j d within) (apart_from_distinct same_block l.entries i j d l.blocks_distinct under within)))
