use Rattle.std.proofs.Common.{◌≡◌, ◌+◌, ◌*◌, arith}
use Rattle.prefix_keys.specs.Block.{block_number, width_of}
use Rattle.label_trie.specs.TrieModel.{number_of}
use Rattle.label_trie.proofs.Places.{is_half, place_divided}
use Rattle.label_trie.proofs.cursor.Cursor.parts.Goals as goal

pub returns-in-Some : goal.returns-in-Some
returns-in-Some c =
    let inside = c.self.inside in
    let block = inside.block in
    let low = c.cursor_at.ensures in
    let high = c.cursor_at-in-Inner.ensures in
    let number : block_number (width_of block.version) (block.len + 1) c.in-Some.low.value ≡ 2 * number_of block + 0 = omega (arith, c.in-Some.ensures.lower_number) in
    rw (← c.self.view_is)
    (place_divided inside.trie.now inside.number c.in-Inner.upper block c.cursor_at.result c.cursor_at-in-Inner.result c.self.invariant c.in-Inner.ensures
    (rw low.block (is_half 0 block c.in-Some.low c.in-Some.ensures.versions.0 c.in-Some.ensures.lens.0 number))
    (rw high.block (is_half 1 block c.in-Some.high c.in-Some.ensures.versions.1 c.in-Some.ensures.lens.1 c.in-Some.ensures.upper_number))
    low.leaves high.leaves low.number high.number low.nodes high.nodes)
