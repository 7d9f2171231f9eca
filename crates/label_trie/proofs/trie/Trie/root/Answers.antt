use Rattle.std.proofs.Common.{◌∙◌, ap}
use Rattle.label_trie.specs.TrieModel.{TrieModel}
use Rattle.label_trie.proofs.Places.{placed, whole_number}
use Rattle.label_trie.proofs.trie.Trie.root.Goals as goal

pub cursor_at-requires : goal.cursor_at-requires
cursor_at-requires c =
    let whole = c.whole.ensures in
    placed c.args.self.now 0 _ c.whole.result (rw c.self.view_is at c.self.invariant.root)
    (whole.version ∙ ap (λ (t : TrieModel). t.version) c.self.view_is) whole.len (whole_number c.whole.result whole.value)
