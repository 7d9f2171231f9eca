use Rattle.std.proofs.Common.{◌∙◌, ◌<◌, length, subst, sym}
use Rattle.std.proofs.lemmas.List.{get_or_default}
use Rattle.label_trie.specs.Stored.{IsStoredAs}
use Rattle.label_trie.specs.TrieModel.{TrieModel}
use Rattle.label_trie.proofs.trie.Trie.stored.Goals as goal

pub returns : goal.returns
returns c =
    let items = c.self.inside.nodes.items in
    let below : c.args.number < length items = rw (← c.self.invariant.count) at (rw (← c.self.view_is) at c.requires) in
    subst (λ (t : TrieModel). IsStoredAs t c.args.number c.index.result.now) c.self.view_is
    (subst (IsStoredAs _ c.args.number) (get_or_default items c.args.number _ _ below ∙ sym c.index.ensures) (c.self.invariant.each c.args.number below))
