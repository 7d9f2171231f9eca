use Rattle.std.proofs.Common.{◌∙◌, ◌^◌, ◌<◌, length, arith}
use Rattle.std.proofs.Math.Nat.{mul-le-mul_right}
use Rattle.prefix_keys.specs.Block.{width_of}
use Rattle.prefix_keys.proofs.Groups.{width-le}
use Rattle.label_trie.proofs.Leaves.{space_cut}
use Rattle.label_trie.proofs.ListBuilt.{list_bounded, list_decided}
use Rattle.label_trie.proofs.Lookup.{text_held_in}
use Rattle.label_trie.proofs.trie.Trie.build_list.Goals as goal

pub trie_of-requires : goal.trie_of-requires
trie_of-requires c =
    let s = c.in_ok-stretches.stretches in
    let list = c.args.list.now in
    let is = c.in_ok-stretches.ensures in
    let few = mul-le-mul_right (length list.entries) (width-le s.version) in
    omega (arith, list_bounded list s is.version is.stretches.0 is.stretches.1 is.stretches.2, few, c.requires)

pub returns : goal.returns
returns c =
    let s = c.in_ok-stretches.stretches in
    let list = c.args.list.now in
    let is = c.in_ok-stretches.ensures in
    let every = is.stretches.2.every in
    let trie = c.in_ok-trie.ensures in
    record {
      version = trie.version ∙ is.version;
      cut = rw (trie.leaves, ← is.version) (space_cut s every);
      decided = rw trie.leaves (list_decided list s is.version is.stretches.0 is.stretches.1 is.stretches.2);
      labels = λ a below.
          let fits : a < 2 ^ width_of s.version = rw is.version below in
          rw (trie.version, trie.leaves) (text_held_in s every list.labels a fits ∙ is.labels a below);
      bounded = rw (trie.leaves, ← is.version) (list_bounded list s is.version is.stretches.0 is.stretches.1 is.stretches.2);
    }
