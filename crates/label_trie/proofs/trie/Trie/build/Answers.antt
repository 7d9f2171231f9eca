use Rattle.std.proofs.Common.{◌∙◌, ◌^◌, ◌<◌, Some, length, arith, refl}
use Rattle.std.proofs.Math.Nat.{mul-le-mul_right}
use Rattle.prefix_keys.specs.Block.{width_of}
use Rattle.prefix_keys.proofs.Groups.{width-le}
use Rattle.pmap_model.specs.MapText.{map_of}
use Rattle.pmap_model.specs.Settled.{IsMapOf}
use Rattle.pmap_stretches.proofs.Settling.{map_is}
use Rattle.label_trie.proofs.Leaves.{leaves_settled, leaves_undivided, map_bounded, space_cut}
use Rattle.label_trie.proofs.Lookup.{text_held_in}
use Rattle.label_trie.proofs.trie.Trie.build.Goals as goal

pub trie_of-requires : goal.trie_of-requires
trie_of-requires c =
    let s = c.in_ok-stretches.stretches in
    let map = c.args.map.now in
    let few = mul-le-mul_right (length map.statements) (width-le s.version) in
    omega (arith, map_bounded s map.statements (Some map.default) c.in_ok-stretches.ensures.stretches, few, map.within_limit)

pub returns : goal.returns
returns c =
    let s = c.in_ok-stretches.stretches in
    let map = c.args.map.now in
    let is = c.in_ok-stretches.ensures in
    let are = is.stretches in
    let own : IsMapOf (width_of s.version) map.statements (Some map.default) (map_of map) = rw is.version (map_is map) in
    let trie = c.in_ok-trie.ensures in
    record {
      version = trie.version ∙ is.version;
      cut = rw (trie.leaves, ← is.version) (space_cut s are.every);
      settled = rw trie.leaves (leaves_settled s map.statements (Some map.default) are refl (map_of map) own);
      undivided = rw trie.leaves (leaves_undivided s map.statements (Some map.default) are refl (map_of map) own);
      labels = λ a below.
          let fits : a < 2 ^ width_of s.version = rw is.version below in
          rw (trie.version, trie.leaves) (text_held_in s are.every map.labels a fits ∙ is.labels a below);
      bounded = rw (trie.leaves, ← is.version) (map_bounded s map.statements (Some map.default) are);
    }
