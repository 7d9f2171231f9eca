use Rattle.std.proofs.Common.{◌≡◌, ◌∙◌, ◌+◌, ◌*◌, ◌<◌, ◌-◌, ◌++◌, ◌∷◌, [], List, ℕ, ap, arith, length, length-append, sym}
use Rattle.std.proofs.Math.ListN.{set}
use Rattle.std.proofs.Math.Seq.{set-append_seam}
use Rattle.std.proofs.lemmas.List.{append_assoc}
use Rattle.std.proofs.lemmas.Result.{on_ok_weaker}
use Rattle.pmap_stretches.specs.Stretches.{StretchesModel, label_at}
use Rattle.pmap_stretches.specs.declared.stretches.window.Window.{Window}
use Rattle.prefix_keys.specs.Block.{width_of}
use Rattle.pmap_stretches.specs.Windows.{window_number}
use Rattle.pmap_stretches.proofs.Windows.{window_some}
use Rattle.label_trie.specs.Leaves.{leaves_of}
use Rattle.label_trie.specs.Nodes.{leaf_stored, stored_of}
use Rattle.label_trie.specs.declared.node.TrieNode.{TrieNode}
use Rattle.label_trie.specs.declared.node.TrieNode.TheVariants.{Inner}
use Rattle.label_trie.proofs.Nodes.{leaves_both, length-stored, stored_both, stored_one}
use Rattle.label_trie.proofs.trie.+push_nodes.Goals as goal
use Rattle.label_trie.proofs.trie.+push_nodes.Goals.{in-Some, in-None}

pub returns-then-window : goal.returns-then-window
returns-then-window t c =
    let s = c.args.stretches.now in
    let leaf : c.match-label.leaf ≡ leaf_stored (label_at s c.args.window.from) = elim c.match-label.branch [
      | in-Some w ↦ w.leaf-is ∙ ap leaf_stored (sym w.in-Some.is ∙ c.label.ensures)
      | in-None w ↦ w.leaf-is ∙ ap leaf_stored (sym w.in-None.is ∙ c.label.ensures)
    ] in
    c.in_ok-push.ensures.items ∙ ap (λ (n : TrieNode). c.args.nodes.now.items ++ n ∷ []) leaf
    ∙ ap (λ (l : List TrieNode). c.args.nodes.now.items ++ l)
    (sym (stored_one s c.laws.ensures.every c.args.window c.requires.window (length c.args.nodes.now.items) c.if-window.true))

pub halves-requires-clause-some : goal.halves-requires-clause-some
halves-requires-clause-some t c = window_some c.args.stretches.now c.laws.ensures.every c.args.window c.requires.window c.if-window.false

high_some : (s : StretchesModel) (w : Window) → 0 < length (leaves_of s w)
high_some s w = omega (arith, length-stored s (width_of s.version - w.len) w.len (window_number s w) 0)

pub push_nodes-requires : goal.push_nodes-requires
push_nodes-requires t c =
    let are = c.halves.ensures in
    let both = leaves_both c.args.stretches.now c.laws.ensures.every c.args.window c.requires.window c.if-window.false c.halves.result.0 c.halves.result.1 are in
    let pushed = ap length c.in_ok-push-2.ensures.items ∙ length-append c.args.nodes.now.items (Inner 0 ∷ []) in
    (omega (arith, c.decreases, are.low_len, are.low_window.within), (are.low_window, omega (arith, both, pushed, c.requires.few, high_some c.args.stretches.now c.halves.result.1)))

-- a list after the number of the upper half is set in its first node
joined : (old pushed first : List TrieNode) (number upper : ℕ) (lows : List TrieNode) → number ≡ length old → pushed ≡ old ++ Inner 0 ∷ [] → first ≡ pushed ++ lows
    → set first number (Inner upper) ≡ old ++ Inner upper ∷ lows
joined old pushed first number upper lows number_is is more =
    (λ i. set ((more ∙ ap (λ (l : List TrieNode). l ++ lows) is ∙ append_assoc old (Inner 0 ∷ []) lows) i) (number_is i) (Inner upper))
    ∙ set-append_seam old (Inner 0) lows (Inner upper)

-- the number of the upper half
counted : (old pushed first lows : List TrieNode) (leaves : ℕ) → pushed ≡ old ++ Inner 0 ∷ [] → first ≡ pushed ++ lows → length lows + 1 ≡ 2 * leaves → length first ≡ length old + 2 * leaves
counted old pushed first lows leaves is more counts =
    omega (arith, ap length more, length-append pushed lows, ap length is, length-append old (Inner 0 ∷ []), counts)

pub overflow_cast-len : goal.overflow_cast-len
overflow_cast-len t c =
    let s = c.args.stretches.now in
    let both = leaves_both s c.laws.ensures.every c.args.window c.requires.window c.if-window.false c.halves.result.0 c.halves.result.1 c.halves.ensures in
    let upper = counted _ _ _ _ _ c.in_ok-push-2.ensures.items c.in_ok-push_nodes.ensures (length-stored s _ _ _ _) in
    omega (arith, both, c.requires.few, c.len.ensures, upper)

pub push_nodes-requires-2 : goal.push_nodes-requires-2
push_nodes-requires-2 t c =
    let s = c.args.stretches.now in
    let are = c.halves.ensures in
    let both = leaves_both s c.laws.ensures.every c.args.window c.requires.window c.if-window.false c.halves.result.0 c.halves.result.1 are in
    let old = c.args.nodes.now.items in
    let lows = stored_of s c.halves.result.0 (length c.push-2.new.self.items) in
    let number = c.len-number.ensures ∙ c.args.nodes.now.ok.0 in
    let set_is = joined old _ _ c.len-number.result c.len.result lows number c.in_ok-push-2.ensures.items c.in_ok-push_nodes.ensures in (
      omega (arith, c.decreases, are.high_len, are.high_window.within),
      (
        are.high_window,
        omega (
          arith,
          both,
          c.requires.few,
          ap length set_is,
          length-append old (Inner c.len.result ∷ lows),
          length-stored s (width_of s.version - c.halves.result.0.len) c.halves.result.0.len (window_number s c.halves.result.0) (length c.push-2.new.self.items),
        ),
      ),
    )

pub returns : goal.returns
returns t c =
    let s = c.args.stretches.now in
    let are = c.halves.ensures in
    let old = c.args.nodes.now.items in
    let low = c.halves.result.0 in
    let high = c.halves.result.1 in
    let k = length old in
    let pushed : length c.push-2.new.self.items ≡ k + 1 = ap length c.in_ok-push-2.ensures.items ∙ length-append old (Inner 0 ∷ []) in
    let first = c.in_ok-push_nodes.ensures ∙ ap (λ (n : ℕ). c.push-2.new.self.items ++ stored_of s low n) pushed in
    let all_lows = length-stored s (width_of s.version - low.len) low.len (window_number s low) (k + 1) in
    let next = counted old _ _ (stored_of s low (k + 1)) (length (leaves_of s low)) c.in_ok-push-2.ensures.items first all_lows in
    let upper : c.len.result ≡ k + 2 * length (leaves_of s low) = c.len.ensures ∙ c.push_nodes.new.nodes.ok.0 ∙ next in
    let number = c.len-number.ensures ∙ c.args.nodes.now.ok.0 in
    let set_is = joined old _ _ c.len-number.result c.len.result (stored_of s low (k + 1)) number c.in_ok-push-2.ensures.items first in
    let count : length (set c.push_nodes.new.nodes.items c.len-number.result (Inner c.len.result)) ≡ k + 2 * length (leaves_of s low) =
    ap length set_is ∙ length-append old (Inner c.len.result ∷ stored_of s low (k + 1)) ∙ omega (arith, all_lows) in
    on_ok_weaker c.push_nodes-2.result
    (λ all. all ∙ (λ i. set_is i ++ stored_of s high (count i)) ∙ append_assoc old (Inner c.len.result ∷ stored_of s low (k + 1)) (stored_of s high (k + 2 * length (leaves_of s low)))
    ∙ ap (λ (u : ℕ). old ++ (Inner u ∷ (stored_of s low (k + 1) ++ stored_of s high (k + 2 * length (leaves_of s low))))) upper
    ∙ ap (λ (l : List TrieNode). old ++ l) (sym (stored_both s c.laws.ensures.every c.args.window c.requires.window c.if-window.false low high are k)))
    c.push_nodes-2.ensures
