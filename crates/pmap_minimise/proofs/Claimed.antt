-- The lines of the certificate that is built from a trie, from the last node to the first.
use Rattle.std.proofs.Common.{◌≡◌, ℕ, suc, ◌+◌, ◌-◌, ◌*◌, ◌^◌, ◌<◌, ◌≤◌, ◌∙◌, inl, inr, List, [], ◌∷◌, ◌++◌, All, IsSome, None, Some, length, reverse, slice_get, take, refl, sym, ap, subst, arith, length-append, true≢false}
use Rattle.std.proofs.Math.Seq.{take-length}
use Rattle.std.proofs.lemmas.Bool.{cases_eq}
use Rattle.std.proofs.lemmas.List.{length-take-le, take-append-le}
use Rattle.std.proofs.lemmas.List.Elements.{All-head}
use Rattle.std.proofs.lemmas.Option.{same_Some, slice_get_within}
use Rattle.prefix_keys.specs.Block.{width_of}
use Rattle.pmap_model.specs.MapModel.{IsSettled}
use Rattle.pmap_model.specs.MapText.{text_at}
use Rattle.pmap_model.proofs.Finds.{All-left, All-right}
use Rattle.pmap_cert.specs.FormatReading.{DueLine, InnerLine, LeafLine}
use Rattle.pmap_cert.specs.CertificateText.{IsAscending}
use Rattle.pmap_cert.specs.CertificateModel.{InnerNode, LeafNode, claim_of}
use Rattle.pmap_cert.specs.Node.{Node, node_lines}
use Rattle.label_trie.specs.Stored.{IsInnerAt, IsLeafAt, IsNodeAt}
use Rattle.label_trie.specs.TrieModel.{IsSettledLeaf, IsUndivided, LeafModel, NodeModel, TrieModel}
use Rattle.pmap_minimise.specs.Built.{AddsInner, AreHalves}
use Rattle.pmap_minimise.specs.Numbers.{IsCertified, IsExact, IsMapNode, IsSound}
use Rattle.pmap_minimise.proofs.BuiltNodes.{HasClaimOf, are-halves, earlier-claim, inner-lines, last-claim, reversed-lines}
use Rattle.pmap_minimise.proofs.Joined.{joined-in, joined-sound, moved}
use Rattle.pmap_minimise.proofs.Texts.{exact-ascending, exact-cost}

-- the lines of the certificate's node for a trie's node were added, among addresses of W bits
pub record IsClaimed (W : ℕ) (place : NodeModel) (old new : List DueLine) : Type 0 where
  pub node : Node
  pub certified : IsCertified place.bits place.number (W - place.bits) place.leaves node
  pub ascending : IsAscending (2 ^ 32) 0 (claim_of node).labels
  pub lines_are : new ≡ old ++ reverse (node_lines node)

leaf-claimed : (W : ℕ) (leaf : LeafModel) (id : ℕ) (old new : List DueLine) → id < 2 ^ 32 → leaf.label ≡ Some id → new ≡ old ++ LeafLine id ∷ []
    → IsClaimed W (record { bits = leaf.bits; number = leaf.number; leaves = leaf ∷ [] }) old new
leaf-claimed W leaf id old new fits label_is lines = record {
  node = LeafNode id;
  certified = record {
    each = λ m ok settled undivided.
        let own = All-head (IsSettledLeaf m) leaf [] settled in
        let same = same_Some own.id id (sym own.is ∙ label_is) in
        record { stands = subst (λ (k : ℕ). IsSettled m leaf.bits leaf.number (text_at m.table k)) same own.settled; form = (subst (λ (k : ℕ). k < length m.table) same own.known, tt) };
    sound = tt;
    cost = omega arith;
  };
  ascending = (omega arith, fits, tt);
  lines_are = lines;
}

-- a node whose halves were added, the higher one first
module _ (t : TrieModel) (number upper : ℕ) (inner : IsInnerAt t number upper) (few : length t.leaves < 2 ^ 32) (old middle after : List DueLine)
    (above : IsClaimed (width_of t.version) inner.high old middle) (below : IsClaimed (width_of t.version) inner.low middle after) where
  abbrev W : ℕ
  W = width_of t.version

  abbrev c : NodeModel
  c = inner.whole

  low-claim : HasClaimOf after (length after - 1) below.node
  low-claim = last-claim middle after below.node below.lines_are

  high-claim : HasClaimOf after (length middle - 1) above.node
  high-claim = earlier-claim old middle after above.node below.node above.lines_are below.lines_are

  count : length c.leaves ≡ length inner.low.leaves + length inner.high.leaves
  count = ap length inner.leaves ∙ length-append inner.low.leaves inner.high.leaves

  some-leaves : length c.leaves ≤ length t.leaves
  some-leaves =
      let at = inner.whole_at in
      omega (arith, ap length at.among, length-append at.before (c.leaves ++ at.after), length-append c.leaves at.after)

  pub halves-claims : AreHalves after (length middle - 1)
  halves-claims =
      let a = below.certified.cost in
      let b = above.certified.cost in
      are-halves after (length middle - 1) below.node above.node low-claim high-claim below.ascending above.ascending (omega (arith, count, some-leaves, few))

  pub halves-claimed : (new : List DueLine) → AddsInner (length middle - 1) after new → IsClaimed W c old new
  halves-claimed new adds =
      let room : ℕ = W - inner.low.bits in
      let within = inner.low_at.within in
      let len = inner.low_bits in
      let all : suc room ≡ W - c.bits = omega arith in
      let high_room : W - inner.high.bits ≡ room = omega (arith, inner.high_bits) in
      let low_len : inner.low.bits ≡ suc c.bits = omega (arith, len) in
      let high_len : inner.high.bits ≡ suc c.bits = omega (arith, inner.high_bits) in
      let exact : IsExact (claim_of below.node) (claim_of above.node) adds.claim = rw (low-claim.claim, high-claim.claim) at adds.exact in
      let node = InnerNode adds.claim below.node above.node in
      let cheap : adds.claim.cost < length c.leaves =
      let most = exact-cost (claim_of below.node) (claim_of above.node) adds.claim exact in
      omega (arith, count, most, below.certified.cost, above.certified.cost) in
      record {
        node = node;
        certified = record {
          each = λ m ok settled undivided.
              let settled' = subst (λ (l : List LeafModel). All (IsSettledLeaf m) l) inner.leaves settled in
              let undivided' = subst (λ (l : List LeafModel). All (IsUndivided m) l) inner.leaves undivided in
              let low = inner.low.leaves in
              let high = inner.high.leaves in
              subst (λ (h : ℕ). IsMapNode m c.bits c.number h node) all
              (joined-in m c.bits c.number room below.node above.node adds.claim ok (inner.unsettled m undivided)
              (moved m _ _ _ _ _ _ below.node low_len inner.low_number refl (below.certified.each m ok (All-left (IsSettledLeaf m) low high settled') (All-left (IsUndivided m) low high undivided')))
              (moved m _ _ _ _ _ _ above.node high_len inner.high_number high_room (above.certified.each m ok (All-right (IsSettledLeaf m) low high settled') (All-right (IsUndivided m) low high undivided'))) exact (omega (arith, cheap, some-leaves, few)));
          sound = subst (IsSound node) all
              (joined-sound room below.node above.node adds.claim below.certified.sound (subst (IsSound above.node) high_room above.certified.sound) exact);
          cost = cheap;
        };
        ascending = exact-ascending (2 ^ 32) (claim_of below.node) (claim_of above.node) adds.claim below.ascending above.ascending exact;
        lines_are = inner-lines old middle after new adds.claim below.node above.node above.lines_are below.lines_are adds.lines_are;
      }

-- The node with the number k has its lines among these. They follow those of the nodes with greater numbers that are not
-- below it.
pub record IsClaimedAt (t : TrieModel) (lines : List DueLine) (k : ℕ) (place : NodeModel) : Type 0 where
  pub from : ℕ
  pub to : ℕ
  pub claimed : IsClaimed (width_of t.version) place (take from lines) (take to lines)
  pub from_is : from + 2 * length place.leaves + k ≡ length t.nodes + 1
  pub to_is : to + k ≡ length t.nodes

-- The lines are those of the nodes from the number n on. The leaves can be counted in 32 bits.
pub record AreClaimed (t : TrieModel) (n : ℕ) (lines : List DueLine) : Type 0 where
  pub few : length t.leaves < 2 ^ 32
  pub count : length lines + n ≡ length t.nodes
  pub each : (k : ℕ) (place : NodeModel) → n ≤ k → slice_get t.nodes k ≡ Some place → IsClaimedAt t lines k place

-- at the end no node is left
pub none-claimed : (t : TrieModel) (lines : List DueLine) → length t.leaves < 2 ^ 32 → lines ≡ [] → AreClaimed t (length t.nodes) lines
none-claimed t lines few none = record {
  few = few;
  count = omega (arith, ap length none);
  each = λ k place from there. absurd (omega (arith, from, slice_get_within t.nodes k place there));
}

-- all lines of a list
whole : (lines : List DueLine) (n : ℕ) → n ≡ length lines → take n lines ≡ lines
whole lines n is = ap (λ (k : ℕ). take k lines) is ∙ take-length lines

-- one more line, that of the node before those that have theirs
module _ (t : TrieModel) (number : ℕ) (lines : List DueLine) (some : 0 < number) (are : AreClaimed t number lines) where
  abbrev n : ℕ
  n = number - 1

  more-claimed : (new : List DueLine) (line : DueLine) (place : NodeModel) (from : ℕ) → new ≡ lines ++ line ∷ [] → slice_get t.nodes n ≡ Some place
      → IsClaimed (width_of t.version) place (take from lines) new → from + 2 * length place.leaves + n ≡ length t.nodes + 1 → AreClaimed t n new
  more-claimed new line place from is there claimed from_is =
      let longer : length new ≡ length lines + 1 = ap length is ∙ length-append lines (line ∷ []) in
      let kept : (i : ℕ) → i ≤ length lines → take i lines ≡ take i new = λ i most. sym (ap (take i) is ∙ take-append-le i lines (line ∷ []) most) in
      let some_leaves = claimed.certified.cost in
      let all = are.count in
      record {
        few = are.few;
        count = omega (arith, are.count, longer);
        each = λ k other beyond at. elim (cases_eq n k) [
          | inl same ↦
              let own : IsClaimedAt t new n place = record {
                from = from;
                to = length new;
                claimed = subst (λ (l : List DueLine). IsClaimed (width_of t.version) place l (take (length new) new)) (kept from (omega arith))
                    (subst (IsClaimed (width_of t.version) place (take from lines)) (sym (whole new (length new) refl)) claimed);
                from_is = from_is;
                to_is = omega (arith, are.count, longer);
              } in
              subst (λ (i : ℕ). IsClaimedAt t new i other) same (subst (IsClaimedAt t new n) (same_Some _ _ (sym there ∙ ap (slice_get t.nodes) same ∙ at)) own)
          | inr later ↦
              let older = are.each k other (omega (arith, beyond, later)) at in
              let leaves = older.claimed.certified.cost in
              record {
                from = older.from;
                to = older.to;
                claimed = subst (λ (l : List DueLine). IsClaimed (width_of t.version) other l (take older.to new)) (kept older.from (omega (arith, older.from_is, are.count, beyond, later)))
                    (subst (IsClaimed (width_of t.version) other (take older.from lines)) (kept older.to (omega (arith, older.to_is, are.count, beyond, later))) older.claimed);
                from_is = older.from_is;
                to_is = older.to_is;
              }
        ];
      }

  pub leaf-added : (id : ℕ) (new : List DueLine) → id < 2 ^ 32 → IsLeafAt t n (Some id) → new ≡ lines ++ LeafLine id ∷ [] → AreClaimed t n new
  leaf-added id new fits leaf is =
      more-claimed new (LeafLine id) _ (length lines) is leaf.at.there
      (leaf-claimed (width_of t.version) leaf.leaf id _ new fits leaf.label_is (is ∙ ap (λ (l : List DueLine). l ++ LeafLine id ∷ []) (sym (whole lines (length lines) refl)))) (omega (arith, are.count))

  module _ (upper : ℕ) (inner : IsInnerAt t n upper) where
    below : IsClaimedAt t lines (n + 1) inner.low
    below = are.each (n + 1) inner.low (omega arith) inner.low_at.there

    above : IsClaimedAt t lines upper inner.high
    above = are.each upper inner.high (let some_leaves = below.claimed.certified.cost in omega (arith, inner.upper_is)) inner.high_at.there

    -- the lines of the lower half are the last ones, and follow those of the upper half
    lower : IsClaimed (width_of t.version) inner.low (take above.to lines) lines
    lower =
        let seam : below.from ≡ above.to = omega (arith, below.from_is, above.to_is, inner.upper_is) in
        subst (λ (i : ℕ). IsClaimed (width_of t.version) inner.low (take i lines) lines) seam
        (subst (IsClaimed (width_of t.version) inner.low (take below.from lines)) (whole lines below.to (omega (arith, below.to_is, are.count))) below.claimed)

    line_is : (line : ℕ) → line + 1 + upper ≡ length t.nodes → length (take above.to lines) - 1 ≡ line
    line_is line is =
        let some_leaves = below.claimed.certified.cost in
        let most : above.to ≤ length lines = omega (arith, above.to_is, are.count, inner.upper_is) in
        omega (arith, length-take-le above.to lines most, above.to_is, is)

    pub upper-below : upper < length t.nodes
    upper-below = slice_get_within t.nodes upper inner.high inner.high_at.there

    pub inner-halves : (line : ℕ) → line + 1 + upper ≡ length t.nodes → AreHalves lines line
    inner-halves line is =
        subst (AreHalves lines) (line_is line is) (halves-claims t n upper inner are.few (take above.from lines) (take above.to lines) lines above.claimed lower)

    pub inner-added : (line : ℕ) (new : List DueLine) → line + 1 + upper ≡ length t.nodes → AddsInner line lines new → AreClaimed t n new
    inner-added line new is adds =
        more-claimed new (InnerLine adds.claim.cost adds.claim.labels) inner.whole above.from adds.lines_are inner.whole_at.there
        (halves-claimed t n upper inner are.few (take above.from lines) (take above.to lines) lines above.claimed lower new
        (subst (λ (k : ℕ). AddsInner k lines new) (sym (line_is line is)) adds))
        (omega (arith, above.from_is, inner.upper_is, ap length inner.leaves, length-append inner.low.leaves inner.high.leaves))

-- a leaf of a trie whose leaves have labels has one
pub unlabelled : (t : TrieModel) (n : ℕ) → All (λ leaf. IsSome leaf.label) t.leaves → IsLeafAt t n None → ⊥
unlabelled t n all is =
    let own = is.at in
    let rest = All-right (λ (leaf : LeafModel). IsSome leaf.label) own.before ((is.leaf ∷ []) ++ own.after) (rw own.among at all) in
    let some = All-head (λ (leaf : LeafModel). IsSome leaf.label) is.leaf own.after rest in
    true≢false (sym (rw is.label_is at some))

-- the lines of all nodes are the certificate's
pub root-claimed : (t : TrieModel) (lines : List DueLine) → IsNodeAt t 0 (record { bits = 0; number = 0; leaves = t.leaves }) → length t.nodes + 1 ≡ 2 * length t.leaves
    → AreClaimed t 0 lines → (node : Node) × (reverse lines ≡ node_lines node) × IsCertified 0 0 (width_of t.version) t.leaves node
root-claimed t lines place twice are =
    let here = are.each 0 _ (omega arith) place.there in
    let first : here.from ≡ 0 = omega (arith, here.from_is, twice) in
    let last = whole lines here.to (omega (arith, here.to_is, are.count)) in
    let room : width_of t.version - 0 ≡ width_of t.version = omega arith in (
      here.claimed.node,
      reversed-lines (take here.from lines) lines here.claimed.node (ap (λ (i : ℕ). take i lines) first) (sym last ∙ here.claimed.lines_are),
      subst (λ (h : ℕ). IsCertified 0 0 h t.leaves here.claimed.node) room here.claimed.certified,
    )
