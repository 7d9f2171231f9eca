-- What a block adds to the lines of the compact certificate that is built.
use Rattle.std.proofs.Common.{◌≡◌, ℕ, zero, suc, ◌+◌, ◌-◌, ◌^◌, ◌<◌, ◌≤◌, ◌∙◌, inl, inr, List, [], ◌∷◌, ◌++◌, Option, Some, None, length, reverse, slice_index_or, get_or, nat_eq, refl, sym, ap, subst, arith, length-append}
use Rattle.std.specs.Option.{option_or}
use Rattle.std.proofs.Math.Seq.{get_or-append_seam}
use Rattle.std.proofs.Math.Nat.{mul-le-mul_right, zero-div}
use Rattle.std.proofs.lemmas.List.{append_assoc, append-nil, reverse-append, reverse-reverse}
use Rattle.std.proofs.lemmas.Option.{none-some, same_Some}
use Rattle.prefix_keys.specs.Block.{block_number, width_of}
use Rattle.pmap_model.specs.MapText.{map_of}
use Rattle.pmap_stretches.specs.Stretches.{AreStretches, StretchesModel}
use Rattle.pmap_model.specs.declared.map_text.MapText.{MapText}
use Rattle.pmap_cert.specs.FormatReading.{ChainLine, DueLine, InnerLine, LeafLine}
use Rattle.pmap_cert.specs.CertificateModel.{ChainNode, ClaimOf, InnerNode, LeafNode, claim_of}
use Rattle.pmap_cert.specs.Compacting.{compacted, leaf_label, side_of, spine_bits, spine_end}
use Rattle.pmap_cert.specs.Node.{Node, node_lines, node_of}
use Rattle.pmap_cert.specs.CertificateText.{IsAscending}
use Rattle.pmap_cert.specs.Inner.{IsShort, side_below}
use Rattle.pmap_cert.proofs.CompactNodes.{compact-chain, compact-short}
use Rattle.pmap_cert.proofs.Spines.{compacted-leaf}
use Rattle.pmap_model.specs.MapModel.{MapModel}
use Rattle.pmap_model.specs.Label.{IsLabelTable}
use Rattle.pmap_model.proofs.Ends.{ends_most}
use Rattle.pmap_stretches.proofs.Settling.{map_is}
use Rattle.pmap_minimise.specs.Spines.{AreCountable, AreCountedHalves, HasNoLongSpine, IsCounted, IsChoice, IsWindowNode, IsMapOn, AreSteps, IsSpineTo, IsStepInto, IsStop, own_label}
use Rattle.pmap_stretches.specs.Windows.{IsWindow, window_number}
use Rattle.pmap_stretches.specs.declared.stretches.window.Window.{Window}
use Rattle.pmap_minimise.specs.Built.{AddsInner, AreHalves, IsBuilt, IsBuiltIn, claim_at, last_claim}
use Rattle.pmap_cert.specs.Opened.{Opens, claim_above, cost_above, path_node}
use Rattle.pmap_cert.specs.Paths.{path_to}
use Rattle.pmap_cert.proofs.Paths.{path-length}
use Rattle.pmap_minimise.specs.Numbers.{IsExact, IsSound}
use Rattle.pmap_minimise.proofs.MadeNodes.{AreSameHalves, halves-made, leaf-made, made-side, made-stop, same-halves, spine-below, spine-down, spine-made, step-by}
use Rattle.pmap_minimise.proofs.Joined.{moved}
use Rattle.pmap_minimise.proofs.Texts.{exact-ascending}
use Rattle.prefix_keys.proofs.Groups.{width-le}
use Rattle.pmap_cert.proofs.OpenedTexts.{opens-claim}
use Rattle.pmap_minimise.proofs.Paths.{down-high, down-low}

-- the line with this index has the claim of the node
pub record HasClaimOf (lines : List DueLine) (number : ℕ) (node : Node) : Type 0 where
  pub inside : number < length lines
  pub claim : claim_at lines number ≡ claim_of node

-- the last of a node's lines in reverse order has the claim of the node
module _ (front more : List DueLine) where
  has-claim : (node : Node) (line : DueLine) (rest : List DueLine) → node_lines node ≡ line ∷ rest → claim_of (node_of line) ≡ claim_of node
      → HasClaimOf ((front ++ reverse (node_lines node)) ++ more) (length (front ++ reverse (node_lines node)) - 1) node
  has-claim node line rest is claim =
      let before = front ++ reverse rest in
      let whole : front ++ reverse (node_lines node) ≡ before ++ line ∷ [] =
      ap (λ (l : List DueLine). front ++ reverse l) is ∙ ap (λ (l : List DueLine). front ++ l) (reverse-append (line ∷ []) rest) ∙ sym (append_assoc front (reverse rest) (line ∷ [])) in
      let number : length (front ++ reverse (node_lines node)) - 1 ≡ length before = omega (arith, ap length whole, length-append before (line ∷ [])) in
      let there : slice_index_or ((front ++ reverse (node_lines node)) ++ more) (length (front ++ reverse (node_lines node)) - 1) (LeafLine 0) ≡ line =
      (λ i. get_or (whole i ++ more) (number i) (LeafLine 0)) ∙ ap (λ (l : List DueLine). get_or l (length before) (LeafLine 0)) (append_assoc before (line ∷ []) more)
      ∙ get_or-append_seam before line more (LeafLine 0) in
      record {
        inside = omega (arith, length-append (front ++ reverse (node_lines node)) more, ap length whole, length-append before (line ∷ []));
        claim = ap (λ (l : DueLine). claim_of (node_of l)) there ∙ claim;
      }

  pub node-claim : (node : Node) → HasClaimOf ((front ++ reverse (node_lines node)) ++ more) (length (front ++ reverse (node_lines node)) - 1) node
  node-claim (LeafNode label) = has-claim (LeafNode label) _ _ refl refl
  node-claim (InnerNode claim lower upper) = has-claim (InnerNode claim lower upper) _ _ refl refl
  node-claim (ChainNode claim bits side end) = has-claim (ChainNode claim bits side end) _ _ refl refl

-- lines that end with those of a node, in reverse order
pub last-claim : (front lines : List DueLine) (node : Node) → lines ≡ front ++ reverse (node_lines node) → HasClaimOf lines (length lines - 1) node
last-claim front lines node are =
    subst (λ (l : List DueLine). HasClaimOf l (length l - 1) node) (sym are)
    (subst (λ (l : List DueLine). HasClaimOf l (length (front ++ reverse (node_lines node)) - 1) node) (append-nil (front ++ reverse (node_lines node))) (node-claim front [] node))

-- and lines to which those of another node were added
pub earlier-claim : (front middle lines : List DueLine) (node other : Node) → middle ≡ front ++ reverse (node_lines node) → lines ≡ middle ++ reverse (node_lines other)
    → HasClaimOf lines (length middle - 1) node
earlier-claim front middle lines node other are more =
    subst (λ (l : List DueLine). HasClaimOf l (length middle - 1) node) (sym more)
    (subst (λ (l : List DueLine). HasClaimOf (l ++ reverse (node_lines other)) (length l - 1) node) (sym are) (node-claim front (reverse (node_lines other)) node))

-- an inner node's line completes the lines of its halves
pub inner-lines : (old middle after new : List DueLine) (claim : ClaimOf ℕ) (lower upper : Node) → middle ≡ old ++ reverse (node_lines upper) → after ≡ middle ++ reverse (node_lines lower)
    → new ≡ after ++ InnerLine claim.cost claim.labels ∷ [] → new ≡ old ++ reverse (node_lines (InnerNode claim lower upper))
inner-lines old middle after new claim lower upper high low own =
    let line = InnerLine claim.cost claim.labels ∷ [] in
    let up = reverse (node_lines upper) in
    let down = reverse (node_lines lower) in
    own ∙ (λ i. (low ∙ ap (λ (l : List DueLine). l ++ down) high) i ++ line)
    ∙ append_assoc (old ++ up) down line ∙ append_assoc old up (down ++ line)
    ∙ ap (λ (l : List DueLine). old ++ l) (sym (append_assoc up down line) ∙ ap (λ (l : List DueLine). l ++ line) (sym (reverse-append (node_lines lower) (node_lines upper)))
    ∙ sym (reverse-append line (node_lines lower ++ node_lines upper)))

pub are-halves : (lines : List DueLine) (upper : ℕ) (low high : Node) → HasClaimOf lines (length lines - 1) low → HasClaimOf lines upper high
    → IsAscending (2 ^ 32) 0 (claim_of low).labels → IsAscending (2 ^ 32) 0 (claim_of high).labels → (claim_of low).cost + (claim_of high).cost + 1 < 2 ^ 32 → AreHalves lines upper
are-halves lines upper low high below above low_ascending high_ascending few = record {
  inside = above.inside;
  low = rw (below.claim) low_ascending;
  high = rw (above.claim) high_ascending;
  few = rw (below.claim, above.claim) few;
}

-- the claims of the lines of what was built last, and of what was built before
pub built-claim : (s : StretchesModel) (a : Window) (old new : List DueLine) (built : IsBuilt s a old new) → HasClaimOf new (length new - 1) built.node
built-claim s a old new built =
    let is = last-claim old new (compacted nat_eq built.node) built.lines_are in
    record { inside = is.inside; claim = is.claim ∙ opens-claim (compacted nat_eq built.node) built.node built.opens }

pub before-claim : (s : StretchesModel) (low high : Window) (old middle new : List DueLine) (above : IsBuilt s high old middle) → IsBuilt s low middle new → HasClaimOf new (length middle - 1) above.node
before-claim s low high old middle new above below =
    let is = earlier-claim old middle new (compacted nat_eq above.node) (compacted nat_eq below.node) above.lines_are below.lines_are in
    record { inside = is.inside; claim = is.claim ∙ opens-claim (compacted nat_eq above.node) above.node above.opens }

-- a leaf's line is what a block in one stretch adds
pub leaf-built : (s : StretchesModel) (a : Window) (n : ℕ) (old new : List DueLine) → IsCounted s a → own_label s a ≡ Some n → n < 2 ^ 32 → new ≡ old ++ LeafLine n ∷ []
    → IsBuilt s a old new
leaf-built s a n old new is own fits lines = record {
  node = LeafNode n;
  made = leaf-made s a n is own fits;
  opens = subst (λ (c : Node). Opens c (LeafNode n)) (sym (compacted-leaf nat_eq n)) refl;
  lines_are = lines ∙ ap (λ (node : Node). old ++ reverse (node_lines node)) (sym (compacted-leaf nat_eq n));
}

-- a node with a label is a leaf
leaf-of : (node : Node) (n : ℕ) → leaf_label node ≡ Some n → node ≡ LeafNode n
leaf-of (LeafNode m) n is = ap LeafNode (same_Some m n is)
leaf-of (InnerNode claim lower upper) n is = absurd (none-some n is)
leaf-of (ChainNode claim bits side end) n is = absurd (none-some n is)

-- The node of two halves.
module _ (s : StretchesModel) (a low high : Window) (lower upper : Node) (are : AreCountedHalves s a low high) (low_made : IsWindowNode s low lower) (high_made : IsWindowNode s high upper) where
  -- the spine of the node has at most one bit if that of the block has
  short-spine : (claim : ClaimOf ℕ) (side : ℕ) (end : Window) → IsWindowNode s a (InnerNode claim lower upper) → (spine : IsSpineTo s side a end) → spine.count < 2
      → length (spine_bits nat_eq side (InnerNode claim lower upper)) < 2
  short-spine claim side end made spine few = by spine.count few spine.steps
    where
      whole : Node
      whole = InnerNode claim lower upper

      by : (count : ℕ) → count < 2 → AreSteps s side count a end → length (spine_bits nat_eq side whole) < 2
      by zero few is =
          let none = made-stop s side a whole made (subst (IsStop s side) is spine.stop) in
          let count = ap length none.0 in
          omega arith
      by (suc zero) few is = go is.1.choice
        where
          own : (x : Window) → is.0 ≡ x → IsStop s side x
          own x same = subst (IsStop s side) (is.2 ∙ same) spine.stop

          same : AreSameHalves is.1.low is.1.high low high
          same = same-halves s a is.1.low is.1.high low high is.1.halves are

          go : IsChoice s side is.1.low is.1.high is.0 → length (spine_bits nat_eq side whole) < 2
          go (inl up) =
              let none = made-stop s side high upper high_made (own high (up.0 ∙ same.high_is)) in
              let leaf : lower ≡ LeafNode side = leaf-of lower side (low_made.own ∙ ap (own_label s) (sym same.low_is) ∙ up.1) in
              let bits = ap (λ (n : Node). spine_bits nat_eq side (InnerNode claim n upper)) leaf ∙ (down-high side claim upper).0 in
              let count = ap length bits in
              let count' = ap length none.0 in
              omega arith
          go (inr down) =
              let none = made-stop s side low lower low_made (own low (down.0 ∙ same.low_is)) in
              let leaf : upper ≡ LeafNode side = leaf-of upper side (high_made.own ∙ ap (own_label s) (sym same.high_is) ∙ down.2) in
              let bits = ap (λ (n : Node). spine_bits nat_eq side (InnerNode claim lower n)) leaf
              ∙ (down-low side claim lower (λ e. down.1 (ap (own_label s) same.low_is ∙ sym low_made.own ∙ e))).0 in
              let count = ap length bits in
              let count' = ap length none.0 in
              omega arith
      by (suc (suc count)) few is = absurd (omega arith)

-- the spine from a block has fewer than two bits, by the side label of its halves, if they have one
abbrev pub IsShortSpine : StretchesModel → Window → Option ℕ → Type 0
IsShortSpine s a None = Unit {0}
IsShortSpine s a (Some side) = (end : Window) × (spine : IsSpineTo s side a end) × (spine.count < 2)

-- a spine has at most one step if both halves of the block are in one stretch
pub short-halves : (s : StretchesModel) (a low high : Window) → AreCountedHalves s a low high → HasNoLongSpine s low high → IsShortSpine s a (option_or (own_label s low) (own_label s high))
short-halves s a low high halves (inl none) = subst (IsShortSpine s a) (sym none) tt
short-halves s a low high halves (inr single) = by (own_label s low) (own_label s high) refl refl
  where
    one : (side : ℕ) (chosen : Window) → IsChoice s side low high chosen → chosen.from ≡ chosen.to → IsCounted s chosen → IsShortSpine s a (Some side)
    one side chosen choice end counted =
        let step : IsStepInto s side a chosen = record { low = low; high = high; halves = halves; choice = choice } in
        let len = (step-by s side a chosen step).len in
        (chosen, record { count = suc zero; steps = (chosen, step, refl); stop = inl end; counted = counted; len = omega arith }, omega arith)

    by : (o p : Option ℕ) → own_label s low ≡ o → own_label s high ≡ p → IsShortSpine s a (option_or o p)
    by (Some side) p low_is high_is = one side high (inl (refl, low_is)) single.1 halves.high_counted
    by None (Some side) low_is high_is = one side low (inr (refl, (λ own. absurd (none-some side (sym low_is ∙ own))), high_is)) single.0 halves.low_counted
    by None None low_is high_is = tt

-- an inner node's line completes a block with two halves and a short spine
pub halves-built : (s : StretchesModel) (a low high : Window) (old middle after new : List DueLine) → IsCounted s a → AreCountedHalves s a low high
    → IsShortSpine s a (option_or (own_label s low) (own_label s high)) → IsBuilt s high old middle → IsBuilt s low middle after → AddsInner (length middle - 1) after new
    → IsBuilt s a old new
halves-built s a low high old middle after new is are short upper lower adds =
    let below = built-claim s low middle after lower in
    let above = before-claim s low high old middle after upper lower in
    let exact : IsExact (claim_of lower.node) (claim_of upper.node) adds.claim = rw (below.claim, above.claim) at adds.exact in
    let made = halves-made s a low high lower.node upper.node is are lower.made upper.made adds.claim exact
    (exact-ascending (2 ^ 32) (claim_of lower.node) (claim_of upper.node) adds.claim lower.made.ascending upper.made.ascending exact) in
    let compact = compact-short adds.claim lower.node upper.node (few made (option_or (own_label s low) (own_label s high)) refl short) in
    record {
      node = InnerNode adds.claim lower.node upper.node;
      made = made;
      opens = subst (λ (c : Node). Opens c (InnerNode adds.claim lower.node upper.node)) (sym compact)
          (record { lower = lower.node; upper = upper.node; low = lower.opens; high = upper.opens; node_is = refl });
      lines_are =
          inner-lines old middle after new adds.claim (compacted nat_eq lower.node) (compacted nat_eq upper.node) upper.lines_are lower.lines_are adds.lines_are
          ∙ ap (λ (c : Node). old ++ reverse (node_lines c)) (sym compact);
    }
  where
    labels : side_of lower.node upper.node ≡ option_or (own_label s low) (own_label s high)
    labels = λ i. option_or (lower.made.own i) (upper.made.own i)

    few : IsWindowNode s a (InnerNode adds.claim lower.node upper.node) → (o : Option ℕ) → option_or (own_label s low) (own_label s high) ≡ o → IsShortSpine s a o
        → IsShort (InnerNode adds.claim lower.node upper.node)
    few made None e short = λ side f. absurd (none-some side (sym (labels ∙ e) ∙ f))
    few made (Some other) e short = λ side f.
        subst (λ (x : ℕ). length (spine_bits nat_eq x (InnerNode adds.claim lower.node upper.node)) < 2) (same_Some other side (sym (labels ∙ e) ∙ f))
        (short-spine s a low high lower.node upper.node are lower.made upper.made adds.claim other short.0 made short.1 short.2)

-- a chain's line completes a block from which a spine of two bits or more leads to its end
pub chain-built : (s : StretchesModel) (a low high end : Window) (old middle new : List DueLine) (side number bits : ℕ) → IsCounted s a → AreCountedHalves s a low high
    → option_or (own_label s low) (own_label s high) ≡ Some side → side < 2 ^ 32 → (spine : IsSpineTo s side a end) → 2 ≤ spine.count → bits ≡ end.len - a.len → number ≡ window_number s end
    → IsBuilt s end old middle → new ≡ middle ++ ChainLine (cost_above side (last_claim middle)) (path_to number bits) side (side ∷ []) ∷ [] → IsBuilt s a old new
chain-built s a low high end old middle new side number bits is are label fits spine more bits_same number_is built own =
    let len = spine.len in
    let bits_is : bits ≡ spine.count = omega (arith, bits_same) in
    let value : ℕ = window_number s end in
    let count : ℕ = spine.count in
    let node : Node = path_node side value count built.node in
    let made = spine-made s side fits end built.node built.made count a is spine.steps in
    let down = spine-down s side fits end built.node built.made spine.stop count a is spine.steps in
    let parts = made.halves low high are in
    let claim : ClaimOf ℕ = claim_above side (claim_of built.node) 1 in
    let cost : cost_above side (last_claim middle) ≡ claim.cost = ap (cost_above side) (built-claim s end old middle built).claim in
    let compact : Node = ChainNode claim (path_to value count) side (compacted nat_eq built.node) in
    let opens : Opens compact node = record {
      value = value;
      count = count;
      end = built.node;
      below = built.opens;
      claim_is = refl;
      bits_are = refl;
      long = more;
      few = let inside = spine.counted.window.within in omega (arith, width-le s.version);
      node_is = refl;
    } in
    let whole : Node = InnerNode parts.claim parts.lower parts.upper in
    let spine_is = ap (spine_bits nat_eq side) (sym parts.node_is) ∙ down.bits in
    let sides : side_of parts.lower parts.upper ≡ Some side = sym (ap side_below parts.node_is) ∙ made-side s a low high node made are ∙ label in
    let compact_is : compacted nat_eq node ≡ compact =
    ap (compacted nat_eq) parts.node_is
    ∙ compact-chain parts.claim parts.lower parts.upper side sides (omega (arith, path-length value count, ap length spine_is))
    ∙ (λ i. ChainNode (sym (opens-claim compact node opens ∙ ap claim_of parts.node_is) i) (spine_is i) side
    (compacted nat_eq ((ap (spine_end nat_eq side) (sym parts.node_is) ∙ down.last) i))) in
    record {
      node = node;
      made = made;
      opens = subst (λ (c : Node). Opens c node) (sym compact_is) opens;
      lines_are =
          own ∙ (λ i. built.lines_are i ++ ChainLine (cost i) (path_to (number_is i) (bits_is i)) side (side ∷ []) ∷ [])
          ∙ append_assoc old (reverse (node_lines (compacted nat_eq built.node))) _
          ∙ ap (λ (l : List DueLine). old ++ l) (sym (reverse-append (ChainLine claim.cost (path_to value count) side (side ∷ []) ∷ []) (node_lines (compacted nat_eq built.node))))
          ∙ ap (λ (c : Node). old ++ reverse (node_lines c)) (sym compact_is);
    }

-- all lines, reversed, are those of the node
pub reversed-lines : (old new : List DueLine) (node : Node) → old ≡ [] → new ≡ old ++ reverse (node_lines node) → reverse new ≡ node_lines node
reversed-lines old new node none is = ap reverse (is ∙ ap (λ (l : List DueLine). l ++ reverse (node_lines node)) none) ∙ reverse-reverse (node_lines node)

whole-window : (s : StretchesModel) (a : Window) → a.first ≡ 0 → window_number s a ≡ 0
whole-window s a first =
    let W = width_of s.version in
    ap (λ (x : ℕ). block_number W a.len x) first ∙ zero-div (2 ^ (W - a.len))

-- what is built for the whole address space is the node of each map on the stretches
pub whole-built : (s : StretchesModel) (a : Window) (old new : List DueLine) (root : Node) → a.first ≡ 0 → a.len ≡ 0 → old ≡ [] → IsBuilt s a old new
    → ((node : Node) → reverse new ≡ node_lines node → root ≡ node) → (m : MapModel) → IsMapOn s m → IsBuiltIn m root
whole-built s a old new root first len none built root_is m on =
    let room : width_of s.version - a.len ≡ width_of m.version = omega (arith, len, on.is.width) in
    let compact_is = root_is (compacted nat_eq built.node) (reversed-lines old new (compacted nat_eq built.node) none built.lines_are) in
    record {
      table = on.table;
      node = built.node;
      is = moved m _ _ _ _ _ _ built.node len (whole-window s a first) room (built.made.each m on);
      sound = subst (IsSound built.node) room built.made.sound;
      compact_is = compact_is;
      opens = subst (λ (c : Node). Opens c built.node) (sym compact_is) built.opens;
    }

-- a map's stretches are those of the map, and can be counted
pub map-countable : (m : MapText) (s : StretchesModel) → AreStretches m.statements (Some m.default) s → AreCountable s
map-countable m s are = record { statements = m.statements; default = Some m.default; labelled = refl; stretches = are; few = omega (arith, m.within_limit) }

pub map-on : (m : MapText) (s : StretchesModel) → s.version ≡ m.version → AreStretches m.statements (Some m.default) s → IsLabelTable m.labels → IsMapOn s (map_of m)
map-on m s version are ok = record { statements = m.statements; default = Some m.default; stretches = are; is = rw version (map_is m); table = ok }

-- the end of a spine of two bits or more has fewer addresses than the spine's first block
pub end-smaller : (s : StretchesModel) (a end : Window) (side : ℕ) → IsCounted s a → (spine : IsSpineTo s side a end) → 2 ≤ spine.count → end.last - end.first + 2 ≤ a.last - a.first
end-smaller s a end side is spine more =
    let below = spine-below s side spine.count a end is spine.steps in
    let smaller = below.smaller in
    omega arith

-- the leaves of the window of all addresses can be counted
pub whole-counted : (s : StretchesModel) (a : Window) → AreCountable s → IsWindow s a → a.first ≡ 0 → a.len ≡ 0 → IsCounted s a
whole-counted s a can window first len =
    let W = width_of s.version in
    let number = whole-window s a first in
    let most = mul-le-mul_right (length can.statements) (width-le s.version) in
    record {
      window = window;
      few = record {
        statements = can.statements;
        default = can.default;
        labelled = can.labelled;
        stretches = can.stretches;
        few = rw (number, len) (omega (arith, ends_most W can.statements, most, can.few));
      };
    }
