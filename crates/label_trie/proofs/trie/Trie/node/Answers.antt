use Rattle.std.proofs.Common.{◌∙◌, suc, inl, inr, ap, arith, length, length-append, refl}
use Rattle.label_trie.specs.Parts.{IsDivided, IsMet}
use Rattle.label_trie.specs.TrieModel.{CursorModel, TrieModel}
use Rattle.label_trie.proofs.trie.Trie.node.Goals as goal

pub loop-place-init : goal.loop-place-init
loop-place-init c =
    let is = c.root-place.ensures in
    record {
      version = is.version;
      nodes = is.nodes;
      reached = omega (arith, is.number);
      below = omega (arith, is.number, c.node_count-count.ensures.leaves, c.node_count-count.ensures.nodes, c.requires, ap length is.leaves);
      met = record { root = c.root-place.result; is_root = is; steps = 0; leads = refl };
    }

-- the halves of a node that a walk meets are met too
low_met : (t : TrieModel) (whole low high : CursorModel) → IsMet t whole → IsDivided whole low high → IsMet t low
low_met t whole low high met is = record { root = met.root; is_root = met.is_root; steps = suc met.steps; leads = (whole, high, met.leads, inl is) }

high_met : (t : TrieModel) (whole low high : CursorModel) → IsMet t whole → IsDivided whole low high → IsMet t high
high_met t whole low high met is = record { root = met.root; is_root = met.is_root; steps = suc met.steps; leads = (whole, low, met.leads, inr is) }

pub loop-place-preserved-then-number : goal.loop-place-preserved-then-number
loop-place-preserved-then-number c =
    let is = c.in-Inner.ensures in
    let place = c.loop-place.invariant in
    record {
      version = is.low_half.version ∙ place.version;
      nodes = is.low_nodes ∙ place.nodes;
      reached = omega (arith, is.low_number, c.loop-place-test.true, c.number.ensures.value);
      below = omega (arith, is.high_number, c.if-number.true, c.number-in-loop-place.ensures.value);
      met = low_met c.args.self.now c.loop-place.place c.in-Inner.low c.in-Inner.high place.met is;
    }

pub loop-place-preserved : goal.loop-place-preserved
loop-place-preserved c =
    let is = c.in-Inner.ensures in
    let place = c.loop-place.invariant in
    record {
      version = is.high_half.version ∙ place.version;
      nodes = is.high_nodes ∙ place.nodes;
      reached = omega (arith, c.if-number.false, c.number-in-loop-place.ensures.value);
      below = omega (arith, place.below, is.low_number, is.high_number, ap length is.leaves, length-append c.in-Inner.low.leaves c.in-Inner.high.leaves);
      met = high_met c.args.self.now c.loop-place.place c.in-Inner.low c.in-Inner.high place.met is;
    }
