use Rattle.std.proofs.Common.{◌∙◌, ◌≡◌, ◌-◌, ℕ, Option, Some, length, option_map, ap, arith, refl, subst, sym}
use Rattle.std.specs.Option.{option_or}
use Rattle.std.proofs.lemmas.Result.{on_ok_weaker}
use Rattle.pmap_model.specs.declared.label.LabelId.{LabelId}
use Rattle.pmap_stretches.proofs.Windows.{window_some}
use Rattle.prefix_keys.proofs.Groups.{width-le}
use Rattle.pmap_minimise.specs.Spines.{own_label}
use Rattle.pmap_minimise.specs.Built.{AddsInner, AreHalves}
use Rattle.pmap_minimise.proofs.MadeNodes.{both-cost, counted-halves, own-is}
use Rattle.pmap_minimise.proofs.BuiltNodes.{IsShortSpine, are-halves, before-claim, built-claim, chain-built, end-smaller, halves-built, leaf-built, short-halves}
use Rattle.pmap_minimise.proofs.building.+window.Goals as goal
use Rattle.pmap_minimise.proofs.building.+window.Goals.{push_divided-in-Some+else-count-ge2, push_divided-in_default}

pub push_window-returns : goal.push_window-returns
push_window-returns t c =
    let s = c.args.stretches.now in
    let a = c.args.window.now in
    let is = c.requires in
    let order = is.window.ordered in
    let single : a.from ≡ a.to = omega (arith, c.if-window.false) in
    let own : own_label s a ≡ Some c.in-Some.id.0 = own-is s a single ∙ ap (λ (l : Option LabelId). option_map (λ (id : LabelId). id.0) l) (sym c.label.ensures ∙ c.in-Some.is) in
    on_ok_weaker c.push.result (leaf-built s a c.in-Some.id.0 c.args.nodes.now c.push.new.self is own (omega arith)) c.push.ensures.ok

pub push_divided-halves-requires-clause-some : goal.push_divided-halves-requires-clause-some
push_divided-halves-requires-clause-some t c =
    let divided = c.requires.divided in
    window_some c.args.stretches.now c.requires.counted.few.stretches.every c.args.window.now c.requires.counted.window (λ same. absurd (omega arith))

pub push_divided-push_window-requires : goal.push_divided-push_window-requires
push_divided-push_window-requires t c =
    let s = c.args.stretches.now in
    let spine = c.spine_end-end.ensures in
    let len = spine.len in
    let long = c.if-count-ge2.true in
    let smaller = end-smaller s c.args.window.now c.spine_end-end.result c.in-Some.side.0 c.requires.counted spine (omega arith) in
    let less = c.decreases in
    (omega arith, spine.counted)

pub push_divided-push_window-requires-2 : goal.push_divided-push_window-requires-2
push_divided-push_window-requires-2 t c =
    let halves = c.halves.ensures in
    let divided = c.requires.divided in
    let some = window_some c.args.stretches.now c.requires.counted.few.stretches.every c.args.window.now c.requires.counted.window (λ same. absurd (omega arith)) in (
      omega (arith, some, halves.high_first, halves.high_last, c.decreases),
      (counted-halves c.args.stretches.now c.args.window.now c.requires.counted c.requires.divided _ _ halves).high_counted,
    )

pub push_divided-push_window-requires-3 : goal.push_divided-push_window-requires-3
push_divided-push_window-requires-3 t c =
    let halves = c.halves.ensures in
    let divided = c.requires.divided in
    let some = window_some c.args.stretches.now c.requires.counted.few.stretches.every c.args.window.now c.requires.counted.window (λ same. absurd (omega arith)) in (
      omega (arith, some, halves.low_first, halves.low_last, c.decreases),
      (counted-halves c.args.stretches.now c.args.window.now c.requires.counted c.requires.divided _ _ halves).low_counted,
    )

pub push_divided-invariant_of-push_chain : goal.push_divided-invariant_of-push_chain
push_divided-invariant_of-push_chain t c =
    let spine = c.spine_end-end.ensures in
    let len = spine.len in
    let inside = spine.counted.window.within in
    omega (arith, width-le c.args.stretches.now.version)

pub push_divided-push_chain-requires-clause-some : goal.push_divided-push_chain-requires-clause-some
push_divided-push_chain-requires-clause-some t c =
    let inside = (built-claim c.args.stretches.now c.spine_end-end.result c.args.nodes.now c.push_window.new.nodes c.in_ok-push_window.ensures).inside in
    omega arith

pub push_divided-push_chain-requires-clause-few : goal.push_divided-push_chain-requires-clause-few
push_divided-push_chain-requires-clause-few t c =
    let built = c.in_ok-push_window.ensures in
    let is = c.spine_end-end.ensures.counted in
    let cost = built.made.few is.few.statements is.few.default is.few.stretches in
    let few = is.few.few in
    rw ((built-claim c.args.stretches.now c.spine_end-end.result c.args.nodes.now c.push_window.new.nodes built).claim) (omega arith)

pub push_divided-returns-then-count-ge2 : goal.push_divided-returns-then-count-ge2
push_divided-returns-then-count-ge2 t c =
    let s = c.args.stretches.now in
    let spine = c.spine_end-end.ensures in
    let len = spine.len in
    let long = c.if-count-ge2.true in
    on_ok_weaker c.push_chain.result
    (chain-built s c.args.window.now c.halves.result.0 c.halves.result.1 c.spine_end-end.result c.args.nodes.now c.push_window.new.nodes c.push_chain.new.nodes
    c.in-Some.side.0 c.number_of-value.result (c.spine_end-end.result.len - c.args.window.now.len) c.requires.counted (counted-halves s c.args.window.now c.requires.counted c.requires.divided _ _ c.halves.ensures)
    c.in-Some.ensures (omega arith) spine (omega arith) refl c.number_of-value.ensures c.in_ok-push_window.ensures) c.push_chain.ensures

pub push_divided-overflow_sub-upper : goal.push_divided-overflow_sub-upper
push_divided-overflow_sub-upper t c =
    let inside = (built-claim c.args.stretches.now c.halves.result.1 c.args.nodes.now c.push_window-2.new.nodes c.in_ok-push_window-2.ensures).inside in
    omega arith

pub push_divided-push_inner-requires : goal.push_divided-push_inner-requires
push_divided-push_inner-requires t c =
    let s = c.args.stretches.now in
    let low = c.halves.result.0 in
    let high = c.halves.result.1 in
    let above = c.in_ok-push_window-2.ensures in
    let below = c.in_ok-push_window-3.ensures in
    let few = c.requires.counted.few.few in
    subst (λ (n : ℕ). AreHalves c.push_window-3.new.nodes (n - 1)) (sym c.len-upper.ensures)
    (are-halves c.push_window-3.new.nodes (length c.push_window-2.new.nodes - 1) below.node above.node
    (built-claim s low c.push_window-2.new.nodes c.push_window-3.new.nodes below)
    (before-claim s low high c.args.nodes.now c.push_window-2.new.nodes c.push_window-3.new.nodes above below) below.made.ascending above.made.ascending
    (omega (
      arith,
      few,
      both-cost s c.args.window.now low high below.node above.node c.requires.counted
          (counted-halves s c.args.window.now c.requires.counted c.requires.divided _ _ c.halves.ensures) below.made above.made c.requires.counted.few.statements c.requires.counted.few.default c.requires.counted.few.stretches,
    )))

pub push_divided-returns : goal.push_divided-returns
push_divided-returns t c =
    let s = c.args.stretches.now in
    let low = c.halves.result.0 in
    let high = c.halves.result.1 in
    let halves = counted-halves s c.args.window.now c.requires.counted c.requires.divided low high c.halves.ensures in
    let short : IsShortSpine s c.args.window.now (option_or (own_label s low) (own_label s high)) =
    elim c.match-side_of.branch [
      | push_divided-in-Some+else-count-ge2 w ↦
          let len = w.spine_end-end.ensures.len in
          let few = w.if-count-ge2.false in
          let spine : IsShortSpine s c.args.window.now (Some w.in-Some.side.0) = (w.spine_end-end.result, w.spine_end-end.ensures, omega arith) in
          subst (IsShortSpine s c.args.window.now) (sym w.in-Some.ensures) spine
      | push_divided-in_default w ↦ short-halves s c.args.window.now low high halves w.in_default.ensures
    ] in
    on_ok_weaker c.push_inner.result
    (λ adds. halves-built s c.args.window.now low high c.args.nodes.now c.push_window-2.new.nodes c.push_window-3.new.nodes c.push_inner.new.nodes
    c.requires.counted halves short c.in_ok-push_window-2.ensures c.in_ok-push_window-3.ensures
    (subst (λ (n : ℕ). AddsInner (n - 1) c.push_window-3.new.nodes c.push_inner.new.nodes) c.len-upper.ensures adds)) c.push_inner.ensures
