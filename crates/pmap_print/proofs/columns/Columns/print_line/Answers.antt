use Rattle.std.proofs.Common.{ℕ, ◌≡◌, ◌+◌, ◌-◌, ◌<◌, ◌∙◌, ◌++◌, ◌∷◌, [], List, ap, arith, drop, get_or, length, replicate, take}
use Rattle.std.specs.Prelude.{slice_index}
use Rattle.std.proofs.lemmas.List.{get_or_read, length-drop, take-replicate, take_all}
use Rattle.pmap_print.proofs.Spreading.{all_pushed, none_pushed, pushed, reads}
use Rattle.pmap_print.proofs.columns.Columns.print_line.Goals as goal
use Rattle.pmap_print.proofs.columns.Columns.print_line.Goals.{then-i-len, else-i-len}

pub loop-i-init : goal.loop-i-init
loop-i-init g c = (λ width fields more fits is. none_pushed width _ fields more _ _ fits is, λ i. (g.S.Sink.sink c.args.out.now).reference, λ first h. h)

pub bounds-rest-0 : goal.bounds-rest-0
bounds-rest-0 g c =
    let inside : c.loop-i.i < length c.args.self.now.widths.items = omega (arith, c.loop-i-test.true, c.len-i-end.ensures, c.args.self.now.widths.ok) in
    (reads _ _ _ c.loop-i.i _ _ c.requires c.loop-i.invariant.0 inside).0

pub overflow_sub-index : goal.overflow_sub-index
overflow_sub-index g c =
    let inside : c.loop-i.i < length c.args.self.now.widths.items = omega (arith, c.loop-i-test.true, c.len-i-end.ensures, c.args.self.now.widths.ok) in
    omega (
      arith,
      (reads _ _ _ c.loop-i.i _ _ c.requires c.loop-i.invariant.0 inside).1,
      get_or_read c.args.self.now.widths.items c.loop-i.i c.index.result.now inside c.index.ensures 0,
    )

pub slice_bounds-push_few-count : goal.slice_bounds-push_few-count
slice_bounds-push_few-count g c =
    let inside : c.loop-i.i < length c.args.self.now.widths.items = omega (arith, c.loop-i-test.true, c.len-i-end.ensures, c.args.self.now.widths.ok) in
    omega (arith, (reads _ _ _ c.loop-i.i _ _ c.requires c.loop-i.invariant.0 inside).0)

pub slice_bounds-push_few-start : goal.slice_bounds-push_few-start
slice_bounds-push_few-start g c =
    let inside : c.loop-i.i < length c.args.self.now.widths.items = omega (arith, c.loop-i-test.true, c.len-i-end.ensures, c.args.self.now.widths.ok) in
    omega (arith, (reads _ _ _ c.loop-i.i _ _ c.requires c.loop-i.invariant.0 inside).0)

pub push_few-requires-in-loop-i : goal.push_few-requires-in-loop-i
push_few-requires-in-loop-i g c =
    let inside : c.loop-i.i < length c.args.self.now.widths.items = omega (arith, c.loop-i-test.true, c.len-i-end.ensures, c.args.self.now.widths.ok) in
    let rest : List ℕ = c.loop-i.rest.now in
    let whole : take (length rest - 1) (drop 1 rest) ≡ drop 1 rest = take_all (length rest - 1) (drop 1 rest) (omega (arith, length-drop 1 rest)) in
    omega (arith, c.from-in-loop-i.ensures, ap length whole, length-drop 1 rest, (reads _ _ _ c.loop-i.i _ _ c.requires c.loop-i.invariant.0 inside).2)

pub slice_bounds-rest-count : goal.slice_bounds-rest-count
slice_bounds-rest-count g c =
    let inside : c.loop-i.i < length c.args.self.now.widths.items = omega (arith, c.loop-i-test.true, c.len-i-end.ensures, c.args.self.now.widths.ok) in
    omega (arith, c.from-end.ensures, (reads _ _ _ c.loop-i.i _ _ c.requires c.loop-i.invariant.0 inside).2)

pub slice_bounds-rest-start : goal.slice_bounds-rest-start
slice_bounds-rest-start g c =
    let inside : c.loop-i.i < length c.args.self.now.widths.items = omega (arith, c.loop-i-test.true, c.len-i-end.ensures, c.args.self.now.widths.ok) in
    omega (arith, c.from-end.ensures, (reads _ _ _ c.loop-i.i _ _ c.requires c.loop-i.invariant.0 inside).2)

pub loop-i-preserved : goal.loop-i-preserved
loop-i-preserved g c =
    let widths : List ℕ = c.args.self.now.widths.items in
    let i : ℕ = c.loop-i.i in
    let rest : List ℕ = c.loop-i.rest.now in
    let n : ℕ = get_or rest 0 0 in
    let inside : i < length widths = omega (arith, c.loop-i-test.true, c.len-i-end.ensures, c.args.self.now.widths.ok) in
    let read = get_or_read widths i c.index.result.now inside c.index.ensures 0 in
    let spaces : take c.from.result (replicate {A = ℕ} 255 32) ≡ replicate (slice_index widths i - n) 32 =
    take-replicate c.from.result 255 32 (omega (arith, c.from.ensures)) ∙ ap (λ k. replicate k 32) (c.from.ensures ∙ ap (λ w. w - n) read) in
    let field : take c.from-in-loop-i.result (take (length rest - 1) (drop 1 rest)) ≡ take n (drop 1 rest) =
    (λ j. take (c.from-in-loop-i.ensures j) (take_all (length rest - 1) (drop 1 rest) (omega (arith, length-drop 1 rest)) j)) in (
      λ width fields more fits is.
          pushed width widths fields more (g.S.Sink.sink c.args.out.now).printed i rest (g.S.Sink.sink c.loop-i.out).printed fits
          (c.loop-i.invariant.0 width fields more fits is) inside _ (g.S.Sink.sink c.push_start.new.self).printed c.if-i-len.mark
          (λ more. elim c.if-i-len.branch [
            | then-i-len w ↦ w.mark-is
            | else-i-len w ↦ absurd (omega (arith, more, w.if-i-len.false, c.len.ensures, c.args.self.now.widths.ok))
          ])
          (λ last. elim c.if-i-len.branch [
            | then-i-len w ↦ absurd (omega (arith, last, w.if-i-len.true, c.len.ensures, c.args.self.now.widths.ok))
            | else-i-len w ↦ w.mark-is
          ])
          (take_all (length rest - (c.from-end.result + 1)) (drop (c.from-end.result + 1) rest) (omega (arith, length-drop (c.from-end.result + 1) rest))
          ∙ ap (λ k. drop (k + 1) rest) c.from-end.ensures)
          (c.in_ok-push_start.ensures.0
          ∙ ap (λ (l : List ℕ). l ++ c.if-i-len.mark ∷ [])
          (c.in_ok-push_few-2.ensures.0 ∙ (λ j. (c.in_ok-push_few.ensures.0 ∙ ap (λ (l : List ℕ). (g.S.Sink.sink c.loop-i.out).printed ++ l) spaces) j ++ field j))),
      c.in_ok-push_start.ensures.1 ∙ c.in_ok-push_few-2.ensures.1 ∙ c.in_ok-push_few.ensures.1 ∙ c.loop-i.invariant.1,
      λ first h. c.in_ok-push_start.ensures.2 first (c.in_ok-push_few-2.ensures.2 first (c.in_ok-push_few.ensures.2 first (c.loop-i.invariant.2 first h))),
    )

pub returns : goal.returns
returns g c = λ width fields more fits is.
    let done = all_pushed width _ fields more _ c.loop-i.i _ _ fits (omega (arith, c.loop-i-test.false, c.len-i-end.ensures, c.args.self.now.widths.ok))
    (c.loop-i.invariant.0 width fields more fits is) in
    (done.0, (done.1, c.loop-i.invariant.1, c.loop-i.invariant.2))
