use Rattle.std.proofs.Common.{◌≡◌, ◌∙◌, ◌-◌, ap, arith, slice_get, subst, sym}
use Rattle.pmap_stretches.specs.Sweep.{BeginAfter, HasOneMore}
use Rattle.pmap_stretches.specs.Starting.{number_at}
use Rattle.pmap_stretches.proofs.Ascents.{begin_later, open_pushed}
use Rattle.pmap_stretches.proofs.stretches.ascent.Ascent.open_all.Goals as goal

pub returns-then-end-low-clause-later : goal.returns-then-end-low-clause-later
returns-then-end-low-clause-later g c =
    begin_later c.loop-self.self.next c.args.end c.loop-self.invariant.ascent.order
    (ap (slice_get (g.M.Mappings.all c.args.mappings.now)) (sym c.number-number.ensures) ∙ c.mapping-low.ensures) c.if-end-low.true

pub reach-requires-clause-later : goal.reach-requires-clause-later
reach-requires-clause-later g c =
    let next = c.loop-self.self.next in
    let listed = ap (slice_get (g.M.Mappings.all c.args.mappings.now)) (sym c.number-number.ensures) ∙ c.mapping-low.ensures in
    let above = c.loop-self.invariant.later next c.mapping-low.result (omega arith) (omega (arith, c.loop-self-test.true, c.count.ensures)) listed in
    begin_later next (c.mapping-low.result.span.low.value - 1) c.loop-self.invariant.ascent.order listed (omega (arith, above))

pub loop-self-preserved : goal.loop-self-preserved
loop-self-preserved g c =
    let ss = g.M.Mappings.all c.args.mappings.now in
    let before = c.loop-self.invariant in
    let old = c.loop-self.self in
    let mapping = c.mapping-low.result in
    let self = c.reach.new.self in
    let reached = c.in_ok-reach.ensures in
    let same = reached.continues.starts in
    let next = reached.continues.next in
    let number : number_at self.starts self.next ≡ c.number-number.result =
    subst (λ k. number_at self.starts k ≡ c.number-number.result) (sym next)
    (subst (λ l. number_at l old.next ≡ c.number-number.result) (sym same) (sym c.number-number.ensures)) in
    let listed = ap (slice_get ss) number ∙ c.mapping-low.ensures in
    let above = before.later old.next mapping (omega arith) (omega (arith, c.loop-self-test.true, c.count.ensures))
    (ap (slice_get ss) (sym c.number-number.ensures) ∙ c.mapping-low.ensures) in
    let order = reached.continues.ascent.order in
    let later : BeginAfter ss self.starts self.next self.growing.last = begin_later self.next self.growing.last order listed (omega (arith, reached.last, above)) in
    record {
      ascent = record {
        are = reached.continues.ascent.are;
        order = order;
        opened = open_pushed reached.continues.ascent.opened mapping
            (subst (λ n. HasOneMore self.opened n c.push.new.self) (sym number) c.in_ok-push.ensures)
            listed (omega (arith, reached.last, above));
      };
      version = reached.continues.version ∙ before.version;
      joined = reached.continues.joined ∙ before.joined;
      default = reached.continues.default ∙ before.default;
      later = λ i s le. later i s (omega (arith, le));
      to = omega (arith, reached.last, c.if-end-low.false);
    }
