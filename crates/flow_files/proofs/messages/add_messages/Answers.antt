use Rattle.std.proofs.Common.{◌++◌, ◌∷◌, [], ℕ, ◌∙◌, arith, length-append, refl, subst, sym}
use Rattle.flow_files.specs.Reports.{AreReadSoFar}
use Rattle.flow_files.proofs.TakenLemmas.{at_end, fault_next, no_memory, none_so_far}
use Rattle.flow_files.proofs.messages.add_messages.Goals as goal

pub loop-progress-init : goal.loop-progress-init
loop-progress-init g c = (
  record {
    messages = [];
    so_far = none_so_far g.R.Input.input c.args.flows.now c.new-progress.result c.new-progress.ensures c.requires.fresh;
    is = c.requires.none;
  },
  c.offset-offset.ensures,
  refl,
)

pub returns-in_err-message-clause-reads : goal.returns-in_err-message-clause-reads
returns-in_err-message-clause-reads g c = fault_next c.from_residual.ensures.1 (c.in_err-message.ensures.reads _ _ c.loop-progress.invariant.0.so_far)

pub take_message-requires : goal.take_message-requires
take_message-requires g c =
    let had = c.loop-progress.invariant.0 in (_, had.messages, had.is, (rw c.in-Some.is at (c.in_ok-message.ensures.reads _ _ had.so_far)).1)

pub returns-in_err-take_message-clause-reads : goal.returns-in_err-take_message-clause-reads
returns-in_err-take_message-clause-reads g c =
    let next = rw c.in-Some.is at (c.in_ok-message.ensures.reads _ _ c.loop-progress.invariant.0.so_far) in
    no_memory (next.0.read.taken, next.0.read.consumed, tt) next.0.works c.from_residual-in_err-take_message.ensures.1

pub loop-progress-smaller : goal.loop-progress-smaller
loop-progress-smaller g c =
    let had = c.loop-progress.invariant.0 in
    let next = rw c.in-Some.is at (c.in_ok-message.ensures.reads _ _ had.so_far) in
    omega (arith, had.so_far.read.counted, next.0.read.counted, length-append had.messages ((c.loop-progress.progress.offset, c.in-Some.message) ∷ []), next.1)

pub loop-progress-preserved : goal.loop-progress-preserved
loop-progress-preserved g c =
    let (had, is, there) = c.loop-progress.invariant in (
      record {
        messages = had.messages ++ (c.loop-progress.offset, c.in-Some.message) ∷ [];
        so_far =
            subst (λ (at : ℕ). AreReadSoFar g.R.Input.input c.args.flows.now (had.messages ++ (at, c.in-Some.message) ∷ []) c.next_message.new.progress c.next_message.new.flows)
            (sym is) (rw c.in-Some.is at (c.in_ok-message.ensures.reads _ _ had.so_far)).0;
        is = c.in_ok-take_message.ensures c.args.taker.now had.messages had.is;
      },
      c.offset-offset-in-Some.ensures,
      c.in_ok-message.ensures.there ∙ there,
    )

pub returns-clause-reads : goal.returns-clause-reads
returns-clause-reads g c = at_end c.loop-progress.invariant.0 (rw c.in_default.is at (c.in_ok-message.ensures.reads _ _ c.loop-progress.invariant.0.so_far))
