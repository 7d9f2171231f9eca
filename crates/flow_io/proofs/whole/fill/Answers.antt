use Rattle.std.proofs.Common.{rules, ◌-◌, ◌≤◌, ℕ, List, length, subst, sym}
use Rattle.flow_io.specs.Devices.{Gives}
use Rattle.flow_io.proofs.Moving.{gives_more, take_filled}
use Rattle.flow_io.proofs.whole.fill.Goals as goal

pub loop-filled-preserved : goal.loop-filled-preserved
loop-filled-preserved g c =
    let a = c.loop-filled.filled in let xs = c.loop-filled.bytes in let ys = c.read.new.buffer in let n = c.in-Ok.more in
    let most : n ≤ length ys = c.in-Ok.ensures.within in
    let front = take_filled a (length xs - a) n xs ys c.loop-filled.invariant.within most in
    record {
      within = search rules;
      given = subst (λ (bs : List ℕ). Gives (g.R.Input.input c.args.reader.now) (g.R.Input.input c.read.new.self) bs) (sym front)
          (gives_more c.loop-filled.invariant.given c.in-Ok.ensures.read);
      same = search rules;
    }
