use Rattle.std.proofs.Common.{List, ℕ, ap, ◌∙◌, ◌≡◌, ◌++◌, drop, length, rules, take, sym, subst}
use Rattle.std.proofs.Math.Seq.{take-append_seam}
use Rattle.flow_io.proofs.Moving.{gives_more}
use Rattle.flow_io.specs.Devices.{Gives}
use Rattle.flow_files.proofs.reading.read_pieces.Goals as goal

pub returns-in_default-with-clause-stopped : goal.returns-in_default-with-clause-stopped
returns-in_default-with-clause-stopped g c = (_, gives_more c.loop-count.invariant.given c.in-Ok.ensures.read, tt)

pub loop-count-preserved : goal.loop-count-preserved
loop-count-preserved g c =
    let buffer : List ℕ = c.read.new.buffer in
    let after : List ℕ = drop (length buffer) c.loop-count.chunk.items in
    let full : c.loop-count.chunk.len ≡ length buffer = search rules in
    let same : c.deref.result.now ≡ buffer =
    c.deref.ensures.value ∙ ap (λ (n : ℕ). take n (buffer ++ after)) full ∙ take-append_seam buffer after in
    let longer : c.in-Ok-with.longer ≡ c.loop-count.text ++ take c.in-Ok.count c.read.new.buffer =
    c.in-Ok-with.ensures.text ∙ ap (λ (t : List ℕ). c.loop-count.text ++ take c.in-Ok.count t) same in
    record {
      room = search rules;
      fits = c.in-Ok-with.ensures.fits;
      given = subst (Gives (g.R.Input.input c.args.reader.now) (g.R.Input.input c.read.new.self)) (sym longer)
          (gives_more c.loop-count.invariant.given c.in-Ok.ensures.read);
      works = search rules;
    }
