use Rattle.std.proofs.Common.{◌≡◌, ◌≢◌, ◌≤◌, ◌∙◌, ℕ, List, Err, length, sym, subst, arith}
use Rattle.pmap_text.specs.Reading.{lines_of, content_line, NoMemory}
use Rattle.pmap_text.specs.Inner.{TakesLine, refusal_of}
use Rattle.pmap_text.proofs.Entering.{none_read, read-all, read-fault, read-line}
use Rattle.pmap_text.proofs.reading.texts.read_on.Goals as goal

pub loop-reading-init : goal.loop-reading-init
loop-reading-init c = record {
  fits = omega arith;
  so_far = none_read c.args.form c.args.reading.now c.args.before c.args.text.now c.args.limit c.requires.few;
}

pub loop-reading-preserved : goal.loop-reading-preserved
loop-reading-preserved c =
    let cut = c.split_content.ensures.line in
    let old = c.loop-reading.reading in
    let new = c.read_content.new.self in
    let few : length old.prefixes ≤ c.args.limit = omega (arith, c.entry_count.ensures, c.if-entry_count-limit.true) in
    let taken = subst (λ (t : List ℕ). TakesLine old new (content_line c.args.form old t)) cut.2 c.in_default.ensures.ok in
    record {
      fits = omega arith;
      so_far = read-line c.args.form c.args.reading.now c.args.before c.args.text.now c.args.limit old new c.loop-reading.number cut.0
          (lines_of c.loop-reading.rest.now) (lines_of c.split_content.result.1.now) cut.1 c.loop-reading.invariant.so_far few taken;
    }

pub returns-in-Err : goal.returns-in-Err
returns-in-Err c =
    let cut = c.split_content.ensures.line in
    let old = c.loop-reading.reading in
    let new = c.read_content.new.self in
    let kept = c.in-Err.ensures.kept in
    let refused = subst (λ (t : List ℕ). c.in-Err.kind ≡ refusal_of (content_line c.args.form old t)) cut.2 c.in-Err.ensures.err in
    record {
      ok = tt;
      number = tt;
      map = λ is none. kept ∙ c.loop-reading.invariant.so_far.map is none;
      repeat = tt;
      err = λ once other more.
          let known : c.in-Err.kind ≢ NoMemory = λ e. other (c.fault_at.ensures.kind ∙ e) in
          read-fault c.args.form c.args.reading.now c.args.before c.args.text.now c.args.limit old new c.loop-reading.number cut.0
          (lines_of c.loop-reading.rest.now) (lines_of c.split_content.result.1.now) cut.1 c.loop-reading.invariant.so_far c.in-Err.kind refused kept once known more
          ∙ (λ i. Err (record { kind = sym c.fault_at.ensures.kind i; line = sym (c.fault_at.ensures.line known) i }));
      memory = λ e. c.fault_at.ensures.memory (sym c.fault_at.ensures.kind ∙ e);
    }

pub returns-after-loop-reading : goal.returns-after-loop-reading
returns-after-loop-reading c = record {
  ok = λ whole once. read-all c.args.form c.args.reading.now c.args.before c.args.text.now c.loop-reading.reading c.loop-reading.number c.loop-reading.rest.now
      (sym c.is_empty.ensures ∙ c.loop-reading-test.false) (c.loop-reading.invariant.so_far.read once);
  number = omega (arith, c.loop-reading.invariant.fits);
  map = c.loop-reading.invariant.so_far.map;
  repeat = c.loop-reading.invariant.so_far.repeat;
  err = tt;
  memory = tt;
}

pub returns-else-entry_count-limit : goal.returns-else-entry_count-limit
returns-else-entry_count-limit c = record {
  ok = λ whole once. absurd (omega (arith, whole, c.if-entry_count-limit.false, c.entry_count.type_inv));
  number = omega (arith, c.loop-reading.invariant.fits);
  map = c.loop-reading.invariant.so_far.map;
  repeat = c.loop-reading.invariant.so_far.repeat;
  err = tt;
  memory = tt;
}
