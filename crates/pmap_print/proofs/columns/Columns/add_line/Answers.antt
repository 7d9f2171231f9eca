use Rattle.std.proofs.Common.{ℕ, ◌≡◌, ◌+◌, ◌<◌, ◌∙◌, List, arith, drop, get_or, length, max, refl}
use Rattle.std.specs.Prelude.{◌-◌, slice_index}
use Rattle.std.proofs.lemmas.List.{get_or_read, length-drop, length-set, take_all}
use Rattle.pmap_print.proofs.WideLines.{field_read, field_size, field_there, unchanged, wide-more, widened}
use Rattle.pmap_print.proofs.columns.Columns.add_line.Goals as goal

pub bounds-rest-0 : goal.bounds-rest-0
bounds-rest-0 c =
    (field_there c.requires.0 c.loop-i.i
    (omega (arith, c.loop-i-test.true, c.len-i-end.ensures, c.args.self.now.widths.ok, c.requires.2)) c.loop-i.rest.now
    (c.loop-i.invariant.read c.requires.0 c.requires.1 c.requires.2)).0

pub slice_bounds-rest-count : goal.slice_bounds-rest-count
slice_bounds-rest-count c =
    let within : c.loop-i.i < length c.requires.0 = omega (arith, c.loop-i-test.true, c.len-i-end.ensures, c.args.self.now.widths.ok, c.requires.2) in
    let rest = c.loop-i.invariant.read c.requires.0 c.requires.1 c.requires.2 in
    omega (
      arith,
      (field_there c.requires.0 c.loop-i.i within c.loop-i.rest.now rest).1,
      field_size c.requires.0 c.loop-i.i within c.loop-i.rest.now rest c.from.result c.from.ensures,
    )

pub slice_bounds-rest-start : goal.slice_bounds-rest-start
slice_bounds-rest-start c =
    let within : c.loop-i.i < length c.requires.0 = omega (arith, c.loop-i-test.true, c.len-i-end.ensures, c.args.self.now.widths.ok, c.requires.2) in
    let rest = c.loop-i.invariant.read c.requires.0 c.requires.1 c.requires.2 in
    omega (
      arith,
      (field_there c.requires.0 c.loop-i.i within c.loop-i.rest.now rest).1,
      field_size c.requires.0 c.loop-i.i within c.loop-i.rest.now rest c.from.result c.from.ensures,
    )

pub loop-i-preserved : goal.loop-i-preserved
loop-i-preserved c =
    let i : ℕ = c.loop-i.i in
    let old : List ℕ = c.args.self.now.widths.items in
    let now : List ℕ = c.loop-i.self.widths.items in
    let inside : i < length now = omega (arith, c.loop-i-test.true, c.len-i-end.ensures, c.args.self.now.widths.ok, c.loop-i.invariant.long) in
    let read : c.index.result.now ≡ slice_index now i = get_or_read now i c.index.result.now inside c.index.ensures 0 in
    record {
      long = length-set now i c.max.result ∙ c.loop-i.invariant.long;
      read = λ fields is all.
          let within : i < length fields = omega (arith, inside, all, c.loop-i.invariant.long) in
          let rest = c.loop-i.invariant.read fields is all in
          let k : ℕ = c.from.result + 1 in
          take_all (length c.loop-i.rest.now - k) (drop k c.loop-i.rest.now) (omega (arith, length-drop k c.loop-i.rest.now))
          ∙ field_read fields i within c.loop-i.rest.now rest c.from.result
          (field_size fields i within c.loop-i.rest.now rest c.from.result c.from.ensures);
      wide = λ fields is all k below.
          let within : i < length fields = omega (arith, inside, all, c.loop-i.invariant.long) in
          let rest = c.loop-i.invariant.read fields is all in
          let size = field_size fields i within c.loop-i.rest.now rest (get_or c.loop-i.rest.now 0 0) refl in
          widened old now i c.max.result inside fields
          (c.max.ensures ∙ (λ j. max (read j) (size j)))
          (c.loop-i.invariant.same i (omega arith)) (c.loop-i.invariant.wide fields is all) k below;
      same = unchanged old now i c.max.result inside c.loop-i.invariant.same;
    }

pub returns : goal.returns
returns c = λ count lines fields are is all.
    wide-more count lines fields _ _ are all c.loop-i.invariant.long
    (λ k below. c.loop-i.invariant.wide fields is (omega (arith, all, are.columns)) k
    (omega (arith, below, are.columns, c.loop-i-test.false, c.len-i-end.ensures, c.args.self.now.widths.ok)))
