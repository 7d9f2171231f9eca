use Rattle.std.proofs.Common.{◌≡◌, ◌≢◌, ◌++◌, ℕ, List, Ok, Err, flat_map, length, length-append, ap, sym, subst, arith, rules}
use Rattle.std.proofs.lemmas.List.{nil_from_length}
use Rattle.std.specs.Global.{Vec}
use Rattle.std.specs.Vec.Iter.{into_iter_items}
use Rattle.pmap_text.specs.Inner.{AreEnded, text_in, text_read}
use Rattle.pmap_text.specs.Reading.{Earlier, NoMemory, lines_of, lines_read}
use Rattle.pmap_text.specs.declared.reading.form.Form.TheVariants.{Map as map_form}
use Rattle.pmap_text.proofs.EndedLines.{after-last, after-piece, left-after}
use Rattle.pmap_text.proofs.reading.texts.read_pieces.Goals as goal

pub loop-piece-init : goal.loop-piece-init
loop-piece-init c =
    let all : into_iter_items c.into_iter-piece-iterator.result ≡ c.args.ended.items = c.into_iter-piece-iterator.ensures.into_iter_gives.0 in
    record {
      left = record {
        read = λ i. lines_read map_form 0 (Ok (sym c.new-reading.ensures i)) (lines_of (text_in (sym all i) c.args.last.now));
        ended = subst AreEnded (sym all) c.requires.ended;
        none = ap (λ (e : Earlier). e.prefixes) c.new-reading.ensures;
      };
      fits = omega (arith, ap (λ (ps : List (Vec ℕ)). length (text_in ps c.args.last.now)) all);
    }

pub loop-piece-preserved : goal.loop-piece-preserved
loop-piece-preserved c =
    let old = c.loop-piece.invariant in
    let reads = c.in_ok-number.ensures in
    let next = c.in-Some.ensures.steps.0 in
    let same = c.as_slice.ensures.value in
    let flat : List ℕ = flat_map (λ (p : Vec ℕ). p.items) (into_iter_items c.next.new.self) in
    record {
      left = left-after old.left next same reads;
      fits = omega (
        arith,
        old.fits,
        reads.number,
        ap (λ (ps : List (Vec ℕ)). length (text_in ps c.args.last.now)) next,
        ap length same,
        length-append (c.in-Some.piece.items ++ flat) c.args.last.now,
        length-append c.in-Some.piece.items flat,
        length-append flat c.args.last.now,
      );
    }

pub returns-in_err-number-clause-err : goal.returns-in_err-number-clause-err
returns-in_err-number-clause-err c =
    let fault : (c.in_err-number.field-0.0).kind ≢ NoMemory → text_read map_form (text_in c.args.ended.items c.args.last.now) ≡ Err c.in_err-number.field-0.0 =
    after-piece c.loop-piece.invariant.left (Err _) c.in-Some.ensures.steps.0 c.as_slice.ensures.value c.in_err-number.ensures in
    search (fault, rules)

pub returns-in_err-read_on-clause-err : goal.returns-in_err-read_on-clause-err
returns-in_err-read_on-clause-err c =
    let none = nil_from_length (into_iter_items c.loop-piece.piece-iterator) (omega (arith, c.in-None.ensures.steps.0, c.loop-piece.piece-iterator.rest.ok)) in
    let fault : (c.in_err-read_on.field-0.0).kind ≢ NoMemory → text_read map_form (text_in c.args.ended.items c.args.last.now) ≡ Err c.in_err-read_on.field-0.0 =
    after-last c.loop-piece.invariant.left (Err _) none c.in_err-read_on.ensures in
    search (fault, rules)

pub returns-clause-ok : goal.returns-clause-ok
returns-clause-ok c =
    let none = nil_from_length (into_iter_items c.loop-piece.piece-iterator) (omega (arith, c.in-None.ensures.steps.0, c.loop-piece.piece-iterator.rest.ok)) in
    after-last c.loop-piece.invariant.left (Ok _) none c.in_ok-read_on.ensures
