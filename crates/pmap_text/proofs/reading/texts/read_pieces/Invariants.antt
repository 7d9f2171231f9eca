use Rattle.std.proofs.Common.{◌+◌, ◌≤◌, length}
use Rattle.std.specs.Vec.Iter.{into_iter_items}
use Rattle.pmap_text.specs.Inner.{text_in, text_read}
use Rattle.pmap_text.specs.declared.reading.form.Form.TheVariants.{Map as map_form}
use Rattle.pmap_text.proofs.EndedLines.{IsLeft}
use Rattle.pmap_text.proofs.reading.texts.read_pieces.Given as goal

abbrev pub invariant-loop-piece : goal.invariant-loop-piece
invariant-loop-piece l = record {
  left : IsLeft (text_read map_form (text_in l.fn.ended.items l.last)) (into_iter_items l.piece-iterator) l.last l.number l.reading;
  fits : l.number + length (text_in (into_iter_items l.piece-iterator) l.last) ≤ length (text_in l.fn.ended.items l.last);
}
