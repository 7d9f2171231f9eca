-- A reader has ended only if no byte is ahead.
use Rattle.std.proofs.Common.{◌==◌, ℕ, List, [], ap, length}
use Rattle.std.specs.Prelude.{◌&&◌, unwrap_or}
use Rattle.std.proofs.lemmas.Bool.{and_parts, eqb-true}
use Rattle.std.proofs.lemmas.List.{nil_from_length}
use Rattle.flow_io.specs.Ahead.{bytes_ahead}
use Rattle.std.specs.Io.KnownBytes.{prepend_known}
use Rattle.flow_io.proofs.laws.readers_show_what_they_note.Goals as goal

pub returns-clause-fetched : goal.returns-clause-fetched
returns-clause-fetched c left reader = reader.fetched

pub returns-clause-left : goal.returns-clause-left
returns-clause-left c left reader rest is = ap (prepend_known (bytes_ahead reader)) is

pub returns-clause-ended : goal.returns-clause-ended
returns-clause-ended c left reader is =
    let rest : List ℕ = unwrap_or (prepend_known (bytes_ahead reader) (left reader.inner.inner)) [] in
    let parts = and_parts (reader.ended && length (bytes_ahead reader) == 0) (length rest == 0) is in
    let both = and_parts reader.ended (length (bytes_ahead reader) == 0) parts.0 in
    (both.0, nil_from_length (bytes_ahead reader) (eqb-true (length (bytes_ahead reader)) 0 both.1))
