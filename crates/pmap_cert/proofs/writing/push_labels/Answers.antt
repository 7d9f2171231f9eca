use Rattle.std.proofs.Common.{sym, [], rules}
use Rattle.std.proofs.lemmas.List.{append-nil, append_assoc, take_more}
use Rattle.std.proofs.lemmas.Option.{get_or_from_slice_get, slice_get_within}
use Rattle.pmap_cert.proofs.Written.{text_of_lines-append}
use Rattle.pmap_cert.proofs.writing.push_labels.Goals as goal

pub loop-number-preserved : goal.loop-number-preserved
loop-number-preserved g c =
    let there = sym c.in-Some.ensures.value in (
      rw (
        c.in_ok-push-2.ensures.0,
        c.in_ok-push.ensures.0,
        c.loop-number.invariant.0,
        take_more c.args.labels.now c.loop-number.number [] (slice_get_within c.args.labels.now c.loop-number.number c.in-Some.text.now there),
        get_or_from_slice_get c.args.labels.now c.loop-number.number c.in-Some.text.now [] there,
        text_of_lines-append,
      ) (simp (append_assoc, append-nil)),
      search rules,
      search rules,
    )
