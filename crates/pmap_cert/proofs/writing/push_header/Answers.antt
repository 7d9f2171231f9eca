use Rattle.std.proofs.Common.{rules}
use Rattle.std.proofs.lemmas.List.{append_assoc}
use Rattle.pmap_cert.proofs.writing.push_header.Goals as goal

pub returns : goal.returns
returns g c = (
  rw (
    c.in_ok-push-5.ensures.0,
    c.in_ok-push_number.ensures.0,
    c.in_ok-push-4.ensures.0,
    c.in_ok-push-3.ensures.0,
    c.in_ok-push-2.ensures.0,
    c.in_ok-push.ensures.0,
    c.format_text.ensures,
    c.version_text.ensures,
  ) (simp append_assoc),
  search rules,
  search rules,
)
