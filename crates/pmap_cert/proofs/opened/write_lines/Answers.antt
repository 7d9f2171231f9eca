use Rattle.std.proofs.lemmas.List.{append_assoc}
use Rattle.pmap_cert.proofs.opened.write_lines.Goals as goal

pub returns-clause-both : goal.returns-clause-both
returns-clause-both c =
    rw (
      c.write_byte.ensures.text,
      c.write_number-number-2.ensures.text,
      c.write_number-set.ensures.text,
      c.write_byte-end-2.ensures.text,
      c.write_byte-leaf.ensures.text,
      c.write_number-number.ensures.text,
      c.write_byte-end.ensures.text,
    ) (simp append_assoc)
