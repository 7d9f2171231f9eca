use Rattle.std.proofs.Common.{◌≡◌, List, ℕ, ap, ◌∙◌}
use Rattle.byteorder.specs.Endian.{big_number}
use Rattle.ipfix_templates.specs.InForce.{template_at}
use Rattle.ipfix_read.specs.Set.{written_length}
use Rattle.ipfix_read.proofs.Sets.{from_place, set_read}
use Rattle.ipfix_read.proofs.set.read_set.Goals as goal
use Rattle.ipfix_read.proofs.set.read_set.Goals.{After-split_at}

size : (c : After-split_at) → c.from-length.result ≡ written_length c.args.bytes.now
size c = c.from-length.ensures ∙ c.read_u16.ensures ∙ ap (λ (xs : List ℕ). big_number 2 xs) (from_place 2 c.args.bytes.now)

pub returns-clause-read : goal.returns-clause-read
returns-clause-read c =
    let s = (goal.at.returns-clause-read c).After-split_at in
    let read = c.in_ok-set.ensures.read in (
      set_read (template_at c.args.table.now) c.args.domain c.args.base c.args.bytes.now c.from-length.result c.read_u16-id.result c.split_at.result.0.now c.split_at.result.1.now _ (size s)
          c.if-length-lt-SET_HEADER.false c.if-bytes-length.false c.split_at.ensures.front c.split_at.ensures.back c.read_u16-id.ensures read.0,
      read.1,
    )
