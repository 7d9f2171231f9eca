use Rattle.std.proofs.Common.{◌∙◌, sym}
use Rattle.nfcapd_read.specs.Pending.{four_in, six_in}
use Rattle.nfcapd_read.proofs.Making.{has_room, part_refused, sent_first}
use Rattle.nfcapd_read.proofs.Parts.{packs_kept, packs_none, packs_sent}
use Rattle.nfcapd_read.proofs.file.go_on.Goals as goal

pub returns-in-Err-clause-goes : goal.returns-in-Err-clause-goes
returns-in-Err-clause-goes c = λ rest.
    part_refused c.args.reading.now c.args.pending.now c.args.part.now rest c.requires.head c.requires.whole c.requires.some
    c.in-Err.kind c.in-Err.ensures.err

pub returns-in-Ok-None-clause-goes : goal.returns-in-Ok-None-clause-goes
returns-in-Ok-None-clause-goes c = (
  c.requires.few,
  λ rest. packs_none c.args.reading.now (four_in c.args.pending.now) (six_in c.args.pending.now) c.args.part.now rest c.requires.head
      c.requires.whole c.requires.some c.take_part.new.self (rw c.in-Ok-None.field-0-is at c.in-Ok-None.ensures.ok),
)

pub returns-then-add-clause-goes : goal.returns-then-add-clause-goes
returns-then-add-clause-goes c = (
  c.end.ensures.none,
  c.end.ensures.within,
  λ rest.
      packs_sent c.args.reading.now (four_in c.args.pending.now) (six_in c.args.pending.now) c.args.part.now rest c.requires.head
      c.requires.whole c.requires.some c.take_part.new.self c.in-Ok-Some.flow (rw c.in-Ok-Some.field-0-is at c.in-Ok-Some.ensures.ok)
      (four_in c.add.new.self) (six_in c.add.new.self) c.add.ensures.four c.add.ensures.six (sym c.add.ensures.full ∙ c.if-add.true)
      ∙ sent_first c.take_part.new.self c.end.new.self _ (four_in c.add.new.self) (six_in c.add.new.self) rest c.end.ensures.put c.end.ensures.none,
)

pub returns-else-add-clause-goes : goal.returns-else-add-clause-goes
returns-else-add-clause-goes c = (
  has_room _ (sym c.add.ensures.full ∙ c.if-add.false),
  λ rest.
      packs_kept c.args.reading.now (four_in c.args.pending.now) (six_in c.args.pending.now) c.args.part.now rest c.requires.head
      c.requires.whole c.requires.some c.take_part.new.self c.in-Ok-Some.flow (rw c.in-Ok-Some.field-0-is at c.in-Ok-Some.ensures.ok)
      (four_in c.add.new.self) (six_in c.add.new.self) c.add.ensures.four c.add.ensures.six (sym c.add.ensures.full ∙ c.if-add.false),
)
