use Rattle.std.proofs.Common.{◌∙◌, sym}
use Rattle.flow_many.proofs.SumLemmas.{added, added_late, none_is, refused_before, refused_now, room, value_is}
use Rattle.flow_many.proofs.summing.SumsTakesMessages.take_message.Goals as goal

pub returns-then-is_some : goal.returns-then-is_some
returns-then-is_some c = λ start messages has.
    let (fault, is) = value_is c.args.self.now.fault (sym c.is_some.ensures ∙ c.if-is_some.true) in
    refused_before start c.args.self.now messages (c.args.offset, c.args.message.now) has fault is

pub returns-in-Some : goal.returns-in-Some
returns-in-Some c = λ start messages has.
    refused_now start c.args.self.now messages (c.args.offset, c.args.message.now) has
    (none_is c.args.self.now.fault (sym c.is_some.ensures ∙ c.if-is_some.false)) c.in-Some.kind (sym c.refusal.ensures ∙ c.in-Some.is)

pub add_rows-requires : goal.add_rows-requires
add_rows-requires c =
    let (start, messages, has, few) = c.requires in
    room start c.args.self.now messages (c.args.offset, c.args.message.now) has
    (none_is c.args.self.now.fault (sym c.is_some.ensures ∙ c.if-is_some.false)) (sym c.refusal.ensures ∙ c.in_default.is)

pub returns-then-self : goal.returns-then-self
returns-then-self c = λ start messages has.
    added_late start c.args.self.now messages (c.args.offset, c.args.message.now) has
    (none_is c.args.self.now.fault (sym c.is_some.ensures ∙ c.if-is_some.false)) (sym c.refusal.ensures ∙ c.in_default.is)
    c.add_rows.new.taker c.add_rows.ensures.few c.in_ok-add_rows.ensures.rows c.if-self.true

pub returns-else-self : goal.returns-else-self
returns-else-self c = λ start messages has.
    added start c.args.self.now messages (c.args.offset, c.args.message.now) has
    (none_is c.args.self.now.fault (sym c.is_some.ensures ∙ c.if-is_some.false)) (sym c.refusal.ensures ∙ c.in_default.is)
    c.add_rows.new.taker c.add_rows.ensures.few c.in_ok-add_rows.ensures.rows c.if-self.false
