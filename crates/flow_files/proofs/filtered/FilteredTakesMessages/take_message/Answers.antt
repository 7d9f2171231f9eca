use Rattle.std.proofs.Common.{List, arith, subst}
use Rattle.std.proofs.lemmas.List.{length-map}
use Rattle.std.proofs.lemmas.Result.{on_ok_weaker}
use Rattle.ipfix_read.specs.Message.{MessageView}
use Rattle.ipfix_read.specs.Messages.{messages_in}
use Rattle.flow_rows.specs.Counts.{rows_of_messages}
use Rattle.flow_files.specs.Reports.{HasPassing}
use Rattle.flow_files.proofs.RowLemmas.{messages_more, passing_before, passing_more}
use Rattle.flow_files.proofs.filtered.FilteredTakesMessages.take_message.Goals as goal

pub add_rows-requires : goal.add_rows-requires
add_rows-requires g c =
    let (first, placed, has, some) = c.requires in (
      first.taker,
      rows_of_messages (messages_in placed),
      passing_before g.T.TakesRows.has_rows first (messages_in placed) c.args.self.now has,
      omega (arith, has.few, some, length-map placed (λ p. p.1)),
    )

pub returns : goal.returns
returns g c =
    on_ok_weaker c.add_rows.result
    (λ more first placed has.
    subst (λ (messages : List MessageView). HasPassing g.T.TakesRows.has_rows first messages (record c.args.self.now { taker = c.add_rows.new.taker })) (messages_more placed c.args._offset c.args.message.now)
    (passing_more g.T.TakesRows.has_rows first (messages_in placed) c.args.self.now has c.args.message.now c.add_rows.new.taker c.add_rows.ensures.few
    (more first.taker (rows_of_messages (messages_in placed)) (passing_before g.T.TakesRows.has_rows first (messages_in placed) c.args.self.now has))))
    c.add_rows.ensures.rows
