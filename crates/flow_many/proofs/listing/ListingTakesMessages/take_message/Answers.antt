use Rattle.std.proofs.Common.{◌≡◌, ◌∙◌, ◌++◌, ◌+◌, ◌∷◌, [], List, ap, append_assoc, arith, length, length-append, map, sym}
use Rattle.std.specs.Prelude.{decimal}
use Rattle.std.proofs.lemmas.List.{map-append}
use Rattle.pmap_print.proofs.MessageLines.{file_lines-added}
use Rattle.pmap_print.specs.Messages.{file_lines, message_line, numbers_of}
use Rattle.pmap_print.specs.Table.{Line}
use Rattle.pmap_print.specs.declared.messages.MessageLine.{MessageLine}
use Rattle.flow_many.specs.Files.{Placed}
use Rattle.flow_many.specs.Reading.{fields_of}
use Rattle.flow_many.proofs.listing.ListingTakesMessages.take_message.Goals as goal

pub returns : goal.returns
returns c = λ start messages has.
    let message : Placed = (c.args.offset, c.args.message.now) in
    let line : map decimal (numbers_of c.of.result) ≡ message_line c.args.self.now.file (c.args.self.now.messages + 1) message = ap (map decimal) c.of.ensures in
    let number : c.args.self.now.messages + 1 ≡ 1 + length messages = omega (arith, has.count) in
    record {
      file = has.file;
      count = omega (arith, has.count, length-append messages (message ∷ []));
      lines =
          ap fields_of c.in_ok-push.ensures.items
          ∙ map-append (λ (l : MessageLine). map decimal (numbers_of l)) c.args.self.now.lines.items (c.of.result ∷ [])
          ∙ (λ i. has.lines i ++ line i ∷ [])
          ∙ append_assoc (fields_of start.lines.items) (file_lines start.file 1 messages) (message_line c.args.self.now.file (c.args.self.now.messages + 1) message ∷ [])
          ∙ ap (λ (lines : List Line). fields_of start.lines.items ++ lines)
          ((λ i. file_lines start.file 1 messages ++ message_line (has.file i) (number i) message ∷ []) ∙ sym (file_lines-added start.file 1 messages message));
    }
