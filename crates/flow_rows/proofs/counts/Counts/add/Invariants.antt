-- The counts are those of the messages and of the sets before the index, and there is room for those after it.
use Rattle.std.proofs.Common.{◌≡◌, ◌+◌, ◌*◌, ◌≤◌, ◌++◌, List, drop, length, take}
use Rattle.ipfix_read.specs.Message.{MessageView, message_size}
use Rattle.flow_rows.specs.Counts.{sets_of, counts_in, counts_of, count_list, total}
use Rattle.flow_rows.proofs.counts.Counts.add.Given as goal

abbrev pub invariant-loop-set : goal.invariant-loop-set
invariant-loop-set l = record {
  counted : (messages : List MessageView) → count_list l.fn.self ≡ counts_of messages
      → count_list l.self ≡ counts_in (length messages + 1) (sets_of messages ++ take l.set-index l.set-items);
  few : l.self.messages ≤ 4294967295;
  room : total l.self + 9 * message_size (drop l.set-index l.set-items) ≤ 589815 * l.self.messages;
}
