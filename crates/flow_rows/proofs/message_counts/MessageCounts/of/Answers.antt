use Rattle.std.proofs.Common.{◌≡◌, ◌∙◌, ◌+◌, ◌≤◌, [], ◌∷◌, List, ℕ, ap, arith, get_or}
use Rattle.std.proofs.lemmas.List.{append-nil}
use Rattle.flow_rows.specs.Counts.{count_list, counts_in, total}
use Rattle.flow_rows.proofs.message_counts.MessageCounts.of.Goals as goal
use Rattle.flow_rows.proofs.message_counts.MessageCounts.of.Goals.{After-add}

-- the counts of the one message
counted : (c : After-add) → count_list c.add.new.self ≡ counts_in 1 c.args.message.now.sets
counted c = c.add.ensures [] c.new-counts.ensures ∙ ap (counts_in 1) (append-nil c.args.message.now.sets)

number : (c : After-add) (k : ℕ) → get_or (count_list c.add.new.self) k 0 ≡ get_or (counts_in 1 c.args.message.now.sets) k 0
number c k = ap (λ (counts : List ℕ). get_or counts k 0) (counted c)

small : (c : After-add) → total c.add.new.self ≤ 589815
small c = omega (arith, number c 0, c.add.new.self.bounded)

pub overflow_add-result : goal.overflow_add-result
overflow_add-result c = omega (arith, small c)

pub overflow_cast-result : goal.overflow_cast-result
overflow_cast-result c = omega (arith, small (goal.at.overflow_cast-result c).After-add)

pub overflow_cast-result-2 : goal.overflow_cast-result-2
overflow_cast-result-2 c = omega (arith, small (goal.at.overflow_cast-result-2 c).After-add)

pub overflow_cast-result-3 : goal.overflow_cast-result-3
overflow_cast-result-3 c = omega (arith, small (goal.at.overflow_cast-result-3 c).After-add)

pub overflow_cast-result-4 : goal.overflow_cast-result-4
overflow_cast-result-4 c = omega (arith, small (goal.at.overflow_cast-result-4 c).After-add)

pub overflow_cast-result-5 : goal.overflow_cast-result-5
overflow_cast-result-5 c = omega (arith, small (goal.at.overflow_cast-result-5 c).After-add)

pub returns : goal.returns
returns c =
    let s = (goal.at.returns c).After-add in
    λ i. (number s 1 i + number s 2 i) ∷ number s 5 i ∷ number s 6 i ∷ number s 7 i ∷ number s 8 i ∷ c.count_without_bytes.ensures.count i ∷ []
