use Rattle.std.proofs.Common.{◌≡◌, ◌∙◌, ◌∷◌, ◌++◌, ℕ, List, None, ap, sym}
use Rattle.std.specs.Prelude.{option_and_then}
use Rattle.std.specs.Bool.{then_some}
use Rattle.std.specs.Borrow.{Bor}
use Rattle.std.specs.List.{flat_map}
use Rattle.std.specs.Option.{option_to_list}
use Rattle.flow_rows.specs.Elements.{rows_of_record}
use Rattle.flow_rows.specs.Inner.{second_at}
use Rattle.flow_rows.proofs.Walking.{first_usable, rows_first, still_usable}
use Rattle.flow_rows.proofs.walk.SetRows.next_row.Goals as goal
use Rattle.flow_rows.proofs.walk.SetRows.next_row.Goals.{After-new, then-is_there, else-is_there}

pub new-requires : goal.new-requires
new-requires c =
    first_usable c.args.self.now.layout.now c.args.self.now.runs.now c.args.self.now.records c.requires.have c.in_ok-next.field-0 c.next.new.self
    c.in_ok-next.ensures.steps c.bytes-bytes.result c.bytes-bytes.ensures

kept : (c : After-new) → c.if-is_there.last ≡ then_some c.is_there.result c.bytes-bytes.result
kept c = elim c.if-is_there.branch [
  | then-is_there w ↦ w.last-is ∙ sym (ap (λ there. then_some there c.bytes-bytes.result) w.if-is_there.true)
  | else-is_there w ↦ w.last-is ∙ c.take.ensures.after ∙ sym (ap (λ there. then_some there c.bytes-bytes.result) w.if-is_there.false)
]

pub returns-clause-have : goal.returns-clause-have
returns-clause-have c =
    let left = still_usable c.args.self.now.layout.now c.args.self.now.runs.now c.args.self.now.records c.requires.have c.in_ok-next.field-0
    c.next.new.self c.in_ok-next.ensures.steps c.bytes-bytes.result c.bytes-bytes.ensures c.is_there.result in
    record { have = left.0; usable = rw (kept c) left.1 }

pub returns-clause-rows : goal.returns-clause-rows
returns-clause-rows c =
    let second = λ (bytes : Bor (List ℕ)). second_at c.args.self.now.layout.now c.args.self.now.runs.now bytes.now in
    let none : option_and_then second c.args.last.now ≡ None =
    ap (option_and_then second) (sym c.take.ensures.value) ∙ sym c.second_row.ensures ∙ c.in_default.is in
    (λ i. option_to_list (none i) ++ flat_map rows_of_record c.args.self.now.records)
    ∙ rows_first c.args.self.now.layout.now c.args.self.now.runs.now c.args.self.now.records c.requires.have c.in_ok-next.field-0 c.next.new.self
    c.in_ok-next.ensures.steps c.bytes-bytes.result c.bytes-bytes.ensures c.is_there.result c.is_there.ensures
    ∙ (λ i. sym c.new.ensures i ∷ option_to_list (option_and_then second (sym (kept c) i)) ++ flat_map rows_of_record c.next.new.self)
