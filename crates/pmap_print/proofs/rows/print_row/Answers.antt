use Rattle.std.proofs.Common.{ℕ, ◌≡◌, ◌∙◌, List, ◌++◌, ap, arith, length, sym, take}
use Rattle.std.proofs.lemmas.List.{length-append, take-take, take_at}
use Rattle.std.proofs.lemmas.Result.{on_err_weaker}
use Rattle.pmap_print.proofs.rows.print_row.Goals as goal

-- a text that was appended to is cut to its first part
cut : (old field more : List ℕ) (count : ℕ) → count ≡ length old → take (length (old ++ field)) more ≡ old ++ field → take count more ≡ old
cut old field more count is front =
    sym (take-take count (length (old ++ field)) more (omega (arith, is, length-append old field)))
    ∙ ap (take count) front ∙ take_at old field count (sym is)

pub returns-then-is_err-clause-err : goal.returns-then-is_err-clause-err
returns-then-is_err-clause-err c =
    on_err_weaker c.print_labels-printed.result
    (λ front. c.truncate.ensures.items
    ∙ cut c.args.out.now.items _ c.print_labels-printed.new.out.items c.len-begin.result (omega (arith, c.len-begin.ensures, c.args.out.now.ok))
    (ap (λ (l : List ℕ). take (length l) c.print_labels-printed.new.out.items) (sym c.in_ok-print_fields.ensures.ok) ∙ front ∙ c.in_ok-print_fields.ensures.ok))
    c.print_labels-printed.ensures.err
