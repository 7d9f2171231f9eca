use Rattle.std.proofs.Common.{◌∙◌, sym, Some, None, refl}
use Rattle.prefix_keys.specs.Text.{decimal_number}
use Rattle.prefix_keys.proofs.Pieces.{dotted_of}
use Rattle.prefix_keys.proofs.text.dotted.read_dotted.Goals as goal

-- In each case the address is that of the four pieces that were cut off, and their numbers are those read so far.
pub returns-in_err-a : goal.returns-in_err-a
returns-in_err-a c =
    c.from_residual.ensures
    ∙ sym (dotted_of c.args.text.now _ _ _ _ _ _ c.cut.ensures.front c.cut.ensures.back c.cut-2.ensures.front c.cut-2.ensures.back
    c.cut-3.ensures.front c.cut-3.ensures.back
    None (decimal_number 3 255 c.cut-2.result.0.now) (decimal_number 3 255 c.cut-3.result.0.now) (decimal_number 3 255 c.cut-3.result.1.now)
    c.in_err-a.ensures.value refl refl refl)

pub returns-in_err-b : goal.returns-in_err-b
returns-in_err-b c =
    c.from_residual-in_err-b.ensures
    ∙ sym (dotted_of c.args.text.now _ _ _ _ _ _ c.cut.ensures.front c.cut.ensures.back c.cut-2.ensures.front c.cut-2.ensures.back
    c.cut-3.ensures.front c.cut-3.ensures.back
    (Some c.in_ok-a.a) None (decimal_number 3 255 c.cut-3.result.0.now) (decimal_number 3 255 c.cut-3.result.1.now)
    c.in_ok-a.ensures.value c.in_err-b.ensures.value refl refl)

pub returns-in_err-c : goal.returns-in_err-c
returns-in_err-c c =
    c.from_residual-in_err-c.ensures
    ∙ sym (dotted_of c.args.text.now _ _ _ _ _ _ c.cut.ensures.front c.cut.ensures.back c.cut-2.ensures.front c.cut-2.ensures.back
    c.cut-3.ensures.front c.cut-3.ensures.back
    (Some c.in_ok-a.a) (Some c.in_ok-b.b) None (decimal_number 3 255 c.cut-3.result.1.now)
    c.in_ok-a.ensures.value c.in_ok-b.ensures.value c.in_err-c.ensures.value refl)

pub returns-in_err-d : goal.returns-in_err-d
returns-in_err-d c =
    c.from_residual-in_err-d.ensures
    ∙ sym (dotted_of c.args.text.now _ _ _ _ _ _ c.cut.ensures.front c.cut.ensures.back c.cut-2.ensures.front c.cut-2.ensures.back
    c.cut-3.ensures.front c.cut-3.ensures.back
    (Some c.in_ok-a.a) (Some c.in_ok-b.b) (Some c.in_ok-c.c) None
    c.in_ok-a.ensures.value c.in_ok-b.ensures.value c.in_ok-c.ensures.value c.in_err-d.ensures.value)

pub returns : goal.returns
returns c =
    sym (dotted_of c.args.text.now _ _ _ _ _ _ c.cut.ensures.front c.cut.ensures.back c.cut-2.ensures.front c.cut-2.ensures.back
    c.cut-3.ensures.front c.cut-3.ensures.back
    (Some c.in_ok-a.a) (Some c.in_ok-b.b) (Some c.in_ok-c.c) (Some c.in_ok-d.d)
    c.in_ok-a.ensures.value c.in_ok-b.ensures.value c.in_ok-c.ensures.value c.in_ok-d.ensures.value)
