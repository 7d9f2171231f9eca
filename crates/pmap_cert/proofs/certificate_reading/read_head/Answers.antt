use Rattle.std.proofs.lemmas.Result.{err_from_is_err_and}
use Rattle.pmap_cert.specs.Format.{format_number}
use Rattle.pmap_cert.proofs.FormatWhole.{reading-header_fault, reading-labels_fault, reading-head}
use Rattle.pmap_cert.proofs.certificate_reading.read_head.Goals as goal

pub returns-in_err-format-clause-err : goal.returns-in_err-format-clause-err
returns-in_err-format-clause-err c =
    let p = err_from_is_err_and c.from_residual.result c.from_residual.ensures.1 in
    rw (p.1, p.2) (λ _. reading-header_fault c.args.text.now c.in_err-format.field-0.0 (rw c.new.ensures at c.in_err-format.ensures.err))

pub returns-in_err-labels-clause-err : goal.returns-in_err-labels-clause-err
returns-in_err-labels-clause-err c =
    let p = err_from_is_err_and c.from_residual-in_err-labels.result c.from_residual-in_err-labels.ensures.1 in
    let header = c.in_ok-format in
    rw (p.1, p.2)
    (λ some. reading-labels_fault c.args.text.now (format_number header.format) header.version header.count header.lines (rw c.new.ensures at header.ensures.ok)
    c.in_err-labels.field-0.0 (c.in_err-labels.ensures.err some))

pub returns-clause-ok : goal.returns-clause-ok
returns-clause-ok c =
    let header = c.in_ok-format in
    let labels = c.in_ok-labels in
    reading-head c.args.text.now (format_number header.format) header.version header.count header.lines (rw c.new.ensures at header.ensures.ok)
    labels.labels labels.nodes labels.ensures.ok
