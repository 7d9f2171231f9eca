use Rattle.std.proofs.Common.{refl}
use Rattle.std.proofs.lemmas.Result.{err_from_is_err_and}
use Rattle.ipfix_templates.specs.InForce.{template_at}
use Rattle.ipfix_read.proofs.Sets.{fault_kept}
use Rattle.ipfix_read.proofs.Readings.{whole_is}
use Rattle.ipfix_read.proofs.message.whole_message.Goals as goal

pub returns-in_err-read_sets : goal.returns-in_err-read_sets
returns-in_err-read_sets c =
    let p = err_from_is_err_and c.from_residual-in_err-read_sets.result c.from_residual-in_err-read_sets.ensures.1 in
    rw (p.1, p.2) (fault_kept _ _ c.in_err-read_sets.field-0.0
    (whole_is (template_at c.args.table.now) c.args.base c.args.bytes.now _ _ _ _ refl refl c.read_u32-domain.ensures) c.in_err-read_sets.ensures.read)

pub returns : goal.returns
returns c =
    let read = c.in_ok-read_sets.ensures.read in
    (whole_is (template_at c.args.table.now) c.args.base c.args.bytes.now _ _ _ _ c.read_u32.ensures c.read_u32-2.ensures c.read_u32-domain.ensures read.0, read.1)
