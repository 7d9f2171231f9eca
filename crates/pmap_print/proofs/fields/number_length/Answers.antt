use Rattle.std.proofs.Common.{arith}
use Rattle.pmap_print.proofs.Appended.{short}
use Rattle.pmap_print.proofs.fields.number_length.Goals as goal

pub write_digits-start-requires : goal.write_digits-start-requires
write_digits-start-requires c = (omega (arith, short c.args.number (omega (arith, c.ranges.number.fits))), omega arith)
