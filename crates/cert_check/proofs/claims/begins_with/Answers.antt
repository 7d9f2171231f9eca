use Rattle.std.proofs.Common.{◌^◌, sym}
use Rattle.cert_check.proofs.Sets.{first-is}
use Rattle.cert_check.proofs.claims.begins_with.Goals as goal

pub returns-in-Some : goal.returns-in-Some
returns-in-Some c = first-is (2 ^ 32) c.args.rest.now c.in-Some.first.now c.args.id (sym c.in-Some.ensures.value) c.requires
