use Rattle.std.proofs.Common.{Some, codes}
use Rattle.std.proofs.lemmas.Bool.Decides.{Decides-eqb}
use Rattle.std.proofs.lemmas.Slice.Eq.{strip_prefix_is}
use Rattle.pmap_cert.proofs.header.name.Goals as goal

pub returns-in-Some-strip_prefix : goal.returns-in-Some-strip_prefix
returns-in-Some-strip_prefix c =
    strip_prefix_is Decides-eqb c.args.text.now (codes "flowlabel-cert 1 ipv6") (Some c.in-Some-strip_prefix.rest) c.in-Some-strip_prefix.ensures.cases

pub returns-in-Some-strip_prefix-2 : goal.returns-in-Some-strip_prefix-2
returns-in-Some-strip_prefix-2 c =
    strip_prefix_is Decides-eqb c.args.text.now (codes "flowlabel-cert 2 ipv4") (Some c.in-Some-strip_prefix-2.rest) c.in-Some-strip_prefix-2.ensures.cases

pub returns-in-Some-strip_prefix-3 : goal.returns-in-Some-strip_prefix-3
returns-in-Some-strip_prefix-3 c =
    strip_prefix_is Decides-eqb c.args.text.now (codes "flowlabel-cert 2 ipv6") (Some c.in-Some-strip_prefix-3.rest) c.in-Some-strip_prefix-3.ensures.cases
