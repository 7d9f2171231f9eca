use Rattle.std.proofs.Common.{◌^◌}
use Rattle.pmap_cert.specs.Inner.{BeginsWithBits, BeginsWithClaim, BeginsWithNumber, BeginsWithBoth}
use Rattle.pmap_cert.specs.Packed.{bits_in}
use Rattle.pmap_cert.proofs.LineTexts.{then-left, then-read}
use Rattle.pmap_cert.proofs.node_line.chain.Goals as goal

pub returns-in-Some-2 : goal.returns-in-Some-2
returns-in-Some-2 c =
    let count = c.args.count in
    then-read (BeginsWithNumber (2 ^ 32) c.args.text.now) (λ middle. BeginsWithBoth (BeginsWithBits c.args.most middle) (BeginsWithClaim count count)) _ _ c.in-Some.ensures _ _
    (then-read (BeginsWithBits c.args.most c.in-Some.rest.now) (BeginsWithClaim count count) (bits_in c.in-Some-bits_word.path) c.in-Some-bits_word.rest.now c.in-Some-bits_word.ensures
    _ _ (rw c.in-Some-2.is at c.in_ok-side.ensures))

pub returns-in-None : goal.returns-in-None
returns-in-None c =
    let count = c.args.count in
    then-left (BeginsWithNumber (2 ^ 32) c.args.text.now) (λ middle. BeginsWithBoth (BeginsWithBits c.args.most middle) (BeginsWithClaim count count)) _ _ c.in-Some.ensures
    (then-left (BeginsWithBits c.args.most c.in-Some.rest.now) (BeginsWithClaim count count) (bits_in c.in-Some-bits_word.path) c.in-Some-bits_word.rest.now c.in-Some-bits_word.ensures
    (rw c.in-None.is at c.in_ok-side.ensures))
