use Rattle.std.proofs.Common.{◌≡◌, ◌∙◌, ◌++◌, ◌∷◌, ◌%◌, [], ap, arith, take}
use Rattle.std.proofs.lemmas.List.{take_more_set}
use Rattle.nfcapd_read.specs.Encode.{wire}
use Rattle.nfcapd_read.proofs.encode.put_u8.Goals as goal

pub returns-clause-put : goal.returns-clause-put
unfolding wire
returns-clause-put c =
    let same : c.args.number ≡ c.args.number % 256 = omega arith in
    take_more_set c.args.out.now c.args.at c.args.number (omega arith) ∙ ap (λ n. take c.args.at c.args.out.now ++ n ∷ []) same
