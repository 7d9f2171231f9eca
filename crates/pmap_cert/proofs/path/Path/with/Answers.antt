use Rattle.std.proofs.Common.{◌≡◌, ◌+◌, ◌*◌, ◌%◌, ◌^◌, ◌∙◌, suc, arith}
use Rattle.pmap_cert.specs.Paths.{path_to}
use Rattle.pmap_cert.proofs.Paths.{path-more}
use Rattle.pmap_cert.proofs.path.Path.with.Goals as goal

pub returns-clause-bits : goal.returns-clause-bits
returns-clause-bits c =
    let path = c.args.self.now in
    let next : path.count + 1 ≡ suc path.count = omega arith in
    (λ i. path_to (path.value * 2 % 2 ^ 128 + c.from.ensures i) (next i)) ∙ path-more path.value path.count c.args.bit c.requires
