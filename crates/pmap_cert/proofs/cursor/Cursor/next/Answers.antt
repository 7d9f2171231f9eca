use Rattle.std.proofs.Common.{◌≡◌, ℕ, ◌+◌, suc, ◌∙◌, ap, arith, drop, subst}
use Rattle.pmap_cert.specs.Node.{AreWhole, from_next_line, nodes_of}
use Rattle.pmap_cert.proofs.NodeWalk.{nodes-next, whole-next}
use Rattle.pmap_cert.proofs.cursor.Cursor.next.Goals as goal

pub returns : goal.returns
returns c =
    let lines = c.self.inside.nodes.now in
    let at = c.self.inside.number in
    let one : at + 1 ≡ suc at = omega arith in
    ap (λ (k : ℕ). nodes_of (drop k lines)) one ∙ nodes-next lines at c.self.invariant ∙ ap from_next_line c.self.view_is

pub invariant_of-result : goal.invariant_of-result
invariant_of-result c =
    let lines = c.self.inside.nodes.now in
    let at = c.self.inside.number in
    let one : suc at ≡ at + 1 = omega arith in
    subst (λ (k : ℕ). AreWhole (drop k lines)) one (whole-next lines at c.self.invariant)
