use Rattle.std.proofs.Common.{◌≡◌, ◌∷◌, [], ℕ, List, arith, get_or, length, rules, subst}
use Rattle.std.proofs.lemmas.Result.{on_ok_weaker}
use Rattle.pmap_model.specs.declared.label.LabelId.{LabelId}
use Rattle.pmap_cert.specs.CertificateModel.{ClaimOf}
use Rattle.pmap_cert.specs.Node.{claiming}
use Rattle.pmap_minimise.specs.Built.{AddsExact, claim_at, last_claim}
use Rattle.pmap_minimise.specs.Numbers.{numbers_of}
use Rattle.pmap_minimise.proofs.building.push_inner.Goals as goal

abbrev first : List LabelId → ℕ
first ids = (get_or ids 0 (record { 0 = 0 })).0

-- a claim of one label
one-label : (claim : ClaimOf ℕ) (cost : ℕ) (ids : List LabelId) → cost ≡ claim.cost → numbers_of ids ≡ claim.labels → length ids ≡ 1 → claiming cost (first ids ∷ []) ≡ claim
one-label claim cost [] same is one = absurd (omega arith)
one-label claim cost (x ∷ []) same is one = λ i. claiming (same i) (is i)
one-label claim cost (x ∷ y ∷ ids) same is one = absurd (omega arith)

pub returns-in-len1-len1 : goal.returns-in-len1-len1
returns-in-len1-len1 c =
    let nodes = c.args.nodes.now in
    let new = c.push_over_labels.new.nodes in
    let low = c.claim-low.result in
    let high = c.claim-high.result in
    let is = rw c.len-lower.ensures at c.claim-low.ensures in
    on_ok_weaker c.push_over_labels.result
    (λ adds. subst (λ (l : ClaimOf ℕ). AddsExact l (claim_at nodes c.args.upper) nodes new) (one-label (last_claim nodes) low.cost low.set.now is.cost is.set (search rules))
    (subst (λ (h : ClaimOf ℕ). AddsExact (claiming low.cost (first low.set.now ∷ [])) h nodes new)
    (one-label (claim_at nodes c.args.upper) high.cost high.set.now c.claim-high.ensures.cost c.claim-high.ensures.set (search rules)) adds)) c.push_over_labels.ensures
