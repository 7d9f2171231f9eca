-- Compacting a certificate.
use Rattle.std.proofs.Common.{◌≡◌, ◌+◌, ◌==◌, ◌≤◌, inl, inr, Bool, true, false, bytes_eq, cond, arith, length, refl, sym, subst}
use Rattle.std.proofs.lemmas.Bool.{cond-false, cond-true, eq-eqb, ne_eqb}
use Rattle.pmap_model.specs.ListModel.{ListModel}
use Rattle.pmap_model.specs.MapModel.{MapModel}
use Rattle.pmap_cert.specs.Acceptance.{IsAccepted}
use Rattle.pmap_cert.specs.CertificateModel.{CertificateModel, Claim, IsOfFormat, IsPlain, opened_tree}
use Rattle.pmap_cert.specs.Compacting.{HasNoSpine, IsSameShape, OpensTo, compact, compacted, line_count}
use Rattle.pmap_cert.proofs.Opening.{claim-opening, lines-opening, opening-accepted}
use Rattle.pmap_cert.proofs.Spines.{compacted_in-no_spine, compacted_in-opens, shape-opens}

-- the compacted certificate of a certificate of format 1
abbrev chained : CertificateModel → CertificateModel
chained c = record { format = 2; version = c.version; table = c.table; root = compacted bytes_eq c.root }

pub compact-first : (c : CertificateModel) → c.format ≡ 1 → compact c ≡ chained c
compact-first c e = cond-true (c.format == 1) (chained c) c (eq-eqb c.format 1 e)

pub compact-again : (c : CertificateModel) → c.format ≡ 2 → compact c ≡ c
compact-again c e = cond-false (c.format == 1) (chained c) c (ne_eqb c.format 1 (λ f. absurd (omega (arith, e, f))))

-- what holds of a certificate of format 2 and of a compacted one of format 1 holds of each compacted certificate
module _ (c : CertificateModel) (Is : CertificateModel → Type 0) where
  pub by_format : IsOfFormat c → (c.format ≡ 1 → IsPlain c.root → Is (chained c)) → (c.format ≡ 2 → Is c) → Is (compact c)
  by_format (inl first) one two = subst Is (sym (compact-first c first.0)) (one first.0 first.1)
  by_format (inr second) one two = subst Is (sym (compact-again c second)) (two second)

  by_test : Is (chained c) → Is c → Is (compact c)
  by_test one two = by (c.format == 1)
    where
      by : (b : Bool) → Is (cond b (chained c) c)
      by true = one
      by false = two

-- a compacted root without chains opens to the original
opens : (c : CertificateModel) → IsPlain c.root → OpensTo (compacted bytes_eq c.root) c.root
opens c plain = compacted_in-opens (line_count c.root) c.root plain

pub compact-accepted : (m : MapModel) (l : ListModel) (c : CertificateModel) → IsOfFormat c → IsAccepted m l c → IsAccepted m l (compact c)
compact-accepted m l c of h =
    by_format c (IsAccepted m l) of (λ first plain. record {
      list_version = h.list_version;
      certificate_version = h.certificate_version;
      root = opening-accepted m l.prefixes (compacted bytes_eq c.root) c.root 0 0 (opens c plain) h.root;
      count = subst (λ (p : Claim). length l.prefixes ≤ p.cost + 1) (claim-opening (compacted bytes_eq c.root) c.root (opens c plain)) h.count;
    }) (λ second. h)

pub compact-format : (c : CertificateModel) → IsOfFormat c → (compact c).format ≡ 2
compact-format c of = by_format c (λ k. k.format ≡ 2) of (λ first plain. refl) (λ second. second)

pub compact-version : (c : CertificateModel) → (compact c).version ≡ c.version
compact-version c = by_test c (λ k. k.version ≡ c.version) refl refl

pub compact-table : (c : CertificateModel) → (compact c).table ≡ c.table
compact-table c = by_test c (λ k. k.table ≡ c.table) refl refl

pub compact-lines : (c : CertificateModel) → IsOfFormat c → line_count (compact c).root ≤ line_count c.root
compact-lines c of =
    by_format c (λ k. line_count k.root ≤ line_count c.root) of
    (λ first plain. lines-opening (compacted bytes_eq c.root) c.root (opens c plain)) (λ second. omega arith)

pub compact-claims : (c : CertificateModel) → c.format ≡ 1 → IsPlain c.root → OpensTo (compact c).root c.root
compact-claims c first plain = subst (λ (k : CertificateModel). OpensTo k.root c.root) (sym (compact-first c first)) (opens c plain)

pub compact-shape : (c : CertificateModel) → c.format ≡ 1 → IsPlain c.root → IsSameShape (opened_tree (compact c).root) c.root
compact-shape c first plain = shape-opens (compact c).root c.root (compact-claims c first plain)

pub compact-spines : (c : CertificateModel) → c.format ≡ 1 → IsPlain c.root → HasNoSpine (compact c).root
compact-spines c first plain =
    subst (λ (k : CertificateModel). HasNoSpine k.root) (sym (compact-first c first))
    (compacted_in-no_spine (line_count c.root) c.root plain (omega arith))
