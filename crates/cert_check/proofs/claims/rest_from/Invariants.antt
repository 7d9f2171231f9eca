use Rattle.std.proofs.Common.{◌≡◌, ℕ, ◌^◌, ◌≤◌, length}
use Rattle.pmap_cert.specs.CertificateText.{IsAscending}
use Rattle.cert_check.specs.Inner.{has_number}
use Rattle.cert_check.proofs.Sets.{numbers}
use Rattle.cert_check.proofs.claims.rest_from.Given as goal

abbrev pub invariant-loop-first : goal.invariant-loop-first
invariant-loop-first l = record {
  ascending : IsAscending (2 ^ 32) 0 (numbers l.rest);
  kept : (n : ℕ) → l.id.0 ≤ n → has_number (numbers l.rest) n ≡ has_number (numbers l.set) n;
}

abbrev pub decreases-loop-first : goal.decreases-loop-first
decreases-loop-first l = length l.rest
