use Rattle.std.proofs.Common.{◌≡◌, ◌-◌, ◌/◌, ◌^◌, drop, length}
use Rattle.pmap_cert.specs.CertificateText.{bit_digits}
use Rattle.pmap_cert.specs.Paths.{path_to}
use Rattle.pmap_cert.proofs.writing.push_bits.Given as goal

abbrev pub invariant-loop-place : goal.invariant-loop-place
invariant-loop-place g l = record {
  len : length l.digits ≡ 128;
  rest : l.rest ≡ l.fn.path.value / 2 ^ l.place;
  done : drop (128 - l.place) l.digits ≡ bit_digits (path_to l.fn.path.value l.place);
}
