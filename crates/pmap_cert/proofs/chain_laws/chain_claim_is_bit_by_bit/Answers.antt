use Rattle.pmap_cert.proofs.Chains.{claim-by_bits}
use Rattle.pmap_cert.proofs.chain_laws.chain_claim_is_bit_by_bit.Goals as goal

pub returns : goal.returns
returns c = claim-by_bits
