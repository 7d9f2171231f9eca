use Rattle.pmap_cert.proofs.CompactForms.{compact-text}
use Rattle.pmap_cert.proofs.chain_laws.compact_has_a_text.Goals as goal

pub returns-clause-text : goal.returns-clause-text
returns-clause-text c = compact-text
