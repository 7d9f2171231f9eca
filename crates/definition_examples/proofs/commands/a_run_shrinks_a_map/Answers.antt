-- The minimal pair of the map of four quarters.
use Rattle.std.proofs.Common.{rules, [], ◌∷◌, List, Ok, Err, None, Result, codes, refl}
use Rattle.prefix_keys.specs.declared.version.Version.TheVariants.{V4}
use Rattle.pmap_model.specs.ListModel.{ListModel}
use Rattle.pmap_model.specs.MapModel.{Label, MapModel}
use Rattle.pmap_text.specs.Reading.{map_reading}
use Rattle.pmap_text.specs.declared.fault.MapFault.{MapFault}
use Rattle.pmap_cert.specs.Acceptance.{IsMinimalPair, entries_of}
use Rattle.pmap_cert.specs.CertificateModel.{CertificateModel, InnerNode, LeafNode, Tree}
use Rattle.definition_examples.specs.Commands.{opened, quarters_map}
use Rattle.definition_examples.proofs.commands.a_run_shrinks_a_map.Goals as goal

abbrev table : List Label
table = codes "A" ∷ codes "B" ∷ codes "C" ∷ codes "UNKNOWN" ∷ []

-- the node of a half of the address space, of which the lower half has the label A
abbrev half : Label → Tree
half x = InnerNode (record { cost = 1; labels = codes "A" ∷ x ∷ [] }) (LeafNode (codes "A")) (LeafNode x)

abbrev certificate : CertificateModel
certificate = record { format = 1; version = V4; table = table; root = InnerNode (record { cost = 2; labels = codes "A" ∷ [] }) (half (codes "B")) (half (codes "C")) }

abbrev list : ListModel
list = record { version = V4; name = None; table = table; prefixes = entries_of 32 table certificate.root None 0 0 }

abbrev IsPairOf : Result MapModel MapFault → Type 0
IsPairOf (Ok m) = IsMinimalPair m list certificate
IsPairOf (Err fault) = ⊥

is_pair : IsPairOf (map_reading quarters_map)
is_pair = search rules

pub returns-clause-list : goal.returns-clause-list
unfolding opened
returns-clause-list c = (Ok _, (list, certificate, is_pair, refl), refl)

pub returns-clause-certificate : goal.returns-clause-certificate
unfolding opened
returns-clause-certificate c = (Ok _, (list, certificate, is_pair, refl), refl)

pub returns-clause-compact : goal.returns-clause-compact
unfolding opened
returns-clause-compact c = (Ok _, (list, certificate, is_pair, refl), refl)
