use Rattle.std.specs.Prelude.{Bool, true, false, ℕ, suc, List, [], ◌∷◌, ◌+◌, ◌-◌, ◌*◌, ◌^◌, ◌&&◌, ◌==◌, ◌≡◌, ◌≢◌}
use Rattle.std.specs.Prelude.{Err, Ok, Result, not, Option, Some, None, length, nat_lt, option_map, if◌then◌else◌}
use Rattle.std.specs.List.{list_all, list_any}
use Rattle.std.specs.Option.{option_map_or, option_or}
use Rattle.std.specs.Str.{bytes_eq}
use Rattle.prefix_keys.specs.declared.version.Version.{Version}
use Rattle.prefix_keys.specs.declared.version.Version.TheVariants.{V4, V6}
use Rattle.prefix_keys.specs.Block.{first_of, width_of}
use Rattle.pmap_model.specs.ListModel.{ListModel, Prefix, label_below, lies_inside}
use Rattle.pmap_model.specs.MapModel.{Label, MapModel, settled_label}
use Rattle.pmap_cert.specs.Compacting.{line_count}
use Rattle.pmap_cert.specs.declared.fault.CertFault.{CertFault}
use Rattle.pmap_cert.specs.declared.fault.CertFaultKind.TheVariants.{NoMemory as NoMemoryForText}
use Rattle.pmap_cert.specs.CertificateModel.{CertificateModel, ChainNode, InnerNode, LeafNode, Claim, Tree}
use Rattle.pmap_cert.specs.CertificateModel.{claim_of, chain_claim, chosen_half, side_half, exact_claim}
pub use Rattle.cert_check.specs.declared.fault.CheckFault.{CheckFault}
pub use Rattle.cert_check.specs.declared.fault.CheckFaultKind.{CheckFaultKind}
pub use Rattle.cert_check.specs.declared.fault.TextFault.{TextFault}
pub use Rattle.cert_check.specs.declared.fault.TextFault.TheVariants.{Certificate, Check}
pub use Rattle.cert_check.specs.declared.fault.CheckFaultKind.TheVariants.{BoundNotMet, CostTooHigh}
pub use Rattle.cert_check.specs.declared.fault.CheckFaultKind.TheVariants.{LeafNotUniform, ListDiffers, NoMemory}
pub use Rattle.cert_check.specs.declared.fault.CheckFaultKind.TheVariants.{SetTooSmall, VersionDiffers}
use Rattle.pmap_model.specs.Label.{has_label}

-- the versions are equal
abbrev pub is_same_version : Version → Version → Bool
is_same_version V4 V4 = true
is_same_version V6 V6 = true
is_same_version _ _ = false

-- The first fault of a certificate for a map and a prefix list: the order in which faults are looked for, and the node
-- of each. A certificate without a fault is accepted (the laws of this crate).

-- there is a label, and it is x
abbrev pub is_label_of : Option Label → Label → Bool
is_label_of label x = option_map_or (λ y. bytes_eq y x) label false

-- the list settles the block with the label: no entry lies strictly inside, and the longest that covers it has the
-- label
abbrev pub list_settles : ℕ → List Prefix → ℕ → ℕ → Label → Bool
list_settles W ps n q x =
    not (list_any (lies_inside W n q) ps)
    && is_label_of (label_below W ps (suc n) (first_of W n q)) x

-- the fault of a leaf: the map doesn't settle its block with its label, or otherwise the list doesn't
abbrev pub leaf_fault : MapModel → List Prefix → ℕ → ℕ → Label → Option CheckFaultKind
leaf_fault m ps n q x =
    if is_label_of (settled_label m n q) x
    then (if list_settles (width_of m.version) ps n q x then None else Some ListDiffers)
    else Some LeafNotUniform

-- the fault of a claim, by the exact claim of the claims below: a cost above that claim's, or the same cost without a
-- label of its set
abbrev pub claim_fault : Claim → Claim → Option CheckFaultKind
claim_fault claim exact =
    if nat_lt exact.cost claim.cost then Some CostTooHigh
    else (if claim.cost == exact.cost && not (list_all (has_label claim.labels) exact.labels)
    then Some SetTooSmall else None)

-- a fault of the node with this number, in place of which at most 2 ^ 64 - 1 is reported, or of no single node if it
-- is 0
abbrev pub fault_of_number : ℕ → CheckFaultKind → CheckFault
fault_of_number number kind =
    record { kind = kind; node = if nat_lt number (2 ^ 64) then number else 2 ^ 64 - 1 }

-- The first fault along the bits of the chain with this number: first that of its end, then those of the side blocks
-- from the deepest up.
abbrev pub bits_fault : MapModel → List Prefix → Label → ℕ → (ℕ → ℕ → Option CheckFault)
    → List Bool → ℕ → ℕ → Option CheckFault
bits_fault m ps side number end [] n q = end n q
bits_fault m ps side number end (bit ∷ bits) n q =
    option_or (bits_fault m ps side number end bits (suc n) (chosen_half bit q))
    (option_map (fault_of_number number) (leaf_fault m ps (suc n) (side_half bit q) side))

-- The first fault of the node with this number, for the block of n bits with the number q, and of those below it: those
-- of the lower node come first, then those of the upper, then the node's own. Nodes are numbered as in a certificate's
-- text: the node, then those of its lower half, then those of its upper half.
abbrev pub node_fault : MapModel → List Prefix → Tree → ℕ → ℕ → ℕ → Option CheckFault
node_fault m ps (LeafNode x) number n q =
    option_map (fault_of_number number) (leaf_fault m ps n q x)
node_fault m ps (InnerNode claim lower upper) number n q =
    option_or (node_fault m ps lower (number + 1) (suc n) (2 * q))
    (option_or (node_fault m ps upper (number + 1 + line_count lower) (suc n) (2 * q + 1))
    (option_map (fault_of_number number)
    (claim_fault claim (exact_claim (claim_of lower) (claim_of upper)))))
node_fault m ps (ChainNode claim bits side end) number n q =
    option_or (bits_fault m ps side number (node_fault m ps end (number + 1)) bits n q)
    (option_map (fault_of_number number)
    (claim_fault claim (chain_claim (length bits) side (claim_of end))))

-- the first fault of a certificate for a map and a list: different versions, then the first fault of its nodes with
-- number 1 for the root, and then a list of more entries than the root's cost plus one
abbrev pub first_fault : MapModel → ListModel → CertificateModel → Option CheckFault
first_fault m l c =
    if is_same_version l.version m.version && is_same_version c.version m.version
    then option_or (node_fault m l.prefixes c.root 1 0 0)
    (if nat_lt ((claim_of c.root).cost + 1) (length l.prefixes)
    then Some (fault_of_number 0 BoundNotMet) else None)
    else Some (fault_of_number 0 VersionDiffers)

-- Below: only contracts of parts and proofs use these; no promise of the program rests on them.

-- the first fault of a text as a certificate for a map and a list, by what it is read as: the fault of the text, or
-- otherwise that of the certificate
abbrev pub text_fault : MapModel → ListModel → Result CertificateModel CertFault → Option TextFault
text_fault m l (Err fault) = Some (Certificate fault)
text_fault m l (Ok c) = option_map Check (first_fault m l c)

-- the result of a check of a text with this first fault, which may also run out of memory
abbrev pub IsTextOutcome : {A : Type 0} → Option TextFault → Result A TextFault → Type 0
IsTextOutcome fault (Ok done) = fault ≡ None
IsTextOutcome fault (Err (Check found)) = fault ≡ Some (Check found)
IsTextOutcome fault (Err (Certificate found)) =
    (found.kind ≢ NoMemoryForText → fault ≡ Some (Certificate found)) × (found.kind ≡ NoMemoryForText → found.line ≡ 0)
