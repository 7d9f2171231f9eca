use Rattle.std.specs.Prelude.{ℕ, suc, List, [], ◌∷◌, ◌≡◌, ◌+◌, ◌-◌, ◌^◌, ◌==◌, ◌&&◌, Bool, Option, None, Some}
use Rattle.std.specs.Prelude.{map, nat_le, option_map, length, ◌<◌, ◌≤◌, ◌≢◌, ◌++◌, Result, Ok, Err, drop}
use Rattle.std.specs.List.{list_any}
use Rattle.std.specs.Option.{option_or}
use Rattle.prefix_keys.specs.Block.{block_number, width_of, first_of, last_of}
use Rattle.prefix_keys.specs.declared.block.Block.{Block}
use Rattle.prefix_keys.specs.declared.version.Version.{Version}
use Rattle.pmap_model.specs.Label.{IsLabelTable, number_of as number_of_label}
use Rattle.pmap_model.specs.ListModel.{ListModel, Prefix}
use Rattle.pmap_model.specs.MapModel.{Label, MapModel}
use Rattle.pmap_model.specs.PrefixList.{AreShortestFirst, list_of, number_of_block}
use Rattle.pmap_model.specs.declared.label.LabelId.{LabelId}
use Rattle.pmap_stretches.specs.Stretches.{AreLabelsBelow, AreStretches, StretchesModel}
use Rattle.pmap_stretches.specs.Stretches.{count_begun, label_held, last_at}
use Rattle.pmap_model.specs.declared.map_text.MapText.{MapText}
use Rattle.pmap_model.specs.declared.prefix_list.PrefixList.{PrefixList}
use Rattle.pmap_model.specs.declared.statement.Statement.{Statement}
use Rattle.pmap_model.specs.MapText.{text_at, map_of, text_if_some}
use Rattle.pmap_cert.specs.Compacting.{line_count}
use Rattle.pmap_cert.specs.CertificateText.{IsAscending}
use Rattle.pmap_cert.specs.CertificateModel.{CertificateModel, ChainNode, Claim, InnerNode}
use Rattle.pmap_cert.specs.CertificateModel.{Tree, chosen_half, claim_of, side_half}
use Rattle.pmap_cert.specs.Format.{format_number}
use Rattle.pmap_cert.specs.declared.format.Format.{Format}
use Rattle.pmap_cert.specs.FormatReading.{Place}
use Rattle.pmap_cert.specs.declared.fault.CertFault.{CertFault}
use Rattle.pmap_cert.specs.declared.node.Claim.{Claim as Claimed}
use Rattle.pmap_cert.specs.declared.fault.CertFaultKind.TheVariants.{NoMemory as NoMemoryForText}
use Rattle.pmap_cert.specs.Inner.{node_due_at}
use Rattle.pmap_model.specs.Steps.{◌>>=◌}
use Rattle.cert_check.specs.Checking.{is_label_of, fault_of_number, first_fault, leaf_fault}
use Rattle.cert_check.specs.Checking.{node_fault, BoundNotMet, CheckFault, CheckFaultKind}
pub use Rattle.cert_check.specs.declared.source.Source.{Source}
pub use Rattle.cert_check.specs.declared.sources.Sources.{Sources}
pub use Rattle.cert_check.specs.declared.swept.Swept.{Swept}
pub use Rattle.cert_check.specs.declared.walk.StoredClaim.{StoredClaim}
pub use Rattle.cert_check.specs.declared.walk.Walk.{Walk}

-- the numbers of one table's labels in another table, `None` for a label that the other lacks
pub record AreNumbers (numbers : List (Option LabelId)) (from to : List Label) : Type 0 where
  pub each : map (option_map (λ id. id.0)) numbers ≡ map (number_of_label to) from
  pub table : IsLabelTable to

abbrev pub has_number : List ℕ → ℕ → Bool
has_number ns n = list_any (λ i. i == n) ns

abbrev pub HasKnownLabels : Swept → Type 0
HasKnownLabels s = AreLabelsBelow (length s.labels) s.stretches

-- a check needs this of the map
pub record IsOfMap (m : MapText) (s : Swept) : Type 0 where
  pub labels : s.labels ≡ m.labels
  pub version : s.stretches.version ≡ m.version
  pub stretches : AreStretches m.statements (Some m.default) s.stretches

-- a check needs this of the list
pub record IsOfList (l : PrefixList) (s : Swept) : Type 0 where
  pub labels : s.labels ≡ l.labels
  pub version : s.stretches.version ≡ l.version
  pub stretches : (ss : List Statement) × AreShortestFirst l.entries ss × AreStretches ss None s.stretches
  pub count : s.count ≡ length l.entries

-- each map and list of which a check needs these meet the claim
abbrev pub ForInputs : Swept → Swept → (MapModel → ListModel → Type 0) → Type 0
ForInputs map list IsMet =
    (m : MapText) (l : PrefixList) → IsOfMap m map → IsOfList l list → IsMet (map_of m) (list_of l)

-- whether one stretch has all addresses from the first to the last, and has the label x
abbrev pub has_one_label : List Label → StretchesModel → ℕ → ℕ → Label → Bool
has_one_label from s first last x =
    nat_le last (last_at s (count_begun s.firsts first - 1)) && is_label_of (text_if_some from (label_held s first)) x

-- the inputs have one version, by its number of bits for the certificate, and the labels of the stretches have numbers
pub record AreSources (s : Sources) : Type 0 where
  pub width : s.limits.width ≡ width_of s.version
  pub map_version : s.of_map.stretches.now.version ≡ s.version
  pub list_version : s.of_list.stretches.now.version ≡ s.version
  pub map_known : AreLabelsBelow (length s.of_map.numbers.items) s.of_map.stretches.now
  pub list_known : AreLabelsBelow (length s.of_list.numbers.items) s.of_list.stretches.now

-- a map and a list that a certificate is checked against
pub record Origin : Type 0 where
  pub map : MapText
  pub list : PrefixList

-- the sources are those of this map and this list
pub record AreOf (o : Origin) (s : Sources) : Type 0 where
  pub map_version : o.map.version ≡ s.version
  pub list_version : o.list.version ≡ s.version
  pub of_map : AreNumbers s.of_map.numbers.items o.map.labels s.limits.labels.now
  pub of_list : AreNumbers s.of_list.numbers.items o.list.labels s.limits.labels.now
  pub map_stretches : AreStretches o.map.statements (Some o.map.default) s.of_map.stretches.now
  pub list_stretches : (ss : List Statement) × AreShortestFirst o.list.entries ss
      × AreStretches ss None s.of_list.stretches.now
  pub count : s.count ≡ length o.list.entries

-- no block whose addresses are all at least `first` and below `stop` has a fault as a leaf with the label x
abbrev pub IsClear : Sources → ℕ → ℕ → Label → Type 0
IsClear s first stop x =
    (o : Origin) → AreOf o s → (n q : ℕ) → n ≤ width_of s.version → first ≤ first_of (width_of s.version) n q →
    last_of (width_of s.version) n q < stop → leaf_fault (map_of o.map) (list_of o.list).prefixes n q x ≡ None

-- the fault of the blocks beside the path with these bits, from the deepest up, as leaves with the label x
abbrev pub sides_fault : MapModel → List Prefix → Label → List Bool → ℕ → ℕ → Option CheckFaultKind
sides_fault m ps x [] n q = None
sides_fault m ps x (bit ∷ bits) n q =
    option_or (sides_fault m ps x bits (suc n) (chosen_half bit q)) (leaf_fault m ps (suc n) (side_half bit q) x)

-- the claim with this cost and the labels with these numbers
abbrev pub claim_with : List Label → ℕ → List ℕ → Claim
claim_with table cost ns = record { cost = cost; labels = map (text_at table) ns }

abbrev pub claim_in : List Label → Claimed → Claim
claim_in table c = claim_with table c.cost (map (λ i. i.0) c.set.now)

-- the claim that is held, with its set at the end of a walk's sets
abbrev pub held_claim : Sources → StoredClaim → List LabelId → Claim
held_claim s held sets = claim_with s.limits.labels.now held.cost (map (λ i. i.0) (drop held.from sets))

-- the walk's sets end with the set that is held, whose numbers ascend
pub record IsHeld (s : Sources) (held : StoredClaim) (sets : List LabelId) : Type 0 where
  pub within : held.from ≤ length sets
  pub ascending : IsAscending (length s.limits.labels.now) 0 (map (λ i. i.0) (drop held.from sets))

abbrev pub Read : Type 0
Read = Result (Tree × Place) CertFault

-- reads the node at a place and those below it, for a block of n bits
abbrev pub reading_at : Sources → ℕ → Place → Read
reading_at s n place = node_due_at s.limits.format s.limits.width s.limits.labels.now (s.limits.width - n) place

-- reads the nodes of the halves of an inner node with this claim, for a block of n bits
abbrev pub halves_reading : Sources → ℕ → Claim → Place → Read
halves_reading s n claim place =
    reading_at s (n + 1) place >>= (λ lower. reading_at s (n + 1) lower.1 >>= (λ upper.
    Ok (InnerNode claim lower.0 upper.0, upper.1)))

-- reads the node at the end of a chain with this claim, these bits and this side label, for a block of n bits
abbrev pub chain_reading : Sources → ℕ → Claim → List Bool → ℕ → Place → Read
chain_reading s n claim bits side place =
    reading_at s (n + length bits) place >>= (λ end.
    Ok (ChainNode claim bits (text_at s.limits.labels.now side) end.0, end.1))

-- the number of the block of n bits that the address is in
abbrev pub number_at : Sources → ℕ → ℕ → ℕ
number_at s n a = block_number (width_of s.version) n a

-- these are the first and the last address of the block of n bits with the number q
pub record IsRangeOf (s : Sources) (first last n q : ℕ) : Type 0 where
  pub short : n ≤ width_of s.version
  pub first_is : first ≡ first_of (width_of s.version) n q
  pub last_is : last ≡ last_of (width_of s.version) n q
  pub some : first ≤ last
  pub fits : last < 2 ^ width_of s.version

-- the first fault of a tree whose node has the number k, for the block of n bits with the number q
abbrev pub fault_of_node : ℕ → ℕ → Origin → Tree → ℕ → Option CheckFault
fault_of_node n q o tree k = node_fault (map_of o.map) (list_of o.list).prefixes tree k n q

-- the block is the half of another one with this number
pub record IsHalfNumbered (whole half : Block) (q : ℕ) : Type 0 where
  pub version : half.version ≡ whole.version
  pub len : half.len ≡ whole.len + 1
  pub number : number_of_block half ≡ q

-- the next node has the number after this one, as faults have them
abbrev pub IsAfter : ℕ → ℕ → Type 0
IsAfter number next =
    (k : ℕ) → (fault_of_number k BoundNotMet).node ≡ number → (fault_of_number (k + 1) BoundNotMet).node ≡ next

-- the block has room for the chain's bits, and the table has the chain's side label
pub record FitsPath (s : Sources) (b : Block) (side : ℕ) (bits : List Bool) : Type 0 where
  pub room : b.len + length bits ≤ s.limits.width
  pub known : side < length s.limits.labels.now

-- the fault of the node with this number
abbrev pub fault_with : ℕ → Option CheckFaultKind → Option CheckFault
fault_with number = option_map (λ kind. record { kind = kind; node = number })

-- A tree was read, whose node has this number. The walk has its claimed set after the old ones, and its first fault
-- unless one came before.
pub record IsPassed (s : Sources) (reading : Read) (fault_at : Origin → Tree → ℕ → Option CheckFault) (number : ℕ)
    (old : List LabelId) (before : Option CheckFault) (new : Walk) (cost : ℕ) : Type 0 where
  pub tree : Tree
  pub set : List LabelId
  pub read : reading ≡ Ok (tree, new.nodes)
  pub claim : claim_of tree ≡ claim_with s.limits.labels.now cost (map (λ i. i.0) set)
  pub ascending : IsAscending (length s.limits.labels.now) 0 (map (λ i. i.0) set)
  pub sets : new.sets.items ≡ old ++ set
  pub fault : (k : ℕ) → (fault_of_number k BoundNotMet).node ≡ number
      → ((o : Origin) → AreOf o s → new.fault ≡ option_or before (fault_at o tree k))
      × (new.number ≡ (fault_of_number (k + line_count tree) BoundNotMet).node)

-- the text has this fault, or an allocation failed
abbrev pub IsUnread : {A : Type 0} → Result A CertFault → CertFault → Type 0
IsUnread read found = (found.kind ≢ NoMemoryForText → read ≡ Err found)
    × (found.kind ≡ NoMemoryForText → found.line ≡ 0)

-- the result of a walk over a tree: its claimed cost, or `None` if the walk has the first fault of its text
abbrev pub IsWalkResult : Sources → Read → (Origin → Tree → ℕ → Option CheckFault) → ℕ → List LabelId
    → Option CheckFault → Walk → Option ℕ → Type 0
IsWalkResult s read fault number old before new (Some cost) = IsPassed s read fault number old before new cost
IsWalkResult s read fault number old before new None = (found : CertFault) × (new.outcome ≡ Err found)
    × IsUnread read found

-- the certificate whose root is this tree
abbrev pub certificate_with : Format → Version → List Label → Tree → CertificateModel
certificate_with format version table root = record {
  format = format_number format;
  version = version;
  table = table;
  root = root;
}

-- the root was read, and the walk has the first fault of its certificate
pub record IsRootChecked (s : Sources) (place : Place) (new : Walk) : Type 0 where
  pub tree : Tree
  pub read : reading_at s 0 place ≡ Ok (tree, new.nodes)
  pub fault : (o : Origin) → AreOf o s → new.fault
      ≡ first_fault (map_of o.map) (list_of o.list)
      (certificate_with s.limits.format s.version s.limits.labels.now tree)
