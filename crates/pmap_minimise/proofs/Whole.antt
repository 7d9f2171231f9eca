-- What was built for a map is the map's minimal pair.
use Rattle.std.proofs.Common.{◌≡◌, ℕ, ◌-◌, ◌<◌, ◌∙◌, inl, List, [], None, All, IsTrue, length, map, refl, sym, ap, subst, arith}
use Rattle.std.proofs.lemmas.List.Elements.{All-from_recursion, All-map, All-weaker}
use Rattle.std.proofs.lemmas.Option.{none-some}
use Rattle.prefix_keys.specs.Block.{width_of}
use Rattle.prefix_keys.specs.declared.version.Version.{Version}
use Rattle.pmap_model.specs.Label.{IsLabelTable, has_label}
use Rattle.pmap_model.specs.ListModel.{ListModel}
use Rattle.pmap_model.specs.MapModel.{MapModel}
use Rattle.pmap_model.specs.MapText.{map_of, mapping_of, text_at}
use Rattle.pmap_model.specs.PrefixList.{prefix_of}
use Rattle.pmap_model.specs.declared.entry.Entry.{Entry}
use Rattle.pmap_model.specs.declared.map_text.MapText.{MapText}
use Rattle.pmap_cert.specs.CertificateModel.{CertificateModel, Tree}
use Rattle.pmap_cert.specs.Acceptance.{HasListForm, IsInOrder, HasItsLabels, IsMinimalPair, StandsFor, entries_of}
use Rattle.pmap_cert.specs.Certificate.{IsOpening, certificate_of}
use Rattle.pmap_cert.specs.CertificateText.{HasTextForm}
use Rattle.pmap_cert.specs.Compacting.{compact}
use Rattle.pmap_cert.specs.Node.{HasNumberForm, Node, tree_of}
use Rattle.pmap_cert.specs.Format.{format_number}
use Rattle.pmap_cert.specs.declared.certificate.Certificate.{Certificate}
use Rattle.pmap_cert.specs.declared.format.Format.TheVariants.{One, Two}
use Rattle.label_trie.specs.TrieModel.{number_of, IsSettledLeaf, IsUndivided, LeafModel}
use Rattle.pmap_cert.proofs.CompactNodes.{compact-one}
use Rattle.pmap_cert.proofs.Relabelled.{plain-map}
use Rattle.pmap_cert.proofs.Written.{node_form}
use Rattle.pmap_model.specs.ListEntries.{HasDistinctBlocks}
use Rattle.pmap_cert.proofs.InOrder.{list-form}
use Rattle.pmap_minimise.specs.Listing.{IsEntryOf, IsListedBy}
use Rattle.pmap_minimise.proofs.Distinct.{order-distinct}
use Rattle.pmap_minimise.proofs.Entered.{half-entries}
use Rattle.pmap_minimise.specs.Built.{IsBuiltIn}
use Rattle.pmap_minimise.specs.Numbers.{IsCertified, IsMapNode}
use Rattle.pmap_cert.specs.Opened.{Opens}
use Rattle.label_trie.proofs.Places.{whole_number}
use Rattle.pmap_minimise.proofs.Joined.{sound-opens}
use Rattle.pmap_minimise.proofs.Texts.{table-has}

-- the prefix list with these entries, and with the map's name and label table
abbrev pub list_with : MapText → List Entry → ListModel
list_with m items = record { version = m.version; name = m.name; prefixes = map (prefix_of m.labels) items; table = m.labels }

-- the map's prefix list with the entries of a certificate's root
abbrev pub shortest_list : MapModel → Tree → ListModel
shortest_list m root = record {
  version = m.version;
  name = m.name;
  prefixes = entries_of (width_of m.version) m.table root None 0 0;
  table = m.table;
}

pub own-labels : (map : MapText) → HasItsLabels (map_of map)
own-labels m = record {
  fallback = table-has m.labels m.default.0 m.default_known;
  mappings =
      All-map (λ p. IsTrue (has_label m.labels p.label)) (mapping_of m.labels) m.statements
      (All-weaker (λ s. s.label.0 < length m.labels) (λ s. IsTrue (has_label m.labels (text_at m.labels s.label.0))) (λ s known. table-has m.labels s.label.0 known)
      m.statements m.numbers_known);
}

-- the list and the certificate of a root that represents the address space are the map's minimal pair
pub minimal : (m : MapModel) (l : ListModel) (c : CertificateModel) (root : Tree) → StandsFor m root 0 0 → l ≡ shortest_list m root
    → c ≡ record { format = 1; version = m.version; table = m.table; root = root } → IsMinimalPair m l c
minimal m l c root stands list certificate =
    subst (λ (k : ListModel). IsMinimalPair m k c) (sym list)
    (subst (λ (d : CertificateModel). IsMinimalPair m (shortest_list m root) d) (sym certificate) pair)
  where
    pair : IsMinimalPair m (shortest_list m root) (record { format = 1; version = m.version; table = m.table; root = root })
    pair = record {
      certificate_format = refl;
      certificate_version = refl;
      certificate_table = refl;
      root = stands;
      list_version = refl;
      list_name = refl;
      list_table = refl;
      prefixes = refl;
    }

pub shortest-form : (m : MapModel) (root : Tree) → StandsFor m root 0 0 → HasItsLabels m → HasListForm (shortest_list m root)
shortest-form m root stands inside =
    list-form m (shortest_list m root) (record { format = 1; version = m.version; table = m.table; root = root }) (minimal m _ _ root stands refl refl) inside

-- the certificate with this root and the map's label table
abbrev root_certificate : MapText → Node → CertificateModel
root_certificate m root = record { format = 1; version = m.version; table = m.labels; root = tree_of m.labels root }

root-form : (m : MapText) (root : Node) → HasNumberForm (length m.labels) root (width_of m.version) → IsLabelTable m.labels → HasTextForm (root_certificate m root)
root-form m root form ok = record {
  first = refl;
  text = record {
    format = inl (refl, plain-map (text_at m.labels) root form.1);
    table = ok;
    root = node_form m.labels ok root (width_of m.version) form.0;
  };
}

-- a root that was built for a map is that of the certificate of the map's minimal pair, compacted
pub built-certificate : (m : MapText) (found : Certificate) → IsBuiltIn (map_of m) found.root → found.format ≡ Two → found.version ≡ m.version → found.labels ≡ m.labels
    → (l : ListModel) × (c : CertificateModel) × IsMinimalPair (map_of m) l c × HasTextForm c × IsOpening found c × (certificate_of found ≡ compact c)
built-certificate m found built format version labels = (
  shortest_list (map_of m) (tree_of m.labels built.node),
  root_certificate m built.node,
  minimal (map_of m) _ _ (tree_of m.labels built.node) built.is.stands refl refl,
  root-form m built.node built.is.form built.table,
  record {
    node = built.node;
    opens = built.opens;
    form = rw (labels, version) built.is.form.0;
    is = sym (λ i. record { format = 1; version = version i; table = labels i; root = tree_of (labels i) built.node });
  },
  (λ i. record { format = format_number (format i); version = version i; table = labels i; root = tree_of (labels i) found.root })
      ∙ compact-one One m.version m.labels built.node found.root built.table built.is.form.0 refl built.compact_is,
)

-- the entries are those of a certificate's root, with numbers of the map's label table
pub record AreEntriesOf (m : MapText) (root : Node) (items : List Entry) : Type 0 where
  pub versions : All (λ e. e.block.version ≡ m.version) items
  pub known : All (λ e. e.label.0 < length m.labels) items
  pub entries : map (prefix_of m.labels) items ≡ entries_of (width_of m.version) m.labels (tree_of m.labels root) None 0 0

pub listed-entries : (m : MapText) (root : Node) (items : List Entry) → IsListedBy m.version root items → IsLabelTable m.labels → HasNumberForm (length m.labels) root (width_of m.version)
    → AreEntriesOf m root items
listed-entries m root items listed ok form =
    let block = listed.block in
    let bits = listed.bits in
    let width : width_of block.version ≡ width_of m.version = ap width_of listed.version_is in
    let room : width_of m.version ≡ width_of block.version - block.len = omega arith in
    let added = listed.adds m.labels ok (λ x e. absurd (none-some x e)) (subst (λ (r : ℕ). HasNumberForm (length m.labels) root r) room form) in
    let fit = added.fit (All-from_recursion (IsEntryOf block.version (length m.labels)) [] tt) in
    record {
      versions = All-weaker (IsEntryOf block.version (length m.labels)) (λ e. e.block.version ≡ m.version) (λ e fits. fits.version_is ∙ listed.version_is) items fit;
      known = All-weaker (IsEntryOf block.version (length m.labels)) (λ e. e.label.0 < length m.labels) (λ e fits. fits.known) items fit;
      entries = added.entries
          ∙ half-entries m.labels (tree_of m.labels root) None None (width_of m.version) (width_of block.version) 0 block.len 0 (number_of block) width refl bits (whole_number block listed.start);
    }

-- the root also represents the address space
pub record IsShortestBy (m : MapText) (root : Node) (items : List Entry) : Type 0 where
  pub of : AreEntriesOf m root items
  pub is : IsMapNode (map_of m) 0 0 (width_of m.version) root

-- the entries of a certificate's root without chains, which represents the address space
pub claimed-shortest : (m : MapText) (version : Version) (leaves : List LeafModel) (root : Node) (items : List Entry) → IsCertified 0 0 (width_of version) leaves root → version ≡ m.version
    → IsLabelTable m.labels → All (IsSettledLeaf (map_of m)) leaves → All (IsUndivided (map_of m)) leaves → ((node : Node) → Opens root node → IsListedBy m.version node items) → IsShortestBy m root items
claimed-shortest m version leaves root items certified same ok settled undivided listed =
    let is = subst (λ (v : Version). IsMapNode (map_of m) 0 0 (width_of v) root) same (certified.each (map_of m) ok settled undivided) in
    record { of = listed-entries m root items (listed root (sound-opens root (width_of version) certified.sound)) ok is.form; is = is }

module _ (m : MapText) (root : Node) (items : List Entry) (shortest : IsShortestBy m root items) where
  -- the blocks of the entries are distinct
  pub shortest-distinct : HasDistinctBlocks items
  shortest-distinct =
      let form = shortest-form (map_of m) (tree_of m.labels root) shortest.is.stands (own-labels m) in
      order-distinct m.labels items (subst IsInOrder (sym shortest.of.entries) form.order)

  -- a list of these entries is the root's
  module _ (l : ListModel) (is : l ≡ list_with m items) where
    listed-is : l ≡ shortest_list (map_of m) (tree_of m.labels root)
    listed-is = is ∙ (λ i. record { version = m.version; name = m.name; prefixes = shortest.of.entries i; table = m.labels })

    pub listed-form : HasListForm l
    listed-form = subst HasListForm (sym listed-is) (shortest-form (map_of m) (tree_of m.labels root) shortest.is.stands (own-labels m))

    pub listed-minimal : (c : CertificateModel) → c ≡ record { format = 1; version = m.version; table = m.labels; root = tree_of m.labels root } → IsMinimalPair (map_of m) l c
    listed-minimal c certificate = minimal (map_of m) l c (tree_of m.labels root) shortest.is.stands listed-is certificate
