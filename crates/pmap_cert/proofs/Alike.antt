use Rattle.std.proofs.Common.{◌≡◌, ℕ, suc, ◌+◌, ◌*◌, Bool, true, List, [], ◌∷◌, Option, Some, None, IsTrue, All, refl, sym, ap, ◌∙◌, subst, inl, inr, ⊎_elim}
use Rattle.std.proofs.lemmas.Option.{cond_some, none-some, same_Some}
use Rattle.std.proofs.lemmas.List.Elements.{All-head, All-tail}
use Rattle.prefix_keys.specs.Block.{width_of}
use Rattle.pmap_model.specs.ListModel.{ListModel}
use Rattle.pmap_model.specs.MapModel.{Label, MapModel, Mapping, last_such, meets, settled_by, spans_all}
use Rattle.pmap_cert.specs.CertificateModel.{CertificateModel, ChainNode, InnerNode, LeafNode, Tree, claim_of, exact_claim}
use Rattle.pmap_cert.specs.Acceptance.{HasItsLabels, IsMinimalPair, StandsFor, entries_of, in_table_order}
use Rattle.pmap_cert.proofs.Sets.{exact_claim-labels, has-single, same-listed}
use Rattle.pmap_model.proofs.LastSuch.{last_such-cases}
use Rattle.pmap_model.specs.Label.{has_label}

-- A map has only one minimal pair.

-- two nodes that represent one block are equal
pub alike : (m : MapModel) (t t' : Tree) (n q : ℕ) → StandsFor m t n q → StandsFor m t' n q → t ≡ t'
alike m (LeafNode x) (LeafNode y) n q h h' = ap LeafNode (same_Some x y (sym h ∙ h'))
alike m (LeafNode x) (InnerNode p l r) n q h h' = absurd (none-some x (sym h'.0 ∙ h))
alike m (InnerNode p l r) (LeafNode y) n q h h' = absurd (none-some y (sym h.0 ∙ h'))
alike m (LeafNode x) (ChainNode p bits side end) n q h h' = absurd h'
alike m (InnerNode p' l r) (ChainNode p bits side end) n q h h' = absurd h'
alike m (ChainNode p bits side end) t n q h h' = absurd h
alike m (InnerNode p l r) (InnerNode p' l' r') n q h h' =
    let lower = alike m l l' (suc n) (2 * q) h.2 h'.2 in
    let upper = alike m r r' (suc n) (2 * q + 1) h.3 h'.3 in
    let claim : p ≡ p' = h.1 ∙ (λ i. in_table_order m.table (exact_claim (claim_of (lower i)) (claim_of (upper i)))) ∙ sym h'.1 in
    λ i. InnerNode (claim i) (lower i) (upper i)

module _ (m : MapModel) (l l' : ListModel) (c c' : CertificateModel) (pair : IsMinimalPair m l c) (pair' : IsMinimalPair m l' c') where
  root : c.root ≡ c'.root
  root = alike m c.root c'.root 0 0 pair.root pair'.root

  pub certificate-unique : c ≡ c'
  certificate-unique =
      let format : c.format ≡ c'.format = pair.certificate_format ∙ sym pair'.certificate_format in
      let version : c.version ≡ c'.version = pair.certificate_version ∙ sym pair'.certificate_version in
      let table : c.table ≡ c'.table = pair.certificate_table ∙ sym pair'.certificate_table in
      λ i. record { format = format i; version = version i; table = table i; root = root i }

  pub list-unique : l ≡ l'
  list-unique =
      let version : l.version ≡ l'.version = pair.list_version ∙ sym pair'.list_version in
      let name : l.name ≡ l'.name = pair.list_name ∙ sym pair'.list_name in
      let table : l.table ≡ l'.table = pair.list_table ∙ sym pair'.list_table in
      let prefixes : l.prefixes ≡ l'.prefixes =
      pair.prefixes ∙ ap (λ (t : Tree). entries_of (width_of m.version) m.table t None 0 0) root ∙ sym pair'.prefixes in
      λ i. record { version = version i; name = name i; prefixes = prefixes i; table = table i }

-- the label of the last mapping that passes a test is in the table if all mappings' labels are
table-mapping : (table : List Label) (test : Mapping → Bool) (ms : List Mapping) (s : Mapping) →
    All (λ p. IsTrue (has_label table p.label)) ms → last_such test ms ≡ Some s → has_label table s.label ≡ true
table-mapping table test [] s all e = cc
table-mapping table test (m ∷ ms) s all e =
    elim (last_such-cases test m ms s e) [
      | inl h ↦ table-mapping table test ms s (All-tail (λ (p : Mapping). IsTrue (has_label table p.label)) m ms all) h
      | inr h ↦
          subst (λ (p : Mapping). has_label table p.label ≡ true) h.2
          (All-head (λ (p : Mapping). IsTrue (has_label table p.label)) m ms all)
    ]

table-settled_by : (W n q : ℕ) (table : List Label) (fallback x : Label) (ms : List Mapping) (o : Option Mapping) →
    IsTrue (has_label table fallback) → All (λ p. IsTrue (has_label table p.label)) ms → last_such (meets W n q) ms ≡ o →
    settled_by W n q fallback o ≡ Some x → has_label table x ≡ true
table-settled_by W n q table fallback x ms None default all last h =
    subst (λ (y : Label). has_label table y ≡ true) (same_Some fallback x h) default
table-settled_by W n q table fallback x ms (Some s) default all last h =
    let parts = cond_some (spans_all W n q s) s.label x h in
    subst (λ (y : Label). has_label table y ≡ true) parts.1 (table-mapping table (meets W n q) ms s all last)

-- each label of a node's set is in the map's table
pub table-node : (m : MapModel) → HasItsLabels m → (t : Tree) (n q : ℕ) → StandsFor m t n q → (x : Label) →
    has_label (claim_of t).labels x ≡ true → has_label m.table x ≡ true
table-node m inside (LeafNode y) n q stands x h =
    subst (λ (z : Label). has_label m.table z ≡ true) (has-single y x h)
    (table-settled_by (width_of m.version) n q m.table m.fallback y m.mappings
    (last_such (meets (width_of m.version) n q) m.mappings) inside.fallback inside.mappings refl stands)
table-node m inside (ChainNode p bits side end) n q stands x h = absurd stands
table-node m inside (InnerNode p l r) n q stands x h =
    let same = same-listed m.table p (exact_claim (claim_of l) (claim_of r)) stands.1 in
    ⊎_elim (table-node m inside l (suc n) (2 * q) stands.2 x) (table-node m inside r (suc n) (2 * q + 1) stands.3 x)
    (exact_claim-labels (claim_of l) (claim_of r) x (sym (same.labels x) ∙ h))
