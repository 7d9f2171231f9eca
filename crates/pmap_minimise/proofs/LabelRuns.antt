-- The list that is built from runs of one label is the map's: runs are the stretches of another map with the same labels.
use Rattle.std.proofs.Common.{◌≡◌, ℕ, ◌^◌, ◌<◌, ◌∙◌, [], All, IsSome, IsTrue, List, Option, Some, None, length, option_and_then, slice_get, unwrap_or, refl, sym, ap, subst, arith}
use Rattle.std.specs.Option.{option_map_or}
use Rattle.std.proofs.lemmas.List.{length-map}
use Rattle.std.proofs.lemmas.List.Elements.{All-map, All-weaker}
use Rattle.std.proofs.lemmas.Option.{option_and_then_some, same_Some, slice_get_within}
use Rattle.prefix_keys.specs.Block.{width_of}
use Rattle.prefix_keys.specs.declared.version.Version.{Version}
use Rattle.pmap_model.specs.Label.{IsLabelTable, has_label}
use Rattle.pmap_model.specs.ListEntries.{HasDistinctBlocks}
use Rattle.pmap_model.specs.ListModel.{ListModel}
use Rattle.pmap_model.specs.MapModel.{Label, MapModel, Mapping, map_label}
use Rattle.pmap_model.specs.MapText.{map_of, mapping_of, text_at, mappings_of}
use Rattle.pmap_model.specs.Settled.{IsMapOf}
use Rattle.pmap_stretches.specs.Stretches.{AreRunsOf, AreStretches, StretchesModel, first_at, label_at, text_held}
use Rattle.pmap_model.specs.declared.entry.Entry.{Entry}
use Rattle.pmap_model.specs.declared.label.LabelId.{LabelId}
use Rattle.pmap_model.specs.declared.map_text.MapText.{MapText}
use Rattle.pmap_model.specs.declared.statement.Statement.{Statement}
use Rattle.pmap_stretches.proofs.Layers.{are-layers, layer-wins, layers, layers-known, length-layers_to}
use Rattle.pmap_stretches.proofs.Ranges.{holder, ordered_at, text_at_index}
use Rattle.pmap_cert.specs.Acceptance.{HasItsLabels, IsMinimalPair}
use Rattle.pmap_cert.specs.CertificateModel.{CertificateModel}
use Rattle.pmap_cert.specs.CertificateText.{HasTextForm}
use Rattle.pmap_cert.specs.Node.{Node, tree_of}
use Rattle.pmap_cert.proofs.InOrder.{list-form}
use Rattle.pmap_cert.proofs.InTableOrder.{pair-listed}
use Rattle.pmap_cert.proofs.SameLists.{other, same-entries}
use Rattle.pmap_minimise.specs.Built.{IsBuiltIn}
use Rattle.pmap_minimise.specs.Listing.{IsListedBy}
use Rattle.pmap_minimise.specs.Spines.{AreCountable, IsMapOn}
use Rattle.pmap_minimise.proofs.Distinct.{order-distinct}
use Rattle.pmap_minimise.proofs.Texts.{table-has}
use Rattle.pmap_minimise.proofs.Whole.{AreEntriesOf, list_with, listed-entries, own-labels}

module _ (m : MapText) (s : StretchesModel) (version : s.version ≡ m.version) (runs : AreRunsOf m.statements s)
    (labels : (a : ℕ) → a < 2 ^ width_of m.version → text_held m.labels s a ≡ Some (map_label (map_of m) a)) where
  fits : (a : ℕ) → a < 2 ^ width_of s.version → a < 2 ^ width_of m.version
  fits a = subst (λ (v : Version). a < 2 ^ width_of v) version

  -- each run has a label of the map's table
  pub run-label : (i : ℕ) → i < length s.firsts → (id : LabelId) × (label_at s i ≡ Some id) × (id.0 < length m.labels)
  run-label i below =
      let a = first_at s i in
      let text = sym (text_at_index s runs.every m.labels a i (record { index = below; from = omega arith; to = ordered_at s runs.every i below })) ∙ labels a (fits a (runs.every.within i below)) in
      option_and_then_some (λ (id : LabelId). slice_get m.labels id.0) (label_at s i) (map_label (map_of m) a) text (λ id is there. (id, is, slice_get_within m.labels id.0 _ there))

  abbrev default : LabelId
  default = (run-label 0 runs.every.some).0

  default-known : default.0 < length m.labels
  default-known = (run-label 0 runs.every.some).2

  known : All (λ (x : Statement). x.label.0 < length m.labels) (layers s)
  known =
      layers-known s (length m.labels) (length s.firsts)
      (λ i below id is. subst (λ (x : LabelId). x.0 < length m.labels) (same_Some _ id (sym (run-label i below).1 ∙ is)) (run-label i below).2) (omega (arith, default-known))

  are : AreStretches (layers s) (Some default) s
  are = are-layers s runs.every (Some default) (λ i below. subst IsSome (sym (run-label i below).1) refl)

  -- the map of which the runs are the stretches
  abbrev runs_map : MapModel
  runs_map = other (map_of m) (mappings_of m.labels (layers s)) (text_at m.labels default.0)

  runs-is : IsMapOf (width_of s.version) (layers s) (Some default) runs_map
  runs-is = record {
    width = ap width_of (sym version);
    mappings = refl;
    known = known;
    fallback = λ id is. subst (λ (x : LabelId). (x.0 < length m.labels) × (text_at m.labels x.0 ≡ text_at m.labels default.0)) (same_Some default id is) (default-known, refl);
  }

  runs-labels : HasItsLabels runs_map
  runs-labels = record {
    fallback = table-has m.labels default.0 default-known;
    mappings =
        All-map (λ p. IsTrue (has_label m.labels p.label)) (mapping_of m.labels) (layers s)
        (All-weaker (λ x. x.label.0 < length m.labels) (λ x. IsTrue (has_label m.labels (text_at m.labels x.label.0))) (λ x is. table-has m.labels x.label.0 is) (layers s) known);
  }

  runs-same : (a : ℕ) → a < 2 ^ width_of m.version → map_label runs_map a ≡ map_label (map_of m) a
  runs-same a below =
      let below' : a < 2 ^ width_of s.version = subst (λ (v : Version). a < 2 ^ width_of v) (sym version) below in
      let holds = holder s runs.every a below' in
      let (id, is, _) = run-label _ holds.index in
      let text : slice_get m.labels id.0 ≡ Some (map_label (map_of m) a) =
      ap (option_and_then (λ (x : LabelId). slice_get m.labels x.0)) (sym is) ∙ labels a below in
      ap (λ (o : Option Mapping). option_map_or (λ p. p.label) o (text_at m.labels default.0))
      (layer-wins s runs.every m.labels a _ (length s.firsts) holds holds.index (omega arith))
      ∙ ap (λ (x : Option LabelId). text_at m.labels (unwrap_or x (record { 0 = 0 })).0) is ∙ ap (λ (o : Option Label). unwrap_or o []) text

  pub runs-countable : AreCountable s
  runs-countable = record {
    statements = layers s;
    default = Some default;
    labelled = refl;
    stretches = are;
    few = omega (arith, length-layers_to s (length s.firsts), runs.few, m.within_limit);
  }

  module _ (ok : IsLabelTable m.labels) (root : Node) (built : (map : MapModel) → IsMapOn s map → IsBuiltIn map root) where
    pub runs-built : IsBuiltIn runs_map root
    runs-built = built runs_map (record { statements = layers s; default = Some default; stretches = are; is = runs-is; table = ok })

    module _ (items : List Entry) (listed : IsListedBy m.version runs-built.node items) where
      pub runs-entries : AreEntriesOf m runs-built.node items
      runs-entries = listed-entries m runs-built.node items listed ok runs-built.is.form

      -- the list with the entries is that of the map's minimal pair
      pub runs-pair : (l : ListModel) → l ≡ list_with m items → (c : CertificateModel) × IsMinimalPair (map_of m) l c × HasTextForm c
      runs-pair l is =
          let pair = pair-listed (map_of m) (own-labels m) ok (omega (arith, length-map m.statements (mapping_of m.labels), m.within_limit)) in
          let minimal = pair.2 in
          let same = same-entries (map_of m) (mappings_of m.labels (layers s)) (text_at m.labels default.0) (own-labels m) runs-labels runs-same pair.1.root
          (tree_of m.labels runs-built.node) 0 0 (omega arith) (omega arith) minimal.root runs-built.is.stands in (
            pair.1,
            record {
              certificate_format = minimal.certificate_format;
              certificate_version = minimal.certificate_version;
              certificate_table = minimal.certificate_table;
              root = minimal.root;
              list_version = ap (λ (k : ListModel). k.version) is;
              list_name = ap (λ (k : ListModel). k.name) is;
              list_table = ap (λ (k : ListModel). k.table) is;
              prefixes = ap (λ (k : ListModel). k.prefixes) is ∙ runs-entries.entries ∙ sym (same.1 None);
            },
            pair.3,
          )

      pub runs-distinct : HasDistinctBlocks items
      runs-distinct =
          let pair = runs-pair (list_with m items) refl in
          order-distinct m.labels items (list-form (map_of m) (list_with m items) pair.0 pair.1 (own-labels m)).order
