-- The certificate of a minimal pair has its sets in the order of the label table, as a text has them.
use Rattle.std.proofs.Common.{inl, ◌≡◌, ℕ, zero, suc, ◌+◌, ◌*◌, ◌<◌, ◌≤◌, ◌∙◌, ◌++◌, Bool, true, false, not, List, [], ◌∷◌, Some, ap, append-nil, arith, filter, length, map, refl, subst, sym, bytes_eq, slice_get, Ok}
use Rattle.std.proofs.lemmas.Bool.{ltb-true, or_right}
use Rattle.prefix_keys.specs.Block.{width_of}
use Rattle.pmap_model.proofs.LabelTexts.{any_place}
use Rattle.pmap_model.proofs.Settled.{unsettled-halves}
use Rattle.pmap_model.specs.Label.{IsLabelTable, has_label}
use Rattle.pmap_model.specs.ListModel.{ListModel}
use Rattle.pmap_model.specs.MapModel.{Label, MapModel}
use Rattle.pmap_text.specs.Reading.{mapping_limit, map_reading}
use Rattle.pmap_cert.proofs.Plain.{plain-stands}
use Rattle.pmap_cert.proofs.Alike.{table-node}
use Rattle.pmap_cert.proofs.Ends.{cost-fits}
use Rattle.pmap_cert.proofs.Existence.{minimal_pair}
use Rattle.pmap_cert.proofs.MapLimits.{labels-read, limits-read}
use Rattle.pmap_cert.proofs.Pieces.{found_at}
use Rattle.pmap_cert.proofs.Sets.{has-head, has-own, same-listed}
use Rattle.pmap_cert.proofs.Tables.{ascending-lower}
use Rattle.pmap_cert.specs.CertificateText.{HasNodeForm, HasTextForm, IsAscending, place_of}
use Rattle.pmap_cert.specs.CertificateModel.{CertificateModel, ChainNode, InnerNode, LeafNode, Claim, Tree, claim_of, exact_claim}
use Rattle.pmap_cert.specs.Acceptance.{HasItsLabels, IsMinimalPair, StandsFor, in_table_order}

ascending-kept : (table : List Label) (p : Label → Bool) (i : ℕ) (xs : List Label) → i + length xs ≡ length table
    → ((j : ℕ) (x : Label) → slice_get xs j ≡ Some x → place_of table x ≡ i + j) → IsAscending (length table) i (map (place_of table) (filter p xs))
ascending-kept table p i [] all places = tt
ascending-kept table p i (x ∷ xs) all places =
    by (p x) refl (ascending-kept table p (i + 1) xs (omega arith) (λ j y e. let there = places (suc j) y e in omega arith))
  where
    here : place_of table x ≡ i + 0
    here = places 0 x refl

    by : (b : Bool) → p x ≡ b → IsAscending (length table) (i + 1) (map (place_of table) (filter p xs)) → IsAscending (length table) i (map (place_of table) (filter p (x ∷ xs)))
    by true e rest =
        rw e (omega (arith, here), omega (arith, here, all), ascending-lower (length table) (i + 1) (place_of table x + 1) (map (place_of table) (filter p xs)) (omega (arith, here)) rest)
    by false e rest = rw e (ascending-lower (length table) (i + 1) i (map (place_of table) (filter p xs)) (omega arith) rest)

ascending-table : (table : List Label) (p : Label → Bool) → IsLabelTable table → IsAscending (length table) 0 (map (place_of table) (filter p table))
ascending-table table p ok =
    ascending-kept table p 0 table (omega arith)
    (λ j x e. let there = (found_at (bytes_eq x) table j (ok.places j x e)).1 in omega arith)

-- no label of a set is missing in a table that has all of them
none-left : (table xs : List Label) → ((x : Label) → has_label xs x ≡ true → has_label table x ≡ true) → filter (λ x. not (has_label table x)) xs ≡ []
none-left table [] inside = refl
none-left table (y ∷ ys) inside =
    let known = inside y (has-head y ys) in
    rw known (none-left table ys (λ x h. inside x (or_right (bytes_eq x y) (has_label ys x) h)))

pub listed-known : (table : List Label) (claim : Claim) → ((x : Label) → has_label claim.labels x ≡ true → has_label table x ≡ true)
    → (in_table_order table claim).labels ≡ filter (has_label claim.labels) table
listed-known table claim inside =
    ap (λ (xs : List Label). filter (has_label claim.labels) table ++ xs) (none-left table claim.labels inside) ∙ append-nil (filter (has_label claim.labels) table)

module _ (m : MapModel) (inside : HasItsLabels m) (ok : IsLabelTable m.table) (few : length m.mappings ≤ mapping_limit) where
  form-listed : (t : Tree) (left n q : ℕ) → n + left ≡ width_of m.version → StandsFor m t n q → HasNodeForm m.table t left
  form-listed (LeafNode x) left n q e stands =
      ltb-true (place_of m.table x) (length m.table)
      (any_place (bytes_eq x) m.table ∙ table-node m inside (LeafNode x) n q stands x (has-own x))
  form-listed (ChainNode p bits side end) left n q e stands = absurd stands
  form-listed (InnerNode p l r) zero n q e stands =
      let below : n < width_of m.version = unsettled-halves m n q (omega arith) stands.0 in
      absurd (omega arith)
  form-listed (InnerNode p l r) (suc left) n q e stands =
      let exact = exact_claim (claim_of l) (claim_of r) in
      let same = same-listed m.table p exact stands.1 in
      let labels : p.labels ≡ filter (has_label exact.labels) m.table =
      ap (λ (c : Claim). c.labels) stands.1
      ∙ listed-known m.table exact (λ x h. table-node m inside (InnerNode p l r) n q stands x (same.labels x ∙ h)) in (
        cost-fits m (InnerNode p l r) (suc left) n q few e stands,
        subst (λ (xs : List Label). IsAscending (length m.table) 0 (map (place_of m.table) xs)) (sym labels) (ascending-table m.table (has_label exact.labels) ok),
        form-listed l left (suc n) (2 * q) (omega arith) stands.2,
        form-listed r left (suc n) (2 * q + 1) (omega arith) stands.3,
      )

  pub pair-listed : (l : ListModel) × (c : CertificateModel) × IsMinimalPair m l c × HasTextForm c
  pair-listed =
      let made = minimal_pair m in (
        made.0,
        made.1,
        made.2,
        record {
          first = refl;
          text = record {
            format = inl (refl, plain-stands m made.1.root 0 0 made.2.root);
            table = ok;
            root = form-listed made.1.root (width_of m.version) 0 0 (omega arith) made.2.root;
          };
        },
      )

-- a map read from a text has a minimal pair whose certificate has a text
pub minimal-read : (text : List ℕ) (m : MapModel) → map_reading text ≡ Ok m → (l : ListModel) × (c : CertificateModel) × IsMinimalPair m l c × HasTextForm c
minimal-read text m read =
    let limits = limits-read text m read in
    pair-listed m (labels-read text m read) limits.table limits.mappings
