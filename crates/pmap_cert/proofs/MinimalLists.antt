-- The list of a minimal pair of a map text can be printed and read again, and the list that is read is accepted.
use Rattle.std.proofs.Common.{◌≡◌, ℕ, ◌+◌, ◌-◌, ◌*◌, ◌^◌, ◌≤◌, ◌==◌, ◌⊎◌, ◌∙◌, inl, inr, true, false, List, [], ◌∷◌, All, IsTrue, get_or, length, sym, ap, subst, arith, bytes_eq, Ok}
use Rattle.std.specs.List.{AllByRecursion, IsDistinct}
use Rattle.std.proofs.lemmas.Bool.Decides.{nat_tests}
use Rattle.std.proofs.lemmas.Bool.{and_parts, eqb-true, false_from_ne_true, or_cases}
use Rattle.std.proofs.lemmas.List.Elements.{recursion_from_All}
use Rattle.std.proofs.lemmas.Map.Keys.{IsDistinct-cons}
use Rattle.std.proofs.lemmas.Option.{slice_get-get_or}
use Rattle.std.proofs.lemmas.Slice.Eq.{bytes_eq-Decides}
use Rattle.prefix_keys.specs.Block.{block_number, width_of}
use Rattle.pmap_cert.specs.Acceptance.{IsAccepted, IsNodeAccepted, HasBlock, HasListForm, IsInOrder, begins_before, IsMinimalPair}
use Rattle.pmap_cert.specs.CertificateModel.{CertificateModel, claim_of}
use Rattle.pmap_cert.proofs.InOrder.{list-form}
use Rattle.pmap_cert.proofs.MapLimits.{labels-read, IsLimited, limits-read}
use Rattle.pmap_cert.proofs.Minimal.{accepted-minimal}
use Rattle.pmap_model.specs.Label.{is_label, has_label}
use Rattle.pmap_model.specs.ListModel.{ListModel, Prefix, is_same_prefix}
use Rattle.pmap_model.specs.MapModel.{Label, MapModel}
use Rattle.pmap_text.specs.Reading.{label_limit, mapping_limit, map_reading}
use Rattle.pmap_cert.specs.ListText.{CanBeReadAgain, IsListAgain, IsPrintedEntry, IsWellFormed, labels_of}
use Rattle.pmap_cert.proofs.LastMatch.{block-start}
use Rattle.pmap_cert.proofs.EntryOrder.{in_order-kept}

-- blocks in order are distinct
same-start : (W : ℕ) (p r : Prefix) → HasBlock W p → HasBlock W r → p.bits ≡ r.bits
    → block_number W p.bits p.start ≡ block_number W r.bits r.start → p.start ≡ r.start
same-start W p r hp hr bits number =
    sym (block-start W p hp) ∙ ap (λ (k : ℕ). k * 2 ^ (W - p.bits)) number
    ∙ ap (λ (n : ℕ). block_number W r.bits r.start * 2 ^ (W - n)) bits ∙ block-start W r hr

before-apart : (W : ℕ) (p r : Prefix) → HasBlock W p → HasBlock W r → begins_before p r ≡ true → is_same_prefix W p r ≡ false
before-apart W p r hp hr before =
    false_from_ne_true (is_same_prefix W p r)
    (λ e.
    let parts = and_parts (p.bits == r.bits) (block_number W p.bits p.start == block_number W r.bits r.start) e in
    let bits : p.bits ≡ r.bits = eqb-true p.bits r.bits parts.0 in
    let start : p.start ≡ r.start =
    same-start W p r hp hr bits (eqb-true (block_number W p.bits p.start) (block_number W r.bits r.start) parts.1) in
    grind (arith, nat_tests))

all-apart : (W : ℕ) (p : Prefix) (ps : List Prefix) → HasBlock W p → AllByRecursion (HasBlock W) ps → AllByRecursion (λ r. IsTrue (begins_before p r)) ps
    → AllByRecursion (λ r. is_same_prefix W p r ≡ false) ps
all-apart W p [] has_label blocks before = tt
all-apart W p (r ∷ rs) has_label blocks before = (before-apart W p r has_label blocks.0 before.0, all-apart W p rs has_label blocks.1 before.1)

order-distinct : (W : ℕ) (ps : List Prefix) → IsInOrder ps → AllByRecursion (HasBlock W) ps → IsDistinct (is_same_prefix W) ps
unfolding IsDistinct
order-distinct W [] ordered blocks = tt
order-distinct W (p ∷ ps) ordered blocks =
    IsDistinct-cons (is_same_prefix W) p ps (all-apart W p ps blocks.0 blocks.1 ordered.0) (order-distinct W ps ordered.1 blocks.1)

-- a label of a table of well-formed labels is well formed
label-known : (table : List Label) (x : Label) → AllByRecursion (λ y. IsTrue (is_label y)) table → has_label table x ≡ true → IsTrue (is_label x)
label-known [] x all h = absurd cc
label-known (y ∷ ys) x all h = by (or_cases (bytes_eq x y) (has_label ys x) h) (λ inside. label-known ys x all.1 inside)
  where
    by : (bytes_eq x y ≡ true) ⊎ (has_label ys x ≡ true) → (has_label ys x ≡ true → IsTrue (is_label x)) → IsTrue (is_label x)
    by (inl same) rest = subst (λ (z : Label). IsTrue (is_label z)) (sym ((bytes_eq-Decides x y).0 same)) all.0
    by (inr inside) rest = rest inside

module _ (text : List ℕ) (m : MapModel) (l : ListModel) (c : CertificateModel) (reads : map_reading text ≡ Ok m) (pair : IsMinimalPair m l c) where
  list-has_form : HasListForm l
  list-has_form = list-form m l c pair (labels-read text m reads)

  limits : IsLimited m
  limits = limits-read text m reads

  table-texts : AllByRecursion (λ y. IsTrue (is_label y)) l.table
  table-texts =
      subst (λ (t : List Label). AllByRecursion (λ y. IsTrue (is_label y)) t) (sym pair.list_table)
      (recursion_from_All (λ y. IsTrue (is_label y)) m.table
      (λ k d below. limits.table.labels k (get_or m.table k d) (slice_get-get_or m.table k d below)))

  printed : All (IsPrintedEntry l.version) l.prefixes
  printed k d below = (list-has_form.blocks k d below, label-known l.table _ table-texts (list-has_form.labels k d below))

  pub well-formed : IsWellFormed l
  well-formed = record {
    entries = printed;
    distinct = order-distinct (width_of l.version) l.prefixes list-has_form.order
        (recursion_from_All (HasBlock (width_of l.version)) l.prefixes list-has_form.blocks);
    name = λ x e. limits.name x (sym pair.list_name ∙ e);
  }

  module _ (few : length l.prefixes ≤ mapping_limit) (few_labels : length (labels_of l.prefixes) ≤ label_limit) where
    pub can-read_again : CanBeReadAgain l × ((again : ListModel) → IsListAgain l again → (again.prefixes ≡ l.prefixes) × IsAccepted m again c)
    can-read_again = (
      record {
        form = well-formed;
        few_entries = few;
        few_labels = subst (λ (ps : List Prefix). length (labels_of ps) ≤ label_limit) (sym (in_order-kept l.prefixes list-has_form.order)) few_labels;
      },
      λ again is.
          let same : again.prefixes ≡ l.prefixes = is.prefixes ∙ in_order-kept l.prefixes list-has_form.order in
          let accepted = accepted-minimal m l c pair in (
            same,
            record {
              list_version = is.version ∙ accepted.list_version;
              certificate_version = accepted.certificate_version;
              root = subst (λ (ps : List Prefix). IsNodeAccepted m ps c.root 0 0) (sym same) accepted.root;
              count = subst (λ (ps : List Prefix). length ps ≤ (claim_of c.root).cost + 1) (sym same) accepted.count;
            },
          ),
    )
