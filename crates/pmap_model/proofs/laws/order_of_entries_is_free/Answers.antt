use Rattle.std.proofs.Common.{◌≡◌, ℕ, suc, ap, ◌∙◌}
use Rattle.prefix_keys.specs.Block.{width_of}
use Rattle.prefix_keys.specs.declared.version.Version.{Version}
use Rattle.pmap_model.specs.ListModel.{ListModel, label_below, list_label, HasSamePrefixes, LabelsBlocksOnce}
use Rattle.pmap_model.proofs.ListBlocks.{distinct-list_of}
use Rattle.pmap_model.proofs.ListLabels.{label-same_prefixes, once-distinct, same_prefixes-permuted}
use Rattle.pmap_model.proofs.laws.order_of_entries_is_free.Goals as goal

same_labels : (l r : ListModel) → l.version ≡ r.version → LabelsBlocksOnce (width_of l.version) l.prefixes →
    HasSamePrefixes l.prefixes r.prefixes → (a : ℕ) → list_label l a ≡ list_label r a
same_labels l r same once prefixes a =
    label-same_prefixes (width_of l.version) l.prefixes r.prefixes a once prefixes
    ∙ ap (λ (v : Version). label_below (width_of v) r.prefixes (suc (width_of v)) a) same

pub returns-clause-entries : goal.returns-clause-entries
returns-clause-entries c = same_labels

pub returns-clause-order : goal.returns-clause-order
returns-clause-order c =
    λ l r same distinct moved.
    same_labels l r same (once-distinct (width_of l.version) l.prefixes distinct) (same_prefixes-permuted l.prefixes r.prefixes moved)

pub returns-clause-distinct : goal.returns-clause-distinct
returns-clause-distinct c = distinct-list_of
