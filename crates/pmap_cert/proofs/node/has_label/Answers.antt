use Rattle.std.proofs.Common.{◌∙◌, ◌==◌, rules, sym}
use borrow.Author.Tests.{tests}
use Rattle.std.proofs.lemmas.Iterator.{YieldsList-from_slice}
use Rattle.std.proofs.lemmas.Iterator.Search.{any_from_yields_List}
use Rattle.pmap_model.proofs.LabelTexts.{list_any-map}
use Rattle.pmap_model.specs.declared.label.LabelId.{LabelId}
use Rattle.pmap_cert.proofs.node.has_label.Goals as goal

pub returns : goal.returns
returns c =
    any_from_yields_List (λ label. c.args.id.0 == label.0) _ _ c.any.result c.any.ensures.ran (YieldsList-from_slice c.args.labels.now c.iter.ensures.rest) (λ x b q k. search (rules, tests))
    ∙ sym (list_any-map (λ (id : LabelId). id.0) (λ n. c.args.id.0 == n) c.args.labels.now)
