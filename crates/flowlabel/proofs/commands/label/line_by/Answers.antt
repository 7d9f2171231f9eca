-- A converted address is one of the labels' version, so its label is that of the labelling.
use Rattle.std.proofs.Common.{◌≡◌, ◌∙◌, ◌<◌, ◌^◌, ◌++◌, ◌∷◌, ℕ, [], Option, Some, ap, subst, sym}
use Rattle.std.specs.Prelude.{option_and_then, option_map, unwrap_or}
use Rattle.std.proofs.lemmas.Result.{IfOk-weaker}
use Rattle.prefix_keys.specs.Conversion.{converted}
use Rattle.prefix_keys.specs.Text.{AddressOf}
use Rattle.prefix_keys.specs.Block.{width_of}
use Rattle.prefix_keys.specs.declared.addr.Addr.{Addr}
use Rattle.prefix_keys.specs.declared.version.Version.{Version}
use Rattle.pmap_model.specs.MapModel.{Label}
use Rattle.label_lookup.specs.Labelling.{label_by, labelling}
use Rattle.label_lookup.proofs.Labellings.{same_at_addresses}
use Rattle.flowlabel.proofs.commands.label.line_by.Goals as goal

at_place : (v : Version) (f : ℕ → Option Label) (address : AddressOf) (value : Addr) → Some (value.version, value.value) ≡ converted v address
    → value.version ≡ v → f value.value ≡ label_by (labelling v f) address
at_place v f address value is own =
    same_at_addresses v f value.value (subst (λ (w : Version). value.value < 2 ^ width_of w) own value.in_range)
    ∙ ap (λ (found : Option AddressOf). option_and_then (λ p. (labelling v f).label p.1) found) is

pub returns-in-Some : goal.returns-in-Some
returns-in-Some g c =
    let address : AddressOf = (c.args.addr.version, c.args.addr.value) in
    let is = ap (option_map (λ (a : Addr). (a.version, a.value))) (sym c.in-Some.is) ∙ c.convert.ensures.value ∙ ap (λ (v : Version). converted v address) c.version.ensures in
    IfOk-weaker c.line.result _ _
    (λ out printed. printed ∙ ap (λ (l : Option Label). unwrap_or l [] ++ 10 ∷ [])
    (c.label_of.ensures.value ∙ at_place _ (g.L.Labeller.label c.args.labels.now) address c.in-Some.value is (c.in-Some.ensures.version ∙ c.version.ensures)))
    c.line.ensures
