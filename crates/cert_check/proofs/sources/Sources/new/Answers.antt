use Rattle.std.proofs.Common.{◌∙◌, Bor, List, None, Some, ap, refl, subst, sym}
use Rattle.prefix_keys.specs.Block.{width_of}
use Rattle.pmap_model.specs.MapModel.{Label}
use Rattle.pmap_stretches.specs.Stretches.{AreStretches, StretchesModel}
use Rattle.cert_check.specs.Inner.{AreNumbers}
use Rattle.cert_check.proofs.sources.Sources.new.Goals as goal

pub returns : goal.returns
returns c =
    let labels = c.args.limits.labels.now in
    let map = c.in_ok-of_map.ensures in
    let list = c.in_ok-of_list.ensures in
    let map_is = ap (λ (b : Bor StretchesModel). b.now) map.stretches in
    let list_is = ap (λ (b : Bor StretchesModel). b.now) list.stretches in
    let version = sym c.version.ensures in
    record {
      sources = record {
        width = c.requires.width ∙ ap width_of version;
        map_version = ap (λ (s : StretchesModel). s.version) map_is ∙ version;
        list_version = ap (λ (s : StretchesModel). s.version) list_is ∙ c.requires.version ∙ version;
        map_known = map.known;
        list_known = list.known;
      };
      origin = λ o of_map of_list. record {
        map_version = sym of_map.version ∙ version;
        list_version = sym of_list.version ∙ c.requires.version ∙ version;
        of_map = subst (λ (t : List Label). AreNumbers c.in_ok-of_map.of_map.numbers.items t labels) of_map.labels map.numbers;
        of_list = subst (λ (t : List Label). AreNumbers c.in_ok-of_list.of_list.numbers.items t labels) of_list.labels list.numbers;
        map_stretches = subst (AreStretches o.map.statements (Some o.map.default)) (sym map_is) of_map.stretches;
        list_stretches = (of_list.stretches.0, of_list.stretches.1, subst (AreStretches of_list.stretches.0 None) (sym list_is) of_list.stretches.2);
        count = of_list.count;
      };
      version = c.version.ensures;
      limits = refl;
    }
