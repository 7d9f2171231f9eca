use Rattle.std.proofs.Common.{◌≡◌, ◌∙◌, ◌-◌, ◌^◌, ◌<◌, Option, Some, None, arith, length, option_map, ap, refl, subst, sym}
use Rattle.std.specs.Option.{ForSome, option_map_or, option_or}
use Rattle.std.proofs.lemmas.List.Elements.{All-weaker}
use Rattle.std.proofs.lemmas.Option.{same_Some}
use Rattle.prefix_keys.specs.Block.{width_of}
use Rattle.prefix_keys.specs.declared.version.Version.{Version}
use Rattle.pmap_model.specs.MapModel.{Label, Mapping, last_such, spans}
use Rattle.pmap_model.specs.MapText.{text_at, mappings_of}
use Rattle.pmap_model.specs.declared.label.LabelId.{LabelId}
use Rattle.pmap_stretches.proofs.Stretched.{won_known, won_text}
use Rattle.pmap_stretches.proofs.stretches.Stretches.swept_of_map.Goals as goal

won_label : (o : Option Mapping) (x : Label) → option_or (option_map (λ p. p.label) o) (Some x) ≡ Some (option_map_or (λ (p : Mapping). p.label) o x)
won_label None x = refl
won_label (Some p) x = refl

pub of_mappings-requires-clause-known : goal.of_mappings-requires-clause-known
of_mappings-requires-clause-known c = record {
  labels = All-weaker (λ s. s.label.0 < length c.args.map.now.labels) (λ s. s.label.0 < 2 ^ 32 - 1)
      (λ s less. omega (arith, less, c.laws.ensures.few)) c.args.map.now.statements c.args.map.now.numbers_known;
  fallback = λ id is. omega (arith, ap (λ (x : LabelId). x.0) (same_Some c.args.map.now.default id is), c.args.map.now.default_known, c.laws.ensures.few);
}

pub returns : goal.returns
returns c =
    let m = c.args.map.now in
    let made = c.in_ok-stretches.ensures in
    let s = c.in_ok-stretches.stretches in
    let fallback : ForSome (Some m.default) (λ id. id.0 < length m.labels) = λ id is. subst (λ (x : LabelId). x.0 < length m.labels) (same_Some m.default id is) m.default_known in
    record {
      version = made.version;
      stretches = made.stretches;
      known = won_known m.statements (Some m.default) s made.labels (length m.labels) m.numbers_known fallback;
      labels = λ a below.
          won_text m.statements (Some m.default) s made.labels m.labels m.numbers_known fallback a (subst (λ (v : Version). a < 2 ^ width_of v) (sym made.version) below)
          ∙ won_label (last_such (spans a) (mappings_of m.labels m.statements)) (text_at m.labels m.default.0);
    }
