use Rattle.std.proofs.Common.{◌∙◌, ◌-◌, Some, ap, arith, option_map, refl, sym}
use Rattle.std.proofs.lemmas.Nat.{pow_pos}
use Rattle.std.proofs.lemmas.Option.{slice_get-map}
use Rattle.prefix_keys.specs.Block.{width_of}
use Rattle.pmap_stretches.specs.Mappings.{statement_of}
use Rattle.pmap_model.proofs.ListBlocks.{block_start}
use Rattle.pmap_model.proofs.PackedStatements.{addr-same, statement-same}
use Rattle.pmap_stretches.proofs.stretches.mappings.EntriesMappings.mapping.Goals as goal

pub returns : goal.returns
returns c =
    let e = c.at-entry.result in
    let span = c.span.ensures in
    let some = pow_pos (width_of e.block.version - e.block.len) in
    let start = block_start e.block.version e refl in
    slice_get-map statement_of c.args.self.now c.args.number ∙ ap (option_map statement_of) c.at-entry.ensures
    ∙ ap Some (statement-same _ _ (addr-same _ _ (sym span.version) (sym span.low))
    (addr-same _ _ (sym span.version ∙ c.span.result.one_version) (omega (arith, some, start, span.last))) refl)
