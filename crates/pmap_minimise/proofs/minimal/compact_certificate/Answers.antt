use Rattle.std.proofs.Common.{length}
use Rattle.prefix_keys.specs.Block.{width_of}
use Rattle.pmap_model.specs.MapText.{map_of}
use Rattle.pmap_cert.proofs.CompactForms.{form-compacted}
use Rattle.pmap_minimise.proofs.BuiltNodes.{map-countable, map-on}
use Rattle.pmap_minimise.proofs.Whole.{built-certificate}
use Rattle.pmap_minimise.proofs.minimal.compact_certificate.Goals as goal

pub built_of-requires : goal.built_of-requires
built_of-requires c = map-countable c.args.map c.in_ok-stretches.stretches c.in_ok-stretches.ensures.stretches

pub of_format-requires-clause-form : goal.of_format-requires-clause-form
of_format-requires-clause-form c =
    let m = c.args.map in
    let is = c.in_ok-stretches.ensures in
    let built = c.in_ok-root.ensures (map_of m) (map-on m c.in_ok-stretches.stretches is.version is.stretches c.laws.ensures.table) in
    rw built.compact_is (form-compacted (length m.labels) built.node (width_of m.version) built.is.form.1 built.is.form.0)

pub returns : goal.returns
returns c =
    let m = c.args.map in
    let is = c.in_ok-stretches.ensures in
    let made = c.of_format.ensures in
    let built = c.in_ok-root.ensures (map_of m) (map-on m c.in_ok-stretches.stretches is.version is.stretches c.laws.ensures.table) in
    built-certificate m c.of_format.result (rw made.root built) made.format made.version made.labels
