use Rattle.std.proofs.Common.{◌+◌, ◌∙◌, arith, ap, refl, sym}
use Rattle.prefix_keys.proofs.Quotients.{width_at_most}
use Rattle.pmap_cert.proofs.Paths.{at-end, path-length, path-number}
use Rattle.pmap_cert.proofs.path.Path.end.Goals as goal

pub overflow_add-result : goal.overflow_add-result
overflow_add-result c =
    let end = at-end c.args.block.now c.args.self.now.value c.args.self.now.count c.width.result c.requires c.width.ensures in
    omega (arith, end.fits, width_at_most c.args.block.now.version)

pub invariant_of-result : goal.invariant_of-result
invariant_of-result c =
    let end = at-end c.args.block.now c.args.self.now.value c.args.self.now.count c.width.result c.requires c.width.ensures in
    record { len_in_range = c.requires; in_range = end.fits; no_host_bit = end.free }

pub returns : goal.returns
returns c =
    let end = at-end c.args.block.now c.args.self.now.value c.args.self.now.count c.width.result c.requires c.width.ensures in
    record {
      version = refl;
      len = ap (λ n. c.args.block.now.len + n) (sym (path-length c.args.self.now.value c.args.self.now.count));
      number = end.number_is ∙ sym (path-number c.args.self.now.value c.args.self.now.count _);
    }
