use Rattle.std.proofs.Common.{◌≡◌, ◌∙◌, ◌+◌, ◌^◌, arith, subst}
use Rattle.prefix_keys.specs.Block.{width_of}
use Rattle.pmap_stretches.specs.Sweep.{AreSwept, HaveLabelsWon}
use Rattle.pmap_stretches.proofs.Stretched.{labels_won, stretches_all}
use Rattle.pmap_stretches.proofs.stretches.ascent.of_mappings.Goals as goal

pub returns : goal.returns
returns g c =
    let ss = g.M.Mappings.all c.args.mappings.now in
    let self = c.reach.new.self in
    let reached = c.in_ok-reach.ensures in
    let opened = c.in_ok-open_all.ensures in
    let begun = c.in_ok-ascent.ensures in
    let version = reached.continues.version ∙ opened.version ∙ begun.version in
    let joined = reached.continues.joined ∙ opened.joined ∙ begun.joined in
    let default = reached.continues.default ∙ opened.default ∙ begun.default in
    let are = reached.continues.ascent.are in
    let end : self.growing.last + 1 ≡ 2 ^ width_of self.growing.stretches.version = rw version (omega (arith, c.last_address-end.ensures, reached.last)) in
    record {
      version = version;
      stretches = subst (λ d. AreSwept c.args.joined ss d self.growing.stretches) default
          (subst (λ j. AreSwept j ss self.default self.growing.stretches) joined (stretches_all ss self.default self.growing are end));
      labels = subst (λ d. HaveLabelsWon ss d self.growing.stretches) default (labels_won ss self.default self.growing are end);
    }
