use Rattle.std.proofs.Common.{arith}
use Rattle.pmap_stretches.proofs.Ascents.{label_known, open_on, top_known, top_wins}
use Rattle.pmap_stretches.proofs.stretches.ascent.Ascent.new.Goals as goal

pub label_won-label-requires : goal.label_won-label-requires
label_won-label-requires g c = top_known c.in_ok-next.ensures.opened c.greatest-won.ensures

pub new-requires : goal.new-requires
new-requires g c = label_known c.greatest-won.result c.requires.known c.label_won-label.ensures

pub returns-clause-ascent : goal.returns-clause-ascent
returns-clause-ascent g c =
    let begun = c.in_ok-next.ensures in
    record {
      are = c.in_ok-growing.ensures.are (g.M.Mappings.all c.args.mappings.now) c.args.default c.label_won-label.ensures
          (top_wins begun.opened 0 c.requires.order c.greatest-won.ensures begun.later (λ s is. omega arith));
      order = c.requires.order;
      opened = open_on begun.opened (omega arith);
    }
