use Rattle.prefix_keys.proofs.LeadingGroups.{read-more, read-last}
use Rattle.prefix_keys.proofs.text.colon.leading_groups.Goals as goal

pub loop-group-preserved : goal.loop-group-preserved
loop-group-preserved c = record {
  count_in_range = c.in_ok-groups.groups.count_in_range;
  in_range = c.in_ok-groups.groups.in_range;
  read =
      read-more c.args.text.now c.loop-group.rest.now c.in_ok-group.following.now c.in-Some.next.now
      c.loop-group.groups.0 c.loop-group.groups.1.0 c.in_ok-group.group c.in_ok-groups.groups.count c.in_ok-groups.groups.number
      c.loop-group.invariant.read c.in_ok-group.ensures.group c.in-Some.ensures c.in_ok-groups.ensures;
}

pub returns-in-None : goal.returns-in-None
returns-in-None c =
    read-last c.args.text.now c.loop-group.rest.now c.in_ok-group.following.now
    c.loop-group.groups.0 c.loop-group.groups.1.0 c.in_ok-group.group c.in_ok-groups.groups.count c.in_ok-groups.groups.number
    c.loop-group.invariant.read c.in_ok-group.ensures.group c.in_ok-groups.ensures
