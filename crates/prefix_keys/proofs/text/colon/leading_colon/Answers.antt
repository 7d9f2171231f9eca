use Rattle.prefix_keys.proofs.LeadingGroups.{colon-gap}
use Rattle.prefix_keys.proofs.text.colon.leading_colon.Goals as goal

pub returns-in_ok-join-in-Some : goal.returns-in_ok-join-in-Some
returns-in_ok-join-in-Some c =
    colon-gap c.args.text.now c.in_ok-front.rest.now c.in-Some.following.now c.in_ok-back-in-Some.rest.now
    c.in_ok-front.front.count c.in_ok-front.front.number c.in_ok-back-in-Some.back.count c.in_ok-back-in-Some.back.number c.in_ok-join-in-Some.field-0
    c.in_ok-front.ensures c.in-Some.ensures c.in_ok-back-in-Some.ensures c.in_ok-join-in-Some.ensures
