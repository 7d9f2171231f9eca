use Rattle.std.proofs.Common.{◌∙◌, ◌+◌, ap, arith, nat_lt, refl, sym}
use Rattle.std.proofs.lemmas.Bool.{false_from_ne_true, lt-ltb, ltb-true}
use Rattle.cert_check.proofs.Nodes.{or-none}
use Rattle.cert_check.proofs.OneStretch.{whole-range}
use Rattle.cert_check.proofs.Whole.{bound, root-checked}
use Rattle.cert_check.proofs.checking.check_root.Goals as goal

pub check_node-requires-clause-range : goal.check_node-requires-clause-range
check_node-requires-clause-range c = whole-range c.args.sources.now c.last_address.result c.last_address.ensures

pub returns-then-sources-from-clause-ok : goal.returns-then-sources-from-clause-ok
returns-then-sources-from-clause-ok c =
    let s = c.args.sources.now in
    let last = c.check_node.new.walk in
    let count = s.count in
    let cost = c.in-Some.cost in
    rw c.note.ensures
    (root-checked s c.args.walk.now.nodes c.args.walk.now.number cost c.args.walk.now.sets.items c.args.walk.now.fault last _
    c.requires.number c.requires.fault c.in-Some.ensures refl
    (ap (bound last.fault) (sym (lt-ltb (cost + 1) count (omega (arith, c.if-sources-from.true, c.from.ensures))))))

pub returns-else-sources-from-clause-ok : goal.returns-else-sources-from-clause-ok
returns-else-sources-from-clause-ok c =
    let s = c.args.sources.now in
    let last = c.check_node.new.walk in
    let count = s.count in
    let cost = c.in-Some.cost in
    root-checked s c.args.walk.now.nodes c.args.walk.now.number cost c.args.walk.now.sets.items c.args.walk.now.fault last last
    c.requires.number c.requires.fault c.in-Some.ensures refl
    (sym (or-none last.fault)
    ∙ ap (bound last.fault) (sym (false_from_ne_true (nat_lt (cost + 1) count) (λ t. absurd (omega (arith, ltb-true (cost + 1) count t, c.if-sources-from.false, c.from.ensures))))))
