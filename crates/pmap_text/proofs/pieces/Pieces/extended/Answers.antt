use Rattle.std.proofs.Common.{rules, ◌<◌, ◌^◌, ◌++◌, ◌∙◌, List, ℕ, ap, flat_map, length, sym, arith, length-append}
use Rattle.std.proofs.lemmas.List.{append_assoc}
use Rattle.pmap_text.specs.Inner.{text_in}
use Rattle.pmap_text.proofs.pieces.Pieces.extended.Goals as goal

pub returns-clause-text : goal.returns-clause-text
returns-clause-text c =
    ap (text_in c.self.inside.ended.items) c.in_ok-extend_from_slice.ensures.items
    ∙ sym (append_assoc (flat_map (λ p. p.items) c.self.inside.ended.items) c.self.inside.last.items c.args.bytes.now)
    ∙ ap (λ (t : List ℕ). t ++ c.args.bytes.now) c.self.view_is

pub returns-clause-fits : goal.returns-clause-fits
returns-clause-fits c =
    let fits : c.in-Some.len < 2 ^ 64 = search rules in
    omega (arith, fits, ap length (returns-clause-text c), length-append c.args.self c.args.bytes.now, ap length c.self.view_is, c.self.invariant.1, c.in-Some.ensures)
