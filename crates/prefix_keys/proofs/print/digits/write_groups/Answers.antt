use Rattle.std.proofs.Common.{ℕ, ◌≡◌, ◌+◌, ◌-◌, ◌<◌, ◌∙◌, [], ◌∷◌, ◌++◌, List, false, ap, sym, drop, get_or, length, append_assoc, arith}
use Rattle.std.specs.Fmt.{digits}
use Rattle.std.proofs.lemmas.List.{drop_all}
use Rattle.prefix_keys.proofs.Joined.{joined-before, joined-last}
use Rattle.prefix_keys.proofs.Places.{put}
use Rattle.prefix_keys.proofs.print.digits.write_groups.Goals as goal
use Rattle.prefix_keys.proofs.print.digits.write_groups.Goals.{then-i-groups, else-i-groups}
use Rattle.prefix_keys.specs.Print.{address_groups_text}

pub loop-i-preserved : goal.loop-i-preserved
loop-i-preserved c =
    let i : ℕ = c.loop-i.i - 1 in
    let groups : List ℕ = c.args.groups.now in
    let following : List ℕ = drop c.args.end c.args.buf.now in
    let here : List ℕ = digits 16 false (get_or groups i 0) in
    let inside : i < length groups = omega arith in
    let next : c.loop-i.i ≡ i + 1 = omega arith in
    let later : drop c.loop-i.at c.loop-i.buf ≡ address_groups_text (drop (i + 1) groups) ++ following =
    c.loop-i.invariant.written ∙ ap (λ k. address_groups_text (drop k groups) ++ following) next in
    record {
      written = elim c.if-i-groups.branch [
        | then-i-groups w ↦
            let parted : drop c.if-i-groups.at c.if-i-groups.buf ≡ 58 ∷ (address_groups_text (drop (i + 1) groups) ++ following) =
            (λ k. drop (w.at-is k) (w.buf-is k)) ∙ put c.loop-i.buf (c.loop-i.at - 1) c.loop-i.at 58 (omega arith) (omega arith)
            ∙ ap (λ (text : List ℕ). 58 ∷ text) later in
            c.write_group-at.ensures.written ∙ ap (λ (text : List ℕ). here ++ text) parted
            ∙ sym (append_assoc here (58 ∷ address_groups_text (drop (i + 1) groups)) following)
            ∙ ap (λ (text : List ℕ). text ++ following) (sym (joined-before 16 58 groups i 0 inside w.if-i-groups.true))
        | else-i-groups w ↦
            let last : i + 1 ≡ length groups = omega (arith, w.if-i-groups.false) in
            let none : drop (i + 1) groups ≡ [] = drop_all (i + 1) groups (omega arith) in
            let whole : drop c.if-i-groups.at c.if-i-groups.buf ≡ following =
            (λ k. drop (w.at-is k) (w.buf-is k)) ∙ later ∙ ap (λ (rest : List ℕ). address_groups_text rest ++ following) none in
            c.write_group-at.ensures.written ∙ ap (λ (text : List ℕ). here ++ text) whole
            ∙ ap (λ (text : List ℕ). text ++ following) (sym (joined-last 16 58 groups i 0 inside last))
      ];
      start = elim c.if-i-groups.branch [
        | then-i-groups w ↦ omega (arith, w.at-is, c.loop-i.invariant.start, c.write_group-at.ensures.start)
        | else-i-groups w ↦ omega (arith, w.at-is, c.loop-i.invariant.start, c.write_group-at.ensures.start)
      ];
      room = elim c.if-i-groups.branch [
        | then-i-groups w ↦ omega (arith, w.at-is, c.loop-i.invariant.room, c.write_group-at.ensures.room)
        | else-i-groups w ↦ omega (arith, w.at-is, c.loop-i.invariant.room, c.write_group-at.ensures.room)
      ];
    }
