use Rattle.std.proofs.Common.{ℕ, ◌≡◌, ◌+◌, ◌∙◌, List, [], ◌∷◌, ◌++◌, ap, arith, map, refl, subst, take}
use Rattle.std.specs.Prelude.{unwrap_or}
use Rattle.std.proofs.lemmas.Grind.{common_steps}
use Rattle.std.proofs.lemmas.List.Elements.{All-same}
use Rattle.std.proofs.lemmas.List.Sorted.{All-permutation}
use Rattle.std.proofs.lemmas.List.{take_all, take_more}
use Rattle.std.proofs.lemmas.Option.{get_or_from_slice_get, slice_get_within}
use Rattle.pmap_cert.specs.CertificateText.{text_of_lines}
use Rattle.pmap_model.specs.ListModel.{Prefix}
use Rattle.pmap_model.specs.PrefixList.{prefix_of}
use Rattle.pmap_cert.specs.ListText.{entry_line}
use Rattle.pmap_cert.proofs.ReadLines.{mode_text, name_lines}
use Rattle.pmap_model.specs.declared.entry.Entry.{Entry}
use Rattle.pmap_cert.proofs.EntryOrder.{sorted-order}
use Rattle.pmap_print.proofs.list.ListTextPrintable.print.Goals as goal
use Rattle.pmap_print.proofs.list.ListTextPrintable.print.Goals.{in-V4, in-V6}

pub loop-index-init : goal.loop-index-init
loop-index-init g c =
    let l = c.self.inside.list.now in
    let named = c.in_ok-print_name.ensures in
    let pushed = c.in_ok-push.ensures in
    let version : c.match-list.push.now ≡ mode_text l.version ++ 10 ∷ [] = elim c.match-list.branch [
      | in-V4 w ↦ let is = w.in-V4.is in ap (λ b. b.now) w.push-is ∙ rw is refl
      | in-V6 w ↦ let is = w.in-V6.is in ap (λ b. b.now) w.push-is ∙ rw is refl
    ] in
    let name = named.0 in
    let mode = pushed.0 in (
      All-same (λ (e : Entry). e.block.version ≡ l.version) _ _ c.sorted_or-entries.ensures
          (All-permutation (λ (e : Entry). e.block.version ≡ l.version) _ _ c.self.invariant.0 l.one_version),
      grind (arith, common_steps, name, mode, version),
      pushed.1 ∙ named.1,
      λ first h. pushed.2 first (named.2 first h),
    )

pub loop-index-preserved : goal.loop-index-preserved
loop-index-preserved g c =
    let es = c.sorted_or-entries.result.now in
    let e = c.at.result in
    let index = c.loop-index.index in
    let (versions, so_far, same, began) = c.loop-index.invariant in
    let within = slice_get_within es index e c.at.ensures in
    let is = get_or_from_slice_get es index e e c.at.ensures in
    let version = subst (λ (x : Entry). x.block.version ≡ c.self.inside.list.now.version) is (versions index e within) in
    let more : take (index + 1) es ≡ take index es ++ e ∷ [] = take_more es index e within ∙ ap (λ (x : Entry). take index es ++ x ∷ []) is in
    let pushed = c.in_ok-print_entry.ensures in (
      versions,
      rw (pushed.0, so_far, version, more) (grind (arith, common_steps)),
      pushed.1 ∙ same,
      λ first h. pushed.2 first (began first h),
    )

pub returns : goal.returns
returns g c =
    let l = c.self.inside.list.now in
    let sorted = unwrap_or c.self.inside.sorted l.entries in
    let (versions, so_far, same, began) = c.loop-index.invariant in
    let text : List Prefix → List ℕ = λ ps. text_of_lines (name_lines l.name ++ mode_text l.version ∷ map (entry_line l.version) ps) in (
      c.args.self.now,
      refl,
      (
        so_far
            ∙ ap (λ (t : List ℕ). (g.S.Sink.sink c.args.out.now).printed ++ t)
            (ap (λ (es : List Entry). text (map (prefix_of l.labels) es))
            (take_all c.loop-index.index c.sorted_or-entries.result.now (omega (arith, c.len-index-end.ensures, c.loop-index-test.false)) ∙ c.sorted_or-entries.ensures)
            ∙ ap text (sorted-order l.labels l.entries sorted c.self.invariant.0 c.self.invariant.1 l.blocks_distinct)
            ∙ c.self.view_is),
        same,
        began,
      ),
    )
