use Rattle.std.proofs.Common.{◌≡◌, ◌∙◌, All, ap, arith, length, option_map, subst, sym, true≢false}
use Rattle.std.proofs.lemmas.List.Elements.{All-contains}
use Rattle.std.proofs.lemmas.Option.{get_or_from_slice_get, none-some, same_Some, slice_get_within}
use Rattle.pmap_model.specs.declared.entry.Entry.{Entry}
use Rattle.label_lookup.proofs.Entries.{IsNoLonger, all_seen, covered, inside, labelled, passed_over, taken, unlabelled}
use Rattle.label_lookup.proofs.list_scan.PrefixListLabeller.label_of.Goals as goal
use Rattle.label_lookup.proofs.list_scan.PrefixListLabeller.label_of.Goals.{then-covers+in-Some, then-covers+in_default-2, then-covers+in_default, else-covers}

pub loop-index-preserved : goal.loop-index-preserved
loop-index-preserved c =
    let l = c.args.self.now in
    let a = c.args.addr.value in
    let index = c.loop-index.index in
    let longest = c.loop-index.longest in
    let so_far = c.loop-index.invariant in
    let e = c.at-entry.result in
    let listed = c.at-entry.ensures in
    let version : e.block.version ≡ l.version =
    All-contains (λ (d : Entry). d.block.version ≡ l.version) l.entries e l.one_version
    (index, slice_get_within l.entries index e listed, get_or_from_slice_get l.entries index e e listed) in
    elim c.if-covers.branch [
      | then-covers+in-Some w ↦
          rw (w.longest-is, ← w.in-Some.is) (passed_over l a index longest so_far e listed
          (λ _. rw w.in-Some.is (omega (arith, w.if-entry-found.true))))
      | then-covers+in_default-2 w ↦
          rw w.longest-is (taken l a index longest so_far e listed (covered l a e version (c.covers.ensures.0 w.if-covers.true).1)
          (λ d is. let same = ap (λ (f : Entry). f.block.len) (same_Some w.in-Some.found d (sym w.in-Some.is ∙ is)) in
          omega (arith, same, w.if-entry-found.false)))
      | then-covers+in_default w ↦
          rw w.longest-is (taken l a index longest so_far e listed (covered l a e version (c.covers.ensures.0 w.if-covers.true).1)
          (λ d is. absurd (none-some d (sym w.in_default.is ∙ is))))
      | else-covers w ↦
          rw w.longest-is (passed_over l a index longest so_far e listed
          (λ covers. absurd (true≢false (sym (c.covers.ensures.1 (version ∙ sym c.requires, inside l a e version covers)) ∙ w.if-covers.false))))
    ]

pub returns-in_err-longest-clause-value : goal.returns-in_err-longest-clause-value
returns-in_err-longest-clause-value c =
    let l = c.args.self.now in
    let a = c.args.addr.value in
    let all : c.loop-index.index ≡ length l.entries = omega (arith, c.loop-index-test.false, c.loop-index.auto.index-end, c.len-index-end.ensures) in
    let none = subst (λ o. All (IsNoLonger l a o) l.entries) c.in_err-longest.was (all_seen l a c.loop-index.index c.loop-index.longest c.loop-index.invariant all) in
    ap (option_map (λ t. t.now)) c.from_residual.ensures ∙ sym (unlabelled l a none)

pub returns-clause-value : goal.returns-clause-value
returns-clause-value c =
    let l = c.args.self.now in
    let a = c.args.addr.value in
    let e = c.in_ok-longest.field-0 in
    let seen = c.loop-index.invariant.listed e c.in_ok-longest.was in
    let all : c.loop-index.index ≡ length l.entries = omega (arith, c.loop-index-test.false, c.loop-index.auto.index-end, c.len-index-end.ensures) in
    let most = subst (λ o. All (IsNoLonger l a o) l.entries) c.in_ok-longest.was (all_seen l a c.loop-index.index c.loop-index.longest c.loop-index.invariant all) in
    c.text.ensures.value ∙ labelled l a e seen.0 seen.1 most
