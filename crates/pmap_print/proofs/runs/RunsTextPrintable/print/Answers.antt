use Rattle.std.proofs.Common.{◌≡◌, ℕ, suc, ◌+◌, ◌-◌, ◌∙◌, ◌++◌, append_assoc, ap, arith, length, map, refl, sym}
use Rattle.std.specs.Prelude.{codes}
use Rattle.std.specs.List.{flat_map}
use Rattle.std.proofs.lemmas.List.{append-nil}
use Rattle.pmap_stretches.specs.Stretches.{StretchesModel}
use Rattle.pmap_stretches.specs.RunsText.{Line, Text, line_text, run_at, run_fields, runs_text}
use Rattle.pmap_stretches.proofs.StretchRuns.{all_runs, runs_from}
use Rattle.pmap_print.proofs.runs.RunsTextPrintable.print.Goals as goal

pub loop-index-init : goal.loop-index-init
loop-index-init g c =
    let s : StretchesModel = c.args.self.now.runs.now.stretches in
    let front : Text = (g.S.Sink.sink c.args.out.now).printed in
    let text : ℕ → Text = λ count. flat_map line_text (map (run_fields s.version) (runs_from c.args.self.now.labels.now s 0 count)) in
    let pushed = c.in_ok-push.ensures in (
      ap (λ (l : Text). l ++ text (length s.firsts - 0)) pushed.0
          ∙ append_assoc front (codes "low|high|label\n") (text (length s.firsts - 0))
          ∙ ap (λ (n : ℕ). front ++ (codes "low|high|label\n" ++ text n)) (let all : length s.firsts - 0 ≡ length s.firsts = omega arith in all),
      pushed.1,
      pushed.2,
    )

pub loop-index-preserved : goal.loop-index-preserved
loop-index-preserved g c =
    let s : StretchesModel = c.args.self.now.runs.now.stretches in
    let i : ℕ = c.loop-index.index in
    let old : Text = (g.S.Sink.sink c.loop-index.out).printed in
    let left : length s.firsts - i ≡ suc (length s.firsts - (i + 1)) = omega (arith, c.loop-index-test.true, c.len-index-end.ensures) in
    let text : ℕ → ℕ → Text = λ from count. flat_map line_text (map (run_fields s.version) (runs_from c.args.self.now.labels.now s from count)) in
    let rest : Text = text (i + 1) (length s.firsts - (i + 1)) in
    let run : Line = run_fields s.version (run_at c.args.self.now.labels.now s i) in
    let so_far = c.loop-index.invariant in
    let pushed = c.in_ok-print_run.ensures in (
      ap (λ (l : Text). l ++ rest) pushed.0 ∙ append_assoc old (line_text run) rest
          ∙ sym (ap (λ (n : ℕ). old ++ text i n) left) ∙ so_far.0,
      pushed.1 ∙ so_far.1,
      λ first h. pushed.2 first (so_far.2 first h),
    )

pub returns : goal.returns
returns g c =
    let s : StretchesModel = c.args.self.now.runs.now.stretches in
    let i : ℕ = c.loop-index.index in
    let old : Text = (g.S.Sink.sink c.loop-index.out).printed in
    let none : length s.firsts - i ≡ 0 = omega (arith, c.loop-index-test.false, c.len-index-end.ensures) in
    let text : ℕ → Text = λ count. flat_map line_text (map (run_fields s.version) (runs_from c.args.self.now.labels.now s i count)) in
    let so_far = c.loop-index.invariant in (
      runs_text s.version (runs_from c.args.self.now.labels.now s 0 (length s.firsts)),
      record {
        runs = runs_from c.args.self.now.labels.now s 0 (length s.firsts);
        are = all_runs c.args.self.now.labels.now c.laws.ensures.table s c.laws-2.ensures.every c.requires c.args.self.now.runs.now.joined;
        is = refl;
      },
      (
        sym (append-nil old) ∙ sym (ap (λ (n : ℕ). old ++ text n) none) ∙ so_far.0,
        so_far.1,
        so_far.2,
      ),
    )
