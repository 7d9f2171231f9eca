use Rattle.std.proofs.Common.{◌≡◌, ◌∙◌, ℕ, ◌-◌, ◌^◌, ◌<◌, Some, None, arith, length, map, subst, sym}
use Rattle.std.specs.List.Sorted.{IsNonDecreasingBy}
use Rattle.std.specs.Option.{ForSome}
use Rattle.std.proofs.lemmas.List.Elements.{All-weaker}
use Rattle.prefix_keys.specs.Block.{width_of}
use Rattle.prefix_keys.specs.declared.version.Version.{Version}
use Rattle.pmap_model.specs.ListEntries.{rank_of}
use Rattle.pmap_stretches.specs.Mappings.{statement_of}
use Rattle.pmap_model.specs.declared.label.LabelId.{LabelId}
use Rattle.pmap_stretches.proofs.EntryStatements.{lows_ascend, shortest_first}
use Rattle.pmap_stretches.proofs.ListPainted.{statements_of}
use Rattle.pmap_stretches.proofs.StartLists.{given_order}
use Rattle.pmap_stretches.proofs.Stretched.{won_known, won_text}
use Rattle.pmap_stretches.proofs.stretches.Stretches.swept_of_list.Goals as goal

no_default : (count : ℕ) → ForSome None (λ (id : LabelId). id.0 < count)
no_default count id is = absurd (let h : None ≡ Some id = is in cc)

pub of_mappings-requires-clause-known : goal.of_mappings-requires-clause-known
of_mappings-requires-clause-known c =
    let ss = map statement_of c.sorted_or-entries.result.now in
    let order = shortest_first c.args.list.now.entries _ _ c.sorted_or-entries.ensures c.in_ok-sorted.ensures.same c.in_ok-sorted.ensures.ascending in
    record {
      labels = All-weaker (λ s. s.label.0 < length c.args.list.now.labels) (λ s. s.label.0 < 2 ^ 32 - 1)
          (λ s less. omega (arith, less, c.laws.ensures.few)) ss (statements_of c.args.list.now ss order).known;
      fallback = no_default (2 ^ 32 - 1);
    }

pub of_mappings-requires-clause-order : goal.of_mappings-requires-clause-order
of_mappings-requires-clause-order c =
    rw c.none-starts.ensures (given_order (map statement_of c.sorted_or-entries.result.now) (lows_ascend c.sorted_or-entries.result.now
    (subst (IsNonDecreasingBy (λ e. rank_of e.block)) (sym c.sorted_or-entries.ensures) c.in_ok-sorted.ensures.ascending)))

pub returns : goal.returns
returns c =
    let l = c.args.list.now in
    let ss = map statement_of c.sorted_or-entries.result.now in
    let order = shortest_first l.entries _ _ c.sorted_or-entries.ensures c.in_ok-sorted.ensures.same c.in_ok-sorted.ensures.ascending in
    let facts = statements_of l ss order in
    let s = c.in_ok-stretches.stretches in
    let made = c.in_ok-stretches.ensures in
    record {
      version = made.version;
      stretches = (ss, order, made.stretches);
      known = won_known ss None s made.labels (length l.labels) facts.known (no_default (length l.labels));
      labels = λ a below.
          won_text ss None s made.labels l.labels facts.known (no_default (length l.labels)) a
          (subst (λ (v : Version). a < 2 ^ width_of v) (sym made.version) below) ∙ facts.labels a;
    }
