-- The open statements, as the stretches grow.
use Rattle.std.proofs.Common.{◌≡◌, ◌∙◌, ℕ, ◌+◌, ◌-◌, ◌^◌, ◌<◌, ◌≤◌, inl, inr, List, Option, Some, Contains, length, max, slice_get, sym, ap, subst, arith}
use Rattle.std.specs.Option.{ForSome}
use Rattle.std.proofs.lemmas.Bool.{cases_lt}
use Rattle.std.proofs.lemmas.Option.{same_Some, slice_get_within}
use Rattle.pmap_model.specs.declared.label.LabelId.{LabelId}
use Rattle.pmap_model.specs.declared.statement.Statement.{Statement}
use Rattle.pmap_stretches.specs.Stretches.{label_seen}
use Rattle.pmap_stretches.specs.Sweep.{AreOpen, AreStretchesTo, BeginAfter, Continues, HasOneMore, HaveNumbers, IsGreatest, IsWinner, statement_won}
use Rattle.pmap_stretches.specs.Starting.{IsOrder, Start, number_at}
use Rattle.pmap_stretches.specs.declared.stretches.ascent.Ascent.{Ascent}
use Rattle.pmap_stretches.specs.declared.stretches.growing.Growing.{Growing}
use Rattle.pmap_stretches.proofs.Winners.{known_won}

-- if a statement begins after an address, so do all later ones
pub begin_later : {ss : List Statement} {starts : List Start} {e : Statement} (next last : ℕ) → IsOrder ss starts → slice_get ss (number_at starts next) ≡ Some e
    → last < e.span.low.value → BeginAfter ss starts next last
begin_later {e = e} next last order listed less i s le below is = omega (arith, order.ascending next i e s le below listed is, less)

-- the number of the label of the statement that wins, or of the default, is below the one that is stored for no label
pub label_known : {ss : List Statement} {default label : Option LabelId} (won : Option ℕ) → HaveNumbers ss default → label ≡ label_seen default (statement_won ss won)
    → ForSome label (λ id. id.0 < 2 ^ 32 - 1)
label_known {ss = ss} {default = default} {label = label} won known = known_won (2 ^ 32 - 1) ss default won label known.labels known.fallback

module _ {ss : List Statement} {starts : List Start} {next first : ℕ} {opened : List ℕ} (are : AreOpen ss starts next first opened) where
  -- the greatest open statement wins up to its end, if no other begins before
  pub top_wins : {top : Option ℕ} (last : ℕ) → IsOrder ss starts → IsGreatest opened top → BeginAfter ss starts next last
      → ForSome (statement_won ss top) (λ s. last ≤ s.span.high.value) → (a : ℕ) → first ≤ a → a ≤ last → IsWinner ss a top
  top_wins last order greatest later reaches a from to = record {
    covers = λ j is.
        let begun = are.begun j (greatest.listed j is) in
        record { statement = begun.0; listed = begun.1; low = omega (arith, begun.2, from); high = omega (arith, reaches begun.0 (ap (statement_won ss) is ∙ begun.1), to) };
    most = λ j covers.
        let place = order.every j (slice_get_within ss j covers.statement covers.listed) in
        let here = ap (slice_get ss) place.2 ∙ covers.listed in
        elim (cases_lt place.0 next) [
          | inl early ↦ greatest.most j (subst (Contains opened) place.2
              (are.every place.0 covers.statement early here (omega (arith, covers.high, from))))
          | inr late ↦ absurd (omega (arith, later place.0 covers.statement late place.1 here, covers.low, to))
        ];
  }

  pub top_known : {top : Option ℕ} → IsGreatest opened top → ForSome top (λ j. j < length ss)
  top_known greatest j is = let begun = are.begun j (greatest.listed j is) in slice_get_within ss j begun.0 begun.1

  -- they may still cover addresses further on
  pub open_on : {first' : ℕ} → first ≤ first' → AreOpen ss starts next first' opened
  open_on le = record {
    begun = λ j has. let begun = are.begun j has in (begun.0, begun.1, omega (arith, begun.2, le));
    every = λ i s less listed high. are.every i s less listed (omega (arith, high, le));
  }

  -- one that ends before the address is closed
  pub open_closed : {opened' : List ℕ} {top : ℕ} (t : Statement) → HasOneMore opened' top opened → slice_get ss top ≡ Some t → t.span.high.value < first
      → AreOpen ss starts next first opened'
  open_closed t one listed ends = record {
    begun = λ j has. are.begun j (one.has_fewer j has);
    every = λ i s less at high. elim (one.more_than (number_at starts i) (are.every i s less at high)) [
      | inl same ↦
          let end = ap (λ (r : Statement). r.span.high.value) (same_Some t s (sym listed ∙ ap (slice_get ss) (sym same) ∙ at)) in
          absurd (omega (arith, end, ends, high))
      | inr has ↦ has
    ];
  }

  -- the next one begins at the address
  pub open_pushed : {opened' : List ℕ} (e : Statement) → HasOneMore opened (number_at starts next) opened'
      → slice_get ss (number_at starts next) ≡ Some e → e.span.low.value ≤ first → AreOpen ss starts (next + 1) first opened'
  open_pushed {opened' = opened'} e one listed begins = record {
    begun = λ j has. elim (one.more_than j has) [
      | inl same ↦ (e, ap (slice_get ss) same ∙ listed, begins)
      | inr before ↦ are.begun j before
    ];
    every = λ i s less at high. elim (cases_lt i next) [
      | inl early ↦ one.has_fewer (number_at starts i) (are.every i s early at high)
      | inr late ↦ subst (λ (k : ℕ). Contains opened' (number_at starts k)) (let same : next ≡ i = omega (arith, less, late) in same) one.has_number
    ];
  }

-- the stretches were extended to an address up to which the greatest open statement wins
pub extended : {ss : List Statement} {old self : Ascent} {growing : Growing} {opened : List ℕ} {top : Option ℕ} (last : ℕ) → Continues ss old self
    → IsGreatest self.opened top → BeginAfter ss old.starts old.next last → ForSome (statement_won ss top) (λ s. last ≤ s.span.high.value)
    → (AreStretchesTo ss self.default self.growing → ((a : ℕ) → self.growing.last + 1 ≤ a → a ≤ last → IsWinner ss a top) → AreStretchesTo ss self.default growing)
    → growing.last ≡ max self.growing.last last → growing.stretches.version ≡ self.growing.stretches.version → growing.joined ≡ self.growing.joined
    → (AreOpen ss self.starts self.next (growing.last + 1) self.opened → AreOpen ss self.starts self.next (growing.last + 1) opened)
    → Continues ss old (record self { growing = growing; opened = opened })
extended {ss = ss} {self = self} last before greatest later reaches are last_is version joined opens =
    let ascent = before.ascent in
    let later' : BeginAfter ss self.starts self.next last = rw (before.starts, before.next) later in
    record {
      ascent = record {
        are = are ascent.are (top_wins ascent.opened last ascent.order greatest later' reaches);
        order = ascent.order;
        opened = opens (open_on ascent.opened (omega (arith, last_is)));
      };
      version = version ∙ before.version;
      joined = joined ∙ before.joined;
      default = before.default;
      starts = before.starts;
      next = before.next;
    }
