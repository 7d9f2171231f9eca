use Rattle.std.proofs.Common.{◌≡◌, ℕ, ◌+◌, ◌<◌, ◌++◌, ◌∙◌, Bool, List, [], ◌∷◌, ap, arith, is_lt, length, map, nat_cmp, rules, subst, sym, true}
use Rattle.std.proofs.lemmas.Bool.{eqb-true}
use Rattle.std.proofs.lemmas.Fn.{always_returns_same}
use Rattle.std.proofs.lemmas.Grind.{common_steps}
use Rattle.std.proofs.lemmas.List.{append-nil, get_or-map, length-map, nil_from_length}
use Rattle.std.proofs.lemmas.List.Sorted.{IsNonDecreasingBy-from_all_adjacent}
use Rattle.std.specs.List.{AllAdjacentBelow, IsAllAdjacentAnswer}
use Rattle.std.specs.List.Sorted.{IsNonDecreasingBy}
use Rattle.pmap_model.specs.ListEntries.{rank_of}
use Rattle.pmap_model.specs.Packed.{narrow_entry}
use Rattle.pmap_model.specs.declared.entry.Entry.{Entry}
use Rattle.pmap_model.proofs.Distinct.{distinct_ascending}
use Rattle.pmap_model.proofs.entries.PackedList+Entry.are_in_order.Goals as goal

abbrev precedes : Entry → Entry → Bool
precedes d e = is_lt (nat_cmp (rank_of d.block) (rank_of e.block))

less : (m n : ℕ) → true ≡ is_lt (nat_cmp m n) → m < n
less m n h = grind (arith, common_steps)

abbrev Ascend : List Entry → Type 0
Ascend es = AllAdjacentBelow (λ d e. rank_of d.block < rank_of e.block) es (length es)

ranked : (es : List Entry) → Ascend es → IsNonDecreasingBy (λ e. rank_of e.block) es
ranked es up = IsNonDecreasingBy-from_all_adjacent (λ e. rank_of e.block) es (λ k d within. omega (arith, up k d within))

-- packed entries that ascend do so unpacked
unpacked : {P : Type 0} (unpack : P → Entry) (ps : List P) → AllAdjacentBelow (λ p q. true ≡ precedes (unpack p) (unpack q)) ps (length ps)
    → Ascend (map unpack ps)
unpacked unpack [] h k d within = omega (arith, within)
unpacked unpack (p ∷ ps) h k d within =
    let inside : k + 1 < length (p ∷ ps) = omega (arith, within, length-map (p ∷ ps) unpack) in
    rw (get_or-map unpack (p ∷ ps) k p d (omega (arith, inside)), get_or-map unpack (p ∷ ps) (k + 1) p d inside)
    (less _ _ (h k p inside))

narrow : (c : goal.After-is_sorted_by) → c.is_sorted_by.result ≡ true → Ascend c.args.self.now
narrow c t =
    let entries = c.self.inside in
    let narrow_part = map narrow_entry entries.narrow.items in
    let answer =
    c.is_sorted_by.ensures.cases (λ m n. precedes (narrow_entry m) (narrow_entry n)) (always_returns_same _ _ _ (λ a r q k. search rules)) in
    let none = nil_from_length entries.wide.items (sym entries.wide.ok.0 ∙ eqb-true entries.wide.len 0 (sym c.is_empty.ensures ∙ c.if-is_empty.true)) in
    let whole : narrow_part ++ map (λ e. e) entries.wide.items ≡ c.args.self.now = c.self.view_is in
    subst Ascend (ap (map narrow_entry) c.deref.ensures.value ∙ sym (append-nil narrow_part) ∙ ap (λ l. narrow_part ++ map (λ e. e) l) (sym none) ∙ whole)
    (unpacked narrow_entry c.deref.result.now
    (subst (IsAllAdjacentAnswer (λ m n b. b ≡ precedes (narrow_entry m) (narrow_entry n)) c.deref.result.now) t answer))

wide : (c : goal.After-is_sorted_by-then-is_empty-2) → c.is_sorted_by-then-is_empty-2.result ≡ true → Ascend c.args.self.now
wide c t =
    let entries = c.self.inside in
    let answer = c.is_sorted_by-then-is_empty-2.ensures.cases precedes (always_returns_same _ _ _ (λ a r q k. search rules)) in
    let none = nil_from_length entries.narrow.items (sym entries.narrow.ok.0 ∙ eqb-true entries.narrow.len 0 (sym c.is_empty-else-is_empty.ensures ∙ c.if-is_empty-2.true)) in
    let whole : map narrow_entry entries.narrow.items ++ map (λ e. e) entries.wide.items ≡ c.args.self.now = c.self.view_is in
    subst Ascend (ap (map (λ e. e)) c.deref-then-is_empty-2.ensures.value ∙ ap (λ l. map narrow_entry l ++ map (λ e. e) entries.wide.items) (sym none) ∙ whole)
    (unpacked (λ e. e) c.deref-then-is_empty-2.result.now
    (subst (IsAllAdjacentAnswer (λ d e b. b ≡ precedes d e) c.deref-then-is_empty-2.result.now) t answer))

pub returns-then-is_empty-clause-ascending : goal.returns-then-is_empty-clause-ascending
returns-then-is_empty-clause-ascending c = λ t. ranked c.args.self.now (narrow c t)

pub returns-then-is_empty-clause-distinct : goal.returns-then-is_empty-clause-distinct
returns-then-is_empty-clause-distinct c = λ t. distinct_ascending c.args.self.now (narrow c t)

pub returns-then-is_empty-2-clause-ascending : goal.returns-then-is_empty-2-clause-ascending
returns-then-is_empty-2-clause-ascending c = λ t. ranked c.args.self.now (wide c t)

pub returns-then-is_empty-2-clause-distinct : goal.returns-then-is_empty-2-clause-distinct
returns-then-is_empty-2-clause-distinct c = λ t. distinct_ascending c.args.self.now (wide c t)
