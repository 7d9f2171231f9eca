-- The statement that is seen at an address and at a block.
use Rattle.std.proofs.Common.{◌≡◌, ℕ, zero, suc, ◌<◌, ◌≤◌, Bool, true, false, cond, List, [], ◌∷◌, Option, Some, None, Contains, slice_get, refl, sym, ap, ◌∙◌, subst, arith}
use Rattle.std.specs.Option.{option_or}
use Rattle.std.proofs.lemmas.Option.{same_Some}
use Rattle.pmap_model.specs.MapModel.{Mapping, last_such, spans}
use Rattle.pmap_model.specs.MapText.{mapping_of, mappings_of}
use Rattle.pmap_model.specs.declared.statement.Statement.{Statement}
use Rattle.pmap_model.proofs.Finds.{Contains-first, Contains-later}
use Rattle.pmap_stretches.proofs.Orders.{both_le, le_both}

-- the last mapping that passes a test passes it, and is one of the mappings
such-step : (p : Mapping → Bool) (x : Mapping) (xs : List Mapping) (m : Mapping) → (last_such p xs ≡ Some m → Contains xs m × (p m ≡ true))
    → (o : Option Mapping) → last_such p xs ≡ o → (b : Bool) → p x ≡ b → option_or o (cond b (Some x) None) ≡ Some m
    → Contains (x ∷ xs) m × (p m ≡ true)
such-step p x xs m rest (Some r) is b test e =
    let found = rest (is ∙ e) in (Contains-later x xs m found.0, found.1)
such-step p x xs m rest None is true test e =
    let same = same_Some x m e in
    (subst (λ (r : Mapping). Contains (x ∷ xs) r) same (Contains-first x xs), subst (λ (r : Mapping). p r ≡ true) same test)
such-step p x xs m rest None is false test e = absurd (let h : None ≡ Some m = e in cc)

pub last_such-is : (p : Mapping → Bool) (ms : List Mapping) (m : Mapping) → last_such p ms ≡ Some m → Contains ms m × (p m ≡ true)
last_such-is p [] m e = absurd (let h : None ≡ Some m = e in cc)
last_such-is p (x ∷ xs) m e = such-step p x xs m (last_such-is p xs m) (last_such p xs) refl (p x) refl e

-- the statement that wins at an address, as a mapping to a text of a label table
abbrev pub seen_at : List (List ℕ) → List Statement → ℕ → Option Mapping
seen_at table ss a = last_such (spans a) (mappings_of table ss)

-- nothing is seen if nothing covers the address
pub none_at : (table : List (List ℕ)) (ss : List Statement) (a : ℕ)
    → ((i : ℕ) (r : Statement) → slice_get ss i ≡ Some r → r.span.low.value ≤ a → a ≤ r.span.high.value → ⊥) → seen_at table ss a ≡ None
none_at table [] a none = refl
none_at table (s ∷ ss) a none =
    let rest = none_at table ss a (λ i r listed low high. none (suc i) r listed low high) in
    step (spans a (mapping_of table s)) refl rest
  where
    step : (b : Bool) → spans a (mapping_of table s) ≡ b → seen_at table ss a ≡ None
        → option_or (seen_at table ss a) (cond b (Some (mapping_of table s)) None) ≡ None
    step true is rest =
        let ends = both_le s.span.low.value a a s.span.high.value is in
        absurd (none 0 s refl ends.0 ends.1)
    step false is rest = rw rest

-- a statement that covers the address is seen if none after it does
pub seen_last : (table : List (List ℕ)) (ss : List Statement) (a j : ℕ) (s : Statement) → slice_get ss j ≡ Some s → s.span.low.value ≤ a
    → a ≤ s.span.high.value
    → ((i : ℕ) (r : Statement) → slice_get ss i ≡ Some r → j < i → r.span.low.value ≤ a → a ≤ r.span.high.value → ⊥)
    → seen_at table ss a ≡ Some (mapping_of table s)
seen_last table [] a j s listed low high none = absurd (let h : None ≡ Some s = listed in cc)
seen_last table (x ∷ xs) a zero s listed low high none =
    let same = same_Some x s listed in
    let rest = none_at table xs a (λ i r at from to. none (suc i) r at (omega arith) from to) in
    let covers : spans a (mapping_of table x) ≡ true = subst (λ (r : Statement). spans a (mapping_of table r) ≡ true) (sym same) (le_both s.span.low.value a a s.span.high.value low high) in
    rw (rest, covers) (ap (λ (r : Statement). Some (mapping_of table r)) same)
seen_last table (x ∷ xs) a (suc j) s listed low high none =
    rw (seen_last table xs a j s listed low high (λ i r at later from to. none (suc i) r at (omega (arith, later)) from to))
