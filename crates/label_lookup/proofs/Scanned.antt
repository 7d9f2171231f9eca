-- The search through a map's statements, from the last one backwards.
use Rattle.std.specs.Option.{option_map_or}
use Rattle.std.proofs.Common.{◌≡◌, ℕ, ◌+◌, ◌<◌, ◌≤◌, ◌++◌, ◌∷◌, ◌&&◌, [], Bool, true, false, cond, List, Option, Some, arith, Contains, length, sym, refl, ap, ◌∙◌, slice_get, get_or, IsTrue}
use Rattle.std.specs.Prelude.{◌↔◌, map, nat_le, take}
use Rattle.std.proofs.lemmas.Bool.Decides.{nat_tests}
use Rattle.std.proofs.lemmas.List.{map-append, take_more}
use Rattle.std.proofs.lemmas.List.Elements.{All-contains}
use Rattle.prefix_keys.specs.Covers.{SpanCovers}
use Rattle.prefix_keys.specs.declared.addr.Addr.{Addr}
use Rattle.pmap_model.proofs.LastSuch.{last_such-push}
use Rattle.pmap_model.specs.MapModel.{Label, Mapping, last_such, map_label, spans}
use Rattle.pmap_model.specs.MapText.{map_of, mapping_of}
use Rattle.pmap_model.specs.declared.map_text.MapText.{MapText}
use Rattle.pmap_model.specs.declared.statement.Statement.{Statement}
use Rattle.pmap_stretches.proofs.Orders.{known_text, le_both}

-- the last of a map's first statements that covers an address, as a mapping
abbrev pub last_of_first : MapText → ℕ → ℕ → Option Mapping
last_of_first m a count = last_such (spans a) (map (mapping_of m.labels) (take count m.statements))

-- The last of the map's statements that covers the address is among the first `left`, if there is one.
pub record IsLeft (m : MapText) (a left : ℕ) : Type 0 where
  pub few : left ≤ length m.statements
  pub same : last_of_first m a left ≡ last_such (spans a) (map_of m).mappings

-- a number that passes the test of a span is between the span's low address and its high one
spans-within : (low a high : ℕ) → (nat_le low a && nat_le a high) ≡ true → (low ≤ a) × (a ≤ high)
spans-within low a high h = grind (arith, nat_tests)

-- the test whether a statement's span covers an address of its version
tested : (table : List Label) (s : Statement) (addr : Addr) → s.span.low.version ≡ addr.version → (r : Bool) →
    (IsTrue r ↔ SpanCovers s.span addr) → (b : Bool) → spans addr.value (mapping_of table s) ≡ b → b ≡ r
tested table s addr same true h true e = refl
tested table s addr same false h false e = refl
tested table s addr same true h false e =
    let both = (h.0 refl).1 in
    sym e ∙ le_both s.span.low.value addr.value addr.value s.span.high.value both.0 both.1
tested table s addr same false h true e =
    sym (h.1 (same, spans-within s.span.low.value addr.value s.span.high.value e))

module _ (m : MapText) (a i left : ℕ) (next : i + 1 ≡ left) (kept : IsLeft m a left) (s : Statement)
    (is : s ≡ get_or m.statements i s) where
  within : Contains m.statements s
  within = (i, omega (arith, next, kept.few), sym is)

  one_less : cond (spans a (mapping_of m.labels s)) (Some (mapping_of m.labels s)) (last_of_first m a i)
      ≡ last_such (spans a) (map_of m).mappings
  one_less =
      let f = mapping_of m.labels in
      let ss = m.statements in
      let taken : take left ss ≡ take i ss ++ s ∷ [] =
      ap (λ n. take n ss) (sym next) ∙ take_more ss i s (omega (arith, next, kept.few)) ∙ ap (λ (x : Statement). take i ss ++ x ∷ []) (sym is) in
      sym (ap (λ l. last_such (spans a) (map f l)) taken
      ∙ ap (last_such (spans a)) (map-append f (take i ss) (s ∷ []))
      ∙ last_such-push (spans a) (map f (take i ss)) (f s))
      ∙ kept.same

  -- the test whether the statement covers the address
  pub covering : (addr : Addr) → addr.value ≡ a → addr.version ≡ m.version → (r : Bool) → (IsTrue r ↔ SpanCovers s.span addr) →
      spans a (mapping_of m.labels s) ≡ r
  covering addr at version r h =
      let own = All-contains (λ (t : Statement). t.span.low.version ≡ m.version) m.statements s m.one_version within in
      ap (λ n. spans n (mapping_of m.labels s)) (sym at)
      ∙ tested m.labels s addr (own ∙ sym version) r h (spans addr.value (mapping_of m.labels s)) refl

  -- a statement that doesn't cover the address isn't the one that is searched for
  pub passed_over : spans a (mapping_of m.labels s) ≡ false → IsLeft m a i
  passed_over misses = record {
    few = omega (arith, next, kept.few);
    same = ap (λ b. cond b (Some (mapping_of m.labels s)) (last_of_first m a i)) (sym misses) ∙ one_less;
  }

  -- the first statement from the end that covers the address has its label
  pub found : spans a (mapping_of m.labels s) ≡ true → slice_get m.labels s.label.0 ≡ Some (map_label (map_of m) a)
  found covers =
      let last : Some (mapping_of m.labels s) ≡ last_such (spans a) (map_of m).mappings =
      ap (λ b. cond b (Some (mapping_of m.labels s)) (last_of_first m a i)) (sym covers) ∙ one_less in
      let known = All-contains (λ (r : Statement). r.label.0 < length m.labels) m.statements s m.numbers_known within in
      known_text m.labels s.label.0 known ∙ ap (λ o. Some (option_map_or (λ (p : Mapping). p.label) o (map_of m).fallback)) last

-- if no statements are left, the address has the default
pub by_default : (m : MapText) (a : ℕ) → IsLeft m a 0 → slice_get m.labels m.default.0 ≡ Some (map_label (map_of m) a)
by_default m a kept =
    known_text m.labels m.default.0 m.default_known ∙ ap (λ o. Some (option_map_or (λ (p : Mapping). p.label) o (map_of m).fallback)) kept.same
