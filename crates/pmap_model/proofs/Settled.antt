-- A settled block has one label at all its addresses, and a block of one address is settled.
use Rattle.std.specs.Option.{option_map_or}
use Rattle.std.proofs.Common.{◌≡◌, ℕ, ◌<◌, ◌≤◌, Bool, true, false, cond, ◌&&◌, List, Option, Some, None, arith, nat_le, sym, refl, ◌∙◌, subst, inl, inr, eq-or-lt_of_le}
use Rattle.std.proofs.lemmas.Bool.{both_ways}
use Rattle.std.proofs.lemmas.Bool.Decides.{nat_tests}
use Rattle.std.proofs.lemmas.Option.{cond_some, same_Some}
use Rattle.prefix_keys.specs.Block.{block_number, first_of, last_of, width_of}
use Rattle.pmap_model.specs.MapModel.{IsSettled, Label, MapModel, Mapping, last_such, map_label, meets, settled_by, settled_label, spans, spans_all}
use Rattle.pmap_model.proofs.Blocks.{address-first, address-last, first_of-full, last_of-full}
use Rattle.pmap_model.proofs.LastSuch.{last_such-none, last_such-passes, last_such-some}

-- a span that covers an address of a block meets the block, and one that covers the block covers the address
pub spans-meets : (W n q a : ℕ) → block_number W n a ≡ q → (m : Mapping) → spans a m ≡ true → meets W n q m ≡ true
spans-meets W n q a e m h = in_order m.low a m.high (first_of W n q) (last_of W n q) (address-first W n q a e) (address-last W n q a e) h
  where
    in_order : (low a high first last : ℕ) → first ≤ a → a ≤ last → (nat_le low a && nat_le a high) ≡ true →
        (nat_le low last && nat_le first high) ≡ true
    in_order low a high first last le le' h = grind (arith, nat_tests)

pub spans_all-spans : (W n q a : ℕ) → block_number W n a ≡ q → (m : Mapping) → spans_all W n q m ≡ true → spans a m ≡ true
spans_all-spans W n q a e m h = in_order m.low a m.high (first_of W n q) (last_of W n q) (address-first W n q a e) (address-last W n q a e) h
  where
    in_order : (low a high first last : ℕ) → first ≤ a → a ≤ last → (nat_le low first && nat_le last high) ≡ true →
        (nat_le low a && nat_le a high) ≡ true
    in_order low a high first last le le' h = grind (arith, nat_tests)

-- a settled block has its label at each of its addresses
map_label-settled_by : (W n q a : ℕ) (x fallback : Label) (ms : List Mapping) (o : Option Mapping) →
    block_number W n a ≡ q → last_such (meets W n q) ms ≡ o → settled_by W n q fallback o ≡ Some x →
    option_map_or (λ (p : Mapping). p.label) (last_such (spans a) ms) fallback ≡ x
map_label-settled_by W n q a x fallback ms None e last h =
    let none : last_such (spans a) ms ≡ None = last_such-none (meets W n q) (spans a) (spans-meets W n q a e) ms last in
    rw none (same_Some fallback x h)
map_label-settled_by W n q a x fallback ms (Some s) e last h =
    let parts = cond_some (spans_all W n q s) s.label x h in
    let some : last_such (spans a) ms ≡ Some s =
    last_such-some (meets W n q) (spans a) (spans-meets W n q a e) ms s last (spans_all-spans W n q a e s parts.0) in
    rw some parts.1

pub map_label-settled : (m : MapModel) (n q a : ℕ) (x : Label) → block_number (width_of m.version) n a ≡ q →
    IsSettled m n q x → map_label m a ≡ x
map_label-settled m n q a x e h =
    map_label-settled_by (width_of m.version) n q a x m.fallback m.mappings
    (last_such (meets (width_of m.version) n q) m.mappings) e refl h

-- a block of one address is settled
pub unsettled-one : (W q : ℕ) (fallback : Label) (ms : List Mapping) (o : Option Mapping) →
    last_such (meets W W q) ms ≡ o → settled_by W W q fallback o ≡ None → ⊥
unsettled-one W q fallback ms None last h = cc
unsettled-one W q fallback ms (Some s) last h =
    let met : meets W W q s ≡ true = last_such-passes (meets W W q) ms s last in
    one_address W q s (spans_all W W q s) refl met h
  where
    one_address : (W q : ℕ) (s : Mapping) (b : Bool) → spans_all W W q s ≡ b → meets W W q s ≡ true →
        (cond b (Some s.label) None) ≡ None → ⊥
    one_address W q s true all met h = cc
    one_address W q s false all met h =
        both_ways (spans_all W W q s) all
        (subst (λ (i : ℕ). (nat_le s.low i && nat_le (last_of W W q) s.high) ≡ true) (last_of-full W q ∙ sym (first_of-full W q))
        (subst (λ (i : ℕ). (nat_le s.low (last_of W W q) && nat_le i s.high) ≡ true) (first_of-full W q ∙ sym (last_of-full W q)) met))

-- so a block that isn't settled has halves
pub unsettled-halves : (m : MapModel) (n q : ℕ) → n ≤ width_of m.version → settled_label m n q ≡ None → n < width_of m.version
unsettled-halves m n q le h = elim (eq-or-lt_of_le le) [ inl e ↦ absurd (at_full (sym e)) | inr lt ↦ lt ]
  where
    at_full : width_of m.version ≡ n → ⊥
    at_full e =
        unsettled-one (width_of m.version) q m.fallback m.mappings
        (last_such (meets (width_of m.version) (width_of m.version) q) m.mappings) refl
        (subst (λ (i : ℕ). settled_label m i q ≡ None) (sym e) h)
