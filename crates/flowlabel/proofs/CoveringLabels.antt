-- The label of an address by the statements or the entries that cover it.
use Rattle.std.proofs.Common.{◌≡◌, ◌<◌, ◌≤◌, ◌&&◌, ◌++◌, ℕ, All, Bool, true, false, cond, if◌then◌else◌, List, [], ◌∷◌, Option, Some, None, filter, map, refl, sym, ap, ◌∙◌}
use Rattle.std.specs.Prelude.{MatchOption, nat_le, nat_lt, option_map, slice_get, slice_index_or}
use Rattle.std.specs.List.{last_or}
use Rattle.std.specs.Option.{option_map_or, option_or}
use Rattle.std.proofs.lemmas.Bool.{and_from, and_parts, le-leb, leb-true, lt-ltb, le-ltb}
use Rattle.std.proofs.lemmas.List.Elements.{All-filter, All-head, All-tail, filter_passes}
use Rattle.std.proofs.lemmas.List.Sorted.{All-permutation}
use Rattle.pmap_model.specs.ListModel.{CoversAddress, IsLongestMatch, ListModel, Prefix, covers, list_label}
use Rattle.pmap_model.specs.MapModel.{Label, MapModel, Mapping, last_such, spans}
use Rattle.pmap_model.specs.Sorting.{in_order, with_in_order}
use Rattle.pmap_model.proofs.Sorting.{same-in_order}
use Rattle.pmap_model.proofs.ListLabels.{covers-from, covers-true, longest-match}
use Rattle.prefix_keys.specs.Block.{width_of}
use Rattle.std.proofs.Math.Path.{fun_ext}
use Rattle.label_lookup.specs.Labelling.{labelling, labelling_of_list, labelling_of_map}

-- Statements

last-such : (t : Mapping → Bool) (ms : List Mapping) (x : Label)
    → Some (option_map_or (λ m. m.label) (last_such t ms) x) ≡ last_or (Some x) (map (λ m. m.label) (filter t ms))
last-such t [] x = refl
last-such t (m ∷ ms) x = by (t m) (last_such t ms) (last-such t ms x) (last-such t ms m.label)
  where
    rest : List Label
    rest = map (λ m. m.label) (filter t ms)

    by : (b : Bool) (last : Option Mapping) → Some (option_map_or (λ m. m.label) last x) ≡ last_or (Some x) rest
        → Some (option_map_or (λ m. m.label) last m.label) ≡ last_or (Some m.label) rest
        → Some (option_map_or (λ m. m.label) (option_or last (if b then Some m else None)) x)
        ≡ last_or (Some x) (map (λ m. m.label) (cond b (m ∷ filter t ms) (filter t ms)))
    by true None other here = here
    by true (Some y) other here = here
    by false None other here = other
    by false (Some y) other here = other

-- Entries

abbrev longer : Prefix → Prefix → Bool
longer p q = nat_lt q.bits p.bits

module _ (t : Prefix → Bool) where
  -- the first of the entries that pass, longest first
  abbrev best : List Prefix → Option Prefix
  best ps = slice_get (in_order longer (filter t ps)) 0

  abbrev better : Option Prefix → Prefix → Prefix
  better None x = x
  better (Some y) x = if longer y x then y else x

  first-with : (x : Prefix) (ys : List Prefix) → slice_get (with_in_order longer x ys) 0 ≡ Some (better (slice_get ys 0) x)
  first-with x [] = refl
  first-with x (y ∷ ys) = by (longer y x)
    where
      by : (b : Bool) → slice_get (if b then y ∷ with_in_order longer x ys else x ∷ y ∷ ys) 0 ≡ Some (if b then y else x)
      by true = refl
      by false = refl

  best-more : (x : Prefix) (ps : List Prefix) (b : Bool) → t x ≡ b → best (x ∷ ps) ≡ cond b (Some (better (best ps) x)) (best ps)
  best-more x ps true e = ap (λ b. slice_get (in_order longer (cond b (x ∷ filter t ps) (filter t ps))) 0) e ∙ first-with x (in_order longer (filter t ps))
  best-more x ps false e = ap (λ b. slice_get (in_order longer (cond b (x ∷ filter t ps) (filter t ps))) 0) e

  passing : (P : Prefix → Type 0) (ps : List Prefix) → All (λ r. t r ≡ true → P r) ps → All P (in_order longer (filter t ps))
  passing P ps all =
      All-permutation P (filter t ps) (in_order longer (filter t ps)) (same-in_order longer (filter t ps))
      (λ k d below. All-filter t (λ r. t r ≡ true → P r) ps all k d below (filter_passes t ps k d below))

  none-best : (ps : List Prefix) → All (λ p. t p ≡ true → ⊥) ps → best ps ≡ None
  none-best ps none = by (in_order longer (filter t ps)) (passing (λ _. ⊥) ps none)
    where
      by : (sorted : List Prefix) → All (λ _. ⊥) sorted → slice_get sorted 0 ≡ None
      by [] all = refl
      by (y ∷ ys) all = absurd (All-head (λ _. ⊥) y ys all)

  -- no entry after this one is longer
  best-first : (p : Prefix) (ps : List Prefix) → All (λ r. t r ≡ true → r.bits ≤ p.bits) ps → better (best ps) p ≡ p
  best-first p ps later = by (in_order longer (filter t ps)) (passing (λ r. r.bits ≤ p.bits) ps later)
    where
      by : (sorted : List Prefix) → All (λ r. r.bits ≤ p.bits) sorted → better (slice_get sorted 0) p ≡ p
      by [] all = refl
      by (y ∷ ys) all = ap (λ b. if b then y else p) (le-ltb p.bits y.bits (All-head (λ r. r.bits ≤ p.bits) y ys all))

  best-is : (before : List Prefix) (p : Prefix) (following : List Prefix) → t p ≡ true → All (λ r. t r ≡ true → r.bits < p.bits) before
      → All (λ r. t r ≡ true → r.bits ≤ p.bits) following → best (before ++ p ∷ following) ≡ Some p
  best-is [] p following is earlier later = best-more p following true is ∙ ap Some (best-first p following later)
  best-is (x ∷ before) p following is earlier later =
      by (t x) refl (best-is before p following is (All-tail (λ r. t r ≡ true → r.bits < p.bits) x before earlier) later)
    where
      by : (b : Bool) → t x ≡ b → best (before ++ p ∷ following) ≡ Some p → best (x ∷ (before ++ p ∷ following)) ≡ Some p
      by false e ih = best-more x (before ++ p ∷ following) false e ∙ ih
      by true e ih =
          best-more x (before ++ p ∷ following) true e ∙ ap (λ o. Some (better o x)) ih
          ∙ ap (λ b. Some (if b then p else x)) (lt-ltb x.bits p.bits (All-head (λ r. t r ≡ true → r.bits < p.bits) x before earlier e))

-- whether an entry covers the address
abbrev reaches : ℕ → ℕ → Prefix → Bool
reaches W a p = nat_le p.bits W && covers W p.bits a p

reaches-true : (W a : ℕ) (p : Prefix) → reaches W a p ≡ true → CoversAddress W a p
reaches-true W a p e =
    let parts = and_parts (nat_le p.bits W) (covers W p.bits a p) e in (covers-true W p.bits a p (leb-true p.bits W parts.0) parts.1).1

longest-entry : (W a : ℕ) (ps : List Prefix) (x : Option Label)
    → MatchOption x (All (λ p. CoversAddress W a p → ⊥) ps) (λ t. (p : Prefix) × IsLongestMatch W ps a p × (p.label ≡ t))
    → x ≡ option_map (λ p. p.label) (slice_get (in_order longer (filter (reaches W a) ps)) 0)
longest-entry W a ps None none =
    sym (ap (option_map (λ (p : Prefix). p.label)) (none-best (reaches W a) ps (λ k d below e. none k d below (reaches-true W a (slice_index_or ps k d) e))))
longest-entry W a ps (Some t) (p, longest, is) =
    ap Some (sym is)
    ∙ sym (ap (option_map (λ (p : Prefix). p.label)) (ap (best (reaches W a)) longest.list
    ∙ best-is (reaches W a) longest.before p longest.following
    (and_from (nat_le p.bits W) (covers W p.bits a p) (le-leb p.bits W longest.covers.fits) (covers-from W p.bits a p longest.covers refl))
    (λ k d below e. longest.earlier k d below (reaches-true W a (slice_index_or longest.before k d) e))
    (λ k d below e. longest.later k d below (reaches-true W a (slice_index_or longest.following k d) e))))

-- Labellings

pub labelling-of_map : (m : MapModel) → labelling_of_map m ≡ labelling m.version (λ a. last_or (Some m.fallback) (map (λ p. p.label) (filter (spans a) m.mappings)))
labelling-of_map m = ap (labelling m.version) (fun_ext (λ a. last-such (spans a) m.mappings m.fallback))

pub labelling-of_list : (l : ListModel) → labelling_of_list l ≡ labelling l.version (λ a. option_map (λ p. p.label)
    (slice_get (in_order longer (filter (reaches (width_of l.version) a) l.prefixes)) 0))
labelling-of_list l =
    ap (labelling l.version) (fun_ext (λ a. longest-entry (width_of l.version) a l.prefixes (list_label l a) (longest-match (width_of l.version) l.prefixes a)))
