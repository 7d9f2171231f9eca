-- The lines of nodes as the code stores them.
use Rattle.std.proofs.Common.{◌≡◌, ℕ, ◌+◌, ◌-◌, ◌<◌, ◌≤◌, ◌∙◌, List, [], ◌∷◌, ◌++◌, All, length, map, reverse, take, drop, refl, sym, ap, subst, arith, length-append, length-drop}
use Rattle.std.specs.List.{slice_range}
use Rattle.std.proofs.lemmas.List.{drop-append-le, get_or_append_left, map-append, reverse-append, take-append-le}
use Rattle.std.proofs.lemmas.List.Elements.{All-cons, All-head, All-nil, All-push, All-tail}
use Rattle.pmap_model.specs.declared.label.LabelId.{LabelId}
use Rattle.pmap_cert.specs.FormatReading.{DueLine, InnerLine}
use Rattle.pmap_cert.specs.Packed.{HasSetAt, IsLine, IsMore, IsPacked, IsStored, Store, chain_at, chain_with, cost_at, count_at, joined_halves, line_in, line_with, no_chain, set_at, unpacked, Packed, Chain, Inner, Leaf, PackedChain, SideChain, Single, Unpacked}

-- a range of a list stays the same if more is appended
same-piece : {A : Type 0} (xs more : List A) (from end : ℕ) → from ≤ end → end ≤ length xs → slice_range (xs ++ more) from end ≡ slice_range xs from end
same-piece xs more from end le within =
    ap (take (end - from)) (drop-append-le from xs more (omega arith))
    ∙ take-append-le (end - from) (drop from xs) more (omega (arith, length-drop from xs))

-- a set stays the same if more is appended
module _ (sets more : List LabelId) (place : ℕ) (has : HasSetAt sets place) where
  same-count : count_at (sets ++ more) place ≡ count_at sets place
  same-count =
      let low = ap (λ (id : LabelId). id.0) (get_or_append_left sets more (record { 0 = 0 }) place (omega (arith, has))) in
      let high = ap (λ (id : LabelId). id.0) (get_or_append_left sets more (record { 0 = 0 }) (place + 1) (omega (arith, has))) in
      λ i. joined_halves (low i) (high i)

  same-set : set_at (sets ++ more) place ≡ set_at sets place
  same-set =
      ap (λ (n : ℕ). map (λ (id : LabelId). id.0) (slice_range (sets ++ more) (place + 2) (place + 2 + n))) same-count
      ∙ ap (map (λ (id : LabelId). id.0)) (same-piece sets more (place + 2) (place + 2 + count_at sets place) (omega arith) has)

  still-set : HasSetAt (sets ++ more) place
  still-set = let count = same-count in omega (arith, has, count, length-append sets more)

-- a line stays the same if more is appended to the store
module _ (s s' : Store) (m : IsMore s s') where
  same-set_at : (place : ℕ) → HasSetAt s.sets place → set_at s'.sets place ≡ set_at s.sets place
  same-set_at place has = ap (λ (sets : List LabelId). set_at sets place) m.sets.1 ∙ same-set s.sets m.sets.0 place has

  still-set_at : (place : ℕ) → HasSetAt s.sets place → HasSetAt s'.sets place
  still-set_at place has = subst (λ (sets : List LabelId). HasSetAt sets place) (sym m.sets.1) (still-set s.sets m.sets.0 place has)

  same-chain_at : (n : ℕ) → n < length s.chains → chain_at s'.chains n ≡ chain_at s.chains n
  same-chain_at n inside =
      ap (λ (cs : List PackedChain). chain_at cs n) m.chains.1 ∙ get_or_append_left s.chains m.chains.0 no_chain n inside

  still-inside : (n : ℕ) → n < length s.chains → n < length s'.chains
  still-inside n inside = let more = ap length m.chains.1 ∙ length-append s.chains m.chains.0 in omega arith

  same-cost_at : (place : ℕ) → HasSetAt s.sets (place + 1) → cost_at s'.sets place ≡ cost_at s.sets place
  same-cost_at place has =
      ap (λ (sets : List LabelId). cost_at sets place) m.sets.1
      ∙ ap (λ (id : LabelId). id.0) (get_or_append_left s.sets m.sets.0 (record { 0 = 0 }) place (omega (arith, has)))

  still-stored : (u : Unpacked) → IsStored s u → IsStored s' u
  still-stored (Leaf id) stored = tt
  still-stored (Single cost id) stored = tt
  still-stored (Inner place) stored = still-set_at (place + 1) stored
  still-stored (SideChain n) stored = still-inside n stored
  still-stored (Chain n) stored = (
    still-inside n stored.0,
    subst (λ (c : PackedChain). HasSetAt s'.sets c.set) (sym (same-chain_at n stored.0)) (still-set_at (chain_at s.chains n).set stored.1),
  )

  still-line : (u : Unpacked) → IsStored s u → line_with s' u ≡ line_with s u
  still-line (Leaf id) stored = refl
  still-line (Single cost id) stored = refl
  still-line (Inner place) stored =
      λ i. InnerLine (same-cost_at place stored i) (same-set_at (place + 1) stored i)
  still-line (SideChain n) stored = ap (λ (c : PackedChain). chain_with (c.side.0 ∷ []) c) (same-chain_at n stored)
  still-line (Chain n) stored =
      ap (λ (c : PackedChain). chain_with (set_at s'.sets c.set) c) (same-chain_at n stored.0)
      ∙ ap (λ (ns : List ℕ). chain_with ns (chain_at s.chains n)) (same-set_at (chain_at s.chains n).set stored.1)

  pub same-line : (p : Packed) (line : DueLine) → IsLine s p line → IsLine s' p line
  same-line p line l = record {
    packed = still-stored (unpacked p) l.packed;
    is = still-line (unpacked p) l.packed ∙ l.is;
  }

-- the packed lines, whose parts are in the store, represent the lines
pub record ArePackedAs (s : Store) (ps : List Packed) (lines : List DueLine) : Type 0 where
  pub packed : All (IsPacked s) ps
  pub are : map (line_in s) ps ≡ lines

module _ (s s' : Store) (m : IsMore s s') where
  still-lines : (ps : List Packed) → All (IsPacked s) ps → ArePackedAs s' ps (map (line_in s) ps)
  still-lines [] has = record { packed = All-nil (IsPacked s'); are = refl }
  still-lines (p ∷ ps) has =
      let first = same-line s s' m p (line_in s p) (record { packed = All-head (IsPacked s) p ps has; is = refl }) in
      let rest = still-lines ps (All-tail (IsPacked s) p ps has) in
      record { packed = All-cons (IsPacked s') p ps first.packed rest.packed; are = λ i. first.is i ∷ rest.are i }

  module _ (ps : List Packed) (lines : List DueLine) (packed : All (IsPacked s) ps) (view : map (line_in s) ps ≡ lines) where
    -- the packed lines represent the same lines if more is appended to the store
    pub more-kept : (ps' : List Packed) → ps' ≡ ps → ArePackedAs s' ps' lines
    more-kept ps' same =
        let kept = still-lines ps packed in
        subst (λ (l : List Packed). ArePackedAs s' l lines) (sym same) (record { packed = kept.packed; are = kept.are ∙ view })

    -- one more packed line represents one more line
    pub line-pushed : (ps' : List Packed) (p : Packed) (line : DueLine) → IsLine s' p line → ps' ≡ ps ++ p ∷ [] → ArePackedAs s' ps' (lines ++ line ∷ [])
    line-pushed ps' p line l pushed =
        let kept = more-kept ps refl in
        subst (λ (l : List Packed). ArePackedAs s' l (lines ++ line ∷ [])) (sym pushed)
        (record {
          packed = All-push (IsPacked s') ps p kept.packed l.packed;
          are = map-append (line_in s') ps (p ∷ []) ∙ (λ i. kept.are i ++ l.is i ∷ []);
        })

pub map-reverse : {A B : Type 0} (f : A → B) (xs : List A) → map f (reverse xs) ≡ reverse (map f xs)
map-reverse f [] = refl
map-reverse f (x ∷ xs) =
    ap (map f) (reverse-append (x ∷ []) xs) ∙ map-append f (reverse xs) (x ∷ [])
    ∙ (λ i. map-reverse f xs i ++ f x ∷ []) ∙ sym (reverse-append (f x ∷ []) (map f xs))
