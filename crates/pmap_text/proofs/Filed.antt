-- The keys of entries' blocks, among which a repeated block is found.
use Rattle.std.proofs.Common.{◌≡◌, ℕ, ◌+◌, ◌<◌, Bool, true, false, cond, ◌&&◌, ◌||◌, ◌==◌, List, [], ◌∷◌, ◌++◌, Some, get_or, length, map, option_map, refl, slice_get, sym, subst, take, ap, ap₂, ◌∙◌, arith}
use Rattle.std.proofs.lemmas.Bool.{eqb-true, ltb-true}
use Rattle.std.proofs.lemmas.Cmp.{and_equiv, nat_eq_equiv, on_equiv}
use Rattle.std.proofs.lemmas.List.Folds.{list_any-append}
use Rattle.std.proofs.lemmas.List.{map-append, take-map, take_more}
use Rattle.std.proofs.lemmas.Map.Keys.{IsDistinct-push}
use Rattle.std.proofs.lemmas.Option.{slice_get-get_or, slice_get-map}
use Rattle.std.specs.Cmp.{IsEquivalence}
use Rattle.std.specs.List.{list_any, AllByRecursion, IsDistinct}
use Rattle.std.specs.Ordering.{is_eq, nat_cmp, ordering_then}
use Rattle.std.specs.Prelude.{nat_lt}
use Rattle.std.specs.declared.cmp.Ordering.{Ordering}
use Rattle.std.specs.declared.cmp.Ordering.TheVariants.{Equal, Greater, Less}
use Rattle.pmap_text.specs.Inner.{HasDistinctKeys, IsFirstRepeat, has_key, key_cmp}
use Rattle.pmap_model.specs.ListEntries.{HasDistinctBlocks}
use Rattle.pmap_model.proofs.Distinct.{distinct_to_map}
use Rattle.pmap_model.specs.ListModel.{Prefix, same_start_and_bits}
use Rattle.pmap_model.specs.MapModel.{Label}
use Rattle.pmap_model.specs.PrefixList.{prefix_of}
use Rattle.pmap_model.specs.declared.entry.Entry.{Entry}
use Rattle.pmap_text.specs.Reading.{has_prefix}

-- the keys are the starts and lengths of the entries' blocks, no two of which are equal
pub record AreFiled (prefixes : List Prefix) (keys : List (ℕ × ℕ)) : Type 0 where
  pub blocks : (start bits : ℕ) → list_any (λ k. k.0 == start && k.1 == bits) keys ≡ has_prefix prefixes start bits
  pub distinct : HasDistinctKeys prefixes

-- two pairs of numbers are equal in their order if and only if their parts are equal
is_eq-nat_cmp : (x y : ℕ) → is_eq (nat_cmp x y) ≡ (x == y)
is_eq-nat_cmp x y = by (nat_lt x y) (x == y) refl refl
  where
    by : (less same : Bool) → nat_lt x y ≡ less → (x == y) ≡ same → is_eq (cond less Less (cond same Equal Greater)) ≡ same
    by true true e f = absurd (omega (arith, ltb-true x y e, eqb-true x y f))
    by true false e f = refl
    by false true e f = refl
    by false false e f = refl

is_eq-then : (o p : Ordering) → is_eq (ordering_then o p) ≡ (is_eq o && is_eq p)
is_eq-then Less p = refl
is_eq-then Equal p = refl
is_eq-then Greater p = refl

is_eq-pair : (start bits : ℕ) (k : ℕ × ℕ) → is_eq (ordering_then (nat_cmp start k.0) (nat_cmp bits k.1)) ≡ (k.0 == start && k.1 == bits)
is_eq-pair start bits k =
    is_eq-then (nat_cmp start k.0) (nat_cmp bits k.1)
    ∙ ap₂ ◌&&◌ (is_eq-nat_cmp start k.0 ∙ nat_eq_equiv.symm start k.0) (is_eq-nat_cmp bits k.1 ∙ nat_eq_equiv.symm bits k.1)

-- a set of pairs has one if and only if a key with its parts is there
pub is_found : (start bits : ℕ) (keys : List (ℕ × ℕ)) →
    list_any (λ k. is_eq (ordering_then (nat_cmp start k.0) (nat_cmp bits k.1))) keys ≡ list_any (λ k. k.0 == start && k.1 == bits) keys
is_found start bits keys = ap (λ t. list_any t keys) (λ i k. is_eq-pair start bits k i)

-- entries stay filed when one more is added at the end, with its own block
cond-or : (here before : Bool) → cond here true before ≡ (before || (here || false))
cond-or true true = refl
cond-or true false = refl
cond-or false true = refl
cond-or false false = refl

same_key-equiv : IsEquivalence same_start_and_bits
same_key-equiv = and_equiv (on_equiv (λ p. p.start) nat_eq_equiv) (on_equiv (λ p. p.bits) nat_eq_equiv)

pub AreFiled-push : (prefixes : List Prefix) (p : Prefix) (keys more : List (ℕ × ℕ)) → AreFiled prefixes keys →
    has_prefix prefixes p.start p.bits ≡ false →
    ((q : ℕ × ℕ) → list_any (λ k. is_eq (key_cmp q k)) more
    ≡ cond (is_eq (key_cmp (p.start, p.bits) q)) true (list_any (λ k. is_eq (key_cmp q k)) keys)) →
    AreFiled (prefixes ++ p ∷ []) more
AreFiled-push prefixes p keys more ok new added = record {
  blocks = λ start bits.
      sym (is_found start bits more) ∙ added (start, bits)
      ∙ ap₂ (λ here before. cond here true before)
      (is_eq-pair p.start p.bits (start, bits) ∙ ap₂ ◌&&◌ (nat_eq_equiv.symm start p.start) (nat_eq_equiv.symm bits p.bits))
      (is_found start bits keys ∙ ok.blocks start bits)
      ∙ cond-or (p.start == start && p.bits == bits) (has_prefix prefixes start bits)
      ∙ sym (list_any-append (λ r. r.start == start && r.bits == bits) prefixes (p ∷ []));
  distinct = IsDistinct-push same_key-equiv prefixes p ok.distinct
      (ap (λ t. list_any t prefixes)
      (λ i r. nat_eq_equiv.symm p.start r.start i && nat_eq_equiv.symm p.bits r.bits i) ∙ new);
}

pub none_filed : AreFiled [] []
unfolding IsDistinct
none_filed = record { blocks = λ start bits. refl; distinct = tt }

-- a key is in the set if and only if an entry has the block
pub is_filed : (prefixes : List Prefix) (keys : List (ℕ × ℕ)) → AreFiled prefixes keys → (k : ℕ × ℕ) →
    list_any (λ q. is_eq (key_cmp k q)) keys ≡ has_prefix prefixes k.0 k.1
is_filed prefixes keys ok k = is_found k.0 k.1 keys ∙ ok.blocks k.0 k.1

-- of entries with distinct blocks the last has a new one
all_front : {X : Type 0} (P : X → Type 0) (xs : List X) (y : X) → AllByRecursion P (xs ++ y ∷ []) → AllByRecursion P xs
all_front P [] y h = tt
all_front P (x ∷ xs) y h = (h.0, all_front P xs y h.1)

all_last : {X : Type 0} (P : X → Type 0) (xs : List X) (y : X) → AllByRecursion P (xs ++ y ∷ []) → P y
all_last P [] y h = h.0
all_last P (x ∷ xs) y h = all_last P xs y h.1

pub once-front : (ps : List Prefix) (p : Prefix) → HasDistinctKeys (ps ++ p ∷ []) → HasDistinctKeys ps
unfolding IsDistinct
once-front [] p h = tt
once-front (q ∷ qs) p h = (all_front (λ r. same_start_and_bits q r ≡ false) qs p h.0, once-front qs p h.1)

pub once-last : (ps : List Prefix) (p : Prefix) → HasDistinctKeys (ps ++ p ∷ []) → has_prefix ps p.start p.bits ≡ false
unfolding IsDistinct
once-last [] p h = refl
once-last (q ∷ qs) p h = ap₂ ◌||◌ (all_last (λ r. same_start_and_bits q r ≡ false) qs p h.0) (once-last qs p h.1)

-- and so for their prefixes
pub distinct_keys : (table : List Label) (es : List Entry) → HasDistinctBlocks es → HasDistinctKeys (map (prefix_of table) es)
distinct_keys table es = distinct_to_map (prefix_of table) same_start_and_bits es

-- one more key
pub filed_more : (table : List Label) (es : List Entry) (i : ℕ) (e : Entry) (keys more : List (ℕ × ℕ)) → i < length es → e ≡ get_or es i e
    → AreFiled (map (prefix_of table) (take i es)) keys → has_key keys (e.block.value, e.block.len) ≡ false
    → ((q : ℕ × ℕ) → has_key more q ≡ cond (is_eq (key_cmp (e.block.value, e.block.len) q)) true (has_key keys q))
    → AreFiled (map (prefix_of table) (take (i + 1) es)) more
filed_more table es i e keys more within is ok new added =
    let f = prefix_of table in
    let grown : map f (take (i + 1) es) ≡ map f (take i es) ++ f e ∷ [] =
    ap (map f) (take_more es i e within ∙ ap (λ (d : Entry). take i es ++ d ∷ []) (sym is)) ∙ map-append f (take i es) (e ∷ []) in
    subst (λ (ps : List Prefix). AreFiled ps more) (sym grown)
    (AreFiled-push (map f (take i es)) (f e) keys more ok
    (sym (is_filed (map f (take i es)) keys ok (e.block.value, e.block.len)) ∙ new) added)

-- a known key is a repeat
pub filed_repeat : (table : List Label) (es : List Entry) (i : ℕ) (e : Entry) (keys : List (ℕ × ℕ)) → i < length es → e ≡ get_or es i e
    → AreFiled (map (prefix_of table) (take i es)) keys → has_key keys (e.block.value, e.block.len) ≡ true
    → IsFirstRepeat (map (prefix_of table) es) (Some i)
filed_repeat table es i e keys within is ok known =
    let f = prefix_of table in
    let same : take i (map f es) ≡ map f (take i es) = take-map f i es in
    let at : slice_get (map f es) i ≡ Some (f e) =
    slice_get-map f es i ∙ ap (option_map f) (slice_get-get_or es i e within ∙ ap Some (sym is)) in (
      f e,
      at,
      subst HasDistinctKeys (sym same) ok.distinct,
      subst (λ (ps : List Prefix). has_prefix ps e.block.value e.block.len ≡ true) (sym same)
          (sym (is_filed (map f (take i es)) keys ok (e.block.value, e.block.len)) ∙ known),
    )
