-- If entries that enclose others come first, the last statement that covers an address is the longest match.
use Rattle.std.proofs.Common.{◌≡◌, ℕ, ◌-◌, ◌^◌, ◌<◌, ◌≤◌, ◌⊎◌, ◌∙◌, inl, inr, Bool, true, false, List, [], ◌∷◌, All, Contains, Some, None, map, nat_le, refl, sym, ap, subst, arith, pow_pos}
use Rattle.std.proofs.lemmas.Bool.Decides.{nat_tests}
use Rattle.std.proofs.lemmas.Bool.{and_parts, both_ways, cases_lt, leb-true}
use Rattle.std.proofs.lemmas.List.Elements.{All-cons, All-contains, All-from_recursion, All-head, All-nil, All-tail, All-weaker, Contains-append_right}
use Rattle.prefix_keys.specs.Block.{block_number, first_of, last_of}
use Rattle.prefix_keys.proofs.Quotients.{whole}
use Rattle.pmap_cert.specs.Acceptance.{HasBlock, IsInOrder, begins_before}
use Rattle.pmap_model.specs.ListModel.{Prefix, CoversAddress, IsLongestMatch}
use Rattle.pmap_model.specs.MapModel.{Mapping, last_such, spans}
use Rattle.pmap_model.proofs.Blocks.{address-between, address-first, address-last, block_number-shorter}
use Rattle.pmap_model.proofs.Finds.{Contains-first}

-- the statement that the addresses of an entry's block, which have W bits, have the entry's label
abbrev pub mapping_of_prefix : ℕ → Prefix → Mapping
mapping_of_prefix W p =
    record { low = p.start; high = last_of W p.bits (block_number W p.bits p.start); label = p.label }

pub block-start : (W : ℕ) (p : Prefix) → HasBlock W p → first_of W p.bits (block_number W p.bits p.start) ≡ p.start
block-start W p has = whole p.start (2 ^ (W - p.bits)) (pow_pos (W - p.bits)) has.no_host_bit

module _ (W a : ℕ) where
  -- the statement of an entry covers the address exactly if the entry's block does
  spans-covers : (p : Prefix) → HasBlock W p → spans a (mapping_of_prefix W p) ≡ true → CoversAddress W a p
  spans-covers p has is =
      let parts = and_parts (nat_le p.start a) (nat_le a (last_of W p.bits (block_number W p.bits p.start))) is in
      let low : first_of W p.bits (block_number W p.bits p.start) ≤ a = rw (block-start W p has) (leb-true p.start a parts.0) in
      record {
        fits = has.bits;
        number = sym (address-between W p.bits (block_number W p.bits p.start) a low (leb-true a (last_of W p.bits (block_number W p.bits p.start)) parts.1));
      }

  covers-spans : (p : Prefix) → HasBlock W p → CoversAddress W a p → spans a (mapping_of_prefix W p) ≡ true
  covers-spans p has is =
      let low : p.start ≤ a = subst (λ k. k ≤ a) (block-start W p has) (address-first W p.bits (block_number W p.bits p.start) a (sym is.number)) in
      let high = address-last W p.bits (block_number W p.bits p.start) a (sym is.number) in
      grind (arith, nat_tests)

  -- of two entries that cover the address, the first one has the shorter prefix
  first-shorter : (p r : Prefix) → HasBlock W p → HasBlock W r → begins_before p r ≡ true → CoversAddress W a p → CoversAddress W a r → p.bits < r.bits
  first-shorter p r hp hr before cp cr = by (cases_lt p.bits r.bits)
    where
      starts : r.bits ≤ p.bits → r.start ≤ p.start
      starts le =
          let same : block_number W r.bits p.start ≡ block_number W r.bits a = block_number-shorter W r.bits p.bits p.start a le cp.fits cp.number in
          subst (λ k. k ≤ p.start) (block-start W r hr)
          (address-first W r.bits (block_number W r.bits r.start) p.start (same ∙ sym cr.number))

      by : (p.bits < r.bits) ⊎ (r.bits ≤ p.bits) → p.bits < r.bits
      by (inl less) = less
      by (inr ge) = let le : r.start ≤ p.start = starts ge in grind (arith, nat_tests)

  -- the last of the entries' statements that covers the address is the longest match, or no entry covers the address
  abbrev Found : List Prefix → Type 0
  Found ps =
      ((last_such (spans a) (map (mapping_of_prefix W) ps) ≡ None) × All (λ p. ¬ CoversAddress W a p) ps)
      ⊎ ((p : Prefix) × (last_such (spans a) (map (mapping_of_prefix W) ps) ≡ Some (mapping_of_prefix W p)) × IsLongestMatch W ps a p)

  -- the longest match is one of the entries
  pub match-in : (ps : List Prefix) (p : Prefix) → IsLongestMatch W ps a p → Contains ps p
  match-in ps p long = rw long.list (Contains-append_right long.before (p ∷ long.following) p (Contains-first p long.following))

  longer-list : (q : Prefix) (ps : List Prefix) (p : Prefix) → IsInOrder (q ∷ ps) → All (HasBlock W) (q ∷ ps) → IsLongestMatch W ps a p
      → IsLongestMatch W (q ∷ ps) a p
  longer-list q ps p ordered has long =
      let in' = match-in ps p long in
      let before : begins_before q p ≡ true = All-contains (λ s. begins_before q s ≡ true) ps p (All-from_recursion (λ s. begins_before q s ≡ true) ps ordered.0) in' in
      record {
        before = q ∷ long.before;
        following = long.following;
        list = ap (λ (xs : List Prefix). q ∷ xs) long.list;
        covers = long.covers;
        earlier = All-cons (λ r. CoversAddress W a r → r.bits < p.bits) q long.before
            (λ c. first-shorter q p (All-head (HasBlock W) q ps has) (All-contains (HasBlock W) ps p (All-tail (HasBlock W) q ps has) in') before c long.covers)
            long.earlier;
        later = long.later;
      }

  found-step : (q : Prefix) (ps : List Prefix) → IsInOrder (q ∷ ps) → All (HasBlock W) (q ∷ ps) → (b : Bool) → spans a (mapping_of_prefix W q) ≡ b
      → Found ps → Found (q ∷ ps)
  found-step q ps ordered has b e (inr found) = inr (found.0, rw found.1 refl, longer-list q ps found.0 ordered has found.2)
  found-step q ps ordered has true e (inl none) = inr (
    q,
    rw (none.0, e) refl,
    record {
      before = [];
      following = ps;
      list = refl;
      covers = spans-covers q (All-head (HasBlock W) q ps has) e;
      earlier = All-nil (λ r. CoversAddress W a r → r.bits < q.bits);
      later = All-weaker (λ r. ¬ CoversAddress W a r) (λ r. CoversAddress W a r → r.bits ≤ q.bits) (λ r no c. absurd (no c)) ps none.1;
    },
  )
  found-step q ps ordered has false e (inl none) = inl (
    rw (none.0, e) refl,
    All-cons (λ p. ¬ CoversAddress W a p) q ps
        (λ c. both_ways (spans a (mapping_of_prefix W q)) e (covers-spans q (All-head (HasBlock W) q ps has) c)) none.1,
  )

  pub last-found : (ps : List Prefix) → IsInOrder ps → All (HasBlock W) ps → Found ps
  last-found [] ordered has = inl (refl, All-nil (λ p. ¬ CoversAddress W a p))
  last-found (q ∷ ps) ordered has =
      found-step q ps ordered has (spans a (mapping_of_prefix W q)) refl (last-found ps ordered.1 (All-tail (HasBlock W) q ps has))
