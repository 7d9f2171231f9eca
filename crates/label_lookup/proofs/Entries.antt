-- The search through a prefix list's entries for the longest one that covers an address.
use Rattle.std.proofs.Common.{◌≡◌, ◌∙◌, ℕ, suc, ◌+◌, ◌<◌, ◌≤◌, inl, inr, List, [], ◌∷◌, Option, None, Some, All, Contains, ap, arith, length, map, refl, slice_get, subst, sym}
use Rattle.std.specs.Option.{ForSome}
use Rattle.std.specs.Prelude.{IsSomeAnd, MatchOption, take}
use Rattle.std.proofs.Math.Seq.{take-length}
use Rattle.std.proofs.lemmas.List.Elements.{All-contains, All-more, All-weaker, Contains-append_right}
use Rattle.std.proofs.lemmas.Option.{get_or_from_slice_get, same_Some, slice_get_within}
use Rattle.prefix_keys.specs.Block.{block_number, width_of}
use Rattle.prefix_keys.specs.Covers.{IsInBlock}
use Rattle.prefix_keys.specs.declared.version.Version.{Version}
use Rattle.pmap_model.specs.ListModel.{CoversAddress, IsLongestMatch, Prefix, label_below, list_label}
use Rattle.pmap_model.specs.MapModel.{Label}
use Rattle.pmap_model.specs.PrefixList.{list_of, prefix_of}
use Rattle.pmap_model.specs.declared.entry.Entry.{Entry}
use Rattle.pmap_model.specs.declared.prefix_list.PrefixList.{PrefixList}
use Rattle.pmap_model.proofs.Finds.{Contains-cases, Contains-first, Contains-from_map, Contains-later, Contains-nil}
use Rattle.pmap_model.proofs.ListLabels.{label_below-top, longest-match}
use Rattle.pmap_stretches.proofs.ListPainted.{list_blocks}
use Rattle.pmap_stretches.proofs.Orders.{known_text}

-- an element of a list, mapped, is an element of the mapped list
contains-map : {X Y : Type 0} (f : X → Y) (xs : List X) (x : X) → Contains xs x → Contains (map f xs) (f x)
contains-map f [] x has = absurd (Contains-nil x has)
contains-map f (y ∷ ys) x has =
    elim (Contains-cases y ys x has) [
      | inl same ↦ subst (λ z. Contains (f y ∷ map f ys) z) (ap f same) (Contains-first (f y) (map f ys))
      | inr later ↦ Contains-later (f y) (map f ys) (f x) (contains-map f ys x later)
    ]

abbrev pub CoversEntry : PrefixList → ℕ → Entry → Type 0
CoversEntry l a e = CoversAddress (width_of l.version) a (prefix_of l.labels e)

-- if the entry covers the address, it is no longer than this one
abbrev pub IsNoLonger : PrefixList → ℕ → Option Entry → Entry → Type 0
IsNoLonger l a longest e = CoversEntry l a e → IsSomeAnd longest (λ d. e.block.len ≤ d.block.len)

-- of the first entries, this is a longest one that covers the address, or none does
pub record IsLongest (l : PrefixList) (a count : ℕ) (longest : Option Entry) : Type 0 where
  pub listed : ForSome longest (λ e. Contains l.entries e × CoversEntry l a e)
  pub most : All (IsNoLonger l a longest) (take count l.entries)

-- once all entries are looked at
pub all_seen : (l : PrefixList) (a count : ℕ) (longest : Option Entry) → IsLongest l a count longest → count ≡ length l.entries
    → All (IsNoLonger l a longest) l.entries
all_seen l a count longest is all = subst (All (IsNoLonger l a longest)) (ap (λ n. take n l.entries) all ∙ take-length l.entries) is.most

-- a block of the list's version covers an address if the address is in it
pub covered : (l : PrefixList) (a : ℕ) (e : Entry) → e.block.version ≡ l.version → IsInBlock e.block a → CoversEntry l a e
covered l a e same inside = record {
  fits = subst (λ (v : Version). e.block.len ≤ width_of v) same e.block.len_in_range;
  number = sym (subst (λ (v : Version). block_number (width_of v) e.block.len a ≡ block_number (width_of v) e.block.len e.block.value) same inside);
}

pub inside : (l : PrefixList) (a : ℕ) (e : Entry) → e.block.version ≡ l.version → CoversEntry l a e → IsInBlock e.block a
inside l a e same covers =
    subst (λ (v : Version). block_number (width_of v) e.block.len a ≡ block_number (width_of v) e.block.len e.block.value) (sym same) (sym covers.number)

module _ (l : PrefixList) (a index : ℕ) (longest : Option Entry) (so_far : IsLongest l a index longest) (e : Entry)
    (listed : slice_get l.entries index ≡ Some e) where
  -- one entry more is looked at
  one_more : (next : Option Entry) → All (IsNoLonger l a next) (take index l.entries) → IsNoLonger l a next e
      → All (IsNoLonger l a next) (take (index + 1) l.entries)
  one_more next earlier here =
      All-more (IsNoLonger l a next) l.entries index e (slice_get_within l.entries index e listed) earlier
      (subst (IsNoLonger l a next) (sym (get_or_from_slice_get l.entries index e e listed)) here)

  -- it isn't longer than the longest so far
  pub passed_over : IsNoLonger l a longest e → IsLongest l a (index + 1) longest
  passed_over here = record { listed = so_far.listed; most = one_more longest so_far.most here }

  -- it is the longest so far
  pub taken : CoversEntry l a e → ForSome longest (λ d. d.block.len ≤ e.block.len) → IsLongest l a (index + 1) (Some e)
  taken covers longer = record {
    listed = λ d is. subst (λ d. Contains l.entries d × CoversEntry l a d) (same_Some e d is)
        (((index, slice_get_within l.entries index e listed, get_or_from_slice_get l.entries index e e listed), covers));
    most = one_more (Some e) (All-weaker (IsNoLonger l a longest) (IsNoLonger l a (Some e)) (λ d most covers. by d longest longer (most covers))
        (take index l.entries) so_far.most) (λ _. omega arith);
  }
    where
      by : (d : Entry) (o : Option Entry) → ForSome o (λ d. d.block.len ≤ e.block.len) → IsSomeAnd o (λ f. d.block.len ≤ f.block.len)
          → d.block.len ≤ e.block.len
      by d None longer none = absurd none
      by d (Some f) longer most = omega (arith, longer f refl, most)

module _ (l : PrefixList) (a : ℕ) where
  abbrev W : ℕ
  W = width_of l.version

  abbrev ps : List Prefix
  ps = map (prefix_of l.labels) l.entries

  -- if no entry covers the address, it has no label
  pub unlabelled : All (IsNoLonger l a None) l.entries → list_label (list_of l) a ≡ None
  unlabelled none = by (label_below W ps (suc W) a) (longest-match W ps a)
    where
      by : (o : Option Label) → MatchOption o (All (λ p. CoversAddress W a p → ⊥) ps) (λ x. (p : Prefix) × IsLongestMatch W ps a p × (p.label ≡ x))
          → o ≡ None
      by None _ = refl
      by (Some x) some =
          let longest = some.1 in
          let has = Contains-from_map (prefix_of l.labels) l.entries some.0
          (subst (λ (rs : List Prefix). Contains rs some.0) (sym longest.list) (Contains-append_right longest.before _ some.0 (Contains-first some.0 longest.following))) in
          absurd (All-contains (IsNoLonger l a None) l.entries has.0 none has.1 (subst (CoversAddress W a) (sym has.2) longest.covers))

  -- otherwise it has the label of the longest
  pub labelled : (e : Entry) → Contains l.entries e → CoversEntry l a e → All (IsNoLonger l a (Some e)) l.entries
      → slice_get l.labels e.label.0 ≡ list_label (list_of l) a
  labelled e has covers most =
      let known = All-contains (λ (d : Entry). d.label.0 < length l.labels) l.entries e l.numbers_known has in
      let blocks = list_blocks l in
      let p = prefix_of l.labels e in
      let listed = contains-map (prefix_of l.labels) l.entries e has in
      let longest : (r : Prefix) → Contains ps r → CoversAddress W a r → r.bits ≤ p.bits = λ r among c.
      let d = Contains-from_map (prefix_of l.labels) l.entries r among in
      subst (λ (s : Prefix). s.bits ≤ p.bits) d.2
      (All-contains (IsNoLonger l a (Some e)) l.entries d.0 most d.1 (subst (CoversAddress W a) (sym d.2) c)) in
      known_text l.labels e.label.0 known
      ∙ sym (label_below-top W ps a p listed covers longest
      (λ r among c bits. blocks.alike r p among listed bits (c.number ∙ ap (λ (n : ℕ). block_number W n a) bits ∙ sym covers.number))
      (suc W) (omega (arith, covers.fits)) (omega arith))
