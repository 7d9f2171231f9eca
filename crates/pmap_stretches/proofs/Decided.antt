-- Blocks that are settled and decided: those with all addresses in one stretch.
use Rattle.std.proofs.Common.{◌≡◌, ℕ, ◌^◌, ◌<◌, ◌≤◌, ◌==◌, inl, inr, Bool, true, false, List, [], ◌∷◌, Option, None, Some, map, length, nat_lt, refl, sym, ap, subst, ◌∙◌, arith, All, Contains, eq-eqb, option_map}
use Rattle.std.specs.List.Sorted.{IsPermutation}
use Rattle.std.proofs.lemmas.Bool.{and_from, both_ways, cases_lt, lt-ltb}
use Rattle.std.proofs.lemmas.List.Elements.{All-head, All-tail}
use Rattle.std.proofs.lemmas.List.Sorted.{All-permutation, Contains-permutation, IsPermutation-map, IsPermutation-sym}
use Rattle.std.proofs.lemmas.Option.{none-some}
use Rattle.prefix_keys.specs.Block.{block_number, first_of, last_of, width_of}
use Rattle.prefix_keys.specs.declared.version.Version.{Version}
use Rattle.pmap_model.specs.ListModel.{Prefix, lies_inside}
use Rattle.pmap_model.specs.MapModel.{Label, Mapping, MapModel, last_such, meets, settled_by, spans_all}
use Rattle.pmap_model.specs.PrefixList.{prefix_of, AreShortestFirst}
use Rattle.pmap_model.specs.Settled.{IsMapOf}
use Rattle.pmap_stretches.specs.Stretches.{AreStretches, HoldsAddress, StretchesModel, first_at, label_at, last_at}
use Rattle.pmap_model.specs.MapText.{mappings_of, text_at, mapping_of}
use Rattle.pmap_model.specs.declared.statement.Statement.{Statement}
use Rattle.pmap_model.specs.declared.label.LabelId.{LabelId}
use Rattle.pmap_model.specs.declared.entry.Entry.{Entry}
use Rattle.pmap_model.specs.declared.prefix_list.PrefixList.{PrefixList}
use Rattle.pmap_model.proofs.Blocks.{address-between, address-first, address-last, block_number-first_of, block_number-shorter}
use Rattle.pmap_model.proofs.Finds.{Contains-first, Contains-later}
use Rattle.pmap_model.proofs.LastSuch.{last_such-cases}
use Rattle.pmap_stretches.proofs.ListPainted.{list_blocks, zip_all, zip_mappings}
use Rattle.pmap_stretches.proofs.Longest.{AreBlocks}
use Rattle.pmap_stretches.proofs.Orders.{both_le, le_both}
use Rattle.pmap_stretches.proofs.Painted.{IsAscending, IsSeen, painted, painting, ascending, seen_by, seen_permuted, unmet}
use Rattle.pmap_stretches.proofs.SeenBlocks.{met_address, stretch_split}
use Rattle.pmap_model.proofs.Ends.{IsUnsettled}
use Rattle.pmap_stretches.proofs.Settling.{Settles, stretch_settles}
use Rattle.pmap_stretches.proofs.Windows.{block_some}

-- The block of n bits with the number q, whose first address is in the stretch i.
module _ (s : StretchesModel) (ss : List Statement) (default : Option LabelId) (are : AreStretches ss default s) (n q i : ℕ)
    (starts : HoldsAddress s (first_of (width_of s.version) n q) i) where
  abbrev W : ℕ
  W = width_of s.version

  -- if that stretch has all of its addresses, the block is settled with the stretch's label
  pub held_settles : last_of W n q ≤ last_at s i → (m : MapModel) → IsMapOf W ss default m → Settles m (label_at s i) n q
  held_settles within m is =
      stretch_settles W n q ss default (first_at s i) (last_at s i) (label_at s i) (are.each i starts.index) m is starts.from within

  -- otherwise it isn't settled
  pub split_unsettled : last_at s i < last_of W n q → last_of W n q < 2 ^ W → IsUnsettled W ss n q
  split_unsettled beyond fits = λ table x.
      let m : MapModel = record { version = s.version; name = None; fallback = x; mappings = mappings_of table ss; table = table } in
      let has = are.each i starts.index in
      stretch_split m n q (first_at s i) (last_at s i) (option_map (mapping_of table) has.top) (has.stretch m refl refl) starts.from starts.to beyond fits

-- the label that settles a block of each painting of prefixes is seen there
seen : (version : Version) (table : List Label) (ps : List Prefix) (label : Option LabelId) (n q : ℕ) → IsAscending (width_of version) ps
    → ((fallback : Label) → Settles (painting version table ps fallback) label n q)
    → IsSeen (width_of version) table ps n q (option_map (λ id. id.0) label)
seen version table ps None n q up f = unmet (width_of version) n q ps (f [])
seen version table ps (Some id) n q up f =
    let W = width_of version in
    let known : id.0 < length table = (f []).0 in
    (known, seen_by W n q ps (text_at table id.0) up (last_such (meets W n q) (map (painted W) ps)) refl (λ fallback. (f fallback).1))

-- a prefix that meets a block and doesn't cover it lies inside
pub met-inside : (W n q : ℕ) (p : Prefix) → n ≤ W → p.bits ≤ W → meets W n q (painted W p) ≡ true → spans_all W n q (painted W p) ≡ false → lies_inside W n q p ≡ true
met-inside W n q p within short met part =
    let r = block_number W p.bits p.start in
    let some = block_some W n q in
    let at = met_address W n q (painted W p) (block_some W p.bits r) some met in
    let ends = both_le (first_of W p.bits r) at.0 at.0 (last_of W p.bits r) at.3 in
    let own : block_number W p.bits at.0 ≡ r = address-between W p.bits r at.0 ends.0 ends.1 in
    let there : block_number W n at.0 ≡ q = address-between W n q at.0 at.1 at.2 in
    elim (cases_lt n p.bits) [
      | inl longer ↦
          and_from (nat_lt n p.bits) (block_number W n p.start == q) (lt-ltb n p.bits longer)
          (eq-eqb (block_number W n p.start) q (block_number-shorter W n p.bits p.start at.0 (omega arith) short (sym own) ∙ there))
      | inr wide ↦
          let in_own = λ (a : ℕ) (number : block_number W n a ≡ q). block_number-shorter W p.bits n a at.0 wide within (number ∙ sym there) ∙ own in
          let from = address-first W p.bits r (first_of W n q) (in_own (first_of W n q) (block_number-first_of W n q)) in
          let to = address-last W p.bits r (last_of W n q) (in_own (last_of W n q) (address-between W n q (last_of W n q) some (omega arith))) in
          absurd (both_ways (spans_all W n q (painted W p)) part (le_both (first_of W p.bits r) (first_of W n q) (last_of W n q) (last_of W p.bits r) from to))
    ]

-- some prefix lies inside the block
pub record HasInside (W n q : ℕ) (ps : List Prefix) : Type 0 where
  pub one : Prefix
  pub listed : Contains ps one
  pub inside : lies_inside W n q one ≡ true

split-inside : (W n q : ℕ) (ps : List Prefix) (m : Mapping) → n ≤ W → All (λ p. p.bits ≤ W) ps → last_such (meets W n q) (map (painted W) ps) ≡ Some m
    → spans_all W n q m ≡ false → HasInside W n q ps
split-inside W n q [] m within short is part = absurd cc
split-inside W n q (p ∷ ps) m within short is part =
    elim (last_such-cases (meets W n q) (painted W p) (map (painted W) ps) m is) [
      | inl later ↦
          let rest = split-inside W n q ps m within (All-tail (λ (r : Prefix). r.bits ≤ W) p ps short) later part in
          record { one = rest.one; listed = Contains-later p ps rest.one rest.listed; inside = rest.inside }
      | inr here ↦
          let part' = subst (λ (s : Mapping). spans_all W n q s ≡ false) (sym here.2) part in
          record { one = p; listed = Contains-first p ps; inside = met-inside W n q p within (All-head (λ (r : Prefix). r.bits ≤ W) p ps short) here.1 part' }
    ]

unsettled-inside : (W n q : ℕ) (fallback : Label) (ps : List Prefix) (o : Option Mapping) → n ≤ W → All (λ p. p.bits ≤ W) ps
    → last_such (meets W n q) (map (painted W) ps) ≡ o → settled_by W n q fallback o ≡ None → HasInside W n q ps
unsettled-inside W n q fallback ps None within short is none = absurd (let h : Some fallback ≡ None = none in cc)
unsettled-inside W n q fallback ps (Some m) within short is none = split-inside W n q ps m within short is (by (spans_all W n q m) refl)
  where
    by : (b : Bool) → spans_all W n q m ≡ b → spans_all W n q m ≡ false
    by true all = absurd (let h : Some m.label ≡ None = rw all at none in cc)
    by false part = part

-- A block of the stretches of a prefix list, whose first address is in the stretch i.
module _ (l : PrefixList) (s : StretchesModel) (version : s.version ≡ l.version) (ss : List Statement) (first : AreShortestFirst l.entries ss)
    (are : AreStretches ss None s) (n q i : ℕ) (starts : HoldsAddress s (first_of (width_of s.version) n q) i) where
  abbrev f : Entry → Prefix
  f = prefix_of l.labels

  abbrev rs : List Prefix
  rs = map f first.sorted

  versions : All (λ e. e.block.version ≡ l.version) first.sorted
  versions = All-permutation (λ (e : Entry). e.block.version ≡ l.version) l.entries first.sorted first.moved l.one_version

  back : IsPermutation rs (map f l.entries)
  back = IsPermutation-map f first.sorted l.entries (IsPermutation-sym l.entries first.sorted first.moved)

  painted_map : (fallback : Label) → IsMapOf (width_of s.version) ss None (painting s.version l.labels rs fallback)
  painted_map fallback =
      let known = All-permutation (λ (e : Entry). e.label.0 < length l.labels) l.entries first.sorted first.moved l.numbers_known in
      record {
        width = refl;
        mappings = rw version (zip_mappings l.version l.labels first.sorted ss first.each versions);
        known = zip_all (λ e. e.label.0 < length l.labels) (λ s. s.label.0 < length l.labels)
            (λ e s is below. let same = ap (λ (id : _). id.0) is.label in omega (arith, same, below)) first.sorted ss first.each known;
        fallback = λ id is. absurd (none-some id is);
      }

  -- if that stretch has all of its addresses, its label is seen there
  pub held_seen : last_of (width_of s.version) n q ≤ last_at s i → IsSeen (width_of s.version) l.labels (map f l.entries) n q (option_map (λ id. id.0) (label_at s i))
  held_seen within =
      let up : IsAscending (width_of s.version) rs = rw version (ascending l.version l.labels first.sorted versions first.later) in
      seen_permuted (width_of s.version) l.labels rs (map f l.entries) back n q _
      (seen s.version l.labels rs (label_at s i) n q up (λ fallback. held_settles s ss None are n q i starts within _ (painted_map fallback)))

  -- otherwise an entry lies strictly inside
  pub split_has_inside : n ≤ width_of s.version → last_at s i < last_of (width_of s.version) n q → last_of (width_of s.version) n q < 2 ^ width_of s.version
      → HasInside (width_of s.version) n q (map f l.entries)
  split_has_inside fits beyond ends =
      let W = width_of s.version in
      let blocks : AreBlocks W (map f l.entries) = rw version (list_blocks l) in
      let short : All (λ p. p.bits ≤ W) rs = All-permutation (λ (p : Prefix). p.bits ≤ W) (map f l.entries) rs (IsPermutation-sym rs (map f l.entries) back) blocks.short in
      let found = unsettled-inside W n q [] rs _ fits short refl
      (subst (λ (ms : List Mapping). settled_by W n q [] (last_such (meets W n q) ms) ≡ None) (sym (painted_map []).mappings)
      (split_unsettled s ss None are n q i starts beyond ends l.labels [])) in
      record { one = found.one; listed = Contains-permutation rs (map f l.entries) found.one back found.listed; inside = found.inside }
