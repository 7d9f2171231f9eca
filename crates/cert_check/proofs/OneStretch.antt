-- Blocks that a map settles and a list decides with a label: those with all addresses in one stretch with the label.
use Rattle.std.proofs.Common.{◌≡◌, ◌∙◌, ℕ, suc, ◌+◌, ◌-◌, ◌*◌, ◌/◌, ◌^◌, ◌<◌, ◌≤◌, ◌&&◌, inl, inr, Bool, true, false, cond, not, nat_le, List, Option, Some, None, IsSome, length, option_and_then, option_map, slice_get, mul-div_cancel, pow_pos, refl, sym, ap, subst, arith}
use Rattle.std.proofs.Math.Nat.{zero-div}
use Rattle.std.specs.List.{list_any}
use Rattle.std.specs.Option.{ForSome}
use Rattle.std.proofs.lemmas.Bool.{and_from, and_parts, cases_lt, le-leb, leb-true, lt-leb}
use Rattle.std.proofs.lemmas.List.Folds.{list_any_at}
use Rattle.std.proofs.lemmas.List.{length-map}
use Rattle.prefix_keys.specs.Block.{first_of, last_of, width_of}
use Rattle.prefix_keys.specs.declared.block.Block.{Block}
use Rattle.prefix_keys.specs.declared.version.Version.{Version}
use Rattle.prefix_keys.proofs.Quotients.{whole}
use Rattle.pmap_model.specs.Label.{number_of}
use Rattle.pmap_model.specs.ListModel.{Prefix, label_below, lies_inside}
use Rattle.pmap_model.specs.MapModel.{Label, MapModel, last_such, meets, settled_by, settled_label}
use Rattle.pmap_model.specs.declared.statement.Statement.{Statement}
use Rattle.pmap_model.specs.MapText.{map_of, text_at, text_if_some, mappings_of}
use Rattle.pmap_model.specs.PrefixList.{AreShortestFirst, list_of, number_of_block}
use Rattle.pmap_model.specs.Settled.{IsMapOf}
use Rattle.pmap_stretches.specs.Stretches.{AreLabelsBelow, AreStretches, HasEveryAddress, HoldsAddress, StretchesModel, count_begun, label_at, last_at}
use Rattle.pmap_model.specs.declared.label.LabelId.{LabelId}
use Rattle.pmap_model.specs.declared.map_text.MapText.{MapText}
use Rattle.pmap_model.specs.declared.prefix_list.PrefixList.{PrefixList}
use Rattle.pmap_stretches.proofs.Decided.{held_seen, held_settles, split_has_inside, split_unsettled}
use Rattle.pmap_stretches.proofs.ListPainted.{list_blocks}
use Rattle.pmap_stretches.proofs.Longest.{AreBlocks, known_seen, label_seen, none_inside}
use Rattle.pmap_stretches.proofs.Orders.{known_text}
use Rattle.pmap_stretches.proofs.Painted.{IsSeen}
use Rattle.pmap_stretches.proofs.Ranges.{held_fits, held_index, holder}
use Rattle.pmap_stretches.proofs.Settling.{Settles, map_is, stretch_labelled}
use Rattle.pmap_stretches.proofs.BlockHalves.{halves_ends}
use Rattle.pmap_stretches.proofs.Windows.{block_some, first_number}
use Rattle.cert_check.specs.Checking.{list_settles, is_label_of, leaf_fault, CheckFaultKind, LeafNotUniform, ListDiffers}
use Rattle.cert_check.specs.Inner.{AreNumbers, AreOf, AreSources, IsRangeOf, Origin, Sources, has_one_label, number_at}
use Rattle.cert_check.proofs.Lists.{any-filtered}

-- whether the stretch i has the addresses up to the last and has the label x
abbrev is_in : List Label → StretchesModel → ℕ → ℕ → Label → Bool
is_in from s i last x = nat_le last (last_at s i) && is_label_of (text_if_some from (label_at s i)) x

in-within : (from : List Label) (s : StretchesModel) (i last : ℕ) (x : Label) → last ≤ last_at s i → is_in from s i last x ≡ is_label_of (text_if_some from (label_at s i)) x
in-within from s i last x le = ap (λ (b : Bool). b && is_label_of (text_if_some from (label_at s i)) x) (le-leb last (last_at s i) le)

in-beyond : (from : List Label) (s : StretchesModel) (i last : ℕ) (x : Label) → last_at s i < last → is_in from s i last x ≡ false
in-beyond from s i last x less = ap (λ (b : Bool). b && is_label_of (text_if_some from (label_at s i)) x) (lt-leb last (last_at s i) less)

-- the label of a range that is in the stretch i
pub held_label : (from : List Label) (s : StretchesModel) (every : HasEveryAddress s) (i first last : ℕ) (x : Label) → HoldsAddress s first i → last ≤ last_at s i
    → is_label_of (text_if_some from (label_at s i)) x ≡ has_one_label from s first last x
held_label from s every i first last x holds within =
    sym (in-within from s i last x within) ∙ ap (λ (k : ℕ). is_in from s k last x) (sym (held_index s every first i holds))

settled-text : (m : MapModel) (n q : ℕ) (label : Option LabelId) → IsSome label → Settles m label n q → settled_label m n q ≡ text_if_some m.table label
settled-text m n q None some h = absurd cc
settled-text m n q (Some id) some h = h.1

-- A map settles a block with the label of the stretch that has all of its addresses.
module _ (m : MapText) (s : StretchesModel) (version : s.version ≡ m.version) (are : AreStretches m.statements (Some m.default) s) (n q : ℕ) (x : Label) where
  abbrev is_settled_in : ℕ → Bool
  is_settled_in W =
      is_label_of (settled_by W n q (text_at m.labels m.default.0) (last_such (meets W n q) (mappings_of m.labels m.statements))) x

  settled-here : last_of (width_of s.version) n q < 2 ^ width_of s.version
      → is_settled_in (width_of s.version) ≡ has_one_label m.labels s (first_of (width_of s.version) n q) (last_of (width_of s.version) n q) x
  settled-here fits =
      let W = width_of s.version in
      let first = first_of W n q in
      let last = last_of W n q in
      let i = count_begun s.firsts first - 1 in
      let starts : HoldsAddress s first i = holder s are.every first (omega (arith, block_some W n q, fits)) in
      let m' : MapModel = record { version = s.version; name = None; fallback = text_at m.labels m.default.0; mappings = mappings_of m.labels m.statements; table = m.labels } in
      let is : IsMapOf W m.statements (Some m.default) m' =
      let whole = map_is m in record { width = refl; mappings = refl; known = whole.known; fallback = whole.fallback } in
      elim (cases_lt (last_at s i) last) [
        | inl beyond ↦
            ap (λ (o : Option Label). is_label_of o x) (split_unsettled s m.statements (Some m.default) are n q i starts beyond fits m.labels (text_at m.labels m.default.0))
            ∙ sym (in-beyond m.labels s i last x beyond)
        | inr within ↦
            ap (λ (o : Option Label). is_label_of o x)
            (settled-text m' n q (label_at s i) (stretch_labelled W m.statements (Some m.default) _ _ _ (are.each i starts.index) refl)
            (held_settles s m.statements (Some m.default) are n q i starts within m' is))
            ∙ sym (in-within m.labels s i last x within)
      ]

  pub map-settles : last_of (width_of m.version) n q < 2 ^ width_of m.version
      → is_label_of (settled_label (map_of m) n q) x ≡ has_one_label m.labels s (first_of (width_of m.version) n q) (last_of (width_of m.version) n q) x
  map-settles =
      subst (λ (v : Version). last_of (width_of v) n q < 2 ^ width_of v
      → is_settled_in (width_of v) ≡ has_one_label m.labels s (first_of (width_of v) n q) (last_of (width_of v) n q) x) version settled-here

seen-text : (table : List Label) (label : Option LabelId) → ForSome (option_map (λ id. id.0) label) (λ id. id < length table)
    → option_and_then (slice_get table) (option_map (λ id. id.0) label) ≡ text_if_some table label
seen-text table None known = refl
seen-text table (Some id) known = known_text table id.0 (known id.0 refl)

-- A list decides a block with the label of the stretch that has all of its addresses.
module _ (l : PrefixList) (s : StretchesModel) (version : s.version ≡ l.version) (ss : List Statement) (first : AreShortestFirst l.entries ss) (are : AreStretches ss None s)
    (n q : ℕ) (x : Label) where
  abbrev ps : List Prefix
  ps = (list_of l).prefixes

  decided-here : n ≤ width_of s.version → last_of (width_of s.version) n q < 2 ^ width_of s.version
      → list_settles (width_of s.version) ps n q x ≡ has_one_label l.labels s (first_of (width_of s.version) n q) (last_of (width_of s.version) n q) x
  decided-here short fits =
      let W = width_of s.version in
      let start = first_of W n q in
      let last = last_of W n q in
      let i = count_begun s.firsts start - 1 in
      let starts : HoldsAddress s start i = holder s are.every start (omega (arith, block_some W n q, fits)) in
      let blocks : AreBlocks W ps = subst (λ (v : Version). AreBlocks (width_of v) ps) (sym version) (list_blocks l) in
      let decides = λ (inside : Bool) (label : Option Label). not inside && is_label_of label x in
      elim (cases_lt (last_at s i) last) [
        | inl beyond ↦
            let found = split_has_inside l s version ss first are n q i starts short beyond fits in
            let some : list_any (lies_inside W n q) ps ≡ true = list_any_at (lies_inside W n q) ps found.listed.0 found.one found.listed.1 (ap (lies_inside W n q) found.listed.2 ∙ found.inside) in
            ap (λ (b : Bool). decides b (label_below W ps (suc n) start)) some ∙ sym (in-beyond l.labels s i last x beyond)
        | inr within ↦
            let label = option_map (λ (id : LabelId). id.0) (label_at s i) in
            let is : IsSeen W l.labels ps n q label = held_seen l s version ss first are n q i starts within in
            let none : list_any (lies_inside W n q) ps ≡ false =
            sym (any-filtered (lies_inside W n q) ps) ∙ ap (list_any (lies_inside W n q)) (none_inside W l.labels ps n q label blocks is) in
            let same : label_below W ps (suc n) start ≡ text_if_some l.labels (label_at s i) =
            label_seen W l.labels ps n q start (suc n) label blocks (sym (mul-div_cancel q (pow_pos (W - n)))) (λ bits most fits'. omega (arith, most)) is
            ∙ seen-text l.labels (label_at s i) (known_seen W l.labels ps n q label is) in
            (λ j. decides (none j) (same j)) ∙ sym (in-within l.labels s i last x within)
      ]

  pub list-decides : (v : Version) → s.version ≡ v → n ≤ width_of v → last_of (width_of v) n q < 2 ^ width_of v
      → list_settles (width_of v) ps n q x ≡ has_one_label l.labels s (first_of (width_of v) n q) (last_of (width_of v) n q) x
  list-decides v same =
      subst (λ (v : Version). n ≤ width_of v → last_of (width_of v) n q < 2 ^ width_of v
      → list_settles (width_of v) ps n q x ≡ has_one_label l.labels s (first_of (width_of v) n q) (last_of (width_of v) n q) x) same decided-here

-- A range within one that has one label has it too.
module _ (from : List Label) (s : StretchesModel) (every : HasEveryAddress s) (first last : ℕ) (x : Label) (fits : first < 2 ^ width_of s.version) (is : has_one_label from s first last x ≡ true) where
  abbrev i : ℕ
  i = count_begun s.firsts first - 1

  parts : (nat_le last (last_at s i) ≡ true) × (is_label_of (text_if_some from (label_at s i)) x ≡ true)
  parts = and_parts (nat_le last (last_at s i)) (is_label_of (text_if_some from (label_at s i)) x) is

  most : last ≤ last_at s i
  most = leb-true last (last_at s i) parts.0

  starts : HoldsAddress s first i
  starts = holder s every first fits

  pub label-fits : first ≤ last → last < 2 ^ width_of s.version
  label-fits some = held_fits s every last i (record { index = starts.index; from = omega (arith, starts.from, some); to = most })

  pub narrower-label : (low high : ℕ) → first ≤ low → low ≤ high → high ≤ last → has_one_label from s low high x ≡ true
  narrower-label low high ge some le =
      let same = held_index s every low i (record { index = starts.index; from = omega (arith, starts.from, ge); to = omega (arith, most, some, le) }) in
      subst (λ (k : ℕ). is_in from s k high x ≡ true) (sym same)
      (and_from (nat_le high (last_at s i)) (is_label_of (text_if_some from (label_at s i)) x) (le-leb high (last_at s i) (omega (arith, most, le))) parts.1)

-- the range of a block
pub block-range : (s : Sources) (b : Block) → b.version ≡ s.version → (last : ℕ) → last ≡ last_of (width_of b.version) b.len (number_of_block b) → last < 2 ^ width_of b.version
    → IsRangeOf s b.value last b.len (number_of_block b)
block-range s b version last last_is fits =
    let W = width_of b.version in
    let first_is : first_of W b.len (number_of_block b) ≡ b.value = whole b.value (2 ^ (W - b.len)) (pow_pos (W - b.len)) b.no_host_bit in
    let some : b.value ≤ last = omega (arith, block_some W b.len (number_of_block b), first_is, last_is) in
    record {
      short = subst (λ (v : Version). b.len ≤ width_of v) version b.len_in_range;
      first_is = subst (λ (v : Version). b.value ≡ first_of (width_of v) b.len (number_of_block b)) version (sym first_is);
      last_is = subst (λ (v : Version). last ≡ last_of (width_of v) b.len (number_of_block b)) version last_is;
      some = some;
      fits = subst (λ (v : Version). last < 2 ^ width_of v) version fits;
    }

-- the range of all addresses
pub whole-range : (s : Sources) (last : ℕ) → last + 1 ≡ 2 ^ width_of s.version → IsRangeOf s 0 last 0 (number_at s 0 0)
whole-range s last is =
    let W = width_of s.version in
    let none : W - 0 ≡ W = omega arith in
    let number : number_at s 0 0 ≡ 0 = zero-div (2 ^ (W - 0)) in
    rw number (record { short = omega arith; first_is = omega arith; last_is = rw none (omega (arith, is)); some = omega arith; fits = omega (arith, is) })

-- the ranges of the halves of a block, and their numbers
pub record HaveRanges (s : Sources) (first middle last n q : ℕ) : Type 0 where
  pub low : IsRangeOf s first middle n (number_at s n first)
  pub high : IsRangeOf s (middle + 1) last n (number_at s n (middle + 1))
  pub low_is : number_at s n first ≡ 2 * q
  pub high_is : number_at s n (middle + 1) ≡ 2 * q + 1

pub half-ranges : (s : Sources) (first last n q : ℕ) → n < width_of s.version → IsRangeOf s first last n q → HaveRanges s first (first + (last - first) / 2) last (n + 1) q
half-ranges s first last n q room range =
    let W = width_of s.version in
    let middle = first + (last - first) / 2 in
    let ends = halves_ends W n q first last room range.first_is range.last_is in
    let one : suc n ≡ n + 1 = omega arith in
    let low_first = ends.low_first ∙ ap (λ (m : ℕ). first_of W m (2 * q)) one in
    let high_first = ends.high_first ∙ ap (λ (m : ℕ). first_of W m (2 * q + 1)) one in
    let some : first + (last - first) / 2 + 1 ≤ last = omega (arith, block_some W (suc n) (2 * q + 1), ends.high_first, ends.high_last) in
    let low_is = first_number W (n + 1) (2 * q) first low_first in
    let high_is = first_number W (n + 1) (2 * q + 1) (middle + 1) high_first in
    record {
      low = rw low_is (record { short = omega arith; first_is = low_first; last_is = ends.low_last ∙ ap (λ (m : ℕ). last_of W m (2 * q)) one; some = omega arith; fits = omega (arith, range.fits, some) });
      high = rw high_is (record { short = omega arith; first_is = high_first; last_is = ends.high_last ∙ ap (λ (m : ℕ). last_of W m (2 * q + 1)) one; some = some; fits = range.fits });
      low_is = low_is;
      high_is = high_is;
    }

-- the numbers of a source's labels
pub known-numbers : (from to : List Label) (numbers : List (Option LabelId)) (s : StretchesModel) → AreNumbers numbers from to → AreLabelsBelow (length from) s → AreLabelsBelow (length numbers) s
known-numbers from to numbers s are known =
    let count : length from ≡ length numbers =
    sym (length-map from (number_of to)) ∙ ap (λ (ns : List (Option ℕ)). length ns) (sym are.each) ∙ length-map numbers (option_map (λ (id : LabelId). id.0)) in
    subst (λ (n : ℕ). AreLabelsBelow n s) count known

-- The fault of a leaf, by the stretches of the map and of the list.
module _ (s : Sources) (are : AreSources s) (o : Origin) (of : AreOf o s) (x : Label) where
  abbrev W : ℕ
  W = width_of s.version

  abbrev of_map : ℕ → ℕ → Bool
  of_map first last = has_one_label o.map.labels s.of_map.stretches.now first last x

  abbrev of_list : ℕ → ℕ → Bool
  of_list first last = has_one_label o.list.labels s.of_list.stretches.now first last x

  abbrev pub fault_by : Bool → Bool → Option CheckFaultKind
  fault_by settled decided = cond settled (cond decided None (Some ListDiffers)) (Some LeafNotUniform)

  abbrev IsLeafIn : ℕ → ℕ → Version → Type 0
  IsLeafIn n q v =
      n ≤ width_of v → last_of (width_of v) n q < 2 ^ width_of v
      → leaf_fault (map_of o.map) (list_of o.list).prefixes n q x
      ≡ fault_by (of_map (first_of (width_of v) n q) (last_of (width_of v) n q)) (of_list (first_of (width_of v) n q) (last_of (width_of v) n q))

  pub leaf-is : (n q : ℕ) → IsLeafIn n q s.version
  leaf-is n q =
      subst (IsLeafIn n q) of.map_version (λ short fits i.
      fault_by (map-settles o.map s.of_map.stretches.now (are.map_version ∙ sym of.map_version) of.map_stretches n q x fits i)
      (list-decides o.list s.of_list.stretches.now (are.list_version ∙ sym of.list_version) of.list_stretches.0 of.list_stretches.1 of.list_stretches.2 n q x
      o.map.version (are.list_version ∙ sym of.map_version) short fits i))

  -- by its addresses
  pub leaf-at : (first last n q : ℕ) → IsRangeOf s first last n q → leaf_fault (map_of o.map) (list_of o.list).prefixes n q x ≡ fault_by (of_map first last) (of_list first last)
  leaf-at first last n q range =
      leaf-is n q range.short (omega (arith, range.last_is, range.fits))
      ∙ (λ i. fault_by (of_map (sym range.first_is i) (sym range.last_is i)) (of_list (sym range.first_is i) (sym range.last_is i)))

  -- no block in a range that has the label in both has a fault
  pub range-clear : (first last : ℕ) → first < 2 ^ W → of_map first last ≡ true → of_list first last ≡ true → (n q : ℕ) → n ≤ W → first ≤ first_of W n q → last_of W n q < last + 1
      → leaf_fault (map_of o.map) (list_of o.list).prefixes n q x ≡ None
  range-clear first last fits in_map in_list n q short from to =
      let some = block_some W n q in
      let every = of.list_stretches.2.every in
      let fits_map = subst (λ (v : Version). first < 2 ^ width_of v) (sym are.map_version) fits in
      let fits_list = subst (λ (v : Version). first < 2 ^ width_of v) (sym are.list_version) fits in
      let ends = subst (λ (v : Version). last < 2 ^ width_of v) are.map_version
      (label-fits o.map.labels s.of_map.stretches.now of.map_stretches.every first last x fits_map in_map (omega (arith, some, from, to))) in
      leaf-is n q short (omega (arith, ends, to))
      ∙ (λ i. fault_by (narrower-label o.map.labels s.of_map.stretches.now of.map_stretches.every first last x fits_map in_map (first_of W n q) (last_of W n q) from some (omega (arith, to)) i)
      (narrower-label o.list.labels s.of_list.stretches.now every first last x fits_list in_list (first_of W n q) (last_of W n q) from some (omega (arith, to)) i))
