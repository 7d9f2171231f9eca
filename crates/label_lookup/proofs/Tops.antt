-- The stretches among which an index searches for the one that has an address.
use Rattle.std.proofs.Common.{◌≡◌, ◌∙◌, ℕ, ◌+◌, ◌-◌, ◌*◌, ◌/◌, ◌^◌, ◌<◌, ◌≤◌, inl, inr, List, [], ◌∷◌, ◌++◌, get_or, length, option_and_then, slice_get, refl, sym, ap, subst, arith}
use Rattle.std.proofs.Math.Nat.{div-lt_iff_lt-mul}
use Rattle.std.proofs.lemmas.Bool.{cases_lt}
use Rattle.std.proofs.lemmas.List.{get_or_append_left, get_or_push, get_or_read, length_push}
use Rattle.std.proofs.lemmas.Nat.{div-add-mod', mod_below, pow_pos}
use Rattle.prefix_keys.specs.Block.{width_of}
use Rattle.prefix_keys.specs.declared.version.Version.{Version}
use Rattle.prefix_keys.specs.declared.version.Version.TheVariants.{V4, V6}
use Rattle.pmap_stretches.specs.Stretches.{HasEveryAddress, HoldsAddress, StretchesModel, first_at, label_at, last_at, text_held}
use Rattle.pmap_stretches.proofs.Ranges.{ends_before, last_end, next_first, text_at_index}
use Rattle.label_lookup.specs.Labelling.{AreTops, IsTopAt, StretchModel, block_size, labelling}
use Rattle.label_lookup.proofs.Labellings.{same_at_addresses}

-- the blocks cover every address
pub all_blocks : (v : Version) → 2 ^ width_of v ≡ 65536 * 2 ^ (width_of v - 16)
all_blocks V4 = refl
all_blocks V6 = refl

-- the stretch that has the first address of a block
pub top_held : (s : StretchesModel) (block index first : ℕ) → HoldsAddress s first index → first ≡ block * block_size s → IsTopAt s block index
top_held s block index first holds is = record { below = holds.index; from = omega (arith, holds.from, is); to = omega (arith, holds.to, is) }

-- the last stretch, at the end
pub top_end : (s : StretchesModel) → HasEveryAddress s → IsTopAt s 65536 (length s.firsts - 1)
top_end s every =
    let below : length s.firsts - 1 < length s.firsts = omega (arith, every.some) in
    record {
      below = below;
      from = omega (arith, every.within (length s.firsts - 1) below, all_blocks s.version);
      to = omega (arith, last_end s (length s.firsts - 1) (omega arith), all_blocks s.version, pow_pos (width_of s.version));
    }

-- the tops of the blocks before one, followed by that of the block
pub more_tops : (s : StretchesModel) (tops : List ℕ) (block index : ℕ) → length tops ≡ block
    → ((b : ℕ) → b < block → IsTopAt s b (get_or tops b 0)) → IsTopAt s block index
    → (b : ℕ) → b < block + 1 → IsTopAt s b (get_or (tops ++ index ∷ []) b 0)
more_tops s tops block index long each top b below = elim (cases_lt b block) [
  | inl less ↦ subst (IsTopAt s b) (sym (get_or_append_left tops (index ∷ []) 0 b (omega (arith, less, long)))) (each b less)
  | inr more ↦
      let here : b ≡ block = omega (arith, below, more) in
      subst (IsTopAt s b) (sym (get_or_push tops index 0 b (omega (arith, here, long)))) (subst (λ (k : ℕ). IsTopAt s k index) (sym here) top)
]

-- all tops
pub tops_all : (s : StretchesModel) → HasEveryAddress s → (tops tops' : List ℕ) (last : ℕ) → length tops ≡ 65536
    → ((b : ℕ) → b < 65536 → IsTopAt s b (get_or tops b 0)) → last ≡ length s.firsts - 1 → tops' ≡ tops ++ last ∷ [] → AreTops s tops'
tops_all s every tops tops' last long each is pushed = record {
  long = ap (λ (l : List ℕ). length l) pushed ∙ length_push tops last ∙ ap (λ (n : ℕ). n + 1) long;
  each = λ b le. subst (λ (l : List ℕ). IsTopAt s b (get_or l b 0)) (sym pushed)
      (more_tops s tops 65536 last long each (subst (IsTopAt s 65536) (sym is) (top_end s every)) b (omega (arith, le)));
}

-- The stretch of an address is between the top of its block and that of the next block.
module _ (s : StretchesModel) (every : HasEveryAddress s) (tops : List ℕ) (are : AreTops s tops) (a : ℕ) (fits : a < 2 ^ width_of s.version) where
  abbrev block : ℕ
  block = a / block_size s

  abbrev from : ℕ
  from = get_or tops block 0

  abbrev to : ℕ
  to = get_or tops (block + 1) 0

  pub block_small : block < 65536
  block_small = (div-lt_iff_lt-mul {k = block_size s} {x = a} {y = 65536} (pow_pos (width_of s.version - 16))).1 (omega (arith, fits, all_blocks s.version))

  top_from : IsTopAt s block from
  top_from = are.each block (omega (arith, block_small))

  top_to : IsTopAt s (block + 1) to
  top_to = are.each (block + 1) (omega (arith, block_small))

  pub from_begins : first_at s from ≤ a
  from_begins = let whole = div-add-mod' a (block_size s) in omega (arith, whole, top_from.from)

  pub to_ends : a ≤ last_at s to
  to_ends =
      let whole = div-add-mod' a (block_size s) in
      let rest = mod_below a (block_size s) (pow_pos (width_of s.version - 16)) in
      omega (arith, whole, rest, top_to.to)

  pub tops_order : from ≤ to
  tops_order = elim (cases_lt to from) [
    | inl less ↦ let apart = ends_before s every to from less top_from.below in absurd (omega (arith, apart, from_begins, to_ends))
    | inr up ↦ up
  ]

  -- this is also so with the two tops that were read
  module _ (width x y : ℕ) (is : width ≡ width_of s.version) (x_is : x ≡ get_or tops (a / 2 ^ (width - 16)) x)
      (y_is : y ≡ get_or tops (a / 2 ^ (width - 16) + 1) y) where
    read_from : from ≡ x
    read_from = sym (get_or_read tops block x (omega (arith, block_small, are.long)) (rw is at x_is) 0)

    read_to : to ≡ y
    read_to = sym (get_or_read tops (block + 1) y (omega (arith, block_small, are.long)) (rw is at y_is) 0)

    pub read_order : x ≤ y
    read_order = omega (arith, read_from, read_to, tops_order)

    pub read_below : y < length s.firsts
    read_below = omega (arith, read_to, top_to.below)

    pub read_begins : first_at s x ≤ a
    read_begins = let same : first_at s from ≡ first_at s x = ap (first_at s) read_from in omega (arith, same, from_begins)

    pub read_ends : a ≤ last_at s y
    read_ends = let same : last_at s to ≡ last_at s y = ap (last_at s) read_to in omega (arith, same, to_ends)

-- the label text that is found for an address
pub label_found : (m : StretchModel) → HasEveryAddress m.stretches → (a i : ℕ) → HoldsAddress m.stretches a i → a < 2 ^ width_of m.stretches.version
    → option_and_then (λ id. slice_get m.table id.0) (label_at m.stretches i) ≡ (labelling m.stretches.version (text_held m.table m.stretches)).label a
label_found m every a i holds fits =
    sym (text_at_index m.stretches every m.table a i holds) ∙ same_at_addresses m.stretches.version (text_held m.table m.stretches) a fits

-- an address beyond a stretch is in a later one
pub later_stretch : (s : StretchesModel) → HasEveryAddress s → (i a : ℕ) → i < length s.firsts → last_at s i < a → a < 2 ^ width_of s.version
    → (i + 1 < length s.firsts) × (first_at s (i + 1) ≤ a)
later_stretch s every i a below beyond fits = elim (cases_lt (i + 1) (length s.firsts)) [
  | inl more ↦ (more, omega (arith, next_first s every i more, beyond))
  | inr end ↦ absurd (omega (arith, last_end s i end, beyond, fits))
]
