-- The blocks beside a path, of which none has a fault if the addresses before and after its end are clear.
use Rattle.std.proofs.Common.{◌≡◌, ◌∙◌, ◌⊎◌, inl, inr, ℕ, suc, ◌+◌, ◌-◌, ◌*◌, ◌^◌, ◌<◌, ◌≤◌, Bool, true, false, List, [], ◌∷◌, length, Option, None, refl, sym, ap, subst, arith, pow_pos}
use Rattle.std.specs.Option.{option_or}
use Rattle.prefix_keys.proofs.Quotients.{whole}
use Rattle.prefix_keys.specs.Block.{first_of, last_of, width_of}
use Rattle.prefix_keys.specs.declared.block.Block.{Block}
use Rattle.prefix_keys.specs.declared.version.Version.{Version}
use Rattle.pmap_model.specs.ListModel.{Prefix}
use Rattle.pmap_model.specs.MapModel.{Label, MapModel}
use Rattle.pmap_model.specs.MapText.{map_of}
use Rattle.pmap_model.specs.PrefixList.{list_of, number_of_block}
use Rattle.pmap_stretches.proofs.BlockHalves.{high_lies_in, low_lies_in}
use Rattle.pmap_cert.specs.CertificateModel.{chosen_half, side_half}
use Rattle.pmap_cert.specs.Paths.{LeadsTo, path_number}
use Rattle.cert_check.specs.Checking.{leaf_fault, CheckFaultKind}
use Rattle.cert_check.specs.Inner.{AreOf, IsClear, Origin, Sources, sides_fault}

-- the lower half of a block ends right before the upper
lower-before : (W n q : ℕ) → last_of W (suc n) (2 * q) + 1 ≡ first_of W (suc n) (2 * q + 1)
lower-before W n q = let some = pow_pos (W - suc n) in omega (arith, some)

-- a half lies in its block
half-within : (W n q : ℕ) (bit : Bool) → n < W → (first_of W n q ≤ first_of W (suc n) (chosen_half bit q)) × (last_of W (suc n) (chosen_half bit q) ≤ last_of W n q)
half-within W n q true below = let half = high_lies_in W n q below in (half.from, half.to)
half-within W n q false below = let half = low_lies_in W n q below in (half.from, half.to)

side-within : (W n q : ℕ) (bit : Bool) → n < W → (first_of W n q ≤ first_of W (suc n) (side_half bit q)) × (last_of W (suc n) (side_half bit q) ≤ last_of W n q)
side-within W n q true below = let half = low_lies_in W n q below in (half.from, half.to)
side-within W n q false below = let half = high_lies_in W n q below in (half.from, half.to)

-- the other half lies before the chosen one or after it
side-apart : (W n q : ℕ) (bit : Bool) → (last_of W (suc n) (side_half bit q) < first_of W (suc n) (chosen_half bit q)) ⊎ (last_of W (suc n) (chosen_half bit q) < first_of W (suc n) (side_half bit q))
side-apart W n q true = inl (omega (arith, lower-before W n q))
side-apart W n q false = inr (omega (arith, lower-before W n q))

-- the end of a path lies in its block
path-in : (W : ℕ) (bits : List Bool) (n q k : ℕ) → k ≡ n + length bits → k ≤ W
    → (first_of W n q ≤ first_of W k (path_number bits q)) × (last_of W k (path_number bits q) ≤ last_of W n q)
path-in W [] n q k is le =
    let same : n ≡ k = omega (arith, is) in
    subst (λ (i : ℕ). (first_of W n q ≤ first_of W i q) × (last_of W i q ≤ last_of W n q)) same (omega arith, omega arith)
path-in W (bit ∷ bits) n q k is le =
    let half = half-within W n q bit (omega (arith, is, le)) in
    let rest = path-in W bits (suc n) (chosen_half bit q) k (omega (arith, is)) le in
    (omega (arith, half.0, rest.0), omega (arith, half.1, rest.1))

-- No block from F on and before the address `start` has a fault as a leaf with the label x, nor one from `stop` on and
-- before L.
module _ (m : MapModel) (ps : List Prefix) (x : Label) (W F start stop L : ℕ)
    (before : (n q : ℕ) → n ≤ W → F ≤ first_of W n q → last_of W n q < start → leaf_fault m ps n q x ≡ None)
    (after : (n q : ℕ) → n ≤ W → stop ≤ first_of W n q → last_of W n q < L → leaf_fault m ps n q x ≡ None) where
  pub sides-clear : (bits : List Bool) (n q k : ℕ) → k ≡ n + length bits → k ≤ W → F ≤ first_of W n q → last_of W n q < L
      → start ≡ first_of W k (path_number bits q) → stop ≡ last_of W k (path_number bits q) + 1 → sides_fault m ps x bits n q ≡ None
  sides-clear [] n q k is short from to starts stops = refl
  sides-clear (bit ∷ bits) n q k is short from to starts stops =
      let t = chosen_half bit q in
      let u = side_half bit q in
      let below : n < W = omega (arith, is, short) in
      let half = half-within W n q bit below in
      let side = side-within W n q bit below in
      let inside = path-in W bits (suc n) t k (omega (arith, is)) short in
      let own : leaf_fault m ps (suc n) u x ≡ None = elim (side-apart W n q bit) [
        | inl early ↦ before (suc n) u (omega (arith, below)) (omega (arith, from, side.0)) (omega (arith, early, inside.0, starts))
        | inr late ↦ after (suc n) u (omega (arith, below)) (omega (arith, late, inside.1, stops)) (omega (arith, side.1, to))
      ] in
      ap (λ (o : Option CheckFaultKind). option_or o (leaf_fault m ps (suc n) u x))
      (sides-clear bits (suc n) t k (omega (arith, is)) short (omega (arith, from, half.0)) (omega (arith, half.1, to)) starts stops) ∙ own

block-first : (b : Block) → first_of (width_of b.version) b.len (number_of_block b) ≡ b.value
block-first b = whole b.value (2 ^ (width_of b.version - b.len)) (pow_pos (width_of b.version - b.len)) b.no_host_bit

-- the blocks beside the path from a block to its end
pub path-clear : (s : Sources) (o : Origin) (of : AreOf o s) (x : Label) (b end : Block) → b.version ≡ s.version → (bits : List Bool) → LeadsTo b end bits
    → IsClear s b.value end.value x
    → IsClear s (last_of (width_of end.version) end.len (number_of_block end) + 1) (last_of (width_of b.version) b.len (number_of_block b) + 1) x
    → sides_fault (map_of o.map) (list_of o.list).prefixes x bits b.len (number_of_block b) ≡ None
path-clear s o of x b end version bits path before after =
    let same : end.version ≡ s.version = path.version ∙ version in
    let W = width_of s.version in
    let first = subst (λ (v : Version). first_of (width_of v) b.len (number_of_block b) ≡ b.value) version (block-first b) in
    let last = subst (λ (v : Version). last_of (width_of b.version) b.len (number_of_block b) ≡ last_of (width_of v) b.len (number_of_block b)) version refl in
    let start = subst (λ (v : Version). first_of (width_of v) end.len (number_of_block end) ≡ end.value) same (block-first end) in
    let stop = subst (λ (v : Version). last_of (width_of end.version) end.len (number_of_block end) ≡ last_of (width_of v) end.len (number_of_block end)) same refl in
    sides-clear (map_of o.map) (list_of o.list).prefixes x W b.value end.value (last_of (width_of end.version) end.len (number_of_block end) + 1)
    (last_of (width_of b.version) b.len (number_of_block b) + 1) (before o of) (after o of) bits b.len (number_of_block b) end.len path.len
    (subst (λ (v : Version). end.len ≤ width_of v) same end.len_in_range) (omega (arith, first)) (omega (arith, last))
    (sym start ∙ ap (first_of W end.len) path.number) (ap (λ (a : ℕ). a + 1) (stop ∙ ap (last_of W end.len) path.number))
