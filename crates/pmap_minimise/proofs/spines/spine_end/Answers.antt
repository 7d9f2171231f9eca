use Rattle.std.proofs.Common.{◌≡◌, ◌+◌, ◌-◌, ◌^◌, ◌<◌, ◌∙◌, ℕ, inl, inr, ap, arith, max, min, refl, subst, sym, true≢false}
use Rattle.std.specs.Prelude.{bit_xor}
use Rattle.std.specs.Int.Count.{count_leading_zeros}
use Rattle.prefix_keys.specs.Block.{block_number, first_of, width_of}
use Rattle.prefix_keys.specs.declared.version.Version.{Version}
use Rattle.pmap_minimise.proofs.SpineEnds.{block-last, direct-end, trimmed}
use Rattle.pmap_minimise.proofs.spines.spine_end.Goals as goal
use Rattle.pmap_minimise.proofs.spines.spine_end.Goals.{then-first-low, else-first-low}

pub invariant_of-block_of : goal.invariant_of-block_of
invariant_of-block_of c =
    let s = c.args.stretches.now in
    let a = c.args.window.now in
    let is = c.requires.counted in
    let inner = trimmed s c.args.side.0 a is c.requires.divided _ _ _ _ _ _ c.is_side.ensures.0 c.is_side-2.ensures.0 (ap (λ (n : ℕ). a.from + n) c.from.ensures) (ap (λ (n : ℕ). a.to - n) c.from-2.ensures)
    (c.max-low.ensures ∙ ap (max a.first) c.first.ensures) (c.min-high.ensures ∙ ap (min a.last) c.last.ensures)
    (λ own. absurd (true≢false (sym (c.is_side-3.ensures.1 own) ∙ c.if-is_side.false))) (λ own. absurd (true≢false (sym (c.is_side-else-is_side.ensures.1 own) ∙ c.if-is_side-2.false))) in
    let within = (is.few.stretches.each (a.from + c.from.result) inner.inside.low.index).within in
    record { in_range = subst (λ (v : Version). c.max-low.result < 2 ^ width_of v) (sym c.version-version.ensures) (omega (arith, inner.inside.low.to, within)) }

pub overflow_sub-len-2 : goal.overflow_sub-len-2
overflow_sub-len-2 c =
    let s = c.args.stretches.now in
    let a = c.args.window.now in
    let is = c.requires.counted in
    let inner = trimmed s c.args.side.0 a is c.requires.divided _ _ _ _ _ _ c.is_side.ensures.0 c.is_side-2.ensures.0 (ap (λ (n : ℕ). a.from + n) c.from.ensures) (ap (λ (n : ℕ). a.to - n) c.from-2.ensures)
    (c.max-low.ensures ∙ ap (max a.first) c.first.ensures) (c.min-high.ensures ∙ ap (min a.last) c.last.ensures)
    (λ own. absurd (true≢false (sym (c.is_side-3.ensures.1 own) ∙ c.if-is_side.false))) (λ own. absurd (true≢false (sym (c.is_side-else-is_side.ensures.1 own) ∙ c.if-is_side-2.false))) in
    let width : c.width.result ≡ width_of s.version = c.width.ensures ∙ ap width_of c.version-version.ensures in
    let few = inner.shared.few in
    omega arith

pub returns-then-last-high : goal.returns-then-last-high
returns-then-last-high c =
    let s = c.args.stretches.now in
    let a = c.args.window.now in
    let is = c.requires.counted in
    let inner = trimmed s c.args.side.0 a is c.requires.divided _ _ _ _ _ _ c.is_side.ensures.0 c.is_side-2.ensures.0 (ap (λ (n : ℕ). a.from + n) c.from.ensures) (ap (λ (n : ℕ). a.to - n) c.from-2.ensures)
    (c.max-low.ensures ∙ ap (max a.first) c.first.ensures) (c.min-high.ensures ∙ ap (min a.last) c.last.ensures)
    (λ own. absurd (true≢false (sym (c.is_side-3.ensures.1 own) ∙ c.if-is_side.false))) (λ own. absurd (true≢false (sym (c.is_side-else-is_side.ensures.1 own) ∙ c.if-is_side-2.false))) in
    let width : c.width.result ≡ width_of s.version = c.width.ensures ∙ ap width_of c.version-version.ensures in
    let host : ℕ = 128 - count_leading_zeros 128 (bit_xor c.max-low.result c.min-high.result) in
    let v = c.version-version.ensures in
    let block = c.block_of-block.ensures in
    let len : ℕ = c.width.result - host in
    direct-end s c.args.side.0 a is c.max-low.result c.min-high.result (a.from + c.from.result) (a.to - c.from-2.result) host inner.inside inner.shared _
    (ap (λ (w : ℕ). w - host) width) (subst (λ (v : Version). c.block_of-block.result.value ≡ first_of (width_of v) len (block_number (width_of v) len c.max-low.result)) v block.first)
    (block-last s.version c.block_of-block.result len c.max-low.result c.high.result.value (block.version ∙ v) block.len
    (subst (λ (v : Version). block_number (width_of v) len c.block_of-block.result.value ≡ block_number (width_of v) len c.max-low.result) v block.covering) c.high.ensures.last)
    (elim c.if-first-low.branch [
      | then-first-low w ↦ inl (w.if-first-low.true, w.from-is)
      | else-first-low w ↦ inr (w.if-first-low.false, w.from-is)
    ])
    (inl (c.if-last-high.true, refl))

pub returns-else-last-high : goal.returns-else-last-high
returns-else-last-high c =
    let s = c.args.stretches.now in
    let a = c.args.window.now in
    let is = c.requires.counted in
    let inner = trimmed s c.args.side.0 a is c.requires.divided _ _ _ _ _ _ c.is_side.ensures.0 c.is_side-2.ensures.0 (ap (λ (n : ℕ). a.from + n) c.from.ensures) (ap (λ (n : ℕ). a.to - n) c.from-2.ensures)
    (c.max-low.ensures ∙ ap (max a.first) c.first.ensures) (c.min-high.ensures ∙ ap (min a.last) c.last.ensures)
    (λ own. absurd (true≢false (sym (c.is_side-3.ensures.1 own) ∙ c.if-is_side.false))) (λ own. absurd (true≢false (sym (c.is_side-else-is_side.ensures.1 own) ∙ c.if-is_side-2.false))) in
    let width : c.width.result ≡ width_of s.version = c.width.ensures ∙ ap width_of c.version-version.ensures in
    let host : ℕ = 128 - count_leading_zeros 128 (bit_xor c.max-low.result c.min-high.result) in
    let v = c.version-version.ensures in
    let block = c.block_of-block.ensures in
    let len : ℕ = c.width.result - host in
    direct-end s c.args.side.0 a is c.max-low.result c.min-high.result (a.from + c.from.result) (a.to - c.from-2.result) host inner.inside inner.shared _
    (ap (λ (w : ℕ). w - host) width) (subst (λ (v : Version). c.block_of-block.result.value ≡ first_of (width_of v) len (block_number (width_of v) len c.max-low.result)) v block.first)
    (block-last s.version c.block_of-block.result len c.max-low.result c.high.result.value (block.version ∙ v) block.len
    (subst (λ (v : Version). block_number (width_of v) len c.block_of-block.result.value ≡ block_number (width_of v) len c.max-low.result) v block.covering) c.high.ensures.last)
    (elim c.if-first-low.branch [
      | then-first-low w ↦ inl (w.if-first-low.true, w.from-is)
      | else-first-low w ↦ inr (w.if-first-low.false, w.from-is)
    ])
    (inr (c.if-last-high.false, refl))
