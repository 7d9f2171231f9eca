-- Windows: blocks with the stretches at their ends.
use Rattle.std.proofs.Common.{◌≡◌, ℕ, suc, ◌+◌, ◌-◌, ◌*◌, ◌/◌, ◌^◌, ◌<◌, ◌≤◌, ◌∙◌, length, sym, ap, refl, arith, mul-div_cancel, pow_pos}
use Rattle.std.proofs.Math.Nat.{zero-div}
use Rattle.prefix_keys.specs.Block.{block_number, first_of, last_of, width_of}
use Rattle.pmap_stretches.specs.Stretches.{HasEveryAddress, HoldsAddress, StretchesModel, count_begun, last_at}
use Rattle.pmap_stretches.specs.Windows.{AreHalvesOf, IsBlock, IsWindow, window_number}
use Rattle.pmap_stretches.specs.declared.stretches.window.Window.{Window}
use Rattle.pmap_stretches.proofs.BlockHalves.{halves_ends, has_halves}
use Rattle.pmap_stretches.proofs.Ranges.{held_apart, held_fits, held_index, held_order, holder, last_end, ordered_at}

-- a block is not empty
pub block_some : (W n q : ℕ) → first_of W n q ≤ last_of W n q
block_some W n q = omega (arith, pow_pos (W - n))

-- the number of a block with this first address, and the numbers of its halves
pub first_number : (W n q first : ℕ) → first ≡ first_of W n q → block_number W n first ≡ q
first_number W n q first is = rw is (mul-div_cancel q (pow_pos (W - n)))

pub record AreHalves (W n q first middle last : ℕ) : Type 0 where
  pub low_number : block_number W (n + 1) first ≡ 2 * q
  pub high_number : block_number W (n + 1) (middle + 1) ≡ 2 * q + 1
  pub low : IsBlock W first middle (n + 1) (block_number W (n + 1) first)
  pub high : IsBlock W (middle + 1) last (n + 1) (block_number W (n + 1) (middle + 1))

pub are_halves : (W n q first last : ℕ) → n < W → IsBlock W first last n q → AreHalves W n q first (first + (last - first) / 2) last
are_halves W n q first last below block =
    let ends = halves_ends W n q first last below block.first_is block.last_is in
    let next : n + 1 ≡ suc n = omega arith in
    let low_number = first_number W (suc n) (2 * q) first ends.low_first in
    let high_number = first_number W (suc n) (2 * q + 1) (first + (last - first) / 2 + 1) ends.high_first in
    record {
      low_number = rw next low_number;
      high_number = rw next high_number;
      low = rw (next, low_number) (record { first_is = ends.low_first; last_is = ends.low_last });
      high = rw (next, high_number) (record { first_is = ends.high_first; last_is = ends.high_last });
    }

module _ (s : StretchesModel) (every : HasEveryAddress s) where
  -- only one stretch has an address
  pub one_index : (a i j : ℕ) → HoldsAddress s a i → HoldsAddress s a j → i ≡ j
  one_index a i j first second = sym (held_index s every a i first) ∙ held_index s every a j second

  -- all addresses are a window
  pub whole_window : (w : Window) → w.first ≡ 0 → w.len ≡ 0 → w.from ≡ 0 → w.to + 1 ≡ length s.firsts → w.last ≡ last_at s w.to → IsWindow s w
  whole_window w first len from to last =
      let W = width_of s.version in
      let all = last_end s w.to (omega arith) in
      let whole : W - 0 ≡ W = omega arith in
      let number : window_number s w ≡ 0 = ap (λ (a : ℕ). block_number W w.len a) first ∙ zero-div (2 ^ (W - w.len)) in
      let zero = every.zero in
      let inside : w.to < length s.firsts = omega arith in
      let end = ordered_at s every w.to inside in
      record {
        within = omega arith;
        block = rw number (rw len (record { first_is = omega arith; last_is = rw whole (omega arith) }));
        ordered = omega arith;
        start = rw (first, from) (record { index = every.some; from = omega (arith, zero); to = omega arith });
        end = rw last (record { index = inside; from = end; to = omega arith });
      }

  module _ (w : Window) (is : IsWindow s w) where
    pub ordered_window : w.first ≤ w.last
    ordered_window =
        let block = is.block in
        let some = block_some (width_of s.version) w.len (window_number s w) in
        omega arith

    -- a window with two stretches extends beyond the first
    pub window_beyond : (w.from ≡ w.to → ⊥) → last_at s w.from < w.last
    window_beyond other = held_apart s every w.first w.last w.from w.to is.start is.end ordered_window other

    pub window_some : (w.from ≡ w.to → ⊥) → w.first < w.last
    window_some other = let beyond = window_beyond other in let to = is.start.to in omega arith

    abbrev middle : ℕ
    middle = w.first + (w.last - w.first) / 2

    pub halves_windows : (at next : ℕ) → w.first < w.last → HoldsAddress s middle at → w.from ≤ at → HoldsAddress s (middle + 1) next
        → AreHalvesOf s w (record { first = w.first; last = middle; len = w.len + 1; from = w.from; to = at })
        (record { first = middle + 1; last = w.last; len = w.len + 1; from = next; to = w.to })
    halves_windows at next some low_end ordered high_start =
        let W = width_of s.version in
        let q = window_number s w in
        let block = is.block in
        let below = has_halves W w.len q is.within (let first_is = block.first_is in let last_is = block.last_is in omega arith) in
        let halves = are_halves W w.len q w.first w.last below block in
        record {
          low_window = record { within = omega arith; block = halves.low; ordered = ordered; start = is.start; end = low_end };
          high_window = record {
            within = omega arith;
            block = halves.high;
            ordered = held_order s every (middle + 1) w.last next w.to high_start is.end (omega arith);
            start = high_start;
            end = is.end;
          };
          low_first = refl;
          low_last = refl;
          high_first = refl;
          high_last = refl;
          low_len = refl;
          high_len = refl;
          low_number = halves.low_number;
          high_number = halves.high_number;
        }

    -- a window with two stretches has halves
    pub divided_window : (w.from ≡ w.to → ⊥) → (low : Window) × (high : Window) × AreHalvesOf s w low high
    divided_window other =
        let some = window_some other in
        let fits = held_fits s every w.last w.to is.end in
        let at = holder s every middle (omega arith) in
        let next = holder s every (middle + 1) (omega arith) in
        (_, _, halves_windows _ (count_begun s.firsts (middle + 1) - 1) some at (held_order s every w.first middle w.from _ is.start at (omega arith)) next)
