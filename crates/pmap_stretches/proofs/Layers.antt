-- Any stretches are those of some statements, one for each stretch, which covers the addresses from the stretch on. The
-- number of stretches is bounded by that of the statements.
use Rattle.std.proofs.Common.{◌≡◌, ◌≢◌, ◌∙◌, ℕ, zero, suc, ◌+◌, ◌-◌, ◌*◌, ◌^◌, ◌<◌, ◌≤◌, ◌&&◌, inl, inr, Bool, true, false, cond, List, [], ◌∷◌, ◌++◌, All, Contains, IsSome, Option, Some, None, length, min, nat_le, nat_lt, pow_pos, unwrap_or, refl, ap, arith, subst, sym}
use Rattle.std.specs.Option.{ForSome}
use Rattle.std.proofs.lemmas.Bool.{and_from, and_left, cases_lt, le-leb, lt-leb}
use Rattle.std.proofs.lemmas.Bool.Decides.{nat_tests}
use Rattle.std.proofs.lemmas.List.{length-map, length_push, map-append}
use Rattle.std.proofs.lemmas.List.Elements.{All-nil, All-push, Contains-append_left, Contains-push}
use Rattle.std.proofs.lemmas.Option.{same_Some}
use Rattle.prefix_keys.specs.Block.{width_of}
use Rattle.pmap_model.specs.MapModel.{Label, Mapping, MapModel, last_such, spans}
use Rattle.pmap_model.specs.MapText.{mapping_of, mappings_of}
use Rattle.pmap_model.specs.declared.statement.Statement.{Statement}
use Rattle.pmap_model.specs.declared.label.LabelId.{LabelId}
use Rattle.pmap_model.specs.Settled.{ends, ends_of_mapping, one_if}
use Rattle.pmap_stretches.specs.Stretches.{AreStretches, HasEveryAddress, HoldsAddress, IsStretch, StretchesModel, count_begun, first_at, label_at, last_at, winner}
use Rattle.pmap_model.proofs.Ends.{ends-few}
use Rattle.pmap_model.proofs.LastSuch.{last_such-push}
use Rattle.pmap_stretches.proofs.Ranges.{ends_before, holder, last_before, last_end, ordered_at}
use Rattle.pmap_stretches.proofs.Seen.{seen_at}

-- the first address of a stretch, in a form that fits the version for each index
abbrev pub low_at : StretchesModel → ℕ → ℕ
low_at s i = min (first_at s i) (2 ^ width_of s.version - 1)

pub fits-low : (s : StretchesModel) (i : ℕ) → low_at s i < 2 ^ width_of s.version
fits-low s i = let some : 0 < 2 ^ width_of s.version = pow_pos (width_of s.version) in omega arith

pub fits-high : (s : StretchesModel) → 2 ^ width_of s.version - 1 < 2 ^ width_of s.version
fits-high s = let some : 0 < 2 ^ width_of s.version = pow_pos (width_of s.version) in omega arith

pub low-high : (s : StretchesModel) (i : ℕ) → low_at s i ≤ 2 ^ width_of s.version - 1
low-high s i = omega arith

-- the statement of a stretch, and those of the first n stretches
abbrev pub layer : StretchesModel → ℕ → Statement
layer s i = record {
  span = record {
    low = record { version = s.version; value = low_at s i; in_range = fits-low s i };
    high = record { version = s.version; value = 2 ^ width_of s.version - 1; in_range = fits-high s };
    one_version = refl;
    ordered = low-high s i;
  };
  label = unwrap_or (label_at s i) (record { 0 = 0 });
}

abbrev pub layers_to : StretchesModel → ℕ → List Statement
layers_to s zero = []
layers_to s (suc n) = layers_to s n ++ layer s n ∷ []

abbrev pub layers : StretchesModel → List Statement
layers s = layers_to s (length s.firsts)

pub length-layers_to : (s : StretchesModel) (n : ℕ) → length (layers_to s n) ≡ n
length-layers_to s zero = refl
length-layers_to s (suc n) = length_push (layers_to s n) (layer s n) ∙ omega (arith, length-layers_to s n)

layer-listed : (s : StretchesModel) (n i : ℕ) → i < n → Contains (layers_to s n) (layer s i)
layer-listed s zero i less = absurd (omega arith)
layer-listed s (suc n) i less = elim (cases_lt i n) [
  | inl under ↦ Contains-append_left (layers_to s n) (layer s n ∷ []) (layer s i) (layer-listed s n i under)
  | inr top ↦
      let same : n ≡ i = omega (arith, less, top) in
      subst (λ k. Contains (layers_to s n ++ layer s n ∷ []) (layer s k)) same (Contains-push (layers_to s n) (layer s n))
]

-- the labels of the statements are those of the stretches
pub layers-known : (s : StretchesModel) (count n : ℕ) → ((i : ℕ) → i < n → ForSome (label_at s i) (λ id. id.0 < count)) → 0 < count → All (λ x. x.label.0 < count) (layers_to s n)
layers-known s count zero known some = All-nil (λ x. x.label.0 < count)
layers-known s count (suc n) known some =
    All-push (λ x. x.label.0 < count) (layers_to s n) (layer s n) (layers-known s count n (λ i less. known i (omega (arith, less))) some) (given (label_at s n) (known n (omega arith)))
  where
    given : (l : Option LabelId) → ForSome l (λ id. id.0 < count) → (unwrap_or l (record { 0 = 0 })).0 < count
    given (Some id) is = is id refl
    given None is = some

module _ (s : StretchesModel) (every : HasEveryAddress s) where
  pub last-within : (i : ℕ) → i < length s.firsts → last_at s i < 2 ^ width_of s.version
  last-within i below = elim (cases_lt (i + 1) (length s.firsts)) [
    | inl more ↦ omega (arith, last_before s i more, every.within (i + 1) more)
    | inr end ↦ omega (arith, last_end s i end, every.within i below)
  ]

  low-is : (i : ℕ) → i < length s.firsts → low_at s i ≡ first_at s i
  low-is i below = omega (arith, every.within i below)

  -- the last statement that covers an address is that of the address's stretch
  pub layer-wins : (table : List Label) (a i n : ℕ) → HoldsAddress s a i → i < n → n ≤ length s.firsts
      → last_such (spans a) (mappings_of table (layers_to s n)) ≡ Some (mapping_of table (layer s i))
  layer-wins table a i zero holds less most = absurd (omega arith)
  layer-wins table a i (suc n) holds less most =
      ap (last_such (spans a)) (map-append (mapping_of table) (layers_to s n) (layer s n ∷ []))
      ∙ last_such-push (spans a) (mappings_of table (layers_to s n)) (mapping_of table (layer s n))
      ∙ elim (cases_lt i n) [
        | inl under ↦
            let above = ends_before s every i n under (omega (arith, most)) in
            let not_yet : spans a (mapping_of table (layer s n)) ≡ false =
            and_left (nat_le (low_at s n) a) (nat_le a (2 ^ width_of s.version - 1)) (lt-leb (low_at s n) a (omega (arith, above, holds.to, low-is n (omega (arith, most))))) in
            ap (λ (b : Bool). cond b (Some (mapping_of table (layer s n))) (last_such (spans a) (mappings_of table (layers_to s n)))) not_yet
            ∙ layer-wins table a i n holds under (omega (arith, most))
        | inr top ↦
            let same : n ≡ i = omega (arith, less, top) in
            let from : low_at s n ≤ a = subst (λ k. low_at s k ≤ a) (sym same) (omega (arith, low-is i holds.index, holds.from)) in
            let fits = last-within i holds.index in
            let covers : spans a (mapping_of table (layer s n)) ≡ true =
            and_from (nat_le (low_at s n) a) (nat_le a (2 ^ width_of s.version - 1)) (le-leb (low_at s n) a from) (le-leb a _ (omega (arith, fits, holds.to))) in
            ap (λ (b : Bool). cond b (Some (mapping_of table (layer s n))) (last_such (spans a) (mappings_of table (layers_to s n)))) covers
            ∙ ap (λ k. Some (mapping_of table (layer s k))) same
      ]

  module _ (m : MapModel) (width : width_of m.version ≡ width_of s.version) (mappings : m.mappings ≡ mappings_of m.table (layers s)) where
    layer-winner : (a i : ℕ) → HoldsAddress s a i → winner m a ≡ Some (mapping_of m.table (layer s i))
    layer-winner a i holds = ap (last_such (spans a)) mappings ∙ layer-wins m.table a i (length s.firsts) holds holds.index (omega arith)

    -- at an address outside of a stretch another statement wins
    layer-other : (a i : ℕ) → a < 2 ^ width_of s.version → i < length s.firsts → (HoldsAddress s a i → ⊥) → winner m a ≢ Some (mapping_of m.table (layer s i))
    layer-other a i fits below outside same =
        let k = count_begun s.firsts a - 1 in
        let holds = holder s every a fits in
        let low : low_at s k ≡ low_at s i = ap (λ (p : Mapping). p.low) (same_Some _ _ (sym (layer-winner a k holds) ∙ same)) in
        let first : first_at s k ≡ first_at s i = omega (arith, low, low-is k holds.index, low-is i below) in
        outside (record { index = below; from = omega (arith, holds.from, first); to = upper k holds first })
      where
        upper : (k : ℕ) → HoldsAddress s a k → first_at s k ≡ first_at s i → a ≤ last_at s i
        upper k holds low = elim (cases_lt k i) [
          | inl less ↦ absurd (omega (arith, every.ascending k i less below, low))
          | inr up ↦ elim (cases_lt i k) [
            | inl less ↦ absurd (omega (arith, every.ascending i k less holds.index, low))
            | inr down ↦ let same : k ≡ i = omega (arith, up, down) in subst (λ j. a ≤ last_at s j) same holds.to
          ]
        ]

    layer-stretch : (i : ℕ) → i < length s.firsts → IsStretch m (first_at s i) (last_at s i) (Some (mapping_of m.table (layer s i)))
    layer-stretch i below = record {
      ordered = ordered_at s every i below;
      within = subst (λ w. last_at s i < 2 ^ w) (sym width) (last-within i below);
      same = λ a from to. layer-winner a i (record { index = below; from = from; to = to });
      before = λ a at. layer-other a i (omega (arith, at, ordered_at s every i below, last-within i below)) below (λ holds. omega (arith, at, holds.from));
      after = λ more.
          layer-other (last_at s i + 1) i (subst (λ w. last_at s i + 1 < 2 ^ w) width more) below (λ holds. omega (arith, holds.to));
    }

  -- the stretches are those of their statements, whatever the default is
  pub are-layers : (default : Option LabelId) → ((i : ℕ) → i < length s.firsts → IsSome (label_at s i)) → AreStretches (layers s) default s
  are-layers default labelled = record {
    every = every;
    each = λ i below. record {
      ordered = ordered_at s every i below;
      within = last-within i below;
      top = Some (layer s i);
      listed = λ x is. subst (Contains (layers s)) (same_Some (layer s i) x is) (layer-listed s (length s.firsts) i below);
      label_is = given (label_at s i) (labelled i below);
      stretch = λ m width mappings. layer-stretch m width mappings i below;
    };
  }
    where
      given : (l : Option LabelId) → IsSome l → l ≡ Some (unwrap_or l (record { 0 = 0 }))
      given (Some id) some = refl
      given None some = absurd cc

-- The number of stretches.

ends_of-shared : (first middle last : ℕ) (m : Mapping) → first ≤ middle → middle ≤ last → ends_of_mapping first middle m + ends_of_mapping middle last m ≤ ends_of_mapping first last m
unfolding ends_of_mapping
ends_of-shared first middle last m le le' = by m.low m.high le le'
  where
    by : (low high : ℕ) → first ≤ middle → middle ≤ last
        → one_if (nat_lt first low && nat_le low middle) + one_if (nat_le first high && nat_lt high middle)
        + (one_if (nat_lt middle low && nat_le low last) + one_if (nat_le middle high && nat_lt high last))
        ≤ one_if (nat_lt first low && nat_le low last) + one_if (nat_le first high && nat_lt high last)
    by low high le le' = grind (arith, nat_tests)

ends-shared : (first middle last : ℕ) (ms : List Mapping) → first ≤ middle → middle ≤ last → ends first middle ms + ends middle last ms ≤ ends first last ms
unfolding ends
ends-shared first middle last [] le le' = omega arith
ends-shared first middle last (m ∷ ms) le le' = omega (arith, ends_of-shared first middle last m le le', ends-shared first middle last ms le le')

-- without an end between two neighbours, a mapping covers both or neither
ends_of-none : (a : ℕ) (m : Mapping) → ends_of_mapping a (a + 1) m ≡ 0 → spans a m ≡ spans (a + 1) m
unfolding ends_of_mapping
ends_of-none a m none = by m.low m.high none
  where
    by : (low high : ℕ) → one_if (nat_lt a low && nat_le low (a + 1)) + one_if (nat_le a high && nat_lt high (a + 1)) ≡ 0
        → (nat_le low a && nat_le a high) ≡ (nat_le low (a + 1) && nat_le (a + 1) high)
    by low high none = grind (arith, nat_tests)

ends-none : (a : ℕ) (ms : List Mapping) → ends a (a + 1) ms ≡ 0 → last_such (spans a) ms ≡ last_such (spans (a + 1)) ms
unfolding ends
ends-none a [] none = refl
ends-none a (m ∷ ms) none =
    let here = ends_of-none a m (omega (arith, none)) in
    let rest = ends-none a ms (omega (arith, none)) in
    rw (here, rest) refl

-- there are at most two more stretches for each statement, if another one is seen where a stretch begins
module _ (ss : List Statement) (s : StretchesModel) (every : HasEveryAddress s)
    (other : (i : ℕ) → 0 < i → i < length s.firsts → seen_at [] ss (first_at s i - 1) ≢ seen_at [] ss (first_at s i)) where
  abbrev ms : List Mapping
  ms = mappings_of [] ss

  counted : (i : ℕ) → i < length s.firsts → i ≤ ends 0 (first_at s i) ms
  counted zero below = omega arith
  counted (suc i) below =
      let order = every.ascending i (suc i) (omega arith) below in
      by (first_at s (suc i) - 1) (omega (arith, order)) (omega (arith, order)) (other (suc i) (omega arith) below) (counted i (omega (arith, below)))
    where
      by : (a : ℕ) → a + 1 ≡ first_at s (suc i) → first_at s i ≤ a → seen_at [] ss a ≢ seen_at [] ss (first_at s (suc i))
          → i ≤ ends 0 (first_at s i) ms → suc i ≤ ends 0 (first_at s (suc i)) ms
      by a next from other before =
          let here = ends-shared 0 (first_at s i) a ms (omega arith) from in
          let all = ends-shared 0 a (first_at s (suc i)) ms (omega arith) (omega (arith, next)) in
          elim (cases_lt 0 (ends a (first_at s (suc i)) ms)) [
            | inl some ↦ omega (arith, before, here, all, some)
            | inr none ↦
                let zero_is : ends a (a + 1) ms ≡ 0 = rw next (omega (arith, none)) in
                absurd (other (ends-none a ms zero_is ∙ ap (λ k. last_such (spans k) ms) next))
          ]

  pub stretches-few : length s.firsts ≤ 2 * length ss + 1
  stretches-few =
      let last = length s.firsts - 1 in
      let some = every.some in
      omega (arith, some, counted last (omega (arith, some)), ends-few 0 (first_at s last) ms, length-map ss (mapping_of []))
