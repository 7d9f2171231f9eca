-- Groups of several parts of the rows, merged, divide all rows.
use Rattle.std.proofs.Common.{◌≡◌, ℕ, ◌+◌, ◌<◌, ◌≤◌, Bool, true, false, not, ◌||◌, cond, List, [], ◌∷◌, ◌++◌, length, map, filter, true≢false, refl, sym, ap, subst, ◌∙◌, arith, length-append}
use Rattle.std.specs.Prelude.{sum_by}
use Rattle.std.specs.List.{AllByRecursion, IsDistinct, flat_map, list_any}
use Rattle.std.proofs.lemmas.Bool.{or_parts}
use Rattle.std.proofs.lemmas.List.{length-map, map-append, map-id, nil_from_length}
use Rattle.std.proofs.lemmas.List.Elements.{All-from_recursion, All-map, All-weaker, filter-append, recursion_from_All}
use Rattle.std.proofs.lemmas.List.Filters.{length-filter_both, sum_by-filter_both}
use Rattle.std.proofs.lemmas.List.Sums.{sum_by-append, sum_by-cons}
use Rattle.std.proofs.lemmas.Map.Keys.{IsDistinct-head, IsDistinct-tail}
use Rattle.std.proofs.lemmas.Simd.{map-map}
use Rattle.flow_rows.specs.Elements.{RowView}
use Rattle.flow_uniq.specs.Key.{Key, same_key}
use Rattle.flow_uniq.specs.Groups.{GroupModel, distinct_keys}
use Rattle.flow_uniq.specs.Laws.{DivideRows, MergedDivide, SumsItsRows, merged, totals_at}
use Rattle.flow_uniq.proofs.Grouping.{any-distinct_keys, rows_with, same_key-equiv}
use Rattle.flow_uniq.proofs.Dividing.{by_key-all, by_key-others, distinct-distinct_keys, has-row, have-more, have-rows, keyed_by, other_rows, rows_with-keyed, sum_by-keyed}

-- rows with the same key
rows_with-same : (k d : Key) (rows : List (Key × RowView)) → same_key k d ≡ true → rows_with d rows ≡ rows_with k rows
rows_with-same k d rows s = λ i. filter (λ r. sym (same_key-equiv.congr k d r.0 s) i) rows

-- the keys of groups
abbrev pub keys_in : List GroupModel → List Key
keys_in groups = map (λ g. g.key) groups

abbrev pub has_key : Key → List GroupModel → Bool
has_key k groups = list_any (same_key k) (keys_in groups)

none_same : (k : Key) (groups : List GroupModel) → has_key k groups ≡ false → AllByRecursion (λ d. same_key k d ≡ false) (keys_in groups)
none_same k [] none = tt
none_same k (g ∷ groups) none = let each = or_parts (same_key k g.key) (has_key k groups) none in (each.0, none_same k groups each.1)

-- a key that differs from all
lacks_key : (k d : Key) (groups : List GroupModel) → same_key k d ≡ true → AllByRecursion (λ e. same_key d e ≡ false) (keys_in groups) → has_key k groups ≡ false
lacks_key k d [] s apart = refl
lacks_key k d (g ∷ groups) s apart = rw (same_key-equiv.congr k d g.key s ∙ apart.0) (lacks_key k d groups s apart.1)

-- ---- a number of rows, such as the sum of their packets, and the same number of a group

module _ (F : List (Key × RowView) → ℕ) (part : GroupModel → ℕ) (rows : List (Key × RowView)) where
  -- the sum over the groups with a key
  abbrev pub at_key : Key → List GroupModel → ℕ
  at_key k groups = sum_by part (filter (λ g. same_key k g.key) groups)

  -- each group has the number of the rows with its key
  abbrev HaveNumbers : List GroupModel → Type 0
  HaveNumbers groups = AllByRecursion (λ g. part g ≡ F (rows_with g.key rows)) groups

  at_key-lacking : (k : Key) (groups : List GroupModel) → has_key k groups ≡ false → at_key k groups ≡ 0
  at_key-lacking k [] none = refl
  at_key-lacking k (g ∷ groups) none = let each = or_parts (same_key k g.key) (has_key k groups) none in rw each.0 (at_key-lacking k groups each.1)

  at_key-having : (k : Key) (groups : List GroupModel) → IsDistinct same_key (keys_in groups) → HaveNumbers groups → has_key k groups ≡ true → at_key k groups ≡ F (rows_with k rows)
  at_key-having k [] apart numbers some = absurd (true≢false (sym some))
  at_key-having k (g ∷ groups) apart numbers some = by (same_key k g.key) refl (at_key-having k groups (IsDistinct-tail same_key g.key (keys_in groups) apart) numbers.1) some
    where
      by : (b : Bool) → same_key k g.key ≡ b → (has_key k groups ≡ true → at_key k groups ≡ F (rows_with k rows)) → (b || has_key k groups) ≡ true
          → sum_by part (cond b (g ∷ filter (λ g. same_key k g.key) groups) (filter (λ g. same_key k g.key) groups)) ≡ F (rows_with k rows)
      by true s more some =
          omega (
            arith,
            sum_by-cons part g (filter (λ g. same_key k g.key) groups),
            at_key-lacking k groups (lacks_key k g.key groups s (IsDistinct-head same_key g.key (keys_in groups) apart)),
            numbers.0,
            ap F (rows_with-same k g.key rows s),
          )
      by false s more some = more some

-- ---- all rows are in groups

-- the rows with distinct keys are not more than all
at_most : (ds : List Key) (rows : List (Key × RowView)) → IsDistinct same_key ds → sum_by (λ d. length (rows_with d rows)) ds ≤ length rows
at_most [] rows apart = omega arith
at_most (d ∷ ds) rows apart =
    let both = λ (k : Key) (rs : List (Key × RowView)). length-filter_both (λ (r : Key × RowView). same_key k r.0) (λ r. not (same_key k r.0)) (λ r. refl) rs in
    omega (
      arith,
      sum_by-cons (λ k. length (rows_with k rows)) d ds,
      both d rows,
      by_key-others length refl both d ds rows (IsDistinct-head same_key d ds apart),
      at_most ds (other_rows d rows) (IsDistinct-tail same_key d ds apart),
    )

records_are : (rows : List (Key × RowView)) (groups : List GroupModel) → HaveNumbers length (λ g. g.totals.records) rows groups
    → sum_by (λ d. length (rows_with d rows)) (keys_in groups) ≡ sum_by (λ g. g.totals.records) groups
records_are rows [] numbers = refl
records_are rows (g ∷ groups) numbers =
    omega (
      arith,
      sum_by-cons (λ d. length (rows_with d rows)) g.key (keys_in groups),
      sum_by-cons (λ (g : GroupModel). g.totals.records) g groups,
      numbers.0,
      records_are rows groups numbers.1,
    )

-- if the groups have as many records as there are rows, there is no row with another key
no_row : (rows : List (Key × RowView)) (groups : List GroupModel) (k : Key) → IsDistinct same_key (keys_in groups) → HaveNumbers length (λ g. g.totals.records) rows groups
    → sum_by (λ g. g.totals.records) groups ≡ length rows → has_key k groups ≡ false → rows_with k rows ≡ []
unfolding IsDistinct
no_row rows groups k apart numbers all none =
    nil_from_length (rows_with k rows) (omega (
      arith,
      at_most (k ∷ keys_in groups) rows (none_same k groups none, apart),
      sum_by-cons (λ d. length (rows_with d rows)) k (keys_in groups),
      records_are rows groups numbers,
      all,
    ))

-- ---- the numbers of rows

-- a number of rows is the sum of the numbers of those with a key and of the others; merging adds it
pub record Number (key : RowView → Key) : Type 0 where
  pub of_keyed : List (Key × RowView) → ℕ
  pub of_rows : List RowView → ℕ
  pub part : GroupModel → ℕ
  pub empty : of_keyed [] ≡ 0
  pub append : (xs ys : List (Key × RowView)) → of_keyed (xs ++ ys) ≡ of_keyed xs + of_keyed ys
  pub both : (d : Key) (rows : List (Key × RowView)) → of_keyed (rows_with d rows) + of_keyed (other_rows d rows) ≡ of_keyed rows
  pub same : (rows : List RowView) → of_keyed (keyed_by key rows) ≡ of_rows rows
  pub each : (rows : List RowView) (g : GroupModel) (s : SumsItsRows key rows g) → part g ≡ of_rows s.own
  pub merges : (d : Key) (groups : List GroupModel) → part (record { key = d; totals = totals_at d groups }) ≡ sum_by part (filter (λ g. same_key d g.key) groups)

module _ (key : RowView → Key) where
  abbrev pub records : Number key
  records = record {
    of_keyed = length;
    of_rows = length;
    part = λ g. g.totals.records;
    empty = refl;
    append = λ xs ys. length-append xs ys;
    both = λ d rows. length-filter_both (λ (r : Key × RowView). same_key d r.0) (λ r. not (same_key d r.0)) (λ r. refl) rows;
    same = λ rows. length-map rows (λ (row : RowView). let R : Key × RowView = (key row, row) in R);
    each = λ rows g s. s.records;
    merges = λ d groups. refl;
  }

  -- a sum over rows
  abbrev summed : (f : RowView → ℕ) (part : GroupModel → ℕ) → ((rows : List RowView) (g : GroupModel) (s : SumsItsRows key rows g) → part g ≡ sum_by f s.own)
      → ((d : Key) (groups : List GroupModel) → part (record { key = d; totals = totals_at d groups }) ≡ sum_by part (filter (λ g. same_key d g.key) groups)) → Number key
  summed f part each merges = record {
    of_keyed = λ rows. sum_by (λ r. f r.1) rows;
    of_rows = λ rows. sum_by f rows;
    part = part;
    empty = refl;
    append = λ xs ys. sum_by-append (λ (r : Key × RowView). f r.1) xs ys;
    both = λ d rows. sum_by-filter_both (λ (r : Key × RowView). same_key d r.0) (λ r. not (same_key d r.0)) (λ r. refl) (λ (r : Key × RowView). f r.1) rows;
    same = λ rows. sum_by-keyed key f rows;
    each = each;
    merges = merges;
  }

  abbrev pub packets : Number key
  packets = summed (λ row. row.packets) (λ g. g.totals.packets) (λ rows g s. s.packets) (λ d groups. refl)

  abbrev pub octets : Number key
  octets = summed (λ row. row.octets) (λ g. g.totals.octets) (λ rows g s. s.octets) (λ d groups. refl)

-- ---- groups that divide rows

module _ (key : RowView → Key) (rows : List RowView) (groups : List GroupModel) (divide : DivideRows key rows groups) where
  numbers : (n : Number key) → HaveNumbers n.of_keyed n.part (keyed_by key rows) groups
  numbers n =
      let Has : GroupModel → Type 0 = λ g. n.part g ≡ n.of_keyed (rows_with g.key (keyed_by key rows)) in
      recursion_from_All Has groups
      (All-weaker (SumsItsRows key rows) Has
      (λ g s. n.each rows g s ∙ ap n.of_rows s.have_its_key ∙ sym (ap n.of_keyed (rows_with-keyed key g.key rows) ∙ n.same (filter (λ row. same_key g.key (key row)) rows)))
      groups divide.each)

  sums_at : (n : Number key) (k : Key) → at_key n.of_keyed n.part (keyed_by key rows) k groups ≡ n.of_keyed (rows_with k (keyed_by key rows))
  sums_at n k = by (has_key k groups) refl
    where
      by : (b : Bool) → has_key k groups ≡ b → at_key n.of_keyed n.part (keyed_by key rows) k groups ≡ n.of_keyed (rows_with k (keyed_by key rows))
      by true some = at_key-having n.of_keyed n.part (keyed_by key rows) k groups divide.keys (numbers n) some
      by false none =
          at_key-lacking n.of_keyed n.part (keyed_by key rows) k groups none
          ∙ sym (ap n.of_keyed (no_row (keyed_by key rows) groups k divide.keys (numbers (records key)) (divide.records ∙ sym (length-map rows (λ (row : RowView). let R : Key × RowView = (key row, row) in R))) none) ∙ n.empty)

  have_records : AllByRecursion (λ g. 0 < g.totals.records) groups
  have_records =
      let Has : GroupModel → Type 0 = λ g. 0 < g.totals.records in
      recursion_from_All Has groups (All-weaker (SumsItsRows key rows) Has (λ g s. omega (arith, s.some, s.records)) groups divide.each)

-- ---- several parts

-- the rows and the groups of parts
module _ (key : RowView → Key) {X : Type 0} (r : X → List RowView) (g : X → List GroupModel) where
  abbrev rows_in : List X → List RowView
  rows_in parts = flat_map r parts

  abbrev groups_in : List X → List GroupModel
  groups_in parts = flat_map g parts

  abbrev Divide : X → Type 0
  Divide part = DivideRows key (r part) (g part)

  pub parts-sums_at : (n : Number key) (k : Key) (parts : List X) → AllByRecursion Divide parts
      → at_key n.of_keyed n.part (keyed_by key (rows_in parts)) k (groups_in parts) ≡ n.of_keyed (rows_with k (keyed_by key (rows_in parts)))
  parts-sums_at n k [] all = sym n.empty
  parts-sums_at n k (part ∷ parts) all =
      let more = keyed_by key (rows_in parts) in
      let split : rows_with k (keyed_by key (r part ++ rows_in parts)) ≡ rows_with k (keyed_by key (r part)) ++ rows_with k more =
      ap (rows_with k) (map-append (λ (row : RowView). let R : Key × RowView = (key row, row) in R) (r part) (rows_in parts))
      ∙ filter-append (λ (r : Key × RowView). same_key k r.0) (keyed_by key (r part)) more in
      omega (
        arith,
        ap (sum_by n.part) (filter-append (λ (g : GroupModel). same_key k g.key) (g part) (groups_in parts)),
        sum_by-append n.part (filter (λ g. same_key k g.key) (g part)) (filter (λ g. same_key k g.key) (groups_in parts)),
        sums_at key (r part) (g part) all.0 n k,
        parts-sums_at n k parts all.1,
        ap n.of_keyed split,
        n.append (rows_with k (keyed_by key (r part))) (rows_with k more),
      )

  all-append : (P : GroupModel → Type 0) (xs ys : List GroupModel) → AllByRecursion P xs → AllByRecursion P ys → AllByRecursion P (xs ++ ys)
  all-append P [] ys all more = more
  all-append P (x ∷ xs) ys all more = (all.0, all-append P xs ys all.1 more)

  parts-have_records : (parts : List X) → AllByRecursion Divide parts → AllByRecursion (λ g. 0 < g.totals.records) (groups_in parts)
  parts-have_records [] all = tt
  parts-have_records (part ∷ parts) all =
      all-append (λ g. 0 < g.totals.records) (g part) (groups_in parts) (have_records key (r part) (g part) all.0) (parts-have_records parts all.1)

-- ---- merged groups

abbrev records_at : Key → List GroupModel → ℕ
records_at k groups = sum_by (λ g. g.totals.records) (filter (λ g. same_key k g.key) groups)

some_at : (k : Key) (groups : List GroupModel) → AllByRecursion (λ g. 0 < g.totals.records) groups → has_key k groups ≡ true → 0 < records_at k groups
some_at k [] all some = absurd (true≢false (sym some))
some_at k (g ∷ groups) all some = by (same_key k g.key) (some_at k groups all.1) some
  where
    by : (b : Bool) → (has_key k groups ≡ true → 0 < records_at k groups) → (b || has_key k groups) ≡ true
        → 0 < sum_by (λ g. g.totals.records) (cond b (g ∷ filter (λ g. same_key k g.key) groups) (filter (λ g. same_key k g.key) groups))
    by true more some = omega (arith, all.0, sum_by-cons (λ (g : GroupModel). g.totals.records) g (filter (λ g. same_key k g.key) groups))
    by false more some = more some

module _ (key : RowView → Key) (rows : List RowView) (groups : List GroupModel) (have : AllByRecursion (λ g. 0 < g.totals.records) groups)
    (sums : (n : Number key) (k : Key) → at_key n.of_keyed n.part (keyed_by key rows) k groups ≡ n.of_keyed (rows_with k (keyed_by key rows))) where
  abbrev ds : List Key
  ds = distinct_keys (keys_in groups)

  abbrev group : Key → GroupModel
  group d = record { key = d; totals = totals_at d groups }

  -- each row has a key of the groups
  row_grouped : (k : Key) → list_any (same_key k) (map (λ r. r.0) (keyed_by key rows)) ≡ true → has_key k groups ≡ true
  row_grouped k some = by (has_key k groups) refl
    where
      by : (b : Bool) → has_key k groups ≡ b → b ≡ true
      by true e = refl
      by false e =
          absurd (omega (arith, has-row k (keyed_by key rows) some, sums (records key) k, at_key-lacking length (λ g. g.totals.records) (keyed_by key rows) k groups e))

  own_number : (n : Number key) (d : Key) → n.part (group d) ≡ n.of_rows (filter (λ row. same_key d (key row)) rows)
  own_number n d = n.merges d groups ∙ sums n d ∙ ap n.of_keyed (rows_with-keyed key d rows) ∙ n.same (filter (λ row. same_key d (key row)) rows)

  over : (n : Number key) (ks : List Key) → sum_by n.part (map group ks) ≡ sum_by (λ d. n.of_keyed (rows_with d (keyed_by key rows))) ks
  over n [] = refl
  over n (d ∷ ks) =
      omega (
        arith,
        sum_by-cons n.part (group d) (map group ks),
        sum_by-cons (λ d. n.of_keyed (rows_with d (keyed_by key rows))) d ks,
        n.merges d groups,
        sums n d,
        over n ks,
      )

  in_all : (n : Number key) → sum_by n.part (map group ds) ≡ n.of_rows rows
  in_all n =
      over n ds
      ∙ by_key-all n.of_keyed n.empty n.both ds (keyed_by key rows) (distinct-distinct_keys (keys_in groups))
      (have-more ds (keyed_by key rows) (λ k h. any-distinct_keys k (keys_in groups) ∙ row_grouped k h))
      ∙ n.same rows

  merged-divides : DivideRows key rows (merged groups)
  merged-divides = record {
    keys = subst (IsDistinct same_key) (sym (map-map (λ (g : GroupModel). g.key) group ds ∙ map-id ds)) (distinct-distinct_keys (keys_in groups));
    each =
        let HasKey : Key → Type 0 = λ d. list_any (same_key d) (keys_in groups) ≡ true in
        All-map (SumsItsRows key rows) group ds
        (All-weaker HasKey (λ d. SumsItsRows key rows (group d))
        (λ d has. record {
          own = filter (λ row. same_key d (key row)) rows;
          have_its_key = refl;
          some = omega (arith, some_at d groups have has, own_number (records key) d);
          records = own_number (records key) d;
          packets = own_number (packets key) d;
          octets = own_number (octets key) d;
        })
        ds (All-from_recursion HasKey ds (have-rows (keys_in groups))));
    records = in_all (records key);
    packets = in_all (packets key);
    octets = in_all (octets key);
  }

pub merged_divide : MergedDivide
merged_divide key parts all =
    let Part : Type 0 = List RowView × List GroupModel in
    let each = recursion_from_All (λ (part : Part). DivideRows key part.0 part.1) parts all in
    merged-divides key (flat_map (λ part. part.0) parts) (flat_map (λ part. part.1) parts)
    (parts-have_records key (λ part. part.0) (λ part. part.1) parts each) (λ n k. parts-sums_at key (λ part. part.0) (λ part. part.1) n k parts each)
