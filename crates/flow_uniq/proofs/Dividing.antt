-- Groups divide rows.
use Rattle.std.proofs.Common.{◌≡◌, ℕ, ◌+◌, ◌<◌, All, Bool, true, false, not, ◌||◌, cond, Option, List, [], ◌∷◌, length, map, filter, true≢false, refl, sym, ap, subst, ◌∙◌, arith}
use Rattle.std.specs.Prelude.{sum_by}
use Rattle.std.specs.List.{AllByRecursion, IsDistinct, list_any}
use Rattle.std.proofs.lemmas.Bool.{not-true, or_right}
use Rattle.std.proofs.lemmas.List.{length-map, map-id}
use Rattle.std.proofs.lemmas.List.Elements.{All-filter, All-from_recursion, All-map, All-weaker, filter_passes, recursion_from_All}
use Rattle.std.proofs.lemmas.List.Filters.{length-filter_both, sum_by-filter_both}
use Rattle.std.proofs.lemmas.List.Sums.{sum_by-cons}
use Rattle.std.proofs.lemmas.Map.Keys.{IsDistinct-head, IsDistinct-tail}
use Rattle.std.proofs.lemmas.Simd.{map-map}
use Rattle.flow_rows.specs.Elements.{RowView}
use Rattle.prefix_keys.specs.Text.{AddressOf}
use Rattle.pmap_model.specs.MapModel.{Label}
use Rattle.flow_uniq.specs.Key.{Key, KeyField, key_of, same_key}
use Rattle.flow_uniq.specs.Groups.{GroupModel, distinct_keys, groups_of, groups_of_keyed, totals_of}
use Rattle.flow_uniq.specs.Laws.{DivideRows, SumsItsRows}
use Rattle.flow_uniq.proofs.Filtering.{filter-weaker}
use Rattle.flow_uniq.proofs.Grouping.{keyed, rows_with, same_key-equiv, any-distinct_keys}

-- The keys of groups are distinct.

distinct-filter : {X : Type 0} (p : X → Bool) (same : X → X → Bool) (xs : List X) → IsDistinct same xs → IsDistinct same (filter p xs)
unfolding IsDistinct
distinct-filter p same [] apart = tt
distinct-filter {X} p same (x ∷ xs) apart = by (p x) (distinct-filter p same xs apart.1)
  where
    by : (b : Bool) → IsDistinct same (filter p xs) → IsDistinct same (cond b (x ∷ filter p xs) (filter p xs))
    by true rest =
        let P : X → Type 0 = λ y. same x y ≡ false in
        (recursion_from_All P (filter p xs) (All-filter p P xs (All-from_recursion P xs apart.0)), rest)
    by false rest = rest

-- the keys that are kept differ from this one
others_differ : (k : Key) (ks : List Key) → AllByRecursion (λ o. same_key k o ≡ false) (filter (λ o. not (same_key k o)) ks)
others_differ k ks =
    let kept = filter (λ o. not (same_key k o)) ks in
    recursion_from_All (λ o. same_key k o ≡ false) kept
    (All-weaker (λ o. not (same_key k o) ≡ true) (λ o. same_key k o ≡ false) (λ o h. not-true (same_key k o) h) kept
    (filter_passes (λ o. not (same_key k o)) ks))

pub distinct-distinct_keys : (ks : List Key) → IsDistinct same_key (distinct_keys ks)
unfolding IsDistinct
distinct-distinct_keys [] = tt
distinct-distinct_keys (k ∷ ks) = (
  others_differ k (distinct_keys ks),
  distinct-filter (λ o. not (same_key k o)) same_key (distinct_keys ks) (distinct-distinct_keys ks),
)

pub groups-distinct : (rows : List (Key × RowView)) → IsDistinct same_key (map (λ g. g.key) (groups_of_keyed rows))
groups-distinct rows =
    let keys : List Key = map (λ r. r.0) rows in
    let group : Key → GroupModel = λ key. record { key = key; totals = totals_of (rows_with key rows) } in
    subst (IsDistinct same_key) (sym (map-map (λ (g : GroupModel). g.key) group (distinct_keys keys) ∙ map-id (distinct_keys keys)))
    (distinct-distinct_keys keys)

-- Each group sums the rows that have its key.

-- a sum over rows with keys is that over the rows
abbrev pub keyed_by : (RowView → Key) → List RowView → List (Key × RowView)
keyed_by key rows = map (λ row. (key row, row)) rows

pub sum_by-keyed : (key : RowView → Key) (f : RowView → ℕ) (rows : List RowView)
    → sum_by (λ r. f r.1) (map (λ row. let R : Key × RowView = (key row, row) in R) rows) ≡ sum_by f rows
sum_by-keyed key f [] = refl
sum_by-keyed key f (row ∷ rows) =
    omega (
      arith,
      sum_by-cons (λ (r : Key × RowView). f r.1) (key row, row) (map (λ x. let R : Key × RowView = (key x, x) in R) rows),
      sum_by-cons f row rows,
      sum_by-keyed key f rows,
    )

-- each distinct key is the key of a row
pub have-rows : (ks : List Key) → AllByRecursion (λ d. list_any (same_key d) ks ≡ true) (distinct_keys ks)
have-rows [] = tt
have-rows (k ∷ ks) =
    let P : Key → Type 0 = λ d. list_any (same_key d) (k ∷ ks) ≡ true in
    let kept : Key → Bool = λ o. not (same_key k o) in (
      ap (λ b. b || list_any (same_key k) ks) (same_key-equiv.refl k),
      recursion_from_All P (filter kept (distinct_keys ks))
          (All-filter kept P (distinct_keys ks)
          (All-weaker (λ d. list_any (same_key d) ks ≡ true) P (λ d h. or_right (same_key d k) (list_any (same_key d) ks) h) (distinct_keys ks)
          (All-from_recursion (λ d. list_any (same_key d) ks ≡ true) (distinct_keys ks) (have-rows ks)))),
    )

-- a key of a row has a row
pub has-row : (d : Key) (rows : List (Key × RowView)) → list_any (same_key d) (map (λ r. r.0) rows) ≡ true → 0 < length (rows_with d rows)
has-row d [] none = absurd (true≢false (sym none))
has-row d (r ∷ rows) some = by (same_key d r.0) (has-row d rows) some
  where
    keys : List Key
    keys = map (λ x. x.0) rows

    by : (b : Bool) → (list_any (same_key d) keys ≡ true → 0 < length (rows_with d rows)) → (b || list_any (same_key d) keys) ≡ true
        → 0 < length (cond b (r ∷ rows_with d rows) (rows_with d rows))
    by true ih h = omega arith
    by false ih h = ih h

-- the rows with a key, after their keys are left out
pub rows_with-keyed : (key : RowView → Key) (d : Key) (rows : List RowView)
    → rows_with d (keyed_by key rows) ≡ keyed_by key (filter (λ row. same_key d (key row)) rows)
rows_with-keyed key d [] = refl
rows_with-keyed key d (row ∷ rows) = by (same_key d (key row)) (rows_with-keyed key d rows)
  where
    by : (b : Bool) → rows_with d (keyed_by key rows) ≡ keyed_by key (filter (λ row. same_key d (key row)) rows)
        → cond b ((key row, row) ∷ rows_with d (keyed_by key rows)) (rows_with d (keyed_by key rows))
        ≡ keyed_by key (cond b (row ∷ filter (λ row. same_key d (key row)) rows) (filter (λ row. same_key d (key row)) rows))
    by true ih = ap (λ (l : List (Key × RowView)). (key row, row) ∷ l) ih
    by false ih = ih

pub groups-sum_their_rows : (key : RowView → Key) (rows : List RowView) → All (SumsItsRows key rows) (groups_of_keyed (keyed_by key rows))
groups-sum_their_rows key rows = All-map (SumsItsRows key rows) group ds (All-weaker HasRow (λ d. SumsItsRows key rows (group d)) sums ds (All-from_recursion HasRow ds (have-rows ks)))
  where
    ks : List Key
    ks = map (λ r. r.0) (keyed_by key rows)

    ds : List Key
    ds = distinct_keys ks

    group : Key → GroupModel
    group d = record { key = d; totals = totals_of (rows_with d (keyed_by key rows)) }

    HasRow : Key → Type 0
    HasRow d = list_any (same_key d) ks ≡ true

    sums : (d : Key) → HasRow d → SumsItsRows key rows (group d)
    sums d has =
        let own : List RowView = filter (λ row. same_key d (key row)) rows in
        let same : rows_with d (keyed_by key rows) ≡ keyed_by key own = rows_with-keyed key d rows in
        let count : length (rows_with d (keyed_by key rows)) ≡ length own = ap length same ∙ length-map own (λ row. let R : Key × RowView = (key row, row) in R) in
        record {
          own = own;
          have_its_key = refl;
          some = subst (λ n. 0 < n) count (has-row d (keyed_by key rows) has);
          records = count;
          packets = ap (sum_by (λ (r : Key × RowView). r.1.packets)) same ∙ sum_by-keyed key (λ row. row.packets) own;
          octets = ap (sum_by (λ (r : Key × RowView). r.1.octets)) same ∙ sum_by-keyed key (λ row. row.octets) own;
        }

-- What all rows have, added up, is the sum over the groups.

abbrev pub other_rows : Key → List (Key × RowView) → List (Key × RowView)
other_rows d rows = filter (λ r. not (same_key d r.0)) rows

-- each row has one of the keys
abbrev pub HaveKeys : List Key → List (Key × RowView) → Type 0
HaveKeys ds rows = AllByRecursion (λ r. list_any (same_key r.0) ds ≡ true) rows

pub have-more : (all : List Key) (rows : List (Key × RowView))
    → ((k : Key) → list_any (same_key k) (map (λ r. r.0) rows) ≡ true → list_any (same_key k) all ≡ true) → HaveKeys all rows
have-more all [] up = tt
have-more all (r ∷ rows) up = (
  up r.0 (ap (λ b. b || list_any (same_key r.0) (map (λ x. x.0) rows)) (same_key-equiv.refl r.0)),
  have-more all rows (λ k h. up k (grind (arith, h))),
)

pub have-others : (d : Key) (ds : List Key) (rows : List (Key × RowView)) → HaveKeys (d ∷ ds) rows → HaveKeys ds (other_rows d rows)
have-others d ds [] all = tt
have-others d ds (r ∷ rows) all = by (same_key d r.0) refl (have-others d ds rows all.1)
  where
    by : (b : Bool) → same_key d r.0 ≡ b → HaveKeys ds (other_rows d rows)
        → HaveKeys ds (cond (not b) (r ∷ other_rows d rows) (other_rows d rows))
    by true e rest = rest
    by false e rest =
        (sym (ap (λ b. b || list_any (same_key r.0) ds) (same_key-equiv.symm r.0 d ∙ e)) ∙ all.0, rest)

-- the rows with another key are among the others
pub with-others : (d e : Key) → same_key d e ≡ false → (rows : List (Key × RowView)) → rows_with e (other_rows d rows) ≡ rows_with e rows
with-others d e apart =
    filter-weaker (λ (r : Key × RowView). not (same_key d r.0)) (λ r. same_key e r.0)
    (λ r s. ap not (same_key-equiv.symm d r.0 ∙ sym (same_key-equiv.congr e r.0 d s) ∙ same_key-equiv.symm e d ∙ apart))

-- a sum over rows that is that of the rows with a key and of the others
module _ (F : List (Key × RowView) → ℕ) (empty : F [] ≡ 0)
    (both : (d : Key) (rows : List (Key × RowView)) → F (rows_with d rows) + F (other_rows d rows) ≡ F rows) where
  abbrev pub by_key : List Key → List (Key × RowView) → ℕ
  by_key ds rows = sum_by (λ d. F (rows_with d rows)) ds

  pub by_key-others : (d : Key) (ds : List Key) (rows : List (Key × RowView)) → AllByRecursion (λ e. same_key d e ≡ false) ds
      → by_key ds (other_rows d rows) ≡ by_key ds rows
  by_key-others d [] rows apart = refl
  by_key-others d (e ∷ ds) rows apart =
      omega (
        arith,
        sum_by-cons (λ k. F (rows_with k (other_rows d rows))) e ds,
        sum_by-cons (λ k. F (rows_with k rows)) e ds,
        ap F (with-others d e apart.0 rows),
        by_key-others d ds rows apart.1,
      )

  pub by_key-all : (ds : List Key) (rows : List (Key × RowView)) → IsDistinct same_key ds → HaveKeys ds rows → by_key ds rows ≡ F rows
  by_key-all [] [] apart all = sym empty
  by_key-all [] (r ∷ rows) apart all = absurd (true≢false (sym all.0))
  by_key-all (d ∷ ds) rows apart all =
      omega (
        arith,
        sum_by-cons (λ k. F (rows_with k rows)) d ds,
        both d rows,
        by_key-others d ds rows (IsDistinct-head same_key d ds apart),
        by_key-all ds (other_rows d rows) (IsDistinct-tail same_key d ds apart) (have-others d ds rows all),
      )

  -- the sum over the groups, if `part` of the totals of rows is their sum
  pub groups-sum : (part : GroupModel → ℕ) → ((key : Key) (rows : List (Key × RowView)) → part (record { key = key; totals = totals_of rows }) ≡ F rows)
      → (rows : List (Key × RowView)) → sum_by part (groups_of_keyed rows) ≡ F rows
  groups-sum part is rows =
      over (distinct_keys keys)
      ∙ by_key-all (distinct_keys keys) rows (distinct-distinct_keys keys)
      (have-more (distinct_keys keys) rows (λ k h. any-distinct_keys k keys ∙ h))
    where
      keys : List Key
      keys = map (λ r. r.0) rows

      over : (ds : List Key) → sum_by part (map (λ key. record { key = key; totals = totals_of (rows_with key rows) }) ds) ≡ by_key ds rows
      over [] = refl
      over (d ∷ ds) =
          omega (
            arith,
            sum_by-cons part (record { key = d; totals = totals_of (rows_with d rows) })
                (map (λ key. record { key = key; totals = totals_of (rows_with key rows) }) ds),
            sum_by-cons (λ k. F (rows_with k rows)) d ds,
            is d (rows_with d rows),
            over ds,
          )

pub groups-records : (rows : List (Key × RowView)) → sum_by (λ g. g.totals.records) (groups_of_keyed rows) ≡ length rows
groups-records =
    groups-sum length refl (λ d. length-filter_both (λ (r : Key × RowView). same_key d r.0) (λ r. not (same_key d r.0)) (λ r. refl))
    (λ g. g.totals.records) (λ key rows. refl)

module _ (f : RowView → ℕ) where
  pub groups-numbers : (part : GroupModel → ℕ)
      → ((key : Key) (rows : List (Key × RowView)) → part (record { key = key; totals = totals_of rows }) ≡ sum_by (λ r. f r.1) rows)
      → (rows : List (Key × RowView)) → sum_by part (groups_of_keyed rows) ≡ sum_by (λ r. f r.1) rows
  groups-numbers =
      groups-sum (sum_by (λ r. f r.1)) refl
      (λ d. sum_by-filter_both (λ (r : Key × RowView). same_key d r.0) (λ r. not (same_key d r.0)) (λ r. refl) (λ (r : Key × RowView). f r.1))

-- Groups divide the rows.

pub groups-divide : (fields : List KeyField) (label : AddressOf → Option Label) (rows : List RowView) → DivideRows (key_of label fields) rows (groups_of fields label rows)
groups-divide fields label rows = let key = key_of label fields in record {
  keys = groups-distinct (keyed fields label rows);
  each = groups-sum_their_rows key rows;
  records = groups-records (keyed fields label rows) ∙ length-map rows (λ (row : RowView). let R : Key × RowView = (key row, row) in R);
  packets = groups-numbers (λ row. row.packets) (λ g. g.totals.packets) (λ k rs. refl) (keyed fields label rows)
      ∙ sum_by-keyed key (λ row. row.packets) rows;
  octets = groups-numbers (λ row. row.octets) (λ g. g.totals.octets) (λ k rs. refl) (keyed fields label rows)
      ∙ sum_by-keyed key (λ row. row.octets) rows;
}
