-- How a row changes the groups that are stored.
use Rattle.std.proofs.Common.{◌≡◌, ℕ, ◌+◌, ◌-◌, ◌*◌, ◌^◌, ◌≤◌, Bool, true, false, ◌||◌, cond, if◌then◌else◌, List, [], ◌∷◌, ◌++◌, length, map, All, None, Some, option_map, unwrap_or, refl, sym, ap, subst, ◌∙◌, arith}
use Rattle.std.proofs.lemmas.Cmp.{nat_list_eq_equiv, on_equiv}
use Rattle.std.proofs.lemmas.List.{append-nil}
use Rattle.std.proofs.lemmas.List.Elements.{All-cons, All-head, All-map, All-nil, All-tail}
use Rattle.std.proofs.lemmas.List.Sums.{sum_by-cons}
use Rattle.std.proofs.lemmas.Map.{lookup-none}
use Rattle.std.proofs.lemmas.Map.Entries.{none_past_head}
use Rattle.std.proofs.lemmas.Map.Keys.{IsDistinct-tail}
use Rattle.std.proofs.lemmas.Option.{none-some, slice_get-map}
use Rattle.std.specs.List.{IsDistinct, list_any, slice_get}
use Rattle.std.specs.Map.{keys_of, lookup, values_of}
use Rattle.indexmap.proofs.MapLemmas.{insert_entry-first}
use Rattle.indexmap.proofs.RemoveLemmas.{own_first}
use Rattle.indexmap.specs.IndexMap.{insert_entry, set_value_at}
use Rattle.flow_rows.specs.Elements.{RowView}
use Rattle.flow_uniq.specs.Groups.{Totals, GroupModel, groups_of_keyed, record_count}
use Rattle.flow_uniq.specs.Codes.{AreSmall, key_code, same_code}
use Rattle.flow_uniq.specs.Inner.{HasRow, IsBounded, IsKept, kept_groups, none, with_row}
use Rattle.flow_uniq.specs.Key.{Key, same_key}
use Rattle.flow_uniq.proofs.Codes.{same_code-small}
use Rattle.flow_uniq.proofs.Grouping.{entered, fresh, grown, groups-push}

abbrev Entries : Type 0
Entries = List (Key × Totals)

abbrev group : Key × Totals → GroupModel
group e = record { key = e.0; totals = e.1 }

-- each group has a key with this number of parts
pub parts-kept : (count : ℕ) (es : Entries) → All (IsKept count) es → All (λ g. length g.key ≡ count) (kept_groups es)
parts-kept count es kept = All-map (λ (g : GroupModel). length g.key ≡ count) group es (λ i d h. (kept i d h).long)

count-cons : (e : Key × Totals) (es : Entries) → record_count (kept_groups (e ∷ es)) ≡ e.1.records + record_count (kept_groups es)
count-cons e es = sum_by-cons (λ (g : GroupModel). g.totals.records) (group e) (kept_groups es)

-- the totals of one group are bounded, and of no more rows than there are
pub found : (count : ℕ) (test : Key → Bool) (es : Entries) → All (IsKept count) es
    → IsBounded (unwrap_or (lookup test es) none) × ((unwrap_or (lookup test es) none).records ≤ record_count (kept_groups es))
found count test [] all = ((omega arith, omega arith), omega arith)
found count test (e ∷ es) all = by (test e.0) (found count test es (All-tail (IsKept count) e es all))
  where
    by : (b : Bool) → IsBounded (unwrap_or (lookup test es) none) × ((unwrap_or (lookup test es) none).records ≤ record_count (kept_groups es))
        → let t : Totals = unwrap_or (cond b (Some e.1) (lookup test es)) none in IsBounded t × (t.records ≤ record_count (kept_groups (e ∷ es)))
    by true ih = ((All-head (IsKept count) e es all).bounded, omega (arith, count-cons e es))
    by false ih = (ih.0, omega (arith, count-cons e es, ih.1))

one_bound : (most n p q : ℕ) → p ≤ most * n → q ≤ most → p + q ≤ most * (n + 1)
one_bound most n p q h k = grind arith

module _ (n : ℕ) (k : Key) (row : RowView) (small : AreSmall k) where
  -- the entries with one more row of the key
  abbrev with_entry : Entries → Entries
  with_entry es = insert_entry same_code es k (with_row (unwrap_or (lookup (same_code k) es) none) row)

  -- the first key has the code if and only if it is the key
  at_front : (e : Key × Totals) (es : Entries) (b : Bool) → All (IsKept n) (e ∷ es) → same_code k e.0 ≡ b → same_key k e.0 ≡ b
  at_front e es b all is = sym (same_code-small k e.0 small (All-head (IsKept n) e es all).small) ∙ is

  -- if no key has the code, no group grows
  none_grown : (es : Entries) → All (IsKept n) es → lookup (same_code k) es ≡ None → map (grown k row) (kept_groups es) ≡ kept_groups es
  none_grown [] all h = refl
  none_grown (e ∷ es) all h = by (same_code k e.0) refl h (none_grown es (All-tail (IsKept n) e es all))
    where
      by : (b : Bool) → same_code k e.0 ≡ b → cond b (Some e.1) (lookup (same_code k) es) ≡ None
          → (lookup (same_code k) es ≡ None → map (grown k row) (kept_groups es) ≡ kept_groups es)
          → map (grown k row) (kept_groups (e ∷ es)) ≡ kept_groups (e ∷ es)
      by true is h ih = absurd (none-some e.1 (sym h))
      by false is h ih = λ i. record { key = e.0; totals = if at_front e es false all is i then with_row e.1 row else e.1 } ∷ ih h i

  bounded-grown : (t : Totals) → IsBounded t → row.packets ≤ 2 ^ 64 - 1 → row.octets ≤ 2 ^ 64 - 1 → IsBounded (with_row t row)
  bounded-grown t h p o = (one_bound (2 ^ 64 - 1) t.records t.packets row.packets h.0 p, one_bound (2 ^ 64 - 1) t.records t.octets row.octets h.1 o)

  -- facts about the entries after the row
  pub record AfterRow (es new : Entries) : Type 0 where
    pub kept : length k ≡ n → All (IsKept n) new
    pub groups : kept_groups new ≡ entered k row (kept_groups es)
    pub count : record_count (kept_groups new) ≡ record_count (kept_groups es) + 1

  module _ (p : row.packets ≤ 2 ^ 64 - 1) (o : row.octets ≤ 2 ^ 64 - 1) where
    after : (es : Entries) → All (IsKept n) es → IsDistinct same_code (keys_of es) → AfterRow es (with_entry es)
    after [] all once = record {
      kept = λ long. All-cons (IsKept n) (k, with_row none row) []
          (record { long = long; small = small; bounded = bounded-grown none (omega arith, omega arith) p o }) (All-nil (IsKept n));
      groups = refl;
      count = omega arith;
    }
    after (e ∷ es) all once = by (same_code k e.0) refl (after es rest (IsDistinct-tail same_code e.0 (keys_of es) once))
      where
        first : IsKept n e
        first = All-head (IsKept n) e es all

        rest : All (IsKept n) es
        rest = All-tail (IsKept n) e es all

        grows : (b : Bool) → same_code k e.0 ≡ b → (l : List GroupModel) → map (grown k row) (kept_groups es) ≡ l
            → entered k row (kept_groups (e ∷ es))
            ≡ (record { key = e.0; totals = if b then with_row e.1 row else e.1 } ∷ l)
            ++ (if b || list_any (λ g. same_key k g.key) (kept_groups es) then [] else fresh k row ∷ [])
        grows b is l same = λ i. (record { key = e.0; totals = if at_front e es b all is i then with_row e.1 row else e.1 } ∷ same i)
            ++ (if at_front e es b all is i || list_any (λ g. same_key k g.key) (kept_groups es) then [] else fresh k row ∷ [])

        by : (b : Bool) → same_code k e.0 ≡ b → AfterRow es (with_entry es)
            → let w : Totals = with_row (unwrap_or (cond b (Some e.1) (lookup (same_code k) es)) none) row in
            AfterRow (e ∷ es) (if b then (e.0, w) ∷ es else e ∷ insert_entry same_code es k w)
        by true is ih =
            let past = lookup-none (same_code k) es (none_past_head (on_equiv key_code nat_list_eq_equiv) k e es once is) in
            record {
              kept = λ _. All-cons (IsKept n) (e.0, with_row e.1 row) es
                  (record { long = first.long; small = first.small; bounded = bounded-grown e.1 first.bounded p o }) rest;
              groups = sym (grows true is (kept_groups es) (none_grown es rest past) ∙ append-nil (kept_groups ((e.0, with_row e.1 row) ∷ es)));
              count = omega (arith, count-cons e es, count-cons (e.0, with_row e.1 row) es);
            }
        by false is ih = record {
          kept = λ long. All-cons (IsKept n) e (with_entry es) first (ih.kept long);
          groups = ap (λ (l : List GroupModel). group e ∷ l) ih.groups ∙ sym (grows false is (map (grown k row) (kept_groups es)) refl);
          count = omega (arith, count-cons e es, count-cons e (with_entry es), ih.count);
        }

  pub after_row : (es new : Entries) → All (IsKept n) es → HasRow k row es new → AfterRow es new
  after_row es new all has = subst (AfterRow es) (sym has.is) (after has.packets has.octets es all has.once)

-- the value at an index
pub value_at : (es : Entries) (i : ℕ) (k : Key) (t value : Totals) → slice_get es i ≡ Some (k, t) → Some value ≡ slice_get (values_of es) i → value ≡ t
value_at es i k t value at is = ap (λ o. unwrap_or o value) (is ∙ slice_get-map (λ (e : Key × Totals). e.1) es i ∙ ap (option_map (λ e. e.1)) at)

-- the totals of the key, which is stored as another of the same code or is new, grew by the row
module _ (k key : Key) (row : RowView) (es new : Entries) (t w : Totals) (once : IsDistinct same_code (keys_of es)) (same : k ≡ key)
    (grew : w ≡ with_row t row) (p : row.packets ≤ 2 ^ 64 - 1) (o : row.octets ≤ 2 ^ 64 - 1) where
  pub row_in : t ≡ unwrap_or (lookup (same_code k) es) none → new ≡ insert_entry same_code es k w → HasRow key row es new
  row_in was is =
      subst (λ (x : Key). HasRow x row es new) same
      (record { is = is ∙ ap (insert_entry same_code es k) (grew ∙ ap (λ x. with_row x row) was); once = once; packets = p; octets = o })

  -- the key is at an index
  pub row_at : (i : ℕ) → slice_get es i ≡ Some (k, t) → lookup (same_code k) es ≡ Some t → new ≡ set_value_at es i w → HasRow key row es new
  row_at i at there is =
      row_in (ap (λ o. unwrap_or o none) (sym there))
      (is ∙ sym (insert_entry-first same_code k w es i (own_first same_code (on_equiv key_code nat_list_eq_equiv) es i k t once at)))

pub row_later : (key : Key) (row : RowView) (es old new : Entries) → es ≡ old → HasRow key row es new → HasRow key row old new
row_later key row es old new same has = subst (λ l. HasRow key row l new) same has

pub then_groups : (rows : List (Key × RowView)) (k given : Key) (row : RowView) (kept old new : List GroupModel) → new ≡ entered k row kept → k ≡ given
    → kept ≡ old → old ≡ groups_of_keyed rows → new ≡ groups_of_keyed (rows ++ (given, row) ∷ [])
then_groups rows k given row kept old new h key view e =
    h ∙ (λ i. entered (key i) row ((view ∙ e) i)) ∙ sym (groups-push rows given row)
