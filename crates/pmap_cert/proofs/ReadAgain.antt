-- The printed text of a list is read as the list, and as a map with the same labels.
use Rattle.std.proofs.Common.{◌≡◌, ℕ, suc, ◌==◌, ◌⊎◌, ◌∙◌, inl, inr, true, false, not, List, [], ◌∷◌, ◌++◌, All, MatchOption, Option, Some, None, Result, Ok, codes, get_or, map, refl, sym, ap, arith, IsTrue, unwrap_or}
use Rattle.std.specs.List.{IsDistinct}
use Rattle.std.specs.List.Sorted.{IsPermutation}
use Rattle.std.specs.Option.{ForSome, option_map_or}
use Rattle.std.proofs.lemmas.Bool.Decides.{nat_tests}
use Rattle.std.proofs.lemmas.Bool.{and_from, both_ways, eq-eqb, false_from_ne_true, not-true}
use Rattle.std.proofs.lemmas.List.{length-append}
use Rattle.std.proofs.lemmas.List.Elements.{All-append, All-cons, All-contains, All-map, All-nil, All-weaker}
use Rattle.std.proofs.lemmas.List.Sorted.{All-permutation, length_permutation}
use Rattle.std.proofs.lemmas.List.Sums.{AllPass-from_list_all}
use Rattle.std.proofs.lemmas.Map.Keys.{IsDistinct-IsPermutation, IsDistinct-from_apart, apart_from_distinct}
use Rattle.std.specs.Fmt.{decimal}
use Rattle.prefix_keys.specs.Print.{address_text, block_text}
use Rattle.prefix_keys.specs.Block.{width_of}
use Rattle.prefix_keys.specs.declared.version.Version.{Version}
use Rattle.prefix_keys.specs.declared.version.Version.TheVariants.{V4, V6}
use Rattle.prefix_keys.proofs.Printed.{Lacks}
use Rattle.pmap_cert.specs.Acceptance.{HasBlock}
use Rattle.pmap_model.specs.Label.{is_label}
use Rattle.pmap_model.specs.Steps.{◌>>=◌}
use Rattle.pmap_text.specs.Reading.{Earlier, lines_read, no_lines, unknown, map_reading, list_reading}
use Rattle.pmap_text.specs.Inner.{text_read, list_from, map_from}
use Rattle.pmap_model.specs.ListModel.{ListModel, Prefix, label_below, list_label, CoversAddress, IsLongestMatch, is_same_prefix, same_start_and_bits}
use Rattle.pmap_model.specs.MapModel.{Label, MapModel, Mapping, last_such, spans}
use Rattle.pmap_text.specs.declared.fault.MapFault.{MapFault}
use Rattle.pmap_text.specs.declared.reading.form.Form.{Form}
use Rattle.pmap_text.specs.declared.reading.form.Form.TheVariants as form
use Rattle.pmap_model.proofs.ListLabels.{label-longest, label-same_prefixes, longest-match, once-distinct, same_prefixes-permuted}
use Rattle.pmap_cert.specs.ListText.{entry_line, list_text, entries_in_order, CanBeReadAgain, IsListAgain, IsMapAgain, IsPrintedEntry}
use Rattle.pmap_cert.proofs.LastMatch.{last-found, match-in, mapping_of_prefix}
use Rattle.prefix_keys.proofs.Groups.{width-le}
use Rattle.pmap_cert.proofs.EntryOrder.{alike-flips, in_order-moves, in_order-order}
use Rattle.pmap_cert.proofs.ReadLines.{mode_text, name-high, name_lines}
use Rattle.pmap_cert.proofs.ReadLists.{HasRead, lines-read}
use Rattle.pmap_cert.proofs.WordLines.{high-block, line-lacks_feed, lines-text}

-- no printed line has a line feed in it
mode-feed : (version : Version) → Lacks 10 (mode_text version)
mode-feed V4 =
    All-weaker (λ b. not (b == 10) ≡ true) (λ b. (b == 10) ≡ false) (λ b h. not-true (b == 10) h) (mode_text V4)
    (AllPass-from_list_all (λ b. not (b == 10)) (mode_text V4) refl)
mode-feed V6 =
    All-weaker (λ b. not (b == 10) ≡ true) (λ b. (b == 10) ≡ false) (λ b h. not-true (b == 10) h) (mode_text V6)
    (AllPass-from_list_all (λ b. not (b == 10)) (mode_text V6) refl)

name-feed : (name : Option Label) → ForSome name (λ n. IsTrue (is_label n)) → All (Lacks 10) (name_lines name)
name-feed None label = All-nil (Lacks 10)
name-feed (Some name) label =
    All-cons (Lacks 10) (codes "map-name" ++ 32 ∷ name) []
    (line-lacks_feed (codes "map-name") name (omega arith) name-high (label name refl)) (All-nil (Lacks 10))

entry-feed : (version : Version) (p : Prefix) → IsPrintedEntry version p → Lacks 10 (entry_line version p)
entry-feed version p is =
    line-lacks_feed (block_text version p.start p.bits) p.label
    (omega (arith, length-append (address_text version p.start) (47 ∷ decimal p.bits)))
    (high-block version p.start p.bits (omega (arith, width-le version, is.0.bits))) is.1

lines-feed : (version : Version) (name : Option Label) (ps : List Prefix) → ForSome name (λ n. IsTrue (is_label n)) → All (IsPrintedEntry version) ps
    → All (Lacks 10) (name_lines name ++ mode_text version ∷ map (entry_line version) ps)
lines-feed version name ps label each =
    All-append (Lacks 10) (name_lines name) (mode_text version ∷ map (entry_line version) ps) (name-feed name label)
    (All-cons (Lacks 10) (mode_text version) (map (entry_line version) ps) (mode-feed version)
    (All-map (Lacks 10) (entry_line version) ps
    (All-weaker (IsPrintedEntry version) (λ p. Lacks 10 (entry_line version p)) (entry-feed version) ps each)))

-- entries that begin alike have the same block, so entries with distinct blocks don't begin alike
alike-same : (W : ℕ) (p r : Prefix) → same_start_and_bits p r ≡ true → is_same_prefix W p r ≡ true
alike-same W p r e =
    let start : p.start ≡ r.start = grind (arith, nat_tests) in
    let bits : p.bits ≡ r.bits = grind (arith, nat_tests) in
    rw (start, bits) (and_from (r.bits == r.bits) _ (eq-eqb r.bits r.bits refl) (eq-eqb _ _ refl))

alike-distinct : (W : ℕ) (ps : List Prefix) → IsDistinct (is_same_prefix W) ps → IsDistinct same_start_and_bits ps
alike-distinct W ps distinct =
    IsDistinct-from_apart same_start_and_bits ps
    (λ i j d under within. false_from_ne_true (same_start_and_bits (get_or ps i d) (get_or ps j d))
    (λ e. both_ways (is_same_prefix W (get_or ps i d) (get_or ps j d)) (apart_from_distinct (is_same_prefix W) ps i j d distinct under within)
    (alike-same W (get_or ps i d) (get_or ps j d) e)))

-- an address that no entry covers has no label
none-label : (W a : ℕ) (ps : List Prefix) → All (λ p. ¬ CoversAddress W a p) ps → label_below W ps (suc W) a ≡ None
none-label W a ps none = by (label_below W ps (suc W) a) refl (longest-match W ps a)
  where
    by : (o : Option Label) → label_below W ps (suc W) a ≡ o
        → MatchOption o (All (λ p. CoversAddress W a p → ⊥) ps) (λ x. (p : Prefix) × IsLongestMatch W ps a p × (p.label ≡ x))
        → label_below W ps (suc W) a ≡ None
    by None e match = e
    by (Some x) e match =
        absurd (All-contains (λ p. ¬ CoversAddress W a p) ps match.0 none (match-in W a ps match.0 match.1) ((match.1).covers))

-- the last statement that covers an address has the label of the longest match
found-label : (W a : ℕ) (ps : List Prefix)
    → ((last_such (spans a) (map (mapping_of_prefix W) ps) ≡ None) × All (λ p. ¬ CoversAddress W a p) ps)
    ⊎ ((p : Prefix) × (last_such (spans a) (map (mapping_of_prefix W) ps) ≡ Some (mapping_of_prefix W p)) × IsLongestMatch W ps a p)
    → option_map_or (λ (p : Mapping). p.label) (last_such (spans a) (map (mapping_of_prefix W) ps)) unknown ≡ unwrap_or (label_below W ps (suc W) a) unknown
found-label W a ps (inl none) =
    ap (λ (o : Option Mapping). option_map_or (λ (p : Mapping). p.label) o unknown) none.0 ∙ sym (ap (λ (o : Option Label). unwrap_or o unknown) (none-label W a ps none.1))
found-label W a ps (inr found) =
    ap (λ (o : Option Mapping). option_map_or (λ (p : Mapping). p.label) o unknown) found.1
    ∙ sym (ap (λ (o : Option Label). unwrap_or o unknown) (label-longest W ps a found.0 found.2))

module _ (l : ListModel) (can : CanBeReadAgain l) where
  distinct : IsDistinct same_start_and_bits l.prefixes
  distinct = alike-distinct (width_of l.version) l.prefixes can.form.distinct

  moved : IsPermutation l.prefixes (entries_in_order l.prefixes)
  moved = in_order-moves l.prefixes

  each : All (IsPrintedEntry l.version) (entries_in_order l.prefixes)
  each = All-permutation (IsPrintedEntry l.version) l.prefixes (entries_in_order l.prefixes) moved can.form.entries

  -- what the lines of the list's text say
  read : (kind : Form) → (e : Earlier) × (text_read kind (list_text l) ≡ Ok e) × HasRead kind l.version l.name e (entries_in_order l.prefixes)
  read kind =
      let found = lines-read kind l.version l.name (entries_in_order l.prefixes) can.form.name each
      (IsDistinct-IsPermutation same_start_and_bits alike-flips l.prefixes (entries_in_order l.prefixes) moved distinct)
      (omega (arith, can.few_entries, length_permutation l.prefixes (entries_in_order l.prefixes) moved)) can.few_labels in (
        found.0,
        ap (lines_read kind 0 (Ok no_lines)) (lines-text _ (lines-feed l.version l.name (entries_in_order l.prefixes) can.form.name each)) ∙ found.1,
        found.2,
      )

  pub list-again : (r : ListModel) × (list_reading (list_text l) ≡ Ok r) × IsListAgain l r
  list-again =
      let found = read form.List in (
        list_from found.0,
        ap (λ (r : Result Earlier MapFault). r >>= (λ lines. Ok (list_from lines))) found.1,
        record {
          version = ap (λ (o : Option Version). unwrap_or o V4) found.2.version_is;
          name = found.2.name_is;
          prefixes = found.2.entries;
        },
      )

  -- the entries in order label each address as the list does
  pub order-label : (a : ℕ) → list_label l a ≡ label_below (width_of l.version) (entries_in_order l.prefixes) (suc (width_of l.version)) a
  order-label a =
      label-same_prefixes (width_of l.version) l.prefixes (entries_in_order l.prefixes) a (once-distinct (width_of l.version) l.prefixes can.form.distinct)
      (same_prefixes-permuted l.prefixes (entries_in_order l.prefixes) moved)

  -- the last statement of the text that covers an address has the list's label
  same-label : (a : ℕ) → option_map_or (λ (p : Mapping). p.label) (last_such (spans a) (map (mapping_of_prefix (width_of l.version)) (entries_in_order l.prefixes))) unknown
      ≡ unwrap_or (list_label l a) unknown
  same-label a =
      rw (order-label a)
      (found-label (width_of l.version) a (entries_in_order l.prefixes)
      (last-found (width_of l.version) a (entries_in_order l.prefixes) (in_order-order l.prefixes distinct)
      (All-weaker (IsPrintedEntry l.version) (HasBlock (width_of l.version)) (λ p is. is.0) (entries_in_order l.prefixes) each)))

  pub map-again : (m : MapModel) × (map_reading (list_text l) ≡ Ok m) × IsMapAgain l m
  map-again =
      let found = read form.Map in (
        map_from found.0,
        ap (λ (r : Result Earlier MapFault). r >>= (λ lines. Ok (map_from lines))) found.1,
        record {
          version = ap (λ (o : Option Version). unwrap_or o V4) found.2.version_is;
          name = found.2.name_is;
          labels = λ a _. ap (λ (ms : List Mapping). option_map_or (λ (p : Mapping). p.label) (last_such (spans a) ms) (unwrap_or (found.0).fallback unknown)) found.2.entries
              ∙ ap (λ (o : Option Label). option_map_or (λ (p : Mapping). p.label) (last_such (spans a) (map (mapping_of_prefix (width_of l.version)) (entries_in_order l.prefixes))) (unwrap_or o unknown)) found.2.fallback
              ∙ same-label a;
        },
      )
