-- A prefix list's entries as statements painted over one another, the short ones first.
use Rattle.std.proofs.Common.{◌≡◌, ℕ, suc, ◌-◌, ◌<◌, ◌≤◌, List, [], ◌∷◌, Option, Some, None, option_and_then, option_map, map, length, refl, sym, ap, ◌∙◌, subst, arith, All, Contains, slice_get}
use Rattle.std.specs.Option.{option_or}
use Rattle.std.specs.List.{AllZip}
use Rattle.std.proofs.lemmas.List.Elements.{All-contains, All-cons, All-head, All-map, All-nil, All-tail, All-weaker}
use Rattle.std.proofs.lemmas.List.Sorted.{All-permutation, IsPermutation-map, IsPermutation-sym, length_permutation}
use Rattle.prefix_keys.specs.Block.{block_number, width_of}
use Rattle.prefix_keys.specs.declared.version.Version.{Version}
use Rattle.prefix_keys.proofs.Quotients.{whole}
use Rattle.pmap_model.specs.ListEntries.{same_block}
use Rattle.pmap_model.specs.ListModel.{Prefix, list_label}
use Rattle.pmap_model.specs.MapModel.{Label, Mapping, last_such, spans}
use Rattle.pmap_model.specs.MapText.{mapping_of, text_at, mappings_of}
use Rattle.pmap_model.specs.declared.statement.Statement.{Statement}
use Rattle.pmap_model.specs.PrefixList.{AreShortestFirst, HasStatement, list_of, prefix_of}
use Rattle.pmap_model.specs.declared.entry.Entry.{Entry}
use Rattle.pmap_model.specs.declared.prefix_list.PrefixList.{PrefixList}
use Rattle.pmap_model.proofs.Finds.{Contains-from_map, distinct_same}
use Rattle.pmap_model.proofs.ListBlocks.{block_short, same_block-from}
use Rattle.pmap_stretches.proofs.Longest.{AreBlocks, label_seen}
use Rattle.pmap_stretches.proofs.Orders.{known_text}
use Rattle.pmap_stretches.proofs.Painted.{IsAscending, IsSeen, painted, ascending, seen_by, seen_permuted, unmet}
use Rattle.pmap_stretches.proofs.Seen.{last_such-is}
use Rattle.pmap_stretches.proofs.SeenBlocks.{IsWhole, address_whole, ordered_of}
use Rattle.pmap_stretches.proofs.Winners.{text_won}

-- what is true of each entry is true of its statement in another form
pub zip_all : (P : Entry → Type 0) (Q : Statement → Type 0) → ((e : Entry) (s : Statement) → HasStatement e s → P e → Q s) → (es : List Entry)
    → (ss : List Statement) → AllZip HasStatement es ss → All P es → All Q ss
zip_all P Q step [] [] all given = All-nil Q
zip_all P Q step [] (s ∷ ss) all given = absurd all
zip_all P Q step (e ∷ es) [] all given = absurd all
zip_all P Q step (e ∷ es) (s ∷ ss) all given =
    All-cons Q s ss (step e s all.0 (All-head P e es given)) (zip_all P Q step es ss all.1 (All-tail P e es given))

pub zip_length : (es : List Entry) (ss : List Statement) → AllZip HasStatement es ss → length es ≡ length ss
zip_length [] [] all = refl
zip_length [] (s ∷ ss) all = absurd all
zip_length (e ∷ es) [] all = absurd all
zip_length (e ∷ es) (s ∷ ss) all = omega (arith, zip_length es ss all.1)

-- an entry's statement is the mapping of its block
same_mapping : (v : Version) (table : List Label) (e : Entry) (s : Statement) → e.block.version ≡ v → HasStatement e s
    → painted (width_of v) (prefix_of table e) ≡ mapping_of table s
same_mapping v table e s same is = let label = is.label in let low = is.low in let high = is.high in rw (← same, label, low, high)

pub zip_mappings : (v : Version) (table : List Label) (es : List Entry) (ss : List Statement) → AllZip HasStatement es ss
    → All (λ e. e.block.version ≡ v) es → map (painted (width_of v)) (map (prefix_of table) es) ≡ mappings_of table ss
zip_mappings v table [] [] all same = refl
zip_mappings v table [] (s ∷ ss) all same = absurd all
zip_mappings v table (e ∷ es) [] all same = absurd all
zip_mappings v table (e ∷ es) (s ∷ ss) all same =
    let here = same_mapping v table e s (All-head (λ (d : Entry). d.block.version ≡ v) e es same) all.0 in
    let rest = zip_mappings v table es ss all.1 (All-tail (λ (d : Entry). d.block.version ≡ v) e es same) in
    rw (here, rest)

-- the entries' blocks are distinct and have no host bits, so entries with the same block are equal
same_entry : (l : PrefixList) (d e : Entry) → Contains l.entries d → Contains l.entries e → d.block.len ≡ e.block.len
    → block_number (width_of l.version) d.block.len d.block.value ≡ block_number (width_of l.version) e.block.len e.block.value → d ≡ e
same_entry l d e has has' bits number =
    let v = l.version in
    let ours = All-contains (λ e. e.block.version ≡ v) l.entries in
    let left = ours d l.one_version has in
    let right = ours e l.one_version has' in
    distinct_same same_block l.entries d e l.blocks_distinct has has' (same_block-from v d e left right bits number)
    (same_block-from v e d right left (sym bits) (sym number))

pub list_blocks : (l : PrefixList) → AreBlocks (width_of l.version) (map (prefix_of l.labels) l.entries)
list_blocks l =
    let W = width_of l.version in
    record {
      short = All-map (λ p. p.bits ≤ W) (prefix_of l.labels) l.entries
          (All-weaker (λ e. e.block.version ≡ l.version) (λ e. e.block.len ≤ W) (λ e same. block_short l.version e same) l.entries l.one_version);
      alike = λ p r has has' bits number.
          let d = Contains-from_map (prefix_of l.labels) l.entries p has in
          let e = Contains-from_map (prefix_of l.labels) l.entries r has' in
          let same = same_entry l d.0 e.0 d.1 e.1
          (ap (λ (s : Prefix). s.bits) d.2 ∙ bits ∙ sym (ap (λ (s : Prefix). s.bits) e.2))
          (ap (λ (s : Prefix). block_number W s.bits s.start) d.2 ∙ number ∙ sym (ap (λ (s : Prefix). block_number W s.bits s.start) e.2)) in
          sym (ap (λ (s : Prefix). s.label) d.2) ∙ ap (λ (f : Entry). (prefix_of l.labels f).label) same ∙ ap (λ (s : Prefix). s.label) e.2;
    }

-- the prefix that is seen at an address, the short ones first, from the statement that wins there
record IsWon (W a : ℕ) (table : List Label) (ps : List Prefix) (o : Option Mapping) : Type 0 where
  label : Option ℕ
  seen : IsSeen W table ps W a label
  text : option_or (option_map (λ m. m.label) o) None ≡ option_and_then (slice_get table) label

won : (W a : ℕ) (table : List Label) (ps : List Prefix) (ss : List Statement) → IsAscending W ps → All (λ s. s.label.0 < length table) ss
    → (o : Option Mapping) → last_such (spans a) (mappings_of table ss) ≡ o → IsWhole W W a (map (painted W) ps) o → IsWon W a table ps o
won W a table ps ss up known None last whole = record { label = None; seen = unmet W W a ps whole.is; text = refl }
won W a table ps ss up known (Some m) last whole =
    let found = last_such-is (spans a) (mappings_of table ss) m last in
    let from = Contains-from_map (mapping_of table) ss m found.0 in
    let s = from.0 in
    let below = All-contains (λ (r : Statement). r.label.0 < length table) ss s known from.1 in
    let text : m.label ≡ text_at table s.label.0 = sym (ap (λ (r : Mapping). r.label) from.2) in
    let covers = whole.covers m refl in
    record {
      label = Some s.label.0;
      seen = (below, seen_by W W a ps (text_at table s.label.0) up (Some m) whole.is (λ fallback. rw covers (ap Some text)));
      text = ap Some text ∙ sym (known_text table s.label.0 below);
    }

single : (W a : ℕ) → a ≡ block_number W W a
single W a = let none : W - W ≡ 0 = omega arith in rw none (omega arith)

-- facts about a list's statements: the one that wins at an address is that of the longest entry that covers it
pub record AreStatementsOf (l : PrefixList) (ss : List Statement) : Type 0 where
  pub version : All (λ s. s.span.low.version ≡ l.version) ss
  pub known : All (λ s. s.label.0 < length l.labels) ss
  pub count : length ss ≡ length l.entries
  pub labels : (a : ℕ) → text_won l.labels None ss a ≡ list_label (list_of l) a

pub statements_of : (l : PrefixList) (ss : List Statement) → AreShortestFirst l.entries ss → AreStatementsOf l ss
statements_of l ss first = record {
  version = zip_all (λ e. e.block.version ≡ l.version) (λ s. s.span.low.version ≡ l.version) (λ e s is same. is.version ∙ same) sorted ss first.each versions;
  known = known;
  count = sym (zip_length sorted ss first.each) ∙ length_permutation l.entries sorted first.moved;
  labels = labels;
}
  where
    sorted : List Entry
    sorted = first.sorted

    versions : All (λ e. e.block.version ≡ l.version) sorted
    versions = All-permutation (λ (e : Entry). e.block.version ≡ l.version) l.entries sorted first.moved l.one_version

    known : All (λ s. s.label.0 < length l.labels) ss
    known =
        zip_all (λ e. e.label.0 < length l.labels) (λ s. s.label.0 < length l.labels)
        (λ e s is below. let same = ap (λ (id : _). id.0) is.label in omega (arith, same, below)) sorted ss first.each
        (All-permutation (λ (e : Entry). e.label.0 < length l.labels) l.entries sorted first.moved l.numbers_known)

    labels : (a : ℕ) → text_won l.labels None ss a ≡ list_label (list_of l) a
    labels a =
        let W = width_of l.version in
        let rs = map (prefix_of l.labels) sorted in
        let mappings : map (painted W) rs ≡ mappings_of l.labels ss = zip_mappings l.version l.labels sorted ss first.each versions in
        let ordered = λ (m : Mapping) (has : Contains (map (painted W) rs) m).
        ordered_of l.labels ss m (subst (λ (ms : List Mapping). Contains ms m) mappings has) in
        let here = subst (λ (ms : List Mapping). IsWhole W W a (map (painted W) rs) (last_such (spans a) ms)) mappings
        (address_whole W a (map (painted W) rs) ordered) in
        let is = won W a l.labels rs ss (ascending l.version l.labels sorted versions first.later) known (last_such (spans a) (mappings_of l.labels ss)) refl here in
        let back = IsPermutation-map (prefix_of l.labels) sorted l.entries (IsPermutation-sym l.entries sorted first.moved) in
        is.text ∙ sym (label_seen W l.labels (map (prefix_of l.labels) l.entries) W a a (suc W) is.label (list_blocks l) (single W a)
        (λ bits most fits. omega (arith, fits)) (seen_permuted W l.labels rs (map (prefix_of l.labels) l.entries) back W a is.label is.seen))
