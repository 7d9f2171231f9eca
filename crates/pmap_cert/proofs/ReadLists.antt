-- The printed text of a list, read as a list and as a map.
use Rattle.std.proofs.Common.{◌≡◌, ℕ, ◌+◌, ◌≤◌, ◌==◌, ◌&&◌, ◌∙◌, true, false, List, [], ◌∷◌, ◌++◌, All, Option, Some, None, Result, Ok, codes, fold, get_or, length, map, refl, sym, ap, subst, arith, IsTrue}
use Rattle.std.specs.List.{AllByRecursion, IsDistinct, list_any}
use Rattle.std.specs.Prelude.{nat_lt}
use Rattle.std.specs.Option.{ForSome}
use Rattle.std.proofs.lemmas.Bool.Decides.{nat_tests}
use Rattle.std.proofs.lemmas.Bool.{lt-ltb}
use Rattle.std.proofs.lemmas.List.{append_assoc, append-nil, get_or_append_left, get_or_at, length-append, length-map, map-append}
use Rattle.std.proofs.lemmas.List.Elements.{recursion_from_All}
use Rattle.std.proofs.lemmas.List.Folds.{list_any_none}
use Rattle.std.proofs.lemmas.List.Sums.{fold-append}
use Rattle.std.proofs.lemmas.Map.Keys.{apart_from_distinct}
use Rattle.prefix_keys.specs.Block.{width_of}
use Rattle.prefix_keys.specs.declared.version.Version.{Version}
use Rattle.pmap_model.specs.Label.{is_label, with_label}
use Rattle.pmap_model.specs.ListModel.{Prefix, same_start_and_bits}
use Rattle.pmap_model.specs.MapModel.{Label, Mapping}
use Rattle.pmap_text.specs.Reading.{content_line, content_of, Earlier, label_limit, lines_read, mapping_limit, no_lines, has_room, has_prefix}
use Rattle.pmap_text.specs.declared.fault.MapFaultKind.{MapFaultKind}
use Rattle.pmap_text.specs.declared.reading.form.Form.{Form}
use Rattle.pmap_text.specs.declared.reading.form.Form.TheVariants as form
use Rattle.pmap_text.proofs.ProgressSteps.{length-with_label}
use Rattle.pmap_cert.proofs.LastMatch.{mapping_of_prefix}
use Rattle.pmap_cert.specs.ListText.{entry_line, IsPrintedEntry, labels_of}
use Rattle.pmap_cert.proofs.ReadLines.{entered, label_of-label, meant-label, mode-entry, mode_text, name-entry, name_lines, placed-entry}

-- the entries that were read are these
abbrev pub AreEntries : Form → Version → Earlier → List Prefix → Type 0
AreEntries form.List version earlier done = earlier.prefixes ≡ done
AreEntries form.Map version earlier done = earlier.mappings ≡ map (mapping_of_prefix (width_of version)) done

-- what the lines so far say: the name, the version, and these entries
pub record HasRead (kind : Form) (version : Version) (name : Option Label) (earlier : Earlier) (done : List Prefix) : Type 0 where
  pub version_is : earlier.version ≡ Some version
  pub name_is : earlier.name ≡ name
  pub declared : earlier.declared ≡ []
  pub fallback : earlier.fallback ≡ None
  pub entries : AreEntries kind version earlier done
  pub table : earlier.table ≡ labels_of done

-- the labels of one entry more, and of others after it
labels-split : (done : List Prefix) (p : Prefix) (ps : List Prefix)
    → labels_of (done ++ p ∷ ps) ≡ fold with_label (with_label (labels_of done) p.label) (map (λ (r : Prefix). r.label) ps)
labels-split done p ps =
    ap (fold with_label []) (map-append (λ (r : Prefix). r.label) done (p ∷ ps))
    ∙ fold-append with_label [] (map (λ (r : Prefix). r.label) done) (p.label ∷ map (λ (r : Prefix). r.label) ps)

-- one entry more was read
has_read-entered : (kind : Form) (version : Version) (name : Option Label) (earlier : Earlier) (done : List Prefix) (p : Prefix)
    → HasRead kind version name earlier done → HasRead kind version name (entered kind version p earlier) (done ++ p ∷ [])
has_read-entered form.List version name earlier done p has = record {
  version_is = refl;
  name_is = has.name_is;
  declared = has.declared;
  fallback = has.fallback;
  entries = ap (λ (ps : List Prefix). ps ++ p ∷ []) has.entries;
  table = ap (λ (t : List Label). with_label t p.label) has.table ∙ sym (labels-split done p []);
}
has_read-entered form.Map version name earlier done p has = record {
  version_is = refl;
  name_is = has.name_is;
  declared = has.declared;
  fallback = has.fallback;
  entries = ap (λ (ms : List Mapping). ms ++ mapping_of_prefix (width_of version) p ∷ []) has.entries
      ∙ sym (map-append (mapping_of_prefix (width_of version)) done (p ∷ []));
  table = ap (λ (t : List Label). with_label t p.label) has.table ∙ sym (labels-split done p []);
}

-- the block of an entry differs from those of the entries before it
block-new : (done : List Prefix) (p : Prefix) (ps : List Prefix) → IsDistinct same_start_and_bits (done ++ p ∷ ps)
    → list_any (λ (r : Prefix). r.start == p.start && r.bits == p.bits) done ≡ false
block-new done p ps distinct =
    list_any_none (λ (r : Prefix). r.start == p.start && r.bits == p.bits) done
    (λ k d below.
    let apart : same_start_and_bits (get_or (done ++ p ∷ ps) k d) (get_or (done ++ p ∷ ps) (length done) d) ≡ false =
    apart_from_distinct same_start_and_bits (done ++ p ∷ ps) k (length done) d distinct below (omega (arith, length-append done (p ∷ ps))) in
    ap (λ (r : Prefix). same_start_and_bits r p) (sym (get_or_append_left done (p ∷ ps) d k below))
    ∙ ap (same_start_and_bits (get_or (done ++ p ∷ ps) k d)) (sym (get_or_at done p ps d (length done) refl)) ∙ apart)

-- there is room for the label of the next entry
fold-length : (table : List Label) (xs : List Label) → length table ≤ length (fold with_label table xs)
fold-length table [] = omega arith
fold-length table (x ∷ xs) = omega (arith, length-with_label table x, fold-length (with_label table x) xs)

label-room : (table : List Label) (x : Label) → length (with_label table x) ≤ label_limit → has_room table x ≡ true
label-room table x few = grind (arith, nat_tests, length-append table (x ∷ []))

entry-room : (done : List Prefix) (p : Prefix) (ps : List Prefix) → length (labels_of (done ++ p ∷ ps)) ≤ label_limit → has_room (labels_of done) p.label ≡ true
entry-room done p ps few =
    let all = subst (λ (t : List Label). length t ≤ label_limit) (labels-split done p ps) few in
    label-room (labels_of done) p.label
    (omega (arith, all, fold-length (with_label (labels_of done) p.label) (map (λ (r : Prefix). r.label) ps)))

-- the line of the next entry is read as that entry
next-entry : (kind : Form) (version : Version) (name : Option Label) (earlier : Earlier) (done : List Prefix) (p : Prefix) (ps : List Prefix)
    → HasRead kind version name earlier done → IsPrintedEntry version p → IsDistinct same_start_and_bits (done ++ p ∷ ps)
    → length (done ++ p ∷ ps) ≤ mapping_limit → length (labels_of (done ++ p ∷ ps)) ≤ label_limit
    → content_line kind earlier (content_of (entry_line version p)) ≡ Ok (entered kind version p earlier)
next-entry form.List version name earlier done p ps has is distinct few few_labels =
    let new : has_prefix earlier.prefixes p.start p.bits ≡ false = rw has.entries (block-new done p ps distinct) in
    let limit : nat_lt (length earlier.prefixes) mapping_limit ≡ true = rw has.entries (lt-ltb _ _ (omega (arith, few, length-append done (p ∷ ps)))) in
    let room : has_room earlier.table p.label ≡ true = rw has.table (entry-room done p ps few_labels) in
    placed-entry form.List earlier version p is has.version_is
    ∙ rw (label_of-label p.label is.1, has.declared, meant-label p.label, new, limit, room) refl
next-entry form.Map version name earlier done p ps has is distinct few few_labels =
    let limit : nat_lt (length earlier.mappings) mapping_limit ≡ true = rw has.entries
    (lt-ltb _ _ (omega (arith, few, length-append done (p ∷ ps), length-map done (mapping_of_prefix (width_of version))))) in
    let room : has_room earlier.table p.label ≡ true = rw has.table (entry-room done p ps few_labels) in
    placed-entry form.Map earlier version p is has.version_is
    ∙ rw (label_of-label p.label is.1, has.declared, meant-label p.label, limit, room) refl

-- the lines of the other entries are read
abbrev AllRead : Form → Version → Option Label → Earlier → ℕ → List Prefix → List Prefix → Type 0
AllRead kind version name earlier number ps all =
    (read : Earlier) × (lines_read kind number (Ok earlier) (map (entry_line version) ps) ≡ Ok read) × HasRead kind version name read all

lines-more : (kind : Form) (earlier next : Earlier) (number : ℕ) (line : List ℕ) (lines : List (List ℕ)) → content_line kind earlier (content_of line) ≡ Ok next
    → lines_read kind number (Ok earlier) (line ∷ lines) ≡ lines_read kind (number + 1) (Ok next) lines
lines-more kind earlier next number line lines e = ap (λ (r : Result Earlier MapFaultKind). lines_read kind (number + 1) r lines) e

read-entries : (kind : Form) (version : Version) (name : Option Label) (earlier : Earlier) (number : ℕ) (done ps : List Prefix)
    → HasRead kind version name earlier done → AllByRecursion (IsPrintedEntry version) ps → IsDistinct same_start_and_bits (done ++ ps)
    → length (done ++ ps) ≤ mapping_limit → length (labels_of (done ++ ps)) ≤ label_limit
    → AllRead kind version name earlier number ps (done ++ ps)
read-entries kind version name earlier number done [] has each distinct few few_labels =
    (earlier, refl, subst (λ (ps : List Prefix). HasRead kind version name earlier ps) (sym (append-nil done)) has)
read-entries kind version name earlier number done (p ∷ ps) has each distinct few few_labels =
    let same : (done ++ p ∷ []) ++ ps ≡ done ++ p ∷ ps = append_assoc done (p ∷ []) ps in
    let rest = read-entries kind version name (entered kind version p earlier) (number + 1) (done ++ p ∷ []) ps
    (has_read-entered kind version name earlier done p has) each.1
    (subst (λ (rs : List Prefix). IsDistinct same_start_and_bits rs) (sym same) distinct)
    (subst (λ (rs : List Prefix). length rs ≤ mapping_limit) (sym same) few)
    (subst (λ (rs : List Prefix). length (labels_of rs) ≤ label_limit) (sym same) few_labels) in (
      rest.0,
      lines-more kind earlier (entered kind version p earlier) number (entry_line version p) (map (entry_line version) ps)
          (next-entry kind version name earlier done p ps has each.0 distinct few few_labels) ∙ rest.1,
      subst (λ (rs : List Prefix). HasRead kind version name rest.0 rs) same rest.2,
    )

-- the lines of the name and the version, which come first, are read
abbrev head : Option Label → Version → Earlier
head name version = record no_lines { name = name; version = Some version }

head-read : (kind : Form) (version : Version) (name : Option Label) → HasRead kind version name (head name version) []
head-read form.List version name = record { version_is = refl; name_is = refl; declared = refl; fallback = refl; entries = refl; table = refl }
head-read form.Map version name = record { version_is = refl; name_is = refl; declared = refl; fallback = refl; entries = refl; table = refl }

pub lines-read : (kind : Form) (version : Version) (name : Option Label) (ps : List Prefix) → ForSome name (λ n. IsTrue (is_label n))
    → All (IsPrintedEntry version) ps → IsDistinct same_start_and_bits ps → length ps ≤ mapping_limit → length (labels_of ps) ≤ label_limit
    → (read : Earlier) × (lines_read kind 0 (Ok no_lines) (name_lines name ++ mode_text version ∷ map (entry_line version) ps) ≡ Ok read)
    × HasRead kind version name read ps
lines-read kind version None ps label each distinct few few_labels =
    let rest = read-entries kind version None (head None version) 1 [] ps (head-read kind version None)
    (recursion_from_All (IsPrintedEntry version) ps each) distinct few few_labels in
    (rest.0, lines-more kind no_lines (head None version) 0 (mode_text version) (map (entry_line version) ps) (mode-entry kind None version) ∙ rest.1, rest.2)
lines-read kind version (Some name) ps label each distinct few few_labels =
    let named : Earlier = record no_lines { name = Some name } in
    let rest = read-entries kind version (Some name) (head (Some name) version) 2 [] ps (head-read kind version (Some name))
    (recursion_from_All (IsPrintedEntry version) ps each) distinct few few_labels in (
      rest.0,
      lines-more kind no_lines named 0 (codes "map-name" ++ 32 ∷ name) (mode_text version ∷ map (entry_line version) ps)
          (name-entry kind no_lines name (label name refl))
          ∙ lines-more kind named (head (Some name) version) 1 (mode_text version) (map (entry_line version) ps) (mode-entry kind (Some name) version)
          ∙ rest.1,
      rest.2,
    )
