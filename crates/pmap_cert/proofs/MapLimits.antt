-- A map read from a text has a label table with all its labels and at most as many mappings as a text may have, and its
-- name is a label.
use Rattle.std.proofs.Common.{◌≡◌, ℕ, ◌+◌, ◌<◌, ◌≤◌, ◌==◌, Bool, true, false, cond, List, [], ◌∷◌, ◌++◌, All, Option, Some, None, Result, Ok, Err, IsTrue, IfOk, find, length, arith, refl, ◌∙◌, sym, subst, option_and_then, option_map, unwrap_or}
use Rattle.std.specs.List.{list_any}
use Rattle.std.specs.Option.{ForSome}
use Rattle.std.proofs.lemmas.Bool.{ltb-true, or_left}
use Rattle.std.proofs.lemmas.List.{length-append}
use Rattle.std.proofs.lemmas.List.Elements.{All-contains, All-nil, All-push, All-weaker}
use Rattle.std.proofs.lemmas.Option.{none-some, same_Some}
use Rattle.pmap_model.proofs.Finds.{find_passes}
use Rattle.pmap_model.proofs.LabelTexts.{IsLabelTable-with_label, has_label-with_label, with_label-known, with_label-new}
use Rattle.pmap_text.proofs.MapLines.{HoldsAfter, IsText, line-holds}
use Rattle.pmap_text.specs.Declarations.{declared_text, label_number, meant_text, with_declared}
use Rattle.pmap_model.specs.Label.{IsLabelTable, has_label, is_label, with_label}
use Rattle.pmap_text.specs.Reading.{content_of, lines_of, Earlier, content_line, label_limit, lines_read, mapping_limit, no_lines, unknown, map_reading, has_room}
use Rattle.pmap_text.specs.Inner.{text_read, map_from}
use Rattle.pmap_model.specs.MapModel.{Label, MapModel, Mapping}
use Rattle.pmap_text.specs.declared.fault.MapFault.{MapFault}
use Rattle.pmap_text.specs.declared.fault.MapFaultKind.{MapFaultKind}
use Rattle.pmap_text.specs.declared.reading.form.Form.TheVariants as form
use Rattle.pmap_cert.specs.Acceptance.{HasItsLabels}
use Rattle.pmap_cert.proofs.FormatWhole.{no_labels}
use Rattle.pmap_cert.proofs.Sets.{has-append}
use Rattle.pmap_cert.proofs.Tables.{bind_ok, ok_is}

abbrev IsDeclared : ℕ × Label → Type 0
IsDeclared d = IsText d.1

-- a table keeps its labels when one is added, and has the added one
has-kept : (table : List Label) (y x : Label) → has_label table x ≡ true → has_label (with_label table y) x ≡ true
has-kept table y x h = by (has_label table y) refl
  where
    by : (b : Bool) → has_label table y ≡ b → has_label (with_label table y) x ≡ true
    by true e = rw e h
    by false e = rw e (has-append table (y ∷ []) x ∙ or_left (has_label table x) (has_label (y ∷ []) x) h)

abbrev HasLabel : List Label → Mapping → Type 0
HasLabel table m = has_label table m.label ≡ true

all-kept : (table : List Label) (y : Label) (ms : List Mapping) → All (HasLabel table) ms → All (HasLabel (with_label table y)) ms
all-kept table y ms = All-weaker (HasLabel table) (HasLabel (with_label table y)) (λ m h. has-kept table y m.label h) ms

-- what was read keeps the limits of a text, and the table has its labels
record IsWithin (called : Option Label) (pairs : List (ℕ × Label)) (default : Option Label) (ms : List Mapping) (texts : List Label) : Type 0 where
  name : ForSome called IsText
  declared : All IsDeclared pairs
  fallback : ForSome default (λ x. has_label texts x ≡ true)
  mappings : length ms ≤ mapping_limit
  labels : All (HasLabel texts) ms
  table : IsLabelTable texts
  room : length texts ≤ label_limit

abbrev AreWithin : Earlier → Type 0
AreWithin e = IsWithin e.name e.declared e.fallback e.mappings e.table

room-kept : (table : List Label) (x : Label) → length table ≤ label_limit → has_room table x ≡ true → length (with_label table x) ≤ label_limit
room-kept table x few room = by (has_label table x) refl
  where
    by : (b : Bool) → has_label table x ≡ b → length (with_label table x) ≤ label_limit
    by true known = rw (with_label-known table x known) few
    by false new =
        let below : length table < label_limit = ltb-true (length table) label_limit (rw new at room) in
        rw (with_label-new table x new) (omega (arith, below, length-append table (x ∷ [])))

declared-more : (declared : List (ℕ × Label)) (d : ℕ × Label) → All IsDeclared declared → IsDeclared d → All IsDeclared (with_declared declared d)
declared-more declared d all is = by (list_any (λ e. e.0 == d.0) declared)
  where
    by : (b : Bool) → All IsDeclared (cond b declared (declared ++ d ∷ []))
    by true = all
    by false = All-push IsDeclared declared d all is

module _ (e : Earlier) (so_far : AreWithin e) where
  -- the text that a label means
  meant-text : (label : Label) → IsText label → IsText (meant_text e.declared label)
  meant-text label is = by (label_number label)
    where
      found : (o : Option (ℕ × Label)) → ((d : ℕ × Label) → o ≡ Some d → IsDeclared d) → IsText (unwrap_or (option_map (λ d. d.1) o) label)
      found None each = is
      found (Some d) each = each d refl

      by : (o : Option ℕ) → IsText (unwrap_or (option_and_then (declared_text e.declared) o) label)
      by None = is
      by (Some number) =
          found (find (λ d. d.0 == number) e.declared)
          (λ d h. All-contains IsDeclared e.declared d so_far.declared ((find_passes (λ d. d.0 == number) e.declared d h).0))

  -- the table with one more text
  table-kept : (x : Label) → IsText x → IsLabelTable (with_label e.table x)
  table-kept x label = let few = so_far.room in IsLabelTable-with_label e.table x so_far.table label (omega arith)

  -- the limits are kept after each kind of line
  within-after : HoldsAfter e AreWithin
  within-after = record {
    nothing = so_far;
    name = λ name is. record {
      name = λ x e. subst IsText (same_Some name x e) is;
      declared = so_far.declared;
      fallback = so_far.fallback;
      mappings = so_far.mappings;
      labels = so_far.labels;
      table = so_far.table;
      room = so_far.room;
    };
    mode = λ _. so_far;
    label = λ number text is room. record {
      name = so_far.name;
      declared = declared-more e.declared (number, text) so_far.declared is;
      fallback = λ x known. has-kept e.table text x (so_far.fallback x known);
      mappings = so_far.mappings;
      labels = all-kept e.table text e.mappings so_far.labels;
      table = table-kept text is;
      room = room-kept e.table text so_far.room room;
    };
    fallback = λ label is room. let text : Label = meant_text e.declared label in record {
      name = so_far.name;
      declared = so_far.declared;
      fallback = λ x e'. subst (λ (y : Label). has_label (with_label e.table text) y ≡ true) (same_Some text x e') (has_label-with_label e.table text);
      mappings = so_far.mappings;
      labels = all-kept e.table text e.mappings so_far.labels;
      table = table-kept text (meant-text label is);
      room = room-kept e.table text so_far.room room;
    };
    span = λ version low high label is few room.
        let text : Label = meant_text e.declared label in
        let m : Mapping = record { low = low; high = high; label = text } in
        record {
          name = so_far.name;
          declared = so_far.declared;
          fallback = λ x known. has-kept e.table text x (so_far.fallback x known);
          mappings = omega (arith, ltb-true (length e.mappings) mapping_limit few, length-append e.mappings (m ∷ []));
          labels = All-push (HasLabel (with_label e.table text)) e.mappings m (all-kept e.table text e.mappings so_far.labels)
              (has_label-with_label e.table text);
          table = table-kept text (meant-text label is);
          room = room-kept e.table text so_far.room room;
        };
  }

  -- the table of the whole map, with the default, is a label table
  whole-table : (o : Option Label) → e.fallback ≡ o → IsLabelTable (with_label e.table (unwrap_or o unknown))
  whole-table (Some label) is = subst IsLabelTable (sym (with_label-known e.table label (so_far.fallback label is))) so_far.table
  whole-table None is = table-kept unknown refl

within-none : AreWithin no_lines
within-none = record {
  name = λ x e. absurd (none-some x e);
  declared = All-nil IsDeclared;
  fallback = λ x e. absurd (none-some x e);
  mappings = omega arith;
  labels = All-nil (HasLabel []);
  table = no_labels;
  room = omega arith;
}

within-lines : (number : ℕ) (r : Result Earlier MapFaultKind) (lines : List (List ℕ)) → IfOk r AreWithin → IfOk (lines_read form.Map number r lines) AreWithin
within-lines number (Err kind) lines within = tt
within-lines number (Ok e) [] within = within
within-lines number (Ok e) (line ∷ lines) within =
    within-lines (number + 1) (content_line form.Map e (content_of line)) lines (line-holds e AreWithin (within-after e within) (content_of line))

-- the table, the mappings and the name of a map text
pub record IsLimited (m : MapModel) : Type 0 where
  pub table : IsLabelTable m.table
  pub mappings : length m.mappings ≤ mapping_limit
  pub name : ForSome m.name (λ name. IsTrue (is_label name))

-- the lines of a map text keep the limits
read-within : (text : List ℕ) (m : MapModel) → map_reading text ≡ Ok m → (e : Earlier) × AreWithin e × (map_from e ≡ m)
read-within text m read =
    let found = bind_ok (text_read form.Map text) (λ (e : Earlier). Ok (map_from e)) m read in (
      found.0,
      subst (λ (r : Result Earlier MapFault). IfOk r AreWithin) found.1 (within-lines 0 (Ok no_lines) (lines_of text) within-none),
      ok_is (map_from found.0) m found.2,
    )

pub limits-read : (text : List ℕ) (m : MapModel) → map_reading text ≡ Ok m → IsLimited m
limits-read text m read =
    let found = read-within text m read in
    let within = found.1 in
    subst IsLimited found.2
    (record { table = whole-table found.0 within (found.0).fallback refl; mappings = within.mappings; name = within.name })

-- a map text has all its labels in its table
pub labels-read : (text : List ℕ) (m : MapModel) → map_reading text ≡ Ok m → HasItsLabels m
labels-read text m read =
    let found = read-within text m read in
    let e = found.0 in
    let x : Label = unwrap_or e.fallback unknown in
    subst HasItsLabels found.2
    (record { fallback = has_label-with_label e.table x; mappings = all-kept e.table x e.mappings (found.1).labels })
