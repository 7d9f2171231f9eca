-- The state of a reading is the content of the lines so far, also after one more line.
use Rattle.std.proofs.Common.{◌≡◌, ℕ, ◌<◌, ◌≤◌, Bool, true, false, cond, List, [], ◌∷◌, ◌++◌, map, length, length-append, Option, Some, None, refl, sym, ap, ◌∙◌, arith, All, slice_get, unwrap_or, ◌==◌, ◌&&◌}
use Rattle.std.proofs.lemmas.List.Elements.{All-head, All-tail}
use Rattle.std.specs.List.{list_any}
use Rattle.std.proofs.lemmas.List.Folds.{list_any_at}
use Rattle.std.proofs.lemmas.Option.{slice_get-get_or, unwrap_or-slice_get}
use Rattle.std.proofs.lemmas.Slice.Eq.{bytes_eq-Decides}
use Rattle.std.specs.Option.{ForSome, option_map}
use Rattle.std.specs.Str.{bytes_eq}
use Rattle.prefix_keys.specs.declared.version.Version.{Version}
use Rattle.prefix_keys.specs.declared.version.Version.TheVariants.{V4}
use Rattle.pmap_model.specs.Label.{has_label, with_label}
use Rattle.pmap_model.specs.MapModel.{Label, MapModel}
use Rattle.pmap_model.specs.MapText.{mapping_of, text_at}
use Rattle.pmap_model.specs.declared.statement.Statement.{Statement}
use Rattle.pmap_model.specs.PrefixList.{prefix_of}
use Rattle.pmap_model.specs.declared.entry.Entry.{Entry}
use Rattle.pmap_text.specs.Progress.{IsProgress, progress_of}
use Rattle.pmap_text.specs.Reading.{label_limit, unknown, has_prefix}
use Rattle.pmap_text.specs.Inner.{map_from}
use Rattle.pmap_model.specs.declared.label.LabelId.{LabelId}
use Rattle.pmap_model.proofs.LabelTexts.{list_any-map, slice_get-with_label, with_label-known}

-- if the version of an address was decided, it is the version of the lines so far
pub version-decided : (v : Version) (decided : Option Version) → Some v ≡ decided → v ≡ unwrap_or decided V4
version-decided v None e = absurd (cc)
version-decided v (Some w) e = cc

-- a block has an entry if one of the prefixes has it
pub has_prefix-entries : (table : List Label) (entries : List Entry) (start bits : ℕ) → has_prefix (map (prefix_of table) entries) start bits
    ≡ list_any (λ e. e.block.value == start && e.block.len == bits) entries
has_prefix-entries table entries start bits = list_any-map (prefix_of table) _ entries

-- a table is not shorter after a label is added
pub length-with_label : (table : List Label) (x : Label) → length table ≤ length (with_label table x)
length-with_label table x = by (has_label table x)
  where
    by : (b : Bool) → length table ≤ length (cond b table (table ++ x ∷ []))
    by true = omega arith
    by false = omega (arith, length-append table (x ∷ []))

-- a number in the table represents the same text after a label is added
pub text_at-with_label : (table : List Label) (x : Label) (i : ℕ) → i < length table → text_at (with_label table x) i ≡ text_at table i
text_at-with_label table x i h =
    let at = slice_get-get_or table i [] h in
    ap (λ t. unwrap_or t []) (slice_get-with_label table x i _ at ∙ sym at)

-- a text of the table is known
with_label-text_at : (table : List Label) (i : ℕ) → i < length table → with_label table (text_at table i) ≡ table
with_label-text_at table i h =
    with_label-known table (text_at table i)
    (list_any_at (bytes_eq (text_at table i)) table i [] h ((bytes_eq-Decides (text_at table i) _).1 (unwrap_or-slice_get table i [])))

-- and so each statement and each entry has the same text
mappings-with_label : (table : List Label) (x : Label) (statements : List Statement) → All (λ s. s.label.0 < length table) statements → map (mapping_of (with_label table x)) statements ≡ map (mapping_of table) statements
mappings-with_label table x [] h = refl
mappings-with_label table x (s ∷ ss) h =
    let e = text_at-with_label table x s.label.0 (All-head (λ (s : Statement). s.label.0 < length table) s ss h) in
    let es = mappings-with_label table x ss (All-tail (λ (s : Statement). s.label.0 < length table) s ss h) in
    λ i. record { low = s.span.low.value; high = s.span.high.value; label = e i } ∷ es i

pub prefixes-with_label : (table : List Label) (x : Label) (entries : List Entry) → All (λ e. e.label.0 < length table) entries → map (prefix_of (with_label table x)) entries ≡ map (prefix_of table) entries
prefixes-with_label table x [] h = refl
prefixes-with_label table x (d ∷ ds) h =
    let e = text_at-with_label table x d.label.0 (All-head (λ (d : Entry). d.label.0 < length table) d ds h) in
    let es = prefixes-with_label table x ds (All-tail (λ (d : Entry). d.label.0 < length table) d ds h) in
    λ i. record { start = d.block.value; bits = d.block.len; label = e i } ∷ es i

fallback-with_label : (table : List Label) (x : Label) (f : Option LabelId) → ForSome f (λ id. id.0 < length table) → option_map (λ (id : LabelId). text_at (with_label table x) id.0) f ≡ option_map (λ (id : LabelId). text_at table id.0) f
fallback-with_label table x None h = refl
fallback-with_label table x (Some id) h = ap Some (text_at-with_label table x id.0 (h id refl))

-- the state stays valid with one more label text
pub IsProgress-with_label : (version : Option Version) (default : Option LabelId) (ss : List Statement) (es : List Entry) (table : List Label) (x : Label)
    → IsProgress version default ss es table → length (with_label table x) ≤ label_limit → IsProgress version default ss es (with_label table x)
IsProgress-with_label version default ss es table x ok few =
    let more = length-with_label table x in
    record {
      spans = ok.spans;
      blocks = ok.blocks;
      numbers = λ k d within. omega (arith, ok.numbers k d within, more);
      entry_numbers = λ k d within. omega (arith, ok.entry_numbers k d within, more);
      fallback = λ id is. omega (arith, ok.fallback id is, more);
      mappings = ok.mappings;
      prefixes = ok.prefixes;
      labels = few;
    }

module _ (version : Option Version) (name : Option Label) (declared : List (ℕ × Label)) (default : Option LabelId) (ss : List Statement) (es : List Entry) (table : List Label) where
  -- the lines so far with one more label text
  pub progress-with_label : (x : Label) → IsProgress version default ss es table → progress_of version name declared default ss es (with_label table x) ≡ record (progress_of version name declared default ss es table) { table = with_label table x }
  progress-with_label x ok = λ i. record {
    version = version;
    name = name;
    declared = declared;
    fallback = fallback-with_label table x default ok.fallback i;
    mappings = mappings-with_label table x ss ok.numbers i;
    prefixes = prefixes-with_label table x es ok.entry_numbers i;
    table = with_label table x;
  }

  -- the map of the lines so far, if they have a default and if they have none
  abbrev pub finished : LabelId → List Label → MapModel
  finished id texts = record {
    version = unwrap_or version V4;
    name = name;
    fallback = text_at texts id.0;
    mappings = map (mapping_of texts) ss;
    table = texts;
  }

  pub finished-known : (id : LabelId) → id.0 < length table → finished id table ≡ map_from (progress_of version name declared (Some id) ss es table)
  finished-known id known = λ i. record {
    version = unwrap_or version V4;
    name = name;
    fallback = text_at table id.0;
    mappings = map (mapping_of table) ss;
    table = sym (with_label-text_at table id.0 known) i;
  }

  pub finished-unknown : (id : LabelId) → IsProgress version None ss es table → slice_get (with_label table unknown) id.0 ≡ Some unknown → finished id (with_label table unknown) ≡ map_from (progress_of version name declared None ss es table)
  finished-unknown id ok at = λ i. record {
    version = unwrap_or version V4;
    name = name;
    fallback = unwrap_or (at i) [];
    mappings = mappings-with_label table unknown ss ok.numbers i;
    table = with_label table unknown;
  }
