use Rattle.std.specs.Prelude.{ℕ, List, [], Option, map, option_map, slice_get, unwrap_or}
use Rattle.pmap_model.specs.MapModel.{Label, Mapping, MapModel}
pub use Rattle.pmap_model.specs.declared.label.LabelId.{LabelId}
pub use Rattle.pmap_model.specs.declared.map_text.MapText.{MapText}
pub use Rattle.pmap_model.specs.declared.statement.Statement.{Statement}

-- the label text with a number
abbrev pub text_at : List Label → ℕ → Label
text_at table number = unwrap_or (slice_get table number) []

-- Below: only contracts of parts and proofs use these; no promise of the program rests on them.

-- the label text with a number, if there is a number
abbrev pub text_if_some : List Label → Option LabelId → Option Label
text_if_some table number = option_map (λ id. text_at table id.0) number

-- a statement as a mapping to a label text
abbrev pub mapping_of : List Label → Statement → Mapping
mapping_of table s =
    record { low = s.span.low.value; high = s.span.high.value; label = text_at table s.label.0 }

-- a map text as a map
abbrev pub map_of : MapText → MapModel
map_of m = record {
  version = m.version;
  name = m.name;
  fallback = text_at m.labels m.default.0;
  mappings = map (mapping_of m.labels) m.statements;
  table = m.labels;
}

abbrev pub mappings_of : List Label → List Statement → List Mapping
mappings_of table ss = map (mapping_of table) ss
