use Rattle.std.specs.Prelude.{◌≡◌, ℕ, ◌<◌, ◌≤◌, List, Option, Some, All, length, map, option_map}
use Rattle.std.specs.Option.{ForSome}
use Rattle.prefix_keys.specs.declared.version.Version.{Version}
use Rattle.pmap_model.specs.MapModel.{Label}
use Rattle.pmap_model.specs.MapText.{mapping_of, text_at}
use Rattle.pmap_model.specs.declared.statement.Statement.{Statement}
use Rattle.pmap_model.specs.PrefixList.{prefix_of}
use Rattle.pmap_model.specs.declared.entry.Entry.{Entry}
use Rattle.pmap_text.specs.Reading.{Earlier, label_limit, mapping_limit}
use Rattle.pmap_model.specs.declared.label.LabelId.{LabelId}

-- The state of reading the lines so far: label numbers in place of texts.

abbrev pub progress_of : Option Version → Option Label → List (ℕ × Label) → Option LabelId → List Statement
    → List Entry → List Label → Earlier
progress_of version name declared default statements entries table = record {
  version = version;
  name = name;
  declared = declared;
  fallback = option_map (λ id. text_at table id.0) default;
  mappings = map (mapping_of table) statements;
  prefixes = map (prefix_of table) entries;
  table = table;
}

-- the addresses are of the version that is decided, the numbers are in the table, and the limits are observed
pub record IsProgress (version : Option Version) (default : Option LabelId) (statements : List Statement)
    (entries : List Entry) (table : List Label) : Type 0 where
  pub spans : All (λ s. Some s.span.low.version ≡ version) statements
  pub blocks : All (λ e. Some e.block.version ≡ version) entries
  pub numbers : All (λ s. s.label.0 < length table) statements
  pub entry_numbers : All (λ e. e.label.0 < length table) entries
  pub fallback : ForSome default (λ id. id.0 < length table)
  pub mappings : length statements ≤ mapping_limit
  pub prefixes : length entries ≤ mapping_limit
  pub labels : length table ≤ label_limit
