use Rattle.std.specs.Prelude.{◌≡◌, ◌^◌, ℕ, List, [], ◌∷◌, ◌++◌, Option, codes}
use Rattle.std.specs.Prelude.{map, unwrap_or, option_and_then, slice_get}
use Rattle.std.specs.List.{flat_map, join_with_byte}
use Rattle.prefix_keys.specs.Block.{width_of}
use Rattle.prefix_keys.specs.Print.{address_text}
use Rattle.prefix_keys.specs.declared.version.Version.{Version}
use Rattle.pmap_model.specs.MapModel.{Label}
use Rattle.pmap_stretches.specs.Stretches.{StretchesModel, first_at, label_at, last_at}
use Rattle.pmap_stretches.specs.Runs.{AreRuns, Run}

-- a field, and the fields of a line
abbrev pub Text : Type 0
Text = List ℕ

abbrev pub Line : Type 0
Line = List Text

-- the text of a line: its fields with `|` between them, and a line feed
abbrev pub line_text : Line → Text
line_text fields = join_with_byte 124 fields ++ 10 ∷ []

-- The printed text of runs.

-- the fields of a run; the last one is empty if there is no label
abbrev pub run_fields : Version → Run → Line
run_fields version run =
    address_text version run.low ∷ address_text version run.high ∷ unwrap_or run.label [] ∷ []

-- the text of runs: a header, and a line for each run
abbrev pub runs_text : Version → List Run → Text
runs_text version runs =
    flat_map line_text ((codes "low" ∷ codes "high" ∷ codes "label" ∷ [])
    ∷ map (run_fields version) runs)

-- the text of the runs of a labelling of the version's addresses
pub record IsRunsText (version : Version) (label_of : ℕ → Option Label) (text : Text) : Type 0 where
  pub runs : List Run
  pub are : AreRuns label_of 0 (2 ^ width_of version) runs
  pub is : text ≡ runs_text version runs

-- Below: only contracts of parts and proofs use these; no promise of the program rests on them.

-- a stretch as a run
abbrev pub run_at : List Label → StretchesModel → ℕ → Run
run_at table s i = record {
  low = first_at s i;
  high = last_at s i;
  label = option_and_then (λ id. slice_get table id.0) (label_at s i);
}
