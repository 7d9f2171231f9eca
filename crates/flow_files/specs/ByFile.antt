use Rattle.std.specs.Prelude.{ℕ}
pub use Rattle.flow_files.specs.declared.by_file.ByFile.{ByFile}

-- The files that a command may read, and one thing for each of them.

pub data Role : Type 0 where
  Map : Role
  List : Role
  Certificate : Role
  Flows : Role

-- the place of a file in the order in which files are read
abbrev pub turn : Role → ℕ
turn Map = 0
turn List = 1
turn Certificate = 2
turn Flows = 3

abbrev pub at : {T : Type 0} → Role → ByFile T → T
at Map files = files.map
at List files = files.list
at Certificate files = files.certificate
at Flows files = files.flows

-- Below: only contracts of parts and proofs use these; no promise of the program rests on them.

-- the things with this one for this file
abbrev pub with_at : {T : Type 0} → Role → T → ByFile T → ByFile T
with_at Map x files = record files { map = x }
with_at List x files = record files { list = x }
with_at Certificate x files = record files { certificate = x }
with_at Flows x files = record files { flows = x }

-- what a function gives for each file
abbrev pub each : {S T : Type 0} → (S → T) → ByFile S → ByFile T
each f files = record {
  map = f files.map;
  list = f files.list;
  certificate = f files.certificate;
  flows = f files.flows;
}
