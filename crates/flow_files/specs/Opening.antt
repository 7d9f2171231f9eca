use Rattle.std.specs.Prelude.{◌≡◌, ◌<◌, Option, Some, None, IfSome}
use Rattle.flow_files.specs.ByFile.{ByFile, Role, at, turn}
use Rattle.flow_files.specs.Sources.{Text}
use Rattle.flow_files.specs.Readers.{CannotOpen, NoMemory, RunFault, Source}

-- How the files of a request are opened. `answers` has the possible results for a name: a reader, or `None`.

module _ {R : Type 0} (answers : Text → Option R → Type 0) where
  -- a file is there exactly if it is named, and its reader is a possible result for its name
  abbrev pub IsOpened : Option Text → Option (Source R) → Type 0
  IsOpened None None = Unit {0}
  IsOpened (Some name) (Some source) = (source.name.now ≡ name) × answers name (Some source.reader)
  IsOpened name file = ⊥

  abbrev pub AreOpened : ByFile (Option Text) → ByFile (Option (Source R)) → Type 0
  AreOpened names files = (role : Role) → IsOpened (at role names) (at role files)

  -- if a file is named, a reader is a possible result for its name
  abbrev pub CanOpen : Option Text → Type 0
  CanOpen file = IfSome file (λ name. (reader : R) × answers name (Some reader))

  -- the file with this name can't be opened, or an allocation failed before that was known
  abbrev pub CannotOpenNamed : Option Text → RunFault → Type 0
  CannotOpenNamed name (CannotOpen file) = (name ≡ Some file.now) × answers file.now None
  CannotOpenNamed name NoMemory = Unit {0}
  CannotOpenNamed name fault = ⊥

  -- the fault reports the first of the files that can't be opened
  abbrev pub CannotOpenFirst : ByFile (Option Text) → RunFault → Type 0
  CannotOpenFirst names fault = (role : Role) × CannotOpenNamed (at role names) fault
      × ((earlier : Role) → turn earlier < turn role → CanOpen (at earlier names))
