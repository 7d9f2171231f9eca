use Rattle.std.specs.Prelude.{ℕ, List, Result, Ok}
use Rattle.pmap_model.specs.ListModel.{IsEquivalent, ListModel}
use Rattle.pmap_model.specs.MapModel.{MapModel}
use Rattle.pmap_text.specs.Reading.{list_reading, map_reading}
use Rattle.pmap_text.specs.declared.fault.MapFault.{MapFault}
use Rattle.pmap_cert.specs.Acceptance.{IsLeast}

-- What examples deny of a list: it isn't least for a map, or not equivalent to it. Both are read from texts.

abbrev pub IsDenied : (MapModel → ListModel → Type 0) → Result MapModel MapFault → Result ListModel MapFault → Type 0
IsDenied Is (Ok m) (Ok l) = Is m l → ⊥
IsDenied Is _ _ = ⊥

abbrev pub IsNotLeast : List ℕ → List ℕ → Type 0
IsNotLeast map list = IsDenied IsLeast (map_reading map) (list_reading list)

abbrev pub IsNotEquivalent : List ℕ → List ℕ → Type 0
IsNotEquivalent map list = IsDenied (λ m l. IsEquivalent l m) (map_reading map) (list_reading list)

-- the list of a text labels every address as the map of a text does
abbrev pub HoldsOfRead : (MapModel → ListModel → Type 0) → Result MapModel MapFault → Result ListModel MapFault → Type 0
HoldsOfRead Is (Ok m) (Ok l) = Is m l
HoldsOfRead Is _ _ = ⊥

abbrev pub IsEquivalentRead : List ℕ → List ℕ → Type 0
IsEquivalentRead map list = HoldsOfRead (λ m l. IsEquivalent l m) (map_reading map) (list_reading list)
