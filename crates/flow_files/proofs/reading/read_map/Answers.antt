use Rattle.std.proofs.Common.{List, ℕ, ◌≡◌, ap, refl, true}
use Rattle.pmap_model.specs.MapText.{map_of}
use Rattle.flow_files.specs.BytesFault.{is_out_of_memory}
use Rattle.flow_files.specs.Outcomes.{with_bytes_fault}
use Rattle.flow_files.specs.declared.bytes_fault.BytesFault.TheVariants.{Map as InMap}
use Rattle.flow_files.proofs.ReadLemmas.{whole_is, whole_is_bad, whole_stops}
use Rattle.flow_files.proofs.reading.read_map.Goals as goal

pub returns-in_err-name : goal.returns-in_err-name
returns-in_err-name g c = whole_stops (λ (t : List ℕ). t) c.from_residual.ensures.1 c.in_err-name.ensures

pub returns-in-Ok : goal.returns-in-Ok
returns-in-Ok g c =
    whole_is (λ (t : List ℕ). t) c.in_ok-name.ensures (map_of c.in-Ok.map)
    (ap (with_bytes_fault InMap) c.in-Ok.ensures.ok) refl

pub returns-in-Err : goal.returns-in-Err
returns-in-Err g c =
    whole_is_bad (λ (t : List ℕ). t) c.in_ok-name.ensures (InMap c.in-Err.fault) c.of.ensures
    (λ bytes. ap (with_bytes_fault InMap) (c.in-Err.ensures.fault (λ same.
    let wrong : is_out_of_memory (InMap c.in-Err.fault) ≡ true = rw same refl in cc)))
