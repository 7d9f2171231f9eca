use Rattle.std.proofs.Common.{Ok, ap, arith, refl}
use Rattle.pmap_text.specs.Reading.{list_reading, map_reading}
use Rattle.label_lookup.specs.Labelling.{labelling_of_list, labelling_of_map}
use Rattle.flow_files.specs.declared.bytes_fault.BytesFault.TheVariants.{List as InList, Map as InMap}
use Rattle.flow_files.proofs.ReadLemmas.{list_read, map_read, mapped, none_read, then_err, then_ok}
use Rattle.flow_files.proofs.labels.LabelsRead.of_file.Goals as goal

pub returns-in_err-read_map-in-Map-clause-read : goal.returns-in_err-read_map-in-Map-clause-read
returns-in_err-read_map-in-Map-clause-read g c =
    rw c.in-Map.is
    (then_err (λ texts m. Ok (labelling_of_map m)) (map_read c.args.files.now c.requires c.in_err-read_map-in-Map.ensures) (omega arith)
    (λ texts given. mapped labelling_of_map InMap (map_reading texts.map)) (λ texts m fault is. cc) c.from_residual.ensures.1)

pub returns-in_ok-read_map-in-Map-clause-read : goal.returns-in_ok-read_map-in-Map-clause-read
returns-in_ok-read_map-in-Map-clause-read g c =
    rw c.in-Map.is
    (then_ok (λ texts m. Ok (labelling_of_map m)) (map_read c.args.files.now c.requires c.in_ok-read_map-in-Map.ensures) (omega arith)
    (λ texts given. mapped labelling_of_map InMap (map_reading texts.map)) (λ texts m is. (labelling_of_map m, refl, ap labelling_of_map is)))

pub returns-in_err-read_list-in-List-clause-read : goal.returns-in_err-read_list-in-List-clause-read
returns-in_err-read_list-in-List-clause-read g c =
    rw c.in-List.is
    (then_err (λ texts l. Ok (labelling_of_list l)) (list_read (none_read 0 c.args.files.now c.requires) (omega arith) c.in_err-read_list-in-List.ensures)
    (omega arith) (λ texts given. mapped labelling_of_list InList (list_reading texts.list)) (λ texts l fault is. cc) c.from_residual-in_err-read_list-in-List.ensures.1)

pub returns-in_ok-read_list-in-List-clause-read : goal.returns-in_ok-read_list-in-List-clause-read
returns-in_ok-read_list-in-List-clause-read g c =
    rw c.in-List.is
    (then_ok (λ texts l. Ok (labelling_of_list l)) (list_read (none_read 0 c.args.files.now c.requires) (omega arith) c.in_ok-read_list-in-List.ensures)
    (omega arith) (λ texts given. mapped labelling_of_list InList (list_reading texts.list)) (λ texts l is. (labelling_of_list l, refl, ap labelling_of_list is)))
