use Rattle.std.proofs.Common.{ℕ, ◌≡◌, ◌∙◌, ap, refl, sym, true}
use Rattle.std.specs.Global.{Vec}
use Rattle.pmap_model.specs.PrefixList.{list_of}
use Rattle.pmap_text.specs.Reading.{list_reading}
use Rattle.flow_files.specs.BytesFault.{is_out_of_memory}
use Rattle.flow_files.specs.Outcomes.{with_bytes_fault}
use Rattle.flow_files.specs.declared.bytes_fault.BytesFault.TheVariants.{List as InList}
use Rattle.flow_files.proofs.ReadLemmas.{whole_is, whole_is_bad, whole_stops}
use Rattle.flow_files.proofs.reading.read_list.Goals as goal

pub returns-in_err-name : goal.returns-in_err-name
returns-in_err-name g c = whole_stops (λ (t : Vec ℕ). t.items) c.from_residual.ensures.1 c.in_err-name.ensures

pub returns-in-Ok : goal.returns-in-Ok
returns-in-Ok g c =
    whole_is (λ (t : Vec ℕ). t.items) c.in_ok-name.ensures (list_of c.in-Ok.list)
    (ap (with_bytes_fault InList) (ap list_reading (sym c.as_slice.ensures.value) ∙ c.in-Ok.ensures.ok)) refl

pub returns : goal.returns
returns g c =
    whole_is_bad (λ (t : Vec ℕ). t.items) c.in_ok-name.ensures (InList c.in-Err.fault) c.of.ensures
    (λ bytes. ap (with_bytes_fault InList) (ap list_reading (sym c.as_slice.ensures.value)
    ∙ c.in-Err.ensures.fault (λ same. let wrong : is_out_of_memory (InList c.in-Err.fault) ≡ true = rw same refl in cc)))
