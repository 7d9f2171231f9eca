use Rattle.std.proofs.Common.{◌≡◌, ◌∙◌, ℕ, List, [], None, Ok, Option, Result, Some, ap, refl, sym}
use Rattle.std.specs.Prelude.{codes, ok_or, option_map}
use Rattle.std.specs.Borrow.{Bor}
use Rattle.clap.specs.Words.{Text, first_of, found_of, rows_of}
use Rattle.pmap_model.specs.Steps.{◌>>=◌}
use Rattle.flow_uniq.specs.declared.field.KeyField.{KeyField}
use Rattle.flow_files.specs.Answer.{fields_reading}
use Rattle.flow_uniq.specs.Key.{many_fields, with_unit}
use Rattle.flow_uniq.specs.declared.field.Precision.{Precision}
use Rattle.flow_files.specs.declared.usage.UsageFault.{UsageFault}
use Rattle.flow_files.specs.declared.usage.UsageFault.TheVariants.{Unit as BadUnit}
use Rattle.flow_many.specs.Answer.{keys_answer, keys_in_rows, unit_named}
use Rattle.flow_many.proofs.WordLemmas.{ok_some, timed, unit_is, with_time_is, with_unit_is, without_time}
use Rattle.flow_many.proofs.words.keys_in.Goals as goal

pub returns-in_default : goal.returns-in_default
returns-in_default c =
    let by : first_of (codes "by") (rows_of (found_of c.args.entries.now)) ≡ None = sym c.first_text.ensures ∙ ap (option_map (λ (s : Bor Text). s.now)) c.in_default.is in
    let names : first_of (codes "fields") (rows_of (found_of c.args.entries.now)) ≡ Some c.in_ok-ok_or.field-0.now =
    sym c.first_text-names.ensures ∙ ap (option_map (λ (s : Bor Text). s.now)) (ok_some c.first_text-names.result _ c.in_ok-ok_or.field-0 (sym c.ok_or.ensures.value ∙ c.in_ok-ok_or.was)) in
    rw (by, names) (without_time c.in_ok-ok_or.field-0.now c.read_keys.result c.read_keys.ensures)

pub returns-in_ok-read_keys-in-Some-names : goal.returns-in_ok-read_keys-in-Some-names
returns-in_ok-read_keys-in-Some-names c =
    let by : first_of (codes "by") (rows_of (found_of c.args.entries.now)) ≡ Some c.in-Some.by.now = sym c.first_text.ensures ∙ ap (option_map (λ (s : Bor Text). s.now)) c.in-Some.is in
    let names : first_of (codes "fields") (rows_of (found_of c.args.entries.now)) ≡ Some c.in-Some-names.names.now =
    sym c.first_text-names.ensures ∙ ap (option_map (λ (s : Bor Text). s.now)) c.in-Some-names.is in
    let keys = c.in_ok-read_keys-in-Some-names.field-0 in
    let unit = c.in_ok-unit.unit in
    let reads : fields_reading many_fields c.in-Some-names.names.now ≡ Ok keys = c.in_ok-read_keys-in-Some-names.ensures in
    let named = unit_is c.unit_named.result (unit_named c.in-Some.by.now) unit c.unit_named.ensures (ok_some c.unit_named.result _ unit (sym c.ok_or-2.ensures.value ∙ c.in_ok-unit.was)) in
    with_time_is unit keys c.fields.result.now c.with_time.result (keys_in_rows (rows_of (found_of c.args.entries.now))) c.with_time.ensures
    (ap (with_unit unit) c.fields.ensures ∙ with_unit_is unit c.in-Some-names.names.now keys reads)
    ((λ i. keys_answer (by i) (names i))
    ∙ ap (λ (o : Option (Precision × ℕ)). ok_or o BadUnit >>= (λ u. fields_reading many_fields c.in-Some-names.names.now >>= (λ fields. Ok (timed u fields)))) named
    ∙ ap (λ (r : Result (List KeyField) UsageFault). r >>= (λ fields. Ok (timed (unit.precision, unit.count) fields))) reads)

pub returns-in-None : goal.returns-in-None
returns-in-None c =
    let by : first_of (codes "by") (rows_of (found_of c.args.entries.now)) ≡ Some c.in-Some.by.now = sym c.first_text.ensures ∙ ap (option_map (λ (s : Bor Text). s.now)) c.in-Some.is in
    let names : first_of (codes "fields") (rows_of (found_of c.args.entries.now)) ≡ None =
    sym c.first_text-names.ensures ∙ ap (option_map (λ (s : Bor Text). s.now)) c.in-None.is in
    let unit = c.in_ok-unit.unit in
    let named = unit_is c.unit_named.result (unit_named c.in-Some.by.now) unit c.unit_named.ensures (ok_some c.unit_named.result _ unit (sym c.ok_or-2.ensures.value ∙ c.in_ok-unit.was)) in
    with_time_is unit [] [] c.with_time-in-None.result (keys_in_rows (rows_of (found_of c.args.entries.now))) c.with_time-in-None.ensures refl
    ((λ i. keys_answer (by i) (names i))
    ∙ ap (λ (o : Option (Precision × ℕ)). ok_or o BadUnit >>= (λ u. Ok (timed u []))) named)
