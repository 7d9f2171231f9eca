use Rattle.std.proofs.Common.{◌≡◌, ◌∙◌, ℕ, None, Ok, Option, Result, Some, Err, ap, arith, length, refl}
use Rattle.std.specs.Prelude.{⊤}
use Rattle.std.specs.Global.{Vec}
use Rattle.std.specs.Option.{option_map_or}
use Rattle.pmap_model.specs.ListModel.{ListModel}
use Rattle.pmap_model.specs.MapModel.{MapModel}
use Rattle.pmap_model.specs.MapText.{map_of}
use Rattle.pmap_model.specs.PrefixList.{list_of}
use Rattle.pmap_model.specs.Steps.{◌>>=◌}
use Rattle.pmap_cert.specs.CertificateModel.{CertificateModel}
use Rattle.pmap_cert.specs.FormatReading.{format_reading}
use Rattle.pmap_cert.specs.declared.fault.CertFault.{CertFault}
use Rattle.cert_check.specs.Checking.{first_fault}
use Rattle.cert_check.specs.declared.fault.CheckFault.{CheckFault}
use Rattle.flow_files.specs.BytesFault.{role_of}
use Rattle.flow_files.specs.declared.by_file.ByFile.{ByFile}
use Rattle.flow_files.specs.ByFile.{turn}
use Rattle.flow_files.specs.ByFile as role
use Rattle.flow_files.specs.declared.bytes_fault.BytesFault.TheVariants.{Certificate as InCertificate, Check as InCheck}
use Rattle.flow_files.specs.declared.bytes_fault.BytesFault.{BytesFault}
use Rattle.flow_files.specs.Outcomes.{with_bytes_fault}
use Rattle.flowlabel.specs.Output.{check_reading, minimal_text}
use Rattle.flow_files.specs.Sources.{Text}
use Rattle.flow_files.proofs.ReadLemmas.{decoded, list_in, list_read, map_in, map_read, no_memory_left, text_read, then_err, then_ok}
use Rattle.flowlabel.proofs.PrintoutLemmas.{faulty, is_printout}
use Rattle.flowlabel.proofs.commands.check.output.Goals as goal

-- the faults of a check are of the certificate
of_check : (m : MapModel) (l : ListModel) (text : Text) (fault : BytesFault) → check_reading m l text ≡ Err fault → role_of fault ≡ role.Certificate
of_check m l text fault fails = by (format_reading text) fails
  where
    found : (own : Option CheckFault) → ◌≡◌ {A = Result ListModel BytesFault} (option_map_or (λ f. Err (InCheck f)) own (Ok l)) (Err fault)
        → role_of fault ≡ role.Certificate
    found None is = cc
    found (Some own) is = let same : fault ≡ InCheck own = cc in ap role_of same

    by : (reading : Result CertificateModel CertFault)
        → (with_bytes_fault InCertificate reading >>= (λ c. option_map_or (λ f. Err (InCheck f)) (first_fault m l c) (Ok l))) ≡ Err fault
        → role_of fault ≡ role.Certificate
    by (Ok c) is = found (first_fault m l c) is
    by (Err own) is = let same : fault ≡ InCertificate own = cc in ap role_of same

-- what is read after the map
abbrev after_map : ByFile Text → MapModel → Result ListModel BytesFault
after_map texts m = list_in texts >>= (λ l. check_reading m l texts.certificate)

over_list : (m : MapModel) (texts : ByFile Text) → map_in texts ≡ Ok m → (map_in texts >>= after_map texts) ≡ after_map texts m
over_list m texts is = ap (λ (r : Result MapModel BytesFault). r >>= after_map texts) is

over_certificate : (m : MapModel) (l : ListModel) (texts : ByFile Text) → map_in texts ≡ Ok m → list_in texts ≡ Ok l
    → (map_in texts >>= after_map texts) ≡ (check_reading m l texts.certificate >>= (λ l. Ok l))
over_certificate m l texts is_map is_list =
    over_list m texts is_map ∙ ap (λ (r : Result ListModel BytesFault). r >>= (λ l. check_reading m l texts.certificate)) is_list
    ∙ same (check_reading m l texts.certificate)
  where
    same : (r : Result ListModel BytesFault) → r ≡ (r >>= (λ l. Ok l))
    same (Ok l) = refl
    same (Err fault) = refl

pub returns-in_err-map : goal.returns-in_err-map
returns-in_err-map g c map list certificate =
    faulty {n = 4} _ (then_err {W = Unit {0}} {is' = λ _ _. ⊤} after_map (map_read c.args.files.now c.requires c.in_err-map.ensures) (omega arith)
    (λ texts given. refl) (λ texts m fault fails. omega arith) refl) (omega arith) (λ l fault is. cc) c.from_residual.ensures.1

pub returns-in_err-swept_map : goal.returns-in_err-swept_map
returns-in_err-swept_map g c map list certificate =
    no_memory_left (map_read c.args.files.now c.requires c.in_ok-map.ensures) (omega arith) c.from_residual-in_err-swept_map.ensures.1

pub returns-in_err-list : goal.returns-in_err-list
returns-in_err-list g c map list certificate =
    let m = map_of c.in_ok-map.map in
    faulty {n = 4} _ (then_err {W = Unit {0}} {is' = λ _ _. ⊤} (λ texts l. check_reading m l texts.certificate)
    (list_read (map_read c.args.files.now c.requires c.in_ok-map.ensures) (omega arith) c.in_err-list.ensures) (omega arith)
    (λ texts given. over_list m texts (decoded c.in_ok-map.ensures texts.map (given role.Map)))
    (λ texts l fault fails. omega (arith, ap turn (of_check m l texts.certificate fault fails))) refl) (omega arith)
    (λ l fault is. cc) c.from_residual-in_err-list.ensures.1

pub returns-in_err-swept_list : goal.returns-in_err-swept_list
returns-in_err-swept_list g c map list certificate =
    no_memory_left (list_read (map_read c.args.files.now c.requires c.in_ok-map.ensures) (omega arith) c.in_ok-list.ensures) (omega arith)
    c.from_residual-in_err-swept_list.ensures.1

pub returns-in_err-checked : goal.returns-in_err-checked
returns-in_err-checked g c map list certificate =
    let m = map_of c.in_ok-map.map in
    let l = list_of c.in_ok-list.list in
    faulty {n = 4} _ (then_err {W = Unit {0}} {is' = λ _ _. ⊤} (λ texts l. Ok l)
    (text_read (list_read (map_read c.args.files.now c.requires c.in_ok-map.ensures) (omega arith) c.in_ok-list.ensures)
    role.Certificate (omega arith) (omega arith) (of_check m l)
    (c.in_err-checked.ensures c.in_ok-map.map c.in_ok-list.list c.in_ok-swept_map.ensures.map c.in_ok-swept_list.ensures.list)) (omega arith)
    (λ texts given. over_certificate m l texts
    (decoded c.in_ok-map.ensures texts.map (given role.Map)) (decoded c.in_ok-list.ensures texts.list (given role.List)))
    (λ texts l fault is. cc) refl) (omega arith) (λ l fault is. cc) c.from_residual-in_err-checked.ensures.1

pub returns : goal.returns
returns g c map list certificate =
    let m = map_of c.in_ok-map.map in
    let l = list_of c.in_ok-list.list in
    is_printout {n = 4} _ {v = c.in_ok-checked.field-0} (then_ok {is' = λ (l : ListModel) (out : Vec ℕ). out.items ≡ minimal_text (length l.prefixes)} (λ texts l. Ok l)
    (text_read (list_read (map_read c.args.files.now c.requires c.in_ok-map.ensures) (omega arith) c.in_ok-list.ensures)
    role.Certificate (omega arith) (omega arith) (of_check m l)
    (c.in_ok-checked.ensures c.in_ok-map.map c.in_ok-list.list c.in_ok-swept_map.ensures.map c.in_ok-swept_list.ensures.list)) (omega arith)
    (λ texts given. over_certificate m l texts
    (decoded c.in_ok-map.ensures texts.map (given role.Map (omega arith))) (decoded c.in_ok-list.ensures texts.list (given role.List (omega arith))))
    (λ texts l is. (l, refl, is))) (omega arith)
    (λ l same. (tt, λ text is. ap Ok (is ∙ same)))
