-- What is read of the files of a command.
use Rattle.std.proofs.Common.{◌≡◌, ◌∙◌, ◌⊎◌, ◌≤◌, ◌<◌, ◌+◌, ℕ, Bool, List, [], Option, Some, None, Result, Ok, Err, true, false, ◌&&◌, ◌∷◌, refl, sym, ap, subst, inl, inr, arith}
use Rattle.std.proofs.Math.Bool.{or-false}
use Rattle.std.proofs.lemmas.Grind.{common_steps}
use Rattle.std.proofs.lemmas.Bool.Decides.{nat_tests}
use Rattle.std.proofs.lemmas.Bool.{or_parts}
use Rattle.std.specs.Prelude.{◌++◌, ◌==◌, length, unwrap_or, ⊤, is_some, option_copied, option_map}
use Rattle.std.specs.Io.KnownBytes.{Consumes}
use Rattle.std.specs.Borrow.{Bor}
use Rattle.std.specs.Result.{IsErrAnd, result_map_both}
use Rattle.std.proofs.lemmas.List.{append-nil}
use Rattle.flow_io.specs.Devices.{InputView, Gives as GivesBytes, ReadsInput, has_ended}
use Rattle.flow_io.proofs.Moving.{gives_more, gives_none}
use Rattle.ipfix_read.specs.Message.{MessageView}
use Rattle.ipfix_templates.specs.InForce.{no_templates}
use Rattle.ipfix_read.proofs.Readings.{placed_are_messages}
use Rattle.ipfix_read.specs.Messages.{StopsReading, file_reading, messages_in, placed_messages}
use Rattle.ipfix_read.specs.declared.fault.ReadFault.{ReadFault}
use Rattle.label_lookup.specs.Labelling.{Labelling, StretchModel, labelling_of_stretches}
use Rattle.pmap_model.specs.ListModel.{ListModel}
use Rattle.pmap_model.specs.MapModel.{MapModel}
use Rattle.pmap_model.specs.MapText.{map_of}
use Rattle.pmap_model.specs.PrefixList.{list_of}
use Rattle.pmap_model.specs.Steps.{◌>>=◌}
use Rattle.pmap_text.specs.Reading.{list_reading, map_reading}
use Rattle.pmap_model.specs.declared.map_text.MapText.{MapText}
use Rattle.pmap_model.specs.declared.prefix_list.PrefixList.{PrefixList}
use Rattle.pmap_cert.specs.CertificateModel.{CertificateModel}
use Rattle.pmap_cert.specs.FormatReading.{format_reading}
use Rattle.flow_files.specs.BytesFault.{is_out_of_memory, role_of}
use Rattle.flow_files.specs.ByFile.{ByFile, Role, at, each, turn, with_at}
use Rattle.flow_files.specs.ByFile as role
use Rattle.flow_files.specs.declared.bytes_fault.BytesFault.TheVariants.{Map as InMap, List as InList, Certificate as InCertificate, Flows as InFlows}
use Rattle.flow_files.specs.Outcomes.{BytesFault, Outcome, Then, labels_reading, report_reading, source_reading, with_bytes_fault}
use Rattle.flow_files.specs.Reports.{AreFresh, AreLabelsOf, AreRead, AreTextsBefore, Decodes, Gives, GivesAll, IsRead, IsReading, IsText, ReadsInto, faults_of, labelling_found, labelling_read}
use Rattle.flow_files.specs.declared.labels.LabelsRead.{LabelsRead}
use Rattle.flow_files.specs.declared.label_file.LabelFile.{LabelFile}
use Rattle.flow_files.specs.Sources.{Text}
use Rattle.flow_files.specs.Readers.{AreReadOn, AreTexts, AreUnread, IsFaultFor, IsFaultOf, MayHave, CannotRead, File, NoMemory, Readers, RunFault, Source, any_failed, name_in, view_of}

-- what the map, the list, the certificate and the File are read as
abbrev pub map_in : ByFile Text → Result MapModel BytesFault
map_in texts = with_bytes_fault InMap (map_reading texts.map)

abbrev pub list_in : ByFile Text → Result ListModel BytesFault
list_in texts = with_bytes_fault InList (list_reading texts.list)

abbrev pub certificate_in : ByFile Text → Result CertificateModel BytesFault
certificate_in texts = with_bytes_fault InCertificate (format_reading texts.certificate)

abbrev pub flows_in : ByFile Text → Result (List MessageView) BytesFault
flows_in texts = with_bytes_fault InFlows (file_reading texts.flows)

-- a function of what is read, step by step
pub mapped : {F A B : Type 0} (f : A → B) (wrap : F → BytesFault) (reading : Result A F)
    → result_map_both f wrap reading ≡ (with_bytes_fault wrap reading >>= (λ a. Ok (f a)))
mapped f wrap (Ok value) = refl
mapped f wrap (Err fault) = refl

-- a result that passes on a fault has the properties of one with this fault
pub handed_on : {A F : Type 0} (P : Result A F → Type 0) (r : Result A F) (fault : F) → IsErrAnd r (λ y. y ≡ fault) → P (Err fault) → P r
handed_on P (Ok done) fault is holds = absurd is
handed_on P (Err other) fault is holds = subst (λ f. P (Err f)) (sym is) holds

-- a thing for another file stays
at_other : {T : Type 0} (x : T) (files : ByFile T) (r o : Role) → (o ≡ r) ⊎ (at o (with_at r x files) ≡ at o files)
at_other x files role.Map role.Map = inl refl
at_other x files role.Map o = inr refl
at_other x files role.List role.List = inl refl
at_other x files role.List o = inr refl
at_other x files role.Certificate role.Certificate = inl refl
at_other x files role.Certificate o = inr refl
at_other x files role.Flows role.Flows = inl refl
at_other x files role.Flows o = inr refl

at_same : {T : Type 0} (r : Role) (x : T) (files : ByFile T) → at r (with_at r x files) ≡ x
at_same role.Map x files = refl
at_same role.List x files = refl
at_same role.Certificate x files = refl
at_same role.Flows x files = refl

at_later : {T : Type 0} (x : T) (files : ByFile T) (r o : Role) → turn r < turn o → at o (with_at r x files) ≡ at o files
at_later x files r o later = elim (at_other x files r o) [
  | inl same ↦ let wrong : turn r < turn r = subst (λ (p : Role). turn r < turn p) same later in absurd (omega (arith, wrong))
  | inr still ↦ still
]

module _ {R : Type 0} (input : R → InputView) (old : Readers R) (none : any_failed input old ≡ false) where
  others : ((view_of input old.list).failed ≡ false) × ((view_of input old.certificate).failed ≡ false) × ((view_of input old.flows).failed ≡ false)
  others =
      let (list, last) = or_parts (view_of input old.list).failed _ (or_parts (view_of input old.map).failed _ none).1 in
      let (certificate, flows) = or_parts (view_of input old.certificate).failed _ last in (list, certificate, flows)

  none_failed : (r : Role) → (view_of input (at r old)).failed ≡ false
  none_failed role.Map = (or_parts (view_of input old.map).failed _ none).0
  none_failed role.List = others.0
  none_failed role.Certificate = others.1
  none_failed role.Flows = others.2

  -- the one that was read since decides whether any has
  one_tells : (r : Role) (file : Option (Source R)) → any_failed input (with_at r file old) ≡ (view_of input file).failed
  one_tells role.Map file = rw (others.0, others.1, others.2) (or-false _)
  one_tells role.List file = rw (none_failed role.Map, others.1, others.2) (or-false _)
  one_tells role.Certificate file = rw (none_failed role.Map, others.0, others.2) (or-false _)
  one_tells role.Flows file = rw (none_failed role.Map, others.0, others.1) refl

pub are_fresh : {R : Type 0} (input : R → InputView) (files : Readers R) → AreUnread input files → any_failed input files ≡ false → AreFresh input files
are_fresh input files unread none =
    let fresh : (r : Role) → ((view_of input (at r files)).returned ≡ []) × ((view_of input (at r files)).failed ≡ false) =
    λ r. (unread r, none_failed input files none r) in (fresh role.Map, fresh role.List, fresh role.Certificate, fresh role.Flows)

-- the bytes that are returned when none were before
pub all_read : {old new : InputView} {bytes : List ℕ} → old.returned ≡ [] → GivesBytes old new bytes → new.returned ≡ bytes
all_read {bytes = bytes} none returns = returns.returned ∙ ap (λ (l : List ℕ). l ++ bytes) none

-- an input that was read to its end has this text
pub text_is : (view : InputView) (text bytes : Text) → view.returned ≡ bytes → has_ended view ≡ true → MayHave view text → text ≡ bytes
text_is view text bytes is end (rest, follows, all) = all ∙ ap (λ (l : List ℕ). view.returned ++ l) (follows end) ∙ append-nil view.returned ∙ is

-- what is returned of an input so far may be its text
pub may_have : (view : InputView) → MayHave view view.returned
may_have view = ([], λ _. refl, sym (append-nil _))

-- files may have what is returned of them as their texts
pub are_texts : {R : Type 0} (input : R → InputView) (files : Readers R) → AreTexts input files (each (λ file. (view_of input file).returned) files)
are_texts input files role.Map = may_have (view_of input files.map)
are_texts input files role.List = may_have (view_of input files.list)
are_texts input files role.Certificate = may_have (view_of input files.certificate)
are_texts input files role.Flows = may_have (view_of input files.flows)

-- What follows from the text of a file that is to be read whole.

only_text : {R T : Type 0} {input : R → InputView} (text_of : T → Text) {old new : Option (Source R)} {name : Bor Text} {text : T}
    → IsText input text_of old new (Ok (name, text)) → (other : Text) → MayHave (view_of input new) other
    → (other ≡ text_of text) × (name.now ≡ name_in old)
only_text text_of whole other may = let (found, same, (is, named)) = whole.gives.1 other may in (cc, named)

-- a fault of one reading is that of another with the same faults
pub with_fault_of : {R A B V W : Type 0} {input : R → InputView} {old new : Option (Source R)} {reading : Text → Result A BytesFault} {is : A → V → Type 0}
    {other : Text → Result B BytesFault} {is' : B → W → Type 0} {stops : List ℕ → Type 0} (fault : RunFault)
    → ((text : Text) (f : BytesFault) → reading text ≡ Err f → other text ≡ Err f) → IsRead input reading is stops old new (Err fault)
    → IsRead input other is' stops old new (Err fault)
with_fault_of NoMemory fails one = record { reads = one.reads; gives = one.gives }
with_fault_of (CannotRead file) fails one = record { reads = one.reads; gives = one.gives }
with_fault_of (File file f) fails one = record { reads = one.reads; gives = (one.gives.0, one.gives.1, λ text may. fails text f (one.gives.2 text may)) }
with_fault_of fault fails one = absurd one.gives

module _ {R A V T : Type 0} {input : R → InputView} (text_of : T → Text) {old new : Option (Source R)} {reading : Text → Result A BytesFault}
    {is : A → V → Type 0} where
  pub whole_stops : {fault : RunFault} {result : Result V RunFault} → IsErrAnd result (λ other. other ≡ fault) → IsText input text_of old new (Err fault)
      → IsRead input reading is (λ _. ⊤) old new result
  whole_stops {fault = fault} {result = result} same whole =
      handed_on (IsRead input reading is (λ _. ⊤) old new) result fault same (with_fault_of fault (λ text other wrong. absurd (cc)) whole)

  pub whole_is : {name : Bor Text} {text : T} {value : V} → IsText input text_of old new (Ok (name, text)) → (a : A) → reading (text_of text) ≡ Ok a → is a value
      → IsRead input reading is (λ _. ⊤) old new (Ok value)
  whole_is whole a reads holds = record {
    reads = whole.reads;
    gives = (whole.gives.0, λ other may. (a, ap reading (only_text text_of whole other may).0 ∙ reads, holds));
  }

  pub whole_is_bad : {name : Bor Text} {text : T} {made : RunFault} → IsText input text_of old new (Ok (name, text)) → (fault : BytesFault)
      → IsFaultFor name.now fault made → (is_out_of_memory fault ≡ false → reading (text_of text) ≡ Err fault) → IsRead input reading is (λ _. ⊤) old new (Err made)
  whole_is_bad {name = name} {text = text} {made = made} whole fault made_of reads = record { reads = whole.reads; gives = by made made_of }
    where
      by : (made : RunFault) → IsFaultFor name.now fault made → Gives input reading is (λ _. ⊤) old new (Err made)
      by NoMemory memory = whole.gives.0
      by (File file other) (named, same, bytes) = (
        whole.gives.0,
        named ∙ (only_text text_of whole (view_of input new).returned (may_have (view_of input new))).1,
        λ t may. ap reading (only_text text_of whole t may).0 ∙ reads bytes ∙ ap Err (sym same),
      )
      by made wrong = absurd wrong

-- the faults of a reading are of this file
pub named_in : {F A : Type 0} (wrap : F → BytesFault) {r : Role} → ((own : F) → role_of (wrap own) ≡ r) → (reading : Result A F) (fault : BytesFault)
    → with_bytes_fault wrap reading ≡ Err fault → role_of fault ≡ r
named_in wrap own (Ok value) fault is = cc
named_in wrap own (Err f) fault is = let same : fault ≡ wrap f = cc in ap role_of same ∙ own f

one_read : {R : Type 0} (input : R → InputView) (r : Role) (file : Option (Source R)) (old mid : Readers R) → AreReadOn input old mid
    → ReadsInput (view_of input (at r mid)) (view_of input file) (λ _. ⊤) → AreReadOn input old (with_at r file mid)
one_read input r file old mid had (more, returns', _) o = elim (at_other file mid r o) [
  | inl same ↦
      let P : Role → Option (Source _) → Type 0 = λ p f. ReadsInput (view_of input (at p old)) (view_of input f) (λ _. ⊤) in
      let (front, returns, _) = had r in
      subst (λ (p : Role). P p (at p (with_at r file mid))) (sym same) (subst (P r) (sym (at_same r file mid)) (front ++ more, gives_more returns returns', tt))
  | inr still ↦ subst (λ (f : Option (Source _)). ReadsInput (view_of input (at o old)) (view_of input f) (λ _. ⊤)) (sym still) (had o)
]

-- what earlier files may have as their texts doesn't change
as_before : {R : Type 0} (input : R → InputView) {n : ℕ} (r : Role) → n ≤ turn r → (file : Option (Source R)) (mid : Readers R) (texts : ByFile Text)
    → AreTextsBefore input n (with_at r file mid) texts → AreTextsBefore input n mid texts
as_before input r early file mid texts given o front = elim (at_other file mid r o) [
  | inl same ↦ absurd (omega (arith, ap turn same, front, early))
  | inr still ↦ subst (λ (f : Option (Source _)). MayHave (view_of input f) (at o texts)) still (given o front)
]

-- what is built from the messages of a File, without their offsets
messages_ok : (all : Result (List (ℕ × MessageView)) ReadFault) (placed : List (ℕ × MessageView)) → with_bytes_fault InFlows all ≡ Ok placed
    → with_bytes_fault InFlows (result_map_both messages_in (λ (f : ReadFault). f) all) ≡ Ok (messages_in placed)
messages_ok (Ok own) placed is = ap (λ (r : Result (List (ℕ × MessageView)) BytesFault). result_map_both messages_in (λ (f : BytesFault). f) r) is
messages_ok (Err own) placed is = absurd (cc)

messages_err : (all : Result (List (ℕ × MessageView)) ReadFault) (fault : BytesFault) → with_bytes_fault InFlows all ≡ Err fault
    → with_bytes_fault InFlows (result_map_both messages_in (λ (f : ReadFault). f) all) ≡ Err fault
messages_err (Ok own) fault is = absurd (cc)
messages_err (Err own) fault is = let same : InFlows own ≡ fault = cc in ap Err same

messages_read : {R W : Type 0} {input : R → InputView} (is : List MessageView → W → Type 0) {old new : Option (Source R)} (result : Result W RunFault)
    → ReadsInto input (λ placed. is (messages_in placed)) old new result
    → IsRead input (λ text. with_bytes_fault InFlows (file_reading text)) is StopsReading old new result
messages_read is (Ok value) read = record {
  reads = read.reads;
  gives = (
    read.gives.0,
    λ text may.
        let (placed, reads, holds) = read.gives.1 text may in
        (messages_in placed, ap (with_bytes_fault InFlows) (placed_are_messages no_templates 0 0 text) ∙ messages_ok (placed_messages text) placed reads, holds),
  );
}
messages_read is (Err fault) read =
    with_fault_of fault (λ text f fails. ap (with_bytes_fault InFlows) (placed_are_messages no_templates 0 0 text) ∙ messages_err (placed_messages text) f fails) read

-- a result has the faults of another one, and perhaps faults of later files
abbrev pub Follows : {V W : Type 0} → ℕ → (Result V BytesFault → Type 0) → (Result W BytesFault → Type 0) → Type 0
Follows n Is Is' = ((f : BytesFault) → Is (Err f) → Is' (Err f)) × ((f : BytesFault) → Is' (Err f) → Is (Err f) ⊎ (n ≤ turn (role_of f) + 1))

more_follows : {A B V W : Type 0} (is : A → V → Type 0) (is' : B → W → Type 0) (n : ℕ) (rest : A → Result B BytesFault)
    → ((a : A) (f : BytesFault) → rest a ≡ Err f → n ≤ turn (role_of f) + 1) → (reading : Result A BytesFault)
    → Follows n (IsReading reading is) (IsReading (reading >>= rest) is')
more_follows is is' n rest later (Ok a) = (λ f wrong. absurd (cc), λ f fails. inr (later a f fails))
more_follows is is' n rest later (Err g) = (λ f fails. let same : g ≡ f = cc in ap Err same, λ f fails. let same : g ≡ f = cc in inl (ap Err same))

pub then_follows : {A V : Type 0} (is : A → V → Type 0) (n : ℕ) (rest : A → Outcome → Type 0)
    → ((a : A) (f : BytesFault) → rest a (Err f) → n ≤ turn (role_of f) + 1) → (reading : Result A BytesFault)
    → Follows n (IsReading reading is) (Then rest reading)
then_follows is n rest later (Ok a) = (λ f wrong. absurd (cc), λ f fails. inr (later a f fails))
then_follows is n rest later (Err g) = (λ f fails. let same : f ≡ g = cc in ap Err same, λ f fails. let same : g ≡ f = cc in inl (ap Err same))

module _ {R : Type 0} {input : R → InputView} where
  -- no file is read yet
  pub none_read : (n : ℕ) (files : Readers R) → AreFresh input files → AreRead input {V = Unit {0}} n (λ _ _. ⊤) files files (Ok tt)
  none_read n files fresh =
      let none : any_failed input files ≡ false = rw (fresh.0.1, fresh.1.1, fresh.2.1, fresh.3.1) refl in
      record {
        read = λ r. ([], gives_none _, tt);
        kept = λ r _. refl;
        early = λ r failed. let works = none_failed input files none r in absurd (cc);
        gives = (none, λ texts given. tt);
      }

  -- the file that is read next, after files that are read without a fault
  module _ {B V W : Type 0} {n : ℕ} {Was : ByFile Text → Result V BytesFault → Type 0} {old mid : Readers R} {v : V}
      (had : AreRead input n Was old mid (Ok v)) (r : Role) (early : n ≤ turn r) {file : Option (Source R)}
      {reading : Text → Result B BytesFault} {is : B → W → Type 0} {stops : List ℕ → Type 0}
      (named : (text : Text) (fault : BytesFault) → reading text ≡ Err fault → role_of fault ≡ r)
      (flows : r ≡ role.Flows → (bytes : List ℕ) → stops bytes → StopsReading bytes) where
    pub next : {m : ℕ} → turn r < m → {result : Result W RunFault} → IsRead input reading is stops (at r mid) file result
        → AreRead input m (λ texts. IsReading (reading (at r texts)) is) old (with_at r file mid) result
    next {m = m} after {result = result} one = record {
      read = one_read input r file old mid had.read one.reads;
      kept = λ o later. at_later file mid r o (omega (arith, after, later)) ∙ had.kept o (omega (arith, after, later, early));
      early = λ o failed.
          elim (at_other file mid r o) [
            | inl same ↦ omega (arith, after, ap turn same)
            | inr still ↦ let works = none_failed input mid had.gives.0 o in absurd (cc)
          ];
      gives = by result one.gives;
    }
      where
        by : (result : Result W RunFault) → Gives input reading is stops (at r mid) file result
            → GivesAll input m (λ texts. IsReading (reading (at r texts)) is) old (with_at r file mid) result
        by (Ok w) (works, has) = (
          one_tells input mid had.gives.0 r file ∙ works,
          λ texts given. has (at r texts) (subst (λ (f : Option (Source R)). MayHave (view_of input f) (at r texts)) (at_same r file mid) (given r after)),
        )
        by (Err NoMemory) works = one_tells input mid had.gives.0 r file ∙ works
        by (Err (CannotRead name)) (failed, name_is, stopped) = (
          r,
          name_is ∙ ap name_in (had.kept r early),
          ap (λ (f : Option (Source R)). (view_of input f).failed) (at_same r file mid) ∙ failed,
          λ o later. at_later file mid r o later ∙ had.kept o (omega (arith, later, early)),
          λ texts given fault reads. omega (arith, ap turn (named (at r texts) fault reads)),
          λ last.
              subst StopsReading
              (sym (ap (λ (f : Option (Source R)). (view_of input f).returned) (ap (λ (p : Role). at p (with_at r file mid)) (sym last) ∙ at_same r file mid)))
              (flows last (view_of input file).returned stopped),
        )
        by (Err (File name fault)) (works, name_is, has) =
            let own : role_of fault ≡ r = named (view_of input file).returned fault (has (view_of input file).returned (may_have (view_of input file))) in (
              name_is ∙ ap name_in (had.kept r early) ∙ sym (ap (λ (p : Role). name_in (at p old)) own),
              λ texts given. has (at r texts) (subst (λ (f : Option (Source R)). MayHave (view_of input f) (at r texts)) (at_same r file mid) (given r)),
              λ o later.
                  let after : turn r < turn o = subst (λ (p : Role). turn p < turn o) own later in
                  at_later file mid r o after ∙ had.kept o (omega (arith, after, early)),
              one_tells input mid had.gives.0 r file ∙ works,
            )
        by (Err fault) has = absurd has

  module _ {V : Type 0} {n : ℕ} {Was : ByFile Text → Result V BytesFault → Type 0} {old mid : Readers R} {v : V}
      (had : AreRead input n Was old mid (Ok v)) where
    pub text_read : {B W : Type 0} {reading : Text → Result B BytesFault} {is : B → W → Type 0} {file : Option (Source R)} {result : Result W RunFault}
        (r : Role) → n ≤ turn r → turn r < 3 → ((text : Text) (fault : BytesFault) → reading text ≡ Err fault → role_of fault ≡ r)
        → IsRead input reading is (λ _. ⊤) (at r mid) file result
        → AreRead input (turn r + 1) (λ texts. IsReading (reading (at r texts)) is) old (with_at r file mid) result
    text_read r early text named =
        next had r early named (λ last. let wrong : turn r ≡ 3 = ap turn last in absurd (omega (arith, wrong, text))) (omega arith)

    pub flows_read : {W : Type 0} {is : List MessageView → W → Type 0} {file : Option (Source R)} {result : Result W RunFault}
        → n ≤ 3 → ReadsInto input (λ placed. is (messages_in placed)) mid.flows file result
        → AreRead input 4 (λ texts. IsReading (flows_in texts) is) old (with_at role.Flows file mid) result
    flows_read {is = is} {result = result} early read =
        next had role.Flows early (λ bytes. named_in InFlows (λ own. refl) (file_reading bytes)) (λ _ bytes stops. stops) (omega arith) (messages_read is result read)

    pub list_read : {file : Option (Source R)} {result : Result PrefixList RunFault} → n ≤ 1 → Decodes input InList list_reading list_of mid.list file result
        → AreRead input 2 (λ texts. IsReading (list_in texts) (λ l list. l ≡ list_of list)) old (with_at role.List file mid) result
    list_read early = text_read role.List early (omega arith) (λ bytes. named_in InList (λ own. refl) (list_reading bytes))

  pub map_read : (files : Readers R) → AreFresh input files → {file : Option (Source R)} {result : Result MapText RunFault}
      → Decodes input InMap map_reading map_of files.map file result
      → AreRead input 1 (λ texts. IsReading (map_in texts) (λ m map. m ≡ map_of map)) files (with_at role.Map file files) result
  map_read files fresh =
      text_read (none_read 0 files fresh) role.Map (omega arith) (omega arith) (λ bytes. named_in InMap (λ own. refl) (map_reading bytes))

  -- the value that all texts of a file are read as
  pub decoded : {A V : Type 0} {reading : Text → Result A BytesFault} {model : V → A} {stops : List ℕ → Type 0} {old new : Option (Source R)} {v : V}
      → IsRead input reading (λ a value. a ≡ model value) stops old new (Ok v) → (text : Text) → MayHave (view_of input new) text → reading text ≡ Ok (model v)
  decoded one text may = let (a, reads, is) = one.gives.1 text may in reads ∙ ap Ok is

  -- what is read makes something else
  module _ {V W : Type 0} {n m : ℕ} {Is : ByFile Text → Result V BytesFault → Type 0} {Is' : ByFile Text → Result W BytesFault → Type 0}
      {old new : Readers R} where
    with_gives : {was : Result V RunFault} {result : Result W RunFault} → AreRead input n Is old new was → n ≤ m → GivesAll input m Is' old new result
        → AreRead input m Is' old new result
    with_gives had more gives = record {
      read = had.read;
      kept = λ r last. had.kept r (omega (arith, more, last));
      early = λ r failed. omega (arith, had.early r failed, more);
      gives = gives;
    }

    pub as_ok : {v : V} {w : W} → AreRead input n Is old new (Ok v) → n ≤ m
        → ((texts : ByFile Text) → AreTextsBefore input m new texts → Is texts (Ok v) → Is' texts (Ok w))
        → AreRead input m Is' old new (Ok w)
    as_ok had more holds = with_gives had more (had.gives.0, λ texts given. holds texts given (had.gives.1 texts (λ o low. given o (omega (arith, more, low)))))

    pub as_err : {fault : RunFault} {result : Result W RunFault} → AreRead input n Is old new (Err fault) → n ≤ m
        → ((texts : ByFile Text) → AreTexts input new texts → Follows n (Is texts) (Is' texts)) → IsErrAnd result (λ other. other ≡ fault)
        → AreRead input m Is' old new result
    as_err {fault = fault} {result = result} had more follows passed =
        handed_on (AreRead input m Is' old new) result fault passed (with_gives had more (by fault had.gives))
      where
        by : (fault : RunFault) → IsFaultOf input (λ texts. faults_of (Is texts)) old new fault → IsFaultOf input (λ texts. faults_of (Is' texts)) old new fault
        by NoMemory works = works
        by (CannotRead file) (r, named, failed, rest, first, stops) = (
          r,
          named,
          failed,
          rest,
          λ texts given f fails.
              elim ((follows texts given).1 f fails) [ inl own ↦ first texts given f own | inr last ↦ omega (arith, had.early r failed, last) ],
          stops,
        )
        by (File file f) (named, has, rest, works) = (named, λ texts given. (follows texts given).0 f (has texts given), rest, works)
        by fault is = absurd is

    -- an allocation fails
    pub no_memory_left : {v : V} {result : Result W RunFault} → AreRead input n Is old new (Ok v) → n ≤ m → IsErrAnd result (λ fault. fault ≡ NoMemory)
        → AreRead input m Is' old new result
    no_memory_left {result = result} had more same = handed_on (AreRead input m Is' old new) result NoMemory same (with_gives had more had.gives.0)

  module _ {A V : Type 0} {n : ℕ} {reading : ByFile Text → Result A BytesFault} {is : A → V → Type 0} {old new : Readers R} where
    -- the reading goes on, without another file or after its fault
    module _ {B W : Type 0} {m : ℕ} {is' : B → W → Type 0} {whole : ByFile Text → Result B BytesFault} (rest : ByFile Text → A → Result B BytesFault) where
      pub then_ok : {v : V} {w : W} → AreRead input n (λ texts. IsReading (reading texts) is) old new (Ok v) → n ≤ m
          → ((texts : ByFile Text) → AreTextsBefore input m new texts → whole texts ≡ (reading texts >>= rest texts))
          → ((texts : ByFile Text) (a : A) → is a v → (b : B) × (rest texts a ≡ Ok b) × is' b w)
          → AreRead input m (λ texts. IsReading (whole texts) is') old new (Ok w)
      then_ok had more same holds = as_ok had more (λ texts given (a, reads, own).
          let (b, then, made) = holds texts a own in (b, same texts given ∙ ap (λ (r : Result A BytesFault). r >>= rest texts) reads ∙ then, made))

      pub then_err : {fault : RunFault} {result : Result W RunFault} → AreRead input n (λ texts. IsReading (reading texts) is) old new (Err fault) → n ≤ m
          → ((texts : ByFile Text) → AreTexts input new texts → whole texts ≡ (reading texts >>= rest texts))
          → ((texts : ByFile Text) (a : A) (f : BytesFault) → rest texts a ≡ Err f → n ≤ turn (role_of f) + 1)
          → IsErrAnd result (λ other. other ≡ fault) → AreRead input m (λ texts. IsReading (whole texts) is') old new result
      then_err had more same later = as_err had more (λ texts given.
          subst (λ (r : Result B BytesFault). Follows n (IsReading (reading texts) is) (IsReading r is')) (sym (same texts given))
          (more_follows is is' n (rest texts) (later texts) (reading texts)))

-- what a report is on, once its labels are read
abbrev pub report_after : Option Labelling → ByFile Text → Result (Option Labelling × List MessageView) BytesFault
report_after labels texts = result_map_both (λ messages. (labels, messages)) InFlows (file_reading texts.flows)

pub flows_last : (labels : Option Labelling) (reading : Result (List MessageView) ReadFault) (fault : BytesFault)
    → result_map_both {U = Option Labelling × List MessageView} (λ messages. (labels, messages)) InFlows reading ≡ Err fault → role_of fault ≡ role.Flows
flows_last labels (Ok messages) fault fails = cc
flows_last labels (Err own) fault fails = let same : fault ≡ InFlows own = cc in ap role_of same

module _ {R : Type 0} {input : R → InputView} (source : Option LabelFile) {old mid : Readers R} {found : Option LabelsRead}
    (had : AreLabelsOf input source old mid (Ok found)) where
  -- there are labels exactly if they come from a file
  pub source_some : is_some (option_map labelling_read found) ≡ is_some source
  source_some =
      let now : ByFile Text = each (λ file. (view_of input file).returned) mid in
      let (labels, reads, is) = had.gives.1 now (λ o _. are_texts input mid o) in ap is_some (sym is) ∙ by source labels now reads
    where
      by : (source : Option LabelFile) (labels : Option Labelling) (texts : ByFile Text) → source_reading source texts ≡ Ok labels
          → is_some labels ≡ is_some source
      by None labels texts reads = let none : labels ≡ None = cc in ap is_some none
      by (Some file) labels texts reads = some (labels_reading file texts) reads
        where
          some : (reading : Result Labelling BytesFault) → (reading >>= (λ l. Ok (Some l))) ≡ Ok labels → is_some labels ≡ true
          some (Ok l) is = let same : labels ≡ Some l = cc in ap is_some same
          some (Err fault) is = cc

  pub report_is : (flows : Option (Source R)) (texts : ByFile Text) → AreTextsBefore input 2 (with_at role.Flows flows mid) texts
      → report_reading source texts ≡ (flows_in texts >>= (λ messages. Ok (option_map labelling_read found, messages)))
  report_is flows texts given =
      let (labels, reads, is) = had.gives.1 texts (as_before input role.Flows (omega arith) flows mid texts given) in
      ap (λ (r : Result (Option Labelling) BytesFault). r >>= (λ labels. report_after labels texts)) (reads ∙ ap Ok is)
      ∙ mapped (λ (messages : List MessageView). (option_map labelling_read found, messages)) InFlows (file_reading texts.flows)

-- an index that is borrowed has the labelling of the index
pub found_is : (lent : Option (Bor StretchModel)) (owned : Option StretchModel) (labels : Option Labelling)
    → option_copied lent ≡ owned → option_map labelling_of_stretches owned ≡ labels → labelling_found lent ≡ labels
found_is None owned labels is same = ap (option_map labelling_of_stretches) is ∙ same
found_is (Some l) owned labels is same = ap (option_map labelling_of_stretches) is ∙ same

-- What a reader reports of its text: what it gave are the first bytes, and all of them once it has ended.

none_follows : (stopped : Bool) (rest : List ℕ) → (stopped && length rest == 0) ≡ true → rest ≡ []
none_follows stopped [] end = refl
none_follows true (byte ∷ bytes) end = let none : 1 + length bytes ≡ 0 = grind (arith, nat_tests, common_steps) in absurd (omega (arith, none))
none_follows false (byte ∷ bytes) end = cc

reports : (new : InputView) (text bytes : List ℕ) (left : Option (List ℕ)) → new.left ≡ left → Consumes (Some text) left bytes → new.returned ≡ bytes → MayHave new text
reports new text bytes None same gone all = absurd gone
reports new text bytes (Some rest) same gone all = (
  rest,
  λ end. none_follows new.stopped rest (subst (λ o. (new.stopped && length (unwrap_or o []) == 0) ≡ true) same end),
  gone ∙ ap (λ (l : List ℕ). l ++ rest) (sym all),
)

pub are_reported : {R : Type 0} (input : R → InputView) (old new : Readers R) → AreUnread input old → AreReadOn input old new
    → (role : Role) (text : Text) → (view_of input (at role old)).left ≡ Some text → MayHave (view_of input (at role new)) text
are_reported input old new unread read role text is =
    let (bytes, gives, _) = read role in let now = view_of input (at role new) in
    reports now text bytes now.left refl (subst (λ o. Consumes o now.left bytes) is gives.left) (all_read (unread role) gives)
