-- What several Files are read as, with one more message or one more File.
use Rattle.std.proofs.Common.{◌≡◌, ◌∙◌, ℕ, ◌+◌, List, [], ◌∷◌, ◌++◌, Option, Some, None, Result, Ok, Err, ap, append_assoc, arith, length, length-append, refl, sym}
use Rattle.std.specs.List.{flat_map}
use Rattle.std.specs.Option.{option_or}
use Rattle.std.proofs.lemmas.Grind.{flat_map-append}
use Rattle.pmap_model.specs.Steps.{◌>>=◌}
use Rattle.ipfix_templates.specs.Reading.{after_items}
use Rattle.flow_files.specs.declared.bytes_fault.BytesFault.{BytesFault}
use Rattle.flow_files.specs.Sources.{Text}
use Rattle.flow_many.specs.Files.{FileFault, Placed, Refusal, files_from, first_refusal, of_file, one_reading}
use Rattle.flow_many.specs.Reading.{count_in}

pub count_more : (files : List (List Placed)) (messages : List Placed) → count_in (files ++ messages ∷ []) ≡ count_in files + length messages
count_more files messages =
    omega (
      arith,
      ap length (flat_map-append (λ (file : List Placed). file) files (messages ∷ [])),
      length-append (flat_map (λ (file : List Placed). file) files) (messages ++ []),
      length-append messages [],
    )

-- the first of three options
or_three : {X : Type 0} (a b c : Option X) → option_or a (option_or b c) ≡ option_or (option_or a b) c
or_three None b c = refl
or_three (Some x) b c = refl

or_none : {X : Type 0} (a : Option X) → option_or a None ≡ a
or_none None = refl
or_none (Some x) = refl

pub refusal_more : (refusal : Refusal) (before : ℕ) (messages : List Placed) (message : Placed)
    → first_refusal refusal before (messages ++ message ∷ [])
    ≡ option_or (first_refusal refusal before messages) (refusal (before + length messages) message)
refusal_more refusal before [] message =
    let same : before ≡ before + length {A = Placed} [] = omega arith in
    or_none (refusal before message) ∙ ap (λ n. refusal n message) same
refusal_more refusal before (m ∷ messages) message =
    let same : before + 1 + length messages ≡ before + length (m ∷ messages) = omega arith in
    ap (option_or (refusal before m)) (refusal_more refusal (before + 1) messages message ∙ ap (λ n. option_or (first_refusal refusal (before + 1) messages) (refusal n message)) same)
    ∙ or_three (refusal before m) (first_refusal refusal (before + 1) messages) (refusal (before + length (m ∷ messages)) message)

-- a step that ends well begins with one that does
pub first_ok : {A B F : Type 0} (x : Result A F) (f : A → Result B F) (b : B) → x >>= f ≡ Ok b → (a : A) × (x ≡ Ok a) × (f a ≡ Ok b)
first_ok (Ok a) f b is = (a, refl, is)
first_ok (Err fault) f b is = cc

pub file_ok : {A : Type 0} (number : ℕ) (x : Result A BytesFault) (a : A) → of_file number x ≡ Ok a → x ≡ Ok a
file_ok number (Ok b) a is = cc
file_ok number (Err fault) a is = cc

pub later_ok : {A F : Type 0} (items : List A) (x : Result (List A) F) (all : List A) → after_items items x ≡ Ok all
    → (later : List A) × (x ≡ Ok later) × (items ++ later ≡ all)
later_ok items (Ok later) all is = (later, refl, cc)
later_ok items (Err fault) all is = cc

-- items that come after others come after both
after_both : {A F : Type 0} (first second : List A) (x : Result (List A) F) → after_items first (after_items second x) ≡ after_items (first ++ second) x
after_both first second (Ok later) = ap Ok (sym (append_assoc first second later))
after_both first second (Err fault) = refl

-- the reading of Files and one more, by the reading of those before it
module _ (refusal : Refusal) where
  abbrev pub more : ℕ → ℕ → List (List Placed) → Text → Result (List (List Placed)) FileFault
  more number before files text = of_file number (one_reading refusal before text) >>= (λ messages. Ok (files ++ messages ∷ []))

  after_more : (number before : ℕ) (messages : List Placed) (files : List (List Placed)) (text : Text)
      → after_items (messages ∷ []) (more number before files text) ≡ more number before (messages ∷ files) text
  after_more number before messages files text = go (of_file number (one_reading refusal before text))
    where
      go : (x : Result (List Placed) FileFault) → after_items (messages ∷ []) (x >>= (λ last. Ok (files ++ last ∷ []))) ≡ (x >>= (λ last. Ok (messages ∷ files ++ last ∷ [])))
      go (Ok last) = refl
      go (Err fault) = refl

  pub files_more : (number before : ℕ) (texts : List Text) (files : List (List Placed)) (text : Text) → files_from refusal number before texts ≡ Ok files
      → files_from refusal number before (texts ++ text ∷ []) ≡ more (number + length texts) (before + count_in files) files text
  files_more number before [] files text is =
      let none : [] ≡ files = cc in
      let first : number ≡ number + length {A = Text} [] = omega arith in
      let same : before ≡ before + count_in [] = omega arith in
      (λ i. more (first i) (same i) [] text) ∙ ap (λ (fs : List (List Placed)). more (number + length {A = Text} []) (before + count_in fs) fs text) none
  files_more number before (t ∷ texts) files text is =
      let (m, read, rest) = first_ok (of_file number (one_reading refusal before t)) _ files is in
      let (later, reads, are) = later_ok (m ∷ []) (files_from refusal (number + 1) (before + length m) texts) files rest in
      let first : number + 1 + length texts ≡ number + length (t ∷ texts) = omega arith in
      let same : before + length m + count_in later ≡ before + count_in files =
      omega (arith, length-append m (flat_map (λ (file : List Placed). file) later), ap count_in are) in
      ap (λ (x : Result (List Placed) FileFault).
      x >>= (λ messages. after_items (messages ∷ []) (files_from refusal (number + 1) (before + length messages) (texts ++ text ∷ [])))) read
      ∙ ap (after_items (m ∷ [])) (files_more (number + 1) (before + length m) texts later text reads)
      ∙ after_more (number + 1 + length texts) (before + length m + count_in later) m later text
      ∙ (λ i. more (first i) (same i) (are i) text)

-- if no message is refused, none is the first
pub none_refused : (before : ℕ) (messages : List Placed) → first_refusal (λ n message. None) before messages ≡ None
none_refused before [] = refl
none_refused before (m ∷ messages) = none_refused (before + 1) messages
