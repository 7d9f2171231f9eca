-- What a line of a map text changes. No line adds an entry.
use Rattle.std.proofs.Common.{◌≡◌, ℕ, ◌+◌, ◌==◌, ◌&&◌, Bool, true, false, cond, List, [], ◌∷◌, Option, Some, None, Result, Ok, Err, IfOk, IsTrue, is_some, length, refl, nat_le, nat_lt, unwrap_or, codes, ◌++◌}
use Rattle.std.specs.List.{list_all, list_any}
use Rattle.std.specs.Str.{bytes_eq}
use Rattle.std.proofs.lemmas.Bool.{and_parts}
use Rattle.prefix_keys.specs.Text.{AddressOf, BlockOf, address_of, block_of_text, is_digit}
use Rattle.prefix_keys.specs.declared.text.BlockFault.{BlockFault}
use Rattle.prefix_keys.specs.declared.text.BlockFault.TheVariants as block_faults
use Rattle.prefix_keys.specs.declared.version.Version.{Version}
use Rattle.pmap_model.specs.Label.{is_label, with_label}
use Rattle.pmap_model.specs.MapModel.{Label}
use Rattle.pmap_model.specs.Steps.{◌>>=◌}
use Rattle.pmap_text.specs.Declarations.{conflicts, label_number, meant_text, with_declared}
use Rattle.pmap_text.specs.Reading.{after_word, first_word, Earlier, address_line, block_line, content_line, default_line, has_room, label_line, label_of, mapping_limit, mode_line, mode_version, name_line, number_in, span_line, statement_line, with_text}
use Rattle.pmap_text.specs.Inner.{one_or_two}
use Rattle.pmap_text.specs.declared.reading.form.Form.TheVariants as form

abbrev pub IsText : Label → Type 0
IsText x = IsTrue (is_label x)

-- the property holds after each kind of line
pub record HoldsAfter (e : Earlier) (P : Earlier → Type 0) : Type 0 where
  pub nothing : P e
  pub name : (x : Label) → IsText x → P (record e { name = Some x })
  pub mode : (version : Version) → P (record e { version = Some version })
  pub label : (number : ℕ) (x : Label) → IsText x → has_room e.table x ≡ true
      → P (record e { declared = with_declared e.declared (number, x); table = with_label e.table x })
  pub fallback : (x : Label) → IsText x → has_room e.table (meant_text e.declared x) ≡ true
      → P (record e { fallback = Some (meant_text e.declared x); table = with_label e.table (meant_text e.declared x) })
  pub span : (version : Version) (low high : ℕ) (x : Label) → IsText x → nat_lt (length e.mappings) mapping_limit ≡ true → has_room e.table (meant_text e.declared x) ≡ true
      → P (record e { version = Some version; mappings = e.mappings ++ record { low = low; high = high; label = meant_text e.declared x } ∷ []; table = with_label e.table (meant_text e.declared x) })

-- a property of a step's result carries over to what follows from it, and a property of both cases to a choice
onward : {A B E : Type 0} (P : A → Type 0) (Q : B → Type 0) (r : Result A E) (f : A → Result B E) → IfOk r P
    → ((x : A) → P x → IfOk (f x) Q) → IfOk (r >>= f) Q
onward P Q (Ok x) f is each = each x is
onward P Q (Err fault) f is each = tt

whatever : {A B E : Type 0} (Q : B → Type 0) (r : Result A E) (f : A → Result B E) → ((x : A) → IfOk (f x) Q) → IfOk (r >>= f) Q
whatever Q (Ok x) f each = each x
whatever Q (Err fault) f each = tt

either : {A E : Type 0} (P : A → Type 0) (b : Bool) (r s : Result A E) → (b ≡ true → IfOk r P) → IfOk s P → IfOk (cond b r s) P
either P true r s first second = first refl
either P false r s first second = second

label_of-text : (rest : List ℕ) → IfOk (label_of rest) IsText
label_of-text [] = tt
label_of-text (b ∷ bs) = either IsText (is_label (b ∷ bs)) (Ok (b ∷ bs)) _ (λ is. is) tt

module _ (e : Earlier) (P : Earlier → Type 0) (after : HoldsAfter e P) where
  -- after a line whose text is added to the table
  text-holds : (room : Bool) (x : Label) (n : Earlier) → (room ≡ true → has_room n.table x ≡ true → P (record n { table = with_label n.table x })) → IfOk (with_text room x n) P
  text-holds room x n is =
      either P (room && has_room n.table x) (Ok (record n { table = with_label n.table x })) _
      (λ h. let parts = and_parts room (has_room n.table x) h in is parts.0 parts.1) tt

  mode-holds : (o : Option Version) → IfOk (mode_line e o) P
  mode-holds None = tt
  mode-holds (Some version) =
      either P (nat_lt 0 (length e.mappings + length e.prefixes)) _ _ (λ _. tt)
      (either P (is_some e.version) _ (Ok (record e { version = Some version })) (λ _. tt) (after.mode version))

  label-holds : (o : Option ℕ) (rest : List ℕ) → IfOk (label_line e o rest) P
  label-holds None rest = tt
  label-holds (Some number) rest =
      onward IsText P (label_of rest) _ (label_of-text rest)
      (λ text is. either P (list_all is_digit text) _ _ (λ _. tt)
      (either P (conflicts e.declared number text) _ _ (λ _. tt)
      (text-holds true text (record e { declared = with_declared e.declared (number, text) }) (λ _. after.label number text is))))

  default-holds : (rest : List ℕ) → IfOk (default_line form.Map e rest) P
  default-holds rest =
      onward IsText P (label_of rest) _ (label_of-text rest)
      (λ label is. let text : Label = meant_text e.declared label in text-holds true text (record e { fallback = Some text }) (λ _. after.fallback label is))

  span-holds : (version : Version) (low high : ℕ) (rest : List ℕ) → IfOk (span_line e version low high rest) P
  span-holds version low high rest =
      onward IsText P (label_of rest) _ (label_of-text rest)
      (λ label is. let text : Label = meant_text e.declared label in
      text-holds (nat_lt (length e.mappings) mapping_limit) text
      (record e { version = Some version; mappings = e.mappings ++ record { low = low; high = high; label = text } ∷ [] }) (after.span version low high label is))

  block-holds : (r : Result BlockOf BlockFault) (rest : List ℕ) → IfOk (block_line form.Map e r rest) P
  block-holds (Ok (own, first, len)) rest =
      let version : Version = unwrap_or e.version own in
      whatever P (number_in version (own, first)) _ (λ start. span-holds version start _ rest)
  block-holds (Err block_faults.BadAddress) rest = tt
  block-holds (Err block_faults.BadLength) rest = tt

  address-holds : (word : List ℕ) (o : Option AddressOf) (rest : List ℕ) → IfOk (address_line form.Map e word o rest) P
  address-holds word None rest = tt
  address-holds word (Some first) rest = by (address_of (first_word rest))
    where
      version : Version
      version = unwrap_or e.version first.0

      by : (o : Option AddressOf) → IfOk (one_or_two form.Map e first o rest) P
      by None = whatever P (number_in version first) _ (λ start. span-holds version start _ rest)
      by (Some second) =
          whatever P (number_in version first) _
          (λ low. whatever P (number_in version second) _
          (λ high. either P (nat_le low high) (span_line e version low high (after_word rest)) _ (λ _. span-holds version low high (after_word rest)) tt))

  statement-holds : (word rest : List ℕ) → IfOk (statement_line form.Map e word rest) P
  statement-holds word rest =
      either P (bytes_eq word (codes "map-name")) (name_line e rest) _ (λ _. onward IsText P (label_of rest) _ (label_of-text rest) after.name)
      (either P (bytes_eq word (codes "mode")) (mode_line e (mode_version rest)) _ (λ _. mode-holds (mode_version rest))
      (either P (bytes_eq word (codes "label")) (label_line e (label_number (first_word rest)) (after_word rest)) _
      (λ _. label-holds (label_number (first_word rest)) (after_word rest))
      (either P (bytes_eq word (codes "default")) (default_line form.Map e rest) _ (λ _. default-holds rest)
      (either P (list_any (λ b. b == 47) word) (block_line form.Map e (block_of_text word) rest)
      (address_line form.Map e word (address_of word) rest) (λ _. block-holds (block_of_text word) rest)
      (address-holds word (address_of word) rest)))))

  pub line-holds : (content : List ℕ) → IfOk (content_line form.Map e content) P
  line-holds [] = after.nothing
  line-holds (b ∷ bs) = statement-holds (first_word (b ∷ bs)) (after_word (b ∷ bs))

pub line-keeps : (e : Earlier) (content : List ℕ) → IfOk (content_line form.Map e content) (λ n. n.prefixes ≡ e.prefixes)
line-keeps e = line-holds e (λ n. n.prefixes ≡ e.prefixes) (record {
  nothing = refl;
  name = λ _ _. refl;
  mode = λ _. refl;
  label = λ _ _ _ _. refl;
  fallback = λ _ _ _. refl;
  span = λ _ _ _ _ _ _ _. refl;
})
