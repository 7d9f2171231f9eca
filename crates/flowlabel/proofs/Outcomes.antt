-- The outcomes over the texts of files.
use Rattle.std.proofs.Common.{◌≡◌, ◌∙◌, ap, refl}
use Rattle.std.specs.Result.{result_map_both}
use Rattle.std.specs.Prelude.{List, ℕ, Result, Ok, Err}
use Rattle.pmap_model.specs.Steps.{◌>>=◌}
use Rattle.flow_files.specs.declared.bytes_fault.BytesFault.{BytesFault}
use Rattle.flow_files.specs.Outcomes.{Outcome, Then, with_bytes_fault}

-- a text comes of the value that texts are read as
pub printed_of : {A : Type 0} (rest : A → Outcome → Type 0) (reading : Result A BytesFault) (out : List ℕ)
    → Then rest reading (Ok out) → (value : A) × (reading ≡ Ok value) × rest value (Ok out)
printed_of rest (Ok value) out is = (value, refl, is)
printed_of rest (Err fault) out is = cc

-- a text meets another condition that follows for each value
pub keep_over : {A : Type 0} (this that : A → Outcome → Type 0) (reading : Result A BytesFault) {out : List ℕ}
    → Then this reading (Ok out) → ((a : A) → this a (Ok out) → that a (Ok out)) → Then that reading (Ok out)
keep_over this that (Ok value) is keep = keep value is
keep_over this that (Err fault) is keep = is

-- a value is read after another one
pub read_then : {A B : Type 0} (reading : Result A BytesFault) (rest : A → Result B BytesFault) (b : B) → (reading >>= rest) ≡ Ok b
    → (a : A) × (reading ≡ Ok a) × (rest a ≡ Ok b)
read_then (Ok a) rest b is = (a, refl, is)
read_then (Err fault) rest b is = cc

-- a value comes of another one that is read
pub mapped_ok : {F A B : Type 0} (f : A → B) (wrap : F → BytesFault) (reading : Result A F) {b : B} → result_map_both f wrap reading ≡ Ok b
    → (a : A) × (reading ≡ Ok a) × (f a ≡ b)
mapped_ok f wrap (Ok a) is = (a, refl, cc)
mapped_ok f wrap (Err fault) is = cc

pub unwrapped : {F A : Type 0} (wrap : F → BytesFault) (reading : Result A F) {a : A} → with_bytes_fault wrap reading ≡ Ok a → reading ≡ Ok a
unwrapped wrap reading is = let (a, reads, same) = mapped_ok (λ a. a) wrap reading is in reads ∙ ap Ok same
