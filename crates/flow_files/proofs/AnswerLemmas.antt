-- How the result for a command line follows from the kind of clap's error, or from the entries of its matches.
use Rattle.std.proofs.Common.{◌≡◌, ◌⊎◌, ◌∙◌, Bool, true, false, List, [], ◌∷◌, Option, Some, None, Result, Ok, Err, refl, ap, ap₂, inl, inr}
use Rattle.std.specs.Prelude.{IfErr, option_map, unwrap_or}
use Rattle.std.specs.List.{list_any}
use Rattle.std.proofs.lemmas.Bool.{or_right}
use Rattle.flow_files.specs.Answer.{AreFaulty, AreParsed, IsFaultOfKind, IsOwnFault, is_help, is_mistake, IsUnlessMemory, UsageFault, Refused, NotUtf8, Help, NoMemory}
use Rattle.clap.specs.Words.{App, Text, IsAmong, Kinds, Row, fault_of, subcommand_name_of, subcommand_of, subcommand_rows_of}
use Rattle.clap.specs.declared.error.kind.ErrorKind.{ErrorKind}
use Rattle.clap.specs.declared.error.kind.ErrorKind.TheVariants as kind
use Rattle.clap.specs.declared.parser.ArgMatches.{ArgMatches}

-- one of the kinds passes a test
among_passes : (p : ErrorKind → Bool) (k : ErrorKind) (kinds : Kinds) → IsAmong k kinds → p k ≡ true → list_any p kinds ≡ true
among_passes p k [] h e = absurd h
among_passes p k (x ∷ xs) (inl same) e = rw (← same, e) refl
among_passes p k (x ∷ xs) (inr rest) e = or_right (p x) _ (among_passes p k xs rest e)

-- the fault of an error says about the words what clap's theorem says about the kind of the error
pub fault_at : {Request : Type 0} (app : App) (answer_of : Text × List Row → Result Request UsageFault)
    (words : List Text) (k : ErrorKind) (f : UsageFault) → (k ≡ kind.OutOfMemory) ⊎ IsAmong k (fault_of app words)
    → IsFaultOfKind k f → AreFaulty app answer_of words f
fault_at app answer_of words k (Refused text) (inl e) h = let bad : false ≡ true = rw e at h in cc
fault_at app answer_of words k (Refused text) (inr among) h = among_passes is_mistake k _ among h
fault_at app answer_of words k (Help text) (inl e) h = let bad : false ≡ true = rw e at h in cc
fault_at app answer_of words k (Help text) (inr among) h = among_passes is_help k _ among h
fault_at app answer_of words k NoMemory from h = tt
fault_at app answer_of words k fault from h = absurd h

-- a result that is the answer or out of memory is neither a refusal of clap's nor help
pub own : {Command Request : Type 0} (meaning : Command → Request) (answer : Result Request UsageFault) (r : Result Command UsageFault)
    → IsUnlessMemory meaning answer r → IfErr r IsOwnFault
own meaning answer (Ok command) says = tt
own meaning answer (Err fault) says = says.0

-- a pair in an option is determined by its parts
pair_is : {A B : Type 0} (o : Option (A × B)) (a : A) (b : B) → option_map (λ p. p.0) o ≡ Some a → option_map (λ p. p.1) o ≡ Some b → o ≡ Some (a, b)
pair_is None a b e f = cc
pair_is {A} {B} (Some p) a b e f = ap₂ (λ (x : Option A) (y : Option B). Some (unwrap_or x p.0, unwrap_or y p.1)) e f

map_twice : {A B C : Type 0} (f : B → C) (g : A → B) (o : Option A) → option_map f (option_map g o) ≡ option_map (λ x. f (g x)) o
map_twice f g None = refl
map_twice f g (Some x) = refl

-- the subcommand of the matches, by its name and its entries
pub subcommand_is : (m : ArgMatches) (name : Text) (rows : List Row) → subcommand_name_of m ≡ Some name
    → option_map (λ p. p.1) (subcommand_rows_of m) ≡ Some rows → subcommand_rows_of m ≡ Some (name, rows)
subcommand_is m name rows e f = pair_is (subcommand_rows_of m) name rows (map_twice (λ p. p.0) _ _ ∙ e) f

-- the subcommand that clap found is the one of its specification, so its answer is the answer to the words
pub answers : {Command Request : Type 0} (app : App) (answer_of : Text × List Row → Result Request UsageFault) (meaning : Command → Request)
    (words : List Text) (p : Text × List Row) (r : Result Command UsageFault) → fault_of app words ≡ []
    → subcommand_of app words ≡ Some p → IsUnlessMemory meaning (answer_of p) r → AreParsed app answer_of meaning words r
answers app answer_of meaning words p (Ok command) none found says = (none, ap (option_map answer_of) found ∙ ap Some says)
answers app answer_of meaning words p (Err NoMemory) none found says = tt
answers app answer_of meaning words p (Err NotUtf8) none found says = absurd says.0
answers app answer_of meaning words p (Err (Refused text)) none found says = absurd says.0
answers app answer_of meaning words p (Err (Help text)) none found says = absurd says.0
answers app answer_of meaning words p (Err fault) none found says = (none, ap (option_map answer_of) found ∙ ap Some (says.1 (λ e. cc)))

-- the fault of an error that reports out of memory is neither a refusal of clap's nor help
pub own_of_memory : (k : ErrorKind) (f : UsageFault) → k ≡ kind.OutOfMemory → IsFaultOfKind k f → IsOwnFault f
own_of_memory k (Refused text) e h = let bad : false ≡ true = rw e at h in cc
own_of_memory k (Help text) e h = let bad : false ≡ true = rw e at h in cc
own_of_memory k NotUtf8 e h = absurd h
own_of_memory k fault e h = tt
