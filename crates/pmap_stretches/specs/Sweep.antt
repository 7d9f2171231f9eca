use Rattle.std.specs.Prelude.{◌≡◌, ◌≢◌, ℕ, ◌+◌, ◌-◌, ◌^◌, ◌<◌, ◌≤◌, ◌⊎◌, Bool, true, false, if◌then◌else◌, List}
use Rattle.std.specs.Prelude.{Option, Some, All, Contains, IsSomeAnd, length, option_and_then, option_map, slice_get}
use Rattle.std.specs.Option.{ForSome}
use Rattle.prefix_keys.specs.Block.{width_of}
use Rattle.pmap_model.specs.declared.label.LabelId.{LabelId}
use Rattle.pmap_model.specs.declared.statement.Statement.{Statement}
use Rattle.pmap_stretches.specs.Starting.{IsOrder, Start, number_at}
use Rattle.pmap_stretches.specs.Stretches.{AreRunsOf, AreStretches, HasEveryAddress, StretchesModel}
use Rattle.pmap_stretches.specs.Stretches.{first_at, label_at, label_held, label_seen, last_at}
use Rattle.pmap_stretches.specs.declared.stretches.ascent.Ascent.{Ascent}
use Rattle.pmap_stretches.specs.declared.stretches.growing.Growing.{Growing}

-- The statement that wins at an address, by its number.

abbrev pub statement_won : List Statement → Option ℕ → Option Statement
statement_won ss won = option_and_then (slice_get ss) won

pub record Covers (ss : List Statement) (a j : ℕ) : Type 0 where
  pub statement : Statement
  pub listed : slice_get ss j ≡ Some statement
  pub low : statement.span.low.value ≤ a
  pub high : a ≤ statement.span.high.value

-- the statement with the number wins at the address: it covers the address, and no later one does; without a number,
-- none does
pub record IsWinner (ss : List Statement) (a : ℕ) (won : Option ℕ) : Type 0 where
  pub covers : ForSome won (Covers ss a)
  pub most : (j : ℕ) → Covers ss a j → IsSomeAnd won (λ k. j ≤ k)

-- The numbers of open statements.

-- the number is the greatest of the list; without a number, the list is empty
pub record IsGreatest (numbers : List ℕ) (greatest : Option ℕ) : Type 0 where
  pub listed : ForSome greatest (Contains numbers)
  pub most : (j : ℕ) → Contains numbers j → IsSomeAnd greatest (λ k. j ≤ k)

-- a list has the numbers of another, and this one
pub record HasOneMore (fewer : List ℕ) (number : ℕ) (more : List ℕ) : Type 0 where
  pub more_than : (j : ℕ) → Contains more j → (j ≡ number) ⊎ Contains fewer j
  pub has_number : Contains more number
  pub has_fewer : (j : ℕ) → Contains fewer j → Contains more j
  pub longer : length fewer < length more

-- How stretches are built from the first address to the last.

-- the start of the last stretch
abbrev pub last_first : StretchesModel → ℕ
last_first s = first_at s (length s.firsts - 1)

-- the number that all addresses of a stretch share: that of the statement that wins, or that of the label if neighbours
-- with the same label are joined
abbrev pub top_of : Bool → Option ℕ → Option LabelId → Option ℕ
top_of joins won label = if joins then option_map (λ id. id.0) label else won

-- the address has this label, and the number that the stretch of the address shares
pub record HasTop (ss : List Statement) (default : Option LabelId) (joins : Bool) (top : Option ℕ)
    (label : Option LabelId) (a : ℕ) : Type 0 where
  pub won : Option ℕ
  pub wins : IsWinner ss a won
  pub label_is : label ≡ label_seen default (statement_won ss won)
  pub top_is : top ≡ top_of joins won label

-- a stretch ends before the address: the address and the one before it have different numbers
pub record IsBegin (ss : List Statement) (default : Option LabelId) (joins : Bool) (a : ℕ) : Type 0 where
  pub top : Option ℕ
  pub label : Option LabelId
  pub has : HasTop ss default joins top label (a - 1)
  pub next : Option ℕ
  pub next_label : Option LabelId
  pub next_has : HasTop ss default joins next next_label a
  pub other : next ≢ top

-- all addresses of a range have the label, and share a number
abbrev pub AreAlike : List Statement → Option LabelId → Bool → Option LabelId → ℕ → ℕ → Type 0
AreAlike ss default joins label first last =
    (top : Option ℕ) × ((a : ℕ) → first ≤ a → a ≤ last → HasTop ss default joins top label a)

-- The stretches before the last one are there, and the last one extends to `last` at least.
pub record AreStretchesTo (ss : List Statement) (default : Option LabelId) (g : Growing) : Type 0 where
  pub every : HasEveryAddress g.stretches
  pub each : (i : ℕ) → i + 1 < length g.stretches.firsts
      → AreAlike ss default g.joined (label_at g.stretches i) (first_at g.stretches i) (last_at g.stretches i)
  pub begins : (i : ℕ) → 0 < i → i < length g.stretches.firsts → IsBegin ss default g.joined (first_at g.stretches i)
  pub from : last_first g.stretches ≤ g.last
  pub last_each : (a : ℕ) → last_first g.stretches ≤ a → a ≤ g.last
      → HasTop ss default g.joined g.top (label_at g.stretches (length g.stretches.firsts - 1)) a

-- each address has the label of the statement that wins there, or the default
pub record HaveLabelsWon (ss : List Statement) (default : Option LabelId) (s : StretchesModel) : Type 0 where
  pub every : HasEveryAddress s
  pub each : (a : ℕ) → a < 2 ^ width_of s.version
      → (won : Option ℕ) × IsWinner ss a won × (label_held s a ≡ label_seen default (statement_won ss won))

-- the stretches of the statements, with neighbours with the same label joined if `joins`
abbrev pub AreSwept : Bool → List Statement → Option LabelId → StretchesModel → Type 0
AreSwept true ss default s = AreRunsOf ss s
AreSwept false ss default s = AreStretches ss default s

-- Of the statements that come first in an order, those with these numbers may cover addresses from `first` on. All have
-- begun.
pub record AreOpen (ss : List Statement) (starts : List Start) (next first : ℕ) (opened : List ℕ) : Type 0 where
  pub begun : (j : ℕ) → Contains opened j → (s : Statement) × (slice_get ss j ≡ Some s) × (s.span.low.value ≤ first)
  pub every : (i : ℕ) (s : Statement) → i < next → slice_get ss (number_at starts i) ≡ Some s
      → first ≤ s.span.high.value
      → Contains opened (number_at starts i)

-- all statements but those that come first in an order begin after the address
abbrev pub BeginAfter : List Statement → List Start → ℕ → ℕ → Type 0
BeginAfter ss starts next last = (i : ℕ) (s : Statement) → next ≤ i → i < length ss
    → slice_get ss (number_at starts i) ≡ Some s
    → last < s.span.low.value

-- the labels have numbers below the one that is stored for a missing label
pub record HaveNumbers (ss : List Statement) (default : Option LabelId) : Type 0 where
  pub labels : All (λ s. s.label.0 < 2 ^ 32 - 1) ss
  pub fallback : ForSome default (λ id. id.0 < 2 ^ 32 - 1)

-- the stretches of statements are there up to an address, and the open statements known
pub record IsAscent (ss : List Statement) (a : Ascent) : Type 0 where
  pub are : AreStretchesTo ss a.default a.growing
  pub order : IsOrder ss a.starts
  pub opened : AreOpen ss a.starts a.next (a.growing.last + 1) a.opened

-- the stretches may have been extended, and no other statement was opened
pub record Continues (ss : List Statement) (old new : Ascent) : Type 0 where
  pub ascent : IsAscent ss new
  pub version : new.growing.stretches.version ≡ old.growing.stretches.version
  pub joined : new.growing.joined ≡ old.growing.joined
  pub default : new.default ≡ old.default
  pub starts : new.starts ≡ old.starts
  pub next : new.next ≡ old.next
