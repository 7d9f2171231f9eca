-- Rows that are added one by one.
use Rattle.std.proofs.Common.{append_assoc, ◌≡◌, ◌∙◌, ◌≤◌, Bool, true, false, arith, ℕ, cond, length, length-append, List, [], ◌∷◌, ◌++◌, Option, subst, sym, ap}
use Rattle.std.specs.Prelude.{Err, Ok, OnOk, Result}
use Rattle.std.specs.List.{flat_map}
use Rattle.std.proofs.lemmas.Grind.{flat_map-append}
use Rattle.std.proofs.lemmas.List.{append-nil, map-append}
use Rattle.std.proofs.lemmas.List.Elements.{filter-append}
use Rattle.std.proofs.lemmas.List.Sums.{count_by-le-length, length-filter}
use Rattle.ipfix_read.specs.Message.{MessageView}
use Rattle.ipfix_read.specs.Messages.{messages_in}
use Rattle.ipfix_read.specs.declared.set.Set.{Set}
use Rattle.flow_rows.specs.Counts.{records_in, records_of, rows_of_sets, rows_of_messages, sets_of}
use Rattle.flow_rows.specs.Elements.{RowView, rows_of_record}
use Rattle.flow_filter.specs.Condition.{Condition, passing, row_passes}
use Rattle.label_lookup.specs.Labelling.{Labelling, label_where}
use Rattle.flow_files.specs.Reports.{HasPassing, labelling_found}
use Rattle.flow_files.specs.declared.filtered.Filtered.{Filtered}

-- the rows of messages, with one more message
pub rows_more : (messages : List MessageView) (m : MessageView) → rows_of_messages messages ++ rows_of_sets m.sets ≡ rows_of_messages (messages ++ m ∷ [])
rows_more messages m =
    sym (ap rows_of_sets (flat_map-append (λ (message : MessageView). message.sets) messages (m ∷ []) ∙ ap (λ (sets : List Set). sets_of messages ++ sets) (append-nil m.sets))
    ∙ ap (flat_map rows_of_record) (flat_map-append records_in (sets_of messages) m.sets)
    ∙ flat_map-append rows_of_record (records_of (sets_of messages)) (records_of m.sets))

-- A state has some of the rows of a list more than the state before, and these are left. `has` is what has rows, for
-- each parameter.
pub record AreAdded {K T : Type 0} (has : K → List RowView → T → Type 0) (all left : List RowView) (before now : T) : Type 0 where
  pub added : List RowView
  pub all_are : added ++ left ≡ all
  pub more : (k : K) (rows : List RowView) → has k rows before → has k (rows ++ added) now

module _ {K T : Type 0} (has : K → List RowView → T → Type 0) where
  pub one_added : (all left left' : List RowView) (row : RowView) (before now then : T) → left ≡ row ∷ left' → AreAdded has all left before now
      → ((k : K) (rows : List RowView) → has k rows now → has k (rows ++ row ∷ []) then) → AreAdded has all left' before then
  one_added all left left' row before now then step had next = record {
    added = had.added ++ row ∷ [];
    all_are = append_assoc had.added (row ∷ []) left' ∙ ap (λ (rest : List RowView). had.added ++ rest) (sym step) ∙ had.all_are;
    more = λ k rows is.
        subst (λ (rs : List RowView). has k rs then) (append_assoc rows had.added (row ∷ [])) (next k (rows ++ had.added) (had.more k rows is));
  }

  pub all_added : (all left : List RowView) (before now : T) → left ≡ [] → AreAdded has all left before now
      → (k : K) (rows : List RowView) → has k rows before → has k (rows ++ all) now
  all_added all left before now none had k rows is =
      subst (λ (rs : List RowView). has k (rows ++ rs) now)
      (sym (append-nil had.added) ∙ ap (λ (rest : List RowView). had.added ++ rest) (sym none) ∙ had.all_are) (had.more k rows is)

-- the rows that pass, with one more row
passing_one : (condition : Condition) (labels : Option Labelling) (rows : List RowView) (row : RowView)
    → passing condition labels (rows ++ row ∷ []) ≡ passing condition labels rows ++ passing condition labels (row ∷ [])
passing_one condition labels rows row = filter-append (row_passes condition (label_where labels)) rows (row ∷ [])

pub with_passing : (condition : Condition) (labels : Option Labelling) (rows : List RowView) (row : RowView) → row_passes condition (label_where labels) row ≡ true
    → passing condition labels (rows ++ row ∷ []) ≡ passing condition labels rows ++ row ∷ []
with_passing condition labels rows row passed =
    passing_one condition labels rows row ∙ ap (λ (b : Bool). passing condition labels rows ++ cond b (row ∷ []) []) passed

pub without_failing : (condition : Condition) (labels : Option Labelling) (rows : List RowView) (row : RowView) → row_passes condition (label_where labels) row ≡ false
    → passing condition labels (rows ++ row ∷ []) ≡ passing condition labels rows
without_failing condition labels rows row failed =
    passing_one condition labels rows row ∙ ap (λ (b : Bool). passing condition labels rows ++ cond b (row ∷ []) []) failed
    ∙ append-nil (passing condition labels rows)

pub few_passing : (condition : Condition) (labels : Option Labelling) (rows : List RowView) → length (passing condition labels rows) ≤ length rows
few_passing condition labels rows =
    let passes : RowView → Bool = row_passes condition (label_where labels) in omega (arith, length-filter passes rows, count_by-le-length passes rows)

-- the rows of one more message that pass are added
module _ {T : Type 0} (has : T → Option Labelling → List RowView → T → Type 0) (first : Filtered T) (messages : List MessageView) (now : Filtered T) (is : HasPassing has first messages now) where
  pub passing_before : has first.taker (labelling_found now.labels) (passing now.filter.now (labelling_found now.labels) (rows_of_messages messages)) now.taker
  passing_before = rw (is.filter, is.labels) is.rows

  pub passing_more : (m : MessageView) (taker : T) → length (rows_of_sets m.sets) ≤ 131070
      → has first.taker (labelling_found now.labels) (passing now.filter.now (labelling_found now.labels) (rows_of_messages messages ++ rows_of_sets m.sets)) taker
      → HasPassing has first (messages ++ m ∷ []) (record now { taker = taker })
  passing_more m taker few holds = record {
    filter = is.filter;
    labels = is.labels;
    rows =
        rw (← is.filter, ← is.labels)
        (subst (λ (rows : List RowView). has first.taker (labelling_found now.labels) (passing now.filter.now (labelling_found now.labels) rows) taker)
        (rows_more messages m) holds);
    few =
        omega (
          arith,
          is.few,
          few,
          ap length (rows_more messages m),
          length-append (rows_of_messages messages) (rows_of_sets m.sets),
          length-append messages (m ∷ []),
        );
  }

-- messages without their offsets, with one more message
pub messages_more : (placed : List (ℕ × MessageView)) (at : ℕ) (m : MessageView) → messages_in placed ++ m ∷ [] ≡ messages_in (placed ++ (at, m) ∷ [])
messages_more placed at m = sym (map-append (λ (p : ℕ × MessageView). p.1) placed ((at, m) ∷ []))

pub on_ok_both : {T E : Type 0} (P Q : Type 0) (r : Result T E) → OnOk r P → OnOk r Q → OnOk r (P × Q)
on_ok_both P Q (Ok value) p q = (p, q)
on_ok_both P Q (Err fault) p q = tt
