-- The rows of messages, with one more message or one more File.
use Rattle.std.proofs.Common.{◌≡◌, ◌∙◌, ◌+◌, ◌≤◌, ◌<◌, ◌&&◌, ◌||◌, Bool, true, false, List, [], ◌∷◌, ◌++◌, Option, Some, None, ap, append_assoc, arith, length, length-append, map, refl, subst, sym}
use Rattle.std.specs.Prelude.{if◌then◌else◌, is_some, nat_le, option_map}
use Rattle.std.specs.List.{flat_map}
use Rattle.std.proofs.lemmas.Grind.{flat_map-append}
use Rattle.std.proofs.lemmas.List.{append-nil, map-append}
use Rattle.flow_rows.specs.Counts.{rows_of_messages, rows_of_sets}
use Rattle.flow_rows.proofs.Adding.{messages-rows}
use Rattle.flow_rows.specs.Elements.{RowView}
use Rattle.flow_many.specs.Files.{Placed}
use Rattle.std.specs.List.{list_any}
use Rattle.std.specs.Option.{option_or}
use Rattle.std.proofs.lemmas.Bool.Decides.{nat_tests}
use Rattle.std.proofs.lemmas.List.Elements.{filter-append}
use Rattle.std.proofs.lemmas.List.Folds.{list_any-append}
use Rattle.flow_filter.specs.Condition.{passing, row_passes}
use Rattle.label_lookup.specs.Labelling.{label_where}
use Rattle.flow_files.specs.Reports.{labelling_found}
use Rattle.flow_files.specs.declared.bytes_fault.BytesFault.{BytesFault}
use Rattle.flow_files.specs.declared.bytes_fault.BytesFault.TheVariants.{Sum as InSum}
use Rattle.flow_files.specs.declared.bytes_fault.SumFault.{SumFault}
use Rattle.flow_files.specs.declared.bytes_fault.SumFaultKind.{SumFaultKind}
use Rattle.flow_files.specs.declared.bytes_fault.SumFaultKind.TheVariants.{SkippedSet, StartTooLate, TooManyRows}
use Rattle.flow_many.specs.Files.{Refusal, first_refusal}
use Rattle.flow_many.specs.Output.{all_messages, is_late, message_limit, refused}
use Rattle.flow_many.specs.Reading.{HasPassed, HasSummed, HasSummedFiles, IsSameSum, count_in, placed_rows, refusal_of_sums}
use Rattle.flow_many.specs.declared.summing.Sums.{Sums}
use Rattle.flow_many.specs.declared.summing.TimedGroups.{TimedGroups}
use Rattle.flow_many.proofs.FilesLemmas.{count_more, refusal_more}

-- the rows of a File's messages and one more
pub one_message_more : (messages : List Placed) (message : Placed)
    → placed_rows (messages ++ message ∷ []) ≡ placed_rows messages ++ rows_of_sets message.1.sets
one_message_more messages message =
    ap rows_of_messages (map-append (λ (m : Placed). m.1) messages (message ∷ []))
    ∙ messages-rows (map (λ (m : Placed). m.1) messages) (message.1 ∷ [])
    ∙ ap (λ sets. placed_rows messages ++ rows_of_sets sets) (append-nil message.1.sets)

-- the rows of Files and one more
pub one_file_more : (files : List (List Placed)) (messages : List Placed)
    → rows_of_messages (all_messages (files ++ messages ∷ [])) ≡ rows_of_messages (all_messages files) ++ placed_rows messages
one_file_more files messages =
    ap (λ placed. rows_of_messages (map (λ (m : Placed). m.1) placed))
    (flat_map-append (λ (file : List Placed). file) files (messages ∷ []) ∙ ap (λ last. flat_map (λ (file : List Placed). file) files ++ last) (append-nil messages))
    ∙ ap rows_of_messages (map-append (λ (m : Placed). m.1) (flat_map (λ (file : List Placed). file) files) messages)
    ∙ messages-rows (all_messages files) (map (λ (m : Placed). m.1) messages)

-- a message that is refused whatever its rows are is refused
choice_some : (p q late : Bool) (kind : SumFaultKind) → (if p then Some SkippedSet else if q then Some TooManyRows else None) ≡ Some kind
    → (if p then Some SkippedSet else if q then Some TooManyRows else if late then Some StartTooLate else None) ≡ Some kind
choice_some true q late kind is = is
choice_some false true late kind is = is
choice_some false false late kind is = cc

choice_none : (p q late : Bool) → (if p then Some SkippedSet else if q then Some TooManyRows else None) ≡ None
    → ((if p then Some SkippedSet else if q then Some TooManyRows else if late then Some StartTooLate else None) ≡ (if late then Some StartTooLate else None)) × (q ≡ false)
choice_none true q late is = cc
choice_none false true late is = cc
choice_none false false late is = (refl, refl)

-- a row that starts late is among the rows of the last message, if none was before
only_last : (t a b : Bool) → (t && a) ≡ false → (t && (a || b)) ≡ (t && b)
only_last true true b none = cc
only_last true false b none = refl
only_last false a b none = refl

-- the same rows have passed the filter of sums that differ in other parts
pub passed_by : (these those : Sums) (first now : TimedGroups) (rows : List RowView) → those.filter ≡ these.filter → those.labels ≡ these.labels
    → HasPassed these first rows now → HasPassed those first rows now
passed_by these those first now rows filter labels had = rw (filter, labels) had

module _ (start now : Sums) (messages : List Placed) (message : Placed) (has : HasSummed start messages now) where
  -- a message was refused before
  pub refused_before : (fault : SumFault) → now.fault ≡ Some fault → HasSummed start (messages ++ message ∷ []) now
  refused_before fault is = record {
    same = has.same;
    fault =
        let before : first_refusal (refusal_of_sums start) start.messages messages ≡ Some (InSum fault) = sym has.fault ∙ ap (option_map (λ f. InSum f)) is in
        has.fault ∙ before ∙ sym (refusal_more (refusal_of_sums start) start.messages messages message
        ∙ ap (λ o. option_or o (refusal_of_sums start (start.messages + length messages) message)) before);
    count = λ none. cc;
    limit = has.limit;
    some = has.some;
    early = λ none. cc;
    more = λ none. cc;
    few = λ none. cc;
  }

  -- the messages before have no fault
  module _ (none : now.fault ≡ None) where
    none_before : first_refusal (refusal_of_sums start) start.messages messages ≡ None
    none_before = sym has.fault ∙ ap (option_map (λ f. InSum f)) none

    -- the fault of this message is the first one
    first_is : (o : Option BytesFault) → refusal_of_sums start now.messages message ≡ o
        → first_refusal (refusal_of_sums start) start.messages (messages ++ message ∷ []) ≡ o
    first_is o is =
        refusal_more (refusal_of_sums start) start.messages messages message
        ∙ ap (λ first. option_or first (refusal_of_sums start (start.messages + length messages) message)) none_before
        ∙ ap (λ n. refusal_of_sums start n message) (sym (has.count none)) ∙ is

    allowed_is : refused now.allow_skipped now.messages message.1 false ≡ refused start.allow_skipped now.messages message.1 false
    allowed_is = ap (λ a. refused a now.messages message.1 false) has.same.allowed

    -- the message is refused
    pub refused_now : (kind : SumFaultKind) → refused now.allow_skipped now.messages message.1 false ≡ Some kind
        → HasSummed start (messages ++ message ∷ []) (record now { fault = Some (record { kind = kind; offset = message.0 }) })
    refused_now kind is = record {
      same = record { filter = has.same.filter; labels = has.same.labels; allowed = has.same.allowed; timed = has.same.timed };
      fault = sym (first_is _ (ap (option_map (λ k. InSum (record { kind = k; offset = message.0 })))
          (choice_some _ _ _ kind (sym allowed_is ∙ is))));
      count = λ none. cc;
      limit = has.limit;
      some = has.some;
      early = λ none. cc;
      more = λ none. cc;
      few = λ none. cc;
    }

    -- there is room for the rows of the message, if it isn't refused whatever its rows are
    module _ (taken : refused now.allow_skipped now.messages message.1 false ≡ None) where
      pub below : now.messages < message_limit
      below = let over : nat_le message_limit now.messages ≡ false = (choice_none _ _ false taken).1 in grind (arith, nat_tests)

      pub room : (origin : TimedGroups) × (rows : List RowView) × HasPassed now origin rows now.rows × (length rows + 131070 < 18446744073709551616)
      room =
          let (origin, rows, had, few) = has.some in (
            origin,
            rows ++ placed_rows messages,
            passed_by start now origin now.rows (rows ++ placed_rows messages) has.same.filter has.same.labels (has.more none origin rows had),
            omega (arith, few, has.few none, has.count none, below, length-append rows (placed_rows messages)),
          )

      -- the rows of the message were added
      module _ (taker : TimedGroups) (few : length (rows_of_sets message.1.sets) ≤ 131070)
          (adds : (first : TimedGroups) (rows : List RowView) → HasPassed now first rows now.rows
          → HasPassed now first (rows ++ rows_of_sets message.1.sets) taker) where
        shown : List RowView
        shown = passing start.filter.now (labelling_found start.labels) (rows_of_sets message.1.sets)

        -- the rows before, and these
        more_rows : (first : TimedGroups) (rows : List RowView) → HasPassed start first rows start.rows
            → HasPassed start first ((rows ++ placed_rows messages) ++ rows_of_sets message.1.sets) taker
        more_rows first rows had =
            passed_by now start first taker ((rows ++ placed_rows messages) ++ rows_of_sets message.1.sets) (sym has.same.filter) (sym has.same.labels)
            (adds first (rows ++ placed_rows messages) (passed_by start now first now.rows (rows ++ placed_rows messages) has.same.filter has.same.labels
            (has.more none first rows had)))

        late_is : taker.late ≡ (start.rows.timed && list_any is_late shown)
        unfolding shown
        late_is =
            let (origin, rows, had, _) = has.some in
            let before = has.more none origin rows had in
            let after = more_rows origin rows had in
            let test = row_passes start.filter.now (label_where (labelling_found start.labels)) in
            let early : (origin.timed && list_any is_late (passing start.filter.now (labelling_found start.labels) (rows ++ placed_rows messages))) ≡ false =
            sym before.late ∙ has.early none in
            after.late
            ∙ ap (λ all. origin.timed && list_any is_late all) (filter-append test (rows ++ placed_rows messages) (rows_of_sets message.1.sets))
            ∙ ap (λ b. origin.timed && b) (list_any-append is_late (passing start.filter.now (labelling_found start.labels) (rows ++ placed_rows messages)) shown)
            ∙ only_last origin.timed _ _ early
            ∙ ap (λ t. t && list_any is_late shown) (sym had.timed)

        refusal_is : (late : Bool) → taker.late ≡ late
            → refusal_of_sums start now.messages message ≡ option_map (λ k. InSum (record { kind = k; offset = message.0 })) (if late then Some StartTooLate else None)
        unfolding shown
        refusal_is late is =
            ap (option_map (λ k. InSum (record { kind = k; offset = message.0 })))
            ((choice_none _ _ (start.rows.timed && list_any is_late shown) (sym allowed_is ∙ taken)).0
            ∙ ap (λ b. if b then Some StartTooLate else None) (sym late_is ∙ is))

        more_messages : (rows : List RowView) → (rows ++ placed_rows messages) ++ rows_of_sets message.1.sets ≡ rows ++ placed_rows (messages ++ message ∷ [])
        more_messages rows = append_assoc rows (placed_rows messages) (rows_of_sets message.1.sets) ∙ ap (λ m. rows ++ m) (sym (one_message_more messages message))

        same_sums : (fault : Option SumFault) → taker.timed ≡ start.rows.timed → IsSameSum start (record now { rows = taker; messages = now.messages + 1; fault = fault })
        same_sums fault timed = record { filter = has.same.filter; labels = has.same.labels; allowed = has.same.allowed; timed = timed }

        timed_is : taker.timed ≡ start.rows.timed
        timed_is = let (origin, rows, had, _) = has.some in (more_rows origin rows had).timed ∙ sym had.timed

        pub added_late : taker.late ≡ true → HasSummed start (messages ++ message ∷ [])
            (record now { rows = taker; messages = now.messages + 1; fault = Some (record { kind = StartTooLate; offset = message.0 }) })
        added_late is = record {
          same = same_sums _ timed_is;
          fault = sym (first_is _ (refusal_is true is));
          count = λ none. cc;
          limit = omega (arith, below);
          some = has.some;
          early = λ none. cc;
          more = λ none. cc;
          few = λ none. cc;
        }

        pub added : taker.late ≡ false → HasSummed start (messages ++ message ∷ [])
            (record now { rows = taker; messages = now.messages + 1; fault = now.fault })
        added is = record {
          same = same_sums _ timed_is;
          fault = ap (option_map (λ f. InSum f)) none ∙ sym (first_is _ (refusal_is false is));
          count = λ none. omega (arith, has.count none, length-append messages (message ∷ []));
          limit = omega (arith, below);
          some = has.some;
          early = λ none. is;
          more = λ none first rows had. subst (λ (all : List RowView). HasPassed start first all taker) (more_messages rows) (more_rows first rows had);
          few = λ none.
              omega (
                arith,
                few,
                has.few none,
                ap length (one_message_more messages message),
                length-append (placed_rows messages) (rows_of_sets message.1.sets),
                length-append messages (message ∷ []),
              );
        }

-- whether there is a value
pub value_is : {A : Type 0} (o : Option A) → is_some o ≡ true → (x : A) × (o ≡ Some x)
value_is (Some x) there = (x, refl)
value_is None there = cc

pub none_is : {A : Type 0} (o : Option A) → is_some o ≡ false → o ≡ None
none_is None there = refl
none_is (Some x) there = cc

-- The messages of whole Files.
module _ (first now : Sums) (files : List (List Placed)) (has : HasSummedFiles first files now) where
  pub ready_for_file : HasSummed now [] now
  ready_for_file = record {
    same = record { filter = refl; labels = refl; allowed = refl; timed = refl };
    fault = ap (option_map (λ f. InSum f)) has.fault;
    count = λ none. omega arith;
    limit = has.limit;
    some = (
      first.rows,
      rows_of_messages (all_messages files),
      passed_by first now first.rows now.rows (rows_of_messages (all_messages files)) has.same.filter has.same.labels has.rows,
      omega (arith, has.few, has.count),
    );
    early = λ none. has.early;
    more = λ none origin rows had. subst (λ (all : List RowView). HasPassed now origin all now.rows) (sym (append-nil rows)) had;
    few = λ none. omega arith;
  }

-- the messages of a File were added, and none was refused
pub one_file : (first start now : Sums) (files : List (List Placed)) (messages : List Placed) → HasSummedFiles first files start
    → HasSummed start messages now → now.fault ≡ None → HasSummedFiles first (files ++ messages ∷ []) now
one_file first start now files messages before has none =
    let rows = rows_of_messages (all_messages files) in
    let more : HasPassed start first.rows (rows ++ placed_rows messages) now.rows =
    has.more none first.rows rows (passed_by first start first.rows start.rows rows before.same.filter before.same.labels before.rows) in
    record {
      same = record {
        filter = has.same.filter ∙ before.same.filter;
        labels = has.same.labels ∙ before.same.labels;
        allowed = has.same.allowed ∙ before.same.allowed;
        timed = has.same.timed ∙ before.same.timed;
      };
      fault = none;
      early = has.early none;
      count = omega (arith, has.count none, before.count, count_more files messages);
      limit = has.limit;
      rows =
          subst (λ (all : List RowView). HasPassed first first.rows all now.rows) (sym (one_file_more files messages))
          (passed_by start first first.rows now.rows (rows ++ placed_rows messages) (sym before.same.filter) (sym before.same.labels) more);
      few =
          omega (
            arith,
            before.few,
            has.few none,
            count_more files messages,
            ap length (one_file_more files messages),
            length-append rows (placed_rows messages),
          );
    }

-- what the sums refuse is what they refused at first
pub refusal_is_same : (first now : Sums) → IsSameSum first now → refusal_of_sums now ≡ refusal_of_sums first
refusal_is_same first now same = rw (same.filter, same.labels, same.allowed, same.timed) refl

-- the fault of the sums is that of the File
pub file_ends : (first start now : Sums) (files : List (List Placed)) (messages : List Placed) → HasSummedFiles first files start
    → HasSummed start messages now → option_map (λ f. InSum f) now.fault ≡ first_refusal (refusal_of_sums first) (count_in files) messages
file_ends first start now files messages before has =
    has.fault
    ∙ ap (λ (r : Refusal). first_refusal r start.messages messages) (refusal_is_same first start before.same)
    ∙ ap (λ n. first_refusal (refusal_of_sums first) n messages) before.count
