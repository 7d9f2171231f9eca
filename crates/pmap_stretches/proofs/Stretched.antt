-- Building the stretches of statements, one after another.
use Rattle.std.proofs.Common.{◌≡◌, ◌≢◌, ◌∙◌, ℕ, ◌+◌, ◌-◌, ◌^◌, ◌<◌, ◌≤◌, inl, inr, Bool, true, false, List, [], ◌∷◌, Option, Some, None, All, get_or, length, option_map, refl, sym, ap, subst, arith}
use Rattle.std.specs.Option.{ForSome}
use Rattle.std.proofs.lemmas.Bool.{cases_lt}
use Rattle.std.proofs.lemmas.List.{get_or_default}
use Rattle.std.proofs.lemmas.Option.{same_Some}
use Rattle.prefix_keys.specs.Block.{width_of}
use Rattle.pmap_model.specs.MapModel.{Label}
use Rattle.pmap_stretches.specs.Stretches.{AreLabelsBelow, HasEveryAddress, StretchesModel, first_at, label_at, label_seen, last_at, text_held}
use Rattle.pmap_model.specs.declared.label.LabelId.{LabelId}
use Rattle.pmap_stretches.specs.Sweep.{AreAlike, AreStretchesTo, AreSwept, HasTop, HaveLabelsWon, IsBegin, IsWinner, last_first, statement_won, top_of}
use Rattle.pmap_model.specs.declared.statement.Statement.{Statement}
use Rattle.pmap_stretches.specs.declared.stretches.growing.Growing.{Growing}
use Rattle.pmap_stretches.proofs.Layers.{last-within, stretches-few}
use Rattle.pmap_stretches.proofs.Ranges.{Adds, first_early, first_late, held_index, holder, label_early, label_late, last_early, last_end, last_late, length_added, next_first, ordered_at}
use Rattle.pmap_stretches.proofs.Seen.{seen_at}
use Rattle.pmap_stretches.proofs.Winners.{known_won, stretch_of, winner_one, winner_text, winners_apart, text_won}

number_one : (x y : Option LabelId) → option_map (λ id. id.0) x ≡ option_map (λ id. id.0) y → x ≡ y
number_one None None e = refl
number_one None (Some y) e = absurd (let h : None ≡ Some y.0 = e in cc)
number_one (Some x) None e = absurd (let h : Some x.0 ≡ None = e in cc)
number_one (Some x) (Some y) e = ap (λ n. Some (record { 0 = n })) (same_Some x.0 y.0 e)

module _ (ss : List Statement) (default : Option LabelId) where
  -- the numbers determine the labels
  top_label : (joins : Bool) (t u : Option ℕ) (x y : Option LabelId) (a b : ℕ) → HasTop ss default joins t x a → HasTop ss default joins u y b
      → t ≡ u → x ≡ y
  top_label true t u x y a b has other same = number_one x y (sym has.top_is ∙ same ∙ other.top_is)
  top_label false t u x y a b has other same =
      has.label_is ∙ ap (λ won. label_seen default (statement_won ss won)) (sym has.top_is ∙ same ∙ other.top_is) ∙ sym other.label_is

  -- an address has one label
  label_one : (joins : Bool) (t u : Option ℕ) (x y : Option LabelId) (a : ℕ) → HasTop ss default joins t x a → HasTop ss default joins u y a → x ≡ y
  label_one joins t u x y a has other =
      has.label_is ∙ ap (λ won. label_seen default (statement_won ss won)) (winner_one ss a has.won other.won has.wins other.wins) ∙ sym other.label_is

  -- where a stretch begins another statement is seen
  begin_seen : (joins : Bool) (a : ℕ) → IsBegin ss default joins a → (table : List Label) → seen_at table ss (a - 1) ≢ seen_at table ss a
  begin_seen joins a begin table =
      winners_apart table ss (a - 1) a begin.has.won begin.next_has.won begin.has.wins begin.next_has.wins
      (λ same. begin.other (top begin.next begin.next_label a begin.next_has ∙ ap top_won (sym same) ∙ sym (top begin.top begin.label (a - 1) begin.has)))
    where
      top_won : Option ℕ → Option ℕ
      top_won won = top_of joins won (label_seen default (statement_won ss won))

      top : (t : Option ℕ) (x : Option LabelId) (b : ℕ) (has : HasTop ss default joins t x b) → t ≡ top_won has.won
      top t x b has = has.top_is ∙ ap (top_of joins has.won) has.label_is

  alike : (joins : Bool) (f g l k : ℕ) (x y : Option LabelId) → g ≡ f → k ≡ l → y ≡ x → AreAlike ss default joins x f l → AreAlike ss default joins y g k
  alike joins f g l k x y first last label are = rw (first, last, label) are

  -- the first one begins at 0
  pub stretches_from : (g : Growing) (label : Option LabelId) → HasEveryAddress g.stretches → g.stretches.firsts ≡ 0 ∷ []
      → g.stretches.labels ≡ label ∷ [] → ((a : ℕ) → 0 ≤ a → a ≤ g.last → HasTop ss default g.joined g.top label a) → AreStretchesTo ss default g
  stretches_from g label every firsts labels has =
      let one : length g.stretches.firsts ≡ 1 = ap (λ (l : List ℕ). length l) firsts in
      let zero : last_first g.stretches ≡ 0 = ap (λ (n : ℕ). first_at g.stretches (n - 1)) one ∙ every.zero in
      record {
        every = every;
        each = λ i more. absurd (omega (arith, more, one));
        begins = λ i some below. absurd (omega (arith, some, below, one));
        from = omega (arith, zero);
        last_each = λ a from to.
            subst (λ x. HasTop ss default g.joined g.top x a) (sym (ap (λ (n : ℕ). label_at g.stretches (n - 1)) one ∙ label_first g.stretches.labels labels))
            (has a (omega arith) to);
      }
    where
      label_first : (l : List (Option LabelId)) → l ≡ label ∷ [] → get_or l 0 None ≡ label
      label_first l is = rw is refl

  module _ (g : Growing) (are : AreStretchesTo ss default g) (top : Option ℕ) (label : Option LabelId) (last : ℕ) (more : g.last + 1 ≤ last)
      (has : (a : ℕ) → g.last + 1 ≤ a → a ≤ last → HasTop ss default g.joined top label a) where
    -- the last one goes on
    pub stretches_longer : top ≡ g.top → AreStretchesTo ss default (record g { last = last })
    stretches_longer same = record {
      every = are.every;
      each = are.each;
      begins = are.begins;
      from = omega (arith, are.from, more);
      last_each = λ a from to. elim (cases_lt g.last a) [
        | inl above ↦
            let here = has a (omega (arith, above)) to in
            let label_is = top_label g.joined top g.top label _ a g.last here (are.last_each g.last are.from (omega arith)) same in
            rw (sym same, sym label_is) here
        | inr below ↦ are.last_each a from below
      ];
    }

    -- another one begins
    pub stretches_more : (s : StretchesModel) → HasEveryAddress s → Adds g.stretches (g.last + 1) label s → top ≢ g.top
        → AreStretchesTo ss default (record { stretches = s; top = top; last = last; joined = g.joined })
    stretches_more s every adds other =
        let longer = length_added g.stretches (g.last + 1) label s are.every adds in
        let first : last_first s ≡ g.last + 1 = first_late g.stretches (g.last + 1) label s are.every adds (length s.firsts - 1) (omega (arith, longer)) in
        record {
          every = every;
          each = λ i within. elim (cases_lt (i + 1) (length g.stretches.firsts)) [
            | inl early ↦
                alike g.joined _ _ _ _ _ _ (first_early g.stretches (g.last + 1) label s are.every adds i (omega (arith, early)))
                (last_early g.stretches (g.last + 1) label s are.every adds i early)
                (label_early g.stretches (g.last + 1) label s are.every adds i (omega (arith, early))) (are.each i early)
            | inr late ↦
                let here : i + 1 ≡ length g.stretches.firsts = omega (arith, late, within, longer) in
                let place : i ≡ length g.stretches.firsts - 1 = omega (arith, here) in
                let below : i < length g.stretches.firsts = omega (arith, here) in
                alike g.joined (last_first g.stretches) _ g.last _ _ _
                (first_early g.stretches (g.last + 1) label s are.every adds i below ∙ ap (first_at g.stretches) place)
                (last_late g.stretches (g.last + 1) label s are.every adds i here ∙ omega arith)
                (label_early g.stretches (g.last + 1) label s are.every adds i below ∙ ap (label_at g.stretches) place) (g.top, are.last_each)
          ];
          begins = λ i some within. elim (cases_lt i (length g.stretches.firsts)) [
            | inl early ↦
                subst (IsBegin ss default g.joined) (sym (first_early g.stretches (g.last + 1) label s are.every adds i early)) (are.begins i some early)
            | inr late ↦
                subst (IsBegin ss default g.joined) (sym (first_late g.stretches (g.last + 1) label s are.every adds i (omega (arith, late, within, longer))))
                begins
          ];
          from = omega (arith, first, more);
          last_each = λ a from to.
              subst (λ x. HasTop ss default g.joined top x a)
              (sym (label_late g.stretches (g.last + 1) label s are.every adds (length s.firsts - 1) (omega (arith, longer)))) (has a (omega (arith, first, from)) to);
        }
      where
        begins : IsBegin ss default g.joined (g.last + 1)
        begins = record {
          top = g.top;
          label = label_at g.stretches (length g.stretches.firsts - 1);
          has = are.last_each (g.last + 1 - 1) (omega (arith, are.from)) (omega arith);
          next = top;
          next_label = label;
          next_has = has (g.last + 1) (omega arith) more;
          other = other;
        }

  all_swept : (joins : Bool) (s : StretchesModel) → HasEveryAddress s
      → ((i : ℕ) → i < length s.firsts → AreAlike ss default joins (label_at s i) (first_at s i) (last_at s i))
      → ((i : ℕ) → 0 < i → i < length s.firsts → IsBegin ss default joins (first_at s i)) → AreSwept joins ss default s
  all_swept false s every each begins = record {
    every = every;
    each = λ i below.
        let (top, has) = each i below in
        stretch_of (width_of s.version) ss default (first_at s i) (last_at s i) top (label_at s i) (ordered_at s every i below) (last-within s every i below)
        (λ a from to. subst (IsWinner ss a) (sym (has a from to).top_is) (has a from to).wins)
        (λ some. begin_seen false (first_at s i) (begins i (elim (cases_lt 0 i) [
          | inl later ↦ later
          | inr none ↦ absurd (let zero : first_at s i ≡ first_at s 0 = ap (first_at s) (let e : i ≡ 0 = omega (arith, none) in e) in omega (arith, some, zero, every.zero))
        ]) below))
        (λ inside. elim (cases_lt (i + 1) (length s.firsts)) [
          | inl more ↦ λ table same.
              let next = next_first s every i more in
              begin_seen false (first_at s (i + 1)) (begins (i + 1) (omega arith) more) table
              (ap (seen_at table ss) (let here : first_at s (i + 1) - 1 ≡ last_at s i = omega (arith, next) in here) ∙ same ∙ ap (seen_at table ss) (sym next))
          | inr end ↦ absurd (omega (arith, last_end s i end, inside))
        ])
        (let here = has (first_at s i) (omega arith) (ordered_at s every i below) in here.label_is ∙ ap (λ won. label_seen default (statement_won ss won)) (sym here.top_is));
  }
  all_swept true s every each begins = record {
    every = every;
    few = stretches-few ss s every (λ i some below. begin_seen true (first_at s i) (begins i some below) []);
    joined = λ i more same.
        let begin = begins (i + 1) (omega arith) more in
        let next = next_first s every i more in
        let before = (each i (omega (arith, more))).1 (first_at s (i + 1) - 1) (omega (arith, next, ordered_at s every i (omega (arith, more)))) (omega (arith, next)) in
        let here = (each (i + 1) more).1 (first_at s (i + 1)) (omega arith) (ordered_at s every (i + 1) more) in
        let label = label_one true _ _ _ _ _ begin.has before in
        let next_label = label_one true _ _ _ _ _ begin.next_has here in
        begin.other (begin.next_has.top_is ∙ ap (option_map (λ id. id.0)) (next_label ∙ same ∙ sym label) ∙ sym begin.has.top_is);
  }

  module _ (g : Growing) (are : AreStretchesTo ss default g) (end : g.last + 1 ≡ 2 ^ width_of g.stretches.version) where
    each_alike : (i : ℕ) → i < length g.stretches.firsts
        → AreAlike ss default g.joined (label_at g.stretches i) (first_at g.stretches i) (last_at g.stretches i)
    each_alike i below = elim (cases_lt (i + 1) (length g.stretches.firsts)) [
      | inl early ↦ are.each i early
      | inr late ↦
          let place : i ≡ length g.stretches.firsts - 1 = omega (arith, late, below) in
          alike g.joined (last_first g.stretches) _ g.last _ _ _ (ap (first_at g.stretches) place) (last_end g.stretches i late ∙ omega (arith, end))
          (ap (label_at g.stretches) place) (g.top, are.last_each)
    ]

    -- all stretches are there
    pub stretches_all : AreSwept g.joined ss default g.stretches
    stretches_all = all_swept g.joined g.stretches are.every each_alike are.begins

    pub labels_won : HaveLabelsWon ss default g.stretches
    labels_won = record {
      every = are.every;
      each = λ a fits.
          let holds = holder g.stretches are.every a fits in
          let has = (each_alike _ holds.index).1 a holds.from holds.to in
          (has.won, has.wins, has.label_is);
    }

-- the labels of stretches are known if those of the statements and the default are, and their texts are those that the
-- statements have
module _ (ss : List Statement) (default : Option LabelId) (s : StretchesModel) (won : HaveLabelsWon ss default s) where
  pub won_known : (count : ℕ) → All (λ s. s.label.0 < count) ss → ForSome default (λ id. id.0 < count) → AreLabelsBelow count s
  won_known count known fallback i d within =
      let below : i < length s.firsts = omega (arith, within, won.every.paired) in
      let first = won.each (first_at s i) (won.every.within i below) in
      let at = held_index s won.every (first_at s i) i (record { index = below; from = omega arith; to = ordered_at s won.every i below }) in
      let same : get_or s.labels i d ≡ label_at s i = get_or_default s.labels i d None within in
      rw same (known_won count ss default first.0 (label_at s i) known fallback (sym (ap (label_at s) at) ∙ first.2))

  pub won_text : (table : List Label) → All (λ s. s.label.0 < length table) ss → ForSome default (λ id. id.0 < length table)
      → (a : ℕ) → a < 2 ^ width_of s.version → text_held table s a ≡ text_won table default ss a
  won_text table known fallback a fits =
      let (top, wins, label) = won.each a fits in
      rw label (sym (winner_text table ss default a top wins known fallback))
