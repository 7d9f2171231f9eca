-- The statement that wins at an address, by its number, and as contracts see it.
use Rattle.std.proofs.Common.{◌≡◌, ◌≢◌, ◌∙◌, ℕ, ◌+◌, ◌-◌, ◌^◌, ◌<◌, ◌≤◌, Bool, true, false, not, List, Some, None, Option, All, Contains, length, option_and_then, option_map, slice_get, refl, sym, ap, subst, arith}
use Rattle.std.specs.Option.{ForSome, option_eq, option_or}
use Rattle.std.specs.Prelude.{nat_eq}
use Rattle.std.proofs.lemmas.Bool.{eq-eqb, eqb-true}
use Rattle.std.proofs.lemmas.List.Elements.{All-contains}
use Rattle.std.proofs.lemmas.Option.{get_or_from_slice_get, same_Some, slice_get_within}
use Rattle.pmap_model.specs.MapModel.{Label, Mapping, last_such, spans}
use Rattle.pmap_model.specs.MapText.{mapping_of, text_at, mappings_of}
use Rattle.pmap_model.specs.declared.statement.Statement.{Statement}
use Rattle.pmap_model.specs.declared.label.LabelId.{LabelId}
use Rattle.pmap_stretches.specs.Stretches.{HasStretch, label_seen}
use Rattle.pmap_stretches.specs.Sweep.{IsWinner, statement_won}
use Rattle.pmap_stretches.proofs.Orders.{known_text}
use Rattle.pmap_stretches.proofs.Seen.{none_at, seen_at, seen_last}

-- the label text that statements give an address: that of the statement that wins there, otherwise the default's
abbrev pub text_won : List Label → Option LabelId → List Statement → ℕ → Option Label
text_won table default ss a =
    option_or (option_map (λ m. m.label) (last_such (spans a) (mappings_of table ss))) (option_map (λ id. text_at table id.0) default)

-- the statement that is seen is the one that wins
pub winner_seen : (table : List Label) (ss : List Statement) (a : ℕ) (won : Option ℕ) → IsWinner ss a won
    → seen_at table ss a ≡ option_map (mapping_of table) (statement_won ss won)
winner_seen table ss a None wins =
    none_at table ss a (λ i r listed low high. wins.most i (record { statement = r; listed = listed; low = low; high = high }))
winner_seen table ss a (Some j) wins =
    let covers = wins.covers j refl in
    let listed = covers.listed in
    rw listed (seen_last table ss a j covers.statement covers.listed covers.low covers.high
    (λ i r at later low high.
    let most : i ≤ j = wins.most i (record { statement = r; listed = at; low = low; high = high }) in
    omega (arith, most, later)))

-- two winners are seen as two, even if their statements are equal: of two equal statements the earlier one never wins
pub winners_apart : (table : List Label) (ss : List Statement) (a b : ℕ) (v w : Option ℕ) → IsWinner ss a v → IsWinner ss b w → v ≢ w
    → seen_at table ss a ≢ seen_at table ss b
winners_apart table ss a b None None first second other same = other refl
winners_apart table ss a b None (Some j) first second other same =
    let listed = (second.covers j refl).listed in
    let seen : None ≡ Some (mapping_of table (second.covers j refl).statement) =
    sym (winner_seen table ss a None first) ∙ same ∙ winner_seen table ss b (Some j) second ∙ ap (option_map (mapping_of table)) listed in
    absurd cc
winners_apart table ss a b (Some i) None first second other same =
    let listed = (first.covers i refl).listed in
    let seen : Some (mapping_of table (first.covers i refl).statement) ≡ None =
    sym (winner_seen table ss a (Some i) first ∙ ap (option_map (mapping_of table)) listed) ∙ same ∙ winner_seen table ss b None second in
    absurd cc
winners_apart table ss a b (Some i) (Some j) first second other same =
    let x = first.covers i refl in
    let y = second.covers j refl in
    let mapping : mapping_of table x.statement ≡ mapping_of table y.statement =
    same_Some (mapping_of table x.statement) (mapping_of table y.statement)
    (sym (winner_seen table ss a (Some i) first ∙ ap (option_map (mapping_of table)) x.listed) ∙ same
    ∙ winner_seen table ss b (Some j) second ∙ ap (option_map (mapping_of table)) y.listed) in
    let low : x.statement.span.low.value ≡ y.statement.span.low.value = ap (λ (m : Mapping). m.low) mapping in
    let high : x.statement.span.high.value ≡ y.statement.span.high.value = ap (λ (m : Mapping). m.high) mapping in
    let up : j ≤ i = first.most j (record { statement = y.statement; listed = y.listed; low = omega (arith, low, x.low); high = omega (arith, high, x.high) }) in
    let down : i ≤ j = second.most i (record { statement = x.statement; listed = x.listed; low = omega (arith, low, y.low); high = omega (arith, high, y.high) }) in
    other (ap (λ (k : ℕ). Some k) (omega (arith, up, down)))

-- the statement with the number is one of them
listed_won : (ss : List Statement) (won : Option ℕ) (s : Statement) → statement_won ss won ≡ Some s → Contains ss s
listed_won ss None s is = absurd (let h : None ≡ Some s = is in cc)
listed_won ss (Some j) s is = (j, slice_get_within ss j s is, get_or_from_slice_get ss j s s is)

-- one statement wins at an address
pub winner_one : (ss : List Statement) (a : ℕ) (v w : Option ℕ) → IsWinner ss a v → IsWinner ss a w → v ≡ w
winner_one ss a None None first second = refl
winner_one ss a None (Some j) first second = absurd (first.most j (second.covers j refl))
winner_one ss a (Some i) None first second = absurd (second.most i (first.covers i refl))
winner_one ss a (Some i) (Some j) first second =
    ap (λ (k : ℕ). Some k) (omega (arith, first.most j (second.covers j refl), second.most i (first.covers i refl)))

-- a stretch, if one statement wins there, and not at the address before, nor at the one after
pub stretch_of : (W : ℕ) (ss : List Statement) (default : Option LabelId) (first last : ℕ) (won : Option ℕ) (label : Option LabelId)
    → first ≤ last → last < 2 ^ W → ((a : ℕ) → first ≤ a → a ≤ last → IsWinner ss a won)
    → (0 < first → (table : List Label) → seen_at table ss (first - 1) ≢ seen_at table ss first)
    → (last + 1 < 2 ^ W → (table : List Label) → seen_at table ss last ≢ seen_at table ss (last + 1))
    → label ≡ label_seen default (statement_won ss won) → HasStretch W ss default first last label
stretch_of W ss default first last won label ordered fits wins before after label_is = record {
  ordered = ordered;
  within = fits;
  top = statement_won ss won;
  listed = listed_won ss won;
  label_is = label_is;
  stretch = λ m w is. record {
    ordered = ordered;
    within = rw w fits;
    same = λ a from to. rw is (winner_seen m.table ss a won (wins a from to));
    before = λ a at e.
        before (omega (arith, at)) m.table
        (ap (seen_at m.table ss) (let same : first - 1 ≡ a = omega (arith, at) in same)
        ∙ (rw is at e) ∙ sym (winner_seen m.table ss first won (wins first (omega arith) ordered)));
    after = λ more e.
        after (rw w at more) m.table (winner_seen m.table ss last won (wins last ordered (omega arith)) ∙ sym (rw is at e));
  };
}

-- the label of a stretch has a text, and that is the text of the statement that wins there, or of the default
pub known_label : (count : ℕ) (ss : List Statement) (default : Option LabelId) (top : Option Statement) → All (λ s. s.label.0 < count) ss
    → ForSome default (λ id. id.0 < count) → ((s : Statement) → top ≡ Some s → Contains ss s)
    → ForSome (label_seen default top) (λ id. id.0 < count)
known_label count ss default None known fallback listed = fallback
known_label count ss default (Some s) known fallback listed =
    λ id is. subst (λ (i : LabelId). i.0 < count) (same_Some s.label id is)
    (All-contains (λ (r : Statement). r.label.0 < count) ss s known (listed s refl))

pub known_won : (count : ℕ) (ss : List Statement) (default : Option LabelId) (won : Option ℕ) (label : Option LabelId) → All (λ s. s.label.0 < count) ss
    → ForSome default (λ id. id.0 < count) → label ≡ label_seen default (statement_won ss won) → ForSome label (λ id. id.0 < count)
known_won count ss default won label known fallback is = rw is (known_label count ss default (statement_won ss won) known fallback (listed_won ss won))

label_text : (table : List Label) (default : Option LabelId) (top : Option Statement) → ForSome (label_seen default top) (λ id. id.0 < length table)
    → option_or (option_map (λ m. m.label) (option_map (mapping_of table) top)) (option_map (λ id. text_at table id.0) default)
    ≡ option_and_then (λ id. slice_get table id.0) (label_seen default top)
label_text table None None known = refl
label_text table (Some id) None known = sym (known_text table id.0 (known id refl))
label_text table default (Some s) known = sym (known_text table s.label.0 (known s.label refl))

pub winner_text : (table : List Label) (ss : List Statement) (default : Option LabelId) (a : ℕ) (won : Option ℕ) → IsWinner ss a won
    → All (λ s. s.label.0 < length table) ss → ForSome default (λ id. id.0 < length table)
    → text_won table default ss a ≡ option_and_then (λ id. slice_get table id.0) (label_seen default (statement_won ss won))
winner_text table ss default a won wins known fallback =
    rw (winner_seen table ss a won wins)
    (label_text table default (statement_won ss won) (known_label (length table) ss default (statement_won ss won) known fallback (listed_won ss won)))

-- two numbers that a test finds to be different are different
pub differ : (v w : Option ℕ) → true ≡ not (option_eq nat_eq v w) → v ≢ w
differ None None e same = let h : true ≡ false = e in cc
differ None (Some y) e same = let h : None ≡ Some y = same in cc
differ (Some x) None e same = let h : Some x ≡ None = same in cc
differ (Some x) (Some y) e same =
    let h : true ≡ false = e ∙ ap not (eq-eqb x y (same_Some x y same)) in
    cc

not_false : (b : Bool) → false ≡ not b → b ≡ true
not_false true e = refl
not_false false e = absurd (let h : false ≡ true = e in cc)

pub agree : (v w : Option ℕ) → false ≡ not (option_eq nat_eq v w) → v ≡ w
agree None None e = refl
agree None (Some y) e = absurd (let h : false ≡ true = e in cc)
agree (Some x) None e = absurd (let h : false ≡ true = e in cc)
agree (Some x) (Some y) e = ap (λ (n : ℕ). Some n) (eqb-true x y (not_false (nat_eq x y) e))
