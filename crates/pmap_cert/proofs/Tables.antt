-- Label tables: the numbers of their labels, and their lines.
use Rattle.std.proofs.Common.{◌≡◌, ℕ, zero, suc, ◌+◌, ◌<◌, ◌≤◌, ◌∙◌, ◌&&◌, ◌==◌, Bool, true, false, not, List, [], ◌∷◌, ◌++◌, Option, None, Some, Result, Ok, Err, cond, filter, length, map, get_or, ok_or, option_and_then, option_map, slice_get, refl, sym, ap, subst, arith}
use Rattle.std.specs.List.{position_or_len}
use Rattle.std.specs.Str.{bytes_eq}
use Rattle.std.proofs.lemmas.Bool.{and_from, and_parts, both_ways, cond-true, eq-eqb, eqb-true, false_from_ne_true, not-true, not_from_false, ltb-true}
use Rattle.std.proofs.lemmas.List.{append-nil, append_assoc, get_or_at, length-append}
use Rattle.std.proofs.lemmas.List.Sums.{passes_at_first}
use Rattle.std.proofs.lemmas.Option.{cond_some, slice_get-get_or, unwrap_or-slice_get}
use Rattle.std.proofs.lemmas.Slice.Eq.{bytes_eq-Decides}
use Rattle.pmap_model.proofs.LabelTexts.{IsLabelTable-with_label, any_place, with_label-new}
use Rattle.pmap_model.specs.Label.{IsLabelTable, has_label, is_label}
use Rattle.pmap_model.specs.MapModel.{Label}
use Rattle.pmap_model.specs.Steps.{◌>>=◌}
use Rattle.pmap_model.specs.MapText.{text_at}
use Rattle.pmap_cert.specs.CertificateText.{IsAscending, place_of}
use Rattle.pmap_cert.specs.FormatReading.{Place, fault_at, labels_at, new_label, line_value, CertFault, CertFaultKind, BadLabelTable}
use Rattle.pmap_cert.proofs.Pieces.{found_at, line_from-cons}

-- if two steps succeed, the first has a value with which the second succeeds
pub bind_ok : {A B E : Type 0} (r : Result A E) (f : A → Result B E) (y : B) → (r >>= f) ≡ Ok y → (x : A) × (r ≡ Ok x) × (f x ≡ Ok y)
bind_ok (Ok x) f y e = (x, refl, e)
bind_ok (Err d) f y e = absurd cc

pub ok_is : {A E : Type 0} (x y : A) → ◌≡◌ {A = Result A E} (Ok x) (Ok y) → x ≡ y
ok_is x y e = cc

-- the label of the table with the number n has the number n
pub place_of-text_at : (table : List Label) (n : ℕ) → IsLabelTable table → n < length table → place_of table (text_at table n) ≡ n
place_of-text_at table n ok h =
    let text : Label = get_or table n [] in
    ap (place_of table) (unwrap_or-slice_get table n [])
    ∙ (found_at (bytes_eq text) table n (ok.places n text (slice_get-get_or table n [] h))).1

-- labels of a table are equal exactly if their numbers are
pub label-same : (table : List Label) (a b : ℕ) → IsLabelTable table → a < length table → b < length table → bytes_eq (text_at table a) (text_at table b) ≡ (a == b)
label-same table a b ok first second = by (a == b) refl
  where
    by : (q : Bool) → (a == b) ≡ q → bytes_eq (text_at table a) (text_at table b) ≡ q
    by true e = (bytes_eq-Decides (text_at table a) (text_at table b)).1 (ap (text_at table) (eqb-true a b e))
    by false e = false_from_ne_true (bytes_eq (text_at table a) (text_at table b)) (λ t.
        both_ways (a == b) e (eq-eqb a b
        (sym (place_of-text_at table a ok first) ∙ ap (place_of table) ((bytes_eq-Decides (text_at table a) (text_at table b)).0 t) ∙ place_of-text_at table b ok second)))

-- a label of the table is the label with its number
pub text_at-place_of : (table : List Label) (x : Label) → place_of table x < length table → text_at table (place_of table x) ≡ x
text_at-place_of table x h =
    unwrap_or-slice_get table (place_of table x) []
    ∙ sym ((bytes_eq-Decides x (get_or table (place_of table x) [])).0 (passes_at_first (bytes_eq x) table [] h))

pub places-texts : (table : List Label) (low : ℕ) (ns : List ℕ) → IsLabelTable table → IsAscending (length table) low ns → map (place_of table) (map (text_at table) ns) ≡ ns
places-texts table low [] ok ascending = refl
places-texts table low (n ∷ ns) ok ascending =
    λ i. place_of-text_at table n ok ascending.1 i ∷ places-texts table (n + 1) ns ok ascending.2 i

pub texts-places : (table : List Label) (low : ℕ) (xs : List Label) → IsAscending (length table) low (map (place_of table) xs) → map (text_at table) (map (place_of table) xs) ≡ xs
texts-places table low [] ascending = refl
texts-places table low (x ∷ xs) ascending =
    λ i. text_at-place_of table x ascending.1 i ∷ texts-places table (place_of table x + 1) xs ascending.2 i

-- the value of a line with the rest of the text, or the fault if the line has no such value
abbrev pub or_fault : {A : Type 0} → CertFault → Place → Option A → Result (A × Place) CertFault
or_fault fault after value = ok_or (option_map (λ x. (x, after)) value) fault

-- a value that is read is that of the next line, and the given rest follows
pub value_at-found : {A : Type 0} (kind : CertFaultKind) (value_of : List ℕ → Option A) (place : Place) (x : A × Place) → line_value kind value_of place ≡ Ok x
    → (line : List ℕ) × (place.pieces ≡ line ∷ x.1.pieces) × (value_of line ≡ Some x.0)
value_at-found kind value_of place x e = by place.number place.pieces e
  where
    by : (number : ℕ) (pieces : List (List ℕ)) → line_value kind value_of (record { number = number; pieces = pieces }) ≡ Ok x
        → (line : List ℕ) × (pieces ≡ line ∷ x.1.pieces) × (value_of line ≡ Some x.0)
    by number [] e = absurd cc
    by number (line ∷ []) e = absurd cc
    by number (line ∷ piece ∷ pieces) e = by_value (value_of line) refl
      where
        fault : CertFault
        fault = fault_at (record { number = number; pieces = [] }) kind

        by_value : (o : Option _) → value_of line ≡ o → (text : List ℕ) × (line ∷ piece ∷ pieces ≡ text ∷ x.1.pieces) × (value_of text ≡ Some x.0)
        by_value None h = absurd (failed (sym (ap (or_fault fault (record { number = number + 1; pieces = piece ∷ pieces })) h) ∙ e))
          where
            failed : ◌≡◌ {A = Result _ CertFault} (Err fault) (Ok x) → ⊥
            failed e = cc
        by_value (Some y) h =
            let same = ok_is (y, record { number = number + 1; pieces = piece ∷ pieces }) x (sym (ap (or_fault fault (record { number = number + 1; pieces = piece ∷ pieces })) h) ∙ e) in
            (line, ap (λ (z : _ × Place). line ∷ z.1.pieces) same, h ∙ ap (λ (z : _ × Place). Some z.0) same)

-- the value of a line is read if another piece follows
pub value_at-again : {A : Type 0} (kind : CertFaultKind) (value_of : List ℕ → Option A) (number : ℕ) (line : List ℕ) (rest : List (List ℕ)) (x : A) → value_of line ≡ Some x → 0 < length rest
    → line_value kind value_of (record { number = number; pieces = line ∷ rest }) ≡ Ok (x, record { number = number + 1; pieces = rest })
value_at-again kind value_of number line rest x e some =
    let fault = fault_at (record { number = number; pieces = line ∷ rest }) kind in
    ap (λ next. ok_or (option_and_then (λ n. option_map (λ x. (x, n.1)) (value_of n.0)) next) fault) (line_from-cons number line rest some)
    ∙ ap (or_fault fault (record { number = number + 1; pieces = rest })) e

-- a new label of a table is the line, a label, and not in the table
new_label-is : (table : List Label) (line : List ℕ) (x : Label) → new_label table line ≡ Some x → (line ≡ x) × (is_label x ≡ true) × (has_label table x ≡ false)
new_label-is table line x e =
    let found = cond_some (is_label line && not (has_label table line)) line x e in
    let tests = and_parts (is_label line) (not (has_label table line)) found.0 in
    subst (λ (x : Label). (line ≡ x) × (is_label x ≡ true) × (has_label table x ≡ false)) found.1 (refl, tests.0, not-true _ tests.1)

-- the table with a new label is a label table
pub table-new : (table : List Label) (line x : Label) → IsLabelTable table → length table < 65536 → new_label table line ≡ Some x → IsLabelTable (table ++ x ∷ [])
table-new table line x ok few e =
    let found = new_label-is table line x e in
    subst IsLabelTable (with_label-new table x found.2) (IsLabelTable-with_label table x ok found.1 few)

-- the labels that are read are those of the next lines, and the table with them is a label table
pub labels_at-found : (left : ℕ) (table : List Label) (place : Place) (x : List Label × Place) → labels_at left table place ≡ Ok x → IsLabelTable table → length table + left ≤ 65536
    → (new : List Label) × (x.0 ≡ table ++ new) × (place.pieces ≡ new ++ x.1.pieces) × IsLabelTable x.0 × (length new ≡ left)
labels_at-found zero table place x e ok few =
    subst (λ (x : List Label × Place). (new : List Label) × (x.0 ≡ table ++ new) × (place.pieces ≡ new ++ x.1.pieces) × IsLabelTable x.0 × (length new ≡ 0))
    (ok_is (table, place) x e) ([], sym (append-nil table), refl, ok, refl)
labels_at-found (suc left) table place x e ok few =
    let step = bind_ok (line_value BadLabelTable (new_label table) place) (λ (label : Label × Place). labels_at left (table ++ label.0 ∷ []) label.1) x e in
    let label : Label = step.0.0 in
    let read = value_at-found BadLabelTable (new_label table) place step.0 step.1 in
    let rest = labels_at-found left (table ++ label ∷ []) step.0.1 x step.2 (table-new table read.0 label ok (omega arith) read.2) (omega (arith, length-append table (label ∷ []))) in (
      label ∷ rest.0,
      rest.1 ∙ append_assoc table (label ∷ []) rest.0,
      read.1 ∙ (λ i. (new_label-is table read.0 label read.2).0 i ∷ rest.2 i),
      rest.3,
      omega (arith, rest.4),
    )

-- the first position that passes a test stays the same if more is appended
place-before : {X : Type 0} (p : X → Bool) (xs ys : List X) → position_or_len p xs < length xs → position_or_len p (xs ++ ys) ≡ position_or_len p xs
place-before p [] ys h = absurd (omega arith)
place-before p (x ∷ xs) ys h = by (p x) refl (λ less. place-before p xs ys less)
  where
    by : (b : Bool) → p x ≡ b → (position_or_len p xs < length xs → position_or_len p (xs ++ ys) ≡ position_or_len p xs) → position_or_len p (x ∷ (xs ++ ys)) ≡ position_or_len p (x ∷ xs)
    by true e rest = rw e refl
    by false e rest = rw e (ap (λ n. 1 + n) (rest (following (rw e at h))))
      where
        following : 1 + position_or_len p xs < length (x ∷ xs) → position_or_len p xs < length xs
        following h = omega arith

label-there : (table : List Label) (x : Label) (new : List Label) → slice_get (table ++ x ∷ new) (length table) ≡ Some x
label-there table x new =
    slice_get-get_or (table ++ x ∷ new) (length table) [] (omega (arith, length-append table (x ∷ new)))
    ∙ ap Some (get_or_at table x new [] (length table) refl)

lacks-label : (table : List Label) (x : Label) (new : List Label) → IsLabelTable (table ++ x ∷ new) → has_label table x ≡ false
lacks-label table x new ok = by (has_label table x) refl
  where
    place : place_of (table ++ x ∷ new) x ≡ length table
    place = (found_at (bytes_eq x) (table ++ x ∷ new) (length table) (ok.places (length table) x (label-there table x new))).1

    by : (b : Bool) → has_label table x ≡ b → has_label table x ≡ false
    by false h = h
    by true h =
        let within : place_of table x < length table = ltb-true _ _ (any_place (bytes_eq x) table ∙ h) in
        absurd (omega (arith, place, place-before (bytes_eq x) table (x ∷ new) within))

-- the labels of a table are read from their lines
pub labels_at-again : (new table : List Label) (number : ℕ) (rest : List (List ℕ)) → IsLabelTable (table ++ new) → 0 < length rest
    → (n : ℕ) × (labels_at (length new) table (record { number = number; pieces = new ++ rest }) ≡ Ok (table ++ new, record { number = n; pieces = rest }))
labels_at-again [] table number rest ok some = (number, ap (λ (t : List Label). Ok (t, record { number = number; pieces = rest })) (sym (append-nil table)))
labels_at-again (x ∷ new) table number rest ok some =
    let test : (is_label x && not (has_label table x)) ≡ true = and_from _ _ (ok.labels (length table) x (label-there table x new)) (not_from_false _ (lacks-label table x new ok)) in
    let step = value_at-again BadLabelTable (new_label table) number x (new ++ rest) x (cond-true (is_label x && not (has_label table x)) (Some x) None test) (omega (arith, length-append new rest)) in
    let more = labels_at-again new (table ++ x ∷ []) (number + 1) rest (subst IsLabelTable (sym (append_assoc table (x ∷ []) new)) ok) some in (
      more.0,
      ap (λ (r : Result (Label × Place) CertFault). r >>= (λ label. labels_at (length new) (table ++ label.0 ∷ []) label.1)) step
          ∙ more.1 ∙ ap (λ (t : List Label). Ok (t, record { number = more.0; pieces = rest })) (append_assoc table (x ∷ []) new),
    )

-- ascending numbers ascend from a lower one, and so do those that pass a test
pub ascending-lower : (bound low less : ℕ) (ns : List ℕ) → less ≤ low → IsAscending bound low ns → IsAscending bound less ns
ascending-lower bound low less [] le h = tt
ascending-lower bound low less (n ∷ ns) le h = (omega (arith, h.0, le), h.1, h.2)

pub ascending-filter : (bound low : ℕ) (test : ℕ → Bool) (ns : List ℕ) → IsAscending bound low ns → IsAscending bound low (filter test ns)
ascending-filter bound low test [] h = tt
ascending-filter bound low test (n ∷ ns) h = by (test n) (ascending-filter bound (n + 1) test ns h.2)
  where
    by : (b : Bool) → IsAscending bound (n + 1) (filter test ns) → IsAscending bound low (cond b (n ∷ filter test ns) (filter test ns))
    by true rest = (h.0, h.1, rest)
    by false rest = ascending-lower bound (n + 1) low (filter test ns) (omega (arith, h.0)) rest
