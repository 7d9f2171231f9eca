-- Lines whose fields are filled to their columns, field by field.
use Rattle.std.proofs.Common.{ℕ, suc, zero, ◌≡◌, ◌+◌, ◌-◌, ◌<◌, ◌∙◌, max, All, List, [], ◌∷◌, ◌++◌, length, map, get_or, replicate, set, ap, append_assoc, sym, subst, refl, arith}
use Rattle.std.specs.Prelude.{slice_index}
use Rattle.std.specs.List.{enumerate_from, flat_map, join_with_byte}
use Rattle.std.proofs.lemmas.Grind.{flat_map-append}
use Rattle.std.proofs.lemmas.List.{append-nil, get_or-set_other, get_or-set_same, length-set, map_push}
use Rattle.std.proofs.lemmas.List.Elements.{All-head, All-tail}
use Rattle.pmap_print.specs.Table.{AreWide, Columns, Fits, Line, Text, column_width, ended, filled, filled_by, filled_line, line_text, widen, widened}
use Rattle.pmap_print.proofs.PaddedLines.{fit}
use Rattle.pmap_print.proofs.WideLines.{wide-more}

length-filled_by : (widths : List ℕ) (fields : Line) → length (filled_by widths fields) ≡ length fields
length-filled_by [] fields = refl
length-filled_by (w ∷ widths) [] = refl
length-filled_by (w ∷ widths) (f ∷ fields) = ap suc (length-filled_by widths fields)

pub filled_none : (field : Text) → filled 0 field ≡ field
filled_none field = let none : 0 - length field ≡ 0 = omega arith in ap (λ n. replicate n 32 ++ field) none

pub filled_by-end : (widths : List ℕ) → filled_by widths [] ≡ []
filled_by-end [] = refl
filled_by-end (w ∷ widths) = refl

line_text-more : (f : Text) (fs : Line) → 0 < length fs → line_text (f ∷ fs) ≡ (f ++ 124 ∷ []) ++ line_text fs
line_text-more f [] some = absurd (omega (arith, some))
line_text-more f (g ∷ fs) some =
    append_assoc f (124 ∷ join_with_byte 124 (g ∷ fs)) (10 ∷ []) ∙ sym (append_assoc f (124 ∷ []) (line_text (g ∷ fs)))

-- the next field of a line is printed, which isn't the last one
pub field_printed : (out new : Text) (widths others : List ℕ) (width : ℕ) (f : Text) (fs : Line) → 0 < length fs
    → ((field : Text) (fields : Line) → filled_by widths (field ∷ fields) ≡ filled width field ∷ filled_by others fields)
    → new ≡ out ++ ended width 124 f
    → new ++ line_text (filled_by others fs) ≡ out ++ line_text (filled_by widths (f ∷ fs))
field_printed out new widths others width f fs some first printed =
    ap (λ (t : Text). t ++ line_text (filled_by others fs)) printed
    ∙ append_assoc out (ended width 124 f) (line_text (filled_by others fs))
    ∙ ap (λ (t : Text). out ++ t) (sym (line_text-more (filled width f) (filled_by others fs) (omega (arith, some, length-filled_by others fs))))
    ∙ ap (λ (l : Line). out ++ line_text l) (sym (first f fs))

-- the last three fields are printed
pub totals_printed : (out one two new : Text) (widths : List ℕ) (x y z : ℕ) (p q r : Text)
    → ((p q r : Text) → filled_by widths (p ∷ q ∷ r ∷ []) ≡ filled x p ∷ filled y q ∷ filled z r ∷ [])
    → one ≡ out ++ ended x 124 p → two ≡ one ++ ended y 124 q → new ≡ two ++ ended z 10 r
    → new ≡ out ++ line_text (filled_by widths (p ∷ q ∷ r ∷ []))
totals_printed out one two new widths x y z p q r are first second third =
    let last : Text = ended z 10 r in
    third ∙ ap (λ (t : Text). t ++ last) (second ∙ ap (λ (t : Text). t ++ ended y 124 q) first)
    ∙ append_assoc (out ++ ended x 124 p) (ended y 124 q) last
    ∙ append_assoc out (ended x 124 p) (ended y 124 q ++ last)
    ∙ ap (λ (t : Text). out ++ (ended x 124 p ++ t)) (sym (line_text-more (filled y q) (filled z r ∷ []) (omega arith)))
    ∙ ap (λ (t : Text). out ++ t) (sym (line_text-more (filled x p) (filled y q ∷ filled z r ∷ []) (omega arith)))
    ∙ ap (λ (l : Line). out ++ line_text l) (sym (are p q r))

-- one more line is printed
pub filled_added : (front old new : Text) (widths : List ℕ) (lines more : List Line) (line : Line)
    → old ≡ front ++ flat_map line_text (map (filled_by widths) lines) → new ≡ old ++ line_text (filled_by widths line)
    → lines ++ line ∷ [] ≡ more → new ≡ front ++ flat_map line_text (map (filled_by widths) more)
filled_added front old new widths lines more line so_far printed is =
    let text : List Line → Text = λ ls. flat_map line_text (map (filled_by widths) ls) in
    let last : Text = line_text (filled_by widths line) in
    printed ∙ ap (λ (t : Text). t ++ last) so_far ∙ append_assoc front (text lines) last
    ∙ ap (λ (t : Text). front ++ t)
    (ap (λ (t : Text). text lines ++ t) (sym (append-nil last)) ∙ sym (flat_map-append line_text (map (filled_by widths) lines) (filled_by widths line ∷ []))
    ∙ ap (flat_map line_text) (sym (map_push (filled_by widths) lines line)) ∙ ap text is)

-- columns that are as wide as the lines fill them as these do
filled_same : (width : ℕ → ℕ) (widths : List ℕ) (k : ℕ) (fields : Line) → length fields ≡ length widths
    → ((i : ℕ) → i < length widths → slice_index widths i ≡ width (k + i))
    → filled_by widths fields ≡ map (λ e. filled (width e.0) e.1) (enumerate_from k fields)
filled_same width [] k [] all are = refl
filled_same width [] k (f ∷ fields) all are = absurd (omega (arith, all))
filled_same width (w ∷ widths) k [] all are = absurd (omega (arith, all))
filled_same width (w ∷ widths) k (f ∷ fields) all are =
    let here : k + 0 ≡ k = omega arith in
    let first : w ≡ width k = are 0 (omega arith) ∙ ap width here in
    λ i. filled (first i) f ∷ filled_same width widths (k + 1) fields (omega (arith, all))
    (λ j below. let next : k + suc j ≡ k + 1 + j = omega arith in are (suc j) (omega (arith, below)) ∙ ap width next) i

filled_all : (width : ℕ → ℕ) (widths : List ℕ) (lines : List Line) → All (Fits width widths) lines
    → map (filled_by widths) lines ≡ map (filled_line width) lines
filled_all width widths [] fits = refl
filled_all width widths (line ∷ lines) fits =
    let head = All-head (Fits width widths) line lines fits in
    λ i. filled_same width widths 0 line head.all (λ j below. let at : j ≡ 0 + j = omega arith in head.widths j below ∙ ap width at) i
    ∷ filled_all width widths lines (All-tail (Fits width widths) line lines fits) i

pub filled_table : (count : ℕ) (lines : List Line) (c : Columns) → AreWide count lines c
    → map (filled_by c.widths.items) lines ≡ map (filled_line (column_width lines)) lines
filled_table count lines c are = filled_all (column_width lines) c.widths.items lines (fit count lines c are)

pub filled_by-none : (lines : List Line) → map (filled_by []) lines ≡ lines
filled_by-none [] = refl
filled_by-none (line ∷ lines) = ap (λ (ls : List Line). line ∷ ls) (filled_by-none lines)

-- the widths after they were widened for fields
length-widened : (widths : List ℕ) (k : ℕ) (fields : Line) → length (widened widths k fields) ≡ length widths
length-widened widths k [] = refl
length-widened widths k (f ∷ fields) = length-widened (widen widths k (length f)) (k + 1) fields ∙ length-set widths k (max (slice_index widths k) (length f))

widened-before : (widths : List ℕ) (k : ℕ) (fields : Line) (j : ℕ) → j < k → slice_index (widened widths k fields) j ≡ slice_index widths j
widened-before widths k [] j before = refl
widened-before widths k (f ∷ fields) j before =
    widened-before (widen widths k (length f)) (k + 1) fields j (omega (arith, before))
    ∙ get_or-set_other widths k j (max (slice_index widths k) (length f)) 0 (λ e. omega (arith, before, e))

widened-at : (widths : List ℕ) (k : ℕ) (fields : Line) (i : ℕ) → k + i < length widths
    → slice_index (widened widths k fields) (k + i) ≡ max (slice_index widths (k + i)) (length (get_or fields i []))
widened-at widths k [] i inside = omega arith
widened-at widths k (f ∷ fields) zero inside =
    let here : k + 0 ≡ k = omega arith in
    ap (slice_index (widened (widen widths k (length f)) (k + 1) fields)) here
    ∙ widened-before (widen widths k (length f)) (k + 1) fields k (omega arith)
    ∙ get_or-set_same widths k (max (slice_index widths k) (length f)) 0 (omega (arith, inside))
    ∙ ap (λ j. max (slice_index widths j) (length f)) (sym here)
widened-at widths k (f ∷ fields) (suc i) inside =
    let next : k + suc i ≡ k + 1 + i = omega arith in
    let size : ℕ = max (slice_index widths k) (length f) in
    ap (slice_index (widened (set widths k size) (k + 1) fields)) next
    ∙ widened-at (set widths k size) (k + 1) fields i (omega (arith, inside, length-set widths k size))
    ∙ ap (λ w. max w (length (get_or fields i []))) (get_or-set_other widths k (k + 1 + i) size 0 (λ e. omega (arith, e)))
    ∙ ap (λ j. max (slice_index widths j) (length (get_or fields i []))) (sym next)

-- the columns are widened for one more line
pub wide_line : (count : ℕ) (lines : List Line) (line : Line) (old new : Columns) → AreWide count lines old → length line ≡ count
    → new.widths.items ≡ widened old.widths.items 0 line → AreWide count (lines ++ line ∷ []) new
wide_line count lines line old new are all is =
    wide-more count lines line old new are all (ap length is ∙ length-widened old.widths.items 0 line)
    (λ k below.
    let here : 0 + k ≡ k = omega arith in
    let ws : List ℕ = old.widths.items in
    ap (λ (l : List ℕ). slice_index l k) is
    ∙ subst (λ j. slice_index (widened ws 0 line) j ≡ max (slice_index ws j) (length (get_or line k []))) here
    (widened-at ws 0 line k (omega (arith, here, below, are.columns))))
