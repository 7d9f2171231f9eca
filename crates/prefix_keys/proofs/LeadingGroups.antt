-- The groups at the start of a text.
use Rattle.std.proofs.Common.{fold, ◌/◌, ◌%◌, ◌≡◌, ℕ, ◌+◌, ◌-◌, ◌*◌, ◌^◌, ◌<◌, ◌&&◌, ◌==◌, Bool, true, false, List, [], ◌∷◌, ◌++◌, Option, Some, None, length, ap, sym, refl, ◌∙◌, arith, inl, inr, nat_le, option_map, if◌then◌else◌}
use Rattle.std.specs.List.{list_all, list_any, slice_split}
use Rattle.std.proofs.lemmas.Bool.{and_from, and_right, cond-false, cases_Bool, true_from_ne_false}
use Rattle.std.proofs.lemmas.List.{append_assoc, append-nil, length-append}
use Rattle.std.proofs.lemmas.List.Folds.{list_all-append}
use Rattle.std.proofs.lemmas.List.Splits.{slice_split_at, slice_split_none, length-slice_split}
use Rattle.prefix_keys.specs.Inner.{BeginsWith, BeginsWithSide, following, is_colon_byte, more_groups, piece_groups}
use Rattle.std.specs.Char.{is_ascii_hexdigit}
use Rattle.prefix_keys.specs.Text.{around_gap, around_address, groups_of_pieces, hex_digit_value, hex_group, text_groups, dotted_address, last_groups, colon_address}
use Rattle.prefix_keys.proofs.ColonPieces.{is_colon, groups_of-more, more-next, onto_groups}
use Rattle.prefix_keys.proofs.Gaps.{address-around}
use Rattle.prefix_keys.proofs.GroupNumbers.{gap-some, whole_address}
use Rattle.prefix_keys.proofs.Bytes.{all-weaker, apart, each-fails, lacks, none-passes}
use Rattle.prefix_keys.proofs.Printed.{Lacks}
use Rattle.prefix_keys.proofs.PrintedGaps.{around-piece, following-following, colon-begins, skip}

-- a group consists of one or more hexadecimal digits
pub group-digits : (text : List ℕ) (g : ℕ) → hex_group text ≡ Some g → list_all is_ascii_hexdigit text ≡ true
group-digits text g reads = elim (cases_Bool (list_all is_ascii_hexdigit text)) [
  | inl all ↦ all
  | inr some ↦
      let none : hex_group text ≡ None =
      cond-false (nat_le 1 (length text) && (nat_le (length text) 4 && list_all is_ascii_hexdigit text)) (Some (fold (λ n b. n * 16 + hex_digit_value b) 0 text)) None
      (and_right _ _ (and_right _ _ some)) in
      let no : None ≡ Some g = sym none ∙ reads in absurd cc
]

pub group-some : (text : List ℕ) (g : ℕ) → hex_group text ≡ Some g → 0 < length text
group-some [] g reads = absurd cc
group-some (b ∷ text) g reads = omega arith

group-lacks : (c : ℕ) → is_ascii_hexdigit c ≡ false → (text : List ℕ) (g : ℕ) → hex_group text ≡ Some g → Lacks c text
group-lacks c other text g reads = none-passes is_ascii_hexdigit (λ b. b == c) (apart is_ascii_hexdigit c other) text (group-digits text g reads)

-- a group alone, and one before a colon
pub groups-last : (dotted : Bool) (f : List ℕ) (g : ℕ) → hex_group f ≡ Some g → piece_groups dotted f ≡ Some (g ∷ [])
groups-last dotted f g reads =
    ap (groups_of_pieces dotted) (slice_split_none is_colon f (group-lacks 58 refl f g reads)) ∙ last dotted
  where
    last : (dotted : Bool) → last_groups dotted f ≡ Some (g ∷ [])
    last true =
        cond-false (list_any (λ b. b == 46) f) (option_map (λ value. value / 65536 ∷ value % 65536 ∷ []) (dotted_address f)) (option_map (λ group. group ∷ []) (hex_group f))
        (lacks is_ascii_hexdigit 46 refl f (group-digits f g reads))
        ∙ ap (option_map (λ group. group ∷ [])) reads
    last false = ap (option_map (λ group. group ∷ [])) reads

pub groups-next : (dotted : Bool) (f t : List ℕ) (g : ℕ) → hex_group f ≡ Some g
    → piece_groups dotted (f ++ 58 ∷ t) ≡ onto_groups (Some g) (piece_groups dotted t)
groups-next dotted f t g reads =
    ap (groups_of_pieces dotted) (slice_split_at is_colon f 58 t (group-lacks 58 refl f g reads) refl)
    ∙ groups_of-more dotted f (slice_split is_colon t) (omega (arith, length-slice_split is_colon t))
    ∙ ap (λ x. onto_groups x (piece_groups dotted t)) reads

-- What was read of the groups at the start of a text: groups with a colon after each, with this count and this number,
-- and then the rest.
pub record HasRead (text rest : List ℕ) (count number : ℕ) : Type 0 where
  pub done : List ℕ
  pub whole : text ≡ done ++ rest
  pub bytes : list_all is_colon_byte done ≡ true
  pub groups : (dotted : Bool) (t : List ℕ) → more_groups 0 0 (piece_groups dotted (done ++ t)) ≡ more_groups count number (piece_groups dotted t)
  pub gap : (f back : List ℕ) → 0 < length f → Lacks 58 f → around_gap (done ++ (f ++ back)) ≡ following done (around_gap (f ++ back))

group-bytes : (f : List ℕ) (g : ℕ) → hex_group f ≡ Some g → list_all is_colon_byte f ≡ true
group-bytes f g reads = all-weaker is_ascii_hexdigit is_colon_byte (λ b digit. rw digit refl) f (group-digits f g reads)

-- a colon put before the front side of a `::`
colon-front : (sides : Option (List ℕ × List ℕ)) → option_map (λ sides. (58 ∷ sides.0, sides.1)) sides ≡ following (58 ∷ []) sides
colon-front None = refl
colon-front (Some sides) = refl

-- the groups of a side that isn't empty are those of its text
pub side-some : (dotted : Bool) (text : List ℕ) → 0 < length text → text_groups dotted text ≡ piece_groups dotted text
side-some dotted [] some = absurd (omega arith)
side-some dotted (b ∷ text) some = refl

-- one more group and the colon after it
pub read-more : (text rest following-group next : List ℕ) (c n g c' n' : ℕ) → HasRead text rest c n → BeginsWith is_ascii_hexdigit hex_group rest following-group g
    → following-group ≡ 58 ∷ next → Some (c', n') ≡ more_groups c n (Some (g ∷ [])) → HasRead text next c' n'
read-more text rest following-group next c n g c' n' has group colon more =
    let f : List ℕ = group.front in
    let done : List ℕ = has.done ++ (f ++ 58 ∷ []) in
    let some : 0 < length f = group-some f g group.reads in
    let lacks-colon : Lacks 58 f = group-lacks 58 refl f g group.reads in
    let moved : (t : List ℕ) → done ++ t ≡ has.done ++ (f ++ 58 ∷ t) =
    λ t. append_assoc has.done (f ++ 58 ∷ []) t ∙ ap (λ x. has.done ++ x) (append_assoc f (58 ∷ []) t) in
    record {
      done = done;
      whole = has.whole ∙ ap (λ x. has.done ++ x) (group.whole ∙ ap (λ x. f ++ x) colon) ∙ sym (moved next);
      bytes =
          list_all-append is_colon_byte has.done (f ++ 58 ∷ [])
          ∙ and_from _ _ has.bytes (list_all-append is_colon_byte f (58 ∷ []) ∙ and_from _ _ (group-bytes f g group.reads) refl);
      groups = λ dotted t.
          ap (λ x. more_groups 0 0 (piece_groups dotted x)) (moved t)
          ∙ has.groups dotted (f ++ 58 ∷ t)
          ∙ ap (more_groups c n) (groups-next dotted f t g group.reads)
          ∙ more-next c n g c' n' (piece_groups dotted t) more;
      gap = λ f' back some' lacks'.
          let t : List ℕ = f' ++ back in
          ap around_gap (moved t)
          ∙ has.gap f (58 ∷ t) some lacks-colon
          ∙ ap (following has.done)
          (around-piece f (58 ∷ t) lacks-colon
          ∙ ap (following f) (skip 58 t (colon-begins f' back some' lacks') ∙ colon-front (around_gap t))
          ∙ following-following f (58 ∷ []) (around_gap t))
          ∙ following-following has.done (f ++ 58 ∷ []) (around_gap t);
    }

-- the last group, with no single colon after it
pub read-last : (text rest left : List ℕ) (c n g c' n' : ℕ) → HasRead text rest c n → BeginsWith is_ascii_hexdigit hex_group rest left g
    → Some (c', n') ≡ more_groups c n (Some (g ∷ [])) → BeginsWithSide text left c' n'
read-last text rest left c n g c' n' has group more =
    let f : List ℕ = group.front in
    let front : List ℕ = has.done ++ f in
    let some : 0 < length f = group-some f g group.reads in
    let long : 0 < length front = omega (arith, length-append has.done f) in
    let lacks-colon : Lacks 58 f = group-lacks 58 refl f g group.reads in
    record {
      front = front;
      whole = has.whole ∙ ap (λ x. has.done ++ x) group.whole ∙ sym (append_assoc has.done f left);
      bytes = list_all-append is_colon_byte has.done f ∙ and_from _ _ has.bytes (group-bytes f g group.reads);
      groups = λ dotted.
          more
          ∙ ap (more_groups c n) (sym (groups-last dotted f g group.reads))
          ∙ sym (has.groups dotted f)
          ∙ ap (more_groups 0 0) (sym (side-some dotted front long));
      gap = λ back.
          ap around_gap (append_assoc has.done f back)
          ∙ has.gap f back some lacks-colon
          ∙ ap (following has.done) (around-piece f back lacks-colon)
          ∙ following-following has.done f (around_gap back);
    }

-- two sides of a `::`, and eight groups without one
pub colon-gap : (text rest back left : List ℕ) (c n d m : ℕ) (value : ℕ) → BeginsWithSide text rest c n → rest ≡ 58 ∷ 58 ∷ back
    → BeginsWithSide back left d m → Some value ≡ (if nat_le (c + d) 7 then Some (n * 2 ^ (16 * (8 - c)) + m) else None)
    → BeginsWith is_colon_byte colon_address text left value
colon-gap text rest back left c n d m value one gap two joined =
    let front : List ℕ = one.front ++ 58 ∷ 58 ∷ two.front in
    let around : around_gap front ≡ Some (one.front, two.front) =
    one.gap (58 ∷ 58 ∷ two.front) ∙ ap (λ x. Some (x, two.front)) (append-nil one.front) in
    record {
      front = front;
      whole =
          one.whole ∙ ap (λ x. one.front ++ x) (gap ∙ ap (λ x. 58 ∷ 58 ∷ x) two.whole)
          ∙ sym (append_assoc one.front (58 ∷ 58 ∷ two.front) left);
      bytes = list_all-append is_colon_byte one.front (58 ∷ 58 ∷ two.front) ∙ and_from _ _ one.bytes two.bytes;
      reads =
          address-around front one.front two.front (sym around)
          ∙ gap-some (text_groups false one.front) (text_groups true two.front) c n d m (one.groups false) (two.groups true)
          ∙ sym joined;
    }

-- a text without a colon is not an IPv6 address, since it has at most two groups
no-colon : (text : List ℕ) → list_any (λ b. b == 58) text ≡ false → colon_address text ≡ None
no-colon [] none = refl
no-colon (b ∷ rest) none =
    let lacks-colon : Lacks 58 text = each-fails (λ b. b == 58) text none in
    let around : around_gap text ≡ None =
    ap around_gap (sym (append-nil text)) ∙ around-piece text [] lacks-colon in
    ap (around_address text) around
    ∙ ap (λ pieces. whole_address (groups_of_pieces true pieces)) (slice_split_none is_colon text lacks-colon)
    ∙ few (list_any (λ b. b == 46) text)
  where
    text : List ℕ
    text = b ∷ rest

    two : (x : Option ℕ) → whole_address (option_map (λ value. value / 65536 ∷ value % 65536 ∷ []) x) ≡ None
    two None = refl
    two (Some value) = refl

    one : (x : Option ℕ) → whole_address (option_map (λ group. group ∷ []) x) ≡ None
    one None = refl
    one (Some group) = refl

    few : (dotted : Bool) → whole_address (if dotted then option_map (λ value. value / 65536 ∷ value % 65536 ∷ []) (dotted_address text)
        else option_map (λ group. group ∷ []) (hex_group text)) ≡ None
    few true = two (dotted_address text)
    few false = one (hex_group text)

pub colon-in : (text : List ℕ) (value : ℕ) → colon_address text ≡ Some value → list_any (λ b. b == 58) text ≡ true
colon-in text value reads =
    true_from_ne_false (list_any (λ b. b == 58) text)
    (λ none. let no : None ≡ Some value = sym (no-colon text none) ∙ reads in absurd cc)
