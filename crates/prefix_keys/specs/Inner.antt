use Rattle.std.specs.Prelude.{ℕ, ◌+◌, ◌*◌, List, Option, Some, None, fold, length, nat_le}
use Rattle.std.specs.Prelude.{if◌then◌else◌, ◌≡◌, ◌||◌, ◌==◌, Bool, true, ◌++◌, option_map}
use Rattle.std.specs.List.{list_all, slice_split}
use Rattle.std.specs.Char.{is_ascii_hexdigit}
use Rattle.prefix_keys.specs.Text.{around_gap, groups_of_pieces, text_groups}

-- Steps of the code, for the contracts of private functions. Callers of the crate need not read them.

-- groups appended to other groups, given by their count and their number: the count and the number of all, if they are
-- at most eight
abbrev pub more_groups : ℕ → ℕ → Option (List ℕ) → Option (ℕ × ℕ)
more_groups count number (Some groups) =
    if nat_le (count + length groups) 8
    then Some (count + length groups, fold (λ n group. n * 65536 + group) number groups)
    else None
more_groups count number None = None

-- the groups of a text of pieces separated by colons; an empty text is one piece
abbrev pub piece_groups : Bool → List ℕ → Option (List ℕ)
piece_groups dotted text = groups_of_pieces dotted (slice_split (λ b. b == 58) text)

-- the text begins with bytes of this kind, which are read as the value, followed by the rest
pub record BeginsWith {A : Type 0} (byte : ℕ → Bool) (read : List ℕ → Option A) (text rest : List ℕ)
    (value : A) : Type 0 where
  pub front : List ℕ
  pub whole : text ≡ front ++ rest
  pub bytes : list_all byte front ≡ true
  pub reads : read front ≡ Some value

-- a byte that occurs in groups separated by colons
abbrev pub is_colon_byte : ℕ → Bool
is_colon_byte b = is_ascii_hexdigit b || b == 58

-- a text put before the front side of a `::`
abbrev pub following : List ℕ → Option (List ℕ × List ℕ) → Option (List ℕ × List ℕ)
following front sides = option_map (λ sides. (front ++ sides.0, sides.1)) sides

-- the text is one side of a `::`, with this count of groups that form this number, followed by the rest
pub record BeginsWithSide (text rest : List ℕ) (count number : ℕ) : Type 0 where
  pub front : List ℕ
  pub whole : text ≡ front ++ rest
  pub bytes : list_all is_colon_byte front ≡ true
  pub groups : (dotted : Bool) → Some (count, number) ≡ more_groups 0 0 (text_groups dotted front)
  pub gap : (back : List ℕ) → around_gap (front ++ back) ≡ following front (around_gap back)
