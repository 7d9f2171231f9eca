use Rattle.std.specs.Prelude.{Bool, List, [], ◌∷◌, if◌then◌else◌}

-- Lists in order.

module _ {X : Type 0} (is_less : X → X → Bool) where
  -- the list with x before the first element that isn't less than it
  abbrev pub with_in_order : X → List X → List X
  with_in_order x [] = x ∷ []
  with_in_order x (y ∷ ys) = if is_less y x then y ∷ with_in_order x ys else x ∷ y ∷ ys

  -- the list in order: no element is less than the one before it, and elements that tie keep their order
  abbrev pub in_order : List X → List X
  in_order [] = []
  in_order (x ∷ xs) = with_in_order x (in_order xs)
