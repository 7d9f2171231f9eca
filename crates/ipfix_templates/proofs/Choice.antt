-- Cases on tests, and on steps that may fail.
use Rattle.std.proofs.Common.{◌≡◌, Bool, true, false, cond, Option, Some, None, Result, Ok, ◌⊎◌, inl, inr, refl}
use Rattle.std.specs.Prelude.{option_and_then, option_map}

-- which of two values was chosen, and the result of the test
pub chosen : {A : Type 0} (b : Bool) (x y z : A) → cond b x y ≡ z → ((b ≡ true) × (x ≡ z)) ⊎ ((b ≡ false) × (y ≡ z))
chosen true x y z e = inl (refl, e)
chosen false x y z e = inr (refl, e)

-- a step that continued returned a value
pub gave : {A B : Type 0} (o : Option A) (f : A → Option B) (y : B) → option_and_then f o ≡ Some y → (x : A) × (o ≡ Some x) × (f x ≡ Some y)
gave None f y e = absurd cc
gave (Some x) f y e = (x, refl, e)

pub mapped : {A B : Type 0} (o : Option A) (f : A → B) (y : B) → option_map f o ≡ Some y → (x : A) × (o ≡ Some x) × (f x ≡ y)
mapped None f y e = absurd cc
mapped (Some x) f y e = (x, refl, cc)

abbrev made : {A : Type 0} → A → Option A
made x = Some x

pub some_is : {A : Type 0} (x y : A) → made x ≡ made y → x ≡ y
some_is x y e = cc

abbrev fine : {A B : Type 0} → A → Result A B
fine x = Ok x

pub ok_is : {A B : Type 0} (x y : A) → fine {B = B} x ≡ fine y → x ≡ y
ok_is x y e = cc
