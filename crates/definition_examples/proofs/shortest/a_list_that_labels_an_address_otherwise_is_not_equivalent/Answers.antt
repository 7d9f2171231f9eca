use Rattle.std.proofs.Common.{◌≡◌, ℕ, [], Option, ap, arith, get_or, refl, unwrap_or}
use Rattle.pmap_model.specs.MapModel.{Label}
use Rattle.definition_examples.proofs.shortest.a_list_that_labels_an_address_otherwise_is_not_equivalent.Goals as goal

abbrev first_byte : Option Label → ℕ
first_byte label = get_or (unwrap_or label []) 0 0

not_both : (n : ℕ) → 65 ≡ n → n ≡ 66 → ⊥
not_both n a b = omega arith

pub returns-clause-another_label : goal.returns-clause-another_label
returns-clause-another_label c same = not_both 66 (ap first_byte (same.labels 0x0a00_0000 (omega arith))) refl

pub returns-clause-no_label : goal.returns-clause-no_label
returns-clause-no_label c same = let there = same.labels 0 (omega arith) in cc

pub returns-clause-another_version : goal.returns-clause-another_version
returns-clause-another_version c same = let there = same.version in cc
