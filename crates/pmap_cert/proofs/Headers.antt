-- Bytes that lines lack.
use Rattle.std.proofs.Common.{◌≡◌, ℕ, zero, suc, ◌==◌, true, false, not, List, [], ◌∷◌, Some, IsTrue, refl, subst, arith}
use Rattle.std.specs.List.{AllByRecursion, join_with_byte, list_all, slice_get}
use Rattle.std.proofs.lemmas.Bool.{and_parts, ne_eqb, not-true}
use Rattle.std.proofs.lemmas.List.Elements.{All-append, All-cons, All-weaker}
use Rattle.std.proofs.lemmas.List.Sums.{AllPass-from_list_all}
use Rattle.prefix_keys.proofs.Printed.{Lacks}
use Rattle.pmap_model.specs.Label.{IsLabelTable, is_label, is_label_byte}
use Rattle.pmap_model.specs.MapModel.{Label}

-- a text whose bytes all pass the test lacks the byte
pub Lacks-tested : (c : ℕ) (text : List ℕ) → list_all (λ b. not (b == c)) text ≡ true → Lacks c text
Lacks-tested c text passed =
    All-weaker (λ b. not (b == c) ≡ true) (λ b. (b == c) ≡ false) (λ b h. not-true (b == c) h) text
    (AllPass-from_list_all (λ b. not (b == c)) text passed)

-- a line lacks a byte, other than the space, that its words lack
pub Lacks-line : (c : ℕ) (words : List (List ℕ)) → (32 == c) ≡ false → AllByRecursion (Lacks c) words → Lacks c (join_with_byte 32 words)
Lacks-line c [] apart all = λ k d h. absurd (omega arith)
Lacks-line c (word ∷ []) apart all = all.0
Lacks-line c (word ∷ next ∷ words) apart all =
    All-append (λ b. (b == c) ≡ false) word (32 ∷ join_with_byte 32 (next ∷ words)) all.0
    (All-cons (λ b. (b == c) ≡ false) 32 (join_with_byte 32 (next ∷ words)) apart (Lacks-line c (next ∷ words) apart all.1))

-- a label lacks line feeds
no_feed : (b : ℕ) → is_label_byte b ≡ true → (b == 10) ≡ false
no_feed b h = ne_eqb b 10 (λ e. apart (subst (λ (b : ℕ). is_label_byte b ≡ true) e h))
  where
    apart : is_label_byte 10 ≡ true → ⊥
    apart h = cc

pub Lacks-label : (x : Label) → is_label x ≡ true → Lacks 10 x
Lacks-label x h =
    let some = and_parts _ _ h in
    let short = and_parts _ _ some.1 in
    let bytes = and_parts _ _ short.1 in
    All-weaker (λ b. is_label_byte b ≡ true) (λ b. (b == 10) ≡ false) no_feed x (AllPass-from_list_all is_label_byte x bytes.0)

labels-lack : (table : List Label) → ((i : ℕ) (text : Label) → slice_get table i ≡ Some text → IsTrue (is_label text)) → AllByRecursion (Lacks 10) table
labels-lack [] labels = tt
labels-lack (x ∷ table) labels = (Lacks-label x (labels zero x refl), labels-lack table (λ i text e. labels (suc i) text e))

pub table-lacks : (table : List Label) → IsLabelTable table → AllByRecursion (Lacks 10) table
table-lacks table ok = labels-lack table ok.labels
