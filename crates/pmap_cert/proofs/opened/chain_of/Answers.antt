use Rattle.std.proofs.Common.{◌≡◌, ◌≤◌, ◌+◌, ◌-◌, ◌∙◌, ◌∷◌, ◌++◌, [], List, ℕ, ap, append_assoc, arith, drop, length, length-append, sym, take}
use Rattle.std.proofs.lemmas.List.{drop-drop, take-take, take_at}
use Rattle.std.proofs.Math.Seq.{drop-append_seam}
use Rattle.pmap_cert.specs.CertificateText.{InnerLine, LeafLine, node_line_text}
use Rattle.pmap_cert.proofs.opened.chain_of.Goals as goal

-- the first bytes of a part of a text
begins : (text xs ys part : List ℕ) (from n m : ℕ) → part ≡ take (from + m - from) (drop from text) → drop from text ≡ xs ++ ys → length xs ≡ n → n ≤ m → take n part ≡ xs
begins text xs ys part from n m is whole len few =
    let size : from + m - from ≡ m = omega arith in
    ap (take n) (is ∙ (λ i. take (size i) (whole i))) ∙ take-take n m (xs ++ ys) few ∙ take_at xs ys n len

pub invariant_of-result : goal.invariant_of-result
invariant_of-result c =
    let at = c.write_lines-start.ensures in
    let start = c.write_lines-start.result.0 in
    let middle = c.write_lines-start.result.1 in
    let text = c.write_lines-start.new.lines in
    let node : List ℕ = node_line_text (InnerLine c.args.cost (c.args.side.0 ∷ [])) ++ 10 ∷ [] in
    let leaf : List ℕ = node_line_text (LeafLine c.args.side.0) ++ 10 ∷ [] in
    let lines = c.copy_from_slice.new.self in
    let later = ap (λ (n : ℕ). drop n text) (sym at.len) ∙ sym (drop-drop (length node) start text) ∙ ap (drop (length node)) at.both ∙ drop-append_seam node _ in
    record {
      node_within = omega (arith, at.last, c.copy_from_slice.ensures.len);
      both_within = omega (arith, c.copy_from_slice.ensures.len);
      leaf_within = omega (arith, at.few.0, c.copy_from_slice-2.ensures.len);
      node_is = begins text node _ lines start (middle - start) 40 c.copy_from_slice.ensures.after at.both (omega (arith, at.len, at.few.1)) (omega (arith, at.last));
      leaf_is = begins text leaf _ c.copy_from_slice-2.new.self middle (40 - middle) 16 c.copy_from_slice-2.ensures.after later (omega (arith, at.last)) (omega (arith, at.few.0));
      both_is = begins text (node ++ leaf) _ lines start (40 - start) 40 c.copy_from_slice.ensures.after (at.both ∙ sym (append_assoc node leaf _))
          (length-append node leaf ∙ omega (arith, at.last, at.len)) (omega arith);
    }
