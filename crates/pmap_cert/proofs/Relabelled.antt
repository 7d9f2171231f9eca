-- Replacing labels commutes with compacting, if it keeps apart the labels that are there.
use Rattle.std.proofs.Common.{◌≡◌, ℕ, zero, suc, ◌<◌, ◌∙◌, Bool, true, false, List, Option, Some, None, bytes_eq, cond, length, nat_eq, nat_le, option_map, refl, sym, ap, subst, ⊎_elim}
use Rattle.std.specs.Option.{option_or}
use Rattle.std.proofs.lemmas.Option.{none-some, same_Some}
use Rattle.pmap_model.specs.Label.{IsLabelTable}
use Rattle.pmap_model.specs.MapModel.{Label}
use Rattle.pmap_model.specs.MapText.{text_at}
use Rattle.pmap_cert.specs.CertificateText.{HasChainForm, HasNodeForm, place_of}
use Rattle.pmap_cert.specs.Node.{Node}
use Rattle.pmap_cert.specs.CertificateModel.{ChainNode, ClaimOf, InnerNode, IsPlain, LeafNode, Tree, TreeOf, map_claim, map_tree}
use Rattle.pmap_cert.specs.Compacting.{compacted, compacted_in, is_side, leaf_label, line_count, side_of, spine_bits, spine_compacted, spine_end}
use Rattle.pmap_cert.proofs.ChainWords.{left-room}
use Rattle.pmap_cert.proofs.Spines.{by_steps, either-some}
use Rattle.pmap_cert.proofs.Tables.{label-same, text_at-place_of}

-- each label of a leaf and each side label is known
abbrev pub HasLabels : {L : Type 0} → (L → Type 0) → TreeOf L → Type 0
HasLabels Known (LeafNode x) = Known x
HasLabels Known (InnerNode claim lower upper) = HasLabels Known lower × HasLabels Known upper
HasLabels Known (ChainNode claim bits side end) = Known side × HasLabels Known end

pub plain-map : {L M : Type 0} (f : L → M) (t : TreeOf L) → IsPlain t → IsPlain (map_tree f t)
plain-map f (LeafNode x) plain = tt
plain-map f (InnerNode claim lower upper) plain = (plain-map f lower plain.0, plain-map f upper plain.1)
plain-map f (ChainNode claim bits side end) plain = absurd plain

-- the side label of a spine is known, as it is that of a leaf
pub leaf-known : {L : Type 0} (Known : L → Type 0) (t : TreeOf L) (x : L) → HasLabels Known t → leaf_label t ≡ Some x → Known x
leaf-known Known (LeafNode y) x h e = subst Known (same_Some y x e) h
leaf-known Known (InnerNode claim lower upper) x h e = absurd (none-some x e)
leaf-known Known (ChainNode claim bits side end) x h e = absurd (none-some x e)

pub side-known : {L : Type 0} (Known : L → Type 0) (lower upper : TreeOf L) (x : L) → HasLabels Known lower → HasLabels Known upper → side_of lower upper ≡ Some x → Known x
side-known Known lower upper x low up e =
    ⊎_elim (leaf-known Known lower x low) (leaf-known Known upper x up) (either-some (leaf_label lower) (leaf_label upper) x e)

pick-map : {A B : Type 0} (h : A → B) (b : Bool) (x y : A) → h (cond b x y) ≡ cond b (h x) (h y)
pick-map h true x y = refl
pick-map h false x y = refl

module _ {L M : Type 0} (same : L → L → Bool) (same' : M → M → Bool) (f : L → M) (Known : L → Type 0)
    (agree : (x y : L) → Known x → Known y → same' (f x) (f y) ≡ same x y) where
  abbrev g : TreeOf L → TreeOf M
  g = map_tree f

  side-map : (side : L) (t : TreeOf L) → Known side → HasLabels Known t → is_side same' (f side) (g t) ≡ is_side same side t
  side-map side (LeafNode x) known h = agree x side h known
  side-map side (InnerNode claim lower upper) known h = refl
  side-map side (ChainNode claim bits s end) known h = refl

  bits-map : (side : L) (t : TreeOf L) → Known side → HasLabels Known t → spine_bits same' (f side) (g t) ≡ spine_bits same side t
  bits-map side (LeafNode x) known h = refl
  bits-map side (InnerNode claim lower upper) known h =
      rw (side-map side lower known h.0, side-map side upper known h.1, bits-map side lower known h.0, bits-map side upper known h.1) refl
  bits-map side (ChainNode claim bits s end) known h = refl

  end-map : (side : L) (t : TreeOf L) → Known side → HasLabels Known t → spine_end same' (f side) (g t) ≡ g (spine_end same side t)
  end-map side (LeafNode x) known h = refl
  end-map side (InnerNode claim lower upper) known h =
      rw (side-map side lower known h.0, side-map side upper known h.1, end-map side lower known h.0, end-map side upper known h.1)
      (sym (pick-map g (is_side same side lower) (spine_end same side upper) (cond (is_side same side upper) (spine_end same side lower) (InnerNode claim lower upper))
      ∙ ap (cond (is_side same side lower) (g (spine_end same side upper))) (pick-map g (is_side same side upper) (spine_end same side lower) (InnerNode claim lower upper))))
  end-map side (ChainNode claim bits s end) known h = refl

  labels-end : (side : L) (t : TreeOf L) → HasLabels Known t → HasLabels Known (spine_end same side t)
  labels-end side =
      by_steps same side (λ t bits end. HasLabels Known t → HasLabels Known end) (λ t h. h)
      (λ claim lower upper bits end e below h. below h.1) (λ claim lower upper bits end e below h. below h.0)

  count-map : (t : TreeOf L) → line_count (g t) ≡ line_count t
  count-map (LeafNode x) = refl
  count-map (InnerNode claim lower upper) = rw (count-map lower, count-map upper) refl
  count-map (ChainNode claim bits s end) = rw (count-map end) refl

  label-map : (t : TreeOf L) → leaf_label (g t) ≡ option_map f (leaf_label t)
  label-map (LeafNode x) = refl
  label-map (InnerNode claim lower upper) = refl
  label-map (ChainNode claim bits s end) = refl

  either-map : (o p : Option L) → option_or (option_map f o) (option_map f p) ≡ option_map f (option_or o p)
  either-map None p = refl
  either-map (Some x) p = refl

  spine-map : (inside : TreeOf L → TreeOf L) (inside' : TreeOf M → TreeOf M) → ((t : TreeOf L) → HasLabels Known t → inside' (g t) ≡ g (inside t))
      → (claim : ClaimOf L) (lower upper : TreeOf L) → HasLabels Known lower → HasLabels Known upper → (o : Option L) → ((x : L) → o ≡ Some x → Known x)
      → spine_compacted same' inside' (map_claim f claim) (g lower) (g upper) (option_map f o) ≡ g (spine_compacted same inside claim lower upper o)
  spine-map inside inside' step claim lower upper low up None known = rw (step lower low, step upper up) refl
  spine-map inside inside' step claim lower upper low up (Some side) known =
      let node : TreeOf L = InnerNode claim lower upper in
      let bits = bits-map side node (known side refl) (low, up) in
      let end = ap inside' (end-map side node (known side refl) (low, up)) ∙ step (spine_end same side node) (labels-end side node (low, up)) in
      rw (bits, end, step lower low, step upper up) (sym (pick-map g (nat_le 2 (length (spine_bits same side node))) _ _))

  in-map : (steps : ℕ) (t : TreeOf L) → HasLabels Known t → compacted_in same' steps (g t) ≡ g (compacted_in same steps t)
  unfolding compacted_in
  in-map zero t h = refl
  in-map (suc steps) (LeafNode x) h = refl
  in-map (suc steps) (InnerNode claim lower upper) h =
      rw (label-map lower, label-map upper, either-map (leaf_label lower) (leaf_label upper))
      (spine-map (compacted_in same steps) (compacted_in same' steps) (in-map steps) claim lower upper h.0 h.1 (side_of lower upper) (λ x e. side-known Known lower upper x h.0 h.1 e))
  in-map (suc steps) (ChainNode claim bits side end) h = ap (ChainNode (map_claim f claim) bits (f side)) (in-map steps end h.1)

  pub compacted-map : (t : TreeOf L) → HasLabels Known t → compacted same' (g t) ≡ g (compacted same t)
  compacted-map t h = ap (λ (n : ℕ). compacted_in same' n (g t)) (count-map t) ∙ in-map (line_count t) t h

-- the labels of a well-formed node are below the count
pub form-labels : (count : ℕ) (node : Node) (room : ℕ) → HasChainForm count node room → HasLabels (λ (n : ℕ). n < count) node
form-labels count (LeafNode number) room form = form
form-labels count (InnerNode claim lower upper) zero form = absurd form
form-labels count (InnerNode claim lower upper) (suc room) form = (form-labels count lower room form.2, form-labels count upper room form.3)
form-labels count (ChainNode claim bits side end) room form =
    let last = left-room (HasChainForm count end) bits room form.4 in (form.2, form-labels count end last.0 last.2)

under-labels : {L M : Type 0} (f : L → M) (Known : M → Type 0) (t : TreeOf L) → HasLabels Known (map_tree f t) → HasLabels (λ (x : L). Known (f x)) t
under-labels f Known (LeafNode x) h = h
under-labels f Known (InnerNode claim lower upper) h = (under-labels f Known lower h.0, under-labels f Known upper h.1)
under-labels f Known (ChainNode claim bits side end) h = (h.0, under-labels f Known end h.1)

module _ (table : List Label) (ok : IsLabelTable table) where
  -- a tree is compacted with the texts of its labels as with their numbers
  pub compacted-texts : (node : Node) (room : ℕ) → HasChainForm (length table) node room
      → compacted bytes_eq (map_tree (text_at table) node) ≡ map_tree (text_at table) (compacted nat_eq node)
  compacted-texts node room form =
      compacted-map nat_eq bytes_eq (text_at table) (λ (n : ℕ). n < length table) (λ x y known known'. label-same table x y ok known known') node
      (form-labels (length table) node room form)

  pub compacted-places : (tree : Tree) (room : ℕ) → HasNodeForm table tree room
      → compacted nat_eq (map_tree (place_of table) tree) ≡ map_tree (place_of table) (compacted bytes_eq tree)
  compacted-places tree room form =
      compacted-map bytes_eq nat_eq (place_of table) (λ (x : Label). place_of table x < length table)
      (λ x y known known'. sym (label-same table (place_of table x) (place_of table y) ok known known')
      ∙ (λ i. bytes_eq (text_at-place_of table x known i) (text_at-place_of table y known' i))) tree
      (under-labels (place_of table) (λ (n : ℕ). n < length table) tree (form-labels (length table) (map_tree (place_of table) tree) room form))
