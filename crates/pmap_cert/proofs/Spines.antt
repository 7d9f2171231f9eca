-- A compacted tree opens to the original and has no spine of two inner nodes left.
use Rattle.std.proofs.Common.{◌≡◌, ℕ, zero, suc, ◌+◌, ◌*◌, ◌<◌, ◌≤◌, ◌∙◌, ◌⊎◌, inl, inr, Bool, true, false, cond, ◌||◌, List, [], ◌∷◌, Option, Some, None, arith, length, nat_le, refl, sym, ap, ap₂, subst, bytes_eq}
use Rattle.std.specs.Option.{option_or}
use Rattle.std.proofs.lemmas.Bool.{cond-false, cond-true, false≢true, le-leb, leb-true}
use Rattle.std.proofs.lemmas.Option.{none-some, same_Some}
use Rattle.std.proofs.lemmas.Slice.Eq.{bytes_eq-Decides}
use Rattle.pmap_model.specs.MapModel.{Label}
use Rattle.pmap_cert.specs.CertificateModel.{ChainNode, InnerNode, LeafNode, Claim, ClaimOf, Tree, TreeOf, IsPlain, chain_opened, links, opened_tree}
use Rattle.pmap_cert.specs.Compacting.{HasNoSpine, IsSameShape, IsPath, OpensTo, compacted, compacted_in, has_side, is_side, line_count, spine_bits, spine_compacted, spine_end, side_of}
use Rattle.pmap_cert.proofs.Sets.{bytes_eq-same}

-- one of two options that give a value together has it
pub either-some : {A : Type 0} (a b : Option A) (x : A) → option_or a b ≡ Some x → (a ≡ Some x) ⊎ (b ≡ Some x)
either-some None b x e = inr e
either-some (Some y) b x e = inl e

some-line : {L : Type 0} (t : TreeOf L) → 1 ≤ line_count t
some-line (LeafNode x) = omega arith
some-line (InnerNode claim lower upper) = omega arith
some-line (ChainNode claim bits side end) = omega arith

-- The spine of a side label and the compacted tree, for labels of any type.
module _ {L : Type 0} (same : L → L → Bool) where
  -- what holds of a spine that ends at once, and of a longer spine if it holds of the spine from the chosen half, holds of each
  module _ (side : L) (Is : TreeOf L → List Bool → TreeOf L → Type 0) (ended : (t : TreeOf L) → Is t [] t)
      (up-on : (claim : ClaimOf L) (lower upper : TreeOf L) (bits : List Bool) (end : TreeOf L) → is_side same side lower ≡ true → Is upper bits end →
      Is (InnerNode claim lower upper) (true ∷ bits) end)
      (low-on : (claim : ClaimOf L) (lower upper : TreeOf L) (bits : List Bool) (end : TreeOf L) → is_side same side upper ≡ true → Is lower bits end →
      Is (InnerNode claim lower upper) (false ∷ bits) end) where
    pub by_steps : (t : TreeOf L) → Is t (spine_bits same side t) (spine_end same side t)
    by_steps (LeafNode x) = ended (LeafNode x)
    by_steps (ChainNode claim bits s end) = ended (ChainNode claim bits s end)
    by_steps (InnerNode claim lower upper) =
        by (is_side same side lower) (is_side same side upper) refl refl (by_steps lower) (by_steps upper)
      where
        by : (b c : Bool) → is_side same side lower ≡ b → is_side same side upper ≡ c →
            Is lower (spine_bits same side lower) (spine_end same side lower) → Is upper (spine_bits same side upper) (spine_end same side upper) →
            Is (InnerNode claim lower upper) (cond b (true ∷ spine_bits same side upper) (cond c (false ∷ spine_bits same side lower) []))
            (cond b (spine_end same side upper) (cond c (spine_end same side lower) (InnerNode claim lower upper)))
        by true c e f low up = up-on claim lower upper (spine_bits same side upper) (spine_end same side upper) e up
        by false true e f low up = low-on claim lower upper (spine_bits same side lower) (spine_end same side lower) f low
        by false false e f low up = ended (InnerNode claim lower upper)

  -- each bit of a spine takes at least two lines of the node
  pub lines-spine : (side : L) (node : TreeOf L) → line_count (spine_end same side node) + 2 * length (spine_bits same side node) ≤ line_count node
  lines-spine side node =
      by_steps side (λ t bits end. line_count end + 2 * length bits ≤ line_count t) (λ t. omega arith)
      (λ claim lower upper bits end e le. let one = some-line lower in omega arith)
      (λ claim lower upper bits end e le. let one = some-line upper in omega arith) node

  pub plain-spine : (side : L) (node : TreeOf L) → IsPlain node → IsPlain (spine_end same side node)
  plain-spine side node =
      by_steps side (λ t bits end. IsPlain t → IsPlain end) (λ t h. h)
      (λ claim lower upper bits end e below h. below h.1) (λ claim lower upper bits end e below h. below h.0) node

  -- an inner node with a long spine is compacted to a chain, and one with a short spine to an inner node
  pub spine_compacted-chain : (inside : TreeOf L → TreeOf L) (claim : ClaimOf L) (lower upper : TreeOf L) (side : L) →
      nat_le 2 (length (spine_bits same side (InnerNode claim lower upper))) ≡ true →
      spine_compacted same inside claim lower upper (Some side)
      ≡ ChainNode claim (spine_bits same side (InnerNode claim lower upper)) side (inside (spine_end same side (InnerNode claim lower upper)))
  spine_compacted-chain inside claim lower upper side long =
      cond-true (nat_le 2 (length (spine_bits same side (InnerNode claim lower upper)))) _ (InnerNode claim (inside lower) (inside upper)) long

  spine_compacted-node : (inside : TreeOf L → TreeOf L) (claim : ClaimOf L) (lower upper : TreeOf L) (side : L) →
      nat_le 2 (length (spine_bits same side (InnerNode claim lower upper))) ≡ false →
      spine_compacted same inside claim lower upper (Some side) ≡ InnerNode claim (inside lower) (inside upper)
  spine_compacted-node inside claim lower upper side short =
      cond-false (nat_le 2 (length (spine_bits same side (InnerNode claim lower upper))))
      (ChainNode claim (spine_bits same side (InnerNode claim lower upper)) side (inside (spine_end same side (InnerNode claim lower upper)))) _ short

  -- what holds of both possible results of compacting an inner node, a chain or an inner node, holds of the result
  module _ (inside : TreeOf L → TreeOf L) (claim : ClaimOf L) (lower upper : TreeOf L) (Is : TreeOf L → Type 0) where
    pub by_spine : (o : Option L) →
        ((side : L) → o ≡ Some side → nat_le 2 (length (spine_bits same side (InnerNode claim lower upper))) ≡ true →
        Is (ChainNode claim (spine_bits same side (InnerNode claim lower upper)) side (inside (spine_end same side (InnerNode claim lower upper))))) →
        (((side : L) → o ≡ Some side → nat_le 2 (length (spine_bits same side (InnerNode claim lower upper))) ≡ false) →
        Is (InnerNode claim (inside lower) (inside upper))) →
        Is (spine_compacted same inside claim lower upper o)
    by_spine None chain node = node (λ side e. absurd (none-some side e))
    by_spine (Some side) chain node = by_test (nat_le 2 (length (spine_bits same side (InnerNode claim lower upper)))) refl
      where
        by_test : (b : Bool) → nat_le 2 (length (spine_bits same side (InnerNode claim lower upper))) ≡ b →
            Is (spine_compacted same inside claim lower upper (Some side))
        by_test true e = subst Is (sym (spine_compacted-chain inside claim lower upper side e)) (chain side refl e)
        by_test false e =
            subst Is (sym (spine_compacted-node inside claim lower upper side e))
            (node (λ other is. subst (λ (s : L). nat_le 2 (length (spine_bits same s (InnerNode claim lower upper))) ≡ false) (same_Some side other is) e))

  -- the end of a spine of two bits has fewer lines
  less-spine : (claim : ClaimOf L) (lower upper : TreeOf L) (side : L) (steps : ℕ) → line_count (InnerNode claim lower upper) ≤ suc steps →
      nat_le 2 (length (spine_bits same side (InnerNode claim lower upper))) ≡ true →
      line_count (spine_end same side (InnerNode claim lower upper)) ≤ steps
  less-spine claim lower upper side steps few long =
      omega (arith, few, lines-spine side (InnerNode claim lower upper), leb-true 2 (length (spine_bits same side (InnerNode claim lower upper))) long)

  -- an inner node is compacted alike by functions that agree on its halves and on its spine's end
  spine_compacted-same : (inside inside' : TreeOf L → TreeOf L) (claim : ClaimOf L) (lower upper : TreeOf L) →
      inside lower ≡ inside' lower → inside upper ≡ inside' upper →
      ((side : L) → nat_le 2 (length (spine_bits same side (InnerNode claim lower upper))) ≡ true →
      inside (spine_end same side (InnerNode claim lower upper)) ≡ inside' (spine_end same side (InnerNode claim lower upper))) →
      (o : Option L) → spine_compacted same inside claim lower upper o ≡ spine_compacted same inside' claim lower upper o
  spine_compacted-same inside inside' claim lower upper low up spine None = ap₂ (InnerNode claim) low up
  spine_compacted-same inside inside' claim lower upper low up spine (Some side) =
      by_test (nat_le 2 (length (spine_bits same side (InnerNode claim lower upper)))) refl
    where
      by_test : (b : Bool) → nat_le 2 (length (spine_bits same side (InnerNode claim lower upper))) ≡ b →
          spine_compacted same inside claim lower upper (Some side) ≡ spine_compacted same inside' claim lower upper (Some side)
      by_test true long =
          spine_compacted-chain inside claim lower upper side long
          ∙ ap (ChainNode claim (spine_bits same side (InnerNode claim lower upper)) side) (spine side long)
          ∙ sym (spine_compacted-chain inside' claim lower upper side long)
      by_test false short =
          spine_compacted-node inside claim lower upper side short
          ∙ ap₂ (InnerNode claim) low up
          ∙ sym (spine_compacted-node inside' claim lower upper side short)

  pub enough-steps : (steps steps' : ℕ) (t : TreeOf L) → line_count t ≤ steps → line_count t ≤ steps' →
      compacted_in same steps t ≡ compacted_in same steps' t
  unfolding compacted_in
  enough-steps zero steps' t few few' = let one = some-line t in absurd (omega (arith, one, few))
  enough-steps (suc steps) zero t few few' = let one = some-line t in absurd (omega (arith, one, few'))
  enough-steps (suc steps) (suc steps') (LeafNode x) few few' = refl
  enough-steps (suc steps) (suc steps') (ChainNode claim bits side end) few few' =
      ap (ChainNode claim bits side) (enough-steps steps steps' end (omega (arith, few)) (omega (arith, few')))
  enough-steps (suc steps) (suc steps') (InnerNode claim lower upper) few few' =
      spine_compacted-same (compacted_in same steps) (compacted_in same steps') claim lower upper
      (enough-steps steps steps' lower (omega (arith, few)) (omega (arith, few')))
      (enough-steps steps steps' upper (omega (arith, few)) (omega (arith, few')))
      (λ side long. enough-steps steps steps' (spine_end same side (InnerNode claim lower upper))
      (less-spine claim lower upper side steps few long) (less-spine claim lower upper side steps' few' long)) (side_of lower upper)

  -- an inner node is compacted by its spine
  pub compacted-inner : (claim : ClaimOf L) (lower upper : TreeOf L) →
      compacted same (InnerNode claim lower upper) ≡ spine_compacted same (compacted same) claim lower upper (side_of lower upper)
  unfolding compacted_in
  compacted-inner claim lower upper =
      ap (λ (steps : ℕ). compacted_in same steps (InnerNode claim lower upper)) one_more
      ∙ spine_compacted-same (compacted_in same (line_count lower + line_count upper)) (compacted same) claim lower upper
      (enough-steps (line_count lower + line_count upper) (line_count lower) lower (omega arith) (omega arith))
      (enough-steps (line_count lower + line_count upper) (line_count upper) upper (omega arith) (omega arith))
      (λ side long. enough-steps (line_count lower + line_count upper) (line_count (spine_end same side (InnerNode claim lower upper)))
      (spine_end same side (InnerNode claim lower upper)) (less-spine claim lower upper side (line_count lower + line_count upper) (omega arith) long) (omega arith))
      (side_of lower upper)
    where
      one_more : line_count (InnerNode claim lower upper) ≡ suc (line_count lower + line_count upper)
      one_more = omega arith

  pub compacted-leaf : (x : L) → compacted same (LeafNode x) ≡ LeafNode x
  unfolding compacted_in
  compacted-leaf x = refl

-- Certificates with label texts.

side-leaf : (side : Label) (t : Tree) → is_side bytes_eq side t ≡ true → t ≡ LeafNode side
side-leaf side (LeafNode x) is = ap LeafNode ((bytes_eq-Decides x side).0 is)
side-leaf side (InnerNode p l r) is = absurd (false≢true is)
side-leaf side (ChainNode p bs s end) is = absurd (false≢true is)

-- the bits of a spine are a path down the node
pub path-spine : (IsEnd : Tree → Type 0) (side : Label) (node : Tree) → IsEnd (spine_end bytes_eq side node) → IsPath IsEnd side (spine_bits bytes_eq side node) node
path-spine IsEnd side node =
    by_steps bytes_eq side (λ t bits end. IsEnd end → IsPath IsEnd side bits t) (λ t h. h)
    (λ claim lower upper bits end e below h. (side-leaf side lower e, below h))
    (λ claim lower upper bits end e below h. (side-leaf side upper e, below h)) node

-- the path of a spine leads to the spine's end
pub spine-path : (side : Label) (node : Tree) → IsPath (λ end. end ≡ spine_end bytes_eq side node) side (spine_bits bytes_eq side node) node
spine-path side node = path-spine (λ end. end ≡ spine_end bytes_eq side node) side node refl

-- a node that is a leaf with the side label has no path with a bit
no-bits : (side : Label) (bits : List Bool) (node : Tree) → is_side bytes_eq side node ≡ true → IsPath (λ end. Unit {0}) side bits node → length bits ≡ 0
no-bits side [] node e path = refl
no-bits side (bit ∷ bits) (LeafNode x) e path = absurd path
no-bits side (bit ∷ bits) (InnerNode claim lower upper) e path = absurd (false≢true e)
no-bits side (bit ∷ bits) (ChainNode claim bs s end) e path = absurd (false≢true e)

pub spine-longest : (side : Label) (node : Tree) (bits : List Bool) → IsPath (λ end. Unit {0}) side bits node →
    length bits ≤ length (spine_bits bytes_eq side node)
spine-longest side node [] path = omega arith
spine-longest side (LeafNode x) (bit ∷ bits) path = absurd path
spine-longest side (ChainNode claim bs s end) (bit ∷ bits) path = absurd path
spine-longest side (InnerNode claim lower upper) (true ∷ bits) path =
    let own : is_side bytes_eq side lower ≡ true = ap (is_side bytes_eq side) path.0 ∙ bytes_eq-same side in
    let longest = spine-longest side upper bits path.1 in
    rw own (omega arith)
spine-longest side (InnerNode claim lower upper) (false ∷ bits) path =
    by_test (is_side bytes_eq side lower) refl (spine-longest side lower bits path.1)
  where
    own : is_side bytes_eq side upper ≡ true
    own = ap (is_side bytes_eq side) path.0 ∙ bytes_eq-same side

    by_test : (b : Bool) → is_side bytes_eq side lower ≡ b → length bits ≤ length (spine_bits bytes_eq side lower) →
        suc (length bits) ≤ length (cond b (true ∷ spine_bits bytes_eq side upper) (cond (is_side bytes_eq side upper) (false ∷ spine_bits bytes_eq side lower) []))
    by_test true e longest = let none = no-bits side bits lower e path.1 in omega arith
    by_test false e longest = rw own (omega arith)

-- a tree without chains opens to itself
opens-itself : (t : Tree) → IsPlain t → OpensTo t t
opens-itself (LeafNode x) h = refl
opens-itself (InnerNode claim lower upper) h = (refl, opens-itself lower h.0, opens-itself upper h.1)
opens-itself (ChainNode claim bits side end) h = absurd h

-- a tree without chains, compacted, opens to the original
pub compacted_in-opens : (steps : ℕ) (t : Tree) → IsPlain t → OpensTo (compacted_in bytes_eq steps t) t
unfolding compacted_in
compacted_in-opens zero t h = opens-itself t h
compacted_in-opens (suc steps) (LeafNode x) h = refl
compacted_in-opens (suc steps) (ChainNode claim bits side end) h = absurd h
compacted_in-opens (suc steps) (InnerNode claim lower upper) h =
    by_spine bytes_eq (compacted_in bytes_eq steps) claim lower upper (λ c. OpensTo c (InnerNode claim lower upper)) (side_of lower upper)
    (λ side e long. (
      omega (arith, leb-true 2 (length (spine_bits bytes_eq side (InnerNode claim lower upper))) long),
      refl,
      path-spine (OpensTo (compacted_in bytes_eq steps (spine_end bytes_eq side (InnerNode claim lower upper)))) side (InnerNode claim lower upper)
          (compacted_in-opens steps (spine_end bytes_eq side (InnerNode claim lower upper)) (plain-spine bytes_eq side (InnerNode claim lower upper) h)),
    ))
    (λ short. (refl, compacted_in-opens steps lower h.0, compacted_in-opens steps upper h.1))

leaf-shape : (x : Label) (t : Tree) → t ≡ LeafNode x → IsSameShape (LeafNode x) t
leaf-shape x t is = subst (IsSameShape (LeafNode x)) (sym is) refl

-- if a node opens to a tree, its opened node has the tree's shape and labels
module _ (side : Label) (IsEnd : Tree → Type 0) (end : Tree) (shapes : (t : Tree) → IsEnd t → IsSameShape end t) where
  shape-path : (bits : List Bool) (t : Tree) → IsPath IsEnd side bits t → IsSameShape (links bits side end) t
  shape-path [] t path = shapes t path
  shape-path (true ∷ bits) (InnerNode claim lower upper) path = (leaf-shape side lower path.0, shape-path bits upper path.1)
  shape-path (false ∷ bits) (InnerNode claim lower upper) path = (shape-path bits lower path.1, leaf-shape side upper path.0)
  shape-path (bit ∷ bits) (LeafNode x) path = absurd path
  shape-path (bit ∷ bits) (ChainNode p bs s e) path = absurd path

  shape-chain : (claim : Claim) (bits : List Bool) (t : Tree) → 0 < length bits → IsPath IsEnd side bits t →
      IsSameShape (chain_opened claim bits side end) t
  shape-chain claim [] t some path = absurd (omega arith)
  shape-chain claim (true ∷ bits) t some path = shape-path (true ∷ bits) t path
  shape-chain claim (false ∷ bits) t some path = shape-path (false ∷ bits) t path

pub shape-opens : (c t : Tree) → OpensTo c t → IsSameShape (opened_tree c) t
shape-opens (LeafNode x) t h = leaf-shape x t h
shape-opens (InnerNode claim lower upper) (LeafNode y) h = absurd h
shape-opens (InnerNode claim lower upper) (ChainNode claim' bits side end) h = absurd h
shape-opens (InnerNode claim lower upper) (InnerNode claim' lower' upper') h =
    (shape-opens lower lower' h.1, shape-opens upper upper' h.2)
shape-opens (ChainNode claim bits side end) t h =
    shape-chain side (OpensTo end) (opened_tree end) (shape-opens end) claim bits t h.0 h.2

-- a compacted node is a leaf with the label exactly if the original is
side-same : (x : Label) (steps : ℕ) (t : Tree) → IsPlain t → is_side bytes_eq x (compacted_in bytes_eq steps t) ≡ is_side bytes_eq x t
unfolding compacted_in
side-same x zero t h = refl
side-same x (suc steps) (LeafNode y) h = refl
side-same x (suc steps) (ChainNode claim bits side end) h = absurd h
side-same x (suc steps) (InnerNode claim lower upper) h =
    by_spine bytes_eq (compacted_in bytes_eq steps) claim lower upper (λ c. is_side bytes_eq x c ≡ false) (side_of lower upper) (λ side e long. refl) (λ short. refl)

-- if a compacted node has a leaf with the label in one half, so has the original
side-less : (x : Label) (steps : ℕ) (t : Tree) → IsPlain t → has_side x (compacted_in bytes_eq steps t) ≡ true → has_side x t ≡ true
unfolding compacted_in
side-less x zero t h has = has
side-less x (suc steps) (LeafNode y) h has = has
side-less x (suc steps) (ChainNode claim bits side end) h has = absurd h
side-less x (suc steps) (InnerNode claim lower upper) h has =
    by_spine bytes_eq (compacted_in bytes_eq steps) claim lower upper (λ c. has_side x c ≡ true → has_side x (InnerNode claim lower upper) ≡ true)
    (side_of lower upper) (λ side e long known. absurd (false≢true known))
    (λ short known. ap₂ ◌||◌ (sym (side-same x steps lower h.0)) (sym (side-same x steps upper h.1)) ∙ known) has

-- if one half of a node is a leaf with the label, the spine of that label has a bit
spine-some : (x : Label) (t : Tree) → has_side x t ≡ true → 0 < length (spine_bits bytes_eq x t)
spine-some x (LeafNode y) h = absurd (false≢true h)
spine-some x (ChainNode claim bits side end) h = absurd (false≢true h)
spine-some x (InnerNode claim lower upper) h = by_test (is_side bytes_eq x lower) (is_side bytes_eq x upper) h
  where
    by_test : (b c : Bool) → (b || c) ≡ true → 0 < length (cond b (true ∷ spine_bits bytes_eq x upper) (cond c (false ∷ spine_bits bytes_eq x lower) []))
    by_test true c h = omega arith
    by_test false true h = omega arith
    by_test false false h = absurd (false≢true h)

-- the spine of an inner node has two bits or more
abbrev IsLong : Claim → Tree → Tree → Type 0
IsLong claim lower upper =
    (side : Label) × (side_of lower upper ≡ Some side) × (nat_le 2 (length (spine_bits bytes_eq side (InnerNode claim lower upper))) ≡ true)

long-lower : (claim : Claim) (lower upper : Tree) (x : Label) → is_side bytes_eq x lower ≡ true → has_side x upper ≡ true → IsLong claim lower upper
long-lower claim (InnerNode p l r) upper x e h = absurd (false≢true e)
long-lower claim (ChainNode p bs s end) upper x e h = absurd (false≢true e)
long-lower claim (LeafNode y) upper x e h =
    let known : has_side y upper ≡ true = subst (λ (z : Label). has_side z upper ≡ true) (sym ((bytes_eq-Decides y x).0 e)) h in (
      y,
      refl,
      subst (λ (b : Bool). nat_le 2 (length (cond b (true ∷ spine_bits bytes_eq y upper) (cond (is_side bytes_eq y upper) (false ∷ spine_bits bytes_eq y (LeafNode y)) []))) ≡ true)
          (sym (bytes_eq-same y)) (le-leb 2 (suc (length (spine_bits bytes_eq y upper))) (omega (arith, spine-some y upper known))),
    )

long-upper : (claim : Claim) (lower upper : Tree) (x : Label) → is_side bytes_eq x upper ≡ true → has_side x lower ≡ true → IsLong claim lower upper
long-upper claim (LeafNode y) upper x e h = absurd (false≢true h)
long-upper claim (ChainNode p bs s end) upper x e h = absurd (false≢true h)
long-upper claim (InnerNode p l r) (InnerNode p' l' r') x e h = absurd (false≢true e)
long-upper claim (InnerNode p l r) (ChainNode p' bs s end) x e h = absurd (false≢true e)
long-upper claim (InnerNode p l r) (LeafNode y) x e h =
    let lower : Tree = InnerNode p l r in
    let known : has_side y lower ≡ true = subst (λ (z : Label). has_side z lower ≡ true) (sym ((bytes_eq-Decides y x).0 e)) h in (
      y,
      refl,
      subst (λ (b : Bool). nat_le 2 (length (cond b (false ∷ spine_bits bytes_eq y lower) [])) ≡ true)
          (sym (bytes_eq-same y)) (le-leb 2 (suc (length (spine_bits bytes_eq y lower))) (omega (arith, spine-some y lower known))),
    )

not-long : (claim : Claim) (lower upper : Tree) →
    ((side : Label) → side_of lower upper ≡ Some side → nat_le 2 (length (spine_bits bytes_eq side (InnerNode claim lower upper))) ≡ false) →
    IsLong claim lower upper → ⊥
not-long claim lower upper short long = false≢true (sym (short long.0 long.1) ∙ long.2)

-- a tree without chains, compacted, has no spine left
pub compacted_in-no_spine : (steps : ℕ) (t : Tree) → IsPlain t → line_count t ≤ steps → HasNoSpine (compacted_in bytes_eq steps t)
unfolding compacted_in
compacted_in-no_spine zero t h few = let one = some-line t in absurd (omega (arith, one, few))
compacted_in-no_spine (suc steps) (LeafNode x) h few = tt
compacted_in-no_spine (suc steps) (ChainNode claim bits side end) h few = absurd h
compacted_in-no_spine (suc steps) (InnerNode claim lower upper) h few =
    by_spine bytes_eq (compacted_in bytes_eq steps) claim lower upper HasNoSpine (side_of lower upper)
    (λ side e long. compacted_in-no_spine steps (spine_end bytes_eq side (InnerNode claim lower upper)) (plain-spine bytes_eq side (InnerNode claim lower upper) h)
    (less-spine bytes_eq claim lower upper side steps few long))
    (λ short. (
      λ x e has. not-long claim lower upper short
          (long-lower claim lower upper x (sym (side-same x steps lower h.0) ∙ e) (side-less x steps upper h.1 has)),
      λ x e has. not-long claim lower upper short
          (long-upper claim lower upper x (sym (side-same x steps upper h.1) ∙ e) (side-less x steps lower h.0 has)),
      compacted_in-no_spine steps lower h.0 (omega (arith, few)),
      compacted_in-no_spine steps upper h.1 (omega (arith, few)),
    ))
