-- The first faults of nodes, by those of the nodes below them.
use Rattle.std.proofs.Common.{◌≡◌, ◌∙◌, ℕ, suc, ◌+◌, ◌*◌, ◌&&◌, Bool, true, false, cond, nat_lt, List, [], ◌∷◌, length, Option, Some, None, option_map, refl, sym, ap, arith}
use Rattle.std.specs.Option.{option_or}
use Rattle.std.proofs.lemmas.Option.{none-some, same_Some}
use Rattle.pmap_model.specs.ListModel.{Prefix, ListModel}
use Rattle.pmap_model.specs.MapModel.{Label, MapModel}
use Rattle.prefix_keys.specs.declared.block.Block.{Block}
use Rattle.pmap_model.specs.PrefixList.{number_of_block}
use Rattle.pmap_cert.specs.Paths.{path_number}
use Rattle.pmap_cert.specs.Compacting.{line_count}
use Rattle.pmap_cert.specs.CertificateModel.{CertificateModel, ChainNode, InnerNode, LeafNode, Tree, claim_of, chosen_half, side_half}
use Rattle.cert_check.specs.Inner.{IsHalfNumbered, sides_fault}
use Rattle.cert_check.specs.Checking.{bits_fault, fault_of_number, first_fault, is_same_version, leaf_fault, node_fault, BoundNotMet, Check, CheckFault, CostTooHigh, LeafNotUniform, ListDiffers, NoMemory, SetTooSmall, VersionDiffers}

pub or-none : {X : Type 0} (a : Option X) → option_or a None ≡ a
or-none None = refl
or-none (Some x) = refl

-- the first of three faults
pub or-or : {X : Type 0} (a b c : Option X) → option_or (option_or a b) c ≡ option_or a (option_or b c)
or-or None b c = refl
or-or (Some x) b c = refl

-- a function of the length and the number of a half
pub half-is : {X : Type 0} (whole half : Block) (q : ℕ) → IsHalfNumbered whole half q → (f : ℕ → ℕ → X) → f half.len (number_of_block half) ≡ f (suc whole.len) q
half-is whole half q h f =
    let len : half.len ≡ suc whole.len = omega (arith, h.len) in
    λ i. f (len i) (h.number i)

-- the fault of the blocks beside a path, by those beside the rest of it after its first bit
pub sides-step : (m : MapModel) (ps : List Prefix) (x : Label) (whole chosen beside : Block) (bit : Bool) (bits rest : List Bool) → bits ≡ bit ∷ rest
    → IsHalfNumbered whole chosen (chosen_half bit (number_of_block whole)) → IsHalfNumbered whole beside (side_half bit (number_of_block whole))
    → sides_fault m ps x bits whole.len (number_of_block whole)
    ≡ option_or (sides_fault m ps x rest chosen.len (number_of_block chosen)) (leaf_fault m ps beside.len (number_of_block beside) x)
sides-step m ps x whole chosen beside bit bits rest is on off =
    let q = number_of_block whole in
    ap (λ (xs : List Bool). sides_fault m ps x xs whole.len q) is
    ∙ (λ i. option_or (sym (half-is whole chosen (chosen_half bit q) on (sides_fault m ps x rest)) i)
    (sym (half-is whole beside (side_half bit q) off (λ n t. leaf_fault m ps n t x)) i))

pub or-some : {X : Type 0} (a b : Option X) → (a ≡ None → ⊥) → option_or a b ≡ a
or-some None b some = absurd (some refl)
or-some (Some x) b some = refl

map-or : {X Y : Type 0} (f : X → Y) (a b : Option X) → option_map f (option_or a b) ≡ option_or (option_map f a) (option_map f b)
map-or f None b = refl
map-or f (Some x) b = refl

-- the first fault along bits is that of the end, or otherwise that of the blocks beside the path
pub bits-sides : (m : MapModel) (ps : List Prefix) (x : Label) (k : ℕ) (end : ℕ → ℕ → Option CheckFault) (bits : List Bool) (n q : ℕ)
    → bits_fault m ps x k end bits n q
    ≡ option_or (end (n + length bits) (path_number bits q)) (option_map (fault_of_number k) (sides_fault m ps x bits n q))
bits-sides m ps x k end [] n q = ap (λ (i : ℕ). end i q) {y = n + 0} (omega arith) ∙ sym (or-none (end (n + 0) q))
bits-sides m ps x k end (bit ∷ bits) n q =
    let t = chosen_half bit q in
    let rest = sides_fault m ps x bits (suc n) t in
    let own = leaf_fault m ps (suc n) (side_half bit q) x in
    let count : suc n + length bits ≡ n + length (bit ∷ bits) = omega arith in
    ap (λ (o : Option CheckFault). option_or o (option_map (fault_of_number k) own)) (bits-sides m ps x k end bits (suc n) t)
    ∙ or-or (end (suc n + length bits) (path_number bits t)) (option_map (fault_of_number k) rest) (option_map (fault_of_number k) own)
    ∙ (λ i. option_or (end (count i) (path_number bits t)) (sym (map-or (fault_of_number k) rest own) i))

-- the fault, if there is one, isn't that an allocation failed
abbrev pub IsNodeFault : Option CheckFault → Type 0
IsNodeFault None = Unit {0}
IsNodeFault (Some fault) = fault.kind ≡ NoMemory → ⊥

or-node : (a b : Option CheckFault) → IsNodeFault a → IsNodeFault b → IsNodeFault (option_or a b)
or-node None b first second = second
or-node (Some f) b first second = first

leaf-node : (k : ℕ) (a b : Bool) → IsNodeFault (option_map (fault_of_number k) (cond a (cond b None (Some ListDiffers)) (Some LeafNotUniform)))
leaf-node k true true = tt
leaf-node k true false = λ e. cc
leaf-node k false b = λ e. cc

claim-node : (k : ℕ) (a b : Bool) → IsNodeFault (option_map (fault_of_number k) (cond a (Some CostTooHigh) (cond b (Some SetTooSmall) None)))
claim-node k true b = λ e. cc
claim-node k false true = λ e. cc
claim-node k false false = tt

module _ (m : MapModel) (ps : List Prefix) where
  bits-node : (x : Label) (k : ℕ) (end : ℕ → ℕ → Option CheckFault) → ((n q : ℕ) → IsNodeFault (end n q)) → (bits : List Bool) (n q : ℕ)
      → IsNodeFault (bits_fault m ps x k end bits n q)
  bits-node x k end ends [] n q = ends n q
  bits-node x k end ends (bit ∷ bits) n q =
      or-node (bits_fault m ps x k end bits (suc n) (chosen_half bit q)) _ (bits-node x k end ends bits (suc n) (chosen_half bit q)) (leaf-node k _ _)

  tree-node : (t : Tree) (k n q : ℕ) → IsNodeFault (node_fault m ps t k n q)
  tree-node (LeafNode x) k n q = leaf-node k _ _
  tree-node (InnerNode claim lower upper) k n q =
      or-node (node_fault m ps lower (k + 1) (suc n) (2 * q)) _ (tree-node lower (k + 1) (suc n) (2 * q))
      (or-node (node_fault m ps upper (k + 1 + line_count lower) (suc n) (2 * q + 1)) _ (tree-node upper (k + 1 + line_count lower) (suc n) (2 * q + 1)) (claim-node k _ _))
  tree-node (ChainNode claim bits side end) k n q =
      or-node (bits_fault m ps side k (node_fault m ps end (k + 1)) bits n q) _
      (bits-node side k (node_fault m ps end (k + 1)) (λ n' q'. tree-node end (k + 1) n' q') bits n q) (claim-node k _ _)

-- the first fault of a certificate isn't that an allocation failed
pub first-node : (m : MapModel) (l : ListModel) (c : CertificateModel) → IsNodeFault (first_fault m l c)
first-node m l c =
    by (is_same_version l.version m.version && is_same_version c.version m.version) (nat_lt ((claim_of c.root).cost + 1) (length l.prefixes))
  where
    by : (same many : Bool) → IsNodeFault (cond same (option_or (node_fault m l.prefixes c.root 1 0 0) (cond many (Some (fault_of_number 0 BoundNotMet)) None)) (Some (fault_of_number 0 VersionDiffers)))
    by true true = or-node (node_fault m l.prefixes c.root 1 0 0) _ (tree-node m l.prefixes c.root 1 0 0) (λ e. cc)
    by true false = or-node (node_fault m l.prefixes c.root 1 0 0) None (tree-node m l.prefixes c.root 1 0 0) tt
    by false many = λ e. cc

-- a text that is read has no fault only if its certificate has none
pub text-none : (o : Option CheckFault) → option_map Check o ≡ None → o ≡ None
text-none None e = refl
text-none (Some f) e = absurd (none-some (Check f) (sym e))

-- the fault of a text that is read is that of its certificate
pub text-checked : (o : Option CheckFault) (f : CheckFault) → option_map Check o ≡ Some (Check f) → o ≡ Some f
text-checked None f e = absurd (none-some (Check f) e)
text-checked (Some g) f e = let same : Check g ≡ Check f = same_Some (Check g) (Check f) e in cc
