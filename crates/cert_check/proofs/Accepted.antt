-- A certificate has no fault exactly if it is accepted.
use Rattle.std.proofs.Common.{◌≡◌, ℕ, zero, suc, ◌+◌, ◌*◌, ◌≤◌, Bool, true, false, cond, not, ◌&&◌, ◌==◌, List, [], ◌∷◌, Option, Some, None, get_or, length, nat_lt, option_map, refl, sym, ap, ap₂, ◌∙◌, subst, arith, bytes_eq}
use Rattle.std.specs.List.{list_all, list_any}
use Rattle.std.specs.Option.{option_or}
use Rattle.std.proofs.lemmas.Bool.{and_from, and_parts, both_ways, eq-eqb, eqb-true, false_from_ne_true, false≢true, not-true}
use Rattle.std.proofs.lemmas.Bool.Decides.{nat_tests}
use Rattle.std.proofs.lemmas.List.Elements.{All-contains}
use Rattle.std.proofs.lemmas.List.Folds.{Any-from_list_any, list_any_at}
use Rattle.std.proofs.lemmas.List.Sums.{AllPass-from_list_all, list_all-from_AllPass}
use Rattle.std.proofs.lemmas.Option.{none-some}
use Rattle.std.proofs.lemmas.Slice.Eq.{bytes_eq-Decides}
use Rattle.prefix_keys.specs.Block.{first_of, width_of}
use Rattle.prefix_keys.specs.declared.version.Version.{Version}
use Rattle.prefix_keys.specs.declared.version.Version.TheVariants.{V4, V6}
use Rattle.pmap_model.specs.ListModel.{ListModel, Prefix, label_below, lies_inside}
use Rattle.pmap_model.specs.MapModel.{Label, MapModel, settled_label}
use Rattle.pmap_cert.specs.Compacting.{line_count}
use Rattle.pmap_cert.specs.Acceptance.{AreBitsAccepted, IsAccepted, IsLeafAccepted, IsNodeAccepted, IsWithinExact}
use Rattle.pmap_cert.specs.CertificateText.{HasNodeForm, HasRoomBelow}
use Rattle.pmap_cert.specs.CertificateModel.{CertificateModel, ChainNode, InnerNode, LeafNode, Claim, Tree, claim_of, chain_claim, chosen_half, side_half, exact_claim}
use Rattle.pmap_cert.proofs.Sets.{bytes_eq-same}
use Rattle.cert_check.specs.Checking.{bits_fault, claim_fault, fault_of_number, first_fault, list_settles, is_label_of, leaf_fault, node_fault, is_same_version, CheckFault, BoundNotMet, CostTooHigh, LeafNotUniform, ListDiffers, SetTooSmall, VersionDiffers}
use Rattle.cert_check.proofs.Lists.{any-filtered, none_kept}
use Rattle.pmap_model.specs.Label.{has_label}

pub same_version-true : (v w : Version) → is_same_version v w ≡ true → v ≡ w
same_version-true V4 V4 h = refl
same_version-true V4 V6 h = absurd (false≢true h)
same_version-true V6 V4 h = absurd (false≢true h)
same_version-true V6 V6 h = refl

pub same_version-own : (v : Version) → is_same_version v v ≡ true
same_version-own V4 = refl
same_version-own V6 = refl

pub same_version-from : (v w : Version) → v ≡ w → is_same_version v w ≡ true
same_version-from v w e = subst (λ (u : Version). is_same_version v u ≡ true) e (same_version-own v)

-- the test of a label passes exactly if there is a label and it is x
pub is_label_of-true : (o : Option Label) (x : Label) → is_label_of o x ≡ true → o ≡ Some x
is_label_of-true None x h = absurd (false≢true h)
is_label_of-true (Some y) x h = ap Some ((bytes_eq-Decides y x).0 h)

pub is_label_of-from : (o : Option Label) (x : Label) → o ≡ Some x → is_label_of o x ≡ true
is_label_of-from o x e = subst (λ (p : Option Label). is_label_of p x ≡ true) (sym e) (bytes_eq-same x)

-- two faults have no first one exactly if neither exists
or_none-parts : {X : Type 0} (a b : Option X) → option_or a b ≡ None → (a ≡ None) × (b ≡ None)
or_none-parts None b e = (refl, e)
or_none-parts (Some x) b e = absurd (none-some x (sym e))

map_none-part : {X Y : Type 0} (f : X → Y) (o : Option X) → option_map f o ≡ None → o ≡ None
map_none-part f None e = refl
map_none-part f (Some x) e = absurd (none-some (f x) (sym e))

-- if a test with a fault as its first or second outcome gives none, it has the other outcome
cond_none-else : {X : Type 0} (b : Bool) (o : Option X) (x : X) → cond b o (Some x) ≡ None → (b ≡ true) × (o ≡ None)
cond_none-else true o x e = (refl, e)
cond_none-else false o x e = absurd (none-some x (sym e))

cond_none-then : {X : Type 0} (b : Bool) (o : Option X) (x : X) → cond b (Some x) o ≡ None → (b ≡ false) × (o ≡ None)
cond_none-then true o x e = absurd (none-some x (sym e))
cond_none-then false o x e = (refl, e)

-- a leaf without a fault is accepted
leaf-accepted : (m : MapModel) (ps : List Prefix) (n q : ℕ) (x : Label) → leaf_fault m ps n q x ≡ None → IsLeafAccepted m ps x n q
leaf-accepted m ps n q x none =
    let W = width_of m.version in
    let first = cond_none-else (is_label_of (settled_label m n q) x) _ LeafNotUniform none in
    let second = cond_none-else (list_settles W ps n q x) None ListDiffers first.1 in
    let parts = and_parts (not (list_any (lies_inside W n q) ps)) (is_label_of (label_below W ps (suc n) (first_of W n q)) x) second.0 in (
      is_label_of-true (settled_label m n q) x first.0,
      record {
        inside = none_kept (lies_inside W n q) ps (not-true _ parts.0);
        longest = is_label_of-true (label_below W ps (suc n) (first_of W n q)) x parts.1;
      },
    )

leaf-none : (m : MapModel) (ps : List Prefix) (n q : ℕ) (x : Label) → IsLeafAccepted m ps x n q → leaf_fault m ps n q x ≡ None
leaf-none m ps n q x h =
    let W = width_of m.version in
    let none : list_any (lies_inside W n q) ps ≡ false = sym (any-filtered (lies_inside W n q) ps) ∙ ap (list_any (lies_inside W n q)) h.1.inside in
    (λ i. cond (is_label_of-from (settled_label m n q) x h.0 i)
    (cond (not (none i) && is_label_of-from (label_below W ps (suc n) (first_of W n q)) x h.1.longest i) None (Some ListDiffers)) (Some LeafNotUniform))

-- a set that passes the test of all labels of a list has each of them
all-has : (s xs : List Label) → list_all (has_label s) xs ≡ true → (x : Label) → has_label xs x ≡ true → has_label s x ≡ true
all-has s xs h x inside =
    let (k, y, below, is, same) = Any-from_list_any (bytes_eq x) xs inside in
    subst (λ (z : Label). has_label s z ≡ true) (sym ((bytes_eq-Decides x y).0 same)) (All-contains (λ z. has_label s z ≡ true) xs y (AllPass-from_list_all (has_label s) xs h) (k, below, is))

has-all : (s xs : List Label) → ((x : Label) → has_label xs x ≡ true → has_label s x ≡ true) → list_all (has_label s) xs ≡ true
has-all s xs h = list_all-from_AllPass (has_label s) xs (λ k d below. h (get_or xs k d) (list_any_at (bytes_eq (get_or xs k d)) xs k d below (bytes_eq-same (get_or xs k d))))

at_most : (a b : ℕ) → nat_lt a b ≡ false → b ≤ a
at_most a b h = grind (arith, nat_tests)

not-more : (a b : ℕ) → b ≤ a → nat_lt a b ≡ false
not-more a b h = grind (arith, nat_tests)

-- a claim without a fault is within the exact claim
claim-within : (p e : Claim) → claim_fault p e ≡ None → IsWithinExact p e
claim-within p e none =
    let first = cond_none-then (nat_lt e.cost p.cost) _ CostTooHigh none in
    let second = cond_none-then ((p.cost == e.cost) && not (list_all (has_label p.labels) e.labels)) None SetTooSmall first.1 in
    record {
      cost = at_most e.cost p.cost first.0;
      labels = λ same. all-has p.labels e.labels (full (p.cost == e.cost) (list_all (has_label p.labels) e.labels) second.0 (eq-eqb p.cost e.cost same));
    }
  where
    full : (b c : Bool) → (b && not c) ≡ false → b ≡ true → c ≡ true
    full true true h e = refl
    full true false h e = absurd (false≢true (sym h))
    full false c h e = absurd (false≢true e)

claim-none : (p e : Claim) → IsWithinExact p e → claim_fault p e ≡ None
claim-none p e h =
    let lacks = false_from_ne_true ((p.cost == e.cost) && not (list_all (has_label p.labels) e.labels))
    (λ t. let parts = and_parts (p.cost == e.cost) (not (list_all (has_label p.labels) e.labels)) t in
    absurd (both_ways (list_all (has_label p.labels) e.labels) (not-true _ parts.1) (has-all p.labels e.labels (h.labels (eqb-true p.cost e.cost parts.0))))) in
    (λ i. cond (not-more _ _ h.cost i) (Some CostTooHigh) (cond (lacks i) (Some SetTooSmall) None))

-- a chain's path without a fault is accepted
bits-accepted : (m : MapModel) (ps : List Prefix) (side : Label) (k : ℕ) (end : ℕ → ℕ → Option CheckFault) (IsEnd : ℕ → ℕ → Type 0) (Fits : ℕ → Type 0)
    → ((room n q : ℕ) → Fits room → n + room ≡ width_of m.version → end n q ≡ None → IsEnd n q)
    → (bits : List Bool) (room n q : ℕ) → HasRoomBelow Fits bits room → n + room ≡ width_of m.version
    → bits_fault m ps side k end bits n q ≡ None → AreBitsAccepted m ps side IsEnd bits n q
bits-accepted m ps side k end IsEnd Fits ends [] room n q fits deep none = ends room n q fits deep none
bits-accepted m ps side k end IsEnd Fits ends (bit ∷ bits) zero n q fits deep none = absurd fits
bits-accepted m ps side k end IsEnd Fits ends (bit ∷ bits) (suc room) n q fits deep none =
    let parts = or_none-parts (bits_fault m ps side k end bits (suc n) (chosen_half bit q)) _ none in (
      omega (arith, deep),
      leaf-accepted m ps (suc n) (side_half bit q) side (map_none-part (fault_of_number k) _ parts.1),
      bits-accepted m ps side k end IsEnd Fits ends bits room (suc n) (chosen_half bit q) fits (omega (arith, deep)) parts.0,
    )

bits-none : (m : MapModel) (ps : List Prefix) (side : Label) (k : ℕ) (end : ℕ → ℕ → Option CheckFault) (IsEnd : ℕ → ℕ → Type 0)
    → ((n q : ℕ) → IsEnd n q → end n q ≡ None)
    → (bits : List Bool) (n q : ℕ) → AreBitsAccepted m ps side IsEnd bits n q → bits_fault m ps side k end bits n q ≡ None
bits-none m ps side k end IsEnd ends [] n q h = ends n q h
bits-none m ps side k end IsEnd ends (bit ∷ bits) n q h =
    ap₂ option_or (bits-none m ps side k end IsEnd ends bits (suc n) (chosen_half bit q) h.2) (ap (option_map (fault_of_number k)) (leaf-none m ps (suc n) (side_half bit q) side h.1))

-- a node without a fault is accepted
node-accepted : (m : MapModel) (ps : List Prefix) (table : List Label) (t : Tree) (room k n q : ℕ) → HasNodeForm table t room → n + room ≡ width_of m.version
    → node_fault m ps t k n q ≡ None → IsNodeAccepted m ps t n q
node-accepted m ps table (LeafNode x) room k n q fits deep none = leaf-accepted m ps n q x (map_none-part (fault_of_number k) _ none)
node-accepted m ps table (InnerNode claim lower upper) zero k n q fits deep none = absurd fits
node-accepted m ps table (InnerNode claim lower upper) (suc room) k n q fits deep none =
    let first = or_none-parts (node_fault m ps lower (k + 1) (suc n) (2 * q)) _ none in
    let second = or_none-parts (node_fault m ps upper (k + 1 + line_count lower) (suc n) (2 * q + 1)) _ first.1 in (
      omega (arith, deep),
      node-accepted m ps table lower room (k + 1) (suc n) (2 * q) fits.2 (omega (arith, deep)) first.0,
      node-accepted m ps table upper room (k + 1 + line_count lower) (suc n) (2 * q + 1) fits.3 (omega (arith, deep)) second.0,
      claim-within claim (exact_claim (claim_of lower) (claim_of upper)) (map_none-part (fault_of_number k) _ second.1),
    )
node-accepted m ps table (ChainNode claim bits side end) room k n q fits deep none =
    let parts = or_none-parts (bits_fault m ps side k (node_fault m ps end (k + 1)) bits n q) _ none in (
      fits.3,
      bits-accepted m ps side k (node_fault m ps end (k + 1)) (IsNodeAccepted m ps end) (HasNodeForm table end)
          (λ room' n' q' fits' deep' none'. node-accepted m ps table end room' (k + 1) n' q' fits' deep' none') bits room n q fits.4 deep parts.0,
      claim-within claim (chain_claim (length bits) side (claim_of end)) (map_none-part (fault_of_number k) _ parts.1),
    )

node-none : (m : MapModel) (ps : List Prefix) (t : Tree) (k n q : ℕ) → IsNodeAccepted m ps t n q → node_fault m ps t k n q ≡ None
node-none m ps (LeafNode x) k n q h = ap (option_map (fault_of_number k)) (leaf-none m ps n q x h)
node-none m ps (InnerNode claim lower upper) k n q h =
    ap₂ option_or (node-none m ps lower (k + 1) (suc n) (2 * q) h.1)
    (ap₂ option_or (node-none m ps upper (k + 1 + line_count lower) (suc n) (2 * q + 1) h.2)
    (ap (option_map (fault_of_number k)) (claim-none claim (exact_claim (claim_of lower) (claim_of upper)) h.3)))
node-none m ps (ChainNode claim bits side end) k n q h =
    ap₂ option_or (bits-none m ps side k (node_fault m ps end (k + 1)) (IsNodeAccepted m ps end) (λ n' q' h'. node-none m ps end (k + 1) n' q' h') bits n q h.1)
    (ap (option_map (fault_of_number k)) (claim-none claim (chain_claim (length bits) side (claim_of end)) h.2))

-- a certificate without a fault is accepted
pub certificate-accepted : (m : MapModel) (l : ListModel) (c : CertificateModel) → HasNodeForm c.table c.root (width_of c.version) → first_fault m l c ≡ None → IsAccepted m l c
certificate-accepted m l c form none =
    let first = cond_none-else (is_same_version l.version m.version && is_same_version c.version m.version) _ (fault_of_number 0 VersionDiffers) none in
    let versions = and_parts (is_same_version l.version m.version) (is_same_version c.version m.version) first.0 in
    let second = or_none-parts (node_fault m l.prefixes c.root 1 0 0) _ first.1 in
    let third = cond_none-then (nat_lt ((claim_of c.root).cost + 1) (length l.prefixes)) None (fault_of_number 0 BoundNotMet) second.1 in
    let version : c.version ≡ m.version = same_version-true c.version m.version versions.1 in
    record {
      list_version = same_version-true l.version m.version versions.0;
      certificate_version = version;
      root = node-accepted m l.prefixes c.table c.root (width_of m.version) 1 0 0 (subst (λ (v : Version). HasNodeForm c.table c.root (width_of v)) version form) (omega arith) second.0;
      count = at_most ((claim_of c.root).cost + 1) (length l.prefixes) third.0;
    }

pub certificate-none : (m : MapModel) (l : ListModel) (c : CertificateModel) → IsAccepted m l c → first_fault m l c ≡ None
certificate-none m l c h =
    let few : nat_lt ((claim_of c.root).cost + 1) (length l.prefixes) ≡ false = not-more _ _ h.count in
    let versions = and_from _ _ (same_version-from l.version m.version h.list_version) (same_version-from c.version m.version h.certificate_version) in
    (λ i. cond (versions i) (option_or (node-none m l.prefixes c.root 1 0 0 h.root i) (cond (few i) (Some (fault_of_number 0 BoundNotMet)) None)) (Some (fault_of_number 0 VersionDiffers)))
