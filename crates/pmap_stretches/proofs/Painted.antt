-- Prefixes painted over one another, the short ones first, and the prefix that is seen at a block.
use Rattle.std.proofs.Common.{◌≡◌, ℕ, suc, ◌-◌, ◌<◌, ◌≤◌, get_or, pow_pos, Bool, true, false, cond, List, [], ◌∷◌, Option, Some, None, length, map, refl, sym, ap, ◌∙◌, subst, arith, All, Contains, le_refl}
use Rattle.std.specs.List.Sorted.{IsPermutation}
use Rattle.std.specs.Option.{option_or}
use Rattle.std.proofs.lemmas.Bool.{both_ways}
use Rattle.std.proofs.lemmas.Option.{cond_some, same_Some}
use Rattle.std.proofs.lemmas.List.Elements.{All-nil, All-cons, All-head, All-map, All-tail, All-weaker, All-contains}
use Rattle.std.proofs.lemmas.List.Sorted.{All-permutation, Contains-permutation}
use Rattle.prefix_keys.specs.Block.{block_number, first_of, last_of, width_of}
use Rattle.prefix_keys.specs.declared.version.Version.{Version}
use Rattle.pmap_model.specs.ListModel.{Prefix}
use Rattle.pmap_model.specs.MapModel.{Label, Mapping, MapModel, last_such, meets, settled_by, spans, spans_all}
use Rattle.prefix_keys.specs.Covers.{IsInBlock}
use Rattle.pmap_model.specs.PrefixList.{LongerLater, prefix_of}
use Rattle.pmap_model.specs.declared.entry.Entry.{Entry}
use Rattle.pmap_model.specs.MapText.{text_at}
use Rattle.pmap_model.proofs.Blocks.{address-between}
use Rattle.pmap_stretches.proofs.Orders.{both_le, spans_within}
use Rattle.pmap_stretches.proofs.SeenBlocks.{met_address}
use Rattle.pmap_model.proofs.Finds.{Contains-first, Contains-later}

-- the mapping of a prefix's block to its label
abbrev pub painted : ℕ → Prefix → Mapping
painted W p = record {
  low = first_of W p.bits (block_number W p.bits p.start);
  high = last_of W p.bits (block_number W p.bits p.start);
  label = p.label;
}

-- the map of such mappings, with a label for the addresses that no mapping covers
abbrev pub painting : Version → List Label → List Prefix → Label → MapModel
painting version table ps fallback = record {
  version = version;
  name = None;
  fallback = fallback;
  mappings = map (painted (width_of version)) ps;
  table = table;
}

-- the prefix covers the block, and no longer one meets it
pub record IsTop (W : ℕ) (ps : List Prefix) (n q : ℕ) (top : Prefix) : Type 0 where
  pub listed : Contains ps top
  pub covers : spans_all W n q (painted W top) ≡ true
  pub longest : All (λ p. meets W n q (painted W p) ≡ true → p.bits ≤ top.bits) ps

-- the label is in the table, and its text is that of the prefix on top; without a label no prefix meets the block
abbrev pub IsSeen : ℕ → List Label → List Prefix → ℕ → ℕ → Option ℕ → Type 0
IsSeen W table ps n q None = All (λ p. meets W n q (painted W p) ≡ false) ps
IsSeen W table ps n q (Some id) =
    (id < length table) × ((top : Prefix) × (top.label ≡ text_at table id) × IsTop W ps n q top)

-- of two prefixes that cover an address the longer one comes later
abbrev pub IsAscending : ℕ → List Prefix → Type 0
IsAscending W [] = Unit {0}
IsAscending W (p ∷ ps) =
    All (λ r. (a : ℕ) → spans a (painted W p) ≡ true → spans a (painted W r) ≡ true → p.bits ≤ r.bits) ps × IsAscending W ps

-- a prefix covers an address if the entry's block does
in_block : (table : List Label) (e : Entry) (a : ℕ) → spans a (painted (width_of e.block.version) (prefix_of table e)) ≡ true → IsInBlock e.block a
in_block table e a h =
    let W = width_of e.block.version in
    let s = block_number W e.block.len e.block.value in
    let ends = both_le (first_of W e.block.len s) a a (last_of W e.block.len s) h in
    address-between W e.block.len s a ends.0 ends.1

pub ascending : (v : Version) (table : List Label) (es : List Entry) → All (λ e. e.block.version ≡ v) es → LongerLater es
    → IsAscending (width_of v) (map (prefix_of table) es)
ascending v table [] same later = tt
ascending v table (e ∷ es) same later = (
  All-map (λ r. (a : ℕ) → spans a (painted (width_of v) (prefix_of table e)) ≡ true → spans a (painted (width_of v) r) ≡ true → e.block.len ≤ r.bits)
      (prefix_of table) es
      (λ k d below a covers covers'.
      let r = get_or es k d in
      let here : e.block.version ≡ v = All-head (λ (e : Entry). e.block.version ≡ v) e es same in
      let there : r.block.version ≡ v = All-tail (λ (e : Entry). e.block.version ≡ v) e es same k d below in
      later 0 (suc k) d (omega arith) (omega (arith, below)) a (here ∙ sym there)
      (in_block table e a (rw here covers)) (in_block table r a (rw there covers'))),
  ascending v table es (All-tail (λ (e : Entry). e.block.version ≡ v) e es same)
      (λ i j d le below. later (suc i) (suc j) d (omega (arith, le)) (omega (arith, below))),
)

-- no mapping meets the block
unmet-step : (b : Bool) (m : Mapping) (o : Option Mapping) → option_or o (cond b (Some m) None) ≡ None → (b ≡ false) × (o ≡ None)
unmet-step b m (Some s) e = absurd (let h : Some s ≡ None = e in cc)
unmet-step true m None e = absurd (let h : Some m ≡ None = e in cc)
unmet-step false m None e = (refl, refl)

pub unmet : (W n q : ℕ) (ps : List Prefix) → last_such (meets W n q) (map (painted W) ps) ≡ None
    → All (λ p. meets W n q (painted W p) ≡ false) ps
unmet W n q [] e = All-nil (λ p. meets W n q (painted W p) ≡ false)
unmet W n q (p ∷ ps) e =
    let here = unmet-step (meets W n q (painted W p)) (painted W p) (last_such (meets W n q) (map (painted W) ps)) e in
    All-cons (λ p. meets W n q (painted W p) ≡ false) p ps here.0 (unmet W n q ps here.1)

-- the last mapping that meets the block is that of the longest prefix
record IsLast (W n q : ℕ) (ps : List Prefix) (m : Mapping) : Type 0 where
  last : Prefix
  is : painted W last ≡ m
  listed : Contains ps last
  longest : All (λ p. meets W n q (painted W p) ≡ true → p.bits ≤ last.bits) ps

-- a prefix that meets a block which a later prefix covers is no longer than the later one
no_longer : (W n q : ℕ) (p r : Prefix) → ((a : ℕ) → spans a (painted W p) ≡ true → spans a (painted W r) ≡ true → p.bits ≤ r.bits)
    → spans_all W n q (painted W r) ≡ true → meets W n q (painted W p) ≡ true → p.bits ≤ r.bits
no_longer W n q p r later whole met =
    let ordered : (painted W p).low ≤ (painted W p).high = omega (arith, pow_pos (W - p.bits)) in
    let at = met_address W n q (painted W p) ordered (omega (arith, pow_pos (W - n))) met in
    later at.0 at.3 (spans_within W n q at.0 at.1 at.2 (painted W r) whole)

last_met-step : (W n q : ℕ) (p : Prefix) (ps : List Prefix) (m : Mapping)
    → All (λ r. (a : ℕ) → spans a (painted W p) ≡ true → spans a (painted W r) ≡ true → p.bits ≤ r.bits) ps → spans_all W n q m ≡ true
    → ((s : Mapping) → last_such (meets W n q) (map (painted W) ps) ≡ Some s → spans_all W n q s ≡ true → IsLast W n q ps s)
    → (b : Bool) (o : Option Mapping) → last_such (meets W n q) (map (painted W) ps) ≡ o
    → option_or o (cond b (Some (painted W p)) None) ≡ Some m → IsLast W n q (p ∷ ps) m
last_met-step W n q p ps m up whole later b (Some s) last e =
    let same = same_Some s m e in
    let rest = later m (last ∙ ap Some same) whole in
    let before = All-contains (λ r. (a : ℕ) → spans a (painted W p) ≡ true → spans a (painted W r) ≡ true → p.bits ≤ r.bits) ps rest.last up rest.listed in
    record {
      last = rest.last;
      is = rest.is;
      listed = Contains-later p ps rest.last rest.listed;
      longest = All-cons (λ r. meets W n q (painted W r) ≡ true → r.bits ≤ rest.last.bits) p ps
          (no_longer W n q p rest.last before (subst (λ (t : Mapping). spans_all W n q t ≡ true) (sym rest.is) whole)) rest.longest;
    }
last_met-step W n q p ps m up whole later true None last e = record {
  last = p;
  is = same_Some (painted W p) m e;
  listed = Contains-first p ps;
  longest = All-cons (λ r. meets W n q (painted W r) ≡ true → r.bits ≤ p.bits) p ps (λ met. le_refl p.bits)
      (All-weaker (λ r. meets W n q (painted W r) ≡ false) (λ r. meets W n q (painted W r) ≡ true → r.bits ≤ p.bits)
      (λ r miss met. absurd (both_ways (meets W n q (painted W r)) miss met)) ps (unmet W n q ps last));
}
last_met-step W n q p ps m up whole later false None last e = absurd (let h : None ≡ Some m = e in cc)

last_met : (W n q : ℕ) (ps : List Prefix) (m : Mapping) → IsAscending W ps → last_such (meets W n q) (map (painted W) ps) ≡ Some m
    → spans_all W n q m ≡ true → IsLast W n q ps m
last_met W n q [] m up e whole = absurd (let h : None ≡ Some m = e in cc)
last_met W n q (p ∷ ps) m up e whole =
    last_met-step W n q p ps m up.0 whole (λ s. last_met W n q ps s up.1) (meets W n q (painted W p))
    (last_such (meets W n q) (map (painted W) ps)) refl e

-- the label that settles a block, whatever the label of the addresses that no prefix covers, is that of the prefix on
-- top
pub seen_by : (W n q : ℕ) (ps : List Prefix) (x : Label) → IsAscending W ps → (o : Option Mapping)
    → last_such (meets W n q) (map (painted W) ps) ≡ o → ((fallback : Label) → settled_by W n q fallback o ≡ Some x)
    → (top : Prefix) × (top.label ≡ x) × IsTop W ps n q top
seen_by W n q ps x up None last settled =
    absurd (let e : Some [] ≡ Some x = settled [] in let f : Some (0 ∷ []) ≡ Some x = settled (0 ∷ []) in cc)
seen_by W n q ps x up (Some m) last settled =
    let parts = cond_some (spans_all W n q m) m.label x (settled []) in
    let top = last_met W n q ps m up last parts.0 in (
      top.last,
      ap (λ (s : Mapping). s.label) top.is ∙ parts.1,
      record {
        listed = top.listed;
        covers = subst (λ (s : Mapping). spans_all W n q s ≡ true) (sym top.is) parts.0;
        longest = top.longest;
      },
    )

-- the order of the prefixes doesn't affect which one is on top
pub seen_permuted : (W : ℕ) (table : List Label) (ps rs : List Prefix) → IsPermutation ps rs → (n q : ℕ) (label : Option ℕ)
    → IsSeen W table ps n q label → IsSeen W table rs n q label
seen_permuted W table ps rs moved n q None f = All-permutation (λ p. meets W n q (painted W p) ≡ false) ps rs moved f
seen_permuted W table ps rs moved n q (Some id) f =
    let top = (f.1).0 in
    let is = (f.1).2 in (
      f.0,
      (
        top,
        (f.1).1,
        record {
          listed = Contains-permutation ps rs top moved is.listed;
          covers = is.covers;
          longest = All-permutation (λ p. meets W n q (painted W p) ≡ true → p.bits ≤ top.bits) ps rs moved is.longest;
        },
      ),
    )
