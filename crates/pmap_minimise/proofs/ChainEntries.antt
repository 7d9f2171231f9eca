-- The entries of the node that a chain opens to: its own one and those of the chain's end.
use Rattle.std.proofs.Common.{◌≡◌, ℕ, zero, suc, ◌+◌, ◌-◌, ◌*◌, ◌<◌, ◌≤◌, ◌==◌, ◌||◌, ◌∙◌, Bool, true, false, List, [], ◌∷◌, ◌++◌, Option, Some, All, bytes_eq, length, map, refl, sym, ap, subst, arith}
use Rattle.std.proofs.lemmas.Bool.{cond-true, eqb-true, or_left, or_right}
use Rattle.std.proofs.lemmas.List.{append-nil, append_assoc}
use Rattle.prefix_keys.specs.Block.{width_of}
use Rattle.prefix_keys.specs.declared.block.Block.{Block}
use Rattle.prefix_keys.specs.declared.version.Version.{Version}
use Rattle.pmap_model.specs.ListModel.{Prefix}
use Rattle.pmap_model.specs.MapModel.{Label}
use Rattle.pmap_model.specs.MapText.{text_at, text_if_some}
use Rattle.pmap_model.specs.PrefixList.{prefix_of}
use Rattle.pmap_model.specs.declared.entry.Entry.{Entry}
use Rattle.pmap_model.specs.declared.label.LabelId.{LabelId}
use Rattle.label_trie.specs.TrieModel.{number_of}
use Rattle.pmap_cert.specs.CertificateModel.{ClaimOf, InnerNode, LeafNode, chosen_half, claim_of}
use Rattle.pmap_cert.specs.CertificateText.{IsAscending}
use Rattle.pmap_cert.specs.Acceptance.{entries_of, handed_on, has_inherited, least_label, own_entry}
use Rattle.pmap_cert.specs.Node.{HasNumberForm, Node, tree_of}
use Rattle.pmap_cert.specs.Paths.{LeadsTo, digit, path_number, path_to}
use Rattle.pmap_cert.proofs.Handed.{handed_on-leaf}
use Rattle.pmap_cert.proofs.Paths.{path-length}
use Rattle.pmap_cert.proofs.Sets.{bytes_eq-same, has-own}
use Rattle.pmap_minimise.specs.Listing.{AddsEntries, IsEntryOf}
use Rattle.pmap_minimise.specs.Numbers.{IsOwn, IsSound, has_number, numbers_of}
use Rattle.pmap_cert.specs.Opened.{claim_above, node_over, path_node, set_above}
use Rattle.pmap_minimise.proofs.Entered.{half-entries, handed, one-known}
use Rattle.pmap_minimise.proofs.Paths.{above-has}
use Rattle.pmap_model.specs.Label.{has_label}

-- A property of nodes at a depth that an inner node passes on to its halves, one level deeper.
abbrev PassesOn : (Node → ℕ → Type 0) → Type 0
PassesOn Is = (claim : ClaimOf ℕ) (lower upper : Node) (room : ℕ) → Is (InnerNode claim lower upper) room → (left : ℕ) × (room ≡ suc left) × Is lower left × Is upper left

pub sound-passes : PassesOn IsSound
sound-passes claim lower upper zero sound = absurd sound
sound-passes claim lower upper (suc room) sound = (room, refl, sound.1, sound.2)

pub form-passes : (count : ℕ) → PassesOn (HasNumberForm count)
form-passes count claim lower upper zero form = absurd form.0
form-passes count claim lower upper (suc room) form = (room, refl, (form.0.2, form.1.0), (form.0.3, form.1.1))

-- a node with the property has it at the end of a spine too, with less room by the spine's bits
pub record IsDeep (Is : Node → ℕ → Type 0) (end : Node) (bits room : ℕ) : Type 0 where
  pub left : ℕ
  pub room_is : room ≡ left + bits
  pub is : Is end left

module _ (Is : Node → ℕ → Type 0) (passes : PassesOn Is) where
  over-deep : (d : ℕ) (claim : ClaimOf ℕ) (path side : Node) (room : ℕ) → Is (node_over d claim path side) room → (left : ℕ) × (room ≡ suc left) × Is path left × Is side left
  over-deep zero claim path side room is = passes claim path side room is
  over-deep (suc d) claim path side room is = let halves = passes claim side path room is in (halves.0, halves.1, halves.3, halves.2)

  pub path-deep : (side value bits : ℕ) (end : Node) (room : ℕ) → Is (path_node side value bits end) room → IsDeep Is end bits room
  path-deep side value zero end room is = record { left = room; room_is = omega arith; is = is }
  path-deep side value (suc bits) end room is =
      let first = over-deep (digit value bits) (claim_above side (claim_of end) bits) (path_node side value bits end) (LeafNode side) room is in
      let rest = path-deep side value bits end first.0 first.2 in
      let one = first.1 in
      let more = rest.room_is in
      record { left = rest.left; room_is = omega arith; is = rest.is }

-- the set has the label's text if it has the label's number
texts-have : (table : List Label) (side : ℕ) (ns : List ℕ) → has_number ns side ≡ true → has_label (map (text_at table) ns) (text_at table side) ≡ true
texts-have table side [] e = e
texts-have table side (n ∷ ns) e = by (side == n) refl e (texts-have table side ns)
  where
    x : Label
    x = text_at table side

    by : (b : Bool) → (side == n) ≡ b → (b || has_number ns side) ≡ true → (has_number ns side ≡ true → has_label (map (text_at table) ns) x ≡ true) → has_label (map (text_at table) (n ∷ ns)) x ≡ true
    by true same e rest = or_left (bytes_eq x (text_at table n)) (has_label (map (text_at table) ns) x) (ap (λ (k : ℕ). bytes_eq x (text_at table k)) (sym (eqb-true side n same)) ∙ bytes_eq-same x)
    by false same e rest = or_right (bytes_eq x (text_at table n)) (has_label (map (text_at table) ns) x) (rest e)

module _ (W : ℕ) (table : List Label) (side value : ℕ) (end : Node) where
  abbrev x : Label
  x = text_at table side

  abbrev path : ℕ → Node
  path bits = path_node side value bits end

  abbrev set : ℕ → List Label
  set bits = map (text_at table) (set_above side (claim_of end).labels bits)

  -- a node whose set has the inherited label passes it on, and has no entry of its own
  kept : (s : List Label) → has_label s x ≡ true → handed_on table s (Some x) ≡ Some x
  kept s there = cond-true (has_inherited s (Some x)) (Some x) (Some (least_label table s)) there

  none : (s : List Label) (n q : ℕ) → has_label s x ≡ true → own_entry W table s (Some x) n q ≡ []
  none s n q there = cond-true (has_inherited s (Some x)) [] _ there

  -- the entries of a spine's node that passes on the side label: those of the half that the spine chooses, since the side
  -- block has none
  over-entries : (bits d n q : ℕ) (h : Option Label) → d < 2 → handed_on table (set bits) h ≡ Some x
      → entries_of W table (tree_of table (node_over d (claim_above side (claim_of end) bits) (path bits) (LeafNode side))) h n q
      ≡ own_entry W table (set bits) h n q ++ entries_of W table (tree_of table (path bits)) (Some x) (suc n) (chosen_half (d == 1) q)
  over-entries bits zero n q h small passes =
      let own = own_entry W table (set bits) h n q in
      let below = entries_of W table (tree_of table (path bits)) (Some x) (suc n) (2 * q) in
      ap (λ (o : Option Label). own ++ (entries_of W table (tree_of table (path bits)) o (suc n) (2 * q) ++ own_entry W table (x ∷ []) o (suc n) (2 * q + 1))) passes
      ∙ ap (λ (ps : List Prefix). own ++ (below ++ ps)) (none (x ∷ []) (suc n) (2 * q + 1) (has-own x)) ∙ ap (λ (ps : List Prefix). own ++ ps) (append-nil below)
  over-entries bits (suc zero) n q h small passes =
      let own = own_entry W table (set bits) h n q in
      ap (λ (o : Option Label). own ++ (own_entry W table (x ∷ []) o (suc n) (2 * q) ++ entries_of W table (tree_of table (path bits)) o (suc n) (2 * q + 1))) passes
      ∙ ap (λ (ps : List Prefix). own ++ (ps ++ entries_of W table (tree_of table (path bits)) (Some x) (suc n) (2 * q + 1))) (none (x ∷ []) (suc n) (2 * q) (has-own x))
  over-entries bits (suc (suc d)) n q h small passes = absurd (omega arith)

  -- if the side label is inherited, the entries are those of the end
  path-entries : (bits n q : ℕ) → entries_of W table (tree_of table (path bits)) (Some x) n q ≡ entries_of W table (tree_of table end) (Some x) (n + bits) (path_number (path_to value bits) q)
  path-entries zero n q = let same : n ≡ n + 0 = omega arith in ap (λ (k : ℕ). entries_of W table (tree_of table end) (Some x) k q) same
  path-entries (suc bits) n q =
      let there = texts-have table side (set_above side (claim_of end).labels bits) (above-has side (claim_of end).labels bits) in
      let half = chosen_half (digit value bits == 1) q in
      let deeper : suc n + bits ≡ n + suc bits = omega arith in
      over-entries bits (digit value bits) n q (Some x) (omega arith) (kept (set bits) there)
      ∙ ap (λ (ps : List Prefix). ps ++ entries_of W table (tree_of table (path bits)) (Some x) (suc n) half) (none (set bits) n q there)
      ∙ path-entries bits (suc n) half ∙ ap (λ (k : ℕ). entries_of W table (tree_of table end) (Some x) k (path_number (path_to value bits) half)) deeper

  chain-entries : (bits n q : ℕ) (h : Option Label) → 2 ≤ bits → entries_of W table (tree_of table (path bits)) h n q
      ≡ own_entry W table (x ∷ []) h n q ++ entries_of W table (tree_of table end) (Some x) (n + bits) (path_number (path_to value bits) q)
  chain-entries zero n q h long = absurd (omega arith)
  chain-entries (suc zero) n q h long = absurd (omega arith)
  chain-entries (suc (suc bits)) n q h long =
      let half = chosen_half (digit value (suc bits) == 1) q in
      let deeper : suc n + suc bits ≡ n + suc (suc bits) = omega arith in
      over-entries (suc bits) (digit value (suc bits)) n q h (omega arith) (handed_on-leaf table x h)
      ∙ ap (λ (ps : List Prefix). own_entry W table (x ∷ []) h n q ++ ps)
      (path-entries (suc bits) (suc n) half ∙ ap (λ (k : ℕ). entries_of W table (tree_of table end) (Some x) k (path_number (path_to value (suc bits)) half)) deeper)

module _ (side value bits : ℕ) (end : Node) (long : 2 ≤ bits) (block last : Block) (inherited : Option LabelId) (old middle new : List Entry) (ids : List LabelId) (id : LabelId) where
  -- the side label is known
  side-known : (count room : ℕ) → HasNumberForm count (path_node side value bits end) room → side < count
  side-known = by bits long
    where
      by : (bits : ℕ) → 2 ≤ bits → (count room : ℕ) → HasNumberForm count (path_node side value bits end) room → side < count
      by zero long count room form = absurd (omega arith)
      by (suc bits) long count room form =
          (over-deep (HasNumberForm count) (form-passes count) (digit value bits) (claim_above side (claim_of end) bits) (path_node side value bits end) (LeafNode side) room form).3.0

  -- a chain adds the own entry of its block and the entries of its end
  pub chain-adds : numbers_of ids ≡ side ∷ [] → IsOwn ids block inherited old middle id → LeadsTo block last (path_to value bits) → AddsEntries end last (Some id) middle new
      → AddsEntries (path_node side value bits end) block inherited old new
  chain-adds claimed own down adds = λ table ok known form.
      let count : ℕ = length table in
      let x = text_at table side in
      let fits = side-known count (width_of block.version - block.len) form in
      let hand = handed table ok ids block inherited old middle id (subst (IsAscending count 0) (sym claimed) (omega arith, fits, tt)) known (side ∷ []) claimed own in
      let passed : Some x ≡ Some (text_at table id.0) = sym (handed_on-leaf table x (text_if_some table inherited)) ∙ hand.label in
      let len : last.len ≡ block.len + bits = let is = down.len in omega (arith, path-length value bits) in
      let deep = path-deep (HasNumberForm count) (form-passes count) side value bits end (width_of block.version - block.len) form in
      let room = deep.room_is in
      let width : width_of last.version ≡ width_of block.version = ap width_of down.version in
      let inside = last.len_in_range in
      let left : deep.left ≡ width_of last.version - last.len = omega (arith, len) in
      let below = adds table ok (one-known count id hand.known) (subst (HasNumberForm count end) left deep.is) in
      record {
        entries = below.entries
            ∙ ap (λ (ps : List Prefix). ps ++ entries_of (width_of last.version) table (tree_of table end) (Some (text_at table id.0)) last.len (number_of last)) hand.adds.entries
            ∙ append_assoc (map (prefix_of table) old) _ _
            ∙ ap (λ (ps : List Prefix). map (prefix_of table) old ++ (own_entry (width_of block.version) table (x ∷ []) (text_if_some table inherited) block.len (number_of block) ++ ps))
            (half-entries table (tree_of table end) (Some x) (Some (text_at table id.0)) (width_of block.version) (width_of last.version) (block.len + bits) last.len
            (path_number (path_to value bits) (number_of block)) (number_of last) width (sym passed) len down.number)
            ∙ ap (λ (ps : List Prefix). map (prefix_of table) old ++ ps)
            (sym (chain-entries (width_of block.version) table side value end bits block.len (number_of block) (text_if_some table inherited) long));
        fit = λ all.
            let middle_all = subst (λ (v : Version). All (IsEntryOf v count) middle) (sym down.version) (hand.adds.fit all) in
            subst (λ (v : Version). All (IsEntryOf v count) new) down.version (below.fit middle_all);
      }
