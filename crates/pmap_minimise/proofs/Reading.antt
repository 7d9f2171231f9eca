-- The entries that are read off the nodes of a certificate, from the first line to the last.
use Rattle.std.proofs.Common.{◌≡◌, ℕ, ◌+◌, ◌-◌, ◌<◌, ◌∙◌, List, [], ◌∷◌, ◌++◌, Option, None, Some, length, reverse, refl, sym, ap, subst, arith, length-append}
use Rattle.std.proofs.lemmas.List.{reverse-append}
use Rattle.prefix_keys.specs.Block.{width_of}
use Rattle.prefix_keys.specs.declared.block.Block.{Block}
use Rattle.prefix_keys.specs.declared.version.Version.{Version}
use Rattle.pmap_model.specs.declared.entry.Entry.{Entry}
use Rattle.pmap_model.specs.declared.label.LabelId.{LabelId}
use Rattle.label_trie.specs.Parts.{IsHalf}
use Rattle.pmap_cert.specs.FormatReading.{ChainLine, InnerLine, LeafLine}
use Rattle.pmap_cert.proofs.NodeWalk.{bits_of}
use Rattle.pmap_cert.specs.CertificateModel.{ChainNode, ClaimOf, InnerNode, LeafNode, claim_of}
use Rattle.pmap_cert.specs.Node.{Node, first_line, first_node, from_next_line, node_lines}
use Rattle.pmap_cert.specs.Paths.{LeadsTo, path_to}
use Rattle.pmap_cert.proofs.Paths.{path-length}
use Rattle.pmap_minimise.specs.Listing.{AddsEntries, IsListedBy}
use Rattle.pmap_minimise.specs.Numbers.{IsOwn, IsSound, numbers_of}
use Rattle.pmap_cert.specs.Opened.{Opens}
use Rattle.pmap_minimise.proofs.ChainEntries.{chain-adds, path-deep, sound-passes}
use Rattle.pmap_minimise.proofs.Entered.{inner-adds, leaf-adds}
use Rattle.pmap_minimise.proofs.Joined.{half-room}

-- a block whose node is read later, and the label that it inherits
abbrev pub Due : Type 0
Due = Block × Option LabelId

abbrev pub room_of : Block → ℕ
room_of block = width_of block.version - block.len

-- what the node adds for its block and the label that the block inherits
abbrev Adds : Node → Due → List Entry → List Entry → Type 0
Adds node due old new = (opened : Node) → Opens node opened → AddsEntries opened due.0 due.1 old new

-- the nodes add entries one after another, each those for its own block
abbrev pub AddAll : List Node → List Due → List Entry → List Entry → Type 0
AddAll (node ∷ nodes) (due ∷ dues) old new = (middle : List Entry) × Adds node due old middle × AddAll nodes dues middle new
AddAll nodes dues old new = old ≡ new

-- the node opens to a sound one with at most this many levels below it
pub record FitsRoom (node : Node) (room : ℕ) : Type 0 where
  pub opened : Node
  pub opens : Opens node opened
  pub sound : IsSound opened room

-- each node fits its block
abbrev pub AreDue : List Node → List Due → Type 0
AreDue [] [] = Unit {0}
AreDue (node ∷ nodes) (due ∷ dues) = FitsRoom node (room_of due.0) × AreDue nodes dues
AreDue nodes dues = ⊥

-- After the first line the nodes and their blocks are the new ones, and what they add to `middle`, all add to `old`.
pub record IsReadTo (nodes : List Node) (dues : List Due) (old : List Entry) (nodes' : List Node) (dues' : List Due) (middle : List Entry) : Type 0 where
  pub due : AreDue nodes' dues'
  pub adds : (new : List Entry) → AddAll nodes' dues' middle new → AddAll nodes dues old new

-- the first node's end fits the room that its bits leave
pub record IsEndAt (nodes : List Node) (count room : ℕ) : Type 0 where
  pub left : ℕ
  pub room_is : room ≡ left + count
  pub end : FitsRoom (first_node (from_next_line nodes)) left

-- the number of lines of the nodes
abbrev pub lines_left : List Node → ℕ
lines_left [] = 0
lines_left (node ∷ nodes) = length (node_lines node) + lines_left nodes

pub next-left : (nodes : List Node) → 0 < length nodes → lines_left (from_next_line nodes) < lines_left nodes
next-left [] some = absurd (omega arith)
next-left (LeafNode n ∷ rest) some = omega arith
next-left (InnerNode claim lower upper ∷ rest) some = omega (arith, length-append (node_lines lower) (node_lines upper))
next-left (ChainNode claim bits side end ∷ rest) some = omega arith

pub due-some : (nodes : List Node) (due : Due) (dues : List Due) → AreDue nodes (due ∷ dues) → 0 < length nodes
due-some [] due dues are = absurd are
due-some (node ∷ nodes) due dues are = omega arith

pub none-due : (nodes : List Node) (dues : List Due) → dues ≡ [] → AreDue nodes dues → nodes ≡ []
none-due [] dues none are = refl
none-due (node ∷ nodes) [] none are = absurd are
none-due (node ∷ nodes) (due ∷ dues) none are = absurd cc

module _ (block : Block) (inherited : Option LabelId) (dues : List Due) where
  -- the end of a chain
  pub end-at : (cost value count side : ℕ) (set : List ℕ) (nodes : List Node) → AreDue nodes ((block, inherited) ∷ dues) → ChainLine cost (path_to value count) side set ≡ first_line (first_node nodes)
      → IsEndAt nodes count (room_of block)
  end-at cost value count side set [] are line = absurd are
  end-at cost value count side set (LeafNode m ∷ rest) are line = absurd cc
  end-at cost value count side set (InnerNode claimed left right ∷ rest) are line = absurd cc
  end-at cost value count side set (ChainNode claimed bits beside end ∷ rest) are line =
      let opens = are.0.opens in
      let deep = path-deep IsSound sound-passes beside opens.value opens.count opens.end (room_of block) (subst (λ (n : Node). IsSound n (room_of block)) opens.node_is are.0.sound) in
      let room = deep.room_is in
      record {
        left = deep.left;
        room_is = omega (arith, path-length value count, path-length opens.value opens.count, ap (λ l. length (bits_of l)) line, ap length opens.bits_are);
        end = record { opened = opens.end; opens = opens.below; sound = deep.is };
      }

  module _ (old middle : List Entry) (ids : List LabelId) (id : LabelId) (own : IsOwn ids block inherited old middle id) where
    pub leaf-read : (n : ℕ) (nodes : List Node) → AreDue nodes ((block, inherited) ∷ dues) → numbers_of ids ≡ (claim_of (first_node nodes)).labels → LeafLine n ≡ first_line (first_node nodes)
        → IsReadTo nodes ((block, inherited) ∷ dues) old (from_next_line nodes) dues middle
    leaf-read n [] are set line = absurd are
    leaf-read n (LeafNode m ∷ rest) are set line = record {
      due = are.1;
      adds = λ new more. (
        middle,
        (λ opened opens. subst (λ (k : Node). AddsEntries k block inherited old middle) (sym opens)
            (leaf-adds (record { 0 = m }) block inherited old middle ids id set own)),
        more,
      );
    }
    leaf-read n (InnerNode claimed lower upper ∷ rest) are set line = absurd cc
    leaf-read n (ChainNode claimed bits side end ∷ rest) are set line = absurd cc

    pub inner-read : (low high : Block) → IsHalf 0 block low → IsHalf 1 block high → (cost : ℕ) (line_set : List ℕ) (nodes : List Node) → AreDue nodes ((block, inherited) ∷ dues)
        → numbers_of ids ≡ (claim_of (first_node nodes)).labels → InnerLine cost line_set ≡ first_line (first_node nodes)
        → IsReadTo nodes ((block, inherited) ∷ dues) old (from_next_line nodes) ((low, Some id) ∷ (high, Some id) ∷ dues) middle
    inner-read low high low_half high_half cost line_set [] are set line = absurd are
    inner-read low high low_half high_half cost line_set (LeafNode m ∷ rest) are set line = absurd cc
    inner-read low high low_half high_half cost line_set (ChainNode claimed bits side end ∷ rest) are set line = absurd cc
    inner-read low high low_half high_half cost line_set (InnerNode claimed left right ∷ rest) are set line =
        let opens = are.0.opens in
        let low_room = half-room 0 block low low_half in
        let high_room = half-room 1 block high high_half in
        let sound = subst (IsSound (InnerNode claimed opens.lower opens.upper)) low_room (subst (λ (k : Node). IsSound k (room_of block)) opens.node_is are.0.sound) in
        let level : room_of low ≡ room_of high = omega arith in
        record {
          due = (
            record { opened = opens.lower; opens = opens.low; sound = sound.1 },
            (record { opened = opens.upper; opens = opens.high; sound = subst (IsSound opens.upper) level sound.2 }, are.1),
          );
          adds = λ new more. (
            more.2.0,
            (λ opened opens. subst (λ (k : Node). AddsEntries k block inherited old more.2.0) (sym opens.node_is)
                (inner-adds claimed opens.lower opens.upper block low high inherited old middle more.0 more.2.0 ids id set own low_half high_half
                (more.1 opens.lower opens.low) (more.2.1 opens.upper opens.high))),
            more.2.2,
          );
        }

    pub chain-read : (last : Block) (cost value count side : ℕ) (line_set : List ℕ) (nodes : List Node) → LeadsTo block last (path_to value count) → AreDue nodes ((block, inherited) ∷ dues)
        → numbers_of ids ≡ (claim_of (first_node nodes)).labels → ChainLine cost (path_to value count) side line_set ≡ first_line (first_node nodes)
        → IsReadTo nodes ((block, inherited) ∷ dues) old (from_next_line nodes) ((last, Some id) ∷ dues) middle
    chain-read last cost value count side line_set [] down are set line = absurd are
    chain-read last cost value count side line_set (LeafNode m ∷ rest) down are set line = absurd cc
    chain-read last cost value count side line_set (InnerNode claimed left right ∷ rest) down are set line = absurd cc
    chain-read last cost value count side line_set (ChainNode claimed bits beside end ∷ rest) down are set line =
        let ends = end-at cost value count side line_set (ChainNode claimed bits beside end ∷ rest) are line in
        let left = ends.room_is in
        let len = down.len in
        let width : width_of last.version ≡ width_of block.version = ap width_of down.version in
        let room : ends.left ≡ room_of last = omega (arith, len, path-length value count) in
        record {
          due = (subst (FitsRoom end) room ends.end, are.1);
          adds = λ new more. (
            more.0,
            (λ opened opens. subst (λ (k : Node). AddsEntries k block inherited old more.0) (sym opens.node_is)
                (chain-adds beside opens.value opens.count opens.end opens.long block last inherited old middle more.0 ids id (set ∙ ap (λ (c : ClaimOf ℕ). c.labels) opens.claim_is) own
                (subst (LeadsTo block last) (ap bits_of line ∙ opens.bits_are) down) (more.1 opens.end opens.below))),
            more.2,
          );
        }

-- blocks that are put at the end come first in reverse order
pub one-pushed : (dues new : List Due) (block : Block) (inherited : Option LabelId) → new ≡ dues ++ (block, inherited) ∷ [] → reverse new ≡ (block, inherited) ∷ reverse dues
one-pushed dues new block inherited is = ap reverse is ∙ reverse-append dues ((block, inherited) ∷ [])

pub two-pushed : (dues middle new : List Due) (low high : Block) (inherited : Option LabelId) → middle ≡ dues ++ (high, inherited) ∷ [] → new ≡ middle ++ (low, inherited) ∷ []
    → reverse new ≡ (low, inherited) ∷ (high, inherited) ∷ reverse dues
two-pushed dues middle new low high inherited first second =
    one-pushed middle new low inherited second ∙ ap (λ (l : List Due). (low, inherited) ∷ l) (one-pushed dues middle high inherited first)

-- The nodes from a line on, the blocks of those that aren't below one another, the next one last, and the entries so
-- far. What the nodes add to these entries completes the entries of the root.
pub record IsReading (root : Node) (version : Version) (nodes : List Node) (dues : List Due) (entries : List Entry) : Type 0 where
  pub due : AreDue nodes (reverse dues)
  pub adds : (new : List Entry) → AddAll nodes (reverse dues) entries new → (node : Node) → Opens root node → IsListedBy version node new

module _ (root : Node) (version : Version) where
  -- before the first line
  pub reading-begins : (block : Block) (nodes : List Node) (dues : List Due) (entries : List Entry) → block.version ≡ version → block.value ≡ 0 → block.len ≡ 0
      → (node : Node) × IsSound node (width_of version) × Opens root node → nodes ≡ root ∷ [] → dues ≡ (block, None) ∷ [] → entries ≡ [] → IsReading root version nodes dues entries
  reading-begins block nodes dues entries version_is start bits opened nodes_are dues_are none =
      let room : width_of version ≡ room_of block = sym (ap width_of version_is) ∙ omega (arith, bits) in
      rw (nodes_are, dues_are, none) (record {
        due = (record { opened = opened.0; opens = opened.2; sound = subst (IsSound opened.0) room opened.1 }, tt);
        adds = λ new adds node opens. record {
          block = block;
          version_is = version_is;
          start = start;
          bits = bits;
          adds = subst (AddsEntries node block None []) adds.2 (adds.1 node opens);
        };
      })

  module _ (nodes : List Node) (dues : List Due) (entries : List Entry) (reading : IsReading root version nodes dues entries) where
    -- after the last line
    pub reading-ends : dues ≡ [] → (node : Node) → Opens root node → IsListedBy version node entries
    reading-ends none node opens =
        let last : reverse dues ≡ [] = ap reverse none in
        let no_nodes = none-due nodes (reverse dues) last reading.due in
        reading.adds entries (subst (λ (ns : List Node). AddAll ns (reverse dues) entries entries) (sym no_nodes) refl) node opens

    module _ (block : Block) (inherited : Option LabelId) (rest : List Due) (popped : dues ≡ rest ++ (block, inherited) ∷ []) where
      pub next-due : AreDue nodes ((block, inherited) ∷ reverse rest)
      next-due = rw (one-pushed rest dues block inherited popped) at reading.due

      -- after one more line
      pub reading-goes : (nodes' : List Node) (dues' : List Due) (middle : List Entry) → nodes' ≡ from_next_line nodes
          → IsReadTo nodes ((block, inherited) ∷ reverse rest) entries (from_next_line nodes) (reverse dues') middle → IsReading root version nodes' dues' middle
      reading-goes nodes' dues' middle next read = rw next (record {
        due = read.due;
        adds = λ new more. (rw (one-pushed rest dues block inherited popped) at reading.adds) new (read.adds new more);
      })
