-- Reading labels and nodes one after the other, as the code does.
use Rattle.std.proofs.Common.{◌≡◌, ℕ, zero, suc, ◌+◌, ◌-◌, ◌<◌, ◌≤◌, ◌∙◌, Bool, List, [], ◌∷◌, ◌++◌, Result, Ok, Err, length, map, nat_le, sym, ap, subst, arith}
use Rattle.std.proofs.lemmas.Bool.{cond-false, cond-true, le-leb, lt-leb}
use Rattle.std.proofs.lemmas.List.{append_assoc, length_push}
use Rattle.pmap_model.specs.MapModel.{Label}
use Rattle.pmap_model.specs.Steps.{◌>>=◌}
use Rattle.pmap_model.specs.MapText.{text_at}
use Rattle.pmap_cert.specs.CertificateModel.{ChainNode, InnerNode, LeafNode, Claim, Tree}
use Rattle.pmap_cert.specs.Format.{format_number, Format}
use Rattle.pmap_cert.specs.FormatReading.{ChainLine, DueLine, InnerLine, LeafLine, Place, due_node, fault_at, labels_at, line_due_at, new_label, nodes_at, line_value, CertFault, BadLabelTable, TooDeep}
use Rattle.pmap_cert.specs.Node.{HasChainForm, Node, claiming, node_lines, tree_of}
use Rattle.pmap_cert.specs.Inner.{IsReadNode}
use Rattle.pmap_cert.proofs.ChainWords.{room-left}
use Rattle.pmap_cert.proofs.FormatTrees.{inside_of, line_due-found, nodes-step, nodes_at-down}

-- Reading one more label of a table.

module _ (count : ℕ) (table : List Label) (place : Place) (total : Result (List Label × Place) CertFault) (so_far : total ≡ labels_at (count - length table) table place) where
  abbrev label_then : Result (Label × Place) CertFault → Result (List Label × Place) CertFault
  label_then r = r >>= (λ label. labels_at (count - (length table + 1)) (table ++ label.0 ∷ []) label.1)

  step : length table < count → total ≡ label_then (line_value BadLabelTable (new_label table) place)
  step h = so_far ∙ ap (λ (n : ℕ). labels_at n table place) {y = suc (count - (length table + 1))} (omega arith)

  pub labels_at-fault : (fault : CertFault) → length table < count → line_value BadLabelTable (new_label table) place ≡ Err fault → total ≡ Err fault
  labels_at-fault fault h e = step h ∙ ap label_then e

  pub labels_at-next : (label : Label) (after : Place) → length table < count → line_value BadLabelTable (new_label table) place ≡ Ok (label, after) → total ≡ labels_at (count - length (table ++ label ∷ [])) (table ++ label ∷ []) after
  labels_at-next label after h e =
      step h ∙ ap label_then e ∙ ap (λ (n : ℕ). labels_at (count - n) (table ++ label ∷ []) after) (sym (length_push table label))

-- Reading a node from its line.

abbrev Read : Type 0
Read = Result (Tree × Place) CertFault

module _ (due : Place → Result (DueLine × Place) CertFault) (table : List Label) (place after : Place) where
  abbrev then_in : ℕ → Result (DueLine × Place) CertFault → Read
  then_in room r = r >>= (λ line. due_node table room place (inside_of due table room place) line.0 line.1)

  pub node-fault : (room : ℕ) (fault : CertFault) → due place ≡ Err fault → nodes_at due table room 0 place ≡ Err fault
  node-fault room fault e = nodes-step due table room place ∙ ap (then_in room) e

  pub node-leaf : (room number : ℕ) → due place ≡ Ok (LeafLine number, after)
      → nodes_at due table room 0 place ≡ Ok (LeafNode (text_at table number), after)
  node-leaf room number e = nodes-step due table room place ∙ ap (then_in room) e

  module _ (cost : ℕ) (numbers : List ℕ) where
    abbrev claim : Claim
    claim = record { cost = cost; labels = map (text_at table) numbers }

    module _ (is : due place ≡ Ok (InnerLine cost numbers, after)) where
      pub node-deep : nodes_at due table 0 0 place ≡ Err (fault_at place TooDeep)
      node-deep = nodes-step due table zero place ∙ ap (then_in zero) is

      abbrev upper_then : Tree → Read → Read
      upper_then lower r = r >>= (λ upper. Ok (InnerNode claim lower upper.0, upper.1))

      abbrev lower_then : ℕ → Read → Read
      lower_then room r = r >>= (λ lower. upper_then lower.0 (nodes_at due table room 0 lower.1))

      inner : (room : ℕ) → nodes_at due table (suc room) 0 place ≡ lower_then room (nodes_at due table room 0 after)
      inner room = nodes-step due table (suc room) place ∙ ap (then_in (suc room)) is

      -- an inner node is read by its halves if there is room below it
      pub deeper : (room : ℕ) → 0 < room → nodes_at due table room 0 place ≡ lower_then (room - 1) (nodes_at due table (room - 1) 0 after)
      deeper room h =
          let is : suc (room - 1) ≡ room = omega arith in
          ap (λ (n : ℕ). nodes_at due table n 0 place) (sym is) ∙ inner (room - 1)

      pub node-lower_fault : (room : ℕ) → 0 < room → (fault : CertFault) → nodes_at due table (room - 1) 0 after ≡ Err fault → nodes_at due table room 0 place ≡ Err fault
      node-lower_fault room h fault e = deeper room h ∙ ap (lower_then (room - 1)) e

      module _ (room : ℕ) (h : 0 < room) (lower : Tree) (middle : Place) (first : nodes_at due table (room - 1) 0 after ≡ Ok (lower, middle)) where
        second : nodes_at due table room 0 place ≡ upper_then lower (nodes_at due table (room - 1) 0 middle)
        second = deeper room h ∙ ap (lower_then (room - 1)) first

        pub node-upper_fault : (fault : CertFault) → nodes_at due table (room - 1) 0 middle ≡ Err fault → nodes_at due table room 0 place ≡ Err fault
        node-upper_fault fault e = second ∙ ap (upper_then lower) e

        pub node-inner : (upper : Tree) (end : Place) → nodes_at due table (room - 1) 0 middle ≡ Ok (upper, end) → nodes_at due table room 0 place ≡ Ok (InnerNode claim lower upper, end)
        node-inner upper end e = second ∙ ap (upper_then lower) e

    abbrev pub end_then : List Bool → ℕ → Read → Read
    end_then bits side r = r >>= (λ end. Ok (ChainNode claim bits (text_at table side) end.0, end.1))

    pub chain-deep : (bits : List Bool) (side room : ℕ) → due place ≡ Ok (ChainLine cost bits side numbers, after) → room < length bits → 0 < length bits
        → nodes_at due table room 0 place ≡ Err (fault_at place TooDeep)
    chain-deep [] side room is h some = absurd (omega arith)
    chain-deep (bit ∷ bits) side room is h some =
        nodes-step due table room place ∙ ap (then_in room) is
        ∙ cond-false (nat_le (suc (length bits)) room) (end_then (bit ∷ bits) side (inside_of due table room place (length bits) after)) (Err (fault_at place TooDeep)) (lt-leb _ _ (omega arith))

    pub chain-in : (bits : List Bool) (side room : ℕ) → due place ≡ Ok (ChainLine cost bits side numbers, after) → length bits ≤ room → 0 < length bits
        → nodes_at due table room 0 place ≡ end_then bits side (nodes_at due table (room - length bits) 0 after)
    chain-in [] side room is h some = absurd (omega arith)
    chain-in (bit ∷ bits) side zero is h some = absurd (omega arith)
    chain-in (bit ∷ bits) side (suc room) is h some =
        nodes-step due table (suc room) place ∙ ap (then_in (suc room)) is
        ∙ cond-true (nat_le (suc (length bits)) (suc room)) (end_then (bit ∷ bits) side (nodes_at due table room (length bits) after)) (Err (fault_at place TooDeep)) (le-leb _ _ (omega arith))
        ∙ ap (end_then (bit ∷ bits) side)
        (nodes_at-down due table room (length bits) (suc room - suc (length bits)) after (omega arith))

-- Nodes with the lines of a format.
module _ (format : Format) (most : ℕ) (table : List Label) where
  abbrev pub due_in : Place → Result (DueLine × Place) CertFault
  due_in = line_due_at (format_number format) most (length table)

  -- the line of a chain that was read has a bit
  pub chain-bits : (place after : Place) (cost : ℕ) (bits : List Bool) (side : ℕ) (numbers : List ℕ) → due_in place ≡ Ok (ChainLine cost bits side numbers, after)
      → 0 < length bits
  chain-bits place after cost bits side numbers is =
      let said = line_due-found (format_number format) most (length table) place (ChainLine cost bits side numbers, after) is in said.1.2

  -- the node of a chain's line, by the number of its bits
  module _ (place after : Place) (cost : ℕ) (bits : List Bool) (side : ℕ) (numbers : List ℕ) (due : due_in place ≡ Ok (ChainLine cost bits side numbers, after))
      (room count : ℕ) (is : count ≡ length bits) where
    pub chain-over : room < count → nodes_at due_in table room 0 place ≡ Err (fault_at place TooDeep)
    chain-over more = chain-deep due_in table place after cost numbers bits side room due (omega (arith, more, is)) (chain-bits place after cost bits side numbers due)

    pub chain-below : count ≤ room → (below : Read) → nodes_at due_in table (room - count) 0 after ≡ below
        → nodes_at due_in table room 0 place ≡ end_then due_in table place after cost numbers bits side below
    chain-below fits below e =
        chain-in due_in table place after cost numbers bits side room due (omega (arith, fits, is)) (chain-bits place after cost bits side numbers due)
        ∙ ap (end_then due_in table place after cost numbers bits side) (ap (λ (n : ℕ). nodes_at due_in table (room - n) 0 after) (sym is) ∙ e)

  -- a leaf that was read, and its line after the old ones
  pub read-leaf : (room : ℕ) (place after : Place) (number : ℕ) (old new : List DueLine) → due_in place ≡ Ok (LeafLine number, after)
      → new ≡ old ++ LeafLine number ∷ [] → IsReadNode format most table room place old new after
  read-leaf room place after number old new due is =
      let said = line_due-found (format_number format) most (length table) place (LeafLine number, after) due in record {
        node = LeafNode number;
        read = node-leaf due_in table place after room number due;
        form = said.1;
        kind = λ one. tt;
        lines = is;
      }

  pub read-inner : (room : ℕ) (place after middle end : Place) (cost : ℕ) (numbers : List ℕ) (old first second third : List DueLine)
      → due_in place ≡ Ok (InnerLine cost numbers, after) → 0 < room → first ≡ old ++ InnerLine cost numbers ∷ []
      → IsReadNode format most table (room - 1) after first second middle → IsReadNode format most table (room - 1) middle second third end
      → IsReadNode format most table room place old third end
  read-inner room place after middle end cost numbers old first second third due some is low up =
      let said = line_due-found (format_number format) most (length table) place (InnerLine cost numbers, after) due in
      let more : suc (room - 1) ≡ room = omega arith in
      let node : Node = InnerNode (claiming cost numbers) low.node up.node in record {
        node = node;
        read = node-inner due_in table place after cost numbers due room some (tree_of table low.node) middle low.read (tree_of table up.node) end up.read;
        form = subst (HasChainForm (length table) node) more (said.1.0, said.1.1, low.form, up.form);
        kind = λ one. (low.kind one, up.kind one);
        lines =
            up.lines ∙ ap (λ (ls : List DueLine). ls ++ node_lines up.node) (low.lines ∙ ap (λ (ls : List DueLine). ls ++ node_lines low.node) is)
            ∙ append_assoc (old ++ InnerLine cost numbers ∷ []) (node_lines low.node) (node_lines up.node)
            ∙ append_assoc old (InnerLine cost numbers ∷ []) (node_lines low.node ++ node_lines up.node);
      }

  pub read-chain : (room : ℕ) (place after end : Place) (cost : ℕ) (bits : List Bool) (side : ℕ) (numbers : List ℕ) (old first second : List DueLine)
      → due_in place ≡ Ok (ChainLine cost bits side numbers, after) → length bits ≤ room → first ≡ old ++ ChainLine cost bits side numbers ∷ []
      → IsReadNode format most table (room - length bits) after first second end → IsReadNode format most table room place old second end
  read-chain room place after end cost bits side numbers old first second due fits is last =
      let said = line_due-found (format_number format) most (length table) place (ChainLine cost bits side numbers, after) due in
      let some = said.1.2 in record {
        node = ChainNode (claiming cost numbers) bits side last.node;
        read =
            chain-in due_in table place after cost numbers bits side room due fits some
            ∙ ap (end_then due_in table place after cost numbers bits side) last.read;
        form = (
          said.1.1,
          said.1.5,
          said.1.4,
          some,
          room-left (HasChainForm (length table) last.node) bits room (room - length bits) (omega arith) last.form,
        );
        kind = λ one. absurd (omega (arith, said.1.0, ap format_number one));
        lines =
            last.lines ∙ ap (λ (ls : List DueLine). ls ++ node_lines last.node) is
            ∙ append_assoc old (ChainLine cost bits side numbers ∷ []) (node_lines last.node);
      }
