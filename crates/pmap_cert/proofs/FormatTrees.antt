-- The nodes of a certificate of either format, read and written.
use Rattle.std.proofs.Common.{◌≡◌, ℕ, zero, suc, ◌+◌, ◌-◌, ◌^◌, ◌<◌, ◌≤◌, ◌∙◌, Bool, true, false, List, [], ◌∷◌, ◌++◌, Result, Ok, Err, cond, length, map, nat_le, refl, sym, ap, subst, arith, ⊎_elim}
use Rattle.std.proofs.lemmas.Bool.{cond-false, cond-true, le-leb, leb-true}
use Rattle.std.proofs.lemmas.List.{append_assoc, length-append, map-append}
use Rattle.pmap_model.specs.MapModel.{Label}
use Rattle.pmap_model.specs.Steps.{◌>>=◌}
use Rattle.pmap_model.specs.MapText.{text_at}
use Rattle.pmap_cert.specs.CertificateText.{HasChainForm, node_lines}
use Rattle.pmap_cert.specs.Node.{Node, claiming, tree_of}
use Rattle.pmap_cert.specs.CertificateModel.{ChainNode, InnerNode, LeafNode, Claim, Tree, IsPlain}
use Rattle.pmap_cert.specs.FormatReading.{ChainLine, DueLine, InnerLine, LeafLine, Place, due_node, fault_at, fits_line, is_ended, likely_line, line_due_at, node_line_text, nodes_at, CertFault, BadNode, NodesMissing, TooDeep}
use Rattle.pmap_cert.proofs.ChainWords.{left-room, room-left}
use Rattle.pmap_cert.proofs.PrintedLines.{FitsLine, IsNumbered, due-again, line-fits, printed-found}
use Rattle.pmap_cert.proofs.Tables.{bind_ok, ok_is}

-- a line that is read is the text of its value, which fits
pub line_due-found : (format most count : ℕ) (place : Place) (x : DueLine × Place) → line_due_at format most count place ≡ Ok x →
    (place.pieces ≡ node_line_text x.0 ∷ x.1.pieces) × FitsLine format most count x.0
line_due-found format most count place x e =
    let found = printed-found (fits_line format most count) node_line_text likely_line (cond (is_ended place.pieces) NodesMissing BadNode) place x e in
    (found.0, line-fits format most count x.0 found.1)

-- the lines that were read are those of a node with the tree's labels, which is well formed and has no chain in format 1
pub record IsReadIn (table : List Label) (format room : ℕ) (place : Place) (x : Tree × Place) : Type 0 where
  pub node : Node
  pub tree : tree_of table node ≡ x.0
  pub lines : place.pieces ≡ map node_line_text (node_lines node) ++ x.1.pieces
  pub form : HasChainForm (length table) node room
  pub plain : format ≡ 1 → IsPlain node

-- the texts of two lists of lines before others
pub lines-append : (lines more : List DueLine) (rest : List (List ℕ)) → map node_line_text (lines ++ more) ++ rest ≡ map node_line_text lines ++ (map node_line_text more ++ rest)
lines-append lines more rest = ap (λ (t : List (List ℕ)). t ++ rest) (map-append node_line_text lines more) ∙ append_assoc (map node_line_text lines) (map node_line_text more) rest

not-ok : (fault : CertFault) (x : Tree × Place) → ◌≡◌ {A = Result (Tree × Place) CertFault} (Err fault) (Ok x) → ⊥
not-ok fault x e = cc

-- reads a node that is a number of levels and one more below a node that may have `room` levels below it
abbrev pub inside_of : (Place → Result (DueLine × Place) CertFault) → List Label → ℕ → Place → ℕ → Place → Result (Tree × Place) CertFault
inside_of due table zero place = λ deeper after. Err (fault_at place TooDeep)
inside_of due table (suc room) place = nodes_at due table room

-- a node is read by its line and the nodes below it
pub nodes-step : (due : Place → Result (DueLine × Place) CertFault) (table : List Label) (room : ℕ) (place : Place) → nodes_at due table room 0 place
    ≡ due place >>= (λ line. due_node table room place (inside_of due table room place) line.0 line.1)
unfolding nodes_at
nodes-step due table zero place = refl
nodes-step due table (suc room) place = refl

-- a node `down` levels below another is read in the room that is left
pub nodes_at-down : (due : Place → Result (DueLine × Place) CertFault) (table : List Label) (room down left : ℕ) (place : Place) → room ≡ down + left →
    nodes_at due table room down place ≡ nodes_at due table left zero place
unfolding nodes_at
nodes_at-down due table zero down left place deep =
    let same : zero ≡ left = omega (arith, deep) in
    subst (λ (l : ℕ). nodes_at due table zero down place ≡ nodes_at due table l zero place) same refl
nodes_at-down due table (suc room) zero left place deep =
    let same : suc room ≡ left = omega (arith, deep) in
    ap (λ (l : ℕ). nodes_at due table l zero place) same
nodes_at-down due table (suc room) (suc down) left place deep = nodes_at-down due table room down left place (omega (arith, deep))

module _ (table : List Label) (format most : ℕ) where
  abbrev due : Place → Result (DueLine × Place) CertFault
  due = line_due_at format most (length table)

  abbrev claim_at : ℕ → List ℕ → Claim
  claim_at cost numbers = record { cost = cost; labels = map (text_at table) numbers }

  -- the line is the next one, and it fits
  abbrev IsNext : DueLine → Place → Place → Type 0
  IsNext line place after = (place.pieces ≡ node_line_text line ∷ after.pieces) × FitsLine format most (length table) line

  leaf-read : (room number : ℕ) (place after : Place) (x : Tree × Place) → IsNext (LeafLine number) place after →
      ◌≡◌ {A = Result (Tree × Place) CertFault} (Ok (LeafNode (text_at table number), after)) (Ok x) → IsReadIn table format room place x
  leaf-read room number place after x next e =
      subst (IsReadIn table format room place) (ok_is (LeafNode (text_at table number), after) x e)
      (record { node = LeafNode number; tree = refl; lines = next.0; form = next.1; plain = λ first. tt })

  inner-read : (room cost : ℕ) (numbers : List ℕ) (place after : Place) (x lower upper : Tree × Place) → IsNext (InnerLine cost numbers) place after →
      IsReadIn table format room after lower → IsReadIn table format room lower.1 upper →
      (InnerNode (claim_at cost numbers) lower.0 upper.0, upper.1) ≡ x → IsReadIn table format (suc room) place x
  inner-read room cost numbers place after x lower upper next low up e =
      subst (IsReadIn table format (suc room) place) e (record {
        node = InnerNode (claiming cost numbers) low.node up.node;
        tree = λ i. InnerNode (claim_at cost numbers) (low.tree i) (up.tree i);
        lines =
            next.0
            ∙ ap (λ (more : List (List ℕ)). node_line_text (InnerLine cost numbers) ∷ more)
            (low.lines ∙ ap (λ (more : List (List ℕ)). map node_line_text (node_lines low.node) ++ more) up.lines
            ∙ sym (lines-append (node_lines low.node) (node_lines up.node) upper.1.pieces));
        form = (next.1.0, next.1.1, low.form, up.form);
        plain = λ first. (low.plain first, up.plain first);
      })

  not-both : format ≡ 1 → format ≡ 2 → ⊥
  not-both one two = omega (arith, one, two)

  chain-read : (room left cost : ℕ) (bits : List Bool) (side : ℕ) (numbers : List ℕ) (place after : Place) (x last : Tree × Place) →
      IsNext (ChainLine cost bits side numbers) place after →
      room ≡ length bits + left → IsReadIn table format left after last →
      (ChainNode (claim_at cost numbers) bits (text_at table side) last.0, last.1) ≡ x → IsReadIn table format room place x
  chain-read room left cost bits side numbers place after x last next deep end e =
      subst (IsReadIn table format room place) e (record {
        node = ChainNode (claiming cost numbers) bits side end.node;
        tree = ap (ChainNode (claim_at cost numbers) bits (text_at table side)) end.tree;
        lines = next.0 ∙ ap (λ (more : List (List ℕ)). node_line_text (ChainLine cost bits side numbers) ∷ more) end.lines;
        form = (next.1.1, next.1.5, next.1.4, next.1.2, room-left (HasChainForm (length table) end.node) bits room left deep end.form);
        plain = λ first. absurd (not-both first next.1.0);
      })

  -- what is read below a node is well formed in the room that is left
  abbrev IsFoundBelow : ℕ → Place → Type 0
  IsFoundBelow room place = (deeper left : ℕ) (after : Place) (x : Tree × Place) → room ≡ suc deeper + left →
      inside_of due table room place deeper after ≡ Ok x → IsReadIn table format left after x

  found-by : (room : ℕ) (place after : Place) (x : Tree × Place) (line : DueLine) → IsFoundBelow room place → IsNext line place after →
      due_node table room place (inside_of due table room place) line after ≡ Ok x → IsReadIn table format room place x
  found-by room place after x (LeafLine number) below next e = leaf-read room number place after x next e
  found-by zero place after x (InnerLine cost numbers) below next e = absurd cc
  found-by (suc room) place after x (InnerLine cost numbers) below next e =
      let claim : Claim = claim_at cost numbers in
      let low = bind_ok (nodes_at due table room 0 after) (λ (lower : Tree × Place). nodes_at due table room 0 lower.1 >>= (λ (upper : Tree × Place). Ok (InnerNode claim lower.0 upper.0, upper.1))) x e in
      let up = bind_ok (nodes_at due table room 0 low.0.1) (λ (upper : Tree × Place). Ok (InnerNode claim low.0.0 upper.0, upper.1)) x low.2 in
      inner-read room cost numbers place after x low.0 up.0 next
      (below 0 room after low.0 (omega arith) low.1) (below 0 room low.0.1 up.0 (omega arith) up.1)
      (ok_is (InnerNode claim low.0.0 up.0.0, up.0.1) x up.2)
  found-by room place after x (ChainLine cost [] side numbers) below next e = absurd cc
  found-by room place after x (ChainLine cost (bit ∷ bits) side numbers) below next e = by (nat_le (suc (length bits)) room) refl
    where
      inside : Result (Tree × Place) CertFault
      inside = inside_of due table room place (length bits) after

      chain : Tree × Place → Result (Tree × Place) CertFault
      chain last = Ok (ChainNode (claim_at cost numbers) (bit ∷ bits) (text_at table side) last.0, last.1)

      by : (b : Bool) → nat_le (suc (length bits)) room ≡ b → IsReadIn table format room place x
      by false h = absurd (not-ok (fault_at place TooDeep) x (sym (cond-false (nat_le (suc (length bits)) room) (inside >>= chain) (Err (fault_at place TooDeep)) h) ∙ e))
      by true h =
          let fits : suc (length bits) ≤ room = leb-true (suc (length bits)) room h in
          let left : ℕ = room - suc (length bits) in
          let deep : room ≡ suc (length bits) + left = omega (arith, fits) in
          let last = bind_ok inside chain x (sym (cond-true (nat_le (suc (length bits)) room) (inside >>= chain) (Err (fault_at place TooDeep)) h) ∙ e) in
          chain-read room left cost (bit ∷ bits) side numbers place after x last.0 next deep (below (length bits) left after last.0 deep last.1)
          (ok_is (ChainNode (claim_at cost numbers) (bit ∷ bits) (text_at table side) last.0.0, last.0.1) x last.2)

  found-at : (room : ℕ) (place : Place) (x : Tree × Place) → IsFoundBelow room place → nodes_at due table room 0 place ≡ Ok x → IsReadIn table format room place x
  found-at room place x below e =
      let found = bind_ok (due place) (λ (line : DueLine × Place). due_node table room place (inside_of due table room place) line.0 line.1) x
      (sym (nodes-step due table room place) ∙ e) in
      found-by room place found.0.1 x found.0.0 below (line_due-found format most (length table) place found.0 found.1) found.2

  -- a node that is read `down` levels below another is well formed in the room that is left
  pub nodes_at-found : (room down left : ℕ) (place : Place) (x : Tree × Place) → room ≡ down + left →
      nodes_at due table room down place ≡ Ok x → IsReadIn table format left place x
  nodes_at-found zero down left place x deep e =
      subst (λ (r : ℕ). IsReadIn table format r place x) (omega (arith, deep))
      (found-at zero place x (λ deeper left after y more. absurd (omega (arith, more))) (sym (nodes_at-down due table zero down zero place (omega (arith, deep))) ∙ e))
  nodes_at-found (suc room) zero left place x deep e =
      subst (λ (r : ℕ). IsReadIn table format r place x) (omega (arith, deep))
      (found-at (suc room) place x (λ deeper rest after y more. nodes_at-found room deeper rest after y (omega (arith, more))) e)
  nodes_at-found (suc room) (suc down) left place x deep e =
      nodes_at-found room down left place x (omega (arith, deep))
      (nodes_at-down due table room down left place (omega (arith, deep)) ∙ sym (nodes_at-down due table (suc room) (suc down) left place deep) ∙ e)

  abbrev at : ℕ → List (List ℕ) → Place
  at number pieces = record { number = number; pieces = pieces }

  abbrev IsAgain : Node → ℕ → List (List ℕ) → ℕ → Type 0
  IsAgain node room rest number =
      (n : ℕ) × (nodes_at due table room zero (at number (map node_line_text (node_lines node) ++ rest)) ≡ Ok (tree_of table node, at n rest))

  -- the lines of a well-formed node are read as the node
  pub nodes_at-again : length table ≤ 2 ^ 32 → (node : Node) (room : ℕ) (rest : List (List ℕ)) (number : ℕ) → room ≤ most → HasChainForm (length table) node room
      → IsNumbered format → (format ≡ 1 → IsPlain node) → 0 < length rest → IsAgain node room rest number
  unfolding nodes_at
  nodes_at-again few (LeafNode label) room rest number most_room form numbered plain some =
      let here : Place = at number (node_line_text (LeafLine label) ∷ rest) in (
        number + 1,
        nodes-step due table room here
            ∙ ap (λ (r : Result (DueLine × Place) CertFault). r >>= (λ line. due_node table room here (inside_of due table room here) line.0 line.1)) (due-again format most (length table) few (LeafLine label) number rest form some),
      )
  nodes_at-again few (InnerNode claim lower upper) zero rest number most_room form numbered plain some = absurd form
  nodes_at-again few (InnerNode claim lower upper) (suc room) rest number most_room form numbered plain some =
      let low : List (List ℕ) = map node_line_text (node_lines lower) in
      let up : List (List ℕ) = map node_line_text (node_lines upper) in
      let following : 0 < length (up ++ rest) = omega (arith, length-append up rest) in
      let line = due-again format most (length table) few (InnerLine claim.cost claim.labels) number (low ++ (up ++ rest)) (form.0, form.1) (omega (arith, length-append low (up ++ rest))) in
      let first = nodes_at-again few lower room (up ++ rest) (number + 1) (omega arith) form.2 numbered (λ one. (plain one).0) following in
      let second = nodes_at-again few upper room rest first.0 (omega arith) form.3 numbered (λ one. (plain one).1) some in
      let here : Place = at number (node_line_text (InnerLine claim.cost claim.labels) ∷ (low ++ (up ++ rest))) in (
        second.0,
        ap (λ (lines : List (List ℕ)). nodes_at due table (suc room) zero (at number (node_line_text (InnerLine claim.cost claim.labels) ∷ lines))) (lines-append (node_lines lower) (node_lines upper) rest)
            ∙ ap (λ (r : Result (DueLine × Place) CertFault). r >>= (λ line. due_node table (suc room) here (nodes_at due table room) line.0 line.1)) line
            ∙ ap (λ (r : Result (Tree × Place) CertFault). r >>= (λ l. nodes_at due table room 0 l.1 >>= (λ u. Ok (InnerNode (claim_at claim.cost claim.labels) l.0 u.0, u.1)))) first.1
            ∙ ap (λ (r : Result (Tree × Place) CertFault). r >>= (λ u. Ok (InnerNode (claim_at claim.cost claim.labels) (tree_of table lower) u.0, u.1))) second.1,
      )
  nodes_at-again few (ChainNode claim [] side end) room rest number most_room form numbered plain some =
      absurd (omega (arith, form.3))
  nodes_at-again few (ChainNode claim (bit ∷ bits) side end) zero rest number most_room form numbered plain some = absurd form.4
  nodes_at-again few (ChainNode claim (bit ∷ bits) side end) (suc room) rest number most_room form numbered plain some =
      let two : format ≡ 2 = ⊎_elim (λ one. absurd (plain one)) (λ two. two) numbered in
      let below = left-room (HasChainForm (length table) end) bits room form.4 in
      let lines : List (List ℕ) = map node_line_text (node_lines end) in
      let line = due-again format most (length table) few (ChainLine claim.cost (bit ∷ bits) side claim.labels) number (lines ++ rest)
      (two, form.0, omega arith, omega (arith, below.1), form.2, form.1) (omega (arith, length-append lines rest)) in
      let last = nodes_at-again few end below.0 rest (number + 1) (omega (arith, below.1)) below.2 numbered (λ one. absurd (not-both one two)) some in
      let here : Place = at number (node_line_text (ChainLine claim.cost (bit ∷ bits) side claim.labels) ∷ (lines ++ rest)) in
      let chain : Tree × Place → Result (Tree × Place) CertFault =
      λ e. Ok (ChainNode (claim_at claim.cost claim.labels) (bit ∷ bits) (text_at table side) e.0, e.1) in (
        last.0,
        ap (λ (r : Result (DueLine × Place) CertFault). r >>= (λ line. due_node table (suc room) here (nodes_at due table room) line.0 line.1)) line
            ∙ cond-true (nat_le (suc (length bits)) (suc room)) (nodes_at due table room (length bits) (at (number + 1) (lines ++ rest)) >>= chain) (Err (fault_at here TooDeep))
            (le-leb (suc (length bits)) (suc room) (omega (arith, below.1)))
            ∙ ap (λ (r : Result (Tree × Place) CertFault). r >>= chain) (nodes_at-down due table room (length bits) below.0 (at (number + 1) (lines ++ rest)) below.1 ∙ last.1),
      )
