-- A text of either format is read exactly if it is the text of a certificate.
use Rattle.std.proofs.Common.{◌≡◌, ◌≢◌, ℕ, true, false, ◌+◌, ◌<◌, ◌≤◌, ◌∙◌, ◌⊎◌, ◌↔◌, inl, inr, List, [], ◌∷◌, ◌++◌, Result, Ok, Err, length, refl, sym, ap, subst, arith, zero, suc, Bool, map}
use Rattle.std.specs.Result.{IfErr, IfOk}
use Rattle.std.proofs.lemmas.Bool.{cond-false, cond-true}
use Rattle.std.proofs.lemmas.List.{append_assoc, length-append, map-append}
use Rattle.prefix_keys.specs.Block.{width_of}
use Rattle.prefix_keys.specs.declared.version.Version.{Version}
use Rattle.pmap_model.specs.Label.{IsLabelTable}
use Rattle.pmap_model.specs.MapModel.{Label}
use Rattle.pmap_model.specs.MapText.{text_at}
use Rattle.pmap_model.specs.Steps.{◌>>=◌}
use Rattle.pmap_cert.specs.Certificate.{certificate_of, Certificate}
use Rattle.pmap_cert.specs.CertificateText.{HasChainForm, HasFormatText, HasNodeForm, certificate_text, format_header, node_lines, place_of}
use Rattle.pmap_cert.specs.Node.{Node}
use Rattle.pmap_cert.specs.CertificateModel.{CertificateModel, Tree, ChainNode, InnerNode, LeafNode, IsOfFormat, IsPlain, map_tree}
use Rattle.pmap_cert.specs.FormatReading.{ChainLine, DueLine, InnerLine, LeafLine, Place, ended_by, fault_at, fits_header, format_header_at, format_reading, is_ended, labels_at, likely_header, line_due_at, node_line_text, nodes_at, pieces_of, start_of, CertFault, CertFaultKind, BadHeader, BadLabelTable, BadNode, NoMemory, NodesLeft, NodesMissing, TooDeep}
use Rattle.pmap_cert.proofs.Filters.{all-append}
use Rattle.pmap_cert.proofs.PrintedLines.{FitsLine, IsNumbered, Said, fits-header, fits-line, header-fits, header-read, line-lacks, printed-again, printed-found}
use Rattle.pmap_cert.proofs.FormatTrees.{nodes_at-again, nodes_at-found}
use Rattle.pmap_cert.proofs.Headers.{table-lacks}
use Rattle.pmap_cert.proofs.Pieces.{pieces-lines, text_from_pieces}
use Rattle.pmap_cert.proofs.Relabelled.{plain-map}
use Rattle.pmap_cert.proofs.Tables.{bind_ok, labels_at-again, labels_at-found, ok_is}
use Rattle.pmap_cert.proofs.Written.{line_texts-tree, node_form, node_line_texts, texts-tree}
use Rattle.std.specs.List.{AllByRecursion}
use Rattle.std.proofs.lemmas.Option.{none-some}
use Rattle.prefix_keys.proofs.Printed.{Lacks}
use Rattle.pmap_cert.proofs.ChainWords.{left-room}

pub no_labels : IsLabelTable []
no_labels = record { few = omega arith; labels = λ i text e. absurd (none-some text e); places = λ i text e. absurd (none-some text e) }

-- a text at its end is one empty piece
ended-is : (pieces : List (List ℕ)) → is_ended pieces ≡ true → pieces ≡ [] ∷ []
ended-is [] h = absurd cc
ended-is ([] ∷ []) h = refl
ended-is ([] ∷ next ∷ pieces) h = absurd cc
ended-is ((b ∷ bs) ∷ pieces) h = absurd cc

pub ended_by-found : (c : CertificateModel) (place : Place) (x : CertificateModel) → ended_by c place ≡ Ok x → (place.pieces ≡ [] ∷ []) × (c ≡ x)
ended_by-found c place x e = by (is_ended place.pieces) refl
  where
    failed : ◌≡◌ {A = Result CertificateModel CertFault} (Err (fault_at place NodesLeft)) (Ok x) → ⊥
    failed e = cc

    by : (b : Bool) → is_ended place.pieces ≡ b → (place.pieces ≡ [] ∷ []) × (c ≡ x)
    by true h = (ended-is place.pieces h, ok_is c x (sym (cond-true (is_ended place.pieces) (Ok c) (Err (fault_at place NodesLeft)) h) ∙ e))
    by false h = absurd (failed (sym (cond-false (is_ended place.pieces) (Ok c) (Err (fault_at place NodesLeft)) h) ∙ e))

-- no line of a certificate has a line feed inside
module _ (table : List Label) (ok : IsLabelTable table) where
  lacks : (most : ℕ) (line : DueLine) → FitsLine 2 most (length table) line → Lacks 10 (node_line_text line)
  lacks most line fits =
      let few = ok.few in line-lacks 2 most (length table) (omega arith) line (fits-line 2 most (length table) line fits)

  nodes-lack : (node : Node) (room : ℕ) → HasChainForm (length table) node room → AllByRecursion (Lacks 10) (map node_line_text (node_lines node))
  nodes-lack (LeafNode number) room form = (lacks 0 (LeafLine number) form, tt)
  nodes-lack (ChainNode claim bits side end) room form =
      let last = left-room (HasChainForm (length table) end) bits room form.4 in (
        lacks (length bits) (ChainLine claim.cost bits side claim.labels) (refl, form.0, form.3, omega arith, form.2, form.1),
        nodes-lack end last.0 last.2,
      )
  nodes-lack (InnerNode claim lower upper) zero form = absurd form
  nodes-lack (InnerNode claim lower upper) (suc room) form = (
    lacks 0 (InnerLine claim.cost claim.labels) (form.0, form.1),
    subst (AllByRecursion (Lacks 10)) (sym (map-append node_line_text (node_lines lower) (node_lines upper)))
        (all-append (Lacks 10) (map node_line_text (node_lines lower)) (map node_line_text (node_lines upper)) (nodes-lack lower room form.2) (nodes-lack upper room form.3)),
  )

abbrev pub certificate_at : ℕ → Version → List Label → Tree → CertificateModel
certificate_at format version table root = record { format = format; version = version; table = table; root = root }

abbrev pub due : ℕ → Version → List Label → Place → Result (DueLine × Place) CertFault
due format version table = line_due_at format (width_of version) (length table)

abbrev pub root_then : ℕ → Version → List Label → Result (Tree × Place) CertFault → Result CertificateModel CertFault
root_then format version table r = r >>= (λ root. ended_by (certificate_at format version table root.0) root.1)

abbrev pub labels_then : ℕ → Version → Result (List Label × Place) CertFault → Result CertificateModel CertFault
labels_then format version r =
    r >>= (λ labels. root_then format version labels.0 (nodes_at (due format version labels.0) labels.0 (width_of version) 0 labels.1))

abbrev pub header_then : Result (Said × Place) CertFault → Result CertificateModel CertFault
header_then r = r >>= (λ header. labels_then header.0.0 header.0.1.0 (labels_at header.0.1.1 [] header.1))

pub reading-steps : (text : List ℕ) → format_reading text ≡ header_then (format_header_at (start_of text))
unfolding format_reading
reading-steps text = λ i. header_then (format_header_at (start_of text))

-- the pieces that the steps of a reading leave make up the lines of a certificate
joined-pieces : (all following_header following_labels following_nodes : List (List ℕ)) (format : ℕ) (version : Version) (count : ℕ) (table : List Label)
    (lines : List (List ℕ)) → all ≡ format_header (format, (version, count)) ∷ following_header → following_header ≡ table ++ following_labels →
    following_labels ≡ lines ++ following_nodes → following_nodes ≡ [] ∷ [] → count ≡ length table →
    all ≡ (format_header (format, (version, length table)) ∷ (table ++ lines)) ++ [] ∷ []
joined-pieces all following_header following_labels following_nodes format version count table lines e f g h is =
    e
    ∙ (λ i. format_header (format, (version, is i))
    ∷ (f ∙ ap (λ rest. table ++ rest) (g ∙ ap (λ rest. lines ++ rest) h) ∙ sym (append_assoc table lines ([] ∷ []))) i)

of-format : (c : CertificateModel) → IsNumbered c.format → (c.format ≡ 1 → IsPlain c.root) → IsOfFormat c
of-format c (inl first) plain = inl (first, plain first)
of-format c (inr second) plain = inr second

-- pieces that are read are the lines of their certificate, which is well formed, and an empty piece
-- the lines of a certificate's text
abbrev certificate_lines : CertificateModel → List (List ℕ)
certificate_lines c =
    format_header (c.format, (c.version, length c.table))
    ∷ (c.table ++ map node_line_text (node_lines (map_tree (place_of c.table) c.root)))

pub pieces-found : (pieces : List (List ℕ)) (c : CertificateModel) → header_then (format_header_at (record { number = 0; pieces = pieces })) ≡ Ok c
    → HasFormatText c × (pieces ≡ certificate_lines c ++ [] ∷ [])
pieces-found pieces c e =
    let start : Place = record { number = 0; pieces = pieces } in
    let header = bind_ok (format_header_at start) (λ (header : Said × Place). labels_then header.0.0 header.0.1.0 (labels_at header.0.1.1 [] header.1)) c e in
    let format : ℕ = header.0.0.0 in
    let version : Version = header.0.0.1.0 in
    let count : ℕ = header.0.0.1.1 in
    let labels = bind_ok (labels_at count [] header.0.1) (λ (labels : List Label × Place). root_then format version labels.0 (nodes_at (due format version labels.0) labels.0 (width_of version) 0 labels.1)) c header.2 in
    let table : List Label = labels.0.0 in
    let root = bind_ok (nodes_at (due format version table) table (width_of version) 0 labels.0.1) (λ (root : Tree × Place). ended_by (certificate_at format version table root.0) root.1) c labels.2 in
    let end = ended_by-found (certificate_at format version table root.0.0) root.0.1 c root.2 in
    let head = printed-found fits_header format_header likely_header BadHeader start header.0 header.1 in
    let fits = header-fits header.0.0 head.1 in
    let few : 0 + count ≤ 65536 = omega (arith, fits.1) in
    let read = labels_at-found count [] header.0.1 labels.0 labels.1 no_labels few in
    let nodes = nodes_at-found table format (width_of version) (width_of version) 0 (width_of version) labels.0.1 root.0 (omega arith) root.1 in
    let W : ℕ = width_of version in
    let texts : map node_line_text (node_lines nodes.node) ≡ node_line_texts table root.0.0 = line_texts-tree table read.3 nodes.node W nodes.form ∙ ap (node_line_texts table) nodes.tree in
    let count_is : count ≡ length table = sym read.4 ∙ ap (λ (t : List Label). length t) (sym read.1) in
    let made : CertificateModel = certificate_at format version table root.0.0 in
    let lines : pieces ≡ certificate_lines made ++ [] ∷ [] =
    joined-pieces pieces header.0.1.pieces labels.0.1.pieces root.0.1.pieces format version count table (node_line_texts table root.0.0)
    head.0 (read.2 ∙ ap (λ (t : List Label). t ++ labels.0.1.pieces) (sym read.1)) (nodes.lines ∙ ap (λ (t : List (List ℕ)). t ++ root.0.1.pieces) texts) end.0 count_is in
    subst (λ (c : CertificateModel). HasFormatText c × (pieces ≡ certificate_lines c ++ [] ∷ [])) {x = made} end.1 (
      record {
        format = of-format made fits.0 (λ one. subst IsPlain nodes.tree (plain-map (text_at table) nodes.node (nodes.plain one)));
        table = read.3;
        root = subst (λ (t : Tree). HasNodeForm table t W) nodes.tree (node_form table read.3 nodes.node W nodes.form);
      },
      lines,
    )

-- a text that is read is the text of its certificate, which is well formed
pub format-found : (text : List ℕ) (c : CertificateModel) → format_reading text ≡ Ok c → HasFormatText c × (text ≡ certificate_text c)
format-found text c e =
    let found = pieces-found (pieces_of text) c (sym (reading-steps text) ∙ e) in
    (found.0, text_from_pieces text (certificate_lines c) found.1)

numbered : (c : CertificateModel) → IsOfFormat c → IsNumbered c.format
numbered c (inl first) = inl first.0
numbered c (inr second) = inr second

plain : (c : CertificateModel) → IsOfFormat c → c.format ≡ 1 → IsPlain c.root
plain c (inl first) one = first.1
plain c (inr second) one = absurd (omega (arith, one, second))

-- the text of a certificate is read as that certificate
pub format-again : (c : CertificateModel) → HasFormatText c → format_reading (certificate_text c) ≡ Ok c
format-again c form =
    let format : ℕ = c.format in
    let version : Version = c.version in
    let table : List Label = c.table in
    let count : ℕ = length table in
    let few : length table ≤ 65536 = form.table.few in
    let nodes : List (List ℕ) = node_line_texts table c.root in
    let fits = fits-header format version count (numbered c form.format) few in
    let following : 0 < length (nodes ++ [] ∷ []) = omega (arith, length-append nodes ([] ∷ [])) in
    let pieces : pieces_of (certificate_text c) ≡ format_header (format, (version, count)) ∷ (table ++ (nodes ++ [] ∷ [])) =
    pieces-lines (certificate_lines c) (
      (header-read (format, (version, count)) fits).0,
      all-append (Lacks 10) table nodes (table-lacks table form.table) (nodes-lack table form.table (map_tree (place_of table) c.root) (width_of version) form.root),
    )
    ∙ ap (λ (rest : List (List ℕ)). format_header (format, (version, count)) ∷ rest) (append_assoc table nodes ([] ∷ [])) in
    let head = printed-again fits_header format_header likely_header (λ x h. (header-read x h).0) (λ x h. (header-read x h).1) BadHeader (format, (version, count)) 0
    (table ++ (nodes ++ [] ∷ [])) fits (omega (arith, length-append table (nodes ++ [] ∷ []))) in
    let labels = labels_at-again table [] 1 (nodes ++ [] ∷ []) form.table following in
    let root = nodes_at-again table format (width_of version) (omega arith) (map_tree (place_of table) c.root) (width_of version) ([] ∷ []) labels.0 (omega arith) form.root
    (numbered c form.format) (λ one. plain-map (place_of table) c.root (plain c form.format one)) (omega arith) in
    reading-steps (certificate_text c)
    ∙ ap (λ (place : Place). header_then (format_header_at place)) (λ i. record { number = 0; pieces = pieces i })
    ∙ ap header_then head
    ∙ ap (labels_then format version) labels.1
    ∙ ap (root_then format version table) root.1
    ∙ ap (λ (t : Tree). Ok (certificate_at format version table t)) (texts-tree table c.root (width_of version) form.root)

-- a text is read as a certificate exactly if it is the text of that certificate
pub format-iff : (text : List ℕ) (c : CertificateModel) → format_reading text ≡ Ok c ↔ (HasFormatText c × (text ≡ certificate_text c))
format-iff text c = (format-found text c, λ found. ap format_reading found.1 ∙ format-again c found.0)

pub format-either : (text : List ℕ) → ((fault : CertFault) × (format_reading text ≡ Err fault))
    ⊎ ((c : CertificateModel) × HasFormatText c × (text ≡ certificate_text c))
format-either text = by (format_reading text) (λ i. format_reading text)
  where
    by : (r : Result CertificateModel CertFault) → format_reading text ≡ r → ((fault : CertFault) × (format_reading text ≡ Err fault))
        ⊎ ((c : CertificateModel) × HasFormatText c × (text ≡ certificate_text c))
    by (Ok c) read = let found = format-found text c read in inr (c, found.0, found.1)
    by (Err fault) read = inl (fault, read)

pub format-apart : (text : List ℕ) (fault : CertFault) (c : CertificateModel) → format_reading text ≡ Err fault → HasFormatText c →
    text ≡ certificate_text c → ⊥
format-apart text fault c failed form e = both_results (sym failed ∙ ap format_reading e ∙ format-again c form)
  where
    both_results : ◌≡◌ {A = Result CertificateModel CertFault} (Err fault) (Ok c) → ⊥
    both_results e = cc

-- if a call reads a text, the text is that of the certificate
pub is_text : (text : List ℕ) (r : Result Certificate CertFault) → IfOk r (λ c. format_reading text ≡ Ok (certificate_of c)) → IfOk r (λ c. text ≡ certificate_text (certificate_of c))
is_text text (Ok c) read = (format-found text (certificate_of c) read).1
is_text text (Err fault) read = tt

-- if a text is that of a certificate, a call reads it as that one unless an allocation fails
pub is_only : (text : List ℕ) (r : Result Certificate CertFault) → IfOk r (λ c. format_reading text ≡ Ok (certificate_of c))
    → IfErr r (λ fault. fault.kind ≢ NoMemory → format_reading text ≡ Err fault)
    → (c : CertificateModel) → HasFormatText c → text ≡ certificate_text c → IfOk r (λ found. certificate_of found ≡ c) × IfErr r (λ fault. fault.kind ≡ NoMemory)
is_only text (Ok found) read fault c form e = (ok_is (certificate_of found) c (sym read ∙ ap format_reading e ∙ format-again c form), tt)
is_only text (Err f) read fault c form e = (tt, memory f.kind (λ other. wrong (sym (fault other) ∙ ap format_reading e ∙ format-again c form)))
  where
    wrong : ◌≡◌ {A = Result CertificateModel CertFault} (Err f) (Ok c) → ⊥
    wrong e = cc

    memory : (kind : CertFaultKind) → (kind ≢ NoMemory → ⊥) → kind ≡ NoMemory
    memory NoMemory known = refl
    memory BadHeader known = absurd (known (λ e. cc))
    memory BadLabelTable known = absurd (known (λ e. cc))
    memory BadNode known = absurd (known (λ e. cc))
    memory TooDeep known = absurd (known (λ e. cc))
    memory NodesMissing known = absurd (known (λ e. cc))
    memory NodesLeft known = absurd (known (λ e. cc))

-- The result of reading a text, step by step.
module _ (text : List ℕ) where
  pub reading-header_fault : (fault : CertFault) → format_header_at (start_of text) ≡ Err fault → format_reading text ≡ Err fault
  reading-header_fault fault e = reading-steps text ∙ ap header_then e

  module _ (format : ℕ) (version : Version) (count : ℕ) (after : Place) (header : format_header_at (start_of text) ≡ Ok ((format, (version, count)), after)) where
    following_header : format_reading text ≡ labels_then format version (labels_at count [] after)
    following_header = reading-steps text ∙ ap header_then header

    pub reading-labels_fault : (fault : CertFault) → labels_at count [] after ≡ Err fault → format_reading text ≡ Err fault
    reading-labels_fault fault e = following_header ∙ ap (labels_then format version) e

    module _ (table : List Label) (nodes : Place) (labels : labels_at count [] after ≡ Ok (table, nodes)) where
      pub reading-head : format_reading text ≡ root_then format version table (nodes_at (due format version table) table (width_of version) 0 nodes)
      reading-head = following_header ∙ ap (labels_then format version) labels
