use Rattle.std.specs.Prelude.{ℕ, List, [], ◌++◌, Option, Some, None, Result}
use Rattle.std.specs.Prelude.{Ok, Err, codes, length, replicate, zero, suc}
use Rattle.std.specs.Fmt.{digits}
use Rattle.std.specs.List.{flat_map}
use Rattle.pmap_model.specs.ListModel.{ListModel}
use Rattle.pmap_model.specs.MapModel.{MapModel}
use Rattle.pmap_model.specs.Steps.{◌>>=◌}
use Rattle.pmap_text.specs.Reading.{list_reading, map_reading}
use Rattle.pmap_text.specs.declared.fault.MapFault.{MapFault}
use Rattle.pmap_cert.specs.Acceptance.{IsMinimalPair}
use Rattle.pmap_cert.specs.CertificateModel.{CertificateModel, InnerNode, LeafNode, Tree, opened_certificate}
use Rattle.pmap_cert.specs.CertificateText.{certificate_text}
use Rattle.pmap_cert.specs.Compacting.{compact, compacted_in}
use Rattle.pmap_cert.specs.FormatReading.{format_reading, nodes_at}
use Rattle.pmap_cert.specs.declared.fault.CertFault.{CertFault}
use Rattle.pmap_cert.specs.declared.fault.CertFaultKind.{CertFaultKind}
use Rattle.cert_check.specs.Checking.{first_fault}
use Rattle.cert_check.specs.declared.fault.CheckFault.{CheckFault}
use Rattle.cert_check.specs.declared.fault.CheckFaultKind.{CheckFaultKind}

-- What examples ask of certificates.

-- Unfolds the opaque definitions on which certificates rest.
unfoldable pub opened : List ℕ → Result CertificateModel CertFault
unfolding compacted_in digits format_reading nodes_at
opened text = format_reading text

-- the text of the certificate that a text represents, compacted
abbrev pub compacted_text : List ℕ → Result (List ℕ) CertFault
compacted_text text = format_reading text >>= (λ c. Ok (certificate_text (compact c)))

-- the text of the certificate that a text represents, with its chains opened
abbrev pub opened_text : List ℕ → Result (List ℕ) CertFault
opened_text text = format_reading text >>= (λ c. Ok (certificate_text (opened_certificate c)))

-- the list of a text, with the map's label table, and the certificate of a text are the minimal pair of the map of a
-- text
abbrev pub AreMinimalPair : Result MapModel MapFault → Result ListModel MapFault → Result CertificateModel CertFault
    → Type 0
AreMinimalPair (Ok m) (Ok l) (Ok c) = IsMinimalPair m (record l { table = m.table }) c
AreMinimalPair _ _ _ = ⊥

-- like `AreMinimalPair`, but with the label table of the text of the list
abbrev pub AreMinimalAsRead : Result MapModel MapFault → Result ListModel MapFault → Result CertificateModel CertFault
    → Type 0
AreMinimalAsRead (Ok m) (Ok l) (Ok c) = IsMinimalPair m l c
AreMinimalAsRead _ _ _ = ⊥

-- the number of entries of an accepted list, or the fault of the certificate
abbrev pub verdict_by : ListModel → Option CheckFault → Result ℕ CheckFault
verdict_by l None = Ok (length l.prefixes)
verdict_by l (Some fault) = Err fault

-- the verdict of `check` on what texts represent, if none of them is faulty
abbrev pub verdict_of : Result MapModel MapFault → Result ListModel MapFault → Result CertificateModel CertFault
    → Option (Result ℕ CheckFault)
verdict_of (Ok m) (Ok l) (Ok c) = Some (verdict_by l (first_fault m l c))
verdict_of _ _ _ = None

abbrev pub verdict : List ℕ → List ℕ → List ℕ → Option (Result ℕ CheckFault)
verdict map list certificate = verdict_of (map_reading map) (list_reading list) (format_reading certificate)

-- `minimal N`
abbrev pub minimal : ℕ → Option (Result ℕ CheckFault)
minimal n = Some (Ok n)

-- the fault of a node, or of no single node
abbrev pub refused : CheckFaultKind → ℕ → Option (Result ℕ CheckFault)
refused kind node = Some (Err (record { kind = kind; node = node }))

-- the fault of a certificate's line
abbrev pub at_certificate_line : CertFaultKind → ℕ → CertFault
at_certificate_line kind line = record { kind = kind; line = line }

-- The texts of FORMATS.md.

-- the first certificate of the section on certificates, of which `head` is the header with the labels, with its map and
-- its list
abbrev pub quarters_map : List ℕ
quarters_map = codes "0.0.0.0/2 A\n64.0.0.0/2 B\n128.0.0.0/2 A\n192.0.0.0/2 C\n"

abbrev pub quarters_list : List ℕ
quarters_list = codes "0.0.0.0/0 A\n64.0.0.0/2 B\n192.0.0.0/2 C\n"

abbrev pub head : List ℕ
head = codes "flowlabel-cert 1 ipv4 4\nA\nB\nC\nUNKNOWN\n"

abbrev pub quarters : List ℕ
quarters = head ++ codes "n 2 0\nn 1 0 1\nl 0\nl 1\nn 1 0 2\nl 0\nl 2\n"

-- the second certificate, which has a chain, with its map and its list
abbrev pub last_map : List ℕ
last_map = codes "default D\n255.255.255.255 X\n"

abbrev pub last_list : List ℕ
last_list = codes "0.0.0.0/0 D\n255.255.255.255/32 X\n"

abbrev pub last : List ℕ
last = codes "flowlabel-cert 2 ipv4 2\nD\nX\nc 1 11111111111111111111111111111111 0 0\nl 1\n"

-- this many lines
abbrev pub lines : ℕ → List ℕ → List ℕ
lines count line = flat_map (λ each. each) (replicate count line)

-- a certificate of this many nested inner nodes, after a header for the count 1, and its root
abbrev pub nested : List ℕ → ℕ → List ℕ
nested header count = header ++ codes "A\n" ++ lines count (codes "n 0\n") ++ lines (suc count) (codes "l 0\n")

abbrev pub nested_tree : ℕ → Tree
nested_tree zero = LeafNode (codes "A")
nested_tree (suc count) = InnerNode (record { cost = 0; labels = [] }) (nested_tree count) (LeafNode (codes "A"))

-- the second certificate of the page, in this format, with its chain opened
abbrev pub last_opened : List ℕ → List ℕ
last_opened format =
    codes "flowlabel-cert " ++ format ++ codes " ipv4 2\nD\nX\n" ++ lines 31 (codes "n 1 0\nl 0\n")
    ++ codes "n 1 0 1\nl 0\nl 1\n"
