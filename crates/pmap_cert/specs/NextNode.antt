use Rattle.std.specs.Prelude.{◌≡◌, ◌≢◌, Err, IfErr, IfOk, Ok, Result, length}
use Rattle.pmap_cert.specs.Format.{format_number}
use Rattle.pmap_cert.specs.FormatReading.{NoMemory, Place, line_due_at}
use Rattle.pmap_cert.specs.Packed.{Node, line_of}
use Rattle.pmap_cert.specs.declared.fault.CertFault.{CertFault}
use Rattle.pmap_cert.specs.declared.node_line.LineLimits.{LineLimits}

-- This is the result of reading the node line at a place, and the place is then the new one. After a fault it is the
-- old one.
pub record IsNextNode (limits : LineLimits) (old new : Place) (result : Result Node CertFault) : Type 0 where
  pub ok : IfOk result (λ node. line_due_at (format_number limits.format) limits.width (length limits.labels.now) old
      ≡ Ok (line_of node, new))
  pub err : IfErr result (λ fault. fault.kind ≢ NoMemory →
      line_due_at (format_number limits.format) limits.width (length limits.labels.now) old ≡ Err fault)
  pub memory : IfErr result (λ fault. fault.kind ≡ NoMemory → fault.line ≡ 0)
  pub unchanged : IfErr result (λ _. new ≡ old)
