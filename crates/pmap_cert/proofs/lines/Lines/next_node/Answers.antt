use Rattle.std.proofs.Common.{◌≤◌, ◌^◌, ◌≡◌, ◌∙◌, ℕ, Bool, Err, ap, arith, cond, false, refl, sym}
use Rattle.pmap_cert.specs.Format.{format_number}
use Rattle.pmap_cert.specs.FormatReading.{Place, fault_at, fits_line, is_ended, likely_line, node_line_text, pieces_of, BadNode, NodesMissing}
use Rattle.pmap_cert.specs.Packed.{line_of}
use Rattle.pmap_cert.proofs.PrintedLines.{line-back, line-lacks, nowhere, there}
use Rattle.pmap_cert.proofs.lines.Lines.next_node.Goals as goal

pub returns-in-Some : goal.returns-in-Some
returns-in-Some c =
    let limits = c.args.limits.now in
    let format : ℕ = format_number limits.format in
    let count : ℕ = c.len-count.result in
    let few : count ≤ 2 ^ 32 = omega (arith, c.len-count.ensures, c.laws.ensures.few) in
    record {
      err = tt;
      memory = tt;
      unchanged = tt;
      ok =
          rw (← c.self.view_is, ← c.len-count.ensures)
          (there (fits_line format limits.width count) node_line_text likely_line (line-lacks format limits.width count few) (line-back format limits.width count few)
          (cond (is_ended (pieces_of c.self.inside.rest.now)) NodesMissing BadNode) c.self.inside.number c.self.inside.rest.now
          (line_of c.in-Some.node) c.in-Some.rest.now (rw c.in-Some.is at c.in_ok-node.ensures).right);
    }

pub returns-in-None-2 : goal.returns-in-None-2
returns-in-None-2 c =
    let limits = c.args.limits.now in
    let format : ℕ = format_number limits.format in
    let count : ℕ = c.len-count.result in
    let few : count ≤ 2 ^ 32 = omega (arith, c.len-count.ensures, c.laws.ensures.few) in
    let text = c.self.inside.rest.now in
    let more : is_ended (pieces_of text) ≡ false =
    ap (λ (place : Place). is_ended place.pieces) c.self.view_is ∙ sym c.is_ended.ensures ∙ c.if-is_ended.false in
    record {
      ok = tt;
      memory = rw c.fault-in-None-2.ensures (λ e. cc);
      unchanged = refl;
      err = λ _.
          rw (c.fault-in-None-2.ensures, ← c.self.view_is, ← c.len-count.ensures)
          (nowhere (fits_line format limits.width count) node_line_text likely_line (line-lacks format limits.width count few) (line-back format limits.width count few)
          (cond (is_ended (pieces_of text)) NodesMissing BadNode) c.self.inside.number text (rw c.in-None-2.is at c.in_ok-node.ensures)
          ∙ ap (λ (b : Bool). Err (fault_at (record { number = c.self.inside.number; pieces = pieces_of text }) (cond b NodesMissing BadNode))) more);
    }
