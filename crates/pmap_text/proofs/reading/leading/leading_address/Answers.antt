use Rattle.std.proofs.Common.{◌≡◌, Some, ap, sym, ◌∙◌}
use Rattle.prefix_keys.specs.Text.{dotted_address}
use Rattle.pmap_text.proofs.LeadingWords.{address-bytes, colon-address, colon-bytes, dotted-address}
use Rattle.pmap_text.proofs.reading.leading.leading_address.Goals as goal

pub returns-in-Some : goal.returns-in-Some
returns-in-Some c =
    let dotted = c.in-Some.ensures in
    let reads : dotted_address dotted.front ≡ Some c.from.result = dotted.reads ∙ ap (λ n. Some n) (sym c.from.ensures) in
    record {
      front = dotted.front;
      whole = dotted.whole;
      bytes = address-bytes dotted.front dotted.bytes;
      reads = dotted-address dotted.front c.from.result dotted.bytes reads;
    }

pub returns-in_ok-value-in-None : goal.returns-in_ok-value-in-None
returns-in_ok-value-in-None c =
    let colon = c.in_ok-value-in-None.ensures in
    record {
      front = colon.front;
      whole = colon.whole;
      bytes = colon-bytes colon.front colon.bytes;
      reads = colon-address colon.front c.in_ok-value-in-None.value colon.reads;
    }
