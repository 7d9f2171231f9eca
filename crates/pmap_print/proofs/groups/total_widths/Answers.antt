use Rattle.std.proofs.Common.{◌∙◌, ◌∷◌, [], ap}
use Rattle.pmap_print.specs.Table.{Line, filled}
use Rattle.pmap_print.proofs.FilledLines.{filled_by-end}
use Rattle.pmap_print.proofs.groups.total_widths.Goals as goal

pub returns : goal.returns
returns c = λ records packets octets.
    c.first_width-records.ensures records (packets ∷ octets ∷ [])
    ∙ ap (λ (l : Line). filled c.first_width-records.result.0 records ∷ l)
    (c.first_width-packets.ensures packets (octets ∷ [])
    ∙ ap (λ (l : Line). filled c.first_width-packets.result.0 packets ∷ l)
    (c.first_width-octets.ensures octets [] ∙ ap (λ (l : Line). filled c.first_width-octets.result.0 octets ∷ l) (filled_by-end c.first_width-octets.result.1.now)))
