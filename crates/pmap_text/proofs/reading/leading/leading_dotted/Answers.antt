use Rattle.pmap_text.proofs.LeadingWords.{begins-dotted}
use Rattle.pmap_text.proofs.reading.leading.leading_dotted.Goals as goal

pub returns : goal.returns
returns c =
    begins-dotted c.args.text.now _ _ _ _ _ _ _ _ _ _ _
    c.in_ok-a.ensures.number c.in_ok-after_byte.ensures
    c.in_ok-b.ensures.number c.in_ok-after_byte-2.ensures
    c.in_ok-c.ensures.number c.in_ok-after_byte-3.ensures
    c.in_ok-d.ensures.number
