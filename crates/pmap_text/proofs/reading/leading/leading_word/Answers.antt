use Rattle.std.proofs.Common.{◌∙◌, sym}
use Rattle.prefix_keys.specs.Block.{width_of}
use Rattle.prefix_keys.specs.Inner.{BeginsWith}
use Rattle.prefix_keys.specs.Text.{decimal_number, is_digit}
use Rattle.pmap_text.proofs.LeadingWords.{address-word, block-word}
use Rattle.pmap_text.proofs.reading.leading.leading_word.Goals as goal

pub returns-in_ok-after_blanks-in-Some-clause-word : goal.returns-in_ok-after_blanks-in-Some-clause-word
returns-in_ok-after_blanks-in-Some-clause-word c =
    let number : BeginsWith is_digit (decimal_number 3 (width_of c.in_ok-addr.addr.version)) c.in-Some.length.now c.in_ok-len-in-Some.rest.now c.in_ok-len-in-Some.len =
    rw (← c.width.ensures) c.in_ok-len-in-Some.ensures.number in
    (block-word c.args.text.now c.in_ok-addr.rest.now c.in-Some.length.now c.in_ok-len-in-Some.rest.now c.in_ok-addr.addr
    c.in_ok-len-in-Some.len c.block_of.result c.in_ok-addr.ensures c.in-Some.ensures number
    c.in_ok-after_blanks-in-Some.ensures.0 c.block_of.ensures.version c.block_of.ensures.len c.block_of.ensures.first).0

pub returns-in_ok-after_blanks-in-Some-clause-rest : goal.returns-in_ok-after_blanks-in-Some-clause-rest
returns-in_ok-after_blanks-in-Some-clause-rest c =
    let number : BeginsWith is_digit (decimal_number 3 (width_of c.in_ok-addr.addr.version)) c.in-Some.length.now c.in_ok-len-in-Some.rest.now c.in_ok-len-in-Some.len =
    rw (← c.width.ensures) c.in_ok-len-in-Some.ensures.number in
    c.in_ok-after_blanks-in-Some.ensures.1
    ∙ sym (block-word c.args.text.now c.in_ok-addr.rest.now c.in-Some.length.now c.in_ok-len-in-Some.rest.now c.in_ok-addr.addr
    c.in_ok-len-in-Some.len c.block_of.result c.in_ok-addr.ensures c.in-Some.ensures number
    c.in_ok-after_blanks-in-Some.ensures.0 c.block_of.ensures.version c.block_of.ensures.len c.block_of.ensures.first).1

pub returns-in_ok-after_blanks-in-None-clause-word : goal.returns-in_ok-after_blanks-in-None-clause-word
returns-in_ok-after_blanks-in-None-clause-word c =
    (address-word c.args.text.now c.in_ok-addr.rest.now c.in_ok-addr.addr c.in_ok-addr.ensures c.in_ok-after_blanks-in-None.ensures.0).0

pub returns-in_ok-after_blanks-in-None-clause-rest : goal.returns-in_ok-after_blanks-in-None-clause-rest
returns-in_ok-after_blanks-in-None-clause-rest c =
    c.in_ok-after_blanks-in-None.ensures.1
    ∙ sym (address-word c.args.text.now c.in_ok-addr.rest.now c.in_ok-addr.addr c.in_ok-addr.ensures c.in_ok-after_blanks-in-None.ensures.0).1
