use Rattle.std.proofs.Common.{subst}
use Rattle.pmap_text.specs.Inner.{IsWord, Word, Address}
use Rattle.pmap_text.specs.Reading.{first_word}
use Rattle.pmap_text.specs.declared.reading.leading.Word.TheVariants.{Block as block_word}
use Rattle.pmap_text.proofs.LeadingWords.{content-address, content-block}
use Rattle.pmap_text.proofs.reading.Reading.read_content.Goals as goal

pub returns-in-Some-Block-default : goal.returns-in-Some-Block-default
returns-in-Some-Block-default c =
    let arm = c.in-Some-Block-default in
    let word : IsWord (first_word c.args.content.now) (block_word arm.block) =
    subst (λ (w : Word). IsWord (first_word c.args.content.now) w) arm.field-0-0-is arm.ensures.word in
    rw (content-block c.args.form c.args.self.now c.args.content.now arm.rest.now arm.block word arm.ensures.rest) c.read_after_block.ensures

pub returns-in-Some-Address-default : goal.returns-in-Some-Address-default
returns-in-Some-Address-default c =
    let arm = c.in-Some-Address-default in
    let word : IsWord (first_word c.args.content.now) (Address arm.first) =
    subst (λ (w : Word). IsWord (first_word c.args.content.now) w) arm.field-0-0-is arm.ensures.word in
    rw (content-address c.args.form c.args.self.now c.args.content.now arm.rest.now arm.first word arm.ensures.rest) c.read_after_address.ensures
