use Rattle.std.proofs.Common.{◌∙◌, arith, None, ap, option_map}
use Rattle.std.proofs.Math.ListN.{get_or-map}
use Rattle.flow_filter.specs.Filters.{texts_given}
use Rattle.flow_filter.specs.Options.{Number}
use Rattle.flow_rows.specs.declared.number.Number.TheVariants.{SourcePort}
use Rattle.flow_filter.proofs.Reading.{all_read, is_fault, none_more, one_more}
use Rattle.flow_filter.proofs.filter.Filter.read_among.Goals as goal

pub loop-at-preserved-in_default : goal.loop-at-preserved-in_default
loop-at-preserved-in_default c =
    none_more c.args.options.now (texts_given c.args.texts.now) c.loop-at.at c.loop-at.parts.items (Number SourcePort) c.loop-at.invariant c.loop-at-test.true
    (get_or-map (option_map (λ s. s.now)) c.args.texts.now c.loop-at.at None ∙ ap (option_map (λ s. s.now)) c.in_default.is)

pub returns-in-Err-clause-err : goal.returns-in-Err-clause-err
returns-in-Err-clause-err c =
    is_fault c.args.options.now (texts_given c.args.texts.now) c.loop-at.at c.loop-at.parts.items (Number SourcePort) c.loop-at.invariant c.loop-at-test.true c.in-Some.text.now
    (get_or-map (option_map (λ s. s.now)) c.args.texts.now c.loop-at.at None ∙ ap (option_map (λ s. s.now)) c.in-Some.is)
    c.in-Err.kind c.in-Err.ensures.err

pub loop-at-preserved : goal.loop-at-preserved
loop-at-preserved c =
    let more =
    one_more c.args.options.now (texts_given c.args.texts.now) c.loop-at.at c.loop-at.parts.items (Number SourcePort) c.loop-at.invariant c.loop-at-test.true c.in-Some.text.now
    (get_or-map (option_map (λ s. s.now)) c.args.texts.now c.loop-at.at None ∙ ap (option_map (λ s. s.now)) c.in-Some.is)
    c.in_default-add_part.ensures.ok.1 in
    rw c.in_default-add_part.ensures.ok.0 more

pub returns-clause-ok : goal.returns-clause-ok
returns-clause-ok c = all_read c.args.options.now (texts_given c.args.texts.now) c.loop-at.at c.loop-at.parts.items (omega arith) c.loop-at.invariant
