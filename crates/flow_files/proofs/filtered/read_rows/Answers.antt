use Rattle.std.proofs.Common.{◌≡◌, ◌∙◌, List, Ok, Option, ap, arith, is_some, option_map, refl, subst, sym}
use Rattle.ipfix_read.specs.Message.{MessageView}
use Rattle.ipfix_read.specs.Messages.{file_reading}
use Rattle.label_lookup.specs.Labelling.{Labelling}
use Rattle.flow_files.specs.ByFile.{turn}
use Rattle.flow_files.specs.ByFile as role
use Rattle.flow_files.specs.Reports.{HasPassing, IsFresh, labelling_found, labelling_read, passing_rows}
use Rattle.flow_files.specs.Readers.{Source}
use Rattle.flow_files.proofs.ReadLemmas.{flows_last, flows_read, found_is, no_memory_left, report_after, report_is, source_some, then_err, then_ok}
use Rattle.flow_files.proofs.filtered.read_rows.Goals as goal

pub returns-in_err-read : goal.returns-in_err-read
returns-in_err-read g c =
    then_err (λ texts labels. report_after labels texts) c.in_err-read.ensures.read (omega arith) (λ texts given. refl)
    (λ texts labels fault fails. omega (arith, ap turn (flows_last labels (file_reading texts.flows) fault fails))) c.from_residual.ensures.1

pub returns-in_err-index : goal.returns-in_err-index
returns-in_err-index g c = no_memory_left c.in_ok-read.ensures.read (omega arith) c.from_residual-in_err-index.ensures.1

pub returns-in_err-buffer : goal.returns-in_err-buffer
returns-in_err-buffer g c = no_memory_left c.in_ok-read.ensures.read (omega arith) c.from_residual-in_err-buffer.ensures.1

pub add_messages-requires : goal.add_messages-requires
add_messages-requires g c =
    let is : labelling_found c.as_ref.result ≡ option_map labelling_read c.in_ok-read.read =
    found_is c.as_ref.result c.in_ok-index.index (option_map labelling_read c.in_ok-read.read) c.as_ref.ensures.value c.in_ok-index.ensures in
    record {
      fresh =
          subst (λ (file : Option (Source g.row.R.Denot)). IsFresh g.R.Input.input file)
          (sym (c.in_ok-read.ensures.read.kept role.Flows (omega arith))) c.requires.fresh.3;
      none = record {
        filter = refl;
        labels = refl;
        rows = c.requires.none (labelling_found c.as_ref.result) (ap is_some is ∙ source_some c.args.source c.in_ok-read.ensures.read);
        few = omega arith;
      };
    }

pub returns-in_err-add_messages : goal.returns-in_err-add_messages
returns-in_err-add_messages g c =
    then_err (λ texts messages. Ok (option_map labelling_read c.in_ok-read.read, messages))
    (flows_read c.in_ok-read.ensures.read {is = λ messages _. HasPassing g.T.TakesRows.has_rows (record { filter = c.args.filter; labels = c.as_ref.result; taker = c.args.taker }) messages c.add_messages.new.taker} (omega arith) c.in_err-add_messages.ensures.reads) (omega arith)
    (λ texts given. report_is c.args.source c.in_ok-read.ensures.read c.add_messages.new.flows texts (λ o low. given o))
    (λ texts messages fault is. cc) c.from_residual-in_err-add_messages.ensures.1

pub returns : goal.returns
returns g c =
    let has : Option Labelling → List MessageView → Type 0 =
    λ labels messages. g.T.TakesRows.has_rows c.args.taker labels (passing_rows c.args.filter.now labels messages) c.add_messages.new.taker.taker in
    let is : labelling_found c.as_ref.result ≡ option_map labelling_read c.in_ok-read.read =
    found_is c.as_ref.result c.in_ok-index.index (option_map labelling_read c.in_ok-read.read) c.as_ref.ensures.value c.in_ok-index.ensures in
    then_ok (λ texts messages. Ok (option_map labelling_read c.in_ok-read.read, messages))
    (flows_read c.in_ok-read.ensures.read {is = λ messages _. HasPassing g.T.TakesRows.has_rows (record { filter = c.args.filter; labels = c.as_ref.result; taker = c.args.taker }) messages c.add_messages.new.taker} (omega arith) c.in_ok-add_messages.ensures.reads) (omega arith)
    (λ texts given. report_is c.args.source c.in_ok-read.ensures.read c.add_messages.new.flows texts (λ o low. given o (omega (arith, low))))
    (λ texts messages passed. (
      (option_map labelling_read c.in_ok-read.read, messages),
      refl,
      subst (λ (labels : Option Labelling). has labels messages) is passed.rows,
    ))
