use Rattle.std.proofs.Common.{◌∙◌, ap, sym}
use Rattle.std.specs.Prelude.{option_map}
use Rattle.flow_files.specs.declared.bytes_fault.BytesFault.TheVariants.{Sum as InSum}
use Rattle.flow_files.specs.declared.bytes_fault.SumFault.{SumFault}
use Rattle.flow_many.proofs.SumLemmas.{file_ends, one_file, ready_for_file}
use Rattle.flow_many.proofs.summing.SumsTakesFiles.end_file.Goals as goal

pub returns-in-Some : goal.returns-in-Some
returns-in-Some c = λ first start files messages before has. (
  ap (option_map (λ (f : SumFault). InSum f)) (sym c.in-Some.is) ∙ file_ends first start c.args.self.now files messages before has,
  λ none. cc,
)

pub returns-in-None : goal.returns-in-None
returns-in-None c = λ first start files messages before has. (
  ap (option_map (λ (f : SumFault). InSum f)) (sym c.in-None.is) ∙ file_ends first start c.args.self.now files messages before has,
  λ none. let all = one_file first start c.args.self.now files messages before has c.in-None.is in (all, ready_for_file first c.args.self.now _ all),
)
