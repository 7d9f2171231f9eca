use Rattle.flowlabel.proofs.LineLemmas.{lines_have_answers, one_answer}
use Rattle.flowlabel.proofs.words.lines_have_one_answer.Goals as goal

pub returns : goal.returns
returns c = record { one = one_answer; lines = lines_have_answers }
