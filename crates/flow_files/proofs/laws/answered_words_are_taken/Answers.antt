use Rattle.flow_files.proofs.laws.answered_words_are_taken.Goals as goal

pub returns : goal.returns
returns c = λ app answer_of words answer own. own.0
