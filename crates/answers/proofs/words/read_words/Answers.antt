use Rattle.std.proofs.Common.{arith}
use Rattle.std.proofs.lemmas.Bool.Decides.{nat_tests}
use Rattle.answers.proofs.CommandWords.{few-words, many-words}
use Rattle.answers.proofs.words.read_words.Goals as goal
use Rattle.answers.proofs.words.read_words.Goals.{in_default-via-then-words-lt2, in_default-via-else-words-lt2+else-words-lt3+else-words-lt4+else-words-lt5}

pub returns-in_default : goal.returns-in_default
returns-in_default c = elim c.in_default.branch [
  | in_default-via-then-words-lt2 w ↦ few-words c.args.words.now (grind (arith, nat_tests))
  | in_default-via-else-words-lt2+else-words-lt3+else-words-lt4+else-words-lt5 w ↦ many-words c.args.words.now (grind (arith, nat_tests))
]
