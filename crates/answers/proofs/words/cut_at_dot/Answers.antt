use Rattle.std.proofs.Common.{arith}
use Rattle.std.proofs.lemmas.Str.Pattern.{split_once_first}
use Rattle.answers.proofs.Cuts.{cut-by}
use Rattle.answers.proofs.words.cut_at_dot.Goals as goal

pub returns : goal.returns
returns c = cut-by 46 c.args.word.now c.split_once.result (split_once_first 46 c.args.word.now c.split_once.result c.split_once.ensures.cases (omega arith))
