use Rattle.nr_core.proofs.PutNumbers.{count_more, put_more}
use Rattle.nr_core.proofs.laws.put_goes_on.Goals as goal

pub returns : goal.returns
returns c = λ log entry key. (count_more log entry, put_more log entry key)
