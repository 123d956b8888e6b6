use Rattle.nr_serve.proofs.Live.{one_at_a_time_lem}
use Rattle.nr_serve.proofs.laws.one_request_at_a_time.Goals as goal

pub returns : goal.returns
returns c = one_at_a_time_lem c.sends_are_answered.ensures c.legal_begins.ensures
