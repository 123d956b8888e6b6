use Rattle.nr_serve.proofs.Live.{cancelled_is_stale_lem}
use Rattle.nr_serve.proofs.laws.cancelled_is_stale.Goals as goal

pub returns : goal.returns
returns c =
    cancelled_is_stale_lem c.numbers_count_cancels.ensures c.answers_fit_their_requests.ensures c.legal_begins.ensures
