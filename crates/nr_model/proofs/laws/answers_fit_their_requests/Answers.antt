use Rattle.nr_model.proofs.AnswerLemmas.{answers_fit_their_requests_lem}
use Rattle.nr_model.proofs.laws.answers_fit_their_requests.Goals as goal

pub returns : goal.returns
returns c = answers_fit_their_requests_lem
