-- A number that a reply tells, or that a fill is done under, is the key's.
use Rattle.std.proofs.Common.{◌≡◌, ◌∙◌, ℕ, ap, sym, arith}
use Rattle.std.proofs.lemmas.Bool.Decides.{nat_tests}
use Rattle.nr_model.specs.declared.calls.Reply.TheVariants as reply
use Rattle.nr_model.specs.declared.states.KeyState.{KeyState}
use Rattle.nr_model.specs.Maps.{PartialMap, opening, number_of, ask_reply, fill_reply, reply_to}
use Rattle.nr_model.specs.Histories.{after}
use Rattle.nr_model.specs.Laws.{AnswersFitTheirRequests}
use Rattle.nr_model.proofs.HistoryLemmas.{numbers_count_cancels_lem}
use Rattle.nr_model.proofs.LawLemmas.{legal_goes_on_lem}

send_tells : (number : ℕ) (state : KeyState) → ask_reply state ≡ reply.Send number → number ≡ number_of state
send_tells number state e = grind (arith, nat_tests)

done_names : (number : ℕ) (state : KeyState) → fill_reply number state ≡ reply.Done → number ≡ number_of state
done_names number state e = grind (arith, nat_tests)

pub answers_fit_their_requests_lem : AnswersFitTheirRequests
answers_fit_their_requests_lem keys bound first_number key number history e legal within =
    let map : PartialMap = opening keys bound first_number in
    let parts = (legal_goes_on_lem map history e).1.1 legal in
    let count = (numbers_count_cancels_lem keys bound first_number key history parts.0 within).0 in (
      λ asks sent. send_tells number _ (sym (ap (reply_to (after map history)) asks) ∙ sym parts.1 ∙ sent) ∙ count,
      λ rows fills done. done_names number _ (sym (ap (reply_to (after map history)) fills) ∙ sym parts.1 ∙ done)
          ∙ count,
    )
