use Rattle.std.proofs.Common.{List, Option, ap, subst, sym, ⊎_elim, ℕ, ◌∙◌}
use Rattle.nr_model.specs.declared.rows.Row.{Row}
use Rattle.nr_serve.specs.Rings.{RungSeen}
use Rattle.nr_serve.specs.Turns.{AwaitsPost}
use Rattle.nr_trigger.specs.Tokens.{TakerSeen}
use Rattle.nr_idserve.specs.declared.taking.Taken.{Taken}
use Rattle.nr_idserve.specs.declared.taking.Taken.TheVariants as taken
use Rattle.nr_idserve.specs.declared.turns.IdTurn.TheVariants as turn
use Rattle.nr_idserve.specs.IdFlows.{IdFlowSeen}
use Rattle.nr_idserve.specs.IdTakes.{Say, TakesById}
use Rattle.nr_idserve.specs.IdTurns.{AnswersTaken}
use Rattle.nr_idserve.proofs.flow.IdDataflow.turn_or_sleep.Goals as goal

-- an idle turn's take found nothing
idle_take : {S : Type 0} (gives : S → (id bound : ℕ) → List Row → S → Type 0) (fails : S → (id bound : ℕ) → S → Type 0)
    (said : Option Say) (old mid new : IdFlowSeen) (before after : S) (found : Taken) → TakesById said old mid found
    → AnswersTaken gives fails found mid before new after turn.Idle → TakesById said old new taken.Idle
idle_take gives fails said old mid new before after (taken.Asked sent) takes answers =
    absurd (⊎_elim (λ given. given.3) (λ failed. failed.1) answers)
idle_take gives fails said old mid new before after taken.Idle takes answers = rw answers.1 takes
idle_take gives fails said old mid new before after found takes answers = cc (answers.0)

pub sleep-requires-clause-idle : goal.sleep-requires-clause-idle
sleep-requires-clause-idle g c =
    let rung = c.rings-rung in
    let turned = c.turn-turned in
    let turns = c.in-Idle.ensures.turns.1 in
    let takes =
    idle_take g.S.IdSource.gives g.S.IdSource.fails c.in-Idle.ensures.turns.0 rung.new.self turns.1 turned.new.self
    c.args.source.now turned.new.source turns.0 turns.2 turns.3 in
    subst (λ (taker : TakerSeen). AwaitsPost taker turned.new.self.taker)
    (ap (λ (flow : IdFlowSeen). flow.taker) rung.ensures.rest
    ∙ sym (ap (λ (read : RungSeen). read.taker) rung.ensures.rung))
    (takes.1.1, ap (λ (flow : IdFlowSeen). flow.taker) takes.1.2)
