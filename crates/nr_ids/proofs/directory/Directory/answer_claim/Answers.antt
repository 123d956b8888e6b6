use Rattle.std.proofs.Common.{rules}
use Rattle.nr_ids.specs.Tokens.{token}
use Rattle.nr_ids.proofs.Admitting.{claim_stays, named_for_claim}
use Rattle.nr_ids.proofs.directory.Directory.answer_claim.Goals as goal

pub returns-in-Some-clause-answer : goal.returns-in-Some-clause-answer
returns-in-Some-clause-answer c =
    named_for_claim (token c.scan.new.seat) c.requires.number c.look_at_turn-turn.ensures.grows c.in-Some.ensures.scans

pub returns-clause-answer : goal.returns-clause-answer
returns-clause-answer c =
    let turn = c.look_at_turn-turn in
    let missed = c.in_default.ensures.scans in (
      record { turned = token turn.new.seat; turn = turn.ensures.grows; both = missed.looks },
      claim_stays c.args.id turn.result c.requires.number turn.ensures.grows missed (search rules) c.if-turn-eq0.false
          turn.ensures.early,
    )
