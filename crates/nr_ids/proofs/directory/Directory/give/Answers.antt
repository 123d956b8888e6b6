use Rattle.std.proofs.Common.{◌≡◌, rules, subst}
use Rattle.nr_ids.specs.Events.{MayName, turn_of}
use Rattle.nr_ids.specs.Looking.{group_for}
use Rattle.nr_ids.specs.Tokens.{Opened, token}
use Rattle.nr_ids.proofs.Admitting.{given_of_names, gives_way, hints_way, looks_of_names, may_admit, still_open}
use Rattle.nr_ids.proofs.directory.Directory.give.Goals as goal

pub returns-in_default-clause-hints : goal.returns-in_default-clause-hints
returns-in_default-clause-hints c = looks_of_names 2 c.requires.number c.in_default.ensures.rooms.0 c.requires.hints

pub name-requires-clause-may : goal.name-requires-clause-may
name-requires-clause-may c =
    let set = c.hint.ensures.hints in
    let it = hints_way c.requires.id c.requires.number c.requires.clerk.own c.plan-plan.ensures.value
    c.in-Some.ensures.rooms c.hint_of.ensures.value set in
    subst (λ (d : Opened). MayName d.plan (token c.hint.new.seat).seen c.in-Some.way c.args.id) c.requires.clerk.own
    (may_admit it c.requires.claim)

pub close-requires-clause-was : goal.close-requires-clause-was
close-requires-clause-was c =
    let old = token c.args.seat.now in
    let it = hints_way c.requires.id c.requires.number c.requires.clerk.own c.plan-plan.ensures.value
    c.in-Some.ensures.rooms c.hint_of.ensures.value c.hint.ensures.hints in
    let still : turn_of old.directory.plan (token c.name.new.seat).seen (group_for old c.args.id) ≡ c.args.turn
    = still_open it c.requires.claim c.name.ensures.grows in
    search rules

pub returns-clause-hints : goal.returns-clause-hints
returns-clause-hints c =
    let it = hints_way c.requires.id c.requires.number c.requires.clerk.own c.plan-plan.ensures.value
    c.in-Some.ensures.rooms c.hint_of.ensures.value c.hint.ensures.hints in
    given_of_names it c.name.ensures.grows (cc) c.close.ensures.grows c.requires.hints

pub returns-clause-gives : goal.returns-clause-gives
returns-clause-gives c =
    let it = hints_way c.requires.id c.requires.number c.requires.clerk.own c.plan-plan.ensures.value
    c.in-Some.ensures.rooms c.hint_of.ensures.value c.hint.ensures.hints in
    gives_way it c.name.ensures.grows (cc) c.close.ensures.grows
