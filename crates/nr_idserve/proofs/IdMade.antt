-- What a dataflow's calls leave as it is, which fills its writer has done, and that what is in hand is what is open.
use Rattle.std.proofs.Common.{◌≡◌, ◌+◌, ◌≤◌, ℕ, List, [], ◌∷◌, ◌++◌, Option, None, Some, sym, ap, ◌∙◌, arith, Bool}
use Rattle.std.proofs.Common.{Result, Ok, Err, append_assoc, false, inl, inr, true}
use mathlib.Core.Logic.{dite}
use native.Mathlib.Decide.{ℕ_discrete}
use Rattle.nr_model.specs.declared.rows.Row.{Row}
use Rattle.nr_core.specs.Sums.{only}
use Rattle.nr_core.proofs.Sums.{only-le, only-other, only-same, total-append}
use Rattle.nr_core.specs.declared.calls.NoSlot.{NoSlot}
use Rattle.nr_board.specs.declared.answers.Cancel.TheVariants as cancel
use Rattle.nr_board.specs.declared.answers.Evict.{Evict}
use Rattle.nr_board.specs.declared.answers.Evict.TheVariants as evict
use Rattle.nr_board.specs.declared.answers.FillFault.TheVariants as fill
use Rattle.nr_board.specs.Callers.{Caller}
use Rattle.nr_idserve.specs.IdLedger.{AllOpen, AreTheOpen, held_for, held_for_id, one_if_open, AreAnswers, IdEnding}
use Rattle.nr_idserve.specs.IdLedger.{ended, fills_by}
use Rattle.nr_ids.specs.declared.admissions.Refused.{Refused}
use Rattle.nr_ids.specs.declared.admissions.Refused.TheVariants as refused
use Rattle.nr_idserve.specs.IdEnds.{FillsOneId, WithdrawsOne}
use Rattle.nr_idserve.specs.IdFlows.{IdFlowSeen}
use Rattle.nr_idserve.specs.IdTakes.{AdmitsAsking, AdmitsMakingRoom, AdmitsOne, EvictsIf, MakesRoom, Say}
use Rattle.nr_idmap.specs.IdLaws.{OneUpquery}
use Rattle.nr_idmap.specs.Keepers.{ClosesOne, IsTied, Keeper, OpensOne, Owed, OwesElse, OwesSame, owed_at, Sent}
use Rattle.nr_idmap.specs.declared.writes.IdFault.{IdFault}
use Rattle.nr_idmap.specs.declared.writes.IdFault.TheVariants as fault
use Rattle.nr_idmap.specs.IdWrites.{CallsWay, EvictsId}
use Rattle.nr_trigger.specs.Tokens.{TakerSeen}
use Rattle.nr_serve.specs.declared.turns.Spent.{Spent}
use Rattle.nr_serve.specs.Ledger.{Filling, fate_of}
use Rattle.nr_serve.proofs.Filled.{Made, cancel_made, evict_made, fill_made, fills_done-append, made_none, pass_made}

-- without one of them
held_for-cut : (way : ℕ) (before after : List Owed) (owed : Owed)
    → held_for way (before ++ owed ∷ after) ≡ only way owed.way + held_for way (before ++ after)
held_for-cut way before after owed = grind (arith, total-append)

all_cut : (keeper : Keeper) (before after : List Owed) (owed : Owed) → AllOpen keeper (before ++ owed ∷ after)
    → AllOpen keeper (before ++ after)
all_cut keeper [] after owed all = all.1
all_cut keeper (other ∷ before) after owed all = (all.0, all_cut keeper before after owed all.1)

pub all_at : (keeper : Keeper) (before after : List Owed) (owed : Owed) → AllOpen keeper (before ++ owed ∷ after)
    → owed_at keeper owed.way ≡ Some owed
all_at keeper [] after owed all = all.0
all_at keeper (other ∷ before) after owed all = all_at keeper before after owed all.1

all_same : (old new : Keeper) (held : List Owed) → OwesSame old new → AllOpen old held → AllOpen new held
all_same old new [] same all = tt
all_same old new (owed ∷ held) same all = (same owed.way ∙ all.0, all_same old new held same all.1)

-- one was opened or closed, of whose way there is none
all_else : (old new : Keeper) (way : ℕ) (held : List Owed) → held_for way held ≡ 0 → OwesElse way old new
    → AllOpen old held → AllOpen new held
all_else old new way [] none others all = tt
all_else old new way (owed ∷ held) none others all =
    grind (arith, only-same, all_else old new way held (omega (arith, none)) others all.1)

-- a way that is open by one keeper alone, and each other way by both
opened_at : (without having : Keeper) (owed : Owed) (way : ℕ) → owed_at without owed.way ≡ None
    → owed_at having owed.way ≡ Some owed → OwesElse owed.way without having
    → one_if_open (owed_at having way) ≡ only way owed.way + one_if_open (owed_at without way)
opened_at without having owed way none here others = grind (arith, only-same, only-other)

pub opens_one : {old new : Keeper} {owed : Owed} {held : List Owed} → OpensOne owed old new → AreTheOpen old held
    → AreTheOpen new (owed ∷ held)
opens_one opens was = grind (arith, all_else, opened_at)

pub closes_one : {old new : Keeper} {owed : Owed} (before after : List Owed) → ClosesOne owed old new
    → AreTheOpen old (before ++ owed ∷ after) → AreTheOpen new (before ++ after)
closes_one before after closes was = grind (arith, held_for-cut, only-same, all_else, all_cut, opened_at)

pub stays_open : {old new : Keeper} {held : List Owed} → OwesSame old new → AreTheOpen old held → AreTheOpen new held
stays_open same was = grind (arith, all_same)

pub none_open : (keeper : Keeper) → ((way : ℕ) → owed_at keeper way ≡ None) → AreTheOpen keeper []
none_open keeper none = record { all = tt; once = λ way. sym (ap one_if_open (none way)) }

-- NO ID HAS TWO
open_few : (owed : Option Owed) → one_if_open owed ≤ 1
open_few owed = grind arith

-- those of an open one's id are of its way
same_way : (keeper : Keeper) (owed : Owed) (others : List Owed) → OneUpquery → IsTied keeper
    → owed_at keeper owed.way ≡ Some owed → AllOpen keeper others
    → held_for_id owed.id others ≤ held_for owed.way others
same_way keeper owed [] law tied here all = omega arith
same_way keeper owed (other ∷ others) law tied here all =
    let rest = same_way keeper owed others law tied here all.1 in
    grind (arith, only-le, only-same, only-other, law keeper other.way owed.way other owed tied all.0 here)

one_each : (keeper : Keeper) (held : List Owed) (id : ℕ) → OneUpquery → IsTied keeper → AllOpen keeper held
    → ((way : ℕ) → held_for way held ≤ 1) → held_for_id id held ≤ 1
one_each keeper [] id law tied all few = omega arith
one_each keeper (owed ∷ others) id law tied all few =
    let rest = one_each keeper others id law tied all.1 (λ way. let more = few way in omega (arith, more)) in
    dite (ℕ_discrete owed.id id)
    (λ is. let same = rw is at (same_way keeper owed others law tied all.0 all.1) in
    omega (arith, same, only-le id owed.id, few owed.way, only-same owed.way))
    (λ isnt. omega (arith, rest, only-other id owed.id isnt))

pub one_each_id : (keeper : Keeper) (held : List Owed) (id : ℕ) → OneUpquery → IsTied keeper → AreTheOpen keeper held
    → held_for_id id held ≤ 1
one_each_id keeper held id law tied here = grind (arith, one_each, open_few)

made_both : {a b c : Caller} {one two : List Filling} → Made a b one → Made b c two → Made a c (one ++ two)
made_both first second = grind (arith, append_assoc, fills_done-append)

-- what is in hand is what is open, and those that ended didn't pass
abbrev pub LeavesOpen : Keeper → List Owed → List IdEnding → Type 0
LeavesOpen keeper left ends = AreTheOpen keeper left × AreAnswers ends

-- no claim was taken, these upqueries ended, and those were in hand and are left
pub record Leaves (old new : IdFlowSeen) (held left : List Owed) (ends : List IdEnding) : Type 0 where
  pub taker : new.taker ≡ old.taker
  pub refused : new.refused ≡ old.refused
  pub made : Made old.writer.writer new.writer.writer (fills_by ends)
  pub still : AreTheOpen old.writer held → LeavesOpen new.writer left ends

-- two calls, by the first of which none ended
leaves_both : {a b c : IdFlowSeen} {held mid left : List Owed} {ends : List IdEnding} → Leaves a b held mid []
    → Leaves b c mid left ends → Leaves a c held left ends
leaves_both {a} {c = c} {ends = ends} first second =
    let made : Made a.writer.writer c.writer.writer (fills_by ends) = made_both first.made second.made in grind arith

abbrev pub claims : IdFlowSeen → TakerSeen × Option ℕ
claims flow = (flow.taker, flow.refused)

abbrev pub keeper_of : IdFlowSeen → Keeper
keeper_of flow = flow.writer

-- a call that takes no claim
leaves : {old new : IdFlowSeen} {held left : List Owed} {ends : List IdEnding} → claims new ≡ claims old
    → Made old.writer.writer new.writer.writer (fills_by ends)
    → (AreTheOpen old.writer held → LeavesOpen new.writer left ends) → Leaves old new held left ends
leaves same made still = grind arith

-- and opens and ends no upquery
pub owes : {old new : IdFlowSeen} {held : List Owed} → claims new ≡ claims old
    → Made old.writer.writer new.writer.writer [] → OwesSame old.writer new.writer → Leaves old new held held []
owes same made still = leaves same made (λ was. (stays_open still was, tt))

same_made : {old new : Caller} → new ≡ old → Made old new []
same_made same = made_none _ _ (ap (λ (writer : Caller). writer.mine) same)

-- and doesn't touch the writer
pub rests : {old new : IdFlowSeen} {held : List Owed} → claims new ≡ claims old → new.writer ≡ old.writer
    → Leaves old new held held []
rests same rest = grind (arith, owes, same_made)

-- EVICTIONS
evict_id_made : (id : ℕ) (old new : Keeper) (answer : Evict) → EvictsId id old new answer
    → Made old.writer new.writer []
evict_id_made id old new answer evicts = grind (arith, evict_made, same_made)

pub evict_leaves : (old new : IdFlowSeen) (id : ℕ) (answer : Evict) {held : List Owed}
    → EvictsId id old.writer new.writer answer → OwesSame old.writer new.writer
    → new ≡ record old { writer = new.writer; guest = new.guest } → Leaves old new held held []
evict_leaves old new id answer evicts same rest = grind (arith, owes, evict_id_made)

-- A TAKE
-- an admission has opened the upquery that it gives, and else none
abbrev pub admitted : Result Sent Refused → List Owed
admitted (Ok sent) = sent.owed ∷ []
admitted (Err why) = []

abbrev IsOfId : ℕ → Result Sent Refused → Type 0
IsOfId id (Ok sent) = sent.owed.id ≡ id
IsOfId id (Err why) = Unit {0}

module _ (held : List Owed) where
  abbrev pub Admits : IdFlowSeen → IdFlowSeen → ℕ → Result Sent Refused → Type 0
  Admits old new id answer = Leaves old new held (admitted answer ++ held) [] × IsOfId id answer

  admits_leaves : (old new : IdFlowSeen) (id : ℕ) (answer : Result Sent Refused) → AdmitsOne id old new answer
      → Admits old new id answer
  admits_leaves old new id (Ok sent) admits = (
    leaves (ap claims admits.3) (made_none _ _ admits.1.asks.hears.learns.mine)
        (λ was. (opens_one admits.1.opens was, tt)),
    admits.1.id_is,
  )
  admits_leaves old new id (Err why) admits = (owes (ap claims admits.1) (same_made admits.0.writer) admits.0.owes, tt)

  may_go_leaves : (old new : IdFlowSeen) (id : ℕ) (may_go made : Bool) → EvictsIf may_go id old new made
      → Leaves old new held held []
  may_go_leaves old new id true true does = evict_leaves old new id evict.Evicted does.evicts does.owes does.rest
  may_go_leaves old new id true false does = evict_leaves old new id evict.Nothing does.evicts does.owes does.rest
  may_go_leaves old new id false true does = absurd does
  may_go_leaves old new id false false same = rests (ap claims same) (ap keeper_of same)

  room_leaves : (old new : IdFlowSeen) (id : ℕ) (say : Say) (made : Bool) → MakesRoom id say old new made
      → Leaves old new held held []
  room_leaves old new id say made makes =
      leaves_both (owes (ap claims makes.1.rest) (same_made makes.1.stays.writer) makes.1.stays.owes)
      (may_go_leaves makes.0 new say.id say.may_go made makes.2)

  asking_leaves : (old new : IdFlowSeen) (id : ℕ) (said : Option Say) (answer : Result Sent Refused)
      → AdmitsAsking id said old new answer → Admits old new id answer
  asking_leaves old new id None answer admits = absurd admits
  asking_leaves old new id (Some say) answer (inl kept) = rw kept.0 (room_leaves old new id say false kept.1, tt)
  asking_leaves old new id (Some say) answer (inr room) =
      let again = admits_leaves room.0 new id answer room.2.0 in
      (leaves_both (room_leaves old room.0 id say true room.1) again.0, again.1)

  pub making_room_leaves : (old new : IdFlowSeen) (id : ℕ) (said : Option Say) (answer : Result Sent Refused)
      → AdmitsMakingRoom id said old new answer → Admits old new id answer
  making_room_leaves old new id said answer (inl once) = admits_leaves old new id answer once.0.0
  making_room_leaves old new id said answer (inr full) =
      let asked = asking_leaves full.0 new id said answer full.2 in
      (leaves_both (admits_leaves old full.0 id (Err refused.Full) full.1).0 asked.0, asked.1)

-- FILLS AND WITHDRAWALS
module _ (old new : IdFlowSeen) (sent : Sent) where
  pub lack_leaves : (rows : List Row) (back : Sent × NoSlot) {held : List Owed}
      → FillsOneId sent rows old new (Err back) → Leaves old new held held []
  lack_leaves rows back fills =
      owes (ap claims fills.0.rest) (pass_made _ _ _ _ _ (fill.NoSlot back.1) fills.0.fills.1.lacks)
      fills.0.fills.1.owes

  pub worn_leaves : (raises : Sent → IdFlowSeen → IdFlowSeen → Type 0) (back : Sent) {held : List Owed}
      → WithdrawsOne raises sent old new (Err back) → Leaves old new held held []
  worn_leaves raises back ends =
      owes (ap claims ends.0.rest) (cancel_made sent.owed.way _ _ cancel.Worn ends.0.withdraws.1.worn)
      ends.0.withdraws.1.owes

  module _ (before after : List Owed) where
    -- the upquery ended, and the others are left
    abbrev Ends : Spent → List Row → Type 0
    Ends said rows =
        Leaves old new (before ++ sent.owed ∷ after) (before ++ after) (ended sent.owed (fate_of said rows))

    pub fill_leaves : (rows : List Row) (said : Spent) → FillsOneId sent rows old new (Ok said) → Ends said rows
    fill_leaves rows said fills = grind (arith, leaves, fill_made, closes_one, same_made, pass_made, all_at)

    pub withdraw_leaves : (raises : Sent → IdFlowSeen → IdFlowSeen → Type 0) (said : Spent)
        → WithdrawsOne raises sent old new (Ok said) → Ends said []
    withdraw_leaves raises said ends = grind (arith, leaves, same_made, cancel_made, all_at, closes_one)

-- UPDATES AND REPLACEMENTS
-- a call on an id's way, of a kind by which no fill is done
pub way_leaves : {Fault : Type 0} (call : ℕ → Caller → Caller → Result (Unit {0}) Fault → Type 0)
    → ((way : ℕ) (a b : Caller) (answer : Result (Unit {0}) Fault) → call way a b answer → Made a b [])
    → (old new : IdFlowSeen) (id : ℕ) (answer : Result (Unit {0}) (IdFault Fault)) {held : List Owed}
    → CallsWay call id old.writer new.writer answer → OwesSame old.writer new.writer
    → new ≡ record old { writer = new.writer } → Leaves old new held held []
way_leaves call made old new id (Ok done) calls same rest =
    owes (ap claims rest) (made calls.0 _ _ (Ok done) calls.2) same
way_leaves call made old new id (Err (fault.Refused why)) calls same rest =
    owes (ap claims rest) (made calls.0 _ _ (Err why) calls.2) same
way_leaves call made old new id (Err fault.Absent) calls same rest = owes (ap claims rest) (same_made calls.1) same
