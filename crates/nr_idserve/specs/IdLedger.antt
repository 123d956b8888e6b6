-- What becomes of the claims that a dataflow by id takes, and of the upqueries that they open: each claim is answered,
-- or kept; each upquery was filled or withdrawn, or it is in hand, and open still.
use Rattle.std.specs.Prelude.{◌≡◌, ◌≤◌, ◌+◌, ℕ, List, [], ◌∷◌, ◌++◌, map, Option, None, Some, Result, Ok, Err}
use Rattle.std.specs.List.{flat_map}
use Rattle.nr_model.specs.declared.batches.Delta.{Delta}
use Rattle.nr_model.specs.declared.rows.Row.{Row}
use Rattle.nr_model.specs.Histories.{Entry}
use Rattle.nr_core.specs.Sums.{only, total}
use Rattle.nr_core.specs.declared.calls.NoSlot.{NoSlot}
use Rattle.nr_board.specs.declared.answers.Evict.{Evict}
use Rattle.nr_board.specs.declared.answers.ReplaceFault.{ReplaceFault}
use Rattle.nr_board.specs.declared.answers.UpdateFault.{UpdateFault}
use Rattle.nr_board.specs.Meetings.{with_step}
use Rattle.nr_board.specs.WriterAnswers.{ReplacesKey, UpdatesKey}
use Rattle.nr_idmap.specs.declared.writes.IdFault.{IdFault}
use Rattle.nr_idmap.specs.IdNotes.{IdKnown, WriterHears}
use Rattle.nr_idmap.specs.IdWrites.{CallsWay, EvictsId}
use Rattle.nr_idmap.specs.Keepers.{IsTied, Keeper, Owed, OwesSame, Sent, owed_at}
use Rattle.nr_idmap.specs.Tags.{tag_of}
use Rattle.nr_serve.specs.declared.turns.Spent.{Spent}
use Rattle.nr_serve.specs.Ledger.{Fate, Filled, Filling, Passed, fate_of, fills_done}
use Rattle.nr_trigger.specs.declared.post.Post.{Post}
use Rattle.nr_idserve.specs.declared.taking.Taken.{Taken}
use Rattle.nr_idserve.specs.declared.taking.Taken.TheVariants as taken
use Rattle.nr_idserve.specs.IdEnds.{FailsOneId, FillsOneId, InvalidatesOneId}
use Rattle.nr_idserve.specs.IdFlows.{IdFlowSeen}
use Rattle.nr_idserve.specs.IdTakes.{Say, TakesById}

-- THE BOOKS
-- what a claim came to that was taken: it opened an upquery, or its id needed none
pub data Answered : Type 0 where
  Opened : Owed → Answered
  Needless : ℕ → Answered

abbrev pub id_of : Answered → ℕ
id_of (Opened owed) = owed.id
id_of (Needless id) = id

abbrev pub ids_of : List Answered → List ℕ
ids_of = map id_of

abbrev pub opened_of : Answered → List Owed
opened_of (Opened owed) = owed ∷ []
opened_of (Needless id) = []

abbrev pub opened_by : List Answered → List Owed
opened_by = flat_map opened_of

-- what the claims name that came out of the queue, and the one that is kept
abbrev pub ids_taken : List Post → List ℕ
ids_taken = map (λ post. post.upquery.number)

abbrev pub ids_refused : Option ℕ → List ℕ
ids_refused None = []
ids_refused (Some id) = id ∷ []

-- how an upquery ended
pub record IdEnding : Type 0 where
  pub owed : Owed
  pub fate : Fate

abbrev pub ended : Owed → Fate → List IdEnding
ended owed fate = record { owed = owed; fate = fate } ∷ []

abbrev pub owed_of : List IdEnding → List Owed
owed_of = map (λ ending. ending.owed)

-- none of them passed
abbrev pub IsAnswer : Fate → Type 0
IsAnswer Passed = ⊥
IsAnswer _ = Unit {0}

abbrev pub AreAnswers : List IdEnding → Type 0
AreAnswers [] = Unit {0}
AreAnswers (ending ∷ endings) = IsAnswer ending.fate × AreAnswers endings

-- the fills of a map's keys by which they ended so
abbrev pub filled_by : Owed → Fate → List Filling
filled_by owed (Filled rows) = record { key = owed.way; number = owed.number; rows = tag_of owed.id ∷ rows } ∷ []
filled_by owed _ = []

abbrev pub fills_by : List IdEnding → List Filling
fills_by = flat_map (λ ending. filled_by ending.owed ending.fate)

-- WHAT IS IN HAND
-- the upqueries in hand that are for a way, and for an id
abbrev pub held_for : ℕ → List Owed → ℕ
held_for way = total (λ owed. only way owed.way)

abbrev pub held_for_id : ℕ → List Owed → ℕ
held_for_id id = total (λ owed. only id owed.id)

abbrev pub one_if_open : Option Owed → ℕ
one_if_open None = 0
one_if_open (Some owed) = 1

-- those are open
abbrev pub AllOpen : Keeper → List Owed → Type 0
AllOpen keeper [] = Unit {0}
AllOpen keeper (owed ∷ others) = (owed_at keeper owed.way ≡ Some owed) × AllOpen keeper others

-- each upquery in hand is open, each open one is in hand, and none is twice
pub record AreTheOpen (keeper : Keeper) (held : List Owed) : Type 0 where
  pub all : AllOpen keeper held
  pub once : (way : ℕ) → held_for way held ≡ one_if_open (owed_at keeper way)

-- A DATAFLOW
-- what a take answered: nothing where an upquery was kept, since that had been opened before
abbrev pub answered_by : Option Sent → Taken → List Answered
answered_by None (taken.Asked sent) = Opened sent.owed ∷ []
answered_by None (taken.Passed id) = Needless id ∷ []
answered_by kept answer = []

-- A call of the dataflow, by what its contract says (a turn makes such calls in a row): with the upqueries in hand
-- before it, which are those that it keeps and those that are under way, as nobody can drop or copy one; the claims
-- that it answered; the upqueries that ended; and those in hand after it.
pub data DoesById : IdFlowSeen → List Owed → List Answered → List IdEnding → IdFlowSeen → List Owed → Type 0 where
  Takes : (old new : IdFlowSeen) (said : Option Say) (answer : Taken) (held : List Owed)
      → TakesById said old new answer
      → DoesById old held (answered_by old.kept answer) [] new (opened_by (answered_by old.kept answer) ++ held)
  Fills : (old new : IdFlowSeen) (sent : Sent) (rows : List Row) (spent : Spent) (before after : List Owed)
      → FillsOneId sent rows old new (Ok spent)
      → DoesById old (before ++ sent.owed ∷ after) [] (ended sent.owed (fate_of spent rows)) new (before ++ after)
  FillLacks : (old new : IdFlowSeen) (sent : Sent) (rows : List Row) (back : Sent × NoSlot) (held : List Owed)
      → FillsOneId sent rows old new (Err back) → DoesById old held [] [] new held
  Fails : (old new : IdFlowSeen) (sent : Sent) (spent : Spent) (before after : List Owed)
      → FailsOneId sent old new (Ok spent)
      → DoesById old (before ++ sent.owed ∷ after) [] (ended sent.owed (fate_of spent [])) new (before ++ after)
  FailWorn : (old new : IdFlowSeen) (sent back : Sent) (held : List Owed) → FailsOneId sent old new (Err back)
      → DoesById old held [] [] new held
  Invalidates : (old new : IdFlowSeen) (sent : Sent) (spent : Spent) (before after : List Owed)
      → InvalidatesOneId sent old new (Ok spent)
      → DoesById old (before ++ sent.owed ∷ after) [] (ended sent.owed (fate_of spent [])) new (before ++ after)
  InvalidateWorn : (old new : IdFlowSeen) (sent back : Sent) (held : List Owed)
      → InvalidatesOneId sent old new (Err back) → DoesById old held [] [] new held
  Keeps : (old new : IdFlowSeen) (sent : Sent) (held : List Owed) → new ≡ record old { kept = Some sent }
      → DoesById old held [] [] new held
  Updates : (old new : IdFlowSeen) (id : ℕ) (deltas : List Delta) (answer : Result (Unit {0}) (IdFault UpdateFault))
      (held : List Owed)
      → CallsWay (λ way. UpdatesKey old.map.map.shape.rows way deltas) id old.writer new.writer answer
      → OwesSame old.writer new.writer → new ≡ record old { writer = new.writer } → DoesById old held [] [] new held
  Replaces : (old new : IdFlowSeen) (id : ℕ) (rows : List Row) (answer : Result (Unit {0}) (IdFault ReplaceFault))
      (held : List Owed)
      → CallsWay (λ way. ReplacesKey way (tag_of id ∷ rows)) id old.writer new.writer answer
      → OwesSame old.writer new.writer → new ≡ record old { writer = new.writer } → DoesById old held [] [] new held
  Evicts : (old new : IdFlowSeen) (id : ℕ) (answer : Evict) (held : List Owed)
      → EvictsId id old.writer new.writer answer → OwesSame old.writer new.writer
      → new ≡ record old { writer = new.writer; guest = new.guest } → DoesById old held [] [] new held
  Tells : (old new : IdFlowSeen) (held : List Owed) → new.writer.writer ≡ with_step old.writer.writer
      → OwesSame old.writer new.writer → new ≡ record old { writer = new.writer } → DoesById old held [] [] new held
  Hears : (old new : IdFlowSeen) (note : IdKnown) (held : List Owed) → WriterHears note old.writer new.writer
      → OwesSame old.writer new.writer → new ≡ record old { writer = new.writer } → DoesById old held [] [] new held
  -- it reads the bell or sleeps
  Looks : (old new : IdFlowSeen) (held : List Owed) → new ≡ record old { guest = new.guest }
      → DoesById old held [] [] new held

-- a dataflow after any such calls since it was opened, when no upquery was open: with the upqueries in hand, the claims
-- that it answered and the upqueries that ended, in order
pub data RunById (first : IdFlowSeen) : IdFlowSeen → List Owed → List Answered → List IdEnding → Type 0 where
  Begins : ((way : ℕ) → owed_at first.writer way ≡ None) → first.refused ≡ None → RunById first first [] [] []
  Then : (old new : IdFlowSeen) (held left : List Owed) (answers more : List Answered) (ends others : List IdEnding)
      → RunById first old held answers ends → DoesById old held more others new left
      → RunById first new left (answers ++ more) (ends ++ others)

pub record IsEachOnceById (first now : IdFlowSeen) (held : List Owed) (answers : List Answered)
    (ends : List IdEnding) : Type 0 where
  -- the claims that came out of the queue since the opening were answered in their order, each once, but for the one
  -- that is kept
  pub gain : List Post
  pub taken : now.taker.taken ≡ first.taker.taken ++ gain
  pub claims : ids_taken gain ≡ ids_of answers ++ ids_refused now.refused
  -- each upquery that they opened was filled or withdrawn, or is in hand: none twice, none lost
  pub each : (count : Owed → ℕ) → total count (opened_by answers) ≡ total count (owed_of ends) + total count held
  pub answered : AreAnswers ends
  -- those in hand are those that are open, and no id has two
  pub all_open : AreTheOpen now.writer held
  pub one : IsTied now.writer → (id : ℕ) → held_for_id id held ≤ 1
  -- the fills that the map's history has of the writer are those of upqueries, one each, by its number and with the
  -- rows that were given for it
  pub calls : List Entry
  pub mine : now.writer.writer.mine ≡ first.writer.writer.mine ++ calls
  pub fills : fills_done calls ≡ fills_by ends

abbrev pub EachUpqueryEndsOnce : Type 0
EachUpqueryEndsOnce =
    (first now : IdFlowSeen) (held : List Owed) (answers : List Answered) (ends : List IdEnding)
    → RunById first now held answers ends → IsEachOnceById first now held answers ends
