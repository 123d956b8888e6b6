-- What a turn does, and what the dataflow's thread gives back.
use Rattle.std.specs.Prelude.{◌≡◌, ◌≢◌, ◌≤◌, ◌+◌, ◌++◌, ℕ, List, [], ◌∷◌, length, Option, None, Result, Ok, Err}
use Rattle.nr_model.specs.declared.batches.Delta.{Delta}
use Rattle.nr_model.specs.declared.calls.Call.TheVariants as call
use Rattle.nr_model.specs.declared.calls.Reply.{Reply}
use Rattle.nr_model.specs.declared.calls.Reply.TheVariants as reply
use Rattle.nr_model.specs.Histories.{Entry}
use Rattle.nr_core.specs.Story.{entry}
use Rattle.nr_board.specs.Callers.{Caller}
use Rattle.nr_board.specs.declared.answers.UpdateFault.{UpdateFault}
use Rattle.nr_trigger.specs.declared.post.Post.{Post}
use Rattle.nr_trigger.specs.Tokens.{TakerSeen}
use Rattle.nr_serve.specs.Flows.{FlowSeen}
use Rattle.nr_serve.specs.Hands.{capped}
use Rattle.nr_serve.specs.Turns.{Spends}
use Rattle.nr_load.specs.declared.fault.LoadFault.{LoadFault}
use Rattle.nr_load.specs.declared.flow.Flowed.{Flowed}
use Rattle.nr_load.specs.declared.flow.Turned.{Turned}
use Rattle.nr_load.specs.declared.flow.Turned.TheVariants as turned
use Rattle.nr_load.specs.Base.{Changes, IsRound, Rounds}
use Rattle.nr_load.specs.Gained.{Gained}
use Rattle.nr_load.specs.UnderWay.{upqueries_in, upqueries_of}

-- the one call is a change of a row that was refused
abbrev pub RefusesUpdate : ℕ → List Entry → Type 0
RefusesUpdate by later =
    (key : ℕ) × (batch : List Delta) × (answer : Reply) × (later ≡ entry by (call.Update key batch) answer ∷ [])
    × (answer ≢ reply.Done)

-- what became of a key after a fill, unless the map refused the change of its row
abbrev pub Changed : (by fills key : ℕ) → List Entry → List ℕ → List ℕ → Result (Unit {0}) UpdateFault → Type 0
Changed by fills key later base base' (Ok done) = Changes by fills key later base base'
Changed by fills key later base base' (Err fault) = RefusesUpdate by later

-- a turn: nothing was asked for, or one trigger, or the map refused a change
abbrev pub IsTurn : (by : ℕ) → List Entry → (fills : ℕ) → List ℕ → ℕ → List ℕ → Turned → Type 0
IsTurn by entries fills base fills' base' turned.Idle = (entries ≡ []) × (fills' ≡ fills) × (base' ≡ base)
IsTurn by entries fills base fills' base' turned.Went = IsRound by entries fills base fills' base'
IsTurn by entries fills base fills' base' turned.Wrong =
    (filled : Entry) × (later : List Entry) × (entries ≡ filled ∷ later) × RefusesUpdate by later

-- what one turn gained: it asked for nothing, and its fills are counted; the trigger that it spent, if any, is the one
-- that was filled, and none is kept
pub record TurnsOnce (old : FlowSeen (List ℕ)) (fills : ℕ) (new : FlowSeen (List ℕ)) (fills' : ℕ)
    (turned : Turned) : Type 0 where
  pub count : ℕ
  pub gained : Gained old.map.shape.keys old.writer new.writer 0 count
  pub fills_are : fills' ≡ capped (fills + count)
  pub turn : IsTurn old.writer.number gained.entries fills old.source fills' new.source turned
  pub spent : List Post
  pub one : length spent ≤ 1
  pub spends : Spends spent old.taker old.kept new.taker None
  pub fits : upqueries_of spent ≡ upqueries_in gained.entries
  pub none : new.kept ≡ None

-- all turns of a dataflow, whose fills are counted: where they end without a fault its calls are those of a base, and
-- each trigger that was taken was answered, in order
pub record TurnsAll (old new : FlowSeen (List ℕ)) (fills : ℕ) (fault : Option LoadFault) : Type 0 where
  pub count : ℕ
  pub gained : Gained old.map.shape.keys old.writer new.writer 0 count
  pub fills_are : fills ≡ capped count
  pub rounds : fault ≡ None
      → (turns : ℕ) × (base : List ℕ) × Rounds old.writer.number old.map.shape.keys turns gained.entries fills base
  pub gain : List Post
  pub taken : new.taker.taken ≡ old.taker.taken ++ gain
  pub answered : fault ≡ None → upqueries_of gain ≡ upqueries_in gained.entries

-- the same of the tokens that its thread was given and gave back
pub record Flows (writer : Caller) (taker : TakerSeen) (flowed : Flowed) : Type 0 where
  pub count : ℕ
  pub gained : Gained writer.table.shape.keys writer flowed.writer 0 count
  pub fills : flowed.fills ≡ capped count
  pub rounds : flowed.fault ≡ None
      → (turns : ℕ) × (base : List ℕ)
      × Rounds writer.number writer.table.shape.keys turns gained.entries flowed.fills base
  pub gain : List Post
  pub taken : flowed.taker.taken ≡ taker.taken ++ gain
  pub answered : flowed.fault ≡ None → upqueries_of gain ≡ upqueries_in gained.entries
