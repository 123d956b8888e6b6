-- What becomes of the triggers that a dataflow takes: each was filled, passed or failed, or it is kept, or under way.
use Rattle.std.specs.Prelude.{◌≡◌, ◌++◌, ℕ, List, [], ◌∷◌, Result, Ok, Err, None, Some}
use Rattle.nr_model.specs.declared.batches.Delta.{Delta}
use Rattle.nr_model.specs.declared.calls.Call.{Call}
use Rattle.nr_model.specs.declared.calls.Call.TheVariants as call
use Rattle.nr_model.specs.declared.calls.Reply.{Reply}
use Rattle.nr_model.specs.declared.calls.Reply.TheVariants as reply
use Rattle.nr_model.specs.declared.rows.Row.{Row}
use Rattle.nr_model.specs.Histories.{Entry}
use Rattle.nr_core.specs.Sums.{total}
use Rattle.nr_core.specs.declared.calls.NoSlot.{NoSlot}
use Rattle.nr_board.specs.declared.answers.Cancel.{Cancel}
use Rattle.nr_board.specs.declared.answers.Cancel.TheVariants as cancel
use Rattle.nr_board.specs.declared.answers.Evict.{Evict}
use Rattle.nr_board.specs.declared.answers.ReplaceFault.{ReplaceFault}
use Rattle.nr_board.specs.declared.answers.UpdateFault.{UpdateFault}
use Rattle.nr_board.specs.Meetings.{HearsNote, Known, with_step}
use Rattle.nr_board.specs.WriterAnswers.{CancelsKey, EvictsKey, ReplacesKey, UpdatesKey}
use Rattle.nr_trigger.specs.declared.post.Post.{Post}
use Rattle.nr_serve.specs.declared.turns.Spent.{Spent}
use Rattle.nr_serve.specs.declared.turns.Spent.TheVariants as spent
use Rattle.nr_serve.specs.declared.try_turns.TryTurn.{TryTurn}
use Rattle.nr_serve.specs.declared.try_turns.TryTurn.TheVariants as turn
use Rattle.nr_serve.specs.Ends.{FailsOne, FillsOne}
use Rattle.nr_serve.specs.Flows.{FlowSeen}
use Rattle.nr_serve.specs.Turns.{FindsNone, Takes, TurnsOrFails, kept_posts}

-- how a trigger ended: its key was filled with these rows; it needed none; or they couldn't be had, and its request was
-- taken back
pub data Fate : Type 0 where
  Filled : List Row → Fate
  Passed : Fate
  Failed : Fate

pub record Ending : Type 0 where
  pub post : Post
  pub fate : Fate

abbrev pub ended : Post → Fate → List Ending
ended post fate = record { post = post; fate = fate } ∷ []

-- what a trigger came to that was spent, given these rows
abbrev pub fate_of : Spent → List Row → Fate
fate_of spent.Filled rows = Filled rows
fate_of spent.Passed rows = Passed
fate_of spent.Failed rows = Failed

-- what it came to where the source failed
abbrev pub fate_by : Cancel → Fate
fate_by cancel.Cancelled = Failed
fate_by _ = Passed

module _ {S : Type 0} (gives : S → (key bound : ℕ) → List Row → S → Type 0)
    (fails : S → (key bound : ℕ) → S → Type 0) where
  -- the trigger that a turn spent
  abbrev pub ended_by : (old : FlowSeen S) (turned : TryTurn) (new : FlowSeen S)
      → TurnsOrFails gives fails old new turned → List Ending
  ended_by old (turn.Filled key) new turns = ended turns.post (Filled turns.answers.rows)
  ended_by old (turn.Passed key) new (_, _, spends) = ended spends.post Passed
  ended_by old (turn.Failed key) new turns = ended turns.post (fate_by turns.answer)
  ended_by old _ new turns = []

  -- a call of the dataflow, by what its contract says, with the triggers that it gave out, those that it got back, and
  -- those that ended
  pub data Does : FlowSeen S → List Post → List Post → List Ending → FlowSeen S → Type 0 where
    TakesOne : (old new : FlowSeen S) (post : Post) → Takes old new post → Does old (post ∷ []) [] [] new
    TakesNone : (old new : FlowSeen S) → FindsNone old new → Does old [] [] [] new
    Fills : (old new : FlowSeen S) (post : Post) (rows : List Row) (spent : Spent)
        → FillsOne post rows old new (Ok spent) → Does old [] (post ∷ []) (ended post (fate_of spent rows)) new
    FillLacks : (old new : FlowSeen S) (post : Post) (rows : List Row) (back : Post) (counts : NoSlot)
        → FillsOne post rows old new (Err (back, counts)) → Does old (back ∷ []) (post ∷ []) [] new
    Fails : (old new : FlowSeen S) (post : Post) (spent : Spent) → FailsOne post old new (Ok spent)
        → Does old [] (post ∷ []) (ended post (fate_of spent [])) new
    FailWorn : (old new : FlowSeen S) (post back : Post) → FailsOne post old new (Err back)
        → Does old (back ∷ []) (post ∷ []) [] new
    Keeps : (old new : FlowSeen S) (post : Post) → new ≡ record old { kept = Some post }
        → Does old (kept_posts old.kept) (post ∷ []) [] new
    TurnsOnce : (old new : FlowSeen S) (turned : TryTurn) (turns : TurnsOrFails gives fails old new turned)
        → Does old [] [] (ended_by old turned new turns) new
    Updates : (old new : FlowSeen S) (key : ℕ) (batch : List Delta) (answer : Result (Unit {0}) UpdateFault)
        → UpdatesKey old.map.shape.rows key batch old.writer new.writer answer
        → new ≡ record old { writer = new.writer } → Does old [] [] [] new
    Replaces : (old new : FlowSeen S) (key : ℕ) (rows : List Row) (answer : Result (Unit {0}) ReplaceFault)
        → ReplacesKey key rows old.writer new.writer answer → new ≡ record old { writer = new.writer }
        → Does old [] [] [] new
    Evicts : (old new : FlowSeen S) (key : ℕ) (answer : Evict) → EvictsKey key old.writer new.writer answer
        → new ≡ record old { writer = new.writer } → Does old [] [] [] new
    Cancels : (old new : FlowSeen S) (key : ℕ) (answer : Cancel) → CancelsKey key old.writer new.writer answer
        → new ≡ record old { writer = new.writer; guest = new.guest } → Does old [] [] [] new
    Tells : (old new : FlowSeen S) → new ≡ record old { writer = with_step old.writer } → Does old [] [] [] new
    Hears : (old new : FlowSeen S) (note : Known) → HearsNote 1 note old.writer new.writer
        → new ≡ record old { writer = new.writer } → Does old [] [] [] new
    -- it reads the bell or sleeps, and its source is changed
    Looks : (old new : FlowSeen S) → new ≡ record old { guest = new.guest } → Does old [] [] [] new
    Lends : (old new : FlowSeen S) → new ≡ record old { source = new.source } → Does old [] [] [] new

  -- a dataflow after any such calls since it was opened, with the triggers that are under way, as nobody can drop or
  -- copy one, and those that ended, in order
  pub data Run (first : FlowSeen S) : FlowSeen S → List Post → List Ending → Type 0 where
    Opens : first.kept ≡ None → Run first first [] []
    Goes : (old new : FlowSeen S) (before after out back : List Post) (ends more : List Ending)
        → Run first old (before ++ (back ++ after)) ends → Does old out back more new
        → Run first new (before ++ (out ++ after)) (ends ++ more)

-- the triggers that ended
abbrev pub posts_of : List Ending → List Post
posts_of [] = []
posts_of (ending ∷ endings) = ending.post ∷ posts_of endings

-- the same triggers, each as often, however they are counted
abbrev pub AreTheSame : List Post → List Post → Type 0
AreTheSame posts others = (count : Post → ℕ) → total count posts ≡ total count others

-- a fill: of which key, by which ticket number, with which rows
pub record Filling : Type 0 where
  pub key : ℕ
  pub number : ℕ
  pub rows : List Row

-- the fills of a list of calls that were done, and those of triggers that ended so
abbrev pub done_by : Call → Reply → List Filling
done_by (call.Fill key number rows) reply.Done = record { key = key; number = number; rows = rows } ∷ []
done_by _ _ = []

abbrev pub fills_done : List Entry → List Filling
fills_done [] = []
fills_done (entry ∷ entries) = done_by entry.call entry.reply ++ fills_done entries

abbrev pub filled_by : Post → Fate → List Filling
filled_by post (Filled rows) = record { key = post.upquery.key; number = post.upquery.number; rows = rows } ∷ []
filled_by post _ = []

abbrev pub fills_of : List Ending → List Filling
fills_of [] = []
fills_of (ending ∷ endings) = filled_by ending.post ending.fate ++ fills_of endings

pub record IsEachOnce {S : Type 0} (first flow : FlowSeen S) (out : List Post) (ends : List Ending) : Type 0 where
  -- each trigger that was taken since the opening ended, or is kept, or is under way: none twice, none lost
  pub gain : List Post
  pub taken : flow.taker.taken ≡ first.taker.taken ++ gain
  pub each : AreTheSame gain (posts_of ends ++ (kept_posts flow.kept ++ out))
  -- the fills that the map's history has of the writer are those of triggers, one each, by its number and with the rows
  -- that were given for it
  pub calls : List Entry
  pub mine : flow.writer.mine ≡ first.writer.mine ++ calls
  pub fills : fills_done calls ≡ fills_of ends

abbrev pub EachTriggerEndsOnce : {S : Type 0} → (S → (key bound : ℕ) → List Row → S → Type 0)
    → (S → (key bound : ℕ) → S → Type 0) → Type 0
EachTriggerEndsOnce {S} gives fails =
    (first flow : FlowSeen S) (out : List Post) (ends : List Ending) → Run gives fails first flow out ends
    → IsEachOnce first flow out ends
