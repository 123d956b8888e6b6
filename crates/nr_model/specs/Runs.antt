-- The rows of all keys in one list: each key has a run of as many cells as it may have rows, and a head that says how
-- many are in use.
use Rattle.std.specs.Prelude.{ℕ, ◌≡◌, ◌≤◌, ◌*◌, List, [], ◌∷◌, length, take, drop, IsTrue}
use Rattle.nr_model.specs.declared.rows.Row.{Row}
use Rattle.nr_model.specs.declared.heads.Head.{Head}
use Rattle.nr_model.specs.declared.heads.Head.TheVariants as head
use Rattle.nr_model.specs.declared.states.KeyState.{KeyState}
use Rattle.nr_model.specs.declared.states.KeyState.TheVariants.{Hole, Asked, Rows}
use Rattle.nr_model.specs.Rows.{is_ascending}

-- the state of a key with that head and that run
abbrev pub state_in : Head → List Row → KeyState
state_in (head.Hole n) run = Hole n
state_in (head.Asked n) run = Asked n
state_in (head.Rows n len) run = Rows n (take len run)

-- the rows in use are in the run, and ascend
abbrev pub IsKeptRun : Head → List Row → Type 0
IsKeptRun (head.Rows n len) run = (len ≤ length run) × IsTrue (is_ascending (take len run))
IsKeptRun other run = Unit {0}

-- the states of all keys, whose runs of that many cells follow each other
abbrev pub states_in : ℕ → List Head → List Row → List KeyState
states_in bound [] cells = []
states_in bound (h ∷ heads) cells = state_in h (take bound cells) ∷ states_in bound heads (drop bound cells)

abbrev pub AllKept : ℕ → List Head → List Row → Type 0
AllKept bound [] cells = Unit {0}
AllKept bound (h ∷ heads) cells = IsKeptRun h (take bound cells) × AllKept bound heads (drop bound cells)

-- each head has a run of its own, and keeps its rows there
pub record AreRuns (bound : ℕ) (heads : List Head) (cells : List Row) : Type 0 where
  pub room : length cells ≡ length heads * bound
  pub kept : AllKept bound heads cells
