-- How the writer by id asks for a way.
use Rattle.std.specs.Prelude.{◌≡◌, ℕ}
use Rattle.nr_model.specs.declared.calls.Call.TheVariants.{Ask}
use Rattle.nr_model.specs.declared.calls.Reply.{Reply}
use Rattle.nr_board.specs.Callers.{Caller, Gains}
use Rattle.nr_board.specs.Meetings.{HearsNote, Meets, known_to, with_step}

-- the asker learns what the writer knows, asks for the way, and tells the writer
pub record AsksWay (way : ℕ) (asker writer asker' writer' : Caller) : Type 0 where
  pub met : Caller
  pub meets : Meets 1 writer asker met
  pub asked : Caller
  pub answer : Reply
  pub asks : Gains 1 (Ask way) met asked answer
  pub told : asker' ≡ with_step asked
  pub hears : HearsNote 1 (known_to asked) (with_step writer) writer'
