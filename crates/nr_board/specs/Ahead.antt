-- A load that tells its token nothing of the map, by which a word is near when it is needed.
use Rattle.std.specs.Prelude.{◌≡◌, ℕ, ◌+◌, List, [], ◌∷◌, ◌++◌}
use Rattle.nr_core.specs.Slots.{name_number}
use Rattle.nr_core.specs.Marks.{with_look}
use Rattle.nr_board.specs.Callers.{Caller}
use Rattle.nr_board.specs.Plays.{Then}
use Rattle.nr_board.specs.Views.{Loaded, View}

-- one load more, of the word at that place
abbrev pub and_load : List Loaded → ℕ → ℕ → List Loaded
and_load loads place word = loads ++ record { place = place; word = word } ∷ []

-- the token counts the step, and says what it loaded
abbrev pub with_load : ℕ → ℕ → View → View
with_load place word view = record view { steps = view.steps + 1; loaded_ahead = and_load view.loaded_ahead place word }

abbrev pub has_loaded : Then
has_loaded step (before, _) found (after, _) = after ≡ with_load step.word found before

-- and where it is a look at a key, what this named
abbrev pub ahead : ℕ → ℕ → View → View
ahead key named view = record view { steps = view.steps + 1; marks = with_look view.marks key named }

abbrev pub has_looked_ahead : Then
has_looked_ahead step (before, _) found (after, _) = after ≡ ahead step.word (name_number found) before

-- as contracts see the token
abbrev pub after_load : ℕ → ℕ → Caller → Caller
after_load place word caller =
    record caller { steps = caller.steps + 1; loaded_ahead = and_load caller.loaded_ahead place word }

abbrev pub after_look : ℕ → ℕ → Caller → Caller
after_look key named caller = record caller { steps = caller.steps + 1; marks = with_look caller.marks key named }
