-- Dialogues: lines that spell commands, which are refused until one of them opens what they are for.
use Rattle.std.specs.Prelude.{ℕ, ◌≡◌, Bool, IsTrue, List, Option, None, Some, Result, Ok, Err}
use Rattle.nr_text.specs.declared.fault.LineError.{LineError}
use Rattle.nr_text.specs.declared.fault.LineError.TheVariants as errors

abbrev pub stays_open : {A S : Type 0} → A × S → A × Option S
stays_open (said, state) = (said, Some state)

-- what is said to a command, and the state after it: to a line that spells none, while closed, and once opened
abbrev pub answer_command : {A C S : Type 0} → A → (C → A × Option S) → (S → C → A × S) → Option S → Option C
    → A × Option S
answer_command bad while_closed once_opened state None = (bad, state)
answer_command bad while_closed once_opened None (Some command) = while_closed command
answer_command bad while_closed once_opened (Some state) (Some command) = stays_open (once_opened state command)

-- what is said, as it is spelled
abbrev pub in_words : {A S : Type 0} → (A → List ℕ) → A × S → List ℕ × S
in_words spelled (said, state) = (spelled said, state)

-- A line, or a part of it, comes to this outcome: what it asks for, or its refusal. Memory is wanting only where it
-- takes some.
abbrev pub IsOutcome : {A R S : Type 0} → Result A R × S → Bool → Result A (LineError R) → S → Type 0
IsOutcome outcome takes_memory (Ok found) after = outcome ≡ (Ok found, after)
IsOutcome outcome takes_memory (Err (errors.Refused why)) after = outcome ≡ (Err why, after)
IsOutcome outcome takes_memory (Err errors.Memory) after = IsTrue takes_memory
