-- The grammar of schedules: what each line commands.
use Rattle.std.specs.Prelude.{ℕ, if◌then◌else◌, List, [], ◌∷◌, Option, Some, None, codes, option_and_then, option_map}
use Rattle.std.specs.Str.{bytes_eq}
use Rattle.nr_prog.specs.declared.schedule.command.Command.{Command}
use Rattle.nr_prog.specs.declared.schedule.command.Command.TheVariants.{Open, Arrive, Read, Depart, Ask, Again, Find}
use Rattle.nr_prog.specs.declared.schedule.command.Command.TheVariants.{Fill, FillAs, Update, Replace, Evict, Cancel}
use Rattle.nr_prog.specs.declared.schedule.command.Command.TheVariants.{Go}
use Rattle.nr_text.specs.Grammar.{number, filling, filling_as, updating}
use Rattle.nr_text.specs.Opening.{opening_of_words}

-- a number alone, and two numbers
abbrev pub one_number : (ℕ → Command) → List (List ℕ) → Option Command
one_number command (word ∷ []) = option_map command (number word)
one_number command other = None

abbrev pub two_numbers : (ℕ → ℕ → Command) → List (List ℕ) → Option Command
two_numbers command (first ∷ second ∷ []) =
    option_and_then (λ a. option_map (λ b. command a b) (number second)) (number first)
two_numbers command other = None

-- a call of the writer
abbrev pub by_writer : List (List ℕ) → Option Command
by_writer [] = None
by_writer (name ∷ more) =
    if bytes_eq name (codes "find") then one_number Find more
    else if bytes_eq name (codes "fill") then filling number Fill more
    else if bytes_eq name (codes "fill-as") then filling_as number FillAs more
    else if bytes_eq name (codes "update") then updating number Update more
    else if bytes_eq name (codes "replace") then filling number Replace more
    else if bytes_eq name (codes "evict") then one_number Evict more
    else if bytes_eq name (codes "cancel") then one_number Cancel more
    else None

-- the name alone
abbrev pub alone : Command → List (List ℕ) → Option Command
alone command [] = Some command
alone command other = None

-- the command that a line's words spell
abbrev pub schedule_command : List (List ℕ) → Option Command
schedule_command [] = None
schedule_command (name ∷ more) =
    if bytes_eq name (codes "open") then option_map Open (opening_of_words more)
    else if bytes_eq name (codes "arrive") then two_numbers Arrive more
    else if bytes_eq name (codes "read") then two_numbers Read more
    else if bytes_eq name (codes "depart") then one_number Depart more
    else if bytes_eq name (codes "ask") then two_numbers Ask more
    else if bytes_eq name (codes "again") then two_numbers Again more
    else if bytes_eq name (codes "writer") then by_writer more
    else if bytes_eq name (codes "go") then alone Go more
    else None
