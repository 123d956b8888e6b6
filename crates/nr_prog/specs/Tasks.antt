-- What the words after the program's name ask for.
use Rattle.std.specs.Prelude.{ℕ, ◌<◌, ◌≤◌, ◌&&◌, nat_le, if◌then◌else◌, List, [], ◌∷◌, drop, map, codes, bytes_eq}
use Rattle.std.specs.Prelude.{Option, Some, None, option_and_then, Result, Ok, Err, String, string_bytes}
use Rattle.std.specs.declared.vec.IntoIter.{IntoIter}
use Rattle.std.specs.Vec.Iter.{into_iter_items}
use Rattle.nr_text.specs.Grammar.{number}
use Rattle.nr_prog.specs.declared.task.Misuse.TheVariants as misuse
use Rattle.nr_prog.specs.declared.task.Task.{Task}
use Rattle.nr_prog.specs.declared.task.Task.TheVariants.{Script, Schedule, Load, Explain}

abbrev pub if_within : ℕ → ℕ → ℕ → Option ℕ
if_within least most n = if nat_le least n && nat_le n most then Some n else None

-- the number that a word spells, where it is within these limits
abbrev pub number_within : ℕ → ℕ → List ℕ → Option ℕ
number_within least most word = option_and_then (if_within least most) (number word)

-- a load of a seed, readers, keys and gets; where one is missing, the first that is
abbrev pub load_of : Option ℕ → Option ℕ → Option ℕ → Option ℕ → Task
load_of None readers keys gets = Explain misuse.Seed
load_of (Some seed) None keys gets = Explain misuse.Readers
load_of (Some seed) (Some readers) None gets = Explain misuse.Keys
load_of (Some seed) (Some readers) (Some keys) None = Explain misuse.Gets
load_of (Some seed) (Some readers) (Some keys) (Some gets) =
    Load (record { seed = seed; readers = readers; keys = keys; gets = gets })

-- a load, where that is the word
abbrev pub load_asked : (word seed readers keys gets : List ℕ) → Task
load_asked word seed readers keys gets =
    if bytes_eq word (codes "load")
    then load_of (number seed) (number_within 1 1024 readers) (number_within 1 65536 keys)
    (number_within 0 1000000 gets)
    else Explain misuse.Words

-- what the words after the program's name ask for
abbrev pub task : List (List ℕ) → Task
task [] = Script
task (word ∷ []) = if bytes_eq word (codes "steps") then Schedule else Explain misuse.Words
task (word ∷ seed ∷ readers ∷ keys ∷ gets ∷ []) = load_asked word seed readers keys gets
task others = Explain misuse.Words

-- what a process's arguments ask for, the program's name first; those that could not be read are no command
abbrev pub task_given : {Y Z E : Type 0} → Result (IntoIter (String Y) Z) E → Task
task_given (Ok args) = task (map string_bytes (drop 1 (into_iter_items args)))
task_given (Err _) = Explain misuse.Words

-- a load has as many readers and keys as it may have
abbrev pub IsRunnable : Task → Type 0
IsRunnable Script = Unit {0}
IsRunnable Schedule = Unit {0}
IsRunnable (Load plan) = (0 < plan.readers) × (plan.readers ≤ 1024) × (0 < plan.keys) × (plan.keys ≤ 65536)
IsRunnable (Explain misuse) = Unit {0}
