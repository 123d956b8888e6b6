-- An opened script: what each command does to its map, and what it is answered.
use Rattle.std.specs.Prelude.{ℕ, ◌≡◌, ◌-◌, ◌&&◌, nat_lt, nat_le, if◌then◌else◌, Bool, false, List, length, Option, None}
use Rattle.std.specs.Prelude.{Some, Result, Ok, Err, is_none, true}
use Rattle.nr_model.specs.declared.rows.Row.{Row}
use Rattle.nr_model.specs.declared.rows.TooMany.{TooMany}
use Rattle.nr_model.specs.declared.calls.Call.{Call}
use Rattle.nr_model.specs.declared.calls.Call.TheVariants as calls
use Rattle.nr_model.specs.Maps.{key_count, state_of, number_of}
use Rattle.nr_script.specs.Answers.{Answer}
use Rattle.nr_script.specs.declared.alone.answer.PinRefusal.{PinRefusal as MapRefusal}
use Rattle.nr_script.specs.declared.alone.answer.PinRefusal.TheVariants as map_refusals
use Rattle.nr_script.specs.MapState.{MapState, MapOutcome, answer_again, answer_call, answer_of_reader, answer_pinning}
use Rattle.nr_script.specs.MapState.{answer_show, answer_unpin, opened_map}
use Rattle.nr_text.specs.Dialogue.{IsOutcome}
use Rattle.nr_text.specs.declared.fault.LineError.{LineError}
use Rattle.nr_text.specs.declared.fault.LineError.TheVariants as errors
use Rattle.nr_names.specs.declared.faults.NameFault.{NameFault}
use Rattle.nr_names.specs.declared.faults.NameFault.TheVariants as names
use Rattle.nr_names.specs.declared.table.TheConstants.{LONGEST_NAME}
use Rattle.nr_names.specs.Naming.{no_names, intern_reply, next_naming, adds}
use Rattle.nr_script.specs.declared.keys.Keys.{Keys}
use Rattle.nr_script.specs.declared.keys.Keys.TheVariants as kinds
use Rattle.nr_script.specs.declared.command.Command.{Command}
use Rattle.nr_script.specs.declared.command.Command.TheVariants.{Open, Find, Ask, Fill, FillAs, Update, Replace, Evict}
use Rattle.nr_script.specs.declared.command.Command.TheVariants.{Cancel, Look, Pin as PinKey, Show, Again, Unpin}
use Rattle.nr_script.specs.declared.answer.ScriptRefusal.{ScriptRefusal}
use Rattle.nr_script.specs.declared.answer.ScriptRefusal.TheVariants as refusals
use Rattle.nr_text.specs.Opening.{shape_of_opening}
use Rattle.nr_text.specs.Grammar.{number, within}
use Rattle.nr_text.specs.declared.opening.Opening.{Opening}

-- a script that was opened
pub record Opened : Type 0 where
  -- what stands for its keys: their numbers, or names
  pub keys : Keys
  -- its map, with what its readers have pinned
  pub state : MapState

-- what a command is answered, or why it is refused, and the script after it
abbrev pub ScriptOutcome : Type 0
ScriptOutcome = Result Answer ScriptRefusal × Opened

-- what the map answers to a call, or how the line is refused where the call is; the names stay
abbrev pub refused : MapRefusal → ScriptRefusal
refused map_refusals.Holding = refusals.Holding
refused map_refusals.NotHolding = refusals.NotHolding

abbrev pub by_map : Opened → MapOutcome → ScriptOutcome
by_map script (Ok answer, state) = (Ok answer, record script { state = state })
by_map script (Err refusal, state) = (Err (refused refusal), record script { state = state })

-- the readers are numbered from 1
abbrev pub script_has_reader : Opened → ℕ → Bool
script_has_reader script reader = nat_lt 0 reader && nat_le reader (length script.state.pins)

-- What a command needs is looked for in the order of the refusals; the command goes on with what was found, or is
-- refused.
abbrev pub with_found : {A : Type 0} → Result A ScriptRefusal × Opened → (A → Opened → ScriptOutcome) → ScriptOutcome
with_found (Ok found, script) outcome = outcome found script
with_found (Err refusal, script) outcome = (Err refusal, script)

-- a reader of the script
abbrev pub found_reader : Opened → ℕ → Result (Unit {0}) ScriptRefusal
found_reader script reader = if script_has_reader script reader then Ok tt else Err refusals.NoReader

-- a key by its number, and by its name
abbrev pub numbered_key : ℕ → Option ℕ → Result ℕ ScriptRefusal
numbered_key count None = Err refusals.Bad
numbered_key count (Some key) = if nat_lt key count then Ok key else Err refusals.NoKey

-- a word is never empty, so nothing else comes of a name
abbrev pub refused_name : NameFault → ScriptRefusal
refused_name names.TooLong = refusals.TooLong
refused_name names.Full = refusals.Full
refused_name other = refusals.Bad

abbrev pub named_key : Result ℕ NameFault → Result ℕ ScriptRefusal
named_key (Ok key) = Ok key
named_key (Err fault) = Err (refused_name fault)

-- a name that is refused, or for which there is no memory
abbrev pub name_error : NameFault → LineError ScriptRefusal
name_error names.Memory = errors.Memory
name_error other = errors.Refused (refused_name other)

-- as many names as keys
abbrev pub NamesFit : Keys → ℕ → Type 0
NamesFit kinds.Numbered count = Unit {0}
NamesFit (kinds.Named naming) count = naming.keys ≡ count

-- the key that a word stands for, of that many keys, and the names after it: a new name gets the next number
abbrev pub key_of_word : Keys → ℕ → List ℕ → Result ℕ ScriptRefusal × Keys
key_of_word kinds.Numbered count word = (numbered_key count (number word), kinds.Numbered)
key_of_word (kinds.Named naming) count word =
    (named_key (intern_reply LONGEST_NAME naming word), kinds.Named (next_naming LONGEST_NAME naming word))

-- the word is a new name that gets a number, which takes memory
abbrev pub adds_key : Keys → List ℕ → Bool
adds_key kinds.Numbered word = false
adds_key (kinds.Named naming) word = adds LONGEST_NAME naming word

abbrev pub with_keys : Opened → Result ℕ ScriptRefusal × Keys → Result ℕ ScriptRefusal × Opened
with_keys script (found, keys) = (found, record script { keys = keys })

abbrev pub found_key : Opened → List ℕ → Result ℕ ScriptRefusal × Opened
found_key script word = with_keys script (key_of_word script.keys (key_count script.state.map) word)

-- a word that cannot stand for a key
abbrev pub is_no_key : Keys → List ℕ → Bool
is_no_key kinds.Numbered word = is_none (number word)
is_no_key (kinds.Named naming) word = false

-- the key of a word, where its line's reader is found: a word that cannot stand for a key is refused before the reader
abbrev pub key_for_reader : Result (Unit {0}) ScriptRefusal → Keys → ℕ → List ℕ → Result ℕ ScriptRefusal × Keys
key_for_reader (Ok _) keys count word = key_of_word keys count word
key_for_reader (Err why) keys count word = (if is_no_key keys word then Err refusals.Bad else Err why, keys)

-- a key, for a reader of the script
abbrev pub found_by_reader : Opened → ℕ → List ℕ → Result ℕ ScriptRefusal × Opened
found_by_reader script reader word =
    with_keys script (key_for_reader (found_reader script reader) script.keys (key_count script.state.map) word)

-- a set of no more rows than a key may have
abbrev pub found_rows : Option (List Row) → Result (List Row) ScriptRefusal
found_rows (Some rows) = Ok rows
found_rows None = Err refusals.TooMany

abbrev pub found_set : Opened → Result (List Row) TooMany → Result (List Row) ScriptRefusal
found_set script set = found_rows (within script.state.map.bound set)

-- a call of the writer, and of a reader, at its place in the map
abbrev pub called : Opened → Call → ScriptOutcome
called script call = by_map script (answer_call script.state call)

abbrev pub called_by : Opened → ℕ → Call → ScriptOutcome
called_by script reader call = by_map script (answer_of_reader script.state (reader - 1) call)

-- each command of an opened script; a fill that names no number has that of its key as it stands
abbrev pub answer_opened_script : Opened → Command → ScriptOutcome
answer_opened_script script (Open named sizes) = (Err refusals.Bad, script)
answer_opened_script script (Find reader word) =
    with_found (found_by_reader script reader word) (λ key after. called_by after reader (calls.Find key))
answer_opened_script script (Ask reader word) =
    with_found (found_by_reader script reader word) (λ key after. called_by after reader (calls.Ask key))
answer_opened_script script (Fill word set) =
    with_found (found_key script word)
    (λ key after. with_found (found_set after set, after)
    (λ rows fits. called fits (calls.Fill key (number_of (state_of fits.state.map key)) rows)))
answer_opened_script script (FillAs word number set) =
    with_found (found_key script word)
    (λ key after. with_found (found_set after set, after) (λ rows fits. called fits (calls.Fill key number rows)))
answer_opened_script script (Update word batch) =
    with_found (found_key script word) (λ key after. called after (calls.Update key batch))
answer_opened_script script (Replace word set) =
    with_found (found_key script word)
    (λ key after. with_found (found_set after set, after) (λ rows fits. called fits (calls.Replace key rows)))
answer_opened_script script (Evict word) =
    with_found (found_key script word) (λ key after. called after (calls.Evict key))
answer_opened_script script (Cancel word) =
    with_found (found_key script word) (λ key after. called after (calls.Cancel key))
answer_opened_script script (Look word) =
    with_found (found_key script word) (λ key after. called after (calls.Find key))
answer_opened_script script (PinKey reader word) =
    with_found (found_by_reader script reader word)
    (λ key after. by_map after (answer_pinning after.state (reader - 1) key (state_of after.state.map key)))
answer_opened_script script (Show reader) =
    with_found (found_reader script reader, script)
    (λ _ of_reader. by_map of_reader (answer_show of_reader.state (reader - 1)))
answer_opened_script script (Again reader word) =
    with_found (found_by_reader script reader word)
    (λ key after. by_map after (answer_again after.state (reader - 1) key))
answer_opened_script script (Unpin reader) =
    with_found (found_reader script reader, script)
    (λ _ of_reader. by_map of_reader (answer_unpin of_reader.state (reader - 1)))

-- the command has such a word for its key; nothing else that it does takes memory
abbrev pub adds_by : Opened → Command → Bool
adds_by script (Find reader word) = adds_key script.keys word
adds_by script (Ask reader word) = adds_key script.keys word
adds_by script (Fill word set) = adds_key script.keys word
adds_by script (FillAs word number set) = adds_key script.keys word
adds_by script (Update word batch) = adds_key script.keys word
adds_by script (Replace word set) = adds_key script.keys word
adds_by script (Evict word) = adds_key script.keys word
adds_by script (Cancel word) = adds_key script.keys word
adds_by script (Look word) = adds_key script.keys word
adds_by script (PinKey reader word) = adds_key script.keys word
adds_by script (Again reader word) = adds_key script.keys word
adds_by script other = false

-- an opened script answers a command, or refuses it
abbrev pub AnswersCommand : Opened → Command → Result Answer (LineError ScriptRefusal) → Opened → Type 0
AnswersCommand script command result after =
    IsOutcome (answer_opened_script script command) (adds_by script command) result after

-- what stands for the keys when a script is opened
abbrev pub keys_opened : Bool → ℕ → Keys
keys_opened true count = kinds.Named (no_names count)
keys_opened false count = kinds.Numbered

abbrev pub opened_script : Bool → Opening → Opened
opened_script named sizes = record { keys = keys_opened named sizes.keys; state = opened_map (shape_of_opening sizes) }
