-- The writer's call: where each of its steps takes it, by the word that the step finds.
use Rattle.std.specs.Prelude.{Err, List, None, Ok, Option, Result, Some, [], if◌then◌else◌, length, nat_le, nat_lt}
use Rattle.std.specs.Prelude.{remove, slice_index, slice_set, ℕ, ◌*◌, ◌++◌, ◌+◌, ◌-◌, ◌==◌, ◌∷◌}
use Rattle.nr_model.specs.declared.rows.Row.{Row}
use Rattle.nr_model.specs.declared.batches.ApplyFault.{ApplyFault}
use Rattle.nr_model.specs.declared.calls.Reply.{Reply}
use Rattle.nr_model.specs.Batches.{applied}
use Rattle.nr_model.specs.Maps.{applied_reply, last_number}
use Rattle.nr_core.specs.declared.shape.Shape.{Shape}
use Rattle.nr_core.specs.declared.calls.WriterCall.{WriterCall}
use Rattle.nr_core.specs.declared.calls.WriterCall.TheVariants.{Find, Fill, Update, Replace, Evict, Cancel}
use Rattle.nr_core.specs.declared.calls.Step.{Step}
use Rattle.nr_core.specs.declared.calls.Step.TheVariants.{Going, Ended}
use Rattle.nr_core.specs.declared.places.Place.{Place}
use Rattle.nr_core.specs.declared.places.Place.TheVariants.{Idle, Reading, Leaving, Withdrawing, Searching, Putting}
use Rattle.nr_core.specs.declared.places.Retired.{Retired}
use Rattle.nr_core.specs.declared.roles.Desk.{Desk}
use Rattle.nr_words.specs.KeyWords.{is_filled, has_ask, slot_of, arrivals_of, same_count}
use Rattle.nr_core.specs.Slots.{bound_of}
use Rattle.nr_core.specs.States.{number_at, retired_at}
use Rattle.nr_words.specs.SetWords.{decode}
use Rattle.nr_model.specs.declared.calls.Reply.TheVariants as reply
use Rattle.nr_core.specs.declared.calls.WReply.TheVariants as writer

-- the desk with the writer at another stage of its call
abbrev pub moved_to : Desk → Place → Desk
moved_to desk place = record desk { place = place }

-- where a step leads: to a desk, and to what the step comes to
abbrev pub desk_in : Desk × Step → Desk
desk_in (desk, _) = desk

abbrev pub step_in : Desk × Step → Step
step_in (_, step) = step

abbrev pub ended : Reply → Step
ended answer = Ended (writer.Reply answer)

-- no slot: each is retired, or named by a key
abbrev pub no_slot : Shape → Desk → Step
no_slot shape desk =
    Ended (writer.NoSlot (record { live = shape.slots - length desk.retired; held = length desk.retired }))

-- the desk after the first free slot was taken for the set
abbrev pub taking_fresh : Shape → Desk → WriterCall → List Row → Desk
taking_fresh shape desk call rows =
    record desk { place = Putting call rows desk.fresh shape.first_count 0; fresh = desk.fresh + 1 }

-- the call takes a free slot for its set, or goes on to poll the retired ones, or there is none
abbrev pub settled : Shape → Desk → WriterCall → List Row → Desk × Step
settled shape desk call rows =
    (if nat_lt desk.fresh shape.slots
    then (taking_fresh shape desk call rows, Going)
    else
    (if length desk.retired == 0 then (moved_to desk Idle, no_slot shape desk) else
    (moved_to desk (Searching call rows 0), Going)))

-- a fill, and a cancel, whose look found the key asked with that number: the request is answered by its own number
-- alone, and the last number cannot be taken back
abbrev pub fill_asked : Shape → Desk → WriterCall → ℕ → List Row → ℕ → Desk × Step
fill_asked shape desk call number rows asked =
    (if asked == number then settled shape desk call rows else (moved_to desk Idle, ended reply.Stale))

abbrev pub cancel_asked : Desk → ℕ → ℕ → Desk × Step
cancel_asked desk key asked =
    (if nat_lt asked last_number then (moved_to desk (Withdrawing key), Going) else
    (moved_to desk Idle, ended reply.Worn))

-- the look, the first step of each call
abbrev pub looked : Shape → Desk → WriterCall → ℕ → Desk × Step
looked shape desk (Find key) word =
    (if is_filled word then (moved_to desk (Reading (Find key) (slot_of word) []), Going) else
    (moved_to desk Idle, ended reply.Hole))
looked shape desk (Fill key number rows) word =
    (if is_filled word
    then (moved_to desk Idle, ended reply.Already)
    else
    (if has_ask word then fill_asked shape desk (Fill key number rows) number rows (slot_of word) else
    (moved_to desk Idle, ended reply.NotAsked)))
looked shape desk (Update key batch) word =
    (if is_filled word then (moved_to desk (Reading (Update key batch) (slot_of word) []), Going) else
    (moved_to desk Idle, ended reply.Dropped))
looked shape desk (Replace key rows) word =
    (if is_filled word then settled shape desk (Replace key rows) rows else (moved_to desk Idle, ended reply.Dropped))
looked shape desk (Evict key) word =
    (if is_filled word then (moved_to desk (Leaving key), Going) else (moved_to desk Idle, ended reply.Nothing))
looked shape desk (Cancel key) word =
    (if is_filled word
    then (moved_to desk Idle, ended reply.Nothing)
    else (if has_ask word then cancel_asked desk key (slot_of word) else (moved_to desk Idle, ended reply.Nothing)))

-- an update has its new set, or ends with a refusal
abbrev pub renewed : Shape → Desk → WriterCall → Result (List Row) ApplyFault → Desk × Step
renewed shape desk call (Ok rows) = settled shape desk call rows
renewed shape desk call (Err fault) = (moved_to desk Idle, ended (applied_reply (Err fault)))

-- the last read of a call, which found this set; only finds and updates read
abbrev pub decided : Shape → Desk → WriterCall → List Row → Desk × Step
decided shape desk (Find key) rows = (moved_to desk Idle, ended (reply.Rows rows))
decided shape desk (Update key batch) rows = renewed shape desk (Update key batch) (applied (bound_of shape) rows batch)
decided shape desk other rows = (moved_to desk Idle, Going)

-- the same, of what the words that were read spell: words that spell no set say nothing, and the call is given up
abbrev pub decoded : Shape → Desk → WriterCall → Option (List Row) → Desk × Step
decoded shape desk call None = (moved_to desk Idle, Going)
decoded shape desk call (Some rows) = decided shape desk call rows

-- a read, after which the call has read these words of the slot
abbrev pub read_on : Shape → Desk → WriterCall → ℕ → List ℕ → Desk × Step
read_on shape desk call slot got =
    (if length got == 2 * slice_index got 0
    + 1 then decoded shape desk call (decode got) else (moved_to desk (Reading call slot got), Going))

-- the desk after the retired slot at an index was taken for the set, whose departures were found
abbrev pub taking_retired : Desk → WriterCall → List Row → ℕ → ℕ → Desk
taking_retired desk call rows poll found =
    record desk { place = Putting call rows (retired_at desk poll).slot found 0; retired = remove desk.retired poll }

-- a poll that found its slot held
abbrev pub polls_on : Shape → Desk → WriterCall → List Row → ℕ → Desk × Step
polls_on shape desk call rows poll =
    (if nat_lt (poll + 1) (length desk.retired) then (moved_to desk (Searching call rows (poll + 1)), Going) else
    (moved_to desk Idle, no_slot shape desk))

-- a poll of the retired slot at an index of the list: where its departures are its arrivals, no reader holds it
abbrev pub polled : Shape → Desk → WriterCall → List Row → ℕ → ℕ → Desk × Step
polled shape desk call rows poll found =
    (if same_count found (retired_at desk poll).arrivals then (taking_retired desk call rows poll found, Going) else
    polls_on shape desk call rows poll)

-- the slot that a word named, with its arrivals
abbrev pub unnamed : ℕ → List Retired
unnamed word = (if is_filled word then record { slot = slot_of word; arrivals = arrivals_of word } ∷ [] else [])

-- another word was swapped in for a key's word, and the slot that it named is retired
abbrev pub swapped : Desk → ℕ → Desk
swapped desk word = record desk { place = Idle; retired = desk.retired ++ unnamed word }

-- the word of the hole with the next number was swapped in for an asked key's word
abbrev pub withdrawn : Desk → ℕ → Desk
withdrawn desk key = record desk { place = Idle; numbers = slice_set desk.numbers key (number_at desk key + 1) }

-- a put, or after the last put the publish
abbrev pub put_on : Desk → WriterCall → List Row → ℕ → ℕ → ℕ → ℕ → Desk × Step
put_on desk call rows slot departed index found =
    (if nat_le index (2 * length rows) then (moved_to desk (Putting call rows slot departed (index + 1)), Going) else
    (swapped desk found, ended reply.Done))

-- the writer's next step from a stage
abbrev pub went : Shape → Desk → Place → ℕ → Desk × Step
went shape desk Idle found = (desk, Going)
went shape desk (Reading call slot got) found = read_on shape desk call slot (got ++ found ∷ [])
went shape desk (Leaving key) found = (swapped desk found, ended reply.Evicted)
went shape desk (Withdrawing key) found = (withdrawn desk key, ended reply.Cancelled)
went shape desk (Searching call rows poll) found = polled shape desk call rows poll found
went shape desk (Putting call rows slot departed index) found = put_on desk call rows slot departed index found
