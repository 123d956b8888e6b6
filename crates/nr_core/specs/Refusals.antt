-- When an event is refused, and why: a reader or key out of range first, the index of a read last.
use Rattle.std.specs.Prelude.{ℕ, ◌*◌, ◌==◌, ◌&&◌, nat_lt, nat_le, Bool, if◌then◌else◌, Option, Some, None}
use Rattle.nr_core.specs.declared.shape.Shape.{Shape}
use Rattle.nr_core.specs.declared.calls.Refusal.{Refusal}
use Rattle.nr_core.specs.declared.calls.Refusal.TheVariants.{Holding, NotHolding, Busy, NotBusy, OutOfRange}
use Rattle.nr_core.specs.declared.places.Hold.{Hold}
use Rattle.nr_core.specs.declared.places.Hold.TheVariants.{Nothing, On}
use Rattle.nr_core.specs.declared.places.Place.{Place}
use Rattle.nr_core.specs.declared.places.Place.TheVariants.{Idle}
use Rattle.nr_core.specs.States.{State, Event, Arrive, Read, Depart, Ask, FindAgain, Start, Go, hold_of, key_of}

-- the readers are 1, 2, .., the keys 0, 1, ..
abbrev pub has_reader : Shape → ℕ → Bool
has_reader shape reader = nat_lt 0 reader && nat_le reader shape.readers

abbrev pub has_key : Shape → ℕ → Bool
has_key shape key = nat_lt key shape.keys

-- of a reader that has to hold nothing
abbrev pub if_holding : Hold → Option Refusal
if_holding Nothing = None
if_holding (On slot size) = Some Holding

-- of a reader that has to hold a slot
abbrev pub if_not_holding : Hold → Option Refusal
if_not_holding Nothing = Some NotHolding
if_not_holding (On slot size) = None

-- of an index of a set whose number of rows was read, or not yet
abbrev pub if_beyond : ℕ → Option ℕ → Option Refusal
if_beyond index None = (if index == 0 then None else Some OutOfRange)
if_beyond index (Some size) = (if nat_le index (2 * size) then None else Some OutOfRange)

abbrev pub if_unreadable : ℕ → Hold → Option Refusal
if_unreadable index Nothing = Some NotHolding
if_unreadable index (On slot size) = if_beyond index size

-- of a writer that has to be in no call, and of one that has to be in one
abbrev pub if_busy : Place → Option Refusal
if_busy Idle = None
if_busy other = Some Busy

abbrev pub if_not_busy : Place → Option Refusal
if_not_busy Idle = Some NotBusy
if_not_busy other = None

-- why an event is refused, if it is
abbrev pub refusal : State → Event → Option Refusal
refusal state (Arrive reader key) =
    (if has_reader state.shape reader
    && has_key state.shape key then if_holding (hold_of state reader) else Some OutOfRange)
refusal state (Read reader index) =
    (if has_reader state.shape reader then if_unreadable index (hold_of state reader) else Some OutOfRange)
refusal state (Depart reader) =
    (if has_reader state.shape reader then if_not_holding (hold_of state reader) else Some OutOfRange)
refusal state (Ask reader key) =
    (if has_reader state.shape reader
    && has_key state.shape key then if_holding (hold_of state reader) else Some OutOfRange)
refusal state (FindAgain reader key) =
    (if has_reader state.shape reader
    && has_key state.shape key then if_not_holding (hold_of state reader) else Some OutOfRange)
refusal state (Start call) = (if has_key state.shape (key_of call) then if_busy state.desk.place else Some OutOfRange)
refusal state Go = if_not_busy state.desk.place
