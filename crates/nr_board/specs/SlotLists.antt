-- What the writer keeps beside the words: the slots that no key names, those that were never taken and the retired
-- ones, the number of each key, and which slots were reaped.
use Rattle.std.specs.Prelude.{◌≡◌, ℕ, ◌+◌, ◌<◌, ◌≤◌, ◌⊎◌, if◌then◌else◌, nat_lt, Bool, true, false, List, [], ◌∷◌, ◌++◌}
use Rattle.std.specs.Prelude.{length, map, remove, slice_index, take}
use mathlib.Core.Option.{some}
use lib.ListN.{get_elem?}
use Rattle.nr_core.specs.declared.places.Place.{Place}
use Rattle.nr_core.specs.declared.places.Retired.{Retired}
use Rattle.nr_core.specs.declared.roles.Desk.{Desk}
use Rattle.nr_core.specs.SlotLists.{SlotLists}
use Rattle.nr_core.specs.Marks.{OfSlot, LoggedLoad}
use Rattle.nr_board.specs.Callers.{Caller, Table}
use Rattle.nr_board.specs.WordLoads.{WordsTell}

-- the writer's desk with them
abbrev pub desk_with : SlotLists → Place → Desk
desk_with lists place = record { place = place; fresh = lists.fresh; retired = lists.retired; numbers = lists.numbers }

-- those of a writer's token
abbrev pub lists_of : Caller → SlotLists
lists_of caller = record {
  slots = caller.table.shape.slots;
  fresh = caller.fresh;
  retired = caller.retired;
  numbers = caller.numbers;
  reaped = caller.marks.reaped;
}

-- the retired slots that are not passed by
abbrev pub not_passed : (ℕ → Bool) → List Retired → List Retired
not_passed passes [] = []
not_passed passes (entry ∷ retired) =
    (if passes entry.slot then not_passed passes retired else entry ∷ not_passed passes retired)

-- those of which all readers that have a word were heard: where none has one, all of them
abbrev pub heard_all : ℕ → List ℕ → List Retired → List Retired
heard_all announcers heard retired = not_passed (λ slot. nat_lt (slice_index heard slot) announcers) retired

-- a poll of each of these slots, in their order, that found it held
abbrev pub held_polls : List Retired → List LoggedLoad
held_polls retired = map (λ entry. OfSlot entry.slot false) retired

-- the polls that lead to a slot at that place of the list, which nobody holds: those before it that were heard are held
abbrev pub polls_to : ℕ → List ℕ → List Retired → ℕ → ℕ → List LoggedLoad
polls_to announcers heard retired place slot =
    held_polls (heard_all announcers heard (take place retired)) ++ OfSlot slot true ∷ []

-- a search took the slot there: its loads are the polls that lead to it by what was heard before; or a poll of each
-- that was heard before, a scan, and the polls that lead to it by what the scan heard
abbrev pub SearchedTo : Table → List ℕ → List ℕ → List LoggedLoad → List Retired → ℕ → ℕ → Type 0
SearchedTo table heard scanned loads retired place slot =
    (table.announcers ≤ slice_index scanned slot)
    × (((scanned ≡ heard) × (loads ≡ polls_to table.announcers heard retired place slot))
    ⊎ ((0 < table.announcers) × (scan : List LoggedLoad)
    × WordsTell table.announcers retired table.shape.slots scan scanned
    × (loads
    ≡ held_polls (heard_all table.announcers heard retired)
    ++ (scan ++ polls_to table.announcers scanned retired place slot))))

-- a slot was taken, by that many steps, which are its loads: the next that was never taken, or else the first retired
-- one that is found free
abbrev pub TookBySearch : Table → List ℕ → List ℕ → List LoggedLoad → ℕ → ℕ → SlotLists → SlotLists → Type 0
TookBySearch table heard scanned loads slot steps old new =
    ((old.fresh < old.slots) × (slot ≡ old.fresh) × (steps ≡ 0) × (new.fresh ≡ old.fresh + 1)
    × (new.retired ≡ old.retired) × (scanned ≡ heard) × (loads ≡ []))
    ⊎ ((old.slots ≤ old.fresh) × (place : ℕ) × (entry : Retired) × (get_elem? old.retired place ≡ some entry)
    × (entry.slot ≡ slot) × SearchedTo table heard scanned loads old.retired place slot × (new.fresh ≡ old.fresh)
    × (new.retired ≡ remove old.retired place) × (steps ≡ length loads))

-- no pass polls more slots that are held than there are readers
abbrev pub AreFewSteps : Table → ℕ → Type 0
AreFewSteps table steps =
    (steps ≤ table.shape.readers + table.announcers + (table.shape.readers + 1))
    × (table.announcers ≡ 0 → steps ≤ table.shape.readers + 1)

-- a search that found no slot: each was polled and held, or was not heard of all readers by a scan, after all that were
-- heard before were polled and held
abbrev pub SearchedAll : Table → List ℕ → List ℕ → List LoggedLoad → List Retired → ℕ → Type 0
SearchedAll table heard scanned loads retired steps =
    (((table.announcers ≡ 0) ⊎ (retired ≡ [])) × (scanned ≡ heard) × (loads ≡ held_polls retired)
    × (steps ≡ length loads))
    ⊎ ((0 < table.announcers) × (0 < length retired) × (scan : List LoggedLoad)
    × WordsTell table.announcers retired table.shape.slots scan scanned
    × (loads
    ≡ held_polls (heard_all table.announcers heard retired)
    ++ (scan ++ held_polls (heard_all table.announcers scanned retired)))
    × (steps ≡ length loads + 1))
