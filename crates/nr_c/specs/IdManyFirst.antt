-- Finds of many ids by one call from C, whose rows go to one array of the caller's.
use Rattle.std.specs.Prelude.{ℕ, ◌≡◌, ◌<◌, ◌/◌, ◌%◌, ◌==◌, All, List, length, map, take, Option, Some, None, replicate}
use Rattle.std.specs.Prelude.{slice_get}
use Rattle.nr_model.specs.declared.rows.Row.{Row}
use Rattle.nr_idmap.specs.declared.finds.FoundId.{FoundId}
use Rattle.nr_idmap.specs.declared.finds.NamedWay.{NamedWay}
use Rattle.nr_idmap.specs.IdHands.{IdHanded, LetsGoById}
use Rattle.nr_idmap.specs.IdWalks.{FindsFirstOn}
use Rattle.nr_c.specs.declared.id_many_first.NrFoundId.{NrFoundId}
use Rattle.nr_c.specs.declared.id_reader_side.IdReaderSide.{IdReaderSide}
use Rattle.nr_c.specs.Closings.{Hears, Watched}
use Rattle.nr_c.specs.IdCodes.{found_id_code}
use Rattle.nr_c.specs.IdMany.{FindsManyIds, LooksUpIds, Seeker, Seeking}
use Rattle.nr_c.specs.Live.{Call}
use Rattle.nr_c.specs.Many.{InOrder}
use Rattle.nr_c.specs.ManyFirst.{part_of, with_part}

abbrev pub ids_found : List NrFoundId → List ℕ
ids_found wanted = map (λ (one : NrFoundId). one.id) wanted

-- a find of one of the ids in its way, into its part of the rows, by a hand that keeps what it finds
abbrev pub FindsIdFirst : Option NamedWay → NrFoundId → NrFoundId → List Row → List Row → IdHanded × Watched
    → IdHanded × Watched → Type 0
FindsIdFirst at wanted told before cells (old, knew) (new, knows) =
    (told.id ≡ wanted.id) × (found : FoundId) × Hears (found_id_code found) told.answer knew knows
    × FindsFirstOn wanted.id at old before new cells told.count found

-- of that at an index, with the look-ups before it
abbrev pub FindsIdAtFirst : ℕ → ℕ → List NrFoundId → NrFoundId → NrFoundId → Seeker × List Row → Seeker × List Row
    → Type 0
FindsIdAtFirst room place left wanted told ((old, knew), rows) (((new, ways), knows), after) =
    (ready : IdHanded) × LooksUpIds (place % 16 == 0) (ids_found (take 16 left)) old (ready, ways)
    × (at : Option NamedWay) × (slice_get ways (place % 16) ≡ Some at)
    × (cells : List Row) × FindsIdFirst at wanted told (part_of room place rows) cells (ready, knew) (new, knows)
    × (after ≡ with_part room place cells rows)

-- from the first id on, each with its part of the rows, and then what the last find holds is let go
pub record FindsEachIdFirst (wanted told : List NrFoundId) (rows after : List Row) (old new : IdHanded × Watched) : Type
    0 where
  pub room : ℕ
  pub room_is : 0 < length wanted → room ≡ length rows / length wanted
  pub last : Seeking
  pub finds : InOrder (FindsIdAtFirst room) 0 wanted told (((old.0, replicate 16 None), old.1), rows)
      ((last, new.1), after)
  pub lets_go : LetsGoById last.0 new.0

-- by a reader's handle
abbrev pub FindsIdsFirst : List NrFoundId → List NrFoundId → List Row → List Row → Call IdReaderSide
FindsIdsFirst wanted told rows cells = FindsManyIds (FindsEachIdFirst wanted told rows cells)

abbrev pub AreFoundIds : List NrFoundId → Type 0
AreFoundIds wanted = All (λ one. 0 < one.id) wanted
