-- Finds of many ids by one call from C.
use Rattle.std.specs.Prelude.{ℕ, ◌≡◌, ◌<◌, ◌%◌, ◌==◌, All, Bool, true, false, List, length, map, take, Option, Some}
use Rattle.std.specs.Prelude.{None, replicate, slice_get}
use Rattle.nr_idmap.specs.declared.finds.FoundId.{FoundId}
use Rattle.nr_idmap.specs.declared.finds.NamedWay.{NamedWay}
use Rattle.nr_idmap.specs.IdHands.{IdHanded, LetsGoById}
use Rattle.nr_idmap.specs.IdLoads.{LooksAhead}
use Rattle.nr_idmap.specs.IdWalks.{FindsOn}
use Rattle.nr_c.specs.declared.id_many.NrWantedId.{NrWantedId}
use Rattle.nr_c.specs.declared.id_reader_side.IdReaderSide.{IdReaderSide}
use Rattle.nr_c.specs.Closings.{Hears, Watched}
use Rattle.nr_c.specs.Hands.{HoldsNoId}
use Rattle.nr_c.specs.IdCodes.{found_id_code}
use Rattle.nr_c.specs.Live.{Call, Turns, Unless}
use Rattle.nr_c.specs.Many.{InOrder}
use Rattle.nr_c.specs.Numbers.{answer_done, answer_no_key}
use Rattle.nr_c.specs.RowCells.{ShowsSet}

abbrev pub ids_wanted : List NrWantedId → List ℕ
ids_wanted wanted = map (λ (one : NrWantedId). one.id) wanted

-- a reader's hand with the ways that were looked up last, and with what it knows of its writer
abbrev pub Seeking : Type 0
Seeking = IdHanded × List (Option NamedWay)

abbrev pub Seeker : Type 0
Seeker = Seeking × Watched

-- before the first of sixteen each of these ids was looked up; the others' ways stay
abbrev pub LooksUpIds : Bool → List ℕ → Seeking → Seeking → Type 0
LooksUpIds true ids (old, ways) (new, looked) = LooksAhead ids (take (length ids) looked) old new
LooksUpIds false ids (old, ways) (new, looked) = (new ≡ old) × (looked ≡ ways)

-- a find of one of the ids in its way, by a hand that keeps what it finds, whose answer is told beside the id unless
-- the writer was closed
abbrev pub FindsOneId : Option NamedWay → NrWantedId → NrWantedId → IdHanded × Watched → IdHanded × Watched → Type 0
FindsOneId at wanted told (old, knew) (new, knows) =
    (told.id ≡ wanted.id) × (found : FoundId) × Hears (found_id_code found) told.answer knew knows
    × FindsOn ShowsSet wanted.id at old wanted.rows new told.rows found

-- of that at an index, with the look-ups before it
abbrev pub FindsIdAt : ℕ → List NrWantedId → NrWantedId → NrWantedId → Seeker → Seeker → Type 0
FindsIdAt place left wanted told (old, knew) ((new, ways), knows) =
    (ready : IdHanded) × LooksUpIds (place % 16 == 0) (ids_wanted (take 16 left)) old (ready, ways)
    × (at : Option NamedWay) × (slice_get ways (place % 16) ≡ Some at)
    × FindsOneId at wanted told (ready, knew) (new, knows)

-- from the first id on, and then what the last find holds is let go
abbrev pub FindsEachByCode : List NrWantedId → List NrWantedId → IdHanded × Watched → IdHanded × Watched → Type 0
FindsEachByCode wanted told (old, knew) (new, knows) =
    (last : Seeking) × InOrder FindsIdAt 0 wanted told ((old, replicate 16 None), knew) (last, knows)
    × LetsGoById last.0 new

-- of all of them, by a reader's handle
abbrev pub FindsManyIds : (IdHanded × Watched → IdHanded × Watched → Type 0) → Call IdReaderSide
FindsManyIds finds before after code =
    (code ≡ answer_done)
    × Turns (λ old new. new.map ≡ old.map)
    (λ old new. HoldsNoId old.hand × finds (old.hand, old.watch) (new.hand, new.watch)) before after

abbrev pub FindsSomeIds : List NrWantedId → List NrWantedId → Call IdReaderSide
FindsSomeIds wanted told = FindsManyIds (FindsEachByCode wanted told)

abbrev pub AreIds : List NrWantedId → Type 0
AreIds wanted = All (λ one. 0 < one.id) wanted

-- a call with ids: it is refused where one of them is 0, and else does what it does
abbrev pub WithIds : Type 0 → Type 0 → Call IdReaderSide → Call IdReaderSide
WithIds are_ids stays does =
    Unless answer_no_key (λ _. ¬ are_ids) stays (λ before after code. are_ids × does before after code)
