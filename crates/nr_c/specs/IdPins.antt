-- A reader by id that holds a set, as C calls it.
use Rattle.std.specs.Prelude.{ℕ, ◌≡◌, ◌≤◌, ◌⊎◌, if◌then◌else◌, List, [], ◌∷◌, length, slice_get, Some}
use Rattle.nr_model.specs.declared.rows.Row.{Row}
use Rattle.nr_idmap.specs.declared.finds.FoundId.{FoundId}
use Rattle.nr_idmap.specs.declared.finds.FoundId.TheVariants as found
use Rattle.nr_idmap.specs.IdHands.{AgainById, FindsIdKept, IdHanded, LetsGoById, PinsById, rows_in_hand}
use Rattle.nr_c.specs.declared.rows.NrRows.{NrRows}
use Rattle.nr_c.specs.Codes.{ByCode}
use Rattle.nr_c.specs.Hands.{HoldsAnId, HoldsNoId}
use Rattle.nr_c.specs.IdCodes.{found_id_code}
use Rattle.nr_c.specs.Numbers.{answer_done, answer_no_row, answer_other, answer_rows}
use Rattle.nr_c.specs.RowCells.{ShowsSet}

-- how many rows a pin tells: those that are held then, and else what stood there
abbrev pub count_told : ℕ → FoundId → List Row → ℕ
count_told told found.Rows rows = length rows
count_told told found.Pending rows = told
count_told told found.Moved rows = told
count_told told found.Absent rows = told

-- a pin by its code, of a reader that holds nothing
abbrev pub PinsIdByCode : ℕ → ℕ → ℕ → IdHanded → IdHanded → ℕ → Type 0
PinsIdByCode id told tells old new =
    ByCode found_id_code
    (λ found. HoldsNoId old × PinsById id old new found × (tells ≡ count_told told found (rows_in_hand new)))

-- the first of some rows, or what stood there
abbrev pub first_or : Row → List Row → Row
first_or stood [] = stood
first_or stood (first ∷ rest) = first

-- which row a pin tells: the first that is held then, if there is one
abbrev pub row_told : Row → FoundId → List Row → Row
row_told stood found.Rows rows = first_or stood rows
row_told stood found.Pending rows = stood
row_told stood found.Moved rows = stood
row_told stood found.Absent rows = stood

abbrev pub PinsRowByCode : ℕ → Row → Row → IdHanded → IdHanded → ℕ → Type 0
PinsRowByCode id stood stands old new =
    ByCode found_id_code
    (λ found. HoldsNoId old × PinsById id old new found × (stands ≡ row_told stood found (rows_in_hand new)))

-- a find that keeps its hold, by its code
abbrev pub KeepsIdByCode : ℕ → NrRows → NrRows → IdHanded → IdHanded → ℕ → Type 0
KeepsIdByCode id before after old new = ByCode found_id_code (FindsIdKept ShowsSet id old before new after)

-- a row of the held set by its code; nothing else is told, and the reader stays
abbrev pub ReadsIdRow : ℕ → Row → Row → IdHanded → IdHanded → ℕ → Type 0
ReadsIdRow place stood stands old new code =
    (new ≡ old)
    × (((code ≡ answer_rows) × (slice_get (rows_in_hand old) place ≡ Some stands))
    ⊎ ((code ≡ answer_no_row) × (length (rows_in_hand old) ≤ place) × (stands ≡ stood)))

-- all of them
abbrev pub CopiesIdSet : NrRows → IdHanded → IdHanded → ℕ → Type 0
CopiesIdSet rows old new code = (new ≡ old) × (code ≡ answer_rows) × ShowsSet rows (rows_in_hand old)

-- a find again by its code; it holds the same set
abbrev pub FindsIdByHold : ℕ → IdHanded → IdHanded → ℕ → Type 0
FindsIdByHold id old new =
    ByCode (λ found. if found then answer_rows else answer_other) (λ found. HoldsAnId old × AgainById id old new found)

-- the hold ends
abbrev pub ReleasesId : IdHanded → IdHanded → ℕ → Type 0
ReleasesId old new code = (code ≡ answer_done) × HoldsAnId old × LetsGoById old new
