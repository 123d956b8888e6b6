-- Finds of many keys by one call from C.
use Rattle.std.specs.Prelude.{ℕ, ◌≡◌, ◌<◌, ◌+◌, ◌%◌, ◌==◌, All, Bool, true, false, List, [], ◌∷◌, map, take}
use Rattle.nr_board.specs.declared.answers.Found.{Found}
use Rattle.nr_map.specs.LoadsAhead.{LoadsAhead}
use Rattle.nr_map.specs.Hands.{FindsKept, Handed, LetsGo}
use Rattle.nr_c.specs.Closings.{Hears, Watched}
use Rattle.nr_c.specs.Codes.{found_code}
use Rattle.nr_c.specs.Hands.{HoldsNone}
use Rattle.nr_c.specs.RowCells.{ShowsSet}
use Rattle.nr_c.specs.declared.many.NrWanted.{NrWanted}
use Rattle.nr_c.specs.declared.reader_side.ReaderSide.{ReaderSide}
use Rattle.nr_c.specs.Live.{Call, Leads, Turns, Unless, reader_keys}
use Rattle.nr_c.specs.Numbers.{answer_done, answer_no_key}

-- a reader's hand with what the reader knows of its writer
abbrev pub Hearing : Type 0
Hearing = Handed × Watched

-- a find of one of the keys by a hand that keeps what it finds, whose answer is told beside the key unless the writer
-- was closed
abbrev pub FindsOneByCode : NrWanted → NrWanted → Hearing → Hearing → Type 0
FindsOneByCode wanted told (old, knew) (new, knows) =
    (told.key ≡ wanted.key) × (answer : Found) × Hears (found_code answer) told.answer knew knows
    × FindsKept ShowsSet wanted.key old wanted.rows new told.rows answer

abbrev pub keys_wanted : List NrWanted → List ℕ
keys_wanted wanted = map (λ (one : NrWanted). one.key) wanted

-- before the first of sixteen the loads for each of them, whose keys these are; the hand holds what it held
abbrev pub LoadsKeysAhead : Bool → List ℕ → Handed → Handed → Type 0
LoadsKeysAhead true keys old new =
    LoadsAhead keys old.reader new.reader × (new.key ≡ old.key) × (new.rows ≡ old.rows)
LoadsKeysAhead false keys old new = new ≡ old

-- calls for those of a list from that index on, one after another: each is told what is left of the list, and makes of
-- its first one another
abbrev pub InOrder : {State One : Type 0} → (ℕ → List One → One → One → State → State → Type 0) → ℕ → List One
    → List One → State → State → Type 0
InOrder call place [] [] old new = new ≡ old
InOrder {State = State} call place (one ∷ others) (done ∷ rest) old new =
    (next : State) × call place (one ∷ others) one done old next × InOrder call (place + 1) others rest next new
InOrder call place [] (done ∷ rest) old new = ⊥
InOrder call place (one ∷ others) [] old new = ⊥

-- the find of the key at an index, before it the loads for each of sixteen where sixteen begin there
abbrev pub FindsAtByCode : ℕ → List NrWanted → NrWanted → NrWanted → Hearing → Hearing → Type 0
FindsAtByCode place left wanted told (old, knew) new =
    (loaded : Handed) × LoadsKeysAhead (place % 16 == 0) (keys_wanted (take 16 left)) old loaded
    × FindsOneByCode wanted told (loaded, knew) new

-- from the first key on, and then what the last find holds is let go
abbrev pub FindsEachByCode : List NrWanted → List NrWanted → Hearing → Hearing → Type 0
FindsEachByCode wanted told old (new, knows) =
    (last : Handed) × InOrder FindsAtByCode 0 wanted told old (last, knows) × LetsGo last new

-- by a reader's handle
abbrev pub FindsMany : (Hearing → Hearing → Type 0) → Call ReaderSide
FindsMany finds before after code =
    (code ≡ answer_done)
    × Turns (λ old new. new.map ≡ old.map)
    (λ old new. HoldsNone old.hand × finds (old.hand, old.watch) (new.hand, new.watch)) before after

abbrev pub FindsSome : List NrWanted → List NrWanted → Call ReaderSide
FindsSome wanted told = FindsMany (FindsEachByCode wanted told)

-- the map of the handle's reader has each of the keys
abbrev pub AreKeysOf : ReaderSide → List NrWanted → Type 0
AreKeysOf held wanted = All (λ one. one.key < reader_keys held) wanted

-- a call with keys: it is refused where there is no such key as one of them, and else does what it does
abbrev pub WithKeys : (ReaderSide → Type 0) → Type 0 → Call ReaderSide → Call ReaderSide
WithKeys are_keys stays does =
    Unless answer_no_key (λ held. ¬ are_keys held) stays
    (λ before after code. Leads are_keys before × does before after code)
