-- Finds of many keys, one after another.
use Rattle.std.specs.Prelude.{◌≡◌, ℕ, ◌+◌, List, [], ◌∷◌, map, None}
use Rattle.nr_model.specs.declared.rows.Row.{Row}
use Rattle.nr_board.specs.Callers.{Caller}
use Rattle.nr_map.specs.Answers.{FindsIn, MarksFound}
use Rattle.nr_map.specs.LoadsAhead.{LoadsAhead, LoadsAt}
use Rattle.nr_map.specs.declared.wanted.Wanted.{Wanted}

-- a find of one of the keys into its room, as a single find
pub record FindsWanted {Room : Type 0} (shows : Room → List Row → Type 0) (old : Caller) (wanted : Wanted Room)
    (new : Caller) (found : Wanted Room) : Type 0 where
  pub key : found.key ≡ wanted.key
  pub finds : FindsIn shows wanted.key old wanted.rows new found.rows found.found
  pub idle : new.holds ≡ None
  pub silent : new.says ≡ 0
  pub marks : MarksFound wanted.key old new found.found

-- the finds of a list of keys: that of the first, and then those of the others
abbrev pub FindsList : {Room : Type 0} → (Room → List Row → Type 0) → Caller → List (Wanted Room) → Caller
    → List (Wanted Room) → Type 0
FindsList shows old [] new [] = new ≡ old
FindsList shows old (wanted ∷ others) new (found ∷ rest) =
    (next : Caller) × FindsWanted shows old wanted next found × FindsList shows next others new rest
FindsList shows old [] new (found ∷ rest) = ⊥
FindsList shows old (wanted ∷ others) new [] = ⊥

abbrev pub keys_of : {Room : Type 0} → List (Wanted Room) → List ℕ
keys_of {Room = Room} wanted = map (λ (one : Wanted Room). one.key) wanted

-- the finds of at most sixteen keys, behind the loads for all of them
pub record FindsGroup {Room : Type 0} (shows : Room → List Row → Type 0) (old : Caller) (wanted : List (Wanted Room))
    (new : Caller) (found : List (Wanted Room)) : Type 0 where
  pub ready : Caller
  pub loads : LoadsAhead (keys_of wanted) old ready
  pub finds : FindsList shows ready wanted new found

-- the finds from that index of a list on, behind the loads for each sixteen of its keys
abbrev pub FindsFrom : {Room : Type 0} → (Room → List Row → Type 0) → ℕ → Caller → List (Wanted Room) → Caller
    → List (Wanted Room) → Type 0
FindsFrom shows place old [] new [] = new ≡ old
FindsFrom shows place old (wanted ∷ others) new (found ∷ rest) =
    (ready : Caller) × LoadsAt place (keys_of (wanted ∷ others)) old ready
    × (next : Caller) × FindsWanted shows ready wanted next found × FindsFrom shows (place + 1) next others new rest
FindsFrom shows place old [] new (found ∷ rest) = ⊥
FindsFrom shows place old (wanted ∷ others) new [] = ⊥

-- from its first key on
abbrev pub FindsEach : {Room : Type 0} → (Room → List Row → Type 0) → Caller → List (Wanted Room) → Caller
    → List (Wanted Room) → Type 0
FindsEach shows old wanted new found = FindsFrom shows 0 old wanted new found
