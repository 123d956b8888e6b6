-- Finds by id of many ids.
use Rattle.std.specs.Prelude.{◌≡◌, ℕ, zero, suc, ◌+◌, ◌/◌, List, [], ◌∷◌, length, map, take, drop, Option}
use Rattle.nr_model.specs.declared.rows.Row.{Row}
use Rattle.nr_idmap.specs.declared.finds.NamedWay.{NamedWay}
use Rattle.nr_idmap.specs.declared.wanted.WantedId.{WantedId}
use Rattle.nr_idmap.specs.IdHands.{IdHanded, LetsGoById}
use Rattle.nr_idmap.specs.IdLoads.{LooksAhead}
use Rattle.nr_idmap.specs.IdWalks.{FindsOn}
use Rattle.nr_idmap.specs.InTurn.{InTurn}

abbrev pub ids_of : {Room : Type 0} → List (WantedId Room) → List ℕ
ids_of {Room = Room} wanted = map (λ (one : WantedId Room). one.id) wanted

-- one of the ids was found in the way that was looked up for it, by a hand that goes on from what it held
abbrev pub FindsWantedId : {Room : Type 0} → (Room → List Row → Type 0) → Option NamedWay → IdHanded → WantedId Room
    → IdHanded → WantedId Room → Type 0
FindsWantedId shows at old wanted new told =
    (told.id ≡ wanted.id) × FindsOn shows wanted.id at old wanted.rows new told.rows told.found

-- each of the ids, in the way that stands first among those that are left
abbrev pub FindsNext : {Room : Type 0} → (Room → List Row → Type 0) → IdHanded × List (Option NamedWay) → WantedId Room
    → IdHanded × List (Option NamedWay) → WantedId Room → Type 0
FindsNext shows (old, []) wanted (new, left) told = ⊥
FindsNext shows (old, at ∷ ways) wanted (new, left) told = (left ≡ ways) × FindsWantedId shows at old wanted new told

abbrev pub FindsInWays : {Room : Type 0} → (Room → List Row → Type 0) → List (Option NamedWay) → IdHanded
    → List (WantedId Room) → IdHanded → List (WantedId Room) → Type 0
FindsInWays shows ways old wanted new told = InTurn (FindsNext shows) (old, ways) wanted (new, []) told

-- of at most sixteen: all were looked up, with loads ahead of that and of what finds in their ways need, and then all
-- were found in turn
pub record FindsBatch {Room : Type 0} (shows : Room → List Row → Type 0) (old : IdHanded)
    (wanted : List (WantedId Room)) (new : IdHanded) (told : List (WantedId Room)) : Type 0 where
  pub ready : IdHanded
  pub ways : List (Option NamedWay)
  pub looks : LooksAhead (ids_of wanted) ways old ready
  pub finds : FindsInWays shows ways ready wanted new told

-- a list in so many batches of sixteen, of which the last has what is left
abbrev pub batches : {One : Type 0} → ℕ → List One → List (List One)
batches zero ones = []
batches (suc more) ones = take 16 ones ∷ batches more (drop 16 ones)

abbrev pub in_sixteens : {One : Type 0} → List One → List (List One)
in_sixteens ones = batches ((length ones + 15) / 16) ones

-- any number, batch by batch
abbrev pub FindsInBatches : {Room : Type 0} → (Room → List Row → Type 0) → IdHanded → List (WantedId Room) → IdHanded
    → List (WantedId Room) → Type 0
FindsInBatches shows old wanted new told = InTurn (FindsBatch shows) old (in_sixteens wanted) new (in_sixteens told)

-- and then what the last find holds is let go
abbrev pub FindsEachId : {Room : Type 0} → (Room → List Row → Type 0) → IdHanded → List (WantedId Room) → IdHanded
    → List (WantedId Room) → Type 0
FindsEachId shows old wanted new told =
    (last : IdHanded) × FindsInBatches shows old wanted last told × LetsGoById last new
