-- How a value comes into the map, and out of it.
use Rattle.std.specs.Prelude.{◌≡◌, ◌≢◌, ◌⊎◌, ◌+◌, ◌<◌, ◌≤◌, ℕ, Bool, true, false, List, [], ◌∷◌, Option, Some, None}
use Rattle.std.specs.Prelude.{Result, Ok}
use Rattle.nr_model.specs.declared.rows.Row.{Row}
use Rattle.nr_board.specs.Callers.{Caller, map_seen}
use Rattle.nr_board.specs.declared.answers.Evict.TheVariants as evict
use Rattle.nr_board.specs.declared.answers.Reclaimed.{Reclaimed}
use Rattle.nr_board.specs.declared.answers.ReplaceFault.{ReplaceFault}
use Rattle.nr_board.specs.Meetings.{Learns}
use Rattle.nr_board.specs.Reclaiming.{ReplacesReclaiming}
use Rattle.nr_ids.specs.declared.admissions.Refused.TheVariants as refused
use Rattle.nr_ids.specs.declared.requests.Requested.{Requested}
use Rattle.nr_ids.specs.declared.requests.Requested.TheVariants as requested
use Rattle.nr_ids.specs.Answers.{FindsId, FindsWay, Requests}
use Rattle.nr_ids.specs.Looking.{IsFull}
use Rattle.nr_ids.specs.Tokens.{Granted}
use Rattle.nr_idmap.specs.declared.writes.IdFault.{IdFault}
use Rattle.nr_idmap.specs.IdChoices.{ChoosesId, StaysButClerk}
use Rattle.nr_idmap.specs.IdLooks.{LooksInWay}
use Rattle.nr_idmap.specs.IdWrites.{AdmitsId, CallsWay, EvictsId, FillsAndGives, RefusesId}
use Rattle.nr_idmap.specs.Keepers.{IdCaller, Keeper, Owed, OwesSame, Sent, name_at, owed_at}
use Rattle.nr_idmap.specs.Tags.{IsResident, tag_of}
use Rattle.nr_map.specs.Remains.{Given}
use Rattle.nr_cache.specs.declared.finds.FoundValue.{FoundValue}
use Rattle.nr_cache.specs.declared.store.Landed.{Landed}
use Rattle.nr_cache.specs.declared.store.Landed.TheVariants as landed
use Rattle.nr_cache.specs.Moves.{Moves, ShowsGiven}
use Rattle.nr_cache.specs.Stamps.{GoesNext, LooksAround}
use Rattle.nr_cache.specs.Values.{row_of, set_of, values_in}
use Rattle.nr_cache.specs.Weights.{Fits, Lightens, Stock, value_at, weighs_at}

-- in all that the writer has seen the id has a value, or has none
abbrev pub HasValue : ℕ → Keeper → Type 0
HasValue id keeper = (rows : List Row) × IsResident (map_seen keeper.writer) id rows

abbrev pub IsGone : ℕ → Keeper → Type 0
IsGone id keeper = (rows : List Row) → IsResident (map_seen keeper.writer) id rows → ⊥

-- between two calls no upquery is open
abbrev pub OwesNone : Keeper → Type 0
OwesNone keeper = (way : ℕ) → owed_at keeper way ≡ None

-- within one this one is open
pub record OwesOnly (owed : Owed) (keeper : Keeper) : Type 0 where
  pub stands : owed_at keeper owed.way ≡ Some owed
  pub others : (way : ℕ) → way ≢ owed.way → owed_at keeper way ≡ None

-- nor is one of another way than this one
abbrev pub OwesNoneBut : ℕ → Keeper → Type 0
OwesNoneBut taken keeper = (way : ℕ) → way ≢ taken → owed_at keeper way ≡ None

-- the id was looked up, and else nothing happened
abbrev pub LooksUp : ℕ → Keeper → Keeper → Option ℕ → Type 0
LooksUp id old new way = FindsWay id old.clerk new.clerk way × StaysButClerk old new

-- the id's value was found by a find of the writer's own in the id's way, or the id has none
abbrev pub LooksAtValue : ℕ → Keeper → Keeper → Option FoundValue → Type 0
LooksAtValue id old new (Some found) =
    (way : ℕ) × LooksInWay id way (set_of id found.stamp found.value) old new × (new.asker ≡ old.asker)
    × IsResident (map_seen new.writer) id (row_of found.stamp found.value ∷ [])
LooksAtValue id old new None = LooksUp id old new None × IsGone id new

-- OUT
-- the id's value is evicted, or it had none
abbrev pub TakesValue : ℕ → Keeper → Keeper → Bool → Type 0
TakesValue id old new true = HasValue id old × EvictsId id old new evict.Evicted × (new.asker ≡ old.asker)
TakesValue id old new false = IsGone id old × EvictsId id old new evict.Nothing × (new.asker ≡ old.asker)

-- the id was looked up, and loses its value, or it had none
pub record FindsAndTakes (id : ℕ) (old new : Keeper) : Type 0 where
  pub way : ℕ
  pub mid : Keeper
  pub looks : LooksUp id old mid (Some way)
  pub takes : TakesValue id mid new true

abbrev pub Loses : ℕ → Keeper → Keeper → Bool → Type 0
Loses id old new true = FindsAndTakes id old new
Loses id old new false = LooksUp id old new None × IsGone id old

-- no way has the id's name any more, and none got one
pub record Unnames (id : ℕ) (old new : Keeper) : Type 0 where
  pub directory : new.clerk.directory ≡ old.clerk.directory
  pub gone : (way : ℕ) → name_at old way ≡ id → name_at new way ≡ 0
  pub before : (way name : ℕ) → 0 < name → name_at new way ≡ name → name_at old way ≡ name

-- the id that has the way, if one has, loses its value
abbrev pub TakesFrom : Option ℕ → Keeper → Keeper → Type 0
TakesFrom None old new = new ≡ old
TakesFrom (Some id) old new = TakesValue id old new true

pub record TakesAt (way : ℕ) (old new : Keeper) : Type 0 where
  pub named : Option ℕ
  pub mid : Keeper
  pub names : FindsId way old.clerk mid.clerk named
  pub stays : StaysButClerk old mid
  pub takes : TakesFrom named mid new

-- so does that of each of the first so many ways, in turn
pub data TakesEach : ℕ → Keeper → Keeper → Type 0 where
  NoneTaken : (keeper : Keeper) → TakesEach 0 keeper keeper
  OneMoreTaken : (ways : ℕ) (old mid new : Keeper) → TakesEach ways old mid → TakesAt ways mid new
      → TakesEach (ways + 1) old new

-- each of the id's ways was taken, and the value that the choice named is evicted
pub record MakesRoom (id : ℕ) (old new : Keeper) : Type 0 where
  pub full : IsFull id old.clerk
  pub victim : ℕ
  pub mid : Keeper
  pub chooses : ChoosesId id old.clerk mid.clerk (Some victim)
  pub stays : StaysButClerk old mid
  pub takes : Loses victim mid new true

-- an id has another way than this one, or none has
abbrev pub IsOther : ℕ → ℕ → ℕ → Keeper → Type 0
IsOther taken way id keeper = (way ≢ taken) × (name_at keeper way ≡ id) × (0 < id)

abbrev pub HasNoOther : ℕ → Keeper → Type 0
HasNoOther taken keeper = (way : ℕ) → way < keeper.table.map.shape.keys → way ≢ taken → name_at keeper way ≡ 0

-- no other way has a value
abbrev pub HoldsNoOther : ℕ → Keeper → Type 0
HoldsNoOther taken keeper = (way : ℕ) → way ≢ taken → value_at keeper way ≡ None

-- the value of another way is evicted, whichever it is, but the first stale one where one was met
pub record LetsOneGo (bound taken : ℕ) (old new : Stock) : Type 0 where
  pub way : ℕ
  pub victim : ℕ
  pub mid : Keeper
  pub looks : LooksAround old.keeper mid
  pub has : IsOther taken way victim mid
  pub next : GoesNext bound taken old.hand new.hand way mid
  pub takes : TakesValue victim mid new.keeper true
  pub lightens : Lightens old.keeper old.load new.keeper new.load

-- the values were counted after the history so far, which the writer learnt
pub record CountsValues (old new : Keeper) (count : ℕ) : Type 0 where
  pub is : count ≡ values_in new
  pub learns : Learns 1 old.writer new.writer
  pub rest : (new.clerk ≡ old.clerk) × (new.asker ≡ old.asker) × OwesSame old new

-- the values of other ways go, one after the other, and each only while so much is too heavy for this way
pub data LightensFor (bound taken weight : ℕ) : Stock → Stock → Type 0 where
  NoneGoes : (stock : Stock) → LightensFor bound taken weight stock stock
  OneMoreGoes : (old mid new : Stock) → LightensFor bound taken weight old mid → (Fits taken weight mid.load → ⊥)
      → LetsOneGo bound taken mid new → LightensFor bound taken weight old new

-- one goes where, and only where, there are as many as may be; and then others, until so much fits
pub record KeepsWithin (capacity bound taken weight : ℕ) (old new : Stock) : Type 0 where
  pub count : ℕ
  pub counted : Keeper
  pub counts : CountsValues old.keeper counted count
  pub fewer : Stock
  pub goes : ((count < capacity) × (fewer ≡ record old { keeper = counted }))
      ⊎ ((capacity ≤ count) × LetsOneGo bound taken (record old { keeper = counted }) fewer)
  pub lightens : LightensFor bound taken weight fewer new
  pub fits : Fits taken weight new.load

-- IN
-- the id's group is claimed by a request, or it wasn't to be had, since another reader has it or it is worn out
abbrev pub IsNotGranted : Requested → Type 0
IsNotGranted (requested.Granted claim) = ⊥
IsNotGranted _ = Unit {0}

abbrev pub ClaimsOr : ℕ → IdCaller → IdCaller → Bool → Type 0
ClaimsOr id old new true =
    (claim : Granted) × Requests id old.ids new.ids (requested.Granted claim) × (new.caller ≡ old.caller)
ClaimsOr id old new false =
    (answer : Requested) × Requests id old.ids new.ids answer × IsNotGranted answer × (new.caller ≡ old.caller)

-- an upquery is opened for the id, or the directory doesn't know of a claim of its group
abbrev pub AdmitsAtOnce : ℕ → Keeper → Keeper → Option Sent → Type 0
AdmitsAtOnce id old new (Some sent) = AdmitsId id old new sent.owed × (sent.table ≡ new.table)
AdmitsAtOnce id old new None = RefusesId id old new refused.NoClaim

-- at once, or after room was made
pub record MakesRoomFirst (id : ℕ) (old new : Keeper) (answer : Option Sent) : Type 0 where
  pub full : Keeper
  pub roomy : Keeper
  pub refuses : RefusesId id old full refused.Full
  pub room : MakesRoom id full roomy
  pub admits : AdmitsAtOnce id roomy new answer

abbrev pub AdmitsOrNot : ℕ → Keeper → Keeper → Option Sent → Type 0
AdmitsOrNot id old new answer = AdmitsAtOnce id old new answer ⊎ MakesRoomFirst id old new answer

-- the id has no way, and gets none
pub record LacksPlace (id : ℕ) (old : Stock) (asker : IdCaller) (new : Stock) (asker' : IdCaller) : Type 0 where
  pub why : (ClaimsOr id asker asker' false × (new.keeper ≡ old.keeper))
      ⊎ (ClaimsOr id asker asker' true × AdmitsOrNot id old.keeper new.keeper None)
  pub gone : IsGone id new.keeper
  pub lightens : Lightens old.keeper old.load new.keeper new.load
  pub hand : new.hand ≡ old.hand

-- once it was looked up
pub record HasNoPlace (id : ℕ) (old : Stock) (asker : IdCaller) (new : Stock) (asker' : IdCaller) : Type 0 where
  pub mid : Keeper
  pub absent : LooksUp id old.keeper mid None
  pub lacks : LacksPlace id (record old { keeper = mid }) asker new asker'

module _ {Room : Type 0} (shows : Room → List Row → Type 0) where
  -- the call of the map that puts the row in place of what the id has
  abbrev pub Replaces : ℕ → Row → Keeper → Room → Keeper → Room → Result Reclaimed (IdFault ReplaceFault) → Type 0
  Replaces id row old before new after answer =
      CallsWay
      (λ (way : ℕ) (o n : Caller) (r : Result Reclaimed ReplaceFault).
      ReplacesReclaiming shows way (tag_of id ∷ row ∷ []) o before n after r)
      id old new answer

  -- the row takes the place of what the id's way has, once others went as long as it was too heavy there
  pub record ReplacesAt (bound weight way id : ℕ) (row : Row) (old : Stock) (before : Room) (new : Stock) (after : Room)
      (given : Reclaimed) : Type 0 where
    pub roomy : Stock
    pub lightens : LightensFor bound way weight old roomy
    pub fits : Fits way weight roomy.load
    pub replaces : Replaces id row roomy.keeper before new.keeper after (Ok given)
    pub has : IsResident (map_seen new.keeper.writer) id (row ∷ [])
    pub weighs : new.load ≡ weighs_at way weight roomy.load
    pub still : (new.keeper.asker ≡ old.keeper.asker) × (new.hand ≡ roomy.hand)

  pub record TakesPlace (bound weight id : ℕ) (row : Row) (old : Stock) (asker : IdCaller) (before : Room) (new : Stock)
      (asker' : IdCaller) (after : Room) (given : Reclaimed) : Type 0 where
    pub way : ℕ
    pub mid : Keeper
    pub finds : LooksUp id old.keeper mid (Some way)
    pub replaces : ReplacesAt bound weight way id row (record old { keeper = mid }) before new after given
    pub asks : asker' ≡ asker

  -- an id that has no way gets one with its row, for which another's goes where there are as many as may be, and
  -- others' as long as it is too heavy
  pub record FillsPlace (capacity bound weight id : ℕ) (row : Row) (old : Stock) (asker : IdCaller) (before : Room)
      (new : Stock) (asker' : IdCaller) (after : Room) (given : Reclaimed) : Type 0 where
    pub claims : ClaimsOr id asker asker' true
    pub late : Stock
    pub sent : Sent
    pub admits : AdmitsOrNot id old.keeper late.keeper (Some sent)
    pub lightens : Lightens old.keeper old.load late.keeper late.load
    pub roomy : Stock
    pub keeps : KeepsWithin capacity bound sent.owed.way weight late roomy
    pub fills : FillsAndGives shows sent.owed (row ∷ []) roomy.keeper before new.keeper after given
    pub has : IsResident (map_seen new.keeper.writer) id (row ∷ [])
    pub weighs : new.load ≡ weighs_at sent.owed.way weight roomy.load
    pub stays : (new.keeper.asker ≡ roomy.keeper.asker) × (late.hand ≡ old.hand) × (new.hand ≡ roomy.hand)

  pub record GetsPlace (capacity bound weight id : ℕ) (row : Row) (old : Stock) (asker : IdCaller) (before : Room)
      (new : Stock) (asker' : IdCaller) (after : Room) (given : Reclaimed) : Type 0 where
    pub mid : Keeper
    pub absent : LooksUp id old.keeper mid None
    pub fills : FillsPlace capacity bound weight id row (record old { keeper = mid }) asker before new asker' after
        given

  -- it has one, or doesn't get it
  abbrev pub Enters : ℕ → ℕ → ℕ → ℕ → Row → Stock → IdCaller → Room → Stock → IdCaller → Room → Landed → Type 0
  Enters capacity bound weight id row old asker before new asker' after (landed.Held given) =
      FillsPlace capacity bound weight id row old asker before new asker' after given
  Enters capacity bound weight id row old asker before new asker' after landed.Own =
      LacksPlace id old asker new asker' × (after ≡ before)

  -- a row takes a place or gets one; one set was put, and one that nobody can see any more may have come out
  pub record Holds (capacity bound weight id : ℕ) (row : Row) (old : Stock) (asker : IdCaller) (before : Room)
      (new : Stock) (asker' : IdCaller) (after : Room) (given : Reclaimed) : Type 0 where
    pub how : TakesPlace bound weight id row old asker before new asker' after given
        ⊎ GetsPlace capacity bound weight id row old asker before new asker' after given
    pub has : IsResident (map_seen new.keeper.writer) id (row ∷ [])
    pub out : List Given
    pub moves : Moves shows old.keeper.writer ((tag_of id ∷ row ∷ []) ∷ []) out new.keeper.writer
    pub gives : ShowsGiven shows out after given
