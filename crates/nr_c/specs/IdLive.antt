-- What a call by id from C keeps of a handle, and what its token gains.
use Rattle.std.specs.Prelude.{ℕ, ◌≡◌, ◌<◌, Bool, MatchBool, List}
use Rattle.nr_idmap.specs.IdHands.{IdHanded, reader_of}
use Rattle.nr_idmap.specs.Keepers.{IdCaller, Keeper, OwesSame}
use Rattle.nr_c.specs.declared.id_reader_side.IdReaderSide.{IdReaderSide}
use Rattle.nr_c.specs.declared.id_writer_side.IdWriterSide.{IdWriterSide}
use Rattle.nr_c.specs.Closings.{Hears, Looks, Watched}
use Rattle.nr_c.specs.Hands.{HoldsAnId, HoldsNoId}
use Rattle.nr_c.specs.Live.{Call, Turns, Unless, WhenLive}
use Rattle.nr_c.specs.Numbers.{answer_closed, answer_holding, answer_no_key, answer_not_holding}

-- a call with a number above 0: it is refused for 0, and else does what it does
abbrev pub WithNumber : {Side : Type 0} → ℕ → ℕ → Type 0 → Call Side → Call Side
WithNumber answer number stays does =
    Unless answer (λ _. number ≡ 0) stays (λ before after code. (0 < number) × does before after code)

-- and with an id
abbrev pub WithId : {Side : Type 0} → ℕ → Type 0 → Call Side → Call Side
WithId id = WithNumber answer_no_key id

-- a call of a reader that holds nothing, or of one that holds a set: it is refused by the other
abbrev pub WhenIdleById : Type 0 → Call IdReaderSide → Call IdReaderSide
WhenIdleById = Unless answer_holding (λ (side : IdReaderSide). HoldsAnId side.hand)

abbrev pub WhenHoldingById : Type 0 → Call IdReaderSide → Call IdReaderSide
WhenHoldingById = Unless answer_not_holding (λ (side : IdReaderSide). HoldsNoId side.hand)

-- a call with an id by a live reader that holds nothing; where it is refused, this stays
abbrev pub ByIdleIdReader : ℕ → Type 0 → Call IdReaderSide → Call IdReaderSide
ByIdleIdReader id stays does = WhenLive stays (WithId id stays (WhenIdleById stays does))

-- the handle leads to one side, of the same map before and after, whose reader became another, and what it knows of its
-- writer
abbrev pub IdSideTurns : (IdHanded → IdHanded → Type 0) → (Watched → Watched → Type 0) → List IdReaderSide
    → List IdReaderSide → Type 0
IdSideTurns became heard =
    Turns (λ old new. (new.map ≡ old.map) × heard old.watch new.watch) (λ old new. became old.hand new.hand)

-- a call that doesn't look whether the writer was closed
abbrev pub IdHandTurns : (IdHanded → IdHanded → ℕ → Type 0) → Call IdReaderSide
IdHandTurns became before after code =
    IdSideTurns (λ old new. became old new code) (λ old new. new ≡ old) before after

-- a find, whose answer is told unless the writer was closed
abbrev pub IdHandHears : (IdHanded → IdHanded → ℕ → Type 0) → Call IdReaderSide
IdHandHears became before after code =
    (answer : ℕ) × IdSideTurns (λ old new. became old new answer) (Hears answer code) before after

-- a request, which isn't made where the writer was closed
abbrev pub IdHandAsks : (IdHanded → IdHanded → ℕ → Type 0) → Call IdReaderSide
IdHandAsks became before after code =
    (closed : Bool)
    × IdSideTurns (λ old new. MatchBool closed ((code ≡ answer_closed) × (new ≡ old)) (became old new code))
    (λ old new. Looks old new closed) before after

-- so one that holds nothing became another such one
pub record StaysIdle (became : IdCaller → IdCaller → ℕ → Type 0) (old new : IdHanded) (code : ℕ) : Type 0 where
  pub was_idle : HoldsNoId old
  pub is_idle : HoldsNoId new
  pub became_so : became (reader_of old) (reader_of new) code

abbrev pub IdReaderHears : (IdCaller → IdCaller → ℕ → Type 0) → Call IdReaderSide
IdReaderHears became = IdHandHears (StaysIdle became)

-- the writer's tokens and the upqueries that are kept
abbrev pub Turn : Type 1
Turn = IdWriterSide → IdWriterSide → ℕ → Type 0

-- and the writer's, whose readers without a handle stay, and which isn't closed
abbrev pub IdWriterTurns : Turn → Call IdWriterSide
IdWriterTurns became before after code =
    Turns (λ old new. (new.map ≡ old.map) × (new.watch ≡ old.watch) × (new.spare ≡ old.spare))
    (λ old new. became old new code) before after

-- no upquery is opened or closed, here or in the library
pub record OwesAll (became : Keeper → Keeper → ℕ → Type 0) (old new : IdWriterSide) (code : ℕ) : Type 0 where
  pub became_so : became old.writer new.writer code
  pub owes : OwesSame old.writer new.writer
  pub asker : new.writer.asker ≡ old.writer.asker
  pub keeps : new.ledger ≡ old.ledger

abbrev pub IdWriterCalls : (Keeper → Keeper → ℕ → Type 0) → Call IdWriterSide
IdWriterCalls became = IdWriterTurns (OwesAll became)
