-- What a call from C keeps of a handle, and what its token gains.
use Rattle.std.specs.Prelude.{ℕ, ◌+◌, ◌≡◌, ◌↔◌, ◌<◌, ◌≤◌, ◌⊎◌, Bool, MatchBool, List, [], ◌∷◌, None, ⊤}
use Rattle.nr_map.specs.declared.answers.Asked.{Asked}
use Rattle.nr_map.specs.declared.answers.Asked.TheVariants as asked
use Rattle.nr_board.specs.declared.answers.Found.{Found}
use Rattle.nr_map.specs.Answers.{AsksKey, FindsIn, acts_of}
use Rattle.nr_map.specs.Hands.{Handed}
use Rattle.nr_board.specs.Callers.{Caller}
use Rattle.nr_c.specs.declared.reader_side.ReaderSide.{ReaderSide}
use Rattle.nr_c.specs.declared.writer_side.WriterSide.{WriterSide}
use Rattle.nr_c.specs.declared.rows.NrRows.{NrRows}
use Rattle.nr_c.specs.Closings.{Hears, Looks, Watched}
use Rattle.nr_c.specs.Codes.{ask_code, found_code}
use Rattle.nr_c.specs.Hands.{HoldsNone, HoldsSome}
use Rattle.nr_c.specs.Numbers.{answer_bad_size, answer_closed, answer_done, answer_holding, answer_live, answer_no_key}
use Rattle.nr_c.specs.Numbers.{answer_no_memory, answer_not_holding}
use Rattle.nr_c.specs.RowCells.{ShowsSet}

-- what a call says of its handle: what that led to and leads to, and the code; and of two handles
abbrev pub Call : Type 0 → Type 1
Call Side = List Side → List Side → ℕ → Type 0

abbrev pub CallOfTwo : Type 0 → Type 0 → Type 1
CallOfTwo One Other = List One → List Other → List One → List Other → ℕ → Type 0

-- the handle leads to a side of which this holds, and leads somewhere
abbrev pub Leads : {Side : Type 0} → (Side → Type 0) → List Side → Type 0
Leads has (held ∷ []) = has held
Leads has live = ⊥

abbrev pub IsLive : {Side : Type 0} → List Side → Type 0
IsLive = Leads (λ _. ⊤)

-- two handles lead to sides of which this holds
abbrev pub BothLead : {One Other : Type 0} → (One → Other → Type 0) → List One → List Other → Type 0
BothLead have (one ∷ []) (other ∷ []) = have one other
BothLead have ones others = ⊥

-- the handle isn't live, which the code says; nothing has changed
pub record RefusesClosed {Side : Type 0} (stays : Type 0) (before after : List Side) (code : ℕ) : Type 0 where
  pub code_is : code ≡ answer_closed
  pub stay : stays
  pub was : before ≡ []
  pub is : after ≡ []

-- a call by a handle: it is refused where that isn't live, and else does what it does
abbrev pub WhenLive : {Side : Type 0} → Type 0 → Call Side → Call Side
WhenLive stays does before after code = RefusesClosed stays before after code ⊎ does before after code

-- a call by two handles is refused where one of them isn't live
abbrev pub WhenBothLive : {One Other : Type 0} → CallOfTwo One Other → CallOfTwo One Other
WhenBothLive does one other one' other' code =
    ((code ≡ answer_closed) × ((one ≡ []) ⊎ (other ≡ [])) × (one' ≡ one) × (other' ≡ other))
    ⊎ (IsLive one × IsLive other × does one other one' other' code)

-- an opening of a handle that isn't live: it is refused else
abbrev pub WhenEmpty : {Side : Type 0} → (List Side → ℕ → Type 0) → Call Side
WhenEmpty does before after code =
    ((code ≡ answer_live) × IsLive before × (after ≡ before)) ⊎ ((before ≡ []) × does after code)

-- an opening by its code: sizes out of their limits are refused, and the handle leads to a new side, or nowhere
abbrev pub OpensSide : {Side : Type 0} → (Side → Type 0) → Type 0 → List Side → ℕ → Type 0
OpensSide is_new are_bad after code =
    ((code ≡ answer_bad_size) ↔ are_bad)
    × (((code ≡ answer_done) × Leads is_new after)
    ⊎ (((code ≡ answer_bad_size) ⊎ (code ≡ answer_no_memory)) × (after ≡ [])))

-- an opening by a handle that is live, of another that isn't: it is refused else
abbrev pub WhenOther : {One Other : Type 0} → CallOfTwo One Other → CallOfTwo One Other
WhenOther does one other one' other' code =
    ((code ≡ answer_closed) × (one ≡ []) × (one' ≡ one) × (other' ≡ other))
    ⊎ ((code ≡ answer_live) × IsLive one × IsLive other × (one' ≡ one) × (other' ≡ other))
    ⊎ (IsLive one × (other ≡ []) × does one other one' other' code)

-- the handles that are live lead to sides of one map
abbrev pub OneMap : List ReaderSide → List WriterSide → Type 0
OneMap (held ∷ helds) (other ∷ others) = held.map.value ≡ other.map.value
OneMap (held ∷ helds) [] = ⊤
OneMap [] writer = ⊤

-- how many keys the map of a handle has
abbrev pub reader_keys : ReaderSide → ℕ
reader_keys side = side.map.value.shape.keys

abbrev pub writer_keys : WriterSide → ℕ
writer_keys side = side.map.value.shape.keys

-- the handle leads to a side of which this holds, so the call is refused, which the code says; nothing has changed
abbrev pub Refuses : {Side : Type 0} → ℕ → (Side → Type 0) → Type 0 → Call Side
Refuses answer why stays before after code = (code ≡ answer) × stays × (after ≡ before) × Leads why before

abbrev pub Unless : {Side : Type 0} → ℕ → (Side → Type 0) → Type 0 → Call Side → Call Side
Unless answer why stays does before after code = Refuses answer why stays before after code ⊎ does before after code

-- a call with a key: it is refused where there is no such key, and else does what it does
abbrev pub WithKey : {Side : Type 0} → (Side → ℕ) → ℕ → Type 0 → Call Side → Call Side
WithKey keys key stays does =
    Unless answer_no_key (λ held. keys held ≤ key) stays
    (λ before after code. Leads (λ held. key < keys held) before × does before after code)

-- a call of a reader that holds nothing, and of one that holds a set: it is refused by the other
abbrev pub WhenIdle : Type 0 → Call ReaderSide → Call ReaderSide
WhenIdle = Unless answer_holding (λ (side : ReaderSide). HoldsSome side.hand)

abbrev pub WhenHolding : Type 0 → Call ReaderSide → Call ReaderSide
WhenHolding = Unless answer_not_holding (λ (side : ReaderSide). HoldsNone side.hand)

-- a call with a key by a live reader that holds nothing; where it is refused, this stays
abbrev pub ByIdleReader : ℕ → Type 0 → Call ReaderSide → Call ReaderSide
ByIdleReader key stays does = WhenLive stays (WithKey reader_keys key stays (WhenIdle stays does))

-- the handle leads to one side, before and after, of which so much stays, and which became the other
abbrev pub Turns : {Side : Type 0} → (Side → Side → Type 0) → (Side → Side → Type 0) → List Side → List Side → Type 0
Turns stays became = BothLead (λ old new. stays old new × became old new)

-- a reader's, of the same map, whose hand became another, and what it knows of its writer
abbrev pub HandTurns : (Watched → Watched → Type 0) → (Handed → Handed → Type 0) → List ReaderSide → List ReaderSide
    → Type 0
HandTurns heard became =
    Turns (λ old new. (new.map ≡ old.map) × heard old.watch new.watch) (λ old new. became old.hand new.hand)

-- by a call that doesn't look whether the writer was closed, and by a find, whose answer is told unless it was
abbrev pub TurnsHand : (Handed → Handed → Type 0) → List ReaderSide → List ReaderSide → Type 0
TurnsHand = HandTurns (λ old new. new ≡ old)

abbrev pub HearsHand : ℕ → ℕ → (Handed → Handed → Type 0) → List ReaderSide → List ReaderSide → Type 0
HearsHand answer code = HandTurns (Hears answer code)

-- so a reader that holds nothing became another such one
abbrev pub ReaderHears : (Caller → Caller → ℕ → Type 0) → Call ReaderSide
ReaderHears became before after code =
    (answer : ℕ)
    × HearsHand answer code (λ old new. HoldsNone old × HoldsNone new × became old.reader new.reader answer) before
    after

-- by a request, which isn't made where the writer was closed, and then what it would tell stays
abbrev pub ReaderAsks : Type 0 → (Caller → Caller → ℕ → Type 0) → Call ReaderSide
ReaderAsks stays became before after code =
    (closed : Bool)
    × HandTurns (λ old new. Looks old new closed)
    (λ old new. HoldsNone old × HoldsNone new
    × MatchBool closed ((code ≡ answer_closed) × (new ≡ old) × stays) (became old.reader new.reader code))
    before after

-- and the writer's, whose readers without a handle stay, and which isn't closed
abbrev pub WriterCalls : (Caller → Caller → ℕ → Type 0) → Call WriterSide
WriterCalls became before after code =
    Turns (λ old new. (new.map ≡ old.map) × (new.watch ≡ old.watch) × (new.spare ≡ old.spare))
    (λ old new. became old.writer new.writer code) before after

-- a find by its code: the caller's cells show the rows of the reply, and stay as they are on a hole; the reader holds
-- nothing
abbrev pub FindsByCode : ℕ → NrRows → NrRows → Caller → Caller → ℕ → Type 0
FindsByCode key before after old new code =
    (found : Found) × (code ≡ found_code found) × FindsIn ShowsSet key old before new after found × (new.holds ≡ None)
    × (new.marks.acts ≡ old.marks.acts + acts_of found)

-- the number that a request tells: that of a ticket, and else what stood there
abbrev pub number_told : ℕ → Asked → ℕ
number_told before (asked.Send ticket) = ticket.number
number_told before asked.Waiting = before
number_told before asked.Filled = before

-- a request by its code; the number of a ticket is told, and the reader holds nothing
abbrev pub AsksByCode : ℕ → ℕ → ℕ → Caller → Caller → ℕ → Type 0
AsksByCode key before after old new code =
    (answer : Asked) × (code ≡ ask_code answer) × AsksKey key old new answer × (after ≡ number_told before answer)
    × (new.holds ≡ None) × (new.marks ≡ old.marks)
