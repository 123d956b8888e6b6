-- What each call says of its token, by its answer.
use Rattle.std.specs.Prelude.{◌≡◌, ◌≢◌, ℕ, ◌%◌, ◌<◌, ◌≤◌, Bool, true, false, List, [], ◌∷◌, Option, Some, None, Result}
use Rattle.std.specs.Prelude.{Ok, Err}
use Rattle.nr_ids.specs.declared.admissions.Refused.{Refused}
use Rattle.nr_ids.specs.declared.admissions.Refused.TheVariants as refused
use Rattle.nr_ids.specs.declared.requests.Requested.{Requested}
use Rattle.nr_ids.specs.declared.requests.Requested.TheVariants as requested
use Rattle.nr_ids.specs.Events.{Event, cleared, hinted, looked, named, touched, unnamed, hint_in, looks, name_of}
use Rattle.nr_ids.specs.Events.{turn_of, last_turn, IsAbsent, IsClosed, IsOpen}
use Rattle.nr_ids.specs.Groups.{group_of_way}
use Rattle.nr_ids.specs.Looking.{WasAbsent, FindsAt, IsFull, LooksInBoth, group_for}
use Rattle.nr_ids.specs.Tokens.{Token, Grows, WinsClaim, HasName, Within}

-- the way had that name at a moment within the call; or there was one at which the id had no way
abbrev pub LooksUp : ℕ → Token → Token → Option ℕ → Type 0
LooksUp id old new (Some way) = FindsAt id old new way
LooksUp id old new None = LooksInBoth id old new × WasAbsent id old new

-- within the call there was a moment at which a claim of the id's group was open
pub record WasOpen (id : ℕ) (old new : Token) : Type 0 where
  pub moment : List Event
  pub within : Within old new moment
  pub is_open : IsOpen old.directory.plan moment (group_for old id)

-- a look at the turn of the id's group, and then through both groups
pub record LooksForClaim (id : ℕ) (old new : Token) : Type 0 where
  pub turned : Token
  pub turn : Grows (looks 1 old.number) old turned
  pub both : LooksInBoth id turned new

-- or until a way of the id's had its name
pub record FindsForClaim (id : ℕ) (old new : Token) (way : ℕ) : Type 0 where
  pub turned : Token
  pub turn : Grows (looks 1 old.number) old turned
  pub finds : FindsAt id turned new way

-- after looks for a claim so many others; and after them a claim that is granted
pub record LooksOn (id count : ℕ) (old new : Token) : Type 0 where
  pub scanned : Token
  pub looks_for : LooksForClaim id old scanned
  pub others : Grows (looks count scanned.number) scanned new

pub record WinsAfter (id : ℕ) (old new : Token) : Type 0 where
  pub scanned : Token
  pub looks_for : LooksForClaim id old scanned
  pub wins : WinsClaim id [] scanned new

-- a request: a claim comes with Granted alone, and is of the id; each refusal with what the call saw
abbrev pub Requests : ℕ → Token → Token → Requested → Type 0
Requests id old new (requested.Granted claim) =
    WinsAfter id old new × (claim.directory ≡ old.directory) × (claim.id ≡ id)
Requests id old new (requested.Named way) = FindsForClaim id old new way
Requests id old new requested.Busy =
    Grows (looks 1 old.number) old new × IsOpen old.directory.plan new.seen (group_for old id)
Requests id old new requested.Outrun = LooksOn id 1 old new × WasOpen id old new
Requests id old new requested.Worn =
    Grows (looks 1 old.number) old new × (last_turn ≤ turn_of old.directory.plan new.seen (group_for old id))

-- after looks for a claim those at the hints of both groups, which told a way, and of the way's group again: then its
-- hint is set, its name, and the claim is closed
pub record NamesWay (id way : ℕ) (old new : Token) : Type 0 where
  pub scanned : Token
  pub looks_for : LooksForClaim id old scanned
  pub hints : ℕ
  pub grows :
      Grows
      (cleared (group_for old id) ∷ named way id ∷ touched old.number (hinted (group_of_way way) hints)
      ∷ looks 3 old.number) scanned new

-- a way that had no name has the id's; what was refused changed nothing
abbrev pub Admits : ℕ → Token → Token → Result ℕ Refused → Type 0
Admits id old new (Ok way) = NamesWay id way old new × (name_of old.seen way ≡ 0) × HasName new way id
Admits id old new (Err refused.NoClaim) =
    Grows (looks 1 old.number) old new × IsClosed old.directory.plan new.seen (group_for old id)
Admits id old new (Err (refused.Named way)) = FindsForClaim id old new way × HasName new way id
Admits id old new (Err refused.Full) = LooksOn id 2 old new × IsFull id new

-- a claim of the id's group is open, at that turn, and no way has the id
pub record HasClaim (id turn : ℕ) (token : Token) : Type 0 where
  pub turn_is : turn_of token.directory.plan token.seen (group_for token id) ≡ turn
  pub is_open : turn % 2 ≡ 1
  pub early : turn < last_turn
  pub absent : IsAbsent token.seen id

-- an admission's first part: looks for a claim found it open, and no way of the id's; or they refuse the admission
abbrev pub AnswersClaim : ℕ → Token → Token → Result ℕ Refused → Type 0
AnswersClaim id old new (Ok turn) = LooksForClaim id old new × HasClaim id turn new
AnswersClaim id old new (Err why) = Admits id old new (Err why) × (why ≢ refused.Full)

-- its second part: looks for room found a way, which had no name; then its hint is set, its name, and the claim is
-- closed; or there was no room
pub record GivesWay (id way : ℕ) (old new : Token) : Type 0 where
  pub hints : ℕ
  pub grows :
      Grows
      (cleared (group_for old id) ∷ named way id ∷ touched old.number (hinted (group_of_way way) hints)
      ∷ looks 3 old.number) old new
  pub free : name_of old.seen way ≡ 0
  pub has : HasName new way id

abbrev pub Gives : ℕ → Token → Token → Result ℕ Refused → Type 0
Gives id old new (Ok way) = GivesWay id way old new
Gives id old new (Err why) = Grows (looks 2 old.number) old new × IsFull id new × (why ≡ refused.Full)

-- the claim that was open is closed; or none was open
abbrev pub Clears : ℕ → Token → Token → Bool → Type 0
Clears id old new true = Grows (cleared (group_for old id) ∷ looks 1 old.number) old new
Clears id old new false = Grows (looks 1 old.number) old new × IsClosed old.directory.plan new.seen (group_for old id)

-- the way's name is taken, and then its hint, by a look at its group's hints and a step that writes them
pub record Unnames (way : ℕ) (old new : Token) : Type 0 where
  pub hints : ℕ
  pub grows :
      Grows (touched old.number (hinted (group_of_way way) hints) ∷ looked old.number ∷ unnamed way ∷ []) old new
  pub unhinted : hint_in new.seen way ≡ 0

-- the way has that name, or no way has it
abbrev pub FindsWay : ℕ → Token → Token → Option ℕ → Type 0
FindsWay id old new (Some way) = FindsAt id old new way × HasName new way id
FindsWay id old new None = LooksInBoth id old new × IsAbsent new.seen id

-- the way has that name, or none
abbrev pub FindsId : ℕ → Token → Token → Option ℕ → Type 0
FindsId way old new (Some id) = Grows (looks 1 old.number) old new × HasName new way id × (0 < id)
FindsId way old new None = Grows (looks 1 old.number) old new × (name_of new.seen way ≡ 0)
