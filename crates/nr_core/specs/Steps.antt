-- The kinds of step, each of one form: whatever the core state is, the caller can make the operation, and this is what
-- the step tells.
use Rattle.std.specs.Prelude.{◌≡◌, ℕ, suc, ◌<◌, ◌⊎◌, ◌==◌, List, [], ◌∷◌, ◌++◌, slice_index, slice_set, cond, Bool}
use Rattle.std.specs.Prelude.{false, true, if◌then◌else◌}
use mathlib.Core.Option.{some}
use lib.ListN.{get_elem?}
use Rattle.nr_model.specs.declared.rows.Row.{Row}
use Rattle.nr_model.specs.declared.calls.Reply.{Reply}
use Rattle.nr_model.specs.Rows.{IsRowSet}
use Rattle.nr_model.specs.Histories.{Entry, entries_of}
use Rattle.nr_core.specs.declared.shape.Shape.{Shape}
use Rattle.nr_core.specs.declared.calls.WriterCall.{WriterCall}
use Rattle.nr_core.specs.declared.roles.Role.{Role}
use Rattle.nr_core.specs.declared.roles.Role.TheVariants.{Writer, Reader}
use Rattle.nr_core.specs.declared.roles.Grip.TheVariants.{Nothing, On}
use Rattle.nr_core.specs.declared.roles.Desk.{Desk}
use Rattle.nr_words.specs.KeyWords.{is_filled, has_ask, same_count, slot_of}
use Rattle.nr_words.specs.SetWords.{encode}
use Rattle.nr_core.specs.Slots.{bound_of, name_number, names_slot}
use Rattle.nr_core.specs.Operations.{target_of, operated}
use Rattle.nr_core.specs.declared.operation.Operation.{Operation}
use Rattle.nr_core.specs.States.{retired_at}
use Rattle.nr_core.specs.Writer.{desk_in, looked, moved_to, step_in, taking_retired, went}
use Rattle.nr_core.specs.declared.places.Place.TheVariants.{Idle}
use Rattle.nr_core.specs.Story.{entry, call_of, ending, ending_at}
use Rattle.nr_core.specs.Roles.{is_by, is_writer, is_reader}
use Rattle.nr_core.specs.Core.{Core}
use Rattle.nr_model.specs.declared.calls.Call.TheVariants as model
use Rattle.nr_model.specs.declared.calls.Reply.TheVariants as reply

-- what a step tells, of the word that it found, the caller's role after it and the entries that it added
abbrev pub Telling : Type 1
Telling = ℕ → Role → List Entry → Type 0

-- a step that the caller at `id` made: the core state after it
pub record Stepped (shape : Shape) (words : List ℕ) (roles : List Role) (log : List Entry) (id : ℕ) (role : Role)
    (operation : Operation) (tells : Telling) : Type 0 where
  pub after : Role
  pub entries : List Entry
  pub core : Core shape (operated words operation) (slice_set roles id after) (log ++ entries)
  -- it is the same caller, of the same kind, and the entries are its own
  pub same : (caller : ℕ) → is_by caller after ≡ is_by caller role
  pub writer : is_writer after ≡ is_writer role
  pub reader : is_reader after ≡ is_reader role
  pub own : (caller : ℕ) → entries_of entries caller ≡ cond (is_by caller role) entries []
  pub told : tells (slice_index words (target_of operation)) after entries

-- whatever the core state is, a caller of that role can make the operation, and this is what it tells
abbrev pub CanStep : Shape → ℕ → Role → Operation → Telling → Type 0
CanStep shape id role operation tells =
    (words : List ℕ) (roles : List Role) (log : List Entry) → Core shape words roles log
    → get_elem? roles id ≡ some role → Stepped shape words roles log id role operation tells

-- the same where the words are so
abbrev pub CanStepWhere : Shape → ℕ → Role → Operation → (List ℕ → Type 0) → Telling → Type 0
CanStepWhere shape id role operation so tells =
    (words : List ℕ) (roles : List Role) (log : List Entry) → Core shape words roles log → so words
    → get_elem? roles id ≡ some role → Stepped shape words roles log id role operation tells

-- an arrive finds the key's set, and holds its slot, or finds a hole
abbrev pub Arrives : Shape → ℕ → ℕ → Telling
Arrives shape reader at word after entries =
    ((slot : ℕ) × (rows : List Row) × (name_number word ≡ suc slot) × (slot < shape.slots)
    × IsRowSet (bound_of shape) rows × (after ≡ Reader reader (On slot rows false))
    × (entries ≡ entry reader (model.Find at) (reply.Rows rows) ∷ []))
    ⊎ ((name_number word ≡ 0) × (after ≡ Reader reader Nothing)
    × (entries ≡ entry reader (model.Find at) reply.Hole ∷ []))

-- the reply that a key's word gives to a request
abbrev pub ask_word : ℕ → Reply
ask_word word =
    (if is_filled word then reply.Filled else (if has_ask word then reply.Waiting else reply.Send (slot_of word)))

abbrev pub Asks : ℕ → ℕ → Telling
Asks reader at word after entries =
    (after ≡ Reader reader Nothing) × (entries ≡ entry reader (model.Ask at) (ask_word word) ∷ [])

-- a read of a held slot gives the word that encoding its set has at the index; word 0 is its number of rows
abbrev pub ReadsHeld : ℕ → ℕ → List Row → Bool → ℕ → Telling
ReadsHeld reader slot rows sized index word after entries =
    (word ≡ slice_index (encode rows) index)
    × (after ≡ Reader reader (On slot rows (if index == 0 then true else sized))) × (entries ≡ [])

-- a load by a reader that holds a slot: where the key's word names that slot, it is a find of the key, which has the
-- set that the reader holds
abbrev pub FindsAgain : Shape → ℕ → ℕ → List Row → Bool → ℕ → Telling
FindsAgain shape reader slot rows sized at word after entries =
    (after ≡ Reader reader (On slot rows sized))
    × (entries ≡ (if names_slot slot word then entry reader (model.Find at) (reply.Rows rows) ∷ [] else []))
    × ((other : ℕ) → name_number word ≡ suc other → other < shape.slots)

-- A load of a key's word by a reader that holds nothing: a hole is found, and else the word names a slot.
abbrev pub LooksUp : ℕ → ℕ → Telling
LooksUp reader at word after entries =
    (after ≡ Reader reader Nothing)
    × (entries ≡ (if is_filled word then [] else entry reader (model.Find at) reply.Hole ∷ []))

-- Where a key names a slot, a reader that holds nothing may hold that slot from here on, as if it had arrived: a
-- departure is taken back. It is a find of the key.
abbrev pub HoldsNamed : Shape → ℕ → ℕ → ℕ → Telling
HoldsNamed shape reader slot at word after entries =
    (rows : List Row) × (slot < shape.slots) × IsRowSet (bound_of shape) rows
    × (after ≡ Reader reader (On slot rows false)) × (entries ≡ entry reader (model.Find at) (reply.Rows rows) ∷ [])

abbrev pub Departs : ℕ → Telling
Departs reader word after entries = (after ≡ Reader reader Nothing) × (entries ≡ [])

-- the writer's steps: the desk after, and an entry where the call ends with a reply
abbrev pub Looks : Shape → Desk → WriterCall → Telling
Looks shape desk call word after entries =
    (after ≡ Writer (desk_in (looked shape desk call word)))
    × (entries ≡ ending (call_of call) (step_in (looked shape desk call word)))

abbrev pub Goes : Shape → Desk → Telling
Goes shape desk word after entries =
    (after ≡ Writer (desk_in (went shape desk desk.place word)))
    × (entries ≡ ending_at desk.place (step_in (went shape desk desk.place word)))

-- In its search the writer polls any of the retired slots: where its departures are its arrivals it takes the slot, and
-- else it searches on.
abbrev pub Tries : Desk → WriterCall → List Row → ℕ → Telling
Tries desk call rows poll word after entries =
    (after
    ≡ Writer
    (if same_count word (retired_at desk poll).arrivals then taking_retired desk call rows poll word else desk))
    × (entries ≡ [])

-- a search that is given up ends its call without an entry
abbrev pub GivesUp : Desk → Telling
GivesUp desk word after entries = (after ≡ Writer (moved_to desk Idle)) × (entries ≡ [])

-- a load that only learns
abbrev pub LoadsWord : Role → Telling
LoadsWord role word after entries = (after ≡ role) × (entries ≡ [])
