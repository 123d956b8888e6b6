-- What stands of the marks between any two steps. It is said of any list of callers that have a role and marks.
use Rattle.std.specs.Prelude.{◌≡◌, ℕ, suc, ◌+◌, ◌<◌, ◌≤◌, ◌⊎◌, List, [], ◌++◌, length, map, slice_index, slice_set}
use Rattle.std.specs.Prelude.{cond, Some, false}
use mathlib.Core.Option.{some}
use lib.ListN.{get_elem?}
use Rattle.nr_model.specs.Histories.{Entry}
use Rattle.nr_core.specs.declared.shape.Shape.{Shape}
use Rattle.nr_core.specs.declared.roles.Role.{Role}
use Rattle.nr_core.specs.declared.roles.Role.TheVariants.{Writer, Reader, Note}
use Rattle.nr_core.specs.declared.roles.Grip.{Grip}
use Rattle.nr_core.specs.declared.roles.Desk.{Desk}
use Rattle.nr_core.specs.declared.places.Retired.{Retired}
use Rattle.nr_core.specs.declared.places.Place.{Place}
use Rattle.nr_core.specs.declared.places.Place.TheVariants.{Idle, Searching, Putting}
use Rattle.nr_core.specs.Sums.{total, only}
use Rattle.nr_core.specs.Slots.{SlotSpells, name_number, named}
use Rattle.nr_core.specs.Core.{Core}
use Rattle.nr_core.specs.Roles.{is_by, retirements}
use Rattle.nr_core.specs.Operations.{target_of, operated}
use Rattle.nr_core.specs.declared.operation.Operation.{Operation}
use Rattle.nr_core.specs.Steps.{Telling}
use Rattle.nr_core.specs.Puts.{put_count, put_number}
use Rattle.nr_core.specs.Marks.{Past, Marks, gripped, is_reaped, past, set_in}

-- 1 where the role is that caller's
abbrev pub is_caller : ℕ → Role → ℕ
is_caller caller role = cond (is_by caller role) 1 0

-- how often the slot is named by a key or retired
abbrev pub lives : Shape → List ℕ → Desk → ℕ → ℕ
lives shape words desk slot = named shape words slot + retirements slot desk.retired

-- the slot has that put number, and its set was not reaped
abbrev pub Keeps : Marks → ℕ → ℕ → Type 0
Keeps mine slot number = (slice_index mine.puts slot ≡ number) × (is_reaped mine slot ≡ false)

-- no call has put a word into the slot that it doesn't have yet
abbrev pub Untouched : ℕ → Place → Type 0
Untouched slot (Putting call rows taken departed index) = taken ≡ slot → index ≡ 0
Untouched slot other = Unit {0}

-- what a step tells: of the word that it found, the role, the history and the marks after it, and of what the caller
-- learnt of readers
abbrev pub MarkTelling : Type 1
MarkTelling = ℕ → Role → List Entry → Marks → List Past → Type 0

module _ {A : Type 0} (role : A → Role) (marks : A → Marks) where
  -- no two are the same caller
  abbrev pub Once : List A → Type 0
  Once callers = (caller : ℕ) → total (is_caller caller) (map role callers) ≤ 1

  -- the reader is one of the callers and has made as many acts as then; where it has made no more, it holds what it
  -- held
  pub record Since (callers : List A) (old : Past) : Type 0 where
    pub place : ℕ
    pub who : A
    pub there : get_elem? callers place ≡ some who
    pub grip : Grip
    pub is : role who ≡ Reader old.reader grip
    pub least : old.count ≤ (marks who).acts
    pub same : (marks who).acts ≡ old.count → (gripped grip ≡ old.slot) × ((marks who).put ≡ old.put)

  abbrev pub AllSince : List A → List Past → Type 0
  AllSince callers known = (at : ℕ) (old : Past) → get_elem? known at ≡ some old → Since callers old

  -- the past tells one of the callers as it is
  abbrev pub IsPresent : List A → Past → Type 0
  IsPresent callers note =
      (place : ℕ) × (who : A) × (grip : Grip) × (get_elem? callers place ≡ some who)
      × (role who ≡ Reader note.reader grip) × (note ≡ past note.reader grip (marks who))

  -- each note that is new among the polls tells a reader as it is, so the reader that it says holds a slot holds it,
  -- and has made that many acts
  abbrev pub NotesPresent : List A → List Past → List Past → Type 0
  NotesPresent callers polls now =
      (at : ℕ) (note : Past) → get_elem? now at ≡ some note → (get_elem? polls at ≡ some note) ⊎ IsPresent callers note

  -- each caller knows of readers only what is so since then; `pasts` is what it knows of them
  abbrev pub Knowing : (A → List Past) → List A → Type 0
  Knowing pasts callers = (place : ℕ) (who : A) → get_elem? callers place ≡ some who → AllSince callers (pasts who)

  -- what a step may change of a reader: its hold and put number only by one act more
  abbrev pub Evolves : A → A → Type 0
  Evolves before after =
      (reader : ℕ) (grip : Grip) → role before ≡ Reader reader grip → (now : Grip) × (role after ≡ Reader reader now)
      × (((gripped now ≡ gripped grip) × ((marks after).acts ≡ (marks before).acts)
      × ((marks after).put ≡ (marks before).put))
      ⊎ ((marks before).acts < (marks after).acts))

  -- the reader that the note tells of holds no retired slot but the note's
  abbrev pub HoldsNoOther : List A → Desk → Past → Type 0
  HoldsNoOther callers desk note =
      (place slot : ℕ) (who : A) (grip : Grip) → get_elem? callers place ≡ some who → role who ≡ Reader note.reader grip
      → gripped grip ≡ Some slot
      → 0 < retirements slot desk.retired → note.slot ≡ Some slot

  -- nor does any that these notes tell of
  abbrev pub HoldNoOthers : List A → Desk → List Past → Type 0
  HoldNoOthers callers desk polls =
      (at : ℕ) (note : Past) → get_elem? polls at ≡ some note → HoldsNoOther callers desk note

  -- the notes of a call's polls: one for each slot polled, each of another reader, which holds no other retired slot
  pub record Sweeps (callers : List A) (desk : Desk) (polls : List Past) (poll : ℕ) : Type 0 where
    pub many : length polls ≡ poll
    pub slots : (at : ℕ) (entry : Retired) (note : Past) → get_elem? desk.retired at ≡ some entry
        → get_elem? polls at ≡ some note → note.slot ≡ Some entry.slot
    pub different : (reader : ℕ) → total (λ note. only reader note.reader) polls ≤ 1
    pub other : HoldNoOthers callers desk polls

  -- a call polls after it has read, one slot after the other or in any order; between calls the notes are of a call
  -- that put no set, or of reaps
  abbrev pub Sweeping : List A → Desk → List Past → Place → Type 0
  Sweeping callers desk polls Idle = HoldNoOthers callers desk polls
  Sweeping callers desk polls (Searching call rows poll) =
      HoldNoOthers callers desk polls × (length polls ≡ poll → Sweeps callers desk polls poll)
  Sweeping callers desk polls (Putting call rows slot departed index) = Unit {0}
  Sweeping callers desk polls other = polls ≡ []

  -- the writer's lists are the words' and the history's; put numbers of named or retired slots are different, a hold
  -- has its slot's, slots spell their sets, and no set that a key names or a reader holds was reaped
  pub record Desked (shape : Shape) (words : List ℕ) (callers : List A) (log : List Entry) (desk : Desk)
      (mine : Marks) : Type 0 where
    pub wide : (length mine.names ≡ shape.keys) × (length mine.puts ≡ shape.slots)
    pub names : (key : ℕ) → key < shape.keys → slice_index mine.names key ≡ name_number (slice_index words key)
    pub puts : (key slot : ℕ) → key < shape.keys → name_number (slice_index words key) ≡ suc slot
        → Keeps mine slot (put_number log key)
    pub held : (place reader slot : ℕ) (who : A) (grip : Grip) → get_elem? callers place ≡ some who
        → role who ≡ Reader reader grip → gripped grip ≡ Some slot → Keeps mine slot (marks who).put
    pub fresh : (slot : ℕ) → slot < shape.slots → 0 < lives shape words desk slot
        → slice_index mine.puts slot < put_count log
    pub apart : (slot other : ℕ) → slot < shape.slots → other < shape.slots → 0 < lives shape words desk slot
        → 0 < lives shape words desk other → slice_index mine.puts slot ≡ slice_index mine.puts other → slot ≡ other
    -- each slot spells the set that was put there last, until the next one is being put
    pub sets : (slot : ℕ) → slot < shape.slots → Untouched slot desk.place
        → SlotSpells shape words slot (set_in mine slot)
    pub many : length mine.sets ≡ shape.slots
    pub noted : AllSince callers mine.polls
    pub sweep : Sweeping callers desk mine.polls desk.place

  abbrev pub KnowsMarks : Shape → List ℕ → List A → List Entry → Role → Marks → Type 0
  KnowsMarks shape words callers log (Writer desk) mine = Desked shape words callers log desk mine
  KnowsMarks shape words callers log (Reader reader grip) mine = (0 < reader) × (reader ≤ shape.readers)
  KnowsMarks shape words callers log Note mine = Unit {0}

  -- one of the callers is the writer
  pub record HasWriter (callers : List A) : Type 0 where
    pub place : ℕ
    pub who : A
    pub desk : Desk
    pub there : get_elem? callers place ≡ some who
    pub is : role who ≡ Writer desk

  -- what stands between any two steps
  pub record Marked (shape : Shape) (words : List ℕ) (callers : List A) (log : List Entry) : Type 0 where
    pub each : (place : ℕ) (who : A) → get_elem? callers place ≡ some who
        → KnowsMarks shape words callers log (role who) (marks who)
    pub writer : HasWriter callers

  -- the marks of the caller at `id` after its step, and what it learnt of readers; then what stands goes on
  pub record Remarked (shape : Shape) (words : List ℕ) (callers : List A) (log : List Entry) (id : ℕ)
      (operation : Operation) (before : A) (after : Role) (entries : List Entry) (tells : MarkTelling) : Type 0 where
    pub now : Marks
    pub news : List Past
    pub since : AllSince callers news
    pub evolves : (who : A) → role who ≡ after → marks who ≡ now → Evolves before who
    pub marked : (who : A) → role who ≡ after → marks who ≡ now
        → Marked shape (operated words operation) (slice_set callers id who) (log ++ entries)
    pub noted : NotesPresent callers (marks before).polls now.polls
    pub told : tells (slice_index words (target_of operation)) after (log ++ entries) now news

  -- Where the core makes the step that `answers` tells, the caller's marks go along. `known` is what the caller knows
  -- of readers.
  abbrev pub CanMark : Shape → ℕ → A → List Past → Operation → Telling → MarkTelling → Type 0
  CanMark shape id before known operation answers tells =
      (words : List ℕ) (callers : List A) (log : List Entry) → Core shape words (map role callers) log
      → Marked shape words callers log → Once callers → get_elem? callers id ≡ some before → AllSince callers known
      → (after : Role) (entries : List Entry) → answers (slice_index words (target_of operation)) after entries
      → Remarked shape words callers log id operation before after entries tells

  -- the same where the words are so
  abbrev pub CanMarkWhere : Shape → ℕ → A → List Past → Operation → (List ℕ → Type 0) → Telling → MarkTelling → Type 0
  CanMarkWhere shape id before known operation so answers tells =
      (words : List ℕ) (callers : List A) (log : List Entry) → Core shape words (map role callers) log
      → Marked shape words callers log → so words → Once callers → get_elem? callers id ≡ some before
      → AllSince callers known
      → (after : Role) (entries : List Entry) → answers (slice_index words (target_of operation)) after entries
      → Remarked shape words callers log id operation before after entries tells
