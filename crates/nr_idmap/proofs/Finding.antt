-- What a find by id says, by what the map's find found in the id's way.
use Rattle.std.proofs.Common.{◌≡◌, ℕ, List, [], ◌∷◌, ap, Some, ◌∙◌, refl, None}
use Rattle.nr_model.specs.declared.rows.Row.{Row}
use Rattle.nr_board.specs.Callers.{Caller}
use Rattle.nr_map.specs.LoadsAhead.{LoadsKey, load_of, with_loads}
use Rattle.nr_map.specs.Tagged.{FindsTagged}
use Rattle.nr_map.specs.declared.tagged.Tagged.{Tagged}
use Rattle.nr_map.specs.declared.tagged.Tagged.TheVariants as tagged
use Rattle.nr_ids.specs.Tokens.{Token}
use Rattle.nr_idmap.specs.declared.finds.FoundId.{FoundId}
use Rattle.nr_idmap.specs.declared.finds.FoundId.TheVariants as found
use Rattle.nr_idmap.specs.declared.finds.NamedWay.{NamedWay}
use Rattle.nr_idmap.specs.IdFinds.{FindsById, FindsByName, FindsInside, LooksForWay, MarksTold, answer_told, line_of}
use Rattle.nr_idmap.specs.IdFinds.{with_line}
use Rattle.nr_idmap.specs.Keepers.{IdCaller}
use Rattle.nr_idmap.specs.Tags.{tag_of}

-- with the look-up before it
finds_by_way : {Room : Type 0} (shows : Room → List Row → Type 0) (id : ℕ) (at : NamedWay) (old new : IdCaller)
    (looked : Token) (before after : Room) (result : FoundId) → LooksForWay id old.ids looked (Some at) →
    FindsInside shows id at (record { caller = old.caller; ids = looked }) before new after result
    → FindsByName shows id old before new after result
finds_by_way shows id at old new looked before after found.Rows looks finds =
    (at, finds.0, looked, (looks, finds.1), finds.2, finds.3)
finds_by_way shows id at old new looked before after found.Pending looks finds =
    (at, rw finds.1 looks, finds.0, finds.2)
finds_by_way shows id at old new looked before after found.Moved looks finds =
    (at, finds.0, (rw finds.2 looks, finds.1), finds.3, finds.4)
finds_by_way shows id at old new looked before after found.Absent looks finds = absurd finds

-- a load of the line's word, by its key
pub line_loaded : (id key : ℕ) (ids : Token) (old near : Caller) → key ≡ line_of id ids
    → (loaded : LoadsKey key old near) → near ≡ with_loads (load_of (line_of id ids) loaded.0 ∷ []) old
line_loaded id key ids old near line loaded =
    loaded.1 ∙ ap (λ (place : ℕ). with_loads (load_of place loaded.0 ∷ []) old) line

-- and with the line of the id's key loaded before that
pub finds_by_id : {Room : Type 0} (shows : Room → List Row → Type 0) (id : ℕ) (at : NamedWay) (old new : IdCaller)
    (key : ℕ) (near : Caller) (looked : Token) (before after : Room) (result : FoundId) → key ≡ line_of id old.ids
    → LoadsKey key old.caller near → LooksForWay id old.ids looked (Some at)
    → FindsInside shows id at (record { caller = near; ids = looked }) before new after result
    → FindsById shows id old before new after result
finds_by_id shows id at old new key near looked before after result line loaded looks finds = (
  loaded.0,
  finds_by_way shows id at (with_line id loaded.0 old) new looked before after result looks
      (rw (line_loaded id key old.ids old.caller near line loaded) at finds),
)

-- or no way had the id's name
pub finds_absent : {Room : Type 0} (shows : Room → List Row → Type 0) (id : ℕ) (old : IdCaller) (key : ℕ)
    (near : Caller) (looked : Token) (room : Room) → key ≡ line_of id old.ids → LoadsKey key old.caller near
    → LooksForWay id old.ids looked None
    → FindsById shows id old room (record { caller = near; ids = looked }) room found.Absent
finds_absent shows id old key near looked room line loaded looks =
    (loaded.0, (looks, line_loaded id key old.ids old.caller near line loaded, refl))

-- by what the map found there
pub finds_inside : {Room : Type 0} (shows : Room → List Row → Type 0) (id : ℕ) (at : NamedWay) (old : IdCaller)
    (caller : Caller) (marked : Token) (before after : Room) (tag : Row) (told : Tagged) → tag ≡ tag_of id
    → FindsTagged shows tag at.way old.caller before caller after told → MarksTold told at old.ids marked
    → FindsInside shows id at old before (record { caller = caller; ids = marked }) after (answer_told told)
finds_inside shows id at old caller marked before after tag tagged.Rows is finds marks =
    let it = rw is at finds in (it.0, it.1, marks, it.2)
finds_inside shows id at old caller marked before after tag tagged.Other is finds marks =
    let it = rw is at finds in (it.0, it.1, marks, it.2, it.3)
finds_inside shows id at old caller marked before after tag tagged.Hole is finds marks = (finds.0, marks, finds.1)
