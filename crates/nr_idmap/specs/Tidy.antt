-- What the writer keeps to, so that each set has its id's tag and no two keys have one tag.
use Rattle.std.specs.Prelude.{◌≡◌, ◌≢◌, ℕ, ◌<◌, List, [], ◌∷◌, Some}
use Rattle.nr_model.specs.declared.rows.Row.{Row}
use Rattle.nr_model.specs.declared.calls.Call.{Call}
use Rattle.nr_model.specs.declared.calls.Call.TheVariants.{Fill, Update, Replace}
use Rattle.nr_model.specs.declared.calls.Reply.{Reply}
use Rattle.nr_model.specs.declared.calls.Reply.TheVariants as reply
use Rattle.nr_model.specs.Histories.{Entry}
use Rattle.nr_model.specs.Maps.{PartialMap, call_key, key_count, next}
use Rattle.nr_idmap.specs.Tags.{AreIdDeltas, IdSet, set_at, tag_of}

-- no key has the id's tag
abbrev pub IsNowhere : PartialMap → ℕ → Type 0
IsNowhere map id = (key : ℕ) (set : IdSet) → set_at map key ≡ Some set → set.id ≢ id

-- a fill that is done brings the tag of an id that no key has
pub record BringsNewId (map : PartialMap) (rows : List Row) : Type 0 where
  pub id : ℕ
  pub others : List Row
  pub tagged : rows ≡ tag_of id ∷ others
  pub nowhere : IsNowhere map id

-- a replacement that is done brings the tag that is there
pub record BringsSameId (map : PartialMap) (key : ℕ) (rows : List Row) : Type 0 where
  pub id : ℕ
  pub others : List Row
  pub tagged : rows ≡ tag_of id ∷ others
  pub same : (set : IdSet) → set_at map key ≡ Some set → set.id ≡ id

abbrev pub KeepsTags : PartialMap → Call → Reply → Type 0
KeepsTags map (Fill key number rows) answer = answer ≡ reply.Done → BringsNewId map rows
KeepsTags map (Update key batch) answer = AreIdDeltas batch
KeepsTags map (Replace key rows) answer = answer ≡ reply.Done → BringsSameId map key rows
KeepsTags map _ answer = Unit {0}

-- each call is of a key of the map, and keeps to it
abbrev pub IsTidy : PartialMap → List Entry → Type 0
IsTidy map [] = Unit {0}
IsTidy map (e ∷ history) =
    (call_key e.call < key_count map) × KeepsTags map e.call e.reply × IsTidy (next map e.call) history
