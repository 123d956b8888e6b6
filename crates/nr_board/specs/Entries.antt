-- Whose the entries of a history are, and how many acts of a reader they tell.
use Rattle.std.specs.Prelude.{◌≡◌, ℕ, ◌<◌, ◌≤◌, ◌⊎◌, Bool, true, false, List, [], ◌∷◌, Option, Some, None}
use Rattle.nr_model.specs.declared.calls.Call.{Call}
use Rattle.nr_model.specs.declared.calls.Call.TheVariants.{Ask, Find}
use Rattle.nr_model.specs.declared.calls.Reply.{Reply}
use Rattle.nr_model.specs.declared.calls.Reply.TheVariants as reply
use Rattle.nr_model.specs.Histories.{Entry}
use Rattle.nr_model.specs.Laws.{BringsRowSet}
use Rattle.nr_model.specs.Maps.{call_key}
use Rattle.nr_core.specs.declared.shape.Shape.{Shape}
use Rattle.nr_core.specs.Sums.{total}

-- a find or a request
abbrev pub is_reading : Call → Bool
is_reading (Find key) = true
is_reading (Ask key) = true
is_reading other = false

-- the entry is of a key of the map, and the writer's, which brings no set but a row set of the map, or a find or a
-- request of one of the readers
abbrev pub IsCallers : Shape → Entry → Type 0
IsCallers shape entry =
    (call_key entry.call < shape.keys)
    × (((entry.caller ≡ 0) × BringsRowSet shape.rows entry.call)
    ⊎ ((entry.caller ≤ shape.readers) × (is_reading entry.call ≡ true)))

-- so is each entry
abbrev pub AreCallers : Shape → List Entry → Type 0
AreCallers shape [] = Unit {0}
AreCallers shape (entry ∷ log) = IsCallers shape entry × AreCallers shape log

-- a reader arrives at each find, and departs from each set that it found
abbrev pub find_acts : Reply → ℕ
find_acts (reply.Rows rows) = 2
find_acts _ = 1

abbrev pub acts_at : Call → Reply → ℕ
acts_at (Find key) answer = find_acts answer
acts_at _ answer = 0

abbrev pub acts_told : List Entry → ℕ
acts_told entries = total (λ entry. acts_at entry.call entry.reply) entries

-- 1 for a hold, whose departure is still to come
abbrev pub to_depart : Option ℕ → ℕ
to_depart None = 0
to_depart (Some slot) = 1
