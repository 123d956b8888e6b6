-- The partial map over ids: an id is absent or has rows. What each call answers, and which map it leaves; and a history
-- of keys, read as one of ids.
use Rattle.std.specs.Prelude.{◌≡◌, ℕ, ◌==◌, if◌then◌else◌, List, [], ◌∷◌, ◌++◌, Option, Some, None, Result, Ok, Err}
use Rattle.nr_model.specs.declared.rows.Row.{Row}
use Rattle.nr_model.specs.declared.batches.Delta.{Delta}
use Rattle.nr_model.specs.declared.batches.ApplyFault.{ApplyFault}
use Rattle.nr_model.specs.declared.batches.ApplyFault.TheVariants as fault
use Rattle.nr_model.specs.declared.calls.Call.{Call}
use Rattle.nr_model.specs.declared.calls.Call.TheVariants.{Find, Fill, Update, Replace, Evict}
use Rattle.nr_model.specs.declared.calls.Reply.{Reply}
use Rattle.nr_model.specs.declared.calls.Reply.TheVariants as reply
use Rattle.nr_model.specs.Batches.{applied}
use Rattle.nr_model.specs.Histories.{Entry}
use Rattle.nr_model.specs.Maps.{PartialMap, call_key, next, rows_or}
use Rattle.nr_idmap.specs.Tags.{IdSet, set_at, set_told}

pub data IdCall : Type 0 where
  find_id : ℕ → IdCall
  fill_id : ℕ → List Row → IdCall
  update_id : ℕ → List Delta → IdCall
  replace_id : ℕ → List Row → IdCall
  evict_id : ℕ → IdCall

pub data IdReply : Type 0 where
  -- to a find: the id's rows
  has_rows : List Row → IdReply
  -- the id has no rows
  is_absent : IdReply
  -- to a fill: it has rows
  has_some : IdReply
  is_done : IdReply
  lacks_row : IdReply
  has_too_many : IdReply
  is_evicted : IdReply

-- the rows of each id that has some, and how many an id may have
pub record PartialIds : Type 0 where
  pub bound : ℕ
  pub rows_of : ℕ → Option (List Row)

abbrev pub no_ids : ℕ → PartialIds
no_ids bound = record { bound = bound; rows_of = λ _. None }

abbrev pub id_of : IdCall → ℕ
id_of (find_id id) = id
id_of (fill_id id rows) = id
id_of (update_id id batch) = id
id_of (replace_id id rows) = id
id_of (evict_id id) = id

abbrev pub applied_told : Result (List Row) ApplyFault → IdReply
applied_told (Ok rows) = is_done
applied_told (Err fault.NoRow) = lacks_row
applied_told (Err fault.TooMany) = has_too_many

-- the answer to a call, by what the id has
abbrev pub id_reply : ℕ → IdCall → Option (List Row) → IdReply
id_reply bound (find_id id) (Some rows) = has_rows rows
id_reply bound (fill_id id new) None = is_done
id_reply bound (fill_id id new) (Some rows) = has_some
id_reply bound (update_id id batch) (Some rows) = applied_told (applied bound rows batch)
id_reply bound (replace_id id new) (Some rows) = is_done
id_reply bound (evict_id id) (Some rows) = is_evicted
id_reply bound _ None = is_absent

-- what the id has after it
abbrev pub id_left : ℕ → IdCall → Option (List Row) → Option (List Row)
id_left bound (find_id id) had = had
id_left bound (fill_id id new) None = Some new
id_left bound (fill_id id new) (Some rows) = Some rows
id_left bound (update_id id batch) (Some rows) = Some (rows_or (applied bound rows batch) rows)
id_left bound (replace_id id new) (Some rows) = Some new
id_left bound _ _ = None

-- no call changes another id
abbrev pub with_id : (ℕ → Option (List Row)) → ℕ → Option (List Row) → ℕ → Option (List Row)
with_id rows_of id left = λ other. if other == id then left else rows_of other

abbrev pub id_next : PartialIds → IdCall → PartialIds
id_next ids call =
    record {
      bound = ids.bound;
      rows_of = with_id ids.rows_of (id_of call) (id_left ids.bound call (ids.rows_of (id_of call)));
    }

pub record IdEntry : Type 0 where
  pub caller : ℕ
  pub call : IdCall
  pub reply : IdReply

abbrev pub ids_after : PartialIds → List IdEntry → PartialIds
ids_after ids [] = ids
ids_after ids (e ∷ history) = ids_after (id_next ids e.call) history

-- each entry's reply is the map's after the entries before it
abbrev pub IsIdLegal : PartialIds → List IdEntry → Type 0
IsIdLegal ids [] = Unit {0}
IsIdLegal ids (e ∷ history) =
    (e.reply ≡ id_reply ids.bound e.call (ids.rows_of (id_of e.call))) × IsIdLegal (id_next ids e.call) history

-- READING A HISTORY OF KEYS
-- an answer without the tag
abbrev pub rows_told : List Row → IdReply
rows_told [] = is_absent
rows_told (tag ∷ rows) = has_rows rows

abbrev pub reply_told : Reply → IdReply
reply_told (reply.Rows rows) = rows_told rows
reply_told reply.Done = is_done
reply_told reply.Already = has_some
reply_told reply.NoRow = lacks_row
reply_told reply.TooMany = has_too_many
reply_told reply.Evicted = is_evicted
reply_told _ = is_absent

abbrev pub told_of : Option IdSet → ℕ → (IdSet → IdCall) → IdReply → List IdEntry
told_of None caller call answer = []
told_of (Some set) caller call answer = record { caller = caller; call = call set; reply = answer } ∷ []

-- a fill and a replacement count where they were done
abbrev pub set_put : Reply → List Row → Option IdSet
set_put reply.Done rows = set_told rows
set_put _ rows = None

-- what a call of a key is as a call of an id, by the set that the key had: nothing where the key has none and gets none
abbrev pub call_by_id : ℕ → Call → Reply → Option IdSet → List IdEntry
call_by_id caller (Find key) answer had = told_of had caller (λ set. find_id set.id) (reply_told answer)
call_by_id caller (Fill key number rows) answer had =
    told_of (set_put answer rows) caller (λ set. fill_id set.id set.rows) (reply_told answer)
call_by_id caller (Update key batch) answer had = told_of had caller (λ set. update_id set.id batch) (reply_told answer)
call_by_id caller (Replace key rows) answer had =
    told_of (set_put answer rows) caller (λ set. replace_id set.id set.rows) (reply_told answer)
call_by_id caller (Evict key) answer had = told_of had caller (λ set. evict_id set.id) (reply_told answer)
call_by_id caller _ answer had = []

abbrev pub entry_by_id : PartialMap → Entry → List IdEntry
entry_by_id map e = call_by_id e.caller e.call e.reply (set_at map (call_key e.call))

-- the history, read by the tags
abbrev pub read_by_id : PartialMap → List Entry → List IdEntry
read_by_id map [] = []
read_by_id map (e ∷ history) = entry_by_id map e ++ read_by_id (next map e.call) history
