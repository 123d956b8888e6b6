-- A way that had an id's rows has that id's until it is evicted, in a history whose writer puts tags. So who finds it
-- by a note was answered with rows.
use Rattle.std.proofs.Common.{◌≡◌, ℕ, ◌+◌, ◌<◌, ⊎_elim, inl, inr, Bool, false, List, [], ◌∷◌, ◌++◌, refl, sym, ap, ◌∙◌}
use Rattle.std.proofs.Common.{subst, arith, append_assoc}
use Rattle.std.specs.List.{count_by}
use Rattle.std.proofs.lemmas.List.{length-replicate, length-set}
use Rattle.std.proofs.lemmas.Bool.Decides.{nat_tests}
use Rattle.nr_model.specs.declared.rows.Row.{Row}
use Rattle.nr_model.specs.declared.calls.Call.{Call}
use Rattle.nr_model.specs.declared.calls.Call.TheVariants.{Find, Update, Replace, Evict}
use Rattle.nr_model.specs.declared.calls.Reply.{Reply}
use Rattle.nr_model.specs.declared.calls.Reply.TheVariants as reply
use Rattle.nr_model.specs.declared.states.KeyState.{KeyState}
use Rattle.nr_model.specs.declared.states.KeyState.TheVariants.{Hole, Rows}
use Rattle.nr_model.specs.Histories.{Entry, IsLegal, after}
use Rattle.nr_model.specs.Maps.{PartialMap, call_key, key_count, next, replace_reply, reply_to, state_after, state_of}
use Rattle.nr_model.proofs.HistoryLemmas.{count_by-cons, one, state_of-next_other, state_of-next_same}
use Rattle.nr_core.specs.Story.{entry}
use Rattle.nr_board.specs.Callers.{Table, map_at_opening}
use Rattle.nr_board.specs.Rule.{StartsWith}
use Rattle.nr_map.specs.Written.{LastPut, NonePut, evicts_at, is_evicted}
use Rattle.nr_idmap.specs.declared.finds.FoundId.{FoundId}
use Rattle.nr_idmap.specs.declared.finds.FoundId.TheVariants as found
use Rattle.nr_idmap.specs.IdHeard.{FindsIdHeard, FindsIdPut, FindsItsRows}
use Rattle.nr_idmap.specs.Keepers.{IdCaller, IsTied, Keeper}
use Rattle.nr_idmap.specs.Tags.{id_set_of, tag_of}
use Rattle.nr_idmap.specs.Tidy.{IsTidy, KeepsTags}
use Rattle.nr_idmap.proofs.Entries.{after_both, bound_after, count_after}
use Rattle.nr_idmap.proofs.Ties.{update_agrees}

-- a legal history whose writer puts tags
abbrev pub Kept : PartialMap → List Entry → Type 0
Kept map history = IsLegal map history × IsTidy map history

pub kept_begins : (map : PartialMap) (history later : List Entry) → Kept map (history ++ later) → Kept map history
kept_begins map [] later kept = (tt, tt)
kept_begins map (e ∷ history) later kept =
    let rest = kept_begins (next map e.call) history later (kept.0.1, kept.1.2) in search

pub kept_ends : (map : PartialMap) (history later : List Entry) → Kept map (history ++ later)
    → Kept (after map history) later
kept_ends map [] later kept = kept
kept_ends map (e ∷ history) later kept = kept_ends (next map e.call) history later (kept.0.1, kept.1.2)

pub count_both : (p : Entry → Bool) (log later : List Entry)
    → count_by p (log ++ later) ≡ count_by p log + count_by p later
count_both p [] later = grind arith
count_both p (e ∷ log) later = grind (arith, count_by-cons, count_both p log later)

-- the entry evicts nothing, where it counts for nothing and is of that key
pub none_evicted : (way : ℕ) (e : Entry) → call_key e.call ≡ way → one (evicts_at way e) ≡ 0
    → is_evicted e.reply ≡ false
none_evicted way e same none = grind (arith, nat_tests)

-- what a key has that each call of it leaves, it has after them all
module _ (way : ℕ) (Has : KeyState → Type 0) where
  abbrev pub AllKeep : PartialMap → List Entry → Type 0
  AllKeep map [] = Unit {0}
  AllKeep map (e ∷ later) =
      (call_key e.call ≡ way → Has (state_of map (call_key e.call))
      → Has (state_after map.bound e.call (state_of map (call_key e.call))))
      × AllKeep (next map e.call) later

  pub all_stay : (later : List Entry) (map : PartialMap) → way < key_count map → AllKeep map later
      → Has (state_of map way) → Has (state_of (after map later) way)
  all_stay [] map near keep has = has
  all_stay (e ∷ later) map near keep has =
      let size : key_count (next map e.call) ≡ key_count map
      = length-set map.states (call_key e.call) (state_after map.bound e.call (state_of map (call_key e.call))) in
      all_stay later (next map e.call) (omega (arith, near, size)) keep.1
      (grind (arith, state_of-next_same map e.call, state_of-next_other map way e.call, keep.0))

module _ (id : ℕ) (real : 0 < id) where
  -- the id's rows
  abbrev pub HasIds : KeyState → Type 0
  HasIds state = (n : ℕ) × (rows : List Row) × (state ≡ Rows n (tag_of id ∷ rows))

  -- a call of the key that evicts nothing leaves it some
  call_keeps : (map : PartialMap) (call : Call) (answer : Reply) → answer ≡ reply_to map call
      → KeepsTags map call answer → 0 < map.bound →
      is_evicted answer ≡ false → HasIds (state_of map (call_key call))
      → HasIds (state_after map.bound call (state_of map (call_key call)))
  call_keeps map (Update key batch) answer replied keeps room none has =
      let left = update_agrees id map.bound batch (Rows has.0 (tag_of id ∷ has.1)) room keeps (real, has.1, refl) in
      (has.0, left.1, cc (has.2, left.2))
  call_keeps map (Replace key new) answer replied keeps room none has =
      let brings = keeps (replied ∙ ap replace_reply has.2) in
      let same : id ≡ brings.id = brings.same (record { id = id; rows = has.1 }) (ap id_set_of has.2) in
      (has.0, brings.others, cc (has.2, brings.tagged, same))
  call_keeps map (Evict key) answer replied keeps room none has = absurd (cc (none, replied, has.2))
  call_keeps map call answer replied keeps room none has = (has.0, has.1, cc (has.2))

  ids_keep : (way : ℕ) (later : List Entry) (map : PartialMap) → 0 < map.bound → Kept map later
      → count_by (evicts_at way) later ≡ 0 →
      AllKeep way HasIds map later
  ids_keep way [] map room kept none = tt
  ids_keep way (e ∷ later) map room kept none = let counts = count_by-cons (evicts_at way) e later in (
    (λ same. call_keeps map e.call e.reply kept.0.0 kept.1.1 room
        (none_evicted way e same (omega (arith, counts, none)))),
    ids_keep way later (next map e.call) room (kept.0.1, kept.1.2) (omega (arith, counts, none)),
  )

  pub ids_stay : (way : ℕ) (later : List Entry) (map : PartialMap) → way < key_count map → 0 < map.bound
      → Kept map later → count_by (evicts_at way) later ≡ 0 →
      HasIds (state_of map way) → HasIds (state_of (after map later) way)
  ids_stay way later map near room kept none has =
      all_stay way HasIds later map near (ids_keep way later map room kept none) has

module _ {Room : Type 0} (shows : Room → List Row → Type 0) (old asking new : IdCaller) (id way number : ℕ)
    (rows : List Row) (written since : List Entry) (room : Room)
    (real : 0 < id) (near : way < old.caller.table.shape.keys) (some : 0 < old.caller.table.shape.rows)
    (kept : Kept (map_at_opening old.caller.table) new.caller.seen)
    (put : state_of (after (map_at_opening old.caller.table) written) way ≡ Rows number (tag_of id ∷ rows))
    (none : count_by (evicts_at way) new.caller.seen ≡ count_by (evicts_at way) written) where
  abbrev opened : PartialMap
  opened = map_at_opening old.caller.table

  abbrev begin : PartialMap
  begin = after opened written

  module _ (answer : FoundId)
      (finds : FindsIdPut shows (record { id = id; way = way; old = old; written = written; since = since }) asking new
      room answer) where
    abbrev later : List Entry
    later = since ++ finds.more

    abbrev find : Entry
    find = entry asking.caller.number (Find way) finds.told

    none_later : count_by (evicts_at way) later ≡ 0
    none_later = omega (
      arith,
      none,
      ap (count_by (evicts_at way)) finds.seen,
      count_both (evicts_at way) (written ++ later) (find ∷ []),
      count_both (evicts_at way) written later,
    )

    kept_later : Kept begin later
    kept_later =
        kept_ends opened written later
        (kept_begins opened (written ++ later) (find ∷ []) (subst (Kept opened) finds.seen kept))

    -- after each beginning of the later entries the way has the id's rows
    has_upto : (upto tail : List Entry) → later ≡ upto ++ tail → HasIds id real (state_of (after begin upto) way)
    has_upto upto tail split =
        let counts : count_by (evicts_at way) later ≡ count_by (evicts_at way) upto + count_by (evicts_at way) tail =
        ap (count_by (evicts_at way)) split ∙ count_both (evicts_at way) upto tail in
        let size = length-replicate old.caller.table.shape.keys (Hole old.caller.table.shape.first_number) in
        ids_stay id real way upto begin (omega (arith, near, count_after written opened, size))
        (omega (arith, some, bound_after written opened))
        (kept_begins begin upto tail (subst (Kept begin) split kept_later)) (omega (arith, counts, none_later))
        (number, rows, put)

    -- so a find that looked there found them
    set_found : (set : List Row) → finds.told ≡ reply.Rows set → (others : List Row) × (set ≡ tag_of id ∷ others)
    set_found set told = ⊎_elim
        (λ (first : NonePut begin way later set).
        (rows, cc (put, first.rows_had)))
        (λ (last : LastPut begin way later set).
        let upto : List Entry = last.before ++ last.put ∷ [] in
        let has = has_upto upto last.tail (last.is ∙ sym (append_assoc last.before (last.put ∷ []) last.tail)) in
        let there : Rows last.number set ≡ Rows has.0 (tag_of id ∷ has.1) = sym last.rows_put
        ∙ sym (ap (λ (m : PartialMap). state_of m way) (after_both last.before (last.put ∷ []) begin)) ∙ has.2 in
        (has.1, cc (there)))
        (finds.finds.rows set told)

  answered_rows : (answer : FoundId)
      → FindsIdPut shows (record { id = id; way = way; old = old; written = written; since = since }) asking new room
      answer
      → answer ≡ found.Rows
  answered_rows found.Rows finds = refl
  answered_rows found.Pending finds =
      let evicted = finds.finds.hole finds.tells in
      absurd (omega (arith, evicted, none_later found.Pending finds))
  answered_rows found.Moved finds =
      let set = set_found found.Moved finds finds.tells.0 finds.tells.1 in
      absurd (finds.tells.2 set.0 set.1)
  answered_rows found.Absent finds = absurd finds.tells

-- what a reader has seen whom the writer has heard
pub kept_heard : (keeper : Keeper) (table : Table) (seen : List Entry) → IsTied keeper → table ≡ keeper.table.map
    → StartsWith keeper.writer.seen seen →
    Kept (map_at_opening table) seen
kept_heard keeper table seen tied same heard =
    rw same (kept_begins (map_at_opening keeper.table.map) seen heard.rest
    ((rw (tied.writes.0, heard.is) at tied.sound.legal), (rw heard.is at tied.tidy)))

pub finds_its_rows : {Room : Type 0} (shows : Room → List Row → Type 0) → FindsIdHeard shows → FindsItsRows shows
finds_its_rows shows law keeper old asking new note id way number rows before since put before_it room answer tied table
    heard near real named told puts put_is none hears finds =
    let kept = kept_heard keeper old.caller.table new.caller.seen tied table heard in
    elim (law old asking new note id way before since put before_it room answer near real named told puts hears finds) [
      | inl gone ↦ inl gone
      | inr there ↦ inr
          (answered_rows shows old asking new id way number rows (before ++ put ∷ []) since room real near
          (rw table tied.room) kept put_is none answer there)
    ]
