-- A hand that had seen a way's name, and that the way had the id's rows, finds rows by it.
use Rattle.std.proofs.Common.{◌≡◌, ◌≢◌, ℕ, zero, suc, ◌+◌, ◌<◌, ◌⊎◌, ⊎_elim, inl, inr, false, ◌*◌, List, [], ◌∷◌, ◌++◌}
use Rattle.std.proofs.Common.{length, refl, sym, ap, ◌∙◌, arith, append-nil, append_assoc, Option, Some, None}
use Rattle.std.specs.List.{count_by}
use Rattle.std.proofs.lemmas.Bool.{cases_eq}
use Rattle.std.proofs.lemmas.List.{length-replicate}
use Rattle.nr_model.specs.declared.rows.Row.{Row}
use Rattle.nr_model.specs.declared.calls.Call.TheVariants.{Find}
use Rattle.nr_model.specs.declared.calls.Reply.{Reply}
use Rattle.nr_model.specs.declared.calls.Reply.TheVariants as reply
use Rattle.nr_model.specs.declared.states.KeyState.TheVariants.{Hole, Rows}
use Rattle.nr_model.specs.Histories.{Entry, after}
use Rattle.nr_model.specs.Maps.{PartialMap, find_reply, key_count, state_of}
use Rattle.nr_core.specs.Story.{entry}
use Rattle.nr_board.specs.declared.answers.Found.TheVariants as answer
use Rattle.nr_board.specs.Callers.{Gains, Table, map_at_opening}
use Rattle.nr_map.specs.Hands.{Handed}
use Rattle.nr_map.specs.Written.{evicts_at}
use Rattle.nr_ids.specs.Groups.{ways}
use Rattle.nr_ids.specs.Laws.{FindsWhatItHeard}
use Rattle.nr_ids.specs.Tokens.{HasName, known_to}
use Rattle.nr_idmap.specs.declared.finds.FoundId.{FoundId}
use Rattle.nr_idmap.specs.declared.finds.FoundId.TheVariants as found
use Rattle.nr_idmap.specs.IdHands.{AgainById, HoldsAnew, HoldsByName, IdHanded, IsHeldFor, KeepsWay, PinsById}
use Rattle.nr_idmap.specs.IdHands.{with_line_loaded}
use Rattle.nr_idmap.specs.declared.finds.NamedWay.{NamedWay}
use Rattle.nr_idmap.specs.IdFinds.{LooksForWay}
use Rattle.nr_idmap.specs.IdHeard.{IsUnnamedSince, PinsItsRows}
use Rattle.nr_idmap.specs.Keepers.{IdTable}
use Rattle.nr_idmap.specs.Tags.{tag_of}
use Rattle.nr_idmap.proofs.Entries.{after_both, bound_after, count_after, legal_end}
use Rattle.nr_idmap.proofs.LookUps.{looks_there, way_named}
use Rattle.nr_idmap.proofs.HeardRows.{HasIds, Kept, count_both, ids_stay, kept_begins, kept_ends, kept_heard}

held_or_not : (id : ℕ) (held : Option ℕ) → IsHeldFor id held ⊎ (IsHeldFor id held → ⊥)
held_or_not zero held = inr (λ e. e)
held_or_not (suc id) None = inr (λ e. absurd (cc (e)))
held_or_not (suc id) (Some other) = ⊎_elim (λ (same : other ≡ suc id). inl (ap Some same))
    (λ (apart : other ≢ suc id). inr (λ e. let same : other ≡ suc id = cc (e) in apart same))
    (cases_eq other (suc id))

-- what a hand has seen that asked first whether it holds the id's set still
pub record Asked (old asked : IdHanded) : Type 0 where
  pub table : asked.hand.reader.table ≡ old.hand.reader.table
  pub more : List Entry
  pub seen : asked.hand.reader.seen ≡ old.hand.reader.seen ++ more
  pub ids : asked.ids ≡ old.ids

pub asked_first : (id : ℕ) (old asked : IdHanded) → AgainById id old asked false → Asked old asked
asked_first id old asked again = ⊎_elim
    (λ holds. let vain = again.0 holds in record {
      table = vain.asks.grows.table;
      more = vain.asks.grows.between;
      seen = rw (vain.asks.grows.seen, append-nil);
      ids = vain.ids;
    })
    (λ other. rw (again.1 other) (record { table = refl; more = []; seen = rw append-nil; ids = refl }))
    (held_or_not id old.id)

-- a find of a way by a hand is one entry, whichever way it found
pub record FoundOnce (way : ℕ) (old new : Handed) (told : Reply) : Type 0 where
  pub steps : ℕ
  pub gains : Gains steps (Find way) old.reader new.reader told

found_hole : (way : ℕ) (old new : Handed) → KeepsWay way old new answer.Hole → FoundOnce way old new reply.Hole
found_hole way old new keeps = ⊎_elim
    (λ again. absurd (cc (again.2)))
    (λ anew. record { steps = _; gains = anew.1.0.2.gains })
    keeps.2

pub found_rows : (way : ℕ) (old new : Handed) → KeepsWay way old new answer.Rows
    → FoundOnce way old new (reply.Rows new.rows)
found_rows way old new keeps = ⊎_elim
    (λ again. record { steps = 2 * length old.rows + 1; gains = rw again.0.rows again.0.gains })
    (λ anew. record { steps = _; gains = anew.1.0.2.gains })
    keeps.2

module _ (open_map : PartialMap) (id way number : ℕ) (rows : List Row) (before : List Entry) (real : 0 < id)
    (near : way < key_count open_map)
    (some : 0 < open_map.bound) (put : state_of (after open_map before) way ≡ Rows number (tag_of id ∷ rows)) where
  -- at each later moment of a history without an eviction of the way it has the id's rows
  has_then : (later tail : List Entry) → Kept open_map ((before ++ later) ++ tail) →
      count_by (evicts_at way) ((before ++ later) ++ tail) ≡ count_by (evicts_at way) before
      → HasIds id real (state_of (after open_map (before ++ later)) way)
  has_then later tail kept none =
      let kept_later = kept_ends open_map before later (kept_begins open_map (before ++ later) tail kept) in
      let few : count_by (evicts_at way) later ≡ 0 =
      omega (arith, none, count_both (evicts_at way) (before ++ later) tail, count_both (evicts_at way) before later) in
      let stays = ids_stay id real way later (after open_map before) (omega (arith, near, count_after before open_map))
      (omega (arith, some, bound_after before open_map)) kept_later few (number, rows, put) in
      (stays.0, stays.1, ap (λ (m : PartialMap). state_of m way) (after_both before later open_map) ∙ stays.2)

  -- so a find of the way then has them
  finds_them : (caller : ℕ) (told : Reply) (later : List Entry)
      → Kept open_map ((before ++ later) ++ entry caller (Find way) told ∷ []) →
      count_by (evicts_at way) ((before ++ later) ++ entry caller (Find way) told ∷ [])
      ≡ count_by (evicts_at way) before
      →
      (others : List Row) × (told ≡ reply.Rows (tag_of id ∷ others))
  finds_them caller told later kept none =
      let has = has_then later (entry caller (Find way) told ∷ []) kept none in
      (has.1, legal_end (before ++ later) open_map (entry caller (Find way) told) kept.0 ∙ ap find_reply has.2)

module _ (law : FindsWhatItHeard) (old new : IdHanded) (id way number : ℕ) (rows : List Row) (before since : List Entry)
    (real : 0 < id)
    (named : HasName old.ids way id) (near : way < key_count (map_at_opening old.hand.reader.table))
    (some : 0 < (map_at_opening old.hand.reader.table).bound)
    (kept : Kept (map_at_opening old.hand.reader.table) new.hand.reader.seen)
    (known : old.hand.reader.seen ≡ before ++ since)
    (put : state_of (after (map_at_opening old.hand.reader.table) before) way ≡ Rows number (tag_of id ∷ rows))
    (none : count_by (evicts_at way) new.hand.reader.seen ≡ count_by (evicts_at way) before) where
  abbrev Unnamed : Type 0
  Unnamed = IsUnnamedSince old.ids.seen way new.ids.seen

  looked_there : (asked : IdHanded) (there : Option NamedWay) → Asked old asked
      → LooksForWay id asked.ids new.ids there → Unnamed ⊎ (way_named there ≡ Some way)
  looked_there asked there first looks =
      looks_there law (known_to old.ids) id way old.ids new.ids there real named.has ([], refl)
      (rw first.ids at looks)

  -- a find of the way had the id's rows
  told_rows : (asked : IdHanded) (mid : Handed) (told : Reply) → Asked old asked → FoundOnce way asked.hand mid told →
      new.hand.reader.seen ≡ mid.reader.seen → (others : List Row) × (told ≡ reply.Rows (tag_of id ∷ others))
  told_rows asked mid told first once ends =
      let e : Entry = entry asked.hand.reader.number (Find way) told in
      let later : List Entry = since ++ (first.more ++ once.gains.between) in
      let front : asked.hand.reader.seen ++ once.gains.between ≡ before ++ later =
      ap (λ (l : List Entry). l ++ once.gains.between) (first.seen ∙ ap (λ (l : List Entry). l ++ first.more) known)
      ∙ append_assoc (before ++ since) first.more once.gains.between
      ∙ append_assoc before since (first.more ++ once.gains.between) in
      let seen : new.hand.reader.seen ≡ (before ++ later) ++ entry asked.hand.reader.number (Find way) told ∷ [] =
      ends ∙ once.gains.seen
      ∙ ap (λ (l : List Entry). l ++ entry asked.hand.reader.number (Find way) told ∷ []) front in
      finds_them (map_at_opening old.hand.reader.table) id way number rows before real near some put
      asked.hand.reader.number told later
      (rw seen at kept) (rw (← seen) none)

  -- the way that was found is that one
  at_way : (at : ℕ) (from to : Handed) (told : Reply) → Some at ≡ Some way → FoundOnce at from to told
      → FoundOnce way from to told
  at_way at from to told same once = let is : at ≡ way = cc (same) in rw is at once

  named_rows : (asked : IdHanded) (answer : FoundId) → Asked old asked → HoldsByName id asked new answer
      → Unnamed ⊎ (answer ≡ found.Rows)
  named_rows asked found.Rows first anew = inr refl
  named_rows asked found.Pending first anew = ⊎_elim
      (λ gone. inl gone)
      (λ (same : Some anew.0.way ≡ Some way). let has = told_rows asked new.hand reply.Hole first
      (at_way anew.0.way asked.hand new.hand reply.Hole same
      (found_hole anew.0.way asked.hand new.hand anew.2.0)) refl in
      absurd (cc (has.1)))
      (looked_there asked (Some anew.0) first anew.1)
  named_rows asked found.Moved first anew = ⊎_elim
      (λ gone. inl gone)
      (λ (same : Some anew.0.way ≡ Some way). let has = told_rows asked anew.2.0 (reply.Rows anew.2.0.rows) first
      (at_way anew.0.way asked.hand anew.2.0 (reply.Rows anew.2.0.rows) same
      (found_rows anew.0.way asked.hand anew.2.0 anew.2.1)) anew.2.3.rests.seen in
      absurd (anew.2.2 has.0 (cc (has.1))))
      (looked_there asked (Some anew.0) first anew.1)
  named_rows asked found.Absent first anew = ⊎_elim
      (λ gone. inl gone)
      (λ (there : None ≡ Some way). absurd (cc (there)))
      (looked_there asked None first anew.0)

  anew_rows : (asked : IdHanded) (answer : FoundId) → Asked old asked → HoldsAnew id asked new answer
      → Unnamed ⊎ (answer ≡ found.Rows)
  anew_rows asked answer first anew =
      named_rows (with_line_loaded id anew.0 asked) answer
      (record { table = first.table; more = first.more; seen = first.seen; ids = first.ids }) anew.1

  by_answer : (answer : FoundId) → PinsById id old new answer → Unnamed ⊎ (answer ≡ found.Rows)
  by_answer answer pins = ⊎_elim
      (λ again. inr again.0)
      (λ late. anew_rows late.0 answer (asked_first id old late.0 late.1) late.2)
      pins

pub pins_its_rows : FindsWhatItHeard → PinsItsRows
pins_its_rows law keeper old new id way number rows before since answer tied table heard real named known put none
    pins =
    let map_same : old.hand.reader.table ≡ keeper.table.map = ap (λ (t : IdTable). t.map) table in
    let all_ways : ways old.ids.directory.plan ≡ old.hand.reader.table.shape.keys =
    ap (λ (t : IdTable). ways t.directory.plan) table ∙ tied.ways_are
    ∙ ap (λ (t : Table). t.shape.keys) (sym map_same) in
    let near : way < key_count (map_at_opening old.hand.reader.table) =
    omega (
      arith,
      named.inside,
      all_ways,
      length-replicate old.hand.reader.table.shape.keys (Hole old.hand.reader.table.shape.first_number),
    ) in
    by_answer law old new id way number rows before since real named near
    (rw map_same tied.room)
    (kept_heard keeper old.hand.reader.table new.hand.reader.seen tied map_same heard) known put none answer pins
