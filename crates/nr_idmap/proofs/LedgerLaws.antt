-- The laws of the writer by id, and of its ledger.
use Rattle.std.proofs.Common.{◌≡◌, ℕ, suc, ◌<◌, ◌⊎◌, inl, inr, List, [], ◌∷◌, ◌++◌, refl, ap, ◌∙◌, arith, Some, None}
use Rattle.nr_model.specs.declared.rows.Row.{Row}
use Rattle.nr_model.specs.declared.calls.Call.TheVariants.{Find}
use Rattle.nr_model.specs.declared.calls.Reply.TheVariants as reply
use Rattle.nr_model.specs.declared.states.KeyState.{KeyState}
use Rattle.nr_model.specs.declared.states.KeyState.TheVariants.{Hole, Asked, Rows}
use Rattle.nr_model.specs.Histories.{Entry}
use Rattle.nr_model.specs.Maps.{opening}
use Rattle.nr_core.specs.Story.{entry}
use Rattle.nr_board.specs.Callers.{map_seen}
use Rattle.nr_ids.proofs.Logs.{one_way}
use Rattle.nr_idmap.specs.Keepers.{Agrees, IsTied, Keeper, Owed, name_at, owed_at, owed_for, state_at}
use Rattle.nr_idmap.specs.IdLaws.{HeardFinds, NamedIsOwedOrResident, OneUpquery, TiedReadsAsIds}
use Rattle.nr_idmap.specs.Tags.{IsResident, id_set_of, tag_of}
use Rattle.nr_idmap.proofs.Readings.{finds_resident, reads_as_ids, tidy_begins}
use Rattle.nr_idmap.proofs.Ties.{owed_asked, owed_none, set_named}

pub tied_reads_as_ids : TiedReadsAsIds
tied_reads_as_ids keeper bound tied rows =
    let shape = keeper.table.map.shape in
    rw (tied.writes.0, rows)
    (reads_as_ids shape.keys bound shape.first_number keeper.writer.seen
    (rw (tied.writes.0, rows) at tied.sound.legal) (rw rows at tied.tidy))

pub heard_finds : HeardFinds
heard_finds keeper old new steps key bound id rows tied size table heard gains =
    let shape = keeper.table.map.shape in
    let log : List Entry = old.seen ++ gains.between in
    let e : Entry = entry old.number (Find key) (reply.Rows (tag_of id ∷ rows)) in
    rw (table, size)
    (finds_resident shape.keys bound shape.first_number log e key id rows refl refl
    (rw (gains.seen, table, size) at gains.legal)
    (tidy_begins (opening shape.keys (suc bound) shape.first_number) (log ++ e ∷ []) heard.rest
    (rw (heard.is, gains.seen, size) at tied.tidy)))

-- THE LEDGER
-- what is open for a way tells the way, its name and its number
pub owed_tells : (way name : ℕ) (state : KeyState) (owed : Owed) → owed_for way name state ≡ Some owed →
    (owed.way ≡ way) × (owed.id ≡ name) × (0 < name) × (state ≡ Asked owed.number)
owed_tells way name state owed is = grind arith

pub one_upquery : OneUpquery
one_upquery keeper way other owed twin tied here there same = grind (
  arith,
  owed_tells way (name_at keeper way) (state_at keeper way) owed here,
  owed_tells other (name_at keeper other) (state_at keeper other) twin there,
  one_way keeper.table.directory.plan keeper.clerk.seen way other (name_at keeper way) tied.legal,
)

-- a filled key whose set has an id's tag is the id's way
pub resident_way : (keeper : Keeper) (id : ℕ) (rows : List Row) → IsTied keeper
    → (at : IsResident (map_seen keeper.writer) id rows) →
    (0 < id) × (name_at keeper at.0 ≡ id)
resident_way keeper id rows tied at =
    grind (
      arith,
      set_named (name_at keeper at.0) (state_at keeper at.0) (record { id = id; rows = rows })
          (tied.agrees at.0) (ap id_set_of at.1.1),
    )

pub named_is_owed_or_resident : NamedIsOwedOrResident
named_is_owed_or_resident keeper way tied real = go (state_at keeper way) refl (tied.agrees way) where
  go : (state : KeyState) → state_at keeper way ≡ state → Agrees (name_at keeper way) state
      → ((owed : Owed) × (owed_at keeper way ≡ Some owed) ×
      ((rows : List Row) → IsResident (map_seen keeper.writer) (name_at keeper way) rows → ⊥))
      ⊎ ((rows : List Row) × IsResident (map_seen keeper.writer) (name_at keeper way) rows
      × (owed_at keeper way ≡ None))
  go (Hole number) is none = absurd (omega (arith, none))
  go (Asked number) is agrees = inl (
    record { way = way; number = number; id = name_at keeper way },
    rw is (owed_asked way (name_at keeper way) number real),
    λ rows at. let its = resident_way keeper (name_at keeper way) rows tied at in
        let same : at.0 ≡ way
        = one_way keeper.table.directory.plan keeper.clerk.seen at.0 way (name_at keeper way) tied.legal real its.1
        refl in
        absurd (cc (is, same, at.1.1)),
  )
  go (Rows number rows) is tag =
      inr (tag.1, (way, (number, is ∙ ap (Rows number) tag.2)), rw is (owed_none way (name_at keeper way) number rows))
