-- A new store: no upquery is open, and there is a slot for each way, each reader and one more.
use Rattle.std.proofs.Common.{◌≡◌, ◌≢◌, ◌<◌, ◌-◌, ◌*◌, ◌==◌, ℕ}
use Rattle.std.proofs.Common.{List, inl, inr, ap, refl, sym, subst, ◌∙◌, arith, get_or, length}
use Rattle.std.specs.Prelude.{replicate}
use Rattle.std.proofs.lemmas.List.{get_or-replicate, get_or_past, length-replicate}
use Rattle.std.specs.List.{All}
use Rattle.std.proofs.lemmas.List.Elements.{All-nil}
use Rattle.nr_model.specs.Histories.{Entry}
use Rattle.std.proofs.lemmas.List.Folds.{sum_by-replicate}
use Rattle.nr_model.proofs.HistoryLemmas.{one}
use Rattle.nr_model.specs.Maps.{filled_count, is_filled_key}
use Rattle.nr_model.specs.declared.states.KeyState.{KeyState}
use Rattle.nr_model.specs.declared.states.KeyState.TheVariants.{Hole}
use Rattle.nr_board.specs.Callers.{Caller, map_at_opening, map_seen}
use Rattle.nr_core.proofs.Choices.{on_test}
use Rattle.nr_core.specs.declared.shape.Shape.{Shape}
use Rattle.nr_ids.specs.Events.{Event, name_of}
use Rattle.nr_idmap.specs.declared.id_map.IdShape.{IdShape}
use Rattle.nr_idmap.specs.IdOpenings.{OpensIds, shape_of}
use Rattle.nr_idmap.specs.Keepers.{IdCaller, IdTable, Keeper, owed_for, state_at}
use Rattle.nr_cache.specs.declared.shape.StoreShape.{StoreShape}
use Rattle.nr_cache.specs.Openings.{IsBadStoreShape, ids_of}
use Rattle.nr_cache.specs.Places.{OwesNone}
use Rattle.nr_cache.specs.Values.{BringsValue, BringsValues, HasSlots, IsWithin, values_in}
use Rattle.nr_cache.specs.Weights.{Load, OnlyValuesWeigh, no_load}
use Rattle.nr_cache.proofs.Ways.{below_or_past}

module _ {shape : IdShape} {table : IdTable} {keeper : Keeper} {readers : List IdCaller}
    (opens : OpensIds shape table keeper readers)
  where
    pub opened_owes_none : OwesNone keeper
    opened_owes_none way =
        ap (λ (seen : List Event). owed_for way (name_of seen way) (state_at keeper way)) opens.clerk.1

    -- the shape of the map
    shape_is : keeper.table.map.shape ≡ shape_of shape
    shape_is = ap (λ (t : IdTable). t.map.shape) opens.writes ∙ opens.opened.sizes

    -- the writer has brought no set
    pub opened_brings_none : BringsValues keeper
    opened_brings_none =
        subst (λ (w : Caller). All (λ (e : Entry). BringsValue e.call) w.mine) (sym opens.opened.writes)
        (All-nil (λ (e : Entry). BringsValue e.call))

    -- there is no value
    pub opened_is_within : (capacity : ℕ) → IsWithin capacity keeper
    opened_is_within capacity =
        let seen : values_in keeper ≡ filled_count (map_at_opening table.map) =
        ap (λ (w : Caller). filled_count (map_seen w)) opens.opened.writes in
        let none : filled_count (map_at_opening table.map) ≡ table.map.shape.keys * 0 =
        sum_by-replicate (λ (state : KeyState). one (is_filled_key state)) table.map.shape.keys
        (Hole table.map.shape.first_number) in
        omega (arith, seen, none)

module _ (shape : StoreShape) {table : IdTable} {keeper : Keeper} {readers : List IdCaller}
    (opens : OpensIds (ids_of shape) table keeper readers)
  where
    pub opened_has_slots : HasSlots shape.capacity keeper.table.map
    opened_has_slots =
        omega (arith, ap (λ (s : Shape). s.readers) (shape_is opens), ap (λ (s : Shape). s.slots) (shape_is opens))

    pub opened_has_row : 0 < keeper.table.map.shape.rows - 1
    opened_has_row = omega (arith, ap (λ (s : Shape). s.rows) (shape_is opens))

    -- there is a way
    pub opened_has_ways : (IsBadStoreShape shape → ⊥) → 0 < keeper.table.map.shape.keys
    opened_has_ways good =
        let some : shape.groups ≢ 0 = λ none. good (inl (inl none)) in
        omega (arith, ap (λ (s : Shape). s.keys) (shape_is opens), some)

-- nothing weighs anything
abbrev no_weights : ℕ → List ℕ
no_weights count = replicate count 0

weightless : (place count : ℕ) → get_or (no_weights count) place 0 ≡ 0
weightless place count = elim (below_or_past place count) [
  | inl near ↦ get_or-replicate count place 0 0 near
  | inr past ↦
      let long : length (no_weights count) ≡ count = length-replicate count 0 in
      get_or_past (no_weights count) place 0 (omega (arith, past, long))
]

pub opened_weighs_none : (most ways : ℕ) (keeper : Keeper) → OnlyValuesWeigh (no_load most ways) keeper
opened_weighs_none most ways keeper way none =
    on_test (λ (load : Load). get_or load.each way 0 ≡ 0) (most == 0) (λ off. refl) (λ on. weightless way ways)
