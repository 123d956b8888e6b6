-- What ways weigh after a step: a way that lost its value weighs nothing, one that got a value weighs that, and each
-- other what it did.
use Rattle.std.proofs.Common.{◌≡◌, ◌≢◌, ◌<◌, ◌≤◌, ℕ, zero, suc, List, [], ◌∷◌, inl, inr, None, refl, sym, ap, ◌∙◌}
use Rattle.std.proofs.Common.{arith, get_or, set, Some, subst}
use Rattle.std.specs.List.{sum}
use Rattle.std.proofs.lemmas.Bool.{cases_eq}
use Rattle.std.proofs.lemmas.List.{get_or_past, get_or-set_other, get_or-set_same, length-set}
use Rattle.std.proofs.lemmas.List.Sums.{sum_by-cons}
use Rattle.nr_model.specs.declared.calls.Call.TheVariants.{Fill, Replace}
use Rattle.nr_model.specs.declared.calls.Reply.TheVariants.{Done}
use Rattle.nr_model.specs.declared.rows.Row.{Row}
use Rattle.nr_board.specs.Callers.{Caller, map_seen, Gains}
use Rattle.nr_board.specs.Meetings.{with_step}
use Rattle.nr_ids.specs.declared.admissions.Refused.{Refused}
use Rattle.nr_ids.specs.Answers.{FindsWay}
use Rattle.nr_idmap.specs.IdChoices.{StaysButClerk}
use Rattle.nr_idmap.specs.IdWrites.{AdmitsId, EvictsWay, RefusesId}
use Rattle.nr_idmap.specs.Keepers.{IsTied, Keeper, Owed, name_at, state_at}
use Rattle.nr_idmap.specs.Tags.{set_at, IsResident, id_set_of, tag_of}
use Rattle.nr_cache.specs.Places.{IsOther}
use Rattle.nr_cache.specs.Weights.{Fits, Lightens, Load, OnlyValuesWeigh, value_at, weighs_at}
use Rattle.nr_cache.proofs.Gone.{found_there}
use Rattle.nr_cache.proofs.Ways.{evicted_none, HasRows, filled_has, replaced_has}
use Rattle.nr_cache.proofs.WriterCalls.{IsWriter, called, learnt_keeps, other_sets, writes}

-- A LIST OF WEIGHTS
zero_there : (each : List ℕ) (way : ℕ) → get_or (set each way 0) way 0 ≡ 0
zero_there each way = grind (arith, get_or_past, get_or-set_same, length-set)

all_zero : (each : List ℕ) → ((way : ℕ) → get_or each way 0 ≡ 0) → sum each ≡ 0
all_zero [] none = refl
all_zero (weight ∷ each) none =
    let first : weight ≡ 0 = none 0 in
    omega (arith, sum_by-cons (λ (x : ℕ). x) weight each, all_zero each (λ way. none (suc way)), first)

-- where no other way weighs anything all do what this one does
alone : (each : List ℕ) (way : ℕ) → ((other : ℕ) → other ≢ way → get_or each other 0 ≡ 0) → sum each ≡ get_or each way 0
alone [] way none = refl
alone (weight ∷ each) zero none =
    let rest = all_zero each (λ way. none (suc way) (λ same. absurd (omega (arith, same)))) in
    omega (arith, sum_by-cons (λ (x : ℕ). x) weight each, rest)
alone (weight ∷ each) (suc way) none =
    let first : weight ≡ 0 = none 0 (λ same. absurd (omega (arith, same))) in
    let rest = alone each way (λ other differs. none (suc other) (λ same. differs (omega (arith, same)))) in
    omega (arith, sum_by-cons (λ (x : ℕ). x) weight each, first, rest)

-- LIGHTER
pub lightens_same : (old new : Keeper) {load : Load} → ((way : ℕ) → value_at new way ≡ value_at old way)
    → Lightens old load new load
lightens_same old new values = record { most = refl; long = refl; each = λ way. inr (values way, refl) }

pub lightens_stays : {old new : Keeper} {load : Load} → StaysButClerk old new → Lightens old load new load
lightens_stays {old} {new} stays =
    lightens_same old new (λ way. ap (λ (w : Caller). set_at (map_seen w) way) stays.writer)

pub lightens_refused : {id : ℕ} {old new : Keeper} {why : Refused} {load : Load} → RefusesId id old new why
    → Lightens old load new load
lightens_refused {old = old} {new = new} refuses =
    lightens_same old new (λ way. ap (λ (w : Caller). set_at (map_seen w) way) refuses.writer)

pub lightens_admitted : {id : ℕ} {old new : Keeper} {owed : Owed} {load : Load} → IsTied old → AdmitsId id old new owed
    → Lightens old load new load
lightens_admitted {old = old} {new = new} tied admits =
    let writer = writes tied in
    let asked : IsWriter (with_step old.writer) = record { number = writer.number; own = writer.own } in
    lightens_same old new (learnt_keeps asked admits.asks.hears.learns).sets

pub lightens_then : {old mid new : Keeper} {was between is : Load} → Lightens old was mid between
    → Lightens mid between new is → Lightens old was new is
lightens_then first more = record {
  most = more.most ∙ first.most;
  long = more.long ∙ first.long;
  each = λ way. elim (more.each way) [
    | inl gone ↦ inl gone
    | inr same ↦ elim (first.each way) [
      | inl gone ↦ inl (same.0 ∙ gone.0, same.1 ∙ gone.1)
      | inr before ↦ inr (same.0 ∙ before.0, same.1 ∙ before.1)
    ]
  ];
}

pub only_still : {old new : Keeper} {was is : Load} → OnlyValuesWeigh was old → Lightens old was new is
    → OnlyValuesWeigh is new
only_still only lightens way none = elim (lightens.each way) [
  | inl gone ↦ gone.1
  | inr same ↦ same.1 ∙ only way (sym same.0 ∙ none)
]

-- one got a value
pub only_comes : (way weight : ℕ) (old new : Keeper) (was : Load) → OnlyValuesWeigh was old → value_at new way ≢ None
    → ((other : ℕ) → other ≢ way → value_at new other ≡ value_at old other)
    → OnlyValuesWeigh (weighs_at way weight was) new
only_comes way weight old new was only some others other none = elim (cases_eq other way) [
  | inl same ↦ absurd (some (ap (value_at new) (sym same) ∙ none))
  | inr differs ↦
      get_or-set_other was.each way other weight 0 differs ∙ only other (sym (others other differs) ∙ none)
]

-- where no other way has a value what isn't heavier than all may be fits
pub fits_alone : (way weight : ℕ) (load : Load) (keeper : Keeper) → OnlyValuesWeigh load keeper → weight ≤ load.most
    → ((other : ℕ) → other ≢ way → value_at keeper other ≡ None) → Fits way weight load
fits_alone way weight load keeper only light none =
    omega (arith, alone load.each way (λ other differs. only other (none other differs)), light)

-- AN EVICTION
module _ {id taken : ℕ} (way : ℕ) {old new : Keeper} (tied : IsTied old) (evicts : EvictsWay id taken old new)
    (real : 0 < id) (named : name_at old way ≡ id)
  where
    evicted_others : (other : ℕ) → other ≢ way → value_at new other ≡ value_at old other
    evicted_others other differs =
        other_sets (called (writes tied) evicts.evicts.0) other
        (λ same. differs (same ∙ found_there way tied evicts.finds real named))

    -- of the id that has the way: it weighs nothing, and others what they did
    pub evicted_lightens : {was : Load} → Lightens old was new (weighs_at way 0 was)
    evicted_lightens {was} =
        let none = evicted_none (called (writes tied) evicts.evicts.0) in
        record {
          most = refl;
          long = length-set was.each way 0;
          each = λ other. elim (cases_eq other way) [
            | inl same ↦
                inl (
                  ap (value_at new) (same ∙ sym (found_there way tied evicts.finds real named)) ∙ none,
                  rw same (zero_there was.each way),
                )
            | inr differs ↦ inr (evicted_others other differs, get_or-set_other was.each way other 0 0 differs)
          ];
        }

pub evicted_mine : {id way taken other : ℕ} {old new : Keeper} → IsTied old → EvictsWay id taken old new
    → IsOther other way id old → value_at new other ≡ value_at old other
evicted_mine {way = way} {other = other} tied evicts has =
    evicted_others way tied evicts has.2 has.1 other (λ same. has.0 (sym same))

-- A VALUE THAT COMES
pub record Comes (way id : ℕ) (row : Row) (old new : Keeper) : Type 0 where
  pub there : HasRows (tag_of id ∷ row ∷ []) (state_at new way)
  pub others : (other : ℕ) → other ≢ way → value_at new other ≡ value_at old other

pub comes_is : {way id : ℕ} {row : Row} {old new : Keeper} → Comes way id row old new
    → IsResident (map_seen new.writer) id (row ∷ [])
comes_is {way} comes = (way, comes.there)

pub comes_only : {way id : ℕ} {row : Row} {old new : Keeper} (weight : ℕ) (load : Load) → Comes way id row old new
    → OnlyValuesWeigh load old → OnlyValuesWeigh (weighs_at way weight load) new
comes_only {way} {old = old} {new = new} weight load comes only =
    only_comes way weight old new load only
    (λ none. let is = sym (ap id_set_of comes.there.1) ∙ none in absurd (cc (is))) comes.others

pub filled_comes : {steps way number owner id : ℕ} {row : Row} (old new : Keeper) → IsTied old → owner ≡ id
    → Gains steps (Fill way number (tag_of owner ∷ row ∷ [])) old.writer new.writer Done → Comes way id row old new
filled_comes {way = way} {row = row} old new tied same gains =
    let calls = called (writes tied) gains in
    subst (λ (i : ℕ). Comes way i row old new) same (record { there = filled_has calls; others = other_sets calls })

pub replaced_comes : {steps found id : ℕ} {row : Row} (way : ℕ) (old new : Keeper) → IsTied old → 0 < id
    → name_at old way ≡ id → FindsWay id old.clerk new.clerk (Some found)
    → Gains steps (Replace found (tag_of id ∷ row ∷ [])) old.writer new.writer Done → Comes way id row old new
replaced_comes {id = id} {row = row} way old new tied real named finds gains =
    let calls = called (writes tied) gains in
    subst (λ (w : ℕ). Comes w id row old new) (found_there way tied finds real named)
    (record { there = replaced_has calls; others = other_sets calls })
