-- How an id without a way gets one, and that what was put for it is there then. Where there are as many values as may
-- be, or what comes is too heavy beside them, there is one that isn't the newcomer's, and its eviction makes room.
use Rattle.std.proofs.Common.{◌≡◌, ℕ, inl, inr, List, ◌∷◌, None, Some, refl, sym, ap, ◌∙◌, subst, ◌<◌}
use Rattle.std.proofs.Common.{Option, arith, [], Err}
use Rattle.std.proofs.lemmas.Bool.{cases_eq}
use Rattle.nr_model.specs.declared.rows.Row.{Row}
use Rattle.nr_model.specs.declared.states.KeyState.{KeyState}
use Rattle.nr_model.specs.declared.states.KeyState.TheVariants.{Rows}
use Rattle.nr_board.specs.Callers.{map_seen}
use Rattle.nr_board.specs.declared.answers.Evict.TheVariants as evict
use Rattle.nr_board.specs.declared.answers.Reclaimed.{Reclaimed}
use Rattle.nr_board.specs.declared.answers.ReplaceFault.{ReplaceFault}
use Rattle.nr_board.specs.declared.answers.ReplaceFault.TheVariants as replace
use Rattle.nr_map.specs.SlotBounds.{NoSlotIsRare}
use Rattle.nr_ids.specs.declared.admissions.Refused.{Refused}
use Rattle.nr_ids.specs.declared.admissions.Refused.TheVariants as refused
use Rattle.nr_ids.specs.Answers.{FindsId}
use Rattle.nr_ids.specs.Events.{IsAbsent, looks, name_of}
use Rattle.nr_ids.specs.Groups.{places, way_at}
use Rattle.nr_ids.specs.Looking.{IsFull, group_for, way_for}
use Rattle.nr_ids.specs.Tokens.{Grows, Opened, Token}
use Rattle.nr_ids.proofs.Calls.{chooses_leave, clerk_looks, leaves_names, way_at_first}
use Rattle.nr_ids.proofs.Admitting.{refusal_looks}
use Rattle.nr_idmap.specs.IdWrites.{EvictsId, AdmitsId, RefusesId}
use Rattle.nr_idmap.specs.Keepers.{Agrees, IsTied, Keeper, Owed, OwesSame, name_at, owed_at, owed_for, state_at}
use Rattle.nr_idmap.specs.Keepers.{ClosesOne, IdCaller, Sent}
use Rattle.nr_idmap.specs.Tags.{id_set_of, set_told, tag_of}
use Rattle.nr_idmap.specs.IdChoices.{ChoosesId}
use Rattle.nr_idmap.specs.declared.writes.IdFault.TheVariants as fault
use Rattle.nr_cache.specs.Places.{HoldsNoOther, IsOther, OwesNoneBut, OwesOnly, OwesNone, Unnames, AdmitsOrNot, Enters}
use Rattle.nr_cache.specs.Places.{GetsPlace, Holds, LooksUp, Replaces, TakesPlace}
use Rattle.nr_cache.specs.Values.{values_in, HasSlots, IsWithin}
use Rattle.nr_cache.specs.Moves.{Moves}
use Rattle.nr_cache.specs.Stores.{HoldsOrNot}
use Rattle.nr_cache.specs.Weights.{Stock}
use Rattle.nr_cache.specs.declared.store.Landed.{Landed}
use Rattle.nr_cache.specs.declared.store.Landed.TheVariants as landed
use Rattle.nr_cache.proofs.Filled.{none_filled, has_slot}
use Rattle.nr_cache.proofs.Gone.{found_none, found_there, passed_over}
use Rattle.nr_cache.proofs.WriterCalls.{weight, called, writes}
use Rattle.nr_cache.proofs.Ways.{not_passed_over}
use Rattle.nr_cache.proofs.Quiets.{fill_gives, moves_then, quiet_then, replace_gives, admits_quiet, keeps_quiet}
use Rattle.nr_cache.proofs.Quiets.{lightens_quiet, stays_quiet}

-- ANOTHER'S VALUE
-- the same upqueries are open still
pub owes_still : {owed : Owed} {old : Keeper} (new : Keeper) → OwesSame old new → OwesOnly owed old → OwesOnly owed new
owes_still {owed} new same only = record {
  stands = same owed.way ∙ only.stands;
  others = λ way other. same way ∙ only.others way other;
}

-- a key that is asked for has no set
owed_weighs : (way name : ℕ) (state : KeyState) (owed : Owed) → owed_for way name state ≡ Some owed → weight state ≡ 0
owed_weighs way name state owed is = grind arith

-- nor has one that has no id's
tagged_is_told : (name : ℕ) (rows others : List Row) → rows ≡ tag_of name ∷ others → set_told rows ≡ None → ⊥
tagged_is_told name rows others is none = let e = sym (ap set_told is) ∙ none in absurd (cc (e))

empty_weighs : (name : ℕ) (state : KeyState) → Agrees name state → id_set_of state ≡ None → weight state ≡ 0
empty_weighs name (Rows number rows) agrees none = absurd (tagged_is_told name rows agrees.1 agrees.2 none)
empty_weighs name state agrees none = refl

pub no_values : {owed : Owed} {keeper : Keeper} → IsTied keeper → OwesOnly owed keeper → HoldsNoOther owed.way keeper
    → values_in keeper ≡ 0
no_values {owed} {keeper} tied only none =
    none_filled (map_seen keeper.writer).states (λ key near. elim (cases_eq key owed.way) [
      | inl same ↦
          owed_weighs key (name_at keeper key) (state_at keeper key) owed (ap (owed_at keeper) same ∙ only.stands)
      | inr other ↦ empty_weighs (name_at keeper key) (state_at keeper key) (tied.agrees key) (none key other)
    ])

-- another's value is there for an eviction
pub not_nothing : {taken way id : ℕ} {old new : Keeper} → IsTied old → IsTied new → OwesNoneBut taken old
    → OwesSame old new → IsOther taken way id old → EvictsId id old new evict.Nothing → ⊥
not_nothing {way = way} tied later none owes other (inl absent) = found_none tied absent.0 way other.1
not_nothing {way = way} {old = old} tied later none owes other (inr (found, finds, evicts)) =
    let same : found ≡ way = found_there way tied finds other.2 other.1 in
    passed_over tied later
    (owes found ∙ subst (λ (w : ℕ). owed_at old w ≡ None) (sym same) (none way other.0)) other.2 finds evicts

-- A REFUSAL
-- it changes no name
refused_names : {id : ℕ} {old new : Keeper} {why : Refused} → IsTied old → RefusesId id old new why → (way : ℕ)
    → name_at new way ≡ name_at old way
refused_names {id} {old} {new} {why} tied refuses way =
    let looks = refusal_looks id old.clerk new.clerk why refuses.refused in
    clerk_looks old.clerk looks.0 old.clerk.number new.clerk way tied.names.1 looks.1

pub refused_absent : {id : ℕ} {old new : Keeper} {why : Refused} → IsTied old → RefusesId id old new why
    → IsAbsent old.clerk.seen id → IsAbsent new.clerk.seen id
refused_absent tied refuses absent way named = absent way (sym (refused_names tied refuses way) ∙ named)

-- the name of the way at an id's place
named_same : (id place name : ℕ) (old new : Token) → new.directory ≡ old.directory
    → name_of old.seen (way_for old id place) ≡ name → name_of old.seen (way_for new id place) ≡ name
named_same id place name old new same named =
    ap (λ (d : Opened). name_of old.seen (way_at d.plan id place)) same ∙ named

-- where there is room the directory isn't full
pub not_full : {id : ℕ} {old new : Keeper} → IsTied old → (IsFull id old.clerk → ⊥) → RefusesId id old new refused.Full
    → ⊥
not_full {id} {old} {new} tied free refuses =
    let looks = refusal_looks id old.clerk new.clerk refused.Full refuses.refused in
    free (λ place near none. refuses.refused.1 place near
    (refused_names tied refuses (way_for new.clerk id place)
    ∙ named_same id place 0 old.clerk new.clerk looks.1.directory none))

-- THE ONE UPQUERY
pub owes_only : {id : ℕ} {old new : Keeper} {owed : Owed} → OwesNone old → AdmitsId id old new owed → OwesOnly owed new
owes_only none admits =
    record { stands = admits.opens.after; others = λ way other. admits.opens.others way other ∙ none way }

pub closes_only : {owed : Owed} {old new : Keeper} → OwesOnly owed old → ClosesOne owed old new → OwesNone new
closes_only {owed} {old} {new} only closes way = elim (cases_eq way owed.way) [
  | inl same ↦ ap (owed_at new) same ∙ closes.after
  | inr other ↦ closes.others way other ∙ only.others way other
]

-- A CHOICE
module _ (id : ℕ) (old : Keeper) (new : Token) (named : Option ℕ) (tied : IsTied old)
    (choice : ChoosesId id old.clerk new named)
  where
    -- it changes no name
    chosen_names : (k : ℕ) → name_of new.seen k ≡ name_at old k
    chosen_names k =
        let leaves = chooses_leave (group_for old.clerk id) choice.way old.clerk choice.mid choice.chooses in
        clerk_looks choice.mid 1 choice.mid.number new k (leaves.1.number ∙ tied.names.1) (look_of named choice.names)
        ∙ leaves_names old.clerk choice.mid k tied.names.1 leaves
      where
        look_of : (found : Option ℕ) → FindsId choice.way choice.mid new found
            → Grows (looks 1 choice.mid.number) choice.mid new
        look_of (Some id) finds = finds.0
        look_of None finds = finds.0

    -- the chosen way is the one at a place of the id's, which has the name that the choice tells
    chosen_way : (name : ℕ) → name_of new.seen choice.way ≡ name
        → (place : ℕ) × (place < places) × (name_at old (way_for old.clerk id place) ≡ name)
    chosen_way name has =
        let place = choice.chooses.place in
        let small : place < 8 = omega (arith, choice.chooses.chooses.place_is) in (
          place,
          omega (arith, small),
          ap (name_at old) (way_at_first old.clerk.directory.plan id place small ∙ sym choice.chooses.way_is)
              ∙ sym (chosen_names choice.way) ∙ has,
        )

-- it names an id where each way is taken
pub chooses_one : (id : ℕ) (old : Keeper) (new : Token) → IsTied old → IsFull id old.clerk
    → ChoosesId id old.clerk new None → ⊥
chooses_one id old new tied full choice =
    let at = chosen_way id old new None tied choice 0 choice.names.1 in full at.0 at.1 at.2

-- ROOM
module _ {id victim : ℕ} {old mid new : Keeper} (tied : IsTied old)
    (choice : ChoosesId id old.clerk mid.clerk (Some victim)) (unnames : Unnames victim mid new)
  where
    -- the way that was chosen has no name any more
    pub room_is_free : IsFull id new.clerk → ⊥
    room_is_free full =
        let leaves = chooses_leave (group_for old.clerk id) choice.way old.clerk choice.mid choice.chooses in
        let directory = unnames.directory ∙ choice.names.0.directory ∙ leaves.1.directory in
        let at = chosen_way id old mid.clerk (Some victim) tied choice victim choice.names.1.has in
        full at.0 at.1
        (unnames.gone (way_for new.clerk id at.0)
        (chosen_names id old mid.clerk (Some victim) tied choice (way_for new.clerk id at.0)
        ∙ named_same id at.0 victim old.clerk new.clerk directory at.2))

    pub absent_still : 0 < id → IsAbsent old.clerk.seen id → IsAbsent new.clerk.seen id
    absent_still real absent k named =
        absent k
        (sym (chosen_names id old mid.clerk (Some victim) tied choice k) ∙ unnames.before k id real named)

-- WHAT WAS PUT
-- the upquery is of the id
pub admitted_id : (id : ℕ) (old new : Keeper) (sent : Sent) → AdmitsOrNot id old new (Some sent) → sent.owed.id ≡ id
admitted_id id old new sent (inl admits) = admits.0.id_is
admitted_id id old new sent (inr first) = first.admits.0.id_is

module _ {Room : Type 0} (shows : Room → List Row → Type 0) where
  -- A REPLACEMENT
  -- an id's set is replaced where there is a slot
  pub not_refused : (id capacity : ℕ) (row : Row) (old : Keeper) (before : Room) (new : Keeper) (after : Room)
      (why : ReplaceFault) → NoSlotIsRare → HasSlots capacity old.writer.table → IsWithin capacity old → IsTied old
      → IsTied new → OwesNone new → 0 < id → Replaces shows id row old before new after (Err (fault.Refused why)) → ⊥
  not_refused id capacity row old before new after replace.Dropped law slots within tied later none real
      (way, finds, does) =
      not_passed_over new later (called (writes tied) does.0.0) refl real finds.1.has (none way)
  not_refused id capacity row old before new after (replace.NoSlot counts) law slots within tied later none real
      (way, finds, does) =
      has_slot 1 _ counts old new tied law (omega (arith, slots, within)) does.0

  -- A PLACE
  module _ {capacity bound weight id : ℕ} {row : Row} {old : Stock} {asker : IdCaller} {before : Room} {new : Stock}
      {asker' : IdCaller} {after : Room} {given : Reclaimed}
    where
      pub holds_replaced : TakesPlace shows bound weight id row old asker before new asker' after given
          → Holds shows capacity bound weight id row old asker before new asker' after given
      holds_replaced takes =
          let does = takes.replaces in
          let gives = replace_gives shows does.replaces.2 in
          let quiet = quiet_then (stays_quiet takes.finds.1) (lightens_quiet does.lightens) in
          record {
            how = inl takes;
            has = does.has;
            out = gives.out;
            moves = moves_then shows (quiet.moves shows) gives.moves;
            gives = gives.shown;
          }

      pub holds_filled : GetsPlace shows capacity bound weight id row old asker before new asker' after given
          → Holds shows capacity bound weight id row old asker before new asker' after given
      holds_filled gets =
          let does = gets.fills in
          let gives = fill_gives shows does.fills.fills in
          let quiet =
          quiet_then (stays_quiet gets.absent.1)
          (quiet_then (admits_quiet id gets.mid does.late.keeper (Some does.sent) does.admits)
          (keeps_quiet does.keeps)) in
          record {
            how = inr gets;
            has = does.has;
            out = gives.out;
            moves = moves_then shows (quiet.moves shows)
                (subst (λ (i : ℕ). Moves shows does.roomy.keeper.writer ((tag_of i ∷ row ∷ []) ∷ []) gives.out
                new.keeper.writer) (admitted_id id gets.mid does.late.keeper does.sent does.admits) gives.moves);
            gives = gives.shown;
          }

  -- an id that had no place was given one, or not
  pub enters_holds : (capacity bound weight id : ℕ) (row : Row) (old : Stock) (mid : Keeper) (asker : IdCaller)
      (before : Room) (new : Stock) (asker' : IdCaller) (after : Room) (answer : Landed)
      → LooksUp id old.keeper mid None
      → Enters shows capacity bound weight id row (record old { keeper = mid }) asker before new asker' after answer
      → HoldsOrNot shows capacity bound weight id row old asker before new asker' after answer
  enters_holds capacity bound weight id row old mid asker before new asker' after (landed.Held given) absent enters =
      holds_filled (record { mid = mid; absent = absent; fills = enters })
  enters_holds capacity bound weight id row old mid asker before new asker' after landed.Own absent enters =
      (record { mid = mid; absent = absent; lacks = enters.0 }, enters.1)
