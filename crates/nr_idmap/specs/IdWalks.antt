-- A hand that finds ids one after another in the ways that were looked up: it goes on from set to set.
use Rattle.std.specs.Prelude.{◌≡◌, ℕ, ◌<◌, List, Option, Some, None, IfSome}
use Rattle.nr_model.specs.declared.rows.Row.{Row}
use Rattle.nr_map.specs.FirstRows.{FindsTaggedFirst}
use Rattle.nr_map.specs.Tagged.{FindsTaggedKept}
use Rattle.nr_map.specs.declared.tagged.Tagged.{Tagged}
use Rattle.nr_map.specs.declared.tagged.Tagged.TheVariants as tagged
use Rattle.nr_idmap.specs.declared.finds.FoundId.{FoundId}
use Rattle.nr_idmap.specs.declared.finds.FoundId.TheVariants as found
use Rattle.nr_idmap.specs.declared.finds.NamedWay.{NamedWay}
use Rattle.nr_idmap.specs.declared.hands.Holding.{Holding}
use Rattle.nr_idmap.specs.IdFinds.{MarksTold, answer_told}
use Rattle.nr_idmap.specs.IdHands.{IdHanded}
use Rattle.nr_idmap.specs.Tags.{tag_of}

-- it holds the set that it found for no id, and nothing at a hole
abbrev pub id_kept : Tagged → Option ℕ
id_kept tagged.Hole = None
id_kept _ = Some 0

abbrev pub held_kept : ℕ → Tagged → Option Holding
held_kept way tagged.Hole = None
held_kept way _ = Some (record { id = 0; way = way })

-- the map's hand finds the id's tag in the way; rows mark it
pub record WalksTo (finds : Tagged → Type 0) (at : NamedWay) (old new : IdHanded) (told : FoundId) : Type 0 where
  pub answer : Tagged
  pub finds_so : finds answer
  pub told_is : told ≡ answer_told answer
  pub marks : MarksTold answer at old.ids new.ids
  pub id_is : new.id ≡ id_kept answer

-- of an id without a way nothing is found, and what is held stays held
abbrev pub FindsOn : {Room : Type 0} → (Room → List Row → Type 0) → ℕ → Option NamedWay → IdHanded → Room → IdHanded
    → Room → FoundId → Type 0
FindsOn shows id None old before new room told = (told ≡ found.Absent) × (new ≡ old) × (room ≡ before)
FindsOn shows id (Some at) old before new room told =
    WalksTo (λ answer. FindsTaggedKept shows (tag_of id) at.way old.hand before new.hand room answer) at old new told

-- the same into cells, of which as many rows are put there as they take, and which tells how many there are
abbrev pub FindsFirstOn : ℕ → Option NamedWay → IdHanded → List Row → IdHanded → List Row → ℕ → FoundId → Type 0
FindsFirstOn id None old before new cells count told =
    (told ≡ found.Absent) × (new ≡ old) × (cells ≡ before) × (count ≡ 0)
FindsFirstOn id (Some at) old before new cells count told =
    WalksTo (λ answer. FindsTaggedFirst (tag_of id) at.way old.hand before new.hand cells count answer) at old new told

-- the map has a key for the way
abbrev pub IsNear : ℕ → Option NamedWay → Type 0
IsNear keys at = IfSome at (λ named. named.way < keys)
