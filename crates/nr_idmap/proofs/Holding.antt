-- What a find that holds comes to, by its look-up and by what the way had then.
use Rattle.std.proofs.Common.{◌≡◌, ◌≢◌, ℕ, refl, Option, Some}
use Rattle.nr_ids.specs.Answers.{LooksUp}
use Rattle.nr_ids.specs.Marks.{SetsMark}
use Rattle.nr_ids.specs.Tokens.{Token}
use Rattle.nr_idmap.specs.declared.finds.FoundId.{FoundId}
use Rattle.nr_idmap.specs.declared.finds.FoundId.TheVariants as found
use Rattle.nr_idmap.specs.declared.finds.NamedWay.{NamedWay}
use Rattle.nr_idmap.specs.IdFinds.{LooksForWay}
use Rattle.nr_idmap.specs.IdHands.{HoldsByName, HoldsByNameAlone, HoldsInWay, IdHanded}

module _ (id : ℕ) (loaded : IdHanded) (looked : Token) (held : Option ℕ) where
  -- what holds then, which had loaded the line and looked the name up
  abbrev Looked : IdHanded
  Looked = record { hand = loaded.hand; ids = looked; id = held }

  pub held_alone : (way : ℕ) (new : IdHanded) (told : FoundId) → LooksUp id loaded.ids looked (Some way)
      → HoldsInWay way id Looked new told → new.ids ≡ looked → HoldsByNameAlone id loaded new told
  held_alone way new found.Rows looks holds same = (way, rw same looks, holds)
  held_alone way new found.Pending looks holds same = (way, rw same looks, holds)
  held_alone way new found.Moved looks holds same = (way, rw same looks, holds)
  held_alone way new found.Absent looks holds same = absurd holds

  module _ (at : NamedWay) (looks : LooksForWay id loaded.ids looked (Some at)) where
    pub held_and_marked : (kept : IdHanded) (ids : Token) → HoldsInWay at.way id Looked kept found.Rows
        → kept.ids ≡ looked → SetsMark at.way at.is_marked kept.ids ids
        → HoldsByName id loaded (record kept { ids = ids }) found.Rows
    held_and_marked kept ids holds same marks = (at, looked, looks, holds, rw same at marks)

    pub not_held : (new : IdHanded) (told : FoundId) → told ≢ found.Rows → HoldsInWay at.way id Looked new told
        → new.ids ≡ looked → HoldsByName id loaded new told
    not_held new found.Rows other holds same = absurd (other refl)
    not_held new found.Pending other holds same = (at, rw same looks, holds)
    not_held new found.Moved other holds same = (at, rw same looks, holds)
    not_held new found.Absent other holds same = absurd holds
