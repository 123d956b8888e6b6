-- Look-ups of many ids, with loads of the words that finds of them will need.
use Rattle.std.specs.Prelude.{◌≡◌, ℕ, List, [], ◌∷◌, Option, Some, None, map}
use Rattle.nr_map.specs.LoadsAhead.{LoadsAhead}
use Rattle.nr_ids.specs.Marks.{LoadsGroups}
use Rattle.nr_ids.specs.Tokens.{Token}
use Rattle.nr_idmap.specs.declared.finds.NamedWay.{NamedWay}
use Rattle.nr_idmap.specs.IdFinds.{LooksForWay}
use Rattle.nr_idmap.specs.IdHands.{IdHanded}

-- each of these ids was looked up in turn, with the mark of its way; and these are their ways
abbrev pub LooksUpEach : List ℕ → List (Option NamedWay) → Token → Token → Type 0
LooksUpEach [] [] old new = new ≡ old
LooksUpEach (id ∷ ids) (at ∷ ways) old new =
    (next : Token) × LooksForWay id old next at × LooksUpEach ids ways next new
LooksUpEach _ _ old new = ⊥

-- the key of a way, and 0 in place of none
abbrev pub key_named : Option NamedWay → ℕ
key_named None = 0
key_named (Some at) = at.way

abbrev pub keys_named : List (Option NamedWay) → List ℕ
keys_named ways = map key_named ways

-- the hints of each one's group were loaded, with its first name; all were looked up; and words were loaded that finds
-- in their ways need; what is held stays held
pub record LooksAhead (ids : List ℕ) (ways : List (Option NamedWay)) (old new : IdHanded) : Type 0 where
  pub ahead : Token
  pub loads : LoadsGroups ids old.ids ahead
  pub looks_up : LooksUpEach ids ways ahead new.ids
  pub caller : LoadsAhead (keys_named ways) old.hand.reader new.hand.reader
  pub key_is : new.hand.key ≡ old.hand.key
  pub rows : new.hand.rows ≡ old.hand.rows
  pub id_is : new.id ≡ old.id
