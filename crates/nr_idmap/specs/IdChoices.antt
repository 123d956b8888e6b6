-- What the writer's calls say that help to choose an id to be evicted.
use Rattle.std.specs.Prelude.{◌≡◌, ℕ, Bool, true, false, Option, Some, None}
use Rattle.nr_ids.specs.Answers.{FindsId, FindsWay}
use Rattle.nr_ids.specs.Looking.{group_for}
use Rattle.nr_ids.specs.Marks.{ChoosesWay, TakesMark}
use Rattle.nr_ids.specs.Tokens.{Token}
use Rattle.nr_idmap.specs.Keepers.{Keeper, OwesSame}

-- of the writer's tokens the clerk alone made steps
pub record StaysButClerk (old new : Keeper) : Type 0 where
  pub writer : new.writer ≡ old.writer
  pub asker : new.asker ≡ old.asker
  pub owes : OwesSame old new

-- no mark was there, or no way
abbrev pub TakesNone : Option ℕ → Token → Token → Type 0
TakesNone (Some way) mid new = TakesMark way mid new false
TakesNone None mid new = new ≡ mid

-- the mark of the id's way is taken, or it wasn't there; or the id has no way
abbrev pub UsesId : ℕ → Token → Token → Bool → Type 0
UsesId id old new true = (way : ℕ) × (found : Token) × FindsWay id old found (Some way) × TakesMark way found new true
UsesId id old new false = (found : Option ℕ) × (mid : Token) × FindsWay id old mid found × TakesNone found mid new

-- a way of the id's group was chosen, and that is the id which has it, or none has
pub record ChoosesId (id : ℕ) (old new : Token) (named : Option ℕ) : Type 0 where
  pub way : ℕ
  pub mid : Token
  pub chooses : ChoosesWay (group_for old id) way old mid
  pub names : FindsId way mid new named
