-- What a call says that looks at use bits, sets, takes or chooses by them, or loads ahead.
use Rattle.std.specs.Prelude.{◌≡◌, ◌⊎◌, ◌↔◌, ℕ, zero, suc, ◌+◌, ◌*◌, ◌/◌, ◌%◌, ◌^◌, ◌<◌, ◌≤◌, Bool, true, false, List}
use Rattle.std.specs.Prelude.{[], ◌∷◌, ◌++◌, IsTrue, bit_or, bit_xor}
use Rattle.std.specs.Int.{bit_at}
use Rattle.nr_ids.specs.declared.plan.Plan.{Plan}
use Rattle.nr_ids.specs.Events.{Event, touched, loaded, marked, turned, mark_bit, marks_of, HasMark, IsMarked}
use Rattle.nr_ids.specs.Groups.{group_of, group_of_way}
use Rattle.nr_ids.specs.Rule.{hints_place, marks_place}
use Rattle.nr_ids.specs.Tokens.{Token, Grows}

-- a load of the marks of a group of that plan
abbrev pub load_of_marks : Plan → ℕ → ℕ → Event
load_of_marks plan by group = touched by (loaded (marks_place plan group))

abbrev pub LoadsMarks : ℕ → Token → Token → Type 0
LoadsMarks group old new = Grows (load_of_marks old.directory.plan old.number group ∷ []) old new

-- one look at whether a way is marked
pub record LooksAtMark (way : ℕ) (is_marked : Bool) (old new : Token) : Type 0 where
  pub looks : LoadsMarks (group_of_way way) old new
  pub tells : IsTrue is_marked ↔ IsMarked new.seen way

-- a way that is marked stays as it is; another is marked by one step
abbrev pub SetsMark : ℕ → Bool → Token → Token → Type 0
SetsMark way true old new = new ≡ old
SetsMark way false old new = Grows (touched old.number (marked way) ∷ []) old new

-- a find of rows has looked at the mark of their way, and then has set it unless it was set
abbrev pub Marks : ℕ → Token → Token → Type 0
Marks way old new =
    (looked : Token) × (is_marked : Bool) × LooksAtMark way is_marked old looked × SetsMark way is_marked looked new

-- those bits of a group's marks are turned over
abbrev pub TurnsMarks : ℕ → ℕ → Token → Token → Type 0
TurnsMarks group bits old new = Grows (touched old.number (turned group bits) ∷ []) old new

-- a mark was there and is taken, or none was
abbrev pub TakesMark : ℕ → Token → Token → Bool → Type 0
TakesMark way old new true =
    (looked : Token) × LooksAtMark way true old looked × TurnsMarks (group_of_way way) (mark_bit way) looked new
TakesMark way old new false = LooksAtMark way false old new

-- THE CHOICE
-- the place in a group at which these marks let a choice begin, and the place so many further on
abbrev pub begin_of : ℕ → ℕ
begin_of marks = marks / 256 % 8

abbrev pub place_after : ℕ → ℕ → ℕ
place_after begin further = (begin + further) % 8

-- the use bits of so many places from there on
abbrev pub bits_from : ℕ → ℕ → ℕ
bits_from begin zero = 0
bits_from begin (suc count) = bit_or (bits_from begin count) (2 ^ place_after begin count)

-- the first place from the beginning on that has no mark, or the beginning where all have one; the bits that are turned
-- over are the marks that were passed, and those that let the next choice begin behind the place
pub record ChoosesPlace (marks place bits : ℕ) : Type 0 where
  pub passed : ℕ
  pub few : passed ≤ 8
  pub place_is : place ≡ place_after (begin_of marks) passed
  pub marked : (step : ℕ) → step < passed → HasMark marks (place_after (begin_of marks) step)
  pub ends : (bit_at marks place ≡ 0) ⊎ (passed ≡ 8)
  pub bits_are :
      bits ≡ bit_or (bits_from (begin_of marks) passed)
      (256 * bit_xor (begin_of marks) (place_after place 1))

-- the marks of the group were looked at, which chose the way, and then those bits were turned over
pub record ChoosesWay (group way : ℕ) (old new : Token) : Type 0 where
  pub looked : Token
  pub looks : LoadsMarks group old looked
  pub place : ℕ
  pub bits : ℕ
  pub chooses : ChoosesPlace (marks_of looked.seen group) place bits
  pub way_is : way ≡ 8 * group + place
  pub turns : TurnsMarks group bits looked new

-- LOADS AHEAD
-- the hints of a group of that plan were loaded, and then its first name
abbrev pub loads_of_group : Plan → ℕ → ℕ → List Event
loads_of_group plan by group = touched by (loaded (8 * group)) ∷ touched by (loaded (hints_place plan group)) ∷ []

abbrev pub LoadsGroup : ℕ → Token → Token → Type 0
LoadsGroup group old new = Grows (loads_of_group old.directory.plan old.number group) old new

-- those of each id's group, in their order
abbrev pub group_loads : Plan → ℕ → List ℕ → List Event
group_loads plan by [] = []
group_loads plan by (id ∷ ids) = group_loads plan by ids ++ loads_of_group plan by (group_of plan id)

abbrev pub LoadsGroups : List ℕ → Token → Token → Type 0
LoadsGroups ids old new = Grows (group_loads old.directory.plan old.number ids) old new
