-- Marks, which contracts alone see beside a caller's role: a reader's count of acts and the put number of its hold; the
-- writer's names, put numbers, sets, reaped slots, polls and loads of readers' words.
use Rattle.std.specs.Prelude.{ℕ, suc, Bool, true, false, List, [], ◌∷◌, ◌++◌, slice_index_or, slice_set, Option, Some}
use Rattle.std.specs.Prelude.{None, replicate}
use Rattle.nr_model.specs.declared.rows.Row.{Row}
use Rattle.nr_core.specs.declared.shape.Shape.{Shape}
use Rattle.nr_core.specs.declared.roles.Role.{Role}
use Rattle.nr_core.specs.declared.roles.Role.TheVariants.{Writer, Reader, Note}
use Rattle.nr_core.specs.declared.roles.Grip.{Grip}
use Rattle.nr_core.specs.declared.roles.Grip.TheVariants.{Nothing, On}

-- a reader as it was once: how many arrives and departs it had made, the slot that it held, and the put number of the
-- set there
pub record Past : Type 0 where
  pub reader : ℕ
  pub count : ℕ
  pub slot : Option ℕ
  pub put : ℕ

-- a load that is told apart: of that reader's own word, and what it found; a poll of that retired slot, and whether
-- nobody held it; or a reader's look at that key, and what it named: 0, or one more than a slot
pub data LoggedLoad : Type 0 where
  OfWord : (reader word : ℕ) → LoggedLoad
  OfSlot : (slot : ℕ) (free : Bool) → LoggedLoad
  OfKey : (key named : ℕ) → LoggedLoad

-- a reader has the first two and its loads, the writer the others
pub record Marks : Type 0 where
  -- its arrives and departs, and the put number of the set that it holds
  pub acts : ℕ
  pub put : ℕ
  -- for each key 0, or one more than the slot that it names
  pub names : List ℕ
  -- for each slot the put number of the set that was put into it last
  pub puts : List ℕ
  -- and that set; a slot that was never taken has the empty one
  pub sets : List (List Row)
  -- whether that set was reaped: given out before its slot is taken again
  pub reaped : List Bool
  -- the polls that found their slots held, of the last call, unless that put a set, and of the reaps since
  pub polls : List Past
  -- its polls of retired slots and its loads of readers' own words, in their order
  pub loads : List LoggedLoad

-- the slot that a reader holds
abbrev pub gripped : Grip → Option ℕ
gripped Nothing = None
gripped (On slot rows sized) = Some slot

-- how a reader is
abbrev pub past : ℕ → Grip → Marks → Past
past reader grip marks = record { reader = reader; count = marks.acts; slot = gripped grip; put = marks.put }

-- the writer's marks at the opening: no key names a slot; who has no marks yet
abbrev pub opening_marks : Shape → Marks
opening_marks shape =
    record {
      acts = 0;
      put = 0;
      names = replicate shape.keys 0;
      puts = replicate shape.slots 0;
      sets = replicate shape.slots [];
      reaped = replicate shape.slots false;
      polls = [];
      loads = [];
    }

abbrev pub no_marks : Marks
no_marks = record { acts = 0; put = 0; names = []; puts = []; sets = []; reaped = []; polls = []; loads = [] }

-- what a note tells of readers: a reader's of itself, the writer's all that it knows
abbrev pub told_by : Role → Marks → List Past → List Past
told_by (Writer desk) marks pasts = pasts
told_by (Reader reader grip) marks pasts = past reader grip marks ∷ []
told_by Note marks pasts = []

-- one act more, after which the hold has that put number
abbrev pub acted : Marks → ℕ → Marks
acted marks put = record marks { acts = suc marks.acts; put = put }

abbrev pub with_polls : Marks → List Past → Marks
with_polls marks polls = record marks { polls = polls }

abbrev pub with_loads : Marks → List LoggedLoad → Marks
with_loads marks loads = record marks { loads = loads }

-- after a search, which notes readers too
abbrev pub with_scan : Marks → List Past → List LoggedLoad → Marks
with_scan marks polls loads = record marks { polls = polls; loads = loads }

-- after a poll of that slot
abbrev pub with_poll : Marks → ℕ → Bool → Marks
with_poll marks slot free = with_loads marks (marks.loads ++ OfSlot slot free ∷ [])

-- after a look at that key
abbrev pub with_look : Marks → ℕ → ℕ → Marks
with_look marks key named = with_loads marks (marks.loads ++ OfKey key named ∷ [])

-- the set that was put into the slot last
abbrev pub set_in : Marks → ℕ → List Row
set_in marks slot = slice_index_or marks.sets slot []

-- whether that set was reaped
abbrev pub is_reaped : Marks → ℕ → Bool
is_reaped marks slot = slice_index_or marks.reaped slot false

abbrev pub with_reaped : Marks → ℕ → Marks
with_reaped marks slot = record marks { reaped = slice_set marks.reaped slot true }

-- the key names the slot, into which that set was put, with that number; what the call's polls noted is of no use then
abbrev pub with_name : Marks → ℕ → ℕ → ℕ → List Row → Marks
with_name marks key slot number rows =
    record marks {
      names = slice_set marks.names key (suc slot);
      puts = slice_set marks.puts slot number;
      sets = slice_set marks.sets slot rows;
      reaped = slice_set marks.reaped slot false;
      polls = [];
    }

abbrev pub without_name : Marks → ℕ → Marks
without_name marks key = record marks { names = slice_set marks.names key 0 }
