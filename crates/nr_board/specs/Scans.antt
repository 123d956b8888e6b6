-- A scan: the writer loads the readers' words in their order, and hears which retired slots they don't say.
use Rattle.std.specs.Prelude.{◌≡◌, ℕ, zero, suc, ◌+◌, ◌<◌, ◌==◌, ◌&&◌, if◌then◌else◌, nat_lt, not, slice_index, List}
use Rattle.std.specs.Prelude.{[], ◌∷◌, ◌++◌}
use Rattle.nr_core.specs.Roles.{retirements}
use Rattle.nr_core.specs.declared.roles.Desk.{Desk}
use Rattle.nr_core.specs.declared.roles.Role.TheVariants.{Writer}
use Rattle.nr_core.specs.Marks.{with_loads}
use Rattle.nr_board.specs.Announcing.{says_at}
use Rattle.nr_board.specs.Plays.{Then}
use Rattle.nr_board.specs.Views.{View}
use Rattle.nr_board.specs.WordLoads.{word_load}

-- of how many readers a slot was heard before that one, by a scan, which hears all slots anew
abbrev pub heard_before : ℕ → ℕ → ℕ
heard_before own count = (if own == 0 then 0 else count)

-- of a retired slot of which the readers before this one were heard, this one is heard too, unless its word says the
-- slot
abbrev pub heard_now : Desk → ℕ → ℕ → ℕ → ℕ → ℕ
heard_now desk own found slot count =
    (if nat_lt 0 (retirements slot desk.retired)
    && ((heard_before own count == own) && not (found == suc slot)) then suc own else heard_before own count)

-- so of that many slots from that one on
abbrev pub heard_from : Desk → ℕ → ℕ → List ℕ → ℕ → ℕ → List ℕ
heard_from desk own found heard slot zero = []
heard_from desk own found heard slot (suc more) =
    heard_now desk own found slot (slice_index heard slot) ∷ heard_from desk own found heard (suc slot) more

-- a load of a reader's word
abbrev pub ScansTo : Desk → ℕ → ℕ → View → View → Type 0
ScansTo desk own found old new =
    new
    ≡ record old {
      steps = old.steps + 1;
      marks = with_loads old.marks (old.marks.loads ++ word_load own found ∷ []);
      heard = heard_from desk own found old.heard 0 old.shape.slots;
    }

abbrev pub has_scanned : Then
has_scanned step (before, _) found (after, _) =
    (desk : Desk) (own : ℕ) → before.role ≡ Writer desk → own < before.announcers → step.word ≡ says_at before.shape own
    → ScansTo desk own found before after
