-- What each kind of step tells its token.
use Rattle.std.specs.Prelude.{◌≡◌, ◌≢◌, ℕ, ◌<◌, List, [], ◌∷◌, ◌++◌}
use mathlib.Core.Option.{Option, none, some}
use Rattle.atomic_table.specs.Table.{Me, Step}
use Rattle.nr_ids.specs.Groups.{group_of, group_of_way}
use Rattle.nr_ids.specs.Events.{Event, own, named, unnamed, cleared, claimed, looked, touched, hinted, loaded, marked}
use Rattle.nr_ids.specs.Events.{turned, hints_of, mark_bit, marks_of, name_of, turn_of, IsLegal}
use Rattle.nr_ids.specs.Rule.{View, BeginsWith, counted, hints_place, marks_place, turn_place}

abbrev pub Then : Type 1
Then = Step ℕ → Me ℕ View → ℕ → Me ℕ View → Type 0

-- one step of the token: it knows what others did since its last one, and then its own event
pub record Goes (event : Event) (view next : View) : Type 0 where
  pub between : List Event
  pub next_is : next ≡ record (counted view) { seen = event ∷ between ++ view.seen }
  pub quiet : own view.number between ≡ []
  pub legal : IsLegal view.plan next.seen
  -- this begins with all that a note told it
  pub heard : BeginsWith next.seen view.told

abbrev pub has_looked_at_name : Then
has_looked_at_name step (before, _) found (after, _) =
    Goes (looked before.number) before after × (found ≡ name_of after.seen step.word)

abbrev pub has_looked_at_turn : Then
has_looked_at_turn step (before, _) found (after, _) = Goes (looked before.number) before after
    × ((group : ℕ) → step.word ≡ turn_place before.plan group → found ≡ turn_of before.plan after.seen group)

abbrev pub has_looked_at_hints : Then
has_looked_at_hints step (before, _) found (after, _) = Goes (looked before.number) before after
    × ((group : ℕ) → step.word ≡ hints_place before.plan group → found ≡ hints_of after.seen group)

abbrev pub id_said : Option ℕ → ℕ
id_said none = 0
id_said (some id) = id

-- a claim, or a look where the turn was another
abbrev pub has_claimed : Then
has_claimed step (before, _) found (after, _) =
    (found ≡ step.first → Goes (claimed before.number (id_said step.said)) before after)
    × (found ≢ step.first
    → Goes (looked before.number) before after
    × (found ≡ turn_of before.plan after.seen (group_of before.plan (id_said step.said))))

abbrev pub has_named : Then
has_named step (before, _) found (after, _) = Goes (named step.word step.first) before after

abbrev pub has_unnamed : Then
has_unnamed step (before, _) found (after, _) = Goes (unnamed step.word) before after

abbrev pub has_cleared : Then
has_cleared step (before, _) found (after, _) =
    (group : ℕ) → step.word ≡ turn_place before.plan group → Goes (cleared group) before after

-- a load that tells no name and no turn; of a group's marks it tells those
abbrev pub has_loaded : Then
has_loaded step (before, _) found (after, _) =
    Goes (touched before.number (loaded step.word)) before after
    × ((group : ℕ) → group < before.plan.groups → step.word ≡ marks_place before.plan group
    → found ≡ marks_of after.seen group)

abbrev pub has_marked : Then
has_marked step (before, _) found (after, _) =
    (way : ℕ) → step.word ≡ marks_place before.plan (group_of_way way) → step.first ≡ mark_bit way
    → Goes (touched before.number (marked way)) before after

abbrev pub has_turned : Then
has_turned step (before, _) found (after, _) =
    (group : ℕ) → step.word ≡ marks_place before.plan group
    → Goes (touched before.number (turned group step.first)) before after

abbrev pub has_hinted : Then
has_hinted step (before, _) found (after, _) =
    (group : ℕ) → step.word ≡ hints_place before.plan group
    → Goes (touched before.number (hinted group step.first)) before after
