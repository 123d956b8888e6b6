-- What calls of the writer by id leave tied, and the contracts' words for it, of the writer as it was passed.
use Rattle.std.proofs.Common.{◌≡◌, ◌≢◌, ℕ, true, false, not, subst, Option, Some, None, arith, refl, ◌∙◌, Bool, List}
use Rattle.std.proofs.Common.{◌∷◌, ◌<◌, inl}
use Rattle.std.specs.Option.{option_eq}
use Rattle.std.proofs.lemmas.Bool.Decides.{nat_tests}
use lib.Dec.{eqb}
use Rattle.nr_ids.specs.Answers.{FindsWay, FindsId}
use Rattle.nr_ids.specs.Tokens.{Token, Known}
use Rattle.nr_board.specs.Callers.{Caller, Gains}
use Rattle.nr_ids.proofs.Calls.{LeavesNames, looks_leave}
use Rattle.nr_idmap.specs.IdChoices.{StaysButClerk}
use Rattle.nr_idmap.specs.Keepers.{Keeper, keeper_of, IsTied, Agrees, Owed, owed_at}
use Rattle.nr_idmap.proofs.Ties.{Leaves, clerk_tied, rested_of, stays_tied, mid_agrees, near_of, searched}
use Rattle.nr_board.specs.Meetings.{Learns}
use Rattle.nr_ids.specs.Tokens as ids
use Rattle.nr_idmap.proofs.Asking.{learnt}
use Rattle.nr_model.specs.declared.rows.Row.{Row}
use Rattle.nr_model.specs.declared.calls.Call.TheVariants.{Find}
use Rattle.nr_model.specs.declared.calls.Reply.{Reply}
use Rattle.nr_model.specs.declared.calls.Reply.TheVariants as reply
use Rattle.nr_model.specs.declared.states.KeyState.{KeyState}
use Rattle.nr_model.specs.declared.states.KeyState.TheVariants.{Rows}
use Rattle.nr_model.specs.Maps.{find_reply, state_of}
use Rattle.nr_ids.specs.Events.{name_of}
use Rattle.nr_idmap.specs.Tags.{CopiesBehind, tag_of}
use Rattle.nr_idmap.proofs.Entries.{went}
use Rattle.nr_idmap.proofs.WayCalls.{has_name, untouched, closed_by_name}
use Rattle.nr_idmap.specs.IdWrites.{WasClosed}

-- WHAT A COMPARISON OF OPTIONS TELLS
found_is : (found : Option ℕ) (way : ℕ) → false ≡ not (option_eq eqb found (Some way)) → found ≡ Some way
found_is None way e = absurd (cc (e))
found_is (Some other) way e = grind (arith, nat_tests)

-- so a search that found the way wanted is one that found it
pub found_way : {old new : Token} (id : ℕ) (found : Option ℕ) (way : ℕ) → false ≡ not (option_eq eqb found (Some way))
    → FindsWay id old new found → FindsWay id old new (Some way)
found_way {old} {new} id found way e finds = subst (FindsWay id old new) (found_is found way e) finds

pub found_not : (found : Option ℕ) (way : ℕ) → true ≡ not (option_eq eqb found (Some way)) → found ≢ Some way
found_not found way e is = let told = rw is at e in grind (arith, nat_tests)

-- STEPS OF THE CLERK THAT CHANGE NO NAME
-- after others that leave them
pub then_left : {w a : Caller} (c : Token) {mid c' : Token} → Leaves (keeper_of w a c) (keeper_of w a mid)
    → LeavesNames mid c' → Leaves (keeper_of w a c) (keeper_of w a c')
then_left c first more = let on = clerk_tied first.0 more in (on.0, λ way. on.1 way ∙ first.1 way)

pub names_leave : (way : ℕ) (old new : Token) (named : Option ℕ) → FindsId way old new named → LeavesNames old new
names_leave way old new (Some id) finds = looks_leave 1 old new finds.0
names_leave way old new None finds = looks_leave 1 old new finds.0

-- as the contracts say it, of the writer as it was passed
pub stays_so : {w a : Caller} {c c' : Token} {k : Keeper} → keeper_of w a c ≡ k
    → Leaves (keeper_of w a c) (keeper_of w a c') → StaysButClerk k (keeper_of w a c')
stays_so is left = rw (← is) (record { writer = refl; asker = refl; owes = left.1 })

-- A NOTE THAT THE WRITER HEARS
-- a step that tells nothing
stepped : {w a : Caller} {c : Token} → IsTied (keeper_of w a c) → IsTied (keeper_of w a (ids.with_step c))
stepped tied = search

pub heard_tied : {steps : ℕ} {w a w' : Caller} {c c' : Token} {note : Known} → IsTied (keeper_of w a c)
    → Learns steps w w' → ids.Hears note c c' → Leaves (keeper_of w a c) (keeper_of w' a c')
heard_tied {c = c} {c'} tied learns hears = stays_tied (stepped tied) (learnt (rested_of tied) learns)
    (looks_leave 1 (ids.with_step c) c' hears.grows)

-- THE WRITER'S OWN LOOK AT THE ID'S WAY
-- a set that is found begins with the name's tag
found_tagged : (name : ℕ) (state : KeyState) (set : List Row) → Agrees name state → reply.Rows set ≡ find_reply state →
    (others : List Row) × (set ≡ tag_of name ∷ others)
found_tagged name (Rows n rows) set agrees found = let same : set ≡ rows = cc (found) in (agrees.1, same ∙ agrees.2)
found_tagged name state set agrees found = absurd (cc (found))

module _ {w a w' : Caller} {c c' : Token} (tied : IsTied (keeper_of w a c)) (id way : ℕ)
    (finds : FindsWay id c c' (Some way)) where
  pub look_left : {steps : ℕ} {answer : Reply} → Gains steps (Find way) w w' answer
      → Leaves (keeper_of w a c) (keeper_of w' a c')
  look_left gains =
      untouched tied id way finds (went (Find way) (rested_of tied) gains (near_of tied finds)) _ refl

  pub look_tagged : {steps : ℕ} {set : List Row} → Gains steps (Find way) w w' (reply.Rows set)
      → (rows : List Row) × (set ≡ tag_of id ∷ rows)
  look_tagged {set = set} gains = let go = went (Find way) (rested_of tied) gains (near_of tied finds) in
      rw (has_name tied id way finds)
      at (found_tagged (name_of c.seen way) (state_of go.mid way) set (mid_agrees tied go way) go.replied)

-- so it was copied
pub copied_rows : {Room : Type 0} (shows : Room → List Row → Type 0) (id : ℕ) (set : List Row) (before after : Room)
    → (rows : List Row) × (set ≡ tag_of id ∷ rows) → (copied : Bool) → CopiesBehind shows id set before after copied
    → CopiesBehind shows id set before after true
copied_rows shows id set before after tag true copies = copies
copied_rows shows id set before after tag false copies = absurd (copies.0 tag.0 tag.1)

-- A CALL THAT ENDED WHERE THE CLERK HAD SEARCHED
module _ {w a : Caller} {c c' : Token} {k : Keeper} (is : keeper_of w a c ≡ k) (tied : IsTied (keeper_of w a c))
    (owed : Owed) (real : 0 < owed.id) (found : Option ℕ) (finds : FindsWay owed.id c c' found)
    (refused : Caller → Caller → Type 0) where
  pub closed_so : owed_at (keeper_of w a c) owed.way ≢ Some owed → WasClosed refused owed k (keeper_of w a c')
  closed_so closed = rw (← is) (record {
    closed = closed;
    found = found;
    finds = finds;
    how = inl refl;
    owes = (searched tied owed.id found finds).1;
  })

  pub closed_unfound : found ≢ Some owed.way → WasClosed refused owed k (keeper_of w a c')
  closed_unfound other = closed_so (closed_by_name c' tied owed real found finds other)
