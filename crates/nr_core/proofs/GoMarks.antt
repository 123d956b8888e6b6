-- The writer's next step from its place, whichever kind it is, and its marks.
use Rattle.std.proofs.Common.{Bool, List, cond, false, get_or, length, refl, true, ℕ, ◌*◌, ◌+◌, ◌≡◌}
use Rattle.std.specs.Prelude.{None, nat_le}
use Rattle.nr_words.specs.SetWords.{encode}
use Rattle.nr_core.specs.Operations.{going}
use Rattle.nr_core.specs.declared.operation.Operation.{Operation}
use Rattle.nr_core.specs.declared.operation.Operation.TheVariants.{Store, Swap}
use Rattle.nr_core.specs.Refusals.{if_not_busy}
use Rattle.nr_words.specs.KeyWords.{naming}
use Rattle.nr_core.specs.Slots.{content}
use Rattle.nr_core.specs.States.{key_of}
use Rattle.nr_core.specs.Steps.{Goes}
use Rattle.nr_core.specs.Story.{call_of, ending}
use Rattle.nr_core.specs.Writer.{ended, moved_to, swapped}
use Rattle.nr_core.specs.declared.calls.Step.{Step}
use Rattle.nr_core.specs.declared.calls.Step.TheVariants.{Going}
use Rattle.nr_core.specs.declared.places.Place.{Place}
use Rattle.nr_core.specs.declared.places.Place.TheVariants.{Idle, Leaving, Putting, Reading, Searching, Withdrawing}
use Rattle.nr_core.specs.declared.roles.Desk.{Desk}
use Rattle.nr_core.specs.declared.roles.Role.{Role}
use Rattle.nr_core.specs.declared.roles.Role.TheVariants.{Writer}
use Rattle.nr_core.specs.declared.shape.Shape.{Shape}
use Rattle.nr_core.proofs.Guards.{no_some}
use Rattle.nr_core.specs.Marks.{Marks, Past}
use Rattle.nr_core.specs.Marked.{CanMark}
use Rattle.nr_core.specs.MarkSteps.{GoesMarks, PollsNext, PutsMarks, went_marks}
use Rattle.nr_core.proofs.SearchMarks.{polls_marked}
use Rattle.nr_core.proofs.SwapMarks.{publishes_marked, puts_marked, unpublishes_marked, withdraws_marked}
use Rattle.nr_core.proofs.LookMarks.{Went, reads_on_marked}
use Rattle.std.proofs.lemmas.Bool.{leb-true, leb-false}
use Rattle.nr_model.specs.declared.calls.Reply.TheVariants as reply

module _ {A : Type 0} (role : A → Role) (marks : A → Marks) (shape : Shape) (id : ℕ) (me : A) (known : List Past)
    (desk : Desk) (was : role me ≡ Writer desk) where
  goes_at : (place : Place) → desk.place ≡ place → if_not_busy place ≡ None → PollsNext place (marks me)
      → CanMark role marks shape id me known (going shape desk place) (Went shape desk place)
      (went_marks shape (marks me) known desk place)
  goes_at Idle is_at busy _ = absurd (no_some _ _ refl busy)
  goes_at (Reading call slot got) is_at busy _ =
      reads_on_marked role marks shape id me known desk call slot got is_at was
  goes_at (Leaving k) is_at busy _ = unpublishes_marked role marks shape id me known desk k is_at was
  goes_at (Withdrawing k) is_at busy _ = withdraws_marked role marks shape id me known desk k is_at was
  goes_at (Searching call rows poll) is_at busy each =
      polls_marked role marks shape id me known desk call rows poll is_at each was
  goes_at (Putting call rows slot departed at) is_at busy _ = put_on_marked (nat_le at (2 * length rows)) refl
    where
      put_on_marked : (b : Bool) → nat_le at (2 * length rows) ≡ b
          → CanMark role marks shape id me known
          (cond {A = Operation} b (Store (content shape slot at) (get_or (encode rows) at 0))
          (Swap (key_of call) (naming slot departed)))
          (λ word after entries.
          (after
          ≡ Writer
          (cond {A = Desk × Step} b (moved_to desk (Putting call rows slot departed (at + 1)), Going)
          (swapped desk word, ended reply.Done)).0)
          × (entries
          ≡ ending (call_of call)
          (cond {A = Desk × Step} b (moved_to desk (Putting call rows slot departed (at + 1)), Going)
          (swapped desk word, ended reply.Done)).1))
          (PutsMarks b (marks me) (key_of call) slot rows)
      put_on_marked true more =
          puts_marked role marks shape id me known desk call rows slot departed at is_at
          (leb-true at (2 * length rows) more) was
      put_on_marked false whole =
          publishes_marked role marks shape id me known desk call rows slot departed at is_at
          (leb-false at (2 * length rows) whole) was

  pub goes_marked : if_not_busy desk.place ≡ None → PollsNext desk.place (marks me)
      → CanMark role marks shape id me known (going shape desk desk.place) (Goes shape desk)
      (GoesMarks shape (marks me) known desk)
  goes_marked busy next = goes_at desk.place refl busy next
