-- An opened schedule is the run of the events that its lines spell.
use Rattle.std.proofs.Common.{subst, ℕ, ◌≡◌, true, false, Bool, List, [], ◌∷◌, ◌++◌, length, Option, None, Some, Result}
use Rattle.std.proofs.Common.{Ok, Err, refl, sym, ◌∙◌, ap, arith}
use Rattle.std.specs.Prelude.{fold, nat_le, if◌then◌else◌, option_map, option_and_then, codes}
use Rattle.std.proofs.lemmas.List.Sums.{fold-append}
use borrow.Author.Tests.{leb-true}
use Rattle.std.proofs.lemmas.Bool.Decides.{nat_tests}
use Rattle.nr_model.specs.declared.rows.Row.{Row}
use Rattle.nr_model.specs.declared.rows.TheConstants.{MAX_ROWS}
use Rattle.nr_model.specs.declared.rows.TooMany.{TooMany}
use Rattle.nr_model.specs.Rows.{IsRowSet, in_order}
use Rattle.nr_model.proofs.LawLemmas.{order_keeps_rows_lem}
use Rattle.nr_core.specs.declared.calls.WriterCall.{WriterCall}
use Rattle.nr_core.specs.declared.calls.WriterCall.TheVariants as calls
use Rattle.nr_core.specs.Given.{IsGivenCall}
use Rattle.nr_core.specs.States as machine
use Rattle.nr_core.specs.Machine.{next_state}
use Rattle.nr_core.proofs.Reach.{all_keep_shape}
use Rattle.nr_core.specs.Laws.{AllGiven}
use Rattle.nr_core.specs.Slots.{bound_of}
use Rattle.nr_prog.specs.declared.schedule.command.Command.{Command}
use Rattle.nr_prog.specs.declared.schedule.command.Command.TheVariants as commands
use Rattle.nr_prog.specs.ScheduleCommands.{schedule_command, one_number, two_numbers, alone, by_writer}
use Rattle.nr_text.specs.Grammar.{within, words, number, row, delta, each, set_of, batch_of, filling, filling_as}
use Rattle.nr_text.specs.Grammar.{updating}
use Rattle.nr_text.specs.Opening.{opening_of_words, is_in_limits, shape_of_opening}
use Rattle.nr_text.specs.declared.opening.Opening.{Opening}
use Rattle.nr_core.specs.Sizes.{IsShape}
use Rattle.nr_prog.specs.ScheduleMachine.{schedule_reply, answer_schedule_command}
use Rattle.nr_prog.specs.ScheduleOpened.{number_now, opened_schedule, start_with}
use Rattle.nr_prog.specs.ScheduleRuns.{event_with, event_of, event_if, line_event, events, ScheduleRuns}
use Rattle.nr_text.specs.Dialogue.{stays_open}
use Rattle.nr_text.specs.Plain.{is_plain, or_bad}
use Rattle.nr_text.specs.Text.{after_lines}

set_steps : (state : machine.State) (call : List Row → WriterCall) (set : Option (List Row))
    → (stays_open (start_with state call set)).1 ≡ Some (fold next_state state (event_with call set))
set_steps state call None = refl
set_steps state call (Some rows) = refl

command_steps : (state : machine.State) (tried : Option Command)
    → (answer_schedule_command (Some state) tried).1 ≡ Some (fold next_state state (event_if state tried))
command_steps state None = refl
command_steps state (Some (commands.Open opening)) = refl
command_steps state (Some (commands.Arrive reader key)) = refl
command_steps state (Some (commands.Read reader index)) = refl
command_steps state (Some (commands.Depart reader)) = refl
command_steps state (Some (commands.Ask reader key)) = refl
command_steps state (Some (commands.Again reader key)) = refl
command_steps state (Some (commands.Find key)) = refl
command_steps state (Some (commands.Fill key set)) =
    set_steps state (calls.Fill key (number_now state key)) (within state.shape.rows set)
command_steps state (Some (commands.FillAs key number set)) =
    set_steps state (calls.Fill key number) (within state.shape.rows set)
command_steps state (Some (commands.Update key batch)) = refl
command_steps state (Some (commands.Replace key set)) =
    set_steps state (calls.Replace key) (within state.shape.rows set)
command_steps state (Some (commands.Evict key)) = refl
command_steps state (Some (commands.Cancel key)) = refl
command_steps state (Some commands.Go) = refl

plain_steps : (state : machine.State) (line : List ℕ) (plain : Bool)
    → (if plain then schedule_reply (Some state) line else (codes "bad", Some state)).1
    ≡ Some (fold next_state state (if plain then event_if state (schedule_command (words line)) else []))
plain_steps state line true = command_steps state (schedule_command (words line))
plain_steps state line false = refl

line_steps : (state : machine.State) (line : List ℕ)
    → (or_bad schedule_reply (Some state) line).1 ≡ Some (fold next_state state (line_event state line))
line_steps state line = plain_steps state line (is_plain line)

lines_run : (lines : List (List ℕ)) (state : machine.State)
    → after_lines (or_bad schedule_reply) (Some state) lines ≡ Some (fold next_state state (events state lines))
lines_run [] state = refl
lines_run (line ∷ more) state =
    let first = line_event state line in
    let reached = fold next_state state first in
    rw (line_steps state line)
    (lines_run more reached ∙ ap Some (sym (fold-append next_state state first (events reached more))))

given_more : (bound : ℕ) (front back : List machine.Event)
    → AllGiven bound front → AllGiven bound back → AllGiven bound (front ++ back)
given_more bound [] back front_given back_given = back_given
given_more bound (event ∷ front) back (given, more) back_given = (given, given_more bound front back more back_given)

-- a call with a set, where it has one that fits, is given a row set
module _ (bound : ℕ) (call : List Row → WriterCall)
    (given : (rows : List Row) → IsRowSet bound rows → IsGivenCall bound (call rows)) where
  ordered_given : (rows : List Row) (few : Bool) → nat_le (length (in_order rows)) bound ≡ few
      → AllGiven bound (event_with call (if few then Some (in_order rows) else None))
  ordered_given rows true few = (given (in_order rows) ((order_keeps_rows_lem rows).0, leb-true _ _ few), tt)
  ordered_given rows false few = tt

  kept_given : (rows : List Row) (few : Bool)
      → AllGiven bound (event_with call (within bound (if few then Ok (in_order rows) else Err (record {}))))
  kept_given rows true = ordered_given rows (nat_le (length (in_order rows)) bound) refl
  kept_given rows false = tt

  set_given : (rows : List Row) → AllGiven bound (event_with call (within bound (set_of rows)))
  set_given rows = kept_given rows (nat_le (length rows) MAX_ROWS)

module _ (state : machine.State) where
  -- the events of a command bring row sets
  abbrev Brings : Command → Type 0
  Brings command = AllGiven (bound_of state.shape) (event_of state command)

  -- the events of a command, if there is one, bring row sets
  record Gives (tried : Option Command) : Type 0 where
    sets : AllGiven (bound_of state.shape) (event_if state tried)

  gives_none : Gives None
  gives_none = record { sets = tt }

  either_gives : (test : Bool) (first second : Option Command)
      → Gives first → Gives second → Gives (if test then first else second)
  either_gives true first second given other = given
  either_gives false first second given other = other

  mapped_gives : {A : Type 0} (made : A → Command) (spelled : Option A)
      → ((found : A) → Brings (made found)) → Gives (option_map made spelled)
  mapped_gives made None given = gives_none
  mapped_gives made (Some found) given = record { sets = given found }

  chained_gives : {A : Type 0} (made : A → Option Command) (spelled : Option A)
      → ((found : A) → Gives (made found)) → Gives (option_and_then made spelled)
  chained_gives made None given = gives_none
  chained_gives made (Some found) given = given found

  one_gives : (made : ℕ → Command) (line : List (List ℕ)) → ((n : ℕ) → Brings (made n)) → Gives (one_number made line)
  one_gives made [] given = gives_none
  one_gives made (word ∷ []) given = mapped_gives made (number word) given
  one_gives made (word ∷ second ∷ more) given = gives_none

  two_give : (made : ℕ → ℕ → Command) (line : List (List ℕ))
      → ((n m : ℕ) → Brings (made n m)) → Gives (two_numbers made line)
  two_give made [] given = gives_none
  two_give made (first ∷ []) given = gives_none
  two_give made (first ∷ second ∷ []) given =
      chained_gives (λ n. option_map (λ m. made n m) (number second)) (number first)
      (λ n. mapped_gives (made n) (number second) (given n))
  two_give made (first ∷ second ∷ third ∷ more) given = gives_none

  alone_gives : (made : Command) (line : List (List ℕ)) → Brings made → Gives (alone made line)
  alone_gives made [] given = record { sets = given }
  alone_gives made (word ∷ more) given = gives_none

  filling_gives : (made : ℕ → Result (List Row) TooMany → Command) (line : List (List ℕ))
      → ((key : ℕ) (rows : List Row) → Brings (made key (set_of rows))) → Gives (filling number made line)
  filling_gives made [] given = gives_none
  filling_gives made (word ∷ more) given =
      chained_gives (λ key. option_map (λ rows. made key (set_of rows)) (each row more)) (number word)
      (λ key. mapped_gives (λ rows. made key (set_of rows)) (each row more) (given key))

  abbrev filled_as : ℕ → List (List ℕ) → ℕ → Option Command
  filled_as key more n = option_map (λ rows. commands.FillAs key n (set_of rows)) (each row more)

  filling_as_gives : (line : List (List ℕ)) → Gives (filling_as number commands.FillAs line)
  filling_as_gives [] = gives_none
  filling_as_gives (word ∷ []) = gives_none
  filling_as_gives (word ∷ spelled ∷ more) =
      chained_gives (λ key. option_and_then (filled_as key more) (number spelled)) (number word)
      (λ key. chained_gives (filled_as key more) (number spelled)
      (λ n. mapped_gives (λ rows. commands.FillAs key n (set_of rows)) (each row more)
      (set_given (bound_of state.shape) (calls.Fill key n) (λ _ set. set))))

  updating_gives : (line : List (List ℕ)) → Gives (updating number commands.Update line)
  updating_gives [] = gives_none
  updating_gives (word ∷ more) =
      let batches = option_and_then batch_of (each delta more) in
      chained_gives (λ key. option_map (λ batch. commands.Update key batch) batches) (number word)
      (λ key. mapped_gives (λ batch. commands.Update key batch) batches (λ batch. (tt, tt)))

  filled : (key : ℕ) (rows : List Row) → Brings (commands.Fill key (set_of rows))
  filled key = set_given (bound_of state.shape) (calls.Fill key (number_now state key)) (λ _ set. set)

  replaced : (key : ℕ) (rows : List Row) → Brings (commands.Replace key (set_of rows))
  replaced key = set_given (bound_of state.shape) (calls.Replace key) (λ _ set. set)

  writer_gives : (line : List (List ℕ)) → Gives (by_writer line)
  writer_gives [] = gives_none
  writer_gives (name ∷ more) =
      either_gives _ _ _ (one_gives commands.Find more (λ n. (tt, tt)))
      (either_gives _ _ _ (filling_gives commands.Fill more filled)
      (either_gives _ _ _ (filling_as_gives more)
      (either_gives _ _ _ (updating_gives more)
      (either_gives _ _ _ (filling_gives commands.Replace more replaced)
      (either_gives _ _ _ (one_gives commands.Evict more (λ n. (tt, tt)))
      (either_gives _ _ _ (one_gives commands.Cancel more (λ n. (tt, tt))) gives_none))))))

  command_gives : (line : List (List ℕ)) → Gives (schedule_command line)
  command_gives [] = gives_none
  command_gives (name ∷ more) =
      either_gives _ _ _ (mapped_gives commands.Open (opening_of_words more) (λ _. tt))
      (either_gives _ _ _ (two_give commands.Arrive more (λ n m. (tt, tt)))
      (either_gives _ _ _ (two_give commands.Read more (λ n m. (tt, tt)))
      (either_gives _ _ _ (one_gives commands.Depart more (λ n. (tt, tt)))
      (either_gives _ _ _ (two_give commands.Ask more (λ n m. (tt, tt)))
      (either_gives _ _ _ (two_give commands.Again more (λ n m. (tt, tt)))
      (either_gives _ _ _ (writer_gives more)
      (either_gives _ _ _ (alone_gives commands.Go more (tt, tt)) gives_none)))))))

  line_gives : (line : List ℕ) (plain : Bool)
      → AllGiven (bound_of state.shape) (if plain then event_if state (schedule_command (words line)) else [])
  line_gives line true = (command_gives (words line)).sets
  line_gives line false = tt

lines_give : (bound : ℕ) (lines : List (List ℕ)) (state : machine.State)
    → bound_of state.shape ≡ bound → AllGiven bound (events state lines)
lines_give bound [] state same = tt
lines_give bound (line ∷ more) state same =
    let first = line_event state line in
    let reached = fold next_state state first in
    let given = subst (λ (b : ℕ). AllGiven b first) same (line_gives state line (is_plain line)) in
    let still : bound_of reached.shape ≡ bound = ap bound_of (all_keep_shape first state) ∙ same in
    given_more bound first (events reached more) given (lines_give bound more reached still)

-- sizes within their limits are a map's
is_shape : (opening : Opening) → is_in_limits opening ≡ true → IsShape (shape_of_opening opening)
is_shape opening limits = record {
  some = grind (arith, nat_tests);
  bound = grind (arith, nat_tests);
  slots = grind (arith, nat_tests);
  readers = grind (arith, nat_tests);
  number = grind (arith, nat_tests);
}

pub schedule_runs_lem : ScheduleRuns
schedule_runs_lem opening lines limits = (
  is_shape opening limits,
  lines_give (bound_of (shape_of_opening opening)) lines (opened_schedule opening) refl,
  lines_run lines (opened_schedule opening),
)
