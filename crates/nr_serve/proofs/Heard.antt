-- Where each find of a get stands in what its client has seen, and what it hears of how much was applied.
use Rattle.std.proofs.Common.{◌≡◌, ℕ, ◌<◌, Bool, true, false, ◌==◌, cond, List, [], ◌∷◌, ◌++◌, ap, subst, sym, ◌∙◌}
use Rattle.std.proofs.Common.{arith, append_assoc, length, ⊎_elim, ◌+◌}
use Rattle.std.proofs.lemmas.List.{append-nil, append_cancel_left, length-replicate}
use Rattle.std.proofs.lemmas.List.Elements.{filter-append}
use Rattle.nr_model.specs.declared.states.KeyState.TheVariants.{Hole}
use Rattle.nr_model.specs.Histories.{Entry, IsLegal, entries_of}
use Rattle.nr_model.proofs.LawLemmas.{legal_begins_lem}
use Rattle.nr_board.specs.Callers.{Caller, IsSound, KnowsOwn, map_at_opening}
use Rattle.nr_board.specs.Meetings.{HearsNote, Known, with_steps}
use Rattle.nr_map.specs.Written.{FindsWritten, HeardBefore}
use Rattle.nr_serve.specs.Callers.{Makes}
use Rattle.nr_serve.specs.Gets.{found}
use Rattle.nr_serve.specs.Heard.{GetsWhatItHeard}
use Rattle.nr_serve.specs.Applied.{GetsWhatWasApplied}

-- the entry stands in the log
record Stands (log : List Entry) (e : Entry) : Type 0 where
  front : List Entry
  back : List Entry
  is : log ≡ front ++ e ∷ back

stands_by : (his : Bool) (x : Entry) (log own first rest : List Entry) (e : Entry)
    → cond his (x ∷ own) own ≡ first ++ e ∷ rest → ((others : List Entry) → own ≡ others ++ e ∷ rest → Stands log e)
    → Stands (x ∷ log) e
stands_by true x log own [] rest e is later = record { front = []; back = log; is = cc }
stands_by true x log own (f ∷ first) rest e is later =
    let there = later first cc in
    record { front = x ∷ there.front; back = there.back; is = ap (λ (l : List Entry). x ∷ l) there.is }
stands_by false x log own first rest e is later =
    let there = later first is in
    record { front = x ∷ there.front; back = there.back; is = ap (λ (l : List Entry). x ∷ l) there.is }

no_entry : (first rest : List Entry) (e : Entry) → [] ≡ first ++ e ∷ rest → ⊥
no_entry [] rest e is = absurd (cc)
no_entry (f ∷ first) rest e is = absurd (cc)

-- an entry among the caller's own stands in the whole log
stands : (log : List Entry) (caller : ℕ) (first rest : List Entry) (e : Entry)
    → entries_of log caller ≡ first ++ e ∷ rest → Stands log e
stands [] caller first rest e is = absurd (no_entry first rest e is)
stands (x ∷ log) caller first rest e is =
    stands_by (x.caller == caller) x log (entries_of log caller) first rest e is
    (λ others same. stands log caller others rest e same)

-- a call that the caller made stands behind all that it had seen, in a sound history
module _ (steps : ℕ) (old new : Caller) (first rest : List Entry) (e : Entry)
    (makes : Makes steps (first ++ e ∷ rest) old new) (knows : KnowsOwn old) where
  is_sound : IsSound new
  is_sound = ⊎_elim
      (λ (same : (new.seen ≡ old.seen) × (new.mine ≡ old.mine)). absurd
      (no_entry first rest e
      (append_cancel_left old.mine [] (first ++ e ∷ rest) (append-nil old.mine ∙ sym same.1 ∙ makes.mine))))
      (λ (sound : IsSound new). sound)
      makes.sound

  own_after : entries_of makes.seen.rest old.number ≡ first ++ e ∷ rest
  own_after = grind (arith, append_cancel_left, filter-append, is_sound)

  made : Stands makes.seen.rest e
  made = stands makes.seen.rest old.number first rest e own_after

placed : {log seen heard noted : List Entry} (written since more rest later front back : List Entry) (find : Entry)
    → log ≡ seen ++ later → later ≡ front ++ find ∷ back → seen ≡ heard ++ rest → heard ≡ noted ++ more
    → noted ≡ written ++ since
    → log ≡ ((written ++ (since ++ ((more ++ rest) ++ front))) ++ find ∷ []) ++ back
placed written since more rest later front back find log_is later_is seen_is heard_is noted_is =
    rw (log_is, later_is, seen_is, heard_is, noted_is) (simp append_assoc)

pub gets_what_it_heard_lem : FindsWritten → GetsWhatItHeard
gets_what_it_heard_lem finds_written old note asking new key tries rows_before rows got before since first rest put
    answer near had puts_it heard knows gets among =
    let by = asking.reader in
    let find = found by.number key answer in
    let written = before ++ put ∷ [] in
    let opening = map_at_opening old.table in
    let makes = subst (λ (entries : List Entry). Makes gets.steps entries by new.reader) among gets.moves.makes in
    let there = made gets.steps by new.reader first rest find makes knows in
    let sound = is_sound gets.steps by new.reader first rest find makes knows in
    let more = (heard.hears.seen.rest ++ heard.seen.rest) ++ there.front in
    let place : new.reader.seen ≡ ((written ++ (since ++ more)) ++ find ∷ []) ++ there.back
    = placed _ _ _ _ _ _ _ _ makes.seen.is there.is heard.seen.is heard.hears.seen.is had in
    let table : new.reader.table ≡ old.table = makes.table ∙ heard.table ∙ heard.hears.learns.table in
    let legal : IsLegal opening (((written ++ (since ++ more)) ++ find ∷ []) ++ there.back)
    = rw (← place, ← table) sound.legal in
    let keys : key < length opening.states
    = omega (arith, near, length-replicate old.table.shape.keys (Hole old.table.shape.first_number)) in
    record {
      more = more;
      later = there.back;
      place = place;
      finds =
          finds_written opening before (since ++ more) put key by.number answer keys puts_it
          (legal_begins_lem opening ((written ++ (since ++ more)) ++ find ∷ []) there.back legal);
    }

-- a note that is heard after steps which tell nothing
pub hears_after_steps : (many : ℕ) (old new : Caller) (note : Known) → HearsNote 1 note (with_steps many old) new
    → HearsNote (many + 1) note old new
hears_after_steps many old new note hears = grind arith

pub gets_what_was_applied_lem : (reached : ℕ → Known → Type 0) → GetsWhatItHeard → GetsWhatWasApplied reached
gets_what_was_applied_lem reached law old heard least amount guest asking new key tries rows_before rows got first rest
    answer near puts hears table seen knows gets among =
    let note = hears.1 in
    let put = puts note hears.2 in
    let before = put.0 in let since = put.1 in let entry = put.2 in
    let heard_before : HeardBefore note old asking.reader
    = record { steps = 4; heard = heard; hears = hears.3; table = table; seen = seen } in (
      before,
      since,
      entry,
      put.4,
      law old note asking new key tries rows_before rows got before since first rest entry answer near put.3 put.4
          heard_before knows gets among,
    )
