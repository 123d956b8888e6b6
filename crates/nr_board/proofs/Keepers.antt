-- Notes of a search: what the noted reader held stays so.
use Rattle.std.proofs.Common.{◌≡◌, ◌≢◌, ℕ, ◌+◌, ◌≤◌, ⊎_elim, inl, inr, List, [], ◌∷◌, ◌++◌, length, refl, sym, ap, ◌∙◌}
use Rattle.std.proofs.Common.{suc, zero, append-nil, arith}
use Rattle.std.specs.Prelude.{Some}
use mathlib.Core.Option.{some}
use mathlib.Core.Logic.{dite}
use native.Mathlib.Decide.{ℕ_discrete}
use lib.ListN.{get_elem?}
use Rattle.nr_model.specs.Histories.{Entry, entries_of}
use Rattle.nr_core.proofs.ListPlaces.{inside}
use Rattle.nr_core.proofs.Sums.{only-is, only-le, only-other, some_term, total-append}
use Rattle.nr_core.specs.Sums.{only, total}
use Rattle.nr_core.specs.Marks.{LoggedLoad, Past}
use Rattle.nr_core.specs.declared.places.Retired.{Retired}
use Rattle.nr_board.proofs.Tokens.{starts_through}
use Rattle.nr_board.specs.Entries.{acts_told, to_depart}
use Rattle.nr_board.specs.Plays.{NotesTell}
use Rattle.nr_board.specs.Polls.{HeldThen, KeptBack, KeptThen, SaidThen}
use Rattle.nr_board.specs.Rule.{StartsWith}

-- the element at the end of a list
pub at_end : {A : Type 0} (l : List A) (x : A) (at : ℕ) → at ≡ length l → get_elem? (l ++ x ∷ []) at ≡ some x
at_end [] x zero e = refl
at_end [] x (suc at) e = absurd (omega arith)
at_end (y ∷ l) x zero e = absurd (omega arith)
at_end (y ∷ l) x (suc at) e = at_end l x at (omega arith)

-- one behind another list
pub at_behind : {A : Type 0} (l m : List A) (at : ℕ) → get_elem? (l ++ m) (length l + at) ≡ get_elem? m at
at_behind [] m at = ap (get_elem? m) (omega arith)
at_behind (x ∷ l) m at =
    let next : length (x ∷ l) + at ≡ suc (length l + at) = omega arith in
    ap (get_elem? (x ∷ l ++ m)) next ∙ at_behind l m at

-- what was held at a poll was so between histories that lie further apart
pub held_within : {before mid last after : List Entry} {slot : ℕ} {note : Past} → StartsWith mid before
    → StartsWith after last → HeldThen mid last slot note → HeldThen before after slot note
held_within begun more held = record {
  log = held.log;
  since = starts_through begun held.since;
  until = starts_through held.until more;
  holds = held.holds;
  count = held.count;
}

pub starts_itself : {log : List Entry} → StartsWith log log
starts_itself {log = log} = record { rest = []; is = sym (append-nil log) }

-- NOTES

-- one note more, of a reader that none of them noted
pub once_more : (notes : List Past) (note : Past)
    → ((reader : ℕ) → total (λ (n : Past). only reader n.reader) notes ≤ 1)
    → ((at : ℕ) (old : Past) → get_elem? notes at ≡ some old → old.reader ≢ note.reader)
    → (reader : ℕ) → total (λ (n : Past). only reader n.reader) (notes ++ note ∷ []) ≤ 1
once_more notes note apart is_new reader =
    let both = total-append (λ (n : Past). only reader n.reader) notes (note ∷ []) in
    let before = apart reader in
    let one = only-le reader note.reader in
    dite (ℕ_discrete (total (λ (n : Past). only reader n.reader) notes) 0) (λ none. omega arith)
    (λ some_there.
    let t = some_term (λ (n : Past). only reader n.reader) notes (omega arith) in
    let other
    = only-other reader note.reader (λ same. is_new t.0 t.1 t.2 (only-is reader t.1.reader t.3 ∙ sym same)) in
    omega arith)

-- a poll notes a reader that held its slot by the history at the poll
pub held_noted : (before after : List Entry) (polls now : List Past) (slot : ℕ) (note : Past)
    → StartsWith after before → NotesTell after polls now → now ≡ polls ++ note ∷ [] → note.slot ≡ Some slot
    → HeldThen before after slot note
held_noted before after polls now slot note begun tells more holds =
    ⊎_elim
    (λ (old : get_elem? polls (length polls) ≡ some note). absurd
    (let low = inside polls (length polls) note old in omega arith))
    (λ (told : note.count + to_depart note.slot ≡ acts_told (entries_of after note.reader)).
    let one : to_depart note.slot ≡ 1 = ap to_depart holds in record {
      log = after;
      since = begun;
      until = starts_itself;
      holds = holds;
      count = omega arith;
    })
    (tells (length polls) note
    (ap (λ (l : List Past). get_elem? l (length polls)) more ∙ at_end polls note (length polls) refl))

-- it began with the call
pub kept_since : {readers : ℕ} {before mid after : List Entry} {loads : List LoggedLoad} {retired : List Retired}
    {notes : List Past} → StartsWith mid before → KeptBack readers mid after loads retired notes
    → KeptBack readers before after loads retired notes
kept_since {before = before} {mid = mid} {after = after} {loads = loads} begun back = record {
  slots = λ slot there. let t = back.slots slot there in (t.0, t.1, t.2, so slot t.1 t.3);
  keepers = λ at note there. let t = back.keepers at note there in (t.0, t.1, so t.0 note t.2);
  range = back.range;
}
  where
    so : (slot : ℕ) (note : Past) → KeptThen mid after loads slot note → KeptThen before after loads slot note
    so slot note kept = ⊎_elim (λ (held : HeldThen mid after slot note). inl (held_within begun starts_itself held))
        (λ (said : SaidThen loads slot note). inr said) kept
