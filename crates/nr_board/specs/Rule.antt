-- The rule of the table: the words and the roles of all tokens are a core state, and what each token has seen begins
-- its history.
use Rattle.std.specs.Prelude.{◌≡◌, ℕ, ◌<◌, ◌≤◌, ◌+◌, List, [], ◌++◌, map, cond, true}
use mathlib.Core.Option.{some}
use lib.ListN.{get_elem?}
use Rattle.atomic_table.specs.Table.{State}
use Rattle.nr_model.specs.Histories.{Entry, entries_of}
use Rattle.nr_core.specs.declared.shape.Shape.{Shape}
use Rattle.nr_core.specs.declared.roles.Role.{Role}
use Rattle.nr_core.specs.Sums.{total}
use Rattle.nr_core.specs.Core.{Core}
use Rattle.nr_core.specs.Roles.{is_by, is_reader, is_writer}
use Rattle.nr_core.specs.Marked.{Knowing, Marked}
use Rattle.nr_core.specs.Marks.{Marks, Past, gripped}
use Rattle.nr_board.specs.Entries.{AreCallers, acts_told, to_depart}
use Rattle.nr_board.specs.Announcing.{Announces, Counted, Hears, lent}
use Rattle.nr_board.specs.Views.{View, grip_of}

abbrev pub role_of : View → Role
role_of view = view.role

abbrev pub marks_of : View → Marks
marks_of view = view.marks

abbrev pub pasts_of : View → List Past
pasts_of view = view.pasts

abbrev pub told_pasts_of : View → List Past
told_pasts_of view = view.told_pasts

-- 1 where the role is that caller's
abbrev pub counts : ℕ → Role → ℕ
counts caller role = cond (is_by caller role) 1 0

-- the history begins with what was seen
pub record StartsWith (log seen : List Entry) : Type 0 where
  pub rest : List Entry
  pub is : log ≡ seen ++ rest

-- what a token has seen begins the history, and the caller's own entries are exactly those that the history has of it
pub record Fits (shape : Shape) (log : List Entry) (view : View) : Type 0 where
  pub begins : StartsWith log view.seen
  pub told : StartsWith log view.told
  pub own : (caller : ℕ) → is_by caller view.role ≡ true → entries_of log caller ≡ view.mine
  pub knows_own : (caller : ℕ) → is_by caller view.role ≡ true → entries_of view.seen caller ≡ view.mine
  -- a reader's acts are those that its entries tell, but the departure that is to come
  pub acts : 0 < is_reader view.role → view.marks.acts + to_depart (gripped (grip_of view.role)) ≡ acts_told view.mine
  -- a note is no caller, and has no shape to keep
  pub sized : 0 < is_writer view.role + is_reader view.role → view.shape ≡ shape

pub record Kept (shape : Shape) (state : State (Unit {0}) View) : Type 0 where
  pub log : List Entry
  -- the words as the core sees them
  pub counted : List ℕ
  pub counts_words : Counted shape (lent state.views) state.words counted
  pub core : Core shape counted (map role_of state.views) log
  pub fits : (id : ℕ) (view : View) → get_elem? state.views id ≡ some view → Fits shape log view
  pub callers : AreCallers shape log
  -- no two tokens are one caller
  pub once : (caller : ℕ) → total (counts caller) (map role_of state.views) ≤ 1
  -- the readers that were made are the first ones; the others have made no call
  pub made : ℕ
  pub readers : total is_reader (map role_of state.views) ≡ made
  pub fresh : (caller : ℕ) → made < caller → total (counts caller) (map role_of state.views) ≡ 0
  pub silent : (caller : ℕ) → made < caller → entries_of log caller ≡ []
  -- the marks agree with the words and the history, and what callers know of readers is so since then
  pub marked : Marked role_of marks_of shape counted state.views log
  pub pasts : Knowing role_of marks_of pasts_of state.views
  pub told_pasts : Knowing role_of marks_of told_pasts_of state.views
  -- that many readers, the first ones, have a word, as all callers know
  pub announcers : ℕ
  pub told_of : (id : ℕ) (view : View) → get_elem? state.views id ≡ some view
      → 0 < is_writer view.role + is_reader view.role → view.announcers ≡ announcers
  pub announced : Announces shape announcers state.words state.views
  pub hears : (id : ℕ) (view : View) → get_elem? state.views id ≡ some view → is_writer view.role ≡ 1
      → Hears state.views view
  pub maker : (id : ℕ) (view : View) → get_elem? state.views id ≡ some view → is_writer view.role ≡ 1 → view.made ≡ made
