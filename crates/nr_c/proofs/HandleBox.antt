-- A handle and its parts own what a box at the same types owns.
--     Token          the row of what a handle leads to, with its laws
--     boxed, at      a box of it in the C library's memory, and what a call passes for its type
--     Row, Apart     the handle and its parts as rows
use Rattle.nr_c.proofs.Walks.{Args, Bx, RattleType, [], a_type, dnil, impl, layouts, param, tnil, ◌∷◌}
use denote.Param.Laws.{Laws}
use Rattle.std_heap.specs.contracts.Global as Heap
use Rattle.std_heap.specs.contracts.GlobalAllocator.TheImpl.{ghosts, dict}
use Rattle.std_heap.proofs.Global.TheLaws as heap
use Rattle.nr_c.specs.contracts.parts.Parts as Parts
use Rattle.nr_c.specs.contracts.handle.Handle as Handle

pub record Token : Type 2 where
  pub row : RattleType
  pub laws : Laws row

abbrev pub boxed : Token → Bx
boxed K =
    record {
      row = K.row;
      laws = K.laws;
      al = record { row = Heap.the_row; laws = heap.the_row_laws; g = ghosts; d = dict; drops = impl [] tnil dnil };
    }

abbrev pub at : Token → Args
at K = layouts (a_type ∷ []) (K.row, tt)

abbrev pub Row : Token → RattleType
Row K = Handle.the_row (param 0 K.row)

abbrev pub Apart : Token → RattleType
Apart K = Parts.the_row (param 0 K.row) Heap.the_row ghosts
