-- The tokens of a new map and a new directory are tied.
use Rattle.std.proofs.Common.{◌≡◌, ℕ, suc, ◌+◌, ◌<◌, List, [], ◌∷◌, ◌++◌, length, refl, sym, ap, ◌∙◌, subst, arith}
use Rattle.std.proofs.Common.{length-append, Some}
use Rattle.std.specs.Prelude.{All, slice_get}
use Rattle.std.proofs.lemmas.List.Elements.{All-cons, All-pop, All-tail}
use Rattle.nr_model.specs.Histories.{Entry, entries_of}
use Rattle.nr_core.specs.declared.shape.Shape.{Shape}
use Rattle.nr_core.specs.Marks.{no_marks}
use Rattle.nr_board.specs.Callers.{Caller, KnowsOwn, Table}
use Rattle.nr_ids.specs.Groups.{ways}
use Rattle.nr_ids.specs.Tokens.{Opened, Token, fresh_token}
use Rattle.nr_map.specs.Opened.{IsOpened, newcomer}
use Rattle.nr_idmap.specs.IdOpenings.{pairs_from}
use Rattle.nr_idmap.specs.Keepers.{IdCaller, IsTied, keeper_of, id_table_of}
use Rattle.nr_idmap.proofs.Readings.{opened_hole}

last_of : (rest : List Caller) (last : Caller) → slice_get (rest ++ last ∷ []) (length rest) ≡ Some last
last_of [] last = refl
last_of (reader ∷ rest) last = last_of rest last

module _ (shape : Shape) (words : ℕ) (map : Table) (writer asker : Caller) (mapped rest : List Caller)
    (opened : IsOpened shape words map writer mapped)
    (asks : mapped ≡ rest ++ asker ∷ []) where
  pub rest_count : length rest + 1 ≡ shape.readers
  rest_count = omega (arith, opened.count, ap (λ (l : List Caller). length l) asks, length-append rest (asker ∷ []))

  asker_is : asker ≡ newcomer map (length rest + 1) no_marks
  asker_is =
      let found : Some asker ≡ Some (newcomer map (length rest + 1) no_marks) = sym (last_of rest asker)
      ∙ ap (λ (l : List Caller). slice_get l (length rest)) (sym asks)
      ∙ opened.reads (length rest) (omega (arith, rest_count)) in
      cc (found)

  module _ (clerk : Token) (fresh : (clerk.number ≡ 0) × (clerk.seen ≡ []))
      (sized : ways clerk.directory.plan ≡ shape.keys)
      (room : 0 < shape.rows) where
    pub opened_tied : IsTied (keeper_of writer asker clerk)
    opened_tied =
        let seen : writer.seen ≡ [] = ap (λ (w : Caller). w.seen) opened.writes in
        let mine : writer.mine ≡ [] = ap (λ (w : Caller). w.mine) opened.writes in
        let table : writer.table ≡ map = ap (λ (w : Caller). w.table) opened.writes in
        let sizes : writer.table.shape ≡ shape = ap (λ (t : Table). t.shape) table ∙ opened.sizes in record {
          writes = (refl, ap (λ (w : Caller). w.number) opened.writes);
          asks = (ap (λ (r : Caller). r.table) asker_is ∙ sym table, subst KnowsOwn (sym asker_is) refl);
          names = (refl, fresh.0);
          ways_are = sized ∙ ap (λ (s : Shape). s.keys) (sym sizes);
          room = rw sizes room;
          sound = record {
            legal = rw seen tt;
            own = ap (λ (l : List Entry). entries_of l writer.number) seen ∙ sym mine;
            callers = rw seen tt;
          };
          tidy = rw seen tt;
          legal = rw fresh.1 tt;
          agrees = λ way.
              let hole = opened_hole writer.table.shape.keys writer.table.shape.rows writer.table.shape.first_number
              way in
              rw (seen, fresh.1, hole.1) refl;
        }

-- the readers are as many as those of the map, but for the one that asks, and of that map over ids
pub pairs_count : (directory : Opened) (made : ℕ) (readers : List Caller)
    → length (pairs_from directory made readers) ≡ length readers
pairs_count directory made [] = refl
pairs_count directory made (reader ∷ readers) = ap suc (pairs_count directory (made + 1) readers)

pub pairs_own : (map : Table) (directory : Opened) (made : ℕ) (readers : List Caller)
    → All (λ reader. reader.table ≡ map) readers →
    All (λ reader. id_table_of reader ≡ record { map = map; directory = directory }) (pairs_from directory made readers)
pairs_own map directory made [] own = λ place d low. absurd (omega arith)
pairs_own map directory made (reader ∷ readers) own =
    let here : reader.table ≡ map = own 0 reader (omega arith) in
    All-cons (λ (r : IdCaller). id_table_of r ≡ record { map = map; directory = directory })
    (record { caller = reader; ids = fresh_token directory (made + 1) }) (pairs_from directory (made + 1) readers)
    (λ i. record { map = here i; directory = directory })
    (pairs_own map directory (made + 1) readers (All-tail (λ (r : Caller). r.table ≡ map) reader readers own))

pub others_own : (map : Table) (mapped rest : List Caller) (asker : Caller) → mapped ≡ rest ++ asker ∷ [] →
    All (λ reader. reader.table ≡ map) mapped → All (λ reader. reader.table ≡ map) rest
others_own map mapped rest asker asks own =
    (All-pop (λ (r : Caller). r.table ≡ map) mapped rest (Some asker) asks own).0
