use Rattle.std.proofs.Common.{◌≡◌, ◌<◌, List, [], ◌∷◌, ◌++◌, length, ⊎_elim, ap, subst, sym, ◌∙◌, arith}
use Rattle.std.proofs.lemmas.List.{length-replicate}
use Rattle.nr_core.proofs.Histories.{length-after}
use Rattle.nr_core.specs.Story.{entry}
use Rattle.nr_board.specs.Callers.{Table, map_at_opening, map_seen}
use Rattle.nr_model.specs.declared.calls.Call.TheVariants.{Find}
use Rattle.nr_model.specs.declared.calls.Reply.TheVariants as reply
use Rattle.nr_model.specs.declared.states.KeyState.TheVariants.{Hole, Rows}
use Rattle.nr_model.specs.Maps.{PartialMap, state_of}
use Rattle.nr_model.specs.Histories.{Entry, IsLegal, after}
use Rattle.nr_map.specs.Written.{LastPut, NonePut, ReadsNoOlder}
use Rattle.nr_map.proofs.Written.{after_both, last_put, legal_later, rows_of}
use Rattle.nr_idmap.specs.Tags.{tag_of}
use Rattle.nr_cache.specs.Finds.{FindsNothingOlder}
use Rattle.nr_cache.proofs.laws.finds_nothing_older.Goals as goal

-- A find that comes after an id's value was taken has a set that was put since.
finds_nothing_older_lem : ReadsNoOlder → FindsNothingOlder
finds_nothing_older_lem law keeper old asking new note id key steps rows gone same table near heard gains =
    let set = tag_of id ∷ rows in
    let read = law old asking new note key steps (reply.Rows set) heard gains in
    let opening = map_at_opening old.table in
    let seen = keeper.writer.seen in
    let more = read.1.rest in
    let log_is : read.0 ≡ seen ++ more = read.1.is ∙ ap (λ (l : List Entry). l ++ more) same in
    let had = rows_of (state_of (after opening read.0) key) set (sym read.4) in
    let last = after opening seen in
    let state_is : state_of (after last more) key ≡ Rows had.0 set =
    ap (λ (m : PartialMap). state_of m key) (sym (after_both seen more opening) ∙ ap (after opening) (sym log_is))
    ∙ had.1 in
    let legal : IsLegal last more = legal_later seen more opening (subst (IsLegal opening) log_is read.3) in
    let here : key < length opening.states =
    omega (arith, near, length-replicate old.table.shape.keys (Hole old.table.shape.first_number)) in
    let low : key < length last.states = omega (arith, here, length-after seen opening) in
    let its : last ≡ map_seen keeper.writer =
    ap (λ (t : Table). after (map_at_opening t) seen) table in (
      more,
      read.2 ∙ ap (λ (l : List Entry). l ++ entry asking.number (Find key) (reply.Rows set) ∷ []) log_is,
      ⊎_elim
          (λ (no : NonePut last key more set).
          absurd (gone rows (key, (no.number, ap (λ (m : PartialMap). state_of m key) (sym its) ∙ no.rows_had))))
          (λ (put : LastPut last key more set). subst (λ (m : PartialMap). LastPut m key more set) its put)
          (last_put more last key had.0 set low legal state_is),
    )

pub returns : goal.returns
returns c = finds_nothing_older_lem c.reads_no_older.ensures
