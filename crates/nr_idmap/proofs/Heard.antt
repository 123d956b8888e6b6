-- A find by id of a reader that heard of the id's fill, by the laws of the map and of the directory.
use Rattle.std.proofs.Common.{◌≡◌, ℕ, ◌+◌, ◌*◌, ◌<◌, ◌⊎◌, ⊎_elim, inl, inr, true, List, [], ◌∷◌, ◌++◌, length, refl}
use Rattle.std.proofs.Common.{min, Some, None}
use Rattle.nr_model.specs.declared.rows.Row.{Row}
use Rattle.nr_model.specs.declared.calls.Call.TheVariants as model
use Rattle.nr_model.specs.declared.calls.Reply.{Reply}
use Rattle.nr_model.specs.declared.calls.Reply.TheVariants as reply
use Rattle.nr_model.specs.Histories.{Entry}
use Rattle.nr_core.specs.Puts.{puts_at}
use Rattle.nr_board.specs.Callers.{Gains}
use Rattle.nr_map.specs.Written.{FindsWhatItHeard}
use Rattle.nr_ids.specs.Events.{name_of}
use Rattle.nr_ids.specs.Laws as ids
use Rattle.nr_ids.specs.Tokens.{Token}
use Rattle.nr_idmap.specs.declared.finds.FoundId.{FoundId}
use Rattle.nr_idmap.specs.declared.finds.FoundId.TheVariants as found
use Rattle.nr_idmap.specs.declared.finds.NamedWay.{NamedWay}
use Rattle.nr_idmap.specs.IdFinds.{FindsByName, LooksForWay, with_line}
use Rattle.nr_idmap.specs.IdHeard.{FindsIdHeard, FindsIdPut, HeardIdBefore, IsUnnamedSince, TellsOfWay}
use Rattle.nr_idmap.specs.IdNotes.{IdKnown}
use Rattle.nr_idmap.specs.Keepers.{IdCaller}
use Rattle.nr_idmap.specs.Tags.{tag_of}
use Rattle.nr_idmap.proofs.LookUps.{looks_there, set_on}

-- the load of a line tells nothing
heard_with_line : (id word : ℕ) (old asking : IdCaller) (note : IdKnown) → HeardIdBefore note old asking
    → HeardIdBefore note old (with_line id word asking)
heard_with_line id word old asking note heard = record {
  map =
      record {
        steps = heard.map.steps;
        heard = heard.map.heard;
        hears = heard.map.hears;
        table = heard.map.table;
        seen = heard.map.seen;
      };
  ids = heard.ids;
}

module _ {Room : Type 0} (shows : Room → List Row → Type 0) (of_map : FindsWhatItHeard)
    (of_ids : ids.FindsWhatItHeard) where
  module _ (old asking : IdCaller) (note : IdKnown) (id way : ℕ) (before since : List Entry) (put : Entry)
      (near : way < old.caller.table.shape.keys) (real : 0 < id) (named : name_of note.ids.seen way ≡ id)
      (told : note.map.seen ≡ (before ++ put ∷ []) ++ since) (puts : puts_at way put ≡ true)
      (heard : HeardIdBefore note old asking) where
    abbrev written : List Entry
    written = before ++ put ∷ []

    -- the way that was looked up is that one, and then the map's law tells of it
    in_way : (at : NamedWay) (looked : Token) (new : IdCaller) (room : Room) (answer : FoundId) (steps : ℕ)
        (told_there : Reply)
        →
        LooksForWay id asking.ids looked (Some at) →
        Gains steps (model.Find at.way) asking.caller new.caller told_there →
        TellsOfWay shows id room answer told_there →
        IsUnnamedSince note.ids.seen way looked.seen
        ⊎ FindsIdPut shows (record { id = id; way = way; old = old; written = written; since = since }) asking new
        room answer
    in_way at looked new room answer steps told_there looks gains tells = ⊎_elim
        (λ gone. inl gone)
        (λ (same : Some at.way ≡ Some way).
        let is : at.way ≡ way = cc (same) in
        let law
        = of_map old.caller asking.caller new.caller note.map before since put way steps told_there near told puts
        heard.map (rw is at gains) in
        inr (record { told = told_there; tells = tells; more = law.0; seen = law.1; finds = law.2 }))
        (looks_there of_ids note.ids id way asking.ids looked (Some at) real named heard.ids looks)

    by_answer : (new : IdCaller) (room after : Room) (answer : FoundId)
        → FindsByName shows id asking room new after answer →
        IsUnnamedSince note.ids.seen way new.ids.seen
        ⊎ FindsIdPut shows (record { id = id; way = way; old = old; written = written; since = since }) asking new
        after answer
    by_answer new room after found.Rows finds =
        let looked : Token = finds.2 in ⊎_elim
        (λ gone. inl (set_on note.ids.seen way finds.0.way finds.0.is_marked looked new.ids finds.4 gone))
        (λ put. inr put)
        (in_way finds.0 looked new after found.Rows (finds.3.1.steps + (2 * length (tag_of id ∷ finds.1) + 1))
        (reply.Rows (tag_of id ∷ finds.1))
        finds.3.0 finds.3.1.gains (finds.1, refl, finds.5))
    by_answer new room after found.Pending finds =
        in_way finds.0 new.ids new after found.Pending (finds.2.steps + 0) reply.Hole finds.1 finds.2.gains refl
    by_answer new room after found.Moved finds =
        in_way finds.0 new.ids new after found.Moved (finds.2.1.steps + (2 * min 1 (length finds.1) + 1))
        (reply.Rows finds.1)
        finds.2.0 finds.2.1.gains (finds.1, refl, finds.3)
    by_answer new room after found.Absent finds = ⊎_elim
        (λ gone. inl gone)
        (λ (there : None ≡ Some way). absurd (cc (there)))
        (looks_there of_ids note.ids id way asking.ids new.ids None real named heard.ids finds.0)

  pub finds_id_heard : FindsIdHeard shows
  finds_id_heard old asking new note id way before since put room after answer near real named told puts heard finds =
      ⊎_elim
      (λ gone. inl gone)
      (λ (found : FindsIdPut shows
      (record { id = id; way = way; old = old; written = before ++ put ∷ []; since = since })
      (with_line id finds.0 asking) new
      after answer).
      inr
      (record {
        told = found.told;
        tells = found.tells;
        more = found.more;
        seen = found.seen;
        finds = found.finds;
      }))
      (by_answer old (with_line id finds.0 asking) note id way before since put near real named told puts
      (heard_with_line id finds.0 old asking note heard) new room after answer finds.1)
