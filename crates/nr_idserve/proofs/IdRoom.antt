-- Where each way of an id's groups has a name, an id is chosen; and its eviction makes room.
use Rattle.std.proofs.Common.{rules, arith, ◌≡◌, ℕ, Bool, true, Option, None, Some, Err, ◌∙◌}
use Rattle.nr_board.specs.declared.answers.Evict.TheVariants as evict
use Rattle.nr_ids.specs.declared.admissions.Refused.TheVariants as refused
use Rattle.nr_ids.specs.Events.{name_of}
use Rattle.nr_ids.specs.Groups.{group_of, group_of_way}
use Rattle.nr_ids.specs.Looking.{IsFull}
use Rattle.nr_ids.specs.Tokens.{Token}
use Rattle.nr_ids.proofs.Calls.{LeavesNames, at_first, chooses_leave, chosen_group, clerk_looks, leaves_names}
use Rattle.nr_ids.proofs.Calls.{clerk_names, looks_leave}
use Rattle.nr_ids.proofs.Admitting.{refusal_looks}
use Rattle.nr_ids.proofs.Through.{way_looks}
use Rattle.nr_ids.proofs.Logs.{cond_same, one_way}
use Rattle.nr_idmap.specs.IdChoices.{ChoosesId}
use Rattle.nr_idmap.specs.IdWrites.{EvictsId}
use Rattle.nr_idmap.specs.Keepers.{Keeper}
use Rattle.nr_idserve.specs.IdFlows.{IdFlowSeen}
use Rattle.nr_idserve.specs.IdTakes.{AdmitsOne, EvictsIf, EvictsOneId, MakesRoom, Say}

-- a way of the id's group has no name
record HasFree (id : ℕ) (clerk : Token) : Type 0 where
  number : clerk.number ≡ 0
  way : ℕ
  group : group_of_way way ≡ group_of clerk.directory.plan id
  free : name_of clerk.seen way ≡ 0

has_free_not_full : (id : ℕ) (clerk : Token) → HasFree id clerk → IsFull id clerk → ⊥
has_free_not_full id clerk has full = grind (arith, at_first)

-- steps that change no name change nothing of it
free_later : (id : ℕ) (old new : Token) → LeavesNames old new → HasFree id old → HasFree id new
free_later id old new leaves has = grind (arith, leaves_names)

free_before : (id : ℕ) (old new : Token) → old.number ≡ 0 → LeavesNames old new → HasFree id new → HasFree id old
free_before id old new number leaves has = grind (arith, leaves_names)

-- the choice itself
chose : (id : ℕ) (old new : Token) (named : Option ℕ) (chooses : ChoosesId id old new named)
    → LeavesNames old chooses.mid × (group_of_way chooses.way ≡ group_of old.directory.plan id)
chose id old new named chooses = search (rules, chooses_leave, chosen_group)

-- a choice for an id whose groups are full comes to an id
pub chooses_some : (id : ℕ) (old new : Token) → old.number ≡ 0 → IsFull id old → ChoosesId id old new None → ⊥
chooses_some id old new number full chooses =
    let first = chose id old new None chooses in
    let names = looks_leave 1 chooses.mid new chooses.names.0 in
    let free : HasFree id new
    = record { number = grind arith; way = chooses.way; group = grind arith; free = chooses.names.1 } in
    has_free_not_full id old
    (free_before id old chooses.mid number first.0 (free_before id chooses.mid new (grind arith) names free)) full

-- an eviction of the id that was chosen leaves its way free
evicts_chosen : (id victim : ℕ) (old chosen new : Keeper) → old.clerk.number ≡ 0
    → ChoosesId id old.clerk chosen.clerk (Some victim) → EvictsId victim chosen new evict.Evicted
    → HasFree id new.clerk
evicts_chosen id victim old chosen new number chooses evicts =
    let gone = evicts.1.unnames.grows in
    let found = (way_looks victim chosen.clerk evicts.1.mid (Some evicts.0) evicts.1.finds).1 in
    let first = chose id old.clerk chosen.clerk (Some victim) chooses in
    let grows = first.0.1 in
    let here : chosen.clerk.number ≡ 0 = grind arith in
    let named
    = clerk_looks chosen.clerk _ chosen.clerk.number evicts.1.mid chooses.way here found ∙ chooses.names.1.has in
    let same
    = one_way chosen.clerk.directory.plan evicts.1.mid.seen evicts.0 chooses.way victim found.legal chooses.names.2
    evicts.1.finds.1.has named in
    record {
      number = grind arith;
      way = chooses.way;
      group = grind arith;
      free =
          clerk_names evicts.1.mid _ new.clerk chooses.way (found.number ∙ here) gone
          ∙ cond_same 0 (name_of evicts.1.mid.seen chooses.way) evicts.0 chooses.way same;
    }

was_evicted : (may_go : Bool) (id : ℕ) (old new : IdFlowSeen) → EvictsIf may_go id old new true
    → EvictsOneId id old new evict.Evicted
was_evicted may_go id old new evicts = grind arith

-- and so no admission finds the groups full then
pub room_is_made : (id : ℕ) (say : Say) (old room new : IdFlowSeen) → old.writer.clerk.number ≡ 0
    → MakesRoom id say old room true → AdmitsOne id room new (Err refused.Full) → ⊥
room_is_made id say old room new number makes admits =
    let seen = admits.0.refused in
    let looks = refusal_looks id room.writer.clerk new.writer.clerk refused.Full seen in
    has_free_not_full id new.writer.clerk
    (free_later id room.writer.clerk new.writer.clerk (looks_leave looks.0 room.writer.clerk new.writer.clerk looks.1)
    (evicts_chosen id say.id old.writer makes.0.writer room.writer number makes.1.chooses
    (was_evicted say.may_go say.id makes.0 room makes.2).evicts))
    seen.1
