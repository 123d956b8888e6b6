-- How a dataflow by id comes by an upquery.
use Rattle.std.specs.Prelude.{◌≡◌, ◌≢◌, ◌⊎◌, ◌+◌, ℕ, Bool, true, false, [], ◌∷◌, ◌++◌, Option, None, Some, Result, Ok}
use Rattle.std.specs.Prelude.{Err}
use Rattle.nr_board.specs.declared.answers.Evict.{Evict}
use Rattle.nr_board.specs.declared.answers.Evict.TheVariants as evict
use Rattle.nr_ids.specs.declared.admissions.Refused.{Refused}
use Rattle.nr_ids.specs.declared.admissions.Refused.TheVariants as refused
use Rattle.nr_idmap.specs.IdChoices.{ChoosesId, StaysButClerk}
use Rattle.nr_idmap.specs.IdWrites.{AdmitsId, EvictsId, RefusesId}
use Rattle.nr_idmap.specs.Keepers.{IdTable, OwesSame, Sent}
use Rattle.nr_serve.specs.Counts.{Raises, raises_for}
use Rattle.nr_trigger.specs.declared.post.Post.{Post}
use Rattle.nr_trigger.specs.Tokens.{IsSameTaker, WasEmpty, taker_tried}
use Rattle.nr_idserve.specs.declared.taking.Taken.{Taken}
use Rattle.nr_idserve.specs.declared.taking.Taken.TheVariants as taken
use Rattle.nr_idserve.specs.IdEnds.{EvictRaises}
use Rattle.nr_idserve.specs.IdFlows.{IdFlowSeen, group_in}

-- the next post of the queue names the id
pub record TakesClaim (old new : IdFlowSeen) (id : ℕ) : Type 0 where
  pub none : old.refused ≡ None
  pub post : Post
  pub id_is : post.upquery.number ≡ id
  pub same : IsSameTaker old.taker new.taker
  pub tries : new.taker.tries ≡ old.taker.tries + 1
  pub taken : new.taker.taken ≡ old.taker.taken ++ post ∷ []
  pub rest : new ≡ record old { taker = new.taker }

-- the id of the claim that is kept, or else of the next one of the queue, if there is any
abbrev pub NextsId : IdFlowSeen → IdFlowSeen → Option ℕ → Type 0
NextsId old new None = (old.refused ≡ None) × WasEmpty old.taker × (new ≡ record old { taker = taker_tried old.taker })
NextsId old new (Some id) = ((old.refused ≡ Some id) × (new ≡ record old { refused = None })) ⊎ TakesClaim old new id

-- an admission: the upquery is the map's, and the group is raised, which can be claimed again; or it is refused
abbrev pub AdmitsOne : ℕ → IdFlowSeen → IdFlowSeen → Result Sent Refused → Type 0
AdmitsOne id old new (Ok sent) =
    (sent.table ≡ old.map) × AdmitsId id old.writer new.writer sent.owed
    × Raises (raises_for (group_in old id)) old.guest new.guest
    × (new ≡ record old { writer = new.writer; guest = new.guest })
AdmitsOne id old new (Err why) = RefusesId id old.writer new.writer why × (new ≡ record old { writer = new.writer })

-- CHOICE AND EVICTION
-- the id that was chosen, and whether it may go
pub record Say : Type 0 where
  pub id : ℕ
  pub may_go : Bool

-- the id of a way of that one's group is chosen, by the clerk's steps alone
pub record ChoosesFor (id : ℕ) (old new : IdFlowSeen) (chosen : ℕ) : Type 0 where
  pub chooses : ChoosesId id old.writer.clerk new.writer.clerk (Some chosen)
  pub stays : StaysButClerk old.writer new.writer
  pub rest : new ≡ record old { writer = new.writer }

-- an eviction, which raises the id's group where it took rows
pub record EvictsOneId (id : ℕ) (old new : IdFlowSeen) (answer : Evict) : Type 0 where
  pub evicts : EvictsId id old.writer new.writer answer
  pub owes : OwesSame old.writer new.writer
  pub raised : EvictRaises answer id old new
  pub rest : new ≡ record old { writer = new.writer; guest = new.guest }

-- an id that may go is evicted, unless it has no rows; another stays
abbrev pub EvictsIf : Bool → ℕ → IdFlowSeen → IdFlowSeen → Bool → Type 0
EvictsIf true id old new true = EvictsOneId id old new evict.Evicted
EvictsIf true id old new false = EvictsOneId id old new evict.Nothing
EvictsIf false id old new true = ⊥
EvictsIf false id old new false = new ≡ old

-- just the id that was chosen is evicted, if it may go
abbrev pub MakesRoom : ℕ → Say → IdFlowSeen → IdFlowSeen → Bool → Type 0
MakesRoom id say old new made =
    (chosen : IdFlowSeen) × ChoosesFor id old chosen say.id × EvictsIf say.may_go say.id chosen new made

-- who was asked said so, and else is as before
abbrev pub SaysSo : {V : Type 0} → (V → ℕ → Bool → V → Type 0) → V → Option Say → V → Type 0
SaysSo lets before None after = after ≡ before
SaysSo lets before (Some say) after = lets before say.id say.may_go after

-- what was done by what was said
abbrev pub Asking : {V : Type 0} → (V → ℕ → Bool → V → Type 0) → V → V → (Option Say → Type 0) → Type 0
Asking lets before after does = (said : Option Say) × does said × SaysSo lets before said after

-- ADMISSION OF A CLAIM
-- an admission that isn't refused as the groups are full
abbrev pub AdmitsInRoom : ℕ → IdFlowSeen → IdFlowSeen → Result Sent Refused → Type 0
AdmitsInRoom id old new answer = AdmitsOne id old new answer × (answer ≢ Err refused.Full)

-- where the groups are full an id is chosen: if it goes the admission is made again, and else it stays refused
abbrev pub AdmitsAsking : ℕ → Option Say → IdFlowSeen → IdFlowSeen → Result Sent Refused → Type 0
AdmitsAsking id None full new answer = ⊥
AdmitsAsking id (Some say) full new answer = ((answer ≡ Err refused.Full) × MakesRoom id say full new false)
    ⊎ ((room : IdFlowSeen) × MakesRoom id say full room true × AdmitsInRoom id room new answer)

abbrev pub AdmitsMakingRoom : ℕ → Option Say → IdFlowSeen → IdFlowSeen → Result Sent Refused → Type 0
AdmitsMakingRoom id said old new answer = (AdmitsInRoom id old new answer × (said ≡ None))
    ⊎ ((full : IdFlowSeen) × AdmitsOne id old full (Err refused.Full) × AdmitsAsking id said full new answer)

-- the claim needs no upquery
abbrev pub IsNeedless : Refused → Type 0
IsNeedless refused.Full = ⊥
IsNeedless _ = Unit {0}

abbrev pub AdmitsNext : ℕ → Option Say → IdFlowSeen → IdFlowSeen → Taken → Type 0
AdmitsNext id said old new (taken.Asked sent) = AdmitsMakingRoom id said old new (Ok sent)
AdmitsNext id said old new (taken.Passed other) =
    (other ≡ id) × (why : Refused) × IsNeedless why × AdmitsMakingRoom id said old new (Err why)
AdmitsNext id said old new (taken.Full other) =
    (other ≡ id) × (mid : IdFlowSeen) × AdmitsMakingRoom id said old mid (Err refused.Full)
    × (new ≡ record mid { refused = Some id })
AdmitsNext id said old new taken.Idle = ⊥

-- an upquery that is asked is of that map
abbrev pub IsAskedOf : IdTable → Taken → Type 0
IsAskedOf map (taken.Asked sent) = sent.table ≡ map
IsAskedOf map _ = Unit {0}

-- TAKES
-- what comes next is admitted; an id of 0, which no claim has, is passed
abbrev pub TakesNext : Option Say → IdFlowSeen → IdFlowSeen → Taken → Type 0
TakesNext said old new answer =
    (id : ℕ) × (mid : IdFlowSeen) × NextsId old mid (Some id)
    × (((id ≡ 0) × (answer ≡ taken.Passed 0) × (new ≡ mid) × (said ≡ None)) ⊎ AdmitsNext id said mid new answer)

-- the upquery that is kept comes first, and is kept no more
abbrev pub TakesKept : Option Say → IdFlowSeen → IdFlowSeen → Sent → Type 0
TakesKept said old new sent = (old.kept ≡ Some sent) × (new ≡ record old { kept = None }) × (said ≡ None)

abbrev pub TakesById : Option Say → IdFlowSeen → IdFlowSeen → Taken → Type 0
TakesById said old new (taken.Asked sent) =
    TakesKept said old new sent ⊎ ((old.kept ≡ None) × TakesNext said old new (taken.Asked sent))
TakesById said old new taken.Idle = (old.kept ≡ None) × NextsId old new None × (said ≡ None)
TakesById said old new answer = (old.kept ≡ None) × TakesNext said old new answer
