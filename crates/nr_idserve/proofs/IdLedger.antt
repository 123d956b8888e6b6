-- A dataflow's calls one by one, and then in a row: each claim that was taken is answered or kept, and each upquery
-- that it opened ended or is in hand.
use Rattle.std.proofs.Common.{rules, ◌≡◌, ◌+◌, ℕ, List, [], ◌∷◌, ◌++◌, Option, None, Some, Ok, Err, refl, sym, ap}
use Rattle.std.proofs.Common.{arith, append_assoc, append-nil, ⊎_elim, ◌∙◌, subst}
use Rattle.std.proofs.lemmas.Grind.{flat_map-append}
use Rattle.std.proofs.lemmas.List.{map-append}
use Rattle.nr_core.proofs.Sums.{total-append}
use Rattle.nr_core.specs.Sums.{total}
use Rattle.nr_board.specs.Callers.{Caller}
use Rattle.nr_ids.specs.declared.admissions.Refused.TheVariants as refused
use Rattle.nr_idmap.specs.IdLaws.{OneUpquery}
use Rattle.nr_idmap.specs.Keepers.{Owed, Sent, owed_at}
use Rattle.nr_idmap.specs.Tags.{tag_of}
use Rattle.nr_serve.proofs.Filled.{Made, fills_done-append, made_none, replace_made, update_made}
use Rattle.nr_trigger.specs.declared.post.Post.{Post}
use Rattle.nr_idserve.specs.declared.taking.Taken.{Taken}
use Rattle.nr_idserve.specs.declared.taking.Taken.TheVariants as taken
use Rattle.nr_idserve.specs.IdEnds.{FailsGroup, RaisesGroup}
use Rattle.nr_idserve.specs.IdFlows.{IdFlowSeen}
use Rattle.nr_idserve.specs.IdTakes.{AdmitsNext, NextsId, Say, TakesById, TakesNext}
use Rattle.nr_idserve.specs.IdLedger.{Answered, AreAnswers, AreTheOpen, DoesById, EachUpqueryEndsOnce, IdEnding}
use Rattle.nr_idserve.specs.IdLedger.{IsEachOnceById, RunById, answered_by, fills_by, ids_of, ids_refused, ids_taken}
use Rattle.nr_idserve.specs.IdLedger.{opened_by, owed_of}
use Rattle.nr_idserve.specs.IdLedger.DoesById.{Takes, Fills, FillLacks, Fails, FailWorn, Invalidates, InvalidateWorn}
use Rattle.nr_idserve.specs.IdLedger.DoesById.{Keeps, Updates, Replaces, Evicts, Tells, Hears, Looks}
use Rattle.nr_idserve.specs.IdLedger.RunById.{Begins, Then}
use Rattle.nr_board.specs.WriterAnswers.{ReplacesKey, UpdatesKey}
use Rattle.nr_idserve.proofs.IdMade.{Leaves, LeavesOpen, claims, evict_leaves, fill_leaves, keeper_of, lack_leaves}
use Rattle.nr_idserve.proofs.IdMade.{making_room_leaves, owes, rests, way_leaves, withdraw_leaves, worn_leaves}
use Rattle.nr_idserve.proofs.IdMade.{none_open, one_each_id}

answers-append : (l m : List IdEnding) → AreAnswers l → AreAnswers m → AreAnswers (l ++ m)
answers-append [] m none more = more
answers-append (ending ∷ l) m some more = (some.0, answers-append l m some.1 more)

-- ONE CALL
-- what it took, and what became of claims and upqueries
record Books (old new : IdFlowSeen) (held left : List Owed) (answers : List Answered) (ends : List IdEnding) : Type
    0 where
  pub gain : List Post
  pub taken : new.taker.taken ≡ old.taker.taken ++ gain
  pub claims : ids_refused old.refused ++ ids_taken gain ≡ ids_of answers ++ ids_refused new.refused
  pub each : (count : Owed → ℕ)
      → total count (opened_by answers) + total count held ≡ total count (owed_of ends) + total count left
  pub made : Made old.writer.writer new.writer.writer (fills_by ends)
  pub still : AreTheOpen old.writer held → LeavesOpen new.writer left ends

-- one that takes and answers no claim
untaken : {old new : IdFlowSeen} {held left : List Owed} {ends : List IdEnding}
    → ((count : Owed → ℕ) → total count held ≡ total count (owed_of ends) + total count left)
    → Leaves old new held left ends → Books old new held left [] ends
untaken each leaves = grind (arith, append-nil)

quiet : {old new : IdFlowSeen} {held : List Owed} → Leaves old new held held [] → Books old new held held [] []
quiet leaves = untaken (λ count. omega arith) leaves

-- one that spends an upquery
spends : {old new : IdFlowSeen} (owed : Owed) (before after : List Owed) {ends : List IdEnding}
    → owed_of ends ≡ owed ∷ [] → Leaves old new (before ++ owed ∷ after) (before ++ after) ends
    → Books old new (before ++ owed ∷ after) (before ++ after) [] ends
spends owed before after is leaves = grind (arith, untaken, total-append)

-- A TAKE
-- the claim that comes next: the one that was kept, or one of the queue
record Comes (old : IdFlowSeen) (id : ℕ) (new : IdFlowSeen) : Type 0 where
  pub gain : List Post
  pub taken : new.taker.taken ≡ old.taker.taken ++ gain
  pub claims : ids_refused old.refused ++ ids_taken gain ≡ id ∷ []
  pub none : new.refused ≡ None
  pub writer : new.writer ≡ old.writer

comes : (old new : IdFlowSeen) (id : ℕ) → NextsId old new (Some id) → Comes old id new
comes old new id is = grind (arith, append-nil)

-- a claim that came is answered, or kept
record Answers (old : IdFlowSeen) (id : ℕ) (answer : Taken) (new : IdFlowSeen) (held : List Owed) : Type 0 where
  pub taker : new.taker ≡ old.taker
  pub claims : id ∷ [] ≡ ids_of (answered_by None answer) ++ ids_refused new.refused
  pub made : Made old.writer.writer new.writer.writer []
  pub still : AreTheOpen old.writer held → AreTheOpen new.writer (opened_by (answered_by None answer) ++ held)

module _ (said : Option Say) (held : List Owed) where
  answers : (old new : IdFlowSeen) (id : ℕ) (answer : Taken) → old.refused ≡ None → AdmitsNext id said old new answer
      → Answers old id answer new held
  answers old new id (taken.Asked sent) none admits =
      let (leaves, its) = making_room_leaves held old new id said (Ok sent) admits in record {
        taker = leaves.taker;
        claims = rw (leaves.refused, none, its);
        made = leaves.made;
        still = λ was. (leaves.still was).0;
      }
  answers old new id (taken.Passed other) none admits =
      let leaves = (making_room_leaves held old new id said (Err admits.1) admits.3).0 in record {
        taker = leaves.taker;
        claims = rw (leaves.refused, none, admits.0);
        made = leaves.made;
        still = λ was. (leaves.still was).0;
      }
  answers old new id (taken.Full other) none admits =
      let leaves = (making_room_leaves held old admits.1 id said (Err refused.Full) admits.2).0 in record {
        taker = ap (λ (flow : IdFlowSeen). flow.taker) admits.3 ∙ leaves.taker;
        claims = ap (λ (flow : IdFlowSeen). ids_refused flow.refused) (sym admits.3);
        made = subst (λ (flow : IdFlowSeen). Made old.writer.writer flow.writer.writer []) (sym admits.3) leaves.made;
        still = λ was. subst (λ (flow : IdFlowSeen). AreTheOpen flow.writer held) (sym admits.3) (leaves.still was).0;
      }
  answers old new id taken.Idle none admits = absurd admits

-- an id of 0 is passed
passes : (old new : IdFlowSeen) (id : ℕ) (answer : Taken) (held : List Owed) → old.refused ≡ None → id ≡ 0
    → answer ≡ taken.Passed 0 → new ≡ old → Answers old id answer new held
passes old new id answer held none is_zero passed same = grind (arith, made_none)

next_answers : {old mid new : IdFlowSeen} {id : ℕ} (answer : Taken) (held : List Owed) → Comes old id mid
    → Answers mid id answer new held
    → Books old new held (opened_by (answered_by None answer) ++ held) (answered_by None answer) []
next_answers answer held came says = grind arith

idle : {old new : IdFlowSeen} {held : List Owed} → NextsId old new None → Books old new held held [] []
idle none = grind (arith, append-nil, made_none)

module _ (said : Option Say) where
  takes_next : (old new : IdFlowSeen) (answer : Taken) (held : List Owed) → TakesNext said old new answer
      → Books old new held (opened_by (answered_by None answer) ++ held) (answered_by None answer) []
  takes_next old new answer held next =
      let came = comes old next.1 next.0 next.2 in
      next_answers answer held came (⊎_elim
      (λ none. passes next.1 new next.0 answer held came.none none.0 none.1 none.2)
      (λ admits. answers said held next.1 new next.0 answer came.none admits)
      next.3)

  -- none was kept
  takes_free : (old new : IdFlowSeen) (answer : Taken) (held : List Owed) → old.kept ≡ None
      → TakesById said old new answer
      → Books old new held (opened_by (answered_by None answer) ++ held) (answered_by None answer) []
  takes_free old new (taken.Asked sent) held none takes = grind (arith, takes_next old new (taken.Asked sent) held)
  takes_free old new taken.Idle held none takes = idle takes.1
  takes_free old new answer held none takes = takes_next old new answer held takes.1

  -- one was kept, and comes first
  kept_first : (old new : IdFlowSeen) (answer : Taken) (sent : Sent) → old.kept ≡ Some sent
      → TakesById said old new answer → new ≡ record old { kept = None }
  kept_first old new answer sent is is' = grind arith

  takes : (old new : IdFlowSeen) (answer : Taken) (held : List Owed) (kept : Option Sent) → old.kept ≡ kept
      → TakesById said old new answer
      → Books old new held (opened_by (answered_by kept answer) ++ held) (answered_by kept answer) []
  takes old new answer held kept is does = search (rules, takes_free, kept_first, quiet, rests)

-- ANY CALL
books : {old new : IdFlowSeen} {held left : List Owed} {answers : List Answered} {ends : List IdEnding}
    → DoesById old held answers ends new left → Books old new held left answers ends
books (Takes old new said answer held does) = takes said old new answer held old.kept refl does
books (Fills old new sent rows said before after does) =
    spends sent.owed before after refl (fill_leaves old new sent before after rows said does)
books (FillLacks old new sent rows back held does) = quiet (lack_leaves old new sent rows back does)
books (Fails old new sent said before after does) =
    spends sent.owed before after refl (withdraw_leaves old new sent before after FailsGroup said does)
books (FailWorn old new sent back held does) = quiet (worn_leaves old new sent FailsGroup back does)
books (Invalidates old new sent said before after does) =
    spends sent.owed before after refl (withdraw_leaves old new sent before after RaisesGroup said does)
books (InvalidateWorn old new sent back held does) = quiet (worn_leaves old new sent RaisesGroup back does)
books (Keeps old new sent held is) = quiet (rests (ap claims is) (ap keeper_of is))
books (Updates old new id deltas answer held does same is) =
    quiet
    (way_leaves (λ way. UpdatesKey _ way deltas) (λ way. update_made _ way deltas) old new id answer does same is)
books (Replaces old new id rows answer held does same is) =
    quiet
    (way_leaves (λ way. ReplacesKey way (tag_of id ∷ rows)) (λ way. replace_made way (tag_of id ∷ rows)) old new id
    answer does same is)
books (Evicts old new id answer held does same is) = quiet (evict_leaves old new id answer does same is)
books (Tells old new held made same is) =
    quiet (owes (ap claims is) (made_none _ _ (ap (λ (writer : Caller). writer.mine) made)) same)
books (Hears old new note held hears same is) =
    quiet (owes (ap claims is) (made_none _ _ hears.map.learns.mine) same)
books (Looks old new held is) = quiet (rests (ap claims is) (ap keeper_of is))

-- IN A ROW
goes_on : {first old new : IdFlowSeen} {held left : List Owed} {answers more : List Answered}
    {ends others : List IdEnding} → OneUpquery → IsEachOnceById first old held answers ends
    → Books old new held left more others → IsEachOnceById first new left (answers ++ more) (ends ++ others)
goes_on law so book =
    grind (
      arith,
      append_assoc,
      map-append,
      flat_map-append,
      total-append,
      answers-append,
      one_each_id,
      fills_done-append,
    )

begun : (first : IdFlowSeen) → ((way : ℕ) → owed_at first.writer way ≡ None) → first.refused ≡ None
    → IsEachOnceById first first [] [] []
begun first none free = record {
  gain = [];
  taken = sym (append-nil first.taker.taken);
  claims = sym (ap ids_refused free);
  each = λ count. omega arith;
  answered = tt;
  all_open = none_open first.writer none;
  one = λ tied id. omega arith;
  calls = [];
  mine = sym (append-nil first.writer.writer.mine);
  fills = refl;
}

runs : {first now : IdFlowSeen} {held : List Owed} {answers : List Answered} {ends : List IdEnding} → OneUpquery
    → RunById first now held answers ends → IsEachOnceById first now held answers ends
runs {first} law (Begins none free) = begun first none free
runs {first} law (Then old new held left answers more ends others run does) = goes_on law (runs law run) (books does)

pub each_upquery_ends_once_lem : OneUpquery → EachUpqueryEndsOnce
each_upquery_ends_once_lem law first now held answers ends run = runs law run
