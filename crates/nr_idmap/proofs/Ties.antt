-- The tie between the two tables, and the ledger, over a call on one way: the other ways keep theirs.
use Rattle.std.proofs.Common.{◌≡◌, ◌≢◌, ℕ, zero, suc, ◌<◌, ⊎_elim, inl, List, ◌∷◌, refl, sym, ap, ◌∙◌, arith, eq-eqb}
use Rattle.std.proofs.Common.{Result, Option, Some, None}
use Rattle.std.proofs.lemmas.Bool.{cases_eq}
use Rattle.std.proofs.lemmas.Bool.Decides.{nat_tests}
use Rattle.nr_model.specs.declared.rows.Row.{Row}
use Rattle.nr_model.specs.declared.batches.Delta.{Delta}
use Rattle.nr_model.specs.declared.batches.ApplyFault.{ApplyFault}
use Rattle.nr_model.specs.declared.calls.Call.{Call}
use Rattle.nr_model.specs.declared.calls.Call.TheVariants.{Fill, Replace}
use Rattle.nr_model.specs.declared.calls.Reply.{Reply}
use Rattle.nr_model.specs.declared.calls.Reply.TheVariants as reply
use Rattle.nr_model.specs.declared.states.KeyState.{KeyState}
use Rattle.nr_model.specs.declared.states.KeyState.TheVariants.{Asked, Rows}
use Rattle.nr_model.specs.Batches.{applied}
use Rattle.nr_model.specs.Maps.{PartialMap, call_key, fill_reply, filled, replaced, reply_to, rows_or, state_of}
use Rattle.nr_model.specs.Maps.{updated}
use Rattle.nr_board.specs.Callers.{Caller, KnowsOwn, map_seen}
use Rattle.nr_ids.specs.declared.plan.Plan.{Plan}
use Rattle.nr_ids.specs.Answers.{FindsWay}
use Rattle.nr_ids.specs.Events.{Event, IsLegal, name_of}
use Rattle.nr_ids.specs.Groups.{ways}
use Rattle.nr_ids.specs.Tokens.{Opened, Token}
use Rattle.nr_ids.specs.Tokens as ids
use Rattle.nr_ids.proofs.Calls.{LeavesNames, leaves_names, looks_leave}
use Rattle.nr_ids.proofs.Logs.{one_way}
use Rattle.nr_ids.proofs.Through.{way_looks}
use Rattle.nr_idmap.specs.Keepers.{Agrees, IsTied, Keeper, OwesElse, OwesSame, keeper_of, owed_for}
use Rattle.nr_idmap.specs.Tags.{AreIdDeltas, IdSet, set_at, id_set_of, tag_of}
use Rattle.nr_idmap.specs.Tidy.{KeepsTags}
use Rattle.nr_idmap.proofs.Entries.{Rested, Stayed, Went}
use Rattle.nr_idmap.proofs.Stills.{agrees_still, owed_still}
use Rattle.nr_idmap.proofs.Tagging.{applied_behind, put_first}

-- ONE KEY'S STATE
-- a key's set has its way's name
pub set_named : (name : ℕ) (state : KeyState) (set : IdSet) → Agrees name state → id_set_of state ≡ Some set
    → (0 < name) × (set.id ≡ name)
set_named name state set agrees there = grind arith

pub owed_none : (way name number : ℕ) (rows : List Row) → owed_for way name (Rows number rows) ≡ None
owed_none way name number rows = grind arith

pub owed_asked : (way name number : ℕ) → 0 < name →
    owed_for way name (Asked number) ≡ Some (record { way = way; number = number; id = name })
owed_asked way name number real = grind arith

-- a fill is done where the key was asked for with its number, and else leaves the key
pub fill_done : (number : ℕ) (state : KeyState) → fill_reply number state ≡ reply.Done → state ≡ Asked number
fill_done number state done = grind (arith, nat_tests)

pub fill_leaves : (number : ℕ) (rows : List Row) (state : KeyState) → fill_reply number state ≢ reply.Done →
    filled number rows state ≡ state
fill_leaves number rows state undone = grind (arith, nat_tests)

pub fill_puts : (number : ℕ) (rows : List Row) (state : KeyState) → state ≡ Asked number
    → filled number rows state ≡ Rows number rows
fill_puts number rows state is = rw (is, eq-eqb number number refl) refl

-- the rows behind the name's tag
abbrev pub Tagged : ℕ → List Row → Type 0
Tagged name set = (0 < name) × (others : List Row) × (set ≡ tag_of name ∷ others)

pub fill_agrees : (name number : ℕ) (rows : List Row) (state : KeyState) → Tagged name rows → Agrees name state →
    Agrees name (filled number rows state)
fill_agrees name number rows state tagged agrees = grind (arith, nat_tests)

pub replace_agrees : (name : ℕ) (rows : List Row) (state : KeyState) → Tagged name rows → Agrees name state →
    Agrees name (replaced rows state)
replace_agrees name rows state tagged agrees = grind arith

pub replace_owes : (way name : ℕ) (rows : List Row) (state : KeyState)
    → owed_for way name (replaced rows state) ≡ owed_for way name state
replace_owes way name rows state = grind arith

pub update_owes : (way name bound : ℕ) (batch : List Delta) (state : KeyState) →
    owed_for way name (updated bound batch state) ≡ owed_for way name state
update_owes way name bound batch state = grind arith

behind : (id : ℕ) (old : List Row) (r : Result (List Row) ApplyFault)
    → rows_or (put_first (tag_of id) r) (tag_of id ∷ old) ≡ tag_of id ∷ rows_or r old
behind id old r = grind arith

pub update_agrees : (name bound : ℕ) (batch : List Delta) (state : KeyState) → 0 < bound → AreIdDeltas batch
    → Agrees name state →
    Agrees name (updated bound batch state)
update_agrees name zero batch state room users agrees = absurd (omega arith)
update_agrees name (suc bound) batch state room users agrees =
    let tagged = λ (old : List Row). applied_behind bound (tag_of name) old batch users in
    let left = λ (old : List Row). behind name old (applied bound old batch) in grind arith

-- WHAT A CALL MUST KEEP TO
module _ (plan : Plan) (log : List Event) (legal : IsLegal plan log) (mid : PartialMap)
    (agree : (way : ℕ) → Agrees (name_of log way) (state_of mid way)) (way : ℕ) (rows : List Row)
    (tagged : Tagged (name_of log way) rows)
  where
    filled_undone : (number : ℕ) (state : KeyState) (set : IdSet) → id_set_of state ≡ Some set
        → fill_reply number state ≢ reply.Done
    filled_undone number state set there done = grind arith

    pub fill_keeps : (number : ℕ) {answer : Reply} → answer ≡ reply_to mid (Fill way number rows) →
        KeepsTags mid (Fill way number rows) answer
    fill_keeps number replied = λ done. record {
      id = name_of log way;
      others = tagged.1;
      tagged = tagged.2;
      nowhere = λ key set there same. let its = set_named (name_of log key) (state_of mid key) set (agree key) there in
          let at : way ≡ key = one_way plan log way key (name_of log way) legal tagged.0 refl (sym its.1 ∙ same) in
          filled_undone number (state_of mid way) set (ap (set_at mid) at ∙ there) (sym replied ∙ done);
    }

    pub replace_keeps : (answer : Reply) → KeepsTags mid (Replace way rows) answer
    replace_keeps answer = λ done. record {
      id = name_of log way;
      others = tagged.1;
      tagged = tagged.2;
      same = λ set there.
          (set_named (name_of log way) (state_of mid way) set (agree way) there).1;
    }

-- THE TOKENS
pub rested_of : {w a : Caller} {c : Token} → IsTied (keeper_of w a c) → Rested w
rested_of tied = record { number = tied.writes.1; sound = tied.sound; tidy = tied.tidy }

pub retied : {w a w' a' : Caller} {c c' : Token} {acts : List Event} → IsTied (keeper_of w a c) → Rested w'
    → w'.table ≡ w.table → (a'.table ≡ a.table) × KnowsOwn a' → ids.Grows acts c c'
    → ((way : ℕ) → Agrees (name_of c'.seen way) (state_of (map_seen w') way)) → IsTied (keeper_of w' a' c')
retied tied rested table asker grows agrees = record {
  writes = (refl, rested.number);
  asks = (asker.0 ∙ tied.asks.0 ∙ sym table, asker.1);
  names = (refl, grows.number ∙ tied.names.1);
  ways_are = rw (grows.directory, table) tied.ways_are;
  room = rw table tied.room;
  sound = rested.sound;
  tidy = rested.tidy;
  legal = rw grows.directory grows.legal;
  agrees = agrees;
}

-- what keeps the tie, and leaves the same upqueries open
abbrev pub Leaves : Keeper → Keeper → Type 0
Leaves old new = IsTied new × OwesSame old new

-- steps that neither make an entry nor change a name
pub stays_tied : {w a w' : Caller} {c c' : Token} → IsTied (keeper_of w a c) → Stayed w w' → LeavesNames c c'
    → Leaves (keeper_of w a c) (keeper_of w' a c')
stays_tied {c = c} {c'} tied stayed leaves =
    let names : (way : ℕ) → name_of c'.seen way ≡ name_of c.seen way
    = λ way. leaves_names c c' way tied.names.1 leaves in (
      retied tied stayed.rested stayed.table (refl, tied.asks.1) leaves.1
          (λ way. rw (names way) (agrees_still (name_of c.seen way) (tied.agrees way) (stayed.still way))),
      λ way. rw (names way) (owed_still way (name_of c.seen way) (tied.agrees way) (stayed.still way)),
    )

-- of the clerk alone
pub clerk_tied : {w a : Caller} {c c' : Token} → IsTied (keeper_of w a c) → LeavesNames c c'
    → Leaves (keeper_of w a c) (keeper_of w a c')
clerk_tied tied leaves =
    stays_tied tied (record { rested = rested_of tied; table = refl; still = λ way. inl refl }) leaves

-- as a search
pub found_leaves : (id : ℕ) (c c' : Token) (found : Option ℕ) → FindsWay id c c' found → LeavesNames c c'
found_leaves id c c' found finds = let look = way_looks id c c' found finds in looks_leave look.0 c c' look.1

pub found_names : (id : ℕ) (c c' : Token) (found : Option ℕ) → c.number ≡ 0 → FindsWay id c c' found → (way : ℕ)
    → name_of c'.seen way ≡ name_of c.seen way
found_names id c c' found clerk finds way = leaves_names c c' way clerk (found_leaves id c c' found finds)

pub searched : {w a : Caller} {c c' : Token} → IsTied (keeper_of w a c) → (id : ℕ) (found : Option ℕ)
    → FindsWay id c c' found → Leaves (keeper_of w a c) (keeper_of w a c')
searched {c = c} {c'} tied id found finds = clerk_tied tied (found_leaves id c c' found finds)

-- A CALL OF THE MAP'S WRITER
-- before its entry
module _ {w a w' : Caller} {c : Token} {call : Call} {answer : Reply} (tied : IsTied (keeper_of w a c))
    (went : Went w w' call answer) (way : ℕ) where
  pub mid_agrees : Agrees (name_of c.seen way) (state_of went.mid way)
  mid_agrees = agrees_still (name_of c.seen way) (tied.agrees way) (went.still way)

  pub mid_owes : owed_for way (name_of c.seen way) (state_of went.mid way)
      ≡ owed_for way (name_of c.seen way) (state_of (map_seen w) way)
  mid_owes = owed_still way (name_of c.seen way) (tied.agrees way) (went.still way)

-- and after it
module _ {w a w' : Caller} {c : Token} (c' : Token) {call : Call} {answer : Reply} (tied : IsTied (keeper_of w a c))
    (went : Went w w' call answer)
    (same : (way : ℕ) → way ≢ call_key call → name_of c'.seen way ≡ name_of c.seen way) where
  pub went_agrees : Agrees (name_of c'.seen (call_key call)) (state_of (map_seen w') (call_key call)) → (way : ℕ)
      → Agrees (name_of c'.seen way) (state_of (map_seen w') way)
  went_agrees here way = grind (arith, same way, went.others way, mid_agrees tied went way)

  pub went_else : (a' : Caller) → OwesElse (call_key call) (keeper_of w a c) (keeper_of w' a' c')
  went_else a' way off = rw (same way off, went.others way off) (mid_owes tied went way)

  pub went_owes : (a' : Caller) → (let key = call_key call in owed_for key (name_of c'.seen key)
      (state_of (map_seen w') key) ≡ owed_for key (name_of c.seen key) (state_of (map_seen w) key))
      → OwesSame (keeper_of w a c) (keeper_of w' a' c')
  went_owes a' here way =
      ⊎_elim (λ (at : way ≡ call_key call). rw at here) (λ (off : way ≢ call_key call). went_else a' way off)
      (cases_eq way (call_key call))

-- the way that the clerk found is a key
pub near_of : {w a : Caller} {id way : ℕ} {c c' : Token} → IsTied (keeper_of w a c) → FindsWay id c c' (Some way)
    → way < w.table.shape.keys
near_of {id = id} {way} {c} {c'} tied finds =
    let same = ap (λ (d : Opened). ways d.plan) (found_leaves id c c' (Some way) finds).1.directory in
    omega (arith, finds.1.inside, same, tied.ways_are)
