-- Steps that learn: the writer compares how readers are with its lists, a reader itself with what it was told of
-- itself; and a reader that finds a key again learns whether the key still has the put number of its hold.
use Rattle.std.proofs.Common.{[], List, ap, append-nil, arith, cond, get_or, inl, inr, map, refl, subst, suc, sym, zero}
use Rattle.std.proofs.Common.{ℕ, ◌<◌, ◌∙◌, ◌∷◌, ◌≡◌, ◌≤◌, Bool, eq-eqb, false, set, true, ⊎_elim, ◌-◌, ◌⊎◌}
use Rattle.std.proofs.lemmas.Bool.{lt-leb, eqb-true}
use Rattle.std.specs.Prelude.{Some}
use lib.ListN.{get_elem?}
use lib.Seq.{set-get_or}
use mathlib.Core.Logic.{dite}
use mathlib.Core.Option.{some, some-injective}
use native.Mathlib.Decide.{dec_le, ℕ_discrete}
use Rattle.nr_model.specs.Histories.{Entry}
use Rattle.nr_model.specs.Maps.{PartialMap}
use Rattle.nr_core.proofs.Counting.{retired_once, named_inside}
use Rattle.nr_core.proofs.Sums.{only-is, some_term, term_le}
use Rattle.nr_core.specs.Core.{Core, Grips}
use Rattle.nr_core.specs.Roles.{held, holds, retirements, taken}
use Rattle.nr_core.specs.declared.operation.Operation.TheVariants.{Load}
use Rattle.nr_core.specs.Slots.{name_number, names_slot}
use Rattle.nr_core.specs.Steps.{LoadsWord, FindsAgain}
use Rattle.nr_core.specs.Story.{map_after, entry}
use Rattle.nr_core.specs.Sums.{below, only}
use Rattle.nr_core.specs.declared.places.Retired.{Retired}
use Rattle.nr_core.specs.declared.roles.Desk.{Desk}
use Rattle.nr_core.specs.declared.roles.Grip.{Grip}
use Rattle.nr_core.specs.declared.roles.Grip.TheVariants.{Nothing, On}
use Rattle.nr_core.specs.declared.roles.Role.{Role}
use Rattle.nr_core.specs.declared.roles.Role.TheVariants.{Reader, Writer}
use Rattle.nr_core.specs.declared.shape.Shape.{Shape}
use Rattle.nr_core.specs.Marks.{Marks, Past, gripped, past, with_look}
use Rattle.nr_core.specs.Pasts.{Current, Living, Refreshed}
use Rattle.nr_core.specs.Marked.{AllSince, CanMark, Desked, Once, Since, lives, Remarked}
use Rattle.nr_core.specs.Exact.{Lists}
use Rattle.nr_core.specs.MarkSteps.{ReaderLearns, WriterLearns, ComparesPuts, FindsAgainMarks, found_again}
use Rattle.nr_core.proofs.ListPlaces.{at_maps, no_places, some_is}
use Rattle.nr_core.proofs.Holders.{since_itself, since_now}
use Rattle.nr_core.proofs.ReaderMarks.{reader_step, contents_loaded}
use Rattle.nr_core.proofs.Reach.{taken_nobody}
use Rattle.nr_core.proofs.SwapMarks.{grips_it}
use Rattle.nr_core.proofs.Tidy.{listed}
use Rattle.nr_core.proofs.LookMarks.{desk_of, load_stays, writer_step}
use Rattle.nr_core.proofs.PutNumbers.{none_end, QuietEnd, one_ends}
use Rattle.nr_model.specs.declared.rows.Row.{Row}
use Rattle.nr_core.proofs.KeyWords.{is_named}
use Rattle.nr_core.specs.Puts.{put_number}
use Rattle.nr_core.proofs.Choices.{either}
use Rattle.nr_model.specs.declared.calls.Call.TheVariants as model
use Rattle.nr_model.specs.declared.calls.Reply.TheVariants as reply

below_some : (f : ℕ → ℕ) (n : ℕ) → 0 < below f n → (k : ℕ) × (k < n) × (0 < f k)
below_some f zero l = absurd (omega arith)
below_some f (suc n) l =
    dite (ℕ_discrete (f n) 0) (λ z. let t = below_some f n (omega arith) in (t.0, let l' = t.1 in omega arith, t.2))
    (λ nz. (n, omega arith, omega arith))

grip_near : (shape : Shape) (words : List ℕ) (at : PartialMap) (holders : ℕ → ℕ) (x : Grip) (slot : ℕ)
    → Grips shape words at holders x → gripped x ≡ Some slot → slot < shape.slots
grip_near shape words at holders Nothing slot t e = absurd (cc)
grip_near shape words at holders (On s rows sized) slot t e = subst (λ (y : ℕ). y < shape.slots) (some_is s slot e) t.0

module _ {A : Type 0} (role : A → Role) (marks : A → Marks) where
  -- a slot that a reader holds is named or retired
  pub held_lives : {shape : Shape} {words : List ℕ} (callers : List A) {log : List Entry}
      → Core shape words (map role callers) log → (id : ℕ) {writer : A} {desk : Desk}
      → get_elem? callers id ≡ some writer → role writer ≡ Writer desk → (place : ℕ) {reader : ℕ} {grip : Grip}
      {who : A}
      → get_elem? callers place ≡ some who → role who ≡ Reader reader grip → (slot : ℕ) → gripped grip ≡ Some slot
      → (slot < shape.slots) × (0 < lives shape words desk slot)
  held_lives {shape} {words} callers {log} core id {writer} {desk} at was place {reader} {grip} {who} there is slot
      on =
      let roles = map role callers in
      let at' : get_elem? roles id ≡ some (Writer desk) = at_maps role callers id writer at ∙ ap some was in
      let there' = at_maps role callers place who there ∙ ap some is in
      let mine = core.knows id (Writer desk) at' in
      let near = grip_near shape words (map_after shape log) (held roles) grip slot
      (core.knows place (Reader reader grip) there') on in
      let part = term_le (holds slot) roles place (Reader reader grip) there' in
      let one = grips_it grip slot on in
      let held_so : 0 < held roles slot = omega arith in
      let free : taken slot desk.place ≡ 0
      = dite (ℕ_discrete (taken slot desk.place) 0) (λ z. z) (λ nz. absurd
      (let nobody
      = taken_nobody shape words (map_after shape log) (held roles) desk.fresh desk.retired slot desk.place mine.place
      (omega arith) in
      omega arith)) in
      let used = dite (dec_le desk.fresh slot) (λ l. absurd (let z = (mine.free slot l near).0 in omega arith))
      (λ l. ap (λ b. cond {A = ℕ} b 1 0) (lt-leb desk.fresh slot (omega arith))) in
      (near, omega (arith, retired_once shape words roles log core id desk at' slot near))

  module _ (shape : Shape) (words : List ℕ) (callers : List A) (log : List Entry)
      (core : Core shape words (map role callers) log)
      (once : Once role marks callers) (id : ℕ) (me : A) (desk : Desk) (at : get_elem? callers id ≡ some me)
      (was : role me ≡ Writer desk)
      (own : Desked role marks shape words callers log desk (marks me)) where
    -- what the writer's lists say of a reader as it is
    current : (place reader : ℕ) (who : A) (grip : Grip) → get_elem? callers place ≡ some who
        → role who ≡ Reader reader grip → Current desk.retired (marks me) (past reader grip (marks who))
    current place reader who grip there is = record {
      placed = λ slot on. ((own.held place reader slot who grip there is on).0, living slot on);
      kept = λ slot on. (own.held place reader slot who grip there is on).1;
      polled = λ i y e same.
          let now = since_itself role marks callers once place there is y (own.noted i y e) same in
          (now.0, λ acts. (now.1 acts).0);
    }
      where
        living : (slot : ℕ) → gripped grip ≡ Some slot → Living desk.retired (marks me) slot
        living slot on =
            let lives_so = (held_lives callers core id at was place there is slot on).1 in
            dite (ℕ_discrete (retirements slot desk.retired) 0)
            (λ z.
            let b = below_some (λ k. only (suc slot) (name_number (get_or words k 0))) shape.keys (omega arith) in
            let l = b.1 in
            inl (b.0, omega arith, own.names b.0 l ∙ only-is (suc slot) (name_number (get_or words b.0 0)) b.2))
            (λ nz.
            let b = some_term (λ (y : Retired). only slot y.slot) desk.retired (omega arith) in
            inr (b.0, b.1, b.2, only-is slot b.1.slot b.3))

    refreshed : (told : List Past) → AllSince role marks callers told
        → (news : List Past) × AllSince role marks callers news × Refreshed desk.retired (marks me) told news
    refreshed [] since = (
      [],
      no_places (Since role marks callers),
      search arith,
    )
    refreshed (o ∷ told) since =
        let w = since 0 o refl in let q : Past = past o.reader w.grip (marks w.who) in
        let t = refreshed told (λ n p e. since (suc n) p e) in
        let now_so
        = since_now
        (record { place = w.place; who = w.who; reader = o.reader; grip = w.grip; there = w.there; is = w.is }) in
        let cur = current w.place o.reader w.who w.grip w.there w.is in (
          q ∷ t.0,
          first (Since role marks callers) q t.0 now_so t.1,
          record {
            newer = newer o told q t.0 refl w.least t.2.newer;
            current = first (Current desk.retired (marks me)) q t.0 cur t.2.current;
          },
        )
      where
        first : (P : Past → Type 0) (q : Past) (l : List Past) → P q
            → ((n : ℕ) (p : Past) → get_elem? l n ≡ some p → P p) → (n : ℕ) (p : Past) → get_elem? (q ∷ l) n ≡ some p
            → P p
        first P q l a b zero p e = subst P (some-injective q p e) a
        first P q l a b (suc n) p e = b n p e

        newer : (o : Past) (told : List Past) (q : Past) (l : List Past) → q.reader ≡ o.reader → o.count ≤ q.count
            → ((n : ℕ) (o' : Past) → get_elem? told n ≡ some o'
            → (p : Past) × (get_elem? l n ≡ some p) × (p.reader ≡ o'.reader)
            × (o'.count ≤ p.count))
            → (n : ℕ) (o' : Past) → get_elem? (o ∷ told) n ≡ some o'
            → (p : Past) × (get_elem? (q ∷ l) n ≡ some p) × (p.reader ≡ o'.reader) × (o'.count ≤ p.count)
        newer o told q l a b c zero o' e =
            rw (sym (some-injective o o' e)) (q, refl, a, b)
        newer o told q l a b c (suc n) o' e = c n o' e

  module _ (shape : Shape) (id : ℕ) (me : A) (told : List Past) (place : ℕ) where
    -- the writer learns how the readers are that it was told of
    pub learns_writer : (desk : Desk) → role me ≡ Writer desk
        → CanMark role marks shape id me told (Load place) (LoadsWord (role me))
        (WriterLearns shape (marks me) desk told)
    learns_writer desk was words callers log core m once at since after entries ans =
        let own = desk_of id m at was in
        let t = refreshed shape words callers log core once id me desk at was own told since in
        writer_step core m at was (ans.0 ∙ was) (marks me) t.0 t.1 (λ place note here. inl here)
        (load_stays entries place own (none_end log entries ans.1)
        (λ s. omega arith) (λ s rest. rest) (marks me).polls (marks me).loads own.noted own.sweep) (
          refl,
          t.2,
          rw ans.1 (subst (Lists desk (marks me) shape) (sym (append-nil log))
              (listed role marks shape words callers log id me desk core at was own)),
        )

    -- a reader compares itself with what it was told of itself
    pub learns_reader : (reader : ℕ) (grip : Grip) → role me ≡ Reader reader grip
        → CanMark role marks shape id me told (Load place) (LoadsWord (role me))
        (ReaderLearns reader grip (marks me) told)
    learns_reader reader grip was words callers log core m once at since after entries ans = reader_step
        m at was (ans.0 ∙ was) (λ j _. ap (λ l. name_number (get_or l j 0)) (set-get_or words place 0))
        (none_end log entries ans.1) (marks me) refl (inl (refl, refl, refl))
        (λ j slot u desk there writes t e. (t.held id reader slot me grip at was e, λ _. e))
        (contents_loaded shape words place) (
          refl,
          refl,
          λ n o e. since_itself role marks callers once id at was o (since n o e),
        )

-- A reader that holds a slot finds a key again: whether the key still has the put number of the hold.

module _ {A : Type 0} (role : A → Role) (marks : A → Marks) where
  module _ (shape : Shape) (id : ℕ) (me : A) (known : List Past) where
    pub finds_again_marked : (reader slot key : ℕ) (rows : List Row) (sized : Bool) → key < shape.keys
        → role me ≡ Reader reader (On slot rows sized)
        → CanMark role marks shape id me known (Load key) (FindsAgain shape reader slot rows sized key)
        (FindsAgainMarks (marks me) slot key)
    finds_again_marked reader slot key rows sized near was words callers log core m once at since after entries ans =
        let word : ℕ = get_or words key 0 in
        let grip = On slot rows sized in
        let e = entry reader (model.Find key) (reply.Rows rows) in
        let tells = FindsAgainMarks (marks me) slot key in
        let names : (k : ℕ) → name_number (get_or (set words key word) k 0) ≡ name_number (get_or words k 0)
        = λ k. ap (λ l. name_number (get_or l k 0)) (set-get_or words key 0) in
        let w = m.writer in let own = desk_of w.place m w.there w.is in
        let held_put : get_or (marks w.who).puts slot 0 ≡ (marks me).put
        = (own.held id reader slot me grip at was refl).0 in
        let looked : Marks = with_look (marks me) key (name_number word) in
        let finish : (b : Bool) → names_slot slot word ≡ b → QuietEnd log entries
        → (((marks me).acts < (found_again b looked).acts) × (b ≡ true))
        ⊎ ((found_again b looked ≡ looked) × (b ≡ false))
        → ((found_again b looked).put ≡ (marks me).put) → ((found_again b looked).polls ≡ (marks me).polls)
        → ComparesPuts b word (marks me).put (put_number log key)
        → Remarked role marks shape words callers log id (Load key) me after entries tells
        = λ b b_is ends moves same_put same_polls compares. let now = found_again b looked in
        reader_step m at was ans.0 (λ k _. names k) ends now same_polls
        (⊎_elim (λ (t : ((marks me).acts < now.acts) × (b ≡ true)). inr t.0)
        (λ (t : (now ≡ looked) × (b ≡ false)). inl
        (refl, ap (λ (k : Marks). k.acts) t.0, ap (λ (k : Marks). k.put) t.0))
        moves)
        (λ j held u desk there writes t on.
        let kept = t.held id reader held me grip at was on in ((kept.0 ∙ sym same_put, kept.1), λ _. on))
        (contents_loaded shape words key) (
          ap (λ (c : Bool). found_again c looked) (sym b_is),
          refl,
          subst (λ (p : Bool × ℕ). ComparesPuts p.0 word (marks me).put p.1) (λ i. (sym b_is i, sym (ends.0 key) i))
              compares,
        ) in
        either (names_slot slot word)
        (λ yes. let same : name_number word ≡ suc slot = eqb-true (name_number word) (suc slot) yes in
        finish true yes
        (one_ends log entries e (ans.1 ∙ ap (λ (b : Bool). cond {A = List Entry} b (e ∷ []) []) yes) refl)
        (inl (omega arith, refl)) refl refl (sym (own.puts key slot near same).0 ∙ held_put)) (λ no. finish false no
        (none_end log entries (ans.1 ∙ ap (λ (b : Bool). cond {A = List Entry} b (e ∷ []) []) no)) (inr (refl, refl))
        refl refl (λ full same_number.
        let other : ℕ = name_number word - 1 in let names_other : name_number word ≡ suc other = omega arith in
        let living = held_lives role marks callers core w.place w.there w.is id at was slot refl in
        let inside = named_inside shape words (map role callers) log core key other near names_other in
        let same
        = own.apart slot other living.0 inside living.1 (omega (arith, is_named shape words key other near names_other))
        (held_put ∙ sym same_number ∙ sym (own.puts key other near names_other).0) in
        let yes = eq-eqb (name_number word) (suc slot) (names_other ∙ ap suc (sym same)) in
        let clash : true ≡ false = sym yes ∙ no in absurd (cc)))
