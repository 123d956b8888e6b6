-- The polls of retired slots, by a call one after the other or by a search in any order: where a poll finds its slot
-- held it notes a reader that holds it.
use Rattle.std.proofs.Common.{[], inl, List, ap, arith, get_or, length, map, refl, subst, sym, ℕ, ⊎_elim, ◌++◌, ◌<◌}
use Rattle.std.proofs.Common.{◌∙◌, ◌∷◌, ◌≡◌, ◌⊎◌, true, false, append-nil, length-append, ◌+◌, ◌≤◌}
use lib.ListN.{get_elem?}
use mathlib.Core.Option.{some, some-ne-none, some-injective}
use Rattle.nr_model.specs.Histories.{Entry}
use Rattle.nr_model.specs.declared.rows.Row.{Row}
use Rattle.nr_words.specs.KeyWords.{same_count}
use Rattle.nr_core.proofs.Sums.{got_at, only-same, term_le, total-remove, only-is, only-le, only-other, some_term}
use Rattle.nr_core.proofs.Sums.{terms_le, total-append}
use Rattle.nr_core.specs.Core.{Core}
use Rattle.nr_core.specs.Steps.{GivesUp, LoadsWord, Tries}
use Rattle.nr_core.specs.declared.operation.Operation.TheVariants.{Load}
use Rattle.nr_core.specs.Slots.{departures}
use Rattle.nr_core.specs.States.{no_retired, retired_at}
use Rattle.nr_core.specs.Sums.{only, total}
use Rattle.nr_core.specs.Writer.{taking_retired, moved_to, polled}
use Rattle.nr_core.specs.declared.calls.WriterCall.{WriterCall}
use Rattle.nr_core.specs.declared.places.Place.TheVariants.{Searching, Idle}
use Rattle.nr_core.specs.declared.places.Retired.{Retired}
use Rattle.nr_core.specs.declared.roles.Desk.{Desk}
use Rattle.nr_core.specs.declared.roles.Grip.{Grip}
use Rattle.nr_core.specs.declared.roles.Role.{Role}
use Rattle.nr_core.specs.declared.roles.Role.TheVariants.{Reader, Writer}
use Rattle.nr_core.specs.declared.shape.Shape.{Shape}
use Rattle.nr_core.specs.Marks.{Marks, Past, LoggedLoad, past, with_poll, with_scan, gripped}
use Rattle.nr_core.specs.Marked.{AllSince, CanMark, HoldNoOthers, MarkTelling, Marked, NotesPresent, Once, Remarked}
use Rattle.nr_core.specs.Marked.{Since, Sweeping, Sweeps, Untouched, KnowsMarks}
use Rattle.nr_core.specs.MarkSteps.{KeepsMarks, TriesMarks, TryTells, PollsMarks}
use Rattle.nr_core.proofs.ListPlaces.{at_maps, no_places, at_last, before, inside, some_is}
use Rattle.nr_core.proofs.LookMarks.{desk_of, load_step, Went, no_room_left, no_notes, none_hold}
use Rattle.nr_core.proofs.Holders.{ReaderThere, alone_more, holder_of, noted, present_more, since_more, tells_missed}
use Rattle.nr_core.proofs.Holders.{in_range, since_itself}
use Rattle.nr_core.proofs.PutNumbers.{none_end}
use Rattle.nr_core.proofs.Choices.{on_test}
use Rattle.std.specs.Prelude.{Some, nat_lt}
use mathlib.Core.Logic.{dite}
use native.Mathlib.Decide.{ℕ_discrete}
use Rattle.nr_core.specs.Roles.{retirements, taken}
use Rattle.nr_core.specs.Story.{call_of, ending}
use Rattle.nr_core.specs.declared.calls.Step.{Step}
use Rattle.nr_core.specs.PollNotes.{Missed, NoRoom}
use Rattle.nr_core.proofs.Different.{few_of}
use Rattle.nr_core.proofs.MarksSince.{rests}
use Rattle.nr_core.proofs.Frames.{stands_at}

-- A poll: where it finds its slot held it notes a reader that holds it, which no poll of this call has noted. So at
-- most as many polls as there are readers find their slots held.

module _ {A : Type 0} (role : A → Role) (marks : A → Marks) where
  module _ (shape : Shape) (words : List ℕ) (callers : List A) (log : List Entry)
      (core : Core shape words (map role callers) log)
      (once : Once role marks callers) (id : ℕ) (me : A) (desk desk' : Desk) (at : get_elem? callers id ≡ some me)
      (was : role me ≡ Writer desk)
      (same : desk'.retired ≡ desk.retired) where
    -- one more note of a sweep
    sweeps_on : (polls : List Past) (poll : ℕ) (entry : Retired) → get_elem? desk.retired poll ≡ some entry
        → Sweeps role marks callers desk polls poll
        → (reader : ReaderThere role marks callers) → gripped reader.grip ≡ Some entry.slot
        → Sweeps role marks callers desk' (polls ++ noted reader ∷ []) (poll + 1)
    sweeps_on polls poll entry here old who on =
        let reader = who.reader in let note = noted who in let slot = entry.slot in
        let many = old.many in
        let listed = term_le (λ (y : Retired). only slot y.slot) desk.retired poll entry here in
        let one = only-same slot in
        let alone = rests role marks shape words callers log id me desk slot core at was (omega arith) in
        record {
          many = let l = length-append polls (note ∷ []) in omega arith;
          slots = λ i e o g h.
              let g' : get_elem? desk.retired i ≡ some e = ap (λ l. get_elem? l i) (sym same) ∙ g in
              ⊎_elim (λ (y : get_elem? polls i ≡ some o). old.slots i e o g' y)
              (λ (y : (i ≡ length polls) × (note ≡ o)).
              let z = some-injective entry e (sym here ∙ ap (get_elem? desk.retired) (sym many ∙ sym y.0) ∙ g') in
              ap (λ (b : Past). b.slot) (sym y.1) ∙ on ∙ ap (λ (b : Retired). Some b.slot) z)
              (at_last polls note o i h);
          different = λ b.
              let more = total-append (λ (y : Past). only b y.reader) polls (note ∷ []) in dite (ℕ_discrete reader b)
              (λ e.
              let none = dite (ℕ_discrete (total (λ (y : Past). only b y.reader) polls) 0) (λ z. z) (λ nz.
              let t = some_term (λ (y : Past). only b y.reader) polls (omega arith) in
              let same_reader : t.1.reader ≡ b = only-is b t.1.reader t.3 in
              let on'
              = old.other t.0 t.1 t.2 who.place slot who.who who.grip who.there
              (who.is ∙ ap (λ (y : ℕ). Reader y who.grip) (e ∙ sym same_reader)) on (omega arith) in
              let low = inside polls t.0 t.1 t.2 in
              let low' = inside desk.retired poll entry here in
              let r = before desk.retired t.0 (omega arith) in
              let z : r.0.slot ≡ slot = some_is r.0.slot slot (sym (old.slots t.0 r.0 t.1 r.1 t.2) ∙ on') in
              let two
              = terms_le (λ (y : Retired). only slot y.slot) desk.retired t.0 poll r.0 entry
              (λ y. let y' : poll ≡ t.0 = y in omega arith) r.1 here in
              let one' : only slot r.0.slot ≡ 1 = ap (only slot) z ∙ one in absurd (omega arith)) in
              let le = only-le b reader in omega arith)
              (λ ne. let z = only-other b reader ne in let le = old.different b in omega arith);
          other = alone_more who polls once desk'
              (λ i o e n s w y g is on' rest. old.other i o e n s w y g is on'
              (subst (λ (l : List Retired). 0 < retirements s l) same rest));
        }

  module _ (shape : Shape) (id : ℕ) (me : A) (known : List Past) (desk : Desk) where
    pub polls_marked : (call : WriterCall) (rows : List Row) (poll : ℕ) → desk.place ≡ Searching call rows poll
        → length (marks me).polls ≡ poll → role me ≡ Writer desk
        → CanMark role marks shape id me known (Load (departures shape (retired_at desk poll).slot))
        (Went shape desk (Searching call rows poll)) (PollsMarks shape (marks me) known desk call poll)
    polls_marked call rows poll is_at each was words callers log core m once at sinces after entries ans =
        let entry : Retired = retired_at desk poll in
        let slot : ℕ = entry.slot in
        let i : ℕ = departures shape slot in
        let word : ℕ = get_or words i 0 in
        let roles = map role callers in
        let own = desk_of id m at was in
        let there : get_elem? roles id ≡ some (Writer desk) = at_maps role callers id me at ∙ ap some was in
        let mine = core.knows id (Writer desk) there in
        let p = stands_at core id there is_at in
        let sweeps : Sweeps role marks callers desk (marks me).polls poll
        = (subst (Sweeping role marks callers desk (marks me).polls) is_at own.sweep).1 each in
        let here : get_elem? desk.retired poll ≡ some entry = got_at desk.retired poll no_retired p.1 in
        let count = (mine.retired poll entry here).1 in
        let wants = p.0 in
        let tells = PollsMarks shape (marks me) known desk call poll in
        let Goal : Type 0 = Remarked role marks shape words callers log id (Load i) me after entries tells in
        let finish : (desk' : Desk) (polls : List Past) (loads : List LoggedLoad) → after ≡ Writer desk' → entries ≡ []
        → ((s : ℕ) → retirements s desk'.retired ≤ retirements s desk.retired) → AllSince role marks callers polls
        → NotesPresent role marks callers (marks me).polls polls → Sweeping role marks callers desk' polls desk'.place
        → tells word after (log ++ entries) (with_scan (marks me) polls loads) [] → Goal
        = λ desk' polls loads is none fewer since present sweep told. load_step
        entries i core m at was is (none_end log entries none) fewer
        (λ s _. subst (Untouched s) (sym is_at) tt) polls loads since present sweep told in
        let misses : same_count word entry.arrivals ≡ false → (desk' : Desk) → desk'.retired ≡ desk.retired
        → ((polls : List Past) → Sweeps role marks callers desk' polls (poll + 1)
        → Sweeping role marks callers desk' polls desk'.place)
        → after ≡ Writer desk' → entries ≡ [] → Goal
        = λ miss desk' same sweeping is none.
        let found = holder_of slot word entry.arrivals count miss in
        let who = found.0 in
        let polls = (marks me).polls ++ noted who ∷ [] in
        let sweep
        = sweeps_on shape words callers log core once id me desk desk' at was same (marks me).polls poll entry here
        sweeps who found.1 in
        let many = sweep.many in
        let since = since_more who (marks me).polls own.noted in
        let readers : (n : ℕ) (e : Past) → get_elem? polls n ≡ some e → (0 < e.reader) × (e.reader ≤ shape.readers)
        = λ n e there'. let w = since n e
        there' in
        subst (λ r. KnowsMarks role marks shape words callers log r (marks w.who)) w.is
        (m.each w.place w.who w.there) in
        let few = few_of (λ (e : Past). e.reader) polls shape.readers sweep.different readers in
        let missed : Missed shape known (marks me).polls slot polls = record {
          note = noted who;
          more = refl;
          holds = found.1;
          newer = λ n e there' same_reader.
              (since_itself role marks callers once who.place who.there who.is e (sinces n e there') same_reader).0;
          range = in_range who m;
          different = sweep.different;
          few = few;
        } in
        finish desk' polls (with_poll (marks me) slot false).loads is none
        (λ s. let e = ap (retirements s) same in omega arith) since
        (present_more who (marks me).polls (marks me).polls (λ n e there'. inl there')) (sweeping polls sweep) (
          refl,
          rw miss (
            refl,
            missed,
            λ last.
                subst (NoRoom shape call desk.retired polls) (sym (ap (λ l. log ++ l) none ∙ append-nil log))
                (no_room_left id core there (λ s. ap (taken s) is_at) p.2 wants.done polls (record {
                  many = omega arith;
                  slots = λ n e there'.
                      let q = before polls n (omega (arith, inside desk.retired n e there')) in
                      (q.0, q.1, sweep.slots n e q.0 (ap (λ l. get_elem? l n) same ∙ there') q.1);
                  different = sweep.different;
                }) few),
          ),
        ) in
        let Ends : Desk × Step → Type 0 = λ o. after ≡ Writer o.0 → entries ≡ ending (call_of call) o.1 → Goal in
        let ended_so : Ends (polled shape desk call rows poll word) = on_test Ends (same_count word entry.arrivals)
        (λ hit is none. finish (taking_retired desk call rows poll word) (marks me).polls
        (with_poll (marks me) slot true).loads is none
        (λ s. let gone = total-remove (λ (y : Retired). only s y.slot) desk.retired poll entry here in
        omega arith) own.noted (λ n e there'. inl there') tt (
          refl,
          rw hit refl,
        ))
        (λ miss. on_test Ends (nat_lt (poll + 1) (length desk.retired))
        (λ _ is none. misses miss (moved_to desk (Searching call rows (poll + 1))) refl (λ polls t. (t.other, λ _. t))
        is none)
        (λ _ is none. misses miss (moved_to desk Idle) refl (λ polls t. t.other) is none)) in
        ended_so ans.0 ans.1

-- A search that polls in any order: it notes a reader for each slot that it finds held, as a reap does, and may be
-- given up.

module _ {A : Type 0} (role : A → Role) (marks : A → Marks) where
  module _ (shape : Shape) (id : ℕ) (me : A) (known : List Past) (desk : Desk) (call : WriterCall) (rows : List Row)
      (is_at : desk.place ≡ Searching call rows 0) (was : role me ≡ Writer desk) where
    -- the notes of a search in any order go before those of one in order
    search_goes : (callers : List A) (polls : List Past) → HoldNoOthers role marks callers desk polls
        → Sweeping role marks callers desk polls desk.place
    search_goes callers polls others =
        subst (Sweeping role marks callers desk polls) (sym is_at) (others, λ none_yet. by_length polls none_yet)
      where
        by_length : (l : List Past) → length l ≡ 0 → Sweeps role marks callers desk l 0
        by_length [] e = no_notes role marks callers desk
        by_length (note ∷ l) e = absurd (omega arith)

    others_so : (callers : List A) → Sweeping role marks callers desk (marks me).polls desk.place
        → HoldNoOthers role marks callers desk (marks me).polls
    others_so callers sweep = (subst (Sweeping role marks callers desk (marks me).polls) is_at sweep).0

    -- a load by the search, after which its notes and its loads of readers' words are these
    notes_now : (place : ℕ) (tells : MarkTelling) (words : List ℕ) (callers : List A) (log : List Entry)
        → Core shape words (map role callers) log → Marked role marks shape words callers log
        → get_elem? callers id ≡ some me
        → (after : Role) (entries : List Entry) → after ≡ Writer desk → entries ≡ []
        → (polls : List Past) (loads : List LoggedLoad) → AllSince role marks callers polls
        → NotesPresent role marks callers (marks me).polls polls → HoldNoOthers role marks callers desk polls
        → tells (get_or words place 0) after (log ++ entries) (with_scan (marks me) polls loads) []
        → Remarked role marks shape words callers log id (Load place) me after entries tells
    notes_now place tells words callers log core m at after entries is none polls loads since present others told =
        load_step entries place core m at was is
        (none_end log entries none) (λ s. omega arith) (λ s rest. rest) polls loads since present
        (search_goes callers polls others) told

    pub tries_marked : (poll : ℕ) → poll < length desk.retired
        → CanMark role marks shape id me known (Load (departures shape (retired_at desk poll).slot))
        (Tries desk call rows poll) (TriesMarks shape (marks me) desk poll)
    tries_marked poll low words callers log core m once at sinces after entries ans =
        let entry : Retired = retired_at desk poll in
        let slot : ℕ = entry.slot in
        let i : ℕ = departures shape slot in
        let word : ℕ = get_or words i 0 in
        let own = desk_of id m at was in
        let there : get_elem? (map role callers) id ≡ some (Writer desk)
        = at_maps role callers id me at ∙ ap some was in
        let here : get_elem? desk.retired poll ≡ some entry = got_at desk.retired poll no_retired low in
        let count = ((core.knows id (Writer desk) there).retired poll entry here).1 in
        let listed = term_le (λ (y : Retired). only slot y.slot) desk.retired poll entry here in
        let one = only-same slot in
        let tells = TriesMarks shape (marks me) desk poll in let taken_it = taking_retired desk call rows poll word in
        let Goal : Type 0 = Remarked role marks shape words callers log id (Load i) me after entries tells in
        let others = others_so callers own.sweep in
        on_test (λ (d : Desk). after ≡ Writer d → Goal) (same_count word entry.arrivals)
        (λ hit is. load_step entries i core m at was is (none_end log entries ans.1)
        (λ s. let gone = total-remove (λ (y : Retired). only s y.slot) desk.retired poll entry here in omega arith)
        (λ s _. subst (Untouched s) (sym is_at) tt) (marks me).polls (with_poll (marks me) slot true).loads own.noted
        (λ n e there'. inl there') tt
        (refl, subst (λ b. TryTells b shape slot (marks me) (with_poll (marks me) slot true)) (sym hit) refl))
        (λ miss is.
        let held = holder_of slot word entry.arrivals count miss in
        let reader = held.0 in
        let polls = (marks me).polls ++ noted reader ∷ [] in
        notes_now i tells words callers log core m at after entries is ans.1 polls
        (with_poll (marks me) slot false).loads (since_more reader (marks me).polls own.noted)
        (present_more reader (marks me).polls (marks me).polls (λ n e there'. inl there'))
        (alone_more reader (marks me).polls once desk others) (
          refl,
          rw miss (tells_missed (marks me) desk m reader slot held.1 others
              (omega arith)),
        ))
        ans.0

    -- a scan goes on with the notes that there are, or begins anew with none
    abbrev pub Begins : List Past → Type 0
    Begins base = (base ≡ []) ⊎ (base ≡ (marks me).polls)

    -- notes that it may have, each of which tells a reader as it is, or was there before
    abbrev Fits : List A → List Past → Type 0
    Fits callers notes =
        AllSince role marks callers notes × HoldNoOthers role marks callers desk notes
        × NotesPresent role marks callers (marks me).polls notes

    base_fits : {words : List ℕ} {callers : List A} {log : List Entry} → Marked role marks shape words callers log
        → get_elem? callers id ≡ some me → (base : List Past) → Begins base → Fits callers base
    base_fits {callers = callers} m at base begins =
        let own = desk_of id m at was in
        ⊎_elim
        (λ (e : base ≡ []). rw e (
          no_places (Since role marks callers),
          none_hold role marks callers desk,
          λ n note there. absurd (some-ne-none note (sym there)),
        ))
        (λ (e : base ≡ (marks me).polls).
        rw e (own.noted, others_so callers own.sweep, λ n note there. inl there)) begins

    pub scans_marked : (base : List Past) → Begins base → (loads : List LoggedLoad) (place : ℕ)
        → CanMark role marks shape id me known (Load place) (LoadsWord (role me))
        (λ word after log now news. (now ≡ with_scan (marks me) base loads) × (news ≡ []))
    scans_marked base begins loads place words callers log core m once at sinces after entries ans =
        let fits = base_fits m at base begins in
        notes_now place (λ word after log now news. (now ≡ with_scan (marks me) base loads) × (news ≡ [])) words
        callers log core m at after entries (ans.0 ∙ was) ans.1 base loads fits.0 fits.2 fits.1 (refl, refl)

    -- and notes a reader as it is
    pub notes_marked : (base : List Past) → Begins base
        → (loads : List LoggedLoad) (place : ℕ) (words : List ℕ) (callers : List A) (log : List Entry)
        → Core shape words (map role callers) log → Marked role marks shape words callers log → Once role marks callers
        → get_elem? callers id ≡ some me
        → (after : Role) (entries : List Entry) → LoadsWord (role me) (get_or words place 0) after entries
        → (other reader : ℕ) (who : A) (grip : Grip) → get_elem? callers other ≡ some who
        → role who ≡ Reader reader grip
        → Remarked role marks shape words callers log id (Load place) me after entries
        (λ word after log now news. (now ≡ with_scan (marks me) (base ++ past reader grip (marks who) ∷ []) loads)
        × (news ≡ []))
    notes_marked base begins loads place words callers log core m once at after entries ans other reader who grip here
        reads =
        let fits = base_fits m at base begins in
        let one : ReaderThere role marks callers
        = record { place = other; who = who; reader = reader; grip = grip; there = here; is = reads } in
        let polls = base ++ noted one ∷ [] in
        notes_now place (λ word after log now news. (now ≡ with_scan (marks me) polls loads) × (news ≡ [])) words
        callers log core m at after entries (ans.0 ∙ was) ans.1 polls loads
        (since_more one base fits.0) (present_more one base (marks me).polls fits.2)
        (alone_more one base once desk fits.1) (refl, refl)

    -- or is given up
    pub gives_up_marked : (place : ℕ)
        → CanMark role marks shape id me known (Load place) (GivesUp desk) (KeepsMarks (marks me))
    gives_up_marked place words callers log core m once at sinces after entries ans =
        let own = desk_of id m at was in
        load_step entries place core m at was ans.0 (none_end log entries ans.1) (λ s. omega arith)
        (λ s _. subst (Untouched s) (sym is_at) tt) (marks me).polls (marks me).loads own.noted
        (λ n e there'. inl there') (others_so callers own.sweep) (refl, refl)
