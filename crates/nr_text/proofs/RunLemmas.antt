-- A run goes on from one line to the next: what stands after some lines were answered, and what follows at each way in
-- which the run can end.
use Rattle.std.proofs.Common.{◌≡◌, ℕ, ◌<◌, List, [], ◌∷◌, ◌++◌, length, refl, ap, arith, sym, ◌∙◌, append_assoc, ◌≢◌}
use Rattle.std.proofs.Common.{◌+◌, ◌≤◌, take, Option, None, Some, Ok, Err, inl, inr, append-nil, length-append}
use Rattle.std.proofs.lemmas.Bool.{ne_eqb}
use Rattle.std.specs.Io.KnownBytes.{prepend_known, Consumes, Appends}
use Rattle.std.proofs.KnownBytes.{Consumes-trans, Appends-trans}
use Rattle.std.proofs.lemmas.List.{take_at}
use Rattle.nr_text.specs.Lines.{line_feed, lines, ended_lines, HasNoFeed}
use Rattle.nr_text.specs.Text.{text, after_lines}
use Rattle.nr_text.specs.declared.fault.RunFault.{RunFault}
use Rattle.nr_text.specs.declared.fault.RunFault.TheVariants as faults
use Rattle.nr_text.specs.declared.input.Input.{Input}
use Rattle.nr_text.specs.declared.input.LineEnd.{LineEnd}
use Rattle.nr_text.specs.declared.input.LineEnd.TheVariants as ends
use Rattle.nr_text.specs.declared.line.Line.{Line}
use Rattle.nr_text.specs.Input.{pending_bytes, unread, allowance, StandsFor, TakesLine}
use Rattle.nr_text.specs.Output.{IsCutShort, SendsReply}
use Rattle.nr_text.specs.Run.{Runs, ReadWhole}
use Rattle.nr_text.proofs.InputLemmas.{unread_none}

-- THE LINES OF AN INPUT
-- the bytes of one line cut it: its line is the first, and the others are those of the rest
lines-ended : (bs more : List ℕ) → HasNoFeed bs → lines (bs ++ line_feed ∷ more) ≡ bs ∷ lines more
lines-ended [] more none = refl
lines-ended (b ∷ bs) more none = rw (ne_eqb b line_feed none.0, lines-ended bs more none.1)

ended_lines-ended : (bs more : List ℕ) → HasNoFeed bs → ended_lines (bs ++ line_feed ∷ more) ≡ bs ∷ ended_lines more
ended_lines-ended [] more none = refl
ended_lines-ended (b ∷ bs) more none = rw (ne_eqb b line_feed none.0, ended_lines-ended bs more none.1)

ended_lines-none : (bs : List ℕ) → HasNoFeed bs → ended_lines bs ≡ []
ended_lines-none [] none = refl
ended_lines-none (b ∷ bs) none = rw (ne_eqb b line_feed none.0, ended_lines-none bs none.1)

lines-some : (bs : List ℕ) → HasNoFeed bs → 0 < length bs → lines bs ≡ bs ∷ []
lines-some [] none some = absurd (omega arith)
lines-some (b ∷ []) none some = rw (ne_eqb b line_feed none.0)
lines-some (b ∷ c ∷ bs) none some = rw (ne_eqb b line_feed none.0, lines-some (c ∷ bs) none.1 (omega arith))

-- THE TEXT OF LINES
-- of some and then others it is their texts, one after the other
module _ {S : Type 0} (answer : S → List ℕ → List ℕ × S) where
  text-append : (state : S) (done more : List (List ℕ))
      → text answer state (done ++ more) ≡ text answer state done ++ text answer (after_lines answer state done) more
  text-append state [] more = refl
  text-append state (line ∷ done) more = rw (text-append (answer state line).1 done more) (simp append_assoc)

  after-append : (state : S) (done more : List (List ℕ))
      → after_lines answer state (done ++ more) ≡ after_lines answer (after_lines answer state done) more
  after-append state [] more = refl
  after-append state (line ∷ done) more = after-append (answer state line).1 done more

-- A RUN
module _ {S : Type 0} (answer : S → List ℕ → List ℕ × S) (start : S) where
  -- some lines were taken whole, and their text was written
  pub record Answered (limit : ℕ) (input : Input) (had left held holds : Option (List ℕ)) (state : S)
      (lines_left : ℕ) : Type 0 where
    pub taken : List ℕ
    pub done : List (List ℕ)
    pub consumes : Consumes had (unread input left) taken
    pub appends : Appends held holds (text answer start done)
    pub state_is : state ≡ after_lines answer start done
    pub ended : (more : List ℕ) → ended_lines (taken ++ more) ≡ done ++ ended_lines more
    pub cut : (more : List ℕ) → lines (taken ++ more) ≡ done ++ lines more
    pub count : length taken + allowance input ≡ limit
    pub counters : limit < lines_left + length taken

  -- what the input holds was taken from the reader too
  unread_taken : (had left : Option (List ℕ)) (bs more : List ℕ) → Consumes had (prepend_known more left) bs
      → Consumes had left (bs ++ more)
  unread_taken None left bs more p = tt
  unread_taken (Some x) None bs more p = absurd p
  unread_taken (Some x) (Some y) bs more p = p ∙ sym (append_assoc bs more y)

  -- a line's reply is cut short
  text_cut : (state : S) (done : List (List ℕ)) (line : List ℕ) (more : List (List ℕ)) (sent : List ℕ)
      → state ≡ after_lines answer start done
      → IsCutShort ((answer state line).0 ++ line_feed ∷ []) sent
      → IsCutShort (text answer start (done ++ line ∷ more)) (text answer start done ++ sent)
  text_cut state done line more sent same (rest, split, missing) =
      let others = text answer (answer state line).1 more in (
        rest ++ others,
        rw (text-append answer start done (line ∷ more), ← same, split) (simp append_assoc),
        rw (length-append rest others) (omega (arith, missing)),
      )

  text_more : (state : S) (done : List (List ℕ)) (line : List ℕ) → state ≡ after_lines answer start done
      → text answer start (done ++ line ∷ []) ≡ text answer start done ++ ((answer state line).0 ++ line_feed ∷ [])
  text_more state done line same = rw (text-append answer start done (line ∷ []), ← same, append-nil)

  module _ (limit : ℕ) (old new : Input) (had at left held holds : Option (List ℕ)) (state : S) (lines_left : ℕ)
      (line : Line) (so_far : Answered limit old had at held holds state lines_left) where
    whole : (got : List ℕ) → Consumes (unread old at) (unread new left) got
        → Consumes had left ((so_far.taken ++ got) ++ pending_bytes new)
    whole got consumed =
        unread_taken had left (so_far.taken ++ got) (pending_bytes new)
        (Consumes-trans _ _ _ so_far.taken got so_far.consumes consumed)

    whole_none : (got : List ℕ) → pending_bytes new ≡ [] → Consumes (unread old at) (unread new left) got
        → Consumes had left (so_far.taken ++ got)
    whole_none got none consumed =
        rw (← unread_none new left none) (Consumes-trans _ _ _ so_far.taken got so_far.consumes consumed)

    -- a fault while a line is read
    pub ends_reading : (fault : RunFault) → TakesLine old new at left line (Err fault)
        → Runs (text answer start) limit (Err fault) had left held holds
    ends_reading faults.Read (got, consumed, told) =
        let (no_feed, none) = told in (
          so_far.taken ++ got,
          text answer start so_far.done,
          whole_none got none consumed,
          so_far.appends,
          rw (so_far.ended got, ended_lines-none got no_feed, append-nil),
        )
    ends_reading faults.TooMuch (got, consumed, told) =
        let (bytes, no_feed, all, last, one, split, none) = told in
        let cut : take limit (so_far.taken ++ got) ≡ so_far.taken ++ bytes =
        rw (split, ← append_assoc)
        (take_at (so_far.taken ++ bytes) last limit
        (length-append so_far.taken bytes ∙ omega (arith, so_far.count, all))) in
        let long : limit < length (so_far.taken ++ got) =
        rw (length-append so_far.taken got, split, length-append bytes last)
        (omega (arith, so_far.count, all, one)) in (
          so_far.taken ++ got,
          text answer start so_far.done,
          whole_none got none consumed,
          so_far.appends,
          (
            long,
            rw (cut, so_far.ended bytes, ended_lines-none bytes no_feed, append-nil),
          ),
        )
    ends_reading fault (got, consumed, told) = absurd told

    -- no line is left
    pub ends_empty : (x : Unit {0}) → TakesLine old new at left line (Ok ends.NoLine)
        → Runs (text answer start) limit (Ok x) had left held holds
    ends_empty x (got, consumed, told) =
        let (none, count, spent) = told in (
          so_far.taken ++ got,
          text answer start so_far.done,
          whole_none got spent.0 consumed,
          so_far.appends,
          (
            rw (none, append-nil so_far.taken) (omega (arith, so_far.count)),
            spent.1,
            rw (none, so_far.cut [], append-nil),
          ),
        )

    -- the line that was read is one of those that were read whole
    read_whole : (end : LineEnd) → end ≢ ends.NoLine → TakesLine old new at left line (Ok end)
        → (taken : List ℕ) × (bytes : List ℕ) × (more : List (List ℕ)) × Consumes had left taken × StandsFor line bytes
        × ReadWhole taken left (so_far.done ++ bytes ∷ more)
    read_whole ends.NoLine some line_taken = absurd (some refl)
    read_whole ends.LineFeed some (got, consumed, told) =
        let (bytes, no_feed, split, held, count) = told in (
          (so_far.taken ++ got) ++ pending_bytes new,
          bytes,
          ended_lines (pending_bytes new),
          whole got consumed,
          held,
          inl (rw split (simp append_assoc (rw (so_far.ended, ended_lines-ended bytes (pending_bytes new) no_feed)))),
        )
    read_whole ends.InputEnd some (got, consumed, told) =
        let (no_feed, long, held, count, spent) = told in
        let cut : so_far.done ++ got ∷ [] ≡ lines (so_far.taken ++ got)
        = rw (so_far.cut, lines-some got no_feed long) in
        (so_far.taken ++ got, got, [], whole_none got spent.0 consumed, held, inr (spent.1, cut))

    -- no memory for a line's reply
    pub ends_answering : (end : LineEnd) → end ≢ ends.NoLine → TakesLine old new at left line (Ok end)
        → Runs (text answer start) limit (Err faults.Memory) had left held holds
    ends_answering end some line_taken =
        let (taken, bytes, more, consumed, line_held, read) = read_whole end some line_taken in
        (taken, text answer start so_far.done, consumed, so_far.appends, (so_far.done, bytes, more, read, refl))

    module _ (next : S) (reply : List ℕ) (last : Option (List ℕ))
        (gives : (bytes : List ℕ) → StandsFor line bytes → answer state bytes ≡ (reply, next)) where
      -- a line's reply that was cut short, or for whose line feed there was no memory
      pub ends_sending : (end : LineEnd) (fault : RunFault) → end ≢ ends.NoLine
          → TakesLine old new at left line (Ok end)
          → SendsReply {X = Unit {0}} holds last reply (Err fault)
          → Runs (text answer start) limit (Err fault) had left held last
      ends_sending end faults.Write some line_taken (sent, cut, appends) =
          let (taken, bytes, more, consumed, line_held, read) = read_whole end some line_taken in
          let cut_too : IsCutShort ((answer state bytes).0 ++ line_feed ∷ []) sent = rw (gives bytes line_held) cut in (
            taken,
            text answer start so_far.done ++ sent,
            consumed,
            Appends-trans _ _ _ (text answer start so_far.done) sent so_far.appends appends,
            (so_far.done ++ bytes ∷ more, read, text_cut state so_far.done bytes more sent so_far.state_is cut_too),
          )
      ends_sending end faults.Memory some line_taken same =
          let (taken, bytes, more, consumed, line_held, read) = read_whole end some line_taken in (
            taken,
            text answer start so_far.done,
            consumed,
            rw same so_far.appends,
            (so_far.done, bytes, more, read, refl),
          )
      ends_sending end fault some line_taken never = absurd never

      module _ (appends : Appends holds last (reply ++ line_feed ∷ [])) where
        -- the last line of the input was answered
        pub ends_whole : (x : Unit {0}) → TakesLine old new at left line (Ok ends.InputEnd)
            → Runs (text answer start) limit (Ok x) had left held last
        ends_whole x (got, consumed, told) =
            let (no_feed, long, line_held, count, spent) = told in
            let one = reply ++ line_feed ∷ [] in
            let written : text answer start (lines (so_far.taken ++ got)) ≡ text answer start so_far.done ++ one =
            rw (
              so_far.cut,
              lines-some got no_feed long,
              text_more state so_far.done got so_far.state_is,
              gives got line_held,
            ) in (
              so_far.taken ++ got,
              text answer start so_far.done ++ one,
              whole_none got spent.0 consumed,
              Appends-trans _ _ _ (text answer start so_far.done) one so_far.appends appends,
              (rw (length-append so_far.taken got) (omega (arith, so_far.count, count)), spent.1, sym written),
            )

        -- a line was answered, and others may follow
        answered_feed : (new_left : ℕ) → TakesLine old new at left line (Ok ends.LineFeed) → lines_left ≤ new_left + 1
            → Answered limit new had left held last next new_left
        answered_feed new_left (got, consumed, told) falls =
            let (bytes, no_feed, split, line_held, count) = told in
            let one = reply ++ line_feed ∷ [] in
            let written : text answer start (so_far.done ++ bytes ∷ []) ≡ text answer start so_far.done ++ one =
            rw (text_more state so_far.done bytes so_far.state_is, gives bytes line_held) in
            let some : 0 < length got = rw (split, length-append bytes (line_feed ∷ [])) (omega arith) in
            record {
              taken = so_far.taken ++ got;
              done = so_far.done ++ bytes ∷ [];
              consumes = Consumes-trans _ _ _ so_far.taken got so_far.consumes consumed;
              appends =
                  rw written (Appends-trans _ _ _ (text answer start so_far.done) one so_far.appends appends);
              state_is = rw (after-append, ← so_far.state_is) (sym (ap (λ p. p.1) (gives bytes line_held)));
              ended = λ more. rw split (simp append_assoc (rw (so_far.ended, ended_lines-ended bytes more no_feed)));
              cut = λ more. rw split (simp append_assoc (rw (so_far.cut, lines-ended bytes more no_feed)));
              count = rw (length-append so_far.taken got) (omega (arith, so_far.count, count));
              counters = rw (length-append so_far.taken got) (omega (arith, so_far.counters, some, falls));
            }

        pub answered_more : (end : LineEnd) (new_left : ℕ) → end ≢ ends.NoLine → end ≢ ends.InputEnd
            → TakesLine old new at left line (Ok end) → lines_left ≤ new_left + 1
            → Answered limit new had left held last next new_left
        answered_more ends.NoLine new_left some more line_taken falls = absurd (some refl)
        answered_more ends.InputEnd new_left some more line_taken falls = absurd (more refl)
        answered_more ends.LineFeed new_left some more line_taken falls = answered_feed new_left line_taken falls
