-- Bytes taken one by one from an input make a line, and a fault in the middle of it is the fault of the line.
use Rattle.std.proofs.Common.{◌≡◌, ◌≢◌, ℕ, ◌+◌, List, [], ◌∷◌, ◌++◌, length, Option, Some, Ok, Err, refl, ap, subst}
use Rattle.std.proofs.Common.{◌∙◌, arith, append-nil, length-append}
use Rattle.std.specs.Io.KnownBytes.{prepend_known, Consumes, Keeps}
use Rattle.std.proofs.KnownBytes.{Consumes-nil, Consumes-kept, Consumes-trans, prepend_known-nil}
use Rattle.nr_text.specs.declared.fault.RunFault.{RunFault}
use Rattle.nr_text.specs.declared.fault.RunFault.TheVariants as faults
use Rattle.nr_text.specs.declared.input.Input.{Input}
use Rattle.nr_text.specs.Lines.{HasNoFeed, line_feed}
use Rattle.nr_text.specs.declared.line.Line.{Line}
use Rattle.nr_text.specs.declared.input.LineEnd.TheVariants as ends
use Rattle.nr_text.specs.Input.{pending_bytes, unread, allowance, StandsFor, Refills, TakesByte, TakesLine}

-- with nothing pending, what is unread is what the reader has left
pub unread_none : (input : Input) (left : Option (List ℕ)) → pending_bytes input ≡ [] → unread input left ≡ left
unread_none input left none = ap (λ bs. prepend_known bs left) none ∙ prepend_known-nil left

pub kept_none : (old new : Input) (had left : Option (List ℕ)) → pending_bytes old ≡ [] → pending_bytes new ≡ []
    → Keeps had left → Consumes (unread old had) (unread new left) []
kept_none old new had left p q kept =
    rw (unread_none old had p, unread_none new left q) (Consumes-kept had had left [] (Consumes-nil had) kept)

pub refill_fault : (old new : Input) (had left : Option (List ℕ)) (fault : RunFault) → pending_bytes old ≡ []
    → Refills old new had left (Err fault) → TakesByte old new had left (Err fault)
refill_fault old new had left faults.Read none given =
    ([], kept_none old new had left none given.1 given.0, (refl, given.1))
refill_fault old new had left faults.TooMuch none (last, one, taken, all, p) =
    (last, rw (unread_none old had none, unread_none new left p) taken, (one, all, p))
refill_fault old new had left fault none given = absurd given

-- the bytes of a line were taken that has not ended yet
pub record PartTaken (old new : Input) (had left : Option (List ℕ)) (line : Line) : Type 0 where
  pub taken : List ℕ
  pub consumes : Consumes (unread old had) (unread new left) taken
  pub no_feed : HasNoFeed taken
  pub held : StandsFor line taken
  pub count : allowance old ≡ allowance new + length taken

pub HasNoFeed-push : (bs : List ℕ) (b : ℕ) → HasNoFeed bs → b ≢ line_feed → HasNoFeed (bs ++ b ∷ [])
HasNoFeed-push [] b all other = (other, tt)
HasNoFeed-push (x ∷ bs) b all other = (all.0, HasNoFeed-push bs b all.1 other)

-- a fault in the middle of a line
pub line_fault : (old mid new : Input) (had at left : Option (List ℕ)) (line : Line) (fault : RunFault)
    → PartTaken old mid had at line → TakesByte mid new at left (Err fault)
    → TakesLine old new had left line (Err fault)
line_fault old mid new had at left line faults.Read part (got, consumed, told) =
    let (none, p) = told in
    let same : part.taken ++ got ≡ part.taken = ap (λ l. part.taken ++ l) none ∙ append-nil part.taken in (
      part.taken,
      subst (Consumes _ _) same (Consumes-trans _ _ _ part.taken got part.consumes consumed),
      (part.no_feed, p),
    )
line_fault old mid new had at left line faults.TooMuch part (got, consumed, told) =
    let (one, all, p) = told in (
      part.taken ++ got,
      Consumes-trans _ _ _ part.taken got part.consumes consumed,
      (part.taken, part.no_feed, omega (arith, part.count, all), got, one, refl, p),
    )
line_fault old mid new had at left line fault part (got, consumed, never) = absurd never

-- the line feed of a line
pub line_ended : (old mid new : Input) (had at left : Option (List ℕ)) (line : Line) (b : ℕ)
    → PartTaken old mid had at line → TakesByte mid new at left (Ok (Some b)) → b ≡ line_feed
    → TakesLine old new had left line (Ok ends.LineFeed)
line_ended old mid new had at left line b part (got, consumed, told) feed =
    let (one, count) = told in
    let byte : got ≡ line_feed ∷ [] = one ∙ ap (λ x. x ∷ []) feed in (
      part.taken ++ got,
      Consumes-trans _ _ _ part.taken got part.consumes consumed,
      (
        part.taken,
        part.no_feed,
        ap (λ l. part.taken ++ l) byte,
        part.held,
        rw (length-append part.taken got, ap length one) (omega (arith, part.count, count)),
      ),
    )

-- one more byte of a line
pub line_more : (old mid new : Input) (had at left : Option (List ℕ)) (line next : Line) (b : ℕ)
    → (part : PartTaken old mid had at line) → TakesByte mid new at left (Ok (Some b)) → b ≢ line_feed
    → StandsFor next (part.taken ++ b ∷ []) → PartTaken old new had left next
line_more old mid new had at left line next b part (got, consumed, told) other held =
    let (one, count) = told in
    record {
      taken = part.taken ++ b ∷ [];
      consumes =
          subst (λ (l : List ℕ). Consumes (unread old had) (unread new left) (part.taken ++ l)) one
          (Consumes-trans _ _ _ part.taken got part.consumes consumed);
      no_feed = HasNoFeed-push part.taken b part.no_feed other;
      held = held;
      count = rw (length-append part.taken (b ∷ [])) (omega (arith, part.count, count));
    }
