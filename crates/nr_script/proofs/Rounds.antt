-- Rounds of gathers over hands.
use Rattle.std.proofs.Common.{◌≡◌, ◌<◌, ℕ, suc, ◌+◌, List, [], ◌∷◌, ◌++◌, ◌==◌, length, map, All, get_or, sym, ap, ◌∙◌}
use Rattle.std.proofs.Common.{subst, append_assoc, arith, length-append, ◌≢◌, set, below_more}
use Rattle.std.proofs.lemmas.List.{append-nil, nil_from_length, get_or-set_same, get_or-set_other, get_or_default}
use Rattle.std.proofs.lemmas.List.{get_or-map, length-map, length-set}
use Rattle.std.proofs.lemmas.List.Elements.{filter-append}
use Rattle.std.proofs.Math.Seq.{map-set_same}
use mathlib.Core.Option.{some}
use lib.ListN.{get_elem?}
use Rattle.nr_model.specs.Histories.{Entry, entries_of}
use Rattle.nr_core.specs.Marks.{Past}
use Rattle.nr_core.specs.Pasts.{Current}
use Rattle.nr_board.specs.Callers.{Caller, Table}
use Rattle.nr_map.specs.ExactPlaces.{OnlyLearnt}
use Rattle.nr_board.specs.Meetings.{Gathers, Learns, how_is}
use Rattle.nr_board.specs.Rule.{StartsWith}
use Rattle.nr_map.specs.Hands.{Handed}
use Rattle.nr_script.specs.Hands.{Still, how_of, mine_of, still}
use Rattle.nr_script.specs.Rounds.{Gathered, GathersHand, IsShown, IsSoundWriter, Round, WriterStays}

pub starts_same : (xs : List Entry) → StartsWith xs xs
starts_same xs = record { rest = []; is = sym (append-nil xs) }

pub starts_then : (xs ys zs : List Entry) → StartsWith ys xs → StartsWith zs ys → StartsWith zs xs
starts_then xs ys zs a b = record { rest = a.rest ++ b.rest; is = rw (b.is, a.is, append_assoc) }

-- of two histories that begin each other the one is the other
pub starts_both : (xs ys : List Entry) → StartsWith xs ys → StartsWith ys xs → xs ≡ ys
starts_both xs ys a b =
    let n : length a.rest ≡ 0 = omega (arith, length-append {A = Entry}, ap length a.is, ap length b.is) in
    a.is ∙ ap (λ (l : List Entry). ys ++ l) (nil_from_length a.rest n) ∙ append-nil ys

-- one caller's entries of a history that goes on
pub starts_each : (later log : List Entry) (caller : ℕ) → StartsWith later log
    → StartsWith (entries_of later caller) (entries_of log caller)
starts_each later log caller s =
    record {
      rest = entries_of s.rest caller;
      is = ap (λ (l : List Entry). entries_of l caller) s.is
          ∙ filter-append (λ (e : Entry). e.caller == caller) log s.rest;
    }

pub only_then : (a b c : Caller) → OnlyLearnt a b → OnlyLearnt b c → OnlyLearnt a c
only_then a b c one two =
    record {
      table = two.table ∙ one.table;
      fresh = two.fresh ∙ one.fresh;
      retired = two.retired ∙ one.retired;
      numbers = two.numbers ∙ one.numbers;
      marks = two.marks ∙ one.marks;
    }

pub stays_then : (a b c : Caller) → WriterStays a b → WriterStays b c → WriterStays a c
stays_then a b c one two =
    record {
      number = two.number ∙ one.number;
      mine = two.mine ∙ one.mine;
      seen = starts_then a.seen b.seen c.seen one.seen two.seen;
      only = only_then a b c one.only two.only;
    }

pub learns_stays : (steps : ℕ) (old new : Caller) → Learns steps old new → WriterStays old new
learns_stays steps old new l = assumption

pub gather_sound : (w r w' r' : Caller) → Gathers w r w' r' → IsSoundWriter w'
gather_sound w r w' r' g =
    let l = g.of_reader.learns in
    record { own = l.own; legal = rw l.table l.legal; callers = rw l.table l.callers; lists = g.lists }

pub same_reader : (steps : ℕ) (old new : Caller) → Learns steps old new → how_is new ≡ how_is old
same_reader steps old new
    l = λ j. record { reader = l.number j; count = (l.marks j).acts; slot = l.holds j; put = (l.marks j).put }

pub same_still : (w : Caller) (s : Handed) (w' : Caller) (s' : Handed) → GathersHand w s w' s'
    → still s' ≡ still s
same_still w s w' s' g = let l = g.gathers.of_writer.learns in let how = same_reader 2 s.reader s'.reader l in
    λ j. record { table = l.table j; mine = l.mine j; how = how j; pin = g.pin j }

pub place_on : (news known : List Past) (place : ℕ) (one : Past) → get_elem? known place ≡ some one
    → (at : ℕ) × (get_elem? (news ++ known) at ≡ some one)
place_on [] known place one is = (place, is)
place_on (n ∷ news) known place one is = let on = place_on news known place one is in (suc on.0, on.1)

current_on : (w w' : Caller) (one : Past) → w'.retired ≡ w.retired → w'.marks ≡ w.marks → Current w.retired w.marks one
    → Current w'.retired w'.marks one
current_on w w' one r m c = rw (r, m) c

-- what was shown stays so, while the writer learns of others
pub shown_on : (log : List Entry) (w r w' r' : Caller) (x : Handed) → Gathers w r w' r' → IsShown log w x
    → IsShown log w' x
shown_on log w r w' r' x g s =
    let on = place_on g.of_reader.learns.news w.pasts s.place (how_of x) s.known in
    record {
      few = s.few;
      place = on.0;
      known = ap (λ (l : List Past). get_elem? l on.0) g.of_reader.learns.pasts ∙ on.1;
      current = current_on w w' (how_of x) g.of_reader.learns.retired g.of_reader.learns.marks s.current;
      heard = s.heard;
    }

pub shown_now : (log : List Entry) (w : Caller) (s : Handed) (w' : Caller) (s' : Handed)
    → GathersHand w s w' s' → StartsWith w'.seen log → IsShown log w' s'
shown_now log w s w' s' g later =
    let l = g.gathers.of_writer.learns in let how = same_reader 2 s.reader s'.reader l in
    let all : entries_of w'.seen s'.reader.number ≡ mine_of s'
    = ap (λ (n : ℕ). entries_of w'.seen n) l.number ∙ g.gathers.all ∙ sym l.mine in
    record {
      few =
          subst (λ (m : List Entry). StartsWith m (entries_of log s'.reader.number)) all
          (starts_each w'.seen log s'.reader.number later);
      place = g.gathers.place;
      known = g.gathers.known ∙ ap some (sym how);
      current = subst (λ (p : Past). Current w'.retired w'.marks p) (sym how) g.gathers.current;
      heard = starts_then log w'.seen s'.reader.seen later g.gathers.of_writer.seen;
    }

-- the hand at the next place was gathered
module _ (log : List Entry) (w w' : Caller) (s s' : Handed) (hands : List Handed) (i : ℕ)
    (low : i < length hands) (begins : StartsWith w.seen log) (g : GathersHand w s w' s') where
  elsewhere : (at : ℕ) (other : Handed) → at ≢ i → IsShown log w (get_or hands at other)
      → IsShown log w' (get_or (set hands i s') at other)
  elsewhere at other apart shown =
      subst (λ (x : Handed). IsShown log w' x) (sym (get_or-set_other hands i at s' other apart))
      (shown_on log w s.reader w' s'.reader (get_or hands at other) g.gathers shown)

  here : (other : Handed) → IsShown log w' (get_or (set hands i s') i other)
  here other =
      subst (λ (x : Handed). IsShown log w' x) (sym (get_or-set_same hands i s' other low))
      (shown_now log w s w' s' g (starts_then log w.seen w'.seen begins g.gathers.of_reader.learns.seen))

  pub one_more : ((at : ℕ) (other : Handed) → at < i → IsShown log w (get_or hands at other))
      → (at : ℕ) (other : Handed) → at < i + 1 → IsShown log w' (get_or (set hands i s') at other)
  one_more done at other below_i =
      below_more (λ (j : ℕ). (o : Handed) → IsShown log w' (get_or (set hands i s') j o)) i
      (λ j before o. elsewhere j o (omega arith) (done j o before)) here at below_i other

  pub first_still : (first : ℕ) → i ≢ first → ((other : Handed) → IsShown log w (get_or hands first other))
      → (other : Handed) → IsShown log w' (get_or (set hands i s') first other)
  first_still first apart shown other = elsewhere first other (λ e. apart (sym e)) (shown other)

-- the next place is that of the first one, which was gathered before
pub skipped : (log : List Entry) (w : Caller) (hands : List Handed) (i first : ℕ) → i ≡ first
    → ((other : Handed) → IsShown log w (get_or hands first other))
    → ((at : ℕ) (other : Handed) → at < i → IsShown log w (get_or hands at other))
    → (at : ℕ) (other : Handed) → at < i + 1 → IsShown log w (get_or hands at other)
skipped log w hands i first is shown done at other below_i =
    below_more (λ (j : ℕ). (o : Handed) → IsShown log w (get_or hands j o)) i (λ j before o. done j o before)
    (λ o. subst (λ (j : ℕ). IsShown log w (get_or hands j o)) (sym is) (shown o)) at below_i other

-- hands that gathers left as they were
pub same_length : (xs ys : List Handed) → map still xs ≡ map still ys → length xs ≡ length ys
same_length xs ys e = omega (arith, length-map xs still, length-map ys still, ap length e)

pub same_at : (xs ys : List Handed) → map still xs ≡ map still ys → (at : ℕ) (a b : Handed) → at < length xs
    → still (get_or xs at a) ≡ still (get_or ys at b)
same_at xs ys e at a b low = let low' : at < length ys = omega (arith, same_length xs ys e) in
    sym (get_or-map still xs at a (still a) low) ∙ ap (λ (l : List Still). get_or l at (still a)) e
    ∙ get_or-map still ys at b (still a) low'

pub tables_on : (t : Table) (xs ys : List Handed) → map still ys ≡ map still xs
    → All (λ (s : Handed). s.reader.table ≡ t) xs → All (λ (s : Handed). s.reader.table ≡ t) ys
tables_on t xs ys e own at other low = let low' : at < length xs = omega (arith, same_length ys xs e) in
    ap (λ (s : Still). s.table) (same_at ys xs e at other other low) ∙ own at other low'

-- a round of all hands, after a gather of the first one
pub round_over : (w : Caller) (hands : List Handed) (at : ℕ) (w1 : Caller) (old s1 : Handed) (w' : Caller)
    (hands' : List Handed)
    → at < length hands → old ≡ get_or hands at old → GathersHand w old w1 s1
    → Round w1 (set hands at s1) w' hands' → Gathered at w hands w' hands'
round_over w hands at w1 old s1 w' hands' low item g r =
    let same_place : (other : Handed) → old ≡ get_or hands at other
    = λ other. item ∙ get_or_default hands at old other low in
    let size : length (set hands at s1) ≡ length hands = length-set hands at s1 in
    record {
      mid = w1;
      stays = learns_stays 2 w w1 g.gathers.of_reader.learns;
      sound = gather_sound w old.reader w1 s1.reader g.gathers;
      all = λ other. subst (λ (x : Handed). entries_of w1.seen x.reader.number ≡ mine_of x) (same_place other)
          g.gathers.all;
      heard = λ other. subst (λ (x : Handed). StartsWith w1.seen x.reader.seen) (same_place other)
          g.gathers.of_reader.seen;
      round = record {
        stays = r.stays;
        sound = r.sound;
        same = r.same ∙ map-set_same still hands at s1 old (same_still w old w1 s1 g ∙ ap still item);
        each = λ place other inside. r.each place other (omega (arith, size, inside));
      };
    }
