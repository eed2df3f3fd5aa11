-- Rounds of the clients and readers up to one in which nothing moved, and steps of seat 0.
use Rattle.std.proofs.Common.{◌≡◌, refl, ℕ, zero, suc, ◌+◌, ◌-◌, ◌<◌, inl, inr, Bool, true, false, List, [], ◌∷◌, ◌++◌, replicate, ap, ap₂, sym, ◌∙◌, append-nil, append_assoc, arith, subst, ⊎_elim}
use Rattle.std.proofs.Props.{props}
use Rattle.std.proofs.lemmas.Bool.{true≢false}
use Rattle.std.proofs.lemmas.Option.{none-some}
use Rattle.std.proofs.Math.Logic.{∥∥₁_elim}
use Rattle.sock_words.specs.declared.kind.Kind.{Kind}
use Rattle.sock_words.specs.declared.plain.Plan.{Plan}
use Rattle.seat_programs.specs.Cores.{Core}
use Rattle.seat_programs.specs.Ticks.{Moment, seats_of, ticked, run, quiet}
use Rattle.seat_programs.specs.ScheduledRuns.{from_to}
use Rattle.seat_programs.specs.ScriptSetupToEnding.{AreStill}
use Rattle.machine_model.specs.declared.tick.Tick.{Tick}
use Rattle.machine_model.specs.declared.tick.Tick.TheVariants.{Moved, Waits, Idle}
use Rattle.machine_model.specs.MachineLinks.{Taken, Given, Agrees, AgreesGave, StayOffered, StayPaced}
use Rattle.machine_model.specs.Machines.{MachineState, HasSizes, MOST_LEFT, READERS, core_with}
use Rattle.machine_model.specs.MachineRuns.{SameTable, SameLinks, Follows, Made, TickIs, TickedWith, Ticked, round_by, MadeByTicks, RoundWith, Still, HasMoved, SettlesAfter, PlayedWith, PlayedOn, RanFirst}
use Rattle.machine_model.specs.Driving.{LastsAtMost, LeavesFewer, LeavesAsMany, Leaves, IsPlain, FirstRests, TickedFirst}
use Rattle.machine_ticks.proofs.JoiningRuns.{seats_append, run_append, follows_none, follows_join, made_join}
use Rattle.machine_model.proofs.Same.{same_table_none, same_table_join, same_links_none, same_links_join}
use Rattle.machine_ticks.proofs.RestingTicks.{Rests}

-- ## Ticks in which nothing moved

module _ (p : Plan) where
  still_append : (c : Core) (xs ys : List Moment) → AreStill p c xs → AreStill p (run p c xs) ys → AreStill p c (xs ++ ys)
  still_append c [] ys first later = later
  still_append c (m ∷ ms) ys first later = (first.0, still_append (ticked p c m) ms ys first.1 later)

  still_parts : (c : Core) (xs ys : List Moment) → AreStill p c (xs ++ ys) → AreStill p c xs × AreStill p (run p c xs) ys
  still_parts c [] ys all = (tt, all)
  still_parts c (m ∷ ms) ys all = let parts = still_parts (ticked p c m) ms ys all.1 in ((all.0, parts.0), parts.1)

-- a tick that didn't move
abbrev pub IsStill : Tick → Type 0
IsStill tick = (kind : Kind) → tick ≡ Moved kind → ⊥

tick_still : (m : MachineState) (c : Core) (moment : Moment) (tick : Tick) → IsStill tick → TickIs m c moment tick → AreStill m.plan c (moment ∷ [])
tick_still m c moment (Moved kind) still is = absurd (still kind refl)
tick_still m c moment (Waits on_) still is = (inr is.0, tt)
tick_still m c moment Idle still is = (inl is, tt)

tick_moved : (m : MachineState) (c : Core) (moment : Moment) (kind : Kind) → TickIs m c moment (Moved kind) → AreStill m.plan c (moment ∷ []) → ⊥
tick_moved m c moment kind is all = ⊎_elim (λ rest. absurd (none-some kind (sym rest ∙ is.0))) (λ waits_. absurd (true≢false (sym waits_ ∙ is.1))) all.0

-- ## A round so far

-- whether something moved in these ticks
abbrev pub IsSo : Bool → Plan → Core → List Moment → Type 0
IsSo true p c ms = AreStill p c ms → ⊥
IsSo false p c ms = AreStill p c ms

so_still : (went : Bool) (p : Plan) (c : Core) (xs ys : List Moment) → IsSo went p c xs → AreStill p (run p c xs) ys → IsSo went p c (xs ++ ys)
so_still true p c xs ys so later = λ all. so (still_parts p c xs ys all).0
so_still false p c xs ys so later = still_append p c xs ys so later

-- ticks of these seats, in which something moved or nothing did
pub record SeatsWith (went : Bool) (seats : List ℕ) (old new : MachineState) (took : Taken) (gave : Given) : Type 0 where
  pub moments : List Moment
  pub are_of : seats_of moments ≡ seats
  pub is : IsSo went old.plan (core_with old took gave) moments
  pub follows : Follows old new took gave moments

pub record RoundSoFar (m fresh : MachineState) (seats : List ℕ) (went : Bool) : Type 0 where
  pub ran : Made m fresh (SeatsWith went seats m fresh)
  pub as_many : LeavesAsMany m fresh
  pub fewer : went ≡ true → LeavesFewer m fresh
  pub rest : FirstRests fresh
  pub enough : fresh.short ≡ false

pub round_begins : (m : MachineState) → m.short ≡ false → FirstRests m → RoundSoFar m m [] false
round_begins m enough rest = record {
  ran = (same_table_none m, same_links_none m, λ took gave agrees agrees_gave. record { moments = []; are_of = refl; is = tt; follows = follows_none m took gave agrees agrees_gave });
  as_many = λ n h. h;
  fewer = λ e. absurd (true≢false (sym e));
  rest = rest;
  enough = enough;
}

less_one : (m : MachineState) (n : ℕ) → LastsAtMost m (n - 1) → LastsAtMost m n
less_one m n lasts = (lasts.0, ∥∥₁_elim lasts.1 (hlevel props) (λ s. let h = s.1 in ∣ (s.0, omega (arith, h)) ∣₁))

leaves_as_many : (tick : Tick) (a b : MachineState) → Leaves tick a b → LeavesAsMany a b
leaves_as_many (Moved kind) a b leaves n lasts = less_one b n (leaves n lasts).1
leaves_as_many (Waits what) a b leaves n lasts = leaves n lasts
leaves_as_many Idle a b leaves n lasts = leaves n lasts

pub leaves_fewer : (kind : Kind) (tick : Tick) (a b : MachineState) → tick ≡ Moved kind → Leaves tick a b → LeavesFewer a b
leaves_fewer kind tick a b e leaves = subst (λ (t : Tick). Leaves t a b) e leaves

fewer_then : (a b c : MachineState) → LeavesFewer a b → LeavesAsMany b c → LeavesFewer a c
fewer_then a b c first later n lasts = let f = first n lasts in (f.0, later (n - 1) f.1)

then_fewer : (a b c : MachineState) → LeavesAsMany a b → LeavesFewer b c → LeavesFewer a c
then_fewer a b c first later n lasts = later n (first n lasts)

-- what holds of the core behind a machine holds of the run that led to it
at_run : (a b : MachineState) (took : Taken) (gave : Given) (xs : List Moment) (f : Follows a b took gave xs) → SameTable a b → (P : Plan → Core → Type 0) → P b.plan (core_with b f.later f.later_gave) → P a.plan (run a.plan (core_with a took gave) xs)
at_run a b took gave xs f table P h = subst (λ (d : Core). P a.plan d) f.core (subst (λ (p : Plan). P p (core_with b f.later f.later_gave)) table.plan h)

module _ (m fresh next : MachineState) (seats : List ℕ) (i : ℕ) (went : Bool) (tick : Tick) (so_far : RoundSoFar m fresh seats went) (t : Ticked fresh next i tick) (leaves : Leaves tick fresh next) (enough : next.short ≡ false) (rest : FirstRests next) where
  -- the ticks with one more
  more_with : (gone : Bool) → ((c : Core) (xs : List Moment) (moment : Moment) → IsSo went m.plan c xs → TickIs fresh (run m.plan c xs) moment tick → SameTable m fresh → IsSo gone m.plan c (xs ++ moment ∷ [])) → Made m next (SeatsWith gone (seats ++ i ∷ []) m next)
  more_with gone so = made_join m fresh next (SeatsWith went seats m fresh) (TickedWith fresh next i tick) (SeatsWith gone (seats ++ i ∷ []) m next) so_far.ran t
      (λ took gave agrees agrees_gave table links after x later. let f = x.follows in let y = later f.later f.later_gave f.agrees f.agrees_gave in record {
        moments = x.moments ++ y.moment ∷ [];
        are_of = seats_append x.moments (y.moment ∷ []) ∙ ap₂ (λ (is : List ℕ) (j : ℕ). is ++ j ∷ []) x.are_of y.is_of;
        is = so (core_with m took gave) x.moments y.moment x.is (subst (λ (d : Core). TickIs fresh d y.moment tick) f.core y.is) table;
        follows = follows_join m fresh next took gave x.moments (y.moment ∷ []) table links after f y.follows;
      })

  pub round_moved : (kind : Kind) → tick ≡ Moved kind → RoundSoFar m next (seats ++ i ∷ []) true
  round_moved kind is = record {
    ran = more_with true (λ c xs moment so at table all. tick_moved fresh (run m.plan c xs) moment kind (subst (λ (x : Tick). TickIs fresh (run m.plan c xs) moment x) is at)
        (subst (λ (p : Plan). AreStill p (run m.plan c xs) (moment ∷ [])) (sym table.plan) (still_parts m.plan c xs (moment ∷ []) all).1));
    as_many = λ n lasts. leaves_as_many tick fresh next leaves n (so_far.as_many n lasts);
    fewer = λ e. then_fewer m fresh next so_far.as_many (leaves_fewer kind tick fresh next is leaves);
    rest = rest;
    enough = enough;
  }

  pub round_still : IsStill tick → RoundSoFar m next (seats ++ i ∷ []) went
  round_still still = record {
    ran = more_with went (λ c xs moment so at table. so_still went m.plan c xs (moment ∷ []) so (subst (λ (p : Plan). AreStill p (run m.plan c xs) (moment ∷ [])) table.plan (tick_still fresh (run m.plan c xs) moment tick still at)));
    as_many = λ n lasts. leaves_as_many tick fresh next leaves n (so_far.as_many n lasts);
    fewer = λ e. fewer_then m fresh next (so_far.fewer e) (leaves_as_many tick fresh next leaves);
    rest = rest;
    enough = enough;
  }

-- ## Its seats

from_to_more : (i n : ℕ) → from_to i (suc n) ≡ from_to i n ++ (i + n) ∷ []
from_to_more i zero = ap (λ (j : ℕ). j ∷ []) (let e : i ≡ i + 0 = omega arith in e)
from_to_more i (suc n) = ap (λ (js : List ℕ). i ∷ js) (from_to_more (i + 1) n ∙ ap (λ (j : ℕ). from_to (i + 1) n ++ j ∷ []) (let e : (i + 1) + n ≡ i + suc n = omega arith in e))

-- one client more, and one reader more
pub client_more : (seat : ℕ) → 0 < seat → from_to 1 (seat - 1) ++ seat ∷ [] ≡ from_to 1 ((seat + 1) - 1)
client_more seat some_ = let place : seat ≡ 1 + (seat - 1) = omega (arith, some_) in let many : suc (seat - 1) ≡ (seat + 1) - 1 = omega (arith, some_) in
    ap (λ (j : ℕ). from_to 1 (seat - 1) ++ j ∷ []) place ∙ sym (from_to_more 1 (seat - 1)) ∙ ap (from_to 1) many

pub reader_more : (clients : List ℕ) (link : ℕ) → (clients ++ from_to READERS link) ++ (READERS + link) ∷ [] ≡ clients ++ from_to READERS (link + 1)
reader_more clients link = let many : suc link ≡ link + 1 = omega arith in
    append_assoc clients (from_to READERS link) ((READERS + link) ∷ []) ∙ ap (λ (l : List ℕ). clients ++ l) (sym (from_to_more READERS link) ∙ ap (from_to READERS) many)

-- ## A whole round

module _ (m fresh : MachineState) (went : Bool) (so_far : RoundSoFar m fresh (round_by m.plan) went) where
  pub round_went : went ≡ true → HasMoved m fresh × LeavesFewer m fresh
  round_went e = (
    (
      so_far.ran.0,
      so_far.ran.1,
      λ took gave agrees agrees_gave. let w = so_far.ran.2 took gave agrees agrees_gave in
          record { moments = w.moments; are_of = w.are_of; is = subst (λ b. IsSo b m.plan (core_with m took gave) w.moments) e w.is; follows = w.follows },
    ),
    so_far.fewer e,
  )

  pub round_stood : went ≡ false → Still m fresh × (fresh.short ≡ false)
  round_stood e = (
    (
      so_far.ran.0,
      so_far.ran.1,
      λ took gave agrees agrees_gave. let w = so_far.ran.2 took gave agrees agrees_gave in
          record { moments = w.moments; are_of = w.are_of; is = subst (λ b. IsSo b m.plan (core_with m took gave) w.moments) e w.is; follows = w.follows },
    ),
    so_far.enough,
  )

-- ## Rounds

-- so many rounds, in each of which something moved
abbrev pub MovedRounds : Plan → ℕ → Core → List Moment → Type 0
MovedRounds p zero c ms = ms ≡ []
MovedRounds p (suc n) c ms = (now later : List Moment) × (ms ≡ now ++ later) × (seats_of now ≡ round_by p) × (AreStill p c now → ⊥) × MovedRounds p n (run p c now) later

module _ (p : Plan) where
  -- what holds of later ticks holds behind such rounds too, where it does one round earlier
  module _ (Holds : ℕ → Core → List Moment → Type 0) (earlier : (n : ℕ) (c : Core) (now later : List Moment) → seats_of now ≡ round_by p → (AreStill p c now → ⊥) → Holds n (run p c now) later → Holds (suc n) c (now ++ later)) where
    behind_rounds : (n : ℕ) (c : Core) (xs ys : List Moment) → MovedRounds p n c xs → Holds 0 (run p c xs) ys → Holds n c (xs ++ ys)
    behind_rounds zero c xs ys none_ h = subst (λ (l : List Moment). Holds 0 c (l ++ ys)) (sym none_) (subst (λ (l : List Moment). Holds 0 (run p c l) ys) none_ h)
    behind_rounds (suc n) c xs ys rounds h = subst (Holds (suc n) c) (sym (ap (λ (l : List Moment). l ++ ys) rounds.2 ∙ append_assoc rounds.0 rounds.1 ys))
        (earlier n c rounds.0 (rounds.1 ++ ys) rounds.3 rounds.4 (behind_rounds n (run p c rounds.0) rounds.1 ys rounds.5 (subst (λ (d : Core). Holds 0 d ys) (ap (run p c) rounds.2 ∙ run_append p c rounds.0 rounds.1) h)))

  -- one more, in which something moved
  moved_more : (n : ℕ) (c : Core) (xs ys : List Moment) → MovedRounds p n c xs → seats_of ys ≡ round_by p → (AreStill p (run p c xs) ys → ⊥) → MovedRounds p (suc n) c (xs ++ ys)
  moved_more n c xs ys rounds are moved = behind_rounds (λ k. MovedRounds p (suc k)) (λ k d now later of_it went rest. (now, later, refl, of_it, went, rest)) n c xs ys rounds (ys, [], sym (append-nil ys), are, moved, refl)

  -- and one in which nothing did
  settles_after : (n : ℕ) (c : Core) (xs ys : List Moment) → MovedRounds p n c xs → seats_of ys ≡ round_by p → AreStill p (run p c xs) ys → SettlesAfter p n c (xs ++ ys)
  settles_after n c xs ys rounds are still = behind_rounds (SettlesAfter p) (λ k d now later of_it went rest. (now, later, refl, of_it, went, rest)) n c xs ys rounds (are, still)

abbrev pub MovedWith : ℕ → MachineState → MachineState → Taken → Given → Type 0
MovedWith count = MadeByTicks (λ p. MovedRounds p count)

pub record PlayedSoFar (m fresh : MachineState) (count : ℕ) : Type 0 where
  pub ran : Made m fresh (MovedWith count m fresh)
  pub rest : FirstRests fresh
  pub below : count < MOST_LEFT
  pub left : LastsAtMost fresh (MOST_LEFT - 1 - count)

pub played_none : (m : MachineState) → FirstRests m → LastsAtMost m (MOST_LEFT - 1) → PlayedSoFar m m 0
played_none m rest left = record {
  ran = (same_table_none m, same_links_none m, λ took gave agrees agrees_gave. record { moments = []; is = refl; follows = follows_none m took gave agrees agrees_gave });
  rest = rest;
  below = omega arith;
  left = left;
}

-- one more that moved leaves room for another
pub fewer_left : (m fresh : MachineState) (count : ℕ) → LeavesFewer m fresh → LastsAtMost m (MOST_LEFT - 1 - count) → (count + 1 < MOST_LEFT) × LastsAtMost fresh (MOST_LEFT - 1 - (count + 1))
fewer_left m fresh count fewer left = let f = fewer (MOST_LEFT - 1 - count) left in let a = f.0 in let e : (MOST_LEFT - 1 - count) - 1 ≡ MOST_LEFT - 1 - (count + 1) = omega arith in
    (omega (arith, a), subst (LastsAtMost fresh) e f.1)

module _ (m fresh next : MachineState) (count : ℕ) (so_far : PlayedSoFar m fresh count) where
  -- a round behind these
  round_at : (took : Taken) (gave : Given) (Is : Plan → Core → List Moment → Type 0) (x : MovedWith count m fresh took gave) (y : RoundWith Is fresh next x.follows.later x.follows.later_gave) → Is m.plan (run m.plan (core_with m took gave) x.moments) y.moments
  round_at took gave Is x y = at_run m fresh took gave x.moments x.follows so_far.ran.0 (λ p d. Is p d y.moments) y.is

  round_of_it : (took : Taken) (gave : Given) (Is : Plan → Core → List Moment → Type 0) (x : MovedWith count m fresh took gave) (y : RoundWith Is fresh next x.follows.later x.follows.later_gave) → seats_of y.moments ≡ round_by m.plan
  round_of_it took gave Is x y = y.are_of ∙ ap round_by so_far.ran.0.plan

  pub played_more : HasMoved fresh next → FirstRests next → LeavesFewer fresh next → PlayedSoFar m next (count + 1)
  played_more moved rest fewer = let f = fewer_left fresh next count fewer so_far.left in let e : suc count ≡ count + 1 = omega arith in record {
    ran = subst (λ n. Made m next (MovedWith n m next)) e
        (made_join m fresh next (MovedWith count m fresh) (RoundWith (λ p c ms. AreStill p c ms → ⊥) fresh next) (MovedWith (suc count) m next) so_far.ran moved (λ took gave agrees agrees_gave table links after x later. let g = x.follows in
        let y = later g.later g.later_gave g.agrees g.agrees_gave in record {
          moments = x.moments ++ y.moments;
          is = moved_more m.plan count (core_with m took gave) x.moments y.moments x.is (round_of_it took gave (λ p c ms. AreStill p c ms → ⊥) x y) (round_at took gave (λ p c ms. AreStill p c ms → ⊥) x y);
          follows = follows_join m fresh next took gave x.moments y.moments table links after g y.follows;
        }));
    rest = rest;
    below = f.0;
    left = f.1;
  }

  -- the last one
  pub played_last : Still fresh next → PlayedOn m next
  played_last still = made_join m fresh next (MovedWith count m fresh) (RoundWith AreStill fresh next) (PlayedWith m next) so_far.ran still (λ took gave agrees agrees_gave table links after x later. let g = x.follows in
      let y = later g.later g.later_gave g.agrees g.agrees_gave in record {
        moments = x.moments ++ y.moments;
        is = record { rounds = count; after = settles_after m.plan count (core_with m took gave) x.moments y.moments x.is (round_of_it took gave AreStill x y) (round_at took gave AreStill x y) };
        follows = follows_join m fresh next took gave x.moments y.moments table links after g y.follows;
      })

-- ## Seat 0

replicate_last : (n : ℕ) → replicate (suc n) (quiet 0) ≡ replicate n (quiet 0) ++ quiet 0 ∷ []
replicate_last zero = refl
replicate_last (suc n) = ap (λ (l : List Moment). quiet 0 ∷ l) (replicate_last n)

replicate_more : (n : ℕ) → replicate (n + 1) (quiet 0) ≡ replicate n (quiet 0) ++ quiet 0 ∷ []
replicate_more n = let e : n + 1 ≡ suc n = omega arith in ap (λ k. replicate k (quiet 0)) e ∙ replicate_last n

pub record FirstSoFar (m fresh : MachineState) (count : ℕ) : Type 0 where
  pub table : SameTable m fresh
  pub links : SameLinks m fresh
  pub plain : IsPlain fresh
  pub sizes : ∥ HasSizes fresh ∥₁
  pub ends : fresh.ends ≡ m.ends
  pub core : (took : Taken) (gave : Given) → Agrees m.links took → AgreesGave m.links gave → Agrees fresh.links took × AgreesGave fresh.links gave × (core_with fresh took gave ≡ run m.plan (core_with m took gave) (replicate count (quiet 0)))
  pub offers : (took : Taken) (gave : Given) → Agrees m.links took → AgreesGave m.links gave → StayOffered m.links.outs m.links.inns fresh.links
  pub shapes : StayPaced m.links.outs fresh.links
  pub below : count < MOST_LEFT
  pub left : LastsAtMost fresh (MOST_LEFT - 1 - count)

pub first_none : (m : MachineState) → IsPlain m → ∥ HasSizes m ∥₁ → LastsAtMost m (MOST_LEFT - 1) → FirstSoFar m m 0
first_none m plain sizes left = record {
  table = same_table_none m;
  links = same_links_none m;
  plain = plain;
  sizes = sizes;
  ends = refl;
  core = λ took gave agrees agrees_gave. (agrees, agrees_gave, refl);
  offers = λ took gave agrees agrees_gave k serve end h. h;
  shapes = λ k pacing h. h;
  below = omega arith;
  left = left;
}

module _ (m fresh next : MachineState) (count : ℕ) (tick : Tick) (so_far : FirstSoFar m fresh count) (t : Ticked fresh next 0 tick) (first : TickedFirst fresh next) where
  core_on : (took : Taken) (gave : Given) → Agrees m.links took → AgreesGave m.links gave → Agrees next.links took × AgreesGave next.links gave × (core_with next took gave ≡ run m.plan (core_with m took gave) (replicate (count + 1) (quiet 0)))
  core_on took gave agrees agrees_gave = let f = so_far.core took gave agrees agrees_gave in let g = first.3 took gave f.0 f.1 in (
    g.0,
    g.1,
    g.2 ∙ ap (λ (p : Plan). ticked p (core_with fresh took gave) (quiet 0)) so_far.table.plan ∙ ap (λ (c : Core). ticked m.plan c (quiet 0)) f.2
        ∙ sym (run_append m.plan (core_with m took gave) (replicate count (quiet 0)) (quiet 0 ∷ [])) ∙ ap (run m.plan (core_with m took gave)) (sym (replicate_more count)),
  )

  offers_more : (took : Taken) (gave : Given) → Agrees m.links took → AgreesGave m.links gave → StayOffered m.links.outs m.links.inns next.links
  offers_more took gave agrees agrees_gave k serve end h = let f = so_far.core took gave agrees agrees_gave in ((t.2 took gave f.0 f.1).follows.offers k serve end (so_far.offers took gave agrees agrees_gave k serve end h)).1

  pub first_more : LeavesFewer fresh next → ∥ HasSizes next ∥₁ → FirstSoFar m next (count + 1)
  first_more fewer sizes = let f = fewer_left fresh next count fewer so_far.left in record {
    table = same_table_join m fresh next so_far.table t.0;
    links = same_links_join m fresh next so_far.links t.1;
    plain = first.0;
    sizes = sizes;
    ends = first.1 ∙ so_far.ends;
    core = core_on;
    offers = offers_more;
    shapes = λ k pacing h. first.2 k pacing (so_far.shapes k pacing h);
    below = f.0;
    left = f.1;
  }

  pub first_last : Rests next 0 → RanFirst m next
  first_last rest = record {
    same = (same_table_join m fresh next so_far.table t.0, same_links_join m fresh next so_far.links t.1);
    ends = first.1 ∙ so_far.ends;
    steps = count + 1;
    core = core_on;
    offers = offers_more;
    shapes = λ k pacing h. first.2 k pacing (so_far.shapes k pacing h);
    still = rest;
  }
