-- The last round of a run moved nothing, so at the end each seat is at rest or waits; and a run that is ending stays so.
use Rattle.std.proofs.Common.{◌≡◌, ℕ, zero, suc, ◌+◌, ◌-◌, ◌<◌, ◌≤◌, ◌⊎◌, inl, inr, ⊎_elim, true, List, [], ◌∷◌, ◌++◌, length, map, replicate, refl, sym, ap, ◌∙◌, subst, arith}
use Rattle.std.proofs.lemmas.Option.{none-some}
use Rattle.std.specs.List.{AllByRecursion}
use Rattle.std.specs.Prelude as std
use mathlib.Core.Option.{Option, none, some, some-injective, some-ne-none}
use lib.ListN.{get_elem?}
use Rattle.sock_words.specs.declared.kind.Kind.{Kind}
use Rattle.sock_words.specs.declared.plain.Plan.{Plan}
use Rattle.sock_model.specs.declared.home.Home.{Home}
use Rattle.sock_model.specs.UnplacedMessages.{HeadedBytes}
use Rattle.sock_model.specs.ChainLawReads.{message, link_home}
use Rattle.seat_programs.specs.Asides.{Step, Found, TakeBytes, Bytes}
use Rattle.seat_programs.specs.FoundAndChangedAside.{found_in, calls_after}
use Rattle.seat_programs.specs.StepTables.{kind_of}
use Rattle.seat_programs.specs.Asides.{kind_aside}
use Rattle.seat_programs.specs.Programs.{Program, Do, Say, Sent, Rest, TakeMessage, TakeHome, PutBytes, AskReady, Aside, Round, Keep, Retries}
use Rattle.seat_programs.specs.LoopRounds.{kind_of_round, first_step}
use Rattle.seat_programs.specs.Cores.{Calls, Core, SeatState}
use Rattle.seat_programs.specs.Ticks.{Answer, Unasked, Moment, seats_of, taken, with_message, with_link, with_found, step_with, tick_with, ticked, run, waits, IsAlwaysReady}
use Rattle.seat_programs.specs.ScheduledRuns.{kind_in, IsAtRest, from_to}
use Rattle.seat_programs.specs.ScriptSetupToEnding.{AreStill}
use Rattle.joint_runs.specs.Below.program_steps.proofs.TickCases.{ticks_first}
use Rattle.joint_runs.specs.Below.sock_runs.proofs.TicksOfWaitingSeats.{still}

-- ## The run stays one that is ending

after_keeps : (step : Step) (found : Found step) (a : Calls) → (calls_after step found a).ending ≡ a.ending
after_keeps (TakeBytes k room) (Bytes bytes) a = refl
after_keeps _ found a = refl

module _ (p : Plan) (c : Core) (i : ℕ) (seat : SeatState) where
  abbrev Same : Core → Type 0
  Same d = d.calls.ending ≡ c.calls.ending

  message_keeps : (q : ℕ) (x : Option HeadedBytes) (next : HeadedBytes → Program) → Same (with_message p i seat c q x next)
  message_keeps q none next = refl
  message_keeps q (some letter) next = refl

  home_keeps : (k : ℕ) (x : Option (List ℕ × ℕ)) (next : ℕ → Program) → Same (with_link p i seat c k x next)
  home_keeps k none next = refl
  home_keeps k (some home) next = refl

  found_keeps : (step : Step) (x : Option (Found step)) (next : Found step → Program) → Same (with_found p i seat c step x next)
  found_keeps step none next = refl
  found_keeps step (some found) next = after_keeps step found c.calls

  step_keeps : (answer : Answer) (program : Program) → Same (step_with p i seat c answer program)
  step_keeps answer (TakeMessage q next) = message_keeps q (message (λ (home : Home). home) c.homes q) (λ letter. next letter.0 letter.1)
  step_keeps answer (TakeHome k next) = home_keeps k (link_home (λ (home : Home). home) p c.homes k) next
  step_keeps Unasked (PutBytes k asked bytes next) = refl
  step_keeps _ (PutBytes k asked bytes next) = refl
  step_keeps Unasked (AskReady k next) = refl
  step_keeps _ (AskReady k next) = refl
  step_keeps answer (Aside step next) = found_keeps step (found_in step c.calls (taken answer)) next
  step_keeps answer _ = refl

ticked_ending : (p : Plan) (c : Core) (m : Moment) → (ticked p c m).calls.ending ≡ c.calls.ending
ticked_ending p c m = by_seat (get_elem? c.seats m.seat)
  where
    by_seat : (q : Option SeatState) → (elim q as (λ o. Core) [ none ↦ c | some seat ↦ tick_with p m.seat seat c m.answer seat.program ]).calls.ending ≡ c.calls.ending
    by_seat none = refl
    by_seat (some seat) = ap (λ (d : Core). d.calls.ending) (ticks_first p m.seat seat c m.answer seat.program) ∙ step_keeps p c m.seat seat m.answer (first_step seat.program)

pub run_ending : (p : Plan) (c : Core) (ms : List Moment) → (run p c ms).calls.ending ≡ c.calls.ending
run_ending p c [] = refl
run_ending p c (m ∷ ms) = run_ending p (ticked p c m) ms ∙ ticked_ending p c m

-- ## Ticks that move nothing

module _ (p : Plan) (i : ℕ) (seat : SeatState) (c : Core) (answer : Answer) where
  rest_tick : (program : Program) → kind_in program ≡ std.None → tick_with p i seat c answer program ≡ c
  rest_tick (Do call next) e = absurd (none-some (kind_of call) (sym e))
  rest_tick (Aside step next) e = absurd (none-some (kind_aside step) (sym e))
  rest_tick (Round head next) e = absurd (none-some (kind_of_round head) (sym e))
  rest_tick (Keep r next) e = refl
  rest_tick (Retries requests after) e = refl
  rest_tick (Say o outcome next) e = refl
  rest_tick (Sent o next) e = refl
  rest_tick Rest e = refl
  rest_tick _ e = absurd (none-some _ (sym e))

-- a tick of a seat that has no step left
pub rest_still : (p : Plan) (c : Core) (m : Moment) → IsAtRest c m.seat → ticked p c m ≡ c
rest_still p c m rest = by_seat (get_elem? c.seats m.seat) rest
  where
    by_seat : (q : Option SeatState) → elim q as (λ o. std.Option Kind) [ none ↦ std.None | some s ↦ kind_in s.program ] ≡ std.None → elim q as (λ o. Core) [ none ↦ c | some s ↦ tick_with p m.seat s c m.answer s.program ] ≡ c
    by_seat none e = refl
    by_seat (some s) e = rest_tick p m.seat s c m.answer s.program e

one_still : (p : Plan) (c : Core) (m : Moment) → IsAtRest c m.seat ⊎ (waits p c m ≡ true) → ticked p c m ≡ c
one_still p c m (inl rest) = rest_still p c m rest
one_still p c m (inr is) = still p c m is

pub all_still : (p : Plan) (c : Core) (ms : List Moment) → AreStill p c ms → run p c ms ≡ c
all_still p c [] s = refl
all_still p c (m ∷ ms) s = let e = one_still p c m s.0 in ap (λ d. run p d ms) e ∙ all_still p c ms (subst (λ d. AreStill p d ms) e s.1)

-- a seat that is ticked among them is at rest or waits
pub one_of_still : (p : Plan) (c : Core) (ms : List Moment) → AreStill p c ms → AllByRecursion IsAlwaysReady ms → (n i : ℕ) → get_elem? (seats_of ms) n ≡ some i → IsAtRest c i ⊎ ((m : Moment) × (m.seat ≡ i) × IsAlwaysReady m × (waits p c m ≡ true))
one_of_still p c [] s always_ready n i at = absurd (some-ne-none i (sym at))
one_of_still p c (m ∷ ms) s always_ready zero i at = let same : m.seat ≡ i = some-injective m.seat i at in ⊎_elim (λ rest. inl (subst (IsAtRest c) same rest)) (λ w. inr (m, same, always_ready.0, w)) s.0
one_of_still p c (m ∷ ms) s always_ready (suc n) i at = one_of_still p c ms (subst (λ d. AreStill p d ms) (one_still p c m s.0) s.1) always_ready.1 n i at

-- ## Lists

pub run_parts : (p : Plan) (c : Core) (xs ys : List Moment) → run p c (xs ++ ys) ≡ run p (run p c xs) ys
run_parts p c [] ys = refl
run_parts p c (x ∷ xs) ys = run_parts p (ticked p c x) xs ys

pub second_part : {A : Type 0} (P : A → Type 0) (xs ys : List A) → AllByRecursion P (xs ++ ys) → AllByRecursion P ys
second_part P [] ys all = all
second_part P (x ∷ xs) ys all = second_part P xs ys all.1

from_to_at : (a n k : ℕ) → k < n → get_elem? (from_to a n) k ≡ some (a + k)
from_to_at a zero k low = absurd (let z : ⊥ = omega (arith, low) in z)
from_to_at a (suc n) zero low = ap some (let z : a ≡ a + 0 = omega arith in z)
from_to_at a (suc n) (suc k) low = from_to_at (a + 1) n k (omega (arith, low)) ∙ ap some (let z : a + 1 + k ≡ a + suc k = omega arith in z)

pub in_first : {A : Type 0} (xs ys : List A) (k : ℕ) (a : A) → get_elem? xs k ≡ some a → get_elem? (xs ++ ys) k ≡ some a
in_first [] ys k a at = absurd (some-ne-none a (sym at))
in_first (x ∷ xs) ys zero a at = at
in_first (x ∷ xs) ys (suc k) a at = in_first xs ys k a at

in_second : {A : Type 0} (xs ys : List A) (k : ℕ) (a : A) → get_elem? ys k ≡ some a → (n : ℕ) × (get_elem? (xs ++ ys) n ≡ some a)
in_second [] ys k a at = (k, at)
in_second (x ∷ xs) ys k a at = let r = in_second xs ys k a at in (suc r.0, r.1)

-- a client, or a reader, has its place in a round
pub in_round : (clients links i : ℕ) → ((0 < i) × (i ≤ clients)) ⊎ ((32 ≤ i) × (i < 32 + links)) → (n : ℕ) × (get_elem? (from_to 1 clients ++ from_to 32 links) n ≡ some i)
in_round clients links i (inl h) = let first = h.0 in let last = h.1 in (i - 1, in_first (from_to 1 clients) (from_to 32 links) (i - 1) i (from_to_at 1 clients (i - 1) (omega (arith, first, last)) ∙ ap some (let z : 1 + (i - 1) ≡ i = omega (arith, first) in z)))
in_round clients links i (inr h) = let first = h.0 in let last = h.1 in in_second (from_to 1 clients) (from_to 32 links) (i - 32) i (from_to_at 32 links (i - 32) (omega (arith, first, last)) ∙ ap some (let z : 32 + (i - 32) ≡ i = omega (arith, first) in z))

-- of two lists of one length each place of one is a place of the other
pub view_of : {A B : Type 0} (l : List A) (m : List B) (j : ℕ) (a : A) → get_elem? l j ≡ some a → length m ≡ length l → (v : B) × (get_elem? m j ≡ some v)
view_of [] m j a at e = absurd (some-ne-none a (sym at))
view_of (x ∷ xs) [] j a at e = absurd (let z : ⊥ = omega (arith, e) in z)
view_of (x ∷ xs) (y ∷ ys) zero a at e = (y, refl)
view_of (x ∷ xs) (y ∷ ys) (suc j) a at e = view_of xs ys j a at (omega (arith, e))

pub all_at : {A : Type 0} (P : A → Type 0) (l : List A) (i : ℕ) (a : A) → AllByRecursion P l → get_elem? l i ≡ some a → P a
all_at P [] i a all e = absurd (some-ne-none a (sym e))
all_at P (x ∷ xs) zero a all e = subst P (some-injective x a e) all.0
all_at P (x ∷ xs) (suc i) a all e = all_at P xs i a all.1 e

-- ## Seats between the clients and the readers

pub rest_at : (xs ys : List Program) (n i : ℕ) → length xs ≤ i → i < length xs + n → get_elem? (xs ++ (replicate n Rest ++ ys)) i ≡ some Rest
rest_at [] ys zero i low high = absurd (let z : ⊥ = omega (arith, high) in z)
rest_at [] ys (suc n) zero low high = refl
rest_at [] ys (suc n) (suc i) low high = rest_at [] ys n i (omega arith) (omega (arith, high))
rest_at (x ∷ xs) ys n zero low high = absurd (let z : ⊥ = omega (arith, low) in z)
rest_at (x ∷ xs) ys n (suc i) low high = rest_at xs ys n i (omega (arith, low)) (omega (arith, high))

pub mapped_at : {A B : Type 0} (f : A → B) (l : List A) (i : ℕ) (a : A) → get_elem? l i ≡ some a → get_elem? (map f l) i ≡ some (f a)
mapped_at f [] i a at = absurd (some-ne-none a (sym at))
mapped_at f (x ∷ xs) zero a at = ap (λ y. some (f y)) (some-injective x a at)
mapped_at f (x ∷ xs) (suc i) a at = mapped_at f xs i a at
