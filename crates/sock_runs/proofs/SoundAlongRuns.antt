-- Runs of any length keep all seats sound, and a seat of a run never has an outcome to say before its next step.
use Rattle.std.proofs.Common.{◌≡◌, ℕ, zero, suc, true, List, [], ◌∷◌, ◌++◌, map, set, refl, sym, ap, ◌∙◌, subst, ⊎_elim}
use Rattle.std.proofs.lemmas.Bool.{true≢false}
use Rattle.std.proofs.lemmas.Option.{none-some}
use Rattle.std.specs.Prelude as std
use Rattle.std.specs.Prelude.{None}
use mathlib.Core.Option.{Option, some, none, some-injective, some-ne-none}
use lib.ListN.{get_elem?}
use Rattle.atomic_table.proofs.Lists.{at_set}
use Rattle.sock_words.specs.declared.kind.Kind.{Kind}
use Rattle.sock_words.specs.declared.plain.Plan.{Plan}
use Rattle.seat_programs.specs.sock_io.specs.declared.link.Put.{Put}
use Rattle.seat_programs.specs.sock_io.specs.declared.link.Ready.{Ready}
use Rattle.sock_model.specs.declared.home.Home.{Home}
use Rattle.sock_model.specs.UnplacedMessages.{HeadedBytes}
use Rattle.sock_model.specs.ChainLawReads.{message, link_home}
use Rattle.sock_model.specs.declared.view.View.{View}
use Rattle.seat_programs.specs.StepTables.{kind_of}
use Rattle.seat_programs.specs.Programs.{Program, Do, Say, Sent, Rest, TakeMessage, TakeHome, PutHome, PutBytes, AskReady, Write, Aside, Round, Keep, Retries}
use Rattle.seat_programs.specs.LoopHeads.{Retry}
use Rattle.seat_programs.specs.Asides.{Step, Found, kind_aside}
use Rattle.seat_programs.specs.FoundAndChangedAside.{found_in, calls_after}
use Rattle.seat_programs.specs.LoopRounds.{round, kind_of_round}
use Rattle.seat_programs.specs.corr_core.specs.declared.marks.Plan.{Plan as IdPlan}
use Rattle.seat_programs.specs.corr_core.proofs.NoteSums.{at_length}
use Rattle.seat_programs.specs.Cores.{Core, SeatState, found_at, words_after, homes_after, hand_after, lies_at, first_of, others_of, link_place, with_seat, next_step, resolved, waiting_at}
use Rattle.seat_programs.specs.StepTables.{word_of, word_after}
use Rattle.seat_programs.specs.SendAndWritePrograms.{block}
use Rattle.seat_programs.specs.Ticks.{Answer, OfPut, OfReady, Moment, AreAnswered, fed, with_places, onto_first, with_message, with_link, with_put, with_ready, with_found, taken, step_with, tick_with, ticked, run}
use Rattle.seat_programs.specs.ScheduledRuns.{kind_in, IsAtRest, IsSettled}
use Rattle.seat_programs.specs.ScriptSetupToEnding.{beginning}
use Rattle.program_steps.specs.SoundSeats.{Sound, IsAhead, AllRest, is_begun, AreFitting, views_after, views_along}
use Rattle.sock_runs.proofs.LinkTicks.{RetriesGo}
use Rattle.sock_runs.proofs.TicksKeepSeatsSound.{sound_ticks}

-- ticks of any seats, one after another, keep all seats sound
pub run_sound : (p : Plan) → RetriesGo p → (c : Core) (vs : List View) (moments : List Moment) → Sound p c vs → AreAnswered p c moments → AreFitting p c moments → Sound p (run p c moments) (views_along p c vs moments)
run_sound p go c vs [] sound answered fitting = sound
run_sound p go c vs (m ∷ moments) sound answered fitting = run_sound p go (ticked p c m) (views_after p c vs m) moments (sound_ticks p go c vs m sound answered.0 fitting.0) answered.1 fitting.1

-- ## Outcomes are said at once

pub begins : (w : List Retry) (program : Program) → is_begun (next_step (resolved w program)) ≡ true
begins [] (Retries requests after) = begins [] after
begins (r ∷ w) (Retries requests after) = refl
begins w (Say _ _ after) = begins w after
begins w (Sent _ after) = begins w after
begins w (Keep r after) = begins (w ++ r ∷ []) after
begins w _ = refl

-- a seat that has made a step, or that has a new program, is ahead as the others are
pub seat_ahead : (c : Core) (i : ℕ) (program : Program) (hand : List Home) (ws : List ℕ) (hs : List (Option Home)) → IsAhead c → IsAhead (with_seat i program hand ws hs c)
seat_ahead c i program hand ws hs ahead j seat at = ⊎_elim (λ a. subst (λ (x : SeatState). is_begun x.program ≡ true) a.1 (begins (waiting_at c.calls.waiting i) program)) (λ a. ahead j seat a.1)
    (at_set c.seats i j (record { program = next_step (resolved (waiting_at c.calls.waiting i) program); hand = hand }) seat at)

module _ (p : Plan) (c : Core) (i : ℕ) (seat : SeatState) (ahead : IsAhead c) where
  message_ahead : (q : ℕ) (x : Option HeadedBytes) (next : HeadedBytes → Program) → IsAhead (with_message p i seat c q x next)
  message_ahead q none next = ahead
  message_ahead q (some letter) next = seat_ahead c i (next letter) seat.hand c.words (set c.homes q none) ahead

  home_ahead : (k : ℕ) (x : Option (List ℕ × ℕ)) (next : ℕ → Program) → IsAhead (with_link p i seat c k x next)
  home_ahead k none next = ahead
  home_ahead k (some home) next = seat_ahead c i (next home.1) (lies_at c.homes (link_place p k) ++ seat.hand) c.words (set c.homes (link_place p k) none) ahead

  put_ahead : (bytes : List ℕ) (answer : Answer) (next : Put → Program) → IsAhead (with_put p i seat c bytes answer next)
  put_ahead bytes (OfPut answer) next = seat_ahead c i (next answer) (onto_first (fed bytes answer) seat.hand) c.words c.homes ahead
  put_ahead bytes _ next = ahead

  ready_ahead : (answer : Answer) (next : Ready → Program) → IsAhead (with_ready p i seat c answer next)
  ready_ahead (OfReady answer) next = seat_ahead c i (next answer) seat.hand c.words c.homes ahead
  ready_ahead _ next = ahead

  found_ahead : (step : Step) (x : Option (Found step)) (next : Found step → Program) → IsAhead (with_found p i seat c step x next)
  found_ahead step none next = ahead
  found_ahead step (some found) next = seat_ahead (record c { calls = calls_after step found c.calls }) i (next found) seat.hand c.words c.homes ahead

  step_ahead : (answer : Answer) (program : Program) → IsAhead (step_with p i seat c answer program)
  step_ahead answer (Do call next) = let found : ℕ = found_at c.words (word_of p call) in
      seat_ahead c i (next found) (hand_after p call c.homes seat.hand) (words_after c.words (word_of p call) (word_after call found)) (homes_after p call seat.hand c.homes) ahead
  step_ahead answer (TakeMessage q next) = message_ahead q (message (λ (home : Home). home) c.homes q) (λ letter. next letter.0 letter.1)
  step_ahead answer (TakeHome k next) = home_ahead k (link_home (λ (home : Home). home) p c.homes k) next
  step_ahead answer (PutHome k n after) = seat_ahead c i after (others_of seat.hand) c.words (set c.homes (link_place p k) (first_of (onto_first (with_places n) seat.hand))) ahead
  step_ahead answer (PutBytes k asked bytes next) = put_ahead bytes answer next
  step_ahead answer (AskReady k next) = ready_ahead answer next
  step_ahead answer (Aside step next) = found_ahead step (found_in step c.calls (taken answer)) next
  step_ahead answer _ = ahead

  tick_ahead : (answer : Answer) (program : Program) → IsAhead (tick_with p i seat c answer program)
  tick_ahead answer (Write w after) = step_ahead answer (block w after)
  tick_ahead answer (Round head next) = step_ahead answer (round head next)
  tick_ahead answer other = step_ahead answer other

-- so is it behind a tick
pub ticked_ahead : (p : Plan) (c : Core) (m : Moment) → IsAhead c → IsAhead (ticked p c m)
ticked_ahead p c m ahead = by_seat (get_elem? c.seats m.seat)
  where
    by_seat : (q : Option SeatState) → IsAhead (elim q as (λ o. Core) [ none ↦ c | some seat ↦ tick_with p m.seat seat c m.answer seat.program ])
    by_seat none = ahead
    by_seat (some seat) = tick_ahead p c m.seat seat ahead m.answer seat.program

pub run_ahead : (p : Plan) (c : Core) (moments : List Moment) → IsAhead c → IsAhead (run p c moments)
run_ahead p c [] ahead = ahead
run_ahead p c (m ∷ moments) ahead = run_ahead p (ticked p c m) moments (ticked_ahead p c m ahead)

-- as they are at the beginning
seats_ahead : (programs : List Program) (i : ℕ) (seat : SeatState) → get_elem? (map (λ (program : Program). record { program = next_step (resolved [] program); hand = [] }) programs) i ≡ some seat → is_begun seat.program ≡ true
seats_ahead [] i seat at = absurd (some-ne-none seat (sym at))
seats_ahead (x ∷ xs) zero seat at = subst (λ (y : SeatState). is_begun y.program ≡ true) (some-injective (record { program = next_step (resolved [] x); hand = [] }) seat at) (begins [] x)
seats_ahead (x ∷ xs) (suc i) seat at = seats_ahead xs i seat at

pub beginning_ahead : (p : Plan) (q : IdPlan) (programs : List Program) → IsAhead (beginning p q programs)
beginning_ahead p q programs = seats_ahead programs

-- ## A settled core

rests : (program : Program) → is_begun program ≡ true → kind_in program ≡ None → program ≡ Rest
rests (Do call next) begun idle = absurd (none-some (kind_of call) (sym idle))
rests (Say _ _ _) begun idle = absurd (true≢false (sym begun))
rests (Sent _ _) begun idle = absurd (true≢false (sym begun))
rests (Keep _ _) begun idle = absurd (true≢false (sym begun))
rests (Retries _ _) begun idle = absurd (true≢false (sym begun))
rests Rest begun idle = refl
rests (Aside step next) begun idle = absurd (none-some (kind_aside step) (sym idle))
rests (Round head next) begun idle = absurd (none-some (kind_of_round head) (sym idle))
rests _ begun idle = absurd (none-some _ (sym idle))

-- a seat that has no step left has nothing left to do
pub seat_rests : (c : Core) → IsAhead c → (i : ℕ) → IsAtRest c i → (seat : SeatState) → get_elem? c.seats i ≡ some seat → seat.program ≡ Rest
seat_rests c ahead i idle seat at = rests seat.program (ahead i seat at)
    (sym (ap (λ o. elim o as (λ o. std.Option Kind) [ none ↦ None | some s ↦ kind_in s.program ]) at) ∙ idle)

-- where no seat has a step left, none has anything left to do
pub settled_rests : (c : Core) → IsAhead c → IsSettled c → AllRest c
settled_rests c ahead settled i seat at = seat_rests c ahead i (settled i (at_length c.seats i seat at)) seat at
