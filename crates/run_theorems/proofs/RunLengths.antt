-- A run keeps its tables as long as they are, and as many places for outcomes as there are operations.
use Rattle.std.proofs.Common.{◌≡◌, ℕ, List, [], ◌∷◌, ◌++◌, length, length-set, replicate, refl, sym, ap, ◌∙◌, subst, arith}
use Rattle.std.specs.Prelude as std
use Rattle.std.specs.Prelude.{None, Ok}
use Rattle.std.specs.List.{fold}
use Rattle.std.proofs.lemmas.List.{length-map, length-replicate}
use mathlib.Core.Option.{Option, none, some}
use lib.ListN.{get_elem?}
use Rattle.sock_words.specs.declared.plain.Plan.{Plan}
use Rattle.sock_words.specs.declared.outcome.Outcome.{Outcome}
use Rattle.sock_io.specs.declared.link.Put.{Put}
use Rattle.sock_io.specs.declared.link.Ready.{Ready}
use Rattle.brpc_model.specs.Items.{Item}
use Rattle.brpc_model.specs.Operations.{Turn, operations}
use Rattle.brpc_model.specs.Script.{script_of}
use Rattle.corr_core.specs.declared.marks.Plan.{Plan as IdPlan}
use Rattle.seat_programs.specs.sock_message.specs.Asked.{Asked}
use Rattle.sock_model.specs.declared.home.Home.{Home}
use Rattle.sock_model.specs.UnplacedMessages.{HeadedBytes}
use Rattle.sock_model.specs.ChainLawReads.{message, link_home}
use Rattle.seat_programs.specs.Asides.{Step, ClaimId, PutCall, MakeId, StoreCall, LoadCall, StoreAt, LoadAt, LoadIdWord, LockId, PostId, UnlockId, EndId, FreeId, TakeCall, TakeBytes, Found, Taking, Bytes}
use Rattle.seat_programs.specs.FoundAndChangedAside.{found_in, calls_after, with_word, more_given}
use Rattle.seat_programs.specs.LoopRounds.{round}
use Rattle.seat_programs.specs.SendAndWritePrograms.{block}
use Rattle.seat_programs.specs.Tasks.{opens, calls, plan_of, id_plan_of}
use Rattle.seat_programs.specs.Programs.{Program, Do, TakeMessage, TakeHome, PutHome, PutBytes, AskReady, Write, Aside, Round}
use Rattle.seat_programs.specs.ClientProgram.{ending_of}
use Rattle.seat_programs.specs.Cores.{Calls, Core, SeatState, found_at, words_after, hand_after, homes_after, first_of, others_of, lies_at, link_place, said, resolved, still_waiting, next_step, waiting_at, with_seat}
use Rattle.seat_programs.specs.StepTables.{word_of, word_after}
use Rattle.seat_programs.specs.Ticks.{Answer, OfPut, OfReady, Moment, quiet, fed, with_places, onto_first, taken, with_message, with_link, with_put, with_ready, with_found, step_with, tick_with, ticked, run}
use Rattle.seat_programs.specs.ScriptSetupToEnding.{sizes_of, programs, readers_from, all_programs, all_tasks, opened, ending, is_ending, set_up, played, IsRunWithCalls}
use Rattle.outcome_causes.specs.outcome_ticks.proofs.SeatPartOfStory.{length_said}
use Rattle.owed_calls.specs.Below.programs_allowed.proofs.WordsAtBeginning.{unused, length_homes}
use Rattle.owed_calls.specs.Below.programs_allowed.proofs.LastingTicksOfRuns.{length_all}
use Rattle.owed_calls.specs.Below.id_runs.proofs.IdRuleOpening as ids
use Rattle.run_theorems.specs.CoreListSizes.{IsSized}
use Rattle.run_theorems.proofs.ScriptStartsSoundly.{made}
use Rattle.outcome_causes.specs.sock_runs.proofs.TicksKeepSeatsSound.{homes_sized}

-- the lists of d are as long as those of c
pub record AsLong (c d : Core) : Type 0 where
  pub words : length d.words ≡ length c.words
  pub homes : length d.homes ≡ length c.homes
  pub seats : length d.seats ≡ length c.seats
  pub outcomes : length d.outcomes ≡ length c.outcomes
  pub plan : d.calls.plan ≡ c.calls.plan
  pub id_words : length d.calls.words ≡ length c.calls.words
  pub id_homes : length d.calls.homes ≡ length c.calls.homes
  pub waiting : length d.calls.waiting ≡ length c.calls.waiting
  pub gave : length d.calls.gave ≡ length c.calls.gave

same_long : (c : Core) → AsLong c c
same_long c = record { words = refl; homes = refl; seats = refl; outcomes = refl; plan = refl; id_words = refl; id_homes = refl; waiting = refl; gave = refl }

then_long : (c d e : Core) → AsLong c d → AsLong d e → AsLong c e
then_long c d e h k = record {
  words = k.words ∙ h.words;
  homes = k.homes ∙ h.homes;
  seats = k.seats ∙ h.seats;
  outcomes = k.outcomes ∙ h.outcomes;
  plan = k.plan ∙ h.plan;
  id_words = k.id_words ∙ h.id_words;
  id_homes = k.id_homes ∙ h.id_homes;
  waiting = k.waiting ∙ h.waiting;
  gave = k.gave ∙ h.gave;
}

-- ## A tick

seat_long : (i : ℕ) (program : Program) (hand : List Home) (ws : List ℕ) (hs : List (Option Home)) (c : Core) → length ws ≡ length c.words → length hs ≡ length c.homes → AsLong c (with_seat i program hand ws hs c)
seat_long i program hand ws hs c words homes = record {
  words = words;
  homes = homes;
  seats = length-set c.seats i (record { program = next_step (resolved (waiting_at c.calls.waiting i) program); hand = hand });
  outcomes = length_said (resolved (waiting_at c.calls.waiting i) program) c.outcomes;
  plan = refl;
  id_words = refl;
  id_homes = refl;
  waiting = length-set c.calls.waiting i (still_waiting (waiting_at c.calls.waiting i) program);
  gave = refl;
}

words_long : (ws : List ℕ) (o : Option ℕ) (w : ℕ) → length (words_after ws o w) ≡ length ws
words_long ws none w = refl
words_long ws (some x) w = length-set ws x w

-- what a step aside changes
record AsideLong (a b : Calls) : Type 0 where
  plan : b.plan ≡ a.plan
  words : length b.words ≡ length a.words
  homes : length b.homes ≡ length a.homes
  waiting : b.waiting ≡ a.waiting
  gave : length b.gave ≡ length a.gave

same_aside : (a : Calls) → AsideLong a a
same_aside a = record { plan = refl; words = refl; homes = refl; waiting = refl; gave = refl }

word_aside : (x w : ℕ) (a : Calls) → AsideLong a (with_word x w a)
word_aside x w a = record { plan = refl; words = length-set a.words x w; homes = refl; waiting = refl; gave = refl }

home_aside : (i : ℕ) (home : Option (std.Option Asked)) (a : Calls) → AsideLong a (record a { homes = std.slice_set a.homes i home })
home_aside i home a = record { plan = refl; words = refl; homes = length-set a.homes i home; waiting = refl; gave = refl }

given_aside : (k : ℕ) (t : Taking) (a : Calls) → AsideLong a (more_given k t a)
given_aside k (Bytes bytes) a = record { plan = refl; words = refl; homes = refl; waiting = refl; gave = length-set a.gave k (std.slice_index_or a.gave k [] ++ bytes) }
given_aside k other a = same_aside a

aside_long : (step : Step) (found : Found step) (a : Calls) → AsideLong a (calls_after step found a)
aside_long (ClaimId i) found a = word_aside _ _ a
aside_long (PutCall i asked) found a = home_aside i _ a
aside_long (MakeId i range) found a = word_aside _ _ a
aside_long (StoreCall o id) found a = word_aside _ _ a
aside_long (LoadCall o) found a = same_aside a
aside_long (StoreAt o w) found a = word_aside _ _ a
aside_long (LoadAt o) found a = same_aside a
aside_long (LoadIdWord i) found a = same_aside a
aside_long (LockId i from) found a = word_aside _ _ a
aside_long (PostId i from e) found a = word_aside _ _ a
aside_long (UnlockId i from advance) found a = word_aside _ _ a
aside_long (EndId i) found a = word_aside _ _ a
aside_long (FreeId i) found a = word_aside _ _ a
aside_long (TakeCall i) found a = home_aside i _ a
aside_long (TakeBytes k room) found a = given_aside k found a

beside_long : (c : Core) (a : Calls) → AsideLong c.calls a → AsLong c (record c { calls = a })
beside_long c a h = record { words = refl; homes = refl; seats = refl; outcomes = refl; plan = h.plan; id_words = h.words; id_homes = h.homes; waiting = ap length h.waiting; gave = h.gave }

module _ (p : Plan) (i : ℕ) (seat : SeatState) (c : Core) where
  message_long : (q : ℕ) (o : Option HeadedBytes) (next : HeadedBytes → Program) → AsLong c (with_message p i seat c q o next)
  message_long q none next = same_long c
  message_long q (some letter) next = seat_long i (next letter) seat.hand c.words (std.slice_set c.homes q none) c refl (length-set c.homes q none)

  link_long : (k : ℕ) (o : Option (List ℕ × ℕ)) (next : ℕ → Program) → AsLong c (with_link p i seat c k o next)
  link_long k none next = same_long c
  link_long k (some home) next = seat_long i (next home.1) (lies_at c.homes (link_place p k) ++ seat.hand) c.words (std.slice_set c.homes (link_place p k) none) c refl (length-set c.homes (link_place p k) none)

  put_long : (bytes : List ℕ) (answer : Answer) (next : Put → Program) → AsLong c (with_put p i seat c bytes answer next)
  put_long bytes (OfPut answer) next = seat_long i (next answer) (onto_first (fed bytes answer) seat.hand) c.words c.homes c refl refl
  put_long bytes other next = same_long c

  ready_long : (answer : Answer) (next : Ready → Program) → AsLong c (with_ready p i seat c answer next)
  ready_long (OfReady answer) next = seat_long i (next answer) seat.hand c.words c.homes c refl refl
  ready_long other next = same_long c

  found_long : (step : Step) (o : Option (Found step)) (next : Found step → Program) → AsLong c (with_found p i seat c step o next)
  found_long step none next = same_long c
  found_long step (some found) next = let d : Core = record c { calls = calls_after step found c.calls } in
      then_long c d (with_seat i (next found) seat.hand c.words c.homes d) (beside_long c (calls_after step found c.calls) (aside_long step found c.calls)) (seat_long i (next found) seat.hand c.words c.homes d refl refl)

  step_long : (answer : Answer) (program : Program) → AsLong c (step_with p i seat c answer program)
  step_long answer (Do call next) = let found : ℕ = found_at c.words (word_of p call) in
      seat_long i (next found) (hand_after p call c.homes seat.hand) (words_after c.words (word_of p call) (word_after call found)) (homes_after p call seat.hand c.homes) c (words_long c.words (word_of p call) (word_after call found)) (homes_sized p call seat.hand c.homes)
  step_long answer (TakeMessage q next) = message_long q (message (λ home. home) c.homes q) (λ letter. next letter.0 letter.1)
  step_long answer (TakeHome k next) = link_long k (link_home (λ home. home) p c.homes k) next
  step_long answer (PutHome k n after) = let home : Option Home = first_of (onto_first (with_places n) seat.hand) in seat_long i after (others_of seat.hand) c.words (std.slice_set c.homes (link_place p k) home) c refl (length-set c.homes (link_place p k) home)
  step_long answer (PutBytes k asked bytes next) = put_long bytes answer next
  step_long answer (AskReady k next) = ready_long answer next
  step_long answer (Aside step next) = found_long step (found_in step c.calls (taken answer)) next
  step_long answer other = same_long c

  tick_with_long : (answer : Answer) (program : Program) → AsLong c (tick_with p i seat c answer program)
  tick_with_long answer (Write w after) = step_long answer (block w after)
  tick_with_long answer (Round head next) = step_long answer (round head next)
  tick_with_long answer program = step_long answer program

pub tick_long : (p : Plan) (m : Moment) (c : Core) → AsLong c (ticked p c m)
tick_long p m c = by_seat (get_elem? c.seats m.seat)
  where
    by_seat : (o : Option SeatState) → AsLong c (elim o as (λ o. Core) [ none ↦ c | some seat ↦ tick_with p m.seat seat c m.answer seat.program ])
    by_seat none = same_long c
    by_seat (some seat) = tick_with_long p m.seat seat c m.answer seat.program

long_sized : (p : Plan) (q : IdPlan) (c d : Core) → IsSized p q c → AsLong c d → IsSized p q d
long_sized p q c d s h = record {
  words = h.words ∙ s.words;
  homes = h.homes ∙ s.homes;
  seats = h.seats ∙ s.seats;
  outcomes = h.outcomes ∙ s.outcomes;
  plan = h.plan ∙ s.plan;
  id_words = h.id_words ∙ s.id_words;
  id_homes = h.id_homes ∙ s.id_homes;
  waiting = h.waiting ∙ s.waiting;
  gave = h.gave ∙ s.gave;
}

-- so the sizes stay over more ticks
pub tick_sized : (p : Plan) (q : IdPlan) (c : Core) (m : Moment) → IsSized p q c → IsSized p q (ticked p c m)
tick_sized p q c m s = long_sized p q c (ticked p c m) s (tick_long p m c)

pub run_sized : (p : Plan) (q : IdPlan) (c : Core) (moments : List Moment) → IsSized p q c → IsSized p q (run p c moments)
run_sized p q c [] s = s
run_sized p q c (m ∷ ms) s = run_sized p q (ticked p c m) ms (tick_sized p q c m s)

-- ## The run

said_all : (qs : List Program) (os : List (std.Option Outcome)) → length (fold (λ (o : List (std.Option Outcome)) (q : Program). said (resolved [] q) o) os qs) ≡ length os
said_all [] os = refl
said_all (q ∷ qs) os = said_all qs (said (resolved [] q) os) ∙ length_said (resolved [] q) os

-- the core in which the run of a script that was read begins
pub opened_sized : (bytes : List ℕ) (script : List Item) → script_of bytes ≡ Ok script → IsSized (plan_of script) (id_plan_of script) (opened script)
opened_sized bytes script reads =
    let p : Plan = plan_of script in
    let q : IdPlan = id_plan_of script in
    let made_ = made bytes script reads in
    let all : List Program = all_programs (programs (sizes_of p q) (all_tasks script)) (readers_from (calls script) 0 (opens script)) in
    let at_first : Program → SeatState = λ program. record { program = next_step (resolved [] program); hand = [] } in
    let same = made_.seats in record {
      words = (unused p).sized;
      homes = length_homes p;
      seats = omega (arith, same, length-map all at_first, length_all p q (all_tasks script) (calls script) (opens script) made_.few_clients);
      outcomes = said_all all (replicate p.operations None) ∙ length-replicate p.operations None;
      plan = refl;
      id_words = (ids.unused q).sized;
      id_homes = length-replicate q.slots (some None);
      waiting = length-replicate q.seats [];
      gave = length-replicate p.links [];
    }

pub ending_sized : (script : List Item) (c : Core) → IsSized (plan_of script) (id_plan_of script) c → IsSized (plan_of script) (id_plan_of script) (ending script c)
ending_sized script c s = long_sized (plan_of script) (id_plan_of script) c (ending script c) s (seat_long 0 (ending_of (opens script)) [] c.words c.homes c refl refl)

pub is_ending_sized : (p : Plan) (q : IdPlan) (c : Core) → IsSized p q c → IsSized p q (is_ending c)
is_ending_sized p q c s = record { words = s.words; homes = s.homes; seats = s.seats; outcomes = s.outcomes; plan = s.plan; id_words = s.id_words; id_homes = s.id_homes; waiting = s.waiting; gave = s.gave }

-- each core with which a part of the run begins, and the one in which it ends
pub record AreSized (script : List Item) (turns : List Turn) (core : Core) (r : IsRunWithCalls script turns core) : Type 0 where
  pub opened : IsSized (plan_of script) (id_plan_of script) (opened script)
  pub set_up : IsSized (plan_of script) (id_plan_of script) (set_up script r.setup)
  pub played : IsSized (plan_of script) (id_plan_of script) (played script r.setup (r.scheduled ++ r.later))
  pub ended : IsSized (plan_of script) (id_plan_of script) r.ended
  pub over : IsSized (plan_of script) (id_plan_of script) core

pub run_sizes : (bytes : List ℕ) (script : List Item) → script_of bytes ≡ Ok script → (turns : List Turn) (core : Core) (r : IsRunWithCalls script turns core) → AreSized script turns core r
run_sizes bytes script reads turns core r =
    let p : Plan = plan_of script in
    let q : IdPlan = id_plan_of script in
    let c : Core = played script r.setup (r.scheduled ++ r.later) in
    let first : IsSized p q (opened script) = opened_sized bytes script reads in
    let begun : IsSized p q (set_up script r.setup) = run_sized p q (opened script) (replicate r.setup (quiet 0)) first in
    let before : IsSized p q c = run_sized p q (set_up script r.setup) (r.scheduled ++ r.later) begun in
    let closed : IsSized p q r.ended = subst (IsSized p q) (sym r.is_ended) (is_ending_sized p q (run p (ending script c) (replicate r.last (quiet 0))) (run_sized p q (ending script c) (replicate r.last (quiet 0)) (ending_sized script c before))) in
    record { opened = first; set_up = begun; played = before; ended = closed; over = subst (IsSized p q) (sym r.is_end) (run_sized p q r.ended r.final closed) }

-- a run of a script that was read ends with a place for the outcome of each operation
pub ended_length : (bytes : List ℕ) (script : List Item) → script_of bytes ≡ Ok script → (turns : List Turn) (core : Core) → IsRunWithCalls script turns core → length core.outcomes ≡ length (operations script)
ended_length bytes script reads turns core r = (run_sizes bytes script reads turns core r).over.outcomes
