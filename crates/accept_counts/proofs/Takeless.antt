-- Clients and the ending take no bytes of any link, and wait for the word of no `open`; and where it is said, for the end of no range.
use Rattle.std.proofs.Common.{◌≡◌, ℕ, ◌++◌, true, List, [], ◌∷◌, ⊎_elim, refl, sym, ap, ◌∙◌, subst}
use Rattle.std.proofs.lemmas.Bool.{true≢false}
use mathlib.Core.Option.{some}
use lib.ListN.{get_elem?}
use Rattle.atomic_table.proofs.Lists.{at_set}
use Rattle.sock_words.specs.declared.plain.Plan.{Plan}
use Rattle.sock_model.specs.declared.view.View.{View}
use Rattle.sock_message.specs.Asked.{Asked}
use Rattle.run_theorems.specs.Below.script_facts.proofs.FilteredLists as lists
use Rattle.seat_programs.specs.declared.task.Op.{Op}
use Rattle.seat_programs.specs.declared.task.Op.TheVariants as ops
use Rattle.seat_programs.specs.declared.task.Task.{Task}
use Rattle.seat_programs.specs.declared.task.Sizes.{Sizes}
use Rattle.seat_programs.specs.TableSteps.{TableStep}
use Rattle.seat_programs.specs.Asides.{Step, Found, TakeBytes}
use Rattle.seat_programs.specs.LoopHeads.{Head, Exit, Retry, Posts, Unlocks, Decides, Locks, Joins, Opens, Reads, Discards}
use Rattle.seat_programs.specs.Programs.{Program, Say, Sent, TakeMessage, TakeHome, PutHome, PutBytes, AskReady, Write, Aside, Round, Keep, Retries}
use Rattle.seat_programs.specs.CallAndRetryPrograms.{attempt}
use Rattle.seat_programs.specs.LoopRounds.{round, first_step}
use Rattle.seat_programs.specs.ClientProgram.{HeldLife, operation, client_from, ending_of}
use Rattle.seat_programs.specs.Cores.{Core, SeatState, resolved, next_step}
use Rattle.seat_programs.specs.Ticks.{Moment, IsAnswered, AreAnswered, ticked, run}
use Rattle.outcome_causes.specs.program_steps.specs.AtSteps.{Asks, AtSteps, asks_words}
use Rattle.outcome_causes.specs.program_steps.specs.SoundSeats.{Sound, IsFitting, AreFitting, views_after}
use Rattle.outcome_causes.specs.sock_runs.proofs.LinkTicks.{RetriesGo}
use Rattle.outcome_causes.specs.program_steps.proofs.TickCases.{ComesNext, tick_keeps_marks}
use Rattle.outcome_causes.specs.sock_runs.proofs.TicksKeepSeatsSound.{sound_ticks}
use Rattle.outcome_causes.specs.program_walks.proofs.Through.{PassesPlain, PassesFails, PassesSends, is_plain_aside, by_errors, locked, at_steps_plain, at_steps_sends, through_set_failed, through_fail}
use Rattle.outcome_causes.specs.program_walks.proofs.ThroughLoops.{through_errors, through_locks, through_joins}
use Rattle.outcome_causes.specs.program_walks.proofs.ThroughSends.{through_block, through_send, through_ended}
use Rattle.outcome_causes.specs.program_walks.proofs.ThroughCalls.{through_attempt, through_call, through_retry, through_join}
use Rattle.outcome_causes.specs.program_walks.proofs.ThroughClients.{through_open, through_back, through_operation}
use Rattle.run_theorems.specs.Heard.{taken_link}

module _ (J : Type 0) where
  -- the program takes no bytes, and waits for no word of an `open`; for the end of a range it waits only where J is so
  abbrev any_word : Unit {0} → TableStep → (ℕ → Program) → (Unit {0} → ℕ → Type 0) → Type 0
  any_word s call next behind = (found : ℕ) → behind s found

  abbrev TakesBeside : Unit {0} → (step : Step) → (Found step → Program) → (Unit {0} → Found step → Type 0) → Type 0
  TakesBeside s (TakeBytes k room) next behind = ⊥
  TakesBeside s step next behind = (found : Found step) → behind s found

  abbrev TakesLoop : (head : Head) → (Exit head → Type 0) → Type 0
  TakesLoop (Joins id) behind = J × ((now : ℕ) → behind now)
  TakesLoop (Opens o) behind = ⊥
  TakesLoop (Reads r) behind = ⊥
  TakesLoop (Discards k total) behind = ⊥
  TakesLoop head behind = (exit : Exit head) → behind exit

  abbrev asks : Asks (Unit {0})
  asks = record (asks_words {S = Unit {0}} (λ s. s) (Unit {0}) any_word TakesLoop) { beside = TakesBeside }

  abbrev pub NoTakes : Program → Type 0
  NoTakes program = AtSteps asks tt program

  -- ## Parts of programs

  takes_aside : (step : Step) (next : Found step → Program) → is_plain_aside step ≡ true → ((found : Found step) → NoTakes (next found)) → NoTakes (Aside step next)
  takes_aside (TakeBytes k room) next is r = absurd (true≢false (sym is))
  takes_aside step next is r = r

  takes_plain : PassesPlain NoTakes
  takes_plain = at_steps_plain asks tt (λ call next is r. r) (λ behind r. r) takes_aside (by_errors NoTakes (λ id e w next r. r) (λ i w advance next r. r) (λ id asked w e next r. r)) (λ id w next r. r)

  takes_fails : (code : ℕ) → PassesFails NoTakes code
  takes_fails = through_set_failed NoTakes takes_plain.words (λ call next is r. r)

  takes_sends : PassesSends NoTakes
  takes_sends = at_steps_sends asks tt takes_plain (λ call next is r. r) (λ behind r. r) (λ behind r. r) (λ behind r. r) (takes_fails 1009)

  takes_attempt : (requests : ℕ) (asked : Asked) (id n socket : ℕ) (next : Program) → NoTakes next → NoTakes (attempt requests asked id n socket next)
  takes_attempt = through_attempt NoTakes takes_sends (λ o w next r. r)

  -- ## Clients and the ending

  takes_operation : (sizes : Sizes) (held : List HeldLife) (o : ℕ) (next : List HeldLife → Program) (op : Op) → ((t : ℕ) → op ≡ ops.Join t → J) → ((h : List HeldLife) → NoTakes (next h)) → NoTakes (operation sizes held o next op)
  takes_operation sizes held o next op may after = through_operation NoTakes takes_plain sizes held o next op after (record {
    opens = λ name k e. through_open NoTakes takes_plain.words (λ call next is r. r) sizes.slots 0 o name k (next held) (after held);
    sends = λ name bytes e. through_send NoTakes takes_sends sizes.requests o name bytes (next held) (after held);
    calls = λ asked e. through_call NoTakes takes_plain sizes.requests asked (next held) (after held) (λ id socket. takes_attempt sizes.requests asked id 0 socket (next held) (after held)) sizes.ids;
    joins = λ t e. through_join NoTakes takes_plain (λ id next r. (may t e, r)) o t (next held) (after held);
    fails = λ name code e. through_fail NoTakes takes_plain.words o name code (next held) (takes_fails code) (after held);
  })

  pub client_takes : (sizes : Sizes) (ts : List Task) → ((t : Task) → lists.Has ts t → (o : ℕ) → t.op ≡ ops.Join o → J) → (held : List HeldLife) → NoTakes (client_from sizes held ts)
  client_takes sizes [] may held = through_back NoTakes takes_plain.words tt held
  client_takes sizes (t ∷ ts) may held = takes_operation sizes held t.number (λ h. client_from sizes h ts) t.op (may t (lists.has_first t ts)) (λ h. client_takes sizes ts (λ x has. may x (lists.has_later t ts x has)) h)

  pub ending_takes : (os : List ℕ) → NoTakes (ending_of os)
  ending_takes [] = tt
  ending_takes (o ∷ os) = λ word. through_ended NoTakes takes_plain.words (takes_fails 1014) word (ending_of os) (ending_takes os)

  -- ## Along ticks

  takes_round : (head : Head) (next : Exit head → Program) → NoTakes (Round head next) → NoTakes (round head next)
  takes_round (Posts id e w) next x = through_errors NoTakes takes_plain.errors (Posts id e w) next refl x
  takes_round (Unlocks i w advance) next x = through_errors NoTakes takes_plain.errors (Unlocks i w advance) next refl x
  takes_round (Decides id asked w e) next x = through_errors NoTakes takes_plain.errors (Decides id asked w e) next refl x
  takes_round (Locks i sought w) next x = through_locks NoTakes (locked takes_plain.errors) (λ i sought w next r. r) i sought w next x
  takes_round (Joins id) next x = through_joins NoTakes (locked takes_plain.errors) (λ id next r. (x.0, r)) id next x.1
  takes_round _ next x = absurd x

  takes_first : (program : Program) → NoTakes program → NoTakes (first_step program)
  takes_first (Write w after) x = through_block NoTakes NoTakes takes_plain takes_sends.links w after x
  takes_first (Round head next) x = takes_round head next x
  takes_first _ x = x

  pub takes_next : (ws : List Retry) (program : Program) → NoTakes program → NoTakes (next_step (resolved ws program))
  takes_next ws (Say o outcome next) x = takes_next ws next x
  takes_next ws (Sent o next) x = takes_next ws next x
  takes_next ws (Keep r next) x = takes_next (ws ++ r ∷ []) next x
  takes_next [] (Retries requests after) x = takes_next [] after x
  takes_next (r ∷ ws) (Retries requests after) x = through_retry NoTakes takes_plain requests r.id r.attempt (Retries requests after) x (λ asked socket. takes_attempt requests asked r.id r.attempt socket (Retries requests after) x) (λ i sought w next y. y)
  takes_next ws _ x = x

  takes_found : (step : Step) (next : Found step → Program) → NoTakes (Aside step next) → (found : Found step) → NoTakes (next found)
  takes_found (TakeBytes k room) next x = absurd x
  takes_found step next x = x

  takes_comes : (p : Plan) (first program : Program) → ComesNext p first program → NoTakes first → NoTakes program
  takes_comes p (TakeMessage q next) program comes x = subst NoTakes (sym comes.2) (x comes.0 comes.1)
  takes_comes p (TakeHome k next) program comes x = subst NoTakes (sym comes.1) (x comes.0)
  takes_comes p (PutHome k n after) program comes x = subst NoTakes (sym comes) x
  takes_comes p (PutBytes k asked bytes next) program comes x = subst NoTakes (sym comes.1) (x comes.0)
  takes_comes p (AskReady k next) program comes x = subst NoTakes (sym comes.1) (x comes.0)
  takes_comes p (Aside step next) program comes x = subst NoTakes (sym comes.1) (takes_found step next x comes.0)
  takes_comes p _ program comes x = absurd comes

  -- seat j takes none
  abbrev pub TakesNone : ℕ → Core → Type 0
  TakesNone j c = (seat : SeatState) → get_elem? c.seats j ≡ some seat → NoTakes seat.program

  -- at such a seat a tick takes nothing of any link
  pub none_taken : (program : Program) → NoTakes program → taken_link program ≡ []
  none_taken (Aside (TakeBytes k room) next) x = absurd x
  none_taken (Round (Reads r) next) x = absurd x
  none_taken (Round (Discards k total) next) x = absurd x
  none_taken _ x = refl

  module _ (p : Plan) (j : ℕ) where
    takes_ticks : (c : Core) (vs : List View) (m : Moment) → Sound p c vs → IsAnswered c m → IsFitting p c m → TakesNone j c → TakesNone j (ticked p c m)
    takes_ticks c vs m sound answered fitting before = tick_keeps_marks p c vs m sound answered fitting (λ d ws. TakesNone j d) before
        (λ seat v call next at_seat at_view is goes s at. ⊎_elim
        (λ a. subst (λ (x : SeatState). NoTakes x.program) a.1 (takes_next _ (next _) (subst NoTakes is (takes_first seat.program (before seat (ap (get_elem? c.seats) a.0 ∙ at_seat))) _)))
        (λ a. before s a.1) (at_set c.seats m.seat j _ s at))
        (λ seat v program rights hand hs a at_seat at_view comes s at. ⊎_elim
        (λ b. subst (λ (x : SeatState). NoTakes x.program) b.1 (takes_next _ program (takes_comes p (first_step seat.program) program comes (takes_first seat.program (before seat (ap (get_elem? c.seats) b.0 ∙ at_seat))))))
        (λ b. before s b.1) (at_set c.seats m.seat j _ s at))

    pub run_takes : RetriesGo p → (c : Core) (vs : List View) (ms : List Moment) → Sound p c vs → AreAnswered p c ms → AreFitting p c ms → TakesNone j c → TakesNone j (run p c ms)
    run_takes go c vs [] sound answered fitting t = t
    run_takes go c vs (m ∷ ms) sound answered fitting t = run_takes go (ticked p c m) (views_after p c vs m) ms (sound_ticks p go c vs m sound answered.0 fitting.0) answered.1 fitting.1 (takes_ticks c vs m sound answered.0 fitting.0 t)
