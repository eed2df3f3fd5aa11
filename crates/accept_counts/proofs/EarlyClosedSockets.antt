-- In a run a socket that was closed before the ending is that of a link whose reading ended early.
use Rattle.std.proofs.Common.{Bool, ◌≡◌, ℕ, zero, suc, ◌+◌, ◌-◌, ◌<◌, ◌≤◌, ◌==◌, ◌⊎◌, false, List, [], ◌∷◌, ◌++◌, length, length-append, length-set, map, filter, replicate, get_or, set, inl, inr, ⊎_elim, refl, sym, ap, ◌∙◌, subst, arith}
use Rattle.std.proofs.lemmas.Bool.{true≢false}
use Rattle.std.proofs.lemmas.List.{length-map}
use Rattle.std.proofs.lemmas.List.Concat.{flat_map-append}
use Rattle.std.specs.Prelude.{Contains, slice_get}
use Rattle.std.specs.List.{AllByRecursion}
use mathlib.Core.Option.{Option, none, some, some-injective, some-ne-none}
use lib.ListN.{get_elem?}
use Rattle.atomic_table.proofs.Lists.{at_set, set_else}
use Rattle.sock_words.specs.declared.plain.Plan.{Plan}
use Rattle.sock_model.specs.declared.view.View.{View}
use Rattle.sock_model.specs.SocketTableLayout.{open_index}
use Rattle.seat_programs.specs.brpc_model.specs.LinkFailureCauses.{HasFault, reading_limit}
use Rattle.seat_programs.specs.brpc_model.specs.Items.{Item}
use Rattle.seat_programs.specs.brpc_model.specs.Operations.{Turn, operations, link_names}
use Rattle.run_theorems.specs.Below.script_facts.proofs.FilteredLists.{Has}
use Rattle.seat_programs.specs.declared.task.Op.{Op}
use Rattle.seat_programs.specs.declared.task.Op.TheVariants as ops
use Rattle.seat_programs.specs.declared.task.Task.{Task}
use Rattle.seat_programs.specs.declared.task.Sizes.{Sizes}
use Rattle.seat_programs.specs.Asides.{Taking, AtEnd, Broken}
use Rattle.seat_programs.specs.FoundAndChangedAside.{at_last}
use Rattle.seat_programs.specs.TableSteps.{TableStep, OnSlot, SetOdd}
use Rattle.seat_programs.specs.SlotFreedByDrop.{call_in}
use Rattle.seat_programs.specs.Programs.{Program, Do, Say, Sent, Rest, Write, Retries, open_from, make_socket}
use Rattle.seat_programs.specs.ReaderProgram.{LIMIT, reader}
use Rattle.seat_programs.specs.LoopHeads.{Retry}
use Rattle.seat_programs.specs.ClientProgram.{operation, client_from, ending_of}
use Rattle.seat_programs.specs.Cores.{Core, SeatState, found_at, resolved, next_step, still_waiting, waiting_at}
use Rattle.seat_programs.specs.StepTables.{word_of}
use Rattle.seat_programs.specs.Tasks.{opens, calls, plan_of, id_plan_of}
use Rattle.seat_programs.specs.Ticks.{Answer, Unasked, Moment, quiet, tick_with, ticked}
use Rattle.seat_programs.specs.ScriptSetupToEnding.{sizes_of, programs, readers_from, all_programs, all_tasks, opened, set_up, played, IsRunWithCalls}
use Rattle.seat_programs.specs.Explained.{IsOpen}
use Rattle.outcome_causes.specs.program_steps.specs.SoundSeats.{views_along}
use Rattle.outcome_causes.specs.sock_runs.proofs.SoundAlongRuns.{run_ahead, beginning_ahead}
use Rattle.outcome_causes.specs.program_walks.proofs.LinksOpening.{OpensLink}
use Rattle.outcome_causes.specs.sock_runs.proofs.LinkTicks.{RetriesGo}
use Rattle.outcome_causes.specs.program_walks.proofs.OpenedLivesRecorded.{mapped}
use Rattle.outcome_causes.specs.program_walks.proofs.OpensStay.{readers_begin}
use Rattle.outcome_causes.specs.program_walks.proofs.WholeScriptSound.{AreFittingIn, Begins, IsListed, closing_of, views_played, views_closed, set_up_answered, end_answered, set_up_sound, closing_sound, recorded_opened, recorded_set_up, recorded_closing}
use Rattle.run_theorems.specs.Below.sock_steps.proofs.SumsAsMarksChange.{either_way}
use Rattle.call_causes.specs.Below.outcome_stories.specs.Facts.{shown_in, closed_before_ending}
use Rattle.call_causes.specs.Below.outcome_stories.specs.LinkLosses.{lost_by, closed_at}
use Rattle.call_causes.specs.Below.outcome_stories.specs.OperationStories.{In}
use Rattle.call_causes.specs.Below.outcome_stories.proofs.Members.{in_contains}
use Rattle.outcome_causes.proofs.PlainOutcomeCauses.{in_left, in_right, in_both}
use Rattle.call_causes.specs.Below.programs_allowed.proofs.WordsAtBeginning as clients_begin
use Rattle.call_causes.specs.Below.programs_allowed.specs.SeatOpenings.{all_seats}
use Rattle.call_causes.specs.Below.programs_allowed.proofs.RetryAllowed.{retries_go}
use Rattle.call_causes.specs.Below.joint_runs.proofs.RunsOfBothTables.{AreMade, first_views, begins, are_fitting_in, joint_runs}
use Rattle.call_causes.specs.Below.call_owing.proofs.EndsStill.{run_ending}
use Rattle.call_causes.specs.Below.owed_calls.proofs.OwedCallsAreEnded.{known_of, opens_apart}
use Rattle.call_causes.specs.Below.owed_calls.proofs.NothingOwedAtEnd.{IsKnown, tasks_own, opened_seats}
use Rattle.call_causes.specs.Below.owned_ids.proofs.WordsGiven.{Named, names_others, beginning_named, run_named}
use Rattle.run_theorems.specs.Heard.{as_taken, bytes_found, taken_link, taken_at, taken_in, heard_takes, given_by}
use Rattle.run_theorems.proofs.HeardRuns.{taken_append}
use Rattle.call_causes.specs.call_stories.proofs.StreamFramesStay.{faults_more}
use Rattle.accept_counts.proofs.Closers.{Ends}
use Rattle.accept_counts.proofs.ReaderRuns.{Keeps, founds, keeps_same, keeps_along, closes_along}
use Rattle.accept_counts.proofs.Takeless.{NoTakes, TakesNone, client_takes, ending_takes, takes_next}
use Rattle.call_causes.specs.Below.programs_allowed.proofs.FreshSeatsAtStart.{opening_fresh, opening_rights}
use Rattle.corr_core.proofs.NoteSums.{at_length}

-- ## How a reading ends early

-- by these takes: the link gave its end, or a frame with a fault, or as much as is read of it, or it failed
abbrev pub EndedBy : List Taking → Type 0
EndedBy h = In AtEnd h ⊎ (HasFault (given_by h) ⊎ ((LIMIT ≤ length (given_by h)) ⊎ In Broken h))

pub ended_more : (h later : List Taking) → EndedBy h → EndedBy (h ++ later)
ended_more h later (inl m) = inl (in_left h later AtEnd m)
ended_more h later (inr (inl f)) = inr (inl (subst HasFault (sym (flat_map-append bytes_found h later)) (faults_more (given_by h) (given_by later) f)))
ended_more h later (inr (inr (inl l))) = inr (inr (inl (let e : length (given_by (h ++ later)) ≡ length (given_by h) + length (given_by later) = ap length (flat_map-append bytes_found h later) ∙ length-append (given_by h) (given_by later) in omega (arith, e, l))))
ended_more h later (inr (inr (inr m))) = inr (inr (inr (in_left h later Broken m)))

abbrev pub Never : Type 0
Never = ⊥

pub ends_early_by : (n id : ℕ) → Ends n id EndedBy Never
ends_early_by n id = record {
  most = λ h l. inr (inr (inl l));
  fault = λ h f. inr (inl f);
  at_end = λ h. inl (in_right h (AtEnd ∷ []) AtEnd (inl refl));
  broken = λ h. inr (inr (inr (in_right h (Broken ∷ []) Broken (inl refl))));
  no_more = λ never h. absurd never;
}

-- or however it ends
abbrev pub Any : List Taking → Type 0
Any h = Unit {0}

pub ends_anyhow : (n id : ℕ) → Ends n id Any (Unit {0})
ends_anyhow n id = record { most = λ h l. tt; fault = λ h f. tt; at_end = λ h. tt; broken = λ h. tt; no_more = λ e h. tt }

-- ## How a run begins

-- before the readers stand the clients, and seats with nothing to do
pub before_readers : (xs : List Program) (n : ℕ) (rs : List Program) (j : ℕ) (x : Program) → j < length xs + n → get_elem? (xs ++ (replicate n Rest ++ rs)) j ≡ some x → (get_elem? xs j ≡ some x) ⊎ (x ≡ Rest)
before_readers [] zero rs j x low e = absurd (let z : ⊥ = omega (arith, low) in z)
before_readers [] (suc n) rs zero x low e = inr (sym (some-injective Rest x e))
before_readers [] (suc n) rs (suc j) x low e = ⊎_elim (λ a. absurd (some-ne-none x (sym a))) (λ b. inr b) (before_readers [] n rs j x (omega (arith, low)) e)
before_readers (y ∷ xs) n rs zero x low e = inl e
before_readers (y ∷ xs) n rs (suc j) x low e = before_readers xs n rs j x (omega (arith, low)) e

-- ## The setup sets no socket failed

abbrev NoOdd : Program → Type 0
NoOdd (Do (OnSlot (SetOdd i)) next) = ⊥
NoOdd (Do call next) = (found : ℕ) → NoOdd (next found)
NoOdd (Say o outcome next) = NoOdd next
NoOdd (Sent o next) = NoOdd next
NoOdd Rest = Unit {0}
NoOdd (Retries requests after) = NoOdd after
NoOdd other = ⊥

odd_open : (more i o name k : ℕ) (next : Program) → NoOdd next → NoOdd (open_from more i o name k next)
odd_open zero i o name k next after = λ _ _ _ _. after
odd_open (suc more) i o name k next after = λ found. either_way (found == 0) (make_socket o name k i next) (open_from more (i + 1) o name k next) NoOdd (λ _ _ _ _ _ _. after) (odd_open more (i + 1) o name k next after)

odd_setup : (sizes : Sizes) (ts : List Task) → AllByRecursion (λ (t : Task). IsOpen t.op) ts → NoOdd (client_from sizes [] ts)
odd_setup sizes [] all = tt
odd_setup sizes (t ∷ ts) all = by_op t.op all.0 (odd_setup sizes ts all.1)
  where
    by_op : (op : Op) → IsOpen op → NoOdd (client_from sizes [] ts) → NoOdd (operation sizes [] t.number (λ held'. client_from sizes held' ts) op)
    by_op (ops.Open name k) is after = odd_open sizes.slots 0 t.number name k (client_from sizes [] ts) after
    by_op other is after = absurd is

odd_next : (program : Program) → NoOdd program → NoOdd (next_step (resolved [] program)) × (still_waiting [] program ≡ [])
odd_next (Say o outcome next) x = odd_next next x
odd_next (Sent o next) x = odd_next next x
odd_next (Retries requests after) x = odd_next after x
odd_next Rest x = (x, refl)
odd_next (Do call next) x = (x, refl)
odd_next _ x = absurd x

odd_found : (call : TableStep) (next : ℕ → Program) → NoOdd (Do call next) → (found : ℕ) → NoOdd (next found)
odd_found (OnSlot (SetOdd i)) next x found = absurd x
odd_found call next x found = x found

-- seat 0 sets none failed, and keeps no retry
record Opens (c : Core) : Type 0 where
  seat : (s : SeatState) → get_elem? c.seats 0 ≡ some s → NoOdd s.program
  none_wait : waiting_at c.calls.waiting 0 ≡ []

waits_set : (ws : List (List Retry)) (w : List Retry) → w ≡ [] → waiting_at ws 0 ≡ [] → waiting_at (set ws 0 w) 0 ≡ []
waits_set [] w e z = z
waits_set (x ∷ ws) w e z = e

opens_ticks : (p : Plan) (c : Core) → Opens c → Opens (ticked p c (quiet 0))
opens_ticks p c o = by_seat (get_elem? c.seats 0) refl
  where
    by_seat : (x : Option SeatState) → get_elem? c.seats 0 ≡ x → Opens (elim x as (λ o. Core) [ none ↦ c | some seat ↦ tick_with p 0 seat c Unasked seat.program ])
    by_seat none e = o
    by_seat (some s) e = by_program s.program (o.seat s e)
      where
        by_program : (program : Program) → NoOdd program → Opens (tick_with p 0 s c Unasked program)
        by_program (Do call next) x = let n = odd_next (next (found_at c.words (word_of p call))) (odd_found call next x (found_at c.words (word_of p call))) in record {
          seat = λ y at. ⊎_elim (λ a. subst (λ (z : SeatState). NoOdd z.program) a.1 (subst (λ ws. NoOdd (next_step (resolved ws (next (found_at c.words (word_of p call)))))) (sym o.none_wait) n.0)) (λ a. absurd (a.0 refl)) (at_set c.seats 0 0 _ y at);
          none_wait = waits_set c.calls.waiting (still_waiting (waiting_at c.calls.waiting 0) (next (found_at c.words (word_of p call)))) (ap (λ ws. still_waiting ws (next (found_at c.words (word_of p call)))) o.none_wait ∙ n.1) o.none_wait;
        }
        by_program Rest x = o
        by_program (Say n outcome next) x = o
        by_program (Sent n next) x = o
        by_program (Retries requests after) x = o
        by_program _ x = absurd x

none_closed : (c : Core) → Opens c → (x : ℕ) → In x (closed_at c (quiet 0)) → ⊥
none_closed c o x there = by_seat (get_elem? c.seats 0) refl there
  where
    none_lost : (program : Program) → NoOdd program → In x (lost_by c.words (call_in program)) → ⊥
    none_lost (Do (OnSlot (SetOdd i)) next) y m = y
    none_lost (Do call next) y m = m
    none_lost (Write w after) y m = y
    none_lost _ y m = m

    by_seat : (s : Option SeatState) → get_elem? c.seats 0 ≡ s → In x (elim s as (λ o. List ℕ) [ none ↦ [] | some seat ↦ lost_by c.words (call_in seat.program) ]) → ⊥
    by_seat none e m = m
    by_seat (some s) e m = none_lost s.program (o.seat s e) m

none_closed_in : (p : Plan) (n : ℕ) (c : Core) → Opens c → (x : ℕ) → In x (shown_in closed_at p c (replicate n (quiet 0))) → ⊥
none_closed_in p zero c o x m = m
none_closed_in p (suc n) c o x m = ⊎_elim (λ a. none_closed c o x a) (λ a. none_closed_in p n (ticked p c (quiet 0)) (opens_ticks p c o) x a) (in_both (closed_at c (quiet 0)) (shown_in closed_at p (ticked p c (quiet 0)) (replicate n (quiet 0))) x m)

-- ## What was found is what was answered

-- a seat that is asked nothing takes nothing
none_taken : (ending : Bool) (k : ℕ) (s : Option SeatState) → map (at_last ending) (as_taken (elim s as (λ o. List Answer) [ none ↦ [] | some s ↦ map (λ (k : ℕ). Unasked) (filter (λ j. j == k) (taken_link s.program)) ])) ≡ []
none_taken ending k none = refl
none_taken ending k (some s) = ap (map (at_last ending)) (none_answered (filter (λ j. j == k) (taken_link s.program)))
  where
    none_answered : (ks : List ℕ) → as_taken (map (λ (k : ℕ). Unasked) ks) ≡ []
    none_answered [] = refl
    none_answered (x ∷ ks) = none_answered ks

pub quiet_founds : (p : Plan) (calls os : List ℕ) (in_os : (k o : ℕ) → get_elem? os k ≡ some o → o < p.operations) (Odd : List Taking → Type 0) (Lasts : Type 0) (ends : (n id : ℕ) → Ends n id Odd Lasts) (c : Core) (n k : ℕ) → founds p calls os in_os Odd Lasts ends c (replicate n (quiet 0)) k ≡ []
quiet_founds p calls os in_os Odd Lasts ends c zero k = refl
quiet_founds p calls os in_os Odd Lasts ends c (suc n) k = ap (λ l. l ++ founds p calls os in_os Odd Lasts ends (ticked p c (quiet 0)) (replicate n (quiet 0)) k) (none_taken c.calls.ending k (get_elem? c.seats 0)) ∙ quiet_founds p calls os in_os Odd Lasts ends (ticked p c (quiet 0)) n k

-- before the ending nothing is made of an answer
as_it_is : (ts : List Taking) → map (at_last false) ts ≡ ts
as_it_is [] = refl
as_it_is (t ∷ ts) = ap (λ l. t ∷ l) (as_it_is ts)

founds_heard : (p : Plan) (calls os : List ℕ) (in_os : (k o : ℕ) → get_elem? os k ≡ some o → o < p.operations) (Odd : List Taking → Type 0) (Lasts : Type 0) (ends : (n id : ℕ) → Ends n id Odd Lasts) (ms : List Moment) (c : Core) (k : ℕ) → c.calls.ending ≡ false
    → founds p calls os in_os Odd Lasts ends c ms k ≡ as_taken (taken_in p c ms k)
founds_heard p calls os in_os Odd Lasts ends [] c k e = refl
founds_heard p calls os in_os Odd Lasts ends (m ∷ ms) c k e = ap (λ b. map (at_last b) (as_taken (taken_at c m k)) ++ founds p calls os in_os Odd Lasts ends (ticked p c m) ms k) e
    ∙ (ap (λ l. l ++ founds p calls os in_os Odd Lasts ends (ticked p c m) ms k) (as_it_is (as_taken (taken_at c m k)))
    ∙ (ap (λ l. as_taken (taken_at c m k) ++ l) (founds_heard p calls os in_os Odd Lasts ends ms (ticked p c m) k (run_ending p c (m ∷ []) ∙ e))
    ∙ sym (taken_append (taken_at c m k) (taken_in p (ticked p c m) ms k))))

-- ## A run

-- a view has taken nothing yet
pub first_fresh : (script : List Item) (i : ℕ) (v : View) → get_elem? (first_views script) i ≡ some v → v.lists ≡ [] ∷ []
first_fresh script = opening_fresh (plan_of script) (all_seats (all_tasks script) (length (opens script)))

module _ (script : List Item) (made : AreMade script) (turns : List Turn) (core : Core) (is : IsRunWithCalls script turns core) where
  abbrev p : Plan
  p = plan_of script

  pub start : Begins script (first_views script)
  start = begins script made

  pub go : RetriesGo (plan_of script)
  go = retries_go (plan_of script) (let limits = made.limits in limits.requests)

  pub fitting : AreFittingIn script turns core is
  fitting = are_fitting_in script turns core is (joint_runs script turns core is made)

  pub known : IsKnown script
  known = known_of script made

  abbrev first : List Program
  first = programs (sizes_of (plan_of script) (id_plan_of script)) (all_tasks script)

  first_few : length (programs (sizes_of (plan_of script) (id_plan_of script)) (all_tasks script)) ≤ 32
  first_few = let l = length-map (all_tasks script) (client_from (sizes_of (plan_of script) (id_plan_of script)) []) in let f = known.few in omega (arith, l, f)

  no_word : (o : ℕ) → o < (plan_of script).operations → get_or (opened script).words (open_index (plan_of script) o) 0 ≡ 0
  no_word o low = (let u = clients_begin.unused (plan_of script) in u.opens) o low

  -- a reader begins at its program
  pub begins_at : (n o : ℕ) → get_elem? (opens script) n ≡ some o → (seat : SeatState) → get_elem? (opened script).seats (32 + n) ≡ some seat → seat.program ≡ reader (calls script) n o
  begins_at n o at seat there = ⊎_elim (λ e. e) (λ x. absurd (x.0 (no_word o (known.in_script n o at)))) (readers_begin (plan_of script) (id_plan_of script) first (calls script) (opens script) first_few n o at seat there)

  abbrev views_set : List View
  views_set = views_along (plan_of script) (opened script) (first_views script) (replicate is.setup (quiet 0))

  -- clients begin with no takes, and wait for the end of a call only where their tasks do
  pub opened_takes : (J : Type 0) (j : ℕ) → j < 32 → ((ts : List Task) → get_elem? (all_tasks script) j ≡ some ts → (t : Task) → Has ts t → (o : ℕ) → t.op ≡ ops.Join o → J) → TakesNone J j (opened script)
  opened_takes J j low may seat at = let x = mapped (λ (program : Program). record { program = next_step (resolved [] program); hand = [] }) (all_programs first (readers_from (calls script) 0 (opens script))) j seat at in
      subst (λ (s : SeatState). NoTakes J s.program) x.2 (takes_next J [] x.0 (⊎_elim
      (λ a. let y = mapped (client_from (sizes_of (plan_of script) (id_plan_of script)) []) (all_tasks script) j x.0 a in subst (NoTakes J) y.2 (client_takes J (sizes_of (plan_of script) (id_plan_of script)) y.0 (may y.0 y.1) []))
      (λ e. subst (NoTakes J) (sym e) tt)
      (before_readers first (32 - length first) (readers_from (calls script) 0 (opens script)) j x.0 (let f = first_few in omega (arith, f, low)) x.1)))

  -- ## Readers

  module _ (Odd : List Taking → Type 0) (Lasts : Type 0) (ends : (n id : ℕ) → Ends n id Odd Lasts) where
    abbrev pub Kept : Core → List View → (ℕ → List Taking) → Type 0
    Kept c ws h = Keeps (plan_of script) (calls script) (opens script) known.in_script Odd Lasts ends c ws h

    abbrev pub found_in_clients : ℕ → List Taking
    found_in_clients n = founds (plan_of script) (calls script) (opens script) known.in_script Odd Lasts ends (set_up script is.setup) (is.scheduled ++ is.later) n

    opened_keeps : Kept (opened script) (first_views script) (λ n. [])
    opened_keeps = record {
      readers = λ n o at seat v at_seat at_view. (
        opening_rights (plan_of script) (all_seats (all_tasks script) (length (opens script))) (32 + n) v at_view,
        inl (begins_at n o at seat at_seat, refl),
      );
      clients = λ j low. opened_takes (Unit {0}) j low (λ ts at t has o e. tt);
      many = opened_seats script known.few;
    }

    set_up_keeps : Kept (set_up script is.setup) views_set (λ n. [])
    set_up_keeps = keeps_same (plan_of script) (calls script) (opens script) known.in_script Odd Lasts ends (set_up script is.setup) views_set (λ n. [] ++ founds (plan_of script) (calls script) (opens script) known.in_script Odd Lasts ends (opened script) (replicate is.setup (quiet 0)) n) (λ n. [])
        (λ n. quiet_founds (plan_of script) (calls script) (opens script) known.in_script Odd Lasts ends (opened script) is.setup n)
        (keeps_along (plan_of script) (calls script) (opens script) known.in_script Odd Lasts ends (IsListed script) go (replicate is.setup (quiet 0)) (opened script) (first_views script) (λ n. []) start.sound
        (set_up_answered script made.are (first_views script) start go turns core is fitting) fitting.of_setup (recorded_opened script made.are (first_views script) start go turns core is fitting) (λ e. absurd (true≢false (sym e))) opened_keeps)

    not_ending : (set_up script is.setup).calls.ending ≡ false
    not_ending = run_ending (plan_of script) (opened script) (replicate is.setup (quiet 0))

    pub played_keeps : Kept (played script is.setup (is.scheduled ++ is.later)) (views_played script turns core is (first_views script)) found_in_clients
    played_keeps = keeps_along (plan_of script) (calls script) (opens script) known.in_script Odd Lasts ends (IsListed script) go (is.scheduled ++ is.later) (set_up script is.setup) views_set (λ n. []) (set_up_sound script made.are (first_views script) start go turns core is fitting)
        is.answered fitting.of_played (recorded_set_up script made.are (first_views script) start go turns core is fitting) (λ e. absurd (true≢false (sym e ∙ not_ending))) set_up_keeps

  -- clients take no bytes, and wait for the word of no `open`
  pub clients_take_none : (j : ℕ) → j < 32 → TakesNone (Unit {0}) j (played script is.setup (is.scheduled ++ is.later))
  clients_take_none = let k = played_keeps Any (Unit {0}) ends_anyhow in k.clients

  -- ## The ending

  module _ where
    pub closing_keeps : Kept Any (Unit {0}) ends_anyhow (closing_of script turns core is) (views_played script turns core is (first_views script)) (found_in_clients Any (Unit {0}) ends_anyhow)
    closing_keeps = let k = played_keeps Any (Unit {0}) ends_anyhow in record {
      readers = λ n o at seat v at_seat at_view. k.readers n o at seat v (sym (set_else (played script is.setup (is.scheduled ++ is.later)).seats 0 (32 + n) _ (λ e. let z : ⊥ = omega (arith, e) in z)) ∙ at_seat) at_view;
      clients = λ j low seat at. ⊎_elim (λ a. subst (λ (s : SeatState). NoTakes (Unit {0}) s.program) a.1 (takes_next (Unit {0}) _ (ending_of (opens script)) (ending_takes (Unit {0}) (opens script)))) (λ a. k.clients j low seat a.1) (at_set (played script is.setup (is.scheduled ++ is.later)).seats 0 j _ seat at);
      many = length-set (played script is.setup (is.scheduled ++ is.later)).seats 0 _ ∙ k.many;
    }

    pub closed_keeps : Kept Any (Unit {0}) ends_anyhow is.ended (views_closed script turns core is (first_views script)) (λ n. found_in_clients Any (Unit {0}) ends_anyhow n ++ founds (plan_of script) (calls script) (opens script) known.in_script Any (Unit {0}) ends_anyhow (closing_of script turns core is) (replicate is.last (quiet 0)) n)
    closed_keeps = let k = keeps_along (plan_of script) (calls script) (opens script) known.in_script Any (Unit {0}) ends_anyhow (IsListed script) go (replicate is.last (quiet 0)) (closing_of script turns core is) (views_played script turns core is (first_views script)) (found_in_clients Any (Unit {0}) ends_anyhow)
        (closing_sound script made.are (first_views script) start go turns core is fitting) (end_answered script made.are (first_views script) start go turns core is fitting) fitting.of_closing (recorded_closing script made.are (first_views script) start go turns core is fitting) (λ e. tt) closing_keeps in
        subst (λ d. Kept Any (Unit {0}) ends_anyhow d (views_closed script turns core is (first_views script)) (λ n. found_in_clients Any (Unit {0}) ends_anyhow n ++ founds (plan_of script) (calls script) (opens script) known.in_script Any (Unit {0}) ends_anyhow (closing_of script turns core is) (replicate is.last (quiet 0)) n)) (sym is.is_ended)
        (record { readers = k.readers; clients = k.clients; many = k.many })

  -- ## Before the ending

  named_opened : Named (plan_of script) (OpensLink (opens script)) (opened script) (first_views script)
  named_opened = beginning_named (plan_of script) (OpensLink (opens script)) (id_plan_of script) (all_tasks script) (replicate (32 - length first) Rest ++ readers_from (calls script) 0 (opens script)) (tasks_own script 0 (Rattle.seat_programs.specs.brpc_model.specs.Operations.clients script + 1))
      (names_others (OpensLink (opens script)) (32 - length first) (calls script) (opens script) 0) (first_views script) no_word

  pub named_set_up : Named (plan_of script) (OpensLink (opens script)) (set_up script is.setup) views_set
  named_set_up = run_named (plan_of script) go (OpensLink (opens script)) (opened script) (first_views script) (replicate is.setup (quiet 0)) start.sound (set_up_answered script made.are (first_views script) start go turns core is fitting) fitting.of_setup named_opened

  -- the setup is made of opens
  setup_opens : Opens (opened script)
  setup_opens = by_tasks (all_tasks script) refl
    where
      by_tasks : (cs : List (List Task)) → all_tasks script ≡ cs → Opens (opened script)
      by_tasks [] e = absurd (let are = made.are in let s = are.some_ in let l = ap (λ (cs : List (List Task)). length cs) e in omega (arith, s, l))
      by_tasks (ts ∷ tss) e = record {
        seat = λ s at. let are = made.are in let sizes : Sizes = sizes_of (plan_of script) (id_plan_of script) in
            subst (λ (s : SeatState). NoOdd s.program) (some-injective (record { program = next_step (resolved [] (client_from (sizes_of (plan_of script) (id_plan_of script)) [] ts)); hand = [] }) s
            (sym (ap (λ cs. get_elem? (map (λ (program : Program). record { program = next_step (resolved [] program); hand = [] }) (all_programs (programs (sizes_of (plan_of script) (id_plan_of script)) cs) (readers_from (calls script) 0 (opens script)))) 0) e) ∙ at))
            (odd_next (client_from (sizes_of (plan_of script) (id_plan_of script)) [] ts) (odd_setup (sizes_of (plan_of script) (id_plan_of script)) ts (are.setup ts (ap (λ cs. slice_get cs 0) e)))).0;
        none_wait = by_seats (id_plan_of script).seats;
      }
        where
          by_seats : (n : ℕ) → waiting_at (replicate n []) 0 ≡ []
          by_seats zero = refl
          by_seats (suc n) = refl

  -- the socket of a link that was closed before the ending was so behind takes that ended its reading
  pub closed_so : (x : ℕ) → In x (closed_before_ending script turns core is) → ((o : ℕ) × (get_elem? (opens script) x ≡ some o)) × EndedBy (heard_takes is x)
  closed_so x there = ⊎_elim
      (λ a. absurd (none_closed_in (plan_of script) is.setup (opened script) setup_opens x a))
      (λ a. let y = closes_along (plan_of script) (calls script) (opens script) known.in_script EndedBy Never ends_early_by (opens_apart script) (IsListed script) go ended_more (is.scheduled ++ is.later) (set_up script is.setup) views_set (λ n. [])
      (set_up_sound script made.are (first_views script) start go turns core is fitting) is.answered fitting.of_played (recorded_set_up script made.are (first_views script) start go turns core is fitting) named_set_up
      (λ e. absurd (true≢false (sym e ∙ not_ending EndedBy Never ends_early_by)))
      (run_ahead (plan_of script) (opened script) (replicate is.setup (quiet 0)) (beginning_ahead (plan_of script) (id_plan_of script) (all_programs first (readers_from (calls script) 0 (opens script))))) is.is_set_up
      (set_up_keeps EndedBy Never ends_early_by) x a in (
        y.0,
        subst EndedBy (sym (taken_append (taken_in (plan_of script) (set_up script is.setup) (is.scheduled ++ is.later) x) (taken_in (plan_of script) is.ended is.final x)))
            (ended_more (as_taken (taken_in (plan_of script) (set_up script is.setup) (is.scheduled ++ is.later) x)) (as_taken (taken_in (plan_of script) is.ended is.final x))
            (subst EndedBy (founds_heard (plan_of script) (calls script) (opens script) known.in_script EndedBy Never ends_early_by (is.scheduled ++ is.later) (set_up script is.setup) x (not_ending EndedBy Never ends_early_by)) y.1)),
      ))
      (in_both (shown_in closed_at (plan_of script) (opened script) (replicate is.setup (quiet 0))) (shown_in closed_at (plan_of script) (set_up script is.setup) (is.scheduled ++ is.later)) x there)

  -- why the reading of link k ended early: the link gave its end, a frame with a fault, or as much as is read of it, or it failed
  abbrev pub EndedEarly : ℕ → Type 0
  EndedEarly k = Contains (heard_takes is k) AtEnd ⊎ (HasFault (given_by (heard_takes is k)) ⊎ ((reading_limit ≤ length (given_by (heard_takes is k))) ⊎ Contains (heard_takes is k) Broken))

  -- a link whose socket was closed before the ending is one of the script's, and its reading ended early
  pub closed_early : (x : ℕ) → In x (closed_before_ending script turns core is) → (x < length (link_names script)) × EndedEarly x
  closed_early x there = let y = closed_so x there in (
    (let low = at_length (opens script) x y.0.0 y.0.1 in let many = known.as_many in omega (arith, low, many)),
    ⊎_elim (λ a. inl (in_contains (heard_takes is x) AtEnd a)) (λ b. ⊎_elim (λ f. inr (inl f)) (λ d. ⊎_elim (λ l. inr (inr (inl l))) (λ e. inr (inr (inr (in_contains (heard_takes is x) Broken e)))) d) b) y.1,
  )
