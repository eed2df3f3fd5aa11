-- In a run of a script each call is ended by whoever owes it, where a link answers that it is closed only where its writing half is finished.
use Rattle.std.proofs.Common.{◌≡◌, ℕ, zero, suc, ◌+◌, ◌-◌, ◌<◌, ◌≤◌, ◌⊎◌, inl, inr, ⊎_elim, Bool, true, false, cond, List, [], ◌∷◌, ◌++◌, length, length-set, set, replicate, Option, Some, None, refl, sym, ap, ◌∙◌, subst, arith}
use Rattle.std.proofs.lemmas.List.{length-map}
use Rattle.std.specs.List.{AllByRecursion}
use mathlib.Core.Logic.{dite}
use native.Mathlib.Decide.{ℕ_discrete, dec_le}
use mathlib.Core.Option.{Option as Maybe}
use mathlib.Core.Option.{none, some, some-injective, some-ne-none}
use lib.ListN.{get_elem?}
use Rattle.atomic_table.proofs.Lists.{at_set, set_else}
use Rattle.sock_words.specs.declared.kind.Kind.{Kind}
use Rattle.sock_words.specs.PackedWords.{socket_id_slot}
use Rattle.sock_words.specs.declared.plain.Plan.{Plan}
use Rattle.seat_programs.specs.brpc_model.specs.Items.{Item, is_open}
use Rattle.seat_programs.specs.brpc_model.specs.Operations.{Turn, operations, clients, link_names}
use Rattle.sock_model.specs.declared.view.View.{View}
use Rattle.corr_core.specs.declared.marks.Plan.{Plan as IdPlan}
use Rattle.corr_core.proofs.NoteSums.{at_length}
use Rattle.seat_programs.specs.Asides.{TakeBytes, Closed}
use Rattle.seat_programs.specs.Programs.{Program, Rest, Aside}
use Rattle.seat_programs.specs.Tasks.{Numbered, numbered, opens, calls, plan_of, id_plan_of}
use Rattle.seat_programs.specs.ClientProgram.{client_from, ending_of}
use Rattle.seat_programs.specs.Cores.{Core, SeatState, resolved, next_step, waiting_at}
use Rattle.seat_programs.specs.Ticks.{Unasked, Moment, quiet, ticked, run, IsAlwaysReady, waits}
use Rattle.seat_programs.specs.ScheduledRuns as runs
use Rattle.seat_programs.specs.ScheduledRuns.{kind_in}
use Rattle.seat_programs.specs.ScriptSetupToEnding.{ticks_of, sizes_of, programs, readers_from, all_programs, all_tasks, opened, ending, is_ending, set_up, played, IsRunWithCalls}
use Rattle.owned_ids.specs.Below.programs_allowed.specs.program_steps.specs.SoundSeats.{AllRest, views_along}
use Rattle.owned_ids.specs.Below.programs_allowed.specs.sock_runs.proofs.LinkTicks.{RetriesGo}
use Rattle.owned_ids.specs.Below.programs_allowed.specs.sock_runs.proofs.SoundAlongRuns.{seat_rests}
use Rattle.owned_ids.specs.Below.programs_allowed.specs.sock_runs.proofs.Quiets.{run_seats, run_rests}
use Rattle.owned_ids.specs.Below.programs_allowed.specs.program_walks.proofs.ThroughCalls.{through_next}
use Rattle.owned_ids.specs.Below.programs_allowed.specs.program_walks.proofs.WillStore.{WillStore, IsToStore, will_passes, will_follow, will_client, run_stores, rested_stored}
use Rattle.owned_ids.specs.Below.programs_allowed.specs.program_walks.proofs.LinksOpening.{OpensLink}
use Rattle.owned_ids.specs.Below.programs_allowed.specs.program_walks.proofs.WholeScriptSound.{AreFittingIn, Begins, IsOwed, IsListed, views_closed, set_up_answered, end_answered, set_up_sound, closing_sound, closed_sound, views_played, rested_ahead, rested_idle, ended_idle, end_rests}
use Rattle.owned_ids.specs.Below.id_runs.proofs.IdRuleOpening.{unused}
use Rattle.owned_ids.specs.Below.programs_allowed.proofs.WordsAtBeginning as clients_begin
use Rattle.owned_ids.specs.Below.programs_allowed.proofs.RetryAllowed.{retries_go}
use Rattle.owned_ids.specs.Below.joint_runs.proofs.BothTablesSound.{AreBoth, behind_both}
use Rattle.owned_ids.specs.Below.joint_runs.proofs.RunsOfBothTables.{AreMade, first_views, begins, IsSoundRun, are_fitting_in, joint_runs}
use Rattle.owned_ids.specs.Below.script_facts.proofs.FilteredLists.{some_is, before_from, before_at, before_filter_map}
use Rattle.owned_ids.specs.Below.script_facts.proofs.OperationNumbering.{is_numbered}
use Rattle.owned_ids.specs.Below.script_facts.proofs.TaskLemmas.{tasks_length}
use Rattle.owned_ids.specs.Below.chain_steps.proofs.TicketLists.{at_some}
use Rattle.owned_ids.specs.call_owing.specs.Owing.{Owing}
use Rattle.owned_ids.specs.call_owing.specs.SoundOwing.{id_word_of, SoundOwing}
use Rattle.owned_ids.specs.call_owing.specs.Owns.{Owned}
use Rattle.owned_ids.proofs.OwnsRuns.{first_left, none_yet, owned_begins, kept_along, owned_ending, owned_on}
use Rattle.owned_ids.specs.call_owing.specs.LivesOfLinks.{life_of, AreSaying, ClosesAt, ClosesInTime, ClosesInRun, AreKept}
use Rattle.owned_ids.specs.call_owing.proofs.EndsStill.{all_at, run_ending, all_still, one_of_still, run_parts, second_part, in_first, in_round, rest_at, mapped_at}
use Rattle.owned_ids.proofs.OpensStored.{opener_of, place_at}
use Rattle.owned_ids.proofs.WordsGiven.{Named, names_others, beginning_named, named_ending, named_on, run_named}
use Rattle.owing_ticks.proofs.OwingRuns.{Reaches}
use Rattle.owed_calls.proofs.WholeOwing as whole
use Rattle.owed_calls.proofs.OwedPremisesAtTicks.{says_along}
use Rattle.owed_calls.proofs.NothingOwedAtEnd.{IsKnown, IsAtEnd, tasks_own, opened_seats}
use Rattle.owed_calls.proofs.NothingOwedAtEnd as owed
use Rattle.seat_programs.specs.brpc_model.specs.Order.{EachBefore}
use Rattle.seat_programs.specs.LoopRounds.{first_step}

-- ## Scripts

-- a script whose tables are made for it is as it has to be known
pub known_of : (script : List Item) → AreMade script → IsKnown script
known_of script made = record {
  narrow = let few = made.few_slots in omega (arith, few);
  few = made.few_clients;
  as_many = let e = made.seats in omega (arith, e);
  in_script = λ k o at. all_at (λ n. n < (plan_of script).operations) (opens script) k o made.opens_in at;
  unused = unused (id_plan_of script);
}

-- no operation is the `open` of two links
pub opens_apart : (script : List Item) (k l o : ℕ) → get_elem? (opens script) k ≡ some o → get_elem? (opens script) l ≡ some o → k ≡ l
opens_apart script k l o at_k at_l = dite (ℕ_discrete k l) (λ e. e)
    (λ far. dite (dec_le (suc k) l) (λ less. absurd (let z = before k l (omega (arith, less)) at_k at_l in omega (arith, z))) (λ more. absurd (let z = before l k (omega (arith, far, more)) at_l at_k in omega (arith, z))))
  where
    numbers : EachBefore (λ (x y : Numbered). x.number < y.number) (numbered script)
    numbers = before_from (λ (x y : Numbered). x.number < y.number) (numbered script) (λ i j x y less at_x at_y. let a = is_numbered 0 0 (operations script) i x at_x in let b = is_numbered 0 0 (operations script) j y at_y in
        let m = a.number in let n = b.number in omega (arith, less, m, n))

    of_open : (x : Numbered) (v : ℕ) (b : Bool) → cond b (Some x.number) None ≡ Some v → x.number ≡ v
    of_open x v true e = some_is x.number v e
    of_open x v false e = absurd (let z : None ≡ Some v = e in cc)

    increasing : EachBefore (λ (m n : ℕ). m < n) (opens script)
    increasing = before_filter_map (λ (x y : Numbered). x.number < y.number) (λ (m n : ℕ). m < n) (λ (x : Numbered). cond (is_open x.op.item) (Some x.number) None)
        (λ x y v w less e f. let a = of_open x v (is_open x.op.item) e in let b = of_open y w (is_open y.op.item) f in omega (arith, less, a, b)) (numbered script) numbers

    before : (i j : ℕ) → i < j → get_elem? (opens script) i ≡ some o → get_elem? (opens script) j ≡ some o → o < o
    before i j less at_i at_j = before_at (λ (m n : ℕ). m < n) (opens script) increasing i j o o less (place_at (opens script) i o at_i) (place_at (opens script) j o at_j)

-- the at words of a run
pub record KeepsInRun (script : List Item) (turns : List Turn) (core : Core) (is : IsRunWithCalls script turns core) : Type 0 where
  pub of_setup : AreKept (plan_of script) (id_plan_of script) (calls script) (opened script) (replicate is.setup (quiet 0))
  pub of_played : AreKept (plan_of script) (id_plan_of script) (calls script) (set_up script is.setup) (is.scheduled ++ is.later)
  pub of_closing : AreKept (plan_of script) (id_plan_of script) (calls script) (ending script (played script is.setup (is.scheduled ++ is.later))) (replicate is.last (quiet 0))
  pub of_final : AreKept (plan_of script) (id_plan_of script) (calls script) is.ended is.final

-- ticks that ask no link close none
quiet_at : (p : Plan) (c : Core) (program : Program) → ClosesAt p c Unasked program
quiet_at p c (Aside (TakeBytes k room) next) = λ e. absurd (some-ne-none Closed (sym e))
quiet_at p c program = tt

pub quiet_closes : (p : Plan) (c : Core) (n : ℕ) → ClosesInTime p c (replicate n (quiet 0))
quiet_closes p c zero = tt
quiet_closes p c (suc n) = ((λ seat at. quiet_at p c (first_step seat.program)), quiet_closes p (ticked p c (quiet 0)) n)

module _ (script : List Item) (made : AreMade script) (turns : List Turn) (core : Core) (is : IsRunWithCalls script turns core) where
  abbrev p : Plan
  p = plan_of script

  abbrev q : IdPlan
  q = id_plan_of script

  abbrev os : List ℕ
  os = opens script

  abbrev vs : List View
  vs = first_views script

  sound_run : IsSoundRun script turns core is
  sound_run = joint_runs script turns core is made

  go : RetriesGo (plan_of script)
  go = retries_go (plan_of script) (let limits = made.limits in limits.requests)

  fitting : AreFittingIn script turns core is
  fitting = are_fitting_in script turns core is sound_run

  known : IsKnown script
  known = known_of script made

  -- ## The end

  -- seat 0 as it begins the ending
  abbrev first_of_ending : SeatState
  first_of_ending = let c = played script is.setup (is.scheduled ++ is.later) in record { program = next_step (resolved (waiting_at c.calls.waiting 0) (ending_of (opens script))); hand = [] }

  flag : core.calls.ending ≡ true
  flag = ap (λ (d : Core). d.calls.ending) is.is_end ∙ run_ending (plan_of script) is.ended is.final ∙ ap (λ (d : Core). d.calls.ending) is.is_ended

  abbrev before_last : Core
  before_last = let s = is.settles_again in run (plan_of script) is.ended (ticks_of s.moving)

  core_still : core ≡ before_last
  core_still = let s = is.settles_again in is.is_end ∙ ap (run (plan_of script) is.ended) s.all ∙ run_parts (plan_of script) is.ended (ticks_of s.moving) s.last ∙ all_still (plan_of script) before_last s.last s.still

  prompt_last : AllByRecursion IsAlwaysReady (let s = is.settles_again in s.last)
  prompt_last = let s = is.settles_again in second_part IsAlwaysReady (ticks_of s.moving) s.last (subst (AllByRecursion IsAlwaysReady) s.all (second_part IsAlwaysReady (is.scheduled ++ is.later) is.final is.always_ready))

  many : length core.seats ≡ 32 + length (link_names script)
  many = ap (λ (d : Core). length d.seats) is.is_end ∙ run_seats (plan_of script) is.ended is.final ∙ ap (λ (d : Core). length d.seats) is.is_ended ∙ run_seats (plan_of script) (ending script (played script is.setup (is.scheduled ++ is.later))) (replicate is.last (quiet 0))
      ∙ length-set (played script is.setup (is.scheduled ++ is.later)).seats 0 first_of_ending ∙ run_seats (plan_of script) (set_up script is.setup) (is.scheduled ++ is.later) ∙ run_seats (plan_of script) (opened script) (replicate is.setup (quiet 0))
      ∙ (let m = opened_seats script made.few_clients in let a = known.as_many in omega (arith, m, a))

  -- a seat between the clients and the readers has nothing to do
  rests_between : (i : ℕ) → clients script < i → i < 32 → runs.IsAtRest core i
  rests_between i low high = subst (λ d. runs.IsAtRest d i) (sym is.is_end) (run_rests (plan_of script) is.ended is.final i (subst (λ d. runs.IsAtRest d i) (sym is.is_ended) closed))
    where
      first : List Program
      first = programs (sizes_of (plan_of script) (id_plan_of script)) (all_tasks script)

      at_first : runs.IsAtRest (opened script) i
      at_first = let l = length-map (all_tasks script) (client_from (sizes_of (plan_of script) (id_plan_of script)) []) in let t = tasks_length script 0 (clients script + 1) in
          ap (λ (o : Maybe SeatState). elim o as (λ o. Option Kind) [ none ↦ None | some s ↦ kind_in s.program ])
          (mapped_at (λ (program : Program). record { program = next_step (resolved [] program); hand = [] }) (all_programs first (readers_from (calls script) 0 (opens script))) i Rest
          (rest_at first (readers_from (calls script) 0 (opens script)) (32 - length first) i (omega (arith, l, t, low)) (omega (arith, l, t, low, high))))

      rested : runs.IsAtRest (played script is.setup (is.scheduled ++ is.later)) i
      rested = run_rests (plan_of script) (set_up script is.setup) (is.scheduled ++ is.later) i (run_rests (plan_of script) (opened script) (replicate is.setup (quiet 0)) i at_first)

      closing : runs.IsAtRest (ending script (played script is.setup (is.scheduled ++ is.later))) i
      closing = ap (λ (o : Maybe SeatState). elim o as (λ o. Option Kind) [ none ↦ None | some s ↦ kind_in s.program ]) (set_else (played script is.setup (is.scheduled ++ is.later)).seats 0 i first_of_ending (λ e. let z : ⊥ = omega (arith, e, low) in z)) ∙ rested

      closed : runs.IsAtRest (is_ending (run (plan_of script) (ending script (played script is.setup (is.scheduled ++ is.later))) (replicate is.last (quiet 0)))) i
      closed = run_rests (plan_of script) (ending script (played script is.setup (is.scheduled ++ is.later))) (replicate is.last (quiet 0)) i closing

  still : (i : ℕ) → i < length core.seats → runs.IsAtRest core i ⊎ ((m : Moment) × (m.seat ≡ i) × IsAlwaysReady m × (waits (plan_of script) core m ≡ true))
  still i inside = dite (ℕ_discrete i 0)
      (λ e. inl (subst (runs.IsAtRest core) (sym e) (ended_idle script made.are vs (begins script made) go turns core is fitting)))
      (λ some_. dite (dec_le i (clients script)) (λ client. by_round (inl (omega (arith, some_), client)))
      (λ no_. dite (dec_le 32 i) (λ reader. by_round (inr (reader, (let m = many in omega (arith, inside, m))))) (λ between. inl (rests_between i (omega (arith, no_)) (omega (arith, between))))))
    where
      by_round : ((0 < i) × (i ≤ clients script)) ⊎ ((32 ≤ i) × (i < 32 + length (link_names script))) → runs.IsAtRest core i ⊎ ((m : Moment) × (m.seat ≡ i) × IsAlwaysReady m × (waits (plan_of script) core m ≡ true))
      by_round h = let s = is.settles_again in let n = in_round (clients script) (length (link_names script)) i h in
          subst (λ d. runs.IsAtRest d i ⊎ ((m : Moment) × (m.seat ≡ i) × IsAlwaysReady m × (waits (plan_of script) d m ≡ true))) (sym core_still)
          (one_of_still (plan_of script) before_last s.last s.still prompt_last n.0 i (ap (λ (l : List ℕ). get_elem? l n.0) s.one_more ∙ n.1))

  -- ## The words of `open`s

  first_there : (l : List SeatState) (a b : SeatState) → get_elem? (set l 0 a) 0 ≡ some b → (x : SeatState) × (get_elem? l 0 ≡ some x)
  first_there [] a b e = absurd (some-ne-none b (sym e))
  first_there (x ∷ xs) a b e = (x, refl)

  to_store : (n o : ℕ) → get_elem? (opens script) n ≡ some o → (j : ℕ) × (j < 32) × IsToStore (plan_of script) j o core
  to_store n o at = let x = opener_of script n o at in let inside = known.in_script n o at in
      let first = programs (sizes_of (plan_of script) (id_plan_of script)) (all_tasks script) in
      let at_first : IsToStore (plan_of script) x.place o (opened script) = inr (λ seat there. subst (λ (s : SeatState). WillStore o s.program)
      (some-injective (record { program = next_step (resolved [] (client_from (sizes_of (plan_of script) (id_plan_of script)) [] x.tasks)); hand = [] }) seat
      (sym (mapped_at (λ (program : Program). record { program = next_step (resolved [] program); hand = [] }) (all_programs first (readers_from (calls script) 0 (opens script))) x.place (client_from (sizes_of (plan_of script) (id_plan_of script)) [] x.tasks)
      (in_first first (replicate (32 - length first) Rest ++ readers_from (calls script) 0 (opens script)) x.place (client_from (sizes_of (plan_of script) (id_plan_of script)) [] x.tasks) (mapped_at (client_from (sizes_of (plan_of script) (id_plan_of script)) []) (all_tasks script) x.place x.tasks x.there))) ∙ there))
      (through_next (WillStore o) (will_passes o) (will_follow o) [] (client_from (sizes_of (plan_of script) (id_plan_of script)) [] x.tasks) (will_client o (sizes_of (plan_of script) (id_plan_of script)) x.tasks [] x.opening))) in
      let at_set_up = run_stores (plan_of script) x.place o inside go (opened script) vs (replicate is.setup (quiet 0)) start.sound (set_up_answered script made.are vs start go turns core is fitting) fitting.of_setup at_first in
      let at_rest = run_stores (plan_of script) x.place o inside go (set_up script is.setup) (views_along (plan_of script) (opened script) vs (replicate is.setup (quiet 0))) (is.scheduled ++ is.later) (set_up_sound script made.are vs start go turns core is fitting) is.answered fitting.of_played at_set_up in
      let at_begun = at_ending x.place o at_rest in
      let at_told = run_stores (plan_of script) x.place o inside go (ending script (played script is.setup (is.scheduled ++ is.later))) (views_played script turns core is vs) (replicate is.last (quiet 0)) (closing_sound script made.are vs start go turns core is fitting)
      (end_answered script made.are vs start go turns core is fitting) fitting.of_closing at_begun in
      let at_end = run_stores (plan_of script) x.place o inside go is.ended (views_closed script turns core is vs) is.final (closed_sound script made.are vs start go turns core is fitting) is.answered_again fitting.of_final
      (subst (IsToStore (plan_of script) x.place o) (sym is.is_ended) (on x.place o (run (plan_of script) (ending script (played script is.setup (is.scheduled ++ is.later))) (replicate is.last (quiet 0))) at_told)) in
      (x.place, (let low = at_length (all_tasks script) x.place x.tasks x.there in let few = made.few_clients in omega (arith, low, few)), subst (IsToStore (plan_of script) x.place o) (sym is.is_end) at_end)
    where
      start : Begins script vs
      start = begins script made

      on : (j o : ℕ) (c : Core) → IsToStore (plan_of script) j o c → IsToStore (plan_of script) j o (is_ending c)
      on j o c (inl some_) = inl some_
      on j o c (inr will) = inr will

      at_ending : (j o : ℕ) → IsToStore (plan_of script) j o (played script is.setup (is.scheduled ++ is.later)) → IsToStore (plan_of script) j o (ending script (played script is.setup (is.scheduled ++ is.later)))
      at_ending j o (inl some_) = inl some_
      at_ending j o (inr will) = inr (λ s at. ⊎_elim
          (λ a. let old = first_there (played script is.setup (is.scheduled ++ is.later)).seats first_of_ending s (subst (λ n. get_elem? (set (played script is.setup (is.scheduled ++ is.later)).seats 0 first_of_ending) n ≡ some s) a.0 at) in
          absurd (subst (WillStore o) (seat_rests (played script is.setup (is.scheduled ++ is.later)) (rested_ahead script made.are vs start go turns core is fitting) 0 (rested_idle script made.are vs start go turns core is fitting) old.0 old.1)
          (will old.0 (ap (get_elem? (played script is.setup (is.scheduled ++ is.later)).seats) a.0 ∙ old.1))))
          (λ a. will s a.1) (at_set (played script is.setup (is.scheduled ++ is.later)).seats 0 j first_of_ending s at))

  end_ : IsAtEnd script core
  end_ = record {
    ids_end = (let over = sound_run.over in over.id_views, let over = sound_run.over in over.ids);
    still = still;
    flag = flag;
    stored = λ n o at rests. let x = to_store n o at in let m = many in let seat = at_some core.seats x.0 (let low = x.1 in omega (arith, low, m)) in
        rested_stored (plan_of script) x.0 o (known.in_script n o at) core seat.0 seat.1 (rests x.0 x.1 (let low = x.1 in omega (arith, low, m)) seat.0 seat.1) x.2;
  }

  -- ## What is said

  abbrev setup_ticks : List Moment
  setup_ticks = replicate is.setup (quiet 0)

  abbrev ending_ticks : List Moment
  ending_ticks = replicate is.last (quiet 0)

  abbrev begun_ending : Core
  begun_ending = ending script (played script is.setup (is.scheduled ++ is.later))

  abbrev told_core : Core
  told_core = is_ending (run (plan_of script) (ending script (played script is.setup (is.scheduled ++ is.later))) (replicate is.last (quiet 0)))

  abbrev all_parts : whole.Parts p q known.narrow refl (calls script) os known.in_script go (IsListed script) (opened script) vs setup_ticks (is.scheduled ++ is.later) ending_ticks is.final
  all_parts = owed.parts script made.are vs (begins script made) go turns core is fitting known end_

  abbrev views_set_up : List View
  views_set_up = views_along (plan_of script) (opened script) vs (replicate is.setup (quiet 0))

  abbrev views_rested : List View
  views_rested = views_along (plan_of script) (set_up script is.setup) (views_along (plan_of script) (opened script) vs (replicate is.setup (quiet 0))) (is.scheduled ++ is.later)

  abbrev views_told : List View
  views_told = views_closed script turns core is vs

  named_opened : Named p (OpensLink os) (opened script) vs
  named_opened = let first = programs (sizes_of (plan_of script) (id_plan_of script)) (all_tasks script) in
      beginning_named p (OpensLink os) q (all_tasks script) (replicate (32 - length first) Rest ++ readers_from (calls script) 0 os) (tasks_own script 0 (clients script + 1)) (names_others (OpensLink os) (32 - length first) (calls script) os 0) vs
      (λ o inside. (let u = clients_begin.unused (plan_of script) in u.opens) o inside)

  named_set_up : Named p (OpensLink os) (set_up script is.setup) views_set_up
  named_set_up = let parts = all_parts in run_named p go (OpensLink os) (opened script) vs setup_ticks parts.first.sound parts.first.answered parts.first.fits named_opened

  named_ending_begun : Named p (OpensLink os) begun_ending views_rested
  named_ending_begun = let parts = all_parts in named_ending p (OpensLink os) os (played script is.setup (is.scheduled ++ is.later)) views_rested (run_named p go (OpensLink os) (set_up script is.setup) views_set_up (is.scheduled ++ is.later) parts.second.sound parts.second.answered parts.second.fits named_set_up)

  named_told : Named p (OpensLink os) told_core views_told
  named_told = let parts = all_parts in named_on p (OpensLink os) (run p begun_ending ending_ticks) views_told (run_named p go (OpensLink os) begun_ending views_rested ending_ticks parts.third.sound parts.third.answered parts.third.fits named_ending_begun)

  abbrev final_words : List ℕ
  final_words = (run (plan_of script) told_core is.final).words

  slots_end : (k s : ℕ) → life_of p os final_words k ≡ Some s → socket_id_slot s < p.slots
  slots_end = owed.slots₆ script made.are vs (begins script made) go turns core is fitting known end_

  links_end : (k s : ℕ) → life_of p os final_words k ≡ Some s → k < 65535
  links_end = owed.links₆ script made.are vs (begins script made) go turns core is fitting known end_

  reach_end : Reaches p q known.narrow refl (calls script) os final_words known.in_script slots_end links_end (run p told_core is.final) (views_along p told_core views_told is.final)
  unfolding slots_end links_end
  reach_end = owed.reach₆ script made.are vs (begins script made) go turns core is fitting known end_

  module _ (closes : ClosesInRun script turns core is) (kept : KeepsInRun script turns core is) where
    abbrev Says : Core → List Moment → Type 0
    Says c ms = AreSaying p q (life_of p os final_words) (calls script) c ms

    as_many : length os ≡ p.links
    as_many = known.as_many

    says_setup : Says (opened script) setup_ticks
    says_setup = let parts = all_parts in let s = sound_run in says_along p q known.narrow refl (calls script) os final_words known.in_script slots_end links_end (opens_apart script) as_many go (IsListed script) (opened script) vs setup_ticks parts.first.sound parts.first.answered parts.first.fits parts.first.recorded parts.readers parts.many named_opened
        s.setup (quiet_closes p (opened script) is.setup) kept.of_setup (whole.reach₁ p q known.narrow refl (calls script) os known.in_script go (IsListed script) (opened script) vs setup_ticks (is.scheduled ++ is.later) ending_ticks is.final all_parts slots_end links_end reach_end)

    says_clients : Says (set_up script is.setup) (is.scheduled ++ is.later)
    says_clients = let parts = all_parts in let s = sound_run in says_along p q known.narrow refl (calls script) os final_words known.in_script slots_end links_end (opens_apart script) as_many go (IsListed script) (set_up script is.setup) views_set_up (is.scheduled ++ is.later) parts.second.sound parts.second.answered parts.second.fits parts.second.recorded
        (whole.readers₁ p q known.narrow refl (calls script) os known.in_script go (IsListed script) (opened script) vs setup_ticks (is.scheduled ++ is.later) ending_ticks is.final all_parts) (whole.many₁ p q known.narrow refl (calls script) os known.in_script go (IsListed script) (opened script) vs setup_ticks (is.scheduled ++ is.later) ending_ticks is.final all_parts) named_set_up
        s.clients closes.played kept.of_played (whole.reach₂ p q known.narrow refl (calls script) os known.in_script go (IsListed script) (opened script) vs setup_ticks (is.scheduled ++ is.later) ending_ticks is.final all_parts slots_end links_end reach_end)

    says_ending : Says begun_ending ending_ticks
    says_ending = let parts = all_parts in let s = sound_run in says_along p q known.narrow refl (calls script) os final_words known.in_script slots_end links_end (opens_apart script) as_many go (IsListed script) begun_ending views_rested ending_ticks parts.third.sound parts.third.answered parts.third.fits parts.third.recorded
        (whole.readers₃ p q known.narrow refl (calls script) os known.in_script go (IsListed script) (opened script) vs setup_ticks (is.scheduled ++ is.later) ending_ticks is.final all_parts) (whole.many₃ p q known.narrow refl (calls script) os known.in_script go (IsListed script) (opened script) vs setup_ticks (is.scheduled ++ is.later) ending_ticks is.final all_parts) named_ending_begun
        s.closing (quiet_closes p begun_ending is.last) kept.of_closing (whole.reach₄ p q known.narrow refl (calls script) os known.in_script go (IsListed script) (opened script) vs setup_ticks (is.scheduled ++ is.later) ending_ticks is.final all_parts slots_end links_end reach_end)

    says_final : Says told_core is.final
    says_final = let parts = all_parts in let s = sound_run in says_along p q known.narrow refl (calls script) os final_words known.in_script slots_end links_end (opens_apart script) as_many go (IsListed script) told_core views_told is.final parts.last.sound parts.last.answered parts.last.fits parts.last.recorded
        (whole.readers₅ p q known.narrow refl (calls script) os known.in_script go (IsListed script) (opened script) vs setup_ticks (is.scheduled ++ is.later) ending_ticks is.final all_parts) (whole.many₅ p q known.narrow refl (calls script) os known.in_script go (IsListed script) (opened script) vs setup_ticks (is.scheduled ++ is.later) ending_ticks is.final all_parts) named_told
        (subst (λ d. AreBoth (plan_of script) (id_plan_of script) d (views_closed script turns core is vs) is.final) is.is_ended s.final) (subst (λ d. ClosesInTime (plan_of script) d is.final) is.is_ended closes.final)
        (subst (λ d. AreKept (plan_of script) (id_plan_of script) (calls script) d is.final) is.is_ended kept.of_final) reach_end

    owed_kept : IsOwed script turns core is
    owed_kept = owed.is_owed script made.are vs (begins script made) go turns core is fitting known end_ says_setup says_clients says_ending says_final

    ranges_kept : (i : ℕ) → i < q.slots → (id_word_of core i).state ≡ 0
    ranges_kept = owed.ranges_end script made.are vs (begins script made) go turns core is fitting known end_ says_setup says_clients says_ending says_final

    owing_kept : (us : List Owing) × SoundOwing q (life_of p os core.words) (calls script) core us
    owing_kept = owed.owing_end script made.are vs (begins script made) go turns core is fitting known end_ says_setup says_clients says_ending says_final

  -- ## At words

  abbrev setup_kept : AreKept p q (calls script) (opened script) setup_ticks × ((more : ℕ → ℕ) × (others : ℕ → ℕ → Bool) × Owned q (calls script) (set_up script is.setup) more others)
  setup_kept = let s = sound_run in kept_along p q known.narrow (calls script) (opened script) vs setup_ticks s.setup (none_yet script) (first_left script) (owned_begins script made)

  abbrev clients_kept : AreKept p q (calls script) (set_up script is.setup) (is.scheduled ++ is.later) × ((more : ℕ → ℕ) × (others : ℕ → ℕ → Bool) × Owned q (calls script) (played script is.setup (is.scheduled ++ is.later)) more others)
  clients_kept = let s = sound_run in let a = setup_kept.1 in kept_along p q known.narrow (calls script) (set_up script is.setup) views_set_up (is.scheduled ++ is.later) s.clients a.0 a.1 a.2

  owned_begun : (more : ℕ → ℕ) × (others : ℕ → ℕ → Bool) × Owned q (calls script) begun_ending more others
  owned_begun = let s = sound_run in let a = clients_kept.1 in let both = behind_both p q (set_up script is.setup) views_set_up (is.scheduled ++ is.later) s.clients in
      let seat = at_some (played script is.setup (is.scheduled ++ is.later)).seats 0 (let m = many_played in omega (arith, m)) in
      owned_ending p q known.narrow (calls script) (played script is.setup (is.scheduled ++ is.later)) both.id_views both.ids os a.0 a.1 a.2 seat.0 seat.1
    where
      many_played : length (played script is.setup (is.scheduled ++ is.later)).seats ≡ 32 + length os
      many_played = run_seats (plan_of script) (set_up script is.setup) (is.scheduled ++ is.later) ∙ run_seats (plan_of script) (opened script) (replicate is.setup (quiet 0)) ∙ opened_seats script made.few_clients

  abbrev ending_kept : AreKept p q (calls script) begun_ending ending_ticks × ((more : ℕ → ℕ) × (others : ℕ → ℕ → Bool) × Owned q (calls script) (run p begun_ending ending_ticks) more others)
  ending_kept = let s = sound_run in let a = owned_begun in kept_along p q known.narrow (calls script) begun_ending views_rested ending_ticks s.closing a.0 a.1 a.2

  final_kept : AreKept p q (calls script) told_core is.final
  final_kept = let s = sound_run in let a = ending_kept.1 in let both = behind_both p q begun_ending views_rested ending_ticks s.closing in
      (kept_along p q known.narrow (calls script) told_core views_told is.final (subst (λ d. AreBoth (plan_of script) (id_plan_of script) d (views_closed script turns core is vs) is.final) is.is_ended s.final) a.0 a.1
      (owned_on p q known.narrow (calls script) (run p begun_ending ending_ticks) both.id_views both.ids a.0 a.1 a.2)).0

  -- at each tick of a run an at word keeps the id that it named
  pub run_keeps : KeepsInRun script turns core is
  run_keeps = record {
    of_setup = setup_kept.0;
    of_played = clients_kept.0;
    of_closing = ending_kept.0;
    of_final = subst (λ d. AreKept (plan_of script) (id_plan_of script) (calls script) d is.final) (sym is.is_ended) final_kept;
  }

  -- ## The end of a run

  module _ (closes : ClosesInRun script turns core is) where
    -- whoever owes a call ends it: no seat has a step left, and the life of each link is past
    pub run_owed_of : IsOwed script turns core is
    run_owed_of = owed_kept closes run_keeps

    -- no id range is left open
    pub run_all_ended : (i : ℕ) → i < (id_plan_of script).slots → (id_word_of core i).state ≡ 0
    run_all_ended = ranges_kept closes run_keeps

    -- no seat has anything left to do
    pub run_all_rest : AllRest core
    run_all_rest = end_rests script made.are vs (begins script made) go turns core is fitting (owed_kept closes run_keeps)

    -- and what each seat owes then is sound
    pub run_owing_end : (us : List Owing) × SoundOwing (id_plan_of script) (life_of (plan_of script) (opens script) core.words) (calls script) core us
    run_owing_end = owing_kept closes run_keeps
