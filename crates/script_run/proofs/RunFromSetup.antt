-- A run, from the setup to the end.
use Rattle.std.proofs.Common.{◌≡◌, ℕ, zero, suc, ◌+◌, ◌-◌, Bool, List, [], ◌∷◌, ◌++◌, replicate, Option, None, Result, Ok, Err, OnOk, length, ◌≤◌, ap, sym, subst, refl, ◌∙◌, append_assoc, arith}
use Rattle.std.specs.List.{AllByRecursion}
use mathlib.Core.Option as core
use lib.ListN.{get_elem?}
use Rattle.sock_words.specs.declared.kind.Kind.{Kind}
use Rattle.sock_words.specs.declared.plain.Plan.{Plan}
use Rattle.brpc_model.specs.Items.{Item, Shape}
use Rattle.brpc_model.specs.Operations.{Turn, clients}
use Rattle.seat_programs.specs.Cores.{Core, SeatState}
use Rattle.seat_programs.specs.Ticks.{Answer, Moment, quiet, run, AreAnswered, IsAlwaysReady, broken_in}
use Rattle.seat_programs.specs.ScheduledRuns.{IsAtRest, Scheduled, from_to, kind_in}
use Rattle.seat_programs.specs.ScriptSetupToEnding as scripts
use Rattle.seat_programs.specs.ScriptSetupToEnding.{IsRunWithCalls, Settles, AreStill, round_of, ticks_of, opened, set_up, is_ending, ending}
use Rattle.seat_programs.specs.Tasks as tasks
use Rattle.seat_programs.specs.Tasks.{plan_of, id_plan_of}
use Rattle.brpc_model.specs.Script.{script_of}
use Rattle.calm_runs.specs.Below.call_owing.specs.LivesOfLinks.{ClosesInTime, ClosesInRun}
use Rattle.calm_runs.specs.Below.run_theorems.proofs.RunLengths.{opened_sized, run_sized}
use Rattle.calm_runs.specs.Below.run_theorems.specs.Heard.{heard_in, taken_in, heard_of, taken_of}
use Rattle.calm_runs.specs.Below.run_theorems.specs.OfferedAtTakes.{AreOffered}
use Rattle.calm_runs.specs.Below.run_theorems.specs.OfferedRuns.{OffersInRun}
use Rattle.calm_runs.specs.Below.run_theorems.specs.ShapedPuts.{AreShaped, ShapedInRun}
use Rattle.calm_runs.specs.Below.run_theorems.proofs.HeardRuns.{heard_on, taken_on}
use Rattle.calm_runs.specs.Below.script_facts.proofs.ScriptSizes.{keeps_limits}
use Rattle.machine_model.specs.MachineLinks.{Taken, Given, AreAlwaysReady, TellClosing, IsOffering, IsShapedSo}
use Rattle.machine_model.specs.Machines.{MachineState, core_with, ending_by}
use Rattle.machine_model.specs.MachineRuns as rounds
use Rattle.machine_model.specs.MachineRuns.{LinksShow, SettlesBy, SettledWith, Settled, round_by}
use Rattle.sock_core.specs.machine_ticks.proofs.RestingTicks.{rest_anyhow}
use Rattle.sock_core.specs.machine_ticks.proofs.JoiningRuns.{run_append, answered_append, closes_append, offers_append, shapes_append, prompt_append, broken_append, shows_join, shows_as}
use Rattle.script_run.specs.RunOutcomeCauses.{broken_of}
use Rattle.sock_core.specs.MachineBeginning.{IsMade}
use Rattle.script_run.specs.Played.{IsPlayable, PlayedWith, HasPlayed, HasRun}

-- a seat behind the last one has no step left
past_all : (seats : List SeatState) (i : ℕ) → length seats ≤ i → get_elem? seats i ≡ core.none
past_all [] i past = refl
past_all (seat ∷ seats) zero past = absurd (omega (arith, past))
past_all (seat ∷ seats) (suc i) past = past_all seats i (omega (arith, past))

pub playable_of : (bytes : List ℕ) (script : List Item) (m : MachineState) → script_of bytes ≡ Ok script → IsMade script m → IsPlayable m
playable_of bytes script m reads made = record { first = made.first; far = far }
  where
    far : (i : ℕ) → 65535 ≤ i → (took : Taken) (gave : Given) → IsAtRest (core_with m took gave) i
    far i high took gave =
        let sized = run_sized (plan_of script) (id_plan_of script) (opened script) (replicate made.setup.0 (quiet 0)) (opened_sized bytes script reads) in
        let many = sized.seats in
        let few = (keeps_limits bytes script reads).links in
        let past : length (set_up script made.setup.0).seats ≤ i = omega (arith, many, few, high) in
        let rest : IsAtRest (set_up script made.setup.0) i = ap (λ (o : core.Option SeatState). elim o as (λ o. Option Kind) [ core.none ↦ None | core.some seat ↦ kind_in seat.program ]) (past_all (set_up script made.setup.0).seats i past) in
        rest_anyhow m (λ k. []) took (λ k. []) gave i (subst (λ (c : Core). IsAtRest c i) (sym made.setup.1) rest)

-- ## Rounds

-- the seats of a round of the machine are those of a round of the script
same_round : (script : List Item) → round_by (plan_of script) ≡ round_of script
same_round script = let e : (clients script + 1) - 1 ≡ clients script = omega arith in ap (λ n. from_to 1 n ++ from_to 32 (plan_of script).links) e

settles_from : (script : List Item) (n : ℕ) (c : Core) (ms : List Moment) → rounds.SettlesAfter (plan_of script) n c ms → Settles script c ms
settles_from script zero c ms h = record { moving = []; each_moves = tt; last = ms; one_more = h.0 ∙ same_round script; still = h.1; all = refl }
settles_from script (suc n) c ms h = let more = settles_from script n (run (plan_of script) c h.0) h.1 h.5 in record {
  moving = h.0 ∷ more.moving;
  each_moves = (h.3 ∙ same_round script, h.4, more.each_moves);
  last = more.last;
  one_more = more.one_more;
  still = subst (λ (d : Core). AreStill (plan_of script) d more.last) (sym (run_append (plan_of script) c h.0 (ticks_of more.moving))) more.still;
  all = h.2 ∙ ap (λ (l : List Moment). h.0 ++ l) more.all ∙ sym (append_assoc h.0 (ticks_of more.moving) more.last);
}

-- ## The whole run

-- what comes in three parts, of which the first two are one
first_two : {A : Type 0} (xs ys zs : List A) {both : List A} → both ≡ xs ++ ys → xs ++ (ys ++ zs) ≡ both ++ zs
first_two xs ys zs e = sym (append_assoc xs ys zs) ∙ ap (λ l. l ++ zs) (sym e)

module _ (script : List Item) (turns : List Turn) (start mid end_ : MachineState) (made : IsMade script start) (played : HasPlayed (λ c. Scheduled start.plan c turns) start mid) (settled : Settled mid end_) (always_ready : AreAlwaysReady start.links) where
  abbrev p : Plan
  p = plan_of script

  abbrev n : ℕ
  n = made.setup.0

  abbrev none_ : ℕ → List ℕ
  none_ k = []

  abbrev c0 : Core
  c0 = core_with start none_ none_

  abbrev first : PlayedWith (λ c. Scheduled start.plan c turns) start mid none_ none_
  first = played.2 none_ none_ made.agrees made.agrees_gave

  abbrev t : Taken
  t = first.follows.later

  abbrev g : Given
  g = first.follows.later_gave

  abbrev rest : SettledWith mid end_ t g
  rest = settled.settled t g first.follows.agrees first.follows.agrees_gave

  abbrev now : List Moment
  now = first.moments

  abbrev later : List Moment
  later = rest.moments

  abbrev final : List Moment
  final = rest.final

  plan : mid.plan ≡ p
  plan = played.0.plan ∙ made.plan

  opens : mid.opens ≡ tasks.opens script
  opens = played.0.opens ∙ made.opens

  -- the core behind the schedule
  middle : core_with mid t g ≡ run p (set_up script n) now
  middle = first.follows.core ∙ ap (λ (q : Plan). run q c0 now) made.plan ∙ ap (λ (c : Core). run p c now) made.setup.1

  -- what holds of ticks from behind the schedule
  moved : (P : Plan → Core → Type 0) → P mid.plan (core_with mid t g) → P p (run p (set_up script n) now)
  moved P h = subst (λ (c : Core). P p c) middle (subst (λ (q : Plan). P q (core_with mid t g)) plan h)

  -- and from behind the setup
  set : (P : Plan → Core → Type 0) → P start.plan c0 → P p (set_up script n)
  set P h = subst (λ (c : Core). P p c) made.setup.1 (subst (λ (q : Plan). P q c0) made.plan h)

  -- behind the rounds
  rounded : run mid.plan (core_with mid t g) later ≡ scripts.played script n (now ++ later)
  rounded = ap (λ (q : Plan). run q (core_with mid t g) later) plan ∙ ap (λ (c : Core). run p c later) middle ∙ sym (run_append p (set_up script n) now later)

  settles : SettlesBy p (run p (set_up script n) now) later
  settles = moved (λ q c. SettlesBy q c later) rest.settles

  settles_again : SettlesBy p rest.ended final
  settles_again = subst (λ (q : Plan). SettlesBy q rest.ended final) plan rest.settles_again

  parts : AllByRecursion IsAlwaysReady (later ++ final)
  parts = rest.always_ready (played.1.always_ready always_ready)

  abbrev run_of : IsRunWithCalls script turns (core_with end_ rest.later rest.later_gave)
  run_of = record {
    setup = n;
    is_set_up = subst (λ (c : Core). IsAtRest c 0) made.setup.1 (made.first.0 none_ none_);
    scheduled = now;
    by_schedule = set (λ q c. Scheduled q c turns now) first.is;
    later = later;
    settles = settles_from script settles.rounds (run p (set_up script n) now) later settles.after;
    answered = answered_append p (set_up script n) now later (set (λ q c. AreAnswered q c now) first.follows.answered) (moved (λ q c. AreAnswered q c later) rest.answered);
    last = rest.last;
    ended = rest.ended;
    is_ended = rest.is_ended
        ∙ ap (λ (q : Plan). is_ending (run q (ending_by mid.opens (run mid.plan (core_with mid t g) later)) (replicate rest.last (quiet 0)))) plan
        ∙ ap (λ (os : List ℕ). is_ending (run p (ending_by os (run mid.plan (core_with mid t g) later)) (replicate rest.last (quiet 0)))) opens
        ∙ ap (λ (c : Core). is_ending (run p (ending script c) (replicate rest.last (quiet 0)))) rounded;
    is_over = rest.is_over;
    final = final;
    settles_again = settles_from script settles_again.rounds rest.ended final settles_again.after;
    answered_again = subst (λ (q : Plan). AreAnswered q rest.ended final) plan rest.answered_again;
    always_ready = subst (AllByRecursion IsAlwaysReady) (sym (append_assoc now later final)) (prompt_append now (later ++ final) (first.follows.always_ready always_ready) parts);
    is_end = rest.core ∙ ap (λ (q : Plan). run q rest.ended final) plan;
  }

  closes : TellClosing start.links → ClosesInRun script turns (core_with end_ rest.later rest.later_gave) run_of
  closes tell = let later_tell = played.1.tell tell in record {
    played = closes_append p (set_up script n) now later (set (λ q c. ClosesInTime q c now) (first.follows.closes tell)) (moved (λ q c. ClosesInTime q c later) (rest.closes later_tell));
    final = subst (λ (q : Plan). ClosesInTime q rest.ended final) plan (rest.closes_again later_tell);
  }

  offers : (k : ℕ) (serve : Bool) (end : Option ℕ) → IsOffering start.links k serve end → OffersInRun script turns (core_with end_ rest.later rest.later_gave) run_of k serve end × IsOffering end_.links k serve end
  offers k serve end h = let x = first.follows.offers k serve end h in let y = rest.offers k serve end x.1 in (
    record {
      played = offers_append p k serve end (set_up script n) now later (set (λ q c. AreOffered q k serve end c now) x.0) (moved (λ q c. AreOffered q k serve end c later) y.0);
      final = subst (λ (q : Plan). AreOffered q k serve end rest.ended final) plan y.1;
    },
    y.2,
  )

  shapes : (k : ℕ) (shape : Shape) → IsShapedSo start.links k shape [] → ShapedInRun script turns (core_with end_ rest.later rest.later_gave) run_of k shape
  shapes k shape h =
      let x = first.follows.shapes k shape [] h in
      let y = rest.shapes k shape (heard_in start.plan c0 now k) x.1 in
      let now_is : heard_in start.plan c0 now k ≡ heard_in p (set_up script n) now k = ap (λ (q : Plan). heard_in q c0 now k) made.plan ∙ ap (λ (c : Core). heard_in p c now k) made.setup.1 in
      let later_is : heard_in mid.plan (core_with mid t g) later k ≡ heard_in p (run p (set_up script n) now) later k = ap (λ (q : Plan). heard_in q (core_with mid t g) later k) plan ∙ ap (λ (c : Core). heard_in p c later k) middle in record {
        played = shapes_append p k shape [] (set_up script n) now later (set (λ q c. AreShaped q k shape [] c now) x.0)
            (subst (λ (so_far : List Answer). AreShaped p k shape so_far (run p (set_up script n) now) later) now_is (moved (λ q c. AreShaped q k shape (heard_in start.plan c0 now k) c later) y.0));
        final = subst (λ (so_far : List Answer). AreShaped p k shape so_far rest.ended final)
            (ap (λ (l : List Answer). l ++ heard_in mid.plan (core_with mid t g) later k) now_is ∙ ap (λ (l : List Answer). heard_in p (set_up script n) now k ++ l) later_is ∙ sym (heard_on p (set_up script n) now later k))
            (subst (λ (q : Plan). AreShaped q k shape (heard_in start.plan c0 now k ++ heard_in mid.plan (core_with mid t g) later k) rest.ended final) plan y.1);
      }

  -- what the links show
  shows : LinksShow start end_ (broken_of run_of) (heard_of run_of) (taken_of run_of)
  shows = shows_as start end_
      (shows_join start mid end_ played.1 settled.links (set (λ q c. LinksShow start mid (broken_in q c now) (heard_in q c now) (taken_in q c now)) first.follows.shows)
      (moved (λ q c. LinksShow mid end_ (broken_in q c later ++ broken_in q rest.ended final) (λ k. heard_in q c later k ++ heard_in q rest.ended final k) (λ k. taken_in q c later k ++ taken_in q rest.ended final k)) rest.shows))
      (first_two (broken_in p (set_up script n) now) (broken_in p (run p (set_up script n) now) later) (broken_in p rest.ended final) (broken_append p (set_up script n) now later))
      (λ k. first_two (heard_in p (set_up script n) now k) (heard_in p (run p (set_up script n) now) later k) (heard_in p rest.ended final k) (heard_on p (set_up script n) now later k))
      (λ k. first_two (taken_in p (set_up script n) now k) (taken_in p (run p (set_up script n) now) later k) (taken_in p rest.ended final k) (taken_on p (set_up script n) now later k))

  pub has_run : HasRun script turns start end_
  has_run = record { so_far = rest.so_far; run = run_of; closes = closes; offers = offers; shapes = shapes; shows = shows }

pub run_answered : {T E : Type 0} (script : List Item) (turns : List Turn) (start mid end_ : MachineState) (r : Result T E) → IsMade script start → HasPlayed (λ c. Scheduled start.plan c turns) start mid → OnOk r (Settled mid end_) →
    OnOk r (AreAlwaysReady start.links → HasRun script turns start end_)
run_answered script turns start mid end_ (Ok x) made played settled = λ always_ready. has_run script turns start mid end_ made played settled always_ready
run_answered script turns start mid end_ (Err e) made played settled = tt

pub plan_answered : {T E : Type 0} (start mid end_ : MachineState) (r : Result T E) → mid.plan ≡ start.plan → mid.ids.plan ≡ start.ids.plan → OnOk r (Settled mid end_) → OnOk r ((end_.plan ≡ start.plan) × (end_.ids.plan ≡ start.ids.plan))
plan_answered start mid end_ (Ok x) same same_ids settled = (settled.plan ∙ same, settled.id_plan ∙ same_ids)
plan_answered start mid end_ (Err e) same same_ids settled = tt
