-- In a run a link with the server, to whose socket no `send` is, gives no response before its call began, up to where the ending begins.
use Rattle.std.proofs.Common.{◌≡◌, ℕ, zero, suc, ◌+◌, ◌<◌, ◌≤◌, inl, inr, ⊎_elim, Bool, false, List, [], ◌∷◌, ◌++◌, length, replicate, sym, ap, ◌∙◌, subst, arith}
use Rattle.std.proofs.lemmas.Option.{slice_get_within}
use Rattle.std.specs.List.{AllByRecursion}
use Rattle.std.specs.Prelude.{slice_get, Some, IsTrue}
use mathlib.Core.Option.{Option, none, some, some-injective, some-ne-none}
use lib.ListN.{get_elem?}
use Rattle.sock_model.specs.declared.home.Home.TheVariants.{Link}
use Rattle.sock_model.specs.declared.view.View.{View}
use Rattle.brpc_model.specs.Items.{Item, Shape}
use Rattle.brpc_model.specs.Operations.{Turn, link_shapes}
use Rattle.brpc_model.specs.FrameStream.{stream}
use Rattle.served_fits.specs.Below.script_facts.proofs.ReadScriptFacts.{InRange}
use Rattle.served_fits.specs.Below.script_facts.proofs.Targets.{AreThere}
use Rattle.sock_message.specs.Asked.{Asked, frame_of}
use Rattle.seat_programs.specs.declared.task.Op.TheVariants as ops
use Rattle.seat_programs.specs.declared.task.Task.{Task}
use Rattle.seat_programs.specs.Programs.{Program}
use Rattle.seat_programs.specs.Cores.{Core, SeatState, resolved, next_step}
use Rattle.seat_programs.specs.Tasks.{opens, calls, plan_of, id_plan_of}
use Rattle.seat_programs.specs.Ticks.{Moment, AreAnswered, quiet}
use Rattle.seat_programs.specs.Explained.{OpFits, TaskFits, IsTask, Made}
use Rattle.seat_programs.specs.ScriptSetupToEnding.{sizes_of, programs, readers_from, all_programs, all_tasks, new_links, opened, set_up, played, IsRunWithCalls}
use Rattle.served_fits.specs.Below.programs_allowed.specs.program_steps.specs.SoundSeats.{views_along}
use Rattle.served_fits.specs.Below.programs_allowed.specs.sock_runs.proofs.LinkTicks.{RetriesGo}
use Rattle.served_fits.specs.Below.programs_allowed.specs.program_walks.proofs.OpenedLivesRecorded.{mapped}
use Rattle.served_fits.specs.Below.programs_allowed.specs.program_walks.proofs.WholeScriptSound.{views_played, set_up_answered}
use Rattle.served_fits.specs.Below.outcome_stories.proofs.Members.{all_in}
use Rattle.served_fits.specs.Below.outcome_ticks.proofs.TableTasksDistinct.{fits_of}
use Rattle.served_fits.specs.Below.joint_runs.proofs.RunsOfBothTables.{AreMade, first_views, joint_runs}
use Rattle.served_fits.specs.Below.call_owing.specs.LivesOfLinks.{ClosesInRun, InHand}
use Rattle.served_fits.specs.Below.accept_counts.proofs.EarlyClosedSockets.{start, go, fitting}
use Rattle.served_fits.specs.Below.sent_once.proofs.Labelled.{ids_of_run}
use Rattle.served_fits.specs.Below.accept_counts.proofs.RunsKeepAttemptLaw.{IsCallOf, programs_go, begins_labels, asked_by}
use Rattle.served_fits.specs.Below.sent_once.proofs.SocketOperationsTold.{narrow, few_clients, labelled, opening_bare}
use Rattle.served_fits.specs.served_runs.specs.OfferedReplies.{TookSoFar, offered_by, OffersInRun}
use Rattle.served_fits.specs.served_runs.proofs.RepliesGivenInPart.{IsPart, part_along}
use Rattle.served_fits.specs.served_runs.proofs.RunsKeepReaderPlace.{quiet_offered}
use Rattle.served_fits.specs.served_runs.proofs.ServedLinks.{shapes_many}
use Rattle.served_fits.specs.Below.call_causes.proofs.HandledWhole.{known_setup, known_clients, empty_at}
use Rattle.calls_over.proofs.AllHandledAtEnding.{soon_setup, soon_clients}
use Rattle.calls_over.proofs.SoonPieces.{IsLow, NonePlain}
use Rattle.served_fits.specs.Below.call_causes.proofs.RunOfCallStory.{in_either as in_two}
use Rattle.calls_over.proofs.SoonTicks.{Stands', plain_before, run_stands, quiet_soon, none_soon}
use Rattle.calls_over.proofs.SoonUnsent.{plain_played}
use Rattle.served_fits.specs.served_runs.proofs.RepliesOfWholeRun.{gave_long, empty_long}
use Rattle.served_fits.specs.Below.owned_ids.proofs.OpensStored.{place_at}
use Rattle.served_fits.specs.Below.outcome_stories.specs.OperationStories.{In}

-- ## How a run begins

behind_none : {A : Type 0} (n : ℕ) (ys : List (Option A)) (i : ℕ) → get_elem? (replicate n none ++ ys) (n + i) ≡ get_elem? ys i
behind_none zero ys i = ap (get_elem? ys) (let z : 0 + i ≡ i = omega arith in z)
behind_none (suc n) ys i = ap (get_elem? (none ∷ (replicate n none ++ ys))) (let z : suc n + i ≡ suc (n + i) = omega arith in z) ∙ behind_none n ys i

new_empty : (a n i k next : ℕ) (took : List ℕ) (done : Bool) → get_elem? (new_links a n) i ≡ some (some (Link k took next done)) → took ≡ []
new_empty a zero i k next took done at = absurd (some-ne-none (some (Link k took next done)) (sym at))
new_empty a (suc n) zero k next took done at = let z : Link a [] 0 false ≡ Link k took next done = some-injective _ _ (some-injective _ _ at) in cc
new_empty a (suc n) (suc i) k next took done at = new_empty (a + 1) n i k next took done at

-- no link took anything
opened_took : (script : List Item) (k : ℕ) (took : List ℕ) → TookSoFar (plan_of script) (opened script) k took → took ≡ []
opened_took script k took (next, done, inl home) = new_empty 0 (plan_of script).links k k next took done (sym (behind_none (plan_of script).requests (new_links 0 (plan_of script).links) k) ∙ home)
opened_took script k took (next, done, inr (j, seat, at, has)) = let x = mapped (λ (program : Program). record { program = next_step (resolved [] program); hand = [] }) _ j seat at in
    absurd (subst (λ (s : SeatState). InHand (Link k took next done) s.hand) (sym x.2) has)

module _ (script : List Item) (made : AreMade script) (there : AreThere script) (range : AllByRecursion InRange script) (turns : List Turn) (core : Core) (is : IsRunWithCalls script turns core) (closes : ClosesInRun script turns core is) (offers : OffersInRun script turns core is)
    (k : ℕ) (shape : Shape) (shape_is : slice_get (link_shapes script) k ≡ Some shape) (serves : IsTrue shape.serve)
    (unsent : (client : ℕ) (t : Task) (name slot version : ℕ) (bytes : List ℕ) → IsTask (all_tasks script) core.outcomes client t → t.op ≡ ops.Send name bytes → Made (all_tasks script) core.outcomes name k slot version → ⊥) where
  abbrev vs : List View
  vs = first_views script

  abbrev goes : RetriesGo (plan_of script)
  goes = go script made turns core is

  abbrev small : (id_plan_of script).slots ≤ 65536
  small = narrow script made turns core is closes

  abbrev ids : ℕ → ℕ
  ids = ids_of_run script made turns core is (narrow script made turns core is closes) (few_clients script made turns core is closes)

  abbrev in_setup : List Moment
  in_setup = replicate is.setup (quiet 0)

  abbrev in_clients : List Moment
  in_clients = is.scheduled ++ is.later

  abbrev vs_setup : List View
  vs_setup = views_along (plan_of script) (opened script) (first_views script) (replicate is.setup (quiet 0))

  -- a call's frames are short
  pub short : (asked : Asked) → IsCallOf script asked → (id n : ℕ) → length (frame_of asked id n) ≤ 131072
  short asked (i, ts, t, at, m, op, number) id n = let fits = (all_in (TaskFits (plan_of script)) ts t (fits_of (plan_of script) (all_tasks script) made.are i ts (place_at (all_tasks script) i ts at)) m).1 in
      (subst (OpFits (plan_of script)) op fits).short id n

  abbrev S : Core → List View → Type 0
  S c ws = Stands' script small (IsCallOf script) short ids goes k shape shape_is serves c ws

  link_low : k < (plan_of script).links
  link_low = let l = slice_get_within (link_shapes script) k shape shape_is in let m = shapes_many script in omega (arith, l, m)

  -- ## Through the setup

  first : S (opened script) (first_views script)
  first = let l = begins_labels (plan_of script) (id_plan_of script) small (IsCallOf script) ids (all_programs (programs (sizes_of (plan_of script) (id_plan_of script)) (all_tasks script)) (readers_from (calls script) 0 (opens script)))
      (programs_go (IsCallOf script) (sizes_of (plan_of script) (id_plan_of script)) (all_tasks script) (asked_by script) (calls script) (opens script)) (first_views script)
      (opening_bare script) in record {
        trials = l.0;
        law = l.1;
        below = λ id n some_. absurd (let z = l.2 id n in omega (arith, z, some_));
        took = λ took t. subst (λ l. AllByRecursion (IsLow (id_plan_of script) (opened script)) (stream l).frames) (sym (opened_took script k took t)) tt;
      }

  answered_setup : AreAnswered (plan_of script) (opened script) in_setup
  answered_setup = set_up_answered script made.are (first_views script) (start script made turns core is) goes turns core is (fitting script made turns core is)

  plain_set_up : NonePlain k vs_setup
  plain_set_up = let s = joint_runs script turns core is made in plain_before (plan_of script) (id_plan_of script) small (IsCallOf script) short ids goes k in_clients (set_up script is.setup) vs_setup s.clients is.answered (plain_played script made turns core is closes k unsent)

  stands_set_up : S (set_up script is.setup) vs_setup
  stands_set_up = let s = joint_runs script turns core is made in let l = labelled script made turns core is closes in
      run_stands (plan_of script) (id_plan_of script) small (IsCallOf script) short ids goes k in_setup (opened script) (first_views script) s.setup answered_setup (known_setup script made there range turns core is) l.of_setup plain_set_up first

  long_opened : k < length (opened script).calls.gave
  long_opened = let e = empty_long (plan_of script).links in let l = link_low in omega (arith, e, l)

  long_set_up : k < length (set_up script is.setup).calls.gave
  long_set_up = let e = gave_long (plan_of script) in_setup (opened script) in let l = long_opened in omega (arith, e, l)

  part_set_up : IsPart script k shape (set_up script is.setup)
  part_set_up = let s = start script made turns core is in let f = fitting script made turns core is in
      part_along script k shape shape_is goes in_setup (opened script) (first_views script) s.sound answered_setup f.of_setup
      (quiet_offered script is.setup (opened script)) long_opened (λ took t. (offered_by shape took, ap (λ l. l ++ offered_by shape took) (empty_at (plan_of script).links k)))

  -- ## Up to the ending

  -- how attempts stand there, and what the link took
  pub stands_before : S (played script is.setup (is.scheduled ++ is.later)) (views_played script turns core is (first_views script))
  stands_before = let s = joint_runs script turns core is made in let l = labelled script made turns core is closes in
      run_stands (plan_of script) (id_plan_of script) small (IsCallOf script) short ids goes k in_clients (set_up script is.setup) vs_setup s.clients is.answered (known_clients script made there range turns core is) l.of_played (plain_played script made turns core is closes k unsent) stands_set_up

  -- no response of the link came before its call began
  pub never_soon : (took : List ℕ) → TookSoFar (plan_of script) (played script is.setup (is.scheduled ++ is.later)) k took → (j : ℕ) → In (k, j) (soon_setup script made there range turns core is ++ soon_clients script made there range turns core is) → ⊥
  never_soon took t j soon = ⊎_elim (quiet_soon (plan_of script) is.setup (opened script) (k, j))
      (λ later. let s = joint_runs script turns core is made in let l = labelled script made turns core is closes in
      none_soon script small (IsCallOf script) short ids goes k shape shape_is serves in_clients (set_up script is.setup) vs_setup s.clients is.answered (known_clients script made there range turns core is) l.of_played
      (plain_played script made turns core is closes k unsent) offers.played long_set_up part_set_up stands_set_up took t j later)
      (in_two (k, j) (soon_setup script made there range turns core is) (soon_clients script made there range turns core is) soon)
