-- In a whole run an error with the code of the end of a reading that a client posts is that of a message that it dropped; and the reader of the socket whose code it found was behind the end of its reading before.
use Rattle.std.proofs.Common.{◌≡◌, ◌≢◌, ℕ, ◌+◌, ◌<◌, ◌≤◌, ◌⊎◌, inl, inr, ⊎_elim, List, [], ◌++◌, replicate, get_or, sym, ap, ◌∙◌, subst, arith}
use Rattle.std.specs.Prelude.{Some, slice_get}
use mathlib.Core.Logic.{dite}
use mathlib.Core.Option.{some}
use native.Mathlib.Decide.{ℕ_discrete}
use lib.ListN.{get_elem?}
use Rattle.atomic_table.proofs.Lists.{set_else}
use Rattle.seat_programs.specs.brpc_model.specs.Items.{Item}
use Rattle.seat_programs.specs.brpc_model.specs.Operations.{Turn}
use Rattle.sock_model.specs.declared.view.View.{View}
use Rattle.sock_model.specs.SocketTableLayout.{open_index}
use Rattle.corr_core.specs.IdSlotWord.{code_of}
use Rattle.seat_programs.specs.declared.task.Op.TheVariants as ops
use Rattle.seat_programs.specs.declared.task.Task.{Task}
use Rattle.seat_programs.specs.Asides.{Taking}
use Rattle.seat_programs.specs.Cores.{Core}
use Rattle.seat_programs.specs.Tasks.{opens, calls, plan_of, id_plan_of}
use Rattle.seat_programs.specs.Ticks.{Moment, AreAnswered, quiet, run}
use Rattle.seat_programs.specs.ScriptSetupToEnding.{all_tasks, opened, set_up, played, IsRunWithCalls}
use Rattle.ended_calls.specs.refused_attempts.specs.Below.programs_allowed.specs.program_steps.specs.SoundSeats.{Sound, AreFitting, views_along}
use Rattle.ended_calls.specs.refused_attempts.specs.Below.programs_allowed.specs.sock_runs.proofs.SoundAlongRuns.{seat_rests}
use Rattle.ended_calls.specs.refused_attempts.specs.Below.programs_allowed.specs.program_walks.proofs.OpensStay.{run_word}
use Rattle.ended_calls.specs.refused_attempts.specs.Below.programs_allowed.specs.program_walks.proofs.Recorded.{Recorded}
use Rattle.ended_calls.specs.refused_attempts.specs.Below.programs_allowed.specs.program_walks.proofs.WholeScriptSound.{IsListed, closing_of, views_played, views_closed, set_up_answered, end_answered, set_up_sound, closing_sound, closed_sound, closed_ahead, recorded_opened, recorded_set_up, recorded_closing, recorded_closed}
use Rattle.ended_calls.specs.refused_attempts.specs.Below.outcome_stories.specs.OperationStories.{In}
use Rattle.ended_calls.specs.refused_attempts.specs.Below.outcome_causes.proofs.PlainOutcomeCauses.{in_both}
use Rattle.ended_calls.specs.refused_attempts.specs.Below.programs_allowed.proofs.WordsAtBeginning as clients_begin
use Rattle.ended_calls.specs.refused_attempts.specs.Below.joint_runs.proofs.RunsOfBothTables.{AreMade, first_views}
use Rattle.ended_calls.specs.refused_attempts.specs.Below.call_owing.specs.LivesOfLinks.{ClosesInRun}
use Rattle.ended_calls.specs.refused_attempts.specs.Below.call_stories.specs.Decided.{posted_by, posted_behind}
use Rattle.ended_calls.specs.refused_attempts.specs.Below.call_stories.specs.PostsOfRun.{Post}
use Rattle.ended_calls.specs.refused_attempts.specs.accept_counts.specs.AttemptCounts.{AreLabelled}
use Rattle.ended_calls.specs.refused_attempts.specs.accept_counts.specs.RefusedOrDropped.{Deed, Doing, DidIn, DidEarly, DidLate, AllWouldOwn, RunWouldOwn}
use Rattle.ended_calls.specs.refused_attempts.specs.sent_once.proofs.SourcesOfSocketCodes.{Stores}
use Rattle.dropped_calls.proofs.DropEnds.{StoresThose}
use Rattle.dropped_calls.proofs.DropEndsWhole.{opened_law}
use Rattle.ended_calls.specs.refused_attempts.specs.accept_counts.proofs.EarlyClosedSockets.{Any, ends_anyhow, start, go, fitting, known}
use Rattle.ended_calls.proofs.EndedWhole.{h₃, closed_keeps}
use Rattle.dropped_calls.proofs.LateDropsCodes.{IsLife, LateLaw, late_more}
use Rattle.dropped_calls.proofs.LateDropsEnding.{IsNew}
use Rattle.dropped_calls.proofs.LateDropsRuns.{none_late, none_behind, Told, Charged, says_more, LatePost, late_post_more, InTime, With, Behind, posts_along}
use Rattle.dropped_calls.proofs.LateRests.{others_along}
use Rattle.ended_calls.specs.refused_attempts.proofs.RefusedRuns.{law_more}
use Rattle.ended_calls.specs.refused_attempts.specs.sent_once.proofs.SocketOperationsTold.{opening_bare}
use Rattle.ended_calls.specs.refused_attempts.proofs.RefusedWhole.{few_slots, Law, first_doings, Nothing, first_charges, final_doings, final_charges, closing_none}
use Rattle.ended_calls.specs.refused_attempts.specs.accept_counts.proofs.RunsKeepAttemptLaw.{AreLabelledIn, IsCallOf, Lawful_}
use Rattle.ended_calls.specs.refused_attempts.specs.accept_counts.proofs.RunsKeepAttemptLaw as labels
use Rattle.ended_calls.specs.refused_attempts.specs.accept_counts.proofs.PostSeats.{of_all}
use Rattle.ended_calls.specs.refused_attempts.specs.Below.outcome_stories.specs.Facts.{shown_in, shown_in_run}

-- the codes that clients store
abbrev pub IsNoEnd : ℕ → Type 0
IsNoEnd code = code ≢ 1014

-- that of a link that failed is one of them
pub no_end : IsNoEnd 1009
no_end e = omega (arith, e)

abbrev pub AnyLife : ℕ → ℕ → Type 0
AnyLife j h = Unit {0}

-- no link
abbrev Never : ℕ → Type 0
Never n = ⊥

module _ (script : List Item) (made : AreMade script) (turns : List Turn) (core : Core) (is : IsRunWithCalls script turns core) (closes : ClosesInRun script turns core is) (ids : ℕ → ℕ) (labelled : AreLabelledIn ids script turns core is) (would : RunWouldOwn ids script turns core is)
    (fits : (j : ℕ) (ts : List Task) → slice_get (all_tasks script) j ≡ Some ts → (t : Task) → In t ts → (name code : ℕ) → t.op ≡ ops.Fail name code → IsNoEnd code) where
  abbrev rested : Core
  rested = played script is.setup (is.scheduled ++ is.later)

  abbrev set_views : List View
  set_views = views_along (plan_of script) (opened script) (first_views script) (replicate is.setup (quiet 0))

  abbrev small : (id_plan_of script).slots ≤ 65536
  small = few_slots script made turns core is closes ids labelled would

  -- ## Words of opens, to the end

  abbrev Word : Core → ℕ → ℕ
  Word c o = get_or c.words (open_index (plan_of script) o) 0

  from_ended : (o : ℕ) → o < (plan_of script).operations → Word is.ended o ≢ 0 → Word core o ≡ Word is.ended o
  from_ended o inside some_ = ap (λ c. Word c o) is.is_end ∙ run_word (plan_of script) (IsListed script) o inside (go script made turns core is) is.ended (views_closed script turns core is (first_views script)) is.final
      (closed_sound script made.are (first_views script) (start script made turns core is) (go script made turns core is) turns core is (fitting script made turns core is)) is.answered_again (let f = fitting script made turns core is in f.of_final)
      (recorded_closed script made.are (first_views script) (start script made turns core is) (go script made turns core is) turns core is (fitting script made turns core is)) some_

  from_rested : (o : ℕ) → o < (plan_of script).operations → Word rested o ≢ 0 → Word core o ≡ Word rested o
  from_rested o inside some_ = from_ended o inside (λ z. some_ (sym stays ∙ z)) ∙ stays
    where
      stays : Word is.ended o ≡ Word rested o
      stays = ap (λ c. Word c o) is.is_ended ∙ run_word (plan_of script) (IsListed script) o inside (go script made turns core is) (closing_of script turns core is) (views_played script turns core is (first_views script)) (replicate is.last (quiet 0))
          (closing_sound script made.are (first_views script) (start script made turns core is) (go script made turns core is) turns core is (fitting script made turns core is))
          (end_answered script made.are (first_views script) (start script made turns core is) (go script made turns core is) turns core is (fitting script made turns core is)) (let f = fitting script made turns core is in f.of_closing)
          (recorded_closing script made.are (first_views script) (start script made turns core is) (go script made turns core is) turns core is (fitting script made turns core is)) some_

  from_set_up : (o : ℕ) → o < (plan_of script).operations → Word (set_up script is.setup) o ≢ 0 → Word core o ≡ Word (set_up script is.setup) o
  from_set_up o inside some_ = from_rested o inside (λ z. some_ (sym stays ∙ z)) ∙ stays
    where
      stays : Word rested o ≡ Word (set_up script is.setup) o
      stays = run_word (plan_of script) (IsListed script) o inside (go script made turns core is) (set_up script is.setup) set_views (is.scheduled ++ is.later)
          (set_up_sound script made.are (first_views script) (start script made turns core is) (go script made turns core is) turns core is (fitting script made turns core is)) is.answered (let f = fitting script made turns core is in f.of_played)
          (recorded_set_up script made.are (first_views script) (start script made turns core is) (go script made turns core is) turns core is (fitting script made turns core is)) some_

  -- ## The parts of the run

  module _ (New : ℕ → ℕ → Type 0) where
    abbrev pub LawOf : (ℕ → Type 0) → Core → List View → (ℕ → List Taking) → Type 0
    LawOf Late c ws taken = LateLaw (plan_of script) (calls script) (opens script) (let k = known script made turns core is in k.in_script) Any (Unit {0}) ends_anyhow IsNoEnd no_end core.words New Late c ws taken

    abbrev pub ChargedOf : (ℕ → Deed → Type 0) → (ℕ → Type 0) → Core → List View → List Doing → Type 0
    ChargedOf Done Late c ws ss = Charged (plan_of script) (id_plan_of script) small (IsCallOf script) ids (calls script) (opens script) (let k = known script made turns core is in k.in_script) Any (Unit {0}) ends_anyhow IsNoEnd no_end core.words New Done Late c ws ss

    abbrev pub ToldOf : (ℕ → Deed → Type 0) → (ℕ → Type 0) → ℕ → Deed → Type 0
    ToldOf Done Late = Told (plan_of script) (id_plan_of script) small (IsCallOf script) ids (calls script) (opens script) (let k = known script made turns core is in k.in_script) Any (Unit {0}) ends_anyhow IsNoEnd no_end core.words New Done Late

    abbrev pub LifeOf : ℕ → ℕ → Type 0
    LifeOf j h = IsLife (plan_of script) (calls script) (opens script) (let k = known script made turns core is in k.in_script) Any (Unit {0}) ends_anyhow IsNoEnd no_end core.words New j h

    abbrev pub PostOf : (Deed → Type 0) → (ℕ → Type 0) → Post → Type 0
    PostOf Done InTime_ x = LatePost (plan_of script) (id_plan_of script) small (IsCallOf script) ids (calls script) (opens script) (let k = known script made turns core is in k.in_script) Any (Unit {0}) ends_anyhow IsNoEnd no_end core.words New Done InTime_ x

    abbrev Part : (ℕ → Deed → Type 0) → Core → List View → List Moment → Type 0
    Part Done c ws ms = Behind (plan_of script) (id_plan_of script) small (IsCallOf script) ids (calls script) (opens script) (let k = known script made turns core is in k.in_script) Any (Unit {0}) ends_anyhow IsNoEnd no_end core.words New Done Never c ws ms

    abbrev Time : Core → List Moment → Post → ℕ → Type 0
    Time c ms x n = InTime (plan_of script) (id_plan_of script) small (IsCallOf script) ids (calls script) (opens script) (let k = known script made turns core is in k.in_script) Any (Unit {0}) ends_anyhow IsNoEnd no_end core.words New Never c ms x n

    part_goes : (ms : List Moment) (Done : ℕ → Deed → Type 0) (c : Core) (ws : List View) → Sound (plan_of script) c ws → AreAnswered (plan_of script) c ms → AreFitting (plan_of script) c ms → Recorded (plan_of script) (IsListed script) c ws
        → AreLabelled ids (plan_of script) (id_plan_of script) c ms → AllWouldOwn ids (plan_of script) c ms → Lawful_ (plan_of script) (id_plan_of script) small (IsCallOf script) ids c ws
        → ((o : ℕ) → o < (plan_of script).operations → Word (run (plan_of script) c ms) o ≢ 0 → Word core o ≡ Word (run (plan_of script) c ms) o)
        → (taken : ℕ → List Taking) → LawOf Never c ws taken → (ss : List Doing) → ChargedOf Done Never c ws ss → Part Done c ws ms
    part_goes ms Done c ws sound answered fitting_ recorded are own lawful ahead taken law ss charges = posts_along (plan_of script) (id_plan_of script) small (IsCallOf script) ids (calls script) (opens script) (let k = known script made turns core is in k.in_script) Any (Unit {0}) ends_anyhow IsNoEnd no_end core.words New
        (IsListed script) (go script made turns core is) tt ms Done Never c ws sound answered fitting_ recorded are own lawful ahead taken law ss charges

    more : (Did Done : Deed → Type 0) (Now Then : ℕ → Type 0) → ((d : Deed) → Did d → Done d) → ((n : ℕ) → Now n → Then n) → (x : Post) → PostOf Did Now x → PostOf Done Then x
    more Did Done Now Then f g x y = late_post_more (plan_of script) (id_plan_of script) small (IsCallOf script) ids (calls script) (opens script) (let k = known script made turns core is in k.in_script) Any (Unit {0}) ends_anyhow IsNoEnd no_end core.words New Did Done Now Then f g x y

    -- where nothing was done
    begins : (c : Core) (ws : List View) (ss : List Doing) → Law script made turns core is closes ids labelled would (Nothing script made turns core is closes ids labelled would) c ws ss → ChargedOf (Nothing script made turns core is closes ids labelled would) Never c ws ss
    begins c ws ss law = law_more (plan_of script) (id_plan_of script) small (IsCallOf script) ids (Nothing script made turns core is closes ids labelled would) (ToldOf (Nothing script made turns core is closes ids labelled would) Never) (λ j d z. absurd z) c ws ss law

  abbrev None : ℕ → Deed → Type 0
  None = Nothing script made turns core is closes ids labelled would

  setup_part : Part AnyLife None (opened script) (first_views script) (replicate is.setup (quiet 0))
  setup_part = part_goes AnyLife (replicate is.setup (quiet 0)) None (opened script) (first_views script) (let s = start script made turns core is in s.sound)
      (set_up_answered script made.are (first_views script) (start script made turns core is) (go script made turns core is) turns core is (fitting script made turns core is)) (let f = fitting script made turns core is in f.of_setup)
      (recorded_opened script made.are (first_views script) (start script made turns core is) (go script made turns core is) turns core is (fitting script made turns core is)) labelled.of_setup would.of_setup
      (labels.first script made.are (first_views script) (start script made turns core is) (go script made turns core is) turns core is (fitting script made turns core is) small (opening_bare script) ids labelled)
      from_set_up (λ n. [])
      (let l = opened_law script made turns core is IsNoEnd no_end fits in record { keeps = l.keeps; clients = l.clients; known = λ j h new inside even version some_. absurd (some_ ((let u = clients_begin.unused (plan_of script) in u.codes) j inside)) })
      (first_doings script made turns core is closes ids labelled would) (begins AnyLife (opened script) (first_views script) (first_doings script made turns core is closes ids labelled would) (first_charges script made turns core is closes ids labelled would))

  abbrev DidSetup : ℕ → Deed → Type 0
  DidSetup j d = None j d ⊎ DidIn (plan_of script) (opened script) (replicate is.setup (quiet 0)) j d

  clients_part : Part AnyLife DidSetup (set_up script is.setup) set_views (is.scheduled ++ is.later)
  clients_part = part_goes AnyLife (is.scheduled ++ is.later) DidSetup (set_up script is.setup) set_views
      (set_up_sound script made.are (first_views script) (start script made turns core is) (go script made turns core is) turns core is (fitting script made turns core is)) is.answered (let f = fitting script made turns core is in f.of_played)
      (recorded_set_up script made.are (first_views script) (start script made turns core is) (go script made turns core is) turns core is (fitting script made turns core is)) labelled.of_played would.of_played
      (labels.set_up_law script made.are (first_views script) (start script made turns core is) (go script made turns core is) turns core is (fitting script made turns core is) small (opening_bare script) ids labelled)
      from_rested (let s = setup_part in s.taken)
      (late_more (plan_of script) (calls script) (opens script) (let k = known script made turns core is in k.in_script) Any (Unit {0}) ends_anyhow IsNoEnd no_end core.words AnyLife Late₁ Never none_yet (set_up script is.setup) set_views (let s = setup_part in s.taken) (let s = setup_part in s.law))
      (let s = setup_part in s.doings)
      (law_more (plan_of script) (id_plan_of script) small (IsCallOf script) ids (ToldOf AnyLife DidSetup Late₁) (ToldOf AnyLife DidSetup Never)
      (λ j d t. (t.0, says_more (plan_of script) (id_plan_of script) small (IsCallOf script) ids (calls script) (opens script) (let k = known script made turns core is in k.in_script) Any (Unit {0}) ends_anyhow IsNoEnd no_end core.words AnyLife Late₁ Never none_yet d t.1))
      (set_up script is.setup) set_views (let s = setup_part in s.doings) (let s = setup_part in s.charges))
    where
      Late₁ : ℕ → Type 0
      Late₁ n = With (plan_of script) (id_plan_of script) small (IsCallOf script) ids (calls script) (opens script) (let k = known script made turns core is in k.in_script) Any (Unit {0}) ends_anyhow IsNoEnd no_end core.words AnyLife Never (opened script) (replicate is.setup (quiet 0)) n

      -- no reader makes a step in the setup
      none_yet : (n : ℕ) → Late₁ n → Never n
      none_yet n late = ⊎_elim (λ z. z) (λ e. none_late (plan_of script) n is.setup (opened script) e) late

  -- what clients store is the same where seat 0 has made the ending
  ended_stores : (j : ℕ) → j < 32 → StoresThose IsNoEnd no_end j is.ended
  ended_stores j low = dite (ℕ_discrete j 0)
      (λ first. record {
        failing = (let s = before in s.failing);
        program = λ seat at. subst (Stores (λ o code. IsNoEnd code) IsNoEnd (let s = before in s.failing))
            (sym (seat_rests is.ended (closed_ahead script made.are (first_views script) (start script made turns core is) (go script made turns core is) turns core is (fitting script made turns core is)) 0 is.is_over seat (subst (λ i. get_elem? is.ended.seats i ≡ some seat) first at))) tt;
        has = (let s = before in s.has);
      })
      (λ other. record {
        failing = (let s = before in s.failing);
        program = λ seat at. (let s = before in s.program) seat (sym (set_else rested.seats 0 j _ other)
            ∙ (sym ((others_along (plan_of script) (go script made turns core is) j 0 other is.last (closing_of script turns core is) (views_played script turns core is (first_views script))
            (closing_sound script made.are (first_views script) (start script made turns core is) (go script made turns core is) turns core is (fitting script made turns core is))
            (end_answered script made.are (first_views script) (start script made turns core is) (go script made turns core is) turns core is (fitting script made turns core is)) (let f = fitting script made turns core is in f.of_closing)).0)
            ∙ (sym (ap (λ (c : Core). get_elem? c.seats j) is.is_ended) ∙ at)));
        has = (let s = before in s.has);
      })
    where
      before : StoresThose IsNoEnd no_end j rested
      before = (let c = clients_part in let l = c.law in l.clients) j low

  final_part : Part (IsNew script made turns core is) None is.ended (views_closed script turns core is (first_views script)) is.final
  final_part = part_goes (IsNew script made turns core is) is.final None is.ended (views_closed script turns core is (first_views script))
      (closed_sound script made.are (first_views script) (start script made turns core is) (go script made turns core is) turns core is (fitting script made turns core is)) is.answered_again (let f = fitting script made turns core is in f.of_final)
      (recorded_closed script made.are (first_views script) (start script made turns core is) (go script made turns core is) turns core is (fitting script made turns core is)) labelled.of_final would.of_final
      (labels.closed_law script made.are (first_views script) (start script made turns core is) (go script made turns core is) turns core is (fitting script made turns core is) small (opening_bare script) ids labelled)
      (λ o inside some_. ap (λ c. Word c o) is.is_end) (h₃ script made turns core is)
      (record { keeps = closed_keeps script made turns core is; clients = ended_stores; known = λ j h new inside even version some_. absurd (new (omega (arith, version))) })
      (final_doings script made turns core is closes ids labelled would)
      (begins (IsNew script made turns core is) is.ended (views_closed script turns core is (first_views script)) (final_doings script made turns core is closes ids labelled would) (final_charges script made turns core is closes ids labelled would))

  -- ## All posts

  -- of the reader of link n
  abbrev pub BehindClients : Post → ℕ → Type 0
  BehindClients x n = In x (posted_behind (32 + n) (plan_of script) (set_up script is.setup) (is.scheduled ++ is.later))

  abbrev pub BehindEnding : Post → ℕ → Type 0
  BehindEnding x n = In x (posted_behind (32 + n) (plan_of script) is.ended is.final)

  -- before the run was ending, or behind that, where it is known of the lives that were made then
  pub posts_late : (j : ℕ) → j < 32 → (x : Post) → In x (shown_in_run script turns core is (posted_by j)) → code_of x.error ≡ 1014
      → PostOf AnyLife (DidEarly script turns core is j) (BehindClients x) x ⊎ PostOf (IsNew script made turns core is) (DidLate script turns core is j) (BehindEnding x) x
  posts_late j low x at code = ⊎_elim
      (λ a. inl (more AnyLife (DidSetup j) (DidEarly script turns core is j) (Time AnyLife (opened script) (replicate is.setup (quiet 0)) x) (BehindClients x) (λ d. ⊎_elim (λ z. absurd z) (λ y. inl y))
      (λ n. ⊎_elim (λ z. absurd z.0) (λ z. absurd (none_behind (plan_of script) n is.setup (opened script) x z))) x ((let s = setup_part in s.posts) j low x a code)))
      (λ rest. ⊎_elim
      (λ a. inl (more AnyLife (λ d. DidSetup j d ⊎ DidIn (plan_of script) (set_up script is.setup) (is.scheduled ++ is.later) j d) (DidEarly script turns core is j) (Time AnyLife (set_up script is.setup) (is.scheduled ++ is.later) x) (BehindClients x)
      (λ d. ⊎_elim (λ z. ⊎_elim (λ w. absurd w) (λ y. inl y) z) (λ y. inr y)) (λ n. ⊎_elim (λ z. absurd z.0) (λ z. z)) x ((let s = clients_part in s.posts) j low x a code)))
      (λ rest. ⊎_elim
      (λ a. absurd (closing_none script made turns core is closes ids labelled would x (of_all j (plan_of script) (replicate is.last (quiet 0)) (closing_of script turns core is) x a)))
      (λ a. inr (more (IsNew script made turns core is) (λ d. None j d ⊎ DidIn (plan_of script) is.ended is.final j d) (DidLate script turns core is j) (Time (IsNew script made turns core is) is.ended is.final x) (BehindEnding x) (λ d. ⊎_elim (λ z. absurd z) (λ y. y))
      (λ n. ⊎_elim (λ z. absurd z.0) (λ z. z)) x ((let s = final_part in s.posts) j low x a code)))
      (in_both (shown_in (posted_by j) (plan_of script) (closing_of script turns core is) (replicate is.last (quiet 0))) (shown_in (posted_by j) (plan_of script) is.ended is.final) x rest))
      (in_both (shown_in (posted_by j) (plan_of script) (set_up script is.setup) (is.scheduled ++ is.later)) _ x rest))
      (in_both (shown_in (posted_by j) (plan_of script) (opened script) (replicate is.setup (quiet 0))) _ x at)
