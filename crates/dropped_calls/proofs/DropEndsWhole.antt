-- A code of a life that was found in the run, and that clients and the ending may not store, is that of the reader of its link, by how the reading of the link ended.
use Rattle.std.proofs.Common.{◌≡◌, ◌≢◌, ℕ, ◌-◌, ◌<◌, inl, inr, ⊎_elim, List, [], ◌∷◌, ◌++◌, length, get_or, refl, sym, ap, ◌∙◌, subst, arith}
use Rattle.std.specs.Prelude.{Some, slice_get}
use Rattle.std.specs.List.{AllByRecursion}
use mathlib.Core.Logic.{dite}
use mathlib.Core.Option.{some}
use native.Mathlib.Decide.{ℕ_discrete}
use lib.ListN.{get_elem?}
use Rattle.atomic_table.proofs.Lists.{at_set}
use Rattle.seat_programs.specs.brpc_model.specs.Items.{Item}
use Rattle.seat_programs.specs.brpc_model.specs.Operations.{Turn}
use Rattle.sock_model.specs.declared.view.View.{View}
use Rattle.sock_model.specs.SocketTableLayout.{open_index}
use Rattle.seat_programs.specs.declared.task.Op.{Op}
use Rattle.seat_programs.specs.declared.task.Op.TheVariants as ops
use Rattle.seat_programs.specs.declared.task.Task.{Task}
use Rattle.seat_programs.specs.declared.task.Sizes.{Sizes}
use Rattle.seat_programs.specs.Asides.{Taking}
use Rattle.seat_programs.specs.TableSteps.{OnSlot, LoadCode}
use Rattle.seat_programs.specs.ClientProgram.{client_from, ending_of}
use Rattle.seat_programs.specs.Cores.{Core, SeatState, resolved, waiting_at, next_step}
use Rattle.seat_programs.specs.LoopHeads.{Retry}
use Rattle.seat_programs.specs.Programs.{Program}
use Rattle.seat_programs.specs.Tasks.{opens, calls, plan_of, id_plan_of}
use Rattle.seat_programs.specs.Ticks.{Moment, run}
use Rattle.seat_programs.specs.ScriptSetupToEnding.{sizes_of, programs, readers_from, all_programs, all_tasks, opened, set_up, played, is_ending, IsRunWithCalls}
use Rattle.ended_calls.specs.refused_attempts.specs.Below.programs_allowed.specs.program_steps.specs.SoundSeats.{views_along}
use Rattle.ended_calls.specs.refused_attempts.specs.Below.programs_allowed.specs.program_walks.proofs.OpenedLivesRecorded.{mapped}
use Rattle.ended_calls.specs.refused_attempts.specs.Below.programs_allowed.specs.program_walks.proofs.WholeScriptSound.{IsListed, closing_of, rested_of, views_played, views_closed, set_up_answered, end_answered, set_up_sound, closing_sound, closed_sound, recorded_opened, recorded_set_up, recorded_closing, recorded_closed}
use Rattle.ended_calls.specs.refused_attempts.specs.Below.outcome_stories.specs.OperationStories.{In}
use Rattle.ended_calls.specs.refused_attempts.specs.Below.programs_allowed.proofs.WordsAtBeginning as clients_begin
use Rattle.ended_calls.specs.refused_attempts.specs.Below.joint_runs.proofs.RunsOfBothTables.{AreMade, first_views}
use Rattle.ended_calls.specs.refused_attempts.specs.accept_counts.specs.RefusedOrDropped.{DidStep, DidEarly, DidInRun}
use Rattle.ended_calls.specs.refused_attempts.specs.sent_once.proofs.SourcesOfSocketCodes.{NoFail, Stores, OwnsFail, client_codes, ending_codes, codes_next}
use Rattle.dropped_calls.proofs.DropEnds.{StoresThose, EndsLaw, EndsAlong, Whose, ends_along}
use Rattle.ended_calls.specs.refused_attempts.specs.accept_counts.proofs.EarlyClosedSockets.{Any, ends_anyhow, start, go, fitting, known, before_readers}
use Rattle.ended_calls.specs.refused_attempts.specs.Below.call_stories.proofs.RunTicks.{in_setup, in_clients, in_closing}
use Rattle.ended_calls.proofs.EndedWhole.{opened_keeps, closing_keeps, h₁, h₂, h₃, h₄}
use Rattle.ended_calls.specs.refused_attempts.specs.Below.owned_ids.proofs.OpensStored.{place_at}

module _ (script : List Item) (made : AreMade script) (turns : List Turn) (core : Core) (is : IsRunWithCalls script turns core) (P : ℕ → Type 0) (gone : P 1009)
    (fits : (j : ℕ) (ts : List Task) → slice_get (all_tasks script) j ≡ Some ts → (t : Task) → In t ts → (name code : ℕ) → t.op ≡ ops.Fail name code → P code) where
  abbrev pub L : Core → List View → (ℕ → List Taking) → Type 0
  L c ws h = EndsLaw (plan_of script) (calls script) (opens script) (let k = known script made turns core is in k.in_script) Any (Unit {0}) ends_anyhow P gone c ws h

  abbrev pub WhoseIn : Core → (ℕ → List Taking) → ℕ → ℕ → ℕ → Type 0
  WhoseIn c h i v code = Whose (plan_of script) (calls script) (opens script) (let k = known script made turns core is in k.in_script) Any (Unit {0}) ends_anyhow P gone c h i v code

  -- ## The beginning

  owns_fail : (j : ℕ) (ts : List Task) → slice_get (all_tasks script) j ≡ Some ts → (t : Task) → In t ts → OwnsFail (λ o code. P code) P gone t.number t.op
  owns_fail j ts at t there = by t.op refl
    where
      by : (op : Op) → t.op ≡ op → OwnsFail (λ o code. P code) P gone t.number op
      by (ops.Fail name code) is_ = fits j ts at t there name code is_
      by _ is_ = tt

  all_of : (Q : Task → Type 0) (ts : List Task) → ((t : Task) → In t ts → Q t) → AllByRecursion Q ts
  all_of Q [] f = tt
  all_of Q (t ∷ ts) f = (f t (inl refl), all_of Q ts (λ u m. f u (inr m)))

  abbrev first : List Program
  first = programs (sizes_of (plan_of script) (id_plan_of script)) (all_tasks script)

  program_codes : (j : ℕ) (x : Program) → j < 32 → get_elem? (all_programs first (readers_from (calls script) 0 (opens script))) j ≡ some x → Stores (λ o code. P code) P NoFail x
  program_codes j x low at = ⊎_elim
      (λ a. let sizes : Sizes = sizes_of (plan_of script) (id_plan_of script) in let t = mapped (client_from sizes []) (all_tasks script) j x a in
      subst (Stores (λ o code. P code) P NoFail) t.2 (client_codes (λ o code. P code) P gone sizes t.0 [] (all_of (λ (u : Task). OwnsFail (λ o code. P code) P gone u.number u.op) t.0 (owns_fail j t.0 (place_at (all_tasks script) j t.0 t.1)))))
      (λ e. subst (Stores (λ o code. P code) P NoFail) (sym e) tt)
      (before_readers first (32 - length first) (readers_from (calls script) 0 (opens script)) j x (omega (arith, low)) at)

  none_next : (ws : List Retry) (x : Program) → Stores (λ o code. P code) P NoFail x → Stores (λ o code. P code) P NoFail (next_step (resolved ws x))
  none_next ws x stores = let r = codes_next (λ o code. P code) P gone NoFail ws x stores in subst (λ g. Stores (λ o code. P code) P g (next_step (resolved ws x))) (⊎_elim (λ e. e.0) (λ e. e) r.1) r.2

  pub opened_law : L (opened script) (first_views script) (λ n. [])
  opened_law = record {
    keeps = opened_keeps script made turns core is;
    clients = λ j low. record {
      failing = NoFail;
      program = λ seat at. let x = mapped (λ (x : Program). record { program = next_step (resolved [] x); hand = [] }) (all_programs first (readers_from (calls script) 0 (opens script))) j seat at in
          subst (λ (s : SeatState). Stores (λ o code. P code) P NoFail s.program) x.2 (none_next [] x.0 (program_codes j x.0 low x.1));
      has = tt;
    };
    known = λ j h inside even version some_. absurd (some_ ((let u = clients_begin.unused (plan_of script) in u.codes) j inside));
  }

  -- ## The parts of the run

  -- it is so with other seats too
  same_words : (c d : Core) → c.words ≡ d.words → (h : ℕ → List Taking) (j g code : ℕ) → WhoseIn c h j g code → WhoseIn d h j g code
  same_words c d e h j g code (inl x) = inl x
  same_words c d e h j g code (inr x) = inr (record {
    link = x.link;
    operation = x.operation;
    id = x.id;
    at = x.at;
    word = ap (λ ws. get_or ws (open_index (plan_of script) x.operation) 0) (sym e) ∙ x.word;
    socket = λ z. x.socket (ap (λ ws. get_or ws (open_index (plan_of script) x.operation) 0) e ∙ z);
    slot = x.slot;
    version = x.version;
    codes = x.codes;
  })

  abbrev A : Core → List View → (ℕ → List Taking) → List Moment → Type 0
  A c ws h ms = EndsAlong (plan_of script) (calls script) (opens script) (let k = known script made turns core is in k.in_script) Any (Unit {0}) ends_anyhow P gone (IsListed script) (go script made turns core is) c ws h ms

  setup_goes : A (opened script) (first_views script) (λ n. []) (in_setup is)
  setup_goes = ends_along (plan_of script) (calls script) (opens script) (let k = known script made turns core is in k.in_script) Any (Unit {0}) ends_anyhow P gone (IsListed script) (go script made turns core is) (in_setup is) (opened script) (first_views script) (λ n. [])
      (let s = start script made turns core is in s.sound) (set_up_answered script made.are (first_views script) (start script made turns core is) (go script made turns core is) turns core is (fitting script made turns core is)) (let f = fitting script made turns core is in f.of_setup)
      (recorded_opened script made.are (first_views script) (start script made turns core is) (go script made turns core is) turns core is (fitting script made turns core is)) tt opened_law

  clients_go : A (set_up script is.setup) (views_along (plan_of script) (opened script) (first_views script) (in_setup is)) (h₁ script made turns core is) (in_clients is)
  clients_go = ends_along (plan_of script) (calls script) (opens script) (let k = known script made turns core is in k.in_script) Any (Unit {0}) ends_anyhow P gone (IsListed script) (go script made turns core is) (in_clients is) (set_up script is.setup)
      (views_along (plan_of script) (opened script) (first_views script) (in_setup is)) (h₁ script made turns core is)
      (set_up_sound script made.are (first_views script) (start script made turns core is) (go script made turns core is) turns core is (fitting script made turns core is)) is.answered (let f = fitting script made turns core is in f.of_played)
      (recorded_set_up script made.are (first_views script) (start script made turns core is) (go script made turns core is) turns core is (fitting script made turns core is)) tt setup_goes.after

  -- whose a code is that was found before the ending
  pub whose_early : (seat i v code : ℕ) → DidEarly script turns core is seat (DidStep (OnSlot (LoadCode i v)) code) → code ≢ 0 → WhoseIn (rested_of script turns core is) (h₂ script made turns core is) i v code
  whose_early seat i v code (inl d) some_ = clients_go.stay i v code (setup_goes.told seat i v code d some_)
  whose_early seat i v code (inr d) some_ = clients_go.told seat i v code d some_

  -- ## The ending

  module _ (over : P 1014) where
    closing_law : L (closing_of script turns core is) (views_played script turns core is (first_views script)) (h₂ script made turns core is)
    closing_law = let l = clients_go.after in record {
      keeps = closing_keeps script made turns core is;
      clients = λ j low. dite (ℕ_discrete j 0) (λ e. subst (λ n. StoresThose P gone n (closing_of script turns core is)) (sym e) here) (λ ne. record {
        failing = (l.clients j low).failing;
        program = λ seat at. ⊎_elim (λ b. absurd (ne b.0)) (λ b. (l.clients j low).program seat b.1) (at_set (rested_of script turns core is).seats 0 j _ seat at);
        has = (l.clients j low).has;
      });
      known = λ j h inside even version some_. same_words (rested_of script turns core is) (closing_of script turns core is) refl (h₂ script made turns core is) j h _ (l.known j h inside even version some_);
    }
      where
        here : StoresThose P gone 0 (closing_of script turns core is)
        here = record {
          failing = NoFail;
          program = λ seat at. ⊎_elim (λ b. subst (λ (z : SeatState). Stores (λ o code. P code) P NoFail z.program) b.1 (none_next (waiting_at (rested_of script turns core is).calls.waiting 0) (ending_of (opens script)) (ending_codes (λ o code. P code) P gone over (opens script))))
              (λ b. absurd (b.0 refl)) (at_set (rested_of script turns core is).seats 0 0 _ seat at);
          has = tt;
        }

    closing_goes : A (closing_of script turns core is) (views_played script turns core is (first_views script)) (h₂ script made turns core is) (in_closing is)
    closing_goes = ends_along (plan_of script) (calls script) (opens script) (let k = known script made turns core is in k.in_script) Any (Unit {0}) ends_anyhow P gone (IsListed script) (go script made turns core is) (in_closing is) (closing_of script turns core is)
        (views_played script turns core is (first_views script)) (h₂ script made turns core is)
        (closing_sound script made.are (first_views script) (start script made turns core is) (go script made turns core is) turns core is (fitting script made turns core is))
        (end_answered script made.are (first_views script) (start script made turns core is) (go script made turns core is) turns core is (fitting script made turns core is)) (let f = fitting script made turns core is in f.of_closing)
        (recorded_closing script made.are (first_views script) (start script made turns core is) (go script made turns core is) turns core is (fitting script made turns core is)) tt closing_law

    on_law : (c : Core) (ws : List View) (h : ℕ → List Taking) → L c ws h → L (is_ending c) ws h
    on_law c ws h l = record {
      keeps = (let k = l.keeps in record { readers = k.readers; clients = k.clients; many = k.many });
      clients = λ j low. record { failing = (l.clients j low).failing; program = (l.clients j low).program; has = (l.clients j low).has };
      known = λ j g inside even version some_. same_words c (is_ending c) refl h j g _ (l.known j g inside even version some_);
    }

    ended_law : L is.ended (views_closed script turns core is (first_views script)) (h₃ script made turns core is)
    ended_law = subst (λ c. L c (views_closed script turns core is (first_views script)) (h₃ script made turns core is)) (sym is.is_ended)
        (on_law (run (plan_of script) (closing_of script turns core is) (in_closing is)) (views_closed script turns core is (first_views script)) (h₃ script made turns core is) closing_goes.after)

    final_goes : A is.ended (views_closed script turns core is (first_views script)) (h₃ script made turns core is) is.final
    final_goes = ends_along (plan_of script) (calls script) (opens script) (let k = known script made turns core is in k.in_script) Any (Unit {0}) ends_anyhow P gone (IsListed script) (go script made turns core is) is.final is.ended
        (views_closed script turns core is (first_views script)) (h₃ script made turns core is)
        (closed_sound script made.are (first_views script) (start script made turns core is) (go script made turns core is) turns core is (fitting script made turns core is)) is.answered_again (let f = fitting script made turns core is in f.of_final)
        (recorded_closed script made.are (first_views script) (start script made turns core is) (go script made turns core is) turns core is (fitting script made turns core is)) tt ended_law

    -- ## The end

    at_end : (i v code : ℕ) → WhoseIn is.ended (h₃ script made turns core is) i v code → WhoseIn core (h₄ script made turns core is) i v code
    at_end i v code w = subst (λ c. WhoseIn c (h₄ script made turns core is) i v code) (sym is.is_end) (final_goes.stay i v code w)

    at_closed : (i v code : ℕ) → WhoseIn (run (plan_of script) (closing_of script turns core is) (in_closing is)) (h₃ script made turns core is) i v code → WhoseIn core (h₄ script made turns core is) i v code
    at_closed i v code w = at_end i v code (same_words (run (plan_of script) (closing_of script turns core is) (in_closing is)) is.ended (ap (λ (c : Core). c.words) (sym is.is_ended)) (h₃ script made turns core is) i v code w)

    at_rested : (i v code : ℕ) → WhoseIn (played script is.setup (is.scheduled ++ is.later)) (h₂ script made turns core is) i v code → WhoseIn core (h₄ script made turns core is) i v code
    at_rested i v code w = at_closed i v code (closing_goes.stay i v code (same_words (played script is.setup (is.scheduled ++ is.later)) (closing_of script turns core is) refl (h₂ script made turns core is) i v code w))

    -- whose a code is that was found at any time of the run
    pub whose_of_run : (seat i v code : ℕ) → DidInRun script turns core is seat (DidStep (OnSlot (LoadCode i v)) code) → code ≢ 0 → WhoseIn core (h₄ script made turns core is) i v code
    whose_of_run seat i v code (inl d) some_ = at_rested i v code (whose_early seat i v code d some_)
    whose_of_run seat i v code (inr (inl d)) some_ = at_closed i v code (closing_goes.told seat i v code d some_)
    whose_of_run seat i v code (inr (inr d)) some_ = subst (λ c. WhoseIn c (h₄ script made turns core is) i v code) (sym is.is_end) (final_goes.told seat i v code d some_)
