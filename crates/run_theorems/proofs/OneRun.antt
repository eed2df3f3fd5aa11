-- Two runs of a script with calls by the same lines of a schedule end in one core, where its links answered the same, one answer after another, before the ending and behind it.
use Rattle.std.proofs.Common.{◌≡◌, ℕ, zero, suc, ◌⊎◌, inl, inr, List, [], ◌∷◌, ◌++◌, replicate, ap, sym, subst, refl, ◌∙◌, append-nil}
use Rattle.sock_words.specs.declared.plain.Plan.{Plan}
use Rattle.brpc_model.specs.Items.{Item}
use Rattle.brpc_model.specs.Operations.{Turn}
use Rattle.brpc_model.specs.Report.{Report, report_text}
use Rattle.brpc_model.proofs.Unique.{only_report}
use Rattle.seat_programs.specs.Cores.{Core}
use Rattle.seat_programs.specs.Ticks.{Moment, quiet, ticked, run}
use Rattle.seat_programs.specs.ScheduledRuns.{IsAtRest, Scheduled}
use Rattle.seat_programs.specs.Tasks.{plan_of}
use Rattle.seat_programs.specs.ScriptSetupToEnding.{IsRunWithCalls, Settles, set_up, opened, played, ending, is_ending, place_words, Reports}
use Rattle.run_theorems.specs.LinkAnswers.{asked, told_in, before_ending, behind_ending}
use Rattle.run_theorems.proofs.TicksAlike.{Hears, said_on, EndAlike, one_schedule, one_settling}
use Rattle.owed_calls.specs.call_owing.proofs.EndsStill.{rest_still, run_parts}

-- ## All links as one

-- whatever a step asks is heard
all_heard : Hears (Unit {0}) (λ u. asked)
all_heard program = by_asked (asked program) refl
  where
    by_asked : (ks : List ℕ) → asked program ≡ ks → (asked program ≡ []) ⊎ ((u : Unit {0}) × (k : ℕ) × (ks : List ℕ) × (asked program ≡ k ∷ ks))
    by_asked [] e = inl e
    by_asked (k ∷ ks) e = inr (tt, k, ks, e)

-- ## Who is at rest stays so

stays : (p : Plan) (i n : ℕ) (c : Core) → IsAtRest c i → run p c (replicate n (quiet i)) ≡ c
stays p i zero c h = refl
stays p i (suc n) c h = ap (λ (d : Core). run p d (replicate n (quiet i))) (rest_still p c (quiet i) h) ∙ stays p i n c h

-- ticks of one seat, until it has no step left
pub one_rest : (p : Plan) (i n m : ℕ) (c : Core) → IsAtRest (run p c (replicate n (quiet i))) i → IsAtRest (run p c (replicate m (quiet i))) i → run p c (replicate n (quiet i)) ≡ run p c (replicate m (quiet i))
one_rest p i zero m c h k = sym (stays p i m c h)
one_rest p i (suc n) zero c h k = stays p i (suc n) c k
one_rest p i (suc n) (suc m) c h k = one_rest p i n m (ticked p c (quiet i)) h k

-- ## The run

-- from one core seat 0 makes one ending
pub one_ending : (script : List Item) (turns : List Turn) (a b : Core) (h : IsRunWithCalls script turns a) (k : IsRunWithCalls script turns b) → played script h.setup (h.scheduled ++ h.later) ≡ played script k.setup (k.scheduled ++ k.later) → h.ended ≡ k.ended
one_ending script turns a b h k same =
    let q : Plan = plan_of script in
    let c : Core = played script k.setup (k.scheduled ++ k.later) in
    let start = h.is_ended ∙ ap (λ (d : Core). is_ending (run q (ending script d) (replicate h.last (quiet 0)))) same in
    start
    ∙ ap is_ending (one_rest q 0 h.last k.last (ending script c) (subst (λ (d : Core). IsAtRest d 0) start h.is_over) (subst (λ (d : Core). IsAtRest d 0) k.is_ended k.is_over))
    ∙ sym k.is_ended

module _ (script : List Item) (turns : List Turn) (a b : Core) (h : IsRunWithCalls script turns a) (k : IsRunWithCalls script turns b) (same : before_ending h ≡ before_ending k) (same_behind : behind_ending h ≡ behind_ending k) where
  abbrev q : Plan
  q = plan_of script

  same_setup : set_up script h.setup ≡ set_up script k.setup
  same_setup = one_rest q 0 h.setup k.setup (opened script) h.is_set_up k.is_set_up

  -- the core in which both schedules begin
  abbrev begun : Core
  begun = set_up script k.setup

  same_answers : told_in q begun h.scheduled ++ told_in q (run q begun h.scheduled) h.later ≡ told_in q begun k.scheduled ++ told_in q (run q begun k.scheduled) k.later
  same_answers = sym (said_on asked q begun h.scheduled h.later) ∙ ap (λ (c : Core). told_in q c (h.scheduled ++ h.later)) (sym same_setup) ∙ same ∙ said_on asked q begun k.scheduled k.later

  by_schedule : EndAlike (Unit {0}) (λ u. asked) all_heard q begun h.scheduled k.scheduled (λ u. told_in q (run q begun h.scheduled) h.later) (λ u. told_in q (run q begun k.scheduled) k.later)
  by_schedule = one_schedule (Unit {0}) (λ u. asked) all_heard q turns begun h.scheduled k.scheduled _ _ (subst (λ (c : Core). Scheduled q c turns h.scheduled) same_setup h.by_schedule) k.by_schedule (λ u. same_answers)

  -- and that in which both end
  abbrev behind : Core
  behind = run q begun k.scheduled

  to_behind : played script h.setup h.scheduled ≡ behind
  to_behind = ap (λ (c : Core). run q c h.scheduled) same_setup ∙ by_schedule.0

  first_way : played script h.setup (h.scheduled ++ h.later) ≡ run q behind h.later
  first_way = run_parts q (set_up script h.setup) h.scheduled h.later ∙ ap (λ (c : Core). run q c h.later) to_behind

  other_way : played script k.setup (k.scheduled ++ k.later) ≡ run q behind k.later
  other_way = run_parts q begun k.scheduled k.later

  settles : (c : Core) (xs ys : List Moment) → Settles script c xs → Settles script c ys → told_in q c xs ≡ told_in q c ys → run q c xs ≡ run q c ys
  settles c xs ys s t e = (one_settling (Unit {0}) (λ u. asked) all_heard script c xs ys (λ u. []) (λ u. []) s t (λ u. append-nil (told_in q c xs) ∙ e ∙ sym (append-nil (told_in q c ys)))).0

  same_played : played script h.setup (h.scheduled ++ h.later) ≡ played script k.setup (k.scheduled ++ k.later)
  same_played = first_way
      ∙ settles behind h.later k.later (subst (λ (c : Core). Settles script c h.later) to_behind h.settles) k.settles
      (ap (λ (c : Core). told_in q c h.later) (sym by_schedule.0) ∙ by_schedule.1 tt)
      ∙ sym other_way

  same_ended : h.ended ≡ k.ended
  same_ended = one_ending script turns a b h k same_played

  pub one_run : a ≡ b
  one_run = h.is_end ∙ ap (λ (c : Core). run q c h.final) same_ended
      ∙ settles k.ended h.final k.final (subst (λ (c : Core). Settles script c h.final) same_ended h.settles_again) k.settles_again
      (ap (λ (c : Core). told_in q c h.final) (sym same_ended) ∙ same_behind)
      ∙ sym k.is_end

-- so it has one text, where the same is said of what its links took
pub one_text : (script : List Item) (turns : List Turn) (a b : Core) (x y : Report) (took : List (List ℕ)) (r : IsRunWithCalls script turns a) (s : IsRunWithCalls script turns b) →
    Reports script a took x → Reports script b took y → before_ending r ≡ before_ending s → behind_ending r ≡ behind_ending s → report_text script x ≡ report_text script y
one_text script turns a b x y took r s h k same same_behind = let p : Plan = plan_of script in
    ap (report_text script) (only_report script a.outcomes (place_words p a.words) took x y h (subst (λ (c : Core). Reports script c took y) (sym (one_run script turns a b r s same same_behind)) k))
