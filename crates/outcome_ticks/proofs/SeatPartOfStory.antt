-- What a step makes of a seat's part of the story.
use Rattle.std.proofs.Common.{◌≡◌, ◌≢◌, ℕ, ◌+◌, ◌<◌, ◌≤◌, ◌⊎◌, Bool, true, false, List, [], ◌∷◌, ◌++◌, length, set, length-set, inl, inr, ⊎_elim, sym, refl, ap, ◌∙◌, subst, arith}
use Rattle.std.specs.Prelude.{Option, Some, None, slice_get}
use Rattle.std.specs.List.{AllByRecursion}
use Rattle.brpc_model.specs.Order.{EachBefore}
use Rattle.sock_words.specs.PackedWords.{socket_id_version, socket_id_slot}
use Rattle.sock_words.specs.declared.plain.Plan.{Plan}
use Rattle.sock_words.specs.declared.outcome.Outcome.{Outcome}
use Rattle.sock_model.specs.declared.chain.Claim.{Claim}
use Rattle.sock_model.specs.declared.chain.Entry as chain
use Rattle.sock_model.specs.declared.view.View.{View}
use Rattle.sock_model.specs.MarkWeights.{is_hold, is_linked}
use Rattle.sock_model.specs.SlotRows.{marks_of}
use Rattle.seat_programs.specs.declared.task.Task.{Task}
use Rattle.seat_programs.specs.TableSteps.{TableStep, OnSlot, FindLink}
use Rattle.seat_programs.specs.Programs.{Program, Do, Say, Sent, Rest, TakeMessage, TakeHome, PutHome, PutBytes, AskReady, Write, Aside, Round, Keep, Retries}
use Rattle.seat_programs.specs.LoopHeads.{Retry}
use Rattle.seat_programs.specs.CallAndRetryPrograms.{retry}
use Rattle.seat_programs.specs.Cores.{resolved, said, next_step}
use Rattle.outcome_stories.specs.OperationStories.{Entry, Event, In, trace_of, trace_now, told_of, added_by, marked}
use Rattle.outcome_stories.specs.Explains.{Way, Own, Beside, Closing, IsTasked, IsBare, Done, IsExplainedBy, Tells, Explains, ExplainsBy, holds, swapped, step}
use Rattle.outcome_stories.specs.StoryStepCauses.{WasGiven}
use Rattle.outcome_stories.specs.KeptStory.{IsOfCall, of_sends, IsTraced, undo, AreKept, IsOfTask, EndsIn, AreMade, AreMadeNow, AreClaims, SeatAt, SeatStory}
use Rattle.outcome_stories.proofs.Members.{all_in, all_of, get_set_here, get_set_else, trace_here, trace_client, trace_number, trace_none}
use Rattle.outcome_ticks.proofs.SendingExplained.{Within}
use Rattle.outcome_ticks.proofs.BrokenLinksAdded.{explains_more}
use Rattle.outcome_ticks.proofs.SilentAttemptSteps.{retry_goes}

abbrev pub Less : Task → Task → Type 0
Less a b = a.number < b.number

-- ## Tasks done and to do

pub undo_todo : (R : Task → Task → Type 0) (done : List Done) (todo : List Task) → EachBefore R (undo done todo) → EachBefore R todo
undo_todo R [] todo h = h
undo_todo R (d ∷ ds) todo h = (undo_todo R ds (d.task ∷ todo) h).1

-- each that is done stands before each that is to do
pub undo_before : (R : Task → Task → Type 0) (done : List Done) (todo : List Task) → EachBefore R (undo done todo) → AllByRecursion (λ (d : Done). AllByRecursion (R d.task) todo) done
undo_before R [] todo h = tt
undo_before R (d ∷ ds) todo h = ((undo_todo R ds (d.task ∷ todo) h).0, all_of (λ (x : Done). AllByRecursion (R x.task) todo) ds (λ x m. (all_in (λ (x : Done). AllByRecursion (R x.task) (d.task ∷ todo)) ds x (undo_before R ds (d.task ∷ todo) h) m).1))

pub undo_in : (done : List Done) (todo : List Task) (t : Task) → In t todo → In t (undo done todo)
undo_in [] todo t m = m
undo_in (d ∷ ds) todo t m = undo_in ds (d.task ∷ todo) t (inr m)

pub undo_done : (done : List Done) (todo : List Task) (d : Done) → In d done → In d.task (undo done todo)
undo_done [] todo d m = absurd m
undo_done (x ∷ ds) todo d (inl e) = undo_in ds (x.task ∷ todo) d.task (inl (ap (λ (y : Done). y.task) e))
undo_done (x ∷ ds) todo d (inr m) = undo_done ds (x.task ∷ todo) d m

-- a task is done or still to do
pub from_undo : (done : List Done) (todo : List Task) (t : Task) → In t (undo done todo) → ((x : Done) × In x done × (x.task ≡ t)) ⊎ In t todo
from_undo [] todo t m = inr m
from_undo (d ∷ ds) todo t m = ⊎_elim (λ h. inl (h.0, inr h.1, h.2)) (λ h. ⊎_elim (λ e. inl (d, inl refl, sym e)) (λ n. inr n) h) (from_undo ds (d.task ∷ todo) t m)

-- ## What is said

pub length_said : (q : Program) (os : List (Option Outcome)) → length (said q os) ≡ length os
length_said (Say o outcome more) os = length_said more (set os o (Some outcome)) ∙ length-set os o (Some outcome)
length_said (Sent o more) os = length_said more os
length_said _ os = refl

-- other operations keep their outcomes, where each retry that waits is tried first
pub said_else : (slots requests : ℕ) (calls : ℕ → Type 0) (w : Way) (ws : List Retry) (q : Program) (broken : List ℕ) (done : List Done) (trace : List Entry) (todo : List Task) (os : List (Option Outcome)) (j : ℕ) → ExplainsBy slots requests calls w broken done trace todo q
    → (calls j → ⊥) → AllByRecursion (λ (t : Task). t.number ≢ j) todo → slice_get (said (resolved ws q) os) j ≡ slice_get os j
said_else slots requests calls Own ws (Say o outcome more) broken done trace [] os j x never h = said_else slots requests calls Own ws more broken done trace [] (set os o (Some outcome)) j x.1 never h ∙ get_set_else os o j (Some outcome) (λ e. never (subst calls e x.0))
said_else slots requests calls Own ws (Say o outcome more) broken done trace (t ∷ ts) os j (inl x) never h = said_else slots requests calls Own ws more broken (record { task = t; outcome = Some outcome } ∷ done) [] ts (set os o (Some outcome)) j x.3 never h.1
    ∙ get_set_else os o j (Some outcome) (λ e. h.0 (sym x.0 ∙ e))
said_else slots requests calls Own ws (Say o outcome more) broken done trace (t ∷ ts) os j (inr x) never h = said_else slots requests calls Own ws more broken done trace (t ∷ ts) (set os o (Some outcome)) j x.1 never h ∙ get_set_else os o j (Some outcome) (λ e. never (subst calls e x.0))
said_else slots requests calls Beside ws (Say o outcome more) broken done trace todo os j x never h = said_else slots requests calls Beside ws more broken done trace todo (set os o (Some outcome)) j x.1 never h ∙ get_set_else os o j (Some outcome) (λ e. never (subst calls e x.0))
said_else slots requests calls Closing ws (Say o outcome more) broken done trace todo os j x never h = said_else slots requests calls Closing ws more broken done trace todo (set os o (Some outcome)) j x.1 never h ∙ get_set_else os o j (Some outcome) (λ e. never (subst calls e x.0))
said_else slots requests calls Own ws (Sent o more) broken done trace [] os j x never h = absurd x
said_else slots requests calls Own ws (Sent o more) broken done trace (t ∷ ts) os j x never h = said_else slots requests calls Own ws more broken (record { task = t; outcome = None } ∷ done) [] ts os j x.3 never h.1
said_else slots requests calls Beside ws (Sent o more) broken done trace todo os j x never h = absurd x
said_else slots requests calls Closing ws (Sent o more) broken done trace todo os j x never h = absurd x
said_else slots requests calls w ws (Keep r next) broken done trace todo os j x never h = said_else slots requests calls w (ws ++ r ∷ []) next broken done trace todo os j x never h
said_else slots requests calls w [] (Retries n after) broken done trace todo os j x never h = said_else slots requests calls x.1.0 [] after broken done [] todo os j x.1.2 never h
said_else slots requests calls w (r ∷ ws) (Retries n after) broken done trace todo os j x never h = refl
said_else slots requests calls w ws _ broken done trace todo os j x never h = refl

nothing_now : (c : ℕ) (es : List Event) (t : Task) (todo : List Task) → AllByRecursion (Less t) todo → ((e : Event) → In e es → e.client ≡ c → e.number ≤ t.number) → trace_now c todo es ≡ []
nothing_now c es t [] after past = refl
nothing_now c es t (u ∷ us) after past = trace_none c u.number es (λ e m p q. omega (arith, after.0, past e m p))

-- no step is made for the next task yet
pub no_claims : (es : List Event) (claims : List Claim) → AreClaims es [] claims
no_claims es claims = record { new = λ x id q found before a b. absurd (cc); filled = λ x id q found word heading bytes before a b. absurd (cc); marked = λ x id q found word next heading bytes before a b. absurd (cc) }

-- the messages of the tasks done, before the next task
made_next : (es : List Event) (c : ℕ) (done : List Done) (todo : List Task) (made : List chain.Entry) → trace_now c todo es ≡ [] → AreMade es c done made → AreMadeNow es c done todo made
made_next es c done [] made none_ m = m
made_next es c done (t ∷ ts) made none_ m = (made, subst (λ z. EndsIn es c t made made (swapped z)) (sym none_) refl, m)

-- where retries come next no step is made for the next task
idle_of : (w : Way) (trace : List Entry) (c : ℕ) (todo : List Task) (es : List Event) → IsTraced w trace c todo es → IsBare w trace → trace_now c todo es ≡ []
idle_of Own trace c todo es t bare = sym t ∙ bare
idle_of Beside trace c todo es t bare = t
idle_of Closing trace c todo es t bare = t.1

starts : (w : Way) (c : ℕ) (todo : List Task) (es : List Event) → IsTasked w → trace_now c todo es ≡ [] → IsTraced w [] c todo es
starts Own c todo es is idle = sym idle
starts Beside c todo es is idle = idle
starts Closing c todo es is idle = absurd is

-- where the steps are the same: by another program, in another view, and with other outcomes and links of which what is said of the seat's tasks holds
pub keeps : {p : Plan} {calls : ℕ → Type 0} {over : Bool} {es : List Event} {broken more : List ℕ} {os os' : List (Option Outcome)} {c : ℕ} {tasks : List Task} {way : Way} {trace : List Entry} {done : List Done} {todo : List Task} {program next : Program} {v w : View}
    → AllByRecursion (λ (y : Done). slice_get os' y.task.number ≡ Some y.outcome) done → AllByRecursion (λ (u : Task). slice_get os' u.number ≡ Some None) todo → ExplainsBy p.slots p.requests calls way more done trace todo next
    → ((i h : ℕ) → holds i h trace ≤ marks_of (is_hold h) i w) → AreClaims es trace w.claims → w.lists ≡ v.lists → SeatAt p calls over es broken os c tasks way trace done todo program v → SeatAt p calls over es more os' c tasks way trace done todo next w
keeps became unsaid explains holding claims lists s = record { set_up = s.set_up; closes = s.closes; traced = s.traced; all = s.all; became = became; unsaid = unsaid; kept = s.kept; past = s.past; explains = explains; holding = holding; linked = s.linked; claims = claims; made = s.made; lists = lists ∙ s.lists; are_made = s.are_made; of_calls = s.of_calls }

module _ (p : Plan) (calls : ℕ → Type 0) (over : Bool) (es : List Event) (broken : List ℕ) (c : ℕ) (tasks : List Task) (order : EachBefore Less tasks) (apart : (t : Task) → In t tasks → calls t.number → ⊥) (v : View) where
  -- the seat's part of the story, where its outcomes are these
  abbrev At : Way → List Entry → List (Option Outcome) → List Done → List Task → Program → Type 0
  At way trace os done todo program = SeatAt p calls over es broken os c tasks way trace done todo program v

  -- the task at hand is done, with this outcome or none
  module _ (outcome : Option Outcome) (os os' : List (Option Outcome)) (trace : List Entry) (done : List Done) (t : Task) (ts : List Task) (program more : Program) (s : SeatAt p calls over es broken os c tasks Own trace done (t ∷ ts) program v)
      (explained : IsExplainedBy p.slots p.requests done trace t.op outcome × AllByRecursion (Tells t.op outcome) trace)
      (here : slice_get os' t.number ≡ Some outcome) (others : (j : ℕ) → t.number ≢ j → slice_get os' j ≡ slice_get os j)
      (explains : Explains p.slots p.requests calls broken (record { task = t; outcome = outcome } ∷ done) [] ts more) where
    abbrev d : Done
    d = record { task = t; outcome = outcome }

    task_done : SeatAt p calls over es broken os' c tasks Own [] (d ∷ done) ts more v
    task_done = let sorted : EachBefore Less (undo done (t ∷ ts)) = subst (EachBefore Less) s.all order in
        let before = undo_before Less done (t ∷ ts) sorted in let later = (undo_todo Less done (t ∷ ts) sorted).0 in
        let none_ = nothing_now c es t ts later (λ e m p. (s.past e m p).0) in record {
          set_up = λ is zero_. let a : t ∷ ts ≡ [] = s.set_up is zero_ in absurd (cc);
          closes = λ e. absurd (cc);
          traced = sym none_;
          all = s.all;
          became = (
            here,
            all_of (λ (y : Done). slice_get os' y.task.number ≡ Some y.outcome) done (λ y m. others y.task.number (λ e. let a = (all_in (λ (z : Done). AllByRecursion (Less z.task) (t ∷ ts)) done y before m).0 in omega (arith, e, a))
                ∙ all_in (λ (y : Done). slice_get os y.task.number ≡ Some y.outcome) done y s.became m),
          );
          unsaid = all_of (λ (u : Task). slice_get os' u.number ≡ Some None) ts (λ u m. others u.number (λ e. let a = all_in (Less t) ts u later m in omega (arith, e, a)) ∙ all_in (λ (u : Task). slice_get os u.number ≡ Some None) ts u s.unsaid.1 m);
          kept = (subst (λ z. IsExplainedBy p.slots p.requests done z t.op outcome) s.traced explained.0, subst (AllByRecursion (Tells t.op outcome)) s.traced explained.1, s.kept);
          past = λ e m p. (s.past e m p).1;
          explains = explains;
          holding = λ i h. omega arith;
          linked = λ i h k m. absurd m;
          claims = no_claims es v.claims;
          made = s.made;
          lists = s.lists;
          are_made = made_next es c (d ∷ done) ts (of_sends s.made) none_ s.are_made;
          of_calls = s.of_calls;
        }

  -- something is said of a call, which is none of the tasks
  call_done : (way : Way) (trace : List Entry) (os : List (Option Outcome)) (done : List Done) (todo : List Task) (o : ℕ) (outcome : Outcome) (program more : Program) → calls o → ExplainsBy p.slots p.requests calls way broken done trace todo more
      → At way trace os done todo program → At way trace (set os o (Some outcome)) done todo more
  call_done way trace os done todo o outcome program more of_call explains s = let stays = λ (t : Task) (m : In t (undo done todo)). get_set_else os o t.number (Some outcome) (λ e. apart t (subst (In t) (sym s.all) m) (subst calls e of_call)) in
      keeps (all_of (λ (y : Done). slice_get (set os o (Some outcome)) y.task.number ≡ Some y.outcome) done (λ y m. stays y.task (undo_done done todo y m) ∙ all_in (λ (y : Done). slice_get os y.task.number ≡ Some y.outcome) done y s.became m))
      (all_of (λ (u : Task). slice_get (set os o (Some outcome)) u.number ≡ Some None) todo (λ u m. stays u (undo_in done todo u m) ∙ all_in (λ (u : Task). slice_get os u.number ≡ Some None) todo u s.unsaid m)) explains s.holding s.claims refl s

  -- the same tasks by another program
  goes_on : (way : Way) (trace : List Entry) (os : List (Option Outcome)) (done : List Done) (todo : List Task) (program next : Program) → ExplainsBy p.slots p.requests calls way broken done trace todo next → At way trace os done todo program → At way trace os done todo next
  goes_on way trace os done todo program next explains s = keeps s.became s.unsaid explains s.holding s.claims refl s

  -- from a place between operations on
  begins : (way w : Way) (trace : List Entry) (os : List (Option Outcome)) (done : List Done) (todo : List Task) (program next : Program) → IsBare way trace → IsTasked w → (w ≡ Closing → ⊥) → ExplainsBy p.slots p.requests calls w broken done [] todo next
      → At way trace os done todo program → At w [] os done todo next
  begins way w trace os done todo program next bare tasked open_ explains s = record { set_up = s.set_up; closes = λ e. absurd (open_ e); traced = starts w c todo es tasked (idle_of way trace c todo es s.traced bare); all = s.all; became = s.became; unsaid = s.unsaid; kept = s.kept; past = s.past; explains = explains; holding = λ i h. omega arith; linked = λ i h k m. absurd m; claims = no_claims es v.claims; made = s.made; lists = s.lists; are_made = s.are_made; of_calls = s.of_calls }

  tasked_open : (w : Way) → IsTasked w → w ≡ Closing → ⊥
  tasked_open Own t e = absurd (cc)
  tasked_open Beside t e = absurd (cc)
  tasked_open Closing t e = t

  abbrev Comes : List Retry → Program → List (Option Outcome) → Type 0
  Comes ws q os = SeatStory p calls over es broken (said (resolved ws q) os) c tasks (next_step (resolved ws q)) v

  here_at : (way : Way) (trace : List Entry) (os : List (Option Outcome)) (done : List Done) (todo : List Task) (q : Program) → At way trace os done todo q → SeatStory p calls over es broken os c tasks q v
  here_at way trace os done todo q s = record { way = way; trace = trace; done = done; todo = todo; at = s }

  abbrev Fit : List (Option Outcome) → List Task → Type 0
  Fit os todo = AllByRecursion (λ (t : Task). t.number < length os) todo

  fit_set : (os : List (Option Outcome)) (o : ℕ) (x : Option Outcome) (todo : List Task) → Fit os todo → Fit (set os o x) todo
  fit_set os o x todo fit = all_of (λ (u : Task). u.number < length (set os o x)) todo (λ u m. let a = all_in (λ (u : Task). u.number < length os) todo u fit m in omega (arith, length-set os o x))

  -- the outcomes that come before the next step are said, and retries that wait are tried first
  pub after_say : (way : Way) (trace : List Entry) (ws : List Retry) (q : Program) (os : List (Option Outcome)) (done : List Done) (todo : List Task) → Fit os todo → At way trace os done todo q → Comes ws q os
  after_say Own trace ws (Say o outcome more) os done [] fit s = after_say Own trace ws more (set os o (Some outcome)) done [] tt (call_done Own trace os done [] o outcome (Say o outcome more) more s.explains.0 s.explains.1 s)
  after_say Own trace ws (Say o outcome more) os done (t ∷ ts) fit s = ⊎_elim
      (λ x. after_say Own [] ws more (set os o (Some outcome)) (record { task = t; outcome = Some outcome } ∷ done) ts (fit_set os o (Some outcome) ts fit.1)
      (task_done (Some outcome) os (set os o (Some outcome)) trace done t ts (Say o outcome more) more s (x.1, x.2)
      (subst (λ z. slice_get (set os z (Some outcome)) t.number ≡ Some (Some outcome)) (sym x.0) (get_set_here os t.number (Some outcome) fit.0))
      (λ j ne. get_set_else os o j (Some outcome) (λ e. ne (sym x.0 ∙ e))) x.3))
      (λ x. after_say Own trace ws more (set os o (Some outcome)) done (t ∷ ts) (fit_set os o (Some outcome) (t ∷ ts) fit) (call_done Own trace os done (t ∷ ts) o outcome (Say o outcome more) more x.0 x.1 s)) s.explains
  after_say Beside trace ws (Say o outcome more) os done todo fit s = after_say Beside trace ws more (set os o (Some outcome)) done todo (fit_set os o (Some outcome) todo fit) (call_done Beside trace os done todo o outcome (Say o outcome more) more s.explains.0 s.explains.1 s)
  after_say Closing trace ws (Say o outcome more) os done todo fit s = after_say Closing trace ws more (set os o (Some outcome)) done todo (fit_set os o (Some outcome) todo fit) (call_done Closing trace os done todo o outcome (Say o outcome more) more s.explains.0 s.explains.1 s)
  after_say Own trace ws (Sent o more) os done [] fit s = absurd s.explains
  after_say Own trace ws (Sent o more) os done (t ∷ ts) fit s = let x = s.explains in let d : Done = record { task = t; outcome = None } in
      after_say Own [] ws more os (d ∷ done) ts fit.1 (task_done None os os trace done t ts (Sent o more) more s (x.1, x.2) s.unsaid.0 (λ j ne. refl) x.3)
  after_say Beside trace ws (Sent o more) os done todo fit s = absurd s.explains
  after_say Closing trace ws (Sent o more) os done todo fit s = absurd s.explains
  after_say way trace ws (Keep r next) os done todo fit s = after_say way trace (ws ++ r ∷ []) next os done todo fit (goes_on way trace os done todo (Keep r next) next s.explains s)
  after_say way trace [] (Retries n after) os done todo fit s = let x = s.explains in after_say x.1.0 [] [] after os done todo fit (begins way x.1.0 trace os done todo (Retries n after) after x.0 x.1.1 (tasked_open x.1.0 x.1.1) x.1.2 s)
  after_say way trace (r ∷ ws) (Retries n after) os done todo fit s = let x = s.explains in let back : Program = Retries n after in
      here_at Beside [] os done todo (retry n r.id r.attempt (Retries n after)) (begins way Beside trace os done todo (Retries n after) (retry n r.id r.attempt (Retries n after)) x.0 tt (λ e. absurd (cc))
      (retry_goes p.slots p.requests calls done todo (Retries n after) broken (λ others within tr. (tt, (x.1.0, x.1.1, explains_more p.slots p.requests calls x.1.0 after broken others done [] todo within x.1.2))) n r.id r.attempt []) s)
  after_say way trace ws (Do call next) os done todo fit s = here_at way trace os done todo (Do call next) s
  after_say way trace ws Rest os done todo fit s = here_at way trace os done todo Rest s
  after_say way trace ws (TakeMessage q next) os done todo fit s = here_at way trace os done todo (TakeMessage q next) s
  after_say way trace ws (TakeHome k next) os done todo fit s = here_at way trace os done todo (TakeHome k next) s
  after_say way trace ws (PutHome k n after) os done todo fit s = here_at way trace os done todo (PutHome k n after) s
  after_say way trace ws (PutBytes k asked bytes next) os done todo fit s = here_at way trace os done todo (PutBytes k asked bytes next) s
  after_say way trace ws (AskReady k next) os done todo fit s = here_at way trace os done todo (AskReady k next) s
  after_say way trace ws (Write w after) os done todo fit s = here_at way trace os done todo (Write w after) s
  after_say way trace ws (Aside x next) os done todo fit s = here_at way trace os done todo (Aside x next) s
  after_say way trace ws (Round head next) os done todo fit s = here_at way trace os done todo (Round head next) s

-- ## What stays

-- a life that was made with a link is so with more steps
pub given_more : (e : Event) (es : List Event) (i h k : ℕ) → WasGiven es i h k → WasGiven (e ∷ es) i h k
given_more e es i h k g = let n : ℕ = added_by (is_linked h k) i e in let m : ℕ = marked (is_linked h k) i es in omega arith

module _ (old fresh : List Event) (c : ℕ) (given : (i h k : ℕ) → WasGiven old i h k → WasGiven fresh i h k) where
  -- the message of a task whose steps are the same
  of_task_same : (t : Task) (e : chain.Entry) → trace_of c t.number fresh ≡ trace_of c t.number old → IsOfTask old c t e → IsOfTask fresh c t e
  of_task_same t e same x = record { heading = x.heading; name = x.name; op = x.op; id = x.id; load = subst (In (step _ (x.id + 1))) (sym same) x.load; link = given (socket_id_slot x.id) (socket_id_version x.id) e.link x.link }

  ends_same : (t : Task) (before made : List chain.Entry) (b : Bool) → trace_of c t.number fresh ≡ trace_of c t.number old → EndsIn old c t before made b → EndsIn fresh c t before made b
  ends_same t before made true same x = (x.0, x.1, of_task_same t x.0 same x.2)
  ends_same t before made false same x = x

  pub made_same : (done : List Done) (made : List chain.Entry) → AllByRecursion (λ (d : Done). trace_of c d.task.number fresh ≡ trace_of c d.task.number old) done → AreMade old c done made → AreMade fresh c done made
  made_same [] made same m = m
  made_same (d ∷ ds) made same m = (
    m.0,
    subst (λ z. EndsIn fresh c d.task m.0 made (swapped z)) (sym same.0) (ends_same d.task m.0 made (swapped (trace_of c d.task.number old)) same.0 m.1),
    made_same ds m.0 same.1 m.2,
  )

  pub made_now_same : (done : List Done) (todo : List Task) (made : List chain.Entry) → AllByRecursion (λ (d : Done). trace_of c d.task.number fresh ≡ trace_of c d.task.number old) done → trace_now c todo fresh ≡ trace_now c todo old
      → AreMadeNow old c done todo made → AreMadeNow fresh c done todo made
  made_now_same done [] made same now m = made_same done made same m
  made_now_same done (t ∷ ts) made same now m = (m.0, subst (λ z. EndsIn fresh c t m.0 made (swapped z)) (sym now) (ends_same t m.0 made (swapped (trace_of c t.number old)) now m.1), made_same done m.0 same m.2)

  pub claims_same : (trace : List Entry) (claims : List Claim) → AreClaims old trace claims → AreClaims fresh trace claims
  claims_same trace claims a = record {
    new = λ x id q found before e f even. given (socket_id_slot id) (socket_id_version id) x.link (a.new x id q found before e f even);
    filled = λ x id q found word heading bytes before e f even. let y = a.filled x id q found word heading bytes before e f even in (given (socket_id_slot id) (socket_id_version id) x.link y.0, y.1, y.2);
    marked = λ x id q found word next heading bytes before e f even. let y = a.marked x id q found word next heading bytes before e f even in (given (socket_id_slot id) (socket_id_version id) x.link y.0, y.1, y.2);
  }

-- the steps of the tasks done are the same
kept_same : (slots requests : ℕ) (old fresh : List Event) (c : ℕ) (done : List Done) → AllByRecursion (λ (d : Done). trace_of c d.task.number fresh ≡ trace_of c d.task.number old) done → AreKept slots requests old c done → AreKept slots requests fresh c done
kept_same slots requests old fresh c [] same k = tt
kept_same slots requests old fresh c (d ∷ ds) same k = (
  subst (λ z. IsExplainedBy slots requests ds z d.task.op d.outcome) (sym same.0) k.0,
  subst (AllByRecursion (Tells d.task.op d.outcome)) (sym same.0) k.1,
  kept_same slots requests old fresh c ds same.1 k.2,
)

module _ (p : Plan) (calls : ℕ → Type 0) (over : Bool) (es : List Event) (broken more : List ℕ) (within : Within broken more) (os : List (Option Outcome)) where
  -- the outcomes of a client's tasks stay
  module _ (os' : List (Option Outcome)) (tasks : List Task) (done : List Done) (todo : List Task) (same : (t : Task) → In t (undo done todo) → slice_get os' t.number ≡ slice_get os t.number) where
    became_same : AllByRecursion (λ (d : Done). slice_get os d.task.number ≡ Some d.outcome) done → AllByRecursion (λ (d : Done). slice_get os' d.task.number ≡ Some d.outcome) done
    became_same b = all_of (λ (x : Done). slice_get os' x.task.number ≡ Some x.outcome) done (λ x m. same x.task (undo_done done todo x m) ∙ all_in (λ (x : Done). slice_get os x.task.number ≡ Some x.outcome) done x b m)

    unsaid_same : AllByRecursion (λ (t : Task). slice_get os t.number ≡ Some None) todo → AllByRecursion (λ (t : Task). slice_get os' t.number ≡ Some None) todo
    unsaid_same b = all_of (λ (t : Task). slice_get os' t.number ≡ Some None) todo (λ t m. same t (undo_in done todo t m) ∙ all_in (λ (t : Task). slice_get os t.number ≡ Some None) todo t b m)

  still_traced : (w : Way) (trace : List Entry) (c : ℕ) (todo : List Task) (fresh : List Event) → trace_now c todo fresh ≡ trace_now c todo es → IsTraced w trace c todo es → IsTraced w trace c todo fresh
  still_traced Own trace c todo fresh same t = t ∙ sym same
  still_traced Beside trace c todo fresh same t = same ∙ t
  still_traced Closing trace c todo fresh same t = (t.0, same ∙ t.1)

  -- a step of another client
  pub seat_else : (c d : ℕ) → c ≢ d → (new_todo : List Task) (entry : Entry) (tasks : List Task) (way : Way) (trace : List Entry) (done : List Done) (todo : List Task) (program : Program) (v : View) (os' : List (Option Outcome))
      → ((t : Task) → In t (undo done todo) → slice_get os' t.number ≡ slice_get os t.number)
      → SeatAt p calls over es broken os d tasks way trace done todo program v → SeatAt p calls over (told_of c new_todo entry es) more os' d tasks way trace done todo program v
  seat_else c d ne [] entry tasks way trace done todo program v os' same s = keeps (became_same os' tasks done todo same s.became) (unsaid_same os' tasks done todo same s.unsaid)
      (explains_more p.slots p.requests calls way program broken more done trace todo within s.explains) s.holding s.claims refl s
  seat_else c d ne (n ∷ ns) entry tasks way trace done todo program v os' same s = let e : Event = record { client = c; number = n.number; entry = entry } in
      let now : trace_now d todo (e ∷ es) ≡ trace_now d todo es = unchanged todo in
      let past_same = all_of (λ (x : Done). trace_of d x.task.number (e ∷ es) ≡ trace_of d x.task.number es) done (λ x m. trace_client d x.task.number e es ne) in record {
        set_up = s.set_up;
        closes = s.closes;
        traced = still_traced way trace d todo (e ∷ es) now s.traced;
        all = s.all;
        became = became_same os' tasks done todo same s.became;
        unsaid = unsaid_same os' tasks done todo same s.unsaid;
        kept = kept_same p.slots p.requests es (e ∷ es) d done past_same s.kept;
        past = λ y m p. ⊎_elim (λ q. absurd (ne (sym (ap (λ (z : Event). z.client) q) ∙ p))) (λ m. s.past y m p) m;
        explains = explains_more p.slots p.requests calls way program broken more done trace todo within s.explains;
        holding = s.holding;
        linked = λ i h k m. given_more e es i h k (s.linked i h k m);
        claims = claims_same es (e ∷ es) d (given_more e es) trace v.claims s.claims;
        made = s.made;
        lists = s.lists;
        are_made = made_now_same es (e ∷ es) d (given_more e es) done todo (of_sends s.made) past_same now s.are_made;
        of_calls = s.of_calls;
      }
    where
      unchanged : (todo : List Task) → trace_now d todo ((record { client = c; number = n.number; entry = entry }) ∷ es) ≡ trace_now d todo es
      unchanged [] = refl
      unchanged (t ∷ ts) = trace_client d t.number (record { client = c; number = n.number; entry = entry }) es ne

  -- a move or a put of this client, which changes its right alone, or a step aside
  pub seat_moves : (c : ℕ) (tasks : List Task) (way : Way) (trace : List Entry) (done : List Done) (todo : List Task) (program next : Program) (v w : View) → w.marks ≡ v.marks → w.claims ≡ v.claims → w.lists ≡ v.lists
      → ExplainsBy p.slots p.requests calls way more done trace todo next → SeatAt p calls over es broken os c tasks way trace done todo program v → SeatAt p calls over es more os c tasks way trace done todo next w
  seat_moves c tasks way trace done todo program next v w marks claims lists explains s = keeps s.became s.unsaid explains (λ i h. subst (λ ms. holds i h trace ≤ marks_of (is_hold h) i (record w { marks = ms })) (sym marks) (s.holding i h))
      (subst (AreClaims es trace) (sym claims) s.claims) lists s

-- a step of this client
module _ (p : Plan) (calls : ℕ → Type 0) (over : Bool) (es : List Event) (broken more : List ℕ) (within : Within broken more) (os : List (Option Outcome)) (c : ℕ) (tasks : List Task) (order : EachBefore Less tasks) (trace : List Entry) (done : List Done) (call : TableStep) (next : ℕ → Program) (v w : View) (found : ℕ) where
  nothing_held : trace ≡ [] → (i h : ℕ) → holds i h trace ≤ marks_of (is_hold h) i w
  nothing_held none_ i h = subst (λ z. holds i h z ≤ marks_of (is_hold h) i w) (sym none_) (omega arith)

  none_claimed : trace ≡ [] → AreClaims es trace w.claims
  none_claimed none_ = subst (λ z. AreClaims es z w.claims) (sym none_) (no_claims es w.claims)

  -- behind the last task
  pub seat_ends : SeatAt p calls over es broken os c tasks Own trace done [] (Do call next) v → w.lists ≡ v.lists → SeatAt p calls over es broken os c tasks Own trace done [] (next found) w
  seat_ends s lists = keeps s.became s.unsaid (s.explains.1 found) (nothing_held s.traced) (none_claimed s.traced) lists s

  -- where it closes sockets
  pub seat_closes : (todo : List Task) → SeatAt p calls over es broken os c tasks Closing trace done todo (Do call next) v → w.lists ≡ v.lists → SeatAt p calls over es more os c tasks Closing trace done todo (next found) w
  seat_closes todo s lists = keeps s.became s.unsaid (explains_more p.slots p.requests calls Closing (next found) broken more done trace todo within (s.explains.1 found)) (nothing_held s.traced.0) (none_claimed s.traced.0) lists s

  -- beside the tasks
  pub seat_beside : (todo : List Task) → SeatAt p calls over es broken os c tasks Beside trace done todo (Do call next) v → ((i h : ℕ) → holds i h (step call found ∷ trace) ≤ marks_of (is_hold h) i w) → ((i h : ℕ) → call ≡ OnSlot (FindLink i h) → WasGiven es i h found)
      → AreClaims es (step call found ∷ trace) w.claims → (made : List chain.Entry) → w.lists ≡ made ∷ [] → AreMadeNow es c done todo (of_sends made) → AllByRecursion (IsOfCall calls) made
      → SeatAt p calls over es broken os c tasks Beside (step call found ∷ trace) done todo (next found) w
  seat_beside todo s holding given claims made lists are of_calls = record {
    set_up = s.set_up;
    closes = λ e. absurd (cc);
    traced = s.traced;
    all = s.all;
    became = s.became;
    unsaid = s.unsaid;
    kept = s.kept;
    past = s.past;
    explains = s.explains.1 found;
    holding = holding;
    linked = λ i h k m. ⊎_elim (λ e. let calls_ : OnSlot (FindLink i h) ≡ call = ap (λ (x : Entry). x.call) e in let words : k ≡ found = ap (λ (x : Entry). x.found) e in subst (WasGiven es i h) (sym words) (given i h (sym calls_))) (λ m. s.linked i h k m) m;
    claims = claims;
    made = made;
    lists = lists;
    are_made = are;
    of_calls = of_calls;
  }

  module _ (t : Task) (ts : List Task) (s : SeatAt p calls over es broken os c tasks Own trace done (t ∷ ts) (Do call next) v) where
    abbrev pub this_event : Event
    this_event = record { client = c; number = t.number; entry = step call found }

    -- the traces of the tasks done stay
    pub done_same : AllByRecursion (λ (x : Done). trace_of c x.task.number (this_event ∷ es) ≡ trace_of c x.task.number es) done
    done_same = let sorted : EachBefore Less (undo done (t ∷ ts)) = subst (EachBefore Less) s.all order in let before = undo_before Less done (t ∷ ts) sorted in
        all_of (λ (x : Done). trace_of c x.task.number (this_event ∷ es) ≡ trace_of c x.task.number es) done
        (λ x m. trace_number c x.task.number this_event es (λ q. let a = (all_in (λ (z : Done). AllByRecursion (Less z.task) (t ∷ ts)) done x before m).0 in omega arith))

    pub seat_step : ((i h : ℕ) → holds i h (step call found ∷ trace) ≤ marks_of (is_hold h) i w) → ((i h : ℕ) → call ≡ OnSlot (FindLink i h) → WasGiven es i h found) → AreClaims (this_event ∷ es) (step call found ∷ trace) w.claims
        → (made : List chain.Entry) → w.lists ≡ made ∷ [] → (before : List chain.Entry) → EndsIn (this_event ∷ es) c t before (of_sends made) (swapped (step call found ∷ trace)) → AreMade es c done before → AllByRecursion (IsOfCall calls) made
        → SeatAt p calls over (this_event ∷ es) broken os c tasks Own (step call found ∷ trace) done (t ∷ ts) (next found) w
    seat_step holding given claims made lists before ends are of_calls = let sorted : EachBefore Less (undo done (t ∷ ts)) = subst (EachBefore Less) s.all order in let later = (undo_todo Less done (t ∷ ts) sorted).0 in
        let here = trace_here c t.number this_event es refl refl in let now : step call found ∷ trace ≡ trace_of c t.number (this_event ∷ es) = ap (λ l. step call found ∷ l) s.traced ∙ sym here in record {
          set_up = s.set_up;
          closes = λ e. absurd (cc);
          traced = now;
          all = s.all;
          became = s.became;
          unsaid = s.unsaid;
          kept = kept_same p.slots p.requests es (this_event ∷ es) c done done_same s.kept;
          past = λ y m p. ⊎_elim (λ q. let n : y.number ≡ t.number = ap (λ (z : Event). z.number) q in (omega arith, all_of (λ (u : Task). y.number ≤ u.number) ts (λ u k. let a = all_in (Less t) ts u later k in omega arith))) (λ m. s.past y m p) m;
          explains = s.explains.1 found;
          holding = holding;
          linked = λ i h k m. given_more this_event es i h k (⊎_elim (λ e. let calls_ : OnSlot (FindLink i h) ≡ call = ap (λ (x : Entry). x.call) e in let words : k ≡ found = ap (λ (x : Entry). x.found) e in subst (WasGiven es i h) (sym words) (given i h (sym calls_))) (λ m. s.linked i h k m) m);
          claims = claims;
          made = made;
          lists = lists;
          are_made = (before, subst (λ z. EndsIn (this_event ∷ es) c t before (of_sends made) (swapped z)) now ends, made_same es (this_event ∷ es) c (given_more this_event es) done before done_same are);
          of_calls = of_calls;
        }
