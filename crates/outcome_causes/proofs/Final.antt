-- Where no seat has a step left, each task has its outcome, explained by its steps.
use Rattle.std.proofs.Common.{◌≡◌, ℕ, zero, suc, ◌<◌, ◌⊎◌, Bool, true, false, List, [], ◌∷◌, ◌++◌, map, length, inl, inr, ⊎_elim, sym, refl, ap, ◌∙◌, subst, arith}
use Rattle.std.proofs.lemmas.Bool.{true≢false}
use Rattle.std.specs.Prelude.{Option, Some, None, slice_get}
use Rattle.std.specs.List.{AllByRecursion}
use mathlib.Core.Option.{some}
use lib.ListN.{get_elem?}
use Rattle.brpc_model.specs.Order.{EachBefore}
use Rattle.sock_words.specs.declared.plain.Plan.{Plan}
use Rattle.sock_words.specs.declared.outcome.Outcome.{Outcome}
use Rattle.sock_model.specs.declared.chain.Heading.{Heading}
use Rattle.sock_model.specs.declared.chain.Entry as chain
use Rattle.sock_model.specs.declared.view.View.{View}
use Rattle.sock_model.specs.MarkWeights.{tally, is_claimed}
use Rattle.sock_model.specs.Marks.{about}
use Rattle.sock_model.specs.SocketSlotLaw.{count}
use Rattle.sock_model.specs.References.{slot_facts}
use Rattle.sock_model.specs.SlotRows.{marks_of}
use Rattle.seat_programs.specs.declared.task.Task.{Task}
use Rattle.seat_programs.specs.Programs.{Rest}
use Rattle.seat_programs.specs.Cores.{Core, SeatState}
use Rattle.seat_programs.specs.Explained.{AreTasks}
use Rattle.outcome_ticks.specs.program_steps.specs.ProgramGoesOn.{GoesOn, HasNothing}
use Rattle.outcome_ticks.specs.program_steps.specs.SoundSeats.{state, Sound, AllRest}
use Rattle.outcome_ticks.specs.outcome_stories.specs.OperationStories.{Entry, Event, In, trace_of}
use Rattle.outcome_ticks.specs.outcome_stories.specs.Explains.{Way, Done, IsExplainedBy, Tells, swapped}
use Rattle.outcome_ticks.specs.outcome_stories.specs.StoryStepCauses.{Asks}
use Rattle.outcome_ticks.specs.outcome_stories.specs.KeptStory.{IsOfCall, of_sends, IsSpoken, undo, AreKept, IsOfTask, EndsIn, AreMade, AreMadeNow, SeatAt, Story}
use Rattle.outcome_ticks.specs.outcome_stories.proofs.Members.{all_in, all_of, get_within}
use Rattle.outcome_ticks.proofs.SeatPartOfStory.{Less, undo_before, undo_done, from_undo}
use Rattle.outcome_ticks.proofs.TableTasksDistinct.{sorted_of, same_some}
use Rattle.outcome_ticks.proofs.TicksKeepStory.{get_of}
use Rattle.outcome_ticks.proofs.ClaimAndAcceptedMessages.{all_append}
use Rattle.seat_programs.specs.corr_core.proofs.NoteSums.{at_length}

-- of tasks done, the latest first, each has a higher number than those behind it
abbrev pub Falls : List Done → Type 0
Falls [] = Unit {0}
Falls (d ∷ ds) = AllByRecursion (λ (x : Done). x.task.number < d.task.number) ds × Falls ds

-- what is known of a task in the end
pub record Final (slots requests : ℕ) (clients : List (List Task)) (es : List Event) (outcomes : List (Option Outcome)) (c : ℕ) (t : Task) : Type 0 where
  pub outcome : Option Outcome
  pub became : slice_get outcomes t.number ≡ Some outcome
  -- the tasks of the client before it
  pub before : List Done
  pub explained : IsExplainedBy slots requests before (trace_of c t.number es) t.op outcome
  pub tells : AllByRecursion (Tells t.op outcome) (trace_of c t.number es)
  pub falls : Falls before
  pub are : (x : Done) → In x before → Asks clients c x.task × (slice_get outcomes x.task.number ≡ Some x.outcome) × (x.task.number < t.number)
  pub each : (u : Task) → Asks clients c u → u.number < t.number → (x : Done) × In x before × (x.task ≡ u)

undo_falls : (done : List Done) (todo : List Task) → EachBefore Less (undo done todo) → Falls done
undo_falls [] todo h = tt
undo_falls (d ∷ ds) todo h = (heads ds (undo_before Less ds (d.task ∷ todo) h), undo_falls ds (d.task ∷ todo) h)
  where
    heads : (xs : List Done) → AllByRecursion (λ (x : Done). AllByRecursion (Less x.task) (d.task ∷ todo)) xs → AllByRecursion (λ (x : Done). x.task.number < d.task.number) xs
    heads [] h = tt
    heads (x ∷ xs) h = (h.0.0, heads xs h.1)

module _ (slots requests : ℕ) (clients : List (List Task)) (es : List Event) (outcomes : List (Option Outcome)) (c : ℕ) where
  final_done : (done : List Done) → AreKept slots requests es c done → Falls done → ((x : Done) → In x done → Asks clients c x.task × (slice_get outcomes x.task.number ≡ Some x.outcome))
      → (d : Done) → In d done → ((u : Task) → Asks clients c u → u.number < d.task.number → (x : Done) × In x done × (x.task ≡ u)) → Final slots requests clients es outcomes c d.task
  final_done [] k f a d m each = absurd m
  final_done (y ∷ ys) k f a d (inl e) each = subst (λ (z : Done). Final slots requests clients es outcomes c z.task) (sym e) record {
    outcome = y.outcome;
    became = (a y (inl refl)).1;
    before = ys;
    explained = k.0;
    tells = k.1;
    falls = f.1;
    are = λ x m. let b = a x (inr m) in (b.0, b.1, all_in (λ (z : Done). z.task.number < y.task.number) ys x f.0 m);
    each = λ u asks less. let n : u.number < d.task.number = subst (λ (z : Done). u.number < z.task.number) (sym e) less in let t = each u asks n in
        ⊎_elim (λ q. let s : y.task.number ≡ u.number = ap (λ (z : Done). z.task.number) (sym q) ∙ ap (λ (z : Task). z.number) t.2 in absurd (omega arith)) (λ m. (t.0, m, t.2)) t.1;
  }
  final_done (y ∷ ys) k f a d (inr m) each = let below = all_in (λ (z : Done). z.task.number < y.task.number) ys d f.0 m in final_done ys k.2 f.1 (λ x n. a x (inr n)) d m
      (λ u asks less. let t = each u asks less in
      ⊎_elim (λ q. let s : y.task.number ≡ u.number = ap (λ (z : Done). z.task.number) (sym q) ∙ ap (λ (z : Task). z.number) t.2 in absurd (omega arith)) (λ n. (t.0, n, t.2)) t.1)

pub at_there : {A : Type 0} (xs : List A) (i : ℕ) → i < length xs → (x : A) × (get_elem? xs i ≡ some x)
at_there [] i l = absurd (omega arith)
at_there (x ∷ xs) zero l = (x, refl)
at_there (x ∷ xs) (suc i) l = at_there xs i (omega arith)

nothing_claimed : (j : ℕ) (vs : List View) → ((k : ℕ) (v : View) → get_elem? vs k ≡ some v → marks_of is_claimed j v ≡ 0) → tally is_claimed (map (λ (v : View). about j v.marks) vs) ≡ 0
nothing_claimed j [] h = refl
nothing_claimed j (v ∷ vs) h = omega (arith, h 0 v refl, nothing_claimed j vs (λ k u e. h (suc k) u e))

pub one_said : (o : Option (Option Outcome)) (x y : Option Outcome) → o ≡ Some x → o ≡ Some y → x ≡ y
one_said o x y e f = cc

-- ## Accepted messages

-- they stand in the order of their operations
abbrev pub Sooner : chain.Entry → chain.Entry → Type 0
Sooner a b = a.heading.label.operation < b.heading.label.operation

-- the messages of tasks done, the latest last
module _ (slots requests : ℕ) (es : List Event) (outcomes : List (Option Outcome)) (c : ℕ) where
  -- a message of one of these tasks, of which nothing is said
  record IsOfDone (done : List Done) (e : chain.Entry) : Type 0 where
    pub member : Done
    pub is : In member done
    pub untold : member.outcome ≡ None
    pub of_task : IsOfTask es c member.task e

  none_of : (ds : List Done) (d : Done) (outcome : Option Outcome) → d.outcome ≡ outcome → IsExplainedBy slots requests ds (trace_of c d.task.number es) d.task.op outcome → swapped (trace_of c d.task.number es) ≡ true → outcome ≡ None
  none_of ds d None is x e = refl
  none_of ds d (Some o) is x e = absurd (true≢false (sym e ∙ x.1))

  later_done : (d : Done) (ds : List Done) (made : List chain.Entry) → AllByRecursion (IsOfDone ds) made → AllByRecursion (IsOfDone (d ∷ ds)) made
  later_done d ds made h = all_of (IsOfDone (d ∷ ds)) made (λ e n. let y = all_in (IsOfDone ds) made e h n in record { member = y.member; is = inr y.is; untold = y.untold; of_task = y.of_task })

  made_done : (done : List Done) (made : List chain.Entry) → AreKept slots requests es c done → AreMade es c done made → AllByRecursion (IsOfDone done) made
  made_done [] made k m = subst (AllByRecursion (IsOfDone [])) (sym m) tt
  made_done (d ∷ ds) made k m = by (later_done d ds m.0 (made_done ds m.0 k.2 m.2)) (swapped (trace_of c d.task.number es)) refl m.1
    where
      by : AllByRecursion (IsOfDone (d ∷ ds)) m.0 → (b : Bool) → swapped (trace_of c d.task.number es) ≡ b → EndsIn es c d.task m.0 made b → AllByRecursion (IsOfDone (d ∷ ds)) made
      by h true is x = subst (AllByRecursion (IsOfDone (d ∷ ds))) (sym x.1) (all_append (IsOfDone (d ∷ ds)) m.0 x.0 h record { member = d; is = inl refl; untold = none_of ds d d.outcome refl k.0 is; of_task = x.2 })
      by h false is x = subst (AllByRecursion (IsOfDone (d ∷ ds))) (sym x) h

  in_append : (xs : List chain.Entry) (y x : chain.Entry) → In x xs ⊎ (x ≡ y) → In x (xs ++ y ∷ [])
  in_append [] y x (inl m) = absurd m
  in_append [] y x (inr e) = inl e
  in_append (z ∷ zs) y x (inl (inl e)) = inl e
  in_append (z ∷ zs) y x (inl (inr m)) = inr (in_append zs y x (inl m))
  in_append (z ∷ zs) y x (inr e) = inr (in_append zs y x (inr e))

  -- a task of which nothing is said has its message there
  done_made : (done : List Done) (made : List chain.Entry) → AreKept slots requests es c done → AreMade es c done made → (d : Done) → In d done → d.outcome ≡ None → (e : chain.Entry) × In e made × IsOfTask es c d.task e
  done_made [] made k m d n none_ = absurd n
  done_made (x ∷ xs) made k m d (inl same) none_ = let o : x.outcome ≡ None = sym (ap (λ (y : Done). y.outcome) same) ∙ none_ in
      let swap : swapped (trace_of c x.task.number es) ≡ true = (subst (IsExplainedBy slots requests xs (trace_of c x.task.number es) x.task.op) o k.0).1 in
      let y : EndsIn es c x.task m.0 made true = subst (EndsIn es c x.task m.0 made) swap m.1 in
      (y.0, subst (In y.0) (sym y.1) (in_append m.0 y.0 y.0 (inr refl)), subst (λ (z : Done). IsOfTask es c z.task y.0) (sym same) y.2)
  done_made (x ∷ xs) made k m d (inr n) none_ = let y = done_made xs m.0 k.2 m.2 d n none_ in (y.0, by (swapped (trace_of c x.task.number es)) m.1 y.0 y.1, y.2)
    where
      by : (b : Bool) → EndsIn es c x.task m.0 made b → (e : chain.Entry) → In e m.0 → In e made
      by true z e i = subst (In e) (sym z.1) (in_append m.0 z.0 e (inl i))
      by false z e i = subst (In e) (sym z) i

  before_append : (xs : List chain.Entry) (y : chain.Entry) → EachBefore Sooner xs → AllByRecursion (λ (x : chain.Entry). Sooner x y) xs → EachBefore Sooner (xs ++ y ∷ [])
  before_append [] y h a = (tt, tt)
  before_append (x ∷ xs) y h a = (all_append (Sooner x) xs y h.0 a.0, before_append xs y h.1 a.1)

  made_sorted : (done : List Done) (made : List chain.Entry) → AreKept slots requests es c done → Falls done → AreMade es c done made → EachBefore Sooner made
  made_sorted [] made k f m = subst (EachBefore Sooner) (sym m) tt
  made_sorted (d ∷ ds) made k f m = by (made_sorted ds m.0 k.2 f.1 m.2) (swapped (trace_of c d.task.number es)) m.1
    where
      by : EachBefore Sooner m.0 → (b : Bool) → EndsIn es c d.task m.0 made b → EachBefore Sooner made
      by h true x = subst (EachBefore Sooner) (sym x.1) (before_append m.0 x.0 h
          (all_of (λ (y : chain.Entry). Sooner y x.0) m.0 (λ y n. let z = all_in (IsOfDone ds) m.0 y (made_done ds m.0 k.2 m.2) n in let l = all_in (λ (w : Done). w.task.number < d.task.number) ds z.member f.0 z.is in
          let a : y.heading.label.operation ≡ z.member.task.number = ap (λ (h : Heading). h.label.operation) z.of_task.heading in let b : x.0.heading.label.operation ≡ d.task.number = ap (λ (h : Heading). h.label.operation) x.2.heading in omega (arith, l, a, b))))
      by h false x = subst (EachBefore Sooner) (sym x) h

module _ (p : Plan) (clients : List (List Task)) (are : AreTasks p clients) (over : Bool) (c : Core) (vs : List View) (es : List Event) (broken : List ℕ) (sound : Sound p c vs) (story : Story p clients over c vs es broken) (settled : AllRest c) where
  pub rests : (i : ℕ) (seat : SeatState) → get_elem? c.seats i ≡ some seat → seat.program ≡ Rest
  rests i seat e = settled i seat e

  -- nobody claims a slot
  pub idle : (j : ℕ) → count is_claimed (slot_facts (state c vs) j) ≡ 0
  idle j = nothing_claimed j vs (λ k v e. let seat = at_there c.seats k (omega (arith, at_length vs k v e, sound.each)) in
      let n : HasNothing v = subst (GoesOn p v) (rests k seat.0 seat.1) (sound.seats k seat.0 v seat.1 e).goes_on in n.claims j)

  -- each task has its outcome
  pub final : (i : ℕ) (t : Task) → Asks clients i t → Final p.slots p.requests clients es c.outcomes i t
  final i t asks = let tasks = asks.0 in let inside = get_within clients i tasks asks.1 in
      let seat = at_there c.seats i (omega (arith, story.each)) in let v = at_there vs i (omega (arith, story.each, sound.each)) in
      let s = story.seats i tasks seat.0 v.0 asks.1 seat.1 v.1 in of_seat tasks asks.1 asks.2 s.way s.trace s.done s.todo (subst (λ q. SeatAt p (IsSpoken clients) over es broken c.outcomes i tasks s.way s.trace s.done s.todo q v.0) (rests i seat.0 seat.1) s.at)
    where
      of_seat : {v : View} (tasks : List Task) → slice_get clients i ≡ Some tasks → In t tasks → (way : Way) (trace : List Entry) (done : List Done) (todo : List Task) → SeatAt p (IsSpoken clients) over es broken c.outcomes i tasks way trace done todo Rest v → Final p.slots p.requests clients es c.outcomes i t
      of_seat tasks e m way trace done todo s = let all : tasks ≡ undo done [] = s.all ∙ ap (undo done) s.explains in
          let find : (u : Task) → In u tasks → (x : Done) × In x done × (x.task ≡ u) = λ u n. ⊎_elim (λ h. h) (λ h. absurd h) (from_undo done [] u (subst (In u) all n)) in
          let d = find t m in subst (Final p.slots p.requests clients es c.outcomes i) d.2
          (final_done p.slots p.requests clients es c.outcomes i done s.kept (undo_falls done [] (subst (EachBefore Less) all (sorted_of p clients are i tasks e)))
          (λ x n. ((tasks, e, subst (In x.task) (sym all) (undo_done done [] x n)), all_in (λ (z : Done). slice_get c.outcomes z.task.number ≡ Some z.outcome) done x s.became n))
          d.0 d.1 (λ u a less. find u (subst (In u) (same_some (slice_get clients i) a.0 tasks a.1 e) a.2)))

  -- an accepted message of client i is that of one of its tasks, of which nothing is said
  pub record IsMessage (i : ℕ) (e : chain.Entry) : Type 0 where
    pub task : Task
    pub asks : Asks clients i task
    pub untold : slice_get c.outcomes task.number ≡ Some None
    pub of_task : IsOfTask es i task e

  -- what client i accepted in the end
  pub record Sends (i : ℕ) (v : View) : Type 0 where
    pub made : List chain.Entry
    pub lists : v.lists ≡ made ∷ []
    -- those of calls, and those of sends
    pub of_calls : AllByRecursion (IsOfCall (IsSpoken clients)) made
    pub are_messages : AllByRecursion (IsMessage i) (of_sends made)
    pub sorted : EachBefore Sooner (of_sends made)
    pub each_sent : (t : Task) → Asks clients i t → slice_get c.outcomes t.number ≡ Some None → (e : chain.Entry) × In e (of_sends made) × IsOfTask es i t e

  pub sends : (i : ℕ) (v : View) → get_elem? vs i ≡ some v → Sends i v
  sends i v here = let seat = at_there c.seats i (omega (arith, at_length vs i v here, sound.each)) in let a = get_of c.seats clients i seat.0 story.each seat.1 in
      let s = story.seats i a.0 seat.0 v a.1 seat.1 here in of_seat a.0 a.1 s.way s.trace s.done s.todo (subst (λ q. SeatAt p (IsSpoken clients) over es broken c.outcomes i a.0 s.way s.trace s.done s.todo q v) (rests i seat.0 seat.1) s.at)
    where
      of_seat : (tasks : List Task) → slice_get clients i ≡ Some tasks → (way : Way) (trace : List Entry) (done : List Done) (todo : List Task) → SeatAt p (IsSpoken clients) over es broken c.outcomes i tasks way trace done todo Rest v → Sends i v
      of_seat tasks e way trace done todo s = let all : tasks ≡ undo done [] = s.all ∙ ap (undo done) s.explains in
          let are_made : AreMade es i done (of_sends s.made) = subst (λ ts. AreMadeNow es i done ts (of_sends s.made)) s.explains s.are_made in
          let falls : Falls done = undo_falls done [] (subst (EachBefore Less) all (sorted_of p clients are i tasks e)) in record {
            made = s.made;
            lists = s.lists;
            of_calls = s.of_calls;
            are_messages = all_of (IsMessage i) (of_sends s.made) (λ x m. let y = all_in (IsOfDone p.slots p.requests es c.outcomes i done) (of_sends s.made) x (made_done p.slots p.requests es c.outcomes i done (of_sends s.made) s.kept are_made) m in record {
              task = y.member.task;
              asks = (tasks, e, subst (In y.member.task) (sym all) (undo_done done [] y.member y.is));
              untold = all_in (λ (z : Done). slice_get c.outcomes z.task.number ≡ Some z.outcome) done y.member s.became y.is ∙ ap (λ o. Some o) y.untold;
              of_task = y.of_task;
            });
            sorted = made_sorted p.slots p.requests es c.outcomes i done (of_sends s.made) s.kept falls are_made;
            each_sent = λ t asks untold. let m : In t (undo done []) = subst (In t) (all) (subst (In t) (same_some (slice_get clients i) asks.0 tasks asks.1 e) asks.2) in
                ⊎_elim (λ h. let o : h.0.outcome ≡ None = one_said (slice_get c.outcomes t.number) h.0.outcome None (subst (λ (z : Task). slice_get c.outcomes z.number ≡ Some h.0.outcome) h.2 (all_in (λ (z : Done). slice_get c.outcomes z.task.number ≡ Some z.outcome) done h.0 s.became h.1)) untold in
                let y = done_made p.slots p.requests es c.outcomes i done (of_sends s.made) s.kept are_made h.0 h.1 o in (y.0, y.1, subst (λ (z : Task). IsOfTask es i z y.0) h.2 y.2)) (λ h. absurd h) (from_undo done [] t m);
          }
