-- At the beginning the story is empty.
use Rattle.std.proofs.Common.{◌≡◌, ◌≢◌, ℕ, zero, suc, false, inl, inr, ◌+◌, ◌-◌, ◌*◌, ◌<◌, ◌≤◌, List, [], ◌∷◌, ◌++◌, map, length, get_or, replicate, sym, refl, ap, ◌∙◌, subst, arith}
use Rattle.std.proofs.lemmas.List.{length-map}
use Rattle.std.specs.Prelude.{Option, Some, None, fold, slice_get}
use Rattle.std.specs.List.{AllByRecursion}
use mathlib.Core.Option.{some, some-injective, some-ne-none}
use mathlib.Core.Logic.{dite}
use native.Mathlib.Decide.{ℕ_discrete}
use lib.ListN.{get_elem?}
use Rattle.brpc_model.specs.Order.{EachBefore}
use Rattle.sock_words.specs.declared.plain.Plan.{Plan}
use Rattle.sock_words.specs.declared.outcome.Outcome.{Outcome}
use Rattle.sock_model.specs.declared.marks.Mark.{Mark}
use Rattle.sock_model.specs.declared.marks.Mark.TheVariants.{Claimed}
use Rattle.sock_model.specs.declared.view.View.{View}
use Rattle.sock_model.specs.MarkWeights.{is_busy, is_claimed, is_born, is_failer, is_linked, is_tried}
use Rattle.sock_model.specs.SocketTableLayout.{tag_index, ref_index, all_words}
use Rattle.sock_model.specs.SocketSlotLaw.{SlotFacts, SlotLaw, live, count}
use Rattle.sock_model.specs.References.{slot_facts}
use Rattle.outcome_ticks.specs.program_steps.specs.slot_steps.proofs.SlotWeightSums.{tally_mono}
use Rattle.outcome_ticks.specs.program_steps.specs.slot_steps.proofs.RuleNumbers.{live-free, life-none}
use Rattle.seat_programs.specs.declared.task.Task.{Task}
use Rattle.seat_programs.specs.sock_message.specs.Asked.{Asked}
use Rattle.seat_programs.specs.corr_core.specs.declared.marks.Plan.{Plan as IdPlan}
use Rattle.seat_programs.specs.FoundAndChangedAside.{call_at}
use Rattle.seat_programs.specs.Programs.{Program}
use Rattle.seat_programs.specs.Cores.{Core, SeatState, resolved, said, next_step}
use Rattle.seat_programs.specs.ScriptSetupToEnding.{free_slots, beginning}
use Rattle.seat_programs.specs.Explained.{AreTasks, TaskFits, Differ}
use Rattle.outcome_ticks.specs.program_steps.specs.SoundSeats.{state, Sound}
use Rattle.outcome_ticks.specs.outcome_stories.specs.OperationStories.{In, trace_now}
use Rattle.outcome_ticks.specs.outcome_stories.specs.Explains.{Way, Own, Beside, Closing, Done, ExplainsBy}
use Rattle.outcome_ticks.specs.outcome_stories.specs.KeptStory.{undo, IsTraced, MayClose, IsSpoken, AreMadeNow, SeatStory, Story, IsReady}
use Rattle.outcome_ticks.specs.outcome_stories.proofs.Members.{all_in, all_of}
use Rattle.outcome_ticks.proofs.SeatPartOfStory.{keeps, Less, length_said, said_else, no_claims, after_say, undo_in, undo_done}
use Rattle.outcome_ticks.proofs.TicksKeepStory.{come_ready}
use Rattle.outcome_ticks.proofs.TableTasksDistinct.{Apart, InOrder, before_weaker}

-- ## The words

tag_at : (first n j : ℕ) (more : List ℕ) → j < n → get_or (free_slots first n ++ more) (tag_index j) 0 ≡ 0
tag_at first zero j more l = absurd (omega arith)
tag_at first (suc n) zero more l = refl
tag_at first (suc n) (suc j) more l = let e : 6 * suc j ≡ suc (suc (suc (suc (suc (suc (6 * j)))))) = omega arith in
    subst (λ z. get_or (free_slots first (suc n) ++ more) z 0 ≡ 0) (sym e) (tag_at first n j more (omega arith))

ref_at : (first n j : ℕ) (more : List ℕ) → j < n → get_or (free_slots first n ++ more) (ref_index j) 0 ≡ first * 4294967296
ref_at first zero j more l = absurd (omega arith)
ref_at first (suc n) zero more l = refl
ref_at first (suc n) (suc j) more l = let e : 6 * suc j + 1 ≡ suc (suc (suc (suc (suc (suc (6 * j + 1)))))) = omega arith in
    subst (λ z. get_or (free_slots first (suc n) ++ more) z 0 ≡ first * 4294967296) (sym e) (ref_at first n j more (omega arith))

zero_at : (n j : ℕ) → get_or {A = ℕ} (replicate n 0) j 0 ≡ 0
zero_at zero j = refl
zero_at (suc n) zero = refl
zero_at (suc n) (suc j) = zero_at n j

name_at : (first n m j : ℕ) → get_or (free_slots first n ++ replicate m 0) (6 * n + j) 0 ≡ 0
name_at first zero m j = let e : 6 * 0 + j ≡ j = omega arith in subst (λ z. get_or (replicate m 0) z 0 ≡ 0) (sym e) (zero_at m j)
name_at first (suc n) m j = let e : 6 * suc n + j ≡ suc (suc (suc (suc (suc (suc (6 * n + j)))))) = omega arith in
    subst (λ z. get_or (free_slots first (suc n) ++ replicate m 0) z 0 ≡ 0) (sym e) (name_at first n m j)

claimed_le : (x : Mark) → is_claimed x ≤ is_busy x
claimed_le (Claimed a b) = omega arith
claimed_le _ = omega arith

-- a slot whose tag is 0 and whose version is the first had no life, and nobody found it taken
module _ (first : ℕ) (l : SlotFacts) (law : SlotLaw first (live l) l) (tag : l.tag ≡ 0) (version : l.version ≡ first) where
  unborn : (h : ℕ) → count (is_born h) l ≡ 0
  unborn h = let a = live-free l.tag l.version (count is_busy l) tag in omega (arith, law.born h, life-none first h (l.version + live l) (omega arith))

  unfailed : (h : ℕ) → count (is_failer h) l ≡ 0
  unfailed h = omega (arith, law.failed h, life-none first h l.version (omega arith))

  idle : count is_busy l ≡ 0
  idle = dite (ℕ_discrete (count is_busy l) 0) (λ z. z) (λ n. let a = law.busy_taken (omega arith) in absurd (omega arith))

  unlinked : (h k : ℕ) → count (is_linked h k) l ≡ 0
  unlinked h k = let a = live-free l.tag l.version (count is_busy l) tag in dite (ℕ_discrete (count (is_linked h k) l) 0) (λ z. z)
      (λ n. let x = law.link_low h k (omega (arith, n)) in let y = law.link_begun h k (omega (arith, n)) in absurd (omega (arith, x, y, a, version)))

  untried : count is_tried l ≡ 0
  untried = let a = live-free l.tag l.version (count is_busy l) tag in let b = tally_mono is_claimed is_busy claimed_le l.marks in let i = idle in
      dite (ℕ_discrete (count is_tried l) 0) (λ z. z) (λ n. let c = law.taken_by (omega arith) in absurd (omega arith))

-- ## The outcomes

abbrev Says : List (Option Outcome) → Program → List (Option Outcome)
Says os program = said (resolved [] program) os

length_all : (qs : List Program) (os : List (Option Outcome)) → length (fold Says os qs) ≡ length os
length_all [] os = refl
length_all (q ∷ qs) os = length_all qs (said (resolved [] q) os) ∙ length_said (resolved [] q) os

abbrev no_outcome : Option Outcome
no_outcome = None

pub length_same : {A : Type 0} (n : ℕ) (x : A) → length (replicate n x) ≡ n
length_same zero x = refl
length_same (suc n) x = ap suc (length_same n x)

blank_at : (n j : ℕ) → j < n → slice_get (replicate n no_outcome) j ≡ Some None
blank_at zero j l = absurd (omega arith)
blank_at (suc n) zero l = refl
blank_at (suc n) (suc j) l = blank_at n j (omega arith)

-- ## The programs

-- a program that explains these tasks from its first step on; whoever closes sockets has a seat that may
pub record IsExplained (p : Plan) (calls : ℕ → Type 0) (seat : ℕ) (ts : List Task) (q : Program) : Type 0 where
  pub way : Way
  pub closes : way ≡ Closing → MayClose seat
  pub explains : ExplainsBy p.slots p.requests calls way [] [] [] ts q

-- those of the seats from this one on
abbrev pub AreExplained : Plan → (ℕ → Type 0) → ℕ → List (List Task) → List Program → Type 0
AreExplained p calls seat [] [] = Unit {0}
AreExplained p calls seat (ts ∷ cs) (q ∷ qs) = IsExplained p calls seat ts q × AreExplained p calls (suc seat) cs qs
AreExplained p calls seat cs qs = ⊥

module _ (p : Plan) (calls : ℕ → Type 0) where
  abbrev NoneOf : ℕ → List Task → Type 0
  NoneOf j ts = AllByRecursion (λ (t : Task). t.number ≢ j) ts

  said_one : (seat : ℕ) (ts : List Task) (q : Program) → IsExplained p calls seat ts q → (os : List (Option Outcome)) (j : ℕ) → (calls j → ⊥) → NoneOf j ts → slice_get (said (resolved [] q) os) j ≡ slice_get os j
  said_one seat ts q x os j never h = said_else p.slots p.requests calls x.way [] q [] [] [] ts os j x.explains never h

  -- those of other clients stay
  outcome_stays : (seat : ℕ) (cs : List (List Task)) (qs : List Program) → AreExplained p calls seat cs qs → (os : List (Option Outcome)) (j : ℕ) → (calls j → ⊥) → AllByRecursion (NoneOf j) cs → slice_get (fold Says os qs) j ≡ slice_get os j
  outcome_stays seat [] [] x os j never h = refl
  outcome_stays seat [] (q ∷ qs) x os j never h = absurd x
  outcome_stays seat (c ∷ cs) [] x os j never h = absurd x
  outcome_stays seat (c ∷ cs) (q ∷ qs) x os j never h = outcome_stays (suc seat) cs qs x.1 (said (resolved [] q) os) j never h.1 ∙ said_one seat c q x.0 os j never h.0

  -- no task has an outcome yet
  abbrev AreBlank : List (Option Outcome) → List Task → Type 0
  AreBlank os ts = AllByRecursion (λ (t : Task). slice_get os t.number ≡ Some None) ts

  -- none of these tasks is a call
  abbrev AreTold : List Task → Type 0
  AreTold ts = AllByRecursion (λ (t : Task). calls t.number → ⊥) ts

  blank_stays : (seat : ℕ) (t : List Task) (q : Program) (us : List Task) (os : List (Option Outcome)) → IsExplained p calls seat t q → AreTold us → AllByRecursion (λ (x : Task). AllByRecursion (Differ x) us) t → AreBlank os us → AreBlank (said (resolved [] q) os) us
  blank_stays seat t q us os x told apart blank = all_of (λ (u : Task). slice_get (said (resolved [] q) os) u.number ≡ Some None) us (λ u m. said_one seat t q x os u.number (all_in (λ (u : Task). calls u.number → ⊥) us u told m)
      (all_of (λ (x : Task). x.number ≢ u.number) t (λ x n. (all_in (Differ x) us u (all_in (λ (x : Task). AllByRecursion (Differ x) us) t x apart n) m).0))
      ∙ all_in (λ (u : Task). slice_get os u.number ≡ Some None) us u blank m)

  nothing : (c : ℕ) (todo : List Task) → [] ≡ trace_now c todo []
  nothing c [] = refl
  nothing c (t ∷ ts) = refl

  traced_at : (w : Way) (c : ℕ) (todo : List Task) → IsTraced w [] c todo []
  traced_at Own c todo = nothing c todo
  traced_at Beside c todo = sym (nothing c todo)
  traced_at Closing c todo = (refl, sym (nothing c todo))

  none_made : (c : ℕ) (todo : List Task) → AreMadeNow [] c [] todo []
  none_made c [] = refl
  none_made c (t ∷ ts) = ([], refl, refl)

  seats_begin : (seat : ℕ) (cs : List (List Task)) (qs : List Program) → AreExplained p calls seat cs qs → AllByRecursion AreTold cs → EachBefore Apart cs → AllByRecursion (EachBefore Less) cs → (os : List (Option Outcome)) → AllByRecursion (AllByRecursion (λ (t : Task). t.number < length os)) cs
      → AllByRecursion (AreBlank os) cs → (i : ℕ) (ts : List Task) (q : Program) (v : View) → v.lists ≡ [] ∷ [] → slice_get cs i ≡ Some ts → get_elem? qs i ≡ some q → SeatStory p calls false [] [] (fold Says os qs) (seat + i) ts (next_step (resolved [] q)) v
  seats_begin seat [] qs x told apart sorted os fit blank i ts q v fresh e f = absurd (cc)
  seats_begin seat (t ∷ cs) [] x told apart sorted os fit blank i ts q v fresh e f = absurd x
  seats_begin seat (t ∷ cs) (r ∷ qs) x told apart sorted os fit blank (suc i) ts q v fresh e f = let os' : List (Option Outcome) = said (resolved [] r) os in
      subst (λ n. SeatStory p calls false [] [] (fold Says os' qs) n ts (next_step (resolved [] q)) v) (let a : suc seat + i ≡ seat + suc i = omega arith in a)
      (seats_begin (suc seat) cs qs x.1 told.1 apart.1 sorted.1 os' (subst (λ n. AllByRecursion (AllByRecursion (λ (t : Task). t.number < n)) cs) (sym (length_said (resolved [] r) os)) fit.1)
      (all_of (AreBlank os') cs (λ us m. blank_stays seat t r us os x.0 (all_in AreTold cs us told.1 m) (all_in (Apart t) cs us apart.0 m) (all_in (AreBlank os) cs us blank.1 m))) i ts q v fresh e f)
  seats_begin seat (t ∷ cs) (r ∷ qs) x told apart sorted os fit blank zero ts q v fresh e f = let same : t ≡ ts = cc in let one : r ≡ q = some-injective r q f in
      subst (λ n. SeatStory p calls false [] [] (fold Says os (r ∷ qs)) n ts (next_step (resolved [] q)) v) (let a : seat ≡ seat + 0 = omega arith in a)
      (subst (λ us. SeatStory p calls false [] [] (fold Says os (r ∷ qs)) seat us (next_step (resolved [] q)) v) same (subst (λ z. SeatStory p calls false [] [] (fold Says os (r ∷ qs)) seat t (next_step (resolved [] z)) v) one
      (first_ (after_say p calls false [] [] seat t sorted.0 (λ u m. all_in (λ (u : Task). calls u.number → ⊥) t u told.0 m) v x.0.way [] [] r os [] t fit.0 record { set_up = λ e zero_. absurd (cc); closes = x.0.closes; traced = traced_at x.0.way seat t; all = refl; became = tt; unsaid = blank.0; kept = tt; past = λ x m. absurd m; explains = x.0.explains; holding = λ i h. omega arith; linked = λ i h k m. absurd m; claims = no_claims [] v.claims; made = []; lists = fresh; are_made = none_made seat t; of_calls = tt }))))
    where
      first_ : SeatStory p calls false [] [] (said (resolved [] r) os) seat t (next_step (resolved [] r)) v → SeatStory p calls false [] [] (fold Says os (r ∷ qs)) seat t (next_step (resolved [] r)) v
      first_ s = let a = s.at in let os' : List (Option Outcome) = said (resolved [] r) os in
          let stays : (y : Task) → In y (undo s.done s.todo) → slice_get (fold Says os' qs) y.number ≡ slice_get os' y.number = λ y m.
          outcome_stays (suc seat) cs qs x.1 os' y.number (all_in (λ (u : Task). calls u.number → ⊥) t y told.0 (subst (In y) (sym a.all) m))
          (all_of (AllByRecursion (λ (u : Task). u.number ≢ y.number)) cs (λ us n. all_of (λ (u : Task). u.number ≢ y.number) us (λ u k r.
          (all_in (Differ y) us u (all_in (λ (y : Task). AllByRecursion (Differ y) us) t y (all_in (Apart t) cs us apart.0 n) (subst (In y) (sym a.all) m)) k).0 (sym r)))) in record {
            way = s.way;
            trace = s.trace;
            done = s.done;
            todo = s.todo;
            at = keeps (all_of (λ (d : Done). slice_get (fold Says os' qs) d.task.number ≡ Some d.outcome) s.done (λ d m. stays d.task (undo_done s.done s.todo d m) ∙ all_in (λ (d : Done). slice_get os' d.task.number ≡ Some d.outcome) s.done d a.became m))
                (all_of (λ (u : Task). slice_get (fold Says os' qs) u.number ≡ Some None) s.todo (λ u m. stays u (undo_in s.done s.todo u m) ∙ all_in (λ (u : Task). slice_get os' u.number ≡ Some None) s.todo u a.unsaid m))
                a.explains a.holding a.claims refl a;
          }

program_at : (qs : List Program) (i : ℕ) (seat : SeatState) → get_elem? (map (λ (program : Program). record { program = next_step (resolved [] program); hand = [] }) qs) i ≡ some seat → (q : Program) × (get_elem? qs i ≡ some q) × (next_step (resolved [] q) ≡ seat.program)
program_at [] i seat e = absurd (some-ne-none seat (sym e))
program_at (q ∷ qs) zero seat e = (q, refl, ap (λ (s : SeatState). s.program) (some-injective (record { program = next_step (resolved [] q); hand = [] }) seat e))
program_at (q ∷ qs) (suc i) seat e = program_at qs i seat e

as_many : (p : Plan) (calls : ℕ → Type 0) (seat : ℕ) (cs : List (List Task)) (qs : List Program) → AreExplained p calls seat cs qs → length qs ≡ length cs
as_many p calls seat [] [] x = refl
as_many p calls seat [] (q ∷ qs) x = absurd x
as_many p calls seat (c ∷ cs) [] x = absurd x
as_many p calls seat (c ∷ cs) (q ∷ qs) x = ap suc (as_many p calls (suc seat) cs qs x.1)

abbrev none_asked : Option Asked
none_asked = None

-- no call is at home
pub no_call : (n i : ℕ) (asked : Asked) → call_at (get_elem? (replicate n (some none_asked)) i) ≡ some asked → ⊥
no_call zero i asked e = some-ne-none asked (sym e)
no_call (suc n) zero asked e = some-ne-none asked (sym e)
no_call (suc n) (suc i) asked e = no_call n i asked e

module _ (p : Plan) (q : IdPlan) (clients : List (List Task)) (are : AreTasks p clients) (qs : List Program) (explained : AreExplained p (IsSpoken clients) 0 clients qs) (vs : List View) (fresh : (i : ℕ) (v : View) → get_elem? vs i ≡ some v → v.lists ≡ [] ∷ []) where
  abbrev start : Core
  start = beginning p q qs

  abbrev none_ : List (Option Outcome)
  none_ = replicate p.operations no_outcome

  each_told : AllByRecursion (AllByRecursion (λ (t : Task). IsSpoken clients t.number → ⊥)) clients
  each_told = all_of (AllByRecursion (λ (t : Task). IsSpoken clients t.number → ⊥)) clients (λ ts m. all_of (λ (t : Task). IsSpoken clients t.number → ⊥) ts (λ t n spoken. let d = get_of_in clients ts m in spoken d.0 t (ts, d.1, n) refl))
    where
      get_of_in : (xs : List (List Task)) (x : List Task) → In x xs → (n : ℕ) × (slice_get xs n ≡ Some x)
      get_of_in [] x m = absurd m
      get_of_in (y ∷ ys) x (inl e) = (0, ap (λ (z : List Task). Some z) (sym e))
      get_of_in (y ∷ ys) x (inr m) = let t = get_of_in ys x m in (suc t.0, t.1)

  each_sorted : AllByRecursion (EachBefore Less) clients
  each_sorted = all_of (EachBefore Less) clients (λ ts m. before_weaker InOrder Less (λ a b h. h.0) ts (all_in (EachBefore InOrder) clients ts are.in_order m))

  each_fits : AllByRecursion (AllByRecursion (λ (t : Task). t.number < length none_)) clients
  each_fits = all_of (AllByRecursion (λ (t : Task). t.number < length none_)) clients (λ ts m. all_of (λ (t : Task). t.number < length none_) ts (λ t n.
      let a = (all_in (TaskFits p) ts t (all_in (AllByRecursion (TaskFits p)) clients ts are.fit m) n).0 in omega (arith, length_same p.operations no_outcome)))

  each_blank : AllByRecursion (AllByRecursion (λ (t : Task). slice_get none_ t.number ≡ Some None)) clients
  each_blank = all_of (AllByRecursion (λ (t : Task). slice_get none_ t.number ≡ Some None)) clients (λ ts m. all_of (λ (t : Task). slice_get none_ t.number ≡ Some None) ts (λ t n.
      blank_at p.operations t.number (all_in (TaskFits p) ts t (all_in (AllByRecursion (TaskFits p)) clients ts are.fit m) n).0))

  -- the story with which a run begins
  pub start_story : Sound p start vs → Story p clients false start vs [] []
  start_story sound = record {
    sized = length_all qs none_ ∙ length_same p.operations no_outcome;
    each = length-map qs _ ∙ as_many p (IsSpoken clients) 0 clients qs explained;
    ready = λ i seat e. let x = program_at qs i seat e in subst IsReady x.2 (come_ready [] x.0);
    good = tt;
    births = λ j l h. unborn p.first (slot_facts (state start vs) j) (sound.lawful.references.slots j l) (tag_at p.first p.slots j _ l) (version j l) h;
    links = λ j l h k. unlinked p.first (slot_facts (state start vs) j) (sound.lawful.references.slots j l) (tag_at p.first p.slots j _ l) (version j l) h k;
    fails = λ j l h. omega arith;
    lost = λ j l h some_. let z = unfailed p.first (slot_facts (state start vs) j) (sound.lawful.references.slots j l) (tag_at p.first p.slots j _ l) (version j l) h in absurd (omega (arith, z, some_));
    tries = λ j l. untried p.first (slot_facts (state start vs) j) (sound.lawful.references.slots j l) (tag_at p.first p.slots j _ l) (version j l);
    named = λ n l. name_at p.first p.slots (all_words p - 6 * p.slots) n;
    used = λ e m. absurd m;
    spoken = λ i asked e. absurd (no_call q.slots i asked e);
    seats = λ i ts seat v e f g. let x = program_at qs i seat f in subst (λ z. SeatStory p (IsSpoken clients) false [] [] start.outcomes i ts z v) x.2
        (subst (λ n. SeatStory p (IsSpoken clients) false [] [] start.outcomes n ts (next_step (resolved [] x.0)) v) (let a : 0 + i ≡ i = omega arith in a)
        (seats_begin p (IsSpoken clients) 0 clients qs explained each_told are.differ each_sorted none_ each_fits each_blank i ts x.0 v (fresh i v g) e x.1));
  }
    where
      version : (j : ℕ) → j < p.slots → (slot_facts (state start vs) j).version ≡ p.first
      version j l = let a = ref_at p.first p.slots j (replicate (all_words p - 6 * p.slots) 0) l in omega arith
