-- Each tick keeps who stored the codes of sockets: the code of a life that failed is one of the ending, a reader or a failed link, or a `fail` with this code failed the life.
use Rattle.std.proofs.Common.{◌≡◌, ◌≢◌, ℕ, ◌+◌, ◌%◌, ◌<◌, ◌⊎◌, inl, inr, ⊎_elim, Bool, cond, eq-eqb, List, [], ◌∷◌, ◌++◌, length, set, refl, sym, ap, ◌∙◌, subst, arith}
use Rattle.std.specs.Prelude.{Some, slice_get}
use Rattle.std.specs.Prelude as std
use mathlib.Core.Logic.{dite}
use mathlib.Core.Option.{Option, none, some}
use native.Mathlib.Decide.{ℕ_discrete}
use lib.ListN.{get_elem?}
use Rattle.atomic_table.proofs.Lists.{at_set}
use Rattle.sock_words.specs.PackedWords.{vref_version}
use Rattle.sock_words.specs.declared.plain.Plan.{Plan}
use Rattle.sock_model.specs.declared.home.Home.{Home}
use Rattle.sock_model.specs.declared.marks.Mark.TheVariants.{Hold, Coding, Failer, Saw}
use Rattle.sock_model.specs.declared.marks.SlotMark.{SlotMark}
use Rattle.sock_model.specs.declared.view.View.{View}
use Rattle.sock_model.specs.Marks.{about, at}
use Rattle.sock_model.specs.SlotRows.{marks_of, failed}
use Rattle.sock_model.specs.MarkWeights.{is_coding}
use Rattle.accept_counts.specs.Below.slot_steps.proofs.RuleNumbers.{only-at}
use Rattle.accept_counts.specs.Below.slot_steps.proofs.SlotWeightSums.{about-here}
use Rattle.seat_programs.specs.declared.task.Op.TheVariants as ops
use Rattle.seat_programs.specs.declared.task.Task.{Task}
use Rattle.seat_programs.specs.FoundAndChangedAside.{calls_after}
use Rattle.seat_programs.specs.TableSteps.{TableStep, OnSlot, OnName, AddRef, LoadName, SetOdd, StoreCode}
use Rattle.seat_programs.specs.Cores.{Calls, Core, SeatState, found_at, words_after, homes_after, hand_after, lies_at, first_of, others_of, link_place, resolved, waiting_at, next_step, with_seat}
use Rattle.seat_programs.specs.StepTables.{word_of, word_after}
use Rattle.seat_programs.specs.SlotFreedByDrop.{call_in}
use Rattle.seat_programs.specs.Programs.{Program, Do, Rest, TakeMessage, TakeHome, PutHome, PutBytes, AskReady, Aside}
use Rattle.seat_programs.specs.Ticks.{Moment, IsAnswered, fed, with_places, onto_first, ticked}
use Rattle.seat_programs.specs.Explained.{AreTasks}
use Rattle.seat_programs.specs.StepTables.{May}
use Rattle.seat_programs.specs.StepTables.{row, hand_at}
use Rattle.seat_programs.specs.StepsOfMessages.{took_message}
use Rattle.seat_programs.specs.StepsOfLinks.{link_away, link_home_again, took_bytes}
use Rattle.accept_counts.specs.Below.programs_allowed.specs.program_steps.specs.SoundSeats.{Sound, views_after}
use Rattle.accept_counts.specs.Below.programs_allowed.specs.program_steps.proofs.TickCases.{tick_cases}
use Rattle.accept_counts.specs.Below.sock_steps.proofs.Maps.{set_at}
use Rattle.accept_counts.specs.Below.outcome_stories.specs.StoryStepCauses.{Asks}
use Rattle.accept_counts.specs.Below.outcome_stories.specs.Explains.{Way, Own, Beside, Closing, Done, ExplainsBy, step}
use Rattle.accept_counts.specs.Below.outcome_stories.specs.KeptStory.{IsSpoken, IsTraced, SeatStory, Story}
use Rattle.accept_counts.specs.Below.outcome_stories.specs.OperationStories.{Entry, Event, In, trace_of, trace_now}
use Rattle.accept_counts.specs.Below.outcome_ticks.proofs.EventsOfGoodStory.{event}
use Rattle.accept_counts.specs.Below.outcome_stories.proofs.Members.{from_trace, to_trace}
use Rattle.accept_counts.specs.Below.outcome_ticks.proofs.SeatPartOfStory.{undo_in}
use Rattle.accept_counts.specs.Below.outcome_ticks.proofs.TableTasksDistinct.{one_task}
use Rattle.accept_counts.specs.Below.outcome_ticks.proofs.TicksKeepStory.{MayMove, IsNew, get_of}
use Rattle.sent_once.proofs.SourcesOfSocketCodes.{Failing, NoFail, Fails, IsOtherCode, SaysFailed, Stores, codes_first, codes_next}
use Rattle.sent_once.proofs.DropSays.{IsInHand, first_numbered, says, sets_here}
use Rattle.sent_once.proofs.DropWords.{version_in, code_in, coding_version, code_stays}
use Rattle.corr_core.proofs.NoteSums.{at_length}
use Rattle.seat_programs.specs.LoopRounds.{first_step}
use Rattle.sock_words.specs.Totals.{total}

-- ## What is known of codes

module _ (clients : List (List Task)) where
  -- a `fail` of client d that is operation o, with this code
  abbrev pub IsFailOf : ℕ → ℕ → ℕ → Type 0
  IsFailOf d o code = (t : Task) × (name : ℕ) × Asks clients d t × (t.number ≡ o) × (t.op ≡ ops.Fail name code)

  -- it failed the life of version h of slot j
  pub record FailedWith (es : List Event) (j h code : ℕ) : Type 0 where
    pub client : ℕ
    pub operation : ℕ
    pub found : ℕ
    pub own : IsFailOf client operation code
    pub is : In (event client operation (OnSlot (SetOdd j)) found) es
    pub version : vref_version found ≡ h
    pub even : vref_version found % 2 ≡ 0

  abbrev pub IsKnown : List Event → ℕ → ℕ → ℕ → Type 0
  IsKnown es j h code = IsOtherCode code ⊎ FailedWith es j h code

  pub known_later : (es fresh : List Event) → ((e : Event) → In e es → In e fresh) → (j h code : ℕ) → IsKnown es j h code → IsKnown fresh j h code
  known_later es fresh kept j h code (inl other) = inl other
  known_later es fresh kept j h code (inr f) = inr (record { client = f.client; operation = f.operation; found = f.found; own = f.own; is = kept _ f.is; version = f.version; even = f.even })

  -- what seat j failed, where it is to store the code
  abbrev pub HasFailed : ℕ → List Event → List View → Failing → Type 0
  HasFailed j es vs NoFail = Unit {0}
  HasFailed j es vs (Fails o code i) = (found : ℕ) × IsFailOf j o code × In (event j o (OnSlot (SetOdd i)) found) es × (vref_version found % 2 ≡ 0) × ((v : View) → get_elem? vs j ≡ some v → 0 < marks_of (is_coding (vref_version found)) i v)

  pub record SeatCodes (j : ℕ) (c : Core) (vs : List View) (es : List Event) : Type 0 where
    pub failing : Failing
    pub program : (seat : SeatState) → get_elem? c.seats j ≡ some seat → Stores (IsFailOf j) IsOtherCode failing seat.program
    pub has : HasFailed j es vs failing

  pub record CodesLaw (p : Plan) (c : Core) (vs : List View) (es : List Event) : Type 0 where
    pub known : (j h : ℕ) → j < p.slots → h % 2 ≡ 0 → version_in c.words j ≡ h + 1 → code_in c.words j ≢ 0 → IsKnown es j h (code_in c.words j)
    pub seats : (j : ℕ) → SeatCodes j c vs es

-- ## A step that sets a socket failed

module _ (f : Failing) (mine : ℕ → ℕ → Type 0) (Other : ℕ → Type 0) where
  -- what the seat is to store behind a step
  pub data Behind (call : TableStep) (next : ℕ → Program) (found : ℕ) : Type 0 where
    stores_none : Stores mine Other NoFail (next found) → Behind call next found
    stores_own : (i o code : ℕ) → call ≡ OnSlot (SetOdd i) → mine o code → vref_version found % 2 ≡ 0 → SaysFailed o (next found) → Stores mine Other (Fails o code i) (next found) → Behind call next found

  pub behind : (call : TableStep) (next : ℕ → Program) (found : ℕ) → Stores mine Other f (Do call next) → Behind call next found
  behind (OnSlot (SetOdd i)) next found (inl x) = stores_none (x found)
  behind (OnSlot (SetOdd i)) next found (inr x) = ⊎_elim (λ y. stores_own i x.0 x.1 refl x.2 y.0 y.1 y.2) (λ y. stores_none y) (x.3 found)
  behind (OnSlot (StoreCode i h code)) next found x = stores_none (x.1 found)
  behind call next found x = stores_none (x found)

coding_there : (i found : ℕ) (v : View) → vref_version found % 2 ≡ 0 → 0 < marks_of (is_coding (vref_version found)) i (failed i found v)
coding_there i found v even = subst (λ b. 0 < total (is_coding w) (about i (cond b (at i (Hold w) ∷ at i (Coding w) ∷ at i (Failer w) ∷ at i (Saw (w + 1)) ∷ v.marks) (at i (Saw w) ∷ v.marks)))) (sym (eq-eqb (vref_version found % 2) 0 even))
    (let a : total (is_coding w) (about i (at i (Hold w) ∷ at i (Coding w) ∷ rest)) ≡ total (is_coding w) (Hold w ∷ about i (at i (Coding w) ∷ rest)) = ap (total (is_coding w)) (about-here i (Hold w) (at i (Coding w) ∷ rest)) in
    let b : total (is_coding w) (about i (at i (Coding w) ∷ rest)) ≡ total (is_coding w) (Coding w ∷ about i rest) = ap (total (is_coding w)) (about-here i (Coding w) rest) in let one = only-at w w refl in omega (arith, a, b, one))
  where
    w : ℕ
    w = vref_version found

    rest : List SlotMark
    rest = at i (Failer (vref_version found)) ∷ at i (Saw (vref_version found + 1)) ∷ v.marks

no_odd : (i id n a b : ℕ) (e : Entry) → e ≡ step (OnSlot (SetOdd i)) a → In e (step (OnSlot (AddRef id)) b ∷ step (OnName (LoadName n)) (id + 1) ∷ []) → ⊥
no_odd i id n a b e is (inl x) = let z : OnSlot (SetOdd i) ≡ OnSlot (AddRef id) = ap (λ (y : Entry). y.call) (sym is ∙ x) in cc
no_odd i id n a b e is (inr (inl x)) = let z : OnSlot (SetOdd i) ≡ OnName (LoadName n) = ap (λ (y : Entry). y.call) (sym is ∙ x) in cc
no_odd i id n a b e is (inr (inr x)) = x

-- ## A tick

module _ (p : Plan) (clients : List (List Task)) (are : AreTasks p clients) (over : Bool) (c : Core) (vs : List View) (es : List Event) (lost : List ℕ) (sound : Sound p c vs) (story : Story p clients over c vs es lost) (m : Moment) (answered : IsAnswered c m)
    (moves : MayMove over es m.seat) (law : CodesLaw clients p c vs es) where
  abbrev IsFresh : Event → Type 0
  IsFresh e = IsNew p clients are over c vs es lost sound story m answered moves e

  -- with the story that is told behind the tick
  abbrev After : Core → List View → Type 0
  After d us = (fresh : List Event) (more : List ℕ) → Story p clients over d us fresh more → ((e : Event) → In e es → In e fresh) → ((e : Event) → In e fresh → In e es ⊎ IsFresh e) → CodesLaw clients p d us fresh

  -- the seat goes on with this program, and is to store this
  module _ (fresh : List Event) (kept : (e : Event) → In e es → In e fresh) (a : Calls) (x : Program) (hand : List Home) (ws : List ℕ) (hs : List (Option Home)) (us : List View) (f : Failing) where
    others : (j : ℕ) → ((v : View) → get_elem? us j ≡ some v → get_elem? vs j ≡ some v) → (g : Failing) → HasFailed clients j es vs g → HasFailed clients j fresh us g
    others j views NoFail h = tt
    others j views (Fails o code s) h = (h.0, h.1, kept _ h.2, h.3, λ v at. h.4 v (views v at))

    reseated : Stores (IsFailOf clients m.seat) IsOtherCode f x → ((j : ℕ) → j ≢ m.seat → (v : View) → get_elem? us j ≡ some v → get_elem? vs j ≡ some v) → (next_step (resolved (waiting_at a.waiting m.seat) x) ≡ x → HasFailed clients m.seat fresh us f)
        → ((j h : ℕ) → j < p.slots → h % 2 ≡ 0 → version_in ws j ≡ h + 1 → code_in ws j ≢ 0 → IsKnown clients fresh j h (code_in ws j)) → CodesLaw clients p (with_seat m.seat x hand ws hs (record c { calls = a })) us fresh
    reseated stores views has known = record {
      known = known;
      seats = λ j. dite (ℕ_discrete j m.seat) (λ e. subst (λ n. SeatCodes clients n (with_seat m.seat x hand ws hs (record c { calls = a })) us fresh) (sym e) here) (λ ne. record {
        failing = (law.seats j).failing;
        program = λ seat at. ⊎_elim (λ b. absurd (ne b.0)) (λ b. (law.seats j).program seat b.1) (at_set c.seats m.seat j _ seat at);
        has = others j (views j ne) (law.seats j).failing (law.seats j).has;
      });
    }
      where
        r : (g : Failing) × (((g ≡ f) × (next_step (resolved (waiting_at a.waiting m.seat) x) ≡ x)) ⊎ (g ≡ NoFail)) × Stores (IsFailOf clients m.seat) IsOtherCode g (next_step (resolved (waiting_at a.waiting m.seat) x))
        r = codes_next (IsFailOf clients m.seat) IsOtherCode (inl refl) f (waiting_at a.waiting m.seat) x stores

        here : SeatCodes clients m.seat (with_seat m.seat x hand ws hs (record c { calls = a })) us fresh
        here = record {
          failing = r.0;
          program = λ seat at. ⊎_elim (λ b. subst (λ (z : SeatState). Stores (IsFailOf clients m.seat) IsOtherCode r.0 z.program) b.1 r.2) (λ b. absurd (b.0 refl)) (at_set c.seats m.seat m.seat _ seat at);
          has = ⊎_elim (λ e. subst (HasFailed clients m.seat fresh us) (sym e.0) (has e.1)) (λ e. subst (HasFailed clients m.seat fresh us) (sym e) tt) r.1;
        }

  -- ## A life that a `fail` failed

  module _ (seat : SeatState) (v : View) (at : get_elem? c.seats m.seat ≡ some seat) (here : get_elem? vs m.seat ≡ some v) where
    tasks : (ts : List Task) × (slice_get clients m.seat ≡ Some ts)
    tasks = get_of c.seats clients m.seat seat story.each at

    -- of operation o, which is the seat's own
    module _ (o code : ℕ) (own : IsFailOf clients m.seat o code) where
      unspoken : IsSpoken clients o → ⊥
      unspoken spoken = spoken m.seat own.0 own.2 own.3

      -- the task in hand is the `fail`
      is_own : (t : Task) → In t tasks.0 → t.number ≡ o → t ≡ own.0
      is_own t there number = (one_task p clients are m.seat m.seat t own.0 (tasks.0, tasks.1, there) own.2 (number ∙ sym own.3)).1

      -- no step for it failed a life before
      none_before : (w : Way) (done : List Done) (trace : List Entry) (todo : List Task) (j : ℕ) (next : ℕ → Program) (found k word : ℕ) → ExplainsBy p.slots p.requests (IsSpoken clients) w lost done trace todo (Do (OnSlot (SetOdd j)) next)
          → ((t : Task) → In t todo → In t tasks.0) → ((t : Task) (ts : List Task) → todo ≡ t ∷ ts → w ≡ Own → trace ≡ trace_of m.seat t.number es) → SaysFailed o (next found) → In (event m.seat o (OnSlot (SetOdd k)) word) es → ⊥
      none_before Own done trace [] j next found k word x within traced says_ old = x.0
      none_before Own done trace (t ∷ ts) j next found k word x within traced says_ old =
          let number = first_numbered o Own (step (OnSlot (SetOdd j)) found ∷ trace) t ts (says p.slots p.requests (IsSpoken clients) o unspoken Own lost done (step (OnSlot (SetOdd j)) found ∷ trace) (t ∷ ts) (next found) (x.1 found) says_) in
          let there : In (step (OnSlot (SetOdd k)) word) trace = subst (In (step (OnSlot (SetOdd k)) word)) (ap (λ z. trace_of m.seat z es) (sym number) ∙ sym (traced t ts refl refl)) (to_trace es (event m.seat o (OnSlot (SetOdd k)) word) old) in
          ⊎_elim (λ f. no_odd k f.2 f.0 word f.3 (step (OnSlot (SetOdd k)) word) refl (subst (In (step (OnSlot (SetOdd k)) word)) f.5 there))
          (λ f. let op : ops.Send f.2.name f.2.bytes ≡ ops.Fail own.1 code = sym f.2.op ∙ (ap (λ (z : Task). z.op) (is_own t (within t (inl refl)) number) ∙ own.4) in absurd (cc)) x.0
      none_before Beside done trace todo j next found k word x within traced says_ old = let h = says p.slots p.requests (IsSpoken clients) o unspoken Beside lost done (step (OnSlot (SetOdd j)) found ∷ trace) todo (next found) (x.1 found) says_ in let z : Beside ≡ Own = h.own in cc
      none_before Closing done trace todo j next found k word x within traced says_ old = let h = says p.slots p.requests (IsSpoken clients) o unspoken Closing lost done trace todo (next found) (x.1 found) says_ in let z : Closing ≡ Own = h.own in cc

      -- the trace of the task in hand is that of the story
      its_trace : (w : Way) (trace : List Entry) (todo : List Task) (story' : List Event) → IsTraced w trace m.seat todo story' → (t : Task) (ts : List Task) → todo ≡ t ∷ ts → w ≡ Own → trace ≡ trace_of m.seat t.number story'
      its_trace w trace todo story' traced t ts is way = subst (λ z. IsTraced z trace m.seat todo story') way traced ∙ ap (λ z. trace_now m.seat z story') is

      -- the step is of the story
      module _ (j : ℕ) (next : ℕ → Program) (is : first_step seat.program ≡ Do (OnSlot (SetOdd j)) next) (fresh : List Event) (more : List ℕ) (kept : (e : Event) → In e es → In e fresh) (new : (e : Event) → In e fresh → In e es ⊎ IsFresh e)
          (found : ℕ) (found_is : found ≡ found_at c.words (word_of p (OnSlot (SetOdd j)))) (says_ : SaysFailed o (next found)) (d : Core) (us : List View) (told : Story p clients over d us fresh more) (seat' : SeatState) (v' : View)
          (at' : get_elem? d.seats m.seat ≡ some seat') (here' : get_elem? us m.seat ≡ some v') (goes : seat'.program ≡ next found) where
        before : SeatStory p (IsSpoken clients) over es lost c.outcomes m.seat tasks.0 seat.program v
        before = story.seats m.seat tasks.0 seat v tasks.1 at here

        behind_ : SeatStory p (IsSpoken clients) over fresh more d.outcomes m.seat tasks.0 seat'.program v'
        behind_ = told.seats m.seat tasks.0 seat' v' tasks.1 at' here'

        hand_ : IsInHand o behind_.way behind_.trace behind_.todo
        hand_ = says p.slots p.requests (IsSpoken clients) o unspoken behind_.way more behind_.done behind_.trace behind_.todo (next found) (subst (ExplainsBy p.slots p.requests (IsSpoken clients) behind_.way more behind_.done behind_.trace behind_.todo) goes behind_.at.explains) says_

        its : hand_.task ≡ own.0
        its = is_own hand_.task (subst (In hand_.task) (sym behind_.at.all) (undo_in behind_.done behind_.todo hand_.task (subst (In hand_.task) (sym hand_.is) (inl refl)))) hand_.numbered

        failed_one : (k word : ℕ) × In (event m.seat o (OnSlot (SetOdd k)) word) fresh
        failed_one = let x = hand_.failed own.1 code (ap (λ (z : Task). z.op) its ∙ own.4) in
            (x.0, x.1, from_trace m.seat o fresh (step (OnSlot (SetOdd x.0)) x.1) (subst (In (step (OnSlot (SetOdd x.0)) x.1)) (its_trace behind_.way behind_.trace behind_.todo fresh behind_.at.traced hand_.task hand_.others hand_.is hand_.own ∙ ap (λ z. trace_of m.seat z fresh) hand_.numbered) x.2))

        stands : In (event m.seat o (OnSlot (SetOdd j)) found) fresh
        stands = ⊎_elim (λ old. absurd (none_before before.way before.done before.trace before.todo j next found failed_one.0 failed_one.1
            (subst (ExplainsBy p.slots p.requests (IsSpoken clients) before.way lost before.done before.trace before.todo) (sets_here seat.program j next is) before.at.explains)
            (λ t n. subst (In t) (sym before.at.all) (undo_in before.done before.todo t n)) (its_trace before.way before.trace before.todo es before.at.traced) says_ old))
            (λ n. let calls : std.Some (OnSlot (SetOdd j)) ≡ std.Some (OnSlot (SetOdd failed_one.0)) = sym (ap (λ o. elim o as (λ o. std.Option TableStep) [ none ↦ std.None | some x ↦ call_in x.program ]) at ∙ ap call_in (sets_here seat.program j next is)) ∙ n.1.next in
            let same : failed_one.0 ≡ j = cc in let word : failed_one.1 ≡ found = sym n.1.word ∙ (ap (λ z. found_at c.words (word_of p (OnSlot (SetOdd z)))) same ∙ sym found_is) in
            subst (λ z. In (event m.seat o (OnSlot (SetOdd j)) z) fresh) word (subst (λ z. In (event m.seat o (OnSlot (SetOdd z)) failed_one.1) fresh) same failed_one.2)) (new (event m.seat o (OnSlot (SetOdd failed_one.0)) failed_one.1) failed_one.2)

  -- ## Each step

  program_of : (seat : SeatState) → get_elem? c.seats m.seat ≡ some seat → (x : Program) → first_step seat.program ≡ x → (g : Failing) × HasFailed clients m.seat es vs g × Stores (IsFailOf clients m.seat) IsOtherCode g x
  program_of seat at x is = let l = law.seats m.seat in let f = codes_first (IsFailOf clients m.seat) IsOtherCode (inl refl) l.failing seat.program (l.program seat at) in
      (f.0, ⊎_elim (λ e. subst (HasFailed clients m.seat es vs) (sym e) l.has) (λ e. subst (HasFailed clients m.seat es vs) (sym e) tt) f.1, subst (Stores (IsFailOf clients m.seat) IsOtherCode f.0) is f.2)

  same_else : (w : View) (j : ℕ) → j ≢ m.seat → (v : View) → get_elem? (set vs m.seat w) j ≡ some v → get_elem? vs j ≡ some v
  same_else w j ne v at = ⊎_elim (λ b. absurd (ne b.0)) (λ b. b.1) (at_set vs m.seat j w v at)

  -- a move of the seat, a put or a step aside
  moved : (a : Calls) (x : Program) (hand : List Home) (hs : List (Option Home)) (us : List View) → ((j : ℕ) → j ≢ m.seat → (v : View) → get_elem? us j ≡ some v → get_elem? vs j ≡ some v) → Stores (IsFailOf clients m.seat) IsOtherCode NoFail x → After (with_seat m.seat x hand c.words hs (record c { calls = a })) us
  moved a x hand hs us views stores fresh more told kept new = reseated fresh kept a x hand c.words hs us NoFail stores views (λ _. tt) (λ j h inside even version some_. known_later clients es fresh kept j h (code_in c.words j) (law.known j h inside even version some_))

  module _ (seat : SeatState) (v : View) (at : get_elem? c.seats m.seat ≡ some seat) (here : get_elem? vs m.seat ≡ some v) (call : TableStep) (next : ℕ → Program) (is : first_step seat.program ≡ Do call next) (may : May p v call) where
    abbrev found : ℕ
    found = found_at c.words (word_of p call)

    abbrev words : List ℕ
    words = words_after c.words (word_of p call) (word_after call found)

    abbrev w : View
    w = row p call found (hand_at p c.words c.homes call) v

    abbrev stepped_ : Core
    stepped_ = with_seat m.seat (next found) (hand_after p call c.homes seat.hand) words (homes_after p call seat.hand c.homes) c

    mine : (g : Failing) × HasFailed clients m.seat es vs g × Stores (IsFailOf clients m.seat) IsOtherCode g (Do call next)
    mine = program_of seat at (Do call next) is

    -- a code that the seat stores
    stored : (g : Failing) → HasFailed clients m.seat es vs g → (j h k code : ℕ) → j < p.slots → version_in c.words j ≡ h + 1 → IsOtherCode code ⊎ ((o : ℕ) × (g ≡ Fails o code j)) → IsKnown clients es j h code
    stored g has j h k code inside version (inl other) = inl other
    stored g has j h k code inside version (inr x) = let f : HasFailed clients m.seat es vs (Fails x.0 code j) = subst (HasFailed clients m.seat es vs) x.1 has in let marks = f.4 v here in
        inr (record { client = m.seat; operation = x.0; found = f.0; own = f.1; is = f.2; version = (let z = coding_version p c vs sound m.seat v here j (vref_version f.0) inside marks in omega (arith, z, version)); even = f.3 })

    known_behind : (j h : ℕ) → j < p.slots → h % 2 ≡ 0 → version_in words j ≡ h + 1 → code_in words j ≢ 0 → IsKnown clients es j h (code_in words j)
    known_behind j h inside even version some_ = ⊎_elim
        (λ x. subst (IsKnown clients es j h) (sym x.1) (law.known j h inside even x.0 (λ z. some_ (x.1 ∙ z))))
        (λ x. subst (IsKnown clients es j h) (sym x.4) (let stores : Stores (IsFailOf clients m.seat) IsOtherCode mine.0 (Do (OnSlot (StoreCode j x.0 x.1)) next) = subst (λ y. Stores (IsFailOf clients m.seat) IsOtherCode mine.0 (Do y next)) x.2 mine.2 in stored mine.0 mine.1 j h x.0 x.1 inside x.3 stores.0))
        (code_stays p c vs sound m.seat v here j h inside even call may version some_)

    step_keeps : After stepped_ (set vs m.seat w)
    step_keeps fresh more told kept new = by (behind mine.0 (IsFailOf clients m.seat) IsOtherCode call next found mine.2)
      where
        known : (j h : ℕ) → j < p.slots → h % 2 ≡ 0 → version_in words j ≡ h + 1 → code_in words j ≢ 0 → IsKnown clients fresh j h (code_in words j)
        known j h inside even version some_ = known_later clients es fresh kept j h (code_in words j) (known_behind j h inside even version some_)

        seat_there : m.seat < length c.seats
        seat_there = at_length c.seats m.seat seat at

        view_there : m.seat < length vs
        view_there = at_length vs m.seat v here

        by : Behind mine.0 (IsFailOf clients m.seat) IsOtherCode call next found → CodesLaw clients p stepped_ (set vs m.seat w) fresh
        by (stores_none stores) = reseated fresh kept c.calls (next found) (hand_after p call c.homes seat.hand) words (homes_after p call seat.hand c.homes) (set vs m.seat w) NoFail stores (same_else w) (λ _. tt) known
        by (stores_own j o code call_is own even says_ stores) = reseated fresh kept c.calls (next found) (hand_after p call c.homes seat.hand) words (homes_after p call seat.hand c.homes) (set vs m.seat w) (Fails o code j) stores (same_else w)
            (λ same. (
              found,
              own,
              stands seat v at here o code own j next (is ∙ ap (λ (z : TableStep). Do z next) call_is) fresh more kept new found (ap (λ z. found_at c.words (word_of p z)) call_is) says_ stepped_ (set vs m.seat w) told
                  (record { program = next_step (resolved (waiting_at c.calls.waiting m.seat) (next found)); hand = hand_after p call c.homes seat.hand }) w (set_at c.seats m.seat _ seat_there) (set_at vs m.seat w view_there) same,
              even,
              λ u at_u. subst (λ (z : View). 0 < marks_of (is_coding (vref_version found)) j z) (⊎_elim (λ b. b.1) (λ b. absurd (b.0 refl)) (at_set vs m.seat m.seat w u at_u))
                  (subst (λ z. 0 < marks_of (is_coding (vref_version found)) j (row p z found (hand_at p c.words c.homes call) v)) (sym call_is) (coding_there j found v even)),
            )) known

  pub codes_ticks : After (ticked p c m) (views_after p c vs m)
  codes_ticks = tick_cases p c vs m sound answered After
      (λ fresh more told kept new. record { known = λ j h inside even version some_. known_later clients es fresh kept j h (code_in c.words j) (law.known j h inside even version some_); seats = λ j. record { failing = (law.seats j).failing; program = (law.seats j).program; has = others fresh kept c.calls Rest [] [] [] vs NoFail j (λ v at. at) (law.seats j).failing (law.seats j).has } })
      (λ seat v call next at here is goes. step_keeps seat v at here call next is goes.0)
      (λ seat v r next heading bytes at here is goes lies. moved c.calls (next heading bytes) seat.hand (set c.homes r none) (set vs m.seat (took_message heading bytes v)) (same_else (took_message heading bytes v)) ((program_of seat at (TakeMessage r next) is).2 heading bytes))
      (λ seat v k next took n at here is goes lies. moved c.calls (next n) (lies_at c.homes (link_place p k) ++ seat.hand) (set c.homes (link_place p k) none) (set vs m.seat (link_away v)) (same_else (link_away v)) ((program_of seat at (TakeHome k next) is).2 n))
      (λ seat v k n after at here is goes. moved c.calls after (others_of seat.hand) (set c.homes (link_place p k) (first_of (onto_first (with_places n) seat.hand))) (set vs m.seat (link_home_again v)) (same_else (link_home_again v)) (program_of seat at (PutHome k n after) is).2)
      (λ seat v k asked bytes next answer at here is goes answer_is fits. moved c.calls (next answer) (onto_first (fed bytes answer) seat.hand) c.homes (set vs m.seat (took_bytes answer v)) (same_else (took_bytes answer v)) ((program_of seat at (PutBytes k asked bytes next) is).2 answer))
      (λ seat v k next answer at here is goes answer_is. moved c.calls (next answer) seat.hand c.homes vs (λ j ne v at. at) ((program_of seat at (AskReady k next) is).2 answer))
      (λ seat v s next found at here is goes found_is. moved (calls_after s found c.calls) (next found) seat.hand c.homes vs (λ j ne v at. at) ((program_of seat at (Aside s next) is).2 found))
