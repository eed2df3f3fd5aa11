-- Each tick keeps the story.
use Rattle.std.proofs.Common.{◌≡◌, ◌≢◌, ℕ, zero, suc, ◌+◌, ◌%◌, ◌<◌, ◌⊎◌, Bool, true, false, List, [], ◌∷◌, ◌++◌, length, set, length-set, inl, inr, ⊎_elim, sym, refl, ap, ◌∙◌, subst, cond, arith}
use Rattle.std.specs.Prelude.{Some, slice_get}
use Rattle.std.specs.Prelude as std
use Rattle.std.specs.List.{AllByRecursion}
use mathlib.Core.Option.{Option, some, none, some-ne-none}
use lib.ListN.{get_elem?}
use Rattle.atomic_table.proofs.Lists.{at_set, set_again}
use Rattle.sock_words.specs.declared.plain.Plan.{Plan}
use Rattle.sock_words.specs.PackedWords.{socket_id_version, socket_id_slot, vref_version}
use Rattle.seat_programs.specs.sock_io.specs.declared.link.Put.{Put}
use Rattle.seat_programs.specs.sock_io.specs.declared.link.Put.TheVariants as puts
use Rattle.seat_programs.specs.sock_io.specs.declared.link.Ready.{Ready}
use Rattle.seat_programs.specs.sock_io.specs.declared.link.Ready.TheVariants as asks
use Rattle.sock_model.specs.declared.chain.Entry as chain
use Rattle.sock_model.specs.declared.chain.Heading.{Heading}
use Rattle.sock_model.specs.declared.home.Home.{Home}
use Rattle.sock_model.specs.declared.marks.Mark.{Mark}
use Rattle.sock_model.specs.declared.view.View.{View}
use Rattle.sock_model.specs.declared.view.Hand.{Hand}
use Rattle.sock_model.specs.declared.chain.Right.{Right}
use Rattle.sock_model.specs.MarkWeights.{is_born, is_failer, is_linked, is_tried}
use Rattle.sock_model.specs.SocketTableLayout.{ref_index, name_index, request_index, link_index}
use Rattle.sock_model.specs.declared.marks.Mark.TheVariants.{Failer}
use Rattle.sock_model.specs.MarkWeights.{is_hold}
use Rattle.sock_model.specs.SlotRows.{marks_of}
use Rattle.sock_model.specs.SocketSlotLaw.{count}
use Rattle.sock_model.specs.References.{slot_facts}
use Rattle.sock_model.specs.ChainRows.{taken_right}
use Rattle.outcome_stories.specs.program_steps.specs.sock_steps.proofs.LifeLinkSlotPlaces.{counts}
use Rattle.seat_programs.specs.declared.task.Task.{Task}
use Rattle.seat_programs.specs.Writings.{Puts, Waits, Empties, Reversing}
use Rattle.seat_programs.specs.TableSteps.{TableStep, OnSlot, OnName, OnChain, ClaimSlot, CreateLife, SetOdd, StoreName, LoadOpen, FindLink, ClaimRequest, SwapHead}
use Rattle.seat_programs.specs.Programs.{Program, Do, Say, Sent, TakeMessage, TakeHome, PutHome, PutBytes, AskReady, Write, Aside, Round, Keep, Retries}
use Rattle.seat_programs.specs.Asides.{Step, Found, PutCall, TakeCall, Taking}
use Rattle.seat_programs.specs.LoopHeads.{Retry}
use Rattle.seat_programs.specs.FoundAndChangedAside.{found_in, calls_after}
use mathlib.Core.Logic.{dite}
use mathlib.Core.List.{cons-ne-nil}
use native.Mathlib.Decide.{ℕ_discrete}
use Rattle.std.specs.Prelude.{nat_le, ◌||◌}
use Rattle.std.proofs.Common.{◌≤◌, eqb, eq-eqb}
use Rattle.std.proofs.lemmas.Bool.{le-leb, true≢false}
use Rattle.seat_programs.specs.Cores.{Calls, resolved, waiting_at, Core, SeatState, words_after, hand_after, homes_after, found_at, lies_at, link_place, others_of, first_of, next_step, with_seat, stepped}
use Rattle.seat_programs.specs.StepTables.{word_of, word_after}
use Rattle.seat_programs.specs.Ticks.{OfPut, OfReady, Moment, IsAnswered, fed, with_places, onto_first, taken, asked_link, is_refusal, broken_at, ticked}
use Rattle.seat_programs.specs.SlotFreedByDrop.{call_in, Makes}
use Rattle.seat_programs.specs.Explained.{AreTasks, TaskFits}
use Rattle.seat_programs.specs.StepTables.{row, hand_at}
use Rattle.seat_programs.specs.StepsOfMessages.{took_message}
use Rattle.seat_programs.specs.StepsOfLinks.{link_away, link_home_again, took_bytes}
use Rattle.seat_programs.specs.StepTables.{May}
use Rattle.outcome_stories.specs.program_steps.specs.SoundSeats.{state, Sound, views_after, is_begun}
use Rattle.outcome_stories.specs.sock_runs.proofs.SoundAlongRuns.{begins}
use Rattle.outcome_stories.specs.program_steps.proofs.TickCases.{with_rights, right_rights, put_rights, IsOfLoop, loop_begins, tick_cases}
use Rattle.outcome_stories.specs.OperationStories.{Entry, Event, In, trace_of, told_of, stored_by, last_name, adds, marked}
use Rattle.outcome_stories.proofs.HomeCalls.{AreCalls, PutsAsked, calls_behind}
use Rattle.outcome_stories.specs.Explains.{Way, Own, Beside, Closing, FitsBeside, FitsClosing, FailsAttempt, PutsCall, TakesCall, ExplainsBy, Fits, Done, IsPlain, Explains, swapped, holds, step, broken_put, broken_ready}
use Rattle.outcome_stories.specs.StoryStepCauses.{FoundCause, Good, WasGiven, IsLost, WasFailed, OddAt}
use Rattle.outcome_stories.specs.LinkLosses.{lost_of, lost_by, may_close, closed_at, lost_at}
use Rattle.outcome_stories.specs.KeptStory.{IsOfCall, of_sends, MayClose, IsSpoken, EndsIn, AreMade, AreMadeNow, SeatAt, SeatStory, StaysUsed, Story, IsReady}
use Rattle.outcome_stories.proofs.Added.{IsNote, born_note, failer_note, linked_note, tried_note, row_adds}
use Rattle.outcome_stories.proofs.NameWordSteps.{name_stays}
use Rattle.outcome_stories.proofs.UsedRequestStays.{word_stays}
use Rattle.outcome_ticks.proofs.Means.{means_of, odd_failed, held_given}
use Rattle.outcome_stories.proofs.Members.{all_in, all_of, in_left, in_right, in_both, trace_here}
use Rattle.outcome_ticks.proofs.AtWork.{next_is, is_at}
use Rattle.outcome_stories.proofs.HoldingTakenReferences.{holds_row}
use Rattle.outcome_ticks.proofs.SendingExplained.{Within, round_goes}
use Rattle.outcome_ticks.proofs.SilentAttemptSteps.{round_beside}
use Rattle.outcome_stories.proofs.SilentErrorSteps.{loop_goes}
use Rattle.outcome_ticks.proofs.EventsOfGoodStory.{fail_added}
use Rattle.outcome_stories.proofs.Tests.{split}
use Rattle.outcome_ticks.proofs.BrokenLinksAdded.{failed_more, good_more}
use Rattle.outcome_ticks.proofs.SeatPartOfStory.{undo_in, length_said, said_else, after_say, given_more, seat_else, seat_moves, seat_ends, seat_closes, seat_beside, seat_step}
use Rattle.outcome_ticks.proofs.ClaimAndAcceptedMessages.{IsNoSwap, row_lists, claims_row, ends_still, ends_swap, beside_swap}
use Rattle.outcome_ticks.proofs.TableTasksDistinct.{sorted_of, fits_of, numbers_differ, same_some}
use Rattle.seat_programs.specs.LoopRounds.{first_step}

-- ## Steps that leave the story as it is

plain_adds : (f : Mark → ℕ) (j : ℕ) (call : TableStep) (found : ℕ) → IsPlain call → adds f j call found ≡ 0
plain_adds f j (OnSlot (ClaimSlot i)) found h = absurd h
plain_adds f j (OnSlot (CreateLife i k)) found h = absurd h
plain_adds f j (OnSlot (SetOdd i)) found h = absurd h
plain_adds f j _ found h = refl

plain_stores : (n : ℕ) (call : TableStep) (w : ℕ) → IsPlain call → stored_by n call w ≡ w
plain_stores n (OnName (StoreName m x)) w h = absurd h
plain_stores n _ w h = refl

plain_swaps : (call : TableStep) → IsPlain call → IsNoSwap call
plain_swaps (OnChain (SwapHead i own)) h = absurd h
plain_swaps _ h = tt

-- a step beside the tasks, or of whoever closes sockets, makes no life, stores no name, and finds no slot taken
abbrev IsLater : TableStep → Type 0
IsLater (OnSlot (ClaimSlot i)) = ⊥
IsLater (OnSlot (CreateLife i k)) = ⊥
IsLater (OnName (StoreName n w)) = ⊥
IsLater other = Unit {0}

beside_later : (calls : ℕ → Type 0) (broken : List ℕ) (trace : List Entry) (call : TableStep) → FitsBeside calls broken trace call → IsLater call
beside_later calls broken trace (OnSlot (ClaimSlot i)) f = f
beside_later calls broken trace (OnSlot (CreateLife i k)) f = f
beside_later calls broken trace (OnName (StoreName n w)) f = f
beside_later calls broken trace _ f = tt

closing_later : (call : TableStep) → FitsClosing call → IsLater call
closing_later (OnSlot (ClaimSlot i)) f = f
closing_later (OnSlot (CreateLife i k)) f = f
closing_later (OnName (StoreName n w)) f = f
closing_later _ f = tt

closing_swaps : (call : TableStep) → FitsClosing call → IsNoSwap call
closing_swaps (OnChain (SwapHead i own)) f = f
closing_swaps _ f = tt

-- so it adds no mark that stays but that of a life that was failed
later_adds : (f : Mark → ℕ) → ((n : ℕ) → f (Failer n) ≡ 0) → (j : ℕ) (call : TableStep) (found : ℕ) → IsLater call → adds f j call found ≡ 0
later_adds f none_ j (OnSlot (ClaimSlot i)) found l = absurd l
later_adds f none_ j (OnSlot (CreateLife i k)) found l = absurd l
later_adds f none_ j (OnSlot (SetOdd i)) found l = split (eqb i j) (cond (eqb (vref_version found % 2) 0) (f (Failer (vref_version found))) 0) 0 (λ n. n ≡ 0)
    (split (eqb (vref_version found % 2) 0) (f (Failer (vref_version found))) 0 (λ n. n ≡ 0) (none_ (vref_version found)) refl) refl
later_adds f none_ j _ found l = refl

later_stores : (n : ℕ) (call : TableStep) (w : ℕ) → IsLater call → stored_by n call w ≡ w
later_stores n (OnName (StoreName m x)) w l = absurd l
later_stores n _ w l = refl

module _ (slots requests : ℕ) (calls : ℕ → Type 0) (broken : List ℕ) (i : ℕ) (done : List Done) (trace : List Entry) (call : TableStep) (next : ℕ → Program) (found : ℕ) (es : List Event) where
  marked_told : (f : Mark → ℕ) (j : ℕ) (todo : List Task) → Explains slots requests calls broken done trace todo (Do call next) → marked f j (told_of i todo (step call found) es) ≡ marked f j es + adds f j call found
  marked_told f j [] x = let z = plain_adds f j call found x.0 in omega arith
  marked_told f j (t ∷ ts) x = omega arith

  last_told : (n : ℕ) (todo : List Task) → Explains slots requests calls broken done trace todo (Do call next) → last_name n (told_of i todo (step call found) es) ≡ stored_by n call (last_name n es)
  last_told n [] x = sym (plain_stores n call (last_name n es) x.0)
  last_told n (t ∷ ts) x = refl

pub get_of : {A B : Type 0} (xs : List A) (ys : List B) (i : ℕ) (x : A) → length xs ≡ length ys → get_elem? xs i ≡ some x → (y : B) × (slice_get ys i ≡ Some y)
get_of [] ys i x l e = absurd (some-ne-none x (sym e))
get_of (z ∷ zs) [] i x l e = absurd (omega arith)
get_of (z ∷ zs) (y ∷ ys) zero x l e = (y, refl)
get_of (z ∷ zs) (y ∷ ys) (suc i) x l e = get_of zs ys i x (omega arith) e

ready_of : (q : Program) → is_begun q ≡ true → IsReady q
ready_of (Say o outcome more) e = true≢false (sym e)
ready_of (Sent o more) e = true≢false (sym e)
ready_of (Keep r more) e = true≢false (sym e)
ready_of (Retries n after) e = true≢false (sym e)
ready_of _ e = tt

-- retries that wait come first, and else what follows
pub come_ready : (ws : List Retry) (q : Program) → IsReady (next_step (resolved ws q))
come_ready ws q = ready_of (next_step (resolved ws q)) (begins ws q)

-- what a program explains, its first step does
first_explains : (slots requests : ℕ) (calls : ℕ → Type 0) (w : Way) (broken : List ℕ) (done : List Done) (trace : List Entry) (todo : List Task) (program : Program) → ExplainsBy slots requests calls w broken done trace todo program → ExplainsBy slots requests calls w broken done trace todo (first_step program)
first_explains slots requests calls Own broken done trace [] (Write v after) x = absurd x
first_explains slots requests calls Own broken done trace (t ∷ ts) (Write v after) x = round_goes slots requests calls done t ts broken trace v after x
first_explains slots requests calls Beside broken done trace todo (Write v after) x = round_beside slots requests calls done todo broken trace v after x
first_explains slots requests calls Closing broken done trace todo (Write v after) x = absurd x
first_explains slots requests calls w broken done trace todo (Round head next) x = loop_goes slots requests calls w broken done trace todo head next x
first_explains slots requests calls w broken done trace todo _ x = x

-- whoever closes sockets sets one failed in a step of its own
odd_here : (slots requests : ℕ) (calls : ℕ → Type 0) (broken : List ℕ) (done : List Done) (trace : List Entry) (todo : List Task) (program : Program) (j : ℕ) (next : ℕ → Program) → ExplainsBy slots requests calls Closing broken done trace todo program → first_step program ≡ Do (OnSlot (SetOdd j)) next → call_in program ≡ Some (OnSlot (SetOdd j))
odd_here slots requests calls broken done trace todo (Do c n) j next x e = let q : c ≡ OnSlot (SetOdd j) = cc in ap (λ (y : TableStep). Some y) q
odd_here slots requests calls broken done trace todo (Write v after) j next x e = absurd x
odd_here slots requests calls broken done trace todo (Round head n) j next x e = let o = subst IsOfLoop e (loop_begins head n) in let q : OnSlot (SetOdd j) ≡ OnName (LoadOpen o.0) = o.1 in absurd (cc)
odd_here slots requests calls broken done trace todo _ j next x e = absurd (cc)

-- the link that a put or a question asks
asks_put : (program : Program) (k : ℕ) (asked : Bool) (bytes : List ℕ) (next : Put → Program) → first_step program ≡ PutBytes k asked bytes next → asked_link program ≡ k ∷ []
asks_put (PutBytes l a b n) k asked bytes next e = cc
asks_put (Write (Puts h now heading left taken a) after) k asked bytes next e = absurd (cc)
asks_put (Write (Waits h now heading left taken) after) k asked bytes next e = absurd (cc)
asks_put (Write (Empties h) after) k asked bytes next e = absurd (cc)
asks_put (Write (Reversing h top at behind) after) k asked bytes next e = absurd (cc)
asks_put (Round head n) k asked bytes next e = absurd (subst IsOfLoop e (loop_begins head n))
asks_put _ k asked bytes next e = absurd (cc)

asks_ready : (program : Program) (k : ℕ) (next : Ready → Program) → first_step program ≡ AskReady k next → asked_link program ≡ k ∷ []
asks_ready (AskReady l n) k next e = cc
asks_ready (Write (Waits h now heading left taken) after) k next e = cc
asks_ready (Write (Puts h now heading left taken a) after) k next e = absurd (cc)
asks_ready (Write (Empties h) after) k next e = absurd (cc)
asks_ready (Write (Reversing h top at behind) after) k next e = absurd (cc)
asks_ready (Round head n) k next e = absurd (subst IsOfLoop e (loop_begins head n))
asks_ready _ k next e = absurd (cc)

-- ## Calls at home

abbrev pub AreSpoken : List (List Task) → Calls → Type 0
AreSpoken clients a = AreCalls (λ asked. IsSpoken clients asked.operation) a

puts_spoken : (clients : List (List Task)) (x : Step) → PutsCall (IsSpoken clients) x → PutsAsked (λ asked. IsSpoken clients asked.operation) x
puts_spoken clients (PutCall i asked) puts = puts
puts_spoken clients _ puts = tt

-- a step aside keeps them so
spoken_after : (clients : List (List Task)) (x : Step) (found : Found x) (a : Calls) → PutsCall (IsSpoken clients) x → AreSpoken clients a → AreSpoken clients (calls_after x found a)
spoken_after clients x found a puts h = calls_behind (λ asked. IsSpoken clients asked.operation) x found a (puts_spoken clients x puts) h

-- what is found there is a call
takes_spoken : (clients : List (List Task)) (x : Step) (found : Found x) (a : Calls) (t : Option Taking) → found_in x a t ≡ some found → AreSpoken clients a → TakesCall (IsSpoken clients) x found
takes_spoken clients (TakeCall i) found a t at h = h i found at
takes_spoken clients _ found a t at h = tt

-- ## What a step makes of the story

-- the setup is at work alone, or it is over
abbrev pub MayMove : Bool → List Event → ℕ → Type 0
MayMove over es i = (over ≡ true) ⊎ ((i ≡ 0) × ((e : Event) → In e es → e.client ≡ 0))

module _ (p : Plan) (clients : List (List Task)) (are : AreTasks p clients) (over : Bool) (c : Core) (vs : List View) (es : List Event) (broken : List ℕ) (sound : Sound p c vs) (story : Story p clients over c vs es broken) (i : ℕ) where
  module _ (seat : SeatState) (v : View) (tasks : List Task) (at : get_elem? c.seats i ≡ some seat) (here : get_elem? vs i ≡ some v) (asks : slice_get clients i ≡ Some tasks) where
    -- a part of the story of seat i
    abbrev At : List Event → List ℕ → Way → List Entry → List Done → List Task → Program → View → Type 0
    At story' broken' way trace done todo program w = SeatAt p (IsSpoken clients) over story' broken' c.outcomes i tasks way trace done todo program w

    -- seat i goes on with this program, behind a step, or a move that is no step of the story
    module _ (a : Calls) (program : Program) (hand : List Home) (ws : List ℕ) (hs : List (Option Home)) (w : View) (new_todo : List Task) (entry : Entry) (broken' : List ℕ) (within : Within broken broken') (way : Way) (trace : List Entry) (done : List Done) (todo : List Task)
        (s : SeatAt p (IsSpoken clients) over (told_of i new_todo entry es) broken' c.outcomes i tasks way trace done todo program w) where
      abbrev es' : List Event
      es' = told_of i new_todo entry es

      abbrev waits : List Retry
      waits = waiting_at a.waiting i

      abbrev c' : Core
      c' = with_seat i program hand ws hs (record c { calls = a })

      abbrev vs' : List View
      vs' = set vs i w

      others : (k : ℕ) (us : List Task) (x : SeatState) (u : View) → k ≢ i → slice_get clients k ≡ Some us → SeatStory p (IsSpoken clients) over es broken c.outcomes k us x.program u → SeatStory p (IsSpoken clients) over es' broken' c'.outcomes k us x.program u
      others k us x u ne b y = record {
        way = y.way;
        trace = y.trace;
        done = y.done;
        todo = y.todo;
        at = seat_else p (IsSpoken clients) over es broken broken' within c.outcomes i k (λ q. ne (sym q)) new_todo entry us y.way y.trace y.done y.todo x.program u c'.outcomes
            (λ t m. said_else p.slots p.requests (IsSpoken clients) way waits program broken' done trace todo c.outcomes t.number s.explains
            (λ spoken. spoken k t (us, b, subst (In t) (sym y.at.all) m) refl)
            (all_of (λ (z : Task). z.number ≢ t.number) todo (λ z n. numbers_differ p clients are i k tasks us (λ q. ne (sym q)) asks b z t (subst (In z) (sym s.all) (undo_in done todo z n)) (subst (In t) (sym y.at.all) m)))) y.at;
      }

      own : SeatStory p (IsSpoken clients) over es' broken' c'.outcomes i tasks (next_step (resolved waits program)) w
      own = after_say p (IsSpoken clients) over es' broken' i tasks (sorted_of p clients are i tasks asks) (λ t m spoken. spoken i t (tasks, asks, m) refl) w way trace waits program c.outcomes done todo
          (all_of (λ (t : Task). t.number < length c.outcomes) todo (λ t m. let b = (all_in (TaskFits p) tasks t (fits_of p clients are i tasks asks) (subst (In t) (sym s.all) (undo_in done todo t m))).0 in omega (arith, story.sized, b))) s

      -- what has to be shown of it
      pub reseated : Good p clients broken' es' → ((f : Mark → ℕ) → IsNote f → ((n : ℕ) → f (Failer n) ≡ 0) → (j : ℕ) → count f (slot_facts (state c vs) j) ≡ marked f j es → count f (slot_facts (state c' vs') j) ≡ marked f j es')
          → ((j : ℕ) → j < p.slots → (h : ℕ) → marked (is_failer h) j es' ≤ count (is_failer h) (slot_facts (state c' vs') j))
          → ((j : ℕ) → j < p.slots → (h : ℕ) → 0 < count (is_failer h) (slot_facts (state c' vs') j) → WasFailed broken' es' j h)
          → ((n : ℕ) → n < p.names → std.slice_index ws (name_index p n) ≡ last_name n es') → ((e : Event) → In e es' → StaysUsed p ws e.entry) → AreSpoken clients a → Story p clients over c' vs' es' broken'
      reseated good ties fails lost named used spoken = record {
        sized = length_said (resolved waits program) c.outcomes ∙ story.sized;
        each = length-set c.seats i _ ∙ story.each;
        ready = λ k x b. ⊎_elim (λ r. subst (λ (t : SeatState). IsReady t.program) r.1 (come_ready waits program)) (λ r. story.ready k x r.1) (at_set c.seats i k _ x b);
        good = good;
        births = λ j l h. ties (is_born h) (born_note h) (λ n. refl) j (story.births j l h);
        links = λ j l h k. ties (is_linked h k) (linked_note h k) (λ n. refl) j (story.links j l h k);
        fails = fails;
        lost = lost;
        tries = λ j l. ties is_tried tried_note (λ n. refl) j (story.tries j l);
        named = named;
        used = used;
        spoken = spoken;
        seats = λ k us x u b d e. let y = at_set c.seats i k _ x d in let z = at_set vs i k w u e in ⊎_elim
            (λ same. let q : us ≡ tasks = same_some (slice_get clients i) us tasks (subst (λ n. slice_get clients n ≡ Some us) same.0 b) asks in
            ⊎_elim (λ r. subst (λ n. SeatStory p (IsSpoken clients) over es' broken' c'.outcomes n us x.program u) (sym same.0) (subst (λ ts. SeatStory p (IsSpoken clients) over es' broken' c'.outcomes i ts x.program u) (sym q)
            (subst (λ (t : View). SeatStory p (IsSpoken clients) over es' broken' c'.outcomes i tasks x.program t) r.1 (subst (λ (t : SeatState). SeatStory p (IsSpoken clients) over es' broken' c'.outcomes i tasks t.program w) same.1 own))))
            (λ r. absurd (r.0 same.0)) z)
            (λ far. ⊎_elim (λ r. absurd (far.0 r.0)) (λ r. others k us x u far.0 b (story.seats k us x u b far.1 r.1)) z) y;
      }

    -- a move or a put of seat i, or a step aside
    pub moved : (a : Calls) → AreSpoken clients a → (way : Way) (trace : List Entry) (done : List Done) (todo : List Task) (program next : Program) (hand : List Home) (hs : List (Option Home)) (rights : List Right) (broken' : List ℕ) → Within broken broken'
        → ExplainsBy p.slots p.requests (IsSpoken clients) way broken' done trace todo next
        → At es broken way trace done todo program v → Story p clients over (with_seat i next hand c.words hs (record c { calls = a })) (set vs i (with_rights v rights)) es broken'
    moved a spoken way trace done todo program next hand hs rights broken' within explains s = let w : View = with_rights v rights in
        let same = λ (f : Mark → ℕ) (j : ℕ). counts (state c vs) i v w here c.words hs f j in
        reseated a next hand c.words hs w [] (step (OnSlot (ClaimSlot 0)) 0) broken' within way trace done todo (seat_moves p (IsSpoken clients) over es broken broken' within c.outcomes i tasks way trace done todo program next v w refl refl refl explains s)
        (good_more p clients broken broken' within es story.good)
        (λ f note none_ j e. let b = same f j in omega (arith, b, e))
        (λ j l h. let b = same (is_failer h) j in let d = story.fails j l h in omega (arith, b, d))
        (λ j l h some_. let b = same (is_failer h) j in failed_more p clients broken broken' within es j h (story.lost j l h (omega (arith, b, some_))))
        story.named story.used spoken

    -- a step of seat i
    module _ (call : TableStep) (next : ℕ → Program) (may : May p v call) (trace : List Entry) (done : List Done) where
      abbrev found : ℕ
      found = found_at c.words (word_of p call)

      abbrev hand : Hand
      hand = hand_at p c.words c.homes call

      abbrev w : View
      w = row p call found hand v

      abbrev ws : List ℕ
      ws = words_after c.words (word_of p call) (word_after call found)

      abbrev hs : List (Option Home)
      hs = homes_after p call seat.hand c.homes

      added : (f : Mark → ℕ) → IsNote f → (j : ℕ) → count f (slot_facts (state (stepped p i seat call next c) (set vs i w)) j) ≡ count f (slot_facts (state c vs) j) + adds f j call found
      added f note j = let a = counts (state c vs) i v w here ws hs f j in let b = row_adds f note j p call found hand v in omega (arith, a, b)

      used_here : (call : TableStep) → May p v call → StaysUsed p (words_after c.words (word_of p call) (word_after call (found_at c.words (word_of p call)))) (step call (found_at c.words (word_of p call)))
      used_here (OnChain (ClaimRequest id q)) may = λ odd. (may.0, word_stays p v c.words sound.lawful.references.sized q may.0 (omega (arith, odd)) (OnChain (ClaimRequest id q)) may)
      used_here _ may = tt

      used_then : (e : Entry) → StaysUsed p c.words e → StaysUsed p ws e
      used_then e u = go e.call u
        where
          go : (d : TableStep) → (elim d as (λ d. Type 0) [ OnChain (ClaimRequest id q) ↦ e.found % 2 ≡ 1 → (q < p.requests) × (0 < std.slice_index c.words (request_index p q)) | _ ↦ Unit {0} ])
              → (elim d as (λ d. Type 0) [ OnChain (ClaimRequest id q) ↦ e.found % 2 ≡ 1 → (q < p.requests) × (0 < std.slice_index ws (request_index p q)) | _ ↦ Unit {0} ])
          go (OnChain (ClaimRequest id q)) u = λ odd. let a = u odd in (a.0, word_stays p v c.words sound.lawful.references.sized q a.0 a.1 call may)
          go _ u = tt

      used_now : (todo : List Task) (e : Event) → In e (told_of i todo (step call found) es) → StaysUsed p ws e.entry
      used_now [] e m = used_then e.entry (story.used e m)
      used_now (t ∷ ts) e (inl same) = subst (λ (x : Event). StaysUsed p ws x.entry) (sym same) (used_here call may)
      used_now (t ∷ ts) e (inr m) = used_then e.entry (story.used e m)

      -- the link of a life that the seat holds is the one with which it was made
      given_now : (j h : ℕ) → call ≡ OnSlot (FindLink j h) → WasGiven es j h found
      given_now j h is = let m : May p v (OnSlot (FindLink j h)) = subst (May p v) is may in
          let g : WasGiven es j h (std.slice_index c.words (link_index j)) = held_given p clients c vs sound.lawful es broken over story i v here j h m.0 m.1 in
          subst (WasGiven es j h) (sym (ap (λ z. found_at c.words (word_of p z)) is)) g

      claim_given : (fresh : List Event) → ((j h k : ℕ) → WasGiven es j h k → WasGiven fresh j h k) → (id q : ℕ) → call ≡ OnChain (ClaimRequest id q) → WasGiven fresh (socket_id_slot id) (socket_id_version id) hand.link
      claim_given fresh given id q is = let m : May p v (OnChain (ClaimRequest id q)) = subst (May p v) is may in
          let g : WasGiven es (socket_id_slot id) (socket_id_version id) (std.slice_index c.words (link_index (socket_id_slot id))) = held_given p clients c vs sound.lawful es broken over story i v here (socket_id_slot id) (socket_id_version id) m.1.0 m.1.1 in
          given (socket_id_slot id) (socket_id_version id) hand.link (subst (λ z. WasGiven es (socket_id_slot id) (socket_id_version id) (hand_at p c.words c.homes z).link) (sym is) g)

      -- the version of a held life that is set failed
      odd_now : ((j h : ℕ) → holds j h trace ≤ marks_of (is_hold h) j v) → (j h : ℕ) → call ≡ OnSlot (SetOdd j) → 0 < holds j h trace → vref_version found % 2 ≡ 0 → vref_version found ≡ h
      odd_now holding j h is some_ even = let m : May p v (OnSlot (SetOdd j)) = subst (May p v) is may in let le = holding j h in
          let o : OddAt broken es j h (found_at c.words (word_of p (OnSlot (SetOdd j)))) = odd_failed p clients c vs sound.lawful es broken over story i v here j h m.0 (omega (arith, le, some_)) (found_at c.words (word_of p (OnSlot (SetOdd j)))) refl in
          let same : found ≡ found_at c.words (word_of p (OnSlot (SetOdd j))) = ap (λ z. found_at c.words (word_of p z)) is in ap vref_version same ∙ o.0 (sym (ap (λ z. vref_version z % 2) same) ∙ even)

      holding_now : ((j h : ℕ) → holds j h trace ≤ marks_of (is_hold h) j v) → (j h : ℕ) → holds j h (step call found ∷ trace) ≤ marks_of (is_hold h) j w
      holding_now holding j h = holds_row h j v p call found (holds j h trace) hand (holding j h) (λ is some_ even. odd_now holding j h is some_ even)

      -- ## Of the task in hand

      good_own : MayMove over es i → (todo : List Task) → At es broken Own trace done todo (Do call next) v → Good p clients broken (told_of i todo (step call found) es)
      good_own moves [] s = story.good
      good_own moves (t ∷ ts) s = (
        record {
          order = λ x m q. (s.past x m q).0;
          setup = λ x m q. ⊎_elim (λ is. let a : t ∷ ts ≡ [] = s.set_up is q in absurd (cons-ne-nil t ts a)) (λ alone. alone.1 x m) moves;
          task = t;
          is = (tasks, asks, subst (In t) (sym s.all) (undo_in done (t ∷ ts) t (inl refl)));
          numbered = refl;
          fits = subst (λ z. Fits t broken z call) s.traced s.explains.0;
          means = subst (λ z. FoundCause p broken es z call found) s.traced (means_of p clients c vs sound.lawful es broken over story i v here trace s.holding call may);
        },
        story.good,
      )

      -- the accepted messages behind the step
      record Lists (t : Task) (fresh : List Event) (act : TableStep) : Type 0 where
        pub made : List chain.Entry
        pub lists : (row p act (found_at c.words (word_of p act)) (hand_at p c.words c.homes act) v).lists ≡ made ∷ []
        pub before : List chain.Entry
        pub ends : EndsIn fresh i t before (of_sends made) (swapped (step act (found_at c.words (word_of p act)) ∷ trace))
        pub others_ : AreMade es i done before
        pub of_calls : AllByRecursion (IsOfCall (IsSpoken clients)) made

      lists_own : (t : Task) (ts : List Task) (fresh : List Event) → ((j h k : ℕ) → WasGiven es j h k → WasGiven fresh j h k) → ((x : Entry) → In x (trace_of i t.number es) → In x (trace_of i t.number fresh))
          → (call : TableStep) (next : ℕ → Program) → May p v call → At es broken Own trace done (t ∷ ts) (Do call next) v → Lists t fresh call
      lists_own t ts fresh given has (OnChain (SwapHead j own)) next may s = let x = ends_swap es fresh i t given has p v j own (found_at c.words (word_of p (OnChain (SwapHead j own)))) (hand_at p c.words c.homes (OnChain (SwapHead j own))) trace
          s.explains.0 may s.claims (sym s.traced) s.are_made.0 s.made s.lists (subst (λ z. EndsIn es i t s.are_made.0 (of_sends s.made) (swapped z)) (sym s.traced) s.are_made.1) in record { made = x.0; lists = x.1; before = s.are_made.0; ends = x.2; others_ = s.are_made.2; of_calls = x.3 (IsOfCall (IsSpoken clients)) (λ e is no_. absurd (true≢false (sym is ∙ no_))) s.of_calls }
      lists_own t ts fresh given has call next may s = record {
        made = s.made;
        lists = row_lists p v (found_at c.words (word_of p call)) (hand_at p c.words c.homes call) call tt ∙ s.lists;
        before = s.are_made.0;
        ends = ends_still es fresh i t given has call s.are_made.0 (of_sends s.made) (swapped trace) tt (subst (λ z. EndsIn es i t s.are_made.0 (of_sends s.made) (swapped z)) (sym s.traced) s.are_made.1);
        others_ = s.are_made.2;
        of_calls = s.of_calls;
      }

      seat_own : (todo : List Task) → At es broken Own trace done todo (Do call next) v → (trace' : List Entry) × At (told_of i todo (step call found) es) broken Own trace' done todo (next found) w
      seat_own [] s = (trace, seat_ends p (IsSpoken clients) over es broken broken (λ k m. m) c.outcomes i tasks (sorted_of p clients are i tasks asks) trace done call next v w found s (row_lists p v found hand call (plain_swaps call s.explains.0)))
      seat_own (t ∷ ts) s = let e : Event = record { client = i; number = t.number; entry = step call found } in
          let grown = trace_here i t.number e es refl refl in
          let l = lists_own t ts (e ∷ es) (given_more e es) (λ x m. subst (In x) (sym grown) (inr m)) call next may s in (
            step call found ∷ trace,
            seat_step p (IsSpoken clients) over es broken broken (λ k m. m) c.outcomes i tasks (sorted_of p clients are i tasks asks) trace done call next v w found t ts s
                (holding_now s.holding) given_now (claims_row p es (e ∷ es) (given_more e es) trace v found hand call may (claim_given (e ∷ es) (given_more e es)) s.claims)
                l.made l.lists l.before l.ends l.others_ l.of_calls,
          )

      grown_failed : (todo : List Task) (j h : ℕ) → WasFailed broken es j h → WasFailed broken (told_of i todo (step call found) es) j h
      grown_failed [] j h f = f
      grown_failed (t ∷ ts) j h (inl f) = let e : Event = record { client = i; number = t.number; entry = step call found } in inl (let n : ℕ = marked (is_failer h) j es in omega arith)
      grown_failed (t ∷ ts) j h (inr f) = let e : Event = record { client = i; number = t.number; entry = step call found } in inr (f.0, f.1, given_more e es j h f.0 f.2)

      own_story : MayMove over es i → (todo : List Task) → At es broken Own trace done todo (Do call next) v → Story p clients over (stepped p i seat call next c) (set vs i w) (told_of i todo (step call found) es) broken
      own_story moves todo s = let n = seat_own todo s in let told = λ (f : Mark → ℕ) (j : ℕ). marked_told p.slots p.requests (IsSpoken clients) broken i done trace call next found es f j todo s.explains in
          reseated c.calls (next found) (hand_after p call c.homes seat.hand) ws hs w todo (step call found) broken (λ k m. m) Own n.0 done todo n.1
          (good_own moves todo s)
          (λ f note none_ j e. let a = added f note j in let d = told f j in omega (arith, a, d, e))
          (λ j l h. let a = added (is_failer h) (failer_note h) j in let d = told (is_failer h) j in let b = story.fails j l h in omega (arith, a, d, b))
          (λ j l h some_. let a = added (is_failer h) (failer_note h) j in let d = told (is_failer h) j in dite (ℕ_discrete (adds (is_failer h) j call found) 0)
          (λ z. grown_failed todo j h (story.lost j l h (omega (arith, a, z, some_)))) (λ ne. inl (omega (arith, d, ne))))
          (λ m l. name_stays p v c.words sound.lawful.references.sized m l call may ∙ (ap (stored_by m call) (story.named m l) ∙ sym (last_told p.slots p.requests (IsSpoken clients) broken i done trace call next found es m todo s.explains)))
          (used_now todo) story.spoken

      -- ## Beside the tasks

      -- a step that isn't of the story
      aside_story : (way : Way) (trace' : List Entry) (todo : List Task) (broken' : List ℕ) → Within broken broken' → IsLater call → ((j h : ℕ) → call ≡ OnSlot (SetOdd j) → vref_version found ≡ h → vref_version found % 2 ≡ 0 → IsLost broken' es j h)
          → At es broken' way trace' done todo (next found) w → Story p clients over (stepped p i seat call next c) (set vs i w) es broken'
      aside_story way trace' todo broken' within later odd s =
          reseated c.calls (next found) (hand_after p call c.homes seat.hand) ws hs w [] (step call found) broken' within way trace' done todo s
          (good_more p clients broken broken' within es story.good)
          (λ f note none_ j e. let a = added f note j in let z = later_adds f none_ j call found later in omega (arith, a, z, e))
          (λ j l h. let a = added (is_failer h) (failer_note h) j in let b = story.fails j l h in omega (arith, a, b))
          (λ j l h some_. let a = added (is_failer h) (failer_note h) j in dite (ℕ_discrete (adds (is_failer h) j call found) 0)
          (λ z. failed_more p clients broken broken' within es j h (story.lost j l h (omega (arith, a, z, some_))))
          (λ ne. let x = fail_added i 0 call found j h (omega (arith, ne)) in inr (odd j h x.0 x.1 x.2)))
          (λ m l. name_stays p v c.words sound.lawful.references.sized m l call may ∙ (ap (stored_by m call) (story.named m l) ∙ later_stores m call (last_name m es) later))
          (used_now []) story.spoken

      record Made (todo : List Task) (act : TableStep) : Type 0 where
        pub made : List chain.Entry
        pub lists : (row p act (found_at c.words (word_of p act)) (hand_at p c.words c.homes act) v).lists ≡ made ∷ []
        pub made_now : AreMadeNow es i done todo (of_sends made)
        pub of_calls : AllByRecursion (IsOfCall (IsSpoken clients)) made

      made_beside : (todo : List Task) (call : TableStep) (next : ℕ → Program) → May p v call → At es broken Beside trace done todo (Do call next) v → Made todo call
      made_beside todo (OnChain (SwapHead j own)) next may s = let x = beside_swap p (IsSpoken clients) es v j own (found_at c.words (word_of p (OnChain (SwapHead j own)))) (hand_at p c.words c.homes (OnChain (SwapHead j own))) trace s.explains.0 may s.claims s.made s.lists in
          record { made = x.0; lists = x.1; made_now = subst (AreMadeNow es i done todo) (sym x.2) s.are_made; of_calls = x.3 (IsOfCall (IsSpoken clients)) (λ e same no_. subst (λ (h : Heading). IsSpoken clients h.label.operation) (sym same) s.explains.0.of_call) s.of_calls }
      made_beside todo call next may s = record { made = s.made; lists = row_lists p v (found_at c.words (word_of p call)) (hand_at p c.words c.homes call) call tt ∙ s.lists; made_now = s.are_made; of_calls = s.of_calls }

      -- the life that a writer sets failed has the link that failed
      attempt_lost : (todo : List Task) → At es broken Beside trace done todo (Do call next) v → (j h : ℕ) → call ≡ OnSlot (SetOdd j) → vref_version found ≡ h → vref_version found % 2 ≡ 0 → IsLost broken es j h
      attempt_lost todo s j h is at_ even = let f : FailsAttempt broken trace j = subst (FitsBeside (IsSpoken clients) broken trace) is s.explains.0 in let id : ℕ = f.0 in let k : ℕ = f.1 in let on = f.2 in
          let held : 0 < holds j (socket_id_version id) trace = subst (λ z. 0 < holds z (socket_id_version id) trace) (sym f.3) on.holds in
          let version : vref_version found ≡ socket_id_version id = odd_now s.holding j (socket_id_version id) is held even in
          let g : WasGiven es (socket_id_slot id) (socket_id_version id) k = s.linked (socket_id_slot id) (socket_id_version id) k on.link in
          (k, f.4, subst (λ z. WasGiven es j z k) (sym version ∙ at_) (subst (λ z. WasGiven es z (socket_id_version id) k) (sym f.3) g))

      beside_story : (todo : List Task) → At es broken Beside trace done todo (Do call next) v → Story p clients over (stepped p i seat call next c) (set vs i w) es broken
      beside_story todo s = let m = made_beside todo call next may s in
          aside_story Beside (step call found ∷ trace) todo broken (λ k n. n) (beside_later (IsSpoken clients) broken trace call s.explains.0) (attempt_lost todo s)
          (seat_beside p (IsSpoken clients) over es broken broken (λ k n. n) c.outcomes i tasks (sorted_of p clients are i tasks asks) trace done call next v w found todo s
          (holding_now s.holding) given_now (claims_row p es es (λ j h k g. g) trace v found hand call may (claim_given es (λ j h k g. g)) s.claims) m.made m.lists m.made_now m.of_calls)

      -- ## Closing sockets

      more_lost : Within broken (lost_of c.words call ++ broken)
      more_lost = in_right (lost_of c.words call) broken
        where
          in_right : (xs ys : List ℕ) → Within ys (xs ++ ys)
          in_right [] ys k m = m
          in_right (x ∷ xs) ys k m = inr (in_right xs ys k m)

      closed_lost : (j h : ℕ) → call ≡ OnSlot (SetOdd j) → vref_version found ≡ h → vref_version found % 2 ≡ 0 → IsLost (lost_of c.words call ++ broken) es j h
      closed_lost j h is at_ even = let m : May p v (OnSlot (SetOdd j)) = subst (May p v) is may in let g : ℕ = m.1.0 in
          let same : found ≡ found_at c.words (word_of p (OnSlot (SetOdd j))) = ap (λ z. found_at c.words (word_of p z)) is in
          let even' : vref_version (std.slice_index c.words (ref_index j)) % 2 ≡ 0 = sym (ap (λ z. vref_version z % 2) same) ∙ even in
          let o = odd_failed p clients c vs sound.lawful es broken over story i v here j g m.0 m.1.1 (found_at c.words (word_of p (OnSlot (SetOdd j)))) refl in
          let version : vref_version found ≡ g = ap vref_version same ∙ o.0 even' in let k : ℕ = std.slice_index c.words (link_index j) in
          let given : WasGiven es j g k = held_given p clients c vs sound.lawful es broken over story i v here j g m.0 m.1.1 in
          let lost : lost_of c.words call ≡ k ∷ [] = ap (lost_of c.words) is ∙ ap (λ b. cond {A = List ℕ} b (std.slice_index c.words (link_index j) ∷ []) []) (eq-eqb (vref_version (std.slice_index c.words (ref_index j)) % 2) 0 even') in
          (k, subst (λ l. In k (l ++ broken)) (sym lost) (inl refl), subst (λ z. WasGiven es j z k) (sym version ∙ at_) given)

      closing_story : (todo : List Task) → At es broken Closing trace done todo (Do call next) v → Story p clients over (stepped p i seat call next c) (set vs i w) es (lost_of c.words call ++ broken)
      closing_story todo s = aside_story Closing trace todo (lost_of c.words call ++ broken) more_lost (closing_later call s.explains.0) closed_lost
          (seat_closes p (IsSpoken clients) over es broken (lost_of c.words call ++ broken) more_lost c.outcomes i tasks (sorted_of p clients are i tasks asks) trace done call next v w found todo s (row_lists p v found hand call (closing_swaps call s.explains.0)))

-- ## Ticks

still_told : (i : ℕ) (todo : List Task) (entry : Entry) (es : List Event) (e : Event) → In e es → In e (told_of i todo entry es)
still_told i [] entry es e n = n
still_told i (t ∷ ts) entry es e n = inr n

module _ (p : Plan) (clients : List (List Task)) (are : AreTasks p clients) (over : Bool) (c : Core) (vs : List View) (es : List Event) (broken : List ℕ) (sound : Sound p c vs) (story : Story p clients over c vs es broken)
    (m : Moment) (answered : IsAnswered c m) (moves : MayMove over es m.seat) where
  -- a step of the moment's seat, made in this tick
  abbrev pub IsNew : Event → Type 0
  IsNew e = (e.client ≡ m.seat) × Makes p clients c m e.client e.number e.entry.call e.entry.found

  -- behind the tick the story holds of the core and the views, with all that it had, each new step was made in it by the moment's seat, and each link that was lost since was so in the tick
  pub record Goes (d : Core) (us : List View) : Type 0 where
    pub events : List Event
    pub lost : List ℕ
    pub told : Story p clients over d us events lost
    pub fresh : (e : Event) → In e events → In e es ⊎ IsNew e
    pub kept : (e : Event) → In e es → In e events
    pub losses : (k : ℕ) → In k lost → In k broken ⊎ In k (lost_at c m)

  new_step : (seat : SeatState) (v : View) (call : TableStep) (next : ℕ → Program) → get_elem? c.seats m.seat ≡ some seat → first_step seat.program ≡ Do call next → (tasks : List Task) → slice_get clients m.seat ≡ Some tasks
      → (trace : List Entry) (done : List Done) (todo : List Task) → SeatAt p (IsSpoken clients) over es broken c.outcomes m.seat tasks Own trace done todo seat.program v → (e : Event) → In e (told_of m.seat todo (step call (found_at c.words (word_of p call))) es) → In e es ⊎ IsNew e
  new_step seat v call next at does tasks asks trace done [] s e n = inl n
  new_step seat v call next at does tasks asks trace done (t ∷ ts) s e (inl same) = inr (subst IsNew (sym same) (
    refl,
    record {
      seat = refl;
      at = is_at p clients are (IsSpoken clients) over c es broken m.seat tasks asks Own trace done t ts seat.program v s;
      next = next_is p.slots p.requests (IsSpoken clients) broken done trace (t ∷ ts) c m.seat seat call next s.explains at does;
      word = refl;
    },
  ))
  new_step seat v call next at does tasks asks trace done (t ∷ ts) s e (inr n) = inl n

  -- whoever is asked and answers that it failed is the link broken in the tick
  broken_here : (seat : SeatState) (k : ℕ) → get_elem? c.seats m.seat ≡ some seat → is_refusal m.answer ≡ true → asked_link seat.program ≡ k ∷ [] → In k (lost_at c m)
  broken_here seat k at refuses asked = let a : broken_at c m ≡ asked_link seat.program = ap (λ b. cond b (elim (get_elem? c.seats m.seat) as (λ o. List ℕ) [ none ↦ [] | some seat ↦ asked_link seat.program ]) []) refuses
      ∙ ap (λ o. elim o as (λ o. List ℕ) [ none ↦ [] | some seat ↦ asked_link seat.program ]) at in
      in_left (broken_at c m) (closed_at c m) k (subst (In k) (sym (a ∙ asked)) (inl refl))

  put_broken : (seat : SeatState) (k : ℕ) (answer : Put) → get_elem? c.seats m.seat ≡ some seat → m.answer ≡ OfPut answer → asked_link seat.program ≡ k ∷ [] → (x : ℕ) → In x (broken_put k answer broken) → In x broken ⊎ In x (lost_at c m)
  put_broken seat k puts.Failed at is asked x (inl e) = inr (subst (λ z. In z (lost_at c m)) (sym e) (broken_here seat k at (ap is_refusal is) asked))
  put_broken seat k puts.Failed at is asked x (inr n) = inl n
  put_broken seat k (puts.Took b) at is asked x n = inl n
  put_broken seat k puts.Again at is asked x n = inl n

  ready_broken : (seat : SeatState) (k : ℕ) (answer : Ready) → get_elem? c.seats m.seat ≡ some seat → m.answer ≡ OfReady answer → asked_link seat.program ≡ k ∷ [] → (x : ℕ) → In x (broken_ready k answer broken) → In x broken ⊎ In x (lost_at c m)
  ready_broken seat k asks.Failed at is asked x (inl e) = inr (subst (λ z. In z (lost_at c m)) (sym e) (broken_here seat k at (ap is_refusal is) asked))
  ready_broken seat k asks.Failed at is asked x (inr n) = inl n
  ready_broken seat k asks.Now at is asked x n = inl n
  ready_broken seat k asks.NotYet at is asked x n = inl n

  put_within : (k : ℕ) (answer : Put) → Within broken (broken_put k answer broken)
  put_within k puts.Failed x n = inr n
  put_within k (puts.Took b) x n = n
  put_within k puts.Again x n = n

  ready_within : (k : ℕ) (answer : Ready) → Within broken (broken_ready k answer broken)
  ready_within k asks.Failed x n = inr n
  ready_within k asks.Now x n = n
  ready_within k asks.NotYet x n = n

  -- a socket that is closed loses its link in the tick
  closed_here : (seat : SeatState) (call : TableStep) (next : ℕ → Program) → get_elem? c.seats m.seat ≡ some seat → may_close m.seat ≡ true → (call_in seat.program ≡ Some call) ⊎ (lost_of c.words call ≡ []) → (k : ℕ) → In k (lost_of c.words call) → In k (lost_at c m)
  closed_here seat call next at closes is k n = in_right (broken_at c m) (closed_at c m) k (subst (In k) (sym (ap (λ b. cond b (elim (get_elem? c.seats m.seat) as (λ o. List ℕ) [ none ↦ [] | some seat ↦ lost_by c.words (call_in seat.program) ]) []) closes
      ∙ ap (λ o. elim o as (λ o. List ℕ) [ none ↦ [] | some seat ↦ lost_by c.words (call_in seat.program) ]) at)) (⊎_elim (λ e. subst (λ o. In k (lost_by c.words o)) (sym e) n) (λ e. absurd (subst (In k) e n)) is))

  closes_is : (n : ℕ) → MayClose n → may_close n ≡ true
  closes_is n (inl zero_) = ap (λ b. b || nat_le 32 n) (eq-eqb n 0 zero_)
  closes_is n (inr late) = by_test (eqb n 0)
    where
      by_test : (b : Bool) → (b || nat_le 32 n) ≡ true
      by_test true = refl
      by_test false = le-leb 32 n late

  none_or_odd : (slots requests : ℕ) (calls : ℕ → Type 0) (done : List Done) (trace : List Entry) (todo : List Task) (program : Program) (call : TableStep) (next : ℕ → Program) → ExplainsBy slots requests calls Closing broken done trace todo program → first_step program ≡ Do call next
      → (call_in program ≡ Some call) ⊎ (lost_of c.words call ≡ [])
  none_or_odd slots requests calls done trace todo program (OnSlot (SetOdd j)) next x e = inl (odd_here slots requests calls broken done trace todo program j next x e)
  none_or_odd slots requests calls done trace todo program _ next x e = inr refl

  -- of a seat, its client and that client's part of the story
  record Teller (seat : SeatState) (v : View) : Type 0 where
    pub tasks : List Task
    pub asks_ : slice_get clients m.seat ≡ Some tasks
    pub way : Way
    pub trace : List Entry
    pub done : List Done
    pub todo : List Task
    pub told : SeatAt p (IsSpoken clients) over es broken c.outcomes m.seat tasks way trace done todo seat.program v
    pub first : ExplainsBy p.slots p.requests (IsSpoken clients) way broken done trace todo (first_step seat.program)

  teller : (seat : SeatState) (v : View) → get_elem? c.seats m.seat ≡ some seat → get_elem? vs m.seat ≡ some v → Teller seat v
  teller seat v at here = let a = get_of c.seats clients m.seat seat story.each at in let y = story.seats m.seat a.0 seat v a.1 at here in record {
    tasks = a.0;
    asks_ = a.1;
    way = y.way;
    trace = y.trace;
    done = y.done;
    todo = y.todo;
    told = y.at;
    first = first_explains p.slots p.requests (IsSpoken clients) y.way broken y.done y.trace y.todo seat.program y.at.explains;
  }

  first_as : (seat : SeatState) (v : View) (t : Teller seat v) (q : Program) → first_step seat.program ≡ q → ExplainsBy p.slots p.requests (IsSpoken clients) t.way broken t.done t.trace t.todo q
  first_as seat v t q is = subst (ExplainsBy p.slots p.requests (IsSpoken clients) t.way broken t.done t.trace t.todo) is t.first

  goes_moved : (a : Calls) → AreSpoken clients a → (seat : SeatState) (v : View) (next : Program) (hand : List Home) (hs : List (Option Home)) → get_elem? c.seats m.seat ≡ some seat → get_elem? vs m.seat ≡ some v → (w : View) → ((rights : List Right) × (w ≡ with_rights v rights))
      → (broken' : List ℕ) → Within broken broken' → ((k : ℕ) → In k broken' → In k broken ⊎ In k (lost_at c m)) → (t : Teller seat v) → ExplainsBy p.slots p.requests (IsSpoken clients) t.way broken' t.done t.trace t.todo next
      → Goes (with_seat m.seat next hand c.words hs (record c { calls = a })) (set vs m.seat w)
  goes_moved a spoken seat v next hand hs at here w rights broken' within losses t x = record {
    events = es;
    lost = broken';
    told = subst (λ u. Story p clients over (with_seat m.seat next hand c.words hs (record c { calls = a })) (set vs m.seat u) es broken') (sym rights.1)
        (moved p clients are over c vs es broken sound story m.seat seat v t.tasks at here t.asks_ a spoken t.way t.trace t.done t.todo seat.program next hand hs rights.0 broken' within x t.told);
    fresh = λ e n. inl n;
    kept = λ e n. n;
    losses = losses;
  }

  same_story : Goes c vs
  same_story = record { events = es; lost = broken; told = story; fresh = λ e n. inl n; kept = λ e n. n; losses = λ k n. inl n }

  -- a step on a word
  goes_step : (seat : SeatState) (v : View) (call : TableStep) (next : ℕ → Program) → get_elem? c.seats m.seat ≡ some seat → get_elem? vs m.seat ≡ some v → first_step seat.program ≡ Do call next → May p v call → (tasks : List Task) → slice_get clients m.seat ≡ Some tasks
      → (way : Way) (trace : List Entry) (done : List Done) (todo : List Task) → SeatAt p (IsSpoken clients) over es broken c.outcomes m.seat tasks way trace done todo seat.program v
      → ExplainsBy p.slots p.requests (IsSpoken clients) way broken done trace todo (Do call next) → Goes (stepped p m.seat seat call next c) (set vs m.seat (row p call (found_at c.words (word_of p call)) (hand_at p c.words c.homes call) v))
  goes_step seat v call next at here is may tasks asks_ way trace done todo told first = by_way way told
      (seat_moves p (IsSpoken clients) over es broken broken (λ k n. n) c.outcomes m.seat tasks way trace done todo seat.program (Do call next) v v refl refl refl first told)
    where
      by_way : (w : Way) → SeatAt p (IsSpoken clients) over es broken c.outcomes m.seat tasks w trace done todo seat.program v → SeatAt p (IsSpoken clients) over es broken c.outcomes m.seat tasks w trace done todo (Do call next) v
          → Goes (stepped p m.seat seat call next c) (set vs m.seat (row p call (found_at c.words (word_of p call)) (hand_at p c.words c.homes call) v))
      by_way Own old s = record {
        events = told_of m.seat todo (step call (found_at c.words (word_of p call))) es;
        lost = broken;
        told = own_story p clients are over c vs es broken sound story m.seat seat v tasks at here asks_ call next may trace done moves todo s;
        fresh = new_step seat v call next at is tasks asks_ trace done todo old;
        kept = λ e n. still_told m.seat todo (step call (found_at c.words (word_of p call))) es e n;
        losses = λ k n. inl n;
      }
      by_way Beside old s = record {
        events = es;
        lost = broken;
        told = beside_story p clients are over c vs es broken sound story m.seat seat v tasks at here asks_ call next may trace done todo s;
        fresh = λ e n. inl n;
        kept = λ e n. n;
        losses = λ k n. inl n;
      }
      by_way Closing old s = record {
        events = es;
        lost = lost_of c.words call ++ broken;
        told = closing_story p clients are over c vs es broken sound story m.seat seat v tasks at here asks_ call next may trace done todo s;
        fresh = λ e n. inl n;
        kept = λ e n. n;
        losses = λ k n. ⊎_elim (λ a. inr (closed_here seat call next at (closes_is m.seat (old.closes refl)) (none_or_odd p.slots p.requests (IsSpoken clients) done trace todo seat.program call next old.explains is) k a)) (λ a. inl a) (in_both (lost_of c.words call) broken k n);
      }

  -- a tick keeps the story
  pub tick_story : Goes (ticked p c m) (views_after p c vs m)
  tick_story = tick_cases p c vs m sound answered Goes same_story
      (λ seat v call next at here is goes. let t = teller seat v at here in goes_step seat v call next at here is goes.0 t.tasks t.asks_ t.way t.trace t.done t.todo t.told (first_as seat v t (Do call next) is))
      (λ seat v q next heading bytes at here is goes lies. let t = teller seat v at here in
      goes_moved c.calls story.spoken seat v (next heading bytes) seat.hand (set c.homes q none) at here (took_message heading bytes v) (right_rights v v.rights (λ r. taken_right r heading bytes)) broken (λ k n. n) (λ k n. inl n) t (first_as seat v t (TakeMessage q next) is heading bytes))
      (λ seat v k next took n at here is goes lies. let t = teller seat v at here in
      goes_moved c.calls story.spoken seat v (next n) (lies_at c.homes (link_place p k) ++ seat.hand) (set c.homes (link_place p k) none) at here (link_away v) (right_rights v v.rights (λ r. record r { at_home = false })) broken (λ k n. n) (λ k n. inl n) t (first_as seat v t (TakeHome k next) is n))
      (λ seat v k n after at here is goes. let t = teller seat v at here in
      goes_moved c.calls story.spoken seat v after (others_of seat.hand) (set c.homes (link_place p k) (first_of (onto_first (with_places n) seat.hand))) at here (link_home_again v) (right_rights v v.rights (λ r. record r { at_home = true })) broken (λ k n. n) (λ k n. inl n) t (first_as seat v t (PutHome k n after) is))
      (λ seat v k asked bytes next answer at here is goes answer_is fits. let t = teller seat v at here in
      goes_moved c.calls story.spoken seat v (next answer) (onto_first (fed bytes answer) seat.hand) c.homes at here (took_bytes answer v) (put_rights v answer) (broken_put k answer broken) (put_within k answer)
      (put_broken seat k answer at answer_is (asks_put seat.program k asked bytes next is)) t (first_as seat v t (PutBytes k asked bytes next) is answer))
      (λ seat v k next answer at here is goes answer_is. let t = teller seat v at here in
      subst (λ ws. Goes (with_seat m.seat (next answer) seat.hand c.words c.homes c) ws) (set_again vs m.seat v here)
      (goes_moved c.calls story.spoken seat v (next answer) seat.hand c.homes at here v (v.rights, refl) (broken_ready k answer broken) (ready_within k answer)
      (ready_broken seat k answer at answer_is (asks_ready seat.program k next is)) t (first_as seat v t (AskReady k next) is answer)))
      (λ seat v s next found at here is goes found_is. let t = teller seat v at here in let x = first_as seat v t (Aside s next) is in let a : Calls = calls_after s found c.calls in
      subst (λ ws. Goes (with_seat m.seat (next found) seat.hand c.words c.homes (record c { calls = calls_after s found c.calls })) ws) (set_again vs m.seat v here)
      (goes_moved (calls_after s found c.calls) (spoken_after clients s found c.calls x.0 story.spoken) seat v (next found) seat.hand c.homes at here v (v.rights, refl) broken (λ k n. n) (λ k n. inl n) t (x.1 found (takes_spoken clients s found c.calls (taken m.answer) found_is story.spoken))))
