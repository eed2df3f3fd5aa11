-- In a whole run each client has its sends and first attempts accepted in the order of its operations.
use Rattle.std.proofs.Common.{◌≡◌, ◌≢◌, ℕ, zero, suc, ◌+◌, ◌-◌, ◌%◌, ◌<◌, ◌≤◌, ◌==◌, true, false, cond, eq-eqb, ne_eqb, nat_lt, List, [], ◌∷◌, ◌++◌, replicate, get_or, set, get_or-set_other, ⊎_elim, refl, sym, ap, ◌∙◌, subst, arith}
use Rattle.std.proofs.lemmas.Bool.{true≢false}
use Rattle.std.specs.List.{AllByRecursion}
use mathlib.Core.Logic.{dite}
use mathlib.Core.Option.{Option, none, some, some-injective, some-ne-none}
use native.Mathlib.Decide.{ℕ_discrete}
use lib.ListN.{get_elem?}
use Rattle.atomic_table.proofs.Lists.{at_set}
use Rattle.seat_programs.specs.brpc_model.specs.Items.{Item}
use Rattle.seat_programs.specs.brpc_model.specs.Operations.{Turn, clients}
use Rattle.seat_programs.specs.brpc_model.specs.Order.{EachBefore}
use Rattle.sock_words.specs.declared.plain.Plan.{Plan}
use Rattle.sock_model.specs.declared.chain.Claim.{Claim}
use Rattle.sock_model.specs.declared.chain.Entry.{Entry}
use Rattle.sock_model.specs.declared.chain.Heading.{Heading}
use Rattle.sock_model.specs.declared.chain.Right.{Right}
use Rattle.sock_model.specs.declared.home.Home.{Home}
use Rattle.sock_model.specs.declared.view.Hand.{Hand}
use Rattle.sock_model.specs.declared.view.View.{View}
use Rattle.sock_model.specs.ChainRows.{with_claim, entry_of, more, queued, righted, taken_right, ready_claim, filled_claim}
use Rattle.seat_programs.specs.declared.task.Sizes.{Sizes}
use Rattle.seat_programs.specs.declared.task.Task.{Task}
use Rattle.seat_programs.specs.FoundAndChangedAside.{calls_after}
use Rattle.seat_programs.specs.TableSteps.{TableStep, OnChain, OnMessage, ClaimRequest, PutMessage, Unconnect, SwapHead}
use Rattle.seat_programs.specs.ClientProgram.{client_from, ending_of}
use Rattle.seat_programs.specs.Cores.{Calls, Core, SeatState, found_at, words_after, homes_after, hand_after, lies_at, first_of, others_of, link_place, resolved, still_waiting, waiting_at, next_step, with_seat}
use Rattle.seat_programs.specs.StepTables.{word_of, word_after}
use Rattle.seat_programs.specs.LoopHeads.{Retry}
use Rattle.seat_programs.specs.Programs.{Program, Do, TakeMessage, TakeHome, PutHome, PutBytes, AskReady, Aside}
use Rattle.seat_programs.specs.ScriptSetupToEnding.{sizes_of, programs, readers_from, all_programs, all_tasks, opened, set_up, is_ending, IsRunWithCalls}
use Rattle.seat_programs.specs.Tasks.{opens, calls, plan_of, id_plan_of}
use Rattle.seat_programs.specs.Ticks.{Moment, IsAnswered, AreAnswered, fed, with_places, onto_first, quiet, ticked, run}
use Rattle.seat_programs.specs.Explained.{AreTasks, IsTask}
use Rattle.seat_programs.specs.ExplainedCalls.{Accepted, Order, Fixed, InOwnOrder}
use Rattle.seat_programs.specs.StepTables.{May}
use Rattle.seat_programs.specs.StepTables.{row, hand_at}
use Rattle.seat_programs.specs.StepViews.{by_claim}
use Rattle.seat_programs.specs.StepsOfChain.{exchanged}
use Rattle.seat_programs.specs.StepsOfMessages.{took_message}
use Rattle.seat_programs.specs.StepsOfLinks.{link_away, link_home_again, took_bytes}
use Rattle.accept_counts.specs.Below.programs_allowed.specs.program_steps.specs.SoundSeats.{Sound, AreFitting, views_after, views_along}
use Rattle.accept_counts.specs.Below.programs_allowed.specs.program_steps.proofs.TickCases.{with_rights, right_rights, put_rights, tick_cases, calls_waiting}
use Rattle.accept_counts.specs.Below.programs_allowed.specs.program_steps.proofs.Leaves.{claim_way}
use Rattle.accept_counts.specs.Below.programs_allowed.specs.sock_runs.proofs.LinkTicks.{RetriesGo}
use Rattle.accept_counts.specs.Below.programs_allowed.specs.program_walks.proofs.OpenedLivesRecorded.{mapped, all_at}
use Rattle.accept_counts.specs.Below.programs_allowed.specs.sock_runs.proofs.TicksKeepSeatsSound.{sound_ticks}
use Rattle.accept_counts.specs.Below.programs_allowed.specs.program_walks.proofs.WholeScriptSound.{Begins, AreFittingIn, closing_of, rested_of, views_played, views_closed, views_ended, set_up_answered, end_answered, set_up_sound, closing_sound, closed_sound, ended_sound}
use Rattle.accept_counts.specs.Below.outcome_stories.specs.StoryStepCauses.{Asks}
use Rattle.accept_counts.specs.Below.outcome_stories.specs.PlainTasks.{OwnsCall}
use Rattle.accept_counts.specs.Below.outcome_stories.proofs.Delivered.{accepted_of, orders_of}
use Rattle.accept_counts.specs.Below.outcome_stories.proofs.Members.{all_in, all_of, contains_in}
use Rattle.accept_counts.specs.Below.outcome_causes.proofs.MessagesOfTasks.{in_of_at}
use Rattle.accept_counts.specs.Below.outcome_causes.proofs.SocketCausesOfScripts.{own_from}
use Rattle.accept_counts.specs.Below.outcome_stories.proofs.SendersOfLogEntries.{HasSent, sent_in, each_before}
use Rattle.accept_counts.specs.Below.outcome_ticks.proofs.TableTasksDistinct.{one_task, sorted_of}
use Rattle.accept_counts.specs.Below.outcome_stories.proofs.Tests.{split}
use Rattle.accept_counts.proofs.ProgramsAtBeginning.{all_begin}
use Rattle.accept_counts.proofs.FirstsAcceptedInOrder.{behind, Firsts, AreLater, client_firsts, ending_firsts, reader_firsts, firsts_first, firsts_next}
use Rattle.accept_counts.proofs.ClaimViewsBehindSteps.{Same, row_same}
use Rattle.accept_counts.specs.Below.script_facts.proofs.FilteredLists.{all_map}
use Rattle.accept_counts.specs.Below.script_facts.proofs.ScriptSizes.{all_more}
use Rattle.accept_counts.specs.Below.owned_ids.proofs.OpensStored.{place_at}
use Rattle.seat_programs.specs.LoopRounds.{first_step}
use Rattle.sock_words.specs.PackedWords.{IDLE}

-- ## Messages of one seat

-- of two first messages the former has the lower number
abbrev Before : Heading → Heading → Type 0
Before h g = h.label.attempt ≡ 0 → g.label.attempt ≡ 0 → h.label.operation < g.label.operation

abbrev EntriesBefore : Entry → Entry → Type 0
EntriesBefore d e = Before d.heading e.heading

before_more : (l : List Entry) (e : Entry) → EachBefore EntriesBefore l → AllByRecursion (λ (x : Entry). Before x.heading e.heading) l → EachBefore EntriesBefore (l ++ e ∷ [])
before_more [] e sorted all = (tt, tt)
before_more (x ∷ l) e sorted all = (one_more l sorted.0, before_more l e sorted.1 all.1)
  where
    one_more : (l : List Entry) → AllByRecursion (EntriesBefore x) l → AllByRecursion (EntriesBefore x) (l ++ e ∷ [])
    one_more [] a = (all.0, tt)
    one_more (y ∷ l) a = (a.0, one_more l a.1)

before_get : {A : Type 0} (R : A → A → Type 0) (xs : List A) (m n : ℕ) (x y : A) → EachBefore R xs → get_elem? xs m ≡ some x → get_elem? xs n ≡ some y → m < n → R x y
before_get R [] m n x y a e f l = absurd (some-ne-none x (sym e))
before_get R (z ∷ xs) m zero x y a e f l = absurd (omega arith)
before_get R (z ∷ xs) zero (suc n) x y a e f l = subst (λ w. R w y) (some-injective z x e) (all_at (R z) xs n y a.0 f)
before_get R (z ∷ xs) (suc m) (suc n) x y a e f l = before_get R xs m n x y a.1 e f (omega arith)

module _ (mine : ℕ → Type 0) where
  -- a first message of these operations, before this number
  abbrev Old : ℕ → Heading → Type 0
  Old low h = h.label.attempt ≡ 0 → (h.label.operation < low) × mine h.label.operation

  -- what the seat claimed a request for stands behind all that it sent
  abbrev ClaimGoes : ℕ → List Entry → Claim → Type 0
  ClaimGoes low made c = c.filled ≡ true → Old low c.heading × AllByRecursion (λ (x : Entry). Before x.heading c.heading) made

  pub record ViewGoes (low : ℕ) (v : View) : Type 0 where
    pub made : List Entry
    pub lists : v.lists ≡ made ∷ []
    pub ordered : EachBefore EntriesBefore made
    pub old : AllByRecursion (λ (x : Entry). Old low x.heading) made
    pub claims : AllByRecursion (ClaimGoes low made) v.claims

  same_goes : (low : ℕ) (v u : View) → Same v u → ViewGoes low v → ViewGoes low u
  same_goes low v u s g = record { made = g.made; lists = s.1 ∙ g.lists; ordered = g.ordered; old = g.old; claims = subst (AllByRecursion (ClaimGoes low g.made)) (sym s.0) g.claims }

  abbrev low_behind : TableStep → ℕ → ℕ
  low_behind (OnMessage (PutMessage q heading bytes)) low = behind heading low
  low_behind other low = low

  abbrev Puts : ℕ → TableStep → Type 0
  Puts low (OnMessage (PutMessage q heading bytes)) = heading.label.attempt ≡ 0 → (low ≤ heading.label.operation) × mine heading.label.operation
  Puts low other = Unit {0}

  goes_do : (low : ℕ) (call : TableStep) (next : ℕ → Program) → Firsts mine low (Do call next) → Puts low call × ((found : ℕ) → Firsts mine (low_behind call low) (next found))
  goes_do low (OnMessage (PutMessage q heading bytes)) next x = x
  goes_do low _ next x = (tt, x)

  -- ## A step

  module _ (p : Plan) (low found : ℕ) (hand : Hand) (v : View) (g : ViewGoes low v) where
    claimed_goes : (id q : ℕ) → ViewGoes low (row p (OnChain (ClaimRequest id q)) found hand v)
    claimed_goes id q = split (found % 2 == 0) _ v (ViewGoes low) (record { made = g.made; lists = g.lists; ordered = g.ordered; old = g.old; claims = ((λ e. absurd (true≢false (sym e))), tt) }) g

    ready_goes : (cs : List Claim) → v.claims ≡ cs → ViewGoes low (by_claim cs (λ c. with_claim v (ready_claim c)) v)
    ready_goes [] e = g
    ready_goes (c ∷ cs) e = record { made = g.made; lists = g.lists; ordered = g.ordered; old = g.old; claims = ((subst (AllByRecursion (ClaimGoes low g.made)) e g.claims).0, tt) }

    module _ (heading : Heading) (puts : heading.label.attempt ≡ 0 → (low ≤ heading.label.operation) × mine heading.label.operation) where
      below_it : heading.label.attempt ≡ 0 → behind heading low ≡ heading.label.operation + 1
      below_it z = ap (λ b. cond b (heading.label.operation + 1) low) (eq-eqb heading.label.attempt 0 z)

      grows : low ≤ behind heading low
      grows = dite (ℕ_discrete heading.label.attempt 0) (λ z. omega (arith, below_it z, (puts z).0))
          (λ n. (let e : behind heading low ≡ low = ap (λ b. cond b (heading.label.operation + 1) low) (ne_eqb heading.label.attempt 0 n) in omega (arith, e)))

      older : (h : Heading) → Old low h → Old (behind heading low) h
      older h o z = (omega (arith, (o z).0, grows), (o z).1)

      all_older : AllByRecursion (λ (x : Entry). Old (behind heading low) x.heading) g.made
      all_older = all_map (λ (x : Entry). Old low x.heading) (λ (x : Entry). Old (behind heading low) x.heading) (λ x o. older x.heading o) g.made g.old

      weaker : ViewGoes (behind heading low) v
      weaker = record { made = g.made; lists = g.lists; ordered = g.ordered; old = all_older; claims = all_map (ClaimGoes low g.made) (ClaimGoes (behind heading low) g.made) (λ c o e. (older c.heading (o e).0, (o e).1)) v.claims g.claims }

      put_goes : (q : ℕ) (bytes : List ℕ) → ViewGoes (behind heading low) (row p (OnMessage (PutMessage q heading bytes)) found hand v)
      put_goes q bytes = claim_way (ViewGoes (behind heading low)) v.claims (λ c. with_claim v (filled_claim c heading bytes)) v weaker (λ c. record {
        made = g.made;
        lists = g.lists;
        ordered = g.ordered;
        old = all_older;
        claims = (
          (λ e. (
            λ z. (omega (arith, below_it z), (puts z).1),
            all_map (λ (x : Entry). Old low x.heading) (λ (x : Entry). Before x.heading heading) (λ x o a b. omega (arith, (o a).0, (puts b).0)) g.made g.old,
          )),
          tt,
        );
      })

    more_goes : (c : Claim) (n : ℕ) → Old low c.heading × AllByRecursion (λ (x : Entry). Before x.heading c.heading) g.made → (u : View) → u.claims ≡ [] → u.lists ≡ more v.lists (entry_of c n) → ViewGoes low u
    more_goes c n o u none_ is = record {
      made = g.made ++ entry_of c n ∷ [];
      lists = is ∙ ap (λ l. more l (entry_of c n)) g.lists;
      ordered = before_more g.made (entry_of c n) g.ordered o.1;
      old = all_more (λ (x : Entry). Old low x.heading) g.made (entry_of c n) g.old o.0;
      claims = subst (AllByRecursion (ClaimGoes low (g.made ++ entry_of c n ∷ []))) (sym none_) tt;
    }

    swap_goes : (i own : ℕ) → May p v (OnChain (SwapHead i own)) → (cs : List Claim) → v.claims ≡ cs → ViewGoes low (by_claim cs (exchanged found hand v) v)
    swap_goes i own may [] e = g
    swap_goes i own may (c ∷ cs) e = let m = may.1 in let same : m.claim ∷ [] ≡ c ∷ cs = sym m.claims ∙ e in let one : m.claim ≡ c = cc in
        let filled : c.filled ≡ true = ap (λ (x : Claim). x.filled) (sym one) ∙ m.is_filled in let o = (subst (AllByRecursion (ClaimGoes low g.made)) e g.claims).0 filled in
        split (nat_lt found IDLE) (queued v c found) (righted v c found hand.took hand.next) (ViewGoes low) (more_goes c found o (queued v c found) refl refl) (more_goes c (found - IDLE) o (righted v c found hand.took hand.next) refl refl)

    row_goes : (call : TableStep) → May p v call → Puts low call → ViewGoes (low_behind call low) (row p call found hand v)
    row_goes (OnChain (ClaimRequest id q)) may puts = claimed_goes id q
    row_goes (OnMessage (PutMessage q heading bytes)) may puts = put_goes heading puts q bytes
    row_goes (OnChain (Unconnect q)) may puts = ready_goes v.claims refl
    row_goes (OnChain (SwapHead i own)) may puts = swap_goes i own may v.claims refl
    row_goes call may puts = same_goes low v (row p call found hand v) (row_same v p found hand call refl) g

  rights_goes : (low : ℕ) (v u : View) (rights : List Right) → u ≡ with_rights v rights → ViewGoes low v → ViewGoes low u
  rights_goes low v u rights e g = subst (ViewGoes low) (sym e) (record { made = g.made; lists = g.lists; ordered = g.ordered; old = g.old; claims = g.claims })

  -- ## A tick

  -- of seat j
  module _ (j : ℕ) where
    pub record SeatGoes (c : Core) (vs : List View) : Type 0 where
      pub low : ℕ
      pub program : (seat : SeatState) → get_elem? c.seats j ≡ some seat → Firsts mine low seat.program
      pub view : (v : View) → get_elem? vs j ≡ some v → ViewGoes low v
      pub later : AreLater mine (waiting_at c.calls.waiting j)

    set_here : {A : Type 0} (P : List A → Type 0) → P [] → (xs : List (List A)) (i : ℕ) (y : List A) → P y → P (get_or (set xs i y) i [])
    set_here P none_ [] i y one = none_
    set_here P none_ (x ∷ xs) zero y one = one
    set_here P none_ (x ∷ xs) (suc i) y one = set_here P none_ xs i y one

    module _ (c : Core) (vs : List View) (before : SeatGoes c vs) (i : ℕ) (a : Calls) (kept : a.waiting ≡ c.calls.waiting) (x : Program) (hand : List Home) (ws : List ℕ) (hs : List (Option Home)) where
      abbrev After : List View → Type 0
      After us = SeatGoes (with_seat i x hand ws hs (record c { calls = a })) us

      later_here : i ≡ j → AreLater mine (waiting_at a.waiting i)
      later_here e = subst (λ n. AreLater mine (waiting_at a.waiting n)) (sym e) (subst (λ (l : List (List Retry)). AreLater mine (waiting_at l j)) (sym kept) before.later)

      after_here : i ≡ j → (us : List View) (low : ℕ) → Firsts mine low x → ((v : View) → get_elem? us j ≡ some v → ViewGoes low v) → After us
      after_here e us low goes views = record {
        low = low;
        program = λ s at. ⊎_elim (λ b. subst (λ (z : SeatState). Firsts mine low z.program) b.1 (firsts_next mine low (waiting_at a.waiting i) x (later_here e) goes).0) (λ b. absurd (b.0 (sym e))) (at_set c.seats i j _ s at);
        view = views;
        later = subst (λ n. AreLater mine (waiting_at (set a.waiting i (still_waiting (waiting_at a.waiting i) x)) n)) e
            (set_here (AreLater mine) tt a.waiting i (still_waiting (waiting_at a.waiting i) x) (firsts_next mine low (waiting_at a.waiting i) x (later_here e) goes).1);
      }

      after_else : i ≢ j → (us : List View) → ((v : View) → get_elem? us j ≡ some v → get_elem? vs j ≡ some v) → After us
      after_else ne us views = record {
        low = before.low;
        program = λ s at. ⊎_elim (λ b. absurd (ne (sym b.0))) (λ b. before.program s b.1) (at_set c.seats i j _ s at);
        view = λ v at. before.view v (views v at);
        later = subst (AreLater mine) (sym (get_or-set_other a.waiting i j (still_waiting (waiting_at a.waiting i) x) [] (λ e. ne (sym e)))) (subst (λ (l : List (List Retry)). AreLater mine (waiting_at l j)) (sym kept) before.later);
      }

      moves : (w : View) → (i ≡ j → (low : ℕ) × Firsts mine low x × ViewGoes low w) → After (set vs i w)
      moves w f = dite (ℕ_discrete i j)
          (λ e. let g = f e in after_here e (set vs i w) g.0 g.1 (λ v at. ⊎_elim (λ b. subst (ViewGoes g.0) b.1 g.2) (λ b. absurd (b.0 (sym e))) (at_set vs i j w v at)))
          (λ ne. after_else ne (set vs i w) (λ v at. ⊎_elim (λ b. absurd (ne (sym b.0))) (λ b. b.1) (at_set vs i j w v at)))

      pub stays : (i ≡ j → Firsts mine before.low x) → After vs
      stays f = dite (ℕ_discrete i j) (λ e. after_here e vs before.low (f e) before.view) (λ ne. after_else ne vs (λ v at. at))

    module _ (p : Plan) (c : Core) (vs : List View) (sound : Sound p c vs) (m : Moment) (answered : IsAnswered c m) (before : SeatGoes c vs) where
      program_here : (seat : SeatState) → get_elem? c.seats m.seat ≡ some seat → m.seat ≡ j → (y : Program) → first_step seat.program ≡ y → Firsts mine before.low y
      program_here seat at e y is = subst (Firsts mine before.low) is (firsts_first mine before.low seat.program (before.program seat (ap (get_elem? c.seats) (sym e) ∙ at)))

      view_here : (v : View) → get_elem? vs m.seat ≡ some v → m.seat ≡ j → ViewGoes before.low v
      view_here v at e = before.view v (ap (get_elem? vs) (sym e) ∙ at)

      first_ticks : SeatGoes (ticked p c m) (views_after p c vs m)
      first_ticks = tick_cases p c vs m sound answered SeatGoes before
          (λ seat v call next at here is goes. let found : ℕ = found_at c.words (word_of p call) in
          moves c vs before m.seat c.calls refl (next found) (hand_after p call c.homes seat.hand) (words_after c.words (word_of p call) (word_after call found)) (homes_after p call seat.hand c.homes)
          (row p call found (hand_at p c.words c.homes call) v)
          (λ e. let f = goes_do before.low call next (program_here seat at e (Do call next) is) in (low_behind call before.low, f.1 found, row_goes p before.low found (hand_at p c.words c.homes call) v (view_here v here e) call goes.0 f.0)))
          (λ seat v r next heading bytes at here is goes lies. let w = right_rights v v.rights (λ x. taken_right x heading bytes) in
          moves c vs before m.seat c.calls refl (next heading bytes) seat.hand c.words (set c.homes r none) (took_message heading bytes v)
          (λ e. (before.low, program_here seat at e (TakeMessage r next) is heading bytes, rights_goes before.low v _ w.0 w.1 (view_here v here e))))
          (λ seat v k next took n at here is goes lies. let w = right_rights v v.rights (λ x. record x { at_home = false }) in
          moves c vs before m.seat c.calls refl (next n) (lies_at c.homes (link_place p k) ++ seat.hand) c.words (set c.homes (link_place p k) none) (link_away v)
          (λ e. (before.low, program_here seat at e (TakeHome k next) is n, rights_goes before.low v _ w.0 w.1 (view_here v here e))))
          (λ seat v k n after at here is goes. let w = right_rights v v.rights (λ x. record x { at_home = true }) in
          moves c vs before m.seat c.calls refl after (others_of seat.hand) c.words (set c.homes (link_place p k) (first_of (onto_first (with_places n) seat.hand))) (link_home_again v)
          (λ e. (before.low, program_here seat at e (PutHome k n after) is, rights_goes before.low v _ w.0 w.1 (view_here v here e))))
          (λ seat v k asked bytes next answer at here is goes answer_is fits. let w = put_rights v answer in
          moves c vs before m.seat c.calls refl (next answer) (onto_first (fed bytes answer) seat.hand) c.words c.homes (took_bytes answer v)
          (λ e. (before.low, program_here seat at e (PutBytes k asked bytes next) is answer, rights_goes before.low v _ w.0 w.1 (view_here v here e))))
          (λ seat v k next answer at here is goes answer_is. stays c vs before m.seat c.calls refl (next answer) seat.hand c.words c.homes (λ e. program_here seat at e (AskReady k next) is answer))
          (λ seat v s next found at here is goes found_is. stays c vs before m.seat (calls_after s found c.calls) (calls_waiting s found c.calls) (next found) seat.hand c.words c.homes (λ e. program_here seat at e (Aside s next) is found))

    pub run_firsts : (p : Plan) → RetriesGo p → (c : Core) (vs : List View) (ms : List Moment) → Sound p c vs → AreAnswered p c ms → AreFitting p c ms → SeatGoes c vs → SeatGoes (run p c ms) (views_along p c vs ms)
    run_firsts p go c vs [] sound answered fitting g = g
    run_firsts p go c vs (m ∷ ms) sound answered fitting g = run_firsts p go (ticked p c m) (views_after p c vs m) ms (sound_ticks p go c vs m sound answered.0 fitting.0) answered.1 fitting.1 (first_ticks p c vs sound m answered.0 g)

-- ## How a run begins

none_waits : (mine : ℕ → Type 0) (n j : ℕ) → AreLater mine (waiting_at (replicate n []) j)
none_waits mine zero j = tt
none_waits mine (suc n) zero = tt
none_waits mine (suc n) (suc j) = none_waits mine n j

-- the operations of client j
abbrev pub IsOwnOperation : List (List Task) → ℕ → ℕ → Type 0
IsOwnOperation clients j o = (t : Task) × Asks clients j t × (t.number ≡ o)

module _ (script : List Item) (are : AreTasks (plan_of script) (all_tasks script)) where
  clients_firsts : (j : ℕ) (x : Program) → get_elem? (programs (sizes_of (plan_of script) (id_plan_of script)) (all_tasks script)) j ≡ some x → Firsts (IsOwnOperation (all_tasks script) j) 0 x
  clients_firsts j x at = let sizes : Sizes = sizes_of (plan_of script) (id_plan_of script) in let t = mapped (client_from sizes []) (all_tasks script) j x at in
      let here = place_at (all_tasks script) j t.0 t.1 in
      subst (Firsts (IsOwnOperation (all_tasks script) j) 0) t.2 (client_firsts (IsOwnOperation (all_tasks script) j) sizes t.0 [] 0 (sorted_of (plan_of script) (all_tasks script) are j t.0 here)
      (all_in (AllByRecursion (λ (u : Task). OwnsCall u.number u.op)) (all_tasks script) t.0 (own_from script 0 (clients script + 1)) (in_of_at (all_tasks script) j t.0 t.1))
      (all_of (λ (u : Task). (0 ≤ u.number) × IsOwnOperation (all_tasks script) j u.number) t.0 (λ u m. (omega arith, (u, (t.0, here, m), refl)))))

  all_firsts : (j : ℕ) (x : Program) → get_elem? (all_programs (programs (sizes_of (plan_of script) (id_plan_of script)) (all_tasks script)) (readers_from (calls script) 0 (opens script))) j ≡ some x → Firsts (IsOwnOperation (all_tasks script) j) 0 x
  all_firsts j x at = all_begin (Firsts (IsOwnOperation (all_tasks script) j) 0) tt (calls script) (λ k o. reader_firsts (IsOwnOperation (all_tasks script) j) 0 (calls script) k o)
      (programs (sizes_of (plan_of script) (id_plan_of script)) (all_tasks script)) (opens script) j x (λ a. clients_firsts j x a) at

  module _ (vs : List View) (begins : Begins script vs) (go : RetriesGo (plan_of script)) (turns : List Turn) (core : Core) (is : IsRunWithCalls script turns core)
      (fitting : AreFittingIn script turns core is) (bare : (i : ℕ) (v : View) → get_elem? vs i ≡ some v → (v.claims ≡ []) × (v.lists ≡ [] ∷ [])) (j : ℕ) where
    abbrev Goes : Core → List View → Type 0
    Goes c us = SeatGoes (IsOwnOperation (all_tasks script) j) j c us

    begun : Goes (opened script) vs
    begun = record {
      low = 0;
      program = λ seat at. let x = mapped (λ (x : Program). record { program = next_step (resolved [] x); hand = [] }) (all_programs (programs (sizes_of (plan_of script) (id_plan_of script)) (all_tasks script)) (readers_from (calls script) 0 (opens script))) j seat at in
          subst (λ (s : SeatState). Firsts (IsOwnOperation (all_tasks script) j) 0 s.program) x.2 (firsts_next (IsOwnOperation (all_tasks script) j) 0 [] x.0 tt (all_firsts j x.0 x.1)).0;
      view = λ v at. record { made = []; lists = (bare j v at).1; ordered = tt; old = tt; claims = subst (AllByRecursion (ClaimGoes (IsOwnOperation (all_tasks script) j) 0 [])) (sym (bare j v at).0) tt };
      later = none_waits (IsOwnOperation (all_tasks script) j) (id_plan_of script).seats j;
    }

    set_up_goes : Goes (set_up script is.setup) (views_along (plan_of script) (opened script) vs (replicate is.setup (quiet 0)))
    set_up_goes = run_firsts (IsOwnOperation (all_tasks script) j) j (plan_of script) go (opened script) vs (replicate is.setup (quiet 0)) begins.sound (set_up_answered script are vs begins go turns core is fitting) fitting.of_setup begun

    played_goes : Goes (rested_of script turns core is) (views_played script turns core is vs)
    played_goes = run_firsts (IsOwnOperation (all_tasks script) j) j (plan_of script) go (set_up script is.setup) (views_along (plan_of script) (opened script) vs (replicate is.setup (quiet 0))) (is.scheduled ++ is.later)
        (set_up_sound script are vs begins go turns core is fitting) is.answered fitting.of_played set_up_goes

    closing_goes : Goes (closing_of script turns core is) (views_played script turns core is vs)
    closing_goes = stays (IsOwnOperation (all_tasks script) j) j (rested_of script turns core is) (views_played script turns core is vs) played_goes 0 (rested_of script turns core is).calls refl (ending_of (opens script)) []
        (rested_of script turns core is).words (rested_of script turns core is).homes (λ e. ending_firsts (IsOwnOperation (all_tasks script) j) played_goes.low (opens script))

    on_goes : (c : Core) (us : List View) → Goes c us → Goes (is_ending c) us
    on_goes c us g = record { low = g.low; program = g.program; view = g.view; later = g.later }

    closed_goes : Goes is.ended (views_closed script turns core is vs)
    closed_goes = subst (λ c. Goes c (views_closed script turns core is vs)) (sym is.is_ended)
        (on_goes (run (plan_of script) (closing_of script turns core is) (replicate is.last (quiet 0))) (views_closed script turns core is vs)
        (run_firsts (IsOwnOperation (all_tasks script) j) j (plan_of script) go (closing_of script turns core is) (views_played script turns core is vs) (replicate is.last (quiet 0)) (closing_sound script are vs begins go turns core is fitting)
        (end_answered script are vs begins go turns core is fitting) fitting.of_closing closing_goes))

    pub ended_goes : Goes core (views_ended script turns core is vs)
    ended_goes = subst (λ c. Goes c (views_ended script turns core is vs)) (sym is.is_end)
        (run_firsts (IsOwnOperation (all_tasks script) j) j (plan_of script) go is.ended (views_closed script turns core is vs) is.final (closed_sound script are vs begins go turns core is fitting) is.answered_again fitting.of_final closed_goes)

  module _ (vs : List View) (begins : Begins script vs) (go : RetriesGo (plan_of script)) (turns : List Turn) (core : Core) (is : IsRunWithCalls script turns core)
      (fitting : AreFittingIn script turns core is) (bare : (i : ℕ) (v : View) → get_elem? vs i ≡ some v → (v.claims ≡ []) × (v.lists ≡ [] ∷ [])) where
    view_ended : (i : ℕ) (v : View) → get_elem? (views_ended script turns core is vs) i ≡ some v → ViewGoes (IsOwnOperation (all_tasks script) i) (ended_goes vs begins go turns core is fitting bare i).low v
    view_ended i v at = (ended_goes vs begins go turns core is fitting bare i).view v at

    asks_of : (c : ℕ) (t : Task) → IsTask (all_tasks script) core.outcomes c t → Asks (all_tasks script) c t
    asks_of c t a = (a.0, a.1, contains_in a.0 t a.2)

    -- a first message that a seat sent is of its own operation
    own_of : (i n : ℕ) (e : Entry) → HasSent (views_ended script turns core is vs) i n e → e.heading.label.attempt ≡ 0 → IsOwnOperation (all_tasks script) i e.heading.label.operation
    own_of i n e h z = let g = view_ended i h.view h.here in
        (all_at (λ (x : Entry). Old (IsOwnOperation (all_tasks script) i) (ended_goes vs begins go turns core is fitting bare i).low x.heading) g.made n e g.old
        (sent_in (views_ended script turns core is vs) i n e h.view g.made h h.here g.lists) z).1

    -- whatever the schedule, each client has its sends and first attempts accepted in the order of its operations
    module _ (fixed : Fixed) (gave : ℕ → List ℕ) (orders : ℕ → Order) where
      abbrev OwnOrder : Accepted → Accepted → Type 0
      OwnOrder a b = InOwnOrder (plan_of script) (all_tasks script) core.outcomes fixed gave orders a b

      own_before : (i m n : ℕ) (d e : Entry) → HasSent (views_ended script turns core is vs) i m d → HasSent (views_ended script turns core is vs) i n e → m < n → OwnOrder (accepted_of d) (accepted_of e)
      own_before i m n d e x y l c t u it iu td ue zt zu = let g = view_ended i x.view x.here in
          let less = before_get EntriesBefore g.made m n d e g.ordered (sent_in (views_ended script turns core is vs) i m d x.view g.made x x.here g.lists)
          (sent_in (views_ended script turns core is vs) i n e x.view g.made y x.here g.lists) l zt zu in omega (arith, less, td, ue)

      other_before : (i k m n : ℕ) (d e : Entry) → i ≢ k → HasSent (views_ended script turns core is vs) i m d → HasSent (views_ended script turns core is vs) k n e → OwnOrder (accepted_of d) (accepted_of e)
      other_before i k m n d e far x y c t u it iu td ue zt zu = let a = own_of i m d x zt in let b = own_of k n e y zu in
          absurd (far (sym (one_task (plan_of script) (all_tasks script) are c i t a.0 (asks_of c t it) a.1 (td ∙ sym a.2)).0 ∙ (one_task (plan_of script) (all_tasks script) are c k u b.0 (asks_of c u iu) b.1 (ue ∙ sym b.2)).0))

      pub run_own_order : (k : ℕ) → EachBefore OwnOrder (orders_of (plan_of script) core (views_ended script turns core is vs) (ended_sound script are vs begins go turns core is fitting).lawful k).accepted
      run_own_order k = each_before (plan_of script) core (views_ended script turns core is vs) (ended_sound script are vs begins go turns core is fitting).lawful (λ i v at. let g = view_ended i v at in (g.made, g.lists)) OwnOrder k own_before other_before
