-- Each tick keeps that the at word of an attempt tells the link of a socket that was found under its name, and that its message is over that socket.
use Rattle.std.proofs.Common.{◌≡◌, ◌≢◌, ℕ, zero, suc, ◌+◌, ◌-◌, ◌%◌, ◌<◌, ◌≤◌, ◌⊎◌, ◌==◌, inl, inr, ⊎_elim, Bool, true, false, cond, nat_lt, List, [], ◌∷◌, ◌++◌, length-set, get_or, set, get_or-set_other, refl, sym, ap, ◌∙◌, subst, arith}
use Rattle.std.specs.List.{AllByRecursion}
use Rattle.std.specs.Prelude as std
use Rattle.std.proofs.lemmas.Bool.{true≢false}
use mathlib.Core.Logic.{dite}
use native.Mathlib.Decide.{ℕ_discrete}
use mathlib.Core.Option.{Option, some, none, some-injective}
use lib.ListN.{get_elem?}
use Rattle.atomic_table.proofs.Lists.{at_set, set_again}
use Rattle.sock_words.specs.declared.plain.Plan.{Plan}
use Rattle.sock_words.specs.PackedWords.{socket_id_slot, socket_id_version, at_word, IDLE, id_slot, id_first}
use Rattle.sock_model.specs.declared.chain.Right.{Right}
use Rattle.sock_model.specs.declared.chain.Heading.{Heading}
use Rattle.sock_model.specs.declared.chain.Claim.{Claim}
use Rattle.sock_model.specs.declared.chain.Entry.{Entry}
use Rattle.sock_model.specs.declared.home.Home.{Home}
use Rattle.sock_model.specs.declared.view.View.{View}
use Rattle.sock_model.specs.declared.view.Hand.{Hand}
use Rattle.sock_model.specs.ChainRows.{with_claim, entry_of, more, queued, righted, ready_claim, filled_claim}
use Rattle.sock_model.specs.SlotRows.{met_link}
use Rattle.corr_core.specs.declared.marks.Plan.{Plan as IdPlan}
use Rattle.seat_programs.specs.id_rule.specs.LawfulIdTable as ids
use Rattle.own_decisions.specs.Below.id_runs.specs.HeldIdTokens.{IdView, MayId}
use Rattle.own_decisions.specs.Below.id_runs.specs.Goes.{FitsRetryId, FitsSock, SoundIds, IsFittingIds}
use Rattle.own_decisions.specs.Below.id_runs.proofs.AsideStepsKeepRule.{finds_ids}
use Rattle.seat_programs.specs.Asides.{Step, Found, ClaimId, PutCall, MakeId, StoreCall, StoreAt, LoadAt, LockId, PostId, UnlockId, EndId, FreeId, TakeCall, TakeBytes, Taking, Bytes}
use Rattle.sock_message.specs.Asked.{Asked, name_of}
use Rattle.seat_programs.specs.FoundAndChangedAside.{found_in, calls_after, more_given}
use Rattle.seat_programs.specs.TableSteps.{TableStep, OnSlot, OnName, OnChain, OnMessage, StoreName, LoadName, FindLink, ClaimRequest, PutMessage, Unconnect, SwapHead}
use Rattle.seat_programs.specs.LoopHeads.{Retry}
use Rattle.seat_programs.specs.Programs.{Program, Do, Say, Sent, Write, Aside, Round, Keep, Retries}
use Rattle.seat_programs.specs.Cores.{Calls, Core, SeatState, found_at, words_after, homes_after, hand_after, resolved, waiting_at, next_step, with_seat, stepped}
use Rattle.seat_programs.specs.StepTables.{word_of, word_after}
use Rattle.seat_programs.specs.declared.task.Task.{Task}
use Rattle.seat_programs.specs.Ticks.{Moment, IsAnswered, taken, ticked}
use Rattle.seat_programs.specs.StepTables.{May}
use Rattle.seat_programs.specs.StepTables.{row, hand_at}
use Rattle.seat_programs.specs.StepsOfChain.{new_claim, exchanged}
use Rattle.seat_programs.specs.StepViews.{by_claim}
use Rattle.own_decisions.specs.Below.programs_allowed.specs.program_steps.specs.SoundSeats.{Sound, views_after}
use Rattle.own_decisions.specs.Below.programs_allowed.specs.program_steps.proofs.TickCases.{with_rights, calls_waiting}
use Rattle.own_decisions.specs.Below.outcome_stories.specs.StoryStepCauses.{WasGiven}
use Rattle.own_decisions.specs.Below.outcome_stories.specs.KeptStory.{Story}
use Rattle.own_decisions.specs.Below.outcome_stories.specs.OperationStories.{Event, In, last_name}
use Rattle.own_decisions.specs.Below.outcome_ticks.proofs.EventsOfGoodStory.{event, marked_given, given_by, last_some}
use Rattle.own_decisions.specs.Below.outcome_ticks.proofs.Means.{held_given}
use Rattle.own_decisions.specs.Below.outcome_stories.proofs.Tests.{split}
use Rattle.own_decisions.specs.Below.label_runs.specs.AttemptLabelsLeft.{FindsLabel}
use Rattle.own_decisions.specs.accept_counts.specs.EndedCalls.{Load, loads_by, loaded_with, loaded_at, Store, stores_by, stored_at}
use Rattle.own_decisions.specs.accept_counts.proofs.IdWordsGoForward.{finds_label, makes_new}
use Rattle.own_decisions.specs.Below.outcome_stories.proofs.HomeCalls.{AreCalls, PutsAsked, calls_behind}
use Rattle.own_decisions.specs.accept_counts.proofs.TicksKeepAttemptLaw.{few_more, few_of, fits_as, pairs_set}
use Rattle.own_decisions.specs.Below.story_ticks.proofs.SaidBeforeNextStep.{AreFewTries as AreTries}
use Rattle.own_decisions.specs.accept_counts.proofs.ClaimViewsBehindSteps.{row_same}
use Rattle.attempted_calls.proofs.EndedTrails.{Of, NoCall, Makes, Knows, Trail, lost, Stays, IsAtOf, IsOwnStore, MayAttempt, GoesDo, GoesAside, Follows}
use Rattle.own_decisions.specs.accept_counts.proofs.SeatFacts.{seat_facts, tick_moves}
use Rattle.attempted_calls.proofs.EndedPrograms.{follows_round, block_goes, retry_goes}
use Rattle.own_decisions.specs.Below.script_facts.proofs.FilteredLists.{all_map}
use Rattle.seat_programs.specs.LoopRounds.{first_step}

-- ## First steps

pub follows_first : (is_call : Asked → Type 0) (t : Trail) (program : Program) → Follows is_call t program → Follows is_call t (first_step program)
follows_first is_call t (Write w after) g = block_goes is_call t w after g
follows_first is_call t (Round head next) g = follows_round is_call t head next g
follows_first is_call t _ g = g

-- ## What is known of names and links

abbrev one_name : ℕ → ℕ → List (ℕ × ℕ)
one_name m s = (m, s) ∷ []

no_name : (m s : ℕ) → [] ≡ one_name m s → ⊥
no_name m s e = cc

no_link : (k : ℕ) → [] ≡ k ∷ [] → ⊥
no_link k e = cc

abbrev first_number : List ℕ → ℕ
first_number [] = 0
first_number (x ∷ xs) = x

abbrev first_socket : List (ℕ × ℕ) → ℕ
first_socket [] = 0
first_socket (x ∷ xs) = x.1

module _ (is_call : Asked → Type 0) (seen : List Store) (es : List Event) where
  -- the socket was stored under the name
  abbrev pub IsNamed : ℕ × ℕ → Type 0
  IsNamed x = (client o found : ℕ) × In (event client o (OnName (StoreName x.0 (x.1 + 1))) found) es

  abbrev pub IsFor : ℕ → Claim → Type 0
  IsFor s x = WasGiven es (socket_id_slot s) (socket_id_version s) x.link

  -- the at word was stored
  abbrev pub IsStored : ℕ × ℕ → Type 0
  IsStored x = In (record { operation = x.0; word = x.1 }) seen

  -- the message of an attempt is over the link of a socket with its name, which the at word tells that was stored before
  abbrev pub IsOver : Heading → ℕ → Type 0
  IsOver h link = h.owner ≢ 0 → (asked : Asked) × (s : ℕ) × is_call asked × (asked.operation ≡ h.label.operation) × IsNamed (name_of asked h.label.attempt, s) × WasGiven es (socket_id_slot s) (socket_id_version s) link
      × ((k : ℕ) × WasGiven es (socket_id_slot s) (socket_id_version s) k × IsStored (h.label.operation, at_word (id_first h.owner) (id_slot h.owner) k h.label.attempt))

  -- the at word of operation o is that of an attempt over a socket with its name, whose link it tells
  pub record StoredFor (o w : ℕ) : Type 0 where
    pub of : IsAtOf is_call o w
    pub socket : ℕ
    pub slot : id_slot of.id < 65536
    pub named : IsNamed (name_of of.asked of.attempt, socket)
    pub given : WasGiven es (socket_id_slot socket) (socket_id_version socket) of.link
    pub stored : IsStored (o, w)

  -- so of each that is there
  abbrev pub AtsFor : Calls → Type 0
  AtsFor a = (o : ℕ) → o < a.plan.operations → std.slice_index a.words (ids.at_index a.plan o) ≢ 0 → StoredFor o (std.slice_index a.words (ids.at_index a.plan o))

  abbrev pub ClaimOver : Claim → Type 0
  ClaimOver x = IsOver x.heading x.link

  abbrev pub EntryOver : Entry → Type 0
  EntryOver e = IsOver e.heading e.link

  abbrev pub ViewOver : View → Type 0
  ViewOver v = AllByRecursion ClaimOver v.claims × AllByRecursion (AllByRecursion EntryOver) v.lists

  -- the slot of an id that the seat knows is one of a table
  abbrev pub HasSlot : Of → Type 0
  HasSlot NoCall = Unit {0}
  HasSlot (Makes id) = id_slot id < 65536
  HasSlot (Knows o id) = id_slot id < 65536

  abbrev pub IsTrue : View → Trail → Type 0
  IsTrue v t = AllByRecursion IsNamed t.name × (t.claimed ≡ true → (m s : ℕ) → t.name ≡ (m, s) ∷ [] → AllByRecursion (IsFor s) v.claims)
      × ((m s k : ℕ) → t.name ≡ (m, s) ∷ [] → t.linked ≡ k ∷ [] → WasGiven es (socket_id_slot s) (socket_id_version s) k) × AllByRecursion IsStored t.stored × HasSlot t.of

  pub record NameLaw (c : Core) (vs : List View) (ts : List Trail) : Type 0 where
    pub views : (j : ℕ) (v : View) → get_elem? vs j ≡ some v → ViewOver v
    pub trails : (j : ℕ) (v : View) (t : Trail) → get_elem? vs j ≡ some v → get_elem? ts j ≡ some t → IsTrue v t
    pub calls : AreCalls is_call c.calls
    pub ats : AtsFor c.calls
    pub each : std.length ts ≡ std.length c.seats
    pub programs : (j : ℕ) (seat : SeatState) (t : Trail) → get_elem? c.seats j ≡ some seat → get_elem? ts j ≡ some t → Follows is_call t seat.program

  pub lost_true : (v : View) → IsTrue v lost
  lost_true v = (tt, λ e. absurd (true≢false (sym e)), λ m s k n l. absurd (no_name m s n), tt, tt)

  stays_true : (v : View) (t u : Trail) → Stays t u → IsTrue v t → IsTrue v u
  stays_true v t u (inl e) h = subst (IsTrue v) (sym e) h
  stays_true v t u (inr e) h = subst (IsTrue v) (sym e) (lost_true v)

  trail_on : (v w : View) (t : Trail) → w.claims ≡ v.claims → IsTrue v t → IsTrue w t
  trail_on v w t e h = (h.0, λ b m s is. subst (AllByRecursion (IsFor s)) (sym e) (h.1 b m s is), h.2, h.3, h.4)

  -- ## Rows

  module _ (v : View) (t : Trail) (true_ : IsTrue v t) (over : ViewOver v) where
    all_more : (l : List Entry) (e : Entry) → AllByRecursion EntryOver l → EntryOver e → AllByRecursion EntryOver (l ++ e ∷ [])
    all_more [] e all one = (one, tt)
    all_more (x ∷ l) e all one = (all.0, all_more l e all.1 one)

    more_over : (ls : List (List Entry)) (e : Entry) → AllByRecursion (AllByRecursion EntryOver) ls → EntryOver e → AllByRecursion (AllByRecursion EntryOver) (more ls e)
    more_over [] e all one = tt
    more_over (l ∷ ls) e all one = (all_more l e all.0 one, all.1)

    ready_over : (cs : List Claim) → v.claims ≡ cs → ViewOver (by_claim cs (λ c. with_claim v (ready_claim c)) v)
    ready_over [] e = over
    ready_over (x ∷ cs) e = let all : AllByRecursion ClaimOver (x ∷ cs) = subst (AllByRecursion ClaimOver) e over.0 in ((all.0, tt), over.1)

    swap_over : (found : ℕ) (hand : Hand) (cs : List Claim) → v.claims ≡ cs → ViewOver (by_claim cs (exchanged found hand v) v)
    swap_over found hand [] e = over
    swap_over found hand (x ∷ cs) e = let all : AllByRecursion ClaimOver (x ∷ cs) = subst (AllByRecursion ClaimOver) e over.0 in let one = all.0 in
        split (nat_lt found IDLE) (queued v x found) (righted v x found hand.took hand.next) ViewOver (tt, more_over v.lists (entry_of x found) over.1 one) (tt, more_over v.lists (entry_of x (found - IDLE)) over.1 one)

    put_over : (q : ℕ) (heading : Heading) (bytes : List ℕ) → MayAttempt is_call t (OnMessage (PutMessage q heading bytes)) → (cs : List Claim) → v.claims ≡ cs → ViewOver (by_claim cs (λ c. with_claim v (filled_claim c heading bytes)) v)
    put_over q heading bytes may [] e = over
    put_over q heading bytes may (x ∷ cs) e = (
      (
        λ some_. ⊎_elim (λ none_. absurd (some_ none_))
            (λ a. let n : AllByRecursion IsNamed ((name_of a.0 heading.label.attempt, a.1) ∷ []) = subst (AllByRecursion IsNamed) a.4 true_.0 in let l : AllByRecursion (IsFor a.1) (x ∷ cs) = subst (AllByRecursion (IsFor a.1)) e (true_.1 a.5 (name_of a.0 heading.label.attempt) a.1 a.4) in
            let stored : AllByRecursion IsStored ((heading.label.operation, at_word (id_first heading.owner) (id_slot heading.owner) a.6.0 heading.label.attempt) ∷ []) = subst (AllByRecursion IsStored) a.6.2 true_.3 in
            (a.0, a.1, a.2, a.3, n.0, l.0, (a.6.0, true_.2 (name_of a.0 heading.label.attempt) a.1 a.6.0 a.4 a.6.1, stored.0))) may,
        tt,
      ),
      over.1,
    )

    pub row_over : (p : Plan) (found : ℕ) (hand : Hand) (call : TableStep) → MayAttempt is_call t call → ViewOver (row p call found hand v)
    row_over p found hand (OnChain (ClaimRequest i q)) may = split (found % 2 == 0) _ v ViewOver (((λ some_. absurd (some_ refl)), tt), over.1) over
    row_over p found hand (OnMessage (PutMessage q heading bytes)) may = put_over q heading bytes may v.claims refl
    row_over p found hand (OnChain (Unconnect q)) may = ready_over v.claims refl
    row_over p found hand (OnChain (SwapHead i own)) may = swap_over found hand v.claims refl
    row_over p found hand call may = let s = row_same v p found hand call refl in (subst (AllByRecursion ClaimOver) (sym s.0) over.0, subst (AllByRecursion (AllByRecursion EntryOver)) (sym s.1) over.1)

    ready_true : (cs : List Claim) → v.claims ≡ cs → IsTrue (by_claim cs (λ c. with_claim v (ready_claim c)) v) t
    ready_true [] e = true_
    ready_true (x ∷ cs) e = (true_.0, λ b m s is. (let l : AllByRecursion (IsFor s) (x ∷ cs) = subst (AllByRecursion (IsFor s)) e (true_.1 b m s is) in (l.0, tt)), true_.2, true_.3, true_.4)

    put_true : (heading : Heading) (bytes : List ℕ) (cs : List Claim) → v.claims ≡ cs → IsTrue (by_claim cs (λ c. with_claim v (filled_claim c heading bytes)) v) t
    put_true heading bytes [] e = true_
    put_true heading bytes (x ∷ cs) e = (true_.0, λ b m s is. (let l : AllByRecursion (IsFor s) (x ∷ cs) = subst (AllByRecursion (IsFor s)) e (true_.1 b m s is) in (l.0, tt)), true_.2, true_.3, true_.4)

    swap_true : (found : ℕ) (hand : Hand) (cs : List Claim) → v.claims ≡ cs → IsTrue (by_claim cs (exchanged found hand v) v) t
    swap_true found hand [] e = true_
    swap_true found hand (x ∷ cs) e = split (nat_lt found IDLE) (queued v x found) (righted v x found hand.took hand.next) (λ w. IsTrue w t) (true_.0, λ b m s is. tt, true_.2, true_.3, true_.4) (true_.0, λ b m s is. tt, true_.2, true_.3, true_.4)

    -- what is known stays so, where the step claims no request
    row_true : (p : Plan) (found : ℕ) (hand : Hand) (call : TableStep) → ((i q : ℕ) → call ≡ OnChain (ClaimRequest i q) → ⊥) → IsTrue (row p call found hand v) t
    row_true p found hand (OnChain (ClaimRequest i q)) others = absurd (others i q refl)
    row_true p found hand (OnMessage (PutMessage q heading bytes)) others = put_true heading bytes v.claims refl
    row_true p found hand (OnChain (Unconnect q)) others = ready_true v.claims refl
    row_true p found hand (OnChain (SwapHead i own)) others = swap_true found hand v.claims refl
    row_true p found hand call others = trail_on v (row p call found hand v) t (row_same v p found hand call refl).0 true_

    claim_true : (p : Plan) (found : ℕ) (hand : Hand) (i q m : ℕ) → found % 2 ≡ 0 → t.name ≡ (m, i) ∷ [] → WasGiven es (socket_id_slot i) (socket_id_version i) hand.link → IsTrue (row p (OnChain (ClaimRequest i q)) found hand v) (record { name = (m, i) ∷ []; claimed = true; of = t.of; linked = t.linked; stored = t.stored })
    claim_true p found hand i q m free name given = (subst (AllByRecursion IsNamed) name true_.0, λ b x s is. split_claim x s is, λ x s k is l. true_.2 x s k (name ∙ is) l, true_.3, true_.4)
      where
        split_claim : (x s : ℕ) → one_name m i ≡ one_name x s → AllByRecursion (IsFor s) (row p (OnChain (ClaimRequest i q)) found hand v).claims
        split_claim x s is = let same : i ≡ s = ap first_socket is in subst (λ b. AllByRecursion (IsFor s) (cond b (with_claim (met_link (socket_id_slot i) (socket_id_version i) hand.link v) (new_claim hand.link q found)) v).claims) (sym (Rattle.std.proofs.Common.eq-eqb (found % 2) 0 free))
            ((subst (λ y. WasGiven es (socket_id_slot y) (socket_id_version y) hand.link) same given, tt))

-- a word that was set is this, or as it was
set_or : (ws : List ℕ) (x w : ℕ) → (get_or (set ws x w) x 0 ≡ w) ⊎ (get_or (set ws x w) x 0 ≡ get_or ws x 0)
set_or [] x w = inr refl
set_or (y ∷ ws) zero w = inl refl
set_or (y ∷ ws) (suc x) w = set_or ws x w

-- with a longer story
module _ (is_call : Asked → Type 0) (seen : List Store) (es fs : List Event) (up : (e : Event) → In e es → In e fs) where
  pub given_up : (j h k : ℕ) → WasGiven es j h k → WasGiven fs j h k
  given_up j h k given = let g = marked_given es j h k given in given_by fs g.0 g.1 g.2 j h k (up _ g.3) g.4

  named_up : (x : ℕ × ℕ) → IsNamed is_call seen es x → IsNamed is_call seen fs x
  named_up x n = (n.0, n.1, n.2, up _ n.3)

  over_up : (h : Heading) (link : ℕ) → IsOver is_call seen es h link → IsOver is_call seen fs h link
  over_up h link o some_ = let a = o some_ in (a.0, a.1, a.2, a.3, named_up (name_of a.0 h.label.attempt, a.1) a.4, given_up (socket_id_slot a.1) (socket_id_version a.1) link a.5, (a.6.0, given_up (socket_id_slot a.1) (socket_id_version a.1) a.6.0 a.6.1, a.6.2))

  pub for_up : (o w : ℕ) → StoredFor is_call seen es o w → StoredFor is_call seen fs o w
  for_up o w x = record { of = x.of; socket = x.socket; slot = x.slot; named = named_up (name_of x.of.asked x.of.attempt, x.socket) x.named; given = given_up (socket_id_slot x.socket) (socket_id_version x.socket) x.of.link x.given; stored = x.stored }

  pub view_up : (v : View) → ViewOver is_call seen es v → ViewOver is_call seen fs v
  view_up v o = (all_map (ClaimOver is_call seen es) (ClaimOver is_call seen fs) (λ x a. over_up x.heading x.link a) v.claims o.0, all_map (AllByRecursion (EntryOver is_call seen es)) (AllByRecursion (EntryOver is_call seen fs)) (λ l a. all_map (EntryOver is_call seen es) (EntryOver is_call seen fs) (λ e b. over_up e.heading e.link b) l a) v.lists o.1)

  pub true_up : (v : View) (t : Trail) → IsTrue is_call seen es v t → IsTrue is_call seen fs v t
  true_up v t h = (all_map (IsNamed is_call seen es) (IsNamed is_call seen fs) named_up t.name h.0, λ b m s is. all_map (IsFor is_call seen es s) (IsFor is_call seen fs s) (λ x a. given_up (socket_id_slot s) (socket_id_version s) x.link a) v.claims (h.1 b m s is), λ m s k n l. given_up (socket_id_slot s) (socket_id_version s) k (h.2 m s k n l), h.3, h.4)

-- ## A tick

-- what follows once all is said
pub resolves : (is_call : Asked → Type 0) (t : Trail) (ws : List Retry) (x : Program) → AreTries ws → Follows is_call t x → (u : Trail) × Stays t u × Follows is_call u (next_step (resolved ws x))
resolves is_call t ws (Say o outcome next) few g = resolves is_call t ws next few g
resolves is_call t ws (Sent o next) few g = resolves is_call t ws next few g
resolves is_call t ws (Keep k next) few g = let r = resolves is_call lost (ws ++ k ∷ []) next (few_more ws k few g.0) g.1 in (r.0, ⊎_elim (λ e. inr e) (λ e. inr e) r.1, r.2)
resolves is_call t [] (Retries requests after) few g = let r = resolves is_call lost [] after tt g in (r.0, ⊎_elim (λ e. inr e) (λ e. inr e) r.1, r.2)
resolves is_call t (k ∷ ws) (Retries requests after) few g = (lost, inr refl, retry_goes is_call requests k.id k.attempt (Retries requests after) few.0 g)
resolves is_call t ws _ few g = (t, inl refl, g)

module _ (p : Plan) (q : IdPlan) (narrow : q.slots ≤ 65536) (is_call : Asked → Type 0) (seen : List Store) (clients : List (List Task)) (over : Bool) (c : Core) (vs : List View) (es fs : List Event) (broken : List ℕ) (sound : Sound p c vs) (story : Story p clients over c vs es broken)
    (up : (e : Event) → In e es → In e fs) (ts : List Trail) (law : NameLaw is_call seen es c vs ts) (us : List IdView) (real_ids : SoundIds p q c us) where
  abbrev pub After : Core → List View → Type 0
  After d ws = (xs : List Trail) × NameLaw is_call seen fs d ws xs

  module _ (i : ℕ) (seat : SeatState) (v : View) (t : Trail) (at_seat : get_elem? c.seats i ≡ some seat) (at_view : get_elem? vs i ≡ some v) (at_trail : get_elem? ts i ≡ some t) where
    goes_on : (a : Calls) (x : Program) (hand : List Home) (ws : List ℕ) (hs : List (Option Home)) (u : Trail) (w : View) → a.waiting ≡ c.calls.waiting → AreCalls is_call a → AtsFor is_call seen fs a → Follows is_call u x → IsTrue is_call seen fs w u → ViewOver is_call seen fs w
        → After (with_seat i x hand ws hs (record c { calls = a })) (set vs i w)
    goes_on a x hand ws hs u w waits calls ats follows true_ view = let few = few_of q (waiting_at a.waiting i) (subst (λ (l : List (List Retry)). AllByRecursion (FitsRetryId q) (waiting_at l i)) (sym waits) (real_ids.waiting i)) in
        let r = resolves is_call u (waiting_at a.waiting i) x few follows in (
          set ts i r.0,
          record {
            views = λ j y e. ⊎_elim (λ b. subst (ViewOver is_call seen fs) b.1 view) (λ b. view_up is_call seen es fs up y (law.views j y b.1)) (at_set vs i j w y e);
            trails = pairs_set (λ (z : Trail) (y : View). IsTrue is_call seen fs y z) vs ts i w r.0 (λ j y z ev et. true_up is_call seen es fs up y z (law.trails j y z ev et)) (stays_true is_call seen fs w u r.0 r.1 true_);
            calls = calls;
            ats = ats;
            each = length-set ts i r.0 ∙ (law.each ∙ sym (length-set c.seats i (record { program = next_step (resolved (waiting_at a.waiting i) x); hand = hand })));
            programs = pairs_set (λ (y : Trail) (z : SeatState). Follows is_call y z.program) c.seats ts i (record { program = next_step (resolved (waiting_at a.waiting i) x); hand = hand }) r.0 law.programs r.2;
          },
        )

    ats_here : AtsFor is_call seen fs c.calls
    ats_here o low some_ = for_up is_call seen es fs up o (std.slice_index c.calls.words (ids.at_index c.calls.plan o)) (law.ats o low some_)

    true_here : IsTrue is_call seen es v t
    true_here = law.trails i v t at_view at_trail

    -- a move that is no step on words
    pub moves : (x : Program) (hand : List Home) (hs : List (Option Home)) (w : View) (rights : List Right) → w ≡ with_rights v rights → Follows is_call lost x → After (with_seat i x hand c.words hs (record c { calls = c.calls })) (set vs i w)
    moves x hand hs w rights e g = goes_on c.calls x hand c.words hs lost w refl law.calls ats_here g (lost_true is_call seen fs w) (subst (ViewOver is_call seen fs) (sym e) (view_up is_call seen es fs up v (law.views i v at_view)))

    abbrev Row : TableStep → View
    Row call = row p call (found_at c.words (word_of p call)) (hand_at p c.words c.homes call) v

    -- what is known behind a step on the sockets
    true_behind : (call : TableStep) → May p v call → (u : Trail) → GoesDo t call (found_at c.words (word_of p call)) u → IsTrue is_call seen es (Row call) u
    true_behind (OnName (LoadName m)) may u g = ⊎_elim
        (λ e. subst (IsTrue is_call seen es (Row (OnName (LoadName m)))) (sym e) kept)
        (λ x. ⊎_elim (λ e. subst (IsTrue is_call seen es (Row (OnName (LoadName m)))) (sym e) (lost_true is_call seen es (Row (OnName (LoadName m)))))
        (λ y. subst (IsTrue is_call seen es (Row (OnName (LoadName m)))) (sym y.1) ((named y.0, tt), λ e. absurd (true≢false (sym e)), λ m s k n l. absurd (no_link k l), tt, true_here.4)) x) g
      where
        kept : IsTrue is_call seen es (Row (OnName (LoadName m))) t
        kept = row_true is_call seen es v t true_here (law.views i v at_view) p (found_at c.words (word_of p (OnName (LoadName m)))) (hand_at p c.words c.homes (OnName (LoadName m))) (OnName (LoadName m)) (λ a b e. absurd cc)

        named : found_at c.words (word_of p (OnName (LoadName m))) ≢ 0 → IsNamed is_call seen es (m, found_at c.words (word_of p (OnName (LoadName m))) - 1)
        named some_ = let word : found_at c.words (word_of p (OnName (LoadName m))) ≡ last_name m es = story.named m may in let s = last_some es m (λ z. some_ (word ∙ z)) in
            (s.0, s.1, s.2, subst (λ w. In (event s.0 s.1 (OnName (StoreName m w)) s.2) es) (sym word ∙ (let z : found_at c.words (word_of p (OnName (LoadName m))) ≡ found_at c.words (word_of p (OnName (LoadName m))) - 1 + 1 = omega (arith, some_) in z)) s.3)
    true_behind (OnChain (ClaimRequest s r)) may u g = ⊎_elim
        (λ e. subst (IsTrue is_call seen es (Row (OnChain (ClaimRequest s r)))) (sym e) (true_here.0, λ b. absurd (true≢false (sym b)), true_here.2, true_here.3, true_here.4))
        (λ x. ⊎_elim (λ e. subst (IsTrue is_call seen es (Row (OnChain (ClaimRequest s r)))) (sym e) (lost_true is_call seen es (Row (OnChain (ClaimRequest s r)))))
        (λ y. subst (IsTrue is_call seen es (Row (OnChain (ClaimRequest s r)))) (sym y.3) (claim_true is_call seen es v t true_here (law.views i v at_view) p (found_at c.words (word_of p (OnChain (ClaimRequest s r)))) (hand_at p c.words c.homes (OnChain (ClaimRequest s r))) s r y.1 y.0 y.2
        (held_given p clients c vs sound.lawful es broken over story i v at_view (socket_id_slot s) (socket_id_version s) may.1.0 may.1.1))) x) g
    true_behind (OnSlot (FindLink j h)) may u g = ⊎_elim
        (λ e. subst (IsTrue is_call seen es (Row (OnSlot (FindLink j h)))) (sym e) true_here)
        (λ x. ⊎_elim (λ e. subst (IsTrue is_call seen es (Row (OnSlot (FindLink j h)))) (sym e) (lost_true is_call seen es (Row (OnSlot (FindLink j h)))))
        (λ y. subst (IsTrue is_call seen es (Row (OnSlot (FindLink j h)))) (sym y.5) (true_here.0, λ e. absurd (true≢false (sym e)), λ m s k n l. given_link y.0 y.1 y.2 y.3 y.4 m s k n l, tt, true_here.4)) x) g
      where
        given_link : (m s : ℕ) → t.name ≡ one_name m s → j ≡ socket_id_slot s → h ≡ socket_id_version s → (m' s' k : ℕ) → t.name ≡ one_name m' s' → found_at c.words (word_of p (OnSlot (FindLink j h))) ∷ [] ≡ k ∷ [] → WasGiven es (socket_id_slot s') (socket_id_version s') k
        given_link m s name slot version m' s' k n l = let same : s ≡ s' = ap first_socket (sym name ∙ n) in
            subst (λ z. WasGiven es (socket_id_slot z) (socket_id_version z) k) same (subst (λ z. WasGiven es z (socket_id_version s) k) slot (subst (λ z. WasGiven es j z k) version
            (subst (WasGiven es j h) (ap first_number l) (held_given p clients c vs sound.lawful es broken over story i v at_view j h may.0 may.1))))
    true_behind call may u g = stays_true is_call seen es (Row call) t u g (row_true is_call seen es v t true_here (law.views i v at_view) p (found_at c.words (word_of p call)) (hand_at p c.words c.homes call) call (λ a b e. absurd cc))

    -- a step on the sockets
    steps : (call : TableStep) (next : ℕ → Program) → May p v call → Follows is_call t (Do call next) → FitsSock call (found_at c.words (word_of p call)) → After (stepped p i seat call next c) (set vs i (row p call (found_at c.words (word_of p call)) (hand_at p c.words c.homes call) v))
    steps call next may g fits = let u = g.1 (found_at c.words (word_of p call)) fits in
        goes_on c.calls (next (found_at c.words (word_of p call))) (hand_after p call c.homes seat.hand) (words_after c.words (word_of p call) (word_after call (found_at c.words (word_of p call)))) (homes_after p call seat.hand c.homes) u.0 (Row call) refl law.calls ats_here u.2
        (true_up is_call seen es fs up (Row call) u.0 (true_behind call may u.0 u.1)) (view_up is_call seen es fs up (Row call) (row_over is_call seen es v t true_here (law.views i v at_view) p (found_at c.words (word_of p call)) (hand_at p c.words c.homes call) call g.0))

    module _ (u : IdView) (at : get_elem? us i ≡ some u) where
      finds_step : (step : Step) (t' : Option Taking) (found : Found step) → found_in step c.calls t' ≡ some found → MayId p q u step → FindsLabel is_call step found
      finds_step (UnlockId k from advance) t' found is may = finds_label p q c us real_ids i u at (UnlockId k from advance) found may (finds_ids p q c.calls real_ids.plan us real_ids.rule i u at (real_ids.real i u at) (real_ids.called, real_ids.placed) real_ids.homes (UnlockId k from advance) t' found is may)
      finds_step (TakeCall k) t' found is may = law.calls k found is
      finds_step _ t' found is may = tt

      puts_step : (step : Step) (after : Program) (found : Found step) (x : Trail) → GoesAside is_call t step after found x → PutsAsked is_call step
      puts_step (PutCall k asked) after found x g = g.1
      puts_step _ after found x g = tt

      -- an at word that is stored is one of those
      abbrev IsShown : Step → Type 0
      IsShown (StoreAt o w) = IsStored is_call seen es (o, w)
      IsShown other = Unit {0}

      true_aside : (step : Step) (answer : Option Taking) (after : Program) (found : Found step) → found_in step c.calls answer ≡ some found → MayId p q u step → (x : Trail) → IsShown step → GoesAside is_call t step after found x → IsTrue is_call seen es v x
      true_aside (MakeId k r) answer after found is may x shown g = let n = makes_new p q c us real_ids i u at k r found is may (finds_ids p q c.calls real_ids.plan us real_ids.rule i u at (real_ids.real i u at) (real_ids.called, real_ids.placed) real_ids.homes (MakeId k r) answer found is may) in
          subst (IsTrue is_call seen es v) (sym g.0) (true_here.0, true_here.1, true_here.2, true_here.3, (let low = n.0.0 in omega (arith, low, narrow)))
      true_aside (StoreCall o id) answer after found is may x shown g = ⊎_elim (λ e. subst (IsTrue is_call seen es v) (sym e) (lost_true is_call seen es v)) (λ y. subst (IsTrue is_call seen es v) (sym y.1) (true_here.0, true_here.1, true_here.2, true_here.3, subst (HasSlot is_call seen es) y.0 true_here.4)) g
      true_aside (StoreAt o w) answer after found is may x shown g = ⊎_elim (λ e. subst (IsTrue is_call seen es v) (sym e) (lost_true is_call seen es v)) (λ e. subst (IsTrue is_call seen es v) (sym e) (true_here.0, λ z. absurd (true≢false (sym z)), true_here.2, (shown, tt), true_here.4)) g.0
      true_aside (PutCall k asked) answer after found is may x shown g = ⊎_elim (λ s. stays_true is_call seen es v t x s true_here) (λ y. subst (IsTrue is_call seen es v) (sym y.4) (tt, λ e. absurd (true≢false (sym e)), λ m s k n l. absurd (no_name m s n), tt, (let low = may.0 in let b = y.5 in omega (arith, low, narrow, b)))) g.0
      true_aside step answer after found is may x shown g = stays_true is_call seen es v t x g true_here

      at_same : (a : Calls) → a.plan ≡ c.calls.plan → a.words ≡ c.calls.words → AtsFor is_call seen fs a
      at_same a plan words o low some_ = let same : std.slice_index a.words (ids.at_index a.plan o) ≡ std.slice_index c.calls.words (ids.at_index c.calls.plan o) = ap (λ w. std.slice_index w (ids.at_index a.plan o)) words ∙ ap (λ (r : IdPlan). std.slice_index c.calls.words (ids.at_index r o)) plan in
          subst (StoredFor is_call seen fs o) (sym same) (ats_here o (subst (λ (r : IdPlan). o < r.operations) plan low) (λ z. some_ (same ∙ z)))

      at_one : (x w o : ℕ) → ids.at_index c.calls.plan o ≢ x → o < c.calls.plan.operations → get_or (set c.calls.words x w) (ids.at_index c.calls.plan o) 0 ≢ 0 → StoredFor is_call seen fs o (get_or (set c.calls.words x w) (ids.at_index c.calls.plan o) 0)
      at_one x w o far low some_ = let same : get_or (set c.calls.words x w) (ids.at_index c.calls.plan o) 0 ≡ get_or c.calls.words (ids.at_index c.calls.plan o) 0 = get_or-set_other c.calls.words x (ids.at_index c.calls.plan o) w 0 far in
          subst (StoredFor is_call seen fs o) (sym same) (ats_here o low (λ z. some_ (same ∙ z)))

      at_else : (x w : ℕ) → ((o : ℕ) → o < c.calls.plan.operations → ids.at_index c.calls.plan o ≢ x) → AtsFor is_call seen fs (record c.calls { words = set c.calls.words x w })
      at_else x w far o low some_ = at_one x w o (far o low) low some_

      low_slot : (k : ℕ) → k < q.slots → k < c.calls.plan.slots
      low_slot k low = subst (λ (r : IdPlan). k < r.slots) (sym real_ids.plan) low

      beside_id : (k w : ℕ) → k < q.slots → AtsFor is_call seen fs (record c.calls { words = set c.calls.words (ids.id_index k) w })
      beside_id k w low = at_else (ids.id_index k) w (λ o _. (let l = low_slot k low in λ e. omega (arith, l, e)))

      at_stored : (o w : ℕ) → IsStored is_call seen es (o, w) → IsOwnStore is_call t o w → AtsFor is_call seen fs (record c.calls { words = set c.calls.words (ids.at_index c.calls.plan o) w })
      at_stored o w shown own n low some_ = dite (ℕ_discrete o n)
          (λ here. subst (λ z. get_or (set c.calls.words (ids.at_index c.calls.plan o) w) (ids.at_index c.calls.plan z) 0 ≢ 0 → StoredFor is_call seen fs z (get_or (set c.calls.words (ids.at_index c.calls.plan o) w) (ids.at_index c.calls.plan z) 0)) here
          (λ more. ⊎_elim (λ e. subst (StoredFor is_call seen fs o) (sym e) now) (λ e. subst (StoredFor is_call seen fs o) (sym e) (ats_here o (subst (λ z. z < c.calls.plan.operations) (sym here) low) (λ z. more (e ∙ z)))) (set_or c.calls.words (ids.at_index c.calls.plan o) w)) some_)
          (λ far. at_one (ids.at_index c.calls.plan o) w n (λ e. far (omega (arith, e))) low some_)
        where
          now : StoredFor is_call seen fs o w
          now = for_up is_call seen es fs up o w record { of = own.of; socket = own.socket; slot = subst (HasSlot is_call seen es) own.knows true_here.4; named = (subst (AllByRecursion (IsNamed is_call seen es)) own.name true_here.0).0; given = true_here.2 (name_of own.of.asked own.of.attempt) own.socket own.of.link own.name own.linked; stored = shown }

      pub ats_behind : (step : Step) (after : Program) (found : Found step) (x : Trail) → MayId p q u step → IsShown step → GoesAside is_call t step after found x → AtsFor is_call seen fs (calls_after step found c.calls)
      ats_behind (ClaimId k) after found x may shown g = at_else (ids.tag_index k) 1 (λ o _. λ e. omega (arith, e))
      ats_behind (PutCall k asked) after found x may shown g = at_same (calls_after (PutCall k asked) found c.calls) refl refl
      ats_behind (MakeId k range) after found x may shown g = beside_id k _ may.0
      ats_behind (StoreCall o id) after found x may shown g = at_else (ids.call_index c.calls.plan o) id (λ n _. λ e. omega (arith, e))
      ats_behind (StoreAt o w) after found x may shown g = at_stored o w shown g.1
      ats_behind (LockId k from) after found x may shown g = beside_id k _ may.0
      ats_behind (PostId k from e) after found x may shown g = beside_id k _ may.0
      ats_behind (UnlockId k from advance) after found x may shown g = beside_id k _ may.0
      ats_behind (EndId k) after found x may shown g = beside_id k _ may.0
      ats_behind (FreeId k) after found x may shown g = at_else (ids.tag_index k) 0 (λ o _. λ e. omega (arith, e))
      ats_behind (TakeCall k) after found x may shown g = at_same (calls_after (TakeCall k) found c.calls) refl refl
      ats_behind (TakeBytes l room) (after) found x may shown g = given_more found
        where
          given_more : (f : Taking) → AtsFor is_call seen fs (more_given l f c.calls)
          given_more (Bytes bytes) = at_same (more_given l (Bytes bytes) c.calls) refl refl
          given_more _ = ats_here
      ats_behind _ after found x may shown g = ats_here

      -- a step aside
      asides : (step : Step) (next : Found step → Program) (found : Found step) (answer : Option Taking) → found_in step c.calls answer ≡ some found → MayId p q u step → IsShown step → Follows is_call t (Aside step next)
          → After (with_seat i (next found) seat.hand c.words c.homes (record c { calls = calls_after step found c.calls })) vs
      asides step next found answer is may shown g = let x = g found (finds_step step answer found is may) in
          subst (λ ys. After (with_seat i (next found) seat.hand c.words c.homes (record c { calls = calls_after step found c.calls })) ys) (set_again vs i v at_view)
          (goes_on (calls_after step found c.calls) (next found) seat.hand c.words c.homes x.0 v (calls_waiting step found c.calls) (calls_behind is_call step found c.calls (puts_step step (next found) found x.0 x.1) law.calls) (ats_behind step (next found) found x.0 may shown x.1) x.2
          (true_up is_call seen es fs up v x.0 (true_aside step answer (next found) found is may x.0 shown x.1)) (view_up is_call seen es fs up v (law.views i v at_view)))

  -- a tick of any seat
  module _ (m : Moment) (answered : IsAnswered c m) (fitting : IsFittingIds p c m) (stores : (x : Store) → In x (stored_at c m) → In x seen) where
    open seat_facts (Follows is_call) (follows_first is_call) p q narrow c ts law.each law.programs us real_ids m.seat use {stand_of as trail_of, view_of, first_as, may_as}

    unchanged : After c vs
    unchanged = (ts, record { views = λ j v e. view_up is_call seen es fs up v (law.views j v e); trails = λ j v t a b. true_up is_call seen es fs up v t (law.trails j v t a b); calls = law.calls; ats = λ o low some_. for_up is_call seen es fs up o (std.slice_index c.calls.words (ids.at_index c.calls.plan o)) (law.ats o low some_); each = law.each; programs = law.programs })

    shown_of : (seat : SeatState) (v : View) (t : Trail) (at : get_elem? c.seats m.seat ≡ some seat) (here : get_elem? vs m.seat ≡ some v) (trail : get_elem? ts m.seat ≡ some t) (u : IdView) (at_u : get_elem? us m.seat ≡ some u) (s : Step) (next : Found s → Program) → first_step seat.program ≡ Aside s next
        → IsShown m.seat seat v t at here trail u at_u s
    shown_of seat v t at here trail u at_u (StoreAt o w) next is = stores (record { operation = o; word = w }) (subst (In (record { operation = o; word = w })) (sym same) (inl refl))
      where
        same : stored_at c m ≡ (record { operation = o; word = w }) ∷ []
        same = ap (λ x. elim x as (λ o. List Store) [ none ↦ [] | some seat ↦ stores_by (first_step seat.program) ]) at ∙ ap stores_by is
    shown_of seat v t at here trail u at_u _ next is = tt

    pub name_ticks : After (ticked p c m) (views_after p c vs m)
    name_ticks = tick_moves (Follows is_call) lost (record { message = λ t q next g. g; home = λ t k next g. g; puts_home = λ t k n after g. g; put = λ t k asked bytes next g. g; ask = λ t k next g. g }) p c vs m sound answered After unchanged
        (λ seat v at here x is. (trail_of seat at).0)
        (λ seat v at here x is. first_as seat at x is)
        (λ seat v at here. let t = trail_of seat at in moves m.seat seat v t.0 at here t.1)
        (λ seat v call next at here is goes. let t = trail_of seat at in steps m.seat seat v t.0 at here t.1 call next goes.0 (first_as seat at (Do call next) is) (fits_as p c seat.program call next is (fitting seat at)))
        (λ seat v s next found at here is goes found_is. let t = trail_of seat at in let u = view_of seat at in
        asides m.seat seat v t.0 at here t.1 u.0 u.1 s next found (taken m.answer) found_is (may_as seat at (Aside s next) is).0 (shown_of seat v t.0 at here t.1 u.0 u.1 s next is) (first_as seat at (Aside s next) is))

    -- an at word that the tick loads is known
    pub tick_loads : (l : Load) → In l (loaded_at c m) → l.word ≢ 0 → StoredFor is_call seen es l.operation l.word
    tick_loads l there = by (get_elem? c.seats m.seat) refl there
      where
        of_step : (step : Step) (next : Found step → Program) (seat : SeatState) → get_elem? c.seats m.seat ≡ some seat → first_step seat.program ≡ Aside step next → (o : Option (Found step)) → found_in step c.calls (taken m.answer) ≡ o
            → In l (elim o as (λ o. List Load) [ none ↦ [] | some found ↦ loads_by m.seat step found ]) → l.word ≢ 0 → StoredFor is_call seen es l.operation l.word
        of_step (LoadAt n) next seat at is none e z some_ = absurd z
        of_step (LoadAt n) next seat at is (some found) e (inl same) some_ = subst (λ (x : Load). x.word ≢ 0 → StoredFor is_call seen es x.operation x.word) (sym same)
            (λ more. subst (StoredFor is_call seen es n) (some-injective (std.slice_index c.calls.words (ids.at_index c.calls.plan n)) found e) (law.ats n (subst (λ (r : IdPlan). n < r.operations) (sym real_ids.plan) (may_as seat at (Aside (LoadAt n) next) is).0)
            (λ z. more (sym (some-injective (std.slice_index c.calls.words (ids.at_index c.calls.plan n)) found e) ∙ z)))) some_
        of_step (LoadAt n) next seat at is (some found) e (inr z) some_ = absurd z
        of_step _ next seat at is none e z some_ = absurd z
        of_step _ next seat at is (some found) e z some_ = absurd z

        of_program : (program : Program) (seat : SeatState) → get_elem? c.seats m.seat ≡ some seat → first_step seat.program ≡ program → In l (loaded_with m.seat c.calls (taken m.answer) program) → l.word ≢ 0 → StoredFor is_call seen es l.operation l.word
        of_program (Aside step next) seat at is z some_ = of_step step next seat at is (found_in step c.calls (taken m.answer)) refl z some_
        of_program _ seat at is z some_ = absurd z

        by : (o : Option SeatState) → get_elem? c.seats m.seat ≡ o → In l (elim o as (λ o. List Load) [ none ↦ [] | some seat ↦ loaded_with m.seat c.calls (taken m.answer) (first_step seat.program) ]) → l.word ≢ 0 → StoredFor is_call seen es l.operation l.word
        by none e z some_ = absurd z
        by (some seat) e z some_ = of_program (first_step seat.program) seat e refl z some_
