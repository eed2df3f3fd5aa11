-- Each tick keeps what is known of each attempt whose at word was stored: its seat is at it, a link accepted it, its socket was found failed, or each request was found taken.
use Rattle.std.proofs.Common.{◌≡◌, ◌≢◌, ℕ, ◌+◌, ◌-◌, ◌%◌, ◌<◌, ◌≤◌, ◌⊎◌, ◌==◌, inl, inr, ⊎_elim, nat_lt, true, false, List, [], ◌∷◌, ◌++◌, set, refl, sym, ap, ◌∙◌, subst, arith}
use Rattle.std.specs.List.{AllByRecursion}
use Rattle.std.specs.Prelude as std
use mathlib.Core.Logic.{dite}
use native.Mathlib.Decide.{ℕ_discrete}
use mathlib.Core.Option.{Option, some, none, some-injective}
use lib.ListN.{get_elem?}
use Rattle.atomic_table.proofs.Lists.{at_set, set_again, set_else, set_here}
use Rattle.sock_words.specs.declared.plain.Plan.{Plan}
use Rattle.sock_words.specs.PackedWords.{socket_id_version, socket_id_slot, vref_version, at_word, at_word_link, at_word_attempt, IDLE, id_slot, id_first}
use Rattle.sock_model.specs.declared.chain.Claim.{Claim}
use Rattle.sock_model.specs.declared.chain.Entry.{Entry}
use Rattle.sock_model.specs.declared.chain.Right.{Right}
use Rattle.sock_model.specs.declared.home.Home.{Home}
use Rattle.sock_model.specs.declared.view.Hand.{Hand}
use Rattle.sock_model.specs.declared.view.View.{View}
use Rattle.sock_model.specs.ChainRows.{with_claim, entry_of, more, queued, righted, taken_right, ready_claim, filled_claim}
use Rattle.sock_model.specs.SocketTableLayout.{ref_index}
use Rattle.dropped_calls.specs.Below.sock_steps.proofs.SumsAsMarksChange.{either_way}
use Rattle.seat_programs.specs.id_rule.specs.LawfulIdTable as ids
use Rattle.seat_programs.specs.Asides.{Step, Found, StoreAt}
use Rattle.seat_programs.specs.FoundAndChangedAside.{calls_after}
use Rattle.seat_programs.specs.TableSteps.{TableStep, OnSlot, OnChain, OnMessage, AddRef, LookWord, FindLink, ClaimRequest, PutMessage, Unconnect, SwapHead}
use Rattle.seat_programs.specs.LoopHeads.{Retry}
use Rattle.seat_programs.specs.Programs.{Program, Do, TakeMessage, TakeHome, PutHome, PutBytes, AskReady, Aside}
use Rattle.seat_programs.specs.Cores.{Core, SeatState, found_at, resolved, next_step, waiting_at, hand_after, link_place, lies_at, others_of}
use Rattle.seat_programs.specs.StepTables.{word_of}
use Rattle.seat_programs.specs.Ticks.{Moment, IsAnswered, fed, onto_first, step_with, tick_with, ticked}
use Rattle.dropped_calls.specs.Below.programs_allowed.specs.program_steps.specs.IdWordFits.{FitsRetry}
use Rattle.seat_programs.specs.StepTables.{May}
use Rattle.seat_programs.specs.StepTables.{row, hand_at}
use Rattle.seat_programs.specs.StepViews.{by_claim}
use Rattle.seat_programs.specs.StepsOfChain.{exchanged}
use Rattle.seat_programs.specs.StepsOfMessages.{took_message}
use Rattle.seat_programs.specs.StepsOfLinks.{link_away, link_home_again, took_bytes}
use Rattle.dropped_calls.specs.Below.programs_allowed.specs.program_steps.specs.SoundSeats.{Sound, IsFitting, views_with, views_of, views_after}
use Rattle.dropped_calls.specs.Below.programs_allowed.specs.program_steps.proofs.TickCases.{with_rights, right_rights, put_rights, tick_cases, elem_there, ticks_first, views_first, calls_waiting}
use Rattle.dropped_calls.specs.Below.programs_allowed.specs.program_steps.proofs.Leaves.{claim_way}
use Rattle.dropped_calls.specs.Below.programs_allowed.specs.sock_runs.proofs.LinksStay.{IsGiven, run_given, finds_given}
use Rattle.dropped_calls.specs.Below.programs_allowed.specs.sock_runs.proofs.LinkTicks.{RetriesGo}
use Rattle.dropped_calls.specs.Below.outcome_stories.specs.OperationStories.{In}
use Rattle.dropped_calls.specs.Below.outcome_causes.proofs.PlainOutcomeCauses.{in_left, in_right}
use Rattle.dropped_calls.specs.accept_counts.specs.EndedCalls.{Store, stores_by, stored_at}
use Rattle.dropped_calls.specs.accept_counts.specs.RefusedOrDropped.{Deed, DidStep, DidAt}
use Rattle.dropped_calls.specs.refused_attempts.proofs.RefusedMeans.{IsSo, did_so, tick_keeps}
use Rattle.dropped_calls.specs.accept_counts.proofs.ClaimViewsBehindSteps.{row_same}
use Rattle.send_causes.proofs.ClosedLostPrograms.{Try, Mode, Free, Held, Linked, Stored, Claims, Claimed, Filled, Marked, Goes, goes_first, goes_next}
use Rattle.corr_core.proofs.NoteSums.{at_length}
use Rattle.seat_programs.specs.LoopRounds.{first_step}

-- ## Accepted messages

-- the seat had a message of attempt n of operation o accepted
abbrev pub HasEntry : ℕ → ℕ → View → Type 0
HasEntry o n v = (l : List Entry) × (e : Entry) × In l v.lists × In e l × (e.heading.label.operation ≡ o) × (e.heading.label.attempt ≡ n)

abbrev pub Entered : ℕ → ℕ → List View → Type 0
Entered o n vs = (i : ℕ) × (v : View) × (get_elem? vs i ≡ some v) × HasEntry o n v

module _ (o n : ℕ) where
  abbrev IsThere : List (List Entry) → Type 0
  IsThere ls = (l : List Entry) × (e : Entry) × In l ls × In e l × (e.heading.label.operation ≡ o) × (e.heading.label.attempt ≡ n)

  more_there : (ls : List (List Entry)) (x : Entry) → IsThere ls → IsThere (more ls x)
  more_there [] x h = h
  more_there (y ∷ ls) x (l, e, inl same, at, own, is) = (y ++ x ∷ [], e, inl refl, in_left y (x ∷ []) e (subst (In e) same at), own, is)
  more_there (y ∷ ls) x (l, e, inr far, at, own, is) = (l, e, inr far, at, own, is)

  new_there : (y : List Entry) (ls : List (List Entry)) (x : Entry) → x.heading.label.operation ≡ o → x.heading.label.attempt ≡ n → IsThere (more (y ∷ ls) x)
  new_there y ls x own is = (y ++ x ∷ [], x, inl refl, in_right y (x ∷ []) x (inl refl), own, is)

  -- a step keeps it
  row_entry : (p : Plan) (v : View) (found : ℕ) (hand : Hand) (call : TableStep) → HasEntry o n v → HasEntry o n (row p call found hand v)
  row_entry p v found hand (OnChain (ClaimRequest id q)) h = either_way (found % 2 == 0) _ v (HasEntry o n) h h
  row_entry p v found hand (OnMessage (PutMessage q heading bytes)) h = claim_way (HasEntry o n) v.claims (λ c. with_claim v (filled_claim c heading bytes)) v h (λ c. h)
  row_entry p v found hand (OnChain (Unconnect q)) h = claim_way (HasEntry o n) v.claims (λ c. with_claim v (ready_claim c)) v h (λ c. h)
  row_entry p v found hand (OnChain (SwapHead i own)) h = claim_way (HasEntry o n) v.claims (exchanged found hand v) v h
      (λ c. either_way (nat_lt found IDLE) (queued v c found) (righted v c found hand.took hand.next) (HasEntry o n) (more_there v.lists (entry_of c found) h) (more_there v.lists (entry_of c (found - IDLE)) h))
  row_entry p v found hand call h = subst IsThere (sym (row_same v p found hand call refl).1) h

  -- the exchange of a head makes one of the claim
  swap_entry : (v : View) (found : ℕ) (hand : Hand) (x : Claim) (y : List Entry) (ls : List (List Entry)) → v.claims ≡ x ∷ [] → v.lists ≡ y ∷ ls → x.heading.label.operation ≡ o → x.heading.label.attempt ≡ n
      → HasEntry o n (by_claim v.claims (exchanged found hand v) v)
  swap_entry v found hand x y ls claims lists own is = subst (λ cs. HasEntry o n (by_claim cs (exchanged found hand v) v)) (sym claims)
      (either_way (nat_lt found IDLE) (queued v x found) (righted v x found hand.took hand.next) (HasEntry o n)
      (subst (λ zs. IsThere (more zs (entry_of x found))) (sym lists) (new_there y ls (entry_of x found) own is)) (subst (λ zs. IsThere (more zs (entry_of x (found - IDLE)))) (sym lists) (new_there y ls (entry_of x (found - IDLE)) own is)))

-- ## What is known of attempts

-- no live socket that was addressed is of the old lives
module _ (p : Plan) (Old : ℕ → ℕ → Type 0) where
  abbrev pub IsNew : Try → Type 0
  IsNew t = (t.heading.label.attempt ≤ 6) × (Old (socket_id_slot t.socket) (socket_id_version t.socket) → ⊥)

  -- the attempt is n of operation o, over link k
  abbrev pub IsOf : ℕ → ℕ → ℕ → Try → ℕ → Type 0
  IsOf o n k t l = (t.heading.label.operation ≡ o) × (t.heading.label.attempt ≡ n) × (l ≡ k)

  -- its at word was stored, and the seat is at it
  abbrev pub Works : ℕ → ℕ → ℕ → Mode → Type 0
  Works o n k (Stored t l) = IsOf o n k t l
  Works o n k (Claims t l q) = IsOf o n k t l
  Works o n k (Claimed t l) = IsOf o n k t l
  Works o n k (Filled t l) = IsOf o n k t l
  Works o n k (Marked t l) = IsOf o n k t l
  Works o n k other = ⊥

  module _ (c : Core) (vs : List View) where
    abbrev pub IsOn : Try → ℕ → Type 0
    IsOn t k = IsNew t × (k < 65535) × IsGiven c vs (socket_id_slot t.socket) (socket_id_version t.socket) k

    -- each request below q was found taken
    abbrev pub AreTaken : ℕ → Type 0
    AreTaken q = (r : ℕ) → r < q → (id found : ℕ) × (found % 2 ≡ 1) × IsSo p c vs (DidStep (OnChain (ClaimRequest id r)) found)

    -- a life that was given the link was found failed
    abbrev pub WasLost : ℕ → Type 0
    WasLost k = (s found : ℕ) × (vref_version found % 2 ≡ 1) × IsSo p c vs (DidStep (OnSlot (LookWord s)) found) × IsGiven c vs (socket_id_slot s) (socket_id_version s) k × (Old (socket_id_slot s) (socket_id_version s) → ⊥)

    abbrev pub Ended : ℕ → ℕ → ℕ → Type 0
    Ended o n k = Entered o n vs ⊎ (WasLost k ⊎ AreTaken p.requests)

    abbrev pub Has : View → Try → Type 0
    Has v t = (x : Claim) × (v.claims ≡ x ∷ []) × (x.heading ≡ t.heading)

    abbrev pub Knows : View → Mode → Type 0
    Knows v Free = Unit {0}
    Knows v (Held t) = IsNew t
    Knows v (Linked t k) = IsOn t k
    Knows v (Stored t k) = IsOn t k
    Knows v (Claims t k q) = IsOn t k × AreTaken q
    Knows v (Claimed t k) = Unit {0}
    Knows v (Filled t k) = Has v t
    Knows v (Marked t k) = Has v t

    abbrev pub AllStand : Type 0
    AllStand = (j : ℕ) (seat : SeatState) (v : View) → get_elem? c.seats j ≡ some seat → get_elem? vs j ≡ some v → (m : Mode) × Goes p.requests m seat.program × Knows v m

    -- what became of attempt n of operation o, whose at word names link k
    abbrev pub Working : ℕ → ℕ → ℕ → Type 0
    Working o n k = (j : ℕ) × (seat : SeatState) × (v : View) × (get_elem? c.seats j ≡ some seat) × (get_elem? vs j ≡ some v) × (m : Mode) × Goes p.requests m seat.program × Knows v m × Works o n k m

    abbrev pub Fate : ℕ → ℕ → ℕ → Type 0
    Fate o n k = Working o n k ⊎ Ended o n k

  -- ## A tick

  module _ (c : Core) (vs : List View) where
    -- what stays known
    pub record Keeps (d : Core) (ws : List View) : Type 0 where
      pub so : (x : Deed) → IsSo p c vs x → IsSo p d ws x
      pub given : (i h k : ℕ) → IsGiven c vs i h k → IsGiven d ws i h k
      pub entered : (o n : ℕ) → Entered o n vs → Entered o n ws

    module _ (d : Core) (ws : List View) (keeps : Keeps d ws) where
      on_stays : (t : Try) (k : ℕ) → IsOn c vs t k → IsOn d ws t k
      on_stays t k x = (x.0, x.1, keeps.given (socket_id_slot t.socket) (socket_id_version t.socket) k x.2)

      taken_stays : (q : ℕ) → AreTaken c vs q → AreTaken d ws q
      taken_stays q x r low = let y = x r low in (y.0, y.1, y.2, keeps.so (DidStep (OnChain (ClaimRequest y.0 r)) y.1) y.3)

      knows_stays : (v : View) (m : Mode) → Knows c vs v m → Knows d ws v m
      knows_stays v Free x = tt
      knows_stays v (Linked t k) x = on_stays t k x
      knows_stays v (Stored t k) x = on_stays t k x
      knows_stays v (Claims t k q) x = (on_stays t k x.0, taken_stays q x.1)
      knows_stays v (Claimed t k) x = tt
      knows_stays v _ x = x

      pub ended_stays : (o n k : ℕ) → Ended c vs o n k → Ended d ws o n k
      ended_stays o n k (inl e) = inl (keeps.entered o n e)
      ended_stays o n k (inr (inl l)) = inr (inl (l.0, l.1, l.2, keeps.so (DidStep (OnSlot (LookWord l.0)) l.1) l.3, keeps.given (socket_id_slot l.0) (socket_id_version l.0) k l.4, l.5))
      ended_stays o n k (inr (inr t)) = inr (inr (taken_stays p.requests t))

      -- a seat with this view goes on with the program
      abbrev Next : View → Mode → Program → Type 0
      Next w m program = (u : Mode) × Goes p.requests u program × Knows d ws w u × ((o n k : ℕ) → Works o n k m → Works o n k u ⊎ Ended d ws o n k)

      -- a step that is none on a word, at no attempt
      abbrev IsPlain : Program → Type 0
      IsPlain (Do call next) = ⊥
      IsPlain (Aside (StoreAt o w) next) = ⊥
      IsPlain other = Unit {0}

      plain_next : (w : View) (program : Program) (m : Mode) (first : Program) → (Goes p.requests Free first → Goes p.requests Free program) → IsPlain first → Goes p.requests m first → Next w m program
      plain_next w program Free first f plain g = (Free, f g, tt, λ o n k z. absurd z)
      plain_next w program m (Do call next) f plain g = absurd plain
      plain_next w program m (Aside (StoreAt o x) next) f plain g = absurd plain
      plain_next w program m _ f plain g = absurd g

      aside_next : (v : View) (step : Step) (next : Found step → Program) (found : Found step) (m : Mode) → Goes p.requests m (Aside step next) → Knows c vs v m → Next v m (next found)
      aside_next v (StoreAt o x) next found Free g knows = absurd g
      aside_next v (StoreAt o x) next found (Linked t k) g knows = (Stored t k, g.2 found, on_stays t k knows, λ o n k z. absurd z)
      aside_next v (StoreAt o x) next found m g knows = absurd g
      aside_next v step next found Free g knows = (Free, g found, tt, λ o n k z. absurd z)
      aside_next v step next found m g knows = absurd g

      -- a step on a word
      module _ (sound : Sound p c vs) (mo : Moment) (v : View) (here : get_elem? vs mo.seat ≡ some v)
          (fresh : (id : ℕ) → socket_id_slot id < p.slots → vref_version (std.slice_index c.words (ref_index (socket_id_slot id))) ≡ socket_id_version id → Old (socket_id_slot id) (socket_id_version id) → ⊥) where
        abbrev after : TableStep → View
        after call = row p call (found_at c.words (word_of p call)) (hand_at p c.words c.homes call) v

        abbrev found : TableStep → ℕ
        found call = found_at c.words (word_of p call)

        adds : (id : ℕ) (next : ℕ → Program) → Goes p.requests Free (Do (OnSlot (AddRef id)) next) → May p v (OnSlot (AddRef id)) → Next (after (OnSlot (AddRef id))) Free (next (found (OnSlot (AddRef id))))
        adds id next g may = by (g (found (OnSlot (AddRef id))))
          where
            by : Goes p.requests Free (next (found (OnSlot (AddRef id)))) ⊎ ((t : Try) × (t.socket ≡ id) × (vref_version (found (OnSlot (AddRef id))) ≡ socket_id_version id) × (t.heading.label.attempt ≤ 6) × Goes p.requests (Held t) (next (found (OnSlot (AddRef id))))) → Next (after (OnSlot (AddRef id))) Free (next (found (OnSlot (AddRef id))))
            by (inl x) = (Free, x, tt, λ o n k z. absurd z)
            by (inr x) = (Held x.0, x.4, (x.3, subst (λ s. Old (socket_id_slot s) (socket_id_version s) → ⊥) (sym x.1) (fresh id may.0.0 x.2)), λ o n k z. absurd z)

        links : (t : Try) (i h : ℕ) (next : ℕ → Program) → Goes p.requests (Held t) (Do (OnSlot (FindLink i h)) next) → IsNew t → May p v (OnSlot (FindLink i h)) → Next (after (OnSlot (FindLink i h))) (Held t) (next (found (OnSlot (FindLink i h))))
        links t i h next g new may = let given = finds_given p c vs sound mo.seat v here i h may in
            let small = sound.lawful.in_slots.small i h (found (OnSlot (FindLink i h))) (record { inside = may.0; given = given }) in let few = sound.limits.links in (
              Linked t (found (OnSlot (FindLink i h))),
              g.2 (found (OnSlot (FindLink i h))),
              (new, omega (arith, small, few), subst (λ z. IsGiven d ws z (socket_id_version t.socket) (found (OnSlot (FindLink i h)))) g.0 (subst (λ z. IsGiven d ws i z (found (OnSlot (FindLink i h)))) g.1 (keeps.given i h (found (OnSlot (FindLink i h))) given))),
              λ o n k z. absurd z,
            )

        odd_of : (x : ℕ) → x % 2 ≢ 0 → x % 2 ≡ 1
        odd_of x n = omega (arith, n)

        looks : (t : Try) (k s : ℕ) (next : ℕ → Program) → Goes p.requests (Stored t k) (Do (OnSlot (LookWord s)) next) → IsOn c vs t k → DidAt p c mo mo.seat (DidStep (OnSlot (LookWord s)) (found (OnSlot (LookWord s)))) → Next (after (OnSlot (LookWord s))) (Stored t k) (next (found (OnSlot (LookWord s))))
        looks t k s next g on did = dite (ℕ_discrete (vref_version (found (OnSlot (LookWord s))) % 2) 0) (λ even. by_even ((g.1 (found (OnSlot (LookWord s)))).0 even))
            (λ no_. let odd = odd_of (vref_version (found (OnSlot (LookWord s)))) no_ in (
              Free,
              (g.1 (found (OnSlot (LookWord s)))).1 odd,
              tt,
              λ o n l w. inr (inr (inl (
                s,
                found (OnSlot (LookWord s)),
                odd,
                keeps.so (DidStep (OnSlot (LookWord s)) (found (OnSlot (LookWord s)))) (did_so p c vs sound mo mo.seat (DidStep (OnSlot (LookWord s)) (found (OnSlot (LookWord s)))) did),
                subst (IsGiven d ws (socket_id_slot s) (socket_id_version s)) w.2 (subst (λ z. IsGiven d ws (socket_id_slot z) (socket_id_version z) k) (sym g.0) (keeps.given (socket_id_slot t.socket) (socket_id_version t.socket) k on.2)),
                subst (λ z. Old (socket_id_slot z) (socket_id_version z) → ⊥) (sym g.0) on.0.1,
              ))),
            ))
          where
            by_even : Goes p.requests (Claims t k 0) (next (found (OnSlot (LookWord s)))) ⊎ ((0 ≡ p.requests) × Goes p.requests Free (next (found (OnSlot (LookWord s))))) → Next (after (OnSlot (LookWord s))) (Stored t k) (next (found (OnSlot (LookWord s))))
            by_even (inl x) = (Claims t k 0, x, (on_stays t k on, λ r low. absurd (let z : ⊥ = omega (arith, low) in z)), λ o n l w. inl w)
            by_even (inr x) = (Free, x.1, tt, λ o n l w. inr (inr (inr (λ r low. absurd (let e = x.0 in let z : ⊥ = omega (arith, low, e) in z)))))

        claims : (t : Try) (k q s r : ℕ) (next : ℕ → Program) → Goes p.requests (Claims t k q) (Do (OnChain (ClaimRequest s r)) next) → IsOn c vs t k → AreTaken c vs q → DidAt p c mo mo.seat (DidStep (OnChain (ClaimRequest s r)) (found (OnChain (ClaimRequest s r))))
            → Next (after (OnChain (ClaimRequest s r))) (Claims t k q) (next (found (OnChain (ClaimRequest s r))))
        claims t k q s r next g on taken did = dite (ℕ_discrete (found (OnChain (ClaimRequest s r)) % 2) 0) (λ even. (Claimed t k, (g.1 (found (OnChain (ClaimRequest s r)))).0 even, tt, λ o n l w. inl w))
            (λ no_. let odd = odd_of (found (OnChain (ClaimRequest s r))) no_ in by_odd odd ((g.1 (found (OnChain (ClaimRequest s r)))).1 odd))
          where
            one_more : found (OnChain (ClaimRequest s r)) % 2 ≡ 1 → AreTaken d ws (q + 1)
            one_more odd x low = dite (ℕ_discrete x q)
                (λ e. (s, found (OnChain (ClaimRequest s r)), odd, subst (λ z. IsSo p d ws (DidStep (OnChain (ClaimRequest s z)) (found (OnChain (ClaimRequest s r))))) (g.0 ∙ sym e) (keeps.so (DidStep (OnChain (ClaimRequest s r)) (found (OnChain (ClaimRequest s r)))) (did_so p c vs sound mo mo.seat (DidStep (OnChain (ClaimRequest s r)) (found (OnChain (ClaimRequest s r)))) did))))
                (λ ne. taken_stays q taken x (omega (arith, low, ne)))

            by_odd : found (OnChain (ClaimRequest s r)) % 2 ≡ 1 → Goes p.requests (Claims t k (q + 1)) (next (found (OnChain (ClaimRequest s r)))) ⊎ ((q + 1 ≡ p.requests) × Goes p.requests Free (next (found (OnChain (ClaimRequest s r))))) → Next (after (OnChain (ClaimRequest s r))) (Claims t k q) (next (found (OnChain (ClaimRequest s r))))
            by_odd odd (inl x) = (Claims t k (q + 1), x, (on_stays t k on, one_more odd), λ o n l w. inl w)
            by_odd odd (inr x) = (Free, x.1, tt, λ o n l w. inr (inr (inr (subst (AreTaken d ws) x.0 (one_more odd)))))

        step_next : (call : TableStep) (next : ℕ → Program) (m : Mode) → Goes p.requests m (Do call next) → Knows c vs v m → May p v call → DidAt p c mo mo.seat (DidStep call (found call)) → get_elem? ws mo.seat ≡ some (after call) → Next (after call) m (next (found call))
        step_next (OnSlot (AddRef id)) next Free g knows may did now = adds id next g may
        step_next call next Free g knows may did now = (Free, g (found call), tt, λ o n k z. absurd z)
        step_next (OnSlot (FindLink i h)) next (Held t) g knows may did now = links t i h next g knows may
        step_next (OnSlot (LookWord s)) next (Stored t k) g knows may did now = looks t k s next g knows did
        step_next (OnChain (ClaimRequest s r)) next (Claims t k q) g knows may did now = claims t k q s r next g knows.0 knows.1 did
        step_next (OnMessage (PutMessage r heading bytes)) next (Claimed t k) g knows may did now = (
          Filled t k,
          g.1 (found (OnMessage (PutMessage r heading bytes))),
          subst (λ cs. Has d ws (by_claim cs (λ x. with_claim v (filled_claim x heading bytes)) v) t) (sym may.1.1) (filled_claim may.1.0 heading bytes, refl, g.0),
          λ o n l w. inl w,
        )
        step_next (OnChain (Unconnect r)) next (Filled t k) g knows may did now = (Marked t k, g (found (OnChain (Unconnect r))), subst (λ cs. Has d ws (by_claim cs (λ x. with_claim v (ready_claim x)) v) t) (sym knows.1) (ready_claim knows.0, refl, knows.2), λ o n l w. inl w)
        step_next (OnChain (SwapHead i own)) next (Marked t k) g knows may did now = (
          Free,
          g (found (OnChain (SwapHead i own))),
          tt,
          λ o n l w. inr (inl (
            mo.seat,
            after (OnChain (SwapHead i own)),
            now,
            swap_entry o n v (found (OnChain (SwapHead i own))) (hand_at p c.words c.homes (OnChain (SwapHead i own))) knows.0 may.1.made may.1.taken_in knows.1 may.1.lists
                (ap (λ h. h.label.operation) knows.2 ∙ w.0) (ap (λ h. h.label.attempt) knows.2 ∙ w.1),
          )),
        )
        step_next call next m g knows may did now = absurd g

-- ## Words and views

module _ (f s k n : ℕ) (link : k < 65535) (few : n ≤ 6) where
  pub word_link : k ≡ at_word_link (at_word f s k n)
  word_link = omega (arith, link, few)

  pub word_attempt : n ≡ at_word_attempt (at_word f s k n)
  word_attempt = omega (arith, link, few)

-- a seat has another view, or none other
entered_set : (o n : ℕ) (vs : List View) (i : ℕ) (v w : View) → get_elem? vs i ≡ some v → (HasEntry o n v → HasEntry o n w) → Entered o n vs → Entered o n (set vs i w)
entered_set o n vs i v w here f (j, u, at, h) = dite (ℕ_discrete j i)
    (λ e. let same : u ≡ v = some-injective u v (sym at ∙ (ap (get_elem? vs) e ∙ here)) in (i, w, set_here vs i w (at_length vs i v here), f (subst (HasEntry o n) same h)))
    (λ ne. (j, u, set_else vs i j w ne ∙ at, h))

-- ## Ticks

module _ (p : Plan) (Old : ℕ → ℕ → Type 0) (retries : RetriesGo p) (c : Core) (vs : List View) (sound : Sound p c vs) (mo : Moment) (answered : IsAnswered c mo) (fitting : IsFitting p c mo)
    (fresh : (id : ℕ) → socket_id_slot id < p.slots → vref_version (std.slice_index c.words (ref_index (socket_id_slot id))) ≡ socket_id_version id → Old (socket_id_slot id) (socket_id_version id) → ⊥) where
  rights_entered : (o n : ℕ) (v w : View) → get_elem? vs mo.seat ≡ some v → (rights : List Right) × (w ≡ with_rights v rights) → Entered o n vs → Entered o n (set vs mo.seat w)
  rights_entered o n v w here x = entered_set o n vs mo.seat v w here (λ h. subst (HasEntry o n) (sym x.1) h)

  entered_tick : (o n : ℕ) → Entered o n vs → Entered o n (views_after p c vs mo)
  entered_tick o n = tick_cases p c vs mo sound answered (λ d ws. Entered o n vs → Entered o n ws) (λ e. e)
      (λ seat v call next at here is goes. entered_set o n vs mo.seat v (row p call (found_at c.words (word_of p call)) (hand_at p c.words c.homes call) v) here (row_entry o n p v (found_at c.words (word_of p call)) (hand_at p c.words c.homes call) call))
      (λ seat v r next heading bytes at here is goes lies. rights_entered o n v (took_message heading bytes v) here (right_rights v v.rights (λ x. taken_right x heading bytes)))
      (λ seat v k next took m at here is goes lies. rights_entered o n v (link_away v) here (right_rights v v.rights (λ x. record x { at_home = false })))
      (λ seat v k m after at here is goes. rights_entered o n v (link_home_again v) here (right_rights v v.rights (λ x. record x { at_home = true })))
      (λ seat v k asked bytes next answer at here is goes answer_is fits. rights_entered o n v (took_bytes answer v) here (put_rights v answer))
      (λ seat v k next answer at here is goes answer_is e. e)
      (λ seat v s next found at here is goes found_is e. e)

  pub keeps_here : Keeps p Old c vs (ticked p c mo) (views_after p c vs mo)
  keeps_here = record {
    so = tick_keeps p c vs sound mo answered;
    given = λ i h k given. run_given p i h k retries c vs (mo ∷ []) sound (answered, tt) (fitting, tt) given;
    entered = entered_tick;
  }

  abbrev Behind : Core → List View → Type 0
  Behind d ws = AllStand p Old d ws × ((o n k : ℕ) → Fate p Old c vs o n k → Fate p Old d ws o n k)

  module _ (all : AllStand p Old c vs) where
    module _ (seat : SeatState) (v : View) (at : get_elem? c.seats mo.seat ≡ some seat) (here : get_elem? vs mo.seat ≡ some v) (d : Core) (ws : List View) (keeps : Keeps p Old c vs d ws) (program : Program) (hand : List Home) (w : View) (rs : List Retry)
        (fits : AllByRecursion FitsRetry rs) (seats_are : d.seats ≡ set c.seats mo.seat (record { program = next_step (resolved rs program); hand = hand })) (views_are : ws ≡ set vs mo.seat w)
        (nexts : (m : Mode) → Goes p.requests m (first_step seat.program) → Knows p Old c vs v m → Next p Old c vs d ws keeps w m program) where
      abbrev new : SeatState
      new = record { program = next_step (resolved rs program); hand = hand }

      first_goes : (m : Mode) → Goes p.requests m seat.program → Goes p.requests m (first_step seat.program)
      first_goes m g = goes_first p.requests p v m seat.program (sound.seats mo.seat seat v at here).goes_on g

      new_seat : get_elem? d.seats mo.seat ≡ some new
      new_seat = ap (λ l. get_elem? l mo.seat) seats_are ∙ set_here c.seats mo.seat new (at_length c.seats mo.seat seat at)

      new_view : get_elem? ws mo.seat ≡ some w
      new_view = ap (λ l. get_elem? l mo.seat) views_are ∙ set_here vs mo.seat w (at_length vs mo.seat v here)

      stands : AllStand p Old d ws
      stands j s u at_j at_u = ⊎_elim
          (λ a. ⊎_elim
          (λ b. let x = all mo.seat seat v at here in let y = nexts x.0 (first_goes x.0 x.1) x.2 in
          (y.0, subst (λ (z : SeatState). Goes p.requests y.0 z.program) a.1 (goes_next p.requests y.0 rs program fits y.1), subst (λ z. Knows p Old d ws z y.0) b.1 y.2))
          (λ b. absurd (b.0 a.0)) (at_set vs mo.seat j w u (sym (ap (λ l. get_elem? l j) views_are) ∙ at_u)))
          (λ a. ⊎_elim (λ b. absurd (a.0 b.0)) (λ b. let x = all j s u a.1 b.1 in (x.0, x.1, knows_stays p Old c vs d ws keeps u x.0 x.2)) (at_set vs mo.seat j w u (sym (ap (λ l. get_elem? l j) views_are) ∙ at_u)))
          (at_set c.seats mo.seat j new s (sym (ap (λ l. get_elem? l j) seats_are) ∙ at_j))

      works_on : (o n k : ℕ) → Working p Old c vs o n k → Fate p Old d ws o n k
      works_on o n k (j, s, u, at_j, at_u, m, g, knows, works) = dite (ℕ_discrete j mo.seat)
          (λ e. let same : s ≡ seat = some-injective s seat (sym at_j ∙ (ap (get_elem? c.seats) e ∙ at)) in let same_view : u ≡ v = some-injective u v (sym at_u ∙ (ap (get_elem? vs) e ∙ here)) in
          let y = nexts m (first_goes m (subst (λ (z : SeatState). Goes p.requests m z.program) same g)) (subst (λ z. Knows p Old c vs z m) same_view knows) in
          ⊎_elim (λ still. inl (mo.seat, new, w, new_seat, new_view, y.0, goes_next p.requests y.0 rs program fits y.1, y.2, still)) (λ e. inr e) (y.3 o n k works))
          (λ ne. inl (j, s, u, ap (λ l. get_elem? l j) seats_are ∙ (set_else c.seats mo.seat j new ne ∙ at_j), ap (λ l. get_elem? l j) views_are ∙ (set_else vs mo.seat j w ne ∙ at_u), m, g, knows_stays p Old c vs d ws keeps u m knows, works))

      behind : Behind d ws
      behind = (stands, λ o n k f. ⊎_elim (λ a. works_on o n k a) (λ e. inr (ended_stays p Old c vs d ws keeps o n k e)) f)

    -- a step at no attempt
    plain : (seat : SeatState) (v : View) (first : Program) → get_elem? c.seats mo.seat ≡ some seat → get_elem? vs mo.seat ≡ some v → first_step seat.program ≡ first → (d : Core) (ws : List View) (keeps : Keeps p Old c vs d ws) (program : Program) (hand : List Home) (w : View)
        → d.seats ≡ set c.seats mo.seat (record { program = next_step (resolved (waiting_at c.calls.waiting mo.seat) program); hand = hand }) → ws ≡ set vs mo.seat w → (Goes p.requests Free first → Goes p.requests Free program) → IsPlain p Old c vs d ws keeps first → Behind d ws
    plain seat v first at here is d ws keeps program hand w seats_are views_are f none_ = behind seat v at here d ws keeps program hand w (waiting_at c.calls.waiting mo.seat) (sound.waiting mo.seat) seats_are views_are
        (λ m g knows. plain_next p Old c vs d ws keeps w program m first f none_ (subst (Goes p.requests m) is g))

    pub tick_stands : Behind (ticked p c mo) (views_after p c vs mo)
    tick_stands = tick_cases p c vs mo sound answered (λ d ws. Keeps p Old c vs d ws → Behind d ws) (λ keeps. (all, λ o n k f. f))
        (λ seat v call next at here is goes keeps. behind seat v at here _ _ keeps (next (found_at c.words (word_of p call))) (hand_after p call c.homes seat.hand) (row p call (found_at c.words (word_of p call)) (hand_at p c.words c.homes call) v) (waiting_at c.calls.waiting mo.seat) (sound.waiting mo.seat) refl refl
        (λ m g knows. step_next p Old c vs _ _ keeps sound mo v here fresh call next m (subst (Goes p.requests m) is g) knows goes.0 (refl, seat, next, at, is, refl) (set_here vs mo.seat (row p call (found_at c.words (word_of p call)) (hand_at p c.words c.homes call) v) (at_length vs mo.seat v here))))
        (λ seat v r next heading bytes at here is goes lies keeps. plain seat v (TakeMessage r next) at here is _ _ keeps (next heading bytes) seat.hand (took_message heading bytes v) refl refl (λ g. g heading bytes) tt)
        (λ seat v k next took n at here is goes lies keeps. plain seat v (TakeHome k next) at here is _ _ keeps (next n) (lies_at c.homes (link_place p k) ++ seat.hand) (link_away v) refl refl (λ g. g n) tt)
        (λ seat v k n after at here is goes keeps. plain seat v (PutHome k n after) at here is _ _ keeps after (others_of seat.hand) (link_home_again v) refl refl (λ g. g) tt)
        (λ seat v k asked bytes next answer at here is goes answer_is fits keeps. plain seat v (PutBytes k asked bytes next) at here is _ _ keeps (next answer) (onto_first (fed bytes answer) seat.hand) (took_bytes answer v) refl refl (λ g. g answer) tt)
        (λ seat v k next answer at here is goes answer_is keeps. plain seat v (AskReady k next) at here is _ _ keeps (next answer) seat.hand v refl (sym (set_again vs mo.seat v here)) (λ g. g answer) tt)
        (λ seat v s next found at here is goes found_is keeps. behind seat v at here _ _ keeps (next found) seat.hand v (waiting_at (calls_after s found c.calls).waiting mo.seat)
        (subst (λ l. AllByRecursion FitsRetry (waiting_at l mo.seat)) (sym (calls_waiting s found c.calls)) (sound.waiting mo.seat)) refl (sym (set_again vs mo.seat v here))
        (λ m g knows. aside_next p Old c vs _ _ keeps v s next found m (subst (Goes p.requests m) is g) knows))
        keeps_here

    -- ## Stores

    -- whoever stores an at word is at the attempt behind that
    module _ (seat : SeatState) (at : get_elem? c.seats mo.seat ≡ some seat) (o w : ℕ) (next : ℕ → Program) (is : first_step seat.program ≡ Aside (StoreAt o w) next) where
      abbrev at_slot : ℕ
      at_slot = std.slice_index c.calls.words (ids.at_index c.calls.plan o)

      abbrev stored : SeatState
      stored = record { program = next_step (resolved (waiting_at c.calls.waiting mo.seat) (next at_slot)); hand = seat.hand }

      ticked_is : ticked p c mo ≡ step_with p mo.seat seat c mo.answer (Aside (StoreAt o w) next)
      ticked_is = ap (λ x. elim x as (λ x. Core) [ none ↦ c | some s ↦ tick_with p mo.seat s c mo.answer s.program ]) at ∙ (ticks_first p mo.seat seat c mo.answer seat.program ∙ ap (step_with p mo.seat seat c mo.answer) is)

      views_stay : (v : View) → get_elem? vs mo.seat ≡ some v → views_after p c vs mo ≡ vs
      views_stay v at_view = ap (λ x. elim x as (λ x. List View) [ none ↦ vs | some s ↦ elim (get_elem? vs mo.seat) as (λ o. List View) [ none ↦ vs | some v ↦ views_of p mo.seat c vs v mo.answer s.program ] ]) at
          ∙ (ap (λ x. elim x as (λ o. List View) [ none ↦ vs | some v ↦ views_of p mo.seat c vs v mo.answer seat.program ]) at_view
          ∙ (views_first p mo.seat c vs v mo.answer seat.program ∙ ap (views_with p mo.seat c vs v mo.answer) is))

      by_mode : (v : View) → get_elem? vs mo.seat ≡ some v → (m : Mode) → Goes p.requests m (Aside (StoreAt o w) next) → Knows p Old c vs v m → Fate p Old (ticked p c mo) (views_after p c vs mo) o (at_word_attempt w) (at_word_link w)
      by_mode v at_view (Linked t k) g knows = inl (
        mo.seat,
        stored,
        v,
        ap (λ (d : Core). get_elem? d.seats mo.seat) ticked_is ∙ set_here c.seats mo.seat stored (at_length c.seats mo.seat seat at),
        ap (λ l. get_elem? l mo.seat) (views_stay v at_view) ∙ at_view,
        Stored t k,
        goes_next p.requests (Stored t k) (waiting_at c.calls.waiting mo.seat) (next at_slot) (sound.waiting mo.seat) (g.2 at_slot),
        on_stays p Old c vs (ticked p c mo) (views_after p c vs mo) keeps_here t k knows,
        (sym g.0, word_attempt (id_first t.id) (id_slot t.id) k t.heading.label.attempt knows.1 knows.0.0 ∙ ap at_word_attempt (sym g.1), word_link (id_first t.id) (id_slot t.id) k t.heading.label.attempt knows.1 knows.0.0 ∙ ap at_word_link (sym g.1)),
      )
      by_mode v at_view m g knows = absurd g

      store_fate : Fate p Old (ticked p c mo) (views_after p c vs mo) o (at_word_attempt w) (at_word_link w)
      store_fate = let v = elem_there c.seats vs mo.seat seat sound.each at in let x = all mo.seat seat v.0 at v.1 in
          by_mode v.0 v.1 x.0 (subst (Goes p.requests x.0) is (goes_first p.requests p v.0 x.0 seat.program (sound.seats mo.seat seat v.0 at v.1).goes_on x.1)) x.2

    pub tick_stores : (x : Store) → In x (stored_at c mo) → Fate p Old (ticked p c mo) (views_after p c vs mo) x.operation (at_word_attempt x.word) (at_word_link x.word)
    tick_stores x there = by (get_elem? c.seats mo.seat) refl there
      where
        by_program : (seat : SeatState) → get_elem? c.seats mo.seat ≡ some seat → (program : Program) → first_step seat.program ≡ program → In x (stores_by program) → Fate p Old (ticked p c mo) (views_after p c vs mo) x.operation (at_word_attempt x.word) (at_word_link x.word)
        by_program seat at (Aside (StoreAt o w) next) is (inl same) = subst (λ (y : Store). Fate p Old (ticked p c mo) (views_after p c vs mo) y.operation (at_word_attempt y.word) (at_word_link y.word)) (sym same) (store_fate seat at o w next is)
        by_program seat at (Aside (StoreAt o w) next) is (inr z) = absurd z
        by_program seat at (Aside _ next) is z = absurd z
        by_program seat at _ is z = absurd z

        by : (o : Option SeatState) → get_elem? c.seats mo.seat ≡ o → In x (elim o as (λ o. List Store) [ none ↦ [] | some seat ↦ stores_by (first_step seat.program) ]) → Fate p Old (ticked p c mo) (views_after p c vs mo) x.operation (at_word_attempt x.word) (at_word_link x.word)
        by none e z = absurd z
        by (some seat) e z = by_program seat e (first_step seat.program) refl z
