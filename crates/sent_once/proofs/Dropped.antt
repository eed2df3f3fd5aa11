-- In a run of a script without calls no message has its place once the run is ending, so a message was dropped where its link failed before.
use Rattle.std.proofs.Common.{◌≡◌, ℕ, zero, suc, ◌+◌, ◌-◌, ◌*◌, ◌%◌, ◌<◌, ◌≤◌, ◌==◌, ◌&&◌, Bool, true, false, nat_le, leb-true, le-leb, List, [], ◌∷◌, length, replicate, get_or, ⊎_elim, refl, sym, ap, ◌∙◌, subst, arith}
use Rattle.std.specs.Prelude.{slice_index}
use mathlib.Core.Logic.{dite}
use mathlib.Core.Option.{some}
use native.Mathlib.Decide.{dec_le}
use lib.ListN.{get_elem?}
use Rattle.atomic_table.proofs.Lists.{at_set}
use Rattle.sock_words.specs.PackedWords.{socket_id_slot, socket_id_version, vref_version, vref_nref, place_word, NO_SOCKET}
use Rattle.sock_words.specs.declared.plain.Plan.{Plan}
use Rattle.sock_model.specs.declared.view.View.{View}
use Rattle.sock_model.specs.Deliveries.{ShownAt, no_place, one_place}
use Rattle.sock_model.specs.Entries.{on}
use Rattle.sock_model.specs.SocketTableLayout.{place_index}
use Rattle.sock_model.specs.LinksInSlots.{Failed}
use Rattle.accept_counts.specs.Below.sock_steps.proofs.Positions.{few_log, on_shorter}
use Rattle.accept_counts.specs.Below.sock_steps.proofs.SumsAsMarksChange.{either_way}
use Rattle.accept_counts.specs.Below.chain_steps.proofs.TicketLists.{at_some}
use Rattle.accept_counts.specs.Below.slot_steps.proofs.SlotWeightSums.{total_bound}
use Rattle.sock_model.specs.Rule.{lists_of}
use Rattle.std.proofs.lemmas.List.{length-map}
use Rattle.accept_counts.specs.Below.outcome_stories.proofs.Members.{get_there}
use Rattle.seat_programs.specs.Asides.{Taking}
use Rattle.accept_counts.proofs.Closers.{Ends as ReadingEnds}
use Rattle.accept_counts.proofs.ReaderRuns.{Keeps, reader_rights, keeps_along}
use Rattle.std.specs.Prelude.{slice_get, Some}
use Rattle.seat_programs.specs.TableSteps.{TableStep, OnChain, SwapHead}
use Rattle.seat_programs.specs.Programs.{Program, Do, Rest, TakeMessage, TakeHome, PutHome, PutBytes, AskReady, Aside, LAST_VERSION, recycle, release}
use Rattle.seat_programs.specs.LoopHeads.{Retry}
use Rattle.seat_programs.specs.ClientProgram.{ending_of}
use Rattle.seat_programs.specs.Cores.{Core, SeatState, resolved, next_step}
use Rattle.seat_programs.specs.ScheduledRuns.{IsAtRest}
use Rattle.seat_programs.specs.Ticks.{Moment, AreAnswered, IsAnswered, quiet, ticked, run}
use Rattle.seat_programs.specs.ExplainedCalls.{Accepted, label, AreOrders}
use Rattle.accept_counts.specs.Below.programs_allowed.specs.program_steps.specs.SoundSeats.{state, Sound, IsAhead, IsFitting, AreFitting, AreFew, views_after}
use Rattle.accept_counts.specs.Below.programs_allowed.specs.program_steps.specs.ProgramGoesOn.{GoesOn, HasNothing}
use Rattle.accept_counts.specs.Below.programs_allowed.specs.sock_runs.proofs.SoundAlongRuns.{seat_rests, ticked_ahead}
use Rattle.accept_counts.specs.Below.programs_allowed.specs.program_steps.proofs.TickCases.{ComesNext, tick_keeps_marks}
use Rattle.accept_counts.specs.Below.programs_allowed.specs.sock_runs.proofs.LinkTicks.{RetriesGo}
use Rattle.accept_counts.specs.Below.programs_allowed.specs.sock_runs.proofs.Quiets.{ticked_seats, ticked_rests}
use Rattle.accept_counts.specs.Below.programs_allowed.specs.program_walks.proofs.Recorded.{Recorded, recorded_ticks}
use Rattle.accept_counts.specs.Below.programs_allowed.specs.sock_runs.proofs.TicksKeepSeatsSound.{sound_ticks}
use Rattle.accept_counts.specs.Below.outcome_stories.proofs.Delivered.{accepted_of, orders_of}
use Rattle.accept_counts.proofs.PlaceWordsWithoutRight.{places_ticks}
use Rattle.accept_counts.proofs.ReadingsAtTicks.{rights_none}
use Rattle.accept_counts.specs.Below.outcome_ticks.proofs.ClaimAndAcceptedMessages.{IsNoSwap}
use Rattle.corr_core.proofs.NoteSums.{at_length}
use Rattle.seat_programs.specs.LoopRounds.{first_step}

-- ## The ending exchanges no head

abbrev NoSwap : Program → Type 0
NoSwap (Do (OnChain (SwapHead i own)) next) = ⊥
NoSwap (Do call next) = (found : ℕ) → NoSwap (next found)
NoSwap Rest = Unit {0}
NoSwap other = ⊥

swap_recycle : (i from : ℕ) (next : Bool → Program) → ((b : Bool) → NoSwap (next b)) → NoSwap (recycle i from next)
swap_recycle i from next after = λ found. either_way (found == from) _ _ NoSwap (λ _ _ _ _. either_way (nat_le (vref_version from + 1) LAST_VERSION) _ _ NoSwap (λ _. after true) (after true)) (after false)

swap_release : (i : ℕ) (next : Bool → Program) → ((b : Bool) → NoSwap (next b)) → NoSwap (release i next)
swap_release i next after = λ found. either_way ((vref_version found % 2 == 1) && (vref_nref found == 1)) _ _ NoSwap (swap_recycle i (found - 1) next after) (after false)

swap_ending : (os : List ℕ) → NoSwap (ending_of os)
swap_ending [] = tt
swap_ending (o ∷ os) = λ word. let rest = swap_ending os in either_way (word == 0) _ _ NoSwap rest (either_way (word == NO_SOCKET) _ _ NoSwap rest
    (λ found. either_way (vref_version found == socket_id_version (word - 1)) _ _ NoSwap
    (λ odd. either_way (vref_version odd % 2 == 0) _ _ NoSwap (λ _ _. swap_release (socket_id_slot (word - 1)) (λ _. ending_of os) (λ _. rest)) (swap_release (socket_id_slot (word - 1)) (λ _. ending_of os) (λ _. rest)))
    (swap_release (socket_id_slot (word - 1)) (λ _. ending_of os) (λ _. rest))))

swap_next : (ws : List Retry) (program : Program) → NoSwap program → NoSwap (next_step (resolved ws program))
swap_next ws (Do call next) x = x
swap_next ws Rest x = x
swap_next ws _ x = absurd x

swap_first : (program : Program) → NoSwap program → NoSwap (first_step program)
swap_first (Do call next) x = x
swap_first Rest x = x
swap_first _ x = absurd x

swap_call : (call : TableStep) (next : ℕ → Program) → NoSwap (Do call next) → IsNoSwap call × ((found : ℕ) → NoSwap (next found))
swap_call (OnChain (SwapHead i own)) next x = absurd x
swap_call call next x = (tt, x)

never_comes : (p : Plan) (first program : Program) → NoSwap first → ComesNext p first program → ⊥
never_comes p (Do call next) program x comes = comes
never_comes p Rest program x comes = comes
never_comes p (TakeMessage q next) program x comes = x
never_comes p (TakeHome k next) program x comes = x
never_comes p (PutHome k n after) program x comes = x
never_comes p (PutBytes k asked bytes next) program x comes = x
never_comes p (AskReady k next) program x comes = x
never_comes p (Aside s next) program x comes = x
never_comes p _ program x comes = comes

-- seat 0 makes the ending, and has no right
abbrev Ends : Core → List View → Type 0
Ends c vs = (seat : SeatState) (v : View) → get_elem? c.seats 0 ≡ some seat → get_elem? vs 0 ≡ some v → NoSwap seat.program × (v.rights ≡ [])

module _ (p : Plan) where
  ends_ticks : (c : Core) (vs : List View) (m : Moment) → m.seat ≡ 0 → Sound p c vs → IsAnswered c m → IsFitting p c m → Ends c vs → Ends (ticked p c m) (views_after p c vs m)
  ends_ticks c vs m own sound answered fitting e = tick_keeps_marks p c vs m sound answered fitting Ends e
      (λ seat v call next at_seat at_view is goes s u at at_u. let x = e seat v (sym (ap (get_elem? c.seats) own) ∙ at_seat) (sym (ap (get_elem? vs) own) ∙ at_view) in
      let y = swap_call call next (subst NoSwap is (swap_first seat.program x.0)) in (
        ⊎_elim (λ a. subst (λ (z : SeatState). NoSwap z.program) a.1 (swap_next _ (next _) (y.1 _))) (λ a. absurd (a.0 (sym own))) (at_set c.seats m.seat 0 _ s at),
        ⊎_elim (λ a. subst (λ (z : View). z.rights ≡ []) a.1 (rights_none p v _ _ call (λ i own' e'. subst IsNoSwap e' y.0) x.1)) (λ a. absurd (a.0 (sym own))) (at_set vs m.seat 0 _ u at_u),
      ))
      (λ seat v program rights hand hs a at_seat at_view comes. absurd (never_comes p (first_step seat.program) program (swap_first seat.program (e seat v (sym (ap (get_elem? c.seats) own) ∙ at_seat) (sym (ap (get_elem? vs) own) ∙ at_view)).0) comes))

  -- the place words stay while seat 0 makes the ending
  pub ending_places : RetriesGo p → (l : ℕ) → l < 8 * p.operations → (n : ℕ) (c : Core) (vs : List View) → Sound p c vs → AreAnswered p c (replicate n (quiet 0)) → AreFitting p c (replicate n (quiet 0)) → Ends c vs
      → get_or (run p c (replicate n (quiet 0))).words (place_index p l) 0 ≡ get_or c.words (place_index p l) 0
  ending_places go l low zero c vs sound answered fitting e = refl
  ending_places go l low (suc n) c vs sound answered fitting e =
      ending_places go l low n (ticked p c (quiet 0)) (views_after p c vs (quiet 0)) (sound_ticks p go c vs (quiet 0) sound answered.0 fitting.0) answered.1 fitting.1 (ends_ticks c vs (quiet 0) refl sound answered.0 fitting.0 e)
      ∙ places_ticks p l low c vs (quiet 0) sound answered.0 fitting.0 (λ v at. let seat = at_some c.seats 0 (let i = at_length vs 0 v at in let m = sound.each in omega (arith, i, m)) in (e seat.0 v seat.1 at).1)

  pub ending_begins : (c : Core) (vs : List View) (os : List ℕ) → Sound p c vs → ((seat : SeatState) → get_elem? c.seats 0 ≡ some seat → seat.program ≡ Rest) → Ends (Rattle.seat_programs.specs.Cores.with_seat 0 (ending_of os) [] c.words c.homes c) vs
  ending_begins c vs os sound rests seat v at at_view = (
    ⊎_elim (λ a. subst (λ (z : SeatState). NoSwap z.program) a.1 (swap_next _ (ending_of os) (swap_ending os))) (λ a. absurd (a.0 refl)) (at_set c.seats 0 0 _ seat at),
    (let old = at_some c.seats 0 (let i = at_length vs 0 v at_view in let m = sound.each in omega (arith, i, m)) in
        let n : HasNothing v = subst (GoesOn p v) (rests old.0 old.1) (sound.seats 0 old.0 v old.1 at_view).goes_on in let q = n.quiet in q.rights),
  )

-- and while clients are at rest and readers read
module _ (p : Plan) (calls os : List ℕ) (in_os : (k o : ℕ) → get_elem? os k ≡ some o → o < p.operations) (Odd : List Taking → Type 0) (Lasts : Type 0) (ends : (n id : ℕ) → ReadingEnds n id Odd Lasts) (Q : ℕ → ℕ → Type 0) (go : RetriesGo p) where
  pub resting_places : (l : ℕ) → l < 8 * p.operations → (ms : List Moment) (c : Core) (vs : List View) (taken : ℕ → List Taking) → Sound p c vs → AreAnswered p c ms → AreFitting p c ms → Recorded p Q c vs → (c.calls.ending ≡ true → Lasts) → IsAhead c
      → ((j : ℕ) → j < 32 → j < length c.seats → IsAtRest c j) → Keeps p calls os in_os Odd Lasts ends c vs taken → get_or (run p c ms).words (place_index p l) 0 ≡ get_or c.words (place_index p l) 0
  resting_places l low [] c vs taken sound answered fitting recorded lasting ahead rests k = refl
  resting_places l low (m ∷ ms) c vs taken sound answered fitting recorded lasting ahead rests k =
      resting_places l low ms (ticked p c m) (views_after p c vs m) _ (sound_ticks p go c vs m sound answered.0 fitting.0) answered.1 fitting.1 (recorded_ticks p Q c vs m sound answered.0 fitting.0 recorded)
      (λ e. lasting (sym (Rattle.accept_counts.specs.Below.call_owing.proofs.EndsStill.run_ending p c (m ∷ [])) ∙ e)) (ticked_ahead p c m ahead) (λ j less inside. ticked_rests p c m j (rests j less (let s = ticked_seats p c m in omega (arith, inside, s))))
      (keeps_along p calls os in_os Odd Lasts ends Q go (m ∷ []) c vs taken sound (answered.0, tt) (fitting.0, tt) recorded lasting k)
      ∙ places_ticks p l low c vs m sound answered.0 fitting.0 none_
    where
      none_ : (v : View) → get_elem? vs m.seat ≡ some v → v.rights ≡ []
      none_ v at = let inside : m.seat < length c.seats = (let i = at_length vs m.seat v at in let e = sound.each in omega (arith, i, e)) in let seat = at_some c.seats m.seat inside in
          dite (dec_le 32 m.seat) (λ high. reader_rights p calls os in_os Odd Lasts ends c vs taken k m.seat seat.0 v seat.1 at high)
          (λ lower. let n : HasNothing v = subst (GoesOn p v) (seat_rests c ahead m.seat (rests m.seat (omega (arith, lower)) inside) seat.0 seat.1) (sound.seats m.seat seat.0 v seat.1 at).goes_on in let q = n.quiet in q.rights)

-- ## A message that was dropped

beyond : (xs : List ℕ) (i : ℕ) → length xs ≤ i → get_or xs i 0 ≡ 0
beyond [] i low = refl
beyond (x ∷ xs) zero low = absurd (let z : ⊥ = omega (arith, low) in z)
beyond (x ∷ xs) (suc i) low = beyond xs i (omega (arith, low))

-- few messages are accepted
pub log_small : (p : Plan) (c : Core) (vs : List View) (sound : Sound p c vs) → AreFew vs → length sound.lawful.log ≤ 2147483648
log_small p c vs sound few = few_log vs sound.lawful.log sound.lawful.authors (let n = few.few_seats in let b = total_bound lists_of 1 vs (λ i v at. (few.short i v at).0) in omega (arith, n, b)) (λ i v at. (few.short i v at).1)

-- where the place words were so before, it was dropped then, and its link had failed
pub failed_before : (p : Plan) (c c' : Core) (vs vs' : List View) (sound : Sound p c vs) (sound' : Sound p c' vs') → AreFew vs → AreFew vs' → ((l : ℕ) → l < 8 * p.operations → get_or c'.words (place_index p l) 0 ≡ get_or c.words (place_index p l) 0)
    → AreOrders p c' (orders_of p c' vs' sound'.lawful) → (k : ℕ) → k < p.links → (orders_of p c' vs' sound'.lawful k).placed < length (orders_of p c' vs' sound'.lawful k).accepted → Failed p (state c vs) k
failed_before p c c' vs vs' sound sound' few few' same are k kl less = dite (dec_le (8 * p.operations) (label a.0)) (λ high. absurd (outside high)) (λ low. by_shown (omega (arith, low)) (sound.lawful.delivered.shown (label a.0) (omega (arith, low))))
  where
    i : ℕ
    i = (orders_of p c' vs' sound'.lawful k).placed

    a : (x : Accepted) × (slice_get (orders_of p c' vs' sound'.lawful k).accepted (orders_of p c' vs' sound'.lawful k).placed ≡ Some x)
    a = get_there (orders_of p c' vs' sound'.lawful k).accepted (orders_of p c' vs' sound'.lawful k).placed less

    word : get_or c'.words (place_index p (label a.0)) 0 ≡ place_word true k (orders_of p c' vs' sound'.lawful k).placed
    word = are.written k (orders_of p c' vs' sound'.lawful k).placed a.0 kl a.1 ∙ ap (λ b. place_word b k (orders_of p c' vs' sound'.lawful k).placed) (le-leb (orders_of p c' vs' sound'.lawful k).placed (orders_of p c' vs' sound'.lawful k).placed (omega arith))

    outside : 8 * p.operations ≤ label a.0 → ⊥
    outside high = let sized = sound'.lawful.references.sized in let z = beyond c'.words (place_index p (label a.0)) (omega (arith, sized, high)) in omega (arith, z, word)

    place_low : (orders_of p c' vs' sound'.lawful k).placed < 2147483648
    place_low = let s = log_small p c' vs' sound' few' in let o = on_shorter k sound'.lawful.log in let m = length-map (on k sound'.lawful.log) accepted_of in omega (arith, s, o, m, less)

    by_shown : label a.0 < 8 * p.operations → ShownAt p.links (λ l. slice_index c.words (place_index p l)) sound.lawful.log sound.lawful.places sound.lawful.kept (label a.0) → Failed p (state c vs) k
    by_shown low (no_place z none_) = absurd (let e : get_or c.words (place_index p (label a.0)) 0 ≡ 0 = z in let s = same (label a.0) low in omega (arith, e, s, word))
    by_shown low (one_place k' i' e' kl' il' at' is' w) = by (nat_le (sound.lawful.kept k') i') refl w
      where
        others : i' < 2147483648
        others = let s = log_small p c vs sound few in let o = on_shorter k' sound.lawful.log in let in' = at_length (on k' sound.lawful.log) i' e' at' in omega (arith, s, o, in')

        by : (b : Bool) → nat_le (sound.lawful.kept k') i' ≡ b → get_or c.words (place_index p (label a.0)) 0 ≡ place_word b k' i' → Failed p (state c vs) k
        by true le w = let one : k' ≡ k = (let s = same (label a.0) low in let x = place_low in let y = others in omega (arith, s, word, w, x, y)) in
            subst (Failed p (state c vs)) one (sound.lawful.delivered.failed k' kl' (let l = leb-true (sound.lawful.kept k') i' le in omega (arith, l, il')))
        by false le w = absurd (let s = same (label a.0) low in let x = place_low in let y = others in let few_links = sound.limits.links in omega (arith, s, word, w, x, y, few_links, kl'))
