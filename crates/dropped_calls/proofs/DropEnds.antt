-- Each tick keeps that a code of a socket which no client and no ending stores is that of its reader, by how the reading of its link ended.
use Rattle.std.proofs.Common.{◌≡◌, ◌≢◌, ℕ, ◌+◌, ◌%◌, ◌<◌, ◌≤◌, ◌⊎◌, inl, inr, ⊎_elim, true, List, [], ◌∷◌, ◌++◌, append-nil, append_assoc, get_or, set, refl, sym, ap, ◌∙◌, subst, arith}
use mathlib.Core.Logic.{dite}
use mathlib.Core.Option.{Option, none, some}
use native.Mathlib.Decide.{ℕ_discrete, dec_le}
use lib.ListN.{get_elem?}
use Rattle.atomic_table.proofs.Lists.{at_set}
use Rattle.sock_words.specs.PackedWords.{socket_id_version, socket_id_slot, NO_SOCKET}
use Rattle.sock_words.specs.declared.plain.Plan.{Plan}
use Rattle.sock_model.specs.declared.home.Home.{Home}
use Rattle.sock_model.specs.declared.view.View.{View}
use Rattle.sock_model.specs.SocketTableLayout.{open_index}
use Rattle.sock_model.specs.References.{slot_facts}
use Rattle.sock_model.specs.SocketSlotLaw.{live}
use Rattle.seat_programs.specs.Asides.{Taking}
use Rattle.seat_programs.specs.FoundAndChangedAside.{calls_after}
use Rattle.seat_programs.specs.TableSteps.{TableStep, OnSlot, StoreCode, LoadCode}
use Rattle.seat_programs.specs.Cores.{Calls, Core, SeatState, found_at, words_after, homes_after, hand_after, lies_at, first_of, others_of, link_place, resolved, waiting_at, next_step, with_seat}
use Rattle.seat_programs.specs.StepTables.{word_of, word_after}
use Rattle.seat_programs.specs.Programs.{Program, Do, Rest, TakeMessage, TakeHome, PutHome, PutBytes, AskReady, Aside}
use Rattle.seat_programs.specs.ReaderProgram.{reader}
use Rattle.seat_programs.specs.Ticks.{Moment, IsAnswered, AreAnswered, fed, with_places, onto_first, ticked, run}
use Rattle.ended_calls.specs.refused_attempts.specs.Below.programs_allowed.specs.program_steps.specs.ProgramGoesOn.{GoesOn}
use Rattle.seat_programs.specs.StepTables.{May}
use Rattle.ended_calls.specs.refused_attempts.specs.Below.programs_allowed.specs.program_steps.specs.SoundSeats.{state, Sound, IsFitting, AreFitting, views_after, views_along}
use Rattle.ended_calls.specs.refused_attempts.specs.Below.programs_allowed.specs.program_steps.proofs.TickCases.{goes_first, tick_cases}
use Rattle.ended_calls.specs.refused_attempts.specs.Below.programs_allowed.specs.sock_runs.proofs.LinkTicks.{RetriesGo}
use Rattle.ended_calls.specs.refused_attempts.specs.Below.programs_allowed.specs.program_walks.proofs.OpensStay.{run_word}
use Rattle.ended_calls.specs.refused_attempts.specs.Below.programs_allowed.specs.program_walks.proofs.Recorded.{Recorded, recorded_ticks}
use Rattle.ended_calls.specs.refused_attempts.specs.Below.programs_allowed.specs.sock_runs.proofs.TicksKeepSeatsSound.{sound_ticks}
use Rattle.ended_calls.specs.refused_attempts.specs.accept_counts.specs.RefusedOrDropped.{DidStep, DidAt, DidIn}
use Rattle.ended_calls.specs.refused_attempts.specs.accept_counts.proofs.Closers.{Ends, Calm, Codes, codes_more, calm_first, stores_code}
use Rattle.ended_calls.specs.refused_attempts.specs.sent_once.proofs.SourcesOfSocketCodes.{Failing, NoFail, Fails, Stores, codes_first, codes_next}
use Rattle.ended_calls.specs.refused_attempts.specs.sent_once.proofs.DropTicks.{Behind, stores_none, stores_own, behind}
use Rattle.ended_calls.specs.refused_attempts.specs.sent_once.proofs.DropWords.{version_in, code_in, held_version, coding_version, live_none, code_stays}
use Rattle.ended_calls.specs.refused_attempts.specs.accept_counts.proofs.ReadingsAtTicks.{State, found_by}
use Rattle.ended_calls.specs.refused_attempts.specs.accept_counts.proofs.ReaderRuns.{Keeps, founds, keeps_ticks, keeps_same, reader_of, view_at, state_at}
use Rattle.seat_programs.specs.LoopRounds.{first_step}

-- ## What clients and the ending store

-- P tells which codes they may store
module _ (P : ℕ → Type 0) (gone : P 1009) where
  abbrev pub Has : Failing → Type 0
  Has NoFail = Unit {0}
  Has (Fails o code i) = P code

  -- seat j stores such codes
  pub record StoresThose (j : ℕ) (c : Core) : Type 0 where
    pub failing : Failing
    pub program : (seat : SeatState) → get_elem? c.seats j ≡ some seat → Stores (λ o code. P code) P failing seat.program
    pub has : Has failing

  -- a code that it stores next
  pub those : (f : Failing) → Has f → (i h code : ℕ) (next : ℕ → Program) → Stores (λ o code. P code) P f (Do (OnSlot (StoreCode i h code)) next) → P code
  those f has i h code next (inl x, after) = x
  those f has i h code next (inr x, after) = subst Has x.1 has

  module _ (j : ℕ) (p : Plan) (c : Core) (vs : List View) (sound : Sound p c vs) (m : Moment) (answered : IsAnswered c m) (law : StoresThose j c) where
    -- what its program is to store
    abbrev Some_ : Program → Type 0
    Some_ x = (f : Failing) × Has f × Stores (λ o code. P code) P f x

    same_has : (f g : Failing) → (g ≡ f) ⊎ (g ≡ NoFail) → Has f → Has g
    same_has f g (inl e) has = subst Has (sym e) has
    same_has f g (inr e) has = subst Has (sym e) tt

    next_has : (f : Failing) → Has f → (ws : List Rattle.seat_programs.specs.LoopHeads.Retry) (x : Program) → Stores (λ o code. P code) P f x → Some_ (next_step (resolved ws x))
    next_has f has ws x stores = let r = codes_next (λ o code. P code) P gone f ws x stores in (r.0, same_has f r.0 (⊎_elim (λ e. inl e.0) (λ e. inr e) r.1) has, r.2)

    reseated : (a : Calls) (x : Program) (hand : List Home) (ws : List ℕ) (hs : List (Option Home)) → (j ≡ m.seat → Some_ x) → StoresThose j (with_seat m.seat x hand ws hs (record c { calls = a }))
    reseated a x hand ws hs goes = dite (ℕ_discrete j m.seat)
        (λ own. let s = goes own in let r = next_has s.0 s.1 (waiting_at a.waiting m.seat) x s.2 in record {
          failing = r.0;
          program = λ seat at. ⊎_elim (λ b. subst (λ (z : SeatState). Stores (λ o code. P code) P r.0 z.program) b.1 r.2) (λ b. absurd (b.0 own)) (at_set c.seats m.seat j _ seat at);
          has = r.1;
        })
        (λ ne. record {
          failing = law.failing;
          program = λ seat at. ⊎_elim (λ b. absurd (ne b.0)) (λ b. law.program seat b.1) (at_set c.seats m.seat j _ seat at);
          has = law.has;
        })

    pub program_of : (seat : SeatState) → get_elem? c.seats m.seat ≡ some seat → (x : Program) → first_step seat.program ≡ x → j ≡ m.seat → Some_ x
    program_of seat at x is own = let f = codes_first (λ o code. P code) P gone law.failing seat.program (law.program seat (ap (get_elem? c.seats) own ∙ at)) in
        (f.0, same_has law.failing f.0 f.1 law.has, subst (Stores (λ o code. P code) P f.0) is f.2)

    behind_step : (call : TableStep) (next : ℕ → Program) (found : ℕ) → Some_ (Do call next) → Some_ (next found)
    behind_step call next found s = by (behind s.0 (λ o code. P code) P call next found s.2)
      where
        by : Behind s.0 (λ o code. P code) P call next found → Some_ (next found)
        by (stores_none x) = (NoFail, tt, x)
        by (stores_own i o code is own even says x) = (Fails o code i, own, x)

    plain : (x : Program) → Stores (λ o code. P code) P NoFail x → Some_ x
    plain x s = (NoFail, tt, s)

    pub those_ticks : StoresThose j (ticked p c m)
    those_ticks = tick_cases p c vs m sound answered (λ d us. StoresThose j d) law
        (λ seat v call next at here is goes. reseated c.calls (next (found_at c.words (word_of p call))) (hand_after p call c.homes seat.hand) (words_after c.words (word_of p call) (word_after call (found_at c.words (word_of p call)))) (homes_after p call seat.hand c.homes)
        (λ own. behind_step call next (found_at c.words (word_of p call)) (program_of seat at (Do call next) is own)))
        (λ seat v r next heading bytes at here is goes lies. reseated c.calls (next heading bytes) seat.hand c.words (set c.homes r none) (λ own. plain (next heading bytes) ((program_of seat at (TakeMessage r next) is own).2 heading bytes)))
        (λ seat v k next took n at here is goes lies. reseated c.calls (next n) (lies_at c.homes (link_place p k) ++ seat.hand) c.words (set c.homes (link_place p k) none) (λ own. plain (next n) ((program_of seat at (TakeHome k next) is own).2 n)))
        (λ seat v k n after at here is goes. reseated c.calls after (others_of seat.hand) c.words (set c.homes (link_place p k) (first_of (onto_first (with_places n) seat.hand))) (λ own. plain after (program_of seat at (PutHome k n after) is own).2))
        (λ seat v k asked bytes next answer at here is goes answer_is fits. reseated c.calls (next answer) (onto_first (fed bytes answer) seat.hand) c.words c.homes (λ own. plain (next answer) ((program_of seat at (PutBytes k asked bytes next) is own).2 answer)))
        (λ seat v k next answer at here is goes answer_is. reseated c.calls (next answer) seat.hand c.words c.homes (λ own. plain (next answer) ((program_of seat at (AskReady k next) is own).2 answer)))
        (λ seat v s next found at here is goes found_is. reseated (calls_after s found c.calls) (next found) seat.hand c.words c.homes (λ own. plain (next found) ((program_of seat at (Aside s next) is own).2 found)))

-- ## Whose a code is

module _ (p : Plan) (calls os : List ℕ) (in_os : (k o : ℕ) → get_elem? os k ≡ some o → o < p.operations) (Odd : List Taking → Type 0) (Lasts : Type 0) (ends : (n id : ℕ) → Ends n id Odd Lasts) (P : ℕ → Type 0) (gone : P 1009) where
  -- it was stored by the reader of the link whose `open` made the life
  pub record IsReaders (c : Core) (taken : ℕ → List Taking) (j h code : ℕ) : Type 0 where
    pub link : ℕ
    pub operation : ℕ
    pub id : ℕ
    pub at : get_elem? os link ≡ some operation
    pub word : get_or c.words (open_index p operation) 0 ≡ id + 1
    pub socket : get_or c.words (open_index p operation) 0 ≢ NO_SOCKET
    pub slot : j ≡ socket_id_slot id
    pub version : h ≡ socket_id_version id
    pub codes : Codes (taken link) code

  abbrev pub Whose : Core → (ℕ → List Taking) → ℕ → ℕ → ℕ → Type 0
  Whose c taken j h code = P code ⊎ IsReaders c taken j h code

  pub record EndsLaw (c : Core) (vs : List View) (taken : ℕ → List Taking) : Type 0 where
    pub keeps : Keeps p calls os in_os Odd Lasts ends c vs taken
    pub clients : (j : ℕ) → j < 32 → StoresThose P gone j c
    pub known : (j h : ℕ) → j < p.slots → h % 2 ≡ 0 → version_in c.words j ≡ h + 1 → code_in c.words j ≢ 0 → Whose c taken j h (code_in c.words j)

  whose_same : (c : Core) (taken taken' : ℕ → List Taking) → ((n : ℕ) → taken n ≡ taken' n) → (j h code : ℕ) → Whose c taken j h code → Whose c taken' j h code
  whose_same c taken taken' same j h code (inl x) = inl x
  whose_same c taken taken' same j h code (inr x) = inr (record { link = x.link; operation = x.operation; id = x.id; at = x.at; word = x.word; socket = x.socket; slot = x.slot; version = x.version; codes = subst (λ l. Codes l code) (same x.link) x.codes })

  module _ (Q : ℕ → ℕ → Type 0) (go : RetriesGo p) where
    module _ (c : Core) (vs : List View) (m : Moment) (taken : ℕ → List Taking) (sound : Sound p c vs) (answered : IsAnswered c m) (fitting : IsFitting p c m) (recorded : Recorded p Q c vs) where
      later : (taken' : ℕ → List Taking) (j h code : ℕ) → Whose c taken j h code → Whose (ticked p c m) (λ n. taken n ++ taken' n) j h code
      later taken' j h code (inl x) = inl x
      later taken' j h code (inr x) = let w = x.word in let stays = run_word p Q x.operation (in_os x.link x.operation x.at) go c vs (m ∷ []) sound (answered, tt) (fitting, tt) recorded (λ z. omega (arith, z, w)) in inr (record {
        link = x.link;
        operation = x.operation;
        id = x.id;
        at = x.at;
        word = stays ∙ x.word;
        socket = λ z. x.socket (sym stays ∙ z);
        slot = x.slot;
        version = x.version;
        codes = codes_more (taken x.link) (taken' x.link) code x.codes;
      })

      module _ (law : EndsLaw c vs taken) where
        -- a code that a seat stores
        module _ (seat : SeatState) (v : View) (at : get_elem? c.seats m.seat ≡ some seat) (here : get_elem? vs m.seat ≡ some v) (j g code : ℕ) (next : ℕ → Program) (is : first_step seat.program ≡ Do (OnSlot (StoreCode j g code)) next) (may : May p v (OnSlot (StoreCode j g code))) where
          by_client : m.seat < 32 → P code
          by_client low = let s = program_of P gone m.seat p c vs sound m answered (law.clients m.seat low) seat at (Do (OnSlot (StoreCode j g code)) next) is refl in those P gone s.0 s.1 j g code next s.2

          by_reader : 32 ≤ m.seat → IsReaders c taken j g code
          by_reader high = let r = reader_of p calls os in_os Odd Lasts ends c vs taken law.keeps m.seat seat at high in by r (state_at p calls os in_os Odd Lasts ends c vs taken law.keeps m.seat seat v at here r)
            where
              by : (r : (n : ℕ) × (o : ℕ) × (m.seat ≡ 32 + n) × (get_elem? os n ≡ some o)) → State p calls r.0 r.1 (in_os r.0 r.1 r.3) Odd Lasts (ends r.0) (get_or c.words (open_index p r.1) 0) (taken r.0) seat.program v → IsReaders c taken j g code
              by r (none_, inl s) = absurd (let z : first_step (reader calls r.0 r.1) ≡ Do (OnSlot (StoreCode j g code)) next = sym (ap first_step s.0) ∙ is in cc)
              by r (none_, inr (inl s)) = absurd (let z : Rest ≡ Do (OnSlot (StoreCode j g code)) next = sym (ap first_step s.0) ∙ is in cc)
              by r (none_, inr (inr s)) = let x = stores_code r.0 s.id Odd Lasts s.held (taken r.0) j g code next (subst (Calm r.0 s.id Odd Lasts s.held (taken r.0)) is (calm_first r.0 s.id Odd Lasts (ends r.0 s.id) s.held (taken r.0) seat.program s.calm)) in
                  record { link = r.0; operation = r.1; id = s.id; at = r.3; word = s.word; socket = s.socket; slot = x.1; version = x.2; codes = x.0 }

          stored : (h : ℕ) → version_in c.words j ≡ h + 1 → Whose c taken j h code
          stored h version = dite (dec_le 32 m.seat)
              (λ high. let same : g ≡ h = (let z = coding_version p c vs sound m.seat v here j g may.0 may.1 in omega (arith, z, version)) in inr (subst (λ z. IsReaders c taken j z code) same (by_reader high)))
              (λ low. inl (by_client (omega (arith, low))))

        abbrev Known : Core → List View → Type 0
        Known d us = (j h : ℕ) → j < p.slots → h % 2 ≡ 0 → version_in d.words j ≡ h + 1 → code_in d.words j ≢ 0 → Whose c taken j h (code_in d.words j)

        known_ticks : Known (ticked p c m) (views_after p c vs m)
        known_ticks = tick_cases p c vs m sound answered Known law.known
            (λ seat v call next at here is goes j h inside even version some_. ⊎_elim
            (λ x. subst (Whose c taken j h) (sym x.1) (law.known j h inside even x.0 (λ z. some_ (x.1 ∙ z))))
            (λ x. subst (Whose c taken j h) (sym x.4) (stored seat v at here j x.0 x.1 next (is ∙ ap (λ y. Do y next) x.2) (subst (May p v) x.2 goes.0) h x.3))
            (code_stays p c vs sound m.seat v here j h inside even call goes.0 version some_))
            (λ seat v r next heading bytes at here is goes lies. law.known)
            (λ seat v k next took n at here is goes lies. law.known)
            (λ seat v k n after at here is goes. law.known)
            (λ seat v k asked bytes next answer at here is goes answer_is fits. law.known)
            (λ seat v k next answer at here is goes answer_is. law.known)
            (λ seat v s next found at here is goes found_is. law.known)

        pub ends_ticks : (c.calls.ending ≡ true → Lasts) → EndsLaw (ticked p c m) (views_after p c vs m) (λ n. taken n ++ found_by c m n)
        ends_ticks lasting = record {
          keeps = keeps_ticks p calls os in_os Odd Lasts ends Q go c vs m taken sound answered fitting recorded lasting law.keeps;
          clients = λ j low. those_ticks P gone j p c vs sound m answered (law.clients j low);
          known = λ j h inside even version some_. later (λ n. found_by c m n) j h (code_in (ticked p c m).words j) (known_ticks j h inside even version some_);
        }

        -- a code that was found in the tick
        pub found_whose : (seat i h code : ℕ) → DidAt p c m seat (DidStep (OnSlot (LoadCode i h)) code) → code ≢ 0 → Whose c taken i h code
        found_whose seat i h code d some_ = by d.1 (subst (λ n. get_elem? c.seats n ≡ some d.1) (sym d.0) d.3) d.2 d.4 d.5
          where
            by : (s : SeatState) → get_elem? c.seats m.seat ≡ some s → (next : ℕ → Program) → first_step s.program ≡ Do (OnSlot (LoadCode i h)) next → code ≡ found_at c.words (word_of p (OnSlot (LoadCode i h))) → Whose c taken i h code
            by s at next is found = let v = view_at p calls os in_os Odd Lasts ends c vs sound m.seat s at in
                let may = (subst (GoesOn p v.0) is (goes_first p v.0 s.program (sound.seats m.seat s v.0 at v.1).goes_on)).0 in
                let held = held_version p c vs sound m.seat v.0 v.1 i h may.0 may.1 in
                let code_is : code ≡ code_in c.words i = found in
                subst (Whose c taken i h) (sym code_is) (law.known i h may.0 held.1
                (dite (ℕ_discrete (live (slot_facts (state c vs) i)) 0) (λ z. let a = held.0 in omega (arith, a, z)) (λ n. absurd (some_ (code_is ∙ live_none p c vs sound m.seat v.0 v.1 i may.0 (omega (arith, n))))))
                (λ z. some_ (code_is ∙ z)))

    -- ## Over ticks

    pub record EndsAlong (c : Core) (vs : List View) (taken : ℕ → List Taking) (ms : List Moment) : Type 0 where
      pub after : EndsLaw (run p c ms) (views_along p c vs ms) (λ n. taken n ++ founds p calls os in_os Odd Lasts ends c ms n)
      pub stay : (j h code : ℕ) → Whose c taken j h code → Whose (run p c ms) (λ n. taken n ++ founds p calls os in_os Odd Lasts ends c ms n) j h code
      pub told : (seat i h code : ℕ) → DidIn p c ms seat (DidStep (OnSlot (LoadCode i h)) code) → code ≢ 0 → Whose (run p c ms) (λ n. taken n ++ founds p calls os in_os Odd Lasts ends c ms n) i h code

    law_same : (c : Core) (vs : List View) (taken taken' : ℕ → List Taking) → ((n : ℕ) → taken n ≡ taken' n) → EndsLaw c vs taken → EndsLaw c vs taken'
    law_same c vs taken taken' same l = record { keeps = keeps_same p calls os in_os Odd Lasts ends c vs taken taken' same l.keeps; clients = l.clients; known = λ j h inside even version some_. whose_same c taken taken' same j h (code_in c.words j) (l.known j h inside even version some_) }

    pub ends_along : (ms : List Moment) (c : Core) (vs : List View) (taken : ℕ → List Taking) → Sound p c vs → AreAnswered p c ms → AreFitting p c ms → Recorded p Q c vs → (Lasts) → EndsLaw c vs taken → EndsAlong c vs taken ms
    ends_along [] c vs taken sound answered fitting recorded lasts law = record {
      after = law_same c vs taken (λ n. taken n ++ []) (λ n. sym (append-nil (taken n))) law;
      stay = λ j h code w. whose_same c taken (λ n. taken n ++ []) (λ n. sym (append-nil (taken n))) j h code w;
      told = λ seat i h code d. absurd d;
    }
    ends_along (m ∷ ms) c vs taken sound answered fitting recorded lasts law =
        let r = ends_along ms (ticked p c m) (views_after p c vs m) (λ n. taken n ++ found_by c m n) (sound_ticks p go c vs m sound answered.0 fitting.0) answered.1 fitting.1 (recorded_ticks p Q c vs m sound answered.0 fitting.0 recorded) lasts
        (ends_ticks c vs m taken sound answered.0 fitting.0 recorded law (λ e. lasts)) in joined r
      where
        h₁ : ℕ → List Taking
        h₁ n = (taken n ++ found_by c m n) ++ founds p calls os in_os Odd Lasts ends (ticked p c m) ms n

        h₂ : ℕ → List Taking
        h₂ n = taken n ++ founds p calls os in_os Odd Lasts ends c (m ∷ ms) n

        same : (n : ℕ) → h₁ n ≡ h₂ n
        same n = append_assoc (taken n) (found_by c m n) (founds p calls os in_os Odd Lasts ends (ticked p c m) ms n)

        joined : EndsAlong (ticked p c m) (views_after p c vs m) (λ n. taken n ++ found_by c m n) ms → EndsAlong c vs taken (m ∷ ms)
        joined r = record {
          after = law_same (run p (ticked p c m) ms) (views_along p (ticked p c m) (views_after p c vs m) ms) h₁ h₂ same r.after;
          stay = λ j h code w. whose_same (run p (ticked p c m) ms) h₁ h₂ same j h code (r.stay j h code (later c vs m taken sound answered.0 fitting.0 recorded (λ n. found_by c m n) j h code w));
          told = λ seat i h code d some_. whose_same (run p (ticked p c m) ms) h₁ h₂ same i h code (⊎_elim
              (λ now. r.stay i h code (later c vs m taken sound answered.0 fitting.0 recorded (λ n. found_by c m n) i h code (found_whose c vs m taken sound answered.0 fitting.0 recorded law seat i h code now some_)))
              (λ rest. r.told seat i h code rest some_) d);
        }
