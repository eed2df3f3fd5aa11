-- Each tick keeps that a code of a socket which no client stores was stored by the reader of its link, behind the end of its reading.
use Rattle.std.proofs.Common.{◌≡◌, ◌≢◌, ℕ, ◌+◌, ◌%◌, ◌<◌, ◌≤◌, ◌⊎◌, inl, inr, ⊎_elim, Bool, true, false, eq-eqb, List, ◌++◌, get_or, refl, sym, ap, ◌∙◌, subst, arith}
use Rattle.std.specs.Prelude.{◌==◌, ◌&&◌}
use mathlib.Core.Logic.{dite}
use mathlib.Core.Option.{Option, none, some}
use native.Mathlib.Decide.{ℕ_discrete, dec_le}
use lib.ListN.{get_elem?}
use Rattle.sock_words.specs.PackedWords.{socket_id_version, socket_id_slot, NO_SOCKET}
use Rattle.sock_words.specs.declared.plain.Plan.{Plan}
use Rattle.sock_model.specs.declared.view.View.{View}
use Rattle.sock_model.specs.SocketTableLayout.{open_index}
use Rattle.sock_model.specs.References.{slot_facts}
use Rattle.sock_model.specs.SocketSlotLaw.{live}
use Rattle.seat_programs.specs.Asides.{Taking}
use Rattle.seat_programs.specs.TableSteps.{OnSlot, StoreCode, LoadCode}
use Rattle.seat_programs.specs.Cores.{Core, SeatState, found_at}
use Rattle.seat_programs.specs.StepTables.{word_of}
use Rattle.seat_programs.specs.Programs.{Program, Do, Rest}
use Rattle.seat_programs.specs.ReaderProgram.{reader}
use Rattle.seat_programs.specs.Ticks.{Moment, IsAnswered, ticked}
use Rattle.ended_calls.specs.refused_attempts.specs.Below.programs_allowed.specs.program_steps.specs.ProgramGoesOn.{GoesOn}
use Rattle.seat_programs.specs.StepTables.{May}
use Rattle.ended_calls.specs.refused_attempts.specs.Below.programs_allowed.specs.program_steps.specs.SoundSeats.{state, Sound, IsFitting, views_after}
use Rattle.ended_calls.specs.refused_attempts.specs.Below.programs_allowed.specs.program_steps.proofs.TickCases.{goes_first, tick_cases}
use Rattle.ended_calls.specs.refused_attempts.specs.Below.programs_allowed.specs.sock_runs.proofs.LinkTicks.{RetriesGo}
use Rattle.ended_calls.specs.refused_attempts.specs.Below.programs_allowed.specs.program_walks.proofs.Recorded.{Recorded}
use Rattle.ended_calls.specs.refused_attempts.specs.Below.call_stories.specs.Decided.{is_late_step, late_at}
use Rattle.ended_calls.specs.refused_attempts.specs.accept_counts.specs.RefusedOrDropped.{DidStep, DidAt}
use Rattle.ended_calls.specs.refused_attempts.specs.accept_counts.proofs.Closers.{Ends, Calm, calm_first, stores_code}
use Rattle.dropped_calls.proofs.DropEnds.{StoresThose, those, program_of, those_ticks}
use Rattle.ended_calls.specs.refused_attempts.specs.sent_once.proofs.DropWords.{version_in, code_in, held_version, coding_version, live_none, code_stays}
use Rattle.ended_calls.specs.refused_attempts.specs.accept_counts.proofs.ReadingsAtTicks.{State, found_by}
use Rattle.ended_calls.specs.refused_attempts.specs.accept_counts.proofs.ReaderRuns.{Keeps, keeps_ticks, reader_of, view_at, state_at}
use Rattle.seat_programs.specs.LoopRounds.{first_step}

-- P tells which codes clients store, W are the words of the table in the end, and New tells of which lives something is said
module _ (p : Plan) (calls os : List ℕ) (in_os : (k o : ℕ) → get_elem? os k ≡ some o → o < p.operations) (Odd : List Taking → Type 0) (Lasts : Type 0) (ends : (n id : ℕ) → Ends n id Odd Lasts) (P : ℕ → Type 0) (gone : P 1009) (W : List ℕ) (New : ℕ → ℕ → Type 0) where
  -- the life is that of the `open` of this link
  pub record IsLife (j h : ℕ) : Type 0 where
    pub link : ℕ
    pub operation : ℕ
    pub id : ℕ
    pub at : get_elem? os link ≡ some operation
    pub word : get_or W (open_index p operation) 0 ≡ id + 1
    pub socket : get_or W (open_index p operation) 0 ≢ NO_SOCKET
    pub slot : j ≡ socket_id_slot id
    pub version : h ≡ socket_id_version id

  -- Late tells of which links the reader has made a step that it makes only behind the end of its reading
  abbrev pub Stored : (ℕ → Type 0) → ℕ → ℕ → ℕ → Type 0
  Stored Late j h code = P code ⊎ ((l : IsLife j h) × Late l.link)

  pub stored_more : (Late Later : ℕ → Type 0) → ((n : ℕ) → Late n → Later n) → (j h code : ℕ) → Stored Late j h code → Stored Later j h code
  stored_more Late Later f j h code (inl x) = inl x
  stored_more Late Later f j h code (inr x) = inr (x.0, f (let l = x.0 in l.link) x.1)

  pub record LateLaw (Late : ℕ → Type 0) (c : Core) (vs : List View) (taken : ℕ → List Taking) : Type 0 where
    pub keeps : Keeps p calls os in_os Odd Lasts ends c vs taken
    pub clients : (j : ℕ) → j < 32 → StoresThose P gone j c
    pub known : (j h : ℕ) → New j h → j < p.slots → h % 2 ≡ 0 → version_in c.words j ≡ h + 1 → code_in c.words j ≢ 0 → Stored Late j h (code_in c.words j)

  pub late_more : (Late Later : ℕ → Type 0) → ((n : ℕ) → Late n → Later n) → (c : Core) (vs : List View) (taken : ℕ → List Taking) → LateLaw Late c vs taken → LateLaw Later c vs taken
  late_more Late Later f c vs taken law = record { keeps = law.keeps; clients = law.clients; known = λ j h new inside even version some_. stored_more Late Later f j h (code_in c.words j) (law.known j h new inside even version some_) }

  module _ (Q : ℕ → ℕ → Type 0) (go : RetriesGo p) (c : Core) (vs : List View) (m : Moment) (taken : ℕ → List Taking) (sound : Sound p c vs) (answered : IsAnswered c m) (fitting : IsFitting p c m) (recorded : Recorded p Q c vs)
      (ahead : (o : ℕ) → o < p.operations → get_or c.words (open_index p o) 0 ≢ 0 → get_or W (open_index p o) 0 ≡ get_or c.words (open_index p o) 0) (Late : ℕ → Type 0) (law : LateLaw Late c vs taken) where
    -- with this tick
    abbrev pub Later : ℕ → Type 0
    Later n = Late n ⊎ (late_at (32 + n) c m ≡ true)

    -- a code that a seat stores
    module _ (seat : SeatState) (v : View) (at : get_elem? c.seats m.seat ≡ some seat) (here : get_elem? vs m.seat ≡ some v) (j g code : ℕ) (next : ℕ → Program) (is : first_step seat.program ≡ Do (OnSlot (StoreCode j g code)) next) (may : May p v (OnSlot (StoreCode j g code))) where
      by_client : m.seat < 32 → P code
      by_client low = let s = program_of P gone m.seat p c vs sound m answered (law.clients m.seat low) seat at (Do (OnSlot (StoreCode j g code)) next) is refl in those P gone s.0 s.1 j g code next s.2

      late_here : (n : ℕ) → m.seat ≡ 32 + n → late_at (32 + n) c m ≡ true
      late_here n own = ap (λ (o : Option SeatState). elim o as (λ o. Bool) [ none ↦ false | some s ↦ (m.seat == 32 + n) && is_late_step (first_step s.program) ]) at
          ∙ (ap (λ b. b && is_late_step (first_step seat.program)) (eq-eqb m.seat (32 + n) own) ∙ ap is_late_step is)

      by_reader : 32 ≤ m.seat → (l : IsLife j g) × Later l.link
      by_reader high = let r = reader_of p calls os in_os Odd Lasts ends c vs taken law.keeps m.seat seat at high in by r (state_at p calls os in_os Odd Lasts ends c vs taken law.keeps m.seat seat v at here r)
        where
          by : (r : (n : ℕ) × (o : ℕ) × (m.seat ≡ 32 + n) × (get_elem? os n ≡ some o)) → State p calls r.0 r.1 (in_os r.0 r.1 r.3) Odd Lasts (ends r.0) (get_or c.words (open_index p r.1) 0) (taken r.0) seat.program v → (l : IsLife j g) × Later l.link
          by r (none_, inl s) = absurd (let z : first_step (reader calls r.0 r.1) ≡ Do (OnSlot (StoreCode j g code)) next = sym (ap first_step s.0) ∙ is in cc)
          by r (none_, inr (inl s)) = absurd (let z : Rest ≡ Do (OnSlot (StoreCode j g code)) next = sym (ap first_step s.0) ∙ is in cc)
          by r (none_, inr (inr s)) = let x = stores_code r.0 s.id Odd Lasts s.held (taken r.0) j g code next (subst (Calm r.0 s.id Odd Lasts s.held (taken r.0)) is (calm_first r.0 s.id Odd Lasts (ends r.0 s.id) s.held (taken r.0) seat.program s.calm)) in
              let w = s.word in let stays = ahead r.1 (in_os r.0 r.1 r.3) (λ z. omega (arith, z, w)) in
              (record { link = r.0; operation = r.1; id = s.id; at = r.3; word = stays ∙ s.word; socket = λ z. s.socket (sym stays ∙ z); slot = x.1; version = x.2 }, inr (late_here r.0 r.2))

      stored : (h : ℕ) → version_in c.words j ≡ h + 1 → Stored Later j h code
      stored h version = dite (dec_le 32 m.seat)
          (λ high. let same : g ≡ h = (let z = coding_version p c vs sound m.seat v here j g may.0 may.1 in omega (arith, z, version)) in inr (subst (λ z. (l : IsLife j z) × Later l.link) same (by_reader high)))
          (λ low. inl (by_client (omega (arith, low))))

    abbrev Known : Core → List View → Type 0
    Known d us = (j h : ℕ) → New j h → j < p.slots → h % 2 ≡ 0 → version_in d.words j ≡ h + 1 → code_in d.words j ≢ 0 → Stored Later j h (code_in d.words j)

    known_here : Known c vs
    known_here j h new inside even version some_ = stored_more Late Later (λ n l. inl l) j h (code_in c.words j) (law.known j h new inside even version some_)

    known_ticks : Known (ticked p c m) (views_after p c vs m)
    known_ticks = tick_cases p c vs m sound answered Known known_here
        (λ seat v call next at here is goes j h new inside even version some_. ⊎_elim
        (λ x. subst (Stored Later j h) (sym x.1) (known_here j h new inside even x.0 (λ z. some_ (x.1 ∙ z))))
        (λ x. subst (Stored Later j h) (sym x.4) (stored seat v at here j x.0 x.1 next (is ∙ ap (λ y. Do y next) x.2) (subst (May p v) x.2 goes.0) h x.3))
        (code_stays p c vs sound m.seat v here j h inside even call goes.0 version some_))
        (λ seat v r next heading bytes at here is goes lies. known_here)
        (λ seat v k next took n at here is goes lies. known_here)
        (λ seat v k n after at here is goes. known_here)
        (λ seat v k asked bytes next answer at here is goes answer_is fits. known_here)
        (λ seat v k next answer at here is goes answer_is. known_here)
        (λ seat v s next found at here is goes found_is. known_here)

    pub late_ticks : (c.calls.ending ≡ true → Lasts) → LateLaw Later (ticked p c m) (views_after p c vs m) (λ n. taken n ++ found_by c m n)
    late_ticks lasting = record {
      keeps = keeps_ticks p calls os in_os Odd Lasts ends Q go c vs m taken sound answered fitting recorded lasting law.keeps;
      clients = λ j low. those_ticks P gone j p c vs sound m answered (law.clients j low);
      known = known_ticks;
    }

    -- a code that was found in the tick
    pub found_stored : (seat i h code : ℕ) → DidAt p c m seat (DidStep (OnSlot (LoadCode i h)) code) → code ≢ 0 → New i h → Stored Late i h code
    found_stored seat i h code d some_ new = by d.1 (subst (λ n. get_elem? c.seats n ≡ some d.1) (sym d.0) d.3) d.2 d.4 d.5
      where
        by : (s : SeatState) → get_elem? c.seats m.seat ≡ some s → (next : ℕ → Program) → first_step s.program ≡ Do (OnSlot (LoadCode i h)) next → code ≡ found_at c.words (word_of p (OnSlot (LoadCode i h))) → Stored Late i h code
        by s at next is found = let v = view_at p calls os in_os Odd Lasts ends c vs sound m.seat s at in
            let may = (subst (GoesOn p v.0) is (goes_first p v.0 s.program (sound.seats m.seat s v.0 at v.1).goes_on)).0 in
            let held = held_version p c vs sound m.seat v.0 v.1 i h may.0 may.1 in
            let code_is : code ≡ code_in c.words i = found in
            subst (Stored Late i h) (sym code_is) (law.known i h new may.0 held.1
            (dite (ℕ_discrete (live (slot_facts (state c vs) i)) 0) (λ z. let a = held.0 in omega (arith, a, z)) (λ n. absurd (some_ (code_is ∙ live_none p c vs sound m.seat v.0 v.1 i may.0 (omega (arith, n))))))
            (λ z. some_ (code_is ∙ z)))
