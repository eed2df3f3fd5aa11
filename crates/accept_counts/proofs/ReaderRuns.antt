-- Over the ticks of a run all readers keep to their links, and each socket that a reader set failed is its own link's, whose reading ended.
use Rattle.std.proofs.Common.{◌≡◌, ◌≢◌, ℕ, ◌+◌, ◌-◌, ◌*◌, ◌%◌, ◌<◌, ◌≤◌, ◌==◌, Bool, true, false, cond, ne_eqb, nat_le, leb-true, List, [], ◌∷◌, ◌++◌, length, filter, get_or, append_assoc, append-nil, inl, inr, ⊎_elim, refl, sym, ap, ◌∙◌, subst, arith}
use Rattle.std.specs.Prelude.{◌||◌, slice_index}
use mathlib.Core.Logic.{dite}
use mathlib.Core.Option.{Option, none, some}
use native.Mathlib.Decide.{ℕ_discrete, dec_le}
use lib.ListN.{get_elem?}
use Rattle.sock_words.specs.PackedWords.{socket_id_version, socket_id_slot, vref_version, NO_SOCKET}
use Rattle.sock_words.specs.declared.plain.Plan.{Plan}
use Rattle.sock_model.specs.declared.view.View.{View}
use Rattle.sock_model.specs.SocketTableLayout.{open_index, link_index, ref_index}
use Rattle.sock_model.specs.SlotRows.{marks_of}
use Rattle.sock_model.specs.MarkWeights.{is_hold}
use Rattle.run_theorems.specs.Below.chain_steps.proofs.TicketLists.{at_some}
use Rattle.run_theorems.specs.Below.sock_steps.proofs.LifeLinkSlotPlaces.{own_count}
use Rattle.seat_programs.specs.Asides.{Taking}
use Rattle.seat_programs.specs.TableSteps.{OnSlot, SetOdd}
use Rattle.seat_programs.specs.SlotFreedByDrop.{call_in}
use Rattle.seat_programs.specs.Programs.{Program, Do, Rest, Write}
use Rattle.seat_programs.specs.Cores.{Core, SeatState}
use Rattle.seat_programs.specs.ScheduledRuns.{IsAtRest}
use Rattle.seat_programs.specs.Ticks.{Moment, IsAnswered, AreAnswered, ticked, run}
use Rattle.outcome_causes.specs.program_steps.specs.SoundSeats.{state, Sound, IsAhead, IsFitting, AreFitting, views_after, views_along}
use Rattle.outcome_causes.specs.sock_runs.proofs.SoundAlongRuns.{seat_rests, ticked_ahead}
use Rattle.outcome_causes.specs.program_steps.proofs.SlotWordBounds.{law, lives_le}
use Rattle.outcome_causes.specs.program_steps.proofs.TickCases.{elem_there}
use Rattle.outcome_causes.specs.program_walks.proofs.LinksOpening.{OpensLink}
use Rattle.outcome_causes.specs.sock_runs.proofs.LinkTicks.{RetriesGo}
use Rattle.outcome_causes.specs.sock_runs.proofs.Quiets.{ticked_seats, ticked_rests}
use Rattle.outcome_causes.specs.program_walks.proofs.Recorded.{Recorded, recorded_ticks}
use Rattle.outcome_causes.specs.sock_runs.proofs.TicksKeepSeatsSound.{sound_ticks}
use Rattle.call_causes.specs.Below.outcome_stories.specs.Facts.{shown_in}
use Rattle.call_causes.specs.Below.outcome_stories.specs.LinkLosses.{lost_by, may_close, closed_at}
use Rattle.call_causes.specs.Below.outcome_stories.specs.OperationStories.{In}
use Rattle.outcome_causes.proofs.PlainOutcomeCauses.{in_both}
use Rattle.call_causes.specs.Below.owned_ids.proofs.WordsGiven.{Named, run_named}
use Rattle.run_theorems.specs.Heard.{taken_link}
use Rattle.accept_counts.proofs.Closers.{Ends, Calm, sets_odd}
use Rattle.accept_counts.proofs.ReadingsAtTicks.{found_by, State, HasReader, takes_own, reader_ticks}
use Rattle.accept_counts.proofs.Takeless.{TakesNone, none_taken, run_takes}
use Rattle.corr_core.proofs.NoteSums.{at_length}

-- the link of the life that a seat holds is the one to which the word of its `open` belongs
pub link_of : (p : Plan) (os : List ℕ) (c : Core) (vs : List View) → Sound p c vs → Named p (OpensLink os) c vs → (o id : ℕ) → o < p.operations → get_or c.words (open_index p o) 0 ≡ id + 1 → get_or c.words (open_index p o) 0 ≢ NO_SOCKET
    → (j : ℕ) (v : View) → get_elem? vs j ≡ some v → 0 < marks_of (is_hold (socket_id_version id)) (socket_id_slot id) v → OpensLink os (slice_index c.words (link_index (socket_id_slot id))) o
link_of p os c vs sound named o id inside word socket j v at has =
    let x = named.words o inside (λ z. omega (arith, word, z)) socket in
    let id_is : id ≡ x.version * 4294967296 + x.slot = (let e = x.word in omega (arith, word, e)) in
    let small : x.slot < 4294967296 = (let s = x.inside in let l = sound.limits in let m = l.slots in omega (arith, s, m)) in
    let slot_is : socket_id_slot id ≡ x.slot = ap socket_id_slot id_is ∙ (let z : socket_id_slot (x.version * 4294967296 + x.slot) ≡ x.slot = omega (arith, small) in z) in
    let version_is : socket_id_version id ≡ x.version = ap socket_id_version id_is ∙ (let z : socket_id_version (x.version * 4294967296 + x.slot) ≡ x.version = omega (arith, small) in z) in
    let l = law p (state c vs) sound.lawful.references x.slot x.inside in let le = lives_le p (state c vs) sound.lawful.references x.slot x.inside in
    let held : 0 < marks_of (is_hold x.version) x.slot v = subst (λ s. 0 < marks_of (is_hold x.version) s v) slot_is (subst (λ h. 0 < marks_of (is_hold h) (socket_id_slot id) v) version_is has) in
    let here = (l.held x.version (omega (arith, held, own_count (state c vs) j v at (is_hold x.version) x.slot))).0 in
    let one : slice_index c.words (link_index x.slot) ≡ x.link = l.link_is x.version x.link x.given (omega (arith, here, le)) in
    subst (λ k. OpensLink os k o) (sym (ap (λ s. slice_index c.words (link_index s)) slot_is ∙ one)) x.mine

module _ (p : Plan) (calls os : List ℕ) (in_os : (k o : ℕ) → get_elem? os k ≡ some o → o < p.operations) (Odd : List Taking → Type 0) (Lasts : Type 0) (ends : (n id : ℕ) → Ends n id Odd Lasts) where
  -- each reader keeps to its link, behind these takes of it, and no client takes bytes
  pub record Keeps (c : Core) (vs : List View) (taken : ℕ → List Taking) : Type 0 where
    pub readers : (n o : ℕ) (at : get_elem? os n ≡ some o) → HasReader p calls n o (in_os n o at) Odd Lasts (ends n) (taken n) c vs
    pub clients : (j : ℕ) → j < 32 → TakesNone (Unit {0}) j c
    pub many : length c.seats ≡ 32 + length os

  -- what takes found in these ticks, one after another
  abbrev pub founds : Core → List Moment → ℕ → List Taking
  founds c [] n = []
  founds c (m ∷ ms) n = found_by c m n ++ founds (ticked p c m) ms n

  pub keeps_same : (c : Core) (vs : List View) (taken taken' : ℕ → List Taking) → ((n : ℕ) → taken n ≡ taken' n) → Keeps c vs taken → Keeps c vs taken'
  keeps_same c vs taken taken' same k = record { readers = λ n o at. subst (λ h. HasReader p calls n o (in_os n o at) Odd Lasts (ends n) h c vs) (same n) (k.readers n o at); clients = k.clients; many = k.many }

  -- the link of a reader's seat
  abbrev pub ReaderOf : ℕ → Type 0
  ReaderOf j = (n : ℕ) × (o : ℕ) × (j ≡ 32 + n) × (get_elem? os n ≡ some o)

  pub reader_of : (c : Core) (vs : List View) (taken : ℕ → List Taking) → Keeps c vs taken → (j : ℕ) (seat : SeatState) → get_elem? c.seats j ≡ some seat → 32 ≤ j → ReaderOf j
  reader_of c vs taken k j seat at high = let many = k.many in let x = at_some os (j - 32) (let l = at_length c.seats j seat at in omega (arith, l, many, high)) in (j - 32, x.0, omega (arith, high), x.1)

  pub view_at : (c : Core) (vs : List View) → Sound p c vs → (j : ℕ) (seat : SeatState) → get_elem? c.seats j ≡ some seat → (v : View) × (get_elem? vs j ≡ some v)
  view_at c vs sound j seat at = elem_there c.seats vs j seat sound.each at

  pub state_at : (c : Core) (vs : List View) (taken : ℕ → List Taking) → Keeps c vs taken → (j : ℕ) (seat : SeatState) (v : View) → get_elem? c.seats j ≡ some seat → get_elem? vs j ≡ some v → (r : ReaderOf j)
      → State p calls r.0 r.1 (in_os r.0 r.1 r.3) Odd Lasts (ends r.0) (get_or c.words (open_index p r.1) 0) (taken r.0) seat.program v
  state_at c vs taken k j seat v at at_view r = k.readers r.0 r.1 r.3 seat v (sym (ap (get_elem? c.seats) r.2) ∙ at) (sym (ap (get_elem? vs) r.2) ∙ at_view)

  -- no reader has the right to write a link
  pub reader_rights : (c : Core) (vs : List View) (taken : ℕ → List Taking) → Keeps c vs taken → (j : ℕ) (seat : SeatState) (v : View) → get_elem? c.seats j ≡ some seat → get_elem? vs j ≡ some v → 32 ≤ j → v.rights ≡ []
  reader_rights c vs taken k j seat v at at_view high = (state_at c vs taken k j seat v at at_view (reader_of c vs taken k j seat at high)).0

  -- no seat but its reader takes bytes of a link
  pub others_none : (c : Core) (vs : List View) (taken : ℕ → List Taking) → Sound p c vs → Keeps c vs taken → (j : ℕ) (seat : SeatState) → get_elem? c.seats j ≡ some seat → (n : ℕ) → j ≢ 32 + n → filter (λ l. l == n) (taken_link seat.program) ≡ []
  others_none c vs taken sound k j seat at n far = dite (dec_le 32 j)
      (λ high. let r = reader_of c vs taken k j seat at high in let v = view_at c vs sound j seat at in ⊎_elim (λ e. ap (filter (λ l. l == n)) e)
      (λ t. ap (filter (λ l. l == n)) t.1 ∙ ap (λ b. cond b (t.0 ∷ []) []) (ne_eqb t.0 n (λ e. far (r.2 ∙ ap (λ x. 32 + x) (sym t.2 ∙ e)))))
      (takes_own p calls r.0 r.1 (in_os r.0 r.1 r.3) Odd Lasts (ends r.0) (get_or c.words (open_index p r.1) 0) (taken r.0) seat.program v.0 (state_at c vs taken k j seat v.0 at v.1 r)))
      (λ low. ap (filter (λ l. l == n)) (none_taken (Unit {0}) seat.program (k.clients j (omega (arith, low)) seat at)))

  module _ (Q : ℕ → ℕ → Type 0) (go : RetriesGo p) where
    pub keeps_ticks : (c : Core) (vs : List View) (m : Moment) (taken : ℕ → List Taking) → Sound p c vs → IsAnswered c m → IsFitting p c m → Recorded p Q c vs → (c.calls.ending ≡ true → Lasts) → Keeps c vs taken
        → Keeps (ticked p c m) (views_after p c vs m) (λ n. taken n ++ found_by c m n)
    keeps_ticks c vs m taken sound answered fitting recorded lasting k = record {
      readers = λ n o at. reader_ticks p calls n o (in_os n o at) Odd Lasts (ends n) Q go (taken n) c vs m sound answered fitting recorded (k.readers n o at) lasting (λ seat at_seat far. others_none c vs taken sound k m.seat seat at_seat n far);
      clients = λ j low. run_takes (Unit {0}) p j go c vs (m ∷ []) sound (answered, tt) (fitting, tt) (k.clients j low);
      many = ticked_seats p c m ∙ k.many;
    }

    pub keeps_along : (ms : List Moment) (c : Core) (vs : List View) (taken : ℕ → List Taking) → Sound p c vs → AreAnswered p c ms → AreFitting p c ms → Recorded p Q c vs → (c.calls.ending ≡ true → Lasts) → Keeps c vs taken
        → Keeps (run p c ms) (views_along p c vs ms) (λ n. taken n ++ founds c ms n)
    keeps_along [] c vs taken sound answered fitting recorded lasting k = keeps_same c vs taken (λ n. taken n ++ []) (λ n. sym (append-nil (taken n))) k
    keeps_along (m ∷ ms) c vs taken sound answered fitting recorded lasting k = keeps_same (run p (ticked p c m) ms) (views_along p (ticked p c m) (views_after p c vs m) ms) (λ n. (taken n ++ found_by c m n) ++ founds (ticked p c m) ms n) (λ n. taken n ++ founds c (m ∷ ms) n)
        (λ n. append_assoc (taken n) (found_by c m n) (founds (ticked p c m) ms n))
        (keeps_along ms (ticked p c m) (views_after p c vs m) (λ n. taken n ++ found_by c m n) (sound_ticks p go c vs m sound answered.0 fitting.0) answered.1 fitting.1 (recorded_ticks p Q c vs m sound answered.0 fitting.0 recorded)
        (λ e. lasting (sym (Rattle.call_causes.specs.Below.call_owing.proofs.EndsStill.run_ending p c (m ∷ [])) ∙ e)) (keeps_ticks c vs m taken sound answered.0 fitting.0 recorded lasting k))

  -- ## Sockets that readers set failed

  -- the program sets a socket failed next
  lost_is : (id n : ℕ) (held : Bool) (h : List Taking) (ws : List ℕ) (program : Program) (x : ℕ) → Calm n id Odd Lasts held h program → In x (lost_by ws (call_in program)) → (i : ℕ) × (next : ℕ → Program) × (program ≡ Do (OnSlot (SetOdd i)) next) × (x ≡ slice_index ws (link_index i))
  lost_is id n held h ws (Do (OnSlot (SetOdd i)) next) x calm there = (i, next, refl, by (vref_version (slice_index ws (ref_index i)) % 2 == 0) there)
    where
      by : (b : Bool) → In x (cond b (slice_index ws (link_index i) ∷ []) []) → x ≡ slice_index ws (link_index i)
      by true (inl e) = e
      by true (inr m) = absurd m
      by false m = absurd m
  lost_is id n held h ws (Do call next) x calm there = absurd there
  lost_is id n held h ws (Write w after) x calm there = absurd calm
  lost_is id n held h ws _ x calm there = absurd there

  module _ (apart : (k l o : ℕ) → get_elem? os k ≡ some o → get_elem? os l ≡ some o → k ≡ l) where
    -- whose socket is closed in a tick while seat 0 rests is a link with an `open`, whose reading ended
    abbrev pub Closes : (ℕ → List Taking) → ℕ → Type 0
    Closes taken x = ((o : ℕ) × (get_elem? os x ≡ some o)) × Odd (taken x)

    closes_at : (c : Core) (vs : List View) (m : Moment) (taken : ℕ → List Taking) → Sound p c vs → Named p (OpensLink os) c vs → ((seat : SeatState) → get_elem? c.seats 0 ≡ some seat → seat.program ≡ Rest) → Keeps c vs taken → (x : ℕ) → In x (closed_at c m) → Closes taken x
    closes_at c vs m taken sound named rests k x there = by_closer (may_close m.seat) refl there
      where
        by_state : (seat : SeatState) (v : View) → get_elem? c.seats m.seat ≡ some seat → get_elem? vs m.seat ≡ some v → (r : ReaderOf m.seat) → In x (lost_by c.words (call_in seat.program)) → Closes taken x
        by_state seat v at at_view r m' = of_state (state_at c vs taken k m.seat seat v at at_view r)
          where
            of_state : State p calls r.0 r.1 (in_os r.0 r.1 r.3) Odd Lasts (ends r.0) (get_or c.words (open_index p r.1) 0) (taken r.0) seat.program v → Closes taken x
            of_state (none_, inl s) = absurd (subst (λ y. In x (lost_by c.words (call_in y))) s.0 m')
            of_state (none_, inr (inl s)) = absurd (subst (λ y. In x (lost_by c.words (call_in y))) s.0 m')
            of_state (none_, inr (inr s)) = let l = lost_is s.id r.0 s.held (taken r.0) c.words seat.program x s.calm m' in
                let y = sets_odd r.0 s.id Odd Lasts s.held (taken r.0) l.0 l.1 (subst (Calm r.0 s.id Odd Lasts s.held (taken r.0)) l.2 s.calm) in
                let own = link_of p os c vs sound named r.1 s.id (in_os r.0 r.1 r.3) s.word s.socket m.seat v at_view (s.has y.0) in
                let same : x ≡ r.0 = l.3 ∙ (ap (λ i. slice_index c.words (link_index i)) y.2 ∙ apart (slice_index c.words (link_index (socket_id_slot s.id))) r.0 r.1 own r.3) in
                ((r.1, ap (get_elem? os) same ∙ r.3), subst (λ z. Odd (taken z)) (sym same) y.1)

        high : may_close m.seat ≡ true → m.seat ≢ 0 → 32 ≤ m.seat
        high is some_ = leb-true 32 m.seat (sym (ap (λ b. b || nat_le 32 m.seat) (ne_eqb m.seat 0 some_)) ∙ is)

        by_seat : may_close m.seat ≡ true → (o : Option SeatState) → get_elem? c.seats m.seat ≡ o → In x (elim o as (λ o. List ℕ) [ none ↦ [] | some seat ↦ lost_by c.words (call_in seat.program) ]) → Closes taken x
        by_seat is none e m' = absurd m'
        by_seat is (some seat) e m' = dite (ℕ_discrete m.seat 0)
            (λ z. absurd (subst (λ y. In x (lost_by c.words (call_in y))) (rests seat (sym (ap (get_elem? c.seats) z) ∙ e)) m'))
            (λ some_. let r = reader_of c vs taken k m.seat seat e (high is some_) in let v = view_at c vs sound m.seat seat e in by_state seat v.0 e v.1 r m')

        by_closer : (b : Bool) → may_close m.seat ≡ b → In x (cond b (elim (get_elem? c.seats m.seat) as (λ o. List ℕ) [ none ↦ [] | some seat ↦ lost_by c.words (call_in seat.program) ]) []) → Closes taken x
        by_closer true is m' = by_seat is (get_elem? c.seats m.seat) refl m'
        by_closer false is m' = absurd m'

    module _ (Q : ℕ → ℕ → Type 0) (go : RetriesGo p) (more : (h later : List Taking) → Odd h → Odd (h ++ later)) where
      -- in some ticks too
      pub closes_along : (ms : List Moment) (c : Core) (vs : List View) (taken : ℕ → List Taking) → Sound p c vs → AreAnswered p c ms → AreFitting p c ms → Recorded p Q c vs → Named p (OpensLink os) c vs → (c.calls.ending ≡ true → Lasts) → IsAhead c → IsAtRest c 0 → Keeps c vs taken
          → (x : ℕ) → In x (shown_in closed_at p c ms) → Closes (λ n. taken n ++ founds c ms n) x
      closes_along [] c vs taken sound answered fitting recorded named lasting ahead rests k x there = absurd there
      closes_along (m ∷ ms) c vs taken sound answered fitting recorded named lasting ahead rests k x there = ⊎_elim
          (λ now. let y = closes_at c vs m taken sound named (λ seat at. seat_rests c ahead 0 rests seat at) k x now in (y.0, more (taken x) (founds c (m ∷ ms) x) y.1))
          (λ later. let y = closes_along ms (ticked p c m) (views_after p c vs m) (λ n. taken n ++ found_by c m n) (sound_ticks p go c vs m sound answered.0 fitting.0) answered.1 fitting.1 (recorded_ticks p Q c vs m sound answered.0 fitting.0 recorded)
          (run_named p go (OpensLink os) c vs (m ∷ []) sound (answered.0, tt) (fitting.0, tt) named) (λ e. lasting (sym (Rattle.call_causes.specs.Below.call_owing.proofs.EndsStill.run_ending p c (m ∷ [])) ∙ e)) (ticked_ahead p c m ahead) (ticked_rests p c m 0 rests)
          (keeps_ticks Q go c vs m taken sound answered.0 fitting.0 recorded lasting k) x later in
          (y.0, subst Odd (append_assoc (taken x) (found_by c m x) (founds (ticked p c m) ms x)) y.1))
          (in_both (closed_at c m) (shown_in closed_at p (ticked p c m) ms) x there)
