-- Along a run, what those who owe rely on is said at each tick: the ids are sound, an at word keeps its id, and a link answers its reader that it is closed only where its life is past.
use Rattle.std.proofs.Common.{◌≡◌, ◌≢◌, ℕ, ◌+◌, ◌<◌, ◌≤◌, ⊎_elim, inl, List, [], ◌∷◌, length, get_or, Option, Some, refl, sym, ap, ◌∙◌, subst, arith}
use mathlib.Core.Option.{some}
use lib.ListN.{get_elem?}
use Rattle.sock_words.specs.PackedWords.{socket_id_slot, at_word_first, at_word_slot, call_id, id_slot}
use Rattle.sock_words.specs.declared.plain.Plan.{Plan}
use Rattle.sock_model.specs.declared.view.View.{View}
use Rattle.sock_model.specs.SocketTableLayout.{open_index}
use Rattle.corr_core.specs.declared.marks.Plan.{Plan as IdPlan}
use Rattle.corr_core.proofs.NoteSums.{at_length}
use Rattle.seat_programs.specs.Asides.{Step, Found, StoreAt, TakeBytes}
use Rattle.seat_programs.specs.Programs.{Program, Do, Write, Aside, Round}
use Rattle.seat_programs.specs.ReaderProgram.{reader}
use Rattle.seat_programs.specs.Cores.{Core, SeatState, waiting_at}
use Rattle.seat_programs.specs.Ticks.{Answer, Moment, ticked, run, AreAnswered}
use Rattle.owned_ids.specs.Below.programs_allowed.specs.program_steps.specs.SoundSeats.{Sound, AreFitting, views_after, views_along}
use Rattle.owned_ids.specs.Below.programs_allowed.specs.sock_runs.proofs.LinkTicks.{RetriesGo}
use Rattle.owned_ids.specs.Below.programs_allowed.specs.sock_runs.proofs.TicksKeepSeatsSound.{sound_ticks}
use Rattle.owned_ids.specs.Below.programs_allowed.specs.sock_runs.proofs.Quiets.{run_seats}
use Rattle.owned_ids.specs.Below.programs_allowed.specs.program_walks.proofs.Recorded.{Recorded, recorded_ticks}
use Rattle.owned_ids.specs.Below.programs_allowed.specs.program_walks.proofs.ReaderSeats.{AtReader, run_reader}
use Rattle.owned_ids.specs.Below.programs_allowed.specs.program_walks.proofs.LinksOpening.{OpensLink}
use Rattle.owned_ids.specs.Below.joint_runs.proofs.BothTablesSound.{AreBoth}
use Rattle.owned_ids.specs.call_owing.proofs.EndsStill.{view_of}
use Rattle.owned_ids.specs.call_owing.specs.Owing.{Duty, Linked, Owing, Among, duty_tokens}
use Rattle.owned_ids.specs.call_owing.specs.Owes.{OwesOn}
use Rattle.owned_ids.specs.call_owing.specs.SoundOwing.{retry_tokens, FailedIn, SoundOwing}
use Rattle.owned_ids.specs.call_owing.specs.LivesOfLinks.{life_of, OthersFit, AreSaying, IsFinished, ClosesAt, ClosesInTime, KeepsAt, AreKept}
use Rattle.owned_ids.specs.call_owing.proofs.OwedMarkChanges.{among_left}
use Rattle.owing_ticks.proofs.AtWordStores.{id_of_at}
use Rattle.owned_ids.specs.call_owing.proofs.OwingRounds.{owes_round}
use Rattle.owned_ids.specs.call_owing.proofs.OwingPrograms.{block_goes}
use Rattle.owned_ids.proofs.WordsGiven.{Named, run_named}
use Rattle.owed_calls.proofs.ClosedPast.{closed_past}
use Rattle.owing_ticks.proofs.OwingRuns.{Reaches, id_is, life_is, own_open, same_first, reach_back}
use Rattle.seat_programs.specs.LoopRounds.{first_step}

-- the first step of a round is one that the marks allow
owes_first : (life : ℕ → Option ℕ) (u : Owing) (program : Program) → OwesOn life u program → OwesOn life u (first_step program)
owes_first life u (Write w after) g = block_goes life u w after g
owes_first life u (Round head next) g = owes_round life u head next g
owes_first life u _ g = g

-- whoever reads a link is past the word of its `open`
reads_behind : (p : Plan) (calls : List ℕ) (j n o : ℕ) (c : Core) (seat : SeatState) → get_elem? c.seats j ≡ some seat → AtReader p calls j n o c → (step : Step) (next : Found step → Program) → first_step seat.program ≡ Aside step next → get_or c.words (open_index p o) 0 ≢ 0
reads_behind p calls j n o c seat at r step next is = ⊎_elim (λ e. absurd (no_load (first_step (reader calls n o)) refl (sym (ap first_step e) ∙ sym (same_first seat.program) ∙ is))) (λ x. x.0) (r seat at)
  where
    no_load : (program : Program) → first_step (reader calls n o) ≡ program → program ≡ Aside step next → ⊥
    no_load (Do call after) e f = let z : Do call after ≡ Aside step next = f in cc
    no_load program e f = let z : first_step (reader calls n o) ≡ Aside step next = e ∙ f in cc

module _ (p : Plan) (q : IdPlan) (narrow : q.slots ≤ 65536) (same : q.operations ≡ p.operations) (calls os final : List ℕ) (in_os : (k o : ℕ) → get_elem? os k ≡ some o → o < p.operations)
    (slots : (k s : ℕ) → life_of p os final k ≡ Some s → socket_id_slot s < p.slots) (links : (k s : ℕ) → life_of p os final k ≡ Some s → k < 65535)
    (apart : (k l o : ℕ) → get_elem? os k ≡ some o → get_elem? os l ≡ some o → k ≡ l) (many_links : length os ≡ p.links) where
  abbrev life : ℕ → Option ℕ
  life = life_of p os final

  abbrev AllReaders : Core → Type 0
  AllReaders c = (n o : ℕ) → get_elem? os n ≡ some o → AtReader p calls (32 + n) n o c

  abbrev Reach : Core → List View → Type 0
  Reach c vs = Reaches p q narrow same calls os final in_os slots links c vs

  module _ (c : Core) (vs : List View) (sound : Sound p c vs) (reach : Reach c vs) (readers : AllReaders c) (many : length c.seats ≡ 32 + length os) (named : Named p (OpensLink os) c vs) (us : List Owing) (owing : SoundOwing q life calls c us)
      (i : ℕ) (seat : SeatState) (u : Owing) (at_seat : get_elem? c.seats i ≡ some seat) (at : get_elem? us i ≡ some u) (v : View) (at_view : get_elem? vs i ≡ some v) (answer : Answer) where
    -- whoever stores an at word stores that of the attempt that it tries
    stored_id : (o w : ℕ) (next : ℕ → Program) → first_step seat.program ≡ Aside (StoreAt o w) next → (id n k : ℕ) → u.duty ≡ Linked id n k → call_id (at_word_slot w) (at_word_first w) ≡ id
    stored_id o w next is id n k duty = let g = subst (OwesOn life u) is (owes_first life u seat.program (owing.seats i seat u at_seat at)) in let a = (g.1 0 tt).1 in
        let e : Linked id n k ≡ Linked a.0 a.1 a.2 = sym duty ∙ a.3 in let mine : id ≡ a.0 = cc in let low = a.5 in let few = a.6 in
        ap (λ x. call_id (at_word_slot x) (at_word_first x)) a.4 ∙ id_of_at a.0 a.2 a.1 (let s = in_table a.0 a.1 a.2 a.3 in omega (arith, s, narrow)) low (omega (arith, few)) ∙ sym mine
      where
        in_table : (id n k : ℕ) → u.duty ≡ Linked id n k → id_slot id < q.slots
        in_table id n k d = ⊎_elim (λ e. e.0) (λ a. a.0) (owing.law.current id n i (u, at, among_left id n (duty_tokens u.duty) (retry_tokens (waiting_at c.calls.waiting i)) (subst (λ (d : Duty). Among id n (duty_tokens d)) (sym d) (inl (refl, refl)))))

    closed : (k room : ℕ) (next : Found (TakeBytes k room) → Program) → first_step seat.program ≡ Aside (TakeBytes k room) next → IsFinished p c k → u.link ≡ k ∷ [] → FailedIn life c.words k
    closed k room next is finished linked s lives =
        let own = own_open p q narrow same calls os final in_os slots links c vs sound reach readers many us owing i seat u v at_seat at at_view k [] linked in
        let some_ = reads_behind p calls i k own.0 c seat at_seat own.2 (TakeBytes k room) next is in
        let named_by = id_is (get_or final (open_index p own.0) 0) s (sym (life_is p q narrow same calls os final in_os slots links k own.0 own.1) ∙ lives) in
        let stays = reach.stays own.0 (in_os k own.0 own.1) some_ in
        closed_past p os apart c vs sound named k own.0 s own.1 (in_os k own.0 own.1) (let low = at_length os k own.0 own.1 in omega (arith, low, many_links)) (sym stays ∙ named_by.0) (λ z. named_by.1 (named_by.0 ∙ z)) finished

    by_program : (program : Program) → first_step seat.program ≡ program → ClosesAt p c answer program → KeepsAt q calls c program → OthersFit q life calls c u answer program
    by_program (Aside (StoreAt o w) next) is closes keeps = (keeps.0, λ id n k duty some_. keeps.1 some_ ∙ stored_id o w next is id n k duty)
    by_program (Aside (TakeBytes k room) next) is closes keeps = λ e linked. closed k room next is (closes e) linked
    by_program program is closes keeps = tt

    pub others_fit : ClosesAt p c answer (first_step seat.program) → KeepsAt q calls c (first_step seat.program) → OthersFit q life calls c u answer (first_step seat.program)
    others_fit closes keeps = by_program (first_step seat.program) refl closes keeps

  module _ (go : RetriesGo p) (Q : ℕ → ℕ → Type 0) where
    pub says_along : (c : Core) (vs : List View) (ms : List Moment) → Sound p c vs → AreAnswered p c ms → AreFitting p c ms → Recorded p Q c vs → AllReaders c → length c.seats ≡ 32 + length os → Named p (OpensLink os) c vs → AreBoth p q c vs ms → ClosesInTime p c ms → AreKept p q calls c ms
        → Reach (run p c ms) (views_along p c vs ms) → AreSaying p q life calls c ms
    says_along c vs [] sound answered fitting recorded readers many named both closes kept reach = tt
    says_along c vs (m ∷ ms) sound answered fitting recorded readers many named both closes kept reach = (
      (both.0.id_views, both.0.ids),
      λ us owing seat u at_seat at. let v = view_of c.seats vs m.seat seat at_seat sound.each in
          others_fit c vs sound (reach_back p q narrow same calls os final in_os slots links go Q c vs (m ∷ ms) sound answered fitting recorded reach) readers many named us owing m.seat seat u at_seat at v.0 v.1 m.answer (closes.0 seat at_seat) (kept.0 seat at_seat),
      says_along (ticked p c m) (views_after p c vs m) ms (sound_ticks p go c vs m sound answered.0 fitting.0) answered.1 fitting.1 (recorded_ticks p Q c vs m sound answered.0 fitting.0 recorded)
          (λ n o at. run_reader p calls (32 + n) n o (in_os n o at) go c vs (m ∷ []) sound (answered.0, tt) (fitting.0, tt) (readers n o at)) (run_seats p c (m ∷ []) ∙ many)
          (run_named p go (OpensLink os) c vs (m ∷ []) sound (answered.0, tt) (fitting.0, tt) named) both.2 closes.1 kept.1 reach,
    )
