-- Over a run what is owed is kept, where the lives of links are those that the words of their `open`s name at its end.
use Rattle.std.proofs.Common.{◌≡◌, ◌≢◌, ℕ, zero, suc, ◌+◌, ◌-◌, ◌<◌, ◌≤◌, ◌==◌, Bool, true, false, cond, eqb, eq-eqb, ne_eqb, List, [], ◌∷◌, length, get_or, Option, Some, None, refl, sym, ap, ◌∙◌, subst, arith}
use Rattle.std.proofs.lemmas.Bool.{true≢false}
use mathlib.Core.Option.{none, some}
use lib.ListN.{get_elem?}
use Rattle.sock_words.specs.PackedWords.{socket_id, socket_id_version, socket_id_slot, NO_SOCKET}
use Rattle.sock_words.specs.declared.plain.Plan.{Plan}
use Rattle.sock_model.specs.declared.view.View.{View}
use Rattle.sock_model.specs.SocketTableLayout.{open_index, link_index}
use Rattle.sock_model.specs.MarkWeights.{is_born}
use Rattle.sock_model.specs.SocketSlotLaw.{count}
use Rattle.sock_model.specs.References.{slot_facts}
use Rattle.corr_core.specs.declared.marks.Plan.{Plan as IdPlan}
use Rattle.corr_core.proofs.NoteSums.{at_length}
use Rattle.seat_programs.specs.TableSteps.{TableStep, OnSlot, OnName, SetOdd, FindLink, LoadOpen}
use Rattle.seat_programs.specs.Asides.{Step, Found, StoreAt, TakeBytes}
use Rattle.seat_programs.specs.Programs.{Program, Do, PutHome, Write, Aside}
use Rattle.seat_programs.specs.Cores.{Core, SeatState, found_at}
use Rattle.seat_programs.specs.StepTables.{word_of}
use Rattle.seat_programs.specs.Ticks.{Answer, Moment, ticked, run, AreAnswered}
use Rattle.seat_programs.specs.StepTables.{May}
use Rattle.call_owing.specs.Below.programs_allowed.specs.program_steps.specs.ProgramGoesOn.{GoesOn}
use Rattle.call_owing.specs.Below.programs_allowed.specs.program_steps.specs.SoundSeats.{state, Sound, AreFitting, views_after, views_along}
use Rattle.call_owing.specs.Below.programs_allowed.specs.program_steps.proofs.TickCases.{goes_first, elem_there}
use Rattle.call_owing.specs.Below.programs_allowed.specs.sock_runs.proofs.LinkTicks.{RetriesGo}
use Rattle.call_owing.specs.Below.programs_allowed.specs.sock_runs.proofs.TicksKeepSeatsSound.{sound_ticks}
use Rattle.call_owing.specs.Below.programs_allowed.specs.sock_runs.proofs.Founds.{finds}
use Rattle.call_owing.specs.Below.programs_allowed.specs.sock_runs.proofs.Quiets.{run_seats}
use Rattle.call_owing.specs.Below.programs_allowed.specs.program_walks.proofs.Records.{loads}
use Rattle.call_owing.specs.Below.programs_allowed.specs.program_walks.proofs.Recorded.{Recorded, recorded_ticks}
use Rattle.call_owing.specs.Below.programs_allowed.specs.program_walks.proofs.ReaderSeats.{AtReader, run_reader, loads_own, steps_behind}
use Rattle.call_owing.specs.Below.programs_allowed.specs.program_walks.proofs.OpensStay.{run_word}
use Rattle.call_owing.specs.Below.programs_allowed.specs.sock_runs.proofs.LinksStay.{IsGiven, run_given, finds_given}
use Rattle.call_owing.specs.Below.id_runs.specs.Goes.{SoundIds}
use Rattle.call_owing.specs.Below.id_runs.specs.HeldIdTokens.{IdView}
use Rattle.call_owing.specs.Owing.{Owing, FindsCall, IsLifeOf}
use Rattle.call_owing.specs.SoundOwing.{SoundOwing}
use Rattle.call_owing.specs.OwingStepFits.{StepFits}
use Rattle.call_owing.specs.LivesOfLinks.{id_of, life_of, OthersFit, IsSaying, AreSaying}
use Rattle.owing_ticks.proofs.LivesFit.{holds_links, lives_fit}
use Rattle.owing_ticks.proofs.OwingTicks.{owing_ticks}
use Rattle.seat_programs.specs.LoopRounds.{first_step}

-- ## Small facts

at_some : (l : List ℕ) (k : ℕ) → k < length l → (o : ℕ) × (get_elem? l k ≡ some o)
at_some [] k low = absurd (let z : ⊥ = omega (arith, low) in z)
at_some (x ∷ xs) zero low = (x, refl)
at_some (x ∷ xs) (suc k) low = at_some xs k (omega (arith, low))

pub same_first : (program : Program) → first_step program ≡ first_step program
same_first (Write w after) = refl
same_first _ = refl

-- a word that names a socket is one more than its id
pub id_is : (w s : ℕ) → id_of w ≡ Some s → (w ≡ s + 1) × (w ≢ NO_SOCKET)
id_is w s e = by_zero (eqb w 0) (eqb w NO_SOCKET) refl refl e
  where
    by_zero : (z n : Bool) → eqb w 0 ≡ z → eqb w NO_SOCKET ≡ n → cond z None (cond n None (Some (w - 1))) ≡ Some s → (w ≡ s + 1) × (w ≢ NO_SOCKET)
    by_zero true n a b e = absurd cc
    by_zero false true a b e = absurd cc
    by_zero false false a b e = let y : w - 1 ≡ s = cc in let some_ : w ≢ 0 = (λ z. true≢false (sym (eq-eqb w 0 z) ∙ a)) in (omega (arith, y, some_), λ z. true≢false (sym (eq-eqb w NO_SOCKET z) ∙ b))

-- a word that isn't 0
pub id_by : (w : ℕ) → w ≢ 0 → id_of w ≡ cond (w == NO_SOCKET) None (Some (w - 1))
id_by w some_ = ap (λ b. cond b None (cond (w == NO_SOCKET) None (Some (w - 1)))) (ne_eqb w 0 some_)

module _ (p : Plan) (q : IdPlan) (narrow : q.slots ≤ 65536) (same : q.operations ≡ p.operations) (calls os final : List ℕ) (in_os : (k o : ℕ) → get_elem? os k ≡ some o → o < p.operations)
    (slots : (k s : ℕ) → life_of p os final k ≡ Some s → socket_id_slot s < p.slots) (links : (k s : ℕ) → life_of p os final k ≡ Some s → k < 65535) where
  abbrev life : ℕ → Option ℕ
  life = life_of p os final

  pub life_is : (k o : ℕ) → get_elem? os k ≡ some o → life k ≡ id_of (get_or final (open_index p o) 0)
  life_is k o at = ap (λ x. elim x as (λ x. Option ℕ) [ none ↦ None | some o ↦ id_of (get_or final (open_index p o) 0) ]) at

  -- what this core says of the end of the run: words of `open`s stay, and each life has the link that it was given
  pub record Reaches (c : Core) (vs : List View) : Type 0 where
    pub stays : (o : ℕ) → o < p.operations → get_or c.words (open_index p o) 0 ≢ 0 → get_or final (open_index p o) 0 ≡ get_or c.words (open_index p o) 0
    pub given : (i h k : ℕ) → i < p.slots → IsGiven c vs i h k → life k ≡ Some (socket_id h i)

  abbrev pub AllReaders : Core → Type 0
  AllReaders c = (n o : ℕ) → get_elem? os n ≡ some o → AtReader p calls (32 + n) n o c

  module _ (c : Core) (vs : List View) (sound : Sound p c vs) (reach : Reaches c vs) (readers : AllReaders c) (many : length c.seats ≡ 32 + length os) (us : List Owing) (owing : SoundOwing q life calls c us)
      (i : ℕ) (seat : SeatState) (u : Owing) (v : View) (at_seat : get_elem? c.seats i ≡ some seat) (at : get_elem? us i ≡ some u) (at_view : get_elem? vs i ≡ some v) where
    -- the `open` of the link of a reader, which is at this seat
    pub own_open : (k : ℕ) (ks : List ℕ) → u.link ≡ k ∷ ks → (o : ℕ) × (get_elem? os k ≡ some o) × AtReader p calls i k o c
    own_open k ks linked = let j = owing.law.tied i k ks u at linked in let o = at_some os k (omega (arith, many, j, at_length c.seats i seat at_seat)) in
        (o.0, o.1, subst (λ x. AtReader p calls x k o.0 c) (sym j) (readers k o.0 o.1))

    loads_life : (o : ℕ) (next : ℕ → Program) → first_step seat.program ≡ Do (OnName (LoadOpen o)) next → get_or c.words (open_index p o) 0 ≢ 0 → (l : List ℕ) → u.link ≡ l → IsLifeOf life l (get_or c.words (open_index p o) 0)
    loads_life o next is some_ [] linked = tt
    loads_life o next is some_ (k ∷ ks) linked = let own = own_open k ks linked in let e : o ≡ own.0 = loads_own p calls i k own.0 (in_os k own.0 own.1) c seat at_seat own.2 o next is in
        let at_o : get_elem? os k ≡ some o = own.1 ∙ ap some (sym e) in
        life_is k o at_o ∙ ap id_of (reach.stays o (in_os k o at_o) some_) ∙ id_by (get_or c.words (open_index p o) 0) some_

    finds_call : (call : TableStep) (next : ℕ → Program) → first_step seat.program ≡ Do call next → May p v call → FindsCall life u call (found_at c.words (word_of p call))
    finds_call (OnSlot (FindLink n h)) next is may = let f = (finds p (state c vs) sound.lawful i v at_view sound.limits.slots (OnSlot (FindLink n h)) may).0 in let few = sound.limits.links in (
      omega (arith, f, few),
      λ id m s duty slot version. let g = reach.given n h (get_or c.words (link_index n) 0) may.0 (finds_given p c vs sound i v at_view n h may) in g ∙ ap Some (let z : socket_id h n ≡ s = omega (arith, slot, version) in z),
    )
    finds_call (OnName (LoadOpen o)) next is may = λ some_. loads_life o next is some_ u.link refl
    finds_call call next is may = tt

    made_before : (call : TableStep) (next : ℕ → Program) → first_step seat.program ≡ Do call next → (k s : ℕ) → call ≡ OnSlot (SetOdd (socket_id_slot s)) → u.link ≡ k ∷ [] → life k ≡ Some s → 0 < count (is_born (socket_id_version s)) (slot_facts (state c vs) (socket_id_slot s))
    made_before call next is k s made linked lives = let own = own_open k [] linked in let o : ℕ = own.0 in let inside = in_os k own.0 own.1 in
        let some_ = steps_behind p calls i k own.0 inside c seat at_seat own.2 call next is (ap loads made) in let word : ℕ = get_or c.words (open_index p own.0) 0 in
        let named = id_is (get_or final (open_index p own.0) 0) s (sym (life_is k own.0 own.1) ∙ lives) in let stays = reach.stays own.0 inside some_ in
        let is_word : get_or c.words (open_index p own.0) 0 ≡ s + 1 = sym stays ∙ named.0 in
        let n = sound.lawful.references.named.opens own.0 inside (λ z. named.1 (stays ∙ z)) some_ in
        let back : s + 1 - 1 ≡ s = omega arith in
        subst (λ x. 0 < count (is_born (socket_id_version x)) (slot_facts (state c vs) (socket_id_slot x))) back (subst (λ x. 0 < count (is_born (socket_id_version (x - 1))) (slot_facts (state c vs) (socket_id_slot (x - 1)))) is_word n.1)

    by_aside : (answer : Answer) (step : Step) (next : Found step → Program) → OthersFit q life calls c u answer (Aside step next) → StepFits p q life calls c seat u answer (Aside step next)
    by_aside answer (StoreAt o w) next f = f
    by_aside answer (TakeBytes k room) next f = f
    by_aside answer step next f = tt

    by_program : (answer : Answer) (program : Program) → first_step seat.program ≡ program → GoesOn p v program → OthersFit q life calls c u answer program → StepFits p q life calls c seat u answer program
    by_program answer (Do call next) is g f = (lives_fit p life slots c vs sound i v at_view u call g.0 (finds_call call next is g.0) (made_before call next is), holds_links seat.hand v.rights v.hands (sound.seats i seat v at_seat at_view).hand)
    by_program answer (PutHome k n after) is g f = holds_links seat.hand v.rights v.hands (sound.seats i seat v at_seat at_view).hand
    by_program answer (Aside step next) is g f = by_aside answer step next f
    by_program answer program is g f = tt

    fits_step : (answer : Answer) → OthersFit q life calls c u answer (first_step seat.program) → StepFits p q life calls c seat u answer (first_step seat.program)
    fits_step answer f = subst (StepFits p q life calls c seat u answer) (sym (same_first seat.program)) (by_program answer (first_step seat.program) refl
        (goes_first p v seat.program (sound.seats i seat v at_seat at_view).goes_on) (subst (OthersFit q life calls c u answer) (same_first seat.program) f))

  -- ## Over a run

  module _ (go : RetriesGo p) (Q : ℕ → ℕ → Type 0) where
    -- what stands at the end of some ticks says the same before them
    pub reach_back : (c : Core) (vs : List View) (ms : List Moment) → Sound p c vs → AreAnswered p c ms → AreFitting p c ms → Recorded p Q c vs → Reaches (run p c ms) (views_along p c vs ms) → Reaches c vs
    reach_back c vs ms sound answered fitting recorded r = record {
      stays = λ o inside some_. let e = run_word p Q o inside go c vs ms sound answered fitting recorded some_ in r.stays o inside (λ z. some_ (sym e ∙ z)) ∙ e;
      given = λ i h k inside g. r.given i h k inside (run_given p i h k go c vs ms sound answered fitting g);
    }

    one_tick : (c : Core) (vs : List View) (m : Moment) → Sound p c vs → Reaches c vs → AllReaders c → length c.seats ≡ 32 + length os → ((ws : List IdView) × SoundIds p q c ws) → IsSaying q life calls c m → (us : List Owing) → SoundOwing q life calls c us
        → (us' : List Owing) × SoundOwing q life calls (ticked p c m) us'
    one_tick c vs m sound reach readers many known says us owing = owing_ticks p q narrow same life links calls c us known.0 m owing known.1
        (λ seat u at_seat at. let v = elem_there c.seats vs m.seat seat sound.each at_seat in fits_step c vs sound reach readers many us owing m.seat seat u v.0 at_seat at v.1 m.answer (says us owing seat u at_seat at))

    pub run_owing : (c : Core) (vs : List View) (ms : List Moment) → Sound p c vs → AreAnswered p c ms → AreFitting p c ms → Recorded p Q c vs → AllReaders c → length c.seats ≡ 32 + length os → AreSaying p q life calls c ms
        → Reaches (run p c ms) (views_along p c vs ms) → (us : List Owing) → SoundOwing q life calls c us → (us' : List Owing) × SoundOwing q life calls (run p c ms) us'
    run_owing c vs [] sound answered fitting recorded readers many says reach us owing = (us, owing)
    run_owing c vs (m ∷ ms) sound answered fitting recorded readers many says reach us owing =
        let next = one_tick c vs m sound (reach_back c vs (m ∷ ms) sound answered fitting recorded reach) readers many says.0 says.1 us owing in
        run_owing (ticked p c m) (views_after p c vs m) ms (sound_ticks p go c vs m sound answered.0 fitting.0) answered.1 fitting.1 (recorded_ticks p Q c vs m sound answered.0 fitting.0 recorded)
        (λ n o at. run_reader p calls (32 + n) n o (in_os n o at) go c vs (m ∷ []) sound (answered.0, tt) (fitting.0, tt) (readers n o at)) (run_seats p c (m ∷ []) ∙ many) says.2 reach next.0 next.1
