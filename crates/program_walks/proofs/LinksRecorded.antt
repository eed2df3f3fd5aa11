-- Over every run each life stands in the word of its own link's `open`, or is what its maker stores there next.
use Rattle.std.proofs.Common.{◌≡◌, ◌≢◌, ℕ, ◌+◌, ◌<◌, ◌≤◌, ◌⊎◌, true, List, [], ◌∷◌, length, get_or, set, get_or-set_other, get_or-set_same, refl, sym, ap, ◌∙◌, subst, inl, inr, ⊎_elim, arith}
use Rattle.std.proofs.lemmas.Bool.{true≢false}
use mathlib.Core.Logic.{dite}
use mathlib.Core.Option.{Option, some, none, some-injective, some-ne-none}
use native.Mathlib.Decide.{ℕ_discrete}
use lib.ListN.{get_elem?}
use Rattle.atomic_table.proofs.Lists.{at_set, set_here, set_else}
use Rattle.sock_words.specs.PackedWords.{socket_id, vref_version}
use Rattle.sock_words.specs.declared.plain.Plan.{Plan}
use Rattle.sock_model.specs.declared.chain.Right.{Right}
use Rattle.sock_model.specs.declared.home.Home.{Home}
use Rattle.sock_model.specs.declared.view.View.{View}
use Rattle.sock_model.specs.MarkWeights.{is_linked}
use Rattle.sock_model.specs.SocketTableLayout.{all_words, open_index}
use Rattle.sock_model.specs.SlotRows.{marks_of}
use Rattle.sock_model.specs.SocketSlotLaw.{count}
use Rattle.sock_model.specs.References.{slot_facts}
use Rattle.sock_steps.proofs.LifeLinkSlotPlaces.{counts}
use Rattle.seat_programs.specs.TableSteps.{TableStep, OnSlot, OnName, CreateLife, StoreOpen}
use Rattle.seat_programs.specs.Programs.{Program, Do}
use Rattle.seat_programs.specs.Cores.{Calls, Core, SeatState, found_at, words_after, homes_after, hand_after, resolved, next_step, waiting_at, with_seat, stepped}
use Rattle.seat_programs.specs.StepTables.{word_of, word_after}
use Rattle.seat_programs.specs.Ticks.{Moment, ticked, run, IsAnswered, AreAnswered}
use Rattle.seat_programs.specs.StepTables.{row, hand_at}
use Rattle.seat_programs.specs.StepTables.{May}
use Rattle.sock_runs.specs.program_steps.specs.SoundSeats.{state, Sound, IsFitting, AreFitting, views_after, views_along}
use Rattle.sock_runs.proofs.NotesOfSteps.{bears}
use Rattle.sock_runs.proofs.LinkNotes.{links_only, birth_links}
use Rattle.sock_runs.specs.program_steps.proofs.AtCalls.{AtCalls, every_exit}
use Rattle.program_walks.proofs.Records.{stores, loads, next_stores, Records, next_stored, first_stored, opens_same}
use Rattle.program_walks.proofs.Recorded.{Recorded, recorded_ticks, stores_none}
use Rattle.program_walks.proofs.Through.{Passes, PassesOpens, Follows, at_calls_passes, at_calls_follow, records_passes, records_opens, records_follow, comes_follows}
use Rattle.program_walks.proofs.ThroughCalls.{through_first, through_next}
use Rattle.sock_runs.specs.program_steps.proofs.TickCases.{ComesNext, with_rights, tick_keeps_marks}
use Rattle.sock_runs.proofs.LinkTicks.{RetriesGo}
use Rattle.sock_runs.proofs.TicksKeepSeatsSound.{sound_ticks}
use Rattle.seat_programs.specs.corr_core.proofs.NoteSums.{at_length}
use Rattle.seat_programs.specs.LoopRounds.{first_step}

-- each life that the program makes it stores next, at an operation that is its link's own
abbrev pub GivesAt : (ℕ → ℕ → Type 0) → Unit {0} → TableStep → (ℕ → Program) → (Unit {0} → ℕ → Type 0) → Type 0
GivesAt own s (OnSlot (CreateLife i k)) next behind = (found : ℕ) → ((o : ℕ) × own k o × (next_stores (next found) ≡ some (o, socket_id (vref_version found) i + 1))) × behind tt found
GivesAt own s call next behind = (found : ℕ) → behind tt found

abbrev pub Gives : (ℕ → ℕ → Type 0) → Program → Type 0
Gives own program = AtCalls (Unit {0}) (GivesAt own) every_exit tt program

pub gives_passes : (own : ℕ → ℕ → Type 0) → Passes (Gives own)
gives_passes own = at_calls_passes (Unit {0}) (GivesAt own) every_exit tt (plain own) (λ head l next r. r)
  where
    plain : (own : ℕ → ℕ → Type 0) (call : TableStep) (next : ℕ → Program) → stores call ≡ none → bears call ≡ none → loads call ≡ none → ((found : ℕ) → Gives own (next found)) → Gives own (Do call next)
    plain own (OnSlot (CreateLife i k)) next s b l r = absurd (some-ne-none i b)
    plain own call next s b l r = r

pub gives_opens : (own : ℕ → ℕ → Type 0) → PassesOpens (Gives own)
gives_opens own = record { load = λ o next r. r; wait = λ o next r. r }

pub gives_follow : (own : ℕ → ℕ → Type 0) → Follows (Gives own)
gives_follow own = at_calls_follow (Unit {0}) (GivesAt own) every_exit tt (λ head next r. r)

behind_gives : (own : ℕ → ℕ → Type 0) (call : TableStep) (next : ℕ → Program) → Gives own (Do call next) → (found : ℕ) → Gives own (next found)
behind_gives own (OnSlot (CreateLife i k)) next r found = (r found).1
behind_gives own call next r found = r found

-- a seat stores the life next
pub record Stores (own : ℕ → ℕ → Type 0) (c : Core) (k id : ℕ) : Type 0 where
  pub place : ℕ
  pub seat : SeatState
  pub there : get_elem? c.seats place ≡ some seat
  pub operation : ℕ
  pub mine : own k operation
  pub next : next_stores seat.program ≡ some (operation, id + 1)

pub record Stored (p : Plan) (own : ℕ → ℕ → Type 0) (c : Core) (k id : ℕ) : Type 0 where
  pub operation : ℕ
  pub mine : own k operation
  pub inside : operation < p.operations
  pub word : get_or c.words (open_index p operation) 0 ≡ id + 1

pub record Linked (p : Plan) (own : ℕ → ℕ → Type 0) (c : Core) (vs : List View) : Type 0 where
  pub programs : (j : ℕ) (seat : SeatState) → get_elem? c.seats j ≡ some seat → Gives own seat.program
  pub linked : (i h k : ℕ) → i < p.slots → 0 < count (is_linked h k) (slot_facts (state c vs) i) → Stored p own c k (socket_id h i) ⊎ Stores own c k (socket_id h i)

module _ (p : Plan) (own : ℕ → ℕ → Type 0) (Q : ℕ → ℕ → Type 0) (c : Core) (vs : List View) (i : ℕ) (sized : length c.words ≡ all_words p) (r : Recorded p Q c vs) (l : Linked p own c vs) (seat : SeatState) (v : View)
    (at_seat : get_elem? c.seats i ≡ some seat) (at_view : get_elem? vs i ≡ some v) where
  module _ (call : TableStep) (next : ℕ → Program) (is : first_step seat.program ≡ Do call next) (may : May p v call) where
    abbrev seat' : SeatState
    seat' = record { program = next_step (resolved (waiting_at c.calls.waiting i) (next (found_at c.words (word_of p call)))); hand = hand_after p call c.homes seat.hand }

    abbrev after : Core
    after = stepped p i seat call next c

    abbrev w : View
    w = row p call (found_at c.words (word_of p call)) (hand_at p c.words c.homes call) v

    abbrev found : ℕ
    found = found_at c.words (word_of p call)

    mine : Gives own (Do call next)
    mine = subst (Gives own) is (through_first (Gives own) (gives_passes own) (gives_opens own) (gives_follow own) seat.program (l.programs i seat at_seat))

    here : get_elem? after.seats i ≡ some seat'
    here = set_here c.seats i seat' (at_length c.seats i seat at_seat)

    its_next : (s : SeatState) (x : ℕ × ℕ) → get_elem? c.seats i ≡ some s → next_stores s.program ≡ some x → stores call ≡ some x
    its_next s x at e = let same : seat ≡ s = some-injective seat s (sym at_seat ∙ at) in ap next_stores (sym is) ∙ (ap (λ (y : SeatState). next_stores (first_step y.program)) same ∙ first_stored s.program x e)

    linked_after : (j h k : ℕ) → count (is_linked h k) (slot_facts (state after (set vs i w)) j) + marks_of (is_linked h k) j v ≡ count (is_linked h k) (slot_facts (state c vs) j) + marks_of (is_linked h k) j w
    linked_after j h k = counts (state c vs) i v w at_view (words_after c.words (word_of p call) (word_after call (found_at c.words (word_of p call)))) (homes_after p call seat.hand c.homes) (is_linked h k) j

    abbrev Holds : ℕ → ℕ → Type 0
    Holds k id = Stored p own after k id ⊎ Stores own after k id

    far_stores : (k id : ℕ) → (x : Stores own c k id) → x.place ≢ i → Stores own after k id
    far_stores k id x far = record { place = x.place; seat = x.seat; there = set_else c.seats i x.place seat' far ∙ x.there; operation = x.operation; mine = x.mine; next = x.next }

    carry : stores call ≡ none → (k id : ℕ) → Stored p own c k id ⊎ Stores own c k id → Holds k id
    carry none_ k id (inl x) = inl record { operation = x.operation; mine = x.mine; inside = x.inside; word = opens_same p c.words v x.operation x.inside call may none_ ∙ x.word }
    carry none_ k id (inr x) = dite (ℕ_discrete x.place i)
        (λ e. absurd (some-ne-none (x.operation, id + 1) (sym (its_next x.seat (x.operation, id + 1) (ap (get_elem? c.seats) (sym e) ∙ x.there) x.next) ∙ none_)))
        (λ far. inr (far_stores k id x far))

    with_linked : ((j h k : ℕ) → j < p.slots → 0 < count (is_linked h k) (slot_facts (state after (set vs i w)) j) → Holds k (socket_id h j)) → Linked p own after (set vs i w)
    with_linked linked = record {
      programs = λ j s at. ⊎_elim (λ a. subst (λ (x : SeatState). Gives own x.program) a.1 (through_next (Gives own) (gives_passes own) (gives_follow own) (waiting_at c.calls.waiting i) (next found) (behind_gives own call next mine found)))
          (λ a. l.programs j s a.1) (at_set c.seats i j seat' s at);
      linked = linked;
    }

    before_too : bears call ≡ none → (j h k : ℕ) → 0 < count (is_linked h k) (slot_facts (state after (set vs i w)) j) → 0 < count (is_linked h k) (slot_facts (state c vs) j)
    before_too none_ j h k some_ = omega (arith, some_, linked_after j h k, links_only p v found (hand_at p c.words c.homes call) h k call none_ j)

    pub plain_step : stores call ≡ none → bears call ≡ none → Linked p own after (set vs i w)
    plain_step none_ no_birth = with_linked (λ j h k inside some_. carry none_ k (socket_id h j) (l.linked j h k inside (before_too no_birth j h k some_)))

    pub birth_step : (n m : ℕ) → call ≡ OnSlot (CreateLife n m) → Linked p own after (set vs i w)
    birth_step n m made = let g = subst (λ x. Gives own (Do x next)) made mine found in
        with_linked (λ j h k inside some_. ⊎_elim
        (λ a. inr record { place = i; seat = seat'; there = here; operation = g.0.0; mine = subst (λ y. own y g.0.0) (sym a.2) g.0.1; next = next_stored (waiting_at c.calls.waiting i) (next found) (g.0.0, socket_id h j + 1) (g.0.2 ∙ (λ q. some (g.0.0, socket_id (sym a.1 q) (sym a.0 q) + 1))) })
        (λ less. carry (ap stores made) k (socket_id h j) (l.linked j h k inside (omega (arith, some_, linked_after j h k, less))))
        (subst (λ x. ((j ≡ n) × (h ≡ vref_version found) × (k ≡ m)) ⊎ (marks_of (is_linked h k) j (row p x found (hand_at p c.words c.homes call) v) ≤ marks_of (is_linked h k) j v)) (sym made) (birth_links p v found (hand_at p c.words c.homes call) h k n m j)))

    pub store_step : (o x : ℕ) → call ≡ OnName (StoreOpen o x) → Linked p own after (set vs i w)
    store_step o x made = with_linked (λ j h k inside some_. settle k (socket_id h j) (l.linked j h k inside (before_too (ap bears made) j h k some_)))
      where
        left : r.left i o ≡ true
        left = (subst (λ y. Records (r.left i) (Do y next)) made (subst (Records (r.left i)) is (through_first (Records (r.left i)) (records_passes (r.left i)) (records_opens (r.left i)) (records_follow (r.left i)) seat.program (r.records i seat at_seat)))).0

        word : TableStep → ℕ → ℕ
        word y n = get_or (words_after c.words (word_of p y) (word_after y (found_at c.words (word_of p y)))) (open_index p n) 0

        fits : o < p.operations
        fits = (subst (May p v) made may).0

        settle : (k id : ℕ) → Stored p own c k id ⊎ Stores own c k id → Holds k id
        settle k id (inl y) = let far : y.operation ≢ o = (λ e. true≢false (sym (ap (r.left i) e ∙ left) ∙ r.once y.operation y.inside (λ z. let q : id + 1 ≡ 0 = sym y.word ∙ z in omega (arith, q)) i)) in
            inl record {
              operation = y.operation;
              mine = y.mine;
              inside = y.inside;
              word = subst (λ z. get_or (words_after c.words (word_of p z) (word_after z (found_at c.words (word_of p z)))) (open_index p y.operation) 0 ≡ get_or c.words (open_index p y.operation) 0) (sym made)
                  (get_or-set_other c.words (open_index p o) (open_index p y.operation) x 0 (λ e. far (omega (arith, e)))) ∙ y.word;
            }
        settle k id (inr y) = dite (ℕ_discrete y.place i)
            (λ e. let same : (o, x) ≡ (y.operation, id + 1) = some-injective (o, x) (y.operation, id + 1) (sym (ap stores made) ∙ its_next y.seat (y.operation, id + 1) (ap (get_elem? c.seats) (sym e) ∙ y.there) y.next) in
            inl record {
              operation = o;
              mine = subst (own k) (ap (λ (z : ℕ × ℕ). z.0) (sym same)) y.mine;
              inside = fits;
              word = subst (λ z. get_or (words_after c.words (word_of p z) (word_after z (found_at c.words (word_of p z)))) (open_index p o) 0 ≡ x) (sym made)
                  (get_or-set_same c.words (open_index p o) x 0 (let f = fits in omega (arith, f, sized))) ∙ ap (λ (z : ℕ × ℕ). z.1) same;
            })
            (λ far. inr (far_stores k id y far))

  -- a step that is none on a word of the sockets
  module _ (program : Program) (rights : List Right) (hand : List Home) (hs : List (Option Home)) (a : Calls) (comes : ComesNext p (first_step seat.program) program) where
    abbrev still_seat : SeatState
    still_seat = record { program = next_step (resolved (waiting_at a.waiting i) program); hand = hand }

    abbrev still : Core
    still = with_seat i program hand c.words hs (record c { calls = a })

    still_linked : (h k j : ℕ) → count (is_linked h k) (slot_facts (state still (set vs i (with_rights v rights))) j) + marks_of (is_linked h k) j v ≡ count (is_linked h k) (slot_facts (state c vs) j) + marks_of (is_linked h k) j v
    still_linked h k j = counts (state c vs) i v (with_rights v rights) at_view c.words hs (is_linked h k) j

    still_holds : (k id : ℕ) → Stored p own c k id ⊎ Stores own c k id → Stored p own still k id ⊎ Stores own still k id
    still_holds k id (inl x) = inl record { operation = x.operation; mine = x.mine; inside = x.inside; word = x.word }
    still_holds k id (inr x) = dite (ℕ_discrete x.place i)
        (λ e. let same : x.seat ≡ seat = some-injective x.seat seat (sym x.there ∙ (ap (get_elem? c.seats) e ∙ at_seat)) in
        absurd (some-ne-none (x.operation, id + 1) (sym x.next ∙ (ap (λ (y : SeatState). next_stores y.program) same ∙ stores_none p seat.program program comes))))
        (λ far. inr record { place = x.place; seat = x.seat; there = set_else c.seats i x.place still_seat far ∙ x.there; operation = x.operation; mine = x.mine; next = x.next })

    pub linked_still : Linked p own still (set vs i (with_rights v rights))
    linked_still = record {
      programs = λ j s at. ⊎_elim
          (λ y. subst (λ (x : SeatState). Gives own x.program) y.1 (through_next (Gives own) (gives_passes own) (gives_follow own) (waiting_at a.waiting i) program
          (comes_follows (Gives own) (gives_follow own) p (first_step seat.program) program comes (through_first (Gives own) (gives_passes own) (gives_opens own) (gives_follow own) seat.program (l.programs i seat at_seat)))))
          (λ y. l.programs j s y.1) (at_set c.seats i j still_seat s at);
      linked = λ j h k inside some_. still_holds k (socket_id h j) (l.linked j h k inside (omega (arith, some_, still_linked h k j)));
    }

linked_ticks : (p : Plan) (own : ℕ → ℕ → Type 0) (Q : ℕ → ℕ → Type 0) (c : Core) (vs : List View) (m : Moment) → Sound p c vs → IsAnswered c m → IsFitting p c m → Recorded p Q c vs → Linked p own c vs → Linked p own (ticked p c m) (views_after p c vs m)
linked_ticks p own Q c vs m sound answered fitting r l = tick_keeps_marks p c vs m sound answered fitting (Linked p own) l
    (λ seat v call next at_seat at_view is goes. by_call seat v call next at_seat at_view is goes.0)
    (λ seat v program rights hand hs a at_seat at_view comes. linked_still p own Q c vs m.seat sound.lawful.references.sized r l seat v at_seat at_view program rights hand hs a comes)
  where
    by_call : (seat : SeatState) (v : View) (call : TableStep) (next : ℕ → Program) → get_elem? c.seats m.seat ≡ some seat → get_elem? vs m.seat ≡ some v → first_step seat.program ≡ Do call next → May p v call
        → Linked p own (stepped p m.seat seat call next c) (set vs m.seat (row p call (found_at c.words (word_of p call)) (hand_at p c.words c.homes call) v))
    by_call seat v (OnSlot (CreateLife n k)) next at_seat at_view is may = birth_step p own Q c vs m.seat sound.lawful.references.sized r l seat v at_seat at_view (OnSlot (CreateLife n k)) next is may n k refl
    by_call seat v (OnName (StoreOpen o x)) next at_seat at_view is may = store_step p own Q c vs m.seat sound.lawful.references.sized r l seat v at_seat at_view (OnName (StoreOpen o x)) next is may o x refl
    by_call seat v call next at_seat at_view is may = plain_step p own Q c vs m.seat sound.lawful.references.sized r l seat v at_seat at_view call next is may refl refl

-- over every run
pub run_linked : (p : Plan) → RetriesGo p → (own : ℕ → ℕ → Type 0) (Q : ℕ → ℕ → Type 0) (c : Core) (vs : List View) (moments : List Moment) → Sound p c vs → AreAnswered p c moments → AreFitting p c moments → Recorded p Q c vs → Linked p own c vs
    → Linked p own (run p c moments) (views_along p c vs moments)
run_linked p go own Q c vs [] sound answered fitting r l = l
run_linked p go own Q c vs (m ∷ ms) sound answered fitting r l = run_linked p go own Q (ticked p c m) (views_after p c vs m) ms (sound_ticks p go c vs m sound answered.0 fitting.0) answered.1 fitting.1
    (recorded_ticks p Q c vs m sound answered.0 fitting.0 r) (linked_ticks p own Q c vs m sound answered.0 fitting.0 r l)
