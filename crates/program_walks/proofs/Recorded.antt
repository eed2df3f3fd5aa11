-- Over every run each life that was made stands in the word of an operation, or is what its maker stores next.
use Rattle.std.proofs.Common.{◌≡◌, ◌≢◌, ℕ, ◌+◌, ◌<◌, ◌≤◌, ◌⊎◌, ◌==◌, ◌&&◌, not, Bool, true, false, cond, eq-eqb, ne_eqb, List, [], ◌∷◌, get_or, set, get_or-set_other, get_or-set_same, refl, sym, ap, ◌∙◌, subst, inl, inr, ⊎_elim, arith}
use Rattle.std.proofs.lemmas.Bool.{true≢false}
use mathlib.Core.Logic.{dite}
use mathlib.Core.Option.{Option, some, none, some-injective, some-ne-none}
use native.Mathlib.Decide.{ℕ_discrete}
use lib.ListN.{get_elem?}
use Rattle.atomic_table.proofs.Lists.{at_set, set_here, set_else}
use Rattle.sock_words.specs.PackedWords.{socket_id, vref_version}
use Rattle.sock_words.specs.declared.plain.Plan.{Plan}
use Rattle.sock_model.specs.declared.chain.Right.{Right}
use Rattle.sock_model.specs.declared.home.Home.{Home}
use Rattle.sock_model.specs.declared.view.View.{View}
use Rattle.sock_model.specs.MarkWeights.{is_born}
use Rattle.sock_model.specs.SocketTableLayout.{open_index}
use Rattle.sock_model.specs.SlotRows.{marks_of}
use Rattle.sock_model.specs.SocketSlotLaw.{count}
use Rattle.sock_model.specs.References.{slot_facts}
use Rattle.sock_steps.proofs.LifeLinkSlotPlaces.{counts}
use Rattle.seat_programs.specs.TableSteps.{TableStep, OnSlot, OnName, CreateLife, StoreOpen}
use Rattle.seat_programs.specs.Programs.{Program, Do, Say, Sent, Rest, TakeMessage, TakeHome, PutHome, PutBytes, AskReady, Write, Aside, Round, Keep, Retries}
use Rattle.seat_programs.specs.Cores.{Calls, Core, SeatState, found_at, words_after, homes_after, hand_after, resolved, next_step, waiting_at, with_seat, stepped}
use Rattle.seat_programs.specs.StepTables.{word_of, word_after}
use Rattle.seat_programs.specs.Ticks.{Moment, ticked, run, IsAnswered, AreAnswered}
use Rattle.seat_programs.specs.StepTables.{row, hand_at}
use Rattle.seat_programs.specs.StepTables.{May}
use Rattle.sock_runs.specs.program_steps.specs.SoundSeats.{state, Sound, IsFitting, AreFitting, views_after, views_along}
use Rattle.sock_runs.proofs.NotesOfSteps.{bears, births_only, birth_notes}
use Rattle.program_walks.proofs.Records.{stores, next_stores, but, Records, next_stored, first_stored, opens_same}
use Rattle.program_walks.proofs.Through.{records_passes, records_opens, records_follow, comes_follows}
use Rattle.program_walks.proofs.ThroughCalls.{through_first, through_next}
use Rattle.sock_runs.specs.program_steps.proofs.TickCases.{ComesNext, with_rights, tick_keeps_marks}
use Rattle.sock_runs.proofs.LinkTicks.{RetriesGo}
use Rattle.sock_runs.proofs.TicksKeepSeatsSound.{sound_ticks}
use Rattle.seat_programs.specs.corr_core.proofs.NoteSums.{at_length}
use Rattle.seat_programs.specs.LoopRounds.{first_step}

-- the id stands in the word of operation o, in which no seat stores any more
pub record IsRecorded (p : Plan) (c : Core) (left : ℕ → ℕ → Bool) (o id : ℕ) : Type 0 where
  pub inside : o < p.operations
  pub word : get_or c.words (open_index p o) 0 ≡ id + 1
  pub spent : (j : ℕ) → left j o ≡ false

-- a seat stores it by its next step
pub record IsPending (c : Core) (id : ℕ) : Type 0 where
  pub place : ℕ
  pub seat : SeatState
  pub there : get_elem? c.seats place ≡ some seat
  pub operation : ℕ
  pub next : next_stores seat.program ≡ some (operation, id + 1)

abbrev pub Stands : Plan → (ℕ → ℕ → Type 0) → Core → (ℕ → ℕ → Bool) → ℕ → Type 0
Stands p Q c left id = ((j o : ℕ) × Q j o × IsRecorded p c left o id) ⊎ IsPending c id

-- each seat has operations of its own left, all of which meet Q
pub record Recorded (p : Plan) (Q : ℕ → ℕ → Type 0) (c : Core) (vs : List View) : Type 0 where
  pub left : ℕ → ℕ → Bool
  pub among : (j o : ℕ) → left j o ≡ true → Q j o
  pub apart : (j k o : ℕ) → left j o ≡ true → left k o ≡ true → j ≡ k
  pub records : (j : ℕ) (seat : SeatState) → get_elem? c.seats j ≡ some seat → Records (left j) seat.program
  -- a word that was stored isn't stored again
  pub once : (o : ℕ) → o < p.operations → get_or c.words (open_index p o) 0 ≢ 0 → (j : ℕ) → left j o ≡ false
  pub lives : (i h : ℕ) → i < p.slots → 0 < count (is_born h) (slot_facts (state c vs) i) → Stands p Q c left (socket_id h i)

pub either_bool : (b : Bool) → (b ≡ true) ⊎ (b ≡ false)
either_bool true = inl refl
either_bool false = inr refl

first_true : (a b : Bool) → (a && b) ≡ true → a ≡ true
first_true true b e = refl
first_true false b e = e

but_more : (o : ℕ) (left more : ℕ → Bool) → ((x : ℕ) → left x ≡ true → more x ≡ true) → (x : ℕ) → but o left x ≡ true → but o more x ≡ true
but_more o left more up x e = both (left x) (more x) (not (x == o)) (up x) e
  where
    both : (a b n : Bool) → (a ≡ true → b ≡ true) → (a && n) ≡ true → (b && n) ≡ true
    both true b n f e = ap (λ y. y && n) (f refl) ∙ e
    both false b n f e = absurd (true≢false (sym e))

but_none : (o : ℕ) (left : ℕ → Bool) → but o left o ≡ false
but_none o left = ap (λ b. left o && not b) (eq-eqb o o refl) ∙ and_false (left o)
  where
    and_false : (b : Bool) → (b && false) ≡ false
    and_false true = refl
    and_false false = refl

-- a program may as well have more operations left
pub records_more : (program : Program) (left more : ℕ → Bool) → ((o : ℕ) → left o ≡ true → more o ≡ true) → Records left program → Records more program
records_more (Do (OnSlot (CreateLife i k)) next) left more up r = λ found. ((r found).0, records_more (next found) left more up (r found).1)
records_more (Do (OnName (StoreOpen o w)) next) left more up r = (up o r.0, λ found. records_more (next found) (but o left) (but o more) (λ x e. but_more o left more up x e) (r.1 found))
records_more (Do call next) left more up r = λ found. records_more (next found) left more up (r found)
records_more (Say o outcome next) left more up r = records_more next left more up r
records_more (Sent o next) left more up r = records_more next left more up r
records_more Rest left more up r = tt
records_more (TakeMessage q next) left more up r = λ heading bytes. records_more (next heading bytes) left more up (r heading bytes)
records_more (TakeHome k next) left more up r = λ places. records_more (next places) left more up (r places)
records_more (PutHome k n after) left more up r = records_more after left more up r
records_more (PutBytes k asked bytes next) left more up r = λ answer. records_more (next answer) left more up (r answer)
records_more (AskReady k next) left more up r = λ answer. records_more (next answer) left more up (r answer)
records_more (Write w after) left more up r = records_more after left more up r
records_more (Aside step next) left more up r = λ found. records_more (next found) left more up (r found)
records_more (Round head next) left more up r = λ exit. records_more (next exit) left more up (r exit)
records_more (Keep x next) left more up r = records_more next left more up r
records_more (Retries requests after) left more up r = records_more after left more up r

-- the programs that store nothing and make no life
abbrev pub nothing : ℕ → Bool
nothing _ = false

-- a step that stores nothing and makes no life goes on as it may
pub plain_next : (left : ℕ → Bool) (call : TableStep) (next : ℕ → Program) → stores call ≡ none → bears call ≡ none → Records left (Do call next) → (found : ℕ) → Records left (next found)
plain_next left (OnSlot (CreateLife i k)) next s b r found = absurd (some-ne-none i b)
plain_next left (OnName (StoreOpen o w)) next s b r found = absurd (some-ne-none (o, w) s)
plain_next left call next s b r found = r found

module _ (p : Plan) (Q : ℕ → ℕ → Type 0) (c : Core) (vs : List View) (i : ℕ) (r : Recorded p Q c vs) (seat : SeatState) (v : View) (call : TableStep) (next : ℕ → Program)
    (at_seat : get_elem? c.seats i ≡ some seat) (at_view : get_elem? vs i ≡ some v) (is : first_step seat.program ≡ Do call next) (may : May p v call) where
  abbrev found : ℕ
  found = found_at c.words (word_of p call)

  abbrev w : View
  w = row p call (found_at c.words (word_of p call)) (hand_at p c.words c.homes call) v

  abbrev after : Core
  after = stepped p i seat call next c

  abbrev seat' : SeatState
  seat' = record { program = next_step (resolved (waiting_at c.calls.waiting i) (next (found_at c.words (word_of p call)))); hand = hand_after p call c.homes seat.hand }

  mine : Records (r.left i) (Do call next)
  mine = subst (Records (r.left i)) is (through_first (Records (r.left i)) (records_passes (r.left i)) (records_opens (r.left i)) (records_follow (r.left i)) seat.program (r.records i seat at_seat))

  -- the other seats are as they were
  stays : (j : ℕ) (s : SeatState) → j ≢ i → get_elem? c.seats j ≡ some s → get_elem? after.seats j ≡ some s
  stays j s far at = set_else c.seats i j seat' far ∙ at

  here : get_elem? after.seats i ≡ some seat'
  here = set_here c.seats i seat' (at_length c.seats i seat at_seat)

  its_next : (s : SeatState) (x : ℕ × ℕ) → get_elem? c.seats i ≡ some s → next_stores s.program ≡ some x → stores call ≡ some x
  its_next s x at e = let same : seat ≡ s = some-injective seat s (sym at_seat ∙ at) in ap next_stores (sym is) ∙ (ap (λ (y : SeatState). next_stores (first_step y.program)) same ∙ first_stored s.program x e)

  born_after : (j h : ℕ) → count (is_born h) (slot_facts (state after (set vs i w)) j) + marks_of (is_born h) j v ≡ count (is_born h) (slot_facts (state c vs) j) + marks_of (is_born h) j w
  born_after j h = counts (state c vs) i v w at_view (words_after c.words (word_of p call) (word_after call (found_at c.words (word_of p call)))) (homes_after p call seat.hand c.homes) (is_born h) j

  module _ (none_ : stores call ≡ none) where
    -- what stood there stands there
    carry : (id : ℕ) → Stands p Q c r.left id → Stands p Q after r.left id
    carry id (inl (j, o, q, x)) = inl (j, o, q, record { inside = x.inside; word = opens_same p c.words v o x.inside call may none_ ∙ x.word; spent = x.spent })
    carry id (inr x) = dite (ℕ_discrete x.place i)
        (λ e. absurd (some-ne-none (x.operation, id + 1) (sym (its_next x.seat (x.operation, id + 1) (ap (get_elem? c.seats) (sym e) ∙ x.there) x.next) ∙ none_)))
        (λ far. inr record { place = x.place; seat = x.seat; there = stays x.place x.seat far x.there; operation = x.operation; next = x.next })

    keep : Records (r.left i) (next found) → ((j h : ℕ) → j < p.slots → 0 < count (is_born h) (slot_facts (state after (set vs i w)) j) → Stands p Q after r.left (socket_id h j)) → Recorded p Q after (set vs i w)
    keep goes lives = record {
      left = r.left;
      among = r.among;
      apart = r.apart;
      records = λ j s at. ⊎_elim (λ a. subst (λ (x : SeatState). Records (r.left j) x.program) a.1 (subst (λ k. Records (r.left k) seat'.program) (sym a.0) (through_next (Records (r.left i)) (records_passes (r.left i)) (records_follow (r.left i)) (waiting_at c.calls.waiting i) (next found) goes))) (λ a. r.records j s a.1) (at_set c.seats i j seat' s at);
      once = λ o inside some_ j. r.once o inside (λ z. some_ (opens_same p c.words v o inside call may none_ ∙ z)) j;
      lives = lives;
    }

    pub plain_step : bears call ≡ none → Recorded p Q after (set vs i w)
    plain_step no_birth = keep (plain_next (r.left i) call next none_ no_birth mine found)
        (λ j h inside born. carry (socket_id h j) (r.lives j h inside (omega (arith, born, born_after j h, births_only p v found (hand_at p c.words c.homes call) h call no_birth j))))

    pub birth_step : (n k : ℕ) → call ≡ OnSlot (CreateLife n k) → Recorded p Q after (set vs i w)
    birth_step n k made = let m = subst (λ x. Records (r.left i) (Do x next)) made mine found in
        keep m.1 (λ j h inside born. ⊎_elim
        (λ a. inr record { place = i; seat = seat'; there = here; operation = m.0.0; next = next_stored (waiting_at c.calls.waiting i) (next found) (m.0.0, socket_id h j + 1) (m.0.1 ∙ (λ q. some (m.0.0, socket_id (sym a.1 q) (sym a.0 q) + 1))) })
        (λ less. carry (socket_id h j) (r.lives j h inside (omega (arith, born, born_after j h, less))))
        (subst (λ x. ((j ≡ n) × (h ≡ vref_version found)) ⊎ (marks_of (is_born h) j (row p x found (hand_at p c.words c.homes call) v) ≤ marks_of (is_born h) j v)) (sym made) (birth_notes p v found (hand_at p c.words c.homes call) h n k j)))

  -- the word of operation o is stored
  module _ (sound : Sound p c vs) (o x : ℕ) (made : call ≡ OnName (StoreOpen o x)) where
    left' : ℕ → ℕ → Bool
    left' k = cond (k == i) (but o (r.left i)) (r.left k)

    left_here : left' i ≡ but o (r.left i)
    unfolding left'
    left_here = ap (λ b. cond b (but o (r.left i)) (r.left i)) (eq-eqb i i refl)

    left_else : (k : ℕ) → k ≢ i → left' k ≡ r.left k
    unfolding left'
    left_else k far = ap (λ b. cond b (but o (r.left i)) (r.left k)) (ne_eqb k i far)

    left_less : (k y : ℕ) → left' k y ≡ true → r.left k y ≡ true
    left_less k y e = dite (ℕ_discrete k i)
        (λ same. subst (λ z. r.left z y ≡ true) (sym same) (first_true (r.left i y) (not (y == o)) (sym (ap (λ (f : ℕ → Bool). f y) left_here) ∙ (ap (λ z. left' z y) (sym same) ∙ e))))
        (λ far. sym (ap (λ (f : ℕ → Bool). f y) (left_else k far)) ∙ e)

    now : (r.left i o ≡ true) × ((found : ℕ) → Records (but o (r.left i)) (next found))
    now = subst (λ y. Records (r.left i) (Do y next)) made mine

    fits : o < p.operations
    fits = (subst (May p v) made may).0

    abbrev word : TableStep → ℕ → ℕ
    word y n = get_or (words_after c.words (word_of p y) (word_after y (found_at c.words (word_of p y)))) (open_index p n) 0

    word_here : word call o ≡ x
    word_here = subst (λ y. word y o ≡ x) (sym made) (get_or-set_same c.words (open_index p o) x 0 (let f = fits in omega (arith, sound.lawful.references.sized)))

    word_else : (n : ℕ) → n ≢ o → word call n ≡ get_or c.words (open_index p n) 0
    word_else n far = subst (λ y. word y n ≡ get_or c.words (open_index p n) 0) (sym made) (get_or-set_other c.words (open_index p o) (open_index p n) x 0 (λ e. far (omega arith)))

    spent_here : (j : ℕ) → left' j o ≡ false
    spent_here j = dite (ℕ_discrete j i)
        (λ same. ap (λ z. left' z o) same ∙ (ap (λ (f : ℕ → Bool). f o) left_here ∙ but_none o (r.left i)))
        (λ far. ⊎_elim (λ yes. absurd (far (r.apart j i o (left_less j o yes) now.0))) (λ no_. no_) (either_bool (left' j o)))

    settle : (id : ℕ) → Stands p Q c r.left id → Stands p Q after left' id
    settle id (inl (j₀, n, q, y)) = let far : n ≢ o = λ e. true≢false (sym (ap (r.left i) e ∙ now.0) ∙ y.spent i) in inl (
      j₀,
      n,
      q,
      record { inside = y.inside; word = word_else n far ∙ y.word; spent = λ j. ⊎_elim (λ yes. absurd (true≢false (sym (left_less j n yes) ∙ y.spent j))) (λ no_. no_) (either_bool (left' j n)) },
    )
    settle id (inr y) = dite (ℕ_discrete y.place i)
        (λ e. let same : (o, x) ≡ (y.operation, id + 1) = some-injective (o, x) (y.operation, id + 1) (sym (ap stores made) ∙ its_next y.seat (y.operation, id + 1) (ap (get_elem? c.seats) (sym e) ∙ y.there) y.next) in
        inl (i, o, r.among i o now.0, record { inside = fits; word = word_here ∙ ap (λ (z : ℕ × ℕ). z.1) same; spent = spent_here }))
        (λ far. inr record { place = y.place; seat = y.seat; there = stays y.place y.seat far y.there; operation = y.operation; next = y.next })

    pub store_step : Recorded p Q after (set vs i w)
    store_step = record {
      left = left';
      among = λ j n e. r.among j n (left_less j n e);
      apart = λ j k n a b. r.apart j k n (left_less j n a) (left_less k n b);
      records = λ j s at. ⊎_elim
          (λ a. subst (λ (y : SeatState). Records (left' j) y.program) a.1 (subst (λ k. Records (left' k) seat'.program) (sym a.0) (subst (λ l. Records l seat'.program) (sym left_here) (through_next (Records (but o (r.left i))) (records_passes (but o (r.left i))) (records_follow (but o (r.left i))) (waiting_at c.calls.waiting i) (next found) (now.1 found)))))
          (λ a. subst (λ l. Records l s.program) (sym (left_else j a.0)) (r.records j s a.1)) (at_set c.seats i j seat' s at);
      once = λ n inside some_ j. dite (ℕ_discrete n o)
          (λ e. ap (left' j) e ∙ spent_here j)
          (λ far. ⊎_elim (λ yes. absurd (true≢false (sym (left_less j n yes) ∙ r.once n inside (λ z. some_ (word_else n far ∙ z)) j))) (λ no_. no_) (either_bool (left' j n)));
      lives = λ j h inside born. settle (socket_id h j) (r.lives j h inside (omega (arith, born, born_after j h, births_only p v found (hand_at p c.words c.homes call) h call (ap bears made) j)));
    }

-- a seat that makes no step on a word stores nothing next
pub stores_none : (p : Plan) (program q : Program) → ComesNext p (first_step program) q → next_stores program ≡ none
stores_none p (Do call next) q comes = absurd comes
stores_none p _ q comes = refl

-- such a step leaves what is recorded
module _ (p : Plan) (Q : ℕ → ℕ → Type 0) (c : Core) (vs : List View) (i : ℕ) (r : Recorded p Q c vs) (seat : SeatState) (v : View) (program : Program) (rights : List Right) (hand : List Home) (hs : List (Option Home)) (a : Calls)
    (at_seat : get_elem? c.seats i ≡ some seat) (at_view : get_elem? vs i ≡ some v) (comes : ComesNext p (first_step seat.program) program) where
  abbrev still_seat : SeatState
  still_seat = record { program = next_step (resolved (waiting_at a.waiting i) program); hand = hand }

  still_born : (j h : ℕ) → count (is_born h) (slot_facts (state (with_seat i program hand c.words hs (record c { calls = a })) (set vs i (with_rights v rights))) j) + marks_of (is_born h) j v ≡ count (is_born h) (slot_facts (state c vs) j) + marks_of (is_born h) j v
  still_born j h = counts (state c vs) i v (with_rights v rights) at_view c.words hs (is_born h) j

  still_records : Records (r.left i) program
  still_records = comes_follows (Records (r.left i)) (records_follow (r.left i)) p (first_step seat.program) program comes
      (through_first (Records (r.left i)) (records_passes (r.left i)) (records_opens (r.left i)) (records_follow (r.left i)) seat.program (r.records i seat at_seat))

  still_stands : (id : ℕ) → Stands p Q c r.left id → Stands p Q (with_seat i program hand c.words hs (record c { calls = a })) r.left id
  still_stands id (inl (j, o, q, x)) = inl (j, o, q, record { inside = x.inside; word = x.word; spent = x.spent })
  still_stands id (inr x) = dite (ℕ_discrete x.place i)
      (λ e. let same : x.seat ≡ seat = some-injective x.seat seat (sym x.there ∙ (ap (get_elem? c.seats) e ∙ at_seat)) in
      absurd (some-ne-none (x.operation, id + 1) (sym x.next ∙ (ap (λ (y : SeatState). next_stores y.program) same ∙ stores_none p seat.program program comes))))
      (λ far. inr record { place = x.place; seat = x.seat; there = set_else c.seats i x.place still_seat far ∙ x.there; operation = x.operation; next = x.next })

  pub still_recorded : Recorded p Q (with_seat i program hand c.words hs (record c { calls = a })) (set vs i (with_rights v rights))
  still_recorded = record {
    left = r.left;
    among = r.among;
    apart = r.apart;
    records = λ j s at. ⊎_elim
        (λ x. subst (λ (y : SeatState). Records (r.left j) y.program) x.1 (subst (λ k. Records (r.left k) still_seat.program) (sym x.0) (through_next (Records (r.left i)) (records_passes (r.left i)) (records_follow (r.left i)) (waiting_at a.waiting i) program still_records)))
        (λ x. r.records j s x.1) (at_set c.seats i j still_seat s at);
    once = λ o inside some_ j. r.once o inside some_ j;
    lives = λ j h inside born. still_stands (socket_id h j) (r.lives j h inside (omega (arith, born, still_born j h)));
  }

pub recorded_ticks : (p : Plan) (Q : ℕ → ℕ → Type 0) (c : Core) (vs : List View) (m : Moment) → Sound p c vs → IsAnswered c m → IsFitting p c m → Recorded p Q c vs → Recorded p Q (ticked p c m) (views_after p c vs m)
recorded_ticks p Q c vs m sound answered fitting r = tick_keeps_marks p c vs m sound answered fitting (Recorded p Q) r
    (λ seat v call next at_seat at_view is goes. by_call seat v call next at_seat at_view is goes.0)
    (λ seat v program rights hand hs a at_seat at_view comes. still_recorded p Q c vs m.seat r seat v program rights hand hs a at_seat at_view comes)
  where
    by_call : (seat : SeatState) (v : View) (call : TableStep) (next : ℕ → Program) → get_elem? c.seats m.seat ≡ some seat → get_elem? vs m.seat ≡ some v → first_step seat.program ≡ Do call next → May p v call
        → Recorded p Q (stepped p m.seat seat call next c) (set vs m.seat (row p call (found_at c.words (word_of p call)) (hand_at p c.words c.homes call) v))
    by_call seat v (OnSlot (CreateLife n k)) next at_seat at_view is may = birth_step p Q c vs m.seat r seat v (OnSlot (CreateLife n k)) next at_seat at_view is may refl n k refl
    by_call seat v (OnName (StoreOpen o x)) next at_seat at_view is may = store_step p Q c vs m.seat r seat v (OnName (StoreOpen o x)) next at_seat at_view is may sound o x refl
    by_call seat v call next at_seat at_view is may = plain_step p Q c vs m.seat r seat v call next at_seat at_view is may refl refl

pub run_recorded : (p : Plan) → RetriesGo p → (Q : ℕ → ℕ → Type 0) (c : Core) (vs : List View) (moments : List Moment) → Sound p c vs → AreAnswered p c moments → AreFitting p c moments → Recorded p Q c vs → Recorded p Q (run p c moments) (views_along p c vs moments)
run_recorded p go Q c vs [] sound answered fitting r = r
run_recorded p go Q c vs (m ∷ ms) sound answered fitting r = run_recorded p go Q (ticked p c m) (views_after p c vs m) ms (sound_ticks p go c vs m sound answered.0 fitting.0) answered.1 fitting.1
    (recorded_ticks p Q c vs m sound answered.0 fitting.0 r)
