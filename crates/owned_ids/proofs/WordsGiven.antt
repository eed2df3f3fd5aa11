-- Over every run the word of a link's `open` names a life that was given this link.
use Rattle.std.proofs.Common.{◌≡◌, ◌≢◌, ℕ, zero, suc, ◌+◌, ◌<◌, ◌⊎◌, inl, inr, ⊎_elim, ◌==◌, List, [], ◌∷◌, ◌++◌, length, get_or, set, get_or-set_other, get_or-set_same, refl, sym, ap, ◌∙◌, subst, arith}
use Rattle.std.specs.Prelude as std
use Rattle.std.specs.List.{AllByRecursion}
use mathlib.Core.Logic.{dite}
use mathlib.Core.Option.{Option, some, none, some-ne-none}
use native.Mathlib.Decide.{ℕ_discrete}
use lib.ListN.{get_elem?}
use Rattle.atomic_table.proofs.Lists.{at_set}
use Rattle.sock_words.specs.PackedWords.{socket_id, vref_version, NO_SOCKET}
use Rattle.sock_words.specs.declared.plain.Plan.{Plan}
use Rattle.sock_model.specs.declared.chain.Right.{Right}
use Rattle.sock_model.specs.declared.home.Home.{Home}
use Rattle.sock_model.specs.declared.marks.Mark.TheVariants.{Known, Born, Linked}
use Rattle.sock_model.specs.declared.view.View.{View}
use Rattle.sock_model.specs.Marks.{at, without_at}
use Rattle.sock_model.specs.MarkWeights.{is_linked, is_stage}
use Rattle.sock_model.specs.SocketTableLayout.{all_words, open_index}
use Rattle.sock_model.specs.SlotRows.{marks_of}
use Rattle.corr_core.specs.declared.marks.Plan.{Plan as IdPlan}
use Rattle.call_owing.specs.Below.programs_allowed.specs.slot_steps.proofs.SlotWeightSums.{about-here}
use Rattle.call_owing.specs.Below.programs_allowed.specs.slot_steps.proofs.RuleNumbers.{pair-same}
use Rattle.call_owing.specs.Below.sock_steps.proofs.LifeLinkSlotPlaces.{counts, own_count}
use Rattle.call_owing.specs.Below.sock_steps.proofs.SumsAsMarksChange.{either_way}
use Rattle.seat_programs.specs.declared.task.Task.{Task}
use Rattle.seat_programs.specs.declared.task.Sizes.{Sizes}
use Rattle.seat_programs.specs.TableSteps.{TableStep, OnSlot, OnName, CreateLife, StoreOpen}
use Rattle.seat_programs.specs.Programs.{Program, Do, Rest, open_from, make_socket}
use Rattle.seat_programs.specs.ClientProgram.{HeldLife, client_from, ending_of}
use Rattle.seat_programs.specs.Cores.{Calls, Core, SeatState, found_at, words_after, homes_after, hand_after, resolved, next_step, waiting_at, with_seat, stepped}
use Rattle.seat_programs.specs.StepTables.{word_of, word_after}
use Rattle.seat_programs.specs.Ticks.{Moment, ticked, run, IsAnswered, AreAnswered}
use Rattle.seat_programs.specs.ScriptSetupToEnding.{sizes_of, beginning, programs, readers_from, is_ending}
use Rattle.call_owing.proofs.EndsStill.{all_at}
use Rattle.seat_programs.specs.StepTables.{row, hand_at}
use Rattle.seat_programs.specs.StepTables.{May}
use Rattle.call_owing.specs.Below.programs_allowed.specs.program_steps.specs.SoundSeats.{state, Sound, IsFitting, AreFitting, views_after, views_along}
use Rattle.call_owing.specs.Below.programs_allowed.specs.sock_runs.proofs.NotesOfSteps.{bears}
use Rattle.call_owing.specs.Below.programs_allowed.specs.sock_runs.proofs.LinkNotes.{links_stay}
use Rattle.call_owing.specs.Below.programs_allowed.specs.sock_runs.proofs.LinksStay.{IsGiven}
use Rattle.call_owing.specs.Below.programs_allowed.specs.program_walks.proofs.Records.{stores, opens_same}
use Rattle.call_owing.specs.Below.programs_allowed.specs.program_walks.proofs.OpenedLivesRecorded.{mapped, appended}
use Rattle.call_owing.specs.Below.programs_allowed.specs.program_walks.proofs.LinksOpening.{OwnsLink}
use Rattle.call_owing.specs.Below.programs_allowed.specs.program_walks.proofs.Through.{Passes, PassesOpens, Follows, comes_follows, through_any_failed, at_calls_passes, at_calls_follow}
use Rattle.call_owing.specs.Below.programs_allowed.specs.program_steps.proofs.AtCalls.{AtCalls, every_exit}
use Rattle.call_owing.specs.Below.programs_allowed.specs.program_walks.proofs.ThroughSends.{through_ending}
use Rattle.call_owing.specs.Below.programs_allowed.specs.program_walks.proofs.ThroughCalls.{through_others, through_first, through_next}
use Rattle.call_owing.specs.Below.programs_allowed.specs.program_walks.proofs.ThroughClients.{through_back, through_any}
use Rattle.call_owing.specs.Below.programs_allowed.specs.program_steps.proofs.TickCases.{ComesNext, with_rights, tick_keeps_marks}
use Rattle.call_owing.specs.Below.programs_allowed.specs.sock_runs.proofs.LinkTicks.{RetriesGo}
use Rattle.call_owing.specs.Below.programs_allowed.specs.sock_runs.proofs.TicksKeepSeatsSound.{sound_ticks}
use Rattle.seat_programs.specs.LoopRounds.{first_step}
use Rattle.sock_words.specs.Totals.{total}

-- ## Programs

-- the next step stores in the word of an `open`
abbrev pub IsStore : Program → Type 0
IsStore (Do (OnName (StoreOpen o w)) next) = Unit {0}
IsStore other = ⊥

-- in the word of an `open` the program stores each life that it makes, at once, and else only that there is none; here it has just made this life of this link
abbrev pub NamesAt : (ℕ → ℕ → Type 0) → Option (ℕ × ℕ) → TableStep → (ℕ → Program) → (Option (ℕ × ℕ) → ℕ → Type 0) → Type 0
NamesAt own none (OnSlot (CreateLife i k)) next behind = (found : ℕ) → IsStore (next found) × behind (some (k, socket_id (vref_version found) i)) found
NamesAt own none (OnName (StoreOpen o w)) next behind = (w ≡ NO_SOCKET) × ((found : ℕ) → behind none found)
NamesAt own none call next behind = (found : ℕ) → behind none found
NamesAt own (some x) (OnName (StoreOpen o w)) next behind = own x.0 o × (w ≡ x.1 + 1) × ((found : ℕ) → behind none found)
NamesAt own (some x) call next behind = ⊥

abbrev pub NamesBehind : (ℕ → ℕ → Type 0) → Option (ℕ × ℕ) → Program → Type 0
NamesBehind own s program = AtCalls (Unit {0}) (NamesAt own) every_exit s program

abbrev pub Names : (ℕ → ℕ → Type 0) → Program → Type 0
Names own program = NamesBehind own none program

-- what a program that has just made a life stores next
record StoresNew (own : ℕ → ℕ → Type 0) (x : ℕ × ℕ) (program : Program) : Type 0 where
  operation : ℕ
  after : ℕ → Program
  mine : own x.0 operation
  stores : program ≡ Do (OnName (StoreOpen operation (x.1 + 1))) after
  goes : (found : ℕ) → Names own (after found)

stores_new : (own : ℕ → ℕ → Type 0) (x : ℕ × ℕ) (program : Program) → IsStore program × NamesBehind own (some x) program → StoresNew own x program
stores_new own x (Do (OnName (StoreOpen o w)) next) n = let m = n.1 in record { operation = o; after = next; mine = m.0; stores = ap (λ y. Do (OnName (StoreOpen o y)) next) m.1; goes = m.2 }
stores_new own x other n = absurd n.0

module _ (own : ℕ → ℕ → Type 0) where
  abbrev G : Program → Type 0
  G = Names own

  names_passes : Passes (Names own)
  names_passes = at_calls_passes (Unit {0}) (NamesAt own) every_exit none (λ call next s b l r. plain call next s b r) (λ head l next r. r)
    where
      plain : (call : TableStep) (next : ℕ → Program) → stores call ≡ none → bears call ≡ none → ((found : ℕ) → Names own (next found)) → Names own (Do call next)
      plain (OnSlot (CreateLife i k)) next s b r = absurd (some-ne-none i b)
      plain (OnName (StoreOpen o w)) next s b r = absurd (some-ne-none (o, w) s)
      plain call next s b r = r

  names_opens : PassesOpens (Names own)
  names_opens = record { load = λ o next r. r; wait = λ o next r. r }

  names_follow : Follows (Names own)
  names_follow = at_calls_follow (Unit {0}) (NamesAt own) every_exit none (λ head next r. r)

  names_open : (more i o name k : ℕ) (next : Program) → own k o → G next → G (open_from more i o name k next)
  names_open zero i o name k next mine after = λ _ _ _. (refl, λ _. after)
  names_open (suc more) i o name k next mine after = λ found. either_way (found == 0) (make_socket o name k i next) (open_from more (i + 1) o name k next) (Names own)
      (λ _ _ _ word. (tt, (mine, refl, λ _ _. after))) (names_open more (i + 1) o name k next mine after)

  names_client : (sizes : Sizes) (ts : List Task) (held : List HeldLife) → AllByRecursion (λ (t : Task). OwnsLink own t.number t.op) ts → G (client_from sizes held ts)
  names_client sizes [] held mine = through_back G names_passes.sends.plain.words tt held
  names_client sizes (t ∷ ts) held mine = let after : (h : List HeldLife) → G (client_from sizes h ts) = λ h. names_client sizes ts h mine.1 in
      through_any G names_passes sizes held t.number (λ h. client_from sizes h ts) t.op after
      (λ name k e. names_open sizes.slots 0 t.number name k (client_from sizes held ts) (subst (OwnsLink own t.number) e mine.0) (after held))

  pub names_others : (n : ℕ) (calls os : List ℕ) (k i : ℕ) (x : Program) → get_elem? (std.replicate n Rest ++ readers_from calls k os) i ≡ some x → G x
  names_others = through_others G names_passes names_opens tt

  names_ending : (os : List ℕ) → G (ending_of os)
  names_ending os = through_ending G names_passes.sends.plain.words (through_any_failed G names_passes 1014) names_opens tt os

-- ## All seats

-- the seat has just made the life that it stores next
pub record IsNew (own : ℕ → ℕ → Type 0) (p : Plan) (c : Core) (vs : List View) (program : Program) : Type 0 where
  pub operation : ℕ
  pub link : ℕ
  pub slot : ℕ
  pub version : ℕ
  pub after : ℕ → Program
  pub inside : slot < p.slots
  pub mine : own link operation
  pub stores : program ≡ Do (OnName (StoreOpen operation (socket_id version slot + 1))) after
  pub given : IsGiven c vs slot version link
  pub goes : (x : ℕ) → Names own (after x)

pub record IsOfLink (own : ℕ → ℕ → Type 0) (p : Plan) (c : Core) (vs : List View) (o : ℕ) : Type 0 where
  pub link : ℕ
  pub slot : ℕ
  pub version : ℕ
  pub inside : slot < p.slots
  pub mine : own link o
  pub word : get_or c.words (open_index p o) 0 ≡ socket_id version slot + 1
  pub given : IsGiven c vs slot version link

pub record Named (p : Plan) (own : ℕ → ℕ → Type 0) (c : Core) (vs : List View) : Type 0 where
  pub programs : (j : ℕ) (seat : SeatState) → get_elem? c.seats j ≡ some seat → Names own seat.program ⊎ IsNew own p c vs seat.program
  pub words : (o : ℕ) → o < p.operations → get_or c.words (open_index p o) 0 ≢ 0 → get_or c.words (open_index p o) 0 ≢ NO_SOCKET → IsOfLink own p c vs o

first_stores : (program : Program) (o w : ℕ) (after : ℕ → Program) → program ≡ Do (OnName (StoreOpen o w)) after → first_step program ≡ Do (OnName (StoreOpen o w)) after
first_stores program o w after e = ap first_step e ∙ refl

same_store : (o w o' w' : ℕ) (f g : ℕ → Program) → Do (OnName (StoreOpen o w)) f ≡ Do (OnName (StoreOpen o' w')) g → (o ≡ o') × (w ≡ w') × (f ≡ g)
same_store o w o' w' f g e = (cc, cc, cc)

module _ (p : Plan) (own : ℕ → ℕ → Type 0) (c : Core) (vs : List View) (i : ℕ) (sized : length c.words ≡ all_words p) (n : Named p own c vs) (seat : SeatState) (v : View) (at_seat : get_elem? c.seats i ≡ some seat) (at_view : get_elem? vs i ≡ some v) where
  module _ (call : TableStep) (next : ℕ → Program) (is : first_step seat.program ≡ Do call next) (may : May p v call) where
    abbrev after : Core
    after = stepped p i seat call next c

    abbrev found : ℕ
    found = found_at c.words (word_of p call)

    abbrev w : View
    w = row p call (found_at c.words (word_of p call)) (hand_at p c.words c.homes call) v

    abbrev seat' : SeatState
    seat' = record { program = next_step (resolved (waiting_at c.calls.waiting i) (next (found_at c.words (word_of p call)))); hand = hand_after p call c.homes seat.hand }

    given_stays : (j h k : ℕ) → IsGiven c vs j h k → IsGiven after (set vs i w) j h k
    given_stays j h k given = let moved = counts (state c vs) i v w at_view (words_after c.words (word_of p call) (word_after call (found_at c.words (word_of p call)))) (homes_after p call seat.hand c.homes) (is_linked h k) j in
        omega (arith, given, moved, links_stay p v (found_at c.words (word_of p call)) (hand_at p c.words c.homes call) h k call j)

    new_stays : (program : Program) → IsNew own p c vs program → IsNew own p after (set vs i w) program
    new_stays program x = record { operation = x.operation; link = x.link; slot = x.slot; version = x.version; after = x.after; inside = x.inside; mine = x.mine; stores = x.stores; given = given_stays x.slot x.version x.link x.given; goes = x.goes }

    either_stays : (program : Program) → Names own program ⊎ IsNew own p c vs program → Names own program ⊎ IsNew own p after (set vs i w) program
    either_stays program (inl x) = inl x
    either_stays program (inr x) = inr (new_stays program x)

    -- where the seat isn't about to store a new life, its next step is one of such a program
    mine : Names own seat.program → Names own (Do call next)
    mine x = subst (Names own) is (through_first (Names own) (names_passes own) (names_opens own) (names_follow own) seat.program x)

    is_new : IsNew own p c vs seat.program → (x : IsNew own p c vs seat.program) × (call ≡ OnName (StoreOpen x.operation (socket_id x.version x.slot + 1))) × (next ≡ x.after)
    is_new x = let e : Do call next ≡ Do (OnName (StoreOpen x.operation (socket_id x.version x.slot + 1))) x.after = sym is ∙ first_stores seat.program x.operation (socket_id x.version x.slot + 1) x.after x.stores in (x, cc, cc)

    with_next : Names own (next found) ⊎ IsNew own p after (set vs i w) seat'.program → ((o : ℕ) → o < p.operations → get_or after.words (open_index p o) 0 ≢ 0 → get_or after.words (open_index p o) 0 ≢ NO_SOCKET → IsOfLink own p after (set vs i w) o)
        → Named p own after (set vs i w)
    with_next goes words = record {
      programs = λ j s e. ⊎_elim
          (λ a. subst (λ (x : SeatState). Names own x.program ⊎ IsNew own p after (set vs i w) x.program) a.1
          (⊎_elim (λ g. inl (through_next (Names own) (names_passes own) (names_follow own) (waiting_at c.calls.waiting i) (next found) g)) (λ x. inr x) goes))
          (λ a. either_stays s.program (n.programs j s a.1)) (at_set c.seats i j seat' s e);
      words = words;
    }

    -- a step that stores no word of an `open`
    old_words : stores call ≡ none → (o : ℕ) → o < p.operations → get_or after.words (open_index p o) 0 ≢ 0 → get_or after.words (open_index p o) 0 ≢ NO_SOCKET → IsOfLink own p after (set vs i w) o
    old_words none_ o inside some_ socket = let same = opens_same p c.words v o inside call may none_ in let x = n.words o inside (λ z. some_ (same ∙ z)) (λ z. socket (same ∙ z)) in
        record { link = x.link; slot = x.slot; version = x.version; inside = x.inside; mine = x.mine; word = same ∙ x.word; given = given_stays x.slot x.version x.link x.given }

    not_new : stores call ≡ none → Names own seat.program ⊎ IsNew own p c vs seat.program → Names own seat.program
    not_new none_ (inl x) = x
    not_new none_ (inr x) = let y = is_new x in absurd (some-ne-none (y.0.operation, socket_id y.0.version y.0.slot + 1) (sym (ap stores y.1) ∙ none_))

    pub plain_step : stores call ≡ none → bears call ≡ none → Named p own after (set vs i w)
    plain_step none_ no_birth = with_next (inl (behind call next none_ no_birth (mine (not_new none_ (n.programs i seat at_seat))) found)) (old_words none_)
      where
        behind : (call : TableStep) (next : ℕ → Program) → stores call ≡ none → bears call ≡ none → Names own (Do call next) → (found : ℕ) → Names own (next found)
        behind (OnSlot (CreateLife a b)) next s e r n = absurd (some-ne-none a e)
        behind (OnName (StoreOpen o x)) next s e r n = absurd (some-ne-none (o, x) s)
        behind call next s e r n = r n

    pub birth_step : (a k : ℕ) → call ≡ OnSlot (CreateLife a k) → Named p own after (set vs i w)
    birth_step a k made = let g = stores_new own (k, socket_id (vref_version found) a) (next found) (subst (λ x. Names own (Do x next)) made (mine (not_new (ap stores made) (n.programs i seat at_seat))) found) in
        with_next (inr record {
          operation = g.operation;
          link = k;
          slot = a;
          version = vref_version found;
          after = g.after;
          inside = (subst (May p v) made may).0;
          mine = g.mine;
          stores = ap (λ x. next_step (resolved (waiting_at c.calls.waiting i) x)) g.stores;
          given = born;
          goes = g.goes;
        }) (old_words (ap stores made))
      where
        -- the new life's link is noted
        noted : 0 < marks_of (is_linked (vref_version found) k) a w
        noted = subst (λ (x : TableStep). 0 < marks_of (is_linked (vref_version found) k) a (row p x found (hand_at p c.words c.homes call) v)) (sym made)
            (let h : ℕ = vref_version found in let left = without_at a (is_stage 3 k) v.marks in
            omega (
              arith,
              ap (total (is_linked h k)) (about-here a (Known h) (at a (Born h) ∷ at a (Linked h k) ∷ left)),
              ap (total (is_linked h k)) (about-here a (Born h) (at a (Linked h k) ∷ left)),
              ap (total (is_linked h k)) (about-here a (Linked h k) left),
              pair-same h k,
            ))

        born : IsGiven after (set vs i w) a (vref_version found) k
        born = let moved = counts (state c vs) i v w at_view (words_after c.words (word_of p call) (word_after call (found_at c.words (word_of p call)))) (homes_after p call seat.hand c.homes) (is_linked (vref_version found) k) a in
            omega (arith, noted, moved, own_count (state c vs) i v at_view (is_linked (vref_version found) k) a)

    pub store_step : (o x : ℕ) → call ≡ OnName (StoreOpen o x) → Named p own after (set vs i w)
    store_step o x made = ⊎_elim
        (λ g. let r = subst (λ y. Names own (Do y next)) made (mine g) in with_next (inl (r.1 found))
        (λ m inside some_ socket. dite (ℕ_discrete m o) (λ e. absurd (socket (ap (λ y. get_or after.words (open_index p y) 0) e ∙ here ∙ r.0))) (λ far. other m inside far some_ socket)))
        (λ g. let y = is_new g in let e : OnName (StoreOpen o x) ≡ OnName (StoreOpen y.0.operation (socket_id y.0.version y.0.slot + 1)) = sym made ∙ y.1 in let same : o ≡ y.0.operation = cc in let word : x ≡ socket_id y.0.version y.0.slot + 1 = cc in
        with_next (inl (subst (λ (f : ℕ → Program). Names own (f found)) (sym y.2) (y.0.goes found)))
        (λ m inside some_ socket. dite (ℕ_discrete m o)
        (λ is_o. record { link = y.0.link; slot = y.0.slot; version = y.0.version; inside = y.0.inside; mine = subst (own y.0.link) (sym same ∙ sym is_o) y.0.mine; word = ap (λ z. get_or after.words (open_index p z) 0) is_o ∙ here ∙ word; given = given_stays y.0.slot y.0.version y.0.link y.0.given })
        (λ far. other m inside far some_ socket)))
        (n.programs i seat at_seat)
      where
        fits : o < p.operations
        fits = (subst (May p v) made may).0

        here : get_or after.words (open_index p o) 0 ≡ x
        here = subst (λ z. get_or (words_after c.words (word_of p z) (word_after z (found_at c.words (word_of p z)))) (open_index p o) 0 ≡ x) (sym made) (get_or-set_same c.words (open_index p o) x 0 (let f = fits in omega (arith, f, sized)))

        other : (m : ℕ) → m < p.operations → m ≢ o → get_or after.words (open_index p m) 0 ≢ 0 → get_or after.words (open_index p m) 0 ≢ NO_SOCKET → IsOfLink own p after (set vs i w) m
        other m inside far some_ socket = let same : get_or after.words (open_index p m) 0 ≡ get_or c.words (open_index p m) 0 =
            subst (λ z. get_or (words_after c.words (word_of p z) (word_after z (found_at c.words (word_of p z)))) (open_index p m) 0 ≡ get_or c.words (open_index p m) 0) (sym made)
            (get_or-set_other c.words (open_index p o) (open_index p m) x 0 (λ e. far (omega (arith, e)))) in
            let y = n.words m inside (λ z. some_ (same ∙ z)) (λ z. socket (same ∙ z)) in
            record { link = y.link; slot = y.slot; version = y.version; inside = y.inside; mine = y.mine; word = same ∙ y.word; given = given_stays y.slot y.version y.link y.given }

  -- a step that is none on a word of the sockets
  module _ (program : Program) (rights : List Right) (hand : List Home) (hs : List (Option Home)) (a : Calls) (comes : ComesNext p (first_step seat.program) program) where
    abbrev still : Core
    still = with_seat i program hand c.words hs (record c { calls = a })

    still_given : (j h k : ℕ) → IsGiven c vs j h k → IsGiven still (set vs i (with_rights v rights)) j h k
    still_given j h k given = let moved = counts (state c vs) i v (with_rights v rights) at_view c.words hs (is_linked h k) j in omega (arith, given, moved)

    still_new : (x : Program) → Names own x ⊎ IsNew own p c vs x → Names own x ⊎ IsNew own p still (set vs i (with_rights v rights)) x
    still_new x (inl y) = inl y
    still_new x (inr y) = inr record { operation = y.operation; link = y.link; slot = y.slot; version = y.version; after = y.after; inside = y.inside; mine = y.mine; stores = y.stores; given = still_given y.slot y.version y.link y.given; goes = y.goes }

    no_store : Names own seat.program ⊎ IsNew own p c vs seat.program → Names own seat.program
    no_store (inl x) = x
    no_store (inr x) = absurd (subst (λ f. ComesNext p f program) (first_stores seat.program x.operation (socket_id x.version x.slot + 1) x.after x.stores) comes)

    pub named_still : Named p own still (set vs i (with_rights v rights))
    named_still = record {
      programs = λ j s e. ⊎_elim
          (λ y. inl (subst (λ (x : SeatState). Names own x.program) y.1 (through_next (Names own) (names_passes own) (names_follow own) (waiting_at a.waiting i) program
          (comes_follows (Names own) (names_follow own) p (first_step seat.program) program comes (through_first (Names own) (names_passes own) (names_opens own) (names_follow own) seat.program (no_store (n.programs i seat at_seat)))))))
          (λ y. still_new s.program (n.programs j s y.1)) (at_set c.seats i j (record { program = next_step (resolved (waiting_at a.waiting i) program); hand = hand }) s e);
      words = λ o inside some_ socket. let x = n.words o inside some_ socket in
          record { link = x.link; slot = x.slot; version = x.version; inside = x.inside; mine = x.mine; word = x.word; given = still_given x.slot x.version x.link x.given };
    }

named_ticks : (p : Plan) (own : ℕ → ℕ → Type 0) (c : Core) (vs : List View) (m : Moment) → Sound p c vs → IsAnswered c m → IsFitting p c m → Named p own c vs → Named p own (ticked p c m) (views_after p c vs m)
named_ticks p own c vs m sound answered fitting n = tick_keeps_marks p c vs m sound answered fitting (Named p own) n
    (λ seat v call next at_seat at_view is goes. by_call seat v call next at_seat at_view is goes.0)
    (λ seat v program rights hand hs a at_seat at_view comes. named_still p own c vs m.seat sound.lawful.references.sized n seat v at_seat at_view program rights hand hs a comes)
  where
    by_call : (seat : SeatState) (v : View) (call : TableStep) (next : ℕ → Program) → get_elem? c.seats m.seat ≡ some seat → get_elem? vs m.seat ≡ some v → first_step seat.program ≡ Do call next → May p v call
        → Named p own (stepped p m.seat seat call next c) (set vs m.seat (row p call (found_at c.words (word_of p call)) (hand_at p c.words c.homes call) v))
    by_call seat v (OnSlot (CreateLife a k)) next at_seat at_view is may = birth_step p own c vs m.seat sound.lawful.references.sized n seat v at_seat at_view (OnSlot (CreateLife a k)) next is may a k refl
    by_call seat v (OnName (StoreOpen o x)) next at_seat at_view is may = store_step p own c vs m.seat sound.lawful.references.sized n seat v at_seat at_view (OnName (StoreOpen o x)) next is may o x refl
    by_call seat v call next at_seat at_view is may = plain_step p own c vs m.seat sound.lawful.references.sized n seat v at_seat at_view call next is may refl refl

-- over every run
pub run_named : (p : Plan) → RetriesGo p → (own : ℕ → ℕ → Type 0) (c : Core) (vs : List View) (moments : List Moment) → Sound p c vs → AreAnswered p c moments → AreFitting p c moments → Named p own c vs → Named p own (run p c moments) (views_along p c vs moments)
run_named p go own c vs [] sound answered fitting n = n
run_named p go own c vs (m ∷ ms) sound answered fitting n = run_named p go own (ticked p c m) (views_after p c vs m) ms (sound_ticks p go c vs m sound answered.0 fitting.0) answered.1 fitting.1 (named_ticks p own c vs m sound answered.0 fitting.0 n)

-- ## The beginning, and the ending

-- no word of an `open` is stored before the first step
pub beginning_named : (p : Plan) (own : ℕ → ℕ → Type 0) (q : IdPlan) (clients : List (List Task)) (others : List Program) → AllByRecursion (AllByRecursion (λ (t : Task). OwnsLink own t.number t.op)) clients → ((k : ℕ) (x : Program) → get_elem? others k ≡ some x → Names own x)
    → (vs : List View) → ((o : ℕ) → o < p.operations → get_or (beginning p q (programs (sizes_of p q) clients ++ others)).words (open_index p o) 0 ≡ 0) → Named p own (beginning p q (programs (sizes_of p q) clients ++ others)) vs
beginning_named p own q clients others mine still vs unstored = record {
  programs = λ j seat e. let a = mapped (λ (program : Program). record { program = next_step (resolved [] program); hand = [] }) (programs (sizes_of p q) clients ++ others) j seat e in
      inl (subst (λ (s : SeatState). Names own s.program) a.2 (through_next (Names own) (names_passes own) (names_follow own) [] a.0 (⊎_elim
      (λ first. let b = mapped (client_from (sizes_of p q) []) clients j a.0 first in subst (Names own) b.2 (names_client own (sizes_of p q) b.0 [] (all_at (AllByRecursion (λ (t : Task). OwnsLink own t.number t.op)) clients j b.0 mine b.1)))
      (λ other. still other.0 a.0 other.1)
      (appended (programs (sizes_of p q) clients) others j a.0 a.1))));
  words = λ o inside some_ socket. absurd (some_ (unstored o inside));
}

-- seat 0 begins the ending
pub named_ending : (p : Plan) (own : ℕ → ℕ → Type 0) (os : List ℕ) (c : Core) (vs : List View) → Named p own c vs → Named p own (with_seat 0 (ending_of os) [] c.words c.homes c) vs
named_ending p own os c vs n = record {
  programs = λ j s e. ⊎_elim
      (λ a. inl (subst (λ (x : SeatState). Names own x.program) a.1 (through_next (Names own) (names_passes own) (names_follow own) (waiting_at c.calls.waiting 0) (ending_of os) (names_ending own os))))
      (λ a. stays s.program (n.programs j s a.1)) (at_set c.seats 0 j (record { program = next_step (resolved (waiting_at c.calls.waiting 0) (ending_of os)); hand = [] }) s e);
  words = λ o inside some_ socket. let x = n.words o inside some_ socket in record { link = x.link; slot = x.slot; version = x.version; inside = x.inside; mine = x.mine; word = x.word; given = x.given };
}
  where
    stays : (x : Program) → Names own x ⊎ IsNew own p c vs x → Names own x ⊎ IsNew own p (with_seat 0 (ending_of os) [] c.words c.homes c) vs x
    stays x (inl y) = inl y
    stays x (inr y) = inr record { operation = y.operation; link = y.link; slot = y.slot; version = y.version; after = y.after; inside = y.inside; mine = y.mine; stores = y.stores; given = y.given; goes = y.goes }

pub named_on : (p : Plan) (own : ℕ → ℕ → Type 0) (c : Core) (vs : List View) → Named p own c vs → Named p own (is_ending c) vs
named_on p own c vs n = record {
  programs = λ j s e. stays s.program (n.programs j s e);
  words = λ o inside some_ socket. let x = n.words o inside some_ socket in record { link = x.link; slot = x.slot; version = x.version; inside = x.inside; mine = x.mine; word = x.word; given = x.given };
}
  where
    stays : (x : Program) → Names own x ⊎ IsNew own p c vs x → Names own x ⊎ IsNew own p (is_ending c) vs x
    stays x (inl y) = inl y
    stays x (inr y) = inr record { operation = y.operation; link = y.link; slot = y.slot; version = y.version; after = y.after; inside = y.inside; mine = y.mine; stores = y.stores; given = y.given; goes = y.goes }
