-- The next step of a seat of a sound machine fits the tables.
use Rattle.std.proofs.Common.{◌≡◌, refl, ℕ, ◌+◌, ◌<◌, ◌≤◌, false, List, length, map, get_or, Option, Some, None, ap, sym, ◌∙◌, arith, subst}
use Rattle.std.proofs.Props.{props}
use Rattle.std.proofs.Math.Logic.{∥∥₁_elim}
use Rattle.atomic_table.proofs.Lists.{at_map, at_longer}
use Rattle.chain_steps.proofs.TicketLists.{at_some}
use mathlib.Core.Logic.{dite}
use native.Mathlib.Decide.{ℕ_discrete}
use mathlib.Core.Option as core
use lib.ListN.{get_elem?}
use Rattle.sock_words.specs.declared.plain.Plan.{Plan}
use Rattle.sock_message.specs.Asked.{Asked}
use Rattle.sock_io.specs.LinkHalves.{OutState}
use Rattle.seat_programs.specs.TableSteps as calls
use Rattle.seat_programs.specs.Asides as asides
use Rattle.seat_programs.specs.FoundAndChangedAside.{found_in, call_at}
use Rattle.seat_programs.specs.Writings as heads
use Rattle.seat_programs.specs.Programs.{Program, PutBytes, Write}
use Rattle.seat_programs.specs.StepTables.{word_of}
use Rattle.seat_programs.specs.Cores.{found_at}
use Rattle.seat_programs.specs.declared.task.Sizes.{Sizes}
use Rattle.machine_model.specs.program_steps.specs.SoundSeats.{AllowsWord}
use Rattle.id_rule.specs.LawfulIdTable.{call_index}
use Rattle.machine_model.specs.id_runs.specs.HeldIdTokens.{IdView}
use Rattle.machine_model.specs.id_runs.specs.Goes.{FitsSock, IdGoesOn}
use Rattle.machine_model.specs.id_runs.proofs.AsideStepsKeepRule.{call_there}
use Rattle.call_points.specs.declared.aside.Aside.{Aside}
use Rattle.call_points.specs.declared.aside.Aside.TheVariants as code
use Rattle.call_points.specs.AsideCodeSteps as aside_steps
use Rattle.call_slots.specs.CallSlotSteps as slots
use Rattle.call_slots.specs.CallSlotSteps.{word_found}
use Rattle.call_slots.proofs.IdTableFitting.{IsOnWord, fits_prop, may_fits}
use Rattle.seat_states.specs.declared.point.Step.{Step}
use Rattle.seat_states.specs.declared.point.Step.TheVariants as firsts
use Rattle.seat_states.specs.ProgramAtPoint.{Context, MayFindId}
use Rattle.seat_states.specs.ProgramStepsOfMachine.{First, OfTable, OfAside, OfMessage, OfLink, OfHome, step_of, step_as, first_in}
use Rattle.seat_states.specs.ProgramStepsOfMachine as kinds
use Rattle.seat_states.proofs.StepFacts.{FitsSizes, may_find, is_within}
use Rattle.client_seats.specs.ClientSeatState.{SeatData, around, seat_program, asked_or_nothing}
use Rattle.reader_points.specs.declared.point.ReadStep.{ReadStep}
use Rattle.reader_points.specs.declared.point.ReadStep.TheVariants as steps
use Rattle.reader_points.specs.ReaderPoints as reading
use Rattle.reader_points.specs.ReaderCodeSteps as reader_steps
use Rattle.reader_seats.specs.ReaderState.{ReaderData, reader_program}
use Rattle.reader_seats.specs.ReaderState as readers
use Rattle.machine_model.specs.declared.home_message.HomeMessage.{HomeMessage}
use Rattle.machine_model.specs.MachineLinks.{LinksData, IsPaced, letter_home}
use Rattle.machine_model.specs.Machines.{MachineState, READERS, IsMachine, IsSoundMachine, ArePaced, table_of, machine_sizes, state_of, waiting_of, given_by, core_with, IsSized}
use Rattle.machine_model.specs.MachineSteps.{IsOfLinks, NextIs, MayGoOn, StandsAt, FitsSlots, Fits, StepFits, beside}
use Rattle.machine_model.specs.ReadingSteps.{NextReadIs, MayRead, FitsRead, ReadFits}
use Rattle.machine_ticks.proofs.LinksBehindSteps.{AsksUnfinished}
use Rattle.machine_model.proofs.MachineLengths.{is_sized, few_seats, few_slots, few_calls}
use Rattle.machine_model.proofs.PointFacts.{NoTake, finds_beside, takes_none, within_aside, finds_aside, finds_call, within_ids, reads_within, reads_word, reads_aside}
use Rattle.machine_rules.proofs.Seatings.{seat_at, read_at}
use Rattle.machine_rules.proofs.Sounds.{Known, id_view, id_goes, id_may, known_first, finds_word}
use Rattle.machine_rules.proofs.Ticked.{MayCall, MayMake}
use Rattle.sock_words.specs.PackedWords.{id_slot, id_first}

-- ## Facts that have one proof at most

word_prop : (call : calls.TableStep) (found : ℕ) → IsProp (AllowsWord call found)
word_prop (calls.OnSlot (calls.CreateLife i k)) found = hlevel props
word_prop (calls.OnSlot (calls.AddRef id)) found = hlevel props
word_prop (calls.OnSlot (calls.SubRef i)) found = hlevel props
word_prop (calls.OnSlot (calls.Recycle i from)) found = hlevel props
word_prop (calls.OnSlot (calls.LoadLink i w)) found = hlevel props
word_prop (calls.OnName (calls.LoadName n)) found = hlevel props
word_prop (calls.OnSlot (calls.FindLink i h)) found = hlevel props
word_prop (calls.OnChain (calls.ClaimRequest id q)) found = hlevel props
word_prop (calls.OnChain (calls.EmptyHead i last)) found = hlevel props
word_prop (calls.OnChain (calls.FreeRequest q g)) found = hlevel props
word_prop (calls.OnPlace (calls.StorePlace l k n)) found = hlevel props
word_prop (calls.OnPlace (calls.DropPlace l k n)) found = hlevel props
word_prop _ found = hlevel props

links_prop : (links : ℕ) (call : calls.TableStep) → IsProp (IsOfLinks links call)
links_prop links (calls.OnLink (calls.TakeLink k)) = hlevel props
links_prop links (calls.OnLink (calls.FinishLink k)) = hlevel props
links_prop links (calls.OnLink (calls.PutLink k)) = hlevel props
links_prop links _ = hlevel props

sizes_prop : (sizes : Sizes) (call : calls.TableStep) → IsProp (FitsSizes sizes call)
sizes_prop sizes (calls.OnSlot (calls.ClaimSlot i)) = hlevel props
sizes_prop sizes (calls.OnChain (calls.ClaimRequest id q)) = hlevel props
sizes_prop sizes (calls.OnPlace (calls.StorePlace l k n)) = hlevel props
sizes_prop sizes (calls.OnPlace (calls.DropPlace l k n)) = hlevel props
sizes_prop sizes _ = hlevel props

sock_prop : (call : calls.TableStep) (found : ℕ) → IsProp (FitsSock call found)
sock_prop (calls.OnSlot (calls.FindLink i h)) found = hlevel props
sock_prop (calls.OnSlot (calls.LoadCode i h)) found = hlevel props
sock_prop _ found = hlevel props

call_prop : (p : Plan) (l : LinksData) (i : ℕ) (call : calls.TableStep) → IsProp (MayCall p l i call)
call_prop p l i (calls.OnLink (calls.TakeLink k)) = hlevel props
call_prop p l i (calls.OnLink (calls.FinishLink k)) = hlevel props
call_prop p l i (calls.OnLink (calls.PutLink k)) = hlevel props
call_prop p l i (calls.OnMessage (calls.PutMessage q heading bytes)) = hlevel props
call_prop p l i _ = hlevel props

may_prop : (p : Plan) (l : LinksData) (i : ℕ) (first : First) → IsProp (MayMake p l i first)
may_prop p l i (OfTable call) = call_prop p l i call
may_prop p l i _ = hlevel props

unfinished_prop : (l : LinksData) (first : First) → IsProp (AsksUnfinished l first)
unfinished_prop l (kinds.OfPut k asked bytes) = hlevel props
unfinished_prop l (kinds.OfReady k) = hlevel props
unfinished_prop l _ = hlevel props

-- who is paced is so by one proof
pub is_paced_prop : (outs : List OutState) (program : Program) → IsProp (IsPaced outs program)
is_paced_prop outs (Write (heads.Puts h now heading left taken asked) after) = hlevel props
is_paced_prop outs (Write (heads.Waits h now heading left taken) after) = hlevel props
is_paced_prop outs (PutBytes k asked bytes next) = hlevel props
is_paced_prop outs (Write (heads.Empties h) after) = hlevel props
is_paced_prop outs (Write (heads.Reversing h top at after) then_) = hlevel props
is_paced_prop outs _ = hlevel props

pub paced_prop : (sizes : Sizes) (l : LinksData) (seats : List SeatData) → IsProp (ArePaced sizes l seats)
paced_prop sizes l seats = hlevel (props, is_paced_prop)

of_links : (p : Plan) (l : LinksData) (i : ℕ) (call : calls.TableStep) → MayCall p l i call → IsOfLinks p.links call
of_links p l i (calls.OnLink (calls.TakeLink k)) may = may.0
of_links p l i (calls.OnLink (calls.FinishLink k)) may = may.0
of_links p l i (calls.OnLink (calls.PutLink k)) may = may.0
of_links p l i _ may = tt

-- ## A seat of a machine

module _ (m : MachineState) (room : ℕ) (is : IsMachine m room) (enough : m.short ≡ false) where
  sized : IsSized (table_of m)
  sized = is_sized m is.sizes

  few : m.ids.plan.slots ≤ 4096
  few = few_slots m is.sizes

  sound : ∥ IsSoundMachine m ∥₁
  sound = is.sound enough

  few_requests : m.plan.requests ≤ 4096
  few_requests = ∥∥₁_elim sound (hlevel props) (λ s. s.sound.limits.requests)

  module _ (i : ℕ) (program : Program) (own_at : (s : IsSoundMachine m) → get_elem? (core_with m s.took s.gave).seats i ≡ core.some (state_of m.plan m.links s.took program i)) where
    says : (s : IsSoundMachine m) (first : First) → first_in program ≡ Some first → MayMake m.plan m.links i first × Known m.plan (machine_sizes m) m.links (core_with m s.took s.gave) first
    says s first next = known_first m sized s i program (own_at s) first next

    goes_ids : ∥ ((u : IdView) × IdGoesOn m.plan m.ids.plan u program) ∥₁
    goes_ids = ∥∥₁_elim sound (hlevel props) (λ s. ∣ ((id_view m sized s i program (own_at s)).0, id_goes m sized s i program (own_at s)) ∣₁)

    -- what a step may do
    may_first : (first : First) → first_in program ≡ Some first → MayMake m.plan m.links i first
    may_first first next = ∥∥₁_elim sound (may_prop m.plan m.links i first) (λ s. (says s first next).0)

    unfinished_first : (first : First) → first_in program ≡ Some first → AsksUnfinished m.links first
    unfinished_first first next = ∥∥₁_elim sound (unfinished_prop m.links first) (λ s. by_first s first next)
      where
        by_first : (s : IsSoundMachine m) (first : First) → first_in program ≡ Some first → AsksUnfinished m.links first
        by_first s (kinds.OfPut k asked bytes) next = (says s (kinds.OfPut k asked bytes) next).1.1
        by_first s (kinds.OfReady k) next = (says s (kinds.OfReady k) next).1
        by_first s _ next = tt

    -- ### A step on a word

    module _ (call : calls.TableStep) (next : first_in program ≡ Some (OfTable call)) where
      word_there : (x : ℕ) → word_of m.plan call ≡ core.some x → x < length m.words
      word_there = ∥∥₁_elim sound (hlevel props) (λ s. (says s (OfTable call) next).1.0.0)

      word_allowed : AllowsWord call (found_at m.words (word_of m.plan call))
      word_allowed = ∥∥₁_elim sound (word_prop call (found_at m.words (word_of m.plan call))) (λ s. (says s (OfTable call) next).1.0.1)

      word_links : IsOfLinks m.plan.links call
      word_links = ∥∥₁_elim sound (links_prop m.plan.links call) (λ s. of_links m.plan m.links i call (says s (OfTable call) next).0)

      word_sizes : FitsSizes (machine_sizes m) call
      word_sizes = ∥∥₁_elim sound (sizes_prop (machine_sizes m) call) (λ s. (says s (OfTable call) next).1.1)

      word_sock : FitsSock call (found_at m.words (word_of m.plan call))
      word_sock = ∥∥₁_elim sound (sock_prop call (found_at m.words (word_of m.plan call))) (λ s. finds_word m sized s i program (own_at s) call next)

    -- ### A step on the ids

    id_slots : (asked : Asked) (step : Aside) → first_in program ≡ Some (OfAside (aside_steps.step_of asked step)) → FitsSlots (table_of m) step
    id_slots asked step next = by_step step next
      where
        fits : (step : Aside) → IsOnWord step → first_in program ≡ Some (OfAside (aside_steps.step_of asked step)) → slots.StepFits m.ids step
        fits step on next = ∥∥₁_elim sound (fits_prop m.ids step) (λ s. let u = id_view m sized s i program (own_at s) in
            may_fits m.plan m.ids.plan (core_with m s.took s.gave) s.id_views s.ids i u.0 u.1 m.ids (waiting_of m.seats m.readers) (given_by m.plan.links s.gave) m.ending refl asked step on (id_may m sized s i program (own_at s) (aside_steps.step_of asked step) next))

        at_home : (k : ℕ) → first_in program ≡ Some (OfAside (asides.TakeCall k)) → (o : core.Option Asked) → call_at (get_elem? m.ids.homes k) ≡ o → (asked : Asked) × (call_at (get_elem? m.ids.homes k) ≡ core.some asked)
        at_home k next core.none e = absurd (∥∥₁_elim sound (hlevel props) (λ s. let u = id_view m sized s i program (own_at s) in let may = id_may m sized s i program (own_at s) (asides.TakeCall k) next in
            let t = call_there m.plan m.ids.plan (core_with m s.took s.gave).calls s.ids.plan s.id_views s.ids.rule i u.0 u.1 (s.ids.real i u.0 u.1) k may.0 may.1 in
            core.some-ne-none t.0 (sym (ap call_at t.1) ∙ e)))
        at_home k next (core.some asked) e = (asked, e)

        by_step : (step : Aside) → first_in program ≡ Some (OfAside (aside_steps.step_of asked step)) → FitsSlots (table_of m) step
        by_step (code.PutCall k) next = ∥∥₁_elim sound (hlevel props) (λ s. (id_may m sized s i program (own_at s) (asides.PutCall k asked) next).0)
        by_step (code.TakeCall k) next = (∥∥₁_elim sound (hlevel props) (λ s. (id_may m sized s i program (own_at s) (asides.TakeCall k) next).0), at_home k next (call_at (get_elem? m.ids.homes k)) refl)
        by_step (code.TakeBytes k room) next = tt
        by_step other next = fits other tt next

    -- a call's word names an id
    call_found : (o word : ℕ) → first_in program ≡ Some (OfAside (asides.LoadCall o)) → get_or m.ids.words (call_index m.ids.plan o) 0 ≡ word → MayFindId word
    call_found o word next same = (
      dite (ℕ_discrete word 0)
          (λ none_. let z : id_slot word ≡ 0 = ap id_slot none_ in omega (arith, z))
          (λ some_. ∥∥₁_elim sound (hlevel props) (λ s. let inside = may s in let low = subst (λ w. id_slot w < m.ids.plan.slots) same (s.ids.called o inside (λ e. some_ (sym same ∙ e))) in omega (arith, low, few))),
      subst (λ w. id_first w < 67108864) same (is.called enough o (∥∥₁_elim sound (hlevel props) may)),
    )
      where
        may : IsSoundMachine m → o < m.ids.plan.operations
        may s = id_may m sized s i program (own_at s) (asides.LoadCall o) next

    loads_call : (step : asides.Step) (word : ℕ) → first_in program ≡ Some (OfAside step) → found_in step (beside (table_of m)) core.none ≡ word_found step word → (o : ℕ) → step ≡ asides.LoadCall o → MayFindId word
    loads_call step word next found o e = call_found o word (subst (λ (x : asides.Step). first_in program ≡ Some (OfAside x)) e next)
        (core.some-injective _ word (subst (λ (x : asides.Step). found_in x (beside (table_of m)) core.none ≡ word_found x word) e found))

  -- ## A client

  module _ (i : ℕ) (seat : SeatData) (at : get_elem? m.seats i ≡ core.some seat) where
    abbrev client : Program
    client = seat_program (machine_sizes m) seat

    abbrev a : Context
    a = around (machine_sizes m) seat

    client_at : (s : IsSoundMachine m) → get_elem? (core_with m s.took s.gave).seats i ≡ core.some (state_of m.plan m.links s.took client i)
    client_at s = seat_at m s.took i seat at

    lettered : (q : ℕ) → first_in client ≡ Some (OfMessage q) → (o : Option HomeMessage) → get_elem? m.letters q ≡ core.some o → (letter : HomeMessage) × (get_elem? m.letters q ≡ core.some (Some letter))
    lettered q next None e = absurd (∥∥₁_elim sound (hlevel props) (λ s. let h = (says i client client_at s (OfMessage q) next).1.1 in
        core.some-ne-none _ (core.some-injective _ _ (sym h.2 ∙ at_longer (map letter_home m.letters) _ q (letter_home None) (at_map letter_home m.letters q None e)))))
    lettered q next (Some letter) e = (letter, e)

    goes_word : (call : calls.TableStep) → first_in client ≡ Some (OfTable call) → MayGoOn (table_of m) seat (found_at m.words (word_of m.plan call))
    goes_word call next = record {
      within = is_within a seat.point call (machine_sizes m) next few_requests (word_sizes i client client_at call next);
      ids = within_ids m.plan m.ids.plan few a seat.point refl (goes_ids i client client_at);
      word = may_find a seat.point call _ next (word_allowed i client client_at call next);
      beside = finds_beside a seat.point call _ next (word_sock i client client_at call next);
    }

    goes_aside : (step : asides.Step) (word : ℕ) → first_in client ≡ Some (OfAside step) → found_in step (beside (table_of m)) core.none ≡ word_found step word → MayGoOn (table_of m) seat word
    goes_aside step word next found = record {
      within = within_aside a seat.point step (machine_sizes m) next;
      ids = within_ids m.plan m.ids.plan few a seat.point refl (goes_ids i client client_at);
      word = finds_aside a seat.point step word next;
      beside = finds_call a seat.point step word next (loads_call i client client_at step word next found);
    }

    by_step : (step : Step) → first_in client ≡ Some (step_as a step) → Fits (table_of m) seat step
    by_step (firsts.Table call) next = (word_there i client client_at (step_of call) next, word_allowed i client client_at (step_of call) next, word_links i client client_at (step_of call) next, goes_word (step_of call) next)
    by_step (firsts.Aside step) next = (id_slots i client client_at (asked_or_nothing seat.call) step next, λ word found. goes_aside (aside_steps.step_of (asked_or_nothing seat.call) step) word next found)
    by_step (firsts.PutMessage q author) next = let inside : q < m.plan.requests = ∥∥₁_elim sound (hlevel props) (λ s. (says i client client_at s (step_as a (firsts.PutMessage q author)) next).0) in (
      (let b = sized.letters_are in omega (arith, inside, b)),
      ∥∥₁_elim sound (hlevel props) (λ s. (says i client client_at s (step_as a (firsts.PutMessage q author)) next).1.2),
      goes_word _ next,
    )
    by_step (firsts.TakeMessage q) next = let inside : q < m.plan.requests = ∥∥₁_elim sound (hlevel props) (λ s. (says i client client_at s (OfMessage q) next).1.0) in
        let o = at_some m.letters q (let b = sized.letters_are in omega (arith, inside, b)) in lettered q next o.0 o.1
    by_step (firsts.TakeHome k) next = ∥∥₁_elim sound (hlevel props) (λ s. (says i client client_at s (OfLink k) next).0.0)
    by_step (firsts.PutHome k n) next = ∥∥₁_elim sound (hlevel props) (λ s. (says i client client_at s (OfHome k n) next).0.0)
    by_step (firsts.PutBytes k asked author) next = (
      ∥∥₁_elim sound (hlevel props) (λ s. (says i client client_at s (step_as a (firsts.PutBytes k asked author)) next).0.0),
      ∥∥₁_elim sound (hlevel props) (λ s. (says i client client_at s (step_as a (firsts.PutBytes k asked author)) next).1.0),
    )
    by_step (firsts.AskReady k) next = ∥∥₁_elim sound (hlevel props) (λ s. (says i client client_at s (kinds.OfReady k) next).0.0)

    -- the seat is at this step
    next_of : (step : Step) → NextIs m i step → first_in client ≡ Some (step_as a step)
    next_of step n = subst (λ (s : SeatData). first_in (seat_program (machine_sizes m) s) ≡ Some (step_as (around (machine_sizes m) s) step)) (core.some-injective n.seat seat (sym n.at ∙ at)) n.is

    pub client_may : (step : Step) → NextIs m i step → MayMake m.plan m.links i (step_as a step)
    client_may step n = may_first i client client_at (step_as a step) (next_of step n)

    pub client_asks : (step : Step) → NextIs m i step → AsksUnfinished m.links (step_as a step)
    client_asks step n = unfinished_first i client client_at (step_as a step) (next_of step n)

    pub client_takes : (step : Step) → NextIs m i step → (aside : asides.Step) → step_as a step ≡ OfAside aside → NoTake aside
    client_takes step n aside e = takes_none a seat.point aside (next_of step n ∙ ap Some e)

    pub client_slots : (step : Aside) → first_in client ≡ Some (OfAside (aside_steps.step_of (asked_or_nothing seat.call) step)) → FitsSlots (table_of m) step
    client_slots step next = id_slots i client client_at (asked_or_nothing seat.call) step next

    pub client_next : (step : Step) → NextIs m i step → first_in client ≡ Some (step_as a step)
    client_next step n = next_of step n

  -- the next step of a client fits
  pub step_fits : (i : ℕ) (step : Step) → StandsAt m i → NextIs m i step → StepFits m i step
  step_fits i step stands n seat at = (stands seat at, by_step i seat at step (next_of i seat at step n))

  -- ## A reader

  module _ (k : ℕ) (reader : ReaderData) (at : get_elem? m.readers k ≡ core.some reader) where
    abbrev own : Program
    own = reader_program m.calls reader

    reader_at : (s : IsSoundMachine m) → get_elem? (core_with m s.took s.gave).seats (READERS + k) ≡ core.some (state_of m.plan m.links s.took own (READERS + k))
    reader_at s = read_at m s.took k reader (few_seats m is.sizes) at

    reads_on : (found : ℕ) → reading.MayFind reader.point found → MayRead reader found
    reads_on found finds = record { within = reads_within m.plan m.ids.plan few (readers.around m.calls reader) reader.point (goes_ids (READERS + k) own reader_at); word = finds }

    by_read : (step : ReadStep) → first_in own ≡ Some (reader_steps.step_as reader.asked step) → FitsRead (table_of m) reader step
    by_read (steps.Table call) next = (
      word_there (READERS + k) own reader_at (step_of call) next,
      word_allowed (READERS + k) own reader_at (step_of call) next,
      word_links (READERS + k) own reader_at (step_of call) next,
      reads_on _ (reads_word (readers.around m.calls reader) reader.point (step_of call) _ next (word_allowed (READERS + k) own reader_at (step_of call) next)),
    )
    by_read (steps.Aside step) next = (
      id_slots (READERS + k) own reader_at reader.asked step next,
      λ word found. reads_on word (reads_aside (readers.around m.calls reader) reader.point (aside_steps.step_of reader.asked step) word next),
    )

    pub reader_next : (step : ReadStep) → NextReadIs m k step → first_in own ≡ Some (reader_steps.step_as reader.asked step)
    reader_next step n = subst (λ (r : ReaderData). first_in (reader_program m.calls r) ≡ Some (reader_steps.step_as r.asked step)) (core.some-injective n.reader reader (sym n.at ∙ at)) n.is

    pub reader_slots : (step : Aside) → first_in own ≡ Some (OfAside (aside_steps.step_of reader.asked step)) → FitsSlots (table_of m) step
    reader_slots step next = id_slots (READERS + k) own reader_at reader.asked step next

    pub reader_may : (first : First) → first_in own ≡ Some first → MayMake m.plan m.links (READERS + k) first
    reader_may first next = may_first (READERS + k) own reader_at first next

  -- the next step of a reader fits
  pub read_fits : (k : ℕ) (step : ReadStep) → NextReadIs m k step → ReadFits m k step
  read_fits k step n reader at = (few_calls m is.sizes, by_read k reader at step (reader_next k reader at step n))
