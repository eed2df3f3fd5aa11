-- One step of a client is a tick of it.
use Rattle.std.proofs.Common.{◌≡◌, ◌≢◌, refl, ℕ, ◌<◌, ◌≤◌, eqb, eq-eqb, ne_eqb, cond, Bool, true, false, List, [], ◌∷◌, ◌++◌, map, length, slice_set, slice_index_or, Option, Some, None, IfSome, ⊎_elim, ap, sym, ◌∙◌, arith, subst}
use Rattle.std.proofs.lemmas.List.{append-nil, get_or-set_same, get_or-set_other}
use Rattle.std.proofs.lemmas.Bool.{true≢false}
use Rattle.std.specs.Io.KnownBytes.{append_known}
use Rattle.atomic_table.proofs.Lists.{at_set, at_map, at_longer}
use mathlib.Core.Option as core
use lib.ListN.{get_elem?}
use Rattle.sock_words.specs.declared.plain.Plan.{Plan}
use Rattle.sock_io.specs.declared.link.Put.{Put}
use Rattle.sock_io.specs.declared.link.Put.TheVariants as puts
use Rattle.sock_io.specs.declared.link.Ready.{Ready}
use Rattle.sock_io.specs.LinkHalves.{OutState, InState, PutStep, ReadyStep, taken_of}
use Rattle.sock_model.specs.declared.home.Home.{Home}
use Rattle.sock_model.specs.declared.home.Home.TheVariants.{Link, Message}
use Rattle.sock_model.specs.ChainLawReads.{letter_of, took_of, as_link, shown, message, link_home}
use Rattle.seat_programs.specs.Asides as asides
use Rattle.seat_programs.specs.TableSteps as calls
use Rattle.seat_programs.specs.Programs.{Program}
use Rattle.seat_programs.specs.Cores.{Calls, Core, SeatState, found_at, homes_after, hand_after, first_of, others_of, link_place, with_seat}
use Rattle.seat_programs.specs.StepTables.{word_of}
use Rattle.seat_programs.specs.Ticks.{Answer, Unasked, OfPut, OfReady, FitsPut, IsAnswer, IsAnswered, fed, with_places, onto_first, tick_with, ticked}
use Rattle.call_points.specs.AsideCodeSteps.{after_word}
use Rattle.call_points.specs.AsideCodeSteps as aside_steps
use Rattle.call_slots.specs.CallSlotState.{SlotState, calls_with}
use Rattle.message_parts.specs.Parcels.{parcel_of}
use Rattle.seat_states.specs.declared.point.Step.{Step}
use Rattle.seat_states.specs.declared.point.Step.TheVariants as firsts
use Rattle.seat_states.specs.declared.point.Author.{Author}
use Rattle.seat_states.specs.declared.table_step.TableStep.{TableStep}
use Rattle.seat_states.specs.declared.table_step.TableStep.TheVariants as steps
use Rattle.seat_states.specs.ProgramAtPoint.{heading_by, after_link, after_home, after_put, after_ready}
use Rattle.seat_states.specs.ProgramStepsOfMachine.{First, OfTable, OfAside, OfMessage, OfLink, OfHome, step_of, step_as, first_in}
use Rattle.seat_states.specs.ProgramStepsOfMachine as kinds
use Rattle.machine_model.proofs.TableRoom.{IsCall}
use Rattle.seat_states.proofs.StepFacts as facts
use Rattle.client_seats.specs.ClientSeatState.{SeatData, around, seat_program, bytes_of, parts_of}
use Rattle.machine_model.specs.declared.home_message.HomeMessage.{HomeMessage}
use Rattle.machine_model.specs.MachineLinks.{LinksData, Taken, Given, Agrees, AgreesGave, SoFar, IsPaced, holder_of, is_done, link_with, homes_of, hand_of, letter_home}
use Rattle.machine_model.specs.Machines.{MachineState, READERS, table_of, machine_sizes, state_of, waiting_of, given_by, core_with, IsSized}
use Rattle.machine_model.specs.MachineSteps.{OutsAfter, Goes, TableStepMade, AsideMade, MessageTaken, LinkTaken, LinkPut, LinkAsked, MadeFirst, holders_after}
use Rattle.machine_rules.proofs.HandsAndHomes.{HasNone, HasOnly, lies_home, hand_only, home_at, letters_set}
use Rattle.machine_rules.proofs.LinkChanges.{Changed, take_changes, give_changes, out_changes, none_changes}
use Rattle.machine_rules.proofs.Seatings.{client_set, calls_by, seat_at}
use Rattle.machine_model.proofs.FirstSteps.{word_tick, aside_tick, message_tick, link_tick, home_tick, put_tick, ready_tick, bare_message, bare_link, bare_put, head_home, head_asks, AnswersFirst, answers_first, paced_first}
use Rattle.corr_core.proofs.NoteSums.{at_length}

-- ## What is asked of a step, and what it makes

-- who takes a link finds it at home, and has none in hand; who ends it, puts it home or asks it has it in hand, and no other
abbrev pub MayTake : Plan → LinksData → ℕ → ℕ → Type 0
MayTake p l i k = (k < p.links) × (holder_of l k ≡ None) × HasNone l i

abbrev pub MayAsk : Plan → LinksData → ℕ → ℕ → Type 0
MayAsk p l i k = (k < p.links) × HasOnly l i k

abbrev pub MayCall : Plan → LinksData → ℕ → calls.TableStep → Type 0
MayCall p l i (calls.OnLink (calls.TakeLink k)) = MayTake p l i k
MayCall p l i (calls.OnLink (calls.FinishLink k)) = MayAsk p l i k
MayCall p l i (calls.OnLink (calls.PutLink k)) = MayAsk p l i k
MayCall p l i (calls.OnMessage (calls.PutMessage q heading bytes)) = q < p.requests
MayCall p l i other = Unit {0}

abbrev pub MayMake : Plan → LinksData → ℕ → First → Type 0
MayMake p l i (OfTable call) = MayCall p l i call
MayMake p l i (OfAside step) = Unit {0}
MayMake p l i (OfMessage q) = Unit {0}
MayMake p l i (OfLink k) = MayTake p l i k
MayMake p l i (OfHome k n) = MayAsk p l i k
MayMake p l i (kinds.OfPut k asked bytes) = MayAsk p l i k
MayMake p l i (kinds.OfReady k) = MayAsk p l i k

-- a step of seat i, in which its link answered this, over links that had taken and given that: a tick
pub record SteppedWith (old fresh : MachineState) (i : ℕ) (answer : Answer) (took : Taken) (gave : Given) : Type 0 where
  pub so_far : SoFar fresh.links
  pub open so_far use {took as later, gave as later_gave, agrees, agrees_gave}
  pub core : core_with fresh later later_gave ≡ ticked old.plan (core_with old took gave) (record { seat = i; answer = answer })
  pub answered : IsAnswered (core_with old took gave) (record { seat = i; answer = answer })

-- ## Which bytes the links took

-- link k took this, and each other what it had
abbrev pub later_at : ℕ → List ℕ → Taken → Taken
later_at k bytes took j = cond (eqb j k) bytes (took j)

pub later_here : (k : ℕ) (bytes : List ℕ) (took : Taken) → later_at k bytes took k ≡ bytes
later_here k bytes took = ap (λ b. cond b bytes (took k)) (eq-eqb k k refl)

pub later_else : (k j : ℕ) (bytes : List ℕ) (took : Taken) → j ≢ k → later_at k bytes took j ≡ took j
later_else k j bytes took differ = ap (λ b. cond b bytes (took j)) (ne_eqb j k differ)

pub agrees_same : (l l' : LinksData) (took : Taken) → l'.outs ≡ l.outs → Agrees l took → Agrees l' took
agrees_same l l' took same agrees k out at = agrees k out (sym (ap (λ (os : List OutState). get_elem? os k) same) ∙ at)

agrees_set : (l l' : LinksData) (took later : Taken) (k : ℕ) (out' : OutState) → l'.outs ≡ slice_set l.outs k out' → IfSome out'.took (λ bytes. bytes ≡ later k) → ((j : ℕ) → j ≢ k → later j ≡ took j) → Agrees l took → Agrees l' later
agrees_set l l' took later k out' outs here other agrees j out at = ⊎_elim
    (λ a. subst (λ n. IfSome out.took (λ bytes. bytes ≡ later n)) (sym a.0) (subst (λ (o : OutState). IfSome o.took (λ bytes. bytes ≡ later k)) a.1 here))
    (λ a. subst (λ t. IfSome out.took (λ bytes. bytes ≡ t)) (sym (other j a.0)) (agrees j out a.1))
    (at_set l.outs k j out' out (sym (ap (λ (os : List OutState). get_elem? os j) outs) ∙ at))

pub known_more : (o : Option (List ℕ)) (t more : List ℕ) → IfSome o (λ bytes. bytes ≡ t) → IfSome (append_known o more) (λ bytes. bytes ≡ t ++ more)
known_more None t more is = tt
known_more (Some bytes) t more is = ap (λ (l : List ℕ). l ++ more) is

pub gives_same : (l l' : LinksData) (gave : Given) → l'.inns ≡ l.inns → AgreesGave l gave → AgreesGave l' gave
gives_same l l' gave same agrees k inn at = agrees k inn (sym (ap (λ (is : List InState). get_elem? is k) same) ∙ at)

-- ## What each kind of step changes

changed_is : {p : Plan} {i : ℕ} {l l' : LinksData} {ls ms : List (Option HomeMessage)} {took later : Taken} {hand hand' : List Home} {hs gs : List (core.Option Home)} → Changed p i l l' ls ms took later hand hs → hand ≡ hand' → hs ≡ gs → Changed p i l l' ls ms took later hand' gs
changed_is c e f = record { own = c.own ∙ e; others = c.others; homes_are = c.homes_are ∙ f }

letters_along : {p : Plan} {i : ℕ} {l l' : LinksData} {ls ms : List (Option HomeMessage)} {took later : Taken} {hand : List Home} {hs : List (core.Option Home)} → ms ≡ ls → Changed p i l l' ls ls took later hand hs → Changed p i l l' ls ms took later hand hs
letters_along {p} {i} {l} {l'} {ls} {ms} {took} {later} {hand} {hs} e c = subst (λ xs. Changed p i l l' ls xs took later hand hs) (sym e) c

pub links_are : (l l' : LinksData) → l'.holders ≡ l.holders → l'.nexts ≡ l.nexts → l'.outs ≡ l.outs → l'.inns ≡ l.inns → l' ≡ l
links_are l l' e f g h = λ k. record { holders = e k; nexts = f k; outs = g k; inns = h k }

-- the message that goes home lies there
abbrev pub LettersBy : calls.TableStep → List (Option HomeMessage) → List (Option HomeMessage) → Type 0
LettersBy (calls.OnMessage (calls.PutMessage q heading bytes)) old fresh = (letter : HomeMessage) × (fresh ≡ slice_set old q (Some letter)) × (letter_home (Some letter) ≡ core.some (Message heading bytes))
LettersBy other old fresh = fresh ≡ old

module _ (p : Plan) (i : ℕ) (letters : List (Option HomeMessage)) (sized : length letters ≡ p.requests) (l l' : LinksData) (took : Taken) (many : length l.holders ≡ p.links) where
  abbrev homes : List (core.Option Home)
  homes = homes_of l p letters took

  abbrev hand : List Home
  hand = hand_of l p.links took i

  done_is : (k : ℕ) (out : OutState) → get_elem? l.outs k ≡ core.some out → is_done l k ≡ out.finished
  done_is k out at = ap (λ o. elim o as (λ o. Bool) [ core.none ↦ false | core.some out ↦ out.finished ]) at

  linked : (k : ℕ) (ts us : List ℕ) (m n : ℕ) (d e : Bool) → ts ≡ us → m ≡ n → d ≡ e → Link k ts m d ≡ Link k us n e
  linked k ts us m n d e f g h = λ x. Link k (f x) (g x) (h x)

  -- a step on a word, or a move without a right
  pub call_changes : (call : calls.TableStep) (letters' : List (Option HomeMessage)) → MayCall p l i call → LettersBy call letters letters' → l'.holders ≡ holders_after i call l.holders → l'.nexts ≡ l.nexts → OutsAfter call l.outs l'.outs → l'.inns ≡ l.inns →
      Changed p i l l' letters letters' took took (hand_after p call homes hand) (homes_after p call hand homes)
  call_changes (calls.OnLink (calls.TakeLink k)) letters' may lettered holders nexts outs inns =
      letters_along lettered (take_changes p i k letters sized l l' took many may.0 may.1 may.2 holders nexts outs)
  call_changes (calls.OnLink (calls.FinishLink k)) letters' may lettered holders nexts outs inns = let out' = outs.1 in let step = outs.4 in
      letters_along lettered (changed_is (out_changes p i k letters sized l l' took many may.0 took outs.0 out' may.1 holders nexts outs.2 outs.3 (λ j differ. refl))
      (ap (λ (x : Home). x ∷ []) (linked k _ _ _ _ _ _ refl refl step.finished) ∙ sym (ap (λ (h : List Home). hand_after p (calls.OnLink (calls.FinishLink k)) homes h) (hand_only l took p.links i k may.0 may.1))) refl)
  call_changes (calls.OnLink (calls.PutLink k)) letters' may lettered holders nexts outs inns =
      letters_along lettered (changed_is (give_changes p i k letters sized l l' took many may.0 may.1 holders (λ j differ. ap (λ (ns : List ℕ). slice_index_or ns j 0) nexts) outs)
      (sym (ap others_of (hand_only l took p.links i k may.0 may.1)))
      (ap (λ x. slice_set homes (link_place p k) x)
      (ap core.some (ap (λ (x : LinksData). link_with x took k) (same_but nexts outs)) ∙ sym (ap first_of (hand_only l took p.links i k may.0 may.1)))))
    where
      same_but : l'.nexts ≡ l.nexts → l'.outs ≡ l.outs → (let x : LinksData = record { holders = l.holders; nexts = l'.nexts; outs = l'.outs; inns = l.inns } in x) ≡ l
      same_but f g = λ k. record { holders = l.holders; nexts = f k; outs = g k; inns = l.inns }
  call_changes (calls.OnMessage (calls.PutMessage q heading bytes)) letters' may lettered holders nexts outs inns =
      none_changes p i l l' letters letters' took _ (links_are l l' holders nexts outs inns)
      (ap (λ ls. homes_of l p ls took) lettered.1 ∙ sym (letters_set p letters sized l took q (Some lettered.0) may) ∙ ap (slice_set homes q) lettered.2)
  call_changes _ letters' may lettered holders nexts outs inns = none_changes p i l l' letters letters' took homes (links_are l l' holders nexts outs inns) (ap (λ ls. homes_of l p ls took) lettered)

  pub call_agrees : (call : calls.TableStep) → OutsAfter call l.outs l'.outs → Agrees l took → Agrees l' took
  call_agrees (calls.OnLink (calls.FinishLink k)) outs agrees = let out' = outs.1 in let step = outs.4 in
      agrees_set l l' took took k out' outs.3 (subst (λ o. IfSome o (λ bytes. bytes ≡ took k)) (sym step.took) (agrees k outs.0 outs.2)) (λ j differ. refl) agrees
  call_agrees _ outs agrees = agrees_same l l' took outs agrees

  -- a link that goes home with its places
  home_changes : (k n : ℕ) → MayAsk p l i k → l'.holders ≡ slice_set l.holders k None → l'.nexts ≡ slice_set l.nexts k n → k < length l.nexts → l'.outs ≡ l.outs →
      Changed p i l l' letters letters took took (others_of hand) (slice_set homes (link_place p k) (first_of (onto_first (with_places n) hand)))
  home_changes k n may holders nexts inside outs = changed_is
      (give_changes p i k letters sized l l' took many may.0 may.1 holders (λ j differ. ap (λ (ns : List ℕ). slice_index_or ns j 0) nexts ∙ get_or-set_other l.nexts k j n 0 differ) outs)
      (sym (ap others_of (hand_only l took p.links i k may.0 may.1)))
      (ap (λ x. slice_set homes (link_place p k) x)
      (ap core.some (linked k _ _ _ _ _ _ refl (ap (λ (ns : List ℕ). slice_index_or ns k 0) nexts ∙ get_or-set_same l.nexts k n 0 inside) (ap (λ (os : List OutState). elim (get_elem? os k) as (λ o. Bool) [ core.none ↦ false | core.some out ↦ out.finished ]) outs))
      ∙ sym (ap (λ (h : List Home). first_of (onto_first (with_places n) h)) (hand_only l took p.links i k may.0 may.1))))

  -- a put
  fed_link : (k m : ℕ) (d : Bool) (bytes : List ℕ) (put : Put) → Link k (took k ++ taken_of bytes put) m d ≡ fed bytes put (Link k (took k) m d)
  fed_link k m d bytes (puts.Took n) = refl
  fed_link k m d bytes puts.Again = linked k _ _ _ _ _ _ (append-nil (took k)) refl refl
  fed_link k m d bytes puts.Failed = linked k _ _ _ _ _ _ (append-nil (took k)) refl refl

  put_changes : (k : ℕ) (bytes : List ℕ) (put : Put) (out out' : OutState) → MayAsk p l i k → l'.holders ≡ l.holders → l'.nexts ≡ l.nexts → get_elem? l.outs k ≡ core.some out → l'.outs ≡ slice_set l.outs k out' → out'.finished ≡ out.finished →
      Changed p i l l' letters letters took (later_at k (took k ++ taken_of bytes put) took) (onto_first (fed bytes put) hand) homes
  put_changes k bytes put out out' may holders nexts at outs finished = let later : Taken = later_at k (took k ++ taken_of bytes put) took in changed_is
      (out_changes p i k letters sized l l' took many may.0 later out out' may.1 holders nexts at outs (λ j differ. later_else k j (took k ++ taken_of bytes put) took differ))
      (ap (λ (x : Home). x ∷ []) (linked k _ _ _ _ _ _ (later_here k (took k ++ taken_of bytes put) took) refl (finished ∙ sym (done_is k out at)) ∙ fed_link k (slice_index_or l.nexts k 0) (is_done l k) bytes put)
      ∙ sym (ap (onto_first (fed bytes put)) (hand_only l took p.links i k may.0 may.1)))
      refl

  ready_changes : (k : ℕ) (out out' : OutState) → MayAsk p l i k → l'.holders ≡ l.holders → l'.nexts ≡ l.nexts → get_elem? l.outs k ≡ core.some out → l'.outs ≡ slice_set l.outs k out' → out'.finished ≡ out.finished →
      Changed p i l l' letters letters took took hand homes
  ready_changes k out out' may holders nexts at outs finished = changed_is
      (out_changes p i k letters sized l l' took many may.0 took out out' may.1 holders nexts at outs (λ j differ. refl))
      (ap (λ (x : Home). x ∷ []) (linked k _ _ _ _ _ _ refl refl (finished ∙ sym (done_is k out at))) ∙ sym (hand_only l took p.links i k may.0 may.1))
      refl

-- ## A step

fits_put : (asked : Bool) (bytes : List ℕ) (put : Put) (out out' : OutState) → PutStep out out' bytes put → (asked ≡ true → out.clear ≡ true) → FitsPut asked bytes put
fits_put asked bytes (puts.Took n) out out' step paced = step.count
fits_put true bytes puts.Again out out' step paced = absurd (true≢false (sym (paced refl) ∙ step.again refl))
fits_put false bytes puts.Again out out' step paced = refl
fits_put asked bytes puts.Failed out out' step paced = tt

pub letters_by : (call : TableStep) (old fresh : List (Option HomeMessage)) → fresh ≡ old → LettersBy (step_of call) old fresh
letters_by (steps.Slot step) old fresh same = same
letters_by _ old fresh same = same

-- what stands with a message that went home
same_home : (q : ℕ) (author : Author) (seat : SeatData) (letter : HomeMessage) → letter.author ≡ author → (parcel_of letter.message).bytes ≡ bytes_of seat.message → (parcel_of letter.message).parts ≡ parts_of seat.message →
    letter_home (Some letter) ≡ core.some (Message (heading_by author (parts_of seat.message)) (bytes_of seat.message))
same_home q author seat letter e f g = ap core.some (λ k. Message (heading_by (e k) (g k)) (f k))

module _ (old fresh : MachineState) (i : ℕ) (seat seat' : SeatData) (at : get_elem? old.seats i ≡ core.some seat) (seats : fresh.seats ≡ slice_set old.seats i seat') (readers : fresh.readers ≡ old.readers) (few : length old.seats ≤ READERS) (sized : IsSized (table_of old))
    (paced : IsPaced old.links.outs (seat_program (machine_sizes old) seat)) (took : Taken) (agrees : Agrees old.links took) (gave : Given) (agrees_gave : AgreesGave old.links gave) where
  abbrev program : Program
  program = seat_program (machine_sizes old) seat

  abbrev own : SeatState
  own = state_of old.plan old.links took program i

  abbrev before : Core
  before = core_with old took gave

  own_at : get_elem? before.seats i ≡ core.some own
  own_at = seat_at old took i seat at

  ticks : (answer : Answer) → ticked old.plan before (record { seat = i; answer = answer }) ≡ tick_with old.plan i own before answer program
  ticks answer = ap (λ (o : core.Option SeatState). elim o as (λ x. Core) [ core.none ↦ before | core.some s ↦ tick_with old.plan i s before answer s.program ]) own_at

  answers : (first : First) (answer : Answer) → first_in program ≡ Some first → AnswersFirst first answer → IsAnswered before (record { seat = i; answer = answer })
  answers first answer next fits s there = subst (λ (x : SeatState). IsAnswer x.program answer) (core.some-injective own s (sym own_at ∙ there)) (answers_first program first answer next fits)

  -- where the links took and gave nothing more
  abbrev quietly : fresh.links.outs ≡ old.links.outs → fresh.links.inns ≡ old.links.inns → SoFar fresh.links
  quietly outs inns = record { took = took; gave = gave; agrees = agrees_same old.links fresh.links took outs agrees; agrees_gave = gives_same old.links fresh.links gave inns agrees_gave }

  -- the ids stay
  same_calls : (next : Program) (later : Taken) (hand : List Home) (homes : List (core.Option Home)) (words : List ℕ) → fresh.ids ≡ old.ids →
      with_seat i next hand words homes (record before { calls = calls_by old fresh i seat seat' next took later gave hand homes words at }) ≡ with_seat i next hand words homes before
  same_calls next later hand homes words same = ap (λ (ids : SlotState). with_seat i next hand words homes (record before { calls = calls_with ids (waiting_of old.seats old.readers) (given_by old.plan.links gave) old.ending })) same

  -- the core behind a step that leaves the ids
  moved : (next : Program) (later : Taken) (hand : List Home) (homes : List (core.Option Home)) (words : List ℕ) → Goes (table_of old) (table_of fresh) seat seat' next → fresh.words ≡ words → Changed old.plan i old.links fresh.links old.letters fresh.letters took later hand homes → fresh.ids ≡ old.ids →
      core_with fresh later gave ≡ with_seat i next hand words homes before
  moved next later hand homes words goes words_are changed same = client_set old fresh i seat seat' next took later gave hand homes words at seats readers few goes words_are changed ∙ same_calls next later hand homes words same

  call_core : (call : calls.TableStep) (step : Step) → first_in program ≡ Some (OfTable call) → MayCall old.plan old.links i call → LettersBy call old.letters fresh.letters → TableStepMade (table_of old) (table_of fresh) i seat seat' call step →
      Agrees fresh.links took × (core_with fresh took gave ≡ ticked old.plan before (record { seat = i; answer = Unasked }))
  call_core call step next may lettered w = (
    call_agrees old.plan i old.letters sized.letters_are old.links fresh.links took sized.holders_are call w.outs agrees,
    moved (after_word program (found_at old.words (word_of old.plan call))) took _ _ _ w.goes w.words
        (call_changes old.plan i old.letters sized.letters_are old.links fresh.links took sized.holders_are call fresh.letters may lettered w.holders w.nexts w.outs w.goes.base.inns) w.ids
        ∙ sym (ticks Unasked ∙ word_tick old.plan i own before program Unasked call next),
  )

  call_steps : (call : calls.TableStep) (step : Step) → first_in program ≡ Some (OfTable call) → MayCall old.plan old.links i call → LettersBy call old.letters fresh.letters → TableStepMade (table_of old) (table_of fresh) i seat seat' call step → SteppedWith old fresh i Unasked took gave
  call_steps call step next may lettered w = let core = call_core call step next may lettered w in record {
    so_far = record {
      took = took;
      gave = gave;
      agrees = core.0;
      agrees_gave = gives_same old.links fresh.links gave w.goes.base.inns agrees_gave;
    };
    core = core.1;
    answered = answers (OfTable call) Unasked next tt;
  }

  aside_steps' : (step : asides.Step) → first_in program ≡ Some (OfAside step) → AnswersFirst (OfAside step) Unasked → AsideMade (table_of old) (table_of fresh) i seat seat' step → SteppedWith old fresh i Unasked took gave
  aside_steps' step next fits w = record {
    so_far = quietly (ap (λ (l : LinksData). l.outs) w.links) w.goes.base.inns;
    core = client_set old fresh i seat seat' (w.next w.found) took took gave own.hand before.homes before.words at seats readers few w.goes w.words
        (none_changes old.plan i old.links fresh.links old.letters fresh.letters took before.homes w.links (ap (λ ls. homes_of old.links old.plan ls took) w.letters))
        ∙ ap (λ (a : Calls). with_seat i (w.next w.found) own.hand before.words before.homes (record before { calls = a })) (w.ids.changes (waiting_of old.seats old.readers) (given_by old.plan.links gave) old.ending)
        ∙ sym (ticks Unasked ∙ aside_tick old.plan i own before program Unasked step w.next w.found w.is (w.ids.finds (waiting_of old.seats old.readers) (given_by old.plan.links gave) old.ending core.none));
    answered = answers (OfAside step) Unasked next fits;
  }

  message_steps : (q : ℕ) → first_in program ≡ Some (OfMessage q) → MessageTaken (table_of old) (table_of fresh) i seat seat' q → SteppedWith old fresh i Unasked took gave
  message_steps q next w = record {
    so_far = quietly (ap (λ (l : LinksData). l.outs) w.links) w.goes.base.inns;
    core = moved _ took own.hand _ before.words w.goes w.words
        (none_changes old.plan i old.links fresh.links old.letters fresh.letters took _ w.links
        (ap (λ ls. homes_of old.links old.plan ls took) w.letters ∙ sym (letters_set old.plan old.letters sized.letters_are old.links took q None inside))) w.ids
        ∙ sym (ticks Unasked ∙ message_tick old.plan i own before program Unasked q w.letter.author (parcel_of w.letter.message).parts (parcel_of w.letter.message).bytes next (bare_message (around (machine_sizes old) seat) seat.point (facts.takes_message (around (machine_sizes old) seat) seat.point q next).0) found);
    answered = answers (OfMessage q) Unasked next tt;
  }
    where
      inside : q < old.plan.requests
      inside = let a = at_length old.letters q (Some w.letter) w.at in let b = sized.letters_are in omega (arith, a, b)

      found : message (λ (home : Home). home) before.homes q ≡ core.some (heading_by w.letter.author (parcel_of w.letter.message).parts, (parcel_of w.letter.message).bytes)
      found = ap (λ x. letter_of (shown (λ (home : Home). home) x)) (at_longer (map letter_home old.letters) _ q (letter_home (Some w.letter)) (at_map letter_home old.letters q (Some w.letter) w.at))

  link_steps : (k : ℕ) → first_in program ≡ Some (OfLink k) → MayTake old.plan old.links i k → LinkTaken (table_of old) (table_of fresh) i seat seat' k → SteppedWith old fresh i Unasked took gave
  link_steps k next may w = record {
    so_far = quietly (ap (λ (l : LinksData). l.outs) w.links) w.goes.base.inns;
    core = moved (after_link program (slice_index_or old.links.nexts k 0)) took _ _ _ w.goes w.words
        (letters_along w.letters (take_changes old.plan i k old.letters sized.letters_are old.links fresh.links took sized.holders_are may.0 may.1 may.2
        (ap (λ (l : LinksData). l.holders) w.links) (ap (λ (l : LinksData). l.nexts) w.links) (ap (λ (l : LinksData). l.outs) w.links))) w.ids
        ∙ sym (ticks Unasked ∙ link_tick old.plan i own before program Unasked k (slice_index_or old.links.nexts k 0) (took k) next (bare_link (around (machine_sizes old) seat) seat.point (facts.takes_link (around (machine_sizes old) seat) seat.point k next).0) found);
    answered = answers (OfLink k) Unasked next tt;
  }
    where
      found : link_home (λ (home : Home). home) old.plan before.homes k ≡ core.some (took k, slice_index_or old.links.nexts k 0)
      found = ap (λ x. took_of (as_link (shown (λ (home : Home). home) x))) (home_at old.plan old.letters sized.letters_are old.links took k may.0 ∙ ap core.some (lies_home old.links took k may.1))

  home_steps : (k n : ℕ) → first_in program ≡ Some (OfHome k n) → MayAsk old.plan old.links i k → LinkPut (table_of old) (table_of fresh) i seat seat' k n → SteppedWith old fresh i Unasked took gave
  home_steps k n next may w = record {
    so_far = quietly (ap (λ (l : LinksData). l.outs) w.links) w.goes.base.inns;
    core = moved (after_home program) took _ _ _ w.goes w.words
        (letters_along w.letters (home_changes old.plan i old.letters sized.letters_are old.links fresh.links took sized.holders_are k n may
        (ap (λ (l : LinksData). l.holders) w.links) (ap (λ (l : LinksData). l.nexts) w.links) (let a = may.0 in let b = sized.nexts_are in omega (arith, a, b)) (ap (λ (l : LinksData). l.outs) w.links))) w.ids
        ∙ sym (ticks Unasked ∙ home_tick old.plan i own before program Unasked k n next (head_home (around (machine_sizes old) seat) seat.point (facts.puts_home (around (machine_sizes old) seat) seat.point k n next).0));
    answered = answers (OfHome k n) Unasked next tt;
  }

  put_steps : (k : ℕ) (asked : Bool) (bytes : List ℕ) (put : Put) → first_in program ≡ Some (kinds.OfPut k asked bytes) → MayAsk old.plan old.links i k →
      LinkAsked (table_of old) (table_of fresh) i seat seat' k (after_put program put) (λ out out'. PutStep out out' bytes put) → SteppedWith old fresh i (OfPut put) took gave
  put_steps k asked bytes put next may w = let a = w.asked in let step = a.answered in let bare = bare_put (around (machine_sizes old) seat) seat.point (facts.puts_piece (around (machine_sizes old) seat) seat.point k asked bytes next).0 in record {
    so_far = record {
      took = later_at k (took k ++ taken_of bytes put) took;
      gave = gave;
      agrees = agrees_set old.links fresh.links took (later_at k (took k ++ taken_of bytes put) took) k a.out' a.outs_are
          (subst (λ o. IfSome o (λ bs. bs ≡ later_at k (took k ++ taken_of bytes put) took k)) (sym step.took)
          (subst (λ t. IfSome (append_known a.out.took (taken_of bytes put)) (λ bs. bs ≡ t)) (sym (later_here k (took k ++ taken_of bytes put) took)) (known_more a.out.took (took k) (taken_of bytes put) (agrees k a.out a.at))))
          (λ j differ. later_else k j (took k ++ taken_of bytes put) took differ) agrees;
      agrees_gave = gives_same old.links fresh.links gave w.goes.base.inns agrees_gave;
    };
    core = moved (after_put program put) (later_at k (took k ++ taken_of bytes put) took) _ _ _ w.goes w.words
        (letters_along w.letters (put_changes old.plan i old.letters sized.letters_are old.links fresh.links took sized.holders_are k bytes put a.out a.out' may w.holders w.nexts a.at a.outs_are step.finished)) w.ids
        ∙ sym (ticks (OfPut put) ∙ put_tick old.plan i own before program put k asked bytes next bare);
    answered = answers (kinds.OfPut k asked bytes) (OfPut put) next (put, refl, fits_put asked bytes put a.out a.out' step (λ e. paced_first old.links.outs program k asked bytes next bare paced e a.out a.at));
  }

  ready_steps : (k : ℕ) (ready : Ready) → first_in program ≡ Some (kinds.OfReady k) → MayAsk old.plan old.links i k →
      LinkAsked (table_of old) (table_of fresh) i seat seat' k (after_ready program ready) (λ out out'. ReadyStep out out' ready) → SteppedWith old fresh i (OfReady ready) took gave
  ready_steps k ready next may w = let a = w.asked in let step = a.answered in record {
    so_far = record {
      took = took;
      gave = gave;
      agrees = agrees_set old.links fresh.links took took k a.out' a.outs_are (subst (λ o. IfSome o (λ bs. bs ≡ took k)) (sym step.took) (agrees k a.out a.at)) (λ j differ. refl) agrees;
      agrees_gave = gives_same old.links fresh.links gave w.goes.base.inns agrees_gave;
    };
    core = moved (after_ready program ready) took own.hand before.homes _ w.goes w.words
        (letters_along w.letters (ready_changes old.plan i old.letters sized.letters_are old.links fresh.links took sized.holders_are k a.out a.out' may w.holders w.nexts a.at a.outs_are step.finished)) w.ids
        ∙ sym (ticks (OfReady ready) ∙ ready_tick old.plan i own before program ready k next (head_asks (around (machine_sizes old) seat) seat.point (facts.asks (around (machine_sizes old) seat) seat.point k next).0));
    answered = answers (kinds.OfReady k) (OfReady ready) next (ready, refl);
  }

  along : (answer answer' : Answer) → answer ≡ answer' → SteppedWith old fresh i answer' took gave → SteppedWith old fresh i answer took gave
  along answer answer' e s = subst (λ (a : Answer). SteppedWith old fresh i a took gave) (sym e) s

  -- no client takes bytes of a link
  abbrev TakesNone : asides.Step → Type 0
  TakesNone (asides.TakeBytes k room) = ⊥
  TakesNone other = Unit {0}

  unasked : (step : asides.Step) → TakesNone step → AnswersFirst (OfAside step) Unasked
  unasked (asides.TakeBytes k room) none_ = absurd none_
  unasked _ none_ = tt

  pub steps_by : (step : Step) (answer : Answer) → first_in program ≡ Some (step_as (around (machine_sizes old) seat) step) → MayMake old.plan old.links i (step_as (around (machine_sizes old) seat) step)
      → ((aside : asides.Step) → step_as (around (machine_sizes old) seat) step ≡ OfAside aside → TakesNone aside) → MadeFirst (table_of old) (table_of fresh) i seat seat' step (step_as (around (machine_sizes old) seat) step) answer → SteppedWith old fresh i answer took gave
  steps_by (firsts.Table call) answer next may none_ w = along answer Unasked w.0 (call_steps (step_of call) (firsts.Table call) next may (letters_by call old.letters fresh.letters w.1.letters) w.1)
  steps_by (firsts.Aside step) answer next may none_ w = along answer Unasked w.0 (aside_steps' (aside_steps.step_of _ step) next (unasked (aside_steps.step_of _ step) (none_ (aside_steps.step_of _ step) refl)) w.1)
  steps_by (firsts.PutMessage q author) answer next may none_ w = let l = w.1.letters in along answer Unasked w.0 (call_steps _ (firsts.PutMessage q author) next may (l.letter, l.fresh_are, same_home q author seat l.letter l.author_is l.bytes l.parts) w.1)
  steps_by (firsts.TakeMessage q) answer next may none_ w = along answer Unasked w.0 (message_steps q next w.1)
  steps_by (firsts.TakeHome k) answer next may none_ w = along answer Unasked w.0 (link_steps k next may w.1)
  steps_by (firsts.PutHome k n) answer next may none_ w = along answer Unasked w.0 (home_steps k n next may w.1)
  steps_by (firsts.PutBytes k asked author) answer next may none_ w = along answer (OfPut w.0) w.1 (put_steps k asked _ w.0 next may w.2)
  steps_by (firsts.AskReady k) answer next may none_ w = along answer (OfReady w.0) w.1 (ready_steps k w.0 next may w.2)

  -- a step on a word takes and gives nothing
  pub quiet_by : (step : Step) (answer : Answer) → IsCall (step_as (around (machine_sizes old) seat) step) → first_in program ≡ Some (step_as (around (machine_sizes old) seat) step) → MayMake old.plan old.links i (step_as (around (machine_sizes old) seat) step)
      → MadeFirst (table_of old) (table_of fresh) i seat seat' step (step_as (around (machine_sizes old) seat) step) answer → Agrees fresh.links took × (core_with fresh took gave ≡ ticked old.plan before (record { seat = i; answer = Unasked }))
  quiet_by (firsts.Table call) answer is next may w = call_core (step_of call) (firsts.Table call) next may (letters_by call old.letters fresh.letters w.1.letters) w.1
  quiet_by (firsts.PutMessage q author) answer is next may w = let l = w.1.letters in call_core _ (firsts.PutMessage q author) next may (l.letter, l.fresh_are, same_home q author seat l.letter l.author_is l.bytes l.parts) w.1
  quiet_by _ answer is next may w = absurd is
