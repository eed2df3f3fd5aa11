-- What a tick answers: the kind of its step, or for what the seat waits.
use Rattle.std.proofs.Common.{◌≡◌, ◌≢◌, refl, ℕ, ◌+◌, ◌==◌, ◌&&◌, Bool, true, false, not, is_some, if◌then◌else◌, List, [], Option, Some, None, IfSome, option_map, ap, sym, ◌∙◌, subst}
use mathlib.Core.Option as core
use Rattle.corr_core.specs.IdSlotWord.{parts, code_of}
use Rattle.corr_core.specs.EndedByRangeOrAttempt.{ends_call}
use Rattle.sock_words.specs.declared.kind.Kind.{Kind}
use Rattle.sock_words.specs.declared.kind.Kind.TheVariants.{I6, K1}
use Rattle.sock_io.specs.declared.link.Put.{Put}
use Rattle.sock_io.specs.declared.link.Ready.{Ready}
use Rattle.sock_io.specs.declared.link.Ready.TheVariants as asks
use Rattle.sock_words.specs.declared.plain.Plan.{Plan}
use Rattle.seat_programs.specs.BufferParts.{part}
use Rattle.seat_programs.specs.Asides.{PutCall}
use Rattle.seat_programs.specs.Asides as asides
use Rattle.seat_programs.specs.FoundAndChangedAside.{found_in}
use Rattle.seat_programs.specs.LoopHeads.{Posts, Unlocks, Decides, Locks, Joins, Opens, Reads, Discards, HasEnded}
use Rattle.seat_programs.specs.PostPrograms.{end_id, unlocked, is_first, is_sought}
use Rattle.seat_programs.specs.TableSteps as calls
use Rattle.seat_programs.specs.Writings as heads
use Rattle.seat_programs.specs.Programs.{Program, Do, TakeMessage, TakeHome, PutHome, PutBytes, Write, Aside, Round}
use Rattle.seat_programs.specs.Cores.{Core, found_at}
use Rattle.seat_programs.specs.StepTables.{word_of}
use Rattle.seat_programs.specs.Ticks.{Answer, Unasked, OfPut, OfReady, waits_at}
use Rattle.seat_programs.specs.ScheduledRuns.{kind_in}
use Rattle.call_slots.specs.CallSlotSteps.{word_found}
use Rattle.call_points.specs.declared.aside.Aside as code
use Rattle.call_points.specs.AsideCodeSteps as aside_steps
use Rattle.seat_states.specs.declared.point.WriteStep.TheVariants as writes
use Rattle.seat_states.specs.declared.point.Author.{Author}
use Rattle.seat_states.specs.declared.point.Point.{Point}
use Rattle.seat_states.specs.declared.point.Point.TheVariants as points
use Rattle.seat_states.specs.ProgramAtPoint.{Context, point_program, heading_by, parts_by, Asks}
use Rattle.seat_states.specs.ProgramStepsOfMachine.{First, OfTable, OfAside, OfMessage, OfLink, OfHome, first_of, first_in, kind_of_first}
use Rattle.seat_states.specs.ProgramStepsOfMachine as kinds
use Rattle.seat_states.specs.ProgramStepsOfMachine.{step_of, step_as}
use Rattle.seat_states.specs.declared.table_step.TableStep.{TableStep}
use Rattle.seat_states.specs.declared.point.Step.{Step}
use Rattle.seat_states.specs.declared.point.Step.TheVariants as firsts
use Rattle.sock_model.specs.declared.chain.Heading.{Heading}
use Rattle.machine_model.specs.declared.tick.On.{On}
use Rattle.machine_model.specs.declared.tick.On.TheVariants as on
use Rattle.machine_model.specs.MachineRuns.{IsWaitingFor}
use Rattle.machine_model.specs.TickAnswersOfStep.{is_waiting, waits_by, StepTold}
use Rattle.machine_model.specs.declared.tick.Tick.TheVariants.{Moved, Waits}
use Rattle.client_seats.specs.ClientSeatState.{SeatData, around, seat_program, bytes_of, parts_of, left_of, taken_of, left_parts_of, asked_or_nothing}
use Rattle.machine_model.specs.Machines.{TableState, table_sizes}
use Rattle.machine_model.specs.MachineSteps.{IsNext, Makes, FoundBeside, beside}
use Rattle.seat_states.proofs.StepFacts as facts
use Rattle.sock_words.specs.PackedWords.{id_first, id_slot}

-- ## Kinds

-- the kind of the next step is that of the first
pub kind_is : (program : Program) → kind_in program ≡ option_map kind_of_first (first_in program)
kind_is (Write (heads.Empties h) after) = refl
kind_is (Round (Decides id asked w e) next) = elim (ends_call (parts w) e) as (λ (ends : Bool). Some (if ends then I6 else K1) ≡ option_map kind_of_first (first_of (if ends then end_id (id_slot id) (next (HasEnded asked.operation (code_of e))) else Aside (PutCall (id_slot id) asked) (λ _. Round (Unlocks (id_slot id) w true) (unlocked (record { id = id; attempt = (parts w).attempt + 1 }) next))))) [ true ↦ refl | false ↦ refl ]
kind_is (Round (Locks i sought None) next) = refl
kind_is _ = refl

pub kind_first : (program : Program) (first : First) (kind : Kind) → first_in program ≡ Some first → kind ≡ kind_of_first first → kind_in program ≡ Some kind
kind_first program first kind e f = rw f (kind_is program ∙ ap (option_map kind_of_first) e)

-- ## Waiting

-- a message goes home
abbrev PutsMessage : calls.TableStep → Type 0
PutsMessage (calls.OnMessage (calls.PutMessage q heading bytes)) = Unit {0}
PutsMessage other = ⊥

module _ (p : Plan) (c : Core) where
  -- a step on a word waits by the word that it finds
  abbrev WaitsIs : Option First → Program → Type 0
  WaitsIs None program = Unit {0}
  WaitsIs (Some (OfTable call)) program = (waits_at p c Unasked program ≡ waits_by program (found_at c.words (word_of p call))) × (PutsMessage call → waits_at p c Unasked program ≡ false)
  WaitsIs (Some (OfAside step)) program = (found : ℕ) → found_in step c.calls core.none ≡ word_found step found → waits_at p c Unasked program ≡ waits_by program found
  WaitsIs (Some (OfMessage q)) program = waits_at p c Unasked program ≡ false
  WaitsIs (Some (OfLink k)) program = waits_at p c Unasked program ≡ false
  WaitsIs (Some (OfHome k n)) program = waits_at p c Unasked program ≡ false
  WaitsIs (Some (kinds.OfPut k asked bytes)) program = (put : Put) → waits_at p c (OfPut put) program ≡ false
  WaitsIs (Some (kinds.OfReady k)) program = Unit {0}

  waits_is : (program : Program) → WaitsIs (first_in program) program
  waits_is (Do call next) = (refl, λ puts. refl)
  waits_is (TakeMessage q next) = refl
  waits_is (TakeHome k next) = refl
  waits_is (PutHome k n after) = refl
  waits_is (PutBytes k asked bytes next) = λ put. refl
  waits_is (Aside step next) = λ found h. refl
  waits_is (Write (heads.Puts h now heading left taken asked) after) = (refl, λ puts. absurd puts)
  waits_is (Write (heads.Waits h now heading left taken) after) = tt
  waits_is (Write (heads.Empties h) after) = refl
  waits_is (Write (heads.Reversing h top at after) then_) = (refl, λ puts. absurd puts)
  waits_is (Round (Posts id e w) next) = λ found h. refl
  waits_is (Round (Unlocks i w advance) next) = λ found h. refl
  waits_is (Round (Decides id asked w e) next) = elim (ends_call (parts w) e) as (λ (ends : Bool). WaitsIs (first_of (if ends then end_id (id_slot id) (next (HasEnded asked.operation (code_of e))) else Aside (PutCall (id_slot id) asked) (λ _. Round (Unlocks (id_slot id) w true) (unlocked (record { id = id; attempt = (parts w).attempt + 1 }) next)))) (Round (Decides id asked w e) next)) [ true ↦ (λ found h. refl) | false ↦ (λ found h. refl) ]
  waits_is (Round (Locks i sought None) next) = λ found h. ap (λ (w : ℕ). is_sought sought (parts w) && not ((parts w).state == 1)) (core.some-injective _ found h)
  waits_is (Round (Locks i sought (Some w)) next) = λ found h. refl
  waits_is (Round (Joins id) next) = λ found h. ap (λ (w : ℕ). is_first (id_first id) (parts w)) (core.some-injective _ found h)
  waits_is (Round (Opens o) next) = (refl, λ puts. absurd puts)
  waits_is (Round (Reads r) next) = λ found h. refl
  waits_is (Round (Discards k total) next) = λ found h. refl
  waits_is _ = tt

  waits_first : (program : Program) (first : First) → first_in program ≡ Some first → WaitsIs (Some first) program
  waits_first program first e = subst (λ (o : Option First). WaitsIs o program) e (waits_is program)

  pub call_waits : (program : Program) (call : calls.TableStep) → first_in program ≡ Some (OfTable call) → waits_at p c Unasked program ≡ waits_by program (found_at c.words (word_of p call))
  call_waits program call e = (waits_first program (OfTable call) e).0

  pub aside_waits : (program : Program) (step : asides.Step) (found : ℕ) → first_in program ≡ Some (OfAside step) → found_in step c.calls core.none ≡ word_found step found → waits_at p c Unasked program ≡ waits_by program found
  aside_waits program step found e h = waits_first program (OfAside step) e found h

  pub letter_waits : (program : Program) (q : ℕ) (heading : Heading) (bytes : List ℕ) → first_in program ≡ Some (OfTable (calls.OnMessage (calls.PutMessage q heading bytes))) → waits_at p c Unasked program ≡ false
  letter_waits program q heading bytes e = (waits_first program (OfTable (calls.OnMessage (calls.PutMessage q heading bytes))) e).1 tt

  pub message_waits : (program : Program) (q : ℕ) → first_in program ≡ Some (OfMessage q) → waits_at p c Unasked program ≡ false
  message_waits program q e = waits_first program (OfMessage q) e

  pub link_waits : (program : Program) (k : ℕ) → first_in program ≡ Some (OfLink k) → waits_at p c Unasked program ≡ false
  link_waits program k e = waits_first program (OfLink k) e

  pub home_waits : (program : Program) (k n : ℕ) → first_in program ≡ Some (OfHome k n) → waits_at p c Unasked program ≡ false
  home_waits program k n e = waits_first program (OfHome k n) e

  pub put_waits : (program : Program) (k : ℕ) (asked : Bool) (bytes : List ℕ) (put : Put) → first_in program ≡ Some (kinds.OfPut k asked bytes) → waits_at p c (OfPut put) program ≡ false
  put_waits program k asked bytes put e = waits_first program (kinds.OfPut k asked bytes) e put

  -- whoever asks its link stands at the head of a loop
  abbrev AsksLink : Option First → Program → Type 0
  AsksLink (Some (kinds.OfReady k)) program = (waits_at p c (OfReady asks.NotYet) program ≡ true) × (waits_at p c (OfReady asks.Now) program ≡ false) × (waits_at p c (OfReady asks.Failed) program ≡ false) × IsWaitingFor program (on.Out k)
  AsksLink other program = Unit {0}

  asks_link : (a : Context) (point : Point) (k : ℕ) → Asks point → first_in (point_program a point) ≡ Some (kinds.OfReady k) → AsksLink (Some (kinds.OfReady k)) (point_program a point)
  asks_link a (points.Write w (writes.Ask m)) k h e = subst (λ (o : Option First). AsksLink o (point_program a (points.Write w (writes.Ask m)))) e (refl, refl, refl, refl)
  asks_link a _ k h e = absurd h

  pub ready_waits : (a : Context) (point : Point) (k : ℕ) → first_in (point_program a point) ≡ Some (kinds.OfReady k) → AsksLink (Some (kinds.OfReady k)) (point_program a point)
  ready_waits a point k e = asks_link a point k (facts.asks a point k e).0 e

-- ## Ticks

abbrev pub words_of : TableState → Core
words_of t = record { words = t.words; homes = []; seats = []; outcomes = []; calls = beside t }

next_is : (old : TableState) (seat : SeatData) (step step' : Step) → step ≡ step' → IsNext old seat step → IsNext old seat step'
next_is old seat step step' e next = subst (λ (x : Step). IsNext old seat x) e next

pub waits_for : (program : Program) (o : Option On) (on_ : On) → o ≡ Some on_ → IfSome o (IsWaitingFor program) → IsWaitingFor program on_
waits_for program o on_ some is = subst (λ (x : Option On). IfSome x (IsWaitingFor program)) some is

call_waiting : (old : TableState) (seat : SeatData) (call : TableStep) (found : ℕ) (o : Option On) → IsNext old seat (firsts.Table call) → found ≡ found_at old.words (word_of old.plan (step_of call)) → is_some o ≡ waits_by (seat_program (table_sizes old) seat) found → is_waiting old Unasked (seat_program (table_sizes old) seat) ≡ is_some o
call_waiting old seat call found o next f awaited = call_waits old.plan (words_of old) (seat_program (table_sizes old) seat) (step_of call) next ∙ ap (waits_by (seat_program (table_sizes old) seat)) (sym f) ∙ sym awaited

aside_waiting : (old : TableState) (seat : SeatData) (aside : code.Aside) (found : ℕ) (o : Option On) → IsNext old seat (firsts.Aside aside) → FoundBeside old seat aside found → is_some o ≡ waits_by (seat_program (table_sizes old) seat) found → is_waiting old Unasked (seat_program (table_sizes old) seat) ≡ is_some o
aside_waiting old seat aside found o next f awaited = aside_waits old.plan (words_of old) (seat_program (table_sizes old) seat) (aside_steps.step_of (asked_or_nothing seat.call) aside) found next f ∙ sym awaited

module _ {old fresh : TableState} {i : ℕ} {seat seat' : SeatData} {step : Step} where
  makes_is : (step' : Step) (answer : Answer) → step ≡ step' → Makes old fresh i seat seat' step' answer → Makes old fresh i seat seat' step answer
  makes_is step' answer e makes = subst (λ (x : Step). Makes old fresh i seat seat' x answer) (sym e) makes

  -- the step is made
  pub moved : (kind : Kind) (step' : Step) (answer : Answer) → step ≡ step' → IsNext old seat step → kind ≡ kind_of_first (step_as (around (table_sizes old) seat) step) → Makes old fresh i seat seat' step' answer →
      is_waiting old answer (seat_program (table_sizes old) seat) ≡ false → StepTold old fresh i seat seat' step (Moved kind)
  moved kind step' answer e next is makes waits = record {
    answer = answer;
    makes = makes_is step' answer e makes;
    tells = (kind_first (seat_program (table_sizes old) seat) (step_as (around (table_sizes old) seat) step) kind next is, waits);
  }

  -- it waits
  waited : (on_ : On) (step' : Step) (answer : Answer) → step ≡ step' → Makes old fresh i seat seat' step' answer → is_waiting old answer (seat_program (table_sizes old) seat) ≡ true → IsWaitingFor (seat_program (table_sizes old) seat) on_ → StepTold old fresh i seat seat' step (Waits on_)
  waited on_ step' answer e makes waits is = record { answer = answer; makes = makes_is step' answer e makes; tells = (waits, is) }

  module _ (kind : Kind) (next : IsNext old seat step) (is : kind ≡ kind_of_first (step_as (around (table_sizes old) seat) step)) where
    pub call_moved : (call : TableStep) (found : ℕ) (o : Option On) → step ≡ firsts.Table call → Makes old fresh i seat seat' (firsts.Table call) Unasked → found ≡ found_at old.words (word_of old.plan (step_of call)) →
        is_some o ≡ waits_by (seat_program (table_sizes old) seat) found → o ≡ None → StepTold old fresh i seat seat' step (Moved kind)
    call_moved call found o e makes f awaited none = moved kind (firsts.Table call) Unasked e next is makes (call_waiting old seat call found o (next_is old seat step (firsts.Table call) e next) f awaited ∙ ap is_some none)

    pub call_waited : (call : TableStep) (found : ℕ) (o : Option On) (on_ : On) → step ≡ firsts.Table call → Makes old fresh i seat seat' (firsts.Table call) Unasked → found ≡ found_at old.words (word_of old.plan (step_of call)) →
        is_some o ≡ waits_by (seat_program (table_sizes old) seat) found → IfSome o (IsWaitingFor (seat_program (table_sizes old) seat)) → o ≡ Some on_ → StepTold old fresh i seat seat' step (Waits on_)
    call_waited call found o on_ e makes f awaited for some = waited on_ (firsts.Table call) Unasked e makes (call_waiting old seat call found o (next_is old seat step (firsts.Table call) e next) f awaited ∙ ap is_some some) (waits_for (seat_program (table_sizes old) seat) o on_ some for)

    pub aside_moved : (aside : code.Aside) (found : ℕ) (o : Option On) → step ≡ firsts.Aside aside → Makes old fresh i seat seat' (firsts.Aside aside) Unasked → FoundBeside old seat aside found →
        is_some o ≡ waits_by (seat_program (table_sizes old) seat) found → o ≡ None → StepTold old fresh i seat seat' step (Moved kind)
    aside_moved aside found o e makes f awaited none = moved kind (firsts.Aside aside) Unasked e next is makes (aside_waiting old seat aside found o (next_is old seat step (firsts.Aside aside) e next) f awaited ∙ ap is_some none)

    pub aside_waited : (aside : code.Aside) (found : ℕ) (o : Option On) (on_ : On) → step ≡ firsts.Aside aside → Makes old fresh i seat seat' (firsts.Aside aside) Unasked → FoundBeside old seat aside found →
        is_some o ≡ waits_by (seat_program (table_sizes old) seat) found → IfSome o (IsWaitingFor (seat_program (table_sizes old) seat)) → o ≡ Some on_ → StepTold old fresh i seat seat' step (Waits on_)
    aside_waited aside found o on_ e makes f awaited for some = waited on_ (firsts.Aside aside) Unasked e makes (aside_waiting old seat aside found o (next_is old seat step (firsts.Aside aside) e next) f awaited ∙ ap is_some some) (waits_for (seat_program (table_sizes old) seat) o on_ some for)

    pub letter_moved : (q : ℕ) (author : Author) → step ≡ firsts.PutMessage q author → Makes old fresh i seat seat' (firsts.PutMessage q author) Unasked → StepTold old fresh i seat seat' step (Moved kind)
    letter_moved q author e makes = moved kind (firsts.PutMessage q author) Unasked e next is makes
        (letter_waits old.plan (words_of old) (seat_program (table_sizes old) seat) q (heading_by author (parts_of seat.message)) (bytes_of seat.message) (next_is old seat step (firsts.PutMessage q author) e next))

    pub message_moved : (q : ℕ) → step ≡ firsts.TakeMessage q → Makes old fresh i seat seat' (firsts.TakeMessage q) Unasked → StepTold old fresh i seat seat' step (Moved kind)
    message_moved q e makes = moved kind (firsts.TakeMessage q) Unasked e next is makes (message_waits old.plan (words_of old) (seat_program (table_sizes old) seat) q (next_is old seat step (firsts.TakeMessage q) e next))

    pub link_moved : (k : ℕ) → step ≡ firsts.TakeHome k → Makes old fresh i seat seat' (firsts.TakeHome k) Unasked → StepTold old fresh i seat seat' step (Moved kind)
    link_moved k e makes = moved kind (firsts.TakeHome k) Unasked e next is makes (link_waits old.plan (words_of old) (seat_program (table_sizes old) seat) k (next_is old seat step (firsts.TakeHome k) e next))

    pub home_moved : (k n : ℕ) → step ≡ firsts.PutHome k n → Makes old fresh i seat seat' (firsts.PutHome k n) Unasked → StepTold old fresh i seat seat' step (Moved kind)
    home_moved k n e makes = moved kind (firsts.PutHome k n) Unasked e next is makes (home_waits old.plan (words_of old) (seat_program (table_sizes old) seat) k n (next_is old seat step (firsts.PutHome k n) e next))

    pub put_moved : (k : ℕ) (asked : Bool) (author : Author) (put : Put) → step ≡ firsts.PutBytes k asked author → Makes old fresh i seat seat' (firsts.PutBytes k asked author) (OfPut put) → StepTold old fresh i seat seat' step (Moved kind)
    put_moved k asked author put e makes = moved kind (firsts.PutBytes k asked author) (OfPut put) e next is makes
        (put_waits old.plan (words_of old) (seat_program (table_sizes old) seat) k asked (part (parts_by author (left_parts_of seat.out)) (left_of seat.out) (taken_of seat.out)) put (next_is old seat step (firsts.PutBytes k asked author) e next))

    pub ready_moved : (k : ℕ) (ready : Ready) → ready ≢ asks.NotYet → step ≡ firsts.AskReady k → Makes old fresh i seat seat' (firsts.AskReady k) (OfReady ready) → StepTold old fresh i seat seat' step (Moved kind)
    ready_moved k asks.Now q e makes = moved kind (firsts.AskReady k) (OfReady asks.Now) e next is makes (ready_waits old.plan (words_of old) (around (table_sizes old) seat) seat.point k (next_is old seat step (firsts.AskReady k) e next)).1
    ready_moved k asks.NotYet q e makes = absurd (q refl)
    ready_moved k asks.Failed q e makes = moved kind (firsts.AskReady k) (OfReady asks.Failed) e next is makes (ready_waits old.plan (words_of old) (around (table_sizes old) seat) seat.point k (next_is old seat step (firsts.AskReady k) e next)).2

    pub ready_waited : (k : ℕ) → step ≡ firsts.AskReady k → Makes old fresh i seat seat' (firsts.AskReady k) (OfReady asks.NotYet) → StepTold old fresh i seat seat' step (Waits (on.Out k))
    ready_waited k e makes = let h = ready_waits old.plan (words_of old) (around (table_sizes old) seat) seat.point k (next_is old seat step (firsts.AskReady k) e next) in waited (on.Out k) (firsts.AskReady k) (OfReady asks.NotYet) e makes h.0 h.3
