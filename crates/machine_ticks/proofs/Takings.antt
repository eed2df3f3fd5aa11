-- What a tick tells of the reading halves, and what a reader's tick tells of the links.
use Rattle.std.proofs.Common.{◌≡◌, refl, ℕ, ◌+◌, ◌==◌, Bool, true, false, if◌then◌else◌, cond, eq-eqb, ne_eqb, List, [], ◌∷◌, append-nil, map, filter, slice_set, Option, Some, None, ap, sym, ◌∙◌, arith, subst}
use Rattle.std.specs.Prelude.{slice_get}
use Rattle.std.specs.List.{AllByRecursion}
use Rattle.std.proofs.lemmas.Option.{same_Some}
use native.Mathlib.Decide.{ℕ_discrete}
use mathlib.Core.Logic.{dite}
use mathlib.Core.Option as core
use lib.ListN.{get_elem?}
use Rattle.corr_core.specs.IdSlotWord.{parts, code_of}
use Rattle.corr_core.proofs.NoteSums.{at_length}
use Rattle.corr_core.specs.EndedByRangeOrAttempt.{ends_call}
use Rattle.brpc_model.specs.ReturnedLink.{LinkEnd, TakeAnswer}
use Rattle.sock_io.specs.LinkHalves.{more_told}
use Rattle.sock_words.specs.declared.plain.Plan.{Plan}
use Rattle.machine_model.specs.run_theorems.specs.Heard.{as_told, as_taken, answer_of, take_answers, taken_link, heard_at, heard_in, taken_at, taken_in}
use Rattle.seat_programs.specs.Asides as asides
use Rattle.seat_programs.specs.Asides.{Taking, TakeBytes, PutCall}
use Rattle.seat_programs.specs.LoopHeads.{Unlocks, Decides, Locks, Reads, Discards, HasEnded}
use Rattle.seat_programs.specs.PostPrograms.{end_id, unlocked}
use Rattle.seat_programs.specs.Writings as heads
use Rattle.seat_programs.specs.Programs.{Program, Write, Aside, Round}
use Rattle.seat_programs.specs.Cores.{Core, SeatState}
use Rattle.seat_programs.specs.Ticks.{Answer, Unasked, OfPut, OfReady, OfTake, Moment, taken, IsAnswer, IsAnswered, asked_link, is_refusal, broken_at, broken_in}
use Rattle.seat_states.specs.declared.point.Step.{Step}
use Rattle.seat_states.specs.ProgramStepsOfMachine.{First, OfTable, OfAside, first_of, first_in}
use Rattle.seat_states.specs.ProgramStepsOfMachine as kinds
use Rattle.reader_seats.specs.ReaderState.{ReaderData}
use Rattle.client_seats.specs.ClientSeatState.{SeatData}
use Rattle.machine_model.specs.Machines.{MachineState, table_of}
use Rattle.machine_model.specs.MachineSteps.{AskedAt, MadeFirst}
use Rattle.machine_model.specs.ReadingSteps.{MadeRead}
use Rattle.machine_model.specs.MachineRuns.{ShowFaults, LinksTell, TakesTell, ShowsTaking, ShowTakings}
use Rattle.machine_ticks.proofs.LinksBehindSteps.{behind_is, first_is, get_set_other, asks_first}
use Rattle.machine_model.proofs.FirstSteps.{same_some}
use Rattle.machine_ticks.proofs.JoiningRuns.{show_faults_none, more_none, tells_none, takes_none, takings_none}
use Rattle.sock_words.specs.PackedWords.{id_slot}

-- ## A link that was written back

module _ (old fresh : MachineState) (k : ℕ) (before behind : LinkEnd) (at : get_elem? old.ends k ≡ core.some before) (ends : fresh.ends ≡ slice_set old.ends k behind) where
  -- which links stood at number j before and behind
  stood : (P : LinkEnd → LinkEnd → Type 0) → (j : ℕ) (x y : LinkEnd) → slice_get old.ends j ≡ Some x → slice_get fresh.ends j ≡ Some y → (j ≡ k → P before behind) → ((j ≡ k → ⊥) → P x x) → P x y
  stood P j x y there also here other = let also' : slice_get (slice_set old.ends k behind) j ≡ Some y = ap (λ (es : List LinkEnd). slice_get es j) (sym ends) ∙ also in dite (ℕ_discrete j k)
      (λ e. let inside = at_length old.ends k before at in
      let y_is : behind ≡ y = behind_is old.ends k behind y inside (subst (λ n. slice_get (slice_set old.ends k behind) n ≡ Some y) e also') in
      let x_is : before ≡ x = first_is old.ends k before x at (subst (λ n. slice_get old.ends n ≡ Some x) e there) in
      subst (λ (z : LinkEnd). P z y) x_is (subst (P before) y_is (here e)))
      (λ differ. subst (P x) (same_Some x y (sym there ∙ sym (get_set_other old.ends k j behind differ) ∙ also')) (other differ))

  takes_set : (said : ℕ → List Answer) (xs : List TakeAnswer) → behind.takes ≡ more_told before.takes xs → take_answers (as_taken (said k)) ≡ xs → ((j : ℕ) → (j ≡ k → ⊥) → said j ≡ []) → TakesTell old fresh said
  takes_set said xs told here other = record {
    each = λ j x y there also. stood (λ a b. b.takes ≡ more_told a.takes (take_answers (as_taken (said j)))) j x y there also
        (λ e. told ∙ ap (more_told before.takes) (sym here ∙ ap (λ n. take_answers (as_taken (said n))) (sym e)))
        (λ differ. sym (more_none x.takes) ∙ ap (λ (l : List Answer). more_told x.takes (take_answers (as_taken l))) (sym (other j differ)));
    none_beyond = λ j past. other j (λ e. let inside = at_length old.ends k before at in omega (arith, inside, past, e));
  }

  tells_set : (said : ℕ → List Answer) → behind.answers ≡ before.answers → ((j : ℕ) → said j ≡ []) → LinksTell old fresh said
  tells_set said same none_ = record {
    each = λ j x y there also. stood (λ a b. b.answers ≡ more_told a.answers (as_told (said j))) j x y there also
        (λ e. same ∙ sym (more_none before.answers) ∙ ap (λ (l : List Answer). more_told before.answers (as_told l)) (sym (none_ j)))
        (λ differ. sym (more_none x.answers) ∙ ap (λ (l : List Answer). more_told x.answers (as_told l)) (sym (none_ j)));
    none_beyond = λ j past. none_ j;
  }

-- ## Ticks in which nothing was taken

-- who takes bytes is answered
untaken : (program : Program) (answer : Answer) → IsAnswer program answer → taken answer ≡ core.none → taken_link program ≡ []
untaken (Aside (TakeBytes k room) next) answer is none_ = absurd (core.none-ne-some is.0 (sym none_ ∙ ap taken is.1))
untaken (Round (Reads r) next) answer is none_ = absurd (core.none-ne-some is.0 (sym none_ ∙ ap taken is.1))
untaken (Round (Discards k total) next) answer is none_ = absurd (core.none-ne-some is.0 (sym none_ ∙ ap taken is.1))
untaken _ answer is none_ = refl

pub none_taken : (p : Plan) (c : Core) (m : Moment) → IsAnswered c m → taken m.answer ≡ core.none → (k : ℕ) → taken_in p c (m ∷ []) k ≡ []
none_taken p c m answered none_ k = append-nil (taken_at c m k) ∙ by (get_elem? c.seats m.seat) (λ seat at. untaken seat.program m.answer (answered seat at) none_)
  where
    by : (q : core.Option SeatState) → ((seat : SeatState) → q ≡ core.some seat → taken_link seat.program ≡ []) → elim q as (λ o. List Answer) [ core.none ↦ [] | core.some seat ↦ map (λ (n : ℕ). m.answer) (filter (λ (j : ℕ). j == k) (taken_link seat.program)) ] ≡ []
    by core.none none_ = refl
    by (core.some seat) none_ = ap (λ (ks : List ℕ). map (λ (n : ℕ). m.answer) (filter (λ (j : ℕ). j == k) ks)) (none_ seat refl)

-- ## A tick of a client

-- it takes no bytes
not_taken : (answer other : Answer) → answer ≡ other → taken other ≡ core.none → taken answer ≡ core.none
not_taken answer other e none_ = ap taken e ∙ none_

module _ (old fresh : MachineState) (i : ℕ) (place seat' : SeatData) (step : Step) (p : Plan) (c : Core) where
  made_none : (first : First) (answer : Answer) → MadeFirst (table_of old) (table_of fresh) i place seat' step first answer → taken answer ≡ core.none
  made_none (kinds.OfPut k asked bytes) answer w = not_taken answer (OfPut w.0) w.1 refl
  made_none (kinds.OfReady k) answer w = not_taken answer (OfReady w.0) w.1 refl
  made_none _ answer w = not_taken answer Unasked w.0 refl

  module _ (first : First) (answer : Answer) (made : MadeFirst (table_of old) (table_of fresh) i place seat' step first answer) (answered : IsAnswered c (record { seat = i; answer = answer })) where
    abbrev moment : Moment
    moment = record { seat = i; answer = answer }

    none_said : (k : ℕ) → taken_in p c (moment ∷ []) k ≡ []
    none_said = none_taken p c moment answered (made_none first answer made)

    -- so no reading half answered
    pub made_taken : ShowTakings fresh (taken_in p c (moment ∷ []))
    made_taken = takings_none fresh (taken_in p c (moment ∷ [])) none_said

    asked_takes : {k : ℕ} {HasAnswered : _} → AskedAt old.links.outs fresh.links.outs old.ends fresh.ends k HasAnswered → TakesTell old fresh (taken_in p c (moment ∷ []))
    asked_takes {k} a = takes_set old fresh k a.before a.behind a.end_at a.ends_are (taken_in p c (moment ∷ [])) [] (a.takes ∙ sym (more_none a.before.takes)) (ap (λ (l : List Answer). take_answers (as_taken l)) (none_said k)) (λ j differ. none_said j)

    by_first : (f : First) → MadeFirst (table_of old) (table_of fresh) i place seat' step f answer → TakesTell old fresh (taken_in p c (moment ∷ []))
    by_first (kinds.OfPut k asked bytes) w = asked_takes w.2.asked
    by_first (kinds.OfReady k) w = asked_takes w.2.asked
    by_first _ w = takes_none old fresh w.1.ends (taken_in p c (moment ∷ [])) none_said

    pub made_takes : TakesTell old fresh (taken_in p c (moment ∷ []))
    made_takes = by_first first made

-- ## A tick of a reader

-- the link of which bytes are taken is that of the first step
abbrev IsTakenFrom : First → List ℕ → Type 0
IsTakenFrom (OfAside (TakeBytes k room)) ks = ks ≡ k ∷ []
IsTakenFrom other ks = ks ≡ []

abbrev TakesNone : Option First → Type 0
TakesNone (Some (OfAside (TakeBytes k room))) = ⊥
TakesNone other = Unit {0}

takes_no : (o : Option First) (first : First) → o ≡ Some first → TakesNone o → IsTakenFrom first []
takes_no o (OfAside (TakeBytes k room)) e none_ = absurd (subst TakesNone e none_)
takes_no o _ e none_ = refl

takes_first : (program : Program) (first : First) → first_in program ≡ Some first → IsTakenFrom first (taken_link program)
takes_first (Aside (TakeBytes k room) next) first e = subst (λ (f : First). IsTakenFrom f (k ∷ [])) (same_some e) refl
takes_first (Round (Reads r) next) first e = subst (λ (f : First). IsTakenFrom f (r.link ∷ [])) (same_some e) refl
takes_first (Round (Discards k total) next) first e = subst (λ (f : First). IsTakenFrom f (k ∷ [])) (same_some e) refl
takes_first (Round (Decides id asked w error) next) first e = takes_no _ first e (elim (ends_call (parts w) error) as (λ (ends : Bool). TakesNone (first_of (if ends then end_id (id_slot id) (next (HasEnded asked.operation (code_of error))) else Aside (PutCall (id_slot id) asked) (λ _. Round (Unlocks (id_slot id) w true) (unlocked (record { id = id; attempt = (parts w).attempt + 1 }) next))))) [ true ↦ tt | false ↦ tt ])
takes_first (Round (Locks i sought None) next) first e = takes_no _ first e tt
takes_first (Write (heads.Empties h) after) first e = takes_no _ first e tt
takes_first _ first e = takes_no _ first e tt

-- no tick but a put or a question tells that a link failed
quiet_broken : (p : Plan) (c : Core) (i : ℕ) (answer other : Answer) → answer ≡ other → is_refusal other ≡ false → broken_in p c (record { seat = i; answer = answer } ∷ []) ≡ []
quiet_broken p c i answer other e quiet = append-nil (broken_at c (record { seat = i; answer = answer }))
    ∙ ap (λ (b : Bool). if b then elim (get_elem? c.seats i) as (λ o. List ℕ) [ core.none ↦ [] | core.some seat ↦ asked_link seat.program ] else []) (ap is_refusal e ∙ quiet)

module _ (old fresh : MachineState) (i : ℕ) (reader reader' : ReaderData) (p : Plan) (c : Core) (seat : SeatState) (there : get_elem? c.seats i ≡ core.some seat) where
  broken_asides : (step : asides.Step) (answer : Answer) → MadeRead (table_of old) (table_of fresh) i reader reader' (OfAside step) answer → broken_in p c (record { seat = i; answer = answer } ∷ []) ≡ []
  broken_asides (TakeBytes k room) answer w = quiet_broken p c i answer (OfTake w.0) w.1 refl
  broken_asides _ answer w = quiet_broken p c i answer Unasked w.0 refl

  read_quiet : (first : First) (answer : Answer) → MadeRead (table_of old) (table_of fresh) i reader reader' first answer → broken_in p c (record { seat = i; answer = answer } ∷ []) ≡ []
  read_quiet (OfTable call) answer w = quiet_broken p c i answer Unasked w.0 refl
  read_quiet (OfAside step) answer w = broken_asides step answer w
  read_quiet _ answer w = absurd w

  -- no writing half failed
  pub read_broken : (first : First) (answer : Answer) → MadeRead (table_of old) (table_of fresh) i reader reader' first answer → ShowFaults fresh (broken_in p c (record { seat = i; answer = answer } ∷ []))
  read_broken first answer w = subst (ShowFaults fresh) (sym (read_quiet first answer w)) (show_faults_none fresh)

  -- nor was one asked
  heard_none : (answer : Answer) → asked_link seat.program ≡ [] → (k : ℕ) → heard_in p c (record { seat = i; answer = answer } ∷ []) k ≡ []
  heard_none answer none_ k = append-nil (heard_at c (record { seat = i; answer = answer }) k)
      ∙ ap (λ (o : core.Option SeatState). elim o as (λ x. List Answer) [ core.none ↦ [] | core.some s ↦ map (λ (j : ℕ). answer) (filter (λ (j : ℕ). j == k) (asked_link s.program)) ]) there
      ∙ ap (λ (ks : List ℕ). map (λ (j : ℕ). answer) (filter (λ (j : ℕ). j == k) ks)) none_

  told_asides : (step : asides.Step) (answer : Answer) → first_in seat.program ≡ Some (OfAside step) → MadeRead (table_of old) (table_of fresh) i reader reader' (OfAside step) answer → LinksTell old fresh (heard_in p c (record { seat = i; answer = answer } ∷ []))
  told_asides (TakeBytes k room) answer next w = let f = w.2.from in tells_set old fresh k f.before f.behind f.end_at f.ends_are (heard_in p c (record { seat = i; answer = answer } ∷ [])) f.answers (heard_none answer (asks_first seat.program _ next))
  told_asides step answer next w = tells_none old fresh w.1.ends (heard_in p c (record { seat = i; answer = answer } ∷ [])) (heard_none answer (asks_first seat.program (OfAside step) next))

  pub read_told : (first : First) (answer : Answer) → first_in seat.program ≡ Some first → MadeRead (table_of old) (table_of fresh) i reader reader' first answer → LinksTell old fresh (heard_in p c (record { seat = i; answer = answer } ∷ []))
  read_told (OfTable call) answer next w = tells_none old fresh w.1.ends (heard_in p c (record { seat = i; answer = answer } ∷ [])) (heard_none answer (asks_first seat.program (OfTable call) next))
  read_told (OfAside step) answer next w = told_asides step answer next w
  read_told _ answer next w = absurd w

  -- the reading half that was asked answered this
  taken_is : (answer : Answer) (ks : List ℕ) → taken_link seat.program ≡ ks → (j : ℕ) → taken_in p c (record { seat = i; answer = answer } ∷ []) j ≡ map (λ (n : ℕ). answer) (filter (λ (n : ℕ). n == j) ks)
  taken_is answer ks is j = append-nil (taken_at c (record { seat = i; answer = answer }) j)
      ∙ ap (λ (o : core.Option SeatState). elim o as (λ x. List Answer) [ core.none ↦ [] | core.some s ↦ map (λ (n : ℕ). answer) (filter (λ (n : ℕ). n == j) (taken_link s.program)) ]) there
      ∙ ap (λ (xs : List ℕ). map (λ (n : ℕ). answer) (filter (λ (n : ℕ). n == j) xs)) is

  taken_here : (answer : Answer) (k : ℕ) → taken_link seat.program ≡ k ∷ [] → taken_in p c (record { seat = i; answer = answer } ∷ []) k ≡ answer ∷ []
  taken_here answer k is = taken_is answer (k ∷ []) is k ∙ ap (λ (b : Bool). map (λ (n : ℕ). answer) (cond b (k ∷ []) [])) (eq-eqb k k refl)

  taken_else : (answer : Answer) (k : ℕ) → taken_link seat.program ≡ k ∷ [] → (j : ℕ) → (j ≡ k → ⊥) → taken_in p c (record { seat = i; answer = answer } ∷ []) j ≡ []
  taken_else answer k is j differ = taken_is answer (k ∷ []) is j ∙ ap (λ (b : Bool). map (λ (n : ℕ). answer) (cond b (k ∷ []) [])) (ne_eqb k j (λ e. differ (sym e)))

  taken_none : (answer : Answer) → taken_link seat.program ≡ [] → (j : ℕ) → taken_in p c (record { seat = i; answer = answer } ∷ []) j ≡ []
  taken_none answer is j = taken_is answer [] is j

  taken_as : (answer : Answer) (taking : Taking) → answer ≡ OfTake taking → as_taken (answer ∷ []) ≡ taking ∷ []
  taken_as answer taking e = ap (λ (a : Answer). as_taken (a ∷ [])) e

  taken_asides : (step : asides.Step) (answer : Answer) → first_in seat.program ≡ Some (OfAside step) → MadeRead (table_of old) (table_of fresh) i reader reader' (OfAside step) answer → ShowTakings fresh (taken_in p c (record { seat = i; answer = answer } ∷ []))
  taken_asides (TakeBytes k room) answer next w j e at = let f = w.2.from in let is = takes_first seat.program (OfAside (TakeBytes k room)) next in dite (ℕ_discrete j k)
      (λ same. let inside = at_length old.ends k f.before f.end_at in
      let e_is : f.behind ≡ e = behind_is old.ends k f.behind e inside (ap (λ (es : List LinkEnd). slice_get es k) (sym f.ends_are) ∙ subst (λ n. slice_get fresh.ends n ≡ Some e) same at) in
      subst (λ (ts : List Taking). AllByRecursion (λ t. ShowsTaking t e) ts) (sym (ap as_taken (ap (λ n. taken_in p c (record { seat = i; answer = answer } ∷ []) n) same ∙ taken_here answer k is) ∙ taken_as answer w.0 w.1))
      (subst (ShowsTaking w.0) e_is f.shows, tt))
      (λ differ. subst (λ (l : List Answer). AllByRecursion (λ t. ShowsTaking t e) (as_taken l)) (sym (taken_else answer k is j differ)) tt)
  taken_asides step answer next w j e at = takings_none fresh (taken_in p c (record { seat = i; answer = answer } ∷ [])) (taken_none answer (takes_first seat.program (OfAside step) next)) j e at

  -- each reading half shows what it answered
  pub read_taken : (first : First) (answer : Answer) → first_in seat.program ≡ Some first → MadeRead (table_of old) (table_of fresh) i reader reader' first answer → ShowTakings fresh (taken_in p c (record { seat = i; answer = answer } ∷ []))
  read_taken (OfTable call) answer next w = takings_none fresh (taken_in p c (record { seat = i; answer = answer } ∷ [])) (taken_none answer (takes_first seat.program (OfTable call) next))
  read_taken (OfAside step) answer next w = taken_asides step answer next w
  read_taken _ answer next w = absurd w

  takes_asides : (step : asides.Step) (answer : Answer) → first_in seat.program ≡ Some (OfAside step) → MadeRead (table_of old) (table_of fresh) i reader reader' (OfAside step) answer → TakesTell old fresh (taken_in p c (record { seat = i; answer = answer } ∷ []))
  takes_asides (TakeBytes k room) answer next w = let f = w.2.from in let is = takes_first seat.program (OfAside (TakeBytes k room)) next in
      takes_set old fresh k f.before f.behind f.end_at f.ends_are (taken_in p c (record { seat = i; answer = answer } ∷ [])) (answer_of w.0) f.takes
      (ap take_answers (ap as_taken (taken_here answer k is) ∙ taken_as answer w.0 w.1) ∙ append-nil (answer_of w.0)) (taken_else answer k is)
  takes_asides step answer next w = takes_none old fresh w.1.ends (taken_in p c (record { seat = i; answer = answer } ∷ [])) (taken_none answer (takes_first seat.program (OfAside step) next))

  -- and tells it
  pub read_takes : (first : First) (answer : Answer) → first_in seat.program ≡ Some first → MadeRead (table_of old) (table_of fresh) i reader reader' first answer → TakesTell old fresh (taken_in p c (record { seat = i; answer = answer } ∷ []))
  read_takes (OfTable call) answer next w = takes_none old fresh w.1.ends (taken_in p c (record { seat = i; answer = answer } ∷ [])) (taken_none answer (takes_first seat.program (OfTable call) next))
  read_takes (OfAside step) answer next w = takes_asides step answer next w
  read_takes _ answer next w = absurd w
