-- A link whose puts go by a shape answers each put by it, and each step keeps that they go on so.
use Rattle.std.proofs.Common.{◌≡◌, ◌≢◌, refl, ℕ, ◌<◌, ◌≤◌, ◌==◌, Bool, true, false, if◌then◌else◌, cond, eq-eqb, ne_eqb, List, [], ◌∷◌, ◌++◌, append-nil, length, map, filter, slice_set, Option, Some, IfSome, ap, sym, ◌∙◌, arith, subst}
use Rattle.std.proofs.lemmas.List.Sums.{fold-append}
use Rattle.std.specs.Prelude.{option_map}
use Rattle.std.specs.Io.KnownBytes.{append_known}
use mathlib.Core.Logic.{dite}
use native.Mathlib.Decide.{ℕ_discrete}
use mathlib.Core.Option as core
use lib.ListN.{get_elem?}
use Rattle.atomic_table.proofs.Lists.{set_here, set_else}
use Rattle.corr_core.proofs.NoteSums.{at_length}
use Rattle.sock_words.specs.declared.plain.Plan.{Plan}
use Rattle.sock_words.specs.declared.shape.Shape.{Shape}
use Rattle.sock_io.specs.declared.link.Put.{Put}
use Rattle.sock_io.specs.declared.link.Put.TheVariants.{Failed}
use Rattle.sock_io.specs.declared.link.Ready.{Ready}
use Rattle.sock_io.specs.LinkHalves.{OutState, PutStep, ReadyStep, FinishStep, taken_of}
use Rattle.sock_io.specs.PutAnswers.{Pacing, paced_on, next_answer}
use Rattle.seat_programs.specs.Asides as asides
use Rattle.seat_programs.specs.TableSteps as calls
use Rattle.seat_programs.specs.LoopRounds.{first_step}
use Rattle.seat_programs.specs.Programs.{Program, PutBytes}
use Rattle.seat_programs.specs.Cores.{Core, SeatState}
use Rattle.seat_programs.specs.Ticks.{Answer, OfPut, Moment, asked_link}
use Rattle.machine_model.specs.run_theorems.specs.Heard.{heard_at, heard_in}
use Rattle.machine_model.specs.run_theorems.specs.OfferedAtTakes.{HasTaken}
use Rattle.machine_model.specs.run_theorems.specs.ShapedPuts.{paced_by, paced, ShapedAt, AreShaped}
use Rattle.seat_states.specs.declared.point.Step.{Step}
use Rattle.seat_states.specs.ProgramStepsOfMachine.{First, OfTable, OfAside, OfMessage, OfLink, OfHome, first_in, first_of}
use Rattle.seat_states.specs.ProgramStepsOfMachine as kinds
use Rattle.machine_model.specs.script_links.specs.OfferedLinks.{TellsPacing}
use Rattle.reader_seats.specs.ReaderState.{ReaderData}
use Rattle.client_seats.specs.ClientSeatState.{SeatData}
use Rattle.machine_model.specs.MachineLinks.{LinksData, Taken, Given, Agrees, IsShapedSo, is_done}
use Rattle.machine_model.specs.Machines.{MachineState, KeepsClosed, READERS, table_of, core_with}
use Rattle.machine_model.specs.MachineSteps.{OutsAfter, MadeFirst}
use Rattle.machine_model.specs.ReadingSteps.{MadeRead}
use Rattle.machine_model.proofs.FirstSteps.{first_is, same_some}
use Rattle.machine_ticks.proofs.ClosedWhereFinished.{taken_there}
use Rattle.machine_ticks.proofs.LinksBehindSteps.{asks_first}

-- ## A call of a writing half

-- its puts go on, where they went so far
abbrev PacesOn : OutState → OutState → (Pacing → Pacing) → Type 0
PacesOn out out' on = (took : List ℕ) (pacing : Pacing) → out.took ≡ Some took → out.pacing ≡ Some pacing → (later : List ℕ) × (out'.took ≡ Some later) × (out'.pacing ≡ Some (on pacing))

paces_put : (out out' : OutState) (piece : List ℕ) (result : Put) → PutStep out out' piece result → PacesOn out out' (paced_on result)
paces_put out out' piece result step took pacing told goes = (took ++ taken_of piece result, step.took ∙ ap (λ (b : Option (List ℕ)). append_known b (taken_of piece result)) told, step.pacing ∙ ap (option_map (paced_on result)) goes)

paces_ready : (out out' : OutState) (result : Ready) → ReadyStep out out' result → PacesOn out out' (λ pacing. pacing)
paces_ready out out' result step took pacing told goes = (took, step.took ∙ told, step.pacing ∙ goes)

paces_finish : (out out' : OutState) → FinishStep out out' → PacesOn out out' (λ pacing. pacing)
paces_finish out out' step took pacing told goes = (took, step.took ∙ told, step.pacing ∙ goes)

-- a put is answered as the pacing says, and fails behind the end
put_answered : (out out' : OutState) (piece : List ℕ) (put : Put) → PutStep out out' piece put → (pacing : Pacing) (took : List ℕ) → out.took ≡ Some took → out.pacing ≡ Some pacing → (finished : Bool) → out.finished ≡ finished →
    put ≡ (if finished then Failed else next_answer pacing took piece)
put_answered out out' piece put step pacing took told goes true done = (step.ended done).0
put_answered out out' piece put step pacing took told goes false open_ = step.shaped pacing took goes told open_

-- ## Behind a step

module _ (l l' : LinksData) (k : ℕ) (pacing : Pacing) (h : TellsPacing l.outs k pacing) where
  paced_same : l'.outs ≡ l.outs → TellsPacing l'.outs k pacing
  paced_same outs = record { out = h.out; out_at = ap (λ (os : List OutState). get_elem? os k) outs ∙ h.out_at; took = h.took; took_is = h.took_is; pacing_is = h.pacing_is }

  module _ (x : ℕ) (out out' : OutState) (at : get_elem? l.outs x ≡ core.some out) (outs : l'.outs ≡ slice_set l.outs x out') where
    paced_here : (on : Pacing → Pacing) → PacesOn out out' on → k ≡ x → TellsPacing l'.outs k (on pacing)
    paced_here on paces e =
        let same : h.out ≡ out = core.some-injective h.out out (sym h.out_at ∙ ap (get_elem? l.outs) e ∙ at) in
        let later = paces h.took pacing (ap (λ (o : OutState). o.took) (sym same) ∙ h.took_is) (ap (λ (o : OutState). o.pacing) (sym same) ∙ h.pacing_is) in record {
          out = out';
          out_at = ap (λ (os : List OutState). get_elem? os k) outs ∙ ap (get_elem? (slice_set l.outs x out')) e ∙ set_here l.outs x out' (at_length l.outs x out at);
          took = later.0;
          took_is = later.1;
          pacing_is = later.2;
        }

    paced_else : k ≢ x → TellsPacing l'.outs k pacing
    paced_else differ = record { out = h.out; out_at = ap (λ (os : List OutState). get_elem? os k) outs ∙ set_else l.outs x k out' differ ∙ h.out_at; took = h.took; took_is = h.took_is; pacing_is = h.pacing_is }

  pub paced_call : (call : calls.TableStep) → OutsAfter call l.outs l'.outs → TellsPacing l'.outs k pacing
  paced_call (calls.OnLink (calls.FinishLink x)) o = dite (ℕ_discrete k x) (paced_here x o.0 o.1 o.2 o.3 (λ p. p) (paces_finish o.0 o.1 o.4)) (paced_else x o.0 o.1 o.2 o.3)
  paced_call _ o = paced_same o

-- ## In a tick

-- one answer more
paced_more : (shape : Shape) (so_far : List Answer) (answer : Answer) → paced shape (so_far ++ answer ∷ []) ≡ paced_by answer (paced shape so_far)
paced_more shape so_far answer = fold-append (λ (pacing : Pacing) (answer : Answer). paced_by answer pacing) (record { shape = shape; puts = 0; paused = false }) so_far (answer ∷ [])

module _ (p : Plan) (c : Core) (i : ℕ) (seat : SeatState) (there : get_elem? c.seats i ≡ core.some seat) (answer : Answer) (k : ℕ) (shape : Shape) (so_far : List Answer) where
  abbrev one : List Moment
  one = record { seat = i; answer = answer } ∷ []

  heard_by : (ks : List ℕ) → asked_link seat.program ≡ ks → heard_in p c one k ≡ map (λ (j : ℕ). answer) (filter (λ (j : ℕ). j == k) ks)
  heard_by ks asks = append-nil (heard_at c (record { seat = i; answer = answer }) k)
      ∙ ap (λ (o : core.Option SeatState). elim o as (λ x. List Answer) [ core.none ↦ [] | core.some s ↦ map (λ (j : ℕ). answer) (filter (λ (j : ℕ). j == k) (asked_link s.program)) ]) there
      ∙ ap (λ (js : List ℕ). map (λ (j : ℕ). answer) (filter (λ (j : ℕ). j == k) js)) asks

  module _ (outs : List OutState) where
    -- the link wasn't asked
    unheard : heard_in p c one k ≡ [] → TellsPacing outs k (paced shape so_far) → TellsPacing outs k (paced shape (so_far ++ heard_in p c one k))
    unheard none_ h = subst (λ (answers : List Answer). TellsPacing outs k (paced shape answers)) (sym (ap (λ (l : List Answer). so_far ++ l) none_ ∙ append-nil so_far)) h

    -- it was asked, and answered so
    heard : heard_in p c one k ≡ answer ∷ [] → TellsPacing outs k (paced_by answer (paced shape so_far)) → TellsPacing outs k (paced shape (so_far ++ heard_in p c one k))
    heard is h = subst (TellsPacing outs k) (sym (ap (λ (l : List Answer). paced shape (so_far ++ l)) is ∙ paced_more shape so_far answer)) h

    -- or another one was
    asked_one : (x : ℕ) → asked_link seat.program ≡ x ∷ [] → (k ≡ x → TellsPacing outs k (paced_by answer (paced shape so_far))) → (k ≢ x → TellsPacing outs k (paced shape so_far)) → TellsPacing outs k (paced shape (so_far ++ heard_in p c one k))
    asked_one x asks here else_ = dite (ℕ_discrete k x)
        (λ e. heard (heard_by (x ∷ []) asks ∙ ap (λ (b : Bool). map (λ (n : ℕ). answer) (cond b (x ∷ []) [])) (eq-eqb x k (sym e))) (here e))
        (λ differ. unheard (heard_by (x ∷ []) asks ∙ ap (λ (b : Bool). map (λ (n : ℕ). answer) (cond b (x ∷ []) [])) (ne_eqb x k (λ e. differ (sym e)))) (else_ differ))

  -- the one seat whose tick it is
  own_shaped : ShapedAt p k shape so_far c answer (first_step seat.program) → AreShaped p k shape so_far c one
  own_shaped own = (λ s at. subst (λ (s : SeatState). ShapedAt p k shape so_far c answer (first_step s.program)) (core.some-injective seat s (sym there ∙ at)) own, tt)

-- ## A step of a client

module _ (old fresh : MachineState) (i : ℕ) (place seat' : SeatData) (step : Step) (k : ℕ) (shape : Shape) (so_far : List Answer) (h : IsShapedSo old.links k shape so_far) where
  module _ (p : Plan) (c : Core) (seat : SeatState) (there : get_elem? c.seats i ≡ core.some seat) where
    stays_shaped : (answer : Answer) → asked_link seat.program ≡ [] → fresh.links.outs ≡ old.links.outs → IsShapedSo fresh.links k shape (so_far ++ heard_in p c (record { seat = i; answer = answer } ∷ []) k)
    stays_shaped answer none_ outs = unheard p c i seat there answer k shape so_far fresh.links.outs (heard_by p c i seat there answer k shape so_far [] none_) (paced_same old.links fresh.links k (paced shape so_far) h outs)

    asked_shaped : (x : ℕ) (answer : Answer) (out out' : OutState) → get_elem? old.links.outs x ≡ core.some out → fresh.links.outs ≡ slice_set old.links.outs x out' → asked_link seat.program ≡ x ∷ [] → PacesOn out out' (paced_by answer)
        → IsShapedSo fresh.links k shape (so_far ++ heard_in p c (record { seat = i; answer = answer } ∷ []) k)
    asked_shaped x answer out out' at outs asks paces = asked_one p c i seat there answer k shape so_far fresh.links.outs x asks
        (paced_here old.links fresh.links k (paced shape so_far) h x out out' at outs (paced_by answer) paces)
        (paced_else old.links fresh.links k (paced shape so_far) h x out out' at outs)

    pub made_shaped : (first : First) (answer : Answer) → MadeFirst (table_of old) (table_of fresh) i place seat' step first answer → first_in seat.program ≡ Some first → IsShapedSo fresh.links k shape (so_far ++ heard_in p c (record { seat = i; answer = answer } ∷ []) k)
    made_shaped (OfTable call) answer w next = unheard p c i seat there answer k shape so_far fresh.links.outs (heard_by p c i seat there answer k shape so_far [] (asks_first seat.program (OfTable call) next)) (paced_call old.links fresh.links k (paced shape so_far) h call w.1.outs)
    made_shaped (OfAside aside) answer w next = stays_shaped answer (asks_first seat.program (OfAside aside) next) (ap (λ (l : LinksData). l.outs) w.1.links)
    made_shaped (OfMessage q) answer w next = stays_shaped answer (asks_first seat.program (OfMessage q) next) (ap (λ (l : LinksData). l.outs) w.1.links)
    made_shaped (OfLink x) answer w next = stays_shaped answer (asks_first seat.program (OfLink x) next) (ap (λ (l : LinksData). l.outs) w.1.links)
    made_shaped (OfHome x n) answer w next = stays_shaped answer (asks_first seat.program (OfHome x n) next) (ap (λ (l : LinksData). l.outs) w.1.links)
    made_shaped (kinds.OfPut x asked bytes) answer w next = let a = w.2.asked in
        asked_shaped x answer a.out a.out' a.at a.outs_are (asks_first seat.program (kinds.OfPut x asked bytes) next) (subst (λ (o : Answer). PacesOn a.out a.out' (paced_by o)) (sym w.1) (paces_put a.out a.out' bytes w.0 a.answered))
    made_shaped (kinds.OfReady x) answer w next = let a = w.2.asked in
        asked_shaped x answer a.out a.out' a.at a.outs_are (asks_first seat.program (kinds.OfReady x) next) (subst (λ (o : Answer). PacesOn a.out a.out' (paced_by o)) (sym w.1) (paces_ready a.out a.out' w.0 a.answered))

  module _ (kept : KeepsClosed old) (letters : length old.letters ≡ old.plan.requests) (outs_are : length old.links.outs ≡ old.plan.links) (few : length old.seats ≤ READERS) (took : Taken) (gave : Given) (agrees : Agrees old.links took) where
    abbrev before : Core
    before = core_with old took gave

    inside : k < old.plan.links
    inside = let low = at_length old.links.outs k h.out h.out_at in omega (arith, low, outs_are)

    took_is : h.took ≡ took k
    took_is = subst (λ (o : Option (List ℕ)). IfSome o (λ bytes. bytes ≡ took k)) h.took_is (agrees k h.out h.out_at)

    done_is : h.out.finished ≡ is_done old.links k
    done_is = sym (ap (λ (o : core.Option OutState). elim o as (λ o. Bool) [ core.none ↦ false | core.some out ↦ out.finished ]) h.out_at)

    -- a put of it was answered by the shape
    put_shaped : (x : ℕ) (asked : Bool) (bytes : List ℕ) (answer : Answer) → x ≡ k → MadeFirst (table_of old) (table_of fresh) i place seat' step (kinds.OfPut x asked bytes) answer
        → (took' : List ℕ) × (finished : Bool) × HasTaken old.plan k before took' finished × (answer ≡ OfPut (if finished then Failed else next_answer (paced shape so_far) took' bytes))
    put_shaped x asked bytes answer same w =
        let a = w.2.asked in
        let out_is : a.out ≡ h.out = core.some-injective a.out h.out (sym a.at ∙ ap (get_elem? old.links.outs) same ∙ h.out_at) in
        let answered : w.0 ≡ (if h.out.finished then Failed else next_answer (paced shape so_far) h.took bytes) = put_answered h.out a.out' bytes w.0 (subst (λ (o : OutState). PutStep o a.out' bytes w.0) out_is a.answered) (paced shape so_far) h.took h.took_is h.pacing_is h.out.finished refl in (
          took k,
          is_done old.links k,
          taken_there old letters few kept took gave k inside,
          w.1 ∙ ap OfPut (subst (λ (t : List ℕ). w.0 ≡ (if is_done old.links k then Failed else next_answer (paced shape so_far) t bytes)) took_is
              (subst (λ (d : Bool). w.0 ≡ (if d then Failed else next_answer (paced shape so_far) h.took bytes)) done_is answered)),
        )

    shaped_at : (program : Program) (first : First) (answer : Answer) → first_of program ≡ Some first → MadeFirst (table_of old) (table_of fresh) i place seat' step first answer → ShapedAt old.plan k shape so_far before answer program
    shaped_at (PutBytes x asked bytes next) first answer e w = λ same. put_shaped x asked bytes answer same (subst (λ (f : First). MadeFirst (table_of old) (table_of fresh) i place seat' step f answer) (sym (same_some e)) w)
    shaped_at _ first answer e w = tt

    pub made_shapes : (seat : SeatState) → get_elem? before.seats i ≡ core.some seat → (first : First) (answer : Answer) → MadeFirst (table_of old) (table_of fresh) i place seat' step first answer → first_in seat.program ≡ Some first →
        AreShaped old.plan k shape so_far before (record { seat = i; answer = answer } ∷ [])
    made_shapes seat there first answer w next = own_shaped old.plan before i seat there answer k shape so_far (shaped_at (first_step seat.program) first answer (sym (first_is seat.program) ∙ next) w)

-- ## A step of a reader

module _ (old fresh : MachineState) (i : ℕ) (reader reader' : ReaderData) (k : ℕ) (shape : Shape) (so_far : List Answer) (p : Plan) (c : Core) (seat : SeatState) (there : get_elem? c.seats i ≡ core.some seat) where
  module _ (h : IsShapedSo old.links k shape so_far) where
    read_stays : (answer : Answer) → asked_link seat.program ≡ [] → fresh.links.outs ≡ old.links.outs → IsShapedSo fresh.links k shape (so_far ++ heard_in p c (record { seat = i; answer = answer } ∷ []) k)
    read_stays answer none_ outs = unheard p c i seat there answer k shape so_far fresh.links.outs (heard_by p c i seat there answer k shape so_far [] none_) (paced_same old.links fresh.links k (paced shape so_far) h outs)

    shaped_asides : (step : asides.Step) (answer : Answer) → MadeRead (table_of old) (table_of fresh) i reader reader' (OfAside step) answer → first_in seat.program ≡ Some (OfAside step) → IsShapedSo fresh.links k shape (so_far ++ heard_in p c (record { seat = i; answer = answer } ∷ []) k)
    shaped_asides (asides.TakeBytes x room) answer w next = read_stays answer (asks_first seat.program (OfAside (asides.TakeBytes x room)) next) w.2.outs
    shaped_asides step answer w next = read_stays answer (asks_first seat.program (OfAside step) next) (ap (λ (l : LinksData). l.outs) w.1.links)

    pub read_shaped : (first : First) (answer : Answer) → MadeRead (table_of old) (table_of fresh) i reader reader' first answer → first_in seat.program ≡ Some first → IsShapedSo fresh.links k shape (so_far ++ heard_in p c (record { seat = i; answer = answer } ∷ []) k)
    read_shaped (OfTable call) answer w next = unheard p c i seat there answer k shape so_far fresh.links.outs (heard_by p c i seat there answer k shape so_far [] (asks_first seat.program (OfTable call) next)) (paced_call old.links fresh.links k (paced shape so_far) h call w.1.outs)
    read_shaped (OfAside step) answer w next = shaped_asides step answer w next
    read_shaped _ answer w next = absurd w

  -- a reader puts nothing
  puts_nothing : (program : Program) (first : First) (answer : Answer) → first_of program ≡ Some first → MadeRead (table_of old) (table_of fresh) i reader reader' first answer → ShapedAt p k shape so_far c answer program
  puts_nothing (PutBytes x asked bytes next) first answer e w = absurd (subst (λ (f : First). MadeRead (table_of old) (table_of fresh) i reader reader' f answer) (sym (same_some e)) w)
  puts_nothing _ first answer e w = tt

  pub read_shapes : (first : First) (answer : Answer) → MadeRead (table_of old) (table_of fresh) i reader reader' first answer → first_in seat.program ≡ Some first → AreShaped p k shape so_far c (record { seat = i; answer = answer } ∷ [])
  read_shapes first answer w next = own_shaped p c i seat there answer k shape so_far (puts_nothing (first_step seat.program) first answer (sym (first_is seat.program) ∙ next) w)
