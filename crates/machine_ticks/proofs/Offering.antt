-- A link that was offered what belongs to it tells so in each take, and each step keeps that it is.
use Rattle.std.proofs.Common.{◌≡◌, ◌≢◌, refl, ℕ, ◌+◌, ◌<◌, ◌≤◌, Bool, false, List, [], ◌∷◌, ◌++◌, length, slice_set, slice_index_or, Option, Some, IfSome, ap, sym, ◌∙◌, arith, subst}
use Rattle.std.specs.Io.KnownBytes.{append_known}
use mathlib.Core.Logic.{dite}
use native.Mathlib.Decide.{ℕ_discrete}
use mathlib.Core.Option as core
use lib.ListN.{get_elem?}
use Rattle.atomic_table.proofs.Lists.{set_here, set_else}
use Rattle.sock_words.specs.declared.plain.Plan.{Plan}
use Rattle.sock_io.specs.declared.link.Put.{Put}
use Rattle.sock_io.specs.declared.link.Ready.{Ready}
use Rattle.sock_io.specs.LinkHalves.{OutState, InState, Offer, IsServed, PutStep, ReadyStep, FinishStep, taken_of}
use Rattle.sock_io.proofs.HalvesKeepOffers.{served_put, served_ready, served_finish}
use Rattle.seat_programs.specs.Asides as asides
use Rattle.seat_programs.specs.Asides.{Taking}
use Rattle.seat_programs.specs.TableSteps as calls
use Rattle.seat_programs.specs.Programs.{Program}
use Rattle.seat_programs.specs.Cores.{Core, SeatState}
use Rattle.seat_programs.specs.Ticks.{Answer, Unasked, OfPut, OfReady, Moment, taken}
use Rattle.machine_model.specs.run_theorems.specs.OfferedAtTakes.{GaveSo, OffersAt, AreOffered}
use Rattle.seat_states.specs.declared.point.Step.{Step}
use Rattle.seat_states.specs.ProgramStepsOfMachine.{First, OfTable, OfAside, OfMessage, OfLink, OfHome}
use Rattle.seat_states.specs.ProgramStepsOfMachine as kinds
use Rattle.reader_seats.specs.ReaderState.{ReaderData, reader_program}
use Rattle.client_seats.specs.ClientSeatState.{SeatData}
use Rattle.machine_model.specs.MachineLinks.{LinksData, Taken, Given, Agrees, AgreesGave, IsOffering, is_done}
use Rattle.machine_model.specs.Machines.{MachineState, KeepsClosed, READERS, table_of, core_with}
use Rattle.machine_model.specs.MachineSteps.{OutsAfter, MadeFirst}
use Rattle.machine_model.specs.ReadingSteps.{OffersOn, TakenFrom, MadeRead}
use Rattle.machine_ticks.proofs.ClosedWhereFinished.{taken_there}
use Rattle.machine_ticks.proofs.JoiningRuns.{not_offered}
use Rattle.machine_rules.proofs.ReadTicks.{given_at}
use Rattle.machine_rules.proofs.Seatings.{read_at}
use Rattle.corr_core.proofs.NoteSums.{at_length}
use Rattle.seat_programs.specs.LoopRounds.{first_step}
use Rattle.machine_model.specs.run_theorems.specs.Heard.{bytes_found}

-- ## A call of a writing half

-- what belongs to the one half belongs to the other
abbrev ServesOn : OutState → OutState → Type 0
ServesOn out out' = (took gave : List ℕ) (o : Offer) → out.took ≡ Some took → IsServed took out.finished gave o → (later : List ℕ) × (out'.took ≡ Some later) × IsServed later out'.finished gave o

serves_put : (out out' : OutState) (piece : List ℕ) (result : Put) → PutStep out out' piece result → ServesOn out out'
serves_put out out' piece result step took gave o told s = (took ++ taken_of piece result, step.took ∙ ap (λ (b : Option (List ℕ)). append_known b (taken_of piece result)) told, served_put out out' took gave o piece result step s)

serves_ready : (out out' : OutState) (result : Ready) → ReadyStep out out' result → ServesOn out out'
serves_ready out out' result step took gave o told s = (took, step.took ∙ told, served_ready out out' took gave o result step s)

serves_finish : (out out' : OutState) → FinishStep out out' → ServesOn out out'
serves_finish out out' step took gave o told s = (took, step.took ∙ told, served_finish out out' took gave o step s)

module _ (l l' : LinksData) (k : ℕ) (serve : Bool) (end : Option ℕ) (h : IsOffering l k serve end) where
  -- it was offered the same, and its writing half took this
  offers_still : (out : OutState) → get_elem? l'.outs k ≡ core.some out → get_elem? l'.inns k ≡ core.some h.inn → (took : List ℕ) → out.took ≡ Some took → IsServed took out.finished h.gave h.offer → IsOffering l' k serve end
  offers_still out at inn_at took told served = record {
    out = out;
    out_at = at;
    inn = h.inn;
    inn_at = inn_at;
    took = took;
    took_is = told;
    tells = h.tells;
    served = served;
  }

  -- the reading half stays
  inn_here : l'.inns ≡ l.inns → get_elem? l'.inns k ≡ core.some h.inn
  inn_here inns = ap (λ (is : List InState). get_elem? is k) inns ∙ h.inn_at

  offering_same : l'.outs ≡ l.outs → l'.inns ≡ l.inns → IsOffering l' k serve end
  offering_same outs inns = offers_still h.out (ap (λ (os : List OutState). get_elem? os k) outs ∙ h.out_at) (inn_here inns) h.took h.took_is h.served

  module _ (x : ℕ) (out out' : OutState) (at : get_elem? l.outs x ≡ core.some out) (outs : l'.outs ≡ slice_set l.outs x out') (inns : l'.inns ≡ l.inns) (serves : ServesOn out out') where
    offering_here : k ≡ x → IsOffering l' k serve end
    offering_here e =
        let same : h.out ≡ out = core.some-injective h.out out (sym h.out_at ∙ ap (get_elem? l.outs) e ∙ at) in
        let later = serves h.took h.gave h.offer (ap (λ (o : OutState). o.took) (sym same) ∙ h.took_is) (subst (λ (o : OutState). IsServed h.took o.finished h.gave h.offer) same h.served) in
        offers_still out' (ap (λ (os : List OutState). get_elem? os k) outs ∙ ap (get_elem? (slice_set l.outs x out')) e ∙ set_here l.outs x out' (at_length l.outs x out at)) (inn_here inns) later.0 later.1 later.2

    offering_else : k ≢ x → IsOffering l' k serve end
    offering_else differ = offers_still h.out (ap (λ (os : List OutState). get_elem? os k) outs ∙ set_else l.outs x k out' differ ∙ h.out_at) (inn_here inns) h.took h.took_is h.served

    offering_set : IsOffering l' k serve end
    offering_set = dite (ℕ_discrete k x) offering_here offering_else

  offering_call : (call : calls.TableStep) → OutsAfter call l.outs l'.outs → l'.inns ≡ l.inns → IsOffering l' k serve end
  offering_call (calls.OnLink (calls.FinishLink x)) o inns = offering_set x o.0 o.1 o.2 o.3 inns (serves_finish o.0 o.1 o.4)
  offering_call _ o inns = offering_same o inns

-- ## A step of a client

-- no link was asked for bytes
one_offers : (p : Plan) (k : ℕ) (serve : Bool) (end : Option ℕ) (c : Core) (m : Moment) (other : Answer) → m.answer ≡ other → taken other ≡ core.none → AreOffered p k serve end c (m ∷ [])
one_offers p k serve end c m other e none_ = (λ seat at. not_offered p k serve end c m.answer (first_step seat.program) (ap taken e ∙ none_), tt)

module _ (old fresh : MachineState) (i : ℕ) (place seat' : SeatData) (step : Step) where
  module _ (p : Plan) (k : ℕ) (serve : Bool) (end : Option ℕ) (c : Core) where
    pub made_offers : (first : First) (answer : Answer) → MadeFirst (table_of old) (table_of fresh) i place seat' step first answer → AreOffered p k serve end c (record { seat = i; answer = answer } ∷ [])
    made_offers (kinds.OfPut x asked bytes) answer w = one_offers p k serve end c (record { seat = i; answer = answer }) (OfPut w.0) w.1 refl
    made_offers (kinds.OfReady x) answer w = one_offers p k serve end c (record { seat = i; answer = answer }) (OfReady w.0) w.1 refl
    made_offers _ answer w = one_offers p k serve end c (record { seat = i; answer = answer }) Unasked w.0 refl

  module _ (k : ℕ) (serve : Bool) (end : Option ℕ) (h : IsOffering old.links k serve end) where
    all_same : fresh.links ≡ old.links → IsOffering fresh.links k serve end
    all_same same = subst (λ (l : LinksData). IsOffering l k serve end) (sym same) h

    pub made_offering : (first : First) (answer : Answer) → MadeFirst (table_of old) (table_of fresh) i place seat' step first answer → IsOffering fresh.links k serve end
    made_offering (OfTable call) answer w = offering_call old.links fresh.links k serve end h call w.1.outs w.1.goes.base.inns
    made_offering (OfAside aside) answer w = all_same w.1.links
    made_offering (OfMessage q) answer w = all_same w.1.links
    made_offering (OfLink x) answer w = offering_same old.links fresh.links k serve end h (ap (λ (l : LinksData). l.outs) w.1.links) (ap (λ (l : LinksData). l.inns) w.1.links)
    made_offering (OfHome x n) answer w = offering_same old.links fresh.links k serve end h (ap (λ (l : LinksData). l.outs) w.1.links) (ap (λ (l : LinksData). l.inns) w.1.links)
    made_offering (kinds.OfPut x asked bytes) answer w = let a = w.2.asked in offering_set old.links fresh.links k serve end h x a.out a.out' a.at a.outs_are w.2.goes.base.inns (serves_put a.out a.out' _ _ a.answered)
    made_offering (kinds.OfReady x) answer w = let a = w.2.asked in offering_set old.links fresh.links k serve end h x a.out a.out' a.at a.outs_are w.2.goes.base.inns (serves_ready a.out a.out' _ a.answered)

-- ## A step of a reader

module _ (old fresh : MachineState) (x room : ℕ) (taking : Taking) (f : TakenFrom (table_of old) (table_of fresh) x room taking) (k : ℕ) (serve : Bool) (end : Option ℕ) (h : IsOffering old.links k serve end) where
  -- what was offered to the link of which bytes were taken
  took_offers : k ≡ x → (h.inn ≡ f.inn) × OffersOn h.took h.out.finished h.gave h.offer f.inn' room taking
  took_offers e =
      let same : h.inn ≡ f.inn = core.some-injective h.inn f.inn (sym h.inn_at ∙ ap (get_elem? old.links.inns) e ∙ f.at) in
      (same, f.offers h.out h.offer h.took h.gave (ap (get_elem? old.links.outs) (sym e) ∙ h.out_at) (ap (λ (i : InState). i.offer) (sym same) ∙ h.offer_is) h.took_is (ap (λ (i : InState). i.gave_bytes) (sym same) ∙ h.gave_is) h.served)

  offering_take : fresh.links.outs ≡ old.links.outs → IsOffering fresh.links k serve end
  offering_take outs = dite (ℕ_discrete k x)
      (λ e. let on = took_offers e in record {
        out = h.out;
        out_at = ap (λ (os : List OutState). get_elem? os k) outs ∙ h.out_at;
        inn = f.inn';
        inn_at = ap (λ (is : List InState). get_elem? is k) f.inns_are ∙ ap (get_elem? (slice_set old.links.inns x f.inn')) e ∙ set_here old.links.inns x f.inn' (at_length old.links.inns x f.inn f.at);
        took = h.took;
        took_is = h.took_is;
        tells = record {
          gave = h.gave ++ bytes_found taking;
          gave_is = f.bytes ∙ ap (λ (b : Option (List ℕ)). append_known b (bytes_found taking)) (ap (λ (i : InState). i.gave_bytes) (sym on.0) ∙ h.gave_is);
          offer = on.1.offer;
          offer_is = on.1.is;
          serves = on.1.serve ∙ h.serves;
          ends = on.1.end ∙ h.ends;
        };
        served = on.1.served;
      })
      (λ differ. offers_still old.links fresh.links k serve end h h.out (ap (λ (os : List OutState). get_elem? os k) outs ∙ h.out_at) (ap (λ (is : List InState). get_elem? is k) f.inns_are ∙ set_else old.links.inns x k f.inn' differ ∙ h.inn_at) h.took h.took_is h.served)

module _ (old fresh : MachineState) (n : ℕ) (reader reader' : ReaderData) (k : ℕ) (serve : Bool) (end : Option ℕ) (h : IsOffering old.links k serve end) where
  abbrev i : ℕ
  i = READERS + n

  offering_asides : (step : asides.Step) (answer : Answer) → MadeRead (table_of old) (table_of fresh) i reader reader' (OfAside step) answer → IsOffering fresh.links k serve end
  offering_asides (asides.TakeBytes x room) answer w = offering_take old fresh x room w.0 w.2.from k serve end h w.2.outs
  offering_asides _ answer w = subst (λ (l : LinksData). IsOffering l k serve end) (sym w.1.links) h

  pub read_offering : (first : First) (answer : Answer) → MadeRead (table_of old) (table_of fresh) i reader reader' first answer → IsOffering fresh.links k serve end
  read_offering (OfTable call) answer w = offering_call old.links fresh.links k serve end h call w.1.outs w.1.inns
  read_offering (OfAside step) answer w = offering_asides step answer w
  read_offering _ answer w = absurd w

  module _ (kept : KeepsClosed old) (at : get_elem? old.readers n ≡ core.some reader) (letters : length old.letters ≡ old.plan.requests) (inns_are : length old.links.inns ≡ old.plan.links) (few : length old.seats ≤ READERS)
      (took : Taken) (gave : Given) (agrees : Agrees old.links took) (agrees_gave : AgreesGave old.links gave) where
    abbrev before : Core
    before = core_with old took gave

    abbrev program : Program
    program = reader_program old.calls reader

    inside : k < old.plan.links
    inside = let low = at_length old.links.inns k h.inn h.inn_at in omega (arith, low, inns_are)

    took_is : h.took ≡ took k
    took_is = subst (λ (o : Option (List ℕ)). IfSome o (λ bytes. bytes ≡ took k)) h.took_is (agrees k h.out h.out_at)

    gave_is : h.gave ≡ slice_index_or before.calls.gave k []
    gave_is = subst (λ (o : Option (List ℕ)). IfSome o (λ bytes. bytes ≡ gave k)) h.gave_is (agrees_gave k h.inn h.inn_at).1 ∙ sym (given_at old.plan.links k gave inside)

    done_is : h.out.finished ≡ is_done old.links k
    done_is = sym (ap (λ (o : core.Option OutState). elim o as (λ o. Bool) [ core.none ↦ false | core.some out ↦ out.finished ]) h.out_at)

    gave_there : (x room : ℕ) (taking : Taking) → TakenFrom (table_of old) (table_of fresh) x room taking → x ≡ k → GaveSo serve end (took k) (is_done old.links k) (slice_index_or before.calls.gave k []) room taking
    gave_there x room taking f same =
        subst (λ (s : Bool). GaveSo s end (took k) (is_done old.links k) (slice_index_or before.calls.gave k []) room taking) h.serves
        (subst (λ (e : Option ℕ). GaveSo h.offer.serve e (took k) (is_done old.links k) (slice_index_or before.calls.gave k []) room taking) h.ends
        (subst (λ (t : List ℕ). GaveSo h.offer.serve h.offer.end t (is_done old.links k) (slice_index_or before.calls.gave k []) room taking) took_is
        (subst (λ (d : Bool). GaveSo h.offer.serve h.offer.end h.took d (slice_index_or before.calls.gave k []) room taking) done_is
        (subst (λ (g : List ℕ). GaveSo h.offer.serve h.offer.end h.took h.out.finished g room taking) gave_is
        (took_offers old fresh x room taking f k serve end h (sym same)).1.all))))

    -- the one seat whose tick it is
    at_own : (answer : Answer) → OffersAt old.plan k serve end before answer (first_step program) → AreOffered old.plan k serve end before (record { seat = i; answer = answer } ∷ [])
    at_own answer offers = (λ seat there. subst (λ (s : SeatState). OffersAt old.plan k serve end before answer (first_step s.program)) (core.some-injective _ seat (sym (read_at old took n reader few at) ∙ there)) offers, tt)

    offers_asides : (step : asides.Step) (answer : Answer) → MadeRead (table_of old) (table_of fresh) i reader reader' (OfAside step) answer → AreOffered old.plan k serve end before (record { seat = i; answer = answer } ∷ [])
    offers_asides (asides.TakeBytes x room) answer w = at_own answer (subst (OffersAt old.plan k serve end before answer) (sym w.2.is)
        (λ same taking e. (
          took k,
          is_done old.links k,
          taken_there old letters few kept took gave k inside,
          subst (GaveSo serve end (took k) (is_done old.links k) (slice_index_or before.calls.gave k []) room) (core.some-injective w.0 taking (sym (ap taken w.1) ∙ e)) (gave_there x room w.0 w.2.from same),
        )))
    offers_asides _ answer w = one_offers old.plan k serve end before (record { seat = i; answer = answer }) Unasked w.0 refl

    pub read_offers : (first : First) (answer : Answer) → MadeRead (table_of old) (table_of fresh) i reader reader' first answer → AreOffered old.plan k serve end before (record { seat = i; answer = answer } ∷ [])
    read_offers (OfTable call) answer w = one_offers old.plan k serve end before (record { seat = i; answer = answer }) Unasked w.0 refl
    read_offers (OfAside step) answer w = offers_asides step answer w
    read_offers _ answer w = absurd w
