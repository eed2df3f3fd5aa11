-- What a step makes of the links, as they would be given back.
use Rattle.std.proofs.Common.{◌≡◌, ◌≢◌, refl, ℕ, zero, suc, ◌+◌, ◌<◌, ◌⊎◌, inr, ⊎_elim, Bool, true, false, List, [], ◌∷◌, ◌++◌, ◌==◌, Option, None, if◌then◌else◌, cond, map, filter, eq-eqb, ne_eqb, length, slice_set, Some, ap, sym, ◌∙◌, arith, subst}
use Rattle.std.proofs.lemmas.List.{get_or-set_same, get_or-set_other}
use Rattle.std.proofs.lemmas.List.Elements.{Contains-push_cases}
use Rattle.std.proofs.lemmas.Option.{get_or_from_slice_get, same_Some}
use Rattle.std.proofs.Math.ListN.{length-set}
use native.Mathlib.Decide.{ℕ_discrete}
use mathlib.Core.Logic.{dite}
use Rattle.std.specs.Prelude.{slice_get}
use Rattle.atomic_table.proofs.Lists.{at_set}
use mathlib.Core.Option as core
use lib.ListN.{get_elem?}
use Rattle.brpc_model.specs.ReturnedLink.{LinkEnd, HalfAnswer}
use Rattle.sock_io.specs.declared.link.Put.{Put}
use Rattle.sock_io.specs.declared.link.Put.TheVariants as puts
use Rattle.sock_io.specs.declared.link.Ready.{Ready}
use Rattle.sock_io.specs.declared.link.Ready.TheVariants as asks
use Rattle.sock_io.specs.LinkHalves.{OutState, InState, PutStep, ReadyStep, of_put, of_ready, more_told}
use Rattle.machine_model.specs.run_theorems.specs.Heard.{half_of, as_told, heard_at}
use Rattle.sock_io.specs.FaultCauses.{Rose}
use Rattle.seat_programs.specs.TableSteps as calls
use Rattle.seat_programs.specs.Writings.{Waits}
use Rattle.seat_programs.specs.Programs.{Program, PutBytes, AskReady, Write, Aside, Round}
use Rattle.corr_core.specs.IdSlotWord.{parts, code_of}
use Rattle.corr_core.proofs.NoteSums.{at_length}
use Rattle.corr_core.specs.EndedByRangeOrAttempt.{ends_call}
use Rattle.seat_programs.specs.Asides.{PutCall}
use Rattle.seat_programs.specs.LoopHeads.{Unlocks, Decides, Locks, HasEnded}
use Rattle.seat_programs.specs.PostPrograms.{end_id, unlocked}
use Rattle.seat_states.specs.declared.point.Step.{Step}
use Rattle.seat_programs.specs.Cores.{Core, SeatState}
use Rattle.seat_programs.specs.Ticks.{Answer, Unasked, OfPut, OfReady, asked_link, broken_at}
use Rattle.seat_states.specs.ProgramStepsOfMachine.{First, OfTable, OfAside, OfMessage, OfLink, OfHome, first_of, first_in}
use Rattle.seat_states.specs.ProgramStepsOfMachine as kinds
use Rattle.client_seats.specs.ClientSeatState.{SeatData}
use Rattle.machine_model.specs.MachineLinks.{LinksData, AreAlwaysReady, TellClosing, is_done}
use Rattle.machine_model.specs.Machines.{MachineState, table_of}
use Rattle.machine_model.specs.MachineSteps.{OutsAfter, MadeFirst, LinkAsked}
use Rattle.machine_model.specs.MachineRuns.{SameLink, SameLinks, ShowFaults, LinksTell}
use Rattle.machine_model.proofs.FirstSteps.{same_some}
use Rattle.machine_ticks.proofs.JoiningRuns.{show_faults_none, more_none, tells_none}
use Rattle.machine_model.proofs.Same.{same_link_none}
use Rattle.sock_words.specs.PackedWords.{id_slot}

-- a link that is asked isn't finished
abbrev pub AsksUnfinished : LinksData → First → Type 0
AsksUnfinished l (kinds.OfPut k asked bytes) = is_done l k ≡ false
AsksUnfinished l (kinds.OfReady k) = is_done l k ≡ false
AsksUnfinished l other = Unit {0}

-- ## Prompt links

pub prompt_same : (l l' : LinksData) → l'.outs ≡ l.outs → AreAlwaysReady l → AreAlwaysReady l'
prompt_same l l' same always_ready k out at = always_ready k out (sym (ap (λ (os : List OutState). get_elem? os k) same) ∙ at)

prompt_set : (l l' : LinksData) (k : ℕ) (out out' : OutState) → get_elem? l.outs k ≡ core.some out → l'.outs ≡ slice_set l.outs k out' → out'.always_ready ≡ out.always_ready → AreAlwaysReady l → AreAlwaysReady l'
prompt_set l l' k out out' at outs same always_ready j other there = ⊎_elim
    (λ a. subst (λ (o : OutState). o.always_ready ≡ true) a.1 (same ∙ always_ready k out at))
    (λ a. always_ready j other a.1)
    (at_set l.outs k j out' other (sym (ap (λ (os : List OutState). get_elem? os j) outs) ∙ there))

pub prompt_call : (call : calls.TableStep) (l l' : LinksData) → OutsAfter call l.outs l'.outs → AreAlwaysReady l → AreAlwaysReady l'
prompt_call (calls.OnLink (calls.FinishLink k)) l l' o = prompt_set l l' k o.0 o.1 o.2 o.3 o.4.same.always_ready
prompt_call _ l l' o = prompt_same l l' o

-- ## Links that tell whether their other ends closed them

pub tell_same : (l l' : LinksData) → l'.inns ≡ l.inns → TellClosing l → TellClosing l'
tell_same l l' same tell k inn at = tell k inn (sym (ap (λ (is : List InState). get_elem? is k) same) ∙ at)

-- ## The same links

pub links_kept : (old fresh : MachineState) → fresh.ends ≡ old.ends → (AreAlwaysReady old.links → AreAlwaysReady fresh.links) → (TellClosing old.links → TellClosing fresh.links) → SameLinks old fresh
links_kept old fresh ends always_ready tell = record {
  as_many = ap length ends;
  each = λ k x y at also. subst (SameLink x) (same_Some x y (sym at ∙ ap (λ (es : List LinkEnd). slice_get es k) (sym ends) ∙ also)) (same_link_none x);
  always_ready = always_ready;
  tell = tell;
}

-- what stands where it was written
pub behind_is : (es : List LinkEnd) (k : ℕ) (b e : LinkEnd) → k < length es → slice_get (slice_set es k b) k ≡ Some e → b ≡ e
behind_is es k b e inside at = sym (get_or-set_same es k b e inside) ∙ get_or_from_slice_get (slice_set es k b) k e e at

rest_at : (xs : List LinkEnd) (x : LinkEnd) (n : ℕ) (b : LinkEnd) → slice_get (x ∷ xs) (suc n) ≡ Some b → slice_get xs n ≡ Some b
rest_at xs x n b g = g

pub first_is : (es : List LinkEnd) (n : ℕ) (a b : LinkEnd) → get_elem? es n ≡ core.some a → slice_get es n ≡ Some b → a ≡ b
first_is [] n a b e f = cc
first_is (x ∷ xs) zero a b e f = cc
first_is (x ∷ xs) (suc n) a b e f = first_is xs n a b e (rest_at xs x n b f)

pub get_set_other : (es : List LinkEnd) (k j : ℕ) (b : LinkEnd) → (j ≡ k → ⊥) → slice_get (slice_set es k b) j ≡ slice_get es j
get_set_other [] k j b differ = refl
get_set_other (x ∷ xs) zero zero b differ = absurd (differ refl)
get_set_other (x ∷ xs) zero (suc j) b differ = refl
get_set_other (x ∷ xs) (suc k) zero b differ = refl
get_set_other (x ∷ xs) (suc k) (suc j) b differ = get_set_other xs k j b (λ e. differ (ap suc e))

pub links_set : (old fresh : MachineState) (k : ℕ) (before behind : LinkEnd) → get_elem? old.ends k ≡ core.some before → fresh.ends ≡ slice_set old.ends k behind → SameLink before behind → (AreAlwaysReady old.links → AreAlwaysReady fresh.links) → (TellClosing old.links → TellClosing fresh.links) → SameLinks old fresh
links_set old fresh k before behind at ends same always_ready tell = record {
  as_many = ap length ends ∙ length-set old.ends k behind;
  each = λ j x y there also. let also' : slice_get (slice_set old.ends k behind) j ≡ Some y = ap (λ (es : List LinkEnd). slice_get es j) (sym ends) ∙ also in dite (ℕ_discrete j k)
      (λ e. let inside = at_length old.ends k before at in
      let y_is : behind ≡ y = behind_is old.ends k behind y inside (subst (λ n. slice_get (slice_set old.ends k behind) n ≡ Some y) e also') in
      let x_is : before ≡ x = first_is old.ends k before x at (subst (λ n. slice_get old.ends n ≡ Some x) e there) in
      subst (λ (z : LinkEnd). SameLink z y) x_is (subst (SameLink before) y_is same))
      (λ differ. subst (SameLink x) (sym (get_or_from_slice_get old.ends j x y there) ∙ sym (get_or-set_other old.ends k j behind y differ) ∙ get_or_from_slice_get (slice_set old.ends k behind) j y y also') (same_link_none x));
  always_ready = always_ready;
  tell = tell;
}

module _ (old fresh : MachineState) (i : ℕ) (place seat' : SeatData) (step : Step) where
  asked_links : {k : ℕ} {next : Program} {HasAnswered : OutState → OutState → Type 0} → LinkAsked (table_of old) (table_of fresh) i place seat' k next HasAnswered →
      ((out out' : OutState) → HasAnswered out out' → out'.always_ready ≡ out.always_ready) → SameLinks old fresh
  asked_links {k} w stays = let a = w.asked in links_set old fresh k a.before a.behind a.end_at a.ends_are a.same (prompt_set old.links fresh.links k a.out a.out' a.at a.outs_are (stays a.out a.out' a.answered)) (tell_same old.links fresh.links w.goes.base.inns)

  -- the links stay those that they were
  pub made_links : (first : First) (answer : Answer) → MadeFirst (table_of old) (table_of fresh) i place seat' step first answer → SameLinks old fresh
  made_links (OfTable call) answer w = links_kept old fresh w.1.ends (prompt_call call old.links fresh.links w.1.outs) (tell_same old.links fresh.links w.1.goes.base.inns)
  made_links (kinds.OfPut k asked bytes) answer w = asked_links w.2 (λ out out' step. step.same.always_ready)
  made_links (kinds.OfReady k) answer w = asked_links w.2 (λ out out' step. step.same.always_ready)
  made_links _ answer w = links_kept old fresh w.1.ends (prompt_same old.links fresh.links (ap (λ (l : LinksData). l.outs) w.1.links)) (tell_same old.links fresh.links w.1.goes.base.inns)

  -- a prompt link answers in time
  pub made_prompt : (first : First) (answer : Answer) → MadeFirst (table_of old) (table_of fresh) i place seat' step first answer → AreAlwaysReady old.links → answer ≢ OfReady asks.NotYet
  made_prompt (kinds.OfPut k asked bytes) answer w always_ready yet = let e = w.1 in cc
  made_prompt (kinds.OfReady k) answer w always_ready yet = let a = w.2.asked in let e = w.1 in a.answered.always_ready (always_ready k a.out a.at) (let f : w.0 ≡ asks.NotYet = cc in f)
  made_prompt _ answer w always_ready yet = let e = w.0 in cc

  -- ## Links that failed

  some_fault : (before now : ℕ) → Rose before now → 0 < now
  some_fault before now rose = omega (arith, rose)

  fault_shown : {k : ℕ} {next : Program} {HasAnswered : OutState → OutState → Type 0} (w : LinkAsked (table_of old) (table_of fresh) i place seat' k next HasAnswered) → Rose w.asked.out.faults w.asked.out'.faults →
      (ks : List ℕ) → (ks ≡ []) ⊎ (ks ≡ k ∷ []) → ShowFaults fresh ks
  fault_shown {k} w rose ks is = ⊎_elim
      (λ e. subst (ShowFaults fresh) (sym e) (show_faults_none fresh))
      (λ e. subst (ShowFaults fresh) (sym e) (λ j x has at. ⊎_elim
      (λ h. let inside = h.1 in absurd (omega (arith, inside)))
      (λ same. let a = w.asked in
      let x_is : a.behind ≡ x = behind_is old.ends k a.behind x (at_length old.ends k a.before a.end_at) (ap (λ (es : List LinkEnd). slice_get es k) (sym a.ends_are) ∙ subst (λ n. slice_get fresh.ends n ≡ Some x) (sym same) at) in
      subst (λ (z : LinkEnd). 0 < z.put_faults) x_is (subst (λ n. 0 < n) (sym a.faults) (some_fault a.out.faults a.out'.faults rose)))
      (Contains-push_cases [] k j has)))
      is

  done_at : (k : ℕ) (out : OutState) → get_elem? old.links.outs k ≡ core.some out → is_done old.links k ≡ false → out.finished ≡ false
  done_at k out at done = sym (ap (λ (o : core.Option OutState). elim o as (λ x. Bool) [ core.none ↦ false | core.some x ↦ x.finished ]) at) ∙ done

-- no link is asked in a first step
abbrev AsksNoLink : Option First → Type 0
AsksNoLink (Some (kinds.OfPut k asked bytes)) = ⊥
AsksNoLink (Some (kinds.OfReady k)) = ⊥
AsksNoLink other = Unit {0}

-- the link that is asked is that of the first step
abbrev pub IsAsked : First → List ℕ → Type 0
IsAsked (kinds.OfPut k asked bytes) ks = ks ≡ k ∷ []
IsAsked (kinds.OfReady k) ks = ks ≡ k ∷ []
IsAsked other ks = ks ≡ []

asks_none : (o : Option First) (first : First) → o ≡ Some first → AsksNoLink o → IsAsked first []
asks_none o (kinds.OfPut k asked bytes) e none_ = absurd (subst AsksNoLink e none_)
asks_none o (kinds.OfReady k) e none_ = absurd (subst AsksNoLink e none_)
asks_none o _ e none_ = refl

pub asks_first : (program : Program) (first : First) → first_in program ≡ Some first → IsAsked first (asked_link program)
asks_first (PutBytes k asked bytes next) first e = subst (λ (f : First). IsAsked f (k ∷ [])) (same_some e) refl
asks_first (AskReady k next) first e = subst (λ (f : First). IsAsked f (k ∷ [])) (same_some e) refl
asks_first (Write (Waits h now heading left taken) after) first e = subst (λ (f : First). IsAsked f (h.link ∷ [])) (same_some e) refl
asks_first (Round (Decides id asked w error) next) first e = asks_none _ first e (elim (ends_call (parts w) error) as (λ (ends : Bool). AsksNoLink (first_of (if ends then end_id (id_slot id) (next (HasEnded asked.operation (code_of error))) else Aside (PutCall (id_slot id) asked) (λ _. Round (Unlocks (id_slot id) w true) (unlocked (record { id = id; attempt = (parts w).attempt + 1 }) next))))) [ true ↦ tt | false ↦ tt ])
asks_first (Round (Locks i sought None) next) first e = asks_none _ first e tt
asks_first _ first e = asks_none _ first e tt

module _ (old fresh : MachineState) (i : ℕ) (c : Core) (seat : SeatState) (there : get_elem? c.seats i ≡ core.some seat) (place seat' : SeatData) (step : Step) where
  none_broken : ShowFaults fresh []
  none_broken = show_faults_none fresh

  at_seat : (ks : SeatState → List ℕ) → ShowFaults fresh (ks seat) → ShowFaults fresh (elim (get_elem? c.seats i) as (λ o. List ℕ) [ core.none ↦ [] | core.some s ↦ ks s ])
  at_seat ks shown = subst (λ (o : core.Option SeatState). ShowFaults fresh (elim o as (λ x. List ℕ) [ core.none ↦ [] | core.some s ↦ ks s ])) (sym there) shown

  put_broken : (k : ℕ) (asked : Bool) (bytes : List ℕ) (put : Put) (next : Program) → LinkAsked (table_of old) (table_of fresh) i place seat' k next (λ out out'. PutStep out out' bytes put) →
      first_in seat.program ≡ Some (kinds.OfPut k asked bytes) → is_done old.links k ≡ false → ShowFaults fresh (broken_at c (record { seat = i; answer = OfPut put }))
  put_broken k asked bytes (puts.Took n) next w first done = none_broken
  put_broken k asked bytes puts.Again next w first done = none_broken
  put_broken k asked bytes puts.Failed next w first done = let a = w.asked in
      at_seat (λ s. asked_link s.program) (fault_shown old fresh i place seat' step w (a.answered.failed refl (done_at old fresh i place seat' step k a.out a.at done)) (asked_link seat.program) (inr (asks_first seat.program (kinds.OfPut k asked bytes) first)))

  ready_broken : (k : ℕ) (ready : Ready) (next : Program) → LinkAsked (table_of old) (table_of fresh) i place seat' k next (λ out out'. ReadyStep out out' ready) →
      first_in seat.program ≡ Some (kinds.OfReady k) → is_done old.links k ≡ false → ShowFaults fresh (broken_at c (record { seat = i; answer = OfReady ready }))
  ready_broken k asks.Now next w first done = none_broken
  ready_broken k asks.NotYet next w first done = none_broken
  ready_broken k asks.Failed next w first done = let a = w.asked in
      at_seat (λ s. asked_link s.program) (fault_shown old fresh i place seat' step w (a.answered.failed refl (done_at old fresh i place seat' step k a.out a.at done)) (asked_link seat.program) (inr (asks_first seat.program (kinds.OfReady k) first)))

  unasked : (answer : Answer) → answer ≡ Unasked → ShowFaults fresh (broken_at c (record { seat = i; answer = answer }))
  unasked answer e = subst (λ (a : Answer). ShowFaults fresh (broken_at c (record { seat = i; answer = a }))) (sym e) none_broken

  -- a link that answered that it failed shows it
  pub made_broken : (first : First) (answer : Answer) → MadeFirst (table_of old) (table_of fresh) i place seat' step first answer → first_in seat.program ≡ Some first → AsksUnfinished old.links first →
      ShowFaults fresh (broken_at c (record { seat = i; answer = answer }))
  made_broken (kinds.OfPut k asked bytes) answer w first open_ = subst (λ (a : Answer). ShowFaults fresh (broken_at c (record { seat = i; answer = a }))) (sym w.1) (put_broken k asked bytes w.0 _ w.2 first open_)
  made_broken (kinds.OfReady k) answer w first open_ = subst (λ (a : Answer). ShowFaults fresh (broken_at c (record { seat = i; answer = a }))) (sym w.1) (ready_broken k w.0 _ w.2 first open_)
  made_broken _ answer w first open_ = unasked answer w.0

  -- ## What links answered

  heard_is : (answer : Answer) (k : ℕ) → map (λ (j : ℕ). answer) (filter (λ (j : ℕ). j == k) (asked_link seat.program)) ≡ heard_at c (record { seat = i; answer = answer }) k
  heard_is answer k = ap (λ (o : core.Option SeatState). elim o as (λ x. List Answer) [ core.none ↦ [] | core.some s ↦ map (λ (j : ℕ). answer) (filter (λ (j : ℕ). j == k) (asked_link s.program)) ]) (sym there)

  -- where none is asked
  told_none : (answer : Answer) → asked_link seat.program ≡ [] → fresh.ends ≡ old.ends → LinksTell old fresh (heard_at c (record { seat = i; answer = answer }))
  told_none answer none_ ends = tells_none old fresh ends (heard_at c (record { seat = i; answer = answer }))
      (λ k. sym (heard_is answer k) ∙ ap (λ (ks : List ℕ). map (λ (j : ℕ). answer) (filter (λ (j : ℕ). j == k) ks)) none_)

  -- where one is asked
  told_asked : (k : ℕ) (answer : Answer) (half : HalfAnswer) (next : Program) (HasAnswered : OutState → OutState → Type 0) → LinkAsked (table_of old) (table_of fresh) i place seat' k next HasAnswered →
      ((out out' : OutState) → HasAnswered out out' → out'.answers ≡ more_told out.answers (half ∷ [])) → half_of answer ≡ half ∷ [] → asked_link seat.program ≡ k ∷ [] → LinksTell old fresh (heard_at c (record { seat = i; answer = answer }))
  told_asked k answer half next HasAnswered w tells half_is asks = let a = w.asked in record {
    each = λ j x y at also. let also' : slice_get (slice_set old.ends k a.behind) j ≡ Some y = ap (λ (es : List LinkEnd). slice_get es j) (sym a.ends_are) ∙ also in dite (ℕ_discrete j k)
        (λ e. let inside = at_length old.ends k a.before a.end_at in
        let y_is : a.behind ≡ y = behind_is old.ends k a.behind y inside (subst (λ n. slice_get (slice_set old.ends k a.behind) n ≡ Some y) e also') in
        let x_is : a.before ≡ x = first_is old.ends k a.before x a.end_at (subst (λ n. slice_get old.ends n ≡ Some x) e at) in
        ap (λ (z : LinkEnd). z.answers) (sym y_is) ∙ a.told ∙ tells a.out a.out' a.answered
        ∙ ap (λ (o : Option (List HalfAnswer)). more_told o (half ∷ [])) (sym a.told_before ∙ ap (λ (z : LinkEnd). z.answers) x_is)
        ∙ ap (more_told x.answers) (sym (heard_one j e)))
        (λ differ. ap (λ (z : LinkEnd). z.answers) (same_Some y x (sym also' ∙ other_there j differ ∙ at)) ∙ sym (more_none x.answers) ∙ ap (λ (l : List Answer). more_told x.answers (as_told l)) (sym (heard_other j differ)));
    none_beyond = λ j past. heard_other j (λ e. let inside = at_length old.ends k a.before a.end_at in omega (arith, inside, past, e));
  }
    where
      other_there : (j : ℕ) → (j ≡ k → ⊥) → slice_get (slice_set old.ends k w.asked.behind) j ≡ slice_get old.ends j
      other_there j differ = get_set_other old.ends k j w.asked.behind differ

      heard_one : (j : ℕ) → j ≡ k → as_told (heard_at c (record { seat = i; answer = answer }) j) ≡ half ∷ []
      heard_one j e = ap as_told (sym (heard_is answer j) ∙ ap (λ (ks : List ℕ). map (λ (n : ℕ). answer) (filter (λ (n : ℕ). n == j) ks)) asks ∙ ap (λ (b : Bool). map (λ (n : ℕ). answer) (cond b (k ∷ []) [])) (eq-eqb k j (sym e)))
          ∙ ap (λ (l : List HalfAnswer). l ++ []) half_is

      heard_other : (j : ℕ) → (j ≡ k → ⊥) → heard_at c (record { seat = i; answer = answer }) j ≡ []
      heard_other j differ = sym (heard_is answer j) ∙ ap (λ (ks : List ℕ). map (λ (n : ℕ). answer) (filter (λ (n : ℕ). n == j) ks)) asks ∙ ap (λ (b : Bool). map (λ (n : ℕ). answer) (cond b (k ∷ []) [])) (ne_eqb k j (λ e. differ (sym e)))

  -- the links tell what they answered
  pub made_told : (first : First) (answer : Answer) → MadeFirst (table_of old) (table_of fresh) i place seat' step first answer → first_in seat.program ≡ Some first → LinksTell old fresh (heard_at c (record { seat = i; answer = answer }))
  made_told (OfTable call) answer w first = told_none answer (asks_first seat.program (OfTable call) first) w.1.ends
  made_told (OfAside aside) answer w first = told_none answer (asks_first seat.program (OfAside aside) first) w.1.ends
  made_told (OfMessage q) answer w first = told_none answer (asks_first seat.program (OfMessage q) first) w.1.ends
  made_told (OfLink k) answer w first = told_none answer (asks_first seat.program (OfLink k) first) w.1.ends
  made_told (OfHome k n) answer w first = told_none answer (asks_first seat.program (OfHome k n) first) w.1.ends
  made_told (kinds.OfPut k asked bytes) answer w first =
      told_asked k answer (of_put w.0) _ _ w.2 (λ out out' step. step.answers) (ap half_of w.1) (asks_first seat.program (kinds.OfPut k asked bytes) first)
  made_told (kinds.OfReady k) answer w first =
      told_asked k answer (of_ready w.0) _ _ w.2 (λ out out' step. step.answers) (ap half_of w.1) (asks_first seat.program (kinds.OfReady k) first)
