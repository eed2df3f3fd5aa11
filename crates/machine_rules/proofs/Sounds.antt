-- What a sound machine says of the next step of a seat.
use Rattle.std.proofs.Common.{◌≡◌, ◌≢◌, refl, ℕ, ◌<◌, Bool, true, false, List, [], ◌∷◌, map, length, slice_index_or, Option, Some, None, ap, sym, ◌∙◌, subst}
use mathlib.Core.Option as core
use mathlib.Core.List.{cons-ne-nil}
use lib.ListN.{get_elem?}
use Rattle.sock_words.specs.declared.plain.Plan.{Plan}
use Rattle.corr_core.specs.declared.marks.Plan.{Plan as IdPlan}
use Rattle.sock_model.specs.declared.chain.Heading.{Heading}
use Rattle.sock_model.specs.declared.chain.Right.{Right}
use Rattle.sock_model.specs.declared.home.Home.{Home}
use Rattle.sock_model.specs.declared.home.Home.TheVariants.{Link, Message}
use Rattle.sock_model.specs.declared.view.View.{View}
use Rattle.sock_model.specs.declared.view.Hand.{Hand}
use Rattle.seat_programs.specs.declared.task.Sizes.{Sizes}
use Rattle.seat_programs.specs.TableSteps as calls
use Rattle.seat_programs.specs.Asides as asides
use Rattle.seat_programs.specs.Programs.{Program, Do, TakeMessage, TakeHome, PutHome, PutBytes, AskReady, Write, Aside, Round}
use Rattle.seat_programs.specs.Writings as heads
use Rattle.seat_programs.specs.LoopRounds.{round, first_step}
use Rattle.seat_programs.specs.Ticks.{quiet}
use Rattle.seat_programs.specs.Cores.{Core, SeatState, link_place, found_at}
use Rattle.seat_programs.specs.StepTables.{word_of}
use Rattle.seat_programs.specs.ScriptSetupToEnding.{sizes_of}
use Rattle.seat_programs.specs.StepTables.{May}
use Rattle.machine_model.specs.program_steps.specs.ProgramGoesOn.{GoesOn}
use Rattle.machine_model.specs.program_steps.specs.SoundSeats.{IsOfRight, AreInHand, AreHeld, Allows, AllowsStep}
use Rattle.machine_model.specs.sock_runs.proofs.HeldLinksByRights.{held_in_hand}
use Rattle.machine_model.specs.program_steps.proofs.TickCases.{goes_first}
use Rattle.machine_model.specs.sock_runs.proofs.AllowedNextSteps.{sound_allows, view_there}
use Rattle.machine_model.specs.run_theorems.specs.Below.programs_allowed.proofs.RetryAllowed.{retries_go}
use Rattle.machine_model.specs.id_runs.specs.HeldIdTokens.{IdView, MayId}
use Rattle.machine_model.specs.id_runs.specs.Goes.{IdGoesOn, FitsSock, FitsFirst}
use Rattle.machine_model.specs.id_runs.specs.Goes as goes
use Rattle.machine_model.specs.run_theorems.specs.Below.joint_runs.proofs.Joint.{is_fitting_ids}
use Rattle.call_points.specs.AsideCodeSteps.{aside_of, aside_in}
use Rattle.call_slots.proofs.IdTableFitting.{may_next}
use Rattle.seat_states.specs.ProgramStepsOfMachine.{First, OfTable, OfAside, OfMessage, first_of, first_in}
use Rattle.seat_states.specs.ProgramStepsOfMachine as kinds
use Rattle.seat_states.proofs.StepFacts.{FitsSizes}
use Rattle.machine_model.specs.declared.home_message.HomeMessage.{HomeMessage}
use Rattle.machine_model.specs.MachineLinks.{LinksData, Taken, holder_of, is_done, link_home, homes_of, hand_of}
use Rattle.machine_model.specs.Machines.{MachineState, IsSoundMachine, table_of, machine_sizes, state_of, core_with, IsSized}
use Rattle.machine_rules.proofs.HandsAndHomes.{HasNone, home_at}
use Rattle.machine_rules.proofs.HolderOfLink.{none_of, only_of, nothing_held}
use Rattle.machine_model.proofs.FirstSteps.{same_some, first_is}
use Rattle.machine_rules.proofs.Ticked.{MayAsk, MayCall, MayMake}

-- ## What the views say

-- a home that isn't empty is that of a link that nobody has in hand
home_free : (l : LinksData) (took : Taken) (k : ℕ) (o : Option ℕ) (y : Home) → holder_of l k ≡ o → link_home l took k ≡ core.some y → holder_of l k ≡ None
home_free l took k None y e h = e
home_free l took k (Some i) y e h = let f : link_home l took k ≡ core.none = rw e refl in absurd (core.some-ne-none y (sym h ∙ f))

one_held : (hand : List Home) (hands : List Hand) (k : ℕ) → map (λ (h : Hand). h.link) hands ≡ k ∷ [] → AreInHand hand hands → (ts : List ℕ) × (n : ℕ) × (d : Bool) × (hand ≡ Link k ts n d ∷ [])
one_held [] [] k e are = absurd (cons-ne-nil k [] (sym e))
one_held [] (h ∷ hs) k e are = absurd are
one_held (x ∷ xs) [] k e are = absurd are
one_held (x ∷ []) (h ∷ []) k e are = let f : h.link ≡ k = cc in (h.took, h.next, are.0.0, ap (λ (y : Home). y ∷ []) (are.0.1 ∙ ap (λ j. Link j h.took h.next are.0.0) f))
one_held (x ∷ []) (h ∷ g ∷ hs) k e are = cc
one_held (x ∷ y ∷ xs) (h ∷ []) k e are = absurd are.1
one_held (x ∷ y ∷ xs) (h ∷ g ∷ hs) k e are = cc

at_home_held : (hand : List Home) (r : Right) (hands : List Hand) → r.at_home ≡ true → AreHeld hand (r ∷ []) hands → AreInHand hand hands
at_home_held hand r hands e held = subst (λ b. elim b as (λ b. Type 0) [ true ↦ AreInHand hand hands | false ↦ (x : Home) × (others : List Home) × (hand ≡ x ∷ others) × IsOfRight r x × AreInHand others hands ]) e held

abbrev pub HasBytes : calls.TableStep → Type 0
HasBytes (calls.OnMessage (calls.PutMessage q heading bytes)) = bytes ≢ []
HasBytes other = Unit {0}

-- what is known of a step besides what is asked of it
abbrev pub Known : Plan → Sizes → LinksData → Core → First → Type 0
Known p sizes l c (OfTable call) = Allows p c call × FitsSizes sizes call × HasBytes call
Known p sizes l c (OfMessage q) = (q < p.requests) × ((heading : Heading) × (bytes : List ℕ) × (get_elem? c.homes q ≡ core.some (core.some (Message heading bytes))))
Known p sizes l c (kinds.OfPut k asked bytes) = (bytes ≢ []) × (is_done l k ≡ false)
Known p sizes l c (kinds.OfReady k) = is_done l k ≡ false
Known p sizes l c other = Unit {0}

module _ (p : Plan) (q : IdPlan) (letters : List (Option HomeMessage)) (sized : length letters ≡ p.requests) (l : LinksData) (took : Taken) (many : length l.holders ≡ p.links) (i : ℕ) (c : Core) (homes : c.homes ≡ homes_of l p letters took)
    (seat : SeatState) (hand : seat.hand ≡ hand_of l p.links took i) (v : View) (held : AreHeld seat.hand v.rights v.hands) where
  free_link : (k : ℕ) (y : Home) → k < p.links → get_elem? c.homes (link_place p k) ≡ core.some (core.some y) → holder_of l k ≡ None
  free_link k y inside at = home_free l took k (holder_of l k) y refl (core.some-injective (link_home l took k) (core.some y) (sym (home_at p letters sized l took k inside) ∙ sym (ap (λ hs. get_elem? hs (link_place p k)) homes) ∙ at))

  quiet_hand : v.rights ≡ [] → v.hands ≡ [] → HasNone l i
  quiet_hand none_ empty = none_of l took i p.links many (sym hand ∙ nothing_held seat.hand v.hands empty (held_in_hand seat.hand v.rights v.hands none_ held))

  own_hand : (k : ℕ) → v.rights ≡ [] → map (λ (h : Hand). h.link) v.hands ≡ k ∷ [] → MayAsk p l i k
  own_hand k none_ one = let h = one_held seat.hand v.hands k one (held_in_hand seat.hand v.rights v.hands none_ held) in let r = only_of l took i p.links many k h.0 h.1 h.2 (sym hand ∙ h.3) in (r.0, r.1)

  writer_hand : (k : ℕ) → (ts : List ℕ) × (n : ℕ) × (seat.hand ≡ Link k ts n false ∷ []) → MayAsk p l i k
  writer_hand k h = let r = only_of l took i p.links many k h.0 h.1 false (sym hand ∙ h.2) in (r.0, r.1)

  writer_done : (k : ℕ) → (ts : List ℕ) × (n : ℕ) × (seat.hand ≡ Link k ts n false ∷ []) → is_done l k ≡ false
  writer_done k h = let r = only_of l took i p.links many k h.0 h.1 false (sym hand ∙ h.2) in done_is k (took k) (slice_index_or l.nexts k 0) (is_done l k) h.0 h.1 r.2
    where
      done_is : (k : ℕ) (ts : List ℕ) (m : ℕ) (d : Bool) (us : List ℕ) (n : ℕ) → Link k ts m d ≡ Link k us n false → d ≡ false
      done_is k ts m d us n e = cc

  may_call : (call : calls.TableStep) → May p v call → Allows p c call → MayCall p l i call
  may_call (calls.OnLink (calls.TakeLink k)) may allows = (may.0, (let a = allows.2 in free_link k _ may.0 a.1.3), quiet_hand may.3 may.1)
  may_call (calls.OnLink (calls.FinishLink k)) may allows = own_hand k may.2 may.1
  may_call (calls.OnLink (calls.PutLink k)) may allows = own_hand k may.2 may.1
  may_call (calls.OnMessage (calls.PutMessage r heading bytes)) may allows = may.0
  may_call _ may allows = tt

  fits_sizes : (call : calls.TableStep) → May p v call → Allows p c call → FitsSizes (sizes_of p q) call
  fits_sizes (calls.OnSlot (calls.ClaimSlot j)) may allows = may
  fits_sizes (calls.OnChain (calls.ClaimRequest id r)) may allows = may.0
  fits_sizes (calls.OnPlace (calls.StorePlace a k n)) may allows = allows.1
  fits_sizes (calls.OnPlace (calls.DropPlace a k n)) may allows = allows.1
  fits_sizes _ may allows = tt

  has_bytes : (call : calls.TableStep) → May p v call → HasBytes call
  has_bytes (calls.OnMessage (calls.PutMessage r heading bytes)) may = may.3
  has_bytes _ may = tt

  abbrev Says : First → Type 0
  Says first = MayMake p l i first × Known p (sizes_of p q) l c first

  by_program : (program : Program) (first : First) → first_of program ≡ Some first → GoesOn p v program → AllowsStep p c seat program → Says first
  by_program (Do call next) first e goes allows = subst Says (same_some e) (may_call call goes.0 allows, (allows, fits_sizes call goes.0 allows, has_bytes call goes.0))
  by_program (Aside step next) first e goes allows = subst Says (same_some e) (tt, tt)
  by_program (TakeMessage r next) first e goes allows = subst Says (same_some e) (tt, (allows.0, (allows.1.0, allows.1.1, allows.1.2)))
  by_program (TakeHome k next) first e goes allows = let r : Right = goes.0 in let w = goes.1 in
      subst Says (same_some e) (
        (
          allows.0,
          free_link k _ allows.0 allows.1.2,
          none_of l took i p.links many (sym hand ∙ nothing_held seat.hand v.hands w.3 (at_home_held seat.hand r v.hands w.2 (subst (λ (rs : List Right). AreHeld seat.hand rs v.hands) w.0 held))),
        ),
        tt,
      )
  by_program (PutHome k n after) first e goes allows = subst Says (same_some e) (writer_hand k allows.1, tt)
  by_program (PutBytes k asked bytes next) first e goes allows = subst Says (same_some e) (writer_hand k allows.0.1, (allows.1, writer_done k allows.0.1))
  by_program (AskReady k next) first e goes allows = subst Says (same_some e) (writer_hand k allows.1, writer_done k allows.1)
  by_program _ first e goes allows = cc

-- ## What the ids say

aside_is : (program : Program) (step : asides.Step) → first_of program ≡ Some (OfAside step) → aside_of program ≡ Some step
aside_is (Aside own next) step e = let same : own ≡ step = cc in ap Some same
aside_is _ step e = absurd (cc)

-- a step aside isn't the first of a block of whoever writes
aside_next : (program : Program) (step : asides.Step) → first_in program ≡ Some (OfAside step) → aside_in program ≡ Some step
aside_next (Write (heads.Puts h now heading left taken asked) after) step e = absurd (cc)
aside_next (Write (heads.Waits h now heading left taken) after) step e = absurd (cc)
aside_next (Write (heads.Empties h) after) step e = absurd (cc)
aside_next (Write (heads.Reversing h top at after) then_) step e = absurd (cc)
aside_next (Round head next) step e = aside_is (round head next) step e
aside_next (Aside own next) step e = aside_is (Aside own next) step e
aside_next _ step e = absurd (cc)

-- what a step on a word finds is as the ids rely on
abbrev FindsFor : Plan → Core → First → Type 0
FindsFor p c (OfTable call) = FitsSock call (found_at c.words (word_of p call))
FindsFor p c other = Unit {0}

fits_word : (p : Plan) (c : Core) (program : Program) (call : calls.TableStep) → first_of program ≡ Some (OfTable call) → FitsFirst p c program → FitsSock call (found_at c.words (word_of p call))
fits_word p c (Do own next) call e fits = subst (FindsFor p c) (same_some e) fits
fits_word p c _ call e fits = absurd (cc)

-- ## The next step of a seat

module _ (m : MachineState) (sized : IsSized (table_of m)) (s : IsSoundMachine m) (i : ℕ) (program : Program) (own_at : get_elem? (core_with m s.took s.gave).seats i ≡ core.some (state_of m.plan m.links s.took program i)) where
  abbrev c : Core
  c = core_with m s.took s.gave

  abbrev own : SeatState
  own = state_of m.plan m.links s.took program i

  -- its view, and that of the ids
  view : (v : View) × (get_elem? s.views i ≡ core.some v)
  view = view_there c.seats s.views i own s.sound.each own_at (get_elem? s.views i) refl

  pub id_view : (u : IdView) × (get_elem? s.id_views i ≡ core.some u)
  id_view = view_there c.seats s.id_views i own s.ids.each own_at (get_elem? s.id_views i) refl

  pub id_goes : IdGoesOn m.plan m.ids.plan id_view.0 program
  id_goes = s.ids.seats i own id_view.0 own_at id_view.1

  pub id_may : (step : asides.Step) → first_in program ≡ Some (OfAside step) → MayId m.plan m.ids.plan id_view.0 step
  id_may step next = may_next m.plan m.ids.plan id_view.0 step program id_goes (aside_next program step next)

  -- what its view and the core say
  pub known_first : (first : First) → first_in program ≡ Some first → MayMake m.plan m.links i first × Known m.plan (machine_sizes m) m.links c first
  known_first first next = let v = view in let old = s.sound.seats i own v.0 own_at v.1 in
      by_program m.plan m.ids.plan m.letters sized.letters_are m.links s.took sized.holders_are i c refl own refl v.0 old.hand (first_step program) first
      (sym (first_is program) ∙ next) (goes_first m.plan v.0 program old.goes_on) (sound_allows m.plan (retries_go m.plan s.sound.limits.requests) c s.views i own v.0 s.sound s.few own_at v.1)

  pub finds_word : (call : calls.TableStep) → first_in program ≡ Some (OfTable call) → FitsSock call (found_at m.words (word_of m.plan call))
  finds_word call next = fits_word m.plan c (first_step program) call (sym (first_is program) ∙ next)
      (is_first program (is_fitting_ids m.plan m.ids.plan c s.views s.id_views s.sound s.ids (quiet i) own own_at))
    where
      is_first : (x : Program) → FitsFirst m.plan c (first_step x) → FitsFirst m.plan c (first_step x)
      is_first (Write w after) f = f
      is_first _ f = f
