-- What a link took behind a tick it had taken before it, or it is the front of what the link accepted by then.
use Rattle.std.proofs.Common.{◌≡◌, ℕ, suc, ◌<◌, ◌⊎◌, inl, inr, ⊎_elim, Bool, true, false, List, [], ◌∷◌, ◌++◌, take, drop, append_assoc, append-nil, sym, ap, ◌∙◌, subst}
use Rattle.std.proofs.lemmas.List.{take-append-drop}
use mathlib.Core.Option.{some, some-injective}
use lib.ListN.{get_elem?}
use Rattle.atomic_table.proofs.Lists.{at_set}
use Rattle.chain_steps.proofs.Delivers.{whole_suc}
use Rattle.chain_steps.proofs.ChainLettersStay.{writes_room}
use Rattle.chain_steps.proofs.TicketLists.{at_some}
use Rattle.sock_words.specs.declared.plain.Plan.{Plan}
use Rattle.sock_io.specs.declared.link.Put.{Put}
use Rattle.sock_io.specs.declared.link.Put.TheVariants.{Took, Again, Failed}
use Rattle.sock_model.specs.declared.chain.Entry.{Entry}
use Rattle.sock_model.specs.declared.chain.Right.{Right}
use Rattle.sock_model.specs.declared.home.Home.{Home}
use Rattle.sock_model.specs.declared.home.Home.TheVariants.{Link}
use Rattle.sock_model.specs.declared.view.View.{View}
use Rattle.sock_model.specs.Deliveries.{whole}
use Rattle.sock_model.specs.Entries.{on}
use Rattle.sock_model.specs.ChainLawReads.{tokens}
use Rattle.sock_steps.proofs.RightSteps.{right_in, right_alone}
use Rattle.seat_programs.specs.Programs.{Program, Do, TakeMessage, TakeHome, PutHome, PutBytes, AskReady, Aside}
use Rattle.seat_programs.specs.Cores.{Core, SeatState, with_seat}
use Rattle.seat_programs.specs.Ticks.{Moment, IsAnswered, fed, onto_first, ticked}
use Rattle.served_fits.specs.Below.programs_allowed.specs.program_steps.specs.Writes.{MayPut}
use Rattle.served_fits.specs.Below.programs_allowed.specs.program_steps.specs.SoundSeats.{Sound, IsFitting, IsOfRight, AreHeld}
use Rattle.served_fits.specs.Below.programs_allowed.specs.program_steps.proofs.TickCases.{tick_cases}
use Rattle.served_fits.specs.Below.programs_allowed.specs.sock_runs.proofs.LinkTicks.{RetriesGo}
use Rattle.served_fits.specs.Below.call_owing.specs.LivesOfLinks.{InHand}
use Rattle.served_fits.specs.served_runs.specs.OfferedReplies.{Lies, TookSoFar}
use Rattle.served_fits.specs.served_runs.proofs.LinkPlacesAtTicks.{IsPut, all_lay}
use Rattle.seat_programs.specs.LoopRounds.{first_step}

module _ (p : Plan) (k : ℕ) (retries : RetriesGo p) (c : Core) (vs : List View) (m : Moment) (sound : Sound p c vs) where
  -- the front of the messages that it accepted
  abbrev pub IsFront : List ℕ → Type 0
  IsFront took = (n : ℕ) × (more : List ℕ) × (took ++ more ≡ whole (on k sound.lawful.log) n)

  abbrev Either : List ℕ → Type 0
  Either took = TookSoFar p c k took ⊎ IsFront took

  -- ## Where the seat puts bytes

  module _ (i : ℕ) (v : View) (at_view : get_elem? vs i ≡ some v) (r : Right) (one : v.rights ≡ r ∷ []) (taken : r.taken ≡ true) (clean : r.clean ≡ true) where
    -- the right writes the message of an entry
    has : get_elem? v.rights 0 ≡ some r
    has = ap (λ (l : List Right). get_elem? l 0) one

    alone : (tokens vs).rights r.link ≡ r ∷ []
    alone = right_alone sound.lawful i 0 v r at_view has

    inside : r.link < p.links
    inside = right_in sound.lawful i 0 v r at_view has

    next : (e : Entry) × (get_elem? (on r.link sound.lawful.log) (sound.lawful.places r.link) ≡ some e)
    next = let w = sound.lawful.messages.taken_writes r.link r inside alone taken in at_some (on r.link sound.lawful.log) (sound.lawful.places r.link) (writes_room sound.lawful.chains r.link r w.0 inside alone w.1)

    bytes_are : r.bytes ≡ next.0.bytes
    bytes_are = (sound.lawful.messages.in_hand r.link r next.0 inside alone taken next.1).1

    sent_is : r.sent ≡ whole (on r.link sound.lawful.log) (sound.lawful.places r.link)
    sent_is = let all = sound.lawful.delivered.clean r.link r inside alone clean in sound.lawful.delivered.sent_whole r.link r inside alone all ∙ ap (whole (on r.link sound.lawful.log)) all

    front_of : (n : ℕ) (bytes rest : List ℕ) → drop r.put r.bytes ≡ bytes ++ rest → (more : List ℕ) × (((r.sent ++ take r.put r.bytes) ++ take n bytes) ++ more ≡ whole (on r.link sound.lawful.log) (suc (sound.lawful.places r.link)))
    front_of n bytes rest left = (
      drop n bytes ++ rest,
      append_assoc (r.sent ++ take r.put r.bytes) (take n bytes) (drop n bytes ++ rest)
          ∙ (ap (λ l. (r.sent ++ take r.put r.bytes) ++ l) (sym (append_assoc (take n bytes) (drop n bytes) rest) ∙ (ap (λ l. l ++ rest) (take-append-drop n bytes) ∙ sym left))
          ∙ (append_assoc r.sent (take r.put r.bytes) (drop r.put r.bytes) ∙ (ap (λ l. r.sent ++ l) (take-append-drop r.put r.bytes ∙ bytes_are)
          ∙ (ap (λ l. l ++ next.0.bytes) sent_is ∙ sym (whole_suc (on r.link sound.lawful.log) (sound.lawful.places r.link) next.0 next.1))))),
    )

  module _ (seat : SeatState) (v : View) (at_seat : get_elem? c.seats m.seat ≡ some seat) (at_view : get_elem? vs m.seat ≡ some v) (bytes : List ℕ) (l : ℕ) (may : MayPut v l bytes) where
    abbrev r : Right
    r = may.0

    abbrev ByHome : Bool → Type 0
    ByHome b = elim b as (λ b. Type 0) [
      | true ↦ AreHeld seat.hand [] v.hands
      | false ↦ (x : Home) × (others : List Home) × (seat.hand ≡ x ∷ others) × IsOfRight r x × AreHeld others [] v.hands
    ]

    in_hand : ByHome false
    in_hand = let w = may.1 in subst ByHome w.2 (subst (λ rs. AreHeld seat.hand rs v.hands) w.0 (sound.seats m.seat seat v at_seat at_view).hand)

    -- the link in hand
    first_home : (x : Home) (others : List Home) → seat.hand ≡ x ∷ others → IsOfRight r x → (answer : Put) → (took : List ℕ) (next : ℕ) (done : Bool) → fed bytes answer x ≡ Link k took next done → Either took
    first_home x others hand (n₀, is) (Took n) took next done e = let w = may.1 in let rest = may.5 in
        let z : Link r.link ((r.sent ++ take r.put r.bytes) ++ take n bytes) n₀ false ≡ Link k took next done = sym (ap (fed bytes (Took n)) is) ∙ e in
        let own : r.link ≡ k = cc in let all : (r.sent ++ take r.put r.bytes) ++ take n bytes ≡ took = cc in
        let f = front_of m.seat v at_view r w.0 may.2 may.3 n bytes rest.0 rest.1 in
        inr (suc (sound.lawful.places r.link), f.0, ap (λ t. t ++ f.0) (sym all) ∙ (f.1 ∙ ap (λ j. whole (on j sound.lawful.log) (suc (sound.lawful.places r.link))) own))
    first_home x others hand is Again took next done e = inl (next, done, inr (m.seat, seat, at_seat, subst (InHand (Link k took next done)) (sym hand) (inl e)))
    first_home x others hand is Failed took next done e = inl (next, done, inr (m.seat, seat, at_seat, subst (InHand (Link k took next done)) (sym hand) (inl e)))

    held : (answer : Put) (took : List ℕ) (next : ℕ) (done : Bool) → InHand (Link k took next done) (onto_first (fed bytes answer) seat.hand) → Either took
    held answer took next done has = by (subst (λ h. InHand (Link k took next done) (onto_first (fed bytes answer) h)) in_hand.2 has)
      where
        by : InHand (Link k took next done) (fed bytes answer in_hand.0 ∷ in_hand.1) → Either took
        by (inl e) = first_home in_hand.0 in_hand.1 in_hand.2 in_hand.3 answer took next done e
        by (inr h) = inl (next, done, inr (m.seat, seat, at_seat, subst (InHand (Link k took next done)) (sym in_hand.2) (inr h)))

    put_behind : (answer : Put) (next' : Put → Program) (took : List ℕ) (next : ℕ) (done : Bool) → Lies p (with_seat m.seat (next' answer) (onto_first (fed bytes answer) seat.hand) c.words c.homes c) k (Link k took next done) → Either took
    put_behind answer next' took next done (inl home) = inl (next, done, inl home)
    put_behind answer next' took next done (inr (j, s, at, has)) = ⊎_elim
        (λ x. held answer took next done (subst (λ (z : SeatState). InHand (Link k took next done) z.hand) (sym x.1) has))
        (λ x. inl (next, done, inr (j, s, x.1, has))) (at_set c.seats m.seat j _ s at)

  -- ## A tick

  abbrev Behind : Core → List View → Type 0
  Behind d ws = IsPut p k c m → (took : List ℕ) (next : ℕ) (done : Bool) → Lies p d k (Link k took next done) → Either took

  -- the seat's first step is one
  same_first : (put : IsPut p k c m) (seat : SeatState) (x : Program) → get_elem? c.seats m.seat ≡ some seat → first_step seat.program ≡ x → x ≡ PutBytes k put.asked put.bytes put.next
  same_first put seat x at is = sym is ∙ (ap (λ (s : SeatState). first_step s.program) (some-injective seat put.seat (sym at ∙ put.at)) ∙ put.is)

  by_put : IsAnswered c m → IsPut p k c m → (took : List ℕ) (next : ℕ) (done : Bool) → Lies p (ticked p c m) k (Link k took next done) → Either took
  by_put answered = tick_cases p c vs m sound answered Behind (λ put took next done lies. inl (next, done, lies))
      (λ seat v call next at_seat at_view is goes. λ put. absurd (let z : Do call next ≡ PutBytes k put.asked put.bytes put.next = same_first put seat (Do call next) at_seat is in cc))
      (λ seat v q next heading bytes at_seat at_view is goes lies. λ put. absurd (let z : TakeMessage q next ≡ PutBytes k put.asked put.bytes put.next = same_first put seat (TakeMessage q next) at_seat is in cc))
      (λ seat v l next took n at_seat at_view is goes lies. λ put. absurd (let z : TakeHome l next ≡ PutBytes k put.asked put.bytes put.next = same_first put seat (TakeHome l next) at_seat is in cc))
      (λ seat v l n after at_seat at_view is goes. λ put. absurd (let z : PutHome l n after ≡ PutBytes k put.asked put.bytes put.next = same_first put seat (PutHome l n after) at_seat is in cc))
      (λ seat v l asked bytes next answer at_seat at_view is goes answer_is fits. λ put took next' done lies. put_behind seat v at_seat at_view bytes l goes.0 answer next took next' done lies)
      (λ seat v l next answer at_seat at_view is goes answer_is. λ put. absurd (let z : AskReady l next ≡ PutBytes k put.asked put.bytes put.next = same_first put seat (AskReady l next) at_seat is in cc))
      (λ seat v step next found at_seat at_view is goes found_is. λ put. absurd (let z : Aside step next ≡ PutBytes k put.asked put.bytes put.next = same_first put seat (Aside step next) at_seat is in cc))

  -- it had taken as much, or it took of what it had accepted
  pub took_behind : IsAnswered c m → IsFitting p c m → (took : List ℕ) → TookSoFar p (ticked p c m) k took → TookSoFar p c k took ⊎ IsFront took
  took_behind answered fitting took (next, done, lies) = let l = all_lay p k retries c vs m sound answered fitting took next done lies in ⊎_elim
      (λ none_. inl (l.next, l.done, subst (λ t. Lies p c k (Link k t l.next l.done)) (sym (l.took_is ∙ (ap (λ x. l.took ++ x) none_ ∙ append-nil l.took))) l.lies))
      (λ put. by_put answered put took next done lies) l.put

  -- and it took the front of that then
  pub took_before : IsAnswered c m → IsFitting p c m → (took : List ℕ) → TookSoFar p (ticked p c m) k took → (old : List ℕ) × TookSoFar p c k old
  took_before answered fitting took (next, done, lies) = let l = all_lay p k retries c vs m sound answered fitting took next done lies in (l.took, (l.next, l.done, l.lies))
