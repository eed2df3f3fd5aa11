-- Moves and puts of whoever writes a link: what each of them needs is there, and behind it all seats are sound.
use Rattle.std.proofs.Common.{◌≡◌, ◌≢◌, ℕ, zero, suc, get_or, ◌+◌, ◌<◌, ◌≤◌, Bool, true, false, List, [], ◌∷◌, ◌++◌, length, length-set, append-nil, append_assoc, set, take, drop, refl, sym, ap, ◌∙◌, subst, ⊎_elim, arith}
use Rattle.std.proofs.Math.Seq.{take-add}
use Rattle.std.proofs.lemmas.List.{take-append-le}
use mathlib.Core.Option.{Option, some, none, some-injective, some-ne-none}
use lib.ListN.{get_elem?}
use Rattle.atomic_table.proofs.Lists.{at_set, set_again}
use Rattle.sock_words.specs.declared.plain.Plan.{Plan}
use Rattle.seat_programs.specs.sock_io.specs.declared.link.Put.{Put}
use Rattle.seat_programs.specs.sock_io.specs.declared.link.Put.TheVariants.{Took, Again, Failed}
use Rattle.seat_programs.specs.sock_io.specs.declared.link.Ready.{Ready}
use Rattle.sock_model.specs.declared.chain.Heading.{Heading}
use Rattle.sock_model.specs.declared.chain.Right.{Right}
use Rattle.sock_model.specs.declared.home.Home.{Home}
use Rattle.sock_model.specs.declared.home.Home.TheVariants.{Link, Message}
use Rattle.sock_model.specs.declared.view.View.{View}
use Rattle.sock_model.specs.declared.view.Hand.{Hand}
use Rattle.sock_model.specs.ChainRows.{with_right, taken_right, put_right}
use Rattle.sock_model.specs.ChainStepConditions.{MayTake}
use Rattle.sock_model.specs.LawfulSockets.{Lawful}
use Rattle.sock_model.specs.ChainLawReads.{took_of, as_link, shown, link_home}
use Rattle.sock_steps.proofs.RightSteps.{right_in}
use Rattle.sock_steps.proofs.WriteSteps.{taking_law, writes_in}
use Rattle.sock_steps.proofs.LinkSteps.{link_goes_law, link_comes_law, link_home_law, put_law}
use Rattle.seat_programs.specs.Programs.{Program, Say, Sent, TakeMessage, TakeHome, PutHome, PutBytes, AskReady, Keep, Retries}
use Rattle.std.specs.List.{AllByRecursion}
use Rattle.seat_programs.specs.LoopHeads.{Retry}
use Rattle.seat_programs.specs.CallAndRetryPrograms.{retry}
use Rattle.seat_programs.specs.Asides.{Step, Found}
use Rattle.seat_programs.specs.Programs.{Aside}
use Rattle.seat_programs.specs.FoundAndChangedAside.{calls_after}
use Rattle.program_steps.specs.IdWordFits.{FitsFound, FitsRetry}
use Rattle.seat_programs.specs.Cores.{Calls, Core, SeatState, lies_at, first_of, others_of, link_place, resolved, still_waiting, waiting_at, next_step, with_seat}
use Rattle.seat_programs.specs.Ticks.{fed, with_places, onto_first, FitsPut}
use Rattle.seat_programs.specs.StepViews.{by_right}
use Rattle.seat_programs.specs.StepsOfMessages.{took_message}
use Rattle.seat_programs.specs.StepsOfLinks.{link_away, link_home_again, took_bytes}
use Rattle.program_steps.specs.Writes.{MayTakeMessage, Writes}
use Rattle.program_steps.specs.ProgramGoesOn.{GoesOn}
use Rattle.program_steps.specs.SoundSeats.{state, AreInHand, IsOfRight, AreHeld, AreLabelled, SoundSeat, Sound, HasLink, HasMessageAt, HasLinkAt}
use Rattle.program_steps.proofs.TickCases.{calls_waiting}
use Rattle.sock_runs.proofs.HandTicks.{in_hand_nil}
use Rattle.sock_runs.proofs.ChainTicks.{has_one, stays_one}
use Rattle.sock_words.specs.PackedWords.{ticket_request}

-- what comes before the next step is passed over
pub next_goes : (p : Plan) (v : View) (program : Program) → GoesOn p v program → GoesOn p v (next_step program)
next_goes p v (Say o outcome after) g = next_goes p v after g
next_goes p v (Sent o after) g = next_goes p v after g
next_goes p v _ g = g

-- ## Retries that wait

fits_set : {A : Type 0} (P : List A → Type 0) (ws : List (List A)) (i : ℕ) (x : List A) → P x → ((j : ℕ) → P (get_or ws j [])) → (j : ℕ) → P (get_or (set ws i x) j [])
fits_set P [] i x px all j = all j
fits_set P (w ∷ ws) zero x px all zero = px
fits_set P (w ∷ ws) zero x px all (suc j) = all (suc j)
fits_set P (w ∷ ws) (suc i) x px all zero = all zero
fits_set P (w ∷ ws) (suc i) x px all (suc j) = fits_set P ws i x px (λ k. all (suc k)) j

all_more : (ws : List Retry) (r : Retry) → AllByRecursion FitsRetry ws → FitsRetry r → AllByRecursion FitsRetry (ws ++ r ∷ [])
all_more [] r all one = (one, tt)
all_more (w ∷ ws) r all one = (all.0, all_more ws r all.1 one)

-- each retry may be tried where the seat is at ease
abbrev pub RetriesGo : Plan → Type 0
RetriesGo p = (v : View) (r : Retry) (requests : ℕ) (after : Program) → FitsRetry r → GoesOn p v (Retries requests after) → GoesOn p v (retry requests r.id r.attempt (Retries requests after))

module _ (p : Plan) (retries_go : RetriesGo p) where
  pub resolved_goes : (v : View) (ws : List Retry) (program : Program) → AllByRecursion FitsRetry ws → GoesOn p v program → GoesOn p v (resolved ws program)
  resolved_goes v ws (Say o outcome next) all g = resolved_goes v ws next all g
  resolved_goes v ws (Sent o next) all g = resolved_goes v ws next all g
  resolved_goes v ws (Keep r next) all g = resolved_goes v (ws ++ r ∷ []) next (all_more ws r all g.0) g.1
  resolved_goes v [] (Retries requests after) all g = resolved_goes v [] after tt (g.1.5 g.1.0 v g.1.3)
  resolved_goes v (r ∷ ws) (Retries requests after) all g = retries_go v r requests after all.0 g
  resolved_goes v ws _ all g = g

  pub still_fit : (v : View) (ws : List Retry) (program : Program) → AllByRecursion FitsRetry ws → GoesOn p v program → AllByRecursion FitsRetry (still_waiting ws program)
  still_fit v ws (Say o outcome next) all g = still_fit v ws next all g
  still_fit v ws (Sent o next) all g = still_fit v ws next all g
  still_fit v ws (Keep r next) all g = still_fit v (ws ++ r ∷ []) next (all_more ws r all g.0) g.1
  still_fit v [] (Retries requests after) all g = still_fit v [] after tt (g.1.5 g.1.0 v g.1.3)
  still_fit v (r ∷ ws) (Retries requests after) all g = all.1
  still_fit v ws _ all g = all

  pub come_goes : (v : View) (ws : List Retry) (program : Program) → AllByRecursion FitsRetry ws → GoesOn p v program → GoesOn p v (next_step (resolved ws program))
  come_goes v ws program all g = next_goes p v (resolved ws program) (resolved_goes v ws program all g)

-- a home that gets no message
labels_set : (p : Plan) (hs : List (Option Home)) (q : ℕ) (x : Option Home) → ((heading : Heading) (bytes : List ℕ) → x ≡ some (Message heading bytes) → ⊥) → AreLabelled p hs → AreLabelled p (set hs q x)
labels_set p hs q x other labels i heading bytes at = ⊎_elim (λ a. absurd (other heading bytes a.1)) (λ a. labels i heading bytes a.1) (at_set hs q i x (some (Message heading bytes)) at)

pub same_message : (a : Heading) (b : List ℕ) (c : Heading) (d : List ℕ) → Message a b ≡ Message c d → (a ≡ c) × (b ≡ d)
same_message a b c d e = (cc, cc)

same_link : (k : ℕ) (a : List ℕ) (m : ℕ) (l : ℕ) (b : List ℕ) (n : ℕ) → Link k a m false ≡ Link l b n false → (a ≡ b) × (m ≡ n)
same_link k a m l b n e = (cc, cc)

-- what is in all taken of a message, once n bytes more are put
took_more : (sent message : List ℕ) (put n : ℕ) (bytes rest : List ℕ) → drop put message ≡ bytes ++ rest → n ≤ length bytes → (sent ++ take put message) ++ take n bytes ≡ sent ++ take (put + n) message
took_more sent message put n bytes rest left fits = append_assoc sent (take put message) (take n bytes)
    ∙ ap (λ l. sent ++ l) (ap (λ l. take put message ++ l) (sym (take-append-le n bytes rest fits) ∙ ap (take n) (sym left)) ∙ sym (take-add put n message))

-- a change that changes nothing
onto_same : (change : Home → Home) (hand : List Home) → ((x : Home) → change x ≡ x) → onto_first change hand ≡ hand
onto_same change [] same = refl
onto_same change (x ∷ xs) same = ap (λ y. y ∷ xs) (same x)

-- ## The link of the one right

-- what the link took, with what was put of the message in hand
abbrev in_all : Right → List ℕ
in_all r = r.sent ++ take r.put r.bytes

abbrev ByHome : Bool → List Home → Right → List Hand → Type 0
ByHome b hand r hands = elim b as (λ b. Type 0) [
  | true ↦ AreHeld hand [] hands
  | false ↦ (x : Home) × (others : List Home) × (hand ≡ x ∷ others) × IsOfRight r x × AreHeld others [] hands
]

-- a right that says the same of the link
by_home_same : (b : Bool) (hand : List Home) (r r' : Right) (hands : List Hand) → r'.link ≡ r.link → in_all r' ≡ in_all r → ByHome b hand r hands → ByHome b hand r' hands
by_home_same true hand r r' hands link took are = are
by_home_same false hand r r' hands link took are = (are.0, are.1, are.2, (are.3.0, are.3.1 ∙ λ i. Link (sym link i) (sym took i) are.3.0 false), are.4)

held_same : (hand : List Home) (r r' : Right) (hands : List Hand) → r'.at_home ≡ r.at_home → r'.link ≡ r.link → in_all r' ≡ in_all r → AreHeld hand (r ∷ []) hands → AreHeld hand (r' ∷ []) hands
held_same hand r r' hands home link took are = subst (λ b. ByHome b hand r' hands) (sym home) (by_home_same r.at_home hand r r' hands link took are)

held_away : (hand : List Home) (r : Right) (next : ℕ) → r.at_home ≡ false → hand ≡ Link r.link (in_all r) next false ∷ [] → AreHeld hand (r ∷ []) []
held_away hand r next away is = subst (λ b. ByHome b hand r []) (sym away) (Link r.link (in_all r) next false, [], is, (next, refl), tt)

held_home : (hand : List Home) (r : Right) → r.at_home ≡ true → hand ≡ [] → AreHeld hand (r ∷ []) []
held_home hand r home none_ = subst (λ b. ByHome b hand r []) (sym home) (subst (λ xs. AreInHand xs []) (sym none_) tt)

module _ (v : View) (r : Right) (one : v.rights ≡ r ∷ []) (hand : List Home) (are : AreHeld hand v.rights v.hands) where
  with_one : AreHeld hand (r ∷ []) v.hands
  with_one = subst (λ rs. AreHeld hand rs v.hands) one are

  in_hand : v.hands ≡ [] → r.at_home ≡ false → (next : ℕ) × (hand ≡ Link r.link (in_all r) next false ∷ [])
  in_hand none_ away = let a : ByHome false hand r [] = subst (λ b. ByHome b hand r []) away (subst (AreHeld hand (r ∷ [])) none_ with_one) in
      (a.3.0, a.2 ∙ λ i. a.3.1 i ∷ in_hand_nil a.1 a.4 i)

  none_in_hand : v.hands ≡ [] → r.at_home ≡ true → hand ≡ []
  none_in_hand none_ home = let a : ByHome true hand r [] = subst (λ b. ByHome b hand r []) home (subst (AreHeld hand (r ∷ [])) none_ with_one) in in_hand_nil hand a

-- the right becomes another one
restaged : (v : View) (r r' : Right) (hand : List Home) → v.rights ≡ r ∷ [] → r'.link ≡ r.link → AreHeld hand (r' ∷ []) v.hands → AreHeld hand (with_right v r').rights (with_right v r').hands
restaged v r r' hand one link are = subst (λ (w : View). AreHeld hand w.rights w.hands) (sym (stays_one v r one r' link)) are

-- ## All seats

module _ (p : Plan) (retries_go : RetriesGo p) (c : Core) (vs : List View) (sound : Sound p c vs) (i : ℕ) (seat : SeatState) (v : View) (at_seat : get_elem? c.seats i ≡ some seat) (at_view : get_elem? vs i ≡ some v) where
  -- seat i has this program and this in hand, and its view is w
  pub reseats : (program : Program) (hand : List Home) (ws : List ℕ) (hs : List (Option Home)) (w : View) → Lawful (λ home. home) p record { words = ws; homes = hs; views = set vs i w } → length hs ≡ length c.homes → AreLabelled p hs
      → AreHeld hand w.rights w.hands → GoesOn p w program → Sound p (with_seat i program hand ws hs c) (set vs i w)
  reseats program hand ws hs w law sized labels held goes = let seat' : SeatState = record { program = next_step (resolved (waiting_at c.calls.waiting i) program); hand = hand } in
      let fresh : SoundSeat p seat' w = record { hand = held; goes_on = come_goes p retries_go w (waiting_at c.calls.waiting i) program (sound.waiting i) goes } in record {
        limits = sound.limits;
        lawful = law;
        each = length-set vs i w ∙ (sound.each ∙ sym (length-set c.seats i seat'));
        homes = sized ∙ sound.homes;
        labels = labels;
        waiting = fits_set (AllByRecursion FitsRetry) c.calls.waiting i (still_waiting (waiting_at c.calls.waiting i) program) (still_fit p retries_go w (waiting_at c.calls.waiting i) program (sound.waiting i) goes) sound.waiting;
        seats = λ j s' u at_s at_u. ⊎_elim
            (λ a. ⊎_elim (λ b. subst (λ x. SoundSeat p x u) a.1 (subst (λ y. SoundSeat p seat' y) b.1 fresh)) (λ b. absurd (b.0 a.0)) (at_set vs i j w u at_u))
            (λ a. ⊎_elim (λ b. absurd (a.0 b.0)) (λ b. sound.seats j s' u a.1 b.1) (at_set vs i j w u at_u))
            (at_set c.seats i j seat' s' at_s);
      }

  -- the same where what stands aside of the sockets becomes this, with the same retries waiting
  pub reseats_beside : (a : Calls) → a.waiting ≡ c.calls.waiting → (program : Program) → GoesOn p v program → Sound p (with_seat i program seat.hand c.words c.homes (record c { calls = a })) (set vs i v)
  reseats_beside a kept program goes = let ws' : List Retry = waiting_at a.waiting i in let fit : AllByRecursion FitsRetry (waiting_at a.waiting i) = subst (λ (x : List (List Retry)). AllByRecursion FitsRetry (waiting_at x i)) (sym kept) (sound.waiting i) in
      let seat' : SeatState = record { program = next_step (resolved (waiting_at a.waiting i) program); hand = seat.hand } in
      let old = sound.seats i seat v at_seat at_view in
      let fresh : SoundSeat p seat' v = record { hand = old.hand; goes_on = come_goes p retries_go v (waiting_at a.waiting i) program fit goes } in record {
        limits = sound.limits;
        lawful = subst (λ us. Lawful (λ home. home) p record { words = c.words; homes = c.homes; views = us }) (sym (set_again vs i v at_view)) sound.lawful;
        each = length-set vs i v ∙ (sound.each ∙ sym (length-set c.seats i seat'));
        homes = sound.homes;
        labels = sound.labels;
        waiting = fits_set (AllByRecursion FitsRetry) a.waiting i (still_waiting (waiting_at a.waiting i) program) (still_fit p retries_go v (waiting_at a.waiting i) program fit goes)
            (subst (λ (x : List (List Retry)). (j : ℕ) → AllByRecursion FitsRetry (waiting_at x j)) (sym kept) sound.waiting);
        seats = λ j s' u at_s at_u. ⊎_elim
            (λ a. ⊎_elim (λ b. subst (λ x. SoundSeat p x u) a.1 (subst (λ y. SoundSeat p seat' y) b.1 fresh)) (λ b. absurd (b.0 a.0)) (at_set vs i j v u at_u))
            (λ a. ⊎_elim (λ b. absurd (a.0 b.0)) (λ b. sound.seats j s' u a.1 b.1) (at_set vs i j v u at_u))
            (at_set c.seats i j seat' s' at_s);
      }

  are : AreHeld seat.hand v.rights v.hands
  are = (sound.seats i seat v at_seat at_view).hand

  -- ## M2

  abbrev taker : (q : ℕ) → MayTakeMessage v q → MayTake v
  taker q may = record { mine = has_one v may.0 may.2; now = may.1; stage = may.3; idle = may.4 }

  pub message_there : (q : ℕ) (next : Heading → List ℕ → Program) → GoesOn p v (TakeMessage q next) → HasMessageAt p c q
  message_there q next goes = let may = goes.0 in let law = taking_law (λ home. home) p i v (taker q may) (state c vs) sound.lawful at_view in
      let here : get_elem? c.homes q ≡ some (some (Message law.1 law.2)) = ap (get_elem? c.homes) (sym may.5) ∙ (law.3 ∙ ap (λ y. some (some y)) law.4) in let label = sound.labels q law.1 law.2 here in
      (subst (λ n. n < p.requests) may.5 (writes_in (λ home. home) p i 0 may.1 v may.0 (state c vs) sound.lawful at_view (ap (λ l. get_elem? l 0) may.2) may.3), (law.1, law.2, here, label.0, label.1))

  pub takes_message : (q : ℕ) (next : Heading → List ℕ → Program) (heading : Heading) (bytes : List ℕ) → GoesOn p v (TakeMessage q next) → get_elem? c.homes q ≡ some (some (Message heading bytes))
      → Sound p (with_seat i (next heading bytes) seat.hand c.words (set c.homes q none) c) (set vs i (took_message heading bytes v))
  takes_message q next heading bytes goes here = let may = goes.0 in let r : Right = may.0 in let law = taking_law (λ home. home) p i v (taker q may) (state c vs) sound.lawful at_view in
      let is : Message law.1 law.2 ≡ Message heading bytes = sym law.4 ∙ some-injective law.0 (Message heading bytes) (some-injective (some law.0) (some (Message heading bytes)) (sym law.3 ∙ (ap (get_elem? c.homes) may.5 ∙ here))) in
      let q' = same_message law.1 law.2 heading bytes is in let label = sound.labels q heading bytes here in
      let w : took_message heading bytes v ≡ with_right v (taken_right r heading bytes) = ap (λ rs. by_right rs (λ r. with_right v (taken_right r heading bytes)) v) may.2 in
      reseats (next heading bytes) seat.hand c.words (set c.homes q none) (took_message heading bytes v)
      (subst (λ u. Lawful (λ home. home) p record { words = c.words; homes = set c.homes q none; views = set vs i u }) (sym w)
      (subst (λ n. Lawful (λ home. home) p record { words = c.words; homes = set c.homes n none; views = set vs i (with_right v (taken_right r heading bytes)) }) may.5
      (subst (λ l. Lawful (λ home. home) p record { words = c.words; homes = set c.homes (ticket_request may.1) none; views = set vs i (with_right v (taken_right r l bytes)) }) q'.0
      (subst (λ b. Lawful (λ home. home) p record { words = c.words; homes = set c.homes (ticket_request may.1) none; views = set vs i (with_right v (taken_right r law.1 b)) }) q'.1 (law.5 none refl)))))
      (length-set c.homes q none) (labels_set p c.homes q none (λ l b e. some-ne-none (Message l b) (sym e)) sound.labels)
      (subst (λ (u : View). AreHeld seat.hand u.rights u.hands) (sym w) (restaged v r (taken_right r heading bytes) seat.hand may.2 refl
      (held_same seat.hand r (taken_right r heading bytes) v.hands refl refl (sym (ap (λ n. r.sent ++ take n r.bytes) may.6)) (with_one v r may.2 seat.hand are))))
      (goes.1 heading bytes label.0 label.1)

  -- ## L1

  in_table : (r : Right) → v.rights ≡ r ∷ [] → r.link < p.links
  in_table r one = right_in sound.lawful i 0 v r at_view (ap (λ l. get_elem? l 0) one)

  pub link_there : (k : ℕ) (next : ℕ → Program) → GoesOn p v (TakeHome k next) → HasLinkAt p c k
  link_there k next goes = let r : Right = goes.0 in let w = goes.1 in let law = link_home_law (λ home. home) p (state c vs) sound.lawful i v at_view (has_one v r w.0) w.2 in
      subst (HasLinkAt p c) w.1 (in_table r w.0, (r.sent, r.places, law.1 ∙ ap (λ y. some (some y)) law.2))

  pub takes_home : (k : ℕ) (next : ℕ → Program) (took : List ℕ) (n : ℕ) → GoesOn p v (TakeHome k next) → get_elem? c.homes (link_place p k) ≡ some (some (Link k took n false))
      → Sound p (with_seat i (next n) (lies_at c.homes (link_place p k) ++ seat.hand) c.words (set c.homes (link_place p k) none) c) (set vs i (link_away v))
  takes_home k next took n goes here = let r : Right = goes.0 in let w = goes.1 in let r' : Right = record r { at_home = false } in
      let law = link_home_law (λ home. home) p (state c vs) sound.lawful i v at_view (has_one v r w.0) w.2 in
      let at_k : get_elem? c.homes (link_place p k) ≡ some (some (Link r.link r.sent r.places false)) = ap (λ l. get_elem? c.homes (link_place p l)) (sym w.1) ∙ (law.1 ∙ ap (λ y. some (some y)) law.2) in
      let is : Link k took n false ≡ Link r.link r.sent r.places false = some-injective (Link k took n false) (Link r.link r.sent r.places false) (some-injective (some (Link k took n false)) (some (Link r.link r.sent r.places false)) (sym here ∙ at_k)) in
      let q = same_link k took n r.link r.sent r.places is in
      let away : link_away v ≡ with_right v r' = ap (λ rs. by_right rs (λ r. with_right v (record r { at_home = false })) v) w.0 in
      let low = in_table r w.0 in let sized = sound.homes in
      let lies : lies_at c.homes (link_place p k) ≡ Link r.link r.sent r.places false ∷ [] = ap (λ o. elim o as (λ o. List Home) [ none ↦ [] | some x ↦ elim x as (λ o. List Home) [ none ↦ [] | some y ↦ y ∷ [] ] ]) at_k in
      let all : r.sent ≡ in_all r' = sym (append-nil r.sent) ∙ sym (ap (λ m. r.sent ++ take m r.bytes) goes.2) in
      let hand : lies_at c.homes (link_place p k) ++ seat.hand ≡ Link r.link (in_all r') r.places false ∷ [] = (λ j. lies j ++ none_in_hand v r w.0 seat.hand are w.3 w.2 j) ∙ ap (λ t. Link r.link t r.places false ∷ []) all in
      reseats (next n) (lies_at c.homes (link_place p k) ++ seat.hand) c.words (set c.homes (link_place p k) none) (link_away v)
      (subst (λ u. Lawful (λ home. home) p record { words = c.words; homes = set c.homes (link_place p k) none; views = set vs i u }) (sym away)
      (subst (λ l. Lawful (λ home. home) p record { words = c.words; homes = set c.homes (link_place p l) none; views = set vs i (with_right v r') }) w.1
      (link_goes_law (λ home. home) p (state c vs) sound.lawful i v at_view (has_one v r w.0) none refl (omega arith))))
      (length-set c.homes (link_place p k) none) (labels_set p c.homes (link_place p k) none (λ l b e. some-ne-none (Message l b) (sym e)) sound.labels)
      (subst (λ (u : View). AreHeld (lies_at c.homes (link_place p k) ++ seat.hand) u.rights u.hands) (sym away)
      (restaged v r r' (lies_at c.homes (link_place p k) ++ seat.hand) w.0 refl (subst (AreHeld (lies_at c.homes (link_place p k) ++ seat.hand) (r' ∷ [])) (sym w.3) (held_away (lies_at c.homes (link_place p k) ++ seat.hand) r' r.places refl hand))))
      (subst (λ m. GoesOn p (link_away v) (next m)) (sym q.1) goes.3)

  -- the same, by what the home shows
  pub takes_home_shown : (k : ℕ) (next : ℕ → Program) (took : List ℕ) (n : ℕ) → GoesOn p v (TakeHome k next) → link_home (λ (h : Home). h) p c.homes k ≡ some (took, n)
      → Sound p (with_seat i (next n) (lies_at c.homes (link_place p k) ++ seat.hand) c.words (set c.homes (link_place p k) none) c) (set vs i (link_away v))
  takes_home_shown k next took n goes shows = let there = link_there k next goes in let at = there.1 in
      let q : (at.0, at.1) ≡ (took, n) = some-injective (at.0, at.1) (took, n) (sym (ap (λ x. took_of (as_link (shown (λ (h : Home). h) x))) at.2) ∙ shows) in
      takes_home k next took n goes (at.2 ∙ λ j. some (some (Link k (q j).0 (q j).1 false)))

  -- ## L2

  -- the link that the one right has in hand
  has_in_hand : (k : ℕ) (r : Right) → Writes v k false r → HasLink p seat k
  has_in_hand k r w = let h = in_hand v r w.0 seat.hand are w.3 w.2 in subst (HasLink p seat) w.1 (in_table r w.0, (in_all r, h.0, h.1))

  pub has_link : (k n : ℕ) (after : Program) → GoesOn p v (PutHome k n after) → HasLink p seat k
  has_link k n after goes = has_in_hand k goes.0 goes.1

  pub puts_home : (k n : ℕ) (after : Program) → GoesOn p v (PutHome k n after)
      → Sound p (with_seat i after (others_of seat.hand) c.words (set c.homes (link_place p k) (first_of (onto_first (with_places n) seat.hand))) c) (set vs i (link_home_again v))
  puts_home k n after goes = let r : Right = goes.0 in let w = goes.1 in let r' : Right = record r { at_home = true } in let h = in_hand v r w.0 seat.hand are w.3 w.2 in
      let home : link_home_again v ≡ with_right v r' = ap (λ rs. by_right rs (λ r. with_right v (record r { at_home = true })) v) w.0 in
      let low = in_table r w.0 in let sized = sound.homes in
      let all : in_all r ≡ r.sent = ap (λ m. r.sent ++ take m r.bytes) goes.3 ∙ append-nil r.sent in
      let first : first_of (onto_first (with_places n) seat.hand) ≡ some (Link r.link r.sent r.places false) = ap (λ xs. first_of (onto_first (with_places n) xs)) h.1 ∙ λ j. some (Link r.link (all j) (sym goes.2 j) false) in
      let x : Option Home = first_of (onto_first (with_places n) seat.hand) in
      reseats after (others_of seat.hand) c.words (set c.homes (link_place p k) x) (link_home_again v)
      (subst (λ u. Lawful (λ home. home) p record { words = c.words; homes = set c.homes (link_place p k) (first_of (onto_first (with_places n) seat.hand)); views = set vs i u }) (sym home)
      (subst (λ y. Lawful (λ home. home) p record { words = c.words; homes = set c.homes (link_place p k) y; views = set vs i (with_right v r') }) (sym first)
      (subst (λ l. Lawful (λ home. home) p record { words = c.words; homes = set c.homes (link_place p l) (some (Link r.link r.sent r.places false)); views = set vs i (with_right v r') }) w.1
      (link_comes_law (λ home. home) p (state c vs) sound.lawful i v at_view (has_one v r w.0) (Link r.link r.sent r.places false) refl (omega arith)))))
      (length-set c.homes (link_place p k) x)
      (labels_set p c.homes (link_place p k) x (λ l b e. let z : Link r.link r.sent r.places false ≡ Message l b = some-injective (Link r.link r.sent r.places false) (Message l b) (sym first ∙ e) in cc) sound.labels)
      (subst (λ (u : View). AreHeld (others_of seat.hand) u.rights u.hands) (sym home)
      (restaged v r r' (others_of seat.hand) w.0 refl (subst (AreHeld (others_of seat.hand) (r' ∷ [])) (sym w.3) (held_home (others_of seat.hand) r' refl (ap others_of h.1)))))
      goes.5

  -- ## W1 and W2

  pub link_put_there : (k : ℕ) (asked : Bool) (bytes : List ℕ) (next : Put → Program) → GoesOn p v (PutBytes k asked bytes next) → HasLink p seat k × (bytes ≢ [])
  link_put_there k asked bytes next goes = let may = goes.0 in (has_in_hand k may.0 may.1, may.4)

  pub link_asked_there : (k : ℕ) (next : Ready → Program) → GoesOn p v (AskReady k next) → HasLink p seat k
  link_asked_there k next goes = has_in_hand k goes.0.0 goes.0.1

  -- what leaves the words, the homes and the views
  still : (program : Program) (hand : List Home) → AreHeld hand v.rights v.hands → GoesOn p v program → Sound p (with_seat i program hand c.words c.homes c) vs
  still program hand held goes = let same : set vs i v ≡ vs = set_again vs i v at_view in
      subst (Sound p (with_seat i program hand c.words c.homes c)) same
      (reseats program hand c.words c.homes v (subst (λ us. Lawful (λ home. home) p record { words = c.words; homes = c.homes; views = us }) (sym same) sound.lawful) refl sound.labels held goes)

  unmoved : (program : Program) (hand : List Home) → hand ≡ seat.hand → GoesOn p v program → Sound p (with_seat i program hand c.words c.homes c) (set vs i v)
  unmoved program hand same goes = subst (Sound p (with_seat i program hand c.words c.homes c)) (sym (set_again vs i v at_view)) (still program hand (subst (λ xs. AreHeld xs v.rights v.hands) (sym same) are) goes)

  pub asks_ready : (k : ℕ) (next : Ready → Program) (answer : Ready) → GoesOn p v (AskReady k next) → Sound p (with_seat i (next answer) seat.hand c.words c.homes c) vs
  asks_ready k next answer goes = still (next answer) seat.hand are (goes.1 answer)

  pub puts_bytes : (k : ℕ) (asked : Bool) (bytes : List ℕ) (next : Put → Program) (answer : Put) → GoesOn p v (PutBytes k asked bytes next) → FitsPut asked bytes answer
      → Sound p (with_seat i (next answer) (onto_first (fed bytes answer) seat.hand) c.words c.homes c) (set vs i (took_bytes answer v))
  puts_bytes k asked bytes next (Took n) goes fits = let may = goes.0 in let r : Right = may.0 in let w = may.1 in let r' : Right = put_right r n in let h = in_hand v r w.0 seat.hand are w.3 w.2 in
      let put : took_bytes (Took n) v ≡ with_right v (put_right r n) = ap (λ rs. by_right rs (λ r. with_right v (put_right r n)) v) w.0 in
      let hand : onto_first (fed bytes (Took n)) seat.hand ≡ Link r.link (in_all r') h.0 false ∷ [] = ap (onto_first (fed bytes (Took n))) h.1 ∙ ap (λ t. Link r.link t h.0 false ∷ []) (took_more r.sent r.bytes r.put n bytes may.5.0 may.5.1 fits.1) in
      reseats (next (Took n)) (onto_first (fed bytes (Took n)) seat.hand) c.words c.homes (took_bytes (Took n) v)
      (subst (λ u. Lawful (λ home. home) p record { words = c.words; homes = c.homes; views = set vs i u }) (sym put) (put_law (λ home. home) p (state c vs) sound.lawful i v at_view (has_one v r w.0) n))
      refl sound.labels
      (subst (λ (u : View). AreHeld (onto_first (fed bytes (Took n)) seat.hand) u.rights u.hands) (sym put)
      (restaged v r r' (onto_first (fed bytes (Took n)) seat.hand) w.0 refl (subst (AreHeld (onto_first (fed bytes (Took n)) seat.hand) (r' ∷ [])) (sym w.3) (held_away (onto_first (fed bytes (Took n)) seat.hand) r' h.0 w.2 hand))))
      (goes.1 (Took n) fits)
  puts_bytes k asked bytes next Again goes fits = unmoved (next Again) (onto_first (fed bytes Again) seat.hand) (onto_same (fed bytes Again) seat.hand (λ x. refl)) (goes.1 Again fits)
  puts_bytes k asked bytes next Failed goes fits = unmoved (next Failed) (onto_first (fed bytes Failed) seat.hand) (onto_same (fed bytes Failed) seat.hand (λ x. refl)) (goes.1 Failed fits)

  -- ## Steps aside

  pub steps_aside : (step : Step) (next : Found step → Program) (found : Found step) → GoesOn p v (Aside step next) → FitsFound p step found
      → Sound p (with_seat i (next found) seat.hand c.words c.homes (record c { calls = calls_after step found c.calls })) vs
  steps_aside step next found goes fits = let same : set vs i v ≡ vs = set_again vs i v at_view in let kept : (calls_after step found c.calls).waiting ≡ c.calls.waiting = calls_waiting step found c.calls in
      subst (Sound p (with_seat i (next found) seat.hand c.words c.homes (record c { calls = calls_after step found c.calls }))) same
      (reseats_beside (calls_after step found c.calls) kept (next found) (goes found fits))
