-- How a seat goes on behind a step that finds a word, over the tables as they lie in memory.
use Rattle.std.proofs.Common.{◌≡◌, refl, ℕ, List, Option, Some, ap, sym, ◌∙◌, subst}
use Rattle.sock_model.specs.declared.chain.Heading.{Heading}
use Rattle.seat_programs.specs.declared.task.Sizes.{Sizes}
use Rattle.seat_programs.specs.TableSteps as calls
use Rattle.call_points.specs.AsideCodeSteps.{after_word}
use Rattle.seat_states.specs.declared.calling.Calling.{Calling}
use Rattle.seat_states.specs.declared.point.CallStep.TheVariants as begins
use Rattle.seat_states.specs.declared.point.RetryStep.TheVariants as retries
use Rattle.seat_states.specs.declared.point.Next.{Next}
use Rattle.seat_states.specs.declared.point.Point.{Point}
use Rattle.seat_states.specs.declared.point.Point.TheVariants as points
use Rattle.seat_states.specs.ProgramAtPoint.{Context, point_program, next_program, framed, IsCalling, HasInHand, IsWithin, IsWithinIds, GoesByWord, MayNext}
use Rattle.seat_states.specs.ProgramStepsOfMachine.{OfTable, first_in}
use Rattle.message_parts.specs.FramesByParts.{ParcelData}
use Rattle.client_seats.specs.declared.hand.InHand.{InHand}
use Rattle.client_seats.specs.declared.seat.Seat.{Seat}
use Rattle.client_seats.specs.ClientSeatState.{SeatData, seat_data, message_in, call_in, around, seat_program}
use Rattle.client_seats.specs.ClientSeatFollowing.{IsFlat}
use Rattle.machine_model.specs.Machines.{TableState, table_sizes}
use Rattle.machine_model.specs.MachineSteps.{MayGoOn, MayStand, IsReady}
use Rattle.machine_steps.proofs.SeatBehindEachStep.{message_put}
use Rattle.machine_steps.proofs.TableFlat.{flat_behind}

-- what a point wants of the rules to go on by a word
pub may_next : {t : TableState} (s : Sizes) (seat : SeatData) (found : ℕ) → s ≡ table_sizes t → MayGoOn t seat found → MayStand seat → GoesByWord seat.point → MayNext s seat.point found
may_next s seat found sizes may stand step = record {
  within = subst (λ (x : Sizes). IsWithin x seat.point) (sym sizes) may.within;
  ids = subst (λ (x : Sizes). IsWithinIds x seat.point) (sym sizes) may.ids;
  word = may.word;
  aside = may.beside;
  link = stand.link;
  told = stand.told;
  step = step;
}

-- what follows a step that found a word, where all that it needs is in hand
pub next_is : {t : TableState} (s : Sizes) (seat : SeatData) (n : Next) (found : ℕ) (calling : Calling) → s ≡ table_sizes t → IsReady t seat → ((sizes : Sizes) → IsCalling (around sizes seat) calling) →
    ((a : Context) → a.sizes ≡ s → IsCalling a calling → HasInHand a seat.point → next_program (framed seat.point a) n ≡ after_word (point_program a seat.point) found) → next_program (around s seat) n ≡ after_word (seat_program (table_sizes t) seat) found
next_is {t} s seat n found calling sizes ready asks behind =
    ap (λ (x : Sizes). next_program (around x seat) n) sizes
    ∙ ap (λ (x : Context). next_program x n) (sym ready.frame)
    ∙ behind (around (table_sizes t) seat) (sym sizes) (asks (table_sizes t)) ready.hand

-- it keeps no retry where it stood before a step on a word
pub flat_next : (t : TableState) (s : Sizes) (seat : SeatData) (n : Next) (call : calls.TableStep) (found : ℕ) (calling : Calling) → s ≡ table_sizes t → first_in (seat_program (table_sizes t) seat) ≡ Some (OfTable call) → HasInHand (around (table_sizes t) seat) seat.point →
    ((sizes : Sizes) → IsCalling (around sizes seat) calling) → ((a : Context) → a.sizes ≡ s → IsCalling a calling → HasInHand a seat.point → next_program (framed seat.point a) n ≡ after_word (point_program a seat.point) found) → IsFlat n
flat_next t s seat n call found calling sizes first hand asks behind = flat_behind (around (table_sizes t) seat) seat.point call found n calling first (asks (table_sizes t)) hand (λ a is. behind a (is ∙ sym sizes))

-- ## A message that goes home

-- its seat needs no call in hand for it, and makes no frame
pub put_stands : (a : Context) (p : Point) (q : ℕ) (heading : Heading) (bytes : List ℕ) → first_in (point_program a p) ≡ Some (OfTable (calls.OnMessage (calls.PutMessage q heading bytes))) → (b : Context) → HasInHand b p × (framed p b ≡ b)
put_stands a (points.Call begins.LoadName) q heading bytes e b = (tt, refl)
put_stands a (points.Call (begins.ClaimId i socket)) q heading bytes e b = (tt, refl)
put_stands a (points.Call (begins.PutCall i socket)) q heading bytes e b = (tt, refl)
put_stands a (points.Call (begins.MakeId i socket)) q heading bytes e b = (tt, refl)
put_stands a (points.Call (begins.StoreCall id socket)) q heading bytes e b = cc
put_stands a (points.Retry r (retries.Lock at)) q heading bytes e b = (tt, refl)
put_stands a (points.Retry r (retries.TakeCall w)) q heading bytes e b = (tt, refl)
put_stands a (points.Retry r (retries.PutCall w)) q heading bytes e b = cc
put_stands a (points.Retry r (retries.Unlock w advance)) q heading bytes e b = cc
put_stands a (points.Retry r retries.LoadName) q heading bytes e b = cc
put_stands a _ q heading bytes e b = (tt, refl)

-- the message went out of its hand, and its call stayed there
pub hand_put : (place : Seat) (hand' : InHand) → call_in hand' ≡ call_in place.hand → seat_data (record place { hand = hand' }) ≡ record (seat_data place) { message = message_in hand' }
hand_put place hand' e = λ k. record (seat_data place) { message = message_in hand'; call = e k }

module _ (s sizes : Sizes) (seat mid : SeatData) (message' : Option ParcelData) (n : Next) (calling : Calling) (q : ℕ) (heading : Heading) (bytes : List ℕ) (same : s ≡ sizes) (is : mid ≡ record seat { message = message' }) (first : first_in (seat_program sizes seat) ≡ Some (OfTable (calls.OnMessage (calls.PutMessage q heading bytes))))
    (asks : (x : Sizes) → IsCalling (around x mid) calling) (behind : (a : Context) → a.sizes ≡ s → IsCalling a calling → HasInHand a seat.point → next_program (framed seat.point a) n ≡ after_word (point_program a seat.point) 0) where
  stands : (b : Context) → HasInHand b seat.point × (framed seat.point b ≡ b)
  stands b = put_stands (around sizes seat) seat.point q heading bytes first b

  own_is : next_program (around s mid) n ≡ after_word (point_program (around s mid) seat.point) 0
  own_is = ap (λ (x : Context). next_program x n) (sym (stands (around s mid)).1) ∙ behind (around s mid) refl (asks s) (stands (around s mid)).0

  -- what follows it
  pub put_next : next_program (around s mid) n ≡ after_word (seat_program sizes seat) 0
  put_next = ap (λ (m : SeatData). next_program (around s m) n) is ∙ message_put s sizes seat message' n q heading bytes same first (subst (λ (m : SeatData). next_program (around s m) n ≡ after_word (point_program (around s m) seat.point) 0) is own_is)

  seat_asks : (x : Sizes) → IsCalling (around x seat) calling
  seat_asks x = let h = subst (λ (m : SeatData). IsCalling (around x m) calling) is (asks x) in record { operation = h.operation; name = h.name; range = h.range }

  pub put_flat : IsFlat n
  put_flat = flat_behind (around sizes seat) seat.point (calls.OnMessage (calls.PutMessage q heading bytes)) 0 n calling first (seat_asks sizes) (stands (around sizes seat)).0 (λ a e. behind a (e ∙ sym same))
