-- A seat that has in hand what its step needs.
use Rattle.std.proofs.Common.{◌≡◌, refl, sym, ap, ap₂, ◌∙◌, subst, ℕ, List, [], Some, None, Result, Ok, Err, IfOk, OnOk}
use Rattle.sock_message.specs.Asked.{Asked, frame_of, parts_of, name_of}
use Rattle.sock_words.specs.declared.socket_id.SocketId.{SocketId}
use Rattle.seat_programs.specs.declared.task.Sizes.{Sizes}
use Rattle.seat_programs.specs.Programs.{Program}
use Rattle.seat_programs.specs.PostPrograms.{decide, decided}
use Rattle.id_points.specs.declared.call_id.CallId.{CallId}
use Rattle.id_points.specs.declared.call_id.AttemptNumber.{AttemptNumber}
use Rattle.id_points.specs.IdsAndAttemptNumbers.{id_of, number_of}
use Rattle.call_points.specs.AsideCodeSteps.{after_call}
use Rattle.call_points.specs.declared.deciding.DecideStep.TheVariants as decides
use Rattle.call_points.specs.declared.word_step.WordStep.TheVariants as id_steps
use Rattle.seat_states.specs.declared.point.AfterStep.{AfterStep}
use Rattle.seat_states.specs.declared.point.AfterStep.TheVariants as afters
use Rattle.seat_states.specs.declared.point.CallStep.TheVariants as begins
use Rattle.seat_states.specs.declared.point.Retrying.{Retrying}
use Rattle.seat_states.specs.declared.point.RetryStep.{RetryStep}
use Rattle.seat_states.specs.declared.point.RetryStep.TheVariants as retries
use Rattle.seat_states.specs.declared.point.Next.{Next}
use Rattle.seat_states.specs.declared.point.Point.{Point}
use Rattle.seat_states.specs.declared.point.Point.TheVariants as points
use Rattle.seat_states.specs.ProgramAtPoint.{Context, point_program, next_program, after_program, taken_with, IsNextName, TakesCall, HasInHand, HasRetry, IsFramed}
use Rattle.client_seats.specs.ClientSeatState.{SeatData, around, asked_or_nothing, seat_program}
use Rattle.client_seats.specs.ClientSeatFollowing.{IsFramedAs, IsPrepared, IsWithFrame}

-- what follows where there was memory
pub on_ok : {A E : Type 0} (P : A → Type 0) (Q : Type 0) (r : Result A E) → IfOk r P → ((a : A) → P a → Q) → OnOk r Q
on_ok P Q (Ok a) h f = f a h
on_ok P Q (Err e) h f = tt

-- the seat with the frame of an attempt in hand
abbrev framed_in : ℕ → ℕ → Asked → SeatData → SeatData
framed_in id n asked old = record old { message = Some (record { bytes = frame_of asked id n; parts = parts_of asked id n }) }

-- the id of a call is told with its first frame in hand
pub prepared_call : (sizes : Sizes) (old new : SeatData) (id : CallId) (socket : SocketId) (n : ℕ) → old.point ≡ points.Call (begins.StoreCall id socket) → n ≡ 0 → IsFramedAs old new (id_of id) n → IsPrepared sizes old new
prepared_call sizes old new id socket n at none f = subst (λ (x : SeatData). IsPrepared sizes old x) (sym f.is) (record {
  program = subst (λ (p : Point). point_program (around sizes with_frame') p ≡ point_program (around sizes old) p) (sym at) refl;
  waiting = refl;
  hand = subst (λ (p : Point). HasInHand (around sizes with_frame') p) (sym at) tt;
  frame = subst (λ (p : Point). IsWithFrame p (around sizes with_frame')) (sym at) (λ k. record (around sizes with_frame') { message = frame_of (asked k) (id_of id) (first k); parts = parts_of (asked k) (id_of id) (first k) });
  out = refl;
  ending = refl;
})
  where
    with_frame' : SeatData
    with_frame' = framed_in (id_of id) n f.asked old

    asked : asked_or_nothing old.call ≡ f.asked
    asked = ap asked_or_nothing f.call

    first : 0 ≡ n
    first = sym none

-- a retry has the frame of its attempt in hand
pub prepared_retry : (sizes : Sizes) (old mid new : SeatData) (r r' : Retrying) (step : RetryStep) → old.point ≡ points.Retry r step → IsFramedAs old mid (id_of r.attempt.id) (number_of r.attempt.number) →
    r'.attempt.id ≡ r.attempt.id → r'.attempt.number ≡ r.attempt.number → r'.attempt.operation ≡ (asked_or_nothing mid.call).operation → r'.name ≡ name_of (asked_or_nothing mid.call) (number_of r.attempt.number) → new ≡ record mid { point = points.Retry r' step } → IsPrepared sizes old new
prepared_retry sizes old mid new r r' step at f ids numbers operation name is = subst (λ (x : SeatData). IsPrepared sizes old x) (sym (is ∙ ap (λ (x : SeatData). record x { point = points.Retry r' step }) f.is)) (record {
  program = same step ∙ ap (point_program (around sizes old)) (sym at);
  waiting = refl;
  hand = has step;
  frame = refl;
  out = refl;
  ending = refl;
})
  where
    seat : SeatData
    seat = record (framed_in (id_of r.attempt.id) (number_of r.attempt.number) f.asked old) { point = points.Retry r' step }

    asked : asked_or_nothing old.call ≡ f.asked
    asked = ap asked_or_nothing f.call

    own : asked_or_nothing mid.call ≡ asked_or_nothing old.call
    own = ap (λ (x : SeatData). asked_or_nothing x.call) f.is

    same : (s : RetryStep) → point_program (around sizes seat) (points.Retry r' s) ≡ point_program (around sizes old) (points.Retry r s)
    same (retries.PutCall w) = ap₂ (λ (i : CallId) (n : AttemptNumber). point_program (around sizes old) (points.Retry (record { attempt = record { operation = 0; id = i; number = n }; name = 0 }) (retries.PutCall w))) ids numbers
    same (retries.Unlock w advance) = ap₂ (λ (i : CallId) (n : AttemptNumber). point_program (around sizes old) (points.Retry (record { attempt = record { operation = 0; id = i; number = n }; name = 0 }) (retries.Unlock w advance))) ids numbers
    same (retries.Lock id_steps.Read) = ap₂ (λ (i : CallId) (n : AttemptNumber). point_program (around sizes old) (points.Retry (record { attempt = record { operation = 0; id = i; number = n }; name = 0 }) (retries.Lock id_steps.Read))) ids numbers
    same (retries.Lock (id_steps.Exchange from)) = ap₂ (λ (i : CallId) (n : AttemptNumber). point_program (around sizes old) (points.Retry (record { attempt = record { operation = 0; id = i; number = n }; name = 0 }) (retries.Lock (id_steps.Exchange from)))) ids numbers
    same (retries.TakeCall w) = ap₂ (λ (i : CallId) (n : AttemptNumber). point_program (around sizes old) (points.Retry (record { attempt = record { operation = 0; id = i; number = n }; name = 0 }) (retries.TakeCall w))) ids numbers
    same retries.LoadName = ap₂ (λ (i : CallId) (n : AttemptNumber). point_program (around sizes old) (points.Retry (record { attempt = record { operation = 0; id = i; number = n }; name = 0 }) retries.LoadName)) ids numbers

    framed : IsFramed (around sizes seat) r'.attempt
    framed = record {
      operation = operation ∙ ap (λ (x : Asked). x.operation) own;
      message = λ k. frame_of (sym asked k) (id_of (sym ids k)) (number_of (sym numbers k));
      parts = λ k. parts_of (sym asked k) (id_of (sym ids k)) (number_of (sym numbers k));
    }

    named : r'.name ≡ name_of (asked_or_nothing old.call) (number_of r'.attempt.number)
    named = name ∙ ap₂ (λ (x : Asked) (n : AttemptNumber). name_of x (number_of n)) own (sym numbers)

    has : (s : RetryStep) → HasRetry (around sizes seat) r' s
    has (retries.PutCall w) = (framed, named)
    has (retries.Unlock w advance) = (framed, named)
    has retries.LoadName = (framed, named)
    has (retries.Lock l) = tt
    has (retries.TakeCall w) = tt

-- ## A call that came into its hand

-- what was decided doesn't hang on what is in hand
after_same : (a : Context) (bytes parts : List ℕ) (after : AfterStep) → after_program (record a { message = bytes; parts = parts }) after ≡ after_program a after
after_same a bytes parts (afters.Attempt None) = refl
after_same a bytes parts (afters.Attempt (Some i)) = refl
after_same a bytes parts (afters.Expire o) = refl
after_same a bytes parts (afters.Drop w None) = refl
after_same a bytes parts (afters.Drop w (Some next)) = refl

-- a retry goes on with its call, and has its message
pub retries_with : (sizes : Sizes) (old new : SeatData) (asked asked' : Asked) (next : Next) (r : Retrying) (step : RetryStep) → old.point ≡ points.Retry r step → asked' ≡ asked →
    new ≡ record old { message = Some (record { bytes = frame_of asked' (id_of r.attempt.id) (number_of r.attempt.number); parts = parts_of asked' (id_of r.attempt.id) (number_of r.attempt.number) }); call = Some asked' } →
    ((a : Context) → next_program (taken_with (points.Retry r step) asked a) next ≡ after_call (point_program a (points.Retry r step)) asked) → next_program (around sizes new) next ≡ after_call (seat_program sizes old) asked
retries_with sizes old new asked asked' next r step at same is h =
    ap (λ (x : SeatData). next_program (around sizes x) next) is
    ∙ ap (λ (x : Asked). next_program (around sizes (record old { message = Some (record { bytes = frame_of x (id_of r.attempt.id) (number_of r.attempt.number); parts = parts_of x (id_of r.attempt.id) (number_of r.attempt.number) }); call = Some x })) next) same
    ∙ h (around sizes old)
    ∙ ap (λ (p : Point). after_call (point_program (around sizes old) p) asked) (sym at)

-- no retry
abbrev pub IsNoRetry : Point → Type 0
IsNoRetry (points.Retry r at) = ⊥
IsNoRetry other = Unit {0}

-- whoever decides goes on with the call
pub takes_on : (sizes : Sizes) (old : SeatData) (asked : Asked) (next : Next) (p : Point) → old.point ≡ p → TakesCall p → IsNoRetry p → ((a : Context) → next_program (taken_with p asked a) next ≡ after_call (point_program a p) asked) →
    next_program (around sizes (record old { message = None; call = Some asked })) next ≡ after_call (seat_program sizes old) asked
takes_on sizes old asked next (points.Decide c after (decides.Take w)) at takes none h =
    h (record (around sizes old) { message = []; parts = [] })
    ∙ ap (λ (program : Program). after_call (decide (id_of c.id) w.0 c.error.0 (decided (id_of c.id) program)) asked) (after_same (around sizes old) [] [] after)
    ∙ ap (λ (p : Point). after_call (point_program (around sizes old) p) asked) (sym at)
takes_on sizes old asked next (points.Retry r step) at takes none h = absurd none
takes_on sizes old asked next _ at takes none h = absurd takes

pub no_retry : (p : Point) → ((r : Retrying) (step : RetryStep) → p ≡ points.Retry r step → ⊥) → IsNoRetry p
no_retry (points.Retry r step) none = none r step refl
no_retry _ none = tt

pub any_name : (asked : Asked) (p : Point) (name : ℕ) → IsNoRetry p → IsNextName asked p name
any_name asked (points.Retry r step) name none = absurd none
any_name asked _ name none = tt
