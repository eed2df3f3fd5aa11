-- How a seat goes on behind a step, by its kind.
use Rattle.std.proofs.Common.{◌≡◌, refl, sym, ap, subst, ◌∙◌, ℕ, Bool, true, false, List, [], ◌∷◌, ◌++◌, Option, Some, None, slice_set}
use Rattle.std.proofs.lemmas.Bool.{true≢false}
use Rattle.sock_words.specs.declared.outcome.Outcome.{Outcome}
use Rattle.sock_words.specs.declared.outcome.Outcome.TheVariants.{Expired}
use Rattle.sock_words.specs.declared.socket_id.SocketId.{SocketId}
use Rattle.seat_programs.specs.declared.task.Sizes.{Sizes}
use Rattle.seat_programs.specs.LoopHeads.{Retry}
use Rattle.seat_programs.specs.Programs.{Program, Say, Sent, Keep, Rest}
use Rattle.seat_programs.specs.ClientProgram.{HeldLife, ending_of}
use Rattle.seat_programs.specs.Cores.{resolved, said, next_step}
use Rattle.seat_states.specs.declared.point.AfterStep.{AfterStep}
use Rattle.seat_states.specs.declared.point.AfterStep.TheVariants as afters
use Rattle.seat_states.specs.declared.point.Next.{Next}
use Rattle.seat_states.specs.declared.point.Next.TheVariants as nexts
use Rattle.seat_states.specs.ProgramAtPoint.{Context, next_program, after_program}
use Rattle.client_seats.specs.ClientSeatState.{SeatData, around, nothing_asked, seat_program}
use Rattle.client_seats.specs.ClientSeatFollowing.{FollowsOn, IsFlat}

-- it told an outcome
pub said_on : (sizes : Sizes) (old new : SeatData) (program : Program) (o : ℕ) (outcome : Outcome) (before told behind : List (Option Outcome)) →
    FollowsOn sizes old new program told behind → told ≡ slice_set before o (Some outcome) → FollowsOn sizes old new (Say o outcome program) before behind
said_on sizes old new program o outcome before told behind f e = record { next = f.next; waiting = f.waiting; told = f.told ∙ ap (said (resolved old.waiting program)) e }

-- it sent
pub sent_on : (sizes : Sizes) (old new : SeatData) (program : Program) (o : ℕ) (before behind : List (Option Outcome)) → FollowsOn sizes old new program before behind → FollowsOn sizes old new (Sent o program) before behind
sent_on sizes old new program o before behind f = record { next = f.next; waiting = f.waiting; told = f.told }

-- it keeps a retry, and goes on so
pub kept_on : (sizes : Sizes) (old new mid : SeatData) (r : Retry) (P : Context → Program) (before behind : List (Option Outcome)) → mid ≡ record old { waiting = old.waiting ++ r ∷ [] } →
    FollowsOn sizes mid new (P (around sizes mid)) before behind → FollowsOn sizes old new (Keep r (P (around sizes old))) before behind
kept_on sizes old new mid r P before behind is f =
    let f' = subst (λ (x : SeatData). FollowsOn sizes x new (P (around sizes x)) before behind) is f in
    record { next = f'.next; waiting = f'.waiting; told = f'.told }

-- the ending goes on
pub ends_on : (sizes : Sizes) (old new : SeatData) (os : List ℕ) (before : List (Option Outcome)) → seat_program sizes new ≡ next_step (ending_of os) → new.waiting ≡ old.waiting → FollowsOn sizes old new (ending_of os) before before
ends_on sizes old new os before is waiting = ends os is
  where
    ends : (os : List ℕ) → seat_program sizes new ≡ next_step (ending_of os) → FollowsOn sizes old new (ending_of os) before before
    ends [] e = record { next = e; waiting = waiting; told = refl }
    ends (o ∷ os) e = record { next = e; waiting = waiting; told = refl }

-- ## Behind what was decided on an error

-- it says no more than that a call expired, and keeps nothing
abbrev IsPlain : Program → Bool
IsPlain (Say o Expired next) = true
IsPlain (Say o other next) = false
IsPlain (Keep r next) = false
IsPlain other = true

-- where nothing is left to do
abbrev nothing_left : Context
nothing_left = record {
  sizes = record { slots = 0; requests = 0; ids = 0 };
  goes_on = λ (hs : List HeldLife). Rest;
  ends = Rest;
  held = [];
  message = [];
  parts = [];
  asked = nothing_asked;
  left = [];
  taken = 0;
  left_parts = [];
}

after_plain : (after : AfterStep) → IsPlain (after_program nothing_left after) ≡ true
after_plain (afters.Attempt None) = refl
after_plain (afters.Attempt (Some i)) = refl
after_plain (afters.Expire o) = refl
after_plain (afters.Drop w None) = refl
after_plain (afters.Drop w (Some next)) = refl

pub after_flat : (after : AfterStep) (next : Next) → ((a : Context) → next_program a next ≡ after_program a after) → IsFlat next
after_flat after next e = flat next (ap IsPlain (e nothing_left) ∙ after_plain after)
  where
    flat : (n : Next) → IsPlain (next_program nothing_left n) ≡ true → IsFlat n
    flat (nexts.Point point) k = tt
    flat (nexts.Said o outcome) k = tt
    flat (nexts.Sent o) k = tt
    flat (nexts.Held o name id) k = tt
    flat nexts.GaveBack k = tt
    flat nexts.Ended k = tt
    flat (nexts.CallEnded o id c after) k = absurd (true≢false (sym k))
    flat (nexts.Kept id n after) k = absurd (true≢false (sym k))
    flat (nexts.KeptWith c n word after) k = absurd (true≢false (sym k))

-- it holds no life then
pub after_holds_none : (after : AfterStep) (next : Next) (o name : ℕ) (id : SocketId) → ((a : Context) → next_program a next ≡ after_program a after) → next ≡ nexts.Held o name id → ⊥
after_holds_none after next o name id e is = true≢false (sym (ap IsPlain (e nothing_left) ∙ after_plain after) ∙ ap (λ (n : Next). IsPlain (next_program nothing_left n)) is)
