-- Where a client goes on: with a retry, with a task, or where it gives back what it holds.
use Rattle.std.proofs.Common.{◌≡◌, refl, sym, ap, ap₂, ◌∙◌, subst, length, arith, true, false, ◌<◌, List, [], ◌∷◌, Option, Some, slice_set, slice_index_or, remove}
use Rattle.sock_words.specs.declared.outcome.Outcome.{Outcome}
use Rattle.sock_words.specs.declared.outcome.Outcome.TheVariants.{NotHeld}
use Rattle.seat_programs.specs.declared.task.Task.{Task}
use Rattle.seat_programs.specs.declared.task.Sizes.{Sizes}
use Rattle.seat_programs.specs.LoopHeads.{Retry}
use Rattle.seat_programs.specs.Programs.{Program, Say}
use Rattle.seat_programs.specs.CallAndRetryPrograms.{retry}
use Rattle.seat_programs.specs.ClientProgram.{HeldLife, operation, client_from, give_back}
use Rattle.seat_programs.specs.Cores.{resolved, still_waiting, said, next_step}
use Rattle.seat_states.specs.declared.point.Point.{Point}
use Rattle.seat_states.specs.ProgramAtPoint.{Context, point_program}
use Rattle.client_seats.specs.declared.seat.Kept.{Kept}
use Rattle.client_seats.specs.ClientSeatState.{SeatData, retries, client_of, seat_program}
use Rattle.client_seats.specs.ClientSeatFollowing.{FollowsOn}
use Rattle.client_seats.proofs.PointsAtSteps.{begun, at_step}

-- a program that comes to this next step with these retries, and says nothing before it
pub record Comes (w : List Retry) (program next : Program) : Type 0 where
  pub next_is : next_step (resolved w program) ≡ next
  pub waiting_is : still_waiting w program ≡ w
  pub said_is : (os : List (Option Outcome)) → said (resolved w program) os ≡ os

comes_at : (w : List Retry) (a : Context) (point : Point) → Comes w (point_program a point) (point_program a point)
comes_at w a point = let at = at_step w (point_program a point) (begun a point) in record {
  next_is = ap next_step at.resolved_is ∙ at.next_is;
  waiting_is = at.waiting_is;
  said_is = λ os. ap (λ (p : Program). said p os) at.resolved_is ∙ at.said_is os;
}

-- without retries a client comes to its next task
pub comes_to_task : (a : Context) (sizes : Sizes) (held : List HeldLife) (tasks : List Task) (t : Task) (ts : List Task) (point : Point) →
    tasks ≡ t ∷ ts → point_program a point ≡ operation sizes held t.number (λ hs. client_from sizes hs ts) t.op → Comes [] (client_from sizes held tasks) (point_program a point)
comes_to_task a sizes held tasks t ts point e f =
    let c : Comes [] (operation sizes held t.number (λ hs. client_from sizes hs ts) t.op) (point_program a point) = subst (λ (p : Program). Comes [] p (point_program a point)) f (comes_at [] a point) in
    subst (λ (l : List Task). Comes [] (client_from sizes held l) (point_program a point)) (sym e) (record { next_is = c.next_is; waiting_is = c.waiting_is; said_is = c.said_is })

-- and behind the last it gives back what it holds
pub comes_to_end : (a : Context) (sizes : Sizes) (held : List HeldLife) (tasks : List Task) (point : Point) →
    tasks ≡ [] → point_program a point ≡ give_back held → Comes [] (client_from sizes held tasks) (point_program a point)
comes_to_end a sizes held tasks point e f =
    let c : Comes [] (give_back held) (point_program a point) = subst (λ (p : Program). Comes [] p (point_program a point)) f (comes_at [] a point) in
    subst (λ (l : List Task). Comes [] (client_from sizes held l) (point_program a point)) (sym e) (record { next_is = c.next_is; waiting_is = c.waiting_is; said_is = c.said_is })

-- it does so whatever retries wait
pub comes_back : (w : List Retry) (a : Context) (held : List HeldLife) (point : Point) → point_program a point ≡ give_back held → Comes w (give_back held) (point_program a point)
comes_back w a held point f = subst (λ (p : Program). Comes w p (point_program a point)) f (comes_at w a point)

-- a task that takes no step says so, and the client goes on with the others
pub record Passes (sizes : Sizes) (held held' : List HeldLife) (tasks : List Task) (t : Task) (ts : List Task) : Type 0 where
  pub next_is : next_step (resolved [] (client_from sizes held tasks)) ≡ next_step (resolved [] (client_from sizes held' ts))
  pub waiting_is : still_waiting [] (client_from sizes held tasks) ≡ still_waiting [] (client_from sizes held' ts)
  pub said_is : (os : List (Option Outcome)) → said (resolved [] (client_from sizes held tasks)) os ≡ said (Say t.number NotHeld (resolved [] (client_from sizes held' ts))) os

pub passes : (sizes : Sizes) (held held' : List HeldLife) (tasks : List Task) (t : Task) (ts : List Task) → tasks ≡ t ∷ ts →
    operation sizes held t.number (λ hs. client_from sizes hs ts) t.op ≡ Say t.number NotHeld (client_from sizes held' ts) → Passes sizes held held' tasks t ts
passes sizes held held' tasks t ts e f = subst (λ (l : List Task). Passes sizes held held' l t ts) (sym e) (record {
  next_is = ap (λ (p : Program). next_step (resolved [] p)) f;
  waiting_is = ap (still_waiting []) f;
  said_is = λ os. ap (λ (p : Program). said (resolved [] p) os) f;
})

-- a list without elements
pub none_in : {A : Type 0} (xs : List A) → length xs ≡ 0 → xs ≡ []
none_in [] e = refl
none_in (x ∷ xs) e = absurd (omega arith)

-- ## Tasks that take no step

-- what a client was to do with these tasks is what it has to do with those, but for the outcomes that were told
pub record Passed (sizes : Sizes) (held₀ : List HeldLife) (tasks₀ : List Task) (os₀ : List (Option Outcome)) (held : List HeldLife) (tasks : List Task) (os : List (Option Outcome)) : Type 0 where
  pub next_is : next_step (resolved [] (client_from sizes held tasks)) ≡ next_step (resolved [] (client_from sizes held₀ tasks₀))
  pub waiting_is : still_waiting [] (client_from sizes held tasks) ≡ still_waiting [] (client_from sizes held₀ tasks₀)
  pub said_is : said (resolved [] (client_from sizes held tasks)) os ≡ said (resolved [] (client_from sizes held₀ tasks₀)) os₀

pub none_passed : (sizes : Sizes) (held : List HeldLife) (tasks : List Task) (os : List (Option Outcome)) → Passed sizes held tasks os held tasks os
none_passed sizes held tasks os = record { next_is = refl; waiting_is = refl; said_is = refl }

pub one_passed : (sizes : Sizes) (held₀ : List HeldLife) (tasks₀ : List Task) (os₀ : List (Option Outcome)) (held : List HeldLife) (tasks : List Task) (os : List (Option Outcome)) (held' : List HeldLife) (t : Task) (ts : List Task) (os' : List (Option Outcome)) →
    Passed sizes held₀ tasks₀ os₀ held tasks os → tasks ≡ t ∷ ts → operation sizes held t.number (λ hs. client_from sizes hs ts) t.op ≡ Say t.number NotHeld (client_from sizes held' ts) → os' ≡ slice_set os t.number (Some NotHeld) → Passed sizes held₀ tasks₀ os₀ held' ts os'
one_passed sizes held₀ tasks₀ os₀ held tasks os held' t ts os' b e f g = let p = passes sizes held held' tasks t ts e f in record {
  next_is = sym p.next_is ∙ b.next_is;
  waiting_is = sym p.waiting_is ∙ b.waiting_is;
  said_is = ap (said (resolved [] (client_from sizes held' ts))) g ∙ sym (p.said_is os) ∙ b.said_is;
}

-- where it comes to a step, so did the client
pub passed_on : (sizes : Sizes) (old new : SeatData) (os₀ os : List (Option Outcome)) (held : List HeldLife) (tasks : List Task) (program : Program) →
    old.leaving ≡ false → old.waiting ≡ [] → new.waiting ≡ [] → Passed sizes old.held old.tasks os₀ held tasks os → Comes [] (client_from sizes held tasks) program → seat_program sizes new ≡ program →
    FollowsOn sizes old new (client_of sizes old) os₀ os
passed_on sizes old new os₀ os held tasks program stays none none' b c is =
    let client : client_of sizes old ≡ client_from sizes old.held old.tasks = rw (stays) refl in
    record {
      next = is ∙ sym c.next_is ∙ b.next_is ∙ ap₂ (λ (w : List Retry) (p : Program). next_step (resolved w p)) (sym none) (sym client);
      waiting = none' ∙ sym c.waiting_is ∙ b.waiting_is ∙ ap₂ still_waiting (sym none) (sym client);
      told = sym (c.said_is os) ∙ b.said_is ∙ ap₂ (λ (w : List Retry) (p : Program). said (resolved w p) os₀) (sym none) (sym client);
    }

-- a client with a retry that waits comes to it
record Retried (sizes : Sizes) (r : Retry) (rs : List Retry) (program : Program) : Type 0 where
  next_is : next_step (resolved (r ∷ rs) program) ≡ retry sizes.requests r.id r.attempt program
  waiting_is : still_waiting (r ∷ rs) program ≡ rs
  said_is : (os : List (Option Outcome)) → said (resolved (r ∷ rs) program) os ≡ os

retried : (sizes : Sizes) (r : Retry) (rs : List Retry) (held : List HeldLife) (tasks : List Task) → Retried sizes r rs (client_from sizes held tasks)
retried sizes r rs held [] = record { next_is = refl; waiting_is = refl; said_is = λ os. refl }
retried sizes r rs held (t ∷ ts) = record { next_is = refl; waiting_is = refl; said_is = λ os. refl }

pub retries_on : (sizes : Sizes) (old new : SeatData) (r : Retry) (rs : List Retry) (os : List (Option Outcome)) →
    old.leaving ≡ false → old.waiting ≡ r ∷ rs → new.waiting ≡ rs → seat_program sizes new ≡ retry sizes.requests r.id r.attempt (client_of sizes old) → FollowsOn sizes old new (client_of sizes old) os os
retries_on sizes old new r rs os stays some left is =
    let client : client_of sizes old ≡ client_from sizes old.held old.tasks = rw (stays) refl in
    let b = retried sizes r rs old.held old.tasks in
    record {
      next = is ∙ ap (retry sizes.requests r.id r.attempt) client ∙ sym b.next_is ∙ ap₂ (λ (w : List Retry) (p : Program). next_step (resolved w p)) (sym some) (sym client);
      waiting = left ∙ sym b.waiting_is ∙ ap₂ still_waiting (sym some) (sym client);
      told = sym (b.said_is os) ∙ ap₂ (λ (w : List Retry) (p : Program). said (resolved w p) os) (sym some) (sym client);
    }

-- a client that leaves gives back what it holds
pub leaves_on : (sizes : Sizes) (old new : SeatData) (a : Context) (point : Point) (os : List (Option Outcome)) →
    old.leaving ≡ true → new.waiting ≡ old.waiting → seat_program sizes new ≡ point_program a point → point_program a point ≡ give_back old.held → FollowsOn sizes old new (client_of sizes old) os os
leaves_on sizes old new a point os leaves waiting is gives =
    let client : client_of sizes old ≡ give_back old.held = rw (leaves) refl in
    let c = comes_back old.waiting a old.held point gives in
    record {
      next = is ∙ sym c.next_is ∙ ap (λ (p : Program). next_step (resolved old.waiting p)) (sym client);
      waiting = waiting ∙ sym c.waiting_is ∙ ap (still_waiting old.waiting) (sym client);
      told = sym (c.said_is os) ∙ ap (λ (p : Program). said (resolved old.waiting p) os) (sym client);
    }

-- the oldest of the retries that wait, and the others
pub removed_first : (ks : List Kept) (x : Kept) (rest : List Kept) → x ≡ slice_index_or ks 0 x → 0 < length ks → rest ≡ remove ks 0 → retries ks ≡ retries (x ∷ rest)
removed_first [] x rest is some gone = absurd (omega arith)
removed_first (k ∷ ks) x rest is some gone = let f : rest ≡ ks = gone in let e : x ≡ k = is in λ i. retries (sym e i ∷ sym f i)
