-- What the clients of a run told: of their own operations no end of a call, of each call that they ended that it failed, and of each id as many ends as their seats noted.
use Rattle.std.proofs.Common.{◌≡◌, ℕ, ◌+◌, List, [], ◌∷◌, ◌++◌, map, sym, ap, ◌∙◌, subst}
use Rattle.std.specs.List.{AllByRecursion}
use Rattle.atomic_table.specs.declared.shared.Seat.{Seat}
use Rattle.sock_io.specs.declared.link.Out.{Ghosts}
use Rattle.sock_io.specs.LinkHalves.{OutState}
use Rattle.sock_words.specs.declared.plain.Plan.{Plan}
use Rattle.sock_model.specs.declared.view.View.{View}
use Rattle.call_run.specs.sock_rule.specs.declared.homes.SockHome.{SockHome}
use Rattle.seat_programs.specs.declared.task.Task.{Task}
use Rattle.corr_core.specs.declared.marks.Plan as id_plan
use Rattle.corr_core.specs.declared.marks.View as id_view
use Rattle.sock_message.specs.Asked.{Asked}
use Rattle.rpc_client.specs.declared.acting.Told.{Told}
use Rattle.calls_done.specs.Below.CallErrors.ClientBooks.{Books}
use Rattle.call_run.specs.Threads.{opens_of, openings, opened_names, Thread, IsThread, AreThreads, AllRan}
use Rattle.calls_done.specs.call_whys.specs.call_told.specs.TellersOfCallEnds.{IsFailure, IsOwn, TellsOnly}
use Rattle.calls_done.specs.call_whys.specs.call_told.proofs.Balance.{Balanced, AreBalanced, balanced_each}
use Rattle.calls_done.specs.call_whys.specs.call_told.proofs.ClientTellings.{ended_fails}
use Rattle.calls_done.specs.call_whys.specs.call_told.proofs.RunsTellNotedEnds.{client_balanced}

-- what was told from nothing on
all_from : (P : Told → Type 0) (old new : List Told) → old ≡ [] → TellsOnly P old new → AllByRecursion P new
all_from P old new e h = subst (AllByRecursion P) (sym (h.1 ∙ ap (λ (l : List Told). l ++ h.0) e)) h.2

all_of : {A B : Type 0} (f : A → B) (P : B → Type 0) (xs : List A) → AllByRecursion (λ x. P (f x)) xs → AllByRecursion P (map f xs)
all_of f P [] h = tt
all_of f P (x ∷ xs) h = (h.0, all_of f P xs h.1)

module _ {O : Type 0} {g : Ghosts O} (state : O → OutState) (p : Plan) (q : id_plan.Plan) where
  -- what is known of each
  record Says (x : Thread g) : Type 0 where
    own : AllByRecursion IsOwn x.ended.outcomes.items
    failures : AllByRecursion IsFailure x.ended.calls.told.items
    balanced : Balanced x.ended.calls.told.items x.ended.calls.seat.me.0.notes

  says : (first : ℕ) (x : Thread g) → IsThread state p q first x → Says x
  says first x t = let c = ended_fails state p q x.began x.ended t.ran in record {
    own = all_from IsOwn x.began.outcomes.items x.ended.outcomes.items t.nothing.none_told c.own;
    failures = all_from IsFailure x.began.calls.told.items x.ended.calls.told.items (ap (λ (b : Books). b.told) t.nothing.books) c.ended;
    balanced = client_balanced state p q x.began x.ended t.ids t.nothing.books t.ran;
  }

  all_say : (P : Thread g → Type 0) → ((x : Thread g) → Says x → P x) → (names : List ℕ) (first : ℕ) (xs : List (Thread g)) → AreThreads state p q names first xs → AllByRecursion P xs
  all_say P f names first [] h = tt
  all_say P f names first (x ∷ xs) h = (f x (says first x h.0), all_say P f names (first + opens_of x.tasks) xs h.2)

  module _ (setup : List Task) (clients : List (List Task)) (opens : List ℕ) (told ended : List (List Told)) (seats : List (Seat (SockHome O g) View)) (ids : List (id_view.View Asked)) (r : AllRan g state p q setup clients opens told ended seats ids) where
    each : (P : Thread g → Type 0) → ((x : Thread g) → Says x → P x) → AllByRecursion P (r.main ∷ r.others)
    each P f = (f r.main (says 0 r.main r.main_is), all_say P f (opened_names r.main.ended.outcomes.items (openings setup)) (opens_of setup) r.others r.others_are)

    pub owns : AllByRecursion (λ ts. AllByRecursion IsOwn ts) told
    owns = subst (AllByRecursion (λ ts. AllByRecursion IsOwn ts)) r.told_is (all_of (λ (x : Thread g). x.ended.outcomes.items) (λ ts. AllByRecursion IsOwn ts) (r.main ∷ r.others) (each (λ x. AllByRecursion IsOwn x.ended.outcomes.items) (λ x s. s.own)))

    pub failures : AllByRecursion (λ ts. AllByRecursion IsFailure ts) ended
    failures = subst (AllByRecursion (λ ts. AllByRecursion IsFailure ts)) r.ended_is (all_of (λ (x : Thread g). x.ended.calls.told.items) (λ ts. AllByRecursion IsFailure ts) (r.main ∷ r.others) (each (λ x. AllByRecursion IsFailure x.ended.calls.told.items) (λ x s. s.failures)))

    pub balanced : AreBalanced ended ids
    balanced = subst (AreBalanced ended) r.ids_are (subst (λ (l : List (List Told)). AreBalanced l (map (λ (x : Thread g). x.ended.calls.seat.me.0) (r.main ∷ r.others))) r.ended_is
        (balanced_each (λ (x : Thread g). x.ended.calls.told.items) (λ (x : Thread g). x.ended.calls.seat.me.0) (r.main ∷ r.others) (each (λ x. Balanced x.ended.calls.told.items x.ended.calls.seat.me.0.notes) (λ x s. s.balanced))))
