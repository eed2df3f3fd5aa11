-- A run begins with few seats, of which none had a message accepted.
use Rattle.std.proofs.Common.{ℕ, zero, suc, ◌≡◌, ◌≤◌, ◌-◌, List, [], ◌∷◌, length, map, sym, subst, arith}
use Rattle.std.proofs.lemmas.List.{length-map}
use mathlib.Core.Option.{some, some-injective, some-ne-none}
use lib.ListN.{get_elem?}
use Rattle.sock_words.specs.declared.plain.Plan.{Plan}
use Rattle.sock_model.specs.declared.chain.Entry.{Entry}
use Rattle.sock_model.specs.declared.view.View.{View}
use Rattle.sock_model.specs.Rule.{MOST_ACCEPTED}
use Rattle.sock_model.specs.ViewsOfSplitSeats.{newcomer, below}
use Rattle.seat_programs.specs.declared.task.Task.{Task}
use Rattle.program_walks.specs.program_steps.specs.SoundSeats.{AreFew}
use Rattle.program_walks.specs.sock_runs.proofs.FewAcceptedMessages.{IsFew}
use Rattle.programs_allowed.specs.SeatOpenings.{links_of_all, without_passes, client_view, opening_views}

-- whoever has no message accepted yet
no_entry : (p : Plan) (passes : List ℕ) (more : ℕ) → IsFew (newcomer p passes more)
no_entry p passes more = (omega arith, short)
  where
    short : (n : ℕ) (l : List Entry) → get_elem? ([] ∷ []) n ≡ some l → length l ≤ MOST_ACCEPTED
    short zero l e = subst (λ (x : List Entry). length x ≤ MOST_ACCEPTED) (some-injective [] l e) (omega arith)
    short (suc n) l e = absurd (some-ne-none l (sym e))

no_entries : (p : Plan) (clients : List (List Task)) (i : ℕ) (v : View) → get_elem? (map (client_view p) clients) i ≡ some v → IsFew v
no_entries p [] i v e = absurd (some-ne-none v (sym e))
no_entries p (ts ∷ clients) zero v e = subst IsFew (some-injective (client_view p ts) v e) (no_entry p (client_view p ts).passes 0)
no_entries p (ts ∷ clients) (suc i) v e = no_entries p clients i v e

pub opening_few : (p : Plan) (clients : List (List Task)) → length clients ≤ 64 → AreFew (opening_views p clients)
opening_few p [] few = record { few_seats = omega arith; short = λ i v e. absurd (some-ne-none v (sym e)) }
opening_few p (ts ∷ clients) few = record { few_seats = omega (arith, few, length-map clients (client_view p)); short = each }
  where
    each : (i : ℕ) (v : View) → get_elem? (opening_views p (ts ∷ clients)) i ≡ some v → IsFew v
    each zero v e = let ps : List ℕ = without_passes (links_of_all clients) (below p.links) in let more : ℕ = 511 - length clients in
        subst IsFew (some-injective (newcomer p ps more) v e) (no_entry p ps more)
    each (suc i) v e = no_entries p clients i v e
