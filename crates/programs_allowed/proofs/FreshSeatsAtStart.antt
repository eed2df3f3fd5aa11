-- A run begins where each seat keeps one list of the messages that it had accepted, and has none in it, and none has a mark yet.
use Rattle.std.proofs.Common.{ℕ, zero, suc, ◌≡◌, ◌-◌, List, [], ◌∷◌, length, map, sym, refl, subst}
use mathlib.Core.Option.{some, some-injective, some-ne-none}
use lib.ListN.{get_elem?}
use Rattle.sock_words.specs.declared.plain.Plan.{Plan}
use Rattle.sock_model.specs.declared.view.View.{View}
use Rattle.sock_model.specs.ViewsOfSplitSeats.{newcomer, below}
use Rattle.seat_programs.specs.declared.task.Task.{Task}
use Rattle.programs_allowed.specs.SeatOpenings.{links_of_all, without_passes, client_view, opening_views}

-- what every newcomer is, each view is as a run begins
module _ (P : View → Type 0) (p : Plan) (new : (links : List ℕ) (n : ℕ) → P (newcomer p links n)) (client : (ts : List Task) → P (client_view p ts)) where
  clients_each : (clients : List (List Task)) (i : ℕ) (v : View) → get_elem? (map (client_view p) clients) i ≡ some v → P v
  clients_each [] i v e = absurd (some-ne-none v (sym e))
  clients_each (ts ∷ clients) zero v e = subst P (some-injective (client_view p ts) v e) (client ts)
  clients_each (ts ∷ clients) (suc i) v e = clients_each clients i v e

  pub opening_each : (clients : List (List Task)) (i : ℕ) (v : View) → get_elem? (opening_views p clients) i ≡ some v → P v
  opening_each [] i v e = absurd (some-ne-none v (sym e))
  opening_each (ts ∷ clients) zero v e = subst P (some-injective (newcomer p (without_passes (links_of_all clients) (below p.links)) (511 - length clients)) v e) (new (without_passes (links_of_all clients) (below p.links)) (511 - length clients))
  opening_each (ts ∷ clients) (suc i) v e = clients_each clients i v e

pub opening_fresh : (p : Plan) (clients : List (List Task)) (i : ℕ) (v : View) → get_elem? (opening_views p clients) i ≡ some v → v.lists ≡ [] ∷ []
opening_fresh p = opening_each (λ v. v.lists ≡ [] ∷ []) p (λ links n. refl) (λ ts. refl)

-- no view has a mark yet
pub opening_blank : (p : Plan) (clients : List (List Task)) (i : ℕ) (v : View) → get_elem? (opening_views p clients) i ≡ some v → v.marks ≡ []
opening_blank p = opening_each (λ v. v.marks ≡ []) p (λ links n. refl) (λ ts. refl)

-- nor a right
pub opening_rights : (p : Plan) (clients : List (List Task)) (i : ℕ) (v : View) → get_elem? (opening_views p clients) i ≡ some v → v.rights ≡ []
opening_rights p = opening_each (λ v. v.rights ≡ []) p (λ links n. refl) (λ ts. refl)

-- nor a claim
pub opening_claims : (p : Plan) (clients : List (List Task)) (i : ℕ) (v : View) → get_elem? (opening_views p clients) i ≡ some v → v.claims ≡ []
opening_claims p = opening_each (λ v. v.claims ≡ []) p (λ links n. refl) (λ ts. refl)
