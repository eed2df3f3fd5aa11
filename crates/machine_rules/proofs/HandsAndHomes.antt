-- Who has which links in hand, and what lies at the homes, before and behind a change of one link.
use Rattle.std.proofs.Common.{◌≡◌, ◌≢◌, refl, ℕ, ◌+◌, ◌<◌, ◌==◌, eq-eqb, ne_eqb, List, [], ◌∷◌, ◌++◌, map, length, slice_set, is_some, if◌then◌else◌, cond, Option, Some, None, ap, ap₂, sym, ◌∙◌, arith, subst}
use Rattle.std.proofs.lemmas.List.{map-set, set-append_left}
use mathlib.Core.Logic.{dite}
use native.Mathlib.Decide.{ℕ_discrete}
use mathlib.Core.Option as core
use lib.ListN.{get_elem?}
use Rattle.sock_words.specs.declared.plain.Plan.{Plan}
use Rattle.sock_model.specs.declared.home.Home.{Home}
use Rattle.seat_programs.specs.Cores.{link_place}
use Rattle.seat_programs.specs.ScheduledRuns.{from_to}
use Rattle.std.proofs.Math.ListN.{length-map}
use Rattle.machine_model.specs.declared.home_message.HomeMessage.{HomeMessage}
use Rattle.machine_model.specs.MachineLinks.{LinksData, Taken, holder_of, link_with, link_home, homes_of, in_hand, hand_of, letter_home}
use Rattle.machine_rules.proofs.RangeLists.{get-range, set-range, map-range_same, get-behind, set-behind, flat-none, flat-one, flat-same}

-- ## One link

-- a link with this holder, as its home and a hand have it
abbrev home_by : Home → Option ℕ → core.Option Home
home_by x o = if is_some o then core.none else core.some x

abbrev held_by : ℕ → Home → Option ℕ → List Home
held_by i x o = elim o as (λ o. List Home) [ None ↦ [] | Some j ↦ if j == i then x ∷ [] else [] ]

held_own : (i : ℕ) (x : Home) → held_by i x (Some i) ≡ x ∷ []
held_own i x = ap (λ b. cond b (x ∷ []) []) (eq-eqb i i refl)

held_else : (i : ℕ) (x : Home) (o : Option ℕ) → o ≢ Some i → held_by i x o ≡ []
held_else i x None differ = refl
held_else i x (Some j) differ = ap (λ b. cond b (x ∷ []) []) (ne_eqb j i (λ e. differ (ap Some e)))

module _ (l : LinksData) (took : Taken) where
  pub lies_home : (k : ℕ) → holder_of l k ≡ None → link_home l took k ≡ core.some (link_with l took k)
  lies_home k e = ap (home_by (link_with l took k)) e

  pub is_away : (k i : ℕ) → holder_of l k ≡ Some i → link_home l took k ≡ core.none
  is_away k i e = ap (home_by (link_with l took k)) e

  pub own_link : (i k : ℕ) → holder_of l k ≡ Some i → in_hand l took i k ≡ link_with l took k ∷ []
  own_link i k e = ap (held_by i (link_with l took k)) e ∙ held_own i (link_with l took k)

  pub no_link : (i k : ℕ) → holder_of l k ≢ Some i → in_hand l took i k ≡ []
  no_link i k differ = held_else i (link_with l took k) (holder_of l k) differ

-- ## Whose links

-- seat i has no link in hand, or this one alone
abbrev pub HasNone : LinksData → ℕ → Type 0
HasNone l i = (k : ℕ) → holder_of l k ≢ Some i

abbrev pub HasOnly : LinksData → ℕ → ℕ → Type 0
HasOnly l i k = (holder_of l k ≡ Some i) × ((j : ℕ) → j ≢ k → holder_of l j ≢ Some i)

module _ (l : LinksData) (took : Taken) (count i : ℕ) where
  pub hand_none : HasNone l i → hand_of l count took i ≡ []
  hand_none none_ = flat-none (in_hand l took i) 0 count (λ j a b. no_link l took i j (none_ j))

  pub hand_only : (k : ℕ) → k < count → HasOnly l i k → hand_of l count took i ≡ link_with l took k ∷ []
  hand_only k inside only = flat-one (in_hand l took i) 0 count k inside (λ j a differ. no_link l took i j (only.1 j (λ e. differ (omega (arith, e)))))
      ∙ ap (in_hand l took i) (omega arith) ∙ own_link l took i k only.0

-- ## Homes

module _ (p : Plan) (letters : List (Option HomeMessage)) (sized : length letters ≡ p.requests) (l : LinksData) (took : Taken) where
  place_is : (k : ℕ) → link_place p k ≡ length (map letter_home letters) + k
  place_is k = let e = length-map letters letter_home in omega arith

  pub home_at : (k : ℕ) → k < p.links → get_elem? (homes_of l p letters took) (link_place p k) ≡ core.some (link_home l took k)
  home_at k inside = ap (get_elem? (homes_of l p letters took)) (place_is k) ∙ get-behind (map letter_home letters) (map (link_home l took) (from_to 0 p.links)) k
      ∙ get-range (link_home l took) 0 p.links k inside ∙ ap (λ j. core.some (link_home l took j)) (omega arith)

  pub homes_set : (l' : LinksData) (later : Taken) (k : ℕ) (y : core.Option Home) → k < p.links → link_home l' later k ≡ y → ((j : ℕ) → j ≢ k → link_home l took j ≡ link_home l' later j) →
      slice_set (homes_of l p letters took) (link_place p k) y ≡ homes_of l' p letters later
  homes_set l' later k y inside here other = ap (λ n. slice_set (homes_of l p letters took) n y) (place_is k)
      ∙ set-behind (map letter_home letters) (map (link_home l took) (from_to 0 p.links)) k y
      ∙ ap (λ (hs : List (core.Option Home)). map letter_home letters ++ hs)
      (set-range (link_home l took) (link_home l' later) 0 p.links k y inside (ap (link_home l' later) (omega arith) ∙ here) (λ j a q. other j (λ e. q (omega (arith, e)))))

  pub letters_set : (q : ℕ) (x : Option HomeMessage) → q < p.requests → slice_set (homes_of l p letters took) q (letter_home x) ≡ homes_of l p (slice_set letters q x) took
  letters_set q x inside = set-append_left (map letter_home letters) (map (link_home l took) (from_to 0 p.links)) q (letter_home x) (let e = length-map letters letter_home in omega arith)
      ∙ ap (λ (hs : List (core.Option Home)). hs ++ map (link_home l took) (from_to 0 p.links)) (sym (map-set letter_home letters q x))

pub homes_same : (p : Plan) (letters : List (Option HomeMessage)) (l l' : LinksData) (took later : Taken) → ((j : ℕ) → link_home l took j ≡ link_home l' later j) → homes_of l p letters took ≡ homes_of l' p letters later
homes_same p letters l l' took later same = ap (λ (hs : List (core.Option Home)). map letter_home letters ++ hs) (map-range_same (link_home l took) (link_home l' later) 0 p.links (λ j a. same j))

-- ## What a change of link k leaves

-- another link has the same holder and is the same
pub record IsKept (l l' : LinksData) (took later : Taken) (j : ℕ) : Type 0 where
  pub holder : holder_of l' j ≡ holder_of l j
  pub with_ : link_with l' later j ≡ link_with l took j

module _ (l l' : LinksData) (took later : Taken) where
  pub kept_home : (j : ℕ) → IsKept l l' took later j → link_home l took j ≡ link_home l' later j
  kept_home j kept = sym (ap₂ home_by kept.with_ kept.holder)

  pub kept_hand : (i j : ℕ) → IsKept l l' took later j → in_hand l' later i j ≡ in_hand l took i j
  kept_hand i j kept = ap₂ (held_by i) kept.with_ kept.holder

  module _ (k : ℕ) (kept : (j : ℕ) → j ≢ k → IsKept l l' took later j) where
    -- who has it neither before nor behind has what they had
    pub others_hand : (count i : ℕ) → holder_of l k ≢ Some i → holder_of l' k ≢ Some i → hand_of l' count later i ≡ hand_of l count took i
    others_hand count i before behind = flat-same (in_hand l' later i) (in_hand l took i) 0 count (λ j inside. dite (ℕ_discrete j k)
        (λ e. subst (λ x. in_hand l' later i x ≡ in_hand l took i x) (sym e) (no_link l' later i k behind ∙ sym (no_link l took i k before)))
        (λ differ. kept_hand i j (kept j differ)))

    -- seat i has it alone behind a change, where it had none before, and none where it had it alone
    pub has_only : (i : ℕ) → holder_of l' k ≡ Some i → ((j : ℕ) → j ≢ k → holder_of l j ≢ Some i) → HasOnly l' i k
    has_only i own other = (own, λ j differ e. other j differ (sym (kept j differ).holder ∙ e))

    pub has_none : (i : ℕ) → holder_of l' k ≢ Some i → ((j : ℕ) → j ≢ k → holder_of l j ≢ Some i) → HasNone l' i
    has_none i own other j = dite (ℕ_discrete j k) (λ same e. own (ap (holder_of l') (sym same) ∙ e)) (λ differ e. other j differ (sym (kept j differ).holder ∙ e))

    pub homes_kept : (p : Plan) (letters : List (Option HomeMessage)) → link_home l took k ≡ link_home l' later k → homes_of l p letters took ≡ homes_of l' p letters later
    homes_kept p letters here = homes_same p letters l l' took later (λ j. dite (ℕ_discrete j k)
        (λ e. subst (λ x. link_home l took x ≡ link_home l' later x) (sym e) here) (λ differ. kept_home j (kept j differ)))
