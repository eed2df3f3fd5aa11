-- What each change of a link makes of the homes and the hands, and so of the core.
use Rattle.std.proofs.Common.{◌≡◌, ◌≢◌, refl, ℕ, ◌<◌, Bool, false, List, [], ◌∷◌, ◌++◌, length, slice_set, slice_index_or, Option, Some, None, ap, ap₂, sym, ◌∙◌, arith}
use Rattle.std.proofs.lemmas.List.{get_or-set_same, get_or-set_other}
use Rattle.std.proofs.lemmas.Option.{none-some}
use Rattle.atomic_table.proofs.Lists.{set_here, set_else}
use mathlib.Core.Option as core
use lib.ListN.{get_elem?}
use Rattle.sock_words.specs.declared.plain.Plan.{Plan}
use Rattle.sock_io.specs.LinkHalves.{OutState}
use Rattle.sock_model.specs.declared.home.Home.{Home}
use Rattle.sock_model.specs.declared.home.Home.TheVariants.{Link}
use Rattle.seat_programs.specs.Cores.{lies_at, link_place}
use Rattle.machine_model.specs.declared.home_message.HomeMessage.{HomeMessage}
use Rattle.machine_model.specs.MachineLinks.{LinksData, Taken, holder_of, is_done, link_with, homes_of, hand_of}
use Rattle.machine_rules.proofs.HandsAndHomes.{HasNone, HasOnly, IsKept, lies_home, is_away, hand_none, hand_only, home_at, homes_set, kept_home, others_hand, has_only, has_none, homes_kept}
use Rattle.corr_core.proofs.NoteSums.{at_length}

-- ## The homes and the hands

pub record Changed (p : Plan) (i : ℕ) (l l' : LinksData) (letters letters' : List (Option HomeMessage)) (took later : Taken) (hand : List Home) (homes : List (core.Option Home)) : Type 0 where
  pub own : hand_of l' p.links later i ≡ hand
  pub others : (j : ℕ) → j ≢ i → hand_of l' p.links later j ≡ hand_of l p.links took j
  pub homes_are : homes_of l' p letters' later ≡ homes

-- what lies at a home
abbrev lying : core.Option (core.Option Home) → List Home
lying o = elim o as (λ o. List Home) [ core.none ↦ [] | core.some x ↦ elim x as (λ o. List Home) [ core.none ↦ [] | core.some y ↦ y ∷ [] ] ]

abbrev done_by : core.Option OutState → Bool
done_by o = elim o as (λ o. Bool) [ core.none ↦ false | core.some out ↦ out.finished ]

link_is : (k : ℕ) (ts us : List ℕ) (m n : ℕ) (d e : Bool) → ts ≡ us → m ≡ n → d ≡ e → Link k ts m d ≡ Link k us n e
link_is k ts us m n d e f g h = λ x. Link k (f x) (g x) (h x)

same_done : (l l' : LinksData) (j : ℕ) → l'.outs ≡ l.outs → is_done l' j ≡ is_done l j
same_done l l' j e = ap (λ (os : List OutState). done_by (get_elem? os j)) e

same_next : (l l' : LinksData) (j : ℕ) → l'.nexts ≡ l.nexts → slice_index_or l'.nexts j 0 ≡ slice_index_or l.nexts j 0
same_next l l' j e = ap (λ (ns : List ℕ). slice_index_or ns j 0) e

holder_set : (l l' : LinksData) (k j : ℕ) (o : Option ℕ) → l'.holders ≡ slice_set l.holders k o → j ≢ k → holder_of l' j ≡ holder_of l j
holder_set l l' k j o e differ = ap (λ (hs : List (Option ℕ)). slice_index_or hs j None) e ∙ get_or-set_other l.holders k j o None differ

holder_here : (l l' : LinksData) (k : ℕ) (o : Option ℕ) → l'.holders ≡ slice_set l.holders k o → k < length l.holders → holder_of l' k ≡ o
holder_here l l' k o e inside = ap (λ (hs : List (Option ℕ)). slice_index_or hs k None) e ∙ get_or-set_same l.holders k o None inside

differ_some : (i j : ℕ) → j ≢ i → Some i ≢ Some j
differ_some i j differ e = differ cc

module _ (p : Plan) (i k : ℕ) (letters : List (Option HomeMessage)) (sized : length letters ≡ p.requests) (l l' : LinksData) (took : Taken) (many : length l.holders ≡ p.links) (inside : k < p.links) where
  -- a link is taken from its home
  pub take_changes : holder_of l k ≡ None → HasNone l i → l'.holders ≡ slice_set l.holders k (Some i) → l'.nexts ≡ l.nexts → l'.outs ≡ l.outs →
      Changed p i l l' letters letters took took (lies_at (homes_of l p letters took) (link_place p k) ++ hand_of l p.links took i) (slice_set (homes_of l p letters took) (link_place p k) core.none)
  take_changes free nothing holders nexts outs = record {
    own = hand_only l' took p.links i k inside (has_only l l' took took k kept i mine (λ j differ. nothing j)) ∙ ap (λ (x : Home). x ∷ []) (alike k)
        ∙ sym (ap₂ (λ (xs ys : List Home). xs ++ ys) (ap lying (home_at p letters sized l took k inside ∙ ap core.some (lies_home l took k free))) (hand_none l took p.links i nothing));
    others = λ j differ. others_hand l l' took took k kept p.links j (λ e. none-some j (sym free ∙ e)) (λ e. differ_some i j differ (sym mine ∙ e));
    homes_are = sym (homes_set p letters sized l took l' took k core.none inside (is_away l' took k i mine) (λ j differ. kept_home l l' took took j (kept j differ)));
  }
    where
      alike : (j : ℕ) → link_with l' took j ≡ link_with l took j
      alike j = link_is j _ _ _ _ _ _ refl (same_next l l' j nexts) (same_done l l' j outs)

      kept : (j : ℕ) → j ≢ k → IsKept l l' took took j
      kept j differ = record { holder = holder_set l l' k j (Some i) holders differ; with_ = alike j }

      mine : holder_of l' k ≡ Some i
      mine = holder_here l l' k (Some i) holders (omega (arith, many, inside))

  -- a link goes home
  pub give_changes : HasOnly l i k → l'.holders ≡ slice_set l.holders k None → ((j : ℕ) → j ≢ k → slice_index_or l'.nexts j 0 ≡ slice_index_or l.nexts j 0) → l'.outs ≡ l.outs →
      Changed p i l l' letters letters took took [] (slice_set (homes_of l p letters took) (link_place p k) (core.some (link_with l' took k)))
  give_changes only holders nexts outs = record {
    own = hand_none l' took p.links i (has_none l l' took took k kept i (λ e. none-some i (sym free ∙ e)) only.1);
    others = λ j differ. others_hand l l' took took k kept p.links j (λ e. differ_some i j differ (sym only.0 ∙ e)) (λ e. none-some j (sym free ∙ e));
    homes_are = sym (homes_set p letters sized l took l' took k (core.some (link_with l' took k)) inside (lies_home l' took k free) (λ j differ. kept_home l l' took took j (kept j differ)));
  }
    where
      kept : (j : ℕ) → j ≢ k → IsKept l l' took took j
      kept j differ = record { holder = holder_set l l' k j None holders differ; with_ = link_is j _ _ _ _ _ _ refl (nexts j differ) (same_done l l' j outs) }

      free : holder_of l' k ≡ None
      free = holder_here l l' k None holders (omega (arith, many, inside))

  -- the link in hand is ended, or it took more
  pub out_changes : (later : Taken) (out out' : OutState) → HasOnly l i k → l'.holders ≡ l.holders → l'.nexts ≡ l.nexts → get_elem? l.outs k ≡ core.some out → l'.outs ≡ slice_set l.outs k out' → ((j : ℕ) → j ≢ k → later j ≡ took j) →
      Changed p i l l' letters letters took later (Link k (later k) (slice_index_or l.nexts k 0) out'.finished ∷ []) (homes_of l p letters took)
  out_changes later out out' only holders nexts at outs fed = record {
    own = hand_only l' later p.links i k inside (has_only l l' took later k kept i mine only.1) ∙ ap (λ (x : Home). x ∷ []) (link_is k _ _ _ _ _ _ refl (same_next l l' k nexts) done);
    others = λ j differ. others_hand l l' took later k kept p.links j (λ e. differ_some i j differ (sym only.0 ∙ e)) (λ e. differ_some i j differ (sym mine ∙ e));
    homes_are = sym (homes_kept l l' took later k kept p letters (is_away l took k i only.0 ∙ sym (is_away l' later k i mine)));
  }
    where
      held : (j : ℕ) → holder_of l' j ≡ holder_of l j
      held j = ap (λ (hs : List (Option ℕ)). slice_index_or hs j None) holders

      mine : holder_of l' k ≡ Some i
      mine = held k ∙ only.0

      done : is_done l' k ≡ out'.finished
      done = ap (λ (os : List OutState). done_by (get_elem? os k)) outs ∙ ap done_by (set_here l.outs k out' (at_length l.outs k out at))

      kept : (j : ℕ) → j ≢ k → IsKept l l' took later j
      kept j differ = record { holder = held j; with_ = link_is j _ _ _ _ _ _ (fed j differ) (same_next l l' j nexts) (ap (λ (os : List OutState). done_by (get_elem? os j)) outs ∙ ap done_by (set_else l.outs k j out' differ)) }

-- no link changes
pub none_changes : (p : Plan) (i : ℕ) (l l' : LinksData) (letters letters' : List (Option HomeMessage)) (took : Taken) (hs : List (core.Option Home)) → l' ≡ l → homes_of l p letters' took ≡ hs → Changed p i l l' letters letters' took took (hand_of l p.links took i) hs
none_changes p i l l' letters letters' took hs same homes = record {
  own = ap (λ (x : LinksData). hand_of x p.links took i) same;
  others = λ j differ. ap (λ (x : LinksData). hand_of x p.links took j) same;
  homes_are = ap (λ (x : LinksData). homes_of x p letters' took) same ∙ homes;
}
