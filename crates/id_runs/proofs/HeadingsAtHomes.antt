-- Whatever a seat does on the sockets, what holds of the headings of all messages goes on.
use Rattle.std.proofs.Common.{◌≡◌, ℕ, ⊎_elim, List, [], ◌∷◌, ◌++◌, set, refl, sym, subst}
use mathlib.Core.Option.{Option, none, some, some-injective, some-ne-none}
use lib.ListN.{get_elem?}
use Rattle.atomic_table.proofs.Lists.{at_set}
use Rattle.sock_words.specs.declared.plain.Plan.{Plan}
use Rattle.seat_programs.specs.sock_io.specs.declared.link.Put.{Put}
use Rattle.seat_programs.specs.sock_io.specs.declared.link.Put.TheVariants as puts
use Rattle.seat_programs.specs.sock_model.specs.declared.chain.Heading.{Heading}
use Rattle.seat_programs.specs.sock_model.specs.declared.home.Home.{Home}
use Rattle.seat_programs.specs.sock_model.specs.declared.home.Home.TheVariants.{Empty, Link, Message}
use Rattle.seat_programs.specs.TableSteps.{TableStep, OnLink, OnMessage, TakeLink, FinishLink, PutLink, PutMessage}
use Rattle.seat_programs.specs.Cores.{homes_after, hand_after, lies_at, first_of, others_of, finished, link_place}
use Rattle.seat_programs.specs.Ticks.{fed, with_places, onto_first}
use Rattle.id_runs.specs.Goes.{FitsHome, HandFits, HomesFit}

pub home_more : (F G : Heading → Type 0) → ((h : Heading) → F h → G h) → (x : Home) → FitsHome F x → FitsHome G x
home_more F G f (Message heading bytes) fit = f heading fit
home_more F G f Empty fit = tt
home_more F G f (Link k took next done) fit = tt

pub hand_more : (F G : Heading → Type 0) → ((h : Heading) → F h → G h) → (hand : List Home) → HandFits F hand → HandFits G hand
hand_more F G f [] fit = tt
hand_more F G f (x ∷ xs) fit = (home_more F G f x fit.0, hand_more F G f xs fit.1)

module _ (F : Heading → Type 0) where
  pub home_set : (hs : List (Option Home)) (i : ℕ) (x : Option Home) → ((y : Home) → x ≡ some y → FitsHome F y) → HomesFit F hs → HomesFit F (set hs i x)
  home_set hs i x new fit j y at = ⊎_elim (λ a. new y a.1) (λ a. fit j y a.1) (at_set hs i j x (some y) at)

  pub home_away : (hs : List (Option Home)) (i : ℕ) → HomesFit F hs → HomesFit F (set hs i none)
  home_away hs i fit = home_set hs i none (λ y e. absurd (some-ne-none y (sym e))) fit

  pub first_fits : (hand : List Home) → HandFits F hand → (y : Home) → first_of hand ≡ some y → FitsHome F y
  first_fits [] fit y e = absurd (some-ne-none y (sym e))
  first_fits (x ∷ xs) fit y e = subst (FitsHome F) (some-injective x y e) fit.0

  pub others_fit : (hand : List Home) → HandFits F hand → HandFits F (others_of hand)
  others_fit [] fit = tt
  others_fit (x ∷ xs) fit = fit.1

  pub lies_fit : (hs : List (Option Home)) (i : ℕ) (hand : List Home) → HomesFit F hs → HandFits F hand → HandFits F (lies_at hs i ++ hand)
  lies_fit hs i hand homes fit = by_home (get_elem? hs i) refl
    where
      by_home : (x : Option (Option Home)) → get_elem? hs i ≡ x
          → HandFits F ((elim x as (λ o. List Home) [ none ↦ [] | some y ↦ elim y as (λ o. List Home) [ none ↦ [] | some z ↦ z ∷ [] ] ]) ++ hand)
      by_home none e = fit
      by_home (some none) e = fit
      by_home (some (some z)) e = (homes i z e, fit)

  onto_fits : (change : Home → Home) → ((x : Home) → FitsHome F x → FitsHome F (change x)) → (hand : List Home) → HandFits F hand → HandFits F (onto_first change hand)
  onto_fits change same [] fit = tt
  onto_fits change same (x ∷ xs) fit = (same x fit.0, fit.1)

  fed_home : (bytes : List ℕ) (answer : Put) (x : Home) → FitsHome F x → FitsHome F (fed bytes answer x)
  fed_home bytes (puts.Took n) (Link k took next done) fit = tt
  fed_home bytes (puts.Took n) Empty fit = fit
  fed_home bytes (puts.Took n) (Message heading l) fit = fit
  fed_home bytes puts.Again x fit = fit
  fed_home bytes puts.Failed x fit = fit

  pub fed_fits : (bytes : List ℕ) (answer : Put) (hand : List Home) → HandFits F hand → HandFits F (onto_first (fed bytes answer) hand)
  fed_fits bytes answer hand fit = onto_fits (fed bytes answer) (fed_home bytes answer) hand fit

  places_home : (n : ℕ) (x : Home) → FitsHome F x → FitsHome F (with_places n x)
  places_home n (Link k took next done) fit = tt
  places_home n Empty fit = fit
  places_home n (Message heading l) fit = fit

  pub places_fit : (n : ℕ) (hand : List Home) → HandFits F hand → HandFits F (onto_first (with_places n) hand)
  places_fit n hand fit = onto_fits (with_places n) (places_home n) hand fit

  finished_fits : (x : Home) → FitsHome F x → FitsHome F (finished x)
  finished_fits (Link k took next done) fit = tt
  finished_fits Empty fit = fit
  finished_fits (Message heading l) fit = fit

  finishes : (hs : List (Option Home)) (p : Plan) (k : ℕ) (hand : List Home) → HandFits F hand → HandFits F (hand_after p (OnLink (FinishLink k)) hs hand)
  finishes hs p k [] fit = tt
  finishes hs p k (x ∷ xs) fit = (finished_fits x fit.0, fit.1)

  -- ## A step

  -- what is put has such a heading
  abbrev pub PutFits : TableStep → Type 0
  PutFits (OnMessage (PutMessage r heading bytes)) = F heading
  PutFits other = Unit {0}

  pub hand_fits : (p : Plan) (call : TableStep) (hs : List (Option Home)) (hand : List Home) → HomesFit F hs → HandFits F hand → HandFits F (hand_after p call hs hand)
  hand_fits p (OnLink (TakeLink k)) hs hand homes fit = lies_fit hs (link_place p k) hand homes fit
  hand_fits p (OnLink (PutLink k)) hs hand homes fit = others_fit hand fit
  hand_fits p (OnLink (FinishLink k)) hs hand homes fit = finishes hs p k hand fit
  hand_fits p _ hs hand homes fit = fit

  pub homes_fit : (p : Plan) (call : TableStep) → PutFits call → (hs : List (Option Home)) (hand : List Home) → HomesFit F hs → HandFits F hand → HomesFit F (homes_after p call hand hs)
  homes_fit p (OnLink (TakeLink k)) may hs hand homes fit = home_away hs (link_place p k) homes
  homes_fit p (OnLink (PutLink k)) may hs hand homes fit = home_set hs (link_place p k) (first_of hand) (first_fits hand fit) homes
  homes_fit p (OnMessage (PutMessage r heading bytes)) may hs hand homes fit = home_set hs r (some (Message heading bytes)) (λ y e. subst (FitsHome F) (some-injective (Message heading bytes) y e) may) homes
  homes_fit p _ may hs hand homes fit = homes
