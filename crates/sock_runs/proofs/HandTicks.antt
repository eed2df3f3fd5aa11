-- A link is taken out of its home, ended in hand, and put back: the rule is kept, and what is in hand is what the view has there.
use Rattle.std.proofs.Common.{◌≡◌, ℕ, ◌+◌, ◌<◌, not, cond, eqb, eq-eqb, lt-ltb, le-ltb, Bool, true, false, List, [], ◌∷◌, ◌++◌, length, map, get_or, set, refl, sym, ap, ◌∙◌, subst, ⊎_elim, arith}
use Rattle.std.specs.List.{filter}
use mathlib.Core.Logic.{dite}
use mathlib.Core.Option.{Option, some, none}
use native.Mathlib.Decide.{dec_le}
use lib.ListN.{get_elem?}
use Rattle.atomic_table.specs.Table.{State}
use Rattle.atomic_table.proofs.Lists.{set_again}
use Rattle.sock_words.specs.declared.plain.Plan.{Plan}
use Rattle.sock_model.specs.declared.home.Home.{Home}
use Rattle.sock_model.specs.declared.home.Home.TheVariants.{Link}
use Rattle.sock_model.specs.declared.view.View.{View}
use Rattle.sock_model.specs.declared.view.Hand.{Hand}
use Rattle.sock_model.specs.MarkWeights.{only}
use Rattle.sock_model.specs.ChainLawReads.{took_of, as_link, shown}
use Rattle.sock_model.specs.ChainRows.{with_hand, without_hand, spent_hand}
use Rattle.sock_model.specs.LawfulSockets.{Lawful}
use Rattle.sock_steps.proofs.HandSteps.{take_last_law, spend_law, put_hand_law}
use Rattle.seat_programs.specs.TableSteps.{TableStep, OnLink, TakeLink, FinishLink, PutLink}
use Rattle.seat_programs.specs.Cores.{homes_after, hand_after, lies_at, first_of, others_of, finished}
use Rattle.seat_programs.specs.StepTables.{row, hand_at}
use Rattle.seat_programs.specs.StepsOfLinks.{as_hand, taken}
use Rattle.seat_programs.specs.StepTables.{May}
use Rattle.seat_programs.specs.StepsOfLinks.{HasInHand}
use Rattle.program_steps.specs.SoundSeats.{AreInHand}
use Rattle.sock_words.specs.Totals.{total}

-- the rule holds behind a move of seat i, which has this view and these links in hand
abbrev pub KeepsHome : Plan → State Home View → ℕ → View → List Home → TableStep → Type 0
KeepsHome p s i v hand call = Lawful (λ home. home) p record { words = s.words; homes = homes_after p call hand s.homes; views = set s.views i (row p call 0 (hand_at p s.words s.homes call) v) }

-- the one link in hand, as the home and as the view has it
pub record TheOne (xs : List Home) (hs : List Hand) (k : ℕ) : Type 0 where
  pub first : Home
  pub hand : Hand
  pub done : Bool
  pub hand_is : xs ≡ first ∷ []
  pub hands_is : hs ≡ hand ∷ []
  pub link_is : hand.link ≡ k
  pub first_is : first ≡ Link hand.link hand.took hand.next done

pub the_one : (xs : List Home) (hs : List Hand) (k : ℕ) → AreInHand xs hs → map (λ (h : Hand). h.link) hs ≡ k ∷ [] → TheOne xs hs k
the_one [] [] k are e = absurd (omega (arith, ap length e))
the_one [] (h ∷ hs) k are e = absurd are
the_one (x ∷ xs) [] k are e = absurd are
the_one (x ∷ []) (h ∷ []) k are e = record { first = x; hand = h; done = are.0.0; hand_is = refl; hands_is = refl; link_is = ap (λ l. get_or l 0 0) e; first_is = are.0.1 }
the_one (x ∷ y ∷ xs) (h ∷ []) k are e = absurd are.1
the_one (x ∷ xs) (h ∷ g ∷ hs) k are e = absurd (omega (arith, ap length e))

-- the link that a seat may take is at home
pub record AtHome (p : Plan) (homes : List (Option Home)) (k : ℕ) : Type 0 where
  pub took : List ℕ
  pub next : ℕ
  pub done : Bool
  pub is : get_elem? homes (p.requests + k) ≡ some (some (Link k took next done))

module _ (p : Plan) (s : State Home View) (o : Lawful (λ home. home) p s) (i : ℕ) (v : View) (at : get_elem? s.views i ≡ some v) where
  abbrev Gone : ℕ → View → Type 0
  Gone k w = Lawful (λ home. home) p record { words = s.words; homes = set s.homes (p.requests + k) none; views = set s.views i w }

  -- the link that may be taken is at home, and the rule holds behind the move
  pub taking : (k : ℕ) → May p v (OnLink (TakeLink k)) → (h : AtHome p s.homes k) × Gone k (taken record { link = k; took = h.took; next = h.next } v)
  taking k may = dite (dec_le 1 (total (only k) v.passes))
      (λ pass. let a = spend_law (λ home. home) p s o i v at k (omega arith) in let is : get_elem? s.homes (p.requests + k) ≡ some (some (Link k [] 0 false)) = a.1 ∙ ap (λ y. some (some y)) a.2 in (
        record { took = []; next = 0; done = false; is = is },
        subst (λ b. Gone k (cond b (spent_hand v record { link = k; took = []; next = 0 }) (with_hand v record { link = k; took = []; next = 0 }))) (sym (lt-ltb 0 (total (only k) v.passes) (omega arith))) (a.3 none refl),
      ))
      (λ spent. ⊎_elim (λ pass. absurd (omega arith))
      (λ e. let a = take_last_law (λ home. home) p s o i v at e.0 e.1 k e.2 e.3 e.4 (ap (total (λ (h : Hand). only k h.link)) may.1) in
      let is : get_elem? s.homes (p.requests + k) ≡ some (some (Link k a.1 a.2 a.3)) = a.4 ∙ ap (λ y. some (some y)) a.5 in (
        record { took = a.1; next = a.2; done = a.3; is = is },
        subst (λ b. Gone k (cond b (spent_hand v record { link = k; took = a.1; next = a.2 }) (with_hand v record { link = k; took = a.1; next = a.2 }))) (sym (le-ltb 0 (total (only k) v.passes) (omega arith))) (a.6 none refl),
      ))
      may.2)

  -- it is what the step finds
  pub found_hand : (k : ℕ) (may : May p v (OnLink (TakeLink k))) → hand_at p s.words s.homes (OnLink (TakeLink k)) ≡ record { link = k; took = (taking k may).0.took; next = (taking k may).0.next }
  found_hand k may = ap (λ x. as_hand k (took_of (as_link (shown (λ (home : Home). home) x)))) (taking k may).0.is

  pub takes : (hand : List Home) (k : ℕ) → May p v (OnLink (TakeLink k)) → KeepsHome p s i v hand (OnLink (TakeLink k))
  takes hand k may = subst (λ h. Gone k (taken h v)) (sym (found_hand k may)) (taking k may).1

  pub finishes : (hand : List Home) (k : ℕ) → KeepsHome p s i v hand (OnLink (FinishLink k))
  finishes hand k = subst (λ vs. Lawful (λ home. home) p record { words = s.words; homes = s.homes; views = vs }) (sym (set_again s.views i v at)) o

  pub puts : (hand : List Home) (k : ℕ) → p.requests + k < length s.homes → AreInHand hand v.hands → HasInHand v k → KeepsHome p s i v hand (OnLink (PutLink k))
  puts hand k long are has = let w = the_one hand v.hands k are has in let at_first : get_elem? v.hands 0 ≡ some w.hand = ap (λ l. get_elem? l 0) w.hands_is in
      let put = put_hand_law (λ home. home) p s o i v at 0 w.hand at_first w.first w.done w.first_is (omega (arith, w.link_is)) in
      let P : Option Home → ℕ → Type 0 = λ x n. Lawful (λ home. home) p record { words = s.words; homes = set s.homes (p.requests + n) x; views = set s.views i (without_hand v n) } in
      subst (λ x. P x k) (sym (ap first_of w.hand_is)) (subst (λ n. P (some w.first) n) w.link_is put)

-- ## What is in hand

pub in_hand_nil : (hand : List Home) → AreInHand hand [] → hand ≡ []
in_hand_nil [] are = refl
in_hand_nil (x ∷ xs) are = absurd are

pub take_in_hand : (p : Plan) (homes : List (Option Home)) (k : ℕ) (h : AtHome p homes k) (hand : List Home) (hands : List Hand) → AreInHand hand hands → AreInHand (hand_after p (OnLink (TakeLink k)) homes hand) (record { link = k; took = h.took; next = h.next } ∷ hands)
take_in_hand p homes k h hand hands are = subst (λ xs. AreInHand (xs ++ hand) (record { link = k; took = h.took; next = h.next } ∷ hands)) (sym lies) ((h.done, refl), are)
  where
    lies : lies_at homes (p.requests + k) ≡ Link k h.took h.next h.done ∷ []
    lies = ap (λ o. elim o as (λ o. List Home) [ none ↦ [] | some x ↦ elim x as (λ o. List Home) [ none ↦ [] | some y ↦ y ∷ [] ] ]) h.is

pub finish_in_hand : (p : Plan) (homes : List (Option Home)) (k : ℕ) (hand : List Home) (hands : List Hand) → AreInHand hand hands → AreInHand (hand_after p (OnLink (FinishLink k)) homes hand) hands
finish_in_hand p homes k [] hands are = are
finish_in_hand p homes k (x ∷ xs) [] are = are
finish_in_hand p homes k (x ∷ xs) (h ∷ hs) are = ((true, ap finished are.0.1), are.1)

pub put_in_hand : (v : View) (k : ℕ) (hand : List Home) → AreInHand hand v.hands → HasInHand v k → AreInHand (others_of hand) (without_hand v k).hands
put_in_hand v k hand are has = let w = the_one hand v.hands k are has in
    let none_ : filter (λ (h : Hand). not (eqb h.link k)) (w.hand ∷ []) ≡ [] = ap (λ b. cond (not b) (w.hand ∷ []) []) (eq-eqb w.hand.link k w.link_is) in
    subst (λ xs. AreInHand (others_of xs) (filter (λ (h : Hand). not (eqb h.link k)) v.hands)) (sym w.hand_is)
    (subst (λ hs. AreInHand [] (filter (λ (h : Hand). not (eqb h.link k)) hs)) (sym w.hands_is) (subst (λ hs. AreInHand [] hs) (sym none_) tt))
