-- The end of a life, step by step, as what becomes of the view of the seat that ends it.
use Rattle.std.proofs.Common.{◌≡◌, ◌≢◌, ℕ, zero, suc, ◌+◌, ◌-◌, ◌<◌, ◌≤◌, true, false, cond, eqb, List, [], ◌∷◌, le-leb, refl, sym, ap, ◌∙◌, subst, arith}
use Rattle.std.proofs.lemmas.Bool.{lt-leb}
use Rattle.atomic_table.specs.Table.{Me, rest}
use Rattle.sock_io.specs.LinkHalves.{OutState}
use Rattle.sock_words.specs.declared.plain.Plan.{Plan}
use Rattle.sock_model.specs.declared.marks.Mark.{Mark}
use Rattle.sock_model.specs.declared.marks.Mark.TheVariants.{Recycling, Zero, Freer, Met}
use Rattle.sock_model.specs.declared.marks.SlotMark.{SlotMark}
use Rattle.sock_model.specs.declared.view.View.{View}
use Rattle.sock_model.specs.MarkWeights.{is_busy, is_recycling, is_zero, is_recycled, is_met}
use Rattle.sock_model.specs.Marks.{about, at}
use Rattle.sock_model.specs.SlotRows.{marks_of, recycled, freed, met_link}
use Rattle.sock_rule.specs.slot_steps.proofs.RuleNumbers.{only-same, pair-same}
use Rattle.sock_rule.specs.slot_steps.proofs.SlotWeightSums.{total_mono}
use Rattle.sock_rule.specs.MarksComeAndGo.{Became}
use Rattle.sock_model.specs.ChainRows.{with_hand, without_hand}
use Rattle.sock_rule.specs.LinkFaultNotes.{fault, faults_link, faults_of, fault_found, without_fault, fault_left, end_note, noting_end, CameOut}
use Rattle.sock_rule.proofs.LinkFaultNotes.{found_alike}
use Rattle.sock_rule.specs.LinksInHand.{hand_of, Recycles}
use Rattle.sock_rule.proofs.MarksComeAndGo.{then_, back_again, counts_as, becomes, adds_mark, lost_marks, won_marks, met_marks, freed_marks}
use Rattle.sock_table.specs.ReferenceCalls.{retired, EndedBy}
use Rattle.sock_words.specs.PackedWords.{vref_version}
use Rattle.sock_words.specs.Totals.{total}

-- a link came into an empty hand, and went home again: so did the note of its faults
pub left_found : (n : ℕ) (v : View) (k : ℕ) (took : List ℕ) (next : ℕ) → v.hands ≡ [] → fault_left n k (without_hand (fault_found n 0 k (with_hand v (hand_of k took next))) k) ≡ v
left_found zero v k took next empty = back_again v (hand_of k took next) empty
left_found (suc n) v k took next empty =
    let gone : without_fault k (at 0 (fault k) ∷ v.marks) ≡ v.marks = ap (λ x. cond (eqb x 0) (at 0 (fault k) ∷ without_fault k v.marks) v.marks) (only-same k) in
    ap (λ (ms : List SlotMark). record (without_hand (with_hand v (hand_of k took next)) k) { marks = ms }) gone ∙ back_again v (hand_of k took next) empty

-- a half has faults where its seat noted one, once it is in hand
noted_taken : (n i k : ℕ) (v w : View) → w.marks ≡ v.marks → (0 < faults_of k v → 0 < n) → 0 < faults_of k (fault_found n i k w) → 0 < n
noted_taken zero i k v w same known some_ = known (subst (λ (ms : List SlotMark). 0 < total (faults_link k) ms) same some_)
noted_taken (suc n) i k v w same known some_ = omega arith

-- a link that came out of its home, and was ended since, goes back as it came
pub goes_back : {p : Plan} {ways : List (List ℕ)} {k : ℕ} {v u : View} {o e : OutState} (i : ℕ) (w : View) → CameOut p ways k v o → w.marks ≡ v.marks → u ≡ fault_found o.faults i k w → e.link ≡ o.link → e.way ≡ o.way → e.faults ≡ o.faults → CameOut p ways k u e
goes_back {k = k} {v = v} {o = o} i w out same is link way faults = record {
  link_is = link ∙ out.link_is;
  link_in = out.link_in;
  way_is = way ∙ out.way_is;
  known = λ some_. subst (λ (n : ℕ). 0 < n) (sym faults) (noted_taken o.faults i k v w same out.known (subst (λ (x : View). 0 < faults_of k x) is some_));
}

pub came_home : {S : Type 0} (p : Plan) (i : ℕ) (b t c : Me S View) (k : ℕ) (took : List ℕ) (next n m : ℕ) (x : ℕ × S) → t ≡ (fault_found n 0 k (with_hand b.0 (hand_of k took next)), x ∷ b.1) → m ≡ n → c ≡ (noting_end p i k (fault_left m k (without_hand t.0 k)), rest t.1) → b.0.hands ≡ [] → c ≡ (noting_end p i k b.0, b.1)
came_home {S} p i b t c k took next n m x came same went empty = went ∙ ((λ z. (noting_end p i k (fault_left (same z) k (without_hand (came z).0 k)), rest (came z).1)) ∙ (λ z. (noting_end p i k (left_found n b.0 k took next empty z), b.1)))

pub in_hand : {S : Type 0} (b t : Me S View) (k : ℕ) (took took' : List ℕ) (next next' n : ℕ) (x : ℕ × S) → t ≡ (fault_found n 0 k (with_hand b.0 (hand_of k took next)), x ∷ b.1) → b.0.hands ≡ [] → took' ≡ took → next' ≡ next → t.0.hands ≡ hand_of k took' next' ∷ []
in_hand {S} b t k took took' next next' n x came empty same also = ap (λ (m : Me S View). m.0.hands) came ∙ (ap (λ (v : View). v.hands) (found_alike n 0 k (with_hand b.0 (hand_of k took next))).others ∙ (λ i. hand_of k (sym same i) (sym also i) ∷ empty i))

module _ (p : Plan) (i from found : ℕ) (u a : View) (is : a ≡ recycled i from found u) (zero_ : 0 < marks_of (is_zero (vref_version from)) i u) where
  -- lost
  pub lost : found ≢ from → (notes : List Mark) × Became i u a notes (Zero (vref_version from) ∷ []) × EndedBy p false (vref_version from) notes
  lost ne = ([], becomes i is (lost_marks i from found u ne zero_), refl)

  module _ (hit : found ≡ from) where
    won : Became i u a (Freer (vref_version from - 1) ∷ Recycling (vref_version from + 1) ∷ []) (Zero (vref_version from) ∷ [])
    won = becomes i is (won_marks i from found u hit zero_)

    pub recycled_in : 0 < marks_of (is_recycled (vref_version from + 1)) i a
    recycled_in = let w = won.here (is_recycled (vref_version from + 1)) in let s = only-same (vref_version from + 1) in omega arith

    module _ (k : ℕ) (b : View) (met : b ≡ met_link i (vref_version from + 1 - 2) k a) where
      met_now : Became i u b (Freer (vref_version from - 1) ∷ Recycling (vref_version from + 1) ∷ Met (vref_version from + 1 - 2) k ∷ []) (Zero (vref_version from) ∷ [])
      met_now = then_ i won (becomes i met (met_marks i (vref_version from + 1 - 2) k a))

      pub recycles : Recycles i k b
      recycles = record {
        version = vref_version from + 1;
        recycled = (let w = met_now.here (is_recycled (vref_version from + 1)) in let s = only-same (vref_version from + 1) in omega arith);
        met = (let w = met_now.here (is_met (vref_version from + 1 - 2) k) in let s = pair-same (vref_version from + 1 - 2) k in omega arith);
      }

      -- the link is home again, finished
      module _ (c : View) (home : c ≡ noting_end p i k b) where
        over_now : Became i u c (Freer (vref_version from - 1) ∷ Recycling (vref_version from + 1) ∷ Met (vref_version from + 1 - 2) k ∷ end_note p k ∷ []) (Zero (vref_version from) ∷ [])
        over_now = then_ i met_now (becomes i home (adds_mark i (end_note p k) b))

        pub recycled_there : 0 < marks_of (is_recycled (vref_version from + 1)) i c
        recycled_there = let w = over_now.here (is_recycled (vref_version from + 1)) in let s = only-same (vref_version from + 1) in omega arith

        -- the slot's versions are used up
        pub retires : 4294967292 < vref_version from + 1 → (notes : List Mark) × Became i u c notes (Zero (vref_version from) ∷ []) × EndedBy p true (vref_version from) notes
        retires late = let r : retired (vref_version from + 1) ≡ Recycling (vref_version from + 1) ∷ [] = ap (λ z. cond z [] (Recycling (vref_version from + 1) ∷ [])) (lt-leb (vref_version from + 1) 4294967292 late) in (
          Freer (vref_version from - 1) ∷ Met (vref_version from + 1 - 2) k ∷ end_note p k ∷ Recycling (vref_version from + 1) ∷ [],
          counts_as i (λ f. omega arith) over_now,
          (k, ap (λ (l : List Mark). Freer (vref_version from - 1) ∷ Met (vref_version from + 1 - 2) k ∷ end_note p k ∷ l) (sym r)),
        )

        -- it may be given again
        pub frees : (d : View) → d ≡ freed i c → vref_version from + 1 ≤ 4294967292 → marks_of is_busy i u ≡ 0 → (notes : List Mark) × Became i u d notes (Zero (vref_version from) ∷ []) × EndedBy p true (vref_version from) notes
        frees d free early alone = let r : retired (vref_version from + 1) ≡ [] = ap (λ z. cond z [] (Recycling (vref_version from + 1) ∷ [])) (le-leb (vref_version from + 1) 4294967292 early) in
            let one : marks_of is_recycling i c ≡ 1 = (let w = over_now.here is_recycling in let le = total_mono is_recycling is_busy recycling_busy (about i u.marks) in omega arith) in (
              Freer (vref_version from - 1) ∷ Met (vref_version from + 1 - 2) k ∷ end_note p k ∷ [],
              counts_as i (λ f. omega arith) (then_ i over_now (becomes i free (freed_marks i (vref_version from + 1) c one recycled_there))),
              (k, ap (λ (l : List Mark). Freer (vref_version from - 1) ∷ Met (vref_version from + 1 - 2) k ∷ end_note p k ∷ l) (sym r)),
            )
          where
            recycling_busy : (m : Mark) → is_recycling m ≤ is_busy m
            recycling_busy (Recycling w) = omega arith
            recycling_busy _ = omega arith
