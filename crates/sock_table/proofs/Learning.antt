-- What a seat learns of a life that it holds, and what it has from a seat that it takes in.
use Rattle.std.proofs.Common.{◌≡◌, ◌≢◌, ℕ, ◌+◌, ◌<◌, cond, eqb, ne_eqb, eq-eqb, List, [], ◌∷◌, ◌++◌, append-nil, refl, sym, ap, ◌∙◌, subst, arith}
use mathlib.Core.Logic.{dite}
use native.Mathlib.Decide.{ℕ_discrete}
use Rattle.sock_words.specs.declared.plain.Plan.{Plan}
use Rattle.sock_words.specs.PackedWords.{socket_id_version, socket_id_slot}
use Rattle.sock_model.specs.declared.marks.Mark.{Mark}
use Rattle.sock_model.specs.declared.marks.Mark.TheVariants.{Saw, Told, Met}
use Rattle.sock_model.specs.declared.marks.SlotMark.{SlotMark}
use Rattle.sock_model.specs.declared.view.View.{View}
use Rattle.sock_model.specs.MarkWeights.{is_ref, is_probe, is_claimed, is_any_coding, is_zero, is_met, is_told}
use Rattle.sock_model.specs.Marks.{about, at, without_pass}
use Rattle.sock_model.specs.ViewsOfSplitSeats.{carrier, joined}
use Rattle.sock_model.specs.SlotRows.{marks_of, met_link, told_code}
use Rattle.sock_model.specs.ChainRows.{without_hand, spent_hand}
use Rattle.sock_rule.specs.slot_steps.proofs.SlotWeightSums.{total-append}
use Rattle.sock_rule.specs.MarksComeAndGo.{Became}
use Rattle.sock_rule.specs.LinkFaultNotes.{fault_found, fault_left, end_note, noting_end}
use Rattle.sock_rule.proofs.Light.{Light}
use Rattle.sock_rule.proofs.LinkFaultNotes.{found_alike}
use Rattle.sock_rule.specs.LinksInHand.{hand_of}
use Rattle.sock_rule.specs.OnTable.{is_put, put_in}
use Rattle.sock_rule.proofs.MarksComeAndGo.{then_, becomes, adds_mark, met_marks}
use Rattle.sock_table.specs.ReferenceCalls.{IsBetween, SameTokens, FinishedLink}
use Rattle.sock_table.specs.ReferenceAnswers.{LinkOf, CodeOf}
use Rattle.sock_table.proofs.SeatViewEndingLife.{left_found}
use Rattle.sock_table.proofs.JoiningSocketSeats.{sum_of}
use Rattle.sock_table.proofs.LifeMaking.{marks_same, pass_alone, spent_alone}
use Rattle.sock_table.proofs.QuietBetweenCalls.{between}
use Rattle.sock_words.specs.Totals.{total}

module _ (p : Plan) (i id : ℕ) (v w : View) (at_id : i ≡ socket_id_slot id) where
  pub link_of : (k : ℕ) → w ≡ met_link i (socket_id_version id) k v → ((d : ℕ) → 0 < marks_of (is_met (socket_id_version id) d) i v → k ≡ d) → k < p.links → LinkOf p k id v w
  link_of k is same inside = subst (λ (j : ℕ). LinkOf p k id v w) at_id record {
    inside = inside;
    same = λ d there. same d (subst (λ (j : ℕ). 0 < marks_of (is_met (socket_id_version id) d) j v) (sym at_id) there);
    became = subst (λ (j : ℕ). Became j v w (Met (socket_id_version id) k ∷ []) []) at_id (becomes i is (met_marks i (socket_id_version id) k v));
  }

  pub link_between : (k : ℕ) → LinkOf p k id v w → IsBetween p v → IsBetween p w
  link_between k l b = between p (socket_id_slot id) v w _ _ b l.became record { claimed = refl; probe = refl; coding = refl; zeros = λ x. refl }

  told_marks : (c : ℕ) → Became i v (told_code i (socket_id_version id) c v) (Saw (socket_id_version id + 1) ∷ Told (socket_id_version id) c ∷ []) []
  told_marks c = then_ i (adds_mark i (Saw (socket_id_version id + 1)) v) (adds_mark i (Told (socket_id_version id) c) record v { marks = Rattle.sock_model.specs.Marks.at i (Saw (socket_id_version id + 1)) ∷ v.marks })

  module _ (c : ℕ) (is : w ≡ cond (eqb c 0) v (told_code i (socket_id_version id) c v)) where
    none_told : c ≡ 0 → w ≡ v
    none_told e = is ∙ ap (λ b. cond b v (told_code i (socket_id_version id) c v)) (eq-eqb c 0 e)

    is_told_now : c ≢ 0 → Became (socket_id_slot id) v w (Saw (socket_id_version id + 1) ∷ Told (socket_id_version id) c ∷ []) []
    is_told_now ne = subst (λ (j : ℕ). Became j v w (Saw (socket_id_version id + 1) ∷ Told (socket_id_version id) c ∷ []) []) at_id
        (becomes i (is ∙ ap (λ b. cond b v (told_code i (socket_id_version id) c v)) (ne_eqb c 0 ne)) (told_marks c))

    pub code_of : ((d : ℕ) → 0 < marks_of (is_told (socket_id_version id) d) i v → c ≡ d) → CodeOf c id v w
    code_of same = record { same = λ d there. same d (subst (λ (j : ℕ). 0 < marks_of (is_told (socket_id_version id) d) j v) (sym at_id) there); none_yet = none_told; told = is_told_now }

    pub code_between : IsBetween p v → IsBetween p w
    code_between b = dite (ℕ_discrete c 0) (λ e. subst (IsBetween p) (sym (none_told e)) b)
        (λ ne. between p (socket_id_slot id) v w _ _ b (is_told_now ne) record { claimed = refl; probe = refl; coding = refl; zeros = λ x. refl })

-- two seats between calls are one between calls
pub both_between : (p : Plan) (v w y : View) → y ≡ joined v w → IsBetween p v → IsBetween p w → IsBetween p y
both_between p v w y is a b = subst (IsBetween p) (sym is) record {
  unclaimed = λ i il. omega (arith, sum_of p v w is_claimed i, a.unclaimed i il, b.unclaimed i il);
  unprobed = λ i il. omega (arith, sum_of p v w is_probe i, a.unprobed i il, b.unprobed i il);
  uncoding = λ i il. omega (arith, sum_of p v w is_any_coding i, a.uncoding i il, b.uncoding i il);
  no_zero = λ i x il. omega (arith, sum_of p v w (is_zero x) i, a.no_zero i x il, b.no_zero i x il);
  no_rights = a.no_rights;
  empty = a.empty;
  no_passes = ap (λ (l : List ℕ). l ++ w.passes) a.no_passes ∙ b.no_passes;
}

-- a pass was taken in, its link taken out of its home and put there again
module _ (p : Plan) (u a x t c : View) (k next n m : ℕ) (took : List ℕ) (is : x ≡ carrier p (k ∷ [])) (took_in : a ≡ joined u x) (spent : t ≡ fault_found n 0 k (spent_hand a (hand_of k took next))) (kept : m ≡ n) (went : c ≡ noting_end p 0 k (fault_left m k (without_hand t k))) (b : IsBetween p u) where
  no_hand : a.hands ≡ []
  no_hand = ap (λ (y : View). y.hands) took_in ∙ b.empty

  finished : c ≡ noting_end p 0 k (record a { passes = without_pass k a.passes })
  finished = went ∙ ((λ i. noting_end p 0 k (fault_left (kept i) k (without_hand (spent i) k))) ∙ ap (noting_end p 0 k) (left_found n (record a { passes = without_pass k a.passes }) k took next no_hand))

  one_more : c.marks ≡ at 0 (end_note p k) ∷ u.marks
  one_more = ap (λ (y : View). y.marks) finished ∙ ap (λ (es : List SlotMark). at 0 (end_note p k) ∷ es) (marks_same p u a x k is took_in)

  -- no law weighs that note
  same_marks : (f : Mark → ℕ) → Light f → (i : ℕ) → marks_of f i c ≡ marks_of f i u
  same_marks f light i = ap (λ (es : List SlotMark). total f (about i es)) one_more ∙ (found_alike 1 0 (p.links + k) u).marks f light i

  pub finished_between : IsBetween p c
  finished_between = record {
    unclaimed = λ i il. same_marks is_claimed (λ h l. refl) i ∙ b.unclaimed i il;
    unprobed = λ i il. same_marks is_probe (λ h l. refl) i ∙ b.unprobed i il;
    uncoding = λ i il. same_marks is_any_coding (λ h l. refl) i ∙ b.uncoding i il;
    no_zero = λ i z il. same_marks (is_zero z) (λ h l. refl) i ∙ b.no_zero i z il;
    no_rights = ap (λ (y : View). y.rights) finished ∙ (ap (λ (y : View). y.rights) took_in ∙ b.no_rights);
    empty = ap (λ (y : View). y.hands) finished ∙ no_hand;
    no_passes = ap (λ (y : View). y.passes) finished ∙ (ap (without_pass k) (pass_alone p u a x k is took_in b.no_passes) ∙ spent_alone k);
  }

  pub finished_tokens : SameTokens p u c
  finished_tokens = record {
    refs = λ i il. same_marks is_ref (λ h l. refl) i;
    claims = ap (λ (y : View). y.claims) finished ∙ ap (λ (y : View). y.claims) took_in;
    loose = ap (λ (y : View). y.loose) finished ∙ ap (λ (y : View). y.loose) took_in;
    rights = ap (λ (y : View). y.rights) finished ∙ ap (λ (y : View). y.rights) took_in;
    hands = ap (λ (y : View). y.hands) finished ∙ ap (λ (y : View). y.hands) took_in;
    lists = ap (λ (y : View). y.lists) finished ∙ (ap (λ (y : View). y.lists) took_in ∙ (ap (λ (y : View). u.lists ++ y.lists) is ∙ append-nil u.lists));
    share = (let e = ap (λ (y : View). y.share) finished in let f = ap (λ (y : View). y.share) took_in in let s = ap (λ (y : View). y.share) is in omega arith);
  }

  pub finished_notes : FinishedLink p k u c
  finished_notes = record {
    marks = one_more;
    found = ap (λ (y : View). y.found) finished ∙ (ap (λ (y : View). y.found) took_in ∙ (ap (λ (y : View). u.found ++ y.found) is ∙ append-nil u.found));
    finds = ap (λ (y : View). y.finds) finished ∙ (ap (λ (y : View). y.finds) took_in ∙ (ap (λ (y : View). u.finds ++ y.finds) is ∙ append-nil u.finds));
    histories = ap (λ (y : View). y.histories) finished ∙ (ap (λ (y : View). y.histories) took_in ∙ (ap (λ (y : View). u.histories ++ y.histories) is ∙ append-nil u.histories));
    drops = ap (λ (y : View). y.drops) finished ∙ (ap (λ (y : View). y.drops) took_in ∙ (ap (λ (y : View). u.drops ++ y.drops) is ∙ append-nil u.drops));
    stores = λ z n. (let e = ap (λ (y : View). put_in z n y) finished ∙ (ap (λ (y : View). put_in z n y) took_in ∙ ap (λ (y : View). total (total (is_put z n)) (u.stores ++ y.stores)) is) in
        let s = total-append (total (is_put z n)) u.stores ([] ∷ []) in omega arith);
  }
