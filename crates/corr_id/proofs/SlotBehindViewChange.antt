-- What each change of a view makes of the slot and of the notes.
use Rattle.std.proofs.Common.{◌≡◌, ◌≢◌, ℕ, Bool, true, false, cond, eqb, eq-eqb, ne_eqb, le-leb, ◌+◌, ◌<◌, ◌≤◌, ◌⊎◌, inl, inr, IsTrue, List, [], ◌∷◌, ◌++◌, append_assoc, sym, refl, ap, ◌∙◌, subst, arith}
use Rattle.std.specs.Prelude.{Option as Maybe}
use mathlib.Core.Option.{Option, none, some}
use Rattle.corr_core.specs.IdSlotWord.{Parts, unlocked_word}
use Rattle.corr_core.specs.IdSlotLaw.{LAST}
use Rattle.std.proofs.lemmas.Bool.{lt-leb}
use mathlib.Core.Logic.{dite}
use native.Mathlib.Decide.{ℕ_discrete}
use Rattle.corr_core.specs.declared.marks.Hand.{Hand}
use Rattle.corr_core.specs.declared.marks.Hand.TheVariants.{Empty, Out, Full}
use Rattle.corr_core.specs.declared.marks.Token.{Token}
use Rattle.corr_core.specs.declared.marks.Token.TheVariants.{Claimed, Locked, Leaving}
use Rattle.corr_core.specs.declared.marks.Note.{Note}
use Rattle.corr_core.specs.declared.marks.Note.TheVariants.{Tried, Ended, Attempt}
use Rattle.corr_core.specs.declared.marks.Noted.{Noted}
use Rattle.corr_core.specs.declared.marks.View.{View}
use Rattle.id_rule.specs.LawfulIdTable.{tokens_in, with_token, no_token, with_note}
use Rattle.id_rule.specs.IdPlays.{claimed_view, ended_view, popped_view, advanced_view, Longer, hand_of, with_hand, hand_by, IsHome, NotLeaving, Fitting}
use Rattle.corr_id.specs.SeatBehindIdCalls.{Became, one, tokens_left, advance_note}
use Rattle.id_rule.proofs.OtherIdsUntouched.{token_here, drop_here, aside_token, aside_drop}
use Rattle.sock_words.specs.PackedWords.{bit}

module _ {C : Type 0} (i : ℕ) where
  pub became_token : (v : View C) (t : Token C) → Became i v (with_token i t v) (t ∷ []) []
  became_token v t = record { tokens = token_here i t v; others = (aside_token i t v).tokens; notes = refl; kept = refl; share = refl }

  pub became_drop : (v : View C) → Became i v (no_token i v) [] []
  became_drop v = record { tokens = drop_here i v; others = (aside_drop i v).tokens; notes = refl; kept = refl; share = refl }

  pub became_note : (v : View C) (n : Note C) → Became i v (with_note i n v) (tokens_in i v) (one i n)
  became_note v n = record { tokens = refl; others = λ j ne. refl; notes = refl; kept = refl; share = refl }

  pub became_both : {u v w : View C} {ts ts' : List (Token C)} {xs ys : List (Noted C)} → Became i u v ts xs → Became i v w ts' ys → Became i u w ts' (ys ++ xs)
  became_both {u} {v} {w} {ts} {ts'} {xs} {ys} a b = record {
    tokens = b.tokens;
    others = λ j ne. b.others j ne ∙ a.others j ne;
    notes = b.notes ∙ (ap (λ l. ys ++ l) a.notes ∙ sym (append_assoc ys xs u.notes));
    kept = b.kept ∙ a.kept;
    share = b.share ∙ a.share;
  }

  -- the view that a step told
  pub became_as : {v w u : View C} {ts : List (Token C)} {xs : List (Noted C)} → u ≡ w → Became i v w ts xs → Became i v u ts xs
  became_as {v} {w} {u} {ts} {xs} e h = subst (λ (y : View C). Became i v y ts xs) (sym e) h

  -- a later token with what was noted before it
  pub noted_token : (v : View C) (t : Token C) (n : Note C) → Became i v (with_note i n (with_token i t v)) (t ∷ []) (one i n)
  noted_token v t n = record { tokens = token_here i t v; others = (aside_token i t v).tokens; notes = refl; kept = refl; share = refl }

  pub noted_drop : (v : View C) (n : Note C) → Became i v (with_note i n (no_token i v)) [] (one i n)
  noted_drop v n = record { tokens = drop_here i v; others = (aside_drop i v).tokens; notes = refl; kept = refl; share = refl }

  pub claimed_became : (v u : View C) (found : ℕ) → u ≡ claimed_view i found v → found ≡ 0 → Became i v u (Claimed 0 Empty ∷ []) []
  claimed_became v u found e z = became_as (e ∙ ap (λ b. cond b (with_token i (Claimed 0 Empty) v) (with_note i Tried v)) (eq-eqb found 0 z)) (became_token v (Claimed 0 Empty))

  pub tried_became : (v u : View C) (found : ℕ) → u ≡ claimed_view i found v → found ≢ 0 → Became i v u (tokens_in i v) (one i Tried)
  tried_became v u found e n = became_as (e ∙ ap (λ b. cond b (with_token i (Claimed 0 Empty) v) (with_note i Tried v)) (ne_eqb found 0 n)) (became_note v Tried)

  with_hands : (t : Token C) (h k : Hand C) → with_hand (with_hand t h) k ≡ with_hand t k
  with_hands (Claimed f x) h k = refl
  with_hands (Locked f rg at c o s x) h k = refl
  with_hands Leaving h k = refl

  -- K1 or K2, both parts
  pub moved_became : (v u w : View C) (t : Token C) (y : Maybe C) → u ≡ with_token i (with_hand t Out) v → w ≡ with_token i (with_hand (with_hand t Out) (hand_by y)) u → Became i v w (with_hand t (hand_by y) ∷ []) []
  moved_became v u w t y e f = subst (λ (k : Token C). Became i v w (k ∷ []) []) (with_hands t Out (hand_by y)) (became_both (became_as e (became_token v (with_hand t Out))) (became_as f (became_token u (with_hand (with_hand t Out) (hand_by y)))))

  -- the token while the turn of the slot is out
  pub out_token : (v u : View C) (t : Token C) → u ≡ with_token i (with_hand t Out) v → tokens_in i u ≡ with_hand t Out ∷ []
  out_token v u t e = ap (tokens_in i) e ∙ token_here i (with_hand t Out) v

  pub taken_share : (v u : View C) (t : Token C) → u ≡ with_token i t v → u.share ≡ v.share
  taken_share v u t e = ap (λ (y : View C). y.share) e

  pub hand_out : (t : Token C) → IsHome (hand_of t) → hand_of (with_hand t Out) ≡ Out
  hand_out (Claimed f x) h = refl
  hand_out (Locked f rg at c o s x) h = refl
  hand_out Leaving h = refl

  pub out_leaves : (t : Token C) → IsHome (hand_of t) → NotLeaving (with_hand t Out)
  out_leaves (Claimed f x) h = tt
  out_leaves (Locked f rg at c o s x) h = tt
  out_leaves Leaving h = absurd h

  pub out_fits : (t : Token C) (k : Hand C) → Fitting t k → Fitting (with_hand t Out) k
  out_fits (Claimed f x) k h = tt
  out_fits (Locked f rg at c o s x) k h = h
  out_fits Leaving k h = h

  pub ended_became : (v u : View C) (f at next : ℕ) → u ≡ ended_view i f at next v → next ≤ LAST → Became i v u (Leaving ∷ []) (one i (Ended f at))
  ended_became v u f at next e le = became_as (e ∙ ap (λ b. with_note i (Ended f at) (cond b (with_token i Leaving v) (no_token i v))) (le-leb next LAST le)) (noted_token v Leaving (Ended f at))

  pub retired_became : (v u : View C) (f at next : ℕ) → u ≡ ended_view i f at next v → LAST < next → Became i v u [] (one i (Ended f at))
  retired_became v u f at next e lt = became_as (e ∙ ap (λ b. with_note i (Ended f at) (cond b (with_token i Leaving v) (no_token i v))) (lt-leb next LAST lt)) (noted_drop v (Ended f at))

  pub relocked_became : (v u : View C) (w q : Parts) (c : C) → Longer w.first w.range w.attempt w.oldest w.second q → u ≡ with_token i (Locked w.first w.range w.attempt c q.oldest q.second (Full c)) v → Became i v u (Locked q.first q.range q.attempt c q.oldest q.second (Full c) ∷ []) []
  relocked_became v u w q c l e = became_as (e ∙ λ z. with_token i (Locked (l.first_is z) (l.range_is z) (l.attempt_is z) c q.oldest q.second (Full c)) v) (became_token v (Locked q.first q.range q.attempt c q.oldest q.second (Full c)))

  -- the views of an unlocking exchange that won
  popped_became : (v : View C) (w q : Parts) (more : ℕ) (c : C) → q ≡ unlocked_word w more → Became i v (popped_view i w.first w.range q.attempt c w.oldest w.second v) (tokens_left w q c) []
  popped_became v w q more c is = dite (ℕ_discrete w.oldest 0)
      (λ z. subst (λ (b : Bool). Became i v (cond b (no_token i v) (with_token i (Locked w.first w.range q.attempt c w.second 0 (Full c)) v)) (cond b [] (Locked q.first q.range q.attempt c q.oldest q.second (Full c) ∷ [])) []) (sym (eq-eqb w.oldest 0 z)) (became_drop v))
      (λ n. let t : Token C = Locked q.first q.range q.attempt c q.oldest q.second (Full c) in let path : with_token i (Locked w.first w.range q.attempt c w.second 0 (Full c)) v ≡ with_token i t v =
      λ z. with_token i (Locked (sym (ap (λ (y : Parts). y.first) is) z) (sym (ap (λ (y : Parts). y.range) is) z) q.attempt c (sym (ap (λ (y : Parts). y.oldest) is) z) (sym (ap (λ (y : Parts). y.second) is) z) (Full c)) v in
      subst (λ (b : Bool). Became i v (cond b (no_token i v) (with_token i (Locked w.first w.range q.attempt c w.second 0 (Full c)) v)) (cond b [] (t ∷ [])) []) (sym (ne_eqb w.oldest 0 n)) (became_as path (became_token v t)))

  pub unlocked_became : (v u : View C) (w q : Parts) (more : ℕ) (c : C) → q ≡ unlocked_word w more → u ≡ advanced_view i w.first w.attempt q.attempt (popped_view i w.first w.range q.attempt c w.oldest w.second v) → Became i v u (tokens_left w q c) (advance_note i w q)
  unlocked_became v u w q more c is e = let base : View C = popped_view i w.first w.range q.attempt c w.oldest w.second v in let k = popped_became v w q more c is in became_as e (advanced (eqb w.attempt q.attempt) base k)
    where
      advanced : (b : Bool) (base : View C) → Became i v base (tokens_left w q c) [] → Became i v (cond b base (with_note i (Attempt w.first q.attempt) base)) (tokens_left w q c) (cond b [] (one i (Attempt w.first q.attempt)))
      advanced true base k = k
      advanced false base k = record { tokens = k.tokens; others = k.others; notes = ap (λ l. record { slot = i; note = Attempt w.first q.attempt } ∷ l) k.notes; kept = k.kept; share = k.share }

-- the value of the slot that was taken last
abbrev pub top_value : {S : Type 0} → List (ℕ × S) → Option S
top_value [] = none
top_value (x ∷ xs) = some x.1

pub ticks : (b : Bool) (a r : ℕ) → (IsTrue b → a + 2 < r) → (bit b ≡ 0) ⊎ ((bit b ≡ 1) × (a + 3 ≤ r))
ticks true a r h = let k : a + 2 < r = h refl in inr (refl, omega arith)
ticks false a r h = inl refl
