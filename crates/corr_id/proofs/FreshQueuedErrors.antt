-- What a step of a seat leaves of the errors that are queued behind those that a lock's holder noted.
use Rattle.std.proofs.Common.{◌≡◌, ◌≢◌, ℕ, ◌*◌, ◌<◌, ◌≤◌, cond, eqb, eq-eqb, ne_eqb, List, [], ◌∷◌, get_or, set, get_or-set_same, get_or-set_other, sym, ap, subst, arith}
use Rattle.std.specs.Prelude.{Option as Maybe}
use Rattle.std.specs.List.{flat_map}
use mathlib.Core.Logic.{dite}
use mathlib.Core.Option.{Option, some}
use native.Mathlib.Decide.{ℕ_discrete}
use lib.ListN.{get_elem?}
use Rattle.atomic_table.specs.Table.{State}
use Rattle.corr_core.specs.IdSlotWord.{Parts, parts}
use Rattle.corr_core.specs.IdSlotLaw.{Each}
use Rattle.corr_core.specs.declared.marks.Plan.{Plan}
use Rattle.corr_core.specs.declared.marks.Hand.{Hand}
use Rattle.corr_core.specs.declared.marks.Token.{Token}
use Rattle.corr_core.specs.declared.marks.Token.TheVariants.{Claimed, Locked, Leaving}
use Rattle.corr_core.specs.declared.marks.View.{View}
use Rattle.corr_core.proofs.Gather.{gather_same}
use Rattle.corr_core.proofs.IdStepsKeepSlot.{queued_word}
use Rattle.corr_core.specs.IdTableLayout.{tag_index, id_index}
use Rattle.id_rule.specs.LawfulIdTable.{tokens_of, tokens_in, local, Lawful}
use Rattle.id_rule.specs.IdPlays.{with_hand}
use Rattle.corr_id.specs.Ruled.{IsFresh, FreshBehind}

module _ {C : Type 0} where
  -- of all slots
  abbrev pub AllFresh : Plan → State (Maybe C) (View C) → Type 0
  AllFresh p s = (i : ℕ) → i < p.slots → Each (FreshBehind (local s i).word) (local s i).tokens

  -- a token notes all errors of the word
  pub noted_all : (w : Parts) (f rg at : ℕ) (c : C) (h : Hand C) → FreshBehind w (Locked f rg at c w.oldest w.second h)
  noted_all w f rg at c h = ((λ z n. absurd (n z)), (λ z n. absurd (n z)))

  -- no errors are queued
  pub none_queued : (w : Parts) (t : Token C) → w.oldest ≡ 0 → w.second ≡ 0 → FreshBehind w t
  none_queued w (Claimed f h) z y = tt
  none_queued w (Locked f rg at c o s h) z y = ((λ a n. absurd (n z)), (λ a n. absurd (n y)))
  none_queued w Leaving z y = tt

  pub other_hand : (w : Parts) (t : Token C) (h : Hand C) → FreshBehind w t → FreshBehind w (with_hand t h)
  other_hand w (Claimed f x) h k = tt
  other_hand w (Locked f rg at c o s x) h k = k
  other_hand w Leaving h k = k

  -- one more error that is fresh
  pub one_queued : (w : Parts) (e : ℕ) → w.second ≡ 0 → IsFresh w.attempt e → (t : Token C) → FreshBehind w t → FreshBehind (queued_word w e) t
  one_queued w e room new (Claimed f h) k = tt
  one_queued w e room new Leaving k = tt
  one_queued w e room new (Locked f rg at c o s h) k = dite (ℕ_discrete w.oldest 0)
      (λ z. let b = eq-eqb w.oldest 0 z in let first : cond (eqb w.oldest 0) e w.oldest ≡ e = ap (λ y. cond y e w.oldest) b in let then_ : cond (eqb w.oldest 0) 0 e ≡ 0 = ap (λ y. cond y 0 e) b in
      ((λ a n. subst (IsFresh w.attempt) (sym first) new), (λ a n. absurd (n then_))))
      (λ nz. let b = ne_eqb w.oldest 0 nz in let first : cond (eqb w.oldest 0) e w.oldest ≡ w.oldest = ap (λ y. cond y e w.oldest) b in let then_ : cond (eqb w.oldest 0) 0 e ≡ e = ap (λ y. cond y 0 e) b in
      ((λ a n. subst (IsFresh w.attempt) (sym first) (k.0 a nz)), (λ a n. subst (IsFresh w.attempt) (sym then_) new)))

  module _ (p : Plan) (s : State (Maybe C) (View C)) (law : Lawful p s) (fresh : AllFresh p s) (id : ℕ) (v : View C) (here : get_elem? s.views id ≡ some v) (i : ℕ) (inside : i < p.slots) where
    -- the words of other slots, and the tokens there, are the same
    module _ (w : View C) (tokens : (j : ℕ) → j ≢ i → tokens_in j w ≡ tokens_in j v) (ws' : List ℕ) (hs' : List (Option (Maybe C))) where
      abbrev after : State (Maybe C) (View C)
      after = record { words = ws'; homes = hs'; views = set s.views id w }

      pub fresh_frame : ((x : ℕ) → x ≢ tag_index i → x ≢ id_index i → get_or ws' x 0 ≡ get_or s.words x 0) → Each (FreshBehind (local after i).word) (local after i).tokens → AllFresh p after
      fresh_frame words own j jl = dite (ℕ_discrete j i)
          (λ e. subst (λ (y : ℕ). Each (FreshBehind (local after y).word) (local after y).tokens) (sym e) own)
          (λ ne. let word : get_or s.words (id_index j) 0 ≡ get_or ws' (id_index j) 0 = sym (words (id_index j) (λ q. omega arith) (λ q. ne (omega arith))) in
          let there : flat_map (tokens_in j) s.views ≡ flat_map (tokens_in j) (set s.views id w) = sym (gather_same (tokens_in j) s.views id v w here (tokens j ne)) in
          subst (λ (n : ℕ). Each (FreshBehind (parts n)) (flat_map (tokens_in j) (set s.views id w))) word (subst (Each (FreshBehind (local s j).word)) there (fresh j jl)))

    module _ (w : View C) (others : (j : ℕ) → j ≢ i → tokens_in j w ≡ tokens_in j v) (n : ℕ) (hs' : List (Option (Maybe C))) (ts : List (Token C)) (are : flat_map (tokens_in i) (set s.views id w) ≡ ts) where
      pub fresh_tag : Each (FreshBehind (local s i).word) ts → AllFresh p record { words = set s.words (tag_index i) n; homes = hs'; views = set s.views id w }
      fresh_tag own = fresh_frame w others (set s.words (tag_index i) n) hs' (λ x ne nq. get_or-set_other s.words (tag_index i) x n 0 ne)
          (subst (λ (m : ℕ). Each (FreshBehind (parts m)) (flat_map (tokens_in i) (set s.views id w))) (sym (get_or-set_other s.words (tag_index i) (id_index i) n 0 (λ q. omega arith))) (subst (Each (FreshBehind (local s i).word)) (sym are) own))

      pub fresh_id : Each (FreshBehind (parts n)) ts → AllFresh p record { words = set s.words (id_index i) n; homes = hs'; views = set s.views id w }
      fresh_id own = fresh_frame w others (set s.words (id_index i) n) hs' (λ x ne nq. get_or-set_other s.words (id_index i) x n 0 nq)
          (subst (λ (m : ℕ). Each (FreshBehind (parts m)) (flat_map (tokens_in i) (set s.views id w))) (sym (get_or-set_same s.words (id_index i) n 0 (let e = law.sized in omega arith))) (subst (Each (FreshBehind (parts n))) (sym are) own))

    -- the seat's own token
    pub own_fresh : (t : Token C) → flat_map (tokens_in i) s.views ≡ t ∷ [] → FreshBehind (local s i).word t
    own_fresh t are = (subst (Each (FreshBehind (local s i).word)) are (fresh i inside)).0

  -- a step on the word of an operation
  pub fresh_high : (p : Plan) (s : State (Maybe C) (View C)) → AllFresh p s → (id : ℕ) (v w : View C) → get_elem? s.views id ≡ some v → w.tokens ≡ v.tokens → (x n : ℕ) → 2 * p.slots ≤ x → AllFresh p record { words = set s.words x n; homes = s.homes; views = set s.views id w }
  fresh_high p s fresh id v w here same x n high j jl =
      let word : get_or s.words (id_index j) 0 ≡ get_or (set s.words x n) (id_index j) 0 = sym (get_or-set_other s.words x (id_index j) n 0 (λ q. omega arith)) in
      let there : flat_map (tokens_in j) s.views ≡ flat_map (tokens_in j) (set s.views id w) = sym (gather_same (tokens_in j) s.views id v w here (ap (tokens_of j) same)) in
      subst (λ (n : ℕ). Each (FreshBehind (parts n)) (flat_map (tokens_in j) (set s.views id w))) word (subst (Each (FreshBehind (local s j).word)) there (fresh j jl))
