-- Each kind of step keeps the rule of the table.
use Rattle.std.proofs.Common.{◌≡◌, ◌≢◌, ℕ, zero, suc, ◌+◌, ◌*◌, ◌<◌, ◌≤◌, Bool, true, false, cond, eqb, le-leb, eq-eqb, ne_eqb, List, [], ◌∷◌, get_or, set, sym, refl, ap, ◌∙◌, subst, lt_of_not-le, arith}
use Rattle.std.specs.Prelude.{Option as Maybe, ◌==◌, nat_le, ◌%◌}
use Rattle.std.specs.List.{flat_map}
use Rattle.std.proofs.lemmas.Bool.{lt-leb}
use mathlib.Core.Logic.{dite}
use mathlib.Core.Option.{Option, some}
use native.Mathlib.Decide.{ℕ_discrete, dec_le}
use lib.ListN.{get_elem?}
use Rattle.atomic_table.specs.Table.{State, Me, keeps, takes, gives, stepped, homes_after}
use Rattle.atomic_table.proofs.Lists.{set_here}
use Rattle.corr_core.specs.IdSlotWord.{Parts, parts, made_word, locked_word, free_word}
use Rattle.corr_core.specs.IdSlotLaw.{LAST, Each, is_made}
use Rattle.corr_core.specs.declared.marks.Plan.{Plan}
use Rattle.corr_core.specs.declared.marks.Hand.{Hand}
use Rattle.corr_core.specs.declared.marks.Hand.TheVariants.{Empty, Out, Full}
use Rattle.corr_core.specs.declared.marks.Token.{Token}
use Rattle.corr_core.specs.declared.marks.Token.TheVariants.{Claimed, Locked, Leaving}
use Rattle.corr_core.specs.declared.marks.Note.TheVariants.{Tried, Made, Ended, Locker, Queued, Attempt, Saw}
use Rattle.corr_core.specs.declared.marks.View.{View}
use Rattle.corr_core.proofs.NoteSums.{each_map, each_at, total_some, at_length}
use Rattle.corr_core.proofs.Shuffles.{each_of}
use Rattle.corr_core.proofs.IdStepsKeepSlot.{queued_word, open_word, popped_word, no_tokens}
use Rattle.corr_core.specs.IdTableLayout.{tag_index, id_index, all_words}
use Rattle.id_rule.specs.LawfulIdTable.{tokens_of, notes_of, tokens_in, local, kept_in, KeptFits, Lawful, with_token, no_token, with_note, with_kept}
use Rattle.id_rule.specs.IdPlays.{IsHome, NotLeaving, Fitting, hand_of, with_hand, value_of, hand_by, claimed_view, locked_view, popped_view, ended_view, found_view, LockFits}
use Rattle.id_rule.proofs.OtherIdsUntouched.{token_here, drop_here, aside_token, aside_drop, own_tokens, first_tokens, same_tokens}
use Rattle.id_rule.proofs.AllowedIdSteps.{own, claims_law, reads_law, sees_law, makes_law, locks_law, queues_law, relocks_law, unlocks_law, advances_law, ends_law, frees_law, takes_law, gives_law, o}
use Rattle.id_rule.proofs.KeptOperationWords.{stores_law, finds_law}
use Rattle.corr_id.specs.Ruled.{IsFresh, FreshBehind, Known, Ruled, is_place}
use Rattle.corr_id.proofs.KnowingTogether.{turn_of, Adds, adds_then, adds_none, adds_note, adds_saw, adds_either, adds_stored, adds_found, adds_later}
use Rattle.corr_id.proofs.FreshQueuedErrors.{AllFresh, noted_all, none_queued, other_hand, one_queued, fresh_tag, fresh_id, own_fresh, fresh_high}
use Rattle.sock_words.specs.PackedWords.{id_slot, id_first}
use Rattle.sock_words.specs.Totals.{total}

set_self : (l : List ℕ) (k : ℕ) → set l k (get_or l k 0) ≡ l
set_self [] k = refl
set_self (x ∷ xs) zero = refl
set_self (x ∷ xs) (suc k) = ap (λ l. x ∷ l) (set_self xs k)

set_twice : {A : Type 0} (l : List A) (k : ℕ) (a b : A) → set (set l k a) k b ≡ set l k b
set_twice [] k a b = refl
set_twice (x ∷ xs) zero a b = refl
set_twice (x ∷ xs) (suc k) a b = ap (λ l. x ∷ l) (set_twice xs k a b)

module _ {C : Type 0} (p : Plan) (id : ℕ) (me : Me (Maybe C) (View C)) (i : ℕ) (inside : i < p.slots) (real : 0 < me.0.share) (s : State (Maybe C) (View C)) (r : Ruled p s) (here : get_elem? s.views id ≡ some me.0) where
  abbrev F : ℕ → ℕ → View C → Type 0
  F x n w = AllFresh p record { words = set s.words x n; homes = s.homes; views = set s.views id w }

  pub claims_ruled : Ruled p (stepped s (tag_index i) 1 id me.1 (claimed_view i (get_or s.words (tag_index i) 0) me.0) keeps)
  claims_ruled = let found : ℕ = get_or s.words (tag_index i) 0 in record {
    lawful = claims_law p id me i inside real s r.lawful here;
    fresh = dite (ℕ_discrete found 0)
        (λ z. let t : Token C = Claimed 0 Empty in let w : View C = with_token i t me.0 in subst (λ b. F (tag_index i) 1 (cond b w (with_note i Tried me.0))) (sym (eq-eqb found 0 z))
        (fresh_tag p s r.lawful r.fresh id me.0 here i inside w (aside_token i t me.0).tokens 1 s.homes (t ∷ []) (first_tokens p s r.lawful id me.0 here real i inside w (no_tokens (local s i) (o p id me i inside real s r.lawful here) z) ∙ token_here i t me.0) (tt, tt)))
        (λ n. let w : View C = with_note i Tried me.0 in subst (λ b. F (tag_index i) 1 (cond b (with_token i (Claimed 0 Empty) me.0) w)) (sym (ne_eqb found 0 n))
        (fresh_tag p s r.lawful r.fresh id me.0 here i inside w (λ j ne. refl) 1 s.homes (local s i).tokens (same_tokens p s r.lawful id me.0 here real i inside w refl) (r.fresh i inside)));
    known = adds_later s.views id me.0 (claimed_view i found me.0) here (adds_either (found == 0) me.0 (with_token i (Claimed 0 Empty) me.0) (with_note i Tried me.0) (adds_none me.0 (with_token i (Claimed 0 Empty) me.0) refl refl) (adds_note i Tried me.0 (λ x. refl))) r.known;
  }

  pub reads_ruled : (seen : ℕ) (h : Hand C) → tokens_in i me.0 ≡ Claimed seen h ∷ [] → Ruled p (stepped s (id_index i) (get_or s.words (id_index i) 0) id me.1 (with_token i (Claimed (local s i).word.first h) me.0) keeps)
  reads_ruled seen h has = let t : Token C = Claimed (local s i).word.first h in let w : View C = with_token i t me.0 in record {
    lawful = reads_law p id me i inside real s r.lawful here seen h has;
    fresh = fresh_id p s r.lawful r.fresh id me.0 here i inside w (aside_token i t me.0).tokens (get_or s.words (id_index i) 0) s.homes (t ∷ []) (own_tokens p s r.lawful id me.0 here real i inside w (Claimed seen h) has ∙ token_here i t me.0) (tt, tt);
    known = adds_later s.views id me.0 w here (adds_none me.0 w refl refl) r.known;
  }

  sees_adds : Adds me.0 (with_note i (Saw (get_or s.words (id_index i) 0)) me.0)
  sees_adds = adds_saw i (get_or s.words (id_index i) 0) me.0 (turn_of (local s i) (r.lawful.slots i inside))

  pub sees_ruled : Ruled p (stepped s (id_index i) (get_or s.words (id_index i) 0) id me.1 (with_note i (Saw (get_or s.words (id_index i) 0)) me.0) keeps)
  sees_ruled = let n : ℕ = get_or s.words (id_index i) 0 in let w : View C = with_note i (Saw n) me.0 in record {
    lawful = sees_law p id me i inside real s r.lawful here;
    fresh = fresh_id p s r.lawful r.fresh id me.0 here i inside w (λ j ne. refl) n s.homes (local s i).tokens (same_tokens p s r.lawful id me.0 here real i inside w refl) (r.fresh i inside);
    known = adds_later s.views id me.0 w here sees_adds r.known;
  }

  pub makes_ruled : (f n : ℕ) (c : C) → tokens_in i me.0 ≡ Claimed f (Full c) ∷ [] → f ≢ 0 → parts n ≡ made_word f (parts n).range → 2 ≤ (parts n).range → (parts n).range ≤ 8 → Ruled p (stepped s (id_index i) n id me.1 (with_note i (Made f (parts n).range c) (no_token i me.0)) keeps)
  makes_ruled f n c has some_first is low high = let w : View C = with_note i (Made f (parts n).range c) (no_token i me.0) in record {
    lawful = makes_law p id me i inside real s r.lawful here f n c has some_first is low high;
    fresh = fresh_id p s r.lawful r.fresh id me.0 here i inside w (aside_drop i me.0).tokens n s.homes [] (own_tokens p s r.lawful id me.0 here real i inside w (Claimed f (Full c)) has ∙ drop_here i me.0) tt;
    known = adds_later s.views id me.0 w here (adds_then me.0 (no_token i me.0) w (adds_none me.0 (no_token i me.0) refl refl) (adds_note i (Made f (parts n).range c) (no_token i me.0) (λ x. refl))) r.known;
  }

  pub locks_ruled : (n : ℕ) → (local s i).word.state ≡ 1 → parts n ≡ locked_word (local s i).word → (c : C) × LockFits (local s i).word × (((local s i).word.oldest ≡ 0) × ((local s i).word.second ≡ 0)) × Ruled p (stepped s (id_index i) n id me.1 (locked_view i (local s i).word.first (local s i).word.range (local s i).word.attempt c me.0) keeps)
  locks_ruled n one is = let k = locks_law p id me i inside real s r.lawful here n one is in let w₀ : Parts = (local s i).word in let t : Token C = Locked w₀.first w₀.range w₀.attempt k.0 0 0 (Full k.0) in let w : View C = with_note i (Locker w₀.first k.0) (with_token i t me.0) in (
    k.0,
    k.1,
    k.2,
    record {
      lawful = k.3;
      fresh = fresh_id p s r.lawful r.fresh id me.0 here i inside w (aside_token i t me.0).tokens n s.homes (t ∷ []) (first_tokens p s r.lawful id me.0 here real i inside w (Rattle.corr_core.proofs.IdStepsKeepSlot.locks (local s i) (o p id me i inside real s r.lawful here) one).1 ∙ token_here i t me.0)
          (none_queued (parts n) t (ap (λ (y : Parts). y.oldest) is ∙ k.2.0) (ap (λ (y : Parts). y.second) is ∙ k.2.1), tt);
      known = adds_later s.views id me.0 w here (adds_then me.0 (with_token i t me.0) w (adds_none me.0 (with_token i t me.0) refl refl) (adds_note i (Locker w₀.first k.0) (with_token i t me.0) (λ x. refl))) r.known;
    },
  )

  pub queues_ruled : (n e : ℕ) → (local s i).word.state ≡ 2 → (local s i).word.second ≡ 0 → e ≢ 0 → IsFresh (local s i).word.attempt e → parts n ≡ queued_word (local s i).word e → Ruled p (stepped s (id_index i) n id me.1 (with_note i (Queued (local s i).word.first e) me.0) keeps)
  queues_ruled n e two room some_error new is = let w : View C = with_note i (Queued (local s i).word.first e) me.0 in record {
    lawful = queues_law p id me i inside real s r.lawful here n e two room some_error is;
    fresh = fresh_id p s r.lawful r.fresh id me.0 here i inside w (λ j ne. refl) n s.homes (local s i).tokens (same_tokens p s r.lawful id me.0 here real i inside w refl)
        (subst (λ (y : Parts). Each (FreshBehind y) (local s i).tokens) (sym is) (each_map (FreshBehind (local s i).word) (FreshBehind (queued_word (local s i).word e)) (local s i).tokens (one_queued (local s i).word e room new) (r.fresh i inside)));
    known = adds_later s.views id me.0 w here (adds_note i (Queued (local s i).word.first e) me.0 (λ x. refl)) r.known;
  }

  -- the view that has noted the word
  abbrev pub seen : View C
  seen = with_note i (Saw (get_or s.words (id_index i) 0)) me.0

  abbrev pub seen_state : State (Maybe C) (View C)
  seen_state = record { words = s.words; homes = s.homes; views = set s.views id seen }

  seen_law : Lawful p seen_state
  seen_law = subst (λ (ws : List ℕ). Lawful p record { words = ws; homes = s.homes; views = set s.views id seen }) (set_self s.words (id_index i)) (sees_law p id me i inside real s r.lawful here)

  seen_here : get_elem? (set s.views id seen) id ≡ some seen
  seen_here = set_here s.views id seen (at_length s.views id me.0 here)

  module _ (f rg att q r' : ℕ) (c : C) (has : tokens_in i me.0 ≡ Locked f rg att c q r' (Full c) ∷ []) where
    abbrev w₀ : Parts
    w₀ = (local s i).word

    abbrev pub Opens : ℕ → ℕ → Type 0
    Opens n more = (w₀.oldest ≡ 0 → parts n ≡ open_word w₀ more) × (w₀.oldest ≢ 0 → parts n ≡ popped_word w₀ more)

    pub relocks_ruled : Ruled p (stepped s (id_index i) (get_or s.words (id_index i) 0) id me.1 (with_token i (Locked f rg att c w₀.oldest w₀.second (Full c)) me.0) keeps)
    relocks_ruled = let t : Token C = Locked f rg att c w₀.oldest w₀.second (Full c) in let w : View C = with_token i t me.0 in record {
      lawful = relocks_law p id me i inside real s r.lawful here f rg att q r' c has;
      fresh = fresh_id p s r.lawful r.fresh id me.0 here i inside w (aside_token i t me.0).tokens (get_or s.words (id_index i) 0) s.homes (t ∷ []) (own_tokens p s r.lawful id me.0 here real i inside w (Locked f rg att c q r' (Full c)) has ∙ token_here i t me.0) (noted_all w₀ f rg att c (Full c), tt);
      known = adds_later s.views id me.0 w here (adds_none me.0 w refl refl) r.known;
    }

    unlocked_fresh : (n a more : ℕ) (w : View C) → w.tokens ≡ (popped_view i f rg a c w₀.oldest w₀.second seen).tokens → Opens n more → F (id_index i) n w
    unlocked_fresh n a more w same is = dite (ℕ_discrete w₀.oldest 0)
        (λ z. let b : popped_view i f rg a c w₀.oldest w₀.second seen ≡ no_token i seen = ap (λ y. cond y (no_token i seen) (with_token i (Locked f rg a c w₀.second 0 (Full c)) seen)) (eq-eqb w₀.oldest 0 z) in
        let e : w.tokens ≡ (no_token i seen).tokens = same ∙ ap (λ (y : View C). y.tokens) b in
        fresh_id p s r.lawful r.fresh id me.0 here i inside w (λ j ne. ap (tokens_of j) e ∙ (aside_drop i me.0).tokens j ne) n s.homes [] (own_tokens p s r.lawful id me.0 here real i inside w (Locked f rg att c q r' (Full c)) has ∙ (ap (tokens_of i) e ∙ drop_here i me.0)) tt)
        (λ nz. let t : Token C = Locked f rg a c w₀.second 0 (Full c) in let b : popped_view i f rg a c w₀.oldest w₀.second seen ≡ with_token i t seen = ap (λ y. cond y (no_token i seen) (with_token i t seen)) (ne_eqb w₀.oldest 0 nz) in
        let e : w.tokens ≡ (with_token i t seen).tokens = same ∙ ap (λ (y : View C). y.tokens) b in let word = is.1 nz in
        fresh_id p s r.lawful r.fresh id me.0 here i inside w (λ j ne. ap (tokens_of j) e ∙ (aside_token i t me.0).tokens j ne) n s.homes (t ∷ []) (own_tokens p s r.lawful id me.0 here real i inside w (Locked f rg att c q r' (Full c)) has ∙ (ap (tokens_of i) e ∙ token_here i t me.0))
        (((λ y m. absurd (m (ap (λ (k : Parts). k.oldest) word ∙ y))), (λ y m. absurd (m (ap (λ (k : Parts). k.second) word)))), tt))

    twice : (n : ℕ) (w : View C) → Lawful p (stepped seen_state (id_index i) n id me.1 w keeps) → Lawful p (stepped s (id_index i) n id me.1 w keeps)
    twice n w = subst (λ (vs : List (View C)). Lawful p record { words = set s.words (id_index i) n; homes = s.homes; views = vs }) (set_twice s.views id seen w)

    popped_adds : (a : ℕ) → Adds me.0 (popped_view i f rg a c w₀.oldest w₀.second seen)
    popped_adds a = let t : Token C = Locked f rg a c w₀.second 0 (Full c) in
        adds_then me.0 seen (popped_view i f rg a c w₀.oldest w₀.second seen) sees_adds (adds_either (w₀.oldest == 0) seen (no_token i seen) (with_token i t seen) (adds_none seen (no_token i seen) refl refl) (adds_none seen (with_token i t seen) refl refl))

    pub unlocks_ruled : (n : ℕ) → Opens n 0 → Ruled p (stepped s (id_index i) n id me.1 (popped_view i f rg (w₀.attempt + 0) c w₀.oldest w₀.second seen) keeps)
    unlocks_ruled n is = let w : View C = popped_view i f rg (w₀.attempt + 0) c w₀.oldest w₀.second seen in record {
      lawful = twice n w (unlocks_law p id (seen, me.1) i inside real seen_state seen_law seen_here f rg att q r' c has n is);
      fresh = unlocked_fresh n (w₀.attempt + 0) 0 w refl is;
      known = adds_later s.views id me.0 w here (popped_adds (w₀.attempt + 0)) r.known;
    }

    pub advances_ruled : (n : ℕ) → w₀.attempt + 3 ≤ w₀.range → Opens n 1 → Ruled p (stepped s (id_index i) n id me.1 (with_note i (Attempt f (w₀.attempt + 1)) (popped_view i f rg (w₀.attempt + 1) c w₀.oldest w₀.second seen)) keeps)
    advances_ruled n room is = let w : View C = with_note i (Attempt f (w₀.attempt + 1)) (popped_view i f rg (w₀.attempt + 1) c w₀.oldest w₀.second seen) in record {
      lawful = twice n w (advances_law p id (seen, me.1) i inside real seen_state seen_law seen_here f rg att q r' c has n room is);
      fresh = unlocked_fresh n (w₀.attempt + 1) 1 w refl is;
      known = adds_later s.views id me.0 w here (adds_then me.0 (popped_view i f rg (w₀.attempt + 1) c w₀.oldest w₀.second seen) w (popped_adds (w₀.attempt + 1)) (adds_note i (Attempt f (w₀.attempt + 1)) (popped_view i f rg (w₀.attempt + 1) c w₀.oldest w₀.second seen) (λ x. refl))) r.known;
    }

    -- what was found behind the noted errors
    pub behind : FreshBehind w₀ (Locked f rg att c q r' (Full c))
    behind = own_fresh p s r.lawful r.fresh id me.0 here i inside (Locked f rg att c q r' (Full c)) (own p id me i inside real s r.lawful here (Locked f rg att c q r' (Full c)) has)

  pub ends_ruled : (f rg att q r' : ℕ) (c : C) → tokens_in i me.0 ≡ Locked f rg att c q r' Empty ∷ [] → (n : ℕ) → parts n ≡ free_word ((local s i).word.first + (local s i).word.range) → Ruled p (stepped s (id_index i) n id me.1 (ended_view i f att ((local s i).word.first + (local s i).word.range) me.0) keeps)
  ends_ruled f rg att q r' c has n is = let next : ℕ = (local s i).word.first + (local s i).word.range in let t : Token C = Locked f rg att c q r' Empty in record {
    lawful = ends_law p id me i inside real s r.lawful here f rg att q r' c has n is;
    fresh = dite (dec_le next LAST)
        (λ le. let w : View C = with_note i (Ended f att) (with_token i Leaving me.0) in subst (λ b. F (id_index i) n (with_note i (Ended f att) (cond b (with_token i Leaving me.0) (no_token i me.0)))) (sym (le-leb next LAST le))
        (fresh_id p s r.lawful r.fresh id me.0 here i inside w (aside_token i Leaving me.0).tokens n s.homes (Leaving ∷ []) (own_tokens p s r.lawful id me.0 here real i inside w t has ∙ token_here i Leaving me.0) (tt, tt)))
        (λ nle. let w : View C = with_note i (Ended f att) (no_token i me.0) in subst (λ b. F (id_index i) n (with_note i (Ended f att) (cond b (with_token i Leaving me.0) (no_token i me.0)))) (sym (lt-leb next LAST (lt_of_not-le nle)))
        (fresh_id p s r.lawful r.fresh id me.0 here i inside w (aside_drop i me.0).tokens n s.homes [] (own_tokens p s r.lawful id me.0 here real i inside w t has ∙ drop_here i me.0) tt));
    known = let u : View C = cond (nat_le next LAST) (with_token i Leaving me.0) (no_token i me.0) in adds_later s.views id me.0 (ended_view i f att next me.0) here (adds_then me.0 u (ended_view i f att next me.0) (adds_either (nat_le next LAST) me.0 (with_token i Leaving me.0) (no_token i me.0) (adds_none me.0 (with_token i Leaving me.0) refl refl) (adds_none me.0 (no_token i me.0) refl refl)) (adds_note i (Ended f att) u (λ x. refl))) r.known;
  }

  pub frees_ruled : tokens_in i me.0 ≡ Leaving ∷ [] → Ruled p (stepped s (tag_index i) 0 id me.1 (no_token i me.0) keeps)
  frees_ruled has = let w : View C = no_token i me.0 in record {
    lawful = frees_law p id me i inside real s r.lawful here has;
    fresh = fresh_tag p s r.lawful r.fresh id me.0 here i inside w (aside_drop i me.0).tokens 0 s.homes [] (own_tokens p s r.lawful id me.0 here real i inside w Leaving has ∙ drop_here i me.0) tt;
    known = adds_later s.views id me.0 w here (adds_none me.0 w refl refl) r.known;
  }

  hand_fresh : (t : Token C) (h : Hand C) → tokens_in i me.0 ≡ t ∷ [] → (hs' : List (Option (Maybe C))) → AllFresh p record { words = set s.words (tag_index i) (get_or s.words (tag_index i) 0); homes = hs'; views = set s.views id (with_token i (with_hand t h) me.0) }
  hand_fresh t h has hs' = let u : Token C = with_hand t h in let w : View C = with_token i u me.0 in
      fresh_tag p s r.lawful r.fresh id me.0 here i inside w (aside_token i u me.0).tokens (get_or s.words (tag_index i) 0) hs' (u ∷ []) (own_tokens p s r.lawful id me.0 here real i inside w t has ∙ token_here i u me.0)
      (other_hand (local s i).word t h (own_fresh p s r.lawful r.fresh id me.0 here i inside t (own p id me i inside real s r.lawful here t has)), tt)

  hand_known : (u : Token C) → Known (set s.views id (with_token i u me.0))
  hand_known u = adds_later s.views id me.0 (with_token i u me.0) here (adds_none me.0 (with_token i u me.0) refl refl) r.known

  pub takes_ruled : (t : Token C) → tokens_in i me.0 ≡ t ∷ [] → IsHome (hand_of t)
      → (get_elem? s.homes i ≡ some (some (value_of (hand_of t)))) × Ruled p (stepped s (tag_index i) (get_or s.words (tag_index i) 0) id me.1 (with_token i (with_hand t Out) me.0) (takes i (value_of (hand_of t))))
  takes_ruled t has ready = let k = takes_law p id me i inside real s r.lawful here t has ready in (k.0, record { lawful = k.1; fresh = hand_fresh t Out has (homes_after s.homes me.1 (takes i (value_of (hand_of t)))); known = hand_known (with_hand t Out) })

  pub gives_ruled : (t : Token C) (y : Maybe C) (rest : List (ℕ × Maybe C)) → tokens_in i me.0 ≡ t ∷ [] → hand_of t ≡ Out → NotLeaving t → Fitting t (hand_by y) → me.1 ≡ (i, y) ∷ rest
      → Ruled p (stepped s (tag_index i) (get_or s.words (tag_index i) 0) id me.1 (with_token i (with_hand t (hand_by y)) me.0) gives)
  gives_ruled t y rest has out n fit carried = record { lawful = gives_law p id me i inside real s r.lawful here t y rest has out n fit carried; fresh = hand_fresh t (hand_by y) has (homes_after s.homes me.1 gives); known = hand_known (with_hand t (hand_by y)) }

-- the word of an operation
module _ {C : Type 0} (p : Plan) (id : ℕ) (me : Me (Maybe C) (View C)) (x : ℕ) (high : 2 * p.slots ≤ x) (inside : x < all_words p) (real : 0 < me.0.share) (s : State (Maybe C) (View C)) (r : Ruled p s) (here : get_elem? s.views id ≡ some me.0) where
  pub stores_ruled : (n : ℕ) → n ≢ 0 → (x % 2 ≡ 0 → 0 < total (is_made (id_first n)) (notes_of (id_slot n) me.0.notes)) → Ruled p (stepped s x n id me.1 (with_kept x true n me.0) keeps)
  stores_ruled n some_word made = record { lawful = stores_law p id me x high inside real s r.lawful here n some_word; fresh = fresh_high p s r.fresh id me.0 (with_kept x true n me.0) here refl x n high; known = adds_later s.views id me.0 (with_kept x true n me.0) here (adds_stored x n me.0 made) r.known }

  pub finds_ruled : Ruled p (stepped s x (get_or s.words x 0) id me.1 (found_view x (get_or s.words x 0) me.0) keeps)
  finds_ruled = let n : ℕ = get_or s.words x 0 in record {
    lawful = finds_law p id me x high inside real s r.lawful here;
    fresh = fresh_high p s r.fresh id me.0 (found_view x n me.0) here (same (eqb n 0)) x n high;
    known = adds_later s.views id me.0 (found_view x n me.0) here (adds_found x n me.0) r.known;
  }
    where
      same : (b : Bool) → (cond b me.0 (with_kept x false (get_or s.words x 0) me.0)).tokens ≡ me.0.tokens
      same b = elim b as (λ y. (cond y me.0 (with_kept x false (get_or s.words x 0) me.0)).tokens ≡ me.0.tokens) [ true ↦ refl | false ↦ refl ]

  -- where the seat kept a word of this place, there is one
  pub kept_stays : 0 < total (is_place x) me.0.kept → get_or s.words x 0 ≢ 0
  kept_stays some_kept = let k = total_some (is_place x) me.0.kept some_kept in
      let fits : KeptFits (2 * p.slots) s.words (flat_map kept_in s.views) k.1 = each_at (KeptFits (2 * p.slots) s.words (flat_map kept_in s.views)) me.0.kept k.0 k.1 (each_of kept_in (KeptFits (2 * p.slots) s.words (flat_map kept_in s.views)) s.views id me.0 r.lawful.kept_fits here) k.2 in
      let place : k.1.place ≡ x = dite (ℕ_discrete k.1.place x) (λ e. e) (λ n. let z = Rattle.corr_core.proofs.NoteSums.only-else x k.1.place n in let y = k.3 in absurd (omega arith)) in
      subst (λ (y : ℕ). get_or s.words y 0 ≢ 0) place fits.2
