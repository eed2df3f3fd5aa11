-- Each step is allowed to a seat whose view meets its condition.
use Rattle.std.proofs.Common.{◌≡◌, ◌≢◌, ℕ, ◌+◌, ◌<◌, ◌≤◌, inl, inr, Bool, cond, eqb, le-leb, eq-eqb, ne_eqb, List, [], ◌∷◌, Some, None, get_or, set, sym, refl, ap, ◌∙◌, subst, lt_of_not-le, arith}
use Rattle.std.specs.Prelude.{Option as Maybe}
use Rattle.std.specs.List.{flat_map}
use Rattle.std.proofs.lemmas.Bool.{lt-leb}
use mathlib.Core.Logic.{dite}
use mathlib.Core.Option.{Option, none, some}
use native.Mathlib.Decide.{ℕ_discrete, dec_le}
use lib.ListN.{get_elem?}
use Rattle.atomic_table.specs.Table.{State, Me, keeps, takes, gives, stepped}
use Rattle.atomic_table.proofs.Lists.{set_here, set_else}
use Rattle.corr_core.specs.IdSlotWord.{Parts, parts, made_word, locked_word, free_word}
use Rattle.corr_core.specs.IdSlotLaw.{LAST, Local, HomeIs, SlotLaw}
use Rattle.corr_core.specs.declared.marks.Plan.{Plan}
use Rattle.corr_core.specs.declared.marks.Hand.{Hand}
use Rattle.corr_core.specs.declared.marks.Hand.TheVariants.{Empty, Out, Full}
use Rattle.corr_core.specs.declared.marks.Token.{Token}
use Rattle.corr_core.specs.declared.marks.Token.TheVariants.{Claimed, Locked, Leaving}
use Rattle.corr_core.specs.declared.marks.Note.{Note}
use Rattle.corr_core.specs.declared.marks.Note.TheVariants.{Tried, Made, Ended, Locker, Queued, Attempt, Saw}
use Rattle.corr_core.specs.declared.marks.View.{View}
use Rattle.corr_core.proofs.NoteSums.{Inserted, at_length}
use Rattle.corr_core.proofs.IdStepsKeepSlot.{queued_word, open_word, popped_word, IsLock, is_lock, claim_home, no_tokens, tries, claims, sees, reclaims, makes, locks, queues, relocks, stays, advances, opens, pops, ends, frees}
use Rattle.corr_core.specs.IdTableLayout.{tag_index, id_index}
use Rattle.id_rule.specs.LawfulIdTable.{tokens_in, notes_in, local, Lawful, with_token, no_token, with_note}
use Rattle.id_rule.specs.IdPlays.{hand_of, with_hand, value_of, hand_by, claimed_view, locked_view, popped_view, ended_view, IsHome, NotLeaving, Fitting, LockFits}
use Rattle.id_rule.proofs.OtherIdsUntouched.{Aside, token_here, drop_here, note_here, aside_token, aside_drop, aside_note, aside_both, mine, own_tokens, first_tokens, same_tokens, same_notes, more_notes, on_tag, on_id}

module _ {C : Type 0} (p : Plan) (id : ℕ) (me : Me (Maybe C) (View C)) (i : ℕ) (inside : i < p.slots) (real : 0 < me.0.share) (s : State (Maybe C) (View C)) (law : Lawful p s) (here : get_elem? s.views id ≡ some me.0) where
  abbrev pub v : View C
  v = me.0

  abbrev pub l : Local C
  l = local s i

  abbrev pub o : SlotLaw (local s i)
  o = law.slots i inside

  -- the seat's tokens are all tokens of the slot
  pub own : (t : Token C) → tokens_in i me.0 ≡ t ∷ [] → flat_map (tokens_in i) s.views ≡ t ∷ []
  own t has = mine p s law id me.0 here real i inside t has

  module _ (w : View C) (a : Aside i me.0 w) (n : ℕ) (ts : List (Token C)) (are : flat_map (tokens_in i) (set s.views id w) ≡ ts) where
    pub tag_same : notes_in i w ≡ notes_in i me.0 → SlotLaw record { tag = n; word = (local s i).word; home = (local s i).home; tokens = ts; notes = (local s i).notes } → Lawful p (stepped s (tag_index i) n id me.1 w keeps)
    tag_same same k = on_tag p s law id me.0 here real i inside w a n s.homes (λ j ne. refl) (local s i).home ts refl are
        (subst (λ (ns : List (Note C)). SlotLaw record { tag = n; word = (local s i).word; home = (local s i).home; tokens = ts; notes = ns }) (sym (same_notes p s law id me.0 here real i inside w same)) k)

    pub tag_more : (x : Note C) → notes_in i w ≡ x ∷ notes_in i me.0 → ((ns : List (Note C)) → Inserted (local s i).notes ns x → SlotLaw record { tag = n; word = (local s i).word; home = (local s i).home; tokens = ts; notes = ns }) → Lawful p (stepped s (tag_index i) n id me.1 w keeps)
    tag_more x one k = on_tag p s law id me.0 here real i inside w a n s.homes (λ j ne. refl) (local s i).home ts refl are (k (flat_map (notes_in i) (set s.views id w)) (more_notes p s law id me.0 here real i inside w x one))

    pub id_same : notes_in i w ≡ notes_in i me.0 → SlotLaw record { tag = (local s i).tag; word = parts n; home = (local s i).home; tokens = ts; notes = (local s i).notes } → Lawful p (stepped s (id_index i) n id me.1 w keeps)
    id_same same k = on_id p s law id me.0 here real i inside w a n s.homes (λ j ne. refl) (local s i).home ts refl are
        (subst (λ (ns : List (Note C)). SlotLaw record { tag = (local s i).tag; word = parts n; home = (local s i).home; tokens = ts; notes = ns }) (sym (same_notes p s law id me.0 here real i inside w same)) k)

    pub id_more : (x : Note C) → notes_in i w ≡ x ∷ notes_in i me.0 → ((ns : List (Note C)) → Inserted (local s i).notes ns x → SlotLaw record { tag = (local s i).tag; word = parts n; home = (local s i).home; tokens = ts; notes = ns }) → Lawful p (stepped s (id_index i) n id me.1 w keeps)
    id_more x one k = on_id p s law id me.0 here real i inside w a n s.homes (λ j ne. refl) (local s i).home ts refl are (k (flat_map (notes_in i) (set s.views id w)) (more_notes p s law id me.0 here real i inside w x one))

  -- I1
  pub claims_law : Lawful p (stepped s (tag_index i) 1 id me.1 (claimed_view i (get_or s.words (tag_index i) 0) me.0) keeps)
  claims_law = let found : ℕ = get_or s.words (tag_index i) 0 in let F : Bool → Type 0 = λ b. Lawful p (stepped s (tag_index i) 1 id me.1 (cond b (with_token i (Claimed 0 Empty) me.0) (with_note i Tried me.0)) keeps) in dite (ℕ_discrete found 0)
      (λ z. let w : View C = with_token i (Claimed 0 Empty) me.0 in subst F (sym (eq-eqb found 0 z))
      (tag_same w (aside_token i (Claimed 0 Empty) me.0) 1 (Claimed 0 Empty ∷ []) (first_tokens p s law id me.0 here real i inside w (no_tokens (local s i) o z) ∙ token_here i (Claimed 0 Empty) me.0) refl (claims (local s i) o z)))
      (λ n. let w : View C = with_note i Tried me.0 in subst F (sym (ne_eqb found 0 n))
      (tag_more w (aside_note i Tried me.0) 1 (local s i).tokens (same_tokens p s law id me.0 here real i inside w refl) Tried (note_here i Tried me.0) (λ ns k. tries (local s i) o ns (omega arith) k)))

  -- I7 by the seat that claimed the slot
  pub reads_law : (seen : ℕ) (h : Hand C) → tokens_in i me.0 ≡ Claimed seen h ∷ [] → Lawful p (stepped s (id_index i) (get_or s.words (id_index i) 0) id me.1 (with_token i (Claimed (local s i).word.first h) me.0) keeps)
  reads_law seen h has = let t : Token C = Claimed (local s i).word.first h in let w : View C = with_token i t me.0 in
      id_same w (aside_token i t me.0) (get_or s.words (id_index i) 0) (t ∷ []) (own_tokens p s law id me.0 here real i inside w (Claimed seen h) has ∙ token_here i t me.0) refl
      (reclaims (local s i) o seen h (own (Claimed seen h) has) (local s i).word.first h (local s i).home (λ n. refl) (claim_home (local s i) o seen h (own (Claimed seen h) has)).0)

  -- I7
  pub sees_law : Lawful p (stepped s (id_index i) (get_or s.words (id_index i) 0) id me.1 (with_note i (Saw (get_or s.words (id_index i) 0)) me.0) keeps)
  sees_law = let n : ℕ = get_or s.words (id_index i) 0 in let w : View C = with_note i (Saw n) me.0 in
      id_more w (aside_note i (Saw n) me.0) n (local s i).tokens (same_tokens p s law id me.0 here real i inside w refl) (Saw n) (note_here i (Saw n) me.0) (λ ns k. sees (local s i) o n ns refl k)

  -- I2
  pub makes_law : (f n : ℕ) (c : C) → tokens_in i me.0 ≡ Claimed f (Full c) ∷ [] → f ≢ 0 → parts n ≡ made_word f (parts n).range → 2 ≤ (parts n).range → (parts n).range ≤ 8 → Lawful p (stepped s (id_index i) n id me.1 (with_note i (Made f (parts n).range c) (no_token i me.0)) keeps)
  makes_law f n c has some_first is low high =
      let r : ℕ = (parts n).range in let w : View C = with_note i (Made f r c) (no_token i me.0) in let t : Token C = Claimed f (Full c) in
      let e : f ≡ (local s i).word.first = (claim_home (local s i) o f (Full c) (own t has)).1 some_first in
      id_more w (aside_both i me.0 (no_token i me.0) w (aside_drop i me.0) (aside_note i (Made f r c) (no_token i me.0))) n [] (own_tokens p s law id me.0 here real i inside w t has ∙ drop_here i me.0) (Made f r c) (note_here i (Made f r c) (no_token i me.0))
      (λ ns k. subst (λ (y : Parts). SlotLaw record { tag = (local s i).tag; word = y; home = (local s i).home; tokens = []; notes = ns }) (sym (is ∙ ap (λ y. made_word y r) e))
      (makes (local s i) o r c ns (subst (λ (y : ℕ). flat_map (tokens_in i) s.views ≡ Claimed y (Full c) ∷ []) e (own t has)) low high (subst (λ (y : ℕ). Inserted (local s i).notes ns (Made y r c)) e k)))

  -- I3, and I4 on an open id
  pub locks_law : (n : ℕ) → (local s i).word.state ≡ 1 → parts n ≡ locked_word (local s i).word → (c : C) × LockFits (local s i).word × (((local s i).word.oldest ≡ 0) × ((local s i).word.second ≡ 0)) × Lawful p (stepped s (id_index i) n id me.1 (locked_view i (local s i).word.first (local s i).word.range (local s i).word.attempt c me.0) keeps)
  locks_law n one is =
      let k = locks (local s i) o one in let c = k.0 in let f : ℕ = (local s i).word.first in let t : Token C = Locked f (local s i).word.range (local s i).word.attempt c 0 0 (Full c) in let u : View C = with_token i t me.0 in let w : View C = with_note i (Locker f c) u in (
        c,
        record { low = k.2.low; range_low = k.2.range_low; range_high = k.2.range_high; room = k.2.room },
        k.3,
        id_more w (aside_both i me.0 u w (aside_token i t me.0) (aside_note i (Locker f c) u)) n (t ∷ []) (first_tokens p s law id me.0 here real i inside w k.1 ∙ token_here i t me.0) (Locker f c) (note_here i (Locker f c) u)
            (λ ns g. subst (λ (y : Parts). SlotLaw record { tag = (local s i).tag; word = y; home = (local s i).home; tokens = t ∷ []; notes = ns }) (sym is) (k.4 ns g)),
      )

  -- I4 on a locked id
  pub queues_law : (n e : ℕ) → (local s i).word.state ≡ 2 → (local s i).word.second ≡ 0 → e ≢ 0 → parts n ≡ queued_word (local s i).word e → Lawful p (stepped s (id_index i) n id me.1 (with_note i (Queued (local s i).word.first e) me.0) keeps)
  queues_law n e two room some_error is = let x : Note C = Queued (local s i).word.first e in let w : View C = with_note i x me.0 in
      id_more w (aside_note i x me.0) n (local s i).tokens (same_tokens p s law id me.0 here real i inside w refl) x (note_here i x me.0)
      (λ ns g. subst (λ (y : Parts). SlotLaw record { tag = (local s i).tag; word = y; home = (local s i).home; tokens = (local s i).tokens; notes = ns }) (sym is) (queues (local s i) o e ns two room some_error g))

  module _ (f rg att q r : ℕ) (c : C) (has : tokens_in i me.0 ≡ Locked f rg att c q r (Full c) ∷ []) where
    t₀ : Token C
    t₀ = Locked f rg att c q r (Full c)

    pub known : IsLock (local s i) o f rg att c q r (Full c)
    known = is_lock (local s i) o f rg att c q r (Full c) (own (Locked f rg att c q r (Full c)) has)

    -- I5 that failed
    pub relocks_law : Lawful p (stepped s (id_index i) (get_or s.words (id_index i) 0) id me.1 (with_token i (Locked f rg att c (local s i).word.oldest (local s i).word.second (Full c)) me.0) keeps)
    relocks_law = let n : ℕ = get_or s.words (id_index i) 0 in let t : Token C = Locked f rg att c (local s i).word.oldest (local s i).word.second (Full c) in let w : View C = with_token i t me.0 in
        id_same w (aside_token i t me.0) n (t ∷ []) (own_tokens p s law id me.0 here real i inside w (Locked f rg att c q r (Full c)) has ∙ token_here i t me.0) refl
        (relocks (local s i) o f rg att c q r (Full c) (own (Locked f rg att c q r (Full c)) has) (local s i).word.oldest (local s i).word.second (Full c) (local s i).home (λ z. refl) (λ z. refl) known.home refl)

    -- I5 without an advance, and with one
    abbrev pub Opens : ℕ → ℕ → Type 0
    Opens n more = ((local s i).word.oldest ≡ 0 → parts n ≡ open_word (local s i).word more) × ((local s i).word.oldest ≢ 0 → parts n ≡ popped_word (local s i).word more)

    abbrev pub F : ℕ → Bool → Type 0
    F n b = Lawful p (stepped s (id_index i) n id me.1 (cond b (no_token i me.0) (with_token i (Locked f rg ((local s i).word.attempt + 0) c (local s i).word.second 0 (Full c)) me.0)) keeps)

    abbrev word_law : (ts : List (Token C)) (ns : List (Note C)) → Parts → Type 0
    word_law ts ns y = SlotLaw record { tag = (local s i).tag; word = y; home = (local s i).home; tokens = ts; notes = ns }

    pub unlocks_law : (n : ℕ) → Opens n 0 → Lawful p (stepped s (id_index i) n id me.1 (popped_view i f rg ((local s i).word.attempt + 0) c (local s i).word.oldest (local s i).word.second me.0) keeps)
    unlocks_law n is = let two = known.locked_is in let a = stays (local s i) o c (omega arith) known.live in let now = own (Locked f rg att c q r (Full c)) has in dite (ℕ_discrete (local s i).word.oldest 0)
        (λ z. let w : View C = no_token i me.0 in subst (F n) (sym (eq-eqb (local s i).word.oldest 0 z))
        (id_same w (aside_drop i me.0) n [] (own_tokens p s law id me.0 here real i inside w (Locked f rg att c q r (Full c)) has ∙ drop_here i me.0) refl (subst (word_law [] (local s i).notes) (sym (is.0 z)) (opens (local s i) o f rg att c q r now 0 (local s i).notes a z))))
        (λ m. let t : Token C = Locked f rg ((local s i).word.attempt + 0) c (local s i).word.second 0 (Full c) in let w : View C = with_token i t me.0 in subst (F n) (sym (ne_eqb (local s i).word.oldest 0 m))
        (id_same w (aside_token i t me.0) n (t ∷ []) (own_tokens p s law id me.0 here real i inside w (Locked f rg att c q r (Full c)) has ∙ token_here i t me.0) refl
        (subst (word_law (t ∷ []) (local s i).notes) (sym (is.1 m)) (pops (local s i) o f rg att c q r now 0 (local s i).notes a m))))

    abbrev pub G : ℕ → Bool → Type 0
    G n b = Lawful p (stepped s (id_index i) n id me.1 (with_note i (Attempt f ((local s i).word.attempt + 1)) (cond b (no_token i me.0) (with_token i (Locked f rg ((local s i).word.attempt + 1) c (local s i).word.second 0 (Full c)) me.0))) keeps)

    pub advances_law : (n : ℕ) → (local s i).word.attempt + 3 ≤ (local s i).word.range → Opens n 1 → G n (eqb (local s i).word.oldest 0)
    advances_law n room is =
        let two = known.locked_is in let now = own (Locked f rg att c q r (Full c)) has in let x : Note C = Attempt f ((local s i).word.attempt + 1) in
        let own_note : (ns : List (Note C)) → Inserted (local s i).notes ns x → Inserted (local s i).notes ns (Attempt (local s i).word.first ((local s i).word.attempt + 1)) = λ ns g. subst (λ (y : ℕ). Inserted (local s i).notes ns (Attempt y ((local s i).word.attempt + 1))) known.first_is g in
        dite (ℕ_discrete (local s i).word.oldest 0)
        (λ z. let u : View C = no_token i me.0 in let w : View C = with_note i x u in subst (G n) (sym (eq-eqb (local s i).word.oldest 0 z))
        (id_more w (aside_both i me.0 u w (aside_drop i me.0) (aside_note i x u)) n [] (own_tokens p s law id me.0 here real i inside w (Locked f rg att c q r (Full c)) has ∙ drop_here i me.0) x (note_here i x u)
        (λ ns g. subst (word_law [] ns) (sym (is.0 z)) (opens (local s i) o f rg att c q r now 1 ns (advances (local s i) o c ns (omega arith) known.live room (own_note ns g)) z))))
        (λ m. let t : Token C = Locked f rg ((local s i).word.attempt + 1) c (local s i).word.second 0 (Full c) in let u : View C = with_token i t me.0 in let w : View C = with_note i x u in subst (G n) (sym (ne_eqb (local s i).word.oldest 0 m))
        (id_more w (aside_both i me.0 u w (aside_token i t me.0) (aside_note i x u)) n (t ∷ []) (own_tokens p s law id me.0 here real i inside w (Locked f rg att c q r (Full c)) has ∙ token_here i t me.0) x (note_here i x u)
        (λ ns g. subst (word_law (t ∷ []) ns) (sym (is.1 m)) (pops (local s i) o f rg att c q r now 1 ns (advances (local s i) o c ns (omega arith) known.live room (own_note ns g)) m))))

  -- I6
  pub ends_law : (f rg att q r : ℕ) (c : C) → tokens_in i me.0 ≡ Locked f rg att c q r Empty ∷ [] → (n : ℕ) → parts n ≡ free_word ((local s i).word.first + (local s i).word.range) → Lawful p (stepped s (id_index i) n id me.1 (ended_view i f att ((local s i).word.first + (local s i).word.range) me.0) keeps)
  ends_law f rg att q r c has n is =
      let t : Token C = Locked f rg att c q r Empty in let x : Note C = Ended f att in let next : ℕ = (local s i).word.first + (local s i).word.range in let now = own t has in let k = is_lock (local s i) o f rg att c q r Empty now in
      let H : Bool → Type 0 = λ b. Lawful p (stepped s (id_index i) n id me.1 (with_note i x (cond b (with_token i Leaving me.0) (no_token i me.0))) keeps) in
      let W : (ts : List (Token C)) (ns : List (Note C)) → Parts → Type 0 = λ ts ns y. SlotLaw record { tag = (local s i).tag; word = y; home = (local s i).home; tokens = ts; notes = ns } in
      dite (dec_le next LAST)
      (λ le. let u : View C = with_token i Leaving me.0 in let w : View C = with_note i x u in subst H (sym (le-leb next LAST le))
      (id_more w (aside_both i me.0 u w (aside_token i Leaving me.0) (aside_note i x u)) n (Leaving ∷ []) (own_tokens p s law id me.0 here real i inside w t has ∙ token_here i Leaving me.0) x (note_here i x u)
      (λ ns g. subst (W (Leaving ∷ []) ns) (sym is) (ends (local s i) o f rg att c q r Empty now ns k.home g (Leaving ∷ []) (inl (le, refl))))))
      (λ nle. let u : View C = no_token i me.0 in let w : View C = with_note i x u in subst H (sym (lt-leb next LAST (lt_of_not-le nle)))
      (id_more w (aside_both i me.0 u w (aside_drop i me.0) (aside_note i x u)) n [] (own_tokens p s law id me.0 here real i inside w t has ∙ drop_here i me.0) x (note_here i x u)
      (λ ns g. subst (W [] ns) (sym is) (ends (local s i) o f rg att c q r Empty now ns k.home g [] (inr (lt_of_not-le nle, refl))))))

  -- I8
  pub frees_law : tokens_in i me.0 ≡ Leaving ∷ [] → Lawful p (stepped s (tag_index i) 0 id me.1 (no_token i me.0) keeps)
  frees_law has = let w : View C = no_token i me.0 in
      tag_same w (aside_drop i me.0) 0 [] (own_tokens p s law id me.0 here real i inside w Leaving has ∙ drop_here i me.0) refl (frees (local s i) o (own Leaving has))

  pub home_value : (h : Hand C) → IsHome h → (k : Option (Option (Maybe C))) → HomeIs h k → k ≡ some (some (value_of h))
  home_value Empty z k e = e
  home_value Out z k e = absurd z
  home_value (Full c) z k e = e

  given : (y : Maybe C) → HomeIs (hand_by y) (some (some y))
  given None = refl
  given (Some c) = refl

  -- what the holder of a token knows of the home
  pub token_home : (t : Token C) → flat_map (tokens_in i) s.views ≡ t ∷ [] → IsHome (hand_of t) → HomeIs (hand_of t) (local s i).home
  token_home (Claimed f h) has z = (claim_home (local s i) o f h has).0
  token_home (Locked f rg att c q r h) has z = (is_lock (local s i) o f rg att c q r h has).home
  token_home Leaving has z = absurd z

  token_out : (t : Token C) → flat_map (tokens_in i) s.views ≡ t ∷ [] → hand_of t ≡ Out → NotLeaving t → (local s i).home ≡ some none
  token_out (Claimed f h) has z n = subst (λ (k : Hand C). HomeIs k (local s i).home) z (claim_home (local s i) o f h has).0
  token_out (Locked f rg att c q r h) has z n = subst (λ (k : Hand C). HomeIs k (local s i).home) z (is_lock (local s i) o f rg att c q r h has).home
  token_out Leaving has z n = absurd n

  pub rehands : (t : Token C) → flat_map (tokens_in i) s.views ≡ t ∷ [] → NotLeaving t → (h' : Hand C) (home' : Option (Option (Maybe C))) → HomeIs h' home' → Fitting t h'
      → SlotLaw record { tag = (local s i).tag; word = (local s i).word; home = home'; tokens = with_hand t h' ∷ []; notes = (local s i).notes }
  rehands (Claimed f h) has n h' home' is fit = reclaims (local s i) o f h has f h' home' (claim_home (local s i) o f h has).1 is
  rehands (Locked f rg att c q r h) has n h' home' is fit = let k = is_lock (local s i) o f rg att c q r h has in relocks (local s i) o f rg att c q r h has q r h' home' k.begins.0 k.begins.1 is fit
  rehands Leaving has n h' home' is fit = absurd n

  -- the tag is loaded while the home changes
  pub moved : (w : View C) → Aside i me.0 w → (hs' : List (Option (Maybe C))) → ((j : ℕ) → j ≢ i → get_elem? hs' j ≡ get_elem? s.homes j) → (h' : Option (Option (Maybe C))) → get_elem? hs' i ≡ h' → (ts : List (Token C)) → flat_map (tokens_in i) (set s.views id w) ≡ ts → notes_in i w ≡ notes_in i me.0
      → SlotLaw record { tag = (local s i).tag; word = (local s i).word; home = h'; tokens = ts; notes = (local s i).notes } → Lawful p record { words = set s.words (tag_index i) (get_or s.words (tag_index i) 0); homes = hs'; views = set s.views id w }
  moved w a hs' homes h' home_is ts are same k = on_tag p s law id me.0 here real i inside w a (get_or s.words (tag_index i) 0) hs' homes h' ts home_is are
      (subst (λ (ns : List (Note C)). SlotLaw record { tag = (local s i).tag; word = (local s i).word; home = h'; tokens = ts; notes = ns }) (sym (same_notes p s law id me.0 here real i inside w same)) k)

  fitting_out : (t : Token C) → NotLeaving t → Fitting t Out
  fitting_out (Claimed f h) n = tt
  fitting_out (Locked f rg att c q r h) n = tt
  fitting_out Leaving n = absurd n

  pub home_not_leaving : (t : Token C) → IsHome (hand_of t) → NotLeaving t
  home_not_leaving (Claimed f h) z = tt
  home_not_leaving (Locked f rg att c q r h) z = tt
  home_not_leaving Leaving z = absurd z

  pub takes_law : (t : Token C) → tokens_in i me.0 ≡ t ∷ [] → IsHome (hand_of t)
      → (get_elem? s.homes i ≡ some (some (value_of (hand_of t)))) × Lawful p (stepped s (tag_index i) (get_or s.words (tag_index i) 0) id me.1 (with_token i (with_hand t Out) me.0) (takes i (value_of (hand_of t))))
  takes_law t has ready =
      let now = own t has in let n = home_not_leaving t ready in let home : get_elem? s.homes i ≡ some (some (value_of (hand_of t))) = home_value (hand_of t) ready (local s i).home (token_home t now ready) in
      let u : Token C = with_hand t Out in let w : View C = with_token i u me.0 in (
        home,
        moved w (aside_token i u me.0) (set s.homes i none) (λ j ne. set_else s.homes i j none ne) (some none) (set_here s.homes i none (at_length s.homes i (some (value_of (hand_of t))) home)) (u ∷ [])
            (own_tokens p s law id me.0 here real i inside w t has ∙ token_here i u me.0) refl (rehands t now n Out (some none) refl (fitting_out t n)),
      )

  pub gives_law : (t : Token C) (y : Maybe C) (rest : List (ℕ × Maybe C)) → tokens_in i me.0 ≡ t ∷ [] → hand_of t ≡ Out → NotLeaving t → Fitting t (hand_by y) → me.1 ≡ (i, y) ∷ rest
      → Lawful p (stepped s (tag_index i) (get_or s.words (tag_index i) 0) id me.1 (with_token i (with_hand t (hand_by y)) me.0) gives)
  gives_law t y rest has out n fit carried =
      let now = own t has in let home = token_out t now out n in let u : Token C = with_hand t (hand_by y) in let w : View C = with_token i u me.0 in
      subst (λ (c : List (ℕ × Maybe C)). Lawful p (stepped s (tag_index i) (get_or s.words (tag_index i) 0) id c w gives)) (sym carried)
      (moved w (aside_token i u me.0) (set s.homes i (some y)) (λ j ne. set_else s.homes i j (some y) ne) (some (some y)) (set_here s.homes i (some y) (at_length s.homes i none home)) (u ∷ [])
      (own_tokens p s law id me.0 here real i inside w t has ∙ token_here i u me.0) refl (rehands t now n (hand_by y) (some (some y)) (given y) fit))
