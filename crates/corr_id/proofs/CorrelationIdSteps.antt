-- Each step with what it tells.
use Rattle.std.proofs.Common.{◌≡◌, ◌≢◌, ℕ, zero, suc, ◌+◌, ◌*◌, ◌<◌, ◌≤◌, ◌⊎◌, inl, inr, ⊎_elim, true, cond, eqb, eq-eqb, ne_eqb, List, [], ◌∷◌, get_or, sym, refl, ap, ◌∙◌, subst, arith}
use Rattle.std.specs.Prelude.{Option as Maybe, ◌%◌, ◌/◌}
use Rattle.std.specs.List.{flat_map}
use mathlib.Core.Logic.{dite}
use mathlib.Core.Option.{none, some, some-injective, some-ne-none}
use native.Mathlib.Decide.{ℕ_discrete, dec_lt}
use lib.ListN.{get_elem?}
use prog.Atomic.{either}
use Rattle.atomic_table.specs.Table.{State, Me, step, keeps, takes, gives, stepped, Allows}
use Rattle.corr_core.specs.IdSlotWord.{Parts, parts, made_word, locked_word, posted_word, unlocked_word, free_word}
use Rattle.corr_core.specs.IdSlotLaw.{born, is_made, is_advance, is_attempt, NoteFits, SlotLaw, Live, Stands, vacant, retired, claimed, opened, locked, leaving}
use Rattle.corr_core.specs.declared.marks.Plan.{Plan}
use Rattle.corr_core.specs.declared.marks.Hand.{Hand}
use Rattle.corr_core.specs.declared.marks.Hand.TheVariants.{Empty, Out, Full}
use Rattle.corr_core.specs.declared.marks.Token.{Token}
use Rattle.corr_core.specs.declared.marks.Token.TheVariants.{Claimed, Locked, Leaving}
use Rattle.corr_core.specs.declared.marks.Note.{Note}
use Rattle.corr_core.specs.declared.marks.Note.TheVariants.{Made, Queued, Attempt, Saw}
use Rattle.corr_core.specs.declared.marks.View.{View}
use Rattle.corr_core.proofs.SlotRangeStories.{born_is, born_le}
use Rattle.corr_core.proofs.IdStepsKeepSlot.{queued_word, open_word, popped_word, same_token, claim_home, no_tokens, is_lock}
use Rattle.corr_core.proofs.Gather.{gather_none}
use Rattle.corr_core.proofs.NoteSums.{each_at, total_some, pair-else, pair-else_first}
use Rattle.corr_core.proofs.Shuffles.{each_of}
use Rattle.corr_core.specs.declared.marks.Kept.{Kept}
use Rattle.corr_id.specs.SeatBehindIdCalls.{is_saw, is_at, FoundUpTo, ReachedUpTo}
use Rattle.corr_id.proofs.LastSeatOfIds.{saw_of}
use Rattle.corr_core.specs.IdTableLayout.{tag_index, id_index, all_words}
use Rattle.id_rule.specs.LawfulIdTable.{is_stored, kept_in, KeptFits, notes_of, tokens_in, notes_in, local, with_token, no_token, with_note, with_kept}
use Rattle.id_rule.specs.IdPlays.{IsHome, NotLeaving, Fitting, hand_of, with_hand, value_of, hand_by, claimed_view, locked_view, claim_told, take_told, give_told, make_told, end_told, free_told, store_told, found_view, put_error, popped_view, advanced_view, ended_view}
use Rattle.id_rule.proofs.AllowedIdSteps.{own, known, o}
use Rattle.corr_id.specs.Ruled.{IsFresh, FreshBehind, IsBehind, Ruled, read_told, see_told, lock_told, queue_told, unlock_told, load_told}
use Rattle.corr_id.proofs.IdSeatSplits.{total_append}
use Rattle.corr_id.proofs.Ruling.{claims_ruled, reads_ruled, sees_ruled, makes_ruled, locks_ruled, queues_ruled, relocks_ruled, unlocks_ruled, advances_ruled, behind, ends_ruled, frees_ruled, takes_ruled, gives_ruled, stores_ruled, finds_ruled, kept_stays}
use Rattle.sock_words.specs.PackedWords.{id_slot, id_first}
use Rattle.sock_words.specs.Totals.{total}

opened_is : (w : Parts) (more : ℕ) → w.oldest ≡ 0 → w.second ≡ 0 → unlocked_word w more ≡ open_word w more
opened_is w more z y = λ k. record { first = w.first; state = ap (λ b. cond b 1 2) (eq-eqb w.oldest 0 z) k; range = w.range; attempt = w.attempt + more; oldest = y k; second = 0 }

popped_is : (w : Parts) (more : ℕ) → w.oldest ≢ 0 → unlocked_word w more ≡ popped_word w more
popped_is w more n = λ k. record { first = w.first; state = ap (λ b. cond b 1 2) (ne_eqb w.oldest 0 n) k; range = w.range; attempt = w.attempt + more; oldest = w.second; second = 0 }

pub put_is : (w : Parts) (e : ℕ) → put_error w (queued_word w e) ≡ e
put_is w e = dite (ℕ_discrete w.oldest 0)
    (λ z. let b = eq-eqb w.oldest 0 z in ap (λ y. cond y (cond (eqb w.oldest 0) e w.oldest) (cond (eqb w.oldest 0) 0 e)) b ∙ ap (λ y. cond y e w.oldest) b)
    (λ n. let b = ne_eqb w.oldest 0 n in ap (λ y. cond y (cond (eqb w.oldest 0) e w.oldest) (cond (eqb w.oldest 0) 0 e)) b ∙ ap (λ y. cond y 0 e) b)

abbrev top : {S : Type 0} → S → List (ℕ × S) → S
top y [] = y
top y (x ∷ xs) = x.1

-- what is kept at this place with this word
at_place : (x n : ℕ) (k : Kept) → 0 < is_at x n k → k.place ≡ x
at_place x n k h = dite (ℕ_discrete k.place x) (λ e. e) (λ ne. absurd (let a = pair-else_first x n k.place k.word ne in omega (arith, a, h)))

at_word_is : (x n : ℕ) (k : Kept) → 0 < is_at x n k → k.word ≡ n
at_word_is x n k h = dite (ℕ_discrete k.word n) (λ e. e) (λ ne. absurd (let a = pair-else x n k.place k.word ne in omega (arith, a, h)))

module _ {C : Type 0} (p : Plan) (slots id : ℕ) (me : Me (Maybe C) (View C)) (i : ℕ) (inside : i < p.slots) (real : 0 < me.0.share) where
  abbrev M : Type 0
  M = Me (Maybe C) (View C)

  of_tag : (f : ℕ → View C) (x : ℕ) → tag_index i ≡ tag_index x → ◌≡◌ {A = M} (f i, me.1) (f x, me.1)
  of_tag f x at = let e : i ≡ x = omega arith in ap (λ (y : ℕ). (f y, me.1)) e

  of_id : (f : ℕ → View C) (x : ℕ) → id_index i ≡ id_index x → ◌≡◌ {A = M} (f i, me.1) (f x, me.1)
  of_id f x at = let e : i ≡ x = omega arith in ap (λ (y : ℕ). (f y, me.1)) e

  -- the slot of a word is one, and so is the seat's token there
  which : (x : ℕ) (t u : Token C) → i ≡ x → tokens_in i me.0 ≡ t ∷ [] → tokens_in x me.0 ≡ u ∷ [] → t ≡ u
  which x t u e has has' = same_token (tokens_in i me.0) t u has (ap (λ (y : ℕ). tokens_in y me.0) e ∙ has')

  pub claiming : Allows (Ruled p) slots id me (tag_index i) (λ _. 1) (claim_told (step slots (tag_index i) 1 0 none) me)
  claiming s r long here fits = let found : ℕ = get_or s.words (tag_index i) 0 in (claimed_view i found me.0, keeps, tt, claims_ruled p id me i inside real s r here, λ x at. (of_tag (λ y. claimed_view y found me.0) x at, λ z. let e : i ≡ x = omega arith in ap (λ (y : ℕ). tokens_in y me.0) (sym e) ∙ gather_none (tokens_in i) s.views id me.0 here (no_tokens (local s i) (o p id me i inside real s r.lawful here) z)))

  -- what is counted of the notes of one seat is no more than what is of all
  counted : (g : Note C → ℕ) (vs : List (View C)) (j : ℕ) (v : View C) → get_elem? vs j ≡ some v → total g (notes_in i v) ≤ total g (flat_map (notes_in i) vs)
  counted g [] j v e = absurd (some-ne-none v (sym e))
  counted g (x ∷ xs) zero v e = let a = ap (λ y. total g (notes_in i y)) (some-injective x v e) in omega (arith, total_append g (notes_in i x) (flat_map (notes_in i) xs))
  counted g (x ∷ xs) (suc j) v e = let a : total g (notes_in i v) ≤ total g (flat_map (notes_in i) xs) = counted g xs j v e in omega (arith, total_append g (notes_in i x) (flat_map (notes_in i) xs))

  -- a slot that is claimed has a free word
  claimed_free : (s : State (Maybe C) (View C)) (l : SlotLaw (local s i)) (seen : ℕ) (h : Hand C) → (local s i).tokens ≡ Claimed seen h ∷ [] → (local s i).word.state ≡ 0
  claimed_free s l seen h has = elim l.stands [
    | vacant t g z u k ↦ z
    | retired t g z u k ↦ z
    | claimed seen' h' t g z u k q ↦ z
    | opened c t z v p' q k ↦ (let e : Claimed seen h ∷ [] ≡ [] = sym has ∙ t in absurd (cc))
    | locked c o' s' k t z v b u y ↦ (let e = same_token (local s i).tokens _ (Claimed seen h) t has in absurd (cc))
    | leaving t g z u k ↦ z
  ]

  -- each range of a word that the seat had seen taken there was an earlier one
  seen_before : (s : State (Maybe C) (View C)) → Ruled p s → get_elem? s.views id ≡ some me.0 → (seen : ℕ) (h : Hand C) → tokens_in i me.0 ≡ Claimed seen h ∷ [] → (w : ℕ) → 0 < total (is_saw w) (notes_in i me.0) → 0 < (parts w).state → (parts w).first < (local s i).word.first
  seen_before s r here seen h has w saw taken =
      let l = o p id me i inside real s r.lawful here in
      let free = claimed_free s l seen h (own p id me i inside real s r.lawful here (Claimed seen h) has) in
      let k = total_some (is_saw w) (local s i).notes (let a = counted (is_saw w) s.views id me.0 here in omega (arith, a, saw)) in
      let fit = each_at (NoteFits l.b (local s i).word.first (local s i).notes) (local s i).notes k.0 (Saw w) l.story.fits (k.2 ∙ ap some (saw_of w k.1 k.3)) in
      let born_ = fit.is_born taken in let y = l.story.births (parts w).first ((parts w).range, born_.0) born_.1 in
      ⊎_elim
      (λ past. let a = y.0 in omega (arith, a, past))
      (λ now. absurd (let z = now.1 in omega (arith, z, free)))
      y.1

  -- it had found the id of the slot's next range at no operation: it would have been made
  none_noted : (s : State (Maybe C) (View C)) → Ruled p s → get_elem? s.views id ≡ some me.0 → (seen : ℕ) (h : Hand C) → tokens_in i me.0 ≡ Claimed seen h ∷ [] → (x : ℕ) → x % 2 ≡ 0 → total (is_at x (i * 4294967296 + (local s i).word.first)) me.0.kept ≡ 0
  none_noted s r here seen h has x even = dite (ℕ_discrete (total (is_at x (i * 4294967296 + (local s i).word.first)) me.0.kept) 0) (λ z. z) (λ nz. absurd (found (omega (arith, nz))))
    where
      l : SlotLaw (local s i)
      l = o p id me i inside real s r.lawful here

      claim : (local s i).tokens ≡ Claimed seen h ∷ []
      claim = own p id me i inside real s r.lawful here (Claimed seen h) has

      unborn : 0 < total (is_made (local s i).word.first) (local s i).notes → ⊥
      unborn made =
          let free = claimed_free s l seen h claim in let m = l.story.made (local s i).word.first in let c = born_le (l.b (local s i).word.first) in
          let y = born_is (l.b (local s i).word.first) (omega (arith, made, m, c)) in let z = l.story.births (local s i).word.first y.0 y.1 in
          ⊎_elim (λ past. let a = z.0 in omega (arith, past, a)) (λ now. let a = now.1 in omega (arith, a, free)) z.1

      found : 0 < total (is_at x (i * 4294967296 + (local s i).word.first)) me.0.kept → ⊥
      found some_ =
          let k = total_some (is_at x (i * 4294967296 + (local s i).word.first)) me.0.kept some_ in let low = (claim_home (local s i) l seen h claim).2 in
          let fits : KeptFits (2 * p.slots) s.words (flat_map kept_in s.views) k.1 = each_at (KeptFits (2 * p.slots) s.words (flat_map kept_in s.views)) me.0.kept k.0 k.1 (each_of kept_in (KeptFits (2 * p.slots) s.words (flat_map kept_in s.views)) s.views id me.0 r.lawful.kept_fits here) k.2 in
          let place : k.1.place ≡ x = at_place x (i * 4294967296 + (local s i).word.first) k.1 k.3 in let word : k.1.word ≡ (i * 4294967296 + (local s i).word.first) = at_word_is x (i * 4294967296 + (local s i).word.first) k.1 k.3 in
          let stored : 0 < total (is_stored x (i * 4294967296 + (local s i).word.first)) (flat_map kept_in s.views) = subst (λ (y : ℕ). 0 < total (is_stored x y) (flat_map kept_in s.views)) word (subst (λ (y : ℕ). 0 < total (is_stored y k.1.word) (flat_map kept_in s.views)) place fits.3) in
          let slot : id_slot (i * 4294967296 + (local s i).word.first) ≡ i = slot_is in let version : id_first (i * 4294967296 + (local s i).word.first) ≡ (local s i).word.first = version_is in
          unborn (subst (λ (f : ℕ). 0 < total (is_made f) (flat_map (notes_in i) s.views)) version (subst (λ (y : ℕ). 0 < total (is_made (id_first (i * 4294967296 + (local s i).word.first))) (flat_map (notes_in y) s.views)) slot (r.known.named x (i * 4294967296 + (local s i).word.first) even stored)))
        where
          short : (local s i).word.first < 4294967296
          short = let a = (claim_home (local s i) l seen h claim).2 in omega (arith, a)

          slot_is : (i * 4294967296 + (local s i).word.first) / 4294967296 ≡ i
          slot_is = omega (arith, short)

          version_is : (i * 4294967296 + (local s i).word.first) % 4294967296 ≡ (local s i).word.first
          version_is = omega (arith, short)

  pub reading : (seen : ℕ) (h : Hand C) → tokens_in i me.0 ≡ Claimed seen h ∷ [] → Allows (Ruled p) slots id me (id_index i) (λ n. n) (read_told (step slots (id_index i) 0 0 none) me)
  reading seen h has s r long here fits = let f : ℕ = (local s i).word.first in let l = o p id me i inside real s r.lawful here in (
    with_token i (Claimed f h) me.0,
    keeps,
    tt,
    reads_ruled p id me i inside real s r here seen h has,
    λ x seen' h' at has'. let e : i ≡ x = omega arith in let q : Claimed seen h ≡ Claimed seen' h' = which x (Claimed seen h) (Claimed seen' h') e has has' in let hh : h ≡ h' = cc in (
      (λ z. (with_token (e z) (Claimed f (hh z)) me.0, me.1)),
      l.first_some,
      (claim_home (local s i) l seen h (own p id me i inside real s r.lawful here (Claimed seen h) has)).2,
      (λ w saw taken. seen_before s r here seen h has w (let y = ap (λ (z : ℕ). total (is_saw w) (notes_in z me.0)) e in omega (arith, y, saw)) taken),
      (λ y even. let a = none_noted s r here seen h has y even in let b = ap (λ (z : ℕ). total (is_at y (z * 4294967296 + f)) me.0.kept) e in omega (arith, a, b)),
    ),
  )

  -- a word is free, open or locked
  state_low : (s : State (Maybe C) (View C)) (l : SlotLaw (local s i)) → (local s i).word.state ≤ 2
  state_low s l = elim l.stands [
    | vacant t g z u k ↦ omega (arith, z)
    | retired t g z u k ↦ omega (arith, z)
    | claimed seen' h' t g z u k q ↦ omega (arith, z)
    | opened c t z v p' q k ↦ omega (arith, z)
    | locked c o' s' k t z v b u y ↦ omega (arith, z)
    | leaving t g z u k ↦ omega (arith, z)
  ]

  -- the word of the slot, where the seat knows of an id that was made there
  born_behind : (s : State (Maybe C) (View C)) (r : Ruled p s) (here : get_elem? s.views id ≡ some me.0) (f : ℕ) → born ((o p id me i inside real s r.lawful here).b f) ≡ 1 → IsBehind f (local s i).word
  born_behind s r here f some_ =
      let l = o p id me i inside real s r.lawful here in
      let x = born_is (l.b f) some_ in let y = l.story.births f x.0 x.1 in
      ⊎_elim
      (λ past. inl (let k = y.0 in omega arith))
      (λ now. let w = l.now.is_born now.1 in inr (now.0, now.1, (l.story.births (local s i).word.first ((local s i).word.range, w.0) w.1).0, state_low s l))
      y.1

  seen_behind : (s : State (Maybe C) (View C)) → Ruled p s → get_elem? s.views id ≡ some me.0 → (f : ℕ) → 0 < total (is_made f) (notes_in i me.0) → IsBehind f (local s i).word
  seen_behind s r here f h =
      let l = o p id me i inside real s r.lawful here in
      born_behind s r here f (let a = counted (is_made f) s.views id me.0 here in let b = born_le (l.b f) in let c = l.story.made f in omega arith)

  -- what advanced was made
  advanced_behind : (s : State (Maybe C) (View C)) → Ruled p s → get_elem? s.views id ≡ some me.0 → (f : ℕ) → 0 < total (is_advance f) (notes_in i me.0) → IsBehind f (local s i).word
  advanced_behind s r here f h =
      let l = o p id me i inside real s r.lawful here in
      let a = counted (is_advance f) s.views id me.0 here in let b = born_le (l.b f) in
      dite (ℕ_discrete (born (l.b f)) 0)
      (λ z. absurd (let c = l.story.unborn f z in omega (arith, a, c, h)))
      (λ n. born_behind s r here f (omega (arith, b, n)))

  pub seeing : Allows (Ruled p) slots id me (id_index i) (λ n. n) (see_told (step slots (id_index i) 0 0 none) me)
  seeing s r long here fits = let n : ℕ = get_or s.words (id_index i) 0 in let l = o p id me i inside real s r.lawful here in (
    with_note i (Saw n) me.0,
    keeps,
    tt,
    sees_ruled p id me i inside real s r here,
    λ x at. (
      of_id (λ y. with_note y (Saw n) me.0) x at,
      l.first_some,
      λ f h. let e : i ≡ x = omega arith in seen_behind s r here f (let y = ap (λ (z : ℕ). total (is_made f) (notes_in z me.0)) e in omega arith),
      λ f h. let e : i ≡ x = omega arith in advanced_behind s r here f (let y = ap (λ (z : ℕ). total (is_advance f) (notes_in z me.0)) e in omega arith),
    ),
  )

  pub taking : (t : Token C) → tokens_in i me.0 ≡ t ∷ [] → IsHome (hand_of t) → Allows (Ruled p) slots id me (tag_index i) (λ n. n) (take_told (step slots (tag_index i) 0 0 none) me)
  taking t has ready s r long here fits = let k = takes_ruled p id me i inside real s r here t has ready in (
    with_token i (with_hand t Out) me.0,
    takes i (value_of (hand_of t)),
    k.0,
    k.1,
    λ x u at has'. let e : i ≡ x = omega arith in let q : t ≡ u = which x t u e has has' in λ z. (with_token (e z) (with_hand (q z) Out) me.0, (e z, value_of (hand_of (q z))) ∷ me.1),
  )

  pub giving : (t : Token C) (y : Maybe C) (rest : List (ℕ × Maybe C)) → tokens_in i me.0 ≡ t ∷ [] → hand_of t ≡ Out → NotLeaving t → Fitting t (hand_by y) → me.1 ≡ (i, y) ∷ rest
      → Allows (Ruled p) slots id me (tag_index i) (λ n. n) (give_told (step slots (tag_index i) 0 0 none) me)
  giving t y rest has out n fit carried s r long here fits = (
    with_token i (with_hand t (hand_by y)) me.0,
    gives,
    tt,
    gives_ruled p id me i inside real s r here t y rest has out n fit carried,
    λ x u y' rest' at has' carried'. let e : i ≡ x = omega arith in let q : t ≡ u = which x t u e has has' in let c : (i, y) ∷ rest ≡ (x, y') ∷ rest' = sym carried ∙ carried' in let yy : y ≡ y' = ap (top y) c in let r₀ : rest ≡ rest' = cc in let rr : Rattle.atomic_table.specs.Table.rest me.1 ≡ rest' = ap Rattle.atomic_table.specs.Table.rest carried ∙ r₀ in
        λ z. (with_token (e z) (with_hand (q z) (hand_by (yy z))) me.0, rr z),
  )

  pub making : (f n : ℕ) (c : C) → tokens_in i me.0 ≡ Claimed f (Full c) ∷ [] → f ≢ 0 → parts n ≡ made_word f (parts n).range → 2 ≤ (parts n).range → (parts n).range ≤ 8 → Allows (Ruled p) slots id me (id_index i) (λ _. n) (λ _. make_told (step slots (id_index i) n 0 none) me n)
  making f n c has some_first is low high s r long here fits = (
    with_note i (Made f (parts n).range c) (no_token i me.0),
    keeps,
    tt,
    makes_ruled p id me i inside real s r here f n c has some_first is low high,
    λ x g d at has'. let e : i ≡ x = omega arith in let q : Claimed f (Full c) ≡ Claimed g (Full d) = which x (Claimed f (Full c)) (Claimed g (Full d)) e has has' in let ff : f ≡ g = cc in let dd : c ≡ d = cc in
        λ z. (with_note (e z) (Made (ff z) (parts n).range (dd z)) (no_token (e z) me.0), me.1),
  )

  -- no word that the seat had found has a later range than the slot's word now
  none_later : (s : State (Maybe C) (View C)) → Ruled p s → get_elem? s.views id ≡ some me.0 → FoundUpTo i (local s i).word.first me.0
  none_later s r here w saw =
      let l = o p id me i inside real s r.lawful here in
      let k = total_some (is_saw w) (local s i).notes (let a = counted (is_saw w) s.views id me.0 here in omega (arith, a, saw)) in
      let fit = each_at (NoteFits l.b (local s i).word.first (local s i).notes) (local s i).notes k.0 (Saw w) l.story.fits (k.2 ∙ ap some (saw_of w k.1 k.3)) in
      fit.not_later

  none_later_at : (s : State (Maybe C) (View C)) → Ruled p s → get_elem? s.views id ≡ some me.0 → (x : ℕ) → id_index i ≡ id_index x → FoundUpTo x (local s i).word.first me.0
  none_later_at s r here x at = let e : i ≡ x = omega arith in subst (λ (y : ℕ). FoundUpTo y (local s i).word.first me.0) e (none_later s r here)

  -- and to no later attempt than that of an open word had it noted that its range advanced
  none_beyond : (s : State (Maybe C) (View C)) → Ruled p s → get_elem? s.views id ≡ some me.0 → (local s i).word.state ≡ 1 → ReachedUpTo i (local s i).word.first (local s i).word.attempt me.0
  none_beyond s r here open_ m some_ = by its.stands
    where
      its : SlotLaw (local s i)
      its = o p id me i inside real s r.lawful here

      live : (c : C) → Live its.b (local s i) c → m ≤ (local s i).word.attempt
      live c v = dite (dec_lt (local s i).word.attempt m)
          (λ lt. absurd (let a = v.beyond m lt in let b = counted (is_attempt (local s i).word.first m) s.views id me.0 here in omega (arith, a, b, some_)))
          (λ ge. omega (arith, ge))

      by : Stands its.b (local s i) → m ≤ (local s i).word.attempt
      by (vacant a b z d e) = absurd (omega (arith, z, open_))
      by (retired a b z d e) = absurd (omega (arith, z, open_))
      by (claimed seen h a b z d e f) = absurd (omega (arith, z, open_))
      by (opened c a z v d e f) = live c v
      by (locked c q t h a z v d e f) = absurd (omega (arith, z, open_))
      by (leaving a b z d e) = absurd (omega (arith, z, open_))

  none_beyond_at : (s : State (Maybe C) (View C)) → Ruled p s → get_elem? s.views id ≡ some me.0 → (local s i).word.state ≡ 1 → (x : ℕ) → id_index i ≡ id_index x → ReachedUpTo x (local s i).word.first (local s i).word.attempt me.0
  none_beyond_at s r here open_ x at = let e : i ≡ x = omega arith in subst (λ (y : ℕ). ReachedUpTo y (local s i).word.first (local s i).word.attempt me.0) e (none_beyond s r here open_)

  abbrev After : State (Maybe C) (View C) → ℕ → View C → Type 0
  After s n w = Ruled p (stepped s (id_index i) n id me.1 w keeps)

  pub locking : (old new : ℕ) → (parts old).state ≡ 1 → parts new ≡ locked_word (parts old) → Allows (Ruled p) slots id me (id_index i) (λ n. either (eqb n old) new n) (lock_told (step slots (id_index i) old new none) me)
  locking old new one is s r long here fits = let found : ℕ = get_or s.words (id_index i) 0 in dite (ℕ_discrete found old)
      (λ hit. let same : (local s i).word ≡ parts old = ap parts hit in let k = locks_ruled p id me i inside real s r here new (ap (λ (y : Parts). y.state) same ∙ one) (is ∙ ap locked_word (sym same)) in let w : View C = locked_view i (parts found).first (parts found).range (parts found).attempt k.0 me.0 in (
        w,
        keeps,
        tt,
        subst (λ b. After s (either b new found) w) (sym (eq-eqb found old hit)) k.3,
        λ x at. ((λ z. (k.0, of_id (λ y. locked_view y (parts found).first (parts found).range (parts found).attempt k.0 me.0) x at, k.1, k.2, none_later_at s r here x at, none_beyond_at s r here (ap (λ (y : Parts). y.state) same ∙ one) x at)), (λ n. absurd (n hit))),
      ))
      (λ miss. let w : View C = with_note i (Saw found) me.0 in (
        w,
        keeps,
        tt,
        subst (λ b. After s (either b new found) w) (sym (ne_eqb found old miss)) (sees_ruled p id me i inside real s r here),
        λ x at. ((λ z. absurd (miss z)), (λ n. of_id (λ y. with_note y (Saw found) me.0) x at)),
      ))

  pub queueing : (old new e : ℕ) → (parts old).state ≡ 2 → (parts old).second ≡ 0 → e ≢ 0 → IsFresh (parts old).attempt e → parts new ≡ queued_word (parts old) e → Allows (Ruled p) slots id me (id_index i) (λ n. either (eqb n old) new n) (queue_told (step slots (id_index i) old new none) me)
  queueing old new e two room some_error timely is s r long here fits = let found : ℕ = get_or s.words (id_index i) 0 in dite (ℕ_discrete found old)
      (λ hit. let same : (local s i).word ≡ parts old = ap parts hit in let w : View C = with_note i (Queued (parts found).first e) me.0 in
      let ee : e ≡ put_error (parts old) (parts new) = sym (put_is (parts old) e) ∙ ap (put_error (parts old)) (sym is) in (
        w,
        keeps,
        tt,
        subst (λ b. After s (either b new found) w) (sym (eq-eqb found old hit))
            (queues_ruled p id me i inside real s r here new e (ap (λ (y : Parts). y.state) same ∙ two) (ap (λ (y : Parts). y.second) same ∙ room) some_error (subst (λ (y : Parts). IsFresh y.attempt e) (sym same) timely) (is ∙ ap (λ (y : Parts). queued_word y e) (sym same))),
        λ x at. ((λ z. (of_id (λ y. with_note y (Queued (parts found).first e) me.0) x at ∙ ap (λ (k : ℕ). (with_note x (Queued (parts found).first k) me.0, me.1)) ee, none_later_at s r here x at)), (λ n. absurd (n hit))),
      ))
      (λ miss. let w : View C = with_note i (Saw found) me.0 in (
        w,
        keeps,
        tt,
        subst (λ b. After s (either b new found) w) (sym (ne_eqb found old miss)) (sees_ruled p id me i inside real s r here),
        λ x at. ((λ z. absurd (miss z)), (λ n. of_id (λ y. with_note y (Saw found) me.0) x at)),
      ))

  -- more is 1 with an advance, and 0 without
  pub unlocking : (f rg att q r : ℕ) (c : C) → tokens_in i me.0 ≡ Locked f rg att c q r (Full c) ∷ [] → (old new more : ℕ) → parts new ≡ unlocked_word (parts old) more → (more ≡ 0) ⊎ ((more ≡ 1) × ((parts old).attempt + 3 ≤ (parts old).range))
      → Allows (Ruled p) slots id me (id_index i) (λ n. either (eqb n old) new n) (unlock_told (step slots (id_index i) old new none) me)
  unlocking f rg att q r c has old new more is which_more s ru long here fits =
      let found : ℕ = get_or s.words (id_index i) 0 in let w₀ : Parts = (local s i).word in let k = known p id me i inside real s ru.lawful here f rg att q r c has in dite (ℕ_discrete found old)
      (λ hit. let same : w₀ ≡ parts old = ap parts hit in let v₁ : View C = with_note i (Saw found) me.0 in let base : View C = popped_view i f rg (parts new).attempt c w₀.oldest w₀.second v₁ in
      let is' : parts new ≡ unlocked_word w₀ more = is ∙ ap (λ (y : Parts). unlocked_word y more) (sym same) in
      let to : (parts new).attempt ≡ (parts old).attempt + more = ap (λ (y : Parts). y.attempt) is in
      let w : View C = advanced_view i f (parts old).attempt (parts new).attempt base in
      let opens : (w₀.oldest ≡ 0 → parts new ≡ open_word w₀ more) × (w₀.oldest ≢ 0 → parts new ≡ popped_word w₀ more) = ((λ z. is' ∙ opened_is w₀ more z (k.begins.2 z)), (λ n. is' ∙ popped_is w₀ more n)) in
      let att' : w₀.attempt ≡ (parts old).attempt = ap (λ (y : Parts). y.attempt) same in
      let view_at : ℕ → View C = λ m. popped_view i f rg m c w₀.oldest w₀.second v₁ in
      let law' : After s new w = ⊎_elim
      (λ z. subst (λ b. After s new (cond b base (with_note i (Attempt f (parts new).attempt) base))) (sym (eq-eqb (parts old).attempt (parts new).attempt (omega arith)))
      (let m : w₀.attempt + 0 ≡ (parts new).attempt = omega arith in subst (λ (y : ℕ). After s new (view_at y)) m
      (unlocks_ruled p id me i inside real s ru here f rg att q r c has new (subst (λ (m : ℕ). (w₀.oldest ≡ 0 → parts new ≡ open_word w₀ m) × (w₀.oldest ≢ 0 → parts new ≡ popped_word w₀ m)) z opens))))
      (λ z. let u = z.0 in let one : w₀.attempt + 1 ≡ (parts new).attempt = omega arith in let rm : w₀.attempt + 3 ≤ w₀.range = subst (λ (y : Parts). y.attempt + 3 ≤ y.range) (sym same) z.1 in
      subst (λ b. After s new (cond b base (with_note i (Attempt f (parts new).attempt) base))) (sym (ne_eqb (parts old).attempt (parts new).attempt (λ y. omega arith)))
      (subst (λ (m : ℕ). After s new (with_note i (Attempt f m) (view_at m))) one
      (advances_ruled p id me i inside real s ru here f rg att q r c has new rm (subst (λ (m : ℕ). (w₀.oldest ≡ 0 → parts new ≡ open_word w₀ m) × (w₀.oldest ≢ 0 → parts new ≡ popped_word w₀ m)) z.0 opens))))
      which_more in (
        w,
        keeps,
        tt,
        subst (λ b. After s (either b new found) w) (sym (eq-eqb found old hit)) law',
        λ x f' rg' att' q' r' d at has'. let e : i ≡ x = omega arith in let t : Locked f rg att c q r (Full c) ≡ Locked f' rg' att' d q' r' (Full d) = which x (Locked f rg att c q r (Full c)) (Locked f' rg' att' d q' r' (Full d)) e has has' in
            let ff : f ≡ f' = cc in let gg : rg ≡ rg' = cc in let aa : att ≡ att' = cc in let qq : q ≡ q' = cc in let sr : r ≡ r' = cc in let dd : c ≡ d = cc in
            ((λ z. λ y. (advanced_view (e y) (ff y) (parts old).attempt (parts new).attempt (popped_view (e y) (ff y) (gg y) (parts new).attempt (dd y) w₀.oldest w₀.second (with_note (e y) (Saw found) me.0)), me.1)), (λ n. absurd (n hit))),
      ))
      (λ miss. let w : View C = with_token i (Locked f rg att c w₀.oldest w₀.second (Full c)) me.0 in (
        w,
        keeps,
        tt,
        subst (λ b. After s (either b new found) w) (sym (ne_eqb found old miss)) (relocks_ruled p id me i inside real s ru here f rg att q r c has),
        λ x f' rg' att' q' r' d at has'. let e : i ≡ x = omega arith in let t : Locked f rg att c q r (Full c) ≡ Locked f' rg' att' d q' r' (Full d) = which x (Locked f rg att c q r (Full c)) (Locked f' rg' att' d q' r' (Full d)) e has has' in
            let ff : f ≡ f' = cc in let gg : rg ≡ rg' = cc in let aa : att ≡ att' = cc in let qq : q ≡ q' = cc in let sr : r ≡ r' = cc in let dd : c ≡ d = cc in (
              (λ z. absurd (miss z)),
              (λ n. (
                (λ y. (with_token (e y) (Locked (ff y) (gg y) (aa y) (dd y) w₀.oldest w₀.second (Full (dd y))) me.0, me.1)),
                record { first_is = sym ff ∙ k.first_is; state_is = k.locked_is; range_is = sym gg ∙ k.range_is; attempt_is = sym aa ∙ k.attempt_is; begins = ((λ z. k.begins.0 (λ y. z (sym qq ∙ y)) ∙ qq), (λ z. k.begins.1 (λ y. z (sym sr ∙ y)) ∙ sr), k.begins.2) },
                subst (FreshBehind w₀) t (behind p id me i inside real s ru here f rg att q r c has),
              )),
            ),
      ))

  pub ending : (f rg att q r : ℕ) (c : C) → tokens_in i me.0 ≡ Locked f rg att c q r Empty ∷ [] → (n : ℕ) → parts n ≡ free_word (f + rg) → Allows (Ruled p) slots id me (id_index i) (λ _. n) (end_told (step slots (id_index i) n 0 none) me)
  ending f rg att q r c has n is s ru long here fits =
      let k = is_lock (local s i) (o p id me i inside real s ru.lawful here) f rg att c q r Empty (own p id me i inside real s ru.lawful here (Locked f rg att c q r Empty) has) in
      let next : f + rg ≡ (local s i).word.first + (local s i).word.range = (let a = k.first_is in let b = k.range_is in omega arith) in
      let to : (parts n).first ≡ (local s i).word.first + (local s i).word.range = ap (λ (y : Parts). y.first) is ∙ next in (
        ended_view i f att (parts n).first me.0,
        keeps,
        tt,
        subst (λ (y : ℕ). After s n (ended_view i f att y me.0)) (sym to) (ends_ruled p id me i inside real s ru here f rg att q r c has n (is ∙ ap free_word next)),
        λ x f' rg' att' q' r' d at has'. let e : i ≡ x = omega arith in let t : Locked f rg att c q r Empty ≡ Locked f' rg' att' d q' r' Empty = which x (Locked f rg att c q r Empty) (Locked f' rg' att' d q' r' Empty) e has has' in let ff : f ≡ f' = cc in let same : att ≡ att' = cc in
            λ y. (ended_view (e y) (ff y) (same y) (parts n).first me.0, me.1),
      )

  pub freeing : tokens_in i me.0 ≡ Leaving ∷ [] → Allows (Ruled p) slots id me (tag_index i) (λ _. 0) (λ _. free_told (step slots (tag_index i) 0 0 none) me 0)
  freeing has s r long here fits = (no_token i me.0, keeps, tt, frees_ruled p id me i inside real s r here has, λ x at. of_tag (λ y. no_token y me.0) x at)

pub queued_is : (w : Parts) (e : ℕ) → w.state ≡ 2 → posted_word w e ≡ queued_word w e
queued_is w e two = ap (λ b. cond b (locked_word w) record { first = w.first; state = 2; range = w.range; attempt = w.attempt; oldest = cond (eqb w.oldest 0) e w.oldest; second = cond (eqb w.oldest 0) 0 e }) (ne_eqb w.state 1 (λ z. omega arith))
    ∙ λ k. record { first = w.first; state = sym two k; range = w.range; attempt = w.attempt; oldest = cond (eqb w.oldest 0) e w.oldest; second = cond (eqb w.oldest 0) 0 e }

pub posted_is : (w : Parts) (e : ℕ) → w.state ≡ 1 → posted_word w e ≡ locked_word w
posted_is w e one = ap (λ b. cond b (locked_word w) record { first = w.first; state = 2; range = w.range; attempt = w.attempt; oldest = cond (eqb w.oldest 0) e w.oldest; second = cond (eqb w.oldest 0) 0 e }) (eq-eqb w.state 1 one)

module _ {C : Type 0} (p : Plan) (slots id : ℕ) (me : Me (Maybe C) (View C)) (x : ℕ) (high : 2 * p.slots ≤ x) (inside : x < all_words p) (real : 0 < me.0.share) where
  pub storing : (n : ℕ) → n ≢ 0 → (x % 2 ≡ 0 → 0 < total (is_made (id_first n)) (notes_of (id_slot n) me.0.notes)) → Allows (Ruled p) slots id me x (λ _. n) (λ _. store_told (step slots x n 0 none) me n)
  storing n some_word made s r long here fits = (with_kept x true n me.0, keeps, tt, stores_ruled p id me x high inside real s r here n some_word made, refl)

  pub loading : Allows (Ruled p) slots id me x (λ n. n) (load_told (step slots x 0 0 none) me)
  loading s r long here fits = (found_view x (get_or s.words x 0) me.0, keeps, tt, finds_ruled p id me x high inside real s r here, (refl, kept_stays p id me x high inside real s r here))
