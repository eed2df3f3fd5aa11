-- Each kind of step keeps the law of the slot that it names.
use Rattle.std.proofs.Common.{◌≡◌, ◌≢◌, ℕ, ◌+◌, ◌<◌, ◌≤◌, ◌⊎◌, inl, inr, ⊎_elim, cond, eqb, eq-eqb, ne_eqb, List, [], ◌∷◌, sym, refl, ap, ◌∙◌, subst, arith}
use Rattle.std.specs.Prelude.{Option as Maybe}
use mathlib.Core.Logic.{dite}
use mathlib.Core.Option.{Option, some}
use native.Mathlib.Decide.{ℕ_discrete}
use Rattle.corr_core.specs.IdSlotWord.{Parts, parts, made_word, locked_word, free_word}
use Rattle.corr_core.specs.declared.marks.Hand.{Hand}
use Rattle.corr_core.specs.declared.marks.Hand.TheVariants.{Empty, Full}
use Rattle.corr_core.specs.declared.marks.Token.{Token}
use Rattle.corr_core.specs.declared.marks.Token.TheVariants.{Claimed, Locked, Leaving}
use Rattle.corr_core.specs.declared.marks.Note.{Note}
use Rattle.corr_core.specs.declared.marks.Note.TheVariants.{Tried, Made, Ended, Locker, Queued, Attempt, Saw}
use Rattle.corr_core.specs.IdSlotLaw.{born, LAST, is_tried, is_any_made, is_locker, is_queued, is_advance, is_attempt, is_claim, Local, Births, Begins, SawFits, Story, Live, HomeIs, Holds, Stands, vacant, retired, claimed, opened, locked, leaving, SlotLaw}
use Rattle.corr_core.proofs.NoteSums.{only-same, pair-at, pair-same, pair-else, Inserted, total_insert}
use Rattle.corr_core.proofs.SlotRangeStories.{born_some, born_none, upd, upd-same, Grows, grown, saw_grows, Neutral, attempts_le, story_note, story_state, not_yet, story_made, story_ended, story_attempt}
use Rattle.sock_words.specs.Totals.{total}

-- one more error behind those that are queued
abbrev pub queued_word : Parts → ℕ → Parts
queued_word p e = record { first = p.first; state = p.state; range = p.range; attempt = p.attempt; oldest = cond (eqb p.oldest 0) e p.oldest; second = cond (eqb p.oldest 0) 0 e }

-- open, or with the second error as the oldest
abbrev pub open_word : Parts → ℕ → Parts
open_word p more = record { first = p.first; state = 1; range = p.range; attempt = p.attempt + more; oldest = 0; second = 0 }

abbrev pub popped_word : Parts → ℕ → Parts
popped_word p more = record { first = p.first; state = 2; range = p.range; attempt = p.attempt + more; oldest = p.second; second = 0 }

module _ {C : Type 0} where
  neutral_tried : Neutral {C = C} Tried
  neutral_tried = record { no_make = λ g. refl; no_end = λ g. refl; no_advance = λ g. refl }

  neutral_locker : (f : ℕ) (c : C) → Neutral (Locker f c)
  neutral_locker f c = record { no_make = λ g. refl; no_end = λ g. refl; no_advance = λ g. refl }

  neutral_queued : (f e : ℕ) → Neutral {C = C} (Queued f e)
  neutral_queued f e = record { no_make = λ g. refl; no_end = λ g. refl; no_advance = λ g. refl }

  neutral_saw : (w : ℕ) → Neutral {C = C} (Saw w)
  neutral_saw w = record { no_make = λ g. refl; no_end = λ g. refl; no_advance = λ g. refl }

  -- the one token of a slot
  pub same_token : (ts : List (Token C)) (x y : Token C) → ts ≡ x ∷ [] → ts ≡ y ∷ [] → x ≡ y
  same_token ts x y e f = let h : x ∷ [] ≡ y ∷ [] = sym e ∙ f in cc

  pub no_token : (ts : List (Token C)) (x : Token C) → ts ≡ x ∷ [] → ts ≡ [] → ⊥
  no_token ts x e f = let h : x ∷ [] ≡ [] = sym e ∙ f in cc

  live_more : (b : Births C) (l : Local C) (c : C) (ns' : List (Note C)) → ((n : ℕ) → total (is_attempt l.word.first n) ns' ≡ total (is_attempt l.word.first n) l.notes) → (state o s : ℕ) (h : Option (Option (Maybe C))) (ts : List (Token C)) → Live b l c
      → Live b record { tag = l.tag; word = record { first = l.word.first; state = state; range = l.word.range; attempt = l.word.attempt; oldest = o; second = s }; home = h; tokens = ts; notes = ns' } c
  live_more b l c ns' same state o s h ts v = record { taken = v.taken; low = v.low; range_low = v.range_low; range_high = v.range_high; room = v.room; content = v.content; beyond = λ n lt. same n ∙ v.beyond n lt; reached = λ n p le. let a = v.reached n p le in let z = same n in omega arith }

  no_attempt : {ns ns' : List (Note C)} {x : Note C} → Inserted ns ns' x → ((f n : ℕ) → is_attempt f n x ≡ 0) → (f n : ℕ) → total (is_attempt f n) ns' ≡ total (is_attempt f n) ns
  no_attempt i z f n = let y = z f n in omega (arith, total_insert i (is_attempt f n))

  module _ (l : Local C) (o : SlotLaw l) where
    abbrev w : Parts
    w = l.word

    abbrev f : ℕ
    f = l.word.first

    pub tag_is : (l.tag ≡ 0) ⊎ (l.tag ≡ 1)
    tag_is = elim o.stands [
      | vacant t g s u h ↦ inl g
      | retired t g s u h ↦ inr g
      | claimed seen h t g s u k q ↦ inr g
      | opened c t s v p q h ↦ inr v.taken
      | locked c p q h t s v z y k ↦ inr v.taken
      | leaving t g s u h ↦ inr g
    ]

    -- a note that leaves word, home and tokens
    pub stands_more : (ns' : List (Note C)) → ((n : ℕ) → total (is_attempt f n) ns' ≡ total (is_attempt f n) l.notes) → (b : Births C) → Stands b l → Stands b record { tag = l.tag; word = w; home = l.home; tokens = l.tokens; notes = ns' }
    stands_more ns' same b (vacant t g s u h) = vacant t g s u h
    stands_more ns' same b (retired t g s u h) = retired t g s u h
    stands_more ns' same b (claimed seen h t g s u k q) = claimed seen h t g s u k q
    stands_more ns' same b (opened c t s v p q h) = opened c t s (live_more b l c ns' same w.state w.oldest w.second l.home l.tokens v) p q h
    stands_more ns' same b (locked c p q h t s v z y k) = locked c p q h t s (live_more b l c ns' same w.state w.oldest w.second l.home l.tokens v) z y k
    stands_more ns' same b (leaving t g s u h) = leaving t g s u h

    -- I1, where the tag was found taken
    pub tries : (ns' : List (Note C)) → 0 < l.tag → Inserted l.notes ns' Tried → SlotLaw record { tag = 1; word = w; home = l.home; tokens = l.tokens; notes = ns' }
    tries ns' some_tag i =
        let one : l.tag ≡ 1 = ⊎_elim (λ z. absurd (omega arith)) (λ e. e) tag_is in
        subst (λ (k : ℕ). SlotLaw record { tag = k; word = w; home = l.home; tokens = l.tokens; notes = ns' }) one record {
          b = o.b;
          first_some = o.first_some;
          first_low = o.first_low;
          story = story_note o.story ns' Tried i tt neutral_tried;
          now = saw_grows o.b o.b f f l.notes ns' w (omega arith) (λ g x e. e) (grown i) o.now;
          stands = stands_more ns' (no_attempt i (λ g n. refl) f) o.b o.stands;
          used = λ h. let a = o.used (omega arith) in omega (arith, total_insert i is_any_made);
        }

    -- I1, where 0 was found
    pub no_tokens : l.tag ≡ 0 → l.tokens ≡ []
    no_tokens z = elim o.stands [
      | vacant t g s u h ↦ t
      | retired t g s u h ↦ t
      | claimed seen h t g s u k q ↦ absurd (omega arith)
      | opened c t s v p q h ↦ t
      | locked c p q h t s v z' y k ↦ (let g = v.taken in absurd (omega arith))
      | leaving t g s u h ↦ absurd (omega arith)
    ]

    pub claims : l.tag ≡ 0 → SlotLaw record { tag = 1; word = w; home = l.home; tokens = Claimed 0 Empty ∷ []; notes = l.notes }
    claims z =
        let l' : Local C = record { tag = 1; word = w; home = l.home; tokens = Claimed 0 Empty ∷ []; notes = l.notes } in
        let go : Stands o.b l' = elim o.stands [
          | vacant t g s u h ↦ claimed 0 Empty refl refl s u (λ n. absurd (n refl)) h
          | retired t g s u h ↦ absurd (omega arith)
          | claimed seen h t g s u k q ↦ absurd (omega arith)
          | opened c t s v p q h ↦ (let g = v.taken in absurd (omega arith))
          | locked c p q h t s v z' y k ↦ (let g = v.taken in absurd (omega arith))
          | leaving t g s u h ↦ absurd (omega arith)
        ] in record { b = o.b; first_some = o.first_some; first_low = o.first_low; story = o.story; now = o.now; stands = go; used = λ h. omega arith }

    -- I7 and failed exchanges
    pub sees : (n : ℕ) (ns' : List (Note C)) → parts n ≡ w → Inserted l.notes ns' (Saw n) → SlotLaw record { tag = l.tag; word = w; home = l.home; tokens = l.tokens; notes = ns' }
    sees n ns' is i =
        let now' = saw_grows o.b o.b f f l.notes ns' w (omega arith) (λ g x e. e) (grown i) o.now in record {
          b = o.b;
          first_some = o.first_some;
          first_low = o.first_low;
          story = story_note o.story ns' (Saw n) i (subst (λ (y : Parts). SawFits o.b f ns' y) (sym is) now') (neutral_saw n);
          now = now';
          stands = stands_more ns' (no_attempt i (λ g m. refl) f) o.b o.stands;
          used = λ h. let a = o.used (omega (arith, total_insert i is_tried)) in omega (arith, total_insert i is_any_made);
        }

    record IsClaim (seen : ℕ) (h : Hand C) : Type 0 where
      tag_one : l.tag ≡ 1
      free : w.state ≡ 0
      low : f ≤ LAST
      seen_is : seen ≢ 0 → seen ≡ f
      home : HomeIs h l.home

    is_claim_at : (seen : ℕ) (h : Hand C) → l.tokens ≡ Claimed seen h ∷ [] → IsClaim seen h
    is_claim_at seen h has = elim o.stands [
      | vacant t g s u k ↦ absurd (no_token l.tokens (Claimed seen h) has t)
      | retired t g s u k ↦ absurd (no_token l.tokens (Claimed seen h) has t)
      | claimed seen' h' t g s u k q ↦ (let e : Claimed seen' h' ≡ Claimed seen h = same_token l.tokens (Claimed seen' h') (Claimed seen h) t has in
          let e0 : seen' ≡ seen = cc in let e1 : h' ≡ h = cc in record { tag_one = g; free = s; low = u; seen_is = subst (λ (y : ℕ). y ≢ 0 → y ≡ f) e0 k; home = subst (λ (y : Hand C). HomeIs y l.home) e1 q })
      | opened c t s v p q k ↦ absurd (no_token l.tokens (Claimed seen h) has t)
      | locked c p q k t s v z y u ↦ (let e : Locked f w.range w.attempt c p q k ≡ Claimed seen h = same_token l.tokens (Locked f w.range w.attempt c p q k) (Claimed seen h) t has in cc)
      | leaving t g s u k ↦ (let e : Leaving ≡ Claimed seen h = same_token l.tokens Leaving (Claimed seen h) t has in cc)
    ]

    -- the holder of the claim reads the first version, or a turn of the slot changes hands
    pub reclaims : (seen : ℕ) (h : Hand C) → l.tokens ≡ Claimed seen h ∷ [] → (seen' : ℕ) (h' : Hand C) (home' : Option (Option (Maybe C))) → (seen' ≢ 0 → seen' ≡ f) → HomeIs h' home'
        → SlotLaw record { tag = l.tag; word = w; home = home'; tokens = Claimed seen' h' ∷ []; notes = l.notes }
    reclaims seen h has seen' h' home' is_first is_home = let k = is_claim_at seen h has in record {
      b = o.b;
      first_some = o.first_some;
      first_low = o.first_low;
      story = o.story;
      now = o.now;
      stands = claimed seen' h' refl k.tag_one k.free k.low is_first is_home;
      used = λ z. omega arith;
    }

    -- what the holder of a claim knows
    pub claim_home : (seen : ℕ) (h : Hand C) → l.tokens ≡ Claimed seen h ∷ [] → (HomeIs h l.home) × (seen ≢ 0 → seen ≡ f) × (f ≤ LAST)
    claim_home seen h has = let k = is_claim_at seen h has in (k.home, k.seen_is, k.low)

    -- I2
    pub makes : (r : ℕ) (c : C) (ns' : List (Note C)) → l.tokens ≡ Claimed f (Full c) ∷ [] → 2 ≤ r → r ≤ 8 → Inserted l.notes ns' (Made f r c) → SlotLaw record { tag = l.tag; word = made_word f r; home = l.home; tokens = []; notes = ns' }
    makes r c ns' has low high i =
        let k = is_claim_at f (Full c) has in let b' : Births C = upd f (some (r, c)) o.b in
        let here : b' f ≡ some (r, c) = upd-same f (some (r, c)) o.b in
        let zero_here : born (o.b f) ≡ 0 = born_none (o.b f) (not_yet o.story f (inr (refl, k.free))) in
        let none_yet = o.story.unborn f zero_here in record {
          b = b';
          first_some = o.first_some;
          first_low = o.first_low;
          story = story_made o.story k.free 1 r c ns' (omega arith) (omega arith) i;
          now = record { not_later = omega arith; is_born = λ s. (c, here); was_locked = λ s. absurd (omega arith); advanced = λ s. omega arith; oldest_by = λ s n. absurd (n refl); second_by = λ s n. absurd (n refl) };
          stands = opened c refl refl
              record {
                taken = k.tag_one;
                low = k.low;
                range_low = low;
                range_high = high;
                room = omega arith;
                content = here;
                beyond = λ n lt. let a = attempts_le f n l.notes in let z = no_attempt i (λ g m. refl) f n in omega arith;
                reached = λ n p le. absurd (omega arith);
              }
              refl refl k.home;
          used = λ z. omega (arith, total_insert i is_any_made);
        }

    -- I3, and I4 on an open id
    pub locks : w.state ≡ 1 → (c : C) × (l.tokens ≡ []) × Live o.b l c × ((w.oldest ≡ 0) × (w.second ≡ 0)) × ((ns' : List (Note C)) → Inserted l.notes ns' (Locker f c) → SlotLaw record { tag = l.tag; word = locked_word w; home = l.home; tokens = Locked f w.range w.attempt c 0 0 (Full c) ∷ []; notes = ns' })
    locks one = elim o.stands [
      | vacant t g s u k ↦ absurd (omega arith)
      | retired t g s u k ↦ absurd (omega arith)
      | claimed seen' h' t g s u k q ↦ absurd (omega arith)
      | opened c t s v p q k ↦ (
        c,
        t,
        v,
        (p, q),
        λ ns' i. let seen = o.now in record {
          b = o.b;
          first_some = o.first_some;
          first_low = o.first_low;
          story = story_state (story_note o.story ns' (Locker f c) i (w.range, v.content) (neutral_locker f c)) 2 (λ z. omega arith);
          now = record {
            not_later = omega arith;
            is_born = λ z. seen.is_born (omega arith);
            was_locked = λ z. let u = only-same f in omega (arith, total_insert i (is_locker f));
            advanced = λ z. let u = seen.advanced (omega arith) in omega (arith, total_insert i (is_advance f));
            oldest_by = λ z n. absurd (n p);
            second_by = λ z n. absurd (n q);
          };
          stands = locked c 0 0 (Full c) refl refl (live_more o.b l c ns' (no_attempt i (λ g m. refl) f) 2 w.oldest w.second l.home (Locked f w.range w.attempt c 0 0 (Full c) ∷ []) v) ((λ n. absurd (n refl)), (λ n. absurd (n refl)), (λ z. q)) k refl;
          used = λ z. let y = v.taken in let a = o.used (omega arith) in let e = ap (total is_claim) t in omega (arith, total_insert i is_any_made);
        },
      )
      | locked c p q k t s v z y u ↦ absurd (omega arith)
      | leaving t g s u k ↦ absurd (omega arith)
    ]

    -- I4 on a locked id
    pub queues : (e : ℕ) (ns' : List (Note C)) → w.state ≡ 2 → w.second ≡ 0 → e ≢ 0 → Inserted l.notes ns' (Queued f e) → SlotLaw record { tag = l.tag; word = queued_word w e; home = l.home; tokens = l.tokens; notes = ns' }
    queues e ns' two room some_error i =
        let seen = o.now in let is_born = seen.is_born (omega arith) in let once_made : born (o.b f) ≡ 1 = born_some (o.b f) (w.range, is_born.0) is_born.1 in
        let l' : Local C = record { tag = l.tag; word = queued_word w e; home = l.home; tokens = l.tokens; notes = ns' } in
        let own : 0 < total (is_queued f e) ns' = (let u = pair-same f e in omega (arith, total_insert i (is_queued f e))) in
        let first_oldest : w.oldest ≡ 0 → ((queued_word w e).oldest ≡ e) × ((queued_word w e).second ≡ 0) = λ z. (ap (λ y. cond y e w.oldest) (eq-eqb w.oldest 0 z), ap (λ y. cond y 0 e) (eq-eqb w.oldest 0 z)) in
        let later : w.oldest ≢ 0 → ((queued_word w e).oldest ≡ w.oldest) × ((queued_word w e).second ≡ e) = λ z. (ap (λ y. cond y e w.oldest) (ne_eqb w.oldest 0 z), ap (λ y. cond y 0 e) (ne_eqb w.oldest 0 z)) in
        let go : Stands o.b l' = elim o.stands [
          | vacant t g s u k ↦ absurd (omega arith)
          | retired t g s u k ↦ absurd (omega arith)
          | claimed seen' h' t g s u k q ↦ absurd (omega arith)
          | opened c t s v p q k ↦ absurd (omega arith)
          | locked c p q k t s v z y u ↦ locked c p q k t s (live_more o.b l c ns' (no_attempt i (λ g m. refl) f) w.state (queued_word w e).oldest (queued_word w e).second l.home l.tokens v) (
            (λ n. let a = z.0 n in (later (λ m. n (sym a ∙ m))).0 ∙ a),
            (λ n. let a = z.1 n in absurd (n (sym a ∙ room))),
            (λ m. dite (ℕ_discrete w.oldest 0) (λ a. (first_oldest a).1) (λ a. absurd (a (sym (later a).0 ∙ m)))),
          )
              y u
          | leaving t g s u k ↦ absurd (omega arith)
        ] in record {
          b = o.b;
          first_some = o.first_some;
          first_low = o.first_low;
          story = story_note o.story ns' (Queued f e) i once_made (neutral_queued f e);
          now = record {
            not_later = omega arith;
            is_born = λ z. is_born;
            was_locked = λ z. let u = seen.was_locked two in omega (arith, total_insert i (is_locker f));
            advanced = λ z. let u = seen.advanced (omega arith) in omega (arith, total_insert i (is_advance f));
            oldest_by = λ z n. dite (ℕ_discrete w.oldest 0)
                (λ a. subst (λ y. 0 < total (is_queued f y) ns') (sym (first_oldest a).0) own)
                (λ a. subst (λ y. 0 < total (is_queued f y) ns') (sym (later a).0) (let u = seen.oldest_by (omega arith) a in omega (arith, total_insert i (is_queued f w.oldest))));
            second_by = λ z n. dite (ℕ_discrete w.oldest 0)
                (λ a. absurd (n (first_oldest a).1))
                (λ a. subst (λ y. 0 < total (is_queued f y) ns') (sym (later a).1) own);
          };
          stands = go;
          used = λ z. let a = o.used (omega (arith, total_insert i is_tried)) in omega (arith, total_insert i is_any_made);
        }

    pub record IsLock (first rg att : ℕ) (c : C) (p s : ℕ) (h : Hand C) : Type 0 where
      pub first_is : first ≡ f
      pub range_is : rg ≡ l.word.range
      pub attempt_is : att ≡ l.word.attempt
      pub locked_is : w.state ≡ 2
      pub live : Live o.b l c
      pub begins : Begins p s w
      pub home : HomeIs h l.home
      pub holds : Holds c h

    pub is_lock : (first rg att : ℕ) (c : C) (p s : ℕ) (h : Hand C) → l.tokens ≡ Locked first rg att c p s h ∷ [] → IsLock first rg att c p s h
    is_lock first rg att c p s h has = elim o.stands [
      | vacant t g z u k ↦ absurd (no_token l.tokens (Locked first rg att c p s h) has t)
      | retired t g z u k ↦ absurd (no_token l.tokens (Locked first rg att c p s h) has t)
      | claimed seen' h' t g z u k q ↦ (let e : Claimed seen' h' ≡ Locked first rg att c p s h = same_token l.tokens (Claimed seen' h') (Locked first rg att c p s h) t has in cc)
      | opened d t z v q r k ↦ absurd (no_token l.tokens (Locked first rg att c p s h) has t)
      | locked d q r k t z v y u m ↦ (let e : Locked f w.range w.attempt d q r k ≡ Locked first rg att c p s h = same_token l.tokens (Locked f w.range w.attempt d q r k) (Locked first rg att c p s h) t has in
          let e0 : f ≡ first = cc in let e5 : w.range ≡ rg = cc in let e6 : w.attempt ≡ att = cc in let e1 : d ≡ c = cc in let e2 : q ≡ p = cc in let e3 : r ≡ s = cc in let e4 : k ≡ h = cc in record {
            first_is = sym e0;
            range_is = sym e5;
            attempt_is = sym e6;
            locked_is = z;
            live = subst (λ (x : C). Live o.b l x) e1 v;
            begins = subst (λ (x : ℕ). Begins x s w) e2 (subst (λ (x : ℕ). Begins q x w) e3 y);
            home = subst (λ (x : Hand C). HomeIs x l.home) e4 u;
            holds = subst (λ (x : Hand C). Holds c x) e4 (subst (λ (x : C). Holds x k) e1 m);
          })
      | leaving t g z u k ↦ (let e : Leaving ≡ Locked first rg att c p s h = same_token l.tokens Leaving (Locked first rg att c p s h) t has in cc)
    ]

    -- K1, K2 of a locked id, and a failed I5, which found more errors
    pub relocks : (first rg att : ℕ) (c : C) (p s : ℕ) (h : Hand C) → l.tokens ≡ Locked first rg att c p s h ∷ [] → (p' s' : ℕ) (h' : Hand C) (home' : Option (Option (Maybe C))) → (p' ≢ 0 → w.oldest ≡ p') → (s' ≢ 0 → w.second ≡ s') → HomeIs h' home' → Holds c h'
        → SlotLaw record { tag = l.tag; word = w; home = home'; tokens = Locked first rg att c p' s' h' ∷ []; notes = l.notes }
    relocks first rg att c p s h has p' s' h' home' oldest_is second_is is_home holds = let k = is_lock first rg att c p s h has in record {
      b = o.b;
      first_some = o.first_some;
      first_low = o.first_low;
      story = o.story;
      now = o.now;
      stands = locked c p' s' h' (λ z. Locked (k.first_is z) (k.range_is z) (k.attempt_is z) c p' s' h' ∷ []) k.locked_is (live_more o.b l c l.notes (λ n. refl) w.state w.oldest w.second home' (Locked first rg att c p' s' h' ∷ []) k.live) (oldest_is, second_is, k.begins.2) is_home holds;
      used = λ z. let a = o.used z in let e = ap (total is_claim) has in omega arith;
    }

    -- what I5 does to the notes: nothing, or one advance
    pub record Advances (more : ℕ) (ns' : List (Note C)) : Type 0 where
      pub story' : Story o.b f w.state ns'
      pub room' : w.attempt + more + 2 ≤ w.range
      pub beyond' : (n : ℕ) → w.attempt + more < n → total (is_attempt f n) ns' ≡ 0
      pub reached' : (n : ℕ) → 0 < n → n ≤ w.attempt + more → 0 < total (is_attempt f n) ns'
      pub advanced' : w.attempt + more ≤ total (is_advance f) ns'
      pub grows' : Grows l.notes ns'
      pub tried' : total is_tried ns' ≡ total is_tried l.notes

    pub stays : (c : C) → 0 < w.state → Live o.b l c → Advances 0 l.notes
    stays c some_state v = record { story' = o.story; room' = (let a = v.room in omega arith); beyond' = λ n lt. v.beyond n (omega arith); reached' = λ n p le. v.reached n p (omega arith); advanced' = (let a = o.now.advanced some_state in omega arith); grows' = λ g. omega arith; tried' = refl }

    pub advances : (c : C) (ns' : List (Note C)) → 0 < w.state → Live o.b l c → w.attempt + 3 ≤ w.range → Inserted l.notes ns' (Attempt f (w.attempt + 1)) → Advances 1 ns'
    advances c ns' some_state v room i = let n : ℕ = w.attempt + 1 in let made = o.now.is_born some_state in record {
      story' = story_attempt o.story (born_some (o.b f) (w.range, made.0) made.1) n ns' (v.beyond n (omega arith)) (omega arith) (λ m p lt. v.reached m p (omega arith)) i;
      room' = omega arith;
      beyond' = λ m lt. let a = v.beyond m (omega arith) in let z = pair-else f m f n (λ q. omega arith) in omega (arith, total_insert i (is_attempt f m));
      reached' = λ m p le. dite (ℕ_discrete m n)
          (λ e. let z = pair-at f m f n refl (sym e) in omega (arith, total_insert i (is_attempt f m)))
          (λ ne. let a = v.reached m p (omega arith) in omega (arith, total_insert i (is_attempt f m)));
      advanced' = let a = o.now.advanced some_state in let z = only-same f in omega (arith, total_insert i (is_advance f));
      grows' = grown i;
      tried' = omega (arith, total_insert i is_tried);
    }

    module _ (first rg att : ℕ) (c : C) (p s : ℕ) (has : l.tokens ≡ Locked first rg att c p s (Full c) ∷ []) (more : ℕ) (ns' : List (Note C)) (a : Advances more ns') where
      lock : IsLock first rg att c p s (Full c)
      lock = is_lock first rg att c p s (Full c) has

      live_after : (state q r : ℕ) (ts : List (Token C)) → Live o.b record { tag = l.tag; word = record { first = f; state = state; range = w.range; attempt = w.attempt + more; oldest = q; second = r }; home = l.home; tokens = ts; notes = ns' } c
      live_after state q r ts = let v = lock.live in record { taken = v.taken; low = v.low; range_low = v.range_low; range_high = v.range_high; room = a.room'; content = v.content; beyond = a.beyond'; reached = a.reached' }

      used_after : (ts : List (Token C)) → 0 < l.tag + total is_tried ns' → 0 < total is_claim ts + total is_any_made ns'
      used_after ts z = let k = a.tried' in let m = o.used (omega arith) in let e = ap (total is_claim) has in let g = a.grows' is_any_made in omega arith

      -- I5 with no error queued
      pub opens : w.oldest ≡ 0 → SlotLaw record { tag = l.tag; word = open_word w more; home = l.home; tokens = []; notes = ns' }
      opens none_queued = let seen = o.now in let two = lock.locked_is in record {
        b = o.b;
        first_some = o.first_some;
        first_low = o.first_low;
        story = story_state a.story' 1 (λ z. omega arith);
        now = record { not_later = omega arith; is_born = λ z. seen.is_born (omega arith); was_locked = λ z. absurd (omega arith); advanced = λ z. a.advanced'; oldest_by = λ z n. absurd (n refl); second_by = λ z n. absurd (n refl) };
        stands = opened c refl refl (live_after 1 0 0 []) refl refl lock.home;
        used = used_after [];
      }

      -- I5 that takes out the oldest
      pub pops : w.oldest ≢ 0 → SlotLaw record { tag = l.tag; word = popped_word w more; home = l.home; tokens = Locked first rg (w.attempt + more) c w.second 0 (Full c) ∷ []; notes = ns' }
      pops some_queued = let seen = o.now in let two = lock.locked_is in record {
        b = o.b;
        first_some = o.first_some;
        first_low = o.first_low;
        story = story_state a.story' 2 (λ z. omega arith);
        now = record {
          not_later = omega arith;
          is_born = λ z. seen.is_born (omega arith);
          was_locked = λ z. let u = seen.was_locked two in let g = a.grows' (is_locker f) in omega arith;
          advanced = λ z. a.advanced';
          oldest_by = λ z n. let u = seen.second_by (omega arith) n in let g = a.grows' (is_queued f w.second) in omega arith;
          second_by = λ z n. absurd (n refl);
        };
        stands = locked c w.second 0 (Full c) (λ z. Locked (lock.first_is z) (lock.range_is z) (w.attempt + more) c w.second 0 (Full c) ∷ []) refl (live_after 2 w.second 0 (Locked first rg (w.attempt + more) c w.second 0 (Full c) ∷ [])) ((λ n. refl), (λ n. absurd (n refl)), (λ z. refl)) lock.home refl;
        used = used_after (Locked first rg (w.attempt + more) c w.second 0 (Full c) ∷ []);
      }

    -- I6; the slot is given up at I8, or is retired at once
    pub ends : (first rg att : ℕ) (c : C) (p s : ℕ) (h : Hand C) → l.tokens ≡ Locked first rg att c p s h ∷ [] → (ns' : List (Note C)) → HomeIs Empty l.home → Inserted l.notes ns' (Ended first att) → (ts : List (Token C)) → (((f + w.range ≤ LAST) × (ts ≡ Leaving ∷ [])) ⊎ ((LAST < f + w.range) × (ts ≡ [])))
        → SlotLaw record { tag = l.tag; word = free_word (f + w.range); home = l.home; tokens = ts; notes = ns' }
    ends first rg att c p s h has ns' empty i ts which =
        let k = is_lock first rg att c p s h has in let v = k.live in let high = v.range_high in let some_range = v.range_low in let low = v.low in
        let i' : Inserted l.notes ns' (Ended f w.attempt) = subst (λ (y : ℕ). Inserted l.notes ns' (Ended f y)) k.attempt_is (subst (λ (x : ℕ). Inserted l.notes ns' (Ended x att)) k.first_is i) in
        let l' : Local C = record { tag = l.tag; word = free_word (f + w.range); home = l.home; tokens = ts; notes = ns' } in
        let made_one : 0 < total is_any_made l.notes = (let a = o.used (let z = v.taken in omega arith) in let e = ap (total is_claim) has in omega arith) in record {
          b = o.b;
          first_some = let z = o.first_some in omega arith;
          first_low = omega arith;
          story = story_ended o.story (w.range, c) v.content w.attempt (f + w.range) ns' refl v.beyond i';
          now = record { not_later = omega arith; is_born = λ z. absurd (omega arith); was_locked = λ z. absurd (omega arith); advanced = λ z. absurd (omega arith); oldest_by = λ z n. absurd (omega arith); second_by = λ z n. absurd (omega arith) };
          stands = ⊎_elim (λ q. leaving q.1 v.taken refl q.0 empty) (λ q. retired q.1 v.taken refl q.0 empty) which;
          used = λ z. omega (arith, total_insert i is_any_made);
        }

    -- I8
    pub frees : l.tokens ≡ Leaving ∷ [] → SlotLaw record { tag = 0; word = w; home = l.home; tokens = []; notes = l.notes }
    frees has =
        let l' : Local C = record { tag = 0; word = w; home = l.home; tokens = []; notes = l.notes } in
        let go : Stands o.b l' = elim o.stands [
          | vacant t g z u k ↦ absurd (no_token l.tokens Leaving has t)
          | retired t g z u k ↦ absurd (no_token l.tokens Leaving has t)
          | claimed seen' h' t g z u k q ↦ (let e : Claimed seen' h' ≡ Leaving = same_token l.tokens (Claimed seen' h') Leaving t has in cc)
          | opened d t z v q r k ↦ absurd (no_token l.tokens Leaving has t)
          | locked d q r k t z v y u m ↦ (let e : Locked f w.range w.attempt d q r k ≡ Leaving = same_token l.tokens (Locked f w.range w.attempt d q r k) Leaving t has in cc)
          | leaving t g z u k ↦ vacant refl refl z u k
        ] in
        let one : l.tag ≡ 1 = elim o.stands [
          | vacant t g z u k ↦ absurd (no_token l.tokens Leaving has t)
          | retired t g z u k ↦ g
          | claimed seen' h' t g z u k q ↦ g
          | opened d t z v q r k ↦ v.taken
          | locked d q r k t z v y u m ↦ v.taken
          | leaving t g z u k ↦ g
        ] in record {
          b = o.b;
          first_some = o.first_some;
          first_low = o.first_low;
          story = o.story;
          now = o.now;
          stands = go;
          used = λ z. let a = o.used (omega arith) in let e = ap (total is_claim) has in omega arith;
        }
