-- What a whole call does to the tokens and to the lists of events.
use Rattle.std.proofs.Common.{◌≡◌, ◌≢◌, ℕ, ◌<◌, ◌≤◌, ◌⊎◌, inl, inr, ⊎_elim, Some, None, true, false, cond, eq-eqb, List, [], ◌∷◌, ◌++◌, append_assoc, sym, refl, ap, ◌∙◌, subst, arith}
use mathlib.Core.Logic.{dite}
use native.Mathlib.Decide.{ℕ_discrete}
use Rattle.std.specs.Prelude.{Option as Maybe, MatchOption}
use Rattle.corr_core.specs.IdSlotWord.{Parts, parts, locked_word, error_of}
use Rattle.corr_core.proofs.NoteSums.{only-same}
use Rattle.corr_core.specs.declared.marks.Hand.TheVariants.{Empty, Full}
use Rattle.corr_core.specs.declared.marks.Token.TheVariants.{Locked}
use Rattle.corr_core.specs.declared.marks.Note.TheVariants.{Made, Locker, Queued, Saw}
use Rattle.corr_core.specs.IdSlotLaw.{is_made, is_attempt, is_advance}
use Rattle.corr_core.specs.declared.marks.Token.{Token}
use Rattle.corr_core.specs.declared.marks.Note.{Note}
use Rattle.corr_core.specs.declared.marks.Noted.{Noted}
use Rattle.corr_core.specs.declared.marks.View.{View}
use Rattle.id_rule.specs.LawfulIdTable.{tokens_in, notes_of}
use Rattle.id_rule.specs.IdPlays.{LockFits}
use Rattle.corr_id.specs.SeatBehindIdCalls.{Became, one, is_event, events, is_saw, Found, FoundNow, FoundUpTo, ReachedUpTo, OutOf, LacksId, Quiet, Did, GotLock, error_in}
use Rattle.corr_id.specs.Ruled.{IsBehind}
use Rattle.corr_id.proofs.IdSeatSplits.{notes_append, total_append}
use Rattle.sock_words.specs.Totals.{total}

module _ {C : Type 0} where
  events_append : (a b : List (Noted C)) → events (a ++ b) ≡ events a ++ events b
  events_append [] b = refl
  events_append (x ∷ xs) b = let r = events_append xs b in
      elim (is_event x.note) as (λ z. cond z (x ∷ events (xs ++ b)) (events (xs ++ b)) ≡ cond z (x ∷ events xs) (events xs) ++ events b) [ true ↦ ap (λ l. x ∷ l) r | false ↦ r ]

  pub quiet_none : (v : View C) → Quiet v v
  quiet_none v = record { tokens = λ j. refl; events_same = refl; grows = λ j g. omega arith; kept = refl; share = refl }

  pub notes_grow : (v w : View C) (ns : List (Noted C)) → w.notes ≡ ns ++ v.notes → (j : ℕ) (g : Note C → ℕ) → total g (notes_of j v.notes) ≤ total g (notes_of j w.notes)
  notes_grow v w ns e j g = let a = ap (λ l. total g (notes_of j l)) e in let b = ap (total g) (notes_append j ns v.notes) in omega (arith, total_append g (notes_of j ns) (notes_of j v.notes))

  pub quiet_more : (i : ℕ) (u v w : View C) (ns : List (Noted C)) → Quiet u v → Became i v w (tokens_in i v) ns → events ns ≡ [] → Quiet u w
  quiet_more i u v w ns q b none_of = record {
    tokens = λ j. dite (ℕ_discrete j i) (λ e. ap (λ y. tokens_in y w) e ∙ (b.tokens ∙ (ap (λ y. tokens_in y v) (sym e) ∙ q.tokens j))) (λ n. b.others j n ∙ q.tokens j);
    events_same = ap events b.notes ∙ (events_append ns v.notes ∙ (ap (λ l. l ++ events v.notes) none_of ∙ q.events_same));
    grows = λ j g. let a = q.grows j g in let c = notes_grow v w ns b.notes j g in omega arith;
    kept = b.kept ∙ q.kept;
    share = b.share ∙ q.share;
  }

  pub did_none : (i : ℕ) (u v : View C) → Quiet u v → Did i u v (tokens_in i u) []
  did_none i u v q = record { tokens = q.tokens i; others = λ j n. q.tokens j; added = q.events_same; grows = q.grows; kept = q.kept; share = q.share }

  pub did_more : (i : ℕ) (u v w : View C) (ts ts' : List (Token C)) (es ns : List (Noted C)) → Did i u v ts es → Became i v w ts' ns → Did i u w ts' (events ns ++ es)
  did_more i u v w ts ts' es ns d b = record {
    tokens = b.tokens;
    others = λ j n. b.others j n ∙ d.others j n;
    added = ap events b.notes ∙ (events_append ns v.notes ∙ (ap (λ l. events ns ++ l) d.added ∙ sym (append_assoc (events ns) es (events u.notes))));
    grows = λ j g. let a = d.grows j g in let e = notes_grow v w ns b.notes j g in omega arith;
    kept = b.kept ∙ d.kept;
    share = b.share ∙ d.share;
  }

  pub locked_next : (v : View C) (i : ℕ) (w q : Parts) (c : C) → q ≡ locked_word w → tokens_in i v ≡ Locked w.first w.range w.attempt c w.oldest w.second (Full c) ∷ [] → tokens_in i v ≡ Locked q.first q.range q.attempt c q.oldest q.second (Full c) ∷ []
  locked_next v i w q c e h = h ∙ ap (λ (y : Parts). Locked y.first y.range y.attempt c y.oldest y.second (Full c) ∷ []) (sym e)

  -- an id that was made is noted
  pub made_noted : (i f r : ℕ) (c : C) (v w : View C) → Became i v w [] (one i (Made f r c)) → 0 < total (is_made f) (notes_of i w.notes)
  made_noted i f r c v w b = let e = ap (λ l. total (is_made f) (notes_of i l)) b.notes in
      let g = ap (λ y. total (is_made f) (cond y (Made f r c ∷ notes_of i v.notes) (notes_of i v.notes))) (eq-eqb i i refl) in let k = only-same f in omega arith

  -- the word that was noted is found
  pub found_noted : (i word : ℕ) (v w : View C) → Became i v w (tokens_in i v) (one i (Saw word)) → Found i word w
  found_noted i word v w b = let e = ap (λ l. total (is_saw word) (notes_of i l)) b.notes in
      let f = ap (λ y. total (is_saw word) (cond y (Saw word ∷ notes_of i v.notes) (notes_of i v.notes))) (eq-eqb i i refl) in let k = only-same word in omega arith

  pub noted_now : (i word : ℕ) (v w : View C) → Became i v w (tokens_in i v) (one i (Saw word)) → FoundNow i word v w
  noted_now i word v w b = let e = ap (λ l. total (is_saw word) (notes_of i l)) b.notes in
      let f = ap (λ y. total (is_saw word) (cond y (Saw word ∷ notes_of i v.notes) (notes_of i v.notes))) (eq-eqb i i refl) in let k = only-same word in omega arith

  -- what is found now stays so, where a call began before or goes on
  pub now_quiet : (i word : ℕ) (u v w : View C) → Quiet u v → FoundNow i word v w → FoundNow i word u w
  now_quiet i word u v w q now = let a = q.grows i (is_saw word) in omega (arith, a, now)

  pub now_grows : (i word : ℕ) (u v w : View C) → ((j : ℕ) (g : Note C → ℕ) → total g (notes_of j v.notes) ≤ total g (notes_of j w.notes)) → FoundNow i word u v → FoundNow i word u w
  now_grows i word u v w grows now = let a = grows i (is_saw word) in omega (arith, a, now)

  -- what is found now is found
  pub found_before : (i word : ℕ) (v w : View C) → FoundNow i word v w → Found i word w
  found_before i word v w now = omega (arith, now)

  pub found_grows : (i word : ℕ) (v w : View C) → ((j : ℕ) (g : Note C → ℕ) → total g (notes_of j v.notes) ≤ total g (notes_of j w.notes)) → Found i word v → Found i word w
  found_grows i word v w grows f = let a = grows i (is_saw word) in omega arith

  pub became_grows : (i : ℕ) (v w : View C) (ts : List (Token C)) (ns : List (Noted C)) → Became i v w ts ns → (j : ℕ) (g : Note C → ℕ) → total g (notes_of j v.notes) ≤ total g (notes_of j w.notes)
  became_grows i v w ts ns b = notes_grow v w ns b.notes

  -- with other notes no word more is found
  pub up_to_more : (i f : ℕ) (v w : View C) (ts : List (Token C)) (n : Note C) → Became i v w ts (one i n) → ((x : ℕ) → is_saw x n ≡ 0) → FoundUpTo i f v → FoundUpTo i f w
  up_to_more i f v w ts n b other up x found = up x (let e = ap (λ l. total (is_saw x) (notes_of i l)) b.notes in
      let g = ap (λ y. total (is_saw x) (cond y (n ∷ notes_of i v.notes) (notes_of i v.notes))) (eq-eqb i i refl) in let k = other x in omega arith)

  pub up_to_same : (i f : ℕ) (v w : View C) (ts : List (Token C)) → Became i v w ts [] → FoundUpTo i f v → FoundUpTo i f w
  up_to_same i f v w ts b up x found = up x (let e = ap (λ l. total (is_saw x) (notes_of i l)) b.notes in omega arith)

  -- nor with other notes an attempt more is reached
  reached_more : (i f n : ℕ) (v w : View C) (ts : List (Token C)) (x : Note C) → Became i v w ts (one i x) → ((m : ℕ) → is_attempt f m x ≡ 0) → ReachedUpTo i f n v → ReachedUpTo i f n w
  reached_more i f n v w ts x b other up m some_ = up m (let e = ap (λ l. total (is_attempt f m) (notes_of i l)) b.notes in
      let g = ap (λ y. total (is_attempt f m) (cond y (x ∷ notes_of i v.notes) (notes_of i v.notes))) (eq-eqb i i refl) in let k = other m in omega arith)

  reached_same : (i f n : ℕ) (v w : View C) (ts : List (Token C)) → Became i v w ts [] → ReachedUpTo i f n v → ReachedUpTo i f n w
  reached_same i f n v w ts b up m some_ = up m (let e = ap (λ l. total (is_attempt f m) (notes_of i l)) b.notes in omega arith)

  -- a lock that was taken, with its content
  locked_did : (i : ℕ) (u v x y : View C) (ts : List (Token C)) (f f' : ℕ) (c d : C) → Quiet u v → Became i v x ts (one i (Locker f c)) → (ts' : List (Token C)) → Became i x y ts' [] → f ≡ f' → d ≡ c → Did i u y (tokens_in i y) (one i (Locker f' d))
  locked_did i u v x y ts f f' c d q a ts' b ff dd = let k = did_more i u x y ts ts' (one i (Locker f c)) [] (did_more i u v x (tokens_in i u) ts [] (one i (Locker f c)) (did_none i u v q) a) b in
      record { tokens = refl; others = k.others; added = k.added ∙ λ z. record { slot = i; note = Locker (ff z) (sym dd z) } ∷ events u.notes; grows = k.grows; kept = k.kept; share = k.share }

  -- the exchange found the open word that was noted before, and K2 took the content
  pub got_lock : (i slot : ℕ) (u v x y : View C) (word : ℕ) (q k : Parts) (c d : C) → slot ≡ i → k ≡ q → d ≡ c → Quiet u v → Found i word v → (parts word).state ≡ 1 → FoundUpTo i (parts word).first v → ReachedUpTo i (parts word).first (parts word).attempt v
      → Became i v x (Locked (parts word).first (parts word).range (parts word).attempt c (parts word).oldest (parts word).second (Full c) ∷ []) (one i (Locker (parts word).first c))
      → Became i x y (Locked q.first q.range q.attempt c q.oldest q.second Empty ∷ []) [] → q ≡ locked_word (parts word) → GotLock slot u y word k d
  got_lock i slot u v x y word q k c d ss kk dd quiet found open_ latest reached won taken e =
      let w : Parts = parts word in let f : w.first ≡ k.first = sym (ap (λ (z : Parts). z.first) e) ∙ ap (λ (z : Parts). z.first) (sym kk) in
      let n : w.attempt ≡ k.attempt = sym (ap (λ (z : Parts). z.attempt) e) ∙ ap (λ (z : Parts). z.attempt) (sym kk) in
      let did = locked_did i u v x y (Locked w.first w.range w.attempt c w.oldest w.second (Full c) ∷ []) w.first k.first c d quiet won (Locked q.first q.range q.attempt c q.oldest q.second Empty ∷ []) taken f dd in
      let at_i : GotLock i u y word k d = record {
        found = found_grows i word x y (became_grows i x y (Locked q.first q.range q.attempt c q.oldest q.second Empty ∷ []) [] taken) (found_grows i word v x (became_grows i v x (Locked w.first w.range w.attempt c w.oldest w.second (Full c) ∷ []) (one i (Locker w.first c)) won) found);
        was_open = open_;
        latest = subst (λ (z : ℕ). FoundUpTo i z y) f (up_to_same i w.first x y (Locked q.first q.range q.attempt c q.oldest q.second Empty ∷ []) taken
            (up_to_more i w.first v x (Locked w.first w.range w.attempt c w.oldest w.second (Full c) ∷ []) (Locker w.first c) won (λ z. refl) latest));
        reached = subst (λ (z : ℕ). ReachedUpTo i z k.attempt y) f (subst (λ (z : ℕ). ReachedUpTo i w.first z y) n (reached_same i w.first w.attempt x y (Locked q.first q.range q.attempt c q.oldest q.second Empty ∷ []) taken
            (reached_more i w.first w.attempt v x (Locked w.first w.range w.attempt c w.oldest w.second (Full c) ∷ []) (Locker w.first c) won (λ z. refl) reached)));
        word_is = kk ∙ e;
        locks = taken.tokens ∙ λ z. Locked (sym kk z).first (sym kk z).range (sym kk z).attempt (sym dd z) (sym kk z).oldest (sym kk z).second Empty ∷ [];
        did = did;
      } in subst (λ (z : ℕ). GotLock z u y word k d) (sym ss) at_i

  -- an error that was queued
  pub queued_did : (i : ℕ) (u v w : View C) (f f' e e' : ℕ) → Quiet u v → Became i v w (tokens_in i v) (one i (Queued f e)) → f ≡ f' → e ≡ e' → Did i u w (tokens_in i u) (one i (Queued f' e'))
  queued_did i u v w f f' e e' q b ff ee = let k = did_more i u v w (tokens_in i u) (tokens_in i v) [] (one i (Queued f e)) (did_none i u v q) b in
      record { tokens = k.tokens ∙ q.tokens i; others = k.others; added = k.added ∙ λ z. record { slot = i; note = Queued (ff z) (ee z) } ∷ events u.notes; grows = k.grows; kept = k.kept; share = k.share }

pub locked_fits : (w q : Parts) → q ≡ locked_word w → LockFits w → w.oldest ≡ 0 → w.second ≡ 0 → LockFits q × (q.state ≡ 2) × (q.oldest ≡ 0 → q.second ≡ 0)
locked_fits w q e f z y = (
  subst LockFits (sym e) record { low = f.low; range_low = f.range_low; range_high = f.range_high; room = f.room },
  ap (λ (k : Parts). k.state) e,
  (λ n. ap (λ (k : Parts). k.second) e ∙ y),
)

module _ {C : Type 0} where
  pub quiet_after : (u v w : View C) → Quiet u v → Quiet v w → Quiet u w
  quiet_after u v w a b = record {
    tokens = λ j. b.tokens j ∙ a.tokens j;
    events_same = b.events_same ∙ a.events_same;
    grows = λ j g. let x = a.grows j g in let y = b.grows j g in omega arith;
    kept = b.kept ∙ a.kept;
    share = b.share ∙ a.share;
  }

  pub got_after : (i : ℕ) (u v w : View C) (word : ℕ) (k : Parts) (c : C) → Quiet u v → GotLock i v w word k c → GotLock i u w word k c
  got_after i u v w word k c a b = record {
    found = b.found;
    was_open = b.was_open;
    latest = b.latest;
    reached = b.reached;
    word_is = b.word_is;
    locks = b.locks;
    did = record {
      tokens = b.did.tokens;
      others = λ j n. b.did.others j n ∙ a.tokens j;
      added = b.did.added ∙ ap (λ l. one i (Locker k.first c) ++ l) a.events_same;
      grows = λ j g. let x = a.grows j g in let y = b.did.grows j g in omega arith;
      kept = b.did.kept ∙ a.kept;
      share = b.did.share ∙ a.share;
    };
  }

-- ## An id that the seat knows to be made

pub made_still : {C : Type 0} (i f : ℕ) (u v : View C) → Quiet u v → 0 < total (is_made f) (notes_of i u.notes) → 0 < total (is_made f) (notes_of i v.notes)
made_still i f u v q known = let a = q.grows i (is_made f) in omega arith

pub advanced_still : {C : Type 0} (i f : ℕ) (u v : View C) → Quiet u v → 0 < total (is_advance f) (notes_of i u.notes) → 0 < total (is_advance f) (notes_of i v.notes)
advanced_still i f u v q known = let a = q.grows i (is_advance f) in omega arith

-- a word without it is a later one
pub gone_behind : (f : ℕ) (w : Parts) → IsBehind f w → OutOf w f → f < w.first
gone_behind f w (inl past) out = past
gone_behind f w (inr now) out = absurd (⊎_elim (λ z. let a = now.1 in omega arith) (λ o. ⊎_elim (λ less. let e = now.0 in omega arith) (λ past. let e = now.0 in let r = now.2 in omega arith) o) out)

pub lacks_behind : (f : ℕ) (w : Parts) → IsBehind f w → LacksId w f → f < w.first
lacks_behind f w (inl past) lacks = past
lacks_behind f w (inr now) lacks = absurd (⊎_elim (λ other. other (sym now.0)) (λ none. let a = now.1 in let b = now.3 in let c = none.0 in let d = none.1 in omega (arith, a, b, c, d)) lacks)

-- and one that has it begins with it
pub own_behind : (f : ℕ) (w : Parts) → IsBehind f w → w.first ≤ f → w.first ≡ f
own_behind f w (inl past) from = absurd (omega arith)
own_behind f w (inr now) from = sym now.0

pub error_is : (attempt : Maybe ℕ) (r code : ℕ) → MatchOption attempt (r ≡ error_of code 7) (λ n. r ≡ error_of code n) → r ≡ error_in code attempt
error_is None r code h = h
error_is (Some n) r code h = h

pub was_two : (s : ℕ) → (s ≡ 1) ⊎ (s ≡ 2) → s ≢ 1 → s ≡ 2
was_two s h n = ⊎_elim (λ e. absurd (n e)) (λ e. e) h
