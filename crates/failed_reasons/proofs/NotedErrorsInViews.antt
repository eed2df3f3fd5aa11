-- What a seat of ids has noted and keeps in mind from here on; and which errors it noted as queued, and which advances.
use Rattle.std.proofs.Common.{◌<◌, ◌≡◌, Bool, ℕ, ◌+◌, ◌≤◌, ◌⊎◌, inl, inr, true, false, cond, eq-eqb, ne_eqb, List, [], ◌∷◌, refl, sym, ap, ◌∙◌, subst, arith}
use Rattle.std.specs.Prelude.{Option}
use mathlib.Core.Logic.{dite}
use native.Mathlib.Decide.{ℕ_discrete}
use Rattle.corr_core.specs.IdSlotWord.{Parts, parts}
use Rattle.corr_core.specs.IdSlotLaw.{pair, is_queued, is_attempt, is_ended_at}
use Rattle.corr_core.specs.declared.marks.Kept.{Kept}
use Rattle.corr_core.specs.declared.marks.Note.{Note}
use Rattle.corr_core.specs.declared.marks.Note.TheVariants.{Ended, Locker, Queued, Attempt}
use Rattle.corr_core.specs.declared.marks.Noted.{Noted}
use Rattle.corr_core.specs.declared.marks.Token.{Token}
use Rattle.corr_core.specs.declared.marks.View.{View}
use Rattle.corr_core.proofs.NoteSums.{pair-same, pair-else, pair-else_first}
use Rattle.corr_id.specs.id_rule.specs.LawfulIdTable.{notes_of, with_kept}
use Rattle.sock_message.specs.Asked.{Asked}
use Rattle.corr_id.specs.declared.calls.IdLock.{IdLock}
use Rattle.corr_id.specs.declared.unlocks.Unlocked.TheVariants.{Open, Next}
use Rattle.corr_id.specs.SeatBehindIdCalls.{is_event, one, advance_note, Became, Did, Quiet, GotLock}
use Rattle.corr_id.specs.Unlocks.{UnlockOk}
use Rattle.corr_id.proofs.IdSeatSplits.{notes_append, total_append}
use Rattle.attempts_told.specs.Below.CallClient.EndedCallsTelling.{quiet_total, did_total, none_of_one}
use Rattle.attempts_told.specs.call_whys.specs.call_places.proofs.Still.{attempt_silent}
use Rattle.attempts_told.specs.call_whys.specs.call_told.proofs.ToldCallEnds.{counted_here}
use Rattle.attempts_told.specs.call_whys.specs.call_told.proofs.GrowingCallNotes.{Grows, grows_same, did_grows, quiet_grows, ended_grows}
use Rattle.sock_words.specs.Totals.{total}

-- only events count
pub queued_silent : (first e : ℕ) (n : Note Asked) → is_event n ≡ false → is_queued first e n ≡ 0
queued_silent first e (Queued g d) z = let k : true ≡ false = z in cc
queued_silent first e _ z = refl

-- how often an error of an id is noted as queued
abbrev pub queued_in : ℕ → ℕ → ℕ → List (Noted Asked) → ℕ
queued_in i first e notes = total (is_queued first e) (notes_of i notes)

-- and how often it is noted that the id advanced to an attempt
abbrev pub advanced_in : ℕ → ℕ → ℕ → List (Noted Asked) → ℕ
advanced_in i first n notes = total (is_attempt first n) (notes_of i notes)

-- whatever was noted or kept in mind is so still
pub record Later (v w : View Asked) : Type 0 where
  pub notes : (j : ℕ) (f : Note Asked → ℕ) → total f (notes_of j v.notes) ≤ total f (notes_of j w.notes)
  pub kept : (f : Kept → ℕ) → total f v.kept ≤ total f w.kept

pub later_then : (u v w : View Asked) → Later u v → Later v w → Later u w
later_then u v w a b = record {
  notes = λ j f. (let x = a.notes j f in let y = b.notes j f in omega (arith, x, y));
  kept = λ f. (let x = a.kept f in let y = b.kept f in omega (arith, x, y));
}

pub of_grows : (v w : View Asked) → Grows 0 0 v w → Later v w
of_grows v w g = record { notes = g.notes; kept = g.kept }

-- and no error more is noted as queued, and no advance
pub record Stays (v w : View Asked) : Type 0 where
  pub later : Later v w
  pub queued : (j first e : ℕ) → queued_in j first e w.notes ≤ queued_in j first e v.notes
  pub advanced : (j first n : ℕ) → advanced_in j first n w.notes ≤ advanced_in j first n v.notes

-- or one advance more, that of a lock to the attempt behind its own
pub record Steps (k : IdLock Asked) (v w : View Asked) : Type 0 where
  pub later : Later v w
  pub queued : (j first e : ℕ) → queued_in j first e w.notes ≤ queued_in j first e v.notes
  pub advanced : (j first n : ℕ) → 0 < advanced_in j first n w.notes → (0 < advanced_in j first n v.notes) ⊎ ((k.slot ≡ j) × ((parts k.word.0).first ≡ first) × (n ≡ (parts k.word.0).attempt + 1))

-- ## Notes

-- by these nothing is queued, and nothing advances
pub record AreSilent (es : List (Noted Asked)) : Type 0 where
  pub queued : (j first e : ℕ) → queued_in j first e es ≡ 0
  pub advanced : (j first n : ℕ) → advanced_in j first n es ≡ 0

pub one_silent : (at : ℕ) (x : Note Asked) → ((first e : ℕ) → is_queued first e x ≡ 0) → ((first n : ℕ) → is_attempt first n x ≡ 0) → AreSilent (one at x)
one_silent at x a b = record {
  queued = λ j first e. none_of_one (is_queued first e) (queued_silent first e) at x (a first e) j;
  advanced = λ j first n. none_of_one (is_attempt first n) (attempt_silent first n) at x (b first n) j;
}

-- a lock that was given back at the attempt that it had
silent_still : (at : ℕ) (p q : Parts) → q.attempt ≡ p.attempt + 0 → AreSilent (advance_note at p q)
silent_still at p q up = subst AreSilent (sym (ap (λ (b : Bool). cond b [] (one {C = Asked} at (Attempt p.first q.attempt))) (eq-eqb p.attempt q.attempt (omega (arith, up))))) (record { queued = λ j first e. refl; advanced = λ j first n. refl })

-- or at the next one
one_further : (at : ℕ) (p q : Parts) → q.attempt ≡ p.attempt + 1 → advance_note {C = Asked} at p q ≡ one at (Attempt p.first q.attempt)
one_further at p q up = ap (λ (b : Bool). cond b [] (one at (Attempt p.first q.attempt))) (ne_eqb p.attempt q.attempt (λ e. omega (arith, e, up)))

-- a note that counts is the one that was put there
one_pair : (W : Note Asked → ℕ) (x : Note Asked) (i j a b f d : ℕ) → W x ≡ pair a b f d → 0 < total W (notes_of j (one i x)) → (i ≡ j) × (f ≡ a) × (d ≡ b)
one_pair W x i j a b f d weight h = dite (ℕ_discrete i j)
    (λ same. (
    let here : 0 < total W (notes_of i (one i x)) = subst (λ (k : ℕ). 0 < total W (notes_of k (one i x))) (sym same) h in
    let c = counted_here W i x in
    dite (ℕ_discrete f a)
    (λ y. dite (ℕ_discrete d b) (λ z. (same, y, z)) (λ ne. absurd (let e = pair-else a b f d ne in omega (arith, here, c, e, weight))))
    (λ ne. absurd (let e = pair-else_first a b f d ne in omega (arith, here, c, e, weight)))))
    (λ ne. absurd (let c = ap (λ (y : Bool). total W (cond y (x ∷ []) [])) (ne_eqb i j ne) in omega (arith, c, h)))

pub queued_one : (i j first e f d : ℕ) → 0 < queued_in j first e (one {C = Asked} i (Queued f d)) → (i ≡ j) × (f ≡ first) × (d ≡ e)
queued_one i j first e f d h = one_pair (is_queued first e) (Queued f d) i j first e f d refl h

advanced_one : (i j first n f m : ℕ) → 0 < advanced_in j first n (one {C = Asked} i (Attempt f m)) → (i ≡ j) × (f ≡ first) × (m ≡ n)
advanced_one i j first n f m h = one_pair (is_attempt first n) (Attempt f m) i j first n f m refl h

-- ## Steps

pub same_stays : (v w : View Asked) → w ≡ v → Stays v w
same_stays v w e = record {
  later = of_grows v w (grows_same 0 0 v w e);
  queued = λ j first d. (let a = ap (λ (y : View Asked). queued_in j first d y.notes) e in omega (arith, a));
  advanced = λ j first n. (let a = ap (λ (y : View Asked). advanced_in j first n y.notes) e in omega (arith, a));
}

pub then_stays : (u v w : View Asked) → Stays u v → Stays v w → Stays u w
then_stays u v w a b = record {
  later = later_then u v w a.later b.later;
  queued = λ j first e. (let x = a.queued j first e in let y = b.queued j first e in omega (arith, x, y));
  advanced = λ j first n. (let x = a.advanced j first n in let y = b.advanced j first n in omega (arith, x, y));
}

pub did_later : (i : ℕ) (v w : View Asked) (ts : List (Token Asked)) (es : List (Noted Asked)) → Did i v w ts es → Later v w
did_later i v w ts es d = of_grows v w (did_grows 0 i v w ts es d)

pub did_stays : (i : ℕ) (v w : View Asked) (ts : List (Token Asked)) (es : List (Noted Asked)) → AreSilent es → Did i v w ts es → Stays v w
did_stays i v w ts es silent d = record {
  later = did_later i v w ts es d;
  queued = λ j first e. (let a = did_total (is_queued first e) (queued_silent first e) i v w ts es d j in let b = silent.queued j first e in omega (arith, a, b));
  advanced = λ j first n. (let a = did_total (is_attempt first n) (attempt_silent first n) i v w ts es d j in let b = silent.advanced j first n in omega (arith, a, b));
}

pub quiet_stays : (v w : View Asked) → Quiet v w → Stays v w
quiet_stays v w q = record {
  later = of_grows v w (quiet_grows 0 v w q);
  queued = λ j first e. (let a = quiet_total (is_queued first e) (queued_silent first e) v w q j in omega (arith, a));
  advanced = λ j first n. (let a = quiet_total (is_attempt first n) (attempt_silent first n) v w q j in omega (arith, a));
}

-- a word more is kept in mind
pub kept_stays : (v w : View Asked) (place : ℕ) (own : Bool) (word : ℕ) → w ≡ with_kept place own word v → Stays v w
kept_stays v w place own word e = record {
  later = record {
    notes = λ j f. (let a = ap (λ (y : View Asked). total f (notes_of j y.notes)) e in omega (arith, a));
    kept = λ f. (let a = ap (λ (y : View Asked). total f y.kept) e in omega (arith, a));
  };
  queued = λ j first d. (let a = ap (λ (y : View Asked). queued_in j first d y.notes) e in omega (arith, a));
  advanced = λ j first n. (let a = ap (λ (y : View Asked). advanced_in j first n y.notes) e in omega (arith, a));
}

-- a range ended
pub ended_stays : {n : ℕ} (i first : ℕ) (v w : View Asked) → Became i v w [] (one i (Ended first n)) → Stays v w
ended_stays {n} i first v w b = record {
  later = of_grows v w (ended_grows 0 i v w [] (one i (Ended first n)) b);
  queued = λ j f e. (let a = more (is_queued f e) j in let d = silent.queued j f e in omega (arith, a, d));
  advanced = λ j f n. (let a = more (is_attempt f n) j in let d = silent.advanced j f n in omega (arith, a, d));
}
  where
    silent : AreSilent (one i (Ended first n))
    silent = one_silent i (Ended first n) (λ f e. refl) (λ f n. refl)

    more : (W : Note Asked → ℕ) (j : ℕ) → total W (notes_of j w.notes) ≡ total W (notes_of j (one i (Ended first n))) + total W (notes_of j v.notes)
    more W j =
        let es : List (Noted Asked) = one i (Ended first n) in
        ap (λ (l : List (Noted Asked)). total W (notes_of j l)) b.notes ∙ (ap (total W) (notes_append j es v.notes) ∙ total_append W (notes_of j es) (notes_of j v.notes))

-- and that is noted, with the attempt
pub ended_over : {n : ℕ} (i first : ℕ) (v w : View Asked) → Became i v w [] (one i (Ended first n)) → 0 < total (is_ended_at first n) (notes_of i w.notes)
ended_over {n} i first v w b =
    let f : Note Asked → ℕ = is_ended_at first n in
    let a : total f (notes_of i w.notes) ≡ pair first n first n + total f (notes_of i v.notes)
    = ap (λ (l : List (Noted Asked)). total f (notes_of i l)) b.notes ∙ ap (λ (y : Bool). total f (cond y (Ended first n ∷ notes_of i v.notes) (notes_of i v.notes))) (eq-eqb i i refl) in
    let c = pair-same first n in omega (arith, a, c)

pub got_stays : (i : ℕ) (v w : View Asked) (word : ℕ) (k : Parts) (call : Asked) → GotLock i v w word k call → Stays v w
got_stays i v w word k call g = did_stays i v w _ (one i (Locker k.first call)) (one_silent i (Locker k.first call) (λ x y. refl) (λ x y. refl)) g.did

-- a lock that was given back at its attempt opened its id, or an error was handed out instead
pub opened_stays : (u w : View Asked) (k : IdLock Asked) → UnlockOk u w k.slot (parts k.word.0) k.content false Open → Stays u w
opened_stays u w k h = did_stays k.slot u w _ _ (silent_still k.slot (parts k.word.0) h.1 h.2.attempt_is) h.4

pub handed_stays : (u w : View Asked) (k l : IdLock Asked) (code : ℕ) (attempt : Option ℕ) → UnlockOk u w k.slot (parts k.word.0) k.content false (Next l code attempt) → Stays u w
handed_stays u w k l code attempt h = did_stays k.slot u w _ _ (silent_still k.slot (parts k.word.0) (parts l.word.0) h.4.1.attempt_is) h.3

pub handed_later : (u w : View Asked) (k l : IdLock Asked) (advance : Bool) (code : ℕ) (attempt : Option ℕ) → UnlockOk u w k.slot (parts k.word.0) k.content advance (Next l code attempt) → Later u w
handed_later u w k l advance code attempt h = did_later k.slot u w _ _ h.3

-- its attempt advanced
did_steps : (k : IdLock Asked) (v w : View Asked) (q : Parts) (ts : List (Token Asked)) → q.attempt ≡ (parts k.word.0).attempt + 1 → Did k.slot v w ts (advance_note k.slot (parts k.word.0) q) → Steps k v w
did_steps k v w q ts up d = record {
  later = did_later k.slot v w ts _ d;
  queued = λ j first e. (let a = more (is_queued first e) (queued_silent first e) j in let b = none_of_one (is_queued first e) (queued_silent first e) k.slot (Attempt (parts k.word.0).first q.attempt) refl j in omega (arith, a, b));
  advanced = λ j first n h. (
      let a = more (is_attempt first n) (attempt_silent first n) j in
      dite (ℕ_discrete (advanced_in j first n (one k.slot (Attempt (parts k.word.0).first q.attempt))) 0)
      (λ z. inl (omega (arith, a, z, h)))
      (λ ne. inr (let e = advanced_one k.slot j first n (parts k.word.0).first q.attempt (omega (arith, ne)) in (e.0, e.1, sym e.2 ∙ up)))
      );
}
  where
    more : (W : Note Asked → ℕ) → ((n : Note Asked) → is_event n ≡ false → W n ≡ 0) → (j : ℕ) → total W (notes_of j w.notes) ≡ total W (notes_of j (one k.slot (Attempt (parts k.word.0).first q.attempt))) + total W (notes_of j v.notes)
    more W silent j = did_total W silent k.slot v w ts (advance_note k.slot (parts k.word.0) q) d j ∙ ap (λ (l : List (Noted Asked)). total W (notes_of j l) + total W (notes_of j v.notes)) (one_further k.slot (parts k.word.0) q up)

pub opened_steps : (u w : View Asked) (k : IdLock Asked) → UnlockOk u w k.slot (parts k.word.0) k.content true Open → Steps k u w
opened_steps u w k h = did_steps k u w h.1 _ h.2.attempt_is h.4

pub handed_steps : (u w : View Asked) (k l : IdLock Asked) (code : ℕ) (attempt : Option ℕ) → UnlockOk u w k.slot (parts k.word.0) k.content true (Next l code attempt) → Steps k u w
handed_steps u w k l code attempt h = did_steps k u w (parts l.word.0) _ h.4.1.attempt_is h.3
