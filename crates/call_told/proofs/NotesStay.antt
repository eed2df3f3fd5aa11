-- What a seat noted stays noted.
use Rattle.std.proofs.Common.{◌≡◌, ℕ, ◌≤◌, true, false, cond, List, [], ◌∷◌, ◌++◌, append_assoc, Some, refl, sym, ap, ◌∙◌, arith}
use Rattle.std.specs.List.{AllByRecursion, flat_map}
use Rattle.std.specs.Prelude.{Option as Maybe, slice_get}
use Rattle.corr_core.specs.IdSlotWord.{Parts, parts}
use Rattle.corr_core.specs.IdSlotLaw.{is_any_made}
use Rattle.corr_core.specs.declared.marks.Note.{Note}
use Rattle.corr_core.specs.declared.marks.Note.TheVariants.{Ended, Locker, Queued}
use Rattle.corr_core.specs.declared.marks.Noted.{Noted}
use Rattle.corr_core.specs.declared.marks.Token.{Token}
use Rattle.corr_core.specs.declared.marks.View.{View}
use Rattle.id_rule.specs.LawfulIdTable.{notes_of}
use Rattle.sock_message.specs.Asked.{Asked}
use Rattle.corr_id.specs.declared.posts.Posted.{Posted}
use Rattle.corr_id.specs.declared.posts.Posted.TheVariants.{Locked as HasLock, Queued as IsQueued}
use Rattle.corr_id.specs.SeatBehindIdCalls.{Became, Did, Quiet, GotLock, one, is_event, events, is_saw, error_in}
use Rattle.corr_id.specs.PostAnswers.{PostOk}
use Rattle.corr_id.proofs.TokensOfIdCalls.{quiet_none, did_none, did_more}
use Rattle.corr_id.proofs.IdSeatSplits.{notes_append, total_append}
use Rattle.call_deeds.specs.Below.RpcClient.Told.{Told}
use Rattle.call_told.specs.TellersOfCallEnds.{HasNoted, HasEnded, ToldFrom}
use Rattle.call_told.proofs.ListElementsByPlace.{at_front, at_back, all_both, all_then}
use Rattle.sock_words.specs.PackedWords.{id_slot, id_first}
use Rattle.sock_words.specs.Totals.{total}

-- none of these is that an id was made
abbrev pub NoneMade : List (Noted Asked) → Type 0
NoneMade ns = AllByRecursion (λ (n : Noted Asked). is_any_made n.note ≡ 0) ns

-- a later view of the same seat, which made no id meanwhile
pub record Later (v w : View Asked) : Type 0 where
  pub added : List (Noted Asked)
  pub more : events w.notes ≡ added ++ events v.notes
  pub none_made : NoneMade added
  pub grows : (j : ℕ) (g : Note Asked → ℕ) → total g (notes_of j v.notes) ≤ total g (notes_of j w.notes)

pub later_same : (v w : View Asked) → w.notes ≡ v.notes → Later v w
later_same v w e = record { added = []; more = ap events e; none_made = tt; grows = λ j g. (let x = ap (λ (l : List (Noted Asked)). total g (notes_of j l)) e in omega arith) }

pub later_then : (u v w : View Asked) → Later u v → Later v w → Later u w
later_then u v w a b = record {
  added = b.added ++ a.added;
  more = b.more ∙ ap (λ (l : List (Noted Asked)). b.added ++ l) a.more ∙ sym (append_assoc b.added a.added (events u.notes));
  none_made = all_both (λ (n : Noted Asked). is_any_made n.note ≡ 0) b.added a.added b.none_made a.none_made;
  grows = λ j g. (let x = a.grows j g in let y = b.grows j g in omega arith);
}

pub quiet_later : (v w : View Asked) → Quiet v w → Later v w
quiet_later v w q = record { added = []; more = q.events_same; none_made = tt; grows = q.grows }

pub did_later : (i : ℕ) (v w : View Asked) (ts : List (Token Asked)) (es : List (Noted Asked)) → Did i v w ts es → NoneMade es → Later v w
did_later i v w ts es d none_ = record { added = es; more = d.added; none_made = none_; grows = d.grows }

pub got_later : (slot word : ℕ) (w : Parts) (call : Asked) (u v : View Asked) → GotLock slot u v word w call → Later u v
got_later slot word w call u v got = did_later slot u v _ (one slot (Locker w.first call)) got.did (refl, tt)

pub became_did : (i : ℕ) (v w : View Asked) (ts : List (Token Asked)) (ns : List (Noted Asked)) → Became i v w ts ns → Did i v w ts (events ns ++ [])
became_did i v w ts ns b = did_more i v v w _ ts [] ns (did_none i v v (quiet_none v)) b

-- an id ended
pub end_later : {attempt : ℕ} (slot first : ℕ) (v w : View Asked) → Became slot v w [] (one slot (Ended first attempt)) → Later v w
end_later {attempt} slot first v w b = did_later slot v w [] _ (became_did slot v w [] (one slot (Ended first attempt)) b) (refl, tt)

pub post_later : (slots : ℕ) (v w : View Asked) (id code : ℕ) (attempt : Maybe ℕ) (answer : Posted Asked) → PostOk slots v w id code attempt answer → Later v w
post_later slots v w id code attempt (HasLock k) p = got_later k.slot p.4.0 (parts k.word.0) k.content v w p.4.1
post_later slots v w id code attempt IsQueued p = did_later (id_slot id) v w _ (one (id_slot id) (Queued (id_first id) (error_in code attempt))) p.0 (refl, tt)
post_later slots v w id code attempt _ p = quiet_later v w p.0

-- ## Events

events_append : (a b : List (Noted Asked)) → events (a ++ b) ≡ events a ++ events b
events_append [] b = refl
events_append (x ∷ xs) b = let r = events_append xs b in
    elim (is_event x.note) as (λ z. cond z (x ∷ events (xs ++ b)) (events (xs ++ b)) ≡ cond z (x ∷ events xs) (events xs) ++ events b) [ true ↦ ap (λ l. x ∷ l) r | false ↦ r ]

-- all notes of the one are among those of the other
pub record NotesIn (ns ms : List (Noted Asked)) : Type 0 where
  pub noted : (x : Noted Asked) → (i : ℕ) × (slice_get (events ns) i ≡ Some x) → (i : ℕ) × (slice_get (events ms) i ≡ Some x)
  pub grows : (j : ℕ) (g : Note Asked → ℕ) → total g (notes_of j ns) ≤ total g (notes_of j ms)

pub later_in : (v w : View Asked) → Later v w → NotesIn v.notes w.notes
later_in v w l = record { noted = λ x h. (let r = at_back l.added (events v.notes) x h in (r.0, ap (λ (es : List (Noted Asked)). slice_get es r.0) l.more ∙ r.1)); grows = l.grows }

pub in_then : (a b c : List (Noted Asked)) → NotesIn a b → NotesIn b c → NotesIn a c
in_then a b c s t = record { noted = λ x h. t.noted x (s.noted x h); grows = λ j g. (let x = s.grows j g in let y = t.grows j g in omega arith) }

in_front : (ns ms : List (Noted Asked)) → NotesIn ns (ns ++ ms)
in_front ns ms = record {
  noted = λ x h. (h.0, ap (λ (es : List (Noted Asked)). slice_get es h.0) (events_append ns ms) ∙ at_front (events ns) (events ms) h.0 x h.1);
  grows = λ j g. (let a = ap (total g) (notes_append j ns ms) in let b = total_append g (notes_of j ns) (notes_of j ms) in omega arith);
}

in_back : (ns ms : List (Noted Asked)) → NotesIn ms (ns ++ ms)
in_back ns ms = record {
  noted = λ x h. (let r = at_back (events ns) (events ms) x h in (r.0, ap (λ (es : List (Noted Asked)). slice_get es r.0) (events_append ns ms) ∙ r.1));
  grows = λ j g. (let a = ap (total g) (notes_append j ns ms) in let b = total_append g (notes_of j ns) (notes_of j ms) in omega arith);
}

-- those of each are among those of all together
pub all_in : {X : Type 0} (f : X → List (Noted Asked)) (xs : List X) → AllByRecursion (λ (x : X). NotesIn (f x) (flat_map f xs)) xs
all_in f [] = tt
all_in {X} f (x ∷ xs) = (
  in_front (f x) (flat_map f xs),
  all_then (λ (y : X). NotesIn (f y) (flat_map f xs)) (λ (y : X). NotesIn (f y) (f x ++ flat_map f xs)) xs (λ y n. in_then (f y) (flat_map f xs) (f x ++ flat_map f xs) n (in_back (f x) (flat_map f xs))) (all_in f xs),
)

-- a call that ended by some notes ended by all of them
pub ended_in : (slot : ℕ) (w : Parts) (call : Asked) (u v : View Asked) → NotesIn u.notes v.notes → HasEnded slot w call u → HasEnded slot w call v
ended_in slot w call u v n h = record {
  word = h.word;
  found = (let a = h.found in let b = n.grows slot (is_saw h.word) in omega arith);
  was_open = h.was_open;
  word_is = h.word_is;
  locked = n.noted (record { slot = slot; note = Locker w.first call }) h.locked;
  ended = n.noted (record { slot = slot; note = Ended w.first w.attempt }) h.ended;
}

pub told_in : (slots links : ℕ) (gave : ℕ → List ℕ) (u v : View Asked) → NotesIn u.notes v.notes → (x : Told) → ToldFrom slots links gave u x → ToldFrom slots links gave v x
told_in slots links gave u v n x t = record { slot = t.slot; inside = t.inside; word = t.word; call = t.call; lock = ended_in t.slot t.word t.call u v n t.lock; number = t.number; by = t.by }

pub noted_later : (slot : ℕ) (n : Note Asked) (v w : View Asked) → Later v w → HasNoted slot n v → HasNoted slot n w
noted_later slot n v w l h = (later_in v w l).noted (record { slot = slot; note = n }) h

pub ended_later : (slot : ℕ) (w : Parts) (call : Asked) (u v : View Asked) → Later u v → HasEnded slot w call u → HasEnded slot w call v
ended_later slot w call u v l h = ended_in slot w call u v (later_in u v l) h

-- what was locked has ended
pub has_ended : (slot : ℕ) (w : Parts) (call : Asked) (u v v' : View Asked) (word : ℕ) → GotLock slot u v word w call → Became slot v v' [] (one slot (Ended w.first w.attempt)) → HasEnded slot w call v'
has_ended slot w call u v v' word got b =
    let d = became_did slot v v' [] (one slot (Ended w.first w.attempt)) b in
    let l = end_later slot w.first v v' b in
    record {
      word = word;
      found = (let a = got.found in let c = l.grows slot (is_saw word) in omega arith);
      was_open = got.was_open;
      word_is = got.word_is;
      locked = noted_later slot (Locker w.first call) v v' l (0, ap (λ (es : List (Noted Asked)). slice_get es 0) got.did.added);
      ended = (0, ap (λ (es : List (Noted Asked)). slice_get es 0) d.added);
    }
