-- An `expire` that got the lock of the call ended it, and told that.
use Rattle.std.proofs.Common.{◌≡◌, ℕ, ◌+◌, ◌≤◌, ◌<◌, true, false, List, [], ◌∷◌, ◌++◌, None, refl, sym, ap, ◌∙◌, subst, arith}
use Rattle.std.specs.Prelude.{Option as Maybe}
use Rattle.sock_words.specs.ErrorCodes.{EINTERNAL, ERPCTIMEDOUT}
use Rattle.sock_words.specs.declared.outcome.Outcome.{Outcome}
use Rattle.sock_words.specs.declared.outcome.Outcome.TheVariants as outcome
use Rattle.corr_core.specs.IdSlotWord.{parts}
use Rattle.corr_core.specs.IdSlotLaw.{is_ended}
use Rattle.corr_core.specs.declared.marks.Kept.{Kept}
use Rattle.corr_core.specs.declared.marks.Note.TheVariants.{Ended}
use Rattle.corr_core.specs.declared.marks.Noted.{Noted}
use Rattle.corr_core.specs.declared.marks.Plan as id_plan
use Rattle.corr_core.proofs.NoteSums.{only-same, pair-same}
use Rattle.id_rule.specs.LawfulIdTable.{call_index}
use Rattle.sock_message.specs.Asked.{Asked}
use Rattle.corr_id.specs.declared.calls.IdLock.{IdLock}
use Rattle.corr_id.specs.declared.posts.Posted.{Posted}
use Rattle.corr_id.specs.declared.posts.Posted.TheVariants.{Locked as HasLock}
use Rattle.corr_id.specs.SeatBehindIdCalls.{one}
use Rattle.call_told.specs.Below.CallTable.DecisionVariants as decisions
use Rattle.call_told.specs.Below.CallErrors.ClientBooks.{Books, CallStand, starving, Tells, told, lost}
use Rattle.call_told.specs.Below.CallErrors.CallEndsWithCode.{EndedWith, failed}
use Rattle.call_told.specs.Below.CallErrors.Handling.{Decided, decision}
use Rattle.call_told.specs.Below.CallErrors.Handling as handling
use Rattle.call_told.specs.Below.CallErrors.PostedErrors.{PostedAs}
use Rattle.call_told.specs.Below.CallErrors.ExpireAndJoinOutcomes.{found_id, outcome_by, TimedOut}
use Rattle.call_told.specs.Least.{is_locked_for}
use Rattle.call_told.proofs.Balance.{noted_ends, noted_more}
use Rattle.call_told.proofs.ToldCallEnds.{HasLocked, got_locked, counted_here}
use Rattle.call_told.proofs.RestingCallsEnded.{is_word}
use Rattle.call_told.proofs.ClientTellingMoves.{posted, decided}
use Rattle.sock_words.specs.PackedWords.{id_slot, id_first}
use Rattle.sock_words.specs.Totals.{total}

-- where memory is there behind it, the end is told
ended_told : (k : IdLock Asked) (code : ℕ) (s t : CallStand) → t.books.starved ≡ false → EndedWith k code s t → t.books.told ≡ s.books.told ++ failed k code ∷ []
ended_told k code s t fed e = by e.tells
  where
    by : Tells (failed k code) s.books t.books → t.books.told ≡ s.books.told ++ failed k code ∷ []
    by (told is) = ap (λ (b : Books). b.told) is
    by (lost is) = let e : true ≡ false = sym (ap (λ (b : Books). b.starved) is) ∙ fed in absurd (cc)

ends_fed : (k : IdLock Asked) (code : ℕ) (s t : CallStand) → s.books.starved ≡ true → t.books.starved ≡ false → EndedWith k code s t → true ≡ false
ends_fed k code s t was fed e = by e.tells
  where
    by : Tells (failed k code) s.books t.books → true ≡ false
    by (told is) = sym was ∙ (sym (ap (λ (b : Books). b.starved) is) ∙ fed)
    by (lost is) = sym (ap (λ (b : Books). b.starved) is) ∙ fed

-- an error for the whole call ends it, where memory is there behind it
whole_ends : (k : IdLock Asked) (code : ℕ) (attempt : Maybe ℕ) → attempt ≡ None → decision k code attempt ≡ decisions.Retry → true ≡ false
whole_ends k code attempt none_ e = let a : decisions.End ≡ decisions.Retry = sym (ap (decision k code) none_) ∙ e in absurd (cc)

decided_ends : {s : CallStand} {k : IdLock Asked} {code : ℕ} {attempt : Maybe ℕ} {t : CallStand} → Decided s k code attempt t → attempt ≡ None → t.books.starved ≡ false → EndedWith k code s t
decided_ends (handling.ends s k code attempt t a b e) none_ fed = e
decided_ends (handling.starves s k code attempt t a e) none_ fed = let z = ends_fed k EINTERNAL (record { view = s.view; books = starving s.books }) t refl fed e in absurd (cc)
decided_ends (handling.waits s k code attempt t a b e) none_ fed = let z = whole_ends k code attempt none_ b in absurd (cc)
decided_ends (handling.goes_on s k code attempt t u l next of a b e rest) none_ fed = let z = whole_ends k code attempt none_ b in absurd (cc)

-- and one end more is noted of its id
once_more : (k : IdLock Asked) (code : ℕ) (s u t : CallStand) (id : ℕ) → k.slot ≡ id_slot id → (parts k.word.0).first ≡ id_first id → noted_ends k.slot (parts k.word.0).first s.view.notes ≤ noted_ends k.slot (parts k.word.0).first u.view.notes → EndedWith k code u t
    → 1 + noted_ends (id_slot id) (id_first id) s.view.notes ≤ noted_ends (id_slot id) (id_first id) t.view.notes
once_more k code s u t id slot first grows e =
    let i : ℕ = k.slot in let f : ℕ = (parts k.word.0).first in let now : List (Noted Asked) = one i (Ended f (parts k.word.0).attempt) in
    let more : ℕ → ℕ → Type 0 = λ j g. 1 + noted_ends j g s.view.notes ≤ noted_ends j g t.view.notes in
    let a = ap (noted_ends i f) e.ended.notes in let b = noted_more i f now u.view.notes in let c : noted_ends i f now ≡ 1 = counted_here (is_ended f) i (Ended f (parts k.word.0).attempt) ∙ only-same f in
    let here : more i f = omega (arith, a, b, c, grows) in
    subst (λ (j : ℕ). more j (id_first id)) slot (subst (λ (g : ℕ). more i g) first here)

module _ (q : id_plan.Plan) where
  -- the id that was found where the operation's word is, locked and ended
  pub record EndsAs (operation : ℕ) (s t : CallStand) : Type 0 where
    pub id : ℕ
    pub lock : IdLock Asked
    pub slot_is : lock.slot ≡ id_slot id
    pub inside : lock.slot < q.slots
    pub first_is : (parts lock.word.0).first ≡ id_first id
    pub locked : HasLocked lock.slot (parts lock.word.0).first lock.content.operation t.view
    pub told : t.books.told ≡ s.books.told ++ failed lock ERPCTIMEDOUT ∷ []
    pub found : 0 < total (is_word (call_index q operation) id) t.view.kept
    pub ended : 1 + noted_ends (id_slot id) (id_first id) s.view.notes ≤ noted_ends (id_slot id) (id_first id) t.view.notes

  -- the id that was found is kept in mind
  pub timed_out_word : (operation : ℕ) (by : Outcome) (s t : CallStand) (h : TimedOut q operation by s t) → 0 < total (is_word (call_index q operation) h.id) t.view.kept
  timed_out_word operation by s t h =
      let w : Kept → ℕ = is_word (call_index q operation) h.id in let u = found_id q operation h.id s in
      let a = (posted q operation u h.id ERPCTIMEDOUT None t (h.answer, h.posted)).grows.kept w in let b = pair-same (call_index q operation) h.id in omega arith

  pub timed_out_ends : (operation : ℕ) (s t : CallStand) → TimedOut q operation outcome.Expired s t → t.books.starved ≡ false → EndsAs operation s t
  timed_out_ends operation s t h fed = by h.answer h.by_answer h.posted
    where
      found : 0 < total (is_word (call_index q operation) h.id) t.view.kept
      found = timed_out_word operation outcome.Expired s t h

      by : (answer : Posted Asked) → outcome.Expired ≡ outcome_by answer → PostedAs q.slots answer (found_id q operation h.id s) h.id ERPCTIMEDOUT None t → EndsAs operation s t
      by (HasLock k) e p =
          let u : CallStand = record { view = p.view; books = s.books } in let g = p.post.4 in let end = decided_ends p.handled refl fed in
          let has = got_locked k.slot (found_id q operation h.id s).view p.view g.0 (parts k.word.0) k.content g.1 in
          let grows = (decided q 0 p.handled (p.post.1, has)).grows.notes k.slot (is_locked_for (parts k.word.0).first k.content.operation) in record {
            id = h.id;
            lock = k;
            slot_is = p.post.0;
            inside = p.post.1;
            first_is = p.post.2;
            locked = omega (arith, grows, has);
            told = ended_told k ERPCTIMEDOUT u t fed end;
            found = found;
            ended = once_more k ERPCTIMEDOUT s u t h.id p.post.0 p.post.2 (g.1.did.grows k.slot (is_ended (parts k.word.0).first)) end;
          }
      by _ e p = absurd (cc)
