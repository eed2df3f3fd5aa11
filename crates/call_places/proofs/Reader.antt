-- Whoever reads a link, and ends the calls that are left, makes no id, and what its seat noted stays noted.
use Rattle.std.proofs.Common.{◌≡◌, ℕ, ◌+◌, ◌≤◌, List, [], refl, ap, ◌∙◌, arith}
use Rattle.std.specs.Prelude.{Option}
use Rattle.corr_core.specs.IdSlotWord.{Parts, parts}
use Rattle.corr_core.specs.declared.marks.Note.{Note}
use Rattle.corr_core.specs.declared.marks.Note.TheVariants.{Ended, Locker, Queued}
use Rattle.corr_core.specs.declared.marks.Token.{Token}
use Rattle.corr_core.specs.declared.marks.Noted.{Noted}
use Rattle.corr_core.specs.declared.marks.View.{View}
use Rattle.id_rule.specs.LawfulIdTable.{notes_of}
use Rattle.sock_message.specs.Asked.{Asked}
use Rattle.corr_id.specs.declared.posts.Posted.{Posted}
use Rattle.corr_id.specs.declared.posts.Posted.TheVariants.{Locked as HasLock, Queued as IsQueued}
use Rattle.corr_id.specs.SeatBehindIdCalls.{error_in, one, Quiet, Did, GotLock, Became}
use Rattle.corr_id.specs.PostAnswers.{PostOk}
use Rattle.corr_id.proofs.TokensOfIdCalls.{became_grows}
use Rattle.call_places.specs.ClientNotesCounted.{makes}
use Rattle.call_places.proofs.Spans.{Spans}
use Rattle.call_places.proofs.NoteWeights.{quiet_all, did_all, became_all}
use Rattle.call_places.proofs.Still.{makes_silent, NoneMade}
use Rattle.sock_words.specs.PackedWords.{id_slot, id_first}
use Rattle.sock_words.specs.Totals.{total}

-- a later view of the same seat, which made no id between
pub record MadeNone (v w : View Asked) : Type 0 where
  pub grows : (i : ℕ) (f : Note Asked → ℕ) → total f (notes_of i v.notes) ≤ total f (notes_of i w.notes)
  pub made : (o : ℕ) → total (makes o) w.notes ≡ total (makes o) v.notes

none_then : (u v w : View Asked) → MadeNone u v → MadeNone v w → MadeNone u w
none_then u v w a b = record { grows = λ i f. (let x = a.grows i f in let y = b.grows i f in omega arith); made = λ o. b.made o ∙ a.made o }

pub none_noted : (v w : View Asked) → w.notes ≡ v.notes → MadeNone v w
none_noted v w e = record { grows = λ i f. (let x = ap (λ (l : List (Noted Asked)). total f (notes_of i l)) e in omega arith); made = λ o. ap (total (makes o)) e }

none_quiet : (v w : View Asked) → Quiet v w → MadeNone v w
none_quiet v w q = record { grows = q.grows; made = λ o. quiet_all (makes o) (makes_silent o) v w q }

none_did : (i : ℕ) (v w : View Asked) (ts : List (Token Asked)) (es : List (Noted Asked)) → Did i v w ts es → NoneMade es → MadeNone v w
none_did i v w ts es d none_ = record { grows = d.grows; made = λ o. (let a = did_all (makes o) (makes_silent o) i v w ts es d in let z = none_ o in omega arith) }

none_got : (i : ℕ) (v w : View Asked) (word : ℕ) (k : Parts) (c : Asked) → GotLock i v w word k c → MadeNone v w
none_got i v w word k c g = none_did i v w _ (one i (Locker k.first c)) g.did (λ o. refl)

none_post : (slots : ℕ) (v w : View Asked) (id code : ℕ) (attempt : Option ℕ) (answer : Posted Asked) → PostOk slots v w id code attempt answer → MadeNone v w
none_post slots v w id code attempt (HasLock k) p = none_got k.slot v w p.4.0 (parts k.word.0) k.content p.4.1
none_post slots v w id code attempt IsQueued p = none_did (id_slot id) v w _ (one (id_slot id) (Queued (id_first id) (error_in code attempt))) p.0 (λ o. refl)
none_post slots v w id code attempt _ p = none_quiet v w p.0

none_ended : (i f n : ℕ) (v w : View Asked) → Became i v w [] (one i (Ended f n)) → MadeNone v w
none_ended i f n v w b = let one_end : List (Noted Asked) = one i (Ended f n) in record {
  grows = became_grows i v w [] one_end b;
  made = λ o. (let a : total (makes o) w.notes ≡ 0 + total (makes o) v.notes = became_all (makes o) i v w [] one_end b in omega arith);
}

pub none_reads : Spans MadeNone
none_reads = record { in_turn = none_then; noted = none_noted; looks = none_quiet; locks = none_got; posts = none_post; ends = none_ended }
