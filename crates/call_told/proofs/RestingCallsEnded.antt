-- Each call whose id was made and noted has ended once it was asked for all calls that are left.
use Rattle.std.proofs.Common.{◌≡◌, ℕ, zero, suc, ◌<◌, ◌≤◌, ◌⊎◌, inl, inr, cond, eq-eqb, List, [], ◌∷◌, Some, None, refl, ap, ◌∙◌, subst, arith}
use Rattle.std.specs.Prelude.{Option, slice_get, position}
use Rattle.corr_core.specs.IdSlotWord.{Parts, parts}
use Rattle.corr_core.specs.IdSlotLaw.{only, pair, is_made, is_ended}
use Rattle.corr_core.specs.declared.marks.Kept.{Kept}
use Rattle.corr_core.specs.declared.marks.Note.TheVariants.{Ended}
use Rattle.corr_core.specs.declared.marks.Plan.{Plan}
use Rattle.corr_core.specs.declared.marks.View.{View}
use Rattle.corr_core.proofs.NoteSums.{only-same, pair-same}
use Rattle.id_rule.specs.LawfulIdTable.{call_index, notes_of}
use Rattle.sock_message.specs.Asked.{Asked}
use Rattle.corr_id.specs.SeatBehindIdCalls.{Found, OutOf, one, is_saw}
use Rattle.corr_id.specs.ClosingIdLists.{Closing}
use Rattle.corr_id.specs.Ruled.{is_place}
use Rattle.sock_words.specs.declared.outcome.Outcome.{Outcome}
use Rattle.call_deeds.specs.Below.RpcReader.ReaderBooks.{Books, EndedAs}
use Rattle.call_deeds.specs.Below.RpcReader.Met.{is_for}
use Rattle.call_deeds.specs.Below.RpcReader.PostingAtReadingEnd.{LostBy, LockLost}
use Rattle.call_deeds.specs.Below.RpcReader.CallsLeftAfterReading.{HadEnded, EndedLast, OneEnded, RestEnded}
use Rattle.call_told.proofs.Balance.{noted_ends, noted_more, noted_one}
use Rattle.call_told.proofs.GrowingCallNotes.{Grows}
use Rattle.call_told.proofs.ListElementsByPlace.{some_same}
use Rattle.call_told.proofs.Tallies.{id_tally, one_tally, rest_accounts}
use Rattle.sock_words.specs.PackedWords.{id_slot, id_first}
use Rattle.sock_words.specs.Totals.{total}

-- 1 where it is this word at this place
abbrev pub is_word : ℕ → ℕ → Kept → ℕ
is_word x word k = pair x word k.place k.word

-- ## An end that is noted

one_noted : (i f n : ℕ) → noted_ends i f (one i (Ended f n)) ≡ 1
one_noted i f n = noted_one i f i f n ∙ ap (λ b. cond b (only f f) 0) (eq-eqb i i refl) ∙ only-same f

as_noted : (i : ℕ) (w : Parts) (call : Asked) (by : Outcome) (b b' : Books) → EndedAs i w call by b b' → 0 < noted_ends i w.first b'.view.notes
as_noted i w call by b b' e =
    let a = ap (noted_ends i w.first) e.ended.notes in let c = noted_more i w.first (one i (Ended w.first w.attempt)) b.view.notes in let d = one_noted i w.first w.attempt in omega arith

lost_noted : (i : ℕ) (w : Parts) (call : Asked) (code : ℕ) (b b' : Books) → LockLost i w call code b b' → 0 < noted_ends i w.first b'.view.notes
lost_noted i w call code b b' lost = by (position (is_for i w) b.early) lost
  where
    by : (o : Option ℕ) → LostBy i w call code o b b' → 0 < noted_ends i w.first b'.view.notes
    by None l = as_noted i w call _ b b' l.0
    by (Some at) l = as_noted i w call _ b b' l.3

module _ (p : Plan) (code operation id : ℕ) (inside : id_slot id < p.slots) where
  abbrev slot : ℕ
  slot = id_slot id

  abbrev first : ℕ
  first = id_first id

  abbrev place : ℕ
  place = call_index p operation

  -- the seat knows of the id that it was made
  abbrev IsKnown : Books → Type 0
  IsKnown b = 0 < total (is_made first) (notes_of slot b.view.notes)

  -- and that an id was noted for the operation
  abbrev IsNoted : Books → Type 0
  IsNoted b = 0 < total (is_place place) b.view.kept

  -- its end is noted, or a word with a later range was found
  abbrev pub IsOver : Books → Type 0
  IsOver b = (0 < noted_ends slot first b.view.notes) ⊎ ((word : ℕ) × Found slot word b.view × (first < (parts word).first))

  -- an id was found noted for the operation, and if it was this one it is over
  pub record IsSeen (b : Books) : Type 0 where
    pub found : ℕ
    pub word : 0 < total (is_word place found) b.view.kept
    pub over : found ≡ id → IsOver b

  over_then : (b b' : Books) → Grows place 0 b.view b'.view → IsOver b → IsOver b'
  over_then b b' g (inl e) = inl (let a = g.notes slot (is_ended first) in omega arith)
  over_then b b' g (inr w) = inr (w.0, (let a = g.notes slot (is_saw w.0) in let f = w.1 in omega arith), w.2)

  seen_then : (b b' : Books) → Grows place 0 b.view b'.view → IsSeen b → IsSeen b'
  seen_then b b' g s = record { found = s.found; word = (let a = g.kept (is_word place s.found) in let w = s.word in omega arith); over = λ e. over_then b b' g (s.over e) }

  -- what becomes of the call with the id
  id_over : (b b' : Books) → IsKnown b → HadEnded p.slots id b b' ⊎ EndedLast p.slots code id b b' → IsOver b'
  id_over b b' known (inl h) = by h.cause
    where
      by : ((p.slots ≤ id_slot id) × (h.word ≡ 0)) ⊎ (Found (id_slot id) h.word b'.view × OutOf (parts h.word) (id_first id)) → IsOver b'
      by (inl none) = absurd (let a = none.0 in omega arith)
      by (inr found) = inr (h.word, found.0, h.later inside known)
  id_over b b' known (inr l) = inl (subst (λ (f : ℕ). 0 < noted_ends slot f b'.view.notes) (l.own known) (lost_noted slot l.word l.call code (record b { view = l.locked }) b' l.lost))

  one_seen : (b b' : Books) → IsKnown b → IsNoted b → OneEnded p code operation b b' → IsSeen b'
  one_seen b b' known noted (inl n) = absurd (let a = n.unknown in omega arith)
  one_seen b b' known noted (inr n) =
      let u : Books = record b { view = n.seen } in
      let here = ap (λ (v : View Asked). total (is_word place n.id) v.kept) n.kept in
      let still = ap (λ (v : View Asked). total (is_made first) (notes_of slot v.notes)) n.kept in
      let g = (id_tally code p n.id u b' n.ends).grows place in record {
        found = n.id;
        word = (let a = g.kept (is_word place n.id) in let c = pair-same place n.id in omega arith);
        over = λ e. id_over u b' (omega arith) (subst (λ (x : ℕ). HadEnded p.slots x u b' ⊎ EndedLast p.slots code x u b') e n.ends);
      }

  -- it was asked for the operation among others
  pub rest_seen : (os : List ℕ) (k : ℕ) (b b' : Books) → slice_get os k ≡ Some operation → IsKnown b → IsNoted b → RestEnded p code os b b' → IsSeen b'
  rest_seen [] k b b' at known noted h = absurd (cc)
  rest_seen (o ∷ os) zero b b' at known noted h = seen_then h.0 b' ((rest_accounts code p os h.0 b' h.2).grows place) (one_seen b h.0 known noted (subst (λ (x : ℕ). OneEnded p code x b h.0) (some_same o operation at) h.1))
  rest_seen (o ∷ os) (suc k) b b' at known noted h =
      let g = (one_tally code p o b h.0 h.1).grows place in
      rest_seen os k h.0 b' at (let a = g.notes slot (is_made first) in omega arith) (let a = g.kept (is_place place) in omega arith) h.2

  -- then the table was closed, in which no other id was noted for the operation
  pub seen_ended : (b : Books) (words : List ℕ) → IsKnown b → IsSeen b → ((found : ℕ) → 0 < total (is_word place found) b.view.kept → found ≡ id) → Closing p b.view.notes b.view.kept words → 0 < noted_ends slot first b.view.notes
  seen_ended b words known s alone closing = by (s.over (alone s.found s.word))
    where
      by : IsOver b → 0 < noted_ends slot first b.view.notes
      by (inl e) = e
      by (inr w) = let a : noted_ends slot first b.view.notes ≡ total (is_made first) (notes_of slot b.view.notes) = closing.later_is slot first w.0 inside w.1 w.2 in omega arith
