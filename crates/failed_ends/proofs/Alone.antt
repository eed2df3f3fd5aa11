-- What is known of a call that a link's reader, or a client by an error that it queued, ended with 1014: the link gave no response of it.
use Rattle.std.proofs.Common.{◌≡◌, ℕ, ◌+◌, ◌*◌, ◌<◌, ◌≤◌, true, List, sym, ap, ◌∙◌, subst, arith}
use mathlib.Core.Logic.{dite}
use mathlib.Core.Option.{some, some-injective}
use native.Mathlib.Decide.{ℕ_discrete}
use lib.ListN.{get_elem?}
use Rattle.sock_words.specs.ErrorCodes.{EEOF}
use Rattle.sock_words.specs.declared.plain.Plan as sizes
use Rattle.sock_io.specs.declared.link.Out.{Ghosts}
use Rattle.corr_core.specs.IdSlotLaw.{is_made, is_ended}
use Rattle.corr_core.specs.IdSlotWord.{Parts, parts}
use Rattle.corr_core.specs.declared.marks.Kept.{Kept}
use Rattle.corr_core.specs.declared.marks.Note.TheVariants.{Made}
use Rattle.corr_core.specs.declared.marks.Noted.{Noted}
use Rattle.corr_core.specs.declared.marks.Plan.{Plan}
use Rattle.corr_core.specs.declared.marks.View.{View}
use Rattle.corr_core.proofs.NoteSums.{only-same}
use Rattle.corr_id.specs.id_rule.specs.LawfulIdTable.{notes_of}
use Rattle.corr_id.specs.SeatBehindIdCalls.{is_saw}
use Rattle.corr_id.specs.ClosingIdLists.{Closing}
use Rattle.sock_message.specs.Asked.{Asked}
use Rattle.failed_reasons.specs.Below.PrpcFrame.Frame.{Frame}
use Rattle.failed_reasons.specs.Below.RpcReader.Met.{is_asked}
use Rattle.failed_reasons.specs.Below.CallRun.ReadersOfLinks.{LinkReader, IsReader}
use Rattle.failed_reasons.specs.call_whys.specs.call_told.proofs.MetFrames.{Responds}
use Rattle.failed_reasons.specs.call_whys.specs.call_told.proofs.ToldByReaders.{reader_gave}
use Rattle.failed_reasons.specs.call_whys.specs.call_told.proofs.EndedCallsUnanswered.{EndOf}
use Rattle.failed_reasons.proofs.CodesOfReadingEnds.{ReadEnded}
use Rattle.failed_ends.proofs.Unmet.{NotesIn, HasMet, has_asked, reader_unanswered, reader_unwaited}
use Rattle.failed_reasons.proofs.Waits.{WaitsAt}
use Rattle.failed_reasons.specs.call_whys.specs.call_places.proofs.NoteWeights.{two_terms}
use Rattle.sock_words.specs.Totals.{total}

module _ (q : Plan) (notes : List (Noted Asked)) (kept : List Kept) (words : List ℕ) (closed : Closing q notes kept words) where
  -- a range is made once, with one length
  same_length : (slot first r r' j j' : ℕ) (a a' : Asked) → slot < q.slots → get_elem? (notes_of slot notes) j ≡ some (Made first r a) → get_elem? (notes_of slot notes) j' ≡ some (Made first r' a') → r ≡ r'
  same_length slot first r r' j j' a a' inside e e' = dite (ℕ_discrete j j')
      (λ same. let k : Made first r a ≡ Made first r' a' = some-injective (Made first r a) (Made first r' a') (sym e ∙ ap (get_elem? (notes_of slot notes)) same ∙ e') in cc)
      (λ ne. absurd (let t = two_terms (is_made first) (notes_of slot notes) j j' (Made first r a) (Made first r' a') e e' ne in let once = closed.made_once slot first inside in let one_ = only-same first in omega (arith, t, once, one_)))

  -- the range of a word that was found is the one that was made
  pub length_is : (slot word first r j : ℕ) (a : Asked) → slot < q.slots → 0 < total (is_saw word) (notes_of slot notes) → 0 < (parts word).state → (parts word).first ≡ first → get_elem? (notes_of slot notes) j ≡ some (Made first r a) → (parts word).range ≡ r
  length_is slot word first r j a inside saw taken is made =
      let m = closed.range_is slot word inside saw taken in
      same_length slot first (parts word).range r m.1 j m.0 a inside (m.2 ∙ ap (λ (f : ℕ). some (Made f (parts word).range m.0)) is) made

  -- what the bytes of a link have of the id that was made so
  abbrev pub NoResponse : ℕ → List ℕ → Type 0
  NoResponse id bytes = (slot first r j : ℕ) (a : Asked) → slot < q.slots → id ≡ slot * 4294967296 + first → first < 4294967296 → first + r ≤ 4294967296 → get_elem? (notes_of slot notes) j ≡ some (Made first r a) → Responds slot first r bytes → ⊥

  module _ {O : Type 0} {g : Ghosts O} (p : sizes.Plan) (calls : List ℕ) (x : LinkReader g) (is : IsReader p q calls x) (ended : ReadEnded p q calls x is EEOF) (noted : NotesIn x.books.view notes) where
    -- the reader, or main, told the call to have ended
    pub told_alone : (Given : Frame → Type 0) (asked : (f : Frame) → Given f → is_asked q.slots f ≡ true) → ((f : Frame) → HasMet p q calls x is f → Given f) → (v : View Asked) → NotesIn v notes → (id : ℕ) (h : EndOf q.slots Given asked v id) → NoResponse id (reader_gave p q calls x is)
    told_alone Given asked includes v inside id h slot first r j a within id_is small room made responds =
        let first_is : h.w.first ≡ (parts h.word).first = ap (λ (y : Parts). y.first) h.word_is in let range_is : h.w.range ≡ (parts h.word).range = ap (λ (y : Parts). y.range) h.word_is in
        let e = h.id_is in let low = h.low in
        let slots_ : slot ≡ h.slot = omega (arith, e, id_is, low, small) in
        let same : first ≡ h.w.first = omega (arith, e, id_is, low, small) in
        let saw = inside h.slot (is_saw h.word) in let found = h.found in let open_ = h.was_open in
        let its = length_is h.slot h.word first r j a h.inside (omega (arith, saw, found)) (omega (arith, open_)) (sym first_is ∙ sym same) (ap (λ (i : ℕ). get_elem? (notes_of i notes) j) (sym slots_) ∙ made) in
        let long : r ≡ h.w.range = sym its ∙ sym range_is in
        reader_unanswered p q calls x is ended notes kept words closed noted Given asked includes v inside id h (omega (arith, room, same, long))
        (subst (λ (n : ℕ). Responds h.slot h.w.first n (reader_gave p q calls x is)) long (subst (λ (n : ℕ). Responds h.slot n r (reader_gave p q calls x is)) same (subst (λ (n : ℕ). Responds n first r (reader_gave p q calls x is)) slots_ responds)))

    -- its error waits at the id, whose range another seat ended
    pub waits_alone : (i f : ℕ) → f < 4294967296 → (h : WaitsAt q.slots (HasMet p q calls x is) (has_asked p q calls x is) x.books.view i f) → total (is_ended f) (notes_of i x.books.view.notes) + 1 ≤ total (is_ended f) (notes_of i notes) → NoResponse (i * 4294967296 + f) (reader_gave p q calls x is)
    waits_alone i f low h more slot first r j a within id_is small room made responds =
        let slots_ : slot ≡ i = omega (arith, id_is, low, small) in let inside : i < q.slots = subst (λ (n : ℕ). n < q.slots) slots_ within in let same : first ≡ f = omega (arith, id_is, low, small) in
        let saw = noted i (is_saw h.word) in let found = h.found in let has = h.has in
        let its = length_is i h.word first r j a inside (omega (arith, saw, found)) has.1 (has.0 ∙ sym same) (ap (λ (k : ℕ). get_elem? (notes_of k notes) j) (sym slots_) ∙ made) in
        let begins : first ≡ (parts h.word).first = same ∙ sym has.0 in
        reader_unwaited p q calls x is ended notes kept words closed noted i f inside h more (omega (arith, room, begins, its))
        (subst (λ (n : ℕ). Responds i (parts h.word).first n (reader_gave p q calls x is)) (sym its) (subst (λ (n : ℕ). Responds i n r (reader_gave p q calls x is)) begins (subst (λ (n : ℕ). Responds n first r (reader_gave p q calls x is)) slots_ responds)))
