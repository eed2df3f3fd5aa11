-- What few kinds of changes of what a seat knows of ids keep, all do that come by reading a link, and by ending the calls that are left.
use Rattle.std.proofs.Common.{◌≡◌, ℕ, ◌⊎◌, inl, inr, Bool, true, false, List, [], ◌∷◌, Some, None, refl, ap}
use Rattle.std.specs.Prelude.{Option, position, ◌==◌}
use Rattle.std.specs.List.{remove}
use Rattle.sock_words.specs.PackedWords.{at_word_link, id_slot}
use Rattle.sock_words.specs.declared.at_word.AtWord.{AtWord}
use Rattle.sock_words.specs.declared.outcome.Outcome.{Outcome}
use Rattle.sock_words.specs.declared.outcome.Outcome.TheVariants.{CallFailed}
use Rattle.sock_io.specs.LinkHalves.{InState}
use Rattle.corr_core.specs.IdSlotWord.{Parts, parts}
use Rattle.corr_core.specs.declared.marks.Note.TheVariants.{Ended}
use Rattle.corr_core.specs.declared.marks.Plan.{Plan}
use Rattle.corr_core.specs.declared.marks.View.{View}
use Rattle.id_rule.specs.LawfulIdTable.{at_index, with_kept}
use Rattle.sock_message.specs.Asked.{Asked}
use Rattle.corr_id.specs.declared.posts.Posted.{Posted}
use Rattle.corr_id.specs.declared.posts.Posted.TheVariants.{Locked as HasLock}
use Rattle.corr_id.specs.SeatBehindIdCalls.{one, Quiet, GotLock, Became}
use Rattle.corr_id.specs.PostAnswers.{PostOk}
use Rattle.call_run.specs.rpc_reader.specs.prpc_frame.specs.FrameMeaning.{frame_of}
use Rattle.call_run.specs.rpc_reader.specs.prpc_frame.specs.declared.frame.Frame.{Frame}
use Rattle.brpc_model.specs.ResponseOutcome.{ending_of}
use Rattle.call_run.specs.rpc_reader.specs.ReaderBooks.{Books, EndedAs, id_of}
use Rattle.call_run.specs.rpc_reader.specs.Met.{slot_in, is_asked, is_for, MetIf, FramesMet}
use Rattle.call_run.specs.rpc_reader.specs.PostingAtReadingEnd.{LostBy, LockLost, PostedTo, PostedIf, PostedAt, PostedAll, call_at, attempt_at}
use Rattle.call_run.specs.rpc_reader.specs.LinkReading.{code_of}
use Rattle.call_run.specs.rpc_reader.specs.CallsLeftAfterReading.{HadEnded, EndedLast, OneEnded, RestEnded}
use Rattle.call_run.specs.rpc_reader.specs.ReaderRunFromOpen.{ReadLink}

-- it holds over two changes in turn, and where nothing was noted; where the table was looked at, where a lock was got, where a post was answered, and where a call ended
pub record Spans (R : View Asked → View Asked → Type 0) : Type 0 where
  pub in_turn : (u v w : View Asked) → R u v → R v w → R u w
  pub noted : (v w : View Asked) → w.notes ≡ v.notes → R v w
  pub looks : (v w : View Asked) → Quiet v w → R v w
  pub locks : (i : ℕ) (v w : View Asked) (word : ℕ) (k : Parts) (c : Asked) → GotLock i v w word k c → R v w
  pub posts : (slots : ℕ) (v w : View Asked) (id code : ℕ) (attempt : Option ℕ) (answer : Posted Asked) → PostOk slots v w id code attempt answer → R v w
  pub ends : (i f n : ℕ) (v w : View Asked) → Became i v w [] (one i (Ended f n)) → R v w

module _ {R : View Asked → View Asked → Type 0} (x : Spans R) where
  abbrev Along : Books → Books → Type 0
  Along b b' = R b.view b'.view

  same : (b b' : Books) → b' ≡ b → Along b b'
  same b b' e = x.noted b.view b'.view (ap (λ (y : Books). y.view.notes) e)

  ended : (slot : ℕ) (w : Parts) (call : Asked) (by : Outcome) (b b' : Books) → EndedAs slot w call by b b' → Along b b'
  ended slot w call by b b' e = x.ends slot w.first w.attempt b.view b'.view e.ended

  -- ## Frames

  module _ (slots : ℕ) where
    met : (a : Bool) (f : Frame) (b b' : Books) → MetIf a slots f b b' → Along b b'
    met true f b b' (inl a) = x.in_turn b.view a.locked b'.view (x.locks (slot_in f) b.view a.locked a.found a.word a.call a.got)
        (ended (slot_in f) a.word a.call (ending_of (id_of (slot_in f) a.word) (frame_of f)) (record b { view = a.locked }) b' a.ended)
    met true f b b' (inr l) = x.looks b.view b'.view l.quiet
    met false f b b' e = same b b' e

    frames : (fs : List Frame) (b b' : Books) → FramesMet slots fs b b' → Along b b'
    frames [] b b' m = same b b' m
    frames (f ∷ fs) b b' m = x.in_turn b.view m.0.view b'.view (met (is_asked slots f) f b m.0 m.1) (frames fs m.0 b' m.2)

  -- ## Codes

  module _ (code : ℕ) where
    lost : (slot : ℕ) (w : Parts) (call : Asked) (b b' : Books) → LockLost slot w call code b b' → Along b b'
    lost slot w call b b' l = by (position (is_for slot w) b.early) l
      where
        by : (o : Option ℕ) → LostBy slot w call code o b b' → Along b b'
        by None l = ended slot w call (CallFailed (id_of slot w) code) b b' l.0
        by (Some i) l = ended slot w call (ending_of (id_of slot w) (frame_of l.0)) b b' l.3

    posted_to : (answer : Posted Asked) (b b' : Books) → PostedTo code answer b b' → Along b b'
    posted_to (HasLock k) b b' h = lost k.slot (parts k.word.0) k.content b b' h
    posted_to _ b b' h = same b b' h

    posted_if : (a : Bool) (slots w : ℕ) (b b' : Books) → PostedIf a slots code w b b' → Along b b'
    posted_if false slots w b b' h = same b b' h
    posted_if true slots w b b' (inl m) = x.in_turn b.view m.seen b'.view (x.looks b.view m.seen m.quiet) (met slots (is_asked slots m.frame) m.frame (record b { view = m.seen; early = remove b.early m.place }) b' m.met)
    posted_if true slots w b b' (inr h) = x.in_turn b.view h.seen b'.view (x.posts slots b.view h.seen (call_at w) code (attempt_at w) h.answer h.posted) (posted_to h.answer (record b { view = h.seen }) b' h.then_)

    posted_at : (p : Plan) (link operation : ℕ) (found : Option AtWord) (b b' : Books) → PostedAt p link code operation found b b' → Along b b'
    posted_at p link operation None b b' h = same b b' h.same
    posted_at p link operation (Some w) b b' h = let v = with_kept (at_index p operation) false w.0 b.view in
        x.in_turn b.view v b'.view (x.noted b.view v refl) (posted_if (at_word_link w.0 == link) p.slots w.0 (record b { view = v }) b' h)

    posted : (p : Plan) (link : ℕ) (os : List ℕ) (b b' : Books) → PostedAll p link code os b b' → Along b b'
    posted p link [] b b' h = same b b' h
    posted p link (o ∷ os) b b' h = x.in_turn b.view h.0.view b'.view (posted_at p link o h.1.0 b h.0 h.1.1) (posted p link os h.0 b' h.2)

    -- ## What is left

    -- a call that had ended, or is ended now
    pub rested : (slots id : ℕ) (b b' : Books) → HadEnded slots id b b' ⊎ EndedLast slots code id b b' → Along b b'
    rested slots id b b' (inl h) = x.looks b.view b'.view h.quiet
    rested slots id b b' (inr l) = x.in_turn b.view l.locked b'.view (x.locks (id_slot id) b.view l.locked l.found l.word l.call l.got) (lost (id_slot id) l.word l.call (record b { view = l.locked }) b' l.lost)

    one_rested : (p : Plan) (operation : ℕ) (b b' : Books) → OneEnded p code operation b b' → Along b b'
    one_rested p operation b b' (inl n) = x.noted b.view b'.view (ap (λ (v : View Asked). v.notes) n.view)
    one_rested p operation b b' (inr n) = x.in_turn b.view n.seen b'.view (x.noted b.view n.seen (ap (λ (v : View Asked). v.notes) n.kept)) (rested p.slots n.id (record b { view = n.seen }) b' n.ends)

    pub rest_reads : (p : Plan) (os : List ℕ) (b b' : Books) → RestEnded p code os b b' → Along b b'
    rest_reads p [] b b' h = same b b' h
    rest_reads p (o ∷ os) b b' h = x.in_turn b.view h.0.view b'.view (one_rested p o b h.0 h.1) (rest_reads p os h.0 b' h.2)

  -- ## Links

  -- a link was read to its end
  pub link_reads : (q : Plan) (link : ℕ) (calls : List ℕ) (ending short : Bool) (s t : InState) (b b' : Books) → ReadLink q link calls ending short s t b b' → Along b b'
  link_reads q link calls ending short s t b b' r = let m = r.met in let all = r.read.met in
      x.in_turn b.view m.view b'.view (frames q.slots all.frames b m all.met) (posted (code_of r.how) q link calls m b' r.posted)
