-- What is told by whoever meets frames, posts the end of a reading, or ends what is left, step by step; whatever is known of an end that is told.
use Rattle.std.proofs.Common.{◌≡◌, ℕ, suc, ◌<◌, Bool, true, false, List, [], ◌∷◌, ◌++◌, append_assoc, append-nil, ◌⊎◌, inl, inr, Some, None, refl, sym, ap, ◌∙◌, subst, arith}
use Rattle.std.specs.Prelude.{Option, slice_get, position, ◌==◌}
use Rattle.std.specs.List.{remove}
use Rattle.std.proofs.lemmas.List.Quantifiers.{position-Some}
use Rattle.sock_words.specs.PackedWords.{at_word_link, id_slot}
use Rattle.sock_words.specs.declared.at_word.AtWord.{AtWord}
use Rattle.sock_words.specs.declared.outcome.Outcome.{Outcome}
use Rattle.sock_words.specs.declared.outcome.Outcome.TheVariants.{CallFailed}
use Rattle.corr_core.specs.IdSlotWord.{Parts, parts}
use Rattle.corr_core.specs.declared.marks.Note.TheVariants.{Ended}
use Rattle.corr_core.specs.declared.marks.Plan.{Plan}
use Rattle.corr_core.specs.declared.marks.View.{View}
use Rattle.corr_core.specs.IdRangeVersions.{is_early}
use Rattle.id_rule.specs.LawfulIdTable.{at_index, call_index, with_kept}
use Rattle.corr_id.specs.declared.calls.IdLock.{IdLock}
use Rattle.corr_id.specs.declared.posts.Posted.{Posted}
use Rattle.corr_id.specs.declared.posts.Posted.TheVariants.{Locked as HasLock}
use Rattle.corr_id.specs.SeatBehindIdCalls.{Became, Quiet, GotLock, one}
use Rattle.corr_id.specs.PostAnswers.{PostOk}
use Rattle.sock_message.specs.Asked.{Asked}
use Rattle.brpc_model.specs.Frame as model
use Rattle.brpc_model.specs.ResponseOutcome.{ending_of}
use Rattle.prpc_frame.specs.FrameMeaning.{frame_of}
use Rattle.prpc_frame.specs.declared.frame.Frame.{Frame}
use Rattle.call_deeds.specs.Below.RpcClient.Told.{Told}
use Rattle.call_deeds.specs.Below.RpcReader.ReaderBooks.{Books, EndedAs, ToldBy, id_of}
use Rattle.call_deeds.specs.Below.RpcReader.Met.{has_response, slot_in, version_in, is_asked, is_for, AnsweredBy, LackedBy, KeptIf, MetIf, FrameMet, FramesMet}
use Rattle.call_deeds.specs.Below.RpcReader.PostingAtReadingEnd.{LostBy, LockLost, PostedTo, MetKept, PostedIf, PostedAt, PostedAll, call_at, attempt_at}
use Rattle.call_deeds.specs.Below.RpcReader.CallsLeftAfterReading.{HadEnded, EndedLast, OneEnded, RestEnded}
use Rattle.call_deeds.specs.Below.RpcReader.FramesMetInTurn.{asked_responds}
use Rattle.call_told.specs.TellersOfCallEnds.{IsGiven, AreGiven, IsGivenResponse, TellsEach}
use Rattle.call_told.proofs.ListElementsByPlace.{all_both, all_but, all_at, all_then, elem_or}
use Rattle.call_told.proofs.GivenResponseFrames.{given_response, for_is}

-- the end of a call
abbrev pub end_of : Asked → Outcome → Told
end_of call by = record { number = call.operation; outcome = by }

module _ (p : Plan) (links : ℕ) (gave : ℕ → List ℕ) (Later : View Asked → View Asked → Type 0) (Is : View Asked → Told → Type 0) where
  abbrev GivenAll : List Frame → Type 0
  GivenAll fs = AreGiven links gave fs

  -- from these books to those, whatever was kept before
  pub record Step (b b' : Books) : Type 0 where
    pub later : Later b.view b'.view
    pub tells : GivenAll b.early → TellsEach links gave Is b b'

  -- the seat locked the id in this slot, and its call ended so
  pub record Ends (b b' : Books) (slot : ℕ) (w : Parts) (call : Asked) (by : Outcome) : Type 0 where
    pub inside : slot < p.slots
    pub from : View Asked
    pub word : ℕ
    pub got : GotLock slot from b.view word w call
    pub ended : EndedAs slot w call by b b'

  -- what is known of later views, and of an end by a response that a link gave
  pub record Laws : Type 0 where
    pub in_turn : (u v w : View Asked) → Later u v → Later v w → Later u w
    pub same : (u v : View Asked) → v ≡ u → Later u v
    pub kept : (u v : View Asked) (place : ℕ) (own : Bool) (word : ℕ) → v ≡ with_kept place own word u → Later u v
    pub quiet : (u v : View Asked) → Quiet u v → Later u v
    pub got : (slot word : ℕ) (w : Parts) (call : Asked) (u v : View Asked) → GotLock slot u v word w call → Later u v
    pub ended : (slot first n : ℕ) (u v : View Asked) → Became slot u v [] (one slot (Ended first n)) → Later u v
    pub lasts : (u v : View Asked) → Later u v → (x : Told) → Is u x → Is v x
    pub response : (b b' : Books) (slot : ℕ) (w : Parts) (call : Asked) (by : Outcome) → Ends b b' slot w call by → (f : model.Frame) → IsGivenResponse links gave slot w f → by ≡ ending_of (id_of slot w) f → Is b'.view (end_of call by)

  module _ (laws : Laws) where
    pub step_then : (a b c : Books) → Step a b → Step b c → Step a c
    step_then a b c s t = record {
      later = laws.in_turn a.view b.view c.view s.later t.later;
      tells = λ given. let x = s.tells given in let y = t.tells x.early in record {
        more = x.more ++ y.more;
        told = y.told ∙ ap (λ (l : List Told). l ++ y.more) x.told ∙ append_assoc a.told x.more y.more;
        each = all_both (Is c.view) x.more y.more (all_then (Is b.view) (Is c.view) x.more (laws.lasts b.view c.view t.later) x.each) y.each;
        early = y.early;
      };
    }

    -- nothing was told
    step_quiet : (b b' : Books) → Later b.view b'.view → b'.told ≡ b.told → (GivenAll b.early → GivenAll b'.early) → Step b b'
    step_quiet b b' l e f = record { later = l; tells = λ given. record { more = []; told = e ∙ sym (append-nil b.told); each = tt; early = f given } }

    pub step_same : (b b' : Books) → b' ≡ b → Step b b'
    step_same b b' e = step_quiet b b' (laws.same b.view b'.view (ap (λ (x : Books). x.view) e)) (ap (λ (x : Books). x.told) e) (subst (λ (x : Books). GivenAll x.early) (sym e))

    -- only the view is another
    step_seen : (b : Books) (v : View Asked) → Later b.view v → Step b (record b { view = v })
    step_seen b v l = step_quiet b (record b { view = v }) l refl (λ given. given)

    step_ended : (b b' : Books) (slot : ℕ) (w : Parts) (call : Asked) (by : Outcome) → Ends b b' slot w call by → (GivenAll b.early → Is b'.view (end_of call by) × GivenAll b'.early) → Step b b'
    step_ended b b' slot w call by e f = record { later = laws.ended slot w.first w.attempt b.view b'.view e.ended.ended; tells = λ given. (let h = f given in tells h.0 h.1 e.ended.told) }
      where
        tells : Is b'.view (end_of call by) → GivenAll b'.early → ToldBy call.operation by b.told b.starved b'.told b'.starved → TellsEach links gave Is b b'
        tells is early (inl t) = record { more = end_of call by ∷ []; told = t.0; each = (is, tt); early = early }
        tells is early (inr t) = record { more = []; told = t.0 ∙ sym (append-nil b.told); each = tt; early = early }

    -- ## Frames

    module _ (f : Frame) (b b' : Books) (given : IsGiven links gave (frame_of f)) where
      answered_step : AnsweredBy p.slots f b b' → Step b b'
      answered_step a =
          let u : Books = record b { view = a.locked } in
          let by : Outcome = ending_of (id_of (slot_in f) a.word) (frame_of f) in
          let e : Ends u b' (slot_in f) a.word a.call by = record { inside = a.inside; from = b.view; word = a.found; got = a.got; ended = a.ended } in
          step_then b u b' (step_seen b a.locked (laws.got (slot_in f) a.found a.word a.call b.view a.locked a.got))
          (step_ended u b' (slot_in f) a.word a.call by e
          (λ kept. (laws.response u b' (slot_in f) a.word a.call by e (frame_of f) (given_response links gave (slot_in f) a.word f given refl a.version.0 a.version.1) refl, subst (λ (l : List Frame). GivenAll l) (sym a.early) kept)))

      kept_given : (c : Bool) → KeptIf c f b.early b.starved b'.early b'.starved → GivenAll b.early → GivenAll b'.early
      kept_given true (inl k) kept = subst (λ (l : List Frame). GivenAll l) (sym k.0) (all_both (λ x. IsGiven links gave (frame_of x)) b.early (f ∷ []) kept (given, tt))
      kept_given true (inr k) kept = subst (λ (l : List Frame). GivenAll l) (sym k.0) kept
      kept_given false k kept = subst (λ (l : List Frame). GivenAll l) (sym k.0) kept

      lacked_step : LackedBy f b b' → Step b b'
      lacked_step l = step_quiet b b' (laws.quiet b.view b'.view l.quiet) l.told (kept_given (is_early (version_in f) (parts l.word)) l.kept)

    frame_step : (f : Frame) (b b' : Books) → (has_response f.meta.response ≡ true → IsGiven links gave (frame_of f)) → FrameMet p.slots f b b' → Step b b'
    frame_step f b b' given met = by (is_asked p.slots f) refl met
      where
        by : (a : Bool) → is_asked p.slots f ≡ a → MetIf a p.slots f b b' → Step b b'
        by false e m = step_same b b' m
        by true e (inl a) = answered_step f b b' (given (asked_responds p.slots f e)) a
        by true e (inr l) = lacked_step f b b' (given (asked_responds p.slots f e)) l

    met_later : (f : Frame) (a : Bool) (b b' : Books) → MetIf a p.slots f b b' → Later b.view b'.view
    met_later f true b b' (inl a) = laws.in_turn b.view a.locked b'.view (laws.got (slot_in f) a.found a.word a.call b.view a.locked a.got) (laws.ended (slot_in f) a.word.first a.word.attempt a.locked b'.view a.ended.ended)
    met_later f true b b' (inr l) = laws.quiet b.view b'.view l.quiet
    met_later f false b b' e = laws.same b.view b'.view (ap (λ (x : Books). x.view) e)

    -- a response that was kept is met again
    again_step : (w : ℕ) (b b' : Books) → MetKept p.slots w b b' → Step b b'
    again_step w b b' m = let u : Books = record b { view = m.seen; early = remove b.early m.place } in let looks = laws.quiet b.view m.seen m.quiet in record {
      later = laws.in_turn b.view m.seen b'.view looks (met_later m.frame (is_asked p.slots m.frame) u b' m.met);
      tells = λ given. (step_then b u b' (step_quiet b u looks refl (all_but (λ x. IsGiven links gave (frame_of x)) m.place b.early)) (frame_step m.frame u b' (λ some_. all_at (λ x. IsGiven links gave (frame_of x)) b.early m.place m.frame given m.there) m.met)).tells given;
    }

    pub frames_step : (fs : List Frame) (b b' : Books) → ((m : ℕ) (f : Frame) → slice_get fs m ≡ Some f → has_response f.meta.response ≡ true → IsGiven links gave (frame_of f)) → FramesMet p.slots fs b b' → Step b b'
    frames_step [] b b' given m = step_same b b' m
    frames_step (f ∷ fs) b b' given m = step_then b m.0 b' (frame_step f b m.0 (given 0 f refl) m.1) (frames_step fs m.0 b' (λ i x e. given (suc i) x e) m.2)

    -- ## Codes

    module _ (code : ℕ) where
      -- a call whose id is locked ends with the code, of which this is known then, or with the first response that was kept of it
      abbrev Coded : (b b' : Books) (slot : ℕ) → Parts → Asked → Type 0
      Coded b b' slot w call = let by : Outcome = CallFailed (id_of slot w) code in Ends b b' slot w call by → Is b'.view (end_of call by)

      lost_step : (b b' : Books) (slot : ℕ) → slot < p.slots → (w : Parts) (call : Asked) (u : View Asked) (word : ℕ) → GotLock slot u b.view word w call → Coded b b' slot w call → LockLost slot w call code b b' → Step b b'
      lost_step b b' slot inside w call u word got coded lost = by (position (is_for slot w) b.early) refl lost
        where
          by : (o : Option ℕ) → position (is_for slot w) b.early ≡ o → LostBy slot w call code o b b' → Step b b'
          by None e l = let ends : Ends b b' slot w call (CallFailed (id_of slot w) code) = record { inside = inside; from = u; word = word; got = got; ended = l.0 } in
              step_ended b b' slot w call (CallFailed (id_of slot w) code) ends (λ kept. (coded ends, subst (λ (fs : List Frame). GivenAll fs) (sym l.1) kept))
          by (Some i) e l =
              let f = l.0 in let out : Outcome = ending_of (id_of slot w) (frame_of f) in
              let passes = (position-Some (is_for slot w) b.early i f e).1 in
              let is = for_is slot w f (ap (is_for slot w) (sym (elem_or b.early i f f l.1)) ∙ passes) in
              let ends : Ends b b' slot w call out = record { inside = inside; from = u; word = word; got = got; ended = l.3 } in
              step_ended b b' slot w call out ends (λ kept. (
                laws.response b b' slot w call out ends (frame_of f) (given_response links gave slot w f (all_at (λ x. IsGiven links gave (frame_of x)) b.early i f kept l.1) is.0 is.1 is.2) refl,
                subst (λ (fs : List Frame). GivenAll fs) (sym l.2) (all_but (λ x. IsGiven links gave (frame_of x)) i b.early kept),
              ))

      -- ## Posts

      -- it is posted for words of which this is known, behind the reading of this link
      module _ (link : ℕ) (IsPost : View Asked → ℕ → Type 0) (found : (operation word : ℕ) (v : View Asked) → (at_word_link word == link) ≡ true → IsPost (with_kept (at_index p operation) false word v) word)
          (stays : (u v : View Asked) → Later u v → (word : ℕ) → IsPost u word → IsPost v word) (seen : (u v : View Asked) (word : ℕ) (answer : Posted Asked) → PostOk p.slots u v (call_at word) code (attempt_at word) answer → Later u v)
          (coded : (word : ℕ) (k : IdLock Asked) (u : View Asked) (b b' : Books) → IsPost b.view word → PostOk p.slots u b.view (call_at word) code (attempt_at word) (HasLock k) → Coded b b' k.slot (parts k.word.0) k.content) where
        posted_to : (v : View Asked) (word : ℕ) (answer : Posted Asked) (b b' : Books) → IsPost b.view word → PostOk p.slots v b.view (call_at word) code (attempt_at word) answer → PostedTo code answer b b' → Step b b'
        posted_to v word (HasLock k) b b' is post h = lost_step b b' k.slot post.1 (parts k.word.0) k.content v post.4.0 post.4.1 (coded word k v b b' is post) h
        posted_to v word _ b b' is post h = step_same b b' h

        posted_if : (a : Bool) (word : ℕ) (b b' : Books) → (a ≡ true → IsPost b.view word) → PostedIf a p.slots code word b b' → Step b b'
        posted_if false word b b' is h = step_same b b' h
        posted_if true word b b' is (inl m) = again_step word b b' m
        posted_if true word b b' is (inr h) =
            let u : Books = record b { view = h.seen } in let later = seen b.view h.seen word h.answer h.posted in
            step_then b u b' (step_seen b h.seen later) (posted_to b.view word h.answer u b' (stays b.view h.seen later word (is refl)) h.posted h.then_)

        posted_at : (operation : ℕ) (w : Option AtWord) (b b' : Books) → PostedAt p link code operation w b b' → Step b b'
        posted_at operation None b b' h = step_same b b' h.same
        posted_at operation (Some w) b b' h =
            let v = with_kept (at_index p operation) false w.0 b.view in let u : Books = record b { view = v } in
            step_then b u b' (step_seen b v (laws.kept b.view v (at_index p operation) false w.0 refl)) (posted_if (at_word_link w.0 == link) w.0 u b' (found operation w.0 b.view) h)

        pub posted_all : (os : List ℕ) (b b' : Books) → PostedAll p link code os b b' → Step b b'
        posted_all [] b b' h = step_same b b' h
        posted_all (o ∷ os) b b' h = step_then b h.0 b' (posted_at o h.1.0 b h.0 h.1.1) (posted_all os h.0 b' h.2)

      -- ## What is left

      module _ (coded : (b b' : Books) (slot : ℕ) (w : Parts) (call : Asked) → w.first < 4294967296 → Coded b b' slot w call) where
        id_step : (id : ℕ) (b b' : Books) → HadEnded p.slots id b b' ⊎ EndedLast p.slots code id b b' → Step b b'
        id_step id b b' (inl h) = step_quiet b b' (laws.quiet b.view b'.view h.quiet) (ap (λ (x : Books). x.told) h.same) (subst (λ (l : List Frame). GivenAll l) (sym (ap (λ (x : Books). x.early) h.same)))
        id_step id b b' (inr l) =
            let u : Books = record b { view = l.locked } in
            step_then b u b' (step_seen b l.locked (laws.got (id_slot id) l.found l.word l.call b.view l.locked l.got))
            (lost_step u b' (id_slot id) l.inside l.word l.call b.view l.found l.got (coded u b' (id_slot id) l.word l.call (let a = l.range.0 in omega (arith, a))) l.lost)

        rest_one : (operation : ℕ) (b b' : Books) → OneEnded p code operation b b' → Step b b'
        rest_one operation b b' (inl n) = step_same b b' (n.same ∙ ap (λ (v : View Asked). record b { view = v }) n.view)
        rest_one operation b b' (inr n) = let u : Books = record b { view = n.seen } in step_then b u b' (step_seen b n.seen (laws.kept b.view n.seen (call_index p operation) false n.id n.kept)) (id_step n.id u b' n.ends)

        pub rest_step : (os : List ℕ) (b b' : Books) → RestEnded p code os b b' → Step b b'
        rest_step [] b b' h = step_same b b' h
        rest_step (o ∷ os) b b' h = step_then b h.0 b' (rest_one o b h.0 h.1) (rest_step os h.0 b' h.2)
