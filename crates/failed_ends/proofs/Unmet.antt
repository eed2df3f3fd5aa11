-- Of the responses that a reader met: where it told a call to have ended with 1014, or queued an error, there was none, unless a range with its version was ended besides; and each is met in what it leaves.
use Rattle.std.proofs.Common.{◌≡◌, ℕ, zero, suc, ◌+◌, ◌<◌, ◌≤◌, ◌⊎◌, inl, inr, Bool, true, false, List, [], ◌∷◌, Some, None, refl, sym, ap, ◌∙◌, subst, arith}
use Rattle.std.specs.Prelude.{Option}
use Rattle.std.specs.List.{AllByRecursion}
use mathlib.Core.Option.{some, some-injective, some-ne-none}
use lib.ListN.{get_elem?}
use Rattle.sock_words.specs.ErrorCodes.{EEOF}
use Rattle.sock_words.specs.declared.plain.Plan as sizes
use Rattle.sock_words.specs.declared.socket_id.SocketId.{SocketId}
use Rattle.sock_model.specs.declared.view.View as sock_view
use Rattle.sock_io.specs.declared.link.Out.{Ghosts}
use Rattle.sock_io.specs.LinkHalves.{InState}
use Rattle.corr_core.specs.IdSlotLaw.{is_ended}
use Rattle.corr_core.specs.IdSlotWord.{parts}
use Rattle.corr_core.specs.declared.marks.Kept.{Kept}
use Rattle.corr_core.specs.declared.marks.Note.{Note}
use Rattle.corr_core.specs.declared.marks.Noted.{Noted}
use Rattle.corr_core.specs.declared.marks.Plan.{Plan}
use Rattle.corr_core.specs.declared.marks.View.{View}
use Rattle.corr_id.specs.id_rule.specs.LawfulIdTable.{notes_of}
use Rattle.corr_id.specs.ClosingIdLists.{Closing}
use Rattle.sock_message.specs.Asked.{Asked}
use Rattle.failed_reasons.specs.Below.PrpcFrame.Frame.{Frame}
use Rattle.failed_reasons.specs.Below.RpcClient.Told.{Told}
use Rattle.failed_reasons.specs.Below.RpcReader.ReaderBooks.{Books}
use Rattle.failed_reasons.specs.Below.RpcReader.Met.{is_asked}
use Rattle.failed_reasons.specs.Below.RpcReader.LinkReading as reading
use Rattle.failed_reasons.specs.Below.RpcReader.ReaderRunFromOpen.{ReadLink, ReadIf}
use Rattle.failed_reasons.specs.Below.CallRun.ReadersOfLinks.{LinkReader, nothing_read, IsReader}
use Rattle.failed_reasons.specs.Below.RpcReader.CallsLeftAfterReading.{RestEnded}
use Rattle.failed_reasons.specs.call_whys.specs.call_told.proofs.MetFrames.{Responds, end_unanswered, wait_unanswered}
use Rattle.failed_reasons.specs.call_whys.specs.call_told.proofs.ToldByReaders.{AllRead, link_read, if_bytes, reader_gave, readers_gave}
use Rattle.failed_reasons.specs.call_whys.specs.call_told.proofs.MetResponses.{NotesGrow, met_in}
use Rattle.failed_reasons.specs.call_whys.specs.call_told.proofs.EndedCallsUnanswered.{AllMet, CodeEnd, EndOf, TellsEnds, WasMet, was_asked, read_met, read_calm, left_met, read_tells, rest_tells}
use Rattle.failed_reasons.proofs.CodesOfReadingEnds.{EndedIf, ReadEnded}
use Rattle.failed_reasons.proofs.ReaderPosts.{frames_stay}
use Rattle.failed_reasons.proofs.NotedErrorsInViews.{queued_in}
use Rattle.failed_reasons.proofs.Waits.{WaitsAt, Waits, waits_none, waits_then, all_waits}
use Rattle.sock_words.specs.Totals.{total}

-- all that a seat noted is among these
abbrev pub NotesIn : View Asked → List (Noted Asked) → Type 0
NotesIn v notes = (j : ℕ) (f : Note Asked → ℕ) → total f (notes_of j v.notes) ≤ total f (notes_of j notes)

-- ## One link

module _ (q : Plan) (link : ℕ) (calls : List ℕ) (ending : Bool) (s t : InState) (b b' : Books) (r : ReadLink q link calls ending false s t b b') where
  pub link_waits : Waits q.slots (WasMet q link calls ending s t b b' r) (was_asked q link calls ending s t b b' r) b.view b'.view
  link_waits =
      let Given = WasMet q link calls ending s t b b' r in let asked = was_asked q link calls ending s t b b' r in
      waits_then q.slots Given asked b.view r.met.view b'.view (waits_none q.slots Given asked b.view r.met.view (frames_stay q.slots r.read.met.frames b r.met r.read.met.met))
      (all_waits q.slots Given asked (reading.code_of r.how) q refl link calls r.met b' (read_met q link calls ending s t b b' r) (read_calm q link calls ending s t b b' r) r.posted)

-- ## A reader

module _ (q : Plan) (link : ℕ) (calls : List ℕ) (s t : InState) where
  -- a response that it met
  abbrev pub MetIn : (o : Option SocketId) (v w : sock_view.View) (b' : Books) → ReadIf q link calls false false s t o v w nothing_read b' → Frame → Type 0
  MetIn None v w b' r f = ⊥
  MetIn (Some id) v w b' r f = WasMet q link calls false s t nothing_read b' (link_read q link calls false false s t id.0 v w nothing_read b' r) f

  pub in_asked : (o : Option SocketId) (v w : sock_view.View) (b' : Books) (r : ReadIf q link calls false false s t o v w nothing_read b') (f : Frame) → MetIn o v w b' r f → is_asked q.slots f ≡ true
  in_asked None v w b' r f m = absurd m
  in_asked (Some id) v w b' r f m = was_asked q link calls false s t nothing_read b' (link_read q link calls false false s t id.0 v w nothing_read b' r) f m

  in_left : (o : Option SocketId) (v w : sock_view.View) (b' : Books) (r : ReadIf q link calls false false s t o v w nothing_read b') → AllMet q.slots (MetIn o v w b' r) (in_asked o v w b' r) b'
  in_left None v w b' r f m = absurd m
  in_left (Some id) v w b' r f m = left_met q link calls false s t nothing_read b' (link_read q link calls false false s t id.0 v w nothing_read b' r) f m

  in_waits : (o : Option SocketId) (v w : sock_view.View) (b' : Books) (r : ReadIf q link calls false false s t o v w nothing_read b') (i first e : ℕ) → 0 < queued_in i first e b'.view.notes → WaitsAt q.slots (MetIn o v w b' r) (in_asked o v w b' r) b'.view i first
  in_waits None v w b' r i first e h = absurd (let a = ap (λ (x : Books). queued_in i first e x.view.notes) r.2 in omega (arith, a, h))
  in_waits (Some id) v w b' r i first e h = elim ((link_waits q link calls false s t nothing_read b' (link_read q link calls false false s t id.0 v w nothing_read b' r)).queued i first e h) [
    | inl none_ ↦ absurd (omega (arith, none_))
    | inr waits ↦ record { word = waits.word; found = waits.found; has = waits.has; alone = waits.alone }
  ]

  in_tells : (o : Option SocketId) (v w : sock_view.View) (b' : Books) (r : ReadIf q link calls false false s t o v w nothing_read b') → AllByRecursion (CodeEnd q.slots (MetIn o v w b' r) (in_asked o v w b' r) b'.view) b'.told
  in_tells None v w b' r = subst (AllByRecursion (CodeEnd q.slots (MetIn None v w b' r) (in_asked None v w b' r) b'.view)) (sym (ap (λ (x : Books). x.told) r.2)) tt
  in_tells (Some id) v w b' r =
      let tells = read_tells q link calls false s t nothing_read b' (link_read q link calls false false s t id.0 v w nothing_read b' r) in
      subst (AllByRecursion (CodeEnd q.slots (MetIn (Some id) v w b' r) (in_asked (Some id) v w b' r) b'.view)) (sym tells.told) (each tells.more tells.each)
    where
      its : ReadLink q link calls false false s t nothing_read b'
      its = link_read q link calls false false s t id.0 v w nothing_read b' r

      each : (xs : List Told) → AllByRecursion (CodeEnd q.slots (WasMet q link calls false s t nothing_read b' its) (was_asked q link calls false s t nothing_read b' its) b'.view) xs → AllByRecursion (CodeEnd q.slots (MetIn (Some id) v w b' r) (in_asked (Some id) v w b' r) b'.view) xs
      each [] a = tt
      each (x ∷ xs) a = ((λ i e. let h = a.0 i e in record { slot = h.slot; inside = h.inside; w = h.w; low = h.low; id_is = h.id_is; word = h.word; found = h.found; was_open = h.was_open; word_is = h.word_is; alone = h.alone }), each xs a.1)

  in_calm : (o : Option SocketId) (v w : sock_view.View) (b' : Books) (r : ReadIf q link calls false false s t o v w nothing_read b') → b'.starved ≡ true → ⊥
  in_calm None v w b' r e = absurd (let z : true ≡ false = sym e ∙ ap (λ (x : Books). x.starved) r.2 in cc)
  in_calm (Some id) v w b' r e = read_calm q link calls false s t nothing_read b' (link_read q link calls false false s t id.0 v w nothing_read b' r) e

  in_unanswered : (o : Option SocketId) (v w : sock_view.View) (b' : Books) (r : ReadIf q link calls false false s t o v w nothing_read b') → EndedIf q link calls s t o v w nothing_read b' r EEOF
      → (notes : List (Noted Asked)) (kept : List Kept) (words : List ℕ) → Closing q notes kept words → NotesIn b'.view notes → (Given : Frame → Type 0) (asked : (f : Frame) → Given f → is_asked q.slots f ≡ true) → ((f : Frame) → MetIn o v w b' r f → Given f)
      → (u : View Asked) → NotesIn u notes → (id : ℕ) (h : EndOf q.slots Given asked u id) → h.w.first + h.w.range ≤ 4294967296 → Responds h.slot h.w.first h.w.range (if_bytes q link calls false false s t o v w nothing_read b' r) → ⊥
  in_unanswered None v w b' r ended notes kept words closed noted Given asked includes u inside id h low a = absurd ended
  in_unanswered (Some i) v w b' r ended notes kept words closed noted Given asked includes u inside id h low a =
      end_unanswered q link calls false s t nothing_read b' (link_read q link calls false false s t i.0 v w nothing_read b' r) ended notes kept words closed noted Given asked includes u inside id h low a

  in_unwaited : (o : Option SocketId) (v w : sock_view.View) (b' : Books) (r : ReadIf q link calls false false s t o v w nothing_read b') → EndedIf q link calls s t o v w nothing_read b' r EEOF
      → (notes : List (Noted Asked)) (kept : List Kept) (words : List ℕ) → Closing q notes kept words → NotesIn b'.view notes → (slot first : ℕ) → slot < q.slots → (h : WaitsAt q.slots (MetIn o v w b' r) (in_asked o v w b' r) b'.view slot first)
      → total (is_ended first) (notes_of slot b'.view.notes) + 1 ≤ total (is_ended first) (notes_of slot notes) → (parts h.word).first + (parts h.word).range ≤ 4294967296 → Responds slot (parts h.word).first (parts h.word).range (if_bytes q link calls false false s t o v w nothing_read b' r) → ⊥
  in_unwaited None v w b' r ended notes kept words closed noted slot first inside h more low a = absurd ended
  in_unwaited (Some i) v w b' r ended notes kept words closed noted slot first inside h more low a =
      wait_unanswered q link calls false s t nothing_read b' (link_read q link calls false false s t i.0 v w nothing_read b' r) ended notes kept words closed noted slot h.word first inside h.found h.has h.alone more low a

module _ {O : Type 0} {g : Ghosts O} (p : sizes.Plan) (q : Plan) (calls : List ℕ) (x : LinkReader g) (is : IsReader p q calls x) where
  abbrev pub HasMet : Frame → Type 0
  HasMet = MetIn q x.link calls x.before x.behind is.ran.id is.ran.noted x.seat.me.0 x.books is.ran.read

  abbrev pub has_asked : (f : Frame) → HasMet f → is_asked q.slots f ≡ true
  has_asked = in_asked q x.link calls x.before x.behind is.ran.id is.ran.noted x.seat.me.0 x.books is.ran.read

  -- each is met in what it leaves
  pub reader_left : AllMet q.slots HasMet has_asked x.books
  reader_left = in_left q x.link calls x.before x.behind is.ran.id is.ran.noted x.seat.me.0 x.books is.ran.read

  -- where an error waits that it queued
  pub reader_waits : (i first e : ℕ) → 0 < queued_in i first e x.books.view.notes → WaitsAt q.slots HasMet has_asked x.books.view i first
  reader_waits = in_waits q x.link calls x.before x.behind is.ran.id is.ran.noted x.seat.me.0 x.books is.ran.read

  -- and what it told
  pub reader_ends : AllByRecursion (CodeEnd q.slots HasMet has_asked x.books.view) x.books.told
  reader_ends = in_tells q x.link calls x.before x.behind is.ran.id is.ran.noted x.seat.me.0 x.books is.ran.read

  pub reader_calm : x.books.starved ≡ true → ⊥
  reader_calm = in_calm q x.link calls x.before x.behind is.ran.id is.ran.noted x.seat.me.0 x.books is.ran.read

  -- where its reading ended with 1014, and a seat that had met what it did told a call to have ended so, its link gave no response of the call
  pub reader_unanswered : ReadEnded p q calls x is EEOF → (notes : List (Noted Asked)) (kept : List Kept) (words : List ℕ) → Closing q notes kept words → NotesIn x.books.view notes → (Given : Frame → Type 0) (asked : (f : Frame) → Given f → is_asked q.slots f ≡ true) → ((f : Frame) → HasMet f → Given f)
      → (v : View Asked) → NotesIn v notes → (id : ℕ) (h : EndOf q.slots Given asked v id) → h.w.first + h.w.range ≤ 4294967296 → Responds h.slot h.w.first h.w.range (reader_gave p q calls x is) → ⊥
  reader_unanswered = in_unanswered q x.link calls x.before x.behind is.ran.id is.ran.noted x.seat.me.0 x.books is.ran.read

  -- and so where an error of its waits at an id that another seat ended
  pub reader_unwaited : ReadEnded p q calls x is EEOF → (notes : List (Noted Asked)) (kept : List Kept) (words : List ℕ) → Closing q notes kept words → NotesIn x.books.view notes → (slot first : ℕ) → slot < q.slots → (h : WaitsAt q.slots HasMet has_asked x.books.view slot first)
      → total (is_ended first) (notes_of slot x.books.view.notes) + 1 ≤ total (is_ended first) (notes_of slot notes) → (parts h.word).first + (parts h.word).range ≤ 4294967296 → Responds slot (parts h.word).first (parts h.word).range (reader_gave p q calls x is) → ⊥
  reader_unwaited = in_unwaited q x.link calls x.before x.behind is.ran.id is.ran.noted x.seat.me.0 x.books is.ran.read

-- ## Whoever ends what is left

module _ {O : Type 0} {g : Ghosts O} (p : sizes.Plan) (q : Plan) (calls : List ℕ) where
  -- a response that one of these readers met
  abbrev pub AnyMet : (xs : List (LinkReader g)) → AllRead p q calls xs → Frame → Type 0
  AnyMet [] a f = ⊥
  AnyMet (x ∷ xs) a f = HasMet p q calls x a.0 f ⊎ AnyMet xs a.1 f

  pub any_asked : (xs : List (LinkReader g)) (a : AllRead p q calls xs) (f : Frame) → AnyMet xs a f → is_asked q.slots f ≡ true
  any_asked [] a f m = absurd m
  any_asked (x ∷ xs) a f (inl m) = has_asked p q calls x a.0 f m
  any_asked (x ∷ xs) a f (inr m) = any_asked xs a.1 f m

  -- the reader at a place of these: what it met one of them did
  pub record AnyAt (xs : List (LinkReader g)) (a : AllRead p q calls xs) (k : ℕ) (x : LinkReader g) : Type 0 where
    pub is : IsReader p q calls x
    pub gave_is : readers_gave p q calls xs a k ≡ reader_gave p q calls x is
    pub met : (f : Frame) → HasMet p q calls x is f → AnyMet xs a f

  pub any_at : (xs : List (LinkReader g)) (a : AllRead p q calls xs) (k : ℕ) (x : LinkReader g) → get_elem? xs k ≡ some x → AnyAt xs a k x
  any_at [] a k x e = absurd (some-ne-none x (sym e))
  any_at (y ∷ xs) a zero x e = subst (AnyAt (y ∷ xs) a 0) (some-injective y x e) (record { is = a.0; gave_is = refl; met = λ f m. inl m })
  any_at (y ∷ xs) a (suc k) x e = let r = any_at xs a.1 k x e in record { is = r.is; gave_is = r.gave_is; met = λ f m. inr (r.met f m) }

  -- a seat has what these noted and keep
  abbrev pub HasTaken : Books → LinkReader g → Type 0
  HasTaken b x = NotesGrow x.books.view b.view × ((f : Frame) (n : ℕ) → get_elem? x.books.early n ≡ some f → (m : ℕ) × (get_elem? b.early m ≡ some f))

  pub taken_met : (xs : List (LinkReader g)) (a : AllRead p q calls xs) (b : Books) → AllByRecursion (HasTaken b) xs → AllMet q.slots (AnyMet xs a) (any_asked xs a) b
  taken_met [] a b h f m = absurd m
  taken_met (x ∷ xs) a b h f (inl m) = met_in f x.books b h.0.0 (λ s. absurd (reader_calm p q calls x a.0 s)) (h.0.1 f) (reader_left p q calls x a.0 f m)
  taken_met (x ∷ xs) a b h f (inr m) = taken_met xs a.1 b h.1 f m

  -- what it tells of the calls that it ends
  pub rest_ends : (xs : List (LinkReader g)) (a : AllRead p q calls xs) (b : Books) → AllByRecursion (HasTaken b) xs → (code : ℕ) (os : List ℕ) (b' : Books) → (b'.starved ≡ true → ⊥) → RestEnded q code os b b' → TellsEnds q.slots (AnyMet xs a) (any_asked xs a) b b'
  rest_ends xs a b h code os b' calm rest = rest_tells q.slots (AnyMet xs a) (any_asked xs a) code q refl os b b' (taken_met xs a b h) calm rest
