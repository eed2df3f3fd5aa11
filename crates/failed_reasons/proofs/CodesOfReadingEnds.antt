-- What the readers of links queued and told when their readings ended, each with the code of its own reading.
use Rattle.std.proofs.Common.{◌≡◌, ℕ, ◌<◌, ◌⊎◌, inl, inr, Bool, false, List, [], ◌∷◌, Some, None, refl, sym, ap, subst, arith}
use Rattle.std.specs.Prelude.{Option}
use Rattle.std.specs.List.{AllByRecursion}
use Rattle.sock_words.specs.declared.plain.Plan as sizes
use Rattle.sock_words.specs.declared.socket_id.SocketId.{SocketId}
use Rattle.sock_model.specs.declared.view.View as sock_view
use Rattle.sock_message.specs.brpc_model.specs.Frame as model
use Rattle.sock_io.specs.declared.link.Out.{Ghosts}
use Rattle.sock_io.specs.LinkHalves.{InState}
use Rattle.corr_core.specs.declared.marks.Plan.{Plan}
use Rattle.corr_core.specs.declared.marks.View.{View}
use Rattle.sock_message.specs.Asked.{Asked}
use Rattle.attempts_told.specs.Below.RpcClient.Told.{Told}
use Rattle.attempts_told.specs.Below.RpcReader.ReaderBooks.{Books}
use Rattle.attempts_told.specs.Below.RpcReader.LinkReading as reading
use Rattle.attempts_told.specs.Below.RpcReader.ReaderRunFromOpen.{ReadLink, ReadIf}
use Rattle.attempts_told.specs.Below.CallRun.ReadersOfLinks.{LinkReader, nothing_read, IsReader}
use Rattle.attempts_told.specs.call_whys.specs.call_told.specs.TellersOfCallEnds.{IsGiven}
use Rattle.attempts_told.specs.call_whys.specs.call_told.proofs.Gains.{met_bytes, rest_bytes}
use Rattle.attempts_told.specs.call_whys.specs.call_told.proofs.GivenResponseFrames.{given_by}
use Rattle.attempts_told.specs.call_whys.specs.call_told.proofs.CallsEndedBehindLinks.{read_bytes}
use Rattle.attempts_told.specs.call_whys.specs.call_told.proofs.CallEndsToldStepwise.{step_then, frames_step}
use Rattle.attempts_told.specs.call_whys.specs.call_told.proofs.ToldByReaders.{link_read, if_bytes, reader_gave}
use Rattle.failed_reasons.proofs.ReaderPosts.{QueuedBy, Posts, posts_none, posts_then, posted_all, frames_stay}
use Rattle.failed_reasons.proofs.Tells.{ToldEnd, Step, laws, IsPostFor, for_later, posts_step}
use Rattle.failed_reasons.proofs.NotedErrorsInViews.{Later, queued_in}

-- ## One link

module _ (q : Plan) (link : ℕ) (calls : List ℕ) (ending : Bool) (s t : InState) (b b' : Books) (r : ReadLink q link calls ending false s t b b') where
  -- what it queued more is by posts with the code of its end
  pub link_posts : Posts q link (reading.code_of r.how) b.view b'.view
  link_posts = let met = r.read.met in posts_then q link (reading.code_of r.how) b.view r.met.view b'.view (posts_none q link (reading.code_of r.how) b.view r.met.view (frames_stay q.slots met.frames b r.met met.met)) (posted_all q link (reading.code_of r.how) calls r.met b' r.posted)

  -- and so is what it told more, but for responses among what the links gave
  pub link_tells : (links : ℕ) (gave : ℕ → List ℕ) → ((f : model.Frame) → IsGiven 1 (λ k. read_bytes q link calls ending false s t b b' r) f → IsGiven links gave f) → Step q links gave (reading.code_of r.how) (IsPostFor q link) b b'
  link_tells links gave given = let met = r.read.met in
      step_then q links gave Later (ToldEnd q links gave (reading.code_of r.how) (IsPostFor q link)) (laws q links gave (reading.code_of r.how) (IsPostFor q link) (for_later q link)) b r.met b'
      (frames_step q links gave Later (ToldEnd q links gave (reading.code_of r.how) (IsPostFor q link)) (laws q links gave (reading.code_of r.how) (IsPostFor q link) (for_later q link)) met.frames b r.met
      (λ i f at responds. given _ (given_by 1 (λ k. read_bytes q link calls ending false s t b b' r) 0 (met_bytes q link calls ending false s t b b' r) (rest_bytes q link calls ending false s t b b' r) r.read.left met.frames (omega arith) refl met.cut i f at responds)) met.met)
      (posts_step q links gave (reading.code_of r.how) link calls r.met b' r.posted)

-- ## A reader

module _ (q : Plan) (link : ℕ) (calls : List ℕ) (s t : InState) where
  -- its reading ended with this code
  abbrev pub EndedIf : (o : Option SocketId) (v w : sock_view.View) (b b' : Books) → ReadIf q link calls false false s t o v w b b' → ℕ → Type 0
  EndedIf None v w b b' r code = ⊥
  EndedIf (Some id) v w b b' r code = reading.code_of r.how ≡ code

  if_posts : (o : Option SocketId) (v w : sock_view.View) (b' : Books) (r : ReadIf q link calls false false s t o v w nothing_read b') (i first e : ℕ) → 0 < queued_in i first e b'.view.notes → (code : ℕ) × EndedIf o v w nothing_read b' r code × QueuedBy q link code b'.view i first e
  if_posts None v w b' r i first e h = absurd (let a = ap (λ (x : Books). queued_in i first e x.view.notes) r.2 in omega (arith, a, h))
  if_posts (Some id) v w b' r i first e h = elim ((link_posts q link calls false s t nothing_read b' (link_read q link calls false false s t id.0 v w nothing_read b' r)).queued i first e h) [
    | inl none_ ↦ absurd (omega (arith, none_))
    | inr queued ↦ (reading.code_of r.how, refl, queued)
  ]

  -- it ended with one, or the link gave nothing
  if_read : (o : Option SocketId) (v w : sock_view.View) (b' : Books) (r : ReadIf q link calls false false s t o v w nothing_read b') → ((code : ℕ) × EndedIf o v w nothing_read b' r code) ⊎ (if_bytes q link calls false false s t o v w nothing_read b' r ≡ [])
  if_read None v w b' r = inr refl
  if_read (Some id) v w b' r = inl (reading.code_of r.how, refl)

  -- what is told is the end of a call, by a response or with the code of the reading
  abbrev pub ToldIf : (links : ℕ) (gave : ℕ → List ℕ) (o : Option SocketId) (v w : sock_view.View) (b' : Books) → ReadIf q link calls false false s t o v w nothing_read b' → Told → Type 0
  ToldIf links gave o v w b' r x = (code : ℕ) × EndedIf o v w nothing_read b' r code × ToldEnd q links gave code (IsPostFor q link) b'.view x

  if_tells : (links : ℕ) (gave : ℕ → List ℕ) (o : Option SocketId) (v w : sock_view.View) (b' : Books) (r : ReadIf q link calls false false s t o v w nothing_read b') → ((f : model.Frame) → IsGiven 1 (λ k. if_bytes q link calls false false s t o v w nothing_read b' r) f → IsGiven links gave f) → AllByRecursion (ToldIf links gave o v w b' r) b'.told
  if_tells links gave None v w b' r given = subst (AllByRecursion (ToldIf links gave None v w b' r)) (sym (ap (λ (x : Books). x.told) r.2)) tt
  if_tells links gave (Some id) v w b' r given =
      let l = link_read q link calls false false s t id.0 v w nothing_read b' r in
      let tells = (link_tells q link calls false s t nothing_read b' l links gave given).tells tt in
      subst (AllByRecursion (ToldIf links gave (Some id) v w b' r)) (sym tells.told) (each tells.more tells.each)
    where
      each : (xs : List Told) → AllByRecursion (ToldEnd q links gave (reading.code_of r.how) (IsPostFor q link) b'.view) xs → AllByRecursion (ToldIf links gave (Some id) v w b' r) xs
      each [] a = tt
      each (x ∷ xs) a = ((reading.code_of r.how, refl, a.0), each xs a.1)

module _ {O : Type 0} {g : Ghosts O} (p : sizes.Plan) (q : Plan) (calls : List ℕ) (x : LinkReader g) (is : IsReader p q calls x) where
  abbrev pub ReadEnded : ℕ → Type 0
  ReadEnded code = EndedIf q x.link calls x.before x.behind is.ran.id is.ran.noted x.seat.me.0 nothing_read x.books is.ran.read code

  -- its reading ended, or its link gave nothing
  pub reader_read : ((code : ℕ) × ReadEnded code) ⊎ (reader_gave p q calls x is ≡ [])
  reader_read = if_read q x.link calls x.before x.behind is.ran.id is.ran.noted x.seat.me.0 x.books is.ran.read

  -- each error that it noted as queued has the code of its reading, and is for the attempt that a word names with its link
  pub reader_posts : (i first e : ℕ) → 0 < queued_in i first e x.ids.me.0.notes → (code : ℕ) × ReadEnded code × QueuedBy q x.link code x.ids.me.0 i first e
  reader_posts = subst (λ (v : View Asked). (i first e : ℕ) → 0 < queued_in i first e v.notes → (code : ℕ) × ReadEnded code × QueuedBy q x.link code v i first e) (sym is.view_is)
      (if_posts q x.link calls x.before x.behind is.ran.id is.ran.noted x.seat.me.0 x.books is.ran.read)

  abbrev pub ToldBy : (links : ℕ) (gave : ℕ → List ℕ) → Told → Type 0
  ToldBy links gave one = (code : ℕ) × ReadEnded code × ToldEnd q links gave code (IsPostFor q x.link) x.books.view one

  pub reader_tells : (links : ℕ) (gave : ℕ → List ℕ) → ((f : model.Frame) → IsGiven 1 (λ k. reader_gave p q calls x is) f → IsGiven links gave f) → AllByRecursion (ToldBy links gave) x.books.told
  reader_tells links gave given = if_tells q x.link calls x.before x.behind links gave is.ran.id is.ran.noted x.seat.me.0 x.books is.ran.read given
