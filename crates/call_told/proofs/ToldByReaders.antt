-- Links that are read beside the clients: what their readers noted, told and keep, and what the links gave.
use Rattle.std.proofs.Common.{◌≡◌, ℕ, zero, suc, ◌+◌, Bool, false, List, [], ◌∷◌, length, map, Some, None, refl, sym, ap, ◌∙◌, subst, arith}
use Rattle.std.specs.Prelude.{Option, slice_get, IfSome}
use Rattle.std.specs.List.{AllByRecursion}
use Rattle.brpc_model.specs.Frame as model
use Rattle.sock_words.specs.declared.plain.Plan.{Plan}
use Rattle.sock_words.specs.declared.socket_id.SocketId.{SocketId}
use Rattle.sock_model.specs.declared.view.View as sock_view
use Rattle.sock_io.specs.declared.link.Out.{Ghosts}
use Rattle.sock_io.specs.LinkHalves.{InState}
use Rattle.corr_core.specs.declared.marks.Plan as ids
use Rattle.corr_core.specs.declared.marks.View.{View}
use Rattle.sock_message.specs.Asked.{Asked}
use Rattle.call_deeds.specs.Below.RpcReader.ReaderBooks.{Books}
use Rattle.call_deeds.specs.Below.RpcReader.ReaderRunFromOpen.{ReadToEnd, ReadLink, ReadIf}
use Rattle.call_deeds.specs.Below.CallRun.ReadersOfLinks.{LinkReader, nothing_read, IsReader, AreReaders}
use Rattle.call_deeds.specs.call_places.proofs.Reader.{MadeNone, none_noted, none_reads}
use Rattle.call_deeds.specs.call_places.proofs.Spans.{link_reads}
use Rattle.call_told.specs.TellersOfCallEnds.{IsGiven, ToldFrom, TellsFrom}
use Rattle.call_told.proofs.ListElementsByPlace.{some_same, all_then}
use Rattle.call_told.proofs.GivenResponseFrames.{given_first, given_later}
use Rattle.call_told.proofs.Gains.{Gains, gains_none, gains_read, gains_tell}
use Rattle.call_told.proofs.CallEndsByReaders.{Step, laws}
use Rattle.call_told.proofs.NotesStay.{Later}
use Rattle.call_told.proofs.CallEndsToldStepwise.{step_same}
use Rattle.call_told.proofs.CallsEndedBehindLinks.{read_bytes, read_step}
use Rattle.call_told.proofs.IdsMadeBySeats.{AllMade, later_made, all_made}
use Rattle.call_told.proofs.GrowingCallNotes.{own_at}
use Rattle.call_told.proofs.Balance.{Balanced, AreBalanced, balanced_more, balanced_each}
use Rattle.call_told.proofs.Tallies.{Tally, tally_same, read_tally}
use Rattle.call_told.proofs.ToldOnce.{calm_accounts}
use Rattle.call_told.proofs.ToldCallEnds.{AreEnds}
use Rattle.call_told.proofs.Least.{TellEnds, tell_each}
use Rattle.sock_words.specs.Totals.{total}

-- ## Lists

pub total_none : {A B : Type 0} (f : A → B) (h : B → ℕ) (xs : List A) → AllByRecursion (λ (x : A). h (f x) ≡ 0) xs → total h (map f xs) ≡ 0
total_none f h [] a = refl
total_none f h (x ∷ xs) a = let b = a.0 in let c = total_none f h xs a.1 in omega arith

same_map : {A B : Type 0} (f h : A → B) (xs : List A) → AllByRecursion (λ (x : A). f x ≡ h x) xs → map f xs ≡ map h xs
same_map f h [] a = refl
same_map f h (x ∷ xs) a = λ i. a.0 i ∷ same_map f h xs a.1 i

-- ## A link that is read if it has a socket

module _ (q : ids.Plan) (link : ℕ) (calls : List ℕ) (ending short : Bool) (s t : InState) where
  -- as a link whose socket isn't seen to
  abbrev pub link_read : (id : ℕ) (v w : sock_view.View) (b b' : Books) → ReadToEnd q link calls ending short s t id v w b b' → ReadLink q link calls ending short s t b b'
  link_read id v w b b' r = record { how = r.how; between = r.between; total = r.total; met = r.met; read = r.read; posted = r.posted; thrown = r.thrown; calm = r.calm }

  if_tally : (o : Option SocketId) (v w : sock_view.View) (b b' : Books) → ReadIf q link calls ending short s t o v w b b' → Tally b b'
  if_tally None v w b b' r = tally_same b b' r.2
  if_tally (Some id) v w b b' r = read_tally q link calls ending short s t b b' (link_read id.0 v w b b' r)

  if_none : (o : Option SocketId) (v w : sock_view.View) (b b' : Books) → ReadIf q link calls ending short s t o v w b b' → MadeNone b.view b'.view
  if_none None v w b b' r = none_noted b.view b'.view (ap (λ (x : Books). x.view.notes) r.2)
  if_none (Some id) v w b b' r = link_reads none_reads q link calls ending short s t b b' (link_read id.0 v w b b' r)

  if_calm : (o : Option SocketId) (v w : sock_view.View) (b b' : Books) → ReadIf q link calls ending short s t o v w b b' → short ≡ false → b.starved ≡ false → b'.starved ≡ false
  if_calm None v w b b' r e fed = ap (λ (x : Books). x.starved) r.2 ∙ fed
  if_calm (Some id) v w b b' r e fed = (r.calm e).0

  -- what it gave
  abbrev pub if_bytes : (o : Option SocketId) (v w : sock_view.View) (b b' : Books) → ReadIf q link calls ending short s t o v w b b' → List ℕ
  if_bytes None v w b b' r = []
  if_bytes (Some id) v w b b' r = read_bytes q link calls ending short s t b b' (link_read id.0 v w b b' r)

  if_gains : (o : Option SocketId) (v w : sock_view.View) (b b' : Books) (r : ReadIf q link calls ending short s t o v w b b') → Gains s t (if_bytes o v w b b' r)
  if_gains None v w b b' r = gains_none s t r.1
  if_gains (Some id) v w b b' r = gains_read q link calls ending short s t b b' (link_read id.0 v w b b' r)

  if_step : (links : ℕ) (gave : ℕ → List ℕ) (o : Option SocketId) (v w : sock_view.View) (b b' : Books) (r : ReadIf q link calls ending short s t o v w b b') → ((f : model.Frame) → IsGiven 1 (λ k. if_bytes o v w b b' r) f → IsGiven links gave f) → Step q links gave b b'
  if_step links gave None v w b b' r given = step_same q links gave Later (ToldFrom q.slots links gave) (laws q links gave) b b' r.2
  if_step links gave (Some id) v w b b' r given = read_step q link calls ending short s t b b' (link_read id.0 v w b b' r) links gave given

-- ## Readers

-- the reading half had given nothing before
abbrev pub IsUnread : {O : Type 0} {g : Ghosts O} → LinkReader g → Type 0
IsUnread x = (x.before.gave ≡ 0) × IfSome x.before.gave_bytes (λ bytes. bytes ≡ [])

-- these bytes are all that each link gave whose half had given nothing before, and from them come all responses that end calls for the readers, or that these keep
pub record ReadBeside {O : Type 0} {g : Ghosts O} (slots : ℕ) (readers : List (LinkReader g)) : Type 0 where
  pub gave : ℕ → List ℕ
  pub gives : (k : ℕ) (x : LinkReader g) → slice_get readers k ≡ Some x → IsUnread x → IfSome x.behind.gave_bytes (λ bytes. bytes ≡ gave k) × (length (gave k) ≡ x.behind.gave)
  pub tells : AllByRecursion (λ (x : LinkReader g). TellsFrom slots (length readers) gave nothing_read x.books) readers

module _ {O : Type 0} {g : Ghosts O} (p : Plan) (q : ids.Plan) (calls : List ℕ) where
  module _ (x : LinkReader g) (is : IsReader p q calls x) where
    reader_tally : Tally nothing_read x.books
    reader_tally = if_tally q x.link calls false false x.before x.behind is.ran.id is.ran.noted x.seat.me.0 nothing_read x.books is.ran.read

    -- it made no id
    reader_none : MadeNone nothing_read.view x.ids.me.0
    reader_none = subst (λ (v : View Asked). MadeNone nothing_read.view v) (sym is.view_is) (if_none q x.link calls false false x.before x.behind is.ran.id is.ran.noted x.seat.me.0 nothing_read x.books is.ran.read)

    -- it told what its seat noted
    reader_balanced : Balanced x.books.told x.ids.me.0.notes
    reader_balanced = subst (λ (v : View Asked). Balanced x.books.told v.notes) (sym is.view_is)
        (balanced_more [] x.books.told [] x.books.view.notes
        (calm_accounts nothing_read x.books reader_tally.accounts (if_calm q x.link calls false false x.before x.behind is.ran.id is.ran.noted x.seat.me.0 nothing_read x.books is.ran.read refl refl))
        (λ slot first low. refl))

    -- it stored no word of an operation
    reader_own : (place : ℕ) → total (own_at place) x.ids.me.0.kept ≡ 0
    reader_own place = let a = (reader_tally.grows place).own in let b = ap (λ (v : View Asked). total (own_at place) v.kept) is.view_is in omega arith

    reader_ends : AreEnds x.ids.me.0 x.books.told
    reader_ends = subst (λ (v : View Asked). AreEnds v x.books.told) (sym is.view_is) (reader_tally.ends tt)

    abbrev pub reader_gave : List ℕ
    reader_gave = if_bytes q x.link calls false false x.before x.behind is.ran.id is.ran.noted x.seat.me.0 nothing_read x.books is.ran.read

    reader_gains : Gains x.before x.behind reader_gave
    reader_gains = if_gains q x.link calls false false x.before x.behind is.ran.id is.ran.noted x.seat.me.0 nothing_read x.books is.ran.read

    reader_step : (links : ℕ) (gave : ℕ → List ℕ) → ((f : model.Frame) → IsGiven 1 (λ k. reader_gave) f → IsGiven links gave f) → Step q links gave nothing_read x.books
    reader_step links gave given = if_step q x.link calls false false x.before x.behind links gave is.ran.id is.ran.noted x.seat.me.0 nothing_read x.books is.ran.read given

    reader_made : (Q : ℕ → Asked → Type 0) → AllMade Q x.ids.me.0.notes
    reader_made Q = subst (λ (v : View Asked). AllMade Q v.notes) (sym is.view_is) (all_made Q x.books.view.notes (later_made Q nothing_read.view x.books.view (reader_step 1 (λ k. reader_gave) (λ f h. h)).later tt))

  -- each of them is one
  abbrev pub AllRead : List (LinkReader g) → Type 0
  AllRead xs = AllByRecursion (λ (x : LinkReader g). IsReader p q calls x) xs

  abbrev pub each_read : (link : ℕ) (os : List ℕ) (xs : List (LinkReader g)) → AreReaders p q calls link os xs → AllRead xs
  each_read link [] [] a = tt
  each_read link (o ∷ os) (x ∷ xs) a = (a.0, each_read (link + 1) os xs a.3)
  each_read link [] (x ∷ xs) a = absurd a
  each_read link (o ∷ os) [] a = absurd a

  all_read : (P : LinkReader g → Type 0) → ((x : LinkReader g) → IsReader p q calls x → P x) → (xs : List (LinkReader g)) → AllRead xs → AllByRecursion P xs
  all_read P f xs a = all_then (λ (x : LinkReader g). IsReader p q calls x) P xs f a

  -- ## What they gave

  -- in their order
  abbrev pub readers_gave : (xs : List (LinkReader g)) → AllRead xs → ℕ → List ℕ
  readers_gave [] a k = []
  readers_gave (x ∷ xs) a zero = reader_gave x a.0
  readers_gave (x ∷ xs) a (suc k) = readers_gave xs a.1 k

  readers_gain : (xs : List (LinkReader g)) (a : AllRead xs) (k : ℕ) (x : LinkReader g) → slice_get xs k ≡ Some x → Gains x.before x.behind (readers_gave xs a k)
  readers_gain [] a k x e = absurd (cc)
  readers_gain (y ∷ xs) a zero x e = subst (λ (z : LinkReader g). Gains z.before z.behind (reader_gave y a.0)) (some_same y x e) (reader_gains y a.0)
  readers_gain (y ∷ xs) a (suc k) x e = readers_gain xs a.1 k x e

  readers_step : (links : ℕ) (gave : ℕ → List ℕ) (xs : List (LinkReader g)) (a : AllRead xs) → ((f : model.Frame) → IsGiven (length xs) (readers_gave xs a) f → IsGiven links gave f) → AllByRecursion (λ (x : LinkReader g). Step q links gave nothing_read x.books) xs
  readers_step links gave [] a given = tt
  readers_step links gave (x ∷ xs) a given = (
    reader_step x a.0 links gave (λ f h. given f (given_first (length (x ∷ xs)) (readers_gave (x ∷ xs) a) (omega arith) f h)),
    readers_step links gave xs a.1 (λ f h. given f (given_later (length xs) (length (x ∷ xs)) (readers_gave (x ∷ xs) a) (omega arith) f h)),
  )

  module _ (xs : List (LinkReader g)) (a : AllRead xs) where
    pub readers_told : ReadBeside q.slots xs
    readers_told = record {
      gave = readers_gave xs a;
      gives = λ k x e unread. (let s = readers_gain xs a k x e in (gains_tell x.before x.behind (readers_gave xs a k) s unread.1, (let c = s.count in let z = unread.0 in omega arith)));
      tells = all_then (λ (x : LinkReader g). Step q (length xs) (readers_gave xs a) nothing_read x.books) (λ (x : LinkReader g). TellsFrom q.slots (length xs) (readers_gave xs a) nothing_read x.books) xs (λ x s. s.tells tt) (readers_step (length xs) (readers_gave xs a) xs a (λ f h. h));
    }

    pub told_gave : readers_told.gave ≡ readers_gave xs a
    unfolding readers_told
    told_gave = refl

    -- ## What their seats noted

    pub readers_none : AllByRecursion (λ (x : LinkReader g). MadeNone nothing_read.view x.ids.me.0) xs
    readers_none = all_read (λ (x : LinkReader g). MadeNone nothing_read.view x.ids.me.0) reader_none xs a

    pub readers_own : (place : ℕ) → total (λ (v : View Asked). total (own_at place) v.kept) (map (λ (x : LinkReader g). x.ids.me.0) xs) ≡ 0
    readers_own place = total_none (λ (x : LinkReader g). x.ids.me.0) (λ (v : View Asked). total (own_at place) v.kept) xs (all_read (λ (x : LinkReader g). total (own_at place) x.ids.me.0.kept ≡ 0) (λ x is. reader_own x is place) xs a)

    pub readers_made : (Q : ℕ → Asked → Type 0) → AllByRecursion (λ (x : LinkReader g). AllMade Q x.ids.me.0.notes) xs
    readers_made Q = all_read (λ (x : LinkReader g). AllMade Q x.ids.me.0.notes) (λ x is. reader_made x is Q) xs a

    pub views_are : map (λ (x : LinkReader g). x.ids.me.0) xs ≡ map (λ (x : LinkReader g). x.books.view) xs
    views_are = same_map (λ (x : LinkReader g). x.ids.me.0) (λ (x : LinkReader g). x.books.view) xs (all_read (λ (x : LinkReader g). x.ids.me.0 ≡ x.books.view) (λ x is. is.view_is) xs a)

    pub readers_balanced : AreBalanced (map (λ (x : LinkReader g). x.books.told) xs) (map (λ (x : LinkReader g). x.ids.me.0) xs)
    readers_balanced = balanced_each (λ (x : LinkReader g). x.books.told) (λ (x : LinkReader g). x.ids.me.0) xs (all_read (λ (x : LinkReader g). Balanced x.books.told x.ids.me.0.notes) reader_balanced xs a)

    pub readers_tell : TellEnds (map (λ (x : LinkReader g). x.books.told) xs) (map (λ (x : LinkReader g). x.ids.me.0) xs)
    readers_tell = tell_each (λ (x : LinkReader g). x.books.told) (λ (x : LinkReader g). x.ids.me.0) xs (all_read (λ (x : LinkReader g). AreEnds x.ids.me.0 x.books.told) reader_ends xs a)
