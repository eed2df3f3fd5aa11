-- Whoever reads links, and ends the calls that are left, advances no attempt.
use Rattle.std.proofs.Common.{◌≡◌, ℕ, false, List, [], ◌∷◌, Some, None, refl, sym, ap, subst, arith}
use Rattle.std.specs.Prelude.{Option, Bool}
use Rattle.sock_words.specs.declared.plain.Plan as sizes
use Rattle.sock_words.specs.declared.socket_id.SocketId.{SocketId}
use Rattle.sock_model.specs.declared.view.View as sock_view
use Rattle.sock_io.specs.declared.link.Out.{Ghosts}
use Rattle.sock_io.specs.LinkHalves.{InState}
use Rattle.corr_core.specs.declared.marks.Plan.{Plan}
use Rattle.corr_core.specs.declared.marks.View.{View}
use Rattle.call_whys.specs.Below.RpcReader.ReaderBooks.{Books}
use Rattle.call_whys.specs.Below.RpcReader.CallsLeftAfterReading.{RestEnded}
use Rattle.call_whys.specs.Below.RpcReader.ReaderRunFromOpen.{ReadIf}
use Rattle.call_whys.specs.Below.CallRun.ReadersOfLinks.{LinkReader, nothing_read, IsReader}
use Rattle.call_whys.specs.call_places.proofs.Spans.{Spans, rest_reads, link_reads}
use Rattle.call_whys.specs.call_places.proofs.Still.{advances}
use Rattle.call_whys.specs.call_told.proofs.ToldByReaders.{AllRead, link_read}
use Rattle.attempts_told.proofs.BoundsOfAttempts.{Unmoved, unmoved_then, unmoved_noted, unmoved_quiet, unmoved_got, unmoved_ended, unmoved_post}
use Rattle.sock_words.specs.Totals.{total}

unmoved_reads : Spans Unmoved
unmoved_reads = record { in_turn = unmoved_then; noted = unmoved_noted; looks = unmoved_quiet; locks = λ i v w word. unmoved_got i word v w; posts = unmoved_post; ends = λ i f n. unmoved_ended {n = n} i f }

pub rest_unmoved : (code : ℕ) (p : Plan) (os : List ℕ) (b b' : Books) → RestEnded p code os b b' → Unmoved b.view b'.view
rest_unmoved = rest_reads unmoved_reads

-- ## Readers beside the clients

if_unmoved : (q : Plan) (link : ℕ) (calls : List ℕ) (ending short : Bool) (s t : InState) (o : Option SocketId) (v w : sock_view.View) (b b' : Books) → ReadIf q link calls ending short s t o v w b b' → Unmoved b.view b'.view
if_unmoved q link calls ending short s t None v w b b' r = unmoved_noted b.view b'.view (ap (λ (x : Books). x.view.notes) r.2)
if_unmoved q link calls ending short s t (Some id) v w b b' r = link_reads unmoved_reads q link calls ending short s t b b' (link_read q link calls ending short s t id.0 v w b b' r)

module _ {O : Type 0} {g : Ghosts O} (p : sizes.Plan) (q : Plan) (calls : List ℕ) where
  reader_unmoved : (x : LinkReader g) → IsReader p q calls x → Unmoved nothing_read.view x.ids.me.0
  reader_unmoved x is = subst (Unmoved nothing_read.view) (sym is.view_is) (if_unmoved q x.link calls false false x.before x.behind is.ran.id is.ran.noted x.seat.me.0 nothing_read x.books is.ran.read)

  -- so they noted no advance
  pub readers_advance : (xs : List (LinkReader g)) → AllRead p q calls xs → (i f n : ℕ) → total (λ (x : LinkReader g). advances i f n x.ids.me.0) xs ≡ 0
  readers_advance [] a i f n = refl
  readers_advance (x ∷ xs) a i f n = let z : advances i f n nothing_read.view ≡ 0 = refl in let b = reader_unmoved x a.0 i f n in let c = readers_advance xs a.1 i f n in omega (arith, z, b, c)
