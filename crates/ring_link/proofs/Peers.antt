-- What a call of the other end moves.
use Rattle.std.proofs.Common.{◌≡◌, ◌≢◌, ◌⊎◌, inl, inr, ℕ, ◌<◌, ◌≤◌, ◌+◌, ◌&&◌, Bool, true, false, List, [], ◌++◌, length, take, Some, Ok, refl, ap, sym, ◌∙◌, subst, arith}
use Rattle.std.proofs.lemmas.List.{append-nil, length-append, length-take-le}
use Rattle.sock_io.specs.declared.ending.Ending.{Ending}
use Rattle.sock_io.specs.declared.ending.Ending.TheVariants as ending
use Rattle.sock_io.specs.declared.link.Take.{Take}
use Rattle.sock_io.specs.declared.link.Take.TheVariants as take_
use Rattle.sock_io.specs.LinkHalves.{IsTakeCount, given_of}
use Rattle.sock_io.specs.declared.link.Served.{Served}
use Rattle.sock_io.specs.declared.link.Served.TheVariants as served
use Rattle.sock_io.specs.Peer.{PeerState, Moved, HasMoved, Grew, ServeStep, has_ended, is_done}
use Rattle.ring_link.specs.RingHalves.{ReaderState, WriterState, RingPeerState, SameRings, mark_at, ring_peer, way_of}

abbrev pub Told : Served → PeerState → Type 0
Told result new = ((result ≡ served.Done) × (is_done new ≡ true)) ⊎ ((result ≡ served.Moved) × (is_done new ≡ false))

pub told_step : (old new : PeerState) (result : Served) → Moved old new → HasMoved old new → new.starved ≡ old.starved → Told result new → ServeStep old (Ok result) new
told_step old new result m h calm (inl p) = subst (λ r. ServeStep old (Ok r) new) (sym p.0) (m, p.1, calm)
told_step old new result m h calm (inr p) = subst (λ r. ServeStep old (Ok r) new) (sym p.0) (m, h, p.1, calm)

grew : (old new got : List ℕ) → new ≡ old ++ got → Grew (length old) (length new) (Some old) (Some new) got
grew old new got e = record { count = ap length e ∙ length-append old got; known = ap Some e }

cc_of : true ≡ false → ⊥
cc_of n = cc

unlike : {A : Type 0} → true ≡ false → A
unlike n = absurd (cc_of n)

pub moves : (p q : RingPeerState) (got gave : List ℕ) → SameRings p q → q.reader.bytes ≡ p.reader.bytes ++ got → q.writer.bytes ≡ p.writer.bytes ++ gave
    → (has_ended p.reader.ending ≡ true → (has_ended q.reader.ending ≡ true) × (got ≡ [])) → (p.writer.ending ≢ ending.Open → (q.writer.ending ≡ p.writer.ending) × (gave ≡ []))
    → (q.writer.ending ≡ ending.Closed → has_ended q.reader.ending ≡ true) → Moved (ring_peer p) (ring_peer q)
moves p q got gave same e f finished ended closed = (
  got,
  gave,
  record { present = refl; asked = same.2; ways = (ap way_of same.0, ap way_of same.1); took = grew p.reader.bytes q.reader.bytes got e; gave = grew p.writer.bytes q.writer.bytes gave f; finished = finished; ended = ended; closed = closed; absent = λ n. unlike n },
)

longer : (old new got : List ℕ) → new ≡ old ++ got → 0 < length got → length old < length new
longer old new got e l = let n : length new ≡ length old + length got = ap length e ∙ length-append old got in omega (arith, n, l)

other : (a b : Bool) → a ≡ false → b ≡ true → a ≢ b
other a b e f g = cc

pub has_fetched : (p q : RingPeerState) (got : List ℕ) → q.reader.bytes ≡ p.reader.bytes ++ got → has_ended p.reader.ending ≡ false → (0 < length got) ⊎ (has_ended q.reader.ending ≡ true) → HasMoved (ring_peer p) (ring_peer q)
has_fetched p q got e o (inl l) = inl (longer p.reader.bytes q.reader.bytes got e l)
has_fetched p q got e o (inr h) = inr (inr (inl (other (has_ended p.reader.ending) (has_ended q.reader.ending) o h)))

-- ## The calls

pub idle : (p : RingPeerState) → (p.writer.ending ≡ ending.Closed → has_ended p.reader.ending ≡ true) → Moved (ring_peer p) (ring_peer p)
idle p closed =
    moves p p [] [] (refl, refl, (refl, refl)) (sym (append-nil p.reader.bytes)) (sym (append-nil p.writer.bytes)) (λ e. (e, refl)) (λ _. (refl, refl)) closed

not_closed : (e : Ending) → e ≡ ending.Open → e ≡ ending.Closed → ⊥
not_closed e o c = cc

ended_not_closed : (e : Ending) → e ≡ ending.Ended → e ≡ ending.Closed → ⊥
ended_not_closed e o c = cc

both_not : (a : Bool) → a ≡ false → a ≡ true → ⊥
both_not a e f = cc

open_not_done : (e : Ending) (b : Bool) → e ≡ ending.Open → (has_ended e && b) ≡ false
open_not_done e b o = ap (λ x. has_ended x && b) o

pub some_got : (count : ℕ) (room : List ℕ) (A : Type 0) → count ≤ length room → (0 < count) ⊎ A → (0 < length (take count room)) ⊎ A
some_got count room A w (inl l) = inl (subst (λ m. 0 < m) (sym (length-take-le count room w)) l)
some_got count room A w (inr h) = inr h

-- bytes or the mark were taken, and the other direction goes on
pub fed : (p q : RingPeerState) (got : List ℕ) → SameRings p q → p.writer.ending ≡ ending.Open → has_ended p.reader.ending ≡ false → q.writer.bytes ≡ p.writer.bytes → q.writer.ending ≡ p.writer.ending
    → q.reader.bytes ≡ p.reader.bytes ++ got → (0 < length got) ⊎ (has_ended q.reader.ending ≡ true) → q.starved ≡ p.starved → Moved (ring_peer p) (ring_peer q) × HasMoved (ring_peer p) (ring_peer q) × (is_done (ring_peer q) ≡ false) × (q.starved ≡ p.starved)
fed p q got rings o live kept same more some calm = (
  moves p q got [] rings more (kept ∙ sym (append-nil p.writer.bytes)) (λ h. absurd (both_not (has_ended p.reader.ending) live h)) (λ n. absurd (n o))
      (λ c. absurd (not_closed q.writer.ending (same ∙ o) c)),
  has_fetched p q got more live some,
  open_not_done q.writer.ending (has_ended q.reader.ending) (same ∙ o),
  calm,
)

-- the same where memory was short, so that the end was given
pub starved : (p q : RingPeerState) (got : List ℕ) → SameRings p q → p.writer.ending ≡ ending.Open → has_ended p.reader.ending ≡ false → q.writer.bytes ≡ p.writer.bytes → q.writer.ending ≡ ending.Ended
    → q.reader.bytes ≡ p.reader.bytes ++ got → Moved (ring_peer p) (ring_peer q)
starved p q got rings o live kept ended more =
    moves p q got [] rings more (kept ∙ sym (append-nil p.writer.bytes)) (λ h. absurd (both_not (has_ended p.reader.ending) live h)) (λ n. absurd (n o))
    (λ c. absurd (ended_not_closed q.writer.ending ended c))

-- behind the end, bytes or the mark were taken, and thrown away
pub thrown : (p q : RingPeerState) (got : List ℕ) (result : Served) → SameRings p q → has_ended p.reader.ending ≡ false → q.writer ≡ p.writer → q.reader.bytes ≡ p.reader.bytes ++ got
    → (0 < length got) ⊎ (has_ended q.reader.ending ≡ true) → (p.writer.ending ≡ ending.Closed → has_ended p.reader.ending ≡ true) → q.starved ≡ p.starved → Told result (ring_peer q) → ServeStep (ring_peer p) (Ok result) (ring_peer q)
thrown p q got result rings live kept more some closed calm told =
    let mark : q.writer.ending ≡ p.writer.ending = ap (λ (w : WriterState). w.ending) kept in
    told_step (ring_peer p) (ring_peer q) result
    (moves p q got [] rings more (ap (λ (w : WriterState). w.bytes) kept ∙ sym (append-nil p.writer.bytes)) (λ h. absurd (both_not (has_ended p.reader.ending) live h)) (λ _. (mark, refl))
    (λ c. absurd (both_not (has_ended p.reader.ending) live (closed (sym mark ∙ c)))))
    (has_fetched p q got more live some) calm told

no_mark : (e : Ending) → e ≡ ending.Open → e ≢ ending.Ended
no_mark e o n = cc

no_close : (e : Ending) → e ≡ ending.Open → e ≢ ending.Closed
no_close e o n = cc

has_given : (p q : RingPeerState) (room : List ℕ) (t : Take) → p.writer.ending ≡ ending.Open → IsTakeCount room t → q.writer.bytes ≡ p.writer.bytes ++ given_of room t → q.writer.ending ≡ mark_at t
    → t ≢ take_.Failed → t ≢ take_.Empty → HasMoved (ring_peer p) (ring_peer q)
has_given p q room (take_.Took n) o count more mark f e = inr (inl (longer p.writer.bytes q.writer.bytes (take n room) more (subst (λ m. 0 < m) (sym (length-take-le n room count.1)) count.0)))
has_given p q room take_.Empty o count more mark f e = absurd (e refl)
has_given p q room take_.End o count more mark f e = inr (inr (inr (λ same. no_mark p.writer.ending o (same ∙ mark))))
has_given p q room take_.Closed o count more mark f e = inr (inr (inr (λ same. no_close p.writer.ending o (same ∙ mark))))
has_given p q room take_.Failed o count more mark f e = absurd (f refl)

closing_mark : (t : Take) (e : Ending) → e ≡ mark_at t → e ≡ ending.Closed → t ≡ take_.Closed
closing_mark (take_.Took n) e m c = cc
closing_mark take_.Empty e m c = cc
closing_mark take_.End e m c = cc
closing_mark take_.Closed e m c = refl
closing_mark take_.Failed e m c = cc

pub given : (p q : RingPeerState) (room : List ℕ) (t : Take) (result : Served) → SameRings p q → p.writer.ending ≡ ending.Open → q.reader ≡ p.reader → IsTakeCount room t
    → q.writer.bytes ≡ p.writer.bytes ++ given_of room t → q.writer.ending ≡ mark_at t → (t ≡ take_.Closed → has_ended p.reader.ending ≡ true) → t ≢ take_.Failed → t ≢ take_.Empty
    → q.starved ≡ p.starved → Told result (ring_peer q) → ServeStep (ring_peer p) (Ok result) (ring_peer q)
given p q room t result rings o reader count more mark closed f e calm told =
    let bytes : q.reader.bytes ≡ p.reader.bytes = ap (λ (r : ReaderState). r.bytes) reader in
    let seen : has_ended q.reader.ending ≡ has_ended p.reader.ending = ap (λ (r : ReaderState). has_ended r.ending) reader in
    told_step (ring_peer p) (ring_peer q) result
    (moves p q [] (given_of room t) rings (bytes ∙ sym (append-nil p.reader.bytes)) more (λ h. (seen ∙ h, refl)) (λ n. absurd (n o)) (λ c. seen ∙ closed (closing_mark t q.writer.ending mark c)))
    (has_given p q room t o count more mark f e) calm told
