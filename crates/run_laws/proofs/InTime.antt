-- In each run every put comes directly behind a look of its seat that found the socket live, and behind a failure at most one goes out, whose look came before.
use Rattle.std.proofs.Common.{◌≡◌, ◌≢◌, ℕ, zero, suc, ◌<◌, ◌≤◌, ◌⊎◌, inl, inr, ⊎_elim, Bool, List, [], ◌∷◌, refl, sym, ap, ◌∙◌, subst, arith}
use Rattle.std.specs.Prelude.{Contains}
use mathlib.Core.Logic.{dite}
use mathlib.Core.Option.{Option, none, some, some-injective, some-ne-none}
use native.Mathlib.Decide.{ℕ_discrete, dec_le}
use lib.ListN.{get_elem?}
use Rattle.sock_words.specs.declared.plain.Plan.{Plan}
use Rattle.sock_model.specs.declared.view.View.{View}
use Rattle.seat_programs.specs.Programs.{Program, Rest}
use Rattle.seat_programs.specs.Cores.{Core, SeatState}
use Rattle.seat_programs.specs.Ticks.{Moment, ticked, broken_at}
use Rattle.programs_allowed.specs.program_steps.specs.SoundSeats.{state, views_after}
use Rattle.programs_allowed.specs.program_steps.proofs.TickCases.{elem_there}
use Rattle.run_laws.specs.World.{stopped_after}
use Rattle.run_laws.specs.Seen.{event_at}
use Rattle.run_laws.specs.LatePuts.{PutsInto, LooksLive, Puts, Looks, Fails, before, PutAt, FailAt, LookBefore, PutsInTime}
use Rattle.run_laws.proofs.WrittenLinkLives.{one_writer}
use Rattle.run_laws.proofs.KeptBySeats.{AreGiven, Kept}
use Rattle.run_laws.proofs.Stops.{kept_tick}
use Rattle.run_laws.proofs.Arrives.{AtPut, IsGone, put_first, put_right_of, comes_tick, gone_tick}
use Rattle.run_laws.proofs.Breaks.{fails_gone, look_fails_none, break_alone}
use Rattle.seat_programs.specs.LoopRounds.{first_step}

-- the seat of a tick that puts is at a put
puts_at : (c : Core) (m : Moment) (k : ℕ) → Puts c m k → AtPut k m.seat c
puts_at c m k puts = by_seat (get_elem? c.seats m.seat) refl puts
  where
    by_seat : (o : Option SeatState) → get_elem? c.seats m.seat ≡ o → PutsInto k (elim o as (λ o. Program) [ none ↦ Rest | some seat ↦ first_step seat.program ]) → AtPut k m.seat c
    by_seat none e puts = absurd puts
    by_seat (some seat) e puts = (seat, e, put_first k seat.program puts)

module _ (p : Plan) (k : ℕ) where
  -- one seat at most is at a put into the link
  one_put : (c : Core) (views : List View) (stopped : ℕ → Bool) → Kept p c views stopped → (s t : ℕ) → AtPut k s c → AtPut k t c → s ≡ t
  one_put c views stopped kept s t a b = let v = view_at s a.0 a.1 in let u = view_at t b.0 b.1 in
      let x = put_right_of p v.0 k a.0.program a.2 (kept.sound.seats s a.0 v.0 a.1 v.1).goes_on in let y = put_right_of p u.0 k b.0.program b.2 (kept.sound.seats t b.0 u.0 b.1 u.1).goes_on in
      one_writer p (state c views) kept.sound.lawful s t v.0 u.0 x.0 y.0 v.1 u.1 x.1 y.1 (x.2 ∙ sym y.2)
    where
      view_at : (i : ℕ) (x : SeatState) → get_elem? c.seats i ≡ some x → (v : View) × (get_elem? views i ≡ some v)
      view_at i x at = elem_there c.seats views i x kept.sound.each at

  look_fails : (c : Core) (views : List View) (stopped : ℕ → Bool) (m : Moment) → Kept p c views stopped → AreGiven p c (m ∷ []) → Looks c m k → Fails c m k → ⊥
  look_fails c views stopped m kept answered looks fails = by_seat (get_elem? c.seats m.seat) refl
    where
      by_seat : (o : Option SeatState) → get_elem? c.seats m.seat ≡ o → ⊥
      by_seat none e = subst (λ o. LooksLive c.words k (elim o as (λ o. Program) [ none ↦ Rest | some seat ↦ first_step seat.program ])) e looks
      by_seat (some seat) e = look_fails_none p c views stopped m kept answered.0 k seat e looks fails

  -- what a run keeps, it keeps before each tick
  kept_at : (ms : List Moment) (c : Core) (views : List View) (stopped : ℕ → Bool) → Kept p c views stopped → AreGiven p c ms → (n : ℕ) → (us : List View) × (s : ℕ → Bool) × Kept p (before p c ms n) us s
  kept_at ms c views stopped kept answered zero = (views, stopped, kept)
  kept_at [] c views stopped kept answered (suc n) = (views, stopped, kept)
  kept_at (a ∷ ms) c views stopped kept answered (suc n) = kept_at ms (ticked p c a) (views_after p c views a) (stopped_after (event_at p c views a) stopped) (kept_tick p c views stopped a kept answered.0) answered.1 n

  -- a seat at a put was there from the beginning on, without a tick of its own, or came there by a look
  origin : (ms : List Moment) (c : Core) (views : List View) (stopped : ℕ → Bool) → Kept p c views stopped → AreGiven p c ms → (s n : ℕ) → AtPut k s (before p c ms n)
      → (AtPut k s c × ((i : ℕ) (m : Moment) → i < n → get_elem? ms i ≡ some m → m.seat ≢ s)) ⊎ LookBefore p c ms k n s
  origin ms c views stopped kept answered s zero put = inl (put, λ i m low. absurd (omega arith))
  origin [] c views stopped kept answered s (suc n) put = inl (put, λ i m low e. absurd (some-ne-none m (sym e)))
  origin (a ∷ ms) c views stopped kept answered s (suc n) put = ⊎_elim
      (λ x. ⊎_elim
      (λ y. inl (y.1, λ i m. others y.0 x.1 i m))
      (λ z. inr record {
        place = 0;
        moment = a;
        there = refl;
        earlier = omega arith;
        own = z.0;
        live = z.1;
        last = λ i m late low e. behind x.1 i m late low e;
      })
      (comes_tick p c views stopped a kept answered.0 k s x.0))
      (λ l. inr record {
        place = suc l.place;
        moment = l.moment;
        there = l.there;
        earlier = let e = l.earlier in omega arith;
        own = l.own;
        live = l.live;
        last = λ i m late low e. later l i m late low e;
      })
      (origin ms (ticked p c a) (views_after p c views a) (stopped_after (event_at p c views a) stopped) (kept_tick p c views stopped a kept answered.0) answered.1 s n put)
    where
      others : a.seat ≢ s → ((i : ℕ) (m : Moment) → i < n → get_elem? ms i ≡ some m → m.seat ≢ s) → (i : ℕ) (m : Moment) → i < suc n → get_elem? (a ∷ ms) i ≡ some m → m.seat ≢ s
      others first rest zero m low e = subst (λ (y : Moment). y.seat ≢ s) (some-injective a m e) first
      others first rest (suc i) m low e = rest i m (omega arith) e

      behind : ((i : ℕ) (m : Moment) → i < n → get_elem? ms i ≡ some m → m.seat ≢ s) → (i : ℕ) (m : Moment) → 0 < i → i < suc n → get_elem? (a ∷ ms) i ≡ some m → m.seat ≢ s
      behind rest zero m late low e = absurd (omega arith)
      behind rest (suc i) m late low e = rest i m (omega arith) e

      later : (l : LookBefore p (ticked p c a) ms k n s) → (i : ℕ) (m : Moment) → suc l.place < i → i < suc n → get_elem? (a ∷ ms) i ≡ some m → m.seat ≢ s
      later l zero m late low e = absurd (omega arith)
      later l (suc i) m late low e = l.last i m (omega arith) (omega arith) e

  -- where the link is gone, a seat at a put was there before each tick
  gone_put : (ms : List Moment) (c : Core) (views : List View) (stopped : ℕ → Bool) → Kept p c views stopped → AreGiven p c ms → IsGone p c views stopped k → (s n : ℕ) → AtPut k s (before p c ms n)
      → (i : ℕ) → i ≤ n → AtPut k s (before p c ms i) × ((m : Moment) → i < n → get_elem? ms i ≡ some m → m.seat ≢ s)
  gone_put ms c views stopped kept answered gone s zero put zero low = (put, λ m less. absurd (omega arith))
  gone_put ms c views stopped kept answered gone s zero put (suc i) low = absurd (omega arith)
  gone_put [] c views stopped kept answered gone s (suc n) put zero low = (put, λ m less e. absurd (some-ne-none m (sym e)))
  gone_put [] c views stopped kept answered gone s (suc n) put (suc i) low = (put, λ m less e. absurd (some-ne-none m (sym e)))
  gone_put (a ∷ ms) c views stopped kept answered gone s (suc n) put zero low =
      let x = gone_put ms (ticked p c a) (views_after p c views a) (stopped_after (event_at p c views a) stopped) (kept_tick p c views stopped a kept answered.0) answered.1 (gone_tick p c views stopped a kept answered.0 k gone) s n put 0 (omega arith) in
      ⊎_elim (λ y. (y.1, λ m less e. subst (λ (z : Moment). z.seat ≢ s) (some-injective a m e) y.0)) (λ z. absurd (z.2 gone)) (comes_tick p c views stopped a kept answered.0 k s x.0)
  gone_put (a ∷ ms) c views stopped kept answered gone s (suc n) put (suc i) low =
      let x = gone_put ms (ticked p c a) (views_after p c views a) (stopped_after (event_at p c views a) stopped) (kept_tick p c views stopped a kept answered.0) answered.1 (gone_tick p c views stopped a kept answered.0 k gone) s n put i (omega arith) in
      (x.0, λ m less e. x.1 m (omega arith) e)

  -- and at most one put goes out
  one_less : (ms : List Moment) (c : Core) (views : List View) (stopped : ℕ → Bool) → Kept p c views stopped → AreGiven p c ms → IsGone p c views stopped k → (n j : ℕ) (m d : Moment) → PutAt p c ms k n m → PutAt p c ms k j d → n < j → ⊥
  one_less ms c views stopped kept answered gone n j m d a b less =
      let g = gone_put ms c views stopped kept answered gone d.seat j (puts_at (before p c ms j) d k b.1) n (omega arith) in let x = kept_at ms c views stopped kept answered n in
      g.1 m less a.0 (one_put (before p c ms n) x.0 x.1 x.2 m.seat d.seat (puts_at (before p c ms n) m k a.1) g.0)

  one_gone : (ms : List Moment) (c : Core) (views : List View) (stopped : ℕ → Bool) → Kept p c views stopped → AreGiven p c ms → IsGone p c views stopped k → (n j : ℕ) (m d : Moment) → PutAt p c ms k n m → PutAt p c ms k j d → n ≡ j
  one_gone ms c views stopped kept answered gone n j m d a b = dite (ℕ_discrete n j) (λ e. e) (λ ne. dite (dec_le (suc n) j)
      (λ less. absurd (one_less ms c views stopped kept answered gone n j m d a b less))
      (λ more. absurd (one_less ms c views stopped kept answered gone j n d m b a (omega (arith, ne, more)))))

  -- ## Behind the tick that fails the link or its socket

  -- who puts behind it was at the put before it
  early_put : (ms : List Moment) (c : Core) (views : List View) (stopped : ℕ → Bool) → Kept p c views stopped → AreGiven p c ms → (f n : ℕ) (a m : Moment) → FailAt p c ms k f a → PutAt p c ms k n m → f < n → AtPut k m.seat (before p c ms f)
  early_put [] c views stopped kept answered f n a m fail put less = absurd (some-ne-none a (sym fail.0))
  early_put (b ∷ ms) c views stopped kept answered f zero a m fail put less = absurd (omega arith)
  early_put (b ∷ ms) c views stopped kept answered (suc f) (suc n) a m fail put less =
      early_put ms (ticked p c b) (views_after p c views b) (stopped_after (event_at p c views b) stopped) (kept_tick p c views stopped b kept answered.0) answered.1 f n a m fail put (omega arith)
  early_put (b ∷ ms) c views stopped kept answered zero (suc n) a m fail put less =
      let fails : Fails c b k = subst (λ z. Fails c z k) (sym (some-injective b a fail.0)) fail.1 in
      let x = gone_put ms (ticked p c b) (views_after p c views b) (stopped_after (event_at p c views b) stopped) (kept_tick p c views stopped b kept answered.0) answered.1 (fails_gone p c views stopped b kept answered.0 k fails)
      m.seat n (puts_at (before p (ticked p c b) ms n) m k put.1) 0 (omega arith) in
      ⊎_elim (λ y. y.1) (λ z. absurd (look_fails c views stopped b kept (answered.0, tt) z.1 fails)) (comes_tick p c views stopped b kept answered.0 k m.seat x.0)

  one_behind : (ms : List Moment) (c : Core) (views : List View) (stopped : ℕ → Bool) → Kept p c views stopped → AreGiven p c ms → (f n j : ℕ) (a m d : Moment) → FailAt p c ms k f a → PutAt p c ms k n m → PutAt p c ms k j d → f < n → f < j → n ≡ j
  one_behind [] c views stopped kept answered f n j a m d fail put other less low = absurd (some-ne-none a (sym fail.0))
  one_behind (b ∷ ms) c views stopped kept answered f zero j a m d fail put other less low = absurd (omega arith)
  one_behind (b ∷ ms) c views stopped kept answered f (suc n) zero a m d fail put other less low = absurd (omega arith)
  one_behind (b ∷ ms) c views stopped kept answered (suc f) (suc n) (suc j) a m d fail put other less low =
      ap suc (one_behind ms (ticked p c b) (views_after p c views b) (stopped_after (event_at p c views b) stopped) (kept_tick p c views stopped b kept answered.0) answered.1 f n j a m d fail put other (omega arith) (omega arith))
  one_behind (b ∷ ms) c views stopped kept answered zero (suc n) (suc j) a m d fail put other less low =
      let fails : Fails c b k = subst (λ z. Fails c z k) (sym (some-injective b a fail.0)) fail.1 in
      ap suc (one_gone ms (ticked p c b) (views_after p c views b) (stopped_after (event_at p c views b) stopped) (kept_tick p c views stopped b kept answered.0) answered.1 (fails_gone p c views stopped b kept answered.0 k fails) n j m d put other)

  none_behind : (ms : List Moment) (c : Core) (views : List View) (stopped : ℕ → Bool) → Kept p c views stopped → AreGiven p c ms → (f n : ℕ) (a m : Moment) → get_elem? ms f ≡ some a → Contains (broken_at (before p c ms f) a) k → PutAt p c ms k n m → f < n → ⊥
  none_behind [] c views stopped kept answered f n a m at broken put less = absurd (some-ne-none a (sym at))
  none_behind (b ∷ ms) c views stopped kept answered f zero a m at broken put less = absurd (omega arith)
  none_behind (b ∷ ms) c views stopped kept answered (suc f) (suc n) a m at broken put less =
      none_behind ms (ticked p c b) (views_after p c views b) (stopped_after (event_at p c views b) stopped) (kept_tick p c views stopped b kept answered.0) answered.1 f n a m at broken put (omega arith)
  none_behind (b ∷ ms) c views stopped kept answered zero (suc n) a m at broken put less =
      let there : Contains (broken_at c b) k = subst (λ z. Contains (broken_at c z) k) (sym (some-injective b a at)) broken in
      let x = gone_put ms (ticked p c b) (views_after p c views b) (stopped_after (event_at p c views b) stopped) (kept_tick p c views stopped b kept answered.0) answered.1 (fails_gone p c views stopped b kept answered.0 k (inr there))
      m.seat n (puts_at (before p (ticked p c b) ms n) m k put.1) 0 (omega arith) in
      ⊎_elim (λ y. y.0 (break_alone p c views stopped b kept answered.0 k m.seat there y.1)) (λ z. look_fails c views stopped b kept (answered.0, tt) z.1 (inr there)) (comes_tick p c views stopped b kept answered.0 k m.seat x.0)

-- where a run begins with no seat at a put
pub in_time : (p : Plan) (c : Core) (views : List View) (stopped : ℕ → Bool) (ms : List Moment) → Kept p c views stopped → AreGiven p c ms → ((k s : ℕ) → AtPut k s c → ⊥) → PutsInTime p c ms
in_time p c views stopped ms kept answered none_ = record {
  looked = λ k n m put. ⊎_elim (λ x. absurd (none_ k m.seat x.0)) (λ l. l) (origin p k ms c views stopped kept answered m.seat n (puts_at (before p c ms n) m k put.1));
  early = λ k f n a m fail put less. ⊎_elim (λ x. absurd (none_ k m.seat x.0)) (λ l. l) (origin p k ms c views stopped kept answered m.seat f (early_put p k ms c views stopped kept answered f n a m fail put less));
  one = λ k f n j a m d fail put other less low. one_behind p k ms c views stopped kept answered f n j a m d fail put other less low;
  none_ = λ k f n a m at broken put less. none_behind p k ms c views stopped kept answered f n a m at broken put less;
}
