-- Of each post of a tick: why its seat made it.
use Rattle.std.proofs.Common.{◌≡◌, ℕ, ◌<◌, ◌≤◌, inl, inr, Bool, true, false, cond, eqb, nat_le, leb-true, leb-false, List, [], ◌∷◌, refl, sym, subst, arith}
use Rattle.std.specs.List.{AllByRecursion}
use mathlib.Core.Option.{Option, some, none}
use lib.ListN.{get_elem?}
use Rattle.sock_words.specs.declared.plain.Plan.{Plan}
use Rattle.sock_model.specs.declared.view.View.{View}
use Rattle.corr_core.specs.IdSlotWord.{parts}
use Rattle.corr_core.specs.declared.marks.Plan.{Plan as IdPlan}
use Rattle.attempted_calls.specs.Below.id_runs.specs.HeldIdTokens.{IdView}
use Rattle.attempted_calls.specs.Below.id_runs.specs.Goes.{SoundIds}
use Rattle.sock_message.specs.Asked.{Asked}
use Rattle.seat_programs.specs.Asides.{Step, Found, PostId}
use Rattle.seat_programs.specs.FoundAndChangedAside.{found_in}
use Rattle.seat_programs.specs.Programs.{Program, Aside}
use Rattle.seat_programs.specs.Cores.{Core, SeatState}
use Rattle.seat_programs.specs.Ticks.{Moment, taken}
use Rattle.attempted_calls.specs.Below.programs_allowed.specs.program_steps.specs.SoundSeats.{Sound}
use Rattle.attempted_calls.specs.Below.programs_allowed.specs.program_steps.proofs.TickCases.{elem_there}
use Rattle.attempted_calls.specs.Below.outcome_stories.specs.OperationStories.{In}
use Rattle.attempted_calls.specs.Below.call_stories.specs.PostsOfRun.{Post, posts_by, posted_with, posted_at}
use Rattle.attempted_calls.specs.accept_counts.specs.RefusedOrDropped.{Deed, Charge, NoCharge, IsRefused, HasDropped, Doing, IsChargeOf, IsPostOf, ChargeFits, ChargeLaw, IsSpent, PostKind, ByReader, ByExpiry, ByRefusal, ByDrop}
use Rattle.attempted_calls.specs.Below.outcome_stories.proofs.HomeCalls.{AreCalls}
use Rattle.refused_attempts.proofs.RefusedTicks.{Then, First, first_as}
use Rattle.attempted_calls.specs.Below.owing_ticks.proofs.OwingRuns.{same_first}
use Rattle.seat_programs.specs.LoopRounds.{first_step}
use Rattle.sock_words.specs.PackedWords.{call_id}

pub all_done : (Did Done : Deed → Type 0) → ((d : Deed) → Did d → Done d) → (ds : List Deed) → AllByRecursion Did ds → AllByRecursion Done ds
all_done Did Done f [] a = tt
all_done Did Done f (d ∷ ds) a = (f d a.0, all_done Did Done f ds a.1)

-- what is known of what was done, and of attempts that are spent, may grow
pub kind_more : (requests : ℕ) (is_call : Asked → Type 0) (ids : ℕ → ℕ) (Did Done : ℕ → Deed → Type 0) (Gone Went : ℕ → ℕ → Type 0) → ((j : ℕ) (d : Deed) → Did j d → Done j d) → ((id n : ℕ) → Gone id n → Went id n) → (j : ℕ) (x : Post) → PostKind requests is_call ids Did Gone j x
    → PostKind requests is_call ids Done Went j x
kind_more requests is_call ids Did Done Gone Went f g j x (ByReader n reader e) = ByReader n reader e
kind_more requests is_call ids Did Done Gone Went f g j x (ByExpiry client e) = ByExpiry client e
kind_more requests is_call ids Did Done Gone Went f g j x (ByRefusal n code deeds client did refusal gone e) = ByRefusal n code deeds client (all_done (Did j) (Done j) (f j) deeds did) refusal (g x.id n gone) e
kind_more requests is_call ids Did Done Gone Went f g j x (ByDrop heading code deeds client did drop owner is e) = ByDrop heading code deeds client (all_done (Did j) (Done j) (f j) deeds did) drop owner is e

module _ (p : Plan) (q : IdPlan) (narrow : q.slots ≤ 65536) (is_call : Asked → Type 0) (ids : ℕ → ℕ) (Did : ℕ → Deed → Type 0) (c : Core) (vs : List View) (ss : List Doing) (law : ChargeLaw p.requests is_call ids p q Did c vs ss)
    (calls : AreCalls is_call c.calls) (us : List IdView) (real_ids : SoundIds p q c us) (m : Moment) (sound : Sound p c vs) where
  abbrev Then_ : ℕ → Deed → Type 0
  Then_ = Then p q narrow is_call ids Did c vs ss law calls us real_ids m

  -- what holds of each error that a seat with such a charge may post
  module _ (P : Post → Type 0) (by_post : (d : Charge) (ds : List Deed) → ChargeFits p.requests is_call ids p q c vs ss d ds → AllByRecursion (Then_ m.seat) ds → (x : Post) → IsPostOf p.requests is_call (nat_le 32 m.seat) d x.id x.error → P x) where
    module _ (seat : SeatState) (v : View) (s : Doing) (at_seat : get_elem? c.seats m.seat ≡ some seat) (at_view : get_elem? vs m.seat ≡ some v) (at_doing : get_elem? ss m.seat ≡ some s) where
      abbrev F : Program → Type 0
      F x = First p q narrow is_call ids Did c vs ss law calls us real_ids m seat v s at_seat at_view at_doing x

      posts_of : (step : Step) (next : Found step → Program) → F (Aside step next) → (o : Option (Found step)) (x : Post) → In x (elim o as (λ o. List Post) [ none ↦ [] | some found ↦ posts_by step found ]) → P x
      posts_of (PostId i from e) next f none x at = absurd at
      posts_of (PostId i from e) next f (some found) x at = by (eqb found from) at
        where
          by : (b : Bool) → In x (cond b ((record { id = call_id i (parts from).first; error = e }) ∷ []) []) → P x
          by true (inl same) = subst P (sym same) (by_post f.doing.charge f.doing.deeds f.due f.did (record { id = call_id i (parts from).first; error = e }) f.goes.0)
          by true (inr z) = absurd z
          by false z = absurd z
      posts_of _ next f none x at = absurd at
      posts_of _ next f (some found) x at = absurd at

      by_program : (program : Program) → F program → (x : Post) → In x (posted_with c.calls (taken m.answer) program) → P x
      by_program (Aside step next) f x at = posts_of step next f (found_in step c.calls (taken m.answer)) x at
      by_program _ f x at = absurd at

      seat_posts : (x : Post) → In x (posted_with c.calls (taken m.answer) (first_step seat.program)) → P x
      seat_posts x at = by_program (first_step seat.program) (first_as p q narrow is_call ids Did c vs ss law calls us real_ids m seat v s at_seat at_view at_doing (first_step seat.program) refl) x
          (subst (λ y. In x (posted_with c.calls (taken m.answer) y)) (same_first seat.program) at)

    -- holds of each post of the tick
    pub tick_posts : (x : Post) → In x (posted_at c m) → P x
    tick_posts x at = by (get_elem? c.seats m.seat) refl at
      where
        by : (o : Option SeatState) → get_elem? c.seats m.seat ≡ o → In x (elim o as (λ o. List Post) [ none ↦ [] | some seat ↦ posted_with c.calls (taken m.answer) (first_step seat.program) ]) → P x
        by none e z = absurd z
        by (some seat) e z = let d = elem_there c.seats ss m.seat seat law.each e in let v = elem_there c.seats vs m.seat seat sound.each e in seat_posts seat v.0 d.0 e v.1 d.1 x z

  abbrev Kind : Post → Type 0
  Kind x = PostKind p.requests is_call ids Then_ (IsSpent p.requests is_call ids p q c vs ss) m.seat x

  client_low : nat_le 32 m.seat ≡ false → m.seat < 32
  client_low e = let l = leb-false 32 m.seat e in omega (arith, l)

  reader_high : nat_le 32 m.seat ≡ true → 32 ≤ m.seat
  reader_high e = leb-true 32 m.seat e

  by_charge : (d : Charge) (ds : List Deed) → ChargeFits p.requests is_call ids p q c vs ss d ds → AllByRecursion (Then_ m.seat) ds → m.seat < 32 → (x : Post) → IsChargeOf p.requests is_call (nat_le 32 m.seat) d x.id x.error → Kind x
  by_charge NoCharge ds fits did client x e = absurd e
  by_charge (IsRefused id n code) ds fits did client x e = let y = subst (λ z. ChargeFits p.requests is_call ids p q c vs ss (IsRefused z n code) ds) e.0 fits in ByRefusal n code ds client did y.0 y.1 e.1
  by_charge (HasDropped heading code) ds fits did client x e = ByDrop heading code ds client did fits e.0 e.1 e.2

  by_kind : (d : Charge) (ds : List Deed) → ChargeFits p.requests is_call ids p q c vs ss d ds → AllByRecursion (Then_ m.seat) ds → (x : Post) → IsPostOf p.requests is_call (nat_le 32 m.seat) d x.id x.error → Kind x
  by_kind d ds fits did x (inl r) = ByReader r.1.0 (reader_high r.0) r.1.1
  by_kind d ds fits did x (inr (inl e)) = ByExpiry (client_low e.0) e.1
  by_kind d ds fits did x (inr (inr e)) = by_charge d ds fits did (client_low e.0) x e.1

  -- each post of the tick is of one of these kinds
  pub tick_kinds : (x : Post) → In x (posted_at c m) → Kind x
  tick_kinds = tick_posts Kind by_kind
