-- An error with the code of the end of a reading that a client posts in a tick is that of a message that it dropped.
use Rattle.std.proofs.Common.{◌≡◌, ◌≢◌, ℕ, ◌<◌, ◌≤◌, ◌==◌, if◌then◌else◌, inl, inr, ⊎_elim, nat_le, leb-true, List, sym, ap, ◌∙◌, arith}
use Rattle.std.specs.List.{AllByRecursion}
use Rattle.sock_words.specs.declared.plain.Plan.{Plan}
use Rattle.sock_model.specs.declared.chain.Heading.{Heading}
use Rattle.sock_model.specs.declared.view.View.{View}
use Rattle.corr_core.specs.IdSlotWord.{error_of, code_of}
use Rattle.corr_core.specs.declared.marks.Plan.{Plan as IdPlan}
use Rattle.corr_core.specs.EndedByRangeOrAttempt.{WHOLE}
use Rattle.ended_calls.specs.refused_attempts.specs.Below.id_runs.specs.HeldIdTokens.{IdView}
use Rattle.ended_calls.specs.refused_attempts.specs.Below.id_runs.specs.Goes.{SoundIds}
use Rattle.sock_message.specs.Asked.{Asked}
use Rattle.seat_programs.specs.Cores.{Core}
use Rattle.seat_programs.specs.Ticks.{Moment}
use Rattle.ended_calls.specs.refused_attempts.specs.Below.programs_allowed.specs.program_steps.specs.SoundSeats.{Sound}
use Rattle.ended_calls.specs.refused_attempts.specs.Below.outcome_stories.specs.OperationStories.{In}
use Rattle.ended_calls.specs.refused_attempts.specs.Below.call_stories.specs.PostsOfRun.{Post, posted_at}
use Rattle.ended_calls.specs.refused_attempts.specs.accept_counts.specs.RefusedOrDropped.{Deed, Charge, NoCharge, IsRefused, HasDropped, Doing, IsChargeOf, IsPostOf, IsDrop, ChargeFits, ChargeLaw}
use Rattle.ended_calls.specs.refused_attempts.specs.Below.outcome_stories.proofs.HomeCalls.{AreCalls}
use Rattle.ended_calls.specs.refused_attempts.proofs.RefusedTicks.{Then}
use Rattle.ended_calls.specs.refused_attempts.proofs.RefusedPosts.{tick_posts}

-- what a seat did for an error that it posted for a dropped message
pub record DropPost (Did : Deed → Type 0) (x : Post) : Type 0 where
  pub heading : Heading
  pub code : ℕ
  pub deeds : List Deed
  pub did : AllByRecursion Did deeds
  pub drop : IsDrop heading code deeds
  pub owned : heading.owner ≢ 0
  pub owner : heading.owner ≡ x.id
  pub error : x.error ≡ error_of (if code == 0 then 1009 else code) heading.label.attempt

module _ (p : Plan) (q : IdPlan) (narrow : q.slots ≤ 65536) (is_call : Asked → Type 0) (ids : ℕ → ℕ) (Did : ℕ → Deed → Type 0) (c : Core) (vs : List View) (ss : List Doing) (law : ChargeLaw p.requests is_call ids p q Did c vs ss)
    (calls : AreCalls is_call c.calls) (us : List IdView) (real_ids : SoundIds p q c us) (m : Moment) (sound : Sound p c vs) (low : m.seat < 32) where
  abbrev Then_ : ℕ → Deed → Type 0
  Then_ = Then p q narrow is_call ids Did c vs ss law calls us real_ids m

  abbrev For : Post → Type 0
  For x = code_of x.error ≡ 1014 → DropPost (Then_ m.seat) x

  by_charge : (d : Charge) (ds : List Deed) → ChargeFits p.requests is_call ids p q c vs ss d ds → AllByRecursion (Then_ m.seat) ds → (x : Post) → IsChargeOf p.requests is_call (nat_le 32 m.seat) d x.id x.error → For x
  by_charge NoCharge ds fits did x e last = absurd e
  by_charge (IsRefused id n code) ds fits did x e last = let f = fits.0 in let few = f.few in
      let own : code_of (error_of code n) ≡ code = (let z : code_of (error_of code n) ≡ code = omega (arith, few) in z) in let same : 1014 ≡ code = sym last ∙ (ap code_of e.1 ∙ own) in
      absurd (⊎_elim (λ a. let b = a.0 in omega (arith, b, same)) (λ a. let b = a.0 in omega (arith, b, same)) f.why)
  by_charge (HasDropped heading code) ds fits did x e last = record { heading = heading; code = code; deeds = ds; did = did; drop = fits; owned = e.0; owner = e.1; error = e.2 }

  by_post : (d : Charge) (ds : List Deed) → ChargeFits p.requests is_call ids p q c vs ss d ds → AllByRecursion (Then_ m.seat) ds → (x : Post) → IsPostOf p.requests is_call (nat_le 32 m.seat) d x.id x.error → For x
  by_post d ds fits did x (inl r) last = absurd (let l = leb-true 32 m.seat r.0 in omega (arith, l, low))
  by_post d ds fits did x (inr (inl e)) last = absurd (let a = ap code_of e.1 in let b : code_of (error_of 1008 WHOLE) ≡ 1008 = omega arith in let z : 1014 ≡ 1008 = sym last ∙ (a ∙ b) in omega (arith, z))
  by_post d ds fits did x (inr (inr e)) last = by_charge d ds fits did x e.1 last

  -- each such post of the tick
  pub tick_drop : (x : Post) → In x (posted_at c m) → code_of x.error ≡ 1014 → DropPost (Then_ m.seat) x
  tick_drop = tick_posts p q narrow is_call ids Did c vs ss law calls us real_ids m sound For by_post
