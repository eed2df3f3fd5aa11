-- A seat of ids behind one call and the next.
use Rattle.std.proofs.Common.{◌≡◌, ◌≢◌, ℕ, List, [], refl, ◌∙◌}
use Rattle.std.specs.Prelude.{Option}
use Rattle.atomic_table.specs.Seated.{TableId}
use Rattle.atomic_table.specs.declared.shared.Seat.{Seat}
use Rattle.corr_core.specs.IdSlotWord.{Parts}
use Rattle.corr_core.specs.declared.marks.Noted.{Noted}
use Rattle.corr_core.specs.declared.marks.View.{View}
use Rattle.id_rule.specs.LawfulIdTable.{tokens_in}
use Rattle.corr_id.specs.IdTableSeat.{Stays, IsFree}
use Rattle.corr_id.specs.SeatBehindIdCalls.{Became, GotLock, Quiet}
use Rattle.corr_id.proofs.TestingOneLock.{sits_on, quiet_free, became_free}
use Rattle.rpc_reader.specs.ReaderIdSeat.{IsOpen, Rests}

module _ {C : Type 0} where
  pub stays_then : (s t u : Seat (Option C) (View C)) → Stays s t → Stays t u → Stays s u
  stays_then s t u a b = (b.0 ∙ a.0, b.1 ∙ a.1, b.2 ∙ a.2)

  pub rests_then : (s t u : Seat (Option C) (View C)) → Rests s t → Rests t u → Rests s u
  rests_then s t u a b = record { stays = stays_then s t u a.stays b.stays; share = b.share ∙ a.share; free = b.free }

  pub rests_none : (s : Seat (Option C) (View C)) → IsFree s.me.0 → Rests s s
  rests_none s free = record { stays = (refl, refl, refl); share = refl; free = free }

  pub open_still : (z : TableId) (s t : Seat (Option C) (View C)) → IsOpen z s → Rests s t → IsOpen z t
  open_still z s t o r = record { sits = sits_on z s t r.stays r.share o.sits; free = r.free }

  -- behind a call that locked nothing
  pub rests_quiet : (s t : Seat (Option C) (View C)) → IsFree s.me.0 → Stays s t → Quiet s.me.0 t.me.0 → Rests s t
  rests_quiet s t free stays q = record { stays = stays; share = q.share; free = quiet_free s.me.0 t.me.0 q free }

  -- a lock that was got is the only one
  pub got_others : (i : ℕ) (v w : View C) (word : ℕ) (k : Parts) (c : C) → IsFree v → GotLock i v w word k c → (j : ℕ) → j ≢ i → tokens_in j w ≡ []
  got_others i v w word k c free got j n = got.did.others j n ∙ free j

  -- and with its end there is none
  pub rests_ended : (i : ℕ) (s t : Seat (Option C) (View C)) (es : List (Noted C)) → Stays s t → ((j : ℕ) → j ≢ i → tokens_in j s.me.0 ≡ []) → Became i s.me.0 t.me.0 [] es → Rests s t
  rests_ended i s t es stays others b = record { stays = stays; share = b.share; free = became_free i s.me.0 t.me.0 es b others }
