-- What stays as errors of calls are handled: what the seat keeps of operations, the seats for which it stands, and each of its notes.
use Rattle.std.proofs.Common.{◌≡◌, ℕ, ◌≤◌, List, [], ◌∷◌, ◌++◌, refl, ◌∙◌, ap, sym, subst, arith}
use Rattle.std.specs.Prelude.{Option as Maybe}
use Rattle.atomic_table.specs.Seated.{TableId}
use Rattle.atomic_table.specs.declared.shared.Seat.{Seat}
use Rattle.corr_core.specs.declared.marks.Note.{Note}
use Rattle.corr_core.specs.declared.marks.Noted.{Noted}
use Rattle.corr_core.specs.declared.marks.Token.{Token}
use Rattle.corr_core.specs.declared.marks.View.{View}
use Rattle.corr_id.specs.id_rule.specs.LawfulIdTable.{notes_of}
use Rattle.sock_message.specs.Asked.{Asked}
use Rattle.corr_id.specs.declared.calls.IdLock.{IdLock}
use Rattle.corr_id.specs.declared.posts.Posted.{Posted}
use Rattle.corr_id.specs.declared.posts.Posted.TheVariants.{Locked as HasLock, Queued as IsQueued, Gone, Stale, Crowded}
use Rattle.corr_id.specs.declared.unlocks.Unlocked.{Unlocked}
use Rattle.corr_id.specs.declared.unlocks.Unlocked.TheVariants.{Open, Next}
use Rattle.corr_id.specs.SeatBehindIdCalls.{Became, Did, Quiet}
use Rattle.corr_id.specs.PostAnswers.{PostOk}
use Rattle.corr_id.specs.IdTableSeat.{Stays}
use Rattle.corr_id.proofs.IdSeatSplits.{total_append, notes_append}
use Rattle.call_errors.specs.declared.retries.Retry.{Retry}
use Rattle.call_errors.specs.declared.seats.CallSeat.{CallSeat}
use Rattle.call_errors.specs.ClientBooks.{CallStand, HasNoLock, KeepsSeat}
use Rattle.call_errors.specs.Handling.{Advanced, Decided, ends, starves, waits, goes_on}
use Rattle.call_errors.specs.PostedErrors.{Handled, PostedBy}
use Rattle.call_errors.specs.Starving.{GivenUp, was_gone, ended, AllGivenUp, StarvedBy}
use Rattle.sock_words.specs.Totals.{total}

-- the same seat behind one step and the next
pub stays_then : (s t u : Seat (Maybe Asked) (View Asked)) → Stays s t → Stays t u → Stays s u
stays_then s t u a b = (b.0 ∙ a.0, b.1 ∙ a.1, b.2 ∙ a.2)

pub keeps_none : (z : TableId) (c : CallSeat) → HasNoLock z c → KeepsSeat z c c
keeps_none z c has = record { stays = (refl, refl, refl); ids = has }

pub keeps_then : (z : TableId) (c d e : CallSeat) → KeepsSeat z c d → KeepsSeat z d e → KeepsSeat z c e
keeps_then z c d e a b = record { stays = stays_then c.seat d.seat e.seat a.stays b.stays; ids = b.ids }

-- a later view of the same seat
pub record Behind (v w : View Asked) : Type 0 where
  pub kept : w.kept ≡ v.kept
  pub share : w.share ≡ v.share
  pub grows : (j : ℕ) (g : Note Asked → ℕ) → total g (notes_of j v.notes) ≤ total g (notes_of j w.notes)

pub behind_same : (s t : CallStand) → t ≡ s → Behind s.view t.view
behind_same s t e = subst (λ (y : CallStand). Behind s.view y.view) (sym e) (record { kept = refl; share = refl; grows = λ j g. omega arith })

pub behind_then : (u v w : View Asked) → Behind u v → Behind v w → Behind u w
behind_then u v w a b = record {
  kept = b.kept ∙ a.kept;
  share = b.share ∙ a.share;
  grows = λ j g. let x = a.grows j g in let y = b.grows j g in omega arith;
}

pub became_behind : (i : ℕ) (v w : View Asked) (ts : List (Token Asked)) (ns : List (Noted Asked)) → Became i v w ts ns → Behind v w
became_behind i v w ts ns b = record {
  kept = b.kept;
  share = b.share;
  grows = λ j g.
      let a : total g (notes_of j w.notes) ≡ total g (notes_of j ns ++ notes_of j v.notes) = ap (λ (l : List (Noted Asked)). total g (notes_of j l)) b.notes ∙ ap (total g) (notes_append j ns v.notes) in
      let c = total_append g (notes_of j ns) (notes_of j v.notes) in omega arith;
}

pub did_behind : (i : ℕ) (v w : View Asked) (ts : List (Token Asked)) (es : List (Noted Asked)) → Did i v w ts es → Behind v w
did_behind i v w ts es d = record { kept = d.kept; share = d.share; grows = d.grows }

pub quiet_behind : (v w : View Asked) → Quiet v w → Behind v w
quiet_behind v w q = record { kept = q.kept; share = q.share; grows = q.grows }

advanced_behind : (k : IdLock Asked) (answer : Unlocked Asked) (s t : CallStand) → Advanced k answer s t → Behind s.view t.view
advanced_behind k Open s t a = did_behind k.slot s.view t.view _ _ a.unlocked.4
advanced_behind k (Next l code attempt) s t a = did_behind k.slot s.view t.view _ _ a.unlocked.3

pub decided_behind : {s : CallStand} {k : IdLock Asked} {code : ℕ} {attempt : Maybe ℕ} {t : CallStand} → Decided s k code attempt t → Behind s.view t.view
decided_behind (ends s k code attempt t a b e) = became_behind k.slot s.view t.view _ _ e.ended
decided_behind (starves s k code attempt t a e) = became_behind k.slot s.view t.view _ _ e.ended
decided_behind (waits s k code attempt t a b e) = advanced_behind k Open s t e
decided_behind (goes_on s k code attempt t u l next of a b e rest) = behind_then s.view u.view t.view (advanced_behind k (Next l next of) s u e) (decided_behind rest)

pub post_behind : (slots : ℕ) (v w : View Asked) (id code : ℕ) (attempt : Maybe ℕ) (answer : Posted Asked) → PostOk slots v w id code attempt answer → Behind v w
post_behind slots v w id code attempt (HasLock k) p = did_behind k.slot v w _ _ p.4.1.did
post_behind slots v w id code attempt IsQueued p = did_behind _ v w _ _ p.0
post_behind slots v w id code attempt (Gone found) p = quiet_behind v w p.0
post_behind slots v w id code attempt (Stale current) p = quiet_behind v w p.0
post_behind slots v w id code attempt (Crowded first second) p = quiet_behind v w p.0

pub handled_behind : (code : ℕ) (attempt : Maybe ℕ) (answer : Posted Asked) (s t : CallStand) → Handled code attempt answer s t → Behind s.view t.view
handled_behind code attempt (HasLock k) s t h = decided_behind h
handled_behind code attempt IsQueued s t h = behind_same s t h
handled_behind code attempt (Gone found) s t h = behind_same s t h
handled_behind code attempt (Stale current) s t h = behind_same s t h
handled_behind code attempt (Crowded first second) s t h = behind_same s t h

pub posted_behind : (slots : ℕ) (s : CallStand) (id code : ℕ) (attempt : Maybe ℕ) (t : CallStand) → PostedBy slots s id code attempt t → Behind s.view t.view
posted_behind slots s id code attempt t p = let x = p.1 in
    behind_then s.view x.view t.view (post_behind slots s.view x.view id code attempt p.0 x.post) (handled_behind code attempt p.0 (record { view = x.view; books = s.books }) t x.handled)

pub given_up_behind : (slots id : ℕ) (s t : CallStand) → GivenUp slots id s t → Behind s.view t.view
given_up_behind slots id s t (was_gone g e) = quiet_behind s.view t.view g.quiet
given_up_behind slots id s t (ended k v g e) = behind_then s.view v t.view (did_behind k.slot s.view v _ _ g.got.did) (became_behind k.slot v t.view _ _ e.ended)

all_behind : (slots : ℕ) (rs : List Retry) (s t : CallStand) → AllGivenUp slots rs s t → Behind s.view t.view
all_behind slots [] s t e = behind_same s t e
all_behind slots (r ∷ rs) s t h = behind_then s.view h.0.view t.view (given_up_behind slots r.id s h.0 h.1) (all_behind slots rs h.0 t h.2)

pub starved_behind : (slots : ℕ) (s t : CallStand) → StarvedBy slots s t → Behind s.view t.view
starved_behind slots s t h = all_behind slots s.books.retries _ t h
