-- A client's seat of the ids stands for as many seats after its run as before it.
use Rattle.std.proofs.Common.{◌≡◌, Bool, List, ap, ◌∙◌}
use Rattle.sock_io.specs.declared.link.Out.{Ghosts}
use Rattle.sock_io.specs.LinkHalves.{OutState}
use Rattle.sock_words.specs.declared.plain.Plan.{Plan}
use Rattle.seat_programs.specs.declared.task.Task.{Task}
use Rattle.corr_core.specs.declared.marks.Plan as id_plan
use Rattle.corr_core.specs.declared.marks.View.{View}
use Rattle.sock_message.specs.Asked.{Asked}
use Rattle.corr_id.specs.declared.unlocks.Unlocked.TheVariants.{Open, Next}
use Rattle.call_errors.specs.ClientBooks.{CallStand}
use Rattle.call_errors.proofs.KeepingThroughErrors.{decided_behind, posted_behind}
use Rattle.call_client.specs.declared.caller.Caller.{Caller}
use Rattle.call_client.specs.ClientRun.{RunBy}
use Rattle.call_client.proofs.ClientCallChanges.{Sees, keeps, finds, makes, locks, unlocks, Changes, same, in_turn, sees, ends, decides, posts, wants, shelves, run_changes}

sees_share : {xs : List Task} {v w : View Asked} → Sees xs v w → w.share ≡ v.share
sees_share (keeps v w place own word e) = ap (λ (y : View Asked). y.share) e
sees_share (finds v w q) = q.share
sees_share (makes v w slots id asked own m) = m.did.share
sees_share (locks v w slots version k g) = g.got.did.share
sees_share (unlocks v w k advance Open u) = u.4.share
sees_share (unlocks v w k advance (Next l code attempt) u) = u.3.share

changes_share : {xs : List Task} {s t : CallStand} → Changes xs s t → t.view.share ≡ s.view.share
changes_share (same s t e) = ap (λ (y : CallStand). y.view.share) e
changes_share (in_turn s u t a b) = changes_share b ∙ changes_share a
changes_share (sees s t v e) = sees_share v
changes_share (ends s t k code e) = e.ended.share
changes_share (decides s t k code attempt d) = (decided_behind d).share
changes_share (posts s t slots id code attempt p) = (posted_behind slots s id code attempt t p).share
changes_share (wants s t e) = ap (λ (y : CallStand). y.view.share) e
changes_share (shelves s t waiting e) = ap (λ (y : CallStand). y.view.share) e

pub run_share : {O : Type 0} {g : Ghosts O} {state : O → OutState} {p : Plan} {q : id_plan.Plan} {short : Bool} {xs : List Task} (c d : Caller O g) → RunBy state p q short xs c d → d.calls.seat.me.0.share ≡ c.calls.seat.me.0.share
run_share c d r = changes_share (run_changes c d r)
