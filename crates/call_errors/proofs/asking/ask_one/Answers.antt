use Rattle.std.proofs.Common.{◌≡◌, ◌≢◌, ◌<◌, ◌⊎◌, ◌≤◌, ℕ, None, refl, ap, ◌∙◌, subst, rules, arith}
use Rattle.std.proofs.lemmas.Grind.{common_steps}
use mathlib.Core.Logic.{dite}
use native.Mathlib.Decide.{ℕ_discrete}
use Rattle.sock_words.specs.ErrorCodes.{ERPCTIMEDOUT}
use Rattle.sock_words.specs.declared.outcome.Outcome.TheVariants.{NotBegun}
use Rattle.sock_words.specs.PackedWords.{id_slot, id_first}
use Rattle.corr_core.specs.IdSlotWord.{parts}
use Rattle.corr_core.specs.declared.marks.Plan.{Plan}
use Rattle.corr_core.specs.declared.marks.View.{View}
use Rattle.corr_id.specs.id_rule.specs.LawfulIdTable.{tokens_in}
use Rattle.corr_id.specs.declared.posts.Posted.{Posted}
use Rattle.corr_id.specs.declared.posts.Posted.TheVariants.{Queued as IsQueued, Crowded}
use Rattle.corr_id.specs.LocksByAttempt.{IsKnown}
use Rattle.corr_id.specs.PostAnswers.{PostOk, PostedNow}
use Rattle.corr_id.specs.SeatBehindIdCalls.{Quiet, Found, FoundNow, LacksId}
use Rattle.sock_message.specs.Asked.{Asked}
use Rattle.call_errors.specs.declared.asking.Ask.{Ask}
use Rattle.call_errors.specs.declared.asking.Ask.TheVariants.{Expire, Join}
use Rattle.call_errors.specs.ClientBooks.{CallStand, stand_of}
use Rattle.call_errors.specs.ExpireAndJoinOutcomes.{FoundNone, AskedBy, TimedOut, SawEnd, found_id, outcome_by}
use Rattle.call_errors.specs.PostedErrors.{Handled}
use Rattle.call_errors.proofs.KeepingThroughErrors.{stays_then}
use Rattle.call_errors.proofs.asking.ask_one.Goals as goal

none_asked : (ask : Ask) (p : Plan) (operation : ℕ) (s t : CallStand) → FoundNone p operation s t → AskedBy ask p operation NotBegun s t
none_asked Expire p operation s t none = none
none_asked Join p operation s t none = none

-- a post behind the id that was found noted
timed_out : (p : Plan) (operation id : ℕ) (answer : Posted Asked) (s t : CallStand) (v w : View Asked) → id ≢ 0 → v ≡ (found_id p operation id s).view → PostOk p.slots v w id ERPCTIMEDOUT None answer → PostedNow p.slots v w id ERPCTIMEDOUT None answer
    → Handled ERPCTIMEDOUT None answer (record { view = w; books = s.books }) t → TimedOut p operation (outcome_by answer) s t
timed_out p operation id answer s t v w some e post now handled = record {
  id = id;
  some = some;
  answer = answer;
  posted = record {
    view = w;
    post = subst (λ (y : View Asked). PostOk p.slots y w id ERPCTIMEDOUT None answer) e post;
    now = subst (λ (y : View Asked). PostedNow p.slots y w id ERPCTIMEDOUT None answer) e now;
    handled = handled;
  };
  by_answer = refl;
}

-- a join behind it
saw_end : (p : Plan) (operation id : ℕ) (s : CallStand) (v w : View Asked) → id ≢ 0 → v ≡ (found_id p operation id s).view → Quiet v w → (p.slots ≤ id_slot id) ⊎ ((word : ℕ) × Found (id_slot id) word w × LacksId (parts word) (id_first id))
    → (id_slot id < p.slots → (word : ℕ) × FoundNow (id_slot id) word v w × LacksId (parts word) (id_first id)) → (id_slot id < p.slots → IsKnown (id_slot id) (id_first id) v → (word : ℕ) × FoundNow (id_slot id) word v w × (id_first id < (parts word).first))
    → SawEnd p operation s (record { view = w; books = s.books })
saw_end p operation id s v w some e quiet gone gone_now ended = record {
  id = id;
  some = some;
  view = w;
  quiet = subst (λ (y : View Asked). Quiet y w) e quiet;
  gone = gone;
  gone_now = subst (λ (y : View Asked). id_slot id < p.slots → (word : ℕ) × FoundNow (id_slot id) word y w × LacksId (parts word) (id_first id)) e gone_now;
  ended = subst (λ (y : View Asked). id_slot id < p.slots → IsKnown (id_slot id) (id_first id) y → (word : ℕ) × FoundNow (id_slot id) word y w × (id_first id < (parts word).first)) e ended;
  after = refl;
}

pub returns-in_default-clause-asked : goal.returns-in_default-clause-asked
returns-in_default-clause-asked g c = none_asked c.args.ask c.args.ids.now.plan c.args.operation (stand_of c.args.calls.now) (stand_of (record c.args.calls.now { seat = c.noted.new.seat })) (first_of (search rules, grind (arith, common_steps)))

pub returns-in-Join-clause-asked : goal.returns-in-Join-clause-asked
returns-in-Join-clause-asked g c = let e = c.join.ensures in
    rw c.in-Join.is (saw_end c.args.ids.now.plan c.args.operation c.in-Some.id (stand_of c.args.calls.now) c.noted.new.seat.me.0 c.join.new.seat.me.0 c.in-Some.ensures.found.0 c.in-Some.ensures.found.1 e.quiet e.gone e.gone_now e.ended)

pub returns-in-Queued-clause-asked : goal.returns-in-Queued-clause-asked
returns-in-Queued-clause-asked g c = let e = c.in-Queued.ensures in
    rw c.in-Expire.is (timed_out c.args.ids.now.plan c.args.operation c.in-Some.id IsQueued (stand_of c.args.calls.now) (stand_of (record c.args.calls.now { seat = c.post.new.seat })) c.noted.new.seat.me.0 c.post.new.seat.me.0 c.in-Some.ensures.found.0 c.in-Some.ensures.found.1 e.posted e.found_now refl)

pub returns-in-Crowded-clause-asked : goal.returns-in-Crowded-clause-asked
returns-in-Crowded-clause-asked g c = let e = c.in-Crowded.ensures in
    rw c.in-Expire.is (timed_out c.args.ids.now.plan c.args.operation c.in-Some.id (Crowded c.in-Crowded.first c.in-Crowded.second) (stand_of c.args.calls.now) (stand_of (record c.args.calls.now { seat = c.post.new.seat })) c.noted.new.seat.me.0 c.post.new.seat.me.0 c.in-Some.ensures.found.0 c.in-Some.ensures.found.1 e.posted e.found_now refl)

pub returns-in-Locked-clause-keeps : goal.returns-in-Locked-clause-keeps
returns-in-Locked-clause-keeps g c = let first = c.args.calls.now.seat in let v = c.noted.new.seat in let u = c.post.new.seat in let w = c.handle.new.calls.seat in let k = c.in-Locked.lock in let got = c.in-Locked.ensures.posted.4.1 in let go = c.handle.ensures.let_go in record {
  stays = stays_then first u w (stays_then first v u c.noted.ensures.seat c.post.ensures.seat) c.handle.ensures.seat;
  ids = (
    c.handle.ensures.sits,
    (λ j. dite (ℕ_discrete j k.slot)
        (λ e. ap (λ (i : ℕ). tokens_in i w.me.0) e ∙ go.nothing)
        (λ n. go.others j n ∙ (got.did.others j n ∙ (ap (tokens_in j) c.in-Some.ensures.found.1 ∙ c.requires.ids.1 j)))),
  );
}
