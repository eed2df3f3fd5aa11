-- Why the `expire`s of a run with calls have their outcomes: as a whole, but for which codes were queued.
use Rattle.std.proofs.Common.{◌≡◌, ℕ, List, ◌∷◌, sym, ap, ◌∙◌, subst, arith}
use Rattle.std.specs.Prelude.{Option}
use mathlib.Core.Option.{some}
use lib.ListN.{get_elem?}
use Rattle.call_told.specs.call_places.specs.script_facts.proofs.FilteredLists.{contains_from}
use Rattle.sock_io.specs.declared.link.Out.{Ghosts}
use Rattle.sock_io.specs.LinkHalves.{OutState}
use Rattle.sock_words.specs.declared.outcome.Outcome.{Outcome}
use Rattle.sock_words.specs.declared.outcome.Outcome.TheVariants as outcome
use Rattle.sock_words.specs.declared.plain.Plan.{Plan}
use Rattle.sock_words.specs.declared.place_word.PlaceWord.{PlaceWord}
use Rattle.sock_words.specs.declared.vref.Vref.{Vref}
use Rattle.seat_programs.specs.declared.task.Op.TheVariants as ops
use Rattle.seat_programs.specs.declared.task.Task.{Task}
use Rattle.seat_programs.specs.Explained.{AreTasks, IsTask, Became}
use Rattle.seat_programs.specs.ExplainedCalls.{Fixed, Order}
use Rattle.seat_programs.specs.ExplainedCalls as told_calls
use Rattle.corr_core.specs.declared.marks.Kept.{Kept}
use Rattle.corr_core.specs.declared.marks.Noted.{Noted}
use Rattle.corr_core.specs.declared.marks.View.{View}
use Rattle.id_rule.specs.LawfulIdTable.{call_index}
use Rattle.sock_message.specs.Asked.{Asked}
use Rattle.corr_id.specs.ClosingIdLists.{Closing}
use Rattle.call_told.specs.Below.RpcClient.Told.{Told}
use Rattle.call_told.specs.Below.CallErrors.ClientBooks.{CallStand}
use Rattle.call_told.specs.Below.CallErrors.ExpireAndJoinOutcomes.{ExpiredBy, TimedOut}
use Rattle.call_told.specs.Below.CallRun.ReadersOfLinks.{LinkReader}
use Rattle.call_told.specs.Below.CallRun.Threads.{RanWith, MayRunAll, ids_of}
use Rattle.call_told.specs.call_places.specs.ClientNotesCounted.{HaveNotesOf}
use Rattle.call_told.specs.call_places.proofs.ClientPlaces.{tasks_of, view_of}
use Rattle.call_told.specs.call_places.proofs.CallPlaceOrders.{all as all_clients, views_are}
use Rattle.call_told.specs.Least.{HasBegun}
use Rattle.call_told.proofs.ListElementsByPlace.{all_at}
use Rattle.call_told.proofs.ClientTellingMoves.{Fits}
use Rattle.call_told.proofs.RestingCallsEnded.{is_word}
use Rattle.expire_told.specs.ExpireOutcomesSaid.{AreSaid, AreOfCalls, HaveKeptOf, WhyExpired}
use Rattle.expire_told.proofs.ExpireEndedCall.{timed_out_word}
use Rattle.expire_told.proofs.ExpireOutcomeCauses.{fits, tasks_at, IsMade, made_of, expire_made, IsMaker, found_maker, expired_why, not_begun_why, begun_before, expired_once}
use Rattle.call_told.specs.call_places.specs.sock_deeds.proofs.ListPlaces.{to_slice, map_there}

module _ {O : Type 0} {g : Ghosts O} {state : O → OutState} {readers : List (LinkReader g)} {p : Plan} {slots : ℕ} {setup : List Task} {clients : List (List Task)} {opens : List ℕ} {told ended : List (List Told)} {places : List PlaceWord} {vrefs : List Vref} {outs : List O} {ids : List (View Asked)}
    (run : RanWith g state readers p slots setup clients opens told ended places vrefs outs ids) (tasks : AreTasks p (setup ∷ clients)) (may : MayRunAll p (ids_of p slots) setup clients)
    (notes : List (Noted Asked)) (kept : List Kept) (words : List ℕ) (closing : Closing (ids_of p slots) notes kept words) (noted : HaveNotesOf ids notes) (keeps : HaveKeptOf ids kept)
    (outcomes : List (Option Outcome)) (said_own : AreSaid outcomes told) (said_ended : AreSaid outcomes ended)
    -- no call that began is unopened
    (begun_not : (o id k : ℕ) (v : View Asked) → get_elem? ids k ≡ some v → HasBegun (ids_of p slots) o id v → Became (setup ∷ clients) outcomes o outcome.Unopened → ⊥) where
  abbrev every : List (List Task)
  every = setup ∷ clients

  -- operation t is a call that began
  pub record IsBegun (t : ℕ) : Type 0 where
    pub client : ℕ
    pub task : Task
    pub asked : Asked
    pub is : IsTask every outcomes client task
    pub is_call : task.op ≡ ops.Call asked
    pub number : task.number ≡ t
    pub began : Became every outcomes t outcome.Unopened → ⊥

  -- a call whose id was found has begun
  pub maker_begun : (of id : ℕ) → IsMaker run tasks may notes kept words closing noted keeps outcomes said_own said_ended of id → IsBegun of
  maker_begun of id m =
      let x = m.client in let b = m.own in
      let own : b.asked.operation ≡ b.task.number = all_at Fits (tasks_of x) b.place b.task (fits run tasks may notes kept words closing noted keeps outcomes said_own said_ended m.place x m.at) b.there b.asked b.is_call in
      record {
        client = m.place;
        task = b.task;
        asked = b.asked;
        is = (tasks_of x, to_slice every m.place (tasks_of x) (tasks_at run tasks may notes kept words closing noted keeps outcomes said_own said_ended m.place x m.at), contains_from (tasks_of x) b.task (b.place, to_slice (tasks_of x) b.place b.task b.there));
        is_call = b.is_call;
        number = sym own ∙ b.operation;
        began = begun_not of id m.place (view_of x) (ap (λ (l : List (View Asked)). get_elem? l m.place) (sym (views_are run)) ∙ map_there view_of (all_clients run) m.place x m.at) m.begun;
      }

  module _ (fixed : Fixed) (gave : ℕ → List ℕ) (orders : ℕ → Order) where
    -- and is no later operation of the client that found it
    timed_out_begun : (c of : ℕ) (t : Task) (by : Outcome) → IsTask every outcomes c t → t.op ≡ ops.Expire of → Became every outcomes t.number by → ((s v : CallStand) → ExpiredBy (ids_of p slots) of by s v → TimedOut (ids_of p slots) of by s v)
        → told_calls.HasBegun p every outcomes fixed gave orders c t.number of
    timed_out_begun c of t by is op became timed =
        let m = made_of run tasks may notes kept words closing noted keeps outcomes said_own said_ended c t is in let s = m.done.made.ready.calls in let v = m.done.after.has.calls in
        let h = timed s v (expire_made run tasks may notes kept words closing noted keeps outcomes said_own said_ended c of t by m op became) in
        let w = is_word (call_index (ids_of p slots) of) h.id in let a = timed_out_word (ids_of p slots) of by s v h in let b = (m.done.later of).1.grows.kept w in
        let k = maker_begun of h.id (found_maker run tasks may notes kept words closing noted keeps outcomes said_own said_ended of h.id c m.client m.at (omega (arith, a, b))) in (
          k.client,
          k.task,
          k.is,
          k.number,
          k.began,
          λ e. begun_before run tasks may notes kept words closing noted keeps outcomes said_own said_ended c of t k.task k.asked by is (subst (λ (i : ℕ). IsTask every outcomes i k.task) e k.is) op k.is_call k.number became timed k.began,
        )

    -- each outcome of an `expire` has its cause
    pub expire_why : AreOfCalls every outcomes → (c of : ℕ) (t : Task) (by : Outcome) → IsTask every outcomes c t → t.op ≡ ops.Expire of → Became every outcomes t.number by → WhyExpired p every outcomes fixed gave orders c t.number of by
    expire_why calls c of t by is op became = with by became (expire_made run tasks may notes kept words closing noted keeps outcomes said_own said_ended c of t by m op became)
      where
        m : IsMade run tasks may notes kept words closing noted keeps outcomes said_own said_ended c t
        m = made_of run tasks may notes kept words closing noted keeps outcomes said_own said_ended c t is

        with : (b : Outcome) → Became every outcomes t.number b → ExpiredBy (ids_of p slots) of b m.done.made.ready.calls m.done.after.has.calls → WhyExpired p every outcomes fixed gave orders c t.number of b
        with outcome.Expired e h = expired_why run tasks may notes kept words closing noted keeps outcomes said_own said_ended c of t is op e
        with outcome.NotBegun e h = not_begun_why run tasks may notes kept words closing noted keeps outcomes said_own said_ended calls c of t is op e
        with outcome.Queued e h = timed_out_begun c of t outcome.Queued is op e (λ s v x. x)
        with outcome.Late e h = timed_out_begun c of t outcome.Late is op e (λ s v x. x)
        with (outcome.Crowded a b) e h = timed_out_begun c of t (outcome.Crowded a b) is op e (λ s v x. x)
        with _ e h = elim h [ ]

  -- and none ends a call twice
  pub once : (c d of : ℕ) (t u : Task) → IsTask every outcomes c t → IsTask every outcomes d u → t.op ≡ ops.Expire of → u.op ≡ ops.Expire of → Became every outcomes t.number outcome.Expired → Became every outcomes u.number outcome.Expired → t.number ≡ u.number
  once = expired_once run tasks may notes kept words closing noted keeps outcomes said_own said_ended
