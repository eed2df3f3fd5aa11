-- The client whose seat makes a step is at the operation for which the story has it.
use Rattle.std.proofs.Common.{◌≡◌, ℕ, ◌<◌, ◌⊎◌, List, [], ◌∷◌, inl, inr, ⊎_elim, sym, refl, ap, ◌∙◌, subst, arith}
use Rattle.std.specs.Prelude.{Option, Some, None, slice_get}
use mathlib.Core.Option as core
use lib.ListN.{get_elem?}
use Rattle.sock_words.specs.declared.plain.Plan.{Plan}
use Rattle.sock_words.specs.declared.outcome.Outcome.{Outcome}
use Rattle.sock_model.specs.declared.view.View.{View}
use Rattle.brpc_model.specs.Order.{EachBefore}
use Rattle.seat_programs.specs.declared.task.Op.{Op}
use Rattle.seat_programs.specs.declared.task.Op.TheVariants as ops
use Rattle.seat_programs.specs.declared.task.Task.{Task}
use Rattle.seat_programs.specs.TableSteps.{TableStep, OnSlot, OnChain, LookWord, ReadNext}
use Rattle.seat_programs.specs.Writings.{Puts, Waits, Empties, Reversing}
use Rattle.seat_programs.specs.Programs.{Program, Do, Write, Aside, Round}
use Rattle.seat_programs.specs.corr_core.specs.IdSlotWord.{parts, code_of}
use Rattle.seat_programs.specs.corr_core.specs.EndedByRangeOrAttempt.{ends_call}
use Rattle.seat_programs.specs.Asides.{PutCall}
use Rattle.seat_programs.specs.LoopHeads.{Head, Exit, HasEnded, Unlocks, Decides, Locks, Opens}
use Rattle.seat_programs.specs.PostPrograms.{end_id, unlocked}
use Rattle.seat_programs.specs.LoopRounds.{round, first_step}
use Rattle.std.specs.Prelude.{Bool, true, false, if◌then◌else◌, ◌+◌}
use Rattle.seat_programs.specs.Cores.{Core, SeatState}
use Rattle.seat_programs.specs.SlotFreedByDrop.{call_in, next_call, IsAt}
use Rattle.seat_programs.specs.Explained.{AreTasks}
use Rattle.outcome_stories.specs.OperationStories.{Entry, Event, In, trace_of}
use Rattle.outcome_stories.specs.Explains.{Way, Own, IsLoopOf, Explains, Done, IsExplainedBy, IsSend}
use Rattle.outcome_stories.specs.KeptStory.{AreKept, SeatAt, undo}
use Rattle.outcome_stories.proofs.Members.{all_in, contains_in}
use Rattle.outcome_ticks.proofs.SeatPartOfStory.{Less, undo_todo, from_undo}
use Rattle.outcome_ticks.proofs.TableTasksDistinct.{sorted_of, same_some}
use Rattle.sock_words.specs.PackedWords.{ticket_request, id_slot}

-- the next step on a word is the first of the next round
-- a program of the tasks waits for no `open`
abbrev IsOwnLoop : Program → Type 0
IsOwnLoop (Round head next) = IsLoopOf Own head
IsOwnLoop other = Unit {0}

own_loop : (slots requests : ℕ) (calls : ℕ → Type 0) (broken : List ℕ) (done : List Done) (trace : List Entry) (todo : List Task) (program : Program) → Explains slots requests calls broken done trace todo program → IsOwnLoop program
own_loop slots requests calls broken done trace todo (Round head next) x = x.0.0
own_loop slots requests calls broken done trace todo _ x = tt

abbrev IsAside : Program → Type 0
IsAside (Aside s next) = Unit {0}
IsAside other = ⊥

aside_begins : (head : Head) (next : Exit head → Program) → IsLoopOf Own head → IsAside (round head next)
aside_begins (Decides id asked w e) next is = by_end (ends_call (parts w) e)
  where
    by_end : (b : Bool) → IsAside (if b then end_id (id_slot id) (next (HasEnded asked.operation (code_of e)))
        else Aside (PutCall (id_slot id) asked) (λ _. Round (Unlocks (id_slot id) w true) (unlocked (record { id = id; attempt = (parts w).attempt + 1 }) next)))
    by_end true = tt
    by_end false = tt
aside_begins (Locks i sought None) next is = tt
aside_begins (Locks i sought (Some w)) next is = tt
aside_begins (Opens o) next is = absurd is
aside_begins _ next is = tt

call_is : (program : Program) (call : TableStep) (next : ℕ → Program) → IsOwnLoop program → first_step program ≡ Do call next → call_in program ≡ Some call
call_is (Do c n) call next is e = let q : c ≡ call = cc in ap (λ x. Some x) q
call_is (Write (Puts h now heading left taken asked) after) call next is e = let q : OnSlot (LookWord h.id) ≡ call = cc in ap (λ x. Some x) q
call_is (Write (Waits h now heading left taken) after) call next is e = absurd (cc)
call_is (Write (Empties h) after) call next is e = absurd (cc)
call_is (Write (Reversing h top at after) then_) call next is e = let q : OnChain (ReadNext (ticket_request at)) ≡ call = cc in ap (λ x. Some x) q
call_is (Round head n) call next is e = absurd (subst IsAside e (aside_begins head n is))
call_is _ call next is e = absurd (cc)

pub next_is : (slots requests : ℕ) (calls : ℕ → Type 0) (broken : List ℕ) (done : List Done) (trace : List Entry) (todo : List Task) (c : Core) (i : ℕ) (seat : SeatState) (call : TableStep) (next : ℕ → Program) → Explains slots requests calls broken done trace todo seat.program
    → get_elem? c.seats i ≡ core.some seat → first_step seat.program ≡ Do call next → next_call c i ≡ Some call
next_is slots requests calls broken done trace todo c i seat call next x at does = ap (λ o. elim o as (λ o. Option TableStep) [ core.none ↦ None | core.some x ↦ call_in x.program ]) at ∙ call_is seat.program call next (own_loop slots requests calls broken done trace todo seat.program x) does

-- of a task that is done something was said, or it is a `send`
none_send : (slots requests : ℕ) (ds : List Done) (trace : List Entry) (op : Op) (o : Option Outcome) → o ≡ None → IsExplainedBy slots requests ds trace op o → IsSend op
none_send slots requests ds trace op None q k = k.0
none_send slots requests ds trace op (Some _) q k = absurd (cc)

done_said : (slots requests : ℕ) (es : List Event) (i : ℕ) (done : List Done) → AreKept slots requests es i done → (d : Done) → In d done → d.outcome ≡ None → IsSend d.task.op
done_said slots requests es i [] kept d m e = absurd m
done_said slots requests es i (x ∷ xs) kept d (inr m) e = done_said slots requests es i xs kept.2 d m e
done_said slots requests es i (x ∷ xs) kept d (inl same) e = subst (λ (y : Done). IsSend y.task.op) (sym same)
    (none_send slots requests xs (trace_of i x.task.number es) x.task.op x.outcome (ap (λ (y : Done). y.outcome) (sym same) ∙ e) kept.0)

send_is : (op : Op) → IsSend op → (n : ℕ) × (bytes : List ℕ) × (op ≡ ops.Send n bytes)
send_is (ops.Send n bytes) s = (n, bytes, refl)
send_is _ s = absurd s

module _ (p : Plan) (clients : List (List Task)) (are : AreTasks p clients) (calls : ℕ → Type 0) (over : Bool) (c : Core) (es : List Event) (broken : List ℕ) (i : ℕ) (tasks : List Task) (asks : slice_get clients i ≡ Some tasks)
    (way : Way) (trace : List Entry) (done : List Done) (t : Task) (ts : List Task) (program : Program) (v : View) (s : SeatAt p calls over es broken c.outcomes i tasks way trace done (t ∷ ts) program v) where
  earlier_said : (u : Task) → In u (undo done (t ∷ ts)) → u.number < t.number → ((outcome : Outcome) × (slice_get c.outcomes u.number ≡ Some (Some outcome))) ⊎ ((n : ℕ) × (bytes : List ℕ) × (u.op ≡ ops.Send n bytes))
  earlier_said u m less = ⊎_elim
      (λ x. let d : Done = x.0 in by d.outcome d refl x.1 x.2)
      (λ n. absurd (⊎_elim (λ (e : u ≡ t). let same : u.number ≡ t.number = ap (λ (z : Task). z.number) e in omega (arith, same, less)) (λ n. let later : t.number < u.number = all_in (Less t) ts u sorted.0 n in omega (arith, later, less)) n))
      (from_undo done (t ∷ ts) u m)
    where
      sorted : EachBefore Less (t ∷ ts)
      sorted = undo_todo Less done (t ∷ ts) (subst (EachBefore Less) s.all (sorted_of p clients are i tasks asks))

      by : (o : Option Outcome) → (d : Done) → d.outcome ≡ o → In d done → d.task ≡ u → ((outcome : Outcome) × (slice_get c.outcomes u.number ≡ Some (Some outcome))) ⊎ ((n : ℕ) × (bytes : List ℕ) × (u.op ≡ ops.Send n bytes))
      by (Some outcome) d e m is = inl (outcome, subst (λ (z : Task). slice_get c.outcomes z.number ≡ Some (Some outcome)) is (all_in (λ (x : Done). slice_get c.outcomes x.task.number ≡ Some x.outcome) done d s.became m ∙ ap (λ x. Some x) e))
      by None d e m is = inr (subst (λ (z : Task). (n : ℕ) × (bytes : List ℕ) × (z.op ≡ ops.Send n bytes)) is (send_is d.task.op (done_said p.slots p.requests es i done s.kept d m e)))

  -- the client is at the first task that is still to do
  pub is_at : IsAt p clients c i t.number
  is_at = record {
    unsaid = s.unsaid.0;
    earlier = λ tasks' u has there less. earlier_said u (subst (In u) (same_some (slice_get clients i) tasks' tasks has asks ∙ s.all) (contains_in tasks' u there)) less;
  }
