-- What a client has behind each operation.
use Rattle.std.proofs.Common.{◌≡◌, ℕ, suc, ◌+◌, ◌<◌, ◌≤◌, List, [], ◌∷◌, length, take, drop, length-append, length-take, length-drop, ap, ◌∙◌, sym, subst, arith}
use Rattle.std.specs.Prelude.{All, Option as Maybe}
use Rattle.std.specs.List.{remove}
use Rattle.atomic_table.specs.Seated.{TableId}
use Rattle.sock_io.specs.declared.link.Out.{Ghosts}
use Rattle.sock_io.specs.LinkHalves.{OutState}
use Rattle.sock_words.specs.declared.plain.Plan.{Plan}
use Rattle.sock_words.specs.declared.outcome.Outcome.{Outcome}
use Rattle.sock_words.specs.declared.outcome.Outcome.TheVariants as outcome
use Rattle.sock_words.specs.PackedWords.{socket_id_slot}
use Rattle.sock_model.specs.declared.view.View.{View}
use Rattle.slot_steps.proofs.RuleNumbers.{only_le}
use Rattle.sock_rule.specs.declared.homes.Letter.{Letter}
use Rattle.sock_table.specs.LinkPasses.{IsPass}
use Rattle.call_attempts.specs.write_chain.specs.SendingIntoChain.{HasRoom}
use Rattle.call_attempts.specs.sock_open.specs.NewTableContents.{IsNewSeat}
use Rattle.corr_id.specs.IdTableSeat.{Sits, IsFree}
use Rattle.rpc_client.specs.declared.holding.Held.{Held}
use Rattle.rpc_client.specs.SeatBetweenOperations.{Idle, MayAct, AtRest, SameRefs}
use Rattle.rpc_client.specs.HoldAndDropOutcomes.{is_there, IsHolder, HeldBy, DroppedBy}
use Rattle.rpc_client.specs.AcceptedClientMessages.{OwnList}
use Rattle.rpc_client.proofs.CountedReferences.{holder_same}
use Rattle.rpc_client.proofs.NewSeatsOwnList.{sent_own, new_idle, new_holder, new_own}
use Rattle.call_errors.specs.ClientBooks.{CallStand, HasNoLock}
use Rattle.call_attempts.specs.call_writes.specs.MessageFateBesideCalls.{SentCalling}
use Rattle.call_client.specs.declared.caller.Caller.{Caller}
use Rattle.call_client.specs.ClientBetweenOperations.{MayGo}
use Rattle.call_client.proofs.KnowingOperationNames.{sent_plainly}
use Rattle.sock_words.specs.Totals.{total}

few_there : (i : ℕ) (h : List Held) → total (is_there i) h ≤ length h
few_there i [] = omega arith
few_there i (x ∷ xs) = let a = few_there i xs in let b = only_le i (socket_id_slot x.id.0) in omega arith

short_removed : {A : Type 0} (h : List A) (at : ℕ) → length (remove h at) ≤ length h
short_removed h at = let a = length-take at h in let b = length-drop (suc at) h in let c = length-append (take at h) (drop (suc at) h) in omega arith

pub held_few : (p : Plan) (n : ℕ) (by : Outcome) (h : List Held) (v : View) (k : List Held) (w : View) → HeldBy p n by h v k w → length k ≤ length h + 1
held_few p n outcome.Unopened h v k w b = let e = ap length b.0 in omega arith
held_few p n (outcome.Gone found) h v k w b = let e = ap length b.0 in omega arith
held_few p n outcome.Held h v k w b = let e = ap length b.1 in let d = length-append h (record { name = n; id = b.0 } ∷ []) in omega arith
held_few p n _ h v k w b = elim b [ ]

pub dropped_few : (n : ℕ) (by : Outcome) (h : List Held) (v : View) (k : List Held) (w : View) → DroppedBy n by h v k w → length k ≤ length h + 1
dropped_few n outcome.NotHeld h v k w b = let e = ap length b.1 in omega arith
dropped_few n outcome.Freed h v k w b = let e = ap length b.2.left in let d = short_removed h b.0 in omega arith
dropped_few n outcome.Kept h v k w b = let e = ap length b.2.left in let d = short_removed h b.0 in omega arith
dropped_few n _ h v k w b = elim b [ ]

-- ## The list of accepted messages

pub own_still : (n : ℕ) (v w : View) → w.lists ≡ v.lists → OwnList n v → OwnList n w
own_still n v w e o = record { made = o.made; taken_in = o.taken_in; lists = e ∙ o.lists; few = o.few }

pub room_for_one : (n : ℕ) (v : View) → OwnList n v → n < 33554431 → HasRoom v
room_for_one n v o lt = record { made = o.made; taken_in = o.taken_in; lists = o.lists; room = (let few = o.few in omega arith) }

pub sent_calling_own : {O : Type 0} (state : O → OutState) (p : Plan) (slots n : ℕ) (msg : Letter) (count : ℕ) (by : Maybe Outcome) (v w : View) (s t : CallStand) → OwnList count v → SentCalling state p slots n msg by v s w t → OwnList (count + 1) w
sent_calling_own state p slots n msg count by v w s t own d = sent_own state p n msg count by v w own (sent_plainly state p slots n msg by v w s t d)

-- ## A client between two operations

module _ {O : Type 0} {g : Ghosts O} (z : TableId) (p : Plan) (y : TableId) where
  -- few references are kept, so that one more may be taken
  pub may_act_now : (n : ℕ) (c : Caller O g) → MayGo z p y n c → n < 65536 → MayAct z p c.seat
  may_act_now n c go lt = record { idle = go.idle; room = λ i il. (let a = go.holder.refs i in let b = few_there i c.held.items in let d = go.few in omega arith) }

  pub more_made : (n m : ℕ) (c : Caller O g) → MayGo z p y n c → n ≤ m → MayGo z p y m c
  more_made n m c go le = record { idle = go.idle; holder = go.holder; passes = go.passes; few = (let few = go.few in omega arith); own = go.own; ids = go.ids }

  -- behind an operation that keeps the references
  pub kept_go : (n m : ℕ) (c d : Caller O g) → MayGo z p y n c → n ≤ m → AtRest z p c.seat d.seat → SameRefs c.seat.me.0 d.seat.me.0 → d.held ≡ c.held → All (IsPass z p) d.passes.items → OwnList d.sent d.seat.me.0 → HasNoLock y d.calls → MayGo z p y m d
  kept_go n m c d go le rest refs held passes own ids = record {
    idle = rest.idle;
    holder = subst (λ h. IsHolder p h.items d.seat.me.0) (sym held) (holder_same p c.held.items c.seat.me.0 go.holder d.seat.me.0 refs);
    passes = passes;
    few = (let a = go.few in let b = ap (λ h. length h.items) held in omega arith);
    own = own;
    ids = ids;
  }

  pub same_passes : (c d : Caller O g) → d.passes ≡ c.passes → All (IsPass z p) c.passes.items → All (IsPass z p) d.passes.items
  same_passes c d e all = subst (λ l. All (IsPass z p) l.items) (sym e) all

  pub same_sent : (c d : Caller O g) → d.sent ≡ c.sent → d.seat.me.0.lists ≡ c.seat.me.0.lists → OwnList c.sent c.seat.me.0 → OwnList d.sent d.seat.me.0
  same_sent c d sent lists own = subst (λ k. OwnList k d.seat.me.0) (sym sent) (own_still c.sent c.seat.me.0 d.seat.me.0 lists own)

  pub same_ids : (c d : Caller O g) → d.calls ≡ c.calls → HasNoLock y c.calls → HasNoLock y d.calls
  same_ids c d calls ids = subst (λ k. HasNoLock y k) (sym calls) ids

  -- behind one that changes them
  pub held_go : (n : ℕ) (c d : Caller O g) → MayGo z p y n c → AtRest z p c.seat d.seat → IsHolder p d.held.items d.seat.me.0 → length d.held.items ≤ length c.held.items + 1 → d.passes ≡ c.passes → d.seat.me.0.lists ≡ c.seat.me.0.lists → d.sent ≡ c.sent → d.calls ≡ c.calls → MayGo z p y (n + 1) d
  held_go n c d go rest holder few passes lists sent calls = record {
    idle = rest.idle;
    holder = holder;
    passes = same_passes c d passes go.passes;
    few = (let a = go.few in omega arith);
    own = same_sent c d sent lists go.own;
    ids = same_ids c d calls go.ids;
  }

  -- behind one on calls alone
  pub same_go : (n m : ℕ) (c d : Caller O g) → MayGo z p y n c → n ≤ m → d.seat ≡ c.seat → d.held.items ≡ c.held.items → d.passes ≡ c.passes → d.sent ≡ c.sent → HasNoLock y d.calls → MayGo z p y m d
  same_go n m c d go le seat held passes sent ids = record {
    idle = subst (λ s. Idle z p s) (sym seat) go.idle;
    holder = subst (λ s. IsHolder p d.held.items s.me.0) (sym seat) (subst (λ (h : List Held). IsHolder p h c.seat.me.0) (sym held) go.holder);
    passes = same_passes c d passes go.passes;
    few = (let a = go.few in let b = ap length held in omega arith);
    own = subst (λ k. OwnList k d.seat.me.0) (sym sent) (subst (λ s. OwnList c.sent s.me.0) (sym seat) go.own);
    ids = ids;
  }

-- a client that was made just now
pub new_caller : {O : Type 0} {g : Ghosts O} (z : TableId) (p : Plan) (y : TableId) (c : Caller O g) → IsNewSeat z p c.seat → Sits y c.calls.seat → IsFree c.calls.seat.me.0 → All (IsPass z p) c.passes.items → c.held.items ≡ [] → c.sent ≡ 0 → MayGo z p y 0 c
new_caller z p y c new sits free passes none_ sent = record {
  idle = new_idle z p c.seat new;
  holder = subst (λ (h : List Held). IsHolder p h c.seat.me.0) (sym none_) (new_holder z p c.seat new);
  passes = passes;
  few = (let e = ap length none_ in omega arith);
  own = subst (λ k. OwnList k c.seat.me.0) (sym sent) (new_own z p c.seat new);
  ids = (sits, free);
}
