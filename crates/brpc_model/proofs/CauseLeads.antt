-- Where what is told in one way leads to what is told in another, each cause does.
use Rattle.std.proofs.Common.{ℕ, ◌<◌, ◌⊎◌, inl, inr}
use Rattle.sock_words.specs.declared.outcome.Outcome.{Outcome}
use Rattle.sock_words.specs.declared.outcome.Outcome.TheVariants.{Unopened, Gone, Placed, Dropped, Full, Answered, Peer, CallFailed, Held, Freed, Kept, NotHeld, Failed, Already, Expired, Queued, Late, Crowded, Joined, NotBegun}
use Rattle.brpc_model.specs.Frame.{Frame}
use Rattle.brpc_model.specs.Why.{Finding, Sending, SendCause, FailCause, HoldCause, DropCause, Links, Attempt, Seeking, Ending, WhyLost, WasFailing, RunEnding, WasUnopened, WhyAgain, AfterDrop, AfterLoss, AfterFull, IsAnsweredBy, EndedWith, FailedBy, ByExpiry, ByCompression, ByFrameFault, ByEnd, BySocket, ByRequests, ByFail, Calling, CallCause, Target, ExpireCause, JoinCause}

-- ## Sockets

pub record FindingLeads (a b : Finding) : Type 1 where
  pub none_ : a.FoundNone → b.FoundNone
  pub failed : (P : ℕ → Type 0) → a.FoundFailed P → b.FoundFailed P
  pub socket : a.HasSocket → b.HasSocket

pub record SendingLeads (a b : Sending) : Type 1 where
  pub find : FindingLeads a.find b.find
  pub full : a.WasFull → b.WasFull
  pub placed : (k p : ℕ) → a.WasPlaced k p → b.WasPlaced k p
  pub dropped : (k p : ℕ) → a.WasDropped k p → b.WasDropped k p

pub send_leads : (a b : Sending) → SendingLeads a b → (o : Outcome) → SendCause a o → SendCause b o
send_leads a b l Unopened w = l.find.none_ w
send_leads a b l (Gone found) w = l.find.failed _ w
send_leads a b l (Placed k p) w = l.placed k p w
send_leads a b l (Dropped k p) w = l.dropped k p w
send_leads a b l Full w = (l.find.socket w.0, l.full w.1)
send_leads a b l other w = absurd w

pub fail_leads : (a b : Finding) (A B : Type 0) → FindingLeads a b → (A → B) → (o : Outcome) → FailCause a A o → FailCause b B o
fail_leads a b A B l f Unopened w = l.none_ w
fail_leads a b A B l f (Gone found) w = l.failed _ w
fail_leads a b A B l f (Already found) w = l.failed _ w
fail_leads a b A B l f Failed w = f w
fail_leads a b A B l f other w = absurd w

pub hold_leads : (a b : Finding) → FindingLeads a b → (o : Outcome) → HoldCause a o → HoldCause b o
hold_leads a b l Unopened w = l.none_ w
hold_leads a b l (Gone found) w = l.failed _ w
hold_leads a b l Held w = l.socket w
hold_leads a b l other w = absurd w

pub drop_leads : (A B : (Outcome → Type 0) → Type 0) → ((P : Outcome → Type 0) → A P → B P) → (o : Outcome) → DropCause A o → DropCause B o
drop_leads A B f NotHeld w = f _ w
drop_leads A B f Freed w = f _ w
drop_leads A B f Kept w = f _ w
drop_leads A B f other w = absurd w

-- ## Attempts

pub record SeekingLeads (m n : Links) (s t : Seeking) : Type 0 where
  pub retry : 0 < s.attempt → 0 < t.attempt
  pub named : (k : ℕ) → s.IsOfName k → t.IsOfName k
  pub failing : (k : ℕ) → s.IsOfName k → m.IsFailing k → n.IsFailing k
  pub ended : s.RunEnded → t.RunEnded
  pub client : (c : ℕ) → s.IsClient c → t.IsClient c
  pub behind : (c o : ℕ) → s.IsBehind c o → t.IsBehind c o
  pub none_ : (c o : ℕ) → s.FoundNone c o → t.FoundNone c o

pub lost_leads : (m n : Links) (s t : Seeking) → SeekingLeads m n s t → WhyLost m s → WhyLost n t
lost_leads m n s t l (WasFailing k named failing) = WasFailing k (l.named k named) (l.failing k named failing)
lost_leads m n s t l (RunEnding ended) = RunEnding (l.ended ended)
lost_leads m n s t l (WasUnopened retry c o some_ client behind none_) = WasUnopened (l.retry retry) c o some_ (l.client c client) (l.behind c o behind) (l.none_ c o none_)

-- what is told of a link is asked only where the attempt may be on it
pub record AttemptLeads (m n : Links) (a b : Attempt) : Type 0 where
  pub placed : b.IsPlaced → a.IsPlaced
  pub dropped : a.IsDropped → b.IsDropped
  pub unordered : a.IsUnordered → b.IsUnordered
  pub stands : (k : ℕ) → a.StandsOn k → b.StandsOn k
  pub on : (k : ℕ) → a.MayBeOn k → b.MayBeOn k
  pub failing : (k : ℕ) → a.MayBeOn k → m.IsFailing k → n.IsFailing k
  pub ended : (k : ℕ) → a.MayBeOn k → m.ReadingEnded k → n.ReadingEnded k
  pub fault : (k : ℕ) → a.MayBeOn k → m.GaveFault k → n.GaveFault k
  pub gave : (k i : ℕ) (frame : Frame) → m.Gave k i frame → n.Gave k i frame
  pub gave_back : (k i : ℕ) (frame : Frame) → n.Gave k i frame → m.Gave k i frame
  pub early : (k i : ℕ) → m.CameEarly k i → n.CameEarly k i
  pub full : a.IsUnordered → m.WasFull → n.WasFull

pub again_leads : (m n : Links) (a b : Attempt) (s t : Seeking) → AttemptLeads m n a b → SeekingLeads m n s t → WhyAgain m a s → WhyAgain n b t
again_leads m n a b s t l h (AfterDrop dropped) = AfterDrop (l.dropped dropped)
again_leads m n a b s t l h (AfterLoss out lost) = AfterLoss (l.unordered out) (lost_leads m n s t h lost)
again_leads m n a b s t l h (AfterFull out full) = AfterFull (l.unordered out) (l.full out full)

-- ## Calls

pub answered_leads : (A B : ℕ → ℕ → Frame → Type 0) (R S : Frame → Type 0) → ((k n : ℕ) (frame : Frame) → A k n frame → B k n frame) → ((frame : Frame) → R frame → S frame) →
    (P : Frame → Type 0) → IsAnsweredBy A R P → IsAnsweredBy B S P
answered_leads A B R S f g P w = (w.0, w.1, w.2, f w.0 w.1 w.2 w.3, g w.2 w.4, w.5)

pub ended_leads : (m n : Links) (a b : Attempt) (R S : Frame → Type 0) → AttemptLeads m n a b → ((frame : Frame) → S frame → R frame) → (k : ℕ) → EndedWith m a R k → EndedWith n b S k
ended_leads m n a b R S l back k w = record {
  on = l.on k w.on;
  ended = l.ended k w.on w.ended;
  lost = lost w.lost;
  unanswered = λ i frame gave response. (let h = w.unanswered i frame (l.gave_back k i frame gave) (back frame response) in (λ placed. h.0 (l.placed placed), l.early k i h.1));
}
  where
    lost : m.IsFailing k ⊎ (a.StandsOn k ⊎ (a.IsUnordered × m.WasFull)) → n.IsFailing k ⊎ (b.StandsOn k ⊎ (b.IsUnordered × n.WasFull))
    lost (inl failing) = inl (l.failing k w.on failing)
    lost (inr (inl stands)) = inr (inl (l.stands k stands))
    lost (inr (inr full)) = inr (inr (l.unordered full.0, l.full full.0 full.1))

pub record EndingLeads (c d : Ending) : Type 0 where
  pub none_left : c.NoneLeft → d.NoneLeft
  pub response : (frame : Frame) → c.IsResponse frame → d.IsResponse frame
  pub response_back : (frame : Frame) → d.IsResponse frame → c.IsResponse frame
  pub expired : (outcome : Outcome) → c.IsExpiredWith outcome → d.IsExpiredWith outcome
  pub failed : (code : ℕ) → c.IsFailedWith code → d.IsFailedWith code

pub failed_leads : (m n : Links) (a b : Attempt) (s t : Seeking) (c d : Ending) → AttemptLeads m n a b → SeekingLeads m n s t → EndingLeads c d → (code : ℕ) → FailedBy m a s c code → FailedBy n b t d code
failed_leads m n a b s t c d l h e code (ByExpiry is (inl x)) = ByExpiry is (inl (e.expired Expired x))
failed_leads m n a b s t c d l h e code (ByExpiry is (inr x)) = ByExpiry is (inr (e.expired Queued x))
failed_leads m n a b s t c d l h e code (ByCompression is x) = ByCompression is (answered_leads m.Gave n.Gave c.IsResponse d.IsResponse l.gave e.response _ x)
failed_leads m n a b s t c d l h e code (ByFrameFault is k on fault) = ByFrameFault is k (l.on k on) (l.fault k on fault)
failed_leads m n a b s t c d l h e code (ByEnd is k x) = ByEnd is k (ended_leads m n a b c.IsResponse d.IsResponse l e.response_back k x)
failed_leads m n a b s t c d l h e code (BySocket is none_left (inl out) lost) = BySocket is (e.none_left none_left) (inl (l.unordered out)) (lost_leads m n s t h lost)
failed_leads m n a b s t c d l h e code (BySocket is none_left (inr gone) lost) = BySocket is (e.none_left none_left) (inr (l.dropped gone)) (lost_leads m n s t h lost)
failed_leads m n a b s t c d l h e code (ByRequests is none_left out full) = ByRequests is (e.none_left none_left) (l.unordered out) (l.full out full)
failed_leads m n a b s t c d l h e code (ByFail low high none_left gone x) = ByFail low high (e.none_left none_left) (l.dropped gone) (e.failed code x)

pub record CallingLeads (a b : Calling) : Type 1 where
  pub none_ : a.FoundNone → b.FoundNone
  pub answered : (id : ℕ) (P : Frame → Type 0) → a.IsAnswered id P → b.IsAnswered id P
  pub failed : (id code : ℕ) → a.HasFailed id code → b.HasFailed id code

pub call_leads : (a b : Calling) → CallingLeads a b → (o : Outcome) → CallCause a o → CallCause b o
call_leads a b l Unopened w = l.none_ w
call_leads a b l (Answered id payload attachment) w = l.answered id _ w
call_leads a b l (Peer id code) w = (l.answered id _ w.0, w.1)
call_leads a b l (CallFailed id code) w = l.failed id code w
call_leads a b l other w = absurd w

-- ## What is said of another call

pub record TargetLeads (a b : Target) : Type 0 where
  pub outcome : (o : Outcome) → a.HasOutcome o → b.HasOutcome o
  pub begun : a.HasBegun → b.HasBegun
  pub not_begun : a.MayNotHaveBegun → b.MayNotHaveBegun

pub expire_leads : (a b : Target) → TargetLeads a b → (o : Outcome) → ExpireCause a o → ExpireCause b o
expire_leads a b l Expired w = (w.0, l.outcome _ w.1)
expire_leads a b l Queued w = l.begun w
expire_leads a b l Late w = l.begun w
expire_leads a b l (Crowded first second) w = (l.begun w.0, w.1, w.2)
expire_leads a b l NotBegun w = l.not_begun w
expire_leads a b l other w = absurd w

pub join_leads : (a b : Target) → TargetLeads a b → (o : Outcome) → JoinCause a o → JoinCause b o
join_leads a b l Joined w = l.begun w
join_leads a b l NotBegun w = l.not_begun w
join_leads a b l other w = absurd w
