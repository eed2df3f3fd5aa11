-- What is told of calls lasts.
use Rattle.std.proofs.Common.{◌≡◌, ◌≢◌, ℕ, inl, inr, ⊎_elim, Bool, List, [], ◌∷◌}
use Rattle.std.specs.List.{AllByRecursion}
use Rattle.sock_words.specs.declared.plain.Plan.{Plan}
use Rattle.sock_words.specs.declared.outcome.Outcome.{Outcome}
use Rattle.sock_words.specs.declared.outcome.Outcome.TheVariants as outcomes
use Rattle.seat_programs.specs.brpc_model.specs.Frame.{Frame}
use Rattle.corr_core.specs.IdSlotWord.{error_of}
use Rattle.corr_core.specs.declared.marks.Plan.{Plan as IdPlan}
use Rattle.sock_message.specs.Asked.{Asked}
use Rattle.seat_programs.specs.declared.task.Op.{Op}
use Rattle.seat_programs.specs.declared.task.Op.TheVariants as ops
use Rattle.seat_programs.specs.declared.task.Task.{Task}
use Rattle.seat_programs.specs.Asides.{Step, PutCall, StoreCall, UnlockId, EndId}
use Rattle.seat_programs.specs.LoopHeads.{Head, Unlocks, Decides, Reads}
use Rattle.seat_programs.specs.Programs.{Program, Do, Say, Sent, Rest, TakeMessage, TakeHome, PutHome, PutBytes, AskReady, Write, Aside, Round, Keep, Retries}
use Rattle.call_stories.specs.Scenes.{Birth, Scene, IsBorn, MayAdvance, IsAnsweredIn, IsExpired, CauseOf, of_expiry, of_other, FailedIn, by_expiry, by_compression, by_other, WhyEnded, HasNoneOf, NoneFound, HasBegunIn, HasNotBegunIn, WhyOwn, IsJust, ToldOf, was_said, was_sent, was_begun, AreTold, StaysWithin, Later}
use Rattle.call_stories.specs.Says.{Mark, MayUnlock, MayAside, CameFrom, AtHead, SaysOn}
use Rattle.sock_words.specs.PackedWords.{call_id}

module _ (p : Plan) (q : IdPlan) (clients : List (List Task)) (gives : ℕ → List ℕ) where
  abbrev After : Scene → Scene → Type 0
  After w w' = Later p q clients gives w w'

  pub far : (a b c : Scene) → After a b → After b c → After a c
  far a b c x y = record {
    said = λ o v s. y.said o v (x.said o v s);
    over = λ u v s. y.over u v (x.over u v s);
    named = λ n s. y.named n (x.named n s);
    begun = λ o s. y.begun o (x.begun o s);
    born = λ id asked s. y.born id asked (x.born id asked s);
    came = λ k n frame s. y.came k n frame (x.came k n frame s);
    claimed = λ i o s. y.claimed i o (x.claimed i o s);
    posted = λ e s. y.posted e (x.posted e s);
    decided = λ d s. y.decided d (x.decided d s);
    ended = λ b n u. y.ended b n (x.ended b n u);
    within = y.within;
    apart = y.apart;
  }

  -- a scene is as late as itself
  pub here_later : (w : Scene) → StaysWithin p q clients gives w → ((id : ℕ) (a b : Asked) → IsBorn w id a → IsBorn w id b → a ≡ b) → After w w
  here_later w room apart = record {
    said = λ o x s. s;
    over = λ a b s. s;
    named = λ n s. s;
    begun = λ o s. s;
    born = λ id asked s. s;
    came = λ k n frame s. s;
    claimed = λ i o s. s;
    posted = λ x s. s;
    decided = λ d s. s;
    ended = λ b n u. u;
    within = room;
    apart = apart;
  }

  module _ (w w' : Scene) (l : After w w') where
    answered_on : (id : ℕ) (asked : Asked) (P : Frame → Type 0) → IsAnsweredIn p q clients gives w id asked P → IsAnsweredIn p q clients gives w' id asked P
    answered_on id asked P a = (a.0, a.1, a.2, a.3, l.came a.0 a.1 a.2 a.4, a.5, a.6)

    pub expired_on : (asked : Asked) → IsExpired p q clients gives w asked → IsExpired p q clients gives w' asked
    expired_on asked e = (e.0, e.1, e.2, e.3, ⊎_elim (λ s. inl (l.said e.1.number outcomes.Expired s)) (λ s. inr (l.said e.1.number outcomes.Queued s)) e.4)

    pub cause_on : (id e : ℕ) → CauseOf p q clients gives w id e → CauseOf p q clients gives w' id e
    cause_on id e (of_expiry asked is b x) = of_expiry asked is (l.born id asked b) (expired_on asked x)
    cause_on id e (of_other x part there) = of_other x part (l.posted (record { id = id; error = e }) there)

    pub advance_on : (id n : ℕ) → MayAdvance p q clients gives w id n → MayAdvance p q clients gives w' id n
    advance_on id n a = (a.0, l.posted (record { id = id; error = error_of a.0 n }) a.1, a.2)

    pub unlock_on : (m : Mark) (i : ℕ) (advance : Bool) → MayUnlock p q clients gives w m i advance → MayUnlock p q clients gives w' m i advance
    unlock_on m i advance may = (may.0, may.1, may.2, λ e. advance_on (call_id i may.0) may.1.attempt (may.3 e))

    failed_on : (id : ℕ) (asked : Asked) (c : ℕ) → FailedIn p q clients gives w id asked c → FailedIn p q clients gives w' id asked c
    failed_on id asked c (by_expiry is x) = by_expiry is (expired_on asked x)
    failed_on id asked c (by_compression is x) = by_compression is (answered_on id asked (λ frame. frame.meta.compress_type ≢ Rattle.std.specs.Prelude.pos 0) x)
    failed_on id asked c (by_other n x there ended last on) = by_other n x (l.posted (record { id = id; error = error_of c n }) there) (l.ended (record { id = id; asked = asked }) n ended) last (l.decided (record { id = id; asked = asked; error = error_of c n }) on)

    pub ended_on : (b : Birth) (x : Outcome) → WhyEnded p q clients gives w b x → WhyEnded p q clients gives w' b x
    ended_on b (outcomes.Answered id payload attachment) y = (y.0, answered_on b.id b.asked (λ (frame : Frame). Rattle.seat_programs.specs.brpc_model.specs.Why.HasCode (Rattle.std.specs.Prelude.pos 0) frame × (frame.payload ≡ payload) × (frame.attachment ≡ attachment)) y.1)
    ended_on b (outcomes.Peer id c) y = (y.0, answered_on b.id b.asked (Rattle.seat_programs.specs.brpc_model.specs.Why.HasCode c) y.1, y.2)
    ended_on b (outcomes.CallFailed id c) y = (y.0, failed_on b.id b.asked c y.1)
    ended_on b _ y = absurd y

    none_of_on : (n : ℕ) (t : Task) → HasNoneOf p q clients gives w n t → HasNoneOf p q clients gives w' n t
    none_of_on n t h = λ k op. let x = h k op in (x.0, l.said t.number x.0 x.1, x.2)

    none_found_on : (before : List Task) (n : ℕ) → NoneFound p q clients gives w before n → NoneFound p q clients gives w' before n
    none_found_on before n f = record {
      setup = λ t is. none_of_on n t (f.setup t is);
      own = λ t is. let x = f.own t is in (none_of_on n t x.0, λ seeks. l.said t.number outcomes.Unopened (x.1 seeks));
    }

    has_begun_on : (c : ℕ) (before : List Task) (t : ℕ) → HasBegunIn p q clients gives w c before t → HasBegunIn p q clients gives w' c before t
    has_begun_on c before t h = (h.0, h.1, h.2, h.3, h.4, h.5, h.6, h.7, l.born h.2 h.3 h.8, h.9)

    not_begun_on : (before : List Task) (t : ℕ) → HasNotBegunIn p q clients gives w before t → HasNotBegunIn p q clients gives w' before t
    not_begun_on before t h = λ task is e. l.said t outcomes.Unopened (h task is e)

    pub own_on : (c : ℕ) (before : List Task) (op : Op) (x : Outcome) → WhyOwn p q clients gives w c before op x → WhyOwn p q clients gives w' c before op x
    own_on c before (ops.Call asked) outcomes.Unopened y = none_found_on before (Rattle.sock_message.specs.Asked.name_of asked 0) y
    own_on c before (ops.Expire t) outcomes.Expired y = (y.0, l.said t (outcomes.CallFailed y.0 1008) y.1)
    own_on c before (ops.Expire t) outcomes.Queued y = has_begun_on c before t y
    own_on c before (ops.Expire t) outcomes.Late y = has_begun_on c before t y
    own_on c before (ops.Expire t) (outcomes.Crowded a b) y = (has_begun_on c before t y.0, y.1, y.2)
    own_on c before (ops.Expire t) outcomes.NotBegun y = not_begun_on before t y
    own_on c before (ops.Join t) outcomes.Joined y = has_begun_on c before t y
    own_on c before (ops.Join t) outcomes.NotBegun y = not_begun_on before t y
    own_on c before (ops.Open n k) (outcomes.Opened slot version j) y = l.named n y
    own_on c before (ops.Open n k) outcomes.SlotsFull y = tt
    own_on c before (ops.Send n bytes) outcomes.Unopened y = none_found_on before n y
    own_on c before (ops.Send n bytes) _ y = l.named n y
    own_on c before (ops.Hold n) outcomes.Unopened y = none_found_on before n y
    own_on c before (ops.Hold n) _ y = l.named n y
    own_on c before (ops.Fail n code) outcomes.Unopened y = none_found_on before n y
    own_on c before (ops.Fail n code) _ y = l.named n y
    own_on c before (ops.Drop n) _ y = tt
    own_on c before _ _ y = absurd y

    pub just_on : (o : ℕ) (op : Op) (x : Outcome) → IsJust p q clients gives w o op x → IsJust p q clients gives w' o op x
    just_on o op outcomes.Expired j = (j.0, j.1, j.2, l.over (record { number = o; outcome = outcomes.Expired }) (record { number = j.0; outcome = outcomes.CallFailed j.1 1008 }) j.3)
    just_on o op _ j = tt

    told_on : (c : ℕ) (before : List Task) (t : Task) → ToldOf p q clients gives w c before t → ToldOf p q clients gives w' c before t
    told_on c before t (was_said x s y j) = was_said x (l.said t.number x s) (own_on c before t.op x y) (just_on t.number t.op x j)
    told_on c before t (was_sent n bytes op s) = was_sent n bytes op (l.named n s)
    told_on c before t (was_begun id asked op own b s x) = was_begun id asked op own (l.born id asked b) (l.begun t.number s) (l.named (Rattle.sock_message.specs.Asked.name_of asked 0) x)

    pub are_told_on : (c : ℕ) (ts : List Task) → AreTold p q clients gives w c ts → AreTold p q clients gives w' c ts
    are_told_on c [] all = tt
    are_told_on c (t ∷ ts) all = (told_on c ts t all.0, are_told_on c ts all.1)

    pub kept_on : (k : ℕ) (fs : List Frame) → AllByRecursion (CameFrom p q clients gives w k) fs → AllByRecursion (CameFrom p q clients gives w' k) fs
    kept_on k [] all = tt
    kept_on k (f ∷ fs) all = ((all.0.0, l.came k all.0.0 f all.0.1, all.0.2), kept_on k fs all.1)

    aside_on : (m : Mark) (step : Step) → MayAside p q clients gives w m step → MayAside p q clients gives w' m step
    aside_on m (PutCall i asked) may = ⊎_elim (λ x. inl x) (λ x. inr (x.0, x.1, x.2, l.born (call_id i x.0) asked x.3)) may
    aside_on m (StoreCall o id) may = (may.0, may.1, may.2, may.3, may.4, may.5, may.6, may.7, may.8, l.born may.0.id may.0.asked may.9, l.named (Rattle.sock_message.specs.Asked.name_of may.0.asked 0) may.10)
    aside_on m (EndId i) may = (may.0, may.1, may.2, may.3, l.born (call_id i may.0) may.2 may.4, may.5)
    aside_on m (UnlockId i from advance) may = unlock_on m i advance may
    aside_on m _ may = may

    head_on : (m : Mark) (head : Head) → AtHead p q clients gives w m head → AtHead p q clients gives w' m head
    head_on m (Decides id asked word e) at = (at.0, l.born id asked at.1, at.2, at.3, at.4, λ part. l.posted (record { id = id; error = e }) (at.5 part))
    head_on m (Reads r) at = (at.0, record { inside = at.1.inside; link = at.1.link; goes = at.1.goes; kept = kept_on r.link r.kept at.1.kept })
    head_on m (Unlocks i word advance) at = (unlock_on m i advance at.0, at.1, at.2)
    head_on m _ at = at

    -- what a program may say it may say later
    pub says_on : (m : Mark) (x : Program) → SaysOn p q clients gives w m x → SaysOn p q clients gives w' m x
    says_on m (Do call next) go = (go.0, λ found v l' s f. go.1 found v (far w w' v l l') s f)
    says_on m (Say o outcome next) go = ⊎_elim
        (λ x. inl (x.0, x.1, x.2, x.3, x.4, (own_on m.client m.done x.0.op outcome x.5.0, just_on x.0.number x.0.op outcome x.5.1), says_on (Rattle.call_stories.specs.Says.with_done x.0 x.1 m) next x.6))
        (λ x. inr (x.0, x.1, x.2, l.born x.0.id x.0.asked x.3, ended_on x.0 outcome x.4, says_on (Rattle.call_stories.specs.Says.with_owed [] m) next x.5)) go
    says_on m (Sent o next) go = (go.0, go.1, go.2, go.3, go.4, go.5, go.6, l.named go.2 go.7, go.8, says_on (Rattle.call_stories.specs.Says.with_done go.0 go.1 m) next go.9)
    says_on m Rest go = go
    says_on m (TakeMessage r next) go = λ heading bytes v fits l' s. go heading bytes v fits (far w w' v l l') s
    says_on m (TakeHome k next) go = λ n v l' s. go n v (far w w' v l l') s
    says_on m (PutHome k n after) go = λ v l' s. go v (far w w' v l l') s
    says_on m (PutBytes k asked bytes next) go = λ answer v l' s. go answer v (far w w' v l l') s
    says_on m (AskReady k next) go = λ answer v l' s. go answer v (far w w' v l l') s
    says_on m (Write x after) go = (go.0, go.1, λ v m' l' s a. go.2 v m' (far w w' v l l') s a)
    says_on m (Aside step next) go = (aside_on m step go.0, λ found v m' l' s mv. go.1 found v m' (far w w' v l l') s mv)
    says_on m (Round head next) go = (head_on m head go.0, λ exit v m' l' s lv. go.1 exit v m' (far w w' v l l') s lv)
    says_on m (Keep r next) go = says_on m next go
    says_on m (Retries requests after) go = (go.0, λ v m' l' s a. go.1 v m' (far w w' v l l') s a)
