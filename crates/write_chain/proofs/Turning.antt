-- What was done with a message in hand, through its calls.
use Rattle.std.proofs.Common.{◌≡◌, ◌≢◌, ℕ, inl, inr, Bool, true, List, [], ◌∷◌, ◌++◌, append-nil, append_assoc, refl, sym, ap, ◌∙◌, subst}
use Rattle.std.specs.Prelude.{Option, None, Some, ◌⊎◌}
use Rattle.brpc_model.specs.ReturnedLink.{HalfAnswer}
use Rattle.sock_io.specs.declared.link.Out.{Ghosts}
use Rattle.sock_io.specs.declared.link.Put.{Put}
use Rattle.sock_io.specs.declared.link.Put.TheVariants as puts
use Rattle.sock_io.specs.declared.link.Ready.{Ready}
use Rattle.sock_io.specs.declared.link.Ready.TheVariants as ready
use Rattle.sock_io.specs.LinkHalves.{OutState, PutStep, ReadyStep, more_told, of_put, of_ready}
use Rattle.message_parts.specs.Parcels.{outgoing_of}
use Rattle.write_chain.specs.declared.right.LinkCall.{LinkCall}
use Rattle.write_chain.specs.declared.right.LinkCall.TheVariants as call
use Rattle.write_chain.specs.declared.right.InHand.{InHand}
use Rattle.write_chain.specs.declared.right.Doing.{Doing}
use Rattle.write_chain.specs.declared.right.Doing.TheVariants as doing
use Rattle.write_chain.specs.declared.hold.Once.{Once}
use Rattle.write_chain.specs.declared.hold.Once.TheVariants as once
use Rattle.write_chain.specs.declared.hold.Tried.{Tried}
use Rattle.write_chain.specs.declared.hold.Tried.TheVariants as tried
use Rattle.write_chain.specs.LinkCalls.{answers_of, NoneFailed, MayPut, IsTurn}
use Rattle.write_chain.specs.Puts.{Called}
use Rattle.write_chain.specs.WritingRightInHand.{JustLooked, HandBy, PutOnce, TriedPut, PutOrWhole, LookedAndPut, TriedOnce, IsOneTry, TookAtOnce, TriedAtOnce, OnceTried, LeftAll}

told_none : (a : Option (List HalfAnswer)) → a ≡ more_told a []
told_none None = refl
told_none (Some l) = ap (λ (x : List HalfAnswer). Some x) (sym (append-nil l))

told_more : (a : Option (List HalfAnswer)) (xs ys : List HalfAnswer) → more_told (more_told a xs) ys ≡ more_told a (xs ++ ys)
told_more None xs ys = refl
told_more (Some l) xs ys = ap (λ (x : List HalfAnswer). Some x) (append_assoc l xs ys)

-- ## One call more

module _ {O : Type 0} (state : O → OutState) (came : List O) where
  pub turn_begun : (out : O) → came ≡ out ∷ [] → IsTurn state came out []
  turn_begun out is = record { from = out; came_is = is; answered = told_none (state out).answers; puts = tt }

  pub turn_looked : (live : Bool) (out : O) (calls : List LinkCall) → IsTurn state came out calls → IsTurn state came out (call.Looked live ∷ calls)
  turn_looked live out calls t = record { from = t.from; came_is = t.came_is; answered = t.answered; puts = t.puts }

  pub turn_put : (out then_ : O) (calls : List LinkCall) (r : Put) → IsTurn state came out calls → MayPut calls → (state then_).answers ≡ more_told (state out).answers (of_put r ∷ []) → IsTurn state came then_ (call.Put r ∷ calls)
  turn_put out then_ calls r t may e = record { from = t.from; came_is = t.came_is; answered = e ∙ (ap (λ (a : Option (List HalfAnswer)). more_told a (of_put r ∷ [])) t.answered ∙ told_more (state t.from).answers (answers_of calls) (of_put r ∷ [])); puts = (may, t.puts) }

  pub turn_asked : (out then_ : O) (calls : List LinkCall) (r : Ready) → IsTurn state came out calls → (state then_).answers ≡ more_told (state out).answers (of_ready r ∷ []) → IsTurn state came then_ (call.Asked r ∷ calls)
  turn_asked out then_ calls r t e = record { from = t.from; came_is = t.came_is; answered = e ∙ (ap (λ (a : Option (List HalfAnswer)). more_told a (of_ready r ∷ [])) t.answered ∙ told_more (state t.from).answers (answers_of calls) (of_ready r ∷ [])); puts = t.puts }

pub none_put : (r : Put) (calls : List LinkCall) → r ≢ puts.Failed → NoneFailed calls → NoneFailed (call.Put r ∷ calls)
none_put (puts.Took n) calls ne none_ = none_
none_put puts.Again calls ne none_ = none_
none_put puts.Failed calls ne none_ = absurd (ne refl)

pub none_asked : (r : Ready) (calls : List LinkCall) → r ≢ ready.Failed → NoneFailed calls → NoneFailed (call.Asked r ∷ calls)
none_asked ready.Now calls ne none_ = none_
none_asked ready.NotYet calls ne none_ = none_
none_asked ready.Failed calls ne none_ = absurd (ne refl)

module _ {O : Type 0} {g : Ghosts O} where
  pub hand_put : (old new : InHand O g) (piece : List ℕ) (r : Put) → IsTurn g.state old.came.list old.home.out old.calls.list → MayPut old.calls.list → PutStep (g.state old.home.out) (g.state new.home.out) piece r → Called (call.Put r) old new → IsTurn g.state new.came.list new.home.out new.calls.list
  hand_put old new piece r t may step c = subst (λ (cs : List LinkCall). IsTurn g.state new.came.list new.home.out cs) (sym c.calls) (subst (λ (f : List O). IsTurn g.state f new.home.out (call.Put r ∷ old.calls.list)) (sym c.came) (turn_put g.state old.came.list old.home.out new.home.out old.calls.list r t may step.answers))

  pub hand_asked : (old new : InHand O g) (r : Ready) → IsTurn g.state old.came.list old.home.out old.calls.list → ReadyStep (g.state old.home.out) (g.state new.home.out) r → Called (call.Asked r) old new → IsTurn g.state new.came.list new.home.out new.calls.list
  hand_asked old new r t step c = subst (λ (cs : List LinkCall). IsTurn g.state new.came.list new.home.out cs) (sym c.calls) (subst (λ (f : List O). IsTurn g.state f new.home.out (call.Asked r ∷ old.calls.list)) (sym c.came) (turn_asked g.state old.came.list old.home.out new.home.out old.calls.list r t step.answers))

  -- the link didn't fail at the call
  pub put_none : {D : Type 0} (old new : InHand O g) (r : Put) → r ≢ puts.Failed → Called (call.Put r) old new → NoneFailed old.calls.list → NoneFailed new.calls.list ⊎ D
  put_none old new r ne c none_ = inl (subst NoneFailed (sym c.calls) (none_put r old.calls.list ne none_))

  pub asked_none : {D : Type 0} (old new : InHand O g) (r : Ready) → r ≢ ready.Failed → Called (call.Asked r) old new → NoneFailed old.calls.list ⊎ D → NoneFailed new.calls.list ⊎ D
  asked_none old new r ne c (inl none_) = inl (subst NoneFailed (sym c.calls) (none_asked r old.calls.list ne none_))
  asked_none old new r ne c (inr d) = inr d

  -- ## One look, and one put

  pub put_or : (old : InHand O g) (t : Tried O g) → TriedPut old t → PutOrWhole old t
  put_or old (tried.Dead hand) t = t
  put_or old (tried.Whole hand) t = inl t
  put_or old (tried.Goes by) t = t

  looked_put : (old mid new : InHand O g) → Called (call.Looked true) old mid → PutOnce mid new → LookedAndPut old new
  looked_put old mid new c p = (p.1.came ∙ c.came, p.0, p.1.calls ∙ ap (λ (cs : List LinkCall). call.Put p.0 ∷ cs) c.calls)

  hand_by : (old mid : InHand O g) (by : Doing O g) → Called (call.Looked true) old mid → HandBy (PutOnce mid) by → HandBy (LookedAndPut old) by
  hand_by old mid (doing.Puts hand) c p = looked_put old mid hand c p
  hand_by old mid (doing.Waits hand) c p = looked_put old mid hand c p
  hand_by old mid _ c p = p

  pub tried_once : (old mid : InHand O g) (t : Tried O g) → JustLooked old mid → Called (call.Looked true) old mid → PutOrWhole mid t → TriedOnce old t
  tried_once old mid (tried.Dead hand) e c t = absurd t
  tried_once old mid (tried.Whole hand) e c (inl t) = inl (looked_put old mid hand c t)
  tried_once old mid (tried.Whole hand) e c (inr t) = inr (sym (ap (λ (y : InHand O g). (outgoing_of y.bytes).left) e.1) ∙ t.0, t.1 ∙ c.calls)
  tried_once old mid (tried.Goes by) e c t = hand_by old mid by c t

  -- of a message that had no calls before
  pub one_try : (old new : InHand O g) → old.calls.list ≡ [] → LookedAndPut old new → (answer : Put) × (new.calls.list ≡ call.Put answer ∷ call.Looked true ∷ [])
  one_try old new none_ t = (t.1, t.2 ∙ ap (λ (cs : List LinkCall). call.Put t.1 ∷ call.Looked true ∷ cs) none_)

  pub goes_once : (old : InHand O g) (by : Doing O g) → old.calls.list ≡ [] → HandBy (LookedAndPut old) by → TriedAtOnce by
  goes_once old (doing.Puts hand) none_ t = inr (one_try old hand none_ t)
  goes_once old (doing.Waits hand) none_ t = inr (one_try old hand none_ t)
  goes_once old _ none_ t = absurd t

  pub whole_once : (old hand : InHand O g) → old.calls.list ≡ [] → TriedOnce old (tried.Whole hand) → IsTurn g.state hand.came.list hand.home.out hand.calls.list → (outgoing_of hand.bytes).left ≡ [] → TookAtOnce g
  whole_once old hand none_ (inl t) turn whole = record { hand = hand; turn = turn; whole = whole; calls = inr (one_try old hand none_ t) }
  whole_once old hand none_ (inr t) turn whole = record { hand = hand; turn = turn; whole = whole; calls = inl (t.1 ∙ ap (λ (cs : List LinkCall). call.Looked true ∷ cs) none_) }

  pub left_once : (o : Once O g) → LeftAll o → TookAtOnce g → OnceTried o
  left_once (once.Done s) l t = t
  left_once (once.Keep r) l t = by_doing r.doing l
    where
      by_doing : (d : Doing O g) → Rattle.write_chain.specs.WritingRightInHand.IsReversing d → TriedAtOnce d
      by_doing (doing.Reversing link top) l = t
      by_doing _ l = absurd l
