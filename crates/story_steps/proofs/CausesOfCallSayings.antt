-- What calls, retries, `expire` and `join` say has its cause.
use Rattle.std.proofs.Common.{◌≡◌, ◌≢◌, ℕ, zero, suc, ◌+◌, ◌-◌, ◌<◌, ◌≤◌, inl, inr, ⊎_elim, Bool, true, false, cond, eqb, eqb-true, List, [], ◌∷◌, None, refl, sym, ap, ◌∙◌, subst, arith}
use mathlib.Core.Logic.{dite}
use native.Mathlib.Decide.{ℕ_discrete}
use Rattle.sock_words.specs.declared.plain.Plan.{Plan}
use Rattle.sock_words.specs.declared.outcome.Outcome.{Outcome}
use Rattle.sock_words.specs.declared.outcome.Outcome.TheVariants as outcomes
use Rattle.corr_core.specs.IdSlotWord.{parts, error_of}
use Rattle.corr_core.specs.declared.marks.Plan.{Plan as IdPlan}
use Rattle.sock_message.specs.Asked.{Asked, name_of}
use Rattle.seat_programs.specs.declared.task.Op.{Op}
use Rattle.seat_programs.specs.declared.task.Op.TheVariants as ops
use Rattle.seat_programs.specs.declared.task.Task.{Task}
use Rattle.seat_programs.specs.Asides.{PutCall, MakeId, StoreCall}
use Rattle.seat_programs.specs.LoopHeads.{Retry, Unlocks, Joins, Posting, WasGone, WasStale, WasCrowded, WasQueued, HasLocked, Unlocking, IsOpen, HasNext, HasEnded, GoesOn, Locking, NotThere, Has}
use Rattle.seat_programs.specs.Programs.{Program, Say, Aside, Round}
use Rattle.seat_programs.specs.PostPrograms.{post, post_with, posted, decide, decided}
use Rattle.seat_programs.specs.CallAndRetryPrograms.{attempt, begin_call, claim_id, call, tried_again, retry_locked, retry, expire_outcome, expire, join}
use Rattle.call_stories.specs.Below.id_runs.proofs.IdLoopRounds.{not_equal}
use Rattle.call_stories.specs.Scenes.{Birth, Scene, Said, IsOver, IsBorn, IsOpened, SeeksName, IsClaimed, CauseOf, of_expiry, by_expiry, Named, Begun, IsTaskOf, HasNoneOf, NoneFound, HasBegunIn, HasNotBegunIn, WhyOwn, IsJust, ToldOf, was_said, was_sent, was_begun, AreTold}
use Rattle.call_stories.specs.Says.{Shape, with_attempt, NoSlot, Claims, Locked, Mark, with_slot, with_owed, with_made, with_done, IsFree, put_in, SaidBy, NoneOfSetup, Again, LeavesUnlock, LeavesLock}
use Rattle.call_stories.proofs.LastingCallStories.{far, own_on}
use Rattle.call_stories.proofs.PostLoopCauses.{speech, way, again_same, follows_on, id_back, was_posted, failed_of, Exits, Decided, decide_says, decided_says, post_with_says, post_says}
use Rattle.call_stories.proofs.CausedCallPrograms.{attempt_says}
use Rattle.call_stories.specs.Below.outcome_stories.specs.OperationStories.{In}
use Rattle.sock_words.specs.PackedWords.{call_id, id_slot, id_first}

module _ (p : Plan) (q : IdPlan) (clients : List (List Task)) (gives : ℕ → List ℕ) where
  open speech p q clients gives use {Tells, Later', Ends}

  -- ## What tasks done tell

  pub told_at : (w : Scene) (c : ℕ) (ts : List Task) (t : Task) → AreTold p q clients gives w c ts → In t ts → (before : List Task) × ToldOf p q clients gives w c before t
  told_at w c [] t all there = absurd there
  told_at w c (u ∷ us) t all (inl same) = (us, subst (ToldOf p q clients gives w c us) (sym same) all.0)
  told_at w c (u ∷ us) t all (inr later) = told_at w c us t all.1 later

  pub open_named : (w : Scene) (c : ℕ) (before : List Task) (n k : ℕ) (x : Outcome) → WhyOwn p q clients gives w c before (ops.Open n k) x → IsOpened x → Named p q clients gives w n
  open_named w c before n k (outcomes.Opened slot version l) why is = why
  open_named w c before n k _ why is = absurd is

  seeks_unopened : (w : Scene) (c : ℕ) (before : List Task) (n : ℕ) (op : Op) (x : Outcome) → (Named p q clients gives w n → ⊥) → WhyOwn p q clients gives w c before op x → SeeksName n op → x ≡ outcomes.Unopened
  seeks_unopened w c before n (ops.Fail a code) outcomes.Unopened none_ why s = refl
  seeks_unopened w c before n (ops.Fail a code) _ none_ why s = absurd (none_ (subst (Named p q clients gives w) s why))
  seeks_unopened w c before n (ops.Hold a) outcomes.Unopened none_ why s = refl
  seeks_unopened w c before n (ops.Hold a) _ none_ why s = absurd (none_ (subst (Named p q clients gives w) s why))
  seeks_unopened w c before n (ops.Send a bytes) outcomes.Unopened none_ why s = refl
  seeks_unopened w c before n (ops.Send a bytes) _ none_ why s = absurd (none_ (subst (Named p q clients gives w) s why))
  seeks_unopened w c before n (ops.Call asked) outcomes.Unopened none_ why s = refl
  seeks_unopened w c before n (ops.Call asked) _ none_ why s = absurd why
  seeks_unopened w c before n _ x none_ why s = absurd s

  own_none : (w : Scene) (c : ℕ) (before : List Task) (t : Task) (n : ℕ) → (Named p q clients gives w n → ⊥) → ToldOf p q clients gives w c before t → HasNoneOf p q clients gives w n t × (SeeksName n t.op → Said w t.number outcomes.Unopened)
  own_none w c before t n none_ (was_said x s why just) = (
    (λ k op. (x, s, λ opened. none_ (open_named w c before n k x (subst (λ o. WhyOwn p q clients gives w c before o x) op why) opened))),
    (λ seeks. subst (Said w t.number) (seeks_unopened w c before n t.op x none_ why seeks) s),
  )
  own_none w c before t n none_ (was_sent a bytes op named) = (
    (λ k is. absurd (let z : ops.Send a bytes ≡ ops.Open n k = sym op ∙ is in cc)),
    (λ seeks. absurd (none_ (subst (Named p q clients gives w) (subst (SeeksName n) op seeks) named))),
  )
  own_none w c before t n none_ (was_begun id asked op own born begun named) = (
    (λ k is. absurd (let z : ops.Call asked ≡ ops.Open n k = sym op ∙ is in cc)),
    (λ seeks. absurd (none_ (subst (Named p q clients gives w) (subst (SeeksName n) op seeks) named))),
  )

  pub none_found : (w : Scene) (m : Mark) (n : ℕ) → (Named p q clients gives w n → ⊥) → NoneOfSetup p q clients gives w n → AreTold p q clients gives w m.client m.done → NoneFound p q clients gives w m.done n
  none_found w m n none_ setup told = record {
    setup = setup;
    own = λ t there. let x = told_at w m.client m.done t told there in own_none w m.client x.0 t n none_ x.1;
  }

  call_unopened : (w : Scene) (c : ℕ) (before : List Task) (asked : Asked) (x : Outcome) → WhyOwn p q clients gives w c before (ops.Call asked) x → x ≡ outcomes.Unopened
  call_unopened w c before asked outcomes.Unopened why = refl
  call_unopened w c before asked _ why = absurd why

  -- an operation is a call
  abbrev pub IsCalls : ℕ → Type 0
  IsCalls o = (c : ℕ) (u : Task) → IsTaskOf p q clients gives c u → u.number ≡ o → (asked : Asked) × (u.op ≡ ops.Call asked)

  not_begun : (w : Scene) (m : Mark) (o : ℕ) → IsCalls o → ((u : Task) → In u m.done → IsTaskOf p q clients gives m.client u) → (Begun p q clients gives w o → ⊥) → AreTold p q clients gives w m.client m.done → HasNotBegunIn p q clients gives w m.done o
  not_begun w m o targets mine none_ told = λ task there same. let a = targets m.client task (mine task there) same in let x = told_at w m.client m.done task told there in by_told task same a.0 a.1 x.0 x.1
    where
      by_told : (task : Task) → task.number ≡ o → (asked : Asked) → task.op ≡ ops.Call asked → (before : List Task) → ToldOf p q clients gives w m.client before task → Said w o outcomes.Unopened
      by_told task same asked op before (was_said x s why just) = subst (λ y. Said w o y) (call_unopened w m.client before asked x (subst (λ z. WhyOwn p q clients gives w m.client before z x) op why)) (subst (λ n. Said w n x) same s)
      by_told task same asked op before (was_sent n bytes is named) = absurd (let z : ops.Send n bytes ≡ ops.Call asked = sym is ∙ op in cc)
      by_told task same asked op before (was_begun id asked' is own born begun named) = absurd (none_ (subst (Begun p q clients gives w) same begun))

  -- ## The outcome of the task that is to be done

  -- what the seat has to do first, and that its tasks are a client's
  pub record IsNext (m : Mark) (t : Task) (ts : List Task) : Type 0 where
    pub todo : m.todo ≡ t ∷ ts
    pub is : IsTaskOf p q clients gives m.client t
    pub mine : (u : Task) → In u m.done → IsTaskOf p q clients gives m.client u

  pub own_at : (w : Scene) (m : Mark) (t : Task) (ts : List Task) (x : Outcome) (next : Program) → m.todo ≡ t ∷ ts → IsFree m → Ends w (with_done t ts m) next
      → (v : Scene) (m' : Mark) → Later' w v → SaidBy v next → Again p q clients gives m m' → WhyOwn p q clients gives v m.client m.done t.op x → IsJust p q clients gives v t.number t.op x → Tells v m' (Say t.number x next)
  own_at w m t ts x next todo free goes v m' l s a why just = subst (λ y. Tells v y (Say t.number x next)) (sym a.is) (inl (t, ts, todo, refl, (a.vacant, free.1, free.2), (why, just), goes v (with_done t ts (with_slot a.slot m)) l s (record { slot = a.slot; vacant = a.vacant; is = refl })))

  -- ## Calls

  begin_says : (w : Scene) (m : Mark) (requests socket i : ℕ) (asked : Asked) (t : Task) (ts : List Task) (next : Program) → m.slot ≡ Claims i None → m.todo ≡ t ∷ ts → t.op ≡ ops.Call asked → t.number ≡ asked.operation → m.owes ≡ [] → m.makes ≡ []
      → Named p q clients gives w (name_of asked 0) → Ends w (with_done t ts m) next → Tells w m (begin_call requests socket i asked next)
  begin_says w m requests socket i asked t ts next slot todo op own owes makes named goes =
      let m1 : Mark = with_slot (put_in asked m.slot) m in
      let tries : ℕ → Program = λ found. attempt requests asked (call_id i (parts found).first) 0 socket next in
      let stores : ℕ → Program = λ found. Aside (StoreCall asked.operation (call_id i (parts found).first)) (λ _. tries found) in (
        inl slot,
        λ _ v m' l _ mv. (
          tt,
          subst (λ x. Tells v x (Aside (MakeId i asked.range) stores)) (sym mv) (
            (asked, t, ts, ap (put_in asked) slot, refl, todo, op, own, makes, owes),
            λ found v2 m2 l2 _ mv2. let y = mv2 asked (ap (put_in asked) slot) in let b : Birth = record { id = call_id i (parts found).first; asked = asked } in let f2 = far p q clients gives w v v2 l l2 in (
              tt,
              subst (λ x. Tells v2 x (stores found)) (sym y.0) (
                (b, t, ts, refl, todo, op, own, refl, refl, y.1, f2.named (name_of asked 0) named),
                λ _ v3 m3 l3 _ mv3. let z = mv3 t ts todo in let f3 = far p q clients gives w v2 v3 f2 l3 in (
                  tt,
                  subst (λ x. Tells v3 x (tries found)) (sym z.0) (attempt_says p q clients gives v3 (with_made [] (with_slot NoSlot (with_done t ts m))) requests asked (call_id i (parts found).first) 0 socket next (tt, owes, refl) (omega arith)
                      (λ u m' l' s a. goes u m' (far p q clients gives w v3 u f3 l') s (record { slot = a.slot; vacant = a.vacant; is = a.is ∙ ap (λ bs. with_made bs (with_slot a.slot (with_done t ts m))) (sym makes) }))),
                ),
              ),
            ),
          ),
        ),
      )

  -- each of these id slots was claimed for another call
  abbrev Taken : Scene → ℕ → Task → Type 0
  Taken w i t = (j : ℕ) → j < i → (o : ℕ) × IsClaimed w j o × (o ≢ t.number)

  claim_says : (w : Scene) (m : Mark) (requests socket : ℕ) (asked : Asked) (t : Task) (ts : List Task) (next : Program) → IsNext m t ts → IsFree m → t.op ≡ ops.Call asked → t.number ≡ asked.operation → Ends w (with_done t ts m) next
      → (more i : ℕ) → i + more ≡ q.slots → (v : Scene) → Later' w v → Named p q clients gives v (name_of asked 0) → Taken v i t → SaidBy v (claim_id more i requests socket asked next) → Tells v m (claim_id more i requests socket asked next)
  claim_says w m requests socket asked t ts next has free op own goes zero i all v l named taken s = absurd (l.within.0 m.client t asked has.is op (λ j inside. taken j (omega (arith, all, inside))))
  claim_says w m requests socket asked t ts next has free op own goes (suc more) i all v l named taken s = (
    (free, t, ts, asked, has.todo, op, own, has.is),
    λ found v2 m2 l2 s2 mv. (tt, by_found (λ v3 l3 n3 t3 s3. claim_says w m requests socket asked t ts next has free op own goes more (i + 1) (omega (arith, all)) v3 (far p q clients gives w v v3 l l3) n3 t3 s3) found v2 m2 l2 mv.0 mv.1 (eqb found 0) refl s2),
  )
    where
      by_found : ((v3 : Scene) → Later' v v3 → Named p q clients gives v3 (name_of asked 0) → Taken v3 (i + 1) t → SaidBy v3 (claim_id more (i + 1) requests socket asked next) → Tells v3 m (claim_id more (i + 1) requests socket asked next))
          → (found : ℕ) (v2 : Scene) (m2 : Mark) → Later' v v2 → (found ≡ 0 → m2 ≡ with_slot (Claims i None) m) → (found ≢ 0 → (m2 ≡ m) × ((u : Task) (us : List Task) → m.todo ≡ u ∷ us → (o : ℕ) × IsClaimed v2 i o × (o ≢ u.number)))
          → (b : Bool) → eqb found 0 ≡ b → SaidBy v2 (cond b (begin_call requests socket i asked next) (claim_id more (i + 1) requests socket asked next)) → Tells v2 m2 (cond b (begin_call requests socket i asked next) (claim_id more (i + 1) requests socket asked next))
      by_found more_ found v2 m2 l2 one other true is s2 = subst (λ x. Tells v2 x (begin_call requests socket i asked next)) (sym (one (eqb-true found 0 is)))
          (begin_says v2 (with_slot (Claims i None) m) requests socket i asked t ts next refl has.todo op own free.1 free.2 (l2.named (name_of asked 0) named) (λ u m' l' s' a. goes u m' (far p q clients gives w v2 u (far p q clients gives w v v2 l l2) l') s' (record { slot = a.slot; vacant = a.vacant; is = a.is })))
      by_found more_ found v2 m2 l2 one other false is s2 = let y = other (not_equal found 0 is) in let z = y.1 t ts has.todo in
          subst (λ x. Tells v2 x (claim_id more (i + 1) requests socket asked next)) (sym y.0) (more_ v2 l2 (l2.named (name_of asked 0) named)
          (λ j low. dite (ℕ_discrete j i) (λ same. subst (λ k. (o : ℕ) × IsClaimed v2 k o × (o ≢ t.number)) (sym same) z) (λ ne. let x = taken j (omega (arith, low, ne)) in (x.0, l2.claimed j x.0 x.1, x.2))) s2)

  pub call_says : (w : Scene) (m : Mark) (requests : ℕ) (asked : Asked) (t : Task) (ts : List Task) (next : Program) → IsNext m t ts → IsFree m → m.client ≢ 0 → t.op ≡ ops.Call asked → t.number ≡ asked.operation → Ends w (with_done t ts m) next → Tells w m (call requests q.slots asked next)
  call_says w m requests asked t ts next has free other op own goes = (
    tt,
    λ word v l s f. way p q clients gives v m (eqb word 0) (Say asked.operation outcomes.Unopened next) (claim_id q.slots 0 requests (word - 1) asked next) s
        (λ none_ s'. let y = f.0 (eqb-true word 0 none_) in
        subst (λ o. Tells v m (Say o outcomes.Unopened next)) own (own_at w m t ts outcomes.Unopened next has.todo free goes v m l s'.1 (again_same p q clients gives m m free refl)
        (subst (λ o. WhyOwn p q clients gives v m.client m.done o outcomes.Unopened) (sym op) (none_found v m (name_of asked 0) y.0 (y.1 other) y.2)) tt))
        (λ some_ s'. claim_says w m requests (word - 1) asked t ts next has free op own goes q.slots 0 (omega arith) v l (f.1 (not_equal word 0 some_)) (λ j low. absurd (omega (arith, low))) s'),
  )

  -- ## Retries

  tried_says : (w : Scene) (m : Mark) (f : ℕ) (range : Shape) (requests id n : ℕ) (asked : Asked) (next : Program) → f ≡ id_first id → m.owes ≡ [] → m.makes ≡ [] → n ≤ 6 → Ends w m next
      → (exit : Unlocking) (v : Scene) (m' : Mark) → Later' w v → SaidBy v (tried_again requests id n asked next exit) → LeavesUnlock p q clients gives v (with_slot (Locked (id_slot id) f range) m) (id_slot id) exit m' → Tells v m' (tried_again requests id n asked next exit)
  tried_says w m f range requests id n asked next first owes makes few goes (IsOpen x) v m' l s lv = let m0 : Mark = with_slot NoSlot m in
      subst (λ y. Tells v y (tried_again requests id n asked next (IsOpen x))) (sym lv) (
        tt,
        λ word v2 l2 s2 _. let f2 = far p q clients gives w v v2 l l2 in way p q clients gives v2 m0 (eqb word 0) (post id 1009 n next) (attempt requests asked id n (word - 1) next) s2
            (λ _ _. post_says p q clients gives v2 m0 id 1009 n next (tt, owes, makes) (inl refl) (omega (arith, few)) (follows_on p q clients gives w v2 m NoSlot next f2 goes))
            (λ _ _. attempt_says p q clients gives v2 m0 requests asked id n (word - 1) next (tt, owes, makes) few (follows_on p q clients gives w v2 m NoSlot next f2 goes)),
      )
  tried_says w m f range requests id n asked next first owes makes few goes (HasNext x e) v m' l s lv =
      let slot : Locked (id_slot id) f range ≡ Locked (id_slot id) (id_first id) range = ap (λ k. Locked (id_slot id) k range) first in
      let found = lv.1 f range refl in
      let cause = subst (λ i. CauseOf p q clients gives v i e) (ap (call_id (id_slot id)) first ∙ id_back id) found.0 in
      subst (λ y. Tells v y (decide id x e (decided id next))) (sym lv.0) (decide_says p q clients gives v (with_slot (Locked (id_slot id) f (record { range = range.range; attempt = (parts x).attempt })) m) id x e (decided id next) (record { range = range.range; attempt = (parts x).attempt }) (ap (with_attempt (parts x).attempt) slot) (found.1, refl) owes makes lv.2 (was_posted p q clients gives v id e cause)
      (decided_says p q clients gives v (with_slot (Locked (id_slot id) f (record { range = range.range; attempt = (parts x).attempt })) m) id e next owes
      (λ u b l' _ born is last. failed_of p q clients gives u b id e (l'.apart id) is born (Rattle.call_stories.proofs.LastingCallStories.cause_on p q clients gives v u l' id e cause) last) (follows_on p q clients gives w v m (Locked (id_slot id) f (record { range = range.range; attempt = (parts x).attempt })) next l goes)))

  retry_locked_says : (w : Scene) (m : Mark) (requests id n : ℕ) (next : Program) → IsFree m → n ≤ 6 → Ends w m next → (exit : Locking) (v : Scene) (m' : Mark) → Later' w v → SaidBy v (retry_locked requests id n next exit)
      → LeavesLock p q clients gives m (id_slot id) (Rattle.seat_programs.specs.LoopHeads.First (id_first id)) exit m' → Tells v m' (retry_locked requests id n next exit)
  retry_locked_says w m requests id n next free few goes (NotThere x) v m' l s lv = goes v m' l s (again_same p q clients gives m m' free lv)
  retry_locked_says w m requests id n next free few goes (Has x) v m' l s lv =
      let f : ℕ = lv.0 in let range : Shape = lv.1 in let m1 : Mark = with_slot (Locked (id_slot id) lv.0 lv.1) m in
      let unlocks : Asked → Program = λ asked. Round (Unlocks (id_slot id) x false) (tried_again requests id n asked next) in
      subst (λ y. Tells v y (retry_locked requests id n next (Has x))) (sym lv.2) (
        (lv.0, lv.1, refl),
        λ asked v2 m2 l2 _ mv. (
          tt,
          subst (λ y. Tells v2 y (Aside (PutCall (id_slot id) asked) (λ _. unlocks asked))) (sym mv.0) (
            inr (lv.0, lv.1, refl, (mv.1 lv.0 lv.1 refl).0),
            λ _ v3 m3 l3 _ mv3. (
              tt,
              subst (λ y. Tells v3 y (unlocks asked)) (sym mv3) (
                ((lv.0, lv.1, refl, λ e. absurd (let z : false ≡ true = e in cc)), free.1, free.2),
                λ exit v4 m4 l4 s4 lv4. (tt, tried_says w m lv.0 lv.1 requests id n asked next lv.4 free.1 free.2 few goes exit v4 m4 (far p q clients gives w v3 v4 (far p q clients gives w v2 v3 (far p q clients gives w v v2 l l2) l3) l4) s4 lv4),
              ),
            ),
          ),
        ),
      )

  pub retry_says : (w : Scene) (m : Mark) (requests : ℕ) (r : Retry) (next : Program) → IsFree m → r.attempt ≤ 6 → Ends w m next → Tells w m (retry requests r.id r.attempt next)
  retry_says w m requests r next free few goes = ((free, tt), λ exit v m' l s lv. (tt, retry_locked_says w m requests r.id r.attempt next free few goes exit v m' l s lv))

  -- ## `expire` and `join`

  pub expire_says : (w : Scene) (m : Mark) (u : Task) (ts : List Task) (t : ℕ) (next : Program) → IsNext m u ts → IsFree m → u.op ≡ ops.Expire t → IsCalls t → Ends w (with_done u ts m) next → Tells w m (expire u.number t next)
  expire_says w m u ts t next has free op targets goes =
      let k : ℕ → Posting → Program = λ id how. posted id (error_of 1008 7) (Say u.number (expire_outcome how) next) how in (
        tt,
        λ id v m' l s mv. (
          tt,
          subst (λ x. Tells v x (cond (eqb id 0) (Say u.number outcomes.NotBegun next) (post_with id (error_of 1008 7) (k id)))) (sym mv.0) (way p q clients gives v m (eqb id 0) (Say u.number outcomes.NotBegun next) (post_with id (error_of 1008 7) (k id)) s
              (λ none_ s'. let y = mv.2 (eqb-true id 0 none_) in
              own_at w m u ts outcomes.NotBegun next has.todo free goes v m l s'.1 (again_same p q clients gives m m free refl) (subst (λ o. WhyOwn p q clients gives v m.client m.done o outcomes.NotBegun) (sym op) (not_begun v m t targets has.mine y.0 y.1)) tt)
              (λ some_ _. let y = mv.1 (not_equal id 0 some_) in post_with_says p q clients gives v m id (error_of 1008 7) (k id) free (exits id v l y.0 y.1.0 y.1.1 y.1.2))),
        ),
      )
    where
      says : (x : Outcome) (v : Scene) (m' : Mark) → Later' w v → SaidBy v next → Again p q clients gives m m' → WhyOwn p q clients gives v m.client m.done (ops.Expire t) x → IsJust p q clients gives v u.number u.op x → Tells v m' (Say u.number x next)
      says x v m' l s a why just = own_at w m u ts x next has.todo free goes v m' l s a (subst (λ o. WhyOwn p q clients gives v m.client m.done o x) (sym op) why) just

      names : (asked : Asked) → asked.operation ≡ t → u.op ≡ ops.Expire asked.operation
      names asked same = op ∙ ap ops.Expire (sym same)

      -- the call ends, and then the outcome is said of the `expire`
      expired : (id : ℕ) (range : Shape) (v : Scene) → Later' w v → (asked : Asked) → IsBorn v id asked → asked.operation ≡ t → Decided p q clients gives v (with_slot (Locked (id_slot id) (id_first id) range) m) id (error_of 1008 7) (decided id (Say u.number outcomes.Expired next))
      expired id range v l asked there same (HasEnded o c) v2 m2 l2 s lv =
          let b : Birth = lv.0 in
          let is = lv.3 in
          let one : asked ≡ lv.0.asked = l2.apart id asked lv.0.asked (l2.born id asked there) (subst (λ i. IsBorn v2 i lv.0.asked) lv.4 lv.5) in
          let code : c ≡ 1008 = ⊎_elim (λ e. e.0) (λ y. absurd (y.0 refl)) lv.7 in
          let number : o ≡ t = lv.6 ∙ (ap (λ (a : Asked). a.operation) (sym one) ∙ same) in
          inr (
            lv.0,
            ap (λ (x : Mark). x.owes) lv.3,
            lv.6,
            lv.5,
            (sym lv.4, by_expiry code (m.client, u, has.is, names lv.0.asked (ap (λ (a : Asked). a.operation) (sym one) ∙ same), inl s.1.0.0)),
            says outcomes.Expired v2 (with_owed [] m2) (far p q clients gives w v v2 l l2) s.1.1 (record { slot = lv.1; vacant = lv.2; is = ap (with_owed []) lv.3 ∙ ap (λ bs. with_owed bs (with_slot lv.1 m)) (sym free.1) })
                (id, subst (λ n. Said v2 n (outcomes.CallFailed id 1008)) number (subst (λ n. Said v2 o (outcomes.CallFailed id n)) code s.0.0))
                (t, id, op, subst (λ n. IsOver (record { number = u.number; outcome = outcomes.Expired }) (record { number = n; outcome = outcomes.CallFailed id 1008 }) v2.sayings) number (subst (λ n. IsOver (record { number = u.number; outcome = outcomes.Expired }) (record { number = o; outcome = outcomes.CallFailed id n }) v2.sayings) code s.0.1)),
          )
      expired id range v l asked there same GoesOn v2 m2 l2 s lv = absurd (lv.1 refl)

      exits : (id : ℕ) (v : Scene) → Later' w v → HasBegunIn p q clients gives v m.client m.done t → (asked : Asked) → IsBorn v id asked → asked.operation ≡ t → Exits p q clients gives v m id (error_of 1008 7) (λ how. posted id (error_of 1008 7) (Say u.number (expire_outcome how) next) how)
      exits id v l begun asked there same WasGone v2 m2 l2 s lv = (tt, says outcomes.Late v2 m2 (far p q clients gives w v v2 l l2) s.1 lv (own_on p q clients gives v v2 l2 m.client m.done (ops.Expire t) outcomes.Late begun) tt)
      exits id v l begun asked there same WasStale v2 m2 l2 s lv = (tt, says outcomes.Late v2 m2 (far p q clients gives w v v2 l l2) s.1 lv (own_on p q clients gives v v2 l2 m.client m.done (ops.Expire t) outcomes.Late begun) tt)
      exits id v l begun asked there same (WasCrowded a b) v2 m2 l2 s lv = (tt, says (outcomes.Crowded a b) v2 m2 (far p q clients gives w v v2 l l2) s.1 lv.0 (own_on p q clients gives v v2 l2 m.client m.done (ops.Expire t) (outcomes.Crowded a b) (begun, lv.1, lv.2)) tt)
      exits id v l begun asked there same WasQueued v2 m2 l2 s lv = (
        of_expiry asked refl (l2.born id asked there) (m.client, u, has.is, names asked same, inr s.0.0),
        says outcomes.Queued v2 m2 (far p q clients gives w v v2 l l2) s.1 lv.0 (own_on p q clients gives v v2 l2 m.client m.done (ops.Expire t) outcomes.Queued begun) tt,
      )
      exits id v l begun asked there same (HasLocked word) v2 m2 l2 s lv = (
        tt,
        subst (λ x. Tells v2 x (decide id word (error_of 1008 7) (decided id (Say u.number outcomes.Expired next)))) (sym lv.1)
            (decide_says p q clients gives v2 (with_slot (Locked (id_slot id) (id_first id) lv.0) m) id word (error_of 1008 7) (decided id (Say u.number outcomes.Expired next)) lv.0 refl lv.2 free.1 free.2 lv.3 (λ _. lv.4) (expired id lv.0 v2 (far p q clients gives w v v2 l l2) asked (l2.born id asked there) same)),
      )

  pub join_says : (w : Scene) (m : Mark) (u : Task) (ts : List Task) (t : ℕ) (next : Program) → IsNext m u ts → IsFree m → u.op ≡ ops.Join t → IsCalls t → Ends w (with_done u ts m) next → Tells w m (join u.number t next)
  join_says w m u ts t next has free op targets goes = (
    tt,
    λ id v m' l s mv. (
      tt,
      subst (λ x. Tells v x (cond (eqb id 0) (Say u.number outcomes.NotBegun next) (Round (Joins id) (λ _. Say u.number outcomes.Joined next)))) (sym mv.0) (way p q clients gives v m (eqb id 0) (Say u.number outcomes.NotBegun next) (Round (Joins id) (λ _. Say u.number outcomes.Joined next)) s
          (λ none_ s'. let y = mv.2 (eqb-true id 0 none_) in
          own_at w m u ts outcomes.NotBegun next has.todo free goes v m l s'.1 (again_same p q clients gives m m free refl) (subst (λ o. WhyOwn p q clients gives v m.client m.done o outcomes.NotBegun) (sym op) (not_begun v m t targets has.mine y.0 y.1)) tt)
          (λ some_ _. let y = mv.1 (not_equal id 0 some_) in (
            free,
            λ exit v2 m2 l2 s2 lv. (
              tt,
              own_at w m u ts outcomes.Joined next has.todo free goes v2 m2 (far p q clients gives w v v2 l l2) s2.1 (again_same p q clients gives m m2 free lv)
                  (subst (λ o. WhyOwn p q clients gives v2 m.client m.done o outcomes.Joined) (sym op) (own_on p q clients gives v v2 l2 m.client m.done (ops.Join t) outcomes.Joined y.0)) tt,
            ),
          ))),
    ),
  )
