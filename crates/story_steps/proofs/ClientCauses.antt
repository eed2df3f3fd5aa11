-- What whole clients say of calls has its cause, and the ending says nothing of them.
use Rattle.std.proofs.Common.{◌≡◌, ◌≢◌, ℕ, zero, suc, ◌+◌, ◌-◌, ◌/◌, ◌%◌, ◌≤◌, inl, inr, ◌==◌, eqb-true, Bool, true, false, cond, List, [], ◌∷◌, ◌++◌, Option, None, Some, refl, sym, subst, arith}
use Rattle.std.specs.List.{AllByRecursion}
use Rattle.sock_words.specs.PackedWords.{socket_id, socket_id_slot, vref_version, NO_SOCKET}
use Rattle.sock_words.specs.declared.plain.Plan.{Plan}
use Rattle.sock_words.specs.declared.outcome.Outcome.{Outcome}
use Rattle.sock_words.specs.declared.outcome.Outcome.TheVariants as outcomes
use Rattle.corr_core.specs.declared.marks.Plan.{Plan as IdPlan}
use Rattle.seat_programs.specs.declared.task.Op.{Op}
use Rattle.seat_programs.specs.declared.task.Op.TheVariants as ops
use Rattle.seat_programs.specs.declared.task.Task.{Task}
use Rattle.seat_programs.specs.TableSteps.{OnSlot, OnName, OnLink, ClaimSlot, StoreLink, ResetHead, ClearCode, CreateLife, StoreOpen, StoreName, TakeLink, FinishLink, PutLink}
use Rattle.seat_programs.specs.Programs.{Program, Do, Say, Sent, release, add_reference, find_socket, set_failed, open_from, fail_outcome, fail}
use Rattle.seat_programs.specs.SendAndWritePrograms.{accept, heading_of, claim_from, start, send}
use Rattle.seat_programs.specs.ClientProgram.{HeldLife, held_under, without_name, give_back, drop_of, operation, client_from, ending_of}
use Rattle.seat_programs.specs.ScriptSetupToEnding.{sizes_of}
use Rattle.call_stories.specs.Below.id_runs.proofs.IdLoopRounds.{not_equal}
use Rattle.call_stories.specs.Scenes.{Scene, Named, IsTaskOf, NoneFound, WhyOwn, IsJust}
use Rattle.call_stories.specs.Says.{Mark, with_slot, with_done, IsFree, SaidBy, Again}
use Rattle.call_stories.proofs.LastingCallStories.{far}
use Rattle.call_stories.proofs.PostLoopCauses.{speech, way, again_same, then_does, then_way, follows_later}
use Rattle.call_stories.proofs.CausedCallPrograms.{release_says, address_says, set_failed_says, accept_says, releases}
use Rattle.story_steps.proofs.CausesOfCallSayings.{IsCalls, IsNext, own_at, none_found, call_says, expire_says, join_says}
use Rattle.call_stories.specs.Below.outcome_stories.specs.OperationStories.{In}

module _ (p : Plan) (q : IdPlan) (clients : List (List Task)) (gives : ℕ → List ℕ) where
  open speech p q clients gives use {Tells, Later', Next, Ends}

  -- a `call` knows its operation, `expire` and `join` name calls, and a `fail` has the code of no call's end
  abbrev pub FitsOp : ℕ → Op → Type 0
  FitsOp o (ops.Call asked) = o ≡ asked.operation
  FitsOp o (ops.Expire t) = IsCalls p q clients gives t
  FitsOp o (ops.Join t) = IsCalls p q clients gives t
  FitsOp o (ops.Fail n code) = (1500 ≤ code) × (code ≤ 1999)
  FitsOp o other = Unit {0}

  -- client 0 only opens sockets
  abbrev pub FitsClient : ℕ → Op → Type 0
  FitsClient c (ops.Open n k) = Unit {0}
  FitsClient c other = c ≢ 0

  abbrev pub FitsTask : ℕ → Task → Type 0
  FitsTask c t = FitsOp t.number t.op × FitsClient c t.op

  module _ (w : Scene) (m : Mark) (t : Task) (ts : List Task) (has : IsNext p q clients gives m t ts) (free : IsFree m) where
    -- the outcome of the task, whatever it has besides
    says : (op : Op) → t.op ≡ op → (x : Outcome) (next : Program) → Ends w (with_done t ts m) next → (v : Scene) (m' : Mark) → Later' w v → SaidBy v next → Again p q clients gives m m' → WhyOwn p q clients gives v m.client m.done op x → IsJust p q clients gives v t.number t.op x → Tells v m' (Say t.number x next)
    says op is x next goes v m' l s a why just = own_at p q clients gives w m t ts x next has.todo free goes v m' l s a (subst (λ o. WhyOwn p q clients gives v m.client m.done o x) (sym is) why) just

    self : Again p q clients gives m m
    self = again_same p q clients gives m m free refl

    reach_says : m.client ≢ 0 → (name : ℕ) (unopened : Program) (held gone : ℕ → Program) → ((v : Scene) → Later' w v → SaidBy v unopened → NoneFound p q clients gives v m.done name → Tells v m unopened)
        → ((id : ℕ) (v : Scene) → Later' w v → SaidBy v (held id) → Named p q clients gives v name → Tells v m (held id)) → ((found : ℕ) (v : Scene) → Later' w v → SaidBy v (gone found) → Named p q clients gives v name → Tells v m (gone found)) → Tells w m (find_socket name unopened held gone)
    reach_says client name unopened held gone none_ one others = (
      tt,
      λ word v l s f. way p q clients gives v m (word == 0) unopened (add_reference (word - 1) (held (word - 1)) gone) s (λ nothing s'. let y = f.0 (eqb-true word 0 nothing) in none_ v l s' (none_found p q clients gives v m name y.0 (y.1 client) y.2))
          (λ some_ _. let named = f.1 (not_equal word 0 some_) in address_says p q clients gives v m (word - 1) (held (word - 1)) gone
          (λ v2 l2 s2. one (word - 1) v2 (far p q clients gives w v v2 l l2) s2 (l2.named name named)) (λ found v2 l2 s2. others found v2 (far p q clients gives w v v2 l l2) s2 (l2.named name named))),
    )

    -- ## `open`

    some_word : (version i : ℕ) → socket_id version i + 1 ≢ 0
    some_word version i e = omega (arith, e)

    open_says : (name k : ℕ) → t.op ≡ ops.Open name k → (next : Program) → Ends w (with_done t ts m) next → (more i : ℕ) → Next w m (open_from more i t.number name k next)
    open_says name k op next goes zero i = let said : Program = Say t.number outcomes.SlotsFull next in
        let stored : Program = Do (OnName (StoreOpen t.number NO_SOCKET)) (λ _. said) in
        let back : Program = Do (OnLink (PutLink k)) (λ _. stored) in
        let finish : Program = Do (OnLink (FinishLink k)) (λ _. back) in
        then_does p q clients gives w m (OnLink (TakeLink k)) (λ _. finish) tt
        (λ _. then_does p q clients gives w m (OnLink (FinishLink k)) (λ _. back) tt
        (λ _. then_does p q clients gives w m (OnLink (PutLink k)) (λ _. stored) tt
        (λ _. then_does p q clients gives w m (OnName (StoreOpen t.number NO_SOCKET)) (λ _. said) tt (λ _ v l s. says (ops.Open name k) op outcomes.SlotsFull next goes v m l s.1 self tt tt))))
    open_says name k op next goes (suc more) i = let said : ℕ → Program = λ born. Say t.number (outcomes.Opened i (vref_version born) k) next in
        let named : ℕ → Program = λ born. Do (OnName (StoreName name (socket_id (vref_version born) i + 1))) (λ _. said born) in
        let stored : ℕ → Program = λ born. Do (OnName (StoreOpen t.number (socket_id (vref_version born) i + 1))) (λ _. named born) in
        let made : Program = Do (OnSlot (CreateLife i k)) stored in
        let cleared : Program = Do (OnSlot (ClearCode i k)) (λ _. made) in
        let reset : Program = Do (OnSlot (ResetHead i k)) (λ _. cleared) in
        let linked : Program = Do (OnSlot (StoreLink i k)) (λ _. reset) in
        let others : Program = open_from more (i + 1) t.number name k next in
        then_does p q clients gives w m (OnSlot (ClaimSlot i)) (λ found. cond (found == 0) linked others) tt (λ found. then_way p q clients gives w m (found == 0) linked others
        (λ _. then_does p q clients gives w m (OnSlot (StoreLink i k)) (λ _. reset) tt
        (λ _. then_does p q clients gives w m (OnSlot (ResetHead i k)) (λ _. cleared) tt
        (λ _. then_does p q clients gives w m (OnSlot (ClearCode i k)) (λ _. made) tt
        (λ _. then_does p q clients gives w m (OnSlot (CreateLife i k)) stored tt
        (λ born. then_does p q clients gives w m (OnName (StoreOpen t.number (socket_id (vref_version born) i + 1))) (λ _. named born) tt
        (λ _ v l _. (some_word (vref_version born) i, λ _ v2 l2 s2 is_named. says (ops.Open name k) op (outcomes.Opened i (vref_version born) k) next goes v2 m (far p q clients gives w v v2 l l2) s2.1 self is_named tt)))))))
        (λ _. open_says name k op next goes more (i + 1)))

    -- ## `send`

    module _ (client : m.client ≢ 0) (name : ℕ) (bytes : List ℕ) (op : t.op ≡ ops.Send name bytes) (next : Program) (goes : Ends w (with_done t ts m) next) where
      sent_says : (v : Scene) → Later' w v → Named p q clients gives v name → Ends v m (Sent t.number next)
      sent_says v l named = λ v2 m2 l2 s2 a. subst (λ y. Tells v2 y (Sent t.number next)) (sym a.is)
          (t, ts, name, bytes, has.todo, refl, op, l2.named name named, (a.vacant, free.1, free.2), goes v2 (with_done t ts (with_slot a.slot m)) (far p q clients gives w v v2 l l2) s2 (record { slot = a.slot; vacant = a.vacant; is = refl }))

      claim_says : (more r id : ℕ) (v : Scene) → Later' w v → Named p q clients gives v name → SaidBy v (claim_from more r t.number id bytes next) → Tells v m (claim_from more r t.number id bytes next)
      claim_says zero r id v l named s = release_says p q clients gives v m (socket_id_slot id) (λ _. Say t.number outcomes.Full next)
          (λ _ v2 l2 s2. says (ops.Send name bytes) op outcomes.Full next goes v2 m (far p q clients gives w v v2 l l2) s2.1 self (l2.named name named) tt)
      claim_says (suc more) r id v l named s = (
        tt,
        λ found v2 l2 s2 _. let f2 = far p q clients gives w v v2 l l2 in let named2 = l2.named name named in
            way p q clients gives v2 m (found % 2 == 0) (accept id r (found / 2) (heading_of t.number) bytes (release (socket_id_slot id) (λ _. Sent t.number next))) (claim_from more (r + 1) t.number id bytes next) s2
            (λ _ _. accept_says p q clients gives v2 m id r (found / 2) (heading_of t.number) bytes (release (socket_id_slot id) (λ _. Sent t.number next)) free (releases p q clients gives v2 m (socket_id_slot id) (Sent t.number next) (sent_says v2 f2 named2)))
            (λ _ s'. claim_says more (r + 1) id v2 f2 named2 s'),
      )

      send_says : (requests : ℕ) → Tells w m (send requests t.number name bytes next)
      send_says requests = reach_says client name (Say t.number outcomes.Unopened next) (λ id. start requests t.number id bytes next) (λ found. Say t.number (outcomes.Gone (record { 0 = found })) next)
          (λ v l s none_. says (ops.Send name bytes) op outcomes.Unopened next goes v m l s.1 self none_ tt)
          (λ id v l s named. (
            tt,
            λ found v2 l2 s2 _. let f2 = far p q clients gives w v v2 l l2 in let named2 = l2.named name named in
                way p q clients gives v2 m (vref_version found % 2 == 0) (claim_from requests 0 t.number id bytes next) (release (socket_id_slot id) (λ _. Say t.number (outcomes.Gone (record { 0 = found })) next)) s2
                (λ _ s'. claim_says requests 0 id v2 f2 named2 s')
                (λ _ _. release_says p q clients gives v2 m (socket_id_slot id) (λ _. Say t.number (outcomes.Gone (record { 0 = found })) next)
                (λ _ v3 l3 s3. says (ops.Send name bytes) op (outcomes.Gone (record { 0 = found })) next goes v3 m (far p q clients gives w v2 v3 f2 l3) s3.1 self (l3.named name named2) tt)),
          ))
          (λ found v l s named. says (ops.Send name bytes) op (outcomes.Gone (record { 0 = found })) next goes v m l s.1 self named tt)

    -- ## `fail`, `hold`, `drop`

    fail_named : (v : Scene) (n code found : ℕ) → Named p q clients gives v n → (b : Bool) → WhyOwn p q clients gives v m.client m.done (ops.Fail n code) (cond b outcomes.Failed (outcomes.Already (record { 0 = found })))
    fail_named v n code found named true = named
    fail_named v n code found named false = named

    just_failed : (v : Scene) (b : Bool) (found : ℕ) → IsJust p q clients gives v t.number t.op (cond b outcomes.Failed (outcomes.Already (record { 0 = found })))
    just_failed v true found = tt
    just_failed v false found = tt

    just_dropped : (v : Scene) (b : Bool) → IsJust p q clients gives v t.number t.op (cond b outcomes.Freed outcomes.Kept)
    just_dropped v true = tt
    just_dropped v false = tt

    fail_says : m.client ≢ 0 → (name code : ℕ) → t.op ≡ ops.Fail name code → (1500 ≤ code) × (code ≤ 1999) → (next : Program) → Ends w (with_done t ts m) next → Tells w m (fail t.number name code next)
    fail_says client name code op fits next goes = reach_says client name (Say t.number outcomes.Unopened next) (λ id. set_failed id code (λ found. release (socket_id_slot id) (λ _. Say t.number (fail_outcome found) next))) (λ found. Say t.number (outcomes.Gone (record { 0 = found })) next)
        (λ v l s none_. says (ops.Fail name code) op outcomes.Unopened next goes v m l s.1 self none_ tt)
        (λ id v l s named. set_failed_says p q clients gives v m id code (inr (inr (inr (inr (fits.0, fits.1, (m.client, t, name, has.is, op)))))) (λ found. release (socket_id_slot id) (λ _. Say t.number (fail_outcome found) next))
        (λ found v2 l2 _. release_says p q clients gives v2 m (socket_id_slot id) (λ _. Say t.number (fail_outcome found) next)
        (λ _ v3 l3 s3. let f3 = far p q clients gives w v2 v3 (far p q clients gives w v v2 l l2) l3 in
        says (ops.Fail name code) op (fail_outcome found) next goes v3 m f3 s3.1 self (fail_named v3 name code found (l3.named name (l2.named name named)) (vref_version found % 2 == 0)) (just_failed v3 (vref_version found % 2 == 0) found))))
        (λ found v l s named. says (ops.Fail name code) op (outcomes.Gone (record { 0 = found })) next goes v m l s.1 self named tt)

    hold_says : m.client ≢ 0 → (name : ℕ) → t.op ≡ ops.Hold name → (held : ℕ → Program) (next : Program) → ((id : ℕ) → Ends w (with_done t ts m) (held id)) → Ends w (with_done t ts m) next → Tells w m (Rattle.seat_programs.specs.Programs.hold t.number name held next)
    hold_says client name op held next holds goes = reach_says client name (Say t.number outcomes.Unopened next) (λ id. Say t.number outcomes.Held (held id)) (λ found. Say t.number (outcomes.Gone (record { 0 = found })) next)
        (λ v l s none_. says (ops.Hold name) op outcomes.Unopened next goes v m l s.1 self none_ tt)
        (λ id v l s named. says (ops.Hold name) op outcomes.Held (held id) (holds id) v m l s.1 self named tt)
        (λ found v l s named. says (ops.Hold name) op (outcomes.Gone (record { 0 = found })) next goes v m l s.1 self named tt)

    dropped : (v : Scene) (n : ℕ) (b : Bool) → WhyOwn p q clients gives v m.client m.done (ops.Drop n) (cond b outcomes.Freed outcomes.Kept)
    dropped v n true = tt
    dropped v n false = tt

    drop_says : (name : ℕ) → t.op ≡ ops.Drop name → (h : Option ℕ) (next : Program) → Ends w (with_done t ts m) next → (v : Scene) → Later' w v → SaidBy v (drop_of t.number h next) → Tells v m (drop_of t.number h next)
    drop_says name op None next goes v l s = says (ops.Drop name) op outcomes.NotHeld next goes v m l s.1 self tt tt
    drop_says name op (Some id) next goes v l s = release_says p q clients gives v m (socket_id_slot id) (λ freed. Say t.number (cond freed outcomes.Freed outcomes.Kept) next)
        (λ freed v2 l2 s2. says (ops.Drop name) op (cond freed outcomes.Freed outcomes.Kept) next goes v2 m (far p q clients gives w v v2 l l2) s2.1 self (dropped v2 name freed) (just_dropped v2 freed))

  -- ## Whole clients

  -- the tasks of a client
  pub record AreOf (m : Mark) (ts : List Task) : Type 0 where
    pub todo : m.todo ≡ ts
    pub are : (u : Task) → In u ts → IsTaskOf p q clients gives m.client u
    pub mine : (u : Task) → In u m.done → IsTaskOf p q clients gives m.client u

  next_of : (m : Mark) (t : Task) (ts : List Task) → AreOf m (t ∷ ts) → IsNext p q clients gives m t ts
  next_of m t ts a = record { todo = a.todo; is = a.are t (inl refl); mine = a.mine }

  done_of : (m : Mark) (t : Task) (ts : List Task) → AreOf m (t ∷ ts) → AreOf (with_done t ts m) ts
  done_of m t ts a = record { todo = refl; are = λ u there. a.are u (inr there); mine = by_done }
    where
      by_done : (u : Task) → In u (t ∷ m.done) → IsTaskOf p q clients gives m.client u
      by_done u (inl same) = subst (IsTaskOf p q clients gives m.client) (sym same) (a.are t (inl refl))
      by_done u (inr there) = a.mine u there

  slot_of : (m m' : Mark) (ts : List Task) → AreOf m ts → Again p q clients gives m m' → AreOf m' ts
  slot_of m m' ts a b = subst (λ y. AreOf y ts) (sym b.is) (record { todo = a.todo; are = a.are; mine = a.mine })

  free_of : (m m' : Mark) → IsFree m → Again p q clients gives m m' → IsFree m'
  free_of m m' free b = subst IsFree (sym b.is) (b.vacant, free.1, free.2)

  client_of : (m m' : Mark) (ts : List Task) → Again p q clients gives m m' → AllByRecursion (FitsTask m.client) ts → AllByRecursion (FitsTask m'.client) ts
  client_of m m' ts b fits = subst (λ (y : Mark). AllByRecursion (FitsTask y.client) ts) (sym b.is) fits

  operation_says : (held : List HeldLife) (next : List HeldLife → Program) (w : Scene) (m : Mark) (t : Task) (ts : List Task) (op : Op) → IsNext p q clients gives m t ts → IsFree m → t.op ≡ op → FitsOp t.number op → FitsClient m.client op
      → ((hs : List HeldLife) → Ends w (with_done t ts m) (next hs)) → (v : Scene) → Later' w v → SaidBy v (operation (sizes_of p q) held t.number next op) → Tells v m (operation (sizes_of p q) held t.number next op)
  operation_says held next w m t ts (ops.Open name k) has free op fits one goes v l s = open_says w m t ts has free name k op (next held) (goes held) p.slots 0 v l s
  operation_says held next w m t ts (ops.Send name bytes) has free op fits one goes v l s = send_says v m t ts has free one name bytes op (next held) (follows_later p q clients gives w v (with_done t ts m) (next held) l (goes held)) p.requests
  operation_says held next w m t ts (ops.Call asked) has free op fits one goes v l s = call_says p q clients gives v m p.requests asked t ts (next held) has free one op fits (follows_later p q clients gives w v (with_done t ts m) (next held) l (goes held))
  operation_says held next w m t ts (ops.Expire o) has free op fits one goes v l s = expire_says p q clients gives v m t ts o (next held) has free op fits (follows_later p q clients gives w v (with_done t ts m) (next held) l (goes held))
  operation_says held next w m t ts (ops.Join o) has free op fits one goes v l s = join_says p q clients gives v m t ts o (next held) has free op fits (follows_later p q clients gives w v (with_done t ts m) (next held) l (goes held))
  operation_says held next w m t ts (ops.Hold name) has free op fits one goes v l s = hold_says v m t ts has free one name op (λ id. next (held ++ (record { name = name; id = id }) ∷ [])) (next held)
      (λ id. follows_later p q clients gives w v (with_done t ts m) (next (held ++ (record { name = name; id = id }) ∷ [])) l (goes (held ++ (record { name = name; id = id }) ∷ []))) (follows_later p q clients gives w v (with_done t ts m) (next held) l (goes held))
  operation_says held next w m t ts (ops.Drop name) has free op fits one goes v l s = drop_says w m t ts has free name op (held_under name held) (next (without_name name held)) (goes (without_name name held)) v l s
  operation_says held next w m t ts (ops.Fail name code) has free op fits one goes v l s = fail_says v m t ts has free one name code op fits (next held) (follows_later p q clients gives w v (with_done t ts m) (next held) l (goes held))

  give_back_says : (held : List HeldLife) (w : Scene) (m : Mark) → IsFree m → m.todo ≡ [] → Tells w m (give_back held)
  give_back_says [] w m free none_ = (free, none_)
  give_back_says (h ∷ hs) w m free none_ = release_says p q clients gives w m (socket_id_slot h.id) (λ _. give_back hs) (λ _ v l s. give_back_says hs v m free none_)

  pub client_says : (ts : List Task) (held : List HeldLife) (w : Scene) (m : Mark) → AreOf m ts → IsFree m → AllByRecursion (FitsTask m.client) ts → Tells w m (client_from (sizes_of p q) held ts)
  client_says [] held w m are free fits = (free, λ v m' l s a. give_back_says held v m' (free_of m m' free a) (slot_of m m' [] are a).todo)
  client_says (t ∷ ts) held w m are free fits = (
    free,
    λ v m' l s a. subst (λ y. Tells v y (operation (sizes_of p q) held t.number (λ held'. client_from (sizes_of p q) held' ts) t.op)) (sym a.is) (
        let m1 : Mark = with_slot a.slot m in
        let are1 : AreOf (with_slot a.slot m) (t ∷ ts) = record { todo = are.todo; are = are.are; mine = are.mine } in
        operation_says held (λ held'. client_from (sizes_of p q) held' ts) w m1 t ts t.op (next_of m1 t ts are1) (a.vacant, free.1, free.2) refl fits.0.0 fits.0.1
        (λ hs u m2 l2 _ a2. client_says ts hs u m2 (slot_of (with_done t ts m1) m2 ts (done_of m1 t ts are1) a2) (free_of (with_done t ts m1) m2 (a.vacant, free.1, free.2) a2) (client_of (with_done t ts m1) m2 ts a2 fits.1)) v l s
        ),
  )

  pub ending_says : (os : List ℕ) (w : Scene) (m : Mark) → IsFree m → m.todo ≡ [] → Tells w m (ending_of os)
  ending_says [] w m free none_ = (free, none_)
  ending_says (o ∷ os) w m free none_ = (
    tt,
    λ word v l s _. let closes : Program = add_reference (word - 1) (set_failed (word - 1) 1014 (λ _. release (socket_id_slot (word - 1)) (λ _. ending_of os))) (λ _. ending_of os) in
        way p q clients gives v m (word == 0) (ending_of os) (cond (word == NO_SOCKET) (ending_of os) closes) s (λ _ _. ending_says os v m free none_)
        (λ _ s'. way p q clients gives v m (word == NO_SOCKET) (ending_of os) closes s' (λ _ _. ending_says os v m free none_)
        (λ _ _. address_says p q clients gives v m (word - 1) (set_failed (word - 1) 1014 (λ _. release (socket_id_slot (word - 1)) (λ _. ending_of os))) (λ _. ending_of os)
        (λ v2 _ _. set_failed_says p q clients gives v2 m (word - 1) 1014 (inr (inl refl)) (λ _. release (socket_id_slot (word - 1)) (λ _. ending_of os))
        (λ _ v3 _ _. release_says p q clients gives v3 m (socket_id_slot (word - 1)) (λ _. ending_of os) (λ _ v4 _ _. ending_says os v4 m free none_)))
        (λ _ v2 _ _. ending_says os v2 m free none_))),
  )
