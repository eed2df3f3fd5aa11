-- What writers, attempts and calls say has its cause.
use Rattle.std.proofs.Common.{◌≡◌, ◌≢◌, ℕ, zero, suc, ◌+◌, ◌-◌, ◌/◌, ◌%◌, ◌≤◌, inl, inr, ◌==◌, ◌&&◌, Bool, true, false, cond, eqb, leb, nat_lt, nat_le, List, length, refl, sym, ap, ◌∙◌, subst, arith}
use Rattle.sock_words.specs.PackedWords.{socket_id_version, socket_id_slot, vref_version, vref_nref, at_word, at_word_attempt, ticket_generation, ticket_request, IDLE, UNCONNECTED, id_slot, id_first}
use Rattle.sock_words.specs.declared.plain.Plan.{Plan}
use Rattle.sock_io.specs.declared.link.Put.{Put}
use Rattle.sock_io.specs.declared.link.Put.TheVariants as puts
use Rattle.sock_io.specs.declared.link.Ready.{Ready}
use Rattle.sock_io.specs.declared.link.Ready.TheVariants as asks
use Rattle.sock_model.specs.declared.chain.Heading.{Heading}
use Rattle.sock_model.specs.Entries.{ticket_of}
use Rattle.corr_core.specs.declared.marks.Plan.{Plan as IdPlan}
use Rattle.sock_message.specs.Asked.{Asked, frame_of}
use Rattle.seat_programs.specs.declared.task.Task.{Task}
use Rattle.seat_programs.specs.BufferParts.{part}
use Rattle.seat_programs.specs.TableSteps.{OnSlot, OnChain, OnLink, SubRef, Recycle, StoreCode, LoadLink, TakeLink, FinishLink, PutLink, FreeSlot, FreeRequest, ReadNext, ReverseNext, Connect, FindLink, LookWord}
use Rattle.seat_programs.specs.Asides.{StoreAt}
use Rattle.seat_programs.specs.Programs.{Program, Do, TakeMessage, TakeHome, PutBytes, Write, Aside, LAST_VERSION, LAST_GENERATION, recycle, release, add_reference, set_failed}
use Rattle.seat_programs.specs.PostPrograms.{post}
use Rattle.seat_programs.specs.Writings.{Holder, Writing, Puts, Waits, Empties, Reversing}
use Rattle.seat_programs.specs.SendAndWritePrograms.{freed, one_more, passed_telling, tell_drop, placed, dropped, put_answered, ready_answered, block, accept, write_link}
use Rattle.seat_programs.specs.CallAndRetryPrograms.{claims_from, heading_for, attempt}
use Rattle.owed_calls.specs.Below.id_runs.specs.Goes.{FitsOwner, FitsWriting}
use Rattle.owed_calls.specs.Below.id_runs.proofs.IdLoopRounds.{not_equal}
use Rattle.call_stories.specs.Scenes.{Scene, IsOther}
use Rattle.call_stories.specs.Says.{Mark, with_slot, IsFree, Again}
use Rattle.call_stories.proofs.LastingCallStories.{far}
use Rattle.call_stories.proofs.PostLoopCauses.{speech, way, again_same, then_on, then_does, then_way, follows_later, then_follows, post_says}

module _ (p : Plan) (q : IdPlan) (clients : List (List Task)) (gives : ℕ → List ℕ) where
  open speech p q clients gives use {Tells, Later', Next, Ends}

  -- ## Parts on sockets

  -- who wins the exchange ends the slot's link, and frees the slot
  recycle_then : (w : Scene) (m : Mark) (i from : ℕ) (next : Bool → Program) → ((b : Bool) → Next w m (next b)) → Next w m (recycle i from next)
  recycle_then w m i from next goes = let fits : Bool = leb (vref_version from + 1) LAST_VERSION in
      let last : Program = cond fits (Do (OnSlot (FreeSlot i)) (λ _. next true)) (next true) in
      let back : ℕ → Program = λ k. Do (OnLink (PutLink k)) (λ _. last) in
      let finish : ℕ → Program = λ k. Do (OnLink (FinishLink k)) (λ _. back k) in
      let take : ℕ → Program = λ k. Do (OnLink (TakeLink k)) (λ _. finish k) in
      let wins : Program = Do (OnSlot (LoadLink i (vref_version from + 1))) take in
      then_does p q clients gives w m (OnSlot (Recycle i from)) (λ found. cond (eqb found from) wins (next false)) tt (λ found. then_way p q clients gives w m (eqb found from) wins (next false)
      (λ _. then_does p q clients gives w m (OnSlot (LoadLink i (vref_version from + 1))) take tt
      (λ k. then_does p q clients gives w m (OnLink (TakeLink k)) (λ _. finish k) tt
      (λ _. then_does p q clients gives w m (OnLink (FinishLink k)) (λ _. back k) tt
      (λ _. then_does p q clients gives w m (OnLink (PutLink k)) (λ _. last) tt
      (λ _. then_way p q clients gives w m fits (Do (OnSlot (FreeSlot i)) (λ _. next true)) (next true) (λ _. then_does p q clients gives w m (OnSlot (FreeSlot i)) (λ _. next true) tt (λ _. goes true)) (λ _. goes true))))))
      (λ _. goes false))

  pub release_says : (w : Scene) (m : Mark) (i : ℕ) (next : Bool → Program) → ((b : Bool) → Next w m (next b)) → Tells w m (release i next)
  release_says w m i next goes = (
    tt,
    λ found v l s _. way p q clients gives v m ((vref_version found % 2 == 1) && (vref_nref found == 1)) (recycle i (found - 1) next) (next false) s
        (λ _ s'. recycle_then w m i (found - 1) next goes v l s') (λ _ s'. goes false v l s'),
  )

  pub address_says : (w : Scene) (m : Mark) (id : ℕ) (held : Program) (gone : ℕ → Program) → Next w m held → ((found : ℕ) → Next w m (gone found)) → Tells w m (add_reference id held gone)
  address_says w m id held gone goes others = (
    tt,
    λ found v l s _. way p q clients gives v m (vref_version found == socket_id_version id) held (release (socket_id_slot id) (λ _. gone found)) s
        (λ _ s'. goes v l s') (λ _ _. release_says v m (socket_id_slot id) (λ _. gone found) (λ _. then_on p q clients gives w v m (gone found) l (others found))),
  )

  pub set_failed_says : (w : Scene) (m : Mark) (id code : ℕ) → IsOther p q clients gives code → (next : ℕ → Program) → ((found : ℕ) → Next w m (next found)) → Tells w m (set_failed id code next)
  set_failed_says w m id code other next goes = (
    tt,
    λ found v l s _. way p q clients gives v m (vref_version found % 2 == 0) (Do (OnSlot (StoreCode (socket_id_slot id) (socket_id_version id) code)) (λ _. Do (OnSlot (SubRef (socket_id_slot id))) (λ _. next found))) (next found) s
        (λ _ _. (other, λ _ v2 l2 _ _. (tt, λ _ v3 l3 s3 _. goes found v3 (far p q clients gives w v2 v3 (far p q clients gives w v v2 l l2) l3) s3))) (λ _ s'. goes found v l s'),
  )

  -- ## Writing

  again_free : (m m' : Mark) → IsFree m → Again p q clients gives m m' → IsFree m'
  again_free m m' free a = subst IsFree (sym a.is) (a.vacant, free.1, free.2)

  pub again_on : (m m' m'' : Mark) → Again p q clients gives m m' → Again p q clients gives m' m'' → Again p q clients gives m m''
  again_on m m' m'' a b = record { slot = b.slot; vacant = b.vacant; is = b.is ∙ ap (with_slot b.slot) a.is }

  writes : (w : Scene) (m : Mark) (after : Program) → IsFree m → Ends w m after → (x : Writing) → FitsWriting q x → Ends w m (Write x after)
  writes w m after free goes x fits = λ v m' l _ a. (again_free m m' free a, fits, λ v2 m2 l2 s2 a2. goes v2 m2 (far p q clients gives w v v2 l l2) s2 (again_on m m' m2 a a2))

  -- the same from the mark itself
  writes_on : (w : Scene) (m : Mark) (after : Program) → IsFree m → Ends w m after → (x : Writing) → FitsWriting q x → Next w m (Write x after)
  writes_on w m after free goes x fits = then_follows p q clients gives w m (Write x after) free (writes w m after free goes x fits)

  freed_then : (w : Scene) (m : Mark) (now : ℕ) (next : Program) → Next w m next → Next w m (freed now next)
  freed_then w m now next goes = λ v l s. way p q clients gives v m (ticket_generation now == LAST_GENERATION) next (Do (OnChain (FreeRequest (ticket_request now) (ticket_generation now))) (λ _. next)) s (λ _ s'. goes v l s') (λ _ _. (tt, λ _ v2 l2 s2 _. goes v2 (far p q clients gives w v v2 l l2) s2))

  passed_then : (w : Scene) (m : Mark) (h : Holder) (now : ℕ) (tells : Program → Program) (after : Program) → IsFree m → ((x : Program) → Ends w m x → Next w m (tells x)) → Ends w m after → Next w m (passed_telling h now tells after)
  passed_then w m h now tells after free told goes = λ v l s. way p q clients gives v m (now == h.last) (freed now (tells (Write (Empties h) after)))
      (Do (OnChain (ReadNext (ticket_request now))) (λ next. freed now (tells (TakeMessage (ticket_request next) (λ heading bytes. Write (Puts h next heading bytes 0 false) after))))) s
      (λ _ s'. freed_then w m now (tells (Write (Empties h) after)) (told (Write (Empties h) after) (writes w m after free goes (Empties h) tt)) v l s')
      (λ _ _. (
        tt,
        λ next v2 l2 s2 _. freed_then w m now (tells (TakeMessage (ticket_request next) (λ heading bytes. Write (Puts h next heading bytes 0 false) after)))
            (told (TakeMessage (ticket_request next) (λ heading bytes. Write (Puts h next heading bytes 0 false) after))
            (λ u m' l' _ a. λ heading bytes u2 fits l3 _. writes w m after free goes (Puts h next heading bytes 0 false) fits u2 m' (far p q clients gives w u u2 l' l3) tt a)) v2 (far p q clients gives w v v2 l l2) s2,
      ))

  -- the error that a dropped message posts
  code_of_drop : (b : Bool) (c : ℕ) → eqb c 0 ≡ b → (c ≢ 0 → IsOther p q clients gives c) → IsOther p q clients gives (cond b 1009 c)
  code_of_drop true c is other = inl refl
  code_of_drop false c is other = other (not_equal c 0 is)

  tell_then : (w : Scene) (m : Mark) (heading : Heading) (code : ℕ) → IsFree m → FitsOwner q heading → (code ≢ 0 → IsOther p q clients gives code) → (x : Program) → Ends w m x → Next w m (tell_drop heading code x)
  tell_then w m heading code free owner other x goes = λ v l s. way p q clients gives v m (eqb heading.owner 0) x (post heading.owner (cond (eqb code 0) 1009 code) heading.label.attempt x) s
      (λ _ s'. goes v m l s' (again_same p q clients gives m m free refl))
      (λ some_ _. post_says p q clients gives v m heading.owner (cond (eqb code 0) 1009 code) heading.label.attempt x free (code_of_drop (eqb code 0) code refl other) (let few = (owner (not_equal heading.owner 0 some_)).1 in omega (arith, few)) (follows_later p q clients gives w v m x l goes))

  put_then : (w : Scene) (m : Mark) (h : Holder) (now : ℕ) (heading : Heading) (left : List ℕ) (taken : ℕ) (after : Program) → IsFree m → FitsOwner q heading → Ends w m after → (answer : Put) → Next w m (put_answered h now heading left taken after answer)
  put_then w m h now heading left taken after free owner goes (puts.Took n) = λ v l s. way p q clients gives v m (nat_le (length left) n) (placed h now heading after) (Write (Puts h now heading (Rattle.std.specs.Prelude.drop n left) (taken + n) false) after) s
      (λ _ _. (tt, λ _ v2 l2 s2 _. passed_then w m (one_more h) now (λ x. x) after free (λ x g. then_follows p q clients gives w m x free g) goes v2 (far p q clients gives w v v2 l l2) s2))
      (λ _ s'. writes_on w m after free goes (Puts h now heading (Rattle.std.specs.Prelude.drop n left) (taken + n) false) owner v l s')
  put_then w m h now heading left taken after free owner goes puts.Again = writes_on w m after free goes (Waits h now heading left taken) owner
  put_then w m h now heading left taken after free owner goes puts.Failed = λ v l s. set_failed_says v m h.id 1009 (inl refl) (λ _. Write (Puts h now heading left taken false) after)
      (λ _. then_on p q clients gives w v m (Write (Puts h now heading left taken false) after) l (writes_on w m after free goes (Puts h now heading left taken false) owner))

  pub block_says : (w : Scene) (m : Mark) (x : Writing) (after : Program) → Tells w m (Write x after) → Tells w m (block x after)
  block_says w m (Puts h now heading left taken asked) after g = (
    tt,
    λ found v l s _. way p q clients gives v m (vref_version found % 2 == 0) (PutBytes h.link asked (part heading.parts left taken) (put_answered h now heading left taken after)) (dropped h now heading after) s
        (λ _ _. λ answer v2 l2 s2. put_then w m h now heading left taken after g.0 g.1 g.2 answer v2 (far p q clients gives w v v2 l l2) s2)
        (λ _ _. (tt, λ code v2 l2 _ f2. (tt, λ _ v3 l3 s3 _. passed_then w m (one_more h) now (tell_drop heading code) after g.0 (tell_then w m heading code g.0 g.1 f2) g.2 v3 (far p q clients gives w v2 v3 (far p q clients gives w v v2 l l2) l3) s3))),
  )
  block_says w m (Waits h now heading left taken) after g = ready_says
    where
      ready_says : (answer : Ready) → Next w m (ready_answered h now heading left taken after answer)
      ready_says asks.Now = writes_on w m after g.0 g.2 (Puts h now heading left taken true) g.1
      ready_says asks.NotYet = writes_on w m after g.0 g.2 (Waits h now heading left taken) g.1
      ready_says asks.Failed = λ v l s. set_failed_says v m h.id 1009 (inl refl) (λ _. Write (Puts h now heading left taken false) after)
          (λ _. then_on p q clients gives w v m (Write (Puts h now heading left taken false) after) l (writes_on w m after g.0 g.2 (Puts h now heading left taken false) g.1))
  block_says w m (Empties h) after g = λ v l _. (
    tt,
    λ found v2 l2 s2 _. let f2 = far p q clients gives w v v2 l l2 in
        way p q clients gives v2 m (found == h.last) after (TakeHome h.link (λ places. Write (Reversing (record h { places = places }) found found 0) after)) s2
        (λ _ s'. g.2 v2 m f2 s' (again_same p q clients gives m m g.0 refl))
        (λ _ _. λ places v3 l3 s3. writes_on w m after g.0 g.2 (Reversing (record h { places = places }) found found 0) tt v3 (far p q clients gives w v2 v3 f2 l3) s3),
  )
  block_says w m (Reversing h top at after) then_ g = (
    tt,
    λ found v l s _. way p q clients gives v m (found == UNCONNECTED) (Write (Reversing h top at after) then_)
        (Do (OnChain (ReverseNext (ticket_request at) after)) (λ _. cond (found == h.last) (TakeMessage (ticket_request at) (λ heading bytes. Write (Puts (record h { last = top }) at heading bytes 0 false) then_)) (Write (Reversing h top found at) then_))) s
        (λ _ s'. writes_on w m then_ g.0 g.2 (Reversing h top at after) tt v l s')
        (λ _ _. (
          tt,
          λ _ v2 l2 s2 _. let f2 = far p q clients gives w v v2 l l2 in
              way p q clients gives v2 m (found == h.last) (TakeMessage (ticket_request at) (λ heading bytes. Write (Puts (record h { last = top }) at heading bytes 0 false) then_)) (Write (Reversing h top found at) then_) s2
              (λ _ _. λ heading bytes v3 fits l3 s3. writes_on w m then_ g.0 g.2 (Puts (record h { last = top }) at heading bytes 0 false) fits v3 (far p q clients gives w v2 v3 f2 l3) s3)
              (λ _ s'. writes_on w m then_ g.0 g.2 (Reversing h top found at) tt v2 f2 s'),
        )),
  )

  -- ## Attempts

  write_link_says : (w : Scene) (m : Mark) (id r own : ℕ) (after : Program) → IsFree m → Ends w m after → Tells w m (write_link id r own after)
  write_link_says w m id r own after free goes = (
    tt,
    λ k v l _ _. λ places v2 l2 _. λ heading bytes v3 fits l3 _. let h : Holder = record { id = id; link = k; last = own; places = places } in let f3 = far p q clients gives w v2 v3 (far p q clients gives w v v2 l l2) l3 in (
      tt,
      λ found v4 l4 s4 _. let f4 = far p q clients gives w v3 v4 f3 l4 in
          way p q clients gives v4 m (vref_version found % 2 == 0) (PutBytes k false (part heading.parts bytes 0) (put_answered h own heading bytes 0 after)) (Write (Puts h own heading bytes 0 false) after) s4
          (λ _ _. λ answer v5 l5 s5. put_then w m h own heading bytes 0 after free fits goes answer v5 (far p q clients gives w v4 v5 f4 l5) s5)
          (λ _ s'. writes_on w m after free goes (Puts h own heading bytes 0 false) fits v4 f4 s'),
    ),
  )

  pub accept_says : (w : Scene) (m : Mark) (id r g : ℕ) (heading : Heading) (bytes : List ℕ) (after : Program) → IsFree m → Ends w m after → Tells w m (accept id r g heading bytes after)
  accept_says w m id r g heading bytes after free goes = (
    tt,
    λ _ v l _ _. (
      tt,
      λ _ v2 l2 _ _. (
        tt,
        λ found v3 l3 s3 _. let f3 = far p q clients gives w v2 v3 (far p q clients gives w v v2 l l2) l3 in
            way p q clients gives v3 m (nat_lt found IDLE) (Do (OnChain (Connect r found)) (λ _. after)) (write_link id r (ticket_of r g) after) s3
            (λ _ _. (tt, λ _ v4 l4 s4 _. goes v4 m (far p q clients gives w v3 v4 f3 l4) s4 (again_same p q clients gives m m free refl)))
            (λ _ _. write_link_says v3 m id r (ticket_of r g) after free (follows_later p q clients gives w v3 m after f3 goes)),
      ),
    ),
  )

  claims_then : (w : Scene) (m : Mark) (more r id : ℕ) (heading : Heading) (bytes : List ℕ) (full accepted : Program) → IsFree m → Next w m full → Ends w m accepted → Next w m (claims_from more r id heading bytes full accepted)
  claims_then w m zero r id heading bytes full accepted free none_ goes = none_
  claims_then w m (suc more) r id heading bytes full accepted free none_ goes = λ v l _. (
    tt,
    λ found v2 l2 s2 _. let f2 = far p q clients gives w v v2 l l2 in
        way p q clients gives v2 m (found % 2 == 0) (accept id r (found / 2) heading bytes accepted) (claims_from more (r + 1) id heading bytes full accepted) s2
        (λ _ _. accept_says v2 m id r (found / 2) heading bytes accepted free (follows_later p q clients gives w v2 m accepted f2 goes)) (λ _ s'. claims_then w m more (r + 1) id heading bytes full accepted free none_ goes v2 f2 s'),
  )

  -- a reference is given back, and then what follows
  pub releases : (w : Scene) (m : Mark) (i : ℕ) (next : Program) → Ends w m next → Ends w m (release i (λ _. next))
  releases w m i next goes = λ v m' l _ a. release_says v m' i (λ _. next) (λ _ v2 l2 s2. goes v2 m' (far p q clients gives w v v2 l l2) s2 a)

  at_few : (f s k n : ℕ) → n ≤ 6 → at_word_attempt (at_word f s k n) ≤ 6
  at_few f s k n few = omega (arith, few)

  pub attempt_says : (w : Scene) (m : Mark) (requests : ℕ) (asked : Asked) (id n socket : ℕ) (next : Program) → IsFree m → n ≤ 6 → Ends w m next → Tells w m (attempt requests asked id n socket next)
  attempt_says w m requests asked id n socket next free few goes =
      let i : ℕ = socket_id_slot socket in
      let freed_ : Program = release (socket_id_slot socket) (λ _. next) in
      let looked : ℕ → Program = λ found. cond (eqb (vref_version found % 2) 0) (claims_from requests 0 socket (heading_for asked id n) (frame_of asked id n) (post id 3001 n (release (socket_id_slot socket) (λ _. next))) (release (socket_id_slot socket) (λ _. next))) (post id 1009 n (release (socket_id_slot socket) (λ _. next))) in
      address_says w m socket (Do (OnSlot (FindLink (socket_id_slot socket) (socket_id_version socket))) (λ k. Aside (StoreAt asked.operation (at_word (id_first id) (id_slot id) k n)) (λ _. Do (OnSlot (LookWord socket)) looked))) (λ _. post id 1009 n next)
      (λ v l _. (
        tt,
        λ k v2 l2 _ _. (
          at_few (id_first id) (id_slot id) k n few,
          λ _ v3 m3 l3 _ mv. (
            tt,
            subst (λ x. Tells v3 x (Do (OnSlot (LookWord socket)) looked)) (sym mv) (
              tt,
              λ found v4 l4 s4 _. let f4 = far p q clients gives w v3 v4 (far p q clients gives w v2 v3 (far p q clients gives w v v2 l l2) l3) l4 in
                  way p q clients gives v4 m (eqb (vref_version found % 2) 0) (claims_from requests 0 socket (heading_for asked id n) (frame_of asked id n) (post id 3001 n (release (socket_id_slot socket) (λ _. next))) (release (socket_id_slot socket) (λ _. next))) (post id 1009 n (release (socket_id_slot socket) (λ _. next))) s4
                  (λ _ s'. claims_then w m requests 0 socket (heading_for asked id n) (frame_of asked id n) (post id 3001 n freed_) freed_ free
                  (λ u l' _. post_says p q clients gives u m id 3001 n freed_ free (inr (inr (inr (inl refl)))) (omega (arith, few)) (follows_later p q clients gives w u m freed_ l' (releases w m i next goes))) (releases w m i next goes) v4 f4 s')
                  (λ _ _. post_says p q clients gives v4 m id 1009 n freed_ free (inl refl) (omega (arith, few)) (follows_later p q clients gives w v4 m freed_ f4 (releases w m i next goes))),
            ),
          ),
        ),
      ))
      (λ found v l _. post_says p q clients gives v m id 1009 n next free (inl refl) (omega (arith, few)) (follows_later p q clients gives w v m next l goes))
