-- The programs of clients and of readers, as far as ids go: each step on them is one that the view allows.
use Rattle.std.proofs.Common.{◌≡◌, ℕ, zero, suc, ◌+◌, ◌-◌, ◌/◌, ◌%◌, ◌<◌, ◌≤◌, ◌==◌, ◌&&◌, inl, Bool, true, false, cond, eqb, leb, nat_lt, nat_le, List, [], length, refl, sym, ap, ap₂, ◌∙◌, subst, arith}
use Rattle.sock_words.specs.PackedWords.{socket_id_version, socket_id_slot, vref_version, vref_nref, at_word, at_word_slot, at_word_first, ticket_generation, ticket_request, IDLE, UNCONNECTED, call_id, id_slot, id_first}
use Rattle.sock_words.specs.declared.plain.Plan.{Plan}
use Rattle.sock_words.specs.declared.outcome.Outcome.TheVariants as outcomes
use Rattle.seat_programs.specs.sock_io.specs.declared.link.Put.{Put}
use Rattle.seat_programs.specs.sock_io.specs.declared.link.Put.TheVariants as puts
use Rattle.seat_programs.specs.sock_io.specs.declared.link.Ready.{Ready}
use Rattle.seat_programs.specs.sock_io.specs.declared.link.Ready.TheVariants as asks
use Rattle.seat_programs.specs.sock_model.specs.declared.chain.Heading.{Heading}
use Rattle.seat_programs.specs.sock_model.specs.Entries.{ticket_of}
use Rattle.corr_core.specs.IdSlotWord.{parts, error_of}
use Rattle.corr_core.specs.declared.marks.Plan.{Plan as IdPlan}
use Rattle.corr_core.specs.declared.marks.Hand.TheVariants.{Empty, Full}
use Rattle.corr_core.specs.declared.marks.Token.{Token}
use Rattle.corr_core.specs.declared.marks.Token.TheVariants.{Claimed, Locked}
use Rattle.corr_core.specs.declared.marks.Note.TheVariants.{Tried, Made}
use Rattle.id_rule.specs.LawfulIdTable.{call_index, at_index as at_place, with_token, no_token, with_note, with_kept}
use Rattle.id_rule.specs.IdPlays.{with_hand}
use Rattle.seat_programs.specs.BufferParts.{part}
use Rattle.seat_programs.specs.sock_message.specs.Asked.{Asked, frame_of}
use Rattle.seat_programs.specs.TableSteps.{OnSlot, OnChain, OnLink, SubRef, StoreCode, LoadLink, TakeLink, FinishLink, PutLink, FreeSlot, FreeRequest, ReadNext}
use Rattle.seat_programs.specs.Asides.{PutCall, MakeId, StoreCall, StoreAt}
use Rattle.seat_programs.specs.LoopHeads.{Retry, Unlocks, Joins, Unlocking, IsOpen, HasNext, Deciding, HasEnded, GoesOn, Locking, NotThere, Has}
use Rattle.seat_programs.specs.Programs.{Program, Do, Say, TakeMessage, TakeHome, PutBytes, Write, Aside, Round, LAST_VERSION, LAST_GENERATION, recycle, release, add_reference, set_failed}
use Rattle.seat_programs.specs.PostPrograms.{post, post_with, posted, decided}
use Rattle.seat_programs.specs.Writings.{Holder, Writing, Puts, Waits, Empties, Reversing}
use Rattle.seat_programs.specs.SendAndWritePrograms.{freed, one_more, passed_telling, tell_drop, placed, dropped, put_answered, ready_answered, block, accept, write_link}
use Rattle.seat_programs.specs.CallAndRetryPrograms.{claims_from, heading_for, attempt, begin_call, claim_id, call, tried_again, retry_locked, retry, expire_outcome, expire, join}
use Rattle.seat_programs.specs.Explained.{AskedFits}
use Rattle.id_runs.specs.HeldIdTokens.{AtFits, IdView, one, by_token, made_by}
use Rattle.id_runs.specs.Goes.{FitsOwner, IsFree, IsError, LeavesUnlock, LeavesLock, FitsRetryId, IdGoesOn}
use Rattle.id_runs.proofs.IdLoopRounds.{has_one, other_one, none_left, first_one, not_equal, way, both_ways, decide_goes, posted_goes, post_with_goes, post_goes}

module _ (p : Plan) (q : IdPlan) (narrow : q.slots ≤ 65536) where
  abbrev Goes : IdView → Program → Type 0
  Goes u x = IdGoesOn p q u x

  -- ## Parts on sockets

  pub recycle_goes : (u : IdView) (i from : ℕ) (next : Bool → Program) → ((b : Bool) → Goes u (next b)) → Goes u (recycle i from next)
  recycle_goes u i from next goes = λ found _. way p q u (eqb found from)
      (Do (OnSlot (LoadLink i (vref_version from + 1))) (λ k. Do (OnLink (TakeLink k)) (λ _. Do (OnLink (FinishLink k)) (λ _. Do (OnLink (PutLink k)) (λ _. cond (leb (vref_version from + 1) LAST_VERSION) (Do (OnSlot (FreeSlot i)) (λ _. next true)) (next true))))))
      (next false)
      (λ _. λ k _ _ _ _ _ _ _. way p q u (leb (vref_version from + 1) LAST_VERSION) (Do (OnSlot (FreeSlot i)) (λ _. next true)) (next true) (λ _. λ _ _. goes true) (λ _. goes true))
      (λ _. goes false)

  pub release_goes : (u : IdView) (i : ℕ) (next : Bool → Program) → ((b : Bool) → Goes u (next b)) → Goes u (release i next)
  release_goes u i next goes = λ found _. way p q u ((vref_version found % 2 == 1) && (vref_nref found == 1)) (recycle i (found - 1) next) (next false) (λ _. recycle_goes u i (found - 1) next goes) (λ _. goes false)

  pub address_goes : (u : IdView) (id : ℕ) (held : Program) (gone : ℕ → Program) → Goes u held → ((found : ℕ) → Goes u (gone found)) → Goes u (add_reference id held gone)
  address_goes u id held gone goes others = λ found _. way p q u (vref_version found == socket_id_version id) held (release (socket_id_slot id) (λ _. gone found)) (λ _. goes) (λ _. release_goes u (socket_id_slot id) (λ _. gone found) (λ _. others found))

  pub set_failed_goes : (u : IdView) (id code : ℕ) → code < 4096 → (next : ℕ → Program) → ((found : ℕ) → Goes u (next found)) → Goes u (set_failed id code next)
  set_failed_goes u id code small next goes = λ found _. way p q u (vref_version found % 2 == 0)
      (Do (OnSlot (StoreCode (socket_id_slot id) (socket_id_version id) code)) (λ _. Do (OnSlot (SubRef (socket_id_slot id))) (λ _. next found))) (next found) (λ _. (small, λ _. λ _ _. goes found)) (λ _. goes found)

  -- ## Writing

  -- what follows the loops
  abbrev Follows : Program → Type 0
  Follows after = (v : IdView) → IsFree v → Goes v after

  freed_goes : (u : IdView) (now : ℕ) (next : Program) → Goes u next → Goes u (freed now next)
  freed_goes u now next goes = way p q u (ticket_generation now == LAST_GENERATION) next (Do (OnChain (FreeRequest (ticket_request now) (ticket_generation now))) (λ _. next)) (λ _. goes) (λ _. λ _ _. goes)

  passed_goes : (u : IdView) (h : Holder) (now : ℕ) (tells : Program → Program) (after : Program) → IsFree u → ((x : Program) → Follows x → Goes u (tells x)) → Follows after → Goes u (passed_telling h now tells after)
  passed_goes u h now tells after free told goes = way p q u (now == h.last) (freed now (tells (Write (Empties h) after)))
      (Do (OnChain (ReadNext (ticket_request now))) (λ next. freed now (tells (TakeMessage (ticket_request next) (λ heading bytes. Write (Puts h next heading bytes 0 false) after)))))
      (λ _. freed_goes u now (tells (Write (Empties h) after)) (told (Write (Empties h) after) (λ v free'. (free', tt, goes))))
      (λ _. λ next _. freed_goes u now (tells (TakeMessage (ticket_request next) (λ heading bytes. Write (Puts h next heading bytes 0 false) after)))
      (told (TakeMessage (ticket_request next) (λ heading bytes. Write (Puts h next heading bytes 0 false) after)) (λ v free'. λ heading bytes owner. (free', owner, goes))))

  -- an error that a dropped message posts
  code_of_drop : (b : Bool) (c : ℕ) → eqb c 0 ≡ b → c < 4096 → (0 < cond b 1009 c) × (cond b 1009 c < 4096)
  code_of_drop true c is small = (omega arith, omega arith)
  code_of_drop false c is small = ((let ne = Rattle.id_runs.proofs.IdLoopRounds.not_equal c 0 is in omega arith), small)

  tell_goes : (u : IdView) (heading : Heading) (code : ℕ) → IsFree u → FitsOwner q heading → code < 4096 → (x : Program) → Follows x → Goes u (tell_drop heading code x)
  tell_goes u heading code free owner small x goes = way p q u (eqb heading.owner 0) x (post heading.owner (cond (eqb code 0) 1009 code) heading.label.attempt x) (λ _. goes u free)
      (λ some_. let o = owner (Rattle.id_runs.proofs.IdLoopRounds.not_equal heading.owner 0 some_) in let c = code_of_drop (eqb code 0) code refl small in let few = o.1 in
      post_goes p q u heading.owner (cond (eqb code 0) 1009 code) heading.label.attempt x free o.0 c.0 c.1 (omega (arith, few)) goes)

  put_goes : (u : IdView) (h : Rattle.seat_programs.specs.Writings.Holder) (now : ℕ) (heading : Heading) (left : List ℕ) (taken : ℕ) (after : Program) → IsFree u → FitsOwner q heading → Follows after → (answer : Put) → Goes u (put_answered h now heading left taken after answer)
  put_goes u h now heading left taken after free owner goes (puts.Took n) = way p q u (nat_le (length left) n) (placed h now heading after) (Write (Puts h now heading (Rattle.std.specs.Prelude.drop n left) (taken + n) false) after)
      (λ _. λ _ _. passed_goes u (one_more h) now (λ x. x) after free (λ x goes. goes u free) goes) (λ _. (free, owner, goes))
  put_goes u h now heading left taken after free owner goes puts.Again = (free, owner, goes)
  put_goes u h now heading left taken after free owner goes puts.Failed = set_failed_goes u h.id 1009 (omega arith) (λ _. Write (Puts h now heading left taken false) after) (λ _. (free, owner, goes))

  pub block_goes : (u : IdView) (w : Writing) (after : Program) → Goes u (Write w after) → Goes u (block w after)
  block_goes u (Puts h now heading left taken asked) after g = λ found _. way p q u (vref_version found % 2 == 0) (PutBytes h.link asked (part heading.parts left taken) (put_answered h now heading left taken after)) (dropped h now heading after)
      (λ _. put_goes u h now heading left taken after g.0 g.1 g.2)
      (λ _. λ code small. λ _ _. passed_goes u (one_more h) now (tell_drop heading code) after g.0 (tell_goes u heading code g.0 g.1 small) g.2)
  block_goes u (Waits h now heading left taken) after g = ready_goes
    where
      ready_goes : (answer : Ready) → Goes u (ready_answered h now heading left taken after answer)
      ready_goes asks.Now = g
      ready_goes asks.NotYet = g
      ready_goes asks.Failed = set_failed_goes u h.id 1009 (omega arith) (λ _. Write (Puts h now heading left taken false) after) (λ _. g)
  block_goes u (Empties h) after g = λ found _. way p q u (found == h.last) after (TakeHome h.link (λ places. Write (Reversing (record h { places = places }) found found 0) after)) (λ _. g.2 u g.0) (λ _. λ places. g)
  block_goes u (Reversing h top at after) then_ g = λ found _. way p q u (found == UNCONNECTED) (Write (Reversing h top at after) then_)
      (Do (OnChain (Rattle.seat_programs.specs.TableSteps.ReverseNext (ticket_request at) after)) (λ _. cond (found == h.last) (TakeMessage (ticket_request at) (λ heading bytes. Write (Puts (record h { last = top }) at heading bytes 0 false) then_)) (Write (Reversing h top found at) then_)))
      (λ _. g)
      (λ _. λ _ _. way p q u (found == h.last) (TakeMessage (ticket_request at) (λ heading bytes. Write (Puts (record h { last = top }) at heading bytes 0 false) then_)) (Write (Reversing h top found at) then_) (λ _. λ heading bytes owner. (g.0, owner, g.2)) (λ _. g))

  -- ## Attempts

  write_goes : (u : IdView) (id r own : ℕ) (after : Program) → IsFree u → Follows after → Goes u (write_link id r own after)
  write_goes u id r own after free goes = λ k _. λ places. λ heading bytes owner. let h : Rattle.seat_programs.specs.Writings.Holder = record { id = id; link = k; last = own; places = places } in
      λ found _. way p q u (vref_version found % 2 == 0) (PutBytes k false (part heading.parts bytes 0) (put_answered h own heading bytes 0 after)) (Write (Puts h own heading bytes 0 false) after)
      (λ _. put_goes u h own heading bytes 0 after free owner goes) (λ _. (free, owner, goes))

  pub accept_goes : (u : IdView) (id r g : ℕ) (heading : Heading) (bytes : List ℕ) (after : Program) → IsFree u → FitsOwner q heading → Follows after → Goes u (accept id r g heading bytes after)
  accept_goes u id r g heading bytes after free owner goes = (owner, λ _. λ _ _. λ found _. way p q u (nat_lt found IDLE) (Do (OnChain (Rattle.seat_programs.specs.TableSteps.Connect r found)) (λ _. after)) (write_link id r (ticket_of r g) after) (λ _. λ _ _. goes u free) (λ _. write_goes u id r (ticket_of r g) after free goes))

  pub claims_goes : (u : IdView) (more r id : ℕ) (heading : Heading) (bytes : List ℕ) (full accepted : Program) → IsFree u → FitsOwner q heading → Goes u full → Follows accepted → Goes u (claims_from more r id heading bytes full accepted)
  claims_goes u zero r id heading bytes full accepted free owner none_ goes = none_
  claims_goes u (suc more) r id heading bytes full accepted free owner none_ goes = λ found _. way p q u (found % 2 == 0) (accept id r (found / 2) heading bytes accepted) (claims_from more (r + 1) id heading bytes full accepted)
      (λ _. accept_goes u id r (found / 2) heading bytes accepted free owner goes) (λ _. claims_goes u more (r + 1) id heading bytes full accepted free owner none_ goes)

  at_fits : (id k n : ℕ) → id_slot id < q.slots → k < 65535 → n ≤ 6 → AtFits q (at_word (id_first id) (id_slot id) k n)
  at_fits id k n inside link few = subst (λ x. x < q.slots) (sym (slot_back (id_slot id) (id_first id) k n (omega (arith, inside, narrow)) (omega arith) link few)) inside
    where
      slot_back : (slot first k n : ℕ) → slot < 65536 → first < 4294967296 → k < 65535 → n ≤ 6 → id_slot (call_id (at_word_slot (at_word first slot k n)) (at_word_first (at_word first slot k n))) ≡ slot
      slot_back slot first k n s f l m = let a : at_word_slot (at_word first slot k n) ≡ slot = omega (arith, s, f, l, m) in let b : at_word_first (at_word first slot k n) ≡ first = omega (arith, s, f, l, m) in
          ap₂ (λ x y. id_slot (call_id x y)) a b ∙ omega (arith, s, f)

  pub attempt_goes : (u : IdView) (requests : ℕ) (asked : Asked) (id n socket : ℕ) (next : Program) → IsFree u → asked.operation < q.operations → id_slot id < q.slots → n ≤ 6 → Follows next → Goes u (attempt requests asked id n socket next)
  attempt_goes u requests asked id n socket next free operation inside few goes = let i : ℕ = socket_id_slot socket in
      address_goes u socket (Do (OnSlot (Rattle.seat_programs.specs.TableSteps.FindLink (socket_id_slot socket) (socket_id_version socket))) (λ k. Aside (StoreAt asked.operation (at_word (id_first id) (id_slot id) k n)) (λ _. Do (OnSlot (Rattle.seat_programs.specs.TableSteps.LookWord socket)) (λ found.
      cond (eqb (vref_version found % 2) 0) (claims_from requests 0 socket (heading_for asked id n) (frame_of asked id n) (post id 3001 n (release (socket_id_slot socket) (λ _. next))) (release (socket_id_slot socket) (λ _. next))) (post id 1009 n (release (socket_id_slot socket) (λ _. next)))))))
      (λ _. post id 1009 n next)
      (λ k link. (
        (operation, (λ z. omega (arith, z)), at_fits id k n inside link few),
        λ _ c _. λ found _. let v : IdView = with_kept (at_place q asked.operation) true (at_word (id_first id) (id_slot id) k n) u in
            way p q v (eqb (vref_version found % 2) 0) (claims_from requests 0 socket (heading_for asked id n) (frame_of asked id n) (post id 3001 n (release (socket_id_slot socket) (λ _. next))) (release (socket_id_slot socket) (λ _. next))) (post id 1009 n (release (socket_id_slot socket) (λ _. next)))
            (λ _. claims_goes v requests 0 socket (heading_for asked id n) (frame_of asked id n) (post id 3001 n (release (socket_id_slot socket) (λ _. next))) (release (socket_id_slot socket) (λ _. next)) free (λ _. (inside, few)) (posts v 3001 free (omega arith) (omega arith)) (λ w free'. release_goes w (socket_id_slot socket) (λ _. next) (λ _. goes w free')))
            (λ _. posts v 1009 free (omega arith) (omega arith)),
      ))
      (λ found. post_goes p q u id 1009 n next free inside (omega arith) (omega arith) (omega (arith, few)) goes)
    where
      posts : (v : IdView) (code : ℕ) → IsFree v → 0 < code → code < 4096 → Goes v (post id code n (release (socket_id_slot socket) (λ _. next)))
      posts v code free' some_ small = post_goes p q v id code n (release (socket_id_slot socket) (λ _. next)) free' inside some_ small (omega (arith, few)) (λ w f. release_goes w (socket_id_slot socket) (λ _. next) (λ _. goes w f))

  -- ## Calls

  in_slot : (i first : ℕ) → first ≤ 67108856 → id_slot (call_id i first) ≡ i
  in_slot i first small = omega (arith, small)

  module _ (same : q.operations ≡ p.operations) where
    begin_goes : (u : IdView) (requests socket i : ℕ) (asked : Asked) (next : Program) → u.tokens ≡ one i (Claimed 0 Empty) → i < q.slots → AskedFits p asked → Follows next → Goes u (begin_call requests socket i asked next)
    begin_goes u requests socket i asked next is inside fits goes = let has = has_one i (Claimed 0 Empty) u is in (
      (inside, inl (0, has), fits),
      λ _ c _. let v : IdView = with_token i (Claimed 0 (Full asked)) u in let now : v.tokens ≡ one i (Claimed 0 (Full asked)) = other_one i (Claimed 0 Empty) u is (Claimed 0 (Full asked)) in
          subst (λ ts. Goes (by_token ts (λ t. with_token i (with_hand t (Full asked)) u) u) (Aside (MakeId i asked.range) (λ found. Aside (StoreCall asked.operation (call_id i (parts found).first)) (λ _. attempt requests asked (call_id i (parts found).first) 0 socket next)))) (sym has)
          (makes v now),
    )
      where
        makes : (v : IdView) → v.tokens ≡ one i (Claimed 0 (Full asked)) → Goes v (Aside (MakeId i asked.range) (λ found. Aside (StoreCall asked.operation (call_id i (parts found).first)) (λ _. attempt requests asked (call_id i (parts found).first) 0 socket next)))
        makes v now = let has = has_one i (Claimed 0 (Full asked)) v now in let operation = fits.operation in (
          (inside, (0, asked, has), fits.range_low, fits.range_high),
          λ found c f. subst (λ ts. Goes (by_token ts (made_by i asked.range found v) v) (Aside (StoreCall asked.operation (call_id i (parts found).first)) (λ _. attempt requests asked (call_id i (parts found).first) 0 socket next))) (sym has)
              (let w : IdView = with_note i (Made (parts found).first asked.range asked) (no_token i v) in let free : w.tokens ≡ [] = none_left i (Claimed 0 (Full asked)) v now in (
                (omega (arith, operation, same), (let some_ = f.0 in λ z. omega (arith, z, some_)), subst (λ n. n < q.slots) (sym (in_slot i (parts found).first f.1)) inside),
                λ _ d _. attempt_goes (with_kept (call_index q asked.operation) true (call_id i (parts found).first) w) requests asked (call_id i (parts found).first) 0 socket next free (omega (arith, operation, same)) (subst (λ n. n < q.slots) (sym (in_slot i (parts found).first f.1)) inside) (omega arith) goes,
              )),
        )

    claim_goes : (u : IdView) (more i requests socket : ℕ) (asked : Asked) (next : Program) → IsFree u → i + more ≤ q.slots → AskedFits p asked → Follows next → Goes u (claim_id more i requests socket asked next)
    claim_goes u zero i requests socket asked next free inside fits goes = goes u free
    claim_goes u (suc more) i requests socket asked next free inside fits goes = (
      omega (arith, inside),
      λ found c _. both_ways p q (eqb found 0) (with_token i (Claimed 0 Empty) u) (with_note i Tried u) (begin_call requests socket i asked next) (claim_id more (i + 1) requests socket asked next)
          (λ _. begin_goes (with_token i (Claimed 0 Empty) u) requests socket i asked next (first_one i (Claimed 0 Empty) u free) (omega (arith, inside)) fits goes)
          (λ _. claim_goes (with_note i Tried u) more (i + 1) requests socket asked next free (omega (arith, inside)) fits goes),
    )

    pub call_goes : (u : IdView) (requests : ℕ) (asked : Asked) (next : Program) → IsFree u → AskedFits p asked → Follows next → Goes u (call requests q.slots asked next)
    call_goes u requests asked next free fits goes = λ word _. way p q u (eqb word 0) (Say asked.operation outcomes.Unopened next) (claim_id q.slots 0 requests (word - 1) asked next)
        (λ _. goes u free) (λ _. claim_goes u q.slots 0 requests (word - 1) asked next free (omega arith) fits goes)

    -- ## Retries

    decided_goes : (id : ℕ) (next : Program) → Follows next → (exit : Deciding) (v : IdView) → IsFree v → Goes v (decided id next exit)
    decided_goes id next goes (HasEnded o code) v free = goes v free
    decided_goes id next goes GoesOn v free = goes v free

    tried_goes : (requests id n : ℕ) (asked : Asked) (next : Program) → id_slot id < q.slots → n ≤ 6 → AskedFits p asked → Follows next → (exit : Unlocking) (v : IdView) → LeavesUnlock (id_slot id) exit v → Goes v (tried_again requests id n asked next exit)
    tried_goes requests id n asked next inside few fits goes (IsOpen w) v free = λ word _. way p q v (eqb word 0) (post id 1009 n next) (attempt requests asked id n (word - 1) next)
        (λ _. post_goes p q v id 1009 n next free inside (omega arith) (omega arith) (omega (arith, few)) goes)
        (λ _. let operation = fits.operation in attempt_goes v requests asked id n (word - 1) next free (omega (arith, operation, same)) inside few goes)
    tried_goes requests id n asked next inside few fits goes (HasNext w e) v l = decide_goes p q v id w e (decided id next) inside l (decided_goes id next goes)

    retry_locked_goes : (requests id n : ℕ) (next : Program) → id_slot id < q.slots → n ≤ 6 → Follows next → (exit : Locking) (v : IdView) → LeavesLock (id_slot id) exit v → Goes v (retry_locked requests id n next exit)
    retry_locked_goes requests id n next inside few goes (NotThere w) v free = goes v free
    retry_locked_goes requests id n next inside few goes (Has w) v l =
        let i : ℕ = id_slot id in let t : Token Asked = Locked l.f l.rg l.att l.c l.o l.s (Full l.c) in let has = has_one (id_slot id) t v l.tokens in (
          (inside, (t, l.c, has, refl)),
          λ asked c f. let out : IdView = with_token (id_slot id) (Locked l.f l.rg l.att l.c l.o l.s Empty) v in
              let same_call : l.c ≡ asked = f.1 l.f l.rg l.att l.o l.s l.c has in
              let now : out.tokens ≡ one (id_slot id) (Locked l.f l.rg l.att asked l.o l.s Empty) = other_one (id_slot id) t v l.tokens (Locked l.f l.rg l.att l.c l.o l.s Empty) ∙ ap (λ a. one (id_slot id) (Locked l.f l.rg l.att a l.o l.s Empty)) same_call in
              subst (λ ts. Goes (by_token ts (λ t. with_token (id_slot id) (with_hand t Empty) v) v) (Aside (PutCall (id_slot id) asked) (λ _. Round (Unlocks (id_slot id) w false) (tried_again requests id n asked next)))) (sym has)
              (puts_back out asked l.f l.rg l.att l.o l.s now f.0 l.word_is l.room),
        )
      where
        puts_back : (out : IdView) (asked : Asked) (f rg att o s : ℕ) → out.tokens ≡ one (id_slot id) (Locked f rg att asked o s Empty) → AskedFits p asked → Rattle.id_rule.specs.IdPlays.Longer f rg att o s (parts w) → att + 0 + 2 ≤ rg
            → Goes out (Aside (PutCall (id_slot id) asked) (λ _. Round (Unlocks (id_slot id) w false) (tried_again requests id n asked next)))
        puts_back out asked f rg att o s now fits longer room = let has = has_one (id_slot id) (Locked f rg att asked o s Empty) out now in (
          (inside, Rattle.std.proofs.Common.inr (f, rg, att, o, s, has), fits),
          λ _ c _. subst (λ ts. Goes (by_token ts (λ t. with_token (id_slot id) (with_hand t (Full asked)) out) out) (Round (Unlocks (id_slot id) w false) (tried_again requests id n asked next))) (sym has)
              ((inside, record { f = f; rg = rg; att = att; o = o; s = s; c = asked; tokens = other_one (id_slot id) (Locked f rg att asked o s Empty) out now (Locked f rg att asked o s (Full asked)); word_is = longer; room = room }), tried_goes requests id n asked next inside few fits goes),
        )

    pub retry_goes : (u : IdView) (requests : ℕ) (r : Retry) (next : Program) → IsFree u → FitsRetryId q r → Follows next → Goes u (retry requests r.id r.attempt next)
    retry_goes u requests r next free fits goes = ((free, fits.0, tt), retry_locked_goes requests r.id r.attempt next fits.0 fits.1 goes)

    -- ## The other operations

    error_is : (code attempt : ℕ) → 0 < code → code < 4096 → attempt < 8 → IsError (error_of code attempt)
    error_is code attempt some_ small one_of = ((λ z. omega (arith, z, some_)), omega (arith, small, one_of))

    pub expire_goes : (u : IdView) (o t : ℕ) (next : Program) → IsFree u → t < q.operations → Follows next → Goes u (expire o t next)
    expire_goes u o t next free inside goes = (
      inside,
      λ id c f. both_ways p q (eqb id 0) u (with_kept (call_index q t) false id u) (Say o outcomes.NotBegun next) (post_with id (error_of 1008 7) (λ how. posted id (error_of 1008 7) (Say o (expire_outcome how) next) how))
          (λ _. goes u free)
          (λ some_. let in_slots = f (not_equal id 0 some_) in post_with_goes p q (with_kept (call_index q t) false id u) id (error_of 1008 7) (λ how. posted id (error_of 1008 7) (Say o (expire_outcome how) next) how) free in_slots
          (error_is 1008 7 (omega arith) (omega arith) (omega arith)) (λ how v l. posted_goes p q id (error_of 1008 7) (Say o (expire_outcome how) next) in_slots goes how v l)),
    )

    pub join_goes : (u : IdView) (o t : ℕ) (next : Program) → IsFree u → t < q.operations → Follows next → Goes u (join o t next)
    join_goes u o t next free inside goes = (
      inside,
      λ id c f. both_ways p q (eqb id 0) u (with_kept (call_index q t) false id u) (Say o outcomes.NotBegun next) (Round (Joins id) (λ _. Say o outcomes.Joined next))
          (λ _. goes u free)
          (λ some_. ((free, f (not_equal id 0 some_)), λ _ v l. goes v l)),
    )
