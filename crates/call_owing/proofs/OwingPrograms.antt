-- The programs of operations: whoever runs them does what it owes.
use Rattle.std.proofs.Common.{◌≡◌, ℕ, zero, suc, ◌+◌, ◌-◌, ◌/◌, ◌%◌, ◌≤◌, inl, inr, ◌==◌, ◌&&◌, Bool, true, false, cond, eqb, eqb-true, leb, nat_lt, nat_le, List, [], Option, Some, length, drop, refl, sym, ap, ◌∙◌, subst, arith}
use Rattle.sock_words.specs.PackedWords.{socket_id_version, socket_id_slot, vref_version, vref_nref, at_word, ticket_generation, ticket_request, IDLE, UNCONNECTED, call_id, id_slot, id_first}
use Rattle.sock_words.specs.declared.outcome.Outcome.TheVariants as outcomes
use Rattle.sock_io.specs.declared.link.Put.{Put}
use Rattle.sock_io.specs.declared.link.Put.TheVariants as puts
use Rattle.sock_io.specs.declared.link.Ready.{Ready}
use Rattle.sock_io.specs.declared.link.Ready.TheVariants as asks
use Rattle.sock_model.specs.declared.chain.Heading.{Heading}
use Rattle.sock_model.specs.Entries.{ticket_of}
use Rattle.corr_core.specs.IdSlotWord.{parts, attempt_of, error_of}
use Rattle.seat_programs.specs.BufferParts.{part}
use Rattle.seat_programs.specs.sock_message.specs.Asked.{Asked, name_of, frame_of}
use Rattle.seat_programs.specs.TableSteps.{OnSlot, OnName, OnChain, OnLink, SubRef, AddRef, StoreCode, LoadLink, TakeLink, FinishLink, PutLink, FreeSlot, LoadName, FreeRequest, ReadNext, FindLink, LookWord, ReverseNext, Connect}
use Rattle.seat_programs.specs.Asides.{PutCall, StoreAt, TakeCall}
use Rattle.seat_programs.specs.LoopHeads.{First, Unlocks, Joins, Unlocking, IsOpen, HasNext, Locking, NotThere, Has}
use Rattle.seat_programs.specs.Programs.{Program, Do, Say, TakeMessage, TakeHome, PutBytes, Write, Aside, Round, LAST_VERSION, LAST_GENERATION, recycle, release, add_reference, set_failed}
use Rattle.seat_programs.specs.PostPrograms.{post, post_with, posted}
use Rattle.seat_programs.specs.Writings.{Holder, Writing, Puts, Waits, Empties, Reversing}
use Rattle.seat_programs.specs.SendAndWritePrograms.{freed as given_back, one_more, passed_telling, tell_drop, placed, dropped, put_answered, ready_answered, block, accept, write_link}
use Rattle.seat_programs.specs.CallAndRetryPrograms.{claims_from, heading_for, attempt, begin_call, claim_id, call, tried_again, retry_locked, retry, expire_outcome, expire, join}
use Rattle.call_owing.specs.Owing.{Free, Trying, Linked, Looking, Telling, Owing, with_duty, freed, with_known, KnowsOwner, CallMove, stays, tells, tells_late, links, looks}
use Rattle.call_owing.specs.Owes.{Further, LeavesUnlocks, LeavesLocks, OwesOn}
use Rattle.call_owing.proofs.PostsAndDecisionsOwed.{id_back, not_equal, was_free, same_further, then_further, free_further, way, pick, post_with_goes, posted_goes, post_goes, decided_on}

-- a seat that owes nothing and may keep retries
abbrev pub IsClear : Owing → Type 0
IsClear u = (u.duty ≡ Free) × (u.keeps ≡ true)

pub clear_on : (u v : Owing) → IsClear u → Further u v → IsClear v
clear_on u v c f = (f.duty ∙ c.0, f.keeps ∙ c.1)

pub from_freed : (u v : Owing) → u.duty ≡ Free → Further (freed u) v → Further u v
from_freed u v free f = subst (λ x. Further x v) (was_free u free) f

owner_on : (u v : Owing) (heading : Heading) → Further u v → KnowsOwner u heading → KnowsOwner v heading
owner_on u v heading f k = λ some_. ((f.knows heading.owner heading.label.attempt (k some_).0), (k some_).1)

module _ (life : ℕ → Option ℕ) where
  abbrev Goes : Owing → Program → Type 0
  Goes u x = OwesOn life u x

  abbrev Follows : Owing → Program → Type 0
  Follows u x = (v : Owing) → Further u v → OwesOn life v x

  later : (u v : Owing) (x : Program) → Further u v → Follows u x → Follows v x
  later u v x f goes w g = goes w (then_further u v w f g)

  -- ## Parts on sockets

  pub recycle_goes : (u : Owing) (i from : ℕ) (next : Bool → Program) → ((b : Bool) → Goes u (next b)) → Goes u (recycle i from next)
  recycle_goes u i from next goes = (
    tt,
    λ found _. (
      u,
      stays refl,
      way life u (eqb found from)
          (Do (OnSlot (LoadLink i (vref_version from + 1))) (λ k. Do (OnLink (TakeLink k)) (λ _. Do (OnLink (FinishLink k)) (λ _. Do (OnLink (PutLink k)) (λ _. cond (leb (vref_version from + 1) LAST_VERSION) (Do (OnSlot (FreeSlot i)) (λ _. next true)) (next true))))))
          (next false)
          (λ _. (tt, λ k _. (u, stays refl, (tt, λ _ _. (u, stays refl, (tt, λ _ _. (u, stays refl, (tt, λ _ _. (u, stays refl, way life u (leb (vref_version from + 1) LAST_VERSION) (Do (OnSlot (FreeSlot i)) (λ _. next true)) (next true) (λ _. (tt, λ _ _. (u, stays refl, goes true))) (λ _. goes true))))))))))
          (λ _. goes false),
    ),
  )

  pub release_goes : (u : Owing) (i : ℕ) (next : Bool → Program) → ((b : Bool) → Goes u (next b)) → Goes u (release i next)
  release_goes u i next goes = (tt, λ found _. (u, stays refl, way life u ((vref_version found % 2 == 1) && (vref_nref found == 1)) (recycle i (found - 1) next) (next false) (λ _. recycle_goes u i (found - 1) next goes) (λ _. goes false)))

  pub address_goes : (u : Owing) (id : ℕ) (held : Program) (gone : ℕ → Program) → Goes u held → ((found : ℕ) → Goes u (gone found)) → Goes u (add_reference id held gone)
  address_goes u id held gone goes others = (tt, λ found _. (u, stays refl, way life u (vref_version found == socket_id_version id) held (release (socket_id_slot id) (λ _. gone found)) (λ _. goes) (λ _. release_goes u (socket_id_slot id) (λ _. gone found) (λ _. others found))))

  pub set_failed_goes : (u : Owing) (id code : ℕ) (next : ℕ → Program) → ((found : ℕ) → Goes u (next found)) → Goes u (set_failed id code next)
  set_failed_goes u id code next goes = (
    tt,
    λ found _. (
      u,
      stays refl,
      way life u (vref_version found % 2 == 0)
          (Do (OnSlot (StoreCode (socket_id_slot id) (socket_id_version id) code)) (λ _. Do (OnSlot (SubRef (socket_id_slot id))) (λ _. next found))) (next found) (λ _. (tt, λ _ _. (u, stays refl, (tt, λ _ _. (u, stays refl, goes found))))) (λ _. goes found),
    ),
  )

  -- ## Writing

  freed_goes : (u : Owing) (now : ℕ) (next : Program) → Goes u next → Goes u (given_back now next)
  freed_goes u now next goes = way life u (ticket_generation now == LAST_GENERATION) next (Do (OnChain (FreeRequest (ticket_request now) (ticket_generation now))) (λ _. next)) (λ _. goes) (λ _. (tt, λ _ _. (u, stays refl, goes)))

  passed_goes : (u : Owing) (h : Holder) (now : ℕ) (told_ : Program → Program) (after : Program) → IsClear u → ((x : Program) → Follows u x → Goes u (told_ x)) → Follows u after → Goes u (passed_telling h now told_ after)
  passed_goes u h now told_ after c told goes = way life u (now == h.last) (given_back now (told_ (Write (Empties h) after)))
      (Do (OnChain (ReadNext (ticket_request now))) (λ next. given_back now (told_ (TakeMessage (ticket_request next) (λ heading bytes. Write (Puts h next heading bytes 0 false) after)))))
      (λ _. freed_goes u now (told_ (Write (Empties h) after)) (told (Write (Empties h) after) (λ v f. let d = clear_on u v c f in (d.0, d.1, tt, later u v after f goes))))
      (λ _. (
        tt,
        λ next _. (
          u,
          stays refl,
          freed_goes u now (told_ (TakeMessage (ticket_request next) (λ heading bytes. Write (Puts h next heading bytes 0 false) after)))
              (told (TakeMessage (ticket_request next) (λ heading bytes. Write (Puts h next heading bytes 0 false) after)) (λ v f. λ heading bytes w g owner. let fg = then_further u v w f g in let d = clear_on u w c fg in (d.0, d.1, owner, later u w after fg goes))),
        ),
      ))

  own_post : (u : Owing) (id e : ℕ) → u.duty ≡ Free → Rattle.call_owing.specs.Owes.PostsOwn id e u.duty
  own_post u id e free = subst (Rattle.call_owing.specs.Owes.PostsOwn id e) (sym free) tt

  tell_goes : (u : Owing) (heading : Heading) (code : ℕ) → IsClear u → KnowsOwner u heading → (x : Program) → Follows u x → Goes u (tell_drop heading code x)
  tell_goes u heading code c owner x goes = way life u (eqb heading.owner 0) x (post heading.owner (cond (eqb code 0) 1009 code) heading.label.attempt x) (λ _. goes u (same_further u))
      (λ some_. let o = owner (not_equal heading.owner 0 some_) in let few = o.1 in
      post_goes life u heading.owner (cond (eqb code 0) 1009 code) heading.label.attempt x (omega (arith, few)) c.1 (own_post u heading.owner (error_of (cond (eqb code 0) 1009 code) heading.label.attempt) c.0) o.0 (λ v f. goes v (from_freed u v c.0 f)))

  put_goes : (u : Owing) (h : Holder) (now : ℕ) (heading : Heading) (left : List ℕ) (taken : ℕ) (after : Program) → IsClear u → KnowsOwner u heading → Follows u after → (answer : Put) → Goes u (put_answered h now heading left taken after answer)
  put_goes u h now heading left taken after c owner goes (puts.Took n) = way life u (nat_le (length left) n) (placed h now heading after) (Write (Puts h now heading (drop n left) (taken + n) false) after)
      (λ _. (tt, λ _ _. (u, stays refl, passed_goes u (one_more h) now (λ x. x) after c (λ x goes. goes u (same_further u)) goes))) (λ _. (c.0, c.1, owner, goes))
  put_goes u h now heading left taken after c owner goes puts.Again = (c.0, c.1, owner, goes)
  put_goes u h now heading left taken after c owner goes puts.Failed = set_failed_goes u h.id 1009 (λ _. Write (Puts h now heading left taken false) after) (λ _. (c.0, c.1, owner, goes))

  pub block_goes : (u : Owing) (w : Writing) (after : Program) → Goes u (Write w after) → Goes u (block w after)
  block_goes u (Puts h now heading left taken asked) after g = (
    tt,
    λ found _. (
      u,
      stays refl,
      way life u (vref_version found % 2 == 0) (PutBytes h.link asked (part heading.parts left taken) (put_answered h now heading left taken after)) (dropped h now heading after)
          (λ _. put_goes u h now heading left taken after (g.0, g.1) g.2 g.3)
          (λ _. (tt, λ code _. (u, stays refl, (tt, λ _ _. (u, stays refl, passed_goes u (one_more h) now (tell_drop heading code) after (g.0, g.1) (tell_goes u heading code (g.0, g.1) g.2) g.3))))),
    ),
  )
  block_goes u (Waits h now heading left taken) after g = ready_goes
    where
      ready_goes : (answer : Ready) → Goes u (ready_answered h now heading left taken after answer)
      ready_goes asks.Now = g
      ready_goes asks.NotYet = g
      ready_goes asks.Failed = set_failed_goes u h.id 1009 (λ _. Write (Puts h now heading left taken false) after) (λ _. g)
  block_goes u (Empties h) after g = (tt, λ found _. (u, stays refl, way life u (found == h.last) after (TakeHome h.link (λ places. Write (Reversing (record h { places = places }) found found 0) after)) (λ _. g.3 u (same_further u)) (λ _. λ places. g)))
  block_goes u (Reversing h top at after) then_ g = (
    tt,
    λ found _. (
      u,
      stays refl,
      way life u (found == UNCONNECTED) (Write (Reversing h top at after) then_)
          (Do (OnChain (ReverseNext (ticket_request at) after)) (λ _. cond (found == h.last) (TakeMessage (ticket_request at) (λ heading bytes. Write (Puts (record h { last = top }) at heading bytes 0 false) then_)) (Write (Reversing h top found at) then_)))
          (λ _. g)
          (λ _. (
            tt,
            λ _ _. (
              u,
              stays refl,
              way life u (found == h.last) (TakeMessage (ticket_request at) (λ heading bytes. Write (Puts (record h { last = top }) at heading bytes 0 false) then_)) (Write (Reversing h top found at) then_)
                  (λ _. λ heading bytes v f owner. let d = clear_on u v (g.0, g.1) f in (d.0, d.1, owner, later u v then_ f g.3)) (λ _. g),
            ),
          )),
    ),
  )

  -- ## Attempts

  write_goes : (u : Owing) (id r own : ℕ) (after : Program) → IsClear u → Follows u after → Goes u (write_link id r own after)
  write_goes u id r own after c goes = (
    tt,
    λ k _. (
      u,
      stays refl,
      λ places. λ heading bytes v f owner. let h : Holder = record { id = id; link = k; last = own; places = places } in let d = clear_on u v c f in (
        tt,
        λ found _. (
          v,
          stays refl,
          way life v (vref_version found % 2 == 0) (PutBytes k false (part heading.parts bytes 0) (put_answered h own heading bytes 0 after)) (Write (Puts h own heading bytes 0 false) after)
              (λ _. put_goes v h own heading bytes 0 after d owner (later u v after f goes)) (λ _. (d.0, d.1, owner, later u v after f goes)),
        ),
      ),
    ),
  )

  pub accept_goes : (u : Owing) (id r g : ℕ) (heading : Heading) (bytes : List ℕ) (after : Program) → IsClear u → KnowsOwner u heading → Follows u after → Goes u (accept id r g heading bytes after)
  accept_goes u id r g heading bytes after c owner goes = (
    owner,
    λ _ _. (
      u,
      stays refl,
      (
        tt,
        λ _ _. (
          u,
          stays refl,
          (
            tt,
            λ found _. (
              u,
              stays refl,
              way life u (nat_lt found IDLE) (Do (OnChain (Connect r found)) (λ _. after)) (write_link id r (ticket_of r g) after)
                  (λ _. (tt, λ _ _. (u, stays refl, goes u (same_further u)))) (λ _. write_goes u id r (ticket_of r g) after c goes),
            ),
          ),
        ),
      ),
    ),
  )

  pub claims_goes : (u : Owing) (more r id : ℕ) (heading : Heading) (bytes : List ℕ) (full accepted : Program) → IsClear u → KnowsOwner u heading → Goes u full → Follows u accepted → Goes u (claims_from more r id heading bytes full accepted)
  claims_goes u zero r id heading bytes full accepted c owner none_ goes = none_
  claims_goes u (suc more) r id heading bytes full accepted c owner none_ goes = (
    tt,
    λ found _. (
      u,
      stays refl,
      way life u (found % 2 == 0) (accept id r (found / 2) heading bytes accepted) (claims_from more (r + 1) id heading bytes full accepted)
          (λ _. accept_goes u id r (found / 2) heading bytes accepted c owner goes) (λ _. claims_goes u more (r + 1) id heading bytes full accepted c owner none_ goes),
    ),
  )

  module _ (u : Owing) (requests : ℕ) (asked : Asked) (id n socket : ℕ) (next : Program) (is : u.duty ≡ Trying id n) (keeps : u.keeps ≡ true) (few : n ≤ 6) (goes : (v : Owing) → Further (freed u) v → OwesOn life v next) where
    -- an error of the attempt is posted, and a reference given back
    abbrev back : Program
    back = release (socket_id_slot socket) (λ _. next)

    back_goes : (v : Owing) → Further (freed u) v → OwesOn life v (release (socket_id_slot socket) (λ _. next))
    back_goes v f = release_goes v (socket_id_slot socket) (λ _. next) (λ _. goes v f)

    abbrev given_up : Owing
    given_up = with_known id n (with_duty (Telling id n) u)

    own_telling : (c : ℕ) → Rattle.call_owing.specs.Owes.PostsOwn id (error_of c n) (Telling id n)
    own_telling c = (refl, (let m : error_of c n % 8 ≡ n = omega (arith, few) in m))

    gives_up : (c : ℕ) → OwesOn life (with_known id n (with_duty (Telling id n) u)) (post id c n next)
    gives_up c = post_goes life (with_known id n (with_duty (Telling id n) u)) id c n next (omega (arith, few)) keeps (own_telling c) (inl (refl, refl))
        (λ v f. goes v (then_further (freed u) (freed (with_known id n (with_duty (Telling id n) u))) v (record { duty = refl; knows = λ i m a. inr a; keeps = refl; link = refl; left = refl; dead = refl }) f))

    abbrev looking : ℕ → Owing
    looking k = with_known id n (with_duty (Looking id n k asked.operation) (with_duty (Linked id n k) u))

    by_freed : (k : ℕ) → Further (freed u) (freed (looking k))
    by_freed k = record { duty = refl; knows = λ i m a. inr a; keeps = refl; link = refl; left = refl; dead = refl }

    looks_goes : (k : ℕ) → life k ≡ Some socket → OwesOn life (looking k) (Do (OnSlot (LookWord socket)) (λ found. cond (eqb (vref_version found % 2) 0)
        (claims_from requests 0 socket (heading_for asked id n) (frame_of asked id n) (post id 3001 n (release (socket_id_slot socket) (λ _. next))) (release (socket_id_slot socket) (λ _. next))) (post id 1009 n (release (socket_id_slot socket) (λ _. next)))))
    looks_goes k has = (
      tt,
      λ found _. pick life (CallMove life (OnSlot (LookWord socket)) found (looking k)) (eqb (vref_version found % 2) 0)
          (claims_from requests 0 socket (heading_for asked id n) (frame_of asked id n) (post id 3001 n (release (socket_id_slot socket) (λ _. next))) (release (socket_id_slot socket) (λ _. next))) (post id 1009 n (release (socket_id_slot socket) (λ _. next)))
          (λ even. (
            freed (looking k),
            looks id n k asked.operation socket refl has refl (eqb-true (vref_version found % 2) 0 even) refl,
            claims_goes (freed (looking k)) requests 0 socket (heading_for asked id n) (frame_of asked id n) (post id 3001 n (release (socket_id_slot socket) (λ _. next))) (release (socket_id_slot socket) (λ _. next)) (refl, keeps) (λ _. (inl (refl, refl), few))
                (post_goes life (freed (looking k)) id 3001 n (release (socket_id_slot socket) (λ _. next)) (omega (arith, few)) keeps tt (inl (refl, refl)) (λ v f. back_goes v (then_further (freed u) (freed (looking k)) v (by_freed k) f)))
                (λ v f. back_goes v (then_further (freed u) (freed (looking k)) v (by_freed k) f)),
          ))
          (λ _. (
            with_duty (Telling id n) (looking k),
            tells_late id n k asked.operation refl refl,
            post_goes life (with_duty (Telling id n) (looking k)) id 1009 n (release (socket_id_slot socket) (λ _. next)) (omega (arith, few)) keeps (own_telling 1009) (inl (refl, refl)) (λ v f. back_goes v (then_further (freed u) (freed (looking k)) v (by_freed k) f)),
          )),
    )

    pub attempt_goes : OwesOn life u (attempt requests asked id n socket next)
    attempt_goes = (
      tt,
      λ found _. pick life (CallMove life (OnSlot (AddRef socket)) found u) (eqb (vref_version found) (socket_id_version socket))
          (Do (OnSlot (FindLink (socket_id_slot socket) (socket_id_version socket))) (λ k. Aside (StoreAt asked.operation (at_word (id_first id) (id_slot id) k n)) (λ _. Do (OnSlot (LookWord socket)) (λ found. cond (eqb (vref_version found % 2) 0)
          (claims_from requests 0 socket (heading_for asked id n) (frame_of asked id n) (post id 3001 n (release (socket_id_slot socket) (λ _. next))) (release (socket_id_slot socket) (λ _. next))) (post id 1009 n (release (socket_id_slot socket) (λ _. next)))))))
          (release (socket_id_slot socket) (λ _. post id 1009 n next))
          (λ _. (
            u,
            stays refl,
            (
              tt,
              λ k f. (
                with_duty (Linked id n k) u,
                links id n (socket_id_slot socket) (socket_id_version socket) refl is refl,
                (tt, λ _ _. (looking k, (id, n, k, refl, refl, f.0, few, refl), looks_goes k (f.1 id n socket is refl refl))),
              ),
            ),
          ))
          (λ _. (given_up, tells id n is refl, release_goes given_up (socket_id_slot socket) (λ _. post id 1009 n next) (λ _. gives_up 1009))),
    )

  -- ## Calls

  begin_goes : (u : Owing) (requests socket i : ℕ) (asked : Asked) (next : Program) → IsClear u → Follows u next → Goes u (begin_call requests socket i asked next)
  begin_goes u requests socket i asked next c goes = (
    tt,
    λ _ _. (
      u,
      refl,
      (
        c.0,
        λ found _. let id : ℕ = call_id i (parts found).first in (
          with_duty (Trying (call_id i (parts found).first) 0) u,
          refl,
          (tt, λ _ _. (with_duty (Trying (call_id i (parts found).first) 0) u, refl, attempt_goes (with_duty (Trying (call_id i (parts found).first) 0) u) requests asked (call_id i (parts found).first) 0 socket next refl c.1 (omega arith) (λ v f. goes v (from_freed u v c.0 f)))),
        ),
      ),
    ),
  )

  claim_goes : (u : Owing) (more i requests socket : ℕ) (asked : Asked) (next : Program) → IsClear u → Follows u next → Goes u (claim_id more i requests socket asked next)
  claim_goes u zero i requests socket asked next c goes = goes u (same_further u)
  claim_goes u (suc more) i requests socket asked next c goes = (
    tt,
    λ found _. (
      u,
      refl,
      way life u (eqb found 0) (begin_call requests socket i asked next) (claim_id more (i + 1) requests socket asked next)
          (λ _. begin_goes u requests socket i asked next c goes) (λ _. claim_goes u more (i + 1) requests socket asked next c goes),
    ),
  )

  pub call_goes : (u : Owing) (requests ids : ℕ) (asked : Asked) (next : Program) → IsClear u → Follows u next → Goes u (call requests ids asked next)
  call_goes u requests ids asked next c goes = (
    tt,
    λ word _. (
      u,
      stays refl,
      way life u (eqb word 0) (Say asked.operation outcomes.Unopened next) (claim_id ids 0 requests (word - 1) asked next)
          (λ _. goes u (same_further u)) (λ _. claim_goes u ids 0 requests (word - 1) asked next c goes),
    ),
  )

  -- ## Retries

  module _ (u : Owing) (requests id n : ℕ) (next : Program) (is : u.duty ≡ Trying id n) (keeps : u.keeps ≡ true) (few : n ≤ 6) (goes : (v : Owing) → Further (freed u) v → OwesOn life v next) where
    tried_goes : (asked : Asked) (exit : Unlocking) (v : Owing) → LeavesUnlocks life id n exit u v → OwesOn life v (tried_again requests id n asked next exit)
    tried_goes asked (IsOpen w) v l = (
      tt,
      λ word _. pick life (CallMove life (OnName (LoadName (name_of asked n))) word v) (eqb word 0) (post id 1009 n next) (attempt requests asked id n (word - 1) next)
          (λ _. (with_known id n (with_duty (Telling id n) v), tells id n l.0.duty refl, gives_up v requests asked id n 0 next l.0.duty (l.0.keeps ∙ keeps) few (λ x f. goes x (then_further (freed u) (freed v) x (free_further (with_duty (Trying id n) u) v l.0) f)) 1009))
          (λ _. (v, stays refl, attempt_goes v requests asked id n (word - 1) next l.0.duty (l.0.keeps ∙ keeps) few (λ x f. goes x (then_further (freed u) (freed v) x (free_further (with_duty (Trying id n) u) v l.0) f)))),
    )
    tried_goes asked (HasNext w e) v l = decided_on life v id w e next (subst (Rattle.call_owing.specs.Owes.MayDecide id w e) (sym l.0.duty) (refl, l.1)) (inl l.1, Rattle.call_owing.proofs.PostsAndDecisionsOwed.whole_fresh (eqb (attempt_of e) 7) (eqb (attempt_of e) (parts w).attempt) (Rattle.std.proofs.Common.eq-eqb (attempt_of e) 7 l.1), l.2) (inl (l.0.keeps ∙ keeps))
        (λ x f. goes x (then_further (freed u) (freed v) x (free_further (with_duty (Trying id n) u) v l.0) f))

    locked_goes : (exit : Locking) (v : Owing) → LeavesLocks life (id_slot id) exit u v → OwesOn life v (retry_locked requests id n next exit)
    locked_goes (NotThere w) v l = subst (λ x. OwesOn life x next) (sym l) (goes (freed u) (same_further (freed u)))
    locked_goes (Has w) v l = subst (λ x. OwesOn life x (Aside (TakeCall (id_slot id)) (λ asked. Aside (PutCall (id_slot id) asked) (λ _. Round (Unlocks (id_slot id) w false) (tried_again requests id n asked next))))) (sym l.0) (
      tt,
      λ asked _. (
        u,
        refl,
        (
          tt,
          λ _ _. (
            u,
            refl,
            (
              is ∙ ap (λ x. Trying x n) (sym here) ∙ ap (λ m. Trying (call_id (id_slot id) (parts w).first) m) (sym range.1),
              λ exit x e. tried_goes asked exit x (subst (λ m. LeavesUnlocks life id m exit u x) (plus_none (parts w).attempt ∙ range.1) (subst (λ y. LeavesUnlocks life y ((parts w).attempt + 0) exit u x) here e)),
            ),
          ),
        ),
      ),
    )
      where
        range : ((parts w).first ≡ id_first id) × ((parts w).attempt ≡ n)
        range = subst (Rattle.call_owing.specs.Owes.FoundRange (id_slot id) w) is l.1

        here : call_id (id_slot id) (parts w).first ≡ id
        here = ap (call_id (id_slot id)) range.0 ∙ id_back id

        plus_none : (m : ℕ) → m + 0 ≡ m
        plus_none m = omega arith

    pub retry_goes : OwesOn life u (retry requests id n next)
    retry_goes = ((subst (Rattle.call_owing.specs.Owes.MaySeek (id_slot id) (First (id_first id))) (sym is) (refl, refl), tt), locked_goes)

  -- ## The other operations on calls

  pub expire_goes : (u : Owing) (o t : ℕ) (next : Program) → IsClear u → Follows u next → Goes u (expire o t next)
  expire_goes u o t next c goes = (
    tt,
    λ id _. (
      u,
      refl,
      way life u (eqb id 0) (Say o outcomes.NotBegun next) (post_with id (error_of 1008 7) (λ how. posted id (error_of 1008 7) (Say o (expire_outcome how) next) how))
          (λ _. goes u (same_further u))
          (λ _. post_with_goes life u id (error_of 1008 7) (λ how. posted id (error_of 1008 7) (Say o (expire_outcome how) next) how) (own_post u id (error_of 1008 7) c.0) (inl refl)
          (λ how v l. posted_goes life u id (error_of 1008 7) (Say o (expire_outcome how) next) c.1 (inl refl) (λ x f. goes x (from_freed u x c.0 f)) how v l)),
    ),
  )

  pub join_goes : (u : Owing) (o t : ℕ) (next : Program) → (u.duty ≡ Free) × (u.keeps ≡ false) → u.left ≡ [] → Follows u next → Goes u (join o t next)
  join_goes u o t next idle left goes = (
    tt,
    λ id _. (
      u,
      refl,
      way life u (eqb id 0) (Say o outcomes.NotBegun next) (Round (Joins id) (λ _. Say o outcomes.Joined next))
          (λ _. goes u (same_further u)) (λ _. ((idle, left), λ _ v l. subst (λ x. OwesOn life x next) (sym l) (goes u (same_further u)))),
    ),
  )
