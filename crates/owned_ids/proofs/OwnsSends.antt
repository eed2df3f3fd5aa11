-- Sockets and messages store nothing of a call's own: what holds behind a message that is sent, or behind the loops of whoever writes a link, holds before it.
use Rattle.std.proofs.Common.{ℕ, zero, suc, ◌+◌, ◌-◌, ◌/◌, ◌%◌, ◌==◌, ◌&&◌, nat_lt, nat_le, Bool, true, false, cond, List, length, drop}
use Rattle.sock_words.specs.PackedWords.{socket_id_version, socket_id_slot, vref_version, vref_nref, ticket_request, ticket_generation, IDLE, UNCONNECTED, NO_SOCKET}
use Rattle.sock_words.specs.declared.outcome.Outcome.TheVariants.{Unopened, Gone, Full, Held, Freed, Kept}
use Rattle.sock_io.specs.declared.link.Put.{Put}
use Rattle.sock_io.specs.declared.link.Put.TheVariants as puts
use Rattle.sock_io.specs.declared.link.Ready.{Ready}
use Rattle.sock_io.specs.declared.link.Ready.TheVariants as asks
use Rattle.sock_model.specs.declared.chain.Heading.{Heading}
use Rattle.sock_model.specs.Entries.{ticket_of}
use Rattle.call_owing.specs.Below.sock_steps.proofs.SumsAsMarksChange.{either_way}
use Rattle.seat_programs.specs.TableSteps.{OnSlot, OnName, OnChain, OnPlace, OnLink, OnMessage, AddRef, SubRef, SetOdd, Recycle, FreeSlot, LoadLink, StoreCode, LoadName, LoadOpen, TakeLink, FinishLink, PutLink, LookWord, FindLink, LoadCode, ClaimRequest, PutMessage, Unconnect, SwapHead, Connect, EmptyHead, ReadNext, ReverseNext, FreeRequest, StorePlace, DropPlace}
use Rattle.seat_programs.specs.Writings.{Holder, Writing, Puts, Waits, Empties, Reversing}
use Rattle.seat_programs.specs.Programs.{Program, Sent, TakeMessage, Write, LAST_VERSION, LAST_GENERATION, recycle, release, add_reference, find_socket, set_failed, fail, fail_outcome, hold, drop_held, end_open}
use Rattle.seat_programs.specs.SendAndWritePrograms.{freed, one_more, passed_telling, tell_drop, placed, dropped, link_failed, put_answered, ready_answered, block, first_put, write_link, heading_of, accept, claim_from, start, send}
use Rattle.owned_ids.proofs.OwnsLoops.{Later, step, say, sent, message, home, puts_home, put, ask, write, post_goes}

module _ (has : ℕ → ℕ) (mine : ℕ → Bool) where
  abbrev G : Program → Type 0
  G = Later has mine

  pub recycle_goes : (i from : ℕ) (next : Bool → Program) → ((b : Bool) → G (next b)) → G (recycle i from next)
  recycle_goes i from next after = step has mine (OnSlot (Recycle i from)) _ (λ found. either_way (found == from) _ _ G
      (step has mine (OnSlot (LoadLink i (vref_version from + 1))) _ (λ k. step has mine (OnLink (TakeLink k)) _ (λ _. step has mine (OnLink (FinishLink k)) _ (λ _. step has mine (OnLink (PutLink k)) _ (λ _.
      either_way (nat_le (vref_version from + 1) LAST_VERSION) _ _ G (step has mine (OnSlot (FreeSlot i)) _ (λ _. after true)) (after true))))))
      (after false))

  pub release_goes : (i : ℕ) (next : Bool → Program) → ((b : Bool) → G (next b)) → G (release i next)
  release_goes i next after = step has mine (OnSlot (SubRef i)) _ (λ found. either_way ((vref_version found % 2 == 1) && (vref_nref found == 1)) _ _ G (recycle_goes i (found - 1) next after) (after false))

  pub address_goes : (id : ℕ) (held : Program) (gone : ℕ → Program) → G held → ((found : ℕ) → G (gone found)) → G (add_reference id held gone)
  address_goes id held gone h after = step has mine (OnSlot (AddRef id)) _ (λ found. either_way (vref_version found == socket_id_version id) _ _ G h (release_goes (socket_id_slot id) (λ _. gone found) (λ _. after found)))

  pub reach_goes : (name : ℕ) (unopened : Program) (held gone : ℕ → Program) → G unopened → ((id : ℕ) → G (held id)) → ((found : ℕ) → G (gone found)) → G (find_socket name unopened held gone)
  reach_goes name unopened held gone u h after = step has mine (OnName (LoadName name)) _ (λ word. either_way (word == 0) _ _ G u (address_goes (word - 1) (held (word - 1)) gone (h (word - 1)) after))

  pub set_failed_goes : (id code : ℕ) (next : ℕ → Program) → ((found : ℕ) → G (next found)) → G (set_failed id code next)
  set_failed_goes id code next after = step has mine (OnSlot (SetOdd (socket_id_slot id))) _ (λ found. either_way (vref_version found % 2 == 0) _ _ G
      (step has mine (OnSlot (StoreCode (socket_id_slot id) (socket_id_version id) code)) _ (λ _. step has mine (OnSlot (SubRef (socket_id_slot id))) _ (λ _. after found))) (after found))

  pub fail_goes : (o name code : ℕ) (next : Program) → G next → G (fail o name code next)
  fail_goes o name code next after = reach_goes name _ _ _ (say has mine o _ next after)
      (λ id. set_failed_goes id code _ (λ found. release_goes (socket_id_slot id) _ (λ _. say has mine o (fail_outcome found) next after))) (λ found. say has mine o _ next after)

  pub hold_goes : (o name : ℕ) (held : ℕ → Program) (next : Program) → ((id : ℕ) → G (held id)) → G next → G (hold o name held next)
  hold_goes o name held next h after = reach_goes name _ _ _ (say has mine o _ next after) (λ id. say has mine o Held (held id) (h id)) (λ found. say has mine o (Gone (record { 0 = found })) next after)

  pub drop_goes : (o id : ℕ) (next : Program) → G next → G (drop_held o id next)
  drop_goes o id next after = release_goes (socket_id_slot id) _ (λ freed. say has mine o (cond freed Freed Kept) next after)

  -- one round of whoever writes a link
  freed_goes : (now : ℕ) (next : Program) → G next → G (freed now next)
  freed_goes now next after = either_way (ticket_generation now == LAST_GENERATION) _ _ G after (step has mine (OnChain (FreeRequest (ticket_request now) (ticket_generation now))) _ (λ _. after))

  passed_goes : (h : Holder) (now : ℕ) (tells : Program → Program) → ((x : Program) → G x → G (tells x)) → (next : Program) → G next → G (passed_telling h now tells next)
  passed_goes h now tells told next after = either_way (now == h.last) _ _ G (freed_goes now (tells (Write (Empties h) next)) (told (Write (Empties h) next) (write has mine (Empties h) next after)))
      (step has mine (OnChain (ReadNext (ticket_request now))) _ (λ found. freed_goes now (tells (TakeMessage (ticket_request found) (λ heading bytes. Write (Puts h found heading bytes 0 false) next)))
      (told (TakeMessage (ticket_request found) (λ heading bytes. Write (Puts h found heading bytes 0 false) next)) (message has mine (ticket_request found) _ (λ heading bytes. write has mine (Puts h found heading bytes 0 false) next after)))))

  tell_goes : (heading : Heading) (c : ℕ) (next : Program) → G next → G (tell_drop heading c next)
  tell_goes heading c next after = either_way (heading.owner == 0) _ _ G after (post_goes has mine heading.owner (cond (c == 0) 1009 c) heading.label.attempt next after)

  placed_goes : (h : Holder) (now : ℕ) (heading : Heading) (next : Program) → G next → G (placed h now heading next)
  placed_goes h now heading next after = step has mine (OnPlace (StorePlace heading.label.place h.link h.places)) _ (λ _. passed_goes (one_more h) now (λ x. x) (λ x y. y) next after)

  dropped_goes : (h : Holder) (now : ℕ) (heading : Heading) (next : Program) → G next → G (dropped h now heading next)
  dropped_goes h now heading next after = step has mine (OnSlot (LoadCode (socket_id_slot h.id) (socket_id_version h.id))) _ (λ c. step has mine (OnPlace (DropPlace heading.label.place h.link h.places)) _ (λ _. passed_goes (one_more h) now (tell_drop heading c) (λ x y. tell_goes heading c x y) next after))

  link_failed_goes : (h : Holder) (next : Program) → G next → G (link_failed h next)
  link_failed_goes h next after = set_failed_goes h.id 1009 (λ _. next) (λ _. after)

  put_goes : (h : Holder) (now : ℕ) (heading : Heading) (left : List ℕ) (taken : ℕ) (next : Program) → G next → (answer : Put) → G (put_answered h now heading left taken next answer)
  put_goes h now heading left taken next after (puts.Took n) = either_way (nat_le (length left) n) _ _ G (placed_goes h now heading next after) (write has mine (Puts h now heading (drop n left) (taken + n) false) next after)
  put_goes h now heading left taken next after puts.Again = write has mine (Waits h now heading left taken) next after
  put_goes h now heading left taken next after puts.Failed = link_failed_goes h _ (write has mine (Puts h now heading left taken false) next after)

  ready_goes : (h : Holder) (now : ℕ) (heading : Heading) (left : List ℕ) (taken : ℕ) (next : Program) → G next → (answer : Ready) → G (ready_answered h now heading left taken next answer)
  ready_goes h now heading left taken next after asks.Now = write has mine (Puts h now heading left taken true) next after
  ready_goes h now heading left taken next after asks.NotYet = write has mine (Waits h now heading left taken) next after
  ready_goes h now heading left taken next after asks.Failed = link_failed_goes h _ (write has mine (Puts h now heading left taken false) next after)

  pub block_goes : (w : Writing) (next : Program) → G next → G (block w next)
  block_goes (Puts h now heading left taken asked) next after = step has mine (OnSlot (LookWord h.id)) _ (λ found. either_way (vref_version found % 2 == 0) _ _ G
      (put has mine h.link asked _ (put_answered h now heading left taken next) (put_goes h now heading left taken next after)) (dropped_goes h now heading next after))
  block_goes (Waits h now heading left taken) next after = ask has mine h.link (ready_answered h now heading left taken next) (ready_goes h now heading left taken next after)
  block_goes (Empties h) next after = puts_home has mine h.link h.places _ (step has mine (OnChain (EmptyHead (socket_id_slot h.id) h.last)) _ (λ found. either_way (found == h.last) _ _ G after
      (home has mine h.link _ (λ places. write has mine (Reversing (record h { places = places }) found found 0) next after))))
  block_goes (Reversing h top at after_) next after = step has mine (OnChain (ReadNext (ticket_request at))) _ (λ found. either_way (found == UNCONNECTED) _ _ G (write has mine (Reversing h top at after_) next after)
      (step has mine (OnChain (ReverseNext (ticket_request at) after_)) _ (λ _. either_way (found == h.last) _ _ G
      (message has mine (ticket_request at) _ (λ heading bytes. write has mine (Puts (record h { last = top }) at heading bytes 0 false) next after)) (write has mine (Reversing h top found at) next after))))

  -- a message that is sent
  pub first_put_goes : (h : Holder) (now : ℕ) (heading : Heading) (bytes : List ℕ) (next : Program) → G next → G (first_put h now heading bytes next)
  first_put_goes h now heading bytes next after = step has mine (OnSlot (LookWord h.id)) _ (λ found. either_way (vref_version found % 2 == 0) _ _ G
      (put has mine h.link false _ (put_answered h now heading bytes 0 next) (put_goes h now heading bytes 0 next after)) (write has mine (Puts h now heading bytes 0 false) next after))

  pub write_link_goes : (id q own : ℕ) (next : Program) → G next → G (write_link id q own next)
  write_link_goes id q own next after = step has mine (OnSlot (FindLink (socket_id_slot id) (socket_id_version id))) _ (λ k. home has mine k _ (λ places. message has mine q _ (λ heading bytes.
      first_put_goes (record { id = id; link = k; last = own; places = places }) own heading bytes next after)))

  pub accept_goes : (id q n : ℕ) (heading : Heading) (bytes : List ℕ) (next : Program) → G next → G (accept id q n heading bytes next)
  accept_goes id q n heading bytes next after = step has mine (OnMessage (PutMessage q heading bytes)) _ (λ _. step has mine (OnChain (Unconnect q)) _ (λ _. step has mine (OnChain (SwapHead (socket_id_slot id) (ticket_of q n))) _ (λ found.
      either_way (nat_lt found IDLE) _ _ G (step has mine (OnChain (Connect q found)) _ (λ _. after)) (write_link_goes id q (ticket_of q n) next after))))

  claim_goes : (more q o id : ℕ) (bytes : List ℕ) (next : Program) → G next → G (claim_from more q o id bytes next)
  claim_goes zero q o id bytes next after = release_goes (socket_id_slot id) _ (λ _. say has mine o Full next after)
  claim_goes (suc more) q o id bytes next after = step has mine (OnChain (ClaimRequest id q)) _ (λ found. either_way (found % 2 == 0) _ _ G
      (accept_goes id q (found / 2) (heading_of o) bytes _ (release_goes (socket_id_slot id) (λ _. Sent o next) (λ _. sent has mine o next after))) (claim_goes more (q + 1) o id bytes next after))

  start_goes : (requests o id : ℕ) (bytes : List ℕ) (next : Program) → G next → G (start requests o id bytes next)
  start_goes requests o id bytes next after = step has mine (OnSlot (LookWord id)) _ (λ found. either_way (vref_version found % 2 == 0) _ _ G (claim_goes requests 0 o id bytes next after)
      (release_goes (socket_id_slot id) _ (λ _. say has mine o (Gone (record { 0 = found })) next after)))

  pub send_goes : (requests o name : ℕ) (bytes : List ℕ) (next : Program) → G next → G (send requests o name bytes next)
  send_goes requests o name bytes next after = reach_goes name _ _ _ (say has mine o Unopened next after) (λ id. start_goes requests o id bytes next after) (λ found. say has mine o (Gone (record { 0 = found })) next after)

  -- of an ending, what follows the load of the word
  pub ended_goes : (word : ℕ) (next : Program) → G next → G (cond (word == 0) next (cond (word == NO_SOCKET) next (add_reference (word - 1) (set_failed (word - 1) 1014 (λ _. release (socket_id_slot (word - 1)) (λ _. next))) (λ _. next))))
  ended_goes word next after = either_way (word == 0) _ _ G after (either_way (word == NO_SOCKET) _ _ G after
      (address_goes (word - 1) _ _ (set_failed_goes (word - 1) 1014 _ (λ _. release_goes (socket_id_slot (word - 1)) _ (λ _. after))) (λ _. after)))

  pub end_goes : (o : ℕ) (next : Program) → G next → G (end_open o next)
  end_goes o next after = step has mine (OnName (LoadOpen o)) _ (λ word. ended_goes word next after)
