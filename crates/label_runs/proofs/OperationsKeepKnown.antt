-- The programs of clients, readers and the ending where something is known of the seat: each part keeps it but the attempts of calls, of which it has to be said.
use Rattle.std.proofs.Common.{◌≡◌, ℕ, zero, suc, ◌+◌, ◌-◌, ◌/◌, ◌%◌, ◌==◌, ◌&&◌, Bool, true, false, cond, eqb, leb, nat_lt, nat_le, List, [], ◌∷◌, ◌++◌, Option, Some, None, length, drop, refl}
use Rattle.std.specs.List.{AllByRecursion}
use Rattle.brpc_model.specs.Frame.{Frame}
use Rattle.sock_words.specs.PackedWords.{socket_id_slot, socket_id_version, vref_version, vref_nref, at_word_first, at_word_slot, at_word_link, at_word_attempt, ticket_generation, ticket_request, IDLE, UNCONNECTED, call_id, id_first, NO_SOCKET}
use Rattle.sock_words.specs.declared.outcome.Outcome.TheVariants as outcomes
use Rattle.sock_io.specs.declared.link.Put.{Put}
use Rattle.sock_io.specs.declared.link.Put.TheVariants as puts
use Rattle.sock_io.specs.declared.link.Ready.{Ready}
use Rattle.sock_io.specs.declared.link.Ready.TheVariants as asks
use Rattle.seat_programs.specs.sock_message.specs.Asked.{Asked}
use Rattle.sock_model.specs.declared.chain.Heading.{Heading}
use Rattle.sock_model.specs.Entries.{ticket_of}
use Rattle.corr_core.specs.IdSlotWord.{parts, error_of}
use Rattle.seat_programs.specs.declared.task.Op.{Op}
use Rattle.seat_programs.specs.declared.task.Op.TheVariants as ops
use Rattle.seat_programs.specs.declared.task.Sizes.{Sizes}
use Rattle.seat_programs.specs.declared.task.Task.{Task}
use Rattle.seat_programs.specs.Asides.{LoadCall, LoadAt}
use Rattle.seat_programs.specs.CallAndRetryPrograms.{call, expire_outcome, expire, join}
use Rattle.seat_programs.specs.TableSteps.{OnSlot, OnName, OnChain, OnPlace, OnLink, OnMessage, SubRef, AddRef, StoreCode, LoadLink, TakeLink, FinishLink, PutLink, FreeSlot, LoadName, FreeRequest, ReadNext, FindLink, LookWord, ReverseNext, Connect, Recycle, SetOdd, StorePlace, DropPlace, LoadCode, EmptyHead, PutMessage, Unconnect, SwapHead, StoreOpen, ClaimSlot, StoreLink, ClearCode, ResetHead, CreateLife, StoreName, LoadOpen}
use Rattle.seat_programs.specs.ClientProgram.{HeldLife, held_under, without_name, give_back, drop_of, operation, client_from, ending_of}
use Rattle.seat_programs.specs.LoopHeads.{Posts, Joins, Opens, Reads, Discards, Posting, HasLocked, Locking, Ended}
use Rattle.seat_programs.specs.BufferParts.{part}
use Rattle.seat_programs.specs.PostPrograms.{post_with, posted, post, decided}
use Rattle.seat_programs.specs.Programs.{Program, Do, Say, Sent, Rest, TakeMessage, TakeHome, PutHome, PutBytes, AskReady, Write, Round, Retries, LAST_VERSION, LAST_GENERATION, recycle, release, add_reference, find_socket, set_failed, make_socket, open_from, fail_outcome, fail}
use Rattle.seat_programs.specs.ReaderProgram.{kept_for, ends_with, posted_last, post_each, thrown_away, read, reader, LIMIT}
use Rattle.seat_programs.specs.SendAndWritePrograms.{freed as given_back, one_more, passed_telling, tell_drop, placed, dropped, put_answered, ready_answered, block, first_put, accept, write_link, heading_of, claim_from, start, send}
use Rattle.seat_programs.specs.Writings.{Holder, Writing, Puts, Waits, Empties, Reversing}
use Rattle.label_runs.specs.AttemptLabelsLeft.{LeavesLabel}
use Rattle.label_runs.proofs.LoopsOfKnownSeats.{Tracks, way, gives_up, post_with_goes, posted_goes, post_goes, decide_goes, decided_goes, answer_goes}

-- what an operation calls is one of these
abbrev pub OpCalls : (Asked → Type 0) → Op → Type 0
OpCalls is_call (ops.Call asked) = is_call asked
OpCalls is_call other = Unit {0}

module _ {K : Type 0} {lost : K} {unlocked_behind : ℕ → ℕ → Bool → K → K} {locked_behind : Locking → K → K} {is_call : Asked → Type 0} {G : K → Program → Type 0} (g : Tracks lost unlocked_behind locked_behind is_call G) where
  -- ## Parts on sockets

  module _ (t : K) where
    recycle_goes : (i from : ℕ) (next : Bool → Program) → ((b : Bool) → G t (next b)) → G t (recycle i from next)
    recycle_goes i from next goes = g.step t (OnSlot (Recycle i from)) _ refl (λ found.
        way g t (eqb found from)
        (Do (OnSlot (LoadLink i (vref_version from + 1))) (λ k. Do (OnLink (TakeLink k)) (λ _. Do (OnLink (FinishLink k)) (λ _. Do (OnLink (PutLink k)) (λ _. cond (leb (vref_version from + 1) LAST_VERSION) (Do (OnSlot (FreeSlot i)) (λ _. next true)) (next true))))))
        (next false)
        (λ _. g.step t (OnSlot (LoadLink i (vref_version from + 1))) _ refl (λ k. g.step t (OnLink (TakeLink k)) _ refl (λ _. g.step t (OnLink (FinishLink k)) _ refl (λ _. g.step t (OnLink (PutLink k)) _ refl (λ _.
        way g t (leb (vref_version from + 1) LAST_VERSION) (Do (OnSlot (FreeSlot i)) (λ _. next true)) (next true) (λ _. g.step t (OnSlot (FreeSlot i)) _ refl (λ _. goes true)) (λ _. goes true))))))
        (λ _. goes false))

    pub release_goes : (i : ℕ) (next : Bool → Program) → ((b : Bool) → G t (next b)) → G t (release i next)
    release_goes i next goes = g.step t (OnSlot (SubRef i)) _ refl (λ found. way g t ((vref_version found % 2 == 1) && (vref_nref found == 1)) (recycle i (found - 1) next) (next false) (λ _. recycle_goes i (found - 1) next goes) (λ _. goes false))

    pub address_goes : (id : ℕ) (held : Program) (gone : ℕ → Program) → G t held → ((found : ℕ) → G t (gone found)) → G t (add_reference id held gone)
    address_goes id held gone goes others = g.step t (OnSlot (AddRef id)) _ refl (λ found. way g t (vref_version found == socket_id_version id) held (release (socket_id_slot id) (λ _. gone found)) (λ _. goes) (λ _. release_goes (socket_id_slot id) (λ _. gone found) (λ _. others found)))

    set_failed_goes : (id code : ℕ) (next : ℕ → Program) → ((found : ℕ) → G t (next found)) → G t (set_failed id code next)
    set_failed_goes id code next goes = g.step t (OnSlot (SetOdd (socket_id_slot id))) _ refl (λ found.
        way g t (vref_version found % 2 == 0) (Do (OnSlot (StoreCode (socket_id_slot id) (socket_id_version id) code)) (λ _. Do (OnSlot (SubRef (socket_id_slot id))) (λ _. next found))) (next found)
        (λ _. g.step t (OnSlot (StoreCode (socket_id_slot id) (socket_id_version id) code)) _ refl (λ _. g.step t (OnSlot (SubRef (socket_id_slot id))) _ refl (λ _. goes found))) (λ _. goes found))

  -- ## Writing

  freed_goes : (now : ℕ) (next : Program) → G lost next → G lost (given_back now next)
  freed_goes now next goes = way g lost (ticket_generation now == LAST_GENERATION) next (Do (OnChain (FreeRequest (ticket_request now) (ticket_generation now))) (λ _. next)) (λ _. goes) (λ _. g.step lost (OnChain (FreeRequest (ticket_request now) (ticket_generation now))) _ refl (λ _. goes))

  passed_goes : (h : Holder) (now : ℕ) (tells : Program → Program) (after : Program) → ((x : Program) → G lost x → G lost (tells x)) → G lost after → G lost (passed_telling h now tells after)
  passed_goes h now tells after told goes = way g lost (now == h.last) (given_back now (tells (Write (Empties h) after)))
      (Do (OnChain (ReadNext (ticket_request now))) (λ next. given_back now (tells (TakeMessage (ticket_request next) (λ heading bytes. Write (Puts h next heading bytes 0 false) after)))))
      (λ _. freed_goes now (tells (Write (Empties h) after)) (told (Write (Empties h) after) (g.passes lost (Write (Empties h) after) goes)))
      (λ _. g.step lost (OnChain (ReadNext (ticket_request now))) _ refl (λ next. freed_goes now (tells (TakeMessage (ticket_request next) (λ heading bytes. Write (Puts h next heading bytes 0 false) after)))
      (told (TakeMessage (ticket_request next) (λ heading bytes. Write (Puts h next heading bytes 0 false) after)) (g.passes lost (TakeMessage (ticket_request next) _) (λ heading bytes. g.passes lost (Write (Puts h next heading bytes 0 false) after) goes)))))

  tell_goes : (heading : Heading) (code : ℕ) (x : Program) → G lost x → G lost (tell_drop heading code x)
  tell_goes heading code x goes = way g lost (eqb heading.owner 0) x (post heading.owner (cond (eqb code 0) 1009 code) heading.label.attempt x) (λ _. goes) (λ _. post_goes g lost heading.owner (cond (eqb code 0) 1009 code) heading.label.attempt x goes)

  failed_put : (h : Holder) (now : ℕ) (heading : Heading) (left : List ℕ) (taken : ℕ) (after : Program) → G lost after → G lost (set_failed h.id 1009 (λ _. Write (Puts h now heading left taken false) after))
  failed_put h now heading left taken after goes = set_failed_goes lost h.id 1009 (λ _. Write (Puts h now heading left taken false) after) (λ _. g.passes lost (Write (Puts h now heading left taken false) after) goes)

  put_goes : (h : Holder) (now : ℕ) (heading : Heading) (left : List ℕ) (taken : ℕ) (after : Program) → G lost after → (answer : Put) → G lost (put_answered h now heading left taken after answer)
  put_goes h now heading left taken after goes (puts.Took n) = way g lost (nat_le (length left) n) (placed h now heading after) (Write (Puts h now heading (drop n left) (taken + n) false) after)
      (λ _. g.step lost (OnPlace (StorePlace heading.label.place h.link h.places)) _ refl (λ _. passed_goes (one_more h) now (λ x. x) after (λ x goes. goes) goes)) (λ _. g.passes lost (Write (Puts h now heading (drop n left) (taken + n) false) after) goes)
  put_goes h now heading left taken after goes puts.Again = g.passes lost (Write (Waits h now heading left taken) after) goes
  put_goes h now heading left taken after goes puts.Failed = failed_put h now heading left taken after goes

  ready_goes : (h : Holder) (now : ℕ) (heading : Heading) (left : List ℕ) (taken : ℕ) (after : Program) → G lost after → (answer : Ready) → G lost (ready_answered h now heading left taken after answer)
  ready_goes h now heading left taken after goes asks.Now = g.passes lost (Write (Puts h now heading left taken true) after) goes
  ready_goes h now heading left taken after goes asks.NotYet = g.passes lost (Write (Waits h now heading left taken) after) goes
  ready_goes h now heading left taken after goes asks.Failed = failed_put h now heading left taken after goes

  pub block_goes : (t : K) (w : Writing) (after : Program) → G lost after → G t (block w after)
  block_goes t (Puts h now heading left taken asked) after goes = g.looks t (OnSlot (LookWord h.id)) _ refl (λ found.
      way g lost (vref_version found % 2 == 0) (PutBytes h.link asked (part heading.parts left taken) (put_answered h now heading left taken after)) (dropped h now heading after)
      (λ _. g.passes lost (PutBytes h.link asked (part heading.parts left taken) (put_answered h now heading left taken after)) (put_goes h now heading left taken after goes))
      (λ _. g.step lost (OnSlot (LoadCode (socket_id_slot h.id) (socket_id_version h.id))) _ refl (λ code. g.step lost (OnPlace (DropPlace heading.label.place h.link h.places)) _ refl (λ _. passed_goes (one_more h) now (tell_drop heading code) after (λ x goes. tell_goes heading code x goes) goes))))
  block_goes t (Waits h now heading left taken) after goes = g.passes t (AskReady h.link (ready_answered h now heading left taken after)) (ready_goes h now heading left taken after goes)
  block_goes t (Empties h) after goes = g.passes t (PutHome h.link h.places _) (g.step lost (OnChain (EmptyHead (socket_id_slot h.id) h.last)) _ refl (λ found. way g lost (found == h.last) after (TakeHome h.link (λ places. Write (Reversing (record h { places = places }) found found 0) after))
      (λ _. goes) (λ _. g.passes lost (TakeHome h.link _) (λ places. g.passes lost (Write (Reversing (record h { places = places }) found found 0) after) goes))))
  block_goes t (Reversing h top at after) then_ goes = g.looks t (OnChain (ReadNext (ticket_request at))) _ refl (λ found. way g lost (found == UNCONNECTED) (Write (Reversing h top at after) then_)
      (Do (OnChain (ReverseNext (ticket_request at) after)) (λ _. cond (found == h.last) (TakeMessage (ticket_request at) (λ heading bytes. Write (Puts (record h { last = top }) at heading bytes 0 false) then_)) (Write (Reversing h top found at) then_)))
      (λ _. g.passes lost (Write (Reversing h top at after) then_) goes)
      (λ _. g.step lost (OnChain (ReverseNext (ticket_request at) after)) _ refl (λ _. way g lost (found == h.last) (TakeMessage (ticket_request at) (λ heading bytes. Write (Puts (record h { last = top }) at heading bytes 0 false) then_)) (Write (Reversing h top found at) then_)
      (λ _. g.passes lost (TakeMessage (ticket_request at) _) (λ heading bytes. g.passes lost (Write (Puts (record h { last = top }) at heading bytes 0 false) then_) goes)) (λ _. g.passes lost (Write (Reversing h top found at) then_) goes))))

  first_goes : (h : Holder) (now : ℕ) (heading : Heading) (bytes : List ℕ) (after : Program) → G lost after → G lost (first_put h now heading bytes after)
  first_goes h now heading bytes after goes = g.step lost (OnSlot (LookWord h.id)) _ refl (λ found.
      way g lost (vref_version found % 2 == 0) (PutBytes h.link false (part heading.parts bytes 0) (put_answered h now heading bytes 0 after)) (Write (Puts h now heading bytes 0 false) after)
      (λ _. g.passes lost (PutBytes h.link false (part heading.parts bytes 0) (put_answered h now heading bytes 0 after)) (put_goes h now heading bytes 0 after goes)) (λ _. g.passes lost (Write (Puts h now heading bytes 0 false) after) goes))

  write_goes : (id q own : ℕ) (after : Program) → G lost after → G lost (write_link id q own after)
  write_goes id q own after goes = g.step lost (OnSlot (FindLink (socket_id_slot id) (socket_id_version id))) _ refl (λ k. g.passes lost (TakeHome k _) (λ places. g.passes lost (TakeMessage q _) (λ heading bytes. first_goes (record { id = id; link = k; last = own; places = places }) own heading bytes after goes)))

  -- ## Messages

  -- where the message may be put into its home
  pub accept_goes : (t : K) (id q n : ℕ) (heading : Heading) (bytes : List ℕ) (after : Program) → ((next : ℕ → Program) → ((found : ℕ) → G lost (next found)) → G t (Do (OnMessage (PutMessage q heading bytes)) next)) → G lost after → G t (accept id q n heading bytes after)
  accept_goes t id q n heading bytes after may goes = may _ (λ _. g.step lost (OnChain (Unconnect q)) _ refl (λ _. g.step lost (OnChain (SwapHead (socket_id_slot id) (ticket_of q n))) _ refl (λ found.
      way g lost (nat_lt found IDLE) (Do (OnChain (Connect q found)) (λ _. after)) (write_link id q (ticket_of q n) after) (λ _. g.step lost (OnChain (Connect q found)) _ refl (λ _. goes)) (λ _. write_goes id q (ticket_of q n) after goes))))

  expire_goes : (o t : ℕ) (next : Program) → G lost next → G lost (expire o t next)
  expire_goes o t next goes = gives_up g lost (LoadCall t) _ refl (λ id _.
      way g lost (eqb id 0) (Say o outcomes.NotBegun next) (post_with id (error_of 1008 7) (λ how. posted id (error_of 1008 7) (Say o (expire_outcome how) next) how))
      (λ _. g.passes lost (Say o outcomes.NotBegun next) goes) (λ _. post_with_goes g lost id (error_of 1008 7) (λ how. posted id (error_of 1008 7) (Say o (expire_outcome how) next) how) (λ how l. posted_goes g id (error_of 1008 7) (Say o (expire_outcome how) next) (g.passes lost (Say o (expire_outcome how) next) goes) how l)))

  join_goes : (o t : ℕ) (next : Program) → G lost next → G lost (join o t next)
  join_goes o t next goes = gives_up g lost (LoadCall t) _ refl (λ id _. way g lost (eqb id 0) (Say o outcomes.NotBegun next) (Round (Joins id) (λ _. Say o outcomes.Joined next)) (λ _. g.passes lost (Say o outcomes.NotBegun next) goes) (λ _. g.round lost (Joins id) _ tt (λ _ _. g.passes lost (Say o outcomes.Joined next) goes)))

  -- ## Clients

  open_goes : (more i o name k : ℕ) (next : Program) → G lost next → G lost (open_from more i o name k next)
  open_goes zero i o name k next goes = g.step lost (OnLink (TakeLink k)) _ refl (λ _. g.step lost (OnLink (FinishLink k)) _ refl (λ _. g.step lost (OnLink (PutLink k)) _ refl (λ _. g.step lost (OnName (StoreOpen o NO_SOCKET)) _ refl (λ _. g.passes lost (Say o _ next) goes))))
  open_goes (suc more) i o name k next goes = g.step lost (OnSlot (ClaimSlot i)) _ refl (λ found. way g lost (found == 0) (make_socket o name k i next) (open_from more (i + 1) o name k next)
      (λ _. g.step lost (OnSlot (StoreLink i k)) _ refl (λ _. g.step lost (OnSlot (ResetHead i k)) _ refl (λ _. g.step lost (OnSlot (ClearCode i k)) _ refl (λ _. g.step lost (OnSlot (CreateLife i k)) _ refl (λ found. g.step lost (OnName (StoreOpen o _)) _ refl (λ _. g.step lost (OnName (StoreName name _)) _ refl (λ _. g.passes lost (Say o _ next) goes)))))))
      (λ _. open_goes more (i + 1) o name k next goes))

  reach_goes : (name : ℕ) (unopened : Program) (held gone : ℕ → Program) → G lost unopened → ((id : ℕ) → G lost (held id)) → ((found : ℕ) → G lost (gone found)) → G lost (find_socket name unopened held gone)
  reach_goes name unopened held gone none_ one others = g.step lost (OnName (LoadName name)) _ refl (λ word. way g lost (word == 0) unopened (add_reference (word - 1) (held (word - 1)) gone) (λ _. none_) (λ _. address_goes lost (word - 1) (held (word - 1)) gone (one (word - 1)) others))

  claim_from_goes : (more q o id : ℕ) (bytes : List ℕ) (next : Program) → G lost next → G lost (claim_from more q o id bytes next)
  claim_from_goes zero q o id bytes next goes = release_goes lost (socket_id_slot id) (λ _. Say o outcomes.Full next) (λ _. g.passes lost (Say o outcomes.Full next) goes)
  claim_from_goes (suc more) q o id bytes next goes = g.claim id q _ (λ found.
      way g lost (found % 2 == 0) (accept id q (found / 2) (heading_of o) bytes (release (socket_id_slot id) (λ _. Sent o next))) (claim_from more (q + 1) o id bytes next)
      (λ _. accept_goes lost id q (found / 2) (heading_of o) bytes (release (socket_id_slot id) (λ _. Sent o next)) (g.send q o bytes) (release_goes lost (socket_id_slot id) (λ _. Sent o next) (λ _. g.passes lost (Sent o next) goes)))
      (λ _. claim_from_goes more (q + 1) o id bytes next goes))

  gone_goes : (o : ℕ) (next : Program) → G lost next → (found : ℕ) → G lost (Say o (outcomes.Gone (record { 0 = found })) next)
  gone_goes o next goes found = g.passes lost (Say o (outcomes.Gone (record { 0 = found })) next) goes

  send_goes : (requests o name : ℕ) (bytes : List ℕ) (next : Program) → G lost next → G lost (send requests o name bytes next)
  send_goes requests o name bytes next goes = reach_goes name (Say o outcomes.Unopened next) (λ id. start requests o id bytes next) (λ found. Say o (outcomes.Gone (record { 0 = found })) next) (g.passes lost (Say o outcomes.Unopened next) goes)
      (λ id. g.step lost (OnSlot (LookWord id)) _ refl (λ found.
      way g lost (vref_version found % 2 == 0) (claim_from requests 0 o id bytes next) (release (socket_id_slot id) (λ _. Say o (outcomes.Gone (record { 0 = found })) next))
      (λ _. claim_from_goes requests 0 o id bytes next goes) (λ _. release_goes lost (socket_id_slot id) (λ _. Say o (outcomes.Gone (record { 0 = found })) next) (λ _. gone_goes o next goes found))))
      (gone_goes o next goes)

  fail_goes : (o name code : ℕ) (next : Program) → G lost next → G lost (fail o name code next)
  fail_goes o name code next goes = reach_goes name (Say o outcomes.Unopened next) (λ id. set_failed id code (λ found. release (socket_id_slot id) (λ _. Say o (fail_outcome found) next))) (λ found. Say o (outcomes.Gone (record { 0 = found })) next) (g.passes lost (Say o outcomes.Unopened next) goes)
      (λ id. set_failed_goes lost id code (λ found. release (socket_id_slot id) (λ _. Say o (fail_outcome found) next)) (λ found. release_goes lost (socket_id_slot id) (λ _. Say o (fail_outcome found) next) (λ _. g.passes lost (Say o (fail_outcome found) next) goes)))
      (gone_goes o next goes)

  drop_goes : (o : ℕ) (h : Option ℕ) (next : Program) → G lost next → G lost (drop_of o h next)
  drop_goes o None next goes = g.passes lost (Say o _ next) goes
  drop_goes o (Some id) next goes = release_goes lost (socket_id_slot id) (λ freed. Say o (cond freed outcomes.Freed outcomes.Kept) next) (λ freed. g.passes lost (Say o (cond freed outcomes.Freed outcomes.Kept) next) goes)

  -- a call begins so
  module _ (calls_go : (requests ids : ℕ) (asked : Asked) → is_call asked → (next : Program) → G lost next → G lost (call requests ids asked next)) where
    operation_goes : (sizes : Sizes) (held : List HeldLife) (o : ℕ) (next : List HeldLife → Program) (op : Op) → OpCalls is_call op → ((hs : List HeldLife) → G lost (next hs)) → G lost (operation sizes held o next op)
    operation_goes sizes held o next (ops.Open name k) called goes = open_goes sizes.slots 0 o name k (next held) (goes held)
    operation_goes sizes held o next (ops.Send name bytes) called goes = send_goes sizes.requests o name bytes (next held) (goes held)
    operation_goes sizes held o next (ops.Call asked) called goes = calls_go sizes.requests sizes.ids asked called (next held) (goes held)
    operation_goes sizes held o next (ops.Expire t) called goes = expire_goes o t (next held) (goes held)
    operation_goes sizes held o next (ops.Join t) called goes = join_goes o t (next held) (goes held)
    operation_goes sizes held o next (ops.Hold name) called goes = reach_goes name (Say o outcomes.Unopened (next held)) (λ id. Say o outcomes.Held (next (held ++ (record { name = name; id = id }) ∷ []))) (λ found. Say o (outcomes.Gone (record { 0 = found })) (next held)) (g.passes lost (Say o outcomes.Unopened (next held)) (goes held))
        (λ id. g.passes lost (Say o outcomes.Held _) (goes (held ++ (record { name = name; id = id }) ∷ []))) (gone_goes o (next held) (goes held))
    operation_goes sizes held o next (ops.Drop name) called goes = drop_goes o (held_under name held) (next (without_name name held)) (goes (without_name name held))
    operation_goes sizes held o next (ops.Fail name code) called goes = fail_goes o name code (next held) (goes held)

    give_goes : (held : List HeldLife) → G lost (give_back held)
    give_goes [] = g.passes lost Rest tt
    give_goes (h ∷ hs) = release_goes lost (socket_id_slot h.id) (λ _. give_back hs) (λ _. give_goes hs)

    pub client_goes : (sizes : Sizes) (held : List HeldLife) (ts : List Task) → AllByRecursion (λ (t : Task). OpCalls is_call t.op) ts → G lost (client_from sizes held ts)
    client_goes sizes held [] all = g.passes lost (Retries sizes.requests (give_back held)) (give_goes held)
    client_goes sizes held (t ∷ ts) all = g.passes lost (Retries sizes.requests _) (operation_goes sizes held t.number (λ held'. client_from sizes held' ts) t.op all.0 (λ hs. client_goes sizes hs ts all.1))

  -- ## The ending

  pub ending_goes : (os : List ℕ) → G lost (ending_of os)
  ending_goes [] = g.passes lost Rest tt
  ending_goes (o ∷ os) = g.step lost (OnName (LoadOpen o)) _ refl (λ word.
      way g lost (word == 0) (ending_of os) (cond (word == NO_SOCKET) (ending_of os) (add_reference (word - 1) (set_failed (word - 1) 1014 (λ _. release (socket_id_slot (word - 1)) (λ _. ending_of os))) (λ _. ending_of os)))
      (λ _. ending_goes os)
      (λ _. way g lost (word == NO_SOCKET) (ending_of os) (add_reference (word - 1) (set_failed (word - 1) 1014 (λ _. release (socket_id_slot (word - 1)) (λ _. ending_of os))) (λ _. ending_of os)) (λ _. ending_goes os)
      (λ _. address_goes lost (word - 1) (set_failed (word - 1) 1014 (λ _. release (socket_id_slot (word - 1)) (λ _. ending_of os))) (λ _. ending_of os)
      (set_failed_goes lost (word - 1) 1014 (λ _. release (socket_id_slot (word - 1)) (λ _. ending_of os)) (λ _. release_goes lost (socket_id_slot (word - 1)) (λ _. ending_of os) (λ _. ending_goes os))) (λ _. ending_goes os))))

  -- ## Readers

  ends_goes : (id e w : ℕ) (kept : List Frame) (next : Program) → (parts w).first ≡ id_first id → G lost next → G lost (ends_with id e w kept next)
  ends_goes id e w [] next first goes = decide_goes g lost id w e (decided id next) first (decided_goes g id next goes)
  ends_goes id e w (f ∷ fs) next first goes = answer_goes g lost f (id_first id) next goes

  last_goes : (id e : ℕ) (kept : List Frame) (next : Program) → G lost next → (exit : Posting) → LeavesLabel (Posts id e 0) exit → G lost (posted_last id e kept next exit)
  last_goes id e kept next goes (HasLocked w) l = ends_goes id e w (kept_for id (parts w).range kept) next l goes
  last_goes id e kept next goes _ l = goes

  each_goes : (os : List ℕ) (k code : ℕ) (kept : List Frame) (next : Program) → G lost next → G lost (post_each os k code kept next)
  each_goes [] k code kept next goes = goes
  each_goes (o ∷ os) k code kept next goes = gives_up g lost (LoadAt o) _ refl (λ w _. by (each_goes os k code kept next goes) w (eqb w 0) (eqb (at_word_link w) k))
    where
      by : G lost (post_each os k code kept next) → (w : ℕ) (z s : Bool) → G lost (cond z (post_each os k code kept next) (cond s (post_with (call_id (at_word_slot w) (at_word_first w)) (error_of code (at_word_attempt w))
          (posted_last (call_id (at_word_slot w) (at_word_first w)) (error_of code (at_word_attempt w)) kept (post_each os k code kept next))) (post_each os k code kept next)))
      by more w true s = more
      by more w false true = post_with_goes g lost (call_id (at_word_slot w) (at_word_first w)) (error_of code (at_word_attempt w)) (posted_last (call_id (at_word_slot w) (at_word_first w)) (error_of code (at_word_attempt w)) kept (post_each os k code kept next))
          (last_goes (call_id (at_word_slot w) (at_word_first w)) (error_of code (at_word_attempt w)) kept (post_each os k code kept next) more)
      by more w false false = more

  thrown_goes : (how : Ended) → G lost (thrown_away how)
  thrown_goes how = way g lost (how.fault && nat_lt how.reading.total LIMIT) (Round (Discards how.reading.link how.reading.total) (λ _. Rest)) Rest (λ _. g.round lost (Discards how.reading.link how.reading.total) _ tt (λ _ _. g.passes lost Rest tt)) (λ _. g.passes lost Rest tt)

  read_goes : (calls : List ℕ) (how : Ended) → G lost (read calls how)
  read_goes calls how = let last : Program = post_each calls how.reading.link how.code how.reading.kept (thrown_away how) in let goes : G lost last = each_goes calls how.reading.link how.code how.reading.kept (thrown_away how) (thrown_goes how) in
      way g lost how.closed last (add_reference how.reading.id (set_failed how.reading.id how.code (λ _. release (socket_id_slot how.reading.id) (λ _. last))) (λ _. last)) (λ _. goes)
      (λ _. address_goes lost how.reading.id (set_failed how.reading.id how.code (λ _. release (socket_id_slot how.reading.id) (λ _. last))) (λ _. last)
      (set_failed_goes lost how.reading.id how.code (λ _. release (socket_id_slot how.reading.id) (λ _. last)) (λ _. release_goes lost (socket_id_slot how.reading.id) (λ _. last) (λ _. goes))) (λ _. goes))

  pub reader_goes : (calls : List ℕ) (k o : ℕ) → G lost (reader calls k o)
  reader_goes calls k o = g.round lost (Opens o) _ tt (λ word _. way g lost (word == NO_SOCKET) Rest (Round (Reads (record { ids = length calls; link = k; id = word - 1; rest = []; total = 0; kept = [] })) (read calls)) (λ _. g.passes lost Rest tt) (λ _. g.round lost (Reads (record { ids = length calls; link = k; id = word - 1; rest = []; total = 0; kept = [] })) (read calls) tt (λ how _. read_goes calls how)))
