-- What an attempt of a call costs, and a retry that waited.
use Rattle.std.proofs.Common.{ℕ, zero, suc, ◌+◌, ◌-◌, ◌/◌, ◌≤◌, ◌==◌, ◌%◌, ◌&&◌, Bool, true, false, List, length, arith, cond, nat_le, nat_lt}
use Rattle.sock_words.specs.declared.plain.Plan.{Plan}
use Rattle.sock_words.specs.PackedWords.{socket_id_version, socket_id_slot, vref_version, vref_nref, at_word, IDLE, id_slot, id_first}
use Rattle.sock_model.specs.declared.chain.Heading.{Heading}
use Rattle.sock_model.specs.declared.view.View.{View}
use Rattle.sock_model.specs.Entries.{ticket_of}
use Rattle.seat_programs.specs.sock_message.specs.Asked.{Asked, name_of, frame_of}
use Rattle.seat_programs.specs.TableSteps.{OnSlot, OnName, OnChain, OnLink, OnMessage, AddRef, SubRef, Recycle, FreeSlot, LoadLink, LoadName, TakeLink, FinishLink, PutLink, LookWord, FindLink, ClaimRequest, PutMessage, Unconnect, SwapHead, Connect}
use Rattle.seat_programs.specs.Asides.{StoreAt}
use Rattle.seat_programs.specs.LoopHeads.{Unlocking, IsOpen, HasNext, Deciding, HasEnded, Locking, NotThere, Has}
use Rattle.seat_programs.specs.LoopHeads as heads
use Rattle.seat_programs.specs.Programs.{Program, Do, Aside, LAST_VERSION, recycle, release, add_reference}
use Rattle.seat_programs.specs.PostPrograms.{post, decided}
use Rattle.seat_programs.specs.SendAndWritePrograms.{write_link, accept}
use Rattle.seat_programs.specs.CallAndRetryPrograms.{claims_from, heading_for, attempt, tried_again, retry_locked, retry}
use Rattle.seat_programs.specs.Explained.{AskedFits}
use Rattle.seat_programs.specs.StepTables.{row}
use Rattle.seat_programs.specs.StepsOfLinks.{link_away}
use Rattle.sock_runs.specs.program_steps.specs.TicksLeftAtMost.{LastsFor, STALE, CHANGE, ERROR, POST, ACCEPT, weight, attempt_cost, unlocking_gain}
use Rattle.runs_end.proofs.IdCosts.{lasts_more, post_lasts, decide_lasts}
use Rattle.runs_end.proofs.Costs.{Lasting, lasting_more, either_lasts, does, takes_first}

module _ (p : Plan) where
  -- ## References

  pub frees_lasts : (i : ℕ) (next : Program) (n : ℕ) (b : Bool) → Lasting p next n → Lasting p (cond b (Do (OnSlot (FreeSlot i)) (λ _. next)) next) (1 + n)
  frees_lasts i next n b l = either_lasts p (Do (OnSlot (FreeSlot i)) (λ _. next)) next (1 + n) b (does p (OnSlot (FreeSlot i)) (λ _. next) n (1 + n) (omega arith) (λ found. l)) (lasting_more p next n (1 + n) (omega arith) l)

  pub ends_link : (k : ℕ) (next : Program) (n : ℕ) → Lasting p next n → Lasting p (Do (OnLink (TakeLink k)) (λ _. Do (OnLink (FinishLink k)) (λ _. Do (OnLink (PutLink k)) (λ _. next)))) (3 + n)
  ends_link k next n l = does p (OnLink (TakeLink k)) (λ _. Do (OnLink (FinishLink k)) (λ _. Do (OnLink (PutLink k)) (λ _. next))) (2 + n) (3 + n) (omega arith)
      (λ a. does p (OnLink (FinishLink k)) (λ _. Do (OnLink (PutLink k)) (λ _. next)) (1 + n) (2 + n) (omega arith) (λ b. does p (OnLink (PutLink k)) (λ _. next) n (1 + n) (omega arith) (λ c. l)))

  recycle_lasts : (i from : ℕ) (next : Bool → Program) (n : ℕ) → ((b : Bool) → Lasting p (next b) n) → Lasting p (recycle i from next) (6 + n)
  recycle_lasts i from next n l v = let freeing : Program = cond (nat_le (vref_version from + 1) LAST_VERSION) (Do (OnSlot (FreeSlot i)) (λ _. next true)) (next true) in
      let ending : ℕ → Program = λ k. Do (OnLink (TakeLink k)) (λ _. Do (OnLink (FinishLink k)) (λ _. Do (OnLink (PutLink k)) (λ _. freeing))) in (
        5 + n,
        omega arith,
        λ found hand f. either_lasts p (Do (OnSlot (LoadLink i (vref_version from + 1))) ending) (next false) (5 + n) (found == from)
            (does p (OnSlot (LoadLink i (vref_version from + 1))) ending (4 + n) (5 + n) (omega arith) (λ k. lasting_more p (ending k) (3 + (1 + n)) (4 + n) (omega arith)
            (ends_link k freeing (1 + n) (frees_lasts i (next true) n (nat_le (vref_version from + 1) LAST_VERSION) (l true)))))
            (lasting_more p (next false) n (5 + n) (omega arith) (l false)) (row p (OnSlot (Recycle i from)) found hand v),
      )

  pub release_lasts : (i : ℕ) (next : Bool → Program) (n : ℕ) → ((b : Bool) → Lasting p (next b) n) → Lasting p (release i next) (7 + n)
  release_lasts i next n l v = (
    6 + n,
    omega arith,
    λ found hand f. either_lasts p (recycle i (found - 1) next) (next false) (6 + n) ((vref_version found % 2 == 1) && (vref_nref found == 1)) (recycle_lasts i (found - 1) next n l) (lasting_more p (next false) n (6 + n) (omega arith) (l false))
        (row p (OnSlot (SubRef i)) found hand v),
  )

  -- a reference, where what follows the word of another version has the release beside
  pub address_lasts : (id : ℕ) (held : Program) (gone : ℕ → Program) (n m : ℕ) → 7 + m ≤ n → Lasting p held n → ((found : ℕ) → Lasting p (gone found) m) → Lasting p (add_reference id held gone) (1 + n)
  address_lasts id held gone n m le l k v = (
    n,
    omega arith,
    λ found hand f. either_lasts p held (release (socket_id_slot id) (λ _. gone found)) n (vref_version found == socket_id_version id) l
        (lasting_more p (release (socket_id_slot id) (λ _. gone found)) (7 + m) n le (release_lasts (socket_id_slot id) (λ _. gone found) m (λ b. k found))) (row p (OnSlot (AddRef id)) found hand v),
  )

  -- ## A message

  -- who finds an idle head writes the link
  write_lasts : (id q own : ℕ) (after : Program) (m : ℕ) → Lasting p after m → Lasting p (write_link id q own after) (8 + m)
  write_lasts id q own after m k v = (
    7 + m,
    omega arith,
    λ link hand f. (6 + m, omega arith, λ places. takes_first p after m k (record { id = id; link = link; last = own; places = places }) own q (link_away (row p (OnSlot (FindLink (socket_id_slot id) (socket_id_version id))) link hand v))),
  )

  pub accept_lasts : (id q g : ℕ) (heading : Heading) (bytes : List ℕ) (after : Program) (m : ℕ) → Lasting p after m → Lasting p (accept id q g heading bytes after) (weight (length bytes) + (13 + ACCEPT) + m)
  accept_lasts id q g heading bytes after m k = let own : ℕ = ticket_of q g in
      let swapped : ℕ → Program = λ found. cond (nat_lt found IDLE) (Do (OnChain (Connect q found)) (λ _. after)) (write_link id q own after) in
      does p (OnMessage (PutMessage q heading bytes)) (λ _. Do (OnChain (Unconnect q)) (λ _. Do (OnChain (SwapHead (socket_id_slot id) own)) swapped)) (12 + ACCEPT + m) (weight (length bytes) + (13 + ACCEPT) + m) (omega arith)
      (λ a. does p (OnChain (Unconnect q)) (λ _. Do (OnChain (SwapHead (socket_id_slot id) own)) swapped) (11 + ACCEPT + m) (12 + ACCEPT + m) (omega arith)
      (λ b. does p (OnChain (SwapHead (socket_id_slot id) own)) swapped (8 + m) (11 + ACCEPT + m) (omega arith)
      (λ found. either_lasts p (Do (OnChain (Connect q found)) (λ _. after)) (write_link id q own after) (8 + m) (nat_lt found IDLE) (does p (OnChain (Connect q found)) (λ _. after) m (8 + m) (omega arith) (λ c. k)) (write_lasts id q own after m k))))

  -- the first free request is claimed, whether or not there is one
  pub claims_lasts : (heading : Heading) (bytes : List ℕ) (full accepted : Program) (m : ℕ) → Lasting p full m → Lasting p accepted m → (left q id : ℕ)
      → Lasting p (claims_from left q id heading bytes full accepted) (left + (weight (length bytes) + (13 + ACCEPT) + m))
  claims_lasts heading bytes full accepted m f a zero q id v = lasting_more p full m (0 + (weight (length bytes) + (13 + ACCEPT) + m)) (omega arith) f v
  claims_lasts heading bytes full accepted m f a (suc left) q id v = let n : ℕ = left + (weight (length bytes) + (13 + ACCEPT) + m) in (
    left + (weight (length bytes) + (13 + ACCEPT) + m),
    omega arith,
    λ found hand g. either_lasts p (accept id q (found / 2) heading bytes accepted) (claims_from left (q + 1) id heading bytes full accepted) n (found % 2 == 0)
        (lasting_more p (accept id q (found / 2) heading bytes accepted) (weight (length bytes) + (13 + ACCEPT) + m) n (omega arith) (accept_lasts id q (found / 2) heading bytes accepted m a))
        (claims_lasts heading bytes full accepted m f a left (q + 1) id) (row p (OnChain (ClaimRequest id q)) found hand v),
  )

  -- ## Attempts

  -- over a held life, with a message of any bytes
  module _ (requests o first slot id n socket : ℕ) (heading : Heading) (bytes : List ℕ) (short : length bytes ≤ 131072) (next : Program) (m : ℕ) (l : Lasting p next m) where
    abbrev lets_go : Program
    lets_go = release (socket_id_slot socket) (λ _. next)

    abbrev refused : ℕ → Program
    refused code = post id code n (release (socket_id_slot socket) (λ _. next))

    lets_go_lasts : Lasting p (release (socket_id_slot socket) (λ _. next)) (7 + m)
    lets_go_lasts = release_lasts (socket_id_slot socket) (λ _. next) m (λ b. l)

    refused_lasts : (code : ℕ) → Lasting p (post id code n (release (socket_id_slot socket) (λ _. next))) (POST + (7 + m))
    refused_lasts code v = post_lasts p v id code n (release (socket_id_slot socket) (λ _. next)) (7 + m) (POST + (7 + m)) (lets_go_lasts v) (omega arith)

    looked_lasts : (found : ℕ) → Lasting p (cond (vref_version found % 2 == 0) (claims_from requests 0 socket heading bytes (refused 3001) lets_go) (refused 1009)) (requests + (weight 131072 + (13 + ACCEPT) + (POST + (7 + m))))
    looked_lasts found = either_lasts p (claims_from requests 0 socket heading bytes (refused 3001) lets_go) (refused 1009) (requests + (weight 131072 + (13 + ACCEPT) + (POST + (7 + m)))) (vref_version found % 2 == 0)
        (lasting_more p (claims_from requests 0 socket heading bytes (refused 3001) lets_go) (requests + (weight (length bytes) + (13 + ACCEPT) + (POST + (7 + m)))) (requests + (weight 131072 + (13 + ACCEPT) + (POST + (7 + m)))) (omega (arith, short))
        (claims_lasts heading bytes (refused 3001) lets_go (POST + (7 + m)) (refused_lasts 3001) (lasting_more p lets_go (7 + m) (POST + (7 + m)) (omega arith) lets_go_lasts) requests 0 socket))
        (lasting_more p (refused 1009) (POST + (7 + m)) (requests + (weight 131072 + (13 + ACCEPT) + (POST + (7 + m)))) (omega arith) (refused_lasts 1009))

    held_lasts : Lasting p (Do (OnSlot (FindLink (socket_id_slot socket) (socket_id_version socket))) (λ k. Aside (StoreAt o (at_word first slot k n)) (λ _. Do (OnSlot (LookWord socket)) (λ found.
        cond (vref_version found % 2 == 0) (claims_from requests 0 socket heading bytes (refused 3001) lets_go) (refused 1009)))))
        (requests + (weight 131072 + (POST + (CHANGE + (22 + ACCEPT + m)))))
    held_lasts = let looks : Program = Do (OnSlot (LookWord socket)) (λ found. cond (vref_version found % 2 == 0) (claims_from requests 0 socket heading bytes (refused 3001) lets_go) (refused 1009)) in
        does p (OnSlot (FindLink (socket_id_slot socket) (socket_id_version socket))) (λ k. Aside (StoreAt o (at_word first slot k n)) (λ _. looks)) (requests + (weight 131072 + (POST + (CHANGE + (21 + ACCEPT + m))))) (requests + (weight 131072 + (POST + (CHANGE + (22 + ACCEPT + m))))) (omega arith)
        (λ k u _ _. (
          requests + (weight 131072 + (POST + (21 + ACCEPT + m))),
          omega arith,
          does p (OnSlot (LookWord socket)) (λ found. cond (vref_version found % 2 == 0) (claims_from requests 0 socket heading bytes (refused 3001) lets_go) (refused 1009)) (requests + (weight 131072 + (13 + ACCEPT) + (POST + (7 + m)))) (requests + (weight 131072 + (POST + (21 + ACCEPT + m)))) (omega arith)
              looked_lasts u,
        ))

    over_lasts : Lasting p (add_reference socket (Do (OnSlot (FindLink (socket_id_slot socket) (socket_id_version socket))) (λ k. Aside (StoreAt o (at_word first slot k n)) (λ _. Do (OnSlot (LookWord socket)) (λ found.
        cond (vref_version found % 2 == 0) (claims_from requests 0 socket heading bytes (refused 3001) lets_go) (refused 1009))))) (λ _. post id 1009 n next)) (requests + weight 131072 + POST + CHANGE + 23 + ACCEPT + m)
    over_lasts = let held : Program = Do (OnSlot (FindLink (socket_id_slot socket) (socket_id_version socket))) (λ k. Aside (StoreAt o (at_word first slot k n)) (λ _. Do (OnSlot (LookWord socket)) (λ found.
        cond (vref_version found % 2 == 0) (claims_from requests 0 socket heading bytes (refused 3001) lets_go) (refused 1009)))) in
        lasting_more p (add_reference socket held (λ _. post id 1009 n next)) (1 + (requests + (weight 131072 + (POST + (CHANGE + (22 + ACCEPT + m)))))) (requests + weight 131072 + POST + CHANGE + 23 + ACCEPT + m) (omega arith)
        (address_lasts socket held (λ _. post id 1009 n next) (requests + (weight 131072 + (POST + (CHANGE + (22 + ACCEPT + m))))) (POST + m) (omega arith) held_lasts (λ found v. post_lasts p v id 1009 n next m (POST + m) (l v) (omega arith)))

  pub attempt_lasts : (asked : Asked) (id n socket : ℕ) (next : Program) (m : ℕ) → length (frame_of asked id n) ≤ 131072 → Lasting p next m → Lasting p (attempt p.requests asked id n socket next) (p.requests + weight 131072 + POST + CHANGE + 23 + ACCEPT + m)
  attempt_lasts asked id n socket next m short l = over_lasts p.requests asked.operation (id_first id) (id_slot id) id n socket (heading_for asked id n) (frame_of asked id n) short next m l

  -- ## A retry

  module _ (id n : ℕ) (next : Program) (m : ℕ) (l : Lasting p next m) where
    abbrev its_cost : ℕ
    its_cost = p.requests + weight 131072 + POST + CHANGE + 23 + ACCEPT + m

    next_lasts : (v : View) (exit : Deciding) → LastsFor p v (decided id next exit) (m + 0)
    next_lasts v (HasEnded o code) = lasts_more p v next m (m + 0) (omega arith) (l v)
    next_lasts v heads.GoesOn = lasts_more p v next m (m + 0) (omega arith) (l v)

    tried_lasts : (asked : Asked) → AskedFits p asked → (v : View) (exit : Unlocking) → LastsFor p v (tried_again p.requests id n asked next exit) (1 + its_cost + (unlocking_gain exit + 0))
    tried_lasts asked fits v (IsOpen w) = does p (OnName (LoadName (name_of asked n))) (λ word. cond (word == 0) (post id 1009 n next) (attempt p.requests asked id n (word - 1) next)) its_cost (1 + its_cost + (0 + 0)) (omega arith)
        (λ word. either_lasts p (post id 1009 n next) (attempt p.requests asked id n (word - 1) next) its_cost (word == 0) (λ u. post_lasts p u id 1009 n next m its_cost (l u) (omega arith)) (attempt_lasts asked id n (word - 1) next m (fits.short id n) l)) v
    tried_lasts asked fits v (HasNext w e) = decide_lasts p v id w e (decided id next) m (1 + its_cost + (ERROR + 0)) (next_lasts v) (omega arith)

    locked_lasts : (v : View) (exit : Locking) → LastsFor p v (retry_locked p.requests id n next exit) (STALE + CHANGE + 3 + its_cost + 0)
    locked_lasts v (NotThere w) = lasts_more p v next m (STALE + CHANGE + 3 + its_cost + 0) (omega arith) (l v)
    locked_lasts v (Has w) = λ asked fits. (STALE + CHANGE + 2 + its_cost, omega arith, λ _ _. (STALE + CHANGE + 1 + its_cost, omega arith, (1 + its_cost, omega arith, λ exit f. tried_lasts asked fits v exit)))

    pub retry_lasts : Lasting p (retry p.requests id n next) (attempt_cost p.requests + m)
    retry_lasts v = (STALE + CHANGE + 3 + its_cost, omega arith, λ exit f. locked_lasts v exit)
