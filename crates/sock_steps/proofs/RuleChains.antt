-- The steps on the write chains keep the whole rule: what is lawful by their laws, and the rest since they leave it, or since the seat's own list still has room.
use Rattle.std.proofs.Common.{◌≡◌, ℕ, ◌+◌, ◌-◌, ◌*◌, ◌<◌, ◌≤◌, false, List, [], length, get_or, set, refl, arith}
use mathlib.Core.Option.{Option, some}
use lib.ListN.{get_elem?}
use Rattle.atomic_table.specs.Table.{State}
use Rattle.sock_model.specs.sock_words.specs.declared.plain.Plan.{Plan}
use Rattle.sock_model.specs.declared.chain.Claim.{Claim}
use Rattle.sock_model.specs.declared.chain.Loose.{Loose}
use Rattle.sock_model.specs.declared.chain.Right.{Right}
use Rattle.sock_model.specs.declared.chain.Stage.{Stage}
use Rattle.sock_model.specs.declared.home.Home.{Home}
use Rattle.sock_model.specs.declared.view.View.{View}
use Rattle.sock_model.specs.SocketTableLayout.{head_index, request_index, next_index, place_index}
use Rattle.sock_model.specs.ChainRows.{with_claim, without_loose, with_right, without_right, turned_right, entry_of, queued, righted}
use Rattle.sock_model.specs.ChainStepConditions.{MayExchange, MayEmpty, MayTurn}
use Rattle.sock_model.specs.LawfulSockets.{Lawful}
use Rattle.sock_model.specs.Rule.{MOST_ACCEPTED, Lasting, Rule}
use Rattle.chain_steps.proofs.Frees.{Leads}
use Rattle.sock_steps.proofs.AcceptSteps.{queued_law, righted_law}
use Rattle.sock_steps.proofs.ClaimSteps.{claiming_law, connecting_law}
use Rattle.sock_steps.proofs.WalkSteps.{emptied_law, turning_law}
use Rattle.sock_steps.proofs.WriteSteps.{freeing_law}
use Rattle.sock_steps.proofs.RuleFrame.{lasting_in, SameNotes, word_rule, still_rule, accept_rule}
use Rattle.sock_model.specs.sock_words.specs.PackedWords.{ticket_request, ticket_generation, IDLE}

-- a word of a slot, and a next word or place word, is no lasting one
low_apart : (p : Plan) (x : ℕ) → x < 6 * p.slots → ¬ Lasting p x
low_apart p x low l = let a = (lasting_in p x l).0 in omega arith

high_apart : (p : Plan) (x : ℕ) → 6 * p.slots + p.names + p.operations + p.requests ≤ x → ¬ Lasting p x
high_apart p x high l = let a = (lasting_in p x l).1 in omega arith

module _ {S : Type 0} {shows : S → Home} {p : Plan} {s : State S View} (r : Rule shows p s) (id : ℕ) (v : View) (here : get_elem? s.views id ≡ some v) (mine : v.plan ≡ p) where
  abbrev o : Lawful shows p s
  o = r.lawful

  -- a step that changes a word that isn't lasting, as a head, a next word or a place word
  pub apart_rule : (x n : ℕ) → ¬ Lasting p x → (w : View) (hs : List (Option S)) → SameNotes v w
      → Lawful shows p record { words = set s.words x n; homes = hs; views = set s.views id w } → Rule shows p record { words = set s.words x n; homes = hs; views = set s.views id w }
  apart_rule x n apart w hs same = word_rule r id v here mine w x n hs same (λ l. absurd (apart l))

  -- C1 that claims the request
  pub claiming_rule : (q g : ℕ) (c : Claim) → q < p.requests → v.claims ≡ [] → c.request ≡ q → c.generation ≡ g → c.ready ≡ false → c.filled ≡ false → get_or s.words (request_index p q) 0 ≡ 2 * g
      → Rule shows p record { words = set s.words (request_index p q) (2 * g + 1); homes = s.homes; views = set s.views id (with_claim v c) }
  claiming_rule q g c inside empty request generation ready filled word = word_rule r id v here mine (with_claim v c) (request_index p q) (2 * g + 1) s.homes record { plan = refl; found = refl; lists = refl } (λ l z. absurd (omega arith))
      (claiming_law shows p id q g v c s o here inside empty request generation ready filled word)

  -- C2, where the seat's own list has room: it found a busy head, or an idle one
  module _ (i own : ℕ) (x : MayExchange p v i own) (inside : i < p.slots) (room : length x.made < MOST_ACCEPTED) where
    abbrev found : ℕ
    found = get_or s.words (head_index i) 0

    pub queued_rule : found < IDLE → Rule shows p record { words = set s.words (head_index i) own; homes = s.homes; views = set s.views id (queued v x.claim found) }
    queued_rule busy = accept_rule r id v here mine (queued v x.claim found) (head_index i) own x.made x.taken_in (entry_of x.claim found) refl refl x.lists refl room (λ l. absurd (low_apart p (head_index i) (omega arith) l))
        (queued_law shows p s o id i own v here x busy)

    pub righted_rule : IDLE ≤ found → (sent : List ℕ) × (places : ℕ) × Rule shows p record { words = set s.words (head_index i) own; homes = s.homes; views = set s.views id (righted v x.claim found sent places) }
    righted_rule idle = let a = righted_law shows p s o id i own v here x idle in
        (a.0, a.1, accept_rule r id v here mine (righted v x.claim found a.0 a.1) (head_index i) own x.made x.taken_in (entry_of x.claim (found - IDLE)) refl refl x.lists refl room (λ l. absurd (low_apart p (head_index i) (omega arith) l)) a.2)

  -- C3
  pub connecting_rule : (i : ℕ) (l : Loose) → l.request < p.requests → get_elem? v.loose i ≡ some l → Rule shows p record { words = set s.words (next_index p l.request) l.before; homes = s.homes; views = set s.views id (without_loose v l.request) }
  connecting_rule i l inside has = apart_rule (next_index p l.request) l.before (high_apart p (next_index p l.request) (omega arith)) (without_loose v l.request) s.homes record { plan = refl; found = refl; lists = refl } (connecting_law shows p id i v l s o here inside has)

  -- C4, won
  pub emptied_rule : (i last empty : ℕ) (x : MayEmpty p v i last empty) → i < p.slots → get_or s.words (head_index i) 0 ≡ last → Rule shows p record { words = set s.words (head_index i) empty; homes = s.homes; views = set s.views id (without_right v x.mine.right.link) }
  emptied_rule i last empty x inside won = apart_rule (head_index i) empty (low_apart p (head_index i) (omega arith)) (without_right v x.mine.right.link) s.homes record { plan = refl; found = refl; lists = refl } (emptied_law shows p s o id i last empty v here x won)

  -- C6
  pub turning_rule : (value : ℕ) (x : MayTurn v value) → Rule shows p record { words = set s.words (next_index p (ticket_request x.at)) value; homes = s.homes; views = set s.views id (with_right v (turned_right x.mine.right x.top x.at x.before)) }
  turning_rule value x = let w : Right = turned_right x.mine.right x.top x.at x.before in
      apart_rule (next_index p (ticket_request x.at)) value (high_apart p (next_index p (ticket_request x.at)) (omega arith)) (with_right v (turned_right x.mine.right x.top x.at x.before)) s.homes record { plan = refl; found = refl; lists = refl } (turning_law shows p s o id value v here x)

  -- C8
  pub freeing_rule : (i now : ℕ) (b : Stage) (right : Right) → get_elem? v.rights i ≡ some right → Leads right.last right.stage now b → ticket_generation now < 140737488355327
      → Rule shows p record { words = set s.words (request_index p (ticket_request now)) (2 * (ticket_generation now + 1)); homes = s.homes; views = set s.views id (with_right v (record right { stage = b })) }
  freeing_rule i now b right has leads small = word_rule r id v here mine (with_right v (record right { stage = b })) (request_index p (ticket_request now)) (2 * (ticket_generation now + 1)) s.homes record { plan = refl; found = refl; lists = refl } (λ l z. absurd (omega arith))
      (freeing_law shows p id i now b v right s o here has leads small)

  -- the right's other steps: C4 lost, C5, M2, A8, L1 and L2 change no word, and P1 a place word
  pub right_rule : (right : Right) (hs : List (Option S)) → Lawful shows p record { words = s.words; homes = hs; views = set s.views id (with_right v right) } → Rule shows p record { words = s.words; homes = hs; views = set s.views id (with_right v right) }
  right_rule right hs = still_rule r id v here mine (with_right v right) hs record { plan = refl; found = refl; lists = refl }

  pub place_rule : (l n : ℕ) (right : Right) (hs : List (Option S)) → Lawful shows p record { words = set s.words (place_index p l) n; homes = hs; views = set s.views id (with_right v right) }
      → Rule shows p record { words = set s.words (place_index p l) n; homes = hs; views = set s.views id (with_right v right) }
  place_rule l n right hs = apart_rule (place_index p l) n (high_apart p (place_index p l) (omega arith)) (with_right v right) hs record { plan = refl; found = refl; lists = refl }

  -- and a claim's: C7 changes a next word, M1 none
  pub ready_rule : (q n : ℕ) (c : Claim) → Lawful shows p record { words = set s.words (next_index p q) n; homes = s.homes; views = set s.views id (with_claim v c) } → Rule shows p record { words = set s.words (next_index p q) n; homes = s.homes; views = set s.views id (with_claim v c) }
  ready_rule q n c = apart_rule (next_index p q) n (high_apart p (next_index p q) (omega arith)) (with_claim v c) s.homes record { plan = refl; found = refl; lists = refl }

  pub fill_rule : (c : Claim) (hs : List (Option S)) → Lawful shows p record { words = s.words; homes = hs; views = set s.views id (with_claim v c) } → Rule shows p record { words = s.words; homes = hs; views = set s.views id (with_claim v c) }
  fill_rule c hs = still_rule r id v here mine (with_claim v c) hs record { plan = refl; found = refl; lists = refl }
