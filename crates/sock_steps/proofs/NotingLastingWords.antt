-- A seat notes that it found a lasting word other than 0: a name or an `open` that has an id, or, by C1, a request that is taken.
use Rattle.std.proofs.Common.{◌≡◌, ◌≢◌, ℕ, zero, suc, ◌+◌, ◌*◌, ◌/◌, ◌%◌, ◌<◌, List, [], ◌∷◌, get_or, set, bit_or, refl, sym, ap, ◌∙◌, subst, arith}
use mathlib.Core.Option.{Option, some, some-injective}
use lib.ListN.{get_elem?}
use lib.Seq.{set-get_or}
use Rattle.atomic_table.specs.Table.{State, stepped, keeps}
use Rattle.sock_model.specs.sock_words.specs.declared.plain.Plan.{Plan}
use Rattle.sock_model.specs.declared.home.Home.{Home}
use Rattle.sock_model.specs.declared.view.View.{View}
use Rattle.sock_model.specs.SocketTableLayout.{request_index}
use Rattle.sock_model.specs.ChainLawReads.{claims_of, loose_at, tokens, message}
use Rattle.sock_model.specs.LawfulSockets.{Lawful}
use Rattle.sock_model.specs.Rule.{Lasting, of_request, FoundWords, noting, Rule}
use Rattle.chain_steps.proofs.Bits.{or_one_odd}
use Rattle.chain_steps.proofs.UntouchedByChainSteps.{chains_frame}
use Rattle.chain_steps.proofs.Gather.{gather_same}
use Rattle.chain_steps.proofs.ChainLettersStay.{messages_frame}
use Rattle.chain_steps.proofs.TicketLists.{at_length}
use Rattle.sock_steps.proofs.ChainWordChanges.{beside_all}
use Rattle.sock_steps.proofs.ChainFrame.{SameSlots}
use Rattle.sock_steps.proofs.ClaimSteps.{rights_stay, other_base}
use Rattle.sock_steps.proofs.Maps.{set_at, set_twice}
use Rattle.sock_steps.proofs.RuleFrame.{lasts_all, rule_frame}

module _ {S : Type 0} {shows : S → Home} {p : Plan} {s : State S View} (id : ℕ) (v : View) (here : get_elem? s.views id ≡ some v) where
  -- what is lawful reads nothing of what seats found
  pub found_law : Lawful shows p s → (found : List ℕ) → Lawful shows p record { words = s.words; homes = s.homes; views = set s.views id (record v { found = found }) }
  found_law o found = let w : View = record v { found = found } in let same : SameSlots v (record v { found = found }) = record { plan = refl; marks = refl; passes = λ k. omega arith; spare = refl; stores = refl } in
      let rights : (k : ℕ) → (tokens (set s.views id (record v { found = found }))).rights k ≡ (tokens s.views).rights k = rights_stay o id v (record v { found = found }) here same refl refl refl in
      let claims : (q : ℕ) → (tokens (set s.views id (record v { found = found }))).claims q ≡ (tokens s.views).claims q = λ q. gather_same (claims_of q) s.views id v (record v { found = found }) here refl in
      other_base o id v (record v { found = found }) here same refl refl refl s.words s.homes (beside_all p o.slot s.words) (λ k. refl) (λ l ll. refl)
      (chains_frame o.chains (λ k kl. refl) (λ q ql. refl) (λ q ql. refl) (λ k kl. rights k) (λ q ql. claims q) (λ q ql. gather_same (loose_at q) s.views id v (record v { found = found }) here refl))
      (messages_frame o.chains o.messages (tokens (set s.views id (record v { found = found }))) (message shows s.homes) (λ q ql. refl) (λ q ql. claims q)
      (λ k e kl u. record { right = u.right; has = rights k ∙ u.has; stage = u.stage; taken = u.taken }) (λ k r kl h g. (r, sym (rights k) ∙ h, g, refl, refl, refl)))

  -- a word other than 0 that it sees may be noted
  pub note_rule : Rule shows p s → v.plan ≡ p → (x : ℕ) → Lasting p x → get_or s.words x 0 ≢ 0 → Rule shows p record { words = s.words; homes = s.homes; views = set s.views id (noting x v) }
  note_rule r mine x last some_ = rule_frame r id v here mine (noting x v) s.words s.homes refl (lasts_all p s.words) found refl (r.few_messages.short id v here) (found_law r.lawful (x ∷ v.found))
    where
      found : FoundWords p s.words (noting x v)
      found zero y e = subst (λ (z : ℕ). Lasting p z × (get_or s.words z 0 ≢ 0)) (some-injective x y e) (last, some_)
      found (suc n) y e = r.found_words id v here n y e

-- the same in the step that found it or left it there, as S6 and S7
pub step_notes : {S : Type 0} {shows : S → Home} {p : Plan} (views : List View) (id : ℕ) (v w : View) (ws : List ℕ) (hs : List (Option S)) → get_elem? views id ≡ some v → w.plan ≡ p → (x : ℕ) → Lasting p x → get_or ws x 0 ≢ 0
    → Rule shows p record { words = ws; homes = hs; views = set views id w } → Rule shows p record { words = ws; homes = hs; views = set views id (noting x w) }
step_notes {S} {shows} {p} views id v w ws hs here mine x last some_ r = let t : State S View = record { words = ws; homes = hs; views = set views id w } in
    subst (λ vs. Rule shows p record { words = ws; homes = hs; views = vs }) (set_twice views id w (noting x w)) (note_rule {s = t} id w (set_at views id w (at_length views id v here)) r mine x last some_)

-- C1 that finds the request taken: the word stays, and the seat notes that it was
pub tried_rule : {S : Type 0} {shows : S → Home} {p : Plan} {s : State S View} → Rule shows p s → (id : ℕ) (v : View) → get_elem? s.views id ≡ some v → v.plan ≡ p → (q : ℕ) → q < p.requests → get_or s.words (request_index p q) 0 % 2 ≡ 1
    → Rule shows p (stepped s (request_index p q) (bit_or (get_or s.words (request_index p q) 0) 1) id [] (noting (request_index p q) v) keeps)
tried_rule {S} {shows} {p} {s} r id v here mine q inside odd = let x : ℕ = request_index p q in let found : ℕ = get_or s.words (request_index p q) 0 in let g : ℕ = found / 2 in
    let is : found ≡ 2 * g + 1 = omega arith in let same : bit_or (get_or s.words (request_index p q) 0) 1 ≡ get_or s.words (request_index p q) 0 = ap (λ n. bit_or n 1) is ∙ (or_one_odd g ∙ sym is) in
    let words : set s.words (request_index p q) (bit_or (get_or s.words (request_index p q) 0) 1) ≡ s.words = ap (set s.words (request_index p q)) same ∙ set-get_or s.words (request_index p q) 0 in
    subst (λ ws. Rule shows p record { words = ws; homes = s.homes; views = set s.views id (noting (request_index p q) v) }) (sym words) (note_rule id v here r mine x (of_request q inside refl) (λ z. omega arith))
