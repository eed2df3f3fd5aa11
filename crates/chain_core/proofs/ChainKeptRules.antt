-- Each step on the words of a chain keeps the rule, as the laws of the steps say it of the word that is there.
use Rattle.std.proofs.Common.{◌≡◌, ◌≢◌, ℕ, ◌+◌, ◌*◌, ◌/◌, ◌%◌, ◌<◌, ◌≤◌, ◌⊎◌, true, false, cond, eqb, eq-eqb, ne_eqb, List, [], ◌∷◌, get_or, set, refl, sym, ap, ◌∙◌, subst, arith, bit_or, bit_and, ⊎_elim}
use Rattle.std.specs.Int.Bits.{or_add_and}
use Rattle.std.proofs.lemmas.Nat.Bits.{and_pow}
use lib.Seq.{set-get_or}
use lib.ListN.{get_elem?}
use mathlib.Core.Option.{none, some}
use Rattle.atomic_table.specs.Table.{State, stepped, keeps}
use Rattle.sock_words.specs.declared.plain.Plan.{Plan}
use Rattle.sock_model.specs.declared.chain.Heading.{Heading}
use Rattle.sock_model.specs.declared.chain.Right.{Right}
use Rattle.sock_model.specs.declared.chain.Stage.{Stage}
use Rattle.sock_model.specs.declared.chain.Stage.TheVariants.{Placed, Passes}
use Rattle.sock_model.specs.declared.home.Home.{Home}
use Rattle.sock_model.specs.declared.view.View.{View}
use Rattle.sock_model.specs.SocketTableLayout.{head_index, next_index, request_index}
use Rattle.sock_model.specs.ChainRows.{with_claim, fresh_claim, ready_claim, queued, new_right, righted, without_loose, with_right, without_right, walking_right, passing_right, reading_right, turned_right, freed_right, freed_stage}
use Rattle.sock_model.specs.ChainLawReads.{link_home}
use Rattle.sock_model.specs.LawfulSockets.{Lawful}
use Rattle.sock_model.specs.KeepingSocketRule.{KeepsRule, LawfulAfter}
use Rattle.sock_model.specs.Rule.{Rule, noting}
use Rattle.sock_steps.specs.chain_steps.proofs.TicketLists.{at_length}
use Rattle.sock_steps.specs.chain_steps.proofs.Grow.{last_small}
use Rattle.sock_steps.specs.chain_steps.proofs.ChainHeadSteps.{held_of}
use Rattle.sock_steps.specs.chain_steps.proofs.Frees.{Leads, to_end, to_next}
use Rattle.sock_steps.proofs.RightSteps.{right_in, right_alone}
use Rattle.sock_steps.proofs.Maps.{set_at}
use Rattle.sock_steps.proofs.SlotSteps.{idle_law}
use Rattle.sock_steps.proofs.ClaimSteps.{claiming_law, connecting_law, readying_law, claim_alone}
use Rattle.sock_steps.proofs.AcceptSteps.{queued_law, righted_law}
use Rattle.sock_steps.proofs.WalkSteps.{passing_law, reading_law, emptied_law, walking_law, turning_law}
use Rattle.sock_steps.proofs.WriteSteps.{freeing_law}
use Rattle.sock_steps.proofs.Retire.{passing_last_law}
use Rattle.sock_steps.proofs.NotingLastingWords.{tried_rule}
use Rattle.sock_model.specs.ChainStepConditions.{HasClaim}
use Rattle.chain_core.specs.RequestStepConditions.{MayLook, MayClaim, MaySwap, MayConnect, MayTry, MayPass, MayRead, MayRetire, MayTurnTo, MayFree}
use Rattle.chain_core.specs.RightsOfIdleHead.{TakesRight}
use Rattle.chain_core.specs.TakenRequestNote.{NotesTaken}
use Rattle.sock_words.specs.PackedWords.{ticket_request, IDLE, UNCONNECTED}

-- ## Numbers

pub or_free : (found : ℕ) → found % 2 ≡ 0 → bit_or found 1 ≡ found + 1
or_free found free = let a = or_add_and found 1 in let b : bit_and found 1 ≡ found / 1 % 2 * 1 = and_pow found 0 in omega arith

pub or_taken : (found : ℕ) → found % 2 ≡ 1 → bit_or found 1 ≡ found
or_taken found taken = let a = or_add_and found 1 in let b : bit_and found 1 ≡ found / 1 % 2 * 1 = and_pow found 0 in omega arith

pub tests_free : (found : ℕ) → found % 2 ≡ 0 → eqb (bit_and found 1) 0 ≡ true
tests_free found free = let b : bit_and found 1 ≡ found / 1 % 2 * 1 = and_pow found 0 in eq-eqb (bit_and found 1) 0 (omega arith)

pub tests_taken : (found : ℕ) → found % 2 ≡ 1 → eqb (bit_and found 1) 0 ≡ false
tests_taken found taken = let b : bit_and found 1 ≡ found / 1 % 2 * 1 = and_pow found 0 in ne_eqb (bit_and found 1) 0 (λ e. omega arith)

or_idle : (found : ℕ) → found < IDLE → bit_or found 9223372036854775808 ≡ IDLE + found
or_idle found low = let a = or_add_and found 9223372036854775808 in let b : bit_and found 9223372036854775808 ≡ found / 9223372036854775808 % 2 * 9223372036854775808 = and_pow found 63 in omega arith

-- ## Loads

-- a word that stays as it is
still : (p : Plan) (s : State Home View) (place found id : ℕ) (w : View) → get_or s.words place 0 ≡ found → Lawful (λ home. home) p record { words = s.words; homes = s.homes; views = set s.views id w } → LawfulAfter p s place found id w
still p s place found id w is o = subst (λ x. LawfulAfter p s place x id w) is (subst (λ ws. Lawful (λ home. home) p record { words = ws; homes = s.homes; views = set s.views id w }) (sym (set-get_or s.words place 0)) o)

-- C1 of a taken word, and C5 that finds no ticket
pub looks : (place : Plan → ℕ) (found : ℕ) → KeepsRule MayLook place found found (λ p v m. v)
looks place found p s id v o here may is = subst (λ x. LawfulAfter p s (place p) x id v) is (idle_law (λ home. home) p s o id v here (place p))

-- C1 of a taken word, which the seat notes
pub notes : (r found : ℕ) → found % 2 ≡ 1 → NotesTaken r found (bit_or found 1)
notes r found taken p s id v o here mine inside is = subst (λ x. Rule (λ home. home) p (stepped s (request_index p r) (bit_or x 1) id [] (noting (request_index p r) v) keeps)) is
    (tried_rule o id v here mine r inside (omega (arith, is, taken)))

-- C5 of an entry that has its place
pub passes : (r found : ℕ) → KeepsRule (MayPass r) (λ p. next_index p r) found found (λ p v m. with_right v (passing_right m.mine.right m.now found))
passes r found p s id v o here m is =
    let word_is : get_or s.words (next_index p (ticket_request m.now)) 0 ≡ found = ap (λ q. get_or s.words (next_index p q) 0) m.request_is ∙ is in
    still p s (next_index p r) found id (with_right v (passing_right m.mine.right m.now found)) is
    (subst (λ x. Lawful (λ home. home) p record { words = s.words; homes = s.homes; views = set s.views id (with_right v (passing_right m.mine.right m.now x)) }) word_is
    (passing_law (λ home. home) p s o id v here m.mine m.now m.stage m.not_last))

-- C5 of an entry that has its place, whose request isn't given back: the next entry comes at once
pub retires : (r found : ℕ) → KeepsRule (MayRetire r) (λ p. next_index p r) found found (λ p v m. with_right v (freed_right (passing_right m.0.mine.right m.0.now found)))
retires r found p s id v o here m is =
    let word_is : get_or s.words (next_index p (ticket_request m.0.now)) 0 ≡ found = ap (λ q. get_or s.words (next_index p q) 0) m.0.request_is ∙ is in
    still p s (next_index p r) found id (with_right v (freed_right (passing_right m.0.mine.right m.0.now found))) is
    (subst (λ x. Lawful (λ home. home) p record { words = s.words; homes = s.homes; views = set s.views id (with_right v (freed_right (passing_right m.0.mine.right m.0.now x))) }) word_is
    (passing_last_law (λ home. home) p id v m.0.mine s o here m.0.now m.0.stage m.0.not_last m.1))

-- C5 on the walk
pub reads : (r found : ℕ) → found ≢ UNCONNECTED → KeepsRule (MayRead r) (λ p. next_index p r) found found (λ p v m. with_right v (reading_right m.mine.right m.top m.at m.after found))
reads r found some_ p s id v o here m is =
    let word_is : get_or s.words (next_index p (ticket_request m.at)) 0 ≡ found = ap (λ q. get_or s.words (next_index p q) 0) m.request_is ∙ is in
    still p s (next_index p r) found id (with_right v (reading_right m.mine.right m.top m.at m.after found)) is
    (subst (λ x. Lawful (λ home. home) p record { words = s.words; homes = s.homes; views = set s.views id (with_right v (reading_right m.mine.right m.top m.at m.after x)) }) word_is
    (reading_law (λ home. home) p s o id v here m.mine m.top m.at m.after m.stage (λ e. some_ (sym word_is ∙ e))))

-- ## Claims and the exchange

pub claims : (r k found : ℕ) (heading : Heading) (bytes : List ℕ) → found % 2 ≡ 0 → KeepsRule (MayClaim r) (λ p. request_index p r) found (found + 1) (λ p v m. with_claim v (fresh_claim k r found heading bytes))
claims r k found heading bytes free p s id v o here may is =
    subst (λ x. LawfulAfter p s (request_index p r) x id (with_claim v (fresh_claim k r found heading bytes))) (omega (arith, free))
    (claiming_law (λ home. home) p id r (found / 2) v (fresh_claim k r found heading bytes) s o here may.0 may.1 refl refl refl refl (omega (arith, is, free)))

pub unconnects : (r found : ℕ) → KeepsRule (HasClaim r) (λ p. next_index p r) found UNCONNECTED (λ p v m. with_claim v (ready_claim m.claim))
unconnects r found p s id v o here m is =
    readying_law o id r v m.claim (ready_claim m.claim) here m.request_in m.claims m.request_is m.request_is refl
    (λ filled. o.messages.claimed r m.claim m.request_in (claim_alone o id r v m.claim (ready_claim m.claim) here m.request_in m.claims m.request_is m.request_is) filled)

pub queues : (i own found : ℕ) → found < IDLE → KeepsRule (MaySwap i own) (λ p. head_index i) found own (λ p v m. queued v m.claim found)
queues i own found low p s id v o here m is = subst (λ x. LawfulAfter p s (head_index i) own id (queued v m.claim x)) is
    (queued_law (λ home. home) p s o id i own v here m (omega (arith, is, low)))

-- the link of a right that says so is at home
at_home : (p : Plan) (s : State Home View) (id : ℕ) (v w : View) (r : Right) (rest : List Right) (words : List ℕ) → get_elem? s.views id ≡ some v → w.rights ≡ r ∷ rest → r.at_home ≡ true
    → Lawful (λ home. home) p record { words = words; homes = s.homes; views = set s.views id w } → link_home (λ home. home) p s.homes r.link ≡ some (r.sent, r.places)
at_home p s id v w r rest words here has home o =
    let here' = set_at s.views id w (at_length s.views id v here) in let has' : get_elem? w.rights 0 ≡ some r = ap (λ l. get_elem? l 0) has in
    o.homes.busy r.link r (right_in o id 0 w r here' has') (right_alone o id 0 w r here' has') ∙ ap (λ b. cond b (some (r.sent, r.places)) none) home

pub rights : (i own found : ℕ) → IDLE ≤ found → TakesRight i own found own
rights i own found high p s id v o here m is =
    let a : (sent : List ℕ) × (places : ℕ) × LawfulAfter p s (head_index i) own id (righted v m.claim found sent places) = subst (λ x. (sent : List ℕ) × (places : ℕ) × LawfulAfter p s (head_index i) own id (righted v m.claim x sent places)) is
    (righted_law (λ home. home) p s o id i own v here m (omega (arith, is, high))) in
    (a.0, a.1, at_home p s id v (righted v m.claim found a.0 a.1) (new_right m.claim found a.0 a.1) v.rights (set s.words (head_index i) own) here refl refl a.2, a.2)

pub connects : (r before found : ℕ) → KeepsRule (MayConnect r before) (λ p. next_index p r) found before (λ p v m. without_loose v r)
connects r before found p s id v o here m is = connecting_law (λ home. home) p id m.place v (record { request = r; before = before }) s o here m.request_in m.has

-- ## The right

pub empties : (i last found : ℕ) → found ≡ last → KeepsRule (MayTry i last) (λ p. head_index i) found (bit_or found 9223372036854775808) (λ p v m. without_right v m.mine.right.link)
empties i last found hit p s id v o here m is =
    let kl = right_in o id m.mine.place v m.mine.right here m.mine.has in
    let held = (held_of o.chains m.mine.right.link m.mine.right kl (right_alone o id m.mine.place v m.mine.right here m.mine.has)).1 in
    let small = last_small o.chains m.mine.right.link held.counts.noted o.fits.narrow (let f = held.fits in omega arith) in
    let low : found < IDLE = omega (arith, held.last_is, m.last_is, small, hit) in
    subst (λ x. LawfulAfter p s (head_index i) x id (without_right v m.mine.right.link)) (ap (λ x. IDLE + x) (sym hit) ∙ sym (or_idle found low))
    (emptied_law (λ home. home) p s o id i last (IDLE + last) v here m (is ∙ hit))

pub walks : (i last found : ℕ) → found ≢ last → KeepsRule (MayTry i last) (λ p. head_index i) found found (λ p v m. with_right v (walking_right m.mine.right found))
walks i last found miss p s id v o here m is = still p s (head_index i) found id (with_right v (walking_right m.mine.right found)) is
    (walking_law (λ home. home) p s o id i last (IDLE + last) v here m found is miss)

pub turns : (r value found : ℕ) → KeepsRule (MayTurnTo r value) (λ p. next_index p r) found value (λ p v m. with_right v (turned_right m.0.mine.right m.0.top m.0.at m.0.before))
turns r value found p s id v o here m is = subst (λ q. LawfulAfter p s (next_index p q) value id (with_right v (turned_right m.0.mine.right m.0.top m.0.at m.0.before))) m.1
    (turning_law (λ home. home) p s o id value v here m.0)

passed_leads : (last now : ℕ) (stage : Stage) → ((stage ≡ Placed now) × (now ≡ last)) ⊎ ((next : ℕ) × (stage ≡ Passes now next)) → Leads last stage now (freed_stage stage)
passed_leads last now stage h = ⊎_elim
    (λ a. subst (λ b. Leads last b now (freed_stage b)) (sym a.0) (to_end now a.1))
    (λ b. subst (λ c. Leads last c now (freed_stage c)) (sym b.1) (to_next now b.0)) h

pub frees : (r generation found : ℕ) → generation < 140737488355327 → KeepsRule (MayFree r generation) (λ p. request_index p r) found (2 * (generation + 1)) (λ p v m. with_right v (freed_right m.mine.right))
frees r generation found small p s id v o here m is =
    subst (λ q. LawfulAfter p s (request_index p q) (2 * (generation + 1)) id (with_right v (freed_right m.mine.right))) m.request_is
    (subst (λ g. LawfulAfter p s (request_index p (ticket_request m.now)) (2 * (g + 1)) id (with_right v (freed_right m.mine.right))) m.generation_is
    (freeing_law (λ home. home) p id m.mine.place m.now (freed_stage m.mine.right.stage) v m.mine.right s o here m.mine.has (passed_leads m.mine.right.last m.now m.mine.right.stage m.passed) (omega (arith, m.generation_is, small))))
