-- A `send` is allowed from what its seat has: the message is accepted or not, and whoever finds an idle head writes the link.
use Rattle.std.proofs.Common.{◌≡◌, ◌≢◌, ℕ, zero, suc, ◌+◌, ◌-◌, ◌*◌, ◌/◌, ◌%◌, ◌<◌, ◌≤◌, Bool, true, false, not, List, [], ◌∷◌, ◌++◌, length, filter, refl, sym, ap, ◌∙◌, subst, inl, inr, arith, cond, eqb, ltb, eq-eqb, length-append}
use Rattle.sock_words.specs.declared.plain.Plan.{Plan}
use Rattle.std.proofs.lemmas.Bool.{cond_both}
use Rattle.sock_words.specs.declared.outcome.Outcome.{Outcome}
use Rattle.sock_words.specs.declared.outcome.Outcome.TheVariants.{Unopened, Gone, Full}
use Rattle.sock_words.specs.PackedWords.{socket_id_version, socket_id_slot, vref_version, ticket_request, IDLE}
use Rattle.sock_model.specs.declared.chain.Claim.{Claim}
use Rattle.sock_model.specs.declared.chain.Entry.{Entry}
use Rattle.sock_model.specs.declared.chain.Heading.{Heading}
use Rattle.sock_model.specs.declared.chain.Loose.{Loose}
use Rattle.sock_model.specs.declared.chain.Right.{Right}
use Rattle.sock_model.specs.declared.marks.Mark.{Mark}
use Rattle.sock_model.specs.declared.marks.Mark.TheVariants.{Hold, Saw, Met, Failer, Stored, Told}
use Rattle.sock_model.specs.declared.marks.SlotMark.{SlotMark}
use Rattle.sock_model.specs.declared.view.View.{View}
use Rattle.sock_model.specs.MarkWeights.{is_hold, is_met}
use Rattle.sock_model.specs.Marks.{about}
use Rattle.sock_model.specs.SlotRows.{marks_of, looked, met_link}
use Rattle.sock_model.specs.ChainRows.{with_claim, entry_of, more, queued, righted, new_right, without_loose, taken_right, ready_claim, filled_claim}
use Rattle.sock_model.specs.Entries.{ticket_of}
use Rattle.seat_programs.specs.TableSteps.{OnChain, Connect}
use Rattle.seat_programs.specs.Programs.{Program, Do, Say, Sent, TakeMessage, TakeHome, release}
use Rattle.seat_programs.specs.SendAndWritePrograms.{write_link, first_put, heading_of, accept, claim_from, start, send}
use Rattle.seat_programs.specs.ClientProgram.{HeldLife}
use Rattle.program_walks.specs.program_steps.proofs.AllowedRounds.{first_goes, about_top}
use Rattle.seat_programs.specs.StepViews.{by_right}
use Rattle.seat_programs.specs.StepsOfSlots.{looked_clean}
use Rattle.seat_programs.specs.StepsOfChain.{new_claim}
use Rattle.program_walks.specs.program_steps.specs.Writes.{IsNote, AreNotes, behind}
use Rattle.program_walks.specs.program_steps.specs.ProgramGoesOn.{GoesOn}
use Rattle.slot_steps.proofs.RuleNumbers.{only-same, pair-same}
use Rattle.program_walks.specs.program_steps.specs.WhatSeatHas.{Has, OfTokens}
use Rattle.programs_allowed.proofs.WeighingWhatSeatHas.{probes, codings, refs_few, no_links, tokens}
use Rattle.programs_allowed.proofs.ListOfHeldLives.{about_share}
use Rattle.programs_allowed.proofs.AllowedProgramSteps.{noted, first}
use Rattle.programs_allowed.proofs.OperationParts.{Ready, release_goes, reach_goes}
use Rattle.sock_words.specs.Totals.{total}

-- ## Notes of a writer

note_weighs : (f : Mark → ℕ) → OfTokens f → (m : Mark) → IsNote m → f m ≡ 0
note_weighs f o (Saw w) is = o.saw w
note_weighs f o (Failer h) is = o.failer h
note_weighs f o (Stored h c) is = o.stored h c
note_weighs f o (Told h c) is = o.told h c
note_weighs f o (Met h k) is = o.met h k
note_weighs f o _ is = absurd is

notes_weigh : (f : Mark → ℕ) → OfTokens f → (j : ℕ) (notes es : List SlotMark) → AreNotes notes → total f (about j (notes ++ es)) ≡ total f (about j es)
notes_weigh f o j [] es are = refl
notes_weigh f o j (m ∷ notes) es are = about_share f j m.slot m.mark (notes ++ es) ∙ (ap (λ x. cond (eqb m.slot j) x 0 + total f (about j (notes ++ es))) (note_weighs f o m.mark are.0)
    ∙ (nothing (eqb m.slot j) (total f (about j (notes ++ es))) ∙ notes_weigh f o j notes es are.1))
  where
    nothing : (b : Bool) (n : ℕ) → cond b 0 0 + n ≡ n
    nothing true n = omega arith
    nothing false n = omega arith

-- whoever wrote a link has behind it what it had before
pub behind_has : {lists : List (List Entry)} {s : ℕ} {t : List Mark} {held : List HeldLife} {passes links : List ℕ} {v : View} → Has lists s t held passes links v → (notes : List SlotMark) → AreNotes notes → Has lists s t held passes links (behind notes v)
behind_has {lists} {s} {t} {held} {passes} {links} {v} a notes are = record {
  rest = a.rest;
  idle = a.idle;
  here = λ f o. notes_weigh f o s notes v.marks are ∙ a.here f o;
  other = λ f o j n. notes_weigh f o j notes v.marks are ∙ a.other f o j n;
  passes_are = a.passes_are;
  hands_are = a.hands_are;
  lists_are = a.lists_are;
  quiet = record { claims = a.quiet.claims; loose = a.quiet.loose; rights = refl };
}

-- ## The link is written

-- the seat has one right, to this link
one_right : (k : ℕ) → (r : Right) → r.link ≡ k → filter (λ (x : Right). not (eqb x.link k)) (r ∷ []) ≡ []
one_right k r e = ap (λ b. cond (not b) (r ∷ []) []) (eq-eqb r.link k e)

abbrev writing : Right → View → View
writing r v = record v { rights = r ∷ [] }

-- the request of a ticket
slot_is : (q g : ℕ) → q < 65535 → ticket_request (ticket_of q g) ≡ q
slot_is q g small = omega (arith, small)

-- the right of whoever found an idle head, with the link in hand, and then with the message
abbrev right_away : Claim → ℕ → List ℕ → ℕ → Right
right_away c found sent places = record (new_right c found sent places) { at_home = false }

abbrev own_of : Claim → ℕ
own_of c = ticket_of c.request c.generation

module _ (p : Plan) {lists : List (List Entry)} {held : List HeldLife} {passes : List ℕ} (id : ℕ) (inside : socket_id_slot id < p.slots) (few : length held ≤ 4096) (after : Program)
    (goes : (u : View) → Has lists (socket_id_slot id) (Hold (socket_id_version id) ∷ []) held passes [] u → GoesOn p u after) (c : Claim) (found : ℕ) (sent : List ℕ) (places : ℕ) where
  abbrev puts_of : Heading → List ℕ → Program
  puts_of heading bytes = first_put (record { id = id; link = c.link; last = own_of c; places = places }) (own_of c) heading bytes after

  -- at the head of the loop the message is in hand
  puts_goes : {w : View} → Has lists (socket_id_slot id) (Hold (socket_id_version id) ∷ []) held passes [] w → 0 < marks_of (is_met (socket_id_version id) c.link) (socket_id_slot id) w → (heading : Heading) (bytes : List ℕ)
      → heading.label.place < 8 * p.operations → bytes ≢ [] → GoesOn p (writing (taken_right (right_away c found sent places) heading bytes) w) (puts_of heading bytes)
  puts_goes {w} a met heading bytes label some_ = let h : ℕ = socket_id_version id in first_goes p after (record { id = id; link = c.link; last = own_of c; places = places }) (own_of c) heading bytes 0 refl
      (writing (taken_right (right_away c found sent places) heading bytes) w)
      (taken_right (right_away c found sent places) heading bytes)
      (record {
        one = refl;
        claims = a.quiet.claims;
        loose = a.quiet.loose;
        hands = no_links w.hands a.hands_are;
        link = refl;
        last = refl;
        places = refl;
        away = refl;
        holds = record { inside = inside; held = first (Hold h) a (is_hold h) (tokens (is_hold h) refl) (only-same h); met = met };
        room = omega (arith, refs_few a, few);
        no_probe = probes a;
        no_coding = codings a;
      })
      (record { stage = refl; in_hand = refl; heading_is = refl; put = refl; left_is = refl; some_left = some_; clean = λ z. absurd (omega (arith, z)); label_in = label })
      (λ notes are. goes (behind notes w) (behind_has a notes are))

  message_goes : {w : View} → Has lists (socket_id_slot id) (Hold (socket_id_version id) ∷ []) held passes [] w → 0 < marks_of (is_met (socket_id_version id) c.link) (socket_id_slot id) w → (q : ℕ) → ticket_request (own_of c) ≡ q
      → GoesOn p (writing (right_away c found sent places) w) (TakeMessage q puts_of)
  message_goes {w} a met q is = let r : Right = right_away c found sent places in (
    (r, own_of c, refl, refl, refl, is, refl),
    λ heading bytes label some_. subst (λ rs. GoesOn p (record w { rights = taken_right r heading bytes ∷ rs }) (puts_of heading bytes)) (sym (one_right c.link r refl)) (puts_goes a met heading bytes label some_),
  )

  home_goes : {w : View} → Has lists (socket_id_slot id) (Hold (socket_id_version id) ∷ []) held passes [] w → 0 < marks_of (is_met (socket_id_version id) c.link) (socket_id_slot id) w → (q : ℕ) → ticket_request (own_of c) ≡ q
      → GoesOn p (writing (new_right c found sent places) w) (TakeHome c.link (λ n. TakeMessage q (λ heading bytes. first_put (record { id = id; link = c.link; last = own_of c; places = n }) (own_of c) heading bytes after)))
  home_goes {w} a met q is = let r : Right = new_right c found sent places in (
    r,
    (refl, refl, refl, no_links w.hands a.hands_are),
    refl,
    subst (λ rs. GoesOn p (record w { rights = right_away c found sent places ∷ rs }) (TakeMessage q puts_of)) (sym (one_right c.link r refl)) (message_goes a met q is),
  )

  write_link_goes : {w : View} → Has lists (socket_id_slot id) (Hold (socket_id_version id) ∷ []) held passes [] w → 0 < marks_of (is_met (socket_id_version id) c.link) (socket_id_slot id) w → (q : ℕ) → ticket_request (own_of c) ≡ q
      → GoesOn p (writing (new_right c found sent places) w) (write_link id q (own_of c) after)
  write_link_goes {w} a met q is = let i : ℕ = socket_id_slot id in let h : ℕ = socket_id_version id in let r : Right = new_right c found sent places in (
    (inside, first (Hold h) a (is_hold h) (tokens (is_hold h) refl) (only-same h)),
    λ k hand f. subst (λ x. GoesOn p (writing r (met_link i h x w)) (TakeHome x (λ n. TakeMessage q (λ heading bytes. first_put (record { id = id; link = x; last = own_of c; places = n }) (own_of c) heading bytes after))))
        (sym (f.1 c.link met)) (home_goes (noted a (Met h c.link) (λ f o. o.met h c.link)) (omega (arith, about_top (is_met h c.link) i (Met h c.link) w.marks, pair-same h c.link)) q is),
  )

-- ## The message is accepted

-- an entry more in the seat's own list
abbrev accepted : View → Entry → View
accepted v e = record v { claims = []; lists = more v.lists e }

-- a view with other claims, entries, rights and lists, and else the same
resting : {lists : List (List Entry)} {s : ℕ} {t : List Mark} {held : List HeldLife} {passes links : List ℕ} {v : View} → Has lists s t held passes links v → (claims : List Claim) (loose : List Loose) (rights : List Right) (its : List (List Entry))
    → claims ≡ [] → loose ≡ [] → rights ≡ [] → Has its s t held passes links (record v { claims = claims; loose = loose; rights = rights; lists = its })
resting a claims loose rights its c l r = record { rest = a.rest; idle = a.idle; here = a.here; other = a.other; passes_are = a.passes_are; hands_are = a.hands_are; lists_are = refl; quiet = record { claims = c; loose = l; rights = r } }

accepted_has : {made : List Entry} {s : ℕ} {t : List Mark} {held : List HeldLife} {passes links : List ℕ} {v : View} → Has (made ∷ []) s t held passes links v → (e : Entry) → Has ((made ++ e ∷ []) ∷ []) s t held passes links (accepted v e)
accepted_has {made} {s} {t} {held} {passes} {links} {v} a e = subst (λ l. Has l s t held passes links (accepted v e)) (ap (λ l. more l e) a.lists_are) (resting a [] v.loose v.rights (more v.lists e) refl a.quiet.loose a.quiet.rights)

-- and it is connected
connected_has : {lists : List (List Entry)} {s : ℕ} {t : List Mark} {held : List HeldLife} {passes links : List ℕ} {v : View} → Has lists s t held passes links v → (q before : ℕ)
    → Has lists s t held passes links (without_loose (record v { loose = (record { request = q; before = before }) ∷ v.loose }) q)
connected_has {lists} {s} {t} {held} {passes} {links} {v} a q before = let x : Loose = record { request = q; before = before } in
    subst (λ l. Has l s t held passes links (without_loose (record v { loose = x ∷ v.loose }) q)) a.lists_are (resting a v.claims (filter (λ (y : Loose). not (eqb y.request q)) (x ∷ v.loose)) v.rights v.lists a.quiet.claims
    (ap (λ l. filter (λ (y : Loose). not (eqb y.request q)) (x ∷ l)) a.quiet.loose ∙ ap (λ b. cond (not b) (x ∷ []) []) (eq-eqb q q refl)) a.quiet.rights)

module _ (p : Plan) (made : List Entry) {held : List HeldLife} {passes : List ℕ} (id : ℕ) (inside : socket_id_slot id < p.slots) (few : length held ≤ 4096) (requests : p.requests ≤ 4096)
    (after : Program)
    (goes : (longer : List Entry) → length longer ≤ length made + 1 → (u : View) → Has (longer ∷ []) (socket_id_slot id) (Hold (socket_id_version id) ∷ []) held passes [] u → GoesOn p u after) where
  longer_by : (e : Entry) → length (made ++ e ∷ []) ≤ length made + 1
  longer_by e = omega (arith, length-append made (e ∷ []))

  exchange_branch : {w : View} → Has (made ∷ []) (socket_id_slot id) (Hold (socket_id_version id) ∷ []) held passes [] w → (c : Claim) → 0 < marks_of (is_met (socket_id_version id) c.link) (socket_id_slot id) w
      → c.request < p.requests → (b : Bool) (found : ℕ) (took : List ℕ) (next : ℕ)
      → GoesOn p (cond b (queued (record w { claims = c ∷ [] }) c found) (righted (record w { claims = c ∷ [] }) c found took next)) (cond b (Do (OnChain (Connect c.request found)) (λ _. after)) (write_link id c.request (own_of c) after))
  exchange_branch {w} a c met in_table true found took next = let e : Entry = entry_of c found in (
    (in_table, (0, refl)),
    λ _ hand f. goes (made ++ e ∷ []) (longer_by e) _ (connected_has (accepted_has a e) c.request found),
  )
  exchange_branch {w} a c met in_table false found took next = let e : Entry = entry_of c (found - IDLE) in
      subst (λ rs. GoesOn p (record (accepted w e) { rights = new_right c found took next ∷ rs }) (write_link id c.request (own_of c) after)) (sym a.quiet.rights)
      (write_link_goes p id inside few after (goes (made ++ e ∷ []) (longer_by e)) c found took next (accepted_has a e) met c.request (slot_is c.request c.generation (omega (arith, in_table, requests))))

  pub accept_goes : {w : View} → Has (made ∷ []) (socket_id_slot id) (Hold (socket_id_version id) ∷ []) held passes [] w → (k q word : ℕ) → 0 < marks_of (is_met (socket_id_version id) k) (socket_id_slot id) w
      → q < p.requests → (heading : Heading) (bytes : List ℕ) → heading.label.place < 8 * p.operations → bytes ≢ []
      → GoesOn p (record w { claims = new_claim k q word ∷ [] }) (accept id q (word / 2) heading bytes after)
  accept_goes {w} a k q word met in_table heading bytes label some_ = let h : ℕ = socket_id_version id in
      let c₁ : Claim = new_claim k q word in let c₂ : Claim = filled_claim c₁ heading bytes in let c₃ : Claim = ready_claim c₂ in (
        (in_table, (c₁, refl, refl), label, some_),
        λ x₁ hand₁ f₁. (
          (in_table, (c₂, refl, refl)),
          λ x₂ hand₂ f₂. (
            (
              inside,
              record {
                claim = c₃;
                claims = refl;
                is_filled = refl;
                is_ready = refl;
                own_is = refl;
                request_in = in_table;
                life = h;
                holds = record { inside = inside; held = first (Hold h) a (is_hold h) (tokens (is_hold h) refl) (only-same h); met = met };
                made = made;
                taken_in = [];
                lists = a.lists_are;
              },
            ),
            λ found hand f. exchange_branch a c₃ met in_table (ltb found IDLE) found hand.took hand.next,
          ),
        ),
      )

-- ## A request is claimed

module _ (p : Plan) (made : List Entry) {held : List HeldLife} {passes : List ℕ} (few : length held ≤ 4096) (requests : p.requests ≤ 4096) (o : ℕ) (mine : o < p.operations)
    (bytes : List ℕ) (some_ : bytes ≢ []) (next : Program)
    (goes : (longer : List Entry) → length longer ≤ length made + 1 → (u : View) → Ready (longer ∷ []) held passes u → GoesOn p u next) where
  -- behind an accepted message
  release_sent : (longer : List Entry) → length longer ≤ length made + 1 → (id : ℕ) {v : View} → socket_id_slot id < p.slots → Has (longer ∷ []) (socket_id_slot id) (Hold (socket_id_version id) ∷ []) held passes [] v
      → GoesOn p v (release (socket_id_slot id) (λ _. Sent o next))
  release_sent longer most id inside a = release_goes p (socket_id_slot id) (Hold (socket_id_version id)) a (inr (socket_id_version id, refl, refl)) inside (λ _. Sent o next) (λ b u. goes longer most u)

  -- and where none was accepted, with what is said of it
  release_says : (id : ℕ) (outcome : Outcome) {v : View} → socket_id_slot id < p.slots → Has (made ∷ []) (socket_id_slot id) (Hold (socket_id_version id) ∷ []) held passes [] v
      → GoesOn p v (release (socket_id_slot id) (λ _. Say o outcome next))
  release_says id outcome inside a = release_goes p (socket_id_slot id) (Hold (socket_id_version id)) a (inr (socket_id_version id, refl, refl)) inside (λ _. Say o outcome next) (λ b u. goes made (omega arith) u)

  claim_from_goes : (left q id : ℕ) {v : View} → q + left ≤ p.requests → socket_id_slot id < p.slots → Has (made ∷ []) (socket_id_slot id) (Hold (socket_id_version id) ∷ []) held passes [] v
      → GoesOn p v (claim_from left q o id bytes next)
  claim_from_goes zero q id fits inside a = release_says id Full inside a
  claim_from_goes (suc left) q id {v} fits inside a = let i : ℕ = socket_id_slot id in let h : ℕ = socket_id_version id in (
    (omega (arith, fits), (inside, first (Hold h) a (is_hold h) (tokens (is_hold h) refl) (only-same h)), a.quiet.claims),
    λ found hand f. branch (claim_from_goes left (q + 1) id (omega (arith, fits)) inside a) (eqb (found % 2) 0) found hand.link,
  )
    where
      branch : GoesOn p v (claim_from left (q + 1) o id bytes next) → (b : Bool) (found k : ℕ) → GoesOn p (cond b (with_claim (met_link (socket_id_slot id) (socket_id_version id) k v) (new_claim k q found)) v)
          (cond b (accept id q (found / 2) (heading_of o) bytes (release (socket_id_slot id) (λ _. Sent o next))) (claim_from left (q + 1) o id bytes next))
      branch lost true found k = let i : ℕ = socket_id_slot id in let h : ℕ = socket_id_version id in
          accept_goes p made id inside few requests (release i (λ _. Sent o next)) (λ longer most u b. release_sent longer most id inside b)
          (noted a (Met h k) (λ f o. o.met h k)) k q found (omega (arith, about_top (is_met h k) i (Met h k) v.marks, pair-same h k)) (omega (arith, fits)) (heading_of o) bytes (omega (arith, mine)) some_
      branch lost false found k = lost

  start_goes : (id : ℕ) {v : View} → socket_id_slot id < p.slots → Has (made ∷ []) (socket_id_slot id) (Hold (socket_id_version id) ∷ []) held passes [] v → GoesOn p v (start p.requests o id bytes next)
  start_goes id {v} inside a = let i : ℕ = socket_id_slot id in (
    (inside, inl a.quiet.rights, first (Hold (socket_id_version id)) a (is_hold (socket_id_version id)) (tokens (is_hold (socket_id_version id)) refl) (only-same (socket_id_version id))),
    λ found hand f. let b = noted a (Saw (vref_version found)) (λ g o. o.saw (vref_version found)) in let gone : Program = release i (λ _. Say o (Gone (record { 0 = found })) next) in
        subst (λ rs. GoesOn p (by_right rs (looked_clean i found v) (looked i found v)) (cond (eqb (vref_version found % 2) 0) (claim_from p.requests 0 o id bytes next) gone)) (sym a.quiet.rights)
        (cond_both (eqb (vref_version found % 2) 0) (claim_from p.requests 0 o id bytes next) gone (GoesOn p (looked i found v)) (λ _. claim_from_goes p.requests 0 id (omega arith) inside b)
        (λ _. release_says id (Gone (record { 0 = found })) inside b)),
  )

  -- the message has some bytes
  pub send_goes : (name : ℕ) {v : View} → name < p.names → Ready (made ∷ []) held passes v → GoesOn p v (send p.requests o name bytes next)
  send_goes name {v} named a = reach_goes p name named a few (Say o Unopened next) (λ id. start p.requests o id bytes next) (λ found. Say o (Gone (record { 0 = found })) next)
      (goes made (omega arith) v a) (λ id u inside b. start_goes id inside b) (λ u found. goes made (omega arith) u)
