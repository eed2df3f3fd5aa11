-- Whoever writes a link explains each round of its loops, and a `send` explains its outcome.
use Rattle.std.proofs.Common.{◌≡◌, ℕ, zero, suc, ◌+◌, ◌/◌, ◌%◌, ◌<◌, true, false, List, [], ◌∷◌, inl, inr, sym, refl, ap, ◌∙◌, subst, nat_lt, arith}
use Rattle.std.specs.Prelude.{Option, Some, None}
use Rattle.std.specs.List.{AllByRecursion}
use mathlib.Core.Logic.{dite}
use native.Mathlib.Decide.{ℕ_discrete}
use Rattle.sock_words.specs.PackedWords.{socket_id_version, socket_id_slot, vref_version, IDLE}
use Rattle.sock_words.specs.declared.outcome.Outcome.{Outcome}
use Rattle.sock_words.specs.declared.outcome.Outcome.TheVariants.{Unopened, Gone, Full}
use Rattle.sock_model.specs.declared.chain.Heading.{Heading}
use Rattle.sock_model.specs.Entries.{ticket_of}
use Rattle.seat_programs.specs.declared.task.Op.TheVariants as ops
use Rattle.seat_programs.specs.declared.task.Task.{Task}
use Rattle.seat_programs.specs.TableSteps.{TableStep, OnSlot, OnName, OnChain, OnMessage, AddRef, SetOdd, LoadName, LookWord, FindLink, ClaimRequest, PutMessage, Unconnect, SwapHead, Connect, CreateLife, StoreName}
use Rattle.seat_programs.specs.Writings.{Holder, Writing, Puts}
use Rattle.seat_programs.specs.Programs.{Program, Do, Say, Sent, Write, release}
use Rattle.seat_programs.specs.SendAndWritePrograms.{block, first_put, write_link, heading_of, accept, claim_from, start, send}
use Rattle.outcome_stories.specs.program_steps.specs.Writes.{holder_of}
use Rattle.outcome_stories.specs.OperationStories.{Entry, In}
use Rattle.outcome_stories.specs.Explains.{Own, Done, Explains, IsExplainedBy, Fits, Tells, TellsFail, Grew, IsWriterOf, holds, swapped, step}
use Rattle.outcome_stories.proofs.Tests.{split, split_eq}
use Rattle.outcome_stories.proofs.SharedOperationPieces.{IsMute, grew_same, grew_on, mute_grew, release_goes, reach_goes}
use Rattle.outcome_ticks.proofs.Writers.{IsStep, Writes, block_goes, first_goes, add_holds}

abbrev pub Within : List ℕ → List ℕ → Type 0
Within xs ys = (k : ℕ) → In k xs → In k ys

module _ (slots requests : ℕ) (calls : ℕ → Type 0) (done : List Done) (t : Task) (ts : List Task) where
  abbrev Goes : List ℕ → List Entry → Program → Type 0
  Goes broken trace program = Explains slots requests calls broken done trace (t ∷ ts) program

  -- ## Writing

  module _ (broken : List ℕ) (trace : List Entry) (after : Program) (follows : (longer : List Entry) (others : List ℕ) → Grew t.op trace longer → Within broken others → Goes others longer after) where
    -- the operation is at work for whoever holds this life and writes this link
    record IsAt (id k : ℕ) (bs : List ℕ) (tr : List Entry) : Type 0 where
      pub grew : Grew t.op trace tr
      pub within : Within broken bs
      pub writer : IsWriterOf t tr id k

    -- one step more, which tells nothing
    on : (id k : ℕ) (bs : List ℕ) (tr : List Entry) (call : TableStep) (found : ℕ) → IsStep id k bs call → 0 < holds (socket_id_slot id) (socket_id_version id) (step call found ∷ tr) → IsAt id k bs tr → IsAt id k bs (step call found ∷ tr)
    on id k bs tr call found its held a = record {
      grew = grew_on t.op trace tr (step call found ∷ tr) a.grew (mute call its);
      within = a.within;
      writer = record { name = a.writer.name; bytes = a.writer.bytes; op = a.writer.op; load = inr a.writer.load; link = inr a.writer.link; holds = held };
    }
      where
        mute : (c : TableStep) → IsStep id k bs c → Grew t.op tr (step c found ∷ tr)
        mute (OnSlot (CreateLife i l)) its = absurd its
        mute (OnChain (SwapHead i own)) its = absurd its
        -- a step that sets the life failed tells nothing of a `send`
        mute (OnSlot (SetOdd i)) its = record { has = λ x m. inr m; swap = refl; tells = λ o all. (subst (λ z. TellsFail z o found) (sym a.writer.op) tt, all) }
        mute c its = mute_grew t.op tr c found tt

    does : (id k : ℕ) (bs : List ℕ) (tr : List Entry) (call : TableStep) (next : ℕ → Program) → IsStep id k bs call → IsAt id k bs tr → ((found : ℕ) → Goes bs (step call found ∷ tr) (next found)) → Goes bs tr (Do call next)
    does id k bs tr call next its a goes = (fits call its, goes)
      where
        fits : (c : TableStep) → IsStep id k bs c → Fits t bs tr c
        fits (OnSlot (CreateLife i l)) its = absurd its
        fits (OnName (StoreName n w)) its = absurd its
        fits (OnChain (SwapHead i own)) its = absurd its
        fits (OnSlot (SetOdd i)) its = inr (id, k, a.writer, its.0, its.1)
        fits (OnSlot (LookWord x)) its = subst (λ y. 0 < holds (socket_id_slot y) (socket_id_version y) tr) (sym its) a.writer.holds
        fits _ its = tt

    writes : Writes slots requests calls Own done (t ∷ ts) IsAt after
    writes = record {
      on = on;
      does = does;
      held = λ id k bs tr a. a.writer.holds;
      broke = λ id k bs tr a. record { grew = a.grew; within = λ l m. inr (a.within l m); writer = a.writer };
      again = λ w bs tr a. (a.writer, λ longer others g within. follows longer others (grew_on t.op trace tr longer a.grew g) (λ k m. within k (a.within k m)));
      ends = λ id k bs tr a. follows tr bs a.grew a.within;
    }

    -- as it begins
    now : (h : Holder) → IsWriterOf t trace h.id h.link → IsAt h.id h.link broken trace
    now h writer = record { grew = grew_same t.op trace; within = λ k m. m; writer = writer }

  -- whoever writes explains each round of its loops
  pub round_goes : (broken : List ℕ) (trace : List Entry) (w : Writing) (after : Program) → Goes broken trace (Write w after) → Goes broken trace (block w after)
  round_goes broken trace w after x = block_goes slots requests calls Own done (t ∷ ts) (IsAt broken trace after x.1) after (writes broken trace after x.1) w broken trace (now broken trace after x.1 (holder_of w) x.0)

  -- and the first look before them, where it would explain the loop
  first_sent : (broken : List ℕ) (trace : List Entry) (h : Holder) (own : ℕ) (heading : Heading) (bytes : List ℕ) (after : Program) → Goes broken trace (Write (Puts h own heading bytes 0 false) after) → Goes broken trace (first_put h own heading bytes after)
  first_sent broken trace h own heading bytes after x = first_goes slots requests calls Own done (t ∷ ts) (IsAt broken trace after x.1) after (writes broken trace after x.1) h own heading bytes broken trace (now broken trace after x.1 h x.0)

  -- ## Sending

  module _ (name : ℕ) (bytes : List ℕ) (op : t.op ≡ ops.Send name bytes) (next : Program) where
    abbrev done_with : Option Outcome → List Done
    done_with outcome = (record { task = t; outcome = outcome }) ∷ done

    -- what follows explains itself behind each outcome, whichever links failed
    abbrev pub Follows : Type 0
    Follows = (outcome : Option Outcome) (broken : List ℕ) → Explains slots requests calls broken (done_with outcome) [] ts next

    says : Follows → (broken : List ℕ) (tr : List Entry) (outcome : Outcome) → IsExplainedBy slots requests done tr (ops.Send name bytes) (Some outcome) → AllByRecursion (Tells t.op (Some outcome)) tr → Goes broken tr (Say t.number outcome next)
    says follows broken tr outcome why tells = inl (refl, subst (λ z. IsExplainedBy slots requests done tr z (Some outcome)) (sym op) why, tells, follows (Some outcome) broken)

    -- behind the exchange the reference is given back
    accepted_goes : Follows → (id : ℕ) (broken : List ℕ) (tr : List Entry) → swapped tr ≡ true → AllByRecursion (Tells t.op None) tr → Goes broken tr (release (socket_id_slot id) (λ _. Sent t.number next))
    accepted_goes follows id broken tr swap tells = release_goes slots requests calls broken done t ts tr (λ _. Sent t.number next)
        (λ b longer g. (refl, subst (λ z. IsExplainedBy slots requests done longer z None) (sym op) (tt, g.swap ∙ swap), g.tells None tells, follows None broken)) (socket_id_slot id)

    -- the operation holds the life of the id that it found, and sent nothing yet
    record IsHere (id : ℕ) (tr : List Entry) : Type 0 where
      pub load : In (step (OnName (LoadName name)) (id + 1)) tr
      pub held : 0 < holds (socket_id_slot id) (socket_id_version id) tr
      pub first : swapped tr ≡ false
      pub tells : (outcome : Option Outcome) → AllByRecursion (Tells t.op outcome) tr

    accept_goes : Follows → (id q found : ℕ) (broken : List ℕ) (tr : List Entry) → IsHere id tr → found % 2 ≡ 0
        → Goes broken (step (OnChain (ClaimRequest id q)) found ∷ tr) (accept id q (found / 2) (heading_of t.number) bytes (release (socket_id_slot id) (λ _. Sent t.number next)))
    accept_goes follows id q found broken tr a free = let own : ℕ = ticket_of q (found / 2) in let i : ℕ = socket_id_slot id in let v : ℕ = socket_id_version id in let after : Program = release i (λ _. Sent t.number next) in (
      tt,
      λ x. (
        tt,
        λ y. let ready : List Entry = step (OnChain (Unconnect q)) y ∷ step (OnMessage (PutMessage q (heading_of t.number) bytes)) x ∷ step (OnChain (ClaimRequest id q)) found ∷ tr in (
          record { name = name; bytes = bytes; op = op; id = id; request = q; words = (y, x); found = found; before = tr; trace_is = refl; free = free; load = a.load; first = a.first },
          λ head. let now : List Entry = step (OnChain (SwapHead i own)) head ∷ ready in
              split (nat_lt head IDLE) (Do (OnChain (Connect q head)) (λ _. after)) (write_link id q own after) (Goes broken now)
              (tt, λ z. accepted_goes follows id broken (step (OnChain (Connect q head)) z ∷ now) refl (tt, (tt, (tt, (tt, (tt, a.tells None)))))) (
                tt,
                λ k places heading message. let wrote : List Entry = step (OnSlot (FindLink i v)) k ∷ now in first_sent broken wrote (record { id = id; link = k; last = own; places = places }) own heading message after (
                  record { name = name; bytes = bytes; op = op; load = inr (inr (inr (inr (inr a.load)))); link = inl refl; holds = a.held },
                  λ longer others g within. accepted_goes follows id others longer (g.swap) (g.tells None (tt, (tt, (tt, (tt, (tt, a.tells None)))))),
                ),
              ),
        ),
      ),
    )

    -- a step that tells nothing and takes no reference
    mute_here : (id : ℕ) (tr : List Entry) (call : TableStep) (found : ℕ) → IsMute call → holds (socket_id_slot id) (socket_id_version id) (step call found ∷ tr) ≡ holds (socket_id_slot id) (socket_id_version id) tr → IsHere id tr → IsHere id (step call found ∷ tr)
    mute_here id tr call found mute same a = let g = mute_grew t.op tr call found mute in
        record { load = inr a.load; held = subst (λ n. 0 < n) (sym same) a.held; first = g.swap ∙ a.first; tells = λ o. g.tells o (a.tells o) }

    abbrev WereTaken : ℕ → List Entry → Type 0
    WereTaken q tr = (j : ℕ) → j < q → (id found : ℕ) × In (step (OnChain (ClaimRequest id j)) found) tr × (found % 2 ≡ 1)

    claim_goes : Follows → (more q id : ℕ) (broken : List ℕ) (tr : List Entry) → q + more ≡ requests → IsHere id tr → WereTaken q tr → Goes broken tr (claim_from more q t.number id bytes next)
    claim_goes follows zero q id broken tr e a taken = release_goes slots requests calls broken done t ts tr (λ _. Say t.number Full next)
        (λ b longer g. says follows broken longer Full
        (((id, g.has (step (OnName (LoadName name)) (id + 1)) a.load), λ j l. let x = taken j (omega arith) in (x.0, x.1, g.has (step (OnChain (ClaimRequest x.0 j)) x.1) x.2, x.3)), g.swap ∙ a.first) (g.tells (Some Full) (a.tells (Some Full)))) (socket_id_slot id)
    claim_goes follows (suc more) q id broken tr e a taken = (
      tt,
      λ found. let one : List Entry = step (OnChain (ClaimRequest id q)) found ∷ tr in
          split_eq (found % 2) 0 (accept id q (found / 2) (heading_of t.number) bytes (release (socket_id_slot id) (λ _. Sent t.number next))) (claim_from more (q + 1) t.number id bytes next) (Goes broken one)
          (λ free. accept_goes follows id q found broken tr a free)
          (λ odd. claim_goes follows more (q + 1) id broken one (omega arith) (mute_here id tr (OnChain (ClaimRequest id q)) found tt refl a)
          (λ j l. dite (ℕ_discrete j q) (λ same. (id, found, inl (ap (λ z. step (OnChain (ClaimRequest id z)) found) same), omega arith)) (λ far. let x = taken j (omega arith) in (x.0, x.1, inr x.2, x.3)))),
    )

    start_goes : Follows → (id found : ℕ) (broken : List ℕ) → vref_version found ≡ socket_id_version id → Goes broken (step (OnSlot (AddRef id)) found ∷ step (OnName (LoadName name)) (id + 1) ∷ []) (start requests t.number id bytes next)
    start_goes follows id found broken e = let tr : List Entry = step (OnSlot (AddRef id)) found ∷ step (OnName (LoadName name)) (id + 1) ∷ [] in
        let count : holds (socket_id_slot id) (socket_id_version id) tr ≡ 1 + 0 = add_holds id found 0 e in
        let a : IsHere id tr = record { load = inr (inl refl); held = omega (arith, count); first = refl; tells = λ o. (tt, (tt, tt)) } in (
          a.held,
          λ word. let one : List Entry = step (OnSlot (LookWord id)) word ∷ tr in
              split_eq (vref_version word % 2) 0 (claim_from requests 0 t.number id bytes next) (release (socket_id_slot id) (λ _. Say t.number (Gone (record { 0 = word })) next)) (Goes broken one)
              (λ even. claim_goes follows requests 0 id broken one (omega arith) (mute_here id tr (OnSlot (LookWord id)) word tt refl a) (λ j l. absurd (omega arith)))
              (λ odd. release_goes slots requests calls broken done t ts one (λ _. Say t.number (Gone (record { 0 = word })) next)
              (λ b longer g. says follows broken longer (Gone (record { 0 = word }))
              (inr (id, g.has (step (OnName (LoadName name)) (id + 1)) (inr (inr (inl refl))), g.has (step (OnSlot (LookWord id)) word) (inl refl), omega arith), g.swap) (g.tells (Some (Gone (record { 0 = word }))) (tt, (tt, (tt, tt)))))
              (socket_id_slot id)),
        )

    -- a `send` explains its outcome
    pub send_goes : Follows → (broken : List ℕ) → Goes broken [] (send requests t.number name bytes next)
    send_goes follows broken = reach_goes slots requests calls broken done t ts name (Say t.number Unopened next) (λ id. start requests t.number id bytes next) (λ found. Say t.number (Gone (record { 0 = found })) next)
        (says follows broken (step (OnName (LoadName name)) 0 ∷ []) Unopened (inl refl, refl) (tt, tt))
        (λ id found e. start_goes follows id found broken e)
        (λ id found tr ne g. says follows broken tr (Gone (record { 0 = found }))
        (inl (id, g.has (step (OnName (LoadName name)) (id + 1)) (inr (inl refl)), g.has (step (OnSlot (AddRef id)) found) (inl refl), ne), g.swap) (g.tells (Some (Gone (record { 0 = found }))) (tt, (tt, tt))))
