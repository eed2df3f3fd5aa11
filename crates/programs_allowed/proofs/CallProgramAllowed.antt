-- The program of a call is allowed, as far as the sockets go: its attempt addresses a life, and its message is accepted and written as that of a send is.
use Rattle.std.proofs.Common.{◌≡◌, ◌≢◌, ℕ, zero, suc, ◌+◌, ◌*◌, ◌-◌, ◌/◌, ◌%◌, ◌<◌, ◌≤◌, Bool, true, false, List, [], ◌∷◌, ◌++◌, length, refl, sym, subst, inl, inr, arith, cond, eqb}
use mathlib.Core.List.{cons-ne-nil}
use Rattle.sock_words.specs.declared.plain.Plan.{Plan}
use Rattle.sock_words.specs.PackedWords.{socket_id_version, socket_id_slot, vref_version, at_word, call_id, id_first, id_slot}
use Rattle.sock_words.specs.declared.outcome.Outcome.TheVariants.{Unopened}
use Rattle.sock_model.specs.declared.chain.Entry.{Entry}
use Rattle.sock_model.specs.declared.chain.Heading.{Heading}
use Rattle.sock_model.specs.declared.marks.Mark.TheVariants.{Hold, Saw, Met}
use Rattle.sock_model.specs.declared.view.View.{View}
use Rattle.sock_model.specs.MarkWeights.{is_hold, is_met}
use Rattle.sock_model.specs.SlotRows.{looked, met_link}
use Rattle.sock_model.specs.ChainRows.{with_claim}
use Rattle.slot_steps.proofs.RuleNumbers.{only-same}
use Rattle.corr_core.specs.IdSlotWord.{parts}
use Rattle.seat_programs.specs.sock_message.specs.Asked.{Asked, name_of, meta_of, frame_of}
use Rattle.seat_programs.specs.Asides.{StoreAt}
use Rattle.seat_programs.specs.Programs.{Program, Do, Say, Aside, release}
use Rattle.seat_programs.specs.TableSteps.{OnSlot, FindLink, LookWord}
use Rattle.seat_programs.specs.SendAndWritePrograms.{accept}
use Rattle.seat_programs.specs.ClientProgram.{HeldLife}
use Rattle.seat_programs.specs.PostPrograms.{post}
use Rattle.program_walks.specs.brpc_model.specs.Frame.{magic, framed}
use Rattle.program_walks.specs.brpc_model.specs.Spelling.{meta_bytes}
use Rattle.std.specs.Int.{w32, to_be_bytes}
use Rattle.seat_programs.specs.CallAndRetryPrograms.{claims_from, heading_for, attempt, begin_call, claim_id, call}
use Rattle.seat_programs.specs.Explained.{AskedFits}
use Rattle.seat_programs.specs.StepViews.{by_right}
use Rattle.seat_programs.specs.StepsOfSlots.{looked_clean}
use Rattle.seat_programs.specs.StepsOfChain.{new_claim}
use Rattle.seat_programs.specs.StepViews.{Knows}
use Rattle.program_walks.specs.program_steps.specs.ProgramGoesOn.{GoesOn}
use Rattle.program_walks.specs.program_steps.proofs.AsideStepsPass.{post_goes, way}
use Rattle.program_walks.specs.program_steps.specs.WhatSeatHas.{Has}
use Rattle.program_walks.specs.program_steps.proofs.AllowedRounds.{about_top}
use Rattle.programs_allowed.proofs.WeighingWhatSeatHas.{at_slot, tokens}
use Rattle.programs_allowed.proofs.AllowedProgramSteps.{noted, first, loads_name}
use Rattle.programs_allowed.proofs.SendingAllowed.{accept_goes}
use Rattle.programs_allowed.proofs.OperationParts.{Ready, release_goes, address_goes}

-- a frame has some bytes
append_some : {A : Type 0} (xs ys : List A) → xs ≢ [] → xs ++ ys ≢ []
append_some [] ys some_ = absurd (some_ refl)
append_some (x ∷ xs) ys some_ = cons-ne-nil x (xs ++ ys)

magic_some : magic ≢ []
magic_some = cons-ne-nil 80 (82 ∷ 80 ∷ 67 ∷ [])

pub framed_some : (meta payload attachment : List ℕ) → framed meta payload attachment ≢ []
framed_some meta payload attachment = let a : List ℕ = magic ++ to_be_bytes w32 (length meta + length payload + length attachment) in let b : List ℕ = a ++ to_be_bytes w32 (length meta) in
    append_some (b ++ meta ++ payload) attachment (append_some (b ++ meta) payload (append_some b meta (append_some a (to_be_bytes w32 (length meta)) (append_some magic (to_be_bytes w32 (length meta + length payload + length attachment)) magic_some))))

module _ (p : Plan) (made : List Entry) (held : List HeldLife) (passes : List ℕ) (few : length held ≤ 4096) (requests : p.requests ≤ 4096) where
  -- what follows, from each view that accepted one message more at most
  abbrev Follows : Program → Type 0
  Follows x = (longer : List Entry) → length longer ≤ length made + 1 → (u : View) → Ready (longer ∷ []) held passes u → GoesOn p u x

  release_next : (longer : List Entry) → length longer ≤ length made + 1 → (id : ℕ) (next : Program) → Follows next → {v : View} → socket_id_slot id < p.slots → Has (longer ∷ []) (socket_id_slot id) (Hold (socket_id_version id) ∷ []) held passes [] v
      → GoesOn p v (release (socket_id_slot id) (λ _. next))
  release_next longer most id next goes inside a = release_goes p (socket_id_slot id) (Hold (socket_id_version id)) a (inr (socket_id_version id, refl, refl)) inside (λ _. next) (λ b u. goes longer most u)

  module _ (heading : Heading) (label : heading.label.place < 8 * p.operations) (bytes : List ℕ) (some_ : bytes ≢ []) (next : Program) (goes : Follows next) (full : Program) where
    claims_goes : (left q id : ℕ) {v : View} → q + left ≤ p.requests → socket_id_slot id < p.slots → Has (made ∷ []) (socket_id_slot id) (Hold (socket_id_version id) ∷ []) held passes [] v
        → ((w : View) → Has (made ∷ []) (socket_id_slot id) (Hold (socket_id_version id) ∷ []) held passes [] w → GoesOn p w full) → GoesOn p v (claims_from left q id heading bytes full (release (socket_id_slot id) (λ _. next)))
    claims_goes zero q id {v} fits inside a none_ = none_ v a
    claims_goes (suc left) q id {v} fits inside a none_ = let i : ℕ = socket_id_slot id in let h : ℕ = socket_id_version id in (
      (omega (arith, fits), (inside, first (Hold h) a (is_hold h) (tokens (is_hold h) refl) (only-same h)), a.quiet.claims),
      λ found hand f. branch (claims_goes left (q + 1) id (omega (arith, fits)) inside a none_) (eqb (found % 2) 0) found hand.link,
    )
      where
        branch : GoesOn p v (claims_from left (q + 1) id heading bytes full (release (socket_id_slot id) (λ _. next))) → (b : Bool) (found k : ℕ) → GoesOn p (cond b (with_claim (met_link (socket_id_slot id) (socket_id_version id) k v) (new_claim k q found)) v)
            (cond b (accept id q (found / 2) heading bytes (release (socket_id_slot id) (λ _. next))) (claims_from left (q + 1) id heading bytes full (release (socket_id_slot id) (λ _. next))))
        branch lost true found k = let i : ℕ = socket_id_slot id in let h : ℕ = socket_id_version id in
            accept_goes p made id inside few requests (release i (λ _. next)) (λ longer most u b. release_next longer most id next goes inside b)
            (noted a (Met h k) (λ f o. o.met h k)) k q found (omega (arith, about_top (is_met h k) i (Met h k) v.marks, pair_same h k)) (omega (arith, fits)) heading bytes label some_
          where
            pair_same : (a b : ℕ) → Rattle.sock_model.specs.MarkWeights.pair a b a b ≡ 1
            pair_same a b = Rattle.slot_steps.proofs.RuleNumbers.pair-same a b
        branch lost false found k = lost

  -- an attempt of a call with this id, over the socket with that one
  pub attempt_goes : (asked : Asked) (id n socket : ℕ) (next : Program) → 8 * asked.operation + n < 8 * p.operations → frame_of asked id n ≢ [] → Follows next → {v : View} → Has (made ∷ []) (socket_id_slot socket) [] held passes [] v → Knows p v socket → Ready (made ∷ []) held passes v
      → GoesOn p v (attempt p.requests asked id n socket next)
  attempt_goes asked id n socket next label some_ goes {v} a knows ready = let i : ℕ = socket_id_slot socket in let h : ℕ = socket_id_version socket in
      address_goes p socket a knows few
      (Do (OnSlot (FindLink (socket_id_slot socket) (socket_id_version socket))) (λ k. Aside (StoreAt asked.operation (at_word (id_first id) (id_slot id) k n)) (λ _. Do (OnSlot (LookWord socket)) (λ found.
      cond (eqb (vref_version found % 2) 0) (claims_from p.requests 0 socket (heading_for asked id n) (frame_of asked id n) (post id 3001 n (release (socket_id_slot socket) (λ _. next))) (release (socket_id_slot socket) (λ _. next))) (post id 1009 n (release (socket_id_slot socket) (λ _. next)))))))
      (λ _. post id 1009 n next)
      (λ u b. (
        (knows.0, first (Hold (socket_id_version socket)) b (is_hold (socket_id_version socket)) (tokens (is_hold (socket_id_version socket)) refl) (only-same (socket_id_version socket))),
        λ k hand f. λ _ _. looks (noted b (Met (socket_id_version socket) k) (λ g o. o.met (socket_id_version socket) k)),
      ))
      (λ u found b. post_goes p u id 1009 n next (goes made (omega arith) u b))
    where
      looks : {w : View} → Has (made ∷ []) (socket_id_slot socket) (Hold (socket_id_version socket) ∷ []) held passes [] w → GoesOn p w (Do (OnSlot (LookWord socket)) (λ found.
          cond (eqb (vref_version found % 2) 0) (claims_from p.requests 0 socket (heading_for asked id n) (frame_of asked id n) (post id 3001 n (release (socket_id_slot socket) (λ _. next))) (release (socket_id_slot socket) (λ _. next))) (post id 1009 n (release (socket_id_slot socket) (λ _. next)))))
      looks {w} c = let i : ℕ = socket_id_slot socket in (
        (knows.0, inl c.quiet.rights, first (Hold (socket_id_version socket)) c (is_hold (socket_id_version socket)) (tokens (is_hold (socket_id_version socket)) refl) (only-same (socket_id_version socket))),
        λ found hand f. let d = noted c (Saw (vref_version found)) (λ g o. o.saw (vref_version found)) in let rest : Program = release (socket_id_slot socket) (λ _. next) in
            let yes : Program = claims_from p.requests 0 socket (heading_for asked id n) (frame_of asked id n) (post id 3001 n (release (socket_id_slot socket) (λ _. next))) (release (socket_id_slot socket) (λ _. next)) in let no : Program = post id 1009 n (release (socket_id_slot socket) (λ _. next)) in
            subst (λ rs. GoesOn p (by_right rs (looked_clean (socket_id_slot socket) found w) (looked (socket_id_slot socket) found w)) (cond (eqb (vref_version found % 2) 0) yes no)) (sym c.quiet.rights)
            (way p (looked (socket_id_slot socket) found w) (eqb (vref_version found % 2) 0) yes no
            (λ _. claims_goes (heading_for asked id n) label (frame_of asked id n) some_ next goes (post id 3001 n rest) p.requests 0 socket (omega arith) knows.0 d
            (λ u e. post_goes p u id 3001 n rest (release_next made (omega arith) socket next goes knows.0 e)))
            (λ _. post_goes p (looked (socket_id_slot socket) found w) id 1009 n rest (release_next made (omega arith) socket next goes knows.0 d))),
      )

  -- a call over id slots; each id slot that it finds taken leaves what the sockets' table sees as it is
  module _ (asked : Asked) (fits : AskedFits p asked) (next : Program) (goes : Follows next) where
    begun_goes : (socket i : ℕ) {v : View} → Knows p v socket → Ready (made ∷ []) held passes v → GoesOn p v (begin_call p.requests socket i asked next)
    begun_goes socket i {v} knows a = let operation = fits.operation in λ _ _. λ found _. λ _ _. let id : ℕ = call_id i (parts found).first in
        attempt_goes asked (call_id i (parts found).first) 0 socket next (omega (arith, operation)) (framed_some (meta_bytes (meta_of asked (call_id i (parts found).first) 0)) asked.payload asked.attachment) goes (at_slot a (socket_id_slot socket)) knows a

    slots_goes : (more i socket : ℕ) {v : View} → Knows p v socket → Ready (made ∷ []) held passes v → GoesOn p v (claim_id more i p.requests socket asked next)
    slots_goes zero i socket {v} knows a = goes made (omega arith) v a
    slots_goes (suc more) i socket {v} knows a = λ found _. way p v (eqb found 0) (begin_call p.requests socket i asked next) (claim_id more (i + 1) p.requests socket asked next) (λ _. begun_goes socket i knows a) (λ _. slots_goes more (i + 1) socket knows a)

    pub call_goes : (ids : ℕ) {v : View} → Ready (made ∷ []) held passes v → GoesOn p v (call p.requests ids asked next)
    call_goes ids {v} a = loads_name p a (name_of asked 0) (fits.names 0) (Say asked.operation Unopened next) (λ word. claim_id ids 0 p.requests (word - 1) asked next) (goes made (omega arith) v a)
        (λ word u knows b. slots_goes ids 0 (word - 1) {v = u} knows (at_slot b 0))
