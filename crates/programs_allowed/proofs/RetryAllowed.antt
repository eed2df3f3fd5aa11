-- A retry that waits is allowed from what a seat has between its operations.
use Rattle.std.proofs.Common.{ℕ, ◌-◌, ◌≤◌, List, [], ◌∷◌, length, sym, subst, arith}
use Rattle.sock_words.specs.declared.plain.Plan.{Plan}
use Rattle.sock_model.specs.declared.chain.Entry.{Entry}
use Rattle.sock_model.specs.declared.view.View.{View}
use Rattle.program_walks.specs.brpc_model.specs.Spelling.{meta_bytes}
use Rattle.seat_programs.specs.sock_message.specs.Asked.{Asked, name_of, meta_of}
use Rattle.seat_programs.specs.LoopHeads.{Retry, Unlocking, IsOpen, HasNext, Locking, NotThere, Has as HasLock}
use Rattle.seat_programs.specs.Programs.{Program, Retries}
use Rattle.seat_programs.specs.ClientProgram.{HeldLife}
use Rattle.seat_programs.specs.PostPrograms.{post, decided}
use Rattle.seat_programs.specs.CallAndRetryPrograms.{attempt, tried_again, retry_locked, retry}
use Rattle.seat_programs.specs.Explained.{AskedFits}
use Rattle.program_walks.specs.program_steps.specs.WhatSeatHas.{Has}
use Rattle.program_walks.specs.program_steps.specs.IdWordFits.{FitsRetry, FitsUnlocking, FitsLocking}
use Rattle.program_walks.specs.program_steps.specs.ProgramGoesOn.{GoesOn}
use Rattle.program_walks.specs.program_steps.proofs.AsideStepsPass.{post_goes, decide_goes, decided_goes}
use Rattle.program_walks.specs.sock_runs.proofs.LinkTicks.{RetriesGo}
use Rattle.programs_allowed.proofs.WeighingWhatSeatHas.{at_slot}
use Rattle.programs_allowed.proofs.AllowedProgramSteps.{loads_name}
use Rattle.programs_allowed.proofs.CallProgramAllowed.{framed_some, attempt_goes}

module _ (p : Plan) (requests : p.requests ≤ 4096) (made : List Entry) (held : List HeldLife) (passes : List ℕ) (few : length held ≤ 4096) (r : Retry) (fits : FitsRetry r) (next : Program)
    (goes : (longer : List Entry) (u : View) → Has (longer ∷ []) 0 [] held passes [] u → GoesOn p u next) (v : View) (has : Has (made ∷ []) 0 [] held passes [] v) where
  tried_goes : (asked : Asked) → AskedFits p asked → (exit : Unlocking) → FitsUnlocking exit → GoesOn p v (tried_again p.requests r.id r.attempt asked next exit)
  tried_goes asked ask (IsOpen w) f = loads_name p has (name_of asked r.attempt) (ask.names r.attempt) (post r.id 1009 r.attempt next) (λ word. attempt p.requests asked r.id r.attempt (word - 1) next)
      (post_goes p v r.id 1009 r.attempt next (goes made v has))
      (λ word u knows b. let operation = ask.operation in attempt_goes p made held passes few requests asked r.id r.attempt (word - 1) next (omega (arith, operation, fits)) (framed_some (meta_bytes (meta_of asked r.id r.attempt)) asked.payload asked.attachment)
      (λ longer most w c. goes longer w c) b knows (at_slot b 0))
  tried_goes asked ask (HasNext w e) f = decide_goes p v r.id w e (decided r.id next) f (decided_goes p v r.id next (goes made v has))

  locked_goes : (exit : Locking) → FitsLocking exit → GoesOn p v (retry_locked p.requests r.id r.attempt next exit)
  locked_goes (NotThere w) f = goes made v has
  locked_goes (HasLock w) f = λ asked ask. λ _ _. ((f, tt), tried_goes asked ask)

  retry_goes : GoesOn p v (retry p.requests r.id r.attempt next)
  retry_goes = ((tt, has.quiet.loose), locked_goes)

-- each retry may be tried where the program says so
pub retries_go : (p : Plan) → p.requests ≤ 4096 → RetriesGo p
retries_go p small v r requests after fits g = let h = g.1 in
    subst (λ n. GoesOn p v (retry n r.id r.attempt (Retries requests after))) (sym g.0)
    (retry_goes p small h.0 h.1 h.2 h.4 r fits (Retries requests after) (λ longer u b. (g.0, (longer, h.1, h.2, b, h.4, h.5))) v h.3)
