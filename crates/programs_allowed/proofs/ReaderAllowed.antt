-- A reader is allowed.
use Rattle.std.proofs.Common.{ℕ, ◌-◌, ◌<◌, ◌&&◌, false, cond, eqb, nat_lt, ne_eqb, List, [], ◌∷◌, length, refl, sym, subst, arith}
use Rattle.sock_words.specs.declared.plain.Plan.{Plan}
use Rattle.sock_words.specs.PackedWords.{socket_id_slot, at_word_first, at_word_slot, at_word_link, at_word_attempt, call_id, id_first, NO_SOCKET}
use Rattle.sock_model.specs.declared.chain.Entry.{Entry}
use Rattle.sock_model.specs.declared.view.View.{View}
use Rattle.corr_core.specs.IdSlotWord.{parts, error_of}
use Rattle.program_walks.specs.brpc_model.specs.Frame.{Frame}
use Rattle.seat_programs.specs.LoopHeads.{Reads, Discards, Posting, HasLocked, Ended}
use Rattle.seat_programs.specs.Programs.{Program, Rest, Round, add_reference, release, set_failed}
use Rattle.seat_programs.specs.PostPrograms.{post_with, decided}
use Rattle.seat_programs.specs.ReaderProgram.{LIMIT, kept_for, ends_with, posted_last, post_each, thrown_away, read, reader}
use Rattle.seat_programs.specs.StepViews.{Knows}
use Rattle.program_walks.specs.program_steps.specs.IdWordFits.{FitsPosting, FitsEnded}
use Rattle.program_walks.specs.program_steps.specs.ProgramGoesOn.{GoesOn}
use Rattle.program_walks.specs.program_steps.specs.WhatSeatHas.{Has}
use Rattle.program_walks.specs.program_steps.proofs.AsideStepsPass.{way, decide_goes, decided_goes, post_with_goes, answer_goes}
use Rattle.programs_allowed.proofs.WeighingWhatSeatHas.{at_slot, has_nothing}
use Rattle.programs_allowed.proofs.AllowedProgramSteps.{ends_branch}
use Rattle.programs_allowed.proofs.OperationParts.{Ready, address_goes}
use Rattle.programs_allowed.proofs.AllowedClients.{fails_held}

module _ (p : Plan) where
  -- a call ends with a kept response, or it is decided on
  ends_goes : (v : View) (id e word : ℕ) (kept : List Frame) (next : Program) → Rattle.program_walks.specs.program_steps.specs.IdWordFits.FitsWord word → GoesOn p v next → GoesOn p v (ends_with id e word kept next)
  ends_goes v id e word [] next f goes = decide_goes p v id word e (decided id next) f (decided_goes p v id next goes)
  ends_goes v id e word (x ∷ xs) next f goes = answer_goes p v x (id_first id) next goes

  posted_last_goes : (v : View) (id e : ℕ) (kept : List Frame) (next : Program) → GoesOn p v next → (exit : Posting) → FitsPosting exit → GoesOn p v (posted_last id e kept next exit)
  posted_last_goes v id e kept next goes (HasLocked word) f = ends_goes v id e word (kept_for id (parts word).range kept) next f goes
  posted_last_goes v id e kept next goes _ f = goes

  post_each_goes : (v : View) (os : List ℕ) (k code : ℕ) (kept : List Frame) (next : Program) → GoesOn p v next → GoesOn p v (post_each os k code kept next)
  post_each_goes v [] k code kept next goes = goes
  post_each_goes v (o ∷ os) k code kept next goes = λ w f. let rest = post_each_goes v os k code kept next goes in
      way p v (eqb w 0) (post_each os k code kept next)
      (cond (eqb (at_word_link w) k) (post_with (call_id (at_word_slot w) (at_word_first w)) (error_of code (at_word_attempt w)) (posted_last (call_id (at_word_slot w) (at_word_first w)) (error_of code (at_word_attempt w)) kept (post_each os k code kept next))) (post_each os k code kept next))
      (λ _. rest)
      (λ _. way p v (eqb (at_word_link w) k) (post_with (call_id (at_word_slot w) (at_word_first w)) (error_of code (at_word_attempt w)) (posted_last (call_id (at_word_slot w) (at_word_first w)) (error_of code (at_word_attempt w)) kept (post_each os k code kept next))) (post_each os k code kept next)
      (λ _. post_with_goes p v (call_id (at_word_slot w) (at_word_first w)) (error_of code (at_word_attempt w)) (posted_last (call_id (at_word_slot w) (at_word_first w)) (error_of code (at_word_attempt w)) kept (post_each os k code kept next))
      (posted_last_goes v (call_id (at_word_slot w) (at_word_first w)) (error_of code (at_word_attempt w)) kept (post_each os k code kept next) rest)) (λ _. rest))

module _ (p : Plan) {lists : List (List Entry)} where
  thrown_goes : (v : View) (how : Ended) → Ready lists [] [] v → GoesOn p v (thrown_away how)
  thrown_goes v how a = way p v (how.fault && nat_lt how.reading.total LIMIT) (Round (Discards how.reading.link how.reading.total) (λ _. Rest)) Rest (λ _. ((tt, a.quiet.loose), λ _ _. has_nothing a)) (λ _. has_nothing a)

  last_goes : (calls : List ℕ) (how : Ended) (v : View) → Ready lists [] [] v → GoesOn p v (post_each calls how.reading.link how.code how.reading.kept (thrown_away how))
  last_goes calls how v a = post_each_goes p v calls how.reading.link how.code how.reading.kept (thrown_away how) (thrown_goes v how a)

  read_goes : (calls : List ℕ) (id : ℕ) (v : View) → Knows p v id → Has lists (socket_id_slot id) [] [] [] [] v → (how : Ended) → FitsEnded id how → GoesOn p v (read calls how)
  read_goes calls id v knows a how f = let last : Program = post_each calls how.reading.link how.code how.reading.kept (thrown_away how) in
      way p v how.closed (post_each calls how.reading.link how.code how.reading.kept (thrown_away how))
      (add_reference how.reading.id (set_failed how.reading.id how.code (λ _. release (socket_id_slot how.reading.id) (λ _. post_each calls how.reading.link how.code how.reading.kept (thrown_away how)))) (λ _. post_each calls how.reading.link how.code how.reading.kept (thrown_away how)))
      (λ _. last_goes calls how v (at_slot a 0))
      (λ _. subst (λ i. GoesOn p v (add_reference i (set_failed i how.code (λ _. release (socket_id_slot i) (λ _. post_each calls how.reading.link how.code how.reading.kept (thrown_away how)))) (λ _. post_each calls how.reading.link how.code how.reading.kept (thrown_away how)))) (sym f.0)
      (address_goes p id a knows (omega arith) (set_failed id how.code (λ _. release (socket_id_slot id) (λ _. post_each calls how.reading.link how.code how.reading.kept (thrown_away how)))) (λ _. post_each calls how.reading.link how.code how.reading.kept (thrown_away how))
      (λ w c. fails_held p (omega arith) id how.code f.1 knows.0 c (λ _. post_each calls how.reading.link how.code how.reading.kept (thrown_away how)) (λ found u b. last_goes calls how u b))
      (λ w found b. last_goes calls how w b)))

  pub reader_goes : (calls : List ℕ) (k o : ℕ) {v : View} → o < p.operations → Ready lists [] [] v → GoesOn p v (reader calls k o)
  reader_goes calls k o {v} inside a = let y : ℕ → Program = λ word. Round (Reads (record { ids = length calls; link = k; id = word - 1; rest = []; total = 0; kept = [] })) (read calls) in (
    (inside, a.quiet.loose),
    λ word some_ f. ends_branch p a word false (eqb word NO_SOCKET) (sym (ne_eqb word 0 some_)) refl f Rest (Round (Reads (record { ids = length calls; link = k; id = word - 1; rest = []; total = 0; kept = [] })) (read calls)) (has_nothing a)
        (λ u knows b. ((tt, b.quiet.loose), λ how ends. read_goes calls (word - 1) u knows b how ends)),
  )
