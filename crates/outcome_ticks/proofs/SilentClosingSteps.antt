-- Readers and the ending close sockets: their steps tell no outcome of a task.
use Rattle.std.proofs.Common.{ℕ, ◌+◌, ◌-◌, ◌%◌, ◌&&◌, Bool, true, false, eqb, List, [], ◌∷◌, length, refl, nat_lt}
use Rattle.std.specs.Prelude.{nat_le, if◌then◌else◌}
use Rattle.seat_programs.specs.corr_core.specs.IdSlotWord.{parts, error_of}
use Rattle.brpc_model.specs.Frame.{Frame}
use Rattle.sock_words.specs.PackedWords.{socket_id_version, socket_id_slot, vref_version, vref_nref, at_word_first, at_word_slot, at_word_link, at_word_attempt, call_id, id_first, NO_SOCKET}
use Rattle.seat_programs.specs.declared.task.Task.{Task}
use Rattle.seat_programs.specs.TableSteps.{OnSlot, OnLink, SubRef, StoreCode, LoadLink, TakeLink, FinishLink, PutLink, FreeSlot}
use Rattle.seat_programs.specs.LoopHeads.{Ended, Reads, Discards, Posting, HasLocked}
use Rattle.seat_programs.specs.Programs.{Program, Do, Rest, Round, LAST_VERSION, recycle, release, add_reference, set_failed}
use Rattle.seat_programs.specs.PostPrograms.{post_with, decided}
use Rattle.seat_programs.specs.ReaderProgram.{LIMIT, kept_for, ends_with, posted_last, post_each, thrown_away, read, reader}
use Rattle.seat_programs.specs.ClientProgram.{ending_of}
use Rattle.outcome_stories.specs.OperationStories.{Entry}
use Rattle.outcome_stories.specs.Explains.{Closing, Done, ExplainsBy}
use Rattle.outcome_stories.proofs.Tests.{split}
use Rattle.outcome_stories.proofs.SilentErrorSteps.{answer_goes, decide_goes, decided_goes, post_with_goes}

module _ (slots requests : ℕ) (calls : ℕ → Type 0) (broken : List ℕ) (done : List Done) (trace : List Entry) (todo : List Task) where
  abbrev pub Goes : Program → Type 0
  Goes program = ExplainsBy slots requests calls Closing broken done trace todo program

  recycle_goes : (i from : ℕ) (next : Bool → Program) → ((b : Bool) → Goes (next b)) → Goes (recycle i from next)
  recycle_goes i from next k = (
    tt,
    λ found. split (eqb found from) (Do (OnSlot (LoadLink i (vref_version from + 1))) (λ l. Do (OnLink (TakeLink l)) (λ _. Do (OnLink (FinishLink l)) (λ _. Do (OnLink (PutLink l)) (λ _. if nat_le (vref_version from + 1) LAST_VERSION then Do (OnSlot (FreeSlot i)) (λ _. next true) else next true))))) (next false) Goes
        (tt, λ l. (tt, λ a. (tt, λ b. (tt, λ c. split (nat_le (vref_version from + 1) LAST_VERSION) (Do (OnSlot (FreeSlot i)) (λ _. next true)) (next true) Goes (tt, λ d. k true) (k true))))) (k false),
  )

  release_goes : (i : ℕ) (next : Bool → Program) → ((b : Bool) → Goes (next b)) → Goes (release i next)
  release_goes i next k = (tt, λ found. split (eqb (vref_version found % 2) 1 && eqb (vref_nref found) 1) (recycle i (found - 1) next) (next false) Goes (recycle_goes i (found - 1) next k) (k false))

  set_failed_goes : (id c : ℕ) (next : ℕ → Program) → ((found : ℕ) → Goes (next found)) → Goes (set_failed id c next)
  set_failed_goes id c next k = (tt, λ found. split (eqb (vref_version found % 2) 0) (Do (OnSlot (StoreCode (socket_id_slot id) (socket_id_version id) c)) (λ _. Do (OnSlot (SubRef (socket_id_slot id))) (λ _. next found))) (next found) Goes (tt, λ a. (tt, λ b. k found)) (k found))

  address_goes : (id : ℕ) (held : Program) (gone : ℕ → Program) → Goes held → ((found : ℕ) → Goes (gone found)) → Goes (add_reference id held gone)
  address_goes id held gone h k = (tt, λ found. split (eqb (vref_version found) (socket_id_version id)) held (release (socket_id_slot id) (λ _. gone found)) Goes h (release_goes (socket_id_slot id) (λ _. gone found) (λ b. k found)))

  -- a life is set failed where it is reached
  closes_goes : (id c : ℕ) (next : Program) → Goes next → Goes (add_reference id (set_failed id c (λ _. release (socket_id_slot id) (λ _. next))) (λ _. next))
  closes_goes id c next k = address_goes id (set_failed id c (λ _. release (socket_id_slot id) (λ _. next))) (λ _. next)
      (set_failed_goes id c (λ _. release (socket_id_slot id) (λ _. next)) (λ found. release_goes (socket_id_slot id) (λ _. next) (λ b. k))) (λ found. k)

  -- ## Readers

  last_goes : (id e : ℕ) (kept : List Frame) (next : Program) → Goes next → (exit : Posting) → Goes (posted_last id e kept next exit)
  last_goes id e kept next k (HasLocked word) = by_kept (kept_for id (parts word).range kept)
    where
      by_kept : (fs : List Frame) → Goes (ends_with id e word fs next)
      by_kept [] = decide_goes slots requests calls Closing broken done trace todo id word e (decided id next) (decided_goes slots requests calls Closing broken done trace todo id next k)
      by_kept (f ∷ fs) = answer_goes slots requests calls Closing broken done trace todo f (id_first id) next k
  last_goes id e kept next k _ = k

  each_goes : (os : List ℕ) (k c : ℕ) (kept : List Frame) (next : Program) → Goes next → Goes (post_each os k c kept next)
  each_goes [] k c kept next g = g
  each_goes (o ∷ os) k c kept next g = (
    tt,
    λ w _. let rest : Program = post_each os k c kept next in let rest_goes = each_goes os k c kept next g in let id : ℕ = call_id (at_word_slot w) (at_word_first w) in let e : ℕ = error_of c (at_word_attempt w) in
        let here : Program = post_with id e (posted_last id e kept rest) in
        split (eqb w 0) rest (if eqb (at_word_link w) k then here else rest) Goes rest_goes
        (split (eqb (at_word_link w) k) here rest Goes (post_with_goes slots requests calls Closing broken done trace todo id e (posted_last id e kept rest) (last_goes id e kept rest rest_goes)) rest_goes),
  )

module _ (slots requests : ℕ) (calls : ℕ → Type 0) (broken : List ℕ) (done : List Done) (trace : List Entry) where
  abbrev Ends : Program → Type 0
  Ends program = ExplainsBy slots requests calls Closing broken done trace [] program

  thrown_goes : (how : Ended) → Ends (thrown_away how)
  thrown_goes how = split (how.fault && nat_lt how.reading.total LIMIT) (Round (Discards how.reading.link how.reading.total) (λ _. Rest)) Rest Ends ((tt, tt), λ _ _. refl) refl

  read_goes : (os : List ℕ) (how : Ended) → Ends (read os how)
  read_goes os how = let id : ℕ = how.reading.id in let last : Program = post_each os how.reading.link how.code how.reading.kept (thrown_away how) in
      let last_is = each_goes slots requests calls broken done trace [] os how.reading.link how.code how.reading.kept (thrown_away how) (thrown_goes how) in
      split how.closed last (add_reference id (set_failed id how.code (λ _. release (socket_id_slot id) (λ _. last))) (λ _. last)) Ends last_is (closes_goes slots requests calls broken done trace [] id how.code last last_is)

  -- each reader, and the ending, only close sockets and speak of calls
  pub reader_explains : (os : List ℕ) (k o : ℕ) → Ends (reader os k o)
  reader_explains os k o = (
    (tt, tt),
    λ word _. split (eqb word NO_SOCKET) Rest (Round (Reads (record { ids = length os; link = k; id = word - 1; rest = []; total = 0; kept = [] })) (read os)) Ends refl ((tt, tt), λ how _. read_goes os how),
  )

  pub ending_explains : (os : List ℕ) → Ends (ending_of os)
  ending_explains [] = refl
  ending_explains (o ∷ os) = (
    tt,
    λ word. let next : Program = ending_of os in let there : Program = add_reference (word - 1) (set_failed (word - 1) 1014 (λ _. release (socket_id_slot (word - 1)) (λ _. next))) (λ _. next) in
        split (eqb word 0) next (if eqb word NO_SOCKET then next else there) Ends (ending_explains os)
        (split (eqb word NO_SOCKET) next there Ends (ending_explains os) (closes_goes slots requests calls broken done trace [] (word - 1) 1014 next (ending_explains os))),
  )
