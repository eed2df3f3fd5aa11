-- The rule of the ids allows a reader.
use Rattle.std.proofs.Common.{◌≡◌, ℕ, ◌+◌, ◌-◌, ◌<◌, ◌≤◌, ◌&&◌, Bool, true, false, cond, eqb, eqb-true, nat_lt, List, [], ◌∷◌, length, refl, sym, subst, arith}
use Rattle.std.specs.List.{AllByRecursion}
use Rattle.sock_words.specs.declared.plain.Plan.{Plan}
use Rattle.sock_words.specs.PackedWords.{socket_id_slot, at_word_first, at_word_slot, at_word_link, at_word_attempt, call_id, id_slot, id_first, NO_SOCKET}
use Rattle.corr_core.specs.IdSlotWord.{parts, error_of}
use Rattle.corr_core.specs.declared.marks.Plan.{Plan as IdPlan}
use Rattle.seat_programs.specs.brpc_model.specs.Frame.{Frame}
use Rattle.id_rule.specs.LawfulIdTable.{at_index as at_place, with_kept}
use Rattle.seat_programs.specs.LoopHeads.{Reads, Discards, Posting, HasLocked, Deciding, HasEnded, GoesOn, Ended}
use Rattle.seat_programs.specs.Programs.{Program, Rest, Round, add_reference, release, set_failed}
use Rattle.seat_programs.specs.PostPrograms.{post_with, decided}
use Rattle.seat_programs.specs.ReaderProgram.{LIMIT, slot_in, kept_for, ends_with, posted_last, post_each, thrown_away, read, reader}
use Rattle.id_runs.specs.HeldIdTokens.{IdView}
use Rattle.id_runs.specs.Goes.{IsLocked, IsFree, IsCode, EndsReading, LeavesPost, IdGoesOn}
use Rattle.id_runs.proofs.IdLoopRounds.{not_equal, way, both_ways, decide_goes, answer_goes, post_with_goes}
use Rattle.id_runs.proofs.IdPrograms.{release_goes, address_goes, set_failed_goes}

module _ (p : Plan) (q : IdPlan) (narrow : q.slots ≤ 65536) where
  abbrev Goes : IdView → Program → Type 0
  Goes u x = IdGoesOn p q u x

  abbrev Follows : Program → Type 0
  Follows after = (v : IdView) → IsFree v → Goes v after

  decided_goes : (id : ℕ) (next : Program) → Follows next → (exit : Deciding) (v : IdView) → IsFree v → Goes v (decided id next exit)
  decided_goes id next goes (HasEnded o code) v free = goes v free
  decided_goes id next goes GoesOn v free = goes v free

  -- the call in hand ends with the first of the kept responses of its versions, or it is decided on
  kept_ends : (id e word range : ℕ) (kept : List Frame) (next : Program) (v : IdView) → id_slot id < q.slots → IsLocked (id_slot id) 0 word v → Follows next → Goes v (ends_with id e word (kept_for id range kept) next)
  kept_ends id e word range [] next v inside l goes = decide_goes p q v id word e (decided id next) inside l (decided_goes id next goes)
  kept_ends id e word range (f ∷ fs) next v inside l goes = by_slot (eqb (slot_in f) (id_slot id)) (nat_lt id f.meta.correlation_id && nat_lt f.meta.correlation_id (id + range)) refl (kept_ends id e word range fs next v inside l goes)
    where
      by_slot : (b s : Bool) → eqb (slot_in f) (id_slot id) ≡ b → Goes v (ends_with id e word (kept_for id range fs) next) → Goes v (ends_with id e word (cond (b && s) (f ∷ kept_for id range fs) (kept_for id range fs)) next)
      by_slot true true is later = let same : slot_in f ≡ id_slot id = eqb-true (slot_in f) (id_slot id) is in answer_goes p q v f (id_first id) word next (subst (λ i. i < q.slots) (sym same) inside) (subst (λ i. IsLocked i 0 word v) (sym same) l) goes
      by_slot true false is later = later
      by_slot false s is later = later

  posted_last_goes : (id e : ℕ) (kept : List Frame) (next : Program) → id_slot id < q.slots → Follows next → (exit : Posting) (v : IdView) → LeavesPost (id_slot id) exit v → Goes v (posted_last id e kept next exit)
  posted_last_goes id e kept next inside goes (HasLocked word) v l = kept_ends id e word (parts word).range kept next v inside l goes
  posted_last_goes id e kept next inside goes _ v free = goes v free

  post_each_goes : (os : List ℕ) → AllByRecursion (λ o. o < q.operations) os → (k code : ℕ) → IsCode code → (kept : List Frame) (next : Program) → Follows next → Follows (post_each os k code kept next)
  post_each_goes [] all k code is kept next goes u free = goes u free
  post_each_goes (o ∷ os) all k code is kept next goes u free = (
    all.0,
    λ w c f. let rest : Program = post_each os k code kept next in let id : ℕ = call_id (at_word_slot w) (at_word_first w) in let e : ℕ = error_of code (at_word_attempt w) in
        both_ways p q (eqb w 0) u (with_kept (at_place q o) false w u) (post_each os k code kept next)
        (cond (eqb (at_word_link w) k) (post_with (call_id (at_word_slot w) (at_word_first w)) (error_of code (at_word_attempt w)) (posted_last (call_id (at_word_slot w) (at_word_first w)) (error_of code (at_word_attempt w)) kept (post_each os k code kept next))) (post_each os k code kept next))
        (λ _. post_each_goes os all.1 k code is kept next goes u free)
        (λ some_. let inside = f (not_equal w 0 some_) in
        way p q (with_kept (at_place q o) false w u) (eqb (at_word_link w) k)
        (post_with (call_id (at_word_slot w) (at_word_first w)) (error_of code (at_word_attempt w)) (posted_last (call_id (at_word_slot w) (at_word_first w)) (error_of code (at_word_attempt w)) kept (post_each os k code kept next))) (post_each os k code kept next)
        (λ _. post_with_goes p q (with_kept (at_place q o) false w u) (call_id (at_word_slot w) (at_word_first w)) (error_of code (at_word_attempt w)) (posted_last (call_id (at_word_slot w) (at_word_first w)) (error_of code (at_word_attempt w)) kept (post_each os k code kept next)) free inside
        (error_is code (at_word_attempt w) is.0 is.1 (omega arith)) (posted_last_goes (call_id (at_word_slot w) (at_word_first w)) (error_of code (at_word_attempt w)) kept (post_each os k code kept next) inside (post_each_goes os all.1 k code is kept next goes)))
        (λ _. post_each_goes os all.1 k code is kept next goes (with_kept (at_place q o) false w u) free)),
  )
    where
      error_is : (code attempt : ℕ) → 0 < code → code < 4096 → attempt < 8 → Rattle.id_runs.specs.Goes.IsError (error_of code attempt)
      error_is code attempt some_ small one_of = ((λ z. omega (arith, z, some_)), omega (arith, small, one_of))

  thrown_goes : (how : Ended) → Follows (thrown_away how)
  thrown_goes how u free = way p q u (how.fault && nat_lt how.reading.total LIMIT) (Round (Discards how.reading.link how.reading.total) (λ _. Rest)) Rest (λ _. (free, λ _ v f. f)) (λ _. free)

  read_goes : (calls : List ℕ) → AllByRecursion (λ o. o < q.operations) calls → (how : Ended) (u : IdView) → EndsReading how u → Goes u (read calls how)
  read_goes calls all how u ends = let last : Program = post_each calls how.reading.link how.code how.reading.kept (thrown_away how) in let goes = post_each_goes calls all how.reading.link how.code ends.1 how.reading.kept (thrown_away how) (thrown_goes how) in
      way p q u how.closed (post_each calls how.reading.link how.code how.reading.kept (thrown_away how))
      (add_reference how.reading.id (set_failed how.reading.id how.code (λ _. release (socket_id_slot how.reading.id) (λ _. post_each calls how.reading.link how.code how.reading.kept (thrown_away how)))) (λ _. post_each calls how.reading.link how.code how.reading.kept (thrown_away how)))
      (λ _. goes u ends.0)
      (λ _. address_goes p q narrow u how.reading.id (set_failed how.reading.id how.code (λ _. release (socket_id_slot how.reading.id) (λ _. post_each calls how.reading.link how.code how.reading.kept (thrown_away how)))) (λ _. post_each calls how.reading.link how.code how.reading.kept (thrown_away how))
      (set_failed_goes p q narrow u how.reading.id how.code ends.1.1 (λ _. release (socket_id_slot how.reading.id) (λ _. post_each calls how.reading.link how.code how.reading.kept (thrown_away how)))
      (λ _. release_goes p q narrow u (socket_id_slot how.reading.id) (λ _. post_each calls how.reading.link how.code how.reading.kept (thrown_away how)) (λ _. goes u ends.0)))
      (λ _. goes u ends.0))

  -- a reader of a script that has an id slot for each of its calls
  pub reader_goes : (calls : List ℕ) → AllByRecursion (λ o. o < q.operations) calls → length calls ≡ q.slots → (k o : ℕ) → Follows (reader calls k o)
  reader_goes calls all slots k o u free = (
    free,
    λ word v f. way p q v (eqb word NO_SOCKET) Rest (Round (Reads (record { ids = length calls; link = k; id = word - 1; rest = []; total = 0; kept = [] })) (read calls)) (λ _. f)
        (λ _. ((f, slots), λ how w ends. read_goes calls all how w ends)),
  )
