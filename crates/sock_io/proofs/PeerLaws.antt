-- What the steps of an other end say together: one that is done stays so.
use Rattle.std.proofs.Common.{◌≡◌, ◌≢◌, ℕ, ◌⊎◌, inl, inr, ◌&&◌, ◌||◌, not, Bool, true, false, List, [], Option, None, Some, Result, Ok, Err, refl, arith, ap, sym, ◌∙◌, subst, append-nil}
use Rattle.std.specs.Io.KnownBytes.{append_known}
use Rattle.sock_io.specs.declared.ending.Ending.{Ending}
use Rattle.sock_io.specs.declared.ending.Ending.TheVariants as ending
use Rattle.sock_io.specs.declared.link.Served.{Served}
use Rattle.sock_io.specs.declared.link.Served.TheVariants as served
use Rattle.sock_words.specs.declared.memory.NoMemory.{NoMemory}
use Rattle.sock_io.specs.Peer.{PeerState, Moves, Moved, ServeStep, has_ended, is_done}

true_not_false : (b : Bool) → b ≡ true → b ≡ false → ⊥
true_not_false b t f = cc

why_done : (present saw_finish : Bool) (e : Ending) → (not present || (has_ended e && saw_finish)) ≡ true → (present ≡ false) ⊎ ((saw_finish ≡ true) × (e ≢ ending.Open))
why_done false s e done = inl refl
why_done true true ending.Open done = absurd (true_not_false _ refl (sym done))
why_done true true ending.Ended done = inr (refl, λ e. cc)
why_done true true ending.Closed done = inr (refl, λ e. cc)
why_done true false ending.Open done = absurd (true_not_false _ refl (sym done))
why_done true false ending.Ended done = absurd (true_not_false _ refl (sym done))
why_done true false ending.Closed done = absurd (true_not_false _ refl (sym done))

known_stay : (old : Option (List ℕ)) → append_known old [] ≡ old
known_stay None = refl
known_stay (Some bytes) = ap Some (append-nil bytes)

-- where nothing was taken and given, and no mark is new, all is as before
unmoved : (old new : PeerState) → Moves old new [] [] → new.saw_finish ≡ old.saw_finish → new.ending ≡ old.ending → new.starved ≡ old.starved → new ≡ old
unmoved old new m s e c =
    let present : new.present ≡ old.present = m.present in
    let took : new.took ≡ old.took = omega (arith, m.took.count) in
    let gave : new.gave ≡ old.gave = omega (arith, m.gave.count) in
    let took_bytes : new.took_bytes ≡ old.took_bytes = m.took.known ∙ known_stay old.took_bytes in
    let gave_bytes : new.gave_bytes ≡ old.gave_bytes = m.gave.known ∙ known_stay old.gave_bytes in
    λ i. record { present = present i; serve = m.asked.0 i; end = m.asked.1 i; way_in = m.ways.0 i; way_out = m.ways.1 i; took = took i; took_bytes = took_bytes i; saw_finish = s i; gave = gave i; gave_bytes = gave_bytes i; ending = e i; starved = c i }

-- whichever way it is done
still_if : (old new : PeerState) (taken given : List ℕ) → (old.present ≡ false) ⊎ ((old.saw_finish ≡ true) × (old.ending ≢ ending.Open)) → Moves old new taken given → new.starved ≡ old.starved → new ≡ old
still_if old new taken given (inl none) m calm = m.absent none
still_if old new taken given (inr why) m calm =
    let finished : (new.saw_finish ≡ true) × (taken ≡ []) = m.finished why.0 in
    let kept : (new.ending ≡ old.ending) × (given ≡ []) = m.ended why.1 in
    let none : Moves old new [] [] = subst (λ bytes. Moves old new [] bytes) kept.1 (subst (λ bytes. Moves old new bytes given) finished.1 m) in
    unmoved old new none (finished.0 ∙ sym why.0) kept.0 calm

still : (old new : PeerState) → is_done old ≡ true → Moved old new → new.starved ≡ old.starved → new ≡ old
still old new done (taken, given, m) calm = still_if old new taken given (why_done old.present old.saw_finish old.ending done) m calm

-- who is done has an end and is no new one for want of memory
open_not_done : (old : PeerState) → is_done old ≡ true → old.present ≡ true → old.ending ≢ ending.Open
open_not_done old done present start = grind (arith, done, present, start)

-- one that was done answers `Done` and moves nothing
pub done_for_good : (old new : PeerState) (answer : Result Served NoMemory) → is_done old ≡ true → ServeStep old answer new → (answer ≡ Ok served.Done) × (new ≡ old)
done_for_good old new (Ok served.Moved) done step = absurd (true_not_false (is_done new) (ap is_done (still old new done step.0 step.3) ∙ done) step.2)
done_for_good old new (Ok served.Waiting) done step = absurd (true_not_false (is_done new) (ap is_done step.0 ∙ done) step.1)
done_for_good old new (Ok served.Done) done step = (refl, still old new done step.0 step.2)
done_for_good old new (Err fault) done step = absurd (open_not_done old done step.1 step.2)
