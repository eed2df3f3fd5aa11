-- Steps of an other end on worked values, and steps that there aren't.
use Rattle.std.proofs.Common.{◌≡◌, ◌≢◌, inl, inr, Bool, true, false, [], ◌∷◌, length, Some, None, Ok, Err, refl, ap, arith, rules}
use Rattle.sock_io.specs.declared.ending.Ending.{Ending}
use Rattle.sock_io.specs.declared.ending.Ending.TheVariants as ending
use Rattle.sock_io.specs.declared.link.Served.TheVariants as served
use Rattle.sock_io.specs.Peer.{PeerState, Moved, HasMoved, ServeStep}

abbrev fresh : PeerState
fresh = record { present = true; serve = true; end = None; way_in = []; way_out = []; took = 0; took_bytes = Some []; saw_finish = false; gave = 0; gave_bytes = None; ending = ending.Open; starved = false }

-- three bytes came in, and two went out
abbrev answered : PeerState
answered = record { present = true; serve = true; end = None; way_in = []; way_out = []; took = 3; took_bytes = Some (1 ∷ 2 ∷ 3 ∷ []); saw_finish = false; gave = 2; gave_bytes = None; ending = ending.Open; starved = false }

-- the link was finished, and it closed its half
abbrev closed : PeerState
closed = record { present = true; serve = true; end = None; way_in = []; way_out = []; took = 3; took_bytes = Some (1 ∷ 2 ∷ 3 ∷ []); saw_finish = true; gave = 2; gave_bytes = None; ending = ending.Closed; starved = false }

-- it gave its end for want of memory, and takes what still comes
abbrev ended : PeerState
ended = record { present = true; serve = true; end = None; way_in = []; way_out = []; took = 3; took_bytes = Some (1 ∷ 2 ∷ 3 ∷ []); saw_finish = false; gave = 2; gave_bytes = None; ending = ending.Ended; starved = true }

-- three bytes come in and two go out, and behind them stands this
came : (last : Ending) (starved : Bool) → last ≢ ending.Closed → Moved fresh (record answered { ending = last; starved = starved })
came last starved unclosed = (1 ∷ 2 ∷ 3 ∷ [], 7 ∷ 8 ∷ [], search (rules, unclosed))

moves_bytes : ServeStep fresh (Ok served.Moved) answered
moves_bytes = (
  came ending.Open false (λ e. cc),
  inl (omega arith),
  refl,
  refl,
)

waits : ServeStep answered (Ok served.Waiting) answered
waits = (refl, refl)

closes : ServeStep answered (Ok served.Done) closed
closes = (([], [], search rules), refl, refl)

gives_its_end : ServeStep fresh (Err record {}) ended
gives_its_end = (
  came ending.Ended true (λ e. cc),
  refl,
  refl,
  refl,
  refl,
)

-- `Moved` isn't answered where nothing moved
not_moved : (peer : PeerState) → HasMoved peer peer → ⊥
not_moved peer (inl more) = omega (arith, more)
not_moved peer (inr (inl more)) = omega (arith, more)
not_moved peer (inr (inr (inl differs))) = differs refl
not_moved peer (inr (inr (inr differs))) = differs refl

-- no byte is given behind the end, and none is taken back
none_behind_the_end : ServeStep ended (Ok served.Moved) (record ended { gave = 3 }) → ⊥
none_behind_the_end ((taken, given, m), moved, done, calm) =
    let none : length given ≡ 0 = ap length (m.ended (λ e. cc)).1 in
    omega (arith, m.gave.count, none)

none_back : ServeStep answered (Ok served.Moved) (record answered { took = 2 }) → ⊥
none_back ((taken, given, m), moved, done, calm) = omega (arith, m.took.count)

-- `Done` isn't answered without a cause
not_done : ServeStep answered (Ok served.Done) answered → ⊥
not_done (m, done, calm) = cc
