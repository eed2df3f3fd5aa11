-- Where the reader of a link waits for bytes as the ending begins, the link gave all that belongs to what it took by then.
use Rattle.std.proofs.Common.{◌≡◌, ℕ, zero, suc, ◌+◌, ◌<◌, ◌⊎◌, inl, inr, ⊎_elim, Bool, true, false, List, [], ◌∷◌, ◌++◌, length, refl, sym, ap, ◌∙◌, subst, arith}
use Rattle.std.proofs.lemmas.Bool.{true≢false}
use Rattle.std.proofs.lemmas.Option.{slice_get_within}
use Rattle.std.specs.Prelude as std
use Rattle.std.specs.Prelude.{slice_get, Some}
use mathlib.Core.Option.{Option, none, some, some-injective, some-ne-none}
use lib.ListN.{get_elem?}
use Rattle.sock_words.specs.declared.kind.Kind.{Kind}
use Rattle.sock_words.specs.declared.plain.Plan.{Plan}
use Rattle.sock_io.specs.declared.link.Ready.TheVariants as ready
use Rattle.brpc_model.specs.Items.{Item, Shape}
use Rattle.brpc_model.specs.Operations.{Turn, clients, link_names, link_shapes}
use Rattle.seat_programs.specs.Asides.{Bytes, Nothing, NoMore, AtEnd, Closed, Broken}
use Rattle.seat_programs.specs.LoopHeads.{Exit, Reading, Reads}
use Rattle.seat_programs.specs.Programs.{Program, Round}
use Rattle.seat_programs.specs.LoopRounds.{kind_of_round, first_step}
use Rattle.seat_programs.specs.Cores.{Core, SeatState}
use Rattle.seat_programs.specs.ScheduledRuns.{IsAtRest, kind_in}
use Rattle.seat_programs.specs.Tasks.{plan_of}
use Rattle.seat_programs.specs.Ticks.{Answer, Unasked, OfPut, OfReady, OfTake, Moment, seats_of, ticked, run, waits, waits_at}
use Rattle.seat_programs.specs.ScriptSetupToEnding.{set_up, played, AreStill, ticks_of, IsRunWithCalls}
use Rattle.served_fits.specs.Below.call_owing.proofs.EndsStill.{all_still, in_round}
use Rattle.served_fits.specs.Below.accept_counts.proofs.RestsWithoutCalls.{before_last, rested_still}
use Rattle.served_fits.specs.served_runs.specs.OfferedReplies.{GaveAll, OffersAt, IsOffered, AreOffered, OffersInRun}
use Rattle.served_fits.specs.served_runs.proofs.ServedLinks.{shapes_many}

-- ## Parts of runs

-- behind some of these ticks the others are offered so too
offered_behind : (script : List Item) (xs ys : List Moment) (c : Core) → AreOffered script c (xs ++ ys) → AreOffered script (run (plan_of script) c xs) ys
offered_behind script [] ys c offered = offered
offered_behind script (x ∷ xs) ys c offered = offered_behind script xs ys (ticked (plan_of script) c x) offered.1

-- of ticks that move nothing, that of this seat is one where it waits, and is offered so
abbrev Waits : List Item → Core → ℕ → Type 0
Waits script c i = IsAtRest c i ⊎ ((m : Moment) × (m.seat ≡ i) × (waits (plan_of script) c m ≡ true) × IsOffered script c m)

still_offered : (script : List Item) (c : Core) (ms : List Moment) → AreStill (plan_of script) c ms → AreOffered script c ms → (n i : ℕ) → get_elem? (seats_of ms) n ≡ some i → Waits script c i
still_offered script c [] still offered n i at = absurd (some-ne-none i (sym at))
still_offered script c (m ∷ ms) still offered zero i at = let same : m.seat ≡ i = some-injective m.seat i at in ⊎_elim (λ rest. inl (subst (IsAtRest c) same rest)) (λ w. inr (m, same, w, offered.0)) still.0
still_offered script c (m ∷ ms) still offered (suc n) i at = let e : ticked (plan_of script) c m ≡ c = all_still (plan_of script) c (m ∷ []) (still.0, tt) in
    subst (λ d. Waits script d i) e (still_offered script (ticked (plan_of script) c m) ms still.1 offered.1 n i at)

-- a reader waits for bytes only where it finds none
finds_nothing : (p : Plan) (c : Core) (r : Reading) (next : Exit (Reads r) → Program) (answer : Answer) → waits_at p c answer (Round (Reads r) next) ≡ true → answer ≡ OfTake Nothing
finds_nothing p c r next Unasked e = absurd (true≢false (sym e))
finds_nothing p c r next (OfPut a) e = absurd (true≢false (sym e))
finds_nothing p c r next (OfReady ready.Now) e = absurd (true≢false (sym e))
finds_nothing p c r next (OfReady ready.NotYet) e = absurd (true≢false (sym e))
finds_nothing p c r next (OfReady ready.Failed) e = absurd (true≢false (sym e))
finds_nothing p c r next (OfTake (Bytes bytes)) e = absurd (true≢false (sym e))
finds_nothing p c r next (OfTake Nothing) e = refl
finds_nothing p c r next (OfTake NoMore) e = absurd (true≢false (sym e))
finds_nothing p c r next (OfTake AtEnd) e = absurd (true≢false (sym e))
finds_nothing p c r next (OfTake Closed) e = absurd (true≢false (sym e))
finds_nothing p c r next (OfTake Broken) e = absurd (true≢false (sym e))

module _ (script : List Item) (turns : List Turn) (core : Core) (is : IsRunWithCalls script turns core) (offers : OffersInRun script turns core is) where
  abbrev before : Core
  before = played script is.setup (is.scheduled ++ is.later)

  offered_last : AreOffered script (before_last script turns core is) (let s = is.settles in s.last)
  offered_last = let s = is.settles in offered_behind script (ticks_of s.moving) s.last (played script is.setup is.scheduled)
      (subst (AreOffered script (played script is.setup is.scheduled)) s.all (offered_behind script is.scheduled is.later (set_up script is.setup) offers.played))

  -- a reader is at rest where the ending begins, or it waits, and its link gives what it should
  reader_waits : (k : ℕ) → k < length (link_names script) → Waits script before (32 + k)
  reader_waits k low = let s = is.settles in let n = in_round (clients script) (length (link_names script)) (32 + k) (inr (omega arith, omega (arith, low))) in
      subst (λ d. Waits script d (32 + k)) (sym (rested_still script turns core is)) (still_offered script (before_last script turns core is) s.last s.still offered_last n.0 (32 + k) (ap (λ (l : List ℕ). get_elem? l n.0) s.one_more ∙ n.1))

  module _ (k : ℕ) (shape : Shape) (shape_is : slice_get (link_shapes script) k ≡ Some shape) (seat : SeatState) (at_seat : get_elem? (played script is.setup (is.scheduled ++ is.later)).seats (32 + k) ≡ some seat)
      (r : Reading) (next : Exit (Reads r) → Program) (reads : seat.program ≡ Round (Reads r) next) (own : r.link ≡ k) where
    no_rest : IsAtRest before (32 + k) → ⊥
    no_rest rest = let z : Some (kind_of_round (Reads r)) ≡ std.None = sym (ap (λ (o : Option SeatState). elim o as (λ o. std.Option Kind) [ none ↦ std.None | some s ↦ kind_in s.program ]) at_seat ∙ ap kind_in reads) ∙ rest in cc

    -- it gave all that belongs to what it took
    pub gave_before : GaveAll (plan_of script) shape (played script is.setup (is.scheduled ++ is.later)) k
    gave_before = ⊎_elim (λ rest. absurd (no_rest rest)) by (reader_waits k (let l = slice_get_within (link_shapes script) k shape shape_is in let m = shapes_many script in omega (arith, l, m)))
      where
        by : (m : Moment) × (m.seat ≡ 32 + k) × (waits (plan_of script) before m ≡ true) × IsOffered script before m → GaveAll (plan_of script) shape before k
        by (m, same, w, offered) = let here : get_elem? before.seats m.seat ≡ some seat = ap (get_elem? before.seats) same ∙ at_seat in
            let w' : waits_at (plan_of script) before m.answer (Round (Reads r) next) ≡ true = sym (ap (λ (o : Option SeatState). elim o as (λ o. Bool) [ none ↦ false | some s ↦ waits_at (plan_of script) before m.answer s.program ]) here ∙ ap (waits_at (plan_of script) before m.answer) reads) ∙ w in
            let found = subst (λ x. OffersAt script before m.answer (first_step x)) reads (offered seat here) in
            subst (λ l. GaveAll (plan_of script) shape before l) own (found shape Nothing (ap (slice_get (link_shapes script)) own ∙ shape_is) (finds_nothing (plan_of script) before r next m.answer w'))
