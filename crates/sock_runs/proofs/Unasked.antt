-- A seat that is at rest behind ticks of its own in which no link is asked came to no step that asks one, so each of these ticks is answered.
use Rattle.std.proofs.Common.{◌≡◌, ◌≢◌, ℕ, zero, suc, ◌⊎◌, inl, inr, ⊎_elim, replicate, refl, sym, ap, ◌∙◌, subst}
use Rattle.std.proofs.lemmas.Option.{none-some}
use Rattle.std.specs.Prelude as std
use Rattle.std.specs.Prelude.{None}
use mathlib.Core.Option.{Option, some, none, some-injective, some-ne-none}
use lib.ListN.{get_elem?}
use Rattle.sock_words.specs.declared.kind.Kind.{Kind}
use Rattle.sock_words.specs.declared.plain.Plan.{Plan}
use Rattle.seat_programs.specs.Writings.{Puts, Waits, Empties, Reversing}
use Rattle.seat_programs.specs.Programs.{Program, PutBytes, AskReady, Write, Aside, Round}
use Rattle.seat_programs.specs.Asides.{TakeBytes}
use Rattle.seat_programs.specs.LoopHeads.{Reads, Discards}
use Rattle.seat_programs.specs.Cores.{Core, SeatState}
use Rattle.seat_programs.specs.Ticks.{Unasked, quiet, tick_with, ticked, run, IsAnswer, AreAnswered}
use Rattle.seat_programs.specs.ScheduledRuns.{kind_in, IsAtRest}

-- whoever asks its link isn't at rest, and stays as it is where the link isn't asked
asks_or_not : (p : Plan) (c : Core) (i : ℕ) (seat : SeatState) (program : Program) → IsAnswer program Unasked ⊎ ((tick_with p i seat c Unasked program ≡ c) × (kind_in program ≢ None))
asks_or_not p c i seat (PutBytes k asked bytes next) = inr (refl, λ e. none-some _ (sym e))
asks_or_not p c i seat (AskReady k next) = inr (refl, λ e. none-some _ (sym e))
asks_or_not p c i seat (Write (Waits h now heading left taken) after) = inr (refl, λ e. none-some _ (sym e))
asks_or_not p c i seat (Write (Puts h now heading left taken asked) after) = inl tt
asks_or_not p c i seat (Write (Empties h) after) = inl tt
asks_or_not p c i seat (Write (Reversing h top at after) then_) = inl tt
asks_or_not p c i seat (Aside (TakeBytes k room) next) = inr (refl, λ e. none-some _ (sym e))
asks_or_not p c i seat (Round (Reads r) next) = inr (refl, λ e. none-some _ (sym e))
asks_or_not p c i seat (Round (Discards k total) next) = inr (refl, λ e. none-some _ (sym e))
asks_or_not p c i seat _ = inl tt

-- where a tick leaves all as it is, so do more of them
stays : (p : Plan) (c : Core) (i n : ℕ) → ticked p c (quiet i) ≡ c → run p c (replicate n (quiet i)) ≡ c
stays p c i zero same = refl
stays p c i (suc n) same = ap (λ d. run p d (replicate n (quiet i))) same ∙ stays p c i n same

pub quiet_answered : (p : Plan) (c : Core) (i n : ℕ) → IsAtRest (run p c (replicate n (quiet i))) i → AreAnswered p c (replicate n (quiet i))
quiet_answered p c i zero idle = tt
quiet_answered p c i (suc n) idle = by_seat (quiet_answered p (ticked p c (quiet i)) i n idle) (get_elem? c.seats i) refl
  where
    by_seat : AreAnswered p (ticked p c (quiet i)) (replicate n (quiet i)) → (q : Option SeatState) → get_elem? c.seats i ≡ q → AreAnswered p c (replicate (suc n) (quiet i))
    by_seat later none e = (λ seat at. absurd (some-ne-none seat (sym at ∙ e)), later)
    by_seat later (some seat) e = ⊎_elim
        (λ answer. (λ s at. subst (λ (x : SeatState). IsAnswer x.program Unasked) (some-injective seat s (sym e ∙ at)) answer, later))
        (λ x. let same : ticked p c (quiet i) ≡ c = ap (λ o. elim o as (λ o. Core) [ none ↦ c | some s ↦ tick_with p i s c Unasked s.program ]) e ∙ x.0 in
        let here : IsAtRest c i = subst (λ d. IsAtRest d i) (stays p c i (suc n) same) idle in
        absurd (x.1 (ap (λ o. elim o as (λ o. std.Option Kind) [ none ↦ None | some s ↦ kind_in s.program ]) (sym e) ∙ here)))
        (asks_or_not p c i seat seat.program)
