-- The seats that are given one after another are those of `sim`.
use Rattle.std.proofs.Common.{◌≡◌, ℕ, zero, suc, ◌+◌, ◌*◌, ◌%◌, ◌<◌, ◌==◌, false, cond, [], ◌∷◌, ◌++◌, map, length, refl, ap, sym, ◌∙◌, arith, add-one}
use Rattle.std.proofs.lemmas.Bool.Decides.{nat_tests}
use Rattle.std.proofs.lemmas.List.{length-map, map-append}
use Rattle.brpc_model.specs.DrawnSeatsAndScripts.{drawn, drawn_state, draws, state_behind, seat_of, sim_seats_of}
use Rattle.script_draw.specs.DrawnSeats.{seat_count}
use Rattle.script_draw.proofs.DrawLemmas.{draws_one}

-- where there are none, none is drawn
pub seats_none : (cs n x : ℕ) → sim_seats_of 0 cs n x ≡ []
seats_none cs n x = refl

-- the first seat, and then those behind its draw
pub seats_step : (total cs n x : ℕ) → 0 < total → sim_seats_of total cs (suc n) x ≡ seat_of cs (drawn x % total) ∷ sim_seats_of total cs n (drawn_state x)
seats_step zero cs n x h = absurd (omega (arith, h))
seats_step (suc others) cs n x h = refl

-- the seats with one more
pub seats_more : (total cs n x : ℕ) → 0 < total → sim_seats_of total cs (n + 1) x ≡ sim_seats_of total cs n x ++ seat_of cs (drawn (state_behind n x) % total) ∷ []
seats_more zero cs n x h = absurd (omega (arith, h))
seats_more (suc others) cs n x h =
    let seat : ℕ → ℕ = λ d. seat_of cs (d % suc others) in
    ap (λ k. map seat (draws k x)) (add-one n) ∙ ap (map seat) (draws_one n x) ∙ map-append seat (draws n x) (drawn (state_behind n x) ∷ [])

draws_length : (n x : ℕ) → length (draws n x) ≡ n
draws_length zero x = refl
draws_length (suc n) x = ap suc (draws_length n (drawn_state x))

-- how many are counted where there are any
pub count_some : (total ops : ℕ) → 0 < total → seat_count total ops ≡ 64 * ops + 256
count_some total ops h = let off : (total == 0) ≡ false = grind (arith, nat_tests, h) in ap {B = ℕ} (λ b. cond b 0 (64 * ops + 256)) off

-- there are as many as are counted
pub seats_counted : (total cs ops x : ℕ) → length (sim_seats_of total cs (64 * ops + 256) x) ≡ seat_count total ops
seats_counted zero cs ops x = refl
seats_counted (suc others) cs ops x =
    length-map (draws (64 * ops + 256) x) (λ d. seat_of cs (d % suc others)) ∙ draws_length (64 * ops + 256) x ∙ sym (count_some (suc others) ops (omega arith))
