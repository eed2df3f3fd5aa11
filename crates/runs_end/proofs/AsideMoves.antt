-- Each step aside of the sockets leaves fewer, where its number falls by more than it costs.
use Rattle.std.proofs.Common.{◌≡◌, ℕ, ◌+◌, ◌-◌, ◌*◌, ◌<◌, ◌≤◌, Bool, true, false, List, length, set, refl, sym, ap, ◌∙◌, subst, ⊎_elim, arith, cond, eqb, eq-eqb, eqb-true, Some, None}
use Rattle.std.specs.Prelude as std
use Rattle.std.specs.Prelude.{slice_index}
use mathlib.Core.Option.{Option, some, some-injective}
use lib.ListN.{get_elem?}
use lib.Seq.{set-get_or}
use Rattle.atomic_table.proofs.Lists.{set_again}
use Rattle.sock_words.specs.declared.plain.Plan.{Plan}
use Rattle.sock_model.specs.declared.view.View.{View}
use Rattle.seat_programs.specs.corr_core.specs.IdSlotWord.{parts, made_word, posted_word, unlocked_word, free_word}
use Rattle.seat_programs.specs.id_rule.specs.LawfulIdTable.{id_index, at_index}
use Rattle.seat_programs.specs.Asides.{Step, Found, ClaimId, PutCall, MakeId, StoreCall, LoadCall, StoreAt, LoadAt, LoadIdWord, LockId, PostId, UnlockId, EndId, FreeId, TakeCall, TakeBytes, Taking, Bytes}
use Rattle.seat_programs.specs.FoundAndChangedAside.{found_in, calls_after, with_word, more_given}
use Rattle.seat_programs.specs.PostPrograms.{packed}
use Rattle.seat_programs.specs.Programs.{Program, Aside}
use Rattle.seat_programs.specs.Cores.{Calls, Core, SeatState, with_seat}
use Rattle.sock_runs.specs.program_steps.specs.IdWordFits.{FitsFound}
use Rattle.sock_runs.specs.program_steps.specs.ProgramGoesOn.{GoesOn}
use Rattle.sock_runs.specs.program_steps.specs.TicksLeftAtMost.{STALE, CHANGE, ERROR, attempt_cost, advance_gain, popped_gain, fresh, expects, stale_cost, ids_left, IsCountedStep, LastsFor, Lasts}
use Rattle.sock_runs.specs.program_steps.proofs.TickCases.{given_waiting}
use Rattle.runs_end.proofs.IdCosts.{Falls}
use Rattle.runs_end.proofs.SeatCosts.{IsThere}
use Rattle.runs_end.proofs.IdWordChangesCounted.{made_counts, ended_counts, locked_counts, queued_counts, unlocked_counts, tag_same, call_same, at_counts}
use Rattle.runs_end.proofs.StepsLeaveFewer.{AreSameIds, Fewer, quiet_moves, loud_moves, walks}
use Rattle.sock_words.specs.Totals.{total}
use Rattle.sock_words.specs.PackedWords.{bit}

-- what the seat paid for the word that it expects is at most what it counts for another one, unless its exchange succeeds
abbrev pub IsLate : (step : Step) → Found step → ℕ → ℕ → Type 0
IsLate (LockId i from) found paid old = eqb found from ≡ false → paid ≤ old
IsLate (PostId i from e) found paid old = eqb found from ≡ false → paid ≤ old
IsLate (UnlockId i from advance) found paid old = eqb found from ≡ false → paid ≤ old
IsLate other found paid old = paid ≡ 0

-- a take changes nothing of the ids
given_plan : (k : ℕ) (t : Taking) (a : Calls) → (more_given k t a).plan ≡ a.plan
given_plan k (Bytes bytes) a = refl
given_plan k _ a = refl

given_words : (k : ℕ) (t : Taking) (a : Calls) (j : ℕ) → slice_index (more_given k t a).words (id_index j) ≡ slice_index a.words (id_index j)
given_words k (Bytes bytes) a j = refl
given_words k _ a j = refl

module _ (p : Plan) (c : Core) (vs : List View) (n : ℕ) (lasts : Lasts p c vs n) (i : ℕ) (seat : SeatState) (v : View) (at_seat : get_elem? c.seats i ≡ some seat) (at_view : get_elem? vs i ≡ some v)
    (k : ℕ) (at_number : get_elem? lasts.numbers i ≡ some k) (few : length c.seats ≤ 64) (paid : ℕ) (small : paid ≤ STALE) where
  abbrev old : ℕ
  old = total (stale_cost c.calls.words) (expects seat.program)

  quiet_step : (a : Calls) (left : std.Option (ℕ × ℕ)) → a.waiting ≡ c.calls.waiting → a.plan ≡ c.calls.plan → AreSameIds a.words c.calls.words → IsThere c.calls.words left
      → (program : Program) (m : ℕ) → GoesOn p v program → LastsFor p v program m → m + 1 ≤ k + paid + 0 + fresh left program → paid ≤ total (stale_cost c.calls.words) (expects seat.program)
      → Fewer p n (with_seat i program seat.hand c.words c.homes (record c { calls = a })) vs
  quiet_step a left kept plan ids there program m goes l less late = subst (Fewer p n (with_seat i program seat.hand c.words c.homes (record c { calls = a }))) (set_again vs i v at_view)
      (quiet_moves p c vs n lasts i seat v at_seat at_view k at_number a left kept plan ids there program seat.hand c.words c.homes v m goes l
      (sums (total (stale_cost c.calls.words) (expects seat.program)) (fresh left program) (total Rattle.sock_runs.specs.program_steps.specs.TicksLeftAtMost.home_weight c.homes) (walks vs) (walks (set vs i v)) (ap walks (set_again vs i v at_view)) less late))
    where
      sums : (o f h w w' : ℕ) → w' ≡ w → m + 1 ≤ k + paid + 0 + f → paid ≤ o → m + (h + w') < k + o + f + (h + w)
      sums o f h w w' same less late = omega (arith, same, less, late)

  -- an exchange of an id word from this one
  exchange_moves : (j from w cost gain : ℕ) (found : ℕ) → slice_index c.calls.words (id_index j) ≡ found → (program : Program) (m : ℕ) → (b : Bool) → eqb found from ≡ b
      → (b ≡ true → ids_left p.requests (set c.calls.words (id_index j) w) c.calls.plan.slots + gain + STALE + CHANGE ≤ ids_left p.requests c.calls.words c.calls.plan.slots + cost)
      → (b ≡ false → (gain ≡ 0) × (1 ≤ cost) × (paid ≤ total (stale_cost c.calls.words) (expects seat.program)))
      → GoesOn p v program → LastsFor p v program m → m + cost ≤ k + paid + gain + fresh (cond b None (Some (j, found))) program
      → Fewer p n (with_seat i program seat.hand c.words c.homes (record c { calls = with_word (id_index j) (cond b w found) c.calls })) vs
  exchange_moves j from w cost gain found there program m true is won lost goes l less =
      loud_moves p c vs n lasts i seat v at_seat at_view k at_number few (with_word (id_index j) w c.calls) refl program m goes l
      (sums (ids_left p.requests (set c.calls.words (id_index j) w) c.calls.plan.slots) (ids_left p.requests c.calls.words c.calls.plan.slots) (won refl) less)
    where
      sums : (a b : ℕ) → a + gain + STALE + CHANGE ≤ b + cost → m + cost ≤ k + paid + gain + 0 → m + CHANGE + a ≤ k + b
      sums a b won less = omega (arith, won, less, small)
  exchange_moves j from w cost gain found there program m false is won lost goes l less = let x = lost refl in
      quiet_step (with_word (id_index j) found c.calls) (Some (j, found)) refl refl (λ y. ap (λ (ws : List ℕ). slice_index ws (id_index y)) same_words) there program m goes l (sums (fresh (Some (j, found)) program) x.0 x.1 less) x.2
    where
      same_words : set c.calls.words (id_index j) found ≡ c.calls.words
      same_words = ap (set c.calls.words (id_index j)) (sym there) ∙ set-get_or c.calls.words (id_index j) 0

      sums : (f : ℕ) → gain ≡ 0 → 1 ≤ cost → m + cost ≤ k + paid + gain + f → m + 1 ≤ k + paid + 0 + f
      sums f none_ some_ less = omega (arith, none_, some_, less)

  abbrev pub Behind : (step : Step) → (Found step → Program) → Found step → Type 0
  Behind step next found = Fewer p n (with_seat i (next found) seat.hand c.words c.homes (record c { calls = calls_after step found c.calls })) vs

  won_sum : (a b g x : ℕ) → a + g ≤ b + x → a + g + STALE + CHANGE ≤ b + (STALE + CHANGE + x)
  won_sum a b g x le = omega (arith, le)

  locks_move : (j from : ℕ) (next : ℕ → Program) (found : ℕ) → slice_index c.calls.words (id_index j) ≡ found → IsCountedStep c (LockId j from) → IsLate (LockId j from) found paid old → GoesOn p v (next found) → Falls p v (LockId j from) next (k + paid) found
      → Behind (LockId j from) next found
  locks_move j from next found there counted late goes f = exchange_moves j from (packed (posted_word (parts from) 0)) (cond (eqb found from) (STALE + CHANGE) 1) 0 found there (next found) f.0 (eqb found from) refl
      (λ e. let is : found ≡ from = eqb-true found from e in let le = locked_counts p.requests c.calls.words j c.calls.plan.slots counted.0.1 counted.0.0 from (there ∙ is) 0 counted.1 in
      subst (λ b. ids_left p.requests (set c.calls.words (id_index j) (packed (posted_word (parts from) 0))) c.calls.plan.slots + 0 + STALE + CHANGE ≤ ids_left p.requests c.calls.words c.calls.plan.slots + cond b (STALE + CHANGE) 1) (sym e)
      (won_sum (ids_left p.requests (set c.calls.words (id_index j) (packed (posted_word (parts from) 0))) c.calls.plan.slots) (ids_left p.requests c.calls.words c.calls.plan.slots) 0 0 le))
      (λ e. (refl, subst (λ b. 1 ≤ cond b (STALE + CHANGE) 1) (sym e) (omega arith), late e))
      goes f.2 f.1

  posts_move : (j from e : ℕ) (next : ℕ → Program) (found : ℕ) → slice_index c.calls.words (id_index j) ≡ found → IsCountedStep c (PostId j from e) → IsLate (PostId j from e) found paid old → GoesOn p v (next found) → Falls p v (PostId j from e) next (k + paid) found
      → Behind (PostId j from e) next found
  posts_move j from e next found there counted late goes f = exchange_moves j from (packed (posted_word (parts from) e)) (cond (eqb found from) (cond (eqb (parts from).state 1) (STALE + CHANGE) (STALE + CHANGE + ERROR)) 1) 0 found there (next found) f.0 (eqb found from) refl
      (λ x. let is : found ≡ from = eqb-true found from x in
      subst (λ b. ids_left p.requests (set c.calls.words (id_index j) (packed (posted_word (parts from) e))) c.calls.plan.slots + 0 + STALE + CHANGE ≤ ids_left p.requests c.calls.words c.calls.plan.slots + cond b (cond (eqb (parts from).state 1) (STALE + CHANGE) (STALE + CHANGE + ERROR)) 1) (sym x)
      (⊎_elim (λ one. opened is one) (λ two. queued is two.0 two.1) counted.2))
      (λ x. (refl, subst (λ b. 1 ≤ cond b (cond (eqb (parts from).state 1) (STALE + CHANGE) (STALE + CHANGE + ERROR)) 1) (sym x) (omega arith), late x))
      goes f.2 f.1
    where
      opened : found ≡ from → (parts from).state ≡ 1 → ids_left p.requests (set c.calls.words (id_index j) (packed (posted_word (parts from) e))) c.calls.plan.slots + 0 + STALE + CHANGE ≤ ids_left p.requests c.calls.words c.calls.plan.slots + cond (eqb (parts from).state 1) (STALE + CHANGE) (STALE + CHANGE + ERROR)
      opened is one = subst (λ b. ids_left p.requests (set c.calls.words (id_index j) (packed (posted_word (parts from) e))) c.calls.plan.slots + 0 + STALE + CHANGE ≤ ids_left p.requests c.calls.words c.calls.plan.slots + cond b (STALE + CHANGE) (STALE + CHANGE + ERROR)) (sym (eq-eqb (parts from).state 1 one))
          (won_sum (ids_left p.requests (set c.calls.words (id_index j) (packed (posted_word (parts from) e))) c.calls.plan.slots) (ids_left p.requests c.calls.words c.calls.plan.slots) 0 0 (locked_counts p.requests c.calls.words j c.calls.plan.slots counted.0.1 counted.0.0 from (there ∙ is) e one))

      queued : found ≡ from → (parts from).state ≡ 2 → (parts from).second ≡ 0 → ids_left p.requests (set c.calls.words (id_index j) (packed (posted_word (parts from) e))) c.calls.plan.slots + 0 + STALE + CHANGE ≤ ids_left p.requests c.calls.words c.calls.plan.slots + cond (eqb (parts from).state 1) (STALE + CHANGE) (STALE + CHANGE + ERROR)
      queued is two room = subst (λ s. ids_left p.requests (set c.calls.words (id_index j) (packed (posted_word (parts from) e))) c.calls.plan.slots + 0 + STALE + CHANGE ≤ ids_left p.requests c.calls.words c.calls.plan.slots + cond (eqb s 1) (STALE + CHANGE) (STALE + CHANGE + ERROR)) (sym two)
          (won_sum (ids_left p.requests (set c.calls.words (id_index j) (packed (posted_word (parts from) e))) c.calls.plan.slots) (ids_left p.requests c.calls.words c.calls.plan.slots) 0 ERROR (queued_counts p.requests c.calls.words j c.calls.plan.slots counted.0.1 counted.0.0 from (there ∙ is) e two room counted.1))

  unlocks_move : (j from : ℕ) (advance : Bool) (next : ℕ → Program) (found : ℕ) → slice_index c.calls.words (id_index j) ≡ found → IsCountedStep c (UnlockId j from advance) → IsLate (UnlockId j from advance) found paid old → GoesOn p v (next found) → Falls p v (UnlockId j from advance) next (k + paid) found
      → Behind (UnlockId j from advance) next found
  unlocks_move j from advance next found there counted late goes f =
      exchange_moves j from (packed (unlocked_word (parts from) (bit advance))) (cond (eqb found from) (STALE + CHANGE) 1) (cond (eqb found from) (popped_gain from + advance_gain p advance) 0) found there (next found) f.0 (eqb found from) refl
      (λ e. let is : found ≡ from = eqb-true found from e in
      subst (λ b. ids_left p.requests (set c.calls.words (id_index j) (packed (unlocked_word (parts from) (bit advance)))) c.calls.plan.slots + cond b (popped_gain from + advance_gain p advance) 0 + STALE + CHANGE ≤ ids_left p.requests c.calls.words c.calls.plan.slots + cond b (STALE + CHANGE) 1) (sym e)
      (won_sum (ids_left p.requests (set c.calls.words (id_index j) (packed (unlocked_word (parts from) (bit advance)))) c.calls.plan.slots) (ids_left p.requests c.calls.words c.calls.plan.slots) (popped_gain from + advance_gain p advance) 0
      (unlocked_counts p.requests c.calls.words j c.calls.plan.slots counted.0.1 counted.0.0 from (there ∙ is) advance counted.1 counted.2)))
      (λ e. (ap (λ b. cond b (popped_gain from + advance_gain p advance) 0) e, subst (λ b. 1 ≤ cond b (STALE + CHANGE) 1) (sym e) (omega arith), late e))
      goes f.2 f.1

  -- a change of an id word by whoever expected none
  change_moves : (a : Calls) → a.waiting ≡ c.calls.waiting → (program : Program) (m cost : ℕ) → GoesOn p v program → LastsFor p v program m → paid ≡ 0 → m + cost ≤ k + paid + 0 + 0
      → ids_left p.requests a.words a.plan.slots + CHANGE ≤ ids_left p.requests c.calls.words c.calls.plan.slots + cost
      → Fewer p n (with_seat i program seat.hand c.words c.homes (record c { calls = a })) vs
  change_moves a kept program m cost goes l late less counts = loud_moves p c vs n lasts i seat v at_seat at_view k at_number few a kept program m goes l
      (sums (ids_left p.requests a.words a.plan.slots) (ids_left p.requests c.calls.words c.calls.plan.slots) counts)
    where
      sums : (x y : ℕ) → x + CHANGE ≤ y + cost → m + CHANGE + x ≤ k + y
      sums x y counts = omega (arith, counts, less, late)

  -- any step that the rule of the ids allows
  pub any_moves : (step : Step) (next : Found step → Program) (t : Option Taking) (found : Found step) → found_in step c.calls t ≡ some found → IsCountedStep c step → IsLate step found paid old → FitsFound p step found → GoesOn p v (Aside step next)
      → Falls p v step next (k + paid) found → Behind step next found
  any_moves (ClaimId j) next t found is counted late fits goes f = quiet_step (calls_after (ClaimId j) found c.calls) None refl refl (tag_same c.calls.words j 1) tt (next found) f.0 (goes found fits) f.2 f.1 (omega (arith, late))
  any_moves (PutCall j asked) next t found is counted late fits goes f = quiet_step (calls_after (PutCall j asked) found c.calls) None refl refl (λ x. refl) tt (next found) f.0 (goes found fits) f.2 f.1 (omega (arith, late))
  any_moves (MakeId j range) next t found is counted late fits goes f = let low = counted.1 in let high = counted.2 in
      change_moves (calls_after (MakeId j range) found c.calls) refl (next found) f.0 (CHANGE + (range - 2) * attempt_cost p.requests) (goes found fits) f.2 late f.1
      (sums (ids_left p.requests (set c.calls.words (id_index j) (packed (made_word (parts found).first range))) c.calls.plan.slots) (ids_left p.requests c.calls.words c.calls.plan.slots) ((range - 2) * attempt_cost p.requests)
      (made_counts p.requests c.calls.words j c.calls.plan.slots counted.0.1 counted.0.0 (parts found).first range counted.1 counted.2))
    where
      sums : (x y a : ℕ) → x ≤ y + a → x + CHANGE ≤ y + (CHANGE + a)
      sums x y a le = omega (arith, le)
  any_moves (StoreCall o id) next t found is counted late fits goes f = quiet_step (calls_after (StoreCall o id) found c.calls) None refl refl (call_same c.calls.plan c.calls.words o id) tt (next found) f.0 (goes found fits) f.2 f.1 (omega (arith, late))
  any_moves (LoadCall o) next t found is counted late fits goes f = quiet_step c.calls None refl refl (λ x. refl) tt (next found) f.0 (goes found fits) f.2 f.1 (omega (arith, late))
  any_moves (StoreAt o w) next t found is counted late fits goes f = change_moves (calls_after (StoreAt o w) found c.calls) refl (next found) f.0 CHANGE (goes found fits) f.2 late f.1
      (sums (ids_left p.requests (set c.calls.words (at_index c.calls.plan o) w) c.calls.plan.slots) (ids_left p.requests c.calls.words c.calls.plan.slots) (at_counts p.requests c.calls.plan c.calls.words o w c.calls.plan.slots (omega arith)))
    where
      sums : (x y : ℕ) → x ≡ y → x + CHANGE ≤ y + CHANGE
      sums x y e = omega (arith, e)
  any_moves (LoadAt o) next t found is counted late fits goes f = quiet_step c.calls None refl refl (λ x. refl) tt (next found) f.0 (goes found fits) f.2 f.1 (omega (arith, late))
  any_moves (LoadIdWord j) next t found is counted late fits goes f = quiet_step c.calls (Some (j, found)) refl refl (λ x. refl) (some-injective (slice_index c.calls.words (id_index j)) found is) (next found) f.0 (goes found fits) f.2 f.1 (omega (arith, late))
  any_moves (LockId j from) next t found is counted late fits goes f = locks_move j from next found (some-injective (slice_index c.calls.words (id_index j)) found is) counted late (goes found fits) f
  any_moves (PostId j from e) next t found is counted late fits goes f = posts_move j from e next found (some-injective (slice_index c.calls.words (id_index j)) found is) counted late (goes found fits) f
  any_moves (UnlockId j from advance) next t found is counted late fits goes f = unlocks_move j from advance next found (some-injective (slice_index c.calls.words (id_index j)) found is) counted late (goes found fits) f
  any_moves (EndId j) next t found is counted late fits goes f = change_moves (calls_after (EndId j) found c.calls) refl (next found) f.0 CHANGE (goes found fits) f.2 late f.1
      (sums (ids_left p.requests (set c.calls.words (id_index j) (packed (free_word ((parts found).first + (parts found).range)))) c.calls.plan.slots) (ids_left p.requests c.calls.words c.calls.plan.slots)
      (ended_counts p.requests c.calls.words j c.calls.plan.slots counted.1 counted.0 ((parts found).first + (parts found).range)))
    where
      sums : (x y : ℕ) → x ≤ y → x + CHANGE ≤ y + CHANGE
      sums x y le = omega (arith, le)
  any_moves (FreeId j) next t found is counted late fits goes f = quiet_step (calls_after (FreeId j) found c.calls) None refl refl (tag_same c.calls.words j 0) tt (next found) f.0 (goes found fits) f.2 f.1 (omega (arith, late))
  any_moves (TakeCall j) next t found is counted late fits goes f = quiet_step (calls_after (TakeCall j) found c.calls) None refl refl (λ x. refl) tt (next found) f.0 (goes found fits) f.2 f.1 (omega (arith, late))
  any_moves (TakeBytes l room) next t found is counted late fits goes f = quiet_step (calls_after (TakeBytes l room) found c.calls) None (given_waiting l found c.calls) (given_plan l found c.calls) (given_words l found c.calls) tt (next found) f.0 (goes found fits) f.2 f.1 (omega (arith, late))
