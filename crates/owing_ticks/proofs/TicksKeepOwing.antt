-- A tick keeps what each seat owes.
use Rattle.std.proofs.Common.{◌≡◌, ℕ, inl, inr, ⊎_elim, List, Option, length-set, set, refl, sym, ◌∙◌, subst}
use Rattle.std.specs.Prelude as std
use Rattle.std.specs.List.{AllByRecursion}
use mathlib.Core.Option as core
use mathlib.Core.Option.{some}
use lib.ListN.{get_elem?}
use Rattle.atomic_table.proofs.Lists.{at_set}
use Rattle.call_owing.specs.Below.sock_steps.proofs.Maps.{set_twice}
use Rattle.sock_words.specs.declared.plain.Plan.{Plan}
use Rattle.sock_words.specs.declared.outcome.Outcome.{Outcome}
use Rattle.sock_model.specs.declared.home.Home.{Home}
use Rattle.corr_core.specs.declared.marks.Plan.{Plan as IdPlan}
use Rattle.seat_programs.specs.TableSteps.{TableStep}
use Rattle.seat_programs.specs.Programs.{Program, Do}
use Rattle.seat_programs.specs.Cores.{Core, SeatState, Calls, waiting_at, resolved, next_step, said, with_seat, stepped, found_at, words_after, homes_after, hand_after}
use Rattle.seat_programs.specs.StepTables.{word_of, word_after}
use Rattle.call_owing.specs.Owing.{Owing, FindsCall}
use Rattle.call_owing.specs.Owes.{OwesOn}
use Rattle.call_owing.specs.SoundOwing.{OwingLaw, SoundOwing}
use Rattle.call_owing.proofs.OwedMarkChanges.{set_at}
use Rattle.call_owing.proofs.QuietIdSteps.{SockFits, call_moves}
use Rattle.call_owing.proofs.Resolves.{rewaits}
use Rattle.owing_ticks.proofs.SeatRetriesBehindStep.{Few, resolves}

module _ (q : IdPlan) (life : ℕ → Option ℕ) (calls : List ℕ) (c : Core) (us : List Owing) (sound : SoundOwing q life calls c us) (i : ℕ) (seat : SeatState) (u : Owing) (at_seat : get_elem? c.seats i ≡ some seat) (at : get_elem? us i ≡ some u) where
  abbrev pub After : Core → Type 0
  After c' = (us' : List Owing) × SoundOwing q life calls c' us'

  -- where the law holds behind the step, with the marks v of the seat, and these do what is owed in the program that follows, all is sound behind the tick
  pub follows : (program : Program) (hand : List Home) (ws : List ℕ) (hs : List (core.Option Home)) (a : Calls) (v : Owing)
      → OwingLaw q life calls (record { words = ws; homes = hs; seats = c.seats; outcomes = c.outcomes; calls = a }) (set us i v) → OwesOn life v program → AllByRecursion Few (waiting_at a.waiting i) → After (with_seat i program hand ws hs (record c { calls = a }))
  follows program hand ws hs a v law g few =
      let B : Core = record { words = ws; homes = hs; seats = c.seats; outcomes = c.outcomes; calls = a } in
      let at_v : get_elem? (set us i v) i ≡ some v = set_at us i u v at in
      let seat' : SeatState = record { program = next_step (resolved (waiting_at a.waiting i) program); hand = hand } in
      let ss : List SeatState = set c.seats i seat' in
      let os : List (std.Option Outcome) = said (resolved (waiting_at a.waiting i) program) c.outcomes in
      let start : OwingLaw q life calls (record { words = ws; homes = hs; seats = ss; outcomes = os; calls = record a { waiting = set a.waiting i (waiting_at a.waiting i) } }) (set (set us i v) i v) =
      rewaits q life calls B (set us i v) i v law at_v ss os (waiting_at a.waiting i) v record {
        tokens = λ id n x. x;
        distinct = law.distinct i v at_v;
        duty = λ id n o. inl o;
        retry = λ id n x. inr x;
        same = record { knows = refl; link = refl; left = refl; dead = refl };
        own = law.stored i v at_v;
        kept = λ k. law.kept i v at_v k;
      } in
      let r = resolves q life calls B i ss os program (waiting_at a.waiting i) (set us i v) v (subst (OwingLaw q life calls (record { words = ws; homes = hs; seats = ss; outcomes = os; calls = record a { waiting = set a.waiting i (waiting_at a.waiting i) } })) (set_twice us i v v) start) at_v g few in (
        set (set us i v) i r.0,
        record {
          each = length-set (set us i v) i r.0 ∙ length-set us i v ∙ sound.each ∙ sym (length-set c.seats i seat');
          law = r.1;
          seats = λ j s w at_s at_w. ⊎_elim
              (λ b. ⊎_elim (λ d. subst (λ (x : SeatState). OwesOn life w x.program) b.1 (subst (λ (x : Owing). OwesOn life x (next_step (resolved (waiting_at a.waiting i) program))) d.1 r.2)) (λ d. absurd (d.0 b.0)) (at_set (set us i v) i j r.0 w at_w))
              (λ b. ⊎_elim (λ d. absurd (b.0 d.0)) (λ d. ⊎_elim (λ e. absurd (b.0 e.0)) (λ e. sound.seats j s w b.1 e.1) (at_set us i j v w d.1)) (at_set (set us i v) i j r.0 w at_w))
              (at_set c.seats i j seat' s at_s);
        },
      )

  -- a tick in which the seat makes a step on the sockets
  pub call_ticks : (p : Plan) (call : TableStep) (next : ℕ → Program) → OwesOn life u (Do call next) → FindsCall life u call (found_at c.words (word_of p call)) → AllByRecursion Few (waiting_at c.calls.waiting i)
      → SockFits q life calls c us i u sound.law at (words_after c.words (word_of p call) (word_after call (found_at c.words (word_of p call)))) (homes_after p call seat.hand c.homes) c.seats c.outcomes call (found_at c.words (word_of p call)) → After (stepped p i seat call next c)
  call_ticks p call next g finds few fits = let s = g.1 (found_at c.words (word_of p call)) finds in
      follows (next (found_at c.words (word_of p call))) (hand_after p call c.homes seat.hand) (words_after c.words (word_of p call) (word_after call (found_at c.words (word_of p call)))) (homes_after p call seat.hand c.homes) c.calls s.0
      (call_moves q life calls c us i u sound.law at (words_after c.words (word_of p call) (word_after call (found_at c.words (word_of p call)))) (homes_after p call seat.hand c.homes) c.seats c.outcomes call (found_at c.words (word_of p call)) s.0 fits s.1) s.2 few
