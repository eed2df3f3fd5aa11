-- The seat behind a step: what it says, the retries it keeps, and the one it takes up.
use Rattle.std.proofs.Common.{◌≡◌, ℕ, ◌≤◌, ◌⊎◌, inl, inr, ⊎_elim, Bool, true, false, List, [], ◌∷◌, ◌++◌, Option, length-set, set, get_or-set_same, refl, sym, ◌∙◌, subst, arith}
use Rattle.std.specs.Prelude as std
use Rattle.std.specs.List.{AllByRecursion}
use mathlib.Core.Option.{some}
use lib.ListN.{get_elem?}
use Rattle.atomic_table.proofs.Lists.{set_again}
use Rattle.sock_words.specs.declared.outcome.Outcome.{Outcome}
use Rattle.corr_core.specs.declared.marks.Plan.{Plan as IdPlan}
use Rattle.corr_core.proofs.NoteSums.{at_length}
use Rattle.seat_programs.specs.LoopHeads.{Retry}
use Rattle.seat_programs.specs.Programs.{Program, Do, Say, Sent, Rest, TakeMessage, TakeHome, PutHome, PutBytes, AskReady, Write, Aside, Round, Keep, Retries}
use Rattle.seat_programs.specs.Cores.{Core, SeatState, waiting_at, resolved, still_waiting, next_step}
use Rattle.call_owing.specs.Below.sock_steps.proofs.Maps.{set_twice}
use Rattle.call_owing.specs.Owing.{Duty, Free, Trying, Owing, Among, DutyTo, duty_tokens, with_duty, freed, with_keeps}
use Rattle.call_owing.specs.Owes.{Further, OwesOn}
use Rattle.call_owing.specs.SoundOwing.{retry_tokens, Distinct, Stored, OwingLaw}
use Rattle.call_owing.proofs.PostsAndDecisionsOwed.{same_further, then_further}
use Rattle.call_owing.proofs.OwedMarkChanges.{set_at}
use Rattle.call_owing.proofs.OwingPrograms.{retry_goes, from_freed}
use Rattle.call_owing.proofs.Resolves.{same_but, Rewait, rewaits}

abbrev pub Few : Retry → Type 0
Few r = r.attempt ≤ 6

few_more : (ws : List Retry) (r : Retry) → AllByRecursion Few ws → r.attempt ≤ 6 → AllByRecursion Few (ws ++ r ∷ [])
few_more [] r all one = (one, tt)
few_more (w ∷ ws) r all one = (all.0, few_more ws r all.1 one)

snoc_split : (id n : ℕ) (ws : List Retry) (r : Retry) → Among id n (retry_tokens (ws ++ r ∷ [])) → Among id n (retry_tokens ws) ⊎ ((r.id ≡ id) × (r.attempt ≡ n))
snoc_split id n [] r (inl e) = inr e
snoc_split id n [] r (inr a) = absurd a
snoc_split id n (w ∷ ws) r (inl e) = inl (inl e)
snoc_split id n (w ∷ ws) r (inr a) = ⊎_elim (λ b. inl (inr b)) (λ b. inr b) (snoc_split id n ws r a)

snoc_first : (id n : ℕ) (ws : List Retry) (r : Retry) → Among id n (retry_tokens ws) → Among id n (retry_tokens (ws ++ r ∷ []))
snoc_first id n [] r a = absurd a
snoc_first id n (w ∷ ws) r (inl e) = inl e
snoc_first id n (w ∷ ws) r (inr a) = inr (snoc_first id n ws r a)

snoc_last : (id n : ℕ) (ws : List Retry) (r : Retry) → (r.id ≡ id) × (r.attempt ≡ n) → Among id n (retry_tokens (ws ++ r ∷ []))
snoc_last id n [] r e = inl e
snoc_last id n (w ∷ ws) r e = inr (snoc_last id n ws r e)

snoc_distinct : (ws : List Retry) (r : Retry) → (Among r.id r.attempt (retry_tokens ws) → ⊥) → Distinct (retry_tokens ws) → Distinct (retry_tokens (ws ++ r ∷ []))
snoc_distinct [] r no_ d = ((λ a. a), tt)
snoc_distinct (w ∷ ws) r no_ d = ((λ a. ⊎_elim (λ b. d.0 b) (λ e. no_ (inl (sym e.0, sym e.1))) (snoc_split w.id w.attempt ws r a)), snoc_distinct ws r (λ a. no_ (inr a)) d.1)

module _ (q : IdPlan) (life : ℕ → Option ℕ) (calls : List ℕ) (c : Core) (i : ℕ) (ss : List SeatState) (os : List (std.Option Outcome)) where
  -- the core in which these retries wait at seat i
  abbrev pub W : List Retry → Core
  W ws = record { words = c.words; homes = c.homes; seats = ss; outcomes = os; calls = record c.calls { waiting = set c.calls.waiting i ws } }

  chain : (ws ws' : List Retry) (us : List Owing) (u v : Owing) (law : OwingLaw q life calls (W ws) us) (at : get_elem? us i ≡ some u) → Rewait q life calls (W ws) us i u law at ss os ws' v → OwingLaw q life calls (W ws') (set us i v)
  chain ws ws' us u v law at m = subst (λ (x : List (List Retry)). OwingLaw q life calls (record { words = c.words; homes = c.homes; seats = ss; outcomes = os; calls = record c.calls { waiting = x } }) (set us i v)) (set_twice c.calls.waiting i ws ws') (rewaits q life calls (W ws) us i u law at ss os ws' v m)

  waits_here : (ws : List Retry) (us : List Owing) (u : Owing) → OwingLaw q life calls (W ws) us → get_elem? us i ≡ some u → waiting_at (set c.calls.waiting i ws) i ≡ ws
  waits_here ws us u law at = get_or-set_same c.calls.waiting i ws [] (let r = law.room in let z = at_length us i u at in let l = length-set c.calls.waiting i ws in omega (arith, r, z, l))

  own_there : (ws : List Retry) (us : List Owing) (u : Owing) → OwingLaw q life calls (W ws) us → get_elem? us i ≡ some u → Stored q calls (W ws) us u.duty
  own_there ws us u law at = law.stored i u at

  keeps_it : (ws : List Retry) (r : Retry) (us : List Owing) (u : Owing) (law : OwingLaw q life calls (W ws) us) (at : get_elem? us i ≡ some u) → u.duty ≡ Trying r.id r.attempt → u.keeps ≡ true → OwingLaw q life calls (W (ws ++ r ∷ [])) (set us i (freed u))
  keeps_it ws r us u law at duty keeps = let e = waits_here ws us u law at in let d : Distinct ((r.id, r.attempt) ∷ retry_tokens ws) = subst (λ (x : Duty). Distinct (duty_tokens x ++ retry_tokens ws)) duty (subst (λ x. Distinct (duty_tokens u.duty ++ retry_tokens x)) e (law.distinct i u at)) in
      chain ws (ws ++ r ∷ []) us u (freed u) law at record {
        tokens = λ id n a. subst (λ x. Among id n (duty_tokens u.duty ++ retry_tokens x)) (sym e) (subst (λ (x : Duty). Among id n (duty_tokens x ++ retry_tokens ws)) (sym duty) (⊎_elim (λ b. inr b) (λ b. inl b) (snoc_split id n ws r a)));
        distinct = snoc_distinct ws r d.0 d.1;
        duty = λ id n o. inr (snoc_last id n ws r (subst (DutyTo id n) duty o));
        retry = λ id n a. inr (snoc_first id n ws r (subst (λ x. Among id n (retry_tokens x)) e a));
        same = same_but u Free u.keeps;
        own = tt;
        kept = λ f. let z : true ≡ false = sym keeps ∙ f in absurd cc;
      }

  takes_it : (r : Retry) (ws : List Retry) (us : List Owing) (u : Owing) (law : OwingLaw q life calls (W (r ∷ ws)) us) (at : get_elem? us i ≡ some u) → u.duty ≡ Free → u.keeps ≡ true → OwingLaw q life calls (W ws) (set us i (with_duty (Trying r.id r.attempt) u))
  takes_it r ws us u law at free keeps = let e = waits_here (r ∷ ws) us u law at in
      chain (r ∷ ws) ws us u (with_duty (Trying r.id r.attempt) u) law at record {
        tokens = λ id n a. subst (λ x. Among id n (duty_tokens u.duty ++ retry_tokens x)) (sym e) (subst (λ (x : Duty). Among id n (duty_tokens x ++ retry_tokens (r ∷ ws))) (sym free) a);
        distinct = subst (λ (x : Duty). Distinct (duty_tokens x ++ retry_tokens (r ∷ ws))) free (subst (λ x. Distinct (duty_tokens u.duty ++ retry_tokens x)) e (law.distinct i u at));
        duty = λ id n o. absurd (subst (DutyTo id n) free o);
        retry = λ id n a. subst (λ x. Among id n (retry_tokens x)) e a;
        same = same_but u (Trying r.id r.attempt) u.keeps;
        own = tt;
        kept = λ f. let z : true ≡ false = sym keeps ∙ f in absurd cc;
      }

  flags_it : (b : Bool) (ws : List Retry) (us : List Owing) (u : Owing) (law : OwingLaw q life calls (W ws) us) (at : get_elem? us i ≡ some u) → u.duty ≡ Free → (b ≡ false → ws ≡ []) → OwingLaw q life calls (W ws) (set us i (with_keeps b u))
  flags_it b ws us u law at free none_ = let e = waits_here ws us u law at in
      chain ws ws us u (with_keeps b u) law at record {
        tokens = λ id n a. subst (λ x. Among id n (duty_tokens u.duty ++ retry_tokens x)) (sym e) a;
        distinct = subst (λ x. Distinct (duty_tokens u.duty ++ retry_tokens x)) e (law.distinct i u at);
        duty = λ id n o. inl o;
        retry = λ id n a. inr (subst (λ x. Among id n (retry_tokens x)) e a);
        same = same_but u u.duty b;
        own = law.stored i u at;
        kept = none_;
      }

  -- who has a retry that waits may keep some
  some_kept : (r : Retry) (ws : List Retry) (us : List Owing) (u : Owing) → OwingLaw q life calls (W (r ∷ ws)) us → get_elem? us i ≡ some u → u.keeps ≡ true
  some_kept r ws us u law at = by_flag u.keeps refl
    where
      by_flag : (b : Bool) → u.keeps ≡ b → u.keeps ≡ true
      by_flag true e = e
      by_flag false e = let z : r ∷ ws ≡ [] = sym (waits_here (r ∷ ws) us u law at) ∙ law.kept i u at e in absurd cc

  abbrev pub Seated : List Retry → List Owing → Program → Type 0
  Seated ws us x = (v : Owing) × OwingLaw q life calls (W ws) (set us i v) × OwesOn life v x

  twice : (us : List Owing) (u : Owing) (ws : List Retry) (x : Program) → Seated ws (set us i u) x → Seated ws us x
  twice us u ws x s = (s.0, subst (OwingLaw q life calls (W ws)) (set_twice us i u s.0) s.1, s.2)

  as_it_is : (ws : List Retry) (us : List Owing) (u : Owing) (x : Program) → OwingLaw q life calls (W ws) us → get_elem? us i ≡ some u → OwesOn life u x → Seated ws us x
  as_it_is ws us u x law at g = (u, subst (OwingLaw q life calls (W ws)) (sym (set_again us i u at)) law, g)

  pub resolves : (x : Program) (ws : List Retry) (us : List Owing) (u : Owing) → OwingLaw q life calls (W ws) us → get_elem? us i ≡ some u → OwesOn life u x → AllByRecursion Few ws → Seated (still_waiting ws x) us (next_step (resolved ws x))
  resolves (Say o outcome next) ws us u law at g few = resolves next ws us u law at g few
  resolves (Sent o next) ws us u law at g few = resolves next ws us u law at g few
  resolves (Keep r next) ws us u law at g few = twice us (freed u) (still_waiting (ws ++ r ∷ []) next) (next_step (resolved (ws ++ r ∷ []) next))
      (resolves next (ws ++ r ∷ []) (set us i (freed u)) (freed u) (keeps_it ws r us u law at g.0 g.1) (set_at us i u (freed u) at) g.3 (few_more ws r few g.2))
  resolves (Retries requests after) [] us u law at g few = twice us (with_keeps g.1 u) (still_waiting [] after) (next_step (resolved [] after))
      (resolves after [] (set us i (with_keeps g.1 u)) (with_keeps g.1 u) (flags_it g.1 [] us u law at g.0 (λ _. refl)) (set_at us i u (with_keeps g.1 u) at) (g.2 u (same_further u)) tt)
  resolves (Retries requests after) (r ∷ ws) us u law at g few = let keeps : u.keeps ≡ true = some_kept r ws us u law at in (
    with_duty (Trying r.id r.attempt) u,
    takes_it r ws us u law at g.0 keeps,
    retry_goes life (with_duty (Trying r.id r.attempt) u) requests r.id r.attempt (Retries requests after) refl keeps few.0
        (λ v f. let a : Further u v = from_freed u v g.0 f in (a.duty ∙ g.0, g.1, λ w h. g.2 w (then_further u v w a h))),
  )
  resolves (Do call next) ws us u law at g few = as_it_is ws us u (Do call next) law at g
  resolves Rest ws us u law at g few = as_it_is ws us u Rest law at g
  resolves (TakeMessage r next) ws us u law at g few = as_it_is ws us u (TakeMessage r next) law at g
  resolves (TakeHome k next) ws us u law at g few = as_it_is ws us u (TakeHome k next) law at g
  resolves (PutHome k n after) ws us u law at g few = as_it_is ws us u (PutHome k n after) law at g
  resolves (PutBytes k asked bytes next) ws us u law at g few = as_it_is ws us u (PutBytes k asked bytes next) law at g
  resolves (AskReady k next) ws us u law at g few = as_it_is ws us u (AskReady k next) law at g
  resolves (Write w after) ws us u law at g few = as_it_is ws us u (Write w after) law at g
  resolves (Aside step next) ws us u law at g few = as_it_is ws us u (Aside step next) law at g
  resolves (Round head next) ws us u law at g few = as_it_is ws us u (Round head next) law at g
