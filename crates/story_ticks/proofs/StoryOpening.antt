-- How the story of the calls begins: nothing is claimed or made, and each seat says on.
use Rattle.std.proofs.Common.{◌≡◌, ℕ, zero, suc, ◌+◌, ◌-◌, ◌<◌, ◌≤◌, ◌⊎◌, inl, inr, ⊎_elim, Bool, true, false, leb, List, [], ◌∷◌, ◌++◌, length, length-set, map, fold, replicate, get_or, set, slice_get, Option, None, Some, refl, sym, ap, ◌∙◌, subst, arith}
use Rattle.std.proofs.lemmas.List.{length-map, length-replicate}
use Rattle.std.specs.List.{AllByRecursion}
use mathlib.Core.Logic.{dite}
use mathlib.Core.Option as core
use mathlib.Core.Option.{some-injective, some-ne-none}
use native.Mathlib.Decide.{ℕ_discrete}
use lib.ListN.{get_elem?}
use Rattle.sock_words.specs.PackedWords.{at_word_attempt}
use Rattle.sock_words.specs.declared.plain.Plan.{Plan}
use Rattle.sock_words.specs.declared.outcome.Outcome.{Outcome}
use Rattle.corr_core.specs.IdSlotWord.{Parts}
use Rattle.corr_core.specs.declared.marks.Plan.{Plan as IdPlan}
use Rattle.corr_core.proofs.NoteSums.{at_length}
use Rattle.seat_programs.specs.id_rule.specs.LawfulIdTable.{Unused, call_index, at_index}
use Rattle.seat_programs.specs.declared.task.Task.{Task}
use Rattle.seat_programs.specs.Programs.{Program, Rest}
use Rattle.seat_programs.specs.ClientProgram.{client_from}
use Rattle.seat_programs.specs.ReaderProgram.{reader}
use Rattle.seat_programs.specs.Cores.{Core, SeatState, resolved, said, next_step}
use Rattle.seat_programs.specs.ScriptSetupToEnding.{opening_words, sizes_of, programs, readers_from, all_programs, beginning}
use Rattle.story_steps.specs.Below.id_runs.proofs.IdRuleOpening.{unused}
use Rattle.story_steps.specs.call_stories.specs.Scenes.{Saying, Scene, IsOver, IsTaskOf, LeadsTo, Later}
use Rattle.story_steps.specs.call_stories.specs.Says.{NoSlot, Mark, SaysOn}
use Rattle.story_steps.specs.call_stories.specs.CallStories.{At, word_at, SlotsLaw, BirthsLaw, TasksLaw, ClaimsLaw, ReadsLaw, HasStory}
use Rattle.story_steps.specs.call_stories.proofs.LastingCallStories.{here_later}
use Rattle.story_steps.proofs.ReadingCauses.{reader_says}
use Rattle.story_steps.proofs.ClientCauses.{FitsTask, client_says}
use Rattle.story_steps.proofs.NumberedTasks.{AreNumbered}
use Rattle.story_steps.proofs.MarkMoves.{listed}
use Rattle.story_ticks.proofs.SayingKeepsStory.{put_at, put_beside}
use Rattle.story_ticks.proofs.Claiming.{HaveSlots, has_room}
use Rattle.story_ticks.proofs.SaidBeforeNextStep.{sayings_of, KeepsFew, IsKept, chain}
use Rattle.story_ticks.proofs.KeptForAlikeMarks.{kept_slots, kept_claims, kept_reads}
use Rattle.story_steps.specs.call_stories.proofs.SockWords.{AreOther}
use Rattle.story_ticks.proofs.LawsBehindAsideTicks.{sayings_keep, overs_keep, said_all}
use Rattle.story_steps.specs.call_stories.specs.Below.outcome_stories.specs.OperationStories.{In}

-- ## Lists

split_at : {A : Type 0} (xs ys : List A) (i : ℕ) (x : A) → get_elem? (xs ++ ys) i ≡ core.some x → (get_elem? xs i ≡ core.some x) ⊎ ((k : ℕ) × (i ≡ length xs + k) × (get_elem? ys k ≡ core.some x))
split_at [] ys i x e = inr (i, omega arith, e)
split_at (z ∷ xs) ys zero x e = inl e
split_at (z ∷ xs) ys (suc i) x e = ⊎_elim (λ a. inl a) (λ b. inr (b.0, (let s = b.1 in omega (arith, s)), b.2)) (split_at xs ys i x e)

mapped_at : {A B : Type 0} (f : A → B) (xs : List A) (i : ℕ) (y : B) → get_elem? (map f xs) i ≡ core.some y → (x : A) × (get_elem? xs i ≡ core.some x) × (f x ≡ y)
mapped_at f [] i y e = absurd (some-ne-none y (sym e))
mapped_at f (x ∷ xs) zero y e = (x, refl, some-injective (f x) y e)
mapped_at f (x ∷ xs) (suc i) y e = mapped_at f xs i y e

repeated : {A : Type 0} (n i : ℕ) (x y : A) → get_elem? (replicate n x) i ≡ core.some y → (x ≡ y) × (i < n)
repeated zero i x y e = absurd (some-ne-none y (sym e))
repeated (suc n) zero x y e = (some-injective x y e, omega arith)
repeated (suc n) (suc i) x y e = let r = repeated n i x y e in (r.0, (let z = r.1 in omega (arith, z)))

got_at : {A : Type 0} (xs : List (List A)) (i : ℕ) (x : List A) → get_elem? xs i ≡ core.some x → (get_or xs i [] ≡ x) × (slice_get xs i ≡ Some x)
got_at [] i x e = absurd (some-ne-none x (sym e))
got_at (y ∷ xs) zero x e = let z : y ≡ x = some-injective y x e in (z, ap (λ a. Some a) z)
got_at (y ∷ xs) (suc i) x e = got_at xs i x e

past_end : {A : Type 0} (xs : List (List A)) (i : ℕ) → length xs ≤ i → get_or xs i [] ≡ []
past_end [] i past = refl
past_end (x ∷ xs) zero past = absurd (omega (arith, past))
past_end (x ∷ xs) (suc i) past = past_end xs i (omega (arith, past))

none_said : (n o : ℕ) (x : Outcome) → slice_get (replicate n None) o ≡ Some (Some x) → ⊥
none_said zero o x e = let z : None ≡ Some (Some x) = e in cc
none_said (suc n) zero x e = let z : Some None ≡ Some (Some x) = e in cc
none_said (suc n) (suc o) x e = none_said n o x e

abbrev no_outcome : Option Outcome
no_outcome = None

abbrev no_bytes : List ℕ
no_bytes = []

one_none : (n o : ℕ) → o < n → slice_get (replicate n no_outcome) o ≡ Some None
one_none zero o low = absurd (omega (arith, low))
one_none (suc n) zero low = refl
one_none (suc n) (suc o) low = one_none n o (omega (arith, low))

none_given : (n k : ℕ) → get_or (replicate n no_bytes) k [] ≡ []
none_given zero k = refl
none_given (suc n) zero = refl
none_given (suc n) (suc k) = none_given n k

readers_at : (calls : List ℕ) (k : ℕ) (os : List ℕ) (i : ℕ) (x : Program) → get_elem? (readers_from calls k os) i ≡ core.some x → (o : ℕ) × (reader calls (k + i) o ≡ x) × (i < length os)
readers_at calls k [] i x e = absurd (some-ne-none x (sym e))
readers_at calls k (o ∷ os) zero x e = (o, ap (λ n. reader calls n o) (let z : k + 0 ≡ k = omega arith in z) ∙ some-injective (reader calls k o) x e, omega arith)
readers_at calls k (o ∷ os) (suc i) x e = let r = readers_at calls (k + 1) os i x e in (r.0, ap (λ n. reader calls n r.0) (let z : k + suc i ≡ k + 1 + i = omega arith in z) ∙ r.1, (let z = r.2 in omega (arith, z)))

-- all that is said as the seats begin
abbrev pub first_sayings : List Program → List Saying → List Saying
first_sayings [] ss = ss
first_sayings (x ∷ xs) ss = first_sayings xs (sayings_of (resolved [] x) ss)

first_kept : (xs : List Program) (ss : List Saying) (s : Saying) → In s ss → In s (first_sayings xs ss)
first_kept [] ss s there = there
first_kept (x ∷ xs) ss s there = first_kept xs (sayings_of (resolved [] x) ss) s (sayings_keep (resolved [] x) ss s there)

first_overs : (xs : List Program) (ss : List Saying) (a b : Saying) → IsOver a b ss → IsOver a b (first_sayings xs ss)
first_overs [] ss a b there = there
first_overs (x ∷ xs) ss a b there = first_overs xs (sayings_of (resolved [] x) ss) a b (overs_keep (resolved [] x) ss a b there)

abbrev link_of : ℕ → Bool → List ℕ
link_of j true = (j - 32) ∷ []
link_of j false = []

module _ (p : Plan) (q : IdPlan) (clients : List (List Task)) (gives : ℕ → List ℕ) (numbered : AreNumbered p q clients gives) (slots : HaveSlots p q clients gives) where
  -- the tasks of each client fit it, and each reader has its link and its seat
  pub record Begins (opens : List ℕ) : Type 0 where
    pub fits : (c : ℕ) (ts : List Task) → slice_get clients c ≡ Some ts → AllByRecursion (FitsTask p q clients gives c) ts
    pub numbers : (c : ℕ) (t : Task) → IsTaskOf p q clients gives c t → t.number < p.operations
    pub few : length clients ≤ 32
    pub links : length opens ≡ p.links
    pub codes : AreOther p q clients gives (opening_words p)

  -- a seat before its first step
  abbrev pub first_mark : ℕ → Mark
  first_mark j = record { client = j; done = []; todo = get_or clients j []; slot = NoSlot; makes = []; owes = []; link = link_of j (leb 32 j); bytes = [] }

  abbrev pub first_marks : ℕ → ℕ → List Mark
  first_marks j zero = []
  first_marks j (suc n) = first_mark j ∷ first_marks (j + 1) n

  mark_at : (j n i : ℕ) (m : Mark) → get_elem? (first_marks j n) i ≡ core.some m → (first_mark (j + i) ≡ m) × (i < n)
  mark_at j zero i m e = absurd (some-ne-none m (sym e))
  mark_at j (suc n) zero m e = (ap first_mark (let z : j + 0 ≡ j = omega arith in z) ∙ some-injective (first_mark j) m e, omega arith)
  mark_at j (suc n) (suc i) m e = let r = mark_at (j + 1) n i m e in (ap first_mark (let z : j + suc i ≡ j + 1 + i = omega arith in z) ∙ r.0, (let z = r.1 in omega (arith, z)))

  mark_there : (j n i : ℕ) → i < n → get_elem? (first_marks j n) i ≡ core.some (first_mark (j + i))
  mark_there j zero i low = absurd (omega (arith, low))
  mark_there j (suc n) zero low = ap (λ k. core.some (first_mark k)) (let z : j ≡ j + 0 = omega arith in z)
  mark_there j (suc n) (suc i) low = mark_there (j + 1) n i (omega (arith, low)) ∙ ap (λ k. core.some (first_mark k)) (let z : j + 1 + i ≡ j + suc i = omega arith in z)

  length_marks : (j n : ℕ) → length (first_marks j n) ≡ n
  length_marks j zero = refl
  length_marks j (suc n) = ap suc (length_marks (j + 1) n)

  at_first : (n i : ℕ) (m : Mark) → At (first_marks 0 n) i m → (first_mark i ≡ m) × (i < n)
  at_first n i m e = let r = mark_at 0 n i m e in (ap first_mark (let z : i ≡ 0 + i = omega arith in z) ∙ r.0, r.1)

  there_first : (n i : ℕ) → i < n → At (first_marks 0 n) i (first_mark i)
  there_first n i low = mark_there 0 n i low ∙ ap (λ k. core.some (first_mark k)) (let z : 0 + i ≡ i = omega arith in z)

  link_is : (j k : ℕ) (b : Bool) → leb 32 j ≡ b → link_of j b ≡ k ∷ [] → j ≡ 32 + k
  link_is j k true low e = let z : j - 32 ≡ k = cc in let l = Rattle.std.proofs.Common.leb-true 32 j low in omega (arith, z, l)
  link_is j k false low e = absurd (let z : [] ≡ k ∷ [] = e in cc)

  module _ (calls opens : List ℕ) (fit : Begins opens) (seats : q.seats ≡ 32 + length opens) where
    abbrev all : List Program
    all = all_programs (programs (sizes_of p q) clients) (readers_from calls 0 opens)

    abbrev core0 : Core
    core0 = beginning p q (all_programs (programs (sizes_of p q) clients) (readers_from calls 0 opens))

    abbrev first_scene : Scene
    first_scene = record { core = beginning p q (all_programs (programs (sizes_of p q) clients) (readers_from calls 0 opens)); claims = []; births = []; advances = []; posts = []; decisions = []; sayings = first_sayings (all_programs (programs (sizes_of p q) clients) (readers_from calls 0 opens)) [] }

    module _ (long : length (all_programs (programs (sizes_of p q) clients) (readers_from calls 0 opens)) ≡ q.seats) (few_tries : (i : ℕ) (x : Program) → get_elem? (all_programs (programs (sizes_of p q) clients) (readers_from calls 0 opens)) i ≡ core.some x → KeepsFew x) (lead : LeadsTo p q clients gives (beginning p q (all_programs (programs (sizes_of p q) clients) (readers_from calls 0 opens)))) where
      -- ## Programs

      client_at : (v : Scene) (i : ℕ) (ts : List Task) → get_elem? clients i ≡ core.some ts → SaysOn p q clients gives v (first_mark i) (client_from (sizes_of p q) [] ts)
      client_at v i ts at = let g = got_at clients i ts at in client_says p q clients gives ts [] v (first_mark i) (record { todo = g.0; are = λ u there. (ts, g.1, there); mine = λ u there. absurd there }) (tt, refl, refl) (fit.fits i ts g.1)

      says_first : (v : Scene) (i : ℕ) (x : Program) → get_elem? (all_programs (programs (sizes_of p q) clients) (readers_from calls 0 opens)) i ≡ core.some x → SaysOn p q clients gives v (first_mark i) x
      says_first v i x e = ⊎_elim
          (λ a. let t = mapped_at (client_from (sizes_of p q) []) clients i x a in subst (SaysOn p q clients gives v (first_mark i)) t.2 (client_at v i t.0 t.1))
          (λ b. let many = length-map clients (client_from (sizes_of p q) []) in ⊎_elim
          (λ a. let r = repeated (32 - length (programs (sizes_of p q) clients)) b.0 Rest x a in subst (SaysOn p q clients gives v (first_mark i)) r.0 ((tt, refl, refl), past_end clients i (let z = b.1 in omega (arith, z, many))))
          (λ a. let r = readers_at calls 0 opens a.0 x a.2 in
          let place : i ≡ 32 + a.0 = let z = b.1 in let y = a.1 in let few = fit.few in omega (arith, z, y, few, many, length-replicate (32 - length (programs (sizes_of p q) clients)) Rest) in
          let past : get_or clients i [] ≡ [] = past_end clients i (let few = fit.few in omega (arith, few, place)) in
          let own : link_of i (leb 32 i) ≡ (0 + a.0) ∷ [] = ap (λ b. link_of i b) (Rattle.std.proofs.Common.le-leb 32 i (omega (arith, place))) ∙ ap (λ n. n ∷ []) (let z : i - 32 ≡ 0 + a.0 = omega (arith, place) in z) in
          subst (SaysOn p q clients gives v (first_mark i)) r.1 (reader_says p q clients gives calls (0 + a.0) r.0 v (first_mark i) (tt, refl, refl) past own refl (let low = r.2 in let links = fit.links in omega (arith, low, links))))
          (split_at (replicate (32 - length (programs (sizes_of p q) clients)) Rest) (readers_from calls 0 opens) b.0 x b.2))
          (split_at (programs (sizes_of p q) clients) (replicate (32 - length (programs (sizes_of p q) clients)) Rest ++ readers_from calls 0 opens) i x e)

      -- ## The laws before the first step

      fresh_words : Unused q first_scene.core.calls.words
      fresh_words = unused q

      free_at : (i : ℕ) → i < q.slots → (word_at first_scene i).state ≡ 0
      free_at i inside = ap (λ (y : Parts). y.state) (fresh_words.ids i inside)

      first_births : BirthsLaw p q clients gives first_scene
      first_births = record {
        born = λ b there. absurd there;
        alive = λ i inside live. absurd (let z = free_at i inside in omega (arith, z, live));
        apart = tt;
        homes = λ i asked inside live lies. absurd (let z = free_at i inside in omega (arith, z, live));
        errors = λ i inside live. absurd (let z = free_at i inside in omega (arith, z, live));
        attempts = λ b there. absurd there;
        few = λ b there. absurd there;
        advanced = λ b there. absurd there;
        ats = λ o inside. subst (λ n. at_word_attempt n ≤ 6) (sym (fresh_words.rest (at_index q o) (omega arith))) (omega arith);
        unmade = λ o all. refl;
        codes = fit.codes;
      }

      first_slots : SlotsLaw q first_scene (first_marks 0 q.seats)
      first_slots = record {
        fits = λ j m at. subst (λ (n : Mark). Rattle.story_steps.specs.call_stories.specs.CallStories.SlotFits q first_scene n.slot) (at_first q.seats j m at).0 tt;
        single = λ j l i m n e f s t. absurd (subst (λ (x : Mark). Rattle.story_steps.specs.call_stories.specs.CallStories.InSlot i x.slot) (sym (at_first q.seats j m e).0) s);
      }

      first_claims : ClaimsLaw p q clients gives first_scene (first_marks 0 q.seats)
      first_claims = record {
        taken = λ i inside some_. absurd (some_ (fresh_words.tags i inside));
        calls = λ c there. absurd there;
        once = λ a b there. absurd there;
        free = λ j m t at there i c. absurd c;
      }

      first_reads : ReadsLaw p q clients gives first_scene (first_marks 0 q.seats)
      first_reads = record {
        bytes = λ j k m at own. none_given p.links k ∙ ap (λ (n : Mark). n.bytes) (at_first q.seats j m at).0;
        tied = tied;
        inside = λ j k m at own. let low = (at_first q.seats j m at).1 in let is = tied j k m at own in let links = fit.links in omega (arith, low, is, links, seats, length-replicate p.links no_bytes);
      }
        where
          tied : (j k : ℕ) (m : Mark) → At (first_marks 0 q.seats) j m → m.link ≡ k ∷ [] → j ≡ 32 + k
          tied j k m at own = link_is j k (leb 32 j) refl (ap (λ (n : Mark). n.link) (at_first q.seats j m at).0 ∙ own)

      first_tasks : TasksLaw p q clients gives first_scene (replicate p.operations None) [] (first_marks 0 q.seats)
      first_tasks = record {
        client = λ j m at. ap (λ (n : Mark). n.client) (sym (at_first q.seats j m at).0);
        placed = λ j m at. subst (λ (n : Mark). Rattle.story_steps.specs.call_stories.specs.CallStories.undo p q clients gives n.done n.todo ≡ get_or clients j []) (at_first q.seats j m at).0 refl;
        told = λ j m at. subst (λ (n : Mark). Rattle.story_steps.specs.call_stories.specs.Scenes.AreTold p q clients gives first_scene n.client n.done) (at_first q.seats j m at).0 tt;
        quiet = λ j m at. subst (λ (n : Mark). Rattle.story_steps.specs.call_stories.specs.CallStories.AreQuiet p q clients gives first_scene (replicate p.operations None) n.client n.done) (at_first q.seats j m at).0 tt;
        begun = λ b there. absurd there;
        made = λ j m b at is. absurd (let z : [] ≡ b ∷ [] = ap (λ (n : Mark). n.makes) (at_first q.seats j m at).0 ∙ is in cc);
        called = λ o inside begun. absurd (begun (fresh_words.rest (call_index q o) (omega arith)));
        said = λ o x there. absurd there;
        once = tt;
        outcomes = λ o x is. absurd (none_said p.operations o x is);
        fresh = λ j m t at there. one_none p.operations t.number (fit.numbers j t (listed p q clients gives clients j t (subst (λ (n : Mark). In t (Rattle.story_steps.specs.call_stories.specs.CallStories.ahead p q clients gives n.makes n.todo)) (sym (at_first q.seats j m at).0) there)));
        untold = λ b there. absurd there;
        ended = λ b there. absurd there;
        owed = λ j m b at is. absurd (let z : [] ≡ b ∷ [] = ap (λ (n : Mark). n.owes) (at_first q.seats j m at).0 ∙ is in cc);
        owed_once = λ j l m n b e f is now. absurd (let z : [] ≡ b ∷ [] = ap (λ (n : Mark). n.owes) (at_first q.seats j m e).0 ∙ is in cc);
      }

      here : Later p q clients gives first_scene first_scene
      here = here_later p q clients gives first_scene (has_room p q clients gives slots first_scene (first_marks 0 q.seats) first_claims, lead) (λ id a b x y. absurd x)

      -- ## One seat after another says what it says before its first step

      -- a seat that has said it
      abbrev Done : List Mark → ℕ → Program → Type 0
      Done ms i x = (m : Mark) × At ms i m × IsKept p q clients gives (first_mark i) m × SaysOn p q clients gives first_scene m (next_step (resolved [] x))

      -- the seats below k have said it
      abbrev AreBegun : List Mark → ℕ → Type 0
      AreBegun ms k = (i : ℕ) (x : Program) → get_elem? (all_programs (programs (sizes_of p q) clients) (readers_from calls 0 opens)) i ≡ core.some x → (i < k → Done ms i x) × (k ≤ i → At ms i (first_mark i))

      one_more : (ms : List Mark) (k : ℕ) (x : Program) (m : Mark) → get_elem? (all_programs (programs (sizes_of p q) clients) (readers_from calls 0 opens)) k ≡ core.some x → At ms k (first_mark k) → IsKept p q clients gives (first_mark k) m → SaysOn p q clients gives first_scene m (next_step (resolved [] x)) → AreBegun ms k → AreBegun (set ms k m) (k + 1)
      one_more ms k x m at there kept says begun i y e = (
        (λ low. dite (ℕ_discrete i k)
            (λ same. subst (λ n. get_elem? (all_programs (programs (sizes_of p q) clients) (readers_from calls 0 opens)) n ≡ core.some y → Done (set ms k m) n y) (sym same)
            (λ e2. let z : x ≡ y = some-injective x y (sym at ∙ e2) in subst (Done (set ms k m) k) z (m, put_at ms k (first_mark k) m there, kept, says)) e)
            (λ ne. let d = (begun i y e).0 (omega (arith, low, ne)) in (d.0, put_beside ms k i m d.0 (λ s. ne (sym s)) d.1, d.2, d.3))),
        (λ high. put_beside ms k i m (first_mark i) (λ s. let z : ⊥ = omega (arith, s, high) in z) ((begun i y e).1 (omega (arith, high)))),
      )

      begin_all : (xs : List Program) (k : ℕ) (os : List (Option Outcome)) (ss : List Saying) (ms : List Mark) → ((i : ℕ) (x : Program) → get_elem? xs i ≡ core.some x → get_elem? (all_programs (programs (sizes_of p q) clients) (readers_from calls 0 opens)) (k + i) ≡ core.some x)
          → TasksLaw p q clients gives first_scene os ss ms → AreBegun ms k → ((s : Saying) → In s (first_sayings xs ss) → In s first_scene.sayings) → ((a b : Saying) → IsOver a b (first_sayings xs ss) → IsOver a b first_scene.sayings) → SlotsLaw q first_scene ms → ClaimsLaw p q clients gives first_scene ms → ReadsLaw p q clients gives first_scene ms
          → (ms' : List Mark) × (length ms' ≡ length ms) × TasksLaw p q clients gives first_scene (fold (λ (l : List (Option Outcome)) (x : Program). said (resolved [] x) l) os xs) (first_sayings xs ss) ms' × AreBegun ms' (k + length xs) × SlotsLaw q first_scene ms' × ClaimsLaw p q clients gives first_scene ms' × ReadsLaw p q clients gives first_scene ms'
      begin_all [] k os ss ms at law begun said overs slots claims reads = (ms, refl, law, subst (AreBegun ms) (let z : k ≡ k + 0 = omega arith in z) begun, slots, claims, reads)
      begin_all (x ∷ xs) k os ss ms at law begun said overs slots claims reads =
          let here_at : get_elem? (all_programs (programs (sizes_of p q) clients) (readers_from calls 0 opens)) k ≡ core.some x = subst (λ n. get_elem? (all_programs (programs (sizes_of p q) clients) (readers_from calls 0 opens)) n ≡ core.some x) (let z : k + 0 ≡ k = omega arith in z) (at 0 x refl) in
          let there = (begun k x here_at).1 (omega arith) in
          let c = chain p q clients gives numbered first_scene first_births here k x [] os ss ms (first_mark k) there law (says_first first_scene k x here_at) tt (few_tries k x here_at)
          (said_all first_scene x [] ss (λ s t. said s (first_kept xs (sayings_of (resolved [] x) ss) s t)) (λ a b t. overs a b (first_overs xs (sayings_of (resolved [] x) ss) a b t))) in
          let r = begin_all xs (k + 1) (Rattle.seat_programs.specs.Cores.said (resolved [] x) os) (sayings_of (resolved [] x) ss) (set ms k c.0)
          (λ i y e. subst (λ n. get_elem? (all_programs (programs (sizes_of p q) clients) (readers_from calls 0 opens)) n ≡ core.some y) (let z : k + suc i ≡ k + 1 + i = omega arith in z) (at (suc i) y e))
          c.2 (one_more ms k x c.0 here_at there c.1 c.3 begun) said overs (kept_slots p q clients gives first_scene ms k (first_mark k) c.0 there c.1 slots) (kept_claims p q clients gives first_scene ms k (first_mark k) c.0 there c.1 claims) (kept_reads p q clients gives first_scene ms k (first_mark k) c.0 there c.1 reads) in (
            r.0,
            r.1 ∙ length-set ms k c.0,
            r.2,
            subst (AreBegun r.0) (let z : k + 1 + length xs ≡ k + length (x ∷ xs) = omega arith in z) r.3,
            r.4,
            r.5,
            r.6,
          )

      -- the story as a run begins
      pub first_decided : (h : HasStory p q clients gives [] [] (beginning p q (all_programs (programs (sizes_of p q) clients) (readers_from calls 0 opens)))) × (h.scene.decisions ≡ [])
      first_decided =
          let xs : List Program = all_programs (programs (sizes_of p q) clients) (readers_from calls 0 opens) in
          let r = begin_all (all_programs (programs (sizes_of p q) clients) (readers_from calls 0 opens)) 0 (replicate p.operations None) [] (first_marks 0 q.seats) (λ i x e. subst (λ n. get_elem? xs n ≡ core.some x) (let z : i ≡ 0 + i = omega arith in z) e) first_tasks
          (λ i x e. ((λ low. absurd (omega (arith, low))), (λ _. there_first q.seats i (let z = at_length xs i x e in omega (arith, z, long))))) (λ s there. there) (λ a b there. there) first_slots first_claims first_reads in (
            record {
              scene = first_scene;
              marks = r.0;
              is = refl;
              shown = refl;
              shown_posts = refl;
              story = record {
                each = r.1 ∙ (length_marks 0 q.seats ∙ (sym long ∙ sym (length-map xs (λ (x : Program). record { program = next_step (resolved [] x); hand = [] }))));
                slots = r.4;
                births = first_births;
                tasks = r.2;
                claims = r.5;
                reads = r.6;
                seats = λ j seat m at_seat at_m.
                    let s = mapped_at (λ (x : Program). record { program = next_step (resolved [] x); hand = [] }) xs j seat at_seat in
                    let d = (r.3 j s.0 s.1).0 (let z = at_length xs j s.0 s.1 in omega (arith, z)) in
                    let same : d.0 ≡ m = some-injective d.0 m (sym d.1 ∙ at_m) in
                    subst (λ (y : SeatState). SaysOn p q clients gives first_scene m y.program) s.2 (subst (λ (n : Mark). SaysOn p q clients gives first_scene n (next_step (resolved [] s.0))) same d.3);
              };
            },
            refl,
          )

      pub first_story : HasStory p q clients gives [] [] (beginning p q (all_programs (programs (sizes_of p q) clients) (readers_from calls 0 opens)))
      first_story = first_decided.0
