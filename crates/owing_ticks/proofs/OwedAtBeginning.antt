-- What each seat owes as a run begins: nothing, and each link has its reader.
use Rattle.std.proofs.Common.{◌≡◌, ℕ, zero, suc, ◌+◌, ◌-◌, ◌<◌, ◌≤◌, ◌⊎◌, inl, inr, ⊎_elim, Bool, false, List, [], ◌∷◌, ◌++◌, length, length-append, replicate, Option, Some, refl, sym, ap, ◌∙◌, subst, arith}
use Rattle.std.proofs.lemmas.List.{length-map, length-replicate}
use mathlib.Core.Option.{some, some-ne-none, some-injective}
use lib.ListN.{get_elem?}
use Rattle.sock_words.specs.declared.plain.Plan.{Plan}
use Rattle.corr_core.specs.declared.marks.Plan.{Plan as IdPlan}
use Rattle.seat_programs.specs.id_rule.specs.LawfulIdTable as ids
use Rattle.seat_programs.specs.declared.task.Task.{Task}
use Rattle.seat_programs.specs.LoopHeads.{Retry}
use Rattle.seat_programs.specs.Programs.{Program, Say, Sent, Rest, Keep, Retries}
use Rattle.seat_programs.specs.ClientProgram.{client_from}
use Rattle.seat_programs.specs.ReaderProgram.{reader}
use Rattle.seat_programs.specs.Cores.{Core, SeatState, waiting_at, resolved, next_step}
use Rattle.seat_programs.specs.ScriptSetupToEnding.{sizes_of, programs, opening_calls, beginning, readers_from, all_programs}
use Rattle.call_owing.specs.Below.programs_allowed.specs.program_walks.proofs.OpenedLivesRecorded.{mapped}
use Rattle.call_owing.specs.Owing.{Free, Trying, Owing, with_keeps}
use Rattle.call_owing.specs.Owes.{OwesOn}
use Rattle.call_owing.specs.SoundOwing.{SoundOwing}
use Rattle.call_owing.proofs.PostsAndDecisionsOwed.{same_further}
use Rattle.call_owing.proofs.OwedAtOpening.{begins_law}
use Rattle.call_owing.proofs.ClientsOwing.{client_goes, no_link}
use Rattle.call_owing.proofs.OwingReading.{reader_goes}
use Rattle.call_owing.specs.Below.programs_allowed.proofs.WordsAtBeginning.{no_message}

-- ## Lists

collect : (xs : List Program) (P : ℕ → Program → Owing → Type 0) → ((i : ℕ) (x : Program) → get_elem? xs i ≡ some x → (u : Owing) × P i x u)
    → (us : List Owing) × (length us ≡ length xs) × ((i : ℕ) (x : Program) → get_elem? xs i ≡ some x → (u : Owing) × (get_elem? us i ≡ some u) × P i x u)
collect [] P each = ([], refl, λ i x at. absurd (some-ne-none x (sym at)))
collect (y ∷ ys) P each = let first = each 0 y refl in let more = collect ys (λ i x u. P (suc i) x u) (λ i x at. each (suc i) x at) in (first.0 ∷ more.0, (let e = more.1 in omega (arith, e)), there first.0 first.1 more.0 more.2)
  where
    there : (u : Owing) → P 0 y u → (us : List Owing) → ((i : ℕ) (x : Program) → get_elem? ys i ≡ some x → (u : Owing) × (get_elem? us i ≡ some u) × P (suc i) x u)
        → (i : ℕ) (x : Program) → get_elem? (y ∷ ys) i ≡ some x → (w : Owing) × (get_elem? (u ∷ us) i ≡ some w) × P i x w
    there u one us more zero x at = (u, refl, subst (λ z. P 0 z u) (some-injective y x at) one)
    there u one us more (suc i) x at = more i x at

appended : {A : Type 0} (xs ys : List A) (j : ℕ) (a : A) → get_elem? (xs ++ ys) j ≡ some a → ((get_elem? xs j ≡ some a) × (j < length xs)) ⊎ ((k : ℕ) × (j ≡ length xs + k) × (get_elem? ys k ≡ some a))
appended [] ys j a at = inr (j, omega arith, at)
appended (x ∷ xs) ys zero a at = inl (at, omega arith)
appended (x ∷ xs) ys (suc j) a at = ⊎_elim (λ b. let z = b.1 in inl (b.0, omega (arith, z))) (λ b. let z = b.1 in inr (b.0, omega (arith, z), b.2)) (appended xs ys j a at)

same_rest : (n i : ℕ) (x : Program) → get_elem? (replicate n Rest) i ≡ some x → Rest ≡ x
same_rest zero i x at = absurd (some-ne-none x (sym at))
same_rest (suc n) zero x at = some-injective Rest x at
same_rest (suc n) (suc i) x at = same_rest n i x at

is_reader : (calls os : List ℕ) (k i : ℕ) (x : Program) → get_elem? (readers_from calls k os) i ≡ some x → (o : ℕ) × (x ≡ reader calls (k + i) o) × (i < length os)
is_reader calls [] k i x at = absurd (some-ne-none x (sym at))
is_reader calls (o ∷ os) k zero x at = (o, sym (some-injective (reader calls k o) x at) ∙ ap (λ y. reader calls y o) (let z : k ≡ k + 0 = omega arith in z), omega arith)
is_reader calls (o ∷ os) k (suc i) x at = let r = is_reader calls os (k + 1) i x at in let low = r.2 in (r.0, r.1 ∙ ap (λ y. reader calls y r.0) (let z : k + 1 + i ≡ k + suc i = omega arith in z), omega (arith, low))

none_waits : (n j : ℕ) → waiting_at (replicate n []) j ≡ []
none_waits zero j = refl
none_waits (suc n) zero = refl
none_waits (suc n) (suc j) = none_waits n j

-- ## Seats

module _ (life : ℕ → Option ℕ) where
  -- the program from its next step on, where no retry waits
  opens_goes : (x : Program) (u : Owing) → u.duty ≡ Free → OwesOn life u x → (b : Bool) × OwesOn life (with_keeps b u) (next_step (resolved [] x))
  opens_goes (Say o outcome next) u free g = opens_goes next u free g
  opens_goes (Sent o next) u free g = opens_goes next u free g
  opens_goes (Keep r next) u free g = let z : Free ≡ Trying r.id r.attempt = sym free ∙ g.0 in absurd cc
  opens_goes (Retries requests after) u free g = opens_goes after (with_keeps g.1 u) free (g.2 u (same_further u))
  opens_goes _ u free g = (u.keeps, g)

  abbrev bare : List ℕ → List ℕ → Owing
  bare link left = record { duty = Free; knows = []; keeps = false; link = link; left = left; dead = false }

  module _ (calls : List ℕ) (many : ℕ) where
    -- what a seat at this place may begin with; many is how many links there are
    record Begun (i : ℕ) (x : Program) (u : Owing) : Type 0 where
      duty : u.duty ≡ Free
      knows : u.knows ≡ []
      dead : u.dead ≡ false
      goes : OwesOn life u (next_step (resolved [] x))
      tied : (k : ℕ) (ks : List ℕ) → u.link ≡ k ∷ ks → i ≡ 32 + k
      reads : (n : ℕ) → i ≡ 32 + n → (u.link ≡ n ∷ []) × (u.left ≡ calls)

    begun : (i : ℕ) (x : Program) (link left : List ℕ) → OwesOn life (bare link left) x → ((k : ℕ) (ks : List ℕ) → link ≡ k ∷ ks → i ≡ 32 + k) → ((n : ℕ) → i ≡ 32 + n → (link ≡ n ∷ []) × (left ≡ calls)) → (u : Owing) × Begun i x u
    begun i x link left g tied reads = let s = opens_goes x (bare link left) refl g in (with_keeps s.0 (bare link left), record { duty = refl; knows = refl; dead = refl; goes = s.1; tied = tied; reads = reads })

    no_reader : (i : ℕ) (x : Program) → i < 32 → OwesOn life (bare [] []) x → (u : Owing) × Begun i x u
    no_reader i x low g = begun i x [] [] g (λ k ks e. let z : [] ≡ k ∷ ks = e in absurd cc) (λ n e. absurd (let z : ⊥ = omega (arith, low, e) in z))

    each_begins : (p : Plan) (q : IdPlan) (clients : List (List Task)) (os : List ℕ) → length os ≡ many → length clients ≤ 32 → (i : ℕ) (x : Program) → get_elem? (all_programs (programs (sizes_of p q) clients) (readers_from calls 0 os)) i ≡ some x → (u : Owing) × Begun i x u
    each_begins p q clients os are few i x at = let first : List Program = programs (sizes_of p q) clients in let l : length (programs (sizes_of p q) clients) ≡ length clients = length-map clients (client_from (sizes_of p q) []) in ⊎_elim
        (λ a. let b = mapped (client_from (sizes_of p q) []) clients i x a.0 in let low = a.1 in no_reader i x (omega (arith, low, l, few)) (subst (OwesOn life (bare [] [])) b.2 (client_goes life (sizes_of p q) [] b.0 (bare [] []) (refl, refl, refl))))
        (λ a. let place = a.1 in ⊎_elim
        (λ b. let low = b.1 in let r = length-replicate (32 - length (programs (sizes_of p q) clients)) Rest in no_reader i x (omega (arith, place, low, r, l, few)) (subst (OwesOn life (bare [] [])) (same_rest (32 - length (programs (sizes_of p q) clients)) a.0 x b.0) (refl, refl, refl, no_link life (bare [] []) refl)))
        (λ b. let r = length-replicate (32 - length (programs (sizes_of p q) clients)) Rest in let behind = b.1 in let is = is_reader calls os 0 b.0 x b.2 in let at_i : i ≡ 32 + b.0 = omega (arith, place, behind, r, l, few) in let link : 0 + b.0 ≡ b.0 = omega arith in
        begun i x (b.0 ∷ []) calls (subst (OwesOn life (bare (b.0 ∷ []) calls)) (ap (λ k. reader calls k is.0) (sym link) ∙ sym is.1) (reader_goes life calls b.0 is.0 (bare (b.0 ∷ []) calls) (record { duty = refl; keeps = refl; link = refl; left = refl })))
        (λ k ks e. let z : b.0 ≡ k = cc in omega (arith, at_i, z))
        (λ n e. (ap (λ k. k ∷ []) (let z : b.0 ≡ n = omega (arith, at_i, e) in z), refl)))
        (appended (replicate (32 - length (programs (sizes_of p q) clients)) Rest) (readers_from calls 0 os) a.0 x a.2))
        (appended (programs (sizes_of p q) clients) (replicate (32 - length (programs (sizes_of p q) clients)) Rest ++ readers_from calls 0 os) i x at)

    -- at the beginning of a run, whose ids are unused and which has enough lists of retries
    pub owing_begins : (p : Plan) (q : IdPlan) (clients : List (List Task)) (os : List ℕ) → length os ≡ many → length clients ≤ 32 → 32 + many ≤ q.seats → ids.Unused q (opening_calls q p.links).words
        → ((k s : ℕ) → life k ≡ Some s → k < many) → (us : List Owing) × SoundOwing q life calls (beginning p q (all_programs (programs (sizes_of p q) clients) (readers_from calls 0 os))) us
    owing_begins p q clients os are few room unused alive = let xs : List Program = all_programs (programs (sizes_of p q) clients) (readers_from calls 0 os) in let made = collect xs Begun (each_begins p q clients os are few) in (
      made.0,
      record {
        each = made.1 ∙ sym (length-map xs (λ (program : Program). record { program = next_step (resolved [] program); hand = [] }));
        law = begins_law q life calls start made.0 record {
          words = unused;
          room = (let e = made.1 in let l = length-replicate q.seats none_kept in omega (arith, e, l, many_programs, room));
          bare = λ j u at. let b = back made.0 made.1 made.2 j u at in (b.1.duty, b.1.knows, b.1.dead);
          waits = none_waits q.seats;
          letters = no_message p;
          tied = λ j k ks u at e. (back made.0 made.1 made.2 j u at).1.tied k ks e;
          readers = λ k s lives. let low = alive k s lives in let x = at_place xs (32 + k) (omega (arith, low, many_programs)) in let u = made.2 (32 + k) x.0 x.1 in let r = u.2.reads k refl in (32 + k, u.0, u.1, r.0, r.1);
        };
        seats = λ j seat u at_seat at. let a = mapped (λ (program : Program). record { program = next_step (resolved [] program); hand = [] }) xs j seat at_seat in let b = made.2 j a.0 a.1 in
            subst (λ (s : SeatState). OwesOn life u s.program) a.2 (subst (λ w. OwesOn life w (next_step (resolved [] a.0))) (some-injective b.0 u (sym b.1 ∙ at)) b.2.goes);
      },
    )
      where
        start : Core
        start = beginning p q (all_programs (programs (sizes_of p q) clients) (readers_from calls 0 os))

        none_kept : List Retry
        none_kept = []

        many_readers : (k : ℕ) (os : List ℕ) → length (readers_from calls k os) ≡ length os
        many_readers k [] = refl
        many_readers k (o ∷ os) = let e = many_readers (k + 1) os in omega (arith, e)

        many_programs : length (all_programs (programs (sizes_of p q) clients) (readers_from calls 0 os)) ≡ 32 + many
        many_programs = let first : List Program = programs (sizes_of p q) clients in let l : length (programs (sizes_of p q) clients) ≡ length clients = length-map clients (client_from (sizes_of p q) []) in
            let a = length-append first (replicate (32 - length first) Rest ++ readers_from calls 0 os) in let b = length-append (replicate (32 - length first) Rest) (readers_from calls 0 os) in let r = length-replicate (32 - length first) Rest in let m = many_readers 0 os in omega (arith, a, b, r, l, m, are, few)

        at_place : (xs : List Program) (j : ℕ) → j < length xs → (x : Program) × (get_elem? xs j ≡ some x)
        at_place [] j low = absurd (let z : ⊥ = omega (arith, low) in z)
        at_place (x ∷ xs) zero low = (x, refl)
        at_place (x ∷ xs) (suc j) low = at_place xs j (omega (arith, low))

        inside : (us : List Owing) (j : ℕ) (u : Owing) → get_elem? us j ≡ some u → j < length us
        inside [] j u at = absurd (some-ne-none u (sym at))
        inside (u ∷ us) zero w at = omega arith
        inside (u ∷ us) (suc j) w at = let z = inside us j w at in omega (arith, z)

        back : (us : List Owing) → length us ≡ length (all_programs (programs (sizes_of p q) clients) (readers_from calls 0 os))
            → ((i : ℕ) (x : Program) → get_elem? (all_programs (programs (sizes_of p q) clients) (readers_from calls 0 os)) i ≡ some x → (u : Owing) × (get_elem? us i ≡ some u) × Begun i x u)
            → (j : ℕ) (u : Owing) → get_elem? us j ≡ some u → (x : Program) × Begun j x u
        back us e each j u at = let low = inside us j u at in let x = at_place (all_programs (programs (sizes_of p q) clients) (readers_from calls 0 os)) j (omega (arith, low, e)) in let b = each j x.0 x.1 in (x.0, subst (Begun j x.0) (some-injective b.0 u (sym b.1 ∙ at)) b.2)
