-- The programs of clients, and of the ending, are allowed.
use Rattle.std.proofs.Common.{◌≡◌, ◌≢◌, ℕ, ◌+◌, ◌-◌, ◌<◌, ◌≤◌, Bool, true, false, not, ◌&&◌, List, [], ◌∷◌, ◌++◌, length, refl, sym, ap, ◌∙◌, subst, inr, arith, cond, eqb, eq-eqb, ne_eqb, Option, Some, None}
use Rattle.std.proofs.lemmas.Bool.{and_parts, not-true, cond-true}
use Rattle.std.specs.List.{AllByRecursion}
use mathlib.Core.Logic.{dite}
use native.Mathlib.Decide.{ℕ_discrete}
use Rattle.sock_words.specs.declared.plain.Plan.{Plan}
use Rattle.sock_words.specs.declared.outcome.Outcome.TheVariants.{Unopened, Gone, Held, Freed, Kept}
use Rattle.sock_words.specs.PackedWords.{socket_id_version, socket_id_slot}
use Rattle.sock_model.specs.declared.chain.Entry.{Entry}
use Rattle.sock_model.specs.declared.marks.Mark.TheVariants.{Hold}
use Rattle.sock_model.specs.declared.view.View.{View}
use Rattle.seat_programs.specs.declared.task.Op.{Op}
use Rattle.seat_programs.specs.declared.task.Op.TheVariants as ops
use Rattle.seat_programs.specs.declared.task.Task.{Task}
use Rattle.seat_programs.specs.Programs.{Program, Say, Round, release, add_reference, set_failed, fail, fail_outcome, hold, drop_held, end_open}
use Rattle.seat_programs.specs.ClientProgram.{HeldLife, held_under, without_name, give_back, drop_of, operation, client_from, ending_of}
use Rattle.seat_programs.specs.ScriptSetupToEnding.{sizes_of}
use Rattle.seat_programs.specs.Explained.{OpFits, TaskFits, in_hand_behind, goes_well, alternate}
use Rattle.program_walks.specs.program_steps.specs.ProgramGoesOn.{HasNothing, GoesOn}
use Rattle.slot_steps.proofs.RuleNumbers.{only-at, only-else}
use Rattle.corr_core.specs.IdSlotWord.{error_of}
use Rattle.corr_core.specs.declared.marks.Plan.{Plan as IdPlan}
use Rattle.corr_core.specs.EndedByRangeOrAttempt.{WHOLE}
use Rattle.sock_words.specs.declared.outcome.Outcome.TheVariants.{NotBegun, Joined}
use Rattle.seat_programs.specs.LoopHeads.{Joins}
use Rattle.seat_programs.specs.PostPrograms.{post_with, posted}
use Rattle.seat_programs.specs.CallAndRetryPrograms.{expire, expire_outcome, join}
use Rattle.program_walks.specs.program_steps.proofs.AsideStepsPass.{way, post_with_goes, posted_goes}
use Rattle.programs_allowed.proofs.CallProgramAllowed.{call_goes}
use Rattle.programs_allowed.specs.SeatOpenings.{link_of, links_of}
use Rattle.program_walks.specs.program_steps.specs.WhatSeatHas.{Has, holds}
use Rattle.program_walks.specs.program_steps.proofs.AllowedRounds.{about_top}
use Rattle.programs_allowed.proofs.WeighingWhatSeatHas.{about_cons, at_slot, holding, letting, has_nothing, from_nothing}
use Rattle.programs_allowed.proofs.ListOfHeldLives.{IsInTable, under, more_here, more_else, all_more, length_more, under_more, all_without, length_without, under_without, none_under, without_unheld, held_in_table, fewer_here, fewer_else}
use Rattle.programs_allowed.proofs.AllowedProgramSteps.{loads_open}
use Rattle.programs_allowed.proofs.SendingAllowed.{send_goes}
use Rattle.programs_allowed.proofs.OperationParts.{Ready, release_goes, address_goes, reach_goes, set_failed_goes, open_goes}
use Rattle.sock_words.specs.Totals.{total}

-- ## The operations

module _ (p : Plan) {lists : List (List Entry)} {held : List HeldLife} {passes : List ℕ} (few : length held ≤ 4096) where
  -- a life is failed, and the reference to it given back
  pub fails_held : (id code : ℕ) {v : View} → code ≢ 0 → socket_id_slot id < p.slots → Has lists (socket_id_slot id) (Hold (socket_id_version id) ∷ []) held passes [] v → (next : ℕ → Program)
      → ((found : ℕ) (u : View) → Ready lists held passes u → GoesOn p u (next found)) → GoesOn p v (set_failed id code (λ found. release (socket_id_slot id) (λ _. next found)))
  fails_held id code some_ inside a next goes = set_failed_goes p id code some_ a inside few (λ found. release (socket_id_slot id) (λ _. next found))
      (λ u found b. release_goes p (socket_id_slot id) (Hold (socket_id_version id)) b (inr (socket_id_version id, refl, refl)) inside (λ _. next found) (λ c w. goes found w))

  pub fail_goes : (o name code : ℕ) {v : View} → name < p.names → code ≢ 0 → Ready lists held passes v → (next : Program) → ((u : View) → Ready lists held passes u → GoesOn p u next) → GoesOn p v (fail o name code next)
  fail_goes o name code {v} inside some_ a next goes = reach_goes p name inside a few (Say o Unopened next) (λ id. set_failed id code (λ found. release (socket_id_slot id) (λ _. Say o (fail_outcome found) next)))
      (λ found. Say o (Gone (record { 0 = found })) next) (goes v a)
      (λ id u slot b. fails_held id code some_ slot b (λ found. Say o (fail_outcome found) next) (λ found w. goes w)) (λ u found. goes u)

  pub hold_goes : (o name : ℕ) {v : View} → name < p.names → Ready lists held passes v → (more : ℕ → Program) (next : Program) → ((u : View) → Ready lists held passes u → GoesOn p u next)
      → ((id : ℕ) (u : View) → socket_id_slot id < p.slots → Ready lists (held ++ (record { name = name; id = id }) ∷ []) passes u → GoesOn p u (more id)) → GoesOn p v (hold o name more next)
  hold_goes o name {v} inside a more next goes holds_ = reach_goes p name inside a few (Say o Unopened next) (λ id. Say o Held (more id)) (λ found. Say o (Gone (record { 0 = found })) next) (goes v a)
      (λ id u slot b. let h : HeldLife = record { name = name; id = id } in holds_ id u slot (at_slot (holding (socket_id_version id) (held ++ h ∷ []) b (more_here held h) (more_else held h)) 0)) (λ u found. goes u)

  pub end_goes : (o : ℕ) {v : View} → o < p.operations → Ready lists held passes v → (next : Program) → ((u : View) → Ready lists held passes u → GoesOn p u next) → GoesOn p v (end_open o next)
  end_goes o {v} inside a next goes = loads_open p a o inside next (λ word. add_reference (word - 1) (set_failed (word - 1) 1014 (λ _. release (socket_id_slot (word - 1)) (λ _. next))) (λ _. next)) (goes v a)
      (λ word u knows b. address_goes p (word - 1) b knows few (set_failed (word - 1) 1014 (λ _. release (socket_id_slot (word - 1)) (λ _. next))) (λ _. next)
      (λ w c. fails_held (word - 1) 1014 (λ e. absurd (omega (arith, e))) knows.0 c (λ _. next) (λ found. goes)) (λ w found. goes w))

pub drop_goes : (p : Plan) {lists : List (List Entry)} {held : List HeldLife} {passes : List ℕ} (o id : ℕ) {v : View} → socket_id_slot id < p.slots → Has lists (socket_id_slot id) (Hold (socket_id_version id) ∷ []) held passes [] v
    → (next : Program) → ((u : View) → Ready lists held passes u → GoesOn p u next) → GoesOn p v (drop_held o id next)
drop_goes p o id inside a next goes = release_goes p (socket_id_slot id) (Hold (socket_id_version id)) a (inr (socket_id_version id, refl, refl)) inside (λ freed. Say o (cond freed Freed Kept) next) (λ b u. goes u)

pub give_back_goes : (p : Plan) {lists : List (List Entry)} (held : List HeldLife) {passes : List ℕ} {v : View} → AllByRecursion (IsInTable p) held → Ready lists held passes v → GoesOn p v (give_back held)
give_back_goes p [] all a = has_nothing a
give_back_goes p (h ∷ hs) {passes} {v} all a = let i : ℕ = socket_id_slot h.id in let g : ℕ = socket_id_version h.id in
    release_goes p i (Hold g) (letting g hs (at_slot a i) (λ f. about_top f i (Hold g) (holds hs)) (λ f j n. about_cons f i j (Hold g) (holds hs) n)) (inr (g, refl, refl)) all.0 (λ _. give_back hs) (λ b u c. give_back_goes p hs all.1 c)

-- ## On calls

expire_goes : (p : Plan) (v : View) (o t : ℕ) (next : Program) → GoesOn p v next → GoesOn p v (expire o t next)
expire_goes p v o t next goes = λ id _. way p v (eqb id 0) (Say o NotBegun next) (post_with id (error_of 1008 WHOLE) (λ how. posted id (error_of 1008 WHOLE) (Say o (expire_outcome how) next) how)) (λ _. goes)
    (λ _. post_with_goes p v id (error_of 1008 WHOLE) (λ how. posted id (error_of 1008 WHOLE) (Say o (expire_outcome how) next) how) (λ how f. posted_goes p v id (error_of 1008 WHOLE) (Say o (expire_outcome how) next) goes how f))

join_goes : (p : Plan) (v : View) → v.loose ≡ [] → (o t : ℕ) (next : Program) → GoesOn p v next → GoesOn p v (join o t next)
join_goes p v loose o t next goes = λ id _. way p v (eqb id 0) (Say o NotBegun next) (Round (Joins id) (λ _. Say o Joined next)) (λ _. goes) (λ _. ((tt, loose), λ _ _. goes))

-- ## A client

-- what is held under each name, where `in_hand` says of which names something may be
abbrev pub HeldOnce : (ℕ → Bool) → List HeldLife → Type 0
HeldOnce in_hand held = (n : ℕ) → total (under n) held ≤ cond (in_hand n) 1 0

-- what follows an operation is allowed from what it may leave
abbrev pub GoesOnFrom : Plan → IdPlan → List Task → Type 0
GoesOnFrom p q ts = (made : List Entry) (held : List HeldLife) (in_hand : ℕ → Bool) (u : View) → AllByRecursion (IsInTable p) held → length held + length ts ≤ 4096
    → ((n : ℕ) → alternate n (in_hand n) ts ≡ true) → HeldOnce in_hand held → Ready (made ∷ []) held (links_of ts) u → GoesOn p u (client_from (sizes_of p q) held ts)

module _ (p : Plan) (q : IdPlan) (slots : p.slots ≤ 256) (requests : p.requests ≤ 4096) (o : ℕ) (mine : o < p.operations) (ts : List Task) (goes : GoesOnFrom p q ts) (made : List Entry) (held : List HeldLife) (in_hand : ℕ → Bool)
    (all : AllByRecursion (IsInTable p) held) (few : length held + length ts + 1 ≤ 4096) (once : HeldOnce in_hand held) where
  abbrev next : List HeldLife → Program
  next held = client_from (sizes_of p q) held ts

  -- a name that comes to be in hand may be held once more
  hold_once : (m : ℕ) → in_hand m ≡ false → (id : ℕ) → HeldOnce (λ n. in_hand_behind n (ops.Hold m) (in_hand n)) (held ++ (record { name = m; id = id }) ∷ [])
  hold_once m free id n = let a = under_more n held (record { name = m; id = id }) in dite (ℕ_discrete m n)
      (λ e. let z : total (under n) held ≤ 0 = subst (λ x. total (under n) held ≤ cond x 1 0) (ap in_hand (sym e) ∙ free) (once n) in
      subst (λ b. total (under n) (held ++ (record { name = m; id = id }) ∷ []) ≤ cond (cond b true (in_hand n)) 1 0) (sym (eq-eqb m n e)) (omega (arith, a, z, only-at n m e)))
      (λ k. subst (λ b. total (under n) (held ++ (record { name = m; id = id }) ∷ []) ≤ cond (cond b true (in_hand n)) 1 0) (sym (ne_eqb m n k)) (omega (arith, a, once n, only-else n m k)))

  keep_once : (m : ℕ) → HeldOnce (λ n. in_hand_behind n (ops.Hold m) (in_hand n)) held
  keep_once m n = more (eqb m n) (in_hand n) (once n)
    where
      more : (b c : Bool) → total (under n) held ≤ cond c 1 0 → total (under n) held ≤ cond (cond b true c) 1 0
      more true true h = h
      more true false h = omega (arith, h)
      more false c h = h

  drop_once : (m : ℕ) → HeldOnce (λ n. in_hand_behind n (ops.Drop m) (in_hand n)) (without_name m held)
  drop_once m n = dite (ℕ_discrete m n)
      (λ e. subst (λ b. total (under n) (without_name m held) ≤ cond (cond b false (in_hand n)) 1 0) (sym (eq-eqb m n e)) (subst (λ x. total (under x) (without_name m held) ≤ 0) e (omega (arith, none_under m held))))
      (λ k. subst (λ b. total (under n) (without_name m held) ≤ cond (cond b false (in_hand n)) 1 0) (sym (ne_eqb m n k)) (omega (arith, under_without n m held, once n)))

  drop_op : (m : ℕ) (found : Option ℕ) → held_under m held ≡ found → ((n : ℕ) → alternate n (in_hand_behind n (ops.Drop m) (in_hand n)) ts ≡ true) → {v : View} → Ready (made ∷ []) held (links_of ts) v
      → GoesOn p v (drop_of o found (next (without_name m held)))
  drop_op m None e rest {v} a = goes made (without_name m held) (λ n. in_hand_behind n (ops.Drop m) (in_hand n)) v (all_without p m held all) (omega (arith, length_without m held, few)) rest (drop_once m)
      (subst (λ l. Ready (made ∷ []) l (links_of ts) v) (sym (without_unheld m held e)) a)
  drop_op m (Some id) e rest {v} a = let few_ : total (under m) held ≤ 1 = at_most (in_hand m) (once m) in
      drop_goes p o id (held_in_table p m id held e all) (letting (socket_id_version id) (without_name m held) (at_slot a (socket_id_slot id)) (fewer_here m id held e few_) (fewer_else m id held e few_)) (next (without_name m held))
      (λ u b. goes made (without_name m held) (λ n. in_hand_behind n (ops.Drop m) (in_hand n)) u (all_without p m held all) (omega (arith, length_without m held, few)) rest (drop_once m) b)
    where
      at_most : (b : Bool) → total (under m) held ≤ cond b 1 0 → total (under m) held ≤ 1
      at_most true h = h
      at_most false h = omega (arith, h)

  pub operation_goes : (op : Op) → OpFits p op → ((n : ℕ) → (goes_well n op (in_hand n) && alternate n (in_hand_behind n op (in_hand n)) ts) ≡ true) → {v : View} → Ready (made ∷ []) held (link_of op ++ links_of ts) v
      → GoesOn p v (operation (sizes_of p q) held o (λ held'. client_from (sizes_of p q) held' ts) op)
  operation_goes (ops.Open name k) fits well a = open_goes p o name k mine fits.0 fits.1 (next held)
      (λ u b. goes made held in_hand u all (omega (arith, few)) (λ n. (and_parts (goes_well n (ops.Open name k) (in_hand n)) _ (well n)).1) once b) p.slots 0 (omega arith) slots a
  operation_goes (ops.Send name bytes) fits well a = send_goes p made (omega (arith, few)) requests o mine bytes fits.1 (next held)
      (λ longer most u b. goes longer held in_hand u all (omega (arith, few)) (λ n. (and_parts (goes_well n (ops.Send name bytes) (in_hand n)) _ (well n)).1) once b) name fits.0 a
  operation_goes (ops.Call asked) fits well a = call_goes p made held (links_of ts) (omega (arith, few)) requests asked fits (next held)
      (λ longer most u b. goes longer held in_hand u all (omega (arith, few)) (λ n. (and_parts (goes_well n (ops.Call asked) (in_hand n)) _ (well n)).1) once b) q.slots a
  operation_goes (ops.Expire t) fits well {v} a = expire_goes p v o t (next held) (goes made held in_hand v all (omega (arith, few)) (λ n. (and_parts (goes_well n (ops.Expire t) (in_hand n)) _ (well n)).1) once a)
  operation_goes (ops.Join t) fits well {v} a = join_goes p v a.quiet.loose o t (next held) (goes made held in_hand v all (omega (arith, few)) (λ n. (and_parts (goes_well n (ops.Join t) (in_hand n)) _ (well n)).1) once a)
  operation_goes (ops.Hold name) fits well a = let rest : (n : ℕ) → alternate n (in_hand_behind n (ops.Hold name) (in_hand n)) ts ≡ true = λ n. (and_parts (goes_well n (ops.Hold name) (in_hand n)) _ (well n)).1 in
      let free : in_hand name ≡ false = not-true (in_hand name) (sym (cond-true (eqb name name) (not (in_hand name)) true (eq-eqb name name refl)) ∙ (and_parts (goes_well name (ops.Hold name) (in_hand name)) _ (well name)).0) in
      hold_goes p (omega (arith, few)) o name fits a (λ id. next (held ++ (record { name = name; id = id }) ∷ [])) (next held)
      (λ u b. goes made held (λ n. in_hand_behind n (ops.Hold name) (in_hand n)) u all (omega (arith, few)) rest (keep_once name) b)
      (λ id u slot b. let h : HeldLife = record { name = name; id = id } in goes made (held ++ h ∷ []) (λ n. in_hand_behind n (ops.Hold name) (in_hand n)) u (all_more p held h all slot) (omega (arith, length_more held h, few)) rest (hold_once name free id) b)
  operation_goes (ops.Drop name) fits well a = drop_op name (held_under name held) refl (λ n. (and_parts (goes_well n (ops.Drop name) (in_hand n)) _ (well n)).1) a
  operation_goes (ops.Fail name code) fits well a = fail_goes p (omega (arith, few)) o name code fits.0 fits.1 a (next held)
      (λ u b. goes made held in_hand u all (omega (arith, few)) (λ n. (and_parts (goes_well n (ops.Fail name code) (in_hand n)) _ (well n)).1) once b)

-- a client with these tasks, which holds these lives and has the passes of the links that it opens, is allowed all that it does
pub client_goes_on : (p : Plan) (q : IdPlan) → p.slots ≤ 256 → p.requests ≤ 4096 → (ts : List Task) → AllByRecursion (TaskFits p) ts → GoesOnFrom p q ts
client_goes_on p q slots requests [] fit made held in_hand u all few rest once a = (refl, (made, held, links_of [], a, omega (arith, few), λ longer w b. give_back_goes p held all b))
client_goes_on p q slots requests (t ∷ ts) fit made held in_hand u all few rest once a = let one = fit.0 in
    (refl, (made, held, links_of (t ∷ ts), a, omega (arith, few), λ longer w b. operation_goes p q slots requests t.number one.0 ts (client_goes_on p q slots requests ts fit.1) longer held in_hand all (omega (arith, few)) once t.op one.1 rest b))

-- ## The ending

ends : (p : Plan) {lists : List (List Entry)} (os : List ℕ) → AllByRecursion (λ o. o < p.operations) os → (v : View) → Ready lists [] [] v → GoesOn p v (ending_of os)
ends p [] all v a = has_nothing a
ends p (o ∷ os) all v a = end_goes p (omega arith) o all.0 a (ending_of os) (λ u b. ends p os all.1 u b)

-- a seat that has nothing to give back may make the ending
pub ending_goes_on : (p : Plan) (os : List ℕ) → AllByRecursion (λ o. o < p.operations) os → (v : View) → HasNothing v → GoesOn p v (ending_of os)
ending_goes_on p os all v n = ends p os all v (from_nothing 0 n)
