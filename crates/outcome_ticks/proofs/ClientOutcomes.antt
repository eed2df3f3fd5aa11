-- The program of a client explains each outcome that it says.
use Rattle.std.proofs.Common.{◌≡◌, ◌≢◌, ℕ, zero, suc, ◌+◌, ◌%◌, ◌<◌, ◌⊎◌, Bool, true, false, cond, eqb, eq-eqb, ne_eqb, List, [], ◌∷◌, ◌++◌, inl, inr, ⊎_elim, sym, refl, ap, ◌∙◌, subst, arith}
use Rattle.std.specs.Prelude.{Option, Some, None, not, if◌then◌else◌}
use Rattle.std.specs.List.{AllByRecursion}
use mathlib.Core.Logic.{dite}
use native.Mathlib.Decide.{ℕ_discrete}
use Rattle.sock_words.specs.PackedWords.{socket_id_version, socket_id_slot, vref_version}
use Rattle.sock_words.specs.declared.outcome.Outcome.{Outcome}
use Rattle.sock_words.specs.declared.outcome.Outcome.TheVariants.{Opened, SlotsFull, Unopened, Gone, Held, Freed, Kept, NotHeld, Failed, Already}
use Rattle.seat_programs.specs.declared.task.Op.{Op}
use Rattle.seat_programs.specs.declared.task.Op.TheVariants as ops
use Rattle.seat_programs.specs.declared.task.Task.{Task}
use Rattle.seat_programs.specs.declared.task.Sizes.{Sizes}
use Rattle.seat_programs.specs.TableSteps.{OnSlot, OnName, ClaimSlot, AddRef, SubRef, SetOdd, StoreCode, LoadName}
use Rattle.seat_programs.specs.Programs.{Program, Do, Say, release, open_from, make_socket, set_failed, fail, fail_outcome, hold}
use Rattle.seat_programs.specs.ClientProgram.{HeldLife, held_under, without_name, give_back, drop_of, operation, client_from}
use Rattle.seat_programs.specs.Explained.{goes_well, in_hand_behind, alternate}
use Rattle.outcome_stories.specs.OperationStories.{Entry, In}
use Rattle.outcome_stories.specs.Explains.{Own, Beside, ExplainsBy, is_plain, plain_tasks, Done, LastHold, Because, Explains, Tells, Grew, swapped, step}
use Rattle.outcome_stories.proofs.Tests.{split_eq, both_left, both_right, none_of}
use Rattle.outcome_stories.proofs.SharedOperationPieces.{grew_on, mute_grew, release_goes, release_tells, reach_goes, release_ends}
use Rattle.outcome_ticks.proofs.SendingExplained.{send_goes}
use Rattle.outcome_ticks.proofs.SilentAttemptSteps.{call_goes, expire_goes, join_goes}
use Rattle.std.proofs.lemmas.Bool.{true≢false}

-- ## What is held

-- under the name something is held where its last `hold` was answered `held`
abbrev HeldAt : ℕ → List Done → List HeldLife → Bool → Type 0
HeldAt n done held false = held_under n held ≡ None
HeldAt n done held true = (LastHold n (λ outcome. outcome ≢ Held) done × (held_under n held ≡ None)) ⊎ (LastHold n (λ outcome. outcome ≡ Held) done × ((id : ℕ) × (held_under n held ≡ Some id)))

held_skip : (n : ℕ) (d : Done) (done : List Done) (held : List HeldLife) (b : Bool) → d.task.op ≢ ops.Hold n → HeldAt n done held b → HeldAt n (d ∷ done) held b
held_skip n d done held false ne h = h
held_skip n d done held true ne (inl h) = inl (inr (ne, h.0), h.1)
held_skip n d done held true ne (inr h) = inr (inr (ne, h.0), h.1)

-- what is held under the name is the same
held_same : (n : ℕ) (done : List Done) (old new : List HeldLife) (b : Bool) → held_under n new ≡ held_under n old → HeldAt n done old b → HeldAt n done new b
held_same n done old new false e h = e ∙ h
held_same n done old new true e (inl h) = inl (h.0, e ∙ h.1)
held_same n done old new true e (inr h) = inr (h.0, (h.1.0, e ∙ h.1.1))

more_same : (n : ℕ) (hs : List HeldLife) (r : HeldLife) → r.name ≢ n → held_under n (hs ++ r ∷ []) ≡ held_under n hs
more_same n [] r ne = ap (λ z. cond {A = Option ℕ} z (Some r.id) None) (ne_eqb r.name n ne)
more_same n (h ∷ hs) r ne = ap (λ z. cond {A = Option ℕ} (eqb h.name n) (Some h.id) z) (more_same n hs r ne)

more_here : (n : ℕ) (hs : List HeldLife) (r : HeldLife) → r.name ≡ n → held_under n hs ≡ None → held_under n (hs ++ r ∷ []) ≡ Some r.id
more_here n [] r e h = ap (λ z. cond {A = Option ℕ} z (Some r.id) None) (eq-eqb r.name n e)
more_here n (x ∷ hs) r e h = dite (ℕ_discrete x.name n)
    (λ same. let q = eq-eqb x.name n same in let a : Some x.id ≡ None = subst (λ z. cond {A = Option ℕ} z (Some x.id) (held_under n hs) ≡ None) q h in absurd (cc))
    (λ ne. let q = ne_eqb x.name n ne in let a : held_under n hs ≡ None = subst (λ z. cond {A = Option ℕ} z (Some x.id) (held_under n hs) ≡ None) q h in
    ap (λ z. cond {A = Option ℕ} z (Some x.id) (held_under n (hs ++ r ∷ []))) q ∙ more_here n hs r e a)

less_same : (n m : ℕ) (hs : List HeldLife) → m ≢ n → held_under n (without_name m hs) ≡ held_under n hs
less_same n m [] ne = refl
less_same n m (x ∷ hs) ne = let ih = less_same n m hs ne in dite (ℕ_discrete x.name m)
    (λ same. let q = eq-eqb x.name m same in let r = ne_eqb x.name n (λ e. ne (sym same ∙ e)) in simp (q, r, ih))
    (λ far. let q = ne_eqb x.name m far in simp (q, ih))

less_here : (n : ℕ) (hs : List HeldLife) → held_under n (without_name n hs) ≡ None
less_here n [] = refl
less_here n (x ∷ hs) = let ih = less_here n hs in dite (ℕ_discrete x.name n)
    (λ same. let q = eq-eqb x.name n same in simp (q, ih))
    (λ far. let q = ne_eqb x.name n far in simp (q, ih))

-- ## One operation

give_back_ends : (slots requests : ℕ) (calls : ℕ → Type 0) (broken : List ℕ) (done : List Done) (hs : List HeldLife) → Explains slots requests calls broken done [] [] (give_back hs)
give_back_ends slots requests calls broken done [] = refl
give_back_ends slots requests calls broken done (h ∷ hs) = release_ends slots requests calls broken done [] (λ _. give_back hs) (λ b. give_back_ends slots requests calls broken done hs) (socket_id_slot h.id)

module _ (slots requests : ℕ) (calls : ℕ → Type 0) (broken : List ℕ) (done : List Done) (number : ℕ) (ts : List Task) where
  abbrev task : Op → Task
  task op = record { number = number; op = op }

  abbrev behind : Op → Option Outcome → List Done
  behind op outcome = (record { task = task op; outcome = outcome }) ∷ done

  abbrev Goes : Op → List Entry → Program → Type 0
  Goes op trace program = Explains slots requests calls broken done trace (task op ∷ ts) program

  -- what follows explains itself behind each outcome
  abbrev Next : Op → Program → Type 0
  Next op next = (outcome : Outcome) → Explains slots requests calls broken (behind op (Some outcome)) [] ts next

  open_goes : (name k : ℕ) (next : Program) → Next (ops.Open name k) next
      → (more i : ℕ) (trace : List Entry) → i + more ≡ slots → ((j : ℕ) → j < i → (found : ℕ) × In (step (OnSlot (ClaimSlot j)) found) trace × (found ≢ 0)) → swapped trace ≡ false
      → ((outcome : Option Outcome) → AllByRecursion (Tells (ops.Open name k) outcome) trace)
      → Goes (ops.Open name k) trace (open_from more i number name k next)
  open_goes name k next then_ zero i trace e claims first tells =
      (tt, λ a. (tt, λ b. (tt, λ c. (tt, λ d. inl (refl, ((λ j l. let x = claims j (omega arith) in (x.0, inr (inr (inr (inr x.1))), x.2)), first), (tt, (tt, (tt, (tt, tells (Some SlotsFull))))), then_ SlotsFull)))))
  open_goes name k next then_ (suc more) i trace e claims first tells = (
    tt,
    λ found. split_eq found 0 (make_socket number name k i next) (open_from more (i + 1) number name k next)
        (Goes (ops.Open name k) (step (OnSlot (ClaimSlot i)) found ∷ trace))
        (λ zero_. (
          tt,
          λ a. (
            tt,
            λ b. (
              tt,
              λ c. (
                (name, refl),
                λ word. (
                  tt,
                  λ d. (
                    (k, i, word, refl, inr (inl refl), refl),
                    λ x. let made : Outcome = Opened i (vref_version word) k in
                        inl (refl, ((refl, word, x, inr (inr (inl refl)), refl, inl refl), first), (tt, (tt, (refl, (tt, (tt, (tt, (tt, tells (Some made)))))))), then_ made),
                  ),
                ),
              ),
            ),
          ),
        ))
        (λ some_. open_goes name k next then_ more (i + 1) (step (OnSlot (ClaimSlot i)) found ∷ trace) (omega arith)
        (λ j l. dite (ℕ_discrete j i) (λ same. (found, inl (ap (λ z. step (OnSlot (ClaimSlot z)) found) same), some_)) (λ far. let x = claims j (omega arith) in (x.0, inr x.1, x.2)))
        first (λ o. (tt, tells o))),
  )

  fail_goes : (name code : ℕ) (next : Program) → Next (ops.Fail name code) next → Goes (ops.Fail name code) [] (fail number name code next)
  fail_goes name code next then_ = reach_goes slots requests calls broken done (task (ops.Fail name code)) ts name (Say number Unopened next)
      (λ id. set_failed id code (λ found. release (socket_id_slot id) (λ _. Say number (fail_outcome found) next)))
      (λ found. Say number (Gone (record { 0 = found })) next)
      (inl (refl, (inl refl, refl), (tt, tt), then_ Unopened))
      held
      (λ id found tr ne grew. inl (refl, ((id, grew.has (step (OnName (LoadName name)) (id + 1)) (inr (inl refl)), grew.has (step (OnSlot (AddRef id)) found) (inl refl), ne), grew.swap), grew.tells (Some (Gone (record { 0 = found }))) (tt, (tt, tt)), then_ (Gone (record { 0 = found }))))
    where
      trace3 : ℕ → ℕ → ℕ → List Entry
      trace3 id f found = step (OnSlot (SetOdd (socket_id_slot id))) found ∷ step (OnSlot (AddRef id)) f ∷ step (OnName (LoadName name)) (id + 1) ∷ []

      says : (id f found : ℕ) (tr : List Entry) → Grew (ops.Fail name code) (trace3 id f found) tr → Goes (ops.Fail name code) tr (Say number (fail_outcome found) next)
      says id f found tr grew = let at = grew.has (step (OnSlot (SetOdd (socket_id_slot id))) found) (inl refl) in
          let P : Outcome → Type 0 = λ o. Because slots requests done tr (ops.Fail name code) o in inl (
            refl,
            (split_eq (vref_version found % 2) 0 Failed (Already (record { 0 = found })) P (λ even. (socket_id_slot id, found, at, even)) (λ odd. (socket_id_slot id, at, omega arith)), grew.swap),
            grew.tells (Some (fail_outcome found)) (refl, (tt, (tt, tt))),
            then_ (fail_outcome found),
          )

      held : (id f : ℕ) → vref_version f ≡ socket_id_version id
          → Goes (ops.Fail name code) (step (OnSlot (AddRef id)) f ∷ step (OnName (LoadName name)) (id + 1) ∷ []) (set_failed id code (λ found. release (socket_id_slot id) (λ _. Say number (fail_outcome found) next)))
      held id f e = (
        inl (name, code, id, f, refl, refl, e, refl),
        λ found. let after : Program = release (socket_id_slot id) (λ _. Say number (fail_outcome found) next) in let i : ℕ = socket_id_slot id in let v : ℕ = socket_id_version id in
            split_eq (vref_version found % 2) 0 (Do (OnSlot (StoreCode i v code)) (λ _. Do (OnSlot (SubRef i)) (λ _. after))) after (Goes (ops.Fail name code) (trace3 id f found))
            (λ even. (
              tt,
              λ a. (
                tt,
                λ b. let one : List Entry = step (OnSlot (StoreCode i v code)) a ∷ trace3 id f found in let two : List Entry = step (OnSlot (SubRef i)) b ∷ one in
                    let g = grew_on (ops.Fail name code) (trace3 id f found) one two (mute_grew (ops.Fail name code) (trace3 id f found) (OnSlot (StoreCode i v code)) a tt) (mute_grew (ops.Fail name code) one (OnSlot (SubRef i)) b tt) in
                    release_goes slots requests calls broken done (task (ops.Fail name code)) ts two (λ _. Say number (fail_outcome found) next)
                    (λ _ tr more. says id f found tr (grew_on (ops.Fail name code) (trace3 id f found) two tr g more)) i,
              ),
            ))
            (λ odd. release_goes slots requests calls broken done (task (ops.Fail name code)) ts (trace3 id f found) (λ _. Say number (fail_outcome found) next) (λ _ tr g. says id f found tr g) i),
      )

module _ (slots requests : ℕ) (calls : ℕ → Type 0) (done : List Done) (number : ℕ) (ts : List Task) (b : ℕ → Bool) (held : List HeldLife) (wells : (n : ℕ) → HeldAt n done held (b n)) (slots_next : List HeldLife → Program) where
  abbrev task_of : Op → Task
  task_of op = record { number = number; op = op }

  abbrev done_with : Op → Option Outcome → List Done
  done_with op outcome = (record { task = task_of op; outcome = outcome }) ∷ done

  -- what follows explains itself behind each outcome that goes with what is held
  abbrev Follows : Op → Type 0
  Follows op = (outcome : Option Outcome) (broken : List ℕ) (held' : List HeldLife) → ((n : ℕ) → HeldAt n (done_with op outcome) held' (in_hand_behind n op (b n)))
      → Explains slots requests calls broken (done_with op outcome) [] ts (slots_next held')

  unheld_wells : (name : ℕ) (outcome : Outcome) → b name ≡ false → outcome ≢ Held → (n : ℕ) → HeldAt n (done_with (ops.Hold name) (Some outcome)) held (in_hand_behind n (ops.Hold name) (b n))
  unheld_wells name outcome free ne n = split_eq name n true (b n) (HeldAt n (done_with (ops.Hold name) (Some outcome)) held)
      (λ e. let w : held_under name held ≡ None = subst (HeldAt name done held) free (wells name) in inl (inl (ap (λ z. ops.Hold z) e, outcome, refl, ne), subst (λ z. held_under z held ≡ None) e w))
      (λ far. held_skip n (record { task = task_of (ops.Hold name); outcome = Some outcome }) done held (b n) (λ q. far (cc)) (wells n))

  held_wells : (name id : ℕ) → b name ≡ false → (n : ℕ) → HeldAt n (done_with (ops.Hold name) (Some Held)) (held ++ (record { name = name; id = id }) ∷ []) (in_hand_behind n (ops.Hold name) (b n))
  held_wells name id free n = let r : HeldLife = record { name = name; id = id } in split_eq name n true (b n) (HeldAt n (done_with (ops.Hold name) (Some Held)) (held ++ r ∷ []))
      (λ e. let w : held_under name held ≡ None = subst (HeldAt name done held) free (wells name) in inr (inl (ap (λ z. ops.Hold z) e, Held, refl, refl), (id, more_here n held r e (subst (λ z. held_under z held ≡ None) e w))))
      (λ far. held_skip n (record { task = task_of (ops.Hold name); outcome = Some Held }) done (held ++ r ∷ []) (b n) (λ q. far (cc)) (held_same n done held (held ++ r ∷ []) (b n) (more_same n held r far) (wells n)))

  drop_wells : (name : ℕ) (outcome : Outcome) (n : ℕ) → HeldAt n (done_with (ops.Drop name) (Some outcome)) (without_name name held) (in_hand_behind n (ops.Drop name) (b n))
  drop_wells name outcome n = split_eq name n false (b n) (HeldAt n (done_with (ops.Drop name) (Some outcome)) (without_name name held))
      (λ e. subst (λ z. held_under n (without_name z held) ≡ None) (sym e) (less_here n held))
      (λ far. held_skip n (record { task = task_of (ops.Drop name); outcome = Some outcome }) done (without_name name held) (b n) (λ q. absurd (cc)) (held_same n done held (without_name name held) (b n) (less_same n name held far) (wells n)))

  module _ (broken : List ℕ) where
    hold_goes : (name : ℕ) → b name ≡ false → Follows (ops.Hold name)
        → Explains slots requests calls broken done [] (task_of (ops.Hold name) ∷ ts) (hold number name (λ id. slots_next (held ++ (record { name = name; id = id }) ∷ [])) (slots_next held))
    hold_goes name free follows = reach_goes slots requests calls broken done (task_of (ops.Hold name)) ts name (Say number Unopened (slots_next held))
        (λ id. Say number Held (slots_next (held ++ (record { name = name; id = id }) ∷ [])))
        (λ found. Say number (Gone (record { 0 = found })) (slots_next held))
        (inl (refl, (inl refl, refl), (tt, tt), follows (Some Unopened) broken held (unheld_wells name Unopened free (λ q. absurd (cc)))))
        (λ id found e. inl (refl, ((id, inr (inl refl)), refl), (tt, (tt, tt)), follows (Some Held) broken (held ++ (record { name = name; id = id }) ∷ []) (held_wells name id free)))
        (λ id found tr ne grew. inl (
          refl,
          ((id, grew.has (step (OnName (LoadName name)) (id + 1)) (inr (inl refl)), grew.has (step (OnSlot (AddRef id)) found) (inl refl), ne), grew.swap),
          grew.tells (Some (Gone (record { 0 = found }))) (tt, (tt, tt)),
          follows (Some (Gone (record { 0 = found }))) broken held (unheld_wells name (Gone (record { 0 = found })) free (λ q. absurd (cc))),
        ))

    drop_goes : (name : ℕ) → b name ≡ true → Follows (ops.Drop name)
        → Explains slots requests calls broken done [] (task_of (ops.Drop name) ∷ ts) (drop_of number (held_under name held) (slots_next (without_name name held)))
    drop_goes name there follows = ⊎_elim
        (λ w. subst (λ z. Explains slots requests calls broken done [] (task_of (ops.Drop name) ∷ ts) (drop_of number z (slots_next (without_name name held)))) (sym w.1)
        (inl (refl, (w.0, refl), tt, follows (Some NotHeld) broken (without_name name held) (drop_wells name NotHeld))))
        (λ w. subst (λ z. Explains slots requests calls broken done [] (task_of (ops.Drop name) ∷ ts) (drop_of number z (slots_next (without_name name held)))) (sym w.1.1)
        (release_tells slots requests calls broken done (task_of (ops.Drop name)) ts (λ freed. Say number (if freed then Freed else Kept) (slots_next (without_name name held)))
        (λ tr grew won. inl (refl, ((w.0, won), grew.swap), grew.tells (Some Freed) tt, follows (Some Freed) broken (without_name name held) (drop_wells name Freed)))
        (λ tr grew gave none_. inl (refl, ((w.0, gave, none_), grew.swap), grew.tells (Some Kept) tt, follows (Some Kept) broken (without_name name held) (drop_wells name Kept)))
        (socket_id_slot w.1.0)))
        (subst (HeldAt name done held) there (wells name))

    -- an operation that may come here
    operation_goes : (ids : ℕ) (op : Op) → is_plain op ≡ true → ((n : ℕ) → goes_well n op (b n) ≡ true) → Follows op → Explains slots requests calls broken done [] (task_of op ∷ ts) (operation (record { slots = slots; requests = requests; ids = ids }) held number slots_next op)
    operation_goes ids (ops.Open name k) plain well follows = open_goes slots requests calls broken done number ts name k (slots_next held)
        (λ outcome. follows (Some outcome) broken held (λ n. held_skip n (record { task = task_of (ops.Open name k); outcome = Some outcome }) done held (b n) (λ q. absurd (cc)) (wells n)))
        slots 0 [] (omega arith) (λ j l. absurd (omega arith)) refl (λ o. tt)
    operation_goes ids (ops.Send name bytes) plain well follows = send_goes slots requests calls done (task_of (ops.Send name bytes)) ts name bytes refl (slots_next held)
        (λ outcome others. follows outcome others held (λ n. held_skip n (record { task = task_of (ops.Send name bytes); outcome = outcome }) done held (b n) (λ q. absurd (cc)) (wells n))) broken
    operation_goes ids (ops.Hold name) plain well follows = hold_goes name (none_of (b name) (subst (λ z. cond z (not (b name)) true ≡ true) (eq-eqb name name refl) (well name))) follows
    operation_goes ids (ops.Drop name) plain well follows = drop_goes name (subst (λ z. cond z (b name) true ≡ true) (eq-eqb name name refl) (well name)) follows
    operation_goes ids (ops.Fail name code) plain well follows = fail_goes slots requests calls broken done number ts name code (slots_next held)
        (λ outcome. follows (Some outcome) broken held (λ n. held_skip n (record { task = task_of (ops.Fail name code); outcome = Some outcome }) done held (b n) (λ q. absurd (cc)) (wells n)))
    operation_goes ids _ plain well follows = absurd (true≢false (sym plain))

-- ## All operations

-- what a task says of calls
abbrev pub SaysOf : (ℕ → Type 0) → ℕ → Op → Type 0
SaysOf calls o (ops.Call asked) = calls asked.operation
SaysOf calls o (ops.Expire t) = calls o
SaysOf calls o (ops.Join t) = calls o
SaysOf calls o other = Unit {0}

module _ (slots requests ids : ℕ) (calls : ℕ → Type 0) where
  abbrev sizes : Sizes
  sizes = record { slots = slots; requests = requests; ids = ids }

  -- where the tasks go on, they do so behind an operation on calls
  from_beside : (ts : List Task) (held : List HeldLife) (broken : List ℕ) (done : List Done) (todo : List Task) → ExplainsBy slots requests calls Own broken done [] todo (client_from sizes held ts)
      → (trace : List Entry) → ExplainsBy slots requests calls Beside broken done trace todo (client_from sizes held ts)
  from_beside [] held broken done todo x trace = (tt, x.1)
  from_beside (t ∷ ts) held broken done todo x trace = (tt, x.1)

  explains_from : (ts : List Task) (done : List Done) (held : List HeldLife) (b : ℕ → Bool) → ((n : ℕ) → HeldAt n done held (b n)) → ((n : ℕ) → alternate n (b n) ts ≡ true) → AllByRecursion (λ (t : Task). SaysOf calls t.number t.op) ts
      → (broken : List ℕ) → Explains slots requests calls broken done [] (plain_tasks ts) (client_from sizes held ts)
  explains_from [] done held b wells alt says broken = (refl, (Own, tt, give_back_ends slots requests calls broken done held))
  explains_from (t ∷ ts) done held b wells alt says broken = by_op t.op (λ n. both_left (goes_well n t.op (b n)) (alternate n (in_hand_behind n t.op (b n)) ts) (alt n)) says.0
      (λ outcome others held' wells'. explains_from ts (record { task = t; outcome = outcome } ∷ done) held' (λ n. in_hand_behind n t.op (b n)) wells' (λ n. both_right (goes_well n t.op (b n)) (alternate n (in_hand_behind n t.op (b n)) ts) (alt n)) says.1 others)
      (λ same others. explains_from ts done held (λ n. in_hand_behind n t.op (b n)) (λ n. subst (HeldAt n done held) (sym (same n)) (wells n)) (λ n. both_right (goes_well n t.op (b n)) (alternate n (in_hand_behind n t.op (b n)) ts) (alt n)) says.1 others)
    where
      -- an operation of the tasks, and one on calls
      by_op : (op : Op) → ((n : ℕ) → goes_well n op (b n) ≡ true) → SaysOf calls t.number op
          → ((outcome : Option Outcome) (others : List ℕ) (held' : List HeldLife) → ((n : ℕ) → HeldAt n (record { task = record { number = t.number; op = op }; outcome = outcome } ∷ done) held' (in_hand_behind n op (b n)))
          → Explains slots requests calls others (record { task = record { number = t.number; op = op }; outcome = outcome } ∷ done) [] (plain_tasks ts) (client_from sizes held' ts))
          → (((n : ℕ) → in_hand_behind n op (b n) ≡ b n) → (others : List ℕ) → Explains slots requests calls others done [] (plain_tasks ts) (client_from sizes held ts))
          → Explains slots requests calls broken done [] (plain_tasks (record { number = t.number; op = op } ∷ ts)) (client_from sizes held (record { number = t.number; op = op } ∷ ts))
      by_op (ops.Open name k) well is follows skips = (refl, (Own, tt, operation_goes slots requests calls done t.number (plain_tasks ts) b held wells (λ held'. client_from sizes held' ts) broken ids (ops.Open name k) refl well follows))
      by_op (ops.Send name bytes) well is follows skips = (refl, (Own, tt, operation_goes slots requests calls done t.number (plain_tasks ts) b held wells (λ held'. client_from sizes held' ts) broken ids (ops.Send name bytes) refl well follows))
      by_op (ops.Hold name) well is follows skips = (refl, (Own, tt, operation_goes slots requests calls done t.number (plain_tasks ts) b held wells (λ held'. client_from sizes held' ts) broken ids (ops.Hold name) refl well follows))
      by_op (ops.Drop name) well is follows skips = (refl, (Own, tt, operation_goes slots requests calls done t.number (plain_tasks ts) b held wells (λ held'. client_from sizes held' ts) broken ids (ops.Drop name) refl well follows))
      by_op (ops.Fail name code) well is follows skips = (refl, (Own, tt, operation_goes slots requests calls done t.number (plain_tasks ts) b held wells (λ held'. client_from sizes held' ts) broken ids (ops.Fail name code) refl well follows))
      by_op (ops.Call asked) well is follows skips = let next : Program = client_from sizes held ts in
          (refl, (Beside, tt, call_goes slots requests calls done (plain_tasks ts) next broken (λ others within tr. from_beside ts held others done (plain_tasks ts) (skips (λ n. refl) others) tr) requests ids asked is []))
      by_op (ops.Expire o) well is follows skips = let next : Program = client_from sizes held ts in
          (refl, (Beside, tt, expire_goes slots requests calls done (plain_tasks ts) next broken (λ others within tr. from_beside ts held others done (plain_tasks ts) (skips (λ n. refl) others) tr) t.number o is []))
      by_op (ops.Join o) well is follows skips = let next : Program = client_from sizes held ts in
          (refl, (Beside, tt, join_goes slots requests calls done (plain_tasks ts) next broken (λ others within tr. from_beside ts held others done (plain_tasks ts) (skips (λ n. refl) others) tr) t.number o is []))

  -- the program of a client whose holds and drops alternate explains each outcome that it says of a task, and else speaks of calls
  pub client_explains : (ts : List Task) → ((n : ℕ) → alternate n false ts ≡ true) → AllByRecursion (λ (t : Task). SaysOf calls t.number t.op) ts → (broken : List ℕ) → Explains slots requests calls broken [] [] (plain_tasks ts) (client_from sizes [] ts)
  client_explains ts alt says broken = explains_from ts [] [] (λ n. false) (λ n. refl) alt says broken
