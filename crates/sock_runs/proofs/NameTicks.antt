-- Steps on the words of names and of operations keep the rule.
use Rattle.std.proofs.Common.{◌≡◌, ◌≢◌, ℕ, ◌+◌, ◌-◌, ◌*◌, ◌%◌, ◌/◌, ◌<◌, inr, ⊎_elim, Bool, true, false, cond, [], get_or, set, get_or-set_other, get_or-set_same, length-set, refl, sym, ap, ◌∙◌, subst, arith}
use mathlib.Core.Logic.{dite}
use mathlib.Core.Option.{some}
use native.Mathlib.Decide.{ℕ_discrete}
use lib.ListN.{get_elem?}
use Rattle.atomic_table.specs.Table.{State, stepped, keeps}
use Rattle.sock_words.specs.PackedWords.{socket_id_version, socket_id_slot, NO_SOCKET}
use Rattle.sock_words.specs.declared.plain.Plan.{Plan}
use Rattle.sock_model.specs.declared.home.Home.{Home}
use Rattle.sock_model.specs.declared.view.View.{View}
use Rattle.sock_model.specs.declared.view.StoredWord.{StoredWord}
use Rattle.sock_model.specs.MarkWeights.{is_born}
use Rattle.sock_model.specs.SocketTableLayout.{name_index, open_index, head_index}
use Rattle.sock_model.specs.References.{slot_facts, References, Names, Stores, sayers, spare, uses_of}
use Rattle.sock_model.specs.SlotRows.{met, wrote}
use Rattle.sock_model.specs.SocketSlotLaw.{SlotFacts, SlotLaw, live, count}
use Rattle.sock_model.specs.LawfulSockets.{Lawful}
use Rattle.sock_steps.specs.slot_steps.proofs.SlotWeightSums.{total-set, term_le}
use Rattle.sock_steps.specs.slot_steps.proofs.OtherSlotsUntouched.{apart}
use Rattle.sock_steps.specs.slot_steps.proofs.Stored.{noted-else, noted-here}
use Rattle.sock_steps.proofs.Steady.{wrote_steady}
use Rattle.sock_steps.proofs.SlotSteps.{slot_law, idle_law, find_law, store_name_law, store_open_law}
use Rattle.seat_programs.specs.TableSteps.{OnName, StoreName, LoadName, StoreOpen, LoadOpen}
use Rattle.seat_programs.specs.StepsOfNames.{is_id, found_id}
use Rattle.seat_programs.specs.StepTables.{May}
use Rattle.program_steps.proofs.LifeIdWords.{id_some, id_socket}
use Rattle.sock_runs.proofs.SlotTicks.{KeepsWord}
use Rattle.sock_words.specs.Totals.{total}

module _ (p : Plan) (s : State Home View) (o : Lawful (λ home. home) p s) (i : ℕ) (v : View) (at : get_elem? s.views i ≡ some v) where
  -- a load of a word that names a life, or none
  loads : (x : ℕ) → x < 6 * p.slots + p.names + p.operations → ((j : ℕ) → j < p.slots → x ≢ head_index j) → (is_id (get_or s.words x 0) ≡ true → Names p s (get_or s.words x 0))
      → (b : Bool) → is_id (get_or s.words x 0) ≡ b → Lawful (λ home. home) p (stepped s x (get_or s.words x 0) i [] (found_id (get_or s.words x 0) v) keeps)
  loads x low no_head names true is = let found : ℕ = get_or s.words x 0 in let n = names is (id_some found is) in
      subst (λ b. Lawful (λ home. home) p (stepped s x found i [] (cond b (met (socket_id_slot (found - 1)) (socket_id_version (found - 1)) v) v) keeps)) (sym is)
      (find_law (λ home. home) p s o i v at (socket_id_slot (found - 1)) n.0 x (socket_id_version (found - 1)) low no_head n.1)
  loads x low no_head names false is = let found : ℕ = get_or s.words x 0 in
      subst (λ b. Lawful (λ home. home) p (stepped s x found i [] (cond b (met (socket_id_slot (found - 1)) (socket_id_version (found - 1)) v) v) keeps)) (sym is)
      (idle_law (λ home. home) p s o i v at x)

  pub load_names : (n : ℕ) → May p v (OnName (LoadName n)) → KeepsWord p s i v (OnName (LoadName n))
  load_names n may = loads (name_index p n) (omega arith) (λ j jl e. omega arith) (λ _. o.references.named.names n may) (is_id (get_or s.words (name_index p n) 0)) refl

  pub load_opens : (n : ℕ) → May p v (OnName (LoadOpen n)) → KeepsWord p s i v (OnName (LoadOpen n))
  load_opens n may = loads (open_index p n) (omega arith) (λ j jl e. omega arith) (λ b. o.references.named.opens n may (id_socket (get_or s.words (open_index p n) 0) b)) (is_id (get_or s.words (open_index p n) 0)) refl

  pub store_names : (n w : ℕ) → May p v (OnName (StoreName n w)) → KeepsWord p s i v (OnName (StoreName n w))
  store_names n w may = store_name_law (λ home. home) p s o i v at (socket_id_slot (w - 1)) may.2.0 n w may.0 refl may.2.1

  -- an `open` that got no slot
  no_socket_refs : (n : ℕ) → n < p.operations → References p (stepped s (open_index p n) NO_SOCKET i [] (wrote (open_index p n) NO_SOCKET v) keeps)
  no_socket_refs n inside = let x : ℕ = open_index p n in let note : StoredWord = record { place = x; word = NO_SOCKET } in let w : View = wrote x NO_SOCKET v in let t : State Home View = stepped s x NO_SOCKET i [] w keeps in let law = o.references in let sized = law.sized in
      let frame : (z : ℕ) → z < p.slots → slot_facts t z ≡ slot_facts s z = λ z l. apart s i v at [] w keeps x NO_SOCKET z (λ e. omega arith) (λ e. omega arith) (λ e. omega arith) (λ e. omega arith) refl in
      let named : (word : ℕ) → Names p s word → Names p t word = λ word a ne. let r = a ne in (r.0, subst (λ (l : SlotFacts). 0 < count (is_born ((word - 1) / 4294967296)) l) (sym (frame ((word - 1) % 4294967296) r.0)) r.1) in
      let said : (y : ℕ) → x ≢ y → Stores s y → Stores t y = λ y ne a. subst (λ (z : ℕ). z ≢ 0 → 0 < total (sayers y z) t.views) (sym (get_or-set_other s.words x y NO_SOCKET 0 (λ e. ne (sym e))))
      (λ nz. let z : ℕ = get_or s.words y 0 in omega (arith, a nz, total-set (sayers y z) s.views i v w at, noted-else y z note ne v.stores)) in
      let says_this : Stores t x = subst (λ (z : ℕ). z ≢ 0 → 0 < total (sayers x z) t.views) (sym (get_or-set_same s.words x NO_SOCKET 0 (omega arith)))
      (λ nz. omega (arith, total-set (sayers x NO_SOCKET) s.views i v w at, term_le (sayers x NO_SOCKET) s.views i v at, noted-here note v.stores)) in record {
        sized = length-set s.words x NO_SOCKET ∙ sized;
        seat_limit = omega (arith, law.seat_limit, length-set s.views i w, total-set spare s.views i v w at);
        slots = λ z l. subst (λ (y : SlotFacts). SlotLaw p.first (live y) y) (sym (frame z l)) (law.slots z l);
        links = λ k. omega (arith, total-set (uses_of k) s.views i v w at, law.links k);
        named = record {
          names = λ z l. subst (Names p t) (sym (get_or-set_other s.words x (name_index p z) NO_SOCKET 0 (λ e. omega arith))) (named (get_or s.words (name_index p z) 0) (law.named.names z l));
          opens = λ z l. dite (ℕ_discrete z n)
              (λ e. let here : get_or (set s.words x NO_SOCKET) (open_index p z) 0 ≡ NO_SOCKET = ap (λ (y : ℕ). get_or (set s.words x NO_SOCKET) (open_index p y) 0) e ∙ get_or-set_same s.words x NO_SOCKET 0 (omega arith) in λ ne. absurd (ne here))
              (λ far. subst (λ (y : ℕ). y ≢ NO_SOCKET → Names p t y) (sym (get_or-set_other s.words x (open_index p z) NO_SOCKET 0 (λ e. far (omega arith)))) (λ ne. named (get_or s.words (open_index p z) 0) (law.named.opens z l ne)));
          names_by = λ z l. said (name_index p z) (λ e. omega arith) (law.named.names_by z l);
          opens_by = λ z l. dite (ℕ_discrete z n) (λ e. subst (λ (y : ℕ). Stores t (open_index p y)) (sym e) says_this) (λ far. said (open_index p z) (λ e. far (omega arith)) (law.named.opens_by z l));
        };
      }

  pub store_opens : (n w : ℕ) → May p v (OnName (StoreOpen n w)) → KeepsWord p s i v (OnName (StoreOpen n w))
  store_opens n w may = ⊎_elim
      (λ e. subst (λ z. KeepsWord p s i v (OnName (StoreOpen n z))) (sym e) (slot_law (λ home. home) p s o i v at (open_index p n) NO_SOCKET (omega arith) (λ j jl q. omega arith) (wrote (open_index p n) NO_SOCKET v) refl (wrote_steady v (open_index p n) NO_SOCKET) (no_socket_refs n may.0)))
      (λ k. store_open_law (λ home. home) p s o i v at (socket_id_slot (w - 1)) k.1.0 n w may.0 (inr (refl, k.1.1))) may.1
