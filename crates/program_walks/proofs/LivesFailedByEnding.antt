-- The ending sets each life failed that stands in the word of one of its operations.
use Rattle.std.proofs.Common.{◌≡◌, ◌≢◌, ℕ, zero, suc, ◌+◌, ◌-◌, ◌<◌, ◌⊎◌, ◌==◌, cond, eq-eqb, ne_eqb, List, [], ◌∷◌, get_or, sym, ap, ◌∙◌, subst, inl, inr, ⊎_elim, arith}
use mathlib.Core.Logic.{dite}
use mathlib.Core.Option.{some, some-injective, some-ne-none}
use native.Mathlib.Decide.{ℕ_discrete}
use lib.ListN.{get_elem?}
use Rattle.sock_words.specs.PackedWords.{socket_id_version, socket_id_slot, vref_version, NO_SOCKET}
use Rattle.sock_words.specs.declared.plain.Plan.{Plan}
use Rattle.sock_model.specs.SocketTableLayout.{ref_index, open_index}
use Rattle.seat_programs.specs.TableSteps.{TableStep, OnSlot, OnName, AddRef, SetOdd, LoadOpen}
use Rattle.seat_programs.specs.Programs.{Program, Do, add_reference, set_failed, release}
use Rattle.seat_programs.specs.ClientProgram.{ending_of}
use Rattle.seat_programs.specs.StepTables.{word_of}
use Rattle.seat_programs.specs.Cores.{found_at}
use Rattle.sock_runs.specs.program_steps.proofs.AtCalls.{AtCalls, every_exit}
use Rattle.program_walks.proofs.Records.{Records}
use Rattle.program_walks.proofs.Recorded.{nothing}
use Rattle.program_walks.proofs.Through.{Passes, PassesOpens, at_calls_passes, through_any_failed, records_passes, records_opens}
use Rattle.program_walks.proofs.ThroughSends.{through_end, through_ending}

-- ## Programs

-- the program sets the life failed whose word, one more than its id, stands at operation o, unless it finds it failed
abbrev pub FailsAt : ℕ → ℕ → Unit {0} → TableStep → (ℕ → Program) → (Unit {0} → ℕ → Type 0) → Type 0
FailsAt o w s (OnName (LoadOpen n)) next behind = (found : ℕ) → (n ≡ o → found ≡ w) → behind tt found
FailsAt o w s (OnSlot (AddRef id)) next behind = (found : ℕ) → ((id + 1 ≡ w) × (vref_version found ≢ socket_id_version id)) ⊎ behind tt found
FailsAt o w s (OnSlot (SetOdd i)) next behind = (socket_id_slot (w - 1) ≡ i) ⊎ ((found : ℕ) → behind tt found)
FailsAt o w s call next behind = (found : ℕ) → behind tt found

abbrev pub Fails : ℕ → ℕ → Program → Type 0
Fails o w program = AtCalls ⊥ (FailsAt o w) every_exit tt program

fails_on : (o w : ℕ) (call : TableStep) (next : ℕ → Program) → ((found : ℕ) → Fails o w (next found)) → Fails o w (Do call next)
fails_on o w (OnName (LoadOpen n)) next f = λ found e. f found
fails_on o w (OnSlot (AddRef id)) next f = λ found. inr (f found)
fails_on o w (OnSlot (SetOdd i)) next f = inr f
fails_on o w call next f = f

fails_passes : (o w : ℕ) → Passes (Fails o w)
fails_passes o w = at_calls_passes ⊥ (FailsAt o w) every_exit tt (λ call next s b l f. fails_on o w call next f) (λ head l next f. f)

fails_opens : (o w : ℕ) → PassesOpens (Fails o w)
fails_opens o w = record { load = λ n next f found e. f found; wait = λ n next f. f }

-- whoever finds another version than that of the life leaves it, and else holds it
fails_held : (o w id : ℕ) (held gone : Program) → id + 1 ≡ w → Fails o w held → (found : ℕ)
    → ((id + 1 ≡ w) × (vref_version found ≢ socket_id_version id)) ⊎ Fails o w (cond (vref_version found == socket_id_version id) held gone)
fails_held o w id held gone is f found = dite (ℕ_discrete (vref_version found) (socket_id_version id))
    (λ e. inr (subst (λ b. Fails o w (cond b held gone)) (sym (eq-eqb (vref_version found) (socket_id_version id) e)) f))
    (λ far. inl (is, far))

-- an ending that has the operation among its own
fails_ended : (o w : ℕ) → 0 < w → w ≢ NO_SOCKET → (next : Program) → (word : ℕ) → word ≡ w
    → Fails o w (cond (word == 0) next (cond (word == NO_SOCKET) next (add_reference (word - 1) (set_failed (word - 1) 1014 (λ _. release (socket_id_slot (word - 1)) (λ _. next))) (λ _. next))))
fails_ended o w some_ socket next word is = let id : ℕ = word - 1 in let held : Program = set_failed (word - 1) 1014 (λ _. release (socket_id_slot (word - 1)) (λ _. next)) in
    subst (λ b. Fails o w (cond b next (cond (word == NO_SOCKET) next (add_reference id held (λ _. next))))) (sym (ne_eqb word 0 (λ e. omega arith)))
    (subst (λ b. Fails o w (cond b next (add_reference id held (λ _. next)))) (sym (ne_eqb word NO_SOCKET (λ e. socket (sym is ∙ e))))
    (fails_held o w (word - 1) (set_failed (word - 1) 1014 (λ _. release (socket_id_slot (word - 1)) (λ _. next))) (release (socket_id_slot (word - 1)) (λ _. next)) (omega arith) (inl (ap (λ z. socket_id_slot (z - 1)) (sym is)))))

pub fails_ending : (o w : ℕ) → 0 < w → w ≢ NO_SOCKET → (os : List ℕ) (n : ℕ) → get_elem? os n ≡ some o → Fails o w (ending_of os)
fails_ending o w some_ socket [] n at = absurd (some-ne-none o (sym at))
fails_ending o w some_ socket (m ∷ os) zero at = λ word is. fails_ended o w some_ socket (ending_of os) word (is (some-injective m o at))
fails_ending o w some_ socket (m ∷ os) (suc n) at = through_end (Fails o w) (fails_passes o w).sends.plain.words (through_any_failed (Fails o w) (fails_passes o w) 1014) (fails_opens o w) m (ending_of os) (fails_ending o w some_ socket os n at)

-- a step of such a program: it finds that the life has gone on, or sets its slot's version odd, or leaves it to what follows
pub what_fails : (p : Plan) (ws : List ℕ) (o w : ℕ) (call : TableStep) (next : ℕ → Program) → get_or ws (open_index p o) 0 ≡ w → Fails o w (Do call next)
    → ((id : ℕ) × (id + 1 ≡ w) × (vref_version (get_or ws (ref_index (socket_id_slot id)) 0) ≢ socket_id_version id)) ⊎ ((call ≡ OnSlot (SetOdd (socket_id_slot (w - 1)))) ⊎ Fails o w (next (found_at ws (word_of p call))))
what_fails p ws o w (OnName (LoadOpen n)) next word f = inr (inr (f (get_or ws (open_index p n) 0) (λ e. ap (λ z. get_or ws (open_index p z) 0) e ∙ word)))
what_fails p ws o w (OnSlot (AddRef id)) next word f = ⊎_elim (λ a. inl (id, a.0, a.1)) (λ g. inr (inr g)) (f (get_or ws (ref_index (socket_id_slot id)) 0))
what_fails p ws o w (OnSlot (SetOdd i)) next word f = ⊎_elim (λ e. inr (inl (ap (λ j. OnSlot (SetOdd j)) (sym e)))) (λ g. inr (inr (g (get_or ws (ref_index i) 0)))) f
what_fails p ws o w call next word f = inr (inr (f (found_at ws (word_of p call))))

pub records_ending : (os : List ℕ) → Records nothing (ending_of os)
records_ending os = through_ending (Records nothing) (records_passes nothing).sends.plain.words (through_any_failed (Records nothing) (records_passes nothing) 1014) (records_opens nothing) tt os
