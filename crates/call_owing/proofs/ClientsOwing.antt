-- Whole clients, and the ending, do what they owe.
use Rattle.std.proofs.Common.{◌≡◌, ℕ, zero, suc, ◌+◌, ◌-◌, ◌/◌, ◌%◌, ◌==◌, Bool, true, false, cond, List, [], ◌∷◌, ◌++◌, Option, Some, None, refl, sym, ◌∙◌}
use Rattle.sock_words.specs.declared.outcome.Outcome.TheVariants as outcomes
use Rattle.sock_words.specs.PackedWords.{socket_id_slot, vref_version, NO_SOCKET}
use Rattle.seat_programs.specs.declared.task.Op.{Op}
use Rattle.seat_programs.specs.declared.task.Op.TheVariants as ops
use Rattle.seat_programs.specs.declared.task.Task.{Task}
use Rattle.seat_programs.specs.declared.task.Sizes.{Sizes}
use Rattle.seat_programs.specs.Programs.{Program, Say, Sent, Retries, release, add_reference, find_socket, set_failed, make_socket, open_from, fail_outcome, fail}
use Rattle.seat_programs.specs.SendAndWritePrograms.{accept, heading_of, claim_from, start, send}
use Rattle.seat_programs.specs.ClientProgram.{HeldLife, held_under, without_name, give_back, drop_of, operation, client_from, ending_of}
use Rattle.call_owing.specs.Owing.{Owing, Free, with_keeps, stays}
use Rattle.call_owing.specs.Owes.{Further, FoundFailed, OwesOn}
use Rattle.call_owing.proofs.PostsAndDecisionsOwed.{way}
use Rattle.call_owing.proofs.OwingPrograms.{IsClear, clear_on, release_goes, address_goes, set_failed_goes, accept_goes, call_goes, expire_goes, join_goes}

-- a client that owes nothing, whether it may keep retries or not; it has no link to read
abbrev pub IsCalm : Owing → Type 0
IsCalm u = (u.duty ≡ Free) × (u.left ≡ []) × (u.link ≡ [])

abbrev pub IsClient : Owing → Type 0
IsClient u = IsClear u × (u.left ≡ []) × (u.link ≡ [])

pub client_on : (u v : Owing) → IsClient u → Further u v → IsClient v
client_on u v c f = (clear_on u v c.0 f, f.left ∙ c.1, f.link ∙ c.2)

calm_of : (u : Owing) → IsClient u → IsCalm u
calm_of u c = (c.0.0, c.1, c.2)

calm_on : (u v : Owing) → IsCalm u → Further u v → IsCalm v
calm_on u v c f = (f.duty ∙ c.0, f.left ∙ c.1, f.link ∙ c.2)

-- who has no link finds none failed
pub no_link : (life : ℕ → Option ℕ) (u : Owing) → u.link ≡ [] → FoundFailed life u
no_link life u none_ k s e lives = let z : [] ≡ k ∷ [] = sym none_ ∙ e in absurd cc

-- an operation that waits for others
abbrev pub is_join : Op → Bool
is_join (ops.Join t) = true
is_join _ = false

module _ (life : ℕ → Option ℕ) where
  abbrev Goes : Owing → Program → Type 0
  Goes u x = OwesOn life u x

  abbrev Clearly : Program → Type 0
  Clearly x = (v : Owing) → IsClient v → OwesOn life v x

  on : (u : Owing) (x : Program) → IsClient u → Clearly x → (v : Owing) → Further u v → OwesOn life v x
  on u x c goes v f = goes v (client_on u v c f)

  open_goes : (u : Owing) (more i o name k : ℕ) (next : Program) → Goes u next → Goes u (open_from more i o name k next)
  open_goes u zero i o name k next goes = (tt, λ _ _. (u, stays refl, (tt, λ _ _. (u, stays refl, (tt, λ _ _. (u, stays refl, (tt, λ _ _. (u, stays refl, goes))))))))
  open_goes u (suc more) i o name k next goes = (
    tt,
    λ found _. (
      u,
      stays refl,
      way life u (found == 0) (make_socket o name k i next) (open_from more (i + 1) o name k next)
          (λ _. (tt, λ _ _. (u, stays refl, (tt, λ _ _. (u, stays refl, (tt, λ _ _. (u, stays refl, (tt, λ _ _. (u, stays refl, (tt, λ _ _. (u, stays refl, (tt, λ _ _. (u, stays refl, goes)))))))))))))
          (λ _. open_goes u more (i + 1) o name k next goes),
    ),
  )

  reach_goes : (u : Owing) (name : ℕ) (unopened : Program) (held : ℕ → Program) (gone : ℕ → Program) → Goes u unopened → ((id : ℕ) → Goes u (held id)) → ((found : ℕ) → Goes u (gone found)) → Goes u (find_socket name unopened held gone)
  reach_goes u name unopened held gone none_ one others = (tt, λ word _. (u, stays refl, way life u (word == 0) unopened (add_reference (word - 1) (held (word - 1)) gone) (λ _. none_) (λ _. address_goes life u (word - 1) (held (word - 1)) gone (one (word - 1)) others)))

  claim_goes : (u : Owing) (more r o id : ℕ) (bytes : List ℕ) (next : Program) → IsClient u → Clearly next → Goes u (claim_from more r o id bytes next)
  claim_goes u zero r o id bytes next c goes = release_goes life u (socket_id_slot id) (λ _. Say o outcomes.Full next) (λ _. goes u c)
  claim_goes u (suc more) r o id bytes next c goes = (
    tt,
    λ found _. (
      u,
      stays refl,
      way life u (found % 2 == 0) (accept id r (found / 2) (heading_of o) bytes (release (socket_id_slot id) (λ _. Sent o next))) (claim_from more (r + 1) o id bytes next)
          (λ _. accept_goes life u id r (found / 2) (heading_of o) bytes (release (socket_id_slot id) (λ _. Sent o next)) c.0 (λ z. absurd (z refl)) (λ v f. release_goes life v (socket_id_slot id) (λ _. Sent o next) (λ _. goes v (client_on u v c f))))
          (λ _. claim_goes u more (r + 1) o id bytes next c goes),
    ),
  )

  send_goes : (u : Owing) (requests o name : ℕ) (bytes : List ℕ) (next : Program) → IsClient u → Clearly next → Goes u (send requests o name bytes next)
  send_goes u requests o name bytes next c goes = reach_goes u name (Say o outcomes.Unopened next) (λ id. start requests o id bytes next) (λ found. Say o (outcomes.Gone (record { 0 = found })) next) (goes u c)
      (λ id. (
        tt,
        λ found _. (
          u,
          stays refl,
          way life u (vref_version found % 2 == 0) (claim_from requests 0 o id bytes next) (release (socket_id_slot id) (λ _. Say o (outcomes.Gone (record { 0 = found })) next))
              (λ _. claim_goes u requests 0 o id bytes next c goes) (λ _. release_goes life u (socket_id_slot id) (λ _. Say o (outcomes.Gone (record { 0 = found })) next) (λ _. goes u c)),
        ),
      ))
      (λ found. goes u c)

  fail_goes : (u : Owing) (o name code : ℕ) (next : Program) → Goes u next → Goes u (fail o name code next)
  fail_goes u o name code next goes = reach_goes u name (Say o outcomes.Unopened next) (λ id. set_failed id code (λ found. release (socket_id_slot id) (λ _. Say o (fail_outcome found) next))) (λ found. Say o (outcomes.Gone (record { 0 = found })) next) goes
      (λ id. set_failed_goes life u id code (λ found. release (socket_id_slot id) (λ _. Say o (fail_outcome found) next)) (λ found. release_goes life u (socket_id_slot id) (λ _. Say o (fail_outcome found) next) (λ _. goes)))
      (λ found. goes)

  drop_goes : (u : Owing) (o : ℕ) (h : Option ℕ) (next : Program) → Goes u next → Goes u (drop_of o h next)
  drop_goes u o None next goes = goes
  drop_goes u o (Some id) next goes = release_goes life u (socket_id_slot id) (λ freed. Say o (cond freed outcomes.Freed outcomes.Kept) next) (λ _. goes)

  abbrev Calmly : Program → Type 0
  Calmly x = (v : Owing) → IsCalm v → OwesOn life v x

  clearly : (x : Program) → Calmly x → Clearly x
  clearly x goes v c = goes v (calm_of v c)

  -- it keeps retries, but for a join
  operation_goes : (sizes : Sizes) (held : List HeldLife) (o : ℕ) (next : List HeldLife → Program) (op : Op) → ((hs : List HeldLife) → Calmly (next hs)) → is_join op ≡ false → Clearly (operation sizes held o next op)
  operation_goes sizes held o next (ops.Open name k) goes other u c = open_goes u sizes.slots 0 o name k (next held) (goes held u (calm_of u c))
  operation_goes sizes held o next (ops.Send name bytes) goes other u c = send_goes u sizes.requests o name bytes (next held) c (clearly (next held) (goes held))
  operation_goes sizes held o next (ops.Call asked) goes other u c = call_goes life u sizes.requests sizes.ids asked (next held) c.0 (on u (next held) c (clearly (next held) (goes held)))
  operation_goes sizes held o next (ops.Expire t) goes other u c = expire_goes life u o t (next held) c.0 (on u (next held) c (clearly (next held) (goes held)))
  operation_goes sizes held o next (ops.Join t) goes other u c = let z : true ≡ false = other in absurd cc
  operation_goes sizes held o next (ops.Hold name) goes other u c = reach_goes u name (Say o outcomes.Unopened (next held)) (λ id. Say o outcomes.Held (next (held ++ (record { name = name; id = id }) ∷ []))) (λ found. Say o (outcomes.Gone (record { 0 = found })) (next held)) (goes held u (calm_of u c))
      (λ id. goes (held ++ (record { name = name; id = id }) ∷ []) u (calm_of u c)) (λ found. goes held u (calm_of u c))
  operation_goes sizes held o next (ops.Drop name) goes other u c = drop_goes u o (held_under name held) (next (without_name name held)) (goes (without_name name held) u (calm_of u c))
  operation_goes sizes held o next (ops.Fail name code) goes other u c = fail_goes u o name code (next held) (goes held u (calm_of u c))

  give_back_goes : (hs : List HeldLife) (u : Owing) → IsCalm u → u.keeps ≡ false → Goes u (give_back hs)
  give_back_goes [] u c keeps = (c.0, c.1, keeps, no_link life u c.2)
  give_back_goes (h ∷ hs) u c keeps = release_goes life u (socket_id_slot h.id) (λ _. give_back hs) (λ _. give_back_goes hs u c keeps)

  keeping : (sizes : Sizes) (held : List HeldLife) (o : ℕ) (next : List HeldLife → Program) (op : Op) → ((hs : List HeldLife) → Calmly (next hs)) → is_join op ≡ false → Calmly (Retries sizes.requests (operation sizes held o next op))
  keeping sizes held o next op goes other u c = (c.0, true, λ v f. operation_goes sizes held o next op goes other (with_keeps true v) ((f.duty ∙ c.0, refl), f.left ∙ c.1, f.link ∙ c.2))

  -- one task, behind the retries that waited
  task_goes : (sizes : Sizes) (held : List HeldLife) (o : ℕ) (next : List HeldLife → Program) (op : Op) → ((hs : List HeldLife) → Calmly (next hs)) → Calmly (Retries sizes.requests (operation sizes held o next op))
  task_goes sizes held o next (ops.Join t) goes u c = (c.0, false, λ v f. join_goes life (with_keeps false v) o t (next held) (f.duty ∙ c.0, refl) (f.left ∙ c.1) (λ x h. goes held x (calm_on (with_keeps false v) x (f.duty ∙ c.0, f.left ∙ c.1, f.link ∙ c.2) h)))
  task_goes sizes held o next (ops.Open name k) goes u c = keeping sizes held o next (ops.Open name k) goes refl u c
  task_goes sizes held o next (ops.Send name bytes) goes u c = keeping sizes held o next (ops.Send name bytes) goes refl u c
  task_goes sizes held o next (ops.Call asked) goes u c = keeping sizes held o next (ops.Call asked) goes refl u c
  task_goes sizes held o next (ops.Expire t) goes u c = keeping sizes held o next (ops.Expire t) goes refl u c
  task_goes sizes held o next (ops.Hold name) goes u c = keeping sizes held o next (ops.Hold name) goes refl u c
  task_goes sizes held o next (ops.Drop name) goes u c = keeping sizes held o next (ops.Drop name) goes refl u c
  task_goes sizes held o next (ops.Fail name code) goes u c = keeping sizes held o next (ops.Fail name code) goes refl u c

  pub client_goes : (sizes : Sizes) (held : List HeldLife) (ts : List Task) → Calmly (client_from sizes held ts)
  client_goes sizes held [] u c = (c.0, false, λ v f. give_back_goes held (with_keeps false v) (f.duty ∙ c.0, f.left ∙ c.1, f.link ∙ c.2) refl)
  client_goes sizes held (t ∷ ts) u c = task_goes sizes held t.number (λ held'. client_from sizes held' ts) t.op (λ hs. client_goes sizes hs ts) u c

  -- seat 0 at the ending
  pub ending_goes : (os : List ℕ) (u : Owing) → IsCalm u → u.keeps ≡ false → Goes u (ending_of os)
  ending_goes [] u c keeps = (c.0, c.1, keeps, no_link life u c.2)
  ending_goes (o ∷ os) u c keeps = let goes = ending_goes os u c keeps in (
    tt,
    λ word _. (
      u,
      stays refl,
      way life u (word == 0) (ending_of os) (cond (word == NO_SOCKET) (ending_of os)
          (add_reference (word - 1) (set_failed (word - 1) 1014 (λ _. release (socket_id_slot (word - 1)) (λ _. ending_of os))) (λ _. ending_of os)))
          (λ _. goes)
          (λ _. way life u (word == NO_SOCKET) (ending_of os) (add_reference (word - 1) (set_failed (word - 1) 1014 (λ _. release (socket_id_slot (word - 1)) (λ _. ending_of os))) (λ _. ending_of os))
          (λ _. goes) (λ _. address_goes life u (word - 1) (set_failed (word - 1) 1014 (λ _. release (socket_id_slot (word - 1)) (λ _. ending_of os))) (λ _. ending_of os)
          (set_failed_goes life u (word - 1) 1014 (λ _. release (socket_id_slot (word - 1)) (λ _. ending_of os)) (λ _. release_goes life u (socket_id_slot (word - 1)) (λ _. ending_of os) (λ _. goes))) (λ _. goes))),
    ),
  )
